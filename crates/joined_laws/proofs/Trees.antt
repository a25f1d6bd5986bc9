-- From a sound tree to what the laws on open files ask of it.
use Rattle.std.proofs.Common.{◌≡◌, ◌∙◌, ℕ, ◌-◌, ◌<◌, ◌^◌, Bool, true, List, Option, Some, None, is_some, refl, ap, sym, inl, inr, arith}
use Rattle.std.specs.Option.{option_map}
use Rattle.number_maps.specs.NumberMap.{at}
use Rattle.file_tables.specs.declared.state.Directory.{Directory}
use Rattle.file_tables.specs.declared.state.Node.{Node}
use Rattle.file_tree.specs.Making.{next_inode}
use Rattle.file_tree.specs.declared.state.FileTree.{FileTree}
use Rattle.tree_laws.specs.Sound.{IsSound}
use Rattle.tree_laws.specs.Views.{is_there, lies_in, marked}
use Rattle.tree_laws.proofs.LawsReading.{directory_stands_once, next_inode_is_new}
use Rattle.tree_laws.proofs.LawsRuns.{made_trees_are_sound}
use Rattle.map_lemmas.proofs.Maps.{is_free, one_or_other, vacant}
use Rattle.tree_laws.proofs.Positions.{found_stands}
use Rattle.tree_laws.proofs.Views.{entry_there, holder_of}
use Rattle.sound_files.specs.Sound.{IsFresh}
use Rattle.joined_laws.specs.Whole.{MadeTreesAreWhole, SoundTreesAreWhole}

marked_there : (o : Option Node) (b : Bool) → option_map (λ (n : Node). n.has_name) o ≡ Some b → is_some o ≡ true
marked_there None b h = cc
marked_there (Some n) b h = refl

-- what is marked has a node
node_of : (nodes : List (ℕ × Node)) (i : ℕ) (b : Bool) → marked nodes i ≡ Some b → is_there nodes i ≡ true
unfolding marked
node_of nodes i b h = marked_there (at nodes i) b h

lies : (dirs : List (ℕ × Directory)) (i : ℕ) (d : Directory) → at dirs i ≡ Some d → lies_in dirs i ≡ Some d.parent
unfolding lies_in
lies dirs i d h = ap (λ (o : Option Directory). option_map (λ (x : Directory). x.parent) o) h

lies_there : (o : Option Directory) (z : ℕ) → option_map (λ (x : Directory). x.parent) o ≡ Some z → is_some o ≡ true
lies_there None z h = cc
lies_there (Some d) z h = refl

place_of : (dirs : List (ℕ × Directory)) (i z : ℕ) → lies_in dirs i ≡ Some z → is_there dirs i ≡ true
unfolding lies_in
place_of dirs i z h = lies_there (at dirs i) z h

same_some : {A : Type 0} (x y : A) → Some x ≡ Some y → x ≡ y
same_some x y h = cc

-- the directory that a directory lies in is there: the root's is the root, and each other one's has its name
parent_there : (things : ℕ) (t : FileTree) (place : ℕ) (d : Directory) → IsSound things t → at t.directories place ≡ Some d → is_there t.directories d.parent ≡ true
parent_there things t place d s there = elim (one_or_other place 2) [
  | inl root ↦
      let same : d.parent ≡ 2 = same_some d.parent 2 (sym (lies t.directories place d there) ∙ ap (λ (i : ℕ). lies_in t.directories i) root ∙ s.root) in
      ap (λ (i : ℕ). is_there t.directories i) same ∙ place_of t.directories 2 2 s.root
  | inr other ↦
      let once = directory_stands_once things t place d.parent s (lies t.directories place d there) other in
      ap (λ (o : Option Directory). is_some o) (holder_of t.directories d.parent once.position once.entry once.there).1
]

fresh : (things : ℕ) (t : FileTree) → IsSound things t → things < 2 ^ 31 → IsFresh t (next_inode t)
fresh things t s few =
    let new = next_inode_is_new things t s few in
    let free = is_free t.numbers.image t.numbers.next (2 ^ 63 - t.numbers.next) (next_inode t) new.found in
    record {
      least = omega (arith, s.numbers.least, free.1);
      above = free.1;
      image = vacant (at t.numbers.image (next_inode t)) free.0;
      nodeless = new.unused;
    }

pub sound_trees_are_whole : SoundTreesAreWhole
sound_trees_are_whole things t s few = record {
  whole = record {
    ascend = s.ascend.nodes;
    kinds = s.kinds.some;
    meant = λ place d name e there found.
        let stands = found_stands d.names name e (s.positions place d there).ascend found in
        node_of t.nodes e.1.child true (s.names.meant place e.0 e.1 (entry_there t.directories place e.0 d there ∙ stands.0));
    parents = λ place d there. parent_there things t place d s there;
    root = place_of t.directories 2 2 s.root;
    working = s.working;
    fresh = fresh things t s few;
  };
  sizes = s.sizes;
}

pub made_trees_are_whole : MadeTreesAreWhole
made_trees_are_whole things t made few = sound_trees_are_whole things t (made_trees_are_sound things t made) few
