-- A tree in which a name was moved.
use Rattle.std.proofs.Common.{◌≡◌, ◌≢◌, ◌∙◌, ℕ, ◌+◌, ◌≤◌, Bool, true, false, List, cond, Option, Some, None, is_some, refl, ap, sym, subst, inl, inr, arith}
use Rattle.std.specs.Option.{option_map}
use Rattle.kernel_values.specs.declared.times.TimeSpec.{TimeSpec}
use Rattle.number_maps.specs.NumberMap.{IsAscending, at, removed}
use Rattle.file_tables.specs.Contained.{entered, left}
use Rattle.file_tables.specs.Entries.{named}
use Rattle.file_tables.specs.Nodes.{nameless, touched}
use Rattle.file_tables.specs.Places.{moved_into}
use Rattle.file_tables.specs.declared.state.Directory.{Directory}
use Rattle.file_tables.specs.declared.state.Entry.{Entry}
use Rattle.file_tables.specs.declared.state.InodeNumbers.{InodeNumbers}
use Rattle.file_tables.specs.declared.state.Node.{Node}
use Rattle.file_tree.specs.Making.{with_name}
use Rattle.file_tree.specs.Removing.{unnamed, without_directory, without_name}
use Rattle.file_tree.specs.Renaming.{dropped}
use Rattle.file_tree.specs.declared.state.FileTree.{FileTree}
use Rattle.tree_laws.specs.Sound.{HasSoundNames, IsSound, KindsSound, NumbersSound, PositionsSound, ReachSound, SizesSound, is_name}
use Rattle.tree_laws.specs.Views.{climbed, entry_in, is_there, lies_in, marked}
use Rattle.tree_laws.proofs.Changes.{Gains, Loses, Moved, entered_ascends, entered_gains, entered_positions, gone_entry, gone_entry_apart, gone_lies, gone_lies_apart, into_moved, left_ascends, left_before, left_loses, left_positions, moved_ascends, moved_positions}
use Rattle.tree_laws.proofs.Entries.{Finds, Lacks}
use Rattle.map_lemmas.proofs.Maps.{ascending_removed, not_both, one_or_other, removed_there, same_there, some_there}
use Rattle.tree_laws.proofs.Names.{Moves, move_names}
use Rattle.tree_laws.proofs.NodeKinds.{kinds_stay, nowhere, same_directory, same_node}
use Rattle.tree_laws.proofs.Numbers.{numbers_more, numbers_stay}
use Rattle.tree_laws.proofs.Positions.{Stands, found_by_name, found_stands, positions_removed}
use Rattle.tree_laws.proofs.Reach.{reach_moved, reach_same}
use Rattle.tree_laws.proofs.Views.{directory_there as directory_is, ascending_nameless, ascending_touched, directory_of, entry_there, here_or_else, holder_of, lies_there, marked_gone, marked_nameless, marked_nameless_apart, marked_removed_apart, marked_touched}

-- A tree is another one but for a name that is gone.
pub record Follows (things : ℕ) (s x : FileTree) (q p : ℕ) : Type 0 where
  pub loses : Loses s.directories x.directories q p
  pub dirs_ascend : IsAscending x.directories
  pub nodes_ascend : IsAscending x.nodes
  pub marks : (k : ℕ) → marked x.nodes k ≡ marked s.nodes k
  pub contents : x.contents ≡ s.contents
  pub numbers : x.numbers ≡ s.numbers
  pub working : x.working ≡ s.working
  pub positions : PositionsSound things x.directories
  pub old : (d : Directory) → at x.directories q ≡ Some d → p ≤ d.last

-- no entry of a place has a name
abbrev pub Nowhere : List (ℕ × Directory) → ℕ → List ℕ → Type 0
Nowhere t q n = (r : ℕ) (e : Entry) → entry_in t q r ≡ Some e → e.name ≢ n

missing_case : (things : ℕ) (t : List (ℕ × Directory)) (q : ℕ) (n : List ℕ) (d : Directory) (o : Option (ℕ × Entry)) → named d.names n ≡ o → at t q ≡ Some d → HasSoundNames things d → Nowhere t q n → o ≡ None
missing_case things t q n d None h there sound none = refl
missing_case things t q n d (Some x) h there sound none =
    let stands : Stands d.names n x = found_stands d.names n x sound.ascend h in
    absurd (none x.0 x.1 (entry_there t q x.0 d there ∙ stands.0) stands.1)

pub lacks_there : (things : ℕ) (t : List (ℕ × Directory)) (q z : ℕ) (n : List ℕ) → PositionsSound things t → lies_in t q ≡ Some z → Nowhere t q n → is_name n ≡ true → Lacks t q n
lacks_there things t q z n sound place none plain =
    let d = directory_of t q z place in
    record { dir = d.0; there = d.1; missing = missing_case things t q n d.0 (named d.0.names n) refl d.1 (sound q d.0 d.1) none; plain = plain }

-- ---- the name comes elsewhere
abbrev pub moved_on : FileTree → TimeSpec → ℕ × List ℕ → ℕ → FileTree
moved_on x now m i =
    let a : FileTree = with_name x now m i in
    record a { directories = moved_into a.directories i m.0 }

module _ (things : ℕ) (s x : FileTree) (q p i : ℕ) (f : Entry) (m : ℕ × List ℕ) (now : TimeSpec) (sound : IsSound things s) (stood : entry_in s.directories q p ≡ Some f) (meant : f.child ≡ i)
    (c : Follows things s x q p) (lack : Lacks x.directories m.0 m.1) (out : is_there s.directories i ≡ true → (n : ℕ) → climbed s.directories m.0 n ≢ i) where
  abbrev nodes : List (ℕ × Node)
  nodes = touched x.nodes m.0 now

  abbrev more : List (ℕ × Directory)
  more = entered x.directories m.0 m.1 i

  abbrev dirs : List (ℕ × Directory)
  dirs = moved_into more i m.0

  abbrev new : Entry
  new = record { name = m.1; child = i }

  abbrev at_new : ℕ
  at_new = lack.dir.last + 1

  gains : Gains x.directories more m.0 at_new new
  gains = entered_gains x.directories m.0 m.1 i lack.dir lack.there lack.missing things (c.positions m.0 lack.dir lack.there)

  moves : Moved more dirs i m.0
  moves = into_moved more i m.0

  marks : (k : ℕ) → marked nodes k ≡ marked s.nodes k
  marks k = marked_touched x.nodes m.0 k now ∙ c.marks k

  lies : (k : ℕ) → k ≢ i → lies_in dirs k ≡ lies_in s.directories k
  lies k other = moves.apart k other ∙ (gains.lies k ∙ c.loses.lies k)

  dirs_at : (k : ℕ) → is_there dirs k ≡ is_there s.directories k
  dirs_at k = elim (one_or_other k i) [
    | inl same ↦ subst (λ (j : ℕ). is_there dirs j ≡ is_there s.directories j) (sym same) here
    | inr other ↦ same_directory s.directories dirs k (lies k other)
  ]
    where
      here : is_there dirs i ≡ is_there s.directories i
      here = directory_is dirs i ∙ (moves.there ∙ (ap is_some (gains.lies i ∙ c.loses.lies i) ∙ sym (directory_is s.directories i)))

  not_root : i ≢ 2
  not_root same = sound.names.rootless q p f stood (meant ∙ same)

  -- the new position isn't the old one
  apart : m.0 ≡ q → at_new ≢ p
  apart same place = absurd (let le : p ≤ lack.dir.last = c.old lack.dir (ap (at x.directories) (sym same) ∙ lack.there) in let e : lack.dir.last + 1 ≡ p = place in omega arith)

  name_moves : Moves s.nodes nodes s.directories dirs q p m.0 at_new i f new
  name_moves = record {
    stood = stood;
    meant = meant;
    gone = moves.entries q p ∙ (gains.others q p (λ same place. apart (sym same) (sym place)) ∙ c.loses.gone);
    vacant = sym (c.loses.others m.0 at_new apart) ∙ gains.vacant;
    new = moves.entries m.0 at_new ∙ gains.new;
    means = refl;
    others = λ k r a b. moves.entries k r ∙ (gains.others k r b ∙ c.loses.others k r a);
    marks = marks;
    lies = lies;
    inside = moves.lies;
  }

  reach_case : (b : Bool) → is_there s.directories i ≡ b → ReachSound dirs
  reach_case true there =
      let some : is_some (lies_in dirs i) ≡ true = sym (directory_is dirs i) ∙ (dirs_at i ∙ there) in
      let z = some_there (lies_in dirs i) some in
      reach_moved s.directories dirs i m.0 lack.dir.parent lies (z.1 ∙ ap (λ (y : ℕ). Some y) (moves.lies z.0 z.1)) (sym (c.loses.lies m.0) ∙ lies_there x.directories m.0 lack.dir lack.there) (out there) sound.reach
  reach_case false none = reach_same s.directories dirs all_lie sound.reach
    where
      all_lie : (k : ℕ) → lies_in dirs k ≡ lies_in s.directories k
      all_lie k = elim (one_or_other k i) [
        | inl same ↦ ap (lies_in dirs) same ∙ (nowhere dirs i (dirs_at i ∙ none) ∙ sym (ap (lies_in s.directories) same ∙ nowhere s.directories i none))
        | inr other ↦ lies k other
      ]

  moved_kinds : KindsSound (moved_on x now m i)
  moved_kinds = kinds_stay s (moved_on x now m i) sound.kinds (λ k. record { node = same_node s.nodes nodes k (marks k); directory = dirs_at k; content = ap (λ (t : List (ℕ × List ℕ)). is_there t k) c.contents })

  pub moved_sound : IsSound (things + 1) (moved_on x now m i)
  moved_sound = record {
    ascend = record { nodes = ascending_touched x.nodes m.0 now c.nodes_ascend; directories = moved_ascends i m.0 more (entered_ascends x.directories m.0 m.1 i lack.dir lack.there lack.missing c.dirs_ascend); contents = subst (λ (t : List (ℕ × List ℕ)). IsAscending t) (sym c.contents) sound.ascend.contents };
    kinds = moved_kinds;
    numbers = subst (λ (n : InodeNumbers). NumbersSound (things + 1) n nodes) (sym c.numbers) (numbers_more things (things + 1) s.numbers nodes (omega arith) (numbers_stay things s.numbers s.nodes nodes sound.numbers (λ k h. sym (same_node s.nodes nodes k (marks k)) ∙ h)));
    positions = moved_positions (things + 1) i m.0 more (entered_positions x.directories m.0 m.1 i lack.dir lack.there lack.missing things lack.plain c.positions);
    root = lies 2 (λ same. not_root (sym same)) ∙ sound.root;
    names = move_names s.nodes nodes s.directories dirs q p m.0 at_new i f new name_moves sound.names;
    reach = reach_case (is_there s.directories i) refl;
    sizes = subst (λ (t : List (ℕ × List ℕ)). SizesSound t) (sym c.contents) sound.sizes;
    working = ap (is_there dirs) c.working ∙ (dirs_at s.working ∙ sound.working);
  }

-- ---- the name goes
pub follows_name : (things : ℕ) (s : FileTree) (l : ℕ × List ℕ) (i : ℕ) (now : TimeSpec) (sound : IsSound things s) (f : Finds s.directories l.0 l.1 i) → Follows things s (without_name s now l) l.0 f.entry.0
unfolding without_name
follows_name things s l i now sound f =
    let names : HasSoundNames things f.dir = sound.positions l.0 f.dir f.there in
    let stands : Stands f.dir.names l.1 f.entry = found_stands f.dir.names l.1 f.entry names.ascend f.found in
    record {
      loses = left_loses s.directories l.0 l.1 f.dir f.entry f.there f.found names.ascend;
      dirs_ascend = left_ascends s.directories l.0 l.1 f.dir f.entry f.there f.found sound.ascend.directories;
      nodes_ascend = ascending_touched s.nodes l.0 now sound.ascend.nodes;
      marks = λ k. marked_touched s.nodes l.0 k now;
      contents = refl;
      numbers = refl;
      working = refl;
      positions = left_positions s.directories l.0 l.1 f.dir f.entry f.there f.found things sound.positions;
      old = λ d h. (let b = left_before s.directories l.0 l.1 f.dir f.entry f.there f.found l.0 d h in
          let same : f.dir ≡ b.0 = same_there s.directories l.0 f.dir b.0 f.there b.1 in
          let fits : f.entry.0 ≤ f.dir.last = names.placed f.entry.0 f.entry.1 stands.0 in
          let last : f.dir.last ≡ d.last = ap (λ (y : Directory). y.last) same ∙ sym b.2 in
          omega arith);
    }

-- the name that is found in a tree is found in what follows it
still_found : (things : ℕ) (s x : FileTree) (q p j : ℕ) (m : ℕ × List ℕ) (c : Follows things s x q p) (sound : IsSound things s) (f : Finds s.directories m.0 m.1 j) → (m.0 ≡ q → f.entry.0 ≢ p) → (d : Directory) × (at x.directories m.0 ≡ Some d) × (named d.names m.1 ≡ Some (f.entry.0, f.entry.1))
still_found things s x q p j m c sound f other =
    let names : HasSoundNames things f.dir = sound.positions m.0 f.dir f.there in
    let stands : Stands f.dir.names m.1 f.entry = found_stands f.dir.names m.1 f.entry names.ascend f.found in
    let holder = holder_of x.directories m.0 f.entry.0 f.entry.1 (c.loses.others m.0 f.entry.0 other ∙ (entry_there s.directories m.0 f.entry.0 f.dir f.there ∙ stands.0)) in
    (holder.0, holder.1, subst (λ (n : List ℕ). named holder.0.names n ≡ Some (f.entry.0, f.entry.1)) stands.1 (found_by_name things holder.0 f.entry.0 f.entry.1 (c.positions m.0 holder.0 holder.1) holder.2))

-- both lose another name
loses_both : (t a n b : List (ℕ × Directory)) (q p r v : ℕ) → Loses t a q p → Loses t n r v → Loses a b r v → (q ≡ r → p ≢ v) → Loses n b q p
loses_both t a n b q p r v first left right other = record {
  gone = right.others q p other ∙ first.gone;
  others = λ k y apart. elim (here_or_else k y r v) [
    | inl here ↦ gone_at b k y here.0 here.1 right.gone ∙ sym (gone_at n k y here.0 here.1 left.gone)
    | inr off ↦ right.others k y off ∙ (first.others k y apart ∙ sym (left.others k y off))
  ];
  lies = λ k. right.lies k ∙ (first.lies k ∙ sym (left.lies k));
}
  where
    gone_at : (u : List (ℕ × Directory)) (k y : ℕ) → k ≡ r → y ≡ v → entry_in u r v ≡ None → entry_in u k y ≡ None
    gone_at u k y here place none = ap (λ (z : ℕ). entry_in u z y) here ∙ (ap (entry_in u r) place ∙ none)

-- a name that was taken out is nowhere
left_nowhere : (things : ℕ) (t : List (ℕ × Directory)) (q : ℕ) (n : List ℕ) (d : Directory) (x : ℕ × Entry) → at t q ≡ Some d → named d.names n ≡ Some x → HasSoundNames things d → Nowhere (left t q n) q n
left_nowhere things t q n d x there found names r e h same =
    let l : Loses t (left t q n) q x.0 = left_loses t q n d x there found names.ascend in
    let stands : Stands d.names n x = found_stands d.names n x names.ascend found in
    elim (here_or_else q r q x.0) [
      | inl here ↦ not_both (entry_in (left t q n) q r) e (ap (entry_in (left t q n) q) here.1 ∙ l.gone) h
      | inr other ↦ (let old : at d.names r ≡ Some e = sym (entry_there t q r d there) ∙ (sym (l.others q r other) ∙ h) in
          other refl (names.once r x.0 e x.1 old stands.0 (same ∙ sym stands.1)))
    ]

pub record Both (things : ℕ) (s x : FileTree) (q p : ℕ) (m : ℕ × List ℕ) : Type 0 where
  pub follows : Follows things s x q p
  pub nowhere : Nowhere x.directories m.0 m.1

pub follows_both : (things : ℕ) (s x : FileTree) (q p j : ℕ) (m : ℕ × List ℕ) (now : TimeSpec) (c : Follows things s x q p) (sound : IsSound things s) (f : Finds s.directories m.0 m.1 j) → (q ≡ m.0 → p ≢ f.entry.0) → Both things (without_name s now m) (without_name x now m) q p m
unfolding without_name
follows_both things s x q p j m now c sound f other =
    let names : HasSoundNames things f.dir = sound.positions m.0 f.dir f.there in
    let g = still_found things s x q p j m c sound f (λ same place. other (sym same) (sym place)) in
    let entry : ℕ × Entry = (f.entry.0, f.entry.1) in
    let later : HasSoundNames things g.0 = c.positions m.0 g.0 g.1 in
    record {
      follows = record {
        loses = loses_both s.directories x.directories (left s.directories m.0 m.1) (left x.directories m.0 m.1) q p m.0 f.entry.0 c.loses (left_loses s.directories m.0 m.1 f.dir f.entry f.there f.found names.ascend) (left_loses x.directories m.0 m.1 g.0 entry g.1 g.2 later.ascend) other;
        dirs_ascend = left_ascends x.directories m.0 m.1 g.0 entry g.1 g.2 c.dirs_ascend;
        nodes_ascend = ascending_touched x.nodes m.0 now c.nodes_ascend;
        marks = λ k. marked_touched x.nodes m.0 k now ∙ (c.marks k ∙ sym (marked_touched s.nodes m.0 k now));
        contents = c.contents;
        numbers = c.numbers;
        working = c.working;
        positions = left_positions x.directories m.0 m.1 g.0 entry g.1 g.2 things c.positions;
        old = λ d h. (let b = left_before x.directories m.0 m.1 g.0 entry g.1 g.2 q d h in
            let le : p ≤ b.0.last = c.old b.0 b.1 in
            let last : d.last ≡ b.0.last = b.2 in
            omega arith);
      };
      nowhere = left_nowhere things x.directories m.0 m.1 g.0 entry g.1 g.2 later;
    }

-- ---- what had the new name goes
loses_directory : (t a : List (ℕ × Directory)) (q p j : ℕ) → IsAscending t → IsAscending a → q ≢ j → Loses t a q p → Loses (removed t j) (removed a j) q p
loses_directory t a q p j s r other l = record {
  gone = gone_entry_apart a j r q p other ∙ l.gone;
  others = λ k y apart. elim (one_or_other k j) [
    | inl same ↦ ap (λ (z : ℕ). entry_in (removed a j) z y) same ∙ (gone_entry a j r y ∙ sym (ap (λ (z : ℕ). entry_in (removed t j) z y) same ∙ gone_entry t j s y))
    | inr off ↦ gone_entry_apart a j r k y off ∙ (l.others k y apart ∙ sym (gone_entry_apart t j s k y off))
  ];
  lies = λ k. elim (one_or_other k j) [
    | inl same ↦ ap (lies_in (removed a j)) same ∙ (gone_lies a j r ∙ sym (ap (lies_in (removed t j)) same ∙ gone_lies t j s))
    | inr off ↦ gone_lies_apart a j r k off ∙ (l.lies k ∙ sym (gone_lies_apart t j s k off))
  ];
}

marks_removed : (n a : List (ℕ × Node)) (j : ℕ) → IsAscending n → IsAscending a → ((k : ℕ) → marked a k ≡ marked n k) → (k : ℕ) → marked (removed a j) k ≡ marked (removed n j) k
marks_removed n a j s r same k = elim (one_or_other k j) [
  | inl here ↦ ap (marked (removed a j)) here ∙ (marked_gone a j r ∙ sym (ap (marked (removed n j)) here ∙ marked_gone n j s))
  | inr off ↦ marked_removed_apart a j k off ∙ (same k ∙ sym (marked_removed_apart n j k off))
]

marks_nameless : (n a : List (ℕ × Node)) (j : ℕ) → ((k : ℕ) → marked a k ≡ marked n k) → (k : ℕ) → marked (nameless a j) k ≡ marked (nameless n j) k
marks_nameless n a j same k = elim (one_or_other k j) [
  | inl here ↦ ap (marked (nameless a j)) here ∙ (marked_nameless a j ∙ (ap (option_map (λ (b : Bool). false)) (same j) ∙ sym (ap (marked (nameless n j)) here ∙ marked_nameless n j)))
  | inr off ↦ marked_nameless_apart a j k off ∙ (same k ∙ sym (marked_nameless_apart n j k off))
]

module _ (things : ℕ) (s x : FileTree) (q p j : ℕ) (m : ℕ × List ℕ) (nodes : IsAscending s.nodes) (dirs : IsAscending s.directories) (c : Both things s x q p m) where
  both_closed : q ≢ j → m.0 ≢ j → Both things (without_directory s j) (without_directory x j) q p m
  unfolding without_directory
  both_closed other place = record {
    follows = record {
      loses = loses_directory s.directories x.directories q p j dirs c.follows.dirs_ascend other c.follows.loses;
      dirs_ascend = ascending_removed x.directories j c.follows.dirs_ascend;
      nodes_ascend = ascending_removed x.nodes j c.follows.nodes_ascend;
      marks = marks_removed s.nodes x.nodes j nodes c.follows.nodes_ascend c.follows.marks;
      contents = c.follows.contents;
      numbers = c.follows.numbers;
      working = c.follows.working;
      positions = positions_removed things j x.directories c.follows.dirs_ascend c.follows.positions;
      old = λ d h. c.follows.old d (removed_there x.directories j q d c.follows.dirs_ascend h);
    };
    nowhere = λ r e h. c.nowhere r e (sym (gone_entry_apart x.directories j c.follows.dirs_ascend m.0 r place) ∙ h);
  }

  both_thrown : (held : Bool) → Both things (unnamed s j held) (unnamed x j held) q p m
  unfolding unnamed
  both_thrown true = record {
    follows = record {
      loses = c.follows.loses;
      dirs_ascend = c.follows.dirs_ascend;
      nodes_ascend = ascending_nameless x.nodes j c.follows.nodes_ascend;
      marks = marks_nameless s.nodes x.nodes j c.follows.marks;
      contents = c.follows.contents;
      numbers = c.follows.numbers;
      working = c.follows.working;
      positions = c.follows.positions;
      old = c.follows.old;
    };
    nowhere = c.nowhere;
  }
  both_thrown false = record {
    follows = record {
      loses = c.follows.loses;
      dirs_ascend = c.follows.dirs_ascend;
      nodes_ascend = ascending_removed x.nodes j c.follows.nodes_ascend;
      marks = marks_removed s.nodes x.nodes j nodes c.follows.nodes_ascend c.follows.marks;
      contents = ap (λ (t : List (ℕ × List ℕ)). removed t j) c.follows.contents;
      numbers = c.follows.numbers;
      working = c.follows.working;
      positions = c.follows.positions;
      old = c.follows.old;
    };
    nowhere = c.nowhere;
  }

  both_case : (b d held : Bool) → d ≡ b → (b ≡ true → (q ≢ j) × (m.0 ≢ j)) → Both things (cond b (without_directory s j) (unnamed s j held)) (cond d (without_directory x j) (unnamed x j held)) q p m
  both_case true true held same off = (let o = off refl in both_closed o.0 o.1)
  both_case true false held same off = absurd (let h : false ≡ true = same in cc)
  both_case false true held same off = absurd (let h : true ≡ false = same in cc)
  both_case false false held same off = both_thrown held

  pub both_dropped : (held : Bool) → (is_there s.directories j ≡ true → (q ≢ j) × (m.0 ≢ j)) → Both things (dropped s j held) (dropped x j held) q p m
  unfolding dropped
  both_dropped held off = both_case (is_there s.directories j) (is_there x.directories j) held (same_directory s.directories x.directories j (c.follows.loses.lies j)) off
