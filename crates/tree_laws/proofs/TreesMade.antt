-- A tree in which a file or a directory was made.
use Rattle.std.proofs.Common.{◌≡◌, ◌≢◌, ◌∙◌, ℕ, ◌+◌, ◌≤◌, Bool, true, false, List, length, Some, None, is_some, refl, ap, sym, subst, inl, inr}
use Rattle.kernel_values.specs.Bounds.{most_file_bytes}
use Rattle.kernel_values.specs.declared.times.TimeSpec.{TimeSpec}
use Rattle.number_maps.specs.NumberMap.{at, put}
use Rattle.file_tables.specs.Contained.{empty_directory, entered}
use Rattle.file_tables.specs.Nodes.{touched}
use Rattle.file_tables.specs.declared.state.Directory.{Directory}
use Rattle.file_tables.specs.declared.state.Entry.{Entry}
use Rattle.file_tables.specs.declared.state.InodeNumbers.{InodeNumbers}
use Rattle.file_tables.specs.declared.state.Node.{Node}
use Rattle.file_tree.specs.declared.state.FileTree.{FileTree}
use Rattle.tree_laws.specs.Sound.{IsSound, KindsSound, NumbersSound, SizesSound}
use Rattle.tree_laws.specs.Views.{entry_in, is_there, lies_in, marked}
use Rattle.tree_laws.proofs.Changes.{Gains, entered_ascends, entered_gains, entered_positions, made_entries, made_lies, made_lies_apart}
use Rattle.tree_laws.proofs.Entries.{Lacks}
use Rattle.map_lemmas.proofs.Maps.{ascending_put, at_put, at_put_apart, one_or_other, put_there, vacant}
use Rattle.tree_laws.proofs.Names.{Makes, make_names}
use Rattle.tree_laws.proofs.NodeKinds.{kinds_but, no_directory, nowhere, same_directory, same_node, unmarked}
use Rattle.tree_laws.proofs.Positions.{empty_sound, positions_put}
use Rattle.tree_laws.proofs.Reach.{reach_made, reach_same}
use Rattle.tree_laws.proofs.Views.{ascending_touched, directory_there, lies_there, marked_put, marked_put_apart, marked_touched, node_there}

same_value : (a b : ℕ) → Some a ≡ Some b → a ≡ b
same_value a b h = cc

module _ (things : ℕ) (s : FileTree) (l : ℕ × List ℕ) (i : ℕ) (now : TimeSpec) (node : Node) (numbers : InodeNumbers)
    (sound : IsSound things s) (lack : Lacks s.directories l.0 l.1) (root : i ≢ 2) (unused : is_there s.nodes i ≡ false) (named : node.has_name ≡ true) where
  abbrev nodes : List (ℕ × Node)
  nodes = put (touched s.nodes l.0 now) i node

  abbrev dirs : List (ℕ × Directory)
  dirs = entered s.directories l.0 l.1 i

  abbrev new : Entry
  new = record { name = l.1; child = i }

  gains : Gains s.directories dirs l.0 (lack.dir.last + 1) new
  gains = entered_gains s.directories l.0 l.1 i lack.dir lack.there lack.missing things (sound.positions l.0 lack.dir lack.there)

  none_before : is_there s.directories i ≡ false
  none_before = no_directory s i sound.kinds unused

  mark : marked nodes i ≡ Some true
  mark = marked_put (touched s.nodes l.0 now) i node ∙ ap (λ (b : Bool). Some b) named

  marks : (k : ℕ) → k ≢ i → marked nodes k ≡ marked s.nodes k
  marks k other = marked_put_apart (touched s.nodes l.0 now) i k node other ∙ marked_touched s.nodes l.0 k now

  node_made : is_there nodes i ≡ true
  node_made = node_there nodes i ∙ ap is_some mark

  dirs_at : (k : ℕ) → is_there dirs k ≡ is_there s.directories k
  dirs_at k = same_directory s.directories dirs k (gains.lies k)

  -- ---- a file
  module _ (bytes : List ℕ) (fits : length bytes ≤ most_file_bytes) (counts : NumbersSound (things + 1) numbers nodes) where
    abbrev filed : FileTree
    filed = record s { nodes = nodes; directories = dirs; contents = put s.contents i bytes; numbers = numbers }

    file_makes : Makes s.nodes nodes s.directories dirs l.0 (lack.dir.last + 1) i new
    file_makes = record {
      unmarked = unmarked s.nodes i unused;
      vacant = gains.vacant;
      new = gains.new;
      means = refl;
      others = gains.others;
      mark = mark;
      marks = marks;
      lies = λ k other. gains.lies k;
      inside = λ z h. absurd (let none : None ≡ Some z = sym (gains.lies i ∙ nowhere s.directories i none_before) ∙ h in cc);
    }

    file_kinds : KindsSound filed
    file_kinds = kinds_but s filed i false true sound.kinds
        (λ k other. record { node = same_node s.nodes nodes k (marks k other); directory = dirs_at k; content = ap is_some (at_put_apart s.contents k i bytes other) })
        (record { node = node_made; directory = dirs_at i ∙ none_before; content = ap is_some (at_put s.contents i bytes); one = refl })

    file_sizes : SizesSound filed.contents
    file_sizes k b h = elim (put_there s.contents i k bytes b h) [
      | inl here ↦ subst (λ (x : List ℕ). length x ≤ most_file_bytes) here.1 fits
      | inr old ↦ sound.sizes k b old
    ]

    pub file_sound : IsSound (things + 1) filed
    file_sound = record {
      ascend = record { nodes = ascending_put (touched s.nodes l.0 now) i node (ascending_touched s.nodes l.0 now sound.ascend.nodes); directories = entered_ascends s.directories l.0 l.1 i lack.dir lack.there lack.missing sound.ascend.directories; contents = ascending_put s.contents i bytes sound.ascend.contents };
      kinds = file_kinds;
      numbers = counts;
      positions = entered_positions s.directories l.0 l.1 i lack.dir lack.there lack.missing things lack.plain sound.positions;
      root = gains.lies 2 ∙ sound.root;
      names = make_names s.nodes nodes s.directories dirs l.0 (lack.dir.last + 1) i new file_makes sound.names root;
      reach = reach_same s.directories dirs gains.lies sound.reach;
      sizes = file_sizes;
      working = dirs_at s.working ∙ sound.working;
    }

  -- ---- a directory
  module _ (counts : NumbersSound (things + 1) numbers nodes) (kept : is_there s.contents i ≡ false) where
    abbrev more : List (ℕ × Directory)
    more = put dirs i (empty_directory l.0)

    abbrev housed : FileTree
    housed = record s { nodes = nodes; directories = more; numbers = numbers }

    none_there : at dirs i ≡ None
    none_there = vacant (at dirs i) (dirs_at i ∙ none_before)

    entries : (k r : ℕ) → entry_in more k r ≡ entry_in dirs k r
    entries k r = made_entries dirs i l.0 none_there k r

    lies : (k : ℕ) → k ≢ i → lies_in more k ≡ lies_in s.directories k
    lies k other = made_lies_apart dirs i l.0 k other ∙ gains.lies k

    directory_makes : Makes s.nodes nodes s.directories more l.0 (lack.dir.last + 1) i new
    directory_makes = record {
      unmarked = unmarked s.nodes i unused;
      vacant = gains.vacant;
      new = entries l.0 (lack.dir.last + 1) ∙ gains.new;
      means = refl;
      others = λ k r other. entries k r ∙ gains.others k r other;
      mark = mark;
      marks = marks;
      lies = lies;
      inside = λ z h. same_value z l.0 (sym h ∙ made_lies dirs i l.0);
    }

    directory_kinds : KindsSound housed
    directory_kinds = kinds_but s housed i true false sound.kinds
        (λ k other. record { node = same_node s.nodes nodes k (marks k other); directory = same_directory s.directories more k (lies k other); content = refl })
        (record { node = node_made; directory = directory_there more i ∙ ap is_some (made_lies dirs i l.0); content = kept; one = refl })

    working_there : is_there more s.working ≡ true
    working_there = elim (one_or_other s.working i) [
      | inl same ↦ directory_there more s.working ∙ ap is_some (ap (lies_in more) same ∙ made_lies dirs i l.0)
      | inr other ↦ same_directory s.directories more s.working (lies s.working other) ∙ sound.working
    ]

    pub directory_sound : IsSound (things + 1) housed
    directory_sound = record {
      ascend = record { nodes = ascending_put (touched s.nodes l.0 now) i node (ascending_touched s.nodes l.0 now sound.ascend.nodes); directories = ascending_put dirs i (empty_directory l.0) (entered_ascends s.directories l.0 l.1 i lack.dir lack.there lack.missing sound.ascend.directories); contents = sound.ascend.contents };
      kinds = directory_kinds;
      numbers = counts;
      positions = positions_put (things + 1) i dirs (empty_directory l.0) (empty_sound (things + 1) l.0) (entered_positions s.directories l.0 l.1 i lack.dir lack.there lack.missing things lack.plain sound.positions);
      root = lies 2 (λ same. root (sym same)) ∙ sound.root;
      names = make_names s.nodes nodes s.directories more l.0 (lack.dir.last + 1) i new directory_makes sound.names root;
      reach = reach_made s.directories more i lies l.0 lack.dir.parent (nowhere s.directories i none_before) root (made_lies dirs i l.0) (lies_there s.directories l.0 lack.dir lack.there) sound.reach;
      sizes = sound.sizes;
      working = working_there;
    }
