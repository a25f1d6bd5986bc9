-- A tree from which a name was taken, and what it meant.
use Rattle.std.proofs.Common.{◌≡◌, ◌≢◌, ◌∙◌, ℕ, Bool, true, false, List, [], Option, Some, None, is_some, refl, ap, sym, inl, inr}
use Rattle.std.specs.Option.{option_map}
use Rattle.kernel_values.specs.declared.times.TimeSpec.{TimeSpec}
use Rattle.number_maps.specs.NumberMap.{IsAscending, at, removed}
use Rattle.file_tables.specs.Contained.{left}
use Rattle.file_tables.specs.Nodes.{nameless, touched}
use Rattle.file_tables.specs.declared.state.Directory.{Directory}
use Rattle.file_tables.specs.declared.state.Entry.{Entry}
use Rattle.file_tables.specs.declared.state.Node.{Node}
use Rattle.file_tree.specs.declared.state.FileTree.{FileTree}
use Rattle.tree_laws.specs.Sound.{HasSoundNames, IsNamed, IsSound, NamesSound, PositionsSound}
use Rattle.tree_laws.specs.Views.{entry_in, is_there, lies_in, marked}
use Rattle.tree_laws.proofs.Changes.{Loses, gone_entry, gone_entry_apart, gone_lies, gone_lies_apart, left_ascends, left_loses, left_positions}
use Rattle.tree_laws.proofs.Entries.{Finds}
use Rattle.map_lemmas.proofs.Maps.{ascending_removed, at_gone, at_removed_apart, not_both, one_or_other, removed_there}
use Rattle.tree_laws.proofs.Names.{Drops, drop_names}
use Rattle.tree_laws.proofs.NodeKinds.{kinds_but, kinds_stay, no_content, nowhere, same_directory, same_node}
use Rattle.tree_laws.proofs.Numbers.{numbers_stay}
use Rattle.tree_laws.proofs.Positions.{found_stands, positions_removed}
use Rattle.tree_laws.proofs.Reach.{reach_dropped, reach_same}
use Rattle.tree_laws.proofs.Views.{ascending_nameless, ascending_touched, entry_there, marked_gone, marked_nameless, marked_nameless_apart, marked_removed_apart, marked_touched, node_there}

-- ---- what was found stands there
pub entry_found : (things : ℕ) (s : FileTree) (l : ℕ × List ℕ) (i : ℕ) (sound : IsSound things s) (f : Finds s.directories l.0 l.1 i) → entry_in s.directories l.0 f.entry.0 ≡ Some f.entry.1
entry_found things s l i sound f =
    let names : HasSoundNames things f.dir = sound.positions l.0 f.dir f.there in
    entry_there s.directories l.0 f.entry.0 f.dir f.there ∙ (found_stands f.dir.names l.1 f.entry names.ascend f.found).0

never_marked : (o : Option Bool) → option_map (λ (b : Bool). false) o ≢ Some true
never_marked None h = absurd (cc)
never_marked (Some b) h = let e : false ≡ true = cc in absurd (cc)

still_some : (o : Option Bool) → is_some (option_map (λ (b : Bool). false) o) ≡ is_some o
still_some None = refl
still_some (Some b) = refl

none_marked : (o : Option Bool) → o ≡ None → o ≢ Some true
none_marked o h g = absurd (not_both o true h g)

there_before : (a b : Bool) → b ≡ a → b ≡ true → a ≡ true
there_before a b h g = sym h ∙ g

not_gone : (b : Bool) → b ≡ false → b ≡ true → ⊥
not_gone b h g = cc

module _ (things : ℕ) (s : FileTree) (l : ℕ × List ℕ) (i : ℕ) (now : TimeSpec) (sound : IsSound things s) (f : Finds s.directories l.0 l.1 i) where
  abbrev nodes : List (ℕ × Node)
  nodes = touched s.nodes l.0 now

  abbrev dirs : List (ℕ × Directory)
  dirs = left s.directories l.0 l.1

  names_there : HasSoundNames things f.dir
  names_there = sound.positions l.0 f.dir f.there

  stood : entry_in s.directories l.0 f.entry.0 ≡ Some f.entry.1
  stood = entry_found things s l i sound f

  pub loses : Loses s.directories dirs l.0 f.entry.0
  loses = left_loses s.directories l.0 l.1 f.dir f.entry f.there f.found names_there.ascend

  pub dirs_ascend : IsAscending dirs
  dirs_ascend = left_ascends s.directories l.0 l.1 f.dir f.entry f.there f.found sound.ascend.directories

  dirs_sound : PositionsSound things dirs
  dirs_sound = left_positions s.directories l.0 l.1 f.dir f.entry f.there f.found things sound.positions

  marks : (k : ℕ) → marked nodes k ≡ marked s.nodes k
  marks k = marked_touched s.nodes l.0 k now

  pub not_root : i ≢ 2
  not_root same = sound.names.rootless l.0 f.entry.0 f.entry.1 stood (f.means ∙ same)

  pub dirs_at : (k : ℕ) → is_there dirs k ≡ is_there s.directories k
  dirs_at k = same_directory s.directories dirs k (loses.lies k)

  -- ---- a file that lost its name, with other nodes and bytes of its own
  module _ (file : is_there s.directories i ≡ false) (after : List (ℕ × Node)) (unnamed : marked after i ≢ Some true) (apart : (k : ℕ) → k ≢ i → marked after k ≡ marked nodes k) where
    file_drops : Drops s.nodes after s.directories dirs l.0 f.entry.0 i f.entry.1
    file_drops = record {
      stood = stood;
      means = f.means;
      gone = loses.gone;
      others = loses.others;
      unmarked = unnamed;
      marks = λ k other. apart k other ∙ marks k;
      lies = λ k other. loses.lies k;
      nowhere = loses.lies i ∙ nowhere s.directories i file;
    }

    file_names : NamesSound after dirs
    file_names = drop_names s.nodes after s.directories dirs l.0 f.entry.0 i f.entry.1 file_drops sound.names

  -- ---- held by an open file
  module _ (file : is_there s.directories i ≡ false) where
    abbrev marked_off : FileTree
    marked_off = record s { nodes = nameless nodes i; directories = dirs }

    off_there : (k : ℕ) → is_there (nameless nodes i) k ≡ is_there s.nodes k
    off_there k = elim (one_or_other k i) [
      | inl same ↦ node_there (nameless nodes i) k ∙ (ap is_some (ap (marked (nameless nodes i)) same ∙ marked_nameless nodes i) ∙ (still_some (marked nodes i) ∙ (ap is_some (marks i ∙ sym (ap (marked s.nodes) same)) ∙ sym (node_there s.nodes k))))
      | inr other ↦ same_node s.nodes (nameless nodes i) k (marked_nameless_apart nodes i k other ∙ marks k)
    ]

    pub held_sound : IsSound things marked_off
    held_sound = record {
      ascend = record { nodes = ascending_nameless nodes i (ascending_touched s.nodes l.0 now sound.ascend.nodes); directories = dirs_ascend; contents = sound.ascend.contents };
      kinds = kinds_stay s marked_off sound.kinds (λ k. record { node = off_there k; directory = dirs_at k; content = refl });
      numbers = numbers_stay things s.numbers s.nodes (nameless nodes i) sound.numbers (λ k h. sym (off_there k) ∙ h);
      positions = dirs_sound;
      root = loses.lies 2 ∙ sound.root;
      names = file_names file (nameless nodes i) (λ h. never_marked (marked nodes i) (sym (marked_nameless nodes i) ∙ h)) (λ k other. marked_nameless_apart nodes i k other);
      reach = reach_same s.directories dirs loses.lies sound.reach;
      sizes = sound.sizes;
      working = dirs_at s.working ∙ sound.working;
    }

    -- ---- or not
    abbrev thrown : FileTree
    thrown = record s { nodes = removed nodes i; directories = dirs; contents = removed s.contents i }

    pub nodes_ascend : IsAscending nodes
    nodes_ascend = ascending_touched s.nodes l.0 now sound.ascend.nodes

    thrown_there : (k : ℕ) → is_there (removed nodes i) k ≡ true → is_there s.nodes k ≡ true
    thrown_there k h = elim (one_or_other k i) [
      | inl same ↦ absurd (not_gone (is_there (removed nodes i) k) (ap (is_there (removed nodes i)) same ∙ ap is_some (at_gone nodes i nodes_ascend)) h)
      | inr other ↦ sym (same_node s.nodes (removed nodes i) k (marked_removed_apart nodes i k other ∙ marks k)) ∙ h
    ]

    pub thrown_sound : IsSound things thrown
    thrown_sound = record {
      ascend = record { nodes = ascending_removed nodes i nodes_ascend; directories = dirs_ascend; contents = ascending_removed s.contents i sound.ascend.contents };
      kinds = kinds_but s thrown i false false sound.kinds
          (λ k other. record { node = same_node s.nodes (removed nodes i) k (marked_removed_apart nodes i k other ∙ marks k); directory = dirs_at k; content = ap is_some (at_removed_apart s.contents k i other) })
          (record { node = ap is_some (at_gone nodes i nodes_ascend); directory = dirs_at i ∙ file; content = ap is_some (at_gone s.contents i sound.ascend.contents); one = refl });
      numbers = numbers_stay things s.numbers s.nodes (removed nodes i) sound.numbers thrown_there;
      positions = dirs_sound;
      root = loses.lies 2 ∙ sound.root;
      names = file_names file (removed nodes i) (none_marked (marked (removed nodes i) i) (marked_gone nodes i nodes_ascend)) (λ k other. marked_removed_apart nodes i k other);
      reach = reach_same s.directories dirs loses.lies sound.reach;
      sizes = λ k b h. sound.sizes k b (removed_there s.contents i k b sound.ascend.contents h);
      working = dirs_at s.working ∙ sound.working;
    }

  -- ---- a directory without names
  module _ (d : Directory) (there : at s.directories i ≡ Some d) (empty : d.names ≡ []) (working : s.working ≢ i) where
    abbrev fewer : List (ℕ × Directory)
    fewer = removed dirs i

    abbrev closed : FileTree
    closed = record s { nodes = removed nodes i; directories = fewer }

    no_entry : (r : ℕ) → entry_in s.directories i r ≡ None
    no_entry r = entry_there s.directories i r d there ∙ ap (λ (es : List (ℕ × Entry)). at es r) empty

    pub elsewhere : (q p : ℕ) (e : Entry) → entry_in s.directories q p ≡ Some e → q ≢ i
    elsewhere q p e h same = not_both (entry_in s.directories q p) e (ap (λ (z : ℕ). entry_in s.directories z p) same ∙ no_entry p) h

    pub childless : (k z : ℕ) → k ≢ i → lies_in s.directories k ≡ Some z → z ≢ i
    childless k z other h same = elim (one_or_other k 2) [
      | inl root ↦ not_root (let both : Some z ≡ Some 2 = sym h ∙ (ap (lies_in s.directories) root ∙ sound.root) in let two : z ≡ 2 = cc in sym same ∙ two)
      | inr apart ↦ (let stands : IsNamed s.directories k = sound.names.stands k (sound.names.directories k z h) apart in
          let up : z ≡ stands.place = sound.names.up stands.place stands.position z stands.entry stands.there (ap (lies_in s.directories) stands.means ∙ h) in
          elsewhere stands.place stands.position stands.entry stands.there (sym up ∙ same))
    ]

    nodes_rise : IsAscending nodes
    nodes_rise = ascending_touched s.nodes l.0 now sound.ascend.nodes

    pub lies_apart : (k : ℕ) → k ≢ i → lies_in fewer k ≡ lies_in s.directories k
    lies_apart k other = gone_lies_apart dirs i dirs_ascend k other ∙ loses.lies k

    closed_others : (k r : ℕ) → (k ≡ l.0 → r ≢ f.entry.0) → entry_in fewer k r ≡ entry_in s.directories k r
    closed_others k r other = elim (one_or_other k i) [
      | inl same ↦ ap (λ (z : ℕ). entry_in fewer z r) same ∙ (gone_entry dirs i dirs_ascend r ∙ sym (ap (λ (z : ℕ). entry_in s.directories z r) same ∙ no_entry r))
      | inr apart ↦ gone_entry_apart dirs i dirs_ascend k r apart ∙ loses.others k r other
    ]

    directory_drops : Drops s.nodes (removed nodes i) s.directories fewer l.0 f.entry.0 i f.entry.1
    directory_drops = record {
      stood = stood;
      means = f.means;
      gone = gone_entry_apart dirs i dirs_ascend l.0 f.entry.0 (elsewhere l.0 f.entry.0 f.entry.1 stood) ∙ loses.gone;
      others = closed_others;
      unmarked = none_marked (marked (removed nodes i) i) (marked_gone nodes i nodes_rise);
      marks = λ k other. marked_removed_apart nodes i k other ∙ marks k;
      lies = lies_apart;
      nowhere = gone_lies dirs i dirs_ascend;
    }

    closed_there : (k : ℕ) → is_there (removed nodes i) k ≡ true → is_there s.nodes k ≡ true
    closed_there k h = elim (one_or_other k i) [
      | inl same ↦ absurd (not_gone (is_there (removed nodes i) k) (ap (is_there (removed nodes i)) same ∙ ap is_some (at_gone nodes i nodes_rise)) h)
      | inr other ↦ sym (same_node s.nodes (removed nodes i) k (marked_removed_apart nodes i k other ∙ marks k)) ∙ h
    ]

    pub closed_sound : IsSound things closed
    closed_sound = record {
      ascend = record { nodes = ascending_removed nodes i nodes_rise; directories = ascending_removed dirs i dirs_ascend; contents = sound.ascend.contents };
      kinds = kinds_but s closed i false false sound.kinds
          (λ k other. record { node = same_node s.nodes (removed nodes i) k (marked_removed_apart nodes i k other ∙ marks k); directory = same_directory s.directories fewer k (lies_apart k other); content = refl })
          (record { node = ap is_some (at_gone nodes i nodes_rise); directory = ap is_some (at_gone dirs i dirs_ascend); content = no_content s i sound.kinds (ap is_some there); one = refl });
      numbers = numbers_stay things s.numbers s.nodes (removed nodes i) sound.numbers closed_there;
      positions = positions_removed things i dirs dirs_ascend dirs_sound;
      root = lies_apart 2 (λ same. not_root (sym same)) ∙ sound.root;
      names = drop_names s.nodes (removed nodes i) s.directories fewer l.0 f.entry.0 i f.entry.1 directory_drops sound.names;
      reach = reach_dropped s.directories fewer i lies_apart childless (gone_lies dirs i dirs_ascend) sound.reach;
      sizes = sound.sizes;
      working = same_directory s.directories fewer s.working (lies_apart s.working working) ∙ sound.working;
    }
