-- A tree in which a name was changed.
use Rattle.std.proofs.Common.{◌≡◌, ◌≢◌, ◌∙◌, ℕ, ◌+◌, ◌==◌, ◌&&◌, ◌||◌, not, Bool, true, false, List, [], ◌∷◌, length, cond, Option, Some, None, is_some, ok_or, Ok, refl, ap, sym, subst, inl, inr, arith}
use Rattle.std.proofs.lemmas.Bool.{eq-eqb}
use Rattle.std.proofs.lemmas.Grind.{common_steps}
use Rattle.std.specs.Option.{is_none}
use Rattle.kernel_values.specs.Outcome.{◌>>◌, refused_if}
use Rattle.kernel_values.specs.declared.errno.Errno.{Errno}
use Rattle.kernel_values.specs.declared.errno.Errno.TheVariants.{Busy, InvalidArgument, IsDirectory, NotDirectory, NotEmpty}
use Rattle.kernel_values.specs.declared.times.TimeSpec.{TimeSpec}
use Rattle.number_maps.specs.NumberMap.{IsAscending, at, removed}
use Rattle.file_tables.specs.Contained.{left}
use Rattle.file_tables.specs.Names.{ends_with_slash}
use Rattle.file_tables.specs.Places.{lies_inside}
use Rattle.file_tables.specs.declared.state.Directory.{Directory}
use Rattle.file_tables.specs.declared.state.Entry.{Entry}
use Rattle.file_tree.specs.Paths.{is_directory}
use Rattle.file_tree.specs.Removing.{spare, unnamed, without_directory, without_name}
use Rattle.file_tree.specs.Renaming.{dropped, may_move, renamed, replaceable}
use Rattle.file_tree.specs.declared.state.FileTree.{FileTree}
use Rattle.tree_laws.specs.Sound.{HasSoundNames, IsSound, is_name}
use Rattle.tree_laws.specs.Views.{climbed, entry_in, is_there, lies_in}
use Rattle.tree_laws.proofs.Changes.{gone_entry_apart}
use Rattle.tree_laws.proofs.Entries.{Finds, Lacks}
use Rattle.map_lemmas.proofs.Maps.{at_gone, one_or_other}
use Rattle.tree_laws.proofs.NodeKinds.{same_directory}
use Rattle.tree_laws.proofs.Positions.{Stands, found_stands, unnamed as other_name}
use Rattle.tree_laws.proofs.Reach.{all_stay, outside_all, way_stays}
use Rattle.map_lemmas.proofs.Steps.{both_answered, not_refused}
use Rattle.tree_laws.proofs.TreesLeft.{childless, closed_sound, dirs_ascend, dirs_at, elsewhere, entry_found, held_sound, lies_apart, loses, thrown_sound}
use Rattle.tree_laws.proofs.TreesMoved.{Both, Follows, Nowhere, both_dropped, follows_both, follows_name, lacks_there, moved_sound}
use Rattle.tree_laws.proofs.Views.{ascending_touched, entry_there, here_or_else, lies_there}

-- ---- what was found before the change
also_done : (b : Bool) (e : Errno) → refused_if b e ≡ Ok tt → b ≡ false
also_done true e h = cc
also_done false e h = refl

neither : (a b : Bool) → (a || b) ≡ false → (a ≡ false) × (b ≡ false)
neither true b h = cc
neither false b h = (refl, h)

no_length : (names : List (ℕ × Entry)) → not (length names == 0) ≡ false → names ≡ []
no_length [] h = refl
no_length (e ∷ es) h = let some : (length (e ∷ es) == 0) ≡ false = grind (arith, common_steps) in let t : not (length (e ∷ es) == 0) ≡ true = rw some refl in absurd (cc)

pub differ : (a b : ℕ) → (a == b) ≡ false → a ≢ b
differ a b h same = let t : (a == b) ≡ true = eq-eqb a b same in absurd (cc)

-- a directory that may go
pub record Spare (s : FileTree) (j : ℕ) : Type 0 where
  pub dir : Directory
  pub there : at s.directories j ≡ Some dir
  pub empty : dir.names ≡ []
  pub working : s.working ≢ j

found : {V : Type 0} (o : Option V) (e : Errno) (v : V) → ok_or o e ≡ Ok v → o ≡ Some v
found None e v h = cc
found (Some w) e v h = let same : w ≡ v = cc in ap Some same

pub is_spare : (s : FileTree) (j : ℕ) (held : Bool) → spare s j held ≡ Ok tt → Spare s j
unfolding spare
is_spare s j held h =
    let d = both_answered (ok_or (at s.directories j) NotDirectory) (λ (d : Directory). refused_if (not (length d.names == 0)) NotEmpty >> refused_if ((s.working == j) || held) Busy) tt h in
    let e = not_refused (not (length d.0.names == 0)) NotEmpty (refused_if ((s.working == j) || held) Busy) tt d.2 in
    record {
      dir = d.0;
      there = found (at s.directories j) NotDirectory d.0 d.1;
      empty = no_length d.0.names e.0;
      working = differ s.working j (neither (s.working == j) held (also_done ((s.working == j) || held) Busy e.1)).0;
    }

pub record Movable (s : FileTree) (i : ℕ) (m : ℕ × List ℕ) (e : Option ℕ) (held : Bool) : Type 0 where
  pub outside : (is_directory s i && lies_inside s.directories i m.0) ≡ false
  pub replaced : replaceable s i e held ≡ Ok tt

pub is_movable : (s : FileTree) (i : ℕ) (m : ℕ × List ℕ) (path : List ℕ) (e : Option ℕ) (held : Bool) → may_move s i m path e held ≡ Ok tt → Movable s i m e held
unfolding may_move
is_movable s i m path e held h =
    let file = not_refused (not (is_directory s i) && is_none e && ends_with_slash path) NotDirectory (refused_if (is_directory s i && lies_inside s.directories i m.0) InvalidArgument >> replaceable s i e held) tt h in
    let both = not_refused (is_directory s i && lies_inside s.directories i m.0) InvalidArgument (replaceable s i e held) tt file.1 in
    record { outside = both.0; replaced = both.1 }

replaced_case : (s : FileTree) (j : ℕ) (held b : Bool) → cond b (spare s j held) (refused_if (is_directory s j) IsDirectory) ≡ Ok tt → is_there s.directories j ≡ true → Spare s j
replaced_case s j held true h there = is_spare s j held h
replaced_case s j held false h there = absurd (let none : is_there s.directories j ≡ false = also_done (is_directory s j) IsDirectory h in cc)

replaced_spare : (s : FileTree) (i j : ℕ) (held : Bool) → replaceable s i (Some j) held ≡ Ok tt → is_there s.directories j ≡ true → Spare s j
unfolding replaceable
replaced_spare s i j held h there = replaced_case s j held (is_directory s i) h there

-- ---- what had the new name goes first
pub record Clear (things : ℕ) (s c : FileTree) (q p i : ℕ) (f : Entry) (place : ℕ) : Type 0 where
  pub sound : IsSound things c
  pub stood : entry_in c.directories q p ≡ Some f
  pub way : (n : ℕ) → climbed c.directories place n ≡ climbed s.directories place n
  pub kept : is_there c.directories i ≡ true → is_there s.directories i ≡ true
  pub lies : lies_in c.directories place ≡ lies_in s.directories place

absent : (b : Bool) → b ≡ false → b ≡ true → ⊥
absent b h g = cc

module _ (things : ℕ) (s : FileTree) (m : ℕ × List ℕ) (j : ℕ) (now : TimeSpec) (sound : IsSound things s) (to : Finds s.directories m.0 m.1 j) (q p i : ℕ) (f : Entry) (stood : entry_in s.directories q p ≡ Some f) (apart : q ≡ m.0 → p ≢ to.entry.0) where
  clear_directory : Spare s j → Clear things s (without_directory (without_name s now m) j) q p i f m.0
  unfolding without_directory without_name
  clear_directory d =
      let t : List (ℕ × Directory) = left s.directories m.0 m.1 in
      let up : IsAscending t = dirs_ascend things s m j now sound to in
      let place : m.0 ≢ j = elsewhere things s m j now sound to d.dir d.there d.empty d.working m.0 to.entry.0 to.entry.1 (entry_found things s m j sound to) in
      let lies : (k : ℕ) → k ≢ j → lies_in (removed t j) k ≡ lies_in s.directories k = lies_apart things s m j now sound to d.dir d.there d.empty d.working in
      record {
        sound = closed_sound things s m j now sound to d.dir d.there d.empty d.working;
        stood = gone_entry_apart t j up q p (elsewhere things s m j now sound to d.dir d.there d.empty d.working q p f stood) ∙ ((loses things s m j now sound to).others q p apart ∙ stood);
        way = λ n. way_stays s.directories (removed t j) j lies (childless things s m j now sound to d.dir d.there d.empty d.working) n m.0 place;
        kept = λ h. elim (one_or_other i j) [
          | inl same ↦ absurd (absent (is_there (removed t j) i) (ap (is_there (removed t j)) same ∙ ap is_some (at_gone t j up)) h)
          | inr other ↦ sym (same_directory s.directories (removed t j) i (lies i other)) ∙ h
        ];
        lies = lies m.0 place;
      }

  clear_file : is_there s.directories j ≡ false → (held : Bool) → Clear things s (unnamed (without_name s now m) j held) q p i f m.0
  unfolding unnamed without_name
  clear_file file true = record {
    sound = held_sound things s m j now sound to file;
    stood = (loses things s m j now sound to).others q p apart ∙ stood;
    way = λ n. all_stay s.directories (left s.directories m.0 m.1) (loses things s m j now sound to).lies n m.0;
    kept = λ h. sym (dirs_at things s m j now sound to i) ∙ h;
    lies = (loses things s m j now sound to).lies m.0;
  }
  clear_file file false = record {
    sound = thrown_sound things s m j now sound to file;
    stood = (loses things s m j now sound to).others q p apart ∙ stood;
    way = λ n. all_stay s.directories (left s.directories m.0 m.1) (loses things s m j now sound to).lies n m.0;
    kept = λ h. sym (dirs_at things s m j now sound to i) ∙ h;
    lies = (loses things s m j now sound to).lies m.0;
  }

  clear_case : (b held : Bool) → is_there s.directories j ≡ b → (is_there s.directories j ≡ true → Spare s j) → Clear things s (cond b (without_directory (without_name s now m) j) (unnamed (without_name s now m) j held)) q p i f m.0
  clear_case true held there spare_one = clear_directory (spare_one there)
  clear_case false held none spare_one = clear_file none held

  clear_is : (held : Bool) → dropped (without_name s now m) j held ≡ cond (is_there s.directories j) (without_directory (without_name s now m) j) (unnamed (without_name s now m) j held)
  unfolding dropped without_name
  clear_is held = ap (λ (b : Bool). cond b (without_directory (without_name s now m) j) (unnamed (without_name s now m) j held)) (dirs_at things s m j now sound to j)

  pub clear_dropped : (held : Bool) → (is_there s.directories j ≡ true → Spare s j) → Clear things s (dropped (without_name s now m) j held) q p i f m.0
  clear_dropped held spare_one = subst (λ (c : FileTree). Clear things s c q p i f m.0) (sym (clear_is held)) (clear_case (is_there s.directories j) held refl spare_one)

  -- ascending, without the new name
  pub nodes_without : IsAscending (without_name s now m).nodes
  unfolding without_name
  nodes_without = ascending_touched s.nodes m.0 now sound.ascend.nodes

  pub dirs_without : IsAscending (without_name s now m).directories
  unfolding without_name
  dirs_without = dirs_ascend things s m j now sound to

  pub there_without : is_there (without_name s now m).directories j ≡ is_there s.directories j
  unfolding without_name
  there_without = dirs_at things s m j now sound to j

-- ---- the whole change
outside_case : (b c : Bool) → (b && c) ≡ false → b ≡ true → c ≡ false
outside_case true c h t = h
outside_case false c h t = absurd (let x : false ≡ true = t in cc)

one_entry : (o : Option Entry) (e f : Entry) → o ≡ Some e → o ≡ Some f → e ≡ f
one_entry o e f h g = let both : Some e ≡ Some f = sym h ∙ g in cc

module _ (things : ℕ) (s : FileTree) (now : TimeSpec) (l m : ℕ × List ℕ) (i : ℕ) (sound : IsSound things s) (from : Finds s.directories l.0 l.1 i) where
  stood : entry_in s.directories l.0 from.entry.0 ≡ Some from.entry.1
  stood = entry_found things s l i sound from

  not_root : i ≢ 2
  not_root same = sound.names.rootless l.0 from.entry.0 from.entry.1 stood (from.means ∙ same)

  follows : Follows things s (without_name s now l) l.0 from.entry.0
  follows = follows_name things s l i now sound from

  -- the place of the new name isn't inside what is moved
  not_inside : (z : ℕ) (e : Option ℕ) (held : Bool) → Movable s i m e held → lies_in s.directories m.0 ≡ Some z → is_there s.directories i ≡ true → (n : ℕ) → climbed s.directories m.0 n ≢ i
  not_inside z e held c place there = outside_all s.directories i m.0 z sound.reach sound.root place not_root (outside_case (is_directory s i) (lies_inside s.directories i m.0) c.outside there)

  -- ---- to a name that wasn't there
  lacks_still : Lacks s.directories m.0 m.1 → Lacks (without_name s now l).directories m.0 m.1
  lacks_still lack = lacks_there things (without_name s now l).directories m.0 lack.dir.parent m.1 follows.positions (follows.loses.lies m.0 ∙ lies_there s.directories m.0 lack.dir lack.there) none lack.plain
    where
      none : Nowhere (without_name s now l).directories m.0 m.1
      none r e h = elim (here_or_else m.0 r l.0 from.entry.0) [
        | inl here ↦ absurd (let gone : None ≡ Some e = sym (ap (λ (z : ℕ). entry_in (without_name s now l).directories z r) here.0 ∙ (ap (entry_in (without_name s now l).directories l.0) here.1 ∙ follows.loses.gone)) ∙ h in cc)
        | inr other ↦ other_name lack.dir.names m.1 lack.missing r e (sym (entry_there s.directories m.0 r lack.dir lack.there) ∙ (sym (follows.loses.others m.0 r other) ∙ h))
      ]

  pub renamed_new : (held : Bool) → Lacks s.directories m.0 m.1 → Movable s i m None held → IsSound (things + 1) (renamed s now l m i None held)
  unfolding renamed
  renamed_new held lack c = moved_sound things s (without_name s now l) l.0 from.entry.0 i from.entry.1 m now sound stood from.means follows (lacks_still lack) (not_inside lack.dir.parent None held c (lies_there s.directories m.0 lack.dir lack.there))

  -- ---- to a name that meant another inode
  module _ (j : ℕ) (held : Bool) (to : Finds s.directories m.0 m.1 j) (other : i ≢ j) (c : Movable s i m (Some j) held) where
    apart : l.0 ≡ m.0 → from.entry.0 ≢ to.entry.0
    apart same place = other (sym from.means ∙ (ap (λ (x : Entry). x.child) (one_entry (entry_in s.directories m.0 to.entry.0) from.entry.1 to.entry.1 (sym (ap (λ (z : ℕ). entry_in s.directories z from.entry.0) same ∙ ap (entry_in s.directories m.0) place) ∙ stood) (entry_found things s m j sound to)) ∙ to.means))

    plain : is_name m.1 ≡ true
    plain =
        let names : HasSoundNames things to.dir = sound.positions m.0 to.dir to.there in
        let stands : Stands to.dir.names m.1 to.entry = found_stands to.dir.names m.1 to.entry names.ascend to.found in
        subst (λ (n : List ℕ). is_name n ≡ true) stands.1 (names.plain to.entry.0 to.entry.1 stands.0)

    spare_one : is_there s.directories j ≡ true → Spare s j
    spare_one = replaced_spare s i j held c.replaced

    abbrev base : FileTree
    base = dropped (without_name s now m) j held

    abbrev next : FileTree
    next = dropped (without_name (without_name s now l) now m) j held

    clear : Clear things s base l.0 from.entry.0 i from.entry.1 m.0
    clear = clear_dropped things s m j now sound to l.0 from.entry.0 i from.entry.1 stood apart held spare_one

    off : is_there (without_name s now m).directories j ≡ true → (l.0 ≢ j) × (m.0 ≢ j)
    off h =
        let d : Spare s j = spare_one (sym (there_without things s m j now sound to l.0 from.entry.0 i from.entry.1 stood apart) ∙ h) in (
          elsewhere things s m j now sound to d.dir d.there d.empty d.working l.0 from.entry.0 from.entry.1 stood,
          elsewhere things s m j now sound to d.dir d.there d.empty d.working m.0 to.entry.0 to.entry.1 (entry_found things s m j sound to),
        )

    both : Both things base next l.0 from.entry.0 m
    both = both_dropped things (without_name s now m) (without_name (without_name s now l) now m) l.0 from.entry.0 j m
        (nodes_without things s m j now sound to l.0 from.entry.0 i from.entry.1 stood apart) (dirs_without things s m j now sound to l.0 from.entry.0 i from.entry.1 stood apart)
        (follows_both things s (without_name s now l) l.0 from.entry.0 j m now follows sound to apart) held off

    place : lies_in s.directories m.0 ≡ Some to.dir.parent
    place = lies_there s.directories m.0 to.dir to.there

    lack : Lacks next.directories m.0 m.1
    lack = lacks_there things next.directories m.0 to.dir.parent m.1 both.follows.positions (both.follows.loses.lies m.0 ∙ (clear.lies ∙ place)) both.nowhere plain

    out : is_there base.directories i ≡ true → (n : ℕ) → climbed base.directories m.0 n ≢ i
    out there n same = not_inside to.dir.parent (Some j) held c place (clear.kept there) n (sym (clear.way n) ∙ same)

    pub renamed_over : IsSound (things + 1) (renamed s now l m i (Some j) held)
    unfolding renamed
    renamed_over = moved_sound things base next l.0 from.entry.0 i from.entry.1 m now clear.sound clear.stood from.means both.follows lack out
