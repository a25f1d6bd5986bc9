-- What a path leads to, and its opening.
use Rattle.std.proofs.Common.{◌≡◌, ◌∙◌, ℕ, ℤ, ◌+◌, ◌^◌, ◌==◌, ◌&&◌, ◌||◌, ◌≤◌, ◌<◌, nat_lt, not, Bool, true, false, List, [], ◌∷◌, length, cond, Option, Some, None, is_some, ok_or, option_map, unwrap_or, Result, Ok, refl, ap, sym, subst, arith}
use Rattle.std.specs.Bool.{⊤}
use Rattle.kernel_values.specs.OpenFlags.{asks_write, closes_on_exec, creates, is_exclusive, truncates, wants_directory}
use Rattle.kernel_values.specs.Outcome.{◌>>=◌, ◌>>◌, refused_if}
use Rattle.kernel_values.specs.declared.errno.Errno.{Errno}
use Rattle.kernel_values.specs.declared.errno.Errno.TheVariants.{Exists, InvalidArgument, IsDirectory, NameTooLong, NoEntry, NotDirectory, TableFull}
use Rattle.kernel_values.specs.declared.items.OpenKind.TheVariants.{Directory, File}
use Rattle.kernel_values.specs.declared.open_flags.OpenFlags.{OpenFlags}
use Rattle.number_maps.specs.NumberMap.{at}
use Rattle.file_tables.specs.Directories as directories
use Rattle.file_tables.specs.Entries.{named}
use Rattle.file_tables.specs.Names.{ends_with_slash, is_absolute, names_of}
use Rattle.file_tables.specs.Numbers.{new_number}
use Rattle.file_tables.specs.declared.state.Directory as directory
use Rattle.file_tables.specs.declared.state.Entry.{Entry}
use Rattle.file_tree.specs.Lengths.{emptied}
use Rattle.file_tree.specs.Making as making
use Rattle.file_tree.specs.Making.{next_inode}
use Rattle.file_tree.specs.Paths.{is_directory, last_entry, parent_from}
use Rattle.file_tree.specs.declared.state.FileTree.{FileTree}
use Rattle.file_tree.specs.declared.state.Maker.{Maker}
use Rattle.open_files.specs.Descriptors.{open_file}
use Rattle.open_files.specs.Kinds.{is_of_pipe}
use Rattle.open_files.specs.Made.{is_full}
use Rattle.open_files.specs.Numbers.{free_number}
use Rattle.open_files.specs.declared.state.OpenFile.{OpenFile}
use Rattle.open_laws.specs.Laws.{IsNewNumber}
use Rattle.open_laws.specs.Sound.{is_there, most_position}
use Rattle.open_laws.proofs.Follows.{is_new, next_serial_is_free}
use Rattle.open_laws.proofs.Made.{installed_is_sound}
use Rattle.map_lemmas.proofs.Maps.{there_at_put}
use Rattle.map_lemmas.proofs.Steps.{both_answered, kept_by_settled, not_refused, same_answer, same_value}
use Rattle.file_store.specs.Opening.{admitted, kind_of, new_open_file, opened, opened_at, opened_missing, opened_present, truncated, with_file}
use Rattle.file_store.specs.Paths.{is_working, place_of, resolve_parent, start_of}
use Rattle.file_store.specs.declared.state.Files.{Files}
use Rattle.sound_files.specs.Laws.{OpenIsSound}
use Rattle.sound_files.specs.Sound.{HasInode, IsSound, IsWhole}
use Rattle.sound_files.proofs.Changes.{emptied_same, with_file_suits}
use Rattle.sound_files.proofs.Names.{counted_suited, room_left, then_answered}
use Rattle.sound_files.proofs.Opened.{fresh_closed, installed_belongs, no_pipe}
use Rattle.sound_files.proofs.Simple.{same_is_sound}
use Rattle.sound_files.proofs.Views.{SameInodes}

-- ---- what a path leads to has a node
either_true : (a b : Bool) → a ≡ true → (a || b) ≡ true
either_true true b h = refl
either_true false b h = absurd (let e : false ≡ true = h in cc)

module _ (t : FileTree) (whole : IsWhole t) where
  directory_node : (i : ℕ) → is_there t.directories i ≡ true → is_there t.nodes i ≡ true
  directory_node i h = whole.kinds i ∙ either_true (is_there t.directories i) (is_there t.contents i) h

  entry_case : (place : ℕ) (d : directory.Directory) (name : List ℕ) (i : ℕ) (o : Option (ℕ × Entry)) → at t.directories place ≡ Some d → named d.names name ≡ o → option_map (λ (e : ℕ × Entry). e.1.child) o ≡ Some i → is_there t.nodes i ≡ true
  entry_case place d name i None there h g = absurd (let e : None ≡ Some i = g in cc)
  entry_case place d name i (Some e) there h g =
      let same : e.1.child ≡ i = cc in
      ap (is_there t.nodes) (sym same) ∙ whole.meant place d name e there h

  child_case : (place : ℕ) (d : directory.Directory) (name : List ℕ) (i : ℕ) (dot up : Bool) → is_there t.nodes place ≡ true → at t.directories place ≡ Some d → cond dot (Some place) (cond up (Some d.parent) (option_map (λ (e : ℕ × Entry). e.1.child) (named d.names name))) ≡ Some i → is_there t.nodes i ≡ true
  child_case place d name i true up node there h = let same : place ≡ i = cc in ap (is_there t.nodes) (sym same) ∙ node
  child_case place d name i false true node there h = let same : d.parent ≡ i = cc in ap (is_there t.nodes) (sym same) ∙ directory_node d.parent (whole.parents place d there)
  child_case place d name i false false node there h = entry_case place d name i (named d.names name) there refl h

  child_there : (place : ℕ) (d : directory.Directory) (name : List ℕ) (i : ℕ) → is_there t.nodes place ≡ true → at t.directories place ≡ Some d → directories.child_of d place name ≡ Some i → is_there t.nodes i ≡ true
  unfolding directories.child_of
  child_there place d name i node there h = child_case place d name i (directories.is_dot name) (directories.is_dot_dot name) node there h

  found : {V : Type 0} (o : Option V) (e : Errno) (v : V) → ok_or o e ≡ Ok v → o ≡ Some v
  found None e v h = cc
  found (Some w) e v h = let same : w ≡ v = cc in ap Some same

  entry_there : (place : ℕ) (name : List ℕ) (i : ℕ) → is_there t.nodes place ≡ true → directories.entry_at t.directories place name ≡ Ok (Some i) → is_there t.nodes i ≡ true
  unfolding directories.entry_at
  entry_there place [] i node h = let same : place ≡ i = cc in ap (is_there t.nodes) (sym same) ∙ node
  entry_there place (b ∷ bs) i node h =
      let short = not_refused (nat_lt 255 (length (b ∷ bs))) NameTooLong _ (Some i) h in
      let d = both_answered (ok_or (at t.directories place) NotDirectory) (λ (x : directory.Directory). Ok (directories.child_of x place (b ∷ bs))) (Some i) short.1 in
      child_there place d.0 (b ∷ bs) i node (found (at t.directories place) NotDirectory d.0 d.1) (same_value (directories.child_of d.0 place (b ∷ bs)) (Some i) d.2)

  step_there : (place : ℕ) (name : List ℕ) (i : ℕ) → is_there t.nodes place ≡ true → directories.step t.directories place name ≡ Ok i → is_there t.nodes i ≡ true
  unfolding directories.step
  step_there place name i node h =
      let n = both_answered (directories.entry_at t.directories place name) (λ (o : Option ℕ). ok_or o NoEntry) i h in
      entry_there place name i node (n.1 ∙ ap (λ (o : Option ℕ). Ok o) (found n.0 NoEntry i n.2))

  walk_there : (ns : List (List ℕ)) (place : ℕ) (name : List ℕ) (l : ℕ × List ℕ) → is_there t.nodes place ≡ true → directories.walk t.directories place name ns ≡ Ok l → is_there t.nodes l.0 ≡ true
  unfolding directories.walk
  walk_there [] place name l node h = ap (λ (x : ℕ × List ℕ). is_there t.nodes x.0) (sym (same_value (place, name) l h)) ∙ node
  walk_there (n ∷ ns) place name l node h =
      let next = both_answered (directories.step t.directories place name) (λ (k : ℕ). directories.walk t.directories k n ns) l h in
      walk_there ns next.0 n l (step_there place name next.0 node next.1) next.2

  last_there : (l : ℕ × List ℕ) (path : List ℕ) (i : ℕ) → is_there t.nodes l.0 ≡ true → last_entry t l path ≡ Ok (Some i) → is_there t.nodes i ≡ true
  unfolding last_entry directories.last_entry
  last_there l path i node h =
      let n = both_answered (directories.entry_at t.directories l.0 l.1) (λ (o : Option ℕ). refused_if (ends_with_slash path && is_some o && not (directories.is_directory t.directories (unwrap_or o 0))) NotDirectory >> Ok o) (Some i) h in
      let slash = not_refused (ends_with_slash path && is_some n.0 && not (directories.is_directory t.directories (unwrap_or n.0 0))) NotDirectory (Ok n.0) (Some i) n.2 in
      entry_there l.0 l.1 i node (n.1 ∙ ap (λ (o : Option ℕ). Ok o) (same_value n.0 (Some i) slash.1))

module _ (s : Files) (whole : IsWhole s.tree) where
  working_case : (from : ℤ) (b : Bool) (i : ℕ) → cond b (Ok s.tree.working) (open_file s.open_files from >>= λ (f : ℕ × OpenFile). refused_if (not (is_directory s.tree f.1.inode)) NotDirectory >> Ok f.1.inode) ≡ Ok i → is_there s.tree.nodes i ≡ true
  working_case from true i h = ap (is_there s.tree.nodes) (sym (same_value s.tree.working i h)) ∙ directory_node s.tree whole s.tree.working whole.working
  working_case from false i h =
      let f = both_answered (open_file s.open_files from) (λ (f : ℕ × OpenFile). refused_if (not (is_directory s.tree f.1.inode)) NotDirectory >> Ok f.1.inode) i h in
      let there = not_refused (not (is_directory s.tree f.0.1.inode)) NotDirectory (Ok f.0.1.inode) i f.2 in
      ap (is_there s.tree.nodes) (sym (same_value f.0.1.inode i there.1)) ∙ directory_node s.tree whole f.0.1.inode (positive (is_directory s.tree f.0.1.inode) there.0)
    where
      positive : (b : Bool) → not b ≡ false → b ≡ true
      positive true h = refl
      positive false h = absurd (let e : true ≡ false = h in cc)

  place_there : (from : ℤ) (i : ℕ) → place_of s from ≡ Ok i → is_there s.tree.nodes i ≡ true
  unfolding place_of
  place_there from i h = working_case from (is_working from) i h

  start_case : (from : ℤ) (b : Bool) (i : ℕ) → cond b (Ok 2) (place_of s from) ≡ Ok i → is_there s.tree.nodes i ≡ true
  start_case from true i h = ap (is_there s.tree.nodes) (sym (same_value 2 i h)) ∙ directory_node s.tree whole 2 whole.root
  start_case from false i h = place_there from i h

  start_there : (from : ℤ) (path : List ℕ) (i : ℕ) → start_of s from path ≡ Ok i → is_there s.tree.nodes i ≡ true
  unfolding start_of
  start_there from path i h =
      let some = not_refused (length path == 0) NoEntry (cond (is_absolute path) (Ok 2) (place_of s from)) i h in
      start_case from (is_absolute path) i some.1

  parent_there : (from : ℤ) (path : List ℕ) (l : ℕ × List ℕ) → resolve_parent s from path ≡ Ok l → is_there s.tree.nodes l.0 ≡ true
  unfolding resolve_parent parent_from
  parent_there from path l h =
      let start = both_answered (start_of s from path) (λ (i : ℕ). parent_from s.tree i path) l h in
      walk_there s.tree whole (names_of path) start.0 [] l (start_there from path start.0 start.1) start.2

-- ---- an inode that is opened
pub record MayBeOpened (s : Files) (n i : ℕ) : Type 0 where
  pub sound : IsSound s
  pub free : at s.open_files.descriptors n ≡ None
  pub word : n < 2 ^ 32
  pub room : s.open_files.made.things + 1 < 2 ^ 31
  pub node : is_there s.tree.nodes i ≡ true
  pub bytes : is_directory s.tree i ≡ false → is_there s.tree.contents i ≡ true

module _ (s : Files) (flags : OpenFlags) (n i : ℕ) (may : MayBeOpened s n i) where
  kind_case : (b : Bool) → is_directory s.tree i ≡ b → HasInode s.tree i (cond b Directory File) × (is_of_pipe (cond b Directory File) ≡ false)
  kind_case true h = (record { node = may.node; names = h }, refl)
  kind_case false h = (record { node = may.node; bytes = may.bytes h }, refl)

  opened_kept : IsSound (opened s flags n i)
  opened_kept =
      let kind = kind_case (is_directory s.tree i) refl in
      let sound : IsSound s = may.sound in
      record {
        open_files = installed_is_sound s.open_files n (new_open_file s flags i) (closes_on_exec flags) sound.open_files (record {
          free = may.free;
          word = may.word;
          room = may.room;
          ends = no_pipe s i sound may.node ∙ sym kind.1;
          position = (let p : 0 ≤ most_position (kind_of s i) = omega arith in p);
        });
        belong = installed_belongs s.tree s.open_files.files (s.open_files.made.last_serial + 1) (new_open_file s flags i) sound.open_files.ascend.files (next_serial_is_free s.open_files sound.open_files) kind.0 sound.belong;
      }

bytes_there : (t : FileTree) (i : ℕ) → IsWhole t → is_there t.nodes i ≡ true → is_directory t i ≡ false → is_there t.contents i ≡ true
bytes_there t i whole node none = by_test (is_directory t i) (is_there t.contents i) none (sym (whole.kinds i) ∙ node)
  where
    by_test : (a b : Bool) → a ≡ false → (a || b) ≡ true → b ≡ true
    by_test true b h g = absurd (let e : true ≡ false = h in cc)
    by_test false b h g = g

module _ (s : Files) (sound : IsSound s) (whole : IsWhole s.tree) (n : ℕ) (free : at s.open_files.descriptors n ≡ None) (word : n < 2 ^ 32) (room : s.open_files.made.things + 3 < 2 ^ 31) where
  same_may : (t : FileTree) (i : ℕ) → SameInodes s.tree t → is_there s.tree.nodes i ≡ true → MayBeOpened (record s { tree = t }) n i
  same_may t i same node = record {
    sound = same_is_sound s t sound same;
    free = free;
    word = word;
    room = omega arith;
    node = same.nodes.there i ∙ node;
    bytes = λ none. same.contents i ∙ bytes_there s.tree i whole node (sym (same.directories i) ∙ none);
  }

  present_case : (flags : OpenFlags) (i : ℕ) (b : Bool) → (truncates flags && asks_write flags) ≡ b → is_there s.tree.nodes i ≡ true → (b ≡ true → is_directory s.tree i ≡ false) → IsSound (opened (cond b (record s { tree = emptied s.tree i }) s) flags n i)
  present_case flags i true h node file = opened_kept (record s { tree = emptied s.tree i }) flags n i (same_may (emptied s.tree i) i (emptied_same s.tree i (bytes_there s.tree i whole node (file refl))) node)
  present_case flags i false h node file = opened_kept s flags n i (record { sound = sound; free = free; word = word; room = omega arith; node = node; bytes = bytes_there s.tree i whole node })

  no_directory : (d t a c : Bool) → (d && (a || c)) ≡ false → (t && a) ≡ true → d ≡ false
  no_directory false t a c h g = refl
  no_directory true true true c h g = absurd (let e : true ≡ false = h in cc)
  no_directory true true false c h g = absurd (let e : false ≡ true = g in cc)
  no_directory true false a c h g = absurd (let e : false ≡ true = g in cc)

  admitted_directory : (flags : OpenFlags) (i : ℕ) (y : ⊤) → admitted s flags i ≡ Ok y → (is_directory s.tree i && (asks_write flags || creates flags)) ≡ false
  unfolding admitted
  admitted_directory flags i y h =
      let exclusive = not_refused (creates flags && is_exclusive flags) Exists _ y h in
      (not_refused (is_directory s.tree i && (asks_write flags || creates flags)) IsDirectory _ y exclusive.1).0

  present_sound : (flags : OpenFlags) (i m : ℕ) (after : Files) → is_there s.tree.nodes i ≡ true → opened_present s flags n i ≡ Ok (m, after) → IsSound after
  unfolding opened_present
  present_sound flags i m after node h =
      let fits = then_answered (admitted s flags i) (Ok (n, opened (truncated s flags i) flags n i)) (m, after) h in
      let none = admitted_directory flags i fits.0 fits.1 in
      subst IsSound (same_answer n m (opened (truncated s flags i) flags n i) after fits.2).1
      (present_case flags i (truncates flags && asks_write flags) refl node (λ cut. no_directory (is_directory s.tree i) (truncates flags) (asks_write flags) (creates flags) none cut))

  new_there : (m : Maker) (l : ℕ × List ℕ) (mode : ℕ) → (is_there (making.with_file s.tree m l mode).nodes (next_inode s.tree) ≡ true) × (is_there (making.with_file s.tree m l mode).contents (next_inode s.tree) ≡ true)
  unfolding making.with_file next_inode
  new_there m l mode = (there_at_put (making.with_name s.tree m.time l (new_number s.tree.numbers)).nodes (new_number s.tree.numbers) (making.made_node m (making.file_mode mode)), there_at_put s.tree.contents (new_number s.tree.numbers) [])

  missing_sound : (m : Maker) (l : ℕ × List ℕ) (path : List ℕ) (flags : OpenFlags) (mode k : ℕ) (after : Files) → opened_missing s m l path flags mode n ≡ Ok (k, after) → IsSound after
  unfolding opened_missing
  missing_sound m l path flags mode k after h =
      let wanted = not_refused (not (creates flags)) NoEntry _ (k, after) h in
      let file = not_refused (ends_with_slash path) IsDirectory (Ok (n, opened (with_file s m l mode) flags n (next_inode s.tree))) (k, after) wanted.1 in
      let there = new_there m l mode in
      subst IsSound (same_answer n k (opened (with_file s m l mode) flags n (next_inode s.tree)) after file.1).1
      (opened_kept (with_file s m l mode) flags n (next_inode s.tree) (record {
        sound = counted_suited s (making.with_file s.tree m l mode) 2 sound (omega arith) room (with_file_suits s.open_files.files s.tree m l mode whole.fresh (fresh_closed s (next_inode s.tree) sound whole.fresh));
        free = free;
        word = word;
        room = omega arith;
        node = there.0;
        bytes = λ none. there.1;
      }))

  at_sound : (m : Maker) (l : ℕ × List ℕ) (path : List ℕ) (flags : OpenFlags) (mode k : ℕ) (after : Files) (e : Option ℕ) → is_there s.tree.nodes l.0 ≡ true → last_entry s.tree l path ≡ Ok e → opened_at s m l path flags mode n e ≡ Ok (k, after) → IsSound after
  at_sound m l path flags mode k after None node told h = missing_sound m l path flags mode k after h
  at_sound m l path flags mode k after (Some i) node told h = present_sound flags i k after (last_there s.tree whole l path i node told) h

module _ (s : Files) (limit : ℕ) (m : Maker) (from : ℤ) (path : List ℕ) (flags : OpenFlags) (mode : ℕ) (sound : IsSound s) (whole : IsWhole s.tree) (within : limit ≤ 2 ^ 32) where
  abbrev opened_as : ℕ → ℕ × List ℕ → Option ℕ → Result (ℕ × Files) Errno
  opened_as n l e = opened_at s m l path flags mode n e

  abbrev opened_in : ℕ → ℕ × List ℕ → Result (ℕ × Files) Errno
  opened_in n l = last_entry s.tree l path >>= opened_as n l

  abbrev opened_number : ℕ → Result (ℕ × Files) Errno
  opened_number n = refused_if (is_full s.open_files.made) TableFull >> (refused_if (creates flags && wants_directory flags) InvalidArgument >> (resolve_parent s from path >>= opened_in n))

  open_case : (k : ℕ) (after : Files) → (free_number s.open_files 0 limit >>= opened_number) ≡ Ok (k, after) → IsSound after
  open_case k after h =
      let n = both_answered (free_number s.open_files 0 limit) opened_number (k, after) h in
      let new : IsNewNumber s.open_files 0 limit n.0 = is_new s.open_files 0 limit n.0 n.1 in
      let below : n.0 < limit = new.below in
      let room = not_refused (is_full s.open_files.made) TableFull _ (k, after) n.2 in
      let known = not_refused (creates flags && wants_directory flags) InvalidArgument (resolve_parent s from path >>= opened_in n.0) (k, after) room.1 in
      let l = both_answered (resolve_parent s from path) (opened_in n.0) (k, after) known.1 in
      let e = both_answered (last_entry s.tree l.0 path) (opened_as n.0 l.0) (k, after) l.2 in
      at_sound s sound whole n.0 new.free (omega arith) (room_left s.open_files.made.things room.0) m l.0 path flags mode k after e.0 (parent_there s whole from path l.0 l.1) e.1 e.2

pub open_is_sound : OpenIsSound
open_is_sound s limit m from path flags mode sound whole within = kept_by_settled IsSound s (free_number s.open_files 0 limit >>= opened_number s limit m from path flags mode sound whole within) sound (open_case s limit m from path flags mode sound whole within)
