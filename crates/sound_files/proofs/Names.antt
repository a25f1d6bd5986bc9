-- Names that are made, go and move, and pipes.
use Rattle.std.proofs.Common.{◌≡◌, ◌≢◌, ◌∙◌, ℕ, ℤ, pos, negsuc, ◌+◌, ◌-◌, ◌^◌, ◌==◌, ◌&&◌, ◌||◌, ◌≤◌, ◌<◌, nat_lt, not, Bool, true, false, List, length, cond, Option, Some, None, is_some, is_none, ok_or, Result, Ok, Err, refl, sym, subst, arith}
use Rattle.std.proofs.lemmas.Grind.{common_steps}
use Rattle.std.specs.Bool.{⊤}
use Rattle.kernel_values.specs.Bounds.{at_fdcwd}
use Rattle.kernel_values.specs.Outcome.{◌>>=◌, ◌>>◌, refused_if}
use Rattle.kernel_values.specs.declared.errno.Errno.{Errno}
use Rattle.kernel_values.specs.declared.errno.Errno.TheVariants.{Busy, Exists, InvalidArgument, IsDirectory, NoEntry, NotDirectory, NotEmpty, TableFull}
use Rattle.kernel_values.specs.declared.items.OpenKind.TheVariants.{PipeRead, PipeWrite}
use Rattle.kernel_values.specs.declared.times.TimeSpec.{TimeSpec}
use Rattle.number_maps.specs.NumberMap.{IsAscending, at, put}
use Rattle.file_tables.specs.Directories.{is_dot, is_dot_dot}
use Rattle.file_tables.specs.Names.{ends_with_slash}
use Rattle.file_tables.specs.Numbers.{given, new_number}
use Rattle.file_tables.specs.Places.{lies_inside, moved_into}
use Rattle.file_tables.specs.declared.state.Directory.{Directory}
use Rattle.file_tree.specs.Making as making
use Rattle.file_tree.specs.Making.{next_inode, with_inode_given, with_name}
use Rattle.file_tree.specs.Paths.{is_directory, last_entry}
use Rattle.file_tree.specs.Removing.{spare, unnamed, without_directory, without_name}
use Rattle.file_tree.specs.Renaming as renaming
use Rattle.file_tree.specs.declared.state.FileTree.{FileTree}
use Rattle.file_tree.specs.declared.state.Maker.{Maker}
use Rattle.open_files.specs.Descriptors.{counted}
use Rattle.open_files.specs.Holding.{is_open}
use Rattle.open_files.specs.Made.{is_full}
use Rattle.open_files.specs.Piping as piping
use Rattle.open_files.specs.declared.state.OpenFile.{OpenFile}
use Rattle.open_laws.proofs.Made.{counted_is_sound, made_pipe_is_sound}
use Rattle.map_lemmas.proofs.Maps.{ascending_put, at_put_apart}
use Rattle.map_lemmas.proofs.Steps.{both_answered, kept_by_settled, not_refused, same_answer}
use Rattle.file_store.specs.NewDirectory.{with_directory}
use Rattle.file_store.specs.Paths.{resolve_parent}
use Rattle.file_store.specs.Piping.{with_pipe}
use Rattle.file_store.specs.Removing.{has_open, parent_named, remove_directory, unlink}
use Rattle.file_store.specs.Renaming.{is_entry_open, renamed}
use Rattle.file_store.specs.declared.state.Files.{Files}
use Rattle.sound_files.specs.Laws.{MakeDirectoryIsSound, PipeIsSound, RemoveDirectoryIsSound, RemoveIsSound, RenameIsSound, UnlinkIsSound}
use Rattle.sound_files.specs.Sound.{Belongs, IsApart, IsFresh, IsSound}
use Rattle.sound_files.proofs.Changes.{given_suits, name_same, unname_ascends, unname_same, unnamed_suits, with_directory_suits, without_directory_suits}
use Rattle.sound_files.proofs.Opened.{free_above, fresh_closed, installed_belongs, suited_is_sound}
use Rattle.sound_files.proofs.Trees.{Suits, belongs_still, suits_then}
use Rattle.sound_files.proofs.Views.{SameInodes, moved_there, same_nodes, same_suits}

pub then_answered : {A B : Type 0} (r : Result A Errno) (q : Result B Errno) (x : B) → (r >> q) ≡ Ok x → (a : A) × (r ≡ Ok a) × (q ≡ Ok x)
then_answered (Ok a) q x h = (a, refl, h)
then_answered (Err e) q x h = cc

last_refused : (b : Bool) (e : Errno) (x : ⊤) → refused_if b e ≡ Ok x → b ≡ false
last_refused true e x h = cc
last_refused false e x h = refl

-- things may still be made
pub room_left : (things : ℕ) → nat_lt (2 ^ 31 - 5) things ≡ false → things + 3 < 2 ^ 31
room_left things h = grind (arith, common_steps)

-- an answer with a tree in which what is open is what it was
answered_suited : (s after : Files) (t : FileTree) (x : ⊤) → IsSound s → Suits s.open_files.files s.tree t → ◌≡◌ {A = Result (⊤ × Files) Errno} (Ok (tt, record s { tree = t })) (Ok (x, after)) → IsSound after
answered_suited s after t x sound suits h = subst IsSound (same_answer tt x (record s { tree = t }) after h).1 (suited_is_sound s t sound suits)

-- the same, and things were counted
pub counted_suited : (s : Files) (t : FileTree) (things : ℕ) → IsSound s → things ≤ 3 → s.open_files.made.things + 3 < 2 ^ 31 → Suits s.open_files.files s.tree t → IsSound (record { tree = t; open_files = counted s.open_files things })
counted_suited s t things sound few room suits = record {
  open_files = counted_is_sound s.open_files things sound.open_files (omega arith);
  belong = belongs_still s.open_files.files s.tree t sound.belong suits;
}

-- ---- directories that are made
abbrev made_at : Files → Maker → ℕ → ℕ × List ℕ → Option ℕ → Result (⊤ × Files) Errno
made_at s maker mode l n = refused_if (is_some n) Exists >> Ok (tt, with_directory s maker l mode)

abbrev made_in : Files → Maker → List ℕ → ℕ → ℕ × List ℕ → Result (⊤ × Files) Errno
made_in s maker path mode l = last_entry s.tree l path >>= made_at s maker mode l

pub make_directory_is_sound : MakeDirectoryIsSound
make_directory_is_sound s m from path mode sound fresh = kept_by_settled IsSound s (refused_if (is_full s.open_files.made) TableFull >> (resolve_parent s from path >>= made_in s m path mode)) sound by_place
  where
    by_place : (x : ⊤) (after : Files) → (refused_if (is_full s.open_files.made) TableFull >> (resolve_parent s from path >>= made_in s m path mode)) ≡ Ok (x, after) → IsSound after
    by_place x after h =
        let room = not_refused (is_full s.open_files.made) TableFull (resolve_parent s from path >>= made_in s m path mode) (x, after) h in
        let l = both_answered (resolve_parent s from path) (made_in s m path mode) (x, after) room.1 in
        let n = both_answered (last_entry s.tree l.0 path) (made_at s m mode l.0) (x, after) l.2 in
        let made = not_refused (is_some n.0) Exists (Ok (tt, with_directory s m l.0 mode)) (x, after) n.2 in
        subst IsSound (same_answer tt x (with_directory s m l.0 mode) after made.1).1
        (counted_suited s (making.with_directory s.tree m l.0 mode) 2 sound (omega arith) (room_left s.open_files.made.things room.0) (with_directory_suits s.open_files.files s.tree m l.0 mode fresh (fresh_closed s (next_inode s.tree) sound fresh)))

-- ---- pipes
apart_given : (t : FileTree) → IsFresh t (new_number t.numbers) → IsApart (with_inode_given t) (new_number t.numbers)
unfolding with_inode_given given
apart_given t fresh = record { least = fresh.least; given = omega arith; image = fresh.image; nodeless = fresh.nodeless }

apart_next : (t : FileTree) → IsFresh t (next_inode t) → IsApart (with_inode_given t) (next_inode t)
unfolding next_inode
apart_next t fresh = apart_given t fresh

pipe_belongs : (s : Files) (flags : ℕ) (n : ℕ × ℕ) → IsSound s → IsFresh s.tree (next_inode s.tree) → Belongs (with_inode_given s.tree) (piping.with_pipe s.open_files flags n (next_inode s.tree)).files
unfolding piping.with_pipe
pipe_belongs s flags n sound fresh =
    let t : FileTree = with_inode_given s.tree in
    let i : ℕ = next_inode s.tree in
    let files : List (ℕ × OpenFile) = s.open_files.files in
    let k : ℕ = s.open_files.made.last_serial + 1 in
    let r : OpenFile = piping.pipe_end i PipeRead 0 flags in
    let w : OpenFile = piping.pipe_end i PipeWrite 1 flags in
    let old : Belongs t files = belongs_still files s.tree t sound.belong (given_suits files s.tree fresh) in
    let first : Belongs t (put files k r) = installed_belongs t files k r sound.open_files.ascend.files (free_above s k sound (omega arith)) (apart_next s.tree fresh) old in
    let other : k + 1 ≢ k = λ (e : k + 1 ≡ k). absurd (omega arith) in
    installed_belongs t (put files k r) (k + 1) w (ascending_put files k r sound.open_files.ascend.files) (at_put_apart files (k + 1) k r other ∙ free_above s (k + 1) sound (omega arith)) (apart_next s.tree fresh) first

abbrev pipe_at : Files → ℕ → ℕ × ℕ → Result ((ℕ × ℕ) × Files) Errno
pipe_at s flags n = Ok (n, with_pipe s flags n)

pub pipe_is_sound : PipeIsSound
pipe_is_sound s limit flags sound fresh word = kept_by_settled IsSound s (piping.pipe_numbers s.open_files limit flags >>= pipe_at s flags) sound by_numbers
  where
    by_numbers : (x : ℕ × ℕ) (after : Files) → (piping.pipe_numbers s.open_files limit flags >>= pipe_at s flags) ≡ Ok (x, after) → IsSound after
    by_numbers x after h =
        let n = both_answered (piping.pipe_numbers s.open_files limit flags) (pipe_at s flags) (x, after) h in
        subst IsSound (same_answer n.0 x (with_pipe s flags n.0) after n.2).1 (record {
          open_files = made_pipe_is_sound s.open_files limit flags n.0 (next_inode s.tree) sound.open_files word n.1 (fresh_closed s (next_inode s.tree) sound fresh);
          belong = pipe_belongs s flags n.0 sound fresh;
        })

-- ---- names that go
unlinked_suits : (s : Files) (now : TimeSpec) (l : ℕ × List ℕ) (i : ℕ) → IsAscending s.tree.nodes → Suits s.open_files.files s.tree (unnamed (without_name s.tree now l) i (has_open s i))
unlinked_suits s now l i ascend =
    let t : FileTree = without_name s.tree now l in
    suits_then s.open_files.files s.tree t (unnamed t i (has_open s i)) (same_suits s.open_files.files s.tree t (unname_same s.tree now l)) (unnamed_suits s.open_files.files t i (has_open s i) (unname_ascends s.tree now l ascend) refl)

abbrev unlinked : Files → TimeSpec → ℕ × List ℕ → ℕ → Result (⊤ × Files) Errno
unlinked s now l i = refused_if (is_directory s.tree i) IsDirectory >> Ok (tt, record s { tree = unnamed (without_name s.tree now l) i (has_open s i) })

abbrev unlinked_as : Files → TimeSpec → ℕ × List ℕ → Option ℕ → Result (⊤ × Files) Errno
unlinked_as s now l n = ok_or n NoEntry >>= unlinked s now l

abbrev unlinked_in : Files → TimeSpec → List ℕ → ℕ × List ℕ → Result (⊤ × Files) Errno
unlinked_in s now path l = last_entry s.tree l path >>= unlinked_as s now l

pub unlink_is_sound : UnlinkIsSound
unlink_is_sound s now from path sound ascend = kept_by_settled IsSound s (resolve_parent s from path >>= unlinked_in s now path) sound by_place
  where
    by_place : (x : ⊤) (after : Files) → (resolve_parent s from path >>= unlinked_in s now path) ≡ Ok (x, after) → IsSound after
    by_place x after h =
        let l = both_answered (resolve_parent s from path) (unlinked_in s now path) (x, after) h in
        let n = both_answered (last_entry s.tree l.0 path) (unlinked_as s now l.0) (x, after) l.2 in
        let i = both_answered (ok_or n.0 NoEntry) (unlinked s now l.0) (x, after) n.2 in
        let file = not_refused (is_directory s.tree i.0) IsDirectory (Ok (tt, record s { tree = unnamed (without_name s.tree now l.0) i.0 (has_open s i.0) })) (x, after) i.2 in
        answered_suited s after (unnamed (without_name s.tree now l.0) i.0 (has_open s i.0)) x sound (unlinked_suits s now l.0 i.0 ascend) file.1

either_false : (a b : Bool) → (a || b) ≡ false → b ≡ false
either_false true b h = absurd (let e : true ≡ false = h in cc)
either_false false b h = h

spare_of : FileTree → ℕ → Bool → Directory → Result ⊤ Errno
spare_of t i held d = refused_if (not (length d.names == 0)) NotEmpty >> refused_if ((t.working == i) || held) Busy

spare_closed : (t : FileTree) (i : ℕ) (held : Bool) (x : ⊤) → spare t i held ≡ Ok x → held ≡ false
unfolding spare spare_of
spare_closed t i held x h =
    let d = both_answered (ok_or (at t.directories i) NotDirectory) (spare_of t i held) x h in
    let empty = then_answered (refused_if (not (length d.0.names == 0)) NotEmpty) (refused_if ((t.working == i) || held) Busy) x d.2 in
    either_false (t.working == i) held (last_refused ((t.working == i) || held) Busy x empty.2)

removed_suits : (s : Files) (now : TimeSpec) (l : ℕ × List ℕ) (i : ℕ) → IsAscending s.tree.nodes → has_open s i ≡ false → Suits s.open_files.files s.tree (without_directory (without_name s.tree now l) i)
removed_suits s now l i ascend closed =
    let t : FileTree = without_name s.tree now l in
    suits_then s.open_files.files s.tree t (without_directory t i) (same_suits s.open_files.files s.tree t (unname_same s.tree now l)) (without_directory_suits s.open_files.files t i (unname_ascends s.tree now l ascend) closed)

abbrev removed : Files → TimeSpec → ℕ × List ℕ → ℕ → Result (⊤ × Files) Errno
removed s now l i = spare s.tree i (has_open s i) >> Ok (tt, record s { tree = without_directory (without_name s.tree now l) i })

abbrev removed_as : Files → TimeSpec → ℕ × List ℕ → Option ℕ → Result (⊤ × Files) Errno
removed_as s now l n = ok_or n NoEntry >>= removed s now l

abbrev removed_in : Files → TimeSpec → List ℕ → ℕ × List ℕ → Result (⊤ × Files) Errno
removed_in s now path l = refused_if (is_dot l.1) InvalidArgument >> (refused_if (is_dot_dot l.1) NotEmpty >> (refused_if (length l.1 == 0) Busy >> (last_entry s.tree l path >>= removed_as s now l)))

pub remove_directory_is_sound : RemoveDirectoryIsSound
remove_directory_is_sound s now from path sound ascend = kept_by_settled IsSound s (parent_named s from path >>= removed_in s now path) sound by_place
  where
    by_place : (x : ⊤) (after : Files) → (parent_named s from path >>= removed_in s now path) ≡ Ok (x, after) → IsSound after
    by_place x after h =
        let l = both_answered (parent_named s from path) (removed_in s now path) (x, after) h in
        let dot = not_refused (is_dot l.0.1) InvalidArgument _ (x, after) l.2 in
        let up = not_refused (is_dot_dot l.0.1) NotEmpty _ (x, after) dot.1 in
        let name = not_refused (length l.0.1 == 0) Busy (last_entry s.tree l.0 path >>= removed_as s now l.0) (x, after) up.1 in
        let n = both_answered (last_entry s.tree l.0 path) (removed_as s now l.0) (x, after) name.1 in
        let i = both_answered (ok_or n.0 NoEntry) (removed s now l.0) (x, after) n.2 in
        let free = then_answered (spare s.tree i.0 (has_open s i.0)) (Ok (tt, record s { tree = without_directory (without_name s.tree now l.0) i.0 })) (x, after) i.2 in
        answered_suited s after (without_directory (without_name s.tree now l.0) i.0) x sound (removed_suits s now l.0 i.0 ascend (spare_closed s.tree i.0 (has_open s i.0) free.0 free.1)) free.2

by_flags : (s : Files) (now : TimeSpec) (from : ℤ) (path : List ℕ) (a b : Bool) → IsSound s → IsAscending s.tree.nodes → IsSound (cond a (unlink s now from path) (cond b (remove_directory s now from path) (Err InvalidArgument, s))).1
by_flags s now from path true b sound ascend = unlink_is_sound s now from path sound ascend
by_flags s now from path false true sound ascend = remove_directory_is_sound s now from path sound ascend
by_flags s now from path false false sound ascend = sound

pub remove_is_sound : RemoveIsSound
remove_is_sound s now from path (pos n) sound ascend = by_flags s now from path (n == 0) (n == 0x200) sound ascend
remove_is_sound s now from path (negsuc n) sound ascend = sound

-- ---- names that move
replaced_closed : (t : FileTree) (i j : ℕ) (held directory : Bool) (x : ⊤) → is_directory t j ≡ true → cond directory (spare t j held) (refused_if (is_directory t j) IsDirectory) ≡ Ok x → held ≡ false
replaced_closed t i j held true x there h = spare_closed t j held x h
replaced_closed t i j held false x there h = absurd (let e : is_directory t j ≡ false = last_refused (is_directory t j) IsDirectory x h in let clash : true ≡ false = sym there ∙ e in cc)

-- a directory that is replaced isn't open
pub record MayReplace (t : FileTree) (j : ℕ) (held : Bool) : Type 0 where
  pub closed : is_directory t j ≡ true → held ≡ false

may_replace : (t : FileTree) (i j : ℕ) (held : Bool) (x : ⊤) → renaming.replaceable t i (Some j) held ≡ Ok x → MayReplace t j held
unfolding renaming.replaceable
may_replace t i j held x h = record { closed = λ there. replaced_closed t i j held (is_directory t i) x there h }

dropped_case : (files : List (ℕ × OpenFile)) (t : FileTree) (j : ℕ) (b : Bool) → IsAscending t.nodes → is_directory t j ≡ b → (b ≡ true → is_open files j ≡ false) → Suits files t (cond b (without_directory t j) (unnamed t j (is_open files j)))
dropped_case files t j true ascend there closed = without_directory_suits files t j ascend (closed refl)
dropped_case files t j false ascend there closed = unnamed_suits files t j (is_open files j) ascend refl

dropped_suits : (files : List (ℕ × OpenFile)) (t : FileTree) (j : ℕ) → IsAscending t.nodes → (is_directory t j ≡ true → is_open files j ≡ false) → Suits files t (renaming.dropped t j (is_open files j))
unfolding renaming.dropped
dropped_suits files t j ascend closed = dropped_case files t j (is_directory t j) ascend refl closed

displaced_suits : (s : Files) (now : TimeSpec) (l m : ℕ × List ℕ) (e : Option ℕ) → IsAscending s.tree.nodes → ((j : ℕ) → e ≡ Some j → MayReplace s.tree j (has_open s j)) → Suits s.open_files.files s.tree (renaming.displaced (without_name s.tree now l) now m e (is_entry_open s e))
displaced_suits s now l m None ascend may = same_suits s.open_files.files s.tree (without_name s.tree now l) (unname_same s.tree now l)
displaced_suits s now l m (Some j) ascend may =
    let files : List (ℕ × OpenFile) = s.open_files.files in
    let t : FileTree = without_name s.tree now l in
    let u : FileTree = without_name t now m in
    let first : SameInodes s.tree t = unname_same s.tree now l in
    let second : SameInodes t u = unname_same t now m in
    let both : Suits files s.tree u = suits_then files s.tree t u (same_suits files s.tree t first) (same_suits files t u second) in
    let closed = λ (there : is_directory u j ≡ true). (may j refl).closed (sym (second.directories j ∙ first.directories j) ∙ there) in
    suits_then files s.tree u (renaming.dropped u j (has_open s j)) both (dropped_suits files u j (unname_ascends t now m (unname_ascends s.tree now l ascend)) closed)

moved_same : (t : FileTree) (i q : ℕ) → SameInodes t (record t { directories = moved_into t.directories i q })
moved_same t i q = record { nodes = same_nodes t.nodes; directories = moved_there t.directories i q; contents = λ k. refl; numbers = refl }

renamed_suits : (s : Files) (now : TimeSpec) (l m : ℕ × List ℕ) (i : ℕ) (e : Option ℕ) → IsAscending s.tree.nodes → ((j : ℕ) → e ≡ Some j → MayReplace s.tree j (has_open s j)) → Suits s.open_files.files s.tree (renaming.renamed s.tree now l m i e (is_entry_open s e))
unfolding renaming.renamed
renamed_suits s now l m i e ascend may =
    let files : List (ℕ × OpenFile) = s.open_files.files in
    let t : FileTree = renaming.displaced (without_name s.tree now l) now m e (is_entry_open s e) in
    let a : FileTree = with_name t now m i in
    let u : FileTree = record a { directories = moved_into a.directories i m.0 } in
    suits_then files s.tree a u (suits_then files s.tree t a (displaced_suits s now l m e ascend may) (same_suits files t a (name_same t now m i))) (same_suits files a u (moved_same a i m.0))

module _ (s : Files) (now : TimeSpec) (old new : List ℕ) (sound : IsSound s) (ascend : IsAscending s.tree.nodes) where
  abbrev moved_as : ℕ × List ℕ → ℕ × List ℕ → ℕ → Option ℕ → Bool → Result (⊤ × Files) Errno
  moved_as l m i e same = cond same (Ok (tt, s)) (renaming.may_move s.tree i m new e (is_entry_open s e) >> Ok (tt, renamed s now l m i e))

  abbrev moved_to : ℕ × List ℕ → ℕ × List ℕ → ℕ → Option ℕ → Result (⊤ × Files) Errno
  moved_to l m i e = moved_as l m i e (renaming.is_same i e)

  abbrev moved_of : ℕ × List ℕ → ℕ × List ℕ → ℕ → Result (⊤ × Files) Errno
  moved_of l m i = last_entry s.tree m new >>= moved_to l m i

  abbrev moved_from : ℕ × List ℕ → ℕ × List ℕ → Option ℕ → Result (⊤ × Files) Errno
  moved_from l m n = ok_or n NoEntry >>= moved_of l m

  abbrev moved_at : ℕ × List ℕ → ℕ × List ℕ → Result (⊤ × Files) Errno
  moved_at l m = refused_if (renaming.is_fixed l.1 || renaming.is_fixed m.1) Busy >> (last_entry s.tree l old >>= moved_from l m)

  abbrev moved_in : ℕ × List ℕ → Result (⊤ × Files) Errno
  moved_in l = parent_named s at_fdcwd new >>= moved_at l

  may_move_replaces : (i : ℕ) (m : ℕ × List ℕ) (e : Option ℕ) (held : Bool) (y : ⊤) → renaming.may_move s.tree i m new e held ≡ Ok y → renaming.replaceable s.tree i e held ≡ Ok y
  unfolding renaming.may_move
  may_move_replaces i m e held y h =
      let slash = then_answered {A = ⊤} (refused_if (not (is_directory s.tree i) && is_none e && ends_with_slash new) NotDirectory) _ y h in
      let below = then_answered {A = ⊤} (refused_if (is_directory s.tree i && lies_inside s.tree.directories i m.0) InvalidArgument) (renaming.replaceable s.tree i e held) y slash.2 in
      below.2

  moved_case : (l m : ℕ × List ℕ) (i : ℕ) (e : Option ℕ) (same : Bool) (x : ⊤) (after : Files) → s.open_files.made.things + 3 < 2 ^ 31 → moved_as l m i e same ≡ Ok (x, after) → IsSound after
  moved_case l m i e true x after room h = subst IsSound (same_answer tt x s after h).1 sound
  moved_case l m i e false x after room h =
      let may = then_answered (renaming.may_move s.tree i m new e (is_entry_open s e)) (Ok (tt, renamed s now l m i e)) (x, after) h in
      let free : renaming.replaceable s.tree i e (is_entry_open s e) ≡ Ok may.0 = may_move_replaces i m e (is_entry_open s e) may.0 may.1 in
      subst IsSound (same_answer tt x (renamed s now l m i e) after may.2).1
      (counted_suited s (renaming.renamed s.tree now l m i e (is_entry_open s e)) 1 sound (omega arith) room (renamed_suits s now l m i e ascend (λ j is. may_replace s.tree i j (has_open s j) may.0 (subst (λ (o : Option ℕ). renaming.replaceable s.tree i o (is_entry_open s o) ≡ Ok may.0) is free))))

  moved_sound : (x : ⊤) (after : Files) → (refused_if (is_full s.open_files.made) TableFull >> (parent_named s at_fdcwd old >>= moved_in)) ≡ Ok (x, after) → IsSound after
  moved_sound x after h =
      let room = not_refused (is_full s.open_files.made) TableFull (parent_named s at_fdcwd old >>= moved_in) (x, after) h in
      let l = both_answered (parent_named s at_fdcwd old) moved_in (x, after) room.1 in
      let m = both_answered (parent_named s at_fdcwd new) (moved_at l.0) (x, after) l.2 in
      let free = not_refused (renaming.is_fixed l.0.1 || renaming.is_fixed m.0.1) Busy (last_entry s.tree l.0 old >>= moved_from l.0 m.0) (x, after) m.2 in
      let n = both_answered (last_entry s.tree l.0 old) (moved_from l.0 m.0) (x, after) free.1 in
      let i = both_answered (ok_or n.0 NoEntry) (moved_of l.0 m.0) (x, after) n.2 in
      let e = both_answered (last_entry s.tree m.0 new) (moved_to l.0 m.0 i.0) (x, after) i.2 in
      moved_case l.0 m.0 i.0 e.0 (renaming.is_same i.0 e.0) x after (room_left s.open_files.made.things room.0) e.2

pub rename_is_sound : RenameIsSound
rename_is_sound s now old new sound ascend = kept_by_settled IsSound s (refused_if (is_full s.open_files.made) TableFull >> (parent_named s at_fdcwd old >>= moved_in s now old new sound ascend)) sound (moved_sound s now old new sound ascend)
