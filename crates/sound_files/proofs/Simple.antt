-- Operations that change bytes, times, locks or the working directory alone, and the flags of what is open.
use Rattle.std.proofs.Common.{◌≡◌, ℕ, ℤ, pos, ◌+◌, ◌%◌, ◌==◌, ◌||◌, int_le, int_lt, nat_abs, nat_lt, not, Bool, List, Option, Some, Result, Ok, refl, ap, sym, subst}
use Rattle.std.specs.Bool.{⊤}
use Rattle.kernel_values.specs.Bounds.{at_fdcwd, most_file_bytes}
use Rattle.kernel_values.specs.OpenFlags.{can_write, with_status}
use Rattle.kernel_values.specs.Outcome.{◌>>=◌, ◌>>◌, refused_if}
use Rattle.kernel_values.specs.declared.errno.Errno.{Errno}
use Rattle.kernel_values.specs.declared.errno.Errno.TheVariants.{BadDescriptor, FileTooLarge, IllegalSeek, InvalidArgument, IsDirectory, NoDevice, NotDirectory}
use Rattle.kernel_values.specs.declared.open_flags.OpenFlags.{OpenFlags}
use Rattle.kernel_values.specs.declared.status.FileTimes.{FileTimes}
use Rattle.kernel_values.specs.declared.times.TimeSpec.{TimeSpec}
use Rattle.number_maps.specs.NumberMap.{at}
use Rattle.file_tables.specs.Times.{are_bad_times}
use Rattle.file_tree.specs.Lengths.{retimed, with_end, with_length}
use Rattle.file_tree.specs.Paths.{is_directory}
use Rattle.file_tree.specs.Working.{with_working}
use Rattle.file_tree.specs.declared.state.FileTree.{FileTree}
use Rattle.open_files.specs.Descriptors.{descriptor_of, open_file, with_descriptor, with_open_file}
use Rattle.open_files.specs.Kinds.{is_of_file, is_of_pipe}
use Rattle.open_files.specs.Numbers.{duplicate}
use Rattle.open_files.specs.declared.state.Descriptor.{Descriptor}
use Rattle.open_files.specs.declared.state.OpenFile.{OpenFile}
use Rattle.open_files.specs.declared.state.OpenFiles.{OpenFiles}
use Rattle.open_laws.proofs.Follows.{copy_found, copy_of, open_file_found}
use Rattle.open_laws.proofs.Named as named
use Rattle.map_lemmas.proofs.Steps.{both_answered, kept_by_settled, not_refused, same_answer}
use Rattle.file_store.specs.Lengths.{length_of, raises_length}
use Rattle.file_store.specs.Paths.{resolve}
use Rattle.file_store.specs.Retiming.{is_times_flags, retimed_inode}
use Rattle.file_store.specs.declared.state.Files.{Files}
use Rattle.sound_files.specs.Laws.{AllocateIsSound, ChangeDirectoryIsSound, CopyIsSound, SetFdFlagsIsSound, SetOpenFlagsIsSound, SetTimesIsSound, TruncateIsSound, TruncateOpenIsSound}
use Rattle.sound_files.specs.Sound.{Belongs, IsSound}
use Rattle.sound_files.proofs.Changes.{end_same, length_same, times_same, working_same}
use Rattle.sound_files.proofs.Opened.{changed_belongs, suited_is_sound}
use Rattle.sound_files.proofs.Views.{SameInodes, same_suits}

-- another tree in which each inode is what it was
pub same_is_sound : (s : Files) (t : FileTree) → IsSound s → SameInodes s.tree t → IsSound (record s { tree = t })
same_is_sound s t sound same = suited_is_sound s t sound (same_suits s.open_files.files s.tree t same)

-- an answer with such a tree
answered_same : (s after : Files) (t : FileTree) (x : ⊤) → IsSound s → SameInodes s.tree t → ◌≡◌ {A = Result (⊤ × Files) Errno} (Ok (tt, record s { tree = t })) (Ok (x, after)) → IsSound after
answered_same s after t x sound same h = subst IsSound (same_answer tt x (record s { tree = t }) after h).1 (same_is_sound s t sound same)

-- ---- lengths
abbrev cut_in : Files → TimeSpec → ℕ → ℕ → Result (⊤ × Files) Errno
cut_in s now n i = refused_if (is_directory s.tree i) IsDirectory >> Ok (tt, record s { tree = with_length s.tree now i n })

abbrev cut_at : Files → TimeSpec → List ℕ → ℕ → Result (⊤ × Files) Errno
cut_at s now path n = resolve s at_fdcwd path >>= cut_in s now n

pub truncate_is_sound : TruncateIsSound
truncate_is_sound s now path wanted sound = kept_by_settled IsSound s (length_of wanted >>= cut_at s now path) sound by_length
  where
    by_length : (x : ⊤) (after : Files) → (length_of wanted >>= cut_at s now path) ≡ Ok (x, after) → IsSound after
    by_length x after h =
        let n = both_answered (length_of wanted) (cut_at s now path) (x, after) h in
        let i = both_answered (resolve s at_fdcwd path) (cut_in s now n.0) (x, after) n.2 in
        let file = not_refused (is_directory s.tree i.0) IsDirectory (Ok (tt, record s { tree = with_length s.tree now i.0 n.0 })) (x, after) i.2 in
        answered_same s after (with_length s.tree now i.0 n.0) x sound (length_same s.tree now i.0 n.0) file.1

abbrev cut_open : Files → TimeSpec → ℕ × OpenFile → ℕ → Result (⊤ × Files) Errno
cut_open s now f n = refused_if (not (is_of_file f.1.kind) || not (can_write f.1.flags)) InvalidArgument >> Ok (tt, record s { tree = with_length s.tree now f.1.inode n })

abbrev cut_of : Files → TimeSpec → ℤ → ℕ × OpenFile → Result (⊤ × Files) Errno
cut_of s now wanted f = length_of wanted >>= cut_open s now f

pub truncate_open_is_sound : TruncateOpenIsSound
truncate_open_is_sound s now fd wanted sound = kept_by_settled IsSound s (open_file s.open_files fd >>= cut_of s now wanted) sound by_file
  where
    by_file : (x : ⊤) (after : Files) → (open_file s.open_files fd >>= cut_of s now wanted) ≡ Ok (x, after) → IsSound after
    by_file x after h =
        let f = both_answered (open_file s.open_files fd) (cut_of s now wanted) (x, after) h in
        let n = both_answered (length_of wanted) (cut_open s now f.0) (x, after) f.2 in
        let file = not_refused (not (is_of_file f.0.1.kind) || not (can_write f.0.1.flags)) InvalidArgument (Ok (tt, record s { tree = with_length s.tree now f.0.1.inode n.0 })) (x, after) n.2 in
        answered_same s after (with_length s.tree now f.0.1.inode n.0) x sound (length_same s.tree now f.0.1.inode n.0) file.1

module _ (s : Files) (mode offset count : ℤ) (sound : IsSound s) where
  abbrev end : ℕ
  end = nat_abs offset + nat_abs count

  abbrev raised_as : ℕ × OpenFile → Bool → Result (⊤ × Files) Errno
  raised_as f raises = refused_if (is_of_pipe f.1.kind) IllegalSeek >> (refused_if (not (is_of_file f.1.kind)) NoDevice >> (refused_if (nat_lt most_file_bytes end) FileTooLarge >> Ok (tt, record s { tree = with_end s.tree raises f.1.inode end })))

  abbrev raised_of : ℕ × OpenFile → Result (⊤ × Files) Errno
  raised_of f = refused_if (not (can_write f.1.flags)) BadDescriptor >> (refused_if (int_lt offset (pos 0) || int_le count (pos 0)) InvalidArgument >> (raises_length mode >>= raised_as f))

  raised_case : (f : ℕ × OpenFile) (x : ⊤) (after : Files) → raised_of f ≡ Ok (x, after) → IsSound after
  raised_case f x after h =
      let writes = not_refused (not (can_write f.1.flags)) BadDescriptor _ (x, after) h in
      let known = not_refused (int_lt offset (pos 0) || int_le count (pos 0)) InvalidArgument (raises_length mode >>= raised_as f) (x, after) writes.1 in
      let raises = both_answered (raises_length mode) (raised_as f) (x, after) known.1 in
      let pipe = not_refused (is_of_pipe f.1.kind) IllegalSeek _ (x, after) raises.2 in
      let file = not_refused (not (is_of_file f.1.kind)) NoDevice _ (x, after) pipe.1 in
      let small = not_refused (nat_lt most_file_bytes end) FileTooLarge (Ok (tt, record s { tree = with_end s.tree raises.0 f.1.inode end })) (x, after) file.1 in
      answered_same s after (with_end s.tree raises.0 f.1.inode end) x sound (end_same s.tree raises.0 f.1.inode end) small.1

pub allocate_is_sound : AllocateIsSound
allocate_is_sound s fd mode offset count sound = kept_by_settled IsSound s (open_file s.open_files fd >>= raised_of s mode offset count sound) sound by_file
  where
    by_file : (x : ⊤) (after : Files) → (open_file s.open_files fd >>= raised_of s mode offset count sound) ≡ Ok (x, after) → IsSound after
    by_file x after h =
        let f = both_answered (open_file s.open_files fd) (raised_of s mode offset count sound) (x, after) h in
        raised_case s mode offset count sound f.0 x after f.2

-- ---- times
abbrev times_in : Files → TimeSpec → Option FileTimes → ℕ → Result (⊤ × Files) Errno
times_in s now times i = refused_if (are_bad_times times) InvalidArgument >> Ok (tt, record s { tree = retimed s.tree i now times })

abbrev times_at : Files → TimeSpec → ℤ → Option (List ℕ) → Option FileTimes → ℤ → Result (⊤ × Files) Errno
times_at s now from path times flags = refused_if (not (is_times_flags flags)) InvalidArgument >> (retimed_inode s from path >>= times_in s now times)

pub set_times_is_sound : SetTimesIsSound
set_times_is_sound s now from path times flags sound = kept_by_settled IsSound s (times_at s now from path times flags) sound by_flags
  where
    by_flags : (x : ⊤) (after : Files) → times_at s now from path times flags ≡ Ok (x, after) → IsSound after
    by_flags x after h =
        let known = not_refused (not (is_times_flags flags)) InvalidArgument (retimed_inode s from path >>= times_in s now times) (x, after) h in
        let i = both_answered (retimed_inode s from path) (times_in s now times) (x, after) known.1 in
        let good = not_refused (are_bad_times times) InvalidArgument (Ok (tt, record s { tree = retimed s.tree i.0 now times })) (x, after) i.2 in
        answered_same s after (retimed s.tree i.0 now times) x sound (times_same s.tree i.0 now times) good.1

-- ---- the working directory
abbrev working_in : Files → ℕ → Result (⊤ × Files) Errno
working_in s i = refused_if (not (is_directory s.tree i)) NotDirectory >> Ok (tt, record s { tree = with_working s.tree i })

pub change_directory_is_sound : ChangeDirectoryIsSound
change_directory_is_sound s from path sound = kept_by_settled IsSound s (resolve s from path >>= working_in s) sound by_inode
  where
    by_inode : (x : ⊤) (after : Files) → (resolve s from path >>= working_in s) ≡ Ok (x, after) → IsSound after
    by_inode x after h =
        let i = both_answered (resolve s from path) (working_in s) (x, after) h in
        let there = not_refused (not (is_directory s.tree i.0)) NotDirectory (Ok (tt, record s { tree = with_working s.tree i.0 })) (x, after) i.2 in
        answered_same s after (with_working s.tree i.0) x sound (working_same s.tree i.0) there.1

-- ---- the flags of what is open, and copies
files_same : (s : Files) (o : OpenFiles) → o.files ≡ s.open_files.files → Belongs s.tree s.open_files.files → Belongs s.tree o.files
files_same s o same b = subst (Belongs s.tree) (sym same) b

pub copy_is_sound : CopyIsSound
copy_is_sound s limit fd least cloexec sound word = record {
  open_files = named.duplicate_is_sound s.open_files limit fd least cloexec sound.open_files word;
  belong = files_same s (duplicate s.open_files limit fd least cloexec).1 (kept_by_settled (λ (o : OpenFiles). o.files ≡ s.open_files.files) s.open_files (descriptor_of s.open_files fd >>= copy_of s.open_files limit least cloexec) refl (λ n after h. ap (λ (o : OpenFiles). o.files) (copy_found s.open_files after limit fd least cloexec n h).made)) sound.belong;
}

abbrev marked_as : OpenFiles → Bool → ℕ × Descriptor → Result (⊤ × OpenFiles) Errno
marked_as s cloexec d = Ok (tt, with_descriptor s d.0 (record d.1 { cloexec = cloexec }))

pub set_fd_flags_is_sound : SetFdFlagsIsSound
set_fd_flags_is_sound s fd word sound = record {
  open_files = named.set_fd_flags_is_sound s.open_files fd word sound.open_files;
  belong = kept_by_settled (λ (o : OpenFiles). Belongs s.tree o.files) s.open_files (descriptor_of s.open_files fd >>= marked_as s.open_files (word % 2 == 1)) sound.belong by_descriptor;
}
  where
    by_descriptor : (x : ⊤) (after : OpenFiles) → (descriptor_of s.open_files fd >>= marked_as s.open_files (word % 2 == 1)) ≡ Ok (x, after) → Belongs s.tree after.files
    by_descriptor x after h =
        let d = both_answered (descriptor_of s.open_files fd) (marked_as s.open_files (word % 2 == 1)) (x, after) h in
        subst (λ (o : OpenFiles). Belongs s.tree o.files) (same_answer tt x (with_descriptor s.open_files d.0.0 (record d.0.1 { cloexec = word % 2 == 1 })) after d.2).1 sound.belong

abbrev flagged : OpenFiles → OpenFlags → ℕ × OpenFile → Result (⊤ × OpenFiles) Errno
flagged s given f = Ok (tt, with_open_file s f.0 (record f.1 { flags = with_status f.1.flags given }))

pub set_open_flags_is_sound : SetOpenFlagsIsSound
set_open_flags_is_sound s fd given sound = record {
  open_files = named.set_open_flags_is_sound s.open_files fd given sound.open_files;
  belong = kept_by_settled (λ (o : OpenFiles). Belongs s.tree o.files) s.open_files (open_file s.open_files fd >>= flagged s.open_files given) sound.belong by_file;
}
  where
    by_file : (x : ⊤) (after : OpenFiles) → (open_file s.open_files fd >>= flagged s.open_files given) ≡ Ok (x, after) → Belongs s.tree after.files
    by_file x after h =
        let f = both_answered (open_file s.open_files fd) (flagged s.open_files given) (x, after) h in
        let g : OpenFile = record f.0.1 { flags = with_status f.0.1.flags given } in
        let there : at s.open_files.files f.0.0 ≡ Some f.0.1 = (open_file_found s.open_files fd f.0 f.1).there in
        subst (λ (o : OpenFiles). Belongs s.tree o.files) (same_answer tt x (with_open_file s.open_files f.0.0 g) after f.2).1
        (changed_belongs s.tree s.open_files.files f.0.0 f.0.1 g sound.open_files.ascend.files there refl refl sound.belong)
