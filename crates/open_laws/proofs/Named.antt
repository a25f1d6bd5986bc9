-- Descriptors that are put at numbers, and open files that change.
use Rattle.std.proofs.Common.{◌≡◌, ◌∙◌, ℕ, ◌%◌, ◌==◌, ◌<◌, Bool, true, Some, Result, Ok, refl, ap, sym, subst, arith}
use Rattle.std.specs.Bool.{⊤}
use Rattle.kernel_values.specs.Outcome.{◌>>=◌}
use Rattle.kernel_values.specs.OpenFlags.{with_status}
use Rattle.kernel_values.specs.declared.errno.Errno.{Errno}
use Rattle.kernel_values.specs.declared.open_flags.OpenFlags.{OpenFlags}
use Rattle.number_maps.specs.NumberMap.{at}
use Rattle.open_files.specs.Descriptors.{descriptor_of, open_file, with_descriptor, with_open_file}
use Rattle.open_files.specs.Holding.{is_held}
use Rattle.open_files.specs.Kinds.{is_of_pipe}
use Rattle.open_files.specs.declared.state.Descriptor.{Descriptor}
use Rattle.open_files.specs.declared.state.OpenFile.{OpenFile}
use Rattle.open_files.specs.declared.state.OpenFiles.{OpenFiles}
use Rattle.open_laws.specs.Laws.{ChangedIsSound, DuplicateIsSound, MayChange, MayName, NamedIsSound, SetFdFlagsIsSound, SetOpenFlagsIsSound}
use Rattle.open_laws.specs.Sound.{IsSound, IsSoundFile, IsSoundPipe, NamesThere, is_there}
use Rattle.open_laws.proofs.Follows.{IsCopy, copy_found, copy_of, descriptor_found, open_file_found}
use Rattle.open_laws.proofs.Held.{held_is, held_names, names_put, open_put}
use Rattle.map_lemmas.proofs.Maps.{ascending_put, every_put, not_both, same_there, there_put}
use Rattle.map_lemmas.proofs.Steps.{both_answered, kept_by_settled, same_answer}

-- ---- descriptors
module _ (s : OpenFiles) (n : ℕ) (d : Descriptor) (sound : IsSound s) (may : MayName s n d) where
  named_file : (serial : ℕ) (f : OpenFile) → at s.files serial ≡ Some f → IsSoundFile (with_descriptor s n d) serial f
  named_file serial f h =
      let e : IsSoundFile s serial f = sound.files serial f h in
      record {
        held = held_is (with_descriptor s n d) serial (names_put s.descriptors n d serial sound.ascend.descriptors may.same (held_names s serial true sound.sockets e.held));
        positive = e.positive;
        given = e.given;
        ends = e.ends;
        position = e.position;
      }

  named_kept : IsSound (with_descriptor s n d)
  named_kept = record {
    ascend = record { descriptors = ascending_put s.descriptors n d sound.ascend.descriptors; files = sound.ascend.files; pipes = sound.ascend.pipes };
    descriptors = every_put (λ m x. NamesThere (with_descriptor s n d) m x) s.descriptors n d (λ m x other h. let e : NamesThere s m x = sound.descriptors m x h in record { word = e.word; there = e.there }) (record { word = may.word; there = may.there });
    files = named_file;
    pipes = λ inode bytes h. let e : IsSoundPipe s inode bytes = sound.pipes inode bytes h in record { opened = e.opened; waits = e.waits };
    made = sound.made;
    sockets = sound.sockets;
  }

pub named_is_sound : NamedIsSound
named_is_sound = named_kept

pub duplicate_is_sound : DuplicateIsSound
duplicate_is_sound s limit fd least cloexec sound word = kept_by_settled IsSound s (descriptor_of s fd >>= copy_of s limit least cloexec) sound (λ n after h. copied n after (copy_found s after limit fd least cloexec n h))
  where
    copied : (n : ℕ) (after : OpenFiles) → IsCopy s after limit least cloexec n → IsSound after
    copied n after c = subst IsSound (sym c.made) (named_kept s n (record { serial = c.old.1.serial; cloexec = cloexec }) sound (record {
      word = (let b : n < limit = c.new.below in omega arith);
      there = (sound.descriptors c.old.0 c.old.1 c.named.there).there;
      same = λ old h. absurd (not_both (at s.descriptors n) old c.new.free h);
    }))

abbrev marked_as : OpenFiles → Bool → ℕ × Descriptor → Result (⊤ × OpenFiles) Errno
marked_as s cloexec d = Ok (tt, with_descriptor s d.0 (record d.1 { cloexec = cloexec }))

pub set_fd_flags_is_sound : SetFdFlagsIsSound
set_fd_flags_is_sound s fd word sound = kept_by_settled IsSound s (descriptor_of s fd >>= marked_as s (word % 2 == 1)) sound by_descriptor
  where
    by_descriptor : (x : ⊤) (after : OpenFiles) → (descriptor_of s fd >>= marked_as s (word % 2 == 1)) ≡ Ok (x, after) → IsSound after
    by_descriptor x after h =
        let d = both_answered (descriptor_of s fd) (marked_as s (word % 2 == 1)) (x, after) h in
        let there : at s.descriptors d.0.0 ≡ Some d.0.1 = (descriptor_found s fd d.0 d.1).there in
        let e : NamesThere s d.0.0 d.0.1 = sound.descriptors d.0.0 d.0.1 there in
        subst IsSound (same_answer tt x (with_descriptor s d.0.0 (record d.0.1 { cloexec = word % 2 == 1 })) after d.2).1
        (named_kept s d.0.0 (record d.0.1 { cloexec = word % 2 == 1 }) sound (record {
          word = e.word;
          there = e.there;
          same = λ old g. ap (λ (y : Descriptor). y.serial) (same_there s.descriptors d.0.0 old d.0.1 g there);
        }))

-- ---- open files
module _ (s : OpenFiles) (serial : ℕ) (f g : OpenFile) (sound : IsSound s) (may : MayChange s serial f g) where
  keeps_inode : (old : OpenFile) → at s.files serial ≡ Some old → old.inode ≡ g.inode
  keeps_inode old h = ap (λ (x : OpenFile). x.inode) (same_there s.files serial old f h may.there) ∙ sym may.inode

  other_file : (q : ℕ) (x : OpenFile) → at s.files q ≡ Some x → IsSoundFile (with_open_file s serial g) q x
  unfolding is_held
  other_file q x h =
      let e : IsSoundFile s q x = sound.files q x h in
      record { held = e.held; positive = e.positive; given = e.given; ends = e.ends; position = e.position }

  changed_file : IsSoundFile (with_open_file s serial g) serial g
  unfolding is_held
  changed_file =
      let e : IsSoundFile s serial f = sound.files serial f may.there in
      record {
        held = e.held;
        positive = e.positive;
        given = e.given;
        ends = ap (is_there s.pipes) may.inode ∙ e.ends ∙ sym (ap is_of_pipe may.kind);
        position = may.position;
      }

  changed_kept : IsSound (with_open_file s serial g)
  changed_kept = record {
    ascend = record { descriptors = sound.ascend.descriptors; files = ascending_put s.files serial g sound.ascend.files; pipes = sound.ascend.pipes };
    descriptors = λ m d h. let e : NamesThere s m d = sound.descriptors m d h in record { word = e.word; there = there_put s.files d.serial serial g e.there };
    files = every_put (λ q x. IsSoundFile (with_open_file s serial g) q x) s.files serial g (λ q x other h. other_file q x h) changed_file;
    pipes = λ inode bytes h. let e : IsSoundPipe s inode bytes = sound.pipes inode bytes h in record { opened = open_put s.files serial g inode sound.ascend.files keeps_inode e.opened; waits = e.waits };
    made = sound.made;
    sockets = sound.sockets;
  }

pub changed_is_sound : ChangedIsSound
changed_is_sound = changed_kept

abbrev flagged : OpenFiles → OpenFlags → ℕ × OpenFile → Result (⊤ × OpenFiles) Errno
flagged s given f = Ok (tt, with_open_file s f.0 (record f.1 { flags = with_status f.1.flags given }))

pub set_open_flags_is_sound : SetOpenFlagsIsSound
set_open_flags_is_sound s fd given sound = kept_by_settled IsSound s (open_file s fd >>= flagged s given) sound by_file
  where
    by_file : (x : ⊤) (after : OpenFiles) → (open_file s fd >>= flagged s given) ≡ Ok (x, after) → IsSound after
    by_file x after h =
        let f = both_answered (open_file s fd) (flagged s given) (x, after) h in
        let there : at s.files f.0.0 ≡ Some f.0.1 = (open_file_found s fd f.0 f.1).there in
        let g : OpenFile = record f.0.1 { flags = with_status f.0.1.flags given } in
        subst IsSound (same_answer tt x (with_open_file s f.0.0 g) after f.2).1
        (changed_kept s f.0.0 f.0.1 g sound (record { there = there; inode = refl; kind = refl; position = (sound.files f.0.0 f.0.1 there).position }))
