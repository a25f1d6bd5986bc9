-- What follows where the open files are sound.
use Rattle.std.proofs.Common.{◌≡◌, ◌∙◌, ℕ, ℤ, ◌+◌, ◌-◌, ◌≤◌, ◌==◌, ◌&&◌, ◌||◌, int_le, pos, Bool, true, false, Option, Some, None, is_some, ok_or, Result, Ok, Err, refl, ap, sym, subst, arith}
use Rattle.std.proofs.lemmas.Grind.{common_steps}
use Rattle.std.specs.Result.{is_ok}
use Rattle.kernel_values.specs.Outcome.{◌>>=◌, ◌>>◌, refused_if}
use Rattle.kernel_values.specs.declared.errno.Errno.{Errno}
use Rattle.kernel_values.specs.declared.errno.Errno.TheVariants.{BadDescriptor, InvalidArgument, TableFull, TooManyDescriptors}
use Rattle.kernel_values.specs.declared.items.OpenKind.{OpenKind}
use Rattle.kernel_values.specs.declared.items.OpenKind.TheVariants.{File, Directory, PipeRead, PipeWrite, Stream, Datagram, RuleSocket}
use Rattle.number_maps.specs.NumberMap.{at, first_free}
use Rattle.open_files.specs.Descriptors.{descriptor_of, number_of, open_file, with_descriptor}
use Rattle.open_files.specs.Holding.{has_reader, has_writer}
use Rattle.open_files.specs.Kinds.{is_of_pipe, is_reader, is_writer}
use Rattle.open_files.specs.Made.{is_full}
use Rattle.open_files.specs.Numbers.{duplicate, free_number, from_least}
use Rattle.open_files.specs.declared.state.Descriptor.{Descriptor}
use Rattle.open_files.specs.declared.state.OpenFile.{OpenFile}
use Rattle.open_files.specs.declared.state.OpenFiles.{OpenFiles}
use Rattle.open_laws.specs.Laws.{CopyHasNewNumber, DescriptorHasOpenFile, IsNewNumber, NextSerialIsFree, PairHasNewNumbers, PipeHasAnEnd}
use Rattle.open_laws.specs.Sound.{IsSoundFile, is_there}
use Rattle.open_laws.proofs.Held.{Opens, open_found, same_number}
use Rattle.map_lemmas.proofs.Maps.{is_free, some_there, vacant}
use Rattle.map_lemmas.proofs.Steps.{both_answered, not_refused, operation_answered, same_answer, same_value}
use Rattle.open_laws.proofs.Values.{any_at}

pub found : {V : Type 0} (o : Option V) (e : Errno) (v : V) → ok_or o e ≡ Ok v → o ≡ Some v
found None e v h = cc
found (Some w) e v h = let same : w ≡ v = cc in ap Some same

-- ---- a descriptor that is open
pub record IsDescriptor (s : OpenFiles) (d : ℕ × Descriptor) : Type 0 where
  pub there : at s.descriptors d.0 ≡ Some d.1

pub descriptor_found : (s : OpenFiles) (fd : ℤ) (d : ℕ × Descriptor) → descriptor_of s fd ≡ Ok d → IsDescriptor s d
unfolding descriptor_of
descriptor_found s fd d h =
    let number = both_answered (number_of fd) _ d h in
    let entry = both_answered (ok_or (at s.descriptors number.0) BadDescriptor) (λ (e : Descriptor). Ok (number.0, e)) d number.2 in
    let same : (number.0, entry.0) ≡ d = same_value (number.0, entry.0) d entry.2 in
    let there : at s.descriptors number.0 ≡ Some entry.0 = found (at s.descriptors number.0) BadDescriptor entry.0 entry.1 in
    record { there = ap (λ (x : ℕ × Descriptor). at s.descriptors x.0) (sym same) ∙ there ∙ ap (λ (x : ℕ × Descriptor). Some x.1) same }

-- the open file of a descriptor
pub record IsOpenFile (s : OpenFiles) (f : ℕ × OpenFile) : Type 0 where
  pub there : at s.files f.0 ≡ Some f.1

pub open_file_found : (s : OpenFiles) (fd : ℤ) (f : ℕ × OpenFile) → open_file s fd ≡ Ok f → IsOpenFile s f
unfolding open_file
open_file_found s fd f h =
    let d = both_answered (descriptor_of s fd) _ f h in
    let entry = both_answered (ok_or (at s.files d.0.1.serial) BadDescriptor) (λ (e : OpenFile). Ok (d.0.1.serial, e)) f d.2 in
    let same : (d.0.1.serial, entry.0) ≡ f = same_value (d.0.1.serial, entry.0) f entry.2 in
    let there : at s.files d.0.1.serial ≡ Some entry.0 = found (at s.files d.0.1.serial) BadDescriptor entry.0 entry.1 in
    record { there = ap (λ (x : ℕ × OpenFile). at s.files x.0) (sym same) ∙ there ∙ ap (λ (x : ℕ × OpenFile). Some x.1) same }

abbrev file_as : ℕ × Descriptor → Option OpenFile → Result (ℕ × OpenFile) Errno
file_as d o = ok_or o BadDescriptor >>= λ f. Ok (d.1.serial, f)

abbrev file_of : OpenFiles → ℕ × Descriptor → Result (ℕ × OpenFile) Errno
file_of s d = file_as d (at s.files d.1.serial)

there_is_ok : (d : ℕ × Descriptor) (o : Option OpenFile) → is_some o ≡ true → is_ok (file_as d o) ≡ true
there_is_ok d None h = absurd (let e : false ≡ true = h in cc)
there_is_ok d (Some f) h = refl

descriptor_case : (s : OpenFiles) (r : Result (ℕ × Descriptor) Errno) → ((d : ℕ × Descriptor) → r ≡ Ok d → is_there s.files d.1.serial ≡ true) → is_ok (r >>= file_of s) ≡ is_ok r
descriptor_case s (Ok d) there = there_is_ok d (at s.files d.1.serial) (there d refl)
descriptor_case s (Err e) there = refl

pub descriptor_has_open_file : DescriptorHasOpenFile
unfolding open_file
descriptor_has_open_file s fd sound = descriptor_case s (descriptor_of s fd) (λ d h. (sound.descriptors d.0 d.1 (descriptor_found s fd d h).there).there)

-- ---- serial numbers
pub next_serial_is_free : NextSerialIsFree
next_serial_is_free s sound = by_file (at s.files (s.made.last_serial + 1)) refl
  where
    by_file : (o : Option OpenFile) → at s.files (s.made.last_serial + 1) ≡ o → o ≡ None
    by_file None h = refl
    by_file (Some f) h = absurd (let e : IsSoundFile s (s.made.last_serial + 1) f = sound.files (s.made.last_serial + 1) f h in let g : s.made.last_serial + 1 ≤ s.made.last_serial = e.given in omega arith)

-- ---- the ends of pipes
end_case : (kind : OpenKind) → is_of_pipe kind ≡ true → (is_reader kind || is_writer kind) ≡ true
end_case File h = cc
end_case Directory h = cc
end_case PipeRead h = refl
end_case PipeWrite h = refl
end_case Stream h = cc
end_case Datagram h = cc
end_case RuleSocket h = cc

abbrev reads : ℕ → OpenFile → Bool
reads inode f = (f.inode == inode) && is_reader f.kind

abbrev writes : ℕ → OpenFile → Bool
writes inode f = (f.inode == inode) && is_writer f.kind

either_end : (s : OpenFiles) (inode serial : ℕ) (f : OpenFile) (r w : Bool) → at s.files serial ≡ Some f → f.inode ≡ inode → is_reader f.kind ≡ r → is_writer f.kind ≡ w → (r || w) ≡ true → (has_reader s.files inode || has_writer s.files inode) ≡ true
unfolding has_reader has_writer
either_end s inode serial f true w there same reader writer h =
    let passes : reads inode f ≡ true = rw (same_number f.inode inode same, reader) refl in
    rw (any_at (reads inode) s.files serial f there passes) refl
either_end s inode serial f false true there same reader writer h =
    let passes : writes inode f ≡ true = rw (same_number f.inode inode same, writer) refl in
    rw (any_at (writes inode) s.files serial f there passes) (grind (arith, common_steps))
either_end s inode serial f false false there same reader writer h = absurd (let e : false ≡ true = h in cc)

pub pipe_has_an_end : PipeHasAnEnd
pipe_has_an_end s inode sound h =
    let bytes = some_there (at s.pipes inode) h in
    let p : Opens s.files inode = open_found s.files inode sound.ascend.files (sound.pipes inode bytes.0 bytes.1).opened in
    let pipe : is_of_pipe p.file.kind ≡ true = sym (sound.files p.serial p.file p.there).ends ∙ ap (is_there s.pipes) p.same ∙ h in
    either_end s inode p.serial p.file (is_reader p.file.kind) (is_writer p.file.kind) p.there p.same refl refl (end_case p.file.kind pipe)

-- ---- new numbers
pub is_new : (s : OpenFiles) (least limit n : ℕ) → free_number s least limit ≡ Ok n → IsNewNumber s least limit n
is_new s least limit n h =
    let first : first_free s.descriptors least (limit - least) ≡ Some n = found _ TooManyDescriptors n h in
    let free = is_free s.descriptors least (limit - least) n first in
    record { free = vacant (at s.descriptors n) free.0; least_kept = free.1; below = omega (arith, free.1, free.2) }

-- what a copy found
pub record IsCopy (s after : OpenFiles) (limit : ℕ) (least : ℤ) (cloexec : Bool) (n : ℕ) : Type 0 where
  pub old : ℕ × Descriptor
  pub named : IsDescriptor s old
  pub new : IsNewNumber s (from_least least) limit n
  pub made : after ≡ with_descriptor s n (record { serial = old.1.serial; cloexec = cloexec })

abbrev copy_at : OpenFiles → Bool → ℕ × Descriptor → ℕ → Result (ℕ × OpenFiles) Errno
copy_at s cloexec old n = refused_if (is_full s.made) TableFull >> Ok (n, with_descriptor s n (record { serial = old.1.serial; cloexec = cloexec }))

abbrev pub copy_of : OpenFiles → ℕ → ℤ → Bool → ℕ × Descriptor → Result (ℕ × OpenFiles) Errno
copy_of s limit least cloexec old = refused_if (int_le (pos limit) least) InvalidArgument >> (free_number s (from_least least) limit >>= copy_at s cloexec old)

pub copy_found : (s after : OpenFiles) (limit : ℕ) (fd least : ℤ) (cloexec : Bool) (n : ℕ) → (descriptor_of s fd >>= copy_of s limit least cloexec) ≡ Ok (n, after) → IsCopy s after limit least cloexec n
copy_found s after limit fd least cloexec n h =
    let old = both_answered (descriptor_of s fd) (copy_of s limit least cloexec) (n, after) h in
    let number = both_answered (free_number s (from_least least) limit) (copy_at s cloexec old.0) (n, after) (not_refused (int_le (pos limit) least) InvalidArgument _ (n, after) old.2).1 in
    let made = not_refused (is_full s.made) TableFull (Ok (number.0, with_descriptor s number.0 (record { serial = old.0.1.serial; cloexec = cloexec }))) (n, after) number.2 in
    let same = same_answer number.0 n (with_descriptor s number.0 (record { serial = old.0.1.serial; cloexec = cloexec })) after made.1 in
    record {
      old = old.0;
      named = descriptor_found s fd old.0 old.1;
      new = is_new s (from_least least) limit n (number.1 ∙ ap Ok same.0);
      made = sym same.1 ∙ ap (λ (k : ℕ). with_descriptor s k (record { serial = old.0.1.serial; cloexec = cloexec })) same.0;
    }

pub copy_has_new_number : CopyHasNewNumber
copy_has_new_number s limit fd least cloexec n h = (copy_found s (duplicate s limit fd least cloexec).1 limit fd least cloexec n (operation_answered s (descriptor_of s fd >>= copy_of s limit least cloexec) n h)).new

abbrev second_of : OpenFiles → ℕ → ℕ → Result (ℕ × ℕ) Errno
second_of s limit first = free_number s (first + 1) limit >>= λ (second : ℕ). Ok (first, second)

pub pair_has_new_numbers : PairHasNewNumbers
pair_has_new_numbers s limit n h =
    let first = both_answered (free_number s 0 limit) (second_of s limit) n h in
    let second = both_answered (free_number s (first.0 + 1) limit) (λ (m : ℕ). Ok (first.0, m)) n first.2 in
    let same : (first.0, second.0) ≡ n = same_value (first.0, second.0) n second.2 in
    subst (λ (x : ℕ × ℕ). IsNewNumber s 0 limit x.0 × IsNewNumber s (x.0 + 1) limit x.1) same (is_new s 0 limit first.0 first.1, is_new s (first.0 + 1) limit second.0 second.1)
