-- A descriptor that was copied, and its copy closed.
use Rattle.std.proofs.Common.{◌≡◌, ◌≢◌, ◌∙◌, ℕ, ℤ, pos, negsuc, ◌-◌, ◌^◌, ◌<◌, ◌≤◌, ◌==◌, int_le, nat_lt, Bool, true, false, List, [], ◌∷◌, cond, Option, Some, None, ok_or, Result, Ok, Err, refl, ap, sym, subst, arith}
use Rattle.std.proofs.lemmas.Grind.{common_steps}
use Rattle.std.proofs.lemmas.Bool.Decides.{nat_tests}
use Rattle.std.specs.BTreeMap.{is_at}
use Rattle.std.specs.Bool.{⊤}
use Rattle.std.specs.Ordering.{nat_cmp}
use Rattle.kernel_values.specs.Outcome.{◌>>=◌, ◌>>◌, refused_if}
use Rattle.kernel_values.specs.declared.errno.Errno.{Errno}
use Rattle.kernel_values.specs.declared.errno.Errno.TheVariants.{BadDescriptor, InvalidArgument, TableFull, TooManyDescriptors}
use Rattle.number_maps.specs.NumberMap.{at, first_free, put, removed}
use Rattle.open_files.specs.Descriptors.{descriptor_of, number_of, open_file, with_descriptor, without_descriptor}
use Rattle.open_files.specs.Holding.{is_held, names}
use Rattle.open_files.specs.Made.{is_full}
use Rattle.open_files.specs.Numbers.{duplicate, free_number, from_least}
use Rattle.open_files.specs.declared.state.Descriptor.{Descriptor}
use Rattle.open_files.specs.declared.state.OpenFile.{OpenFile}
use Rattle.open_files.specs.declared.state.OpenFiles.{OpenFiles}
use Rattle.file_tree.specs.Removing.{without_locks_on}
use Rattle.file_store.specs.Descriptors.{close, closed}
use Rattle.file_store.specs.Releasing.{released, unlocked_as, without_locks}
use Rattle.file_store.specs.declared.state.Files.{Files}
use Rattle.file_laws.specs.Copies.{ClosedCopyLeavesTheOthers, CopyNamesTheSame, LeavesTheOthers, OthersStay}
use Rattle.map_lemmas.proofs.Maps.{at_put, at_put_apart, at_removed_apart, is_free, vacant}
use Rattle.map_lemmas.proofs.Steps.{both_answered, not_refused, operation_answered, same_answer, same_value}

-- ---- numbers of descriptors
number_case : (k m : ℕ) (b : Bool) → cond {A = Result ℕ Errno} b (Ok k) (Err BadDescriptor) ≡ Ok m → pos k ≡ pos m
number_case k m true h = let same : k ≡ m = cc in ap pos same
number_case k m false h = cc

is_number : (fd : ℤ) (m : ℕ) → number_of fd ≡ Ok m → fd ≡ pos m
unfolding number_of
is_number (pos k) m h = number_case k m (nat_lt k (2 ^ 32)) h
is_number (negsuc k) m h = cc

small_number : (n : ℕ) → n < 2 ^ 32 → number_of (pos n) ≡ Ok n
unfolding number_of
small_number n h = grind (arith, nat_tests)

-- ---- a descriptor at which the maps agree
found_in : OpenFiles → ℕ → Result (ℕ × Descriptor) Errno
found_in s n = ok_or (at s.descriptors n) BadDescriptor >>= λ d. Ok (n, d)

descriptor_case : (before after : OpenFiles) (r : Result ℕ Errno) → ((m : ℕ) → r ≡ Ok m → at after.descriptors m ≡ at before.descriptors m) → (r >>= found_in after) ≡ (r >>= found_in before)
unfolding found_in
descriptor_case before after (Ok m) agree = rw (agree m refl) refl
descriptor_case before after (Err e) agree = refl

descriptor_stays : (before after : OpenFiles) (fd : ℤ) → ((m : ℕ) → fd ≡ pos m → at after.descriptors m ≡ at before.descriptors m) → descriptor_of after fd ≡ descriptor_of before fd
unfolding descriptor_of found_in
descriptor_stays before after fd agree = descriptor_case before after (number_of fd) (λ m h. agree m (is_number fd m h))

open_file_stays : (before after : OpenFiles) (fd : ℤ) → after.files ≡ before.files → descriptor_of after fd ≡ descriptor_of before fd → open_file after fd ≡ open_file before fd
unfolding open_file
open_file_stays before after fd files descriptor = rw (descriptor, files) refl

others_stay : (before after : OpenFiles) (n : ℕ) → after.files ≡ before.files → ((m : ℕ) → m ≢ n → at after.descriptors m ≡ at before.descriptors m) → OthersStay before after n
others_stay before after n files agree other apart =
    let descriptor : descriptor_of after other ≡ descriptor_of before other = descriptor_stays before after other (λ m h. agree m (λ same. apart (h ∙ ap pos same))) in
    record { descriptor = descriptor; opened = open_file_stays before after other files descriptor }

-- ---- what a copy found and made
pub record Copied (s after : OpenFiles) (fd : ℤ) (cloexec : Bool) (n : ℕ) : Type 0 where
  pub old : ℕ × Descriptor
  pub named : descriptor_of s fd ≡ Ok old
  pub free : at s.descriptors n ≡ None
  pub small : n < 2 ^ 32
  pub made : after ≡ with_descriptor s n (record { serial = old.1.serial; cloexec = cloexec })

found : {V : Type 0} (o : Option V) (e : Errno) (v : V) → ok_or o e ≡ Ok v → o ≡ Some v
found None e v h = cc
found (Some w) e v h = let same : w ≡ v = cc in ap Some same

abbrev copy_at : OpenFiles → Bool → ℕ × Descriptor → ℕ → Result (ℕ × OpenFiles) Errno
copy_at s cloexec old n = refused_if (is_full s.made) TableFull >> Ok (n, with_descriptor s n (record { serial = old.1.serial; cloexec = cloexec }))

abbrev copy_of : OpenFiles → ℕ → ℤ → Bool → ℕ × Descriptor → Result (ℕ × OpenFiles) Errno
copy_of s limit least cloexec old = refused_if (int_le (pos limit) least) InvalidArgument >> (free_number s (from_least least) limit >>= copy_at s cloexec old)

copy_answered : (s : OpenFiles) (limit : ℕ) (fd least : ℤ) (cloexec : Bool) (n : ℕ) → limit ≤ 2 ^ 32 → (duplicate s limit fd least cloexec).0 ≡ Ok n → Copied s (duplicate s limit fd least cloexec).1 fd cloexec n
copy_answered s limit fd least cloexec n word h =
    let after : OpenFiles = (duplicate s limit fd least cloexec).1 in
    let old = both_answered (descriptor_of s fd) (copy_of s limit least cloexec) (n, after) (operation_answered s _ n h) in
    let number = both_answered (free_number s (from_least least) limit) (copy_at s cloexec old.0) (n, after) (not_refused (int_le (pos limit) least) InvalidArgument _ (n, after) old.2).1 in
    let made = not_refused (is_full s.made) TableFull (Ok (number.0, with_descriptor s number.0 (record { serial = old.0.1.serial; cloexec = cloexec }))) (n, after) number.2 in
    let same = same_answer number.0 n (with_descriptor s number.0 (record { serial = old.0.1.serial; cloexec = cloexec })) after made.1 in
    let first : first_free s.descriptors (from_least least) (limit - from_least least) ≡ Some n = found _ TooManyDescriptors n (number.1 ∙ ap Ok same.0) in
    let free = is_free s.descriptors (from_least least) (limit - from_least least) n first in
    record {
      old = old.0;
      named = old.1;
      free = vacant (at s.descriptors n) free.0;
      small = omega (arith, word, free.1, free.2);
      made = sym same.1 ∙ ap (λ (k : ℕ). with_descriptor s k (record { serial = old.0.1.serial; cloexec = cloexec })) same.0;
    }

-- ---- the copy
nothing_open : (s : OpenFiles) (n : ℕ) → n < 2 ^ 32 → at s.descriptors n ≡ None → open_file s (pos n) ≡ Err BadDescriptor
unfolding open_file descriptor_of
nothing_open s n small free = rw (small_number n small, free) refl

named_at : (s : OpenFiles) (n : ℕ) (d : Descriptor) → n < 2 ^ 32 → descriptor_of (with_descriptor s n d) (pos n) ≡ Ok (n, d)
unfolding descriptor_of
named_at s n d small = rw (small_number n small, at_put s.descriptors n d) refl

names_the_same : (s : OpenFiles) (fd : ℤ) (n : ℕ) (cloexec : Bool) (old : ℕ × Descriptor) → n < 2 ^ 32 → descriptor_of s fd ≡ Ok old → open_file (with_descriptor s n (record { serial = old.1.serial; cloexec = cloexec })) (pos n) ≡ open_file s fd
unfolding open_file
names_the_same s fd n cloexec old small named = rw (named_at s n (record { serial = old.1.serial; cloexec = cloexec }) small, named) refl

pub copy_names_the_same : CopyNamesTheSame
copy_names_the_same s limit fd least cloexec n word h =
    let c : Copied s (duplicate s limit fd least cloexec).1 fd cloexec n = copy_answered s limit fd least cloexec n word h in
    let d : Descriptor = record { serial = c.old.1.serial; cloexec = cloexec } in (
      nothing_open s n c.small c.free,
      ap (λ (o : OpenFiles). open_file o (pos n)) c.made ∙ names_the_same s fd n cloexec c.old c.small c.named,
      subst (λ (o : OpenFiles). OthersStay s o n) (sym c.made) (others_stay s (with_descriptor s n d) n refl (λ m other. at_put_apart s.descriptors m n d other)),
    )

-- ---- its close
names_case : (e : ℕ × Descriptor) (t : List (ℕ × Descriptor)) (q : ℕ) (d : Descriptor) (b : Bool) → (at t q ≡ Some d → names t d.serial ≡ true) → cond b (Some e.1) (at t q) ≡ Some d → names (e ∷ t) d.serial ≡ true
unfolding names
names_case e t q d true rec h =
    let same : e.1.serial ≡ d.serial = cc in
    let passes : (e.1.serial == d.serial) ≡ true = grind (arith, common_steps) in
    rw passes refl
names_case e t q d false rec h = rw (rec h) (grind (arith, common_steps))

names_at : (t : List (ℕ × Descriptor)) (q : ℕ) (d : Descriptor) → at t q ≡ Some d → names t d.serial ≡ true
names_at [] q d h = cc
names_at (e ∷ t) q d h = names_case e t q d (is_at (nat_cmp q) e.0) (names_at t q d) h

-- another descriptor still names the open file
still_named : (s : OpenFiles) (fd : ℤ) (n : ℕ) (old : ℕ × Descriptor) (d : Descriptor) → descriptor_of s fd ≡ Ok old → at s.descriptors n ≡ None → names (removed (put s.descriptors n d) n) old.1.serial ≡ true
unfolding descriptor_of
still_named s fd n old d named free =
    let number = both_answered (number_of fd) _ old named in
    let entry = both_answered (ok_or (at s.descriptors number.0) BadDescriptor) (λ (e : Descriptor). Ok (number.0, e)) old number.2 in
    let there : at s.descriptors number.0 ≡ Some old.1 = found (at s.descriptors number.0) BadDescriptor old.1 (entry.1 ∙ ap Ok (ap (λ (x : ℕ × Descriptor). x.1) (same_value (number.0, entry.0) old entry.2))) in
    let other : number.0 ≢ n = λ same. absurd (nothing_there (at s.descriptors n) old.1 free (ap (at s.descriptors) (sym same) ∙ there)) in
    names_at (removed (put s.descriptors n d) n) number.0 old.1 (at_removed_apart (put s.descriptors n d) number.0 n other ∙ at_put_apart s.descriptors number.0 n d other ∙ there)
  where
    nothing_there : (o : Option Descriptor) (e : Descriptor) → o ≡ None → o ≡ Some e → ⊥
    nothing_there o e h k = cc

unlocked_open : (s : Files) (o : Option OpenFile) → (unlocked_as s o).open_files ≡ s.open_files
unlocked_open s None = refl
unlocked_open s (Some f) = refl

unlocked_bytes : (s : Files) (o : Option OpenFile) → (unlocked_as s o).tree.contents ≡ s.tree.contents
unfolding without_locks_on
unlocked_bytes s None = refl
unlocked_bytes s (Some f) = refl

held_stays : (s : Files) (serial : ℕ) → names s.open_files.descriptors serial ≡ true → released s serial ≡ s
unfolding released is_held
held_stays s serial held = rw held refl

closed_held : (s : Files) (n serial : ℕ) → names (removed s.open_files.descriptors n) serial ≡ true → closed s n serial ≡ unlocked_as (record s { open_files = without_descriptor s.open_files n }) (at s.open_files.files serial)
unfolding closed without_locks
closed_held s n serial held =
    let y : Files = record s { open_files = without_descriptor s.open_files n } in
    let o : Option OpenFile = at s.open_files.files serial in
    held_stays (unlocked_as y o) serial (subst (λ (t : OpenFiles). names t.descriptors serial ≡ true) (sym (unlocked_open y o)) held)

leaves_the_others : (s : Files) (n : ℕ) (d : Descriptor) (o : Option OpenFile) → LeavesTheOthers s (unlocked_as (record s { open_files = without_descriptor (with_descriptor s.open_files n d) n }) o) n
leaves_the_others s n d o =
    let y : Files = record s { open_files = without_descriptor (with_descriptor s.open_files n d) n } in
    let descriptors : List (ℕ × Descriptor) = s.open_files.descriptors in
    let others : OthersStay s.open_files y.open_files n = others_stay s.open_files y.open_files n refl (λ m other. at_removed_apart (put descriptors n d) m n other ∙ at_put_apart descriptors m n d other) in
    record {
      others = subst (λ (t : OpenFiles). OthersStay s.open_files t n) (sym (unlocked_open y o)) others;
      bytes = unlocked_bytes y o;
      waiting = ap (λ (t : OpenFiles). t.pipes) (unlocked_open y o);
      sockets = ap (λ (t : OpenFiles). t.sockets) (unlocked_open y o);
    }

close_of : (s : Files) (n : ℕ) (d : Descriptor) → n < 2 ^ 32 → close (record s { open_files = with_descriptor s.open_files n d }) (pos n) ≡ (Ok tt, closed (record s { open_files = with_descriptor s.open_files n d }) n d.serial)
close_of s n d small = rw (named_at s.open_files n d small) refl

pub closed_copy_leaves_the_others : ClosedCopyLeavesTheOthers
closed_copy_leaves_the_others s limit fd least cloexec n word h =
    let c : Copied s.open_files (duplicate s.open_files limit fd least cloexec).1 fd cloexec n = copy_answered s.open_files limit fd least cloexec n word h in
    let d : Descriptor = record { serial = c.old.1.serial; cloexec = cloexec } in
    let x : Files = record s { open_files = with_descriptor s.open_files n d } in
    let held : names (removed x.open_files.descriptors n) d.serial ≡ true = still_named s.open_files fd n c.old d c.named c.free in
    let outcome : close x (pos n) ≡ (Ok tt, unlocked_as (record x { open_files = without_descriptor x.open_files n }) (at x.open_files.files d.serial)) = close_of s n d c.small ∙ ap (λ (t : Files). (Ok tt, t)) (closed_held x n d.serial held) in
    let P : Result ⊤ Errno × Files → Type 0 = λ r. (r.0 ≡ Ok tt) × LeavesTheOthers s r.1 n in
    subst (λ (o : OpenFiles). P (close (record s { open_files = o }) (pos n))) (sym c.made) (subst P (sym outcome) (refl, leaves_the_others s n d (at x.open_files.files d.serial)))
