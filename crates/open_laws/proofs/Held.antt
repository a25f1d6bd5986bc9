-- Which open files descriptors name, and which inodes open files have, by the entries of their maps.
use Rattle.std.proofs.Common.{◌≡◌, ◌≢◌, ◌∙◌, ℕ, ◌==◌, ◌||◌, Bool, true, false, List, Some, inl, inr, refl, ap, sym, arith}
use Rattle.std.proofs.lemmas.Grind.{common_steps}
use Rattle.number_maps.specs.NumberMap.{IsAscending, at, put, removed}
use Rattle.socket_tables.specs.Sockets as sockets
use Rattle.socket_tables.specs.Sockets.{no_sockets}
use Rattle.open_files.specs.Holding.{is_held, is_open, names}
use Rattle.open_files.specs.declared.state.Descriptor.{Descriptor}
use Rattle.open_files.specs.declared.state.OpenFile.{OpenFile}
use Rattle.open_files.specs.declared.state.OpenFiles.{OpenFiles}
use Rattle.map_lemmas.proofs.Maps.{at_put, at_put_apart, at_removed_apart, one_or_other, same_there}
use Rattle.open_laws.proofs.Values.{Passes, any_at, any_found}

pub same_number : (a b : ℕ) → a ≡ b → (a == b) ≡ true
same_number a b same = grind (arith, common_steps)

pub equal_number : (a b : ℕ) → (a == b) ≡ true → a ≡ b
equal_number a b h = grind (arith, common_steps)

-- ---- descriptors
abbrev has_serial : ℕ → Descriptor → Bool
has_serial serial d = d.serial == serial

pub names_at : (t : List (ℕ × Descriptor)) (n serial : ℕ) (d : Descriptor) → at t n ≡ Some d → d.serial ≡ serial → names t serial ≡ true
unfolding names
names_at t n serial d h same = any_at (has_serial serial) t n d h (same_number d.serial serial same)

-- a descriptor that names an open file
pub record Names (t : List (ℕ × Descriptor)) (serial : ℕ) : Type 0 where
  pub number : ℕ
  pub descriptor : Descriptor
  pub there : at t number ≡ Some descriptor
  pub same : descriptor.serial ≡ serial

pub names_found : (t : List (ℕ × Descriptor)) (serial : ℕ) → IsAscending t → names t serial ≡ true → Names t serial
unfolding names
names_found t serial s h =
    let p : Passes (has_serial serial) t = any_found (has_serial serial) t s h in
    record { number = p.key; descriptor = p.value; there = p.there; same = equal_number p.value.serial serial p.passes }

pub held_is : (s : OpenFiles) (serial : ℕ) → names s.descriptors serial ≡ true → is_held s serial ≡ true
unfolding is_held
held_is s serial h = rw h refl

or_none : (a : Bool) → (a || false) ≡ a
or_none true = refl
or_none false = refl

-- where no socket was made, descriptors alone hold open files
pub held_names : (s : OpenFiles) (serial : ℕ) (b : Bool) → s.sockets ≡ no_sockets → is_held s serial ≡ b → names s.descriptors serial ≡ b
unfolding is_held sockets.is_held
held_names s serial b none h = sym (rw none (or_none (names s.descriptors serial))) ∙ h

-- a descriptor in the place of none, or of one of the same open file
pub names_put : (t : List (ℕ × Descriptor)) (n : ℕ) (d : Descriptor) (serial : ℕ) → IsAscending t → ((old : Descriptor) → at t n ≡ Some old → old.serial ≡ d.serial) → names t serial ≡ true → names (put t n d) serial ≡ true
names_put t n d serial s keeps h = by_number (names_found t serial s h)
  where
    by_number : Names t serial → names (put t n d) serial ≡ true
    by_number p = elim (one_or_other p.number n) [
      | inl same ↦ names_at (put t n d) n serial d (at_put t n d) (sym (keeps p.descriptor (ap (at t) (sym same) ∙ p.there)) ∙ p.same)
      | inr other ↦ names_at (put t n d) p.number serial p.descriptor (at_put_apart t p.number n d other ∙ p.there) p.same
    ]

-- what another open file is named by stays where a descriptor goes
pub names_removed : (t : List (ℕ × Descriptor)) (n : ℕ) (d : Descriptor) (serial : ℕ) → IsAscending t → at t n ≡ Some d → serial ≢ d.serial → names t serial ≡ true → names (removed t n) serial ≡ true
names_removed t n d serial s there apart h = by_number (names_found t serial s h)
  where
    by_number : Names t serial → names (removed t n) serial ≡ true
    by_number p = elim (one_or_other p.number n) [
      | inl same ↦ absurd (apart (sym p.same ∙ ap (λ (x : Descriptor). x.serial) (same_there t n p.descriptor d (ap (at t) (sym same) ∙ p.there) there)))
      | inr other ↦ names_at (removed t n) p.number serial p.descriptor (at_removed_apart t p.number n other ∙ p.there) p.same
    ]

-- ---- open files
abbrev has_inode : ℕ → OpenFile → Bool
has_inode inode f = f.inode == inode

pub open_at : (t : List (ℕ × OpenFile)) (serial inode : ℕ) (f : OpenFile) → at t serial ≡ Some f → f.inode ≡ inode → is_open t inode ≡ true
unfolding is_open
open_at t serial inode f h same = any_at (has_inode inode) t serial f h (same_number f.inode inode same)

-- an open file of an inode
pub record Opens (t : List (ℕ × OpenFile)) (inode : ℕ) : Type 0 where
  pub serial : ℕ
  pub file : OpenFile
  pub there : at t serial ≡ Some file
  pub same : file.inode ≡ inode

pub open_found : (t : List (ℕ × OpenFile)) (inode : ℕ) → IsAscending t → is_open t inode ≡ true → Opens t inode
unfolding is_open
open_found t inode s h =
    let p : Passes (has_inode inode) t = any_found (has_inode inode) t s h in
    record { serial = p.key; file = p.value; there = p.there; same = equal_number p.value.inode inode p.passes }

-- an open file in the place of none, or of one of the same inode
pub open_put : (t : List (ℕ × OpenFile)) (serial : ℕ) (f : OpenFile) (inode : ℕ) → IsAscending t → ((old : OpenFile) → at t serial ≡ Some old → old.inode ≡ f.inode) → is_open t inode ≡ true → is_open (put t serial f) inode ≡ true
open_put t serial f inode s keeps h = by_serial (open_found t inode s h)
  where
    by_serial : Opens t inode → is_open (put t serial f) inode ≡ true
    by_serial p = elim (one_or_other p.serial serial) [
      | inl same ↦ open_at (put t serial f) serial inode f (at_put t serial f) (sym (keeps p.file (ap (at t) (sym same) ∙ p.there)) ∙ p.same)
      | inr other ↦ open_at (put t serial f) p.serial inode p.file (at_put_apart t p.serial serial f other ∙ p.there) p.same
    ]

-- what has another inode stays where an open file goes
pub open_removed : (t : List (ℕ × OpenFile)) (serial : ℕ) (f : OpenFile) (inode : ℕ) → IsAscending t → at t serial ≡ Some f → inode ≢ f.inode → is_open t inode ≡ true → is_open (removed t serial) inode ≡ true
open_removed t serial f inode s there apart h = by_serial (open_found t inode s h)
  where
    by_serial : Opens t inode → is_open (removed t serial) inode ≡ true
    by_serial p = elim (one_or_other p.serial serial) [
      | inl same ↦ absurd (apart (sym p.same ∙ ap (λ (x : OpenFile). x.inode) (same_there t serial p.file f (ap (at t) (sym same) ∙ p.there) there)))
      | inr other ↦ open_at (removed t serial) p.serial inode p.file (at_removed_apart t p.serial serial other ∙ p.there) p.same
    ]
