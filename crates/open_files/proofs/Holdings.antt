-- Open files and descriptors, one after another.
use Rattle.std.proofs.Common.{◌≡◌, ◌≢◌, ℕ, ◌==◌, ◌&&◌, Bool, true, false, List, [], ◌∷◌, refl, arith}
use Rattle.std.proofs.lemmas.Grind.{common_steps}
use Rattle.std.specs.List.{list_any}
use Rattle.std.specs.Map.{values_of}
use Rattle.open_files.specs.Holding.{has_reader, has_writer, is_open, names}
use Rattle.open_files.specs.Kinds.{is_reader, is_writer}
use Rattle.open_files.specs.declared.state.Descriptor.{Descriptor}
use Rattle.open_files.specs.declared.state.OpenFile.{OpenFile}

same_number : (a b : ℕ) → a ≡ b → (a == b) ≡ true
same_number a b same = grind (arith, common_steps)

other_number : (a b : ℕ) → a ≢ b → (a == b) ≡ false
other_number a b other = grind (arith, common_steps)

-- by a test of values
none_passes : {V : Type 0} (test : V → Bool) (held : List (ℕ × V)) → held ≡ [] → list_any test (values_of held) ≡ false
none_passes test held none = rw none refl

first_passes : {V : Type 0} (test : V → Bool) (held later : List (ℕ × V)) (key : ℕ) (value : V) → held ≡ (key, value) ∷ later → test value ≡ true → list_any test (values_of held) ≡ true
first_passes test held later key value first passes = rw (first, passes) refl

later_passes : {V : Type 0} (test : V → Bool) (held later : List (ℕ × V)) (key : ℕ) (value : V) → held ≡ (key, value) ∷ later → test value ≡ false → list_any test (values_of later) ≡ list_any test (values_of held)
later_passes test held later key value first fails = rw (first, fails) refl

pub no_name : (held : List (ℕ × Descriptor)) (serial : ℕ) → held ≡ [] → names held serial ≡ false
unfolding names
no_name held serial none = none_passes _ held none

pub first_names : (held later : List (ℕ × Descriptor)) (number serial : ℕ) (d : Descriptor) → held ≡ (number, d) ∷ later → d.serial ≡ serial → names held serial ≡ true
unfolding names
first_names held later number serial d first same = first_passes _ held later number d first (same_number d.serial serial same)

pub later_names : (held later : List (ℕ × Descriptor)) (number serial : ℕ) (d : Descriptor) → held ≡ (number, d) ∷ later → d.serial ≢ serial → names later serial ≡ names held serial
unfolding names
later_names held later number serial d first other = later_passes _ held later number d first (other_number d.serial serial other)

pub none_open : (files : List (ℕ × OpenFile)) (inode : ℕ) → files ≡ [] → is_open files inode ≡ false
unfolding is_open
none_open files inode none = none_passes _ files none

pub first_open : (files later : List (ℕ × OpenFile)) (serial inode : ℕ) (file : OpenFile) → files ≡ (serial, file) ∷ later → file.inode ≡ inode → is_open files inode ≡ true
unfolding is_open
first_open files later serial inode file first same = first_passes _ files later serial file first (same_number file.inode inode same)

pub later_open : (files later : List (ℕ × OpenFile)) (serial inode : ℕ) (file : OpenFile) → files ≡ (serial, file) ∷ later → file.inode ≢ inode → is_open later inode ≡ is_open files inode
unfolding is_open
later_open files later serial inode file first other = later_passes _ files later serial file first (other_number file.inode inode other)

pub no_reader : (files : List (ℕ × OpenFile)) (inode : ℕ) → files ≡ [] → has_reader files inode ≡ false
unfolding has_reader
no_reader files inode none = none_passes _ files none

pub first_reads : (files later : List (ℕ × OpenFile)) (serial inode : ℕ) (file : OpenFile) → files ≡ (serial, file) ∷ later → ((file.inode == inode) && is_reader file.kind) ≡ true → has_reader files inode ≡ true
unfolding has_reader
first_reads files later serial inode file first reads = first_passes _ files later serial file first reads

pub later_reads : (files later : List (ℕ × OpenFile)) (serial inode : ℕ) (file : OpenFile) → files ≡ (serial, file) ∷ later → ((file.inode == inode) && is_reader file.kind) ≡ false → has_reader later inode ≡ has_reader files inode
unfolding has_reader
later_reads files later serial inode file first other = later_passes _ files later serial file first other

pub no_writer : (files : List (ℕ × OpenFile)) (inode : ℕ) → files ≡ [] → has_writer files inode ≡ false
unfolding has_writer
no_writer files inode none = none_passes _ files none

pub first_writes : (files later : List (ℕ × OpenFile)) (serial inode : ℕ) (file : OpenFile) → files ≡ (serial, file) ∷ later → ((file.inode == inode) && is_writer file.kind) ≡ true → has_writer files inode ≡ true
unfolding has_writer
first_writes files later serial inode file first writes = first_passes _ files later serial file first writes

pub later_writes : (files later : List (ℕ × OpenFile)) (serial inode : ℕ) (file : OpenFile) → files ≡ (serial, file) ∷ later → ((file.inode == inode) && is_writer file.kind) ≡ false → has_writer later inode ≡ has_writer files inode
unfolding has_writer
later_writes files later serial inode file first other = later_passes _ files later serial file first other
