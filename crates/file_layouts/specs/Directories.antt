-- The records of a directory, as getdents (narrow) and getdents64 (wide) store them.
use Rattle.std.specs.Prelude.{ℕ, ◌+◌, ◌-◌, ◌*◌, ◌/◌, ◌%◌, ◌^◌, Bool, true, false, nat_lt, if◌then◌else◌, List, [], ◌∷◌, ◌++◌, length, drop, replicate, Option, Some, None, Result, Ok, Err}
use Rattle.byteorder.specs.Endian.{little_bytes}
use Rattle.kernel_values.specs.declared.listing.DirEntry.{DirEntry}
use Rattle.file_layouts.specs.declared.directories.DirentFault.{DirentFault}
use Rattle.file_layouts.specs.declared.directories.DirentFault.TheVariants.{NoRoom, NoForm}

-- the bytes of the record of a name of n bytes: 10 in front of the name and 2 behind it, rounded up to 4;
-- in the wide record 19 and 1, rounded up to 8
abbrev pub record_length : Bool → ℕ → ℕ
record_length false n = (10 + n + 2 + 3) / 4 * 4
record_length true n = (19 + n + 1 + 7) / 8 * 8

-- the length of a record in its own 2 bytes
abbrev pub length_bytes : ℕ → List ℕ
length_bytes n = little_bytes 2 (n % 2 ^ 16)

-- inode, position, length, name, zeros, and the kind in the last byte
abbrev pub narrow_bytes : ℕ → DirEntry → List ℕ
narrow_bytes n e =
    little_bytes 4 e.inode ++ (little_bytes 4 (e.position % 2 ^ 32) ++ (length_bytes n
    ++ (e.name ++ (replicate (n - 11 - length e.name) 0 ++ e.kind ∷ []))))

-- inode, position, length, kind, name and zeros
abbrev pub wide_bytes : ℕ → DirEntry → List ℕ
wide_bytes n e =
    little_bytes 8 e.inode ++ (little_bytes 8 e.position ++ (length_bytes n
    ++ (e.kind ∷ (e.name ++ replicate (n - 19 - length e.name) 0))))

-- the bytes of an entry's record; the narrow one has no room for an inode from 2^32 on
abbrev pub dirent_bytes : Bool → DirEntry → Option (List ℕ)
dirent_bytes false e = if nat_lt e.inode (2 ^ 32) then Some (narrow_bytes (record_length false (length e.name)) e) else None
dirent_bytes true e = Some (wide_bytes (record_length true (length e.name)) e)

-- the record is longer than the place
abbrev pub is_too_long : Bool → DirEntry → List ℕ → Bool
is_too_long wide e out = nat_lt (length out) (record_length wide (length e.name))

-- the length n of a record, where there is one
abbrev pub told_length : Option (List ℕ) → ℕ → Result ℕ DirentFault
told_length None n = Err NoForm
told_length (Some bs) n = Ok n

-- a place whose first n bytes give way to the record's, where there is one
abbrev pub with_record : Option (List ℕ) → ℕ → List ℕ → List ℕ
with_record None n out = out
with_record (Some bs) n out = bs ++ drop n out

-- no room first, then no form, else the length of the record
abbrev pub dirent_answer : Bool → DirEntry → List ℕ → Result ℕ DirentFault
dirent_answer wide e out =
    if is_too_long wide e out then Err NoRoom else told_length (dirent_bytes wide e) (record_length wide (length e.name))

-- the place after it: as before where nothing is put, else with the record in front
abbrev pub dirent_put : Bool → DirEntry → List ℕ → List ℕ
dirent_put wide e out =
    if is_too_long wide e out then out else with_record (dirent_bytes wide e) (record_length wide (length e.name)) out
