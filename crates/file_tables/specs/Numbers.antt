-- The numbers that inodes get.
use Rattle.std.specs.Prelude.{ℕ, ◌+◌, ◌-◌, ◌^◌, unwrap_or}
use Rattle.number_maps.specs.NumberMap.{first_free}
use Rattle.file_tables.specs.declared.state.InodeNumbers.{InodeNumbers}

-- the least number that no image line names and that wasn't given
unfoldable pub new_number : InodeNumbers → ℕ
new_number n = unwrap_or (first_free n.image n.next (2 ^ 63 - n.next)) 0

-- the numbers after that one was given
unfoldable pub given : InodeNumbers → InodeNumbers
given n = record n { next = new_number n + 1 }
