-- The things made: inodes, names and open files.
use Rattle.std.specs.Prelude.{ℕ, ◌+◌, ◌-◌, ◌<◌, ◌^◌, Bool, nat_lt}

-- the count of things made, and the last serial number given
pub record MadeState : Type 0 where
  pub things : ℕ
  pub last_serial : ℕ

-- fewer than four things are left to make
abbrev pub is_full : MadeState → Bool
is_full m = nat_lt (2 ^ 31 - 5) m.things

-- after an open file was made
abbrev pub one_opened : MadeState → MadeState
one_opened m = record { things = m.things + 1; last_serial = m.last_serial + 1 }

-- after so many things were made
abbrev pub more_made : MadeState → ℕ → MadeState
more_made m n = record m { things = m.things + n }

-- so many things may be made
abbrev pub HasRoom : MadeState → ℕ → Type 0
HasRoom m n = m.things + n < 2 ^ 31
