-- Sets of the program, as the definitions see them.
use Rattle.std.specs.Prelude.{◌≡◌, ℕ, ◌==◌, ◌≤◌, take, List, Option, Some, None, if◌then◌else◌}
use Rattle.abi_registers.specs.declared.arguments.Args.{Args}
use Rattle.abi_registers.specs.Values.{word}
use Rattle.readiness_calls.specs.SelectSets as asked
use Rattle.readiness_calls.specs.declared.selects.Sets.{Sets}
use Rattle.readiness_calls.specs.declared.sets.Set.{Set}

abbrev pub set_seen : Set → Option (List ℕ)
set_seen s = if s.at == 0 then None else Some (take s.size s.bytes)

abbrev pub sets_seen : Sets → asked.Sets
sets_seen s = record { reads = set_seen s.reads; writes = set_seen s.writes; excepts = set_seen s.excepts; time = s.time }

-- a set from a pointer, of at most 128 bytes
abbrev pub IsSmall : ℕ → Set → Type 0
IsSmall at s = (s.size ≤ 128) × (s.at ≡ at)

-- the sets that a call's arguments name
abbrev pub AreSmall : Args → Sets → Type 0
AreSmall args s = IsSmall (word args 1) s.reads × IsSmall (word args 2) s.writes × IsSmall (word args 3) s.excepts
