-- the bytes that are told, and what is told of those that are left
use Rattle.std.proofs.Common.{◌≡◌}
use Rattle.readiness_calls.specs.SelectSets.{bytes_told}
use Rattle.readiness_calls.proofs.SetBytes.{told_from}
use Rattle.readiness_calls.proofs.sets.tell_bytes.Given as goal

abbrev pub invariant-loop-place : goal.invariant-loop-place
invariant-loop-place l = told_from l.kernel l.condition l.count l.place l.bytes ≡ bytes_told l.kernel l.condition l.count 0 l.initial.bytes
