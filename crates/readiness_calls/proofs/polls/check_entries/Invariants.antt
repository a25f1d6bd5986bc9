-- what is left can be read exactly where all can
use Rattle.std.proofs.Common.{◌≡◌}
use Rattle.layout_laws.specs.Abis.{rules}
use Rattle.readiness_calls.specs.PollEntries.{checked, entries_at}
use Rattle.readiness_calls.proofs.EntryTurns.{from_place}
use Rattle.readiness_calls.proofs.polls.check_entries.Given as goal

abbrev pub invariant-loop-place : goal.invariant-loop-place
invariant-loop-place g l =
    checked (from_place (rules g.A.Compat.KIND g.A.Abi.ALIGN64) l.memory l.at l.place l.count) ≡ checked (entries_at (rules g.A.Compat.KIND g.A.Abi.ALIGN64) l.memory l.at l.count)
