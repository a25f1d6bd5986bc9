-- what is left can be read, and answering it gives what answering all gives
use Rattle.std.proofs.Common.{◌≡◌, ◌≤◌}
use Rattle.std.specs.Prelude.{Ok}
use Rattle.layout_laws.specs.Abis.{rules}
use Rattle.readiness_calls.specs.PollEntries.{checked, entries_at, entries_of}
use Rattle.readiness_calls.specs.Polls.{answers_entries}
use Rattle.readiness_calls.proofs.EntryTurns.{answering_left, from_place}
use Rattle.readiness_calls.proofs.polls.answer_entries.Given as goal

abbrev pub invariant-loop-place : goal.invariant-loop-place
invariant-loop-place g l = record {
  few : l.told ≤ l.place;
  read : checked (from_place (rules g.A.Compat.KIND g.A.Abi.ALIGN64) l.memory l.at l.place l.count) ≡ Ok tt;
  same : answering_left (rules g.A.Compat.KIND g.A.Abi.ALIGN64) l.at l.place l.count l.kernel l.told l.memory
      ≡ answers_entries (rules g.A.Compat.KIND g.A.Abi.ALIGN64) l.at (entries_of (entries_at (rules g.A.Compat.KIND g.A.Abi.ALIGN64) l.initial.memory l.at l.count)) l.kernel l.initial.memory;
}
