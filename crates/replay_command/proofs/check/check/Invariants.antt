use Rattle.std.proofs.Common.{◌≡◌, ℕ, ◌-◌, ◌^◌, ◌≤◌, List, true}
use Rattle.script_reader.specs.Ending.{ScriptText}
use Rattle.replay_command.specs.Run.{behind, check_from, checked_of}
use Rattle.replay_command.proofs.ScriptSteps.{HasTaken}
use Rattle.replay_command.proofs.check.check.Given as goal

-- what is counted so far, and what the script that is left adds
abbrev pub invariant-loop-record : goal.invariant-loop-record
invariant-loop-record g l = record {
  alive : l.script.alive ≡ true;
  count : l.records ≤ l.script.count;
  reach : l.script.count ≤ 2 ^ 28;
  faults : g.S.Source.faults l.source ≡ g.S.Source.faults l.fn.source;
  taken : HasTaken (g.S.Source.left l.fn.source) (g.S.Source.left l.source) l.script (λ (text : ScriptText). behind l.out.items (check_from l.records text)) (λ (bytes : List ℕ). behind l.fn.out.items (checked_of bytes));
}

abbrev pub decreases-loop-record : goal.decreases-loop-record
decreases-loop-record g l = 2 ^ 28 - l.script.count
