use Rattle.std.proofs.Common.{◌≡◌, ◌+◌, ◌^◌, ◌≤◌, take, drop}
use Rattle.script_reader.specs.declared.seen.Seen.{Seen}
use Rattle.script_reader.specs.Script.{next_from}
use Rattle.script_reader.proofs.ahead.line_end.Given as goal

abbrev pub invariant-loop-i : goal.invariant-loop-i
invariant-loop-i l = record {
  reach : l.count + l.i ≤ 2 ^ 28;
  so_far : (seen : Seen) → next_from seen (take l.i l.bytes) (l.count + l.i) (drop l.i l.bytes) ≡ next_from seen (take l.from l.bytes) (l.count + l.from) (drop l.from l.bytes);
}
