use Rattle.std.proofs.Common.{◌≡◌, ◌+◌, ◌-◌, ◌^◌, ◌≤◌, length, take, drop, []}
use Rattle.script_reader.specs.Ahead.{bytes_of, IsSound}
use Rattle.script_reader.specs.Script.{next_from}
use Rattle.script_reader.specs.Reads.{IsFound}
use Rattle.script_reader.proofs.ReadSteps.{HasTaken, IsUnread}
use Rattle.script_reader.proofs.script.read_record.Given as goal

abbrev pub invariant-loop-i : goal.invariant-loop-i
invariant-loop-i g l = record {
  sound : IsSound l.ahead;
  lines : l.seen.lines ≤ l.ahead.count;
  inside : l.from ≤ length (bytes_of l.ahead);
  reach : l.ahead.count + l.from ≤ 2 ^ 28;
  goes_on : l.fn.ahead.count ≤ l.ahead.count;
  faults : g.S.Source.faults l.source ≡ g.S.Source.faults l.fn.source;
  unread : IsFound (next_from l.fn.seen [] l.fn.ahead.count (bytes_of l.fn.ahead)) → IsUnread l.fn.source l.source (next_from l.fn.seen [] l.fn.ahead.count (bytes_of l.fn.ahead)) (next_from l.seen (take l.from (bytes_of l.ahead)) (l.ahead.count + l.from) (drop l.from (bytes_of l.ahead)));
  taken : HasTaken (g.S.Source.left l.fn.source) (g.S.Source.left l.source) l.fn.seen l.fn.ahead.count (bytes_of l.fn.ahead) (l.ahead.count + length (bytes_of l.ahead)) (next_from l.seen (take l.from (bytes_of l.ahead)) (l.ahead.count + l.from) (drop l.from (bytes_of l.ahead)));
}

-- bytes that were not read, and bytes that are not done with
abbrev pub decreases-loop-i : goal.decreases-loop-i
decreases-loop-i g l = (2 ^ 28 + 1 - (l.ahead.count + length (bytes_of l.ahead))) + (2 ^ 28 + 1 - l.ahead.count)
