-- the pages so far have no run; each turn passes one
use Rattle.std.proofs.Common.{◌≤◌, ◌-◌, ◌*◌, ◌/◌, ◌^◌}
use Rattle.file_bytes.specs.Search.{AreZero}
use Rattle.file_bytes.specs.Pages.{byte_at}
use Rattle.file_bytes.proofs.pages.Pages.next_run.Given as goal

abbrev pub invariant-loop-found : goal.invariant-loop-found
invariant-loop-found l = record {
  low : l.number ≤ 2 ^ 28;
  not_before : l.from / 4096 ≤ l.number;
  clear : AreZero (byte_at l.self.map.entries) l.from (l.number * 4096);
}

abbrev pub decreases-loop-found : goal.decreases-loop-found
decreases-loop-found l = 2 ^ 28 - l.number
