-- what was written so far; each piece takes at least one byte
use Rattle.std.proofs.Common.{length, take, ◌≤◌, ◌-◌}
use Rattle.file_bytes.specs.Row.{Overlays}
use Rattle.file_bytes.specs.Pages.{byte_at}
use Rattle.file_bytes.proofs.pages.Pages.write.Given as goal

abbrev pub invariant-loop-done : goal.invariant-loop-done
invariant-loop-done l = record {
  within : l.done ≤ length l.from;
  written : Overlays (byte_at l.fn.self.map.entries) (byte_at l.self.map.entries) l.at (take l.done l.from);
}

abbrev pub decreases-loop-done : goal.decreases-loop-done
decreases-loop-done l = length l.from - l.done
