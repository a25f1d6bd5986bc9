-- what was read so far; each piece takes at least one byte
use Rattle.std.proofs.Common.{◌≡◌, ◌≤◌, ◌-◌, ◌++◌}
use Rattle.file_bytes.specs.Row.{row}
use Rattle.file_bytes.specs.Pages.{byte_at}
use Rattle.file_bytes.proofs.pages.Pages.read.Given as goal

abbrev pub invariant-loop-done : goal.invariant-loop-done
invariant-loop-done l = record {
  within : l.done ≤ l.count;
  read : l.out.items ≡ l.fn.out.items ++ row (byte_at l.self.map.entries) l.at l.done;
}

abbrev pub decreases-loop-done : goal.decreases-loop-done
decreases-loop-done l = l.count - l.done
