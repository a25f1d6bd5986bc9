-- the pages so far are counted; each turn passes one
use Rattle.std.proofs.Common.{◌≡◌, ◌≤◌, ◌-◌, ◌^◌}
use Rattle.file_bytes.specs.Filled.{filled_of}
use Rattle.file_bytes.specs.Pages.{byte_at}
use Rattle.file_bytes.proofs.pages.Pages.filled_pages.Given as goal

abbrev pub invariant-loop-number : goal.invariant-loop-number
invariant-loop-number l = record {
  low : l.next ≤ 2 ^ 28;
  fits : l.count ≤ l.next;
  counted : l.count ≡ filled_of (byte_at l.self.map.entries) l.next;
}

abbrev pub decreases-loop-number : goal.decreases-loop-number
decreases-loop-number l = 2 ^ 28 - l.next
