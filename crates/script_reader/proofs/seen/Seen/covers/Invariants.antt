use Rattle.std.proofs.Common.{◌≡◌, ℕ, ◌-◌, ◌/◌, ◌<◌, ◌≤◌, true}
use Rattle.script_reader.specs.Seen.{has_page}
use Rattle.script_reader.proofs.seen.Seen.covers.Given as goal

abbrev pub invariant-loop-next : goal.invariant-loop-next
invariant-loop-next l = record {
  after : l.at ≤ l.next;
  so_far : (a : ℕ) → l.at ≤ a → a < l.next → has_page l.self.pages (a / 4096) ≡ true;
}

abbrev pub decreases-loop-next : goal.decreases-loop-next
decreases-loop-next l = l.end - l.next
