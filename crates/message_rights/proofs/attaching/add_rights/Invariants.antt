-- what is left to add gives what all give
use Rattle.std.proofs.Common.{◌≡◌, ◌≤◌, ◌-◌}
use Rattle.message_rights.proofs.Attachings.{filled_from}
use Rattle.message_rights.proofs.attaching.add_rights.Given as goal

abbrev pub invariant-loop-index : goal.invariant-loop-index
invariant-loop-index l = record {
  same : filled_from l.open_files l.content l.initial.sent l.rights l.index (l.count - l.index) ≡ filled_from l.open_files l.content l.initial.sent l.initial.rights 0 l.count;
  within : l.index ≤ l.count;
}
