-- the limits passed over are as at the start
use Rattle.std.proofs.Common.{◌≡◌, drop}
use Rattle.native_kernel.specs.Items.{limit_items}
use Rattle.native_kernel.proofs.items.changed_limit.Given as goal

abbrev pub invariant-loop-resource : goal.invariant-loop-resource
invariant-loop-resource l = limit_items l.resource (drop l.resource l.held) ≡ limit_items l.first (drop l.first l.held)
