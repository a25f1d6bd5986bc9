use Rattle.message_layouts.proofs.Walk.{whole, whole_list}
use Rattle.message_layouts.proofs.native_controls.NativeControls.new.Goals as goal

pub invariant_of-result : goal.invariant_of-result
invariant_of-result c = rw (whole c.args.bytes.now c.requires) at c.requires

pub returns : goal.returns
returns c = whole_list c.args.bytes.now c.requires
