use Rattle.std.proofs.Common.{rules}
use Rattle.message_layouts.proofs.Names.{path_put}
use Rattle.message_layouts.proofs.addresses.put_name.Goals as goal

pub returns-clause-bytes : goal.returns-clause-bytes
returns-clause-bytes c = path_put c.args.name.now c.args.out.now c.copy_from_slice.new.self (search rules) c.requires c.if-name-eq0.false
