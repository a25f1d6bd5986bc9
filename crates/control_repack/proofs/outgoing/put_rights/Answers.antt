use Rattle.std.proofs.Common.{rules, arith}
use Rattle.control_repack.proofs.Putting.{rights_put}
use Rattle.control_repack.proofs.outgoing.put_rights.Goals as goal

pub returns-clause-bytes : goal.returns-clause-bytes
returns-clause-bytes c =
    rights_put c.args.rights.now c.args.out.now c.write_u32_into.new.dst c.write_u32_into-2.new.dst _ (search rules) c.write_u32_into.ensures c.write_u32_into-2.ensures (omega arith)
