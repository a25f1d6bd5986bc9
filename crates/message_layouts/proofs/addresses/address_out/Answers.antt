use Rattle.std.proofs.Common.{◌≡◌, ◌≤◌, length, arith}
use Rattle.std.proofs.lemmas.List.{length-drop, length-take}
use Rattle.message_layouts.proofs.Names.{address_put}
use Rattle.message_layouts.proofs.addresses.address_out.Goals as goal

pub put_name-requires : goal.put_name-requires
put_name-requires c =
    let held : length c.held.result.now ≤ 108 = rw c.held.ensures (simp length-take (omega arith)) in
    let whole : length c.write_u16.new.buf ≡ 111 = rw c.write_u16.ensures (simp length-drop (omega (arith, c.told-out))) in
    simp (length-take, length-drop) (omega (arith, held, whole))

pub returns-clause-bytes : goal.returns-clause-bytes
returns-clause-bytes c = address_put c.args.out.now c.write_u16.new.buf c.put_name.new.out _ c.told-out c.write_u16.ensures (rw c.held.ensures at c.put_name.ensures.bytes)
