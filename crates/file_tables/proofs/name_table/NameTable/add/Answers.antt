use Rattle.std.proofs.Common.{◌≡◌, None}
use Rattle.number_maps.specs.NumberMap.{at}
use Rattle.file_tables.specs.Entries.{named}
use Rattle.file_tables.proofs.NameSteps.{indexed_after_entry, indexed_again, unknown}
use Rattle.file_tables.proofs.name_table.NameTable.add.Goals as goal

pub invariant_of-self-in-Ok : goal.invariant_of-self-in-Ok
invariant_of-self-in-Ok c =
    let vacant : at c.self.inside.entries c.args.position ≡ None = rw c.self.view_is c.requires.vacant in
    let missing : named c.self.inside.entries c.args.name ≡ None = rw c.self.view_is c.requires.missing in
    indexed_after_entry c.self.inside.entries c.put.new.self c.self.inside.positions c.put-2.new.self c.args.position (record { name = c.args.name; child = c.args.child }) c.self.invariant vacant (unknown c.self.inside.entries c.self.inside.positions c.self.invariant c.args.name missing) c.in_ok-put.ensures.ok (rw (c.in_ok-key.ensures.items, c.as_slice.ensures) at c.in-Ok.ensures.ok) c.put.ensures.ascending c.put-2.ensures.ascending

pub invariant_of-self-in-Err : goal.invariant_of-self-in-Err
invariant_of-self-in-Err c =
    let vacant : at c.self.inside.entries c.args.position ≡ None = rw c.self.view_is c.requires.vacant in
    rw c.in-Err.ensures.err (indexed_again c.self.inside.entries c.put.new.self c.discard.new.self c.self.inside.positions c.args.position (record { name = c.args.name; child = c.args.child }) c.self.invariant vacant c.in_ok-put.ensures.ok c.put.ensures.ascending c.discard.ensures.after c.discard.ensures.ascending)
