use Rattle.std.proofs.Common.{◌∙◌, sym, ap}
use Rattle.std.specs.Prelude.{option_copied}
use Rattle.file_tables.proofs.NameSteps.{stands_somewhere}
use Rattle.file_tables.proofs.name_table.NameTable.find_name.Goals as goal

pub returns-in_err-entry : goal.returns-in_err-entry
returns-in_err-entry c = absurd (stands_somewhere c.self.inside.entries c.self.inside.positions c.self.invariant c.args.name.now c.in_ok-position.position (sym c.get.ensures ∙ c.in_ok-position.was) (sym c.get-2.ensures ∙ ap option_copied c.in_err-entry.was))
