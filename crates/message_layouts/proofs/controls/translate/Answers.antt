use Rattle.std.proofs.Common.{arith}
use Rattle.message_layouts.proofs.Fields.{same_controls}
use Rattle.message_layouts.proofs.Lists.{whole_bytes}
use Rattle.message_layouts.proofs.controls.translate.Goals as goal

pub returns-clause-same : goal.returns-clause-same
returns-clause-same c =
    same_controls c.args.from.now c.translate_further.new.out (λ k. omega (arith, c.type_inv.from k)) c.requires.few
    (whole_bytes c.args.from.now c.translate_further.new.out _ c.requires.size c.translate_further.ensures)
