use Rattle.std.proofs.Common.{◌≡◌, ◌<◌, ◌==◌, ◌++◌, ◌∷◌, [], false, length, sym, arith}
use Rattle.std.proofs.lemmas.Grind.{common_steps}
use Rattle.file_tables.specs.Directories.{parent_of}
use Rattle.file_tables.specs.PathTexts.{name_in, text_up}
use Rattle.file_tables.proofs.Texts.{text_long}
use Rattle.file_tables.proofs.path_texts.Table+Directory.text_up.Goals as goal

pub returns-then-len-gt-PATH_MAX : goal.returns-then-len-gt-PATH_MAX
returns-then-len-gt-PATH_MAX c =
    let other : (c.loop-step.above == 2) ≡ false = grind (arith, common_steps) in
    let below : c.loop-step.step < length c.args.self.now = omega arith in
    let longer : c.in_ok-text.text.items ≡ 47 ∷ (name_in c.args.self.now (parent_of c.args.self.now c.loop-step.above) c.loop-step.above ++ c.loop-step.text.items) = rw (c.parent_of-parent.ensures, c.deref.ensures.value) at c.in_ok-text.ensures in
    let long : 4095 < length c.in_ok-text.text.items = omega arith in
    sym (text_long c.args.self.now c.loop-step.above c.loop-step.step (length c.args.self.now) c.loop-step.text.items c.in_ok-text.text.items (text_up c.args.self.now c.args.place [] (length c.args.self.now)) below other longer long c.loop-step.invariant.same)
