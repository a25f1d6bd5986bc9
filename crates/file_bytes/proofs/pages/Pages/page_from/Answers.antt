use Rattle.file_bytes.proofs.FirstPage.{in_range, first_least}
use Rattle.file_bytes.proofs.pages.Pages.page_from.Goals as goal

pub returns-clause-absent : goal.returns-clause-absent
returns-clause-absent c = λ q lo hi there.
    first_least c.range.result _ _ _ q c.in_ok-number.ensures.steps ((c.range.ensures.in_range tt).2 q (in_range c.args.first q lo hi) there)
