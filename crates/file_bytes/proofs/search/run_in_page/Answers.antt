use Rattle.std.proofs.Common.{refl}
use Rattle.file_bytes.proofs.NextRun.{page_some}
use Rattle.file_bytes.proofs.search.run_in_page.Goals as goal

pub returns : goal.returns
returns c = λ pages found. page_some pages c.args.page.now c.args.number c.args.from c.saturating_sub.result c.in_ok-run.run' _ found c.saturating_sub.ensures c.in_ok-run.ensures.next c.in_ok-run.ensures.within refl refl
