use Rattle.std.proofs.Common.{sym}
use Rattle.file_bytes.proofs.Pieces.{zero_page_same}
use Rattle.file_bytes.proofs.pages.Pages.make_page.Goals as goal

pub returns-clause-same : goal.returns-clause-same
returns-clause-same c = zero_page_same _ _ _ _ (sym c.if-contains_key.ensures) c.in_ok-page.ensures c.in_ok-put_page.ensures.ok
