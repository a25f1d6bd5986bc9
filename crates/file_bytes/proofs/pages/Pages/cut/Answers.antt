use Rattle.file_bytes.proofs.Cuts.{cut_by_pages}
use Rattle.file_bytes.proofs.pages.Pages.cut.Goals as goal

pub returns : goal.returns
returns c = cut_by_pages c.args.self.now.map.entries c.drop_pages_from.new.self.map.entries c.clear_page_from.new.self.map.entries c.args.end c.drop_pages_from.ensures.kept c.drop_pages_from.ensures.dropped c.clear_page_from.ensures.whole c.clear_page_from.ensures.none c.clear_page_from.ensures.put
