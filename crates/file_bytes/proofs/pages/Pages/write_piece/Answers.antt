use Rattle.file_bytes.proofs.Pieces.{piece_overlays}
use Rattle.file_bytes.proofs.pages.Pages.write_piece.Goals as goal

pub returns-clause-ok : goal.returns-clause-ok
returns-clause-ok c = piece_overlays c.args.self.now.map.entries c.make_page.new.self.map.entries c.write_page.new.self.map.entries c.args.from.now c.args.at c.in_ok-make_page.ensures.there c.write_page.ensures.whole c.requires c.in_ok-make_page.ensures.same c.write_page.ensures.put
