use Rattle.file_bytes.specs.Pages.{byte_at}
use Rattle.file_bytes.proofs.Counts.{count_of_file}
use Rattle.file_bytes.proofs.content.Content.filled_pages.Goals as goal

pub returns-clause-count : goal.returns-clause-count
returns-clause-count c = count_of_file (byte_at c.self.inside.pages.map.entries) c.self.inside.size c.filled_pages.result c.args.self.now c.self.view_is c.self.invariant.0 c.self.invariant.1 c.filled_pages.ensures.count
