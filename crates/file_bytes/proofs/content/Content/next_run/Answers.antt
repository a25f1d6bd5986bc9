use Rattle.file_bytes.specs.Pages.{byte_at}
use Rattle.file_bytes.proofs.Runs.{told, told_within}
use Rattle.file_bytes.proofs.content.Content.next_run.Goals as goal

pub returns-clause-next : goal.returns-clause-next
returns-clause-next c = told (byte_at c.self.inside.pages.map.entries) c.self.inside.size c.args.from c.next_run.result c.args.self.now c.self.view_is c.self.invariant.0 c.self.invariant.1 c.next_run.ensures

pub returns-clause-within : goal.returns-clause-within
returns-clause-within c = told_within (byte_at c.self.inside.pages.map.entries) c.self.inside.size c.args.from c.next_run.result c.args.self.now c.self.view_is c.self.invariant.1 c.next_run.ensures
