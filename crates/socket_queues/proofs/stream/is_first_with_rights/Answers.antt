use Rattle.std.proofs.Common.{◌∙◌}
use Rattle.socket_queues.proofs.Fronts.{first_with, none_with}
use Rattle.socket_queues.proofs.stream.is_first_with_rights.Goals as goal

pub returns-in-Some : goal.returns-in-Some
returns-in-Some c = c.has_rights.ensures ∙ first_with _ _ c.in-Some.ensures.item.3.0 (c.in-Some.ensures.item.3.1 _)

pub returns-in-None : goal.returns-in-None
returns-in-None c = none_with _ c.in-None.ensures.item.3
