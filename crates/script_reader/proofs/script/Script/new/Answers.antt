use Rattle.script_reader.proofs.GivenSteps.{given_new}
use Rattle.script_reader.proofs.script.Script.new.Goals as goal

pub returns-clause-given : goal.returns-clause-given
returns-clause-given c = rw (c.in_ok-new.ensures, c.new-2.ensures.count) given_new
