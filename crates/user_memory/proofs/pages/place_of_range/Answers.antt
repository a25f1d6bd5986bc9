use Rattle.std.proofs.Common.{sym, arith}
use Rattle.user_memory.specs.Rights.{has_rights}
use Rattle.user_memory.specs.States.{states_of}
use Rattle.user_memory.proofs.Prefixes.{short_range, whole_range}
use Rattle.user_memory.proofs.pages.place_of_range.Goals as goal

pub returns-then-prefix-length-clause-allowed : goal.returns-then-prefix-length-clause-allowed
returns-then-prefix-length-clause-allowed c =
    sym (short_range (has_rights c.args.rights (states_of c.args.pages.now)) c.args.at c.args.length c.prefix_of_range-prefix.result.length c.prefix_of_range-prefix.ensures.length (omega arith))

pub returns-clause-allowed : goal.returns-clause-allowed
returns-clause-allowed c =
    sym (whole_range (has_rights c.args.rights (states_of c.args.pages.now)) c.args.at c.args.length c.prefix_of_range-prefix.result.length (omega arith) c.prefix_of_range-prefix.ensures.length (omega arith))
