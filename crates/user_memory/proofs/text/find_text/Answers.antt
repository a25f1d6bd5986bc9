use Rattle.std.proofs.Common.{arith}
use Rattle.user_memory.specs.States.{states_of}
use Rattle.user_memory.proofs.Prefixes.{found_text, long_text, faulting_text, prefix_fits}
use Rattle.user_memory.proofs.text.find_text.Goals as goal

pub returns-in-Some-clause-text : goal.returns-in-Some-clause-text
returns-in-Some-clause-text c =
    found_text (states_of c.args.pages.now) c.args.at c.args.limit c.prefix_of_range-readable.result.length c.in-Some.length (omega arith) c.prefix_of_range-readable.ensures.length c.in-Some.ensures.before c.in-Some.ensures.zero.0 c.in-Some.ensures.zero.1

pub returns-in-Some-clause-within : goal.returns-in-Some-clause-within
returns-in-Some-clause-within c = omega (arith, c.in-Some.ensures.zero.0, prefix_fits (states_of c.args.pages.now) c.args.at c.args.limit c.prefix_of_range-readable.result.length c.prefix_of_range-readable.ensures.length)

pub returns-in-None-clause-fault : goal.returns-in-None-clause-fault
returns-in-None-clause-fault c =
    faulting_text (states_of c.args.pages.now) c.args.at c.args.limit c.prefix_of_range-readable.result.length (omega arith) c.prefix_of_range-readable.ensures.length c.in-None.ensures.before (omega arith)

pub returns-in-None-2-clause-fault : goal.returns-in-None-2-clause-fault
returns-in-None-2-clause-fault c =
    long_text (states_of c.args.pages.now) c.args.at c.args.limit c.prefix_of_range-readable.result.length (omega arith) c.prefix_of_range-readable.ensures.length c.in-None.ensures.before (omega arith)
