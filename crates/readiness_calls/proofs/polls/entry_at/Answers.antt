use Rattle.std.proofs.Common.{sym, arith}
use Rattle.layout_laws.specs.Abis.{rules}
use Rattle.readiness_calls.proofs.EntryTurns.{past_the_end}
use Rattle.readiness_calls.proofs.polls.entry_at.Goals as goal

pub returns-in_default : goal.returns-in_default
returns-in_default g c =
    sym (past_the_end (rules g.A.Compat.KIND g.A.Abi.ALIGN64) c.args.memory.now c.args.at (omega (arith, c.in_default.ensures)))
