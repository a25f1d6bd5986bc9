use Rattle.std.proofs.Common.{◌≡◌, ◌++◌, drop}
use Rattle.socket_tables.proofs.items.serials.Given as goal

abbrev pub invariant-loop-number : goal.invariant-loop-number
invariant-loop-number l = l.list ++ l.number-iterator ≡ l.numbers
