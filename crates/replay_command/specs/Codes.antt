-- The exit statuses.
use Rattle.std.specs.Prelude.{ℕ}
use Rattle.replay_command.specs.declared.status.Status.{Status}
use Rattle.replay_command.specs.declared.status.Status.TheVariants.{Done, BadWords, BadLine, ReadFault, WriteFault, OutOfMemory, TooLarge}

-- the exit status of a program
abbrev pub code : Status → ℕ
code Done = 0
code BadWords = 1
code BadLine = 2
code ReadFault = 3
code WriteFault = 4
code OutOfMemory = 5
code TooLarge = 6
