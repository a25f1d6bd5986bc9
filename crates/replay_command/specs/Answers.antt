-- What the statuses of a command line say.
use Rattle.std.specs.Prelude.{◌≡◌, ◌≤◌, ◌+◌, ◌^◌, ◌⊎◌, ⊤, ℕ, if◌then◌else◌, List, [], ◌∷◌, length, take, codes, Option, Some, None}
use Rattle.std.specs.Str.{bytes_eq}
use Rattle.io_edge.specs.Told.{Rose, put_back, appended}
use Rattle.replay_command.specs.declared.status.Status.{Status}
use Rattle.replay_command.specs.declared.status.Status.TheVariants.{Done, BadWords, BadLine, ReadFault, WriteFault, OutOfMemory, TooLarge}
use Rattle.replay_command.specs.declared.command.Command.{Command}
use Rattle.replay_command.specs.declared.command.Command.TheVariants.{Run, Check}
use Rattle.replay_command.specs.Run.{Outcome, output_of, checked_of}

-- the command of the words of a command line, where they are spelled as one that is built
unfoldable pub command_of : List (List ℕ) → Option Command
command_of [] = None
command_of (word ∷ []) = if bytes_eq word (codes "run") then Some Run else (if bytes_eq word (codes "check") then Some Check else None)
command_of (word ∷ other ∷ words) = None

-- what a command writes for the bytes of a stream, and its status
abbrev pub answer_by : Option Command → List ℕ → Outcome
answer_by None bytes = record { text = []; status = BadWords }
answer_by (Some Run) bytes = output_of bytes
answer_by (Some Check) bytes = checked_of bytes

abbrev pub answer_to : List (List ℕ) → List ℕ → Outcome
answer_to words bytes = answer_by (command_of words) bytes

-- the statuses at which the run came to its own end
abbrev pub IsEnd : Status → Type 0
IsEnd Done = ⊤
IsEnd BadLine = ⊤
IsEnd TooLarge = ⊤
IsEnd BadWords = ⊥
IsEnd ReadFault = ⊥
IsEnd WriteFault = ⊥
IsEnd OutOfMemory = ⊥

-- a front of what a stream had left was taken, of at most one byte more than a script has
abbrev pub IsRead : Option (List ℕ) → Option (List ℕ) → Type 0
IsRead before after = (taken : List ℕ) × (before ≡ put_back taken after) × (length taken ≤ 2 ^ 28 + 1)

-- the bytes that a source had left, where it tells them
abbrev pub IsInput : Option (List ℕ) → List ℕ → Type 0
IsInput None bytes = ⊤
IsInput (Some all) bytes = bytes ≡ all

-- what a sink took of an outcome, and the status
pub record Answers (outcome : Outcome) (result : Status) (before after : Option (List ℕ)) (count_before count_after : ℕ) : Type 0 where
  pub status : IsEnd result → result ≡ outcome.status
  pub text : IsEnd result → after ≡ appended before outcome.text
  pub count : IsEnd result → count_after ≡ count_before
  pub fault : result ≡ WriteFault → Rose count_before count_after
  pub prefix : (n : ℕ) × (after ≡ appended before (take n outcome.text))
  pub others : IsEnd result ⊎ ((result ≡ WriteFault) ⊎ (result ≡ OutOfMemory))
