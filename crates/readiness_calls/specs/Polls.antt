-- poll: for each entry of an array, what its descriptor is ready for. No time passes, so that the timeout isn't looked at.
use Rattle.std.specs.Prelude.{ℕ, ◌+◌, ◌==◌, false, List, [], ◌∷◌, map, Ok, if◌then◌else◌, ⊤}
use Rattle.std.specs.List.{sum_by}
use Rattle.native_kernel.specs.declared.state.Kernel.{Kernel}
use Rattle.abi_registers.specs.declared.arguments.Args.{Args}
use Rattle.abi_registers.specs.Values.{word}
use Rattle.layout_laws.specs.Abis.{AbiRules}
use Rattle.file_layouts.specs.Polls.{poll_answer}
use Rattle.file_layouts.specs.declared.polls.PollEntry.{PollEntry}
use Rattle.served_calls.specs.Calls.{Call, Delivery, Memory, gives_word, on_fetched, ◌>>◌}
use Rattle.served_calls.specs.Shapes.{stores}
use Rattle.readiness_calls.specs.PollEntries.{entry_answer, poll_fetched}

-- the answers to entries from an address on: each is stored into its entry, at byte 6
unfoldable pub stores_answers : AbiRules → ℕ → List ℕ → Delivery ⊤
stores_answers abi at [] m = (Ok tt, m)
stores_answers abi at (a ∷ later) m = (stores poll_answer abi (at + 6) (record { revents = a }) >> stores_answers abi (at + 8) later) m

-- how many answers tell something
abbrev pub told_count : List ℕ → ℕ
told_count answers = sum_by (λ a. if a == 0 then 0 else 1) answers

-- the answers and their number
abbrev pub gives_answers : AbiRules → ℕ → List ℕ → Delivery ℕ
gives_answers abi at answers = stores_answers abi at answers >> gives_word (told_count answers)

-- the answers to these entries
abbrev pub answers_entries : AbiRules → ℕ → List PollEntry → Kernel → Delivery ℕ
answers_entries abi at es k = gives_answers abi at (map (entry_answer k) es)

-- poll(array, count, timeout): the answers are stored in order, and those before one that can't be stored stay
unfoldable pub poll : AbiRules → Args → Memory → Kernel → Call Kernel (List ℕ)
poll abi args m k = record {
  operation = on_fetched k (poll_fetched abi args m k) (λ es. (Ok (map (entry_answer k) es), k));
  deliver = gives_answers abi (word args 0);
  keeps = false;
}
