-- select: which of the descriptors of three sets are ready. No time passes.
use Rattle.std.specs.Prelude.{ℕ, false, List, Option, Some, None, Ok, ⊤}
use Rattle.native_kernel.specs.declared.state.Kernel.{Kernel}
use Rattle.abi_registers.specs.declared.arguments.Args.{Args}
use Rattle.abi_registers.specs.Values.{word}
use Rattle.layout_laws.specs.Abis.{AbiRules}
use Rattle.time_layouts.specs.Times.{time_val}
use Rattle.time_layouts.specs.declared.times.TimeVal32.{TimeVal32}
use Rattle.served_calls.specs.Bytes.{stores_bytes}
use Rattle.served_calls.specs.Calls.{Call, Delivery, Memory, gives_word, on_fetched, ◌>>◌}
use Rattle.served_calls.specs.Shapes.{stores}
use Rattle.readiness_calls.specs.SelectSets.{Sets, descriptors_of, sets_count, sets_fetched, sets_told}

-- the delivery of a set that may be absent
unfoldable pub stores_set : ℕ → Option (List ℕ) → Delivery ⊤
stores_set at None m = (Ok tt, m)
stores_set at (Some bytes) m = stores_bytes at bytes m

-- the timeout is stored as it was given, and nothing is said where it can't be
unfoldable pub stores_timeout : AbiRules → ℕ → Option TimeVal32 → Delivery ⊤
stores_timeout abi at None m = (Ok tt, m)
stores_timeout abi at (Some t) m = (Ok tt, (stores time_val abi at t m).1)

-- _newselect(count, reads, writes, excepts, timeout): the sets are stored in order, and those before one that can't be stored stay
unfoldable pub newselect : AbiRules → Args → Memory → Kernel → Call Kernel Sets
newselect abi args m k = record {
  operation = on_fetched k (sets_fetched abi args m) (λ s. (sets_told k (descriptors_of args) s, k));
  deliver = λ s. stores_set (word args 1) s.reads >> stores_set (word args 2) s.writes >> stores_set (word args 3) s.excepts
      >> stores_timeout abi (word args 4) s.time >> gives_word (sets_count s);
  keeps = false;
}
