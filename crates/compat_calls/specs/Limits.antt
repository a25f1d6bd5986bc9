-- The calls on limits.
use Rattle.std.specs.Prelude.{⊤, ℕ, ℤ, pos, not, ◌&&◌, Option, Some, None, Result, Ok, Err, if◌then◌else◌, true, false}
use Rattle.std.specs.Ordering.{int_eq}
use Rattle.kernel_values.specs.Outcome.{outcome_then}
use Rattle.kernel_values.specs.declared.errno.Errno.{Errno}
use Rattle.kernel_values.specs.declared.errno.Errno.TheVariants.{NoProcess}
use Rattle.kernel_values.specs.declared.times.Limit.{Limit}
use Rattle.native_kernel.specs.declared.state.Kernel.{Kernel}
use Rattle.native_kernel.specs.Operations as native
use Rattle.abi_registers.specs.declared.arguments.Args.{Args}
use Rattle.abi_registers.specs.Values.{signed, word}
use Rattle.layout_laws.specs.Abis.{AbiRules}
use Rattle.time_layouts.specs.declared.limits.Limit64.{Limit64}
use Rattle.time_layouts.specs.Limits.{limit_32, limit_64}
use Rattle.served_calls.specs.Calls.{Call, Memory, on_fetched, gives_word, optional, ◌>>◌}
use Rattle.served_calls.specs.Shapes.{optional_shape_at, shape_at, stores}

unfoldable pub ugetrlimit : AbiRules → Args → Memory → Kernel → Call Kernel Limit
ugetrlimit abi args m k = record {
  operation = (native.limit k (word args 0), k);
  deliver = λ held. stores limit_32 abi (word args 1) (record { limit = held }) >> gives_word 0;
  keeps = false;
}

abbrev pub replaced_limit : Kernel → ℕ → Limit → Option Limit64 → Result Limit Errno × Kernel
replaced_limit k resource held None = (Ok held, k)
replaced_limit k resource held (Some new) = outcome_then (native.set_limit k resource new.limit) (λ _ k'. (Ok held, k'))

-- the limit held before, of this process alone
abbrev pub swapped_limit : Kernel → ℤ → ℕ → Option Limit64 → Result Limit Errno × Kernel
swapped_limit k pid resource new = outcome_then (native.limit k resource, k) (λ held k'.
    if not (int_eq pid (pos 0)) && not (int_eq pid (pos (native.credentials k').pid)) then (Err NoProcess, k') else replaced_limit k' resource held new)

unfoldable pub prlimit64 : AbiRules → Args → Memory → Kernel → Call Kernel Limit
prlimit64 abi args m k = record {
  operation = on_fetched k (optional_shape_at limit_64 abi m (word args 2)) (swapped_limit k (signed args 0) (word args 1));
  deliver = λ held. optional (word args 3) (stores limit_64 abi (word args 3) (record { limit = held })) >> gives_word 0;
  keeps = true;
}

unfoldable pub setrlimit : AbiRules → Args → Memory → Kernel → Call Kernel ⊤
setrlimit abi args m k = record {
  operation = on_fetched k (shape_at limit_32 abi m (word args 1)) (λ l. native.set_limit k (word args 0) l.limit);
  deliver = λ _. gives_word 0;
  keeps = false;
}
