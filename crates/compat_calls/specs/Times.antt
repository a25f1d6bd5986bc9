-- The calls on clocks.
use Rattle.std.specs.Prelude.{ℤ, Bool, ◌==◌, ℕ, pos, ◌%◌, false, true, if◌then◌else◌, Ok, ⊤}
use Rattle.std.specs.Int.{w64, cast_unsigned}
use Rattle.kernel_values.specs.Times.{micros_of, time_of}
use Rattle.kernel_values.specs.declared.errno.Errno.TheVariants.{Interrupted}
use Rattle.kernel_values.specs.declared.times.TimeSpec.{TimeSpec}
use Rattle.native_kernel.specs.declared.state.Kernel.{Kernel}
use Rattle.signal_clock.specs.declared.values.Slept.{Slept}
use Rattle.signal_clock.specs.declared.values.Slept.TheVariants.{Whole, Cut}
use Rattle.native_kernel.specs.Operations as native
use Rattle.abi_registers.specs.declared.arguments.Args.{Args}
use Rattle.abi_registers.specs.Values.{signed, word}
use Rattle.layout_laws.specs.Abis.{AbiRules}
use Rattle.time_layouts.specs.declared.times.TimeVal32.{TimeVal32}
use Rattle.time_layouts.specs.Times.{time_spec, time_val}
use Rattle.served_calls.specs.Calls.{Call, Delivery, Memory, on_fetched, gives_word, fails, optional, ◌>>◌}
use Rattle.served_calls.specs.Shapes.{shape_at, stores}

unfoldable pub clock_gettime : AbiRules → Args → Memory → Kernel → Call Kernel ℕ
clock_gettime abi args m k = record {
  operation = (native.clock k (signed args 0), k);
  deliver = λ now. stores time_spec abi (word args 1) (record { time = time_of now }) >> gives_word 0;
  keeps = false;
}

unfoldable pub clock_settime : AbiRules → Args → Memory → Kernel → Call Kernel ⊤
clock_settime abi args m k = record {
  operation = on_fetched k (shape_at time_spec abi m (word args 1)) (λ t. native.set_clock k (signed args 0) t.time);
  deliver = λ _. gives_word 0;
  keeps = false;
}

-- a time zone is told as 8 zero bytes
abbrev pub no_zone : TimeVal32
no_zone = record { time = record { seconds = pos 0; micros = pos 0 } }

unfoldable pub gettimeofday : AbiRules → Args → Memory → Kernel → Call Kernel ℕ
gettimeofday abi args m k = record {
  operation = (native.clock k (pos 0), k);
  deliver = λ now. optional (word args 0) (stores time_val abi (word args 0) (record { time = micros_of now })) >> optional (word args 1) (stores time_val abi (word args 1) no_zone) >> gives_word 0;
  keeps = false;
}

-- the rest of a sleep that was cut, where a place is given; a sleep up to a time of the clock tells none
abbrev pub rest_told : Bool → AbiRules → ℕ → TimeSpec → Delivery ⊤
rest_told absolute abi at rest m = if absolute then (Ok tt, m) else optional at (stores time_spec abi at (record { time = rest })) m

-- what a sleep answers
abbrev pub slept_told : Bool → AbiRules → ℕ → Slept → Delivery ℕ
slept_told absolute abi at Whole = gives_word 0
slept_told absolute abi at (Cut rest) = rest_told absolute abi at rest >> fails Interrupted

-- the sleep stands where its rest can't be stored
unfoldable pub nanosleep : AbiRules → Args → Memory → Kernel → Call Kernel Slept
nanosleep abi args m k = record {
  operation = on_fetched k (shape_at time_spec abi m (word args 0)) (λ t. native.sleep k (pos 1) false t.time);
  deliver = slept_told false abi (word args 1);
  keeps = true;
}

-- one nanosecond
abbrev pub resolution : TimeSpec
resolution = record { seconds = pos 0; nanos = pos 1 }

unfoldable pub clock_getres : AbiRules → Args → Memory → Kernel → Call Kernel ℕ
clock_getres abi args m k = record {
  operation = (native.clock k (signed args 0), k);
  deliver = λ _. optional (word args 1) (stores time_spec abi (word args 1) (record { time = resolution })) >> gives_word 0;
  keeps = false;
}

-- bit 0 of the flags asks for a time of the clock
abbrev pub is_absolute : ℤ → Bool
is_absolute flags = cast_unsigned w64 flags % 2 == 1

unfoldable pub clock_nanosleep : AbiRules → Args → Memory → Kernel → Call Kernel Slept
clock_nanosleep abi args m k = record {
  operation = on_fetched k (shape_at time_spec abi m (word args 2)) (λ t. native.sleep k (signed args 0) (is_absolute (signed args 1)) t.time);
  deliver = slept_told (is_absolute (signed args 1)) abi (word args 3);
  keeps = true;
}
