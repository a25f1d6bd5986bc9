-- The sets of select. A set is an array of whole words of 32 bits, the bit of descriptor n being bit n % 8 of byte n / 8.
use Rattle.std.specs.Prelude.{ℕ, pos, ◌+◌, ◌*◌, ◌/◌, ◌+ℤ◌, ◌==◌, ◌&&◌, ◌||◌, Bool, false, min, nat_abs, nat_lt, int_lt, List, [], ◌∷◌, Option, Some, None, Result, Ok, if◌then◌else◌}
use Rattle.std.specs.Int.RustNames.{bit_and, bit_or, count_ones, int_div, int_rem}
use Rattle.std.specs.List.{sum_by}
use Rattle.kernel_values.specs.Outcome.{◌>>=◌, ◌>>◌, refused_if}
use Rattle.kernel_values.specs.declared.errno.Errno.{Errno}
use Rattle.kernel_values.specs.declared.errno.Errno.TheVariants.{InvalidArgument}
use Rattle.kernel_values.specs.declared.times.TimeVal.{TimeVal}
use Rattle.native_kernel.specs.declared.Ready.{Ready}
use Rattle.native_kernel.specs.declared.state.Kernel.{Kernel}
use Rattle.native_kernel.specs.Operations as native
use Rattle.abi_registers.specs.declared.arguments.Args.{Args}
use Rattle.abi_registers.specs.Values.{signed, word}
use Rattle.layout_laws.specs.Abis.{AbiRules}
use Rattle.time_layouts.specs.Times.{time_val}
use Rattle.time_layouts.specs.declared.times.TimeVal32.{TimeVal32}
use Rattle.served_calls.specs.Calls.{Memory}
use Rattle.served_calls.specs.Shapes.{optional_shape_at, optionally_fetched}
use Rattle.readiness_calls.specs.declared.sets.Condition.{Condition}
use Rattle.readiness_calls.specs.declared.sets.Condition.TheVariants.{Input, Output, Exception}

-- what a call asks, and what it is told: the sets that are there, and the timeout
pub record Sets : Type 0 where
  pub reads : Option (List ℕ)
  pub writes : Option (List ℕ)
  pub excepts : Option (List ℕ)
  pub time : Option TimeVal32

-- more descriptors than FD_SETSIZE, 1,024, count as so many
abbrev pub descriptors_of : Args → ℕ
descriptors_of args = min (nat_abs (signed args 0)) 1024

-- the bytes of a set of so many descriptors
abbrev pub set_size : ℕ → ℕ
set_size n = 4 * ((n + 31) / 32)

-- the set at a pointer that may be absent
abbrev pub set_at : Memory → ℕ → ℕ → Result (Option (List ℕ)) Errno
set_at m at n = optionally_fetched m at (set_size n) (λ bytes. bytes)

-- Whole seconds of the microseconds count as seconds, rounded toward zero: EINVAL where the seconds then are below 0, or what is left of
-- the microseconds is.
abbrev pub is_bad_time : TimeVal → Bool
is_bad_time t = int_lt (t.seconds +ℤ int_div t.micros (pos 1000000)) (pos 0) || int_lt (int_rem t.micros (pos 1000000)) (pos 0)

abbrev pub is_bad_timeout : Option TimeVal32 → Bool
is_bad_timeout None = false
is_bad_timeout (Some t) = is_bad_time t.time

-- what (count, reads, writes, excepts, timeout) asks: EINVAL for a count below 0, EFAULT of the sets in their order and then of the timeout,
-- and EINVAL for a bad one
unfoldable pub sets_fetched : AbiRules → Args → Memory → Result Sets Errno
sets_fetched abi args m = do
  refused_if (int_lt (signed args 0) (pos 0)) InvalidArgument
  reads ← set_at m (word args 1) (descriptors_of args)
  writes ← set_at m (word args 2) (descriptors_of args)
  excepts ← set_at m (word args 3) (descriptors_of args)
  time ← optional_shape_at time_val abi m (word args 4)
  refused_if (is_bad_timeout time) InvalidArgument
  Ok (record { reads = reads; writes = writes; excepts = excepts; time = time })

-- a read is ready where there is input, a hang-up or an error, a write where there is output or an error; nothing is exceptional
abbrev pub holds : Condition → Ready → Bool
holds Input r = r.input || (r.hang_up || r.error)
holds Output r = r.output || r.error
holds Exception r = false

-- what is told of the bit of a descriptor, the bit `mask` of a byte: the descriptor is looked at where it is below the count and its bit is
-- set; EBADF where it isn't open
unfoldable pub bit_told : Kernel → Condition → ℕ → ℕ → ℕ → ℕ → Result ℕ Errno
bit_told k condition n number byte mask = if nat_lt number n && (bit_and byte mask == mask) then (do
  r ← native.ready k (pos number)
  Ok (if holds condition r then mask else 0)) else Ok 0

-- of a byte, whose first bit is that of a descriptor
unfoldable pub byte_told : Kernel → Condition → ℕ → ℕ → ℕ → Result ℕ Errno
byte_told k condition n first byte = do
  b0 ← bit_told k condition n first byte 1
  b1 ← bit_told k condition n (first + 1) byte 2
  b2 ← bit_told k condition n (first + 2) byte 4
  b3 ← bit_told k condition n (first + 3) byte 8
  b4 ← bit_told k condition n (first + 4) byte 16
  b5 ← bit_told k condition n (first + 5) byte 32
  b6 ← bit_told k condition n (first + 6) byte 64
  b7 ← bit_told k condition n (first + 7) byte 128
  Ok (bit_or (bit_or (bit_or b0 b1) (bit_or b2 b3)) (bit_or (bit_or b4 b5) (bit_or b6 b7)))

-- of the bytes of a set
unfoldable pub bytes_told : Kernel → Condition → ℕ → ℕ → List ℕ → Result (List ℕ) Errno
bytes_told k condition n first [] = Ok []
bytes_told k condition n first (byte ∷ bytes) = do
  b ← byte_told k condition n first byte
  bs ← bytes_told k condition n (first + 8) bytes
  Ok (b ∷ bs)

-- of a set that may be absent
unfoldable pub set_told : Kernel → Condition → ℕ → Option (List ℕ) → Result (Option (List ℕ)) Errno
set_told k condition n None = Ok None
set_told k condition n (Some bytes) = do
  bs ← bytes_told k condition n 0 bytes
  Ok (Some bs)

-- of the three sets
unfoldable pub sets_told : Kernel → ℕ → Sets → Result Sets Errno
sets_told k n s = do
  reads ← set_told k Input n s.reads
  writes ← set_told k Output n s.writes
  excepts ← set_told k Exception n s.excepts
  Ok (record s { reads = reads; writes = writes; excepts = excepts })

-- how many bits are told
abbrev pub set_count : Option (List ℕ) → ℕ
set_count None = 0
set_count (Some bytes) = sum_by count_ones bytes

abbrev pub sets_count : Sets → ℕ
sets_count s = set_count s.reads + set_count s.writes + set_count s.excepts
