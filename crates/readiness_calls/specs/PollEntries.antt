-- The entries of poll, and the answer to each.
use Rattle.std.specs.Prelude.{ℕ, zero, suc, pos, ◌+◌, ◌==◌, ◌&&◌, Bool, nat_lt, int_lt, List, [], ◌∷◌, Result, Ok, Err, if◌then◌else◌, ⊤}
use Rattle.std.specs.Int.RustNames.{bit_and, bit_or}
use Rattle.kernel_values.specs.Outcome.{◌>>=◌, ◌>>◌, refused_if}
use Rattle.kernel_values.specs.declared.errno.Errno.{Errno}
use Rattle.kernel_values.specs.declared.errno.Errno.TheVariants.{InvalidArgument}
use Rattle.native_kernel.specs.declared.Ready.{Ready}
use Rattle.native_kernel.specs.declared.state.Kernel.{Kernel}
use Rattle.native_kernel.specs.Operations as native
use Rattle.abi_registers.specs.declared.arguments.Args.{Args}
use Rattle.abi_registers.specs.Values.{word}
use Rattle.layout_laws.specs.Abis.{AbiRules}
use Rattle.file_layouts.specs.Polls.{poll_entry}
use Rattle.file_layouts.specs.declared.polls.PollEntry.{PollEntry}
use Rattle.served_calls.specs.Calls.{Memory}
use Rattle.served_calls.specs.Shapes.{shape_at}

-- so many entries from an address on, 8 bytes each; EFAULT where one can't be read
unfoldable pub entries_at : AbiRules → Memory → ℕ → ℕ → Result (List PollEntry) Errno
entries_at abi m at zero = Ok []
entries_at abi m at (suc n) = do
  e ← shape_at poll_entry abi m at
  es ← entries_at abi m (at + 8) n
  Ok (e ∷ es)

-- whether they can be read, and what they are
abbrev pub checked : Result (List PollEntry) Errno → Result ⊤ Errno
checked (Ok es) = Ok tt
checked (Err e) = Err e

abbrev pub entries_of : Result (List PollEntry) Errno → List PollEntry
entries_of (Ok es) = es
entries_of (Err e) = []

-- the entries of (array, count, timeout): no more of them than the soft limit of descriptors, else EINVAL
unfoldable pub poll_fetched : AbiRules → Args → Memory → Kernel → Result (List PollEntry) Errno
poll_fetched abi args m k = do
  refused_if (nat_lt (native.most_descriptors k) (word args 1)) InvalidArgument
  entries_at abi m (word args 0) (word args 1)

-- a bit that is told where this holds
abbrev pub bit_if : Bool → ℕ → ℕ
bit_if holds bit = if holds then bit else 0

-- a bit stands in the word of events
abbrev pub asks : ℕ → ℕ → Bool
asks events bit = bit_and events bit == bit

-- POLLIN, 1, and POLLOUT, 4, where they are asked for; POLLERR, 8, and POLLHUP, 16, unasked
unfoldable pub ready_bits : ℕ → Ready → ℕ
ready_bits events r = bit_or (bit_or (bit_if (asks events 1 && r.input) 1) (bit_if (asks events 4 && r.output) 4)) (bit_or (bit_if r.error 8) (bit_if r.hang_up 16))

-- POLLNVAL, 32, of a descriptor that isn't open
abbrev pub told_bits : ℕ → Result Ready Errno → ℕ
told_bits events (Ok r) = ready_bits events r
told_bits events (Err e) = 32

-- a negative number stands for no descriptor, of which nothing is told
unfoldable pub entry_answer : Kernel → PollEntry → ℕ
entry_answer k e = if int_lt e.fd (pos 0) then 0 else told_bits e.events (native.ready k e.fd)
