-- Where the calls that send bytes of a file read them.
use Rattle.std.specs.Prelude.{ℕ, Bool, true, false, not, Option, Some, None, Result, Ok, ⊤}
use Rattle.kernel_values.specs.Outcome.{◌>>=◌, ◌>>◌, refused_if}
use Rattle.kernel_values.specs.declared.errno.Errno.{Errno}
use Rattle.kernel_values.specs.declared.errno.Errno.TheVariants.{BadDescriptor}
use Rattle.open_files.specs.declared.state.Place.{Place}
use Rattle.open_files.specs.declared.state.Place.TheVariants.{Current, At}
use Rattle.native_kernel.specs.declared.state.Kernel.{Kernel}
use Rattle.native_kernel.specs.Operations as native
use Rattle.abi_registers.specs.declared.arguments.Args.{Args}
use Rattle.abi_registers.specs.Values.{signed, word}
use Rattle.layout_laws.specs.Abis.{AbiRules}
use Rattle.file_layouts.specs.Positions.{position_32, position_64}
use Rattle.file_layouts.specs.declared.positions.Position32.{Position32}
use Rattle.file_layouts.specs.declared.positions.Position64.{Position64}
use Rattle.served_calls.specs.Calls.{Memory}
use Rattle.served_calls.specs.Shapes.{optional_shape_at}

-- EBADF where the target isn't open for writing, and then where the source isn't open for reading
abbrev pub can_send : Args → Kernel → Result ⊤ Errno
can_send args k = do
  refused_if (not (native.can_use k (signed args 0) false true)) BadDescriptor
  refused_if (not (native.can_use k (signed args 1) true false)) BadDescriptor
  Ok tt

-- without an offset the source is read at its position
abbrev pub place_of_32 : Option Position32 → Place
place_of_32 None = Current
place_of_32 (Some p) = At p.position

abbrev pub place_of_64 : Option Position64 → Place
place_of_64 None = Current
place_of_64 (Some p) = At p.position

-- the place that a pointer to an offset names; a narrow offset has 32 bits, and a wide one 64
unfoldable pub place_at : Bool → AbiRules → ℕ → Memory → Result Place Errno
place_at true abi at m = do
  offset ← optional_shape_at position_32 abi m at
  Ok (place_of_32 offset)
place_at false abi at m = do
  offset ← optional_shape_at position_64 abi m at
  Ok (place_of_64 offset)

-- the place of (target, source, offset, count)
abbrev pub send_place : Bool → AbiRules → Args → Memory → Kernel → Result Place Errno
send_place narrow abi args m k = do
  can_send args k
  place_at narrow abi (word args 2) m
