-- The calls that send bytes of a file to another descriptor.
use Rattle.std.specs.Prelude.{ℕ, ℤ, pos, ◌+ℤ◌, Bool, true, false, Result, Ok, Err, ⊤}
use Rattle.kernel_values.specs.declared.errno.Errno.{Errno}
use Rattle.open_files.specs.declared.state.Place.{Place}
use Rattle.open_files.specs.declared.state.Place.TheVariants.{Current, At}
use Rattle.native_kernel.specs.declared.state.Kernel.{Kernel}
use Rattle.native_kernel.specs.Operations as native
use Rattle.abi_registers.specs.declared.arguments.Args.{Args}
use Rattle.abi_registers.specs.Values.{signed, word}
use Rattle.layout_laws.specs.Abis.{AbiRules}
use Rattle.file_layouts.specs.Positions.{position_32, position_64}
use Rattle.served_calls.specs.Bytes.{transfer_count}
use Rattle.served_calls.specs.Calls.{Call, Delivery, Memory, gives_word, on_fetched, ◌>>◌}
use Rattle.served_calls.specs.Shapes.{stores}
use Rattle.file_calls.specs.SendFetch.{send_place}

-- the place beside the number of bytes
abbrev pub with_place : Place → Result ℕ Errno × Kernel → Result (Place × ℕ) Errno × Kernel
with_place place (Ok n, k) = (Ok (place, n), k)
with_place place (Err e, k) = (Err e, k)

abbrev pub sent_from : Bool → Args → Kernel → Place → Result (Place × ℕ) Errno × Kernel
sent_from narrow args k place = with_place place (native.send_file k (signed args 0) (signed args 1) place (transfer_count (word args 3)) narrow)

-- an offset in its 32 or 64 bits
unfoldable pub stores_offset : Bool → AbiRules → ℕ → ℤ → Delivery ⊤
stores_offset true abi at offset m = stores position_32 abi at (record { position = offset }) m
stores_offset false abi at offset m = stores position_64 abi at (record { position = offset }) m

-- an offset that is there becomes that of the next byte
abbrev pub stores_next : Bool → AbiRules → ℕ → Place → ℕ → Delivery ⊤
stores_next narrow abi at Current n m = (Ok tt, m)
stores_next narrow abi at (At offset) n m = stores_offset narrow abi at (offset +ℤ pos n) m

-- sendfile(target, source, offset, count) with a narrow offset, and sendfile64 with a wide one: the bytes are sent also where the offset
-- can't be stored
unfoldable pub send_file : Bool → AbiRules → Args → Memory → Kernel → Call Kernel (Place × ℕ)
send_file narrow abi args m k = record {
  operation = on_fetched k (send_place narrow abi args m k) (sent_from narrow args k);
  deliver = λ x. stores_next narrow abi (word args 2) x.0 x.1 >> gives_word x.1;
  keeps = true;
}
