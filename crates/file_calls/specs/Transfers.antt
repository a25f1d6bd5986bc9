-- The calls that move bytes, and those that move positions. A transfer goes up to the first byte without the right.
use Rattle.std.specs.Prelude.{ℕ, ℤ, ◌+◌, ◌*◌, ◌^◌, nat_abs, int_lt, pos, length, List, if◌then◌else◌, true, false}
use Rattle.std.specs.Int.{w64, cast_signed}
use Rattle.kernel_values.specs.Bounds.{most_narrow}
use Rattle.kernel_values.specs.declared.errno.Errno.TheVariants.{Overflow}
use Rattle.open_files.specs.declared.state.Place.TheVariants.{Current, At}
use Rattle.native_kernel.specs.declared.state.Kernel.{Kernel}
use Rattle.native_kernel.specs.Operations as native
use Rattle.abi_registers.specs.declared.arguments.Args.{Args}
use Rattle.abi_registers.specs.Values.{signed, word}
use Rattle.layout_laws.specs.Abis.{AbiRules}
use Rattle.file_layouts.specs.Positions.{position_64}
use Rattle.served_calls.specs.Calls.{Call, Delivery, Memory, fails, gives_word, ◌>>◌}
use Rattle.served_calls.specs.Bytes.{data_at, low_word, room_at, stores_bytes, transfer_count}
use Rattle.served_calls.specs.Shapes.{stores}

-- the bytes read, and how many they are
abbrev pub gives_bytes : ℕ → List ℕ → Delivery ℕ
gives_bytes at bytes = stores_bytes at bytes >> gives_word (length bytes)

-- read(descriptor, buffer, count): no more bytes than there is room for, so that all of them can be stored
unfoldable pub read : AbiRules → Args → Memory → Kernel → Call Kernel (List ℕ)
read abi args m k = record {
  operation = native.read k (signed args 0) (transfer_count (word args 2)) (room_at m (word args 1) (transfer_count (word args 2))) Current;
  deliver = gives_bytes (word args 1);
  keeps = false;
}

-- pread64(descriptor, buffer, count, offset)
unfoldable pub pread64 : AbiRules → Args → Memory → Kernel → Call Kernel (List ℕ)
pread64 abi args m k = record {
  operation = native.read k (signed args 0) (transfer_count (word args 2)) (room_at m (word args 1) (transfer_count (word args 2))) (At (signed args 3));
  deliver = gives_bytes (word args 1);
  keeps = false;
}

-- write(descriptor, buffer, count)
unfoldable pub write : AbiRules → Args → Memory → Kernel → Call Kernel ℕ
write abi args m k = record {
  operation = native.write k (signed args 0) (transfer_count (word args 2)) (data_at m (word args 1) (transfer_count (word args 2))) Current;
  deliver = gives_word;
  keeps = true;
}

-- pwrite64(descriptor, buffer, count, offset)
unfoldable pub pwrite64 : AbiRules → Args → Memory → Kernel → Call Kernel ℕ
pwrite64 abi args m k = record {
  operation = native.write k (signed args 0) (transfer_count (word args 2)) (data_at m (word args 1) (transfer_count (word args 2))) (At (signed args 3));
  deliver = gives_word;
  keeps = true;
}

-- a position as a result word: EOVERFLOW above 2^31 - 1
abbrev pub gives_position : ℤ → Delivery ℕ
gives_position p = if int_lt (pos most_narrow) p then fails Overflow else gives_word (low_word (nat_abs p))

-- lseek(descriptor, offset, whence): the new position stands also where it can't be told
unfoldable pub lseek : AbiRules → Args → Memory → Kernel → Call Kernel ℤ
lseek abi args m k = record {
  operation = native.seek k (signed args 0) (signed args 1) (word args 2);
  deliver = gives_position;
  keeps = true;
}

-- a signed number of 64 bits, from its high and its low word
unfoldable pub halves : ℕ → ℕ → ℤ
halves high low = cast_signed w64 (high * 2 ^ 32 + low)

-- _llseek(descriptor, high, low, result, whence): the new position stands also where it can't be stored
unfoldable pub llseek : AbiRules → Args → Memory → Kernel → Call Kernel ℤ
llseek abi args m k = record {
  operation = native.seek k (signed args 0) (halves (word args 1) (word args 2)) (word args 4);
  deliver = λ p. stores position_64 abi (word args 3) (record { position = p }) >> gives_word 0;
  keeps = true;
}
