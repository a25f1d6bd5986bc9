-- The calls that move the bytes of vectors. They ask the kernel for the same operations as read and write do.
use Rattle.std.specs.Prelude.{ℕ, length, List, true, false}
use Rattle.open_files.specs.declared.state.Place.{Place}
use Rattle.open_files.specs.declared.state.Place.TheVariants.{At}
use Rattle.native_kernel.specs.declared.state.Kernel.{Kernel}
use Rattle.native_kernel.specs.Operations as native
use Rattle.abi_registers.specs.declared.arguments.Args.{Args}
use Rattle.abi_registers.specs.Values.{signed, word}
use Rattle.layout_laws.specs.Abis.{AbiRules}
use Rattle.served_calls.specs.Calls.{Call, Memory, gives_word, on_fetched, ◌>>◌}
use Rattle.vector_bytes.specs.Pieces.{data_of, room_of, stores_pieces, total, transfer_pieces}
use Rattle.file_calls.specs.Transfers.{halves}
use Rattle.file_calls.specs.VectorFetch.{pieces_there, vector_fetched}

-- readv(descriptor, vector, count), and preadv(descriptor, vector, count, low, high) at its offset: bytes into the pieces, no more than there
-- is room for, so that all of them can be stored
abbrev pub read_vector : Place → AbiRules → Args → Memory → Kernel → Call Kernel (List ℕ)
read_vector place abi args m k = record {
  operation = on_fetched k (vector_fetched true abi args m k) (λ ps.
      native.read k (signed args 0) (total (transfer_pieces ps)) (room_of m (transfer_pieces ps)) place);
  deliver = λ bytes. stores_pieces (pieces_there abi args m) bytes >> gives_word (length bytes);
  keeps = true;
}

-- writev(descriptor, vector, count), and pwritev(descriptor, vector, count, low, high) at its offset: the bytes of the pieces
abbrev pub write_vector : Place → AbiRules → Args → Memory → Kernel → Call Kernel ℕ
write_vector place abi args m k = record {
  operation = on_fetched k (vector_fetched false abi args m k) (λ ps.
      native.write k (signed args 0) (total (transfer_pieces ps)) (data_of m (transfer_pieces ps)) place);
  deliver = gives_word;
  keeps = true;
}

-- where preadv and pwritev begin: the offset comes in two words on both ABIs, the low one first
abbrev pub offset_place : Args → Place
offset_place args = At (halves (word args 4) (word args 3))
