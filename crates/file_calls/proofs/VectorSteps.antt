-- The calls on vectors, from what they fetch to what they store.
use Rattle.std.proofs.Common.{◌≡◌, ◌≤◌, ℕ, ℤ, ◌*◌, true, false, List, Ok, Err, length, refl}
use Rattle.std.proofs.lemmas.Bool.{le-ltb}
use Rattle.kernel_values.specs.declared.errno.Errno.{Errno}
use Rattle.abi_registers.specs.declared.arguments.Args.{Args}
use Rattle.abi_registers.specs.Values.{signed, word}
use Rattle.layout_laws.specs.Abis.{AbiRules}
use Rattle.file_layouts.specs.declared.vectors.IoVec32.{IoVec32}
use Rattle.open_files.specs.declared.state.Place.{Place}
use Rattle.message_repack.specs.Vectors.{compat_pieces, pieces_at}
use Rattle.user_memory.specs.Memory.{bytes_at}
use Rattle.native_kernel.specs.declared.state.Kernel.{Kernel}
use Rattle.native_kernel.specs.Operations as native
use Rattle.served_calls.specs.Calls.{Memory, served}
use Rattle.vector_bytes.specs.Pieces.{room_of, stores_pieces, total, transfer_pieces}
use Rattle.file_calls.specs.VectorFetch.{pieces_there, vector_fetched}
use Rattle.file_calls.specs.Vectors.{read_vector}

-- what is fetched of a descriptor that is open for reading, and a vector of few entries
pub fetched : (abi : AbiRules) (args : Args) (m : Memory) (k : Kernel) (ps : List IoVec32) → native.can_use k (signed args 0) true false ≡ true → word args 2 ≤ 1024
    → pieces_at abi.align64 m (word args 1) (word args 2) ≡ Ok ps → vector_fetched true abi args m k ≡ Ok ps
unfolding vector_fetched
fetched abi args m k ps usable few there = rw (usable, le-ltb _ _ few, there) refl

-- the bytes of a read in the pieces
pub read_stored : (place : Place) (abi : AbiRules) (args : Args) (m m' : Memory) (k k' : Kernel) (ps : List IoVec32) (bytes : List ℕ) → vector_fetched true abi args m k ≡ Ok ps
    → native.read k (signed args 0) (total (transfer_pieces ps)) (room_of m (transfer_pieces ps)) place ≡ (Ok bytes, k') → ps ≡ pieces_there abi args m
    → stores_pieces ps bytes m ≡ (Ok tt, m') → served (read_vector place abi args) m k ≡ (Ok (length bytes), (m', k'))
read_stored place abi args m m' k k' ps bytes fetched read there stored = rw (fetched, read, ← there, stored) refl

-- where they can't be stored
pub read_unstored : (place : Place) (abi : AbiRules) (args : Args) (m m' : Memory) (k k' : Kernel) (ps : List IoVec32) (bytes : List ℕ) (e : Errno) → vector_fetched true abi args m k ≡ Ok ps
    → native.read k (signed args 0) (total (transfer_pieces ps)) (room_of m (transfer_pieces ps)) place ≡ (Ok bytes, k') → ps ≡ pieces_there abi args m
    → stores_pieces ps bytes m ≡ (Err e, m') → served (read_vector place abi args) m k ≡ (Err e, (m', k'))
read_unstored place abi args m m' k k' ps bytes e fetched read there stored = rw (fetched, read, ← there, stored) refl

-- a read into pieces, whatever its parts are called
module _ (place : Place) (abi : AbiRules) (args : Args) (m m' : Memory) (k k' : Kernel) (ps : List IoVec32) (bytes : List ℕ) (fd : ℤ) (at count wanted room : ℕ)
    (e_fd : fd ≡ signed args 0) (e_at : at ≡ word args 1) (e_count : count ≡ word args 2) (usable : native.can_use k fd true false ≡ true) (few : count ≤ 1024)
    (told : pieces_at abi.align64 m at count ≡ Ok ps) (there : ps ≡ compat_pieces abi.align64 count (bytes_at m at (8 * count)))
    (e_wanted : wanted ≡ total (transfer_pieces ps)) (e_room : room ≡ room_of m (transfer_pieces ps))
    (read : native.read k fd wanted room place ≡ (Ok bytes, k')) where
  found : vector_fetched true abi args m k ≡ Ok ps
  found = fetched abi args m k ps (rw e_fd at usable) (rw e_count at few) (rw (e_at, e_count) at told)

  pub read_answer : stores_pieces ps bytes m ≡ (Ok tt, m') → served (read_vector place abi args) m k ≡ (Ok (length bytes), (m', k'))
  read_answer stored = read_stored place abi args m m' k k' ps bytes found (rw (e_fd, e_wanted, e_room) at read) (rw (e_at, e_count) at there) stored

  pub read_refusal : (e : Errno) → stores_pieces ps bytes m ≡ (Err e, m') → served (read_vector place abi args) m k ≡ (Err e, (m', k'))
  read_refusal e stored = read_unstored place abi args m m' k k' ps bytes e found (rw (e_fd, e_wanted, e_room) at read) (rw (e_at, e_count) at there) stored
