-- Laws of control messages and addresses.
use Rattle.std.specs.Prelude.{◌≡◌, ◌≢◌, ℕ, ◌<◌, ◌≤◌, true, List, length, take, slice_index, Some, Ok}
use Rattle.message_layouts.specs.Addresses.{address_bytes, address_of, is_path}
use Rattle.message_layouts.specs.Controls.{AllFit, AreControls, Control, controls_of, spelled}

-- `controls_of` gives a list exactly where the bytes are those of it
abbrev pub ToldAreTheirs : Type 0
ToldAreTheirs = (word : ℕ) (cs : List Control) (bytes : List ℕ) → 0 < word → record {
  told : AreControls word cs bytes → controls_of word bytes ≡ Some cs;
  theirs : controls_of word bytes ≡ Some cs → AreControls word cs bytes;
}

-- the bytes of messages whose fields fit are those of these messages
abbrev pub SpelledAreReadBack : Type 0
SpelledAreReadBack = (word : ℕ) (cs : List Control) → 0 < word → AllFit word cs → controls_of word (spelled word cs) ≡ Some cs

-- a name that a socket can have: abstract, or a path without a zero
abbrev pub IsName : List ℕ → Type 0
IsName name = (1 ≤ length name) × (length name ≤ 108) × (is_path name ≡ true → (k : ℕ) → k < length name → slice_index name k ≢ 0)

-- what is told of a name is its address, where no more is kept of it than an address has
abbrev pub AddressIsReadBack : Type 0
AddressIsReadBack = (name : List ℕ) → IsName name → address_of (take 110 (address_bytes name)) ≡ Ok name
