-- What the definition of a call depends on beside its arguments, user memory and the kernel.
use Rattle.std.specs.Prelude.{ℕ, Bool, false, Option, Some, None}
use Rattle.kernel_values.specs.declared.abi.AbiKind.{AbiKind}
use Rattle.kernel_values.specs.Abi.{align_of, are_pairs_even}

-- the kind of process, and the alignment of 64-bit numbers in its structures
pub record AbiRules : Type 0 where
  pub kind : AbiKind
  pub align64 : ℕ

-- the rules of an ABI by the constants of its type
abbrev pub rules : AbiKind → ℕ → AbiRules
rules kind align64 = record { kind = kind; align64 = align64 }

-- the rules by the kind
abbrev pub rules_of : AbiKind → AbiRules
rules_of kind = rules kind (align_of kind)

-- bytes of a word, how 64-bit numbers and the parts of a rule blob are aligned, and whether a 64-bit argument in
-- two words begins at an even place
pub record AbiConstants : Type 0 where
  pub word : ℕ
  pub align64 : ℕ
  pub blob_align : ℕ
  pub pair_even : Bool

-- those of a kind of 32-bit process, and those of the 64-bit kernel, which is of no kind
abbrev pub constants_of : Option AbiKind → AbiConstants
constants_of (Some kind) = record { word = 4; align64 = align_of kind; blob_align = align_of kind; pair_even = are_pairs_even kind }
constants_of None = record { word = 8; align64 = 8; blob_align = 8; pair_even = false }
