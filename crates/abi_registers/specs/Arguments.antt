-- Arguments by place: each form begins where the one before it ended, or one word later where a pair has to be
-- even. A place past the sixth word reads 0.
use Rattle.std.specs.Prelude.{ℕ, ◌+◌, ◌-◌, ◌*◌, ◌%◌, ◌^◌, ℤ, pos, Bool, List, [], ◌∷◌, ◌++◌, length, slice_index, replicate, if◌then◌else◌}
use Rattle.std.specs.Int.{w32, w64, cast_signed}
use Rattle.kernel_values.specs.declared.abi.AbiKind.{AbiKind}
use Rattle.kernel_values.specs.Abi.{are_pairs_even}
use Rattle.abi_registers.specs.declared.arguments.Form.{Form}
use Rattle.abi_registers.specs.declared.arguments.Form.TheVariants.{Word, Signed, Pair}
use Rattle.abi_registers.specs.declared.arguments.Args.{Args}

-- where a form begins that may begin at this place
abbrev pub first_place : Bool → Form → ℕ → ℕ
first_place even Word at = at
first_place even Signed at = at
first_place even Pair at = if even then at + at % 2 else at

-- how many words a form takes
abbrev pub words_of : Form → ℕ
words_of Word = 1
words_of Signed = 1
words_of Pair = 2

-- the value of a form that begins at this place; of a pair's words the low one is first
abbrev pub value_at : List ℕ → Form → ℕ → ℤ
value_at words Word at = pos (slice_index words at)
value_at words Signed at = cast_signed w32 (slice_index words at)
value_at words Pair at = cast_signed w64 (slice_index words at + slice_index words (at + 1) * 2 ^ 32)

-- the values of the forms in turn, of which the first may begin at this place
abbrev pub values_from : Bool → List ℕ → ℕ → List Form → List ℤ
values_from even words at [] = []
values_from even words at (f ∷ fs) =
    value_at words f (first_place even f at) ∷ values_from even words (first_place even f at + words_of f) fs

-- the arguments of the forms, and 0 past them
abbrev pub args_of : AbiKind → List ℕ → List Form → Args
args_of abi words forms = record {
  values = values_from (are_pairs_even abi) words 0 forms ++ replicate (6 - length forms) (pos 0);
  count = length forms;
}
