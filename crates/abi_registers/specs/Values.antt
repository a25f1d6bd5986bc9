-- Arguments by their place among the forms.
use Rattle.std.specs.Prelude.{ℕ, ℤ, pos, negsuc, ◌^◌, nat_lt, slice_index_or, if◌then◌else◌}
use Rattle.abi_registers.specs.declared.arguments.Args.{Args}

abbrev pub signed : Args → ℕ → ℤ
signed args at = slice_index_or args.values at (pos 0)

-- a word; what no word can be is read as 0
abbrev pub word_of : ℤ → ℕ
word_of (pos n) = if nat_lt n (2 ^ 32) then n else 0
word_of (negsuc n) = 0

abbrev pub word : Args → ℕ → ℕ
word args at = word_of (signed args at)
