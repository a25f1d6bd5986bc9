-- The row of a number, by the lines of the call tables.
use Rattle.std.specs.Prelude.{ℕ, Bool, true, false, ◌==◌, not, ◌&&◌, nat_le, length, find, map, take, drop, List, [], ◌∷◌, Option, Some, None, option_map}
use Rattle.std.specs.List.{filter_map, flat_map, list_all, list_any}
use Rattle.std.specs.Option.{option_map_or}
use denote.Ref.{Bor}
use Rattle.kernel_values.specs.declared.abi.AbiKind.{AbiKind}
use Rattle.kernel_values.specs.declared.abi.AbiKind.TheVariants.{Ia32, ArmEabi}
use Rattle.abi_registers.specs.declared.arguments.Form.{Form}
use Rattle.abi_registers.specs.declared.arguments.Form.TheVariants.{Word, Signed, Pair}
use Rattle.call_tables.specs.declared.operation.Operation.{Operation}
use Rattle.call_tables.specs.declared.table.Numbers.{Numbers}
use Rattle.call_tables.specs.declared.table.Numbers.TheVariants.{Both, By, Ia32Alone, ArmAlone}
use Rattle.call_tables.specs.declared.table.Entry.{Entry}
use Rattle.call_tables.specs.declared.find.Row.{Row}
use Rattle.call_tables.specs.Calls.{Line, calls}

-- how a call is read: which it is, its name in ASCII, and the forms of its arguments
pub record CallRow : Type 0 where
  pub operation : Operation
  pub name : List ℕ
  pub forms : List Form

abbrev pub row_of_line : Line → CallRow
row_of_line l = record { operation = l.operation; name = l.name; forms = l.forms }

-- the number of a call in an ABI, where it has one
abbrev pub number_in : AbiKind → Numbers → Option ℕ
number_in abi (Both both) = Some both
number_in Ia32 (By ia32 arm) = Some ia32
number_in ArmEabi (By ia32 arm) = Some arm
number_in Ia32 (Ia32Alone ia32) = Some ia32
number_in ArmEabi (Ia32Alone ia32) = None
number_in Ia32 (ArmAlone arm) = None
number_in ArmEabi (ArmAlone arm) = Some arm

abbrev pub has_number : AbiKind → ℕ → Numbers → Bool
has_number abi number numbers = option_map_or (λ n. n == number) (number_in abi numbers) false

-- the row of the first of these lines with this number
abbrev pub row_in : AbiKind → ℕ → List Line → Option CallRow
row_in abi number lines = option_map row_of_line (find (λ l. has_number abi number l.numbers) lines)

-- the row of the first line with this number
unfoldable pub row : AbiKind → ℕ → Option CallRow
row abi number = row_in abi number calls

-- ---- what the lines keep

abbrev pub numbers_in : AbiKind → List Line → List ℕ
numbers_in abi lines = filter_map (λ l. number_in abi l.numbers) lines

-- no two numbers are equal
abbrev pub differ : List ℕ → Bool
differ [] = true
differ (n ∷ ns) = not (list_any (λ m. m == n) ns) && differ ns

-- no two lines have the same number in an ABI
unfoldable pub lines_differ : AbiKind → Bool
lines_differ abi = differ (numbers_in abi calls)

-- no line has more than six arguments
unfoldable pub lines_fit : Bool
lines_fit = list_all (λ l. nat_le (length l.forms) 6) calls

-- ---- rows and lines as the program has them

-- a row, whose forms are those up to its count
abbrev pub row_seen : Row → CallRow
row_seen r = record { operation = r.operation; name = r.name.now; forms = take r.count r.forms }

abbrev pub line_seen : Entry → Line
line_seen e = record { operation = e.0; name = e.1.now; numbers = e.2; forms = take e.3 e.4 }

-- all forms are `Word`
abbrev pub are_words : List Form → Bool
are_words [] = true
are_words (Word ∷ forms) = are_words forms
are_words (Signed ∷ forms) = false
are_words (Pair ∷ forms) = false

-- a line has at most six arguments, and `Word` past them
abbrev pub fits : Entry → Bool
fits e = nat_le e.3 6 && are_words (drop e.3 e.4)

-- the lines of tables, one after another
abbrev pub lines_seen : List (Bor (List Entry)) → List Line
lines_seen tables = flat_map (λ t. map line_seen t.now) tables
