-- The row of a number in tables, by those in the first and in the others.
use Rattle.std.proofs.Common.{◌≡◌, ℕ, ◌+◌, ◌<◌, ◌++◌, List, [], ◌∷◌, Some, None, length, drop, get_or, map, arith, refl, Bor, add-one}
use Rattle.std.proofs.Math.Seq.{drop-cons}
use Rattle.kernel_values.specs.declared.abi.AbiKind.{AbiKind}
use Rattle.call_tables.specs.declared.table.Entry.{Entry}
use Rattle.call_tables.specs.Calls.{Line}
use Rattle.call_tables.specs.Rows.{CallRow, row_in, line_seen, lines_seen}

pub row_before : (abi : AbiKind) (number : ℕ) (ls ms : List Line) (r : CallRow) → row_in abi number ls ≡ Some r → row_in abi number (ls ++ ms) ≡ Some r
row_before abi number [] ms r found = grind arith
row_before abi number (l ∷ ls) ms r found = grind (arith, row_before abi number ls ms r)

pub row_after : (abi : AbiKind) (number : ℕ) (ls ms : List Line) → row_in abi number ls ≡ None → row_in abi number (ls ++ ms) ≡ row_in abi number ms
row_after abi number [] ms missing = grind arith
row_after abi number (l ∷ ls) ms missing = grind (arith, row_after abi number ls ms)

lines_from : (tables : List (Bor (List Entry))) (i : ℕ) (d : Bor (List Entry)) → i < length tables
    → lines_seen (drop i tables) ≡ map line_seen (get_or tables i d).now ++ lines_seen (drop (i + 1) tables)
lines_from tables i d within = rw (add-one, drop-cons tables i d) refl

pub found_here : (abi : AbiKind) (number : ℕ) (tables : List (Bor (List Entry))) (i : ℕ) (d : Bor (List Entry)) (r : CallRow) → i < length tables
    → row_in abi number (map line_seen (get_or tables i d).now) ≡ Some r → row_in abi number (lines_seen (drop i tables)) ≡ Some r
found_here abi number tables i d r within found = rw (lines_from tables i d within) (row_before abi number _ _ r found)

pub found_later : (abi : AbiKind) (number : ℕ) (tables : List (Bor (List Entry))) (i : ℕ) (d : Bor (List Entry)) → i < length tables
    → row_in abi number (map line_seen (get_or tables i d).now) ≡ None
    → row_in abi number (lines_seen (drop i tables)) ≡ row_in abi number (lines_seen (drop (i + 1) tables))
found_later abi number tables i d within missing = rw (lines_from tables i d within) (row_after abi number _ _ missing)

pub ruleset rows = (row_before, row_after, found_here, found_later)
