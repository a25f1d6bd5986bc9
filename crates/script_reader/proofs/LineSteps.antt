-- One turn and the end of a search for the end of a line.
use Rattle.std.proofs.Common.{◌≡◌, ℕ, ◌+◌, ◌^◌, ◌<◌, ◌≤◌, List, [], length, get_or, take, drop, refl, ◌∙◌, arith}
use Rattle.std.proofs.lemmas.Bool.{le-leb, lt-leb, eq-eqb, ne_eqb}
use Rattle.std.proofs.lemmas.List.{at_drop_more, at_drop_all, length-take-le, take_more, take_all}
use Rattle.script_reader.specs.declared.fault.LineCause.TheVariants as causes
use Rattle.script_reader.specs.declared.seen.Seen.{Seen}
use Rattle.script_reader.specs.Seen.{line_told}
use Rattle.script_reader.specs.Script.{BadLine, TooLarge, AtEnd, next_told, next_from}

pub scan_large : (seen : Seen) (xs : List ℕ) (i d count : ℕ) → i < length xs → 2 ^ 28 ≤ count + i → next_from seen (take i xs) (count + i) (drop i xs) ≡ TooLarge
unfolding next_from
scan_large seen xs i d count h large = at_drop_more (next_from seen (take i xs) (count + i)) xs i d h ∙ rw (le-leb (2 ^ 28) (count + i) large) refl

pub scan_feed : (seen : Seen) (xs : List ℕ) (i d count : ℕ) → i < length xs → count + i < 2 ^ 28 → get_or xs i d ≡ 10
    → next_from seen (take i xs) (count + i) (drop i xs) ≡ next_told (seen.lines + 1) (line_told seen (take i xs)) (count + i + 1) (drop (i + 1) xs) (λ after. next_from after [] (count + i + 1) (drop (i + 1) xs))
unfolding next_from
scan_feed seen xs i d count h small e = at_drop_more (next_from seen (take i xs) (count + i)) xs i d h ∙ rw (lt-leb (2 ^ 28) (count + i) small, eq-eqb (get_or xs i d) 10 e) refl

pub scan_long : (seen : Seen) (xs : List ℕ) (i d count : ℕ) → i < length xs → count + i < 2 ^ 28 → (get_or xs i d ≡ 10 → ⊥) → i ≡ 16384
    → next_from seen (take i xs) (count + i) (drop i xs) ≡ BadLine (seen.lines + 1) causes.Long
unfolding next_from
scan_long seen xs i d count h small ne e =
    let size : length (take i xs) ≡ i = length-take-le i xs (omega arith) in
    at_drop_more (next_from seen (take i xs) (count + i)) xs i d h ∙ rw (lt-leb (2 ^ 28) (count + i) small, ne_eqb (get_or xs i d) 10 ne, size, eq-eqb i 16384 e) refl

pub scan_go : (seen : Seen) (xs : List ℕ) (i d count : ℕ) → i < length xs → count + i < 2 ^ 28 → (get_or xs i d ≡ 10 → ⊥) → (i ≡ 16384 → ⊥)
    → next_from seen (take i xs) (count + i) (drop i xs) ≡ next_from seen (take (i + 1) xs) (count + (i + 1)) (drop (i + 1) xs)
unfolding next_from
scan_go seen xs i d count h small ne other =
    let size : length (take i xs) ≡ i = length-take-le i xs (omega arith) in
    let place : count + (i + 1) ≡ count + i + 1 = omega arith in
    at_drop_more (next_from seen (take i xs) (count + i)) xs i d h
    ∙ rw (lt-leb (2 ^ 28) (count + i) small, ne_eqb (get_or xs i d) 10 ne, size, ne_eqb i 16384 other, place, take_more xs i d h) refl

pub scan_end : (seen : Seen) (xs : List ℕ) (i count : ℕ) → i ≡ length xs → next_from seen (take i xs) (count + i) (drop i xs) ≡ AtEnd seen xs (count + length xs)
unfolding next_from
scan_end seen xs i count e =
    at_drop_all (next_from seen (take i xs) (count + i)) xs i (omega arith) ∙ rw (take_all i xs (omega arith), e) refl
