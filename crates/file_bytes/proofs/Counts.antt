-- How many pages hold a byte other than 0, by the byte at each place.
use Rattle.std.proofs.Common.{◌≡◌, ℕ, zero, suc, ◌+◌, ◌-◌, ◌*◌, ◌/◌, ◌%◌, ◌<◌, ◌≤◌, ◌^◌, ◌||◌, not, Bool, true, false, List, length, get_or, take, drop, refl, ap, sym, ◌∙◌, inl, inr, arith}
use Rattle.std.specs.Prelude.{Some, None, IsSome, ◌==◌}
use Rattle.std.proofs.Math.Bool.{or-false}
use Rattle.std.proofs.lemmas.Bool.{cases_lt}
use Rattle.std.proofs.lemmas.List.{take_all}
use Rattle.std.proofs.lemmas.List.Folds.{list_any-append}
use Rattle.file_bytes.specs.Filled.{has_filled, filled_below, filled_pages, filled_of}
use Rattle.file_bytes.specs.Pages.{byte_at}
use Rattle.file_bytes.specs.Row.{row}
use Rattle.file_bytes.specs.Search.{AreZero}
use Rattle.number_maps.specs.NumberMap.{at}
use Rattle.file_bytes.proofs.Contents.{content_length, drop-row_front}
use Rattle.file_bytes.proofs.NextRun.{byte_of_page, passed, rest_none}
use Rattle.file_bytes.proofs.Rows.{length-row, row-append, row_of, take-row}
use Rattle.file_bytes.proofs.Runs.{row_none, row_one_more}

-- zeros alone
zeros_only : (f : ℕ → ℕ) (k a : ℕ) → AreZero f a (a + k) → has_filled (row f a k) ≡ false
zeros_only f zero a clear = ap has_filled (row_none f a)
zeros_only f (suc k) a clear =
    let e : f a ≡ 0 = clear a (omega arith) (omega arith) in
    ap has_filled (row_one_more f a k) ∙ ap (λ b. not (b == 0) || has_filled (row f (a + 1) k)) e
    ∙ zeros_only f k (a + 1) (λ i lo hi. clear i (omega arith) (omega arith))

-- zeros behind other bytes
zeros_behind : (f : ℕ → ℕ) (a n k : ℕ) → AreZero f (a + n) (a + n + k) → has_filled (row f a (n + k)) ≡ has_filled (row f a n)
zeros_behind f a n k clear =
    ap has_filled (sym (row-append f a n k)) ∙ list_any-append (λ (b : ℕ). not (b == 0)) (row f a n) (row f (a + n) k)
    ∙ ap (λ b. has_filled (row f a n) || b) (zeros_only f k (a + n) clear) ∙ or-false (has_filled (row f a n))

-- a page of a file: where the file ends in it, zeros are behind
page_of_file : (f : ℕ → ℕ) (size a : ℕ) → ((i : ℕ) → size ≤ i → f i ≡ 0) → has_filled (take 4096 (drop a (row f 0 size))) ≡ has_filled (row f a 4096)
page_of_file f size a zeros =
    let n : ℕ = size - a in
    ap (λ xs. has_filled (take 4096 xs)) (drop-row_front f size a) ∙
    elim (cases_lt n 4096) [
      | inl lt ↦
          let short : length (row f a n) ≤ 4096 = rw (length-row f a n) (omega arith) in
          let whole : n + (4096 - n) ≡ 4096 = omega arith in
          ap has_filled (take_all 4096 (row f a n) short)
          ∙ sym (zeros_behind f a n (4096 - n) (λ i lo hi. zeros i (omega arith)))
          ∙ ap (λ m. has_filled (row f a m)) whole
      | inr le ↦ ap has_filled (take-row f a n 4096 le)
    ]

-- the count over a file's bytes
below_of_file : (f : ℕ → ℕ) (size n : ℕ) → ((i : ℕ) → size ≤ i → f i ≡ 0) → filled_below (row f 0 size) n ≡ filled_of f n
unfolding filled_below filled_of
below_of_file f size zero zeros = refl
below_of_file f size (suc n) zeros = rw (page_of_file f size (n * 4096) zeros, below_of_file f size n zeros) refl

-- a page with a byte other than 0, and one without
pub one_more : (f : ℕ → ℕ) (n : ℕ) → has_filled (row f (n * 4096) 4096) ≡ true → filled_of f (n + 1) ≡ filled_of f n + 1
unfolding filled_of
one_more f n e =
    let next : n + 1 ≡ suc n = omega arith in
    rw (next, e) refl

pub no_more : (f : ℕ → ℕ) (n : ℕ) → has_filled (row f (n * 4096) 4096) ≡ false → filled_of f (n + 1) ≡ filled_of f n
unfolding filled_of
no_more f n e =
    let next : n + 1 ≡ suc n = omega arith in
    rw (next, e) refl

-- pages of zeros
pages_skip : (f : ℕ → ℕ) (n k : ℕ) → AreZero f (n * 4096) ((n + k) * 4096) → filled_of f (n + k) ≡ filled_of f n
pages_skip f n zero clear = let none : n + 0 ≡ n = omega arith in rw none refl
pages_skip f n (suc k) clear =
    let count : n + suc k ≡ (n + k) + 1 = omega arith in
    rw count (no_more f (n + k) (zeros_only f 4096 ((n + k) * 4096) (λ i lo hi. clear i (omega arith) (omega arith)))
    ∙ pages_skip f n k (λ i lo hi. clear i lo (omega arith)))

skip_to : (f : ℕ → ℕ) (n m : ℕ) → n ≤ m → AreZero f (n * 4096) (m * 4096) → filled_of f m ≡ filled_of f n
skip_to f n m le clear =
    let e : n + (m - n) ≡ m = omega arith in
    ap (filled_of f) (sym e) ∙ pages_skip f n (m - n) (λ i lo hi. clear i lo (omega arith))

-- the count of a file
pub count_of_file : (f : ℕ → ℕ) (size result : ℕ) (bytes : List ℕ) → row f 0 size ≡ bytes → size ≤ 2 ^ 40 → ((i : ℕ) → size ≤ i → f i ≡ 0) → result ≡ filled_of f (2 ^ 28) → result ≡ filled_pages bytes
unfolding filled_pages
count_of_file f size result bytes view low zeros count =
    let pages : ℕ = (size + 4095) / 4096 in
    rw (sym view, content_length f size) (count ∙ skip_to f pages (2 ^ 28) (omega arith) (λ i lo hi. zeros i (omega arith)) ∙ sym (below_of_file f size pages zeros))

-- the bytes of a page that is there
page_bytes : (pages : List (ℕ × List ℕ)) (page : List ℕ) (number : ℕ) → length page ≡ 4096 → at pages number ≡ Some page → page ≡ row (byte_at pages) (number * 4096) 4096
page_bytes pages page number whole found = row_of (byte_at pages) (number * 4096) 4096 page whole (λ k b.
    let home : (number * 4096 + k) / 4096 ≡ number = omega arith in
    let offset : (number * 4096 + k) % 4096 ≡ k = omega arith in
    sym (byte_of_page pages page number (number * 4096 + k) found home ∙ ap (λ i. get_or page i 0) offset))

-- pages that aren't there are passed
pub to_page : (pages : List (ℕ × List ℕ)) (number found : ℕ) → number ≤ found → found < 2 ^ 28 → ((q : ℕ) → number ≤ q → q < 2 ^ 28 → IsSome (at pages q) → found ≤ q) → filled_of (byte_at pages) found ≡ filled_of (byte_at pages) number
to_page pages number found le low absent =
    skip_to (byte_at pages) number found le (passed pages (number * 4096) number found (λ i lo hi. absurd (omega arith)) low absent)

pub to_end : (pages : List (ℕ × List ℕ)) (number : ℕ) → number ≤ 2 ^ 28 → ((q : ℕ) → number ≤ q → q < 2 ^ 28 → at pages q ≡ None) → filled_of (byte_at pages) (2 ^ 28) ≡ filled_of (byte_at pages) number
to_end pages number le absent =
    skip_to (byte_at pages) number (2 ^ 28) le (λ i lo hi. rest_none pages (number * 4096) number (λ j low high. absurd (omega arith)) absent i lo (omega arith))

-- whether a page that is there is counted
pub page_filled : (pages : List (ℕ × List ℕ)) (page : List ℕ) (number : ℕ) (filled : Bool) → length page ≡ 4096 → at pages number ≡ Some page → filled ≡ has_filled page → has_filled (row (byte_at pages) (number * 4096) 4096) ≡ filled
page_filled pages page number filled whole found e = sym (e ∙ ap has_filled (page_bytes pages page number whole found))

pub none_below : (f : ℕ → ℕ) → 0 ≡ filled_of f 0
unfolding filled_of
none_below f = refl
