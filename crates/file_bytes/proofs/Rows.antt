-- Runs of a function's values.
use Rattle.std.proofs.Common.{◌≡◌, ℕ, ◌+◌, ◌-◌, ◌<◌, ◌≤◌, List, ◌++◌, length, get_or, take, drop, arith, subst, append_assoc, append-nil, length-append, ap, ◌∙◌, sym}
use Rattle.std.proofs.lemmas.Grind.{common_steps, same_number_lists}
use Rattle.std.proofs.lemmas.List.FromFn.{length-map-range_with_len, get_or-map-range_with_len}
use Rattle.std.proofs.lemmas.List.{get_or_append_left, get_or-append_right}
use Rattle.file_bytes.specs.Row.{Overlays, row}

pub length-row : (f : ℕ → ℕ) (a n : ℕ) → length (row f a n) ≡ n
unfolding row
length-row f a n = length-map-range_with_len f a n

pub get_or-row : (f : ℕ → ℕ) (a n k : ℕ) → k < n → get_or (row f a n) k 0 ≡ f (a + k)
unfolding row
get_or-row f a n k h = get_or-map-range_with_len f a n k (a + k) 0 h (omega arith)

-- a list with the function's values is the run
pub row_of : (f : ℕ → ℕ) (a n : ℕ) (xs : List ℕ) → length xs ≡ n → ((k : ℕ) → k < n → get_or xs k 0 ≡ f (a + k)) → xs ≡ row f a n
row_of f a n xs len same = same_number_lists xs (row f a n) (len ∙ sym (length-row f a n)) (λ k h. let b : k < n = omega (arith, h, len) in same k b ∙ sym (get_or-row f a n k b))

pub row_same : (f g : ℕ → ℕ) (a n : ℕ) → ((k : ℕ) → k < n → f (a + k) ≡ g (a + k)) → row f a n ≡ row g a n
row_same f g a n same = row_of g a n (row f a n) (length-row f a n) (λ k h. get_or-row f a n k h ∙ same k h)

row-append-at : (f : ℕ → ℕ) (a m n k : ℕ) → k < m + n → get_or (row f a m ++ row f (a + m) n) k 0 ≡ f (a + k)
row-append-at f a m n k h = grind (arith, length-row, get_or-row, get_or_append_left {A = ℕ}, get_or-append_right {X = ℕ})

pub row-append : (f : ℕ → ℕ) (a m n : ℕ) → row f a m ++ row f (a + m) n ≡ row f a (m + n)
row-append f a m n = row_of f a (m + n) _ (simp (length-append, length-row)) (λ k h. row-append-at f a m n k h)

pub take-row : (f : ℕ → ℕ) (a n k : ℕ) → k ≤ n → take k (row f a n) ≡ row f a k
take-row f a n k h = row_of f a k _ (grind (arith, common_steps, length-row)) (λ i b. grind (arith, common_steps, get_or-row))

pub drop-row : (f : ℕ → ℕ) (a n k : ℕ) → drop k (row f a n) ≡ row f (a + k) (n - k)
drop-row f a n k = row_of f (a + k) (n - k) _ (grind (arith, common_steps, length-row)) (λ i b. grind (arith, common_steps, get_or-row))

-- one more piece, after what stood before
pub row_more : (f : ℕ → ℕ) (before old new : List ℕ) (a m n : ℕ) → old ≡ before ++ row f a m → new ≡ old ++ row f (a + m) n → new ≡ before ++ row f a (m + n)
row_more f before old new a m n was now = now ∙ ap (λ xs. xs ++ row f (a + m) n) was ∙ append_assoc before (row f a m) (row f (a + m) n) ∙ ap (λ xs. before ++ xs) (row-append f a m n)

pub row_none : (f : ℕ → ℕ) (before : List ℕ) (a : ℕ) → before ≡ before ++ row f a 0
unfolding row
row_none f before a = sym (append-nil before)

high_inside : (h : ℕ → ℕ) (start done k : ℕ) (bytes piece : List ℕ) → k < done + length piece → done ≤ k → ((j : ℕ) → j < length piece → get_or piece j 0 ≡ get_or bytes (done + j) 0) → ((j : ℕ) → j < length piece → h (start + done + j) ≡ get_or piece j 0) → h (start + k) ≡ get_or bytes k 0
high_inside h start done k bytes piece b l same inside =
    let e : start + done + (k - done) ≡ start + k = omega arith in
    let d : done + (k - done) ≡ k = omega arith in
    let i : k - done < length piece = omega arith in
    let p : h (start + done + (k - done)) ≡ get_or bytes (done + (k - done)) 0 = inside (k - done) i ∙ same (k - done) i in
    ap h (sym e) ∙ p ∙ ap (λ n. get_or bytes n 0) d

-- one more piece after those that were written
more_inside : (f g h : ℕ → ℕ) (start done : ℕ) (bytes piece : List ℕ) → done + length piece ≤ length bytes → ((k : ℕ) → k < length piece → get_or piece k 0 ≡ get_or bytes (done + k) 0) → Overlays f g start (take done bytes) → Overlays g h (start + done) piece → (k : ℕ) → k < done + length piece → h (start + k) ≡ get_or bytes k 0
more_inside f g h start done bytes piece fits same was now k b =
    let low : k < done → h (start + k) ≡ get_or bytes k 0 = λ l. now.before (start + k) (omega arith) ∙ was.inside k (grind (arith, common_steps)) ∙ grind (arith, common_steps) in
    let high : done ≤ k → h (start + k) ≡ get_or bytes k 0 = λ l. high_inside h start done k bytes piece b l same now.inside in
    grind (arith)

pub overlays_more : (f g h : ℕ → ℕ) (start done : ℕ) (bytes piece : List ℕ) → done + length piece ≤ length bytes → ((k : ℕ) → k < length piece → get_or piece k 0 ≡ get_or bytes (done + k) 0) → Overlays f g start (take done bytes) → Overlays g h (start + done) piece → Overlays f h start (take (done + length piece) bytes)
overlays_more f g h start done bytes piece fits same was now = record {
  inside = λ k b. let l : k < done + length piece = grind (arith, common_steps) in more_inside f g h start done bytes piece fits same was now k l ∙ grind (arith, common_steps);
  before = λ i b. now.before i (omega arith) ∙ was.before i b;
  after = λ i b. let l : start + done + length piece ≤ i = grind (arith, common_steps) in now.after i l ∙ was.after i (grind (arith, common_steps));
}

-- the same, where the piece is a part of the bytes
pub overlays_slice : (f g h : ℕ → ℕ) (start done end n : ℕ) (bytes : List ℕ) → end ≤ length bytes → done + n ≡ end → Overlays f g start (take done bytes) → Overlays g h (start + done) (take (end - done) (drop done bytes)) → Overlays f h start (take end bytes)
overlays_slice f g h start done end n bytes fits e was now =
    let piece : List ℕ = take (end - done) (drop done bytes) in
    let len : length piece ≡ n = grind (arith, common_steps) in
    let same : (k : ℕ) → k < length piece → get_or piece k 0 ≡ get_or bytes (done + k) 0 = λ k b. grind (arith, common_steps) in
    let o : Overlays f h start (take (done + length piece) bytes) = overlays_more f g h start done bytes piece (omega arith) same was now in
    let P : ℕ → Type 0 = λ m. Overlays f h start (take m bytes) in
    subst P (ap (λ m. done + m) len ∙ e) o
