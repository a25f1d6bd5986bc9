-- A file's bytes are those of its pages up to its size.
use Rattle.std.proofs.Common.{◌≡◌, ℕ, ◌+◌, ◌-◌, ◌<◌, ◌≤◌, max, List, [], ◌++◌, length, get_or, take, drop, replicate, arith, refl, zero-add, ap, ◌∙◌, sym}
use Rattle.std.proofs.lemmas.Grind.{common_steps}
use Rattle.file_bytes.specs.Pages.{byte_at}
use Rattle.file_bytes.specs.Row.{Overlays, Cuts, resized, row, written}
use Rattle.file_bytes.proofs.Rows.{drop-row, get_or-row, length-row, row-append, row_of, row_same, take-row}

-- so far the bytes stay, and places past the old end are zero
front_at : (f g : ℕ → ℕ) (size start k : ℕ) → ((i : ℕ) → size ≤ i → f i ≡ 0) → k < start → g k ≡ f k → get_or (resized (row f 0 size) start) k 0 ≡ g k
front_at f g size start k zeros b same = grind (arith, common_steps, length-row, get_or-row)

row_of_front : (f : ℕ → ℕ) (n : ℕ) (xs : List ℕ) → length xs ≡ n → ((k : ℕ) → k < n → get_or xs k 0 ≡ f k) → xs ≡ row f 0 n
row_of_front f n xs len same = row_of f 0 n xs len (λ k b. same k b ∙ ap f (sym (zero-add k)))

pub drop-row_front : (f : ℕ → ℕ) (n k : ℕ) → drop k (row f 0 n) ≡ row f k (n - k)
drop-row_front f n k = drop-row f 0 n k ∙ ap (λ a. row f a (n - k)) (zero-add k)

append-row_front : (f : ℕ → ℕ) (m n : ℕ) → row f 0 m ++ row f m n ≡ row f 0 (m + n)
append-row_front f m n = ap (λ a. row f 0 m ++ row f a n) (sym (zero-add m)) ∙ row-append f 0 m n

front_of : (f g : ℕ → ℕ) (size start : ℕ) → ((i : ℕ) → size ≤ i → f i ≡ 0) → ((i : ℕ) → i < start → g i ≡ f i) → resized (row f 0 size) start ≡ row g 0 start
front_of f g size start zeros same = row_of_front g start _ (grind (arith, common_steps, length-row)) (λ k b. front_at f g size start k zeros b (same k b))

front : (f g : ℕ → ℕ) (size start : ℕ) (bytes : List ℕ) → ((i : ℕ) → size ≤ i → f i ≡ 0) → Overlays f g start bytes → resized (row f 0 size) start ≡ row g 0 start
front f g size start bytes zeros o = front_of f g size start zeros o.before

back : (f g : ℕ → ℕ) (size start : ℕ) (bytes : List ℕ) → Overlays f g start bytes → drop (start + length bytes) (row f 0 size) ≡ row g (start + length bytes) (size - (start + length bytes))
back f g size start bytes o = drop-row_front f size (start + length bytes) ∙ row_same f g (start + length bytes) (size - (start + length bytes)) (λ k b. sym (o.after (start + length bytes + k) (omega arith)))

middle : (f g : ℕ → ℕ) (start : ℕ) (bytes : List ℕ) → Overlays f g start bytes → bytes ≡ row g start (length bytes)
middle f g start bytes o = row_of g start (length bytes) bytes refl (λ k b. sym (o.inside k b))

pub content_written : (f g : ℕ → ℕ) (size start : ℕ) (bytes : List ℕ) → ((i : ℕ) → size ≤ i → f i ≡ 0) → Overlays f g start bytes → row g 0 (max size (start + length bytes)) ≡ written (row f 0 size) start bytes
unfolding written
content_written f g size start bytes zeros o =
    let n : ℕ = length bytes in
    let rest : ℕ = size - (start + n) in
    let total : max size (start + n) ≡ start + (n + rest) = omega arith in
    ap (row g 0) total ∙ sym (append-row_front g start (n + rest)) ∙ ap (λ xs. row g 0 start ++ xs) (sym (row-append g start n rest))
    ∙ ap (λ xs. xs ++ (row g start n ++ row g (start + n) rest)) (sym (front f g size start bytes zeros o))
    ∙ ap (λ xs. resized (row f 0 size) start ++ (xs ++ row g (start + n) rest)) (sym (middle f g start bytes o))
    ∙ ap (λ xs. resized (row f 0 size) start ++ (bytes ++ xs)) (sym (back f g size start bytes o))

-- another length
pub content_resized : (f g : ℕ → ℕ) (size new : ℕ) → ((i : ℕ) → size ≤ i → f i ≡ 0) → Cuts f g new → row g 0 new ≡ resized (row f 0 size) new
content_resized f g size new zeros cut = sym (front_of f g size new zeros cut.before)

pub zeros_cut : (f g : ℕ → ℕ) (end : ℕ) → Cuts f g end → (i : ℕ) → end ≤ i → g i ≡ 0
zeros_cut f g end cut = cut.after

-- a part of the content
pub content_read : (f : ℕ → ℕ) (size start n : ℕ) → start + n ≤ size → row f start n ≡ take n (drop start (row f 0 size))
content_read f size start n h = sym (ap (take n) (drop-row_front f size start) ∙ take-row f start (size - start) n (omega arith))

pub content_length : (f : ℕ → ℕ) (size : ℕ) → length (row f 0 size) ≡ size
content_length f size = length-row f 0 size

-- what lies past the new end is zero
pub zeros_kept : (f g : ℕ → ℕ) (size end : ℕ) → ((i : ℕ) → size ≤ i → f i ≡ 0) → ((i : ℕ) → end ≤ i → g i ≡ f i) → (i : ℕ) → max size end ≤ i → g i ≡ 0
zeros_kept f g size end zeros after i h = after i (omega arith) ∙ zeros i (omega arith)

pub no_bytes : (f : ℕ → ℕ) → row f 0 0 ≡ []
unfolding row
no_bytes f = refl

pub no_page : (pages : List (ℕ × List ℕ)) (i : ℕ) → pages ≡ [] → byte_at pages i ≡ 0
unfolding byte_at
no_page pages i e = rw e refl

pub zero_run : (pages : List (ℕ × List ℕ)) (n : ℕ) → pages ≡ [] → row (byte_at pages) 0 n ≡ replicate n 0
zero_run pages n e = sym (row_of_front (byte_at pages) n (replicate n 0) (grind (arith, common_steps)) (λ k b. grind (arith, common_steps, no_page pages k e)))
