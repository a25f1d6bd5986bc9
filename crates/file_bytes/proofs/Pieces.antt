-- Pieces that lie within one page.
use Rattle.std.proofs.Common.{◌≡◌, ℕ, ◌+◌, ◌/◌, ◌%◌, ◌<◌, ◌≤◌, List, length, get_or, take, drop, replicate, Option, Some, None, IsSome, IfSome, cond, Bool, true, false, refl, is_some, ◌==◌, if◌then◌else◌, slice_index, arith, ap, ◌∙◌, sym}
use Rattle.std.proofs.lemmas.Grind.{common_steps}
use Rattle.std.proofs.lemmas.List.{get_or-replicate}
use Rattle.file_bytes.specs.Row.{Overlays, laid, row}
use Rattle.file_bytes.specs.Pages.{Puts, SameBytes, byte_at, byte_in}
use Rattle.number_maps.specs.NumberMap.{at}
use Rattle.file_bytes.proofs.Rows.{row_of}

-- a place of a piece lies in the page of its start
same_page : (start k : ℕ) → start % 4096 + k < 4096 → (start + k) / 4096 ≡ start / 4096
same_page start k h = omega arith

place_in_page : (start k : ℕ) → start % 4096 + k < 4096 → (start + k) % 4096 ≡ start % 4096 + k
place_in_page start k h = omega arith

-- a byte of a piece
byte_of_piece : (pages : List (ℕ × List ℕ)) (start k : ℕ) → start % 4096 + k < 4096 → byte_at pages (start + k) ≡ byte_in (at pages (start / 4096)) (start % 4096 + k)
unfolding byte_at
byte_of_piece pages start k h = rw (same_page start k h, place_in_page start k h)

pub piece_of_page : (pages : List (ℕ × List ℕ)) (page : List ℕ) (start n : ℕ) → start % 4096 + n ≤ 4096 → length page ≡ 4096 → at pages (start / 4096) ≡ Some page → take n (drop (start % 4096) page) ≡ row (byte_at pages) start n
piece_of_page pages page start n fits len found = row_of (byte_at pages) start n _ (grind (arith, common_steps)) (λ k h. let e : get_or (take n (drop (start % 4096) page)) k 0 ≡ get_or page (start % 4096 + k) 0 = grind (arith, common_steps) in e ∙ sym (byte_of_piece pages start k (omega arith) ∙ ap (λ p. byte_in p (start % 4096 + k)) found))

pub piece_of_none : (pages : List (ℕ × List ℕ)) (start n : ℕ) → start % 4096 + n ≤ 4096 → at pages (start / 4096) ≡ None → replicate n 0 ≡ row (byte_at pages) start n
piece_of_none pages start n fits found = row_of (byte_at pages) start n _ (grind (arith, common_steps)) (λ k h. let e : get_or (replicate n 0) k 0 ≡ 0 = grind (arith, common_steps) in e ∙ sym (byte_of_piece pages start k (omega arith) ∙ ap (λ p. byte_in p (start % 4096 + k)) found))

-- a page of zeros reads like one that isn't there
zero_byte : (page : List ℕ) (i : ℕ) → page ≡ replicate {A = ℕ} 4096 0 → slice_index page (i % 4096) ≡ 0
zero_byte page i e = rw e (get_or-replicate 4096 (i % 4096) 0 0 (omega arith))

byte_in-cond : (b : Bool) (x y : Option (List ℕ)) (i : ℕ) → byte_in (cond b x y) i ≡ cond b (byte_in x i) (byte_in y i)
byte_in-cond true x y i = refl
byte_in-cond false x y i = refl

byte_in_none : (x : Option (List ℕ)) (i : ℕ) → is_some x ≡ false → byte_in x i ≡ 0
byte_in_none None i h = refl
byte_in_none (Some page) i h = cc

none_byte : (old : List (ℕ × List ℕ)) (key i : ℕ) → is_some (at old key) ≡ false → i / 4096 ≡ key → byte_at old i ≡ 0
unfolding byte_at
none_byte old key i absent e = rw e (byte_in_none (at old key) (i % 4096) absent)

-- a byte after a page was put
pub put_byte : (old new : List (ℕ × List ℕ)) (key : ℕ) (page : List ℕ) (i : ℕ) → Puts old new key page → byte_at new i ≡ (if (i / 4096) == key then slice_index page (i % 4096) else byte_at old i)
unfolding byte_at
put_byte old new key page i puts = rw (puts (i / 4096)) (byte_in-cond ((i / 4096) == key) (Some page) (at old (i / 4096)) (i % 4096))

pub zero_page_same : (old new : List (ℕ × List ℕ)) (key : ℕ) (page : List ℕ) → is_some (at old key) ≡ false → page ≡ replicate {A = ℕ} 4096 0 → Puts old new key page → (i : ℕ) → byte_at new i ≡ byte_at old i
zero_page_same old new key page absent zeros puts i =
    let e : byte_at new i ≡ (if (i / 4096) == key then slice_index page (i % 4096) else byte_at old i) = put_byte old new key page i puts in
    let z : slice_index page (i % 4096) ≡ 0 = zero_byte page i zeros in
    let n : i / 4096 ≡ key → byte_at old i ≡ 0 = none_byte old key i absent in
    grind (arith, common_steps)

some_byte : (old : List (ℕ × List ℕ)) (key i : ℕ) (page : List ℕ) → at old key ≡ Some page → i / 4096 ≡ key → byte_at old i ≡ slice_index page (i % 4096)
unfolding byte_at
some_byte old key i page found e = rw (e, found) refl

-- a byte of a list in which others were laid
laid_inside : (page bytes : List ℕ) (start k : ℕ) → start + length bytes ≤ length page → k < length bytes → get_or (laid page start bytes) (start + k) 0 ≡ get_or bytes k 0
laid_inside page bytes start k fits h = grind (arith, common_steps)

laid_before : (page bytes : List ℕ) (start j : ℕ) → start + length bytes ≤ length page → j < start → get_or (laid page start bytes) j 0 ≡ get_or page j 0
laid_before page bytes start j fits h = grind (arith, common_steps)

laid_after : (page bytes : List ℕ) (start j : ℕ) → start + length bytes ≤ length page → start + length bytes ≤ j → get_or (laid page start bytes) j 0 ≡ get_or page j 0
laid_after page bytes start j fits h = grind (arith, common_steps)

-- a byte of the page that was put, and one of another page
pub put_here : (old new : List (ℕ × List ℕ)) (key : ℕ) (page : List ℕ) (i : ℕ) → Puts old new key page → i / 4096 ≡ key → byte_at new i ≡ get_or page (i % 4096) 0
put_here old new key page i puts e = let p : byte_at new i ≡ (if (i / 4096) == key then slice_index page (i % 4096) else byte_at old i) = put_byte old new key page i puts in grind (arith, common_steps)

pub put_elsewhere : (old new : List (ℕ × List ℕ)) (key : ℕ) (page : List ℕ) (i : ℕ) → Puts old new key page → (i / 4096 ≡ key → slice_index page (i % 4096) ≡ byte_at old i) → byte_at new i ≡ byte_at old i
put_elsewhere old new key page i puts same = let p : byte_at new i ≡ (if (i / 4096) == key then slice_index page (i % 4096) else byte_at old i) = put_byte old new key page i puts in grind (arith, common_steps)

-- writing within one page is writing these bytes
pub page_overlays : (old new : List (ℕ × List ℕ)) (page bytes : List ℕ) (start : ℕ) → start % 4096 + length bytes ≤ 4096 → length page ≡ 4096 → at old (start / 4096) ≡ Some page → Puts old new (start / 4096) (laid page (start % 4096) bytes) → Overlays (byte_at old) (byte_at new) start bytes
page_overlays old new page bytes start fits len found puts =
    let room : start % 4096 + length bytes ≤ length page = omega arith in
    record {
      inside = λ k h. put_here old new _ _ (start + k) puts (same_page start k (omega arith)) ∙ rw (place_in_page start k (omega arith)) (laid_inside page bytes (start % 4096) k room h);
      before = λ i h. put_elsewhere old new _ _ i puts (λ e. laid_before page bytes (start % 4096) (i % 4096) room (omega arith) ∙ sym (some_byte old _ i page found e));
      after = λ i h. put_elsewhere old new _ _ i puts (λ e. laid_after page bytes (start % 4096) (i % 4096) room (omega arith) ∙ sym (some_byte old _ i page found e));
    }

-- the page was made first, where there was none
overlays_found : (old mid new : List (ℕ × List ℕ)) (bytes : List ℕ) (start : ℕ) (x : Option (List ℕ)) → at mid (start / 4096) ≡ x → IsSome x → IfSome x (λ page. length page ≡ 4096) → start % 4096 + length bytes ≤ 4096 → SameBytes old mid → ((page : List ℕ) → length page ≡ 4096 → at mid (start / 4096) ≡ Some page → Puts mid new (start / 4096) (laid page (start % 4096) bytes)) → Overlays (byte_at old) (byte_at new) start bytes
overlays_found old mid new bytes start None found there whole fits same puts = cc
overlays_found old mid new bytes start (Some page) found there whole fits same puts =
    let o : Overlays (byte_at mid) (byte_at new) start bytes = page_overlays mid new page bytes start fits whole found (puts page whole found) in
    record { inside = o.inside; before = λ i h. o.before i h ∙ same i; after = λ i h. o.after i h ∙ same i }

pub piece_overlays : (old mid new : List (ℕ × List ℕ)) (bytes : List ℕ) (start : ℕ) → IsSome (at mid (start / 4096)) → IfSome (at mid (start / 4096)) (λ page. length page ≡ 4096) → start % 4096 + length bytes ≤ 4096 → SameBytes old mid → ((page : List ℕ) → length page ≡ 4096 → at mid (start / 4096) ≡ Some page → Puts mid new (start / 4096) (laid page (start % 4096) bytes)) → Overlays (byte_at old) (byte_at new) start bytes
piece_overlays old mid new bytes start there whole fits same puts = overlays_found old mid new bytes start _ refl there whole fits same puts
