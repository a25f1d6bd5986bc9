-- What a search finds among pages with ascending numbers, and what an edit at that place does.
use Rattle.std.proofs.Common.{◌≡◌, ℕ, zero, suc, ◌+◌, ◌/◌, ◌<◌, ◌≤◌, List, [], ◌∷◌, ◌++◌, length, get_or, take, drop, true, false, refl, sym, ap, subst, ◌∙◌, arith}
use Rattle.std.specs.Prelude.{Some, None, Result, Ok, Err, IfOk, IfErr, insert, is_ok}
use Rattle.std.specs.Ordering.{nat_cmp}
use Rattle.std.specs.List.Sorted.{IsSearchInRange, IsBinarySearchResult}
use Rattle.std.proofs.lemmas.Cmp.{ranked}
use Rattle.std.proofs.lemmas.Bool.{lt-ltb, le-ltb}
use Rattle.std.proofs.lemmas.Bool.Decides.{nat_tests}
use Rattle.std.proofs.lemmas.List.{map-append, take-map, drop-map, get_or_default}
use Rattle.user_memory.specs.declared.page.Page.{Page}
use Rattle.user_memory.specs.Pages.{PageState, page_at, is_page, insert_page, AllAbove, IsAscending}
use Rattle.user_memory.specs.Places.{IsPlaceOf, IsGapFor, IsPlaceFrom}
use Rattle.user_memory.specs.Rights.{has_rights}
use Rattle.user_memory.specs.declared.rights.Rights.{Rights}
use Rattle.user_memory.specs.declared.rights.Rights.TheVariants.{Read, ReadWrite}
use Rattle.user_memory.specs.States.{state_of, states_of}
use Rattle.user_memory.proofs.NextChange.{page_here, page_elsewhere, page_nowhere}

-- a page has a greater number than those before it
pub above_at : (pages : List Page) (n i : ℕ) (d : Page) → AllAbove n (states_of pages) → i < length pages → n < (get_or pages i d).number
unfolding AllAbove
above_at [] n i d h inside = absurd (omega arith)
above_at (p ∷ ps) n zero d h inside = h.0
above_at (p ∷ ps) n (suc i) d h inside = above_at ps n i d h.1 (omega arith)

numbers_rise : (pages : List Page) (i j : ℕ) (d : Page) → IsAscending (states_of pages) → i ≤ j → j < length pages → (get_or pages i d).number ≤ (get_or pages j d).number
unfolding IsAscending
numbers_rise [] i j d h le inside = absurd (omega arith)
numbers_rise (p ∷ ps) zero zero d h le inside = omega arith
numbers_rise (p ∷ ps) zero (suc j) d h le inside =
    let above = above_at ps p.number j d h.3 (omega arith) in
    omega arith
numbers_rise (p ∷ ps) (suc i) zero d h le inside = absurd (omega arith)
numbers_rise (p ∷ ps) (suc i) (suc j) d h le inside = numbers_rise ps i j d h.4 (omega arith) (omega arith)

-- the page is found at its place
pub page_at_place : (pages : List Page) (n i : ℕ) (d : Page) → IsAscending (states_of pages) → i < length pages → (get_or pages i d).number ≡ n → page_at (states_of pages) n ≡ Some (state_of (get_or pages i d))
unfolding IsAscending
page_at_place [] n i d h inside e = absurd (omega arith)
page_at_place (p ∷ ps) n zero d h inside e = page_here (state_of p) (states_of ps) n e
page_at_place (p ∷ ps) n (suc i) d h inside e =
    let above = above_at ps p.number i d h.3 (omega arith) in
    page_elsewhere (state_of p) (states_of ps) n (λ same. omega arith) ∙ page_at_place ps n i d h.4 (omega arith) e

no_page : (pages : List Page) (n : ℕ) → ((k : ℕ) (d : Page) → k < length pages → (get_or pages k d).number ≡ n → ⊥) → page_at (states_of pages) n ≡ None
no_page [] n other = page_nowhere n
no_page (p ∷ ps) n other = page_elsewhere (state_of p) (states_of ps) n (other 0 p (omega arith)) ∙ no_page ps n (λ k d inside. other (suc k) d (omega arith))

-- no page is found where there is a gap
pub page_at_gap : (pages : List Page) (n i : ℕ) → IsGapFor pages n i → page_at (states_of pages) n ≡ None
page_at_gap pages n i gap =
    no_page pages n (λ k d inside same. grind (arith, gap.below k d, gap.above k d))

some_page : (pages : List Page) (n i : ℕ) → IsAscending (states_of pages) → i < length pages → ((d : Page) → (get_or pages i d).number ≡ n) → true ≡ is_page (page_at (states_of pages) n)
some_page [] n i h inside here = absurd (omega arith)
some_page (p ∷ ps) n i h inside here = rw (page_at_place (p ∷ ps) n i p h inside (here p)) refl

-- a binary search by number ends at the page, or at the gap for it
pub searched : (pages : List Page) (n : ℕ) (r : Result ℕ ℕ) → IsAscending (states_of pages) → IsSearchInRange r (length pages) → IsBinarySearchResult (λ p. nat_cmp p.number n) pages r
    → record { found : IfOk r (IsPlaceOf pages n); absent : IfErr r (IsGapFor pages n); mapped : is_ok r ≡ is_page (page_at (states_of pages) n) }
searched pages n (Ok i) ascending inside equal =
    let here : (d : Page) → (get_or pages i d).number ≡ n = λ d. ranked _ n _ (sym (equal d)) in
    record { found = record { inside = inside; here = here }; absent = tt; mapped = some_page pages n i ascending inside here }
searched pages n (Err i) ascending inside parted =
    let split = parted (λ j k d le in_range. let rise = numbers_rise pages j k d ascending le in_range in grind (arith, nat_tests)) in
    let gap : IsGapFor pages n i = record {
      inside = inside;
      below = λ k d lt. ranked _ n _ (sym (split.0 k d (omega arith) lt));
      above = λ k d le lt. ranked _ n _ (sym (split.1 k d le lt));
    } in
    record { found = tt; absent = gap; mapped = rw (page_at_gap pages n i gap) refl }

-- a page put into its gap
insert_at_gap : (new : PageState) (pages : List Page) (i : ℕ) → IsGapFor pages new.number i → insert_page new (states_of pages) ≡ take i (states_of pages) ++ new ∷ drop i (states_of pages)
unfolding insert_page
insert_at_gap new [] zero gap = refl
insert_at_gap new [] (suc i) gap = refl
insert_at_gap new (p ∷ ps) zero gap = rw (lt-ltb new.number p.number (gap.above 0 p (omega arith) (omega arith))) refl
insert_at_gap new (p ∷ ps) (suc i) gap =
    let below = gap.below 0 p (omega arith) in
    let rest = insert_at_gap new ps i (record { inside = omega (arith, gap.inside); below = λ k d lt. gap.below (suc k) d (omega arith); above = λ k d le lt. gap.above (suc k) d (omega arith) (omega arith) }) in
    rw (le-ltb new.number p.number (omega arith)) (ap (λ (qs : List PageState). state_of p ∷ qs) rest)

pub states-insert : (pages : List Page) (i : ℕ) (p : Page) (new : PageState) → state_of p ≡ new → IsGapFor pages new.number i → states_of (insert pages i p) ≡ insert_page new (states_of pages)
states-insert pages i p new e gap =
    map-append state_of (take i pages) (p ∷ drop i pages) ∙ rw (e, ← take-map state_of i pages, ← drop-map state_of i pages) (sym (insert_at_gap new pages i gap))

-- each page is whole
pub size_at : (pages : List Page) (i : ℕ) (d : Page) → IsAscending (states_of pages) → i < length pages → (length (get_or pages i d).bytes.items ≡ 4096) × (length (get_or pages i d).before.items ≡ 4096)
unfolding IsAscending
size_at [] i d h inside = absurd (omega arith)
size_at (p ∷ ps) zero d h inside = (h.1, h.2)
size_at (p ∷ ps) (suc i) d h inside = size_at ps i d h.4 (omega arith)

-- the same of a page that was read at an index
pub page_read : (pages : List Page) (n i : ℕ) (p : Page) → IsAscending (states_of pages) → IsPlaceOf pages n i → p ≡ get_or pages i p → (page_at (states_of pages) n ≡ Some (state_of p)) × (length p.bytes.items ≡ 4096)
page_read pages n i p h at is =
    let P : Page → Type 0 = λ q. (page_at (states_of pages) n ≡ Some (state_of q)) × (length q.bytes.items ≡ 4096) in
    subst P (sym is) (page_at_place pages n i p h at.inside (at.here p), (size_at pages i p h at.inside).0)

numbers_above : (pages : List Page) (i j : ℕ) (d : Page) → IsAscending (states_of pages) → i < j → j < length pages → (get_or pages i d).number < (get_or pages j d).number
unfolding IsAscending
numbers_above [] i j d h lt inside = absurd (omega arith)
numbers_above (p ∷ ps) i zero d h lt inside = absurd (omega arith)
numbers_above (p ∷ ps) zero (suc j) d h lt inside = above_at ps p.number j d h.3 (omega arith)
numbers_above (p ∷ ps) (suc i) (suc j) d h lt inside = numbers_above ps i j d h.4 (omega arith) (omega arith)

-- where a search ends, pages in front have smaller numbers and those from there on have not
pub from_place : (pages : List Page) (n i : ℕ) → IsAscending (states_of pages) → IsPlaceOf pages n i → IsPlaceFrom pages n i
from_place pages n i h at = record {
  inside = omega (arith, at.inside);
  below = λ k d lt. omega (arith, numbers_above pages k i d h lt at.inside, at.here d);
  above = λ k d le lt. omega (arith, numbers_rise pages i k d h le lt, at.here d);
}

pub from_gap : (pages : List Page) (n i : ℕ) → IsGapFor pages n i → IsPlaceFrom pages n i
from_gap pages n i gap = record { inside = gap.inside; below = gap.below; above = λ k d le lt. omega (arith, gap.above k d le lt) }

-- the next number's page can stand in the next place alone
pub next_place : (pages : List Page) (n i : ℕ) → IsAscending (states_of pages) → IsPlaceOf pages n i → IsPlaceFrom pages (n + 1) (i + 1)
next_place pages n i h at = record {
  inside = omega (arith, at.inside);
  below = λ k d lt. omega (arith, numbers_rise pages k i d h (omega arith) at.inside, at.here d);
  above = λ k d le lt. omega (arith, numbers_above pages i k d h (omega arith) lt, at.here d);
}

-- where no page with a number from this one on stands, or another one, there is a gap
pub gap_at_end : (pages : List Page) (n i : ℕ) → IsPlaceFrom pages n i → length pages ≤ i → IsGapFor pages n i
gap_at_end pages n i h end = record { inside = h.inside; below = h.below; above = λ k d le lt. absurd (omega arith) }

pub gap_at_other : (pages : List Page) (n i : ℕ) (p : Page) → IsAscending (states_of pages) → IsPlaceFrom pages n i → i < length pages → p ≡ get_or pages i p → (p.number ≡ n → ⊥) → IsGapFor pages n i
gap_at_other pages n i p asc h inside is other =
    let number : p.number ≡ (get_or pages i p).number = ap (λ (q : Page). q.number) is in
    let above : n < (get_or pages i p).number = omega (arith, h.above i p (omega arith) inside, other) in
    record {
      inside = h.inside;
      below = h.below;
      above = λ k d le lt.
          let same : (get_or pages k p) ≡ get_or pages k d = get_or_default pages k _ _ lt in
          omega (arith, numbers_rise pages i k p asc le lt, ap (λ (q : Page). q.number) same);
    }

pub place_read : (pages : List Page) (n i : ℕ) (p : Page) → i < length pages → p ≡ get_or pages i p → p.number ≡ n → IsPlaceOf pages n i
place_read pages n i p inside is same = record {
  inside = inside;
  here = λ d. ap (λ (q : Page). q.number) (get_or_default pages i _ _ inside ∙ sym is) ∙ same;
}

-- rights go by page
pub no_rights : (r : Rights) (ps : List PageState) (a : ℕ) → page_at ps (a / 4096) ≡ None → false ≡ has_rights r ps a
no_rights Read ps a none = rw none refl
no_rights ReadWrite ps a none = rw none refl

pub same_rights : (r : Rights) (ps : List PageState) (a b : ℕ) → a / 4096 ≡ b / 4096 → has_rights r ps a ≡ has_rights r ps b
same_rights Read ps a b same = rw same refl
same_rights ReadWrite ps a b same = rw same refl
