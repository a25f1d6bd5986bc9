-- The numbers of the pages of memory, as the reader keeps them.
use Rattle.std.proofs.Common.{◌≡◌, ◌∙◌, ℕ, suc, ◌==◌, ◌||◌, ◌<◌, ◌+◌, ◌/◌, ◌%◌, nat_lt, Bool, true, false, List, [], ◌∷◌, length, cond, Some, refl, ap, sym, arith}
use Rattle.std.specs.BTreeMap.{is_at}
use Rattle.std.specs.BTreeSet.{insert_key}
use Rattle.std.specs.List.{list_any}
use Rattle.std.specs.Prelude.{slice_set}
use Rattle.std.proofs.lemmas.Bool.{eq-eqb, ne_eqb, lt-ltb, le-ltb}
use Rattle.std.specs.Cmp.{ranks}
use Rattle.std.specs.Ordering.{MatchOrdering, is_eq, match_ordering, nat_cmp}
use Rattle.std.specs.declared.cmp.Ordering.{Ordering}
use Rattle.std.specs.declared.cmp.Ordering.TheVariants.{Less, Equal, Greater}
use Rattle.user_memory.specs.Memory.{with_bytes}
use Rattle.user_memory.specs.Pages.{PageState, insert_page, is_page, page_at, put_byte, put_in}

-- the numbers of pages, in order
abbrev pub numbers_of : List PageState → List ℕ
numbers_of [] = []
numbers_of (page ∷ pages) = page.number ∷ numbers_of pages

pub as_many : (pages : List PageState) → length (numbers_of pages) ≡ length pages
as_many [] = refl
as_many (p ∷ ps) = ap suc (as_many ps)

-- a stored byte leaves the numbers
stored_in : (pages : List PageState) (number i byte : ℕ) → numbers_of (put_in pages number i byte) ≡ numbers_of pages
unfolding put_in
stored_in [] number i byte = refl
stored_in (p ∷ ps) number i byte = by (p.number == number) (stored_in ps number i byte)
  where
    by : (b : Bool) → numbers_of (put_in ps number i byte) ≡ numbers_of ps → numbers_of (cond b (record p { bytes = slice_set p.bytes i byte } ∷ ps) (p ∷ put_in ps number i byte)) ≡ p.number ∷ numbers_of ps
    by true rec = refl
    by false rec = ap (λ ns. p.number ∷ ns) rec

pub stored : (pages : List PageState) (a : ℕ) (bytes : List ℕ) → numbers_of (with_bytes pages a bytes) ≡ numbers_of pages
unfolding with_bytes
stored pages a [] = refl
stored pages a (b ∷ bs) = stored (put_byte pages a b) (a + 1) bs ∙ stored_in pages (a / 4096) (a % 4096) b

-- a page has a number, or none has it
abbrev has_number : List PageState → ℕ → Bool
has_number pages number = list_any (is_at (nat_cmp number)) (numbers_of pages)

-- how two numbers compare, as the tests say it
same_number : (p n : ℕ) → is_at (nat_cmp n) p ≡ (p == n)
same_number p n = by (nat_cmp n p) (ranks n p)
  where
    by : (r : Ordering) → MatchOrdering r (n < p) (n ≡ p) (p < n) → is_eq r ≡ (p == n)
    by Less h = sym (ne_eqb p n (λ e. omega arith))
    by Equal h = sym (eq-eqb p n (sym h))
    by Greater h = sym (ne_eqb p n (λ e. omega arith))

-- pages are those whose numbers are kept
pub mapped : (pages : List PageState) (number : ℕ) → is_page (page_at pages number) ≡ has_number pages number
unfolding page_at
mapped [] number = refl
mapped (p ∷ ps) number = by (p.number == number) refl (mapped ps number)
  where
    by : (b : Bool) → (p.number == number) ≡ b → is_page (page_at ps number) ≡ has_number ps number → is_page (cond b (Some p) (page_at ps number)) ≡ (is_at (nat_cmp number) p.number || has_number ps number)
    by true h rec = rw (same_number p.number number ∙ h) refl
    by false h rec = rw (same_number p.number number ∙ h) rec

-- a page that is new stands where its number does
inserted_by : (new p : PageState) (ps : List PageState) (r : Ordering) → nat_cmp new.number p.number ≡ r → MatchOrdering r (new.number < p.number) (new.number ≡ p.number) (p.number < new.number)
    → has_number (p ∷ ps) new.number ≡ false
    → (has_number ps new.number ≡ false → numbers_of (insert_page new ps) ≡ insert_key nat_cmp (numbers_of ps) new.number)
    → numbers_of (cond (nat_lt new.number p.number) (new ∷ (p ∷ ps)) (p ∷ insert_page new ps)) ≡ match_ordering r (new.number ∷ (p.number ∷ numbers_of ps)) (p.number ∷ numbers_of ps) (p.number ∷ insert_key nat_cmp (numbers_of ps) new.number)
inserted_by new p ps Less e h absent rec = rw (lt-ltb new.number p.number h) refl
inserted_by new p ps Equal e same absent rec = let here : is_at (nat_cmp new.number) p.number ≡ true = rw e refl in let gone : (is_at (nat_cmp new.number) p.number || has_number ps new.number) ≡ false = absent in cc
inserted_by new p ps Greater e h absent rec =
    let other : is_at (nat_cmp new.number) p.number ≡ false = rw e refl in
    rw (le-ltb new.number p.number (omega (arith, h))) (ap (λ ns. p.number ∷ ns) (rec (rw other at absent)))

pub inserted : (new : PageState) (pages : List PageState) → has_number pages new.number ≡ false → numbers_of (insert_page new pages) ≡ insert_key nat_cmp (numbers_of pages) new.number
unfolding insert_page
inserted new [] h = refl
inserted new (p ∷ ps) h = inserted_by new p ps (nat_cmp new.number p.number) refl (ranks new.number p.number) h (inserted new ps)
