-- The next change in the first page, or in the pages behind it.
use Rattle.std.proofs.Common.{◌≡◌, ◌≢◌, ℕ, ◌+◌, ◌-◌, ◌*◌, ◌/◌, ◌%◌, ◌^◌, ◌<◌, ◌≤◌, true, false, List, [], ◌∷◌, length, get_or, drop, refl, sym, ap, subst, ◌∙◌, inl, inr, arith}
use Rattle.std.specs.Prelude.{Option, Some, None}
use Rattle.std.proofs.lemmas.Bool.{eq-eqb, ne_eqb, cases_eq, cases_lt, true≢false}
use Rattle.user_memory.specs.declared.change.Change.{Change}
use Rattle.std.proofs.lemmas.List.{drop_more, drop_all}
use Rattle.user_memory.specs.declared.page.Page.{Page}
use Rattle.user_memory.specs.States.{state_of, states_of}
use Rattle.user_memory.specs.Pages.{PageState, page_at, differs, differs_in, AllAbove, IsAscending}
use Rattle.user_memory.specs.Changes.{IsChangeAt, IsNext, AreSame, Differ}

-- a page with another number isn't found in front
pub page_here : (p : PageState) (ps : List PageState) (n : ℕ) → p.number ≡ n → page_at (p ∷ ps) n ≡ Some p
unfolding page_at
page_here p ps n e = rw (eq-eqb p.number n e) refl

pub page_elsewhere : (p : PageState) (ps : List PageState) (n : ℕ) → (p.number ≡ n → ⊥) → page_at (p ∷ ps) n ≡ page_at ps n
unfolding page_at
page_elsewhere p ps n e = rw (ne_eqb p.number n e) refl

pub page_nowhere : (n : ℕ) → page_at [] n ≡ None
unfolding page_at
page_nowhere n = refl

none_below : (ps : List PageState) (n m : ℕ) → AllAbove n ps → m ≤ n → page_at ps m ≡ None
unfolding AllAbove
none_below [] n m above le = page_nowhere m
none_below (p ∷ ps) n m above le = page_elsewhere p ps m (λ e. omega (arith, above.0)) ∙ none_below ps n m above.1 le

pub same_below : (ps : List PageState) (n a : ℕ) → AllAbove n ps → a / 4096 ≤ n → differs ps a ≡ false
same_below ps n a above le = ap (λ (o : Option PageState). differs_in o (a % 4096)) (none_below ps n (a / 4096) above le)

pub here : (p : PageState) (ps qs : List PageState) (a : ℕ) → p.number ≡ a / 4096 → differs (p ∷ ps) a ≡ differs (p ∷ qs) a
here p ps qs a e = ap (λ (o : Option PageState). differs_in o (a % 4096)) (page_here p ps (a / 4096) e ∙ sym (page_here p qs (a / 4096) e))

pub elsewhere : (p : PageState) (ps : List PageState) (a : ℕ) → (p.number ≡ a / 4096 → ⊥) → differs (p ∷ ps) a ≡ differs ps a
elsewhere p ps a e = ap (λ (o : Option PageState). differs_in o (a % 4096)) (page_elsewhere p ps (a / 4096) e)

pub none_here : (a : ℕ) → differs [] a ≡ false
none_here a = ap (λ (o : Option PageState). differs_in o (a % 4096)) (page_nowhere (a / 4096))

alone : (p : PageState) (a : ℕ) → differs (p ∷ []) a ≡ true → p.number ≡ a / 4096
alone p a h =
    elim (cases_eq p.number (a / 4096)) [
      | inl e ↦ e
      | inr e ↦ absurd (true≢false (sym h ∙ (elsewhere p [] a e ∙ ap (λ (o : Option PageState). differs_in o (a % 4096)) (page_nowhere (a / 4096)))))
    ]

above_where_changed : (ps : List PageState) (n a : ℕ) → AllAbove n ps → differs ps a ≡ true → n < a / 4096
above_where_changed ps n a above h =
    elim (cases_lt n (a / 4096)) [
      | inl lt ↦ lt
      | inr le ↦ absurd (true≢false (sym h ∙ same_below ps n a above le))
    ]

above : (p : PageState) (ps : List PageState) → IsAscending (p ∷ ps) → AllAbove p.number ps
unfolding IsAscending
above p ps h = h.3

pub ascending_rest : (p : PageState) (ps : List PageState) → IsAscending (p ∷ ps) → IsAscending ps
unfolding IsAscending
ascending_rest p ps h = h.4

pub ascending_first : (p : PageState) (ps : List PageState) → IsAscending (p ∷ ps) → IsAscending (p ∷ [])
unfolding IsAscending AllAbove
ascending_first p ps h = (h.0, h.1, h.2, tt, tt)

-- what is first in the first page is first in all
pub found : (p : PageState) (ps : List PageState) (from : ℕ) (c : Change) → IsAscending (p ∷ ps) → IsChangeAt (p ∷ []) from c → IsChangeAt (p ∷ ps) from c
found p ps from c ascending h =
    let home : p.number ≡ c.at / 4096 = alone p c.at (h.changed c.at (omega arith) (omega (arith, h.some))) in
    record {
      later = h.later;
      some = h.some;
      within = h.within;
      clear = λ a from_a below.
          elim (cases_eq p.number (a / 4096)) [
            | inl e ↦ here p ps [] a e ∙ h.clear a from_a below
            | inr e ↦ elsewhere p ps a e ∙ same_below ps p.number a (above p ps ascending) (omega arith)
          ];
      changed = λ a at_a below. here p ps [] a (alone p a (h.changed a at_a below)) ∙ h.changed a at_a below;
      one_page = h.one_page;
      ends = λ inside. here p ps [] (c.at + c.length) (omega (arith, h.one_page, h.some)) ∙ h.ends inside;
    }

-- where the first page has no change, what is first in the rest is first in all
pub passed : (p : PageState) (ps : List PageState) (from : ℕ) (r : Option Change) → IsAscending (p ∷ ps) → IsNext (p ∷ []) from None → IsNext ps from r → IsNext (p ∷ ps) from r
passed p ps from None ascending none h = λ a from_a small.
    elim (cases_eq p.number (a / 4096)) [
      | inl e ↦ here p ps [] a e ∙ none a from_a small
      | inr e ↦ elsewhere p ps a e ∙ h a from_a small
    ]
passed p ps from (Some c) ascending none h =
    let first : p.number < c.at / 4096 = above_where_changed ps p.number c.at (above p ps ascending) (h.changed c.at (omega arith) (omega (arith, h.some))) in
    record {
      later = h.later;
      some = h.some;
      within = h.within;
      clear = λ a from_a below.
          elim (cases_eq p.number (a / 4096)) [
            | inl e ↦ here p ps [] a e ∙ none a from_a (omega (arith, h.within))
            | inr e ↦ elsewhere p ps a e ∙ h.clear a from_a below
          ];
      changed = λ a at_a below.
          let other : p.number < a / 4096 = omega arith in
          elsewhere p ps a (λ e. omega arith) ∙ h.changed a at_a below;
      one_page = h.one_page;
      ends = λ inside.
          let other : p.number < (c.at + c.length) / 4096 = omega arith in
          elsewhere p ps (c.at + c.length) (λ e. omega arith) ∙ h.ends inside;
    }

-- one page, by its offsets
pub in_page : (p : PageState) (a : ℕ) → p.number ≡ a / 4096 → differs (p ∷ []) a ≡ differs_in (Some p) (a % 4096)
in_page p a e = ap (λ (o : Option PageState). differs_in o (a % 4096)) (page_here p [] (a / 4096) e)

pub is_same : (p : PageState) (k : ℕ) → get_or p.bytes k 0 ≡ get_or p.before k 0 → differs_in (Some p) k ≡ false
is_same p k e = rw (eq-eqb (get_or p.bytes k 0) (get_or p.before k 0) e) refl

is_changed : (p : PageState) (k : ℕ) → get_or p.bytes k 0 ≢ get_or p.before k 0 → differs_in (Some p) k ≡ true
is_changed p k e = rw (ne_eqb (get_or p.bytes k 0) (get_or p.before k 0) e) refl

outside : (p : PageState) (a : ℕ) → (p.number ≡ a / 4096 → ⊥) → differs (p ∷ []) a ≡ false
outside p a e = elsewhere p [] a e ∙ ap (λ (o : Option PageState). differs_in o (a % 4096)) (page_nowhere (a / 4096))

none_in : (p : PageState) (from start : ℕ) → IsAscending (p ∷ []) → start ≡ from - p.number * 4096 → AreSame p.bytes p.before start (length p.bytes) → IsNext (p ∷ []) from None
unfolding IsAscending
none_in p from start ascending e same a from_a small =
    elim (cases_eq p.number (a / 4096)) [
      | inl home ↦ in_page p a home ∙ is_same p (a % 4096) (same (a % 4096) (omega arith) (omega (arith, ascending.1)))
      | inr other ↦ outside p a other
    ]

pub page_none : (p : PageState) (bytes old : List ℕ) (from start : ℕ) → IsAscending (p ∷ []) → bytes ≡ p.bytes → old ≡ p.before → start ≡ from - p.number * 4096 → AreSame bytes old start (length bytes) → IsNext (p ∷ []) from None
page_none p bytes old from start ascending b o e same =
    none_in p from start ascending e (subst (λ (x : List ℕ). AreSame x p.before start (length x)) b (subst (λ (y : List ℕ). AreSame bytes y start (length bytes)) o same))

some_in : (p : PageState) (from start i n : ℕ) (c : Change) → IsAscending (p ∷ []) → start ≡ from - p.number * 4096 → start ≤ i → 0 < n → i + n ≤ length p.bytes
    → AreSame p.bytes p.before start i → Differ p.bytes p.before i (i + n) → (i + n < length p.bytes → get_or p.bytes (i + n) 0 ≡ get_or p.before (i + n) 0)
    → c.at ≡ p.number * 4096 + i → c.length ≡ n → IsChangeAt (p ∷ []) from c
unfolding IsAscending
some_in p from start i n c ascending e later some fits same differ ends at-is length-is =
    let size : length p.bytes ≡ 4096 = ascending.1 in
    let low : p.number < 2 ^ 20 = ascending.0 in
    record {
      later = omega arith;
      some = omega arith;
      within = omega arith;
      clear = λ a from_a below.
          elim (cases_eq p.number (a / 4096)) [
            | inl home ↦ in_page p a home ∙ is_same p (a % 4096) (same (a % 4096) (omega arith) (omega arith))
            | inr other ↦ outside p a other
          ];
      changed = λ a at_a below.
          let home : p.number ≡ a / 4096 = omega arith in
          in_page p a home ∙ is_changed p (a % 4096) (differ (a % 4096) (omega arith) (omega arith));
      one_page = omega arith;
      ends = λ inside.
          let home : p.number ≡ (c.at + c.length) / 4096 = omega arith in
          let offset : (c.at + c.length) % 4096 ≡ i + n = omega arith in
          in_page p (c.at + c.length) home ∙ is_same p ((c.at + c.length) % 4096) (rw offset (ends (omega arith)));
    }

-- what is known of a page in its place
pub record IsWhole (p : PageState) : Type 0 where
  pub low : p.number < 2 ^ 20
  pub bytes : length p.bytes ≡ 4096
  pub before : length p.before ≡ 4096

pub whole : (p : PageState) (ps : List PageState) → IsAscending (p ∷ ps) → IsWhole p
unfolding IsAscending
whole p ps h = record { low = h.0; bytes = h.1; before = h.2 }

pub page_some : (p : PageState) (bytes old : List ℕ) (from start i n : ℕ) (c : Change) → IsAscending (p ∷ []) → bytes ≡ p.bytes → old ≡ p.before → start ≡ from - p.number * 4096 → start ≤ i → 0 < n → i + n ≤ length bytes
    → AreSame bytes old start i → Differ bytes old i (i + n) → (i + n < length bytes → get_or bytes (i + n) 0 ≡ get_or old (i + n) 0)
    → c.at ≡ p.number * 4096 + i → c.length ≡ n → IsChangeAt (p ∷ []) from c
page_some p bytes old from start i n c ascending b o e later some fits same differ ends at-is length-is =
    some_in p from start i n c ascending e later some (subst (λ (x : List ℕ). i + n ≤ length x) b fits)
    (subst (λ (x : List ℕ). AreSame x p.before start i) b (subst (λ (y : List ℕ). AreSame bytes y start i) o same))
    (subst (λ (x : List ℕ). Differ x p.before i (i + n)) b (subst (λ (y : List ℕ). Differ bytes y i (i + n)) o differ))
    (subst (λ (x : List ℕ). i + n < length x → get_or x (i + n) 0 ≡ get_or p.before (i + n) 0) b (subst (λ (y : List ℕ). i + n < length bytes → get_or bytes (i + n) 0 ≡ get_or y (i + n) 0) o ends))
    at-is length-is

-- what a turn of the search goes on from
pub ascending_at : (pages : List Page) (i : ℕ) (p : Page) → i < length pages → p ≡ get_or pages i p → IsAscending (states_of (drop i pages)) → IsAscending (state_of p ∷ states_of (drop (i + 1) pages))
ascending_at pages i p h is asc =
    subst (λ (q : Page). IsAscending (state_of q ∷ states_of (drop (i + 1) pages))) (sym is) (subst (λ (ps : List Page). IsAscending (states_of ps)) (drop_more pages i p h) asc)

pub next_at : (pages : List Page) (i from : ℕ) (p : Page) (r : Option Change) → i < length pages → p ≡ get_or pages i p → IsNext (state_of p ∷ states_of (drop (i + 1) pages)) from r → IsNext (states_of (drop i pages)) from r
next_at pages i from p r h is next =
    subst (λ (ps : List Page). IsNext (states_of ps) from r) (sym (drop_more pages i p h)) (subst (λ (q : Page). IsNext (state_of q ∷ states_of (drop (i + 1) pages)) from r) is next)

pub next_end : (pages : List Page) (i from : ℕ) → length pages ≤ i → IsNext (states_of (drop i pages)) from None
next_end pages i from h = subst (λ (ps : List Page). IsNext (states_of ps) from None) (sym (drop_all i pages h)) (λ a from_a small. ap (λ (o : Option PageState). differs_in o (a % 4096)) (page_nowhere (a / 4096)))
