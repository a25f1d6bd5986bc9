-- The places of the pages that were stored to, after a store, a clear and an insertion, and what follows for a search.
use Rattle.std.proofs.Common.{◌≡◌, ℕ, zero, suc, ◌+◌, ◌-◌, ◌/◌, ◌%◌, ◌<◌, ◌≤◌, List, [], ◌∷◌, ◌++◌, length, get_or, take, drop, refl, sym, ap, subst, ◌∙◌, inl, inr, arith}
use borrow.Rule.Slice.PartMut.{put_mid}
use Rattle.std.specs.Prelude.{Option, Some, None, All, min, max, insert}
use Rattle.std.proofs.lemmas.Bool.{cases_eq, cases_lt}
use Rattle.std.proofs.lemmas.List.{get_or-drop, get_or-map, get_or-take, length-drop, length-map, length-take, map-append, take-append-drop}
use Rattle.std.proofs.lemmas.List.Edits.{get_or-insert_at, get_or-insert_below, get_or-insert_above, length-insert}
use Rattle.std.proofs.lemmas.List.Elements.{All-append, All-take, All-drop}
use Rattle.user_memory.specs.declared.page.Page.{Page}
use Rattle.user_memory.specs.declared.change.Change.{Change}
use Rattle.user_memory.specs.Pages.{PageState, differs, AllAbove, IsAscending, mark_of, marked}
use Rattle.user_memory.specs.Changes.{IsNext}
use Rattle.user_memory.specs.Places.{IsPlaceFrom}
use Rattle.user_memory.specs.States.{state_of, states_of, TellsStores, IsUnchanged, AreStoredWithin}
use Rattle.user_memory.proofs.NextChange.{here, elsewhere, in_page, is_same, same_below, none_here}

-- a part of pages in order is in order
above_take : (ps : List Page) (n k : ℕ) → AllAbove n (states_of ps) → AllAbove n (states_of (take k ps))
unfolding AllAbove
above_take ps n zero h = tt
above_take [] n (suc k) h = tt
above_take (p ∷ ps) n (suc k) h = (h.0, above_take ps n k h.1)

ascending_take : (ps : List Page) (k : ℕ) → IsAscending (states_of ps) → IsAscending (states_of (take k ps))
unfolding IsAscending
ascending_take ps zero h = tt
ascending_take [] (suc k) h = tt
ascending_take (p ∷ ps) (suc k) h = (h.0, h.1, h.2, above_take ps p.number k h.3, ascending_take ps k h.4)

ascending_drop : (ps : List Page) (k : ℕ) → IsAscending (states_of ps) → IsAscending (states_of (drop k ps))
unfolding IsAscending
ascending_drop ps zero h = h
ascending_drop [] (suc k) h = tt
ascending_drop (p ∷ ps) (suc k) h = ascending_drop ps k h.4

pub ascending_part : (ps : List Page) (i k : ℕ) → IsAscending (states_of ps) → IsAscending (states_of (take k (drop i ps)))
ascending_part ps i k h = ascending_take (drop i ps) k (ascending_drop ps i h)

pub stores_part : (ps : List Page) (i k : ℕ) → All TellsStores ps → All TellsStores (take k (drop i ps))
stores_part ps i k h = All-take TellsStores k (drop i ps) (All-drop TellsStores i ps h)

pub stores_put : (ps part : List Page) (i k : ℕ) → All TellsStores ps → All TellsStores part → All TellsStores (put_mid i k ps part)
stores_put ps part i k h new =
    All-append TellsStores (take i ps) (part ++ drop k (drop i ps)) (All-take TellsStores i ps h)
    (All-append TellsStores part (drop k (drop i ps)) new (All-drop TellsStores k (drop i ps) (All-drop TellsStores i ps h)))

-- the pages in front of the places and behind them are unchanged
unchanged_front : (ps : List Page) (first past : ℕ) → AreStoredWithin ps first past → All IsUnchanged (take first ps)
unchanged_front ps first past h k d inside =
    let below : k < first = omega (arith, length-take first ps) in
    subst IsUnchanged (sym (get_or-take first ps k d below)) (h.front k d below (omega (arith, length-take first ps)))

unchanged_back : (ps : List Page) (first past i n : ℕ) → past ≤ i + n → AreStoredWithin ps first past → All IsUnchanged (drop n (drop i ps))
unchanged_back ps first past i n le h k d inside =
    let at : get_or (drop n (drop i ps)) k d ≡ get_or ps (i + (n + k)) d = get_or-drop n (drop i ps) k d ∙ get_or-drop i ps (n + k) d in
    subst IsUnchanged (sym at) (h.back (i + (n + k)) d (omega arith) (omega (arith, length-drop n (drop i ps), length-drop i ps)))

-- clearing unchanged pages changes nothing
marked_unchanged : (ps : List Page) → All IsUnchanged ps → marked (states_of ps) ≡ states_of ps
unfolding marked
marked_unchanged [] h = refl
marked_unchanged (p ∷ ps) h =
    let first : mark_of (state_of p) ≡ state_of p = ap (λ (bs : List ℕ). record { number = p.number; writable = p.writable; bytes = p.bytes.items; before = bs }) (h 0 p (omega arith)) in
    ap (λ (x : PageState). x ∷ marked (states_of ps)) first ∙ ap (λ (xs : List PageState). state_of p ∷ xs) (marked_unchanged ps (λ k d inside. h (suc k) d (omega arith)))

marked-append : (xs ys : List PageState) → marked (xs ++ ys) ≡ marked xs ++ marked ys
unfolding marked
marked-append [] ys = refl
marked-append (x ∷ xs) ys = ap (λ (zs : List PageState). mark_of x ∷ zs) (marked-append xs ys)

pub cleared_nowhere : (ps : List Page) (first past : ℕ) → past ≤ first → AreStoredWithin ps first past → states_of ps ≡ marked (states_of ps)
cleared_nowhere ps first past none h =
    sym (marked_unchanged ps (λ k d inside. elim (cases_lt k first) [ inl early ↦ h.front k d early inside | inr later ↦ h.back k d (omega arith) inside ]))

pub cleared_part : (ps part : List Page) (first past : ℕ) → first < past → AreStoredWithin ps first past → states_of part ≡ marked (states_of (take (past - first) (drop first ps)))
    → states_of (put_mid first (past - first) ps part) ≡ marked (states_of ps)
cleared_part ps part first past some h new =
    let n : ℕ = past - first in
    let front : List Page = take first ps in
    let mid : List Page = take n (drop first ps) in
    let back : List Page = drop n (drop first ps) in
    let whole : states_of ps ≡ states_of front ++ (states_of mid ++ states_of back) =
    ap states_of (sym (take-append-drop first ps)) ∙ map-append state_of front (drop first ps)
    ∙ ap (λ (xs : List PageState). states_of front ++ xs) (ap states_of (sym (take-append-drop n (drop first ps))) ∙ map-append state_of mid back) in
    let both : marked (states_of front ++ (states_of mid ++ states_of back)) ≡ states_of front ++ (states_of part ++ states_of back) =
    marked-append (states_of front) (states_of mid ++ states_of back)
    ∙ ap (λ (xs : List PageState). xs ++ marked (states_of mid ++ states_of back)) (marked_unchanged front (unchanged_front ps first past h))
    ∙ ap (λ (xs : List PageState). states_of front ++ xs) (marked-append (states_of mid) (states_of back)
    ∙ ap (λ (xs : List PageState). xs ++ marked (states_of back)) (sym new)
    ∙ ap (λ (xs : List PageState). states_of part ++ xs) (marked_unchanged back (unchanged_back ps first past first n (omega arith) h))) in
    map-append state_of front (part ++ back) ∙ ap (λ (xs : List PageState). states_of front ++ xs) (map-append state_of part back) ∙ sym (ap marked whole ∙ both)

-- after a clear no page is changed
marked_at : (qs : List PageState) (k : ℕ) (e : PageState) → k < length (marked qs) → (get_or (marked qs) k e).bytes ≡ (get_or (marked qs) k e).before
unfolding marked
marked_at [] k e inside = absurd (omega arith)
marked_at (q ∷ qs) zero e inside = refl
marked_at (q ∷ qs) (suc k) e inside = marked_at qs k e (omega arith)

pub within_cleared : (ps : List Page) (qs : List PageState) (first : ℕ) → states_of ps ≡ marked qs → AreStoredWithin ps first 0
within_cleared ps qs first e =
    let same : All IsUnchanged ps = λ k d inside.
    let mapped : length (states_of ps) ≡ length ps = rw length-map refl in
    let size : length (states_of ps) ≡ length (marked qs) = ap length e in
    let at : get_or (marked qs) k (state_of d) ≡ state_of (get_or ps k d) = ap (λ (xs : List PageState). get_or xs k (state_of d)) (sym e) ∙ get_or-map state_of ps k d (state_of d) inside in
    let P : PageState → Type 0 = λ x. x.bytes ≡ x.before in
    subst P at (marked_at qs k (state_of d) (omega arith)) in
    record { within = omega arith; front = λ k d lt inside. same k d inside; back = λ k d le inside. same k d inside }

-- after a store to the pages from one place up to another
pub within_stored : (ps ws : List Page) (first past place end low high : ℕ) → length ws ≡ length ps → end ≤ length ps
    → ((k : ℕ) (d : Page) → k < place → get_or ws k d ≡ get_or ps k d) → ((k : ℕ) (d : Page) → end ≤ k → get_or ws k d ≡ get_or ps k d)
    → low ≡ min first place → high ≡ max past end → AreStoredWithin ps first past → AreStoredWithin ws low high
within_stored ps ws first past place end low high size inside front back l h old = record {
  within = omega (arith, old.within);
  front = λ k d lt below. subst IsUnchanged (sym (front k d (omega arith))) (old.front k d (omega arith) (omega arith));
  back = λ k d le below. subst IsUnchanged (sym (back k d (omega arith))) (old.back k d (omega arith) (omega arith));
}

-- after an unchanged page was put in
pub within_insert : (ps : List Page) (i : ℕ) (p : Page) (first past end : ℕ) → i ≤ length ps → IsUnchanged p → (i < past → end ≡ past + 1) → (past ≤ i → end ≡ past)
    → AreStoredWithin ps first past → AreStoredWithin (insert ps i p) first end
within_insert ps i p first past end inside new before behind old =
    let size : length (insert ps i p) ≡ length ps + 1 = length-insert ps i p inside in
    let at : (k : ℕ) (d : Page) → k < length (insert ps i p) → (k < i → IsUnchanged (get_or ps k d)) → ((j : ℕ) → k ≡ j + 1 → i ≤ j → IsUnchanged (get_or ps j d)) → IsUnchanged (get_or (insert ps i p) k d) =
    λ k d below early late. elim (cases_lt k i) [
      | inl lt ↦ subst IsUnchanged (sym (get_or-insert_below ps i p d k lt inside)) (early lt)
      | inr le ↦ elim (cases_eq k i) [
        | inl here ↦ subst IsUnchanged (sym (ap (λ (j : ℕ). get_or (insert ps i p) j d) here ∙ get_or-insert_at ps i p d inside)) new
        | inr there ↦
            let next : k ≡ (k - 1) + 1 = omega arith in
            subst IsUnchanged (sym (ap (λ (j : ℕ). get_or (insert ps i p) j d) next ∙ get_or-insert_above ps i p d (k - 1) (omega arith) inside)) (late (k - 1) next (omega arith))
      ]
    ] in
    elim (cases_lt i past) [
      | inl lt ↦
          let is : end ≡ past + 1 = before lt in
          record {
            within = omega (arith, old.within);
            front = λ k d low below. at k d below (λ early. old.front k d low (omega arith)) (λ j e le. old.front j d (omega arith) (omega arith));
            back = λ k d high below. at k d below (λ early. old.back k d (omega arith) (omega arith)) (λ j e le. old.back j d (omega arith) (omega arith));
          }
      | inr le ↦
          let is : end ≡ past = behind le in
          record {
            within = omega (arith, old.within);
            front = λ k d low below. at k d below (λ early. old.front k d low (omega arith)) (λ j e from. old.front j d (omega arith) (omega arith));
            back = λ k d high below. at k d below (λ early. old.back k d (omega arith) (omega arith)) (λ j e from. old.back j d (omega arith) (omega arith));
          }
    ]

-- pages without a change that matters, in front of others and behind them
unchanged_same : (p : Page) (k : ℕ) → IsUnchanged p → get_or p.bytes.items k 0 ≡ get_or p.before.items k 0
unchanged_same p k e = ap (λ (bs : List ℕ). get_or bs k 0) e

differs_front : (fs ps : List Page) (a : ℕ) → IsAscending (states_of (fs ++ ps)) → ((k : ℕ) (d : Page) → k < length fs → (get_or fs k d).number ≡ a / 4096 → IsUnchanged (get_or fs k d))
    → differs (states_of (fs ++ ps)) a ≡ differs (states_of ps) a
unfolding IsAscending
differs_front [] ps a h same = refl
differs_front (p ∷ fs) ps a h same =
    let rest = differs_front fs ps a h.4 (λ k d inside e. same (suc k) d (omega arith) e) in
    elim (cases_eq p.number (a / 4096)) [
      | inl e ↦ here (state_of p) (states_of (fs ++ ps)) [] a e ∙ in_page (state_of p) a e ∙ is_same (state_of p) (a % 4096) (unchanged_same p (a % 4096) (same 0 p (omega arith) e))
          ∙ sym (same_below (states_of (fs ++ ps)) p.number a h.3 (omega arith)) ∙ rest
      | inr e ↦ elsewhere (state_of p) (states_of (fs ++ ps)) a e ∙ rest
    ]

differs_none : (qs : List Page) (a : ℕ) → All IsUnchanged qs → differs (states_of qs) a ≡ differs [] a
differs_none [] a h = refl
differs_none (q ∷ qs) a h =
    elim (cases_eq q.number (a / 4096)) [
      | inl e ↦ here (state_of q) (states_of qs) [] a e ∙ in_page (state_of q) a e ∙ is_same (state_of q) (a % 4096) (unchanged_same q (a % 4096) (h 0 q (omega arith))) ∙ sym (none_here a)
      | inr e ↦ elsewhere (state_of q) (states_of qs) a e ∙ differs_none qs a (λ k d inside. h (suc k) d (omega arith))
    ]

differs_back : (ps qs : List Page) (a : ℕ) → All IsUnchanged qs → differs (states_of (ps ++ qs)) a ≡ differs (states_of ps) a
differs_back [] qs a h = differs_none qs a h
differs_back (p ∷ ps) qs a h =
    elim (cases_eq p.number (a / 4096)) [
      | inl e ↦ here (state_of p) (states_of (ps ++ qs)) (states_of ps) a e
      | inr e ↦ elsewhere (state_of p) (states_of (ps ++ qs)) a e ∙ differs_back ps qs a h ∙ sym (elsewhere (state_of p) (states_of ps) a e)
    ]

-- what is next goes by the changes from there on
next_same : (r : Option Change) (ps qs : List PageState) (from : ℕ) → ((a : ℕ) → from ≤ a → differs qs a ≡ differs ps a) → IsNext ps from r → IsNext qs from r
next_same None ps qs from same h = λ a lo hi. same a lo ∙ h a lo hi
next_same (Some c) ps qs from same h = record {
  later = h.later;
  some = h.some;
  within = h.within;
  clear = λ a lo hi. same a lo ∙ h.clear a lo hi;
  changed = λ a lo hi. same a (omega (arith, h.later)) ∙ h.changed a lo hi;
  one_page = h.one_page;
  ends = λ inside. same (c.at + c.length) (omega (arith, h.later)) ∙ h.ends inside;
}

-- what is next in the places that were stored to, from an address's page on, is next in all
pub next_part : (ps : List Page) (first past from place begin n : ℕ) (r : Option Change) → IsAscending (states_of ps) → AreStoredWithin ps first past → IsPlaceFrom ps (from / 4096) place
    → begin ≡ max first place → past ≤ begin + n → IsNext (states_of (take n (drop begin ps))) from r → IsNext (states_of ps) from r
next_part ps first past from place begin n r asc stored at is le h =
    next_same r (states_of (take n (drop begin ps))) (states_of ps) from (λ a lo.
    let split : ps ≡ take begin ps ++ drop begin ps = sym (take-append-drop begin ps) in
    let order : IsAscending (states_of (take begin ps ++ drop begin ps)) = subst (λ (qs : List Page). IsAscending (states_of qs)) split asc in
    let front : (k : ℕ) (d : Page) → k < length (take begin ps) → (get_or (take begin ps) k d).number ≡ a / 4096 → IsUnchanged (get_or (take begin ps) k d) = λ k d inside e.
    let below : k < begin = omega (arith, length-take begin ps) in
    let size : k < length ps = omega (arith, length-take begin ps) in
    let same : get_or (take begin ps) k d ≡ get_or ps k d = get_or-take begin ps k d below in
    subst IsUnchanged (sym same) (elim (cases_lt k first) [
      | inl early ↦ stored.front k d early size
      | inr later ↦ absurd (omega (arith, at.below k d (omega arith), ap (λ (p : Page). p.number) same))
    ]) in
    ap (λ (qs : List Page). differs (states_of qs) a) split
    ∙ differs_front (take begin ps) (drop begin ps) a order front
    ∙ ap (λ (qs : List Page). differs (states_of qs) a) (sym (take-append-drop n (drop begin ps)))
    ∙ differs_back (take n (drop begin ps)) (drop n (drop begin ps)) a (unchanged_back ps first past begin n le stored)) h

pub next_nowhere : (ps : List Page) (first past from place begin : ℕ) → IsAscending (states_of ps) → AreStoredWithin ps first past → IsPlaceFrom ps (from / 4096) place
    → begin ≡ max first place → past ≤ begin → IsNext (states_of ps) from None
next_nowhere ps first past from place begin asc stored at is le =
    next_part ps first past from place begin 0 None asc stored at is (omega arith) (λ a lo hi. none_here a)
