-- Clearing the changes page by page: a turn, and the end.
use Rattle.std.proofs.Common.{◌≡◌, ℕ, ◌+◌, ◌<◌, ◌≤◌, List, [], ◌∷◌, ◌++◌, length, get_or, take, drop, set, sym, ap, subst, ◌∙◌, append_assoc, arith}
use Rattle.std.proofs.lemmas.List.{at_drop_more, append-nil, take_more_set, drop_more, map-set, get_or-map, length-map, take_all, drop_all, drop-set-lt}
use Rattle.user_memory.specs.declared.page.Page.{Page}
use Rattle.user_memory.specs.Pages.{PageState, mark_of, marked, IsAscending}
use Rattle.user_memory.specs.States.{state_of, states_of}

-- a page among others, and as contracts see it
state_at : (pages : List Page) (i : ℕ) (p : Page) → i < length pages → p ≡ get_or pages i p → get_or (states_of pages) i (state_of p) ≡ state_of p
state_at pages i p h is = get_or-map state_of pages i p (state_of p) h ∙ ap state_of (sym is)

-- a page cleared among others
pub clear_turn : (pages : List Page) (i : ℕ) (p q : Page) (all : List PageState) → i < length pages → p ≡ get_or pages i p → state_of q ≡ mark_of (state_of p)
    → take i (states_of pages) ++ marked (drop i (states_of pages)) ≡ all → take (i + 1) (states_of (set pages i q)) ++ marked (drop (i + 1) (states_of (set pages i q))) ≡ all
unfolding marked
clear_turn pages i p q all h is new so_far =
    let inside : i < length (states_of pages) = rw length-map h in
    let here = state_at pages i p h is in
    let after : states_of (set pages i q) ≡ set (states_of pages) i (state_of q) = map-set state_of pages i q in
    let front : take (i + 1) (set (states_of pages) i (state_of q)) ≡ take i (states_of pages) ++ state_of q ∷ [] = take_more_set (states_of pages) i (state_of q) inside in
    let back : drop (i + 1) (set (states_of pages) i (state_of q)) ≡ drop (i + 1) (states_of pages) = drop-set-lt (i + 1) (states_of pages) i (state_of q) (omega arith) in
    let turn : marked (drop i (states_of pages)) ≡ state_of q ∷ marked (drop (i + 1) (states_of pages)) =
    at_drop_more marked (states_of pages) i (state_of p) inside ∙ ap (λ (x : PageState). mark_of x ∷ marked (drop (i + 1) (states_of pages))) here ∙ ap (λ (x : PageState). x ∷ marked (drop (i + 1) (states_of pages))) (sym new) in
    rw (after, front, back) (append_assoc (take i (states_of pages)) (state_of q ∷ []) (marked (drop (i + 1) (states_of pages))) ∙ ap (λ (ps : List PageState). take i (states_of pages) ++ ps) (sym turn) ∙ so_far)

pub clear_end : (pages : List Page) (i : ℕ) (all : List PageState) → length pages ≤ i → take i (states_of pages) ++ marked (drop i (states_of pages)) ≡ all → states_of pages ≡ all
unfolding marked
clear_end pages i all le so_far =
    let past : length (states_of pages) ≤ i = rw length-map le in
    sym (append-nil (states_of pages)) ∙ rw (take_all i (states_of pages) past, drop_all i (states_of pages) past) at so_far

pub ascending_more : (pages : List Page) (i : ℕ) (p q : Page) → i < length pages → p ≡ get_or pages i p → IsAscending (drop i (states_of pages)) → IsAscending (drop (i + 1) (states_of (set pages i q)))
unfolding IsAscending
ascending_more pages i p q h is asc =
    let inside : i < length (states_of pages) = rw length-map h in
    let after : states_of (set pages i q) ≡ set (states_of pages) i (state_of q) = map-set state_of pages i q in
    let back : drop (i + 1) (set (states_of pages) i (state_of q)) ≡ drop (i + 1) (states_of pages) = drop-set-lt (i + 1) (states_of pages) i (state_of q) (omega arith) in
    let whole = rw (drop_more (states_of pages) i (state_of p) inside) at asc in
    rw (after, back) whole.4

pub page_sizes : (pages : List Page) (i : ℕ) (p : Page) → i < length pages → p ≡ get_or pages i p → IsAscending (drop i (states_of pages)) → length p.bytes.items ≡ length p.before.items
unfolding IsAscending
page_sizes pages i p h is asc =
    let inside : i < length (states_of pages) = rw length-map h in
    let whole : IsAscending (state_of p ∷ drop (i + 1) (states_of pages)) = subst (λ (x : PageState). IsAscending (x ∷ drop (i + 1) (states_of pages))) (state_at pages i p h is) (rw (drop_more (states_of pages) i (state_of p) inside) at asc) in
    whole.1 ∙ sym whole.2
