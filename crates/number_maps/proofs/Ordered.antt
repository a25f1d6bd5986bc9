-- What is left of a map after a key.
use Rattle.std.proofs.Common.{◌≡◌, ℕ, ◌<◌, Bool, nat_lt, true, false, List, [], ◌∷◌, cond, refl, ap, ◌∙◌, sym, arith}
use Rattle.std.proofs.lemmas.Grind.{common_steps}
use Rattle.std.specs.List.{AllByRecursion}
use Rattle.std.specs.List.Sorted.{IsStrictlySortedBy}
use Rattle.std.specs.Ordering.{nat_cmp}
use Rattle.std.specs.Map.{keys_of}
use Rattle.std.specs.declared.cmp.Ordering.TheVariants.{Less}
use Rattle.std.specs.BTreeMap.Range.{entries_between, range_contains}
use Rattle.std.specs.declared.ops.Bound.TheVariants.{Excluded, Unbounded}
use Rattle.number_maps.specs.NumberMap.{IsAscending, after_key, is_after}

in_range_is_after : (key q : ℕ) → range_contains nat_cmp (Excluded key) Unbounded q ≡ nat_lt key q
in_range_is_after key q = grind (arith, common_steps)

less_test : (a b : ℕ) → nat_cmp a b ≡ Less → nat_lt a b ≡ true
less_test a b h = grind (arith, common_steps)

less_after : (a b c : ℕ) → nat_lt a b ≡ true → nat_cmp b c ≡ Less → nat_cmp a c ≡ Less
less_after a b c h k = grind (arith, common_steps)

not_after_itself : (a : ℕ) → nat_lt a a ≡ false
not_after_itself a = grind (arith, common_steps)

not_after : (key a b : ℕ) → nat_lt key a ≡ false → nat_lt key b ≡ true → nat_lt b a ≡ false
not_after key a b h k = grind (arith, common_steps)

all_less : (ks : List ℕ) (a b : ℕ) → nat_lt a b ≡ true → AllByRecursion (λ y. nat_cmp b y ≡ Less) ks → AllByRecursion (λ y. nat_cmp a y ≡ Less) ks
all_less [] a b h all = all
all_less (k ∷ ks) a b h all = (less_after a b k h all.0, all_less ks a b h all.1)

module _ {V : Type 0} where
  -- the entries that a range gives
  pub between_is_after : (t : List (ℕ × V)) (key : ℕ) → entries_between nat_cmp (Excluded key) Unbounded t ≡ after_key t key
  unfolding after_key
  between_is_after [] key = refl
  between_is_after (e ∷ t) key = rw (in_range_is_after key e.0) (ap (λ xs. cond (nat_lt key e.0) (e ∷ xs) xs) (between_is_after t key))

  -- where all keys are greater, all is left
  all_after : (t : List (ℕ × V)) (key : ℕ) → AllByRecursion (λ y. nat_cmp key y ≡ Less) (keys_of t) → after_key t key ≡ t
  unfolding after_key
  all_after [] key h = refl
  all_after (e ∷ t) key h = rw (less_test key e.0 h.0) (ap (λ xs. e ∷ xs) (all_after t key h.1))

  none_after_first : (e : ℕ × V) (t : List (ℕ × V)) → AllByRecursion (λ y. nat_cmp e.0 y ≡ Less) (keys_of t) → after_key (e ∷ t) e.0 ≡ t
  unfolding after_key
  none_after_first e t all = rw (not_after_itself e.0) (all_after t e.0 all)

  -- after the first entry, the others are left
  pub after_first : (t : List (ℕ × V)) (x : ℕ × V) (rest : List (ℕ × V)) → IsAscending t → t ≡ x ∷ rest → after_key t x.0 ≡ rest
  unfolding IsStrictlySortedBy
  after_first [] x rest s h = cc
  after_first (e ∷ t) x rest s h =
      let same : e ≡ x = cc in
      let left : t ≡ rest = cc in
      ap (λ y. after_key (e ∷ t) y.0) (sym same) ∙ none_after_first e t s.0 ∙ left

  -- the first entry left has a greater key
  first_is_after : (t : List (ℕ × V)) (key : ℕ) (x : ℕ × V) (rest : List (ℕ × V)) → after_key t key ≡ x ∷ rest → is_after key x ≡ true
  unfolding after_key
  first_is_after [] key x rest h = cc
  first_is_after (e ∷ t) key x rest h = grind (arith, common_steps, first_is_after t key x rest)

  pub first_behind : (t : List (ℕ × V)) (key next : ℕ) (value : V) (rest : List (ℕ × V)) → after_key t key ≡ (next, value) ∷ rest → key < next
  first_behind t key next value rest h = grind (arith, first_is_after t key (next, value) rest h)

  after_next_kept : (t : List (ℕ × V)) (key : ℕ) (e x : ℕ × V) (rest : List (ℕ × V)) → is_after key e ≡ true → AllByRecursion (λ y. nat_cmp e.0 y ≡ Less) (keys_of t) → e ∷ after_key t key ≡ x ∷ rest → after_key (e ∷ t) x.0 ≡ rest
  after_next_kept t key e x rest b all h =
      let same : e ≡ x = cc in
      let left : after_key t key ≡ rest = cc in
      ap (λ y. after_key (e ∷ t) y.0) (sym same) ∙ none_after_first e t all ∙ sym (all_after t key (all_less (keys_of t) key e.0 b all)) ∙ left

  by_test : (t : List (ℕ × V)) (key : ℕ) (e x : ℕ × V) (rest : List (ℕ × V)) → AllByRecursion (λ y. nat_cmp e.0 y ≡ Less) (keys_of t) → (after_key t key ≡ x ∷ rest → after_key t x.0 ≡ rest) → (b : Bool) → is_after key e ≡ b → after_key (e ∷ t) key ≡ x ∷ rest → after_key (e ∷ t) x.0 ≡ rest
  unfolding after_key
  by_test t key e x rest all more true b h = after_next_kept t key e x rest b all (rw b at h)
  by_test t key e x rest all more false b h =
      let g : after_key t key ≡ x ∷ rest = rw b at h in
      rw (not_after key e.0 x.0 b (first_is_after t key x rest g)) (more g)

  -- after the first entry left, the others are left
  pub after_next : (t : List (ℕ × V)) (key : ℕ) (x : ℕ × V) (rest : List (ℕ × V)) → IsAscending t → after_key t key ≡ x ∷ rest → after_key t x.0 ≡ rest
  unfolding IsStrictlySortedBy after_key
  after_next [] key x rest s h = cc
  after_next (e ∷ t) key x rest s h = by_test t key e x rest s.0 (after_next t key x rest s.1) (is_after key e) refl h

  -- the same, from the entries that a range gave
  pub after_between : (t : List (ℕ × V)) (key : ℕ) (x : ℕ × V) (rest : List (ℕ × V)) → IsAscending t → entries_between nat_cmp (Excluded key) Unbounded t ≡ x ∷ rest → after_key t key ≡ x ∷ after_key t x.0
  after_between t key x rest s h =
      let left : after_key t key ≡ x ∷ rest = sym (between_is_after t key) ∙ h in
      left ∙ ap (λ xs. x ∷ xs) (sym (after_next t key x rest s left))

  pub after_front : (t : List (ℕ × V)) (key : ℕ) (value : V) (rest : List (ℕ × V)) → IsAscending t → t ≡ (key, value) ∷ rest → t ≡ (key, value) ∷ after_key t key
  after_front t key value rest s h = h ∙ ap (λ xs. (key, value) ∷ xs) (sym (after_first t (key, value) rest s h))
