-- Values of maps that pass a test.
use Rattle.std.proofs.Common.{◌≡◌, ◌∙◌, ℕ, ◌||◌, Bool, true, false, List, [], ◌∷◌, cond, Option, Some, None, refl, ap, sym, subst, arith}
use Rattle.std.proofs.lemmas.Grind.{common_steps}
use Rattle.std.specs.BTreeMap.{is_at}
use Rattle.std.specs.List.{AllByRecursion, list_any}
use Rattle.std.specs.List.Sorted.{IsStrictlySortedBy}
use Rattle.std.specs.Map.{keys_of, values_of}
use Rattle.std.specs.Ordering.{nat_cmp}
use Rattle.std.specs.declared.cmp.Ordering.TheVariants.{Less}
use Rattle.number_maps.specs.NumberMap.{IsAscending, at}
use Rattle.map_lemmas.proofs.Maps.{same_key}

less_is_other : (p q : ℕ) → nat_cmp p q ≡ Less → is_at (nat_cmp q) p ≡ false
less_is_other p q h = grind (arith, common_steps)

module _ {V : Type 0} where
  keys_case : (P : ℕ → Type 0) (e : ℕ × V) (o : Option V) (k : ℕ) (v : V) (b : Bool) → is_at (nat_cmp k) e.0 ≡ b → P e.0 → (o ≡ Some v → P k) → cond b (Some e.1) o ≡ Some v → P k
  keys_case P e o k v true here first rec h = subst P (sym (same_key k e.0 here)) first
  keys_case P e o k v false there first rec h = rec h

  -- what holds of all keys holds of one that is there
  pub of_key : (P : ℕ → Type 0) (t : List (ℕ × V)) (k : ℕ) (v : V) → AllByRecursion P (keys_of t) → at t k ≡ Some v → P k
  of_key P [] k v all h = absurd (let e : None ≡ Some v = h in cc)
  of_key P (e ∷ t) k v all h = keys_case P e (at t k) k v (is_at (nat_cmp k) e.0) refl all.0 (of_key P t k v all.1) h

module _ {V : Type 0} (test : V → Bool) where
  at_case : (e : ℕ × V) (t : List (ℕ × V)) (k : ℕ) (v : V) (b : Bool) → test v ≡ true → (at t k ≡ Some v → list_any test (values_of t) ≡ true) → cond b (Some e.1) (at t k) ≡ Some v → (test e.1 || list_any test (values_of t)) ≡ true
  at_case e t k v true passes rec h =
      let same : e.1 ≡ v = cc in
      let here : test e.1 ≡ true = ap test same ∙ passes in
      rw here refl
  at_case e t k v false passes rec h = rw (rec h) (either_way (test e.1))
    where
      either_way : (b : Bool) → (b || true) ≡ true
      either_way true = refl
      either_way false = refl

  -- a value that is there and passes
  pub any_at : (t : List (ℕ × V)) (k : ℕ) (v : V) → at t k ≡ Some v → test v ≡ true → list_any test (values_of t) ≡ true
  any_at [] k v h passes = absurd (let e : None ≡ Some v = h in cc)
  any_at (e ∷ t) k v h passes = at_case e t k v (is_at (nat_cmp k) e.0) passes (λ g. any_at t k v g passes) h

  pub record Passes (t : List (ℕ × V)) : Type 0 where
    pub key : ℕ
    pub value : V
    pub there : at t key ≡ Some value
    pub passes : test value ≡ true

  found_first : (e : ℕ × V) (t : List (ℕ × V)) → test e.1 ≡ true → is_at (nat_cmp e.0) e.0 ≡ true → Passes (e ∷ t)
  found_first e t h self = record { key = e.0; value = e.1; there = rw self refl; passes = h }

  found_later : (e : ℕ × V) (t : List (ℕ × V)) → AllByRecursion (λ y. nat_cmp e.0 y ≡ Less) (keys_of t) → Passes t → Passes (e ∷ t)
  found_later e t all p =
      let other : is_at (nat_cmp p.key) e.0 ≡ false = less_is_other e.0 p.key (of_key (λ y. nat_cmp e.0 y ≡ Less) t p.key p.value all p.there) in
      record { key = p.key; value = p.value; there = rw other p.there; passes = p.passes }

  found_case : (e : ℕ × V) (t : List (ℕ × V)) (b : Bool) → test e.1 ≡ b → is_at (nat_cmp e.0) e.0 ≡ true → AllByRecursion (λ y. nat_cmp e.0 y ≡ Less) (keys_of t) → (list_any test (values_of t) ≡ true → Passes t) → (b || list_any test (values_of t)) ≡ true → Passes (e ∷ t)
  found_case e t true h self all rec any = found_first e t h self
  found_case e t false h self all rec any = found_later e t all (rec any)

  itself : (k : ℕ) → is_at (nat_cmp k) k ≡ true
  itself k = grind (arith, common_steps)

  -- where some value passes, one that is there does
  pub any_found : (t : List (ℕ × V)) → IsAscending t → list_any test (values_of t) ≡ true → Passes t
  unfolding IsStrictlySortedBy
  any_found [] s h = absurd (let e : false ≡ true = h in cc)
  any_found (e ∷ t) s h = found_case e t (test e.1) refl (itself e.0) s.0 (any_found t s.1) h
