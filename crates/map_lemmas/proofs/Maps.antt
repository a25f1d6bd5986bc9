-- Maps from numbers after one entry came, went or changed.
use Rattle.std.proofs.Common.{◌⊎◌, ◌≡◌, ◌≢◌, ◌∙◌, ℕ, suc, zero, ◌+◌, ◌<◌, ◌≤◌, nat_lt, Bool, true, false, List, [], ◌∷◌, cond, Option, Some, None, is_some, refl, ap, sym, subst, inl, inr, arith}
use Rattle.std.proofs.lemmas.Cmp.{nat_cmp_total}
use Rattle.std.proofs.lemmas.Grind.{common_steps}
use Rattle.std.proofs.lemmas.Map.{keys-set_value}
use Rattle.std.proofs.lemmas.Map.Lookups.{exact_unsigned}
use Rattle.std.specs.BTreeMap.{is_at}
use Rattle.std.specs.List.{AllByRecursion}
use Rattle.std.specs.List.Sorted.{IsStrictlySortedBy}
use Rattle.std.specs.Map.{keys_of}
use Rattle.std.specs.Ordering.{match_ordering, nat_cmp}
use Rattle.std.specs.declared.cmp.Ordering.{Ordering}
use Rattle.std.specs.declared.cmp.Ordering.TheVariants.{Less, Equal, Greater}
use Rattle.number_maps.specs.NumberMap.{IsAscending, at, changed, first_free, put, removed}
use Rattle.file_tables.proofs.Lookups.{at_itself, lookup_gone, lookup_put, lookup_put_apart, same_or_apart}

pub other_number : (q k : ℕ) → q ≢ k → is_at (nat_cmp q) k ≡ false
other_number q k other = elim (same_or_apart nat_cmp_total exact_unsigned q k) [ inl same ↦ absurd (other same) | inr apart ↦ apart ]

pub same_key : (q k : ℕ) → is_at (nat_cmp q) k ≡ true → q ≡ k
same_key q k h = elim (same_or_apart nat_cmp_total exact_unsigned q k) [ inl same ↦ same | inr apart ↦ cc ]

module _ {V : Type 0} where
  changed_case : (t : List (ℕ × V)) (e : ℕ × V) (key : ℕ) (old new : V) (b : Bool) → is_at (nat_cmp key) e.0 ≡ b → (at t key ≡ Some old → at (changed t key new) key ≡ Some new) → cond b (Some e.1) (at t key) ≡ Some old → at (changed (e ∷ t) key new) key ≡ Some new
  changed_case t e key old new true here rec h = rw (here, here) refl
  changed_case t e key old new false other rec h = rw (other, other) (rec h)

  -- a value that was changed is the new one
  pub at_changed : (t : List (ℕ × V)) (key : ℕ) (old new : V) → at t key ≡ Some old → at (changed t key new) key ≡ Some new
  at_changed [] key old new h = cc
  at_changed (e ∷ t) key old new h = changed_case t e key old new (is_at (nat_cmp key) e.0) refl (at_changed t key old new) h

  pub at_put : (t : List (ℕ × V)) (key : ℕ) (v : V) → at (put t key v) key ≡ Some v
  at_put t key v = lookup_put nat_cmp_total exact_unsigned t key v

  pub at_put_apart : (t : List (ℕ × V)) (q key : ℕ) (v : V) → q ≢ key → at (put t key v) q ≡ at t q
  at_put_apart t q key v other = lookup_put_apart nat_cmp_total exact_unsigned t q key v (other_number q key other)

  removed_case : (t rest : List (ℕ × V)) (e : ℕ × V) (q key : ℕ) (b : Bool) → is_at (nat_cmp key) e.0 ≡ b → q ≢ key → at rest q ≡ at t q → at (cond b t (e ∷ rest)) q ≡ at (e ∷ t) q
  removed_case t rest e q key true here other rec =
      let same : key ≡ e.0 = same_key key e.0 here in
      let apart : is_at (nat_cmp q) e.0 ≡ false = other_number q e.0 (λ h. other (h ∙ sym same)) in
      rw apart refl
  removed_case t rest e q key false there other rec = ap (λ (o : Option V). cond (is_at (nat_cmp q) e.0) (Some e.1) o) rec

  pub at_removed_apart : (t : List (ℕ × V)) (q key : ℕ) → q ≢ key → at (removed t key) q ≡ at t q
  at_removed_apart [] q key other = refl
  at_removed_apart (e ∷ t) q key other = removed_case t (removed t key) e q key (is_at (nat_cmp key) e.0) refl other (at_removed_apart t q key other)

  free_case : (t : List (ℕ × V)) (from k n : ℕ) (b : Bool) → is_some (at t from) ≡ b → (first_free t (from + 1) k ≡ Some n → (is_some (at t n) ≡ false) × (from + 1 ≤ n) × (n < from + 1 + k)) → cond b (first_free t (from + 1) k) (Some from) ≡ Some n → (is_some (at t n) ≡ false) × (from ≤ n) × (n < from + suc k)
  free_case t from k n true here rec h = let r = rec h in (r.0, omega (arith, r.1), omega (arith, r.2))
  free_case t from k n false here rec h = let same : from ≡ n = cc in (rw (← same) here, omega arith, omega arith)

  -- the first free number is free, and among those that were looked at
  pub is_free : (t : List (ℕ × V)) (from k n : ℕ) → first_free t from k ≡ Some n → (is_some (at t n) ≡ false) × (from ≤ n) × (n < from + k)
  unfolding first_free
  is_free t from zero n h = cc
  is_free t from (suc k) n h = free_case t from k n (is_some (at t from)) refl (is_free t (from + 1) k n) h

  pub vacant : (o : Option V) → is_some o ≡ false → o ≡ None
  vacant None h = refl
  vacant (Some v) h = cc

-- one number, or another
pub one_or_other : (q k : ℕ) → (q ≡ k) ⊎ (q ≢ k)
one_or_other q k = elim (same_or_apart nat_cmp_total exact_unsigned q k) [
  | inl same ↦ inl same
  | inr apart ↦ inr (λ same. absurd (not_apart q k same apart))
]
  where
    not_apart : (q k : ℕ) → q ≡ k → is_at (nat_cmp q) k ≡ false → ⊥
    not_apart q k same apart =
        let itself : is_at (nat_cmp q) q ≡ true = at_itself nat_cmp_total exact_unsigned q in
        let other : is_at (nat_cmp q) q ≡ false = rw (← same) at apart in
        cc

module _ {V : Type 0} where
  changed_apart_case : (t rest : List (ℕ × V)) (e : ℕ × V) (q key : ℕ) (v : V) (b : Bool) → is_at (nat_cmp key) e.0 ≡ b → q ≢ key → at rest q ≡ at t q → at (cond b ((e.0, v) ∷ t) (e ∷ rest)) q ≡ at (e ∷ t) q
  changed_apart_case t rest e q key v true here other rec =
      let same : key ≡ e.0 = same_key key e.0 here in
      let apart : is_at (nat_cmp q) e.0 ≡ false = other_number q e.0 (λ h. other (h ∙ sym same)) in
      rw apart refl
  changed_apart_case t rest e q key v false there other rec = ap (λ (o : Option V). cond (is_at (nat_cmp q) e.0) (Some e.1) o) rec

  pub at_changed_apart : (t : List (ℕ × V)) (q key : ℕ) (v : V) → q ≢ key → at (changed t key v) q ≡ at t q
  at_changed_apart [] q key v other = refl
  at_changed_apart (e ∷ t) q key v other = changed_apart_case t (changed t key v) e q key v (is_at (nat_cmp key) e.0) refl other (at_changed_apart t q key v other)

-- ---- what is gone, and what still ascends
less_test : (a b : ℕ) → nat_cmp a b ≡ Less → nat_lt a b ≡ true
less_test a b h = grind (arith, common_steps)

less_after : (a b c : ℕ) → nat_lt a b ≡ true → nat_cmp b c ≡ Less → nat_cmp a c ≡ Less
less_after a b c h k = grind (arith, common_steps)

greater_less : (a b : ℕ) → nat_cmp a b ≡ Greater → nat_cmp b a ≡ Less
greater_less a b h = grind (arith, common_steps)

all_less : (ks : List ℕ) (a b : ℕ) → nat_cmp a b ≡ Less → AllByRecursion (λ y. nat_cmp b y ≡ Less) ks → AllByRecursion (λ y. nat_cmp a y ≡ Less) ks
all_less [] a b h all = tt
all_less (k ∷ ks) a b h all = (less_after a b k (less_test a b h) all.0, all_less ks a b h all.1)

module _ {V : Type 0} where
  pub at_gone : (t : List (ℕ × V)) (key : ℕ) → IsAscending t → at (removed t key) key ≡ None
  at_gone t key s = lookup_gone nat_cmp_total exact_unsigned t key s

  put_all_case : (P : ℕ → Type 0) (t rest : List (ℕ × V)) (e : ℕ × V) (key : ℕ) (v : V) (r : Ordering) → P key → P e.0 → AllByRecursion P (keys_of t) → AllByRecursion P (keys_of rest) → AllByRecursion P (keys_of (match_ordering r ((key, v) ∷ e ∷ t) ((e.0, v) ∷ t) (e ∷ rest)))
  put_all_case P t rest e key v Less here first all rec = (here, (first, all))
  put_all_case P t rest e key v Equal here first all rec = (first, all)
  put_all_case P t rest e key v Greater here first all rec = (first, rec)

  put_all : (P : ℕ → Type 0) (t : List (ℕ × V)) (key : ℕ) (v : V) → P key → AllByRecursion P (keys_of t) → AllByRecursion P (keys_of (put t key v))
  put_all P [] key v here all = (here, tt)
  put_all P (e ∷ t) key v here all = put_all_case P t (put t key v) e key v (nat_cmp key e.0) here all.0 all.1 (put_all P t key v here all.1)

  put_case : (t rest : List (ℕ × V)) (e : ℕ × V) (key : ℕ) (v : V) (r : Ordering) → nat_cmp key e.0 ≡ r → IsAscending (e ∷ t) → AllByRecursion (λ y. nat_cmp e.0 y ≡ Less) (keys_of t) → IsAscending t → IsAscending rest → (nat_cmp e.0 key ≡ Less → AllByRecursion (λ y. nat_cmp e.0 y ≡ Less) (keys_of rest)) → IsAscending (match_ordering r ((key, v) ∷ e ∷ t) ((e.0, v) ∷ t) (e ∷ rest))
  unfolding IsStrictlySortedBy
  put_case t rest e key v Less order s first later rec all = ((order, all_less (keys_of t) key e.0 order first), s)
  put_case t rest e key v Equal order s first later rec all = (first, later)
  put_case t rest e key v Greater order s first later rec all = (all (greater_less key e.0 order), rec)

  pub ascending_put : (t : List (ℕ × V)) (key : ℕ) (v : V) → IsAscending t → IsAscending (put t key v)
  unfolding IsStrictlySortedBy
  ascending_put [] key v s = (tt, tt)
  ascending_put (e ∷ t) key v s = put_case t (put t key v) e key v (nat_cmp key e.0) refl s s.0 s.1 (ascending_put t key v s.1) (λ h. put_all (λ y. nat_cmp e.0 y ≡ Less) t key v h s.0)

  removed_all : (P : ℕ → Type 0) (t : List (ℕ × V)) (key : ℕ) → AllByRecursion P (keys_of t) → AllByRecursion P (keys_of (removed t key))
  removed_all P [] key all = tt
  removed_all P (e ∷ t) key all = elim (is_at (nat_cmp key) e.0) as (λ b. AllByRecursion P (keys_of (cond b t (e ∷ removed t key)))) [
    | true ↦ all.1
    | false ↦ (all.0, removed_all P t key all.1)
  ]

  pub ascending_removed : (t : List (ℕ × V)) (key : ℕ) → IsAscending t → IsAscending (removed t key)
  unfolding IsStrictlySortedBy
  ascending_removed [] key s = s
  ascending_removed (e ∷ t) key s = elim (is_at (nat_cmp key) e.0) as (λ b. IsAscending (cond b t (e ∷ removed t key))) [
    | true ↦ s.1
    | false ↦ (removed_all (λ y. nat_cmp e.0 y ≡ Less) t key s.0, ascending_removed t key s.1)
  ]

  pub ascending_changed : (t : List (ℕ × V)) (key : ℕ) (v : V) → IsAscending t → IsAscending (changed t key v)
  ascending_changed t key v s = subst (λ (ks : List ℕ). IsStrictlySortedBy nat_cmp ks) (sym (keys-set_value (is_at (nat_cmp key)) t v)) s

  pub same_there : (t : List (ℕ × V)) (key : ℕ) (v w : V) → at t key ≡ Some v → at t key ≡ Some w → v ≡ w
  same_there t key v w h g = let both : Some v ≡ Some w = sym h ∙ g in cc

  pub some_there : (o : Option V) → is_some o ≡ true → (v : V) × (o ≡ Some v)
  some_there None h = cc
  some_there (Some v) h = (v, refl)

  pub not_both : (o : Option V) (v : V) → o ≡ None → o ≡ Some v → ⊥
  not_both o v none some = cc

  pub at_some : (t : List (ℕ × V)) (q : ℕ) (v : V) → at t q ≡ Some v → is_some (at t q) ≡ true
  at_some t q v h = rw h refl

  -- ---- what holds of every entry
  pub every_put : (P : ℕ → V → Type 0) (t : List (ℕ × V)) (key : ℕ) (v : V) → ((n : ℕ) (w : V) → n ≢ key → at t n ≡ Some w → P n w) → P key v → (n : ℕ) (w : V) → at (put t key v) n ≡ Some w → P n w
  every_put P t key v others here n w h = elim (one_or_other n key) [
    | inl same ↦ (
        let both : Some v ≡ Some w = sym (ap (at (put t key v)) same ∙ at_put t key v) ∙ h in
        let e : v ≡ w = cc in
        subst (λ (k : ℕ). P k w) (sym same) (subst (P key) e here)
        )
    | inr other ↦ others n w other (sym (at_put_apart t n key v other) ∙ h)
  ]

  pub every_changed : (P : ℕ → V → Type 0) (t : List (ℕ × V)) (key : ℕ) (old v : V) → at t key ≡ Some old → ((n : ℕ) (w : V) → n ≢ key → at t n ≡ Some w → P n w) → P key v → (n : ℕ) (w : V) → at (changed t key v) n ≡ Some w → P n w
  every_changed P t key old v there others here n w h = elim (one_or_other n key) [
    | inl same ↦ (
        let both : Some v ≡ Some w = sym (ap (at (changed t key v)) same ∙ at_changed t key old v there) ∙ h in
        let e : v ≡ w = cc in
        subst (λ (k : ℕ). P k w) (sym same) (subst (P key) e here)
        )
    | inr other ↦ others n w other (sym (at_changed_apart t n key v other) ∙ h)
  ]

  pub every_removed : (P : ℕ → V → Type 0) (t : List (ℕ × V)) (key : ℕ) → IsAscending t → ((n : ℕ) (w : V) → n ≢ key → at t n ≡ Some w → P n w) → (n : ℕ) (w : V) → at (removed t key) n ≡ Some w → P n w
  every_removed P t key s others n w h = elim (one_or_other n key) [
    | inl same ↦ absurd (not_both (at (removed t key) n) w (ap (at (removed t key)) same ∙ at_gone t key s) h)
    | inr other ↦ others n w other (sym (at_removed_apart t n key other) ∙ h)
  ]

  -- ---- whether a number has a value
  pub there_at_put : (t : List (ℕ × V)) (key : ℕ) (v : V) → is_some (at (put t key v) key) ≡ true
  there_at_put t key v = at_some (put t key v) key v (at_put t key v)

  pub there_put : (t : List (ℕ × V)) (q key : ℕ) (v : V) → is_some (at t q) ≡ true → is_some (at (put t key v) q) ≡ true
  there_put t q key v h = elim (one_or_other q key) [
    | inl same ↦ ap (λ (k : ℕ). is_some (at (put t key v) k)) same ∙ there_at_put t key v
    | inr other ↦ ap (λ (o : Option V). is_some o) (at_put_apart t q key v other) ∙ h
  ]

  pub there_changed : (t : List (ℕ × V)) (q key : ℕ) (old v : V) → at t key ≡ Some old → is_some (at (changed t key v) q) ≡ is_some (at t q)
  there_changed t q key old v there = elim (one_or_other q key) [
    | inl same ↦ ap (λ (k : ℕ). is_some (at (changed t key v) k)) same ∙ at_some (changed t key v) key v (at_changed t key old v there) ∙ sym (ap (λ (k : ℕ). is_some (at t k)) same ∙ at_some t key old there)
    | inr other ↦ ap (λ (o : Option V). is_some o) (at_changed_apart t q key v other)
  ]

module _ {V : Type 0} where
  -- an entry of a map with one more
  pub put_there : (t : List (ℕ × V)) (key r : ℕ) (v w : V) → at (put t key v) r ≡ Some w → ((r ≡ key) × (v ≡ w)) ⊎ (at t r ≡ Some w)
  put_there t key r v w h = elim (one_or_other r key) [
    | inl same ↦ inl (same, (let both : Some v ≡ Some w = sym (ap (at (put t key v)) same ∙ at_put t key v) ∙ h in cc))
    | inr other ↦ inr (sym (at_put_apart t r key v other) ∙ h)
  ]

  -- an entry of a map with one less was in it
  pub removed_there : (t : List (ℕ × V)) (key r : ℕ) (w : V) → IsAscending t → at (removed t key) r ≡ Some w → at t r ≡ Some w
  removed_there t key r w s h = elim (one_or_other r key) [
    | inl same ↦ absurd (not_both (at (removed t key) r) w (ap (at (removed t key)) same ∙ at_gone t key s) h)
    | inr other ↦ sym (at_removed_apart t r key other) ∙ h
  ]
