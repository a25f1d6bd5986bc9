-- The way from a directory up to the root, after one was made, went or lies elsewhere.
use Rattle.std.proofs.Common.{◌⊎◌, ◌≡◌, ◌≢◌, ◌∙◌, ℕ, zero, suc, ◌+◌, ◌-◌, ◌==◌, ◌<◌, ◌≤◌, Bool, true, false, List, [], ◌∷◌, length, cond, Option, Some, None, is_some, refl, ap, sym, subst, inl, inr, arith}
use Rattle.std.proofs.lemmas.Bool.{cases_lt, eq-eqb}
use Rattle.std.specs.BTreeMap.{is_at}
use Rattle.std.specs.Option.{unwrap_or}
use Rattle.std.specs.Ordering.{nat_cmp}
use Rattle.number_maps.specs.NumberMap.{at, removed}
use Rattle.file_tables.specs.Directories.{parent_of}
use Rattle.file_tables.specs.Places.{is_inside, lies_inside}
use Rattle.file_tables.specs.declared.state.Directory.{Directory}
use Rattle.tree_laws.specs.Sound.{ReachSound}
use Rattle.tree_laws.specs.Views.{ReachesRoot, climbed, is_there, lies_in}
use Rattle.map_lemmas.proofs.Maps.{at_removed_apart, not_both, one_or_other}
use Rattle.tree_laws.proofs.Views.{directory_there, parent_is}

-- ---- one step
pub same_parent : (t u : List (ℕ × Directory)) (k : ℕ) → lies_in u k ≡ lies_in t k → parent_of u k ≡ parent_of t k
same_parent t u k h = parent_is u k ∙ (ap (λ (o : Option ℕ). unwrap_or o k) h ∙ sym (parent_is t k))

pub parent_there : (t : List (ℕ × Directory)) (k z : ℕ) → lies_in t k ≡ Some z → parent_of t k ≡ z
parent_there t k z h = parent_is t k ∙ ap (λ (o : Option ℕ). unwrap_or o k) h

parent_stuck : (t : List (ℕ × Directory)) (k : ℕ) → lies_in t k ≡ None → parent_of t k ≡ k
parent_stuck t k h = parent_is t k ∙ ap (λ (o : Option ℕ). unwrap_or o k) h

one_more : (t : List (ℕ × Directory)) (k : ℕ) → ReachesRoot t (parent_of t k) → ReachesRoot t k
unfolding climbed
one_more t k r = record { steps = suc r.steps; arrives = r.arrives }

-- ---- many steps
pub all_stay : (t u : List (ℕ × Directory)) → ((k : ℕ) → lies_in u k ≡ lies_in t k) → (n k : ℕ) → climbed u k n ≡ climbed t k n
unfolding climbed
all_stay t u same zero k = refl
all_stay t u same (suc n) k = all_stay t u same n (parent_of u k) ∙ ap (λ (z : ℕ). climbed t z n) (same_parent t u k (same k))

pub reach_same : (t u : List (ℕ × Directory)) → ((k : ℕ) → lies_in u k ≡ lies_in t k) → ReachSound t → ReachSound u
reach_same t u same all k z h =
    let r : ReachesRoot t k = all k z (sym (same k) ∙ h) in
    record { steps = r.steps; arrives = all_stay t u same r.steps k ∙ r.arrives }

next_sum : (a b : ℕ) → suc a + b ≡ suc (a + b)
next_sum a b = omega arith

pub climbed_on : (t : List (ℕ × Directory)) (a b k : ℕ) → climbed t k (a + b) ≡ climbed t (climbed t k a) b
unfolding climbed
climbed_on t zero b k = let e : zero + b ≡ b = omega arith in ap (climbed t k) e
climbed_on t (suc a) b k = ap (climbed t k) (next_sum a b) ∙ climbed_on t a b (parent_of t k)

-- what lies nowhere leads nowhere
pub stuck : (t : List (ℕ × Directory)) (k n : ℕ) → parent_of t k ≡ k → climbed t k n ≡ k
unfolding climbed
stuck t k zero h = refl
stuck t k (suc n) h = ap (λ (z : ℕ). climbed t z n) h ∙ stuck t k n h

-- the steps behind some others
pub rest_of : (t : List (ℕ × Directory)) (n j k : ℕ) → j ≤ n → climbed t k n ≡ climbed t (climbed t k j) (n - j)
rest_of t n j k le = let e : n ≡ j + (n - j) = omega arith in ap (climbed t k) e ∙ climbed_on t j (n - j) k

module _ (t u : List (ℕ × Directory)) (i : ℕ) (apart : (k : ℕ) → k ≢ i → lies_in u k ≡ lies_in t k) where
  -- a way that meets one directory goes on as its way does
  pub reach_rest : ReachesRoot u i → (n k : ℕ) → climbed t k n ≡ 2 → ReachesRoot u k
  unfolding climbed
  reach_rest r zero k h = record { steps = 0; arrives = h }
  reach_rest r (suc n) k h = elim (one_or_other k i) [
    | inl same ↦ subst (λ (z : ℕ). ReachesRoot u z) (sym same) r
    | inr other ↦ one_more u k (subst (λ (z : ℕ). ReachesRoot u z) (sym (same_parent t u k (apart k other))) (reach_rest r n (parent_of t k) h))
  ]

  -- a way that doesn't meet it stays
  pub avoids : (n k : ℕ) → climbed t k n ≡ 2 → ((j : ℕ) → j ≤ n → climbed t k j ≢ i) → climbed u k n ≡ 2
  unfolding climbed
  avoids zero k h away = h
  avoids (suc n) k h away =
      let other : k ≢ i = away 0 (omega arith) in
      ap (λ (z : ℕ). climbed u z n) (same_parent t u k (apart k other)) ∙ avoids n (parent_of t k) h (λ j le. away (suc j) (omega arith))

  -- ---- a directory that is new
  away_of_new : lies_in t i ≡ None → i ≢ 2 → (n k : ℕ) → climbed t k n ≡ 2 → (j : ℕ) → j ≤ n → climbed t k j ≢ i
  away_of_new none root n k h j le same = root (sym (rest_of t n j k le ∙ (ap (λ (z : ℕ). climbed t z (n - j)) same ∙ stuck t i (n - j) (parent_stuck t i none))) ∙ h)

  pub reach_made : (q z : ℕ) → lies_in t i ≡ None → i ≢ 2 → lies_in u i ≡ Some q → lies_in t q ≡ Some z → ReachSound t → ReachSound u
  reach_made q z none root lies place all k y h =
      let from : ReachesRoot t q = all q z place in
      let way : climbed u q from.steps ≡ 2 = avoids from.steps q from.arrives (away_of_new none root from.steps q from.arrives) in
      let new : ReachesRoot u i = one_more u i (subst (λ (x : ℕ). ReachesRoot u x) (sym (parent_there u i q lies)) (record { steps = from.steps; arrives = way })) in
      elim (one_or_other k i) [
        | inl same ↦ subst (λ (x : ℕ). ReachesRoot u x) (sym same) new
        | inr other ↦ (let r : ReachesRoot t k = all k y (sym (apart k other) ∙ h) in reach_rest new r.steps k r.arrives)
      ]

  -- ---- a directory goes in which no other lies
  parent_case : (k : ℕ) (o : Option ℕ) → lies_in t k ≡ o → k ≢ i → ((z : ℕ) → lies_in t k ≡ Some z → z ≢ i) → parent_of t k ≢ i
  parent_case k None h other childless same = other (sym (parent_stuck t k h) ∙ same)
  parent_case k (Some z) h other childless same = childless z h (sym (parent_there t k z h) ∙ same)

  pub way_stays : ((k z : ℕ) → k ≢ i → lies_in t k ≡ Some z → z ≢ i) → (n k : ℕ) → k ≢ i → climbed u k n ≡ climbed t k n
  unfolding climbed
  way_stays childless zero k other = refl
  way_stays childless (suc n) k other =
      ap (λ (z : ℕ). climbed u z n) (same_parent t u k (apart k other)) ∙ way_stays childless n (parent_of t k) (parent_case k (lies_in t k) refl other (λ z. childless k z other))

  pub reach_dropped : ((k z : ℕ) → k ≢ i → lies_in t k ≡ Some z → z ≢ i) → lies_in u i ≡ None → ReachSound t → ReachSound u
  reach_dropped childless none all k z h =
      let other : k ≢ i = λ same. not_both (lies_in u i) z none (sym (ap (lies_in u) same) ∙ h) in
      let r : ReachesRoot t k = all k z (sym (apart k other) ∙ h) in
      record { steps = r.steps; arrives = way_stays childless r.steps k other ∙ r.arrives }

-- ---- the least number of steps
pub record Least (t : List (ℕ × Directory)) (k : ℕ) : Type 0 where
  pub steps : ℕ
  pub arrives : climbed t k steps ≡ 2
  pub before : (j : ℕ) → j < steps → climbed t k j ≢ 2

before_next : (t : List (ℕ × Directory)) (k n : ℕ) → k ≢ 2 → ((j : ℕ) → j < n → climbed t (parent_of t k) j ≢ 2) → (j : ℕ) → j < suc n → climbed t k j ≢ 2
unfolding climbed
before_next t k n root later zero lt = root
before_next t k n root later (suc j) lt = later j (omega arith)

arrives_next : (t : List (ℕ × Directory)) (k n : ℕ) → climbed t (parent_of t k) n ≡ 2 → climbed t k (suc n) ≡ 2
unfolding climbed
arrives_next t k n h = h

arrives_now : (t : List (ℕ × Directory)) (k : ℕ) → k ≡ 2 → climbed t k 0 ≡ 2
unfolding climbed
arrives_now t k h = h

arrives_later : (t : List (ℕ × Directory)) (k n : ℕ) → climbed t k (suc n) ≡ 2 → climbed t (parent_of t k) n ≡ 2
unfolding climbed
arrives_later t k n h = h

at_once : (t : List (ℕ × Directory)) (k : ℕ) → k ≡ 2 → Least t k
at_once t k h = record { steps = 0; arrives = arrives_now t k h; before = λ j lt. absurd (omega arith) }

arrives_none : (t : List (ℕ × Directory)) (k : ℕ) → climbed t k 0 ≡ 2 → k ≡ 2
unfolding climbed
arrives_none t k h = h

pub least : (t : List (ℕ × Directory)) (n k : ℕ) → climbed t k n ≡ 2 → Least t k
least t zero k h = at_once t k (arrives_none t k h)
least t (suc n) k h = elim (one_or_other k 2) [
  | inl root ↦ at_once t k root
  | inr other ↦ (let l : Least t (parent_of t k) = least t n (parent_of t k) (arrives_later t k n h) in
      record { steps = suc l.steps; arrives = arrives_next t k l.steps l.arrives; before = before_next t k l.steps other l.before })
]

-- ---- as many directories as steps
module _ {V : Type 0} where
  short_case : (e : ℕ × V) (t rest : List (ℕ × V)) (key : ℕ) (b : Bool) → is_some (cond b (Some e.1) (at t key)) ≡ true → (is_some (at t key) ≡ true → length rest + 1 ≡ length t) → length (cond b t (e ∷ rest)) + 1 ≡ length (e ∷ t)
  short_case e t rest key true h rec = omega arith
  short_case e t rest key false h rec = let g : length rest + 1 ≡ length t = rec h in omega arith

  shorter : (t : List (ℕ × V)) (key : ℕ) → is_there t key ≡ true → length (removed t key) + 1 ≡ length t
  shorter [] key h = cc
  shorter (e ∷ t) key h = short_case e t (removed t key) key (is_at (nat_cmp key) e.0) h (shorter t key)

  -- different numbers that a map has are no more than its entries
  pub pigeons : (n : ℕ) (t : List (ℕ × V)) (f : ℕ → ℕ) → ((j : ℕ) → j < n → is_there t (f j) ≡ true) → ((a b : ℕ) → a < b → b < n → f a ≢ f b) → n ≤ length t
  pigeons zero t f there apart = omega arith
  pigeons (suc n) t f there apart =
      let one : length (removed t (f n)) + 1 ≡ length t = shorter t (f n) (there n (omega arith)) in
      let rest : n ≤ length (removed t (f n)) = pigeons n (removed t (f n)) f
      (λ j lt. ap is_some (at_removed_apart t (f j) (f n) (apart j n lt (omega arith))) ∙ there j (omega arith))
      (λ a b less lt. apart a b less (omega arith)) in
      omega arith

module _ (t : List (ℕ × Directory)) (k : ℕ) (root : lies_in t 2 ≡ Some 2) (l : Least t k) where
  there_case : (j : ℕ) (o : Option ℕ) → lies_in t (climbed t k j) ≡ o → j ≤ l.steps → is_some o ≡ true
  there_case j (Some z) h le = refl
  there_case j None h le =
      let at_root : climbed t k j ≡ 2 = sym (rest_of t l.steps j k le ∙ stuck t (climbed t k j) (l.steps - j) (parent_stuck t (climbed t k j) h)) ∙ l.arrives in
      absurd (not_both (lies_in t 2) 2 (sym (ap (lies_in t) at_root) ∙ h) root)

  all_there : (j : ℕ) → j < suc l.steps → is_there t (climbed t k j) ≡ true
  all_there j lt = directory_there t (climbed t k j) ∙ there_case j (lies_in t (climbed t k j)) refl (omega arith)

  all_apart : (a b : ℕ) → a < b → b < suc l.steps → climbed t k a ≢ climbed t k b
  all_apart a b less lt same =
      let b_fits : b ≤ l.steps = omega arith in
      let early : climbed t k (a + (l.steps - b)) ≡ 2 = climbed_on t a (l.steps - b) k ∙ (ap (λ (z : ℕ). climbed t z (l.steps - b)) same ∙ (sym (rest_of t l.steps b k b_fits) ∙ l.arrives)) in
      l.before (a + (l.steps - b)) (omega arith) early

  pub fewer_steps : l.steps < length t
  fewer_steps = let p : suc l.steps ≤ length t = pigeons (suc l.steps) t (climbed t k) all_there all_apart in omega arith

-- ---- a place that isn't inside
inside_case : (p i : ℕ) (b r : Bool) → (p == i) ≡ b → cond b true r ≡ false → (p ≢ i) × (r ≡ false)
inside_case p i true r e h = cc
inside_case p i false r e h = ((λ same. not_equal p i e same), h)
  where
    not_equal : (p i : ℕ) → (p == i) ≡ false → p ≡ i → ⊥
    not_equal p i e same = let t : (p == i) ≡ true = eq-eqb p i same in cc

pub outside : (t : List (ℕ × Directory)) (i n p : ℕ) → is_inside t i p n ≡ false → (j : ℕ) → j < n → climbed t p j ≢ i
unfolding is_inside climbed
outside t i zero p h j lt = absurd (omega arith)
outside t i (suc n) p h zero lt = (inside_case p i (p == i) (is_inside t i (parent_of t p) n) refl h).0
outside t i (suc n) p h (suc j) lt = outside t i n (parent_of t p) (inside_case p i (p == i) (is_inside t i (parent_of t p) n) refl h).1 j (omega arith)

-- no step from there leads to the inode
pub outside_all : (t : List (ℕ × Directory)) (i q z : ℕ) → ReachSound t → lies_in t 2 ≡ Some 2 → lies_in t q ≡ Some z → i ≢ 2 → lies_inside t i q ≡ false → (n : ℕ) → climbed t q n ≢ i
outside_all t i q z all root place other out n same =
    let from : ReachesRoot t q = all q z place in
    let l : Least t q = least t from.steps q from.arrives in
    by_order l (cases_lt l.steps n)
  where
    after_end : (l : Least t q) → l.steps < n → climbed t q n ≡ 2
    after_end l lt = rest_of t n l.steps q (omega arith) ∙ (ap (λ (x : ℕ). climbed t x (n - l.steps)) l.arrives ∙ stuck t 2 (n - l.steps) (parent_there t 2 2 root))

    by_order : (l : Least t q) → (l.steps < n) ⊎ (n ≤ l.steps) → ⊥
    by_order l (inl lt) = other (sym same ∙ after_end l lt)
    by_order l (inr le) =
        let fewer : l.steps < length t = fewer_steps t q root l in
        outside t i (length t) q out n (omega arith) same

-- ---- a directory lies elsewhere
pub reach_moved : (t u : List (ℕ × Directory)) (i q z : ℕ) → ((k : ℕ) → k ≢ i → lies_in u k ≡ lies_in t k) → lies_in u i ≡ Some q → lies_in t q ≡ Some z → ((n : ℕ) → climbed t q n ≢ i) → ReachSound t → ReachSound u
reach_moved t u i q z apart lies place out all k y h =
    let from : ReachesRoot t q = all q z place in
    let way : climbed u q from.steps ≡ 2 = avoids t u i apart from.steps q from.arrives (λ j le. out j) in
    let new : ReachesRoot u i = one_more u i (subst (λ (x : ℕ). ReachesRoot u x) (sym (parent_there u i q lies)) (record { steps = from.steps; arrives = way })) in
    elim (one_or_other k i) [
      | inl same ↦ subst (λ (x : ℕ). ReachesRoot u x) (sym same) new
      | inr other ↦ (let r : ReachesRoot t k = all k y (sym (apart k other) ∙ h) in reach_rest t u i apart new r.steps k r.arrives)
    ]

-- no directory but the root lies inside itself
pub never_inside : (t : List (ℕ × Directory)) (i z n : ℕ) → ReachSound t → lies_in t 2 ≡ Some 2 → lies_in t i ≡ Some z → i ≢ 2 → 0 < n → climbed t i n ≢ i
never_inside t i z n all root lies other some same =
    let from : ReachesRoot t i = all i z lies in
    let l : Least t i = least t from.steps i from.arrives in
    by_order l (cases_lt l.steps n)
  where
    after_end : (l : Least t i) → l.steps < n → climbed t i n ≡ 2
    after_end l lt = rest_of t n l.steps i (omega arith) ∙ (ap (λ (x : ℕ). climbed t x (n - l.steps)) l.arrives ∙ stuck t 2 (n - l.steps) (parent_there t 2 2 root))

    by_order : (l : Least t i) → (l.steps < n) ⊎ (n ≤ l.steps) → ⊥
    by_order l (inl lt) = other (sym same ∙ after_end l lt)
    by_order l (inr le) =
        let early : climbed t i (l.steps - n) ≡ 2 = ap (λ (x : ℕ). climbed t x (l.steps - n)) (sym same) ∙ (sym (rest_of t l.steps n i le) ∙ l.arrives) in
        l.before (l.steps - n) (omega arith) early
