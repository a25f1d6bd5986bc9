-- The entry with a name, after one was put at a vacant position.
use Rattle.std.proofs.Common.{◌≡◌, ◌≢◌, ◌∙◌, ℕ, List, [], ◌∷◌, map, Bool, true, false, cond, Option, Some, None, refl, ap, sym, subst, inl, inr, arith}
use Rattle.std.specs.BTreeMap.{is_at}
use Rattle.std.specs.Cmp.Lexicographic.{slice_cmp}
use Rattle.std.specs.List.{AllByRecursion, IsDistinct, find}
use Rattle.std.specs.List.Sorted.{IsStrictlySortedBy}
use Rattle.std.specs.Map.{keys_of}
use Rattle.std.specs.Ordering.{match_ordering, nat_cmp}
use Rattle.std.specs.Str.{bytes_eq}
use Rattle.std.specs.declared.cmp.Ordering.{Ordering}
use Rattle.std.specs.declared.cmp.Ordering.TheVariants.{Less, Equal, Greater}
use Rattle.std.proofs.lemmas.Cmp.{nat_cmp_total, nat_list_cmp_total}
use Rattle.std.proofs.lemmas.Grind.{common_steps}
use Rattle.std.proofs.lemmas.Map.Lookups.{exact_bytes, exact_unsigned}
use Rattle.std.proofs.lemmas.Map.Text.{is_eq-slice_cmp}
use Rattle.number_maps.specs.NumberMap.{IsAscending, at, put, removed}
use Rattle.file_tables.specs.Entries.{named}
use Rattle.file_tables.specs.declared.state.Entry.{Entry}
use Rattle.file_tables.proofs.Lookups.{at_itself, same_or_apart}

-- ---- names, as a test
itself : (n : List ℕ) → bytes_eq n n ≡ true
itself n = sym (is_eq-slice_cmp n n) ∙ at_itself nat_list_cmp_total exact_bytes n

same_name : (n m : List ℕ) → bytes_eq n m ≡ true → n ≡ m
same_name n m h = elim (same_or_apart nat_list_cmp_total exact_bytes n m) [
  | inl same ↦ same
  | inr apart ↦ (let e : is_at (slice_cmp nat_cmp n) m ≡ bytes_eq n m = is_eq-slice_cmp n m in cc)
]

-- ---- the first entry that passes a test
module _ (test : ℕ × Entry → Bool) (p : ℕ) (e : Entry) where
  vacant_case : (x : ℕ × Entry) (o : Option Entry) (r : Ordering) → nat_cmp p x.0 ≡ r → cond (is_at (nat_cmp p) x.0) (Some x.1) o ≡ None → (r ≡ Equal → ⊥) × (o ≡ None)
  vacant_case x o Less order h = (λ k. cc, rw order at h)
  vacant_case x o Equal order h = let g : Some x.1 ≡ None = rw order at h in absurd (cc)
  vacant_case x o Greater order h = (λ k. cc, rw order at h)

  apart_case : (x : ℕ × Entry) (es rest : List (ℕ × Entry)) (r : Ordering) → test (p, e) ≡ false → (r ≡ Equal → ⊥) → find test rest ≡ find test es → find test (match_ordering r ((p, e) ∷ x ∷ es) ((x.0, e) ∷ es) (x ∷ rest)) ≡ find test (x ∷ es)
  apart_case x es rest Less fails other rec = rw fails refl
  apart_case x es rest Equal fails other rec = absurd (other refl)
  apart_case x es rest Greater fails other rec = ap (λ (o : Option (ℕ × Entry)). cond (test x) (Some x) o) rec

  find_apart : (es : List (ℕ × Entry)) → test (p, e) ≡ false → at es p ≡ None → find test (put es p e) ≡ find test es
  find_apart [] fails vacant = rw fails refl
  find_apart (x ∷ es) fails vacant =
      let v = vacant_case x (at es p) (nat_cmp p x.0) refl vacant in
      apart_case x es (put es p e) (nat_cmp p x.0) fails v.0 (find_apart es fails v.1)

  first_fails : (x : ℕ × Entry) (o : Option (ℕ × Entry)) (b : Bool) → test x ≡ b → cond b (Some x) o ≡ None → (test x ≡ false) × (o ≡ None)
  first_fails x o true t h = absurd (cc)
  first_fails x o false t h = (t, h)

  there_case : (x : ℕ × Entry) (es rest : List (ℕ × Entry)) (r : Ordering) → test (p, e) ≡ true → test x ≡ false → (r ≡ Equal → ⊥) → find test rest ≡ Some (p, e) → find test (match_ordering r ((p, e) ∷ x ∷ es) ((x.0, e) ∷ es) (x ∷ rest)) ≡ Some (p, e)
  there_case x es rest Less passes fails other rec = rw passes refl
  there_case x es rest Equal passes fails other rec = absurd (other refl)
  there_case x es rest Greater passes fails other rec = rw fails rec

  find_there : (es : List (ℕ × Entry)) → test (p, e) ≡ true → find test es ≡ None → at es p ≡ None → find test (put es p e) ≡ Some (p, e)
  find_there [] passes none vacant = rw passes refl
  find_there (x ∷ es) passes none vacant =
      let v = vacant_case x (at es p) (nat_cmp p x.0) refl vacant in
      let f = first_fails x (find test es) (test x) refl none in
      there_case x es (put es p e) (nat_cmp p x.0) passes f.0 v.0 (find_there es passes f.1 v.1)

-- ---- the entry with a name
pub named_there : (names : List (ℕ × Entry)) (p : ℕ) (e : Entry) → named names e.name ≡ None → at names p ≡ None → named (put names p e) e.name ≡ Some (p, e)
unfolding named
named_there names p e missing vacant = find_there (λ (x : ℕ × Entry). bytes_eq x.1.name e.name) p e names (itself e.name) missing vacant

-- a name that is there stays
pub named_stays : (names : List (ℕ × Entry)) (p : ℕ) (e : Entry) (name : List ℕ) (x : ℕ × Entry) → named names e.name ≡ None → at names p ≡ None → named names name ≡ Some x → named (put names p e) name ≡ Some x
unfolding named
named_stays names p e name x missing vacant found = by_test (bytes_eq e.name name) refl
  where
    by_test : (b : Bool) → bytes_eq e.name name ≡ b → named (put names p e) name ≡ Some x
    by_test true h =
        let same : named names name ≡ None = rw (← same_name e.name name h) missing in
        absurd (let clash : None ≡ Some x = sym same ∙ found in cc)
    by_test false h = find_apart (λ (y : ℕ × Entry). bytes_eq y.1.name name) p e names h vacant ∙ found

-- another name that isn't there still isn't
pub named_missing : (names : List (ℕ × Entry)) (p : ℕ) (e : Entry) (name : List ℕ) → e.name ≢ name → at names p ≡ None → named names name ≡ None → named (put names p e) name ≡ None
unfolding named
named_missing names p e name other vacant missing = by_test (bytes_eq e.name name) refl
  where
    by_test : (b : Bool) → bytes_eq e.name name ≡ b → named (put names p e) name ≡ None
    by_test true h = absurd (other (same_name e.name name h))
    by_test false h = find_apart (λ (y : ℕ × Entry). bytes_eq y.1.name name) p e names h vacant ∙ missing

-- ---- a name taken out
abbrev name_of : ℕ × Entry → List ℕ
name_of e = e.1.name

all_found : (P : ℕ → Type 0) (test : ℕ × Entry → Bool) (es : List (ℕ × Entry)) (x : ℕ × Entry) → AllByRecursion P (keys_of es) → find test es ≡ Some x → P x.0
all_found P test [] x all h = absurd (let g : None ≡ Some x = h in cc)
all_found P test (e ∷ es) x all h = by_test (all_found P test es x all.1) (test e) h
  where
    by_test : (find test es ≡ Some x → P x.0) → (b : Bool) → cond b (Some e) (find test es) ≡ Some x → P x.0
    by_test rec true g = let same : e ≡ x = cc in subst (λ (y : ℕ × Entry). P y.0) same all.0
    by_test rec false g = rec g

none_named : (name : List ℕ) (es : List (ℕ × Entry)) → AllByRecursion (λ n. bytes_eq name n ≡ false) (map name_of es) → find (λ (e : ℕ × Entry). bytes_eq e.1.name name) es ≡ None
none_named name [] all = refl
none_named name (e ∷ es) all = by_test (none_named name es all.1) (bytes_eq e.1.name name) refl
  where
    by_test : find (λ (e : ℕ × Entry). bytes_eq e.1.name name) es ≡ None → (b : Bool) → bytes_eq e.1.name name ≡ b → cond b (Some e) (find (λ (e : ℕ × Entry). bytes_eq e.1.name name) es) ≡ None
    by_test rec true h = absurd (let passes : bytes_eq name e.1.name ≡ true = subst (λ (n : List ℕ). bytes_eq name n ≡ true) (sym (same_name e.1.name name h)) (itself name) in let fails : bytes_eq name e.1.name ≡ false = all.0 in cc)
    by_test rec false h = rec

greater_is_other : (p q : ℕ) → nat_cmp p q ≡ Less → is_at (nat_cmp q) p ≡ false
greater_is_other p q h = grind (arith, common_steps)

gone_case : (name : List ℕ) (e x : ℕ × Entry) (es : List (ℕ × Entry)) (b : Bool) → bytes_eq e.1.name name ≡ b
    → AllByRecursion (λ n. bytes_eq e.1.name n ≡ false) (map name_of es)
    → (find (λ (y : ℕ × Entry). bytes_eq y.1.name name) es ≡ Some x → nat_cmp e.0 x.0 ≡ Less)
    → (find (λ (y : ℕ × Entry). bytes_eq y.1.name name) es ≡ Some x → find (λ (y : ℕ × Entry). bytes_eq y.1.name name) (removed es x.0) ≡ None)
    → cond b (Some e) (find (λ (y : ℕ × Entry). bytes_eq y.1.name name) es) ≡ Some x
    → find (λ (y : ℕ × Entry). bytes_eq y.1.name name) (removed (e ∷ es) x.0) ≡ None
gone_case name e x es true passes once above rec h =
    let same : e ≡ x = cc in
    let here : is_at (nat_cmp x.0) e.0 ≡ true = subst (λ (y : ℕ × Entry). is_at (nat_cmp y.0) e.0 ≡ true) same (at_itself nat_cmp_total exact_unsigned e.0) in
    rw here (none_named name es (subst (λ (n : List ℕ). AllByRecursion (λ k. bytes_eq n k ≡ false) (map name_of es)) (same_name e.1.name name passes) once))
gone_case name e x es false fails once above rec h = rw (greater_is_other e.0 x.0 (above h), fails) (rec h)

find_gone : (name : List ℕ) (es : List (ℕ × Entry)) (x : ℕ × Entry) → IsAscending es → IsDistinct bytes_eq (map name_of es) → find (λ (y : ℕ × Entry). bytes_eq y.1.name name) es ≡ Some x → find (λ (y : ℕ × Entry). bytes_eq y.1.name name) (removed es x.0) ≡ None
unfolding IsStrictlySortedBy IsDistinct
find_gone name [] x s once h = refl
find_gone name (e ∷ es) x s once h =
    gone_case name e x es (bytes_eq e.1.name name) refl once.0 (λ g. all_found (λ k. nat_cmp e.0 k ≡ Less) _ es x s.0 g) (λ g. find_gone name es x s.1 once.1 g) h

pub named_gone : (names : List (ℕ × Entry)) (name : List ℕ) (x : ℕ × Entry) → IsAscending names → IsDistinct bytes_eq (map name_of names) → named names name ≡ Some x → named (removed names x.0) name ≡ None
unfolding named
named_gone names name x s once h = find_gone name names x s once h

-- ---- what a removal keeps
all_kept : {Y : Type 0} (f : ℕ × Entry → Y) (P : Y → Type 0) (es : List (ℕ × Entry)) (p : ℕ) → AllByRecursion P (map f es) → AllByRecursion P (map f (removed es p))
all_kept f P [] p all = all
all_kept f P (e ∷ es) p all = elim (is_at (nat_cmp p) e.0) as (λ b. AllByRecursion P (map f (cond b es (e ∷ removed es p)))) [
  | true ↦ all.1
  | false ↦ (all.0, all_kept f P es p all.1)
]

pub ascending_kept : (es : List (ℕ × Entry)) (p : ℕ) → IsAscending es → IsAscending (removed es p)
unfolding IsStrictlySortedBy
ascending_kept [] p s = s
ascending_kept (e ∷ es) p s = elim (is_at (nat_cmp p) e.0) as (λ b. IsAscending (cond b es (e ∷ removed es p))) [
  | true ↦ s.1
  | false ↦ (all_kept (λ (x : ℕ × Entry). x.0) (λ k. nat_cmp e.0 k ≡ Less) es p s.0, ascending_kept es p s.1)
]

pub distinct_kept : (es : List (ℕ × Entry)) (p : ℕ) → IsDistinct bytes_eq (map name_of es) → IsDistinct bytes_eq (map name_of (removed es p))
unfolding IsDistinct
distinct_kept [] p s = s
distinct_kept (e ∷ es) p s = elim (is_at (nat_cmp p) e.0) as (λ b. IsDistinct bytes_eq (map name_of (cond b es (e ∷ removed es p)))) [
  | true ↦ s.1
  | false ↦ (all_kept name_of (λ n. bytes_eq e.1.name n ≡ false) es p s.0, distinct_kept es p s.1)
]

vacant_kept_case : (e : ℕ × Entry) (es rest : List (ℕ × Entry)) (q : ℕ) (here there : Bool) → is_at (nat_cmp q) e.0 ≡ here → (at es q ≡ None → at rest q ≡ None) → cond here (Some e.1) (at es q) ≡ None → at (cond there es (e ∷ rest)) q ≡ None
vacant_kept_case e es rest q true there at_e rec h = let g : Some e.1 ≡ None = h in absurd (cc)
vacant_kept_case e es rest q false true at_e rec h = h
vacant_kept_case e es rest q false false at_e rec h = rw at_e (rec h)

pub vacant_kept : (es : List (ℕ × Entry)) (q p : ℕ) → at es q ≡ None → at (removed es p) q ≡ None
vacant_kept [] q p h = refl
vacant_kept (e ∷ es) q p h = vacant_kept_case e es (removed es p) q (is_at (nat_cmp q) e.0) (is_at (nat_cmp p) e.0) refl (vacant_kept es q p) h
