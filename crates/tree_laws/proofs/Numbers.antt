-- The numbers of inodes, after one was given or named by the image.
use Rattle.std.proofs.Common.{◌≡◌, ◌≢◌, ◌∙◌, ℕ, zero, suc, ◌+◌, ◌-◌, ◌^◌, ◌==◌, ◌&&◌, ◌||◌, ◌<◌, ◌≤◌, nat_lt, Bool, true, false, List, [], ◌∷◌, length, cond, Option, Some, None, is_some, unwrap_or, refl, ap, sym, subst, inl, inr, arith}
use Rattle.std.proofs.lemmas.Bool.Decides.{nat_tests}
use Rattle.std.specs.BTreeMap.{is_at}
use Rattle.std.specs.Bool.{⊤}
use Rattle.std.specs.List.{filter}
use Rattle.std.specs.Prelude.{nat_le}
use Rattle.std.specs.Ordering.{match_ordering, nat_cmp}
use Rattle.std.specs.declared.cmp.Ordering.{Ordering}
use Rattle.std.specs.declared.cmp.Ordering.TheVariants.{Less, Equal, Greater}
use Rattle.number_maps.specs.NumberMap.{at, first_free, put}
use Rattle.file_tables.specs.Numbers.{given, new_number}
use Rattle.file_tables.specs.declared.state.InodeNumbers.{InodeNumbers}
use Rattle.file_tables.specs.declared.state.Node.{Node}
use Rattle.tree_laws.specs.Sound.{NumbersSound, ahead, is_ahead, is_known}
use Rattle.tree_laws.specs.Views.{is_there}
use Rattle.map_lemmas.proofs.Maps.{at_put, at_put_apart, one_or_other, same_key}

-- ---- how many are ahead
abbrev Image : Type 0
Image = List (ℕ × ⊤)

abbrev from_on : Image → ℕ → ℕ
from_on t from = length (filter (is_ahead from) t)

later_ahead : (from k : ℕ) → nat_le (from + 1) k ≡ true → nat_le from k ≡ true
later_ahead from k h = grind (arith, nat_tests)

here_ahead : (k : ℕ) → nat_le k k ≡ true
here_ahead k = grind (arith, nat_tests)

not_later : (k : ℕ) → nat_le (k + 1) k ≡ false
not_later k = grind (arith, nat_tests)

fewer_case : (e : ℕ × ⊤) (f g : Image) (b c : Bool) → (c ≡ true → b ≡ true) → length g ≤ length f → length (cond c (e ∷ g) g) ≤ length (cond b (e ∷ f) f)
fewer_case e f g true true h le = omega arith
fewer_case e f g true false h le = omega arith
fewer_case e f g false true h le = absurd (let x : false ≡ true = h refl in cc)
fewer_case e f g false false h le = le

fewer : (t : Image) (from : ℕ) → from_on t (from + 1) ≤ from_on t from
fewer [] from = omega arith
fewer (e ∷ t) from = fewer_case e (filter (is_ahead from) t) (filter (is_ahead (from + 1)) t) (nat_le from e.0) (nat_le (from + 1) e.0) (later_ahead from e.0) (fewer t from)

less_case : (e : ℕ × ⊤) (f g : Image) (b c : Bool) → (c ≡ true → b ≡ true) → length g + 1 ≤ length f → length (cond c (e ∷ g) g) + 1 ≤ length (cond b (e ∷ f) f)
less_case e f g true true h le = omega arith
less_case e f g true false h le = omega arith
less_case e f g false true h le = absurd (let x : false ≡ true = h refl in cc)
less_case e f g false false h le = le

passed_here : (e : ℕ × ⊤) (f g : Image) (b c : Bool) → b ≡ true → c ≡ false → length g ≤ length f → length (cond c (e ∷ g) g) + 1 ≤ length (cond b (e ∷ f) f)
passed_here e f g true true h k le = absurd (let x : true ≡ false = k in cc)
passed_here e f g true false h k le = omega arith
passed_here e f g false c h k le = absurd (let x : false ≡ true = h in cc)

passed_case : (e : ℕ × ⊤) (t : Image) (from : ℕ) (b : Bool) → is_at (nat_cmp from) e.0 ≡ b → is_some (cond b (Some e.1) (at t from)) ≡ true → (is_some (at t from) ≡ true → from_on t (from + 1) + 1 ≤ from_on t from) → from_on (e ∷ t) (from + 1) + 1 ≤ from_on (e ∷ t) from
passed_case e t from true here h rec =
    let same : from ≡ e.0 = same_key from e.0 here in
    passed_here e (filter (is_ahead from) t) (filter (is_ahead (from + 1)) t) (nat_le from e.0) (nat_le (from + 1) e.0)
    (subst (λ (k : ℕ). nat_le from k ≡ true) same (here_ahead from)) (subst (λ (k : ℕ). nat_le (from + 1) k ≡ false) same (not_later from)) (fewer t from)
passed_case e t from false other h rec = less_case e (filter (is_ahead from) t) (filter (is_ahead (from + 1)) t) (nat_le from e.0) (nat_le (from + 1) e.0) (later_ahead from e.0) (rec h)

passed : (t : Image) (from : ℕ) → is_some (at t from) ≡ true → from_on t (from + 1) + 1 ≤ from_on t from
passed [] from h = absurd (let x : false ≡ true = h in cc)
passed (e ∷ t) from h = passed_case e t from (is_at (nat_cmp from) e.0) refl h (passed t from)

-- ---- the first number that is free
pub record Free (t : Image) (from n : ℕ) : Type 0 where
  pub free : is_some (at t n) ≡ false
  pub least : from ≤ n
  pub counted : n + from_on t (n + 1) ≤ from + from_on t from

free_case : (t : Image) (from k n : ℕ) (b : Bool) → is_some (at t from) ≡ b → (first_free t (from + 1) k ≡ Some n → Free t (from + 1) n) → cond b (first_free t (from + 1) k) (Some from) ≡ Some n → Free t from n
free_case t from k n true here rec h =
    let r : Free t (from + 1) n = rec h in
    let le : from + 1 ≤ n = r.least in
    let c : n + from_on t (n + 1) ≤ from + 1 + from_on t (from + 1) = r.counted in
    let p : from_on t (from + 1) + 1 ≤ from_on t from = passed t from here in
    record { free = r.free; least = omega arith; counted = omega arith }
free_case t from k n false here rec h =
    let same : from ≡ n = cc in
    let f : from_on t (from + 1) ≤ from_on t from = fewer t from in
    subst (λ (m : ℕ). Free t from m) same (record { free = here; least = omega arith; counted = omega arith })

is_free : (t : Image) (from k n : ℕ) → first_free t from k ≡ Some n → Free t from n
unfolding first_free
is_free t from zero n h = cc
is_free t from (suc k) n h = free_case t from k n (is_some (at t from)) refl (is_free t (from + 1) k n) h

none_case : (t : Image) (from k : ℕ) (b : Bool) → is_some (at t from) ≡ b → (first_free t (from + 1) k ≡ None → k ≤ from_on t (from + 1)) → cond b (first_free t (from + 1) k) (Some from) ≡ None → suc k ≤ from_on t from
none_case t from k true here rec h =
    let r : k ≤ from_on t (from + 1) = rec h in
    let p : from_on t (from + 1) + 1 ≤ from_on t from = passed t from here in
    omega arith
none_case t from k false here rec h = absurd (cc)

-- where none is free, each was named
none_free : (t : Image) (from k : ℕ) → first_free t from k ≡ None → k ≤ from_on t from
unfolding first_free
none_free t from zero h = omega arith
none_free t from (suc k) h = none_case t from k (is_some (at t from)) refl (none_free t (from + 1) k) h

found_case : (n : InodeNumbers) (o : Option ℕ) → first_free n.image n.next (2 ^ 63 - n.next) ≡ o → n.next + ahead n < 2 ^ 63 → (first_free n.image n.next (2 ^ 63 - n.next) ≡ Some (unwrap_or o 0)) × Free n.image n.next (unwrap_or o 0)
found_case n (Some i) h lt = (h, is_free n.image n.next (2 ^ 63 - n.next) i h)
found_case n None h lt = absurd (let le : 2 ^ 63 - n.next ≤ ahead n = none_free n.image n.next (2 ^ 63 - n.next) h in omega arith)

-- ---- the number that is next
pub new_found : (things : ℕ) (n : InodeNumbers) (nodes : List (ℕ × Node)) → things < 2 ^ 31 → NumbersSound things n nodes → first_free n.image n.next (2 ^ 63 - n.next) ≡ Some (new_number n)
unfolding new_number
new_found things n nodes few s =
    let c : n.next + ahead n ≤ 0x1000 + things = s.counted in
    (found_case n (first_free n.image n.next (2 ^ 63 - n.next)) refl (omega arith)).0

pub new_free : (things : ℕ) (n : InodeNumbers) (nodes : List (ℕ × Node)) → things < 2 ^ 31 → NumbersSound things n nodes → Free n.image n.next (new_number n)
unfolding new_number
new_free things n nodes few s =
    let c : n.next + ahead n ≤ 0x1000 + things = s.counted in
    (found_case n (first_free n.image n.next (2 ^ 63 - n.next)) refl (omega arith)).1

unknown : (i next : ℕ) (named : Bool) → named ≡ false → 0x1000 ≤ next → next ≤ i → ((i == 2) || (named || (nat_le 0x1000 i && nat_lt i next))) ≡ false
unknown i next named h least le = grind (arith, nat_tests)

not_there : (b c : Bool) → (b ≡ true → c ≡ true) → c ≡ false → b ≡ false
not_there true c h k = absurd (let x : c ≡ true = h refl in cc)
not_there false c h k = refl

-- nothing has it
pub new_unused : (things : ℕ) (n : InodeNumbers) (nodes : List (ℕ × Node)) → things < 2 ^ 31 → NumbersSound things n nodes → is_there nodes (new_number n) ≡ false
new_unused things n nodes few s =
    let f : Free n.image n.next (new_number n) = new_free things n nodes few s in
    not_there (is_there nodes (new_number n)) (is_known n (new_number n)) (s.known (new_number n)) (unknown (new_number n) n.next (is_some (at n.image (new_number n))) f.free s.least f.least)

pub new_not_root : (things : ℕ) (n : InodeNumbers) (nodes : List (ℕ × Node)) → things < 2 ^ 31 → NumbersSound things n nodes → new_number n ≢ 2
new_not_root things n nodes few s same =
    let f : Free n.image n.next (new_number n) = new_free things n nodes few s in
    let a : n.next ≤ new_number n = f.least in
    let b : 0x1000 ≤ n.next = s.least in
    absurd (omega arith)

pub new_narrow : (things : ℕ) (n : InodeNumbers) (nodes : List (ℕ × Node)) → things < 2 ^ 31 → NumbersSound things n nodes → new_number n < 2 ^ 32
new_narrow things n nodes few s =
    let f : Free n.image n.next (new_number n) = new_free things n nodes few s in
    let a : new_number n + from_on n.image (new_number n + 1) ≤ n.next + from_on n.image n.next = f.counted in
    let b : n.next + from_on n.image n.next ≤ 0x1000 + things = s.counted in
    omega arith

known_later : (i next later : ℕ) (named : Bool) → next ≤ later → ((i == 2) || (named || (nat_le 0x1000 i && nat_lt i next))) ≡ true → ((i == 2) || (named || (nat_le 0x1000 i && nat_lt i later))) ≡ true
known_later i next later named le h = grind (arith, nat_tests)

known_new : (i : ℕ) (named : Bool) → 0x1000 ≤ i → ((i == 2) || (named || (nat_le 0x1000 i && nat_lt i (i + 1)))) ≡ true
known_new i named le = grind (arith, nat_tests)

-- nodes that were there before, but for one
abbrev pub Only : List (ℕ × Node) → List (ℕ × Node) → ℕ → Type 0
Only nodes more i = (k : ℕ) → k ≢ i → is_there more k ≡ true → is_there nodes k ≡ true

pub numbers_given : (things : ℕ) (n : InodeNumbers) (nodes more : List (ℕ × Node)) → things < 2 ^ 31 → NumbersSound things n nodes → Only nodes more (new_number n) → NumbersSound (things + 1) (given n) more
unfolding given
numbers_given things n nodes more few s only =
    let i : ℕ = new_number n in
    let f : Free n.image n.next i = new_free things n nodes few s in
    let a : n.next ≤ i = f.least in
    let b : 0x1000 ≤ n.next = s.least in
    let c : i + from_on n.image (i + 1) ≤ n.next + from_on n.image n.next = f.counted in
    let d : n.next + from_on n.image n.next ≤ 0x1000 + things = s.counted in
    record {
      least = omega arith;
      counted = omega arith;
      known = λ k h. elim (one_or_other k i) [
        | inl same ↦ subst (λ (j : ℕ). is_known (record n { next = i + 1 }) j ≡ true) (sym same) (known_new i (is_some (at n.image i)) (omega arith))
        | inr other ↦ known_later k n.next (i + 1) (is_some (at n.image k)) (omega arith) (s.known k (only k other h))
      ];
    }

-- ---- a number that the image names
named_case : (e : ℕ × ⊤) (t rest : Image) (key from : ℕ) (v : ⊤) (r : Ordering) → from_on rest from ≤ from_on t from + 1 → from_on (match_ordering r ((key, v) ∷ e ∷ t) ((e.0, v) ∷ t) (e ∷ rest)) from ≤ from_on (e ∷ t) from + 1
named_case e t rest key from v Less le = first_more (key, v) (filter (is_ahead from) (e ∷ t)) (nat_le from key)
  where
    first_more : (x : ℕ × ⊤) (f : Image) (b : Bool) → length (cond b (x ∷ f) f) ≤ length f + 1
    first_more x f true = omega arith
    first_more x f false = omega arith
named_case e t rest key from v Equal le = same_first (e.0, v) e (filter (is_ahead from) t) (nat_le from e.0)
  where
    same_first : (x y : ℕ × ⊤) (f : Image) (b : Bool) → length (cond b (x ∷ f) f) ≤ length (cond b (y ∷ f) f) + 1
    same_first x y f true = omega arith
    same_first x y f false = omega arith
named_case e t rest key from v Greater le = both_first e (filter (is_ahead from) rest) (filter (is_ahead from) t) (nat_le from e.0) le
  where
    both_first : (x : ℕ × ⊤) (f g : Image) (b : Bool) → length f ≤ length g + 1 → length (cond b (x ∷ f) f) ≤ length (cond b (x ∷ g) g) + 1
    both_first x f g true le = omega arith
    both_first x f g false le = le

one_named : (key from : ℕ) (v : ⊤) (b : Bool) → length {A = ℕ × ⊤} (cond b ((key, v) ∷ []) []) ≤ 1
one_named key from v true = omega (arith)
one_named key from v false = omega arith

more_named : (t : Image) (key from : ℕ) (v : ⊤) → from_on (put t key v) from ≤ from_on t from + 1
more_named [] key from v = one_named key from v (nat_le from key)
more_named (e ∷ t) key from v = named_case e t (put t key v) key from v (nat_cmp key e.0) (more_named t key from v)

known_more : (i next : ℕ) (a b : Bool) → (a ≡ true → b ≡ true) → ((i == 2) || (a || (nat_le 0x1000 i && nat_lt i next))) ≡ true → ((i == 2) || (b || (nat_le 0x1000 i && nat_lt i next))) ≡ true
known_more i next a b h k = grind (arith, nat_tests)

known_named : (i next : ℕ) (a : Bool) → a ≡ true → ((i == 2) || (a || (nat_le 0x1000 i && nat_lt i next))) ≡ true
known_named i next a h = grind (arith, nat_tests)

pub numbers_named : (things : ℕ) (n : InodeNumbers) (nodes more : List (ℕ × Node)) (i : ℕ) → NumbersSound things n nodes → Only nodes more i → NumbersSound (things + 1) (record n { image = put n.image i tt }) more
numbers_named things n nodes more i s only =
    let d : n.next + from_on n.image n.next ≤ 0x1000 + things = s.counted in
    let m : from_on (put n.image i tt) n.next ≤ from_on n.image n.next + 1 = more_named n.image i n.next tt in
    record {
      least = s.least;
      counted = omega arith;
      known = λ k h. elim (one_or_other k i) [
        | inl same ↦ subst (λ (j : ℕ). is_known (record n { image = put n.image i tt }) j ≡ true) (sym same) (known_named i n.next (is_some (at (put n.image i tt) i)) (ap is_some (at_put n.image i tt)))
        | inr other ↦ known_more k n.next (is_some (at n.image k)) (is_some (at (put n.image i tt) k)) (λ g. ap is_some (at_put_apart n.image k i tt other) ∙ g) (s.known k (only k other h))
      ];
    }

-- before any number is given, a number that is neither the root's nor named by the image is nobody's
unnamed : (i next : ℕ) (a : Bool) → next ≡ 0x1000 → (i == 2) ≡ false → a ≡ false → ((i == 2) || (a || (nat_le 0x1000 i && nat_lt i next))) ≡ false
unnamed i next a h b c = grind (arith, nat_tests)

pub named_unused : (things : ℕ) (n : InodeNumbers) (nodes : List (ℕ × Node)) (i : ℕ) → n.next ≡ 0x1000 → (i == 2) ≡ false → is_some (at n.image i) ≡ false → NumbersSound things n nodes → is_there nodes i ≡ false
named_unused things n nodes i start root free s =
    not_there (is_there nodes i) (is_known n i) (s.known i) (unnamed i n.next (is_some (at n.image i)) start root free)

-- ---- no other numbers
pub numbers_stay : (things : ℕ) (n : InodeNumbers) (nodes more : List (ℕ × Node)) → NumbersSound things n nodes → ((k : ℕ) → is_there more k ≡ true → is_there nodes k ≡ true) → NumbersSound things n more
numbers_stay things n nodes more s only = record { least = s.least; counted = s.counted; known = λ k h. s.known k (only k h) }

pub numbers_more : (a b : ℕ) (n : InodeNumbers) (nodes : List (ℕ × Node)) → a ≤ b → NumbersSound a n nodes → NumbersSound b n nodes
numbers_more a b n nodes le s = record { least = s.least; counted = (let c : n.next + ahead n ≤ 0x1000 + a = s.counted in omega arith); known = s.known }
