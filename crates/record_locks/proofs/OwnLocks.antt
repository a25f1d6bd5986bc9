-- A process's own locks stay maximal ranges, with the kinds of bytes that were asked for; and there is one such list alone.
use Rattle.std.proofs.Common.{◌≡◌, ℕ, ◌+◌, ◌<◌, ◌≤◌, ◌&&◌, not, nat_le, Bool, true, false, if◌then◌else◌, List, [], ◌∷◌, Option, Some, None, refl, sym, ap, ◌∙◌, subst, arith, inl, inr}
use Rattle.std.proofs.lemmas.Bool.{and_from, and_parts, and_right, cases_Bool, cases_lt, lt-leb, leb-true, le-leb, lt-ltb, ltb-true, not-true}
use Rattle.std.proofs.lemmas.Bool.Decides.{nat_tests}
use Rattle.record_locks.specs.Own.{IsMaximal, IsOnly, are_maximal, is_followed_by, joined, kind_at, relocked, replaced, unlocked}
use Rattle.record_locks.specs.declared.state.ByteRange.{ByteRange}
use Rattle.record_locks.specs.declared.state.LockKind.{LockKind}
use Rattle.record_locks.specs.declared.state.OwnLock.{OwnLock}
use Rattle.record_locks.proofs.Maximal.{After, IsNear, after_rest, gap, behind, behind_near, far, followed, gap_least, gap_same, joined_after, unlocked_after, unlocked_apart}
use Rattle.record_locks.proofs.ByteKinds.{cleared, kind_joined, kind_or, kind_unlocked}

-- no bound
abbrev nothing_before : LockKind → ℕ
nothing_before w = 0

nothing_near : IsNear nothing_before
nothing_near v w = omega arith

-- the first of the locks meets the bound
abbrev BeginsAfter : (LockKind → ℕ) → List OwnLock → Type 0
BeginsAfter lo [] = Unit {0}
BeginsAfter lo (l ∷ ls) = lo l.kind ≤ l.first

begins_all : (ls : List OwnLock) → BeginsAfter nothing_before ls
begins_all [] = tt
begins_all (l ∷ ls) = omega arith

after_from : (lo : LockKind → ℕ) (ls : List OwnLock) → BeginsAfter lo ls → IsMaximal ls → After lo ls
unfolding are_maximal
after_from lo [] h m = tt
after_from lo (l ∷ []) h m = (h, leb-true _ _ m, tt)
after_from lo (l ∷ (k ∷ ls)) h m =
    let a = and_parts _ _ m in
    let b = and_parts _ _ a.1 in
    let c = and_parts _ _ b.1 in
    (h, leb-true _ _ a.0, after_from (behind l) (k ∷ ls) (far l k (not-true _ c.0) (ltb-true _ _ b.0)) c.1)

-- behind a bound for locks of its kind, none follows at once
near_not_followed : (l m : OwnLock) → behind l m.kind ≤ m.first → is_followed_by l m ≡ false
near_not_followed l m h = elim (cases_Bool (is_followed_by l m)) [
  | inl e ↦ let f = followed l m e in
      absurd (omega (arith, f.1, ap (λ w. behind l w) f.0, gap_same l.kind))
  | inr e ↦ e
]

maximal_from : (lo : LockKind → ℕ) (ls : List OwnLock) → After lo ls → IsMaximal ls
unfolding are_maximal
maximal_from lo [] a = refl
maximal_from lo (l ∷ []) a = le-leb _ _ a.1
maximal_from lo (l ∷ (m ∷ ls)) a =
    and_from _ _ (le-leb _ _ a.1)
    (and_from _ _ (lt-ltb _ _ (omega (arith, a.2.0, gap_least l.kind m.kind)))
    (and_from _ _ (ap not (near_not_followed l m a.2.0)) (maximal_from (behind l) (m ∷ ls) a.2)))

maximal_is_after : (ls : List OwnLock) → IsMaximal ls → After nothing_before ls
maximal_is_after ls m = after_from nothing_before ls (begins_all ls) m

pub none_maximal : (ls : List OwnLock) → ls ≡ [] → IsMaximal ls
unfolding are_maximal
none_maximal ls e = rw e refl

abbrev lock_on : LockKind → ByteRange → OwnLock
lock_on kind r = record { kind = kind; first = r.first; last = r.last }

pub relocked_maximal : (ls : List OwnLock) (wanted : Option LockKind) (r : ByteRange) → r.first ≤ r.last → IsMaximal ls → IsMaximal (relocked ls wanted r)
unfolding relocked
relocked_maximal ls None r range m = maximal_from nothing_before (unlocked ls r) (unlocked_after nothing_before ls r nothing_near range (maximal_is_after ls m))
relocked_maximal ls (Some kind) r range m =
    let left = unlocked_after nothing_before ls r nothing_near range (maximal_is_after ls m) in
    maximal_from nothing_before (joined (lock_on kind r) (unlocked ls r)) (joined_after nothing_before (lock_on kind r) (unlocked ls r) nothing_near (omega arith) range left (unlocked_apart (lock_on kind r) ls r refl refl))

locked_or_not : (w : LockKind) (f l byte : ℕ) (k : Option LockKind) → kind_or w f l byte (cleared f l byte k) ≡ kind_or w f l byte k
locked_or_not w f l byte k = grind (arith, nat_tests)

pub relocked_kind : (ls : List OwnLock) (wanted : Option LockKind) (r : ByteRange) (byte : ℕ) → r.first ≤ r.last → IsMaximal ls → kind_at (relocked ls wanted r) byte ≡ replaced wanted r byte (kind_at ls byte)
unfolding relocked
relocked_kind ls None r byte range m = kind_unlocked ls r byte range
relocked_kind ls (Some kind) r byte range m =
    let left = unlocked_after nothing_before ls r nothing_near range (maximal_is_after ls m) in
    kind_joined nothing_before (lock_on kind r) (unlocked ls r) byte nothing_near range left (unlocked_apart (lock_on kind r) ls r refl refl)
    ∙ ap (kind_or kind r.first r.last byte) (kind_unlocked ls r byte range)
    ∙ locked_or_not kind r.first r.last byte (kind_at ls byte)

bound_step : (lo : LockKind → ℕ) (l : OwnLock) (byte : ℕ) (w : LockKind) (k : Option LockKind) (t : Bool) → (nat_le l.first byte && nat_le byte l.last) ≡ t → lo l.kind ≤ l.first → (k ≡ Some w → lo w ≤ byte) → (if t then Some l.kind else k) ≡ Some w → lo w ≤ byte
bound_step lo l byte w k true t h more e =
    let same : l.kind ≡ w = cc in
    let x = and_parts (nat_le l.first byte) (nat_le byte l.last) t in
    omega (arith, ap lo same, leb-true _ _ x.0)
bound_step lo l byte w k false t h more e = more e

-- a byte that has a kind does not lie before the bound for it
kind_bound : (lo : LockKind → ℕ) (ls : List OwnLock) (byte : ℕ) (w : LockKind) → IsNear lo → After lo ls → kind_at ls byte ≡ Some w → lo w ≤ byte
unfolding kind_at
kind_bound lo [] byte w near a e = cc
kind_bound lo (l ∷ ls) byte w near a e = bound_step lo l byte w (kind_at ls byte) _ refl a.0 (kind_bound lo ls byte w near (after_rest lo l ls near a)) e

kind_inside : (l : OwnLock) (ls : List OwnLock) (byte : ℕ) → l.first ≤ byte → byte ≤ l.last → kind_at (l ∷ ls) byte ≡ Some l.kind
unfolding kind_at
kind_inside l ls byte x y = rw (and_from _ _ (le-leb _ _ x) (le-leb _ _ y)) refl

kind_past : (l : OwnLock) (ls : List OwnLock) (byte : ℕ) → l.last < byte → kind_at (l ∷ ls) byte ≡ kind_at ls byte
unfolding kind_at
kind_past l ls byte x = rw (and_right _ _ (lt-leb _ _ x)) refl

none_or : (k : Option LockKind) → ((w : LockKind) → k ≡ Some w → ⊥) → k ≡ None
none_or None h = refl
none_or (Some w) h = absurd (h w refl)

-- locks behind another have no byte up to its last
none_up_to : (l : OwnLock) (ls : List OwnLock) (byte : ℕ) → After (behind l) ls → byte ≤ l.last → kind_at ls byte ≡ None
none_up_to l ls byte a x = none_or (kind_at ls byte) (λ w e. let b : behind l w ≤ byte = kind_bound (behind l) ls byte w (behind_near l) a e in absurd (omega (arith, b, gap_least l.kind w)))

abbrev SameKinds : List OwnLock → List OwnLock → Type 0
SameKinds xs ys = (byte : ℕ) → kind_at xs byte ≡ kind_at ys byte

first_least : (lo : LockKind → ℕ) (x y : OwnLock) (xs ys : List OwnLock) → After lo (x ∷ xs) → After lo (y ∷ ys) → SameKinds (x ∷ xs) (y ∷ ys) → y.first ≤ x.first
first_least lo x y xs ys a b same = kind_bound (λ w. y.first) (y ∷ ys) x.first x.kind (λ v w. omega arith) (omega arith, b.1, b.2) (sym (same x.first) ∙ kind_inside x xs x.first (omega arith) a.1)

last_most : (lo : LockKind → ℕ) (x y : OwnLock) (xs ys : List OwnLock) → After lo (x ∷ xs) → After lo (y ∷ ys) → x.first ≡ y.first → x.kind ≡ y.kind → SameKinds (x ∷ xs) (y ∷ ys) → x.last ≤ y.last
last_most lo x y xs ys a b first kind same = elim (cases_lt y.last x.last) [
  | inl h ↦
      let e : kind_at ys (y.last + 1) ≡ Some x.kind = sym (kind_past y ys (y.last + 1) (omega arith)) ∙ sym (same (y.last + 1)) ∙ kind_inside x xs (y.last + 1) (omega (arith, b.1)) (omega arith) in
      let far : behind y x.kind ≤ y.last + 1 = kind_bound (behind y) ys (y.last + 1) x.kind (behind_near y) b.2 e in
      absurd (omega (arith, far, ap (λ w. gap y.kind w) kind, gap_same y.kind))
  | inr h ↦ h
]

same_lock : (x y : OwnLock) → x.kind ≡ y.kind → x.first ≡ y.first → x.last ≡ y.last → x ≡ y
same_lock x y e f g = ap (λ w. record x { kind = w }) e ∙ ap (λ n. record x { kind = y.kind; first = n }) f ∙ ap (λ n. record y { last = n }) g

tails_same : (x : OwnLock) (xs ys : List OwnLock) → After (behind x) xs → After (behind x) ys → SameKinds (x ∷ xs) (x ∷ ys) → SameKinds xs ys
tails_same x xs ys a b same byte = elim (cases_lt x.last byte) [
  | inl h ↦ sym (kind_past x xs byte h) ∙ same byte ∙ kind_past x ys byte h
  | inr h ↦ none_up_to x xs byte a h ∙ sym (none_up_to x ys byte b h)
]

first_lock : (lo : LockKind → ℕ) (x y : OwnLock) (xs ys : List OwnLock) → After lo (x ∷ xs) → After lo (y ∷ ys) → SameKinds (x ∷ xs) (y ∷ ys) → x ≡ y
first_lock lo x y xs ys a b same =
    let back : SameKinds (y ∷ ys) (x ∷ xs) = λ byte. sym (same byte) in
    let l1 : y.first ≤ x.first = first_least lo x y xs ys a b same in
    let l2 : x.first ≤ y.first = first_least lo y x ys xs b a back in
    let first : x.first ≡ y.first = omega arith in
    let k : Some x.kind ≡ Some y.kind = sym (kind_inside x xs x.first (omega arith) a.1) ∙ same x.first ∙ kind_inside y ys x.first (omega arith) (omega (arith, b.1)) in
    let kind : x.kind ≡ y.kind = cc in
    let m1 : x.last ≤ y.last = last_most lo x y xs ys a b first kind same in
    let m2 : y.last ≤ x.last = last_most lo y x ys xs b a (sym first) (sym kind) back in
    same_lock x y kind first (omega arith)

one_list : (lo : LockKind → ℕ) (xs ys : List OwnLock) → After lo xs → After lo ys → SameKinds xs ys → xs ≡ ys
unfolding kind_at
one_list lo [] [] a b same = refl
one_list lo [] (y ∷ ys) a b same = let e = same y.first ∙ kind_inside y ys y.first (omega arith) b.1 in cc
one_list lo (x ∷ xs) [] a b same = let e = sym (same x.first) ∙ kind_inside x xs x.first (omega arith) a.1 in cc
one_list lo (x ∷ xs) (y ∷ ys) a b same =
    let e : x ≡ y = first_lock lo x y xs ys a b same in
    let b2 : After (behind x) ys = subst (λ z. After (behind z) ys) (sym e) b.2 in
    let same2 : SameKinds (x ∷ xs) (x ∷ ys) = subst (λ z. SameKinds (x ∷ xs) (z ∷ ys)) (sym e) same in
    ap (λ zs. x ∷ zs) (one_list (behind x) xs ys a.2 b2 (tails_same x xs ys a.2 b2 same2)) ∙ ap (λ z. z ∷ ys) e

-- two lists of maximal ranges with the same kind at each byte are one
pub only_maximal : (ls : List OwnLock) → IsMaximal ls → IsOnly ls
only_maximal ls m other n same = one_list nothing_before other ls (maximal_is_after other n) (maximal_is_after ls m) same

pub relocked_only : (ls : List OwnLock) (wanted : Option LockKind) (r : ByteRange) → r.first ≤ r.last → IsMaximal ls → IsOnly (relocked ls wanted r)
relocked_only ls wanted r range m = only_maximal (relocked ls wanted r) (relocked_maximal ls wanted r range m)
