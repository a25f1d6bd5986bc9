-- Ascending locks above a bound for each kind: what unlocking and joining make of them.
use Rattle.std.proofs.Common.{◌≡◌, ℕ, ◌+◌, ◌-◌, ◌<◌, ◌≤◌, min, max, ◌==◌, ◌&&◌, not, nat_lt, Bool, true, false, if◌then◌else◌, List, [], ◌∷◌, ◌++◌, refl, ap, arith, inl, inr}
use Rattle.std.proofs.lemmas.Bool.{cases_lt, eqb-true, eqb-false, ltb-true, ltb-false}
use Rattle.record_locks.specs.Own.{is_followed_by, is_same_kind, joined, unlocked}
use Rattle.record_locks.specs.declared.state.ByteRange.{ByteRange}
use Rattle.record_locks.specs.declared.state.LockKind.{LockKind}
use Rattle.record_locks.specs.declared.state.LockKind.TheVariants.{Read, Write}
use Rattle.record_locks.specs.declared.state.OwnLock.{OwnLock}

-- how far behind a lock's last byte one of another kind may begin, and how far one of its own
abbrev pub gap : LockKind → LockKind → ℕ
gap Write Write = 2
gap Write Read = 1
gap Read Write = 1
gap Read Read = 2

pub gap_least : (v w : LockKind) → 1 ≤ gap v w
gap_least Write Write = omega arith
gap_least Write Read = omega arith
gap_least Read Write = omega arith
gap_least Read Read = omega arith

pub gap_most : (v w : LockKind) → gap v w ≤ 2
gap_most Write Write = omega arith
gap_most Write Read = omega arith
gap_most Read Write = omega arith
gap_most Read Read = omega arith

pub gap_same : (v : LockKind) → gap v v ≡ 2
gap_same Write = refl
gap_same Read = refl

-- the first byte of a lock of each kind behind a lock
abbrev pub behind : OwnLock → LockKind → ℕ
behind l w = l.last + gap l.kind w

-- a bound for each kind, no two of which are more than 1 apart
abbrev pub IsNear : (LockKind → ℕ) → Type 0
IsNear lo = (v w : LockKind) → lo v ≤ lo w + 1

pub behind_near : (l : OwnLock) → IsNear (behind l)
behind_near l v w = omega (arith, gap_most l.kind v, gap_least l.kind w)

-- ascending locks, none of which begins before the bound for its kind or touches one of its kind
abbrev pub After : (LockKind → ℕ) → List OwnLock → Type 0
After lo [] = Unit {0}
After lo (l ∷ ls) = (lo l.kind ≤ l.first) × (l.first ≤ l.last) × After (behind l) ls

pub weaker : (lo hi : LockKind → ℕ) (ls : List OwnLock) → ((w : LockKind) → lo w ≤ hi w) → After hi ls → After lo ls
weaker lo hi [] h a = tt
weaker lo hi (l ∷ ls) h a = (omega (arith, h l.kind, a.0), a.1, a.2)

pub behind_later : (lo : LockKind → ℕ) (l : OwnLock) → IsNear lo → lo l.kind ≤ l.first → l.first ≤ l.last → (w : LockKind) → lo w ≤ behind l w
behind_later lo l near h k w = omega (arith, near w l.kind, gap_least l.kind w)

-- what is behind a lock stays above the bounds without it
pub after_rest : (lo : LockKind → ℕ) (l : OwnLock) (ls : List OwnLock) → IsNear lo → After lo (l ∷ ls) → After lo ls
after_rest lo l ls near a = weaker lo (behind l) ls (behind_later lo l near a.0 a.1) a.2

-- the parts of a lock, and then locks behind it
parts_after : (lo : LockKind → ℕ) (l : OwnLock) (r : ByteRange) (rest : List OwnLock) (b c : Bool) → nat_lt l.first r.first ≡ b → nat_lt r.last l.last ≡ c
    → IsNear lo → r.first ≤ r.last → lo l.kind ≤ l.first → l.first ≤ l.last → After (behind l) rest
    → After lo ((if b then record l { last = min l.last (r.first - 1) } ∷ [] else []) ++ ((if c then record l { first = max l.first (r.last + 1) } ∷ [] else []) ++ rest))
parts_after lo l r rest true true b c near range h k a =
    let x : l.first < r.first = ltb-true _ _ b in
    let y : r.last < l.last = ltb-true _ _ c in
    (h, omega arith, (omega (arith, gap_most l.kind l.kind), omega arith, a))
parts_after lo l r rest true false b c near range h k a =
    let x : l.first < r.first = ltb-true _ _ b in
    (h, omega arith, weaker (behind (record l { last = min l.last (r.first - 1) })) (behind l) rest (λ w. omega arith) a)
parts_after lo l r rest false true b c near range h k a =
    let y : r.last < l.last = ltb-true _ _ c in
    (omega arith, omega arith, a)
parts_after lo l r rest false false b c near range h k a = weaker lo (behind l) rest (behind_later lo l near h k) a

pub unlocked_after : (lo : LockKind → ℕ) (ls : List OwnLock) (r : ByteRange) → IsNear lo → r.first ≤ r.last → After lo ls → After lo (unlocked ls r)
unfolding unlocked
unlocked_after lo [] r near range a = tt
unlocked_after lo (l ∷ ls) r near range a = parts_after lo l r (unlocked ls r) _ _ refl refl near range a.0 a.1 (unlocked_after (behind l) ls r (behind_near l) range a.2)

-- locks that have none of a lock's bytes
abbrev pub Apart : OwnLock → List OwnLock → Type 0
Apart new [] = Unit {0}
Apart new (l ∷ ls) = (new.first ≤ l.last → new.last < l.first) × Apart new ls

parts_apart : (new l : OwnLock) (r : ByteRange) (rest : List OwnLock) (b c : Bool) → nat_lt l.first r.first ≡ b → nat_lt r.last l.last ≡ c → new.first ≡ r.first → new.last ≡ r.last → Apart new rest
    → Apart new ((if b then record l { last = min l.last (r.first - 1) } ∷ [] else []) ++ ((if c then record l { first = max l.first (r.last + 1) } ∷ [] else []) ++ rest))
parts_apart new l r rest true true b c e f p =
    let x : l.first < r.first = ltb-true _ _ b in
    (λ h. absurd (omega arith), ((λ h. omega arith), p))
parts_apart new l r rest true false b c e f p =
    let x : l.first < r.first = ltb-true _ _ b in
    (λ h. absurd (omega arith), p)
parts_apart new l r rest false true b c e f p = ((λ h. omega arith), p)
parts_apart new l r rest false false b c e f p = p

-- what is left without some bytes has none of them
pub unlocked_apart : (new : OwnLock) (ls : List OwnLock) (r : ByteRange) → new.first ≡ r.first → new.last ≡ r.last → Apart new (unlocked ls r)
unfolding unlocked
unlocked_apart new [] r e f = tt
unlocked_apart new (l ∷ ls) r e f = parts_apart new l r (unlocked ls r) _ _ refl refl e f (unlocked_apart new ls r e f)

-- the same lock from an earlier byte on, where the others lie behind its first
pub apart_down : (n : ℕ) (new : OwnLock) (lo : LockKind → ℕ) (ls : List OwnLock) → After lo ls → ((w : LockKind) → new.first ≤ lo w) → Apart new ls → Apart (record new { first = n }) ls
apart_down n new lo [] a h p = tt
apart_down n new lo (m ∷ ms) a h p = ((λ _. p.0 (omega (arith, h m.kind, a.0, a.1))), apart_down n new (behind m) ms a.2 (λ w. omega (arith, h m.kind, a.0, a.1)) p.1)

-- what a test of two kinds and two bytes tells
followed_parts : (v w : LockKind) (a b : ℕ) → (is_same_kind v w && (a == b)) ≡ true → (v ≡ w) × (a ≡ b)
followed_parts Write Write a b h = (refl, eqb-true a b h)
followed_parts Write Read a b h = cc
followed_parts Read Write a b h = cc
followed_parts Read Read a b h = (refl, eqb-true a b h)

far_parts : (v w : LockKind) (a b : ℕ) → (is_same_kind v w && (a + 1 == b)) ≡ false → a < b → a + gap v w ≤ b
far_parts Write Write a b h k = let x : (a + 1 ≡ b → ⊥) = eqb-false _ _ h in omega arith
far_parts Write Read a b h k = omega arith
far_parts Read Write a b h k = omega arith
far_parts Read Read a b h k = let x : (a + 1 ≡ b → ⊥) = eqb-false _ _ h in omega arith

pub followed : (l m : OwnLock) → is_followed_by l m ≡ true → (l.kind ≡ m.kind) × (l.last + 1 ≡ m.first)
followed l m h = followed_parts l.kind m.kind (l.last + 1) m.first h

pub far : (l m : OwnLock) → is_followed_by l m ≡ false → l.last < m.first → behind l m.kind ≤ m.first
far l m h k = far_parts l.kind m.kind l.last m.first h k

by_tests : (P : List OwnLock → Type 0) (b c d : Bool) (xs ys zs ws : List OwnLock) → (b ≡ true → P xs) → (b ≡ false → c ≡ true → P ys) → (b ≡ false → c ≡ false → d ≡ true → P zs) → (b ≡ false → c ≡ false → d ≡ false → P ws) → P (if b then xs else (if c then ys else (if d then zs else ws)))
by_tests P true c d xs ys zs ws f g h k = f refl
by_tests P false true d xs ys zs ws f g h k = g refl refl
by_tests P false false true xs ys zs ws f g h k = h refl refl refl
by_tests P false false false xs ys zs ws f g h k = k refl refl refl

-- the four ways in which a lock comes among others
pub joined_by : (P : List OwnLock → Type 0) (new l : OwnLock) (ls : List OwnLock)
    → (is_followed_by l new ≡ true → P (joined (record new { first = l.first }) ls))
    → (is_followed_by l new ≡ false → is_followed_by new l ≡ true → P (record new { last = l.last } ∷ ls))
    → (is_followed_by l new ≡ false → is_followed_by new l ≡ false → nat_lt l.first new.first ≡ true → P (l ∷ joined new ls))
    → (is_followed_by l new ≡ false → is_followed_by new l ≡ false → nat_lt l.first new.first ≡ false → P (new ∷ l ∷ ls))
    → P (joined new (l ∷ ls))
unfolding joined
joined_by P new l ls f g h k = by_tests P (is_followed_by l new) (is_followed_by new l) (nat_lt l.first new.first) _ _ _ _ f g h k

pub joined_none : (new : OwnLock) → joined new [] ≡ new ∷ []
unfolding joined
joined_none new = refl

-- a lock that touches one of its kind before it lies apart from those behind that one
pub apart_joined : (new l : OwnLock) (ls : List OwnLock) → l.last + 1 ≡ new.first → After (behind l) ls → Apart new ls → Apart (record new { first = l.first }) ls
apart_joined new l ls e a p = apart_down l.first new (behind l) ls a (λ w. omega (arith, gap_least l.kind w)) p

-- a lock apart from one that begins before it lies behind that one
before_new : (new l : OwnLock) → (new.first ≤ l.last → new.last < l.first) → new.first ≤ new.last → l.first < new.first → l.last < new.first
before_new new l p k x = elim (cases_lt l.last new.first) [
  | inl y ↦ y
  | inr y ↦ absurd (omega (arith, p y))
]

same_bound : (l : OwnLock) (v w : LockKind) → v ≡ w → (u : LockKind) → l.last + gap v u ≤ l.last + gap w u
same_bound l v w e u = omega (arith, ap (λ k. gap k u) e)

pub joined_after : (lo : LockKind → ℕ) (new : OwnLock) (ls : List OwnLock) → IsNear lo → lo new.kind ≤ new.first → new.first ≤ new.last → After lo ls → Apart new ls → After lo (joined new ls)
unfolding joined
joined_after lo new [] near h k a p = (h, k, tt)
joined_after lo new (l ∷ ls) near h k a p =
    joined_by (After lo) new l ls
    (λ b. let f = followed l new b in
    joined_after lo (record new { first = l.first }) ls near (omega (arith, ap lo f.0, a.0)) (omega (arith, a.1, f.1)) (after_rest lo l ls near a) (apart_joined new l ls f.1 a.2 p.1))
    (λ b c. let f = followed new l c in
    (h, omega (arith, a.1, f.1), weaker (behind (record new { last = l.last })) (behind l) ls (same_bound l new.kind l.kind f.0) a.2))
    (λ b c d. let x : l.first < new.first = ltb-true _ _ d in
    let y : l.last < new.first = before_new new l p.0 k x in
    (a.0, a.1, joined_after (behind l) new ls (behind_near l) (far l new b y) k a.2 p.1))
    (λ b c d. let x : new.first ≤ l.first = ltb-false _ _ d in
    let y : new.last < l.first = p.0 (omega (arith, a.1)) in
    (h, k, (far new l c y, a.1, a.2)))
