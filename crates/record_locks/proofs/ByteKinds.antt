-- The kind at a byte, when locks are removed from bytes and when one comes among others.
use Rattle.std.proofs.Common.{◌≡◌, ℕ, ◌+◌, ◌-◌, ◌<◌, ◌≤◌, min, max, ◌&&◌, nat_le, nat_lt, Bool, true, false, if◌then◌else◌, List, [], ◌∷◌, ◌++◌, Option, Some, None, refl, ap, ◌∙◌, arith}
use Rattle.std.proofs.lemmas.Bool.{ltb-true, ltb-false}
use Rattle.std.proofs.lemmas.Bool.Decides.{nat_tests}
use Rattle.record_locks.specs.Own.{joined, kind_at, unlocked}
use Rattle.record_locks.specs.declared.state.ByteRange.{ByteRange}
use Rattle.record_locks.specs.declared.state.LockKind.{LockKind}
use Rattle.record_locks.specs.declared.state.OwnLock.{OwnLock}
use Rattle.record_locks.proofs.Maximal.{After, Apart, IsNear, after_rest, apart_joined, behind, behind_near, followed, joined_by}

-- the kind at a byte of a lock, and otherwise another
abbrev pub kind_or : LockKind → ℕ → ℕ → ℕ → Option LockKind → Option LockKind
kind_or kind first last byte k = if nat_le first byte && nat_le byte last then Some kind else k

-- the kind at a byte outside of a range, and none in it
abbrev pub cleared : ℕ → ℕ → ℕ → Option LockKind → Option LockKind
cleared first last byte k = if nat_le first byte && nat_le byte last then None else k

kinds_both : (w : LockKind) (f l rf rl byte : ℕ) (k : Option LockKind) → f < rf → rl < l → rf ≤ rl → kind_or w f (min l (rf - 1)) byte (kind_or w (max f (rl + 1)) l byte (cleared rf rl byte k)) ≡ cleared rf rl byte (kind_or w f l byte k)
kinds_both w f l rf rl byte k x y z = grind (arith, nat_tests)

kinds_before : (w : LockKind) (f l rf rl byte : ℕ) (k : Option LockKind) → f < rf → l ≤ rl → rf ≤ rl → kind_or w f (min l (rf - 1)) byte (cleared rf rl byte k) ≡ cleared rf rl byte (kind_or w f l byte k)
kinds_before w f l rf rl byte k x y z = grind (arith, nat_tests)

kinds_behind : (w : LockKind) (f l rf rl byte : ℕ) (k : Option LockKind) → rf ≤ f → rl < l → rf ≤ rl → kind_or w (max f (rl + 1)) l byte (cleared rf rl byte k) ≡ cleared rf rl byte (kind_or w f l byte k)
kinds_behind w f l rf rl byte k x y z = grind (arith, nat_tests)

kinds_none : (w : LockKind) (f l rf rl byte : ℕ) (k : Option LockKind) → rf ≤ f → l ≤ rl → cleared rf rl byte k ≡ cleared rf rl byte (kind_or w f l byte k)
kinds_none w f l rf rl byte k x y = grind (arith, nat_tests)

parts_kind : (l : OwnLock) (r : ByteRange) (ls rest : List OwnLock) (byte : ℕ) (b c : Bool) → nat_lt l.first r.first ≡ b → nat_lt r.last l.last ≡ c → r.first ≤ r.last
    → kind_at rest byte ≡ cleared r.first r.last byte (kind_at ls byte)
    → kind_at ((if b then record l { last = min l.last (r.first - 1) } ∷ [] else []) ++ ((if c then record l { first = max l.first (r.last + 1) } ∷ [] else []) ++ rest)) byte ≡ cleared r.first r.last byte (kind_or l.kind l.first l.last byte (kind_at ls byte))
unfolding kind_at
parts_kind l r ls rest byte true true b c range e = rw e (kinds_both l.kind l.first l.last r.first r.last byte (kind_at ls byte) (ltb-true _ _ b) (ltb-true _ _ c) range)
parts_kind l r ls rest byte true false b c range e = rw e (kinds_before l.kind l.first l.last r.first r.last byte (kind_at ls byte) (ltb-true _ _ b) (ltb-false _ _ c) range)
parts_kind l r ls rest byte false true b c range e = rw e (kinds_behind l.kind l.first l.last r.first r.last byte (kind_at ls byte) (ltb-false _ _ b) (ltb-true _ _ c) range)
parts_kind l r ls rest byte false false b c range e = rw e (kinds_none l.kind l.first l.last r.first r.last byte (kind_at ls byte) (ltb-false _ _ b) (ltb-false _ _ c))

kind_cleared_none : (f l byte : ℕ) → None ≡ cleared f l byte None
kind_cleared_none f l byte = grind (arith, nat_tests)

pub kind_unlocked : (ls : List OwnLock) (r : ByteRange) (byte : ℕ) → r.first ≤ r.last → kind_at (unlocked ls r) byte ≡ cleared r.first r.last byte (kind_at ls byte)
unfolding unlocked kind_at
kind_unlocked [] r byte range = kind_cleared_none r.first r.last byte
kind_unlocked (l ∷ ls) r byte range = parts_kind l r ls (unlocked ls r) byte _ _ refl refl range (kind_unlocked ls r byte range)

-- one lock of a kind in the place of two that touch
kinds_touch : (v w : LockKind) (f l g m byte : ℕ) (k : Option LockKind) → v ≡ w → l + 1 ≡ g → f ≤ l → g ≤ m → kind_or w f m byte k ≡ kind_or w g m byte (kind_or v f l byte k)
kinds_touch v w f l g m byte k e t x y = grind (arith, nat_tests)

kinds_touch_behind : (v w : LockKind) (f l g m byte : ℕ) (k : Option LockKind) → v ≡ w → l + 1 ≡ g → f ≤ l → g ≤ m → kind_or v f m byte k ≡ kind_or v f l byte (kind_or w g m byte k)
kinds_touch_behind v w f l g m byte k e t x y = grind (arith, nat_tests)

-- two locks that have no byte in common, in either order
kinds_swap : (v w : LockKind) (f l g m byte : ℕ) (k : Option LockKind) → (g ≤ l → m < f) → g ≤ m → f < g → kind_or v f l byte (kind_or w g m byte k) ≡ kind_or w g m byte (kind_or v f l byte k)
kinds_swap v w f l g m byte k apart x y = grind (arith, nat_tests)

pub kind_joined : (lo : LockKind → ℕ) (new : OwnLock) (ls : List OwnLock) (byte : ℕ) → IsNear lo → new.first ≤ new.last → After lo ls → Apart new ls → kind_at (joined new ls) byte ≡ kind_or new.kind new.first new.last byte (kind_at ls byte)
unfolding joined kind_at
kind_joined lo new [] byte near k a p = refl
kind_joined lo new (l ∷ ls) byte near k a p =
    joined_by (λ xs. kind_at xs byte ≡ kind_or new.kind new.first new.last byte (kind_or l.kind l.first l.last byte (kind_at ls byte))) new l ls
    (λ b. let f = followed l new b in
    kind_joined lo (record new { first = l.first }) ls byte near (omega (arith, a.1, f.1)) (after_rest lo l ls near a) (apart_joined new l ls f.1 a.2 p.1)
    ∙ kinds_touch l.kind new.kind l.first l.last new.first new.last byte (kind_at ls byte) f.0 f.1 a.1 k)
    (λ b c. let f = followed new l c in
    kinds_touch_behind new.kind l.kind new.first new.last l.first l.last byte (kind_at ls byte) f.0 f.1 k a.1)
    (λ b c d. ap (kind_or l.kind l.first l.last byte) (kind_joined (behind l) new ls byte (behind_near l) k a.2 p.1)
    ∙ kinds_swap l.kind new.kind l.first l.last new.first new.last byte (kind_at ls byte) p.0 k (ltb-true _ _ d))
    (λ b c d. refl)
