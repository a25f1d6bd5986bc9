-- A process's own locks on one file: maximal ranges of one kind, ascending.
use Rattle.std.specs.Prelude.{◌≡◌, ℕ, ◌+◌, ◌-◌, min, max, ◌==◌, ◌&&◌, not, nat_le, nat_lt, Bool, true, false, IsTrue, if◌then◌else◌, List, [], ◌∷◌, ◌++◌, Option, Some, None}
use Rattle.record_locks.specs.declared.state.ByteRange.{ByteRange}
use Rattle.record_locks.specs.declared.state.LockKind.{LockKind}
use Rattle.record_locks.specs.declared.state.LockKind.TheVariants.{Read, Write}
use Rattle.record_locks.specs.declared.state.OwnLock.{OwnLock}

-- the part of a lock before a byte
abbrev pub part_before : OwnLock → ℕ → List OwnLock
part_before l first = if nat_lt l.first first then record l { last = min l.last (first - 1) } ∷ [] else []

-- the part of a lock behind a byte
abbrev pub part_behind : OwnLock → ℕ → List OwnLock
part_behind l last = if nat_lt last l.last then record l { first = max l.first (last + 1) } ∷ [] else []

-- the locks without those on some bytes
unfoldable pub unlocked : List OwnLock → ByteRange → List OwnLock
unlocked [] r = []
unlocked (l ∷ ls) r = part_before l r.first ++ (part_behind l r.last ++ unlocked ls r)

abbrev pub is_same_kind : LockKind → LockKind → Bool
is_same_kind Read Read = true
is_same_kind Read Write = false
is_same_kind Write Read = false
is_same_kind Write Write = true

-- a lock of the same kind begins right behind another
abbrev pub is_followed_by : OwnLock → OwnLock → Bool
is_followed_by l m = is_same_kind l.kind m.kind && (l.last + 1 == m.first)

-- a lock among ascending others that have none of its bytes, in one with those of its kind that it touches
unfoldable pub joined : OwnLock → List OwnLock → List OwnLock
joined new [] = new ∷ []
joined new (l ∷ ls) =
    if is_followed_by l new then joined (record new { first = l.first }) ls
    else (if is_followed_by new l then record new { last = l.last } ∷ ls
    else (if nat_lt l.first new.first then l ∷ joined new ls else new ∷ l ∷ ls))

-- the locks where some bytes have another kind, or none
unfoldable pub relocked : List OwnLock → Option LockKind → ByteRange → List OwnLock
relocked ls None r = unlocked ls r
relocked ls (Some kind) r = joined (record { kind = kind; first = r.first; last = r.last }) (unlocked ls r)

-- the kind of the lock on a byte, if there is one
unfoldable pub kind_at : List OwnLock → ℕ → Option LockKind
kind_at [] byte = None
kind_at (l ∷ ls) byte = if nat_le l.first byte && nat_le byte l.last then Some l.kind else kind_at ls byte

-- bytes of a range have the kind wanted, and all others theirs
abbrev pub replaced : Option LockKind → ByteRange → ℕ → Option LockKind → Option LockKind
replaced wanted r byte old = if nat_le r.first byte && nat_le byte r.last then wanted else old

-- ascending ranges of at least one byte, of which no two of one kind touch
unfoldable pub are_maximal : List OwnLock → Bool
are_maximal [] = true
are_maximal (l ∷ []) = nat_le l.first l.last
are_maximal (l ∷ (m ∷ ls)) = nat_le l.first l.last && (nat_lt l.last m.first && (not (is_followed_by l m) && are_maximal (m ∷ ls)))

abbrev pub IsMaximal : List OwnLock → Type 0
IsMaximal ls = IsTrue (are_maximal ls)

-- no other list of maximal ranges gives each byte the same kind
abbrev pub IsOnly : List OwnLock → Type 0
IsOnly ls = (other : List OwnLock) → IsMaximal other → ((byte : ℕ) → kind_at other byte ≡ kind_at ls byte) → other ≡ ls
