-- Descriptors for the open files that come with what is received.
use Rattle.std.specs.Prelude.{◌≡◌, ◌<◌, ℕ, zero, suc, Bool, List, [], ◌∷◌, slice_get, Some, Result, Ok, Err}
use Rattle.kernel_values.specs.declared.errno.Errno.{Errno}
use Rattle.open_files.specs.Descriptors.{with_descriptor}
use Rattle.open_files.specs.Numbers.{free_number}
use Rattle.open_files.specs.declared.state.OpenFiles.{OpenFiles}

-- the descriptors, the open files that got none, and what is open then
pub record GivenState : Type 0 where
  pub numbers : List ℕ
  pub dropped : List ℕ
  pub after : OpenFiles

-- one descriptor more, in front
abbrev pub with_number : ℕ → GivenState → GivenState
with_number n g = record g { numbers = n ∷ g.numbers }

-- a descriptor for the first of some open files where a number is free, and then for the others
abbrev pub given_at : OpenFiles → List ℕ → Result ℕ Errno → (ℕ → GivenState) → GivenState
given_at s rights (Err e) others = record { numbers = []; dropped = rights; after = s }
given_at s rights (Ok n) others = with_number n (others n)

-- Each gets the lowest free number below the limit, in order, as many as there is room to tell of.
unfoldable pub given : ℕ → ℕ → Bool → OpenFiles → List ℕ → GivenState
given room limit cloexec s [] = record { numbers = []; dropped = []; after = s }
given zero limit cloexec s (serial ∷ others) = record { numbers = []; dropped = serial ∷ others; after = s }
given (suc room) limit cloexec s (serial ∷ others) =
    given_at s (serial ∷ others) (free_number s 0 limit) (λ n. given room limit cloexec (with_descriptor s n (record { serial = serial; cloexec = cloexec })) others)

-- none is given a descriptor
abbrev pub GivesNone : ℕ → ℕ → OpenFiles → List ℕ → Type 0
GivesNone room limit s rights = (cloexec : Bool) → given room limit cloexec s rights ≡ record { numbers = []; dropped = rights; after = s }

-- the first is given this number
pub record GivesOne (room limit : ℕ) (s : OpenFiles) (rights : List ℕ) (n : ℕ × ℕ) : Type 0 where
  pub roomy : 0 < room
  pub first : slice_get rights 0 ≡ Some n.0
  pub free : free_number s 0 limit ≡ Ok n.1
