-- Descriptors given one after another.
use Rattle.std.proofs.Common.{◌≡◌, ◌∙◌, ℕ, zero, suc, ◌+◌, ◌-◌, ◌<◌, ◌≤◌, Bool, true, false, List, [], ◌∷◌, ◌++◌, length, append_assoc, append-nil, Result, Ok, Err, refl, ap, sym, arith}
use Rattle.kernel_values.specs.declared.errno.Errno.{Errno}
use Rattle.open_files.specs.Descriptors.{with_descriptor}
use Rattle.open_files.specs.Numbers.{free_number}
use Rattle.open_files.specs.declared.state.OpenFiles.{OpenFiles}
use Rattle.message_rights.specs.Giving.{GivenState, GivesNone, given, with_number}

-- descriptors in front of those that are given
abbrev pub behind : List ℕ → GivenState → GivenState
behind numbers g = record g { numbers = numbers ++ g.numbers }

-- where there is no room, or no open file
pub no_room : (limit : ℕ) (cloexec : Bool) (s : OpenFiles) (rights : List ℕ) → given 0 limit cloexec s rights ≡ record { numbers = []; dropped = rights; after = s }
unfolding given
no_room limit cloexec s [] = refl
no_room limit cloexec s (serial ∷ others) = refl

pub none_to_give : (room limit : ℕ) (cloexec : Bool) (s : OpenFiles) → given room limit cloexec s [] ≡ record { numbers = []; dropped = []; after = s }
unfolding given
none_to_give zero limit cloexec s = refl
none_to_give (suc room) limit cloexec s = refl

-- where no number is free
pub none_free : (room limit : ℕ) (rights : List ℕ) (s : OpenFiles) (e : Errno) → free_number s 0 limit ≡ Err e → GivesNone room limit s rights
unfolding given
none_free zero limit [] s e h cloexec = refl
none_free zero limit (serial ∷ others) s e h cloexec = refl
none_free (suc room) limit [] s e h cloexec = refl
none_free (suc room) limit (serial ∷ others) s e h cloexec = rw h refl

pub no_room_at_all : (limit : ℕ) (rights : List ℕ) (s : OpenFiles) → GivesNone 0 limit s rights
no_room_at_all limit rights s cloexec = no_room limit cloexec s rights

pub nothing_to_give : (room limit : ℕ) (s : OpenFiles) → GivesNone room limit s []
nothing_to_give room limit s cloexec = none_to_give room limit cloexec s

pub nothing_in_front : (room limit : ℕ) (rights : List ℕ) (s : OpenFiles) → (0 < length rights → false ≡ true) → GivesNone room limit s rights
nothing_in_front room limit [] s h = nothing_to_give room limit s
nothing_in_front room limit (serial ∷ others) s h = absurd (let clash : false ≡ true = h (omega arith) in cc)

-- one descriptor more
pub one_given : (room limit serial n : ℕ) (numbers others : List ℕ) (cloexec : Bool) (s : OpenFiles) → 0 < room → free_number s 0 limit ≡ Ok n
    → behind numbers (given room limit cloexec s (serial ∷ others)) ≡ behind (numbers ++ n ∷ []) (given (room - 1) limit cloexec (with_descriptor s n (record { serial = serial; cloexec = cloexec })) others)
unfolding given
one_given zero limit serial n numbers others cloexec s some h = absurd (omega (arith, some))
one_given (suc room) limit serial n numbers others cloexec s some h =
    let less : suc room - 1 ≡ room = omega arith in
    let t : OpenFiles = with_descriptor s n (record { serial = serial; cloexec = cloexec }) in
    let g : GivenState = given room limit cloexec t others in
    rw (h, less) (ap (λ (l : List ℕ). record g { numbers = l }) (sym (append_assoc numbers (n ∷ []) g.numbers)))
