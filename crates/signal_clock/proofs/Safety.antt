-- Sets without SIGKILL and SIGSTOP, and actions whose masks are such.
use Rattle.std.proofs.Common.{◌≡◌, ◌≢◌, ℕ, zero, suc, ◌-◌, ◌<◌, ◌≤◌, ◌==◌, min, max, true, false, inl, inr, List, length, get_or, slice_set, replicate, refl, sym, ap, ◌∙◌, subst, arith}
use Rattle.std.specs.Int.{bit_at}
use Rattle.std.specs.Int.RustNames.{bit_or}
use Rattle.std.proofs.lemmas.Bool.{cases_Bool}
use Rattle.std.proofs.lemmas.Bool.Decides.{nat_tests}
use Rattle.std.proofs.lemmas.List.{get_or-set_same, get_or-set_other}
use Rattle.std.proofs.lemmas.Nat.Bits.{bit_at_and, bit_at_or, bit_at-pow_other}
use Rattle.std.proofs.lemmas.Option.{unwrap_or-slice_get}
use Rattle.kernel_values.specs.declared.signals.Action.{Action}
use Rattle.signal_clock.specs.Held.{AreSafe, HasNeither, action_at, default_action, is_fixed}
use Rattle.signal_clock.specs.Sets.{blockable, only}

unset_min : (n : ℕ) → (min n 0 == 1) ≡ false
unset_min n = grind (arith, nat_tests)

pub blockable_neither : (set : ℕ) → HasNeither (blockable set)
blockable_neither set = (rw (bit_at_and set 0xfffffffffffbfeff 8) (unset_min (bit_at set 8)), rw (bit_at_and set 0xfffffffffffbfeff 18) (unset_min (bit_at set 18)))

either_unset : (a b : ℕ) → (a == 1) ≡ false → (b == 1) ≡ false → (max a b == 1) ≡ false
either_unset a b h k = grind (arith, nat_tests)

pub or_neither : (a b : ℕ) → HasNeither a → HasNeither b → HasNeither (bit_or a b)
or_neither a b h k =
    (rw (bit_at_or a b 8) (either_unset (bit_at a 8) (bit_at b 8) h.0 k.0), rw (bit_at_or a b 18) (either_unset (bit_at a 18) (bit_at b 18) h.1 k.1))

pub only_neither : (signal : ℕ) → 1 ≤ signal → is_fixed signal ≡ false → HasNeither (only signal)
only_neither signal low free =
    let kill : 8 ≢ signal - 1 = λ e. grind (arith, nat_tests) in
    let stop : 18 ≢ signal - 1 = λ e. grind (arith, nat_tests) in
    (rw (bit_at-pow_other (signal - 1) 8 kill) refl, rw (bit_at-pow_other (signal - 1) 18 stop) refl)

-- the action of a signal after one was set
at_is : (actions : List Action) (signal : ℕ) → action_at actions signal ≡ get_or actions (signal - 1) default_action
at_is actions signal = unwrap_or-slice_get actions (signal - 1) default_action

at_set_same : (actions : List Action) (i signal : ℕ) (new : Action) → signal - 1 ≡ i → i < length actions → action_at (slice_set actions i new) signal ≡ new
at_set_same actions i signal new same within =
    at_is (slice_set actions i new) signal ∙ (ap (λ (k : ℕ). get_or (slice_set actions i new) k default_action) same ∙ get_or-set_same actions i new default_action within)

at_set_other : (actions : List Action) (i signal : ℕ) (new : Action) → signal - 1 ≢ i → action_at (slice_set actions i new) signal ≡ action_at actions signal
at_set_other actions i signal new other =
    at_is (slice_set actions i new) signal ∙ (get_or-set_other actions i (signal - 1) new default_action other ∙ sym (at_is actions signal))

same_place : (n : ℕ) (m : ℕ) → (n == m) ≡ true → n ≡ m
same_place n m h = grind (arith, nat_tests)

other_place : (n : ℕ) (m : ℕ) → (n == m) ≡ false → n ≢ m
other_place n m h = λ e. grind (arith, nat_tests)

pub safe_set : (actions : List Action) (signal : ℕ) (new : Action) → 1 ≤ signal → signal ≤ length actions → is_fixed signal ≡ false → HasNeither new.mask.bits
    → AreSafe actions → AreSafe (slice_set actions (signal - 1) new)
safe_set actions signal new low high free neither safe = (λ s. masks s, fixed 9 (grind (arith, nat_tests)) ∙ safe.1, fixed 19 (grind (arith, nat_tests)) ∙ safe.2)
  where
    masks : (s : ℕ) → HasNeither (action_at (slice_set actions (signal - 1) new) s).mask.bits
    masks s = elim (cases_Bool ((s - 1) == (signal - 1))) [
      | inl same ↦ subst (λ (a : Action). HasNeither a.mask.bits) (sym (at_set_same actions (signal - 1) s new (same_place (s - 1) (signal - 1) same) (omega arith))) neither
      | inr other ↦ subst (λ (a : Action). HasNeither a.mask.bits) (sym (at_set_other actions (signal - 1) s new (other_place (s - 1) (signal - 1) other))) (safe.0 s)
    ]

    fixed : (s : ℕ) → s - 1 ≢ signal - 1 → action_at (slice_set actions (signal - 1) new) s ≡ action_at actions s
    fixed s other = at_set_other actions (signal - 1) s new other

pub safe_mask : (actions : List Action) (signal : ℕ) → AreSafe actions → HasNeither (action_at actions signal).mask.bits
safe_mask actions signal safe = safe.0 signal

pub safe_fixed : (actions : List Action) (signal : ℕ) → AreSafe actions → is_fixed signal ≡ true → action_at actions signal ≡ default_action
safe_fixed actions signal safe fixed = elim (cases_Bool (signal == 9)) [
  | inl kill ↦ ap (action_at actions) (same_place signal 9 kill) ∙ safe.1
  | inr other ↦ let stop : (signal == 19) ≡ true = rw other at fixed in ap (action_at actions) (same_place signal 19 stop) ∙ safe.2
]

fresh_at : (n i : ℕ) → get_or (replicate n default_action) i default_action ≡ default_action
fresh_at zero i = refl
fresh_at (suc n) zero = refl
fresh_at (suc n) (suc i) = fresh_at n i

-- at the start
pub fresh_safe : AreSafe (replicate 64 default_action)
fresh_safe = (λ s. subst (λ (a : Action). HasNeither a.mask.bits) (sym (at_is (replicate 64 default_action) s ∙ fresh_at 64 (s - 1))) (refl, refl), refl, refl)
