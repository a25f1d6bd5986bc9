-- The items of actions and of signals that wait, one by one.
use Rattle.std.proofs.Common.{◌≡◌, ℕ, ◌+◌, ◌<◌, ◌≤◌, ◌==◌, true, false, List, [], ◌∷◌, length, drop, map, get_or, refl, arith, drop-cons, add-one}
use Rattle.std.proofs.lemmas.Bool.Decides.{nat_tests}
use Rattle.std.proofs.lemmas.Grind.{common_steps}
use Rattle.kernel_values.specs.declared.signals.Action.{Action}
use Rattle.kernel_values.specs.declared.signals.SigInfo.{SigInfo}
use Rattle.kernel_values.specs.declared.items.StateItem.TheVariants as item
use Rattle.signal_clock.specs.Items.{action_items, pending_item}

pub action_end : (actions : List Action) (n : ℕ) → length actions ≤ n → action_items n (drop n actions) ≡ []
unfolding action_items
action_end actions n h = let e : drop n actions ≡ [] = grind (arith, common_steps) in rw e refl

first_left : (actions : List Action) (n : ℕ) (d : Action) → n < length actions → drop n actions ≡ get_or actions n d ∷ drop (n + 1) actions
first_left actions n d h = rw (add-one, drop-cons actions n d)

pub action_next : (actions : List Action) (n : ℕ) (d : Action) → n < length actions → (get_or actions n d).handler ≡ 0 → action_items (n + 1) (drop (n + 1) actions) ≡ action_items n (drop n actions)
unfolding action_items
action_next actions n d h none =
    let test : ((get_or actions n d).handler == 0) ≡ true = grind (arith, nat_tests) in
    rw (first_left actions n d h, test) refl

pub action_here : (actions : List Action) (n : ℕ) (d : Action) → n < length actions → 0 < (get_or actions n d).handler
    → action_items n (drop n actions) ≡ item.Action (record { signal = n + 1; action = get_or actions n d }) ∷ action_items (n + 1) (drop (n + 1) actions)
unfolding action_items
action_here actions n d h some =
    let test : ((get_or actions n d).handler == 0) ≡ false = grind (arith, nat_tests) in
    rw (first_left actions n d h, test) refl

pub pending_end : (ws : List SigInfo) (n : ℕ) → length ws ≤ n → map pending_item (drop n ws) ≡ []
pending_end ws n h = let e : drop n ws ≡ [] = grind (arith, common_steps) in rw e refl

pub pending_here : (ws : List SigInfo) (n : ℕ) (d : SigInfo) → n < length ws → map pending_item (drop n ws) ≡ item.Pending (get_or ws n d) ∷ map pending_item (drop (n + 1) ws)
pending_here ws n d h = let e : drop n ws ≡ get_or ws n d ∷ drop (n + 1) ws = rw (add-one, drop-cons ws n d) in rw e refl
