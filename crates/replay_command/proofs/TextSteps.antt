-- One turn and the end of each loop that writes text.
use Rattle.std.proofs.Common.{◌≡◌, ℕ, List, [], ◌∷◌, ◌++◌, ◌||◌, not, Bool, sym, ◌∙◌, append_assoc}
use Rattle.std.proofs.lemmas.List.{append-nil}
use Rattle.kernel_values.specs.declared.abi.AbiKind.{AbiKind}
use Rattle.kernel_values.specs.declared.items.StateItem.{StateItem}
use Rattle.report_text.specs.Items.{is_front, item_text}
use Rattle.report_text.specs.Report.{change_text, changes_text}
use Rattle.replay_command.specs.StateText.{items_text, peak_before}

pub changes_go : (at : ℕ) (bytes out after all : List ℕ) (runs rest : List (ℕ × List ℕ)) → runs ≡ (at, bytes) ∷ rest → after ≡ out ++ change_text at bytes → out ++ changes_text runs ≡ all → after ++ changes_text rest ≡ all
unfolding changes_text
changes_go at bytes out after all runs rest e f so_far =
    rw f (append_assoc out (change_text at bytes) (changes_text rest) ∙ (rw e at so_far))

pub changes_end : (out all : List ℕ) (runs : List (ℕ × List ℕ)) → runs ≡ [] → out ++ changes_text runs ≡ all → out ≡ all
unfolding changes_text
changes_end out all runs e so_far = sym (append-nil out) ∙ (rw e at so_far)

-- the line of one item, with the peak's line before it where that belongs there
pub items_go : (abi : AbiKind) (peak : ℕ) (b c : Bool) (x : StateItem) (left rest : List StateItem) (out peaked after all : List ℕ) → left ≡ x ∷ rest → c ≡ (b || not (is_front x))
    → peaked ≡ out ++ peak_before peak b x → after ≡ peaked ++ item_text abi x → out ++ items_text abi peak b left ≡ all → after ++ items_text abi peak c rest ≡ all
unfolding items_text
items_go abi peak b c x left rest out peaked after all e t p a so_far =
    rw (a, p, t) (append_assoc (out ++ peak_before peak b x) (item_text abi x) (items_text abi peak (b || not (is_front x)) rest)
    ∙ append_assoc out (peak_before peak b x) (item_text abi x ++ items_text abi peak (b || not (is_front x)) rest) ∙ (rw e at so_far))

pub items_end : (abi : AbiKind) (peak : ℕ) (b : Bool) (left : List StateItem) (out after all : List ℕ) → left ≡ [] → after ≡ out ++ items_text abi peak b [] → out ++ items_text abi peak b left ≡ all → after ≡ all
items_end abi peak b left out after all e a so_far = a ∙ (rw e at so_far)
