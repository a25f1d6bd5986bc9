-- The text that tells the state of the kernel and of the region for translation, a line for each item.
use Rattle.std.specs.Prelude.{ℕ, ◌||◌, not, Bool, false, if◌then◌else◌, List, [], ◌∷◌, ◌++◌}
use Rattle.kernel_values.specs.declared.abi.AbiKind.{AbiKind}
use Rattle.kernel_values.specs.declared.items.StateItem.{StateItem}
use Rattle.native_kernel.specs.Items.{items}
use Rattle.compat_calls.specs.declared.world.World.{World}
use Rattle.report_text.specs.Items.{is_front, item_text, peak_line}
use Rattle.report_text.specs.Report.{state_head}

-- the line of the peak, where it wasn't written before this item and belongs there
abbrev pub peak_before : ℕ → Bool → StateItem → List ℕ
peak_before peak is_behind x = if is_behind || is_front x then [] else peak_line peak

-- the lines of items, and the line of the peak before the first that isn't a front one, or behind the last
unfoldable pub items_text : AbiKind → ℕ → Bool → List StateItem → List ℕ
items_text abi peak is_behind [] = if is_behind then [] else peak_line peak
items_text abi peak is_behind (x ∷ xs) = peak_before peak is_behind x ++ (item_text abi x ++ items_text abi peak (is_behind || not (is_front x)) xs)

-- the state, with the most bytes of the region that a call has taken
unfoldable pub state_text : AbiKind → World → List ℕ
state_text abi w = state_head ++ items_text abi w.region false (items w.kernel)
