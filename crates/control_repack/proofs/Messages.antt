-- Control messages in user memory and in the region.
use Rattle.std.proofs.Common.{◌≡◌, ℕ, List, Option, Some, None, Ok, ap, sym}
use Rattle.std.specs.Prelude.{ok_or}
use Rattle.std.specs.Option.{option_map}
use Rattle.std.proofs.lemmas.Option.{none-some, same_Some}
use Rattle.kernel_values.specs.declared.errno.Errno.TheVariants.{InvalidArgument}
use Rattle.message_layouts.specs.Controls.{Control, controls_of, spelled, spelled_size}
use Rattle.control_repack.specs.Incoming.{AreSpelled, size_told}

-- what the size of a list is of
pub size_read : (o : Option (List Control)) (n : ℕ) → Some n ≡ option_map (spelled_size 8) o → size_told (ok_or o InvalidArgument) ≡ Ok n
size_read (Some cs) n h = ap Ok (sym (same_Some _ _ h))
size_read None n h = absurd (none-some n (sym h))

-- messages in the kernel's own layout are those that were read
pub native_put : (o : Option (List Control)) (n : ℕ) (bytes : List ℕ) → option_map (spelled_size 8) o ≡ Some n → option_map (spelled 8) o ≡ Some bytes
    → controls_of 8 bytes ≡ o → AreSpelled (ok_or o InvalidArgument) bytes
native_put (Some cs) n bytes size put same = (sym (same_Some _ _ put), same)
native_put None n bytes size put same = absurd (none-some n size)
