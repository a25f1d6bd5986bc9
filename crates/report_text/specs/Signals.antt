-- The lines of signals.
use Rattle.std.specs.Prelude.{ℕ, List, [], ◌∷◌, codes}
use Rattle.std.specs.Int.{w32, cast_unsigned}
use Rattle.kernel_values.specs.declared.items.ActionItem.{ActionItem}
use Rattle.kernel_values.specs.declared.signals.AltStack.{AltStack}
use Rattle.kernel_values.specs.declared.signals.SigInfo.{SigInfo}
use Rattle.kernel_values.specs.declared.signals.SignalSet.{SignalSet}
use Rattle.report_text.specs.Fields.{numbers_line}

-- mask SIGNALS
unfoldable pub mask_text : SignalSet → List ℕ
mask_text m = numbers_line (codes "mask") (m.bits ∷ [])

-- alt BASE SIZE
unfoldable pub alt_text : AltStack → List ℕ
alt_text a = numbers_line (codes "alt") (a.base ∷ a.size ∷ [])

-- action SIGNAL HANDLER FLAGS RESTORER MASK
unfoldable pub action_text : ActionItem → List ℕ
action_text a = numbers_line (codes "action") (a.signal ∷ a.action.handler ∷ a.action.flags ∷ a.action.restorer ∷ a.action.mask.bits ∷ [])

-- pending SIGNAL ERRNO CODE PID UID VALUE, with ERRNO and CODE as their two's complements in 32 bits
unfoldable pub pending_text : SigInfo → List ℕ
pending_text s = numbers_line (codes "pending") (s.signal ∷ cast_unsigned w32 s.errno ∷ cast_unsigned w32 s.code ∷ s.pid ∷ s.uid ∷ s.value ∷ [])
