-- The signals that are blocked.
use Rattle.std.specs.Prelude.{ℕ, ℤ, pos, negsuc, zero, suc, ◌+◌, ◌*◌, ◌/◌, ◌%◌, ◌^◌, Bool, Option, Some, None, Result, Ok, Err, if◌then◌else◌}
use Rattle.std.specs.Int.{w64, bit_not}
use Rattle.std.specs.Int.RustNames.{bit_and, bit_or}
use Rattle.kernel_values.specs.Outcome.{◌>>=◌, settled}
use Rattle.kernel_values.specs.declared.errno.Errno.{Errno}
use Rattle.kernel_values.specs.declared.errno.Errno.TheVariants.{InvalidArgument}
use Rattle.kernel_values.specs.declared.signals.SignalSet.{SignalSet}
use Rattle.signal_clock.specs.Sets.{blockable}
use Rattle.signal_clock.specs.Waiting.{set_of}
use Rattle.signal_clock.specs.declared.state.Signals.{Signals}

-- a narrow set has the low 32 bits alone
abbrev pub narrowed : ℕ → Bool → ℕ
narrowed set narrow = if narrow then set % 2 ^ 32 else set

-- a set in place of the mask; a narrow one leaves its high 32 bits
abbrev pub replaced : ℕ → ℕ → Bool → ℕ
replaced old set narrow = if narrow then old / 2 ^ 32 * 2 ^ 32 + set else set

-- SIG_BLOCK 0 adds the set, SIG_UNBLOCK 1 takes it away, SIG_SETMASK 2 replaces the mask
abbrev pub changed_mask : ℕ → ℤ → ℕ → Bool → Result ℕ Errno
changed_mask old (pos zero) set narrow = Ok (bit_or old set)
changed_mask old (pos (suc zero)) set narrow = Ok (bit_and old (bit_not w64 set))
changed_mask old (pos (suc (suc zero))) set narrow = Ok (replaced old set narrow)
changed_mask old (pos (suc (suc (suc n)))) set narrow = Err InvalidArgument
changed_mask old (negsuc n) set narrow = Err InvalidArgument

abbrev pub with_mask : Signals → ℕ → Signals
with_mask s set = record s { mask = blockable set }

-- sigprocmask tells the mask as it was; how it changes is looked at only where a set is given
abbrev pub change_mask : Signals → ℤ → Option SignalSet → Bool → Result SignalSet Errno × Signals
change_mask s how None narrow = (Ok (record { bits = s.mask }), s)
change_mask s how (Some set) narrow = settled s (do
  new ← changed_mask s.mask how (narrowed set.bits narrow) narrow
  Ok (record { bits = s.mask }, with_mask s new))

-- the signals that wait and are blocked
unfoldable pub pending : Signals → SignalSet
pending s = record { bits = bit_and (set_of s.waiting) s.mask }
