-- The limits and what each call does with them.
use Rattle.std.specs.Prelude.{if◌then◌else◌, replicate, ◌^◌, ◌-◌, ℕ, Bool, not, ◌&&◌, ◌==◌, nat_lt, Option, Some, None, Result, Ok, ⊤, slice_get, slice_set, ok_or}
use Rattle.kernel_values.specs.Outcome.{◌>>=◌, ◌>>◌, refused_if, settled}
use Rattle.kernel_values.specs.declared.errno.Errno.{Errno}
use Rattle.kernel_values.specs.declared.errno.Errno.TheVariants.{InvalidArgument, NotPermitted}
use Rattle.kernel_values.specs.declared.times.Limit.{Limit}
use Rattle.native_kernel.specs.LimitState.{LimitState}

abbrev pub soft_of : Option Limit → ℕ
soft_of (Some held) = held.soft
soft_of None = 0

-- the limit that holds, 0 for a number that there isn't
abbrev pub soft_limit : LimitState → ℕ → ℕ
soft_limit l resource = soft_of (slice_get l.held resource)

-- resources are 0 to 15
abbrev pub limit : LimitState → ℕ → Result Limit Errno
limit l resource = ok_or (slice_get l.held resource) InvalidArgument

-- no more than 2^20 descriptors, even with the privilege
abbrev pub set_limit : LimitState → Bool → ℕ → Limit → Result ⊤ Errno × LimitState
set_limit l privileged resource new = settled l (do
  held ← limit l resource
  refused_if (nat_lt new.hard new.soft) InvalidArgument
  refused_if (nat_lt held.hard new.hard && not privileged) NotPermitted
  refused_if (resource == 7 && nat_lt 0x100000 new.hard) NotPermitted
  Ok (tt, record l { held = slice_set l.held resource new }))

-- RLIM64_INFINITY twice
abbrev pub unlimited : Limit
unlimited = record { soft = 2 ^ 64 - 1; hard = 2 ^ 64 - 1 }

-- how many descriptors a new process may have
abbrev pub few_open_files : Limit
few_open_files = record { soft = 1024; hard = 4096 }

-- none is limited at the start but RLIMIT_NOFILE, 7
abbrev pub starting_limit : ℕ → Limit
starting_limit resource = if resource == 7 then few_open_files else unlimited

unfoldable pub starting_limits : LimitState
starting_limits = record { held = slice_set (replicate 16 unlimited) 7 few_open_files }
