-- The limits as contracts see them.
use Rattle.std.specs.Prelude.{◌^◌, ◌≤◌, List, Option, Some, None}
use Rattle.kernel_values.specs.declared.times.Limit.{Limit}

-- the limit of each resource
pub record LimitState : Type 0 where
  pub held : List Limit

-- a soft limit up to the hard one, and that up to the most descriptors that a process may have
abbrev pub AllowsFew : Option Limit → Type 0
AllowsFew None = Unit {0}
AllowsFew (Some l) = (l.soft ≤ l.hard) × (l.hard ≤ 2 ^ 20)
