-- What a process has used.
use Rattle.std.specs.Prelude.{zero, suc, ℤ, pos, negsuc, replicate, Result, Ok, Err}
use Rattle.kernel_values.specs.declared.errno.Errno.{Errno}
use Rattle.kernel_values.specs.declared.errno.Errno.TheVariants.{InvalidArgument}
use Rattle.kernel_values.specs.declared.times.Usage.{Usage}

abbrev pub nothing_used : Usage
nothing_used = record { words = replicate 18 (pos 0) }

-- the process is RUSAGE_SELF 0 and RUSAGE_THREAD 1; of its children, RUSAGE_CHILDREN -1, there are none
abbrev pub usage : Usage → ℤ → Result Usage Errno
usage own (pos zero) = Ok own
usage own (pos (suc zero)) = Ok own
usage own (pos (suc (suc n))) = Err InvalidArgument
usage own (negsuc zero) = Ok nothing_used
usage own (negsuc (suc n)) = Err InvalidArgument
