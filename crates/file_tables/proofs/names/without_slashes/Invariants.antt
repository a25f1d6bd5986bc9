-- the names stay
use Rattle.std.proofs.Common.{◌≡◌, ◌≤◌, length}
use Rattle.file_tables.specs.Names.{names_of}
use Rattle.file_tables.proofs.names.without_slashes.Given as goal

abbrev pub invariant-loop-rest : goal.invariant-loop-rest
invariant-loop-rest l = record {
  same : names_of l.rest ≡ names_of l.fn.path;
  most : length l.rest ≤ length l.fn.path;
}

abbrev pub decreases-loop-rest : goal.decreases-loop-rest
decreases-loop-rest l = length l.rest
