-- no slash so far
use Rattle.std.proofs.Common.{◌≡◌, ◌<◌, ◌≤◌, ◌-◌, length, take, drop}
use Rattle.file_tables.specs.Names.{names_from, names_of}
use Rattle.file_tables.proofs.names.name_length.Given as goal

abbrev pub invariant-loop-end : goal.invariant-loop-end
invariant-loop-end l = record {
  some : 0 < l.end;
  most : l.end ≤ length l.path;
  same : names_from (take l.end l.path) (drop l.end l.path) ≡ names_of l.path;
}

abbrev pub decreases-loop-end : goal.decreases-loop-end
decreases-loop-end l = length l.path - l.end
