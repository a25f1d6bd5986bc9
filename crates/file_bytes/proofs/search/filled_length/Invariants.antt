use Rattle.std.proofs.Common.{slice_index}
use Rattle.file_bytes.specs.Search.{AreFilled}
use Rattle.file_bytes.proofs.search.filled_length.Given as goal

abbrev pub invariant-loop-i : goal.invariant-loop-i
invariant-loop-i l = AreFilled (slice_index l.bytes) l.at l.i
