use Rattle.std.proofs.Common.{slice_index}
use Rattle.file_bytes.specs.Search.{AreZero}
use Rattle.file_bytes.proofs.search.first_filled.Given as goal

abbrev pub invariant-loop-i : goal.invariant-loop-i
invariant-loop-i l = AreZero (slice_index l.bytes) l.start l.i
