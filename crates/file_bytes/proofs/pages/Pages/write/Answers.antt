use Rattle.std.proofs.Common.{arith, refl}
use Rattle.file_bytes.proofs.Rows.{overlays_slice}
use Rattle.file_bytes.proofs.pages.Pages.write.Goals as goal

pub loop-done-preserved : goal.loop-done-preserved
loop-done-preserved c = record {
  within = omega arith;
  written = overlays_slice _ _ _ c.args.at c.loop-done.done _ c.piece_length-piece.result c.args.from.now (omega arith) refl c.loop-done.invariant.written c.in_ok-write_piece.ensures.ok;
}
