use Rattle.std.proofs.Common.{◌∙◌, ◌+◌, length, take, drop, [], refl, arith}
use Rattle.std.proofs.lemmas.List.{length-append}
use Rattle.script_reader.specs.Ahead.{bytes_of}
use Rattle.script_reader.specs.Reads.{state_after}
use Rattle.script_reader.specs.Script.{next_from}
use Rattle.std.specs.Prelude.{Err}
use Rattle.script_reader.proofs.ReadSteps.{taken_read, taken_lost, found_no_end}
use Rattle.script_reader.proofs.script.read_record.Goals as goal

pub returns-in-Err-read-clause-took : goal.returns-in-Err-read-clause-took
returns-in-Err-read-clause-took g c = taken_lost (g.S.Source.left c.args.source.now) (g.S.Source.left c.loop-i.source) (g.S.Source.left c.read.new.source) c.args.seen.now c.args.ahead.now.count (bytes_of c.args.ahead.now) (c.loop-i.ahead.count + length (bytes_of c.loop-i.ahead)) (next_from c.loop-i.seen (take c.loop-i.from (bytes_of c.loop-i.ahead)) (c.loop-i.ahead.count + c.loop-i.from) (drop c.loop-i.from (bytes_of c.loop-i.ahead))) c.in-Err-read.fault (g.S.Source.faults c.loop-i.source) (g.S.Source.faults c.read.new.source) (state_after (Err c.in-Err-read.fault) c.loop-i.seen c.read.new.self) (c.read.new.self.count + length (bytes_of c.read.new.self)) c.loop-i.invariant.taken c.in-Err-read.ensures.lost c.in-Err-read.ensures.fault refl

pub loop-i-preserved : goal.loop-i-preserved
loop-i-preserved g c =
    let piece = c.in-Ok.ensures.piece in
    record {
      sound = c.read.ensures.sound;
      lines = rw c.read.ensures.count c.loop-i.invariant.lines;
      inside = rw (c.bytes-from.ensures, piece.1) (omega (arith, length-append (bytes_of c.loop-i.ahead) piece.0));
      reach = rw (c.read.ensures.count, c.bytes-from.ensures) (rw c.bytes.ensures at c.in-End.ensures.within);
      goes_on = rw c.read.ensures.count c.loop-i.invariant.goes_on;
      faults = c.in-Ok.ensures.same_count ∙ c.loop-i.invariant.faults;
      unread = λ found. absurd (found_no_end (next_from c.args.seen.now [] c.args.ahead.now.count (bytes_of c.args.ahead.now)) (next_from c.loop-i.seen (take c.loop-i.from (bytes_of c.loop-i.ahead)) (c.loop-i.ahead.count + c.loop-i.from) (drop c.loop-i.from (bytes_of c.loop-i.ahead))) c.loop-i.seen (bytes_of c.loop-i.ahead) (c.loop-i.ahead.count + length (bytes_of c.loop-i.ahead)) found (c.loop-i.invariant.unread found).next (rw c.bytes.ensures at (c.in-End.ensures.next c.loop-i.seen)));
      taken = rw (c.bytes-from.ensures, c.read.ensures.count) (taken_read (g.S.Source.left c.args.source.now) (g.S.Source.left c.loop-i.source) (g.S.Source.left c.read.new.source) c.args.seen.now c.args.ahead.now.count (bytes_of c.args.ahead.now) c.loop-i.seen (bytes_of c.loop-i.ahead) (bytes_of c.read.new.self) c.loop-i.from c.loop-i.ahead.count c.in-Ok.field-0 c.loop-i.invariant.taken (rw c.bytes.ensures at (c.in-End.ensures.next c.loop-i.seen)) piece);
    }
