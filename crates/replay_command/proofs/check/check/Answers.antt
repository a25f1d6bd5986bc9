use Rattle.std.proofs.Common.{ℕ, ◌+◌, List, length, refl, subst, ◌∙◌, arith}
use Rattle.std.specs.Prelude.{◌<◌, OnSome, Option, Ok}
use Rattle.script_reader.specs.declared.record.Record.{Record}
use Rattle.script_reader.specs.Grammar.{line_of}
use Rattle.script_reader.specs.Ending.{Whole, ScriptText}
use Rattle.script_reader.specs.Ending as endings
use Rattle.script_reader.specs.Reads.{next_in, read_count, TakesFew}
use Rattle.script_reader.specs.Reads as reads
use Rattle.replay_command.specs.Run.{behind, check_end, check_from, checked_of}
use Rattle.replay_command.proofs.ScriptSteps.{taken_none, taken_record}
use Rattle.replay_command.proofs.RunSteps.{check_starts, check_goes, check_ends, ran_memory, ran_whole, ran_fault}
use Rattle.replay_command.proofs.check.check.Goals as goal

pub loop-record-init : goal.loop-record-init
loop-record-init g c = record {
  alive = rw c.in_ok-script.ensures.fresh refl;
  count = omega arith;
  reach = rw c.in_ok-script.ensures.fresh (omega arith);
  faults = refl;
  taken = taken_none (g.S.Source.left c.args.source.now) c.in_ok-script.script (λ (text : ScriptText). behind c.args.out.now.items (check_from 0 text)) (λ (bytes : List ℕ). behind c.args.out.now.items (checked_of bytes)) c.in_ok-script.ensures.fresh (λ bytes. check_starts c.args.out.now.items bytes);
}

pub loop-record-smaller : goal.loop-record-smaller
loop-record-smaller g c =
    let goes = subst (λ (o : Option Record). OnSome o (c.loop-record.script.count < c.next_record.new.self.count)) c.in-Ok-Some.field-0-is c.in-Ok-Some.ensures.goes_on in
    omega (arith, goes, c.in-Ok-Some.ensures.few)

pub loop-record-preserved : goal.loop-record-preserved
loop-record-preserved g c =
    let took = c.in-Ok-Some.ensures.took in
    let told = subst (λ (o : Option Record). reads.Answers (next_in c.loop-record.script took.0) (g.S.Source.left c.next_record.new.source) (Ok o) c.next_record.new.self) c.in-Ok-Some.field-0-is took.2 in
    let few = subst (λ (o : Option Record). TakesFew (read_count c.loop-record.script) (length took.0) (Ok o) (read_count c.next_record.new.self)) c.in-Ok-Some.field-0-is took.3 in
    let line = line_of c.in-Ok-Some.record in
    let old = c.loop-record in
    let r = c.next_record.new.self in
    let goes = subst (λ (o : Option Record). OnSome o (c.loop-record.script.count < c.next_record.new.self.count)) c.in-Ok-Some.field-0-is c.in-Ok-Some.ensures.goes_on in
    record {
      alive = told.2;
      count = omega (arith, goes, old.invariant.count);
      reach = c.in-Ok-Some.ensures.few;
      faults = c.in-Ok-Some.ensures.counts ∙ old.invariant.faults;
      taken = taken_record (g.S.Source.left c.args.source.now) (g.S.Source.left old.source) (g.S.Source.left c.next_record.new.source) old.script r line (λ (text : ScriptText). behind old.out.items (check_from old.records text)) (λ (text : ScriptText). behind old.out.items (check_from (old.records + 1) text)) (λ (bytes : List ℕ). behind c.args.out.now.items (checked_of bytes)) took.0 old.invariant.taken took.1 told.0 few.kept
          (λ text. check_goes old.records line old.out.items text);
    }

pub returns-in_err-put_ok-in-Ok-None : goal.returns-in_err-put_ok-in-Ok-None
returns-in_err-put_ok-in-Ok-None g c =
    let took = c.in-Ok-None.ensures.took in
    let old = c.loop-record in
    ran_memory checked_of c.from_residual-in_err-put_ok-in-Ok-None.result (g.S.Source.left c.args.source.now) (g.S.Source.left old.source) (g.S.Source.left c.next_record.new.source) _ _ c.args.out.now.items c.put_ok.new.out.items old.script (λ (text : ScriptText). behind old.out.items (check_from old.records text)) (λ (bytes : List ℕ). behind c.args.out.now.items (checked_of bytes)) took.0 _ _ c.from_residual-in_err-put_ok-in-Ok-None.ensures.1 old.invariant.taken took.1 took.3

pub returns-in-Ok-None : goal.returns-in-Ok-None
returns-in-Ok-None g c =
    let took = c.in-Ok-None.ensures.took in
    let told = subst (λ (o : Option Record). reads.Answers (next_in c.loop-record.script took.0) (g.S.Source.left c.next_record.new.source) (Ok o) c.next_record.new.self) c.in-Ok-None.field-0-is took.2 in
    let few = subst (λ (o : Option Record). TakesFew (read_count c.loop-record.script) (length took.0) (Ok o) (read_count c.next_record.new.self)) c.in-Ok-None.field-0-is took.3 in
    let old = c.loop-record in
    ran_whole checked_of (check_end old.records Whole) (g.S.Source.left c.args.source.now) (g.S.Source.left old.source) (g.S.Source.left c.next_record.new.source) (g.S.Source.faults c.args.source.now) (g.S.Source.faults c.next_record.new.source) c.args.out.now.items old.out.items c.put_ok.new.out.items old.script c.next_record.new.self (λ (text : ScriptText). behind old.out.items (check_from old.records text)) took.0 old.invariant.taken took.1 told few
    (check_ends old.records old.out.items Whole) (record { text = c.in_ok-put_ok-in-Ok-None.ensures; ended = refl }) (c.in-Ok-None.ensures.counts ∙ old.invariant.faults)

pub returns-in-Err : goal.returns-in-Err
returns-in-Err g c =
    let took = c.in-Err.ensures.took in
    let old = c.loop-record in
    ran_fault checked_of c.in-Err.fault c.end_at.result (g.S.Source.left c.args.source.now) (g.S.Source.left old.source) (g.S.Source.left c.next_record.new.source) (g.S.Source.faults c.args.source.now) (g.S.Source.faults old.source) (g.S.Source.faults c.next_record.new.source) c.args.out.now.items old.out.items c.end_at.new.out.items old.script c.next_record.new.self (λ (text : ScriptText). behind old.out.items (check_from old.records text)) took.0 old.invariant.taken took.1 took.2 took.3
    (λ number cause. check_ends old.records old.out.items (endings.BadLine number cause)) (check_ends old.records old.out.items endings.TooLarge) c.end_at.ensures old.invariant.faults c.in-Err.ensures.counts
