use Rattle.std.proofs.Common.{ℕ, List, length, refl, subst, ◌∙◌, arith}
use Rattle.std.specs.Prelude.{◌<◌, OnSome, Option, Ok}
use Rattle.script_reader.specs.declared.record.Record.{Record}
use Rattle.script_reader.specs.Grammar.{line_of}
use Rattle.script_reader.specs.Ending.{Whole, ScriptText}
use Rattle.script_reader.specs.Ending as endings
use Rattle.script_reader.specs.Reads.{next_in, read_count, TakesFew}
use Rattle.script_reader.specs.Reads as reads
use Rattle.replay_command.specs.Machine.{start}
use Rattle.replay_command.specs.Run.{behind, run_end, run_from, output_of}
use Rattle.replay_command.proofs.ScriptSteps.{taken_none, taken_record}
use Rattle.replay_command.proofs.RunSteps.{run_starts, run_goes, run_ends, ran_memory, ran_nothing, ran_whole, ran_fault}
use Rattle.replay_command.proofs.run.run.Goals as goal

pub loop-record-init : goal.loop-record-init
unfolding start
loop-record-init g c = record {
  alive = rw c.in_ok-script.ensures.fresh refl;
  calls = rw c.in_ok-machine.ensures (omega arith);
  reach = rw c.in_ok-script.ensures.fresh (omega arith);
  faults = refl;
  taken = taken_none (g.S.Source.left c.args.source.now) c.in_ok-script.script (λ (text : ScriptText). behind c.args.out.now.items (run_from c.in_ok-machine.machine text)) (λ (bytes : List ℕ). behind c.args.out.now.items (output_of bytes)) c.in_ok-script.ensures.fresh
      (λ bytes. run_starts c.in_ok-machine.machine c.args.out.now.items bytes c.in_ok-machine.ensures);
}

pub returns-in_err-script : goal.returns-in_err-script
returns-in_err-script g c = ran_nothing output_of c.from_residual-in_err-script.result (g.S.Source.left c.args.source.now) _ _ c.args.out.now.items c.args.out.now.items c.from_residual-in_err-script.ensures.1

pub loop-record-smaller : goal.loop-record-smaller
loop-record-smaller g c =
    let goes = subst (λ (o : Option Record). OnSome o (c.loop-record.script.count < c.next_record.new.self.count)) c.in-Ok-Some.field-0-is c.in-Ok-Some.ensures.goes_on in
    omega (arith, goes, c.in-Ok-Some.ensures.few)

pub loop-record-preserved : goal.loop-record-preserved
loop-record-preserved g c =
    let took = c.in-Ok-Some.ensures.took in
    let told = subst (λ (o : Option Record). reads.Answers (next_in c.loop-record.script took.0) (g.S.Source.left c.next_record.new.source) (Ok o) c.next_record.new.self) c.in-Ok-Some.field-0-is took.2 in
    let few = subst (λ (o : Option Record). TakesFew (read_count c.loop-record.script) (length took.0) (Ok o) (read_count c.next_record.new.self)) c.in-Ok-Some.field-0-is took.3 in
    let line = line_of c.in-Ok-Some.record in
    let old = c.loop-record in
    let r = c.next_record.new.self in
    let goes = subst (λ (o : Option Record). OnSome o (c.loop-record.script.count < c.next_record.new.self.count)) c.in-Ok-Some.field-0-is c.in-Ok-Some.ensures.goes_on in
    record {
      alive = told.2;
      calls = omega (arith, goes, old.invariant.calls, c.in_ok-apply-in-Ok-Some.ensures.calls);
      reach = c.in-Ok-Some.ensures.few;
      faults = c.in-Ok-Some.ensures.counts ∙ old.invariant.faults;
      taken = taken_record (g.S.Source.left c.args.source.now) (g.S.Source.left old.source) (g.S.Source.left c.next_record.new.source) old.script r line (λ (text : ScriptText). behind old.out.items (run_from old.machine text)) (λ (text : ScriptText). behind c.apply.new.out.items (run_from c.apply.new.self text)) (λ (bytes : List ℕ). behind c.args.out.now.items (output_of bytes)) took.0 old.invariant.taken took.1 told.0 few.kept
          (λ text. run_goes old.machine c.apply.new.self line old.out.items c.apply.new.out.items text c.in_ok-apply-in-Ok-Some.ensures.done);
    }

pub returns-in_err-apply-in-Ok-Some : goal.returns-in_err-apply-in-Ok-Some
returns-in_err-apply-in-Ok-Some g c =
    let took = c.in-Ok-Some.ensures.took in
    let old = c.loop-record in
    ran_memory output_of c.from_residual-in_err-apply-in-Ok-Some.result (g.S.Source.left c.args.source.now) (g.S.Source.left old.source) (g.S.Source.left c.next_record.new.source) _ _ c.args.out.now.items c.apply.new.out.items old.script (λ (text : ScriptText). behind old.out.items (run_from old.machine text)) (λ (bytes : List ℕ). behind c.args.out.now.items (output_of bytes)) took.0 _ _ c.from_residual-in_err-apply-in-Ok-Some.ensures.1 old.invariant.taken took.1 took.3

pub returns-in_err-put_whole-in-Ok-None : goal.returns-in_err-put_whole-in-Ok-None
returns-in_err-put_whole-in-Ok-None g c =
    let took = c.in-Ok-None.ensures.took in
    let old = c.loop-record in
    ran_memory output_of c.from_residual-in_err-put_whole-in-Ok-None.result (g.S.Source.left c.args.source.now) (g.S.Source.left old.source) (g.S.Source.left c.next_record.new.source) _ _ c.args.out.now.items c.put_whole.new.out.items old.script (λ (text : ScriptText). behind old.out.items (run_from old.machine text)) (λ (bytes : List ℕ). behind c.args.out.now.items (output_of bytes)) took.0 _ _ c.from_residual-in_err-put_whole-in-Ok-None.ensures.1 old.invariant.taken took.1 took.3

pub returns-in-Ok-None : goal.returns-in-Ok-None
returns-in-Ok-None g c =
    let took = c.in-Ok-None.ensures.took in
    let told = subst (λ (o : Option Record). reads.Answers (next_in c.loop-record.script took.0) (g.S.Source.left c.next_record.new.source) (Ok o) c.next_record.new.self) c.in-Ok-None.field-0-is took.2 in
    let few = subst (λ (o : Option Record). TakesFew (read_count c.loop-record.script) (length took.0) (Ok o) (read_count c.next_record.new.self)) c.in-Ok-None.field-0-is took.3 in
    let old = c.loop-record in
    ran_whole output_of (run_end old.machine Whole) (g.S.Source.left c.args.source.now) (g.S.Source.left old.source) (g.S.Source.left c.next_record.new.source) (g.S.Source.faults c.args.source.now) (g.S.Source.faults c.next_record.new.source) c.args.out.now.items old.out.items c.put_whole.new.out.items old.script c.next_record.new.self (λ (text : ScriptText). behind old.out.items (run_from old.machine text)) took.0 old.invariant.taken took.1 told few
    (run_ends old.machine old.out.items Whole) (record { text = c.in_ok-put_whole-in-Ok-None.ensures; ended = refl }) (c.in-Ok-None.ensures.counts ∙ old.invariant.faults)

pub returns-in-Err : goal.returns-in-Err
returns-in-Err g c =
    let took = c.in-Err.ensures.took in
    let old = c.loop-record in
    ran_fault output_of c.in-Err.fault c.end_at.result (g.S.Source.left c.args.source.now) (g.S.Source.left old.source) (g.S.Source.left c.next_record.new.source) (g.S.Source.faults c.args.source.now) (g.S.Source.faults old.source) (g.S.Source.faults c.next_record.new.source) c.args.out.now.items old.out.items c.end_at.new.out.items old.script c.next_record.new.self (λ (text : ScriptText). behind old.out.items (run_from old.machine text)) took.0 old.invariant.taken took.1 took.2 took.3
    (λ number cause. run_ends old.machine old.out.items (endings.BadLine number cause)) (run_ends old.machine old.out.items endings.TooLarge) c.end_at.ensures old.invariant.faults c.in-Err.ensures.counts
