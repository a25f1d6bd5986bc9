use Rattle.script_reader.specs.Ahead.{bytes_of}
use Rattle.script_reader.specs.Reads.{ScriptState, state_after}
use Rattle.script_reader.proofs.ReadSteps.{told_next}
use Rattle.script_reader.proofs.GivenSteps.{gives_behind}
use Rattle.script_reader.proofs.script.Script.next_record.Goals as goal

pub returns-clause-told : goal.returns-clause-told
returns-clause-told g c =
    let took = c.read_record-answer.ensures.took in
    let old : ScriptState = record { seen = c.self.inside.seen; count = c.self.inside.ahead.count; ahead = bytes_of c.self.inside.ahead; alive = c.self.inside.alive } in
    λ bytes e. rw (c.is_ok-self-inside.ensures.value, ← c.self.view_is) (told_next (g.S.Source.left c.read_record-answer.new.source) old (g.S.Source.left c.args.source.now) c.read_record-answer.result (state_after c.read_record-answer.result c.read_record-answer.new.seen c.read_record-answer.new.ahead) took.0 bytes took.1 took.2 e)

pub returns-clause-given : goal.returns-clause-given
returns-clause-given g c =
    let took = c.read_record-answer.ensures.took in
    let old : ScriptState = record { seen = c.self.inside.seen; count = c.self.inside.ahead.count; ahead = bytes_of c.self.inside.ahead; alive = c.self.inside.alive } in
    rw (c.is_ok-self-inside.ensures.value, ← c.self.view_is) (λ lines h. gives_behind old (state_after c.read_record-answer.result c.read_record-answer.new.seen c.read_record-answer.new.ahead) lines took.0 (g.S.Source.left c.read_record-answer.new.source) c.read_record-answer.result h took.2 took.3)
