use Rattle.std.proofs.Common.{refl, sym}
use Rattle.replay_command.proofs.TopSteps.{ends_wrote, front_none, front_told}
use Rattle.replay_command.proofs.top.replay.Goals as goal

pub tell-requires : goal.tell-requires
tell-requires g c = ends_wrote c.in-Some.command (g.S.Source.left c.args.source.now) c.in-Ok.status c.new-text.result.items c.answer.new.out.items c.in-Ok.ensures.wrote

pub returns-in-Ok-clause-prefix : goal.returns-in-Ok-clause-prefix
returns-in-Ok-clause-prefix g c = front_told c.args.words.now c.in-Some.command (g.S.Source.left c.args.source.now) (g.O.Sink.taken c.args.sink.now) (g.O.Sink.taken c.tell.new.sink) c.in-Ok.status c.new-text.result.items c.answer.new.out.items (sym c.in-Some.ensures) c.new-text.ensures.items c.in-Ok.ensures.wrote (rw c.deref.ensures.value at c.tell.ensures.prefix)

pub returns-in_default-clause-prefix : goal.returns-in_default-clause-prefix
returns-in_default-clause-prefix g c = front_none c.args.words.now (g.S.Source.left c.args.source.now) (g.O.Sink.taken c.args.sink.now) (g.O.Sink.taken c.args.sink.now) refl

pub returns-in-Err-Fault-clause-prefix : goal.returns-in-Err-Fault-clause-prefix
returns-in-Err-Fault-clause-prefix g c = front_none c.args.words.now (g.S.Source.left c.args.source.now) (g.O.Sink.taken c.args.sink.now) (g.O.Sink.taken c.args.sink.now) refl

pub returns-clause-prefix : goal.returns-clause-prefix
returns-clause-prefix g c = front_none c.args.words.now (g.S.Source.left c.args.source.now) (g.O.Sink.taken c.args.sink.now) (g.O.Sink.taken c.args.sink.now) refl
