use Rattle.std.proofs.Common.{ap, ◌∙◌, arith}
use Rattle.rule_bytes.specs.declared.parts.TargetKind.{TargetKind}
use Rattle.rule_bytes.specs.Parts.{size_of, target_data, target_front, target_kind, target_spelling}
use Rattle.rule_bytes.proofs.Puts.{put_whole}
use Rattle.rule_bytes.proofs.Targets.{target_good, target_least}
use Rattle.rule_bytes.proofs.putting.put_target.Goals as goal

pub returns : goal.returns
unfolding target_spelling
returns c =
    let g = target_good (target_kind c.args.target.now) c.args.layout in
    put_whole c.args.layout (target_front (target_kind c.args.target.now)) (target_data c.args.layout c.args.target.now)
    c.size.result c.revision.result c.name.result.now c.args.out.now c.put_front.new.out c.put_target_data.new.out
    g.name g.revision (omega (arith, c.requires, target_least c.args.layout c.args.target.now))
    (c.size.ensures ∙ ap (λ (k : TargetKind). size_of c.args.layout (target_front k)) c.of-kind.ensures)
    (c.name.ensures ∙ ap (λ (k : TargetKind). (target_front k).name) c.of-kind.ensures)
    (c.revision.ensures ∙ ap (λ (k : TargetKind). (target_front k).revision) c.of-kind.ensures)
    c.put_front.ensures c.put_target_data.ensures
