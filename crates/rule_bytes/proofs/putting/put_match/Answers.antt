use Rattle.std.proofs.Common.{ap, ◌∙◌, arith}
use Rattle.rule_bytes.specs.declared.parts.MatchKind.{MatchKind}
use Rattle.rule_bytes.specs.Parts.{match_data, match_front, match_kind, match_spelling, size_of}
use Rattle.rule_bytes.proofs.Matches.{match_good, match_least}
use Rattle.rule_bytes.proofs.Puts.{put_whole}
use Rattle.rule_bytes.proofs.putting.put_match.Goals as goal

pub returns : goal.returns
unfolding match_spelling
returns c =
    let g = match_good (match_kind c.args.found.now) c.args.layout in
    put_whole c.args.layout (match_front (match_kind c.args.found.now)) (match_data c.args.layout c.args.found.now)
    c.size.result c.revision.result c.name.result.now c.args.out.now c.put_front.new.out c.put_match_data.new.out
    g.name g.revision (omega (arith, c.requires, match_least c.args.layout c.args.found.now))
    (c.size.ensures ∙ ap (λ (k : MatchKind). size_of c.args.layout (match_front k)) c.of-kind.ensures)
    (c.name.ensures ∙ ap (λ (k : MatchKind). (match_front k).name) c.of-kind.ensures)
    (c.revision.ensures ∙ ap (λ (k : MatchKind). (match_front k).revision) c.of-kind.ensures)
    c.put_front.ensures c.put_match_data.ensures
