use Rattle.std.proofs.Common.{◌≤◌, length, sym, subst, arith}
use Rattle.rule_bytes.specs.declared.parts.MatchKind.{MatchKind}
use Rattle.kernel_values.specs.declared.rules.RuleMatch.{RuleMatch}
use Rattle.rule_bytes.specs.Parts.{match_front, match_size, size_of}
use Rattle.rule_bytes.proofs.Matches.{kind_in}
use Rattle.rule_bytes.proofs.reading.match_at.Goals as goal

pub returns-clause-within : goal.returns-clause-within
returns-clause-within c =
    let fill : size_of c.args.layout (match_front c.in_ok-kind.kind) ≤ length c.args.bytes.now =
    omega (arith, c.in_ok-kind.ensures.size, c.u16_at-size.ensures, c.if-bytes-size.false) in
    subst (λ (m : RuleMatch). match_size c.args.layout m ≤ length c.args.bytes.now) (sym c.match_of-found.ensures)
    (subst (λ (k : MatchKind). size_of c.args.layout (match_front k) ≤ length c.args.bytes.now) (sym (kind_in c.args.layout c.in_ok-kind.kind c.args.bytes.now)) fill)
