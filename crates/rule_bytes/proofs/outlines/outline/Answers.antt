use Rattle.std.proofs.Common.{◌≡◌, ◌+◌, Err, sym, ap, ◌∙◌, arith}
use Rattle.std.proofs.lemmas.Result.{err_from_is_err_and}
use Rattle.kernel_values.specs.declared.rules.BlobCause.{BlobCause}
use Rattle.rule_bytes.specs.declared.layout.BlobLayout.TheVariants.{Native}
use Rattle.rule_bytes.specs.declared.parts.TargetKind.{TargetKind}
use Rattle.rule_bytes.specs.Parts.{size_of, target_front, target_size}
use Rattle.rule_bytes.proofs.RuleOutlines.{head_good, outlined, told_flags, told_long, told_matches, told_offsets, told_short, told_target}
use Rattle.rule_bytes.proofs.outlines.outline.Goals as goal

pub returns-then-bytes-lt-HEAD-clause-outline : goal.returns-then-bytes-lt-HEAD-clause-outline
returns-then-bytes-lt-HEAD-clause-outline c = told_short c.args.layout c.args.bytes.now c.if-bytes-lt-HEAD.true

pub returns-then-are_bad_offsets-clause-outline : goal.returns-then-are_bad_offsets-clause-outline
returns-then-are_bad_offsets-clause-outline c =
    told_offsets c.args.layout c.args.bytes.now c.u16_at-target.result c.u16_at-next.result c.are_bad_offsets.result
    c.if-bytes-lt-HEAD.false c.u16_at-target.ensures c.u16_at-next.ensures c.are_bad_offsets.ensures c.if-are_bad_offsets.true

pub returns-then-not-has_known_flags-clause-outline : goal.returns-then-not-has_known_flags-clause-outline
returns-then-not-has_known_flags-clause-outline c =
    told_flags c.args.layout c.args.bytes.now c.ip_of.result.now c.u16_at-target.result c.u16_at-next.result c.are_bad_offsets.result c.has_known_flags.result
    c.if-bytes-lt-HEAD.false c.u16_at-target.ensures c.u16_at-next.ensures c.are_bad_offsets.ensures c.if-are_bad_offsets.false c.ip_of.ensures.ip c.has_known_flags.ensures c.if-not-has_known_flags.true

pub returns-in_err-matches-clause-outline : goal.returns-in_err-matches-clause-outline
returns-in_err-matches-clause-outline c =
    let h = head_good c.args.layout c.args.bytes.now c.ip_of.result.now c.u16_at-target.result c.u16_at-next.result c.are_bad_offsets.result c.has_known_flags.result
    c.if-bytes-lt-HEAD.false c.u16_at-target.ensures c.u16_at-next.ensures c.are_bad_offsets.ensures c.if-are_bad_offsets.false c.ip_of.ensures.ip c.has_known_flags.ensures c.if-not-has_known_flags.false in
    let p = err_from_is_err_and c.from_residual.result c.from_residual.ensures.1 in
    p.1 ∙ ap (λ (e : BlobCause). Err e) p.2
    ∙ told_matches c.args.layout c.args.bytes.now c.in_err-matches.field-0.0 h (sym c.matches_of.ensures.size ∙ c.in_err-matches.was)

pub returns-in_err-found-clause-outline : goal.returns-in_err-found-clause-outline
returns-in_err-found-clause-outline c =
    let h = head_good c.args.layout c.args.bytes.now c.ip_of.result.now c.u16_at-target.result c.u16_at-next.result c.are_bad_offsets.result c.has_known_flags.result
    c.if-bytes-lt-HEAD.false c.u16_at-target.ensures c.u16_at-next.ensures c.are_bad_offsets.ensures c.if-are_bad_offsets.false c.ip_of.ensures.ip c.has_known_flags.ensures c.if-not-has_known_flags.false in
    let p = err_from_is_err_and c.from_residual-in_err-found.result c.from_residual-in_err-found.ensures.1 in
    p.1 ∙ ap (λ (e : BlobCause). Err e) p.2
    ∙ told_target c.args.layout c.args.bytes.now c.in_ok-matches.matches c.in_err-found.field-0.0 h (sym c.in_ok-matches.ensures.size) (sym c.target_of.ensures ∙ c.in_err-found.was)

pub returns-then-native_size-gt65535-clause-outline : goal.returns-then-native_size-gt65535-clause-outline
returns-then-native_size-gt65535-clause-outline c =
    let h = head_good c.args.layout c.args.bytes.now c.ip_of.result.now c.u16_at-target.result c.u16_at-next.result c.are_bad_offsets.result c.has_known_flags.result
    c.if-bytes-lt-HEAD.false c.u16_at-target.ensures c.u16_at-next.ensures c.are_bad_offsets.ensures c.if-are_bad_offsets.false c.ip_of.ensures.ip c.has_known_flags.ensures c.if-not-has_known_flags.false in
    let size : c.size.result ≡ target_size Native c.in_ok-found.found = c.size.ensures ∙ ap (λ (k : TargetKind). size_of Native (target_front k)) c.of.ensures in
    told_long c.args.layout c.args.bytes.now c.in_ok-matches.matches c.in_ok-found.found h (sym c.in_ok-matches.ensures.size) (sym c.in_ok-found.ensures)
    (omega (arith, size, c.if-native_size-gt65535.true))

pub returns-clause-outline : goal.returns-clause-outline
returns-clause-outline c =
    let h = head_good c.args.layout c.args.bytes.now c.ip_of.result.now c.u16_at-target.result c.u16_at-next.result c.are_bad_offsets.result c.has_known_flags.result
    c.if-bytes-lt-HEAD.false c.u16_at-target.ensures c.u16_at-next.ensures c.are_bad_offsets.ensures c.if-are_bad_offsets.false c.ip_of.ensures.ip c.has_known_flags.ensures c.if-not-has_known_flags.false in
    let size : c.size.result ≡ target_size Native c.in_ok-found.found = c.size.ensures ∙ ap (λ (k : TargetKind). size_of Native (target_front k)) c.of.ensures in
    let o = outlined c.args.layout c.args.bytes.now c.in_ok-matches.matches c.u16_at-next.result ((112 + c.in_ok-matches.matches) + c.size.result) c.jump_in.result c.in_ok-found.found
    (λ i. omega (arith, c.type_inv.bytes i)) h (sym c.in_ok-matches.ensures.size) (sym c.in_ok-found.ensures)
    (omega (arith, size)) (omega (arith, c.if-native_size-gt65535.false)) c.u16_at-next.ensures c.jump_in.ensures in
    o.told

pub returns-clause-least : goal.returns-clause-least
returns-clause-least c =
    let h = head_good c.args.layout c.args.bytes.now c.ip_of.result.now c.u16_at-target.result c.u16_at-next.result c.are_bad_offsets.result c.has_known_flags.result
    c.if-bytes-lt-HEAD.false c.u16_at-target.ensures c.u16_at-next.ensures c.are_bad_offsets.ensures c.if-are_bad_offsets.false c.ip_of.ensures.ip c.has_known_flags.ensures c.if-not-has_known_flags.false in
    let size : c.size.result ≡ target_size Native c.in_ok-found.found = c.size.ensures ∙ ap (λ (k : TargetKind). size_of Native (target_front k)) c.of.ensures in
    let o = outlined c.args.layout c.args.bytes.now c.in_ok-matches.matches c.u16_at-next.result ((112 + c.in_ok-matches.matches) + c.size.result) c.jump_in.result c.in_ok-found.found
    (λ i. omega (arith, c.type_inv.bytes i)) h (sym c.in_ok-matches.ensures.size) (sym c.in_ok-found.ensures)
    (omega (arith, size)) (omega (arith, c.if-native_size-gt65535.false)) c.u16_at-next.ensures c.jump_in.ensures in
    o.least
