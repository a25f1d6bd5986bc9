use Rattle.std.proofs.Common.{◌≡◌, ◌<◌, ◌≤◌, ◌+◌, ◌-◌, ◌*◌, ℕ, List, length, take, drop, Err, sym, ap, ◌∙◌, arith, length-drop}
use Rattle.std.proofs.lemmas.Bool.Decides.{nat_tests}
use Rattle.std.proofs.lemmas.Result.{err_from_is_err_and}
use Rattle.std.proofs.lemmas.List.{take_rest}
use Rattle.kernel_values.specs.declared.rules.BlobCause.{BlobCause}
use Rattle.rule_bytes.specs.declared.layout.BlobLayout.TheVariants.{Native}
use Rattle.rule_bytes.specs.declared.parts.MatchKind.{MatchKind}
use Rattle.rule_bytes.specs.Parts.{match_front, match_size, size_of}
use Rattle.rule_bytes.proofs.Loops.{native_end, native_fault, native_turn, native_twice}
use Rattle.rule_bytes.proofs.outlines.native_matches.Goals as goal

pub returns-in_err-found-clause-size : goal.returns-in_err-found-clause-size
returns-in_err-found-clause-size c =
    let some : 0 < length c.loop-rest.rest.now = grind (arith, nat_tests, c.is_empty.ensures, c.loop-rest-test.true) in
    let p = err_from_is_err_and c.from_residual.result c.from_residual.ensures.1 in
    p.1 ∙ ap (λ (e : BlobCause). Err e) p.2
    ∙ native_fault c.args.layout c.args.ip.now c.loop-rest.rest.now c.in_err-found.field-0.0 c.loop-rest.size _ some
    (sym c.match_at.ensures.found ∙ c.in_err-found.was) c.loop-rest.invariant.left

pub loop-rest-preserved : goal.loop-rest-preserved
loop-rest-preserved c =
    let some : 0 < length c.loop-rest.rest.now = grind (arith, nat_tests, c.is_empty.ensures, c.loop-rest-test.true) in
    let native : c.size-size.result ≡ match_size Native c.in_ok-found.found =
    c.size-size.ensures ∙ ap (λ (k : MatchKind). size_of Native (match_front k)) c.of.ensures in
    let here : c.size.result ≡ match_size c.args.layout c.in_ok-found.found =
    c.size.ensures ∙ ap (λ (k : MatchKind). size_of c.args.layout (match_front k)) c.of-in-loop-rest.ensures in
    let len : length (take (length c.loop-rest.rest.now - c.size.result) (drop c.size.result c.loop-rest.rest.now)) ≡ length c.loop-rest.rest.now - c.size.result =
    ap (λ (ys : List ℕ). length ys) (take_rest c.loop-rest.rest.now c.size.result) ∙ length-drop c.size.result c.loop-rest.rest.now in
    let few : (c.loop-rest.size + c.size-size.result) + 2 * length (take (length c.loop-rest.rest.now - c.size.result) (drop c.size.result c.loop-rest.rest.now)) ≤ 2 * length c.args.area.now =
    omega (arith, len, native, here, native_twice c.args.layout c.in_ok-found.found, c.in_ok-found.ensures.within, c.loop-rest.invariant.few) in
    record {
      left = native_turn c.args.layout c.args.ip.now c.loop-rest.rest.now c.in_ok-found.found c.loop-rest.size c.size-size.result c.size.result _ some (sym c.in_ok-found.ensures.found) native here c.loop-rest.invariant.left;
      few = few;
    }

pub returns-clause-size : goal.returns-clause-size
returns-clause-size c =
    let none : length c.loop-rest.rest.now ≡ 0 = grind (arith, nat_tests, c.is_empty.ensures, c.loop-rest-test.false) in
    native_end c.args.layout c.args.ip.now c.loop-rest.rest.now c.loop-rest.size _ none c.loop-rest.invariant.left
