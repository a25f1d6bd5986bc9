use Rattle.std.proofs.Common.{◌≡◌, ◌<◌, ◌≤◌, ◌+◌, ◌-◌, length, take, drop, sym, ap, ◌∙◌, arith, length-drop}
use borrow.Rule.Slice.PartMut.{same_len_mid}
use Rattle.std.proofs.lemmas.List.{length-take-le}
use Rattle.std.proofs.lemmas.Bool.Decides.{nat_tests}
use Rattle.rule_bytes.specs.declared.layout.BlobLayout.TheVariants.{Native}
use Rattle.rule_bytes.specs.declared.parts.MatchKind.{MatchKind}
use Rattle.rule_bytes.specs.Parts.{match_front, match_size, size_of}
use Rattle.rule_bytes.proofs.NativeMatches.{all_put, begins_put, next_put, next_room, puts_on}
use Rattle.rule_bytes.proofs.translating.put_matches.Goals as goal

pub loop-rest-init : goal.loop-rest-init
loop-rest-init c = begins_put c.args.layout c.args.ip.now c.args.area.now c.args.out.now c.requires.size

pub returns-in-Err : goal.returns-in-Err
returns-in-Err c =
    let some : 0 < length c.loop-rest.rest.now = grind (arith, nat_tests, c.is_empty.ensures, c.loop-rest-test.true) in
    let n = next_put c.args.layout c.args.ip.now c.args.area.now c.loop-rest.rest.now c.loop-rest.out c.loop-rest.at c.loop-rest.invariant some in
    absurd (let e = sym n.read ∙ sym c.match_at.ensures.found ∙ c.in-Err.is in cc)

pub slice_bounds-put_match-end : goal.slice_bounds-put_match-end
slice_bounds-put_match-end c =
    let some : 0 < length c.loop-rest.rest.now = grind (arith, nat_tests, c.is_empty.ensures, c.loop-rest-test.true) in
    let size : c.size.result ≡ match_size Native c.in-Ok.found = c.size.ensures ∙ ap (λ (k : MatchKind). size_of Native (match_front k)) c.of.ensures in
    let room : c.loop-rest.at + match_size Native c.in-Ok.found ≤ length c.loop-rest.out =
    next_room c.args.layout c.args.ip.now c.args.area.now c.loop-rest.rest.now c.loop-rest.out c.loop-rest.at c.in-Ok.found c.loop-rest.invariant some (sym c.in-Ok.ensures.found) in
    omega (arith, size, room)

pub loop-rest-preserved : goal.loop-rest-preserved
loop-rest-preserved c =
    let some : 0 < length c.loop-rest.rest.now = grind (arith, nat_tests, c.is_empty.ensures, c.loop-rest-test.true) in
    let size : c.size.result ≡ match_size Native c.in-Ok.found = c.size.ensures ∙ ap (λ (k : MatchKind). size_of Native (match_front k)) c.of.ensures in
    let here : c.size-in-Ok.result ≡ match_size c.args.layout c.in-Ok.found = c.size-in-Ok.ensures ∙ ap (λ (k : MatchKind). size_of c.args.layout (match_front k)) c.of-in-Ok.ensures in
    let room : c.loop-rest.at + match_size Native c.in-Ok.found ≤ length c.loop-rest.out =
    next_room c.args.layout c.args.ip.now c.args.area.now c.loop-rest.rest.now c.loop-rest.out c.loop-rest.at c.in-Ok.found c.loop-rest.invariant some (sym c.in-Ok.ensures.found) in
    let kept : length c.put_match.new.out ≡ length (take ((c.loop-rest.at + c.size.result) - c.loop-rest.at) (drop c.loop-rest.at c.loop-rest.out)) = c.put_match.auto.out in
    let len : length c.put_match.new.out ≡ c.size.result =
    kept ∙ length-take-le ((c.loop-rest.at + c.size.result) - c.loop-rest.at) (drop c.loop-rest.at c.loop-rest.out) (omega (arith, length-drop c.loop-rest.at c.loop-rest.out, room, size)) ∙ omega arith in
    puts_on c.args.layout c.args.ip.now c.args.area.now c.loop-rest.rest.now c.loop-rest.out c.put_match.new.out c.loop-rest.at c.size.result c.size-in-Ok.result c.in-Ok.found
    c.loop-rest.invariant some (sym c.in-Ok.ensures.found) size here c.put_match.ensures len
    (same_len_mid c.loop-rest.at ((c.loop-rest.at + c.size.result) - c.loop-rest.at) c.loop-rest.out c.put_match.new.out kept)

pub returns : goal.returns
returns c =
    let none : length c.loop-rest.rest.now ≡ 0 = grind (arith, nat_tests, c.is_empty.ensures, c.loop-rest-test.false) in
    all_put c.args.layout c.args.ip.now c.args.area.now c.loop-rest.rest.now c.loop-rest.out c.loop-rest.at c.loop-rest.invariant none
