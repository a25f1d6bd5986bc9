use Rattle.std.proofs.Common.{◌≡◌, ◌<◌, ◌*◌, List, length, take, Result, Ok, sym, ap, ◌∙◌, subst, arith}
use Rattle.std.proofs.lemmas.Bool.Decides.{nat_tests}
use Rattle.kernel_values.specs.declared.rules.BlobFault.{BlobFault}
use Rattle.rule_bytes.specs.declared.outlines.BlobOutline.{BlobOutline}
use Rattle.rule_bytes.specs.Faults.{told_of}
use Rattle.rule_bytes.specs.Maps.{IsMapped, blob_outline_of}
use Rattle.rule_bytes.specs.Rules.{Rule}
use Rattle.rule_bytes.proofs.Entries.{passed_all, passed_fault, passes_on, told_passed}
use Rattle.rule_bytes.proofs.maps.map_rules.Goals as goal

pub returns-in-Err-clause-count : goal.returns-in-Err-clause-count
returns-in-Err-clause-count c =
    let some : 0 < length c.loop-rest.rest.now = grind (arith, nat_tests, c.is_empty.ensures, c.loop-rest-test.true) in
    sym (ap (λ (r : Result (List Rule) BlobFault). told_of blob_outline_of r)
    (passed_fault c.args.layout c.args.bytes.now c.loop-rest.rest.now c.loop-rest.map c.loop-rest.count c.loop-rest.place c.loop-rest.native c.in-Err.cause c.loop-rest.invariant.passed some (sym c.in-Err.ensures.outline)))

pub loop-rest-preserved : goal.loop-rest-preserved
loop-rest-preserved c =
    let some : 0 < length c.loop-rest.rest.now = grind (arith, nat_tests, c.is_empty.ensures, c.loop-rest-test.true) in
    record {
      passed = passes_on c.args.layout c.args.bytes.now c.loop-rest.rest.now c.loop-rest.map c.put_entry_in.new.map c.loop-rest.count c.loop-rest.place c.loop-rest.native c.in-Ok.rule
          c.loop-rest.invariant.passed some (sym c.in-Ok.ensures.outline) c.in-Ok.ensures.within c.in-Ok.ensures.least c.in-Ok.ensures.most c.put_entry_in.ensures.size c.put_entry_in.ensures.entry;
      same = c.put_entry_in.ensures.size ∙ c.loop-rest.invariant.same;
    }

pub returns-clause-count : goal.returns-clause-count
returns-clause-count c =
    let none : length c.loop-rest.rest.now ≡ 0 = grind (arith, nat_tests, c.is_empty.ensures, c.loop-rest-test.false) in
    let p = c.loop-rest.invariant.passed in
    sym (ap (λ (r : Result (List Rule) BlobFault). told_of blob_outline_of r)
    (passed_all c.args.layout c.args.bytes.now c.loop-rest.rest.now c.loop-rest.map c.loop-rest.count c.loop-rest.place c.loop-rest.native p none)
    ∙ ap (λ (o : BlobOutline). Ok o) (told_passed p.done c.loop-rest.count c.loop-rest.native p.counted p.natively))

pub returns-clause-map : goal.returns-clause-map
returns-clause-map c = λ room.
    let none : length c.loop-rest.rest.now ≡ 0 = grind (arith, nat_tests, c.is_empty.ensures, c.loop-rest-test.false) in
    let p = c.loop-rest.invariant.passed in
    subst (λ (r : Result (List Rule) BlobFault). IsMapped c.args.layout r (take (8 * c.loop-rest.count) c.loop-rest.map))
    (sym (passed_all c.args.layout c.args.bytes.now c.loop-rest.rest.now c.loop-rest.map c.loop-rest.count c.loop-rest.place c.loop-rest.native p none))
    (p.mapped (omega (arith, room, c.loop-rest.invariant.same)), omega (arith, p.placed, p.left, c.requires), omega (arith, p.natively, p.most, p.few, p.left, c.requires))
