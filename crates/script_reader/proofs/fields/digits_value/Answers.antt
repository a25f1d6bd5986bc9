use Rattle.std.proofs.Common.{arith, sym, ◌∙◌}
use Rattle.script_reader.proofs.FieldSteps.{digits_stop, digits_go, digits_end, digit_fits, digit_small}
use Rattle.script_reader.proofs.fields.digits_value.Goals as goal

pub returns-in_default : goal.returns-in_default
returns-in_default c = sym (digits_stop c.args.digits.now c.loop-c.c-index c.loop-c.value 0 (omega arith) (sym c.in_default.ensures.value)) ∙ c.loop-c.invariant.value

pub overflow_mul-value : goal.overflow_mul-value
overflow_mul-value c = omega (arith, digit_fits c.loop-c.value c.in-Some.d c.loop-c.c-index c.loop-c.invariant.small c.in-Some.ensures.small (omega arith))

pub overflow_add-value : goal.overflow_add-value
overflow_add-value c = omega (arith, digit_fits c.loop-c.value c.in-Some.d c.loop-c.c-index c.loop-c.invariant.small c.in-Some.ensures.small (omega arith))

pub loop-c-preserved : goal.loop-c-preserved
loop-c-preserved c = rw c.from.ensures (record {
  value = sym (digits_go c.args.digits.now c.loop-c.c-index c.loop-c.value 0 c.in-Some.d (omega arith) (sym c.in-Some.ensures.value)) ∙ c.loop-c.invariant.value;
  small = digit_small c.loop-c.value c.in-Some.d c.loop-c.c-index c.loop-c.invariant.small c.in-Some.ensures.small;
})

pub returns : goal.returns
returns c = sym (digits_end c.args.digits.now c.loop-c.c-index c.loop-c.value (omega arith)) ∙ c.loop-c.invariant.value
