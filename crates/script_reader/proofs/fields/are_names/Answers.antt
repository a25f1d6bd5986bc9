use Rattle.std.proofs.Common.{◌-◌, ◌∙◌, [], sym, take, drop, arith}
use Rattle.script_reader.specs.Fields.{are_names}
use Rattle.script_reader.proofs.PathSteps.{names_slash, names_bad, names_byte, names_go, names_begin, names_whole}
use Rattle.script_reader.proofs.fields.are_names.Goals as goal

pub returns-then-not-is_name : goal.returns-then-not-is_name
returns-then-not-is_name c = sym (names_bad (take (c.loop-i.i - c.loop-i.from) (drop c.loop-i.from c.args.bytes.now)) c.args.bytes.now c.loop-i.i 0 (omega arith) (omega arith) (sym c.is_name.ensures ∙ c.if-not-is_name.true)) ∙ c.loop-i.invariant.so_far

pub loop-i-preserved-then-bytes-i-eq47 : goal.loop-i-preserved-then-bytes-i-eq47
loop-i-preserved-then-bytes-i-eq47 c = record {
  begun = omega arith;
  so_far = names_begin c.args.bytes.now c.args.bytes.now c.loop-i.i (sym (names_slash (take (c.loop-i.i - c.loop-i.from) (drop c.loop-i.from c.args.bytes.now)) c.args.bytes.now c.loop-i.i 0 (omega arith) (omega arith) (sym c.is_name.ensures ∙ c.if-not-is_name.false)) ∙ c.loop-i.invariant.so_far);
}

pub returns-then-not-is_graphic : goal.returns-then-not-is_graphic
returns-then-not-is_graphic c = sym (names_byte (take (c.loop-i.i - c.loop-i.from) (drop c.loop-i.from c.args.bytes.now)) c.args.bytes.now c.loop-i.i 0 (omega arith) (λ e. omega arith) (sym c.is_graphic.ensures ∙ c.if-not-is_graphic.true)) ∙ c.loop-i.invariant.so_far

pub loop-i-preserved : goal.loop-i-preserved
loop-i-preserved c = record {
  begun = omega arith;
  so_far = sym (names_go c.args.bytes.now c.loop-i.from c.loop-i.i 0 (omega arith) (omega arith) (λ e. omega arith) (sym c.is_graphic.ensures ∙ c.if-not-is_graphic.false)) ∙ c.loop-i.invariant.so_far;
}

pub returns : goal.returns
returns c = c.is_name-2.ensures ∙ names_whole c.args.bytes.now c.loop-i.from c.loop-i.i (are_names [] c.args.bytes.now) (omega arith) c.loop-i.invariant.so_far
