use Rattle.std.proofs.Common.{arith, ◌++◌}
use Rattle.report_text.specs.Text.{words_text}
use Rattle.report_text.proofs.TextSteps.{words_go, words_end}
use Rattle.report_text.proofs.text.put_words.Goals as goal

pub loop-word-preserved : goal.loop-word-preserved
loop-word-preserved c = words_go c.args.words.now c.loop-word.word-index 0 c.loop-word.out.items c.push.new.self.items c.put_word.new.out.items (c.args.out.now.items ++ words_text c.args.words.now) (omega arith) c.in_ok-push.ensures.items c.in_ok-put_word.ensures c.loop-word.invariant

pub returns : goal.returns
returns c = words_end c.args.words.now c.loop-word.word-index c.loop-word.out.items (c.args.out.now.items ++ words_text c.args.words.now) (omega arith) c.loop-word.invariant
