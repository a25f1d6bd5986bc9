use Rattle.std.proofs.Common.{◌≡◌, ◌++◌, drop}
use Rattle.report_text.specs.Text.{words_text}
use Rattle.report_text.proofs.text.put_words.Given as goal

abbrev pub invariant-loop-word : goal.invariant-loop-word
invariant-loop-word l = l.out.items ++ words_text (drop l.word-index l.words) ≡ l.fn.out.items ++ words_text l.words
