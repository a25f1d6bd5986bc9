-- what is left to climb gives what the whole gives
use Rattle.std.proofs.Common.{◌≡◌, ◌-◌, ◌≤◌, [], length}
use Rattle.file_tables.specs.PathTexts.{text_up}
use Rattle.file_tables.proofs.path_texts.Table+Directory.text_up.Given as goal

abbrev pub invariant-loop-step : goal.invariant-loop-step
invariant-loop-step l = record {
  same : text_up l.self l.above l.text.items (length l.self - l.step) ≡ text_up l.self l.place [] (length l.self);
  short : length l.text.items ≤ 4095;
}
