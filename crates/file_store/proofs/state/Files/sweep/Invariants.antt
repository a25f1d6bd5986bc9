-- sweeping what is left gives what sweeping all gives
use Rattle.std.proofs.Common.{◌≡◌, ◌+◌, ◌<◌, ◌^◌, length}
use Rattle.file_store.specs.Releasing.{all_held, all_swept}
use Rattle.file_store.proofs.state.Files.sweep.Given as goal

abbrev pub invariant-loop-serial : goal.invariant-loop-serial
invariant-loop-serial l = record {
  same : all_swept l.self l.left ≡ all_swept l.initial.self l.initial.left;
  few : length l.left + all_held l.self < 2 ^ 62;
}

abbrev pub decreases-loop-serial : goal.decreases-loop-serial
decreases-loop-serial l = length l.left + all_held l.self
