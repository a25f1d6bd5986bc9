-- closing what is left gives what closing all gives
use Rattle.std.proofs.Common.{◌≡◌, ◌-◌}
use Rattle.file_store.specs.Closing.{closed_times}
use Rattle.file_store.proofs.state.Files.close_all.Given as goal

abbrev pub invariant-loop-closed : goal.invariant-loop-closed
invariant-loop-closed l = closed_times (l.count - l.closed) l.self ≡ closed_times l.count l.fn.self
