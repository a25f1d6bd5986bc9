-- The lines of the clocks, of the interval timer and of how the process ended.
use Rattle.std.specs.Prelude.{ℕ, List, [], ◌∷◌, codes}
use Rattle.kernel_values.specs.declared.items.ClockItem.{ClockItem}
use Rattle.kernel_values.specs.declared.items.TimerItem.{TimerItem}
use Rattle.kernel_values.specs.declared.process_end.End.{End}
use Rattle.kernel_values.specs.declared.process_end.End.TheVariants as end
use Rattle.report_text.specs.Fields.{numbers_line}

-- clock REAL MONO
unfoldable pub clock_text : ClockItem → List ℕ
clock_text c = numbers_line (codes "clock") (c.real ∷ c.monotonic ∷ [])

-- ended exit CODE, or ended signal S
unfoldable pub ended_text : End → List ℕ
ended_text (end.Exit code) = numbers_line (codes "ended exit") (code ∷ [])
ended_text (end.Signal signal) = numbers_line (codes "ended signal") (signal ∷ [])

-- timer END INTERVAL
unfoldable pub timer_text : TimerItem → List ℕ
timer_text t = numbers_line (codes "timer") (t.end ∷ t.interval ∷ [])
