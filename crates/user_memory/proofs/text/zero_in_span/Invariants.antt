use Rattle.std.proofs.Common.{◌≡◌, ◌+◌, ◌-◌, ◌/◌, ◌<◌, ◌≤◌}
use Rattle.user_memory.specs.Prefixes.{HasNoZero}
use Rattle.user_memory.specs.States.{states_of}
use Rattle.user_memory.proofs.text.zero_in_span.Given as goal

abbrev pub invariant-loop-done : goal.invariant-loop-done
invariant-loop-done l = record {
  within : l.done ≤ l.length;
  here : l.done < l.length → l.place ≡ l.fn.span.place + ((l.at + l.done) / 4096 - l.at / 4096);
  so_far : HasNoZero (states_of l.pages) l.at l.done;
}

abbrev pub decreases-loop-done : goal.decreases-loop-done
decreases-loop-done l = l.length - l.done
