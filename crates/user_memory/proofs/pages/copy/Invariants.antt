use Rattle.std.proofs.Common.{◌≡◌, ◌+◌, ◌-◌, ◌/◌, ◌<◌, ◌≤◌, length, take}
use Rattle.user_memory.specs.Memory.{bytes_at}
use Rattle.user_memory.specs.States.{states_of}
use Rattle.user_memory.proofs.pages.copy.Given as goal

abbrev pub invariant-loop-done : goal.invariant-loop-done
invariant-loop-done l = record {
  within : l.done ≤ length l.fn.into;
  here : l.done < length l.fn.into → l.place ≡ l.first + ((l.at + l.done) / 4096 - l.at / 4096);
  so_far : take l.done l.into ≡ bytes_at (states_of l.pages) l.at l.done;
}

abbrev pub decreases-loop-done : goal.decreases-loop-done
decreases-loop-done l = length l.into - l.done
