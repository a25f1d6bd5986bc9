-- A region of which bytes more are taken.
use Rattle.std.specs.Prelude.{List, ℕ, ◌+◌, ◌++◌, max, length}
use Rattle.scratch_region.specs.Region.{RegionState, used}

-- bytes stand behind those that were taken
abbrev pub with_taken : RegionState → List ℕ → RegionState
with_taken r bytes = record r { taken = r.taken ++ bytes; peak = max r.peak (used r + length bytes) }
