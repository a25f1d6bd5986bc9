-- What becomes of descriptors when a process ends.
use Rattle.std.specs.Prelude.{ℕ, zero, suc, List, [], ◌∷◌, length}
use Rattle.open_files.specs.declared.state.Descriptor.{Descriptor}
use Rattle.file_store.specs.Descriptors.{closed}
use Rattle.file_store.specs.declared.state.Files.{Files}

-- the lowest descriptor is closed, where there is one
abbrev pub lowest_closed : Files → List (ℕ × Descriptor) → Files
lowest_closed s [] = s
lowest_closed s (d ∷ ds) = closed s d.0 d.1.serial

-- the lowest descriptor is closed, so many times
unfoldable pub closed_times : ℕ → Files → Files
closed_times zero s = s
closed_times (suc n) s = closed_times n (lowest_closed s s.open_files.descriptors)

-- all descriptors are closed, in ascending order
unfoldable pub close_all : Files → Files
close_all s = closed_times (length s.open_files.descriptors) s
