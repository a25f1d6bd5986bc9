-- The listing of a directory.
use Rattle.std.specs.Prelude.{◌≡◌, ℕ, List, [], ◌∷◌, Option, Some, None, ok_or, Result, Ok, Err}
use Rattle.kernel_values.specs.Outcome.{◌>>=◌}
use Rattle.kernel_values.specs.declared.errno.Errno.{Errno}
use Rattle.kernel_values.specs.declared.errno.Errno.TheVariants.{NotDirectory}
use Rattle.kernel_values.specs.declared.errno.KernelFault.{KernelFault}
use Rattle.kernel_values.specs.declared.errno.KernelFault.TheVariants as fault
use Rattle.kernel_values.specs.declared.listing.DirEntry.{DirEntry}
use Rattle.number_maps.specs.NumberMap.{at}
use Rattle.file_tables.specs.Listing.{listed_after}
use Rattle.file_tree.specs.declared.state.FileTree.{FileTree}

-- the listing of a directory, from a position on
unfoldable pub listing : FileTree → ℕ → ℕ → Result (List DirEntry) Errno
listing s inode position = do
  d ← ok_or (at s.directories inode) NotDirectory
  Ok (listed_after s.directories d inode position)

-- all entries are an entry and those behind it
abbrev pub IsBehind : Result (List DirEntry) Errno → DirEntry → Result (List DirEntry) Errno → Type 0
IsBehind (Ok es) e all = all ≡ Ok (e ∷ es)
IsBehind (Err x) e all = ⊥

-- The first of the entries after a position was told, and those behind it are the entries after its own position; or none where
-- there is none; or what refuses the listing. Where memory ran out, nothing is said.
abbrev pub TellsEntry : (ℕ → Result (List DirEntry) Errno) → ℕ → Result (Option DirEntry) KernelFault → Type 0
TellsEntry after position (Ok None) = after position ≡ Ok []
TellsEntry after position (Ok (Some e)) = IsBehind (after e.position) e (after position)
TellsEntry after position (Err (fault.Errno x)) = after position ≡ Err x
TellsEntry after position (Err fault.OutOfMemory) = Unit {0}
