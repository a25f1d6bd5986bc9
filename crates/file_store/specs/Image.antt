-- The state at first, and what the image puts into it.
use Rattle.std.specs.Prelude.{ℕ, Bool, List, Result, Ok, Err, ⊤}
use Rattle.kernel_values.specs.declared.errno.Errno.{Errno}
use Rattle.file_tree.specs.Image as tree
use Rattle.file_tree.specs.declared.state.FileTree.{FileTree}
use Rattle.open_files.specs.Descriptors.{counted, nothing_open}
use Rattle.file_store.specs.State.{on_tree}
use Rattle.file_store.specs.declared.state.Files.{Files}

-- the root alone, and nothing is open
unfoldable pub fresh_files : Files
fresh_files = record { tree = tree.fresh_tree; open_files = nothing_open }

-- an inode and its name are made: two things
abbrev pub on_made : Files → Result ⊤ Errno × FileTree → Result ⊤ Errno × Files
on_made s (Ok x, t) = (Ok x, record { tree = t; open_files = counted s.open_files 2 })
on_made s (Err e, t) = (Err e, record s { tree = t })

-- the image has a directory at a path from the root
abbrev pub image_directory : Files → List ℕ → ℕ → Result ⊤ Errno × Files
image_directory s path inode = on_made s (tree.image_directory s.tree path inode)

-- the image has a file at a path, of so many zeros
abbrev pub image_file : Files → List ℕ → ℕ → ℕ → Result ⊤ Errno × Files
image_file s path inode size = on_made s (tree.image_file s.tree path inode size)

-- a file of the image has other bytes from a place on; its times stay
abbrev pub image_bytes : Files → List ℕ → ℕ → List ℕ → Result ⊤ Errno × Files
image_bytes s path offset bytes = on_tree s (tree.image_bytes s.tree path offset bytes)

-- the image has a lock of another process on a file
abbrev pub image_lock : Files → List ℕ → Bool → ℕ → ℕ → ℕ → Result ⊤ Errno × Files
image_lock s path write start count pid = on_tree s (tree.image_lock s.tree path write start count pid)
