-- The state is a record of its two rooms. An operation on one of them leaves the other as it was.
use Rattle.std.specs.Prelude.{Result, Ok, Err}
use Rattle.kernel_values.specs.declared.errno.Errno.{Errno}
use Rattle.file_tree.specs.declared.state.FileTree.{FileTree}
use Rattle.open_files.specs.declared.state.OpenFiles.{OpenFiles}
use Rattle.file_store.specs.declared.state.Files.{Files}

abbrev pub on_tree : {A : Type 0} → Files → Result A Errno × FileTree → Result A Errno × Files
on_tree s outcome = (outcome.0, record s { tree = outcome.1 })

abbrev pub on_open_files : {A : Type 0} → Files → Result A Errno × OpenFiles → Result A Errno × Files
on_open_files s outcome = (outcome.0, record s { open_files = outcome.1 })

-- the same within an operation, where a refusal leaves all as it was
abbrev pub with_tree : {A : Type 0} → Files → Result (A × FileTree) Errno → Result (A × Files) Errno
with_tree s (Ok x) = Ok (x.0, record s { tree = x.1 })
with_tree s (Err e) = Err e

abbrev pub with_open_files : {A : Type 0} → Files → Result (A × OpenFiles) Errno → Result (A × Files) Errno
with_open_files s (Ok x) = Ok (x.0, record s { open_files = x.1 })
with_open_files s (Err e) = Err e
