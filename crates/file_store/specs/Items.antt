-- What is told of the tree and of what is open, item by item, and what of it is left at a cursor.
use Rattle.std.specs.Prelude.{List, ◌++◌}
use Rattle.kernel_values.specs.declared.items.StateItem.{StateItem}
use Rattle.file_tree.specs.Items.{tree_items, tree_left}
use Rattle.open_files.specs.Items.{open_items, open_left}
use Rattle.file_store.specs.declared.state.Files.{Files}
use Rattle.file_store.specs.declared.items.FileCursor.{FileCursor}
use Rattle.file_store.specs.declared.items.FileCursor.TheVariants as cursor

-- the items that are left at a cursor: what is open is told behind the tree
unfoldable pub files_left : Files → FileCursor → List StateItem
files_left s (cursor.Tree c) = tree_left s.tree c ++ open_items s.open_files
files_left s (cursor.Open c) = open_left s.open_files c

-- all items of files, in the order of a report
abbrev pub file_items : Files → List StateItem
file_items s = tree_items s.tree ++ open_items s.open_files
