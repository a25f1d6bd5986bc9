-- What the kernel does with a line of the image.
use Rattle.std.proofs.Common.{◌≡◌, ℕ, ◌+◌, ◌≤◌, ◌^◌, Bool, List, [], ◌∷◌, ◌++◌, length, Result, Ok, refl}
use Rattle.file_store.specs.Image as files
use Rattle.file_store.specs.declared.state.Files.{Files}
use Rattle.file_tree.specs.Image as trees
use Rattle.file_tree.specs.Image.{image_inode, image_parent, with_image_directory, with_image_file}
use Rattle.file_tree.specs.Lengths.{with_bytes}
use Rattle.file_tree.specs.declared.state.FileTree.{FileTree}
use Rattle.kernel_values.specs.declared.errno.Errno.{Errno}
use Rattle.native_kernel.specs.Operations.{image_bytes, image_directory, image_file, image_lock}
use Rattle.native_kernel.specs.declared.state.Kernel.{Kernel}
use Rattle.replay_laws.proofs.Trees.{bytes_put, directory_made, file_made, lock_put}

-- it answers Ok, and its tree is another one
pub record Does (answer : Result (Unit {0}) Errno × Kernel) (tree : FileTree) : Type 0 where
  pub answers : answer.0 ≡ Ok tt
  pub after : answer.1.files.tree ≡ tree

made : (s : Files) (k : Kernel) (r : Result (Unit {0}) Errno × FileTree) (t : FileTree) → r ≡ (Ok tt, t) → Does ((files.on_made s r).0, record k { files = (files.on_made s r).1 }) t
made s k r t h = rw h (record { answers = refl; after = refl })

kept : (s : Files) (k : Kernel) (r : Result (Unit {0}) Errno × FileTree) (t : FileTree) → r ≡ (Ok tt, t) → Does (r.0, record k { files = record s { tree = r.1 } }) t
kept s k r t h = rw h (record { answers = refl; after = refl })

pub kernel_directory : (k : Kernel) (path : List ℕ) (inode : ℕ) (l : ℕ × List ℕ) → image_parent k.files.tree path ≡ Ok l → Does (image_directory k path inode) (with_image_directory k.files.tree l inode)
unfolding image_directory
kernel_directory k path inode l h = made k.files k (trees.image_directory k.files.tree path inode) (with_image_directory k.files.tree l inode) (directory_made k.files.tree path inode l h)

pub kernel_file : (k : Kernel) (path : List ℕ) (inode size : ℕ) (l : ℕ × List ℕ) → size ≤ 2 ^ 40 → image_parent k.files.tree path ≡ Ok l → Does (image_file k path inode size) (with_image_file k.files.tree l inode size)
unfolding image_file
kernel_file k path inode size l few h = made k.files k (trees.image_file k.files.tree path inode size) (with_image_file k.files.tree l inode size) (file_made k.files.tree path inode size l few h)

pub kernel_bytes : (k : Kernel) (path : List ℕ) (offset : ℕ) (bytes : List ℕ) (i : ℕ) → offset + length bytes ≤ 2 ^ 40 → image_inode k.files.tree path ≡ Ok i → Does (image_bytes k path offset bytes) (with_bytes k.files.tree i offset bytes)
unfolding image_bytes
kernel_bytes k path offset bytes i few h = kept k.files k (trees.image_bytes k.files.tree path offset bytes) (with_bytes k.files.tree i offset bytes) (bytes_put k.files.tree path offset bytes i few h)

pub kernel_lock : (k : Kernel) (path : List ℕ) (write : Bool) (start count pid i : ℕ) → start + count ≤ 2 ^ 63 → image_inode k.files.tree path ≡ Ok i
    → (t : FileTree) × (t.directories ≡ k.files.tree.directories) × (t.contents ≡ k.files.tree.contents) × Does (image_lock k path write start count pid) t
unfolding image_lock
kernel_lock k path write start count pid i few h =
    let put = lock_put k.files.tree path write start count pid i few h in
    (record k.files.tree { foreign_locks = k.files.tree.foreign_locks ++ put.0 ∷ [] }, refl, refl, kept k.files k (trees.image_lock k.files.tree path write start count pid) _ put.1)
