-- Lines of the image on two trees that have the same directories and files of the same lengths.
use Rattle.std.proofs.Common.{◌≡◌, ◌∙◌, ℕ, ◌+◌, ◌≤◌, ◌^◌, Bool, true, false, List, [], ◌∷◌, ◌++◌, length, replicate, Option, Some, None, Result, Ok, Err, refl, ap, sym, inl, inr, arith}
use Rattle.std.proofs.lemmas.Bool.{and_parts, leb-true, le-ltb}
use Rattle.std.proofs.lemmas.Grind.{common_steps}
use Rattle.std.specs.Option.{option_map}
use Rattle.kernel_values.specs.Bounds.{most_file_bytes}
use Rattle.kernel_values.specs.Outcome.{◌>>=◌, ◌>>◌, refused_if}
use Rattle.kernel_values.specs.declared.errno.Errno.{Errno}
use Rattle.number_maps.specs.NumberMap.{at, put}
use Rattle.file_bytes.specs.Row.{written}
use Rattle.file_tables.specs.Contained.{empty_directory, entered}
use Rattle.file_tables.specs.declared.state.Directory.{Directory}
use Rattle.file_tree.specs.Contents.{overwritten, overwritten_as, reaches}
use Rattle.file_tree.specs.Image.{file_reaches, has_bytes, image_bytes, image_directory, image_entry, image_file, image_inode, image_lock, image_parent, is_free_inode, is_free_name, is_missing, with_image_directory, with_image_file}
use Rattle.file_tree.specs.Lengths.{with_bytes}
use Rattle.file_tree.specs.Locks.{image_kind}
use Rattle.file_tree.specs.Paths.{entry_at, last_entry, parent_from}
use Rattle.file_tree.specs.declared.state.FileTree.{FileTree}
use Rattle.record_locks.specs.Foreign.{foreign_lock}
use Rattle.record_locks.specs.declared.state.ForeignLock.{ForeignLock}
use Rattle.map_lemmas.proofs.Maps.{at_changed, at_changed_apart, at_put, at_put_apart, one_or_other}

-- ---- files of the same lengths
abbrev pub Contents : Type 0
Contents = List (ℕ × List ℕ)

abbrev pub length_at : Contents → ℕ → Option ℕ
length_at contents inode = option_map length (at contents inode)

abbrev pub AreAlike : Contents → Contents → Type 0
AreAlike a b = (inode : ℕ) → length_at a inode ≡ length_at b inode

-- no file has more than 2^40 bytes
abbrev pub AreShort : Contents → Type 0
AreShort a = (inode : ℕ) (content : List ℕ) → at a inode ≡ Some content → length content ≤ 2 ^ 40

-- a file more in both
pub alike_put : (a b : Contents) (key : ℕ) (c : List ℕ) → AreAlike a b → AreAlike (put a key c) (put b key c)
alike_put a b key c h q = elim (one_or_other q key) [
  | inl same ↦ rw (same, at_put a key c, at_put b key c) refl
  | inr other ↦ rw (at_put_apart a q key c other, at_put_apart b q key c other) (h q)
]

same_some : {A : Type 0} (x y : A) → Some x ≡ Some y → x ≡ y
same_some x y h = cc

pub short_put : (a : Contents) (key : ℕ) (c : List ℕ) → length c ≤ 2 ^ 40 → AreShort a → AreShort (put a key c)
short_put a key c few h q content there = elim (one_or_other q key) [
  | inl same ↦ rw (← same_some c content (sym (at_put a key c) ∙ (rw same at there))) few
  | inr other ↦ h q content (rw (at_put_apart a q key c other) at there)
]

-- bytes within a file leave its length
pub length_written : (xs : List ℕ) (start : ℕ) (bytes : List ℕ) → start + length bytes ≤ length xs → length (written xs start bytes) ≡ length xs
unfolding written
length_written xs start bytes fits = grind (arith, common_steps)

overwritten_case : (a : Contents) (inode start : ℕ) (bytes : List ℕ) (o : Option (List ℕ)) → at a inode ≡ o → reaches o (start + length bytes) ≡ true → AreAlike (overwritten_as a inode start bytes o) a
overwritten_case a inode start bytes None here fits = cc
overwritten_case a inode start bytes (Some content) here fits = λ q. elim (one_or_other q inode) [
  | inl same ↦
      rw (same, at_changed a inode content (written content start bytes) here, here) (ap Some (length_written content start bytes (leb-true (start + length bytes) (length content) fits)))
  | inr other ↦ rw (at_changed_apart a q inode (written content start bytes) other) refl
]

pub alike_overwritten : (a : Contents) (inode start : ℕ) (bytes : List ℕ) → reaches (at a inode) (start + length bytes) ≡ true → AreAlike (overwritten a inode start bytes) a
unfolding overwritten
alike_overwritten a inode start bytes fits = overwritten_case a inode start bytes (at a inode) refl fits

-- files as long as short ones are short
length_case : (o : Option (List ℕ)) (p : Option (List ℕ)) (content : List ℕ) → option_map length o ≡ option_map length p → o ≡ Some content → (c : List ℕ) × (p ≡ Some c) × (length c ≡ length content)
length_case None p content h there = cc
length_case (Some x) None content h there = cc
length_case (Some x) (Some y) content h there =
    let same : x ≡ content = cc in
    let lengths : length x ≡ length y = cc in
    (y, refl, sym lengths ∙ ap length same)

pub short_alike : (a b : Contents) → AreAlike a b → AreShort b → AreShort a
short_alike a b h short inode content there =
    let other = length_case (at a inode) (at b inode) content (h inode) there in
    rw (← other.2) (short inode other.0 other.1)

reaches_case : (o p : Option (List ℕ)) (end : ℕ) → option_map length o ≡ option_map length p → reaches o end ≡ reaches p end
reaches_case None None end h = refl
reaches_case None (Some y) end h = cc
reaches_case (Some x) None end h = cc
reaches_case (Some x) (Some y) end h = let lengths : length x ≡ length y = cc in rw lengths refl

pub reaches_alike : (a b : Contents) (inode end : ℕ) → AreAlike a b → reaches (at a inode) end ≡ reaches (at b inode) end
reaches_alike a b inode end h = reaches_case (at a inode) (at b inode) end (h inode)

-- ---- paths where the directories are the same
pub parent_alike : (s t : FileTree) (path : List ℕ) → s.directories ≡ t.directories → image_parent s path ≡ image_parent t path
unfolding image_parent parent_from
parent_alike s t path h = rw h refl

pub inode_alike : (s t : FileTree) (path : List ℕ) → s.directories ≡ t.directories → image_inode s path ≡ image_inode t path
unfolding image_inode last_entry
inode_alike s t path h = rw (parent_alike s t path h, h) refl

-- ---- what the reader looked at
-- a name that is free leads to a place
missing_case : (r : Result (ℕ × List ℕ) Errno) (f : ℕ × List ℕ → Result (Option ℕ) Errno) → is_missing (r >>= f) ≡ true → (l : ℕ × List ℕ) × (r ≡ Ok l)
missing_case (Ok l) f h = (l, refl)
missing_case (Err e) f h = cc

pub free_place : (s : FileTree) (path : List ℕ) (inode : ℕ) → is_free_name s path inode ≡ true → (l : ℕ × List ℕ) × (image_parent s path ≡ Ok l)
unfolding is_free_name image_entry
free_place s path inode h = missing_case (image_parent s path) (λ l. entry_at s l) (and_parts (is_free_inode s inode) (is_missing (image_entry s path)) h).1

-- bytes that are there are those of an inode
bytes_case : (s : FileTree) (r : Result ℕ Errno) (end : ℕ) → file_reaches s r end ≡ true → (i : ℕ) × (r ≡ Ok i) × (reaches (at s.contents i) end ≡ true)
bytes_case s (Ok i) end h = (i, refl, h)
bytes_case s (Err e) end h = cc

pub bytes_place : (s : FileTree) (path : List ℕ) (offset count : ℕ) → has_bytes s path offset count ≡ true → (i : ℕ) × (image_inode s path ≡ Ok i) × (reaches (at s.contents i) (offset + count) ≡ true)
unfolding has_bytes
bytes_place s path offset count h = bytes_case s (image_inode s path) (offset + count) h

-- ---- what the image does with a tree
pub directory_made : (s : FileTree) (path : List ℕ) (inode : ℕ) (l : ℕ × List ℕ) → image_parent s path ≡ Ok l → image_directory s path inode ≡ (Ok tt, with_image_directory s l inode)
directory_made s path inode l h = rw h refl

pub file_made : (s : FileTree) (path : List ℕ) (inode size : ℕ) (l : ℕ × List ℕ) → size ≤ 2 ^ 40 → image_parent s path ≡ Ok l → image_file s path inode size ≡ (Ok tt, with_image_file s l inode size)
file_made s path inode size l few h = rw (le-ltb most_file_bytes size few, h) refl

pub bytes_put : (s : FileTree) (path : List ℕ) (offset : ℕ) (bytes : List ℕ) (i : ℕ) → offset + length bytes ≤ 2 ^ 40 → image_inode s path ≡ Ok i → image_bytes s path offset bytes ≡ (Ok tt, with_bytes s i offset bytes)
bytes_put s path offset bytes i few h = rw (le-ltb most_file_bytes (offset + length bytes) few, h) refl

not_refused : {A : Type 0} (b : Bool) (e : Errno) (x : A) → b ≡ false → (y : A) × ((refused_if b e >> Ok x) ≡ Ok y)
not_refused true e x h = cc
not_refused false e x h = (x, refl)

lock_told : (inode start count pid : ℕ) (write : Bool) → start + count ≤ 2 ^ 63 → (f : ForeignLock) × (foreign_lock inode (image_kind write) start count pid ≡ Ok f)
unfolding foreign_lock
lock_told inode start count pid write few = not_refused _ _ _ (le-ltb (2 ^ 63) (start + count) few)

pub lock_put : (s : FileTree) (path : List ℕ) (write : Bool) (start count pid i : ℕ) → start + count ≤ 2 ^ 63 → image_inode s path ≡ Ok i → (f : ForeignLock) × (image_lock s path write start count pid ≡ (Ok tt, record s { foreign_locks = s.foreign_locks ++ f ∷ [] }))
lock_put s path write start count pid i few h = let told = lock_told i start count pid write few in (told.0, rw (h, told.1) refl)

-- bytes that reach within a short file
reach_case : (o : Option (List ℕ)) (end : ℕ) → reaches o end ≡ true → ((c : List ℕ) → o ≡ Some c → length c ≤ 2 ^ 40) → end ≤ 2 ^ 40
reach_case None end h short = cc
reach_case (Some c) end h short = omega (arith, leb-true end (length c) h, short c refl)

pub reach_is_short : (a : Contents) (inode end : ℕ) → AreShort a → reaches (at a inode) end ≡ true → end ≤ 2 ^ 40
reach_is_short a inode end short h = reach_case (at a inode) end h (short inode)

-- ---- a tree of the reader and one of the machine
pub record Alike (seen tree : FileTree) : Type 0 where
  pub names : seen.directories ≡ tree.directories
  pub alike : AreAlike seen.contents tree.contents
  pub short : AreShort seen.contents

pub alike_directory : (s t : FileTree) (l : ℕ × List ℕ) (inode : ℕ) → Alike s t → Alike (with_image_directory s l inode) (with_image_directory t l inode)
unfolding with_image_directory
alike_directory s t l inode h = record {
  names = ap (λ (d : List (ℕ × Directory)). put (entered d l.0 l.1 inode) inode (empty_directory l.0)) h.names;
  alike = h.alike;
  short = h.short;
}

length_zeros : (size : ℕ) → length (replicate {A = ℕ} size 0) ≡ size
length_zeros size = grind (arith, common_steps)

pub alike_file : (s t : FileTree) (l : ℕ × List ℕ) (inode size : ℕ) → size ≤ 2 ^ 40 → Alike s t → Alike (with_image_file s l inode size) (with_image_file t l inode size)
unfolding with_image_file
alike_file s t l inode size few h = record {
  names = ap (λ (d : List (ℕ × Directory)). entered d l.0 l.1 inode) h.names;
  alike = alike_put s.contents t.contents inode (replicate size 0) h.alike;
  short = short_put s.contents inode (replicate size 0) (rw (length_zeros size) few) h.short;
}

pub alike_bytes : (s t : FileTree) (inode offset : ℕ) (bytes : List ℕ) → reaches (at s.contents inode) (offset + length bytes) ≡ true → Alike s t → Alike s (with_bytes t inode offset bytes)
alike_bytes s t inode offset bytes fits h = record {
  names = h.names;
  alike = λ q. h.alike q ∙ sym (alike_overwritten t.contents inode offset bytes (sym (reaches_alike s.contents t.contents inode (offset + length bytes) h.alike) ∙ fits) q);
  short = h.short;
}
