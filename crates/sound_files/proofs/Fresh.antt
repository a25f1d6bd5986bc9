-- The state at first, and what the image puts into it.
use Rattle.std.proofs.Common.{◌≡◌, ◌∙◌, ℕ, ◌+◌, ◌++◌, nat_lt, Bool, true, false, List, [], ◌∷◌, length, cond, Some, None, Result, Ok, Err, inl, inr, refl, ap, sym, subst, ◌||◌, is_some, arith, ◌<◌, ◌^◌}
use Rattle.std.specs.Bool.{⊤}
use Rattle.std.specs.BTreeMap.{is_at}
use Rattle.std.specs.List.{find}
use Rattle.std.specs.List.Sorted.{IsStrictlySortedBy}
use Rattle.std.specs.Str.{bytes_eq}
use Rattle.std.specs.Ordering.{nat_cmp}
use Rattle.kernel_values.specs.Bounds.{most_file_bytes}
use Rattle.kernel_values.specs.Outcome.{◌>>=◌, ◌>>◌, refused_if, settled}
use Rattle.kernel_values.specs.declared.errno.Errno.{Errno}
use Rattle.kernel_values.specs.declared.errno.Errno.TheVariants.{FileTooLarge}
use Rattle.record_locks.specs.Foreign.{foreign_lock}
use Rattle.record_locks.specs.declared.state.ForeignLock.{ForeignLock}
use Rattle.number_maps.specs.NumberMap.{at, put}
use Rattle.number_maps.proofs.FreeNumbers.{free_here}
use Rattle.file_tables.specs.Contained.{empty_directory}
use Rattle.file_tables.specs.Entries.{named}
use Rattle.file_tables.specs.Numbers.{new_number}
use Rattle.file_tables.specs.declared.state.Directory.{Directory}
use Rattle.file_tables.specs.declared.state.Entry.{Entry}
use Rattle.file_tables.specs.declared.state.Node.{Node}
use Rattle.file_tree.specs.Image as tree
use Rattle.file_tree.specs.Lengths.{with_bytes}
use Rattle.file_tree.specs.Locks.{image_kind}
use Rattle.file_tree.specs.Making.{next_inode}
use Rattle.file_tree.specs.Status.{no_time}
use Rattle.file_tree.specs.declared.state.FileTree.{FileTree}
use Rattle.open_files.specs.Descriptors.{counted}
use Rattle.open_files.specs.Holding.{is_open}
use Rattle.open_files.specs.Made.{HasRoom}
use Rattle.open_files.specs.declared.state.OpenFile.{OpenFile}
use Rattle.open_laws.specs.Sound.{is_there}
use Rattle.open_laws.proofs.Made.{counted_is_sound, nothing_open_is_sound}
use Rattle.map_lemmas.proofs.Maps.{at_put, at_put_apart, one_or_other}
use Rattle.map_lemmas.proofs.Steps.{both_answered, kept_by_settled, not_refused, same_answer}
use Rattle.file_store.specs.Image.{fresh_files, on_made}
use Rattle.file_store.specs.declared.state.Files.{Files}
use Rattle.sound_files.specs.Laws.{FreshFilesAreSound, FreshTreeIsWhole, ImageBytesIsSound, ImageDirectoryIsSound, ImageFileIsSound, ImageLockIsSound}
use Rattle.sound_files.specs.Sound.{Belongs, IsFresh, IsSound}
use Rattle.sound_files.proofs.Changes.{bytes_same}
use Rattle.sound_files.proofs.Simple.{same_is_sound}
use Rattle.sound_files.proofs.Views.{SameInodes, SameNodes, same_nodes, touched_same}

-- ---- at first
root_case : (n : Node) (b : Bool) → cond b (Some (tree.image_node 0x41ed)) None ≡ Some n → n.has_name ≡ false → ⊥
root_case n true h none =
    let same : tree.image_node 0x41ed ≡ n = cc in
    let clash : true ≡ false = ap (λ (x : Node). x.has_name) same ∙ none in
    cc
root_case n false h none = cc

pub fresh_files_are_sound : FreshFilesAreSound
unfolding fresh_files tree.fresh_tree
fresh_files_are_sound = record {
  open_files = nothing_open_is_sound;
  belong = record {
    held = λ serial f h. absurd (let e : None ≡ Some f = h in cc);
    nameless = λ i n h none. absurd (root_case n (is_at (nat_cmp i) 2) h none);
  };
}

-- the root alone
root_kinds : (n : Node) (d : Directory) (b : Bool) → is_some (cond b (Some n) None) ≡ (is_some (cond b (Some d) None) || false)
root_kinds n d true = refl
root_kinds n d false = refl

root_is : (root d : Directory) (b : Bool) → cond b (Some root) None ≡ Some d → root ≡ d
root_is root d true h = cc
root_is root d false h = cc

nothing_named : (root d : Directory) (name : List ℕ) (e : ℕ × Entry) → root.names ≡ [] → root ≡ d → named d.names name ≡ Some e → ⊥
unfolding named
nothing_named root d name e none same h =
    let empty : d.names ≡ [] = ap (λ (x : Directory). x.names) (sym same) ∙ none in
    let clash : None ≡ Some e = sym (ap (find (λ (x : ℕ × Entry). bytes_eq x.1.name name)) empty) ∙ h in
    cc

first_number : (next : ℕ) → next < 2 ^ 63 → new_number (record { image = []; next = next }) ≡ next
unfolding new_number
first_number next h = rw (free_here [] next (2 ^ 63) h refl) refl

next_number : next_inode tree.fresh_tree ≡ 0x1000
unfolding next_inode tree.fresh_tree
next_number = first_number 0x1000 (omega arith)

fresh_number : (i : ℕ) → i ≡ 0x1000 → IsFresh tree.fresh_tree i
unfolding tree.fresh_tree
fresh_number i h = record { least = omega arith; above = omega arith; image = refl; nodeless = rw h refl }

pub fresh_tree_is_whole : FreshTreeIsWhole
unfolding fresh_files tree.fresh_tree IsStrictlySortedBy
fresh_tree_is_whole = record {
  ascend = (tt, tt);
  kinds = λ i. root_kinds (tree.image_node 0x41ed) (empty_directory 2) (is_at (nat_cmp i) 2);
  meant = λ place d name e there h. absurd (nothing_named (empty_directory 2) d name e refl (root_is (empty_directory 2) d (is_at (nat_cmp place) 2) there) h);
  parents = λ place d there. ap (λ (x : Directory). is_there tree.fresh_tree.directories x.parent) (sym (root_is (empty_directory 2) d (is_at (nat_cmp place) 2) there));
  root = refl;
  working = refl;
  fresh = fresh_number (next_inode tree.fresh_tree) next_number;
}

-- ---- what the image makes
none_open : (t : FileTree) (files : List (ℕ × OpenFile)) → files ≡ [] → ((i : ℕ) (n : Node) → at t.nodes i ≡ Some n → n.has_name ≡ false → is_open files i ≡ true) → Belongs t files
none_open t files none nameless = record {
  held = λ serial f h. absurd (let e : None ≡ Some f = sym (ap (λ (x : List (ℕ × OpenFile)). at x serial) none) ∙ h in cc);
  nameless = nameless;
}

module _ (s : Files) (sound : IsSound s) (nodes : List (ℕ × Node)) (same : SameNodes s.tree.nodes nodes) (inode : ℕ) (new : Node) (named : new.has_name ≡ true) where
  still_nameless : (i : ℕ) (n : Node) → at (put nodes inode new) i ≡ Some n → n.has_name ≡ false → is_open s.open_files.files i ≡ true
  still_nameless i n h none = elim (one_or_other i inode) [
    | inl e ↦ absurd (
        let both : Some new ≡ Some n = sym (ap (at (put nodes inode new)) e ∙ at_put nodes inode new) ∙ h in
        let is : new ≡ n = cc in
        let clash : true ≡ false = sym named ∙ ap (λ (x : Node). x.has_name) is ∙ none in
        cc
        )
    | inr other ↦ (let old = same.marks i n (sym (at_put_apart nodes i inode new other) ∙ h) in sound.belong.nameless i old.0 old.1 (old.2 ∙ none))
  ]

module _ (s : Files) (l : ℕ × List ℕ) (inode size : ℕ) (sound : IsSound s) (none : s.open_files.files ≡ []) (room : HasRoom s.open_files.made 2) where
  directory_made : IsSound (record { tree = tree.with_image_directory s.tree l inode; open_files = counted s.open_files 2 })
  unfolding tree.with_image_directory
  directory_made = record {
    open_files = counted_is_sound s.open_files 2 sound.open_files room;
    belong = none_open (tree.with_image_directory s.tree l inode) s.open_files.files none (still_nameless s sound (tree.with_image_name s.tree l inode).nodes (touched_same s.tree.nodes l.0 no_time) inode (tree.image_node 0x41ed) refl);
  }

  file_made : IsSound (record { tree = tree.with_image_file s.tree l inode size; open_files = counted s.open_files 2 })
  unfolding tree.with_image_file
  file_made = record {
    open_files = counted_is_sound s.open_files 2 sound.open_files room;
    belong = none_open (tree.with_image_file s.tree l inode size) s.open_files.files none (still_nameless s sound (tree.with_image_name s.tree l inode).nodes (touched_same s.tree.nodes l.0 no_time) inode (tree.image_node 0x81a4) refl);
  }

-- what the tree answered, and things were counted
made_kept : (s : Files) (r : Result (⊤ × FileTree) Errno) → IsSound s → ((x : ⊤) (t : FileTree) → r ≡ Ok (x, t) → IsSound (record { tree = t; open_files = counted s.open_files 2 })) → IsSound (on_made s (settled s.tree r)).1
made_kept s (Ok x) sound made = made x.0 x.1 refl
made_kept s (Err e) sound made = sound

abbrev directory_at : Files → ℕ → ℕ × List ℕ → Result (⊤ × FileTree) Errno
directory_at s inode l = Ok (tt, tree.with_image_directory s.tree l inode)

pub image_directory_is_sound : ImageDirectoryIsSound
image_directory_is_sound s path inode sound none room = made_kept s (tree.image_parent s.tree path >>= directory_at s inode) sound by_place
  where
    by_place : (x : ⊤) (t : FileTree) → (tree.image_parent s.tree path >>= directory_at s inode) ≡ Ok (x, t) → IsSound (record { tree = t; open_files = counted s.open_files 2 })
    by_place x t h =
        let l = both_answered (tree.image_parent s.tree path) (directory_at s inode) (x, t) h in
        subst (λ (u : FileTree). IsSound (record { tree = u; open_files = counted s.open_files 2 })) (same_answer tt x (tree.with_image_directory s.tree l.0 inode) t l.2).1 (directory_made s l.0 inode 0 sound none room)

abbrev file_at : Files → ℕ → ℕ → ℕ × List ℕ → Result (⊤ × FileTree) Errno
file_at s inode size l = Ok (tt, tree.with_image_file s.tree l inode size)

pub image_file_is_sound : ImageFileIsSound
image_file_is_sound s path inode size sound none room = made_kept s (refused_if (nat_lt most_file_bytes size) FileTooLarge >> (tree.image_parent s.tree path >>= file_at s inode size)) sound by_place
  where
    by_place : (x : ⊤) (t : FileTree) → (refused_if (nat_lt most_file_bytes size) FileTooLarge >> (tree.image_parent s.tree path >>= file_at s inode size)) ≡ Ok (x, t) → IsSound (record { tree = t; open_files = counted s.open_files 2 })
    by_place x t h =
        let small = not_refused (nat_lt most_file_bytes size) FileTooLarge (tree.image_parent s.tree path >>= file_at s inode size) (x, t) h in
        let l = both_answered (tree.image_parent s.tree path) (file_at s inode size) (x, t) small.1 in
        subst (λ (u : FileTree). IsSound (record { tree = u; open_files = counted s.open_files 2 })) (same_answer tt x (tree.with_image_file s.tree l.0 inode size) t l.2).1 (file_made s l.0 inode size sound none room)

abbrev bytes_at : Files → ℕ → List ℕ → ℕ → Result (⊤ × FileTree) Errno
bytes_at s offset bytes i = Ok (tt, with_bytes s.tree i offset bytes)

pub image_bytes_is_sound : ImageBytesIsSound
image_bytes_is_sound s path offset bytes sound = same_is_sound s _ sound (kept_by_settled (SameInodes s.tree) s.tree (refused_if (nat_lt most_file_bytes (offset + length bytes)) FileTooLarge >> (tree.image_inode s.tree path >>= bytes_at s offset bytes)) (bytes_still s.tree) by_inode)
  where
    bytes_still : (t : FileTree) → SameInodes t t
    bytes_still t = record { nodes = same_nodes t.nodes; directories = λ q. refl; contents = λ q. refl; numbers = refl }

    by_inode : (x : ⊤) (t : FileTree) → (refused_if (nat_lt most_file_bytes (offset + length bytes)) FileTooLarge >> (tree.image_inode s.tree path >>= bytes_at s offset bytes)) ≡ Ok (x, t) → SameInodes s.tree t
    by_inode x t h =
        let small = not_refused (nat_lt most_file_bytes (offset + length bytes)) FileTooLarge (tree.image_inode s.tree path >>= bytes_at s offset bytes) (x, t) h in
        let i = both_answered (tree.image_inode s.tree path) (bytes_at s offset bytes) (x, t) small.1 in
        subst (SameInodes s.tree) (same_answer tt x (with_bytes s.tree i.0 offset bytes) t i.2).1 (bytes_same s.tree i.0 offset bytes)

abbrev lock_with : Files → ForeignLock → Result (⊤ × FileTree) Errno
lock_with s f = Ok (tt, record s.tree { foreign_locks = s.tree.foreign_locks ++ f ∷ [] })

abbrev lock_at : Files → Bool → ℕ → ℕ → ℕ → ℕ → Result (⊤ × FileTree) Errno
lock_at s write start count pid i = foreign_lock i (image_kind write) start count pid >>= lock_with s

pub image_lock_is_sound : ImageLockIsSound
image_lock_is_sound s path write start count pid sound = same_is_sound s _ sound (kept_by_settled (SameInodes s.tree) s.tree (tree.image_inode s.tree path >>= lock_at s write start count pid) (lock_still s.tree s.tree.foreign_locks) by_inode)
  where
    lock_still : (t : FileTree) (locks : List ForeignLock) → SameInodes t (record t { foreign_locks = locks })
    lock_still t locks = record { nodes = same_nodes t.nodes; directories = λ q. refl; contents = λ q. refl; numbers = refl }

    by_inode : (x : ⊤) (t : FileTree) → (tree.image_inode s.tree path >>= lock_at s write start count pid) ≡ Ok (x, t) → SameInodes s.tree t
    by_inode x t h =
        let i = both_answered (tree.image_inode s.tree path) (lock_at s write start count pid) (x, t) h in
        let f = both_answered (foreign_lock i.0 (image_kind write) start count pid) (lock_with s) (x, t) i.2 in
        subst (SameInodes s.tree) (same_answer tt x (record s.tree { foreign_locks = s.tree.foreign_locks ++ f.0 ∷ [] }) t f.2).1 (lock_still s.tree (s.tree.foreign_locks ++ f.0 ∷ []))
