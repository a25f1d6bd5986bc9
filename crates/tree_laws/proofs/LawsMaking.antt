-- The laws of what the image and the calls make.
use Rattle.std.proofs.Common.{◌≡◌, ◌≢◌, ◌∙◌, ℕ, ◌+◌, ◌==◌, ◌&&◌, ◌||◌, ◌≤◌, nat_lt, not, Bool, true, false, List, [], ◌∷◌, ◌++◌, length, replicate, cond, Option, Some, None, is_some, Result, Ok, Err, refl, ap, sym, subst, inl, inr, arith}
use Rattle.std.proofs.lemmas.Bool.{eq-eqb}
use Rattle.std.proofs.lemmas.Bool.Decides.{nat_tests}
use Rattle.std.proofs.lemmas.Grind.{common_steps}
use Rattle.std.specs.BTreeMap.{is_at}
use Rattle.std.specs.Bool.{⊤}
use Rattle.std.specs.List.Sorted.{IsStrictlySortedBy}
use Rattle.std.specs.Ordering.{nat_cmp}
use Rattle.kernel_values.specs.Bounds.{most_file_bytes}
use Rattle.kernel_values.specs.Outcome.{◌>>=◌, ◌>>◌, refused_if, settled}
use Rattle.kernel_values.specs.declared.errno.Errno.{Errno}
use Rattle.kernel_values.specs.declared.errno.Errno.TheVariants.{FileTooLarge}
use Rattle.kernel_values.specs.declared.times.TimeSpec.{TimeSpec}
use Rattle.number_maps.specs.NumberMap.{IsAscending, at, put}
use Rattle.record_locks.specs.Foreign.{foreign_lock}
use Rattle.record_locks.specs.declared.state.ForeignLock.{ForeignLock}
use Rattle.file_tables.specs.Contained.{empty_directory}
use Rattle.file_tables.specs.Nodes.{touched}
use Rattle.file_tables.specs.Numbers.{given, new_number}
use Rattle.file_tables.specs.declared.state.Directory.{Directory}
use Rattle.file_tables.specs.declared.state.Entry.{Entry}
use Rattle.file_tables.specs.declared.state.Node.{Node}
use Rattle.file_tree.specs.Image as image
use Rattle.file_tree.specs.Image.{image_entry, image_inode, image_node, image_parent, is_free_inode, is_missing}
use Rattle.file_tree.specs.Lengths.{with_bytes}
use Rattle.file_tree.specs.Locks.{image_kind}
use Rattle.file_tree.specs.Making as making
use Rattle.file_tree.specs.Making.{directory_mode, file_mode, made_node}
use Rattle.file_tree.specs.Paths.{entry_at}
use Rattle.file_tree.specs.Status.{no_time}
use Rattle.file_tree.specs.declared.state.FileTree.{FileTree}
use Rattle.tree_laws.specs.Making.{FreshTreeIsSound, GivenNumberKeepsSound, ImageBytesKeepSound, ImageDirectoryKeepsSound, ImageFileKeepsSound, ImageLockKeepsSound, MadeDirectoryKeepsSound, MadeFileKeepsSound, SoundTreeStaysSound}
use Rattle.tree_laws.specs.Sound.{HasSoundNames, IsSound, NamesSound, NumbersSound}
use Rattle.tree_laws.specs.Views.{ReachesRoot, climbed, entry_in, is_there, lies_in, marked}
use Rattle.tree_laws.proofs.Entries.{lacks}
use Rattle.map_lemmas.proofs.Maps.{put_there, some_there}
use Rattle.tree_laws.proofs.NodeKinds.{no_bytes, same_node}
use Rattle.tree_laws.proofs.Numbers.{Only, named_unused, new_not_root, new_unused, numbers_given, numbers_more, numbers_named}
use Rattle.tree_laws.proofs.Positions.{empty_sound, positions_more}
use Rattle.map_lemmas.proofs.Steps.{both_answered, not_refused}
use Rattle.tree_laws.proofs.TreesChanged.{locks_keep_sound, with_bytes_sound}
use Rattle.tree_laws.proofs.TreesMade.{directory_sound, file_sound}
use Rattle.tree_laws.proofs.Views.{directory_of, holder_of, marked_put_apart, marked_touched, node_there}

-- ---- the tree at first
abbrev nodes_first : List (ℕ × Node)
nodes_first = (2, image_node 0x41ed) ∷ []

abbrev dirs_first : List (ℕ × Directory)
dirs_first = (2, empty_directory 2) ∷ []

one_ascends : {V : Type 0} (k : ℕ) (v : V) → IsAscending ((k, v) ∷ [])
unfolding IsStrictlySortedBy
one_ascends k v = (tt, tt)

none_ascends : IsAscending {V = List ℕ} []
unfolding IsStrictlySortedBy
none_ascends = tt

none_is : {X : Type 0} (x : X) → None ≡ Some x → ⊥
none_is x h = cc

alone_there : {V : Type 0} (r k : ℕ) (v w : V) → at ((k, v) ∷ []) r ≡ Some w → (r ≡ k) × (v ≡ w)
alone_there r k v w h = elim (put_there [] k r v w h) [ inl here ↦ here | inr old ↦ absurd (none_is w old) ]

kind_first : (n : Node) (d : Directory) (b : Bool) → is_some (cond b (Some n) None) ≡ (is_some (cond b (Some d) None) || false)
kind_first n d true = refl
kind_first n d false = refl

one_first : (d : Directory) (b : Bool) → (is_some (cond b (Some d) None) && false) ≡ false
one_first d true = refl
one_first d false = refl

node_first : (i : ℕ) → is_there nodes_first i ≡ true → i ≡ 2
node_first i h = let n = some_there (at nodes_first i) h in (alone_there i 2 (image_node 0x41ed) n.0 n.1).0

directory_first : (i : ℕ) (d : Directory) → at dirs_first i ≡ Some d → (i ≡ 2) × (empty_directory 2 ≡ d)
directory_first i d h = alone_there i 2 (empty_directory 2) d h

no_entry_first : (q p : ℕ) (e : Entry) → entry_in dirs_first q p ≡ Some e → ⊥
no_entry_first q p e h =
    let d = holder_of dirs_first q p e h in
    none_is e (subst (λ (y : Directory). at y.names p ≡ Some e) (sym (directory_first q d.0 d.1).1) d.2)

lies_first : (i z : ℕ) → lies_in dirs_first i ≡ Some z → i ≡ 2
lies_first i z h = let d = directory_of dirs_first i z h in (directory_first i d.0 d.1).0

marked_first : (i : ℕ) → marked nodes_first i ≡ Some true → i ≡ 2
marked_first i h = node_first i (node_there nodes_first i ∙ ap is_some h)

root_marked : marked nodes_first 2 ≡ Some true
unfolding marked
root_marked = refl

root_lies : lies_in dirs_first 2 ≡ Some 2
unfolding lies_in
root_lies = refl

root_reaches : ReachesRoot dirs_first 2
unfolding climbed
root_reaches = record { steps = 0; arrives = refl }

known_first : (i : ℕ) (b : Bool) → i ≡ 2 → ((i == 2) || b) ≡ true
known_first i b h = rw (eq-eqb i 2 h) refl

names_first : NamesSound nodes_first dirs_first
names_first = record {
  meant = λ q p e h. absurd (no_entry_first q p e h);
  rootless = λ q p e h. absurd (no_entry_first q p e h);
  alone = λ q p r s e f h g same. absurd (no_entry_first q p e h);
  up = λ q p z e h lies. absurd (no_entry_first q p e h);
  stands = λ i h root. absurd (root (marked_first i h));
  directories = λ i z h. ap (marked nodes_first) (lies_first i z h) ∙ root_marked;
}

pub fresh_tree_is_sound : FreshTreeIsSound
unfolding image.fresh_tree
fresh_tree_is_sound = record {
  ascend = record { nodes = one_ascends 2 (image_node 0x41ed); directories = one_ascends 2 (empty_directory 2); contents = none_ascends };
  kinds = record { some = λ i. kind_first (image_node 0x41ed) (empty_directory 2) (is_at (nat_cmp i) 2); one = λ i. one_first (empty_directory 2) (is_at (nat_cmp i) 2) };
  numbers = record { least = omega arith; counted = omega arith; known = λ i h. known_first i _ (node_first i h) };
  positions = λ q d h. subst (λ (y : Directory). HasSoundNames 0 y) (directory_first q d h).1 (empty_sound 0 2);
  root = root_lies;
  names = names_first;
  reach = λ i z h. subst (λ (k : ℕ). ReachesRoot dirs_first k) (sym (lies_first i z h)) root_reaches;
  sizes = λ i b h. absurd (none_is b h);
  working = refl;
}

pub sound_tree_stays_sound : SoundTreeStaysSound
sound_tree_stays_sound m n s le sound = record {
  ascend = sound.ascend;
  kinds = sound.kinds;
  numbers = numbers_more m n s.numbers s.nodes le sound.numbers;
  positions = positions_more m n s.directories le sound.positions;
  root = sound.root;
  names = sound.names;
  reach = sound.reach;
  sizes = sound.sizes;
  working = sound.working;
}

one_more_sound : (things : ℕ) (s : FileTree) → IsSound things s → IsSound (things + 1) s
one_more_sound things s sound = sound_tree_stays_sound things (things + 1) s (omega arith) sound

-- ---- a number was given
pub given_number_keeps_sound : GivenNumberKeepsSound
unfolding making.with_inode_given
given_number_keeps_sound things s sound few = record {
  ascend = record { nodes = sound.ascend.nodes; directories = sound.ascend.directories; contents = sound.ascend.contents };
  kinds = record { some = sound.kinds.some; one = sound.kinds.one };
  numbers = numbers_given things s.numbers s.nodes s.nodes few sound.numbers (λ k other h. h);
  positions = positions_more things (things + 1) s.directories (omega arith) sound.positions;
  root = sound.root;
  names = sound.names;
  reach = sound.reach;
  sizes = sound.sizes;
  working = sound.working;
}

-- ---- a file or a directory was made
only_one : (t : List (ℕ × Node)) (q i : ℕ) (now : TimeSpec) (n : Node) → Only t (put (touched t q now) i n) i
only_one t q i now n k other h = sym (same_node t (put (touched t q now) i n) k (marked_put_apart (touched t q now) i k n other ∙ marked_touched t q k now)) ∙ h

nothing_fits : length {A = ℕ} [] ≤ most_file_bytes
nothing_fits = omega arith

pub made_file_keeps_sound : MadeFileKeepsSound
unfolding making.with_file
made_file_keeps_sound things s m l mode sound few missing =
    let i : ℕ = new_number s.numbers in
    let node : Node = made_node m (file_mode mode) in
    file_sound things s l i m.time node (given s.numbers) sound (lacks s l missing) (new_not_root things s.numbers s.nodes few sound.numbers) (new_unused things s.numbers s.nodes few sound.numbers) refl [] nothing_fits
    (numbers_given things s.numbers s.nodes (put (touched s.nodes l.0 m.time) i node) few sound.numbers (only_one s.nodes l.0 i m.time node))

pub made_directory_keeps_sound : MadeDirectoryKeepsSound
unfolding making.with_directory
made_directory_keeps_sound things s m l mode sound few missing =
    let i : ℕ = new_number s.numbers in
    let node : Node = made_node m (directory_mode mode) in
    let unused : is_there s.nodes i ≡ false = new_unused things s.numbers s.nodes few sound.numbers in
    directory_sound things s l i m.time node (given s.numbers) sound (lacks s l missing) (new_not_root things s.numbers s.nodes few sound.numbers) unused refl
    (numbers_given things s.numbers s.nodes (put (touched s.nodes l.0 m.time) i node) few sound.numbers (only_one s.nodes l.0 i m.time node)) (no_bytes s i sound.kinds unused)

-- ---- the image
settled_sound : (things : ℕ) (s : FileTree) (r : Result (⊤ × FileTree) Errno) → ((x : ⊤ × FileTree) → r ≡ Ok x → IsSound things x.1) → IsSound things s → IsSound things (settled s r).1
settled_sound things s (Ok x) good sound = good x refl
settled_sound things s (Err e) good sound = sound

both_true : (a b : Bool) → (a && b) ≡ true → (a ≡ true) × (b ≡ true)
both_true true b h = (refl, h)
both_true false b h = absurd (let x : false ≡ true = h in cc)

is_false : (b : Bool) → not b ≡ true → b ≡ false
is_false true h = absurd (let x : false ≡ true = h in cc)
is_false false h = refl

missing_is : (r : Result (Option ℕ) Errno) → is_missing r ≡ true → r ≡ Ok None
missing_is (Ok None) h = refl
missing_is (Ok (Some i)) h = absurd (let x : false ≡ true = h in cc)
missing_is (Err e) h = absurd (let x : false ≡ true = h in cc)

-- what a free name tells
pub record FreeName (s : FileTree) (path : List ℕ) (inode : ℕ) : Type 0 where
  pub last : ℕ × List ℕ
  pub steps : image_parent s path ≡ Ok last
  pub missing : entry_at s last ≡ Ok None
  pub root : (inode == 2) ≡ false
  pub free : is_some (at s.numbers.image inode) ≡ false

free_name : (s : FileTree) (path : List ℕ) (inode : ℕ) → image.is_free_name s path inode ≡ true → FreeName s path inode
unfolding image.is_free_name image.image_entry
free_name s path inode h =
    let both = both_true (is_free_inode s inode) (is_missing (image_parent s path >>= entry_at s)) h in
    let number = both_true (not (inode == 2)) (not (is_some (at s.numbers.image inode))) both.0 in
    let l = both_answered (image_parent s path) (entry_at s) None (missing_is (image_parent s path >>= entry_at s) both.1) in
    record { last = l.0; steps = l.1; missing = l.2; root = is_false (inode == 2) number.0; free = is_false (is_some (at s.numbers.image inode)) number.1 }

zeros_long : (n : ℕ) → length (replicate {A = ℕ} n 0) ≡ n
zeros_long n = grind (arith, common_steps)

not_two : (i : ℕ) → (i == 2) ≡ false → i ≢ 2
not_two i h same = let t : (i == 2) ≡ true = eq-eqb i 2 same in absurd (cc)

module _ (things : ℕ) (s : FileTree) (path : List ℕ) (inode : ℕ) (sound : IsSound things s) (start : s.numbers.next ≡ 0x1000) (f : FreeName s path inode) where
  unused : is_there s.nodes inode ≡ false
  unused = named_unused things s.numbers s.nodes inode start f.root f.free sound.numbers

  counts : (n : Node) → NumbersSound (things + 1) (record s.numbers { image = put s.numbers.image inode tt }) (put (touched s.nodes f.last.0 no_time) inode n)
  counts n = numbers_named things s.numbers s.nodes (put (touched s.nodes f.last.0 no_time) inode n) inode sound.numbers (only_one s.nodes f.last.0 inode no_time n)

  pub named_directory : IsSound (things + 1) (image.with_image_directory s f.last inode)
  unfolding image.with_image_directory
  named_directory = directory_sound things s f.last inode no_time (image_node 0x41ed) (record s.numbers { image = put s.numbers.image inode tt }) sound (lacks s f.last f.missing) (not_two inode f.root) unused refl (counts (image_node 0x41ed)) (no_bytes s inode sound.kinds unused)

  pub named_file : (size : ℕ) → size ≤ most_file_bytes → IsSound (things + 1) (image.with_image_file s f.last inode size)
  unfolding image.with_image_file
  named_file size fits =
      file_sound things s f.last inode no_time (image_node 0x81a4) (record s.numbers { image = put s.numbers.image inode tt }) sound (lacks s f.last f.missing) (not_two inode f.root) unused refl (replicate size 0) (subst (λ (n : ℕ). n ≤ most_file_bytes) (sym (zeros_long size)) fits) (counts (image_node 0x81a4))

same_state : (a b : ⊤ × FileTree) → ◌≡◌ {A = Result (⊤ × FileTree) Errno} (Ok a) (Ok b) → a.1 ≡ b.1
same_state a b h = let both : a ≡ b = cc in ap (λ (x : ⊤ × FileTree). x.1) both

same_last : (a b : ℕ × List ℕ) → ◌≡◌ {A = Result (ℕ × List ℕ) Errno} (Ok a) (Ok b) → a ≡ b
same_last a b h = cc

pub image_directory_keeps_sound : ImageDirectoryKeepsSound
image_directory_keeps_sound things s path inode sound start free =
    let f : FreeName s path inode = free_name s path inode free in
    settled_sound (things + 1) s (image_parent s path >>= λ l. Ok (tt, image.with_image_directory s l inode)) (λ x h. (
    let l = both_answered (image_parent s path) (λ (l : ℕ × List ℕ). Ok (tt, image.with_image_directory s l inode)) x h in
    let last : f.last ≡ l.0 = same_last f.last l.0 (sym f.steps ∙ l.1) in
    let made : image.with_image_directory s l.0 inode ≡ x.1 = same_state (tt, image.with_image_directory s l.0 inode) x l.2 in
    subst (λ (t : FileTree). IsSound (things + 1) t) (ap (λ (k : ℕ × List ℕ). image.with_image_directory s k inode) last ∙ made) (named_directory things s path inode sound start f))) (one_more_sound things s sound)

fits_in : (most n : ℕ) → nat_lt most n ≡ false → n ≤ most
fits_in most n h = grind (arith, nat_tests)

pub image_file_keeps_sound : ImageFileKeepsSound
image_file_keeps_sound things s path inode size sound start free =
    let f : FreeName s path inode = free_name s path inode free in
    settled_sound (things + 1) s (refused_if (nat_lt most_file_bytes size) FileTooLarge >> (image_parent s path >>= λ l. Ok (tt, image.with_image_file s l inode size))) (λ x h. (
    let fits = not_refused (nat_lt most_file_bytes size) FileTooLarge (image_parent s path >>= λ l. Ok (tt, image.with_image_file s l inode size)) x h in
    let l = both_answered (image_parent s path) (λ (l : ℕ × List ℕ). Ok (tt, image.with_image_file s l inode size)) x fits.1 in
    let last : f.last ≡ l.0 = same_last f.last l.0 (sym f.steps ∙ l.1) in
    let made : image.with_image_file s l.0 inode size ≡ x.1 = same_state (tt, image.with_image_file s l.0 inode size) x l.2 in
    subst (λ (t : FileTree). IsSound (things + 1) t) (ap (λ (k : ℕ × List ℕ). image.with_image_file s k inode size) last ∙ made) (named_file things s path inode sound start f size (fits_in most_file_bytes size fits.0)))) (one_more_sound things s sound)

pub image_bytes_keep_sound : ImageBytesKeepSound
image_bytes_keep_sound things s path offset bytes sound =
    settled_sound things s (refused_if (nat_lt most_file_bytes (offset + length bytes)) FileTooLarge >> (image_inode s path >>= λ i. Ok (tt, with_bytes s i offset bytes))) (λ x h. (
    let fits = not_refused (nat_lt most_file_bytes (offset + length bytes)) FileTooLarge (image_inode s path >>= λ i. Ok (tt, with_bytes s i offset bytes)) x h in
    let i = both_answered (image_inode s path) (λ (i : ℕ). Ok (tt, with_bytes s i offset bytes)) x fits.1 in
    subst (λ (t : FileTree). IsSound things t) (same_state (tt, with_bytes s i.0 offset bytes) x i.2) (with_bytes_sound things s i.0 offset bytes sound (fits_in most_file_bytes (offset + length bytes) fits.0)))) sound

abbrev locked_by : FileTree → ForeignLock → Result (⊤ × FileTree) Errno
locked_by s f = Ok (tt, record s { foreign_locks = s.foreign_locks ++ f ∷ [] })

pub image_lock_keeps_sound : ImageLockKeepsSound
image_lock_keeps_sound things s path write start count pid sound =
    settled_sound things s (image_inode s path >>= λ i. (foreign_lock i (image_kind write) start count pid >>= locked_by s)) (λ x h. (
    let i = both_answered (image_inode s path) (λ (i : ℕ). (foreign_lock i (image_kind write) start count pid >>= locked_by s)) x h in
    let f = both_answered (foreign_lock i.0 (image_kind write) start count pid) (locked_by s) x i.2 in
    subst (λ (t : FileTree). IsSound things t) (same_state (tt, record s { foreign_locks = s.foreign_locks ++ f.0 ∷ [] }) x f.2) (locks_keep_sound things s s.own_locks (s.foreign_locks ++ f.0 ∷ []) sound))) sound
