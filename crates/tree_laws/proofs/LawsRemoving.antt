-- The laws of names that go or move, and of locks.
use Rattle.std.proofs.Common.{◌≡◌, ◌≢◌, ◌∙◌, ℕ, ◌||◌, not, Bool, true, false, List, cond, Option, Some, None, is_some, Result, Ok, refl, ap, sym, subst, inl, inr}
use Rattle.std.specs.Bool.{⊤}
use Rattle.kernel_values.specs.Outcome.{◌>>◌, refused_if}
use Rattle.kernel_values.specs.declared.errno.Errno.{Errno}
use Rattle.kernel_values.specs.declared.errno.Errno.TheVariants.{BadDescriptor, TryAgain}
use Rattle.kernel_values.specs.declared.times.TimeSpec.{TimeSpec}
use Rattle.number_maps.specs.NumberMap.{at, removed}
use Rattle.record_locks.specs.Foreign.{obstacle}
use Rattle.record_locks.specs.Ranges.{lock_kind}
use Rattle.record_locks.specs.declared.state.ByteRange.{ByteRange}
use Rattle.record_locks.specs.declared.state.LockKind.{LockKind}
use Rattle.file_tables.specs.Nodes.{stays_as}
use Rattle.file_tables.specs.declared.state.Node.{Node}
use Rattle.file_tree.specs.Locks.{lock_bytes, may_set}
use Rattle.file_tree.specs.OwnLocks.{locked}
use Rattle.file_tree.specs.Removing as removing
use Rattle.file_tree.specs.declared.state.FileTree.{FileTree}
use Rattle.tree_laws.specs.Changing.{LockKeepsSound}
use Rattle.tree_laws.specs.Removing.{LettingGoKeepsSound, RemovedDirectoryKeepsSound, RenamedTreeStaysSound, UnnamedFileKeepsSound}
use Rattle.tree_laws.specs.Sound.{IsSound}
use Rattle.tree_laws.specs.Views.{is_there, lies_in, marked}
use Rattle.tree_laws.proofs.Entries.{Finds, finds, lacks}
use Rattle.map_lemmas.proofs.Maps.{ascending_removed, at_gone, at_removed_apart, one_or_other, removed_there}
use Rattle.tree_laws.proofs.Names.{names_forgotten}
use Rattle.tree_laws.proofs.NodeKinds.{kinds_but}
use Rattle.tree_laws.proofs.Numbers.{numbers_stay}
use Rattle.map_lemmas.proofs.Steps.{both_answered, not_refused}
use Rattle.tree_laws.proofs.TreesChanged.{locks_keep_sound}
use Rattle.tree_laws.proofs.TreesLeft.{closed_sound, held_sound, thrown_sound}
use Rattle.tree_laws.proofs.TreesRenamed.{Spare, differ, is_movable, is_spare, renamed_new, renamed_over}
use Rattle.tree_laws.proofs.Views.{directory_there, marked_gone, marked_removed_apart}

unnamed_case : (things : ℕ) (s : FileTree) (now : TimeSpec) (l : ℕ × List ℕ) (i : ℕ) (held : Bool) → IsSound things s → Finds s.directories l.0 l.1 i → is_there s.directories i ≡ false → IsSound things (removing.unnamed (removing.without_name s now l) i held)
unfolding removing.unnamed removing.without_name
unnamed_case things s now l i true sound f file = held_sound things s l i now sound f file
unnamed_case things s now l i false sound f file = thrown_sound things s l i now sound f file

pub unnamed_file_keeps_sound : UnnamedFileKeepsSound
unnamed_file_keeps_sound things s now l i held sound plain entry file = unnamed_case things s now l i held sound (finds s l i plain entry) file

closed_case : (things : ℕ) (s : FileTree) (now : TimeSpec) (l : ℕ × List ℕ) (i : ℕ) → IsSound things s → Finds s.directories l.0 l.1 i → Spare s i → IsSound things (removing.without_directory (removing.without_name s now l) i)
unfolding removing.without_directory removing.without_name
closed_case things s now l i sound f d = closed_sound things s l i now sound f d.dir d.there d.empty d.working

pub removed_directory_keeps_sound : RemovedDirectoryKeepsSound
removed_directory_keeps_sound things s now l i held sound plain entry spare = closed_case things s now l i sound (finds s l i plain entry) (is_spare s i held spare)

-- ---- what has no name
abbrev forgotten : FileTree → ℕ → FileTree
forgotten s i = record s { nodes = removed s.nodes i; contents = removed s.contents i }

neither : (a b : Bool) → (a || b) ≡ false → (a ≡ false) × (b ≡ false)
neither true b h = cc
neither false b h = (refl, h)

unmarked_case : (o : Option Node) → stays_as o ≡ false → (n : Node) × (o ≡ Some n) × (n.has_name ≡ false)
unmarked_case None h = absurd (let x : true ≡ false = h in cc)
unmarked_case (Some n) h = (n, refl, h)

unmarked : (t : List (ℕ × Node)) (i : ℕ) → stays_as (at t i) ≡ false → marked t i ≢ Some true
unfolding marked
unmarked t i h g =
    let n = unmarked_case (at t i) h in
    let named : Some n.0.has_name ≡ Some true = sym (ap (λ (o : Option Node). elim o as (λ x. Option Bool) [ None ↦ None | Some y ↦ Some y.has_name ]) n.1) ∙ g in
    absurd (let x : n.0.has_name ≡ true = cc in let y : n.0.has_name ≡ false = n.2 in cc)

no_directory_case : (things : ℕ) (s : FileTree) (i : ℕ) (o : Option ℕ) → IsSound things s → lies_in s.directories i ≡ o → marked s.nodes i ≢ Some true → is_some o ≡ false
no_directory_case things s i None sound h free = refl
no_directory_case things s i (Some z) sound h free = absurd (free (sound.names.directories i z h))

gone_not : (b : Bool) → b ≡ false → b ≡ true → ⊥
gone_not b h g = cc

forgotten_sound : (things : ℕ) (s : FileTree) (i : ℕ) → IsSound things s → marked s.nodes i ≢ Some true → IsSound things (forgotten s i)
forgotten_sound things s i sound free =
    let none : is_there (removed s.nodes i) i ≡ false = ap is_some (at_gone s.nodes i sound.ascend.nodes) in
    record {
      ascend = record { nodes = ascending_removed s.nodes i sound.ascend.nodes; directories = sound.ascend.directories; contents = ascending_removed s.contents i sound.ascend.contents };
      kinds = kinds_but s (forgotten s i) i false false sound.kinds
          (λ k other. record { node = ap is_some (at_removed_apart s.nodes k i other); directory = refl; content = ap is_some (at_removed_apart s.contents k i other) })
          (record { node = none; directory = directory_there s.directories i ∙ no_directory_case things s i (lies_in s.directories i) sound refl free; content = ap is_some (at_gone s.contents i sound.ascend.contents); one = refl });
      numbers = numbers_stay things s.numbers s.nodes (removed s.nodes i) sound.numbers (λ k h. elim (one_or_other k i) [
        | inl same ↦ absurd (gone_not (is_there (removed s.nodes i) k) (ap (is_there (removed s.nodes i)) same ∙ none) h)
        | inr other ↦ sym (ap is_some (at_removed_apart s.nodes k i other)) ∙ h
      ]);
      positions = sound.positions;
      root = sound.root;
      names = names_forgotten s.nodes (removed s.nodes i) s.directories i free (λ h. absurd (let x : None ≡ Some true = sym (marked_gone s.nodes i sound.ascend.nodes) ∙ h in cc)) (λ k other. marked_removed_apart s.nodes i k other) sound.names;
      reach = sound.reach;
      sizes = λ k b h. sound.sizes k b (removed_there s.contents i k b sound.ascend.contents h);
      working = sound.working;
    }

letting_case : (things : ℕ) (s : FileTree) (i : ℕ) (held b : Bool) → (stays_as (at s.nodes i) || held) ≡ b → IsSound things s → IsSound things (cond b s (forgotten s i))
letting_case things s i held true h sound = sound
letting_case things s i held false h sound = forgotten_sound things s i sound (unmarked s.nodes i (neither (stays_as (at s.nodes i)) held h).0)

pub letting_go_keeps_sound : LettingGoKeepsSound
unfolding removing.let_go
letting_go_keeps_sound things s i held sound = letting_case things s i held (stays_as (at s.nodes i) || held) refl sound

-- ---- a name that moves
pub renamed_tree_stays_sound : RenamedTreeStaysSound
renamed_tree_stays_sound things s now l m path i None held sound old new meant replaced other may =
    renamed_new things s now l m i sound (finds s l i old meant) held (lacks s m replaced) (is_movable s i m path None held may)
renamed_tree_stays_sound things s now l m path i (Some j) held sound old new meant replaced other may =
    renamed_over things s now l m i sound (finds s l i old meant) j held (finds s m j new replaced) (differ i j other) (is_movable s i m path (Some j) held may)

-- ---- a lock of the process
abbrev lock_set : FileTree → ℕ → Option LockKind → ByteRange → Result (⊤ × FileTree) Errno
lock_set s inode wanted r = Ok (tt, record s { own_locks = locked s.own_locks inode wanted r })

pub lock_keeps_sound : LockKeepsSound
lock_keeps_sound things s after inode position flags l sound h =
    let wanted = both_answered (lock_kind l.kind) _ (tt, after) h in
    let r = both_answered (lock_bytes s inode position l) _ (tt, after) wanted.2 in
    let may = not_refused (not (may_set flags wanted.0)) BadDescriptor (refused_if (is_some (obstacle s.foreign_locks inode wanted.0 r.0)) TryAgain >> lock_set s inode wanted.0 r.0) (tt, after) r.2 in
    let free = not_refused (is_some (obstacle s.foreign_locks inode wanted.0 r.0)) TryAgain (lock_set s inode wanted.0 r.0) (tt, after) may.1 in
    let set : ◌≡◌ {A = ⊤ × FileTree} (tt, record s { own_locks = locked s.own_locks inode wanted.0 r.0 }) (tt, after) = cc in
    subst (λ (t : FileTree). IsSound things t) (ap (λ (x : ⊤ × FileTree). x.1) set) (locks_keep_sound things s (locked s.own_locks inode wanted.0 r.0) s.foreign_locks sound)
