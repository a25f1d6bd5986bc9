-- Locks of the process.
use Rattle.std.proofs.Common.{◌≡◌, ℕ, not, Option, is_some, Result, Ok, Err, refl, ap, subst}
use Rattle.std.specs.Bool.{⊤}
use Rattle.kernel_values.specs.Outcome.{◌>>=◌, ◌>>◌, refused_if}
use Rattle.kernel_values.specs.declared.errno.Errno.{Errno}
use Rattle.kernel_values.specs.declared.errno.Errno.TheVariants.{BadDescriptor, InvalidArgument, TryAgain}
use Rattle.kernel_values.specs.declared.locks.Lock.{Lock}
use Rattle.kernel_values.specs.declared.open_flags.OpenFlags.{OpenFlags}
use Rattle.record_locks.specs.Foreign.{obstacle}
use Rattle.record_locks.specs.Ranges.{lock_kind}
use Rattle.record_locks.specs.declared.state.ByteRange.{ByteRange}
use Rattle.record_locks.specs.declared.state.LockKind.{LockKind}
use Rattle.file_tree.specs.Locks as tree
use Rattle.file_tree.specs.OwnLocks.{locked}
use Rattle.file_tree.specs.declared.state.FileTree.{FileTree}
use Rattle.open_files.specs.Descriptors.{open_file}
use Rattle.open_files.specs.Kinds.{is_of_file}
use Rattle.open_files.specs.declared.state.OpenFile.{OpenFile}
use Rattle.map_lemmas.proofs.Steps.{both_answered, kept_by_settled, not_refused, same_answer, same_value}
use Rattle.file_store.specs.State.{with_tree}
use Rattle.file_store.specs.declared.state.Files.{Files}
use Rattle.sound_files.specs.Laws.{SetLockIsSound}
use Rattle.sound_files.specs.Sound.{IsSound}
use Rattle.sound_files.proofs.Simple.{same_is_sound}
use Rattle.sound_files.proofs.Views.{SameInodes, same_nodes}

tree_answered : {A : Type 0} (s after : Files) (r : Result (A × FileTree) Errno) (x : A) → with_tree s r ≡ Ok (x, after) → (t : FileTree) × (r ≡ Ok (x, t)) × (record s { tree = t } ≡ after)
tree_answered {A} s after (Ok y) x h =
    let both : ◌≡◌ {A = A × Files} (y.0, record s { tree = y.1 }) (x, after) = same_value (y.0, record s { tree = y.1 }) (x, after) h in
    (y.1, ap (λ (z : A). Ok (z, y.1)) (ap (λ (z : A × Files). z.0) both), ap (λ (z : A × Files). z.1) both)
tree_answered s after (Err e) x h = cc

locked_same : (t : FileTree) (i : ℕ) (wanted : Option LockKind) (r : ByteRange) → SameInodes t (record t { own_locks = locked t.own_locks i wanted r })
locked_same t i wanted r = record { nodes = same_nodes t.nodes; directories = λ q. refl; contents = λ q. refl; numbers = refl }

module _ (t : FileTree) (i position : ℕ) (flags : OpenFlags) (l : Lock) where
  abbrev locked_at : Option LockKind → ByteRange → Result (⊤ × FileTree) Errno
  locked_at wanted r = refused_if (not (tree.may_set flags wanted)) BadDescriptor >> (refused_if (is_some (obstacle t.foreign_locks i wanted r)) TryAgain >> Ok (tt, record t { own_locks = locked t.own_locks i wanted r }))

  abbrev locked_of : Option LockKind → Result (⊤ × FileTree) Errno
  locked_of wanted = tree.lock_bytes t i position l >>= locked_at wanted

  set_same : (x : ⊤) (u : FileTree) → tree.set_lock t i position flags l ≡ Ok (x, u) → SameInodes t u
  set_same x u h =
      let wanted = both_answered (lock_kind l.kind) locked_of (x, u) h in
      let r = both_answered (tree.lock_bytes t i position l) (locked_at wanted.0) (x, u) wanted.2 in
      let may = not_refused (not (tree.may_set flags wanted.0)) BadDescriptor _ (x, u) r.2 in
      let free = not_refused (is_some (obstacle t.foreign_locks i wanted.0 r.0)) TryAgain (Ok (tt, record t { own_locks = locked t.own_locks i wanted.0 r.0 })) (x, u) may.1 in
      subst (SameInodes t) (same_answer tt x (record t { own_locks = locked t.own_locks i wanted.0 r.0 }) u free.1).1 (locked_same t i wanted.0 r.0)

abbrev lock_of : Files → Lock → ℕ × OpenFile → Result (⊤ × Files) Errno
lock_of s l f = refused_if (not (is_of_file f.1.kind)) InvalidArgument >> with_tree s (tree.set_lock s.tree f.1.inode f.1.position f.1.flags l)

pub set_lock_is_sound : SetLockIsSound
set_lock_is_sound s fd l sound = kept_by_settled IsSound s (open_file s.open_files fd >>= lock_of s l) sound by_file
  where
    by_file : (x : ⊤) (after : Files) → (open_file s.open_files fd >>= lock_of s l) ≡ Ok (x, after) → IsSound after
    by_file x after h =
        let f = both_answered (open_file s.open_files fd) (lock_of s l) (x, after) h in
        let file = not_refused (not (is_of_file f.0.1.kind)) InvalidArgument (with_tree s (tree.set_lock s.tree f.0.1.inode f.0.1.position f.0.1.flags l)) (x, after) f.2 in
        let t = tree_answered s after (tree.set_lock s.tree f.0.1.inode f.0.1.position f.0.1.flags l) x file.1 in
        subst IsSound t.2 (same_is_sound s t.0 sound (set_same s.tree f.0.1.inode f.0.1.position f.0.1.flags l x t.0 t.1))
