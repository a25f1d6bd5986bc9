-- Descriptors that are closed, and put in the place of others.
use Rattle.std.proofs.Common.{◌≡◌, ◌≢◌, ◌∙◌, ℕ, ℤ, zero, suc, ◌^◌, ◌==◌, ◌&&◌, ◌||◌, ◌≤◌, ◌<◌, nat_le, not, Bool, true, false, List, [], ◌∷◌, length, cond, Option, Some, None, Result, Ok, refl, ap, sym, subst, arith}
use Rattle.std.proofs.lemmas.Grind.{common_steps}
use Rattle.std.specs.Bool.{⊤}
use Rattle.kernel_values.specs.Outcome.{◌>>=◌, ◌>>◌, refused_if}
use Rattle.kernel_values.specs.declared.errno.Errno.{Errno}
use Rattle.kernel_values.specs.declared.errno.Errno.TheVariants.{BadDescriptor, InvalidArgument}
use Rattle.number_maps.specs.NumberMap.{IsAscending, at, removed}
use Rattle.file_tree.specs.Removing.{let_go, without_locks_on}
use Rattle.file_tables.specs.Nodes.{stays_as}
use Rattle.file_tree.specs.declared.state.FileTree.{FileTree}
use Rattle.socket_tables.specs.Sockets.{SocketsState, held_by, no_sockets, without}
use Rattle.open_files.specs.Descriptors.{descriptor_of, number_of, with_descriptor, without_descriptor, without_open_file}
use Rattle.open_files.specs.Holding.{is_held, is_open}
use Rattle.open_files.specs.Kinds.{is_of_pipe}
use Rattle.open_files.specs.Piping.{drained}
use Rattle.open_files.specs.declared.state.Descriptor.{Descriptor}
use Rattle.open_files.specs.declared.state.OpenFile.{OpenFile}
use Rattle.open_files.specs.declared.state.OpenFiles.{OpenFiles}
use Rattle.open_laws.proofs.Ended.{drained_is_sound, gone_is_sound, unnamed_is_sound}
use Rattle.open_laws.proofs.Follows.{IsDescriptor, descriptor_found}
use Rattle.map_lemmas.proofs.Maps.{ascending_removed, at_gone, at_removed_apart, not_both, some_there}
use Rattle.open_laws.proofs.Named.{named_is_sound}
use Rattle.map_lemmas.proofs.Steps.{both_answered, kept_by_settled, not_refused, same_answer}
use Rattle.file_store.specs.Closing.{close_all, closed_times, lowest_closed}
use Rattle.file_store.specs.Descriptors.{closed, is_dup_flags, is_number, vacated}
use Rattle.file_store.specs.Releasing.{all_swept, ended, ended_as, held_in, let_go_of, released, without_locks}
use Rattle.file_store.specs.declared.state.Files.{Files}
use Rattle.file_store.proofs.Sweepings.{nothing_swept, sockets_stay}
use Rattle.sound_files.specs.Laws.{CloseAllIsSound, CloseIsSound, DuplicateToIsSound}
use Rattle.sound_files.specs.Sound.{Belongs, IsSound}
use Rattle.sound_files.proofs.Changes.{unlocked_same}
use Rattle.sound_files.proofs.Opened.{let_go_left, pipe_left}
use Rattle.sound_files.proofs.Trees.{belongs_still}
use Rattle.sound_files.proofs.Views.{same_suits}

-- ---- where no socket was made, an open file that goes is all that goes
absent : (t : SocketsState) (serial : ℕ) → t ≡ no_sockets → without t serial ≡ t
unfolding without
absent t serial none = subst (λ (x : SocketsState). without x serial ≡ x) (sym none) refl

ended_alone : (s : Files) (serial : ℕ) → s.open_files.sockets ≡ no_sockets → ended s serial ≡ ended_as s serial (at s.open_files.files serial)
unfolding ended
ended_alone s serial none =
    let t : Files = ended_as s serial (at s.open_files.files serial) in
    ap (λ (x : SocketsState). record t { open_files = record t.open_files { sockets = x } }) (absent t.open_files.sockets serial (sockets_stay s serial (at s.open_files.files serial) ∙ none))

swept_alone : (s : Files) (serial : ℕ) → s.open_files.sockets ≡ no_sockets → all_swept (ended s serial) (held_in s serial) ≡ ended_as s serial (at s.open_files.files serial)
swept_alone s serial none =
    let nothing : held_in s serial ≡ [] = ap (λ (x : SocketsState). held_by x.entries serial) none in
    ap (all_swept (ended s serial)) nothing ∙ nothing_swept (ended s serial) ∙ ended_alone s serial none

released_alone : (s : Files) (serial : ℕ) → s.open_files.sockets ≡ no_sockets → released s serial ≡ cond (is_held s.open_files serial) s (ended_as s serial (at s.open_files.files serial))
unfolding released
released_alone s serial none = ap (λ (t : Files). cond (is_held s.open_files serial) s t) (swept_alone s serial none)

-- what a close left
pub record IsClosed (s : Files) (n : ℕ) (after : Files) : Type 0 where
  pub sound : IsSound after
  pub ascend : IsAscending after.tree.nodes
  pub descriptors : after.open_files.descriptors ≡ removed s.open_files.descriptors n

module _ (s : Files) (n : ℕ) (d : Descriptor) (f : OpenFile) (sound : IsSound s) (ascend : IsAscending s.tree.nodes) (named : at s.open_files.descriptors n ≡ Some d) (there : at s.open_files.files d.serial ≡ Some f) where
  abbrev tree : FileTree
  tree = without_locks_on s.tree f.inode

  abbrev open_files : OpenFiles
  open_files = without_descriptor s.open_files n

  abbrev unlocked : Files
  unlocked = record { tree = tree; open_files = open_files }

  unlocked_belongs : Belongs tree s.open_files.files
  unlocked_belongs = belongs_still s.open_files.files s.tree tree sound.belong (same_suits s.open_files.files s.tree tree (unlocked_same s.tree f.inode))

  unlocked_ascends : IsAscending tree.nodes
  unfolding without_locks_on
  unlocked_ascends = ascend

  abbrev without_file : OpenFiles
  without_file = without_open_file open_files d.serial

  still_held : is_held open_files d.serial ≡ true → IsClosed s n unlocked
  still_held held = record {
    sound = record { open_files = unnamed_is_sound s.open_files n d sound.open_files named held; belong = unlocked_belongs };
    ascend = unlocked_ascends;
    descriptors = refl;
  }

  drained_files : (i : ℕ) → (drained without_file i).files ≡ without_file.files
  unfolding drained
  drained_files i = by_open (is_open without_file.files i)
    where
      by_open : (b : Bool) → (cond b without_file (record without_file { pipes = removed without_file.pipes i })).files ≡ without_file.files
      by_open true = refl
      by_open false = refl

  drained_descriptors : (i : ℕ) → (drained without_file i).descriptors ≡ without_file.descriptors
  unfolding drained
  drained_descriptors i = by_open (is_open without_file.files i)
    where
      by_open : (b : Bool) → (cond b without_file (record without_file { pipes = removed without_file.pipes i })).descriptors ≡ without_file.descriptors
      by_open true = refl
      by_open false = refl

  abbrev dry : Files
  dry = record unlocked { open_files = drained without_file f.inode }

  abbrev freed : Files
  freed = record unlocked { tree = let_go tree f.inode (is_open without_file.files f.inode); open_files = without_file }

  let_go_ascends : (held : Bool) → IsAscending (let_go tree f.inode held).nodes
  unfolding let_go without_locks_on
  let_go_ascends held = by_test (stays_as (at s.tree.nodes f.inode)) held
    where
      by_test : (a b : Bool) → IsAscending (cond (a || b) (without_locks_on s.tree f.inode) (record (without_locks_on s.tree f.inode) { nodes = removed s.tree.nodes f.inode; contents = removed s.tree.contents f.inode })).nodes
      by_test true b = ascend
      by_test false true = ascend
      by_test false false = ascending_removed s.tree.nodes f.inode ascend

  last_case : (pipe : Bool) → is_of_pipe f.kind ≡ pipe → is_held open_files d.serial ≡ false → IsClosed s n (cond pipe dry freed)
  last_case true pipe last = record {
    sound = record {
      open_files = drained_is_sound s.open_files n d f sound.open_files (record { named = named; there = there; last = last });
      belong = subst (Belongs tree) (sym (drained_files f.inode)) (pipe_left tree s.open_files.files d.serial f sound.open_files.ascend.files there unlocked_belongs pipe);
    };
    ascend = unlocked_ascends;
    descriptors = drained_descriptors f.inode;
  }
  last_case false pipe last = record {
    sound = record {
      open_files = gone_is_sound s.open_files n d f sound.open_files (record { named = named; there = there; last = last }) pipe;
      belong = let_go_left tree s.open_files.files d.serial f sound.open_files.ascend.files there unlocked_belongs unlocked_ascends;
    };
    ascend = let_go_ascends (is_open without_file.files f.inode);
    descriptors = refl;
  }

  held_case : (held : Bool) → is_held open_files d.serial ≡ held → IsClosed s n (cond held unlocked (cond (is_of_pipe f.kind) dry freed))
  held_case true held = still_held held
  held_case false last = last_case (is_of_pipe f.kind) refl last

  closed_here : IsClosed s n (closed s n d.serial)
  unfolding closed without_locks let_go_of
  closed_here = rw there (subst (IsClosed s n) (sym (released_alone unlocked d.serial sound.open_files.sockets)) (rw there (held_case (is_held open_files d.serial) refl)))

pub is_closed : (s : Files) (n : ℕ) (d : Descriptor) → IsSound s → IsAscending s.tree.nodes → at s.open_files.descriptors n ≡ Some d → IsClosed s n (closed s n d.serial)
is_closed s n d sound ascend named =
    let f = some_there (at s.open_files.files d.serial) (sound.open_files.descriptors n d named).there in
    closed_here s n d f.0 sound ascend named f.1

-- ---- close
abbrev closed_at : Files → ℕ × Descriptor → Result (⊤ × Files) Errno
closed_at s d = Ok (tt, closed s d.0 d.1.serial)

pub close_is_sound : CloseIsSound
close_is_sound s fd sound ascend = kept_by_settled IsSound s (descriptor_of s.open_files fd >>= closed_at s) sound by_descriptor
  where
    by_descriptor : (x : ⊤) (after : Files) → (descriptor_of s.open_files fd >>= closed_at s) ≡ Ok (x, after) → IsSound after
    by_descriptor x after h =
        let d = both_answered (descriptor_of s.open_files fd) (closed_at s) (x, after) h in
        let there : at s.open_files.descriptors d.0.0 ≡ Some d.0.1 = (descriptor_found s.open_files fd d.0 d.1).there in
        subst IsSound (same_answer tt x (closed s d.0.0 d.0.1.serial) after d.2).1 (is_closed s d.0.0 d.0.1 sound ascend there).sound

-- ---- all of them
itself : (k : ℕ) → (k == k) ≡ true
itself k = grind (arith, common_steps)

first_there : (d : ℕ × Descriptor) (ds : List (ℕ × Descriptor)) → at (d ∷ ds) d.0 ≡ Some d.1
first_there d ds = grind (arith, common_steps)

lowest_case : (s : Files) (ds : List (ℕ × Descriptor)) → IsSound s → IsAscending s.tree.nodes → s.open_files.descriptors ≡ ds → IsSound (lowest_closed s ds) × IsAscending (lowest_closed s ds).tree.nodes
lowest_case s [] sound ascend h = (sound, ascend)
lowest_case s (d ∷ ds) sound ascend h =
    let c = is_closed s d.0 d.1 sound ascend (ap (λ (t : List (ℕ × Descriptor)). at t d.0) h ∙ first_there d ds) in
    (c.sound, c.ascend)

times_case : (n : ℕ) (s : Files) → IsSound s → IsAscending s.tree.nodes → IsSound (closed_times n s)
unfolding closed_times
times_case zero s sound ascend = sound
times_case (suc n) s sound ascend =
    let c = lowest_case s s.open_files.descriptors sound ascend refl in
    times_case n (lowest_closed s s.open_files.descriptors) c.0 c.1

pub close_all_is_sound : CloseAllIsSound
unfolding close_all
close_all_is_sound s sound ascend = times_case (length s.open_files.descriptors) s sound ascend

-- ---- a copy in the place of another
vacated_case : (s : Files) (n : ℕ) (o : Option Descriptor) → IsSound s → IsAscending s.tree.nodes → at s.open_files.descriptors n ≡ o → IsSound (vacated s n o) × ((m : ℕ) → m ≢ n → at (vacated s n o).open_files.descriptors m ≡ at s.open_files.descriptors m) × (at (vacated s n o).open_files.descriptors n ≡ None)
vacated_case s n None sound ascend h = (sound, λ m other. refl, h)
vacated_case s n (Some d) sound ascend h =
    let c : IsClosed s n (closed s n d.serial) = is_closed s n d sound ascend h in (
      c.sound,
      λ m other. ap (λ (t : List (ℕ × Descriptor)). at t m) c.descriptors ∙ at_removed_apart s.open_files.descriptors m n other,
      ap (λ (t : List (ℕ × Descriptor)). at t n) c.descriptors ∙ at_gone s.open_files.descriptors n sound.open_files.ascend.descriptors,
    )

within : (limit n : ℕ) → limit ≤ 2 ^ 32 → nat_le limit n ≡ false → n < 2 ^ 32
within limit n word h = grind (arith, common_steps)

differ : (a b : ℕ) → (a == b) ≡ false → a ≢ b
differ a b h same = let e : (a == b) ≡ true = ap (λ (k : ℕ). a == k) (sym same) ∙ itself a in cc

module _ (s : Files) (limit : ℕ) (flags : ℕ) (three : Bool) (sound : IsSound s) (ascend : IsAscending s.tree.nodes) (word : limit ≤ 2 ^ 32) where
  abbrev put_at : ℕ × Descriptor → ℕ → Files
  put_at d n =
      let after : Files = vacated s n (at s.open_files.descriptors n) in
      record after { open_files = with_descriptor after.open_files n (record { serial = d.1.serial; cloexec = three && (flags == 0x80000) }) }

  put_is_sound : (d : ℕ × Descriptor) (n : ℕ) → IsDescriptor s.open_files d → (d.0 == n) ≡ false → nat_le limit n ≡ false → IsSound (put_at d n)
  put_is_sound d n named apart small =
      let v = vacated_case s n (at s.open_files.descriptors n) sound ascend refl in
      let after : Files = vacated s n (at s.open_files.descriptors n) in
      record {
        open_files = named_is_sound after.open_files n (record { serial = d.1.serial; cloexec = three && (flags == 0x80000) }) v.0.open_files (record {
          word = within limit n word small;
          there = (v.0.open_files.descriptors d.0 d.1 (v.1 d.0 (differ d.0 n apart) ∙ named.there)).there;
          same = λ old h. absurd (not_both (at after.open_files.descriptors n) old v.2 h);
        });
        belong = v.0.belong;
      }

  abbrev copied_at : ℕ × Descriptor → ℕ → Bool → Result (ℕ × Files) Errno
  copied_at d n same = cond same (Ok (n, s)) (refused_if (nat_le limit n) BadDescriptor >> Ok (n, put_at d n))

  copied_case : (d : ℕ × Descriptor) (n m : ℕ) (after : Files) (same : Bool) → IsDescriptor s.open_files d → (d.0 == n) ≡ same → copied_at d n same ≡ Ok (m, after) → IsSound after
  copied_case d n m after true named e h = subst IsSound (same_answer n m s after h).1 sound
  copied_case d n m after false named e h =
      let small = not_refused (nat_le limit n) BadDescriptor (Ok (n, put_at d n)) (m, after) h in
      subst IsSound (same_answer n m (put_at d n) after small.1).1 (put_is_sound d n named e small.0)

  abbrev copied_to : ℤ → ℕ × Descriptor → Result (ℕ × Files) Errno
  copied_to new d = refused_if (three && not (is_dup_flags flags)) InvalidArgument >> (refused_if (three && is_number new d.0) InvalidArgument >> (number_of new >>= λ (n : ℕ). copied_at d n (d.0 == n)))

  copied_found : (new : ℤ) (d : ℕ × Descriptor) (m : ℕ) (after : Files) → IsDescriptor s.open_files d → copied_to new d ≡ Ok (m, after) → IsSound after
  copied_found new d m after named h =
      let known = not_refused (three && not (is_dup_flags flags)) InvalidArgument _ (m, after) h in
      let other = not_refused (three && is_number new d.0) InvalidArgument _ (m, after) known.1 in
      let n = both_answered (number_of new) (λ (k : ℕ). copied_at d k (d.0 == k)) (m, after) other.1 in
      copied_case d n.0 m after (d.0 == n.0) named refl n.2

pub duplicate_to_is_sound : DuplicateToIsSound
duplicate_to_is_sound s limit fd new flags three sound ascend word = kept_by_settled IsSound s (descriptor_of s.open_files fd >>= copied_to s limit flags three sound ascend word new) sound by_descriptor
  where
    by_descriptor : (m : ℕ) (after : Files) → (descriptor_of s.open_files fd >>= copied_to s limit flags three sound ascend word new) ≡ Ok (m, after) → IsSound after
    by_descriptor m after h =
        let d = both_answered (descriptor_of s.open_files fd) (copied_to s limit flags three sound ascend word new) (m, after) h in
        copied_found s limit flags three sound ascend word new d.0 m after (descriptor_found s.open_files fd d.0 d.1) d.2
