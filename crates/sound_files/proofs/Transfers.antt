-- Positions that move, and the bytes of files and pipes.
use Rattle.std.proofs.Common.{◌≡◌, ℕ, ℤ, pos, negsuc, ◌+◌, ◌+ℤ◌, ◌-◌, ◌==◌, ◌&&◌, ◌||◌, ◌≤◌, min, nat_le, nat_lt, not, Bool, true, false, List, [], length, take, drop, cond, Option, Some, None, Result, Ok, Err, refl, ap, sym, subst, arith}
use Rattle.std.proofs.lemmas.Grind.{common_steps}
use Rattle.std.specs.Option.{unwrap_or}
use Rattle.kernel_values.specs.Bounds.{most_file_bytes, most_narrow}
use Rattle.kernel_values.specs.OpenFlags.{can_read, can_write, is_large}
use Rattle.kernel_values.specs.Outcome.{◌>>=◌, ◌>>◌, refused_if}
use Rattle.kernel_values.specs.declared.errno.Errno.{Errno}
use Rattle.kernel_values.specs.declared.errno.Errno.TheVariants.{BadAddress, BadDescriptor, FileTooLarge, IllegalSeek, InvalidArgument, IsDirectory}
use Rattle.kernel_values.specs.declared.identity.Credentials.{Credentials}
use Rattle.kernel_values.specs.declared.items.OpenKind.{OpenKind}
use Rattle.kernel_values.specs.declared.items.OpenKind.TheVariants.{File, Directory, PipeRead, PipeWrite, Stream, Datagram, RuleSocket}
use Rattle.kernel_values.specs.declared.times.TimeSpec.{TimeSpec}
use Rattle.number_maps.specs.NumberMap.{at}
use Rattle.pipe_sock.specs.Pipes as pipes
use Rattle.file_tree.specs.Lengths.{bytes_of, size_of, with_written}
use Rattle.file_tree.specs.Locks.{seek_base}
use Rattle.file_tree.specs.declared.state.FileTree.{FileTree}
use Rattle.open_files.specs.Descriptors.{open_file, with_position}
use Rattle.open_files.specs.Holding.{has_reader, has_writer}
use Rattle.open_files.specs.Kinds.{is_of_directory, is_of_pipe, is_of_socket, lacks_position}
use Rattle.open_files.specs.Transfers.{on_pipes, place_of, read_pipe, write_pipe, write_socket}
use Rattle.open_files.specs.declared.state.OpenFile.{OpenFile}
use Rattle.open_files.specs.declared.state.OpenFiles.{OpenFiles}
use Rattle.open_files.specs.declared.state.Place.{Place}
use Rattle.open_files.specs.declared.state.Place.TheVariants.{At, Current}
use Rattle.open_laws.specs.Sound.{most_position}
use Rattle.open_laws.proofs.Follows.{open_file_found}
use Rattle.map_lemmas.proofs.Steps.{both_answered, kept_by_settled, not_refused, same_answer, same_value}
use Rattle.open_laws.proofs.Waiting.{read_pipe_is_sound, write_pipe_is_sound}
use Rattle.file_store.specs.Seeking.{in_range}
use Rattle.file_store.specs.State.{with_open_files}
use Rattle.file_store.specs.Transfers.{bytes_left, moved_on, read_file, read_socket, size_limit, write_file, write_place}
use Rattle.file_store.specs.declared.state.Files.{Files}
use Rattle.sound_files.specs.Laws.{ReadIsSound, SeekIsSound, WriteIsSound}
use Rattle.sound_files.specs.Sound.{Belongs, HasInode, HasSizes, IsSound}
use Rattle.sound_files.proofs.Changes.{written_same}
use Rattle.sound_files.proofs.Opened.{positioned_is_sound}
use Rattle.sound_files.proofs.Simple.{same_is_sound}

-- ---- seeking
narrow : (whence p : ℕ) → ((whence == 2) || nat_lt most_narrow p) ≡ false → p ≤ most_narrow
narrow whence p h = grind (arith, common_steps)

in_position : (kind : OpenKind) (whence p : ℕ) → lacks_position kind ≡ false → (is_of_directory kind && ((whence == 2) || nat_lt most_narrow p)) ≡ false → p ≤ most_file_bytes → p ≤ most_position kind
in_position File whence p has near far = far
in_position Directory whence p has near far = narrow whence p near
in_position PipeRead whence p has near far = absurd (let e : true ≡ false = has in cc)
in_position PipeWrite whence p has near far = absurd (let e : true ≡ false = has in cc)
in_position Stream whence p has near far = absurd (let e : true ≡ false = has in cc)
in_position Datagram whence p has near far = absurd (let e : true ≡ false = has in cc)
in_position RuleSocket whence p has near far = absurd (let e : true ≡ false = has in cc)

far_case : (n p : ℕ) (b : Bool) → nat_lt most_file_bytes n ≡ b → cond {A = Result ℕ Errno} b (Err InvalidArgument) (Ok n) ≡ Ok p → p ≤ most_file_bytes
far_case n p true test h = cc
far_case n p false test h = let same : n ≡ p = same_value n p h in subst (λ (k : ℕ). k ≤ most_file_bytes) same (grind (arith, common_steps))

in_range_far : (z : ℤ) (p : ℕ) → in_range z ≡ Ok p → p ≤ most_file_bytes
in_range_far (pos n) p h = far_case n p (nat_lt most_file_bytes n) refl h
in_range_far (negsuc n) p h = cc

module _ (s : Files) (offset : ℤ) (whence : ℕ) (sound : IsSound s) where
  abbrev sought_at : ℕ × OpenFile → ℕ → Result (ℤ × Files) Errno
  sought_at f p = refused_if (is_of_directory f.1.kind && ((whence == 2) || nat_lt most_narrow p)) InvalidArgument >> Ok (pos p, record s { open_files = with_position s.open_files f.0 f.1 p })

  abbrev sought_from : ℕ × OpenFile → ℕ → Result (ℤ × Files) Errno
  sought_from f base = in_range (pos base +ℤ offset) >>= sought_at f

  abbrev sought_of : ℕ × OpenFile → Result (ℤ × Files) Errno
  sought_of f = refused_if (lacks_position f.1.kind) IllegalSeek >> (seek_base s.tree f.1.inode f.1.position whence >>= sought_from f)

  sought_case : (fd : ℤ) (x : ℤ) (after : Files) → (open_file s.open_files fd >>= sought_of) ≡ Ok (x, after) → IsSound after
  sought_case fd x after h =
      let f = both_answered (open_file s.open_files fd) sought_of (x, after) h in
      let has = not_refused (lacks_position f.0.1.kind) IllegalSeek (seek_base s.tree f.0.1.inode f.0.1.position whence >>= sought_from f.0) (x, after) f.2 in
      let base = both_answered (seek_base s.tree f.0.1.inode f.0.1.position whence) (sought_from f.0) (x, after) has.1 in
      let p = both_answered (in_range (pos base.0 +ℤ offset)) (sought_at f.0) (x, after) base.2 in
      let near = not_refused (is_of_directory f.0.1.kind && ((whence == 2) || nat_lt most_narrow p.0)) InvalidArgument (Ok (pos p.0, record s { open_files = with_position s.open_files f.0.0 f.0.1 p.0 })) (x, after) p.2 in
      subst IsSound (same_answer (pos p.0) x (record s { open_files = with_position s.open_files f.0.0 f.0.1 p.0 }) after near.1).1
      (positioned_is_sound s f.0.0 f.0.1 p.0 sound (open_file_found s.open_files fd f.0 f.1).there (in_position f.0.1.kind whence p.0 has.0 near.0 (in_range_far (pos base.0 +ℤ offset) p.0 p.1)))

pub seek_is_sound : SeekIsSound
seek_is_sound s fd offset whence sound = kept_by_settled IsSound s (open_file s.open_files fd >>= sought_of s offset whence sound) sound (sought_case s offset whence sound fd)

-- ---- transfers of files
kind_of_none : (t : FileTree) (i : ℕ) (kind : OpenKind) → HasInode t i kind → is_of_socket kind ≡ false
kind_of_none t i File e = refl
kind_of_none t i Directory e = refl
kind_of_none t i PipeRead e = refl
kind_of_none t i PipeWrite e = refl
kind_of_none t i Stream e = absurd e
kind_of_none t i Datagram e = absurd e
kind_of_none t i RuleSocket e = absurd e

-- no open file is a socket
no_socket : (s : Files) (f : ℕ × OpenFile) → IsSound s → at s.open_files.files f.0 ≡ Some f.1 → is_of_socket f.1.kind ≡ false
no_socket s f sound there = kind_of_none s.tree f.1.inode f.1.kind (sound.belong.held f.0 f.1 there)

-- so what is done with sockets isn't done
past_socket : {A : Type 0} (b : Bool) (x y z : A) → b ≡ false → cond b x y ≡ z → y ≡ z
past_socket true x y z none h = absurd (let e : true ≡ false = none in cc)
past_socket false x y z none h = h

file_position : (kind : OpenKind) → is_of_directory kind ≡ false → is_of_socket kind ≡ false → is_of_pipe kind ≡ false → most_position kind ≡ most_file_bytes
file_position File a b c = refl
file_position Directory a b c = absurd (let e : true ≡ false = a in cc)
file_position PipeRead a b c = absurd (let e : true ≡ false = c in cc)
file_position PipeWrite a b c = absurd (let e : true ≡ false = c in cc)
file_position Stream a b c = absurd (let e : true ≡ false = b in cc)
file_position Datagram a b c = absurd (let e : true ≡ false = b in cc)
file_position RuleSocket a b c = absurd (let e : true ≡ false = b in cc)

moved_is_sound : (s : Files) (serial : ℕ) (f : OpenFile) (place : Place) (p : ℕ) → IsSound s → at s.open_files.files serial ≡ Some f → (place ≡ Current → p ≤ most_position f.kind) → IsSound (moved_on s serial f place p)
moved_is_sound s serial f Current p sound there range = positioned_is_sound s serial f p sound there (range refl)
moved_is_sound s serial f (At n) p sound there range = sound

-- pipes leave the open files
pipes_files : {A : Type 0} (s after : OpenFiles) (r : Result A Errno) (p : List (ℕ × List ℕ)) (x : A) → on_pipes s (r, p) ≡ Ok (x, after) → after.files ≡ s.files
pipes_files {A} s after (Ok y) p x h = sym (ap (λ (z : A × OpenFiles). z.1.files) (same_value (y, record s { pipes = p }) (x, after) h))
pipes_files s after (Err e) p x h = cc

read_files : (s after : OpenFiles) (inode wanted room : ℕ) (place : Place) (x : List ℕ) → read_pipe s inode wanted room place ≡ Ok (x, after) → after.files ≡ s.files
read_files s after inode wanted room Current x h = let r = pipes.read s.pipes inode wanted room (has_writer s.files inode) in pipes_files s after r.0 r.1 x h
read_files s after inode wanted room (At n) x h = cc

pub write_files : (s after : OpenFiles) (inode wanted : ℕ) (piece : List ℕ) (place : Place) (x : ℕ) → write_pipe s inode wanted piece place ≡ Ok (x, after) → after.files ≡ s.files
write_files s after inode wanted piece Current x h = let r = pipes.write s.pipes inode wanted piece (has_reader s.files inode) in pipes_files s after r.0 r.1 x h
write_files s after inode wanted piece (At n) x h = cc

opened_answered : {A : Type 0} (s after : Files) (r : Result (A × OpenFiles) Errno) (x : A) → with_open_files s r ≡ Ok (x, after) → (o : OpenFiles) × (r ≡ Ok (x, o)) × (record s { open_files = o } ≡ after)
opened_answered {A} s after (Ok y) x h =
    let both : ◌≡◌ {A = A × Files} (y.0, record s { open_files = y.1 }) (x, after) = same_value (y.0, record s { open_files = y.1 }) (x, after) h in
    (y.1, ap (λ (z : A). Ok (z, y.1)) (ap (λ (z : A × Files). z.0) both), ap (λ (z : A × Files). z.1) both)
opened_answered s after (Err e) x h = cc

-- ---- reading
size_case : (t : FileTree) (i : ℕ) (o : Option (List ℕ)) → HasSizes t → at t.contents i ≡ o → length (unwrap_or o []) ≤ most_file_bytes
size_case t i None sizes h = omega arith
size_case t i (Some bytes) sizes h = sizes i bytes h

pub few_bytes : (t : FileTree) (i : ℕ) → HasSizes t → size_of t i ≤ most_file_bytes
few_bytes t i sizes = size_case t i (at t.contents i) sizes refl

read_end : (start size wanted room most : ℕ) → start ≤ most → size ≤ most → start + min (min wanted (size - start)) room ≤ most
read_end start size wanted room most a b = omega arith

module _ (s : Files) (wanted room : ℕ) (sound : IsSound s) (sizes : HasSizes s.tree) where
  abbrev count_of : ℕ × OpenFile → ℕ → ℕ
  count_of f start = min (bytes_left s f.1 start wanted) room

  abbrev read_at : ℕ × OpenFile → Place → ℕ → Result (List ℕ × Files) Errno
  read_at f place start = refused_if (not (bytes_left s f.1 start wanted == 0) && (room == 0)) BadAddress >> Ok (take (count_of f start) (drop start (bytes_of s.tree f.1.inode)), moved_on s f.0 f.1 place (start + count_of f start))

  start_range : (f : ℕ × OpenFile) (place : Place) (start : ℕ) → at s.open_files.files f.0 ≡ Some f.1 → place_of f.1 place ≡ Ok start → place ≡ Current → start ≤ most_position f.1.kind
  start_range f Current start there h now = subst (λ (k : ℕ). k ≤ most_position f.1.kind) (same_value f.1.position start h) (sound.open_files.files f.0 f.1 there).position
  start_range f (At n) start there h now = absurd (let e : At n ≡ Current = now in cc)

  read_file_case : (f : ℕ × OpenFile) (place : Place) (x : List ℕ) (after : Files) → at s.open_files.files f.0 ≡ Some f.1 → most_position f.1.kind ≡ most_file_bytes → read_file s f wanted room place ≡ Ok (x, after) → IsSound after
  unfolding read_file
  read_file_case f place x after there most h =
      let start = both_answered (place_of f.1 place) (read_at f place) (x, after) h in
      let room_there = not_refused (not (bytes_left s f.1 start.0 wanted == 0) && (room == 0)) BadAddress (Ok (take (count_of f start.0) (drop start.0 (bytes_of s.tree f.1.inode)), moved_on s f.0 f.1 place (start.0 + count_of f start.0))) (x, after) start.2 in
      subst IsSound (same_answer (take (count_of f start.0) (drop start.0 (bytes_of s.tree f.1.inode))) x (moved_on s f.0 f.1 place (start.0 + count_of f start.0)) after room_there.1).1
      (moved_is_sound s f.0 f.1 place (start.0 + count_of f start.0) sound there (λ now. subst (λ (k : ℕ). start.0 + count_of f start.0 ≤ k) (sym most) (read_end start.0 (size_of s.tree f.1.inode) wanted room most_file_bytes (subst (λ (k : ℕ). start.0 ≤ k) most (start_range f place start.0 there start.1 now)) (few_bytes s.tree f.1.inode sizes))))

  kind_case : (f : ℕ × OpenFile) (place : Place) (x : List ℕ) (after : Files) (pipe : Bool) → at s.open_files.files f.0 ≡ Some f.1 → is_of_directory f.1.kind ≡ false → is_of_socket f.1.kind ≡ false → is_of_pipe f.1.kind ≡ pipe → cond pipe (with_open_files s (read_pipe s.open_files f.1.inode wanted room place)) (read_file s f wanted room place) ≡ Ok (x, after) → IsSound after
  kind_case f place x after true there directory socket pipe h =
      let o = opened_answered s after (read_pipe s.open_files f.1.inode wanted room place) x h in
      subst IsSound o.2 (record {
        open_files = read_pipe_is_sound s.open_files o.0 f.1.inode wanted room place x sound.open_files o.1;
        belong = subst (Belongs s.tree) (sym (read_files s.open_files o.0 f.1.inode wanted room place x o.1)) sound.belong;
      })
  kind_case f place x after false there directory socket pipe h = read_file_case f place x after there (file_position f.1.kind directory socket pipe) h

  abbrev read_of : Place → ℕ × OpenFile → Result (List ℕ × Files) Errno
  read_of place f = refused_if (not (can_read f.1.flags)) BadDescriptor >> (refused_if (is_of_directory f.1.kind) IsDirectory >> cond (is_of_socket f.1.kind) (read_socket s f wanted room place) (cond (is_of_pipe f.1.kind) (with_open_files s (read_pipe s.open_files f.1.inode wanted room place)) (read_file s f wanted room place)))

  read_case : (fd : ℤ) (place : Place) (x : List ℕ) (after : Files) → (open_file s.open_files fd >>= read_of place) ≡ Ok (x, after) → IsSound after
  read_case fd place x after h =
      let f = both_answered (open_file s.open_files fd) (read_of place) (x, after) h in
      let reads = not_refused (not (can_read f.0.1.flags)) BadDescriptor _ (x, after) f.2 in
      let directory = not_refused (is_of_directory f.0.1.kind) IsDirectory _ (x, after) reads.1 in
      let there : at s.open_files.files f.0.0 ≡ Some f.0.1 = (open_file_found s.open_files fd f.0 f.1).there in
      let socket = past_socket (is_of_socket f.0.1.kind) (read_socket s f.0 wanted room place) _ (Ok (x, after)) (no_socket s f.0 sound there) directory.1 in
      kind_case f.0 place x after (is_of_pipe f.0.1.kind) there directory.0 (no_socket s f.0 sound there) refl socket

pub read_is_sound : ReadIsSound
read_is_sound s fd wanted room place sound sizes = kept_by_settled IsSound s (open_file s.open_files fd >>= read_of s wanted room sound sizes place) sound (read_case s wanted room sound sizes fd place)

-- ---- writing
limit_case : (large : Bool) (start wanted given : ℕ) → nat_le (cond large most_file_bytes most_narrow) start ≡ false → start + min (min wanted (cond large most_file_bytes most_narrow - start)) given ≤ most_file_bytes
limit_case true start wanted given h = grind (arith, common_steps)
limit_case false start wanted given h = grind (arith, common_steps)

module _ (s : Files) (now : TimeSpec) (wanted : ℕ) (piece : List ℕ) where
  abbrev pub moves : ℕ × OpenFile → ℕ → ℕ
  moves f start = min (min wanted (size_limit f.1 - start)) (length piece)

  abbrev pub filled : ℕ × OpenFile → ℕ → Files
  filled f start = record s { tree = with_written s.tree now f.1.inode start (take (moves f start) piece) }

  abbrev write_as : ℕ × OpenFile → Place → ℕ → Bool → Result (ℕ × Files) Errno
  write_as f place start none = cond none (Ok (0, s)) (refused_if (nat_le (size_limit f.1) start) FileTooLarge >> (refused_if (length piece == 0) BadAddress >> Ok (moves f start, moved_on (filled f start) f.0 f.1 place (start + moves f start))))

  abbrev write_at : ℕ × OpenFile → Place → ℕ → Result (ℕ × Files) Errno
  write_at f place start = write_as f place start (wanted == 0)

  abbrev pub write_of : Credentials → Place → ℕ × OpenFile → Result (ℕ × Files) Errno
  write_of own place f = refused_if (not (can_write f.1.flags)) BadDescriptor >> (refused_if (is_of_directory f.1.kind) IsDirectory >> cond (is_of_socket f.1.kind) (with_open_files s (write_socket s.open_files own f wanted piece place)) (cond (is_of_pipe f.1.kind) (with_open_files s (write_pipe s.open_files f.1.inode wanted piece place)) (write_file s now f wanted piece place)))

  -- what holds of a write that took nothing, of one to a pipe and of one to a file holds of each
  pub record Writes (P : ℕ → Files → Type 0) : Type 0 where
    pub nothing : P 0 s
    pub piped : (f : ℕ × OpenFile) (place : Place) (n : ℕ) (o : OpenFiles) → write_pipe s.open_files f.1.inode wanted piece place ≡ Ok (n, o) → P n (record s { open_files = o })
    pub moved : (f : ℕ × OpenFile) (place : Place) (start : ℕ) → at s.open_files.files f.0 ≡ Some f.1 → most_position f.1.kind ≡ most_file_bytes → nat_le (size_limit f.1) start ≡ false → P (moves f start) (moved_on (filled f start) f.0 f.1 place (start + moves f start))

  module _ (P : ℕ → Files → Type 0) (writes : Writes P) where
    write_as_case : (f : ℕ × OpenFile) (place : Place) (start n : ℕ) (after : Files) (none : Bool) → at s.open_files.files f.0 ≡ Some f.1 → most_position f.1.kind ≡ most_file_bytes → write_as f place start none ≡ Ok (n, after) → P n after
    write_as_case f place start n after true there most h = subst (λ (z : ℕ × Files). P z.0 z.1) (same_value (0, s) (n, after) h) writes.nothing
    write_as_case f place start n after false there most h =
        let small = not_refused (nat_le (size_limit f.1) start) FileTooLarge _ (n, after) h in
        let some = not_refused (length piece == 0) BadAddress (Ok (moves f start, moved_on (filled f start) f.0 f.1 place (start + moves f start))) (n, after) small.1 in
        subst (λ (z : ℕ × Files). P z.0 z.1) (same_value (moves f start, moved_on (filled f start) f.0 f.1 place (start + moves f start)) (n, after) some.1) (writes.moved f place start there most small.0)

    write_file_case : (f : ℕ × OpenFile) (place : Place) (n : ℕ) (after : Files) → at s.open_files.files f.0 ≡ Some f.1 → most_position f.1.kind ≡ most_file_bytes → write_file s now f wanted piece place ≡ Ok (n, after) → P n after
    unfolding write_file
    write_file_case f place n after there most h =
        let start = both_answered (write_place s f.1 place) (write_at f place) (n, after) h in
        write_as_case f place start.0 n after (wanted == 0) there most start.2

    written_kind : (f : ℕ × OpenFile) (place : Place) (n : ℕ) (after : Files) (pipe : Bool) → at s.open_files.files f.0 ≡ Some f.1 → is_of_directory f.1.kind ≡ false → is_of_socket f.1.kind ≡ false → is_of_pipe f.1.kind ≡ pipe → cond pipe (with_open_files s (write_pipe s.open_files f.1.inode wanted piece place)) (write_file s now f wanted piece place) ≡ Ok (n, after) → P n after
    written_kind f place n after true there directory socket pipe h =
        let o = opened_answered s after (write_pipe s.open_files f.1.inode wanted piece place) n h in
        subst (P n) o.2 (writes.piped f place n o.0 o.1)
    written_kind f place n after false there directory socket pipe h = write_file_case f place n after there (file_position f.1.kind directory socket pipe) h

    pub write_case : (own : Credentials) (sound : IsSound s) (fd : ℤ) (place : Place) (n : ℕ) (after : Files) → (open_file s.open_files fd >>= write_of own place) ≡ Ok (n, after) → P n after
    write_case own sound fd place n after h =
        let f = both_answered (open_file s.open_files fd) (write_of own place) (n, after) h in
        let able = not_refused (not (can_write f.0.1.flags)) BadDescriptor _ (n, after) f.2 in
        let directory = not_refused (is_of_directory f.0.1.kind) IsDirectory _ (n, after) able.1 in
        let there : at s.open_files.files f.0.0 ≡ Some f.0.1 = (open_file_found s.open_files fd f.0 f.1).there in
        let socket = past_socket (is_of_socket f.0.1.kind) (with_open_files s (write_socket s.open_files own f.0 wanted piece place)) _ (Ok (n, after)) (no_socket s f.0 sound there) directory.1 in
        written_kind f.0 place n after (is_of_pipe f.0.1.kind) there directory.0 (no_socket s f.0 sound there) refl socket

pub write_is_sound : WriteIsSound
write_is_sound s now own fd wanted piece place sound = kept_by_settled IsSound s (open_file s.open_files fd >>= write_of s now wanted piece own place) sound (write_case s now wanted piece (λ n after. IsSound after) (record { nothing = sound; piped = piped; moved = moved }) own sound fd place)
  where
    piped : (f : ℕ × OpenFile) (place : Place) (n : ℕ) (o : OpenFiles) → write_pipe s.open_files f.1.inode wanted piece place ≡ Ok (n, o) → IsSound (record s { open_files = o })
    piped f place n o h = record {
      open_files = write_pipe_is_sound s.open_files o f.1.inode wanted n piece place sound.open_files h;
      belong = subst (Belongs s.tree) (sym (write_files s.open_files o f.1.inode wanted piece place n h)) sound.belong;
    }

    moved : (f : ℕ × OpenFile) (place : Place) (start : ℕ) → at s.open_files.files f.0 ≡ Some f.1 → most_position f.1.kind ≡ most_file_bytes → nat_le (size_limit f.1) start ≡ false → IsSound (moved_on (filled s now wanted piece f start) f.0 f.1 place (start + moves s now wanted piece f start))
    moved f place start there most small = moved_is_sound (filled s now wanted piece f start) f.0 f.1 place (start + moves s now wanted piece f start)
        (same_is_sound s (with_written s.tree now f.1.inode start (take (moves s now wanted piece f start) piece)) sound (written_same s.tree now f.1.inode start (take (moves s now wanted piece f start) piece))) there
        (λ e. subst (λ (k : ℕ). start + moves s now wanted piece f start ≤ k) (sym most) (limit_case (is_large f.1.flags) start wanted (length piece) small))
