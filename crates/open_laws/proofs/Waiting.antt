-- The bytes that wait in pipes.
use Rattle.std.proofs.Common.{◌≡◌, ◌∙◌, ℕ, ◌-◌, ◌==◌, ◌≤◌, min, not, Bool, true, false, List, [], ◌++◌, cond, length, take, drop, Option, Some, None, Result, Ok, Err, refl, ap, subst, arith, length-append}
use Rattle.std.proofs.lemmas.Grind.{common_steps}
use Rattle.std.specs.Option.{unwrap_or}
use Rattle.kernel_values.specs.Outcome.{◌>>=◌, ◌>>◌, refused_if, settled}
use Rattle.kernel_values.specs.declared.errno.Errno.{Errno}
use Rattle.kernel_values.specs.declared.errno.Errno.TheVariants.{BadAddress, BrokenPipe, TryAgain}
use Rattle.number_maps.specs.NumberMap.{at, changed}
use Rattle.pipe_sock.specs.Pipes as pipes
use Rattle.open_files.specs.Holding.{has_reader, has_writer, is_held}
use Rattle.open_files.specs.Transfers.{on_pipes}
use Rattle.open_files.specs.declared.state.OpenFile.{OpenFile}
use Rattle.open_files.specs.declared.state.OpenFiles.{OpenFiles}
use Rattle.open_files.specs.declared.state.Place.TheVariants.{At, Current}
use Rattle.open_laws.specs.Laws.{ReadPipeIsSound, TakenIsSound, WritePipeIsSound}
use Rattle.open_laws.specs.Sound.{IsSound, IsSoundFile, IsSoundPipe, NamesThere}
use Rattle.map_lemmas.proofs.Maps.{ascending_changed, every_changed, there_changed}
use Rattle.map_lemmas.proofs.Steps.{both_answered, not_refused, same_value}

-- the state with other pipes
abbrev with_pipes : OpenFiles → List (ℕ × List ℕ) → OpenFiles
with_pipes s p = record s { pipes = p }

module _ (s : OpenFiles) (inode : ℕ) (old bytes : List ℕ) (sound : IsSound s) (there : at s.pipes inode ≡ Some old) (few : length bytes ≤ 65536) where
  abbrev other : OpenFiles
  other = with_pipes s (changed s.pipes inode bytes)

  kept_file : (serial : ℕ) (f : OpenFile) → at s.files serial ≡ Some f → IsSoundFile other serial f
  unfolding is_held
  kept_file serial f h =
      let e : IsSoundFile s serial f = sound.files serial f h in
      record { held = e.held; positive = e.positive; given = e.given; ends = there_changed s.pipes f.inode inode old bytes there ∙ e.ends; position = e.position }

  kept_pipe : (i : ℕ) (b : List ℕ) → at s.pipes i ≡ Some b → IsSoundPipe other i b
  kept_pipe i b h = let e : IsSoundPipe s i b = sound.pipes i b h in record { opened = e.opened; waits = e.waits }

  other_is_sound : IsSound other
  other_is_sound = record {
    ascend = record { descriptors = sound.ascend.descriptors; files = sound.ascend.files; pipes = ascending_changed s.pipes inode bytes sound.ascend.pipes };
    descriptors = λ m d h. let e : NamesThere s m d = sound.descriptors m d h in record { word = e.word; there = e.there };
    files = kept_file;
    pipes = every_changed (λ i b. IsSoundPipe other i b) s.pipes inode old bytes there (λ i b apart h. kept_pipe i b h) (record { opened = (sound.pipes inode old there).opened; waits = few });
    made = sound.made;
    sockets = sound.sockets;
  }

refilled_case : (s : OpenFiles) (inode : ℕ) (bytes : List ℕ) (o : Option (List ℕ)) → IsSound s → at s.pipes inode ≡ o → length bytes ≤ 65536 → IsSound (with_pipes s (pipes.refilled_as s.pipes inode bytes o))
refilled_case s inode bytes None sound h few = sound
refilled_case s inode bytes (Some old) sound h few = other_is_sound s inode old bytes sound h few

-- other bytes wait, not too many
refilled_is_sound : (s : OpenFiles) (inode : ℕ) (bytes : List ℕ) → IsSound s → length bytes ≤ 65536 → IsSound (with_pipes s (pipes.refilled s.pipes inode bytes))
unfolding pipes.refilled
refilled_is_sound s inode bytes sound few = refilled_case s inode bytes (at s.pipes inode) sound refl few

few_case : (s : OpenFiles) (inode : ℕ) (o : Option (List ℕ)) → IsSound s → at s.pipes inode ≡ o → length (unwrap_or o []) ≤ 65536
few_case s inode None sound h = omega arith
few_case s inode (Some bytes) sound h = (sound.pipes inode bytes h).waits

pub few_wait : (s : OpenFiles) (inode : ℕ) → IsSound s → length (pipes.waiting s.pipes inode) ≤ 65536
few_wait s inode sound = few_case s inode (at s.pipes inode) sound refl

fewer_left : (bytes : List ℕ) (n : ℕ) → length bytes ≤ 65536 → length (drop n bytes) ≤ 65536
fewer_left bytes n h = grind (arith, common_steps)

pub taken_is_sound : TakenIsSound
taken_is_sound s inode count sound = refilled_is_sound s inode (drop count (pipes.waiting s.pipes inode)) sound (fewer_left (pipes.waiting s.pipes inode) count (few_wait s inode sound))

-- ---- what pipes answered
answered_case : {A : Type 0} (s after : OpenFiles) (r : Result (A × List (ℕ × List ℕ)) Errno) (x : A) → on_pipes s (settled s.pipes r) ≡ Ok (x, after) → (p : List (ℕ × List ℕ)) × (r ≡ Ok (x, p)) × (with_pipes s p ≡ after)
answered_case {A} s after (Ok y) x h =
    let both : ◌≡◌ {A = A × OpenFiles} (y.0, with_pipes s y.1) (x, after) = same_value (y.0, with_pipes s y.1) (x, after) h in
    (y.1, ap (λ (z : A). Ok (z, y.1)) (ap (λ (z : A × OpenFiles). z.0) both), ap (λ (z : A × OpenFiles). z.1) both)
answered_case s after (Err e) x h = cc

module _ (s : OpenFiles) (inode : ℕ) (sound : IsSound s) where
  abbrev taken_at : ℕ → Result (List ℕ × List (ℕ × List ℕ)) Errno
  taken_at n = Ok (take n (pipes.waiting s.pipes inode), pipes.refilled s.pipes inode (drop n (pipes.waiting s.pipes inode)))

  read_kept : (after : OpenFiles) (wanted room : ℕ) (writer : Bool) (bytes : List ℕ) → on_pipes s (pipes.read s.pipes inode wanted room writer) ≡ Ok (bytes, after) → IsSound after
  unfolding pipes.read
  read_kept after wanted room writer bytes h =
      let answer = answered_case s after (pipes.read_length s.pipes inode wanted room writer >>= taken_at) bytes h in
      let step = both_answered (pipes.read_length s.pipes inode wanted room writer) taken_at (bytes, answer.0) answer.1 in
      let same : pipes.refilled s.pipes inode (drop step.0 (pipes.waiting s.pipes inode)) ≡ answer.0 = ap (λ (z : List ℕ × List (ℕ × List ℕ)). z.1) (same_value (take step.0 (pipes.waiting s.pipes inode), pipes.refilled s.pipes inode (drop step.0 (pipes.waiting s.pipes inode))) (bytes, answer.0) step.2) in
      subst IsSound (ap (with_pipes s) same ∙ answer.2) (taken_is_sound s inode step.0 sound)

  abbrev count_of : ℕ → List ℕ → ℕ
  count_of wanted piece = min (min wanted (pipes.free_room (pipes.waiting s.pipes inode))) (length piece)

  abbrev filled_at : ℕ → List ℕ → List (ℕ × List ℕ)
  filled_at wanted piece = pipes.refilled s.pipes inode (pipes.waiting s.pipes inode ++ take (count_of wanted piece) piece)

  few_filled : (wanted : ℕ) (piece : List ℕ) → length (pipes.waiting s.pipes inode ++ take (count_of wanted piece) piece) ≤ 65536
  few_filled wanted piece = few_after (pipes.waiting s.pipes inode) (take (count_of wanted piece) piece) (few_wait s inode sound) (few_taken (count_of wanted piece) piece (65536 - length (pipes.waiting s.pipes inode)) (omega arith))
    where
      few_after : (front back : List ℕ) → length front ≤ 65536 → length back ≤ 65536 - length front → length (front ++ back) ≤ 65536
      few_after front back h g = omega (arith, length-append front back)

      few_taken : (n : ℕ) (xs : List ℕ) (most : ℕ) → n ≤ most → length (take n xs) ≤ most
      few_taken n xs most h = grind (arith, common_steps)

  abbrev written_as : ℕ → List ℕ → Bool → Bool → Result (ℕ × List (ℕ × List ℕ)) Errno
  written_as wanted piece reader none = cond none (Ok (0, s.pipes)) (refused_if (not reader) BrokenPipe >> (refused_if (not (pipes.fits (pipes.waiting s.pipes inode) wanted)) TryAgain >> (refused_if (length piece == 0) BadAddress >> Ok (count_of wanted piece, filled_at wanted piece))))

  write_case : (after : OpenFiles) (wanted n : ℕ) (piece : List ℕ) (reader none : Bool) (p : List (ℕ × List ℕ)) → written_as wanted piece reader none ≡ Ok (n, p) → with_pipes s p ≡ after → IsSound after
  write_case after wanted n piece reader true p h made =
      let same : s.pipes ≡ p = ap (λ (z : ℕ × List (ℕ × List ℕ)). z.1) (same_value (0, s.pipes) (n, p) h) in
      subst IsSound (ap (with_pipes s) same ∙ made) sound
  write_case after wanted n piece reader false p h made =
      let read = not_refused (not reader) BrokenPipe _ (n, p) h in
      let fits = not_refused (not (pipes.fits (pipes.waiting s.pipes inode) wanted)) TryAgain _ (n, p) read.1 in
      let some = not_refused (length piece == 0) BadAddress (Ok (count_of wanted piece, filled_at wanted piece)) (n, p) fits.1 in
      let same : filled_at wanted piece ≡ p = ap (λ (z : ℕ × List (ℕ × List ℕ)). z.1) (same_value (count_of wanted piece, filled_at wanted piece) (n, p) some.1) in
      subst IsSound (ap (with_pipes s) same ∙ made) (refilled_is_sound s inode (pipes.waiting s.pipes inode ++ take (count_of wanted piece) piece) sound (few_filled wanted piece))

  write_kept : (after : OpenFiles) (wanted n : ℕ) (piece : List ℕ) (reader : Bool) → on_pipes s (pipes.write s.pipes inode wanted piece reader) ≡ Ok (n, after) → IsSound after
  unfolding pipes.write
  write_kept after wanted n piece reader h =
      let answer = answered_case s after (written_as wanted piece reader (wanted == 0)) n h in
      write_case after wanted n piece reader (wanted == 0) answer.0 answer.1 answer.2

pub read_pipe_is_sound : ReadPipeIsSound
read_pipe_is_sound s after inode wanted room Current bytes sound h = read_kept s inode sound after wanted room (has_writer s.files inode) bytes h
read_pipe_is_sound s after inode wanted room (At n) bytes sound h = cc

pub write_pipe_is_sound : WritePipeIsSound
write_pipe_is_sound s after inode wanted n piece Current sound h = write_kept s inode sound after wanted n piece (has_reader s.files inode) h
write_pipe_is_sound s after inode wanted n piece (At m) sound h = cc
