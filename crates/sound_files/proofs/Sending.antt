-- The bytes of a file that are sent.
use Rattle.std.proofs.Common.{◌≡◌, ◌∙◌, ℕ, ℤ, ◌+◌, ◌-◌, ◌==◌, ◌||◌, ◌++◌, ◌≤◌, min, not, Bool, true, false, List, length, take, drop, cond, Option, Some, None, Result, Ok, Err, refl, ap, sym, subst, arith}
use Rattle.std.proofs.lemmas.Grind.{common_steps}
use Rattle.kernel_values.specs.Bounds.{most_file_bytes}
use Rattle.kernel_values.specs.OpenFlags.{appends, can_read, can_write}
use Rattle.kernel_values.specs.Outcome.{◌>>=◌, ◌>>◌, refused_if, settled}
use Rattle.kernel_values.specs.declared.errno.Errno.{Errno}
use Rattle.kernel_values.specs.declared.errno.Errno.TheVariants.{BadAddress, BadDescriptor, BrokenPipe, InvalidArgument, TryAgain}
use Rattle.kernel_values.specs.declared.identity.Credentials.{Credentials}
use Rattle.kernel_values.specs.declared.items.OpenKind.{OpenKind}
use Rattle.kernel_values.specs.declared.items.OpenKind.TheVariants.{File, Directory, PipeRead, PipeWrite, Stream, Datagram, RuleSocket}
use Rattle.kernel_values.specs.declared.times.TimeSpec.{TimeSpec}
use Rattle.number_maps.specs.NumberMap.{at}
use Rattle.pipe_sock.specs.Pipes as pipes
use Rattle.file_tree.specs.Lengths.{bytes_of, size_of}
use Rattle.open_files.specs.Descriptors.{open_file}
use Rattle.open_files.specs.Holding.{has_reader}
use Rattle.open_files.specs.Kinds.{is_of_directory, is_of_file}
use Rattle.open_files.specs.Transfers.{on_pipes, place_of, write_pipe}
use Rattle.open_files.specs.declared.state.OpenFile.{OpenFile}
use Rattle.open_files.specs.declared.state.OpenFiles.{OpenFiles}
use Rattle.open_files.specs.declared.state.Place.{Place}
use Rattle.open_files.specs.declared.state.Place.TheVariants.{At, Current}
use Rattle.open_laws.specs.Sound.{most_position}
use Rattle.open_laws.proofs.Follows.{open_file_found}
use Rattle.map_lemmas.proofs.Maps.{every_put}
use Rattle.map_lemmas.proofs.Steps.{both_answered, not_refused, operation_answered, same_value}
use Rattle.file_store.specs.Sending.{bytes_from, positioned_as, send_count, send_from, send_source, sent, source_moved}
use Rattle.file_store.specs.Transfers.{bytes_left, moved_on, write}
use Rattle.file_store.specs.declared.state.Files.{Files}
use Rattle.sound_files.specs.Laws.{SendFileIsSound}
use Rattle.sound_files.specs.Sound.{HasSizes, IsSound}
use Rattle.sound_files.proofs.Opened.{positioned_is_sound}
use Rattle.sound_files.proofs.Transfers.{Writes, few_bytes, filled, moves, write_case, write_files, write_is_sound, write_of}

-- ---- what a write answers
-- an open file of the same kind was there
pub record WasThere (s : Files) (serial : ℕ) (x : OpenFile) : Type 0 where
  pub file : OpenFile
  pub there : at s.open_files.files serial ≡ Some file
  pub kind : x.kind ≡ file.kind

-- no more bytes than wanted, and open files keep their kinds
pub record Wrote (s : Files) (wanted n : ℕ) (after : Files) : Type 0 where
  pub few : n ≤ wanted
  pub kinds : (serial : ℕ) (x : OpenFile) → at after.open_files.files serial ≡ Some x → WasThere s serial x

still_there : (s : Files) (serial : ℕ) (x : OpenFile) → at s.open_files.files serial ≡ Some x → WasThere s serial x
still_there s serial x h = record { file = x; there = h; kind = refl }

answer_of : (s after : OpenFiles) (r : Result ℕ Errno) (p : List (ℕ × List ℕ)) (n : ℕ) → on_pipes s (r, p) ≡ Ok (n, after) → r ≡ Ok n
answer_of s after (Ok m) p n h = ap (λ (z : ℕ × OpenFiles). Ok z.0) (same_value (m, record s { pipes = p }) (n, after) h)
answer_of s after (Err e) p n h = cc

module _ (p : List (ℕ × List ℕ)) (inode wanted : ℕ) (piece : List ℕ) (reader : Bool) where
  abbrev count_of : ℕ
  count_of = min (min wanted (pipes.free_room (pipes.waiting p inode))) (length piece)

  abbrev written_as : Bool → Result (ℕ × List (ℕ × List ℕ)) Errno
  written_as none = cond none (Ok (0, p)) (refused_if (not reader) BrokenPipe >> (refused_if (not (pipes.fits (pipes.waiting p inode) wanted)) TryAgain >> (refused_if (length piece == 0) BadAddress >> Ok (count_of, pipes.refilled p inode (pipes.waiting p inode ++ take count_of piece)))))

  few_case : (none : Bool) (n : ℕ) (q : List (ℕ × List ℕ)) → written_as none ≡ Ok (n, q) → n ≤ wanted
  few_case true n q h = subst (λ (k : ℕ). k ≤ wanted) (ap (λ (z : ℕ × List (ℕ × List ℕ)). z.0) (same_value (0, p) (n, q) h)) (omega arith)
  few_case false n q h =
      let read = not_refused (not reader) BrokenPipe _ (n, q) h in
      let fits = not_refused (not (pipes.fits (pipes.waiting p inode) wanted)) TryAgain _ (n, q) read.1 in
      let some = not_refused (length piece == 0) BadAddress (Ok (count_of, pipes.refilled p inode (pipes.waiting p inode ++ take count_of piece))) (n, q) fits.1 in
      subst (λ (k : ℕ). k ≤ wanted) (ap (λ (z : ℕ × List (ℕ × List ℕ)). z.0) (same_value (count_of, pipes.refilled p inode (pipes.waiting p inode ++ take count_of piece)) (n, q) some.1)) (omega arith)

  few_piped : (n : ℕ) → (pipes.write p inode wanted piece reader).0 ≡ Ok n → n ≤ wanted
  unfolding pipes.write
  few_piped n h = few_case (wanted == 0) n (settled p (written_as (wanted == 0))).1 (operation_answered p (written_as (wanted == 0)) n h)

pipe_few : (s after : OpenFiles) (inode wanted : ℕ) (piece : List ℕ) (place : Place) (n : ℕ) → write_pipe s inode wanted piece place ≡ Ok (n, after) → n ≤ wanted
pipe_few s after inode wanted piece Current n h = let r = pipes.write s.pipes inode wanted piece (has_reader s.files inode) in few_piped s.pipes inode wanted piece (has_reader s.files inode) n (answer_of s after r.0 r.1 n h)
pipe_few s after inode wanted piece (At m) n h = cc

moved_kinds : (s t : Files) (f : ℕ × OpenFile) (place : Place) (p : ℕ) → t.open_files ≡ s.open_files → at s.open_files.files f.0 ≡ Some f.1 → (serial : ℕ) (x : OpenFile) → at (moved_on t f.0 f.1 place p).open_files.files serial ≡ Some x → WasThere s serial x
moved_kinds s t f Current p same there = every_put (λ q x. WasThere s q x) t.open_files.files f.0 (record f.1 { position = p }) (λ q x other h. still_there s q x (ap (λ (o : OpenFiles). at o.files q) (sym same) ∙ h)) (record { file = f.1; there = there; kind = refl })
moved_kinds s t f (At m) p same there = λ serial x h. still_there s serial x (ap (λ (o : OpenFiles). at o.files serial) (sym same) ∙ h)

module _ (s : Files) (now : TimeSpec) (wanted : ℕ) (piece : List ℕ) where
  writes : Writes s now wanted piece (λ n after. Wrote s wanted n after)
  writes = record {
    nothing = record { few = omega arith; kinds = still_there s };
    piped = λ f place n o h. record {
      few = pipe_few s.open_files o f.1.inode wanted piece place n h;
      kinds = λ serial x g. still_there s serial x (ap (λ (t : List (ℕ × OpenFile)). at t serial) (sym (write_files s.open_files o f.1.inode wanted piece place n h)) ∙ g);
    };
    moved = λ f place start there most small. record { few = omega arith; kinds = moved_kinds s (filled s now wanted piece f start) f place (start + moves s now wanted piece f start) refl there };
  }

  wrote : (own : Credentials) (sound : IsSound s) (fd : ℤ) (place : Place) (n : ℕ) → (write s now own fd wanted piece place).0 ≡ Ok n → Wrote s wanted n (write s now own fd wanted piece place).1
  wrote own sound fd place n h = write_case s now wanted piece (λ m after. Wrote s wanted m after) writes own sound fd place n (write s now own fd wanted piece place).1 (operation_answered s (open_file s.open_files fd >>= write_of s now wanted piece own place) n h)

-- ---- the source
pub record IsSource (s : Files) (place : Place) (x : (ℕ × OpenFile) × (ℕ × ℕ)) : Type 0 where
  pub there : at s.open_files.files x.0.0 ≡ Some x.0.1
  pub file : is_of_file x.0.1.kind ≡ true
  pub start : place_of x.0.1 place ≡ Ok x.1.0
  pub asked : ℕ
  pub count : x.1.1 ≡ bytes_left s x.0.1 x.1.0 asked

module _ (s : Files) (target source : ℤ) (place : Place) (count : ℕ) (narrow : Bool) where
  abbrev left_of : ℕ × OpenFile → ℕ → ℕ → Result ((ℕ × OpenFile) × (ℕ × ℕ)) Errno
  left_of f start n = Ok (f, (start, bytes_left s f.1 start n))

  abbrev from_start : ℕ × OpenFile → ℕ × OpenFile → ℕ → Result ((ℕ × OpenFile) × (ℕ × ℕ)) Errno
  from_start t f start = refused_if (not (is_of_file f.1.kind)) InvalidArgument >> (refused_if (is_of_directory t.1.kind || appends t.1.flags) InvalidArgument >> (send_count place narrow start count >>= left_of f start))

  abbrev from_file : ℕ × OpenFile → ℕ × OpenFile → Result ((ℕ × OpenFile) × (ℕ × ℕ)) Errno
  from_file t f = refused_if (not (can_read f.1.flags)) BadDescriptor >> (place_of f.1 place >>= from_start t f)

  abbrev to_target : ℕ × OpenFile → Result ((ℕ × OpenFile) × (ℕ × ℕ)) Errno
  to_target t = refused_if (not (can_write t.1.flags)) BadDescriptor >> (open_file s.open_files source >>= from_file t)

  positive : (b : Bool) → not b ≡ false → b ≡ true
  positive true h = refl
  positive false h = absurd (let e : true ≡ false = h in cc)

  source_found : (x : (ℕ × OpenFile) × (ℕ × ℕ)) → send_source s target source place count narrow ≡ Ok x → IsSource s place x
  unfolding send_source
  source_found x h =
      let t = both_answered (open_file s.open_files target) to_target x h in
      let able = not_refused (not (can_write t.0.1.flags)) BadDescriptor (open_file s.open_files source >>= from_file t.0) x t.2 in
      let f = both_answered (open_file s.open_files source) (from_file t.0) x able.1 in
      let reads = not_refused (not (can_read f.0.1.flags)) BadDescriptor (place_of f.0.1 place >>= from_start t.0 f.0) x f.2 in
      let start = both_answered (place_of f.0.1 place) (from_start t.0 f.0) x reads.1 in
      let file = not_refused (not (is_of_file f.0.1.kind)) InvalidArgument _ x start.2 in
      let fit = not_refused (is_of_directory t.0.1.kind || appends t.0.1.flags) InvalidArgument (send_count place narrow start.0 count >>= left_of f.0 start.0) x file.1 in
      let n = both_answered (send_count place narrow start.0 count) (left_of f.0 start.0) x fit.1 in
      subst (IsSource s place) (same_value (f.0, (start.0, bytes_left s f.0.1 start.0 n.0)) x n.2) (record {
        there = (open_file_found s.open_files source f.0 f.1).there;
        file = positive (is_of_file f.0.1.kind) file.0;
        start = start.1;
        asked = n.0;
        count = refl;
      })

-- ---- the source moves
file_most : (kind : OpenKind) → is_of_file kind ≡ true → most_position kind ≡ most_file_bytes
file_most File h = refl
file_most Directory h = absurd (let e : false ≡ true = h in cc)
file_most PipeRead h = absurd (let e : false ≡ true = h in cc)
file_most PipeWrite h = absurd (let e : false ≡ true = h in cc)
file_most Stream h = absurd (let e : false ≡ true = h in cc)
file_most Datagram h = absurd (let e : false ≡ true = h in cc)
file_most RuleSocket h = absurd (let e : false ≡ true = h in cc)

moved_case : (w : Files) (serial p : ℕ) (o : Option OpenFile) → IsSound w → at w.open_files.files serial ≡ o → ((x : OpenFile) → o ≡ Some x → p ≤ most_position x.kind) → IsSound (positioned_as w serial p o)
moved_case w serial p None sound h range = sound
moved_case w serial p (Some x) sound h range = positioned_is_sound w serial x p sound h (range x refl)

source_case : (w : Files) (serial : ℕ) (place : Place) (p : ℕ) → IsSound w → (place ≡ Current → (x : OpenFile) → at w.open_files.files serial ≡ Some x → p ≤ most_position x.kind) → IsSound (source_moved w serial place p)
source_case w serial Current p sound range = moved_case w serial p (at w.open_files.files serial) sound refl (range refl)
source_case w serial (At m) p sound range = sound

sent_case : (w : Files) (r : Result ℕ Errno) (serial : ℕ) (place : Place) (start : ℕ) → IsSound w → ((n : ℕ) → r ≡ Ok n → IsSound (source_moved w serial place (start + n))) → IsSound (sent serial place start (r, w)).1
sent_case w (Ok n) serial place start sound moved = moved n refl
sent_case w (Err e) serial place start sound moved = sound

few_taken : (count : ℕ) (xs : List ℕ) → length (take count xs) ≤ count
few_taken count xs = grind (arith, common_steps)

sum_range : (start n count asked size most : ℕ) → start ≤ most → n ≤ count → count ≡ min asked (size - start) → size ≤ most → start + n ≤ most
sum_range start n count asked size most a b c d = omega arith

module _ (s : Files) (now : TimeSpec) (own : Credentials) (target : ℤ) (place : Place) (sound : IsSound s) (sizes : HasSizes s.tree) (x : (ℕ × OpenFile) × (ℕ × ℕ)) (source : IsSource s place x) where
  abbrev bytes : List ℕ
  bytes = bytes_from s x.0.1.inode x.1.0 x.1.1

  abbrev after : Result ℕ Errno × Files
  after = write s now own target (length bytes) bytes Current

  start_range : (at_place : Place) → place_of x.0.1 at_place ≡ Ok x.1.0 → at_place ≡ Current → x.1.0 ≤ most_file_bytes
  start_range Current h now_there = subst (λ (k : ℕ). x.1.0 ≤ k) (file_most x.0.1.kind source.file) (subst (λ (k : ℕ). k ≤ most_position x.0.1.kind) (same_value x.0.1.position x.1.0 h) (sound.open_files.files x.0.0 x.0.1 source.there).position)
  start_range (At m) h now_there = absurd (let e : At m ≡ Current = now_there in cc)

  end_range : (n : ℕ) → n ≤ length bytes → place ≡ Current → x.1.0 + n ≤ most_file_bytes
  end_range n few now_there =
      let taken : length bytes ≤ x.1.1 = few_taken x.1.1 (drop x.1.0 (bytes_of s.tree x.0.1.inode)) in
      let count : n ≤ x.1.1 = omega arith in
      sum_range x.1.0 n x.1.1 source.asked (size_of s.tree x.0.1.inode) most_file_bytes (start_range place source.start now_there) count source.count (few_bytes s.tree x.0.1.inode sizes)

  moved_range : (n : ℕ) → Wrote s (length bytes) n after.1 → place ≡ Current → (y : OpenFile) → at after.1.open_files.files x.0.0 ≡ Some y → x.1.0 + n ≤ most_position y.kind
  moved_range n wrote now_there y h =
      let was : WasThere s x.0.0 y = wrote.kinds x.0.0 y h in
      let both : Some was.file ≡ Some x.0.1 = sym was.there ∙ source.there in
      let same : was.file ≡ x.0.1 = cc in
      let kind : y.kind ≡ x.0.1.kind = was.kind ∙ ap (λ (z : OpenFile). z.kind) same in
      subst (λ (k : OpenKind). x.1.0 + n ≤ most_position k) (sym kind) (subst (λ (k : ℕ). x.1.0 + n ≤ k) (sym (file_most x.0.1.kind source.file)) (end_range n wrote.few now_there))

  sent_sound : IsSound (sent x.0.0 place x.1.0 after).1
  sent_sound =
      let w : IsSound after.1 = write_is_sound s now own target (length bytes) bytes Current sound in
      sent_case after.1 after.0 x.0.0 place x.1.0 w (λ n h. source_case after.1 x.0.0 place (x.1.0 + n) w (moved_range n (wrote s now (length bytes) bytes own sound target Current n h)))

from_case : (s : Files) (now : TimeSpec) (own : Credentials) (target : ℤ) (place : Place) (r : Result ((ℕ × OpenFile) × (ℕ × ℕ)) Errno) → IsSound s → HasSizes s.tree → ((x : (ℕ × OpenFile) × (ℕ × ℕ)) → r ≡ Ok x → IsSource s place x) → IsSound (send_from s now own target place r).1
from_case s now own target place (Ok x) sound sizes source = sent_sound s now own target place sound sizes x (source x refl)
from_case s now own target place (Err e) sound sizes source = sound

pub send_file_is_sound : SendFileIsSound
send_file_is_sound s now own target source place count narrow sound sizes = from_case s now own target place (send_source s target source place count narrow) sound sizes (source_found s target source place count narrow)
