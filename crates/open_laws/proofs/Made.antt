-- Open files and pipes that are made.
use Rattle.std.proofs.Common.{◌≡◌, ◌≢◌, ◌∙◌, ℕ, ◌+◌, ◌-◌, ◌^◌, ◌<◌, ◌≤◌, nat_lt, not, Bool, true, false, List, [], length, Option, Some, None, is_some, Result, Ok, inl, inr, refl, ap, sym, subst, arith}
use Rattle.std.proofs.lemmas.Grind.{common_steps}
use Rattle.std.specs.List.Sorted.{IsStrictlySortedBy}
use Rattle.kernel_values.specs.Outcome.{◌>>◌, refused_if}
use Rattle.kernel_values.specs.declared.errno.Errno.{Errno}
use Rattle.kernel_values.specs.declared.errno.Errno.TheVariants.{InvalidArgument, TableFull}
use Rattle.kernel_values.specs.declared.items.OpenKind.TheVariants.{PipeRead, PipeWrite}
use Rattle.number_maps.specs.NumberMap.{at, put}
use Rattle.socket_tables.specs.Sockets.{no_sockets}
use Rattle.open_files.specs.Descriptors.{counted, installed}
use Rattle.open_files.specs.Holding.{is_held, is_open}
use Rattle.open_files.specs.Made.{HasRoom, is_full}
use Rattle.open_files.specs.Numbers.{free_pair}
use Rattle.open_files.specs.Piping.{is_pipe_flags, marks_close, pipe_end, pipe_numbers, with_empty_pipe, with_pipe}
use Rattle.open_files.specs.declared.state.Descriptor.{Descriptor}
use Rattle.open_files.specs.declared.state.OpenFile.{OpenFile}
use Rattle.open_files.specs.declared.state.OpenFiles.{OpenFiles}
use Rattle.open_laws.specs.Laws.{CountedIsSound, InstalledIsSound, IsNewNumber, MadePipeIsSound, MayOpen, NothingOpenIsSound}
use Rattle.open_laws.specs.Sound.{IsCounted, IsSound, IsSoundFile, IsSoundPipe, MapsAscend, NamesThere}
use Rattle.open_laws.proofs.Follows.{pair_has_new_numbers}
use Rattle.open_laws.proofs.Held.{held_is, held_names, names_at, names_put, open_at, open_put}
use Rattle.map_lemmas.proofs.Maps.{ascending_put, at_put, at_put_apart, every_put, not_both, one_or_other, there_at_put, there_put}
use Rattle.map_lemmas.proofs.Steps.{both_answered, not_refused, same_value}

pub nothing_open_is_sound : NothingOpenIsSound
unfolding IsStrictlySortedBy
nothing_open_is_sound = record {
  ascend = record { descriptors = tt; files = tt; pipes = tt };
  descriptors = λ n d h. absurd (let e : None ≡ Some d = h in cc);
  files = λ n f h. absurd (let e : None ≡ Some f = h in cc);
  pipes = λ n b h. absurd (let e : None ≡ Some b = h in cc);
  made = record { serials = omega arith; things = omega arith };
  sockets = refl;
}

counted_file : (s : OpenFiles) (things n : ℕ) (f : OpenFile) → IsSoundFile s n f → IsSoundFile (counted s things) n f
unfolding is_held
counted_file s things n f e = record { held = e.held; positive = e.positive; given = e.given; ends = e.ends; position = e.position }

pub counted_is_sound : CountedIsSound
counted_is_sound s things sound room = record {
  ascend = record { descriptors = sound.ascend.descriptors; files = sound.ascend.files; pipes = sound.ascend.pipes };
  descriptors = λ n d h. let e : NamesThere s n d = sound.descriptors n d h in record { word = e.word; there = e.there };
  files = λ n f h. counted_file s things n f (sound.files n f h);
  pipes = λ n b h. let e : IsSoundPipe s n b = sound.pipes n b h in record { opened = e.opened; waits = e.waits };
  made = (let m : IsCounted s.made = sound.made in record { serials = omega arith; things = room });
  sockets = sound.sockets;
}

-- ---- sound but for some pipes, which may have no open file yet
pub record IsSoundWhere (needs : ℕ → Type 0) (s : OpenFiles) : Type 0 where
  pub ascend : MapsAscend s
  pub descriptors : (number : ℕ) (d : Descriptor) → at s.descriptors number ≡ Some d → NamesThere s number d
  pub files : (serial : ℕ) (f : OpenFile) → at s.files serial ≡ Some f → IsSoundFile s serial f
  pub pipes : (inode : ℕ) (bytes : List ℕ) → needs inode → at s.pipes inode ≡ Some bytes → IsSoundPipe s inode bytes
  pub made : IsCounted s.made
  -- no socket was made
  pub sockets : s.sockets ≡ no_sockets

module _ (needs : ℕ → Type 0) (s : OpenFiles) (n : ℕ) (file : OpenFile) (cloexec : Bool) (sound : IsSoundWhere needs s) (may : MayOpen s n file) where
  abbrev serial : ℕ
  serial = s.made.last_serial + 1

  abbrev new : Descriptor
  new = record { serial = s.made.last_serial + 1; cloexec = cloexec }

  abbrev after : OpenFiles
  after = installed s n file cloexec

  none_named : (old : Descriptor) → at s.descriptors n ≡ Some old → old.serial ≡ serial
  none_named old h = absurd (not_both (at s.descriptors n) old may.free h)

  none_there : (old : OpenFile) → at s.files serial ≡ Some old → old.inode ≡ file.inode
  none_there old h = absurd (let e : IsSoundFile s serial old = sound.files serial old h in let g : s.made.last_serial + 1 ≤ s.made.last_serial = e.given in omega arith)

  old_file : (q : ℕ) (f : OpenFile) → at s.files q ≡ Some f → IsSoundFile after q f
  old_file q f h =
      let e : IsSoundFile s q f = sound.files q f h in
      let named = held_names s q true sound.sockets e.held in
      record {
        held = held_is after q (names_put s.descriptors n new q sound.ascend.descriptors none_named named);
        positive = e.positive;
        given = (let g : q ≤ s.made.last_serial = e.given in omega arith);
        ends = e.ends;
        position = e.position;
      }

  new_file : IsSoundFile after serial file
  new_file = record {
    held = held_is after serial (names_at (put s.descriptors n new) n serial new (at_put s.descriptors n new) refl);
    positive = omega arith;
    given = omega arith;
    ends = may.ends;
    position = may.position;
  }

  old_descriptor : (m : ℕ) (d : Descriptor) → at s.descriptors m ≡ Some d → NamesThere after m d
  old_descriptor m d h =
      let e : NamesThere s m d = sound.descriptors m d h in
      record { word = e.word; there = there_put s.files d.serial serial file e.there }

  pub installed_kept : IsSoundWhere needs after
  installed_kept = record {
    ascend = record { descriptors = ascending_put s.descriptors n new sound.ascend.descriptors; files = ascending_put s.files serial file sound.ascend.files; pipes = sound.ascend.pipes };
    descriptors = every_put (λ m d. NamesThere after m d) s.descriptors n new (λ m d other h. old_descriptor m d h) (record { word = may.word; there = there_at_put s.files serial file });
    files = every_put (λ q f. IsSoundFile after q f) s.files serial file (λ q f other h. old_file q f h) new_file;
    pipes = λ inode bytes need h. let e : IsSoundPipe s inode bytes = sound.pipes inode bytes need h in record { opened = open_put s.files serial file inode sound.ascend.files none_there e.opened; waits = e.waits };
    made = (let m : IsCounted s.made = sound.made in record { serials = omega arith; things = may.room });
    sockets = sound.sockets;
  }

every_pipe : ℕ → Type 0
every_pipe inode = Unit {0}

pub installed_is_sound : InstalledIsSound
unfolding every_pipe
installed_is_sound s n file cloexec sound may =
    let e : IsSoundWhere every_pipe (installed s n file cloexec) = installed_kept every_pipe s n file cloexec (record { ascend = sound.ascend; descriptors = sound.descriptors; files = sound.files; pipes = λ inode bytes need h. sound.pipes inode bytes h; made = sound.made; sockets = sound.sockets }) may in
    record { ascend = e.ascend; descriptors = e.descriptors; files = e.files; pipes = λ inode bytes h. e.pipes inode bytes tt h; made = e.made; sockets = e.sockets }

-- ---- a pipe
module _ (s : OpenFiles) (inode : ℕ) (sound : IsSound s) (room : HasRoom s.made 1) (free : is_open s.files inode ≡ false) where
  abbrev empty : OpenFiles
  empty = with_empty_pipe s inode

  other_inode : (serial : ℕ) (f : OpenFile) → at s.files serial ≡ Some f → f.inode ≢ inode
  other_inode serial f h same = absurd (let e : is_open s.files inode ≡ true = open_at s.files serial inode f h same in cc)

  empty_file : (serial : ℕ) (f : OpenFile) → at s.files serial ≡ Some f → IsSoundFile empty serial f
  unfolding is_held
  empty_file serial f h =
      let e : IsSoundFile s serial f = sound.files serial f h in
      record {
        held = e.held;
        positive = e.positive;
        given = e.given;
        ends = ap (λ (o : Option (List ℕ)). is_some o) (at_put_apart s.pipes f.inode inode [] (other_inode serial f h)) ∙ e.ends;
        position = e.position;
      }

  pub empty_is_sound : IsSoundWhere (λ i. i ≢ inode) empty
  empty_is_sound = record {
    ascend = record { descriptors = sound.ascend.descriptors; files = sound.ascend.files; pipes = ascending_put s.pipes inode [] sound.ascend.pipes };
    descriptors = λ m d h. let e : NamesThere s m d = sound.descriptors m d h in record { word = e.word; there = e.there };
    files = empty_file;
    pipes = λ i bytes other h. let e : IsSoundPipe s i bytes = sound.pipes i bytes (sym (at_put_apart s.pipes i inode [] other) ∙ h) in record { opened = e.opened; waits = e.waits };
    made = (let m : IsCounted s.made = sound.made in record { serials = omega arith; things = room });
    sockets = sound.sockets;
  }

some_left : (things : ℕ) → nat_lt (2 ^ 31 - 5) things ≡ false → things + 3 < 2 ^ 31
some_left things h = grind (arith, common_steps)

-- what a pipe's numbers were found to be
pub record HasNumbers (s : OpenFiles) (limit : ℕ) (n : ℕ × ℕ) : Type 0 where
  pub first : IsNewNumber s 0 limit n.0
  pub second : IsNewNumber s (n.0 + 1) limit n.1
  pub room : s.made.things + 3 < 2 ^ 31

numbers_of : OpenFiles → ℕ → ℕ × ℕ → Result (ℕ × ℕ) Errno
numbers_of s flags n = refused_if (is_full s.made) TableFull >> (refused_if (not (is_pipe_flags flags)) InvalidArgument >> Ok n)

pub has_numbers : (s : OpenFiles) (limit flags : ℕ) (n : ℕ × ℕ) → pipe_numbers s limit flags ≡ Ok n → HasNumbers s limit n
unfolding pipe_numbers numbers_of
has_numbers s limit flags n h =
    let pair = both_answered (free_pair s limit) (numbers_of s flags) n h in
    let full = not_refused (is_full s.made) TableFull _ n pair.2 in
    let known = not_refused (not (is_pipe_flags flags)) InvalidArgument (Ok pair.0) n full.1 in
    let same : pair.0 ≡ n = same_value pair.0 n known.1 in
    let new = pair_has_new_numbers s limit n (pair.1 ∙ ap Ok same) in
    record { first = new.0; second = new.1; room = some_left s.made.things full.0 }

module _ (s : OpenFiles) (limit flags : ℕ) (n : ℕ × ℕ) (inode : ℕ) (sound : IsSound s) (word : limit ≤ 2 ^ 32) (numbers : HasNumbers s limit n) (free : is_open s.files inode ≡ false) where
  abbrev one : OpenFiles
  one = installed (with_empty_pipe s inode) n.0 (pipe_end inode PipeRead 0 flags) (marks_close flags)

  abbrev two : OpenFiles
  two = installed one n.1 (pipe_end inode PipeWrite 1 flags) (marks_close flags)

  apart : n.1 ≢ n.0
  apart same = absurd (let g : n.0 + 1 ≤ n.1 = numbers.second.least_kept in omega arith)

  one_is_sound : IsSoundWhere (λ i. i ≢ inode) one
  one_is_sound = installed_kept (λ i. i ≢ inode) (with_empty_pipe s inode) n.0 (pipe_end inode PipeRead 0 flags) (marks_close flags)
      (empty_is_sound s inode sound (let r : s.made.things + 3 < 2 ^ 31 = numbers.room in omega arith) free)
      (record {
        free = numbers.first.free;
        word = (let b : n.0 < limit = numbers.first.below in omega arith);
        room = (let r : s.made.things + 3 < 2 ^ 31 = numbers.room in omega arith);
        ends = there_at_put s.pipes inode [];
        position = omega arith;
      })

  two_is_sound : IsSoundWhere (λ i. i ≢ inode) two
  two_is_sound = installed_kept (λ i. i ≢ inode) one n.1 (pipe_end inode PipeWrite 1 flags) (marks_close flags) one_is_sound
      (record {
        free = at_put_apart s.descriptors n.1 n.0 (record { serial = s.made.last_serial + 1; cloexec = marks_close flags }) apart ∙ numbers.second.free;
        word = (let b : n.1 < limit = numbers.second.below in omega arith);
        room = (let r : s.made.things + 3 < 2 ^ 31 = numbers.room in omega arith);
        ends = there_at_put s.pipes inode [];
        position = omega arith;
      })

  new_pipe : (i : ℕ) (bytes : List ℕ) → i ≡ inode → at two.pipes i ≡ Some bytes → IsSoundPipe two i bytes
  new_pipe i bytes same h =
      let both : Some [] ≡ Some bytes = sym (ap (at two.pipes) same ∙ at_put s.pipes inode []) ∙ h in
      let none : [] ≡ bytes = cc in
      record {
        opened = open_at two.files (one.made.last_serial + 1) i (pipe_end inode PipeWrite 1 flags) (at_put one.files (one.made.last_serial + 1) (pipe_end inode PipeWrite 1 flags)) (sym same);
        waits = subst (λ (b : List ℕ). length b ≤ 65536) none (omega arith);
      }

  pub pipe_is_sound : IsSound two
  pipe_is_sound =
      let e : IsSoundWhere (λ i. i ≢ inode) two = two_is_sound in
      record {
        ascend = e.ascend;
        descriptors = e.descriptors;
        files = e.files;
        pipes = λ i bytes h. elim (one_or_other i inode) [
          | inl same ↦ new_pipe i bytes same h
          | inr other ↦ e.pipes i bytes other h
        ];
        made = e.made;
        sockets = e.sockets;
      }

pub made_pipe_is_sound : MadePipeIsSound
unfolding with_pipe
made_pipe_is_sound s limit flags n inode sound word told free = pipe_is_sound s limit flags n inode sound word (has_numbers s limit flags n told) free
