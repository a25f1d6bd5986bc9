-- Descriptors that go, and open files and pipes with them.
use Rattle.std.proofs.Common.{◌≡◌, ◌≢◌, ◌∙◌, ℕ, Bool, true, false, List, cond, Option, Some, is_some, inl, inr, refl, ap, sym}
use Rattle.number_maps.specs.NumberMap.{at, removed}
use Rattle.open_files.specs.Descriptors.{without_descriptor}
use Rattle.open_files.specs.Holding.{is_held, is_open, names}
use Rattle.open_files.specs.Kinds.{is_of_pipe}
use Rattle.open_files.specs.Piping.{drained}
use Rattle.open_files.specs.declared.state.Descriptor.{Descriptor}
use Rattle.open_files.specs.declared.state.OpenFile.{OpenFile}
use Rattle.open_files.specs.declared.state.OpenFiles.{OpenFiles}
use Rattle.open_laws.specs.Laws.{DrainedIsSound, GoneIsSound, IsLast, UnnamedIsSound, gone}
use Rattle.open_laws.specs.Sound.{IsSound, IsSoundFile, IsSoundPipe, NamesThere, is_there}
use Rattle.open_laws.proofs.Held.{held_is, held_names, names_at, names_removed, open_at, open_removed}
use Rattle.map_lemmas.proofs.Maps.{ascending_removed, at_removed_apart, every_removed, one_or_other}

-- ---- another holder stays
module _ (s : OpenFiles) (n : ℕ) (d : Descriptor) (sound : IsSound s) (there : at s.descriptors n ≡ Some d) (held : is_held (without_descriptor s n) d.serial ≡ true) where
  still_named : (serial : ℕ) → names s.descriptors serial ≡ true → names (removed s.descriptors n) serial ≡ true
  still_named serial h = elim (one_or_other serial d.serial) [
    | inl same ↦ ap (names (removed s.descriptors n)) same ∙ held_names (without_descriptor s n) d.serial true sound.sockets held
    | inr other ↦ names_removed s.descriptors n d serial sound.ascend.descriptors there other h
  ]

  still_file : (serial : ℕ) (f : OpenFile) → at s.files serial ≡ Some f → IsSoundFile (without_descriptor s n) serial f
  still_file serial f h =
      let e : IsSoundFile s serial f = sound.files serial f h in
      record { held = held_is (without_descriptor s n) serial (still_named serial (held_names s serial true sound.sockets e.held)); positive = e.positive; given = e.given; ends = e.ends; position = e.position }

  unnamed_kept : IsSound (without_descriptor s n)
  unnamed_kept = record {
    ascend = record { descriptors = ascending_removed s.descriptors n sound.ascend.descriptors; files = sound.ascend.files; pipes = sound.ascend.pipes };
    descriptors = every_removed (λ m x. NamesThere (without_descriptor s n) m x) s.descriptors n sound.ascend.descriptors (λ m x other h. let e : NamesThere s m x = sound.descriptors m x h in record { word = e.word; there = e.there });
    files = still_file;
    pipes = λ inode bytes h. let e : IsSoundPipe s inode bytes = sound.pipes inode bytes h in record { opened = e.opened; waits = e.waits };
    made = sound.made;
    sockets = sound.sockets;
  }

pub unnamed_is_sound : UnnamedIsSound
unnamed_is_sound = unnamed_kept

-- ---- the last holder went
module _ (s : OpenFiles) (n : ℕ) (d : Descriptor) (f : OpenFile) (sound : IsSound s) (last : IsLast s n d f) where
  abbrev after : OpenFiles
  after = gone s n d.serial

  left_file : (serial : ℕ) (x : OpenFile) → serial ≢ d.serial → at s.files serial ≡ Some x → IsSoundFile after serial x
  left_file serial x other h =
      let e : IsSoundFile s serial x = sound.files serial x h in
      record {
        held = held_is after serial (names_removed s.descriptors n d serial sound.ascend.descriptors last.named other (held_names s serial true sound.sockets e.held));
        positive = e.positive;
        given = e.given;
        ends = e.ends;
        position = e.position;
      }

  other_serial : (m : ℕ) (x : Descriptor) → m ≢ n → at s.descriptors m ≡ Some x → x.serial ≢ d.serial
  other_serial m x apart h same =
      let named : names (removed s.descriptors n) d.serial ≡ true = names_at (removed s.descriptors n) m d.serial x (at_removed_apart s.descriptors m n apart ∙ h) same in
      let none : names (removed s.descriptors n) d.serial ≡ false = held_names (without_descriptor s n) d.serial false sound.sockets last.last in
      cc

  left_descriptor : (m : ℕ) (x : Descriptor) → m ≢ n → at s.descriptors m ≡ Some x → NamesThere after m x
  left_descriptor m x apart h =
      let e : NamesThere s m x = sound.descriptors m x h in
      record { word = e.word; there = ap (λ (o : Option OpenFile). is_some o) (at_removed_apart s.files x.serial d.serial (other_serial m x apart h)) ∙ e.there }

  left_pipe : (inode : ℕ) (bytes : List ℕ) → inode ≢ f.inode → at s.pipes inode ≡ Some bytes → IsSoundPipe after inode bytes
  left_pipe inode bytes other h =
      let e : IsSoundPipe s inode bytes = sound.pipes inode bytes h in
      record { opened = open_removed s.files d.serial f inode sound.ascend.files last.there other e.opened; waits = e.waits }

  other_pipe : (inode : ℕ) (bytes : List ℕ) → is_of_pipe f.kind ≡ false → at s.pipes inode ≡ Some bytes → inode ≢ f.inode
  other_pipe inode bytes no_pipe h same =
      let e : IsSoundFile s d.serial f = sound.files d.serial f last.there in
      let there : is_there s.pipes f.inode ≡ true = rw (← same, h) refl in
      let none : is_there s.pipes f.inode ≡ false = e.ends ∙ no_pipe in
      cc

  gone_with : ((inode : ℕ) (bytes : List ℕ) → at s.pipes inode ≡ Some bytes → IsSoundPipe after inode bytes) → IsSound after
  gone_with pipes = record {
    ascend = record { descriptors = ascending_removed s.descriptors n sound.ascend.descriptors; files = ascending_removed s.files d.serial sound.ascend.files; pipes = sound.ascend.pipes };
    descriptors = every_removed (λ m x. NamesThere after m x) s.descriptors n sound.ascend.descriptors left_descriptor;
    files = every_removed (λ q x. IsSoundFile after q x) s.files d.serial sound.ascend.files left_file;
    pipes = pipes;
    made = sound.made;
    sockets = sound.sockets;
  }

  gone_kept : is_of_pipe f.kind ≡ false → IsSound after
  gone_kept no_pipe = gone_with (λ inode bytes h. left_pipe inode bytes (other_pipe inode bytes no_pipe h) h)

  -- ---- its pipe stays, or goes with it
  open_pipe : is_open after.files f.inode ≡ true → (inode : ℕ) (bytes : List ℕ) → at s.pipes inode ≡ Some bytes → IsSoundPipe after inode bytes
  open_pipe opened inode bytes h = elim (one_or_other inode f.inode) [
    | inl same ↦ record { opened = ap (is_open after.files) same ∙ opened; waits = (sound.pipes inode bytes h).waits }
    | inr other ↦ left_pipe inode bytes other h
  ]

  abbrev dry : OpenFiles
  dry = record after { pipes = removed s.pipes f.inode }

  dry_file : is_open after.files f.inode ≡ false → (serial : ℕ) (x : OpenFile) → serial ≢ d.serial → at s.files serial ≡ Some x → IsSoundFile dry serial x
  unfolding is_held
  dry_file closed serial x other h =
      let e : IsSoundFile after serial x = left_file serial x other h in
      let apart : x.inode ≢ f.inode = λ same. (let opened : is_open after.files f.inode ≡ true = open_at after.files serial f.inode x (at_removed_apart s.files serial d.serial other ∙ h) same in absurd (let clash : true ≡ false = sym opened ∙ closed in cc)) in
      record { held = e.held; positive = e.positive; given = e.given; ends = ap (λ (o : Option (List ℕ)). is_some o) (at_removed_apart s.pipes x.inode f.inode apart) ∙ e.ends; position = e.position }

  dry_is_sound : is_open after.files f.inode ≡ false → IsSound dry
  dry_is_sound closed = record {
    ascend = record { descriptors = ascending_removed s.descriptors n sound.ascend.descriptors; files = ascending_removed s.files d.serial sound.ascend.files; pipes = ascending_removed s.pipes f.inode sound.ascend.pipes };
    descriptors = every_removed (λ m x. NamesThere dry m x) s.descriptors n sound.ascend.descriptors (λ m x apart h. let e : NamesThere after m x = left_descriptor m x apart h in record { word = e.word; there = e.there });
    files = every_removed (λ q x. IsSoundFile dry q x) s.files d.serial sound.ascend.files (dry_file closed);
    pipes = every_removed (λ i b. IsSoundPipe dry i b) s.pipes f.inode sound.ascend.pipes (λ i b other h. let e : IsSoundPipe after i b = left_pipe i b other h in record { opened = e.opened; waits = e.waits });
    made = sound.made;
    sockets = sound.sockets;
  }

  drained_case : (b : Bool) → is_open after.files f.inode ≡ b → IsSound (cond b after dry)
  drained_case true opened = gone_with (open_pipe opened)
  drained_case false closed = dry_is_sound closed

  drained_kept : IsSound (drained after f.inode)
  unfolding drained
  drained_kept = drained_case (is_open after.files f.inode) refl

pub gone_is_sound : GoneIsSound
gone_is_sound s n d f sound last no_pipe = gone_kept s n d f sound last no_pipe

pub drained_is_sound : DrainedIsSound
drained_is_sound s n d f sound last = drained_kept s n d f sound last
