-- A write at an offset, and a read there.
use Rattle.std.proofs.Common.{◌≡◌, ◌∙◌, ℕ, ℤ, pos, negsuc, ◌-◌, ◌==◌, ◌&&◌, ◌≤◌, min, nat_le, not, Bool, true, false, List, length, take, drop, cond, is_some, Result, Ok, Err, refl, ap, subst, arith}
use Rattle.std.proofs.lemmas.Grind.{common_steps}
use Rattle.kernel_values.specs.Outcome.{◌>>◌, refused_if}
use Rattle.kernel_values.specs.OpenFlags.{appends, can_write}
use Rattle.kernel_values.specs.declared.errno.Errno.{Errno}
use Rattle.kernel_values.specs.declared.errno.Errno.TheVariants.{BadAddress, BadDescriptor, FileTooLarge, IllegalSeek, IsDirectory}
use Rattle.kernel_values.specs.declared.identity.Credentials.{Credentials}
use Rattle.kernel_values.specs.declared.times.TimeSpec.{TimeSpec}
use Rattle.number_maps.specs.NumberMap.{at}
use Rattle.file_bytes.specs.Row.{written}
use Rattle.file_tree.specs.Lengths.{bytes_of, size_of, with_written}
use Rattle.open_files.specs.Descriptors.{open_file}
use Rattle.open_files.specs.Kinds.{is_of_directory, is_of_pipe, is_of_socket}
use Rattle.open_files.specs.Transfers.{write_socket}
use Rattle.open_files.specs.declared.state.OpenFile.{OpenFile}
use Rattle.open_files.specs.declared.state.Place.TheVariants.{At}
use Rattle.file_store.specs.State.{with_open_files}
use Rattle.file_store.specs.Transfers.{read, read_file, size_limit, write, write_file}
use Rattle.file_store.specs.declared.state.Files.{Files}
use Rattle.file_laws.specs.Bytes.{ReadsInPlace, WrittenBytesReadBack}
use Rattle.file_laws.proofs.Contents.{content_overwritten, written_reaches, written_there}
use Rattle.map_lemmas.proofs.Steps.{both_answered, not_refused, operation_answered, other_branch}

-- what a write of n bytes left
pub record Wrote (s after : Files) (inode start n : ℕ) (bytes : List ℕ) : Type 0 where
  pub opened : after.open_files ≡ s.open_files
  pub some : n ≤ length bytes
  pub holds : take n (drop start (bytes_of after.tree inode)) ≡ take n bytes
  pub reaches : min n (size_of after.tree inode - start) ≡ n

-- the state after bytes were written into a file
abbrev file_written : Files → TimeSpec → ℕ → ℕ → List ℕ → Files
file_written s now inode start bytes = record s { tree = with_written s.tree now inode start bytes }

bytes_written : (s : Files) (now : TimeSpec) (inode start : ℕ) (bytes : List ℕ) → is_some (at s.tree.contents inode) ≡ true → bytes_of (file_written s now inode start bytes).tree inode ≡ written (bytes_of s.tree inode) start bytes
unfolding with_written
bytes_written s now inode start bytes there = content_overwritten s.tree.contents inode start bytes there

length_first : (n : ℕ) (bytes : List ℕ) → n ≤ length bytes → length (take n bytes) ≡ n
length_first n bytes h = grind (arith, common_steps)

wrote_some : (s : Files) (now : TimeSpec) (inode start n : ℕ) (bytes : List ℕ) → is_some (at s.tree.contents inode) ≡ true → n ≤ length bytes → Wrote s (file_written s now inode start (take n bytes)) inode start n bytes
unfolding with_written
wrote_some s now inode start n bytes there h =
    let piece : List ℕ = take n bytes in
    let len : length piece ≡ n = length_first n bytes h in
    let new : bytes_of (file_written s now inode start piece).tree inode ≡ written (bytes_of s.tree inode) start piece = bytes_written s now inode start piece there in
    record {
      opened = refl;
      some = h;
      holds = ap (λ (xs : List ℕ). take n (drop start xs)) new ∙ subst (λ (k : ℕ). take k (drop start (written (bytes_of s.tree inode) start piece)) ≡ piece) len (written_there (bytes_of s.tree inode) start piece);
      reaches = omega (arith, ap length new, written_reaches (bytes_of s.tree inode) start piece, len);
    }

wrote_none : (s : Files) (inode start : ℕ) (bytes : List ℕ) → Wrote s s inode start 0 bytes
wrote_none s inode start bytes = record { opened = refl; some = omega arith; holds = refl; reaches = omega arith }

file_case : (s after : Files) (now : TimeSpec) (f : ℕ × OpenFile) (start wanted n : ℕ) (bytes : List ℕ) (b : Bool)
    → is_some (at s.tree.contents f.1.inode) ≡ true
    → cond {A = Result (ℕ × Files) Errno} b (Ok (0, s)) (refused_if (nat_le (size_limit f.1) start) FileTooLarge >> (refused_if (length bytes == 0) BadAddress >> Ok (min (min wanted (size_limit f.1 - start)) (length bytes), file_written s now f.1.inode start (take (min (min wanted (size_limit f.1 - start)) (length bytes)) bytes)))) ≡ Ok (n, after)
    → Wrote s after f.1.inode start n bytes
file_case s after now f start wanted n bytes true there h =
    let e : (0, s) ≡ (n, after) = cc in
    subst (λ (x : ℕ × Files). Wrote s x.1 f.1.inode start x.0 bytes) e (wrote_none s f.1.inode start bytes)
file_case s after now f start wanted n bytes false there h =
    let small = not_refused (nat_le (size_limit f.1) start) FileTooLarge _ _ h in
    let some = not_refused (length bytes == 0) BadAddress _ _ small.1 in
    let m : ℕ = min (min wanted (size_limit f.1 - start)) (length bytes) in
    let fits : m ≤ length bytes = omega arith in
    let e : (m, file_written s now f.1.inode start (take m bytes)) ≡ (n, after) = cc (some.1) in
    subst (λ (x : ℕ × Files). Wrote s x.1 f.1.inode start x.0 bytes) e (wrote_some s now f.1.inode start m bytes there fits)

wrote_file : (s after : Files) (now : TimeSpec) (f : ℕ × OpenFile) (start wanted n : ℕ) (bytes : List ℕ) → appends f.1.flags ≡ false → is_some (at s.tree.contents f.1.inode) ≡ true → write_file s now f wanted bytes (At (pos start)) ≡ Ok (n, after) → Wrote s after f.1.inode start n bytes
unfolding write_file
wrote_file s after now f start wanted n bytes in_place there h = file_case s after now f start wanted n bytes (wanted == 0) there (rw in_place at h)

no_offset : (s after : Files) (now : TimeSpec) (f : ℕ × OpenFile) (m wanted n : ℕ) (bytes : List ℕ) → write_file s now f wanted bytes (At (negsuc m)) ≡ Ok (n, after) → ⊥
unfolding write_file
no_offset s after now f m wanted n bytes h = cc

-- a socket has no offsets
past_socket : (s after : Files) (own : Credentials) (f : ℕ × OpenFile) (offset : ℤ) (wanted n : ℕ) (bytes : List ℕ) (b : Bool) (r : Result (ℕ × Files) Errno)
    → cond b (with_open_files s (write_socket s.open_files own f wanted bytes (At offset))) r ≡ Ok (n, after)
    → (b ≡ false) × (r ≡ Ok (n, after))
unfolding write_socket
past_socket s after own f offset wanted n bytes b r h = other_branch b IllegalSeek r (n, after) h

-- what a write to an open file does
abbrev written_to : Files → TimeSpec → Credentials → ℕ → List ℕ → ℤ → ℕ × OpenFile → Result (ℕ × Files) Errno
written_to s now own wanted bytes offset f =
    refused_if (not (can_write f.1.flags)) BadDescriptor >> (refused_if (is_of_directory f.1.kind) IsDirectory >>
    cond (is_of_socket f.1.kind) (with_open_files s (write_socket s.open_files own f wanted bytes (At offset)))
    (cond (is_of_pipe f.1.kind) (Err IllegalSeek) (write_file s now f wanted bytes (At offset))))

-- an open file of which bytes were written at an offset is of a file
pub record WroteTo (s after : Files) (now : TimeSpec) (f : ℕ × OpenFile) (offset : ℤ) (wanted n : ℕ) (bytes : List ℕ) : Type 0 where
  pub directory : is_of_directory f.1.kind ≡ false
  pub socket : is_of_socket f.1.kind ≡ false
  pub pipe : is_of_pipe f.1.kind ≡ false
  pub file : write_file s now f wanted bytes (At offset) ≡ Ok (n, after)

wrote_to : (s after : Files) (now : TimeSpec) (own : Credentials) (f : ℕ × OpenFile) (offset : ℤ) (wanted n : ℕ) (bytes : List ℕ) → written_to s now own wanted bytes offset f ≡ Ok (n, after) → WroteTo s after now f offset wanted n bytes
wrote_to s after now own f offset wanted n bytes h =
    let writes = not_refused _ BadDescriptor _ _ h in
    let directory = not_refused (is_of_directory f.1.kind) IsDirectory _ _ writes.1 in
    let socket = past_socket s after own f offset wanted n bytes (is_of_socket f.1.kind) _ directory.1 in
    let pipe = other_branch (is_of_pipe f.1.kind) IllegalSeek _ _ socket.1 in
    record { directory = directory.0; socket = socket.0; pipe = pipe.0; file = pipe.1 }

pub write_answered : (s : Files) (now : TimeSpec) (own : Credentials) (fd : ℤ) (f : ℕ × OpenFile) (offset : ℤ) (wanted n : ℕ) (bytes : List ℕ) → open_file s.open_files fd ≡ Ok f → (write s now own fd wanted bytes (At offset)).0 ≡ Ok n → WroteTo s (write s now own fd wanted bytes (At offset)).1 now f offset wanted n bytes
write_answered s now own fd f offset wanted n bytes named h =
    let after : Files = (write s now own fd wanted bytes (At offset)).1 in
    let steps = both_answered (open_file s.open_files fd) (written_to s now own wanted bytes offset) (n, after) (operation_answered s _ n h) in
    let same : steps.0 ≡ f = cc (steps.1) in
    wrote_to s after now own f offset wanted n bytes (subst (λ (g : ℕ × OpenFile). written_to s now own wanted bytes offset g ≡ Ok (n, after)) same steps.2)

some_room : (n room : ℕ) → n ≤ room → (not (n == 0) && (room == 0)) ≡ false
some_room n room h = grind (arith, common_steps)

fits_room : (n room : ℕ) → n ≤ room → min n room ≡ n
fits_room n room h = omega arith

pub read_after : (s after : Files) (fd : ℤ) (f : ℕ × OpenFile) (start n room : ℕ) (bytes : List ℕ) → ReadsInPlace s fd f → is_of_directory f.1.kind ≡ false → is_of_socket f.1.kind ≡ false → is_of_pipe f.1.kind ≡ false → Wrote s after f.1.inode start n bytes → n ≤ room → (read after fd n room (At (pos start))).0 ≡ Ok (take n bytes)
unfolding read_file
read_after s after fd f start n room bytes reads directory socket pipe wrote fits =
    let named : open_file after.open_files fd ≡ Ok f = ap (λ o. open_file o fd) wrote.opened ∙ reads.named in
    rw (named, reads.reads, directory, socket, pipe, wrote.reaches, some_room n room fits, fits_room n room fits) (ap (λ (xs : List ℕ). Ok xs) wrote.holds)

by_offset : (s : Files) (now : TimeSpec) (fd : ℤ) (f : ℕ × OpenFile) (offset : ℤ) (wanted n room : ℕ) (bytes : List ℕ) (after : Files) → ReadsInPlace s fd f → WroteTo s after now f offset wanted n bytes → n ≤ room → (n ≤ length bytes) × ((read after fd n room (At offset)).0 ≡ Ok (take n bytes))
by_offset s now fd f (pos start) wanted n room bytes after reads to fits =
    let wrote : Wrote s after f.1.inode start n bytes = wrote_file s after now f start wanted n bytes reads.in_place reads.there to.file in
    (wrote.some, read_after s after fd f start n room bytes reads to.directory to.socket to.pipe wrote fits)
by_offset s now fd f (negsuc m) wanted n room bytes after reads to fits = absurd (no_offset s after now f m wanted n bytes to.file)

pub written_bytes_read_back : WrittenBytesReadBack
written_bytes_read_back s now own fd f offset wanted n room bytes reads h fits =
    by_offset s now fd f offset wanted n room bytes (write s now own fd wanted bytes (At offset)).1 reads (write_answered s now own fd f offset wanted n bytes reads.named h) fits
