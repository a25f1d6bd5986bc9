-- Open files that end one after another.
use Rattle.std.proofs.Common.{◌≡◌, ℕ, zero, suc, ◌+◌, ◌<◌, ◌^◌, List, [], ◌∷◌, ◌++◌, length, Bool, true, false, Option, Some, None, refl, sym, ap, ◌∙◌, arith, add_assoc, length-append}
use Rattle.std.specs.Prelude.{◌||◌, if◌then◌else◌}
use Rattle.number_maps.specs.NumberMap.{at}
use Rattle.socket_tables.specs.Sockets.{SocketsState, held_by, total_held}
use Rattle.open_files.specs.Holding.{is_held, is_open}
use Rattle.open_files.specs.Kinds.{is_of_pipe}
use Rattle.open_files.specs.Piping.{drained}
use Rattle.open_files.specs.declared.state.OpenFile.{OpenFile}
use Rattle.open_files.specs.declared.state.OpenFiles.{OpenFiles}
use Rattle.file_store.specs.Releasing.{all_held, all_swept, ended, ended_as, held_in, let_go_of, swept}
use Rattle.file_store.specs.declared.state.Files.{Files}

none_swept : (n : ℕ) (s : Files) → swept n s [] ≡ s
unfolding swept
none_swept zero s = refl
none_swept (suc n) s = refl

-- of no candidates none ends
pub nothing_swept : (s : Files) → all_swept s [] ≡ s
nothing_swept s = none_swept _ s

steps : (s : Files) (serial : ℕ) (others : List ℕ) → length (serial ∷ others) + total_held s.open_files.sockets.entries ≡ suc (length others + total_held s.open_files.sockets.entries)
steps s serial others = omega arith

-- one that lasts stays
pub one_lasts : (s : Files) (serial : ℕ) (others : List ℕ) → is_held s.open_files serial ≡ true → all_swept s (serial ∷ others) ≡ all_swept s others
unfolding swept
one_lasts s serial others stays = rw (steps s serial others, stays) refl

-- one that nothing holds ends, and what it held stands behind the others
pub one_ends : (s : Files) (serial : ℕ) (others held : List ℕ) → is_held s.open_files serial ≡ false → held ≡ held_in s serial
    → length held + total_held (ended s serial).open_files.sockets.entries ≡ total_held s.open_files.sockets.entries
    → all_swept s (serial ∷ others) ≡ all_swept (ended s serial) (others ++ held)
unfolding swept
one_ends s serial others held goes is total =
    let same : length others + total_held s.open_files.sockets.entries ≡ length (others ++ held) + total_held (ended s serial).open_files.sockets.entries =
    ap (λ (n : ℕ). length others + n) (sym total) ∙ sym (add_assoc (length others) (length held) (total_held (ended s serial).open_files.sockets.entries))
    ∙ ap (λ (n : ℕ). n + total_held (ended s serial).open_files.sockets.entries) (sym (length-append others held)) in
    rw (steps s serial others, goes, ← is, same) refl

either : (b : Bool) (x y : OpenFiles) (t : SocketsState) → x.sockets ≡ t → y.sockets ≡ t → (if b then x else y).sockets ≡ t
either true x y t first second = first
either false x y t first second = second

-- what a pipe's end was of has nothing to do with sockets
drained_keeps : (s : OpenFiles) (inode : ℕ) → (drained s inode).sockets ≡ s.sockets
unfolding drained
drained_keeps s inode = either (is_open s.files inode) s _ s.sockets refl refl

both : (b : Bool) (x y : Files) (t : SocketsState) → x.open_files.sockets ≡ t → y.open_files.sockets ≡ t → (if b then x else y).open_files.sockets ≡ t
both true x y t first second = first
both false x y t first second = second

-- nor what any open file was of
let_go_keeps : (s : Files) (f : OpenFile) → (let_go_of s f).open_files.sockets ≡ s.open_files.sockets
unfolding let_go_of
let_go_keeps s f = both (is_of_pipe f.kind) _ _ s.open_files.sockets (drained_keeps s.open_files f.inode) refl

pub sockets_stay : (s : Files) (serial : ℕ) (found : Option OpenFile) → (ended_as s serial found).open_files.sockets ≡ s.open_files.sockets
sockets_stay s serial None = refl
sockets_stay s serial (Some f) = let_go_keeps _ f

-- fewer are left to be looked at
pub fewer_left : (left after others held : List ℕ) (total now : ℕ) → length left ≡ suc (length others) → after ≡ others ++ held → length held + now ≡ total
    → length after + now < length left + total
fewer_left left after others held total now count is all = rw is (simp length-append (omega (arith, count, all)))

-- and no more than before are left and held
pub few_still : (left after others held : List ℕ) (total now : ℕ) → length left ≡ suc (length others) → after ≡ others ++ held → length held + now ≡ total
    → length left + total < 2 ^ 62 → length after + now < 2 ^ 62
few_still left after others held total now count is all few = rw is (simp length-append (omega (arith, count, all, few)))
