-- What a line of the image says is done.
use Rattle.std.specs.Prelude.{◌≡◌, ⊤, ◌/◌, ℕ, false, List, [], ◌∷◌, Ok}
use Rattle.native_kernel.specs.Operations.{image_bytes, image_directory, image_file, image_lock}
use Rattle.replay_command.specs.Machine.{applied, is_refused, start}
use Rattle.replay_command.specs.declared.machine.Machine.{Machine}
use Rattle.script_reader.specs.Grammar.{Line, Header, Clock, Who, Usage, Restorer, Page, Dir, File, Bytes, Lock, Poke, Call, Advance, Post, Show}
use Rattle.script_reader.specs.Script.{script_of}

-- What a line of the image makes can be made: the page can be mapped, and the kernel answers Ok. The lines of clocks, of the owner and
-- what it has used, and of the return address set what is always there.
abbrev pub IsDone : Machine → Line → Type 0
IsDone m (Page at writable bytes) = is_refused m.world.memory (at / 4096) ≡ false
IsDone m (Dir path inode) = (image_directory m.world.kernel path inode).0 ≡ Ok tt
IsDone m (File path inode size) = (image_file m.world.kernel path inode size).0 ≡ Ok tt
IsDone m (Bytes path offset bytes) = (image_bytes m.world.kernel path offset bytes).0 ≡ Ok tt
IsDone m (Lock path write start count pid) = (image_lock m.world.kernel path write start count pid).0 ≡ Ok tt
IsDone m (Header kind) = ⊤
IsDone m (Clock real monotonic) = ⊤
IsDone m (Who owner privileged) = ⊤
IsDone m (Usage usage) = ⊤
IsDone m (Restorer address) = ⊤
IsDone m (Poke at bytes) = ⊤
IsDone m (Call registers) = ⊤
IsDone m (Advance nanos) = ⊤
IsDone m (Post info) = ⊤
IsDone m Show = ⊤

-- each line is done by the machine that those before it left
abbrev pub AreDone : Machine → List Line → Type 0
AreDone m [] = ⊤
AreDone m (line ∷ lines) = IsDone m line × AreDone (applied m line).machine lines

-- Whatever the bytes of a script are, the machine does each line of the image that the reader gives of them.
abbrev pub ImageLinesAreDone : Type 0
ImageLinesAreDone = (bytes : List ℕ) → AreDone start (script_of bytes).records
