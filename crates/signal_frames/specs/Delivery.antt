-- The delivery of signals: taken one after another, each with its frame.
use Rattle.std.specs.Prelude.{◌≡◌, ℕ, zero, suc, ◌+◌, ◌≤◌, ◌⊎◌, List, [], ◌∷◌, ◌++◌, Option, Some, None, is_ok, length, if◌then◌else◌}
use Rattle.std.specs.List.{AllByRecursion}
use Rattle.kernel_values.specs.declared.process_end.End.TheVariants as end
use Rattle.kernel_values.specs.declared.signals.Action.{Action}
use Rattle.abi_registers.specs.declared.registers.Registers.{Registers}
use Rattle.abi_registers.specs.Places.{kind_in, stack_pointer_in}
use Rattle.layout_laws.specs.Stored.{memory_after, store_answer}
use Rattle.native_kernel.specs.declared.state.Kernel.{Kernel}
use Rattle.native_kernel.specs.Operations as native
use Rattle.signal_clock.specs.declared.values.Taken.{Taken}
use Rattle.user_memory.specs.Memory.{bytes_at, is_writable}
use Rattle.user_memory.specs.Pages.{PageState}
use Rattle.signal_frames.specs.Frames.{frame_for, told_stack}
use Rattle.signal_frames.specs.Handlers.{entered, return_word}
use Rattle.signal_frames.specs.Places.{frame_address, has_place, is_informed, start}

-- the registers, user memory and the kernel
abbrev pub State : Type 0
State = Registers × (List PageState × Kernel)

-- a process ends by a signal
abbrev pub killed : Registers → List PageState → Kernel → ℕ → State
killed r m k signal = (r, (m, native.finish k (end.Signal signal)))

-- the frame is put whole and the handler begins, or the process ends by SIGSEGV, 11
abbrev pub put_at : ℕ → Option (List ℕ) → Registers → State → State
put_at at frame begun (r, (m, k)) =
    if is_ok (store_answer m at frame) then (begun, (memory_after m at frame, k)) else killed r m k 11

-- where the frame of a signal is put
abbrev pub address_of : Registers → Kernel → Action → ℕ
address_of r k action = frame_address (kind_in r) (is_informed action) (start k.signals.alt action (stack_pointer_in r))

-- its bytes: the alternate stack is told as at the stack pointer that was interrupted
abbrev pub frame_of : Registers → Kernel → Taken → ℕ → ℕ → Option (List ℕ)
frame_of r k t word at = frame_for r t (told_stack k.signals.alt (stack_pointer_in r)) word at

-- a signal with a handler
unfoldable pub handled : ℕ → Registers → List PageState → Kernel → Taken → State
handled restorer r m k t =
    let at = address_of r k t.action in
    let word = return_word t.action restorer in
    if has_place (kind_in r) k.signals.alt t.action (stack_pointer_in r)
    then put_at at (frame_of r k t word at) (entered r t.info.signal t.action word at) (r, (m, k))
    else killed r m k 11

-- what a signal that was taken does: without a handler it ends the process
abbrev pub done : ℕ → Registers → List PageState → Kernel → Taken → State
done restorer r m k t = if t.end then killed r m k t.info.signal else handled restorer r m k t

-- one turn, and what follows it, or the end where no signal was taken
abbrev pub turn : (State → State) → ℕ → Registers → List PageState → Option Taken × Kernel → State
turn others restorer r m (None, k) = (r, (m, k))
turn others restorer r m (Some t, k) = others (done restorer r m k t)

-- at most so many turns
unfoldable pub turns : ℕ → ℕ → State → State
turns zero restorer s = s
turns (suc n) restorer s = turn (turns n restorer) restorer s.0 s.1.0 (native.next_signal s.1.1)

-- every signal that can be delivered: each turn shortens the list of those that wait, and the last one finds none
abbrev pub delivered : ℕ → Registers → List PageState → Kernel → State
delivered restorer r m k = turns (length k.signals.waiting + 1) restorer (r, (m, k))

-- the frame that a signal gets, where its bytes can be stored
abbrev pub placed_at : ℕ → Option (List ℕ) → List PageState → List (ℕ × List ℕ)
placed_at at None m = []
placed_at at (Some bytes) m = if is_writable m at (length bytes) then (at, bytes) ∷ [] else []

-- the frame of a signal that was taken, where it has a handler, a place and memory that can be written
abbrev pub placed : ℕ → Registers → List PageState → Kernel → Taken → List (ℕ × List ℕ)
placed restorer r m k t =
    if t.end then [] else
    (if has_place (kind_in r) k.signals.alt t.action (stack_pointer_in r)
    then placed_at (address_of r k t.action) (frame_of r k t (return_word t.action restorer) (address_of r k t.action)) m
    else [])

-- the frame of one turn, and those of what follows it
abbrev pub placed_in_turn : (State → List (ℕ × List ℕ)) → ℕ → Registers → List PageState → Option Taken × Kernel → List (ℕ × List ℕ)
placed_in_turn others restorer r m (None, k) = []
placed_in_turn others restorer r m (Some t, k) = placed restorer r m k t ++ others (done restorer r m k t)

-- the frames of so many turns, each by its address and its bytes
unfoldable pub frames : ℕ → ℕ → State → List (ℕ × List ℕ)
frames zero restorer s = []
frames (suc n) restorer s = placed_in_turn (frames n restorer) restorer s.0 s.1.0 (native.next_signal s.1.1)

-- the frames of a whole delivery
abbrev pub frames_put : ℕ → Registers → List PageState → Kernel → List (ℕ × List ℕ)
frames_put restorer r m k = frames (length k.signals.waiting + 1) restorer (r, (m, k))

-- two frames have no byte in common
abbrev pub Apart : ℕ × List ℕ → ℕ × List ℕ → Type 0
Apart f g = (f.0 + length f.1 ≤ g.0) ⊎ (g.0 + length g.1 ≤ f.0)

-- no two of these frames have
abbrev pub AreApart : List (ℕ × List ℕ) → Type 0
AreApart [] = Unit {0}
AreApart (f ∷ fs) = AllByRecursion (Apart f) fs × AreApart fs

-- the bytes of a frame stand in memory
abbrev pub Stands : List PageState → ℕ × List ℕ → Type 0
Stands m f = bytes_at m f.0 (length f.1) ≡ f.1
