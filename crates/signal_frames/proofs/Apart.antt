-- The frames of one delivery have no byte in common: each lies below the one before it, or it is the first on the alternate
-- stack, which no frame before it reaches.
use Rattle.std.proofs.Common.{◌≡◌, ℕ, zero, suc, ◌+◌, ◌-◌, ◌^◌, ◌<◌, ◌≤◌, ◌&&◌, ◌||◌, nat_le, nat_lt, Bool, true, false, ◌⊎◌, inl, inr, List, [], ◌∷◌, ◌++◌, length, Option, Some, None, refl, sym, ◌∙◌, subst, true≢false, arith}
use Rattle.std.specs.Prelude.{not, if◌then◌else◌}
use Rattle.std.specs.List.{AllByRecursion}
use Rattle.std.proofs.lemmas.Bool.{and_parts}
use Rattle.std.proofs.lemmas.Bool.Decides.{nat_tests}
use Rattle.kernel_values.specs.declared.abi.AbiKind.{AbiKind}
use Rattle.kernel_values.specs.declared.abi.AbiKind.TheVariants as kind
use Rattle.kernel_values.specs.declared.process_end.End.{End}
use Rattle.kernel_values.specs.declared.signals.Action.{Action}
use Rattle.kernel_values.specs.declared.signals.AltStack.{AltStack}
use Rattle.kernel_values.specs.declared.signals.SigInfo.{SigInfo}
use Rattle.abi_registers.specs.declared.registers.Registers.{Registers}
use Rattle.abi_registers.specs.declared.registers.Registers.TheVariants.{Ia32, Arm}
use Rattle.abi_registers.specs.Places.{kind_in, stack_pointer_in}
use Rattle.layout_laws.specs.Shapes.{shape_fills}
use Rattle.native_kernel.specs.declared.state.Kernel.{Kernel}
use Rattle.native_kernel.specs.Operations as native
use Rattle.signal_clock.specs.Stacks.{is_on}
use Rattle.signal_clock.specs.Taking as taking
use Rattle.signal_clock.specs.declared.state.Signals.{Signals}
use Rattle.signal_clock.specs.HeldStack.{IsRoomy}
use Rattle.signal_clock.specs.declared.values.Taken.{Taken}
use Rattle.signal_layouts.specs.declared.stacks.Stack32.{Stack32}
use Rattle.signal_layouts.specs.Ia32 as ia32
use Rattle.signal_layouts.specs.Arm as arm
use Rattle.user_memory.specs.Memory.{is_writable, with_bytes}
use Rattle.user_memory.specs.Pages.{PageState}
use Rattle.signal_frames.specs.Delivery.{Apart, AreApart, State, address_of, done, frame_of, frames, handled, killed, placed, placed_at, placed_in_turn, put_at, turns}
use Rattle.signal_frames.specs.Frames.{arm_informed, arm_plain, frame_bytes, ia32_informed, ia32_plain, told_stack}
use Rattle.signal_frames.specs.Handlers.{entered, return_word}
use Rattle.signal_frames.specs.Places.{aligned, frame_address, frame_size, has_place, is_informed, start, wants_stack}

-- on the alternate stack, and off it
on_parts : (stack : AltStack) (sp : ℕ) → is_on stack sp ≡ true → (stack.base < sp) × (sp ≤ stack.base + stack.size)
on_parts stack sp h =
    let parts = and_parts (nat_lt stack.base sp) (nat_le (sp - stack.base) stack.size) h in
    let low : stack.base < sp = grind (arith, nat_tests, parts.0) in
    let high : sp - stack.base ≤ stack.size = grind (arith, nat_tests, parts.1) in
    (low, omega arith)

on_from : (stack : AltStack) (sp : ℕ) → stack.base < sp → sp ≤ stack.base + stack.size → is_on stack sp ≡ true
on_from stack sp low high = grind (arith, nat_tests)

off_cases : (base size sp : ℕ) → (nat_lt base sp && nat_le (sp - base) size) ≡ false → (sp ≤ base) ⊎ (base + size < sp)
off_cases base size sp h = go (nat_lt base sp) refl h
  where
    go : (b : Bool) → nat_lt base sp ≡ b → (b && nat_le (sp - base) size) ≡ false → (sp ≤ base) ⊎ (base + size < sp)
    go false is k = inl (grind (arith, nat_tests))
    go true is k = inr (grind (arith, nat_tests))

-- a frame whose last byte stands before `past`, below the stack pointer or at the end of the alternate stack
abbrev pub Lies : AltStack → ℕ → ℕ → ℕ → Type 0
Lies stack sp at past =
    ((past ≤ sp) × (sp ≤ past + 15) × (is_on stack sp ≡ true → stack.base < at))
    ⊎ ((is_on stack sp ≡ false) × (stack.base < at) × (past ≤ stack.base + stack.size))

-- where the frames stand that are put from a stack pointer on
abbrev pub Region : AltStack → ℕ → ℕ × List ℕ → Type 0
Region stack sp g =
    ((g.0 + length g.1 ≤ sp) × (is_on stack sp ≡ true → stack.base < g.0))
    ⊎ ((is_on stack sp ≡ false) × (stack.base < g.0) × (g.0 + length g.1 ≤ stack.base + stack.size))

clash : (b : Bool) {P : Type 0} → b ≡ true → b ≡ false → P
clash b t f = absurd (true≢false (sym t ∙ f))

-- what follows a frame lies where it may
follows : (stack : AltStack) (sp at past : ℕ) (g : ℕ × List ℕ) → at ≤ past → Lies stack sp at past → Region stack at g → Region stack sp g
follows stack sp at past g whole (inl below) (inl under) =
    inl (
      omega (arith, below.0, under.0),
      λ on.
          let edge = on_parts stack sp on in
          under.1 (on_from stack at (below.2 on) (omega (arith, below.0, edge.1))),
    )
follows stack sp at past g whole (inl below) (inr entering) = go (is_on stack sp) refl
  where
    go : (b : Bool) → is_on stack sp ≡ b → Region stack sp g
    go true on =
        let edge = on_parts stack sp on in
        clash (is_on stack at) (on_from stack at (below.2 on) (omega (arith, below.0, edge.1))) entering.0
    go false off = inr (off, entering.1, entering.2)
follows stack sp at past g whole (inr entered) (inl under) =
    inr (entered.0, under.1 (on_from stack at entered.1 (omega (arith, entered.2))), omega (arith, under.0, entered.2))
follows stack sp at past g whole (inr entered) (inr entering) =
    clash (is_on stack at) (on_from stack at entered.1 (omega (arith, entered.2))) entering.0

-- and it has no byte of the frame
pub apart_from : (stack : AltStack) (sp : ℕ) (f g : ℕ × List ℕ) → IsRoomy stack → length f.1 ≤ 880 → Lies stack sp f.0 (f.0 + length f.1) → Region stack f.0 g → Apart f g
apart_from stack sp f g roomy small lies (inl under) = inr under.0
apart_from stack sp f g roomy small (inr entered) (inr entering) =
    clash (is_on stack f.0) (on_from stack f.0 entered.1 (omega (arith, entered.2))) entering.0
apart_from stack sp f g roomy small (inl below) (inr entering) = go (off_cases stack.base stack.size f.0 entering.0)
  where
    far : (b : Bool) → is_on stack sp ≡ b → f.0 ≤ stack.base → Apart f g
    far true on low = absurd (omega (arith, below.2 on))
    far false off low = elim (off_cases stack.base stack.size sp off) [
      | inl before ↦ inl (omega (arith, below.0, before, entering.1))
      | inr behind ↦ absurd (elim roomy [
        | inl none ↦ omega (arith, none, entering.1, entering.2)
        | inr some ↦ omega (arith, some, behind, below.1, low, small)
      ])
    ]

    go : (f.0 ≤ stack.base) ⊎ (stack.base + stack.size < f.0) → Apart f g
    go (inl low) = far (is_on stack sp) refl low
    go (inr high) = inr (omega (arith, entering.2, high))

-- where a frame that has a place stands
aligned_near : (abi : AbiKind) (n : ℕ) → (aligned abi n ≤ n) × (n ≤ aligned abi n + 15)
aligned_near kind.Ia32 n = (omega arith, omega arith)
aligned_near kind.ArmEabi n = (omega arith, omega arith)

lies : (wants on : Bool) (sp base size n at start : ℕ) → start ≡ (if wants && not on then base + size else sp) → n + 16 ≤ start → at ≤ start - n → start - n ≤ at + 15
    → (not (on || wants) || nat_lt base at) ≡ true
    → ((at + n ≤ sp) × (sp ≤ (at + n) + 15) × (on ≡ true → base < at)) ⊎ ((on ≡ false) × (base < at) × (at + n ≤ base + size))
lies true true sp base size n at start is room low high above = inl (omega arith, omega arith, λ h. grind (arith, nat_tests))
lies false true sp base size n at start is room low high above = inl (omega arith, omega arith, λ h. grind (arith, nat_tests))
lies true false sp base size n at start is room low high above = inr (refl, grind (arith, nat_tests), omega arith)
lies false false sp base size n at start is room low high above = inl (omega arith, omega arith, λ h. absurd (true≢false (sym h)))

at_least : (a b : ℕ) → nat_le a b ≡ true → a ≤ b
at_least a b h = grind (arith, nat_tests)

place_lies : (abi : AbiKind) (stack : AltStack) (action : Action) (sp : ℕ) → has_place abi stack action sp ≡ true
    → Lies stack sp (frame_address abi (is_informed action) (start stack action sp)) (frame_address abi (is_informed action) (start stack action sp) + frame_size abi (is_informed action))
place_lies abi stack action sp h =
    let n = frame_size abi (is_informed action) in
    let first = start stack action sp in
    let at = frame_address abi (is_informed action) first in
    let outer = and_parts (nat_le (n + 16) first) (nat_le first (2 ^ 32) && (not (is_on stack sp || wants_stack stack action) || nat_lt stack.base at)) h in
    let inner = and_parts (nat_le first (2 ^ 32)) (not (is_on stack sp || wants_stack stack action) || nat_lt stack.base at) outer.1 in
    let near = aligned_near abi (first - n) in
    lies (wants_stack stack action) (is_on stack sp) sp stack.base stack.size n at first refl (at_least (n + 16) first outer.0) near.0 near.1 inner.1

frame_small : (abi : AbiKind) (informed : Bool) → frame_size abi informed ≤ 880
frame_small kind.Ia32 false = omega arith
frame_small kind.Ia32 true = omega arith
frame_small kind.ArmEabi false = omega arith
frame_small kind.ArmEabi true = omega arith

frame_fills : (informed : Bool) (r : Registers) (info : SigInfo) (mask : ℕ) (stack : Stack32) (word at : ℕ) (bytes : List ℕ)
    → frame_bytes informed r info mask stack word at ≡ Some bytes → length bytes ≡ frame_size (kind_in r) informed
unfolding frame_bytes
frame_fills false (Ia32 r) info mask stack word at bytes e = shape_fills ia32.plain_frame 4 refl (ia32_plain r info mask word) bytes e
frame_fills true (Ia32 r) info mask stack word at bytes e = shape_fills ia32.frame 4 refl (ia32_informed r info mask stack word at) bytes e
frame_fills false (Arm r) info mask stack word at bytes e = shape_fills arm.plain_frame 8 refl (arm_plain r mask) bytes e
frame_fills true (Arm r) info mask stack word at bytes e = shape_fills arm.frame 8 refl (arm_informed r info mask stack) bytes e

sp_entered : (r : Registers) (signal : ℕ) (action : Action) (word at : ℕ) → stack_pointer_in (entered r signal action word at) ≡ at
sp_entered (Ia32 r) signal action word at = refl
sp_entered (Arm r) signal action word at = refl

-- a signal that is taken leaves the alternate stack
alt_either : (b : Bool) (x y : Signals) (a : AltStack) → x.alt ≡ a → y.alt ≡ a → (if b then x else y).alt ≡ a
alt_either true x y a e f = e
alt_either false x y a e f = f

alt_taken_of : (s : Signals) (met : Option SigInfo × List SigInfo) → (taking.taken_of s met).1.alt ≡ s.alt
alt_taken_of s (None, left) = refl
alt_taken_of s (Some info, left) = alt_either _ _ _ s.alt refl refl

alt_signals : (s : Signals) → (taking.next_signal s).1.alt ≡ s.alt
unfolding taking.next_signal
alt_signals s = alt_taken_of s (taking.met s.mask s.actions s.waiting)

alt_unless : (k : Kernel) (end : Option End) → (native.next_unless k end).1.signals.alt ≡ k.signals.alt
alt_unless k (Some end) = refl
alt_unless k None = alt_signals k.signals

pub alt_next : (k : Kernel) → (native.next_signal k).1.signals.alt ≡ k.signals.alt
unfolding native.next_signal
alt_next k = alt_unless k (native.end_of k)

-- a process that was ended gets no frame
killed_frames : (n restorer : ℕ) (r : Registers) (m : List PageState) (k : Kernel) (signal : ℕ) → frames n restorer (killed r m k signal) ≡ []
unfolding frames native.next_signal native.finish
killed_frames zero restorer r m k signal = refl
killed_frames (suc n) restorer r m k signal = refl

killed_memory : (n restorer : ℕ) (r : Registers) (m : List PageState) (k : Kernel) (signal : ℕ) → (turns n restorer (killed r m k signal)).1.0 ≡ m
unfolding turns native.next_signal native.finish
killed_memory zero restorer r m k signal = refl
killed_memory (suc n) restorer r m k signal = refl

-- a frame is put, or the process ends
abbrev pub Ends : List PageState → List (ℕ × List ℕ) → State → Type 0
Ends m fs s = (fs ≡ []) × ((n restorer : ℕ) → frames n restorer s ≡ []) × ((n restorer : ℕ) → (turns n restorer s).1.0 ≡ m)

abbrev pub Enters : AltStack → ℕ → List PageState → List (ℕ × List ℕ) → State → Type 0
Enters stack sp m fs s =
    (f : ℕ × List ℕ) × (fs ≡ f ∷ []) × (length f.1 ≤ 880) × Lies stack sp f.0 (f.0 + length f.1) × (stack_pointer_in s.0 ≡ f.0) × (s.1.1.signals.alt ≡ stack)
    × (is_writable m f.0 (length f.1) ≡ true) × (s.1.0 ≡ with_bytes m f.0 f.1)

put_step : (o : Option (List ℕ)) (at size : ℕ) (begun r : Registers) (m : List PageState) (k : Kernel) → ((bytes : List ℕ) → o ≡ Some bytes → length bytes ≡ size) → size ≤ 880
    → Lies k.signals.alt (stack_pointer_in r) at (at + size) → stack_pointer_in begun ≡ at
    → Ends m (placed_at at o m) (put_at at o begun (r, (m, k))) ⊎ Enters k.signals.alt (stack_pointer_in r) m (placed_at at o m) (put_at at o begun (r, (m, k)))
put_step None at size begun r m k fills small place sp = inl (refl, (λ n restorer. killed_frames n restorer r m k 11), λ n restorer. killed_memory n restorer r m k 11)
put_step (Some bytes) at size begun r m k fills small place sp = go (is_writable m at (length bytes)) refl
  where
    len : length bytes ≡ size
    len = fills bytes refl

    go : (b : Bool) → is_writable m at (length bytes) ≡ b
        → Ends m (placed_at at (Some bytes) m) (put_at at (Some bytes) begun (r, (m, k))) ⊎ Enters k.signals.alt (stack_pointer_in r) m (placed_at at (Some bytes) m) (put_at at (Some bytes) begun (r, (m, k)))
    go false w = inl (rw w refl, (λ n restorer. rw w (killed_frames n restorer r m k 11)), λ n restorer. rw w (killed_memory n restorer r m k 11))
    go true w = inr ((at, bytes), rw w refl, omega (arith, len, small), subst (λ (v : ℕ). Lies k.signals.alt (stack_pointer_in r) at (at + v)) (sym len) place, rw w sp, rw w refl, w, rw w refl)

handled_step : (restorer : ℕ) (r : Registers) (m : List PageState) (k : Kernel) (t : Taken) → t.end ≡ false
    → Ends m (placed restorer r m k t) (handled restorer r m k t) ⊎ Enters k.signals.alt (stack_pointer_in r) m (placed restorer r m k t) (handled restorer r m k t)
unfolding handled
handled_step restorer r m k t lives = go (has_place (kind_in r) k.signals.alt t.action (stack_pointer_in r)) refl
  where
    go : (b : Bool) → has_place (kind_in r) k.signals.alt t.action (stack_pointer_in r) ≡ b
        → Ends m (placed restorer r m k t) (handled restorer r m k t) ⊎ Enters k.signals.alt (stack_pointer_in r) m (placed restorer r m k t) (handled restorer r m k t)
    go false h = rw (lives, h) (inl (refl, (λ n restorer. killed_frames n restorer r m k 11), λ n restorer. killed_memory n restorer r m k 11))
    go true h =
        let at = address_of r k t.action in
        let word = return_word t.action restorer in
        rw (lives, h) (put_step (frame_of r k t word at) at (frame_size (kind_in r) (is_informed t.action)) (entered r t.info.signal t.action word at) r m k
        (λ bytes e. frame_fills (is_informed t.action) r t.info t.mask_before.bits (told_stack k.signals.alt (stack_pointer_in r)) word at bytes e)
        (frame_small (kind_in r) (is_informed t.action)) (place_lies (kind_in r) k.signals.alt t.action (stack_pointer_in r) h) (sp_entered r t.info.signal t.action word at))

pub step : (restorer : ℕ) (r : Registers) (m : List PageState) (k : Kernel) (t : Taken)
    → Ends m (placed restorer r m k t) (done restorer r m k t) ⊎ Enters k.signals.alt (stack_pointer_in r) m (placed restorer r m k t) (done restorer r m k t)
step restorer r m k t = go t.end refl
  where
    go : (b : Bool) → t.end ≡ b → Ends m (placed restorer r m k t) (done restorer r m k t) ⊎ Enters k.signals.alt (stack_pointer_in r) m (placed restorer r m k t) (done restorer r m k t)
    go true e = rw e (inl (refl, (λ n restorer. killed_frames n restorer r m k t.info.signal), λ n restorer. killed_memory n restorer r m k t.info.signal))
    go false e =
        let same : done restorer r m k t ≡ handled restorer r m k t = rw e refl in
        subst (λ (s : State). Ends m (placed restorer r m k t) s ⊎ Enters k.signals.alt (stack_pointer_in r) m (placed restorer r m k t) s) (sym same) (handled_step restorer r m k t e)

pub all_by : {A : Type 0} (P Q : A → Type 0) → ((x : A) → P x → Q x) → (xs : List A) → AllByRecursion P xs → AllByRecursion Q xs
all_by P Q f [] h = tt
all_by P Q f (x ∷ xs) h = (f x h.0, all_by P Q f xs h.1)

-- the rest of a delivery behind a frame
pub behind_it : (stack : AltStack) (sp : ℕ) (f : ℕ × List ℕ) (s : State) (gs : List (ℕ × List ℕ)) → Lies stack sp f.0 (f.0 + length f.1)
    → stack_pointer_in s.0 ≡ f.0 → s.1.1.signals.alt ≡ stack → AllByRecursion (Region s.1.1.signals.alt (stack_pointer_in s.0)) gs → AllByRecursion (Region stack f.0) gs
behind_it stack sp f s gs place at alt h =
    subst (λ (v : ℕ). AllByRecursion (Region stack v) gs) at (subst (λ (a : AltStack). AllByRecursion (Region a (stack_pointer_in s.0)) gs) alt h)

here : (stack : AltStack) (sp : ℕ) (f : ℕ × List ℕ) → Lies stack sp f.0 (f.0 + length f.1) → Region stack sp f
here stack sp f (inl below) = inl (below.0, below.2)
here stack sp f (inr entered) = inr entered

region_step : (restorer n : ℕ) (stack : AltStack) (r : Registers) (m : List PageState) (k : Kernel) (t : Taken) → k.signals.alt ≡ stack
    → ((s : State) → AllByRecursion (Region s.1.1.signals.alt (stack_pointer_in s.0)) (frames n restorer s))
    → AllByRecursion (Region stack (stack_pointer_in r)) (placed restorer r m k t ++ frames n restorer (done restorer r m k t))
region_step restorer n stack r m k t alt others = go (step restorer r m k t)
  where
    go : Ends m (placed restorer r m k t) (done restorer r m k t) ⊎ Enters k.signals.alt (stack_pointer_in r) m (placed restorer r m k t) (done restorer r m k t)
        → AllByRecursion (Region stack (stack_pointer_in r)) (placed restorer r m k t ++ frames n restorer (done restorer r m k t))
    go (inl e) = rw (e.0, e.1 n restorer) tt
    go (inr e) =
        let place = subst (λ (a : AltStack). Lies a (stack_pointer_in r) e.0.0 (e.0.0 + length e.0.1)) alt e.3 in
        let rest = behind_it stack (stack_pointer_in r) e.0 (done restorer r m k t) (frames n restorer (done restorer r m k t)) place e.4 (e.5 ∙ alt) (others (done restorer r m k t)) in
        rw e.1 (
          here stack (stack_pointer_in r) e.0 place,
          all_by (Region stack e.0.0) (Region stack (stack_pointer_in r)) (λ g h. follows stack (stack_pointer_in r) e.0.0 (e.0.0 + length e.0.1) g (omega arith) place h) (frames n restorer (done restorer r m k t)) rest,
        )

region_turn : (restorer n : ℕ) (stack : AltStack) (r : Registers) (m : List PageState) (x : Option Taken × Kernel) → x.1.signals.alt ≡ stack
    → ((s : State) → AllByRecursion (Region s.1.1.signals.alt (stack_pointer_in s.0)) (frames n restorer s))
    → AllByRecursion (Region stack (stack_pointer_in r)) (placed_in_turn (frames n restorer) restorer r m x)
region_turn restorer n stack r m (None, k) alt others = tt
region_turn restorer n stack r m (Some t, k) alt others = region_step restorer n stack r m k t alt others

pub regions : (n restorer : ℕ) (s : State) → AllByRecursion (Region s.1.1.signals.alt (stack_pointer_in s.0)) (frames n restorer s)
unfolding frames
regions zero restorer s = tt
regions (suc n) restorer s = region_turn restorer n s.1.1.signals.alt s.0 s.1.0 (native.next_signal s.1.1) (alt_next s.1.1) (λ t. regions n restorer t)

apart_step : (restorer n : ℕ) (stack : AltStack) (r : Registers) (m : List PageState) (k : Kernel) (t : Taken) → k.signals.alt ≡ stack → IsRoomy stack
    → ((s : State) → IsRoomy s.1.1.signals.alt → AreApart (frames n restorer s))
    → AreApart (placed restorer r m k t ++ frames n restorer (done restorer r m k t))
apart_step restorer n stack r m k t alt roomy others = go (step restorer r m k t)
  where
    go : Ends m (placed restorer r m k t) (done restorer r m k t) ⊎ Enters k.signals.alt (stack_pointer_in r) m (placed restorer r m k t) (done restorer r m k t)
        → AreApart (placed restorer r m k t ++ frames n restorer (done restorer r m k t))
    go (inl e) = rw (e.0, e.1 n restorer) tt
    go (inr e) =
        let place = subst (λ (a : AltStack). Lies a (stack_pointer_in r) e.0.0 (e.0.0 + length e.0.1)) alt e.3 in
        let rest = behind_it stack (stack_pointer_in r) e.0 (done restorer r m k t) (frames n restorer (done restorer r m k t)) place e.4 (e.5 ∙ alt) (regions n restorer (done restorer r m k t)) in
        rw e.1 (
          all_by (Region stack e.0.0) (Apart e.0) (λ g h. apart_from stack (stack_pointer_in r) e.0 g roomy e.2 place h) (frames n restorer (done restorer r m k t)) rest,
          others (done restorer r m k t) (subst (λ (a : AltStack). IsRoomy a) (sym (e.5 ∙ alt)) roomy),
        )

apart_turn : (restorer n : ℕ) (stack : AltStack) (r : Registers) (m : List PageState) (x : Option Taken × Kernel) → x.1.signals.alt ≡ stack → IsRoomy stack
    → ((s : State) → IsRoomy s.1.1.signals.alt → AreApart (frames n restorer s))
    → AreApart (placed_in_turn (frames n restorer) restorer r m x)
apart_turn restorer n stack r m (None, k) alt roomy others = tt
apart_turn restorer n stack r m (Some t, k) alt roomy others = apart_step restorer n stack r m k t alt roomy others

pub apart_frames : (n restorer : ℕ) (s : State) → IsRoomy s.1.1.signals.alt → AreApart (frames n restorer s)
unfolding frames
apart_frames zero restorer s roomy = tt
apart_frames (suc n) restorer s roomy = apart_turn restorer n s.1.1.signals.alt s.0 s.1.0 (native.next_signal s.1.1) (alt_next s.1.1) roomy (λ t h. apart_frames n restorer t h)
