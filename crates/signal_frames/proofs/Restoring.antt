-- What is read from the bytes of a frame is what was saved in it.
use Rattle.std.proofs.Common.{◌≡◌, ℕ, zero, suc, ◌+◌, ◌*◌, ◌/◌, ◌%◌, ◌^◌, ◌<◌, ◌≤◌, ◌==◌, Bool, true, false, ℤ, pos, List, [], ◌∷◌, length, map, Option, Some, None, refl, sym, ap, ◌∙◌, subst, arith}
use Rattle.std.specs.Prelude.{if◌then◌else◌}
use Rattle.std.specs.Int.{w32, w64, cast_signed, cast_unsigned}
use Rattle.std.specs.List.{AllByRecursion}
use Rattle.kernel_values.specs.declared.signals.AltStack.{AltStack}
use Rattle.kernel_values.specs.declared.signals.SigInfo.{SigInfo}
use Rattle.abi_registers.specs.declared.registers.Registers.{Registers}
use Rattle.abi_registers.specs.declared.registers.Registers.TheVariants.{Ia32, Arm}
use Rattle.abi_registers.specs.Places.{kind_in}
use Rattle.layout_laws.specs.declared.columns.Field.TheVariants.{I32}
use Rattle.layout_laws.specs.Columns.{extended}
use Rattle.layout_laws.specs.Shapes.{form_of, spelling_of, value_of, shape_reads_back}
use Rattle.native_kernel.specs.declared.state.Kernel.{Kernel}
use Rattle.signal_clock.specs.Stacks.{is_on, stack_flags}
use Rattle.signal_layouts.specs.declared.stacks.Stack32.{Stack32}
use Rattle.signal_layouts.specs.declared.ia32.Ia32Frame.{Ia32Frame}
use Rattle.signal_layouts.specs.declared.ia32.Ia32PlainFrame.{Ia32PlainFrame}
use Rattle.signal_layouts.specs.declared.arm.ArmFrame.{ArmFrame}
use Rattle.signal_layouts.specs.declared.arm.ArmPlainFrame.{ArmPlainFrame}
use Rattle.signal_layouts.specs.Ia32 as ia32
use Rattle.signal_layouts.specs.Arm as arm
use Rattle.user_memory.specs.Memory.{bytes_at, is_readable}
use Rattle.user_memory.specs.Pages.{PageState}
use Rattle.signal_frames.specs.declared.values.Context.{Context}
use Rattle.signal_frames.specs.Frames.{arm_informed, arm_plain, frame_bytes, ia32_informed, ia32_plain, told_stack}
use Rattle.signal_frames.specs.Places.{frame_size}
use Rattle.signal_frames.specs.Returns.{AreRegisters, IsSaved, IsToldStack, Restores, context_in, is_aligned, resume, return_at, returned, told_of}

-- a word that is cut to its size stays as it is
abbrev again : ℕ → ℕ
again x = x % 256 ^ 4 % 2 ^ 32

word_again : (x : ℕ) → x < 2 ^ 32 → again x ≡ x
word_again x h = omega arith

words_again : (xs : List ℕ) → AllByRecursion (λ (x : ℕ). x < 2 ^ 32) xs → map again xs ≡ xs
words_again [] h = refl
words_again (x ∷ xs) h = ap (λ (y : ℕ). y ∷ map again xs) (word_again x h.0) ∙ ap (λ (ys : List ℕ). x ∷ ys) (words_again xs h.1)

-- a mask in two words, and in one
halves_again : (mask : ℕ) → mask < 2 ^ 64 → again mask + again (mask / 2 ^ 32) * 2 ^ 32 ≡ mask
halves_again mask h = omega arith

whole_again : (mask : ℕ) → mask < 2 ^ 64 → mask % 256 ^ 8 ≡ mask
whole_again mask h = omega arith

-- the flags that are told of a stack
small_flags : (a b : Bool) → (if a then 2 else (if b then 1 else 0)) ≤ 2
small_flags true b = omega arith
small_flags false true = omega arith
small_flags false false = omega arith

abbrev flags_read : ℤ → ℤ
flags_read flags = cast_signed w32 (extended I32 (cast_unsigned w64 flags % 256 ^ 4) % 2 ^ 32)

flags_again : (n : ℕ) → n ≤ 2 → flags_read (pos n) ≡ pos n
flags_again zero h = refl
flags_again (suc zero) h = refl
flags_again (suc (suc zero)) h = refl
flags_again (suc (suc (suc n))) h = absurd (omega arith)

abbrev stack_read : Stack32 → Stack32
stack_read s = record { base = again s.base; flags = flags_read s.flags; size = again s.size }

told_again : (stack : AltStack) (sp : ℕ) → stack.base < 2 ^ 32 → stack.size < 2 ^ 32 → stack_read (told_stack stack sp) ≡ told_stack stack sp
told_again stack sp base size =
    let flags : flags_read (pos (stack_flags stack sp)) ≡ pos (stack_flags stack sp) =
    flags_again (stack_flags stack sp) (small_flags (stack.size == 0) (is_on stack sp)) in
    rw (word_again stack.base base, word_again stack.size size, flags) refl

stack_again : (s : Stack32) → IsToldStack s → stack_read s ≡ s
stack_again s h = subst (λ (v : Stack32). stack_read v ≡ v) (sym h.4) (told_again h.0 h.1 h.2 h.3)

-- a list of so many numbers, number by number
ten : (P : List ℕ → Type 0) → ((x0 x1 x2 x3 x4 x5 x6 x7 x8 x9 : ℕ) → P (x0 ∷ x1 ∷ x2 ∷ x3 ∷ x4 ∷ x5 ∷ x6 ∷ x7 ∷ x8 ∷ x9 ∷ [])) → (r : List ℕ) → length r ≡ 10 → P r
ten P go (x0 ∷ x1 ∷ x2 ∷ x3 ∷ x4 ∷ x5 ∷ x6 ∷ x7 ∷ x8 ∷ x9 ∷ []) h = go x0 x1 x2 x3 x4 x5 x6 x7 x8 x9
ten P go [] h = absurd (omega arith)
ten P go (x0 ∷ []) h = absurd (omega arith)
ten P go (x0 ∷ x1 ∷ []) h = absurd (omega arith)
ten P go (x0 ∷ x1 ∷ x2 ∷ []) h = absurd (omega arith)
ten P go (x0 ∷ x1 ∷ x2 ∷ x3 ∷ []) h = absurd (omega arith)
ten P go (x0 ∷ x1 ∷ x2 ∷ x3 ∷ x4 ∷ []) h = absurd (omega arith)
ten P go (x0 ∷ x1 ∷ x2 ∷ x3 ∷ x4 ∷ x5 ∷ []) h = absurd (omega arith)
ten P go (x0 ∷ x1 ∷ x2 ∷ x3 ∷ x4 ∷ x5 ∷ x6 ∷ []) h = absurd (omega arith)
ten P go (x0 ∷ x1 ∷ x2 ∷ x3 ∷ x4 ∷ x5 ∷ x6 ∷ x7 ∷ []) h = absurd (omega arith)
ten P go (x0 ∷ x1 ∷ x2 ∷ x3 ∷ x4 ∷ x5 ∷ x6 ∷ x7 ∷ x8 ∷ []) h = absurd (omega arith)
ten P go (x0 ∷ x1 ∷ x2 ∷ x3 ∷ x4 ∷ x5 ∷ x6 ∷ x7 ∷ x8 ∷ x9 ∷ x10 ∷ rest) h = absurd (omega arith)

seventeen : (P : List ℕ → Type 0) → ((x0 x1 x2 x3 x4 x5 x6 x7 x8 x9 x10 x11 x12 x13 x14 x15 x16 : ℕ) → P (x0 ∷ x1 ∷ x2 ∷ x3 ∷ x4 ∷ x5 ∷ x6 ∷ x7 ∷ x8 ∷ x9 ∷ x10 ∷ x11 ∷ x12 ∷ x13 ∷ x14 ∷ x15 ∷ x16 ∷ [])) → (r : List ℕ) → length r ≡ 17 → P r
seventeen P go (x0 ∷ x1 ∷ x2 ∷ x3 ∷ x4 ∷ x5 ∷ x6 ∷ x7 ∷ x8 ∷ x9 ∷ x10 ∷ x11 ∷ x12 ∷ x13 ∷ x14 ∷ x15 ∷ x16 ∷ []) h = go x0 x1 x2 x3 x4 x5 x6 x7 x8 x9 x10 x11 x12 x13 x14 x15 x16
seventeen P go [] h = absurd (omega arith)
seventeen P go (x0 ∷ []) h = absurd (omega arith)
seventeen P go (x0 ∷ x1 ∷ []) h = absurd (omega arith)
seventeen P go (x0 ∷ x1 ∷ x2 ∷ []) h = absurd (omega arith)
seventeen P go (x0 ∷ x1 ∷ x2 ∷ x3 ∷ []) h = absurd (omega arith)
seventeen P go (x0 ∷ x1 ∷ x2 ∷ x3 ∷ x4 ∷ []) h = absurd (omega arith)
seventeen P go (x0 ∷ x1 ∷ x2 ∷ x3 ∷ x4 ∷ x5 ∷ []) h = absurd (omega arith)
seventeen P go (x0 ∷ x1 ∷ x2 ∷ x3 ∷ x4 ∷ x5 ∷ x6 ∷ []) h = absurd (omega arith)
seventeen P go (x0 ∷ x1 ∷ x2 ∷ x3 ∷ x4 ∷ x5 ∷ x6 ∷ x7 ∷ []) h = absurd (omega arith)
seventeen P go (x0 ∷ x1 ∷ x2 ∷ x3 ∷ x4 ∷ x5 ∷ x6 ∷ x7 ∷ x8 ∷ []) h = absurd (omega arith)
seventeen P go (x0 ∷ x1 ∷ x2 ∷ x3 ∷ x4 ∷ x5 ∷ x6 ∷ x7 ∷ x8 ∷ x9 ∷ []) h = absurd (omega arith)
seventeen P go (x0 ∷ x1 ∷ x2 ∷ x3 ∷ x4 ∷ x5 ∷ x6 ∷ x7 ∷ x8 ∷ x9 ∷ x10 ∷ []) h = absurd (omega arith)
seventeen P go (x0 ∷ x1 ∷ x2 ∷ x3 ∷ x4 ∷ x5 ∷ x6 ∷ x7 ∷ x8 ∷ x9 ∷ x10 ∷ x11 ∷ []) h = absurd (omega arith)
seventeen P go (x0 ∷ x1 ∷ x2 ∷ x3 ∷ x4 ∷ x5 ∷ x6 ∷ x7 ∷ x8 ∷ x9 ∷ x10 ∷ x11 ∷ x12 ∷ []) h = absurd (omega arith)
seventeen P go (x0 ∷ x1 ∷ x2 ∷ x3 ∷ x4 ∷ x5 ∷ x6 ∷ x7 ∷ x8 ∷ x9 ∷ x10 ∷ x11 ∷ x12 ∷ x13 ∷ []) h = absurd (omega arith)
seventeen P go (x0 ∷ x1 ∷ x2 ∷ x3 ∷ x4 ∷ x5 ∷ x6 ∷ x7 ∷ x8 ∷ x9 ∷ x10 ∷ x11 ∷ x12 ∷ x13 ∷ x14 ∷ []) h = absurd (omega arith)
seventeen P go (x0 ∷ x1 ∷ x2 ∷ x3 ∷ x4 ∷ x5 ∷ x6 ∷ x7 ∷ x8 ∷ x9 ∷ x10 ∷ x11 ∷ x12 ∷ x13 ∷ x14 ∷ x15 ∷ []) h = absurd (omega arith)
seventeen P go (x0 ∷ x1 ∷ x2 ∷ x3 ∷ x4 ∷ x5 ∷ x6 ∷ x7 ∷ x8 ∷ x9 ∷ x10 ∷ x11 ∷ x12 ∷ x13 ∷ x14 ∷ x15 ∷ x16 ∷ x17 ∷ rest) h = absurd (omega arith)

-- what a frame's form restores
abbrev context : Registers → ℕ → Option Stack32 → Context
context r mask stack = record { registers = r; mask = mask; stack = stack }

same_context : (r s : Registers) (m n : ℕ) (x y : Option Stack32) → r ≡ s → m ≡ n → x ≡ y → context r m x ≡ context s n y
same_context r s m n x y e f g =
    ap (λ (v : Registers). context v m x) e ∙ (ap (λ (v : ℕ). context s v x) f ∙ ap (λ (v : Option Stack32). context s n v) g)

abbrev ia32_plain_context : Option Ia32PlainFrame → Context
ia32_plain_context None = context (Ia32 []) 0 None
ia32_plain_context (Some f) = context (Ia32 f.registers) f.mask (None)

ia32_plain_formed : (r : List ℕ) (info : SigInfo) (mask word : ℕ) → length r ≡ 10 → ia32_plain_context (form_of ia32.plain_frame (ia32_plain r info mask word)) ≡ context (Ia32 (map again r)) (again mask + again (mask / 2 ^ 32) * 2 ^ 32) (None)
ia32_plain_formed r info mask word h =
    ten (λ (r : List ℕ). ia32_plain_context (form_of ia32.plain_frame (ia32_plain r info mask word)) ≡ context (Ia32 (map again r)) (again mask + again (mask / 2 ^ 32) * 2 ^ 32) (None))
    (λ x0 x1 x2 x3 x4 x5 x6 x7 x8 x9. refl) r h

ia32_plain_again : (r : List ℕ) (info : SigInfo) (mask word : ℕ) (bytes : List ℕ) → AreRegisters 10 r → mask < 2 ^ 64
    → spelling_of ia32.plain_frame 4 (ia32_plain r info mask word) ≡ Some bytes
    → ia32_plain_context (Some (value_of ia32.plain_frame 4 bytes)) ≡ context (Ia32 r) mask (None)
ia32_plain_again r info mask word bytes saved small spelled =
    let read : form_of ia32.plain_frame (ia32_plain r info mask word) ≡ Some (value_of ia32.plain_frame 4 bytes) = shape_reads_back ia32.plain_frame 4 refl (ia32_plain r info mask word) bytes spelled in
    sym (ap ia32_plain_context read) ∙ (ia32_plain_formed r info mask word saved.0
    ∙ same_context (Ia32 (map again r)) (Ia32 r) (again mask + again (mask / 2 ^ 32) * 2 ^ 32) mask (None) (None)
    (ap (λ (v : List ℕ). Ia32 v) (words_again r saved.1)) (halves_again mask small) (refl))

abbrev ia32_informed_context : Option Ia32Frame → Context
ia32_informed_context None = context (Ia32 []) 0 None
ia32_informed_context (Some f) = context (Ia32 f.registers) f.mask (Some f.stack)

ia32_informed_formed : (r : List ℕ) (info : SigInfo) (mask : ℕ) (stack : Stack32) (word at : ℕ) → length r ≡ 10 → ia32_informed_context (form_of ia32.frame (ia32_informed r info mask stack word at)) ≡ context (Ia32 (map again r)) (mask % 256 ^ 8) (Some (stack_read stack))
ia32_informed_formed r info mask stack word at h =
    ten (λ (r : List ℕ). ia32_informed_context (form_of ia32.frame (ia32_informed r info mask stack word at)) ≡ context (Ia32 (map again r)) (mask % 256 ^ 8) (Some (stack_read stack)))
    (λ x0 x1 x2 x3 x4 x5 x6 x7 x8 x9. refl) r h

ia32_informed_again : (r : List ℕ) (info : SigInfo) (mask : ℕ) (stack : Stack32) (word at : ℕ) (bytes : List ℕ) → AreRegisters 10 r → mask < 2 ^ 64 → IsToldStack stack
    → spelling_of ia32.frame 4 (ia32_informed r info mask stack word at) ≡ Some bytes
    → ia32_informed_context (Some (value_of ia32.frame 4 bytes)) ≡ context (Ia32 r) mask (Some stack)
ia32_informed_again r info mask stack word at bytes saved small told spelled =
    let read : form_of ia32.frame (ia32_informed r info mask stack word at) ≡ Some (value_of ia32.frame 4 bytes) = shape_reads_back ia32.frame 4 refl (ia32_informed r info mask stack word at) bytes spelled in
    sym (ap ia32_informed_context read) ∙ (ia32_informed_formed r info mask stack word at saved.0
    ∙ same_context (Ia32 (map again r)) (Ia32 r) (mask % 256 ^ 8) mask (Some (stack_read stack)) (Some stack)
    (ap (λ (v : List ℕ). Ia32 v) (words_again r saved.1)) (whole_again mask small) (ap (λ (v : Stack32). Some v) (stack_again stack told)))

abbrev arm_plain_context : Option ArmPlainFrame → Context
arm_plain_context None = context (Arm []) 0 None
arm_plain_context (Some f) = context (Arm f.registers) f.mask (None)

arm_plain_formed : (r : List ℕ) (mask : ℕ) → length r ≡ 17 → arm_plain_context (form_of arm.plain_frame (arm_plain r mask)) ≡ context (Arm (map again r)) (mask % 256 ^ 8) (None)
arm_plain_formed r mask h =
    seventeen (λ (r : List ℕ). arm_plain_context (form_of arm.plain_frame (arm_plain r mask)) ≡ context (Arm (map again r)) (mask % 256 ^ 8) (None))
    (λ x0 x1 x2 x3 x4 x5 x6 x7 x8 x9 x10 x11 x12 x13 x14 x15 x16. refl) r h

arm_plain_again : (r : List ℕ) (mask : ℕ) (bytes : List ℕ) → AreRegisters 17 r → mask < 2 ^ 64
    → spelling_of arm.plain_frame 8 (arm_plain r mask) ≡ Some bytes
    → arm_plain_context (Some (value_of arm.plain_frame 8 bytes)) ≡ context (Arm r) mask (None)
arm_plain_again r mask bytes saved small spelled =
    let read : form_of arm.plain_frame (arm_plain r mask) ≡ Some (value_of arm.plain_frame 8 bytes) = shape_reads_back arm.plain_frame 8 refl (arm_plain r mask) bytes spelled in
    sym (ap arm_plain_context read) ∙ (arm_plain_formed r mask saved.0
    ∙ same_context (Arm (map again r)) (Arm r) (mask % 256 ^ 8) mask (None) (None)
    (ap (λ (v : List ℕ). Arm v) (words_again r saved.1)) (whole_again mask small) (refl))

abbrev arm_informed_context : Option ArmFrame → Context
arm_informed_context None = context (Arm []) 0 None
arm_informed_context (Some f) = context (Arm f.registers) f.mask (Some f.stack)

arm_informed_formed : (r : List ℕ) (info : SigInfo) (mask : ℕ) (stack : Stack32) → length r ≡ 17 → arm_informed_context (form_of arm.frame (arm_informed r info mask stack)) ≡ context (Arm (map again r)) (mask % 256 ^ 8) (Some (stack_read stack))
arm_informed_formed r info mask stack h =
    seventeen (λ (r : List ℕ). arm_informed_context (form_of arm.frame (arm_informed r info mask stack)) ≡ context (Arm (map again r)) (mask % 256 ^ 8) (Some (stack_read stack)))
    (λ x0 x1 x2 x3 x4 x5 x6 x7 x8 x9 x10 x11 x12 x13 x14 x15 x16. refl) r h

arm_informed_again : (r : List ℕ) (info : SigInfo) (mask : ℕ) (stack : Stack32) (bytes : List ℕ) → AreRegisters 17 r → mask < 2 ^ 64 → IsToldStack stack
    → spelling_of arm.frame 8 (arm_informed r info mask stack) ≡ Some bytes
    → arm_informed_context (Some (value_of arm.frame 8 bytes)) ≡ context (Arm r) mask (Some stack)
arm_informed_again r info mask stack bytes saved small told spelled =
    let read : form_of arm.frame (arm_informed r info mask stack) ≡ Some (value_of arm.frame 8 bytes) = shape_reads_back arm.frame 8 refl (arm_informed r info mask stack) bytes spelled in
    sym (ap arm_informed_context read) ∙ (arm_informed_formed r info mask stack saved.0
    ∙ same_context (Arm (map again r)) (Arm r) (mask % 256 ^ 8) mask (Some (stack_read stack)) (Some stack)
    (ap (λ (v : List ℕ). Arm v) (words_again r saved.1)) (whole_again mask small) (ap (λ (v : Stack32). Some v) (stack_again stack told)))

-- the context in the bytes of a frame
context_again : (informed : Bool) (now saved : Registers) (info : SigInfo) (mask : ℕ) (stack : Stack32) (word at : ℕ) (bytes : List ℕ)
    → IsSaved saved now → mask < 2 ^ 64 → IsToldStack stack → frame_bytes informed saved info mask stack word at ≡ Some bytes
    → context_in (kind_in now) informed bytes ≡ context saved mask (told_of informed stack)
unfolding frame_bytes
context_again false (Ia32 now) (Ia32 saved) info mask stack word at bytes kept small told spelled = ia32_plain_again saved info mask word bytes kept small spelled
context_again true (Ia32 now) (Ia32 saved) info mask stack word at bytes kept small told spelled = ia32_informed_again saved info mask stack word at bytes kept small told spelled
context_again false (Arm now) (Arm saved) info mask stack word at bytes kept small told spelled = arm_plain_again saved mask bytes kept small spelled
context_again true (Arm now) (Arm saved) info mask stack word at bytes kept small told spelled = arm_informed_again saved info mask stack bytes kept small told spelled
context_again informed (Ia32 now) (Arm saved) info mask stack word at bytes kept small told spelled = absurd kept
context_again informed (Arm now) (Ia32 saved) info mask stack word at bytes kept small told spelled = absurd kept

-- a return at a frame that can be read
returned_there : (informed : Bool) (r : Registers) (m : List PageState) (k : Kernel) → is_aligned r ≡ true
    → is_readable m (return_at informed r) (frame_size (kind_in r) informed) ≡ true
    → returned informed r m k ≡ resume r k (context_in (kind_in r) informed (bytes_at m (return_at informed r) (frame_size (kind_in r) informed)))
unfolding returned
returned_there informed r m k aligned readable = rw (aligned, readable) refl

pub restores : (informed : Bool) (now : Registers) (m : List PageState) (k : Kernel) (after : Registers × Kernel) → after ≡ returned informed now m k → Restores informed now m k after
restores informed now m k after is = λ saved info mask stack word at kept small told aligned readable spelled.
    is ∙ (returned_there informed now m k aligned readable
    ∙ ap (resume now k) (context_again informed now saved info mask stack word at (bytes_at m (return_at informed now) (frame_size (kind_in now) informed)) kept small told spelled))
