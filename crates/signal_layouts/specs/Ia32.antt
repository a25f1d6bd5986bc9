-- The frames of handlers on i386: their tables, in which other shapes stand whole, and their rows of words.
use Rattle.std.specs.Prelude.{ℕ, ◌+◌, ◌*◌, ◌/◌, ◌^◌, List, [], ◌∷◌, ◌++◌, slice_index}
use Rattle.layout_laws.specs.declared.columns.Column.{Column}
use Rattle.layout_laws.specs.declared.columns.Field.TheVariants.{U32, U64}
use Rattle.layout_laws.specs.declared.columns.Misfit.TheVariants.{Low}
use Rattle.layout_laws.specs.declared.columns.Offset.TheVariants.{At}
use Rattle.layout_laws.specs.Shapes.{Shape}
use Rattle.signal_layouts.specs.declared.ia32.Ia32Frame.{Ia32Frame}
use Rattle.signal_layouts.specs.declared.ia32.Ia32PlainFrame.{Ia32PlainFrame}
use Rattle.signal_layouts.specs.Infos.{info_32_columns, info_in, info_row}
use Rattle.signal_layouts.specs.Stacks.{stack_32_columns, stack_in, stack_row}
use Rattle.layout_laws.specs.Tables.{column}
use Rattle.signal_layouts.specs.Nested.{inside}
use Rattle.signal_layouts.specs.Words.{half_at}

-- struct sigcontext, 88 bytes
abbrev pub context_columns : List Column
context_columns =
    column U32 (At 0) Low ∷  -- gs
    column U32 (At 4) Low ∷  -- fs
    column U32 (At 8) Low ∷  -- es
    column U32 (At 12) Low ∷  -- ds
    column U32 (At 16) Low ∷  -- edi
    column U32 (At 20) Low ∷  -- esi
    column U32 (At 24) Low ∷  -- ebp
    column U32 (At 28) Low ∷  -- esp
    column U32 (At 32) Low ∷  -- ebx
    column U32 (At 36) Low ∷  -- edx
    column U32 (At 40) Low ∷  -- ecx
    column U32 (At 44) Low ∷  -- eax
    column U32 (At 48) Low ∷  -- trapno
    column U32 (At 52) Low ∷  -- err
    column U32 (At 56) Low ∷  -- eip
    column U32 (At 60) Low ∷  -- cs
    column U32 (At 64) Low ∷  -- eflags
    column U32 (At 68) Low ∷  -- esp again
    column U32 (At 72) Low ∷  -- ss
    column U32 (At 76) Low ∷  -- fpstate
    column U32 (At 80) Low ∷  -- low mask
    column U32 (At 84) Low ∷  -- cr2
    []

-- the words of the registers eax, ebx, ecx, edx, esi, edi, ebp, esp, eip, eflags and of the mask; segments and what follows an
-- exception are constants, and esp stands twice
abbrev pub context_row : List ℕ → ℕ → List ℕ
context_row r mask =
    0 ∷ 0 ∷ 0x2b ∷ 0x2b ∷ slice_index r 5 ∷ slice_index r 4 ∷ slice_index r 6 ∷ slice_index r 7
    ∷ slice_index r 1 ∷ slice_index r 3 ∷ slice_index r 2 ∷ slice_index r 0 ∷ 0 ∷ 0 ∷ slice_index r 8 ∷ 0x23
    ∷ slice_index r 9 ∷ slice_index r 7 ∷ 0x2b ∷ 0 ∷ mask ∷ 0 ∷ []

-- the registers that the words from a place on mean
abbrev pub registers_in : List ℕ → ℕ → List ℕ
registers_in xs at =
    half_at xs (at + 11) ∷ half_at xs (at + 8) ∷ half_at xs (at + 10) ∷ half_at xs (at + 9) ∷ half_at xs (at + 5)
    ∷ half_at xs (at + 4) ∷ half_at xs (at + 6) ∷ half_at xs (at + 7) ∷ half_at xs (at + 14) ∷ half_at xs (at + 16) ∷ []

-- struct sigframe, 732 bytes: the mask stands in two words, and the code is 58 b8 77 00 00 00 cd 80
abbrev pub plain_frame_columns : List Column
plain_frame_columns =
    column U32 (At 0) Low ∷  -- return address
    column U32 (At 4) Low ∷  -- signal
    (inside 8 context_columns ++
    (column U32 (At 720) Low ∷  -- high mask
    column U64 (At 724) Low ∷  -- code
    []))

abbrev pub plain_frame : Shape Ia32PlainFrame
plain_frame = record {
  size = At 732;
  columns = plain_frame_columns;
  row = λ v. v.return_address ∷ v.signal ∷ (context_row v.registers v.mask ++ (v.mask / 2 ^ 32 ∷ 0x80cd00000077b858 ∷ []));
  value = λ xs. record {
    return_address = half_at xs 0;
    signal = half_at xs 1;
    registers = registers_in xs 2;
    mask = half_at xs 22 + half_at xs 24 * 2 ^ 32;
  };
}

-- struct ucontext, 116 bytes
abbrev pub ucontext_columns : List Column
ucontext_columns =
    column U32 (At 0) Low ∷  -- flags
    column U32 (At 4) Low ∷  -- link
    (inside 8 stack_32_columns ++ (inside 20 context_columns ++
    (column U64 (At 108) Low ∷  -- mask
    [])))

-- struct rt_sigframe, 268 bytes: the code is b8 ad 00 00 00 cd 80 00
abbrev pub frame_columns : List Column
frame_columns =
    column U32 (At 0) Low ∷  -- return address
    column U32 (At 4) Low ∷  -- signal
    column U32 (At 8) Low ∷  -- address of the information
    column U32 (At 12) Low ∷  -- address of the context
    (inside 16 info_32_columns ++ (inside 144 ucontext_columns ++
    (column U64 (At 260) Low ∷  -- code
    [])))

abbrev pub frame : Shape Ia32Frame
frame = record {
  size = At 268;
  columns = frame_columns;
  row = λ v.
      v.return_address ∷ v.info.signal ∷ v.info_at ∷ v.context_at
      ∷ (info_row v.info ++ (0 ∷ 0 ∷ (stack_row v.stack ++ (context_row v.registers v.mask ++ (v.mask ∷ 0x80cd000000adb8 ∷ [])))));
  value = λ xs. record {
    return_address = half_at xs 0;
    info_at = half_at xs 2;
    context_at = half_at xs 3;
    info = info_in xs 4;
    stack = stack_in xs 12;
    registers = registers_in xs 15;
    mask = slice_index xs 37;
  };
}
