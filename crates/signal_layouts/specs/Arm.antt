-- The frames of handlers on Arm: their tables, in which other shapes stand whole, and their rows of words.
use Rattle.std.specs.Prelude.{ℕ, ◌+◌, List, [], ◌∷◌, ◌++◌, slice_index}
use Rattle.layout_laws.specs.declared.columns.Column.{Column}
use Rattle.layout_laws.specs.declared.columns.Field.TheVariants.{U32, U64}
use Rattle.layout_laws.specs.declared.columns.Misfit.TheVariants.{Low}
use Rattle.layout_laws.specs.declared.columns.Offset.TheVariants.{At}
use Rattle.layout_laws.specs.Shapes.{Shape}
use Rattle.signal_layouts.specs.declared.arm.ArmFrame.{ArmFrame}
use Rattle.signal_layouts.specs.declared.arm.ArmPlainFrame.{ArmPlainFrame}
use Rattle.signal_layouts.specs.Infos.{info_32_columns, info_in, info_row}
use Rattle.signal_layouts.specs.Stacks.{stack_32_columns, stack_in, stack_row}
use Rattle.layout_laws.specs.Tables.{column}
use Rattle.signal_layouts.specs.Nested.{inside}
use Rattle.signal_layouts.specs.Words.{half_at}

-- struct sigcontext, 84 bytes
abbrev pub context_columns : List Column
context_columns =
    column U32 (At 0) Low ∷  -- trap
    column U32 (At 4) Low ∷  -- error
    column U32 (At 8) Low ∷  -- low mask
    column U32 (At 12) Low ∷  -- r0
    column U32 (At 16) Low ∷  -- r1
    column U32 (At 20) Low ∷  -- r2
    column U32 (At 24) Low ∷  -- r3
    column U32 (At 28) Low ∷  -- r4
    column U32 (At 32) Low ∷  -- r5
    column U32 (At 36) Low ∷  -- r6
    column U32 (At 40) Low ∷  -- r7
    column U32 (At 44) Low ∷  -- r8
    column U32 (At 48) Low ∷  -- r9
    column U32 (At 52) Low ∷  -- r10
    column U32 (At 56) Low ∷  -- fp
    column U32 (At 60) Low ∷  -- ip
    column U32 (At 64) Low ∷  -- sp
    column U32 (At 68) Low ∷  -- lr
    column U32 (At 72) Low ∷  -- pc
    column U32 (At 76) Low ∷  -- cpsr
    column U32 (At 80) Low ∷  -- fault
    []

-- the words of the registers r0 to r15 and cpsr, and of the mask; what follows an exception is 0
abbrev pub context_row : List ℕ → ℕ → List ℕ
context_row r mask =
    0 ∷ 0 ∷ mask ∷ slice_index r 0 ∷ slice_index r 1 ∷ slice_index r 2 ∷ slice_index r 3
    ∷ slice_index r 4 ∷ slice_index r 5 ∷ slice_index r 6 ∷ slice_index r 7 ∷ slice_index r 8 ∷ slice_index r 9 ∷ slice_index r 10
    ∷ slice_index r 11 ∷ slice_index r 12 ∷ slice_index r 13 ∷ slice_index r 14 ∷ slice_index r 15 ∷ slice_index r 16 ∷ 0 ∷ []

-- the registers that the words from a place on mean
abbrev pub registers_in : List ℕ → ℕ → List ℕ
registers_in xs at =
    half_at xs (at + 3) ∷ half_at xs (at + 4) ∷ half_at xs (at + 5) ∷ half_at xs (at + 6) ∷ half_at xs (at + 7) ∷ half_at xs (at + 8)
    ∷ half_at xs (at + 9) ∷ half_at xs (at + 10) ∷ half_at xs (at + 11) ∷ half_at xs (at + 12) ∷ half_at xs (at + 13) ∷ half_at xs (at + 14)
    ∷ half_at xs (at + 15) ∷ half_at xs (at + 16) ∷ half_at xs (at + 17) ∷ half_at xs (at + 18) ∷ half_at xs (at + 19) ∷ []

-- struct ucontext, 744 bytes
abbrev pub ucontext_columns : List Column
ucontext_columns =
    column U32 (At 0) Low ∷  -- flags
    column U32 (At 4) Low ∷  -- link
    (inside 8 stack_32_columns ++ (inside 20 context_columns ++
    (column U64 (At 104) Low ∷  -- mask
    [])))

-- struct sigframe, 752 bytes: a context without a stack
abbrev pub plain_frame : Shape ArmPlainFrame
plain_frame = record {
  size = At 752;
  columns = ucontext_columns;
  row = λ v. 0x5ac3c35a ∷ 0 ∷ 0 ∷ 0 ∷ 0 ∷ (context_row v.registers v.mask ++ (v.mask ∷ []));
  value = λ xs. record { registers = registers_in xs 5; mask = slice_index xs 26 };
}

-- struct rt_sigframe, 880 bytes
abbrev pub frame : Shape ArmFrame
frame = record {
  size = At 880;
  columns = info_32_columns ++ inside 128 ucontext_columns;
  row = λ v. info_row v.info ++ (0 ∷ 0 ∷ (stack_row v.stack ++ (context_row v.registers v.mask ++ (v.mask ∷ []))));
  value = λ xs. record {
    info = info_in xs 0;
    stack = stack_in xs 8;
    registers = registers_in xs 11;
    mask = slice_index xs 32;
  };
}
