-- Locks: their tables, and their rows of words in the order of the columns.
use Rattle.std.specs.Prelude.{ℕ, List, ◌%◌, ◌^◌, [], ◌∷◌, slice_index}
use Rattle.std.specs.Int.{w16, w32, w64, cast_signed, cast_unsigned}
use Rattle.kernel_values.specs.declared.locks.Lock.{Lock}
use Rattle.layout_laws.specs.declared.columns.Column.{Column}
use Rattle.layout_laws.specs.declared.columns.Field.TheVariants.{I16, I32, I64}
use Rattle.layout_laws.specs.declared.columns.Misfit.TheVariants.{Clamp, Low, Refuse}
use Rattle.layout_laws.specs.declared.columns.Offset.TheVariants.{At, By}
use Rattle.layout_laws.specs.Shapes.{Shape}
use Rattle.layout_laws.specs.Tables.{column}
use Rattle.file_layouts.specs.declared.locks.Lock32.{Lock32}
use Rattle.file_layouts.specs.declared.locks.Lock64.{Lock64}

-- the words of a lock
abbrev pub lock_row : Lock → List ℕ
lock_row l =
    cast_unsigned w64 l.kind ∷ cast_unsigned w64 l.whence ∷ cast_unsigned w64 l.start ∷ cast_unsigned w64 l.length
    ∷ cast_unsigned w64 l.pid ∷ []

-- the lock of these words
abbrev pub lock_from : List ℕ → Lock
lock_from xs = record {
  kind = cast_signed w16 (slice_index xs 0 % 2 ^ 16);
  whence = cast_signed w16 (slice_index xs 1 % 2 ^ 16);
  start = cast_signed w64 (slice_index xs 2);
  length = cast_signed w64 (slice_index xs 3);
  pid = cast_signed w32 (slice_index xs 4 % 2 ^ 32);
}

-- struct flock of 32-bit processes, 16 bytes
abbrev pub lock_32_columns : List Column
lock_32_columns =
    column I16 (At 0) Low ∷  -- type
    column I16 (At 2) Low ∷  -- whence
    column I32 (At 4) Refuse ∷  -- start
    column I32 (At 8) (Clamp 0x7fffffff 0x7fffffff) ∷  -- len
    column I32 (At 12) Low ∷  -- pid
    []

abbrev pub lock_32 : Shape Lock32
lock_32 = record {
  size = At 16;
  columns = lock_32_columns;
  row = λ v. lock_row v.lock;
  value = λ xs. record { lock = lock_from xs };
}

-- struct flock64 of 32-bit processes: 24 bytes, for Arm 32
abbrev pub lock_64_columns : List Column
lock_64_columns =
    column I16 (At 0) Low ∷  -- type
    column I16 (At 2) Low ∷  -- whence
    column I64 (By 4 8) Low ∷  -- start
    column I64 (By 12 16) Low ∷  -- len
    column I32 (By 20 24) Low ∷  -- pid
    []

abbrev pub lock_64 : Shape Lock64
lock_64 = record {
  size = By 24 32;
  columns = lock_64_columns;
  row = λ v. lock_row v.lock;
  value = λ xs. record { lock = lock_from xs };
}
