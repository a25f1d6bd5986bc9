-- A file's status: its tables, and its rows of words in the order of the columns.
use Rattle.std.specs.Prelude.{ℕ, List, ◌%◌, ◌^◌, [], ◌∷◌, ◌++◌, slice_index}
use Rattle.std.specs.Int.{w64, cast_signed, cast_unsigned}
use Rattle.kernel_values.specs.declared.status.Stat.{Stat}
use Rattle.kernel_values.specs.declared.times.TimeSpec.{TimeSpec}
use Rattle.layout_laws.specs.declared.columns.Column.{Column}
use Rattle.layout_laws.specs.declared.columns.Field.TheVariants.{I64, U16, U32, U64}
use Rattle.layout_laws.specs.declared.columns.Misfit.TheVariants.{Clamp, Low, Refuse, RefuseAbove}
use Rattle.layout_laws.specs.declared.columns.Offset.TheVariants.{At, By}
use Rattle.layout_laws.specs.Shapes.{Shape}
use Rattle.layout_laws.specs.Tables.{column}
use Rattle.file_layouts.specs.declared.stat.Stat32.{Stat32}
use Rattle.file_layouts.specs.declared.stat64.Stat64.{Stat64}

-- the words of a status up to the nanoseconds of its last change
abbrev pub status_row : Stat → List ℕ
status_row s =
    s.dev ∷ s.ino ∷ s.mode ∷ s.nlink ∷ s.uid ∷ s.gid ∷ s.rdev ∷ cast_unsigned w64 s.size ∷ s.blksize ∷ s.blocks
    ∷ cast_unsigned w64 s.atime.seconds ∷ cast_unsigned w64 s.atime.nanos
    ∷ cast_unsigned w64 s.mtime.seconds ∷ cast_unsigned w64 s.mtime.nanos
    ∷ cast_unsigned w64 s.ctime.seconds ∷ cast_unsigned w64 s.ctime.nanos ∷ []

-- the time whose seconds stand at place i, and its nanoseconds at place j
abbrev pub time_at : List ℕ → ℕ → ℕ → TimeSpec
time_at xs i j = record { seconds = cast_signed w64 (slice_index xs i); nanos = cast_signed w64 (slice_index xs j) }

-- the word at place i as a number of 32 bits
abbrev pub half_at : List ℕ → ℕ → ℕ
half_at xs i = slice_index xs i % 2 ^ 32

-- the status of these words, with this inode
abbrev pub status_from : ℕ → List ℕ → Stat
status_from inode xs = record {
  dev = slice_index xs 0;
  ino = inode;
  mode = half_at xs 2;
  nlink = half_at xs 3;
  uid = half_at xs 4;
  gid = half_at xs 5;
  rdev = slice_index xs 6;
  size = cast_signed w64 (slice_index xs 7);
  blksize = half_at xs 8;
  blocks = slice_index xs 9;
  atime = time_at xs 10 11;
  mtime = time_at xs 12 13;
  ctime = time_at xs 14 15;
}

-- struct stat (arch/x86/include/uapi/asm/stat.h, arch/arm/include/uapi/asm/stat.h), 64 bytes
abbrev pub stat_32_columns : List Column
stat_32_columns =
    column U32 (At 0) Low ∷  -- dev
    column U32 (At 4) Refuse ∷  -- ino
    column U16 (At 8) Low ∷  -- mode
    column U16 (At 10) Refuse ∷  -- nlink
    column U16 (At 12) (Clamp 65535 65534) ∷  -- uid
    column U16 (At 14) (Clamp 65535 65534) ∷  -- gid
    column U32 (At 16) Low ∷  -- rdev
    column U32 (At 20) (RefuseAbove 0x7fffffff) ∷  -- size
    column U32 (At 24) Low ∷  -- blksize
    column U32 (At 28) Low ∷  -- blocks
    column U32 (At 32) Low ∷  -- atime
    column U32 (At 36) Low ∷  -- atime_nsec
    column U32 (At 40) Low ∷  -- mtime
    column U32 (At 44) Low ∷  -- mtime_nsec
    column U32 (At 48) Low ∷  -- ctime
    column U32 (At 52) Low ∷  -- ctime_nsec
    []

-- stat has the inode once
abbrev pub stat_32 : Shape Stat32
stat_32 = record {
  size = At 64;
  columns = stat_32_columns;
  row = λ v. status_row v.stat;
  value = λ xs. record { stat = status_from (slice_index xs 1) xs };
}

-- struct stat64 (the same headers): 96 bytes, for Arm 104
abbrev pub stat_64_columns : List Column
stat_64_columns =
    column U64 (At 0) Low ∷  -- dev
    column U32 (At 12) Low ∷  -- ino, its low half
    column U32 (At 16) Low ∷  -- mode
    column U32 (At 20) Low ∷  -- nlink
    column U32 (At 24) Low ∷  -- uid
    column U32 (At 28) Low ∷  -- gid
    column U64 (At 32) Low ∷  -- rdev
    column I64 (By 44 48) Low ∷  -- size
    column U32 (By 52 56) Low ∷  -- blksize
    column U64 (By 56 64) Low ∷  -- blocks
    column U32 (By 64 72) Low ∷  -- atime
    column U32 (By 68 76) Low ∷  -- atime_nsec
    column U32 (By 72 80) Low ∷  -- mtime
    column U32 (By 76 84) Low ∷  -- mtime_nsec
    column U32 (By 80 88) Low ∷  -- ctime
    column U32 (By 84 92) Low ∷  -- ctime_nsec
    column U64 (By 88 96) Low ∷  -- ino
    []

-- stat64 has the inode's low half among the words, and the whole inode behind them; the whole one is read
abbrev pub stat_64 : Shape Stat64
stat_64 = record {
  size = By 96 104;
  columns = stat_64_columns;
  row = λ v. status_row v.stat ++ v.stat.ino ∷ [];
  value = λ xs. record { stat = status_from (slice_index xs 16) xs };
}
