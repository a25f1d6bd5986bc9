-- The flags of open, by include/uapi/asm-generic/fcntl.h and arch/arm/include/uapi/asm/fcntl.h. A set of flags has the bits of
-- i386: access mode 3, O_CREAT 0x40, O_EXCL 0x80, O_TRUNC 0x200, O_APPEND 0x400, O_NONBLOCK 0x800, O_DIRECT 0x4000,
-- O_LARGEFILE 0x8000, O_DIRECTORY 0x10000, O_NOFOLLOW 0x20000, O_CLOEXEC 0x80000.
use Rattle.std.specs.Prelude.{ℕ, ◌==◌, ◌%◌, ◌||◌, not, Bool, if◌then◌else◌}
use Rattle.std.specs.Int.RustNames.{bit_and, bit_or}
use Rattle.kernel_values.specs.declared.abi.AbiKind.{AbiKind}
use Rattle.kernel_values.specs.declared.abi.AbiKind.TheVariants.{Ia32, ArmEabi}
use Rattle.kernel_values.specs.declared.open_flags.OpenFlags.{OpenFlags}

-- a flag at another bit, where it is set
abbrev pub moved : ℕ → ℕ → ℕ → ℕ
moved word bit to = if bit_and word bit == bit then to else 0

-- The flags of a word. Arm has O_DIRECTORY at 0x4000, O_NOFOLLOW at 0x8000, O_DIRECT at 0x10000 and O_LARGEFILE at 0x20000,
-- and the others where i386 has them. Bits that are no flag are left out.
unfoldable pub from_word : AbiKind → ℕ → OpenFlags
from_word Ia32 word = record { 0 = bit_and word 0xbcec3 }
from_word ArmEabi word = record { 0 = bit_or (bit_or (bit_or (bit_or (bit_and word 0x80ec3) (moved word 0x10000 0x4000)) (moved word 0x20000 0x8000)) (moved word 0x4000 0x10000)) (moved word 0x8000 0x20000) }

-- the word that spells flags
unfoldable pub to_word : AbiKind → OpenFlags → ℕ
to_word Ia32 f = f.0
to_word ArmEabi f = bit_or (bit_or (bit_or (bit_or (bit_and f.0 0x80ec3) (moved f.0 0x4000 0x10000)) (moved f.0 0x8000 0x20000)) (moved f.0 0x10000 0x4000)) (moved f.0 0x20000 0x8000)

-- the access mode: 0 reads, 1 writes, 2 does both; 3 asks for write access and gives none
abbrev pub access : OpenFlags → ℕ
access f = f.0 % 4

unfoldable pub can_read : OpenFlags → Bool
can_read f = (access f == 0) || (access f == 2)

unfoldable pub can_write : OpenFlags → Bool
can_write f = (access f == 1) || (access f == 2)

unfoldable pub asks_write : OpenFlags → Bool
asks_write f = not (access f == 0)

-- whether a flag is set
abbrev pub has : OpenFlags → ℕ → Bool
has f flag = bit_and f.0 flag == flag

unfoldable pub creates : OpenFlags → Bool
creates f = has f 0x40

unfoldable pub is_exclusive : OpenFlags → Bool
is_exclusive f = has f 0x80

unfoldable pub truncates : OpenFlags → Bool
truncates f = has f 0x200

unfoldable pub appends : OpenFlags → Bool
appends f = has f 0x400

unfoldable pub is_large : OpenFlags → Bool
is_large f = has f 0x8000

unfoldable pub wants_directory : OpenFlags → Bool
wants_directory f = has f 0x10000

unfoldable pub closes_on_exec : OpenFlags → Bool
closes_on_exec f = has f 0x80000

-- what an open file keeps, and F_GETFL tells: the access mode, APPEND, NONBLOCK, DIRECT, LARGEFILE, DIRECTORY and NOFOLLOW
unfoldable pub status_flags : OpenFlags → OpenFlags
status_flags f = record { 0 = bit_and f.0 0x3cc03 }

-- what F_SETFL leaves: APPEND and NONBLOCK are those given
unfoldable pub with_status : OpenFlags → OpenFlags → OpenFlags
with_status f given = record { 0 = bit_or (bit_and f.0 0xfffff3ff) (bit_and given.0 0xc00) }
