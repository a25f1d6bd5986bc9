-- Numbers that several calls and several rooms of the kernel know.
use Rattle.std.specs.Prelude.{ℕ, ℤ, negsuc, ◌^◌, ◌-◌}

-- AT_FDCWD, -100: the working directory in place of a descriptor
abbrev pub at_fdcwd : ℤ
at_fdcwd = negsuc 99

-- the greatest size of a file, and the greatest position in it
abbrev pub most_file_bytes : ℕ
most_file_bytes = 2 ^ 40

-- The greatest number of a signed word of 32 bits: the greatest size of a file without O_LARGEFILE, the greatest position in a
-- directory, and the greatest that lseek can tell.
abbrev pub most_narrow : ℕ
most_narrow = 2 ^ 31 - 1
