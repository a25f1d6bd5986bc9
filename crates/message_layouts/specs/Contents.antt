-- What control messages of Unix sockets hold: unix(7), "Ancillary messages".
use Rattle.std.specs.Prelude.{ℕ, ℤ, ◌*◌, ◌/◌, ◌==◌, List, length, drop, Option, Some, None, if◌then◌else◌}
use Rattle.std.specs.Int.{w32, cast_signed}
use Rattle.byteorder.specs.Endian.{little_number}
use Rattle.kernel_values.specs.declared.identity.Credentials.{Credentials}
use Rattle.layout_laws.specs.Shapes.{value_of}
use Rattle.message_layouts.specs.Credentials.{compat_credentials}

-- SCM_RIGHTS: an int for each descriptor
abbrev pub rights_count : List ℕ → ℕ
rights_count content = length content / 4

abbrev pub right_at : List ℕ → ℕ → ℤ
right_at content index = cast_signed w32 (little_number 4 (drop (4 * index) content))

-- SCM_CREDENTIALS: exactly one struct ucred
abbrev pub credentials_in : List ℕ → Option Credentials
credentials_in content = if length content == 12 then Some (value_of compat_credentials 8 content).credentials else None
