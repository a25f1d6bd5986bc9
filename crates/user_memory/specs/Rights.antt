-- What rights allow.
use Rattle.std.specs.Prelude.{ℕ, Bool, true, false, List}
use Rattle.user_memory.specs.declared.rights.Rights.{Rights}
use Rattle.user_memory.specs.declared.rights.Rights.TheVariants.{Read, ReadWrite}
use Rattle.user_memory.specs.Pages.{PageState, is_mapped, is_writable_byte}

abbrev pub allows_stores : Rights → Bool
allows_stores Read = false
allows_stores ReadWrite = true

-- whether the page of an address has these rights
abbrev pub has_rights : Rights → List PageState → ℕ → Bool
has_rights Read pages a = is_mapped pages a
has_rights ReadWrite pages a = is_writable_byte pages a
