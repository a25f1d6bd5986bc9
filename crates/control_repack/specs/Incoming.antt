-- Control messages of a 32-bit process in user memory: sendmsg(2), and get_compat_msghdr and cmsghdr_from_user_compat_to_kern of net/compat.c.
use Rattle.std.specs.Prelude.{◌≡◌, ℕ, ◌+◌, not, nat_lt, List, ok_or, Some, Result, Ok, Err, if◌then◌else◌}
use Rattle.kernel_values.specs.Outcome.{◌>>◌, refused_if}
use Rattle.kernel_values.specs.declared.errno.Errno.{Errno}
use Rattle.kernel_values.specs.declared.errno.Errno.TheVariants.{BadAddress, InvalidArgument, NoBufferSpace}
use Rattle.user_memory.specs.Memory.{bytes_at, is_readable}
use Rattle.user_memory.specs.Pages.{PageState}
use Rattle.message_layouts.specs.Controls.{Control, controls_of, spelled, spelled_size}
use Rattle.scratch_region.specs.Region.{RegionState, bytes_of}
use Rattle.scratch_region.specs.declared.marks.Span.{Span}

-- the most bytes of control messages: net.core.optmem_max
abbrev pub most_controls : ℕ
most_controls = 20480

-- the messages at an address: ENOBUFS for too many bytes, EFAULT, and EINVAL where the bytes are those of no list
unfoldable pub controls_at : List PageState → ℕ → ℕ → Result (List Control) Errno
controls_at m at n = do
  refused_if (nat_lt most_controls n) NoBufferSpace
  refused_if (not (is_readable m at n)) BadAddress
  ok_or (controls_of 4 (bytes_at m at n)) InvalidArgument

-- how many bytes of the region they take: those of the process where they aren't too many, and those of the kernel's own layout where they are
-- those of a list
abbrev pub native_need : Result (List Control) Errno → ℕ
native_need (Ok cs) = spelled_size 8 cs
native_need (Err e) = 0

unfoldable pub controls_need : List PageState → ℕ → ℕ → ℕ
controls_need m at n = if nat_lt most_controls n then 0 else n + native_need (controls_at m at n)

-- the bytes of a span are those of the messages in the kernel's own layout, and of no others
abbrev pub AreSpelled : Result (List Control) Errno → List ℕ → Type 0
AreSpelled (Ok cs) bytes = (bytes ≡ spelled 8 cs) × (controls_of 8 bytes ≡ Some cs)
AreSpelled (Err e) bytes = ⊥

-- a call that translates messages gave a span with their bytes, or what refuses them
abbrev pub TellsControls : Result Span Errno → RegionState → Result (List Control) Errno → Type 0
TellsControls (Ok span) region defined = AreSpelled defined (bytes_of region span)
TellsControls (Err e) region defined = defined ≡ Err e

-- how many bytes the messages take in the kernel's own layout
abbrev pub size_told : Result (List Control) Errno → Result ℕ Errno
size_told (Ok cs) = Ok (spelled_size 8 cs)
size_told (Err e) = Err e
