-- Control messages that a 32-bit process is told of what it received: recvmsg(2), and put_cmsg_compat and scm_detach_fds_compat of net/compat.c.
-- Their data are whole words, so no message has a gap behind it.
use Rattle.std.specs.Prelude.{ℕ, ◌+◌, ◌-◌, ◌*◌, ◌/◌, min, nat_lt, ◌&&◌, ◌||◌, Bool, List, [], ◌∷◌, ◌++◌, length, take, Option, Some, None, is_some, if◌then◌else◌}
use Rattle.std.specs.List.{flat_map}
use Rattle.byteorder.specs.Endian.{little_bytes}
use Rattle.kernel_values.specs.declared.identity.Credentials.{Credentials}
use Rattle.kernel_values.specs.declared.sockets.Received.{Received}
use Rattle.message_layouts.specs.Controls.{Control}

-- words of 32 bits as bytes
abbrev pub words : List ℕ → List ℕ
words xs = flat_map (little_bytes 4) xs

-- SCM_CREDENTIALS, in room for 24 bytes or more whole. Where there is less, the message is cut and its header tells as many bytes as there are,
-- and without room for a header there is none.
abbrev pub credentials_bytes : Option Credentials → ℕ → List ℕ
credentials_bytes None room = []
credentials_bytes (Some c) room = if nat_lt room 12 then [] else take room (words ((min room 24) ∷ 1 ∷ 2 ∷ c.pid ∷ c.uid ∷ c.gid ∷ []))

-- how many of so many descriptors there is room for, behind a header
abbrev pub told_count : ℕ → ℕ → ℕ
told_count count room = min count ((room - 12) / 4)

-- SCM_RIGHTS: a header and a word for each descriptor, and no header without one
abbrev pub rights_message : List ℕ → List ℕ
rights_message [] = []
rights_message (right ∷ rights) = words ((12 + 4 * length (right ∷ rights)) ∷ 1 ∷ 1 ∷ right ∷ rights)

abbrev pub rights_bytes : List ℕ → ℕ → List ℕ
rights_bytes rights room = rights_message (take (told_count (length rights) room) rights)

-- the room that credentials leave
abbrev pub room_left : Received → ℕ → ℕ
room_left r room = room - length (credentials_bytes r.credentials room)

-- credentials come first
abbrev pub controls_out_bytes : Received → ℕ → List ℕ
controls_out_bytes r room = credentials_bytes r.credentials room ++ rights_bytes r.rights (room_left r room)

-- MSG_CTRUNC: the credentials or the descriptors aren't told whole, or a descriptor was dropped before
abbrev pub is_cut : Received → ℕ → Bool
is_cut r room =
    is_some r.credentials && nat_lt room 24
    || (r.dropped || nat_lt (told_count (length r.rights) (room_left r room)) (length r.rights))

-- all that there is to tell, as messages
abbrev pub credentials_control : Option Credentials → List Control
credentials_control None = []
credentials_control (Some c) = record { level = 1; kind = 2; content = words (c.pid ∷ c.uid ∷ c.gid ∷ []) } ∷ []

abbrev pub rights_control : List ℕ → List Control
rights_control [] = []
rights_control (right ∷ rights) = record { level = 1; kind = 1; content = words (right ∷ rights) } ∷ []

abbrev pub all_controls : Received → List Control
all_controls r = credentials_control r.credentials ++ rights_control r.rights
