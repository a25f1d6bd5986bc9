-- Control messages, one behind another, by the size of a word: 4 bytes in a 32-bit process (struct compat_cmsghdr of include/net/compat.h)
-- and 8 in the kernel's own layout (struct cmsghdr of include/linux/socket.h). A header has the message's length in a word, and its level
-- and its type in 4 bytes each. The data stands behind it, and the next message at the next multiple of a word.
use Rattle.std.specs.Prelude.{◌≡◌, ℕ, zero, suc, ◌+◌, ◌-◌, ◌*◌, ◌/◌, ◌<◌, ◌≤◌, ◌^◌, ◌&&◌, Bool, nat_le, nat_lt, List, [], ◌∷◌, ◌++◌, length, take, drop, replicate, Option, Some, None, if◌then◌else◌}
use Rattle.std.specs.Option.{option_map}
use Rattle.std.specs.List.{sum_by}
use Rattle.byteorder.specs.Endian.{little_bytes, little_number}

-- a message: level and type as words of 32 bits, and its data
pub record Control : Type 0 where
  pub level : ℕ
  pub kind : ℕ
  pub content : List ℕ

-- bytes of a header
abbrev pub header_size : ℕ → ℕ
header_size word = word + 8

-- the next multiple of a word: CMSG_ALIGN
abbrev pub padded : ℕ → ℕ → ℕ
padded word n = (n + (word - 1)) / word * word

-- what a header tells as its message's length, without the gap behind it: CMSG_LEN
abbrev pub control_length : ℕ → Control → ℕ
control_length word c = header_size word + length c.content

-- bytes from a message to the next: CMSG_SPACE
abbrev pub control_size : ℕ → Control → ℕ
control_size word c = padded word (control_length word c)

-- bytes begin with a message: its header's fields and its data
pub record BeginsWith (word : ℕ) (c : Control) (bytes : List ℕ) : Type 0 where
  pub told : little_number word bytes ≡ control_length word c
  pub level : little_number 4 (drop word bytes) ≡ c.level
  pub kind : little_number 4 (drop (word + 4) bytes) ≡ c.kind
  pub content : take (length c.content) (drop (header_size word) bytes) ≡ c.content
  pub whole : control_length word c ≤ length bytes

-- Further messages, and behind the last one fewer bytes than a header has. The bytes of gaps are free, and behind the last message some or
-- all of them may be missing.
abbrev pub AreFurther : ℕ → List Control → List ℕ → Type 0
AreFurther word [] bytes = length bytes < header_size word
AreFurther word (c ∷ cs) bytes = BeginsWith word c bytes × AreFurther word cs (drop (control_size word c) bytes)

-- bytes are those of a list of messages: none are those of no message, and else they begin with one
abbrev pub AreControls : ℕ → List Control → List ℕ → Type 0
AreControls word [] bytes = bytes ≡ []
AreControls word (c ∷ cs) bytes = AreFurther word (c ∷ cs) bytes

-- the length that the first header tells
abbrev pub told_length : ℕ → List ℕ → ℕ
told_length word bytes = little_number word bytes

-- it counts the header, and isn't more than there is: CMSG_OK
abbrev pub is_good : ℕ → List ℕ → Bool
is_good word bytes = nat_le (header_size word) (told_length word bytes) && nat_le (told_length word bytes) (length bytes)

-- the message of the first header
abbrev pub first_control : ℕ → List ℕ → Control
first_control word bytes = record {
  level = little_number 4 (drop word bytes);
  kind = little_number 4 (drop (word + 4) bytes);
  content = take (told_length word bytes - header_size word) (drop (header_size word) bytes);
}

-- the bytes behind the first message and its gap
abbrev pub behind_first : ℕ → List ℕ → List ℕ
behind_first word bytes = drop (padded word (told_length word bytes)) bytes

-- a message in front of those behind it, where these are good
abbrev pub with_first : Control → Option (List Control) → Option (List Control)
with_first c cs = option_map (λ (others : List Control). c ∷ others) cs

-- the messages of bytes, no more than so many; none of fewer bytes than a header has
unfoldable pub further_within : ℕ → ℕ → List ℕ → Option (List Control)
further_within zero word bytes = Some []
further_within (suc most) word bytes =
    if nat_lt (length bytes) (header_size word) then Some []
    else if is_good word bytes then with_first (first_control word bytes) (further_within most word (behind_first word bytes)) else None

-- all of them, since bytes have no more messages than bytes
abbrev pub further_in : ℕ → List ℕ → Option (List Control)
further_in word bytes = further_within (length bytes) word bytes

-- bytes that are too few for a header, and yet some
abbrev pub is_cut_short : ℕ → List ℕ → Bool
is_cut_short word bytes = nat_lt 0 (length bytes) && nat_lt (length bytes) (header_size word)

-- the one list of messages that bytes are those of, or none
unfoldable pub controls_of : ℕ → List ℕ → Option (List Control)
controls_of word bytes = if is_cut_short word bytes then None else further_in word bytes

-- the bytes of a message, with its gap of zeros
abbrev pub control_bytes : ℕ → Control → List ℕ
control_bytes word c =
    little_bytes word (control_length word c) ++ (little_bytes 4 c.level ++ (little_bytes 4 c.kind
    ++ (c.content ++ replicate (control_size word c - control_length word c) 0)))

-- the bytes of messages, the last one's gap too
unfoldable pub spelled : ℕ → List Control → List ℕ
spelled word [] = []
spelled word (c ∷ cs) = control_bytes word c ++ spelled word cs

-- how many bytes they are
abbrev pub spelled_size : ℕ → List Control → ℕ
spelled_size word cs = sum_by (control_size word) cs

-- the fields of a header fit in their places
abbrev pub Fits : ℕ → Control → Type 0
Fits word c = (control_length word c < 256 ^ word) × (c.level < 256 ^ 4) × (c.kind < 256 ^ 4)

abbrev pub AllFit : ℕ → List Control → Type 0
AllFit word [] = Unit {0}
AllFit word (c ∷ cs) = Fits word c × AllFit word cs

-- how many bytes further messages of a 32-bit process take in the kernel's own layout, and these bytes
abbrev pub native_size : List ℕ → Option ℕ
native_size bytes = option_map (spelled_size 8) (further_in 4 bytes)

abbrev pub native_bytes : List ℕ → Option (List ℕ)
native_bytes bytes = option_map (spelled 8) (further_in 4 bytes)
