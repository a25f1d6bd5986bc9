-- How much of a range can be read or written, and the text that begins at an address.
use Rattle.std.specs.Prelude.{◌≢◌, ℕ, ◌+◌, ◌-◌, ◌^◌, ◌<◌, ◌==◌, ◌&&◌, nat_lt, min, zero, suc, if◌then◌else◌, Bool, List, [], ◌∷◌, Result, Ok, Err}
use Rattle.user_memory.specs.Pages.{PageState, is_mapped, is_writable_byte, byte_at}
use Rattle.user_memory.specs.declared.text.TextFault.{TextFault}
use Rattle.user_memory.specs.declared.text.TextFault.TheVariants.{Fault, TooLong}

-- how many of n addresses from a on pass before the first that doesn't
unfoldable pub passing : (ℕ → Bool) → ℕ → ℕ → ℕ
passing test a zero = 0
passing test a (suc n) = if test a then suc (passing test (a + 1) n) else 0

-- how many bytes of a range stand before the first that can't be read; no range goes on past 2^32
unfoldable pub readable_prefix : List PageState → ℕ → ℕ → ℕ
readable_prefix pages a n = passing (is_mapped pages) a (min n (2 ^ 32 - a))

-- the same of bytes that can't be written
unfoldable pub writable_prefix : List PageState → ℕ → ℕ → ℕ
writable_prefix pages a n = passing (is_writable_byte pages) a (min n (2 ^ 32 - a))

-- a byte in front of a text that was read, or why it couldn't be
abbrev pub text_after : ℕ → Result (List ℕ) TextFault → Result (List ℕ) TextFault
text_after byte (Ok bytes) = Ok (byte ∷ bytes)
text_after byte (Err reason) = Err reason

-- the text of at most n bytes (its zero among them) from an address on: the bytes before the first zero. It is a Fault where a
-- byte up to that zero can't be read or lies at 2^32, and else TooLong where none of the n bytes is zero
unfoldable pub text_at : List PageState → ℕ → ℕ → Result (List ℕ) TextFault
text_at pages a zero = Err TooLong
text_at pages a (suc n) =
    if nat_lt a (2 ^ 32) && is_mapped pages a
    then (if byte_at pages a == 0 then Ok [] else text_after (byte_at pages a) (text_at pages (a + 1) n))
    else Err Fault

-- none of n bytes from an address on is zero
abbrev pub HasNoZero : List PageState → ℕ → ℕ → Type 0
HasNoZero pages a n = (k : ℕ) → k < n → byte_at pages (a + k) ≢ 0
