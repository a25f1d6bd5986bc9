-- Lines as fields with one space between them, and numbers and bytes in hexadecimal digits.
use Rattle.std.specs.Prelude.{ℕ, zero, suc, ℤ, pos, ◌+◌, ◌-◌, ◌*◌, ◌^◌, ◌==◌, ◌&&◌, not, nat_lt, nat_le, if◌then◌else◌, Bool, true, false, List, [], ◌∷◌, ◌++◌, length, codes, Option, Some, None}
use Rattle.std.specs.Result.{result_ok}
use Rattle.hex.specs.Hex.{decode_of}

infixl 10 ◌>>=◌
abbrev pub ◌>>=◌ : {A B : Type 0} → Option A → (A → Option B) → Option B
None >>= f = None
(Some x) >>= f = f x

-- whether two lists are the same
unfoldable pub same : List ℕ → List ℕ → Bool
same [] [] = true
same [] (y ∷ ys) = false
same (x ∷ xs) [] = false
same (x ∷ xs) (y ∷ ys) = (x == y) && same xs ys

-- the field in front
unfoldable pub first_field : List ℕ → List ℕ
first_field [] = []
first_field (b ∷ bs) = if b == 32 then [] else b ∷ first_field bs

-- what follows the first space, where there is one
unfoldable pub after_field : List ℕ → Option (List ℕ)
after_field [] = None
after_field (b ∷ bs) = if b == 32 then Some bs else after_field bs

-- the field in front, and all behind its space
unfoldable pub two_fields : List ℕ → Option (List ℕ × List ℕ)
two_fields line = after_field line >>= λ rest. Some (first_field line, rest)

-- the two fields in front, and all behind their spaces
unfoldable pub three_fields : List ℕ → Option (List ℕ × List ℕ × List ℕ)
three_fields line = after_field line >>= λ rest. two_fields rest >>= λ f. Some (first_field line, f.0, f.1)

-- the three fields in front, and all behind their spaces
unfoldable pub four_fields : List ℕ → Option (List ℕ × List ℕ × List ℕ × List ℕ)
four_fields line = after_field line >>= λ rest. three_fields rest >>= λ f. Some (first_field line, f.0, f.1, f.2)

-- the four fields in front, and all behind their spaces
unfoldable pub five_fields : List ℕ → Option (List ℕ × List ℕ × List ℕ × List ℕ × List ℕ)
five_fields line = after_field line >>= λ rest. four_fields rest >>= λ f. Some (first_field line, f.0, f.1, f.2, f.3)

-- the value of a hexadecimal digit of either case
abbrev pub digit : ℕ → Option ℕ
digit c =
    if nat_le 48 c && nat_lt c 58 then Some (c - 48)
    else if nat_le 97 c && nat_lt c 103 then Some (c - 87)
    else if nat_le 65 c && nat_lt c 71 then Some (c - 55)
    else None

-- the number that digits go on with
unfoldable pub digits_from : ℕ → List ℕ → Option ℕ
digits_from value [] = Some value
digits_from value (c ∷ cs) = digit c >>= λ d. digits_from (value * 16 + d) cs

-- a number of 1 to 16 digits
abbrev pub number : List ℕ → Option ℕ
number cs = if nat_lt 0 (length cs) && nat_le (length cs) 16 then digits_from 0 cs else None

-- a number below a limit
abbrev pub number_below : ℕ → List ℕ → Option ℕ
number_below limit cs = number cs >>= λ n. if nat_lt n limit then Some n else None

abbrev pub word : List ℕ → Option ℕ
word cs = number_below (2 ^ 32) cs

abbrev pub clock : List ℕ → Option ℕ
clock cs = number_below (2 ^ 62) cs

-- a number that a signed 64-bit integer holds
abbrev pub count : List ℕ → Option ℤ
count cs = number_below (2 ^ 63) cs >>= λ n. Some (pos n)

-- n fields and no more
unfoldable pub fields_in : {A : Type 0} → (List ℕ → Option A) → ℕ → Option (List ℕ) → Option (List A)
fields_in read zero None = Some []
fields_in read zero (Some rest) = None
fields_in read (suc n) None = None
fields_in read (suc n) (Some rest) = read (first_field rest) >>= λ x. fields_in read n (after_field rest) >>= λ xs. Some (x ∷ xs)

-- pairs of digits, at least one, or a dash for none
abbrev pub data_of : List ℕ → Option (List ℕ)
data_of cs = if same cs (45 ∷ []) then Some [] else (if length cs == 0 then None else result_ok (decode_of cs))

-- a name in a path: 1 to 255 bytes, and neither `.` nor `..`
unfoldable pub is_name : List ℕ → Bool
is_name name = nat_le 1 (length name) && nat_le (length name) 255 && not (same name (codes ".")) && not (same name (codes ".."))

-- a byte that a name in a path may have, where it isn't the slash
abbrev pub is_graphic : ℕ → Bool
is_graphic b = nat_le 0x21 b && nat_le b 0x7e

-- bytes go on with a name in a path, and with further ones behind a slash each
unfoldable pub are_names : List ℕ → List ℕ → Bool
are_names name [] = is_name name
are_names name (b ∷ bs) = if b == 47 then is_name name && are_names [] bs else is_graphic b && are_names (name ++ b ∷ []) bs

-- names with a slash before each
abbrev pub is_path : List ℕ → Bool
is_path [] = false
is_path (b ∷ bs) = (b == 47) && are_names [] bs

abbrev pub path_of : List ℕ → Option (List ℕ)
path_of cs = if is_path cs then Some cs else None

-- an inode number of the image
abbrev pub inode_of : List ℕ → Option ℕ
inode_of cs = number_below (2 ^ 63) cs >>= λ n. if nat_le 1 n then Some n else None

-- how many bytes a file of the image has
abbrev pub size_of : List ℕ → Option ℕ
size_of cs = number_below (2 ^ 40 + 1) cs
