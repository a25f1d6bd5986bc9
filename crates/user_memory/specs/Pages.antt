-- User memory as a list of pages with ascending numbers.
use Rattle.std.specs.Prelude.{◌≡◌, ℕ, ◌/◌, ◌%◌, ◌^◌, ◌<◌, ◌≤◌, ◌==◌, nat_lt, if◌then◌else◌, Bool, true, false, List, [], ◌∷◌, length, replicate, slice_index, slice_set, Option, Some, None}

-- a page: its bytes, and those that it had when changes were last cleared
pub record PageState : Type 0 where
  pub number : ℕ
  pub writable : Bool
  pub bytes : List ℕ
  pub before : List ℕ

-- the page with this number, where one is mapped
unfoldable pub page_at : List PageState → ℕ → Option PageState
page_at [] number = None
page_at (page ∷ pages) number = if page.number == number then Some page else page_at pages number

abbrev pub is_page : Option PageState → Bool
is_page None = false
is_page (Some page) = true

abbrev pub is_writable_page : Option PageState → Bool
is_writable_page None = false
is_writable_page (Some page) = page.writable

abbrev pub byte_in : Option PageState → ℕ → ℕ
byte_in None i = 0
byte_in (Some page) i = slice_index page.bytes i

-- whether a byte of a page isn't as it was when changes were last cleared
abbrev pub differs_in : Option PageState → ℕ → Bool
differs_in None i = false
differs_in (Some page) i = if slice_index page.bytes i == slice_index page.before i then false else true

abbrev pub is_mapped : List PageState → ℕ → Bool
is_mapped pages a = is_page (page_at pages (a / 4096))

abbrev pub is_writable_byte : List PageState → ℕ → Bool
is_writable_byte pages a = is_writable_page (page_at pages (a / 4096))

abbrev pub byte_at : List PageState → ℕ → ℕ
byte_at pages a = byte_in (page_at pages (a / 4096)) (a % 4096)

abbrev pub differs : List PageState → ℕ → Bool
differs pages a = differs_in (page_at pages (a / 4096)) (a % 4096)

-- the byte i of the page with this number replaced
unfoldable pub put_in : List PageState → ℕ → ℕ → ℕ → List PageState
put_in [] number i byte = []
put_in (page ∷ pages) number i byte =
    if page.number == number
    then record { number = page.number; writable = page.writable; bytes = slice_set page.bytes i byte; before = page.before } ∷ pages
    else page ∷ put_in pages number i byte

abbrev pub put_byte : List PageState → ℕ → ℕ → List PageState
put_byte pages a byte = put_in pages (a / 4096) (a % 4096) byte

-- a page in its place among pages with ascending numbers
unfoldable pub insert_page : PageState → List PageState → List PageState
insert_page new [] = new ∷ []
insert_page new (page ∷ pages) = if nat_lt new.number page.number then new ∷ page ∷ pages else page ∷ insert_page new pages

unfoldable pub zero_page : List ℕ
zero_page = replicate 4096 0

-- a page of zeros, with no change
abbrev pub new_page : ℕ → Bool → PageState
new_page number writable = record { number = number; writable = writable; bytes = zero_page; before = zero_page }

-- memory with a page of zeros more
abbrev pub with_page : List PageState → ℕ → Bool → List PageState
with_page pages number writable = insert_page (new_page number writable) pages

-- a page whose bytes are kept as those that later ones are compared with
abbrev pub mark_of : PageState → PageState
mark_of page = record { number = page.number; writable = page.writable; bytes = page.bytes; before = page.bytes }

-- each page so
unfoldable pub marked : List PageState → List PageState
marked [] = []
marked (page ∷ pages) = mark_of page ∷ marked pages

-- each page has a number above this one
unfoldable pub AllAbove : ℕ → List PageState → Type 0
AllAbove number [] = Unit {0}
AllAbove number (page ∷ pages) = (number < page.number) × AllAbove number pages

-- numbers ascend and are those of 32-bit addresses, and each page is whole
unfoldable pub IsAscending : List PageState → Type 0
IsAscending [] = Unit {0}
IsAscending (page ∷ pages) = (page.number < 2 ^ 20) × (length page.bytes ≡ 4096) × (length page.before ≡ 4096) × AllAbove page.number pages × IsAscending pages

-- at most 16,384 pages, in order
pub record IsWellFormed (pages : List PageState) : Type 0 where
  pub ascending : IsAscending pages
  pub few : length pages ≤ 16384
