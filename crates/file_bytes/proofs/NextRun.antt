-- The next run in one page, and in the pages behind it.
use Rattle.std.proofs.Common.{◌≡◌, ℕ, ◌+◌, ◌-◌, ◌*◌, ◌/◌, ◌%◌, ◌<◌, ◌≤◌, ◌^◌, max, List, get_or, slice_index, refl, arith, ◌∙◌, sym, inl, inr}
use Rattle.std.specs.Prelude.{Option, Some, None, IsSome}
use Rattle.std.proofs.lemmas.Bool.{cases_lt}
use Rattle.file_bytes.specs.declared.run.Run.{Run}
use Rattle.file_bytes.specs.Pages.{byte_at}
use Rattle.number_maps.specs.NumberMap.{at}
use Rattle.file_bytes.specs.Search.{AreZero, AreFilled, IsRunAt}

-- a run within the bytes of a page
pub run_of_page : (f : ℕ → ℕ) (start first n : ℕ) (run : Run) → start ≤ first → 0 < n → first + n ≤ 4096 → AreZero f start first → AreFilled f first (first + n) → (first + n < 4096 → f (first + n) ≡ 0) → run.at ≡ first → run.length ≡ n → IsRunAt f start run
run_of_page f start first n run later some fits clear filled ends at-is length-is = record {
  later = omega arith;
  some = omega arith;
  clear = λ i lo hi. clear i lo (omega arith);
  filled = λ i lo hi. filled i (omega arith) (omega arith);
  one_page = omega arith;
  ends = λ inside.
      let e : run.at + run.length ≡ first + n = omega arith in
      rw e (ends (omega arith));
}

-- a byte of a page that is there
pub byte_of_page : (pages : List (ℕ × List ℕ)) (page : List ℕ) (number i : ℕ) → at pages number ≡ Some page → i / 4096 ≡ number → byte_at pages i ≡ get_or page (i % 4096) 0
unfolding byte_at
byte_of_page pages page number i found e = rw (e, found) refl

-- a byte where there is no page
byte_of_none : (pages : List (ℕ × List ℕ)) (i : ℕ) → at pages (i / 4096) ≡ None → byte_at pages i ≡ 0
unfolding byte_at
byte_of_none pages i absent = rw absent refl

-- what is next in the bytes of a page is next in the file, up to the page's end
pub page_none : (pages : List (ℕ × List ℕ)) (page : List ℕ) (number from start : ℕ) → at pages number ≡ Some page → start ≡ from - number * 4096 → AreZero (slice_index page) start 4096 → AreZero (byte_at pages) (max from (number * 4096)) (number * 4096 + 4096)
page_none pages page number from start found e clear = λ i lo hi.
    let home : i / 4096 ≡ number = omega arith in
    byte_of_page pages page number i found home ∙ clear (i % 4096) (omega arith) (omega arith)

pub page_some : (pages : List (ℕ × List ℕ)) (page : List ℕ) (number from start : ℕ) (inner run : Run) → at pages number ≡ Some page → start ≡ from - number * 4096 → IsRunAt (slice_index page) start inner → inner.at + inner.length ≤ 4096 → run.at ≡ number * 4096 + inner.at → run.length ≡ inner.length → IsRunAt (byte_at pages) (max from (number * 4096)) run
page_some pages page number from start inner run found e h one at-is length-is =
    record {
      later = omega (arith, h.later);
      some = omega (arith, h.some);
      clear = λ i lo hi.
          let home : i / 4096 ≡ number = omega arith in
          byte_of_page pages page number i found home ∙ h.clear (i % 4096) (omega arith) (omega arith);
      filled = λ i lo hi z.
          let home : i / 4096 ≡ number = omega arith in
          h.filled (i % 4096) (omega arith) (omega arith) (sym (byte_of_page pages page number i found home) ∙ z);
      one_page = omega arith;
      ends = λ inside.
          let home : (run.at + run.length) / 4096 ≡ number = omega arith in
          let offset : (run.at + run.length) % 4096 ≡ inner.at + inner.length = omega arith in
          byte_of_page pages page number (run.at + run.length) found home ∙ rw offset (h.ends (λ z. omega arith));
    }

-- pages that aren't there are passed
none_where : (x : Option (List ℕ)) → (IsSome x → ⊥) → x ≡ None
none_where None h = refl
none_where (Some page) h = absurd (h refl)

pub passed : (pages : List (ℕ × List ℕ)) (from number found : ℕ) → AreZero (byte_at pages) from (number * 4096) → found < 2 ^ 28 → ((q : ℕ) → number ≤ q → q < 2 ^ 28 → IsSome (at pages q) → found ≤ q) → AreZero (byte_at pages) from (found * 4096)
passed pages from number found clear low absent = λ i lo hi.
    elim (cases_lt i (number * 4096)) [
      | inl h ↦ clear i lo h
      | inr h ↦ byte_of_none pages i (none_where (at pages (i / 4096)) (λ there. let le : found ≤ i / 4096 = absent (i / 4096) (omega arith) (omega arith) there in omega arith))
    ]

-- a page without a run is passed
pub page_passed : (f : ℕ → ℕ) (from number end : ℕ) → AreZero f from (number * 4096) → AreZero f (max from (number * 4096)) (number * 4096 + 4096) → end ≡ number + 1 → AreZero f from (end * 4096)
page_passed f from number end clear here e = λ i lo hi.
    elim (cases_lt i (number * 4096)) [
      | inl h ↦ clear i lo h
      | inr h ↦ here i (omega arith) (omega arith)
    ]

-- the first run of a page is the first of all where no byte before it is other than 0
pub first_of_all : (f : ℕ → ℕ) (from number : ℕ) (run : Run) → AreZero f from (number * 4096) → IsRunAt f (max from (number * 4096)) run → IsRunAt f from run
first_of_all f from number run clear h = record {
  later = omega (arith, h.later);
  some = h.some;
  clear = λ i lo hi. elim (cases_lt i (number * 4096)) [
    | inl l ↦ clear i lo l
    | inr l ↦ h.clear i (omega arith) hi
  ];
  filled = h.filled;
  one_page = h.one_page;
  ends = h.ends;
}

-- where no page is left, all bytes up to the end are 0
pub rest_none : (pages : List (ℕ × List ℕ)) (from number : ℕ) → AreZero (byte_at pages) from (number * 4096) → ((q : ℕ) → number ≤ q → q < 2 ^ 28 → at pages q ≡ None) → AreZero (byte_at pages) from (2 ^ 40)
rest_none pages from number clear absent = λ i lo hi.
    elim (cases_lt i (number * 4096)) [
      | inl h ↦ clear i lo h
      | inr h ↦ byte_of_none pages i (absent (i / 4096) (omega arith) (omega arith))
    ]
