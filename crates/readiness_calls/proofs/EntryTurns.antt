-- The entries of poll, one after another: those that are left, and what answering them gives.
use Rattle.std.proofs.Common.{◌≡◌, ℕ, zero, suc, ◌+◌, ◌-◌, ◌*◌, ◌<◌, ◌≤◌, ◌^◌, true, false, List, [], ◌∷◌, length, map, refl, sym, ap, subst, ◌∙◌, inl, inr, arith}
use Rattle.std.specs.Prelude.{Option, Some, None, Result, Ok, Err, if◌then◌else◌, ◌==◌, nat_le, ⊤}
use Rattle.std.proofs.lemmas.Bool.{and_parts, cases_Bool}
use Rattle.std.proofs.lemmas.Bool.Decides.{nat_tests}
use Rattle.std.proofs.lemmas.List.Sums.{sum_by-cons}
use Rattle.kernel_values.specs.declared.errno.Errno.{Errno}
use Rattle.kernel_values.specs.declared.errno.Errno.TheVariants.{BadAddress}
use Rattle.kernel_values.specs.Outcome.{◌>>=◌}
use Rattle.native_kernel.specs.declared.state.Kernel.{Kernel}
use Rattle.layout_laws.specs.Abis.{AbiRules}
use Rattle.layout_laws.specs.Shapes.{shape_fills, spelling_of}
use Rattle.layout_laws.specs.Stored.{memory_after}
use Rattle.file_layouts.specs.Polls.{poll_answer, poll_entry}
use Rattle.file_layouts.specs.declared.polls.PollAnswer.{PollAnswer}
use Rattle.file_layouts.specs.declared.polls.PollEntry.{PollEntry}
use Rattle.served_calls.specs.Calls.{Memory, gives_word, ◌>>◌}
use Rattle.served_calls.specs.Shapes.{fetched, shape_at, stored}
use Rattle.user_memory.specs.Memory.{is_readable, is_writable, with_bytes}
use Rattle.readiness_calls.specs.PollEntries.{checked, entries_at, entries_of, entry_answer}
use Rattle.readiness_calls.specs.Polls.{stores_answers, told_count}
use Rattle.readiness_calls.proofs.LaterBytes.{bytes_kept, readable_kept}

-- an entry that can be read lies below 2^32
pub entry_fits : (abi : AbiRules) (m : Memory) (at : ℕ) (e : PollEntry) → shape_at poll_entry abi m at ≡ Ok e → at + 8 ≤ 2 ^ 32
unfolding fetched
entry_fits abi m at e is =
    elim (cases_Bool (is_readable m at 8)) [
      | inl can ↦ grind (arith, nat_tests, (and_parts (nat_le (at + 8) (2 ^ 32)) _ can).0)
      | inr cannot ↦ absurd (grind (arith, is, cannot))
    ]

-- one past the end can't be read
pub past_the_end : (abi : AbiRules) (m : Memory) (at : ℕ) → 2 ^ 32 ≤ at → shape_at poll_entry abi m at ≡ Err BadAddress
unfolding fetched
past_the_end abi m at past =
    let none : nat_le (at + 8) (2 ^ 32) ≡ false = grind (arith, nat_tests) in
    rw none refl

-- an entry behind a store is as it was
entry_kept : (abi : AbiRules) (xs : List ℕ) (m : Memory) (a at : ℕ) → a + length xs ≤ at → shape_at poll_entry abi (with_bytes m a xs) at ≡ shape_at poll_entry abi m at
unfolding fetched
entry_kept abi xs m a at behind = rw (readable_kept xs m a at 8, bytes_kept xs m a at 8 behind) refl

entries_with : (n : ℕ) (abi : AbiRules) (xs : List ℕ) (m : Memory) (a at : ℕ) → a + length xs ≤ at → entries_at abi (with_bytes m a xs) at n ≡ entries_at abi m at n
unfolding entries_at
entries_with zero abi xs m a at behind = refl
entries_with (suc n) abi xs m a at behind = rw (entry_kept abi xs m a at behind, entries_with n abi xs m a (at + 8) (omega arith)) refl

after_bytes : (o : Option (List ℕ)) (abi : AbiRules) (m : Memory) (a at n : ℕ) → ((bs : List ℕ) → o ≡ Some bs → a + length bs ≤ at) → entries_at abi (memory_after m a o) at n ≡ entries_at abi m at n
after_bytes None abi m a at n behind = refl
after_bytes (Some bs) abi m a at n behind =
    elim (cases_Bool (is_writable m a (length bs))) [
      | inl can ↦ rw can (entries_with n abi bs m a at (behind bs refl))
      | inr cannot ↦ rw cannot refl
    ]

-- the entries behind an answer that was stored
entries_kept : (abi : AbiRules) (answer : PollAnswer) (m : Memory) (a at n : ℕ) → a + 2 ≤ at → entries_at abi (memory_after m a (spelling_of poll_answer abi.align64 answer)) at n ≡ entries_at abi m at n
entries_kept abi answer m a at n behind =
    after_bytes (spelling_of poll_answer abi.align64 answer) abi m a at n (λ bs is.
    let size : length bs ≡ 2 = shape_fills poll_answer abi.align64 refl answer bs is in
    omega arith)

-- the entries from a place on
abbrev pub from_place : AbiRules → Memory → ℕ → ℕ → ℕ → Result (List PollEntry) Errno
from_place abi m at place count = entries_at abi m (at + 8 * place) (count - place)

pub all_left : (abi : AbiRules) (m : Memory) (at count : ℕ) → from_place abi m at 0 count ≡ entries_at abi m at count
all_left abi m at count =
    let start : at + 8 * 0 ≡ at = omega arith in
    let left : count - 0 ≡ count = omega arith in
    rw (start, left) refl

pub no_more : (abi : AbiRules) (m : Memory) (at place count : ℕ) → count ≤ place → from_place abi m at place count ≡ Ok []
unfolding entries_at
no_more abi m at place count h = let left : count - place ≡ 0 = omega arith in rw left refl

-- an entry in front of others
abbrev pub in_front : Result PollEntry Errno → Result (List PollEntry) Errno → Result (List PollEntry) Errno
in_front (Ok e) (Ok es) = Ok (e ∷ es)
in_front (Ok e) (Err x) = Err x
in_front (Err x) rs = Err x

in_turn : (r : Result PollEntry Errno) (rs : Result (List PollEntry) Errno) → (r >>= (λ e. rs >>= (λ es. Ok (e ∷ es)))) ≡ in_front r rs
in_turn (Ok e) (Ok es) = refl
in_turn (Ok e) (Err x) = refl
in_turn (Err x) rs = refl

next_entry : (abi : AbiRules) (m : Memory) (at place count : ℕ) → place < count
    → from_place abi m at place count ≡ in_front (shape_at poll_entry abi m (at + 8 * place)) (from_place abi m at (place + 1) count)
unfolding entries_at
next_entry abi m at place count h =
    let left : count - place ≡ suc (count - (place + 1)) = omega arith in
    let start : at + 8 * (place + 1) ≡ (at + 8 * place) + 8 = omega arith in
    rw (left, start) (in_turn (shape_at poll_entry abi m (at + 8 * place)) (entries_at abi m ((at + 8 * place) + 8) (count - (place + 1))))

with_next : (abi : AbiRules) (m : Memory) (at place count start : ℕ) (r : Result PollEntry Errno) → place < count → start ≡ at + 8 * place → r ≡ shape_at poll_entry abi m start
    → from_place abi m at place count ≡ in_front r (from_place abi m at (place + 1) count)
with_next abi m at place count start r h here is =
    next_entry abi m at place count h
    ∙ ap (λ (q : Result PollEntry Errno). in_front q (from_place abi m at (place + 1) count)) (ap (λ (i : ℕ). shape_at poll_entry abi m i) (sym here) ∙ sym is)

checked_in_front : (e : PollEntry) (rs : Result (List PollEntry) Errno) → checked (in_front (Ok e) rs) ≡ checked rs
checked_in_front e (Ok es) = refl
checked_in_front e (Err x) = refl

entries_in_front : (e : PollEntry) (rs : Result (List PollEntry) Errno) → checked rs ≡ Ok tt → entries_of (in_front (Ok e) rs) ≡ e ∷ entries_of rs
entries_in_front e (Ok es) whole = refl
entries_in_front e (Err x) whole = absurd (grind (arith, whole))

-- one that can be read, and one that can't
pub next_read : (abi : AbiRules) (m : Memory) (at place count start : ℕ) (e : PollEntry) → place < count → start ≡ at + 8 * place → Ok e ≡ shape_at poll_entry abi m start
    → checked (from_place abi m at place count) ≡ checked (from_place abi m at (place + 1) count)
next_read abi m at place count start e h here is =
    ap checked (with_next abi m at place count start (Ok e) h here is) ∙ checked_in_front e (from_place abi m at (place + 1) count)

pub next_refused : (abi : AbiRules) (m : Memory) (at place count start : ℕ) (x : Errno) → place < count → start ≡ at + 8 * place → Err x ≡ shape_at poll_entry abi m start
    → checked (from_place abi m at place count) ≡ Err x
next_refused abi m at place count start x h here is = ap checked (with_next abi m at place count start (Err x) h here is)

pub none_refused : (abi : AbiRules) (m : Memory) (at place count start : ℕ) (x : Errno) → place < count → start ≡ at + 8 * place → Err x ≡ shape_at poll_entry abi m start
    → checked (from_place abi m at place count) ≡ Ok tt → ⊥
none_refused abi m at place count start x h here is whole = grind (arith, whole, next_refused abi m at place count start x h here is)

next_in_list : (abi : AbiRules) (m : Memory) (at place count start : ℕ) (e : PollEntry) → place < count → start ≡ at + 8 * place → Ok e ≡ shape_at poll_entry abi m start → checked (from_place abi m at place count) ≡ Ok tt
    → entries_of (from_place abi m at place count) ≡ e ∷ entries_of (from_place abi m at (place + 1) count)
next_in_list abi m at place count start e h here is whole =
    ap entries_of (with_next abi m at place count start (Ok e) h here is) ∙ entries_in_front e (from_place abi m at (place + 1) count) (sym (next_read abi m at place count start e h here is) ∙ whole)

-- what answering entries gives, where so many answers before them told something
abbrev pub answering : AbiRules → ℕ → List PollEntry → Kernel → ℕ → Memory → Result ℕ Errno × Memory
answering abi at es k told m = (stores_answers abi at (map (entry_answer k) es) >> gives_word (told + told_count (map (entry_answer k) es))) m

abbrev pub counted : ℕ → ℕ
counted a = if a == 0 then 0 else 1

pub counted_few : (a : ℕ) → counted a ≤ 1
counted_few a = elim (a == 0) as (λ b. (if b then 0 else 1) ≤ 1) [ true ↦ omega arith | false ↦ omega arith ]

one_answered : (abi : AbiRules) (at : ℕ) (es later : List PollEntry) (k : Kernel) (told told' a : ℕ) (m m' : Memory) (e : PollEntry) → es ≡ e ∷ later → a ≡ entry_answer k e
    → stored m (at + 6) (spelling_of poll_answer abi.align64 (record { revents = a })) ≡ (Ok tt, m') → told' ≡ told + counted a → answering abi at es k told m ≡ answering abi (at + 8) later k told' m'
unfolding stores_answers
one_answered abi at es later k told told' a m m' e is answer stored_so more =
    let sums = sum_by-cons counted (entry_answer k e) (map (entry_answer k) later) in
    let front : counted (entry_answer k e) ≡ counted a = ap counted (sym answer) in
    let whole : told + told_count (entry_answer k e ∷ map (entry_answer k) later) ≡ told' + told_count (map (entry_answer k) later) = omega (arith, sums, front, more) in
    rw is (rw (← answer, stored_so) (ap (λ (n : ℕ). (stores_answers abi (at + 8) (map (entry_answer k) later) >> gives_word n) m') (ap (λ (b : ℕ). told + told_count (b ∷ map (entry_answer k) later)) answer ∙ whole)))

one_refused : (abi : AbiRules) (at : ℕ) (es later : List PollEntry) (k : Kernel) (told a : ℕ) (m m' : Memory) (e : PollEntry) (x : Errno) → es ≡ e ∷ later → a ≡ entry_answer k e
    → stored m (at + 6) (spelling_of poll_answer abi.align64 (record { revents = a })) ≡ (Err x, m') → answering abi at es k told m ≡ (Err x, m')
unfolding stores_answers
one_refused abi at es later k told a m m' e x is answer refused = rw is (rw (← answer, refused) refl)

memory_of : (abi : AbiRules) (answer : PollAnswer) (m m' : Memory) (a : ℕ) → stored m a (spelling_of poll_answer abi.align64 answer) ≡ (Ok tt, m') → m' ≡ memory_after m a (spelling_of poll_answer abi.align64 answer)
unfolding stored
memory_of abi answer m m' a is = sym (ap (λ (p : Result ⊤ Errno × Memory). p.1) is)

-- the same entries are left after the answer to one before them
left_after : (abi : AbiRules) (answer : PollAnswer) (m m' : Memory) (at place count s : ℕ) → s ≡ (at + 8 * place) + 6 → stored m s (spelling_of poll_answer abi.align64 answer) ≡ (Ok tt, m')
    → from_place abi m' at (place + 1) count ≡ from_place abi m at (place + 1) count
left_after abi answer m m' at place count s where_at is =
    ap (λ (p : Memory). from_place abi p at (place + 1) count) (memory_of abi answer m m' s is)
    ∙ entries_kept abi answer m s (at + 8 * (place + 1)) (count - (place + 1)) (omega arith)

-- the entries that are left answered
abbrev pub answering_left : AbiRules → ℕ → ℕ → ℕ → Kernel → ℕ → Memory → Result ℕ Errno × Memory
answering_left abi at place count k told m = answering abi (at + 8 * place) (entries_of (from_place abi m at place count)) k told m

pub read_next : (abi : AbiRules) (at place count start s : ℕ) (answer : PollAnswer) (m m' : Memory) (e : PollEntry) → place < count → start ≡ at + 8 * place → Ok e ≡ shape_at poll_entry abi m start
    → s ≡ start + 6 → stored m s (spelling_of poll_answer abi.align64 answer) ≡ (Ok tt, m') → checked (from_place abi m at place count) ≡ Ok tt → checked (from_place abi m' at (place + 1) count) ≡ Ok tt
read_next abi at place count start s answer m m' e h here is where_at stored_so whole =
    ap checked (left_after abi answer m m' at place count s (omega arith) stored_so) ∙ sym (next_read abi m at place count start e h here is) ∙ whole

pub answered_next : (abi : AbiRules) (at place count start s : ℕ) (k : Kernel) (told told' a : ℕ) (m m' : Memory) (e : PollEntry) → place < count → start ≡ at + 8 * place → Ok e ≡ shape_at poll_entry abi m start
    → a ≡ entry_answer k e → s ≡ start + 6 → stored m s (spelling_of poll_answer abi.align64 (record { revents = a })) ≡ (Ok tt, m') → told' ≡ told + counted a
    → checked (from_place abi m at place count) ≡ Ok tt → (all : Result ℕ Errno × Memory) → answering_left abi at place count k told m ≡ all → answering_left abi at (place + 1) count k told' m' ≡ all
answered_next abi at place count start s k told told' a m m' e h here is answer where_at stored_so more whole all so_far =
    let list = next_in_list abi m at place count start e h here is whole in
    let next : (at + 8 * place) + 8 ≡ at + 8 * (place + 1) = omega arith in
    let to : s ≡ (at + 8 * place) + 6 = omega arith in
    sym (one_answered abi (at + 8 * place) _ _ k told told' a m m' e list answer (subst (λ (i : ℕ). stored m i (spelling_of poll_answer abi.align64 (record { revents = a })) ≡ (Ok tt, m')) to stored_so) more
    ∙ ap (λ (i : ℕ). answering abi i (entries_of (from_place abi m at (place + 1) count)) k told' m') next
    ∙ ap (λ (r : Result (List PollEntry) Errno). answering abi (at + 8 * (place + 1)) (entries_of r) k told' m') (sym (left_after abi (record { revents = a }) m m' at place count s to stored_so)))
    ∙ so_far

pub refused_next : (abi : AbiRules) (at place count start s : ℕ) (k : Kernel) (told a : ℕ) (m m' : Memory) (e : PollEntry) (x : Errno) → place < count → start ≡ at + 8 * place → Ok e ≡ shape_at poll_entry abi m start
    → a ≡ entry_answer k e → s ≡ start + 6 → stored m s (spelling_of poll_answer abi.align64 (record { revents = a })) ≡ (Err x, m')
    → checked (from_place abi m at place count) ≡ Ok tt → (all : Result ℕ Errno × Memory) → answering_left abi at place count k told m ≡ all → all ≡ (Err x, m')
refused_next abi at place count start s k told a m m' e x h here is answer where_at refused whole all so_far =
    let to : s ≡ (at + 8 * place) + 6 = omega arith in
    sym so_far
    ∙ one_refused abi (at + 8 * place) _ _ k told a m m' e x (next_in_list abi m at place count start e h here is whole) answer (subst (λ (i : ℕ). stored m i (spelling_of poll_answer abi.align64 (record { revents = a })) ≡ (Err x, m')) to refused)

pub answered_none : (abi : AbiRules) (at place count : ℕ) (k : Kernel) (told : ℕ) (m : Memory) → count ≤ place → answering_left abi at place count k told m ≡ (Ok told, m)
unfolding stores_answers
answered_none abi at place count k told m h =
    let none : told + 0 ≡ told = omega arith in
    rw (no_more abi m at place count h) (ap (λ (n : ℕ). (Ok n, m)) none)
