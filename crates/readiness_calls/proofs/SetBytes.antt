-- What is told of the bytes of a set, one after another, and how many bits they have.
use Rattle.std.proofs.Common.{◌≡◌, ℕ, ◌+◌, ◌*◌, ◌<◌, ◌≤◌, List, [], ◌∷◌, ◌++◌, length, take, drop, set, get_or, refl, sym, ap, ◌∙◌, arith, append_assoc, add-one, drop-cons}
use Rattle.std.specs.Prelude.{Result, Ok, Err, min, ◌/◌, ◌%◌}
use Rattle.std.specs.Int.RustNames.{count_ones}
use Rattle.std.proofs.lemmas.List.{append-nil, drop_all, drop-set-lt, take_all, take_more_set}
use Rattle.std.proofs.lemmas.Nat.{ones-le}
use Rattle.kernel_values.specs.Outcome.{◌>>=◌}
use Rattle.kernel_values.specs.declared.errno.Errno.{Errno}
use Rattle.native_kernel.specs.declared.state.Kernel.{Kernel}
use Rattle.readiness_calls.specs.SelectSets.{byte_told, bytes_told}
use Rattle.readiness_calls.specs.declared.sets.Condition.{Condition}

-- the bytes that were told before, and those told now
abbrev pub told_after : List ℕ → Result (List ℕ) Errno → Result (List ℕ) Errno
told_after done (Ok bytes) = Ok (done ++ bytes)
told_after done (Err e) = Err e

-- the bytes before a place, which are told, and what is told of those from it on
abbrev pub told_from : Kernel → Condition → ℕ → ℕ → List ℕ → Result (List ℕ) Errno
told_from k condition n place bytes = told_after (take place bytes) (bytes_told k condition n (8 * place) (drop place bytes))

-- one byte more
abbrev with_first : ℕ → Result (List ℕ) Errno → Result (List ℕ) Errno
with_first b (Ok bytes) = Ok (b ∷ bytes)
with_first b (Err e) = Err e

moved : (done : List ℕ) (b : ℕ) (rest : Result (List ℕ) Errno) → told_after done (with_first b rest) ≡ told_after (done ++ (b ∷ [])) rest
moved done b (Ok bytes) = ap (λ (bs : List ℕ). Ok bs) (sym (append_assoc done (b ∷ []) bytes))
moved done b (Err e) = refl

first_told : (k : Kernel) (condition : Condition) (n first byte b : ℕ) (bytes : List ℕ) → byte_told k condition n first byte ≡ Ok b
    → bytes_told k condition n first (byte ∷ bytes) ≡ with_first b (bytes_told k condition n (first + 8) bytes)
unfolding bytes_told
first_told k condition n first byte b bytes told = rw told (elim (bytes_told k condition n (first + 8) bytes) as (λ r. (r >>= λ bs. Ok (b ∷ bs)) ≡ with_first b r) [
  | Ok bs ↦ refl
  | Err e ↦ refl
])

first_refused : (k : Kernel) (condition : Condition) (n first byte : ℕ) (e : Errno) (bytes : List ℕ) → byte_told k condition n first byte ≡ Err e
    → bytes_told k condition n first (byte ∷ bytes) ≡ Err e
unfolding bytes_told
first_refused k condition n first byte e bytes refused = rw refused refl

none_told : (k : Kernel) (condition : Condition) (n first : ℕ) → bytes_told k condition n first [] ≡ Ok []
unfolding bytes_told
none_told k condition n first = refl

before_any : (rest : Result (List ℕ) Errno) → told_after [] rest ≡ rest
before_any (Ok bytes) = refl
before_any (Err e) = refl

pub told_start : (k : Kernel) (condition : Condition) (n : ℕ) (bytes : List ℕ) → told_from k condition n 0 bytes ≡ bytes_told k condition n 0 bytes
told_start k condition n bytes = before_any (bytes_told k condition n 0 bytes)

pub told_step : (k : Kernel) (condition : Condition) (n place b : ℕ) (bytes : List ℕ) (whole : Result (List ℕ) Errno) → place < length bytes
    → byte_told k condition n (8 * place) (get_or bytes place 0) ≡ Ok b → told_from k condition n place bytes ≡ whole
    → told_from k condition n (place + 1) (set bytes place b) ≡ whole
told_step k condition n place b bytes whole within told is =
    let rest = bytes_told k condition n (8 * place + 8) (drop (place + 1) bytes) in
    let here : drop place bytes ≡ get_or bytes place 0 ∷ drop (place + 1) bytes = rw (add-one, drop-cons bytes place 0) refl in
    let turn : told_from k condition n place bytes ≡ told_after (take place bytes) (with_first b rest) =
    ap (λ (bs : List ℕ). told_after (take place bytes) (bytes_told k condition n (8 * place) bs)) here
    ∙ ap (told_after (take place bytes)) (first_told k condition n (8 * place) (get_or bytes place 0) b (drop (place + 1) bytes) told) in
    let done : take (place + 1) (set bytes place b) ≡ take place bytes ++ (b ∷ []) = take_more_set bytes place b within in
    let left : drop (place + 1) (set bytes place b) ≡ drop (place + 1) bytes = drop-set-lt (place + 1) bytes place b (omega arith) in
    let next : 8 * (place + 1) ≡ 8 * place + 8 = omega arith in
    rw (done, left, next) (sym (moved (take place bytes) b rest) ∙ sym turn ∙ is)

pub told_refused : (k : Kernel) (condition : Condition) (n place : ℕ) (e : Errno) (bytes : List ℕ) (whole : Result (List ℕ) Errno) → place < length bytes
    → byte_told k condition n (8 * place) (get_or bytes place 0) ≡ Err e → told_from k condition n place bytes ≡ whole
    → whole ≡ Err e
told_refused k condition n place e bytes whole within refused is =
    let here : drop place bytes ≡ get_or bytes place 0 ∷ drop (place + 1) bytes = rw (add-one, drop-cons bytes place 0) refl in
    sym is
    ∙ ap (λ (bs : List ℕ). told_after (take place bytes) (bytes_told k condition n (8 * place) bs)) here
    ∙ ap (told_after (take place bytes)) (first_refused k condition n (8 * place) (get_or bytes place 0) e (drop (place + 1) bytes) refused)

pub told_end : (k : Kernel) (condition : Condition) (n place : ℕ) (bytes : List ℕ) (whole : Result (List ℕ) Errno) → length bytes ≤ place
    → told_from k condition n place bytes ≡ whole → whole ≡ Ok bytes
told_end k condition n place bytes whole past is =
    sym is
    ∙ ap (λ (bs : List ℕ). told_after (take place bytes) (bytes_told k condition n (8 * place) bs)) (drop_all place bytes past)
    ∙ ap (told_after (take place bytes)) (none_told k condition n (8 * place))
    ∙ ap (λ (bs : List ℕ). Ok bs) (append-nil (take place bytes) ∙ take_all place bytes past)

-- a byte has at most 8 bits
pub few_ones : (byte : ℕ) → byte < 256 → count_ones byte ≤ 8
few_ones byte small = ones-le 8 byte small

-- a set's bytes, one for 8 descriptors
pub same_size : (n : ℕ) → 4 * (n / 32 + min 1 (n % 32)) ≡ 4 * ((n + 31) / 32)
same_size n = omega arith
