-- How the messages that are told are put, one behind the other.
use Rattle.std.proofs.Common.{◌≡◌, ℕ, ◌+◌, ◌-◌, ◌*◌, ◌≤◌, List, [], ◌∷◌, ◌++◌, length, take, drop, refl, sym, ap, ◌∙◌, arith, append_assoc, length-append}
use Rattle.std.proofs.lemmas.List.{drop-drop, drop_at, length-take, take_at}
use Rattle.control_repack.specs.Outgoing.{rights_bytes, rights_message, told_count, words}
use Rattle.control_repack.proofs.Telling.{words_length}

message_length : (right : ℕ) (rights : List ℕ) → length (rights_message (right ∷ rights)) ≡ 12 + 4 * length (right ∷ rights)
message_length right rights =
    let count = words_length ((12 + 4 * length (right ∷ rights)) ∷ 1 ∷ 1 ∷ right ∷ rights) in
    omega (arith, count)

-- a header that was put, and then the descriptors
pub rights_put : (rights out header put : List ℕ) (size : ℕ) → (length rights ≡ 0 → ⊥) → header ≡ words ((12 + 4 * length rights) ∷ 1 ∷ 1 ∷ []) → put ≡ words rights
    → size ≡ 4 * length rights
    → take 12 (header ++ drop 12 out) ++ (put ++ drop size (drop 12 (header ++ drop 12 out))) ≡ rights_message rights ++ drop (length (rights_message rights)) out
rights_put [] out header put size some told all count = absurd (some refl)
rights_put (right ∷ rights) out header put size some told all count =
    let first = words ((12 + 4 * length (right ∷ rights)) ∷ 1 ∷ 1 ∷ []) in
    let whole : length header ≡ 12 = rw told refl in
    let front : take 12 (header ++ drop 12 out) ≡ first = take_at header (drop 12 out) 12 whole ∙ told in
    let far : 12 + size ≡ length (rights_message (right ∷ rights)) = omega (arith, count, message_length right rights) in
    let behind : drop size (drop 12 (header ++ drop 12 out)) ≡ drop (length (rights_message (right ∷ rights))) out =
    ap (drop size) (drop_at header (drop 12 out) 12 whole) ∙ drop-drop size 12 out ∙ ap (λ (k : ℕ). drop k out) far in
    rw (front, behind, all) (sym (append_assoc first (words (right ∷ rights)) _))

-- both messages stand in front of what is put
pub both_put : (before first second rest new rest_of_new behind : List ℕ) (a b : ℕ) → before ≡ first ++ rest → new ≡ second ++ rest_of_new → a ≡ length first → b ≡ length second
    → take (a + b) (take a before ++ (new ++ behind)) ≡ first ++ second
both_put before first second rest new rest_of_new behind a b is put all more =
    let front : take a before ≡ first = ap (take a) is ∙ take_at first rest a (sym all) in
    let sum : length (first ++ second) ≡ a + b = simp length-append (omega (arith, all, more)) in
    let line : take a before ++ (new ++ behind) ≡ (first ++ second) ++ (rest_of_new ++ behind) =
    rw (front, put) (ap (λ (xs : List ℕ). first ++ xs) (append_assoc second rest_of_new behind) ∙ sym (append_assoc first second (rest_of_new ++ behind))) in
    ap (take (a + b)) line ∙ take_at (first ++ second) (rest_of_new ++ behind) (a + b) sum

message_within : (rights : List ℕ) (room : ℕ) → 4 * length rights ≤ room - 12 → length (rights_message rights) ≤ room
message_within [] room few = omega arith
message_within (right ∷ rights) room few = omega (arith, few, message_length right rights)

-- descriptors are told within the room
pub rights_within : (rights : List ℕ) (room : ℕ) → length (rights_bytes rights room) ≤ room
rights_within rights room =
    message_within (take (told_count (length rights) room) rights) room (simp length-take (omega arith))
