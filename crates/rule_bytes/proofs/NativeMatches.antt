-- Native matches as a loop puts them.
use Rattle.std.proofs.Common.{◌≡◌, ℕ, ◌+◌, ◌-◌, ◌<◌, ◌≤◌, List, [], ◌∷◌, ◌++◌, length, take, drop, Result, Ok, refl, sym, ap, ◌∙◌, arith, append-nil, append_assoc}
use borrow.Rule.Slice.PartMut.{put_mid}
use Rattle.std.specs.List.{flat_map}
use Rattle.std.proofs.lemmas.List.{take_all, take_rest}
use Rattle.kernel_values.specs.declared.rules.BlobCause.{BlobCause}
use Rattle.rule_bytes.specs.declared.layout.BlobLayout.{BlobLayout}
use Rattle.rule_bytes.specs.declared.layout.BlobLayout.TheVariants.{Native}
use Rattle.kernel_values.specs.declared.rules.RuleMatch.{RuleMatch}
use Rattle.rule_bytes.specs.Faults.{told_of}
use Rattle.rule_bytes.specs.Maps.{native_matches}
use Rattle.rule_bytes.specs.Parts.{match_size, match_spelling}
use Rattle.rule_bytes.specs.Rules.{matches_size}
use Rattle.rule_bytes.specs.Spelling.{put}
use Rattle.rule_bytes.specs.Reading.{match_at, matches_past}
use Rattle.rule_bytes.proofs.Entries.{front_of_mid}
use Rattle.rule_bytes.proofs.Loops.{NextMatch, matches_next, told_from}
use Rattle.rule_bytes.proofs.Puts.{put_both}
use Rattle.rule_bytes.proofs.Results.{ok_is}

sizes_push : (ms : List RuleMatch) (m : RuleMatch) → matches_size Native (ms ++ m ∷ []) ≡ matches_size Native ms + match_size Native m
sizes_push [] m = omega arith
sizes_push (x ∷ ms) m = omega (arith, sizes_push ms m)

native_push : (ms : List RuleMatch) (m : RuleMatch) → native_matches (ms ++ m ∷ []) ≡ native_matches ms ++ put (match_spelling Native m)
native_push [] m = ap (λ s. put s) (append-nil (match_spelling Native m))
native_push (x ∷ ms) m =
    put_both (match_spelling Native x) (flat_map (match_spelling Native) (ms ++ m ∷ []))
    ∙ ap (λ (bs : List ℕ). put (match_spelling Native x) ++ bs) (native_push ms m)
    ∙ sym (append_assoc (put (match_spelling Native x)) (native_matches ms) (put (match_spelling Native m)))
    ∙ ap (λ (bs : List ℕ). bs ++ put (match_spelling Native m)) (sym (put_both (match_spelling Native x) (flat_map (match_spelling Native) ms)))

-- the matches that a loop has put, and those that are left
pub record HasPut (l : BlobLayout) (ip area rest out : List ℕ) (at : ℕ) : Type 0 where
  pub done : List RuleMatch
  pub left : List RuleMatch
  pub read : matches_past l ip 0 area ≡ Ok (done ++ left)
  pub behind : matches_past l ip 0 rest ≡ Ok left
  pub there : matches_size Native done ≡ at
  pub room : at + matches_size Native left ≡ length out
  pub front : take at out ≡ native_matches done

pub begins_put : (l : BlobLayout) (ip area out : List ℕ) → told_of (matches_size Native) (matches_past l ip 0 area) ≡ Ok (length out) → HasPut l ip area area out 0
begins_put l ip area out size =
    let t = told_from (matches_size Native) (matches_past l ip 0 area) (length out) size in
    record { done = []; left = t.0; read = t.1; behind = t.1; there = refl; room = omega (arith, t.2); front = refl }

pub next_put : (l : BlobLayout) (ip area rest out : List ℕ) (at : ℕ) (h : HasPut l ip area rest out at) → 0 < length rest → NextMatch l ip rest h.left
next_put l ip area rest out at h some = matches_next l ip rest h.left some h.behind

-- where the next one ends there is room
pub next_room : (l : BlobLayout) (ip area rest out : List ℕ) (at : ℕ) (m : RuleMatch) → HasPut l ip area rest out at → 0 < length rest
    → match_at l ip rest ≡ Ok m → at + match_size Native m ≤ length out
next_room l ip area rest out at m h some read =
    let n = next_put l ip area rest out at h some in
    let same : n.first ≡ m = ok_is n.first m (sym n.read ∙ read) in
    let sizes : matches_size Native h.left ≡ match_size Native n.first + matches_size Native n.others = ap (λ (ms : List RuleMatch). matches_size Native ms) n.both in
    omega (arith, h.room, sizes, ap (λ (x : RuleMatch). match_size Native x) same)

pub puts_on : (l : BlobLayout) (ip area rest out bs : List ℕ) (at size here : ℕ) (m : RuleMatch) → HasPut l ip area rest out at → 0 < length rest
    → match_at l ip rest ≡ Ok m → size ≡ match_size Native m → here ≡ match_size l m → bs ≡ put (match_spelling Native m) → length bs ≡ size
    → length (put_mid at ((at + size) - at) out bs) ≡ length out
    → HasPut l ip area (take (length rest - here) (drop here rest)) (put_mid at ((at + size) - at) out bs) (at + size)
puts_on l ip area rest out bs at size here m h some read is_size is_here is_put len same_length =
    let n = next_put l ip area rest out at h some in
    let same : n.first ≡ m = ok_is n.first m (sym n.read ∙ read) in
    let both : h.left ≡ m ∷ n.others = n.both ∙ ap (λ (x : RuleMatch). x ∷ n.others) same in
    let sizes : matches_size Native h.left ≡ match_size Native m + matches_size Native n.others = ap (λ (ms : List RuleMatch). matches_size Native ms) both in
    let low : at ≤ length out = omega (arith, h.room) in
    record {
      done = h.done ++ m ∷ [];
      left = n.others;
      read = h.read ∙ ap (λ (ms : List RuleMatch). Ok (h.done ++ ms)) both ∙ ap (λ (ms : List RuleMatch). Ok ms) (sym (append_assoc h.done (m ∷ []) n.others));
      behind = ap (λ (ys : List ℕ). matches_past l ip 0 ys) (take_rest rest here)
          ∙ ap (λ (k : ℕ). matches_past l ip 0 (drop k rest)) (is_here ∙ ap (λ (x : RuleMatch). match_size l x) (sym same)) ∙ n.behind;
      there = sizes_push h.done m ∙ ap (λ (k : ℕ). k + match_size Native m) h.there ∙ ap (λ (k : ℕ). at + k) (sym is_size);
      room = omega (arith, h.room, sizes, is_size, same_length);
      front = front_of_mid at ((at + size) - at) size out bs bs [] low len (sym (append-nil bs))
          ∙ ap (λ (ys : List ℕ). ys ++ bs) h.front ∙ ap (λ (ys : List ℕ). native_matches h.done ++ ys) is_put ∙ sym (native_push h.done m);
    }

none_left : (l : BlobLayout) (ip rest : List ℕ) (left : List RuleMatch) → length rest ≡ 0 → matches_past l ip 0 rest ≡ Ok left → left ≡ []
unfolding matches_past
none_left l ip [] left e read = sym (ok_is [] left read)
none_left l ip (b ∷ rest) left e read = absurd (omega (arith, e))

pub all_put : (l : BlobLayout) (ip area rest out : List ℕ) (at : ℕ) → HasPut l ip area rest out at → length rest ≡ 0
    → told_of native_matches (matches_past l ip 0 area) ≡ Ok out
all_put l ip area rest out at h none =
    let e : h.left ≡ [] = none_left l ip rest h.left none h.behind in
    let sizes : matches_size Native h.left ≡ 0 = ap (λ (ms : List RuleMatch). matches_size Native ms) e in
    let whole : take at out ≡ out = take_all at out (omega (arith, h.room, sizes)) in
    ap (λ (r : Result (List RuleMatch) BlobCause). told_of native_matches r) (h.read ∙ ap (λ (ms : List RuleMatch). Ok (h.done ++ ms)) e ∙ ap (λ (ms : List RuleMatch). Ok ms) (append-nil h.done))
    ∙ ap (λ (bs : List ℕ). Ok bs) (sym h.front ∙ whole)
