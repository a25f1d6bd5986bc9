-- The map as a loop fills it.
use Rattle.std.proofs.Common.{◌≡◌, ℕ, zero, suc, pred, ◌+◌, ◌-◌, ◌*◌, ◌<◌, ◌≤◌, List, [], ◌∷◌, ◌++◌, length, take, drop, Result, Ok, Err, refl, sym, ap, ◌∙◌, arith, append_assoc, append-nil, length-append, length-drop}
use borrow.Rule.Slice.PartMut.{post_of, put_mid}
use Rattle.std.proofs.lemmas.List.{length-take-le, take_at, take_rest}
use Rattle.byteorder.specs.Endian.{little_bytes}
use Rattle.kernel_values.specs.declared.rules.BlobCause.{BlobCause}
use Rattle.kernel_values.specs.declared.rules.BlobFault.{BlobFault}
use Rattle.rule_bytes.specs.declared.layout.BlobLayout.{BlobLayout}
use Rattle.rule_bytes.specs.declared.layout.BlobLayout.TheVariants.{Native}
use Rattle.rule_bytes.specs.declared.outlines.BlobOutline.{BlobOutline}
use Rattle.rule_bytes.specs.declared.outlines.RuleOutline.{RuleOutline}
use Rattle.rule_bytes.specs.Faults.{◌>>=◌, told_of}
use Rattle.rule_bytes.specs.Outlines.{outline_of}
use Rattle.rule_bytes.specs.Rules.{Rule, rule_size}
use Rattle.rule_bytes.specs.Reading.{rule_at, rules_in, rules_past, told_at}
use Rattle.rule_bytes.specs.Tables.{places}
use Rattle.rule_bytes.specs.Maps.{all_sizes, blob_outline_of, map_of, pairs}
use Rattle.rule_bytes.proofs.Results.{bind_at}
use Rattle.rule_bytes.proofs.Matches.{past_one}
use Rattle.rule_bytes.proofs.OneRule.{rule_least}
use Rattle.rule_bytes.proofs.Loops.{told_fault, told_from}

-- what was put in the midst of bytes stands behind what is in front of it
pub front_of_mid : (k n size : ℕ) (xs ys e rest : List ℕ) → k ≤ length xs → length e ≡ size → ys ≡ e ++ rest
    → take (k + size) (put_mid k n xs ys) ≡ take k xs ++ e
front_of_mid k n size xs ys e rest low len h =
    let whole : put_mid k n xs ys ≡ (take k xs ++ e) ++ (rest ++ post_of k n xs) =
    ap (λ (zs : List ℕ). put_mid k n xs zs) h ∙ simp append_assoc in
    let long : length (take k xs ++ e) ≡ k + size = omega (arith, length-append (take k xs) e, length-take-le k xs low, len) in
    ap (λ (zs : List ℕ). take (k + size) zs) whole ∙ take_at (take k xs ++ e) (rest ++ post_of k n xs) (k + size) long

-- ---- places of rules, with one more at the end

pub sizes_push : (l : BlobLayout) (rs : List Rule) (r : Rule) → all_sizes l (rs ++ r ∷ []) ≡ all_sizes l rs + rule_size l r
sizes_push l [] r = omega arith
sizes_push l (x ∷ rs) r = omega (arith, sizes_push l rs r)

pub places_push : (l : BlobLayout) (at : ℕ) (rs : List Rule) (r : Rule) → places l at (rs ++ r ∷ []) ≡ places l at rs ++ (at + all_sizes l rs) ∷ []
places_push l at [] r = ap (λ (n : ℕ). n ∷ []) (let e : at ≡ at + 0 = omega arith in e)
places_push l at (x ∷ rs) r =
    ap (λ (ns : List ℕ). at ∷ ns)
    (places_push l (at + rule_size l x) rs r
    ∙ ap (λ (n : ℕ). places l (at + rule_size l x) rs ++ n ∷ []) (let e : (at + rule_size l x) + all_sizes l rs ≡ at + (rule_size l x + all_sizes l rs) = omega arith in e))

pairs_push : (ps ns : List ℕ) (p n : ℕ) → length ps ≡ length ns → pairs (ps ++ p ∷ []) (ns ++ n ∷ []) ≡ pairs ps ns ++ (little_bytes 4 p ++ little_bytes 4 n)
pairs_push [] [] p n e = ap (λ (bs : List ℕ). little_bytes 4 p ++ bs) (append-nil (little_bytes 4 n))
pairs_push [] (y ∷ ns) p n e = absurd (omega (arith, e))
pairs_push (x ∷ ps) [] p n e = absurd (omega (arith, e))
pairs_push (x ∷ ps) (y ∷ ns) p n e =
    ap (λ (bs : List ℕ). little_bytes 4 x ++ (little_bytes 4 y ++ bs)) (pairs_push ps ns p n (omega (arith, e)))
    ∙ sym (append_assoc (little_bytes 4 x) (little_bytes 4 y ++ pairs ps ns) (little_bytes 4 p ++ little_bytes 4 n)
    ∙ ap (λ (bs : List ℕ). little_bytes 4 x ++ bs) (append_assoc (little_bytes 4 y) (pairs ps ns) (little_bytes 4 p ++ little_bytes 4 n)))

length_from : (l : BlobLayout) (at : ℕ) (rs : List Rule) → length (places l at rs) ≡ length rs
length_from l at [] = refl
length_from l at (r ∷ rs) = ap (λ (n : ℕ). suc n) (length_from l (at + rule_size l r) rs)

pub map_push : (l : BlobLayout) (rs : List Rule) (r : Rule)
    → map_of l (rs ++ r ∷ []) ≡ map_of l rs ++ (little_bytes 4 (all_sizes l rs) ++ little_bytes 4 (all_sizes Native rs))
map_push l rs r =
    ap (λ (ps : List ℕ). pairs ps (places Native 0 (rs ++ r ∷ []))) (places_push l 0 rs r)
    ∙ ap (λ (ns : List ℕ). pairs (places l 0 rs ++ (0 + all_sizes l rs) ∷ []) ns) (places_push Native 0 rs r)
    ∙ pairs_push (places l 0 rs) (places Native 0 rs) (0 + all_sizes l rs) (0 + all_sizes Native rs) (length_from l 0 rs ∙ sym (length_from Native 0 rs))
    ∙ ap (λ (n : ℕ). map_of l rs ++ (little_bytes 4 n ++ little_bytes 4 (0 + all_sizes Native rs))) (let e : 0 + all_sizes l rs ≡ all_sizes l rs = omega arith in e)
    ∙ ap (λ (n : ℕ). map_of l rs ++ (little_bytes 4 (all_sizes l rs) ++ little_bytes 4 n)) (let e : 0 + all_sizes Native rs ≡ all_sizes Native rs = omega arith in e)

-- ---- rules one after another

rules_dropped : (l : BlobLayout) (i n : ℕ) (bs : List ℕ) → rules_past l i n bs ≡ rules_past l i 0 (drop n bs)
unfolding rules_past
rules_dropped l i zero bs = refl
rules_dropped l i (suc n) [] = refl
rules_dropped l i (suc n) (b ∷ bs) = rules_dropped l i n bs

pub rules_step : (l : BlobLayout) (i : ℕ) (bs : List ℕ) (r : Rule) → 0 < length bs → rule_at l bs ≡ Ok r
    → rules_past l i 0 bs ≡ (rules_past l (i + 1) 0 (drop (rule_size l r) bs) >>= λ rs. Ok (r ∷ rs))
unfolding rules_past
rules_step l i [] r some h = absurd (omega (arith, some))
rules_step l i (b ∷ bs) r some h =
    let least : 148 ≤ rule_size l r = rule_least l r in
    bind_at (told_at i (rule_at l (b ∷ bs))) (λ x. rules_past l (i + 1) (pred (rule_size l x)) bs >>= λ rs. Ok (x ∷ rs)) r
    (ap (λ (x : Result Rule BlobCause). told_at i x) h)
    ∙ ap (λ (x : Result (List Rule) BlobFault). x >>= λ rs. Ok (r ∷ rs))
    (rules_dropped l (i + 1) (pred (rule_size l r)) bs ∙ ap (λ (ys : List ℕ). rules_past l (i + 1) 0 ys) (past_one (rule_size l r) b bs (omega (arith, least))))

pub rules_fault : (l : BlobLayout) (i : ℕ) (bs : List ℕ) (e : BlobCause) → 0 < length bs → rule_at l bs ≡ Err e
    → rules_past l i 0 bs ≡ Err (record { rule = i; cause = e })
unfolding rules_past
rules_fault l i [] e some h = absurd (omega (arith, some))
rules_fault l i (b ∷ bs) e some h =
    ap (λ (r : Result Rule BlobCause). told_at i r >>= λ x. rules_past l (i + 1) (pred (rule_size l x)) bs >>= λ rs. Ok (x ∷ rs)) h

pub rules_end : (l : BlobLayout) (i : ℕ) (bs : List ℕ) → length bs ≡ 0 → rules_past l i 0 bs ≡ Ok []
unfolding rules_past
rules_end l i [] h = refl
rules_end l i (b ∷ bs) h = absurd (omega (arith, h))

-- rules in front of those that are left
abbrev pub with_front : List Rule → Result (List Rule) BlobFault → Result (List Rule) BlobFault
with_front done read = told_of (λ rs. done ++ rs) read

front_more : (done : List Rule) (r : Rule) (read : Result (List Rule) BlobFault)
    → with_front done (read >>= λ rs. Ok (r ∷ rs)) ≡ with_front (done ++ r ∷ []) read
front_more done r (Ok rs) = ap (λ (xs : List Rule). Ok xs) (sym (append_assoc done (r ∷ []) rs))
front_more done r (Err e) = refl

-- what a loop knows: the rules that it has passed, and what it has put of them
pub record Passed (l : BlobLayout) (bs rest map : List ℕ) (count place native : ℕ) : Type 0 where
  pub done : List Rule
  pub read : with_front done (rules_past l count 0 rest) ≡ rules_past l 0 0 bs
  pub counted : length done ≡ count
  pub placed : all_sizes l done ≡ place
  pub natively : all_sizes Native done ≡ native
  pub left : place + length rest ≡ length bs
  pub few : 148 * count ≤ place
  pub most : native ≤ 65535 * count
  pub mapped : 8 * count ≤ length map → take (8 * count) map ≡ map_of l done

pub begins_passed : (l : BlobLayout) (bs map : List ℕ) → Passed l bs bs map 0 0 0
begins_passed l bs map = record {
  done = [];
  read = front_none (rules_past l 0 0 bs);
  counted = refl;
  placed = refl;
  natively = refl;
  left = omega arith;
  few = omega arith;
  most = omega arith;
  mapped = λ h. refl;
}
  where
    front_none : (r : Result (List Rule) BlobFault) → with_front [] r ≡ r
    front_none (Ok rs) = refl
    front_none (Err e) = refl

pub passes_on : (l : BlobLayout) (bs rest map map' : List ℕ) (count place native : ℕ) (o : RuleOutline) → Passed l bs rest map count place native
    → 0 < length rest → told_of (outline_of l) (rule_at l rest) ≡ Ok o → o.size ≤ length rest → 148 ≤ o.size → o.native_size ≤ 65535
    → length map' ≡ length map
    → (8 * count + 8 ≤ length map → take (8 * count + 8) map' ≡ take (8 * count) map ++ (little_bytes 4 place ++ little_bytes 4 native))
    → Passed l bs (take (length rest - o.size) (drop o.size rest)) map' (count + 1) (place + o.size) (native + o.native_size)
passes_on l bs rest map map' count place native o p some told within least most len put =
    let t = told_from (outline_of l) (rule_at l rest) o told in
    let r : Rule = t.0 in
    let size : rule_size l r ≡ o.size = ap (λ (x : RuleOutline). x.size) t.2 in
    let native_size : rule_size Native r ≡ o.native_size = ap (λ (x : RuleOutline). x.native_size) t.2 in
    let here : take (length rest - o.size) (drop o.size rest) ≡ drop (rule_size l r) rest =
    take_rest rest o.size ∙ ap (λ (n : ℕ). drop n rest) (sym size) in
    let left_len : length (take (length rest - o.size) (drop o.size rest)) ≡ length rest - o.size =
    ap (λ (ys : List ℕ). length ys) (take_rest rest o.size) ∙ length-drop o.size rest in
    record {
      done = p.done ++ r ∷ [];
      read = ap (λ (ys : List ℕ). with_front (p.done ++ r ∷ []) (rules_past l (count + 1) 0 ys)) here
          ∙ sym (front_more p.done r (rules_past l (count + 1) 0 (drop (rule_size l r) rest)))
          ∙ ap (λ (x : Result (List Rule) BlobFault). with_front p.done x) (sym (rules_step l count rest r some t.1)) ∙ p.read;
      counted = length-append p.done (r ∷ []) ∙ ap (λ (n : ℕ). n + 1) p.counted;
      placed = sizes_push l p.done r ∙ ap (λ (n : ℕ). n + rule_size l r) p.placed ∙ ap (λ (n : ℕ). place + n) size;
      natively = sizes_push Native p.done r ∙ ap (λ (n : ℕ). n + rule_size Native r) p.natively ∙ ap (λ (n : ℕ). native + n) native_size;
      left = omega (arith, left_len, within, p.left);
      few = omega (arith, p.few, least);
      most = omega (arith, p.most, most);
      mapped = λ room.
          let room' : 8 * count + 8 ≤ length map = omega (arith, room, len) in
          let step : 8 * (count + 1) ≡ 8 * count + 8 = omega arith in
          let old : take (8 * count) map ≡ map_of l p.done = p.mapped (omega (arith, room')) in
          ap (λ (n : ℕ). take n map') step ∙ put room'
          ∙ ap (λ (bs' : List ℕ). bs' ++ (little_bytes 4 place ++ little_bytes 4 native)) old
          ∙ ap (λ (n : ℕ). map_of l p.done ++ (little_bytes 4 n ++ little_bytes 4 native)) (sym p.placed)
          ∙ ap (λ (n : ℕ). map_of l p.done ++ (little_bytes 4 (all_sizes l p.done) ++ little_bytes 4 n)) (sym p.natively)
          ∙ sym (map_push l p.done r);
    }

-- what is told of them at the end
abbrev counts : ℕ → ℕ → BlobOutline
counts n m = record { rules = n; native_size = m }

pub told_passed : (rs : List Rule) (count native : ℕ) → length rs ≡ count → all_sizes Native rs ≡ native
    → blob_outline_of rs ≡ record { rules = count; native_size = native }
told_passed rs count native h k = ap (λ (n : ℕ). counts n (all_sizes Native rs)) h ∙ ap (λ (m : ℕ). counts count m) k

pub passed_fault : (l : BlobLayout) (bs rest map : List ℕ) (count place native : ℕ) (e : BlobCause) → Passed l bs rest map count place native
    → 0 < length rest → told_of (outline_of l) (rule_at l rest) ≡ Err e
    → rules_in l bs ≡ Err (record { rule = count; cause = e })
passed_fault l bs rest map count place native e p some told =
    sym p.read ∙ ap (λ (x : Result (List Rule) BlobFault). with_front p.done x) (rules_fault l count rest e some (told_fault (outline_of l) (rule_at l rest) e told))

pub passed_all : (l : BlobLayout) (bs rest map : List ℕ) (count place native : ℕ) → (p : Passed l bs rest map count place native)
    → length rest ≡ 0 → rules_in l bs ≡ Ok p.done
passed_all l bs rest map count place native p none =
    sym p.read ∙ ap (λ (x : Result (List Rule) BlobFault). with_front p.done x) (rules_end l count rest none)
    ∙ ap (λ (xs : List Rule). Ok xs) (append-nil p.done)
