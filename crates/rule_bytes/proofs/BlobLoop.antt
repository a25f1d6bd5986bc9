-- The rules of a blob, put one after another.
use Rattle.std.proofs.Common.{◌≡◌, ℕ, suc, ◌+◌, ◌-◌, ◌/◌, ◌<◌, ◌≤◌, List, [], ◌∷◌, ◌++◌, length, take, drop, get_or, Some, Result, Ok, Err, refl, sym, ap, ◌∙◌, subst, arith, append-nil, append_assoc, inl, inr}
use borrow.Rule.Slice.PartMut.{put_mid}
use Rattle.std.proofs.lemmas.Bool.{cases_order}
use Rattle.std.proofs.lemmas.List.{take_all, take_rest}
use Rattle.kernel_values.specs.declared.rules.BlobCause.{BlobCause}
use Rattle.kernel_values.specs.declared.rules.BlobCause.TheVariants as cause
use Rattle.kernel_values.specs.declared.rules.BlobFault.{BlobFault}
use Rattle.rule_bytes.specs.declared.layout.BlobLayout.{BlobLayout}
use Rattle.rule_bytes.specs.declared.layout.BlobLayout.TheVariants.{Native}
use Rattle.rule_bytes.specs.declared.outlines.RuleOutline.{RuleOutline}
use Rattle.kernel_values.specs.declared.rules.RuleTarget.{RuleTarget}
use Rattle.kernel_values.specs.declared.rules.RuleTarget.TheVariants as target_of
use Rattle.rule_bytes.specs.Faults.{◌>>=◌, found_or, told_of}
use Rattle.rule_bytes.specs.Jumps.{jumps_of, native_rules, rules_put}
use Rattle.rule_bytes.specs.Maps.{IsMapped, IsRisingMap, all_sizes, native_in, native_rule, place_in}
use Rattle.rule_bytes.specs.Outlines.{outline_of}
use Rattle.rule_bytes.specs.Rules.{Rule, rule_size, rule_spelling, rules_spelling}
use Rattle.rule_bytes.specs.Spelling.{put}
use Rattle.rule_bytes.specs.Reading.{rule_at, rules_in, rules_past, told_at}
use Rattle.rule_bytes.specs.Tables.{index_of, jump_in, moved, places, target_found, targets_found, with_jump, with_target}
use Rattle.rule_bytes.proofs.Entries.{front_of_mid, rules_end}
use Rattle.rule_bytes.proofs.JumpLoop.{next_rule}
use Rattle.rule_bytes.proofs.Loops.{told_from}
use Rattle.rule_bytes.proofs.MapPlaces.{MapTells, map_tells}
use Rattle.rule_bytes.proofs.PlacesFound.{index_found, length_places, told_ok}
use Rattle.rule_bytes.proofs.Puts.{put_both}
use Rattle.rule_bytes.proofs.Results.{bind_ok, found_ok, ok_is}

-- a place is that of one entry alone
pub one_entry : (map : List ℕ) (i k p : ℕ) → IsRisingMap map → i < length map / 8 → k < length map / 8 → place_in map i ≡ p → place_in map k ≡ p
    → native_in map k ≡ native_in map i
one_entry map i k p rise inside within e f = elim (cases_order k i) [
  | inl same ↦ ap (λ (n : ℕ). native_in map n) same
  | inr other ↦ elim other [
    | inl low ↦ absurd (omega (arith, rise k i low inside, e, f))
    | inr high ↦ absurd (omega (arith, rise i k high within, e, f))
  ]
]

rules_push : (rs : List Rule) (r : Rule) → rules_put (rs ++ r ∷ []) ≡ rules_put rs ++ put (rule_spelling Native r)
rules_push [] r = ap (λ s. put s) (append-nil (rule_spelling Native r))
rules_push (x ∷ rs) r =
    put_both (rule_spelling Native x) (rules_spelling Native (rs ++ r ∷ []))
    ∙ ap (λ (bs : List ℕ). put (rule_spelling Native x) ++ bs) (rules_push rs r)
    ∙ sym (append_assoc (put (rule_spelling Native x)) (rules_put rs) (put (rule_spelling Native r)))
    ∙ ap (λ (bs : List ℕ). bs ++ put (rule_spelling Native r)) (sym (put_both (rule_spelling Native x) (rules_spelling Native rs)))

-- a jump to a place, and to the native place of its index
same_jump : (ps ns : List ℕ) (to : ℕ) (t u : RuleTarget) → target_found ps t ≡ Ok u
    → ((p k : ℕ) → jump_in t ≡ Some p → index_of p ps ≡ Some k → to ≡ get_or ns k 0)
    → with_jump (λ n. to) t ≡ with_jump (λ i. get_or ns i 0) u
same_jump ps ns to target_of.Drop u h j = ap (λ (x : RuleTarget). with_jump (λ i. get_or ns i 0) x) (ok_is target_of.Drop u h)
same_jump ps ns to target_of.Accept u h j = ap (λ (x : RuleTarget). with_jump (λ i. get_or ns i 0) x) (ok_is target_of.Accept u h)
same_jump ps ns to target_of.Queue u h j = ap (λ (x : RuleTarget). with_jump (λ i. get_or ns i 0) x) (ok_is target_of.Queue u h)
same_jump ps ns to target_of.Return u h j = ap (λ (x : RuleTarget). with_jump (λ i. get_or ns i 0) x) (ok_is target_of.Return u h)
same_jump ps ns to (target_of.Error bytes) u h j = ap (λ (x : RuleTarget). with_jump (λ i. get_or ns i 0) x) (ok_is (target_of.Error bytes) u h)
same_jump ps ns to (target_of.Mark mark mask) u h j = ap (λ (x : RuleTarget). with_jump (λ i. get_or ns i 0) x) (ok_is (target_of.Mark mark mask) u h)
same_jump ps ns to (target_of.Jump p) u h j =
    let b = bind_ok (found_or cause.Jump (index_of p ps)) (λ i. Ok (target_of.Jump i)) u h in
    let k = found_ok cause.Jump (index_of p ps) b.0 b.1 in
    ap (λ (n : ℕ). target_of.Jump n) (j p b.0 refl k) ∙ ap (λ (x : RuleTarget). with_jump (λ i. get_or ns i 0) x) (ok_is (target_of.Jump b.0) u b.2)

-- what a loop knows
pub record PutSoFar (l : BlobLayout) (bs rest map out : List ℕ) (at : ℕ) : Type 0 where
  pub rules : List Rule
  pub read : rules_in l bs ≡ Ok rules
  pub tells : MapTells l rules map
  pub index : ℕ
  pub left : List Rule
  pub behind : rules_past l index 0 rest ≡ Ok left
  pub targets : List Rule
  pub found : targets_found (places l 0 rules) index left ≡ Ok targets
  pub done : List Rule
  pub whole : native_rules l (rules_in l bs) ≡ Ok (done ++ moved (places Native 0 rules) targets)
  pub room : at + all_sizes Native left ≡ length out
  pub front : take at out ≡ rules_put done

sofar_by : (l : BlobLayout) (bs map out : List ℕ) (r : Result (List Rule) BlobFault) → rules_in l bs ≡ r → IsMapped l r map → jumps_of l r ≡ Ok tt
    → told_of (all_sizes Native) r ≡ Ok (length out) → PutSoFar l bs bs map out 0
sofar_by l bs map out (Err e) read h jumps size = absurd h
sofar_by l bs map out (Ok rs) read h jumps size =
    let t = told_from (λ (ts : List Rule). tt {0}) (targets_found (places l 0 rs) 0 rs) tt jumps in
    let n = ok_is (all_sizes Native rs) (length out) size in
    record {
      rules = rs;
      read = read;
      tells = subst (λ (m : List ℕ). MapTells l rs m) (sym h.0) (map_tells l rs h.1 h.2);
      index = 0;
      left = rs;
      behind = read;
      targets = t.0;
      found = t.1;
      done = [];
      whole = ap (λ (r : Result (List Rule) BlobFault). native_rules l r) read ∙ ap (λ (r : Result (List Rule) BlobFault). told_of (λ ts. moved (places Native 0 rs) ts) r) t.1;
      room = omega (arith, n);
      front = refl;
    }

pub begins_rules : (l : BlobLayout) (bs map out : List ℕ) → IsMapped l (rules_in l bs) map → jumps_of l (rules_in l bs) ≡ Ok tt
    → told_of (all_sizes Native) (rules_in l bs) ≡ Ok (length out) → PutSoFar l bs bs map out 0
begins_rules l bs map out h jumps size = sofar_by l bs map out (rules_in l bs) refl h jumps size

-- the next rule, its target with an index, and those behind it
record NextTarget (ps : List ℕ) (index : ℕ) (r : Rule) (others targets : List Rule) : Type 0 where
  target : RuleTarget
  behind : List Rule
  first : target_found ps r.target ≡ Ok target
  rest : targets_found ps (index + 1) others ≡ Ok behind
  both : targets ≡ with_target r target ∷ behind

next_target : (ps : List ℕ) (index : ℕ) (r : Rule) (others targets : List Rule) → targets_found ps index (r ∷ others) ≡ Ok targets
    → NextTarget ps index r others targets
unfolding targets_found
next_target ps index r others targets h =
    let a = bind_ok (told_at index (target_found ps r.target)) (λ t. targets_found ps (suc index) others >>= λ xs. Ok (with_target r t ∷ xs)) targets h in
    let b = bind_ok (targets_found ps (suc index) others) (λ xs. Ok (with_target r a.0 ∷ xs)) targets a.2 in
    record {
      target = a.0;
      behind = b.0;
      first = told_ok index _ a.0 a.1;
      rest = ap (λ (k : ℕ). targets_found ps k others) (let e : index + 1 ≡ suc index = omega arith in e) ∙ b.1;
      both = sym (ok_is (with_target r a.0 ∷ b.0) targets b.2);
    }

-- the native bytes that the next rule takes
pub rule_room : (l : BlobLayout) (bs rest map out : List ℕ) (at : ℕ) (o : RuleOutline) → PutSoFar l bs rest map out at → 0 < length rest
    → told_of (outline_of l) (rule_at l rest) ≡ Ok o → at + o.native_size ≤ length out
rule_room l bs rest map out at o h some told =
    let n = next_rule l rest h.index h.left o some h.behind told in
    let t = told_from (outline_of l) (rule_at l rest) o told in
    let sizes : all_sizes Native h.left ≡ rule_size Native n.rule + all_sizes Native n.others = ap (λ (rs : List Rule). all_sizes Native rs) n.both in
    omega (arith, h.room, sizes, n.native)

pub puts_rule : (l : BlobLayout) (bs rest map out bytes : List ℕ) (at to : ℕ) (o : RuleOutline) → PutSoFar l bs rest map out at → 0 < length rest
    → told_of (outline_of l) (rule_at l rest) ≡ Ok o
    → ((p i : ℕ) → o.jump ≡ Some p → i < length map / 8 → place_in map i ≡ p → to ≡ native_in map i)
    → told_of (native_rule to) (rule_at l rest) ≡ Ok bytes → length bytes ≡ o.native_size
    → length (put_mid at ((at + o.native_size) - at) out bytes) ≡ length out
    → PutSoFar l bs (take (length rest - o.size) (drop o.size rest)) map (put_mid at ((at + o.native_size) - at) out bytes) (at + o.native_size)
unfolding native_rule
puts_rule l bs rest map out bytes at to o h some told jumps put_it len same_length =
    let n = next_rule l rest h.index h.left o some h.behind told in
    let ps : List ℕ = places l 0 h.rules in
    let ns : List ℕ = places Native 0 h.rules in
    let t = next_target ps h.index n.rule n.others h.targets (ap (λ (rs : List Rule). targets_found ps h.index rs) (sym n.both) ∙ h.found) in
    let sizes : all_sizes Native h.left ≡ rule_size Native n.rule + all_sizes Native n.others = ap (λ (rs : List Rule). all_sizes Native rs) n.both in
    let low : at ≤ length out = omega (arith, h.room) in
    let moved_to : with_jump (λ k. to) n.rule.target ≡ with_jump (λ i. get_or ns i 0) t.target =
    same_jump ps ns to n.rule.target t.target t.first (λ p k jump index.
    let f = index_found p ps k index in
    let inside : k < length h.rules = omega (arith, f.0, length_places l 0 h.rules) in
    jumps p k (sym n.jump ∙ jump) (omega (arith, inside, h.tells.count)) (h.tells.placed k inside ∙ f.1) ∙ h.tells.native k inside) in
    let native : Rule = with_target n.rule (with_jump (λ i. get_or ns i 0) t.target) in
    let is_put : bytes ≡ put (rule_spelling Native native) =
    sym (ok_is _ bytes (sym (ap (λ (r : Result Rule BlobCause). told_of (native_rule to) r) n.read) ∙ put_it))
    ∙ ap (λ (x : RuleTarget). put (rule_spelling Native (with_target n.rule x))) moved_to in
    record {
      rules = h.rules;
      read = h.read;
      tells = h.tells;
      index = h.index + 1;
      left = n.others;
      behind = ap (λ (ys : List ℕ). rules_past l (h.index + 1) 0 ys) (take_rest rest o.size ∙ ap (λ (k : ℕ). drop k rest) (sym n.size)) ∙ n.behind;
      targets = t.behind;
      found = t.rest;
      done = h.done ++ native ∷ [];
      whole = h.whole ∙ ap (λ (xs : List Rule). Ok (h.done ++ moved ns xs)) t.both ∙ ap (λ (xs : List Rule). Ok xs) (sym (append_assoc h.done (native ∷ []) (moved ns t.behind)));
      room = omega (arith, h.room, sizes, n.native, same_length);
      front = front_of_mid at ((at + o.native_size) - at) o.native_size out bytes bytes [] low len (sym (append-nil bytes))
          ∙ ap (λ (ys : List ℕ). ys ++ bytes) h.front ∙ ap (λ (ys : List ℕ). rules_put h.done ++ ys) is_put ∙ sym (rules_push h.done native);
    }

pub all_rules_put : (l : BlobLayout) (bs rest map out : List ℕ) (at : ℕ) → PutSoFar l bs rest map out at → length rest ≡ 0
    → told_of rules_put (native_rules l (rules_in l bs)) ≡ Ok out
unfolding targets_found
all_rules_put l bs rest map out at h none =
    let left : h.left ≡ [] = sym (ok_is [] h.left (sym (rules_end l h.index rest none) ∙ h.behind)) in
    let targets : h.targets ≡ [] =
    sym (ok_is [] h.targets (ap (λ (rs : List Rule). targets_found (places l 0 h.rules) h.index rs) (sym left) ∙ h.found)) in
    let sizes : all_sizes Native h.left ≡ 0 = ap (λ (rs : List Rule). all_sizes Native rs) left in
    let whole : take at out ≡ out = take_all at out (omega (arith, h.room, sizes)) in
    ap (λ (r : Result (List Rule) BlobFault). told_of rules_put r)
    (h.whole ∙ ap (λ (xs : List Rule). Ok (h.done ++ moved (places Native 0 h.rules) xs)) targets ∙ ap (λ (xs : List Rule). Ok xs) (append-nil h.done))
    ∙ ap (λ (ys : List ℕ). Ok ys) (sym h.front ∙ whole)
