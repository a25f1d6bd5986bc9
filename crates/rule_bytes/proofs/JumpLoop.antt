-- The jumps of rules one after another, as a loop looks them up.
use Rattle.std.proofs.Common.{◌≡◌, ℕ, suc, ◌+◌, ◌-◌, ◌/◌, ◌<◌, ◌≤◌, List, [], ◌∷◌, length, take, drop, get_or, Option, Some, None, Result, Ok, Err, refl, sym, ap, ◌∙◌, subst, arith, length-drop}
use Rattle.std.proofs.lemmas.List.{take_rest}
use Rattle.std.proofs.lemmas.Option.{none-some, same_Some}
use Rattle.kernel_values.specs.declared.rules.BlobCause.{BlobCause}
use Rattle.kernel_values.specs.declared.rules.BlobCause.TheVariants as cause
use Rattle.kernel_values.specs.declared.rules.BlobFault.{BlobFault}
use Rattle.rule_bytes.specs.declared.layout.BlobLayout.{BlobLayout}
use Rattle.rule_bytes.specs.declared.layout.BlobLayout.TheVariants.{Native}
use Rattle.rule_bytes.specs.declared.outlines.RuleOutline.{RuleOutline}
use Rattle.kernel_values.specs.declared.rules.RuleTarget.{RuleTarget}
use Rattle.kernel_values.specs.declared.rules.RuleTarget.TheVariants as target_of
use Rattle.rule_bytes.specs.Faults.{◌>>=◌, found_or, told_of}
use Rattle.rule_bytes.specs.Jumps.{jumps_of}
use Rattle.rule_bytes.specs.Maps.{IsMapped, place_in}
use Rattle.rule_bytes.specs.Outlines.{outline_of}
use Rattle.rule_bytes.specs.Rules.{Rule, rule_size}
use Rattle.rule_bytes.specs.Reading.{rule_at, rules_in, rules_past, told_at}
use Rattle.rule_bytes.specs.Tables.{index_of, jump_in, places, target_found, targets_found, with_target}
use Rattle.rule_bytes.proofs.Entries.{rules_end, rules_fault, rules_step}
use Rattle.rule_bytes.proofs.Loops.{told_from}
use Rattle.rule_bytes.proofs.MapPlaces.{MapTells, map_tells}
use Rattle.rule_bytes.proofs.PlacesFound.{index_again, index_found, length_places, places_rise}
use Rattle.rule_bytes.proofs.Results.{bind_ok, ok_is}

-- a target without a jump, one whose place was found, and one whose place was not
without_jump : (ps : List ℕ) (t : RuleTarget) → jump_in t ≡ None → target_found ps t ≡ Ok t
without_jump ps target_of.Drop e = refl
without_jump ps target_of.Accept e = refl
without_jump ps target_of.Queue e = refl
without_jump ps target_of.Return e = refl
without_jump ps (target_of.Jump to) e = absurd (none-some to (sym e))
without_jump ps (target_of.Error bytes) e = refl
without_jump ps (target_of.Mark mark mask) e = refl

with_place : (ps : List ℕ) (t : RuleTarget) (p : ℕ) (o : Option ℕ) → jump_in t ≡ Some p → index_of p ps ≡ o
    → target_found ps t ≡ (found_or cause.Jump o >>= λ i. Ok (target_of.Jump i))
with_place ps target_of.Drop p o e h = absurd (none-some p e)
with_place ps target_of.Accept p o e h = absurd (none-some p e)
with_place ps target_of.Queue p o e h = absurd (none-some p e)
with_place ps target_of.Return p o e h = absurd (none-some p e)
with_place ps (target_of.Jump to) p o e h =
    ap (λ (x : Option ℕ). found_or cause.Jump x >>= λ i. Ok (target_of.Jump i)) (ap (λ (n : ℕ). index_of n ps) (same_Some to p e) ∙ h)
with_place ps (target_of.Error bytes) p o e h = absurd (none-some p e)
with_place ps (target_of.Mark mark mask) p o e h = absurd (none-some p e)

none_of : (o : Option ℕ) → ((i : ℕ) → o ≡ Some i → ⊥) → o ≡ None
none_of None h = refl
none_of (Some i) h = absurd (h i refl)

-- what a loop knows
pub record Looked (l : BlobLayout) (bs rest map : List ℕ) (index : ℕ) : Type 0 where
  pub rules : List Rule
  pub read : rules_in l bs ≡ Ok rules
  pub tells : MapTells l rules map
  pub left : List Rule
  pub behind : rules_past l index 0 rest ≡ Ok left
  pub so_far : told_of (λ ts. tt) (targets_found (places l 0 rules) index left) ≡ jumps_of l (rules_in l bs)
  pub few : index + length rest ≤ length bs

looked_by : (l : BlobLayout) (bs map : List ℕ) (r : Result (List Rule) BlobFault) → rules_in l bs ≡ r → IsMapped l r map → Looked l bs bs map 0
looked_by l bs map (Err e) read h = absurd h
looked_by l bs map (Ok rs) read h = record {
  rules = rs;
  read = read;
  tells = subst (λ (m : List ℕ). MapTells l rs m) (sym h.0) (map_tells l rs h.1 h.2);
  left = rs;
  behind = read;
  so_far = sym (ap (λ (r : Result (List Rule) BlobFault). jumps_of l r) read);
  few = omega arith;
}

pub begins_looked : (l : BlobLayout) (bs map : List ℕ) → IsMapped l (rules_in l bs) map → Looked l bs bs map 0
begins_looked l bs map h = looked_by l bs map (rules_in l bs) refl h

-- the next rule
pub record NextRule (l : BlobLayout) (rest : List ℕ) (index : ℕ) (left : List Rule) (o : RuleOutline) : Type 0 where
  pub rule : Rule
  pub others : List Rule
  pub both : left ≡ rule ∷ others
  pub behind : rules_past l (index + 1) 0 (drop (rule_size l rule) rest) ≡ Ok others
  pub size : rule_size l rule ≡ o.size
  pub jump : jump_in rule.target ≡ o.jump
  pub read : rule_at l rest ≡ Ok rule
  pub native : rule_size Native rule ≡ o.native_size

pub next_rule : (l : BlobLayout) (rest : List ℕ) (index : ℕ) (left : List Rule) (o : RuleOutline) → 0 < length rest
    → rules_past l index 0 rest ≡ Ok left → told_of (outline_of l) (rule_at l rest) ≡ Ok o → NextRule l rest index left o
next_rule l rest index left o some read told =
    let t = told_from (outline_of l) (rule_at l rest) o told in
    let b = bind_ok (rules_past l (index + 1) 0 (drop (rule_size l t.0) rest)) (λ rs. Ok (t.0 ∷ rs)) left (sym (rules_step l index rest t.0 some t.1) ∙ read) in
    record {
      rule = t.0;
      others = b.0;
      both = sym (ok_is (t.0 ∷ b.0) left b.2);
      behind = b.1;
      size = ap (λ (x : RuleOutline). x.size) t.2;
      jump = ap (λ (x : RuleOutline). x.jump) t.2;
      read = t.1;
      native = ap (λ (x : RuleOutline). x.native_size) t.2;
    }

-- a rule without fault stands where others do
pub no_fault : (l : BlobLayout) (rest : List ℕ) (index : ℕ) (left : List Rule) (e : BlobCause) → 0 < length rest
    → rules_past l index 0 rest ≡ Ok left → told_of (outline_of l) (rule_at l rest) ≡ Err e → ⊥
no_fault l rest index left e some read told = by_rule (rule_at l rest) refl told
  where
    by_rule : (r : Result Rule BlobCause) → rule_at l rest ≡ r → told_of (outline_of l) r ≡ Err e → ⊥
    by_rule (Ok r) is h = cc
    by_rule (Err d) is h = let f = sym (rules_fault l index rest d some is) ∙ read in cc

told_more : (i : ℕ) (r : Rule) (t : RuleTarget) (first : Result RuleTarget BlobCause) (others : Result (List Rule) BlobFault) → first ≡ Ok t
    → told_of (λ (ts : List Rule). tt {0}) (told_at i first >>= λ x. others >>= λ xs. Ok (with_target r x ∷ xs)) ≡ told_of (λ (ts : List Rule). tt {0}) others
told_more i r t first (Ok ts) e = ap (λ (x : Result RuleTarget BlobCause). told_of (λ (ts' : List Rule). tt {0}) (told_at i x >>= λ y. Ok ts >>= λ xs. Ok (with_target r y ∷ xs))) e
told_more i r t first (Err d) e = ap (λ (x : Result RuleTarget BlobCause). told_of (λ (ts' : List Rule). tt {0}) (told_at i x >>= λ y. Err d >>= λ xs. Ok (with_target r y ∷ xs))) e

found_target : (ps : List ℕ) (t : RuleTarget) (j : Option ℕ) → jump_in t ≡ j → ((p : ℕ) → j ≡ Some p → (i : ℕ) × (index_of p ps ≡ Some i))
    → (u : RuleTarget) × (target_found ps t ≡ Ok u)
found_target ps t None e places_of = (t, without_jump ps t e)
found_target ps t (Some p) e places_of =
    let i = places_of p refl in
    (target_of.Jump i.0, with_place ps t p (Some i.0) e i.1)

-- a place in the map has its index among the places
in_map : (l : BlobLayout) (rs : List Rule) (map : List ℕ) (p : ℕ) → MapTells l rs map
    → ((i : ℕ) × (i < length map / 8) × (place_in map i ≡ p)) → (i : ℕ) × (index_of p (places l 0 rs) ≡ Some i)
in_map l rs map p m h =
    let inside : h.0 < length rs = omega (arith, h.1, m.count) in
    let here : get_or (places l 0 rs) h.0 0 ≡ p = sym (m.placed h.0 inside) ∙ h.2 in
    (h.0, ap (λ (n : ℕ). index_of n (places l 0 rs)) (sym here) ∙ index_again 0 (places l 0 rs) h.0 (places_rise l 0 rs) (omega (arith, inside, length_places l 0 rs)))

not_in_map : (l : BlobLayout) (rs : List Rule) (map : List ℕ) (p : ℕ) → MapTells l rs map
    → ((i : ℕ) → i < length map / 8 → place_in map i ≡ p → ⊥) → index_of p (places l 0 rs) ≡ None
not_in_map l rs map p m h = none_of (index_of p (places l 0 rs)) (λ i e.
    let f = index_found p (places l 0 rs) i e in
    let inside : i < length rs = omega (arith, f.0, length_places l 0 rs) in
    h i (omega (arith, inside, m.count)) (m.placed i inside ∙ f.1))

pub looks_on : (l : BlobLayout) (bs rest map : List ℕ) (index : ℕ) (o : RuleOutline) → Looked l bs rest map index → 0 < length rest
    → told_of (outline_of l) (rule_at l rest) ≡ Ok o → o.size ≤ length rest → 148 ≤ o.size
    → ((p : ℕ) → o.jump ≡ Some p → (i : ℕ) × (i < length map / 8) × (place_in map i ≡ p))
    → Looked l bs (take (length rest - o.size) (drop o.size rest)) map (index + 1)
unfolding targets_found
looks_on l bs rest map index o h some told within least found =
    let n = next_rule l rest index h.left o some h.behind told in
    let ps : List ℕ = places l 0 h.rules in
    let u = found_target ps n.rule.target o.jump n.jump (λ p e. in_map l h.rules map p h.tells (found p e)) in
    let len : length (take (length rest - o.size) (drop o.size rest)) ≡ length rest - o.size =
    ap (λ (ys : List ℕ). length ys) (take_rest rest o.size) ∙ length-drop o.size rest in
    record {
      rules = h.rules;
      read = h.read;
      tells = h.tells;
      left = n.others;
      behind = ap (λ (ys : List ℕ). rules_past l (index + 1) 0 ys) (take_rest rest o.size ∙ ap (λ (k : ℕ). drop k rest) (sym n.size)) ∙ n.behind;
      so_far = ap (λ (k : ℕ). told_of (λ (ts : List Rule). tt {0}) (targets_found ps k n.others)) (let e : index + 1 ≡ suc index = omega arith in e)
          ∙ sym (told_more index n.rule u.0 (target_found ps n.rule.target) (targets_found ps (suc index) n.others) u.1)
          ∙ ap (λ (rs : List Rule). told_of (λ (ts : List Rule). tt {0}) (targets_found ps index rs)) (sym n.both) ∙ h.so_far;
      few = omega (arith, h.few, len, least, within);
    }

pub jump_fault : (l : BlobLayout) (bs rest map : List ℕ) (index : ℕ) (o : RuleOutline) → Looked l bs rest map index → 0 < length rest
    → told_of (outline_of l) (rule_at l rest) ≡ Ok o
    → ((p : ℕ) × (o.jump ≡ Some p) × ((i : ℕ) → i < length map / 8 → place_in map i ≡ p → ⊥))
    → Err (record { rule = index; cause = cause.Jump }) ≡ jumps_of l (rules_in l bs)
unfolding targets_found
jump_fault l bs rest map index o h some told missing =
    let n = next_rule l rest index h.left o some h.behind told in
    let ps : List ℕ = places l 0 h.rules in
    let none : index_of missing.0 ps ≡ None = not_in_map l h.rules map missing.0 h.tells missing.2 in
    let refused : target_found ps n.rule.target ≡ Err cause.Jump = with_place ps n.rule.target missing.0 None (n.jump ∙ missing.1) none in
    sym (ap (λ (x : Result RuleTarget BlobCause). told_of (λ (ts : List Rule). tt {0}) (told_at index x >>= λ t. targets_found ps (suc index) n.others >>= λ xs. Ok (with_target n.rule t ∷ xs))) refused)
    ∙ ap (λ (rs : List Rule). told_of (λ (ts : List Rule). tt {0}) (targets_found ps index rs)) (sym n.both) ∙ h.so_far

pub all_looked : (l : BlobLayout) (bs rest map : List ℕ) (index : ℕ) → Looked l bs rest map index → length rest ≡ 0
    → Ok tt ≡ jumps_of l (rules_in l bs)
unfolding targets_found
all_looked l bs rest map index h none =
    let left : h.left ≡ [] = sym (ok_is [] h.left (sym (rules_end l index rest none) ∙ h.behind)) in
    ap (λ (rs : List Rule). told_of (λ (ts : List Rule). tt {0}) (targets_found (places l 0 h.rules) index rs)) (sym left) ∙ h.so_far
