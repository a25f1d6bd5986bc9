-- Targets: what was read is spelled, and what was spelled is read.
use Rattle.std.proofs.Common.{◌≡◌, ◌⊎◌, ℕ, ◌+◌, ◌-◌, ◌^◌, ◌<◌, ◌≤◌, ◌&&◌, not, Bool, true, false, cond, List, [], ◌∷◌, ◌++◌, length, take, drop, Some, Result, Ok, refl, sym, ap, ◌∙◌, subst, arith, ltb, eqb, eqb-true, eq-eqb, ne_eqb, lt-ltb, ltb-true, length-append, length-drop, inl, inr}
use Rattle.std.proofs.lemmas.Bool.{and_from, and_parts, cond-false, cond-true, not-false}
use Rattle.std.proofs.lemmas.List.{length-take-le}
use Rattle.kernel_values.specs.declared.rules.BlobCause.{BlobCause}
use Rattle.kernel_values.specs.declared.rules.BlobCause.TheVariants.{TargetShape, TargetUnknown}
use Rattle.rule_bytes.specs.declared.layout.BlobLayout.{BlobLayout}
use Rattle.rule_bytes.specs.declared.parts.TargetKind.{TargetKind}
use Rattle.rule_bytes.specs.declared.parts.TargetKind.TheVariants as targeting
use Rattle.kernel_values.specs.declared.rules.RuleTarget.{RuleTarget}
use Rattle.kernel_values.specs.declared.rules.RuleTarget.TheVariants as target_of
use Rattle.rule_bytes.specs.Faults.{◌>>=◌}
use Rattle.rule_bytes.specs.Spelling.{Begins, Spelling}
use Rattle.rule_bytes.specs.Parts.{part, size_of, target_data, target_front, target_kind, target_kinds, target_size, target_spelling, verdict_data}
use Rattle.rule_bytes.specs.Rules.{IsBytes, TargetFits}
use Rattle.rule_bytes.specs.Reading.{is_ended, is_named, kind_at, kind_named, number_in, target_at, target_in, verdict_of}
use Rattle.rule_bytes.proofs.Results.{bind_at, bind_ok, ok_is, passed, refused_ok}
use Rattle.rule_bytes.proofs.Spellings.{last_free, length_free, length_given, length_number, peel_given, peel_number, push_given, push_number}
use Rattle.rule_bytes.proofs.Fronts.{IsGood, good, kind_again, kind_found, length_part, part_again, part_found}
use Rattle.rule_bytes.proofs.Matches.{number_fits}

pub target_good : (k : TargetKind) (l : BlobLayout) → IsGood 36 l (target_front k)
target_good targeting.Verdict l = good 36 l _ refl
target_good targeting.Error l = good 36 l _ refl
target_good targeting.Mark l = good 36 l _ refl

ended_again : (k : TargetKind) (rest : List ℕ) → is_ended (take 29 (((target_front k).name ++ 0 ∷ []) ++ rest)) ≡ true
ended_again targeting.Verdict rest = refl
ended_again targeting.Error rest = refl
ended_again targeting.Mark rest = refl

named_again : (k : TargetKind) (rest : List ℕ)
    → kind_named target_front target_kinds (((target_front k).name ++ 0 ∷ []) ++ rest) (target_front k).revision ≡ Some k
named_again targeting.Verdict rest = refl
named_again targeting.Error rest = refl
named_again targeting.Mark rest = refl

-- which way a test went
chosen : {A : Type 0} (b : Bool) (x y z : A) → cond b x y ≡ z → ((b ≡ true) × (x ≡ z)) ⊎ ((b ≡ false) × (y ≡ z))
chosen true x y z h = inl (refl, h)
chosen false x y z h = inr (refl, h)

-- what a verdict's word tells
pub record VerdictFound (l : BlobLayout) (word : ℕ) (t : RuleTarget) : Type 0 where
  pub spelled : target_data l t ≡ verdict_data l word
  pub fits : TargetFits t
  pub kind : target_kind t ≡ targeting.Verdict

told : (l : BlobLayout) (word value : ℕ) (u t : RuleTarget) → VerdictFound l value u → eqb word value ≡ true
    → ◌≡◌ {A = Result RuleTarget BlobCause} (Ok u) (Ok t) → VerdictFound l word t
told l word value u t f same e =
    subst (λ (x : RuleTarget). VerdictFound l word x) (ok_is u t e)
    (subst (λ (n : ℕ). VerdictFound l n u) (sym (eqb-true word value same)) f)

verdict_found : (l : BlobLayout) (word : ℕ) (t : RuleTarget) → verdict_of word ≡ Ok t → VerdictFound l word t
verdict_found l word t h = elim (chosen (eqb word (2 ^ 32 - 1)) _ _ _ h) [
  | inl a ↦ told l word (2 ^ 32 - 1) target_of.Drop t (record { spelled = refl; fits = tt; kind = refl }) a.0 a.1
  | inr a ↦ elim (chosen (eqb word (2 ^ 32 - 2)) _ _ _ a.1) [
    | inl b ↦ told l word (2 ^ 32 - 2) target_of.Accept t (record { spelled = refl; fits = tt; kind = refl }) b.0 b.1
    | inr b ↦ elim (chosen (eqb word (2 ^ 32 - 4)) _ _ _ b.1) [
      | inl c ↦ told l word (2 ^ 32 - 4) target_of.Queue t (record { spelled = refl; fits = tt; kind = refl }) c.0 c.1
      | inr c ↦ elim (chosen (eqb word (2 ^ 32 - 5)) _ _ _ c.1) [
        | inl d ↦ told l word (2 ^ 32 - 5) target_of.Return t (record { spelled = refl; fits = tt; kind = refl }) d.0 d.1
        | inr d ↦ elim (chosen (ltb 0 word && ltb word (2 ^ 31)) _ _ _ d.1) [
          | inl e ↦
              let p = and_parts (ltb 0 word) (ltb word (2 ^ 31)) e.0 in
              subst (λ (x : RuleTarget). VerdictFound l word x) (ok_is (target_of.Jump word) t e.1)
              (record { spelled = refl; fits = (ltb-true _ _ p.0, ltb-true _ _ p.1); kind = refl })
          | inr e ↦ absurd (let f = e.1 in cc)
        ]
      ]
    ]
  ]
]

jump_again : (to : ℕ) → 0 < to → to < 2 ^ 31 → verdict_of to ≡ Ok (target_of.Jump to)
jump_again to low high =
    cond-false _ _ _ (ne_eqb to (2 ^ 32 - 1) (λ e. absurd (omega (arith, e, high))))
    ∙ cond-false _ _ _ (ne_eqb to (2 ^ 32 - 2) (λ e. absurd (omega (arith, e, high))))
    ∙ cond-false _ _ _ (ne_eqb to (2 ^ 32 - 4) (λ e. absurd (omega (arith, e, high))))
    ∙ cond-false _ _ _ (ne_eqb to (2 ^ 32 - 5) (λ e. absurd (omega (arith, e, high))))
    ∙ cond-true _ _ _ (and_from _ _ (lt-ltb 0 to low) (lt-ltb to (2 ^ 31) high))

-- the data of a target of a kind, as it was read
pub record TargetData (l : BlobLayout) (k : TargetKind) (bs : List ℕ) (t : RuleTarget) : Type 0 where
  pub spelled : Begins (drop 32 bs) (target_data l t)
  pub fits : TargetFits t
  pub kind : target_kind t ≡ k

verdict_data_found : (l : BlobLayout) (bs : List ℕ) (t : RuleTarget) → IsBytes bs → size_of l (target_front targeting.Verdict) ≤ length bs
    → verdict_of (number_in 4 32 bs) ≡ Ok t → TargetData l targeting.Verdict bs t
verdict_data_found l bs t fits long h =
    let least : 36 ≤ size_of l (target_front targeting.Verdict) = (target_good targeting.Verdict l).least in
    let few : 36 + (size_of l (target_front targeting.Verdict) - 36) ≤ length bs = omega (arith, least, long) in
    let v = verdict_found l (number_in 4 32 bs) t h in
    record {
      spelled = subst (λ (s : Spelling). Begins (drop 32 bs) s) (sym v.spelled)
          (push_number 32 4 (number_in 4 32 bs) bs _ fits (omega (arith, least, long)) refl (last_free 36 _ bs few));
      fits = v.fits;
      kind = v.kind;
    }

error_data_found : (l : BlobLayout) (bs : List ℕ) → size_of l (target_front targeting.Error) ≤ length bs
    → TargetData l targeting.Error bs (target_of.Error (take 30 (drop 32 bs)))
error_data_found l bs long =
    let g : IsGood 62 l (target_front targeting.Error) = good 62 l _ refl in
    let least : 62 ≤ size_of l (target_front targeting.Error) = g.least in
    let few : 62 + (size_of l (target_front targeting.Error) - 62) ≤ length bs = omega (arith, least, long) in
    record {
      spelled = push_given 32 30 (take 30 (drop 32 bs)) bs _ (omega (arith, least, long)) refl (last_free 62 _ bs few);
      fits = length-take-le 30 (drop 32 bs) (omega (arith, length-drop 32 bs, least, long));
      kind = refl;
    }

mark_data_found : (l : BlobLayout) (bs : List ℕ) → IsBytes bs → size_of l (target_front targeting.Mark) ≤ length bs
    → TargetData l targeting.Mark bs (target_of.Mark (number_in 4 32 bs) (number_in 4 36 bs))
mark_data_found l bs fits long =
    let g : IsGood 40 l (target_front targeting.Mark) = good 40 l _ refl in
    let least : 40 ≤ size_of l (target_front targeting.Mark) = g.least in
    let few : 40 + (size_of l (target_front targeting.Mark) - 40) ≤ length bs = omega (arith, least, long) in
    record {
      spelled = push_number 32 4 _ bs _ fits (omega (arith, least, long)) refl
          (push_number 36 4 _ bs _ fits (omega (arith, least, long)) refl (last_free 40 _ bs few));
      fits = (number_fits 4 32 bs fits, number_fits 4 36 bs fits);
      kind = refl;
    }

target_data_found : (l : BlobLayout) (k : TargetKind) (bs : List ℕ) (t : RuleTarget) → IsBytes bs → size_of l (target_front k) ≤ length bs
    → target_in k bs ≡ Ok t → TargetData l k bs t
unfolding target_in
target_data_found l targeting.Verdict bs t fits long h = verdict_data_found l bs t fits long h
target_data_found l targeting.Error bs t fits long h =
    subst (λ (x : RuleTarget). TargetData l targeting.Error bs x) (ok_is _ t h) (error_data_found l bs long)
target_data_found l targeting.Mark bs t fits long h =
    subst (λ (x : RuleTarget). TargetData l targeting.Mark bs x) (ok_is _ t h) (mark_data_found l bs fits long)

verdict_data_again : (l : BlobLayout) (word : ℕ) (bs : List ℕ) (t : RuleTarget) → word < 256 ^ 4 → verdict_of word ≡ Ok t
    → Begins (drop 32 bs) (verdict_data l word) → verdict_of (number_in 4 32 bs) ≡ Ok t
verdict_data_again l word bs t fits e h =
    ap (λ (w : ℕ). verdict_of w) (peel_number 32 4 word bs _ fits h).0 ∙ e

same_mark : {x1 y1 x2 y2 : ℕ} → x1 ≡ y1 → x2 ≡ y2 → target_of.Mark x1 x2 ≡ target_of.Mark y1 y2
same_mark e1 e2 = cc

target_data_again : (l : BlobLayout) (t : RuleTarget) (bs : List ℕ) → TargetFits t → Begins (drop 32 bs) (target_data l t)
    → target_in (target_kind t) bs ≡ Ok t
unfolding target_in
target_data_again l target_of.Drop bs fits h = verdict_data_again l (2 ^ 32 - 1) bs target_of.Drop (omega arith) refl h
target_data_again l target_of.Accept bs fits h = verdict_data_again l (2 ^ 32 - 2) bs target_of.Accept (omega arith) refl h
target_data_again l target_of.Queue bs fits h = verdict_data_again l (2 ^ 32 - 4) bs target_of.Queue (omega arith) refl h
target_data_again l target_of.Return bs fits h = verdict_data_again l (2 ^ 32 - 5) bs target_of.Return (omega arith) refl h
target_data_again l (target_of.Jump to) bs fits h =
    verdict_data_again l to bs (target_of.Jump to) (omega (arith, fits.1)) (jump_again to fits.0 fits.1) h
target_data_again l (target_of.Error bytes) bs fits h =
    ap (λ (ys : List ℕ). Ok (target_of.Error ys)) (peel_given 32 30 bytes bs _ fits h).0
target_data_again l (target_of.Mark mark mask) bs fits h =
    let a = peel_number 32 4 mark bs _ fits.0 h in
    let b = peel_number 36 4 mask bs _ fits.1 a.1 in
    ap (λ (x : RuleTarget). Ok x) (same_mark a.0 b.0)

length_verdict : (l : BlobLayout) (word : ℕ) → 32 + length (verdict_data l word) ≡ size_of l (target_front targeting.Verdict)
length_verdict l word =
    let least : 36 ≤ size_of l (target_front targeting.Verdict) = (target_good targeting.Verdict l).least in
    simp (length-append, length_number, length_free) (omega (arith, least))

length_target_data : (l : BlobLayout) (t : RuleTarget) → TargetFits t → 32 + length (target_data l t) ≡ target_size l t
length_target_data l target_of.Drop fits = length_verdict l (2 ^ 32 - 1)
length_target_data l target_of.Accept fits = length_verdict l (2 ^ 32 - 2)
length_target_data l target_of.Queue fits = length_verdict l (2 ^ 32 - 4)
length_target_data l target_of.Return fits = length_verdict l (2 ^ 32 - 5)
length_target_data l (target_of.Jump to) fits = length_verdict l to
length_target_data l (target_of.Error bytes) fits =
    let g : IsGood 62 l (target_front targeting.Error) = good 62 l _ refl in
    let least : 62 ≤ size_of l (target_front targeting.Error) = g.least in
    simp (length-append, length_given, length_free) (omega (arith, least, fits))
length_target_data l (target_of.Mark mark mask) fits =
    let g : IsGood 40 l (target_front targeting.Mark) = good 40 l _ refl in
    let least : 40 ≤ size_of l (target_front targeting.Mark) = g.least in
    simp (length-append, length_number, length_free) (omega (arith, least))

pub length_target : (l : BlobLayout) (t : RuleTarget) → TargetFits t → length (target_spelling l t) ≡ target_size l t
unfolding target_spelling
length_target l t fits =
    length_part l (target_front (target_kind t)) (target_data l t) (target_good (target_kind t) l).name ∙ length_target_data l t fits

pub target_least : (l : BlobLayout) (t : RuleTarget) → 36 ≤ target_size l t
target_least l t = (target_good (target_kind t) l).least

-- what a target that was read tells
pub record TargetFound (l : BlobLayout) (bs : List ℕ) (t : RuleTarget) : Type 0 where
  pub spelled : Begins bs (target_spelling l t)
  pub fits : TargetFits t
  pub size : target_size l t ≡ length bs

target_found_by : (l : BlobLayout) (bs : List ℕ) (k : TargetKind) (t : RuleTarget) → IsBytes bs → 32 ≤ length bs → number_in 2 0 bs ≡ length bs
    → is_named (target_front k) (drop 2 bs) (number_in 1 31 bs) ≡ true → number_in 2 0 bs ≡ size_of l (target_front k)
    → target_in k bs ≡ Ok t → TargetFound l bs t
unfolding target_spelling
target_found_by l bs k t fits long whole named size h =
    let fill : size_of l (target_front k) ≡ length bs = sym size ∙ whole in
    let d = target_data_found l k bs t fits (omega (arith, fill)) h in
    let all : Begins bs (part l (target_front k) (target_data l t)) =
    part_found 36 l (target_front k) bs (target_data l t) (target_good k l) fits long named size d.spelled in
    record {
      spelled = subst (λ (j : TargetKind). Begins bs (part l (target_front j) (target_data l t))) (sym d.kind) all;
      fits = d.fits;
      size = subst (λ (j : TargetKind). size_of l (target_front j) ≡ length bs) (sym d.kind) fill;
    }

pub target_found : (l : BlobLayout) (bs : List ℕ) (t : RuleTarget) → IsBytes bs → 32 ≤ length bs → target_at l bs ≡ Ok t → TargetFound l bs t
unfolding target_at
target_found l bs t fits long h =
    let kinds : Result TargetKind BlobCause = kind_at l target_front target_kinds TargetShape TargetUnknown bs in
    let rest : TargetKind → Result RuleTarget BlobCause = λ k. target_in k bs in
    let a = refused_ok (not (eqb (number_in 2 0 bs) (length bs))) TargetShape (kinds >>= rest) t h in
    let b = bind_ok kinds rest t a.1 in
    let f = kind_found l target_front target_kinds TargetShape TargetUnknown bs b.0 b.1 in
    target_found_by l bs b.0 t fits long (eqb-true _ _ (not-false _ a.0)) f.0 f.1 b.2

pub target_again : (l : BlobLayout) (bs : List ℕ) (t : RuleTarget) → TargetFits t → Begins bs (target_spelling l t)
    → target_size l t ≡ length bs → target_at l bs ≡ Ok t
unfolding target_at target_spelling
target_again l bs t fits h len =
    let k : TargetKind = target_kind t in
    let f = part_again 36 l (target_front k) bs (target_data l t) (target_good k l) h in
    let kinds : Result TargetKind BlobCause = kind_at l target_front target_kinds TargetShape TargetUnknown bs in
    let rest : TargetKind → Result RuleTarget BlobCause = λ j. target_in j bs in
    let kind : kinds ≡ Ok k = kind_again l target_front target_kinds TargetShape TargetUnknown bs k (target_data l t) f (ended_again k) (named_again k) in
    passed (not (eqb (number_in 2 0 bs) (length bs))) TargetShape (kinds >>= rest) (ap not (eq-eqb _ _ (f.size ∙ len)))
    ∙ bind_at kinds rest k kind
    ∙ target_data_again l t bs fits f.behind
