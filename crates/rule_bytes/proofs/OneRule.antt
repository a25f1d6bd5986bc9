-- One rule: what was read is spelled, and what was spelled is read.
use Rattle.std.proofs.Common.{◌≡◌, ℕ, zero, suc, ◌+◌, ◌-◌, ◌%◌, ◌≤◌, not, true, false, List, [], ◌∷◌, ◌++◌, length, take, drop, Result, Ok, refl, sym, ap, ◌∙◌, subst, arith, ltb, eqb, eq-eqb, ltb-false, le-ltb, length-append, length-drop}
use Rattle.std.specs.Prelude.{slice_range}
use Rattle.std.specs.List.{flat_map, AllByRecursion}
use Rattle.std.proofs.lemmas.Bool.{not-false, or_from, or_parts}
use Rattle.std.proofs.lemmas.List.{drop-drop, length-take-le}
use Rattle.kernel_values.specs.declared.rules.BlobCause.{BlobCause}
use Rattle.kernel_values.specs.declared.rules.BlobCause.TheVariants.{Short, Offsets, Flags}
use Rattle.rule_bytes.specs.declared.layout.BlobLayout.{BlobLayout}
use Rattle.rule_bytes.specs.declared.layout.BlobLayout.TheVariants.{Ia32, Arm, Native}
use Rattle.rule_bytes.specs.declared.parts.MatchKind.{MatchKind}
use Rattle.rule_bytes.specs.declared.parts.MatchKind.TheVariants as matching
use Rattle.rule_bytes.specs.declared.parts.TargetKind.{TargetKind}
use Rattle.rule_bytes.specs.declared.parts.TargetKind.TheVariants as targeting
use Rattle.kernel_values.specs.declared.rules.RuleMatch.{RuleMatch}
use Rattle.kernel_values.specs.declared.rules.RuleTarget.{RuleTarget}
use Rattle.rule_bytes.specs.Faults.{◌>>=◌, ◌>>◌, refused_if}
use Rattle.rule_bytes.specs.Spelling.{Begins}
use Rattle.rule_bytes.specs.Parts.{match_front, match_kind, match_spelling, size_of, target_front, target_kind, target_size, target_spelling}
use Rattle.rule_bytes.specs.Rules.{IsBytes, IsRule, Rule, has_known_flags, matches_size, next_offset, rule_size, rule_spelling, target_offset}
use Rattle.rule_bytes.specs.Reading.{alignment, are_bad_offsets, matches_at, matches_past, number_in, rule_at, rule_target, rule_with, short_enough, target_at}
use Rattle.rule_bytes.proofs.Results.{bind_at, bind_ok, ok_is, passed, refused_ok}
use Rattle.rule_bytes.proofs.Spellings.{begins_join, begins_length, begins_of_take, begins_split, begins_take, bytes_drop, length_free, length_given, length_number, peel_free, peel_given, peel_number, push_free, push_given, push_number}
use Rattle.rule_bytes.proofs.Matches.{MayStand, length_match, matches_again, matches_found, number_fits}
use Rattle.rule_bytes.proofs.Targets.{length_target, target_again, target_found, target_least}

pub bytes_take : (n : ℕ) (bs : List ℕ) → IsBytes bs → IsBytes (take n bs)
bytes_take zero bs fits i = omega arith
bytes_take (suc n) [] fits i = omega arith
bytes_take (suc n) (b ∷ bs) fits zero = fits 0
bytes_take (suc n) (b ∷ bs) fits (suc i) = bytes_take n bs (λ k. fits (suc k)) i

pub length_matches : (l : BlobLayout) (ip : List ℕ) (ms : List RuleMatch) → AllByRecursion (λ m. MayStand ip m) ms
    → length (flat_map (match_spelling l) ms) ≡ matches_size l ms
length_matches l ip [] each = refl
length_matches l ip (m ∷ ms) each =
    length-append (match_spelling l m) (flat_map (match_spelling l) ms)
    ∙ omega (arith, length_match l m each.0.0, length_matches l ip ms each.1)

-- ---- sizes: parts are aligned, and the native ones are the greatest

kind_aligned : (l : BlobLayout) (k : MatchKind) → size_of l (match_front k) % alignment l ≡ 0
kind_aligned Ia32 matching.Tcp = refl
kind_aligned Ia32 matching.Udp = refl
kind_aligned Ia32 matching.Mark = refl
kind_aligned Ia32 matching.Limit = refl
kind_aligned Arm matching.Tcp = refl
kind_aligned Arm matching.Udp = refl
kind_aligned Arm matching.Mark = refl
kind_aligned Arm matching.Limit = refl
kind_aligned Native matching.Tcp = refl
kind_aligned Native matching.Udp = refl
kind_aligned Native matching.Mark = refl
kind_aligned Native matching.Limit = refl

target_aligned : (l : BlobLayout) (k : TargetKind) → size_of l (target_front k) % alignment l ≡ 0
target_aligned Ia32 targeting.Verdict = refl
target_aligned Ia32 targeting.Error = refl
target_aligned Ia32 targeting.Mark = refl
target_aligned Arm targeting.Verdict = refl
target_aligned Arm targeting.Error = refl
target_aligned Arm targeting.Mark = refl
target_aligned Native targeting.Verdict = refl
target_aligned Native targeting.Error = refl
target_aligned Native targeting.Mark = refl

sum_aligned : (l : BlobLayout) (a b : ℕ) → a % alignment l ≡ 0 → b % alignment l ≡ 0 → (a + b) % alignment l ≡ 0
sum_aligned Ia32 a b h k = omega (arith, h, k)
sum_aligned Arm a b h k = omega (arith, h, k)
sum_aligned Native a b h k = omega (arith, h, k)

head_aligned : (l : BlobLayout) → 112 % alignment l ≡ 0
head_aligned Ia32 = refl
head_aligned Arm = refl
head_aligned Native = refl

none_aligned : (l : BlobLayout) → 0 % alignment l ≡ 0
none_aligned Ia32 = refl
none_aligned Arm = refl
none_aligned Native = refl

matches_aligned : (l : BlobLayout) (ms : List RuleMatch) → matches_size l ms % alignment l ≡ 0
matches_aligned l [] = none_aligned l
matches_aligned l (m ∷ ms) = sum_aligned l _ _ (kind_aligned l (match_kind m)) (matches_aligned l ms)

pub offset_aligned : (l : BlobLayout) (ms : List RuleMatch) → target_offset l ms % alignment l ≡ 0
offset_aligned l ms = sum_aligned l 112 (matches_size l ms) (head_aligned l) (matches_aligned l ms)

pub next_aligned : (l : BlobLayout) (ms : List RuleMatch) (t : RuleTarget) → next_offset l ms t % alignment l ≡ 0
next_aligned l ms t = sum_aligned l _ _ (offset_aligned l ms) (target_aligned l (target_kind t))

kind_most : (l : BlobLayout) (k : MatchKind) → size_of l (match_front k) ≤ size_of Native (match_front k)
kind_most Ia32 matching.Tcp = omega arith
kind_most Ia32 matching.Udp = omega arith
kind_most Ia32 matching.Mark = omega arith
kind_most Ia32 matching.Limit = omega arith
kind_most Arm matching.Tcp = omega arith
kind_most Arm matching.Udp = omega arith
kind_most Arm matching.Mark = omega arith
kind_most Arm matching.Limit = omega arith
kind_most Native k = omega arith

target_most : (l : BlobLayout) (k : TargetKind) → size_of l (target_front k) ≤ size_of Native (target_front k)
target_most Ia32 targeting.Verdict = omega arith
target_most Ia32 targeting.Error = omega arith
target_most Ia32 targeting.Mark = omega arith
target_most Arm targeting.Verdict = omega arith
target_most Arm targeting.Error = omega arith
target_most Arm targeting.Mark = omega arith
target_most Native k = omega arith

matches_most : (l : BlobLayout) (ms : List RuleMatch) → matches_size l ms ≤ matches_size Native ms
matches_most l [] = omega arith
matches_most l (m ∷ ms) = omega (arith, kind_most l (match_kind m), matches_most l ms)

pub next_most : (l : BlobLayout) (ms : List RuleMatch) (t : RuleTarget) → next_offset l ms t ≤ next_offset Native ms t
next_most l ms t = omega (arith, matches_most l ms, target_most l (target_kind t))

-- ---- the whole rule

pub length_rule : (l : BlobLayout) (r : Rule) → IsRule r → length (rule_spelling l r) ≡ rule_size l r
unfolding rule_spelling
length_rule l r h =
    let ms = length_matches l r.ip r.matches h.matches in
    let t = length_target l r.target h.target in
    simp (length-append, length_number, length_given, length_free) (omega (arith, ms, t, h.ip))

pub rule_least : (l : BlobLayout) (r : Rule) → 148 ≤ rule_size l r
rule_least l r = let t : 36 ≤ target_size l r.target = target_least l r.target in omega (arith, t)

-- what a rule that was read tells
pub record RuleFound (l : BlobLayout) (bs : List ℕ) (r : Rule) : Type 0 where
  pub spelled : Begins bs (rule_spelling l r)
  pub rule : IsRule r
  pub ends : rule_size l r ≡ number_in 2 90 bs
  pub within : rule_size l r ≤ length bs

rule_found_by : (l : BlobLayout) (bs : List ℕ) (ms : List RuleMatch) (t : RuleTarget) → IsBytes bs → 112 ≤ length bs
    → 112 ≤ number_in 2 88 bs → number_in 2 88 bs + 32 ≤ number_in 2 90 bs → number_in 2 90 bs ≤ length bs
    → has_known_flags (take 84 bs) ≡ true → matches_at l bs ≡ Ok ms → rule_target l bs ≡ Ok t → next_offset Native ms t ≤ 65535
    → RuleFound l bs (rule_with bs ms t)
unfolding rule_spelling
rule_found_by l bs ms t fits long low gap high flags matches target native =
    let to : ℕ = number_in 2 88 bs in
    let next : ℕ = number_in 2 90 bs in
    let front : List ℕ = slice_range bs 112 to in
    let back : List ℕ = slice_range bs to next in
    let front_len : length front ≡ to - 112 = length-take-le (to - 112) (drop 112 bs) (omega (arith, length-drop 112 bs, high, gap)) in
    let back_len : length back ≡ next - to = length-take-le (next - to) (drop to bs) (omega (arith, length-drop to bs, high, gap)) in
    let m = matches_found l (take 84 bs) 0 front ms (bytes_take (to - 112) (drop 112 bs) (bytes_drop 112 bs fits)) matches in
    let u = target_found l back t (bytes_take (next - to) (drop to bs) (bytes_drop to bs fits)) (omega (arith, back_len, gap)) target in
    let at : target_offset l ms ≡ to = omega (arith, m.size, front_len, low) in
    let end : next_offset l ms t ≡ next = omega (arith, at, u.size, back_len, gap) in
    let ms_len : length (flat_map (match_spelling l) ms) ≡ matches_size l ms = length_matches l (take 84 bs) ms m.each in
    let ms_spelled : Begins (drop 112 bs) (flat_map (match_spelling l) ms) = begins_of_take (to - 112) (drop 112 bs) _ m.spelled in
    let t_spelled : Begins (drop to bs) (target_spelling l t) = begins_of_take (next - to) (drop to bs) _ u.spelled in
    let past : drop to bs ≡ drop (length (flat_map (match_spelling l) ms)) (drop 112 bs) =
    sym (drop-drop (length (flat_map (match_spelling l) ms)) 112 bs
    ∙ ap (λ (n : ℕ). drop n bs) (let e : 112 + length (flat_map (match_spelling l) ms) ≡ to = omega (arith, ms_len, at) in e)) in
    let parts : Begins (drop 112 bs) (flat_map (match_spelling l) ms ++ target_spelling l t) =
    begins_join (drop 112 bs) (flat_map (match_spelling l) ms) (target_spelling l t) ms_spelled
    (subst (λ (ys : List ℕ). Begins ys (target_spelling l t)) past t_spelled) in
    record {
      spelled = push_given 0 84 (take 84 bs) bs _ (omega (arith, long)) refl
          (push_free 84 4 bs _ (omega (arith, long))
          (push_number 88 2 (target_offset l ms) bs _ fits (omega (arith, long)) (sym at)
          (push_number 90 2 (next_offset l ms t) bs _ fits (omega (arith, long)) (sym end)
          (push_free 92 4 bs _ (omega (arith, long))
          (push_number 96 8 (number_in 8 96 bs) bs _ fits (omega (arith, long)) refl
          (push_number 104 8 (number_in 8 104 bs) bs _ fits (omega (arith, long)) refl parts))))));
      rule = record {
        ip = length-take-le 84 bs (omega (arith, long));
        flags = flags;
        matches = m.each;
        target = u.fits;
        packets = number_fits 8 96 bs fits;
        bytes = number_fits 8 104 bs fits;
        native = native;
      };
      ends = end;
      within = omega (arith, end, high);
    }

pub offsets_found : (l : BlobLayout) (to next n : ℕ) → are_bad_offsets l to next n ≡ false → (112 ≤ to) × (to + 32 ≤ next) × (next ≤ n)
offsets_found l to next n h =
    let a = or_parts (ltb to 112) _ h in
    let b = or_parts (ltb next (to + 32)) _ a.1 in
    let c = or_parts (not (eqb (to % alignment l) 0)) _ b.1 in
    let d = or_parts (not (eqb (next % alignment l) 0)) _ c.1 in
    (ltb-false _ _ a.0, ltb-false _ _ b.0, ltb-false _ _ d.1)

pub rule_found : (l : BlobLayout) (bs : List ℕ) (r : Rule) → IsBytes bs → rule_at l bs ≡ Ok r → RuleFound l bs r
unfolding rule_at
rule_found l bs r fits h =
    let last : List RuleMatch → RuleTarget → Result Rule BlobCause = λ ms t. short_enough (rule_with bs ms t) in
    let behind : List RuleMatch → Result Rule BlobCause = λ ms. rule_target l bs >>= λ t. last ms t in
    let all : Result Rule BlobCause = matches_at l bs >>= behind in
    let third : Result Rule BlobCause = refused_if (not (has_known_flags (take 84 bs))) Flags >> all in
    let second : Result Rule BlobCause = refused_if (are_bad_offsets l (number_in 2 88 bs) (number_in 2 90 bs) (length bs)) Offsets >> third in
    let a = refused_ok (ltb (length bs) 112) Short second r h in
    let b = refused_ok (are_bad_offsets l (number_in 2 88 bs) (number_in 2 90 bs) (length bs)) Offsets third r a.1 in
    let c = refused_ok (not (has_known_flags (take 84 bs))) Flags all r b.1 in
    let d = bind_ok (matches_at l bs) behind r c.1 in
    let e = bind_ok (rule_target l bs) (λ t. last d.0 t) r d.2 in
    let f = refused_ok (ltb 65535 (rule_size Native (rule_with bs d.0 e.0))) Offsets (Ok (rule_with bs d.0 e.0)) r e.2 in
    let o = offsets_found l (number_in 2 88 bs) (number_in 2 90 bs) (length bs) b.0 in
    subst (λ (x : Rule). RuleFound l bs x) (ok_is (rule_with bs d.0 e.0) r f.1)
    (rule_found_by l bs d.0 e.0 fits (ltb-false _ _ a.0) o.0 o.1 o.2 (not-false _ c.0) d.1 e.1 (ltb-false _ _ f.0))

-- the fields of a rule that was spelled
pub record Fields (l : BlobLayout) (bs : List ℕ) (r : Rule) : Type 0 where
  pub ip : take 84 bs ≡ r.ip
  pub to : number_in 2 88 bs ≡ target_offset l r.matches
  pub next : number_in 2 90 bs ≡ rule_size l r
  pub packets : number_in 8 96 bs ≡ r.packets
  pub bytes : number_in 8 104 bs ≡ r.bytes
  pub matches : Begins (drop 112 bs) (flat_map (match_spelling l) r.matches)
  pub target : Begins (drop (target_offset l r.matches) bs) (target_spelling l r.target)
  pub within : rule_size l r ≤ length bs

fields_again : (l : BlobLayout) (bs : List ℕ) (r : Rule) → IsRule r → Begins bs (rule_spelling l r) → Fields l bs r
unfolding rule_spelling
fields_again l bs r h b =
    let small : rule_size l r ≤ 65535 = omega (arith, next_most l r.matches r.target, h.native) in
    let least : 36 ≤ target_size l r.target = target_least l r.target in
    let p0 = peel_given 0 84 r.ip bs _ h.ip b in
    let p1 = peel_free 84 4 bs _ p0.2 in
    let p2 = peel_number 88 2 (target_offset l r.matches) bs _ (omega (arith, small, least)) p1 in
    let p3 = peel_number 90 2 (rule_size l r) bs _ (omega (arith, small)) p2.1 in
    let p4 = peel_free 92 4 bs _ p3.1 in
    let p5 = peel_number 96 8 r.packets bs _ h.packets p4 in
    let p6 = peel_number 104 8 r.bytes bs _ h.bytes p5.1 in
    let p7 = begins_split (drop 112 bs) (flat_map (match_spelling l) r.matches) (target_spelling l r.target) p6.1 in
    let len = length_matches l r.ip r.matches h.matches in
    let past : drop (length (flat_map (match_spelling l) r.matches)) (drop 112 bs) ≡ drop (target_offset l r.matches) bs =
    drop-drop (length (flat_map (match_spelling l) r.matches)) 112 bs ∙ ap (λ (n : ℕ). drop (112 + n) bs) len in
    record {
      ip = p0.0;
      to = p2.0;
      next = p3.0;
      packets = p5.0;
      bytes = p6.0;
      matches = p7.0;
      target = subst (λ (ys : List ℕ). Begins ys (target_spelling l r.target)) past p7.1;
      within = omega (arith, begins_length bs (rule_spelling l r) b, length_rule l r h);
    }

matches_at_again : (l : BlobLayout) (bs : List ℕ) (r : Rule) → IsRule r → Fields l bs r → matches_at l bs ≡ Ok r.matches
matches_at_again l bs r h f =
    let n : ℕ = target_offset l r.matches - 112 in
    let long : target_offset l r.matches ≤ length bs = omega (arith, f.within) in
    let len : length (take n (drop 112 bs)) ≡ n = length-take-le n (drop 112 bs) (omega (arith, length-drop 112 bs, long)) in
    let spelled : Begins (take n (drop 112 bs)) (flat_map (match_spelling l) r.matches) =
    begins_take n (drop 112 bs) _ (omega (arith, length_matches l r.ip r.matches h.matches)) f.matches in
    ap (λ (ip : List ℕ). matches_past l ip 0 (slice_range bs 112 (number_in 2 88 bs))) f.ip
    ∙ ap (λ (to : ℕ). matches_past l r.ip 0 (slice_range bs 112 to)) f.to
    ∙ matches_again l r.ip 0 (take n (drop 112 bs)) r.matches h.matches spelled (omega (arith, len))

target_at_again : (l : BlobLayout) (bs : List ℕ) (r : Rule) → IsRule r → Fields l bs r → rule_target l bs ≡ Ok r.target
target_at_again l bs r h f =
    let to : ℕ = target_offset l r.matches in
    let n : ℕ = rule_size l r - to in
    let size : n ≡ target_size l r.target = omega arith in
    let len : length (take n (drop to bs)) ≡ n = length-take-le n (drop to bs) (omega (arith, length-drop to bs, f.within)) in
    let spelled : Begins (take n (drop to bs)) (target_spelling l r.target) =
    begins_take n (drop to bs) _ (omega (arith, size, length_target l r.target h.target)) f.target in
    ap (λ (m : ℕ). target_at l (slice_range bs m (number_in 2 90 bs))) f.to
    ∙ ap (λ (m : ℕ). target_at l (slice_range bs to m)) f.next
    ∙ target_again l (take n (drop to bs)) r.target h.target spelled (sym size ∙ sym len)

offsets_again : (l : BlobLayout) (ms : List RuleMatch) (t : RuleTarget) (n : ℕ) → next_offset l ms t ≤ n
    → are_bad_offsets l (target_offset l ms) (next_offset l ms t) n ≡ false
offsets_again l ms t n high =
    let least : 36 ≤ target_size l t = target_least l t in
    let low : 112 ≤ target_offset l ms = omega arith in
    let gap : target_offset l ms + 32 ≤ next_offset l ms t = omega (arith, least) in
    or_from _ _ (le-ltb _ _ low)
    (or_from _ _ (le-ltb _ _ gap)
    (or_from _ _ (ap not (eq-eqb _ _ (offset_aligned l ms)))
    (or_from _ _ (ap not (eq-eqb _ _ (next_aligned l ms t))) (le-ltb _ _ high))))

same_rule : (bs : List ℕ) (r : Rule) → take 84 bs ≡ r.ip → number_in 8 96 bs ≡ r.packets → number_in 8 104 bs ≡ r.bytes
    → rule_with bs r.matches r.target ≡ r
same_rule bs r e f g =
    ap (λ (x : List ℕ). record { ip = x; matches = r.matches; target = r.target; packets = number_in 8 96 bs; bytes = number_in 8 104 bs }) e
    ∙ ap (λ (x : ℕ). record { ip = r.ip; matches = r.matches; target = r.target; packets = x; bytes = number_in 8 104 bs }) f
    ∙ ap (λ (x : ℕ). record { ip = r.ip; matches = r.matches; target = r.target; packets = r.packets; bytes = x }) g

pub rule_again : (l : BlobLayout) (bs : List ℕ) (r : Rule) → IsRule r → Begins bs (rule_spelling l r) → rule_at l bs ≡ Ok r
unfolding rule_at
rule_again l bs r h b =
    let f = fields_again l bs r h b in
    let last : List RuleMatch → RuleTarget → Result Rule BlobCause = λ ms t. short_enough (rule_with bs ms t) in
    let behind : List RuleMatch → Result Rule BlobCause = λ ms. rule_target l bs >>= λ t. last ms t in
    let all : Result Rule BlobCause = matches_at l bs >>= behind in
    let third : Result Rule BlobCause = refused_if (not (has_known_flags (take 84 bs))) Flags >> all in
    let second : Result Rule BlobCause = refused_if (are_bad_offsets l (number_in 2 88 bs) (number_in 2 90 bs) (length bs)) Offsets >> third in
    let least : 148 ≤ rule_size l r = rule_least l r in
    let offsets : are_bad_offsets l (number_in 2 88 bs) (number_in 2 90 bs) (length bs) ≡ false =
    ap (λ (m : ℕ). are_bad_offsets l m (number_in 2 90 bs) (length bs)) f.to
    ∙ ap (λ (m : ℕ). are_bad_offsets l (target_offset l r.matches) m (length bs)) f.next
    ∙ offsets_again l r.matches r.target (length bs) f.within in
    let flags : not (has_known_flags (take 84 bs)) ≡ false = ap (λ (ip : List ℕ). not (has_known_flags ip)) f.ip ∙ ap not h.flags in
    passed (ltb (length bs) 112) Short second (le-ltb _ _ (omega (arith, least, f.within)))
    ∙ passed (are_bad_offsets l (number_in 2 88 bs) (number_in 2 90 bs) (length bs)) Offsets third offsets
    ∙ passed (not (has_known_flags (take 84 bs))) Flags all flags
    ∙ bind_at (matches_at l bs) behind r.matches (matches_at_again l bs r h f)
    ∙ bind_at (rule_target l bs) (λ t. last r.matches t) r.target (target_at_again l bs r h f)
    ∙ ap (λ (x : Rule). short_enough x) (same_rule bs r f.ip f.packets f.bytes)
    ∙ passed (ltb 65535 (rule_size Native r)) Offsets (Ok r) (le-ltb _ _ h.native)

-- the parts of a rule that was read
pub record RuleRead (l : BlobLayout) (bs : List ℕ) (r : Rule) : Type 0 where
  pub long : 112 ≤ length bs
  pub low : 112 ≤ number_in 2 88 bs
  pub gap : number_in 2 88 bs + 32 ≤ number_in 2 90 bs
  pub high : number_in 2 90 bs ≤ length bs
  pub matches : matches_at l bs ≡ Ok r.matches
  pub target : rule_target l bs ≡ Ok r.target
  pub ip : take 84 bs ≡ r.ip
  pub packets : number_in 8 96 bs ≡ r.packets
  pub bytes : number_in 8 104 bs ≡ r.bytes
  pub short : rule_size Native r ≤ 65535

pub rule_read : (l : BlobLayout) (bs : List ℕ) (r : Rule) → rule_at l bs ≡ Ok r → RuleRead l bs r
unfolding rule_at
rule_read l bs r h =
    let last : List RuleMatch → RuleTarget → Result Rule BlobCause = λ ms t. short_enough (rule_with bs ms t) in
    let behind : List RuleMatch → Result Rule BlobCause = λ ms. rule_target l bs >>= λ t. last ms t in
    let all : Result Rule BlobCause = matches_at l bs >>= behind in
    let third : Result Rule BlobCause = refused_if (not (has_known_flags (take 84 bs))) Flags >> all in
    let second : Result Rule BlobCause = refused_if (are_bad_offsets l (number_in 2 88 bs) (number_in 2 90 bs) (length bs)) Offsets >> third in
    let a = refused_ok (ltb (length bs) 112) Short second r h in
    let b = refused_ok (are_bad_offsets l (number_in 2 88 bs) (number_in 2 90 bs) (length bs)) Offsets third r a.1 in
    let c = refused_ok (not (has_known_flags (take 84 bs))) Flags all r b.1 in
    let d = bind_ok (matches_at l bs) behind r c.1 in
    let e = bind_ok (rule_target l bs) (λ t. last d.0 t) r d.2 in
    let f = refused_ok (ltb 65535 (rule_size Native (rule_with bs d.0 e.0))) Offsets (Ok (rule_with bs d.0 e.0)) r e.2 in
    let o = offsets_found l (number_in 2 88 bs) (number_in 2 90 bs) (length bs) b.0 in
    subst (λ (x : Rule). RuleRead l bs x) (ok_is (rule_with bs d.0 e.0) r f.1)
    (record {
      long = ltb-false _ _ a.0;
      low = o.0;
      gap = o.1;
      high = o.2;
      matches = d.1;
      target = e.1;
      ip = refl;
      packets = refl;
      bytes = refl;
      short = ltb-false _ _ f.0;
    })
