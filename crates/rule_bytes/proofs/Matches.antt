-- Matches: what was read is spelled, and what was spelled is read; one match, and then all of a rule.
use Rattle.std.proofs.Common.{◌≡◌, ℕ, zero, suc, pred, ◌+◌, ◌-◌, ◌*◌, ◌/◌, ◌%◌, ◌^◌, ◌<◌, ◌≤◌, ◌||◌, not, true, false, List, [], ◌∷◌, ◌++◌, length, take, drop, Some, Result, Ok, refl, sym, ap, ◌∙◌, subst, arith, ltb, ltb-false, le-ltb, length-append, length-drop}
use Rattle.std.specs.List.{flat_map, AllByRecursion}
use Rattle.std.proofs.lemmas.Bool.{not-false, or_from, or_parts}
use Rattle.std.proofs.lemmas.List.{length-take-le}
use Rattle.byteorder.specs.Numbers.{little_from-lt}
use Rattle.kernel_values.specs.declared.rules.BlobCause.{BlobCause}
use Rattle.kernel_values.specs.declared.rules.BlobCause.TheVariants.{MatchShape, MatchUnknown, Protocol}
use Rattle.rule_bytes.specs.declared.layout.BlobLayout.{BlobLayout}
use Rattle.rule_bytes.specs.declared.layout.BlobLayout.TheVariants.{Ia32, Arm, Native}
use Rattle.rule_bytes.specs.declared.parts.MatchKind.{MatchKind}
use Rattle.rule_bytes.specs.declared.parts.MatchKind.TheVariants as matching
use Rattle.kernel_values.specs.declared.rules.RuleMatch.{RuleMatch}
use Rattle.kernel_values.specs.declared.rules.RuleMatch.TheVariants as match_of
use Rattle.rule_bytes.specs.Faults.{◌>>=◌}
use Rattle.rule_bytes.specs.Spelling.{Begins}
use Rattle.rule_bytes.specs.Parts.{limit_data, match_data, match_front, match_kind, match_kinds, match_size, match_spelling, narrow_limit_data, part, size_of}
use Rattle.rule_bytes.specs.Rules.{IsBytes, MatchFits, goes_with, matches_size}
use Rattle.rule_bytes.specs.Reading.{is_ended, is_named, is_no_part, kind_at, kind_named, match_at, match_in, matches_past, number_in, suited}
use Rattle.rule_bytes.proofs.Results.{bind_at, bind_ok, ok_is, passed, refused_ok}
use Rattle.rule_bytes.proofs.Spellings.{begins_join, begins_length, begins_split, bytes_drop, last_free, length_free, length_given, length_number, peel_given, peel_number, push_given, push_number}
use Rattle.rule_bytes.proofs.Fronts.{IsGood, good, kind_again, kind_found, length_part, part_again, part_found}

-- each kind's front is good, with its data within
pub match_good : (k : MatchKind) (l : BlobLayout) → IsGood 41 l (match_front k)
match_good matching.Tcp l = good 41 l _ refl
match_good matching.Udp l = good 41 l _ refl
match_good matching.Mark l = good 41 l _ refl
match_good matching.Limit l = good 41 l _ refl

ended_again : (k : MatchKind) (rest : List ℕ) → is_ended (take 29 (((match_front k).name ++ 0 ∷ []) ++ rest)) ≡ true
ended_again matching.Tcp rest = refl
ended_again matching.Udp rest = refl
ended_again matching.Mark rest = refl
ended_again matching.Limit rest = refl

named_again : (k : MatchKind) (rest : List ℕ)
    → kind_named match_front match_kinds (((match_front k).name ++ 0 ∷ []) ++ rest) (match_front k).revision ≡ Some k
named_again matching.Tcp rest = refl
named_again matching.Udp rest = refl
named_again matching.Mark rest = refl
named_again matching.Limit rest = refl

-- a number that was read fits its bytes
pub number_fits : (n k : ℕ) (bs : List ℕ) → IsBytes bs → number_in n k bs < 256 ^ n
number_fits n k bs fits = little_from-lt 0 n (drop k bs) (λ i. bytes_drop k bs fits i)

-- the data of a match of a kind, as it was read
pub record DataFound (l : BlobLayout) (k : MatchKind) (bs : List ℕ) : Type 0 where
  pub spelled : Begins (drop 32 bs) (match_data l (match_in l k bs))
  pub fits : MatchFits (match_in l k bs)
  pub kind : match_kind (match_in l k bs) ≡ k

tcp_found : (l : BlobLayout) (bs : List ℕ) → IsBytes bs → size_of l (match_front matching.Tcp) ≤ length bs → DataFound l matching.Tcp bs
unfolding match_in
tcp_found l bs fits long =
    let g : IsGood 44 l (match_front matching.Tcp) = good 44 l _ refl in
    let least : 44 ≤ size_of l (match_front matching.Tcp) = g.least in
    let few : 44 + (size_of l (match_front matching.Tcp) - 44) ≤ length bs = omega (arith, least, long) in
    record {
      spelled = push_given 32 12 (take 12 (drop 32 bs)) bs _ (omega (arith, least, long)) refl (last_free 44 _ bs few);
      fits = length-take-le 12 (drop 32 bs) (omega (arith, length-drop 32 bs, least, long));
      kind = refl;
    }

udp_found : (l : BlobLayout) (bs : List ℕ) → IsBytes bs → size_of l (match_front matching.Udp) ≤ length bs → DataFound l matching.Udp bs
unfolding match_in
udp_found l bs fits long =
    let g : IsGood 41 l (match_front matching.Udp) = good 41 l _ refl in
    let least : 41 ≤ size_of l (match_front matching.Udp) = g.least in
    let few : 41 + (size_of l (match_front matching.Udp) - 41) ≤ length bs = omega (arith, least, long) in
    record {
      spelled = push_given 32 9 (take 9 (drop 32 bs)) bs _ (omega (arith, least, long)) refl (last_free 41 _ bs few);
      fits = length-take-le 9 (drop 32 bs) (omega (arith, length-drop 32 bs, least, long));
      kind = refl;
    }

mark_found : (l : BlobLayout) (bs : List ℕ) → IsBytes bs → size_of l (match_front matching.Mark) ≤ length bs → DataFound l matching.Mark bs
unfolding match_in
mark_found l bs fits long =
    let g : IsGood 41 l (match_front matching.Mark) = good 41 l _ refl in
    let least : 41 ≤ size_of l (match_front matching.Mark) = g.least in
    let few : 41 + (size_of l (match_front matching.Mark) - 41) ≤ length bs = omega (arith, least, long) in
    record {
      spelled = push_number 32 4 _ bs _ fits (omega (arith, least, long)) refl
          (push_number 36 4 _ bs _ fits (omega (arith, least, long)) refl
          (push_number 40 1 _ bs _ fits (omega (arith, least, long)) refl (last_free 41 _ bs few)));
      fits = (number_fits 4 32 bs fits, number_fits 4 36 bs fits, number_fits 1 40 bs fits);
      kind = refl;
    }

-- both halves of a number of 8 bytes
halves : (low high : ℕ) → low < 256 ^ 4 → high < 256 ^ 4
    → (low ≡ (low + 2 ^ 32 * high) % 2 ^ 32) × (high ≡ (low + 2 ^ 32 * high) / 2 ^ 32) × (low + 2 ^ 32 * high < 256 ^ 8)
halves low high l h = (omega (arith, l), omega (arith, l), omega (arith, l, h))

narrow_found : (l : BlobLayout) (bs : List ℕ) → IsBytes bs → 60 ≤ size_of l (match_front matching.Limit)
    → size_of l (match_front matching.Limit) ≤ length bs
    → Begins (drop 32 bs) (narrow_limit_data l (number_in 4 32 bs) (number_in 4 36 bs) (number_in 4 40 bs + 2 ^ 32 * number_in 4 56 bs)
    (number_in 4 44 bs) (number_in 4 48 bs) (number_in 4 52 bs))
narrow_found l bs fits least long =
    let h = halves (number_in 4 40 bs) (number_in 4 56 bs) (number_fits 4 40 bs fits) (number_fits 4 56 bs fits) in
    let few : 60 + (size_of l (match_front matching.Limit) - 60) ≤ length bs = omega (arith, least, long) in
    push_number 32 4 _ bs _ fits (omega (arith, least, long)) refl
    (push_number 36 4 _ bs _ fits (omega (arith, least, long)) refl
    (push_number 40 4 _ bs _ fits (omega (arith, least, long)) h.0
    (push_number 44 4 _ bs _ fits (omega (arith, least, long)) refl
    (push_number 48 4 _ bs _ fits (omega (arith, least, long)) refl
    (push_number 52 4 _ bs _ fits (omega (arith, least, long)) refl
    (push_number 56 4 _ bs _ fits (omega (arith, least, long)) h.1 (last_free 60 _ bs few)))))))

limit_found : (l : BlobLayout) (bs : List ℕ) → IsBytes bs → size_of l (match_front matching.Limit) ≤ length bs → DataFound l matching.Limit bs
unfolding match_in
limit_found Ia32 bs fits long = record {
  spelled = narrow_found Ia32 bs fits (omega arith) long;
  fits = (
    number_fits 4 32 bs fits,
    number_fits 4 36 bs fits,
    (halves (number_in 4 40 bs) (number_in 4 56 bs) (number_fits 4 40 bs fits) (number_fits 4 56 bs fits)).2,
    number_fits 4 44 bs fits,
    number_fits 4 48 bs fits,
    number_fits 4 52 bs fits,
  );
  kind = refl;
}
limit_found Arm bs fits long = record {
  spelled = narrow_found Arm bs fits (omega arith) long;
  fits = (
    number_fits 4 32 bs fits,
    number_fits 4 36 bs fits,
    (halves (number_in 4 40 bs) (number_in 4 56 bs) (number_fits 4 40 bs fits) (number_fits 4 56 bs fits)).2,
    number_fits 4 44 bs fits,
    number_fits 4 48 bs fits,
    number_fits 4 52 bs fits,
  );
  kind = refl;
}
limit_found Native bs fits long = record {
  spelled = push_number 32 4 _ bs _ fits (omega (arith, long)) refl
      (push_number 36 4 _ bs _ fits (omega (arith, long)) refl
      (push_number 40 8 _ bs _ fits (omega (arith, long)) refl
      (push_number 48 4 _ bs _ fits (omega (arith, long)) refl
      (push_number 52 4 _ bs _ fits (omega (arith, long)) refl
      (push_number 56 4 _ bs _ fits (omega (arith, long)) refl (last_free 60 12 bs (omega (arith, long))))))));
  fits = (
    number_fits 4 32 bs fits,
    number_fits 4 36 bs fits,
    number_fits 8 40 bs fits,
    number_fits 4 48 bs fits,
    number_fits 4 52 bs fits,
    number_fits 4 56 bs fits,
  );
  kind = refl;
}

data_found : (l : BlobLayout) (k : MatchKind) (bs : List ℕ) → IsBytes bs → size_of l (match_front k) ≤ length bs → DataFound l k bs
data_found l matching.Tcp bs fits long = tcp_found l bs fits long
data_found l matching.Udp bs fits long = udp_found l bs fits long
data_found l matching.Mark bs fits long = mark_found l bs fits long
data_found l matching.Limit bs fits long = limit_found l bs fits long

-- ---- what was spelled is read

same_limit : {x1 y1 x2 y2 x3 y3 x4 y4 x5 y5 x6 y6 : ℕ} → x1 ≡ y1 → x2 ≡ y2 → x3 ≡ y3 → x4 ≡ y4 → x5 ≡ y5 → x6 ≡ y6
    → match_of.Limit x1 x2 x3 x4 x5 x6 ≡ match_of.Limit y1 y2 y3 y4 y5 y6
same_limit e1 e2 e3 e4 e5 e6 = cc

narrow_again : (l : BlobLayout) (bs : List ℕ) (avg burst prev credit top cost : ℕ)
    → MatchFits (match_of.Limit avg burst prev credit top cost) → Begins (drop 32 bs) (narrow_limit_data l avg burst prev credit top cost)
    → match_of.Limit (number_in 4 32 bs) (number_in 4 36 bs) (number_in 4 40 bs + 2 ^ 32 * number_in 4 56 bs)
    (number_in 4 44 bs) (number_in 4 48 bs) (number_in 4 52 bs) ≡ match_of.Limit avg burst prev credit top cost
narrow_again l bs avg burst prev credit top cost fits h =
    let a = peel_number 32 4 avg bs _ fits.0 h in
    let b = peel_number 36 4 burst bs _ fits.1 a.1 in
    let c = peel_number 40 4 (prev % 2 ^ 32) bs _ (omega arith) b.1 in
    let d = peel_number 44 4 credit bs _ fits.3 c.1 in
    let e = peel_number 48 4 top bs _ fits.4 d.1 in
    let f = peel_number 52 4 cost bs _ fits.5 e.1 in
    let g = peel_number 56 4 (prev / 2 ^ 32) bs _ (omega (arith, fits.2)) f.1 in
    let whole : number_in 4 40 bs + 2 ^ 32 * number_in 4 56 bs ≡ prev = omega (arith, c.0, g.0) in
    same_limit a.0 b.0 whole d.0 e.0 f.0

same_mark : {x1 y1 x2 y2 x3 y3 : ℕ} → x1 ≡ y1 → x2 ≡ y2 → x3 ≡ y3 → match_of.Mark x1 x2 x3 ≡ match_of.Mark y1 y2 y3
same_mark e1 e2 e3 = cc

limit_again : (l : BlobLayout) (bs : List ℕ) (avg burst prev credit top cost : ℕ)
    → MatchFits (match_of.Limit avg burst prev credit top cost) → Begins (drop 32 bs) (limit_data l avg burst prev credit top cost)
    → match_in l matching.Limit bs ≡ match_of.Limit avg burst prev credit top cost
unfolding match_in
limit_again Ia32 bs avg burst prev credit top cost fits h = narrow_again Ia32 bs avg burst prev credit top cost fits h
limit_again Arm bs avg burst prev credit top cost fits h = narrow_again Arm bs avg burst prev credit top cost fits h
limit_again Native bs avg burst prev credit top cost fits h =
    let a = peel_number 32 4 avg bs _ fits.0 h in
    let b = peel_number 36 4 burst bs _ fits.1 a.1 in
    let c = peel_number 40 8 prev bs _ fits.2 b.1 in
    let d = peel_number 48 4 credit bs _ fits.3 c.1 in
    let e = peel_number 52 4 top bs _ fits.4 d.1 in
    let f = peel_number 56 4 cost bs _ fits.5 e.1 in
    same_limit a.0 b.0 c.0 d.0 e.0 f.0

data_again : (l : BlobLayout) (m : RuleMatch) (bs : List ℕ) → MatchFits m → Begins (drop 32 bs) (match_data l m)
    → match_in l (match_kind m) bs ≡ m
unfolding match_in
data_again l (match_of.Tcp bytes) bs fits h =
    ap (λ (ys : List ℕ). match_of.Tcp ys) (peel_given 32 12 bytes bs _ fits h).0
data_again l (match_of.Udp bytes) bs fits h =
    ap (λ (ys : List ℕ). match_of.Udp ys) (peel_given 32 9 bytes bs _ fits h).0
data_again l (match_of.Mark mark mask invert) bs fits h =
    let a = peel_number 32 4 mark bs _ fits.0 h in
    let b = peel_number 36 4 mask bs _ fits.1 a.1 in
    let c = peel_number 40 1 invert bs _ fits.2 b.1 in
    same_mark a.0 b.0 c.0
data_again l (match_of.Limit avg burst prev credit top cost) bs fits h = limit_again l bs avg burst prev credit top cost fits h

length_limit : (l : BlobLayout) (avg burst prev credit top cost : ℕ)
    → 32 + length (limit_data l avg burst prev credit top cost) ≡ size_of l (match_front matching.Limit)
length_limit Ia32 avg burst prev credit top cost = simp (length-append, length_number, length_free) (omega arith)
length_limit Arm avg burst prev credit top cost = simp (length-append, length_number, length_free) (omega arith)
length_limit Native avg burst prev credit top cost = simp (length-append, length_number, length_free) (omega arith)

length_data : (l : BlobLayout) (m : RuleMatch) → MatchFits m → 32 + length (match_data l m) ≡ match_size l m
length_data l (match_of.Tcp bytes) fits =
    let g : IsGood 44 l (match_front matching.Tcp) = good 44 l _ refl in
    let least : 44 ≤ size_of l (match_front matching.Tcp) = g.least in
    simp (length-append, length_given, length_free) (omega (arith, least, fits))
length_data l (match_of.Udp bytes) fits =
    let g : IsGood 41 l (match_front matching.Udp) = good 41 l _ refl in
    let least : 41 ≤ size_of l (match_front matching.Udp) = g.least in
    simp (length-append, length_given, length_free) (omega (arith, least, fits))
length_data l (match_of.Mark mark mask invert) fits =
    let g : IsGood 41 l (match_front matching.Mark) = good 41 l _ refl in
    let least : 41 ≤ size_of l (match_front matching.Mark) = g.least in
    simp (length-append, length_number, length_free) (omega (arith, least))
length_data l (match_of.Limit avg burst prev credit top cost) fits = length_limit l avg burst prev credit top cost

pub length_match : (l : BlobLayout) (m : RuleMatch) → MatchFits m → length (match_spelling l m) ≡ match_size l m
unfolding match_spelling
length_match l m fits =
    length_part l (match_front (match_kind m)) (match_data l m) (match_good (match_kind m) l).name ∙ length_data l m fits

pub match_least : (l : BlobLayout) (m : RuleMatch) → 41 ≤ match_size l m
match_least l m = (match_good (match_kind m) l).least

-- what a match that was read tells
pub record MatchFound (l : BlobLayout) (ip bs : List ℕ) (m : RuleMatch) : Type 0 where
  pub spelled : Begins bs (match_spelling l m)
  pub fits : MatchFits m
  pub goes : goes_with ip m ≡ true
  pub within : match_size l m ≤ length bs

part_within : (bs : List ℕ) → is_no_part bs ≡ false → (32 ≤ length bs) × (number_in 2 0 bs ≤ length bs)
part_within bs h =
    let a = or_parts (ltb (length bs) 32) (ltb (number_in 2 0 bs) 32 || ltb (length bs) (number_in 2 0 bs)) h in
    let b = or_parts (ltb (number_in 2 0 bs) 32) (ltb (length bs) (number_in 2 0 bs)) a.1 in
    (ltb-false _ _ a.0, ltb-false _ _ b.1)

match_found_by : (l : BlobLayout) (ip bs : List ℕ) (k : MatchKind) → IsBytes bs → 32 ≤ length bs → number_in 2 0 bs ≤ length bs
    → is_named (match_front k) (drop 2 bs) (number_in 1 31 bs) ≡ true → number_in 2 0 bs ≡ size_of l (match_front k)
    → goes_with ip (match_in l k bs) ≡ true → MatchFound l ip bs (match_in l k bs)
unfolding match_spelling
match_found_by l ip bs k fits long within named size goes =
    let fill : size_of l (match_front k) ≤ length bs = omega (arith, size, within) in
    let d = data_found l k bs fits fill in
    let m : RuleMatch = match_in l k bs in
    let whole : Begins bs (part l (match_front k) (match_data l m)) =
    part_found 41 l (match_front k) bs (match_data l m) (match_good k l) fits long named size d.spelled in
    record {
      spelled = subst (λ (j : MatchKind). Begins bs (part l (match_front j) (match_data l m))) (sym d.kind) whole;
      fits = d.fits;
      goes = goes;
      within = subst (λ (j : MatchKind). size_of l (match_front j) ≤ length bs) (sym d.kind) fill;
    }

pub match_found : (l : BlobLayout) (ip bs : List ℕ) (m : RuleMatch) → IsBytes bs → match_at l ip bs ≡ Ok m → MatchFound l ip bs m
unfolding match_at
match_found l ip bs m fits h =
    let kinds : Result MatchKind BlobCause = kind_at l match_front match_kinds MatchShape MatchUnknown bs in
    let rest : MatchKind → Result RuleMatch BlobCause = λ k. suited ip (match_in l k bs) in
    let a = refused_ok (is_no_part bs) MatchShape (kinds >>= rest) m h in
    let w = part_within bs a.0 in
    let b = bind_ok kinds rest m a.1 in
    let k : MatchKind = b.0 in
    let f = kind_found l match_front match_kinds MatchShape MatchUnknown bs k b.1 in
    let c = refused_ok (not (goes_with ip (match_in l k bs))) Protocol (Ok (match_in l k bs)) m b.2 in
    subst (λ (x : RuleMatch). MatchFound l ip bs x) (ok_is (match_in l k bs) m c.1)
    (match_found_by l ip bs k fits w.0 w.1 f.0 f.1 (not-false _ c.0))

pub match_again : (l : BlobLayout) (ip bs : List ℕ) (m : RuleMatch) → MatchFits m → goes_with ip m ≡ true
    → Begins bs (match_spelling l m) → match_at l ip bs ≡ Ok m
unfolding match_at match_spelling
match_again l ip bs m fits goes h =
    let k : MatchKind = match_kind m in
    let f = part_again 41 l (match_front k) bs (match_data l m) (match_good k l) h in
    let kinds : Result MatchKind BlobCause = kind_at l match_front match_kinds MatchShape MatchUnknown bs in
    let rest : MatchKind → Result RuleMatch BlobCause = λ j. suited ip (match_in l j bs) in
    let kind : kinds ≡ Ok k = kind_again l match_front match_kinds MatchShape MatchUnknown bs k (match_data l m) f (ended_again k) (named_again k) in
    let same : match_in l k bs ≡ m = data_again l m bs fits f.behind in
    let least : 41 ≤ match_size l m = match_least l m in
    let len : match_size l m ≤ length bs =
    omega (arith, begins_length bs (match_spelling l m) h, length_match l m fits) in
    let size : number_in 2 0 bs ≡ match_size l m = f.size in
    let long : 32 ≤ length bs = omega (arith, least, len) in
    let wide : 32 ≤ number_in 2 0 bs = omega (arith, size, least) in
    let within : number_in 2 0 bs ≤ length bs = omega (arith, size, len) in
    let good_part : is_no_part bs ≡ false = or_from _ _ (le-ltb _ _ long) (or_from _ _ (le-ltb _ _ wide) (le-ltb _ _ within)) in
    passed (is_no_part bs) MatchShape (kinds >>= rest) good_part
    ∙ bind_at kinds rest k kind
    ∙ ap (λ (x : RuleMatch). suited ip x) same
    ∙ passed (not (goes_with ip m)) Protocol (Ok m) (ap not goes)

-- ---- all matches of a rule

abbrev pub MayStand : List ℕ → RuleMatch → Type 0
MayStand ip m = MatchFits m × (goes_with ip m ≡ true)

pub record MatchesFound (l : BlobLayout) (ip bs : List ℕ) (ms : List RuleMatch) : Type 0 where
  pub spelled : Begins bs (flat_map (match_spelling l) ms)
  pub each : AllByRecursion (λ m. MayStand ip m) ms
  pub size : matches_size l ms ≡ length bs

none_found : (l : BlobLayout) (ip bs : List ℕ) (ms : List RuleMatch) → length bs ≡ 0 → ms ≡ [] → MatchesFound l ip bs ms
unfolding Begins
none_found l ip bs ms len e = subst (λ (xs : List RuleMatch). MatchesFound l ip bs xs) (sym e) (record { spelled = tt; each = tt; size = sym len })

pub drop_nil : (n : ℕ) → ◌≡◌ {A = List ℕ} (drop n []) []
drop_nil zero = refl
drop_nil (suc n) = refl

-- one match in front of what was found behind it
with_match : (l : BlobLayout) (ip bs : List ℕ) (m : RuleMatch) (ms : List RuleMatch) → MatchFound l ip bs m
    → MatchesFound l ip (drop (match_size l m) bs) ms → MatchesFound l ip bs (m ∷ ms)
with_match l ip bs m ms f g =
    let len : length (match_spelling l m) ≡ match_size l m = length_match l m f.fits in
    record {
      spelled = begins_join bs (match_spelling l m) (flat_map (match_spelling l) ms) f.spelled
          (subst (λ (n : ℕ). Begins (drop n bs) (flat_map (match_spelling l) ms)) (sym len) g.spelled);
      each = ((f.fits, f.goes), g.each);
      size = omega (arith, g.size, f.within, length-drop (match_size l m) bs);
    }

-- bytes that are passed over, one of them at the front
pub past_one : (size : ℕ) (b : ℕ) (bs : List ℕ) → 0 < size → drop (pred size) bs ≡ drop size (b ∷ bs)
past_one zero b bs h = absurd (omega (arith, h))
past_one (suc n) b bs h = refl

pub matches_found : (l : BlobLayout) (ip : List ℕ) (n : ℕ) (bs : List ℕ) (ms : List RuleMatch) → IsBytes bs → matches_past l ip n bs ≡ Ok ms
    → MatchesFound l ip (drop n bs) ms
unfolding matches_past
matches_found l ip n [] ms fits h =
    none_found l ip (drop n []) ms (ap (λ (ys : List ℕ). length ys) (drop_nil n)) (sym (ok_is [] ms h))
matches_found l ip (suc n) (b ∷ bs) ms fits h = matches_found l ip n bs ms (λ i. fits (suc i)) h
matches_found l ip zero (b ∷ bs) ms fits h =
    let others : RuleMatch → Result (List RuleMatch) BlobCause = λ m. matches_past l ip (pred (match_size l m)) bs in
    let rest : RuleMatch → Result (List RuleMatch) BlobCause = λ m. others m >>= λ xs. Ok (m ∷ xs) in
    let a = bind_ok (match_at l ip (b ∷ bs)) rest ms h in
    let c = bind_ok (others a.0) (λ xs. Ok (a.0 ∷ xs)) ms a.2 in
    let f = match_found l ip (b ∷ bs) a.0 fits a.1 in
    let least : 41 ≤ match_size l a.0 = match_least l a.0 in
    let g = matches_found l ip (pred (match_size l a.0)) bs c.0 (λ i. fits (suc i)) c.1 in
    let g' : MatchesFound l ip (drop (match_size l a.0) (b ∷ bs)) c.0 =
    subst (λ (ys : List ℕ). MatchesFound l ip ys c.0) (past_one (match_size l a.0) b bs (omega (arith, least))) g in
    subst (λ (xs : List RuleMatch). MatchesFound l ip (b ∷ bs) xs) (ok_is (a.0 ∷ c.0) ms c.2) (with_match l ip (b ∷ bs) a.0 c.0 f g')

none_again : (l : BlobLayout) (ms : List RuleMatch) → matches_size l ms ≡ 0 → ms ≡ []
none_again l [] h = refl
none_again l (m ∷ ms) h = absurd (omega (arith, h, match_least l m))

pub matches_again : (l : BlobLayout) (ip : List ℕ) (n : ℕ) (bs : List ℕ) (ms : List RuleMatch) → AllByRecursion (λ m. MayStand ip m) ms
    → Begins (drop n bs) (flat_map (match_spelling l) ms) → matches_size l ms ≡ length (drop n bs) → matches_past l ip n bs ≡ Ok ms
unfolding matches_past
matches_again l ip n [] ms each h size =
    ap (λ (xs : List RuleMatch). Ok xs) (sym (none_again l ms (size ∙ ap (λ (ys : List ℕ). length ys) (drop_nil n))))
matches_again l ip (suc n) (b ∷ bs) ms each h size = matches_again l ip n bs ms each h size
matches_again l ip zero (b ∷ bs) [] each h size = absurd (omega (arith, size))
matches_again l ip zero (b ∷ bs) (m ∷ ms) each h size =
    let others : RuleMatch → Result (List RuleMatch) BlobCause = λ x. matches_past l ip (pred (match_size l x)) bs in
    let rest : RuleMatch → Result (List RuleMatch) BlobCause = λ x. others x >>= λ xs. Ok (x ∷ xs) in
    let s = begins_split (b ∷ bs) (match_spelling l m) (flat_map (match_spelling l) ms) h in
    let first : match_at l ip (b ∷ bs) ≡ Ok m = match_again l ip (b ∷ bs) m each.0.0 each.0.1 s.0 in
    let len : length (match_spelling l m) ≡ match_size l m = length_match l m each.0.0 in
    let least : 41 ≤ match_size l m = match_least l m in
    let step : drop (pred (match_size l m)) bs ≡ drop (match_size l m) (b ∷ bs) = past_one (match_size l m) b bs (omega (arith, least)) in
    let behind : Begins (drop (pred (match_size l m)) bs) (flat_map (match_spelling l) ms) =
    subst (λ (ys : List ℕ). Begins ys (flat_map (match_spelling l) ms)) (ap (λ (k : ℕ). drop k (b ∷ bs)) len ∙ sym step) s.1 in
    let left : matches_size l ms ≡ length (drop (pred (match_size l m)) bs) =
    omega (arith, size, least, length-drop (pred (match_size l m)) bs, ap (λ (ys : List ℕ). length ys) step, length-drop (match_size l m) (b ∷ bs)) in
    let last : others m ≡ Ok ms = matches_again l ip (pred (match_size l m)) bs ms each.1 behind left in
    bind_at (match_at l ip (b ∷ bs)) rest m first ∙ bind_at (others m) (λ xs. Ok (m ∷ xs)) ms last

pub kind_in : (l : BlobLayout) (k : MatchKind) (bs : List ℕ) → match_kind (match_in l k bs) ≡ k
unfolding match_in
kind_in l matching.Tcp bs = refl
kind_in l matching.Udp bs = refl
kind_in l matching.Mark bs = refl
kind_in l matching.Limit bs = refl
