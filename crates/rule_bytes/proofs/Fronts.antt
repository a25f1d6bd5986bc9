-- The front of a part: what was read is spelled, and what was spelled is read.
use Rattle.std.proofs.Common.{◌≡◌, ℕ, ◌+◌, ◌-◌, ◌<◌, ◌≤◌, ◌&&◌, not, Bool, true, List, [], ◌∷◌, ◌++◌, length, take, drop, Option, Some, Result, Ok, refl, sym, ap, ◌∙◌, subst, arith, leb, eqb, eqb-true, eq-eqb, leb-true, length-append}
use Rattle.std.proofs.lemmas.Bool.{and_parts, and_from, not-false}
use Rattle.std.proofs.lemmas.List.{take_at}
use Rattle.kernel_values.specs.declared.rules.BlobCause.{BlobCause}
use Rattle.rule_bytes.specs.declared.layout.BlobLayout.{BlobLayout}
use Rattle.rule_bytes.specs.declared.layout.BlobLayout.TheVariants.{Ia32, Arm, Native}
use Rattle.rule_bytes.specs.Faults.{◌>>=◌, found_or}
use Rattle.rule_bytes.specs.Spelling.{Begins, Spelling, free, given, number}
use Rattle.rule_bytes.specs.Parts.{PartFront, part, size_of}
use Rattle.rule_bytes.specs.Rules.{IsBytes}
use Rattle.rule_bytes.specs.Reading.{is_ended, is_front, is_named, kind_at, kind_named, number_in, sized}
use Rattle.rule_bytes.proofs.Results.{bind_at, bind_ok, find_passes, found_ok, ok_is, passed, refused_ok}
use Rattle.rule_bytes.proofs.Spellings.{given_front, length_free, length_given, length_number, peel_free, peel_given, peel_number, push_free, push_given, push_number}

-- the size of a part has at least n bytes, and not too many
abbrev pub has_size : ℕ → ℕ → Bool
has_size n size = leb n size && leb size 1024

-- a name and a revision have room, and a part has at least n bytes in each layout
abbrev pub is_good : ℕ → PartFront → Bool
is_good n f = leb (length f.name) 28 && (leb f.revision 255 && (has_size n f.ia32 && (has_size n f.arm && has_size n f.native)))

pub record IsGood (n : ℕ) (l : BlobLayout) (f : PartFront) : Type 0 where
  pub name : length f.name ≤ 28
  pub revision : f.revision < 256
  pub least : n ≤ size_of l f
  pub most : size_of l f ≤ 1024

size_good : (n size : ℕ) → has_size n size ≡ true → (n ≤ size) × (size ≤ 1024)
size_good n size h = let c = and_parts (leb n size) (leb size 1024) h in (leb-true _ _ c.0, leb-true _ _ c.1)

size_by : (n : ℕ) (l : BlobLayout) (f : PartFront) → has_size n f.ia32 ≡ true → has_size n f.arm ≡ true → has_size n f.native ≡ true
    → (n ≤ size_of l f) × (size_of l f ≤ 1024)
size_by n Ia32 f a b c = size_good n f.ia32 a
size_by n Arm f a b c = size_good n f.arm b
size_by n Native f a b c = size_good n f.native c

pub good : (n : ℕ) (l : BlobLayout) (f : PartFront) → is_good n f ≡ true → IsGood n l f
good n l f h =
    let a = and_parts (leb (length f.name) 28) (leb f.revision 255 && (has_size n f.ia32 && (has_size n f.arm && has_size n f.native))) h in
    let b = and_parts (leb f.revision 255) (has_size n f.ia32 && (has_size n f.arm && has_size n f.native)) a.1 in
    let c = and_parts (has_size n f.ia32) (has_size n f.arm && has_size n f.native) b.1 in
    let d = and_parts (has_size n f.arm) (has_size n f.native) c.1 in
    let s = size_by n l f c.0 d.0 d.1 in
    let name : length f.name ≤ 28 = leb-true _ _ a.0 in
    let revision : f.revision ≤ 255 = leb-true _ _ b.0 in
    record { name = name; revision = omega (arith, revision); least = s.0; most = s.1 }

pub length_part : (l : BlobLayout) (f : PartFront) (t : Spelling) → length f.name ≤ 28 → length (part l f t) ≡ 32 + length t
length_part l f t short =
    simp (length-append, length_number, length_given, length_free) (omega (arith, short))

-- one list in front of another
front_begins : (xs bs : List ℕ) → is_front xs bs ≡ true → Begins bs (given xs)
unfolding Begins given
front_begins [] bs h = tt
front_begins (x ∷ xs) [] h = absurd cc
front_begins (x ∷ xs) (b ∷ bs) h =
    let c = and_parts (eqb b x) (is_front xs bs) h in
    (eqb-true b x c.0, front_begins xs bs c.1)

front_again : (xs bs : List ℕ) → is_front xs (xs ++ bs) ≡ true
front_again [] bs = refl
front_again (x ∷ xs) bs = and_from _ _ (eq-eqb x x refl) (front_again xs bs)

-- a part whose front was read is spelled so, in front of its data
pub part_found : (n : ℕ) (l : BlobLayout) (f : PartFront) (bs : List ℕ) (t : Spelling) → IsGood n l f → IsBytes bs → 32 ≤ length bs
    → is_named f (drop 2 bs) (number_in 1 31 bs) ≡ true → number_in 2 0 bs ≡ size_of l f → Begins (drop 32 bs) t → Begins bs (part l f t)
part_found n l f bs t g fits long named size h =
    let c = and_parts (is_front (f.name ++ 0 ∷ []) (drop 2 bs)) (eqb (number_in 1 31 bs) f.revision) named in
    let revision : number_in 1 31 bs ≡ f.revision = eqb-true _ _ c.1 in
    let text : List ℕ = f.name ++ 0 ∷ [] in
    let len : length text ≡ length f.name + 1 = length-append f.name (0 ∷ []) in
    let e : drop 2 bs ≡ text ++ drop (length text) (drop 2 bs) = given_front (drop 2 bs) text (front_begins text (drop 2 bs) c.0) in
    let name : take (length f.name + 1) (drop 2 bs) ≡ text =
    ap (λ (ys : List ℕ). take (length f.name + 1) ys) e ∙ take_at text (drop (length text) (drop 2 bs)) (length f.name + 1) len in
    let short : length f.name ≤ 28 = g.name in
    let last : Begins (drop 31 bs) (number 1 f.revision ++ t) = push_number 31 1 f.revision bs t fits (omega (arith, long)) revision h in
    let there : (2 + (length f.name + 1)) + (28 - length f.name) ≡ 31 = omega (arith, short) in
    let gap : Begins (drop (2 + (length f.name + 1)) bs) (free (28 - length f.name) ++ (number 1 f.revision ++ t)) =
    push_free (2 + (length f.name + 1)) (28 - length f.name) bs (number 1 f.revision ++ t) (omega (arith, there, long))
    (subst (λ (m : ℕ). Begins (drop m bs) (number 1 f.revision ++ t)) (sym there) last) in
    push_number 0 2 (size_of l f) bs (given text ++ (free (28 - length f.name) ++ (number 1 f.revision ++ t))) fits (omega (arith, long)) size
    (push_given 2 (length f.name + 1) text bs (free (28 - length f.name) ++ (number 1 f.revision ++ t)) (omega (arith, short, long)) name gap)

-- the front of a part that was spelled
pub record Front (l : BlobLayout) (f : PartFront) (bs : List ℕ) (t : Spelling) : Type 0 where
  pub size : number_in 2 0 bs ≡ size_of l f
  pub rest : List ℕ
  pub name : drop 2 bs ≡ (f.name ++ 0 ∷ []) ++ rest
  pub revision : number_in 1 31 bs ≡ f.revision
  pub behind : Begins (drop 32 bs) t

pub part_again : (n : ℕ) (l : BlobLayout) (f : PartFront) (bs : List ℕ) (t : Spelling) → IsGood n l f → Begins bs (part l f t) → Front l f bs t
part_again n l f bs t g h =
    let short : length f.name ≤ 28 = g.name in
    let most : size_of l f ≤ 1024 = g.most in
    let text : List ℕ = f.name ++ 0 ∷ [] in
    let len : length text ≡ length f.name + 1 = length-append f.name (0 ∷ []) in
    let a = peel_number 0 2 (size_of l f) bs (given text ++ (free (28 - length f.name) ++ (number 1 f.revision ++ t))) (omega (arith, most)) h in
    let b = peel_given 2 (length f.name + 1) text bs (free (28 - length f.name) ++ (number 1 f.revision ++ t)) len a.1 in
    let c = peel_free (2 + (length f.name + 1)) (28 - length f.name) bs (number 1 f.revision ++ t) b.2 in
    let there : (2 + (length f.name + 1)) + (28 - length f.name) ≡ 31 = omega (arith, short) in
    let d = peel_number 31 1 f.revision bs t g.revision (subst (λ (m : ℕ). Begins (drop m bs) (number 1 f.revision ++ t)) there c) in
    record { size = a.0; rest = drop (2 + (length f.name + 1)) bs; name = b.1; revision = d.0; behind = d.1 }

-- what the kind that was read tells
pub kind_found : {K : Type 0} (l : BlobLayout) (fronts : K → PartFront) (kinds : List K) (shape unknown : BlobCause) (bs : List ℕ) (k : K)
    → kind_at l fronts kinds shape unknown bs ≡ Ok k
    → (is_named (fronts k) (drop 2 bs) (number_in 1 31 bs) ≡ true) × (number_in 2 0 bs ≡ size_of l (fronts k))
unfolding kind_at
kind_found {K} l fronts kinds shape unknown bs k h =
    let found : Result K BlobCause = found_or unknown (kind_named fronts kinds (drop 2 bs) (number_in 1 31 bs)) in
    let rest : K → Result K BlobCause = λ j. sized (size_of l (fronts j)) shape bs j in
    let a = refused_ok (not (is_ended (take 29 (drop 2 bs)))) shape (found >>= rest) k h in
    let b = bind_ok found rest k a.1 in
    let c = refused_ok (not (eqb (number_in 2 0 bs) (size_of l (fronts b.0)))) shape (Ok b.0) k b.2 in
    let same : b.0 ≡ k = ok_is b.0 k c.1 in
    let some : kind_named fronts kinds (drop 2 bs) (number_in 1 31 bs) ≡ Some b.0 = found_ok unknown _ b.0 b.1 in
    let named : is_named (fronts b.0) (drop 2 bs) (number_in 1 31 bs) ≡ true =
    find_passes (λ j. is_named (fronts j) (drop 2 bs) (number_in 1 31 bs)) kinds b.0 some in
    let size : number_in 2 0 bs ≡ size_of l (fronts b.0) = eqb-true _ _ (not-false _ c.0) in (
      subst (λ (j : K). is_named (fronts j) (drop 2 bs) (number_in 1 31 bs) ≡ true) same named,
      subst (λ (j : K). number_in 2 0 bs ≡ size_of l (fronts j)) same size,
    )

-- the kind that was spelled is read, where its name is that of no earlier kind
pub kind_again : {K : Type 0} (l : BlobLayout) (fronts : K → PartFront) (kinds : List K) (shape unknown : BlobCause) (bs : List ℕ) (k : K) (t : Spelling)
    → Front l (fronts k) bs t
    → ((rest : List ℕ) → is_ended (take 29 (((fronts k).name ++ 0 ∷ []) ++ rest)) ≡ true)
    → ((rest : List ℕ) → kind_named fronts kinds (((fronts k).name ++ 0 ∷ []) ++ rest) (fronts k).revision ≡ Some k)
    → kind_at l fronts kinds shape unknown bs ≡ Ok k
unfolding kind_at
kind_again {K} l fronts kinds shape unknown bs k t f ended named =
    let found : Result K BlobCause = found_or unknown (kind_named fronts kinds (drop 2 bs) (number_in 1 31 bs)) in
    let rest : K → Result K BlobCause = λ j. sized (size_of l (fronts j)) shape bs j in
    let e : is_ended (take 29 (drop 2 bs)) ≡ true = ap (λ (ys : List ℕ). is_ended (take 29 ys)) f.name ∙ ended f.rest in
    let some : kind_named fronts kinds (drop 2 bs) (number_in 1 31 bs) ≡ Some k =
    ap (λ (ys : List ℕ). kind_named fronts kinds ys (number_in 1 31 bs)) f.name
    ∙ ap (λ (r : ℕ). kind_named fronts kinds (((fronts k).name ++ 0 ∷ []) ++ f.rest) r) f.revision ∙ named f.rest in
    passed (not (is_ended (take 29 (drop 2 bs)))) shape (found >>= rest) (ap not e)
    ∙ bind_at found rest k (ap (λ (o : Option K). found_or unknown o) some)
    ∙ passed (not (eqb (number_in 2 0 bs) (size_of l (fronts k)))) shape (Ok k) (ap not (eq-eqb _ _ f.size))
