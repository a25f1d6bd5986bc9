-- The entries of a directory and the index of their names, after a name came or went.
use Rattle.std.proofs.Common.{◌≡◌, ◌∙◌, ℕ, List, [], ◌∷◌, Bool, true, false, cond, Option, Some, None, refl, sym, ap, ◌⊎◌, inl, inr, arith}
use Rattle.std.specs.BTreeMap.{is_at}
use Rattle.std.specs.Cmp.Lexicographic.{slice_cmp}
use Rattle.std.specs.List.{AllByRecursion, find}
use Rattle.std.specs.List.Sorted.{IsStrictlySortedBy}
use Rattle.std.specs.Map.{keys_of}
use Rattle.std.specs.Ordering.{is_eq, match_ordering, nat_cmp}
use Rattle.std.specs.Prelude.{option_map}
use Rattle.std.specs.Str.{bytes_eq}
use Rattle.std.specs.declared.cmp.Ordering.{Ordering}
use Rattle.std.specs.declared.cmp.Ordering.TheVariants.{Less, Equal, Greater}
use Rattle.std.proofs.lemmas.Cmp.{nat_cmp_total, nat_list_cmp_total}
use Rattle.std.proofs.lemmas.Grind.{common_steps}
use Rattle.std.proofs.lemmas.Map.{lookup-none}
use Rattle.std.proofs.lemmas.Map.Entries.{none_below_head}
use Rattle.std.proofs.lemmas.Map.Keys.{sorted_head, sorted_tail}
use Rattle.std.proofs.lemmas.Map.Lookups.{exact_bytes, exact_unsigned}
use Rattle.std.proofs.lemmas.Map.Text.{is_eq-slice_cmp}
use Rattle.number_maps.specs.NumberMap.{IsAscending, at, put, removed}
use Rattle.file_tables.specs.Entries.{named}
use Rattle.file_tables.specs.NameIndex.{AreAscending, Positions, position_of, with_position, without_position}
use Rattle.file_tables.specs.NameTable.{IsIndexed, name_at}
use Rattle.file_tables.specs.declared.state.Entry.{Entry}
use Rattle.file_tables.proofs.Lookups.{at_itself, lookup_gone, lookup_left, lookup_put, lookup_put_apart, same_or_apart}

-- ---- numbers and names, each the same or apart
number_cases : (q p : ℕ) → (q ≡ p) ⊎ (is_at (nat_cmp q) p ≡ false)
number_cases q p = same_or_apart nat_cmp_total exact_unsigned q p

name_cases : (n m : List ℕ) → (n ≡ m) ⊎ (is_at (slice_cmp nat_cmp n) m ≡ false)
name_cases n m = same_or_apart nat_list_cmp_total exact_bytes n m

number_apart : (q p : ℕ) → q ≡ p → is_at (nat_cmp q) p ≡ false → ⊥
number_apart q p same apart =
    let itself : is_at (nat_cmp q) q ≡ true = at_itself nat_cmp_total exact_unsigned q in
    let other : is_at (nat_cmp q) q ≡ false = rw (← same) at apart in
    cc

name_apart : (n m : List ℕ) → n ≡ m → is_at (slice_cmp nat_cmp n) m ≡ false → ⊥
name_apart n m same apart =
    let itself : is_at (slice_cmp nat_cmp n) n ≡ true = at_itself nat_list_cmp_total exact_bytes n in
    let other : is_at (slice_cmp nat_cmp n) n ≡ false = rw (← same) at apart in
    cc

same_name : (n m : List ℕ) → bytes_eq n m ≡ true → n ≡ m
same_name n m h = elim (name_cases n m) [
  | inl same ↦ same
  | inr apart ↦ (let e : is_at (slice_cmp nat_cmp n) m ≡ bytes_eq n m = is_eq-slice_cmp n m in cc)
]

is_itself : (n m : List ℕ) → n ≡ m → bytes_eq n m ≡ true
is_itself n m same = rw same (sym (is_eq-slice_cmp m m) ∙ at_itself nat_list_cmp_total exact_bytes m)

-- ---- the first entry that passes a test
passes_case : (test : ℕ × Entry → Bool) (e x : ℕ × Entry) (rest : Option (ℕ × Entry)) (b : Bool) → test e ≡ b → (rest ≡ Some x → test x ≡ true) → cond b (Some e) rest ≡ Some x → test x ≡ true
passes_case test e x rest true t rec h = let same : e ≡ x = cc in ap test (sym same) ∙ t
passes_case test e x rest false t rec h = rec h

first_passes : (test : ℕ × Entry → Bool) (es : List (ℕ × Entry)) (x : ℕ × Entry) → find test es ≡ Some x → test x ≡ true
first_passes test [] x h = cc
first_passes test (e ∷ es) x h = passes_case test e x (find test es) (test e) refl (first_passes test es x) h

-- what is true of all positions is true of its position
all_case : (P : ℕ → Type 0) (e x : ℕ × Entry) (rest : Option (ℕ × Entry)) (b : Bool) → P e.0 → (rest ≡ Some x → P x.0) → cond b (Some e) rest ≡ Some x → P x.0
all_case P e x rest true here rec h = let same : e.0 ≡ x.0 = cc in rw (← same) here
all_case P e x rest false here rec h = rec h

absurd_none : {X : Type 0} (x : X) → ◌≡◌ {A = Option X} None (Some x) → ⊥
absurd_none x h = cc

first_is_among : (P : ℕ → Type 0) (test : ℕ × Entry → Bool) (es : List (ℕ × Entry)) (x : ℕ × Entry) → AllByRecursion P (keys_of es) → find test es ≡ Some x → P x.0
first_is_among P test [] x all h = absurd (absurd_none x h)
first_is_among P test (e ∷ es) x all h = all_case P e x (find test es) (test e) all.0 (first_is_among P test es x all.1) h

greater_is_other : (p q : ℕ) → nat_cmp p q ≡ Less → is_at (nat_cmp q) p ≡ false
greater_is_other p q h = grind (arith, common_steps)

stands_case : (e x : ℕ × Entry) (es : List (ℕ × Entry)) (rest : Option (ℕ × Entry)) (b : Bool) → (rest ≡ Some x → nat_cmp e.0 x.0 ≡ Less) → (rest ≡ Some x → at es x.0 ≡ Some x.1) → cond b (Some e) rest ≡ Some x → at (e ∷ es) x.0 ≡ Some x.1
stands_case e x es rest true above rec h =
    let same : e ≡ x = cc in
    let itself : is_at (nat_cmp x.0) e.0 ≡ true = rw same (at_itself nat_cmp_total exact_unsigned x.0) in
    rw itself (ap (λ (y : ℕ × Entry). Some y.1) same)
stands_case e x es rest false above rec h = rw (greater_is_other e.0 x.0 (above h)) (rec h)

first_stands : (test : ℕ × Entry → Bool) (es : List (ℕ × Entry)) (x : ℕ × Entry) → IsAscending es → find test es ≡ Some x → at es x.0 ≡ Some x.1
unfolding IsStrictlySortedBy
first_stands test [] x s h = cc
first_stands test (e ∷ es) x s h = stands_case e x es (find test es) (test e) (first_is_among (λ k. nat_cmp e.0 k ≡ Less) test es x s.0) (first_stands test es x s.1) h

-- where none passes, what stands at a position doesn't
fails_case : (test : ℕ × Entry → Bool) (x : ℕ × Entry) (es : List (ℕ × Entry)) (p : ℕ) (e : Entry) (b : Bool) → is_at (nat_cmp p) x.0 ≡ b → (b ≡ true → p ≡ x.0) → test x ≡ false → (at es p ≡ Some e → test (p, e) ≡ false) → cond b (Some x.1) (at es p) ≡ Some e → test (p, e) ≡ false
fails_case test x es p e true here same fails rec h =
    let entry : x.1 ≡ e = cc in
    let pair : (p, e) ≡ x = rw (same refl, ← entry) refl in
    ap test pair ∙ fails
fails_case test x es p e false here same fails rec h = rec h

first_test : (test : ℕ × Entry → Bool) (x : ℕ × Entry) (rest : Option (ℕ × Entry)) (b : Bool) → test x ≡ b → cond b (Some x) rest ≡ None → (test x ≡ false) × (rest ≡ None)
first_test test x rest true t h = absurd (absurd_none x (sym h))
first_test test x rest false t h = (t, h)

position_is : (q p : ℕ) → is_at (nat_cmp q) p ≡ true → q ≡ p
position_is q p h = elim (number_cases q p) [ inl same ↦ same | inr apart ↦ cc ]

none_passes : (test : ℕ × Entry → Bool) (es : List (ℕ × Entry)) (p : ℕ) (e : Entry) → find test es ≡ None → at es p ≡ Some e → test (p, e) ≡ false
none_passes test [] p e none there = absurd (absurd_none e there)
none_passes test (x ∷ es) p e none there =
    let t = first_test test x (find test es) (test x) refl none in
    fails_case test x es p e (is_at (nat_cmp p) x.0) refl (position_is p x.0) t.0 (none_passes test es p e t.1) there

-- ---- the entry with a name
named_has_name : (names : List (ℕ × Entry)) (name : List ℕ) (x : ℕ × Entry) → named names name ≡ Some x → x.1.name ≡ name
unfolding named
named_has_name names name x h = same_name x.1.name name (first_passes (λ (e : ℕ × Entry). bytes_eq e.1.name name) names x h)

named_stands : (names : List (ℕ × Entry)) (name : List ℕ) (x : ℕ × Entry) → IsAscending names → named names name ≡ Some x → at names x.0 ≡ Some x.1
unfolding named
named_stands names name x s h = first_stands (λ (e : ℕ × Entry). bytes_eq e.1.name name) names x s h

nameless : (names : List (ℕ × Entry)) (name : List ℕ) (p : ℕ) (e : Entry) → named names name ≡ None → at names p ≡ Some e → e.name ≡ name → ⊥
unfolding named
nameless names name p e none there same =
    let fails : bytes_eq e.name name ≡ false = none_passes (λ (x : ℕ × Entry). bytes_eq x.1.name name) names p e none there in
    let passes : bytes_eq e.name name ≡ true = is_itself e.name name same in
    cc

module _ (names : List (ℕ × Entry)) (positions : Positions) (h : IsIndexed names positions) where
  -- the position of the entry with a name
  known_named : (name : List ℕ) (x : ℕ × Entry) → named names name ≡ Some x → position_of positions name ≡ Some x.0
  known_named name x e =
      let same : x.1.name ≡ name = named_has_name names name x e in
      rw same at (h.is_known x.0 x.1 (named_stands names name x h.entries_ascend e))

  pub named_nowhere : (name : List ℕ) → position_of positions name ≡ None → named names name ≡ None
  named_nowhere name none = by_entry (named names name) refl
    where
      by_entry : (x : Option (ℕ × Entry)) → named names name ≡ x → x ≡ None
      by_entry None e = refl
      by_entry (Some x) e = absurd (absurd_none x.0 (sym none ∙ known_named name x e))

  stands_named : (name : List ℕ) (p : ℕ) (e : Entry) → position_of positions name ≡ Some p → at names p ≡ Some e → e.name ≡ name
  stands_named name p e known there =
      let found : option_map (λ (e : Entry). e.name) (at names p) ≡ Some name = h.stands name p known in
      let here : Some e.name ≡ Some name = rw there at found in
      cc

  pub named_there : (name : List ℕ) (p : ℕ) (e : Entry) → position_of positions name ≡ Some p → at names p ≡ Some e → named names name ≡ Some (p, e)
  named_there name p e known there = by_entry (named names name) refl
    where
      by_entry : (x : Option (ℕ × Entry)) → named names name ≡ x → x ≡ Some (p, e)
      by_entry None none = absurd (nameless names name p e none there (stands_named name p e known there))
      by_entry (Some x) found =
          let position : Some x.0 ≡ Some p = sym (known_named name x found) ∙ known in
          let same : x.0 ≡ p = cc in
          let stands : at names x.0 ≡ Some x.1 = named_stands names name x h.entries_ascend found in
          let entry : x.1 ≡ e = cc in
          rw (← same, ← entry) refl

  -- a known name stands
  pub stands_somewhere : (name : List ℕ) (p : ℕ) → position_of positions name ≡ Some p → at names p ≡ None → ⊥
  stands_somewhere name p known none =
      let found : option_map (λ (e : Entry). e.name) (at names p) ≡ Some name = h.stands name p known in
      let here : None ≡ Some name = rw none at found in
      absurd_none name here

  -- a name that isn't there has no position
  pub unknown : (name : List ℕ) → named names name ≡ None → position_of positions name ≡ None
  unknown name none = by_position (position_of positions name) refl
    where
      by_entry : (p : ℕ) (x : Option Entry) → position_of positions name ≡ Some p → at names p ≡ x → ⊥
      by_entry p None known there = stands_somewhere name p known there
      by_entry p (Some e) known there = nameless names name p e none there (stands_named name p e known there)

      by_position : (x : Option ℕ) → position_of positions name ≡ x → x ≡ None
      by_position None e = refl
      by_position (Some p) e = absurd (by_entry p (at names p) e refl)

-- ---- no names
pub nothing_indexed : (names : List (ℕ × Entry)) (positions : Positions) → names ≡ [] → positions ≡ [] → IsIndexed names positions
unfolding IsStrictlySortedBy
nothing_indexed names positions e f = rw (e, f) (record {
  entries_ascend = tt;
  index_ascends = tt;
  stands = λ name position h. absurd (absurd_none position h);
  is_known = λ position entry h. absurd (absurd_none entry h);
})

-- ---- look-ups, after one entry went
module _ (names later : List (ℕ × Entry)) (p : ℕ) (s : IsAscending names) (went : later ≡ removed names p) where
  pub gone_at : at later p ≡ None
  gone_at = rw went (lookup_gone nat_cmp_total exact_unsigned names p s)

  left_at : (q : ℕ) → is_at (nat_cmp q) p ≡ false → at later q ≡ at names q
  left_at q apart = rw went (lookup_left nat_cmp_total exact_unsigned names q p s apart)

module _ (positions later : Positions) (name : List ℕ) (s : AreAscending positions) (went : later ≡ without_position positions name) where
  gone_of : position_of later name ≡ None
  gone_of = rw went (lookup_gone nat_list_cmp_total exact_bytes positions name s)

  left_of : (n : List ℕ) → is_at (slice_cmp nat_cmp n) name ≡ false → position_of later n ≡ position_of positions n
  left_of n apart = rw went (lookup_left nat_list_cmp_total exact_bytes positions n name s apart)

-- ---- and after one came
module _ (names later : List (ℕ × Entry)) (p : ℕ) (e : Entry) (came : later ≡ put names p e) where
  put_at : at later p ≡ Some e
  put_at = rw came (lookup_put nat_cmp_total exact_unsigned names p e)

  kept_at : (q : ℕ) → is_at (nat_cmp q) p ≡ false → at later q ≡ at names q
  kept_at q apart = rw came (lookup_put_apart nat_cmp_total exact_unsigned names q p e apart)

module _ (positions later : Positions) (name : List ℕ) (p : ℕ) (came : later ≡ with_position positions name p) where
  put_of : position_of later name ≡ Some p
  put_of = rw came (lookup_put nat_list_cmp_total exact_bytes positions name p)

  kept_of : (n : List ℕ) → is_at (slice_cmp nat_cmp n) name ≡ false → position_of later n ≡ position_of positions n
  kept_of n apart = rw came (lookup_put_apart nat_list_cmp_total exact_bytes positions n name p apart)

-- ---- an entry and its name taken out
module _ (names later : List (ℕ × Entry)) (positions rest : Positions) (p : ℕ) (e : Entry) (h : IsIndexed names positions) (there : at names p ≡ Some e) (entry_went : later ≡ removed names p) (name_went : rest ≡ without_position positions e.name) where
  stands_after_exit : (name : List ℕ) (q : ℕ) → position_of rest name ≡ Some q → name_at later q ≡ Some name
  stands_after_exit name q known = elim (name_cases name e.name) [
    | inl same ↦ (let gone : position_of rest name ≡ None = rw same (gone_of positions rest e.name h.index_ascends name_went) in absurd (absurd_none q (sym gone ∙ known)))
    | inr apart ↦ (
        let was : position_of positions name ≡ Some q = sym (left_of positions rest e.name h.index_ascends name_went name apart) ∙ known in
        elim (number_cases q p) [
          | inl same ↦ absurd (name_apart name e.name (sym (stands_named names positions h name p e (rw (← same) was) there)) apart)
          | inr other ↦ ap (option_map (λ (x : Entry). x.name)) (left_at names later p h.entries_ascend entry_went q other) ∙ h.stands name q was
        ])
  ]

  known_after_exit : (q : ℕ) (x : Entry) → at later q ≡ Some x → position_of rest x.name ≡ Some q
  known_after_exit q x stands = elim (number_cases q p) [
    | inl same ↦ (let gone : at later q ≡ None = rw same (gone_at names later p h.entries_ascend entry_went) in absurd (absurd_none x (sym gone ∙ stands)))
    | inr apart ↦ (
        let was : at names q ≡ Some x = sym (left_at names later p h.entries_ascend entry_went q apart) ∙ stands in
        let known : position_of positions x.name ≡ Some q = h.is_known q x was in
        elim (name_cases x.name e.name) [
          | inl same ↦ (
              let both : Some q ≡ Some p = sym known ∙ rw same (h.is_known p e there) in
              absurd (number_apart q p (cc) apart))
          | inr other ↦ left_of positions rest e.name h.index_ascends name_went x.name other ∙ known
        ])
  ]

  pub indexed_after_exit : IsAscending later → AreAscending rest → IsIndexed later rest
  indexed_after_exit s t = record { entries_ascend = s; index_ascends = t; stands = stands_after_exit; is_known = known_after_exit }

-- ---- an entry put where none stood, under a name that none had
module _ (names later : List (ℕ × Entry)) (positions more : Positions) (p : ℕ) (e : Entry) (h : IsIndexed names positions) (vacant : at names p ≡ None) (missing : position_of positions e.name ≡ None) (entry_came : later ≡ put names p e) (name_came : more ≡ with_position positions e.name p) where
  stands_after_entry : (name : List ℕ) (q : ℕ) → position_of more name ≡ Some q → name_at later q ≡ Some name
  stands_after_entry name q known = elim (name_cases name e.name) [
    | inl same ↦ (
        let new : position_of more name ≡ Some p = rw same (put_of positions more e.name p name_came) in
        let both : Some p ≡ Some q = sym new ∙ known in
        let here : p ≡ q = cc in
        rw (← here, same) (ap (option_map (λ (x : Entry). x.name)) (put_at names later p e entry_came)))
    | inr apart ↦ (
        let was : position_of positions name ≡ Some q = sym (kept_of positions more e.name p name_came name apart) ∙ known in
        elim (number_cases q p) [
          | inl same ↦ absurd (stands_somewhere names positions h name q was (rw same vacant))
          | inr other ↦ ap (option_map (λ (x : Entry). x.name)) (kept_at names later p e entry_came q other) ∙ h.stands name q was
        ])
  ]

  known_after_entry : (q : ℕ) (x : Entry) → at later q ≡ Some x → position_of more x.name ≡ Some q
  known_after_entry q x stands = elim (number_cases q p) [
    | inl same ↦ (
        let new : at later q ≡ Some e = rw same (put_at names later p e entry_came) in
        let both : Some e ≡ Some x = sym new ∙ stands in
        let entry : e ≡ x = cc in
        rw (← entry, same) (put_of positions more e.name p name_came))
    | inr apart ↦ (
        let known : position_of positions x.name ≡ Some q = h.is_known q x (sym (kept_at names later p e entry_came q apart) ∙ stands) in
        elim (name_cases x.name e.name) [
          | inl same ↦ absurd (absurd_none q (sym (rw same missing) ∙ known))
          | inr other ↦ kept_of positions more e.name p name_came x.name other ∙ known
        ])
  ]

  pub indexed_after_entry : IsAscending later → AreAscending more → IsIndexed later more
  indexed_after_entry s t = record { entries_ascend = s; index_ascends = t; stands = stands_after_entry; is_known = known_after_entry }

-- ---- an entry put and taken out again
module _ (names with_it again : List (ℕ × Entry)) (positions : Positions) (p : ℕ) (e : Entry) (h : IsIndexed names positions) (vacant : at names p ≡ None) (came : with_it ≡ put names p e) (s : IsAscending with_it) (went : again ≡ removed with_it p) where
  as_before : (q : ℕ) → at again q ≡ at names q
  as_before q = elim (number_cases q p) [
    | inl same ↦ rw same (gone_at with_it again p s went ∙ sym vacant)
    | inr apart ↦ left_at with_it again p s went q apart ∙ kept_at names with_it p e came q apart
  ]

  pub indexed_again : IsAscending again → IsIndexed again positions
  indexed_again t = record {
    entries_ascend = t;
    index_ascends = h.index_ascends;
    stands = λ name q known. ap (option_map (λ (x : Entry). x.name)) (as_before q) ∙ h.stands name q known;
    is_known = λ q x there. h.is_known q x (sym (as_before q) ∙ there);
  }

-- ---- a name whose entry went stands nowhere else
module _ (names later : List (ℕ × Entry)) (positions : Positions) (p : ℕ) (h : IsIndexed names positions) (went : later ≡ removed names p) (s : IsAscending later) where
  other_entry : (name : List ℕ) (x y : ℕ × Entry) → named names name ≡ Some x → x.0 ≡ p → named later name ≡ Some y → ⊥
  other_entry name x y found here again =
      let stands : at later y.0 ≡ Some y.1 = named_stands later name y s again in
      elim (number_cases y.0 p) [
        | inl same ↦ (let gone : at later y.0 ≡ None = rw same (gone_at names later p h.entries_ascend went) in absurd_none y.1 (sym gone ∙ stands))
        | inr apart ↦ (
            let was : at names y.0 ≡ Some y.1 = sym (left_at names later p h.entries_ascend went y.0 apart) ∙ stands in
            let known : position_of positions name ≡ Some y.0 = rw (named_has_name later name y again) at (h.is_known y.0 y.1 was) in
            let both : Some y.0 ≡ Some x.0 = sym known ∙ known_named names positions h name x found in
            number_apart y.0 p (let e : y.0 ≡ x.0 = cc in e ∙ here) apart)
      ]

  nowhere_case : (name : List ℕ) (x y : Option (ℕ × Entry)) → named names name ≡ x → named later name ≡ y → option_map (λ (e : ℕ × Entry). e.0) x ≡ Some p → y ≡ None
  nowhere_case name None y e f here = absurd (absurd_none p here)
  nowhere_case name (Some x) None e f here = refl
  nowhere_case name (Some x) (Some y) e f here = absurd (other_entry name x y e (cc) f)

  pub nowhere_else : (name : List ℕ) → option_map (λ (e : ℕ × Entry). e.0) (named names name) ≡ Some p → named later name ≡ None
  nowhere_else name here = nowhere_case name (named names name) (named later name) refl refl here

-- ---- what a removal leaves
missing_case : (test : ℕ × Entry → Bool) (e : ℕ × Entry) (es rest : List (ℕ × Entry)) (b : Bool) → test e ≡ false → find test es ≡ None → find test rest ≡ None → find test (cond b es (e ∷ rest)) ≡ None
missing_case test e es rest true t none rec = none
missing_case test e es rest false t none rec = rw t rec

still_missing : (test : ℕ × Entry → Bool) (es : List (ℕ × Entry)) (p : ℕ) → find test es ≡ None → find test (removed es p) ≡ None
still_missing test [] p none = refl
still_missing test (e ∷ es) p none =
    let t = first_test test e (find test es) (test e) refl none in
    missing_case test e es (removed es p) (is_at (nat_cmp p) e.0) t.0 t.1 (still_missing test es p t.1)

pub still_nowhere : (names : List (ℕ × Entry)) (p : ℕ) (name : List ℕ) → named names name ≡ None → named (removed names p) name ≡ None
unfolding named
still_nowhere names p name none = still_missing (λ (x : ℕ × Entry). bytes_eq x.1.name name) names p none

-- an entry put where one was taken out stands in its place
put_first : (es : List (ℕ × Entry)) (p : ℕ) (e : Entry) → AllByRecursion (λ k. nat_cmp p k ≡ Less) (keys_of es) → put es p e ≡ (p, e) ∷ es
put_first [] p e all = refl
put_first (x ∷ es) p e all = rw all.0 refl

place_case : (x : ℕ × Entry) (es : List (ℕ × Entry)) (p : ℕ) (e : Entry) (r : Ordering) → nat_cmp p x.0 ≡ r → (r ≡ Less → removed es p ≡ es) → (r ≡ Equal → p ≡ x.0) → (r ≡ Equal → put es p e ≡ (p, e) ∷ es) → put (removed es p) p e ≡ put es p e → put (cond (is_eq r) es (x ∷ removed es p)) p e ≡ match_ordering r ((p, e) ∷ x ∷ es) ((x.0, e) ∷ es) (x ∷ put es p e)
place_case x es p e Less order absent same first rec = rw order (ap (λ (t : List (ℕ × Entry)). (p, e) ∷ x ∷ t) (absent refl))
place_case x es p e Equal order absent same first rec = first refl ∙ ap (λ (k : ℕ). (k, e) ∷ es) (same refl)
place_case x es p e Greater order absent same first rec = rw order (ap (λ (t : List (ℕ × Entry)). x ∷ t) rec)

removal_case : (x : ℕ × Entry) (es rest : List (ℕ × Entry)) (here : Option Entry) (b : Bool) → (here ≡ None → rest ≡ es) → cond b (Some x.1) here ≡ None → cond b es (x ∷ rest) ≡ x ∷ es
removal_case x es rest here true rec none = absurd (absurd_none x.1 (sym none))
removal_case x es rest here false rec none = ap (λ (t : List (ℕ × Entry)). x ∷ t) (rec none)

nothing_removed : (es : List (ℕ × Entry)) (p : ℕ) → at es p ≡ None → removed es p ≡ es
nothing_removed [] p none = refl
nothing_removed (x ∷ es) p none = removal_case x es (removed es p) (at es p) (is_at (nat_cmp p) x.0) (nothing_removed es p) none

below_first : (x : ℕ × Entry) (es : List (ℕ × Entry)) (p : ℕ) → IsAscending (x ∷ es) → nat_cmp p x.0 ≡ Less → removed es p ≡ es
below_first x es p s less = nothing_removed es p (lookup-none (is_at (nat_cmp p)) es (none_below_head nat_cmp_total p x es s less).1)

at_first : (x : ℕ × Entry) (es : List (ℕ × Entry)) (p : ℕ) (e : Entry) → IsAscending (x ∷ es) → p ≡ x.0 → put es p e ≡ (p, e) ∷ es
at_first x es p e s same = put_first es p e (rw same (sorted_head nat_cmp x.0 (keys_of es) s))

pub put_in_place : (names : List (ℕ × Entry)) (p : ℕ) (e : Entry) → IsAscending names → put (removed names p) p e ≡ put names p e
put_in_place [] p e s = refl
put_in_place (x ∷ es) p e s =
    place_case x es p e (nat_cmp p x.0) refl
    (below_first x es p s)
    (λ o. exact_unsigned p x.0 o)
    (λ o. at_first x es p e s (exact_unsigned p x.0 o))
    (put_in_place es p e (sorted_tail nat_cmp x.0 (keys_of es) s))
