-- The names of one directory.
use Rattle.std.proofs.Common.{◌≡◌, ◌≢◌, ◌∙◌, ℕ, ◌+◌, ◌<◌, ◌≤◌, Bool, true, false, List, [], ◌∷◌, cond, Option, Some, None, refl, ap, sym, subst, inl, inr, arith}
use Rattle.std.specs.BTreeMap.{is_at}
use Rattle.std.specs.Cmp.Lexicographic.{slice_cmp}
use Rattle.std.specs.List.{AllByRecursion, find}
use Rattle.std.specs.List.Sorted.{IsStrictlySortedBy}
use Rattle.std.specs.Map.{keys_of}
use Rattle.std.specs.Ordering.{nat_cmp}
use Rattle.std.specs.Str.{bytes_eq}
use Rattle.std.specs.declared.cmp.Ordering.TheVariants.{Less}
use Rattle.std.proofs.lemmas.Cmp.{nat_cmp_total, nat_list_cmp_total}
use Rattle.std.proofs.lemmas.Grind.{common_steps}
use Rattle.std.proofs.lemmas.Map.Lookups.{exact_bytes, exact_unsigned}
use Rattle.std.proofs.lemmas.Map.Text.{is_eq-slice_cmp}
use Rattle.number_maps.specs.NumberMap.{IsAscending, at, changed, put, removed}
use Rattle.file_tables.specs.Contained.{empty_directory, with_next}
use Rattle.file_tables.specs.Entries.{named}
use Rattle.file_tables.specs.declared.state.Directory.{Directory}
use Rattle.file_tables.specs.declared.state.Entry.{Entry}
use Rattle.file_tables.proofs.Lookups.{at_itself, same_or_apart}
use Rattle.tree_laws.specs.Sound.{HasSoundNames, PositionsSound, is_name}
use Rattle.map_lemmas.proofs.Maps.{ascending_put, ascending_removed, put_there, removed_there, same_there}
use Rattle.tree_laws.proofs.Views.{directory_changed}

-- ---- names, as a test
itself : (n : List ℕ) → bytes_eq n n ≡ true
itself n = sym (is_eq-slice_cmp n n) ∙ at_itself nat_list_cmp_total exact_bytes n

pub same_name : (n m : List ℕ) → bytes_eq n m ≡ true → n ≡ m
same_name n m h = elim (same_or_apart nat_list_cmp_total exact_bytes n m) [
  | inl same ↦ same
  | inr apart ↦ (let e : is_at (slice_cmp nat_cmp n) m ≡ bytes_eq n m = is_eq-slice_cmp n m in cc)
]

abbrev has_name : List ℕ → ℕ × Entry → Bool
has_name name e = bytes_eq e.1.name name

none_is : {X : Type 0} (x : X) → None ≡ Some x → ⊥
none_is x h = cc

not_true : (b : Bool) → b ≡ false → b ≡ true → ⊥
not_true b fails passes = cc

unnamed_case : (x : ℕ × Entry) (xs : List (ℕ × Entry)) (name : List ℕ) (p : ℕ) (e : Entry) (b c : Bool) → bytes_eq x.1.name name ≡ b → cond b (Some x) (find (has_name name) xs) ≡ None → cond c (Some x.1) (at xs p) ≡ Some e → (find (has_name name) xs ≡ None → at xs p ≡ Some e → e.name ≢ name) → e.name ≢ name
unnamed_case x xs name p e true c t h there rec same = absurd (let g : None ≡ Some x = sym h in none_is x g)
unnamed_case x xs name p e false true t h there rec same =
    let one : x.1 ≡ e = cc in
    let passes : bytes_eq x.1.name name ≡ true = ap (λ (n : List ℕ). bytes_eq n name) (ap (λ (y : Entry). y.name) one ∙ same) ∙ itself name in
    absurd (not_true (bytes_eq x.1.name name) t passes)
unnamed_case x xs name p e false false t h there rec same = rec h there same

-- a name that isn't there is no entry's
pub unnamed : (names : List (ℕ × Entry)) (name : List ℕ) → named names name ≡ None → (p : ℕ) (e : Entry) → at names p ≡ Some e → e.name ≢ name
unfolding named
unnamed [] name h p e there same = absurd (none_is e there)
unnamed (x ∷ xs) name h p e there same = unnamed_case x xs name p e (bytes_eq x.1.name name) (is_at (nat_cmp p) x.0) refl h there (λ g t. unnamed xs name g p e t) same

all_found : (P : ℕ → Type 0) (test : ℕ × Entry → Bool) (es : List (ℕ × Entry)) (x : ℕ × Entry) → AllByRecursion P (keys_of es) → find test es ≡ Some x → P x.0
all_found P test [] x all h = absurd (none_is x h)
all_found P test (e ∷ es) x all h = by_test (all_found P test es x all.1) (test e) h
  where
    by_test : (find test es ≡ Some x → P x.0) → (b : Bool) → cond b (Some e) (find test es) ≡ Some x → P x.0
    by_test rec true g = let same : e ≡ x = cc in subst (λ (y : ℕ × Entry). P y.0) same all.0
    by_test rec false g = rec g

greater_is_other : (p q : ℕ) → nat_cmp p q ≡ Less → is_at (nat_cmp q) p ≡ false
greater_is_other p q h = grind (arith, common_steps)

abbrev pub Stands : List (ℕ × Entry) → List ℕ → ℕ × Entry → Type 0
Stands names name x = (at names x.0 ≡ Some x.1) × (x.1.name ≡ name)

first_stands : (y : ℕ × Entry) (ys : List (ℕ × Entry)) → at (y ∷ ys) y.0 ≡ Some y.1
first_stands y ys = rw (at_itself nat_cmp_total exact_unsigned y.0) refl

later_stands : (y : ℕ × Entry) (ys : List (ℕ × Entry)) (p : ℕ) (e : Entry) → nat_cmp y.0 p ≡ Less → at ys p ≡ Some e → at (y ∷ ys) p ≡ Some e
later_stands y ys p e less h = rw (greater_is_other y.0 p less) h

stands_case : (y : ℕ × Entry) (ys : List (ℕ × Entry)) (name : List ℕ) (x : ℕ × Entry) (b : Bool) → bytes_eq y.1.name name ≡ b → AllByRecursion (λ k. nat_cmp y.0 k ≡ Less) (keys_of ys) → cond b (Some y) (find (has_name name) ys) ≡ Some x → (find (has_name name) ys ≡ Some x → Stands ys name x) → Stands (y ∷ ys) name x
stands_case y ys name x true t all h rec =
    let same : y ≡ x = cc in
    subst (λ (z : ℕ × Entry). Stands (y ∷ ys) name z) same (first_stands y ys, same_name y.1.name name t)
stands_case y ys name x false t all h rec =
    let r : Stands ys name x = rec h in
    (later_stands y ys x.0 x.1 (all_found (λ k. nat_cmp y.0 k ≡ Less) (has_name name) ys x all h) r.0, r.1)

-- a name that is there is that of the entry at its position
pub found_stands : (names : List (ℕ × Entry)) (name : List ℕ) (x : ℕ × Entry) → IsAscending names → named names name ≡ Some x → Stands names name x
unfolding named IsStrictlySortedBy
found_stands [] name x s h = absurd (none_is x h)
found_stands (y ∷ ys) name x s h = stands_case y ys name x (bytes_eq y.1.name name) refl s.0 h (λ g. found_stands ys name x s.1 g)

-- ---- sound names
nothing_ascends : IsAscending {V = Entry} []
unfolding IsStrictlySortedBy
nothing_ascends = tt

pub empty_sound : (things place : ℕ) → HasSoundNames things (empty_directory place)
empty_sound things place = record {
  ascend = nothing_ascends;
  least = omega arith;
  counted = omega arith;
  behind = λ p e h. absurd (none_is e h);
  placed = λ p e h. absurd (none_is e h);
  plain = λ p e h. absurd (none_is e h);
  once = λ p r e f h g same. absurd (none_is e h);
}

pub moved_sound : (things place : ℕ) (d : Directory) → HasSoundNames things d → HasSoundNames things (record d { parent = place })
moved_sound things place d h = record { ascend = h.ascend; least = h.least; counted = h.counted; behind = h.behind; placed = h.placed; plain = h.plain; once = h.once }

pub more_sound : (m n : ℕ) (d : Directory) → m ≤ n → HasSoundNames m d → HasSoundNames n d
more_sound m n d le h = record { ascend = h.ascend; least = h.least; counted = (let c : d.last ≤ m + 2 = h.counted in omega arith); behind = h.behind; placed = h.placed; plain = h.plain; once = h.once }

pub left_sound : (things p : ℕ) (d : Directory) → HasSoundNames things d → HasSoundNames things (record d { names = removed d.names p })
left_sound things p d h = record {
  ascend = ascending_removed d.names p h.ascend;
  least = h.least;
  counted = h.counted;
  behind = λ r e g. h.behind r e (removed_there d.names p r e h.ascend g);
  placed = λ r e g. h.placed r e (removed_there d.names p r e h.ascend g);
  plain = λ r e g. h.plain r e (removed_there d.names p r e h.ascend g);
  once = λ r s e f g i same. h.once r s e f (removed_there d.names p r e h.ascend g) (removed_there d.names p s f h.ascend i) same;
}

vacant_case : (things : ℕ) (d : Directory) (o : Option Entry) → at d.names (d.last + 1) ≡ o → HasSoundNames things d → o ≡ None
vacant_case things d None h s = refl
vacant_case things d (Some e) h s = absurd (let le : d.last + 1 ≤ d.last = s.placed (d.last + 1) e h in omega arith)

-- the next position is free
pub next_vacant : (things : ℕ) (d : Directory) → HasSoundNames things d → at d.names (d.last + 1) ≡ None
next_vacant things d s = vacant_case things d (at d.names (d.last + 1)) refl s

module _ (things : ℕ) (d : Directory) (name : List ℕ) (child : ℕ) (s : HasSoundNames things d) (missing : named d.names name ≡ None) (plain : is_name name ≡ true) where
  abbrev new : Entry
  new = record { name = name; child = child }

  abbrev more : List (ℕ × Entry)
  more = put d.names (d.last + 1) new

  next_behind : (p : ℕ) (e : Entry) → at more p ≡ Some e → 2 < p
  next_behind p e h = elim (put_there d.names (d.last + 1) p new e h) [
    | inl here ↦ (let c : 2 ≤ d.last = s.least in let at_next : p ≡ d.last + 1 = here.0 in omega arith)
    | inr old ↦ s.behind p e old
  ]

  next_placed : (p : ℕ) (e : Entry) → at more p ≡ Some e → p ≤ d.last + 1
  next_placed p e h = elim (put_there d.names (d.last + 1) p new e h) [
    | inl here ↦ (let at_next : p ≡ d.last + 1 = here.0 in omega arith)
    | inr old ↦ (let c : p ≤ d.last = s.placed p e old in omega arith)
  ]

  next_plain : (p : ℕ) (e : Entry) → at more p ≡ Some e → is_name e.name ≡ true
  next_plain p e h = elim (put_there d.names (d.last + 1) p new e h) [
    | inl here ↦ subst (λ (f : Entry). is_name f.name ≡ true) here.1 plain
    | inr old ↦ s.plain p e old
  ]

  next_once : (p r : ℕ) (e f : Entry) → at more p ≡ Some e → at more r ≡ Some f → e.name ≡ f.name → p ≡ r
  next_once p r e f h g same = elim (put_there d.names (d.last + 1) p new e h) [
    | inl here ↦ elim (put_there d.names (d.last + 1) r new f g) [
      | inl there ↦ here.0 ∙ sym there.0
      | inr old ↦ absurd (unnamed d.names name missing r f old (sym same ∙ sym (ap (λ (x : Entry). x.name) here.1)))
    ]
    | inr first ↦ elim (put_there d.names (d.last + 1) r new f g) [
      | inl there ↦ absurd (unnamed d.names name missing p e first (same ∙ sym (ap (λ (x : Entry). x.name) there.1)))
      | inr second ↦ s.once p r e f first second same
    ]
  ]

  pub next_sound : HasSoundNames (things + 1) (with_next d name child)
  next_sound = record {
    ascend = ascending_put d.names (d.last + 1) new s.ascend;
    least = (let c : 2 ≤ d.last = s.least in omega arith);
    counted = (let c : d.last ≤ things + 2 = s.counted in omega arith);
    behind = next_behind;
    placed = next_placed;
    plain = next_plain;
    once = next_once;
  }

-- an entry is found by its name
pub found_by_name : (things : ℕ) (d : Directory) (p : ℕ) (e : Entry) → HasSoundNames things d → at d.names p ≡ Some e → named d.names e.name ≡ Some (p, e)
found_by_name things d p e s there = by_name (named d.names e.name) refl
  where
    by_name : (o : Option (ℕ × Entry)) → named d.names e.name ≡ o → o ≡ Some (p, e)
    by_name None h = absurd (unnamed d.names e.name h p e there refl)
    by_name (Some x) h =
        let g : Stands d.names e.name x = found_stands d.names e.name x s.ascend h in
        let place : x.0 ≡ p = s.once x.0 p x.1 e g.0 there g.1 in
        let entry : x.1 ≡ e = same_there d.names p x.1 e (ap (at d.names) (sym place) ∙ g.0) there in
        ap (λ (k : ℕ). Some (k, x.1)) place ∙ ap (λ (y : Entry). Some (p, y)) entry

-- ---- all directories
pub positions_changed : (things q : ℕ) (t : List (ℕ × Directory)) (d new : Directory) → at t q ≡ Some d → HasSoundNames things new → PositionsSound things t → PositionsSound things (changed t q new)
positions_changed things q t d new there sound all k x h = elim (directory_changed t q d new there k x h) [
  | inl same ↦ subst (λ (y : Directory). HasSoundNames things y) (sym same) sound
  | inr old ↦ all k x old
]

pub positions_more : (m n : ℕ) (t : List (ℕ × Directory)) → m ≤ n → PositionsSound m t → PositionsSound n t
positions_more m n t le all k x h = more_sound m n x le (all k x h)

pub positions_put : (things q : ℕ) (t : List (ℕ × Directory)) (new : Directory) → HasSoundNames things new → PositionsSound things t → PositionsSound things (put t q new)
positions_put things q t new sound all k x h = elim (put_there t q k new x h) [
  | inl same ↦ subst (λ (y : Directory). HasSoundNames things y) same.1 sound
  | inr old ↦ all k x old
]

pub positions_removed : (things q : ℕ) (t : List (ℕ × Directory)) → IsAscending t → PositionsSound things t → PositionsSound things (removed t q)
positions_removed things q t s all k x h = all k x (removed_there t q k x s h)
