-- Positions of names by keys that have them.
use Rattle.std.proofs.Common.{◌≡◌, ℕ, List, [], ◌∷◌, Bool, true, false, cond, Some, refl, ap}
use Rattle.std.specs.BTreeMap.{insert_entry, is_at}
use Rattle.std.specs.Cmp.Lexicographic.{slice_cmp}
use Rattle.std.specs.List.{AllByRecursion}
use Rattle.std.specs.List.Sorted.{IsStrictlySortedBy}
use Rattle.std.specs.Map.{keys_of, lookup, remove_entry}
use Rattle.std.specs.Ordering.{match_ordering, nat_cmp}
use Rattle.std.specs.declared.cmp.Ordering.TheVariants.{Less, Equal, Greater}
use Rattle.file_tables.specs.NameIndex.{AreAscending, Positions, by_name, position_of, with_position, without_position}

module _ {K : Type 0} (name_of : K → List ℕ) where
  found : (test : List ℕ → Bool) (es : List (K × ℕ)) → lookup (λ k. test (name_of k)) es ≡ lookup test (by_name name_of es)
  found test [] = refl
  found test (e ∷ es) = elim (test (name_of e.0)) as (λ b. cond b (Some e.1) (lookup (λ k. test (name_of k)) es) ≡ cond b (Some e.1) (lookup test (by_name name_of es))) [
    | true ↦ refl
    | false ↦ found test es
  ]

  -- the position of a name
  pub position_found : (name : List ℕ) (es : List (K × ℕ)) → lookup (is_at (λ k. slice_cmp nat_cmp name (name_of k))) es ≡ position_of (by_name name_of es) name
  position_found name es = found (is_at (slice_cmp nat_cmp name)) es

  taken_out : (test : List ℕ → Bool) (es : List (K × ℕ)) → by_name name_of (remove_entry (λ k. test (name_of k)) es) ≡ remove_entry test (by_name name_of es)
  taken_out test [] = refl
  taken_out test (e ∷ es) = elim (test (name_of e.0)) as (λ b. by_name name_of (cond b es (e ∷ remove_entry (λ k. test (name_of k)) es)) ≡ cond b (by_name name_of es) ((name_of e.0, e.1) ∷ remove_entry test (by_name name_of es))) [
    | true ↦ refl
    | false ↦ ap (λ (ns : Positions). (name_of e.0, e.1) ∷ ns) (taken_out test es)
  ]

  -- without a name
  pub by_name_without : (name : List ℕ) (es : List (K × ℕ)) → by_name name_of (remove_entry (is_at (λ k. slice_cmp nat_cmp name (name_of k))) es) ≡ without_position (by_name name_of es) name
  by_name_without name es = taken_out (is_at (slice_cmp nat_cmp name)) es

  -- with a name
  pub by_name_with : (key : K) (position : ℕ) (es : List (K × ℕ)) → by_name name_of (insert_entry (λ a b. slice_cmp nat_cmp (name_of a) (name_of b)) es key position) ≡ with_position (by_name name_of es) (name_of key) position
  by_name_with key position [] = refl
  by_name_with key position (e ∷ es) = elim (slice_cmp nat_cmp (name_of key) (name_of e.0)) as (λ o.
      by_name name_of (match_ordering o ((key, position) ∷ e ∷ es) ((e.0, position) ∷ es) (e ∷ insert_entry (λ a b. slice_cmp nat_cmp (name_of a) (name_of b)) es key position))
      ≡ match_ordering o ((name_of key, position) ∷ by_name name_of (e ∷ es)) ((name_of e.0, position) ∷ by_name name_of es) ((name_of e.0, e.1) ∷ with_position (by_name name_of es) (name_of key) position)) [
        | Less ↦ refl
        | Equal ↦ refl
        | Greater ↦ ap (λ (ns : Positions). (name_of e.0, e.1) ∷ ns) (by_name_with key position es)
      ]

  all_names : (P : List ℕ → Type 0) (es : List (K × ℕ)) → AllByRecursion (λ k. P (name_of k)) (keys_of es) → AllByRecursion P (keys_of (by_name name_of es))
  all_names P [] all = tt
  all_names P (e ∷ es) all = (all.0, all_names P es all.1)

  -- the names ascend as the keys do
  pub names_ascend : (es : List (K × ℕ)) → IsStrictlySortedBy (λ a b. slice_cmp nat_cmp (name_of a) (name_of b)) (keys_of es) → AreAscending (by_name name_of es)
  unfolding IsStrictlySortedBy
  names_ascend [] s = tt
  names_ascend (e ∷ es) s = (all_names (λ n. slice_cmp nat_cmp (name_of e.0) n ≡ Less) es s.0, names_ascend es s.1)
