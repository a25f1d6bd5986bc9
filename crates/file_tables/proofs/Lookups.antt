-- Look-ups in maps whose keys ascend, after one entry came or went.
use Rattle.std.proofs.Common.{◌≡◌, ◌∙◌, List, [], ◌∷◌, Bool, true, false, cond, Option, Some, None, refl, ap, ◌⊎◌, inl, inr, subst}
use Rattle.std.specs.BTreeMap.{insert_entry, is_at}
use Rattle.std.specs.Cmp.{IsTotalOrder, eq_by_cmp_equiv}
use Rattle.std.specs.List.Sorted.{IsStrictlySortedBy}
use Rattle.std.specs.Map.{keys_of, lookup, remove_entry}
use Rattle.std.specs.Ordering.{eq_by_cmp, is_eq, match_ordering}
use Rattle.std.specs.declared.cmp.Ordering.{Ordering}
use Rattle.std.specs.declared.cmp.Ordering.TheVariants.{Less, Equal, Greater}
use Rattle.std.proofs.lemmas.Map.{lookup-remove_entry}
use Rattle.std.proofs.lemmas.Map.Keys.{IsDistinct-from_sorted}
use Rattle.std.proofs.lemmas.Map.Lookups.{CmpEqualImpliesEq}

is_equal : (r : Ordering) → is_eq r ≡ true → r ≡ Equal
is_equal Less h = cc
is_equal Equal h = refl
is_equal Greater h = cc

module _ {K : Type 0} {R : K → K → Ordering} (o : IsTotalOrder R) (exact : CmpEqualImpliesEq R) where
  pub at_itself : (k : K) → is_at (R k) k ≡ true
  at_itself k = (eq_by_cmp_equiv o).refl k

  -- one key, or another
  pub same_or_apart : (q k : K) → (q ≡ k) ⊎ (is_at (R q) k ≡ false)
  same_or_apart q k = by_test (is_at (R q) k) refl
    where
      by_test : (b : Bool) → is_at (R q) k ≡ b → (q ≡ k) ⊎ (is_at (R q) k ≡ false)
      by_test true h = inl (exact q k (is_equal (R q k) h))
      by_test false h = inr h

  one_key : (k x y : K) → is_at (R k) x ≡ true → is_at (R k) y ≡ eq_by_cmp R x y
  one_key k x y h = ap (λ (z : K). is_eq (R z y)) (exact k x (is_equal (R k x) h))

module _ {K X : Type 0} {R : K → K → Ordering} (o : IsTotalOrder R) (exact : CmpEqualImpliesEq R) where
  here_case : (k : K) (v : X) (e : K × X) (es rest : List (K × X)) (r : Ordering) → R k e.0 ≡ r → is_at (R k) k ≡ true → lookup (is_at (R k)) rest ≡ Some v → lookup (is_at (R k)) (match_ordering r ((k, v) ∷ e ∷ es) ((e.0, v) ∷ es) (e ∷ rest)) ≡ Some v
  here_case k v e es rest Less order self rec = rw self refl
  here_case k v e es rest Equal order self rec = rw order refl
  here_case k v e es rest Greater order self rec = rw order rec

  pub lookup_put : (es : List (K × X)) (k : K) (v : X) → lookup (is_at (R k)) (insert_entry R es k v) ≡ Some v
  lookup_put [] k v = rw (at_itself o exact k) refl
  lookup_put (e ∷ es) k v = here_case k v e es (insert_entry R es k v) (R k e.0) refl (at_itself o exact k) (lookup_put es k v)

  other_case : (q k : K) (v : X) (e : K × X) (es rest : List (K × X)) (r : Ordering) → R k e.0 ≡ r → is_at (R q) k ≡ false → lookup (is_at (R q)) rest ≡ lookup (is_at (R q)) es → lookup (is_at (R q)) (match_ordering r ((k, v) ∷ e ∷ es) ((e.0, v) ∷ es) (e ∷ rest)) ≡ lookup (is_at (R q)) (e ∷ es)
  other_case q k v e es rest Less order apart rec = rw apart refl
  other_case q k v e es rest Equal order apart rec =
      let there : is_at (R q) e.0 ≡ false = subst (λ (x : K). is_at (R q) x ≡ false) (exact k e.0 order) apart in
      rw there refl
  other_case q k v e es rest Greater order apart rec = ap (λ (t : Option X). cond (is_at (R q) e.0) (Some e.1) t) rec

  pub lookup_put_apart : (es : List (K × X)) (q k : K) (v : X) → is_at (R q) k ≡ false → lookup (is_at (R q)) (insert_entry R es k v) ≡ lookup (is_at (R q)) es
  lookup_put_apart [] q k v apart = rw apart refl
  lookup_put_apart (e ∷ es) q k v apart = other_case q k v e es (insert_entry R es k v) (R k e.0) refl apart (lookup_put_apart es q k v apart)

  lookup_removed : (es : List (K × X)) (q k : K) → IsStrictlySortedBy R (keys_of es) → lookup (is_at (R q)) (remove_entry (is_at (R k)) es) ≡ cond (is_at (R k) q) None (lookup (is_at (R q)) es)
  lookup_removed es q k s = lookup-remove_entry (eq_by_cmp_equiv o) (is_at (R k)) (λ x y h. one_key o exact k x y h) q es (IsDistinct-from_sorted R (keys_of es) s)

  pub lookup_gone : (es : List (K × X)) (k : K) → IsStrictlySortedBy R (keys_of es) → lookup (is_at (R k)) (remove_entry (is_at (R k)) es) ≡ None
  lookup_gone es k s = lookup_removed es k k s ∙ rw (at_itself o exact k) refl

  pub lookup_left : (es : List (K × X)) (q k : K) → IsStrictlySortedBy R (keys_of es) → is_at (R q) k ≡ false → lookup (is_at (R q)) (remove_entry (is_at (R k)) es) ≡ lookup (is_at (R q)) es
  lookup_left es q k s apart =
      let back : is_at (R k) q ≡ false = (eq_by_cmp_equiv o).symm k q ∙ apart in
      lookup_removed es q k s ∙ rw back refl
