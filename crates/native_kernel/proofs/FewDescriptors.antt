-- A limit that is set allows no more descriptors than the greatest limit of them.
use Rattle.std.proofs.Common.{◌≡◌, ℕ, ◌≤◌, ◌^◌, List, Some, length, slice_get, slice_set, ap, sym, ◌∙◌, subst, arith, inl, inr}
use Rattle.std.proofs.lemmas.Bool.{cases_eq}
use Rattle.std.proofs.lemmas.List.{get_or-set_other, get_or-set_same, length-set}
use Rattle.std.proofs.lemmas.Option.{slice_get-get_or}
use Rattle.kernel_values.specs.declared.times.Limit.{Limit}
use Rattle.native_kernel.specs.LimitState.{AllowsFew}

set_here : (held : List Limit) (new : Limit) → length held ≡ 16 → slice_get (slice_set held 7 new) 7 ≡ Some new
set_here held new whole = slice_get-get_or (slice_set held 7 new) 7 new (omega (arith, length-set held 7 new)) ∙ ap (λ l. Some l) (get_or-set_same held 7 new new (omega arith))

set_elsewhere : (held : List Limit) (resource : ℕ) (new : Limit) → length held ≡ 16 → (resource ≡ 7 → ⊥) → slice_get (slice_set held resource new) 7 ≡ slice_get held 7
set_elsewhere held resource new whole other =
    slice_get-get_or (slice_set held resource new) 7 new (omega (arith, length-set held resource new))
    ∙ ap (λ l. Some l) (get_or-set_other held resource 7 new new (λ e. other (sym e)))
    ∙ sym (slice_get-get_or held 7 new (omega arith))

pub few_kept : (held : List Limit) (resource : ℕ) (new : Limit) → length held ≡ 16 → AllowsFew (slice_get held 7) → new.soft ≤ new.hard → (resource ≡ 7 → new.hard ≤ 2 ^ 20) → AllowsFew (slice_get (slice_set held resource new) 7)
few_kept held resource new whole kept order most = elim (cases_eq resource 7) [
  | inl e ↦ subst (λ r. AllowsFew (slice_get (slice_set held r new) 7)) (sym e) (rw (set_here held new whole) (order, most e))
  | inr other ↦ rw (set_elsewhere held resource new whole other) kept
]
