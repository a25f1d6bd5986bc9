-- Tables that were read can be walked, and the walk's answer makes them well formed.
use Rattle.std.proofs.Common.{◌≡◌, ℕ, zero, suc, ◌<◌, List, [], ◌∷◌, length, get_or, Some, sym, subst, arith}
use Rattle.std.specs.List.{AllByRecursion}
use Rattle.std.proofs.lemmas.List.{length-map}
use Rattle.std.proofs.lemmas.Option.{none-some, same_Some}
use Rattle.rule_walk.specs.Flow.{EntriesWithin, JumpsWithin, jump_of}
use Rattle.kernel_values.specs.declared.rules.RuleTarget.{RuleTarget}
use Rattle.kernel_values.specs.declared.rules.RuleTarget.TheVariants as target_of
use Rattle.rule_bytes.specs.Rules.{Rule}
use Rattle.rule_bytes.specs.Tables.{IsLinked, JumpWithin, Table, entries_of, flow, jump_in, reach_of}

jump_within : (n : ℕ) (t : RuleTarget) (j : ℕ) → JumpWithin n t → jump_in t ≡ Some j → j < n
jump_within n target_of.Drop j h e = absurd (none-some j e)
jump_within n target_of.Accept j h e = absurd (none-some j e)
jump_within n target_of.Queue j h e = absurd (none-some j e)
jump_within n target_of.Return j h e = absurd (none-some j e)
jump_within n (target_of.Jump to) j h e = subst (λ (k : ℕ). k < n) (same_Some to j e) h.1
jump_within n (target_of.Error bytes) j h e = absurd (none-some j e)
jump_within n (target_of.Mark mark mask) j h e = absurd (none-some j e)

jumps_in : (n : ℕ) (rs : List Rule) → AllByRecursion (λ r. JumpWithin n r.target) rs → (i j : ℕ) → jump_of (flow rs) i ≡ Some j → j < n
jumps_in n [] h i j e = absurd (none-some j e)
jumps_in n (r ∷ rs) h zero j e = jump_within n r.target j h.0 e
jumps_in n (r ∷ rs) h (suc i) j e = jumps_in n rs h.1 i j e

all_within : (n : ℕ) (is : List ℕ) → AllByRecursion (λ i. i < n) is → (k : ℕ) → k < length is → get_or is k 0 < n
all_within n [] h k lt = absurd (omega (arith, lt))
all_within n (i ∷ is) h zero lt = h.0
all_within n (i ∷ is) h (suc k) lt = all_within n is h.1 k (omega (arith, lt))

pub is_walked : (t : Table) → IsLinked t → JumpsWithin (flow t.rules) × EntriesWithin (flow t.rules) (entries_of t)
is_walked t h =
    let len : length (flow t.rules) ≡ length t.rules = length-map t.rules reach_of in (
      λ i j e. subst (λ (n : ℕ). j < n) (sym len) (jumps_in (length t.rules) t.rules h.jumps i j e),
      λ k lt. subst (λ (n : ℕ). get_or (entries_of t) k 0 < n) (sym len) (all_within (length t.rules) (entries_of t) h.entries k lt),
    )
