-- The clauses of the next change, from what the search found.
use Rattle.std.proofs.Common.{◌≡◌, ℕ, ◌+◌, true, List, [], ◌∷◌, subst}
use Rattle.std.specs.Prelude.{Option, Some, None, MatchOption, IfSome}
use Rattle.user_memory.specs.declared.change.Change.{Change}
use Rattle.user_memory.specs.Pages.{PageState}
use Rattle.user_memory.specs.Memory.{bytes_at, is_readable}
use Rattle.user_memory.specs.Changes.{changes, IsNext}
use Rattle.user_memory.proofs.Runs.{changes_none, changes_some}
use Rattle.user_memory.proofs.Kept.{readable_change}

next_in : (r : Option Change) (ps : List PageState) (from : ℕ) → IsNext ps from r
    → MatchOption r (changes ps from ≡ []) (λ c. changes ps from ≡ (c.at, bytes_at ps c.at c.length) ∷ changes ps (c.at + c.length))
next_in None ps from h = changes_none ps from h
next_in (Some c) ps from h = changes_some ps from c h

pub next_of : (r : Option Change) (qs ps : List PageState) (from : ℕ) → qs ≡ ps → IsNext qs from r
    → MatchOption r (changes ps from ≡ []) (λ c. changes ps from ≡ (c.at, bytes_at ps c.at c.length) ∷ changes ps (c.at + c.length))
next_of r qs ps from same h = next_in r ps from (subst (λ (xs : List PageState). IsNext xs from r) same h)

readable_in : (r : Option Change) (ps : List PageState) (from : ℕ) → IsNext ps from r → IfSome r (λ c. is_readable ps c.at c.length ≡ true)
readable_in None ps from h = tt
readable_in (Some c) ps from h = readable_change ps from c h

pub readable_of : (r : Option Change) (qs ps : List PageState) (from : ℕ) → qs ≡ ps → IsNext qs from r → IfSome r (λ c. is_readable ps c.at c.length ≡ true)
readable_of r qs ps from same h = readable_in r ps from (subst (λ (xs : List PageState). IsNext xs from r) same h)
