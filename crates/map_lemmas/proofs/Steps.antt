-- What an answer tells of the steps that led to it.
use Rattle.std.proofs.Common.{◌≡◌, Bool, true, false, Result, Ok, Err, cond, refl, ap}
use Rattle.kernel_values.specs.Outcome.{◌>>=◌, ◌>>◌, refused_if, settled}
use Rattle.kernel_values.specs.declared.errno.Errno.{Errno}

-- both steps answered
pub both_answered : {A B : Type 0} (r : Result A Errno) (f : A → Result B Errno) (b : B) → (r >>= f) ≡ Ok b → (a : A) × (r ≡ Ok a) × (f a ≡ Ok b)
both_answered (Ok a) f b h = (a, refl, h)
both_answered (Err e) f b h = cc

-- nothing was refused
pub not_refused : {B : Type 0} (b : Bool) (e : Errno) (r : Result B Errno) (x : B) → (refused_if b e >> r) ≡ Ok x → (b ≡ false) × (r ≡ Ok x)
not_refused true e r x h = cc
not_refused false e r x h = (refl, h)

pub other_branch : {B : Type 0} (b : Bool) (e : Errno) (r : Result B Errno) (x : B) → cond b (Err e) r ≡ Ok x → (b ≡ false) × (r ≡ Ok x)
other_branch true e r x h = cc
other_branch false e r x h = (refl, h)

-- an operation that answered
pub operation_answered : {A S : Type 0} (s : S) (r : Result (A × S) Errno) (x : A) → (settled s r).0 ≡ Ok x → r ≡ Ok (x, (settled s r).1)
operation_answered s (Ok y) x h = let e : y.0 ≡ x = cc in ap (λ z. Ok (z, y.1)) e
operation_answered s (Err e) x h = cc

pub same_answer : {A S : Type 0} (a b : A) (s t : S) → ◌≡◌ {A = Result (A × S) Errno} (Ok (a, s)) (Ok (b, t)) → (a ≡ b) × (s ≡ t)
same_answer {A} {S} a b s t h = let both : ◌≡◌ {A = A × S} (a, s) (b, t) = cc in (ap (λ (x : A × S). x.0) both, ap (λ (x : A × S). x.1) both)

pub same_value : {A : Type 0} (a b : A) → ◌≡◌ {A = Result A Errno} (Ok a) (Ok b) → a ≡ b
same_value a b h = cc

-- what a refusal and an answer both leave
pub kept_by_settled : {A S : Type 0} (P : S → Type 0) (s : S) (r : Result (A × S) Errno) → P s → ((x : A) (after : S) → r ≡ Ok (x, after) → P after) → P (settled s r).1
kept_by_settled P s (Ok x) before after = after x.0 x.1 refl
kept_by_settled P s (Err e) before after = before
