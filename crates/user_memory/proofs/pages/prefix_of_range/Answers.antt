use Rattle.std.proofs.Common.{◌≡◌, ◌+◌, ◌-◌, ◌/◌, ◌^◌, ◌∙◌, ℕ, refl, subst, sym, inl, inr, arith}
use Rattle.std.specs.Prelude.{min}
use Rattle.std.proofs.lemmas.Bool.{le-leb, cases_lt}
use Rattle.user_memory.specs.Places.{IsPlaceOf, IsPlaceFrom}
use Rattle.user_memory.specs.Rights.{has_rights}
use Rattle.user_memory.specs.States.{states_of}
use Rattle.user_memory.proofs.Places.{next_place, same_rights}
use Rattle.user_memory.proofs.Prefixes.{passing_all, passing_ends}
use Rattle.user_memory.proofs.Ranges.{all_from}
use Rattle.user_memory.proofs.pages.prefix_of_range.Goals as goal

pub loop-done-init : goal.loop-done-init
loop-done-init c =
    let number : c.args.at / 4096 + (c.place_from-first.result - c.place_from-first.result) ≡ c.args.at / 4096 = omega arith in
    record {
      within = omega arith;
      after = omega arith;
      next = subst (λ (n : ℕ). IsPlaceFrom c.args.pages.now n c.place_from-first.result) (sym number) c.place_from-first.ensures;
      here = λ some. omega arith;
      allowed = λ a lo hi. absurd (omega arith);
      placed = λ a lo hi. absurd (omega arith);
    }

pub is_allowed-requires-clause-place : goal.is_allowed-requires-clause-place
is_allowed-requires-clause-place c =
    let here : (c.args.at + c.loop-done.done) / 4096 ≡ c.args.at / 4096 + (c.loop-done.place - c.place_from-first.result) = c.loop-done.invariant.here (omega arith) in
    subst (λ (n : ℕ). IsPlaceFrom c.args.pages.now n c.loop-done.place) (sym here) c.loop-done.invariant.next

pub loop-done-preserved : goal.loop-done-preserved
loop-done-preserved c =
    let old = c.loop-done.invariant in
    let first = c.place_from-first.result in
    let start = c.args.at + c.loop-done.done in
    let here : start / 4096 ≡ c.args.at / 4096 + (c.loop-done.place - first) = old.here (omega arith) in
    let place : IsPlaceOf c.args.pages.now (start / 4096) c.loop-done.place = c.if-not-is_allowed.ensures.placed refl in
    let number : start / 4096 + 1 ≡ c.args.at / 4096 + ((c.loop-done.place + 1) - first) = omega (arith, old.after) in
    record {
      within = omega arith;
      after = omega (arith, old.after);
      next = subst (λ (n : ℕ). IsPlaceFrom c.args.pages.now n (c.loop-done.place + 1)) number (next_place c.args.pages.now (start / 4096) c.loop-done.place c.requires place);
      here = λ some. omega (arith, here, old.after);
      allowed = λ a lo hi. elim (cases_lt a start) [
        | inl before ↦ old.allowed a lo before
        | inr from ↦ let page : a / 4096 ≡ start / 4096 = omega arith in same_rights c.args.rights (states_of c.args.pages.now) a start page ∙ sym c.if-not-is_allowed.ensures.allowed
      ];
      placed = λ a lo hi. elim (cases_lt a start) [
        | inl before ↦ old.placed a lo before
        | inr from ↦
            let page : start / 4096 ≡ a / 4096 = omega arith in
            let index : c.loop-done.place ≡ first + (a / 4096 - c.args.at / 4096) = omega (arith, old.after) in
            subst (λ (i : ℕ). IsPlaceOf c.args.pages.now (a / 4096) i) index (subst (λ (n : ℕ). IsPlaceOf c.args.pages.now n c.loop-done.place) page place)
      ];
    }

pub returns-then-not-is_allowed-clause-length : goal.returns-then-not-is_allowed-clause-length
returns-then-not-is_allowed-clause-length c =
    passing_ends c.loop-done.done (min c.args.length (2 ^ 32 - c.args.at)) (has_rights c.args.rights (states_of c.args.pages.now)) c.args.at (omega arith) c.loop-done.invariant.allowed (sym c.if-not-is_allowed.ensures.allowed)

pub returns-then-not-is_allowed-clause-allowed : goal.returns-then-not-is_allowed-clause-allowed
returns-then-not-is_allowed-clause-allowed c =
    rw (le-leb (c.args.at + c.loop-done.done) (2 ^ 32) (omega arith), all_from c.loop-done.done (has_rights c.args.rights (states_of c.args.pages.now)) c.args.at c.loop-done.invariant.allowed) refl

pub returns-clause-length : goal.returns-clause-length
returns-clause-length c =
    let count : c.min-end.result ≡ min c.args.length (2 ^ 32 - c.args.at) = omega arith in
    count ∙ passing_all (min c.args.length (2 ^ 32 - c.args.at)) (has_rights c.args.rights (states_of c.args.pages.now)) c.args.at (λ b lo hi. c.loop-done.invariant.allowed b lo (omega arith))

pub returns-clause-allowed : goal.returns-clause-allowed
returns-clause-allowed c =
    let all = all_from c.min-end.result (has_rights c.args.rights (states_of c.args.pages.now)) c.args.at (λ b lo hi. c.loop-done.invariant.allowed b lo (omega arith)) in
    rw (le-leb (c.args.at + c.min-end.result) (2 ^ 32) (omega arith), all) refl
