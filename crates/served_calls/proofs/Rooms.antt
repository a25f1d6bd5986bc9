-- Fewer bytes than can be stored can be stored.
use Rattle.std.proofs.Common.{◌≡◌, ℕ, zero, suc, ◌+◌, ◌≤◌, Bool, true, List, refl, arith}
use Rattle.std.proofs.lemmas.Bool.{and_from, and_parts, leb-true, le-leb}
use Rattle.user_memory.specs.Memory.{all_pass, is_writable}
use Rattle.user_memory.specs.Pages.{PageState, is_writable_byte}

fewer_pass : (test : ℕ → Bool) (a n most : ℕ) → n ≤ most → all_pass test a most ≡ true → all_pass test a n ≡ true
unfolding all_pass
fewer_pass test a zero most few all = refl
fewer_pass test a (suc n) zero few all = absurd (omega arith)
fewer_pass test a (suc n) (suc most) few all =
    let parts = and_parts _ _ all in
    and_from _ _ parts.0 (fewer_pass test (a + 1) n most (omega arith) parts.1)

pub fewer_writable : (pages : List PageState) (a n most : ℕ) → n ≤ most → is_writable pages a most ≡ true → is_writable pages a n ≡ true
fewer_writable pages a n most few all =
    let parts = and_parts _ _ all in
    and_from _ _ (le-leb _ _ (omega (arith, leb-true _ _ parts.0))) (fewer_pass (is_writable_byte pages) a n most few parts.1)
