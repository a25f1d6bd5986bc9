-- What a sink took in pieces.
use Rattle.std.proofs.Common.{◌≡◌, ℕ, ◌+◌, List, ◌++◌, take, drop, refl, sym, ap, ◌∙◌, append_assoc}
use Rattle.std.specs.Prelude.{Option, Some, None}
use Rattle.std.proofs.Math.Seq.{take-add}
use Rattle.io_edge.specs.Told.{appended}

appended_twice : (o : Option (List ℕ)) (a b : List ℕ) → appended (appended o a) b ≡ appended o (a ++ b)
appended_twice None a b = refl
appended_twice (Some bytes) a b = ap (λ (xs : List ℕ). Some xs) (append_assoc bytes a b)

-- the last piece may be cut out of the rest of the text as a slice
pub appended_more : (first so_far after : Option (List ℕ)) (text : List ℕ) (at n : ℕ) (piece : List ℕ) → piece ≡ take n (drop at text) → so_far ≡ appended first (take at text) → after ≡ appended so_far piece → after ≡ appended first (take (at + n) text)
appended_more first so_far after text at n piece e f g =
    g ∙ rw (f, e) (appended_twice first (take at text) (take n (drop at text)) ∙ ap (appended first) (sym (take-add at n text)))
