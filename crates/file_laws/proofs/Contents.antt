-- The bytes of a file after some were written.
use Rattle.std.proofs.Common.{◌≡◌, ℕ, ◌+◌, ◌≤◌, true, List, [], ◌++◌, length, take, drop, Option, Some, None, is_some, refl, ap, arith, length-append}
use Rattle.std.proofs.lemmas.Grind.{common_steps}
use Rattle.std.specs.Option.{unwrap_or}
use Rattle.number_maps.specs.NumberMap.{at}
use Rattle.file_bytes.specs.Row.{resized, written}
use Rattle.file_tree.specs.Contents.{content_of, overwritten, overwritten_as}
use Rattle.map_lemmas.proofs.Maps.{at_changed}

overwritten_case : (t : List (ℕ × List ℕ)) (inode start : ℕ) (bytes : List ℕ) (o : Option (List ℕ)) → at t inode ≡ o → is_some o ≡ true → content_of (overwritten_as t inode start bytes o) inode ≡ written (unwrap_or o []) start bytes
overwritten_case t inode start bytes None h there = cc
overwritten_case t inode start bytes (Some content) h there = ap (λ o. unwrap_or o []) (at_changed t inode content (written content start bytes) h)

pub content_overwritten : (t : List (ℕ × List ℕ)) (inode start : ℕ) (bytes : List ℕ) → is_some (at t inode) ≡ true → content_of (overwritten t inode start bytes) inode ≡ written (content_of t inode) start bytes
unfolding overwritten
content_overwritten t inode start bytes there = overwritten_case t inode start bytes (at t inode) refl there

length_resized : (xs : List ℕ) (n : ℕ) → length (resized xs n) ≡ n
length_resized xs n = grind (arith, common_steps)

behind : (front back : List ℕ) (n : ℕ) → length front ≡ n → drop n (front ++ back) ≡ back
behind front back n h = grind (arith, common_steps)

pub written_there : (xs : List ℕ) (start : ℕ) (bytes : List ℕ) → take (length bytes) (drop start (written xs start bytes)) ≡ bytes
unfolding written
written_there xs start bytes =
    let rest : List ℕ = bytes ++ drop (start + length bytes) xs in
    rw (behind (resized xs start) rest start (length_resized xs start)) (grind (arith, common_steps))

pub written_reaches : (xs : List ℕ) (start : ℕ) (bytes : List ℕ) → start + length bytes ≤ length (written xs start bytes)
unfolding written
written_reaches xs start bytes =
    let rest : List ℕ = drop (start + length bytes) xs in
    omega (arith, length-append (resized xs start) (bytes ++ rest), length-append bytes rest, length_resized xs start)
