-- Bytes that are put behind those that were taken.
use Rattle.std.proofs.Common.{◌≡◌, ℕ, ◌+◌, List, [], ◌++◌, length, take, drop, replicate, refl, ap, ◌∙◌, arith, length-append}
use Rattle.std.proofs.lemmas.List.{append-nil, drop_all, drop_at, length-replicate, take_all, take_at}
use Rattle.scratch_region.specs.Region.{RegionState, bytes_of, next_span, with_bytes_of, with_zeros}
use Rattle.control_repack.specs.Regions.{with_taken}

-- bytes that are put into the zeros of a new span
pub put_behind : (r : RegionState) (bytes : List ℕ) (n : ℕ) → length bytes ≡ n → with_bytes_of (with_zeros r n) (next_span r n) bytes ≡ with_taken r bytes
put_behind r bytes n all =
    let whole : length (r.taken ++ replicate n 0) ≡ length r.taken + n = simp (length-append, length-replicate) refl in
    let front : take (length r.taken) (r.taken ++ replicate n 0) ≡ r.taken = take_at r.taken (replicate n 0) (length r.taken) refl in
    let none : drop (length r.taken + n) (r.taken ++ replicate n 0) ≡ [] = drop_all (length r.taken + n) (r.taken ++ replicate n 0) (omega (arith, whole)) in
    rw (front, none, append-nil bytes, ← all) refl

-- the bytes of a span behind those that were taken
pub bytes_behind : (r : RegionState) (bytes : List ℕ) → bytes_of (with_taken r bytes) (next_span r (length bytes)) ≡ bytes
bytes_behind r bytes = ap (take (length bytes)) (drop_at r.taken bytes (length r.taken) refl) ∙ take_all (length bytes) bytes (omega arith)
