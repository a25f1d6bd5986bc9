-- Pages whose bytes from a place on were cleared.
use Rattle.std.proofs.Common.{◌≡◌, ℕ, ◌+◌, ◌-◌, ◌/◌, ◌%◌, ◌<◌, ◌≤◌, List, ◌++◌, length, get_or, take, replicate, Option, Some, None, IfSome, refl, arith, ap, ◌∙◌, sym, inl, inr}
use Rattle.std.proofs.lemmas.Grind.{common_steps}
use Rattle.std.proofs.lemmas.Bool.{cases_eq}
use Rattle.file_bytes.specs.Row.{Cuts}
use Rattle.file_bytes.specs.Pages.{Puts, byte_at, byte_in}
use Rattle.number_maps.specs.NumberMap.{at}
use Rattle.file_bytes.proofs.Pieces.{put_here, put_elsewhere}

cleared_before : (page : List ℕ) (start k : ℕ) → start ≤ length page → k < start → get_or (take start page ++ replicate (4096 - start) 0) k 0 ≡ get_or page k 0
cleared_before page start k fits h = grind (arith, common_steps)

cleared_after : (page : List ℕ) (start k : ℕ) → start ≤ length page → start ≤ k → k < 4096 → get_or (take start page ++ replicate (4096 - start) 0) k 0 ≡ 0
cleared_after page start k fits h low = grind (arith, common_steps)

-- the byte at a place goes by what is found for its page
byte_of : (pages : List (ℕ × List ℕ)) (i : ℕ) (x : Option (List ℕ)) → at pages (i / 4096) ≡ x → byte_at pages i ≡ byte_in x (i % 4096)
unfolding byte_at
byte_of pages i x e = rw e refl

byte_same : (old new : List (ℕ × List ℕ)) (i : ℕ) → at new (i / 4096) ≡ at old (i / 4096) → byte_at new i ≡ byte_at old i
unfolding byte_at
byte_same old new i e = rw e refl

-- the pages past a place were dropped, and then its own page was cleared from it on
record Steps (old mid new : List (ℕ × List ℕ)) (end : ℕ) : Type 0 where
  kept : (q : ℕ) → q < (end + 4096 - 1) / 4096 → at mid q ≡ at old q
  dropped : (q : ℕ) → (end + 4096 - 1) / 4096 ≤ q → at mid q ≡ None
  none : at mid (end / 4096) ≡ None → new ≡ mid
  put : (page : List ℕ) → length page ≡ 4096 → at mid (end / 4096) ≡ Some page → Puts mid new (end / 4096) (take (end % 4096) page ++ replicate (4096 - end % 4096) 0)

cuts_none : (old mid new : List (ℕ × List ℕ)) (end : ℕ) → Steps old mid new end → at mid (end / 4096) ≡ None → Cuts (byte_at old) (byte_at new) end
cuts_none old mid new end s absent =
    let same : new ≡ mid = s.none absent in
    record {
      before = λ i h. ap (λ ps. byte_at ps i) same ∙ byte_same old mid i (s.kept (i / 4096) (omega arith));
      after = λ i h. ap (λ ps. byte_at ps i) same ∙ elim (cases_eq (i / 4096) (end / 4096)) [
        | inl e ↦ byte_of mid i None (ap (at mid) e ∙ absent)
        | inr e ↦ byte_of mid i None (s.dropped (i / 4096) (omega arith))
      ];
    }

cuts_some : (old mid new : List (ℕ × List ℕ)) (end : ℕ) (page : List ℕ) → Steps old mid new end → length page ≡ 4096 → at mid (end / 4096) ≡ Some page → Cuts (byte_at old) (byte_at new) end
cuts_some old mid new end page s whole found =
    let puts = s.put page whole found in
    let room : end % 4096 ≤ length page = omega (arith, whole) in
    record {
      before = λ i h. put_elsewhere mid new _ _ i puts (λ e. cleared_before page (end % 4096) (i % 4096) room (omega arith) ∙ sym (byte_of mid i (Some page) (ap (at mid) e ∙ found))) ∙ byte_same old mid i (s.kept (i / 4096) (omega arith));
      after = λ i h. elim (cases_eq (i / 4096) (end / 4096)) [
        | inl e ↦ put_here mid new _ _ i puts e ∙ cleared_after page (end % 4096) (i % 4096) room (omega arith) (omega arith)
        | inr e ↦ put_elsewhere mid new _ _ i puts (λ d. absurd (e d)) ∙ byte_of mid i None (s.dropped (i / 4096) (omega arith))
      ];
    }

cuts_found : (old mid new : List (ℕ × List ℕ)) (end : ℕ) (x : Option (List ℕ)) → at mid (end / 4096) ≡ x → IfSome x (λ page. length page ≡ 4096) → Steps old mid new end → Cuts (byte_at old) (byte_at new) end
cuts_found old mid new end None found whole s = cuts_none old mid new end s found
cuts_found old mid new end (Some page) found whole s = cuts_some old mid new end page s whole found

pub cut_by_pages : (old mid new : List (ℕ × List ℕ)) (end : ℕ)
    → ((q : ℕ) → q < (end + 4096 - 1) / 4096 → at mid q ≡ at old q) → ((q : ℕ) → (end + 4096 - 1) / 4096 ≤ q → at mid q ≡ None)
    → IfSome (at mid (end / 4096)) (λ page. length page ≡ 4096) → (at mid (end / 4096) ≡ None → new ≡ mid)
    → ((page : List ℕ) → length page ≡ 4096 → at mid (end / 4096) ≡ Some page → Puts mid new (end / 4096) (take (end % 4096) page ++ replicate (4096 - end % 4096) 0))
    → Cuts (byte_at old) (byte_at new) end
cut_by_pages old mid new end kept dropped whole none put = cuts_found old mid new end _ refl whole (record { kept = kept; dropped = dropped; none = none; put = put })
