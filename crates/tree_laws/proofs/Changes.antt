-- A name that came or went, and a directory that lies elsewhere, by what look-ups give.
use Rattle.std.proofs.Common.{◌≡◌, ◌≢◌, ◌∙◌, ℕ, ◌+◌, List, Option, Some, None, is_some, refl, ap, sym, subst, inl, inr, arith, true}
use Rattle.number_maps.specs.NumberMap.{IsAscending, at, changed, put, removed}
use Rattle.file_tables.specs.Contained.{empty_directory, entered, left, with_next}
use Rattle.file_tables.specs.Entries.{named}
use Rattle.file_tables.specs.Places.{moved_as, moved_into}
use Rattle.file_tables.specs.declared.state.Directory.{Directory}
use Rattle.file_tables.specs.declared.state.Entry.{Entry}
use Rattle.tree_laws.specs.Sound.{HasSoundNames, PositionsSound, is_name}
use Rattle.tree_laws.specs.Views.{entry_in, lies_in}
use Rattle.map_lemmas.proofs.Maps.{ascending_changed, at_changed, at_changed_apart, at_gone, at_put, at_put_apart, at_removed_apart, not_both, one_or_other, same_there}
use Rattle.tree_laws.proofs.Positions.{left_sound, moved_sound, next_sound, next_vacant, positions_changed, positions_more}
use Rattle.tree_laws.proofs.Views.{entry_changed, entry_changed_apart, entry_there, lies_changed, lies_nowhere, lies_there, no_entries, same_entry, same_lies}

-- an entry is gone, and all else is as it was
pub record Loses (t u : List (ℕ × Directory)) (q p : ℕ) : Type 0 where
  pub gone : entry_in u q p ≡ None
  pub others : (k r : ℕ) → (k ≡ q → r ≢ p) → entry_in u k r ≡ entry_in t k r
  pub lies : (k : ℕ) → lies_in u k ≡ lies_in t k

-- an entry came, and all else is as it was
pub record Gains (t u : List (ℕ × Directory)) (q p : ℕ) (f : Entry) : Type 0 where
  pub vacant : entry_in t q p ≡ None
  pub new : entry_in u q p ≡ Some f
  pub others : (k r : ℕ) → (k ≡ q → r ≢ p) → entry_in u k r ≡ entry_in t k r
  pub lies : (k : ℕ) → lies_in u k ≡ lies_in t k

-- ---- a name goes
left_is : (t : List (ℕ × Directory)) (q : ℕ) (n : List ℕ) (d : Directory) (x : ℕ × Entry) → at t q ≡ Some d → named d.names n ≡ Some x → left t q n ≡ changed t q (record d { names = removed d.names x.0 })
unfolding left
left_is t q n d x there found = rw (there, found) refl

module _ (t : List (ℕ × Directory)) (q : ℕ) (n : List ℕ) (d : Directory) (x : ℕ × Entry) (there : at t q ≡ Some d) (found : named d.names n ≡ Some x) where
  abbrev less : Directory
  less = record d { names = removed d.names x.0 }

  less_others : IsAscending d.names → (k r : ℕ) → (k ≡ q → r ≢ x.0) → entry_in (changed t q less) k r ≡ entry_in t k r
  less_others s k r other = elim (one_or_other k q) [
    | inl same ↦ ap (λ (z : ℕ). entry_in (changed t q less) z r) same ∙ (entry_changed t q d less there r ∙ (at_removed_apart d.names r x.0 (other same) ∙ (sym (entry_there t q r d there) ∙ sym (ap (λ (z : ℕ). entry_in t z r) same))))
    | inr apart ↦ entry_changed_apart t q d less there k r apart
  ]

  pub left_loses : IsAscending d.names → Loses t (left t q n) q x.0
  left_loses s = subst (λ (u : List (ℕ × Directory)). Loses t u q x.0) (sym (left_is t q n d x there found)) (record {
    gone = entry_changed t q d less there x.0 ∙ at_gone d.names x.0 s;
    others = less_others s;
    lies = λ k. lies_changed t q d less there k refl;
  })

  pub left_positions : (things : ℕ) → PositionsSound things t → PositionsSound things (left t q n)
  left_positions things all = subst (λ (u : List (ℕ × Directory)). PositionsSound things u) (sym (left_is t q n d x there found)) (positions_changed things q t d less there (left_sound things x.0 d (all q d there)) all)

  pub left_ascends : IsAscending t → IsAscending (left t q n)
  left_ascends s = subst (λ (u : List (ℕ × Directory)). IsAscending u) (sym (left_is t q n d x there found)) (ascending_changed t q less s)

  -- each directory was there, with the same last position
  pub left_before : (k : ℕ) (y : Directory) → at (left t q n) k ≡ Some y → (b : Directory) × (at t k ≡ Some b) × (y.last ≡ b.last)
  left_before k y h = elim (one_or_other k q) [
    | inl same ↦ (let new : at (left t q n) k ≡ Some less = ap (λ (u : List (ℕ × Directory)). at u k) (left_is t q n d x there found) ∙ (ap (at (changed t q less)) same ∙ at_changed t q d less there) in
        let one : y ≡ less = same_there (left t q n) k y less h new in
        (d, ap (at t) same ∙ there, ap (λ (z : Directory). z.last) one))
    | inr other ↦ (y, sym (ap (λ (u : List (ℕ × Directory)). at u k) (left_is t q n d x there found) ∙ at_changed_apart t k q less other) ∙ h, refl)
  ]

-- ---- a name comes
entered_is : (t : List (ℕ × Directory)) (q : ℕ) (n : List ℕ) (i : ℕ) (d : Directory) → at t q ≡ Some d → named d.names n ≡ None → entered t q n i ≡ changed t q (with_next d n i)
unfolding entered
entered_is t q n i d there missing = rw (there, missing) refl

module _ (t : List (ℕ × Directory)) (q : ℕ) (n : List ℕ) (i : ℕ) (d : Directory) (there : at t q ≡ Some d) (missing : named d.names n ≡ None) where
  more_others : (k r : ℕ) → (k ≡ q → r ≢ d.last + 1) → entry_in (changed t q (with_next d n i)) k r ≡ entry_in t k r
  more_others k r other = elim (one_or_other k q) [
    | inl same ↦ ap (λ (z : ℕ). entry_in (changed t q (with_next d n i)) z r) same ∙ (entry_changed t q d (with_next d n i) there r ∙ (at_put_apart d.names r (d.last + 1) (record { name = n; child = i }) (other same) ∙ (sym (entry_there t q r d there) ∙ sym (ap (λ (z : ℕ). entry_in t z r) same))))
    | inr apart ↦ entry_changed_apart t q d (with_next d n i) there k r apart
  ]

  pub entered_gains : (things : ℕ) → HasSoundNames things d → Gains t (entered t q n i) q (d.last + 1) (record { name = n; child = i })
  entered_gains things sound = subst (λ (u : List (ℕ × Directory)). Gains t u q (d.last + 1) (record { name = n; child = i })) (sym (entered_is t q n i d there missing)) (record {
    vacant = entry_there t q (d.last + 1) d there ∙ next_vacant things d sound;
    new = entry_changed t q d (with_next d n i) there (d.last + 1) ∙ at_put d.names (d.last + 1) (record { name = n; child = i });
    others = more_others;
    lies = λ k. lies_changed t q d (with_next d n i) there k refl;
  })

  pub entered_positions : (things : ℕ) → is_name n ≡ true → PositionsSound things t → PositionsSound (things + 1) (entered t q n i)
  entered_positions things plain all = subst (λ (u : List (ℕ × Directory)). PositionsSound (things + 1) u) (sym (entered_is t q n i d there missing)) (positions_changed (things + 1) q t d (with_next d n i) there (next_sound things d n i (all q d there) missing plain) (positions_more things (things + 1) t (omega arith) all))

  pub entered_ascends : IsAscending t → IsAscending (entered t q n i)
  entered_ascends s = subst (λ (u : List (ℕ × Directory)). IsAscending u) (sym (entered_is t q n i d there missing)) (ascending_changed t q (with_next d n i) s)

-- ---- a new directory
module _ (t : List (ℕ × Directory)) (i q : ℕ) where
  abbrev made : List (ℕ × Directory)
  made = put t i (empty_directory q)

  pub made_lies : lies_in made i ≡ Some q
  made_lies = lies_there made i (empty_directory q) (at_put t i (empty_directory q))

  pub made_lies_apart : (k : ℕ) → k ≢ i → lies_in made k ≡ lies_in t k
  made_lies_apart k other = same_lies t made k (at_put_apart t k i (empty_directory q) other)

  -- it has no names, as where there was no directory
  pub made_entries : at t i ≡ None → (k r : ℕ) → entry_in made k r ≡ entry_in t k r
  made_entries none k r = elim (one_or_other k i) [
    | inl same ↦ ap (λ (z : ℕ). entry_in made z r) same ∙ (entry_there made i r (empty_directory q) (at_put t i (empty_directory q)) ∙ sym (ap (λ (z : ℕ). entry_in t z r) same ∙ no_entries t i r none))
    | inr other ↦ same_entry t made k r (at_put_apart t k i (empty_directory q) other)
  ]

-- ---- a directory goes
module _ (t : List (ℕ × Directory)) (i : ℕ) (s : IsAscending t) where
  pub gone_lies : lies_in (removed t i) i ≡ None
  gone_lies = lies_nowhere (removed t i) i (at_gone t i s)

  pub gone_lies_apart : (k : ℕ) → k ≢ i → lies_in (removed t i) k ≡ lies_in t k
  gone_lies_apart k other = same_lies t (removed t i) k (at_removed_apart t k i other)

  pub gone_entry : (r : ℕ) → entry_in (removed t i) i r ≡ None
  gone_entry r = no_entries (removed t i) i r (at_gone t i s)

  pub gone_entry_apart : (k r : ℕ) → k ≢ i → entry_in (removed t i) k r ≡ entry_in t k r
  gone_entry_apart k r other = same_entry t (removed t i) k r (at_removed_apart t k i other)

-- ---- a directory lies elsewhere, where it is one
pub record Moved (t u : List (ℕ × Directory)) (i q : ℕ) : Type 0 where
  pub entries : (k r : ℕ) → entry_in u k r ≡ entry_in t k r
  pub apart : (k : ℕ) → k ≢ i → lies_in u k ≡ lies_in t k
  pub lies : (z : ℕ) → lies_in u i ≡ Some z → z ≡ q
  pub there : is_some (lies_in u i) ≡ is_some (lies_in t i)

same_value : (a b : ℕ) → Some a ≡ Some b → a ≡ b
same_value a b h = cc

no_value : (o : Option ℕ) (z q : ℕ) → o ≡ None → o ≡ Some z → z ≡ q
no_value o z q none h = absurd (not_both o z none h)

moved_case : (t : List (ℕ × Directory)) (i q : ℕ) (o : Option Directory) → at t i ≡ o → Moved t (moved_as t i q o) i q
moved_case t i q None h = record {
  entries = λ k r. refl;
  apart = λ k other. refl;
  lies = λ z g. no_value (lies_in t i) z q (lies_nowhere t i h) g;
  there = refl;
}
moved_case t i q (Some d) h =
    let new : Directory = record d { parent = q } in
    let lies : lies_in (changed t i new) i ≡ Some q = lies_there (changed t i new) i new (at_changed t i d new h) in
    record {
      entries = λ k r. elim (one_or_other k i) [
        | inl same ↦ ap (λ (z : ℕ). entry_in (changed t i new) z r) same ∙ (entry_changed t i d new h r ∙ sym (ap (λ (z : ℕ). entry_in t z r) same ∙ entry_there t i r d h))
        | inr other ↦ entry_changed_apart t i d new h k r other
      ];
      apart = λ k other. same_lies t (changed t i new) k (at_changed_apart t k i new other);
      lies = λ z g. same_value z q (sym g ∙ lies);
      there = ap is_some lies ∙ sym (ap is_some (lies_there t i d h));
    }

pub into_moved : (t : List (ℕ × Directory)) (i q : ℕ) → Moved t (moved_into t i q) i q
unfolding moved_into
into_moved t i q = moved_case t i q (at t i) refl

moved_positions_case : (things i q : ℕ) (t : List (ℕ × Directory)) (o : Option Directory) → at t i ≡ o → PositionsSound things t → PositionsSound things (moved_as t i q o)
moved_positions_case things i q t None h all = all
moved_positions_case things i q t (Some d) h all = positions_changed things i t d (record d { parent = q }) h (moved_sound things q d (all i d h)) all

pub moved_positions : (things i q : ℕ) (t : List (ℕ × Directory)) → PositionsSound things t → PositionsSound things (moved_into t i q)
unfolding moved_into
moved_positions things i q t all = moved_positions_case things i q t (at t i) refl all

moved_ascends_case : (i q : ℕ) (t : List (ℕ × Directory)) (o : Option Directory) → IsAscending t → IsAscending (moved_as t i q o)
moved_ascends_case i q t None s = s
moved_ascends_case i q t (Some d) s = ascending_changed t i (record d { parent = q }) s

pub moved_ascends : (i q : ℕ) (t : List (ℕ × Directory)) → IsAscending t → IsAscending (moved_into t i q)
unfolding moved_into
moved_ascends i q t s = moved_ascends_case i q t (at t i) s
