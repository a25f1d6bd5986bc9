-- What one call on the slab does to the values by number.
use Rattle.std.proofs.Common.{◌≡◌, ℕ, List, [], ◌∷◌, Option, Some, None, IsSomeAnd, sym, ap, ◌∙◌}
use Rattle.slab.specs.Slab.{Slab, ContainsKey, Updates, get, with_value}
use Rattle.slab.proofs.SlabLemmas.{Updates-with_value}
use Rattle.number_maps.specs.NumberMap.{IsAscending, after, after_key, at, put}
use Rattle.file_tables.specs.SlabMap.{AreHeld, held}
use Rattle.file_tables.specs.declared.slot.Slot.{Slot}
use Rattle.file_tables.proofs.Slots.{at_held, found, names_found, value_in, after_held, are_held_after_change, are_held_later, held_after_change, held_first, held_none, is_there, slot_is_there}

module _ {V : Type 0} where
  -- the place that a look-up finds has a value
  pub slot_at : (s : Slab (Slot V)) (ps : List (ℕ × ℕ)) (number place : ℕ) → AreHeld (get s) ps → Some place ≡ at ps number → ContainsKey s place
  slot_at s ps number place h there = slot_is_there (get s) ps number place h (sym there)

  written : (s : Slab (Slot V)) (ps : List (ℕ × ℕ)) (number place : ℕ) (v : V) → AreHeld (get s) ps → Some place ≡ at ps number → Updates s (with_value s place (record { number = number; value = v })) place (Some (record { number = number; value = v }))
  written s ps number place v h there = Updates-with_value s place (record { number = number; value = v }) (slot_at s ps number place h there)

  pub held_after_write : (s : Slab (Slot V)) (ps : List (ℕ × ℕ)) (number place : ℕ) (v : V) → AreHeld (get s) ps → IsAscending ps → Some place ≡ at ps number → held (get (with_value s place (record { number = number; value = v }))) ps ≡ put (held (get s) ps) number v
  held_after_write s ps number place v h sorted there =
      let u = written s ps number place v h there in
      held_after_change (get s) (get (with_value s place (record { number = number; value = v }))) ps number place v h sorted (sym there) u.changed u.others

  pub are_held_after_write : (s : Slab (Slot V)) (ps : List (ℕ × ℕ)) (number place : ℕ) (v : V) → AreHeld (get s) ps → Some place ≡ at ps number → AreHeld (get (with_value s place (record { number = number; value = v }))) ps
  are_held_after_write s ps number place v h there =
      let u = written s ps number place v h there in
      are_held_after_change (get s) (get (with_value s place (record { number = number; value = v }))) ps number place v h (sym there) u.changed u.others

  number_is : (x : Option (Slot V)) (slot : Slot V) (number : ℕ) → IsSomeAnd x (λ held. held.number ≡ number) → x ≡ Some slot → slot.number ≡ number
  number_is None slot number named e = absurd named
  number_is (Some held) slot number named e = cc

  -- the slot at the place that a look-up finds
  slot_number : (s : Slab (Slot V)) (ps : List (ℕ × ℕ)) (number place : ℕ) (slot : Slot V) → AreHeld (get s) ps → Some place ≡ at ps number → get s place ≡ Some slot → slot.number ≡ number
  slot_number s ps number place slot h there e = number_is (get s place) slot number (names_found (get s) ps number place h (sym there)) e

  -- the value that a look-up finds is that of the slot
  pub value_held : (s : Slab (Slot V)) (ps : List (ℕ × ℕ)) (now : List (ℕ × V)) (number place : ℕ) (slot : Slot V) → AreHeld (get s) ps → held (get s) ps ≡ now → Some place ≡ at ps number → get s place ≡ Some slot → at now number ≡ Some slot.value
  value_held s ps now number place slot h is there e = sym (ap (λ t. at t number) is) ∙ at_held (get s) ps number h ∙ ap (found (get s)) (sym there) ∙ ap value_in e

  -- a value changed in place
  pub held_in_place : (s : Slab (Slot V)) (ps : List (ℕ × ℕ)) (now : List (ℕ × V)) (number place : ℕ) (slot : Slot V) (v : V) → AreHeld (get s) ps → IsAscending ps → held (get s) ps ≡ now → Some place ≡ at ps number → get s place ≡ Some slot → held (get (with_value s place (record { number = slot.number; value = v }))) ps ≡ put now number v
  held_in_place s ps now number place slot v h sorted is there e = rw (slot_number s ps number place slot h there e) (held_after_write s ps number place v h sorted there) ∙ ap (λ t. put t number v) is

  pub are_held_in_place : (s : Slab (Slot V)) (ps : List (ℕ × ℕ)) (number place : ℕ) (slot : Slot V) (v : V) → AreHeld (get s) ps → Some place ≡ at ps number → get s place ≡ Some slot → AreHeld (get (with_value s place (record { number = slot.number; value = v }))) ps
  are_held_in_place s ps number place slot v h there e = rw (slot_number s ps number place slot h there e) (are_held_after_write s ps number place v h there)

  -- the entries left after a number
  left : (s : Slab (Slot V)) (ps : List (ℕ × ℕ)) (number : Option ℕ) → AreHeld (get s) ps → after (held (get s) ps) number ≡ held (get s) (after ps number)
  left s ps None h = ap (held (get s)) (λ i. ps)
  left s ps (Some number) h = after_held (get s) ps number h

  left_are_held : (s : Slab (Slot V)) (ps : List (ℕ × ℕ)) (number : Option ℕ) → AreHeld (get s) ps → AreHeld (get s) (after ps number)
  left_are_held s ps None h = h
  left_are_held s ps (Some number) h = are_held_later (get s) ps number h

  pub slot_after : (s : Slab (Slot V)) (ps later : List (ℕ × ℕ)) (number : Option ℕ) (next place : ℕ) → AreHeld (get s) ps → after ps number ≡ (next, place) ∷ later → ContainsKey s place
  slot_after s ps later number next place h e = is_there (get s place) next (rw e at (left_are_held s ps number h)).0

  pub no_entry_after : (s : Slab (Slot V)) (ps : List (ℕ × ℕ)) (number : Option ℕ) → AreHeld (get s) ps → after ps number ≡ [] → after (held (get s) ps) number ≡ []
  no_entry_after s ps number h e = left s ps number h ∙ ap (held (get s)) e ∙ held_none (get s)

  pub entry_after : (s : Slab (Slot V)) (ps : List (ℕ × ℕ)) (number : Option ℕ) (next place : ℕ) (slot : Slot V) → AreHeld (get s) ps → after ps number ≡ (next, place) ∷ after_key ps next → get s place ≡ Some slot → after (held (get s) ps) number ≡ (next, slot.value) ∷ after_key (held (get s) ps) next
  entry_after s ps number next place slot h e there =
      left s ps number h ∙ ap (held (get s)) e ∙ held_first (get s) next place (after_key ps next) slot there ∙ ap (λ xs. (next, slot.value) ∷ xs) (sym (after_held (get s) ps next h))
