-- A map from numbers whose values stand in slots: each number's place, and the slot at a place.
use Rattle.std.specs.Prelude.{◌≡◌, ℕ, List, [], ◌∷◌, Option, Some, None, IsSomeAnd}
use Rattle.file_tables.specs.declared.slot.Slot.{Slot}

-- a number's entry stands before others, where its slot has a value
abbrev pub entry_before : {V : Type 0} → ℕ → Option (Slot V) → List (ℕ × V) → List (ℕ × V)
entry_before number (Some slot) others = (number, slot.value) ∷ others
entry_before number None others = others

-- the values by number
unfoldable pub held : {V : Type 0} → (ℕ → Option (Slot V)) → List (ℕ × ℕ) → List (ℕ × V)
held slots [] = []
held slots (place ∷ places) = entry_before place.0 (slots place.1) (held slots places)

-- the slot at each number's place names that number, so no two numbers share a slot
abbrev pub AreHeld : {V : Type 0} → (ℕ → Option (Slot V)) → List (ℕ × ℕ) → Type 0
AreHeld slots [] = Unit {0}
AreHeld slots (place ∷ places) = IsSomeAnd (slots place.1) (λ slot. slot.number ≡ place.0) × AreHeld slots places
