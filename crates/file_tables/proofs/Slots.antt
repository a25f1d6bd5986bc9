-- Values by number, through the places of their slots.
use Rattle.std.proofs.Common.{◌≡◌, ◌≢◌, ℕ, List, [], ◌∷◌, Option, Some, None, IsSome, IsSomeAnd, Bool, true, false, nat_lt, cond, inl, inr, refl, sym, ap, ◌∙◌, arith}
use Rattle.std.proofs.lemmas.Grind.{common_steps}
use Rattle.std.proofs.lemmas.Bool.{cases_eq}
use Rattle.std.proofs.lemmas.Map.{NonePasses, lookup-none}
use Rattle.std.proofs.lemmas.Map.Entries.{none_below_head}
use Rattle.std.proofs.lemmas.Map.Keys.{sorted_head, sorted_tail}
use Rattle.std.proofs.lemmas.Cmp.{nat_cmp_total}
use Rattle.std.specs.declared.cmp.Ordering.{Ordering}
use Rattle.std.specs.declared.cmp.Ordering.TheVariants.{Less, Equal, Greater}
use Rattle.std.specs.List.{AllByRecursion}
use Rattle.std.specs.List.Sorted.{IsStrictlySortedBy}
use Rattle.std.specs.Map.{keys_of, lookup, remove_entry}
use Rattle.std.specs.BTreeMap.{insert_entry, is_at}
use Rattle.std.specs.Ordering.{is_eq, match_ordering, nat_cmp}
use Rattle.number_maps.specs.NumberMap.{IsAscending, after_key, at, put, removed}
use Rattle.file_tables.specs.SlabMap.{AreHeld, entry_before, held}
use Rattle.file_tables.specs.declared.slot.Slot.{Slot}

not_at : (number first other : ℕ) (rest : Option ℕ) → cond (is_at (nat_cmp number) first) (Some other) rest ≡ None → nat_cmp number first ≢ Equal
not_at number first other rest e same = let h : Some other ≡ None = rw same at e in cc

not_in : (number first other : ℕ) (rest : Option ℕ) → cond (is_at (nat_cmp number) first) (Some other) rest ≡ None → rest ≡ None
not_in number first other rest e = by_test (is_at (nat_cmp number) first) e
  where
    by_test : (b : Bool) → cond b (Some other) rest ≡ None → rest ≡ None
    by_test true e = cc
    by_test false e = e

-- a number that compares equal is the same
equal_is : (a b : ℕ) → nat_cmp a b ≡ Equal → a ≡ b
equal_is a b e = grind (arith, common_steps)

is_equal : (a b : ℕ) → is_at (nat_cmp a) b ≡ true → nat_cmp a b ≡ Equal
is_equal a b e = grind (arith, common_steps)

-- the numbers after another aren't that one
others_pass : (number first : ℕ) (ps : List (ℕ × ℕ)) → nat_cmp number first ≡ Equal → AllByRecursion (λ y. nat_cmp first y ≡ Less) (keys_of ps) → NonePasses (is_at (nat_cmp number)) ps
others_pass number first [] e all = tt
others_pass number first (p ∷ ps) e all =
    let less : nat_cmp number p.0 ≡ Less = ap (λ n. nat_cmp n p.0) (equal_is number first e) ∙ all.0 in
    (ap is_eq less, others_pass number first ps e all.1)

-- what is no key needs no removal
removal_step : {X : Type 0} (b : Bool) (value : Option X) (x : ℕ × X) (es rest : List (ℕ × X)) → cond b (Some x.1) value ≡ None → (value ≡ None → rest ≡ es) → cond b es (x ∷ rest) ≡ x ∷ es
removal_step true value x es rest e more = cc
removal_step false value x es rest e more = ap (λ xs. x ∷ xs) (more e)

removed_missing : {X : Type 0} (test : ℕ → Bool) (es : List (ℕ × X)) → lookup test es ≡ None → remove_entry test es ≡ es
removed_missing test [] e = refl
removed_missing test (x ∷ es) e = removal_step (test x.0) (lookup test es) x es (remove_entry test es) e (removed_missing test es)

-- the entry that a look-up finds isn't below the first
not_below : (number place : ℕ) (p : ℕ × ℕ) (ps : List (ℕ × ℕ)) → IsStrictlySortedBy nat_cmp (keys_of (p ∷ ps)) → at (p ∷ ps) number ≡ Some place → nat_cmp number p.0 ≢ Less
not_below number place p ps sorted there less =
    let none : at (p ∷ ps) number ≡ None = lookup-none (is_at (nat_cmp number)) (p ∷ ps) (none_below_head nat_cmp_total number p ps sorted less) in
    cc

found_here : (number place : ℕ) (p : ℕ × ℕ) (rest : Option ℕ) → cond (is_at (nat_cmp number) p.0) (Some p.1) rest ≡ Some place → nat_cmp number p.0 ≡ Equal → p.1 ≡ place
found_here number place p rest e equal = let h : Some p.1 ≡ Some place = rw equal at e in cc

found_later : (number place : ℕ) (p : ℕ × ℕ) (rest : Option ℕ) → cond (is_at (nat_cmp number) p.0) (Some p.1) rest ≡ Some place → nat_cmp number p.0 ≡ Greater → rest ≡ Some place
found_later number place p rest e greater = let h : rest ≡ Some place = rw greater at e in h

found_after : (number place : ℕ) (p : ℕ × ℕ) (rest : Option ℕ) → cond (is_at (nat_cmp number) p.0) (Some p.1) rest ≡ Some place → is_at (nat_cmp number) p.0 ≡ false → rest ≡ Some place
found_after number place p rest e apart = let h : rest ≡ Some place = rw apart at e in h

module _ {V : Type 0} where
  abbrev pub value_in : Option (Slot V) → Option V
  value_in (Some slot) = Some slot.value
  value_in None = None

  -- the value at a number's place
  abbrev pub found : (ℕ → Option (Slot V)) → Option ℕ → Option V
  found slots (Some place) = value_in (slots place)
  found slots None = None

  -- every slot but one is as before
  abbrev pub KeepsOthers : (ℕ → Option (Slot V)) → (ℕ → Option (Slot V)) → ℕ → Type 0
  KeepsOthers f g place = (other : ℕ) → other ≢ place → g other ≡ f other

  -- the slots at these places are as before
  abbrev pub SameAt : (ℕ → Option (Slot V)) → (ℕ → Option (Slot V)) → List (ℕ × ℕ) → Type 0
  SameAt f g [] = Unit {0}
  SameAt f g (p ∷ ps) = (g p.1 ≡ f p.1) × SameAt f g ps

  -- a slot is there and names a number
  abbrev pub Names : Option (Slot V) → ℕ → Type 0
  Names x number = IsSomeAnd x (λ slot. slot.number ≡ number)

  value_at : (number first : ℕ) (x : Option (Slot V)) (others : List (ℕ × V)) (rest : Option V) → Names x first → at others number ≡ rest → at (entry_before first x others) number ≡ cond (is_at (nat_cmp number) first) (value_in x) rest
  value_at number first None others rest h e = absurd h
  value_at number first (Some slot) others rest h e = ap (cond (is_at (nat_cmp number) first) (Some slot.value)) e

  cond_found : (f : ℕ → Option (Slot V)) (place : ℕ) (rest : Option ℕ) (b : Bool) → cond b (value_in (f place)) (found f rest) ≡ found f (cond b (Some place) rest)
  cond_found f place rest true = refl
  cond_found f place rest false = refl

  -- a look-up goes by the place
  pub at_held : (f : ℕ → Option (Slot V)) (ps : List (ℕ × ℕ)) (number : ℕ) → AreHeld f ps → at (held f ps) number ≡ found f (at ps number)
  unfolding held
  at_held f [] number h = refl
  at_held f (p ∷ ps) number h = value_at number p.0 (f p.1) (held f ps) (found f (at ps number)) h.0 (at_held f ps number h.1) ∙ cond_found f p.1 (at ps number) (is_at (nat_cmp number) p.0)

  -- the slot that a look-up finds is there, and names the number
  names_if : (number first : ℕ) (b : Bool) (x : Option ℕ) (place other : ℕ) (f : ℕ → Option (Slot V)) → is_at (nat_cmp number) first ≡ b → Names (f other) first → (x ≡ Some place → Names (f place) number) → cond b (Some other) x ≡ Some place → Names (f place) number
  names_if number first true x place other f e named rest found =
      let same : other ≡ place = cc in
      let first_is : first ≡ number = grind (arith, common_steps) in
      rw (sym same, sym first_is) named
  names_if number first false x place other f e named rest found = rest found

  pub names_found : (f : ℕ → Option (Slot V)) (ps : List (ℕ × ℕ)) (number place : ℕ) → AreHeld f ps → at ps number ≡ Some place → Names (f place) number
  names_found f [] number place h e = cc
  names_found f (p ∷ ps) number place h e = names_if number p.0 (is_at (nat_cmp number) p.0) (at ps number) place p.1 f refl h.0 (names_found f ps number place h.1) e

  pub held_same : (f g : ℕ → Option (Slot V)) (ps : List (ℕ × ℕ)) → SameAt f g ps → held g ps ≡ held f ps
  unfolding held
  held_same f g [] s = refl
  held_same f g (p ∷ ps) s = rw (s.0, held_same f g ps s.1) refl

  pub are_held_same : (f g : ℕ → Option (Slot V)) (ps : List (ℕ × ℕ)) → SameAt f g ps → AreHeld f ps → AreHeld g ps
  are_held_same f g [] s h = tt
  are_held_same f g (p ∷ ps) s h = (rw s.0 h.0, are_held_same f g ps s.1 h.1)

  -- a place whose slot is empty is no number's
  not_vacant : (f : ℕ → Option (Slot V)) (place other number : ℕ) → f place ≡ None → Names (f other) number → other ≢ place
  not_vacant f place other number vacant named same = rw (same, vacant) at named

  pub same_if_vacant : (f g : ℕ → Option (Slot V)) (place : ℕ) → f place ≡ None → KeepsOthers f g place → (ps : List (ℕ × ℕ)) → AreHeld f ps → SameAt f g ps
  same_if_vacant f g place vacant kept [] h = tt
  same_if_vacant f g place vacant kept (p ∷ ps) h = (kept p.1 (not_vacant f place p.1 p.0 vacant h.0), same_if_vacant f g place vacant kept ps h.1)

  -- a number's slot isn't that of another number
  not_shared : (x y : Option (Slot V)) (number other : ℕ) → Names x number → Names y other → is_at (nat_cmp number) other ≡ false → x ≡ y → ⊥
  not_shared x y number other named there apart same = by_slots x y named there same
    where
      by_slots : (x y : Option (Slot V)) → Names x number → Names y other → x ≡ y → ⊥
      by_slots None y named there same = absurd named
      by_slots (Some s) None named there same = absurd there
      by_slots (Some s) (Some t) named there same = let e : number ≡ other = cc in grind (arith, common_steps)

  pub same_if_passed : (f g : ℕ → Option (Slot V)) (number place : ℕ) → Names (f place) number → KeepsOthers f g place → (ps : List (ℕ × ℕ)) → NonePasses (is_at (nat_cmp number)) ps → AreHeld f ps → SameAt f g ps
  same_if_passed f g number place named kept [] n h = tt
  same_if_passed f g number place named kept (p ∷ ps) n h =
      (kept p.1 (λ e. not_shared (f place) (f p.1) number p.0 named h.0 n.0 (ap f (sym e))), same_if_passed f g number place named kept ps n.1 h.1)

  -- an insert at a number that has no place
  insert_case : (f g : ℕ → Option (Slot V)) (p : ℕ × ℕ) (ps after : List (ℕ × ℕ)) (number place : ℕ) (v : V) (o : Ordering) → o ≢ Equal → Names (f p.1) p.0 → g p.1 ≡ f p.1 → SameAt f g ps → g place ≡ Some (record { number = number; value = v }) → held g after ≡ put (held f ps) number v → nat_cmp number p.0 ≡ o → held g (match_ordering o ((number, place) ∷ p ∷ ps) ((p.0, place) ∷ ps) (p ∷ after)) ≡ put (entry_before p.0 (f p.1) (held f ps)) number v
  unfolding held
  insert_case f g p ps after number place v o apart named here same written rec order = by_slot (f p.1) named here
    where
      by_order : (s : Slot V) (o : Ordering) → o ≢ Equal → g p.1 ≡ Some s → nat_cmp number p.0 ≡ o → held g (match_ordering o ((number, place) ∷ p ∷ ps) ((p.0, place) ∷ ps) (p ∷ after)) ≡ put (entry_before p.0 (Some s) (held f ps)) number v
      by_order s Less apart here order = rw (order, written, here, held_same f g ps same) refl
      by_order s Equal apart here order = absurd (apart refl)
      by_order s Greater apart here order = rw (order, here, rec) refl

      by_slot : (x : Option (Slot V)) → Names x p.0 → g p.1 ≡ x → held g (match_ordering o ((number, place) ∷ p ∷ ps) ((p.0, place) ∷ ps) (p ∷ after)) ≡ put (entry_before p.0 x (held f ps)) number v
      by_slot None named here = absurd named
      by_slot (Some s) named here = by_order s o apart here order

  pub held_insert : (f g : ℕ → Option (Slot V)) (ps : List (ℕ × ℕ)) (number place : ℕ) (v : V) → AreHeld f ps → SameAt f g ps → g place ≡ Some (record { number = number; value = v }) → at ps number ≡ None → held g (insert_entry nat_cmp ps number place) ≡ put (held f ps) number v
  unfolding held
  held_insert f g [] number place v h s written absent = rw written refl
  held_insert f g (p ∷ ps) number place v h s written absent =
      insert_case f g p ps (insert_entry nat_cmp ps number place) number place v (nat_cmp number p.0) (not_at number p.0 p.1 (at ps number) absent) h.0 s.0 s.1 written (held_insert f g ps number place v h.1 s.1 written (not_in number p.0 p.1 (at ps number) absent)) refl

  are_held_case : (g : ℕ → Option (Slot V)) (p : ℕ × ℕ) (ps after : List (ℕ × ℕ)) (number place : ℕ) (o : Ordering) → o ≢ Equal → AreHeld g (p ∷ ps) → Names (g place) number → AreHeld g after → AreHeld g (match_ordering o ((number, place) ∷ p ∷ ps) ((p.0, place) ∷ ps) (p ∷ after))
  are_held_case g p ps after number place Less apart h named rec = (named, h)
  are_held_case g p ps after number place Equal apart h named rec = absurd (apart refl)
  are_held_case g p ps after number place Greater apart h named rec = (h.0, rec)

  are_held_insert : (g : ℕ → Option (Slot V)) (ps : List (ℕ × ℕ)) (number place : ℕ) → AreHeld g ps → Names (g place) number → at ps number ≡ None → AreHeld g (insert_entry nat_cmp ps number place)
  are_held_insert g [] number place h named absent = (named, tt)
  are_held_insert g (p ∷ ps) number place h named absent =
      are_held_case g p ps (insert_entry nat_cmp ps number place) number place (nat_cmp number p.0) (not_at number p.0 p.1 (at ps number) absent) h named (are_held_insert g ps number place h.1 named (not_in number p.0 p.1 (at ps number) absent))

  -- a number without a value has no place
  no_place : (f : ℕ → Option (Slot V)) (ps : List (ℕ × ℕ)) (number : ℕ) → AreHeld f ps → at (held f ps) number ≡ None → at ps number ≡ None
  no_place f ps number h absent = by_place (at ps number) (names_found f ps number) (sym (at_held f ps number h) ∙ absent)
    where
      empty : (x : Option (Slot V)) → Names x number → value_in x ≡ None → ⊥
      empty None named e = named
      empty (Some s) named e = cc

      by_place : (x : Option ℕ) → ((place : ℕ) → AreHeld f ps → x ≡ Some place → Names (f place) number) → found f x ≡ None → x ≡ None
      by_place None named e = refl
      by_place (Some place) named e = absurd (empty (f place) (named place h refl) e)

  names_written : (x : Option (Slot V)) (number : ℕ) (v : V) → x ≡ Some (record { number = number; value = v }) → Names x number
  names_written x number v e = rw e refl

  pub held_after_insert : (f g : ℕ → Option (Slot V)) (ps : List (ℕ × ℕ)) (number place : ℕ) (v : V) → AreHeld f ps → at (held f ps) number ≡ None → f place ≡ None → g place ≡ Some (record { number = number; value = v }) → KeepsOthers f g place → held g (insert_entry nat_cmp ps number place) ≡ put (held f ps) number v
  held_after_insert f g ps number place v h absent vacant written kept = held_insert f g ps number place v h (same_if_vacant f g place vacant kept ps h) written (no_place f ps number h absent)

  pub are_held_after_insert : (f g : ℕ → Option (Slot V)) (ps after : List (ℕ × ℕ)) (number place : ℕ) (v : V) → AreHeld f ps → at (held f ps) number ≡ None → f place ≡ None → g place ≡ Some (record { number = number; value = v }) → KeepsOthers f g place → after ≡ insert_entry nat_cmp ps number place → AreHeld g after
  are_held_after_insert f g ps after number place v h absent vacant written kept e =
      rw e (are_held_insert g ps number place (are_held_same f g ps (same_if_vacant f g place vacant kept ps h) h) (names_written (g place) number v written) (no_place f ps number h absent))

  -- another value at a number that has a place
  change_case : (f g : ℕ → Option (Slot V)) (p : ℕ × ℕ) (ps : List (ℕ × ℕ)) (number place : ℕ) (v : V) (o : Ordering) → nat_cmp number p.0 ≡ o → o ≢ Less → Names (f p.1) p.0 → (o ≡ Equal → g p.1 ≡ Some (record { number = number; value = v })) → (o ≡ Equal → SameAt f g ps) → (o ≡ Greater → g p.1 ≡ f p.1) → (o ≡ Greater → held g ps ≡ put (held f ps) number v) → held g (p ∷ ps) ≡ put (entry_before p.0 (f p.1) (held f ps)) number v
  unfolding held
  change_case f g p ps number place v o order apart named here same there rec = by_slot (f p.1) named there
    where
      by_order : (s : Slot V) (o : Ordering) → nat_cmp number p.0 ≡ o → o ≢ Less → (o ≡ Equal → g p.1 ≡ Some (record { number = number; value = v })) → (o ≡ Equal → SameAt f g ps) → (o ≡ Greater → g p.1 ≡ Some s) → (o ≡ Greater → held g ps ≡ put (held f ps) number v) → held g (p ∷ ps) ≡ put (entry_before p.0 (Some s) (held f ps)) number v
      by_order s Less order apart here same there rec = absurd (apart refl)
      by_order s Equal order apart here same there rec = rw (order, here refl, held_same f g ps (same refl)) refl
      by_order s Greater order apart here same there rec = rw (order, there refl, rec refl) refl

      by_slot : (x : Option (Slot V)) → Names x p.0 → (o ≡ Greater → g p.1 ≡ x) → held g (p ∷ ps) ≡ put (entry_before p.0 x (held f ps)) number v
      by_slot None named there = absurd named
      by_slot (Some s) named there = by_order s o order apart here same there rec

  -- a slot of another number stays
  kept_apart : (f g : ℕ → Option (Slot V)) (p : ℕ × ℕ) (number place : ℕ) → Names (f place) number → KeepsOthers f g place → Names (f p.1) p.0 → is_at (nat_cmp number) p.0 ≡ false → g p.1 ≡ f p.1
  kept_apart f g p number place named kept there apart = kept p.1 (λ e. not_shared (f place) (f p.1) number p.0 named there apart (ap f (sym e)))

  held_changed : (f g : ℕ → Option (Slot V)) (ps : List (ℕ × ℕ)) (number place : ℕ) (v : V) → Names (f place) number → g place ≡ Some (record { number = number; value = v }) → KeepsOthers f g place → AreHeld f ps → IsStrictlySortedBy nat_cmp (keys_of ps) → at ps number ≡ Some place → held g ps ≡ put (held f ps) number v
  unfolding held
  held_changed f g [] number place v named written kept h sorted there = cc
  held_changed f g (p ∷ ps) number place v named written kept h sorted there =
      change_case f g p ps number place v (nat_cmp number p.0) refl (not_below number place p ps sorted there) h.0
      (λ e. ap g (found_here number place p (at ps number) there e) ∙ written)
      (λ e. same_if_passed f g number place named kept ps (others_pass number p.0 ps e (sorted_head nat_cmp p.0 (keys_of ps) sorted)) h.1)
      (λ e. kept_apart f g p number place named kept h.0 (ap is_eq e))
      (λ e. held_changed f g ps number place v named written kept h.1 (sorted_tail nat_cmp p.0 (keys_of ps) sorted) (found_later number place p (at ps number) there e))

  pub held_after_change : (f g : ℕ → Option (Slot V)) (ps : List (ℕ × ℕ)) (number place : ℕ) (v : V) → AreHeld f ps → IsStrictlySortedBy nat_cmp (keys_of ps) → at ps number ≡ Some place → g place ≡ Some (record { number = number; value = v }) → KeepsOthers f g place → held g ps ≡ put (held f ps) number v
  held_after_change f g ps number place v h sorted there written kept = held_changed f g ps number place v (names_found f ps number place h there) written kept h sorted there

  -- a slot that names the same number as before
  still_names : (f g : ℕ → Option (Slot V)) (other first number place : ℕ) → Names (f place) number → Names (g place) number → KeepsOthers f g place → Names (f other) first → Names (g other) first
  still_names f g other first number place was named kept there = elim (cases_eq other place) [ inl same ↦ by_slots (f place) (g place) was named (rw same at there) (sym (ap g same)) | inr apart ↦ rw (kept other apart) there ]
    where
      by_slots : (x y : Option (Slot V)) → Names x number → Names y number → Names x first → y ≡ g other → Names (g other) first
      by_slots None y was named there e = absurd was
      by_slots (Some s) None was named there e = absurd named
      by_slots (Some s) (Some t) was named there e = let n : t.number ≡ first = cc in rw (sym e) n

  are_held_changed : (f g : ℕ → Option (Slot V)) (ps : List (ℕ × ℕ)) (number place : ℕ) → Names (f place) number → Names (g place) number → KeepsOthers f g place → AreHeld f ps → AreHeld g ps
  are_held_changed f g [] number place was named kept h = tt
  are_held_changed f g (p ∷ ps) number place was named kept h = (still_names f g p.1 p.0 number place was named kept h.0, are_held_changed f g ps number place was named kept h.1)

  pub are_held_after_change : (f g : ℕ → Option (Slot V)) (ps : List (ℕ × ℕ)) (number place : ℕ) (v : V) → AreHeld f ps → at ps number ≡ Some place → g place ≡ Some (record { number = number; value = v }) → KeepsOthers f g place → AreHeld g ps
  are_held_after_change f g ps number place v h there written kept = are_held_changed f g ps number place (names_found f ps number place h there) (names_written (g place) number v written) kept h

  -- a removal
  remove_case : (f g : ℕ → Option (Slot V)) (p : ℕ × ℕ) (ps after : List (ℕ × ℕ)) (number : ℕ) (b : Bool) → Names (f p.1) p.0 → is_at (nat_cmp number) p.0 ≡ b → (b ≡ true → SameAt f g ps) → (b ≡ false → g p.1 ≡ f p.1) → (b ≡ false → held g after ≡ removed (held f ps) number) → held g (cond b ps (p ∷ after)) ≡ removed (entry_before p.0 (f p.1) (held f ps)) number
  unfolding held
  remove_case f g p ps after number b named test same there rec = by_slot (f p.1) named there
    where
      by_test : (s : Slot V) (b : Bool) → is_at (nat_cmp number) p.0 ≡ b → (b ≡ true → SameAt f g ps) → (b ≡ false → g p.1 ≡ Some s) → (b ≡ false → held g after ≡ removed (held f ps) number) → held g (cond b ps (p ∷ after)) ≡ removed (entry_before p.0 (Some s) (held f ps)) number
      by_test s true test same there rec = rw test (held_same f g ps (same refl))
      by_test s false test same there rec = rw (test, there refl, rec refl) refl

      by_slot : (x : Option (Slot V)) → Names x p.0 → (b ≡ false → g p.1 ≡ x) → held g (cond b ps (p ∷ after)) ≡ removed (entry_before p.0 x (held f ps)) number
      by_slot None named there = absurd named
      by_slot (Some s) named there = by_test s b test same there rec

  held_removed : (f g : ℕ → Option (Slot V)) (ps : List (ℕ × ℕ)) (number place : ℕ) → Names (f place) number → KeepsOthers f g place → AreHeld f ps → IsStrictlySortedBy nat_cmp (keys_of ps) → held g (removed ps number) ≡ removed (held f ps) number
  unfolding held
  held_removed f g [] number place named kept h sorted = refl
  held_removed f g (p ∷ ps) number place named kept h sorted =
      remove_case f g p ps (removed ps number) number (is_at (nat_cmp number) p.0) h.0 refl
      (λ e. same_if_passed f g number place named kept ps (others_pass number p.0 ps (is_equal number p.0 e) (sorted_head nat_cmp p.0 (keys_of ps) sorted)) h.1)
      (λ e. kept_apart f g p number place named kept h.0 e)
      (λ e. held_removed f g ps number place named kept h.1 (sorted_tail nat_cmp p.0 (keys_of ps) sorted))

  pub held_after_removal : (f g : ℕ → Option (Slot V)) (ps : List (ℕ × ℕ)) (number place : ℕ) → AreHeld f ps → IsStrictlySortedBy nat_cmp (keys_of ps) → at ps number ≡ Some place → KeepsOthers f g place → held g (removed ps number) ≡ removed (held f ps) number
  held_after_removal f g ps number place h sorted there kept = held_removed f g ps number place (names_found f ps number place h there) kept h sorted

  are_held_case_removed : (f g : ℕ → Option (Slot V)) (p : ℕ × ℕ) (ps after : List (ℕ × ℕ)) (b : Bool) → Names (f p.1) p.0 → AreHeld f ps → (b ≡ true → SameAt f g ps) → (b ≡ false → g p.1 ≡ f p.1) → AreHeld g after → AreHeld g (cond b ps (p ∷ after))
  are_held_case_removed f g p ps after true named h same there rec = are_held_same f g ps (same refl) h
  are_held_case_removed f g p ps after false named h same there rec = (rw (there refl) named, rec)

  are_held_removed : (f g : ℕ → Option (Slot V)) (ps : List (ℕ × ℕ)) (number place : ℕ) → Names (f place) number → KeepsOthers f g place → AreHeld f ps → IsStrictlySortedBy nat_cmp (keys_of ps) → AreHeld g (removed ps number)
  are_held_removed f g [] number place named kept h sorted = tt
  are_held_removed f g (p ∷ ps) number place named kept h sorted =
      are_held_case_removed f g p ps (removed ps number) (is_at (nat_cmp number) p.0) h.0 h.1
      (λ e. same_if_passed f g number place named kept ps (others_pass number p.0 ps (is_equal number p.0 e) (sorted_head nat_cmp p.0 (keys_of ps) sorted)) h.1)
      (λ e. kept_apart f g p number place named kept h.0 e)
      (are_held_removed f g ps number place named kept h.1 (sorted_tail nat_cmp p.0 (keys_of ps) sorted))

  pub are_held_after_removal : (f g : ℕ → Option (Slot V)) (ps after : List (ℕ × ℕ)) (number place : ℕ) → AreHeld f ps → IsStrictlySortedBy nat_cmp (keys_of ps) → at ps number ≡ Some place → KeepsOthers f g place → after ≡ removed ps number → AreHeld g after
  are_held_after_removal f g ps after number place h sorted there kept e = rw e (are_held_removed f g ps number place (names_found f ps number place h there) kept h sorted)

  -- where a number has no place, a removal changes nothing
  pub held_without : (f : ℕ → Option (Slot V)) (ps : List (ℕ × ℕ)) (number : ℕ) → AreHeld f ps → at ps number ≡ None → removed (held f ps) number ≡ held f ps
  held_without f ps number h absent = removed_missing (is_at (nat_cmp number)) (held f ps) (at_held f ps number h ∙ ap (found f) absent)

  pub is_there : (x : Option (Slot V)) (number : ℕ) → Names x number → IsSome x
  is_there None number named = absurd named
  is_there (Some s) number named = refl

  pub slot_is_there : (f : ℕ → Option (Slot V)) (ps : List (ℕ × ℕ)) (number place : ℕ) → AreHeld f ps → at ps number ≡ Some place → IsSome (f place)
  slot_is_there f ps number place h there = is_there (f place) number (names_found f ps number place h there)

  -- what is left after a number, by the places left
  later_case : (f : ℕ → Option (Slot V)) (p : ℕ × ℕ) (ps later : List (ℕ × ℕ)) (key : ℕ) → Names (f p.1) p.0 → after_key (held f ps) key ≡ held f later → after_key (entry_before p.0 (f p.1) (held f ps)) key ≡ held f (cond (nat_lt key p.0) (p ∷ later) later)
  unfolding held after_key
  later_case f p ps later key named rec = by_slot (f p.1) named refl
    where
      by_test : (s : Slot V) (b : Bool) → f p.1 ≡ Some s → cond b ((p.0, s.value) ∷ after_key (held f ps) key) (after_key (held f ps) key) ≡ held f (cond b (p ∷ later) later)
      by_test s true e = rw (e, rec) refl
      by_test s false e = rec

      by_slot : (x : Option (Slot V)) → Names x p.0 → f p.1 ≡ x → after_key (entry_before p.0 x (held f ps)) key ≡ held f (cond (nat_lt key p.0) (p ∷ later) later)
      by_slot None named e = absurd named
      by_slot (Some s) named e = by_test s (nat_lt key p.0) e

  pub after_held : (f : ℕ → Option (Slot V)) (ps : List (ℕ × ℕ)) (key : ℕ) → AreHeld f ps → after_key (held f ps) key ≡ held f (after_key ps key)
  unfolding held after_key
  after_held f [] key h = refl
  after_held f (p ∷ ps) key h = later_case f p ps (after_key ps key) key h.0 (after_held f ps key h.1)

  kept_later : (f : ℕ → Option (Slot V)) (p : ℕ × ℕ) (later : List (ℕ × ℕ)) (b : Bool) → Names (f p.1) p.0 → AreHeld f later → AreHeld f (cond b (p ∷ later) later)
  kept_later f p later true named rec = (named, rec)
  kept_later f p later false named rec = rec

  pub are_held_later : (f : ℕ → Option (Slot V)) (ps : List (ℕ × ℕ)) (key : ℕ) → AreHeld f ps → AreHeld f (after_key ps key)
  unfolding after_key
  are_held_later f [] key h = tt
  are_held_later f (p ∷ ps) key h = kept_later f p (after_key ps key) (nat_lt key p.0) h.0 (are_held_later f ps key h.1)

  pub held_none : (f : ℕ → Option (Slot V)) → held f [] ≡ []
  unfolding held
  held_none f = refl

  pub held_first : (f : ℕ → Option (Slot V)) (number place : ℕ) (later : List (ℕ × ℕ)) (slot : Slot V) → f place ≡ Some slot → held f ((number, place) ∷ later) ≡ (number, slot.value) ∷ held f later
  unfolding held
  held_first f number place later slot e = rw e refl

  keys_before : (number : ℕ) (x : Option (Slot V)) (others : List (ℕ × V)) → Names x number → keys_of (entry_before number x others) ≡ number ∷ keys_of others
  keys_before number None others named = absurd named
  keys_before number (Some s) others named = refl

  keys_held : (f : ℕ → Option (Slot V)) (ps : List (ℕ × ℕ)) → AreHeld f ps → keys_of (held f ps) ≡ keys_of ps
  unfolding held
  keys_held f [] h = refl
  keys_held f (p ∷ ps) h = keys_before p.0 (f p.1) (held f ps) h.0 ∙ ap (λ ks. p.0 ∷ ks) (keys_held f ps h.1)

  pub ascending_held : (f : ℕ → Option (Slot V)) (ps : List (ℕ × ℕ)) → AreHeld f ps → IsAscending ps → IsAscending (held f ps)
  ascending_held f ps h s = rw (keys_held f ps h) s
