-- What keeps pages in order and whole.
use Rattle.std.proofs.Common.{◌≡◌, ℕ, suc, ◌+◌, ◌*◌, ◌/◌, ◌%◌, ◌^◌, ◌<◌, ◌≤◌, Bool, true, false, eqb, ltb, List, [], ◌∷◌, length, get_or, take, drop, refl, sym, ap, subst, ◌∙◌, inl, inr, arith, All}
use Rattle.std.specs.Prelude.{Option, Some, None, insert, min, max}
use Rattle.std.proofs.lemmas.Bool.{eq-eqb, ne_eqb, lt-ltb, le-ltb, le-leb, cases_eq, cases_lt, cases_Bool, true≢false}
use Rattle.std.specs.Global.{Vec}
use Rattle.std.specs.Vec.{with_items}
use Rattle.std.proofs.lemmas.List.{with_items_is, length-set, length-replicate}
use Rattle.user_memory.specs.declared.page.Page.{Page}
use Rattle.user_memory.specs.declared.change.Change.{Change}
use Rattle.user_memory.specs.Pages.{PageState, page_at, is_page, is_mapped, differs, differs_in, put_in, put_byte, insert_page, new_page, zero_page, marked, AllAbove, IsAscending, IsWellFormed}
use Rattle.user_memory.specs.Memory.{all_pass, is_readable, with_bytes}
use Rattle.user_memory.specs.Changes.{IsChangeAt}
use Rattle.user_memory.specs.States.{state_of, states_of, TellsStores, AreStoredWithin, AreKept}
use Rattle.user_memory.proofs.NextChange.{IsWhole, page_here, page_elsewhere}
use Rattle.user_memory.proofs.Ranges.{all_from}
use Rattle.user_memory.proofs.StoredPlaces.{within_stored, within_cleared, within_insert}
use Rattle.user_memory.proofs.Places.{states-insert, page_at_gap}
use Rattle.user_memory.specs.Places.{IsGapFor}
use Rattle.std.proofs.lemmas.List.{length-map}
use Rattle.std.proofs.lemmas.List.Elements.{All-append, All-take, All-cons, All-drop}

pub none_well_formed : IsWellFormed []
unfolding IsAscending
none_well_formed = record { ascending = tt; few = omega arith }

above_put : (ps : List PageState) (n m i b : ℕ) → AllAbove n ps → AllAbove n (put_in ps m i b)
unfolding AllAbove put_in
above_put [] n m i b h = tt
above_put (p ∷ ps) n m i b h =
    elim (cases_Bool (eqb p.number m)) [ inl e ↦ rw e h | inr e ↦ rw e (h.0, above_put ps n m i b h.1) ]

ascending_put : (ps : List PageState) (m i b : ℕ) → IsAscending ps → IsAscending (put_in ps m i b)
unfolding IsAscending put_in
ascending_put [] m i b h = tt
ascending_put (p ∷ ps) m i b h =
    elim (cases_Bool (eqb p.number m)) [
      | inl e ↦ rw e (h.0, length-set p.bytes i b ∙ h.1, h.2, h.3, h.4)
      | inr e ↦ rw e (h.0, h.1, h.2, above_put ps p.number m i b h.3, ascending_put ps m i b h.4)
    ]

length-put_in : (ps : List PageState) (m i b : ℕ) → length (put_in ps m i b) ≡ length ps
unfolding put_in
length-put_in [] m i b = refl
length-put_in (p ∷ ps) m i b =
    elim (cases_Bool (eqb p.number m)) [ inl e ↦ rw e refl | inr e ↦ rw e (ap suc (length-put_in ps m i b)) ]

-- a store keeps the order
pub ascending_with_bytes : (bytes : List ℕ) (ps : List PageState) (a : ℕ) → IsAscending ps → IsAscending (with_bytes ps a bytes)
unfolding with_bytes
ascending_with_bytes [] ps a h = h
ascending_with_bytes (b ∷ bytes) ps a h = ascending_with_bytes bytes (put_byte ps a b) (a + 1) (ascending_put ps (a / 4096) (a % 4096) b h)

length-with_bytes : (bytes : List ℕ) (ps : List PageState) (a : ℕ) → length (with_bytes ps a bytes) ≡ length ps
unfolding with_bytes
length-with_bytes [] ps a = refl
length-with_bytes (b ∷ bytes) ps a = length-with_bytes bytes (put_byte ps a b) (a + 1) ∙ length-put_in ps (a / 4096) (a % 4096) b

pub well_formed_put : (bytes : List ℕ) (ps : List PageState) (a : ℕ) → IsWellFormed ps → IsWellFormed (with_bytes ps a bytes)
well_formed_put bytes ps a h = record { ascending = ascending_with_bytes bytes ps a h.ascending; few = rw (length-with_bytes bytes ps a) h.few }

above_marked : (ps : List PageState) (n : ℕ) → AllAbove n ps → AllAbove n (marked ps)
unfolding AllAbove marked
above_marked [] n h = tt
above_marked (p ∷ ps) n h = (h.0, above_marked ps n h.1)

ascending_marked : (ps : List PageState) → IsAscending ps → IsAscending (marked ps)
unfolding IsAscending marked
ascending_marked [] h = tt
ascending_marked (p ∷ ps) h = (h.0, h.1, h.1, above_marked ps p.number h.3, ascending_marked ps h.4)

length-marked : (ps : List PageState) → length (marked ps) ≡ length ps
unfolding marked
length-marked [] = refl
length-marked (p ∷ ps) = ap suc (length-marked ps)

pub well_formed_marked : (ps : List PageState) → IsWellFormed ps → IsWellFormed (marked ps)
well_formed_marked ps h = record { ascending = ascending_marked ps h.ascending; few = rw (length-marked ps) h.few }

above_weaker : (ps : List PageState) (n m : ℕ) → m ≤ n → AllAbove n ps → AllAbove m ps
unfolding AllAbove
above_weaker [] n m le h = tt
above_weaker (p ∷ ps) n m le h = (omega (arith, h.0), above_weaker ps n m le h.1)

above_insert : (new : PageState) (ps : List PageState) (n : ℕ) → n < new.number → AllAbove n ps → AllAbove n (insert_page new ps)
unfolding AllAbove insert_page
above_insert new [] n lt h = (lt, tt)
above_insert new (p ∷ ps) n lt h =
    elim (cases_Bool (ltb new.number p.number)) [ inl e ↦ rw e (lt, h) | inr e ↦ rw e (h.0, above_insert new ps n lt h.1) ]

other_number : (p : PageState) (ps : List PageState) (n : ℕ) → is_page (page_at (p ∷ ps) n) ≡ false → (p.number ≡ n → ⊥) × (is_page (page_at ps n) ≡ false)
unfolding page_at
other_number p ps n h =
    elim (cases_eq p.number n) [
      | inl e ↦ absurd (true≢false (rw (eq-eqb p.number n e) at h))
      | inr e ↦ (e, rw (ne_eqb p.number n e) at h)
    ]

ascending_insert : (new : PageState) (ps : List PageState) → IsWhole new → IsAscending ps → is_page (page_at ps new.number) ≡ false → IsAscending (insert_page new ps)
unfolding IsAscending insert_page AllAbove
ascending_insert new [] w h absent = (w.low, w.bytes, w.before, tt, tt)
ascending_insert new (p ∷ ps) w h absent =
    let other = other_number p ps new.number absent in
    elim (cases_lt new.number p.number) [
      | inl lt ↦ rw (lt-ltb new.number p.number lt) (w.low, w.bytes, w.before, (lt, above_weaker ps p.number new.number (omega arith) h.3), h)
      | inr le ↦ rw (le-ltb new.number p.number le) (h.0, h.1, h.2, above_insert new ps p.number (omega (arith, other.0)) h.3, ascending_insert new ps w h.4 other.1)
    ]

length-insert_page : (new : PageState) (ps : List PageState) → length (insert_page new ps) ≡ suc (length ps)
unfolding insert_page
length-insert_page new [] = refl
length-insert_page new (p ∷ ps) =
    elim (cases_Bool (ltb new.number p.number)) [ inl e ↦ rw e refl | inr e ↦ rw e (ap suc (length-insert_page new ps)) ]

length-zero_page : length zero_page ≡ 4096
unfolding zero_page
length-zero_page = length-replicate {A = ℕ} 4096 0

pub well_formed_insert : (number : ℕ) (writable : Bool) (ps : List PageState) → number < 2 ^ 20 → IsWellFormed ps → is_page (page_at ps number) ≡ false → length ps < 16384 → IsWellFormed (insert_page (new_page number writable) ps)
well_formed_insert number writable ps low h absent room =
    record {
      ascending = ascending_insert (new_page number writable) ps (record { low = low; bytes = length-zero_page; before = length-zero_page }) h.ascending absent;
      few = rw (length-insert_page (new_page number writable) ps) (omega arith);
    }

-- a changed byte can be read
is_page_differs : (o : Option PageState) (i : ℕ) → differs_in o i ≡ true → is_page o ≡ true
is_page_differs None i h = absurd (true≢false (sym h))
is_page_differs (Some p) i h = refl

mapped_where_changed : (ps : List PageState) (a : ℕ) → differs ps a ≡ true → is_mapped ps a ≡ true
mapped_where_changed ps a h = is_page_differs (page_at ps (a / 4096)) (a % 4096) h

all_mapped : (n : ℕ) (ps : List PageState) (a : ℕ) → ((b : ℕ) → a ≤ b → b < a + n → differs ps b ≡ true) → all_pass (is_mapped ps) a n ≡ true
all_mapped n ps a h = all_from n (is_mapped ps) a (λ b lo hi. mapped_where_changed ps b (h b lo hi))

page_at_insert : (new : PageState) (ps : List PageState) → is_page (page_at ps new.number) ≡ false → page_at (insert_page new ps) new.number ≡ Some new
unfolding insert_page
page_at_insert new [] absent = page_here new [] new.number refl
page_at_insert new (p ∷ ps) absent =
    let other = other_number p ps new.number absent in
    elim (cases_Bool (ltb new.number p.number)) [
      | inl e ↦ rw e (page_here new (p ∷ ps) new.number refl)
      | inr e ↦ rw e (page_elsewhere p (insert_page new ps) new.number other.0 ∙ page_at_insert new ps other.1)
    ]

-- each range of a page that was just mapped can be read
pub readable_new : (number : ℕ) (writable : Bool) (ps : List PageState) (a n : ℕ) → number < 2 ^ 20 → is_page (page_at ps number) ≡ false → number * 4096 ≤ a → a + n ≤ number * 4096 + 4096 → is_readable (insert_page (new_page number writable) ps) a n ≡ true
readable_new number writable ps a n low absent lo hi =
    let all = all_from n (is_mapped (insert_page (new_page number writable) ps)) a (λ b from_b below.
    let home : b / 4096 ≡ number = omega arith in
    rw (home, page_at_insert (new_page number writable) ps absent) refl) in
    rw (le-leb (a + n) (2 ^ 32) (omega arith), all) refl

pub readable_change : (ps : List PageState) (from : ℕ) (c : Change) → IsChangeAt ps from c → is_readable ps c.at c.length ≡ true
readable_change ps from c h = rw (le-leb (c.at + c.length) (2 ^ 32) h.within, all_mapped c.length ps c.at h.changed) refl

pub none_kept : (first : ℕ) → AreKept [] first 0
none_kept first = record {
  well_formed = none_well_formed;
  stores = λ k d inside. absurd (omega arith);
  places = record { within = omega arith; front = λ k d lt inside. absurd (omega arith); back = λ k d le inside. absurd (omega arith) };
}

kept : (v : Vec Page) (ws : List Page) (all : List PageState) (first past : ℕ) → length ws ≡ v.len → states_of ws ≡ all → IsWellFormed all → All TellsStores ws → AreStoredWithin ws first past → AreKept (with_items v ws).items first past
kept v ws all first past len e h stores places =
    subst (λ (ps : List Page). AreKept ps first past) (sym (with_items_is v ws len)) (record { well_formed = subst (λ (ps : List PageState). IsWellFormed ps) (sym e) h; stores = stores; places = places })

pub kept_store : (v : Vec Page) (ws ys : List Page) (a : ℕ) (bytes : List ℕ) (first past place end low high : ℕ) → length ws ≡ v.len → ys ≡ v.items → states_of ws ≡ with_bytes (states_of ys) a bytes → All TellsStores ws
    → end ≤ length ys → ((k : ℕ) (d : Page) → k < place → get_or ws k d ≡ get_or ys k d) → ((k : ℕ) (d : Page) → end ≤ k → get_or ws k d ≡ get_or ys k d)
    → low ≡ min first place → high ≡ max past end → AreKept v.items first past → AreKept (with_items v ws).items low high
kept_store v ws ys a bytes first past place end low high len same e stores inside front back l h old =
    let size : length ws ≡ length v.items = omega (arith, v.ok.0) in
    let at : (k : ℕ) (d : Page) → get_or ys k d ≡ get_or v.items k d = λ k d. ap (λ (ps : List Page). get_or ps k d) same in
    kept v ws (with_bytes (states_of v.items) a bytes) low high len (e ∙ ap (λ (ps : List Page). with_bytes (states_of ps) a bytes) same) (well_formed_put bytes (states_of v.items) a old.well_formed) stores
    (within_stored v.items ws first past place end low high size (omega (arith, ap length same)) (λ k d lt. front k d lt ∙ at k d) (λ k d le. back k d le ∙ at k d) l h old.places)

pub kept_clear : (v : Vec Page) (ws ys : List Page) (first past empty : ℕ) → length ws ≡ v.len → ys ≡ v.items → states_of ws ≡ marked (states_of ys) → All TellsStores ws → AreKept v.items first past → AreKept (with_items v ws).items empty 0
kept_clear v ws ys first past empty len same e stores h =
    kept v ws (marked (states_of v.items)) empty 0 len (e ∙ ap (λ (ps : List Page). marked (states_of ps)) same) (well_formed_marked (states_of v.items) h.well_formed) stores (within_cleared ws (states_of ys) empty e)

pub kept_insert : (pages : List Page) (i : ℕ) (p : Page) (n : ℕ) (writable : Bool) (first past end : ℕ) → n < 2 ^ 20 → length pages < 16384 → state_of p ≡ new_page n writable → TellsStores p → IsGapFor pages n i
    → (i < past → end ≡ past + 1) → (past ≤ i → end ≡ past) → AreKept pages first past → AreKept (insert pages i p) first end
kept_insert pages i p n writable first past end low room zeros mark gap before behind h =
    let here : is_page (page_at (states_of pages) n) ≡ false = rw (page_at_gap pages n i gap) refl in
    let new : p.bytes.items ≡ p.before.items = ap (λ (x : PageState). x.bytes) zeros ∙ sym (ap (λ (x : PageState). x.before) zeros) in
    record {
      well_formed = subst (λ (ps : List PageState). IsWellFormed ps) (sym (states-insert pages i p (new_page n writable) zeros gap)) (well_formed_insert n writable (states_of pages) low h.well_formed here (rw length-map room));
      stores = All-append TellsStores (take i pages) (p ∷ drop i pages) (All-take TellsStores i pages h.stores) (All-cons TellsStores p (drop i pages) mark (All-drop TellsStores i pages h.stores));
      places = within_insert pages i p first past end gap.inside new before behind h.places;
    }
