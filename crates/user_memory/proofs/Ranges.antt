-- Ranges page by page: the bytes of a range in one page are handled together.
use Rattle.std.proofs.Common.{◌≡◌, ℕ, zero, suc, ◌+◌, ◌-◌, ◌*◌, ◌/◌, ◌%◌, ◌<◌, ◌≤◌, Bool, true, false, eqb, List, [], ◌∷◌, ◌++◌, length, get_or, take, drop, set, refl, sym, ap, ◌∙◌, inl, inr, append_assoc, arith}
use Rattle.std.specs.Prelude.{Some, if◌then◌else◌, ◌==◌}
use Rattle.std.proofs.lemmas.Bool.{cases_Bool, eq-eqb, ne_eqb, cases_eq}
use borrow.Rule.Slice.PartMut.{put_mid}
use Rattle.std.specs.Global.{Vec}
use Rattle.std.specs.Vec.{with_items}
use Rattle.std.proofs.Math.Seq.{length-sets}
use Rattle.std.proofs.lemmas.List.{drop_more, drop-drop, drop-take, length-take-le, map-set, take-append-drop, take-take, with_items_is}
use Rattle.std.proofs.lemmas.List.Edits.{sets, sets-eq}
use Rattle.std.proofs.lemmas.Slice.{take-put_mid}
use Rattle.user_memory.specs.Places.{IsPlaceOf}
use Rattle.user_memory.specs.declared.page.Page.{Page}
use Rattle.user_memory.specs.Pages.{PageState, page_at, put_in, put_byte, IsAscending}
use Rattle.user_memory.specs.Memory.{all_pass, list_from, bytes_at, with_bytes}
use Rattle.user_memory.specs.States.{state_of, states_of}
use Rattle.user_memory.proofs.Places.{above_at}

-- a test that each address passes, or that one fails
pub all_from : (n : ℕ) (test : ℕ → Bool) (a : ℕ) → ((b : ℕ) → a ≤ b → b < a + n → test b ≡ true) → all_pass test a n ≡ true
unfolding all_pass
all_from zero test a h = refl
all_from (suc n) test a h = rw (h a (omega arith) (omega arith), all_from n test (a + 1) (λ b lo hi. h b (omega arith) (omega arith))) refl

pub one_fails : (n : ℕ) (test : ℕ → Bool) (a b : ℕ) → a ≤ b → b < a + n → test b ≡ false → all_pass test a n ≡ false
unfolding all_pass
one_fails zero test a b lo hi h = absurd (omega arith)
one_fails (suc n) test a b lo hi h =
    elim (cases_eq a b) [
      | inl same ↦ rw (same, h) refl
      | inr other ↦ elim (cases_Bool (test a)) [ inl e ↦ rw (e, one_fails n test (a + 1) b (omega arith) (omega arith) h) refl | inr e ↦ rw e refl ]
    ]

-- a list over addresses, in two parts
pub list_from-add : (at : ℕ → ℕ) (m a n : ℕ) → list_from at a (m + n) ≡ list_from at a m ++ list_from at (a + m) n
unfolding list_from
list_from-add at zero a n =
    let count : 0 + n ≡ n = omega arith in
    let start : a + 0 ≡ a = omega arith in
    rw (count, start) refl
list_from-add at (suc m) a n =
    let count : suc m + n ≡ suc (m + n) = omega arith in
    let start : a + suc m ≡ (a + 1) + m = omega arith in
    rw (count, start) (ap (λ (bs : List ℕ). at a ∷ bs) (list_from-add at m (a + 1) n))

pub length-list_from : (at : ℕ → ℕ) (a n : ℕ) → length (list_from at a n) ≡ n
unfolding list_from
length-list_from at a zero = refl
length-list_from at a (suc n) = ap suc (length-list_from at (a + 1) n)

pub list_from_none : (at : ℕ → ℕ) (a : ℕ) → list_from at a 0 ≡ []
unfolding list_from
list_from_none at a = refl

-- the bytes of a range in one page
bytes_in_page : (k : ℕ) (ps : List PageState) (p : PageState) (n o : ℕ) → page_at ps n ≡ Some p → length p.bytes ≡ 4096 → o + k ≤ 4096 → bytes_at ps (n * 4096 + o) k ≡ take k (drop o p.bytes)
unfolding list_from
bytes_in_page zero ps p n o e size le = refl
bytes_in_page (suc k) ps p n o e size le =
    let page : (n * 4096 + o) / 4096 ≡ n = omega arith in
    let offset : (n * 4096 + o) % 4096 ≡ o = omega arith in
    let next : (n * 4096 + o) + 1 ≡ n * 4096 + (o + 1) = omega arith in
    rw (page, offset, next, e, drop_more p.bytes o 0 (omega arith)) (ap (λ (bs : List ℕ). get_or p.bytes o 0 ∷ bs) (bytes_in_page k ps p n (o + 1) e size (omega arith)))

pub page_bytes : (k : ℕ) (ps : List PageState) (p : PageState) (a : ℕ) → page_at ps (a / 4096) ≡ Some p → length p.bytes ≡ 4096 → a % 4096 + k ≤ 4096 → bytes_at ps a k ≡ take k (drop (a % 4096) p.bytes)
page_bytes k ps p a e size le =
    let at : a ≡ (a / 4096) * 4096 + a % 4096 = omega arith in
    ap (λ (b : ℕ). bytes_at ps b k) at ∙ bytes_in_page k ps p (a / 4096) (a % 4096) e size le

-- a store in two parts
pub with_bytes-append : (xs : List ℕ) (ps : List PageState) (a : ℕ) (ys : List ℕ) → with_bytes ps a (xs ++ ys) ≡ with_bytes (with_bytes ps a xs) (a + length xs) ys
unfolding with_bytes
with_bytes-append [] ps a ys =
    let start : a + 0 ≡ a = omega arith in
    rw start refl
with_bytes-append (x ∷ xs) ps a ys =
    let start : a + suc (length xs) ≡ (a + 1) + length xs = omega arith in
    rw start (with_bytes-append xs (put_byte ps a x) (a + 1) ys)

pub with_bytes_none : (ps : List PageState) (a : ℕ) → with_bytes ps a [] ≡ ps
unfolding with_bytes
with_bytes_none ps a = refl

pub with_no_bytes : (bytes : List ℕ) (ps : List PageState) (a : ℕ) → length bytes ≡ 0 → ps ≡ with_bytes ps a bytes
with_no_bytes [] ps a none = sym (with_bytes_none ps a)
with_no_bytes (b ∷ bytes) ps a none = absurd (omega arith)

-- a page with bytes from an offset on
abbrev pub spliced : ℕ → List ℕ → PageState → PageState
spliced o bytes p = record { number = p.number; writable = p.writable; bytes = sets p.bytes o bytes; before = p.before }

-- the page with a number, so changed
spliced_in : List PageState → ℕ → ℕ → List ℕ → List PageState
spliced_in [] n o bytes = []
spliced_in (p ∷ ps) n o bytes = if p.number == n then spliced o bytes p ∷ ps else p ∷ spliced_in ps n o bytes

spliced_none : (ps : List PageState) (n o : ℕ) → spliced_in ps n o [] ≡ ps
unfolding spliced_in
spliced_none [] n o = refl
spliced_none (p ∷ ps) n o =
    elim (cases_Bool (eqb p.number n)) [ inl e ↦ rw e refl | inr e ↦ rw e (ap (λ (qs : List PageState). p ∷ qs) (spliced_none ps n o)) ]

spliced_more : (ps : List PageState) (n o b : ℕ) (bytes : List ℕ) → spliced_in (put_in ps n o b) n (suc o) bytes ≡ spliced_in ps n o (b ∷ bytes)
unfolding spliced_in put_in
spliced_more [] n o b bytes = refl
spliced_more (p ∷ ps) n o b bytes =
    elim (cases_Bool (eqb p.number n)) [ inl e ↦ rw (e, e) refl | inr e ↦ rw (e, e) (ap (λ (qs : List PageState). p ∷ qs) (spliced_more ps n o b bytes)) ]

-- a store within one page is one splice
with_bytes_in_page : (bytes : List ℕ) (ps : List PageState) (n o : ℕ) → o + length bytes ≤ 4096 → with_bytes ps (n * 4096 + o) bytes ≡ spliced_in ps n o bytes
unfolding with_bytes
with_bytes_in_page [] ps n o le = sym (spliced_none ps n o)
with_bytes_in_page (b ∷ bytes) ps n o le =
    let page : (n * 4096 + o) / 4096 ≡ n = omega arith in
    let offset : (n * 4096 + o) % 4096 ≡ o = omega arith in
    let next : (n * 4096 + o) + 1 ≡ n * 4096 + suc o = omega arith in
    rw (page, offset, next) (with_bytes_in_page bytes (put_in ps n o b) n (suc o) (omega arith) ∙ spliced_more ps n o b bytes)

spliced_at_place : (pages : List Page) (n o i : ℕ) (bytes : List ℕ) (d : Page) → IsAscending (states_of pages) → i < length pages → (get_or pages i d).number ≡ n
    → spliced_in (states_of pages) n o bytes ≡ set (states_of pages) i (spliced o bytes (state_of (get_or pages i d)))
unfolding spliced_in IsAscending
spliced_at_place [] n o i bytes d h inside e = absurd (omega arith)
spliced_at_place (p ∷ ps) n o zero bytes d h inside e = rw (eq-eqb p.number n e) refl
spliced_at_place (p ∷ ps) n o (suc i) bytes d h inside e =
    let above = above_at ps p.number i d h.3 (omega arith) in
    rw (ne_eqb p.number n (λ same. omega arith)) (ap (λ (qs : List PageState). state_of p ∷ qs) (spliced_at_place ps n o i bytes d h.4 (omega arith) e))

-- a store within one page
page_store : (bytes : List ℕ) (ps : List PageState) (a : ℕ) → a % 4096 + length bytes ≤ 4096 → with_bytes ps a bytes ≡ spliced_in ps (a / 4096) (a % 4096) bytes
page_store bytes ps a le =
    let at : a ≡ (a / 4096) * 4096 + a % 4096 = omega arith in
    ap (λ (b : ℕ). with_bytes ps b bytes) at ∙ with_bytes_in_page bytes ps (a / 4096) (a % 4096) le

pub stored_in_place : (pages : List Page) (a i : ℕ) (bytes : List ℕ) (d q : Page) → IsAscending (states_of pages) → IsPlaceOf pages (a / 4096) i → a % 4096 + length bytes ≤ 4096
    → state_of q ≡ spliced (a % 4096) bytes (state_of (get_or pages i d)) → states_of (set pages i q) ≡ with_bytes (states_of pages) a bytes
stored_in_place pages a i bytes d q h at le new =
    map-set state_of pages i q ∙ ap (set (states_of pages) i) new ∙ sym (page_store bytes (states_of pages) a le ∙ spliced_at_place pages (a / 4096) (a % 4096) i bytes d h at.inside (at.here d))

-- a vector after a copy to a part of it
spliced_list : (xs ys : List ℕ) (o k : ℕ) → k ≡ length ys → o + length ys ≤ length xs → put_mid o k xs ys ≡ sets xs o ys
spliced_list xs ys o k count le =
    ap (λ (zs : List ℕ). take o xs ++ (ys ++ zs)) (drop-drop k o xs ∙ ap (λ (n : ℕ). drop (o + n) xs) count) ∙ sym (sets-eq ys xs o le ∙ append_assoc (take o xs) ys (drop (o + length ys) xs))

pub spliced_items : (v : Vec ℕ) (o k : ℕ) (xs ys bytes : List ℕ) → xs ≡ v.items → ys ≡ bytes → k ≡ length bytes → o + length bytes ≤ length v.items → (with_items v (put_mid o k xs ys)).items ≡ sets v.items o bytes
spliced_items v o k xs ys bytes now new count le =
    let after : put_mid o k xs ys ≡ sets v.items o bytes = ap (λ (zs : List ℕ). put_mid o k zs ys) now ∙ ap (λ (zs : List ℕ). put_mid o k v.items zs) new ∙ spliced_list v.items bytes o k count le in
    let size : length (sets v.items o bytes) ≡ length v.items = length-sets v.items o bytes in
    with_items_is v (put_mid o k xs ys) (ap length after ∙ size ∙ omega (arith, v.ok.0)) ∙ after

-- one part more of a range
take-add : (i k : ℕ) (xs : List ℕ) → take (i + k) xs ≡ take i xs ++ take k (drop i xs)
take-add i k xs = sym (ap (λ (ys : List ℕ). ys ++ take k (drop i xs)) (sym (take-take i (i + k) xs (omega arith))) ∙ ap (λ (ys : List ℕ). take i (take (i + k) xs) ++ ys) (sym (drop-take i k xs)) ∙ take-append-drop i (take (i + k) xs))

pub store_turn : (ps qs rs : List PageState) (a i k : ℕ) (bytes : List ℕ) → i + k ≤ length bytes → qs ≡ with_bytes ps a (take i bytes) → rs ≡ with_bytes qs (a + i) (take ((i + k) - i) (drop i bytes)) → rs ≡ with_bytes ps a (take (i + k) bytes)
store_turn ps qs rs a i k bytes le so_far now =
    let count : (i + k) - i ≡ k = omega arith in
    let size : length (take i bytes) ≡ i = length-take-le i bytes (omega arith) in
    now ∙ rw (count, so_far) (ap (λ (n : ℕ). with_bytes (with_bytes ps a (take i bytes)) (a + n) (take k (drop i bytes))) (sym size)
    ∙ sym (with_bytes-append (take i bytes) ps a (take k (drop i bytes)))
    ∙ ap (λ (bs : List ℕ). with_bytes ps a bs) (sym (take-add i k bytes)))

pub copy_turn : (at : ℕ → ℕ) (into part : List ℕ) (a i k n : ℕ) → i + k ≤ length into → n ≡ k → take i into ≡ list_from at a i → part ≡ list_from at (a + i) n → take (i + k) (put_mid i ((i + k) - i) into part) ≡ list_from at a (i + k)
copy_turn at into part a i k n le same so_far now =
    let size : length part ≡ k = ap length now ∙ length-list_from at (a + i) n ∙ same in
    take-put_mid i ((i + k) - i) into part (i + k) (omega arith) (omega arith) ∙ ap (λ (bs : List ℕ). bs ++ part) so_far ∙ ap (λ (bs : List ℕ). list_from at a i ++ bs) (now ∙ ap (list_from at (a + i)) same) ∙ sym (list_from-add at i a k)
