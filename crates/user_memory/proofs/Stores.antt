-- What a page tells of the stores to it, after a store and after a clear, and what follows for a search.
use Rattle.std.proofs.Common.{◌≡◌, ℕ, suc, ◌+◌, ◌-◌, ◌<◌, ◌≤◌, List, [], ◌∷◌, ◌++◌, length, get_or, take, drop, set, refl, sym, ap, subst, ◌∙◌, inl, inr, arith}
use borrow.Rule.Slice.PartMut.{put_mid}
use Rattle.std.specs.Global.{Vec}
use Rattle.std.proofs.Math.Seq.{length-sets}
use Rattle.std.specs.Prelude.{min, max}
use Rattle.std.proofs.lemmas.Bool.{cases_lt}
use Rattle.std.proofs.lemmas.List.{drop-drop, get_or-drop, get_or-set_other, get_or-take, length-drop, length-take-le, take-append-drop}
use Rattle.std.proofs.lemmas.List.Edits.{sets}
use Rattle.std.proofs.lemmas.Grind.{same_number_lists}
use Rattle.user_memory.specs.declared.page.Page.{Page}
use Rattle.user_memory.specs.Changes.{AreSame}
use Rattle.user_memory.specs.States.{TellsStores}

-- a splice leaves the places in front of it and behind it
pub sets_front : (ys xs : List ℕ) (o k : ℕ) → k < o → get_or (sets xs o ys) k 0 ≡ get_or xs k 0
sets_front [] xs o k h = refl
sets_front (y ∷ ys) xs o k h =
    let other : k ≡ o → ⊥ = λ e. omega arith in
    sets_front ys (set xs o y) (suc o) k (omega arith) ∙ get_or-set_other xs o k y 0 other

pub sets_back : (ys xs : List ℕ) (o k : ℕ) → o + length ys ≤ k → get_or (sets xs o ys) k 0 ≡ get_or xs k 0
sets_back [] xs o k h = refl
sets_back (y ∷ ys) xs o k h =
    let other : k ≡ o → ⊥ = λ e. omega arith in
    sets_back ys (set xs o y) (suc o) k (omega arith) ∙ get_or-set_other xs o k y 0 other

pub same_in : (xs ys us vs : List ℕ) (start end : ℕ) → xs ≡ ys → us ≡ vs → AreSame xs us start end → AreSame ys vs start end
same_in xs ys us vs start end e f same =
    subst (λ (zs : List ℕ). AreSame zs vs start end) e (subst (λ (zs : List ℕ). AreSame xs zs start end) f same)

-- places outside of what was stored are the same: so a search over what was stored is one over all
pub same_widened : (bytes old : List ℕ) (from first past start end : ℕ) → ((k : ℕ) → k < first → get_or bytes k 0 ≡ get_or old k 0) → ((k : ℕ) → past ≤ k → get_or bytes k 0 ≡ get_or old k 0)
    → start ≡ max from first → AreSame bytes old start past → AreSame bytes old from end
same_widened bytes old from first past start end front back is same k lo hi =
    elim (cases_lt k first) [
      | inl before ↦ front k before
      | inr later ↦ elim (cases_lt k past) [ inl inside ↦ same k (omega (arith, is)) inside | inr behind ↦ back k behind ]
    ]

pub same_to_find : (bytes old : List ℕ) (from first start i : ℕ) → ((k : ℕ) → k < first → get_or bytes k 0 ≡ get_or old k 0)
    → start ≡ max from first → AreSame bytes old start i → AreSame bytes old from i
same_to_find bytes old from first start i front is same k lo hi =
    elim (cases_lt k first) [ inl before ↦ front k before | inr later ↦ same k (omega (arith, is)) hi ]

-- parts that are the same place by place
same_front : (n : ℕ) (xs ys : List ℕ) → n ≤ length xs → n ≤ length ys → ((k : ℕ) → k < n → get_or xs k 0 ≡ get_or ys k 0) → take n xs ≡ take n ys
same_front n xs ys le fits same =
    let one : length (take n xs) ≡ n = length-take-le n xs le in
    let other : length (take n ys) ≡ n = length-take-le n ys fits in
    same_number_lists (take n xs) (take n ys) (one ∙ sym other) (λ k h. let below : k < n = omega arith in get_or-take n xs k 0 below ∙ same k below ∙ sym (get_or-take n ys k 0 below))

same_back : (n : ℕ) (xs ys : List ℕ) → length xs ≡ length ys → ((k : ℕ) → n ≤ k → get_or xs k 0 ≡ get_or ys k 0) → drop n xs ≡ drop n ys
same_back n xs ys e same =
    same_number_lists (drop n xs) (drop n ys) (omega (arith, length-drop n xs, length-drop n ys)) (λ k h. get_or-drop n xs k 0 ∙ same (n + k) (omega arith) ∙ sym (get_or-drop n ys k 0))

-- what was stored, copied over what was before
pub stored_copied : (bytes before part : List ℕ) (first past : ℕ) → length bytes ≡ length before → past ≤ length bytes → first < past
    → ((k : ℕ) → k < first → get_or bytes k 0 ≡ get_or before k 0) → ((k : ℕ) → past ≤ k → get_or bytes k 0 ≡ get_or before k 0)
    → part ≡ take (past - first) (drop first bytes) → put_mid first (past - first) before part ≡ bytes
stored_copied bytes before part first past e fits some front back is =
    let count : first + (past - first) ≡ past = omega arith in
    let head : take first before ≡ take first bytes = sym (same_front first bytes before (omega arith) (omega arith) front) in
    let tail : drop (past - first) (drop first before) ≡ drop (past - first) (drop first bytes) =
    drop-drop (past - first) first before ∙ ap (λ (n : ℕ). drop n before) count ∙ sym (same_back past bytes before e back) ∙ ap (λ (n : ℕ). drop n bytes) (sym count) ∙ sym (drop-drop (past - first) first bytes) in
    ap (λ (zs : List ℕ). zs ++ (part ++ drop (past - first) (drop first before))) head
    ∙ ap (λ (zs : List ℕ). take first bytes ++ (part ++ zs)) tail
    ∙ ap (λ (zs : List ℕ). take first bytes ++ (zs ++ drop (past - first) (drop first bytes))) is
    ∙ ap (λ (zs : List ℕ). take first bytes ++ zs) (take-append-drop (past - first) (drop first bytes))
    ∙ take-append-drop first bytes

pub nothing_stored : (bytes before : List ℕ) (first past : ℕ) → length bytes ≡ length before → past ≤ first
    → ((k : ℕ) → k < first → get_or bytes k 0 ≡ get_or before k 0) → ((k : ℕ) → past ≤ k → get_or bytes k 0 ≡ get_or before k 0) → before ≡ bytes
nothing_stored bytes before first past e none front back =
    sym (same_number_lists bytes before e (λ k h. elim (cases_lt k first) [ inl early ↦ front k early | inr later ↦ back k (omega arith) ]))

-- a page after one more store
pub stored_tells : (p : Page) (o first past : ℕ) (from : List ℕ) (v : Vec ℕ) → v.items ≡ sets p.bytes.items o from → first ≡ min p.first o → past ≡ max p.past (o + length from)
    → o + length from ≤ length p.bytes.items → TellsStores p → TellsStores (record { number = p.number; writable = p.writable; first = first; past = past; bytes = v; before = p.before })
stored_tells p o first past from v new low high fits h = record {
  within = omega (arith, h.within, ap length new, length-sets p.bytes.items o from);
  front = λ k below. ap (λ (xs : List ℕ). get_or xs k 0) new ∙ sets_front from p.bytes.items o k (omega arith) ∙ h.front k (omega arith);
  back = λ k past. ap (λ (xs : List ℕ). get_or xs k 0) new ∙ sets_back from p.bytes.items o k (omega arith) ∙ h.back k (omega arith);
}
