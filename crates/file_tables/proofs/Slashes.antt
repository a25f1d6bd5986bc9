-- The names of a path, byte by byte.
use Rattle.std.proofs.Common.{◌≡◌, ℕ, ◌+◌, ◌-◌, ◌<◌, ◌≤◌, ◌==◌, true, false, List, [], ◌∷◌, ◌++◌, length, get_or, take, drop, arith, refl, ap, ◌∙◌, sym}
use Rattle.std.proofs.lemmas.Grind.{common_steps}
use Rattle.std.proofs.lemmas.List.{at_drop_more, at_drop_all, take_more}
use Rattle.file_tables.specs.Names.{ended, ends_with_slash, is_absolute, names_from, names_of}

-- one byte of a name
byte_more : (name : List ℕ) (b : ℕ) (bs : List ℕ) → (b == 47) ≡ false → names_from name (b ∷ bs) ≡ names_from (name ++ b ∷ []) bs
unfolding names_from
byte_more name b bs h = rw h refl

-- a slash ends a name
byte_end : (name : List ℕ) (b : ℕ) (bs : List ℕ) → (b == 47) ≡ true → names_from name (b ∷ bs) ≡ ended name (names_from [] (b ∷ bs))
unfolding names_from
byte_end name b bs h = rw h refl

byte_all : (name : List ℕ) → names_from name [] ≡ ended name (names_from [] [])
unfolding names_from
byte_all name = refl

ended_some : (name : List ℕ) (names : List (List ℕ)) → 0 < length name → ended name names ≡ name ∷ names
ended_some [] names h = absurd (omega arith)
ended_some (b ∷ bs) names h = refl

pub name_more : (path : List ℕ) (end : ℕ) → end < length path → (get_or path end 0 == 47) ≡ false → names_from (take (end + 1) path) (drop (end + 1) path) ≡ names_from (take end path) (drop end path)
name_more path end h b = sym (at_drop_more (names_from (take end path)) path end 0 h ∙ byte_more (take end path) (get_or path end 0) (drop (end + 1) path) b ∙ ap (λ xs. names_from xs (drop (end + 1) path)) (sym (take_more path end 0 h)))

pub name_end : (path : List ℕ) (end : ℕ) → 0 < end → end < length path → (get_or path end 0 == 47) ≡ true → names_from (take end path) (drop end path) ≡ take end path ∷ names_of (drop end path)
name_end path end some h b =
    let long : 0 < length (take end path) = grind (arith, common_steps) in
    at_drop_more (names_from (take end path)) path end 0 h ∙ byte_end (take end path) (get_or path end 0) (drop (end + 1) path) b ∙ ap (λ xs. ended (take end path) xs) (sym (at_drop_more (names_from []) path end 0 h)) ∙ ended_some (take end path) (names_of (drop end path)) long

pub name_all : (path : List ℕ) (end : ℕ) → 0 < end → end ≤ length path → length path ≤ end → names_from (take end path) (drop end path) ≡ take end path ∷ names_of (drop end path)
name_all path end some most h =
    let long : 0 < length (take end path) = grind (arith, common_steps) in
    at_drop_all (names_from (take end path)) path end h ∙ byte_all (take end path) ∙ ap (λ xs. ended (take end path) xs) (sym (at_drop_all (names_from []) path end h)) ∙ ended_some (take end path) (names_of (drop end path)) long

pub name_first : (path : List ℕ) → 0 < length path → is_absolute path ≡ false → names_from (take 1 path) (drop 1 path) ≡ names_of path
name_first [] some front = absurd (omega arith)
name_first (b ∷ bs) some front = sym (byte_more [] b bs front)

pub no_end : (path : List ℕ) → length path ≡ 0 → ends_with_slash path ≡ false
unfolding ends_with_slash
no_end [] h = refl
no_end (b ∷ bs) h = absurd (omega arith)

pub no_names : (path : List ℕ) → length path ≡ 0 → names_of path ≡ []
unfolding names_from
no_names [] h = refl
no_names (b ∷ bs) h = absurd (omega arith)

pub last_end : (path : List ℕ) → 0 < length path → ends_with_slash path ≡ (get_or path (length path - 1) 0 == 47)
unfolding ends_with_slash
last_end [] h = absurd (omega arith)
last_end (b ∷ []) h = refl
last_end (b ∷ (c ∷ bs)) h = last_end (c ∷ bs) (omega arith) ∙ ap (λ n. n == 47) (grind (arith, common_steps))
