-- The text of a directory, name by name from its end.
use Rattle.std.proofs.Common.{◌≡◌, ℕ, suc, ◌+◌, ◌-◌, ◌<◌, ◌≤◌, ◌==◌, ◌++◌, ◌∷◌, true, false, List, length, None, refl, ap, ◌∙◌, arith}
use Rattle.std.proofs.lemmas.Grind.{common_steps}
use Rattle.std.specs.Prelude.{zero}
use Rattle.file_tables.specs.Directories.{parent_of}
use Rattle.file_tables.specs.PathTexts.{name_in, short_text, text_up}
use Rattle.file_tables.specs.declared.state.Directory.{Directory}

pub text_end : (d : List (ℕ × Directory)) (place step count : ℕ) (text : List ℕ) → count ≤ step → text_up d place text (count - step) ≡ text
unfolding text_up
text_end d place step count text h = let e : count - step ≡ 0 = omega arith in rw e refl

pub text_root : (d : List (ℕ × Directory)) (place step count : ℕ) (text : List ℕ) → step < count → (place == 2) ≡ true → text_up d place text (count - step) ≡ text
unfolding text_up
text_root d place step count text h root = let e : count - step ≡ suc (count - (step + 1)) = omega arith in rw (e, root) refl

pub text_next : (d : List (ℕ × Directory)) (place step count : ℕ) (text : List ℕ) → step < count → (place == 2) ≡ false → text_up d (parent_of d place) (47 ∷ (name_in d (parent_of d place) place ++ text)) (count - (step + 1)) ≡ text_up d place text (count - step)
unfolding text_up
text_next d place step count text h other = let e : count - step ≡ suc (count - (step + 1)) = omega arith in rw (e, other) refl

text_length : (d : List (ℕ × Directory)) (place n : ℕ) (text : List ℕ) → length text ≤ length (text_up d place text n)
unfolding text_up
text_length d place zero text = omega arith
text_length d place (suc n) text = grind (arith, common_steps, text_length d (parent_of d place) n (47 ∷ (name_in d (parent_of d place) place ++ text)))

-- the text only grows on the way up, so that of all names is too long where that of some is
pub text_long : (d : List (ℕ × Directory)) (place step count : ℕ) (text longer whole : List ℕ) → step < count → (place == 2) ≡ false → longer ≡ 47 ∷ (name_in d (parent_of d place) place ++ text) → 4095 < length longer → text_up d place text (count - step) ≡ whole → short_text whole ≡ None
text_long d place step count text longer whole h other e long same =
    let next : text_up d (parent_of d place) (47 ∷ (name_in d (parent_of d place) place ++ text)) (count - (step + 1)) ≡ text_up d place text (count - step) = text_next d place step count text h other in
    let grown : length longer ≤ length (text_up d (parent_of d place) longer (count - (step + 1))) = text_length d (parent_of d place) (count - (step + 1)) longer in
    let all : text_up d (parent_of d place) longer (count - (step + 1)) ≡ whole = rw e (next ∙ same) in
    let there : 4095 < length whole = omega (arith, grown, ap length all) in
    grind (arith, common_steps)
