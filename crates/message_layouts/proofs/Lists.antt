-- Lists of messages, their sizes and their bytes.
use Rattle.std.proofs.Common.{◌≡◌, ℕ, true, false, List, Option, Some, None, refl, ap, subst, ◌∙◌, arith, inl, inr}
use Rattle.std.specs.Prelude.{IsSome}
use Rattle.std.specs.Option.{option_map}
use Rattle.std.proofs.lemmas.Bool.{cases_Bool}
use Rattle.std.proofs.lemmas.Option.{none-some}
use Rattle.message_layouts.specs.Controls.{AreControls, Control, controls_of, further_in, is_cut_short, native_bytes, native_size, spelled, spelled_size}
use Rattle.message_layouts.proofs.Further.{are_told, told_are}

-- the list that bytes are of has their size
pub size_of_list : (result : Option ℕ) (bytes : List ℕ) → result ≡ option_map (spelled_size 8) (controls_of 4 bytes) → (cs : List Control) → AreControls 4 cs bytes → result ≡ Some (spelled_size 8 cs)
size_of_list result bytes is cs are = is ∙ ap (option_map (spelled_size 8)) (are_told 4 cs bytes (omega arith) are)

false-not-true : false ≡ true → ⊥
false-not-true same = cc

-- where there is a size there is a list
pub list_of_size : (result : Option ℕ) (bytes : List ℕ) → result ≡ option_map (spelled_size 8) (controls_of 4 bytes) → IsSome result → (cs : List Control) × AreControls 4 cs bytes
list_of_size result bytes is some = go (controls_of 4 bytes) refl (subst IsSome is some)
  where
    go : (o : Option (List Control)) → controls_of 4 bytes ≡ o → IsSome (option_map (spelled_size 8) o) → (cs : List Control) × AreControls 4 cs bytes
    go (Some cs) told some = (cs, told_are 4 cs bytes (omega arith) told)
    go None told some = absurd (false-not-true some)

-- where there is a list, its messages are further messages
whole : (bytes : List ℕ) (n : ℕ) → option_map (spelled_size 8) (controls_of 4 bytes) ≡ Some n → controls_of 4 bytes ≡ further_in 4 bytes
unfolding controls_of
whole bytes n size = elim (cases_Bool (is_cut_short 4 bytes)) [
  | inl short ↦ absurd (none-some n (rw short at size))
  | inr long ↦ rw long refl
]

pub whole_size : (bytes : List ℕ) (n : ℕ) → option_map (spelled_size 8) (controls_of 4 bytes) ≡ Some n → native_size bytes ≡ Some n
whole_size bytes n size = rw (whole bytes n size) at size

pub whole_bytes : (bytes out : List ℕ) (n : ℕ) → option_map (spelled_size 8) (controls_of 4 bytes) ≡ Some n → native_bytes bytes ≡ Some out → option_map (spelled 8) (controls_of 4 bytes) ≡ Some out
whole_bytes bytes out n size put = rw (whole bytes n size) put
