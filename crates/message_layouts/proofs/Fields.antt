-- What bytes tell fits into the fields of headers.
use Rattle.std.proofs.Common.{◌≡◌, ℕ, ◌+◌, ◌<◌, ◌^◌, List, [], ◌∷◌, length, drop, Option, Some, None, refl, ap, sym, subst, ◌∙◌, arith, get_or}
use Rattle.std.specs.Option.{option_map}
use Rattle.std.proofs.lemmas.List.{get_or-drop, length-drop}
use Rattle.std.proofs.lemmas.Option.{none-some, same_Some}
use Rattle.byteorder.specs.Endian.{little_number}
use Rattle.byteorder.specs.Numbers.{little_from-lt}
use Rattle.message_layouts.specs.Controls.{AllFit, AreControls, AreFurther, Control, control_length, control_size, controls_of, spelled}
use Rattle.message_layouts.proofs.Further.{told_are}
use Rattle.message_layouts.proofs.ReadBack.{read_back}

abbrev pub AreBytes : List ℕ → Type 0
AreBytes bytes = (k : ℕ) → get_or bytes k 0 < 256

behind : (n : ℕ) (bytes : List ℕ) → AreBytes bytes → AreBytes (drop n bytes)
behind n bytes small k = rw (get_or-drop n bytes k 0) (small (n + k))

number_fits : (place : ℕ) (bytes : List ℕ) (n : ℕ) → AreBytes bytes → little_number 4 (drop place bytes) ≡ n → n < 256 ^ 4
number_fits place bytes n small is = subst (λ (k : ℕ). k < 256 ^ 4) is (little_from-lt 0 4 (drop place bytes) (behind place bytes small))

-- the messages of a 32-bit process have fields that fit a header of the kernel's own layout
further_fit : (cs : List Control) (bytes : List ℕ) → AreBytes bytes → length bytes < 2 ^ 32 → AreFurther 4 cs bytes → AllFit 8 cs
further_fit [] bytes small few are = tt
further_fit (c ∷ cs) bytes small few are =
    let whole = are.0.whole in
    let size : control_length 8 c < 256 ^ 8 = omega (arith, whole, few) in
    let less : length (drop (control_size 4 c) bytes) < 2 ^ 32 = simp length-drop (omega (arith, few)) in (
      (size, number_fits 4 bytes c.level small are.0.level, number_fits 8 bytes c.kind small are.0.kind),
      further_fit cs (drop (control_size 4 c) bytes) (behind (control_size 4 c) bytes small) less are.1,
    )

all_fit : (cs : List Control) (bytes : List ℕ) → AreBytes bytes → length bytes < 2 ^ 32 → AreControls 4 cs bytes → AllFit 8 cs
all_fit [] bytes small few are = tt
all_fit (c ∷ cs) bytes small few are = further_fit (c ∷ cs) bytes small few are

-- the bytes of the messages of a 32-bit process, in the kernel's own layout, are those of the same messages
pub same_controls : (from out : List ℕ) → AreBytes from → length from < 2 ^ 32 → option_map (spelled 8) (controls_of 4 from) ≡ Some out → controls_of 8 out ≡ controls_of 4 from
same_controls from out small few put = go (controls_of 4 from) refl (put)
  where
    go : (o : Option (List Control)) → controls_of 4 from ≡ o → option_map (spelled 8) o ≡ Some out → controls_of 8 out ≡ o
    go (Some cs) told put = ap (controls_of 8) (sym (same_Some _ _ put)) ∙ read_back 8 cs (omega arith) (all_fit cs from small few (told_are 4 cs from (omega arith) told))
    go None told put = absurd (none-some out put)
