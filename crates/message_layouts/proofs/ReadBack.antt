-- What is spelled can be read back.
use Rattle.std.proofs.Common.{◌≡◌, ℕ, ◌+◌, ◌-◌, ◌<◌, ◌++◌, List, [], ◌∷◌, length, take, drop, replicate, Some, refl, ap, sym, subst, ◌∙◌, arith, append_assoc, length-append}
use Rattle.std.proofs.lemmas.List.{drop_at, length-replicate, take_at}
use Rattle.byteorder.specs.Endian.{little_bytes, little_number}
use Rattle.byteorder.specs.Numbers.{length-bytes_low_first, little_number-reads_back}
use Rattle.message_layouts.specs.Controls.{AllFit, AreControls, AreFurther, BeginsWith, Control, Fits, control_bytes, control_length, control_size, controls_of, header_size, spelled}
use Rattle.message_layouts.proofs.Further.{are_told, padded_most}

-- the gap behind a message
abbrev gap : ℕ → Control → List ℕ
gap word c = replicate (control_size word c - control_length word c) 0

spread : (word : ℕ) (c : Control) (rest : List ℕ)
    → control_bytes word c ++ rest ≡ little_bytes word (control_length word c) ++ (little_bytes 4 c.level ++ (little_bytes 4 c.kind ++ (c.content ++ (gap word c ++ rest))))
spread word c rest = simp append_assoc refl

count : (word : ℕ) (c : Control) → 0 < word → length (control_bytes word c) ≡ control_size word c
count word c some =
    let most = padded_most word (control_length word c) some in
    let first = length-bytes_low_first 0 word (control_length word c) in
    simp (length-append, length-replicate, first) (omega (arith, most))

module _ (word : ℕ) (c : Control) (rest : List ℕ) (some : 0 < word) (fits : Fits word c) where
  abbrev a : List ℕ
  a = little_bytes word (control_length word c)

  abbrev b : List ℕ
  b = little_bytes 4 c.level

  abbrev d : List ℕ
  d = little_bytes 4 c.kind

  abbrev e : List ℕ
  e = c.content ++ (gap word c ++ rest)

  first_size : length a ≡ word
  first_size = length-bytes_low_first 0 word (control_length word c)

  at_level : drop word (a ++ (b ++ (d ++ e))) ≡ b ++ (d ++ e)
  at_level = drop_at a _ word first_size

  at_kind : drop (word + 4) (a ++ (b ++ (d ++ e))) ≡ d ++ e
  at_kind = ap (drop (word + 4)) (sym (append_assoc a b (d ++ e))) ∙ drop_at (a ++ b) _ (word + 4) (simp (length-append, first_size) refl)

  at_content : drop (header_size word) (a ++ (b ++ (d ++ e))) ≡ e
  at_content = ap (drop (header_size word)) (sym (append_assoc a b (d ++ e)) ∙ sym (append_assoc (a ++ b) d e)) ∙ drop_at ((a ++ b) ++ d) _ (header_size word) (simp (length-append, first_size) (omega arith))

  begins : BeginsWith word c (control_bytes word c ++ rest)
  begins = rw (spread word c rest) (record {
    told = little_number-reads_back word _ (b ++ (d ++ e)) fits.0;
    level = ap (little_number 4) at_level ∙ little_number-reads_back 4 _ (d ++ e) fits.1;
    kind = ap (little_number 4) at_kind ∙ little_number-reads_back 4 _ e fits.2;
    content = ap (take (length c.content)) at_content ∙ take_at c.content _ (length c.content) refl;
    whole = simp (length-append, first_size) (omega arith);
  })

  next : drop (control_size word c) (control_bytes word c ++ rest) ≡ rest
  next = drop_at (control_bytes word c) rest _ (count word c some)

-- the bytes of messages are further messages
further : (word : ℕ) (cs : List Control) → 0 < word → AllFit word cs → AreFurther word cs (spelled word cs)
unfolding spelled
further word [] some fit = omega arith
further word (c ∷ cs) some fit =
    (begins word c (spelled word cs) some fit.0, subst (AreFurther word cs) (sym (next word c (spelled word cs) some fit.0)) (further word cs some fit.1))

pub are_spelled : (word : ℕ) (cs : List Control) → 0 < word → AllFit word cs → AreControls word cs (spelled word cs)
unfolding spelled
are_spelled word [] some fit = refl
are_spelled word (c ∷ cs) some fit = further word (c ∷ cs) some fit

-- the messages of the bytes of messages are these
pub read_back : (word : ℕ) (cs : List Control) → 0 < word → AllFit word cs → controls_of word (spelled word cs) ≡ Some cs
read_back word cs some fit = are_told word cs (spelled word cs) some (are_spelled word cs some fit)
