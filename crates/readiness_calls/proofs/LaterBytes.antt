-- A store leaves the bytes behind it, and what can be read.
use Rattle.std.proofs.Common.{◌≡◌, ℕ, zero, suc, ◌+◌, ◌/◌, ◌%◌, ◌≤◌, Bool, eqb, List, [], ◌∷◌, length, refl, sym, ◌∙◌, inl, inr, arith}
use Rattle.std.proofs.lemmas.Bool.{cases_Bool, cases_eq, eq-eqb, ne_eqb}
use Rattle.std.proofs.lemmas.List.{get_or-set_other}
use Rattle.served_calls.specs.Calls.{Memory}
use Rattle.user_memory.specs.Pages.{PageState, byte_at, byte_in, is_mapped, is_page, page_at, put_byte, put_in}
use Rattle.user_memory.specs.Memory.{all_pass, bytes_at, is_readable, list_from, with_bytes}

-- a byte put into a page leaves which pages there are
page_put : (ps : List PageState) (m i b n : ℕ) → is_page (page_at (put_in ps m i b) n) ≡ is_page (page_at ps n)
unfolding page_at put_in
page_put [] m i b n = refl
page_put (p ∷ ps) m i b n =
    elim (cases_Bool (eqb p.number m)) [
      | inl e ↦ rw e (elim (cases_Bool (eqb p.number n)) [ inl f ↦ rw f refl | inr f ↦ rw f refl ])
      | inr e ↦ rw e (elim (cases_Bool (eqb p.number n)) [ inl f ↦ rw f refl | inr f ↦ rw f (page_put ps m i b n) ])
    ]

-- and the other bytes
byte_put : (ps : List PageState) (m i b n j : ℕ) → (n ≡ m → j ≡ i → ⊥) → byte_in (page_at (put_in ps m i b) n) j ≡ byte_in (page_at ps n) j
unfolding page_at put_in
byte_put [] m i b n j other = refl
byte_put (p ∷ ps) m i b n j other =
    elim (cases_eq p.number m) [
      | inl e ↦ rw (eq-eqb p.number m e) (elim (cases_eq p.number n) [
        | inl f ↦ rw (eq-eqb p.number n f) (get_or-set_other p.bytes i j b 0 (other (sym f ∙ e)))
        | inr f ↦ rw (ne_eqb p.number n f) refl
      ])
      | inr e ↦ rw (ne_eqb p.number m e) (elim (cases_eq p.number n) [
        | inl f ↦ rw (eq-eqb p.number n f) refl
        | inr f ↦ rw (ne_eqb p.number n f) (byte_put ps m i b n j other)
      ])
    ]

mapped_with : (xs : List ℕ) (m : Memory) (a c : ℕ) → is_mapped (with_bytes m a xs) c ≡ is_mapped m c
unfolding with_bytes
mapped_with [] m a c = refl
mapped_with (x ∷ xs) m a c = mapped_with xs (put_byte m a x) (a + 1) c ∙ page_put m (a / 4096) (a % 4096) x (c / 4096)

byte_with : (xs : List ℕ) (m : Memory) (a c : ℕ) → a + length xs ≤ c → byte_at (with_bytes m a xs) c ≡ byte_at m c
unfolding with_bytes
byte_with [] m a c later = refl
byte_with (x ∷ xs) m a c later =
    byte_with xs (put_byte m a x) (a + 1) c (omega arith) ∙ byte_put m (a / 4096) (a % 4096) x (c / 4096) (c % 4096) (λ page offset. omega arith)

same_pass : (n : ℕ) (f g : ℕ → Bool) (b : ℕ) → ((c : ℕ) → b ≤ c → f c ≡ g c) → all_pass f b n ≡ all_pass g b n
unfolding all_pass
same_pass zero f g b same = refl
same_pass (suc n) f g b same = rw (same b (omega arith), same_pass n f g (b + 1) (λ c later. same c (omega arith))) refl

same_list : (n : ℕ) (f g : ℕ → ℕ) (b : ℕ) → ((c : ℕ) → b ≤ c → f c ≡ g c) → list_from f b n ≡ list_from g b n
unfolding list_from
same_list zero f g b same = refl
same_list (suc n) f g b same = rw (same b (omega arith), same_list n f g (b + 1) (λ c later. same c (omega arith))) refl

pub readable_kept : (xs : List ℕ) (m : Memory) (a b n : ℕ) → is_readable (with_bytes m a xs) b n ≡ is_readable m b n
readable_kept xs m a b n = rw (same_pass n (is_mapped (with_bytes m a xs)) (is_mapped m) b (λ c later. mapped_with xs m a c)) refl

pub bytes_kept : (xs : List ℕ) (m : Memory) (a b n : ℕ) → a + length xs ≤ b → bytes_at (with_bytes m a xs) b n ≡ bytes_at m b n
bytes_kept xs m a b n behind = same_list n (byte_at (with_bytes m a xs)) (byte_at m) b (λ c later. byte_with xs m a c (omega arith))
