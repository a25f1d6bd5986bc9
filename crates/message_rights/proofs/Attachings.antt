-- Open files of descriptors, one after another, and control messages likewise.
use Rattle.std.proofs.Common.{◌≡◌, ◌∙◌, ℕ, ℤ, zero, suc, ◌+◌, ◌-◌, ◌<◌, ◌*◌, ◌/◌, ◌≤◌, Bool, List, [], ◌∷◌, ◌++◌, length, append_assoc, append-nil, Result, Ok, Err, refl, ap, sym, arith}
use Rattle.kernel_values.specs.Outcome.{◌>>=◌}
use Rattle.kernel_values.specs.declared.errno.Errno.{Errno}
use Rattle.kernel_values.specs.declared.identity.Credentials.{Credentials}
use Rattle.socket_tables.specs.declared.sending.Outgoing.{Outgoing}
use Rattle.open_files.specs.declared.state.OpenFiles.{OpenFiles}
use Rattle.message_rights.specs.Attaching.{serial_at, serials_from, with_control, with_controls}

-- what is sent, with these open files and those of the descriptors from one on
abbrev pub filled_from : OpenFiles → List ℕ → Outgoing → List ℕ → ℕ → ℕ → Result Outgoing Errno
filled_from s content sent rights index left = serials_from s content index left >>= λ more. Ok (record sent { rights = rights ++ more })

module _ (s : OpenFiles) (content : List ℕ) (sent : Outgoing) (rights : List ℕ) (index : ℕ) where
  by_rest : (serial left : ℕ) (r : Result (List ℕ) Errno)
      → ((r >>= λ others. Ok (serial ∷ others)) >>= λ more. Ok (record sent { rights = rights ++ more })) ≡ (r >>= λ more. Ok (record sent { rights = (rights ++ serial ∷ []) ++ more }))
  by_rest serial left (Ok xs) = ap (λ (l : List ℕ). Ok (record sent { rights = l })) (sym (append_assoc rights (serial ∷ []) xs))
  by_rest serial left (Err e) = refl

  next_filled : (left : ℕ) (serial : ℕ) → serial_at s content index ≡ Ok serial
      → filled_from s content sent rights index (suc left) ≡ filled_from s content sent (rights ++ serial ∷ []) (index + 1) left
  unfolding serials_from
  next_filled left serial opened = rw opened (by_rest serial left (serials_from s content (index + 1) left))

  next_refused : (left : ℕ) (e : Errno) → serial_at s content index ≡ Err e → filled_from s content sent rights index (suc left) ≡ Err e
  unfolding serials_from
  next_refused left e refused = rw refused refl

  -- one open file more
  pub one_more : (count : ℕ) (serial : ℕ) → index < count → serial_at s content index ≡ Ok serial
      → filled_from s content sent rights index (count - index) ≡ filled_from s content sent (rights ++ serial ∷ []) (index + 1) (count - (index + 1))
  one_more count serial within opened =
      let next : count - index ≡ suc (count - (index + 1)) = omega arith in
      rw next (next_filled (count - (index + 1)) serial opened)

  -- one that isn't open
  pub one_refused : (count : ℕ) (e : Errno) → index < count → serial_at s content index ≡ Err e → filled_from s content sent rights index (count - index) ≡ Err e
  one_refused count e within refused =
      let next : count - index ≡ suc (count - (index + 1)) = omega arith in
      rw next (next_refused (count - (index + 1)) e refused)

  -- no more
  pub all_filled : (count : ℕ) → index ≡ count → filled_from s content sent rights index (count - index) ≡ Ok (record sent { rights = rights })
  unfolding serials_from
  all_filled count end =
      let none : count - index ≡ 0 = omega (arith, end) in
      rw none (ap (λ (l : List ℕ). Ok (record sent { rights = l })) (append-nil rights))
