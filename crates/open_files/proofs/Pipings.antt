-- What pipes answer, and the open files with them.
use Rattle.std.proofs.Common.{◌≡◌, ℕ, ◌<◌, ◌≤◌, Bool, true, List, [], ◌∷◌, length, take, Result, Ok, Err, refl, ap, sym, arith}
use Rattle.std.proofs.lemmas.Grind.{common_steps}
use Rattle.kernel_values.specs.Outcome.{GivesAlways, settled}
use Rattle.kernel_values.specs.declared.errno.Errno.{Errno}
use Rattle.kernel_values.specs.declared.errno.KernelFault.{KernelFault}
use Rattle.kernel_values.specs.declared.errno.KernelFault.TheVariants as fault
use Rattle.pipe_sock.specs.Pipes as pipes
use Rattle.open_files.specs.Transfers.{moves_bytes, on_pipes}
use Rattle.open_files.specs.declared.state.OpenFiles.{OpenFiles}

settled_kept : {A S : Type 0} (before after : S) (r : Result (A × S) Errno) (e : Errno) → settled before r ≡ (Err e, after) → after ≡ before
settled_kept before after (Ok x) e refused =
    let apart : (settled before (Ok x)).0 ≡ Err e = ap (λ q. q.0) refused in
    cc
settled_kept before after (Err f) e refused = sym (ap (λ q. q.1) refused)

-- a refusal leaves pipes as they were
pub write_kept : (p after : List (ℕ × List ℕ)) (inode wanted : ℕ) (piece : List ℕ) (has_reader : Bool) (e : Errno) → pipes.write p inode wanted piece has_reader ≡ (Err e, after) → after ≡ p
unfolding pipes.write
write_kept p after inode wanted piece has_reader e refused = settled_kept p after _ e refused

-- what pipes gave, the open files with them give
pub pipes_give_always : {A B : Type 0} (view : A → B) (s : OpenFiles) (answer : Result A KernelFault) (after : List (ℕ × List ℕ)) (r : Result B Errno × List (ℕ × List ℕ))
    → ((e : Errno) → r ≡ (Err e, after) → after ≡ s.pipes) → GivesAlways view answer after r → GivesAlways view answer (record s { pipes = after }) (settled s (on_pipes s r))
pipes_give_always view s (Ok x) after r kept given = rw given refl
pipes_give_always view s (Err (fault.Errno e)) after r kept given = rw (given, kept e given) refl
pipes_give_always view s (Err fault.OutOfMemory) after r kept given = absurd given

some_moved : (bytes : List ℕ) → 0 < length bytes → moves_bytes (Ok bytes) ≡ true
some_moved [] some = absurd (omega arith)
some_moved (b ∷ bs) some = refl

-- bytes that wait are moved
pub some_taken : (count : ℕ) (bytes : List ℕ) → 0 < count → count ≤ length bytes → moves_bytes (Ok (take count bytes)) ≡ true
some_taken count bytes some waiting = some_moved (take count bytes) (grind (arith, common_steps))
