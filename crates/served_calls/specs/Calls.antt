-- The form of a served call: an operation on what was fetched, the delivery of its answer, and what
-- stands where that can't be delivered.
use Rattle.std.specs.Prelude.{◌≡◌, ℕ, ◌==◌, Bool, true, false, List, Result, Ok, Err, if◌then◌else◌, ⊤}
use Rattle.kernel_values.specs.declared.errno.Errno.{Errno}
use Rattle.kernel_values.specs.declared.errno.KernelFault.{KernelFault}
use Rattle.kernel_values.specs.declared.errno.KernelFault.TheVariants as fault
use Rattle.kernel_values.specs.Outcome.{outcome_then}
use Rattle.user_memory.specs.Pages.{PageState}

abbrev pub Memory : Type 0
Memory = List PageState

-- from the memory before it to an answer and the memory after it
abbrev pub Delivery : Type 0 → Type 0
Delivery A = Memory → Result A Errno × Memory

-- a call on a state S, whose operation answers A
pub record Call (S A : Type 0) : Type 0 where
  -- what is asked of the state, or the first fault in fetching; and the state after it, which a refusal may have changed too
  pub operation : Result A Errno × S
  -- the result shapes in their order, and the result word
  pub deliver : A → Delivery ℕ
  -- whether the operation's effect stands where its answer can't be delivered
  pub keeps : Bool

-- the errno or the result word, user memory and the state after the call
abbrev pub Served : Type 0 → Type 0
Served S = Result ℕ Errno × (Memory × S)

abbrev pub delivered : {S : Type 0} → Bool → S → S → Result ℕ Errno × Memory → Served S
delivered keeps before after (Ok w, m) = (Ok w, (m, after))
delivered keeps before after (Err e, m) = (Err e, (m, if keeps then after else before))

abbrev pub answered : {S A : Type 0} → Call S A → Memory → S → Result A Errno × S → Served S
answered call m before (Ok x, after) = delivered call.keeps before after (call.deliver x m)
answered call m before (Err e, after) = (Err e, (m, after))

abbrev pub served : {S A : Type 0} → (Memory → S → Call S A) → Memory → S → Served S
served call m s = answered (call m s) m s (call m s).operation

-- the first fault in fetching, or an operation on what was fetched
abbrev pub on_fetched : {S X A : Type 0} → S → Result X Errno → (X → Result A Errno × S) → Result A Errno × S
on_fetched s (Ok x) ask = ask x
on_fetched s (Err e) ask = (Err e, s)

-- A call's function gave the answer, the memory and the state of its definition. Where it may take
-- memory, nothing is said of a call for which memory ran out; elsewhere there is no such call.
abbrev pub ServesBy : {S : Type 0} → Bool → Result ℕ KernelFault → Memory → S → Served S → Type 0
ServesBy takes (Ok w) m s defined = defined ≡ (Ok w, (m, s))
ServesBy takes (Err (fault.Errno e)) m s defined = defined ≡ (Err e, (m, s))
ServesBy takes (Err fault.OutOfMemory) m s defined = takes ≡ true

abbrev pub Serves : {S : Type 0} → Result ℕ KernelFault → Memory → S → Served S → Type 0
Serves result m s defined = ServesBy true result m s defined

abbrev pub ServesAlways : {S : Type 0} → Result ℕ KernelFault → Memory → S → Served S → Type 0
ServesAlways result m s defined = ServesBy false result m s defined

-- What a line of the choice tells of a call: whether memory may be wanting for it, and its answer, memory and state.
pub record Service (S : Type 0) : Type 0 where
  pub takes : Bool
  pub outcome : Served S

-- a call that takes no memory
abbrev pub spare : {S : Type 0} → Served S → Service S
spare outcome = record { takes = false; outcome = outcome }

-- one that may take some
abbrev pub taking : {S : Type 0} → Served S → Service S
taking outcome = record { takes = true; outcome = outcome }

-- and one that takes some only where this holds
abbrev pub taking_if : {S : Type 0} → Bool → Served S → Service S
taking_if takes outcome = record { takes = takes; outcome = outcome }

-- the choice gave what its line tells
abbrev pub ServesAs : {S : Type 0} → Result ℕ KernelFault → Memory → S → Service S → Type 0
ServesAs result m s service = ServesBy service.takes result m s service.outcome

-- a shape at a pointer that may be absent
abbrev pub optional : ℕ → Delivery ⊤ → Delivery ⊤
optional at store m = if at == 0 then (Ok tt, m) else store m

-- deliveries one after another: what was stored before one that fails stays
infixl 10 ◌>>=◌ ◌>>◌
abbrev pub ◌>>=◌ : {A B : Type 0} → Delivery A → (A → Delivery B) → Delivery B
(d >>= f) m = outcome_then (d m) f

abbrev pub ◌>>◌ : {A B : Type 0} → Delivery A → Delivery B → Delivery B
(d >> e) m = outcome_then (d m) (λ _. e)

abbrev pub gives_word : ℕ → Delivery ℕ
gives_word w m = (Ok w, m)

-- nothing more is stored, and the call answers this error
abbrev pub fails : Errno → Delivery ℕ
fails e m = (Err e, m)

-- a function that delivers gave the answer and the memory of its definition
abbrev pub Delivers : {A : Type 0} → Result A Errno → Memory → Result A Errno × Memory → Type 0
Delivers result after defined = defined ≡ (result, after)
