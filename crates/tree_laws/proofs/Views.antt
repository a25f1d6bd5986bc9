-- What look-ups give in directories and nodes that were changed.
use Rattle.std.proofs.Common.{◌⊎◌, ◌≡◌, ◌≢◌, ◌∙◌, ℕ, Bool, false, List, Option, Some, None, is_some, refl, ap, sym, inl, inr}
use Rattle.std.specs.Option.{option_map, unwrap_or}
use Rattle.kernel_values.specs.declared.status.FileTimes.{FileTimes}
use Rattle.kernel_values.specs.declared.times.TimeSpec.{TimeSpec}
use Rattle.number_maps.specs.NumberMap.{IsAscending, at, changed, put, removed}
use Rattle.file_tables.specs.Directories.{parent_as, parent_of}
use Rattle.file_tables.specs.Nodes.{nameless, nameless_as, touched, touched_as}
use Rattle.file_tables.specs.Times.{retimed, retimed_as, retimed_node}
use Rattle.file_tables.specs.declared.state.Directory.{Directory}
use Rattle.file_tables.specs.declared.state.Entry.{Entry}
use Rattle.file_tables.specs.declared.state.Node.{Node}
use Rattle.tree_laws.specs.Views.{entry_as, entry_in, is_there, lies_in, marked}
use Rattle.map_lemmas.proofs.Maps.{ascending_put, at_changed, at_changed_apart, at_gone, at_put, at_put_apart, at_removed_apart, one_or_other}

-- ---- nodes
abbrev mark : Node → Bool
mark n = n.has_name

pub marked_put : (t : List (ℕ × Node)) (i : ℕ) (n : Node) → marked (put t i n) i ≡ Some n.has_name
unfolding marked
marked_put t i n = ap (option_map mark) (at_put t i n)

pub marked_put_apart : (t : List (ℕ × Node)) (i k : ℕ) (n : Node) → k ≢ i → marked (put t i n) k ≡ marked t k
unfolding marked
marked_put_apart t i k n other = ap (option_map mark) (at_put_apart t k i n other)

-- another node that says the same of its name
again : (t : List (ℕ × Node)) (i k : ℕ) (n m : Node) → at t i ≡ Some n → m.has_name ≡ n.has_name → marked (put t i m) k ≡ marked t k
unfolding marked
again t i k n m there same = elim (one_or_other k i) [
  | inl here ↦ ap (option_map mark) (ap (at (put t i m)) here ∙ at_put t i m) ∙ (ap (λ (b : Bool). Some b) same ∙ sym (ap (option_map mark) (ap (at t) here ∙ there)))
  | inr other ↦ marked_put_apart t i k m other
]

touched_case : (t : List (ℕ × Node)) (q k : ℕ) (now : TimeSpec) (o : Option Node) → at t q ≡ o → marked (touched_as t q now o) k ≡ marked t k
touched_case t q k now None h = refl
touched_case t q k now (Some n) h = again t q k n (record n { attributes = record n.attributes { modified = now; changed = now } }) h refl

pub marked_touched : (t : List (ℕ × Node)) (q k : ℕ) (now : TimeSpec) → marked (touched t q now) k ≡ marked t k
unfolding touched
marked_touched t q k now = touched_case t q k now (at t q) refl

ascending_touched_case : (t : List (ℕ × Node)) (q : ℕ) (now : TimeSpec) (o : Option Node) → IsAscending t → IsAscending (touched_as t q now o)
ascending_touched_case t q now None s = s
ascending_touched_case t q now (Some n) s = ascending_put t q _ s

pub ascending_touched : (t : List (ℕ × Node)) (q : ℕ) (now : TimeSpec) → IsAscending t → IsAscending (touched t q now)
unfolding touched
ascending_touched t q now s = ascending_touched_case t q now (at t q) s

retimed_case : (t : List (ℕ × Node)) (q k : ℕ) (now : TimeSpec) (times : Option FileTimes) (o : Option Node) → at t q ≡ o → marked (retimed_as t q now times o) k ≡ marked t k
retimed_case t q k now times None h = refl
retimed_case t q k now times (Some n) h = again t q k n (record n { attributes = retimed now times n.attributes }) h refl

pub marked_retimed : (t : List (ℕ × Node)) (q k : ℕ) (now : TimeSpec) (times : Option FileTimes) → marked (retimed_node t q now times) k ≡ marked t k
unfolding retimed_node
marked_retimed t q k now times = retimed_case t q k now times (at t q) refl

ascending_retimed_case : (t : List (ℕ × Node)) (q : ℕ) (now : TimeSpec) (times : Option FileTimes) (o : Option Node) → IsAscending t → IsAscending (retimed_as t q now times o)
ascending_retimed_case t q now times None s = s
ascending_retimed_case t q now times (Some n) s = ascending_put t q _ s

pub ascending_retimed : (t : List (ℕ × Node)) (q : ℕ) (now : TimeSpec) (times : Option FileTimes) → IsAscending t → IsAscending (retimed_node t q now times)
unfolding retimed_node
ascending_retimed t q now times s = ascending_retimed_case t q now times (at t q) s

pub marked_gone : (t : List (ℕ × Node)) (i : ℕ) → IsAscending t → marked (removed t i) i ≡ None
unfolding marked
marked_gone t i s = ap (option_map mark) (at_gone t i s)

pub marked_removed_apart : (t : List (ℕ × Node)) (i k : ℕ) → k ≢ i → marked (removed t i) k ≡ marked t k
unfolding marked
marked_removed_apart t i k other = ap (option_map mark) (at_removed_apart t k i other)

nameless_case : (t : List (ℕ × Node)) (i : ℕ) (o : Option Node) → at t i ≡ o → marked (nameless_as t i o) i ≡ option_map (λ (b : Bool). false) (marked t i)
unfolding marked
nameless_case t i None h = ap (option_map mark) h ∙ sym (ap (λ (o : Option Node). option_map (λ (b : Bool). false) (option_map mark o)) h)
nameless_case t i (Some n) h = ap (option_map mark) (at_put t i (record n { has_name = false })) ∙ sym (ap (λ (o : Option Node). option_map (λ (b : Bool). false) (option_map mark o)) h)

pub marked_nameless : (t : List (ℕ × Node)) (i : ℕ) → marked (nameless t i) i ≡ option_map (λ (b : Bool). false) (marked t i)
unfolding nameless
marked_nameless t i = nameless_case t i (at t i) refl

nameless_apart_case : (t : List (ℕ × Node)) (i k : ℕ) (o : Option Node) → k ≢ i → marked (nameless_as t i o) k ≡ marked t k
nameless_apart_case t i k None other = refl
nameless_apart_case t i k (Some n) other = marked_put_apart t i k (record n { has_name = false }) other

pub marked_nameless_apart : (t : List (ℕ × Node)) (i k : ℕ) → k ≢ i → marked (nameless t i) k ≡ marked t k
unfolding nameless
marked_nameless_apart t i k other = nameless_apart_case t i k (at t i) other

ascending_nameless_case : (t : List (ℕ × Node)) (i : ℕ) (o : Option Node) → IsAscending t → IsAscending (nameless_as t i o)
ascending_nameless_case t i None s = s
ascending_nameless_case t i (Some n) s = ascending_put t i _ s

pub ascending_nameless : (t : List (ℕ × Node)) (i : ℕ) → IsAscending t → IsAscending (nameless t i)
unfolding nameless
ascending_nameless t i s = ascending_nameless_case t i (at t i) s

mapped_there : {V X : Type 0} (f : V → X) (o : Option V) → is_some o ≡ is_some (option_map f o)
mapped_there f None = refl
mapped_there f (Some v) = refl

pub node_there : (t : List (ℕ × Node)) (i : ℕ) → is_there t i ≡ is_some (marked t i)
unfolding marked
node_there t i = mapped_there mark (at t i)

-- ---- directories
abbrev parent : Directory → ℕ
parent d = d.parent

pub directory_there : (t : List (ℕ × Directory)) (i : ℕ) → is_there t i ≡ is_some (lies_in t i)
unfolding lies_in
directory_there t i = mapped_there parent (at t i)

mapped : {V X : Type 0} (f : V → X) (o : Option V) (x : X) → option_map f o ≡ Some x → (v : V) × (o ≡ Some v) × (f v ≡ x)
mapped f None x h = cc
mapped f (Some v) x h = let e : f v ≡ x = cc in (v, refl, e)

-- a directory that lies somewhere is there
pub directory_of : (t : List (ℕ × Directory)) (i z : ℕ) → lies_in t i ≡ Some z → (d : Directory) × (at t i ≡ Some d) × (d.parent ≡ z)
unfolding lies_in
directory_of t i z h = mapped parent (at t i) z h

pub lies_there : (t : List (ℕ × Directory)) (i : ℕ) (d : Directory) → at t i ≡ Some d → lies_in t i ≡ Some d.parent
unfolding lies_in
lies_there t i d h = ap (option_map parent) h

pub entry_there : (t : List (ℕ × Directory)) (q p : ℕ) (d : Directory) → at t q ≡ Some d → entry_in t q p ≡ at d.names p
unfolding entry_in
entry_there t q p d h = ap (entry_as p) h

held_case : (p : ℕ) (o : Option Directory) (e : Entry) → entry_as p o ≡ Some e → (d : Directory) × (o ≡ Some d) × (at d.names p ≡ Some e)
held_case p None e h = cc
held_case p (Some d) e h = (d, refl, h)

-- an entry stands in a directory
pub holder_of : (t : List (ℕ × Directory)) (q p : ℕ) (e : Entry) → entry_in t q p ≡ Some e → (d : Directory) × (at t q ≡ Some d) × (at d.names p ≡ Some e)
unfolding entry_in
holder_of t q p e h = held_case p (at t q) e h

pub no_entries : (t : List (ℕ × Directory)) (q p : ℕ) → at t q ≡ None → entry_in t q p ≡ None
unfolding entry_in
no_entries t q p h = ap (entry_as p) h

pub lies_nowhere : (t : List (ℕ × Directory)) (i : ℕ) → at t i ≡ None → lies_in t i ≡ None
unfolding lies_in
lies_nowhere t i h = ap (option_map parent) h

parent_case : (i : ℕ) (o : Option Directory) → parent_as i o ≡ unwrap_or (option_map parent o) i
parent_case i None = refl
parent_case i (Some d) = refl

pub parent_is : (t : List (ℕ × Directory)) (i : ℕ) → parent_of t i ≡ unwrap_or (lies_in t i) i
unfolding parent_of lies_in
parent_is t i = parent_case i (at t i)

-- what is the same at a number looks the same there
pub same_lies : (t u : List (ℕ × Directory)) (k : ℕ) → at u k ≡ at t k → lies_in u k ≡ lies_in t k
unfolding lies_in
same_lies t u k h = ap (option_map parent) h

pub same_entry : (t u : List (ℕ × Directory)) (k r : ℕ) → at u k ≡ at t k → entry_in u k r ≡ entry_in t k r
unfolding entry_in
same_entry t u k r h = ap (entry_as r) h

-- ---- a directory that was changed, and lies where it did
module _ (t : List (ℕ × Directory)) (q : ℕ) (d new : Directory) (there : at t q ≡ Some d) where
  changed_at : (k : ℕ) → k ≡ q → at (changed t q new) k ≡ Some new
  changed_at k same = ap (at (changed t q new)) same ∙ at_changed t q d new there

  pub lies_changed : (k : ℕ) → new.parent ≡ d.parent → lies_in (changed t q new) k ≡ lies_in t k
  lies_changed k stays = elim (one_or_other k q) [
    | inl same ↦ lies_there (changed t q new) k new (changed_at k same) ∙ (ap (λ (z : ℕ). Some z) stays ∙ sym (lies_there t k d (ap (at t) same ∙ there)))
    | inr other ↦ same_lies t (changed t q new) k (at_changed_apart t k q new other)
  ]

  pub entry_changed : (r : ℕ) → entry_in (changed t q new) q r ≡ at new.names r
  entry_changed r = entry_there (changed t q new) q r new (changed_at q refl)

  pub entry_changed_apart : (k r : ℕ) → k ≢ q → entry_in (changed t q new) k r ≡ entry_in t k r
  entry_changed_apart k r other = same_entry t (changed t q new) k r (at_changed_apart t k q new other)

  pub directory_changed : (k : ℕ) (x : Directory) → at (changed t q new) k ≡ Some x → (x ≡ new) ⊎ (at t k ≡ Some x)
  directory_changed k x h = elim (one_or_other k q) [
    | inl same ↦ inl (let both : Some new ≡ Some x = sym (changed_at k same) ∙ h in cc)
    | inr other ↦ inr (sym (at_changed_apart t k q new other) ∙ h)
  ]

-- one position, or another
pub here_or_else : (k r q p : ℕ) → ((k ≡ q) × (r ≡ p)) ⊎ (k ≡ q → r ≢ p)
here_or_else k r q p = elim (one_or_other k q) [
  | inl same ↦ elim (one_or_other r p) [
    | inl both ↦ inl (same, both)
    | inr other ↦ inr (λ e. other)
  ]
  | inr other ↦ inr (λ e. absurd (other e))
]
