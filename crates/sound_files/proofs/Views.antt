-- Changes of the tree after which each inode is what it was, and has a name just where it had one.
use Rattle.std.proofs.Common.{◌≡◌, ◌∙◌, ℕ, ◌≤◌, List, Option, Some, None, is_some, inl, inr, refl, ap, sym, subst, arith}
use Rattle.kernel_values.specs.declared.times.TimeSpec.{TimeSpec}
use Rattle.kernel_values.specs.declared.status.FileTimes.{FileTimes}
use Rattle.number_maps.specs.NumberMap.{at, put}
use Rattle.file_tables.specs.Contained.{entered, entered_as, left, left_as, with_entry, without_entry}
use Rattle.file_tables.specs.Entries.{named}
use Rattle.file_tables.specs.Nodes.{touched, touched_as}
use Rattle.file_tables.specs.Places.{moved_as, moved_into}
use Rattle.file_tables.specs.Times.{retimed, retimed_as, retimed_node}
use Rattle.file_tables.specs.declared.state.Directory.{Directory}
use Rattle.file_tables.specs.declared.state.Node.{Node}
use Rattle.file_bytes.specs.Row.{resized, written}
use Rattle.file_tree.specs.Contents.{overwritten, overwritten_as, relengthened, relengthened_as}
use Rattle.file_tree.specs.declared.state.FileTree.{FileTree}
use Rattle.open_files.specs.declared.state.OpenFile.{OpenFile}
use Rattle.open_laws.specs.Sound.{is_there}
use Rattle.map_lemmas.proofs.Maps.{at_put, at_put_apart, one_or_other, there_changed}
use Rattle.sound_files.proofs.Trees.{Suits}

-- ---- nodes with other attributes
-- nodes with names just where there were some
pub record SameNodes (t u : List (ℕ × Node)) : Type 0 where
  pub there : (i : ℕ) → is_there u i ≡ is_there t i
  pub marks : (i : ℕ) (n : Node) → at u i ≡ Some n → (m : Node) × (at t i ≡ Some m) × (m.has_name ≡ n.has_name)

itself : (t : List (ℕ × Node)) → SameNodes t t
itself t = record { there = λ i. refl; marks = λ i n h. (n, h, refl) }

module _ (t : List (ℕ × Node)) (q : ℕ) (old new : Node) (there : at t q ≡ Some old) (same : old.has_name ≡ new.has_name) where
  put_there_as : (i : ℕ) → is_there (put t q new) i ≡ is_there t i
  put_there_as i = elim (one_or_other i q) [
    | inl e ↦ ap (λ (k : ℕ). is_some (at (put t q new) k)) e ∙ ap (λ (o : Option Node). is_some o) (at_put t q new) ∙ sym (ap (λ (k : ℕ). is_some (at t k)) e ∙ ap (λ (o : Option Node). is_some o) there)
    | inr other ↦ ap (λ (o : Option Node). is_some o) (at_put_apart t i q new other)
  ]

  put_marks : (i : ℕ) (n : Node) → at (put t q new) i ≡ Some n → (m : Node) × (at t i ≡ Some m) × (m.has_name ≡ n.has_name)
  put_marks i n h = elim (one_or_other i q) [
    | inl e ↦ (
        let both : Some new ≡ Some n = sym (ap (at (put t q new)) e ∙ at_put t q new) ∙ h in
        let is : new ≡ n = cc in
        (old, ap (at t) e ∙ there, same ∙ ap (λ (x : Node). x.has_name) is)
        )
    | inr other ↦ (n, sym (at_put_apart t i q new other) ∙ h, refl)
  ]

  node_put : SameNodes t (put t q new)
  node_put = record { there = put_there_as; marks = put_marks }

touched_case : (t : List (ℕ × Node)) (q : ℕ) (now : TimeSpec) (o : Option Node) → at t q ≡ o → SameNodes t (touched_as t q now o)
touched_case t q now None h = itself t
touched_case t q now (Some n) h = node_put t q n (record n { attributes = record n.attributes { modified = now; changed = now } }) h refl

pub touched_same : (t : List (ℕ × Node)) (q : ℕ) (now : TimeSpec) → SameNodes t (touched t q now)
unfolding touched
touched_same t q now = touched_case t q now (at t q) refl

retimed_case : (t : List (ℕ × Node)) (q : ℕ) (now : TimeSpec) (times : Option FileTimes) (o : Option Node) → at t q ≡ o → SameNodes t (retimed_as t q now times o)
retimed_case t q now times None h = itself t
retimed_case t q now times (Some n) h = node_put t q n (record n { attributes = retimed now times n.attributes }) h refl

pub retimed_same : (t : List (ℕ × Node)) (q : ℕ) (now : TimeSpec) (times : Option FileTimes) → SameNodes t (retimed_node t q now times)
unfolding retimed_node
retimed_same t q now times = retimed_case t q now times (at t q) refl

-- ---- bytes and names
overwritten_case : (t : List (ℕ × List ℕ)) (q start : ℕ) (bytes : List ℕ) (o : Option (List ℕ)) → at t q ≡ o → (i : ℕ) → is_there (overwritten_as t q start bytes o) i ≡ is_there t i
overwritten_case t q start bytes None h i = refl
overwritten_case t q start bytes (Some content) h i = there_changed t i q content (written content start bytes) h

pub overwritten_there : (t : List (ℕ × List ℕ)) (q start : ℕ) (bytes : List ℕ) (i : ℕ) → is_there (overwritten t q start bytes) i ≡ is_there t i
unfolding overwritten
overwritten_there t q start bytes i = overwritten_case t q start bytes (at t q) refl i

relengthened_case : (t : List (ℕ × List ℕ)) (q n : ℕ) (o : Option (List ℕ)) → at t q ≡ o → (i : ℕ) → is_there (relengthened_as t q n o) i ≡ is_there t i
relengthened_case t q n None h i = refl
relengthened_case t q n (Some content) h i = there_changed t i q content (resized content n) h

pub relengthened_there : (t : List (ℕ × List ℕ)) (q n i : ℕ) → is_there (relengthened t q n) i ≡ is_there t i
unfolding relengthened
relengthened_there t q n i = relengthened_case t q n (at t q) refl i

entered_case : (t : List (ℕ × Directory)) (q : ℕ) (name : List ℕ) (child : ℕ) (o : Option Directory) → at t q ≡ o → (i : ℕ) → is_there (entered_as t q name child o) i ≡ is_there t i
entered_case t q name child None h i = refl
entered_case t q name child (Some d) h i = there_changed t i q d (with_entry d name child) h

pub entered_there : (t : List (ℕ × Directory)) (q : ℕ) (name : List ℕ) (child i : ℕ) → is_there (entered t q name child) i ≡ is_there t i
unfolding entered
entered_there t q name child i = entered_case t q name child (at t q) refl i

left_case : (t : List (ℕ × Directory)) (q : ℕ) (name : List ℕ) (o : Option Directory) → at t q ≡ o → (i : ℕ) → is_there (left_as t q name o) i ≡ is_there t i
left_case t q name None h i = refl
left_case t q name (Some d) h i = there_changed t i q d (without_entry d (named d.names name)) h

pub left_there : (t : List (ℕ × Directory)) (q : ℕ) (name : List ℕ) (i : ℕ) → is_there (left t q name) i ≡ is_there t i
unfolding left
left_there t q name i = left_case t q name (at t q) refl i

moved_case : (t : List (ℕ × Directory)) (q parent : ℕ) (o : Option Directory) → at t q ≡ o → (i : ℕ) → is_there (moved_as t q parent o) i ≡ is_there t i
moved_case t q parent None h i = refl
moved_case t q parent (Some d) h i = there_changed t i q d (record d { parent = parent }) h

pub moved_there : (t : List (ℕ × Directory)) (q parent i : ℕ) → is_there (moved_into t q parent) i ≡ is_there t i
unfolding moved_into
moved_there t q parent i = moved_case t q parent (at t q) refl i

-- ---- trees
-- each inode is what it was, and has a name just where it had one
pub record SameInodes (t u : FileTree) : Type 0 where
  pub nodes : SameNodes t.nodes u.nodes
  pub directories : (i : ℕ) → is_there u.directories i ≡ is_there t.directories i
  pub contents : (i : ℕ) → is_there u.contents i ≡ is_there t.contents i
  pub numbers : u.numbers ≡ t.numbers

pub same_suits : (files : List (ℕ × OpenFile)) (t u : FileTree) → SameInodes t u → Suits files t u
same_suits files t u same = record {
  same = λ i h. record {
    nodes = same.nodes.there i;
    directories = same.directories i;
    contents = same.contents i;
    image = ap (λ n. at n.image i) same.numbers;
    next = subst (λ n. t.numbers.next ≤ n.next) (sym same.numbers) (omega arith);
  };
  nameless = λ i h. let m = same.nodes.marks i h.node h.there in inl (record { node = m.0; there = m.1; nameless = m.2 ∙ h.nameless });
}

pub same_nodes : (t : List (ℕ × Node)) → SameNodes t t
same_nodes t = itself t
