-- Directories and files with bytes, after an inode came or went.
use Rattle.std.proofs.Common.{◌≡◌, ◌≢◌, ◌∙◌, ℕ, ◌&&◌, ◌||◌, Bool, true, false, List, None, is_some, refl, ap, sym, subst, inl, inr}
use Rattle.file_tables.specs.declared.state.Directory.{Directory}
use Rattle.file_tables.specs.declared.state.Node.{Node}
use Rattle.file_tree.specs.declared.state.FileTree.{FileTree}
use Rattle.tree_laws.specs.Sound.{KindsSound}
use Rattle.tree_laws.specs.Views.{is_there, lies_in, marked}
use Rattle.map_lemmas.proofs.Maps.{one_or_other, vacant}
use Rattle.tree_laws.proofs.Views.{directory_there, node_there}

-- what is known of three tests stays with the same three
same_some : (n d c x y z : Bool) → x ≡ n → y ≡ d → z ≡ c → n ≡ (d || c) → x ≡ (y || z)
same_some n d c x y z p q r h = p ∙ (h ∙ (ap (λ (b : Bool). b || c) (sym q) ∙ ap (λ (b : Bool). y || b) (sym r)))

same_one : (d c y z : Bool) → y ≡ d → z ≡ c → (d && c) ≡ false → (y && z) ≡ false
same_one d c y z q r h = ap (λ (b : Bool). b && z) q ∙ (ap (λ (b : Bool). d && b) r ∙ h)

-- two trees have the same at an inode
pub record SameKind (s t : FileTree) (k : ℕ) : Type 0 where
  pub node : is_there t.nodes k ≡ is_there s.nodes k
  pub directory : is_there t.directories k ≡ is_there s.directories k
  pub content : is_there t.contents k ≡ is_there s.contents k

-- an inode is a directory, a file or neither
pub record OneKind (t : FileTree) (i : ℕ) (d c : Bool) : Type 0 where
  pub node : is_there t.nodes i ≡ (d || c)
  pub directory : is_there t.directories i ≡ d
  pub content : is_there t.contents i ≡ c
  pub one : (d && c) ≡ false

pub kinds_but : (s t : FileTree) (i : ℕ) (d c : Bool) → KindsSound s → ((k : ℕ) → k ≢ i → SameKind s t k) → OneKind t i d c → KindsSound t
kinds_but s t i d c h same new = record { some = by_some; one = by_one }
  where
    by_some : (k : ℕ) → is_there t.nodes k ≡ (is_there t.directories k || is_there t.contents k)
    by_some k = elim (one_or_other k i) [
      | inl here ↦ subst (λ (j : ℕ). is_there t.nodes j ≡ (is_there t.directories j || is_there t.contents j)) (sym here) (same_some (d || c) d c (is_there t.nodes i) (is_there t.directories i) (is_there t.contents i) new.node new.directory new.content refl)
      | inr other ↦ (let a : SameKind s t k = same k other in same_some (is_there s.nodes k) (is_there s.directories k) (is_there s.contents k) (is_there t.nodes k) (is_there t.directories k) (is_there t.contents k) a.node a.directory a.content (h.some k))
    ]

    by_one : (k : ℕ) → (is_there t.directories k && is_there t.contents k) ≡ false
    by_one k = elim (one_or_other k i) [
      | inl here ↦ subst (λ (j : ℕ). (is_there t.directories j && is_there t.contents j) ≡ false) (sym here) (same_one d c (is_there t.directories i) (is_there t.contents i) new.directory new.content new.one)
      | inr other ↦ (let a : SameKind s t k = same k other in same_one (is_there s.directories k) (is_there s.contents k) (is_there t.directories k) (is_there t.contents k) a.directory a.content (h.one k))
    ]

pub kinds_stay : (s t : FileTree) → KindsSound s → ((k : ℕ) → SameKind s t k) → KindsSound t
kinds_stay s t h same = record {
  some = λ k. (let a : SameKind s t k = same k in same_some (is_there s.nodes k) (is_there s.directories k) (is_there s.contents k) (is_there t.nodes k) (is_there t.directories k) (is_there t.contents k) a.node a.directory a.content (h.some k));
  one = λ k. (let a : SameKind s t k = same k in same_one (is_there s.directories k) (is_there s.contents k) (is_there t.directories k) (is_there t.contents k) a.directory a.content (h.one k));
}

-- ---- what one kind tells of the others
neither : (a b : Bool) → (a || b) ≡ false → (a ≡ false) × (b ≡ false)
neither true b h = cc
neither false b h = (refl, h)

other_kind : (a b : Bool) → (a && b) ≡ false → a ≡ true → b ≡ false
other_kind true b h t = h
other_kind false b h t = absurd (let x : false ≡ true = t in cc)

pub no_directory : (s : FileTree) (i : ℕ) → KindsSound s → is_there s.nodes i ≡ false → is_there s.directories i ≡ false
no_directory s i h none = (neither (is_there s.directories i) (is_there s.contents i) (sym (h.some i) ∙ none)).0

pub no_content : (s : FileTree) (i : ℕ) → KindsSound s → is_there s.directories i ≡ true → is_there s.contents i ≡ false
no_content s i h there = other_kind (is_there s.directories i) (is_there s.contents i) (h.one i) there

-- ---- the same look-ups are the same kind
pub same_node : (n m : List (ℕ × Node)) (k : ℕ) → marked m k ≡ marked n k → is_there m k ≡ is_there n k
same_node n m k h = node_there m k ∙ (ap is_some h ∙ sym (node_there n k))

pub same_directory : (t u : List (ℕ × Directory)) (k : ℕ) → lies_in u k ≡ lies_in t k → is_there u k ≡ is_there t k
same_directory t u k h = directory_there u k ∙ (ap is_some h ∙ sym (directory_there t k))

pub unmarked : (n : List (ℕ × Node)) (k : ℕ) → is_there n k ≡ false → marked n k ≡ None
unmarked n k h = vacant (marked n k) (sym (node_there n k) ∙ h)

pub nowhere : (t : List (ℕ × Directory)) (k : ℕ) → is_there t k ≡ false → lies_in t k ≡ None
nowhere t k h = vacant (lies_in t k) (sym (directory_there t k) ∙ h)

pub no_bytes : (s : FileTree) (i : ℕ) → KindsSound s → is_there s.nodes i ≡ false → is_there s.contents i ≡ false
no_bytes s i h none = (neither (is_there s.directories i) (is_there s.contents i) (sym (h.some i) ∙ none)).1

either_there : (n d c : Bool) → n ≡ (d || c) → d ≡ true → n ≡ true
either_there n true c h t = h
either_there n false c h t = absurd (let x : false ≡ true = t in cc)

pub directory_node : (s : FileTree) (i : ℕ) → KindsSound s → is_there s.directories i ≡ true → is_there s.nodes i ≡ true
directory_node s i h there = either_there (is_there s.nodes i) (is_there s.directories i) (is_there s.contents i) (h.some i) there
