-- Changes of the tree that leave what open files need of it.
use Rattle.std.proofs.Common.{◌⊎◌, ◌≡◌, ◌∙◌, ℕ, ◌≤◌, ◌<◌, true, false, List, Some, inl, inr, refl, arith}
use Rattle.kernel_values.specs.declared.items.OpenKind.{OpenKind}
use Rattle.kernel_values.specs.declared.items.OpenKind.TheVariants.{File, Directory, PipeRead, PipeWrite, Stream, Datagram, RuleSocket}
use Rattle.number_maps.specs.NumberMap.{at}
use Rattle.file_tables.specs.declared.state.Node.{Node}
use Rattle.file_tree.specs.declared.state.FileTree.{FileTree}
use Rattle.open_files.specs.Holding.{is_open}
use Rattle.open_files.specs.declared.state.OpenFile.{OpenFile}
use Rattle.open_laws.specs.Sound.{is_there}
use Rattle.open_laws.proofs.Held.{open_at}
use Rattle.sound_files.specs.Sound.{Belongs, HasInode, IsApart, IsDirectory, IsFile}

-- an inode is in one tree what it is in another
pub record IsSame (t u : FileTree) (i : ℕ) : Type 0 where
  pub nodes : is_there u.nodes i ≡ is_there t.nodes i
  pub directories : is_there u.directories i ≡ is_there t.directories i
  pub contents : is_there u.contents i ≡ is_there t.contents i
  pub image : at u.numbers.image i ≡ at t.numbers.image i
  pub next : t.numbers.next ≤ u.numbers.next

-- a node without a name
pub record IsNameless (t : FileTree) (i : ℕ) : Type 0 where
  pub node : Node
  pub there : at t.nodes i ≡ Some node
  pub nameless : node.has_name ≡ false

-- what is open stays what it is, and what has lost its name is open
pub record Suits (files : List (ℕ × OpenFile)) (t u : FileTree) : Type 0 where
  pub same : (i : ℕ) → is_open files i ≡ true → IsSame t u i
  pub nameless : (i : ℕ) → IsNameless u i → IsNameless t i ⊎ (is_open files i ≡ true)

apart_kept : (t u : FileTree) (i : ℕ) → IsSame t u i → IsApart t i → IsApart u i
apart_kept t u i same e = record {
  least = e.least;
  given = (let g : i < t.numbers.next = e.given in let n : t.numbers.next ≤ u.numbers.next = same.next in omega arith);
  image = same.image ∙ e.image;
  nodeless = same.nodes ∙ e.nodeless;
}

pub inode_kept : (t u : FileTree) (i : ℕ) (kind : OpenKind) → IsSame t u i → HasInode t i kind → HasInode u i kind
inode_kept t u i File same e = let f : IsFile t i = e in record { node = same.nodes ∙ f.node; bytes = same.contents ∙ f.bytes }
inode_kept t u i Directory same e = let f : IsDirectory t i = e in record { node = same.nodes ∙ f.node; names = same.directories ∙ f.names }
inode_kept t u i PipeRead same e = apart_kept t u i same e
inode_kept t u i PipeWrite same e = apart_kept t u i same e
inode_kept t u i Stream same e = absurd e
inode_kept t u i Datagram same e = absurd e
inode_kept t u i RuleSocket same e = absurd e

pub belongs_still : (files : List (ℕ × OpenFile)) (t u : FileTree) → Belongs t files → Suits files t u → Belongs u files
belongs_still files t u b suits = record {
  held = λ serial f h. inode_kept t u f.inode f.kind (suits.same f.inode (open_at files serial f.inode f h refl)) (b.held serial f h);
  nameless = λ i n h none. by_node i (suits.nameless i (record { node = n; there = h; nameless = none }));
}
  where
    by_node : (i : ℕ) → IsNameless t i ⊎ (is_open files i ≡ true) → is_open files i ≡ true
    by_node i c = elim c [ inl old ↦ b.nameless i old.node old.there old.nameless | inr opened ↦ opened ]

same_then : (t u w : FileTree) (i : ℕ) → IsSame t u i → IsSame u w i → IsSame t w i
same_then t u w i a b = record {
  nodes = b.nodes ∙ a.nodes;
  directories = b.directories ∙ a.directories;
  contents = b.contents ∙ a.contents;
  image = b.image ∙ a.image;
  next = (let g : t.numbers.next ≤ u.numbers.next = a.next in let n : u.numbers.next ≤ w.numbers.next = b.next in omega arith);
}

-- one change after another
pub suits_then : (files : List (ℕ × OpenFile)) (t u w : FileTree) → Suits files t u → Suits files u w → Suits files t w
suits_then files t u w a b = record {
  same = λ i h. same_then t u w i (a.same i h) (b.same i h);
  nameless = λ i h. by_node i (b.nameless i h);
}
  where
    by_node : (i : ℕ) → IsNameless u i ⊎ (is_open files i ≡ true) → IsNameless t i ⊎ (is_open files i ≡ true)
    by_node i c = elim c [ inl old ↦ a.nameless i old | inr opened ↦ inr opened ]

pub suits_itself : (files : List (ℕ × OpenFile)) (t : FileTree) → Suits files t t
suits_itself files t = record {
  same = λ i h. record { nodes = refl; directories = refl; contents = refl; image = refl; next = omega arith };
  nameless = λ i h. inl h;
}
