-- Changes of open files that leave them in the tree.
use Rattle.std.proofs.Common.{◌≡◌, ◌∙◌, ℕ, ◌≤◌, ◌<◌, ◌||◌, Bool, true, false, List, cond, Option, Some, None, inl, inr, refl, ap, sym, subst, arith}
use Rattle.kernel_values.specs.declared.items.OpenKind.{OpenKind}
use Rattle.kernel_values.specs.declared.items.OpenKind.TheVariants.{File, Directory, PipeRead, PipeWrite, Stream, Datagram, RuleSocket}
use Rattle.number_maps.specs.NumberMap.{IsAscending, at, put, removed}
use Rattle.file_tables.specs.Nodes.{stays_as}
use Rattle.file_tables.specs.declared.state.Node.{Node}
use Rattle.file_tree.specs.Removing.{let_go}
use Rattle.file_tree.specs.declared.state.FileTree.{FileTree}
use Rattle.open_files.specs.Descriptors.{with_position}
use Rattle.open_files.specs.Holding.{is_open}
use Rattle.open_files.specs.Kinds.{is_of_pipe}
use Rattle.open_files.specs.declared.state.OpenFile.{OpenFile}
use Rattle.open_laws.specs.Sound.{is_there, most_position}
use Rattle.open_laws.proofs.Held.{Opens, open_at, open_found, open_put, open_removed}
use Rattle.map_lemmas.proofs.Maps.{at_some, every_put, every_removed, not_both, one_or_other, same_there, some_there}
use Rattle.open_laws.proofs.Named.{changed_is_sound}
use Rattle.file_store.specs.declared.state.Files.{Files}
use Rattle.sound_files.specs.Sound.{Belongs, HasInode, IsApart, IsDirectory, IsFile, IsFresh, IsSound}
use Rattle.sound_files.proofs.Changes.{gone_suits}
use Rattle.sound_files.proofs.Trees.{Suits, belongs_still, inode_kept}

-- ---- another open file, and one that changes
pub installed_belongs : (t : FileTree) (files : List (ℕ × OpenFile)) (serial : ℕ) (f : OpenFile) → IsAscending files → at files serial ≡ None → HasInode t f.inode f.kind → Belongs t files → Belongs t (put files serial f)
installed_belongs t files serial f s free has b = record {
  held = every_put (λ q x. HasInode t x.inode x.kind) files serial f (λ q x other h. b.held q x h) has;
  nameless = λ i n h none. open_put files serial f i s (λ old g. absurd (not_both (at files serial) old free g)) (b.nameless i n h none);
}

pub changed_belongs : (t : FileTree) (files : List (ℕ × OpenFile)) (serial : ℕ) (f g : OpenFile) → IsAscending files → at files serial ≡ Some f → g.inode ≡ f.inode → g.kind ≡ f.kind → Belongs t files → Belongs t (put files serial g)
changed_belongs t files serial f g s there inode kind b = record {
  held = every_put (λ q x. HasInode t x.inode x.kind) files serial g (λ q x other h. b.held q x h) (subst (λ (i : ℕ). HasInode t i g.kind) (sym inode) (subst (λ (k : OpenKind). HasInode t f.inode k) (sym kind) (b.held serial f there)));
  nameless = λ i n h none. open_put files serial g i s (λ old e. ap (λ (x : OpenFile). x.inode) (same_there files serial old f e there) ∙ sym inode) (b.nameless i n h none);
}

-- an open file has another position, in range
pub positioned_is_sound : (s : Files) (serial : ℕ) (f : OpenFile) (p : ℕ) → IsSound s → at s.open_files.files serial ≡ Some f → p ≤ most_position f.kind → IsSound (record s { open_files = with_position s.open_files serial f p })
positioned_is_sound s serial f p sound there range = record {
  open_files = changed_is_sound s.open_files serial f (record f { position = p }) sound.open_files (record { there = there; inode = refl; kind = refl; position = range });
  belong = changed_belongs s.tree s.open_files.files serial f (record f { position = p }) sound.open_files.ascend.files there refl refl sound.belong;
}

-- another tree, in which what is open is what it was
pub suited_is_sound : (s : Files) (t : FileTree) → IsSound s → Suits s.open_files.files s.tree t → IsSound (record s { tree = t })
suited_is_sound s t sound suits = record { open_files = sound.open_files; belong = belongs_still s.open_files.files s.tree t sound.belong suits }

-- ---- an open file that goes
pipe_apart : (t : FileTree) (i : ℕ) (kind : OpenKind) → is_of_pipe kind ≡ true → HasInode t i kind → IsApart t i
pipe_apart t i File h e = absurd (let g : false ≡ true = h in cc)
pipe_apart t i Directory h e = absurd (let g : false ≡ true = h in cc)
pipe_apart t i PipeRead h e = e
pipe_apart t i PipeWrite h e = e
pipe_apart t i Stream h e = absurd e
pipe_apart t i Datagram h e = absurd e
pipe_apart t i RuleSocket h e = absurd e

module _ (t : FileTree) (files : List (ℕ × OpenFile)) (serial : ℕ) (f : OpenFile) (s : IsAscending files) (there : at files serial ≡ Some f) (b : Belongs t files) where
  abbrev left : List (ℕ × OpenFile)
  left = removed files serial

  -- what is left belongs to the tree, where a node of that inode has a name or is open
  left_belongs : ((n : Node) → at t.nodes f.inode ≡ Some n → n.has_name ≡ false → is_open left f.inode ≡ true) → Belongs t left
  left_belongs last = record {
    held = every_removed (λ q x. HasInode t x.inode x.kind) files serial s (λ q x other h. b.held q x h);
    nameless = λ i n h none. elim (one_or_other i f.inode) [
      | inl same ↦ ap (is_open left) same ∙ last n (ap (at t.nodes) (sym same) ∙ h) none
      | inr other ↦ open_removed files serial f i s there other (b.nameless i n h none)
    ];
  }

  pub pipe_left : is_of_pipe f.kind ≡ true → Belongs t left
  pipe_left pipe = left_belongs (λ n h none. absurd (
      let apart : IsApart t f.inode = pipe_apart t f.inode f.kind pipe (b.held serial f there) in
      let there : is_there t.nodes f.inode ≡ true = at_some t.nodes f.inode n h in
      let clash : true ≡ false = sym there ∙ apart.nodeless in
      cc
      ))

  named_clash : (o : Option Node) (n : Node) → stays_as o ≡ true → o ≡ Some n → n.has_name ≡ false → ⊥
  named_clash None n h e none = cc
  named_clash (Some m) n h e none =
      let same : m ≡ n = cc in
      let clash : true ≡ false = sym h ∙ ap (λ (x : Node). x.has_name) same ∙ none in
      cc

  abbrev without : FileTree
  without = record t { nodes = removed t.nodes f.inode; contents = removed t.contents f.inode }

  kept_there : IsAscending t.nodes → is_open left f.inode ≡ false → (x : OpenFile) → is_open left x.inode ≡ true → HasInode t x.inode x.kind → HasInode without x.inode x.kind
  kept_there nodes closed x opened has = inode_kept t without x.inode x.kind ((gone_suits left t f.inode nodes closed).same x.inode opened) has

  gone_belongs : IsAscending t.nodes → is_open left f.inode ≡ false → Belongs without left
  gone_belongs nodes closed = record {
    held = λ q x h. kept_there nodes closed x (open_at left q x.inode x h refl) (every_removed (λ k y. HasInode t y.inode y.kind) files serial s (λ k y other g. b.held k y g) q x h);
    nameless = every_removed (λ i n. n.has_name ≡ false → is_open left i ≡ true) t.nodes f.inode nodes (λ i n other h none. open_removed files serial f i s there other (b.nameless i n h none));
  }

  let_go_case : (a c : Bool) → IsAscending t.nodes → stays_as (at t.nodes f.inode) ≡ a → is_open left f.inode ≡ c → Belongs (cond (a || c) t without) left
  let_go_case true c nodes stays opened = left_belongs (λ n h none. absurd (named_clash (at t.nodes f.inode) n stays h none))
  let_go_case false true nodes stays opened = left_belongs (λ n h none. opened)
  let_go_case false false nodes stays opened = gone_belongs nodes opened

  pub let_go_left : IsAscending t.nodes → Belongs (let_go t f.inode (is_open left f.inode)) left
  unfolding let_go
  let_go_left nodes = let_go_case (stays_as (at t.nodes f.inode)) (is_open left f.inode) nodes refl refl

-- ---- what has a node is no pipe, and the next inode number isn't open
node_kind : (t : FileTree) (i : ℕ) (kind : OpenKind) → is_there t.nodes i ≡ true → HasInode t i kind → is_of_pipe kind ≡ false
node_kind t i File there e = refl
node_kind t i Directory there e = refl
node_kind t i PipeRead there e = let a : IsApart t i = e in absurd (let clash : true ≡ false = sym there ∙ a.nodeless in cc)
node_kind t i PipeWrite there e = let a : IsApart t i = e in absurd (let clash : true ≡ false = sym there ∙ a.nodeless in cc)
node_kind t i Stream there e = absurd e
node_kind t i Datagram there e = absurd e
node_kind t i RuleSocket there e = absurd e

pub no_pipe : (s : Files) (i : ℕ) → IsSound s → is_there s.tree.nodes i ≡ true → is_there s.open_files.pipes i ≡ false
no_pipe s i sound there = by_pipe (is_there s.open_files.pipes i) refl
  where
    by_pipe : (b : Bool) → is_there s.open_files.pipes i ≡ b → b ≡ false
    by_pipe false h = refl
    by_pipe true h = absurd (
        let bytes = some_there (at s.open_files.pipes i) h in
        let p : Opens s.open_files.files i = open_found s.open_files.files i sound.open_files.ascend.files (sound.open_files.pipes i bytes.0 bytes.1).opened in
        let has : HasInode s.tree i p.file.kind = subst (λ (q : ℕ). HasInode s.tree q p.file.kind) p.same (sound.belong.held p.serial p.file p.there) in
        let pipe : is_of_pipe p.file.kind ≡ true = sym (sound.open_files.files p.serial p.file p.there).ends ∙ ap (is_there s.open_files.pipes) p.same ∙ h in
        let clash : true ≡ false = sym pipe ∙ node_kind s.tree i p.file.kind there has in
        cc
        )

fresh_kind : (t : FileTree) (i : ℕ) (kind : OpenKind) → IsFresh t i → HasInode t i kind → ⊥
fresh_kind t i File fresh e = let a : IsFile t i = e in let clash : true ≡ false = sym a.node ∙ fresh.nodeless in cc
fresh_kind t i Directory fresh e = let a : IsDirectory t i = e in let clash : true ≡ false = sym a.node ∙ fresh.nodeless in cc
fresh_kind t i PipeRead fresh e = let a : IsApart t i = e in let g : i < t.numbers.next = a.given in let h : t.numbers.next ≤ i = fresh.above in absurd (omega arith)
fresh_kind t i PipeWrite fresh e = let a : IsApart t i = e in let g : i < t.numbers.next = a.given in let h : t.numbers.next ≤ i = fresh.above in absurd (omega arith)
fresh_kind t i Stream fresh e = absurd e
fresh_kind t i Datagram fresh e = absurd e
fresh_kind t i RuleSocket fresh e = absurd e

pub fresh_closed : (s : Files) (i : ℕ) → IsSound s → IsFresh s.tree i → is_open s.open_files.files i ≡ false
fresh_closed s i sound fresh = by_open (is_open s.open_files.files i) refl
  where
    by_open : (b : Bool) → is_open s.open_files.files i ≡ b → b ≡ false
    by_open false h = refl
    by_open true h = absurd (
        let p : Opens s.open_files.files i = open_found s.open_files.files i sound.open_files.ascend.files h in
        fresh_kind s.tree i p.file.kind fresh (subst (λ (q : ℕ). HasInode s.tree q p.file.kind) p.same (sound.belong.held p.serial p.file p.there))
        )

-- no open file has a serial number above the last
pub free_above : (s : Files) (k : ℕ) → IsSound s → s.open_files.made.last_serial < k → at s.open_files.files k ≡ None
free_above s k sound above = by_file (at s.open_files.files k) refl
  where
    by_file : (o : Option OpenFile) → at s.open_files.files k ≡ o → o ≡ None
    by_file None h = refl
    by_file (Some f) h = absurd (let g : k ≤ s.open_files.made.last_serial = (sound.open_files.files k f h).given in omega arith)
