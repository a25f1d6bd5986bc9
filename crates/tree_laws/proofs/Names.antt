-- What names mean, after one came, went or moved.
use Rattle.std.proofs.Common.{◌⊎◌, ◌≡◌, ◌≢◌, ◌∙◌, ℕ, true, List, Option, Some, None, ap, sym, inl, inr}
use Rattle.file_tables.specs.declared.state.Directory.{Directory}
use Rattle.file_tables.specs.declared.state.Entry.{Entry}
use Rattle.file_tables.specs.declared.state.Node.{Node}
use Rattle.tree_laws.specs.Sound.{IsNamed, NamesSound}
use Rattle.tree_laws.specs.Views.{entry_in, lies_in, marked}
use Rattle.map_lemmas.proofs.Maps.{not_both, one_or_other}
use Rattle.tree_laws.proofs.Views.{here_or_else}

same_entry : (o : Option Entry) (e f : Entry) → o ≡ Some e → o ≡ Some f → e ≡ f
same_entry o e f h g = let both : Some e ≡ Some f = sym h ∙ g in cc

at_place : (t : List (ℕ × Directory)) (k r q p : ℕ) (e : Entry) → k ≡ q → r ≡ p → entry_in t k r ≡ Some e → entry_in t q p ≡ Some e
at_place t k r q p e same both h = sym (ap (λ (z : ℕ). entry_in t z r) same ∙ ap (entry_in t q) both) ∙ h

-- an inode that is new has a name, at a position that was free
pub record Makes (n m : List (ℕ × Node)) (t u : List (ℕ × Directory)) (q p i : ℕ) (f : Entry) : Type 0 where
  pub unmarked : marked n i ≡ None
  pub vacant : entry_in t q p ≡ None
  pub new : entry_in u q p ≡ Some f
  pub means : f.child ≡ i
  pub others : (k r : ℕ) → (k ≡ q → r ≢ p) → entry_in u k r ≡ entry_in t k r
  pub mark : marked m i ≡ Some true
  pub marks : (k : ℕ) → k ≢ i → marked m k ≡ marked n k
  pub lies : (k : ℕ) → k ≢ i → lies_in u k ≡ lies_in t k
  pub inside : (z : ℕ) → lies_in u i ≡ Some z → z ≡ q

module _ (n m : List (ℕ × Node)) (t u : List (ℕ × Directory)) (q p i : ℕ) (f : Entry) (c : Makes n m t u q p i f) (s : NamesSound n t) (free : i ≢ 2) where
  abbrev Split : ℕ → ℕ → Entry → Type 0
  Split k r e = ((k ≡ q) × (r ≡ p) × (e.child ≡ i)) ⊎ ((entry_in t k r ≡ Some e) × (e.child ≢ i))

  make_split : (k r : ℕ) (e : Entry) → entry_in u k r ≡ Some e → Split k r e
  make_split k r e h = elim (here_or_else k r q p) [
    | inl here ↦ inl (here.0, here.1, ap (λ (x : Entry). x.child) (same_entry (entry_in u q p) e f (at_place u k r q p e here.0 here.1 h) c.new) ∙ c.means)
    | inr other ↦ (let old : entry_in t k r ≡ Some e = sym (c.others k r other) ∙ h in
        inr (old, λ same. not_both (marked n e.child) true (ap (marked n) same ∙ c.unmarked) (s.meant k r e old)))
  ]

  make_meant : (k r : ℕ) (e : Entry) → entry_in u k r ≡ Some e → marked m e.child ≡ Some true
  make_meant k r e h = elim (make_split k r e h) [
    | inl here ↦ ap (marked m) here.2 ∙ c.mark
    | inr old ↦ c.marks e.child old.1 ∙ s.meant k r e old.0
  ]

  make_rootless : (k r : ℕ) (e : Entry) → entry_in u k r ≡ Some e → e.child ≢ 2
  make_rootless k r e h root = elim (make_split k r e h) [
    | inl here ↦ free (sym here.2 ∙ root)
    | inr old ↦ s.rootless k r e old.0 root
  ]

  make_alone : (k r l v : ℕ) (e g : Entry) → entry_in u k r ≡ Some e → entry_in u l v ≡ Some g → e.child ≡ g.child → (k ≡ l) × (r ≡ v)
  make_alone k r l v e g h j same = elim (make_split k r e h) [
    | inl here ↦ elim (make_split l v g j) [
      | inl there ↦ (here.0 ∙ sym there.0, here.1 ∙ sym there.1)
      | inr old ↦ absurd (old.1 (sym same ∙ here.2))
    ]
    | inr first ↦ elim (make_split l v g j) [
      | inl there ↦ absurd (first.1 (same ∙ there.2))
      | inr second ↦ s.alone k r l v e g first.0 second.0 same
    ]
  ]

  make_up : (k r z : ℕ) (e : Entry) → entry_in u k r ≡ Some e → lies_in u e.child ≡ Some z → z ≡ k
  make_up k r z e h lies = elim (make_split k r e h) [
    | inl here ↦ c.inside z (sym (ap (lies_in u) here.2) ∙ lies) ∙ sym here.0
    | inr old ↦ s.up k r z e old.0 (sym (c.lies e.child old.1) ∙ lies)
  ]

  make_kept : (j : ℕ) → IsNamed t j → IsNamed u j
  make_kept j old = record {
    place = old.place;
    position = old.position;
    entry = old.entry;
    there = c.others old.place old.position (λ same both. not_both (entry_in t q p) old.entry c.vacant (at_place t old.place old.position q p old.entry same both old.there)) ∙ old.there;
    means = old.means;
  }

  make_stands : (j : ℕ) → marked m j ≡ Some true → j ≢ 2 → IsNamed u j
  make_stands j h other = elim (one_or_other j i) [
    | inl same ↦ record { place = q; position = p; entry = f; there = c.new; means = c.means ∙ sym same }
    | inr apart ↦ make_kept j (s.stands j (sym (c.marks j apart) ∙ h) other)
  ]

  make_directories : (j z : ℕ) → lies_in u j ≡ Some z → marked m j ≡ Some true
  make_directories j z h = elim (one_or_other j i) [
    | inl same ↦ ap (marked m) same ∙ c.mark
    | inr apart ↦ c.marks j apart ∙ s.directories j z (sym (c.lies j apart) ∙ h)
  ]

  pub make_names : NamesSound m u
  make_names = record { meant = make_meant; rootless = make_rootless; alone = make_alone; up = make_up; stands = make_stands; directories = make_directories }

-- a name is gone, and the inode is no directory any more, nor marked as one that has a name
pub record Drops (n m : List (ℕ × Node)) (t u : List (ℕ × Directory)) (q p i : ℕ) (f : Entry) : Type 0 where
  pub stood : entry_in t q p ≡ Some f
  pub means : f.child ≡ i
  pub gone : entry_in u q p ≡ None
  pub others : (k r : ℕ) → (k ≡ q → r ≢ p) → entry_in u k r ≡ entry_in t k r
  pub unmarked : marked m i ≢ Some true
  pub marks : (k : ℕ) → k ≢ i → marked m k ≡ marked n k
  pub lies : (k : ℕ) → k ≢ i → lies_in u k ≡ lies_in t k
  pub nowhere : lies_in u i ≡ None

module _ (n m : List (ℕ × Node)) (t u : List (ℕ × Directory)) (q p i : ℕ) (f : Entry) (c : Drops n m t u q p i f) (s : NamesSound n t) where
  drop_old : (k r : ℕ) (e : Entry) → entry_in u k r ≡ Some e → (entry_in t k r ≡ Some e) × (e.child ≢ i)
  drop_old k r e h = elim (here_or_else k r q p) [
    | inl here ↦ absurd (not_both (entry_in u q p) e c.gone (at_place u k r q p e here.0 here.1 h))
    | inr other ↦ (let old : entry_in t k r ≡ Some e = sym (c.others k r other) ∙ h in
        (old, λ same. (let one = s.alone k r q p e f old c.stood (same ∙ sym c.means) in other one.0 one.1)))
  ]

  drop_stands : (j : ℕ) → marked m j ≡ Some true → j ≢ 2 → IsNamed u j
  drop_stands j h root =
      let apart : j ≢ i = λ same. c.unmarked (sym (ap (marked m) same) ∙ h) in
      let old : IsNamed t j = s.stands j (sym (c.marks j apart) ∙ h) root in
      record {
        place = old.place;
        position = old.position;
        entry = old.entry;
        there = c.others old.place old.position (λ same both. apart (sym old.means ∙ (ap (λ (x : Entry). x.child) (same_entry (entry_in t q p) old.entry f (at_place t old.place old.position q p old.entry same both old.there) c.stood) ∙ c.means))) ∙ old.there;
        means = old.means;
      }

  drop_directories : (j z : ℕ) → lies_in u j ≡ Some z → marked m j ≡ Some true
  drop_directories j z h =
      let apart : j ≢ i = λ same. not_both (lies_in u i) z c.nowhere (sym (ap (lies_in u) same) ∙ h) in
      c.marks j apart ∙ s.directories j z (sym (c.lies j apart) ∙ h)

  pub drop_names : NamesSound m u
  drop_names = record {
    meant = λ k r e h. (let old = drop_old k r e h in c.marks e.child old.1 ∙ s.meant k r e old.0);
    rootless = λ k r e h. s.rootless k r e (drop_old k r e h).0;
    alone = λ k r l v e g h j same. s.alone k r l v e g (drop_old k r e h).0 (drop_old l v g j).0 same;
    up = λ k r z e h lies. (let old = drop_old k r e h in s.up k r z e old.0 (sym (c.lies e.child old.1) ∙ lies));
    stands = drop_stands;
    directories = drop_directories;
  }

-- a name is gone in one position and made in another that was free
pub record Moves (n m : List (ℕ × Node)) (t u : List (ℕ × Directory)) (q p l v i : ℕ) (f g : Entry) : Type 0 where
  pub stood : entry_in t q p ≡ Some f
  pub meant : f.child ≡ i
  pub gone : entry_in u q p ≡ None
  pub vacant : entry_in t l v ≡ None
  pub new : entry_in u l v ≡ Some g
  pub means : g.child ≡ i
  pub others : (k r : ℕ) → (k ≡ q → r ≢ p) → (k ≡ l → r ≢ v) → entry_in u k r ≡ entry_in t k r
  pub marks : (k : ℕ) → marked m k ≡ marked n k
  pub lies : (k : ℕ) → k ≢ i → lies_in u k ≡ lies_in t k
  pub inside : (z : ℕ) → lies_in u i ≡ Some z → z ≡ l

module _ (n m : List (ℕ × Node)) (t u : List (ℕ × Directory)) (q p l v i : ℕ) (f g : Entry) (c : Moves n m t u q p l v i f g) (s : NamesSound n t) where
  abbrev Splits : ℕ → ℕ → Entry → Type 0
  Splits k r e = ((k ≡ l) × (r ≡ v) × (e.child ≡ i)) ⊎ ((entry_in t k r ≡ Some e) × (e.child ≢ i))

  move_split : (k r : ℕ) (e : Entry) → entry_in u k r ≡ Some e → Splits k r e
  move_split k r e h = elim (here_or_else k r l v) [
    | inl here ↦ inl (here.0, here.1, ap (λ (x : Entry). x.child) (same_entry (entry_in u l v) e g (at_place u k r l v e here.0 here.1 h) c.new) ∙ c.means)
    | inr other ↦ elim (here_or_else k r q p) [
      | inl left ↦ absurd (not_both (entry_in u q p) e c.gone (at_place u k r q p e left.0 left.1 h))
      | inr apart ↦ (let old : entry_in t k r ≡ Some e = sym (c.others k r apart other) ∙ h in
          inr (old, λ same. (let one = s.alone k r q p e f old c.stood (same ∙ sym c.meant) in apart one.0 one.1)))
    ]
  ]

  move_mark : marked m i ≡ Some true
  move_mark = c.marks i ∙ (sym (ap (marked n) c.meant) ∙ s.meant q p f c.stood)

  move_meant : (k r : ℕ) (e : Entry) → entry_in u k r ≡ Some e → marked m e.child ≡ Some true
  move_meant k r e h = elim (move_split k r e h) [
    | inl here ↦ ap (marked m) here.2 ∙ move_mark
    | inr old ↦ c.marks e.child ∙ s.meant k r e old.0
  ]

  move_rootless : (k r : ℕ) (e : Entry) → entry_in u k r ≡ Some e → e.child ≢ 2
  move_rootless k r e h root = elim (move_split k r e h) [
    | inl here ↦ s.rootless q p f c.stood (c.meant ∙ (sym here.2 ∙ root))
    | inr old ↦ s.rootless k r e old.0 root
  ]

  move_alone : (k r a b : ℕ) (e x : Entry) → entry_in u k r ≡ Some e → entry_in u a b ≡ Some x → e.child ≡ x.child → (k ≡ a) × (r ≡ b)
  move_alone k r a b e x h j same = elim (move_split k r e h) [
    | inl here ↦ elim (move_split a b x j) [
      | inl there ↦ (here.0 ∙ sym there.0, here.1 ∙ sym there.1)
      | inr old ↦ absurd (old.1 (sym same ∙ here.2))
    ]
    | inr first ↦ elim (move_split a b x j) [
      | inl there ↦ absurd (first.1 (same ∙ there.2))
      | inr second ↦ s.alone k r a b e x first.0 second.0 same
    ]
  ]

  move_up : (k r z : ℕ) (e : Entry) → entry_in u k r ≡ Some e → lies_in u e.child ≡ Some z → z ≡ k
  move_up k r z e h lies = elim (move_split k r e h) [
    | inl here ↦ c.inside z (sym (ap (lies_in u) here.2) ∙ lies) ∙ sym here.0
    | inr old ↦ s.up k r z e old.0 (sym (c.lies e.child old.1) ∙ lies)
  ]

  move_kept : (j : ℕ) → j ≢ i → IsNamed t j → IsNamed u j
  move_kept j apart old = record {
    place = old.place;
    position = old.position;
    entry = old.entry;
    there = c.others old.place old.position
        (λ same both. apart (sym old.means ∙ (ap (λ (x : Entry). x.child) (same_entry (entry_in t q p) old.entry f (at_place t old.place old.position q p old.entry same both old.there) c.stood) ∙ c.meant)))
        (λ same both. not_both (entry_in t l v) old.entry c.vacant (at_place t old.place old.position l v old.entry same both old.there)) ∙ old.there;
    means = old.means;
  }

  move_stands : (j : ℕ) → marked m j ≡ Some true → j ≢ 2 → IsNamed u j
  move_stands j h root = elim (one_or_other j i) [
    | inl same ↦ record { place = l; position = v; entry = g; there = c.new; means = c.means ∙ sym same }
    | inr apart ↦ move_kept j apart (s.stands j (sym (c.marks j) ∙ h) root)
  ]

  move_directories : (j z : ℕ) → lies_in u j ≡ Some z → marked m j ≡ Some true
  move_directories j z h = elim (one_or_other j i) [
    | inl same ↦ ap (marked m) same ∙ move_mark
    | inr apart ↦ c.marks j ∙ s.directories j z (sym (c.lies j apart) ∙ h)
  ]

  pub move_names : NamesSound m u
  move_names = record { meant = move_meant; rootless = move_rootless; alone = move_alone; up = move_up; stands = move_stands; directories = move_directories }

-- nothing that names are about changed
pub names_stay : (n m : List (ℕ × Node)) (t : List (ℕ × Directory)) → ((k : ℕ) → marked m k ≡ marked n k) → NamesSound n t → NamesSound m t
names_stay n m t marks s = record {
  meant = λ k r e h. marks e.child ∙ s.meant k r e h;
  rootless = s.rootless;
  alone = s.alone;
  up = s.up;
  stands = λ j h root. s.stands j (sym (marks j) ∙ h) root;
  directories = λ j z h. marks j ∙ s.directories j z h;
}

-- an inode without a name is no one's
pub names_forgotten : (n m : List (ℕ × Node)) (t : List (ℕ × Directory)) (i : ℕ) → marked n i ≢ Some true → marked m i ≢ Some true → ((k : ℕ) → k ≢ i → marked m k ≡ marked n k) → NamesSound n t → NamesSound m t
names_forgotten n m t i before after apart s = record {
  meant = λ k r e h. (let old : marked n e.child ≡ Some true = s.meant k r e h in apart e.child (λ same. before (sym (ap (marked n) same) ∙ old)) ∙ old);
  rootless = s.rootless;
  alone = s.alone;
  up = s.up;
  stands = λ j h root. s.stands j (sym (apart j (λ same. after (sym (ap (marked m) same) ∙ h))) ∙ h) root;
  directories = λ j z h. (let old : marked n j ≡ Some true = s.directories j z h in apart j (λ same. before (sym (ap (marked n) same) ∙ old)) ∙ old);
}
