-- A name that was changed.
use Rattle.std.proofs.Common.{◌≡◌, ◌≢◌, ◌∙◌, ℕ, ◌+◌, ◌==◌, ◌&&◌, ◌||◌, nat_lt, not, Bool, true, false, List, [], ◌∷◌, length, cond, Option, Some, None, is_some, ok_or, unwrap_or, Result, Ok, Err, refl, ap, sym, subst, inl, inr, arith}
use Rattle.std.proofs.lemmas.Grind.{common_steps}
use Rattle.std.specs.Bool.{⊤}
use Rattle.std.specs.Option.{is_none, option_map}
use Rattle.kernel_values.specs.Bounds.{at_fdcwd}
use Rattle.kernel_values.specs.Outcome.{◌>>=◌, ◌>>◌, refused_if}
use Rattle.kernel_values.specs.declared.errno.Errno.{Errno}
use Rattle.kernel_values.specs.declared.errno.Errno.TheVariants.{Busy, InvalidArgument, IsDirectory, NameTooLong, NoEntry, NotDirectory, NotEmpty, TableFull}
use Rattle.kernel_values.specs.declared.times.TimeSpec.{TimeSpec}
use Rattle.number_maps.specs.NumberMap.{at, changed, removed}
use Rattle.file_tables.specs.Contained.{entered, left, with_next, without_entry}
use Rattle.file_tables.specs.Directories as directories
use Rattle.file_tables.specs.Directories.{child_of, is_dot, is_dot_dot}
use Rattle.file_tables.specs.Entries.{named}
use Rattle.file_tables.specs.Names.{ends_with_slash}
use Rattle.file_tables.specs.Places.{lies_inside, moved_as, moved_into}
use Rattle.file_tables.specs.declared.state.Directory.{Directory}
use Rattle.file_tables.specs.declared.state.Entry.{Entry}
use Rattle.file_tree.specs.Paths.{entry_at, is_directory, last_entry}
use Rattle.file_tree.specs.Removing.{spare, unnamed, without_directory, without_name}
use Rattle.file_tree.specs.Renaming as renaming
use Rattle.file_tree.specs.declared.state.FileTree.{FileTree}
use Rattle.open_files.specs.Made.{is_full}
use Rattle.file_store.specs.Removing.{parent_named}
use Rattle.file_store.specs.Renaming.{is_entry_open, rename, renamed}
use Rattle.file_store.specs.declared.state.Files.{Files}
use Rattle.file_laws.specs.Names.{HasSoundNames, NameMoves, RenamedNameMoves}
use Rattle.file_laws.proofs.Entries.{ascending_kept, distinct_kept, named_gone, named_missing, named_there, vacant_kept}
use Rattle.map_lemmas.proofs.Maps.{at_changed, at_changed_apart, at_removed_apart, one_or_other, vacant}
use Rattle.map_lemmas.proofs.Steps.{both_answered, not_refused, operation_answered, same_answer, same_value}
use Rattle.file_laws.proofs.Walks.{apart_by, found}
use Rattle.file_tables.proofs.NameSteps.{still_nowhere}

-- ---- what a name means in a place
abbrev child : ℕ × Entry → ℕ
child e = e.1.child

-- a directory stands at a place, with sound names
pub record Sound (dirs : List (ℕ × Directory)) (q : ℕ) : Type 0 where
  pub dir : Directory
  pub there : at dirs q ≡ Some dir
  pub sound : HasSoundNames dir

-- the same, without a name
pub record Lacks (dirs : List (ℕ × Directory)) (q : ℕ) (n : List ℕ) : Type 0 where
  pub dir : Directory
  pub there : at dirs q ≡ Some dir
  pub sound : HasSoundNames dir
  pub missing : named dir.names n ≡ None

pub record Means (dirs : List (ℕ × Directory)) (q : ℕ) (n : List ℕ) (x : Option ℕ) : Type 0 where
  pub dir : Directory
  pub there : at dirs q ≡ Some dir
  pub means : option_map child (named dir.names n) ≡ x

-- ---- a name goes
sound_without : (d : Directory) (o : Option (ℕ × Entry)) → HasSoundNames d → HasSoundNames (without_entry d o)
sound_without d None h = h
sound_without d (Some e) h = record {
  ascend = ascending_kept d.names e.0 h.ascend;
  once = distinct_kept d.names e.0 h.once;
  vacant = vacant_kept d.names (d.last + 1) e.0 h.vacant;
}

gone_without : (d : Directory) (n : List ℕ) (o : Option (ℕ × Entry)) → named d.names n ≡ o → HasSoundNames d → named (without_entry d o).names n ≡ None
gone_without d n None e h = e
gone_without d n (Some x) e h = named_gone d.names n x h.ascend h.once e

missing_without : (d : Directory) (n : List ℕ) (o : Option (ℕ × Entry)) → named d.names n ≡ None → named (without_entry d o).names n ≡ None
missing_without d n None h = h
missing_without d n (Some x) h = still_nowhere d.names x.0 n h

left_there : (dirs : List (ℕ × Directory)) (p : ℕ) (k : List ℕ) (d : Directory) → at dirs p ≡ Some d → left dirs p k ≡ changed dirs p (without_entry d (named d.names k))
unfolding left
left_there dirs p k d there = rw there refl

left_at : (dirs : List (ℕ × Directory)) (p : ℕ) (k : List ℕ) (d : Directory) → at dirs p ≡ Some d → at (left dirs p k) p ≡ Some (without_entry d (named d.names k))
left_at dirs p k d there = ap (λ (t : List (ℕ × Directory)). at t p) (left_there dirs p k d there) ∙ at_changed dirs p d (without_entry d (named d.names k)) there

left_apart : (dirs : List (ℕ × Directory)) (p q : ℕ) (k : List ℕ) → q ≢ p → at (left dirs p k) q ≡ at dirs q
unfolding left
left_apart dirs p q k other = by_directory (at dirs p) refl
  where
    by_directory : (o : Option Directory) → at dirs p ≡ o → at (left dirs p k) q ≡ at dirs q
    by_directory None h = rw h refl
    by_directory (Some d) h = ap (λ (t : List (ℕ × Directory)). at t q) (left_there dirs p k d h) ∙ at_changed_apart dirs q p (without_entry d (named d.names k)) other

lacks_gone : (dirs : List (ℕ × Directory)) (q : ℕ) (n : List ℕ) → Sound dirs q → Lacks (left dirs q n) q n
lacks_gone dirs q n h = record {
  dir = without_entry h.dir (named h.dir.names n);
  there = left_at dirs q n h.dir h.there;
  sound = sound_without h.dir (named h.dir.names n) h.sound;
  missing = gone_without h.dir n (named h.dir.names n) refl h.sound;
}

sound_left : (dirs : List (ℕ × Directory)) (p q : ℕ) (k : List ℕ) → Sound dirs q → Sound (left dirs p k) q
sound_left dirs p q k h = elim (one_or_other q p) [
  | inl same ↦ subst (λ (z : ℕ). Sound (left dirs z k) q) same (record { dir = without_entry h.dir (named h.dir.names k); there = left_at dirs q k h.dir h.there; sound = sound_without h.dir (named h.dir.names k) h.sound })
  | inr other ↦ record { dir = h.dir; there = left_apart dirs p q k other ∙ h.there; sound = h.sound }
]

lacks_left : (dirs : List (ℕ × Directory)) (p q : ℕ) (k n : List ℕ) → Lacks dirs q n → Lacks (left dirs p k) q n
lacks_left dirs p q k n h = elim (one_or_other q p) [
  | inl same ↦ subst (λ (z : ℕ). Lacks (left dirs z k) q n) same (record { dir = without_entry h.dir (named h.dir.names k); there = left_at dirs q k h.dir h.there; sound = sound_without h.dir (named h.dir.names k) h.sound; missing = missing_without h.dir n (named h.dir.names k) h.missing })
  | inr other ↦ record { dir = h.dir; there = left_apart dirs p q k other ∙ h.there; sound = h.sound; missing = h.missing }
]

lacks_removed : (dirs : List (ℕ × Directory)) (j q : ℕ) (n : List ℕ) → q ≢ j → Lacks dirs q n → Lacks (removed dirs j) q n
lacks_removed dirs j q n other h = record { dir = h.dir; there = at_removed_apart dirs q j other ∙ h.there; sound = h.sound; missing = h.missing }

-- ---- a name comes
entered_there : (dirs : List (ℕ × Directory)) (q i : ℕ) (n : List ℕ) (d : Directory) → at dirs q ≡ Some d → named d.names n ≡ None → entered dirs q n i ≡ changed dirs q (with_next d n i)
unfolding entered
entered_there dirs q i n d there missing = rw (there, missing) refl

entered_at : (dirs : List (ℕ × Directory)) (q i : ℕ) (n : List ℕ) (d : Directory) → at dirs q ≡ Some d → named d.names n ≡ None → at (entered dirs q n i) q ≡ Some (with_next d n i)
entered_at dirs q i n d there missing = ap (λ (t : List (ℕ × Directory)). at t q) (entered_there dirs q i n d there missing) ∙ at_changed dirs q d (with_next d n i) there

means_entered : (dirs : List (ℕ × Directory)) (q i : ℕ) (n : List ℕ) → Lacks dirs q n → Means (entered dirs q n i) q n (Some i)
means_entered dirs q i n h = record {
  dir = with_next h.dir n i;
  there = entered_at dirs q i n h.dir h.there h.missing;
  means = ap (option_map child) (named_there h.dir.names (h.dir.last + 1) (record { name = n; child = i }) h.missing h.sound.vacant);
}

still_lacks : (dirs : List (ℕ × Directory)) (q p i : ℕ) (n k : List ℕ) → Lacks dirs q n → Lacks dirs p k → ((q ≡ p) → n ≢ k) → Means (entered dirs q n i) p k None
still_lacks dirs q p i n k h g apart = elim (one_or_other p q) [
  | inl same ↦ (
      let both : Some g.dir ≡ Some h.dir = sym g.there ∙ (ap (at dirs) same ∙ h.there) in
      let one : g.dir ≡ h.dir = cc in
      let missing : named h.dir.names k ≡ None = subst (λ (d : Directory). named d.names k ≡ None) one g.missing in
      record {
        dir = with_next h.dir n i;
        there = ap (at (entered dirs q n i)) same ∙ entered_at dirs q i n h.dir h.there h.missing;
        means = ap (option_map child) (named_missing h.dir.names (h.dir.last + 1) (record { name = n; child = i }) k (apart (sym same)) h.sound.vacant missing);
      })
  | inr other ↦ record {
    dir = g.dir;
    there = ap (λ (t : List (ℕ × Directory)). at t p) (entered_there dirs q i n h.dir h.there h.missing) ∙ (at_changed_apart dirs p q (with_next h.dir n i) other ∙ g.there);
    means = ap (option_map child) g.missing;
  }
]

-- ---- a directory lies elsewhere
means_moved : (dirs : List (ℕ × Directory)) (i parent q : ℕ) (n : List ℕ) (x : Option ℕ) → Means dirs q n x → Means (moved_into dirs i parent) q n x
unfolding moved_into
means_moved dirs i parent q n x h = by_directory (at dirs i) refl
  where
    by_directory : (o : Option Directory) → at dirs i ≡ o → Means (moved_as dirs i parent o) q n x
    by_directory None e = h
    by_directory (Some d) e = elim (one_or_other q i) [
      | inl same ↦ (
          let both : Some h.dir ≡ Some d = sym h.there ∙ (ap (at dirs) same ∙ e) in
          let one : h.dir ≡ d = cc in
          record {
            dir = record d { parent = parent };
            there = ap (at (changed dirs i (record d { parent = parent }))) same ∙ at_changed dirs i d (record d { parent = parent }) e;
            means = subst (λ (y : Directory). option_map child (named y.names n) ≡ x) one h.means;
          })
      | inr other ↦ record { dir = h.dir; there = at_changed_apart dirs q i (record d { parent = parent }) other ∙ h.there; means = h.means }
    ]

-- ---- a last name that may be moved
pub record Plain (name : List ℕ) : Type 0 where
  pub some : (length name == 0) ≡ false
  pub dot : is_dot name ≡ false
  pub dot_dot : is_dot_dot name ≡ false
  pub small : nat_lt 255 (length name) ≡ false

neither : (a b : Bool) → (a || b) ≡ false → (a ≡ false) × (b ≡ false)
neither true b h = cc
neither false b h = (refl, h)

child_plain : (d : Directory) (q : ℕ) (n : List ℕ) → is_dot n ≡ false → is_dot_dot n ≡ false → child_of d q n ≡ option_map child (named d.names n)
unfolding child_of
child_plain d q n dot dot_dot = rw (dot, dot_dot) refl

pub record Found (dirs : List (ℕ × Directory)) (q : ℕ) (n : List ℕ) (x : Option ℕ) : Type 0 where
  pub plain : Plain n
  pub means : Means dirs q n x

entry_found : (dirs : List (ℕ × Directory)) (q : ℕ) (n : List ℕ) (x : Option ℕ) → renaming.is_fixed n ≡ false → directories.entry_at dirs q n ≡ Ok x → Found dirs q n x
unfolding directories.entry_at
entry_found dirs q [] x free h = cc
entry_found dirs q (b ∷ bs) x free h =
    let last = neither ((length (b ∷ bs) == 0) || is_dot (b ∷ bs)) (is_dot_dot (b ∷ bs)) free in
    let first = neither (length (b ∷ bs) == 0) (is_dot (b ∷ bs)) last.0 in
    let small = not_refused (nat_lt 255 (length (b ∷ bs))) NameTooLong (ok_or (at dirs q) NotDirectory >>= λ d. Ok (child_of d q (b ∷ bs))) x h in
    let holder = both_answered (ok_or (at dirs q) NotDirectory) (λ d. Ok (child_of d q (b ∷ bs))) x small.1 in
    record {
      plain = record { some = first.0; dot = first.1; dot_dot = last.1; small = small.0 };
      means = record {
        dir = holder.0;
        there = found (at dirs q) NotDirectory holder.0 holder.1;
        means = sym (child_plain holder.0 q (b ∷ bs) first.1 last.1) ∙ same_value (child_of holder.0 q (b ∷ bs)) x holder.2;
      };
    }

entry_meant : (dirs : List (ℕ × Directory)) (q : ℕ) (n : List ℕ) (x : Option ℕ) → Plain n → Means dirs q n x → directories.entry_at dirs q n ≡ Ok x
unfolding directories.entry_at
entry_meant dirs q [] x p h = let some : (0 == 0) ≡ false = p.some in cc
entry_meant dirs q (b ∷ bs) x p h = rw (p.small, h.there, child_plain h.dir q (b ∷ bs) p.dot p.dot_dot, h.means) refl

-- ---- what the change found
pub record Changed (s after : Files) (now : TimeSpec) (old new : List ℕ) (l m : ℕ × List ℕ) : Type 0 where
  pub inode : ℕ
  pub other : Option ℕ
  pub old_free : renaming.is_fixed l.1 ≡ false
  pub new_free : renaming.is_fixed m.1 ≡ false
  pub meant : last_entry s.tree l old ≡ Ok (Some inode)
  pub replaced : last_entry s.tree m new ≡ Ok other
  pub outcome : cond {A = Result (⊤ × Files) Errno} (renaming.is_same inode other) (Ok (tt, s)) (renaming.may_move s.tree inode m new other (is_entry_open s other) >> Ok (tt, renamed s now l m inode other)) ≡ Ok (tt, after)

abbrev changed_to : Files → TimeSpec → List ℕ → ℕ × List ℕ → ℕ × List ℕ → ℕ → Option ℕ → Result (⊤ × Files) Errno
changed_to s now new l m i e = cond (renaming.is_same i e) (Ok (tt, s)) (renaming.may_move s.tree i m new e (is_entry_open s e) >> Ok (tt, renamed s now l m i e))

abbrev changed_from : Files → TimeSpec → List ℕ → ℕ × List ℕ → ℕ × List ℕ → ℕ → Result (⊤ × Files) Errno
changed_from s now new l m i = last_entry s.tree m new >>= changed_to s now new l m i

abbrev changed_name : Files → TimeSpec → List ℕ → ℕ × List ℕ → ℕ × List ℕ → Option ℕ → Result (⊤ × Files) Errno
changed_name s now new l m n = ok_or n NoEntry >>= changed_from s now new l m

abbrev changed_in : Files → TimeSpec → List ℕ → List ℕ → ℕ × List ℕ → ℕ × List ℕ → Result (⊤ × Files) Errno
changed_in s now old new l m = refused_if (renaming.is_fixed l.1 || renaming.is_fixed m.1) Busy >> (last_entry s.tree l old >>= changed_name s now new l m)

abbrev changed_by : Files → TimeSpec → List ℕ → List ℕ → ℕ × List ℕ → Result (⊤ × Files) Errno
changed_by s now old new l = parent_named s at_fdcwd new >>= changed_in s now old new l

steps_taken : (s after : Files) (now : TimeSpec) (old new : List ℕ) (l m : ℕ × List ℕ) → changed_in s now old new l m ≡ Ok (tt, after) → Changed s after now old new l m
steps_taken s after now old new l m h =
    let free = not_refused (renaming.is_fixed l.1 || renaming.is_fixed m.1) Busy (last_entry s.tree l old >>= changed_name s now new l m) (tt, after) h in
    let both = neither (renaming.is_fixed l.1) (renaming.is_fixed m.1) free.0 in
    let n = both_answered (last_entry s.tree l old) (changed_name s now new l m) (tt, after) free.1 in
    let i = both_answered (ok_or n.0 NoEntry) (changed_from s now new l m) (tt, after) n.2 in
    let e = both_answered (last_entry s.tree m new) (changed_to s now new l m i.0) (tt, after) i.2 in
    record {
      inode = i.0;
      other = e.0;
      old_free = both.0;
      new_free = both.1;
      meant = n.1 ∙ ap (λ (o : Option ℕ). Ok o) (found n.0 NoEntry i.0 i.1);
      replaced = e.1;
      outcome = e.2;
    }

change_answered : (s : Files) (now : TimeSpec) (old new : List ℕ) (l m : ℕ × List ℕ) → parent_named s at_fdcwd old ≡ Ok l → parent_named s at_fdcwd new ≡ Ok m → (rename s now old new).0 ≡ Ok tt → Changed s (rename s now old new).1 now old new l m
change_answered s now old new l m from to h =
    let after : Files = (rename s now old new).1 in
    let room = not_refused (is_full s.open_files.made) TableFull (parent_named s at_fdcwd old >>= changed_by s now old new) (tt, after) (operation_answered s _ tt h) in
    let a = both_answered (parent_named s at_fdcwd old) (changed_by s now old new) (tt, after) room.1 in
    let same_l : a.0 ≡ l = same_value a.0 l (sym a.1 ∙ from) in
    let b = both_answered (parent_named s at_fdcwd new) (changed_in s now old new a.0) (tt, after) a.2 in
    let same_m : b.0 ≡ m = same_value b.0 m (sym b.1 ∙ to) in
    let rest : changed_in s now old new a.0 m ≡ Ok (tt, after) = subst (λ (k : ℕ × List ℕ). changed_in s now old new a.0 k ≡ Ok (tt, after)) same_m b.2 in
    steps_taken s after now old new l m (subst (λ (k : ℕ × List ℕ). changed_in s now old new k m ≡ Ok (tt, after)) same_l rest)

last_means : (dirs : List (ℕ × Directory)) (l : ℕ × List ℕ) (path : List ℕ) (x : Option ℕ) → directories.last_entry dirs l path ≡ Ok x → directories.entry_at dirs l.0 l.1 ≡ Ok x
unfolding directories.last_entry
last_means dirs l path x h =
    let n = both_answered (directories.entry_at dirs l.0 l.1) (λ n. refused_if (ends_with_slash path && is_some n && not (directories.is_directory dirs (unwrap_or n 0))) NotDirectory >> Ok n) x h in
    let kept = not_refused (ends_with_slash path && is_some n.0 && not (directories.is_directory dirs (unwrap_or n.0 0))) NotDirectory (Ok n.0) x n.2 in
    n.1 ∙ kept.1

last_entry_means : (s : FileTree) (l : ℕ × List ℕ) (path : List ℕ) (x : Option ℕ) → last_entry s l path ≡ Ok x → directories.entry_at s.directories l.0 l.1 ≡ Ok x
unfolding last_entry
last_entry_means s l path x h = last_means s.directories l path x h

-- ---- what is replaced holds no names
both_done : {A : Type 0} (r : Result ⊤ Errno) (q : Result A Errno) (x : A) → (r >> q) ≡ Ok x → (r ≡ Ok tt) × (q ≡ Ok x)
both_done (Ok u) q x h = (refl, h)
both_done (Err e) q x h = cc

may_replace : (s : FileTree) (i : ℕ) (m : ℕ × List ℕ) (path : List ℕ) (e : Option ℕ) (held : Bool) → renaming.may_move s i m path e held ≡ Ok tt → renaming.replaceable s i e held ≡ Ok tt
unfolding renaming.may_move
may_replace s i m path e held h =
    let file = not_refused (not (is_directory s i) && is_none e && ends_with_slash path) NotDirectory (refused_if (is_directory s i && lies_inside s.directories i m.0) InvalidArgument >> renaming.replaceable s i e held) tt h in
    (not_refused (is_directory s i && lies_inside s.directories i m.0) InvalidArgument (renaming.replaceable s i e held) tt file.1).1

no_length : (names : List (ℕ × Entry)) → not (length names == 0) ≡ false → names ≡ []
no_length [] h = refl
no_length (e ∷ es) h = let some : (length (e ∷ es) == 0) ≡ false = grind (arith, common_steps) in let t : not (length (e ∷ es) == 0) ≡ true = rw some refl in absurd (cc)

not_named : (names : List (ℕ × Entry)) (n : List ℕ) (i : ℕ) → names ≡ [] → option_map child (named names n) ≡ Some i → ⊥
unfolding named
not_named names n i none h = let g : None ≡ Some i = rw none at h in cc

abbrev spared : FileTree → ℕ → Bool → Directory → Result ⊤ Errno
spared s j held d = refused_if (not (length d.names == 0)) NotEmpty >> refused_if ((s.working == j) || held) Busy

also_done : (b : Bool) (e : Errno) → refused_if b e ≡ Ok tt → b ≡ false
also_done true e h = cc
also_done false e h = refl

holder_case : (s : FileTree) (j k q : ℕ) (n : List ℕ) (held : Bool) (b : Bool) → Means s.directories q n (Some k) → q ≡ j → cond b (ok_or (at s.directories j) NotDirectory >>= spared s j held) (refused_if (is_directory s j) IsDirectory) ≡ Ok tt → ⊥
holder_case s j k q n held true means same g =
    let d = both_answered (ok_or (at s.directories j) NotDirectory) (spared s j held) tt g in
    let there : at s.directories j ≡ Some d.0 = found (at s.directories j) NotDirectory d.0 d.1 in
    let both : Some means.dir ≡ Some d.0 = sym means.there ∙ (ap (at s.directories) same ∙ there) in
    let one : means.dir ≡ d.0 = cc in
    let empty : d.0.names ≡ [] = no_length d.0.names (not_refused (not (length d.0.names == 0)) NotEmpty (refused_if ((s.working == j) || held) Busy) tt d.2).0 in
    not_named d.0.names n k empty (subst (λ (y : Directory). option_map child (named y.names n) ≡ Some k) one means.means)
holder_case s j k q n held false means same g =
    let none : at s.directories j ≡ None = vacant (at s.directories j) (also_done (is_directory s j) IsDirectory g) in
    apart_by s.directories q j means.dir means.there none same

-- nothing that has a name in it is replaced
not_replaced : (s : FileTree) (i j k q : ℕ) (n : List ℕ) (held : Bool) → renaming.replaceable s i (Some j) held ≡ Ok tt → Means s.directories q n (Some k) → q ≢ j
unfolding renaming.replaceable spare
not_replaced s i j k q n held h means same = holder_case s j k q n held (is_directory s i) means same h

-- ---- the directories after it
dropped_case : (t : FileTree) (j q : ℕ) (n : List ℕ) (b held : Bool) → q ≢ j → Lacks t.directories q n → Lacks (cond b (without_directory t j) (unnamed t j held)).directories q n
unfolding without_directory unnamed
dropped_case t j q n true held other h = lacks_removed t.directories j q n other h
dropped_case t j q n false true other h = h
dropped_case t j q n false false other h = h

dropped_lacks : (t : FileTree) (j q : ℕ) (n : List ℕ) (held : Bool) → q ≢ j → Lacks t.directories q n → Lacks (renaming.dropped t j held).directories q n
unfolding renaming.dropped
dropped_lacks t j q n held other h = dropped_case t j q n (is_directory t j) held other h

unnamed_none : (o : Option (ℕ × Entry)) → option_map child o ≡ None → o ≡ None
unnamed_none None h = refl
unnamed_none (Some x) h = cc

AllSound : FileTree → Type 0
AllSound s = (place : ℕ) (d : Directory) → at s.directories place ≡ Some d → HasSoundNames d

abbrev displaced : FileTree → TimeSpec → ℕ × List ℕ → ℕ × List ℕ → Option ℕ → Bool → FileTree
displaced s now l m e held = renaming.displaced (without_name s now l) now m e held

lacks_both : (s : FileTree) (now : TimeSpec) (l m : ℕ × List ℕ) (i : ℕ) (e : Option ℕ) (held : Bool) → AllSound s → renaming.replaceable s i e held ≡ Ok tt → Means s.directories l.0 l.1 (Some i) → Means s.directories m.0 m.1 e
    → Lacks (displaced s now l m e held).directories l.0 l.1 × Lacks (displaced s now l m e held).directories m.0 m.1
unfolding without_name AllSound
lacks_both s now l m i None held sound may from to = (
  lacks_gone s.directories l.0 l.1 (record { dir = from.dir; there = from.there; sound = sound l.0 from.dir from.there }),
  lacks_left s.directories l.0 m.0 l.1 m.1 (record { dir = to.dir; there = to.there; sound = sound m.0 to.dir to.there; missing = unnamed_none (named to.dir.names m.1) to.means }),
)
lacks_both s now l m i (Some j) held sound may from to =
    let first : FileTree = without_name s now l in
    let both : FileTree = without_name first now m in
    let gone : Lacks first.directories l.0 l.1 = lacks_gone s.directories l.0 l.1 (record { dir = from.dir; there = from.there; sound = sound l.0 from.dir from.there }) in
    let still : Sound first.directories m.0 = sound_left s.directories l.0 m.0 l.1 (record { dir = to.dir; there = to.there; sound = sound m.0 to.dir to.there }) in (
      dropped_lacks both j l.0 l.1 held (not_replaced s i j i l.0 l.1 held may from) (lacks_left first.directories m.0 l.0 m.1 l.1 gone),
      dropped_lacks both j m.0 m.1 held (not_replaced s i j j m.0 m.1 held may to) (lacks_gone first.directories m.0 m.1 still),
    )

new_means : (s : FileTree) (now : TimeSpec) (l m : ℕ × List ℕ) (i : ℕ) (e : Option ℕ) (held : Bool) → Lacks (displaced s now l m e held).directories m.0 m.1 → Means (renaming.renamed s now l m i e held).directories m.0 m.1 (Some i)
unfolding renaming.renamed
new_means s now l m i e held lacks =
    let dirs : List (ℕ × Directory) = (displaced s now l m e held).directories in
    means_moved (entered dirs m.0 m.1 i) i m.0 m.0 m.1 (Some i) (means_entered dirs m.0 i m.1 lacks)

old_means : (s : FileTree) (now : TimeSpec) (l m : ℕ × List ℕ) (i : ℕ) (e : Option ℕ) (held : Bool) → Lacks (displaced s now l m e held).directories m.0 m.1 → Lacks (displaced s now l m e held).directories l.0 l.1 → (m.0 ≡ l.0 → m.1 ≢ l.1) → Means (renaming.renamed s now l m i e held).directories l.0 l.1 None
unfolding renaming.renamed
old_means s now l m i e held lacks gone apart =
    let dirs : List (ℕ × Directory) = (displaced s now l m e held).directories in
    means_moved (entered dirs m.0 m.1 i) i m.0 l.0 l.1 None (still_lacks dirs m.0 l.0 i m.1 l.1 lacks gone apart)

-- ---- one inode, or two
same_inode : (i : ℕ) (e : Option ℕ) → renaming.is_same i e ≡ true → e ≡ Some i
same_inode i None h = cc
same_inode i (Some j) h = let same : j ≡ i = grind (arith, common_steps) in ap Some same

other_inode : (i : ℕ) (e : Option ℕ) → renaming.is_same i e ≡ false → e ≢ Some i
other_inode i None h same = cc
other_inode i (Some j) h same = let one : i ≡ j = cc in let equal : (i == j) ≡ true = grind (arith, common_steps) in absurd (cc)

tree_entry : (s : FileTree) (l : ℕ × List ℕ) (x : Option ℕ) → directories.entry_at s.directories l.0 l.1 ≡ Ok x → entry_at s l ≡ Ok x
unfolding entry_at
tree_entry s l x h = h

-- what was changed moved
moved : (s : Files) (now : TimeSpec) (l m : ℕ × List ℕ) (i : ℕ) (e : Option ℕ) (new : List ℕ) → AllSound s.tree → renaming.may_move s.tree i m new e (is_entry_open s e) ≡ Ok tt → Found s.tree.directories l.0 l.1 (Some i) → Found s.tree.directories m.0 m.1 e → e ≢ Some i
    → directories.entry_at s.tree.directories l.0 l.1 ≡ Ok (Some i) → directories.entry_at s.tree.directories m.0 m.1 ≡ Ok e → NameMoves s.tree (renamed s now l m i e).tree l m
moved s now l m i e new sound may from to other meant replaced =
    let held : Bool = is_entry_open s e in
    let after : FileTree = renaming.renamed s.tree now l m i e held in
    let lacks = lacks_both s.tree now l m i e held sound (may_replace s.tree i m new e held may) from.means to.means in
    let apart : m.0 ≡ l.0 → m.1 ≢ l.1 = λ p n. other (same_value e (Some i) (sym replaced ∙ (ap (λ (q : ℕ). directories.entry_at s.tree.directories q m.1) p ∙ (ap (λ (k : List ℕ). directories.entry_at s.tree.directories l.0 k) n ∙ meant)))) in
    record {
      inode = i;
      meant = tree_entry s.tree l (Some i) meant;
      means = tree_entry after m (Some i) (entry_meant after.directories m.0 m.1 (Some i) to.plain (new_means s.tree now l m i e held lacks.1));
      gone = λ h. tree_entry after l None (entry_meant after.directories l.0 l.1 None from.plain (old_means s.tree now l m i e held lacks.1 lacks.0 apart));
    }

by_same : (s after : Files) (now : TimeSpec) (old new : List ℕ) (l m : ℕ × List ℕ) (i : ℕ) (e : Option ℕ) (b : Bool) → renaming.is_same i e ≡ b → AllSound s.tree → renaming.is_fixed l.1 ≡ false → renaming.is_fixed m.1 ≡ false
    → directories.entry_at s.tree.directories l.0 l.1 ≡ Ok (Some i) → directories.entry_at s.tree.directories m.0 m.1 ≡ Ok e
    → cond {A = Result (⊤ × Files) Errno} b (Ok (tt, s)) (renaming.may_move s.tree i m new e (is_entry_open s e) >> Ok (tt, renamed s now l m i e)) ≡ Ok (tt, after)
    → NameMoves s.tree after.tree l m
by_same s after now old new l m i e true same sound old_free new_free meant replaced h =
    let stays : s ≡ after = (same_answer {A = ⊤} tt tt s after h).1 in
    let both : entry_at s.tree m ≡ Ok (Some i) = tree_entry s.tree m (Some i) (replaced ∙ ap (λ (o : Option ℕ). Ok o) (same_inode i e same)) in
    subst (λ (t : Files). NameMoves s.tree t.tree l m) stays (record {
      inode = i;
      meant = tree_entry s.tree l (Some i) meant;
      means = both;
      gone = λ apart. absurd (apart both);
    })
by_same s after now old new l m i e false same sound old_free new_free meant replaced h =
    let done = both_done (renaming.may_move s.tree i m new e (is_entry_open s e)) (Ok (tt, renamed s now l m i e)) (tt, after) h in
    let state : renamed s now l m i e ≡ after = (same_answer {A = ⊤} tt tt (renamed s now l m i e) after done.1).1 in
    subst (λ (t : Files). NameMoves s.tree t.tree l m) state
    (moved s now l m i e new sound done.0 (entry_found s.tree.directories l.0 l.1 (Some i) old_free meant) (entry_found s.tree.directories m.0 m.1 e new_free replaced) (other_inode i e same) meant replaced)

pub renamed_name_moves : RenamedNameMoves
unfolding AllSound
renamed_name_moves s now old new l m sound from to h =
    let c : Changed s (rename s now old new).1 now old new l m = change_answered s now old new l m from to h in
    by_same s (rename s now old new).1 now old new l m c.inode c.other (renaming.is_same c.inode c.other) refl sound c.old_free c.new_free (last_entry_means s.tree l old (Some c.inode) c.meant) (last_entry_means s.tree m new c.other c.replaced) c.outcome
