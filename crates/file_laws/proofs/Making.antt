-- A directory that was made, and the steps of its path.
use Rattle.std.proofs.Common.{◌≡◌, ◌∙◌, ℕ, ℤ, ◌+◌, ◌==◌, ◌&&◌, not, Bool, true, false, List, length, cond, Option, Some, None, is_some, unwrap_or, Result, Ok, refl, ap, sym, subst}
use Rattle.std.specs.Bool.{⊤}
use Rattle.kernel_values.specs.Outcome.{◌>>=◌, ◌>>◌, refused_if}
use Rattle.kernel_values.specs.declared.errno.Errno.{Errno}
use Rattle.kernel_values.specs.declared.errno.Errno.TheVariants.{Exists, NoEntry, NotDirectory, TableFull}
use Rattle.number_maps.specs.NumberMap.{at, changed, put}
use Rattle.file_tables.specs.Contained.{empty_directory, entered, with_next}
use Rattle.file_tables.specs.Directories as directories
use Rattle.file_tables.specs.Entries.{named}
use Rattle.file_tables.specs.Names.{ends_with_slash, is_absolute, names_of}
use Rattle.file_tables.specs.declared.state.Directory.{Directory}
use Rattle.file_tree.specs.Making as making
use Rattle.file_tree.specs.Paths.{inode_from, is_directory, last_entry, parent_from}
use Rattle.file_tree.specs.declared.state.FileTree.{FileTree}
use Rattle.file_tree.specs.declared.state.Maker.{Maker}
use Rattle.open_files.specs.Descriptors.{counted, descriptor_of, open_file}
use Rattle.open_files.specs.Made.{is_full}
use Rattle.open_files.specs.declared.state.OpenFile.{OpenFile}
use Rattle.open_files.specs.declared.state.OpenFiles.{OpenFiles}
use Rattle.file_store.specs.NewDirectory.{make_directory, with_directory}
use Rattle.file_store.specs.Paths.{is_working, place_of, resolve, resolve_parent, start_of}
use Rattle.file_store.specs.declared.state.Files.{Files}
use Rattle.file_laws.specs.Names.{HasFreshNumbers, LeadsToNewDirectory, MadeDirectoryResolves}
use Rattle.map_lemmas.proofs.Maps.{at_changed, at_changed_apart, at_put, at_put_apart, vacant}
use Rattle.map_lemmas.proofs.Steps.{both_answered, not_refused, operation_answered, same_answer}
use Rattle.file_laws.proofs.Walks.{Grew, Missing, apart_by, child_new, directory_stays, entry_missing, name_missing, walk_stays}

-- ---- what the making found
pub record Made (s after : Files) (maker : Maker) (from : ℤ) (path : List ℕ) (mode : ℕ) : Type 0 where
  pub last : ℕ × List ℕ
  pub steps : resolve_parent s from path ≡ Ok last
  pub missing : last_entry s.tree last path ≡ Ok None
  pub state : after ≡ with_directory s maker last mode

abbrev made_at : Files → Maker → ℕ → ℕ × List ℕ → Option ℕ → Result (⊤ × Files) Errno
made_at s maker mode l n = refused_if (is_some n) Exists >> Ok (tt, with_directory s maker l mode)

abbrev made_in : Files → Maker → List ℕ → ℕ → ℕ × List ℕ → Result (⊤ × Files) Errno
made_in s maker path mode l = last_entry s.tree l path >>= made_at s maker mode l

make_answered : (s : Files) (maker : Maker) (from : ℤ) (path : List ℕ) (mode : ℕ) → (make_directory s maker from path mode).0 ≡ Ok tt → Made s (make_directory s maker from path mode).1 maker from path mode
make_answered s maker from path mode h =
    let after : Files = (make_directory s maker from path mode).1 in
    let room = not_refused (is_full s.open_files.made) TableFull (resolve_parent s from path >>= made_in s maker path mode) (tt, after) (operation_answered s _ tt h) in
    let last = both_answered (resolve_parent s from path) (made_in s maker path mode) (tt, after) room.1 in
    let entry = both_answered (last_entry s.tree last.0 path) (made_at s maker mode last.0) (tt, after) last.2 in
    let made = not_refused (is_some entry.0) Exists (Ok (tt, with_directory s maker last.0 mode)) (tt, after) entry.2 in
    record {
      last = last.0;
      steps = last.1;
      missing = entry.1 ∙ ap (λ (o : Option ℕ). Ok o) (vacant entry.0 made.0);
      state = sym (same_answer {A = ⊤} tt tt (with_directory s maker last.0 mode) after made.1).1;
    }

-- ---- the directories after it
entered_is : (dirs : List (ℕ × Directory)) (place inode : ℕ) (name : List ℕ) (d : Directory) → at dirs place ≡ Some d → named d.names name ≡ None → entered dirs place name inode ≡ changed dirs place (with_next d name inode)
unfolding entered
entered_is dirs place inode name d there missing = rw (there, missing) refl

grew : (dirs : List (ℕ × Directory)) (place inode : ℕ) (name : List ℕ) (d : Directory) → at dirs place ≡ Some d → at dirs inode ≡ None → named d.names name ≡ None → at d.names (d.last + 1) ≡ None → Grew dirs (put (entered dirs place name inode) inode (empty_directory place)) place name inode d
grew dirs place inode name d there unused missing vacant =
    let grown : List (ℕ × Directory) = changed dirs place (with_next d name inode) in
    let is : entered dirs place name inode ≡ grown = entered_is dirs place inode name d there missing in
    subst (λ (t : List (ℕ × Directory)). Grew dirs (put t inode (empty_directory place)) place name inode d) (sym is) (record {
      there = there;
      unused = unused;
      missing = missing;
      vacant = vacant;
      grown = at_put_apart grown place inode (empty_directory place) (apart_by dirs place inode d there unused) ∙ at_changed dirs place d (with_next d name inode) there;
      made = ap is_some (at_put grown inode (empty_directory place));
      others = λ q other apart. at_put_apart grown q inode (empty_directory place) apart ∙ at_changed_apart dirs q place (with_next d name inode) other;
    })

tree_grew : (s : FileTree) (maker : Maker) (l : ℕ × List ℕ) (mode : ℕ) (d : Directory) → at s.directories l.0 ≡ Some d → at s.directories (making.next_inode s) ≡ None → named d.names l.1 ≡ None → at d.names (d.last + 1) ≡ None → Grew s.directories (making.with_directory s maker l mode).directories l.0 l.1 (making.next_inode s) d
unfolding making.with_directory making.next_inode
tree_grew s maker l mode d there unused missing vacant = grew s.directories l.0 (making.next_inode s) l.1 d there unused missing vacant

-- ---- where the path begins
still_open : (s : OpenFiles) (n : ℕ) (fd : ℤ) → open_file (counted s n) fd ≡ open_file s fd
unfolding open_file descriptor_of
still_open s n fd = refl

same_working : (s : FileTree) (maker : Maker) (l : ℕ × List ℕ) (mode : ℕ) → (making.with_directory s maker l mode).working ≡ s.working
unfolding making.with_directory
same_working s maker l mode = refl

cond_stays : {A : Type 0} (b : Bool) (q r new : Result A Errno) (x : A) → (r ≡ Ok x → new ≡ Ok x) → cond b q r ≡ Ok x → cond b q new ≡ Ok x
cond_stays true q r new x stays h = h
cond_stays false q r new x stays h = stays h

is_true : (b : Bool) → not b ≡ false → b ≡ true
is_true true h = refl
is_true false h = cc

abbrev directory_at : FileTree → ℕ × OpenFile → Result ℕ Errno
directory_at s f = refused_if (not (is_directory s f.1.inode)) NotDirectory >> Ok f.1.inode

module _ (s after : Files) (from : ℤ) (working : after.tree.working ≡ s.tree.working) (opened : open_file after.open_files from ≡ open_file s.open_files from) (stays : (q : ℕ) → is_directory s.tree q ≡ true → is_directory after.tree q ≡ true) where
  named_stays : (x : ℕ) → (open_file s.open_files from >>= directory_at s.tree) ≡ Ok x → (open_file after.open_files from >>= directory_at after.tree) ≡ Ok x
  named_stays x h =
      let f = both_answered (open_file s.open_files from) (directory_at s.tree) x h in
      let directory = not_refused (not (is_directory s.tree f.0.1.inode)) NotDirectory (Ok f.0.1.inode) x f.2 in
      let again : is_directory after.tree f.0.1.inode ≡ true = stays f.0.1.inode (is_true (is_directory s.tree f.0.1.inode) directory.0) in
      rw (opened, f.1, again) directory.1

  place_stays : (x : ℕ) → place_of s from ≡ Ok x → place_of after from ≡ Ok x
  unfolding place_of
  place_stays x h = rw working (cond_stays (is_working from) (Ok s.tree.working) (open_file s.open_files from >>= directory_at s.tree) (open_file after.open_files from >>= directory_at after.tree) x (named_stays x) h)

  start_stays : (path : List ℕ) (x : ℕ) → start_of s from path ≡ Ok x → start_of after from path ≡ Ok x
  unfolding start_of
  start_stays path x h =
      let some = not_refused (length path == 0) NoEntry (cond (is_absolute path) (Ok 2) (place_of s from)) x h in
      rw some.0 (cond_stays (is_absolute path) (Ok 2) (place_of s from) (place_of after from) x (place_stays x) some.1)

-- ---- where it leads
slash_passes : (slash : Bool) → ((slash && true) && false) ≡ false
slash_passes true = refl
slash_passes false = refl

leads_to : (s : Files) (from : ℤ) (path : List ℕ) (start : ℕ) (l : ℕ × List ℕ) (j : ℕ) → start_of s from path ≡ Ok start → parent_from s.tree start path ≡ Ok l → directories.entry_at s.tree.directories l.0 l.1 ≡ Ok (Some j) → is_directory s.tree j ≡ true → resolve s from path ≡ Ok j
unfolding resolve inode_from last_entry directories.last_entry
leads_to s from path start l j begins steps entry directory = rw (begins, steps, entry, directory, slash_passes (ends_with_slash path)) refl

entry_of : (dirs : List (ℕ × Directory)) (l : ℕ × List ℕ) (path : List ℕ) → directories.last_entry dirs l path ≡ Ok None → directories.entry_at dirs l.0 l.1 ≡ Ok None
unfolding directories.last_entry
entry_of dirs l path h =
    let n = both_answered (directories.entry_at dirs l.0 l.1) (λ n. refused_if (ends_with_slash path && is_some n && not (directories.is_directory dirs (unwrap_or n 0))) NotDirectory >> Ok n) None h in
    let kept = not_refused (ends_with_slash path && is_some n.0 && not (directories.is_directory dirs (unwrap_or n.0 0))) NotDirectory (Ok n.0) None n.2 in
    n.1 ∙ kept.1

last_of : (s : FileTree) (l : ℕ × List ℕ) (path : List ℕ) → last_entry s l path ≡ Ok None → directories.entry_at s.directories l.0 l.1 ≡ Ok None
unfolding last_entry
last_of s l path h = entry_of s.directories l path h

resolved : (s : Files) (maker : Maker) (from : ℤ) (path : List ℕ) (mode : ℕ) (l : ℕ × List ℕ) → HasFreshNumbers s.tree → resolve_parent s from path ≡ Ok l → directories.entry_at s.tree.directories l.0 l.1 ≡ Ok None → LeadsToNewDirectory s (with_directory s maker l mode) from path
unfolding resolve_parent parent_from
resolved s maker from path mode l fresh steps missing =
    let after : Files = with_directory s maker l mode in
    let i : ℕ = making.next_inode s.tree in
    let m : Missing s.tree.directories l.0 l.1 = entry_missing s.tree.directories l.0 l.1 missing in
    let unused : at s.tree.directories i ≡ None = vacant (at s.tree.directories i) fresh.inode in
    let free : at m.holder.names (m.holder.last + 1) ≡ None = fresh.positions l.0 m.holder m.there in
    let g : Grew s.tree.directories after.tree.directories l.0 l.1 i m.holder = tree_grew s.tree maker l mode m.holder m.there unused (name_missing m.holder l.0 l.1 m.missing) free in
    let begin = both_answered (start_of s from path) (λ start. parent_from s.tree start path) l steps in
    let begins : start_of after from path ≡ Ok begin.0 = start_stays s after from (same_working s.tree maker l mode) (still_open s.open_files 2 from) (directory_stays s.tree.directories after.tree.directories l.0 l.1 i m.holder g) path begin.0 begin.1 in
    let again : parent_from after.tree begin.0 path ≡ Ok l = walk_stays s.tree.directories after.tree.directories l.0 l.1 i m.holder g begin.0 _ (names_of path) l begin.2 in
    let entry : directories.entry_at after.tree.directories l.0 l.1 ≡ Ok (Some i) = m.steps after.tree.directories (with_next m.holder l.1 i) i g.grown (child_new m.holder l.0 i l.1 m.missing free) in
    record { inode = i; resolves = leads_to after from path begin.0 l i begins again entry g.made; directory = g.made; new = fresh.inode }

pub made_directory_resolves : MadeDirectoryResolves
made_directory_resolves s maker from path mode fresh h =
    let made : Made s (make_directory s maker from path mode).1 maker from path mode = make_answered s maker from path mode h in
    subst (λ (after : Files). LeadsToNewDirectory s after from path) (sym made.state) (resolved s maker from path mode made.last fresh made.steps (last_of s.tree made.last path made.missing))
