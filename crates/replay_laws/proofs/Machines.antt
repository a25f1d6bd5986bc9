-- What one line does to the reader and to the machine.
use Rattle.std.proofs.Common.{◌≡◌, ◌∙◌, ℕ, ◌+◌, ◌/◌, ◌≤◌, ◌^◌, ◌||◌, not, nat_le, Bool, true, false, List, length, cond, Some, None, Result, refl, ap, sym, subst}
use Rattle.std.proofs.lemmas.Bool.{leb-true}
use Rattle.std.specs.Bool.{⊤}
use Rattle.std.specs.BTreeMap.{is_at}
use Rattle.std.specs.BTreeSet.{insert_key}
use Rattle.std.specs.List.{list_any}
use Rattle.std.specs.Ordering.{nat_cmp}
use Rattle.kernel_values.specs.declared.abi.AbiKind.{AbiKind}
use Rattle.kernel_values.specs.declared.errno.Errno.{Errno}
use Rattle.kernel_values.specs.declared.identity.Credentials.{Credentials}
use Rattle.kernel_values.specs.declared.times.Usage as times
use Rattle.file_tree.specs.Image as trees
use Rattle.file_tree.specs.Image.{has_bytes, is_free_name, with_image_directory, with_image_file}
use Rattle.file_tree.specs.declared.state.FileTree.{FileTree}
use Rattle.native_kernel.specs.Operations.{with_clocks, with_owner, with_usage}
use Rattle.user_memory.specs.Memory as memory
use Rattle.user_memory.specs.Memory.{is_readable}
use Rattle.user_memory.specs.Pages.{PageState, new_page, with_page}
use Rattle.compat_calls.specs.declared.world.World.{World}
use Rattle.script_reader.specs.declared.fault.LineCause.{LineCause}
use Rattle.script_reader.specs.declared.fault.LineCause.TheVariants as causes
use Rattle.script_reader.specs.declared.seen.Seen.{Seen}
use Rattle.script_reader.specs.Grammar.{Line, Header, Clock, Who, Usage, Restorer, Page, Dir, File, Bytes, Lock, Poke, Call, Advance, Post, Show}
use Rattle.script_reader.specs.Seen.{has_page, misplaced, seen_with}
use Rattle.script_reader.specs.Seen as seen
use Rattle.replay_command.specs.Machine.{applied, is_refused, poke, set_bytes, set_clock, set_directory, set_file, set_kind, set_lock, set_page, set_restorer, set_usage, set_who}
use Rattle.replay_command.specs.declared.machine.Machine.{Machine}
use Rattle.replay_laws.specs.ImageLines.{IsDone}
use Rattle.replay_laws.proofs.Kernels.{kernel_bytes, kernel_directory, kernel_file, kernel_lock}
use Rattle.replay_laws.proofs.Lines.{is_fit}
use Rattle.replay_laws.proofs.Pages.{as_many, inserted, mapped, numbers_of, stored}
use Rattle.replay_laws.proofs.Trees.{Alike, alike_bytes, alike_directory, alike_file, bytes_place, directory_made, file_made, free_place, inode_alike, length_at, parent_alike, reach_is_short}

-- Before the first event the machine has the directories that the reader has seen, files of the same lengths, and the same pages.
pub record Image (s : Seen) (m : Machine) : Type 0 where
  pub tree : Alike s.files m.world.kernel.files.tree
  pub pages : s.pages.keys ≡ numbers_of m.world.memory

abbrev pub Agrees : Seen → Machine → Type 0
Agrees s m = s.begun ≡ false → Image s m

-- a line of the image that may stand there stands before the first event, and its place is free
let_pass : (begun given : Bool) (late taken : LineCause) → cond begun (Some late) (cond given (Some taken) None) ≡ None → (begun ≡ false) × (given ≡ false)
let_pass true given late taken h = cc
let_pass false true late taken h = cc
let_pass false false late taken h = (refl, refl)

un_not : (b : Bool) → not b ≡ false → b ≡ true
un_not true h = refl
un_not false h = cc

neither : (a b : Bool) → (a || b) ≡ false → (a ≡ false) × (b ≡ false)
neither true b h = cc
neither false b h = (refl, h)

both_alike : {s t s' t' : FileTree} → s ≡ s' → t ≡ t' → Alike s t → Alike s' t'
both_alike {s} {t} {s'} {t'} e f h = subst (λ (x : FileTree). Alike x t') e (subst (λ (x : FileTree). Alike s x) f h)

-- a line is done, and the reader and the machine agree behind it
pub record Did (s : Seen) (m : Machine) (line : Line) : Type 0 where
  pub done : IsDone m line
  pub agrees : Agrees (seen_with (seen.counted s) line) (applied m line).machine

-- ---- lines of the image that the machine might refuse
page_set : (m : Machine) (at : ℕ) (writable : Bool) (bytes : List ℕ) → is_refused m.world.memory (at / 4096) ≡ false → (set_page m at writable bytes).world ≡ record m.world { memory = memory.with_bytes (with_page m.world.memory (at / 4096) writable) at bytes }
unfolding set_page
page_set m at writable bytes h = rw h refl

page_step : (s : Seen) (m : Machine) (at : ℕ) (writable : Bool) (bytes : List ℕ) → Agrees s m → misplaced s (Page at writable bytes) ≡ None → Did s m (Page at writable bytes)
page_step s m at writable bytes h free =
    let pages : List PageState = m.world.memory in
    let number : ℕ = at / 4096 in
    let pass = let_pass s.begun (has_page s.pages number || nat_le 16384 (length s.pages.keys)) causes.Order causes.Image free in
    let image : Image s m = h pass.0 in
    let parts = neither (has_page s.pages number) (nat_le 16384 (length s.pages.keys)) pass.1 in
    let absent : list_any (is_at (nat_cmp number)) (numbers_of pages) ≡ false = ap (λ (ns : List ℕ). list_any (is_at (nat_cmp number)) ns) (sym image.pages) ∙ parts.0 in
    let few : nat_le 16384 (length pages) ≡ false = ap (λ (n : ℕ). nat_le 16384 n) (sym (as_many pages) ∙ sym (ap (λ (ns : List ℕ). length ns) image.pages)) ∙ parts.1 in
    let done : is_refused pages number ≡ false = rw (mapped pages number ∙ absent, few) refl in
    let set = page_set m at writable bytes done in
    record {
      done = done;
      agrees = λ begun. record {
        tree = subst (λ (w : World). Alike s.files w.kernel.files.tree) (sym set) image.tree;
        pages = ap (λ (ns : List ℕ). insert_key nat_cmp ns number) image.pages
            ∙ sym (ap (λ (w : World). numbers_of w.memory) set ∙ stored (with_page pages number writable) at bytes ∙ inserted (new_page number writable) pages absent);
      };
    }

dir_step : (s : Seen) (m : Machine) (path : List ℕ) (inode : ℕ) → Agrees s m → misplaced s (Dir path inode) ≡ None → Did s m (Dir path inode)
unfolding set_directory
dir_step s m path inode h free =
    let tree : FileTree = m.world.kernel.files.tree in
    let pass = let_pass s.begun (not (is_free_name s.files path inode)) causes.Order causes.Image free in
    let image : Image s m = h pass.0 in
    let place = free_place s.files path inode (un_not (is_free_name s.files path inode) pass.1) in
    let does = kernel_directory m.world.kernel path inode place.0 (sym (parent_alike s.files tree path image.tree.names) ∙ place.1) in
    let seen_tree : (trees.image_directory s.files path inode).1 ≡ with_image_directory s.files place.0 inode = ap (λ (r : Result ⊤ Errno × FileTree). r.1) (directory_made s.files path inode place.0 place.1) in
    record {
      done = does.answers;
      agrees = λ begun. record {
        tree = both_alike (sym seen_tree) (sym does.after) (alike_directory s.files tree place.0 inode image.tree);
        pages = image.pages;
      };
    }

file_step : (s : Seen) (m : Machine) (path : List ℕ) (inode size : ℕ) → size ≤ 2 ^ 40 → Agrees s m → misplaced s (File path inode size) ≡ None → Did s m (File path inode size)
unfolding set_file
file_step s m path inode size few h free =
    let tree : FileTree = m.world.kernel.files.tree in
    let pass = let_pass s.begun (not (is_free_name s.files path inode)) causes.Order causes.Image free in
    let image : Image s m = h pass.0 in
    let place = free_place s.files path inode (un_not (is_free_name s.files path inode) pass.1) in
    let does = kernel_file m.world.kernel path inode size place.0 few (sym (parent_alike s.files tree path image.tree.names) ∙ place.1) in
    let seen_tree : (trees.image_file s.files path inode size).1 ≡ with_image_file s.files place.0 inode size = ap (λ (r : Result ⊤ Errno × FileTree). r.1) (file_made s.files path inode size place.0 few place.1) in
    record {
      done = does.answers;
      agrees = λ begun. record {
        tree = both_alike (sym seen_tree) (sym does.after) (alike_file s.files tree place.0 inode size few image.tree);
        pages = image.pages;
      };
    }

bytes_step : (s : Seen) (m : Machine) (path : List ℕ) (offset : ℕ) (bytes : List ℕ) → Agrees s m → misplaced s (Bytes path offset bytes) ≡ None → Did s m (Bytes path offset bytes)
unfolding set_bytes
bytes_step s m path offset bytes h free =
    let tree : FileTree = m.world.kernel.files.tree in
    let pass = let_pass s.begun (not (has_bytes s.files path offset (length bytes))) causes.Order causes.Image free in
    let image : Image s m = h pass.0 in
    let place = bytes_place s.files path offset (length bytes) (un_not (has_bytes s.files path offset (length bytes)) pass.1) in
    let few = reach_is_short s.files.contents place.0 (offset + length bytes) image.tree.short place.2 in
    let does = kernel_bytes m.world.kernel path offset bytes place.0 few (sym (inode_alike s.files tree path image.tree.names) ∙ place.1) in
    record {
      done = does.answers;
      agrees = λ begun. record {
        tree = both_alike refl (sym does.after) (alike_bytes s.files tree place.0 offset bytes place.2 image.tree);
        pages = image.pages;
      };
    }

lock_step : (s : Seen) (m : Machine) (path : List ℕ) (write : Bool) (start count pid : ℕ) → start + count ≤ 2 ^ 63 → Agrees s m → misplaced s (Lock path write start count pid) ≡ None → Did s m (Lock path write start count pid)
unfolding set_lock
lock_step s m path write start count pid few h free =
    let tree : FileTree = m.world.kernel.files.tree in
    let pass = let_pass s.begun (not (has_bytes s.files path 0 0)) causes.Order causes.Image free in
    let image : Image s m = h pass.0 in
    let place = bytes_place s.files path 0 0 (un_not (has_bytes s.files path 0 0) pass.1) in
    let does = kernel_lock m.world.kernel path write start count pid place.0 few (sym (inode_alike s.files tree path image.tree.names) ∙ place.1) in
    record {
      done = does.3.answers;
      agrees = λ begun. record {
        tree = both_alike refl (sym does.3.after) (record {
          names = image.tree.names ∙ sym does.1;
          alike = λ q. image.tree.alike q ∙ ap (λ (c : List (ℕ × List ℕ)). length_at c q) (sym does.2);
          short = image.tree.short;
        });
        pages = image.pages;
      };
    }

-- ---- lines that leave the tree and the numbers of pages
poke_case : (b : Bool) (s : Seen) (m : Machine) (at : ℕ) (bytes : List ℕ) → Image s m → Image (seen.counted s) (cond b (record m { world = record m.world { memory = memory.with_bytes m.world.memory at bytes } }) m)
poke_case true s m at bytes image = record { tree = image.tree; pages = image.pages ∙ sym (stored m.world.memory at bytes) }
poke_case false s m at bytes image = record { tree = image.tree; pages = image.pages }

poke_step : (s : Seen) (m : Machine) (at : ℕ) (bytes : List ℕ) → Agrees s m → Did s m (Poke at bytes)
unfolding poke
poke_step s m at bytes h = record { done = tt; agrees = λ begun. poke_case (is_readable m.world.memory at (length bytes)) s m at bytes (h begun) }

header_step : (s : Seen) (m : Machine) (kind : AbiKind) → Agrees s m → Did s m (Header kind)
unfolding set_kind
header_step s m kind h = record { done = tt; agrees = λ begun. let image = h begun in record { tree = image.tree; pages = image.pages } }

clock_step : (s : Seen) (m : Machine) (real monotonic : ℕ) → Agrees s m → Did s m (Clock real monotonic)
unfolding set_clock with_clocks
clock_step s m real monotonic h = record { done = tt; agrees = λ begun. let image = h begun in record { tree = image.tree; pages = image.pages } }

who_step : (s : Seen) (m : Machine) (owner : Credentials) (privileged : Bool) → Agrees s m → Did s m (Who owner privileged)
unfolding set_who with_owner
who_step s m owner privileged h = record { done = tt; agrees = λ begun. let image = h begun in record { tree = image.tree; pages = image.pages } }

usage_step : (s : Seen) (m : Machine) (usage : times.Usage) → Agrees s m → Did s m (Usage usage)
unfolding set_usage with_usage
usage_step s m usage h = record { done = tt; agrees = λ begun. let image = h begun in record { tree = image.tree; pages = image.pages } }

restorer_step : (s : Seen) (m : Machine) (address : ℕ) → Agrees s m → Did s m (Restorer address)
unfolding set_restorer
restorer_step s m address h = record { done = tt; agrees = λ begun. let image = h begun in record { tree = image.tree; pages = image.pages } }

-- ---- each line that may stand there
pub step : (s : Seen) (m : Machine) (line : Line) → Agrees s m → misplaced s line ≡ None → is_fit line ≡ true → Did s m line
step s m (Header kind) h free fits = header_step s m kind h
step s m (Clock real monotonic) h free fits = clock_step s m real monotonic h
step s m (Who owner privileged) h free fits = who_step s m owner privileged h
step s m (Usage usage) h free fits = usage_step s m usage h
step s m (Restorer address) h free fits = restorer_step s m address h
step s m (Page at writable bytes) h free fits = page_step s m at writable bytes h free
step s m (Dir path inode) h free fits = dir_step s m path inode h free
step s m (File path inode size) h free fits = file_step s m path inode size (leb-true size (2 ^ 40) fits) h free
step s m (Bytes path offset bytes) h free fits = bytes_step s m path offset bytes h free
step s m (Lock path write start count pid) h free fits = lock_step s m path write start count pid (leb-true (start + count) (2 ^ 63) fits) h free
step s m (Poke at bytes) h free fits = poke_step s m at bytes h
step s m (Call registers) h free fits = record { done = tt; agrees = λ begun. cc }
step s m (Advance nanos) h free fits = record { done = tt; agrees = λ begun. cc }
step s m (Post info) h free fits = record { done = tt; agrees = λ begun. cc }
step s m Show h free fits = record { done = tt; agrees = λ begun. cc }
