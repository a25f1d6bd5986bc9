-- What a last name tells of the directory that it stands in.
use Rattle.std.proofs.Common.{◌≡◌, ◌∙◌, ℕ, ◌==◌, ◌&&◌, ◌||◌, nat_lt, not, Bool, true, false, List, [], ◌∷◌, length, cond, Option, Some, None, ok_or, Ok, refl, ap, sym, arith}
use Rattle.std.proofs.lemmas.Bool.Decides.{nat_tests}
use Rattle.std.proofs.lemmas.Grind.{common_steps}
use Rattle.std.specs.Option.{option_map}
use Rattle.std.specs.Prelude.{nat_le}
use Rattle.kernel_values.specs.Outcome.{◌>>=◌}
use Rattle.kernel_values.specs.declared.errno.Errno.{Errno}
use Rattle.kernel_values.specs.declared.errno.Errno.TheVariants.{NameTooLong, NotDirectory}
use Rattle.number_maps.specs.NumberMap.{at}
use Rattle.file_tables.specs.Directories as directories
use Rattle.file_tables.specs.Directories.{child_of, is_dot, is_dot_dot}
use Rattle.file_tables.specs.Entries.{named}
use Rattle.file_tables.specs.declared.state.Directory.{Directory}
use Rattle.file_tables.specs.declared.state.Entry.{Entry}
use Rattle.file_tree.specs.Paths.{entry_at}
use Rattle.file_tree.specs.Renaming.{is_fixed}
use Rattle.file_tree.specs.declared.state.FileTree.{FileTree}
use Rattle.tree_laws.specs.Sound.{is_name}
use Rattle.map_lemmas.proofs.Steps.{both_answered, not_refused, same_value}

-- the name could be made there
pub record Lacks (dirs : List (ℕ × Directory)) (q : ℕ) (n : List ℕ) : Type 0 where
  pub dir : Directory
  pub there : at dirs q ≡ Some dir
  pub missing : named dir.names n ≡ None
  pub plain : is_name n ≡ true

-- the name means an inode there
pub record Finds (dirs : List (ℕ × Directory)) (q : ℕ) (n : List ℕ) (i : ℕ) : Type 0 where
  pub dir : Directory
  pub there : at dirs q ≡ Some dir
  pub entry : ℕ × Entry
  pub found : named dir.names n ≡ Some entry
  pub means : entry.1.child ≡ i

found : {V : Type 0} (o : Option V) (e : Errno) (v : V) → ok_or o e ≡ Ok v → o ≡ Some v
found None e v h = cc
found (Some w) e v h = ap Some (same_value w v h)

abbrev child : ℕ × Entry → ℕ
child e = e.1.child

none_case : (b c : Bool) (here parent : ℕ) (o : Option (ℕ × Entry)) → cond b (Some here) (cond c (Some parent) (option_map child o)) ≡ None → (b ≡ false) × (c ≡ false) × (o ≡ None)
none_case true c here parent o h = cc
none_case false true here parent o h = cc
none_case false false here parent None h = (refl, refl, refl)
none_case false false here parent (Some x) h = cc

child_missing : (d : Directory) (here : ℕ) (n : List ℕ) → child_of d here n ≡ None → (is_dot n ≡ false) × (is_dot_dot n ≡ false) × (named d.names n ≡ None)
unfolding child_of
child_missing d here n h = none_case (is_dot n) (is_dot_dot n) here d.parent (named d.names n) h

pub both_false : (a b c : Bool) → a ≡ false → b ≡ false → c ≡ false → ((a || b) || c) ≡ false
both_false a b c h g k = rw (h, g, k) refl

a_name : (fixed : Bool) (n : ℕ) → fixed ≡ false → nat_lt 255 n ≡ false → (not fixed && nat_le n 255) ≡ true
a_name fixed n h small = grind (arith, nat_tests)

pub not_empty : (b : ℕ) (bs : List ℕ) → (length (b ∷ bs) == 0) ≡ false
not_empty b bs = grind (arith, common_steps)

entry_missing : (dirs : List (ℕ × Directory)) (q : ℕ) (n : List ℕ) → directories.entry_at dirs q n ≡ Ok None → Lacks dirs q n
unfolding directories.entry_at
entry_missing dirs q [] h = let inner = same_value {A = Option ℕ} (Some q) None h in absurd (cc)
entry_missing dirs q (b ∷ bs) h =
    let small = not_refused (nat_lt 255 (length (b ∷ bs))) NameTooLong (ok_or (at dirs q) NotDirectory >>= λ d. Ok (child_of d q (b ∷ bs))) None h in
    let holder = both_answered (ok_or (at dirs q) NotDirectory) (λ d. Ok (child_of d q (b ∷ bs))) None small.1 in
    let m = child_missing holder.0 q (b ∷ bs) (same_value (child_of holder.0 q (b ∷ bs)) None holder.2) in
    record {
      dir = holder.0;
      there = found (at dirs q) NotDirectory holder.0 holder.1;
      missing = m.2;
      plain = a_name (is_fixed (b ∷ bs)) (length (b ∷ bs)) (both_false (length (b ∷ bs) == 0) (is_dot (b ∷ bs)) (is_dot_dot (b ∷ bs)) (not_empty b bs) m.0 m.1) small.0;
    }

neither : (a b : Bool) → (a || b) ≡ false → (a ≡ false) × (b ≡ false)
neither true b h = cc
neither false b h = (refl, h)

pub child_plain : (d : Directory) (q : ℕ) (n : List ℕ) → is_dot n ≡ false → is_dot_dot n ≡ false → child_of d q n ≡ option_map child (named d.names n)
unfolding child_of
child_plain d q n dot dot_dot = rw (dot, dot_dot) refl

abbrev Named : List (ℕ × Entry) → List ℕ → Option ℕ → Type 0
Named names n o = option_map child (named names n) ≡ o

pub entry_plain : (dirs : List (ℕ × Directory)) (q : ℕ) (n : List ℕ) (x : Option ℕ) → is_fixed n ≡ false → directories.entry_at dirs q n ≡ Ok x → (d : Directory) × (at dirs q ≡ Some d) × Named d.names n x
unfolding directories.entry_at
entry_plain dirs q [] x free h = cc
entry_plain dirs q (b ∷ bs) x free h =
    let last = neither ((length (b ∷ bs) == 0) || is_dot (b ∷ bs)) (is_dot_dot (b ∷ bs)) free in
    let first = neither (length (b ∷ bs) == 0) (is_dot (b ∷ bs)) last.0 in
    let small = not_refused (nat_lt 255 (length (b ∷ bs))) NameTooLong (ok_or (at dirs q) NotDirectory >>= λ d. Ok (child_of d q (b ∷ bs))) x h in
    let holder = both_answered (ok_or (at dirs q) NotDirectory) (λ d. Ok (child_of d q (b ∷ bs))) x small.1 in
    (holder.0, found (at dirs q) NotDirectory holder.0 holder.1, sym (child_plain holder.0 q (b ∷ bs) first.1 last.1) ∙ same_value (child_of holder.0 q (b ∷ bs)) x holder.2)

pub some_named : (o : Option (ℕ × Entry)) (i : ℕ) → option_map child o ≡ Some i → (x : ℕ × Entry) × (o ≡ Some x) × (x.1.child ≡ i)
some_named None i h = cc
some_named (Some x) i h = let e : x.1.child ≡ i = cc in (x, refl, e)

-- ---- of a tree
pub lacks : (s : FileTree) (l : ℕ × List ℕ) → entry_at s l ≡ Ok None → Lacks s.directories l.0 l.1
unfolding entry_at
lacks s l h = entry_missing s.directories l.0 l.1 h

pub finds : (s : FileTree) (l : ℕ × List ℕ) (i : ℕ) → is_fixed l.1 ≡ false → entry_at s l ≡ Ok (Some i) → Finds s.directories l.0 l.1 i
unfolding entry_at
finds s l i plain h =
    let e = entry_plain s.directories l.0 l.1 (Some i) plain h in
    let x = some_named (named e.0.names l.1) i e.2 in
    record { dir = e.0; there = e.1; entry = x.0; found = x.1; means = x.2 }
