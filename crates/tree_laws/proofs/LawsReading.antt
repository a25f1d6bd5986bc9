-- What a reader of a sound tree may rely on.
use Rattle.std.proofs.Common.{◌≡◌, ◌∙◌, ℕ, suc, ◌+◌, ◌-◌, ◌^◌, ◌<◌, ◌≤◌, nat_lt, Bool, true, false, List, [], ◌∷◌, length, map, cond, Option, Some, None, is_some, ok_or, Ok, refl, ap, sym, subst, inl, inr, arith, ◌⊎◌, ◌==◌, ◌≢◌, ◌++◌}
use Rattle.std.proofs.lemmas.Cmp.{nat_cmp_total}
use Rattle.std.proofs.lemmas.Grind.{common_steps}
use Rattle.std.proofs.lemmas.Map.Lookups.{exact_unsigned}
use Rattle.std.specs.BTreeMap.{is_at}
use Rattle.std.specs.List.{AllByRecursion, IsDistinct}
use Rattle.std.specs.List.Sorted.{IsStrictlySortedBy}
use Rattle.std.specs.Map.{keys_of}
use Rattle.std.specs.Option.{option_map}
use Rattle.std.specs.Ordering.{nat_cmp}
use Rattle.std.specs.Prelude.{if◌then◌else◌}
use Rattle.std.specs.Str.{bytes_eq}
use Rattle.std.specs.declared.cmp.Ordering.TheVariants.{Less}
use Rattle.kernel_values.specs.Bounds.{most_narrow}
use Rattle.kernel_values.specs.Outcome.{◌>>=◌}
use Rattle.kernel_values.specs.declared.errno.Errno.{Errno}
use Rattle.kernel_values.specs.declared.errno.Errno.TheVariants.{NameTooLong, NotDirectory}
use Rattle.kernel_values.specs.declared.listing.DirEntry.{DirEntry}
use Rattle.number_maps.specs.NumberMap.{IsAscending, after_key, at, is_after}
use Rattle.file_tables.specs.Directories as directories
use Rattle.file_tables.specs.Directories.{child_of, is_dot, is_dot_dot, step, walk}
use Rattle.file_tables.specs.Entries.{named}
use Rattle.file_tables.specs.Links.{directories_among}
use Rattle.file_tables.specs.Listing.{Line, line_of, lines, listed_after, told}
use Rattle.file_tables.specs.Names.{ended, names_from, names_of}
use Rattle.file_tables.specs.declared.state.Directory.{Directory}
use Rattle.file_tables.specs.declared.state.Entry.{Entry}
use Rattle.file_tables.proofs.Lookups.{at_itself}
use Rattle.file_tree.specs.Listing.{listing}
use Rattle.file_tree.specs.Making.{next_inode}
use Rattle.file_tree.specs.Paths.{entry_at, parent_from}
use Rattle.file_tree.specs.Renaming.{is_fixed}
use Rattle.file_tree.specs.declared.state.FileTree.{FileTree}
use Rattle.tree_laws.specs.Reading.{DirectoriesAreShallow, DirectoryStandsOnce, FixedNamesMeanDirectories, IsShallow, LinksAreNotCut, ListedPositionsAreNarrow, NamedInodeIsThere, NamesAreListable, NextInodeIsNew, NextPositionIsFree, NoDirectoryLiesInItself, OutsideIsNowhereInside, StepsLeadToDirectory}
use Rattle.tree_laws.specs.Sound.{HasSoundNames, IsNamed, IsSound}
use Rattle.tree_laws.specs.Views.{is_there, lies_in, marked, ReachesRoot, entry_in}
use Rattle.tree_laws.proofs.Entries.{both_false, not_empty}
use Rattle.map_lemmas.proofs.Maps.{one_or_other, some_there}
use Rattle.tree_laws.proofs.NodeKinds.{directory_node, no_directory}
use Rattle.tree_laws.proofs.Numbers.{new_found, new_narrow, new_unused}
use Rattle.tree_laws.proofs.Positions.{found_stands, next_vacant, same_name}
use Rattle.tree_laws.proofs.Reach.{Least, fewer_steps, least, never_inside, outside, outside_all}
use Rattle.map_lemmas.proofs.Steps.{both_answered, not_refused, same_value}
use Rattle.tree_laws.proofs.Views.{directory_there, entry_there, holder_of, lies_there, node_there}

pub next_inode_is_new : NextInodeIsNew
unfolding next_inode
next_inode_is_new things s sound few =
    let unused : is_there s.nodes (next_inode s) ≡ false = new_unused things s.numbers s.nodes few sound.numbers in
    record { found = new_found things s.numbers s.nodes few sound.numbers; unused = unused; directory = no_directory s (next_inode s) sound.kinds unused; narrow = new_narrow things s.numbers s.nodes few sound.numbers }

pub next_position_is_free : NextPositionIsFree
next_position_is_free things s place d sound there = next_vacant things d (sound.positions place d there)

pub no_directory_lies_in_itself : NoDirectoryLiesInItself
no_directory_lies_in_itself things s i n sound there other some =
    let z = some_there (lies_in s.directories i) (sym (directory_there s.directories i) ∙ there) in
    never_inside s.directories i z.0 n sound.reach sound.root z.1 other some

-- ---- what holds at each key of a map
greater_is_other : (p q : ℕ) → nat_cmp p q ≡ Less → is_at (nat_cmp q) p ≡ false
greater_is_other p q h = grind (arith, common_steps)

none_is : {X : Type 0} (x : X) → None ≡ Some x → ⊥
none_is x h = cc

same_number : (p k : ℕ) → is_at (nat_cmp p) k ≡ true → p ≡ k
same_number p k h = grind (arith, common_steps)

module _ {V : Type 0} where
  key_case : (P : ℕ → Type 0) (e : ℕ × V) (t : List (ℕ × V)) (p : ℕ) (v : V) (b : Bool) → (b ≡ true → p ≡ e.0) → P e.0 → (at t p ≡ Some v → P p) → cond b (Some e.1) (at t p) ≡ Some v → P p
  key_case P e t p v true same first rec h = subst P (sym (same refl)) first
  key_case P e t p v false same first rec h = rec h

  all_at : (P : ℕ → Type 0) (t : List (ℕ × V)) (p : ℕ) (v : V) → AllByRecursion P (keys_of t) → at t p ≡ Some v → P p
  all_at P [] p v all h = absurd (none_is v h)
  all_at P (e ∷ t) p v all h = key_case P e t p v (is_at (nat_cmp p) e.0) (same_number p e.0) all.0 (all_at P t p v all.1) h

  first_at : (e : ℕ × V) (t : List (ℕ × V)) → at (e ∷ t) e.0 ≡ Some e.1
  first_at e t = rw (at_itself nat_cmp_total exact_unsigned e.0) refl

  later_at : (e : ℕ × V) (t : List (ℕ × V)) (p : ℕ) (v : V) → AllByRecursion (λ y. nat_cmp e.0 y ≡ Less) (keys_of t) → at t p ≡ Some v → at (e ∷ t) p ≡ Some v
  later_at e t p v all there = rw (greater_is_other e.0 p (all_at (λ y. nat_cmp e.0 y ≡ Less) t p v all there)) there

  each_key : (P : ℕ → Type 0) (t : List (ℕ × V)) → IsAscending t → ((p : ℕ) (v : V) → at t p ≡ Some v → P p) → AllByRecursion P (keys_of t)
  unfolding IsStrictlySortedBy
  each_key P [] s h = tt
  each_key P (e ∷ t) s h = (h e.0 e.1 (first_at e t), each_key P t s.1 (λ p v there. h p v (later_at e t p v s.0 there)))

-- ---- names of a directory
abbrev name_of : ℕ × Entry → List ℕ
name_of e = e.1.name

each_name : (P : List ℕ → Type 0) (t : List (ℕ × Entry)) → IsAscending t → ((p : ℕ) (e : Entry) → at t p ≡ Some e → P e.name) → AllByRecursion P (map name_of t)
unfolding IsStrictlySortedBy
each_name P [] s h = tt
each_name P (e ∷ t) s h = (h e.0 e.1 (first_at e t), each_name P t s.1 (λ p f there. h p f (later_at e t p f s.0 there)))

less_is : (a b : ℕ) → nat_cmp a b ≡ Less → a < b
less_is a b h = grind (arith, common_steps)

name_apart : (n m : List ℕ) (b : Bool) → bytes_eq n m ≡ b → n ≢ m → b ≡ false
name_apart n m true h other = absurd (other (same_name n m h))
name_apart n m false h other = refl

abbrev Once : List (ℕ × Entry) → Type 0
Once t = (p r : ℕ) (e f : Entry) → at t p ≡ Some e → at t r ≡ Some f → e.name ≡ f.name → p ≡ r

first_apart : (e : ℕ × Entry) (t : List (ℕ × Entry)) (p : ℕ) (f : Entry) → AllByRecursion (λ y. nat_cmp e.0 y ≡ Less) (keys_of t) → Once (e ∷ t) → at t p ≡ Some f → e.1.name ≢ f.name
first_apart e t p f above once there same =
    let less : e.0 < p = less_is e.0 p (all_at (λ y. nat_cmp e.0 y ≡ Less) t p f above there) in
    let one : e.0 ≡ p = once e.0 p e.1 f (first_at e t) (later_at e t p f above there) same in
    absurd (omega arith)

all_distinct : (t : List (ℕ × Entry)) → IsAscending t → Once t → IsDistinct bytes_eq (map name_of t)
unfolding IsStrictlySortedBy IsDistinct
all_distinct [] s once = tt
all_distinct (e ∷ t) s once = (
  each_name (λ n. bytes_eq e.1.name n ≡ false) t s.1 (λ p f there. name_apart e.1.name f.name (bytes_eq e.1.name f.name) refl (first_apart e t p f s.0 once there)),
  all_distinct t s.1 (λ p r x y h g. once p r x y (later_at e t p x s.0 h) (later_at e t r y s.0 g)),
)

pub names_are_listable : NamesAreListable
names_are_listable things s place d sound there =
    let names : HasSoundNames things d = sound.positions place d there in
    record { ascend = names.ascend; behind = each_key (λ p. 2 < p) d.names names.ascend names.behind; once = all_distinct d.names names.ascend names.once }

-- ---- listings
abbrev Narrow : ℕ → Type 0
Narrow p = p ≤ most_narrow

abbrev NarrowEntry : DirEntry → Type 0
NarrowEntry e = e.position ≤ most_narrow

abbrev NarrowLine : Line → Type 0
NarrowLine l = l.0 ≤ most_narrow

kept_case : (l : Line) (ls : List Line) (b : Bool) → NarrowLine l → AllByRecursion NarrowLine ls → AllByRecursion NarrowLine (cond b (l ∷ ls) ls)
kept_case l ls true first all = (first, all)
kept_case l ls false first all = all

kept_lines : (ls : List Line) (p : ℕ) → AllByRecursion NarrowLine ls → AllByRecursion NarrowLine (after_key ls p)
unfolding after_key
kept_lines [] p all = tt
kept_lines (l ∷ ls) p all = kept_case l (after_key ls p) (is_after p l) all.0 (kept_lines ls p all.1)

told_lines : (dirs : List (ℕ × Directory)) (ls : List Line) → AllByRecursion NarrowLine ls → AllByRecursion NarrowEntry (map (told dirs) ls)
told_lines dirs [] all = tt
told_lines dirs (l ∷ ls) all = (all.0, told_lines dirs ls all.1)

name_case : (e : ℕ × Entry) (es : List (ℕ × Entry)) (b : Bool) → Narrow e.0 → AllByRecursion NarrowLine (map line_of es) → AllByRecursion NarrowLine (map line_of (cond b (e ∷ es) es))
name_case e es true first all = (first, all)
name_case e es false first all = all

name_lines : (es : List (ℕ × Entry)) (p : ℕ) → AllByRecursion Narrow (keys_of es) → AllByRecursion NarrowLine (map line_of (after_key es p))
unfolding after_key
name_lines [] p all = tt
name_lines (e ∷ es) p all = name_case e (after_key es p) (is_after p e) all.0 (name_lines es p all.1)

narrow_names : (things : ℕ) (d : Directory) → HasSoundNames things d → things < 2 ^ 31 - 2 → AllByRecursion Narrow (keys_of d.names)
narrow_names things d s few = each_key Narrow d.names s.ascend (λ p e h. (let a : p ≤ d.last = s.placed p e h in let b : d.last ≤ things + 2 = s.counted in omega arith))

all_lines : (things : ℕ) (d : Directory) (here : ℕ) → HasSoundNames things d → things < 2 ^ 31 - 2 → AllByRecursion NarrowLine (lines d here)
unfolding lines
all_lines things d here s few = (omega arith, (omega arith, name_lines d.names 2 (narrow_names things d s few)))

listed_narrow : (things : ℕ) (dirs : List (ℕ × Directory)) (d : Directory) (here position : ℕ) → HasSoundNames things d → things < 2 ^ 31 - 2 → AllByRecursion NarrowEntry (listed_after dirs d here position)
unfolding listed_after
listed_narrow things dirs d here position s few = told_lines dirs (after_key (lines d here) position) (kept_lines (lines d here) position (all_lines things d here s few))

found : {V : Type 0} (o : Option V) (e : Errno) (v : V) → ok_or o e ≡ Ok v → o ≡ Some v
found None e v h = cc
found (Some w) e v h = ap Some (same_value w v h)

pub listed_positions_are_narrow : ListedPositionsAreNarrow
unfolding listing
listed_positions_are_narrow things s inode position es sound few h =
    let d = both_answered (ok_or (at s.directories inode) NotDirectory) (λ d. Ok (listed_after s.directories d inode position)) es h in
    let there : at s.directories inode ≡ Some d.0 = found (at s.directories inode) NotDirectory d.0 d.1 in
    subst (λ (xs : List DirEntry). AllByRecursion NarrowEntry xs) (same_value (listed_after s.directories d.0 inode position) es d.2) (listed_narrow things s.directories d.0 inode position (sound.positions inode d.0 there) few)

-- ---- links
spread : (ks : List ℕ) (b last : ℕ) → IsStrictlySortedBy nat_cmp ks → AllByRecursion (λ y. nat_cmp b y ≡ Less) ks → AllByRecursion (λ y. y ≤ last) ks → b ≤ last → length ks + b ≤ last
unfolding IsStrictlySortedBy
spread [] b last s above below fits = omega arith
spread (k ∷ ks) b last s above below fits =
    let less : b < k = less_is b k above.0 in
    let rest : length ks + k ≤ last = spread ks k last s.1 s.0 below.1 below.0 in
    omega arith

is_less : (a b : ℕ) → a < b → nat_cmp a b ≡ Less
is_less a b h = grind (arith, common_steps)

keys_long : {V : Type 0} (t : List (ℕ × V)) → length (keys_of t) ≡ length t
keys_long [] = refl
keys_long (e ∷ t) = let h : length (keys_of t) ≡ length t = keys_long t in omega arith

few_names : (things : ℕ) (d : Directory) → HasSoundNames things d → length d.names ≤ things
few_names things d s =
    let above : AllByRecursion (λ y. nat_cmp 2 y ≡ Less) (keys_of d.names) = each_key (λ p. nat_cmp 2 p ≡ Less) d.names s.ascend (λ p e h. is_less 2 p (s.behind p e h)) in
    let below : AllByRecursion (λ y. y ≤ d.last) (keys_of d.names) = each_key (λ p. p ≤ d.last) d.names s.ascend s.placed in
    let all : length (keys_of d.names) + 2 ≤ d.last = spread (keys_of d.names) 2 d.last s.ascend above below s.least in
    let long : length (keys_of d.names) ≡ length d.names = keys_long d.names in
    let end : d.last ≤ things + 2 = s.counted in
    omega arith

among_case : (b : Bool) (n m : ℕ) → n ≤ m → (if b then n + 1 else n) ≤ suc m
among_case true n m h = omega arith
among_case false n m h = omega arith

among : (dirs : List (ℕ × Directory)) (es : List (ℕ × Entry)) → directories_among dirs es ≤ length es
unfolding directories_among
among dirs [] = omega arith
among dirs (e ∷ es) = among_case (directories.is_directory dirs e.1.child) (directories_among dirs es) (length es) (among dirs es)

pub links_are_not_cut : LinksAreNotCut
links_are_not_cut things s inode d sound few there =
    let a : directories_among s.directories d.names ≤ length d.names = among s.directories d.names in
    let b : length d.names ≤ things = few_names things d (sound.positions inode d there) in
    omega arith

-- ---- what a name means
parent_there : (things : ℕ) (s : FileTree) (i z : ℕ) → IsSound things s → lies_in s.directories i ≡ Some z → is_there s.directories z ≡ true
parent_there things s i z sound h = elim (one_or_other i 2) [
  | inl root ↦ (let both : Some z ≡ Some 2 = sym h ∙ (ap (lies_in s.directories) root ∙ sound.root) in let two : z ≡ 2 = cc in
      directory_there s.directories z ∙ ap is_some (ap (lies_in s.directories) two ∙ sound.root))
  | inr other ↦ (let n : IsNamed s.directories i = sound.names.stands i (sound.names.directories i z h) other in
      let up : z ≡ n.place = sound.names.up n.place n.position z n.entry n.there (ap (lies_in s.directories) n.means ∙ h) in
      let d = holder_of s.directories n.place n.position n.entry n.there in
      ap is_some (ap (at s.directories) up ∙ d.1))
]

abbrev child : ℕ × Entry → ℕ
child e = e.1.child

meaning_case : (things : ℕ) (s : FileTree) (d : Directory) (q i : ℕ) (b c : Bool) (n : List ℕ) (o : Option (ℕ × Entry)) → IsSound things s → at s.directories q ≡ Some d → named d.names n ≡ o → cond b (Some q) (cond c (Some d.parent) (option_map child o)) ≡ Some i → (is_there s.directories i ≡ true) ⊎ ((b ≡ false) × (c ≡ false) × (is_there s.nodes i ≡ true))
meaning_case things s d q i true c n o sound there name h = let same : q ≡ i = cc in inl (subst (λ (k : ℕ). is_there s.directories k ≡ true) same (ap is_some there))
meaning_case things s d q i false true n o sound there name h = let same : d.parent ≡ i = cc in inl (subst (λ (k : ℕ). is_there s.directories k ≡ true) same (parent_there things s q d.parent sound (lies_there s.directories q d there)))
meaning_case things s d q i false false n None sound there name h = absurd (none_is i h)
meaning_case things s d q i false false n (Some x) sound there name h =
    let same : x.1.child ≡ i = cc in
    let stands = found_stands d.names n x (sound.positions q d there).ascend name in
    let mark : marked s.nodes x.1.child ≡ Some true = sound.names.meant q x.0 x.1 (entry_there s.directories q x.0 d there ∙ stands.0) in
    inr (refl, refl, subst (λ (k : ℕ). is_there s.nodes k ≡ true) same (node_there s.nodes x.1.child ∙ ap is_some mark))

abbrev Means : FileTree → ℕ → List ℕ → Type 0
Means s i n = (is_there s.directories i ≡ true) ⊎ ((is_fixed n ≡ false) × (is_there s.nodes i ≡ true))

none_fixed : (b : ℕ) (bs : List ℕ) → is_dot (b ∷ bs) ≡ false → is_dot_dot (b ∷ bs) ≡ false → is_fixed (b ∷ bs) ≡ false
none_fixed b bs h g = both_false (length (b ∷ bs) == 0) (is_dot (b ∷ bs)) (is_dot_dot (b ∷ bs)) (not_empty b bs) h g

meaning : (things : ℕ) (s : FileTree) (q i : ℕ) (n : List ℕ) → IsSound things s → is_there s.directories q ≡ true → directories.entry_at s.directories q n ≡ Ok (Some i) → Means s i n
unfolding directories.entry_at child_of
meaning things s q i [] sound place h =
    let both : Some q ≡ Some i = same_value (Some q) (Some i) h in
    let same : q ≡ i = cc in
    inl (subst (λ (k : ℕ). is_there s.directories k ≡ true) same place)
meaning things s q i (b ∷ bs) sound place h =
    let small = not_refused (nat_lt 255 (length (b ∷ bs))) NameTooLong (ok_or (at s.directories q) NotDirectory >>= λ d. Ok (child_of d q (b ∷ bs))) (Some i) h in
    let holder = both_answered (ok_or (at s.directories q) NotDirectory) (λ d. Ok (child_of d q (b ∷ bs))) (Some i) small.1 in
    elim (meaning_case things s holder.0 q i (is_dot (b ∷ bs)) (is_dot_dot (b ∷ bs)) (b ∷ bs) (named holder.0.names (b ∷ bs)) sound (found (at s.directories q) NotDirectory holder.0 holder.1) refl (same_value (child_of holder.0 q (b ∷ bs)) (Some i) holder.2)) [
      | inl directory ↦ inl directory
      | inr other ↦ inr (none_fixed b bs other.0 other.1, other.2)
    ]

pub named_inode_is_there : NamedInodeIsThere
unfolding entry_at
named_inode_is_there things s l i sound place h = elim (meaning things s l.0 i l.1 sound place h) [
  | inl directory ↦ directory_node s i sound.kinds directory
  | inr other ↦ other.1
]

not_both_ways : (b : Bool) → b ≡ true → b ≡ false → ⊥
not_both_ways b h g = cc

pub fixed_names_mean_directories : FixedNamesMeanDirectories
unfolding entry_at
fixed_names_mean_directories things s l i sound place fixed h = elim (meaning things s l.0 i l.1 sound place h) [
  | inl directory ↦ directory
  | inr other ↦ absurd (not_both_ways (is_fixed l.1) fixed other.0)
]

-- ---- where a directory stands
pub directory_stands_once : DirectoryStandsOnce
directory_stands_once things s i parent sound lies other =
    let n : IsNamed s.directories i = sound.names.stands i (sound.names.directories i parent lies) other in
    let up : parent ≡ n.place = sound.names.up n.place n.position parent n.entry n.there (ap (lies_in s.directories) n.means ∙ lies) in
    record {
      position = n.position;
      entry = n.entry;
      there = ap (λ (q : ℕ). entry_in s.directories q n.position) up ∙ n.there;
      means = n.means;
      once = λ q p e h same. (let one = sound.names.alone q p n.place n.position e n.entry h n.there (same ∙ sym n.means) in (one.0 ∙ sym up, one.1));
    }

pub directories_are_shallow : DirectoriesAreShallow
directories_are_shallow things s i sound there =
    let z = some_there (lies_in s.directories i) (sym (directory_there s.directories i) ∙ there) in
    let from : ReachesRoot s.directories i = sound.reach i z.0 z.1 in
    let l : Least s.directories i = least s.directories from.steps i from.arrives in
    record { steps = l.steps; fewer = fewer_steps s.directories i sound.root l; arrives = l.arrives }

pub outside_is_nowhere_inside : OutsideIsNowhereInside
outside_is_nowhere_inside things s i place n sound there out same =
    let z = some_there (lies_in s.directories place) (sym (directory_there s.directories place) ∙ there) in
    elim (one_or_other i 2) [
      | inl root ↦ (let shallow : IsShallow s.directories place = directories_are_shallow things s place sound there in
          outside s.directories i (length s.directories) place out shallow.steps shallow.fewer (shallow.arrives ∙ sym root))
      | inr other ↦ outside_all s.directories i place z.0 sound.reach sound.root z.1 other out n same
    ]

-- ---- the steps of a path
abbrev Full : List ℕ → Type 0
Full n = n ≢ []

some_bytes : (b : ℕ) (bs : List ℕ) → Full (b ∷ bs)
some_bytes b bs h = cc

ended_full : (n : List ℕ) (ns : List (List ℕ)) → AllByRecursion Full ns → AllByRecursion Full (ended n ns)
ended_full [] ns all = all
ended_full (b ∷ bs) ns all = (some_bytes b bs, all)

names_case : (b : Bool) (n : List ℕ) (ns ms : List (List ℕ)) → AllByRecursion Full ns → AllByRecursion Full ms → AllByRecursion Full (cond b (ended n ns) ms)
names_case true n ns ms all more = ended_full n ns all
names_case false n ns ms all more = more

names_full : (n bs : List ℕ) → AllByRecursion Full (names_from n bs)
unfolding names_from
names_full n [] = ended_full n [] tt
names_full n (b ∷ bs) = names_case (b == 47) n (names_from [] bs) (names_from (n ++ b ∷ []) bs) (names_full [] bs) (names_full (n ++ b ∷ []) bs)

-- a walk without a last name has taken no step
walked : (dirs : List (ℕ × Directory)) (q : ℕ) (n : List ℕ) (ns : List (List ℕ)) (l : ℕ × List ℕ) → (n ≡ [] → is_there dirs q ≡ true) → AllByRecursion Full ns → walk dirs q n ns ≡ Ok l → l.1 ≡ [] → is_there dirs l.0 ≡ true
unfolding walk
walked dirs q n [] l begins all h none =
    let same : (q, n) ≡ l = same_value (q, n) l h in
    subst (λ (k : ℕ). is_there dirs k ≡ true) (ap (λ (x : ℕ × List ℕ). x.0) same) (begins (ap (λ (x : ℕ × List ℕ). x.1) same ∙ none))
walked dirs q n (m ∷ ms) l begins all h none =
    let next = both_answered (step dirs q n) (λ p. walk dirs p m ms) l h in
    walked dirs next.0 m ms l (λ empty. absurd (all.0 empty)) all.1 next.2 none

looked_up : (dirs : List (ℕ × Directory)) (q : ℕ) (n : List ℕ) (e : Option ℕ) → (n ≡ [] → is_there dirs q ≡ true) → directories.entry_at dirs q n ≡ Ok e → is_there dirs q ≡ true
unfolding directories.entry_at
looked_up dirs q [] e begins h = begins refl
looked_up dirs q (b ∷ bs) e begins h =
    let small = not_refused (nat_lt 255 (length (b ∷ bs))) NameTooLong (ok_or (at dirs q) NotDirectory >>= λ d. Ok (child_of d q (b ∷ bs))) e h in
    let holder = both_answered (ok_or (at dirs q) NotDirectory) (λ d. Ok (child_of d q (b ∷ bs))) e small.1 in
    ap is_some (found (at dirs q) NotDirectory holder.0 holder.1)

pub steps_lead_to_directory : StepsLeadToDirectory
unfolding parent_from entry_at
steps_lead_to_directory s start path l e begins steps entry =
    looked_up s.directories l.0 l.1 e (walked s.directories start [] (names_of path) l (λ empty. begins) (names_full [] path) steps) entry
