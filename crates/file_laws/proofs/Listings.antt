-- Entries told one after another.
use Rattle.std.proofs.Common.{◌≡◌, ◌∙◌, ℕ, ◌<◌, nat_lt, true, List, [], ◌∷◌, map, Some, Result, Ok, Err, refl, ap, sym, subst, arith}
use Rattle.std.proofs.lemmas.Grind.{common_steps}
use Rattle.std.specs.List.{AllByRecursion}
use Rattle.std.specs.List.Sorted.{IsStrictlySortedBy}
use Rattle.std.specs.Map.{keys_of}
use Rattle.std.specs.Ordering.{nat_cmp}
use Rattle.std.specs.declared.cmp.Ordering.TheVariants.{Less}
use Rattle.kernel_values.specs.declared.errno.Errno.{Errno}
use Rattle.kernel_values.specs.declared.listing.DirEntry.{DirEntry}
use Rattle.number_maps.specs.NumberMap.{after_key, at}
use Rattle.file_tables.specs.Listing.{line_of, lines, listed_after, told}
use Rattle.file_tables.specs.declared.state.Directory.{Directory}
use Rattle.file_tables.specs.declared.state.Entry.{Entry}
use Rattle.file_tables.proofs.Lines.{after_dot, after_dot_dot, lines_from}
use Rattle.file_tree.specs.Listing.{IsBehind, listing}
use Rattle.file_tree.specs.declared.state.FileTree.{FileTree}
use Rattle.file_laws.specs.Listings.{AllNamesAreListed, AreToldInTurn, IsListable, listed}
use Rattle.map_lemmas.proofs.Steps.{same_value}

behind_case : (rest all : Result (List DirEntry) Errno) (e : DirEntry) (es : List DirEntry) → rest ≡ Ok es → IsBehind rest e all → all ≡ Ok (e ∷ es)
behind_case (Ok xs) all e es same h = h ∙ ap (λ (ys : List DirEntry). Ok (e ∷ ys)) (same_value xs es same)
behind_case (Err x) all e es same h = absurd h

-- entries told in turn are all that there are
told_all : (after : ℕ → Result (List DirEntry) Errno) (position : ℕ) (es : List DirEntry) → AreToldInTurn after position es → after position ≡ Ok es
told_all after position [] h = h
told_all after position (e ∷ es) h = behind_case (after e.position) (after position) e es (told_all after e.position es h.1) h.0

later : (p : ℕ) → 2 < p → nat_lt 2 p ≡ true
later p h = grind (arith, common_steps)

all_behind : (t : List (ℕ × Entry)) → AllByRecursion (λ p. 2 < p) (keys_of t) → after_key t 2 ≡ t
unfolding after_key
all_behind [] all = refl
all_behind (e ∷ t) all = rw (later e.0 all.0) (ap (λ (xs : List (ℕ × Entry)). e ∷ xs) (all_behind t all.1))

abbrev listed_entry : FileTree → ℕ × Entry → DirEntry
listed_entry s e = listed s e.0 e.1.name e.1.child

told_names : (s : FileTree) (t : List (ℕ × Entry)) → map (told s.directories) (map line_of t) ≡ map (listed_entry s) t
told_names s [] = refl
told_names s (e ∷ t) = ap (λ (es : List DirEntry). listed_entry s e ∷ es) (told_names s t)

abbrev whole : FileTree → ℕ → Directory → List DirEntry
whole s inode d = listed s 1 (46 ∷ []) inode ∷ (listed s 2 (46 ∷ (46 ∷ [])) d.parent ∷ map (listed_entry s) d.names)

all_lines : (d : Directory) (inode : ℕ) → AllByRecursion (λ p. 2 < p) (keys_of d.names) → after_key (lines d inode) 0 ≡ (1, (46 ∷ [], inode)) ∷ ((2, (46 ∷ (46 ∷ []), d.parent)) ∷ map line_of d.names)
all_lines d inode all =
    let names : after_key (lines d inode) 2 ≡ map line_of d.names = lines_from d inode 2 (omega arith) ∙ ap (map line_of) (all_behind d.names all) in
    rw (after_dot d inode 0 (omega arith), after_dot_dot d inode 1 (omega arith) (omega arith), names) refl

lines_listed : (s : FileTree) (inode : ℕ) (d : Directory) → AllByRecursion (λ p. 2 < p) (keys_of d.names) → listed_after s.directories d inode 0 ≡ whole s inode d
unfolding listed_after
lines_listed s inode d all = ap (map (told s.directories)) (all_lines d inode all) ∙ ap (λ (es : List DirEntry). listed s 1 (46 ∷ []) inode ∷ (listed s 2 (46 ∷ (46 ∷ [])) d.parent ∷ es)) (told_names s d.names)

listing_of : (s : FileTree) (inode : ℕ) (d : Directory) → at s.directories inode ≡ Some d → listing s inode 0 ≡ Ok (listed_after s.directories d inode 0)
unfolding listing
listing_of s inode d there = rw there refl

all_listed : (s : FileTree) (inode : ℕ) (d : Directory) → IsListable s inode d → listing s inode 0 ≡ Ok (whole s inode d)
all_listed s inode d h = listing_of s inode d h.there ∙ ap (λ (es : List DirEntry). Ok es) (lines_listed s inode d h.behind)

keys_listed : (s : FileTree) (t : List (ℕ × Entry)) → map (λ (e : DirEntry). e.position) (map (listed_entry s) t) ≡ keys_of t
keys_listed s [] = refl
keys_listed s (e ∷ t) = ap (λ (ks : List ℕ). e.0 ∷ ks) (keys_listed s t)

less : (a b : ℕ) → a < b → nat_cmp a b ≡ Less
less a b h = grind (arith, common_steps)

all_greater : (a : ℕ) (ks : List ℕ) → a < 3 → AllByRecursion (λ p. 2 < p) ks → AllByRecursion (λ y. nat_cmp a y ≡ Less) ks
all_greater a [] small all = tt
all_greater a (k ∷ ks) small all = (less a k (omega (arith, all.0)), all_greater a ks small all.1)

positions_ascend : (ks : List ℕ) → AllByRecursion (λ p. 2 < p) ks → IsStrictlySortedBy nat_cmp ks → IsStrictlySortedBy nat_cmp (1 ∷ (2 ∷ ks))
unfolding IsStrictlySortedBy
positions_ascend ks all s = ((less 1 2 (omega arith), all_greater 1 ks (omega arith) all), (all_greater 2 ks (omega arith) all, s))

pub all_names_are_listed : AllNamesAreListed
all_names_are_listed s inode d es h turn =
    let all : es ≡ whole s inode d = same_value es (whole s inode d) (sym (told_all (listing s inode) 0 es turn) ∙ all_listed s inode d h) in
    let ascend : IsStrictlySortedBy nat_cmp (1 ∷ (2 ∷ keys_of d.names)) = positions_ascend (keys_of d.names) h.behind h.ascend in
    let positions : map (λ (e : DirEntry). e.position) es ≡ 1 ∷ (2 ∷ keys_of d.names) = ap (map (λ (e : DirEntry). e.position)) all ∙ ap (λ (ks : List ℕ). 1 ∷ (2 ∷ ks)) (keys_listed s d.names) in
    (all, subst (IsStrictlySortedBy nat_cmp) (sym positions) ascend)
