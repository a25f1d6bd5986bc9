-- Trees in which bytes, times, locks or the working directory changed.
use Rattle.std.proofs.Common.{◌≡◌, ◌∙◌, ℕ, ◌+◌, ◌||◌, ◌≤◌, nat_lt, Bool, true, false, List, [], ◌++◌, length, drop, cond, Option, Some, None, is_some, refl, ap, sym, subst, inl, inr, arith, length-append, length-drop}
use Rattle.std.proofs.lemmas.Grind.{common_steps}
use Rattle.kernel_values.specs.Bounds.{most_file_bytes}
use Rattle.kernel_values.specs.declared.times.TimeSpec.{TimeSpec}
use Rattle.file_bytes.specs.Row.{resized, written}
use Rattle.number_maps.specs.NumberMap.{IsAscending, at, changed, put, removed}
use Rattle.record_locks.specs.declared.state.ForeignLock.{ForeignLock}
use Rattle.record_locks.specs.declared.state.OwnLock.{OwnLock}
use Rattle.file_tables.specs.Nodes.{touched}
use Rattle.file_tables.specs.declared.state.Node.{Node}
use Rattle.file_tree.specs.Contents.{overwritten, overwritten_as, relengthened, relengthened_as}
use Rattle.file_tree.specs.Lengths as lengths
use Rattle.file_tree.specs.Lengths.{size_of, with_bytes}
use Rattle.file_tree.specs.Removing as removing
use Rattle.file_tree.specs.Working as working
use Rattle.file_tree.specs.declared.state.FileTree.{FileTree}
use Rattle.tree_laws.specs.Changing.{EmptiedFileKeepsSound, EndKeepsSound, LengthKeepsSound, TimesKeepSound, UnlockingKeepsSound, WorkingKeepsSound, WrittenBytesKeepSound}
use Rattle.tree_laws.specs.Sound.{IsSound, SizesSound}
use Rattle.tree_laws.specs.Views.{is_there, marked}
use Rattle.map_lemmas.proofs.Maps.{ascending_changed, ascending_put, at_changed, at_changed_apart, at_put, at_put_apart, one_or_other, put_there}
use Rattle.tree_laws.proofs.Names.{names_stay}
use Rattle.tree_laws.proofs.NodeKinds.{kinds_stay, same_node}
use Rattle.tree_laws.proofs.Numbers.{numbers_stay}
use Rattle.tree_laws.proofs.Views.{ascending_retimed, ascending_touched, marked_retimed, marked_touched}

-- ---- what is told of nodes and bytes
pub record SameNodes (n m : List (ℕ × Node)) : Type 0 where
  pub ascend : IsAscending m
  pub marks : (k : ℕ) → marked m k ≡ marked n k

pub record SameFiles (c d : List (ℕ × List ℕ)) : Type 0 where
  pub ascend : IsAscending d
  pub there : (k : ℕ) → is_there d k ≡ is_there c k
  pub sizes : SizesSound d

pub stays : (things : ℕ) (s : FileTree) (n : List (ℕ × Node)) (c : List (ℕ × List ℕ)) (own : List (ℕ × List OwnLock)) (foreign : List ForeignLock) (w : ℕ) → IsSound things s → SameNodes s.nodes n → SameFiles s.contents c → is_there s.directories w ≡ true
    → IsSound things (record s { nodes = n; contents = c; own_locks = own; foreign_locks = foreign; working = w })
stays things s n c own foreign w sound nodes files there = record {
  ascend = record { nodes = nodes.ascend; directories = sound.ascend.directories; contents = files.ascend };
  kinds = kinds_stay s (record s { nodes = n; contents = c; own_locks = own; foreign_locks = foreign; working = w }) sound.kinds (λ k. record { node = same_node s.nodes n k (nodes.marks k); directory = refl; content = files.there k });
  numbers = numbers_stay things s.numbers s.nodes n sound.numbers (λ k h. sym (same_node s.nodes n k (nodes.marks k)) ∙ h);
  positions = sound.positions;
  root = sound.root;
  names = names_stay s.nodes n s.directories nodes.marks sound.names;
  reach = sound.reach;
  sizes = files.sizes;
  working = there;
}

pub own_nodes : (things : ℕ) (s : FileTree) → IsSound things s → SameNodes s.nodes s.nodes
own_nodes things s sound = record { ascend = sound.ascend.nodes; marks = λ k. refl }

pub own_files : (things : ℕ) (s : FileTree) → IsSound things s → SameFiles s.contents s.contents
own_files things s sound = record { ascend = sound.ascend.contents; there = λ k. refl; sizes = sound.sizes }

touched_nodes : (things : ℕ) (s : FileTree) (i : ℕ) (now : TimeSpec) → IsSound things s → SameNodes s.nodes (touched s.nodes i now)
touched_nodes things s i now sound = record { ascend = ascending_touched s.nodes i now sound.ascend.nodes; marks = λ k. marked_touched s.nodes i k now }

-- ---- other bytes of a file that is there
changed_there : (t : List (ℕ × List ℕ)) (i k : ℕ) (old new : List ℕ) → at t i ≡ Some old → is_there (changed t i new) k ≡ is_there t k
changed_there t i k old new h = elim (one_or_other k i) [
  | inl same ↦ ap is_some (ap (at (changed t i new)) same ∙ at_changed t i old new h) ∙ sym (ap is_some (ap (at t) same ∙ h))
  | inr other ↦ ap is_some (at_changed_apart t k i new other)
]

changed_sizes : (t : List (ℕ × List ℕ)) (i : ℕ) (old new : List ℕ) → at t i ≡ Some old → length new ≤ most_file_bytes → SizesSound t → SizesSound (changed t i new)
changed_sizes t i old new h fits all k b g = elim (one_or_other k i) [
  | inl same ↦ (let both : Some new ≡ Some b = sym (ap (at (changed t i new)) same ∙ at_changed t i old new h) ∙ g in let one : new ≡ b = cc in subst (λ (x : List ℕ). length x ≤ most_file_bytes) one fits)
  | inr other ↦ all k b (sym (at_changed_apart t k i new other) ∙ g)
]

pub changed_files : (t : List (ℕ × List ℕ)) (i : ℕ) (old new : List ℕ) → at t i ≡ Some old → length new ≤ most_file_bytes → SameFiles t t → SameFiles t (changed t i new)
changed_files t i old new h fits same = record {
  ascend = ascending_changed t i new same.ascend;
  there = λ k. changed_there t i k old new h;
  sizes = changed_sizes t i old new h fits same.sizes;
}

length_resized : (xs : List ℕ) (n : ℕ) → length (resized xs n) ≡ n
length_resized xs n = grind (arith, common_steps)

written_fits : (xs : List ℕ) (start : ℕ) (bytes : List ℕ) (most : ℕ) → start + length bytes ≤ most → length xs ≤ most → length (written xs start bytes) ≤ most
unfolding written
written_fits xs start bytes most end whole =
    let rest : List ℕ = drop (start + length bytes) xs in
    omega (arith, length-append (resized xs start) (bytes ++ rest), length-append bytes rest, length_resized xs start, length-drop (start + length bytes) xs)

resized_fits : (xs : List ℕ) (n most : ℕ) → n ≤ most → length (resized xs n) ≤ most
resized_fits xs n most le = omega (arith, length_resized xs n)

overwritten_case : (t : List (ℕ × List ℕ)) (i start : ℕ) (bytes : List ℕ) (o : Option (List ℕ)) → at t i ≡ o → start + length bytes ≤ most_file_bytes → SameFiles t t → SameFiles t (overwritten_as t i start bytes o)
overwritten_case t i start bytes None h fits same = same
overwritten_case t i start bytes (Some content) h fits same = changed_files t i content (written content start bytes) h (written_fits content start bytes most_file_bytes fits (same.sizes i content h)) same

pub overwritten_files : (t : List (ℕ × List ℕ)) (i start : ℕ) (bytes : List ℕ) → start + length bytes ≤ most_file_bytes → SameFiles t t → SameFiles t (overwritten t i start bytes)
unfolding overwritten
overwritten_files t i start bytes fits same = overwritten_case t i start bytes (at t i) refl fits same

relengthened_case : (t : List (ℕ × List ℕ)) (i n : ℕ) (o : Option (List ℕ)) → at t i ≡ o → n ≤ most_file_bytes → SameFiles t t → SameFiles t (relengthened_as t i n o)
relengthened_case t i n None h fits same = same
relengthened_case t i n (Some content) h fits same = changed_files t i content (resized content n) h (resized_fits content n most_file_bytes fits) same

relengthened_files : (t : List (ℕ × List ℕ)) (i n : ℕ) → n ≤ most_file_bytes → SameFiles t t → SameFiles t (relengthened t i n)
unfolding relengthened
relengthened_files t i n fits same = relengthened_case t i n (at t i) refl fits same

-- ---- the operations
pub written_bytes_keep_sound : WrittenBytesKeepSound
unfolding lengths.with_written
written_bytes_keep_sound things s now inode start bytes sound fits =
    stays things s (touched s.nodes inode now) (overwritten s.contents inode start bytes) s.own_locks s.foreign_locks s.working sound (touched_nodes things s inode now sound) (overwritten_files s.contents inode start bytes fits (own_files things s sound)) sound.working

pub with_bytes_sound : (things : ℕ) (s : FileTree) (inode start : ℕ) (bytes : List ℕ) → IsSound things s → start + length bytes ≤ most_file_bytes → IsSound things (with_bytes s inode start bytes)
with_bytes_sound things s inode start bytes sound fits =
    stays things s s.nodes (overwritten s.contents inode start bytes) s.own_locks s.foreign_locks s.working sound (own_nodes things s sound) (overwritten_files s.contents inode start bytes fits (own_files things s sound)) sound.working

pub locks_keep_sound : (things : ℕ) (s : FileTree) (own : List (ℕ × List OwnLock)) (foreign : List ForeignLock) → IsSound things s → IsSound things (record s { own_locks = own; foreign_locks = foreign })
locks_keep_sound things s own foreign sound = stays things s s.nodes s.contents own foreign s.working sound (own_nodes things s sound) (own_files things s sound) sound.working

file_there : (n d c : Bool) → n ≡ (d || c) → n ≡ true → d ≡ false → c ≡ true
file_there n true c h there none = absurd (let x : true ≡ false = none in cc)
file_there n false c h there none = sym h ∙ there

emptied_there : (t : List (ℕ × List ℕ)) (i k : ℕ) → is_there t i ≡ true → is_there (put t i []) k ≡ is_there t k
emptied_there t i k there = elim (one_or_other k i) [
  | inl same ↦ ap is_some (ap (at (put t i [])) same ∙ at_put t i []) ∙ sym (ap (is_there t) same ∙ there)
  | inr other ↦ ap is_some (at_put_apart t k i [] other)
]

nothing_fits : length {A = ℕ} [] ≤ most_file_bytes
nothing_fits = omega arith

emptied_sizes : (t : List (ℕ × List ℕ)) (i : ℕ) → SizesSound t → SizesSound (put t i [])
emptied_sizes t i all k b h = elim (put_there t i k [] b h) [
  | inl here ↦ subst (λ (x : List ℕ). length x ≤ most_file_bytes) here.1 nothing_fits
  | inr old ↦ all k b old
]

pub emptied_file_keeps_sound : EmptiedFileKeepsSound
unfolding lengths.emptied
emptied_file_keeps_sound things s inode sound node file =
    let there : is_there s.contents inode ≡ true = file_there (is_there s.nodes inode) (is_there s.directories inode) (is_there s.contents inode) (sound.kinds.some inode) node file in
    stays things s s.nodes (put s.contents inode []) s.own_locks s.foreign_locks s.working sound (own_nodes things s sound)
    (record { ascend = ascending_put s.contents inode [] sound.ascend.contents; there = λ k. emptied_there s.contents inode k there; sizes = emptied_sizes s.contents inode sound.sizes }) sound.working

pub length_keeps_sound : LengthKeepsSound
unfolding lengths.with_length
length_keeps_sound things s now inode n sound fits =
    stays things s (touched s.nodes inode now) (relengthened s.contents inode n) s.own_locks s.foreign_locks s.working sound (touched_nodes things s inode now sound) (relengthened_files s.contents inode n fits (own_files things s sound)) sound.working

end_case : (things : ℕ) (s : FileTree) (inode end : ℕ) (b c : Bool) → IsSound things s → end ≤ most_file_bytes → IsSound things (cond b (cond c (record s { contents = relengthened s.contents inode end }) s) s)
end_case things s inode end true true sound fits = stays things s s.nodes (relengthened s.contents inode end) s.own_locks s.foreign_locks s.working sound (own_nodes things s sound) (relengthened_files s.contents inode end fits (own_files things s sound)) sound.working
end_case things s inode end true false sound fits = sound
end_case things s inode end false c sound fits = sound

pub end_keeps_sound : EndKeepsSound
unfolding lengths.with_end
end_keeps_sound things s raises inode end sound fits = end_case things s inode end raises (nat_lt (size_of s inode) end) sound fits

pub times_keep_sound : TimesKeepSound
unfolding lengths.retimed
times_keep_sound things s inode now times sound =
    stays things s _ s.contents s.own_locks s.foreign_locks s.working sound (record { ascend = ascending_retimed s.nodes inode now times sound.ascend.nodes; marks = λ k. marked_retimed s.nodes inode k now times }) (own_files things s sound) sound.working

pub unlocking_keeps_sound : UnlockingKeepsSound
unfolding removing.without_locks_on
unlocking_keeps_sound things s inode sound = locks_keep_sound things s (removed s.own_locks inode) s.foreign_locks sound

pub working_keeps_sound : WorkingKeepsSound
unfolding working.with_working
working_keeps_sound things s inode sound directory = stays things s s.nodes s.contents s.own_locks s.foreign_locks inode sound (own_nodes things s sound) (own_files things s sound) directory
