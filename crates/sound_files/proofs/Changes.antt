-- What operations of the tree leave of what open files need.
use Rattle.std.proofs.Common.{◌≡◌, ◌≢◌, ◌∙◌, ℕ, ◌≤◌, Bool, true, false, nat_lt, List, [], cond, Option, Some, None, is_some, inl, inr, refl, ap, sym, arith}
use Rattle.kernel_values.specs.declared.status.FileTimes.{FileTimes}
use Rattle.kernel_values.specs.declared.times.TimeSpec.{TimeSpec}
use Rattle.number_maps.specs.NumberMap.{IsAscending, at, put, removed}
use Rattle.file_tables.specs.Contained.{empty_directory}
use Rattle.file_tables.specs.Nodes.{nameless, nameless_as, touched, touched_as}
use Rattle.file_tables.specs.Numbers.{given, new_number}
use Rattle.file_tables.specs.declared.state.Node.{Node}
use Rattle.file_tree.specs.Lengths.{emptied, retimed, size_of, with_bytes, with_end, with_length, with_written}
use Rattle.file_tree.specs.Contents.{relengthened}
use Rattle.file_tree.specs.Making.{directory_mode, file_mode, made_node, next_inode, with_directory, with_file, with_inode_given, with_name}
use Rattle.file_tree.specs.Removing.{unnamed, without_directory, without_locks_on, without_name}
use Rattle.file_tree.specs.Working.{with_working}
use Rattle.file_tree.specs.declared.state.FileTree.{FileTree}
use Rattle.file_tree.specs.declared.state.Maker.{Maker}
use Rattle.open_files.specs.Holding.{is_open}
use Rattle.open_files.specs.declared.state.OpenFile.{OpenFile}
use Rattle.open_laws.specs.Sound.{is_there}
use Rattle.map_lemmas.proofs.Maps.{ascending_put, at_put, at_put_apart, at_removed_apart, every_removed, one_or_other}
use Rattle.sound_files.specs.Sound.{IsFresh}
use Rattle.sound_files.proofs.Trees.{IsNameless, Suits}
use Rattle.sound_files.proofs.Views.{SameInodes, SameNodes, entered_there, left_there, overwritten_there, relengthened_there, retimed_same, same_nodes, touched_same}

-- ---- what changes bytes, times, names and locks alone
pub written_same : (t : FileTree) (now : TimeSpec) (i start : ℕ) (bytes : List ℕ) → SameInodes t (with_written t now i start bytes)
unfolding with_written
written_same t now i start bytes = record { nodes = touched_same t.nodes i now; directories = λ q. refl; contents = overwritten_there t.contents i start bytes; numbers = refl }

pub bytes_same : (t : FileTree) (i start : ℕ) (bytes : List ℕ) → SameInodes t (with_bytes t i start bytes)
bytes_same t i start bytes = record { nodes = same_nodes t.nodes; directories = λ q. refl; contents = overwritten_there t.contents i start bytes; numbers = refl }

pub length_same : (t : FileTree) (now : TimeSpec) (i n : ℕ) → SameInodes t (with_length t now i n)
unfolding with_length
length_same t now i n = record { nodes = touched_same t.nodes i now; directories = λ q. refl; contents = relengthened_there t.contents i n; numbers = refl }

pub all_same : (t : FileTree) → SameInodes t t
all_same t = record { nodes = same_nodes t.nodes; directories = λ q. refl; contents = λ q. refl; numbers = refl }

end_case : (t : FileTree) (i end : ℕ) (raises longer : Bool) → SameInodes t (cond raises (cond longer (record t { contents = relengthened t.contents i end }) t) t)
end_case t i end true true = record { nodes = same_nodes t.nodes; directories = λ q. refl; contents = relengthened_there t.contents i end; numbers = refl }
end_case t i end true false = all_same t
end_case t i end false longer = all_same t

pub end_same : (t : FileTree) (raises : Bool) (i end : ℕ) → SameInodes t (with_end t raises i end)
unfolding with_end
end_same t raises i end = end_case t i end raises (nat_lt (size_of t i) end)

pub times_same : (t : FileTree) (i : ℕ) (now : TimeSpec) (times : Option FileTimes) → SameInodes t (retimed t i now times)
unfolding retimed
times_same t i now times = record { nodes = retimed_same t.nodes i now times; directories = λ q. refl; contents = λ q. refl; numbers = refl }

pub working_same : (t : FileTree) (i : ℕ) → SameInodes t (with_working t i)
unfolding with_working
working_same t i = record { nodes = same_nodes t.nodes; directories = λ q. refl; contents = λ q. refl; numbers = refl }

pub unlocked_same : (t : FileTree) (i : ℕ) → SameInodes t (without_locks_on t i)
unfolding without_locks_on
unlocked_same t i = record { nodes = same_nodes t.nodes; directories = λ q. refl; contents = λ q. refl; numbers = refl }

pub name_same : (t : FileTree) (now : TimeSpec) (l : ℕ × List ℕ) (i : ℕ) → SameInodes t (with_name t now l i)
name_same t now l i = record { nodes = touched_same t.nodes l.0 now; directories = entered_there t.directories l.0 l.1 i; contents = λ q. refl; numbers = refl }

pub unname_same : (t : FileTree) (now : TimeSpec) (l : ℕ × List ℕ) → SameInodes t (without_name t now l)
unfolding without_name
unname_same t now l = record { nodes = touched_same t.nodes l.0 now; directories = left_there t.directories l.0 l.1; contents = λ q. refl; numbers = refl }

emptied_there : (t : List (ℕ × List ℕ)) (i : ℕ) → is_there t i ≡ true → (q : ℕ) → is_there (put t i []) q ≡ is_there t q
emptied_there t i there q = elim (one_or_other q i) [
  | inl e ↦ ap (λ (k : ℕ). is_some (at (put t i []) k)) e ∙ ap (λ (o : Option (List ℕ)). is_some o) (at_put t i []) ∙ sym (ap (λ (k : ℕ). is_some (at t k)) e ∙ there)
  | inr other ↦ ap (λ (o : Option (List ℕ)). is_some o) (at_put_apart t q i [] other)
]

pub emptied_same : (t : FileTree) (i : ℕ) → is_there t.contents i ≡ true → SameInodes t (emptied t i)
unfolding emptied
emptied_same t i there = record { nodes = same_nodes t.nodes; directories = λ q. refl; contents = emptied_there t.contents i there; numbers = refl }

-- nodes still ascend
touched_ascends_case : (t : List (ℕ × Node)) (q : ℕ) (now : TimeSpec) (o : Option Node) → IsAscending t → IsAscending (touched_as t q now o)
touched_ascends_case t q now None s = s
touched_ascends_case t q now (Some n) s = ascending_put t q (record n { attributes = record n.attributes { modified = now; changed = now } }) s

pub touched_ascends : (t : List (ℕ × Node)) (q : ℕ) (now : TimeSpec) → IsAscending t → IsAscending (touched t q now)
unfolding touched
touched_ascends t q now s = touched_ascends_case t q now (at t q) s

pub unname_ascends : (t : FileTree) (now : TimeSpec) (l : ℕ × List ℕ) → IsAscending t.nodes → IsAscending (without_name t now l).nodes
unfolding without_name
unname_ascends t now l s = touched_ascends t.nodes l.0 now s

-- ---- what is made
module _ {V : Type 0} (t u : List (ℕ × V)) (i : ℕ) (v : V) (q : ℕ) where
  there_apart : q ≢ i → is_there u q ≡ is_there t q → is_there (put u i v) q ≡ is_there t q
  there_apart other same = ap (λ (o : Option V). is_some o) (at_put_apart u q i v other) ∙ same

module _ (files : List (ℕ × OpenFile)) (t : FileTree) (i : ℕ) (fresh : IsFresh t i) (closed : is_open files i ≡ false) where
  pub other_open : (q : ℕ) → is_open files q ≡ true → q ≢ i
  other_open q h same = let e : is_open files i ≡ true = ap (is_open files) (sym same) ∙ h in cc

  made_nameless : (nodes : List (ℕ × Node)) (n : Node) → SameNodes t.nodes nodes → n.has_name ≡ true → (q : ℕ) (m : Node) → at (put nodes i n) q ≡ Some m → m.has_name ≡ false → IsNameless t q
  made_nameless nodes n same named q m h none = elim (one_or_other q i) [
    | inl e ↦ absurd (
        let both : Some n ≡ Some m = sym (ap (at (put nodes i n)) e ∙ at_put nodes i n) ∙ h in
        let is : n ≡ m = cc in
        let clash : true ≡ false = sym named ∙ ap (λ (x : Node). x.has_name) is ∙ none in
        cc
        )
    | inr other ↦ (let old = same.marks q m (sym (at_put_apart nodes q i n other) ∙ h) in record { node = old.0; there = old.1; nameless = old.2 ∙ none })
  ]

file_suits : (files : List (ℕ × OpenFile)) (t : FileTree) (m : Maker) (l : ℕ × List ℕ) (mode : ℕ) → IsFresh t (new_number t.numbers) → is_open files (new_number t.numbers) ≡ false → Suits files t (with_file t m l mode)
unfolding with_file given
file_suits files t m l mode fresh closed =
    let i : ℕ = new_number t.numbers in
    let e : FileTree = with_name t m.time l i in
    record {
      same = λ q h. (let other : q ≢ i = other_open files t i fresh closed q h in record {
        nodes = there_apart t.nodes e.nodes i (made_node m (file_mode mode)) q other ((touched_same t.nodes l.0 m.time).there q);
        directories = entered_there t.directories l.0 l.1 i q;
        contents = there_apart t.contents t.contents i [] q other refl;
        image = refl;
        next = (let a : t.numbers.next ≤ i = fresh.above in omega arith);
      });
      nameless = λ q h. inl (made_nameless files t i fresh closed e.nodes (made_node m (file_mode mode)) (touched_same t.nodes l.0 m.time) refl q h.node h.there h.nameless);
    }

pub with_file_suits : (files : List (ℕ × OpenFile)) (t : FileTree) (m : Maker) (l : ℕ × List ℕ) (mode : ℕ) → IsFresh t (next_inode t) → is_open files (next_inode t) ≡ false → Suits files t (with_file t m l mode)
unfolding next_inode
with_file_suits files t m l mode fresh closed = file_suits files t m l mode fresh closed

directory_suits : (files : List (ℕ × OpenFile)) (t : FileTree) (m : Maker) (l : ℕ × List ℕ) (mode : ℕ) → IsFresh t (new_number t.numbers) → is_open files (new_number t.numbers) ≡ false → Suits files t (with_directory t m l mode)
unfolding with_directory given
directory_suits files t m l mode fresh closed =
    let i : ℕ = new_number t.numbers in
    let e : FileTree = with_name t m.time l i in
    record {
      same = λ q h. (let other : q ≢ i = other_open files t i fresh closed q h in record {
        nodes = there_apart t.nodes e.nodes i (made_node m (directory_mode mode)) q other ((touched_same t.nodes l.0 m.time).there q);
        directories = there_apart t.directories e.directories i (empty_directory l.0) q other (entered_there t.directories l.0 l.1 i q);
        contents = refl;
        image = refl;
        next = (let a : t.numbers.next ≤ i = fresh.above in omega arith);
      });
      nameless = λ q h. inl (made_nameless files t i fresh closed e.nodes (made_node m (directory_mode mode)) (touched_same t.nodes l.0 m.time) refl q h.node h.there h.nameless);
    }

pub with_directory_suits : (files : List (ℕ × OpenFile)) (t : FileTree) (m : Maker) (l : ℕ × List ℕ) (mode : ℕ) → IsFresh t (next_inode t) → is_open files (next_inode t) ≡ false → Suits files t (with_directory t m l mode)
unfolding next_inode
with_directory_suits files t m l mode fresh closed = directory_suits files t m l mode fresh closed

number_suits : (files : List (ℕ × OpenFile)) (t : FileTree) → IsFresh t (new_number t.numbers) → Suits files t (with_inode_given t)
unfolding with_inode_given given
number_suits files t fresh = record {
  same = λ q h. record { nodes = refl; directories = refl; contents = refl; image = refl; next = (let a : t.numbers.next ≤ new_number t.numbers = fresh.above in omega arith) };
  nameless = λ q h. inl (record { node = h.node; there = h.there; nameless = h.nameless });
}

pub given_suits : (files : List (ℕ × OpenFile)) (t : FileTree) → IsFresh t (next_inode t) → Suits files t (with_inode_given t)
unfolding next_inode
given_suits files t fresh = number_suits files t fresh

-- ---- what goes
module _ (files : List (ℕ × OpenFile)) (t : FileTree) (i : ℕ) (ascend : IsAscending t.nodes) where
  removed_there : {V : Type 0} (m : List (ℕ × V)) (q : ℕ) → q ≢ i → is_there (removed m i) q ≡ is_there m q
  removed_there {V} m q other = ap (λ (o : Option V). is_some o) (at_removed_apart m q i other)

  closed_other : is_open files i ≡ false → (q : ℕ) → is_open files q ≡ true → q ≢ i
  closed_other closed q h same = let e : is_open files i ≡ true = ap (is_open files) (sym same) ∙ h in cc

  removed_nameless : (q : ℕ) (n : Node) → at (removed t.nodes i) q ≡ Some n → (q ≢ i) × (at t.nodes q ≡ Some n)
  removed_nameless q n h = every_removed (λ k w. (k ≢ i) × (at t.nodes k ≡ Some w)) t.nodes i ascend (λ k w other g. (other, g)) q n h

  pub gone_suits : is_open files i ≡ false → Suits files t (record t { nodes = removed t.nodes i; contents = removed t.contents i })
  gone_suits closed = record {
    same = λ q h. (let other : q ≢ i = closed_other closed q h in record { nodes = removed_there t.nodes q other; directories = refl; contents = removed_there t.contents q other; image = refl; next = omega arith });
    nameless = λ q h. inl (record { node = h.node; there = (removed_nameless q h.node h.there).1; nameless = h.nameless });
  }

  pub without_directory_suits : is_open files i ≡ false → Suits files t (without_directory t i)
  unfolding without_directory
  without_directory_suits closed = record {
    same = λ q h. (let other : q ≢ i = closed_other closed q h in record { nodes = removed_there t.nodes q other; directories = removed_there t.directories q other; contents = refl; image = refl; next = omega arith });
    nameless = λ q h. inl (record { node = h.node; there = (removed_nameless q h.node h.there).1; nameless = h.nameless });
  }

nameless_there : (t : List (ℕ × Node)) (i : ℕ) (o : Option Node) → at t i ≡ o → (q : ℕ) → is_there (nameless_as t i o) q ≡ is_there t q
nameless_there t i None h q = refl
nameless_there t i (Some n) h q = elim (one_or_other q i) [
  | inl e ↦ ap (λ (k : ℕ). is_some (at (put t i (record n { has_name = false })) k)) e ∙ ap (λ (o : Option Node). is_some o) (at_put t i (record n { has_name = false })) ∙ sym (ap (λ (k : ℕ). is_some (at t k)) e ∙ ap (λ (o : Option Node). is_some o) h)
  | inr other ↦ ap (λ (o : Option Node). is_some o) (at_put_apart t q i (record n { has_name = false }) other)
]

nameless_apart : (t : List (ℕ × Node)) (i : ℕ) (o : Option Node) (q : ℕ) → q ≢ i → at (nameless_as t i o) q ≡ at t q
nameless_apart t i None q other = refl
nameless_apart t i (Some n) q other = at_put_apart t q i (record n { has_name = false }) other

held_suits : (files : List (ℕ × OpenFile)) (t : FileTree) (i : ℕ) → is_open files i ≡ true → Suits files t (record t { nodes = nameless t.nodes i })
unfolding nameless
held_suits files t i held = record {
  same = λ q h. record { nodes = nameless_there t.nodes i (at t.nodes i) refl q; directories = refl; contents = refl; image = refl; next = omega arith };
  nameless = λ q h. elim (one_or_other q i) [
    | inl e ↦ inr (ap (is_open files) e ∙ held)
    | inr other ↦ inl (record { node = h.node; there = sym (nameless_apart t.nodes i (at t.nodes i) q other) ∙ h.there; nameless = h.nameless })
  ];
}

unnamed_case : (files : List (ℕ × OpenFile)) (t : FileTree) (i : ℕ) (held : Bool) → IsAscending t.nodes → is_open files i ≡ held → Suits files t (cond held (record t { nodes = nameless t.nodes i }) (record t { nodes = removed t.nodes i; contents = removed t.contents i }))
unnamed_case files t i true s h = held_suits files t i h
unnamed_case files t i false s h = gone_suits files t i s h

pub unnamed_suits : (files : List (ℕ × OpenFile)) (t : FileTree) (i : ℕ) (held : Bool) → IsAscending t.nodes → is_open files i ≡ held → Suits files t (unnamed t i held)
unfolding unnamed
unnamed_suits files t i held s h = unnamed_case files t i held s h
