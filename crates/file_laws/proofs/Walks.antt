-- The steps of a path, after one directory got the name of a new directory.
use Rattle.std.proofs.Common.{◌≡◌, ◌≢◌, ◌∙◌, ℕ, ◌+◌, nat_lt, Bool, true, false, List, [], ◌∷◌, length, cond, Option, Some, None, is_some, ok_or, Ok, refl, ap, sym, subst, inl, inr}
use Rattle.std.specs.Option.{option_map}
use Rattle.kernel_values.specs.Outcome.{◌>>=◌}
use Rattle.kernel_values.specs.declared.errno.Errno.{Errno}
use Rattle.kernel_values.specs.declared.errno.Errno.TheVariants.{NameTooLong, NoEntry, NotDirectory}
use Rattle.number_maps.specs.NumberMap.{at}
use Rattle.file_tables.specs.Contained.{with_next}
use Rattle.file_tables.specs.Directories.{child_of, entry_at, is_dot, is_dot_dot, step, walk}
use Rattle.file_tables.specs.Entries.{named}
use Rattle.file_tables.specs.declared.state.Directory.{Directory}
use Rattle.file_tables.specs.declared.state.Entry.{Entry}
use Rattle.file_laws.proofs.Entries.{named_stays, named_there}
use Rattle.map_lemmas.proofs.Maps.{one_or_other}
use Rattle.map_lemmas.proofs.Steps.{both_answered, not_refused, same_value}

-- a directory got the name of a new directory
pub record Grew (dirs more : List (ℕ × Directory)) (place : ℕ) (name : List ℕ) (inode : ℕ) (d : Directory) : Type 0 where
  pub there : at dirs place ≡ Some d
  pub unused : at dirs inode ≡ None
  pub missing : named d.names name ≡ None
  pub vacant : at d.names (d.last + 1) ≡ None
  pub grown : at more place ≡ Some (with_next d name inode)
  pub made : is_some (at more inode) ≡ true
  pub others : (q : ℕ) → q ≢ place → q ≢ inode → at more q ≡ at dirs q

pub found : {V : Type 0} (o : Option V) (e : Errno) (v : V) → ok_or o e ≡ Ok v → o ≡ Some v
found None e v h = cc
found (Some w) e v h = ap Some (same_value w v h)

not_both : {X : Type 0} (o : Option X) (x : X) → o ≡ None → o ≡ Some x → ⊥
not_both o x none some = cc

pub apart_by : {X : Type 0} (t : List (ℕ × X)) (q k : ℕ) (x : X) → at t q ≡ Some x → at t k ≡ None → q ≢ k
apart_by t q k x some none same = absurd (not_both (at t k) x none (ap (at t) (sym same) ∙ some))

child_case : (b c : Bool) (here parent j : ℕ) (o new : Option (ℕ × Entry)) → ((x : ℕ × Entry) → o ≡ Some x → new ≡ Some x) → cond b (Some here) (cond c (Some parent) (option_map (λ (e : ℕ × Entry). e.1.child) o)) ≡ Some j → cond b (Some here) (cond c (Some parent) (option_map (λ (e : ℕ × Entry). e.1.child) new)) ≡ Some j
child_case true c here parent j o new stays h = h
child_case false true here parent j o new stays h = h
child_case false false here parent j None new stays h = cc
child_case false false here parent j (Some x) new stays h = rw (stays x refl) h

child_stays : (d : Directory) (here inode j : ℕ) (name n : List ℕ) → named d.names name ≡ None → at d.names (d.last + 1) ≡ None → child_of d here n ≡ Some j → child_of (with_next d name inode) here n ≡ Some j
unfolding child_of
child_stays d here inode j name n missing vacant h =
    child_case (is_dot n) (is_dot_dot n) here d.parent j (named d.names n) (named (with_next d name inode).names n) (λ x found. named_stays d.names (d.last + 1) (record { name = name; child = inode }) n x missing vacant found) h

none_case : (b c : Bool) (here parent : ℕ) (o : Option (ℕ × Entry)) → cond b (Some here) (cond c (Some parent) (option_map (λ (e : ℕ × Entry). e.1.child) o)) ≡ None → (b ≡ false) × (c ≡ false) × (o ≡ None)
none_case true c here parent o h = cc
none_case false true here parent o h = cc
none_case false false here parent None h = (refl, refl, refl)
none_case false false here parent (Some x) h = cc

child_missing : (d : Directory) (here : ℕ) (n : List ℕ) → child_of d here n ≡ None → (is_dot n ≡ false) × (is_dot_dot n ≡ false) × (named d.names n ≡ None)
unfolding child_of
child_missing d here n h = none_case (is_dot n) (is_dot_dot n) here d.parent (named d.names n) h

pub child_new : (d : Directory) (here inode : ℕ) (n : List ℕ) → child_of d here n ≡ None → at d.names (d.last + 1) ≡ None → child_of (with_next d n inode) here n ≡ Some inode
unfolding child_of
child_new d here inode n h vacant =
    let m = child_missing d here n h in
    rw (m.0, m.1, named_there d.names (d.last + 1) (record { name = n; child = inode }) m.2 vacant) refl

-- ---- a name that isn't there yet, and then is
pub record Missing (dirs : List (ℕ × Directory)) (place : ℕ) (name : List ℕ) : Type 0 where
  pub holder : Directory
  pub there : at dirs place ≡ Some holder
  pub missing : child_of holder place name ≡ None
  pub steps : (more : List (ℕ × Directory)) (d : Directory) (j : ℕ) → at more place ≡ Some d → child_of d place name ≡ Some j → entry_at more place name ≡ Ok (Some j)

pub entry_missing : (dirs : List (ℕ × Directory)) (place : ℕ) (name : List ℕ) → entry_at dirs place name ≡ Ok None → Missing dirs place name
unfolding entry_at
entry_missing dirs place [] h = let inner = same_value {A = Option ℕ} (Some place) None h in absurd (cc)
entry_missing dirs place (b ∷ bs) h =
    let small = not_refused (nat_lt 255 (length (b ∷ bs))) NameTooLong (ok_or (at dirs place) NotDirectory >>= λ d. Ok (child_of d place (b ∷ bs))) None h in
    let holder = both_answered (ok_or (at dirs place) NotDirectory) (λ d. Ok (child_of d place (b ∷ bs))) None small.1 in
    record {
      holder = holder.0;
      there = found (at dirs place) NotDirectory holder.0 holder.1;
      missing = same_value (child_of holder.0 place (b ∷ bs)) None holder.2;
      steps = λ more d j there child. rw (small.0, there, child) refl;
    }

pub name_missing : (d : Directory) (here : ℕ) (n : List ℕ) → child_of d here n ≡ None → named d.names n ≡ None
name_missing d here n h = (child_missing d here n h).2

-- ---- what a path met is met again
module _ (dirs more : List (ℕ × Directory)) (place : ℕ) (name : List ℕ) (inode : ℕ) (d : Directory) (g : Grew dirs more place name inode d) where
  child_after : (q j : ℕ) (n : List ℕ) (x : Directory) → at dirs q ≡ Some x → child_of x q n ≡ Some j → (y : Directory) × (at more q ≡ Some y) × (child_of y q n ≡ Some j)
  child_after q j n x there child = elim (one_or_other q place) [
    | inl same ↦ (
        let both : Some x ≡ Some d = sym there ∙ (ap (at dirs) same ∙ g.there) in
        let x_is_d : x ≡ d = cc in
        let old : child_of d q n ≡ Some j = subst (λ (z : Directory). child_of z q n ≡ Some j) x_is_d child in
        (with_next d name inode, ap (at more) same ∙ g.grown, child_stays d q inode j name n g.missing g.vacant old))
    | inr other ↦ (x, g.others q other (apart_by dirs q inode x there g.unused) ∙ there, child)
  ]

  entry_stays : (q j : ℕ) (n : List ℕ) → entry_at dirs q n ≡ Ok (Some j) → entry_at more q n ≡ Ok (Some j)
  unfolding entry_at
  entry_stays q j [] h = h
  entry_stays q j (b ∷ bs) h =
      let small = not_refused (nat_lt 255 (length (b ∷ bs))) NameTooLong (ok_or (at dirs q) NotDirectory >>= λ x. Ok (child_of x q (b ∷ bs))) (Some j) h in
      let holder = both_answered (ok_or (at dirs q) NotDirectory) (λ x. Ok (child_of x q (b ∷ bs))) (Some j) small.1 in
      let next = child_after q j (b ∷ bs) holder.0 (found (at dirs q) NotDirectory holder.0 holder.1) (same_value (child_of holder.0 q (b ∷ bs)) (Some j) holder.2) in
      rw (small.0, next.1, next.2) refl

  step_stays : (q j : ℕ) (n : List ℕ) → step dirs q n ≡ Ok j → step more q n ≡ Ok j
  unfolding step
  step_stays q j n h =
      let met = both_answered (entry_at dirs q n) (λ o. ok_or o NoEntry) j h in
      rw (entry_stays q j n (met.1 ∙ ap (λ (o : Option ℕ). Ok o) (found met.0 NoEntry j met.2))) refl

  pub walk_stays : (q : ℕ) (n : List ℕ) (ns : List (List ℕ)) (l : ℕ × List ℕ) → walk dirs q n ns ≡ Ok l → walk more q n ns ≡ Ok l
  unfolding walk
  walk_stays q n [] l h = h
  walk_stays q n (m ∷ ms) l h =
      let next = both_answered (step dirs q n) (λ p. walk dirs p m ms) l h in
      rw (step_stays q next.0 n next.1) (walk_stays next.0 m ms l next.2)

  pub directory_stays : (q : ℕ) → is_some (at dirs q) ≡ true → is_some (at more q) ≡ true
  directory_stays q h = elim (one_or_other q place) [
    | inl same ↦ rw (same, g.grown) refl
    | inr other ↦ elim (one_or_other q inode) [
      | inl same ↦ rw same g.made
      | inr apart ↦ ap is_some (g.others q other apart) ∙ h
    ]
  ]
