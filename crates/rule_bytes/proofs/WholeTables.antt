-- Whole tables: bytes are read as a table exactly where they spell one that is linked.
use Rattle.std.proofs.Common.{◌≡◌, ℕ, zero, suc, ◌<◌, not, Bool, true, false, List, [], ◌∷◌, length, get_or, Option, Result, Ok, refl, sym, ap, ◌∙◌, subst, arith, eqb, eqb-true, eq-eqb, inl, inr, true≢false}
use Rattle.std.specs.List.{AllByRecursion, list_all}
use Rattle.std.proofs.lemmas.Bool.{and_from, and_parts, cases_lt, not-false}
use Rattle.std.proofs.lemmas.List.{get_or_past}
use Rattle.kernel_values.specs.declared.rules.BlobCause.{BlobCause}
use Rattle.kernel_values.specs.declared.rules.BlobCause.TheVariants as cause
use Rattle.kernel_values.specs.declared.rules.BlobFault.{BlobFault}
use Rattle.rule_bytes.specs.declared.layout.BlobLayout.{BlobLayout}
use Rattle.kernel_values.specs.declared.rules.RuleTarget.{RuleTarget}
use Rattle.kernel_values.specs.declared.rules.RuleTarget.TheVariants as target_of
use Rattle.rule_bytes.specs.declared.tables.ReplaceHeader.{ReplaceHeader}
use Rattle.kernel_values.specs.declared.rules.TableName.{TableName}
use Rattle.rule_bytes.specs.Faults.{◌>>=◌, ◌>>◌, refused_if, found_or}
use Rattle.rule_bytes.specs.Spelling.{Spells}
use Rattle.rule_bytes.specs.Rules.{IsBytes, IsRule, Rule, TargetFits, rules_spelling}
use Rattle.rule_bytes.specs.Reading.{rules_in, told_at}
use Rattle.rule_bytes.specs.Tables.{AreTold, IsLinked, JumpWithin, SpellsTable, Table, hook_found, hook_word, hooks_found, hooks_of, index_of, is_policy, moved, no_rule, of_hooks, placed, places, table_found, table_in, targets_found, with_jump}
use Rattle.rule_bytes.proofs.Results.{bind_at, bind_ok, found_ok, ok_is, passed, refused_ok}
use Rattle.rule_bytes.proofs.AllRules.{is_read, is_spelled}
use Rattle.rule_bytes.proofs.PlacesFound.{IsIndex, IsRising, index_again, index_found, length_moved, length_places, places_moved, places_rise, targets_again, targets_are, told_ok}

-- ---- hooks

pub hooks_are : (ps : List ℕ) (hooks : List Bool) (told is : List ℕ) → hooks_found ps hooks told ≡ Ok is
    → AreTold ps hooks told is × AllByRecursion (λ i. i < length ps) (of_hooks hooks is)
hooks_are ps [] [] is h =
    subst (λ (xs : List ℕ). AreTold ps [] [] xs × AllByRecursion (λ i. i < length ps) (of_hooks [] xs)) (ok_is [] is h) (tt, tt)
hooks_are ps [] (t ∷ told) is h = absurd cc
hooks_are ps (hook ∷ hooks) [] is h = absurd cc
hooks_are ps (true ∷ hooks) (t ∷ told) is h =
    let others : Result (List ℕ) BlobCause = hooks_found ps hooks told in
    let a = bind_ok (hook_found ps true t) (λ i. others >>= λ xs. Ok (i ∷ xs)) is h in
    let b = bind_ok others (λ xs. Ok (a.0 ∷ xs)) is a.2 in
    let f = index_found t ps a.0 (found_ok cause.Hooks (index_of t ps) a.0 a.1) in
    let g = hooks_are ps hooks told b.0 b.1 in
    subst (λ (xs : List ℕ). AreTold ps (true ∷ hooks) (t ∷ told) xs × AllByRecursion (λ i. i < length ps) (of_hooks (true ∷ hooks) xs)) (ok_is (a.0 ∷ b.0) is b.2)
    ((sym f.1, g.0), (f.0, g.1))
hooks_are ps (false ∷ hooks) (t ∷ told) is h =
    let others : Result (List ℕ) BlobCause = hooks_found ps hooks told in
    let b = bind_ok others (λ xs. Ok (0 ∷ xs)) is h in
    let g = hooks_are ps hooks told b.0 b.1 in
    subst (λ (xs : List ℕ). AreTold ps (false ∷ hooks) (t ∷ told) xs × AllByRecursion (λ i. i < length ps) (of_hooks (false ∷ hooks) xs)) (ok_is (0 ∷ b.0) is b.2)
    ((refl, g.0), g.1)

pub hooks_again : (low : ℕ) (ps : List ℕ) (hooks : List Bool) (told is : List ℕ) → IsRising low ps → AreTold ps hooks told is
    → AllByRecursion (λ i. i < length ps) (of_hooks hooks is) → hooks_found ps hooks told ≡ Ok is
hooks_again low ps [] [] [] rise h k = refl
hooks_again low ps [] [] (i ∷ is) rise h k = absurd h
hooks_again low ps [] (t ∷ told) is rise h k = absurd h
hooks_again low ps (true ∷ hooks) [] is rise h k = absurd h
hooks_again low ps (false ∷ hooks) [] is rise h k = absurd h
hooks_again low ps (true ∷ hooks) (t ∷ told) [] rise h k = absurd h
hooks_again low ps (false ∷ hooks) (t ∷ told) [] rise h k = absurd h
hooks_again low ps (true ∷ hooks) (t ∷ told) (i ∷ is) rise h k =
    let others : Result (List ℕ) BlobCause = hooks_found ps hooks told in
    let first : hook_found ps true t ≡ Ok i =
    ap (λ (n : ℕ). hook_found ps true n) h.0 ∙ ap (λ (o : Option ℕ). found_or cause.Hooks o) (index_again low ps i rise k.0) in
    bind_at (hook_found ps true t) (λ j. others >>= λ xs. Ok (j ∷ xs)) i first
    ∙ bind_at others (λ xs. Ok (i ∷ xs)) is (hooks_again low ps hooks told is rise h.1 k.1)
hooks_again low ps (false ∷ hooks) (t ∷ told) (i ∷ is) rise h k =
    let others : Result (List ℕ) BlobCause = hooks_found ps hooks told in
    bind_at others (λ xs. Ok (0 ∷ xs)) is (hooks_again low ps hooks told is rise h.1 k)
    ∙ ap (λ (n : ℕ). Ok (n ∷ is)) (sym h.0)

-- ---- lists of tests

all_pass : {X : Type 0} (p : X → Bool) (xs : List X) → list_all p xs ≡ true → AllByRecursion (λ x. p x ≡ true) xs
all_pass p [] h = tt
all_pass p (x ∷ xs) h = let c = and_parts (p x) (list_all p xs) h in (c.0, all_pass p xs c.1)

pass_all : {X : Type 0} (p : X → Bool) (xs : List X) → AllByRecursion (λ x. p x ≡ true) xs → list_all p xs ≡ true
pass_all p [] h = refl
pass_all p (x ∷ xs) h = and_from _ _ h.0 (pass_all p xs h.1)

-- a policy is a rule
policy_within : (rs : List Rule) (i : ℕ) → is_policy (get_or rs i no_rule) ≡ true → i < length rs
policy_within rs i h = elim (cases_lt i (length rs)) [
  | inl lt ↦ lt
  | inr past ↦ absurd (true≢false (sym (subst (λ (r : Rule). is_policy r ≡ true) (get_or_past rs i no_rule past) h)))
]

policies_within : (rs : List Rule) (is : List ℕ) → AllByRecursion (λ i. is_policy (get_or rs i no_rule) ≡ true) is
    → AllByRecursion (λ i. i < length rs) is
policies_within rs [] h = tt
policies_within rs (i ∷ is) h = (policy_within rs i h.0, policies_within rs is h.1)

same_within : (m n : ℕ) (is : List ℕ) → m ≡ n → AllByRecursion (λ i. i < m) is → AllByRecursion (λ i. i < n) is
same_within m n is e h = subst (λ (k : ℕ). AllByRecursion (λ i. i < k) is) e h

-- ---- jumps

first_place : (l : BlobLayout) (rs : List Rule) → get_or (places l 0 rs) 0 0 ≡ 0
first_place l [] = refl
first_place l (r ∷ rs) = refl

-- an index whose place is a jump isn't 0
jump_within : (ps : List ℕ) (n : ℕ) (t : RuleTarget) → get_or ps 0 0 ≡ 0 → length ps ≡ n → IsIndex (length ps) t
    → TargetFits (with_jump (λ i. get_or ps i 0) t) → JumpWithin n t
jump_within ps n target_of.Drop e len h k = tt
jump_within ps n target_of.Accept e len h k = tt
jump_within ps n target_of.Queue e len h k = tt
jump_within ps n target_of.Return e len h k = tt
jump_within ps n (target_of.Error bytes) e len h k = tt
jump_within ps n (target_of.Mark mark mask) e len h k = tt
jump_within ps n (target_of.Jump zero) e len h k = absurd (omega (arith, e, k.0))
jump_within ps n (target_of.Jump (suc to)) e len h k = (omega arith, omega (arith, h, len))

jumps_within : (ps : List ℕ) (n : ℕ) (ts : List Rule) → get_or ps 0 0 ≡ 0 → length ps ≡ n → AllByRecursion (λ t. IsIndex (length ps) t.target) ts
    → AllByRecursion IsRule (moved ps ts) → AllByRecursion (λ r. JumpWithin n r.target) ts
jumps_within ps n [] e len h k = tt
jumps_within ps n (t ∷ ts) e len h k =
    (jump_within ps n t.target e len h.0 k.0.target, jumps_within ps n ts e len h.1 k.1)

index_within : (m n : ℕ) (t : RuleTarget) → n ≡ m → JumpWithin n t → IsIndex m t
index_within m n target_of.Drop e h = tt
index_within m n target_of.Accept e h = tt
index_within m n target_of.Queue e h = tt
index_within m n target_of.Return e h = tt
index_within m n (target_of.Error bytes) e h = tt
index_within m n (target_of.Mark mark mask) e h = tt
index_within m n (target_of.Jump to) e h = omega (arith, h.1, e)

indices_within : (m n : ℕ) (ts : List Rule) → n ≡ m → AllByRecursion (λ r. JumpWithin n r.target) ts → AllByRecursion (λ t. IsIndex m t.target) ts
indices_within m n [] e h = tt
indices_within m n (t ∷ ts) e h = (index_within m n t.target e h.0, indices_within m n ts e h.1)

-- ---- tables

-- what a table that was read tells
pub record TableFound (l : BlobLayout) (name : TableName) (h : ReplaceHeader) (bs : List ℕ) (t : Table) : Type 0 where
  pub named : t.name ≡ name
  pub spelled : SpellsTable l h bs t
  pub linked : IsLinked t

abbrev made : TableName → List Rule → List ℕ → List ℕ → Table
made name rs entries underflows = record { name = name; rules = rs; entries = entries; underflows = underflows }

told_refused : {A : Type 0} (b : Bool) (e : BlobCause) (r : Result A BlobFault) (y : A) → (told_at 0 (refused_if b e) >> r) ≡ Ok y
    → (b ≡ false) × (r ≡ Ok y)
told_refused true e r y h = absurd cc
told_refused false e r y h = (refl, h)

told_passed : {A : Type 0} (b : Bool) (e : BlobCause) (r : Result A BlobFault) → b ≡ false → (told_at 0 (refused_if b e) >> r) ≡ r
told_passed true e r h = absurd (true≢false h)
told_passed false e r h = refl

-- what hooks that were read tell
record HooksFound (h : ReplaceHeader) (name : TableName) (ps : List ℕ) (ts : List Rule) (t : Table) : Type 0 where
  named : t.name ≡ name
  rules : t.rules ≡ ts
  hooks : h.valid_hooks ≡ hook_word t.name
  entries : AreTold ps (hooks_of t.name) h.hook_entry t.entries
  underflows : AreTold ps (hooks_of t.name) h.underflow t.underflows
  within : AllByRecursion (λ i. i < length ps) (of_hooks (hooks_of t.name) t.entries)
  policies : AllByRecursion (λ i. is_policy (get_or ts i no_rule) ≡ true) (of_hooks (hooks_of t.name) t.underflows)

hooks_found_by : (h : ReplaceHeader) (name : TableName) (ps : List ℕ) (ts : List Rule) (t : Table) → table_found h name ps ts ≡ Ok t
    → HooksFound h name ps ts t
hooks_found_by h name ps ts t read =
    let policies : List ℕ → Bool = λ us. list_all (λ i. is_policy (get_or ts i no_rule)) (of_hooks (hooks_of name) us) in
    let last : List ℕ → List ℕ → Result Table BlobCause = λ es us. refused_if (not (policies us)) cause.Hooks >> Ok (made name ts es us) in
    let behind : List ℕ → Result Table BlobCause = λ es. hooks_found ps (hooks_of name) h.underflow >>= λ us. last es us in
    let all : Result Table BlobCause = hooks_found ps (hooks_of name) h.hook_entry >>= behind in
    let a = refused_ok (not (eqb h.valid_hooks (hook_word name))) cause.Hooks all t read in
    let b = bind_ok (hooks_found ps (hooks_of name) h.hook_entry) behind t a.1 in
    let c = bind_ok (hooks_found ps (hooks_of name) h.underflow) (λ us. last b.0 us) t b.2 in
    let d = refused_ok (not (policies c.0)) cause.Hooks (Ok (made name ts b.0 c.0)) t c.2 in
    let e = hooks_are ps (hooks_of name) h.hook_entry b.0 b.1 in
    let f = hooks_are ps (hooks_of name) h.underflow c.0 c.1 in
    subst (λ (x : Table). HooksFound h name ps ts x) (ok_is (made name ts b.0 c.0) t d.1)
    (record {
      named = refl;
      rules = refl;
      hooks = eqb-true _ _ (not-false _ a.0);
      entries = e.0;
      underflows = f.0;
      within = e.1;
      policies = all_pass (λ i. is_policy (get_or ts i no_rule)) (of_hooks (hooks_of name) c.0) (not-false _ d.0);
    })

-- the same with the rules named
table_found_by : (l : BlobLayout) (name : TableName) (h : ReplaceHeader) (bs : List ℕ) (rs ts : List Rule) (t : Table)
    → IsBytes bs → rules_in l bs ≡ Ok rs → length rs ≡ h.num_entries → targets_found (places l 0 rs) 0 rs ≡ Ok ts
    → table_found h name (places l 0 rs) ts ≡ Ok t → TableFound l name h bs t
table_found_by l name h bs rs ts t fits read count jumps hooks =
    let s = is_spelled l bs rs fits read in
    let j = targets_are (places l 0 rs) 0 rs ts jumps in
    let f = hooks_found_by h name (places l 0 rs) ts t hooks in
    let same : places l 0 rs ≡ places l 0 ts =
    ap (λ (xs : List Rule). places l 0 xs) (sym j.0) ∙ places_moved l 0 (places l 0 rs) ts in
    let whole : placed l ts ≡ rs = ap (λ (ps : List ℕ). moved ps ts) (sym same) ∙ j.0 in
    let each : AllByRecursion IsRule (moved (places l 0 rs) ts) = subst (λ (xs : List Rule). AllByRecursion IsRule xs) (sym j.0) s.1 in
    let len : length (places l 0 rs) ≡ length ts = ap (λ (ps : List ℕ). length ps) same ∙ length_places l 0 ts in
    let counted : h.num_entries ≡ length ts = sym count ∙ sym (length_places l 0 rs) ∙ len in
    let spelled : SpellsTable l h bs (made t.name ts t.entries t.underflows) = record {
      rules = subst (λ (xs : List Rule). Spells bs (rules_spelling l xs)) (sym whole) s.0;
      each = subst (λ (xs : List Rule). AllByRecursion IsRule xs) (sym whole) s.1;
      count = counted;
      hooks = f.hooks;
      entries = subst (λ (ps : List ℕ). AreTold ps (hooks_of t.name) h.hook_entry t.entries) same f.entries;
      underflows = subst (λ (ps : List ℕ). AreTold ps (hooks_of t.name) h.underflow t.underflows) same f.underflows;
    } in
    let linked : IsLinked (made t.name ts t.entries t.underflows) = record {
      jumps = jumps_within (places l 0 rs) (length ts) ts (first_place l rs) len j.1 each;
      entries = same_within (length (places l 0 rs)) (length ts) (of_hooks (hooks_of t.name) t.entries) len f.within;
      underflows = f.policies;
    } in
    record {
      named = f.named;
      spelled = subst (λ (xs : List Rule). SpellsTable l h bs (made t.name xs t.entries t.underflows)) (sym f.rules) spelled;
      linked = subst (λ (xs : List Rule). IsLinked (made t.name xs t.entries t.underflows)) (sym f.rules) linked;
    }

-- a table that was read is spelled so, and linked
pub table_is_found : (l : BlobLayout) (name : TableName) (h : ReplaceHeader) (bs : List ℕ) (t : Table) → IsBytes bs
    → table_in l name h bs ≡ Ok t → TableFound l name h bs t
unfolding table_in
table_is_found l name h bs t fits read =
    let last : List Rule → List Rule → Result Table BlobFault = λ rs ts. told_at 0 (table_found h name (places l 0 rs) ts) in
    let jumps : List Rule → Result Table BlobFault = λ rs. targets_found (places l 0 rs) 0 rs >>= λ ts. last rs ts in
    let a = bind_ok (rules_in l bs) (λ rs. told_at 0 (refused_if (not (eqb (length rs) h.num_entries)) cause.Count) >> jumps rs) t read in
    let b = told_refused (not (eqb (length a.0) h.num_entries)) cause.Count (jumps a.0) t a.2 in
    let c = bind_ok (targets_found (places l 0 a.0) 0 a.0) (λ ts. last a.0 ts) t b.1 in
    table_found_by l name h bs a.0 c.0 t fits a.1 (eqb-true _ _ (not-false _ b.0)) c.1 (told_ok 0 _ t c.2)

hooks_again_by : (h : ReplaceHeader) (name : TableName) (low : ℕ) (ps : List ℕ) (t : Table) → t.name ≡ name → IsRising low ps
    → h.valid_hooks ≡ hook_word t.name → AreTold ps (hooks_of t.name) h.hook_entry t.entries
    → AreTold ps (hooks_of t.name) h.underflow t.underflows → length ps ≡ length t.rules → IsLinked t
    → table_found h name ps t.rules ≡ Ok t
hooks_again_by h name low ps t named rise word entries underflows len linked =
    subst (λ (n : TableName). table_found h n ps t.rules ≡ Ok t) named
    (let policies : List ℕ → Bool = λ us. list_all (λ i. is_policy (get_or t.rules i no_rule)) (of_hooks (hooks_of t.name) us) in
    let last : List ℕ → List ℕ → Result Table BlobCause = λ es us. refused_if (not (policies us)) cause.Hooks >> Ok (made t.name t.rules es us) in
    let behind : List ℕ → Result Table BlobCause = λ es. hooks_found ps (hooks_of t.name) h.underflow >>= λ us. last es us in
    let all : Result Table BlobCause = hooks_found ps (hooks_of t.name) h.hook_entry >>= behind in
    let e : hooks_found ps (hooks_of t.name) h.hook_entry ≡ Ok t.entries =
    hooks_again low ps (hooks_of t.name) h.hook_entry t.entries rise entries (same_within (length t.rules) (length ps) _ (sym len) linked.entries) in
    let u : hooks_found ps (hooks_of t.name) h.underflow ≡ Ok t.underflows =
    hooks_again low ps (hooks_of t.name) h.underflow t.underflows rise underflows
    (same_within (length t.rules) (length ps) _ (sym len) (policies_within t.rules _ linked.underflows)) in
    passed (not (eqb h.valid_hooks (hook_word t.name))) cause.Hooks all (ap not (eq-eqb _ _ word))
    ∙ bind_at (hooks_found ps (hooks_of t.name) h.hook_entry) behind t.entries e
    ∙ bind_at (hooks_found ps (hooks_of t.name) h.underflow) (λ us. last t.entries us) t.underflows u
    ∙ passed (not (policies t.underflows)) cause.Hooks (Ok t) (ap not (pass_all _ _ linked.underflows)))

-- a table that is spelled so, and linked, is read
pub table_is_read : (l : BlobLayout) (name : TableName) (h : ReplaceHeader) (bs : List ℕ) (t : Table) → t.name ≡ name
    → SpellsTable l h bs t → IsLinked t → table_in l name h bs ≡ Ok t
unfolding table_in
table_is_read l name h bs t named s linked =
    let ps : List ℕ = places l 0 t.rules in
    let rs : List Rule = placed l t.rules in
    let last : List Rule → List Rule → Result Table BlobFault = λ xs ts. told_at 0 (table_found h name (places l 0 xs) ts) in
    let jumps : List Rule → Result Table BlobFault = λ xs. targets_found (places l 0 xs) 0 xs >>= λ ts. last xs ts in
    let same : places l 0 rs ≡ ps = places_moved l 0 ps t.rules in
    let len : length ps ≡ length t.rules = length_places l 0 t.rules in
    let count : length rs ≡ h.num_entries = length_moved ps t.rules ∙ sym s.count in
    let read : rules_in l bs ≡ Ok rs = is_read l bs rs s.each s.rules in
    let found : targets_found (places l 0 rs) 0 rs ≡ Ok t.rules =
    ap (λ (qs : List ℕ). targets_found qs 0 rs) same
    ∙ targets_again 0 ps 0 t.rules (places_rise l 0 t.rules) (indices_within (length ps) (length t.rules) t.rules (sym len) linked.jumps) in
    let hooks : table_found h name (places l 0 rs) t.rules ≡ Ok t =
    ap (λ (qs : List ℕ). table_found h name qs t.rules) same
    ∙ hooks_again_by h name 0 ps t named (places_rise l 0 t.rules) s.hooks s.entries s.underflows len linked in
    bind_at (rules_in l bs) (λ xs. told_at 0 (refused_if (not (eqb (length xs) h.num_entries)) cause.Count) >> jumps xs) rs read
    ∙ told_passed (not (eqb (length rs) h.num_entries)) cause.Count (jumps rs) (ap not (eq-eqb _ _ count))
    ∙ bind_at (targets_found (places l 0 rs) 0 rs) (λ ts. last rs ts) t.rules found
    ∙ ap (λ (x : Result Table BlobCause). told_at 0 x) hooks
