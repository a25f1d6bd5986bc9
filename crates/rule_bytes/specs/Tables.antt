-- Rule tables: which bytes spell one, whether it is well formed, and the faults of bytes whose rules are good each by itself.
use Rattle.std.specs.Prelude.{◌≡◌, ◌<◌, ℕ, zero, suc, ◌+◌, ◌==◌, ◌&&◌, not, if◌then◌else◌, Bool, true, false, List, [], ◌∷◌, length, map, get_or, Option, Some, None, Result, Ok, Err}
use Rattle.std.specs.List.{AllByRecursion, list_all}
use Rattle.std.specs.Option.{option_map}
use Rattle.rule_walk.specs.declared.reach.Reach.{Reach}
use Rattle.rule_walk.specs.Flow.{FallsOff, HasNumbering}
use Rattle.kernel_values.specs.declared.rules.BlobCause.{BlobCause}
use Rattle.kernel_values.specs.declared.rules.BlobCause.TheVariants as cause
use Rattle.kernel_values.specs.declared.rules.BlobFault.{BlobFault}
use Rattle.rule_bytes.specs.declared.layout.BlobLayout.{BlobLayout}
use Rattle.kernel_values.specs.declared.rules.RuleTarget.{RuleTarget}
use Rattle.kernel_values.specs.declared.rules.RuleTarget.TheVariants as target_of
use Rattle.rule_bytes.specs.declared.tables.ReplaceHeader.{ReplaceHeader}
use Rattle.kernel_values.specs.declared.rules.TableName.{TableName}
use Rattle.kernel_values.specs.declared.rules.TableName.TheVariants.{Filter, Mangle, Raw}
use Rattle.rule_bytes.specs.Faults.{◌>>=◌, ◌>>◌, refused_if, found_or}
use Rattle.rule_bytes.specs.Spelling.{Spells}
use Rattle.rule_bytes.specs.Rules.{IsRule, Rule, rule_size, rules_spelling}
use Rattle.rule_bytes.specs.Reading.{rules_in, told_at}

-- ---- places

-- where rules begin that stand one after another from a place on
abbrev pub places : BlobLayout → ℕ → List Rule → List ℕ
places l at [] = []
places l at (r ∷ rs) = at ∷ places l (at + rule_size l r) rs

-- a target whose jump is told otherwise
abbrev pub with_jump : (ℕ → ℕ) → RuleTarget → RuleTarget
with_jump f target_of.Drop = target_of.Drop
with_jump f target_of.Accept = target_of.Accept
with_jump f target_of.Queue = target_of.Queue
with_jump f target_of.Return = target_of.Return
with_jump f (target_of.Jump to) = target_of.Jump (f to)
with_jump f (target_of.Error bytes) = target_of.Error bytes
with_jump f (target_of.Mark mark mask) = target_of.Mark mark mask

abbrev pub with_target : Rule → RuleTarget → Rule
with_target r t = record { ip = r.ip; matches = r.matches; target = t; packets = r.packets; bytes = r.bytes }

-- rules whose jumps go to these places, in place of indices
abbrev pub moved : List ℕ → List Rule → List Rule
moved ps rs = map (λ r. with_target r (with_jump (λ i. get_or ps i 0) r.target)) rs

-- rules of a table as their bytes have them: a jump has the place of its rule
abbrev pub placed : BlobLayout → List Rule → List Rule
placed l rs = moved (places l 0 rs) rs

-- ---- tables

-- by hook: prerouting, input, forward, output, postrouting
abbrev pub hooks_of : TableName → List Bool
hooks_of Filter = false ∷ true ∷ true ∷ true ∷ false ∷ []
hooks_of Mangle = true ∷ true ∷ true ∷ true ∷ true ∷ []
hooks_of Raw = true ∷ false ∷ false ∷ true ∷ false ∷ []

-- the same as a word, a bit for each
abbrev pub hook_word : TableName → ℕ
hook_word Filter = 14
hook_word Mangle = 31
hook_word Raw = 9

-- a table. A jump has the index of its rule; entries and underflows have indices by hook, and 0 for a hook that there is not
pub record Table : Type 0 where
  pub name : TableName
  pub rules : List Rule
  pub entries : List ℕ
  pub underflows : List ℕ

-- what a header tells by hook: the place of a rule; for a hook that there is not it is free
abbrev pub AreTold : List ℕ → List Bool → List ℕ → List ℕ → Type 0
AreTold ps [] [] [] = Unit {0}
AreTold ps (true ∷ hooks) (told ∷ others) (i ∷ is) = (told ≡ get_or ps i 0) × AreTold ps hooks others is
AreTold ps (false ∷ hooks) (told ∷ others) (i ∷ is) = (i ≡ 0) × AreTold ps hooks others is
AreTold ps _ _ _ = ⊥

-- Rule bytes: header and bytes spell a table, whose counters are those of the bytes
pub record SpellsTable (l : BlobLayout) (h : ReplaceHeader) (bytes : List ℕ) (t : Table) : Type 0 where
  pub rules : Spells bytes (rules_spelling l (placed l t.rules))
  pub each : AllByRecursion IsRule (placed l t.rules)
  pub count : h.num_entries ≡ length t.rules
  pub hooks : h.valid_hooks ≡ hook_word t.name
  pub entries : AreTold (places l 0 t.rules) (hooks_of t.name) h.hook_entry t.entries
  pub underflows : AreTold (places l 0 t.rules) (hooks_of t.name) h.underflow t.underflows

-- ---- well formed tables

-- a rule that is for each packet: it has no match, and its IP part is zero
abbrev pub is_unconditional : Rule → Bool
is_unconditional r = (length r.matches == 0) && list_all (λ b. b == 0) r.ip

-- a target with which a rule for each packet lets none go on
abbrev pub is_final : RuleTarget → Bool
is_final target_of.Drop = true
is_final target_of.Accept = true
is_final target_of.Queue = true
is_final target_of.Return = true
is_final (target_of.Jump to) = false
is_final (target_of.Error bytes) = true
is_final (target_of.Mark mark mask) = false

abbrev pub is_drop_or_accept : RuleTarget → Bool
is_drop_or_accept target_of.Drop = true
is_drop_or_accept target_of.Accept = true
is_drop_or_accept target_of.Queue = false
is_drop_or_accept target_of.Return = false
is_drop_or_accept (target_of.Jump to) = false
is_drop_or_accept (target_of.Error bytes) = false
is_drop_or_accept (target_of.Mark mark mask) = false

-- a rule that ends a hook
abbrev pub is_policy : Rule → Bool
is_policy r = is_unconditional r && is_drop_or_accept r.target

abbrev pub jump_in : RuleTarget → Option ℕ
jump_in target_of.Drop = None
jump_in target_of.Accept = None
jump_in target_of.Queue = None
jump_in target_of.Return = None
jump_in (target_of.Jump to) = Some to
jump_in (target_of.Error bytes) = None
jump_in (target_of.Mark mark mask) = None

-- where packets go from a rule
abbrev pub reach_of : Rule → Reach
reach_of r = record { jump = jump_in r.target; falls = not (is_unconditional r && is_final r.target) }

abbrev pub flow : List Rule → List Reach
flow rs = map reach_of rs

-- the entries of the hooks that there are
abbrev pub of_hooks : List Bool → List ℕ → List ℕ
of_hooks [] is = []
of_hooks (hook ∷ hooks) [] = []
of_hooks (true ∷ hooks) (i ∷ is) = i ∷ of_hooks hooks is
of_hooks (false ∷ hooks) (i ∷ is) = of_hooks hooks is

-- where packets come into a table
abbrev pub entries_of : Table → List ℕ
entries_of t = of_hooks (hooks_of t.name) t.entries

-- what stands behind the last rule is no policy
abbrev pub no_rule : Rule
no_rule = record { ip = []; matches = []; target = target_of.Return; packets = 0; bytes = 0 }

-- a jump goes to a rule of n, and not to the first
abbrev pub JumpWithin : ℕ → RuleTarget → Type 0
JumpWithin n target_of.Drop = Unit {0}
JumpWithin n target_of.Accept = Unit {0}
JumpWithin n target_of.Queue = Unit {0}
JumpWithin n target_of.Return = Unit {0}
JumpWithin n (target_of.Jump to) = (0 < to) × (to < n)
JumpWithin n (target_of.Error bytes) = Unit {0}
JumpWithin n (target_of.Mark mark mask) = Unit {0}

-- jumps go to rules, each hook that there is begins at a rule and ends at a policy
pub record IsLinked (t : Table) : Type 0 where
  pub jumps : AllByRecursion (λ r. JumpWithin (length t.rules) r.target) t.rules
  pub entries : AllByRecursion (λ i. i < length t.rules) (of_hooks (hooks_of t.name) t.entries)
  pub underflows : AllByRecursion (λ i. is_policy (get_or t.rules i no_rule) ≡ true) (of_hooks (hooks_of t.name) t.underflows)

-- Well formed: linked, no rule that is reached from the hooks falls past the last one, and there is a numbering that falls along
-- them. That flags and matches are good is a part of what can be spelled (`IsRule`)
pub record IsWellFormed (t : Table) : Type 0 where
  pub linked : IsLinked t
  pub stays : FallsOff (flow t.rules) (entries_of t) → ⊥
  pub numbering : HasNumbering (flow t.rules) (entries_of t)

-- ---- faults

-- the index of a place among places
abbrev pub index_of : ℕ → List ℕ → Option ℕ
index_of n [] = None
index_of n (x ∷ xs) = if x == n then Some zero else option_map (λ i. suc i) (index_of n xs)

-- a target whose jump goes to an index in place of a place
abbrev pub target_found : List ℕ → RuleTarget → Result RuleTarget BlobCause
target_found ps target_of.Drop = Ok target_of.Drop
target_found ps target_of.Accept = Ok target_of.Accept
target_found ps target_of.Queue = Ok target_of.Queue
target_found ps target_of.Return = Ok target_of.Return
target_found ps (target_of.Jump to) = do
  i ← found_or cause.Jump (index_of to ps)
  Ok (target_of.Jump i)
target_found ps (target_of.Error bytes) = Ok (target_of.Error bytes)
target_found ps (target_of.Mark mark mask) = Ok (target_of.Mark mark mask)

-- the same for rules from index i on
unfoldable pub targets_found : List ℕ → ℕ → List Rule → Result (List Rule) BlobFault
targets_found ps i [] = Ok []
targets_found ps i (r ∷ rs) = do
  t ← told_at i (target_found ps r.target)
  others ← targets_found ps (suc i) rs
  Ok (with_target r t ∷ others)

-- what a hook has by its place; a hook that there is not has 0
abbrev pub hook_found : List ℕ → Bool → ℕ → Result ℕ BlobCause
hook_found ps true told = found_or cause.Hooks (index_of told ps)
hook_found ps false told = Ok 0

abbrev pub hooks_found : List ℕ → List Bool → List ℕ → Result (List ℕ) BlobCause
hooks_found ps [] [] = Ok []
hooks_found ps (hook ∷ hooks) (told ∷ others) = do
  i ← hook_found ps hook told
  is ← hooks_found ps hooks others
  Ok (i ∷ is)
hooks_found ps _ _ = Err cause.Hooks

-- the hooks of a table, each with a policy at its end
abbrev pub table_found : ReplaceHeader → TableName → List ℕ → List Rule → Result Table BlobCause
table_found h name ps rs = do
  refused_if (not (h.valid_hooks == hook_word name)) cause.Hooks
  entries ← hooks_found ps (hooks_of name) h.hook_entry
  underflows ← hooks_found ps (hooks_of name) h.underflow
  refused_if (not (list_all (λ i. is_policy (get_or rs i no_rule)) (of_hooks (hooks_of name) underflows))) cause.Hooks
  Ok (record { name = name; rules = rs; entries = entries; underflows = underflows })

-- the table that a header and bytes spell, or their first fault: rule by rule, then the number of rules, the jumps rule by rule,
-- and the hooks. That no rule falls past the last and none goes round is judged of the table by the walk
unfoldable pub table_in : BlobLayout → TableName → ReplaceHeader → List ℕ → Result Table BlobFault
table_in l name h bytes = do
  rs ← rules_in l bytes
  told_at 0 (refused_if (not (length rs == h.num_entries)) cause.Count)
  ts ← targets_found (places l 0 rs) 0 rs
  told_at 0 (table_found h name (places l 0 rs) ts)
