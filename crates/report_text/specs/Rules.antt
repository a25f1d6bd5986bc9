-- The lines of rule tables.
use Rattle.std.specs.Prelude.{ℕ, List, [], ◌∷◌, ◌++◌, codes, Option, Some, None}
use Rattle.kernel_values.specs.declared.items.RuleItem.{RuleItem}
use Rattle.kernel_values.specs.declared.items.TableItem.{TableItem}
use Rattle.kernel_values.specs.declared.rules.TableName.{TableName}
use Rattle.kernel_values.specs.declared.rules.TableName.TheVariants as names
use Rattle.report_text.specs.Fields.{bytes_line, numbers_text}

unfoldable pub table_word : TableName → List ℕ
table_word names.Filter = codes "table filter"
table_word names.Mangle = codes "table mangle"
table_word names.Raw = codes "table raw"

-- the place of a hook, `-` for one that the table has not
unfoldable pub hook_text : Option ℕ → List ℕ
hook_text None = codes " -"
hook_text (Some place) = numbers_text (place ∷ [])

unfoldable pub hooks_text : List (Option ℕ) → List ℕ
hooks_text [] = []
hooks_text (hook ∷ hooks) = hook_text hook ++ hooks_text hooks

-- table NAME RULES SIZE, five hook entries and five underflows
unfoldable pub table_text : TableItem → List ℕ
table_text t =
    table_word t.name ++ numbers_text (t.rules ∷ t.size ∷ []) ++ hooks_text t.hook_entry ++ hooks_text t.underflow ++ 10 ∷ []

-- rule PLACE BYTES
unfoldable pub rule_text : RuleItem → List ℕ
rule_text r = bytes_line (codes "rule") (r.place ∷ []) r.bytes
