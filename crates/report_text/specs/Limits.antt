-- The line of a limit.
use Rattle.std.specs.Prelude.{ℕ, List, [], ◌∷◌, codes}
use Rattle.kernel_values.specs.declared.items.LimitItem.{LimitItem}
use Rattle.report_text.specs.Fields.{numbers_line}

-- limit RESOURCE SOFT HARD
unfoldable pub limit_text : LimitItem → List ℕ
limit_text l = numbers_line (codes "limit") (l.resource ∷ l.limit.soft ∷ l.limit.hard ∷ [])
