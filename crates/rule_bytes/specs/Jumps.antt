-- Looking up the jumps of a blob.
use Rattle.std.specs.Prelude.{ℕ, List, Result, Ok, Err, ⊤}
use Rattle.kernel_values.specs.declared.rules.BlobFault.{BlobFault}
use Rattle.rule_bytes.specs.declared.layout.BlobLayout.{BlobLayout}
use Rattle.rule_bytes.specs.declared.layout.BlobLayout.TheVariants.{Native}
use Rattle.rule_bytes.specs.Faults.{told_of}
use Rattle.rule_bytes.specs.Spelling.{put}
use Rattle.rule_bytes.specs.Rules.{Rule, rules_spelling}
use Rattle.rule_bytes.specs.Tables.{moved, places, targets_found}

-- the first jump to the place of no rule
abbrev pub jumps_of : BlobLayout → Result (List Rule) BlobFault → Result ⊤ BlobFault
jumps_of l (Ok rs) = told_of (λ ts. tt) (targets_found (places l 0 rs) 0 rs)
jumps_of l (Err e) = Err e

-- the rules of a blob, with jumps to native places
abbrev pub native_rules : BlobLayout → Result (List Rule) BlobFault → Result (List Rule) BlobFault
native_rules l (Ok rs) = told_of (λ ts. moved (places Native 0 rs) ts) (targets_found (places l 0 rs) 0 rs)
native_rules l (Err e) = Err e

-- their bytes
abbrev pub rules_put : List Rule → List ℕ
rules_put rs = put (rules_spelling Native rs)
