-- The words of the causes of a bad line.
use Rattle.std.specs.Prelude.{ℕ, List, codes}
use Rattle.script_reader.specs.declared.fault.LineCause.{LineCause}
use Rattle.script_reader.specs.declared.fault.LineCause.TheVariants as causes

abbrev pub cause_text : LineCause → List ℕ
cause_text causes.Long = codes "long"
cause_text causes.Unended = codes "unended"
cause_text causes.Header = codes "header"
cause_text causes.Word = codes "word"
cause_text causes.Count = codes "count"
cause_text causes.Field = codes "field"
cause_text causes.Order = codes "order"
cause_text causes.Image = codes "image"
