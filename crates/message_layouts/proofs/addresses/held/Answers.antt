use Rattle.std.proofs.Common.{◌∙◌, ℕ, ap, take, arith}
use Rattle.std.proofs.lemmas.List.{take_min}
use Rattle.message_layouts.proofs.addresses.held.Goals as goal

pub returns : goal.returns
returns c =
    let bytes = c.as_slice-bytes.result.now in
    ap (λ (k : ℕ). take k bytes) (omega (arith, c.min.ensures)) ∙ take_min 108 bytes ∙ ap (take 108) c.as_slice-bytes.ensures
