use Rattle.std.proofs.Common.{◌∙◌, ℕ, eqb, rules, tests}
use Rattle.std.proofs.lemmas.Iterator.{YieldsList-from_slice}
use Rattle.std.proofs.lemmas.Iterator.Search.{position_from_yields_List}
use Rattle.message_layouts.proofs.Names.{first_or_all}
use Rattle.message_layouts.proofs.addresses.text_length.Goals as goal

pub returns : goal.returns
returns c =
    let path = c.args.path.now in
    let found = position_from_yields_List (λ b. eqb b 0) _ _ _ c.position.ensures.ran (YieldsList-from_slice path cc) (λ x b q k. search (rules, tests)) in
    c.unwrap_or.ensures ∙ first_or_all (λ (b : ℕ). eqb b 0) path c.position.result found
