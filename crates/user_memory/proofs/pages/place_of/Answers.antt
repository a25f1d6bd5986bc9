use Rattle.std.proofs.Common.{rules}
use Rattle.std.proofs.lemmas.List.Sorted.{answers_always}
use Rattle.user_memory.proofs.Places.{searched}
use Rattle.user_memory.proofs.pages.place_of.Goals as goal

-- the closure gives a page's number
pub returns : goal.returns
returns c =
    let facts = c.binary_search_by_key.ensures in
    let by_number = facts.position (λ page. page.number) (answers_always _ _ _ (λ f a r g called. search rules)) in
    searched c.args.pages.now c.args.number c.binary_search_by_key.result c.requires facts.bound by_number
