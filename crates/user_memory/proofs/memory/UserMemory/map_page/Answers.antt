use Rattle.std.proofs.Common.{◌≡◌, ◌∙◌, ap, subst, refl, sym, arith, ℕ, Bool, false, List}
use Rattle.std.specs.Prelude.{insert}
use Rattle.user_memory.specs.declared.page.Page.{Page}
use Rattle.user_memory.specs.Pages.{PageState, page_at, is_page, new_page, with_page}
use Rattle.user_memory.specs.Places.{IsGapFor}
use Rattle.user_memory.specs.Rights.{allows_stores}
use Rattle.user_memory.specs.States.{state_of, states_of, AreKept}
use Rattle.user_memory.proofs.Places.{states-insert, page_at_gap}
use Rattle.user_memory.proofs.Kept.{kept_insert, readable_new}
use Rattle.user_memory.proofs.memory.UserMemory.map_page.Goals as goal

gap_in : (ps qs : List Page) (n i : ℕ) → ps ≡ qs → IsGapFor ps n i → IsGapFor qs n i
gap_in ps qs n i same gap = subst (λ (xs : List Page). IsGapFor xs n i) same gap

-- the page stands in its place
placed : (pages ps : List Page) (n i : ℕ) (p : Page) (writable : Bool) → ps ≡ insert pages i p → state_of p ≡ new_page n writable → IsGapFor pages n i → states_of ps ≡ with_page (states_of pages) n writable
placed pages ps n i p writable items zeros gap = ap states_of items ∙ states-insert pages i p (new_page n writable) zeros gap

pub invariant_of-self-2 : goal.invariant_of-self-2
invariant_of-self-2 c =
    let gap = gap_in _ c.self.inside.pages.items c.args.page c.in-Err.place c.deref.ensures.value c.in-Err.ensures.absent in
    let items : c.insert.new.self.items ≡ insert c.self.inside.pages.items c.in-Err.place c.in-Ok.new = rw c.if-is_err.ensures.negation at c.insert.ensures.items in
    let zeros : state_of c.in-Ok.new ≡ new_page c.args.page (allows_stores c.args.rights) = c.in-Ok.ensures.zeros ∙ ap (new_page c.args.page) c.allow_stores.ensures in
    let after = c.end_after_insertion-self-inside in
    subst (λ (ps : List Page). AreKept ps c.self.inside.first after.result) (sym items)
    (kept_insert c.self.inside.pages.items c.in-Err.place c.in-Ok.new c.args.page (allows_stores c.args.rights) c.self.inside.first c.self.inside.past after.result
    c.requires (omega (arith, c.self.inside.pages.ok.0)) zeros c.in-Ok.ensures.stores gap after.ensures.before after.ensures.behind c.self.invariant)

pub returns-clause-ok : goal.returns-clause-ok
returns-clause-ok c =
    let gap = gap_in _ c.self.inside.pages.items c.args.page c.in-Err.place c.deref.ensures.value c.in-Err.ensures.absent in
    let items : c.insert.new.self.items ≡ insert c.self.inside.pages.items c.in-Err.place c.in-Ok.new = rw c.if-is_err.ensures.negation at c.insert.ensures.items in
    let zeros : state_of c.in-Ok.new ≡ new_page c.args.page (allows_stores c.args.rights) = c.in-Ok.ensures.zeros ∙ ap (new_page c.args.page) c.allow_stores.ensures in
    placed c.self.inside.pages.items _ c.args.page c.in-Err.place c.in-Ok.new (allows_stores c.args.rights) items zeros gap
    ∙ ap (λ (ps : List PageState). with_page ps c.args.page (allows_stores c.args.rights)) c.self.view_is

pub returns-clause-readable : goal.returns-clause-readable
returns-clause-readable c =
    let gap = gap_in _ c.self.inside.pages.items c.args.page c.in-Err.place c.deref.ensures.value c.in-Err.ensures.absent in
    let items : c.insert.new.self.items ≡ insert c.self.inside.pages.items c.in-Err.place c.in-Ok.new = rw c.if-is_err.ensures.negation at c.insert.ensures.items in
    let zeros : state_of c.in-Ok.new ≡ new_page c.args.page (allows_stores c.args.rights) = c.in-Ok.ensures.zeros ∙ ap (new_page c.args.page) c.allow_stores.ensures in
    let here : is_page (page_at (states_of c.self.inside.pages.items) c.args.page) ≡ false = rw (page_at_gap c.self.inside.pages.items c.args.page c.in-Err.place gap) refl in
    λ a n lo hi. rw (placed c.self.inside.pages.items c.insert.new.self.items c.args.page c.in-Err.place c.in-Ok.new (allows_stores c.args.rights) items zeros gap)
    (readable_new c.args.page (allows_stores c.args.rights) (states_of c.self.inside.pages.items) a n c.requires here lo hi)
