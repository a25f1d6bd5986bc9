use Rattle.std.proofs.Common.{◌+◌, ◌-◌, ◌%◌, length, get_or, List, ℕ, sym, ap, subst, arith}
use Rattle.user_memory.specs.Pages.{PageState, IsAscending}
use Rattle.user_memory.specs.States.{states_of, TellsStores}
use Rattle.user_memory.proofs.Places.{size_at}
use Rattle.user_memory.proofs.Ranges.{stored_in_place, spliced_items}
use Rattle.std.proofs.lemmas.List.Elements.{All-set}
use Rattle.user_memory.proofs.Stores.{stored_tells}
use Rattle.user_memory.proofs.Kept.{ascending_with_bytes}
use Rattle.user_memory.proofs.pages.store_in_page.Goals as goal

pub slice_bounds-copy_from_slice-end : goal.slice_bounds-copy_from_slice-end
slice_bounds-copy_from_slice-end c =
    let size = size_at c.args.pages.now c.args.place c.index-pages-place.result c.requires.ascending c.requires.place.inside in
    omega (arith, size.0, ap length c.deref_mut.ensures.value)

pub returns-clause-stored : goal.returns-clause-stored
returns-clause-stored c =
    let p = get_or c.args.pages.now c.args.place c.index-pages-place.result in
    let size = size_at c.args.pages.now c.args.place c.index-pages-place.result c.requires.ascending c.requires.place.inside in
    let bytes = spliced_items p.bytes (c.args.at % 4096) ((c.args.at % 4096 + length c.args.from.now) - c.args.at % 4096) c.deref_mut.result.now c.copy_from_slice.new.self c.args.from.now c.deref_mut.ensures.value c.copy_from_slice.ensures.after (omega arith) (omega (arith, size.0)) in
    stored_in_place c.args.pages.now c.args.at c.args.place c.args.from.now c.index-pages-place.result _ c.requires.ascending c.requires.place c.requires.one_page
    (ap (λ (bs : List ℕ). record { number = p.number; writable = p.writable; bytes = bs; before = p.before.items }) bytes)

pub returns-clause-ascending : goal.returns-clause-ascending
returns-clause-ascending c =
    subst (λ (ps : List PageState). IsAscending ps) (sym (returns-clause-stored c)) (ascending_with_bytes c.args.from.now (states_of c.args.pages.now) c.args.at c.requires.ascending)

pub returns-clause-stores : goal.returns-clause-stores
returns-clause-stores c =
    let p = get_or c.args.pages.now c.args.place c.index-pages-place.result in
    let size = size_at c.args.pages.now c.args.place c.index-pages-place.result c.requires.ascending c.requires.place.inside in
    let bytes = spliced_items p.bytes (c.args.at % 4096) ((c.args.at % 4096 + length c.args.from.now) - c.args.at % 4096) c.deref_mut.result.now c.copy_from_slice.new.self c.args.from.now c.deref_mut.ensures.value c.copy_from_slice.ensures.after (omega arith) (omega (arith, size.0)) in
    All-set TellsStores c.args.pages.now c.args.place _
    (stored_tells p (c.args.at % 4096) c.min-page.result c.max-page.result c.args.from.now _ bytes c.min-page.ensures c.max-page.ensures (omega (arith, size.0)) (c.requires.stores c.args.place c.index-pages-place.result c.requires.place.inside)) c.requires.stores
