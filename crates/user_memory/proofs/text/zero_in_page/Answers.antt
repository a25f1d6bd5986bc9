use Rattle.std.proofs.Common.{◌≡◌, ◌+◌, ◌-◌, ◌/◌, ◌%◌, ap, length, sym, arith}
use Rattle.user_memory.specs.States.{state_of, states_of}
use Rattle.user_memory.proofs.Places.{page_read}
use Rattle.user_memory.proofs.Prefixes.{zero_before, zero_at}
use Rattle.user_memory.proofs.Ranges.{page_bytes}
use Rattle.user_memory.proofs.text.zero_in_page.Goals as goal

pub slice_bounds-first_zero-end : goal.slice_bounds-first_zero-end
slice_bounds-first_zero-end c =
    let read = page_read c.args.pages.now (c.args.at / 4096) c.args.place c.index-pages-place.result c.requires.ascending c.requires.place c.index-pages-place.is in
    omega (arith, read.1, ap length c.deref.ensures.value)

pub returns-clause-before : goal.returns-clause-before
returns-clause-before c =
    let read = page_read c.args.pages.now (c.args.at / 4096) c.args.place c.index-pages-place.result c.requires.ascending c.requires.place c.index-pages-place.is in
    let here = page_bytes c.args.length (states_of c.args.pages.now) (state_of c.index-pages-place.result) c.args.at read.0 read.1 (omega arith) in
    let count : (c.args.at % 4096 + c.args.length) - c.args.at % 4096 ≡ c.args.length = omega arith in
    zero_before c.first_zero.result _ (states_of c.args.pages.now) c.args.at c.args.length (rw (count, c.deref.ensures.value) (sym here)) c.first_zero.ensures.before c.first_zero.ensures.zero

pub returns-clause-zero : goal.returns-clause-zero
returns-clause-zero c =
    let read = page_read c.args.pages.now (c.args.at / 4096) c.args.place c.index-pages-place.result c.requires.ascending c.requires.place c.index-pages-place.is in
    let here = page_bytes c.args.length (states_of c.args.pages.now) (state_of c.index-pages-place.result) c.args.at read.0 read.1 (omega arith) in
    let count : (c.args.at % 4096 + c.args.length) - c.args.at % 4096 ≡ c.args.length = omega arith in
    zero_at c.first_zero.result _ (states_of c.args.pages.now) c.args.at c.args.length (rw (count, c.deref.ensures.value) (sym here)) c.first_zero.ensures.zero
