use Rattle.std.proofs.Common.{◌≡◌, ◌+◌, ◌-◌, ◌/◌, ◌%◌, ◌∙◌, ap, length, sym, arith}
use Rattle.user_memory.specs.States.{state_of, states_of}
use Rattle.user_memory.proofs.Places.{page_read}
use Rattle.user_memory.proofs.Ranges.{page_bytes}
use Rattle.user_memory.proofs.pages.copy_in_page.Goals as goal

pub slice_bounds-copy_from_slice-end : goal.slice_bounds-copy_from_slice-end
slice_bounds-copy_from_slice-end c =
    let read = page_read c.args.pages.now (c.args.at / 4096) c.args.place c.index-pages-place.result c.requires.ascending c.requires.place c.index-pages-place.is in
    omega (arith, read.1, ap length c.deref.ensures.value)

pub returns : goal.returns
returns c =
    let read = page_read c.args.pages.now (c.args.at / 4096) c.args.place c.index-pages-place.result c.requires.ascending c.requires.place c.index-pages-place.is in
    let here = page_bytes (length c.args.into.now) (states_of c.args.pages.now) (state_of c.index-pages-place.result) c.args.at read.0 read.1 (omega arith) in
    let count : (c.args.at % 4096 + length c.args.into.now) - c.args.at % 4096 ≡ length c.args.into.now = omega arith in
    c.copy_from_slice.ensures.after ∙ rw (count, c.deref.ensures.value) (sym here)
