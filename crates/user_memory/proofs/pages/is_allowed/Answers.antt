use Rattle.std.proofs.Common.{◌/◌, refl, arith}
use Rattle.user_memory.specs.States.{states_of}
use Rattle.user_memory.proofs.Places.{gap_at_end, gap_at_other, page_at_gap, page_read, place_read, no_rights}
use Rattle.user_memory.proofs.pages.is_allowed.Goals as goal

pub returns-then-place-pages-clause-allowed : goal.returns-then-place-pages-clause-allowed
returns-then-place-pages-clause-allowed c =
    no_rights c.args.rights (states_of c.args.pages.now) c.args.at (page_at_gap c.args.pages.now (c.args.at / 4096) c.args.place (gap_at_end c.args.pages.now (c.args.at / 4096) c.args.place c.requires.place (omega arith)))

pub returns-then-page-at-clause-allowed : goal.returns-then-page-at-clause-allowed
returns-then-page-at-clause-allowed c =
    let gap = gap_at_other c.args.pages.now (c.args.at / 4096) c.args.place c.index-pages-place.result c.requires.ascending c.requires.place (omega arith) c.index-pages-place.is c.if-page-at.true in
    no_rights c.args.rights (states_of c.args.pages.now) c.args.at (page_at_gap c.args.pages.now (c.args.at / 4096) c.args.place gap)

pub returns-in-Read-clause-allowed : goal.returns-in-Read-clause-allowed
returns-in-Read-clause-allowed c =
    let place = place_read c.args.pages.now (c.args.at / 4096) c.args.place c.index-pages-place.result (omega arith) c.index-pages-place.is c.if-page-at.false in
    let read = page_read c.args.pages.now (c.args.at / 4096) c.args.place c.index-pages-place.result c.requires.ascending place c.index-pages-place.is in
    rw (c.in-Read.is, read.0) refl

pub returns-in-ReadWrite-clause-allowed : goal.returns-in-ReadWrite-clause-allowed
returns-in-ReadWrite-clause-allowed c =
    let place = place_read c.args.pages.now (c.args.at / 4096) c.args.place c.index-pages-place.result (omega arith) c.index-pages-place.is c.if-page-at.false in
    let read = page_read c.args.pages.now (c.args.at / 4096) c.args.place c.index-pages-place.result c.requires.ascending place c.index-pages-place.is in
    rw (c.in-ReadWrite.is, read.0) refl
