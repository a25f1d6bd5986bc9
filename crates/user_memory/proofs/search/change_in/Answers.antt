use Rattle.std.proofs.Common.{arith, refl, sym, length, []}
use Rattle.user_memory.specs.States.{state_of}
use Rattle.user_memory.proofs.NextChange.{whole, page_none, page_some}
use Rattle.user_memory.proofs.Stores.{same_in, same_widened, same_to_find}
use Rattle.user_memory.proofs.search.change_in.Goals as goal

pub first_difference-requires-clause-same_length : goal.first_difference-requires-clause-same_length
first_difference-requires-clause-same_length c =
    let w = whole (state_of c.args.page.now) [] c.requires.ascending in
    omega arith

pub difference_length-length-requires-clause-same_length : goal.difference_length-length-requires-clause-same_length
difference_length-length-requires-clause-same_length c =
    let w = whole (state_of c.args.page.now) [] c.requires.ascending in
    omega arith

pub overflow_cast-result : goal.overflow_cast-result
overflow_cast-result c =
    let w = whole (state_of c.args.page.now) [] c.requires.ascending in
    omega (arith, c.in-Some.ensures.differs.1)

pub overflow_cast-result-2 : goal.overflow_cast-result-2
overflow_cast-result-2 c =
    let w = whole (state_of c.args.page.now) [] c.requires.ascending in
    omega (arith, c.difference_length-length.ensures.inside)

pub returns-in_default : goal.returns-in_default
returns-in_default c =
    let bytes = c.args.page.now.bytes.items in
    let old = c.args.page.now.before.items in
    let same = same_in _ bytes _ old _ _ c.as_slice-bytes.ensures.value c.as_slice-old.ensures.value c.in_default.ensures.same in
    page_none (state_of c.args.page.now) bytes old c.args.from c.saturating_sub.result c.requires.ascending refl refl c.saturating_sub.ensures
    (same_widened bytes old c.saturating_sub.result c.args.page.now.first c.args.page.now.past c.max-begin.result (length bytes) c.requires.stores.front c.requires.stores.back c.max-begin.ensures same)

pub returns : goal.returns
returns c =
    let f = c.in-Some.ensures.differs in
    let d = c.difference_length-length.ensures in
    let bytes = c.args.page.now.bytes.items in
    let old = c.args.page.now.before.items in
    let found = same_in _ bytes _ old _ _ c.as_slice-bytes.ensures.value c.as_slice-old.ensures.value c.in-Some.ensures.same in
    let same = same_to_find bytes old c.saturating_sub.result c.args.page.now.first c.max-begin.result c.in-Some.start c.requires.stores.front c.max-begin.ensures found in
    page_some (state_of c.args.page.now) c.as_slice-bytes.result.now c.as_slice-old.result.now c.args.from c.saturating_sub.result c.in-Some.start c.difference_length-length.result _ c.requires.ascending c.as_slice-bytes.ensures.value c.as_slice-old.ensures.value c.saturating_sub.ensures (omega (arith, f.0, c.max-begin.ensures)) d.some d.inside
    (same_in bytes _ old _ _ _ (sym c.as_slice-bytes.ensures.value) (sym c.as_slice-old.ensures.value) same) d.all d.ends refl refl
