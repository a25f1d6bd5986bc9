use Rattle.std.proofs.Common.{◌≡◌, refl, [], ◌∷◌, sym, ◌∙◌}
use Rattle.std.proofs.lemmas.List.{take_rest}
use Rattle.message_layouts.specs.Controls.{behind_first, first_control}
use Rattle.message_layouts.specs.Walks.{messages_in}
use Rattle.message_layouts.proofs.Walk.{first_left, none_left}
use Rattle.message_layouts.proofs.native_controls.NativeControls.next.Goals as goal

pub returns-then-bytes-lt-NATIVE_HEADER-clause-first : goal.returns-then-bytes-lt-NATIVE_HEADER-clause-first
returns-then-bytes-lt-NATIVE_HEADER-clause-first c =
    let none : c.args.self.now ≡ [] = sym c.self.view_is ∙ none_left c.self.inside.rest.now c.if-bytes-lt-NATIVE_HEADER.true in
    rw none refl

pub returns-then-bytes-lt-NATIVE_HEADER-clause-others : goal.returns-then-bytes-lt-NATIVE_HEADER-clause-others
returns-then-bytes-lt-NATIVE_HEADER-clause-others c =
    let none : c.args.self.now ≡ [] = sym c.self.view_is ∙ none_left c.self.inside.rest.now c.if-bytes-lt-NATIVE_HEADER.true in
    rw none refl

pub next_place-requires-clause-low : goal.next_place-requires-clause-low
next_place-requires-clause-low c = (first_left c.self.inside.rest.now c.if-bytes-lt-NATIVE_HEADER.false c.self.invariant).low

pub next_place-requires-clause-high : goal.next_place-requires-clause-high
next_place-requires-clause-high c = (first_left c.self.inside.rest.now c.if-bytes-lt-NATIVE_HEADER.false c.self.invariant).high

pub first_message-requires-clause-low : goal.first_message-requires-clause-low
first_message-requires-clause-low c = (first_left c.self.inside.rest.now c.if-bytes-lt-NATIVE_HEADER.false c.self.invariant).low

pub first_message-requires-clause-high : goal.first_message-requires-clause-high
first_message-requires-clause-high c = (first_left c.self.inside.rest.now c.if-bytes-lt-NATIVE_HEADER.false c.self.invariant).high

pub invariant_of-self : goal.invariant_of-self
invariant_of-self c =
    let others = (first_left c.self.inside.rest.now c.if-bytes-lt-NATIVE_HEADER.false c.self.invariant).others in
    rw (take_rest c.self.inside.rest.now c.next_place.result, c.next_place.ensures.place) others

pub returns-clause-first : goal.returns-clause-first
returns-clause-first c =
    let first : c.args.self.now ≡ first_control 8 c.self.inside.rest.now ∷ messages_in (behind_first 8 c.self.inside.rest.now) =
    sym c.self.view_is ∙ (first_left c.self.inside.rest.now c.if-bytes-lt-NATIVE_HEADER.false c.self.invariant).first in
    rw (first, c.first_message.ensures) refl

pub returns-clause-others : goal.returns-clause-others
returns-clause-others c =
    let first : c.args.self.now ≡ first_control 8 c.self.inside.rest.now ∷ messages_in (behind_first 8 c.self.inside.rest.now) =
    sym c.self.view_is ∙ (first_left c.self.inside.rest.now c.if-bytes-lt-NATIVE_HEADER.false c.self.invariant).first in
    rw (first, take_rest c.self.inside.rest.now c.next_place.result, c.next_place.ensures.place) refl
