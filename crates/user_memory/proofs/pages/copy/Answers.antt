use Rattle.std.proofs.Common.{◌≡◌, ◌+◌, ◌-◌, ◌/◌, ℕ, subst, sym, arith}
use Rattle.std.proofs.lemmas.List.{length-take, length-drop}
use Rattle.user_memory.specs.Pages.{byte_at}
use Rattle.user_memory.specs.Places.{IsPlaceOf}
use Rattle.user_memory.specs.States.{states_of}
use Rattle.user_memory.proofs.Ranges.{copy_turn, list_from_none}
use Rattle.user_memory.proofs.pages.copy.Goals as goal

pub loop-done-init : goal.loop-done-init
loop-done-init c = record { within = omega arith; here = λ some. omega arith; so_far = sym (list_from_none (byte_at (states_of c.args.pages.now)) c.args.at) }

pub copy_in_page-requires-clause-place : goal.copy_in_page-requires-clause-place
copy_in_page-requires-clause-place c =
    let here : c.loop-done.place ≡ c.args.first + ((c.args.at + c.loop-done.done) / 4096 - c.args.at / 4096) = c.loop-done.invariant.here (omega arith) in
    subst (λ (i : ℕ). IsPlaceOf c.args.pages.now ((c.args.at + c.loop-done.done) / 4096) i) (sym here) (c.requires.places.each (c.args.at + c.loop-done.done) (omega arith) (omega arith))

pub loop-done-preserved : goal.loop-done-preserved
loop-done-preserved c =
    let here : c.loop-done.place ≡ c.args.first + ((c.args.at + c.loop-done.done) / 4096 - c.args.at / 4096) = c.loop-done.invariant.here (omega arith) in
    record {
      within = omega arith;
      here = λ some. omega (arith, here);
      so_far = copy_turn (byte_at (states_of c.args.pages.now)) c.loop-done.into c.copy_in_page.new.into c.args.at c.loop-done.done c.length_in_page.result _ (omega arith) (simp (length-take, length-drop) (omega arith)) c.loop-done.invariant.so_far c.copy_in_page.ensures;
    }
