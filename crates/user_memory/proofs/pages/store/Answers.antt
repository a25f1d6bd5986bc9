use Rattle.std.proofs.Common.{◌≡◌, ◌+◌, ◌-◌, ◌/◌, ◌∙◌, ℕ, refl, subst, sym, arith}
use Rattle.user_memory.specs.Places.{IsPlaceOf}
use Rattle.user_memory.specs.States.{states_of}
use Rattle.user_memory.proofs.Ranges.{store_turn, with_bytes_none}
use Rattle.user_memory.proofs.pages.store.Goals as goal

pub loop-done-init : goal.loop-done-init
loop-done-init c = record {
  within = omega arith;
  after = omega arith;
  inside = c.requires.places.inside;
  here = λ some. omega arith;
  places = c.requires.places;
  so_far = sym (with_bytes_none (states_of c.args.pages.now) c.args.at);
  ascending = c.requires.ascending;
  stores = c.requires.stores;
  front = λ k d lt. refl;
  back = λ k d le. refl;
}

pub store_in_page-requires-clause-place : goal.store_in_page-requires-clause-place
store_in_page-requires-clause-place c =
    let here : c.loop-done.place ≡ c.args.first + ((c.args.at + c.loop-done.done) / 4096 - c.args.at / 4096) = c.loop-done.invariant.here (omega arith) in
    subst (λ (i : ℕ). IsPlaceOf c.loop-done.pages ((c.args.at + c.loop-done.done) / 4096) i) (sym here) (c.loop-done.invariant.places.each (c.args.at + c.loop-done.done) (omega arith) (omega arith))

pub loop-done-preserved : goal.loop-done-preserved
loop-done-preserved c =
    let old = c.loop-done.invariant in
    let new = c.store_in_page.ensures in
    let here : c.loop-done.place ≡ c.args.first + ((c.args.at + c.loop-done.done) / 4096 - c.args.at / 4096) = old.here (omega arith) in
    let place : IsPlaceOf c.loop-done.pages ((c.args.at + c.loop-done.done) / 4096) c.loop-done.place =
    subst (λ (i : ℕ). IsPlaceOf c.loop-done.pages ((c.args.at + c.loop-done.done) / 4096) i) (sym here) (old.places.each (c.args.at + c.loop-done.done) (omega arith) (omega arith)) in
    record {
      within = omega arith;
      after = omega (arith, old.after);
      inside = omega (arith, (new.places _ _ place).inside);
      here = λ some. omega (arith, here);
      places = record { inside = omega (arith, old.places.inside); each = λ b lo hi. new.places _ _ (old.places.each b lo hi) };
      so_far = store_turn (states_of c.args.pages.now) (states_of c.loop-done.pages) (states_of c.store_in_page.new.pages) c.args.at c.loop-done.done c.length_in_page.result c.args.from.now (omega arith) old.so_far new.stored;
      ascending = new.ascending;
      stores = new.stores;
      front = λ k d lt. new.others k d (λ e. omega (arith, old.after)) ∙ old.front k d lt;
      back = λ k d le. new.others k d (λ e. omega arith) ∙ old.back k d (omega arith);
    }
