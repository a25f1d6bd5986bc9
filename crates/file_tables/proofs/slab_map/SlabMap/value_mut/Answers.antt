use Rattle.std.proofs.Common.{refl, ap, ◌∙◌, Some}
use Rattle.file_tables.proofs.SlabSteps.{are_held_in_place, held_in_place, value_held}
use Rattle.file_tables.proofs.slab_map.SlabMap.value_mut.Goals as goal

pub invariant_of-self-lent : goal.invariant_of-self-lent
invariant_of-self-lent g c w =
    (are_held_in_place c.self.inside.values c.self.inside.places c.args.number c.in-Some.place.now c.index_mut.result.now w c.self.invariant.0 c.in-Some.ensures c.index_mut.ensures.value, c.self.invariant.1)

pub returns : goal.returns
returns g c = (
  (refl, λ w. held_in_place c.self.inside.values c.self.inside.places c.args.self.now c.args.number c.in-Some.place.now c.index_mut.result.now w c.self.invariant.0 c.self.invariant.1 c.self.view_is c.in-Some.ensures c.index_mut.ensures.value),
  record {
    writes_back = tt;
    value = value_held c.self.inside.values c.self.inside.places c.args.self.now c.args.number c.in-Some.place.now c.index_mut.result.now c.self.invariant.0 c.self.view_is c.in-Some.ensures c.index_mut.ensures.value ∙ ap Some c.value_mut.ensures.value;
  },
)
