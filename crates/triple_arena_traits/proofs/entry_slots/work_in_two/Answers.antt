use Rattle.std.proofs.Common.{refl}
use Rattle.triple_arena_traits.proofs.entry_slots.work_in_two.Goals as goal

pub returns : goal.returns
returns g c = record {
  first_value = c.value_mut.result.now;
  second_value = c.value_mut-2.result.now;
  first_left = c.at.new.first;
  second_left = c.at.new.second;
  first_is = c.value_mut.ensures.value;
  second_is = c.value_mut-2.ensures.value;
  called = c.at.ensures;
  left = (refl, refl);
}
