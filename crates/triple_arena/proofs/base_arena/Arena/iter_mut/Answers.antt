use Rattle.std.proofs.Common.{refl, sym, ap, length, ◌∙◌, arith}
use Rattle.std.proofs.lemmas.List.{length-map}
use Rattle.triple_arena_traits.specs.Walks.{entries}
use Rattle.triple_arena_traits.specs.laws.ValueLaws.{keeps_pointers}
use Rattle.triple_arena_traits.specs.laws.WalkLaws.{length-entries}
use Rattle.triple_arena_traits.specs.laws.HistoryLaws.{Continues-values_of}
use Rattle.triple_arena_traits.proofs.Listing.{count_within}
use Rattle.triple_arena.proofs.base_arena.Arena.iter_mut.Goals as goal

pub returns : goal.returns
returns g c =
    let rest = ap entries c.lend_slots.ensures.slots in (
      (refl, λ w. refl),
      record {
        writes_back = tt;
        keeps = keeps_pointers c.args.self.now;
        written = Continues-values_of c.args.self.now;
        rest = rest;
        len = ap length rest ∙ length-entries c.args.self.now.slots;
        fits = omega (arith, count_within c.args.self.now.slots);
      },
    )

pub invariant_of-result-2 : goal.invariant_of-result-2
invariant_of-result-2 g c = (
  c.slot_count-left.ensures.value ∙ sym (ap length c.lend_slots.ensures.slots) ∙ length-map c.lend_slots.result.now _,
  omega (arith, c.slot_count-left.ensures.indexed),
  c.len-entries_left.ensures.value ∙ sym (ap length (ap entries c.lend_slots.ensures.slots) ∙ length-entries c.args.self.now.slots),
)
