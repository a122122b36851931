use Rattle.std.proofs.Common.{◌≡◌, ◌∙◌, ◌+◌, ◌-◌, ◌^◌, length, min, sym, ap, refl, arith}
use Rattle.std.specs.Int.NonZero.{non_zero_usize_get}
use Rattle.triple_arena_traits.specs.Lent.{lent_rest}
use Rattle.triple_arena_slots.specs.Slot.{entry_of}
use Rattle.triple_arena_traits.specs.laws.PointerListLaws.{pointer_is}
use Rattle.triple_arena_traits.proofs.Lending.{behind_first, generation_there, first_lent, one_lent, first_passed, none_left}
use Rattle.triple_arena.proofs.arena_iterators.iter_mut.IterMutIterator.next.Goals as goal

pub slots-init : goal.slots-init
slots-init g c = record { rest = refl; counted = c.self.invariant.0; indexed = c.self.invariant.1; entries = refl }

pub generation-generation-requires-after_bounds : goal.generation-generation-requires-after_bounds
generation-generation-requires-after_bounds g c κs within = omega (arith, c.slots.invariant.counted, c.slots-test.true)

pub unwrap-inx-requires : goal.unwrap-inx-requires
unwrap-inx-requires g c =
    c.try_from_usize.ensures.variant.1 (omega (arith, c.slots.invariant.indexed, c.slots-test.true))

pub unwrap-requires : goal.unwrap-requires
unwrap-requires g c =
    let read = c.generation-generation.ensures in
    let lent = c.pass.ensures in
    generation_there g.P.Gen.PtrGen.number (entry_of g.P.Gen.PtrGen.number) _ _ _ _ c.slots.self-inside.slots.now _ c.in-Some.value.now read.2 (ap (λ s. s.now) (sym read.3) ∙ lent.1) read.4 (rw c.in-Some.is at lent.2)

pub slots-preserved : goal.slots-preserved
slots-preserved g c =
    let entry = entry_of g.P.Gen.PtrGen.number in
    let s = c.slots.self-inside in
    let lent = c.pass.ensures in
    let at = ap (λ s. s.now) (sym c.generation-generation.ensures.3) ∙ lent.1 in
    let next : non_zero_usize_get c.saturating_add-self-inside.result ≡ min (non_zero_usize_get s.next + 1) (2 ^ 64 - 1) = omega (arith, c.saturating_add-self-inside.ensures) in
    let behind = behind_first g.P.Gen.PtrGen.number entry (non_zero_usize_get s.next) _ (2 ^ 64 - 1) c.pass.new.self.now next (omega (arith, ap length at, c.slots.invariant.counted, c.slots.invariant.indexed)) in
    record {
      rest = first_passed g.P.Gen.PtrGen.number entry _ _ _ _ s.slots.now at (rw c.in_default.is at lent.2) behind ∙ c.slots.invariant.rest;
      counted = omega (arith, ap length at, c.slots.invariant.counted);
      entries = c.slots.invariant.entries;
      indexed = omega (arith, next, c.slots.invariant.indexed, c.slots-test.true);
    }

pub returns-in-Some-clause-steps : goal.returns-in-Some-clause-steps
returns-in-Some-clause-steps g c =
    let number = g.P.Gen.PtrGen.number in
    let entry = entry_of number in
    let s = c.slots.self-inside in
    let read = c.generation-generation.ensures in
    let lent = c.pass.ensures in
    let at = ap (λ s. s.now) (sym read.3) ∙ lent.1 in
    let next : non_zero_usize_get c.saturating_add-self-inside.result ≡ min (non_zero_usize_get s.next + 1) (2 ^ 64 - 1) = omega (arith, c.saturating_add-self-inside.ensures) in
    let behind = behind_first number entry (non_zero_usize_get s.next) _ (2 ^ 64 - 1) c.pass.new.self.now next (omega (arith, ap length at, c.slots.invariant.counted, c.slots.invariant.indexed)) in
    let pointer = g.met.P.Ptr.numbers_of c._from_raw-p.result ∙ pointer_is _ _ _ _ (ap g.P.Inx.PtrInx.number c._from_raw-p.ensures.index ∙ rw c.unwrap-inx.ensures at c.try_from_usize.ensures.number) (ap number c._from_raw-p.ensures.generation) in
    sym (ap lent_rest c.self.view_is) ∙ sym c.slots.invariant.rest
    ∙ first_lent number entry _ _ _ _ _ _ s.slots.now _ c.unwrap.result c.in-Some.value.now _ read.2 at c.unwrap.ensures read.4 (rw c.in-Some.is at lent.2) behind pointer

pub returns-in-Some-clause-goes : goal.returns-in-Some-clause-goes
returns-in-Some-clause-goes g c =
    record {
      on = λ f. (tt, tt, omega (arith, ap length (returns-in-Some-clause-steps g c)));
      keeps = tt;
      rests = λ f. tt;
    }

pub returns-clause-steps : goal.returns-clause-steps
returns-clause-steps g c =
    let none = none_left g.P.Gen.PtrGen.number (entry_of g.P.Gen.PtrGen.number) (non_zero_usize_get c.slots.self-inside.next) c.slots.self-inside.slots.now (omega (arith, c.slots.invariant.counted, c.slots-test.false)) in
    (sym (ap lent_rest c.self.view_is) ∙ sym c.slots.invariant.rest ∙ none, none)

pub overflow_sub-self-in-Some : goal.overflow_sub-self-in-Some
overflow_sub-self-in-Some g c =
    let entry = entry_of g.P.Gen.PtrGen.number in
    let s = c.slots.self-inside in
    let lent = c.pass.ensures in
    let at = ap (λ s. s.now) (sym c.generation-generation.ensures.3) ∙ lent.1 in
    let next : non_zero_usize_get c.saturating_add-self-inside.result ≡ min (non_zero_usize_get s.next + 1) (2 ^ 64 - 1) = omega (arith, c.saturating_add-self-inside.ensures) in
    let behind = behind_first g.P.Gen.PtrGen.number entry (non_zero_usize_get s.next) _ (2 ^ 64 - 1) c.pass.new.self.now next (omega (arith, ap length at, c.slots.invariant.counted, c.slots.invariant.indexed)) in
    let one = one_lent g.P.Gen.PtrGen.number entry _ _ _ _ s.slots.now _ at (rw c.in-Some.is at lent.2) behind in
    let left = c.slots.invariant.entries ∙ c.self.invariant.2 ∙ sym (ap length c.slots.invariant.rest) in
    omega (arith, one, left)

pub invariant_of-self-in-Some : goal.invariant_of-self-in-Some
invariant_of-self-in-Some g c =
    let entry = entry_of g.P.Gen.PtrGen.number in
    let s = c.slots.self-inside in
    let lent = c.pass.ensures in
    let at = ap (λ s. s.now) (sym c.generation-generation.ensures.3) ∙ lent.1 in
    let next : non_zero_usize_get c.saturating_add-self-inside.result ≡ min (non_zero_usize_get s.next + 1) (2 ^ 64 - 1) = omega (arith, c.saturating_add-self-inside.ensures) in
    let behind = behind_first g.P.Gen.PtrGen.number entry (non_zero_usize_get s.next) _ (2 ^ 64 - 1) c.pass.new.self.now next (omega (arith, ap length at, c.slots.invariant.counted, c.slots.invariant.indexed)) in
    let one = one_lent g.P.Gen.PtrGen.number entry _ _ _ _ s.slots.now _ at (rw c.in-Some.is at lent.2) behind in
    let left = c.slots.invariant.entries ∙ c.self.invariant.2 ∙ sym (ap length c.slots.invariant.rest) in (
      omega (arith, ap length at, c.slots.invariant.counted),
      omega (arith, next, c.slots.invariant.indexed, c.slots-test.true),
      omega (arith, one, left),
    )

pub invariant_of-self : goal.invariant_of-self
invariant_of-self g c = (
  c.slots.invariant.counted,
  c.slots.invariant.indexed,
  c.slots.invariant.entries ∙ c.self.invariant.2 ∙ sym (ap length c.slots.invariant.rest),
)
