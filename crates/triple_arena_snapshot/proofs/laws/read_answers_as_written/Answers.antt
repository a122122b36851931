use Rattle.std.proofs.Common.{◌≡◌, ◌∙◌, refl, Option, None, Some, is_some, length, sym, ap, arith}
use Rattle.std.proofs.lemmas.List.{length-map}
use Rattle.std.specs.Option.{option_map}
use Rattle.triple_arena_traits.specs.ArenaState.{map_entry}
use Rattle.triple_arena_traits.specs.Entries.{look_up}
use Rattle.triple_arena_traits.specs.Insertion.{place_among}
use Rattle.triple_arena_traits.specs.laws.LookUpLaws.{found_mapped}
use Rattle.triple_arena_snapshot.proofs.laws.read_answers_as_written.Goals as goal

some_mapped : {A B : Type 0} (f : A → B) (o : Option A) → is_some (option_map f o) ≡ is_some o
some_mapped f None = refl
some_mapped f (Some a) = refl

pub returns-clause-look_ups : goal.returns-clause-look_ups
returns-clause-look_ups g c = λ written read p same.
    sym (found_mapped g.T.Codec.content read.slots p) ∙ ap (λ k. look_up k.0 p) same ∙ found_mapped g.T.Codec.content written.slots p

pub returns-clause-next : goal.returns-clause-next
returns-clause-next g c = λ written read same.
    let f = option_map (map_entry g.T.Codec.content) in
    let slots = sym (length-map read.slots f) ∙ ap (λ k. length k.0) same ∙ length-map written.slots f in
    ap (λ k. (place_among k.1.1 (length read.slots), k.1.0)) same ∙ ap (λ n. (place_among written.free n, written.counter)) slots

pub returns-clause-history : goal.returns-clause-history
returns-clause-history g c = λ written read same h fits.
    let content = g.T.Codec.content in
    let counter : read.counter ≡ written.counter = ap (λ k. k.1.0) same in
    record {
      given_once = fits.given_once;
      live = λ p.
          sym (some_mapped content (look_up read.slots p)) ∙ ap is_some (returns-clause-look_ups g c written read p same)
          ∙ some_mapped content (look_up written.slots p) ∙ fits.live p;
      given_by_now = λ p was. omega (arith, counter, fits.given_by_now p was);
      ended_before = λ p was. omega (arith, counter, fits.ended_before p was);
    }

pub returns-clause-direct_look_ups : goal.returns-clause-direct_look_ups
returns-clause-direct_look_ups g c = λ written read p same.
    sym (found_mapped g.T.Codec.content read.slots p) ∙ ap (λ slots. look_up slots p) same ∙ found_mapped g.T.Codec.content written.slots p
