use Rattle.std.proofs.Common.{refl, arith, ◌<◌}
use Rattle.triple_arena_stack.proofs.PairLemmas.{joined-set_both, joined-set_both-swapped, item_in_front, item_at_cut, below}
use Rattle.triple_arena_stack.proofs.pair.pair_of.Goals as goal

pub returns-then-i-j : goal.returns-then-i-j
returns-then-i-j g c =
    let cut = c.split_at_mut-front.ensures in (
      ((refl, refl), λ x y. joined-set_both _ _ _ _ _ x y cut.value cut.front_len c.if-i-j.true),
      record {
        first = item_in_front _ _ _ _ _ cut.value (omega arith) c.index-front-i.is;
        second = item_at_cut _ _ _ _ _ cut.value cut.front_len (omega arith) c.index-back-0.is;
        writes_back = tt;
      },
    )

pub returns-else-i-j : goal.returns-else-i-j
returns-else-i-j g c =
    let cut = c.split_at_mut-front-else-i-j.ensures in
    let lt : c.args.j < c.args.i = below c.args.i c.args.j c.if-i-j.false c.requires.apart in (
      ((refl, refl), λ x y. joined-set_both-swapped _ _ _ _ _ x y cut.value cut.front_len lt),
      record {
        first = item_at_cut _ _ _ _ _ cut.value cut.front_len (omega arith) c.index-back-0-else-i-j.is;
        second = item_in_front _ _ _ _ _ cut.value (omega arith) c.index-front-j.is;
        writes_back = tt;
      },
    )
