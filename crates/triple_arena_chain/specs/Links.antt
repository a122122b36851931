-- What recasting goes through: the pointers of a link, and the link with others in their places.
use Rattle.std.specs.Prelude.{List}
use Rattle.triple_arena_base.specs.Held.{held_option, refill_option}
use Rattle.triple_arena_base.specs.HeldPairs.{held_both, refill_both}
use Rattle.triple_arena_chain.specs.declared.link.Link.{Link}

module _ {I P T : Type 0} (held : P → List I) (refill : P → List I → P) where
  abbrev pub link_held : Link P T → List I
  link_held link = held_both (held_option held) (refill_option refill) (held_option held) (refill_option refill) (link.before, link.after)

  abbrev pub link_refill : Link P T → List I → Link P T
  link_refill link l =
      let ends = refill_both (held_option held) (refill_option refill) (held_option held) (refill_option refill) (link.before, link.after) l in
      record link { before = ends.0; after = ends.1 }
