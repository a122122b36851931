use Rattle.std.proofs.Common.{◌≡◌, [], map, ap, rules}
use Rattle.triple_arena.specs.ArenaState.{arena_len}
use Rattle.triple_arena.specs.Histories.{begun_with}
use Rattle.triple_arena.specs.laws.HistoryLaws.{Fits-empty}
use Rattle.triple_arena_uses.specs.Entities.{p0_numbers}
use Rattle.triple_arena_uses.proofs.guest_book.GuestBook.new.Goals as goal

pub invariant_of-result : goal.invariant_of-result
invariant_of-result c kept =
    let none : [] ≡ map p0_numbers c.new.result.items = search rules in
    (begun_with [], Fits-empty c.on_heap.result (ap arena_len c.on_heap.ensures), none)
