use Rattle.std.proofs.Common.{◌≤◌, ◌∙◌, ℕ, Some, ◌-◌, ◌^◌, length, sym, arith}
use Rattle.std.proofs.lemmas.List.{length-map}
use Rattle.std.specs.Option.{option_map}
use Rattle.triple_arena_ptr.specs.Numbers.{greatest_index}
use Rattle.triple_arena.specs.ArenaState.{ArenaState, map_entry}
use Rattle.triple_arena_snapshot.specs.ArenaCodings.{most_slots}
use Rattle.triple_arena_snapshot_uses.specs.SetPoints.{set_points_content}
use Rattle.triple_arena_snapshot_uses.proofs.Contents.{same_numbers, of_loaded}
use Rattle.triple_arena_snapshot_uses.proofs.set_points.load_set_points.Goals as goal

within : (saved : ArenaState ℕ) → length saved.slots ≤ 16 → length (set_points_content saved).0 ≤ most_slots (Some 16) (greatest_index (2 ^ 64 - 1))
within saved few = omega (arith, few, length-map saved.slots (option_map (map_entry (λ n. n))))

pub returns-clause-again : goal.returns-clause-again
returns-clause-again g c = λ saved fits few is.
    c.load_arena.ensures.again (set_points_content saved)
    (c.fits_under_another_limit.ensures.arena saved.limit (Some 16) (set_points_content saved) fits (within saved few)) is

pub returns-clause-found : goal.returns-clause-found
returns-clause-found g c = λ saved fits few is.
    of_loaded set_points_content (set_points_content saved) _ c.load_arena.result (returns-clause-again g c saved fits few is)
    (λ points same q. sym (same_numbers _) ∙ c.read_answers_as_written.ensures.look_ups saved points q same ∙ same_numbers _)

pub returns-clause-next : goal.returns-clause-next
returns-clause-next g c = λ saved fits few is.
    of_loaded set_points_content (set_points_content saved) _ c.load_arena.result (returns-clause-again g c saved fits few is)
    (λ points same. c.read_answers_as_written.ensures.next saved points same)
