use Rattle.std.proofs.Common.{◌≡◌, length, arith, ◌∙◌}
use Rattle.std.proofs.lemmas.List.{length-map}
use Rattle.triple_arena_ptr.specs.Pointers.{Pointer}
use Rattle.triple_arena.specs.Entries.{look_up, entry_count}
use Rattle.triple_arena.specs.Walks.{keys, entries}
use Rattle.triple_arena.specs.laws.WalkLaws.{live_key, length-entries}
use Rattle.triple_arena_chain.specs.Chains.{Node}
use Rattle.triple_arena_chain.specs.laws.RestLaws.{answers_rest}
use Rattle.triple_arena_chain.proofs.laws.walks_along_chains.Goals as goal

pub returns : goal.returns
returns g c = λ slots len p ps linked counted there answers.
    let all : length (keys slots) ≡ entry_count slots = length-map (entries slots) (λ (e : Pointer × Node g.row.T.Denot). e.0) ∙ length-entries slots in
    answers_rest (look_up slots) linked p len ps (keys slots) there answers (live_key slots) (omega (arith, all, counted))
