use Rattle.std.proofs.Common.{refl, ap, ◌∙◌}
use Rattle.std.specs.Option.{option_map}
use Rattle.triple_arena_surject.specs.Surject.{SurjectState, key_of}
use Rattle.triple_arena_surject.proofs.States.{read}
use Rattle.triple_arena_surject.proofs.surject.SurjectArena.clear.Goals as goal

pub returns-clause-empty : goal.returns-clause-empty
returns-clause-empty g c =
    let numbers = g.P.Ptr.numbers in
    let keys = c.clear-2.new.self in
    let old = c.self.inside.sets in
    let sets = c.clear.new.self in
    let emptied = c.clear-2.ensures.empty in
    let done = c.clear.ensures.done in
    record {
      none = λ q. (read numbers sets keys (g.B.ArenaStates.slots sets) (g.B.ArenaStates.capacity sets) (g.B.ArenaStates.limit sets) _ refl).keys q ∙ ap (option_map (key_of numbers)) (emptied.none q);
      len_keys = emptied.len;
      len_vals = g.met.B.ArenaLaws.len_cleared old sets done;
      key_capacity = emptied.capacity ∙ ap (λ (s : SurjectState g.row.A.Denot g.row.B.Denot g.row.K.Denot g.row.V.Denot). s.key_capacity) c.self.view_is;
      key_limit = emptied.limit ∙ ap (λ (s : SurjectState g.row.A.Denot g.row.B.Denot g.row.K.Denot g.row.V.Denot). s.key_limit) c.self.view_is;
      val_capacity = g.met.B.ArenaLaws.capacity_cleared old sets done ∙ ap (λ (s : SurjectState g.row.A.Denot g.row.B.Denot g.row.K.Denot g.row.V.Denot). s.val_capacity) c.self.view_is;
      val_limit = g.met.B.ArenaLaws.limit_cleared old sets done ∙ ap (λ (s : SurjectState g.row.A.Denot g.row.B.Denot g.row.K.Denot g.row.V.Denot). s.val_limit) c.self.view_is;
    }
