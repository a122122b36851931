-- Bytes that end within a mark.
use Rattle.std.proofs.Common.{◌≡◌, ℕ, ◌<◌, List, [], ◌∷◌, length, drop, Err, sym, ◌∙◌, arith}
use Rattle.std.proofs.lemmas.List.{at_drop_more}
use Rattle.triple_arena_snapshot.specs.declared.fault.Fault.{Fault}
use Rattle.triple_arena_snapshot.specs.declared.fault.Fault.TheVariants.{Cut}
use Rattle.triple_arena_snapshot.specs.Coding.{Reading}
use Rattle.triple_arena_snapshot.specs.Marks.{behind}

pub cut_short : (marked : List ℕ) (i : ℕ) (fault : Fault) (rest : List ℕ) (total : Reading (List ℕ)) → i < length marked → length rest < 1
    → behind (drop i marked) fault rest ≡ total → total ≡ Err (Cut, 0)
cut_short marked i fault [] total lt short so_far = sym so_far ∙ at_drop_more (λ ms. behind ms fault []) marked i 0 lt
cut_short marked i fault (b ∷ rest) total lt short so_far = absurd (omega (arith, short))
