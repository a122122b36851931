use Rattle.triple_arena_surject.proofs.Unions.{doubled}
use Rattle.triple_arena_surject.proofs.laws.unions_double_sets.Goals as goal

pub returns : goal.returns
returns g c = λ s ts r k n m made often has also. doubled s ts r k n m made often has also
