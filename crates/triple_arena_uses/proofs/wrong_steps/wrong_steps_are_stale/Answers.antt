use Rattle.std.proofs.Common.{◌≡◌, ◌&&◌, ◌||◌, ◌∷◌, ◌++◌, [], Bool, true, false, not, List, refl, sym, ap, ◌∙◌, arith, true≢false}
use Rattle.std.proofs.lemmas.Bool.{and_parts}
use Rattle.triple_arena_ptr.specs.Pointers.{Pointer}
use Rattle.triple_arena.specs.Histories.{has, given, ended}
use Rattle.triple_arena.specs.laws.PointerListLaws.{has-append, has_head, distinct_last}
use Rattle.triple_arena_uses.proofs.wrong_steps.wrong_steps_are_stale.Goals as goal

or_true : (a : Bool) → (a || true) ≡ true
or_true true = refl
or_true false = refl

and_not_true : (a : Bool) → (a && not true) ≡ false
and_not_true true = refl
and_not_true false = refl

-- the last of a list is in it
last_in : (ps : List Pointer) (p : Pointer) → has (ps ++ p ∷ []) p ≡ true
last_in ps p = has-append ps (p ∷ []) p ∙ ap (λ b. has ps p || b) (has_head p []) ∙ or_true (has ps p)

pub returns-clause-removal : goal.returns-clause-removal
returns-clause-removal g c h s t p fits now stays continues =
    omega (arith, (continues h fits).ended_before p (last_in (ended h) p), now, stays)

pub returns-clause-invalidation : goal.returns-clause-invalidation
returns-clause-invalidation g c h s t p fits live continues =
    true≢false (sym (and_parts (has (given h) p) (not (has (ended h) p)) (sym (fits.live p) ∙ live)).0 ∙ distinct_last (given h) p (continues h fits).given_once)

pub returns-clause-look_up : goal.returns-clause-look_up
returns-clause-look_up g c h p e = ap (λ b. has (given h) p && not b) e ∙ and_not_true (has (given h) p)
