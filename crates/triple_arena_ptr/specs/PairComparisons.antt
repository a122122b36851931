-- Comparisons of two pairs, each of whose parts are compared alike.
use Rattle.std.specs.Prelude.{◌≡◌, Bool, true, false, ◌&&◌, refl}
use Rattle.std.specs.Ordering.{ordering_then}
use Rattle.std.specs.declared.cmp.Ordering.{Ordering}
use Rattle.std.specs.declared.cmp.Ordering.TheVariants.{Less, Equal, Greater}
use Rattle.std.proofs.Common.{◌∙◌}
use Rattle.triple_arena_ptr.specs.NonZeroValues.{same_whole}

and_true : (a : Bool) → (a && true) ≡ a
and_true true = refl
and_true false = refl

then_equal : (o : Ordering) → ordering_then o Equal ≡ o
then_equal Less = refl
then_equal Equal = refl
then_equal Greater = refl

-- behind the parts a third is compared, of which there is one value
pub pairs_equal : (a b c d : Bool) → a ≡ b → c ≡ d → (a && (c && true)) ≡ (b && d)
pairs_equal a b c d e f = same_whole ◌&&◌ a b (c && true) d e (and_true c ∙ f)

pub pairs_in_order : (a b c d : Ordering) → a ≡ b → c ≡ d
    → ordering_then a (ordering_then c Equal) ≡ ordering_then b d
pairs_in_order a b c d e f = same_whole ordering_then a b (ordering_then c Equal) d e (then_equal c ∙ f)
