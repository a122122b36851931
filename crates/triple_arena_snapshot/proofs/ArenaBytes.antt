-- An arena's bytes, part by part.
use Rattle.std.proofs.Common.{◌≡◌, ℕ, ◌≤◌, List, [], ◌∷◌, ◌++◌, map, Option, Some, None, Result, Ok, refl, ap, ◌∙◌, append_assoc, arith}
use Rattle.std.specs.Prelude.{OnOk}
use Rattle.std.proofs.lemmas.Result.{on_ok_weaker}
use Rattle.triple_arena_stack.specs.Capacity.{IsWithin}
use Rattle.triple_arena_snapshot.specs.Coding.{Reading, Decoded, ◌>>=◌}
use Rattle.triple_arena_snapshot.specs.ArenaCodings.{most_slots}

pub map_twice : {X Y Z : Type 0} (f : Y → Z) (g : X → Y) (xs : List X) → map (λ x. f (g x)) xs ≡ map f (map g xs)
map_twice f g [] = refl
map_twice f g (x ∷ xs) = ap (λ ys. f (g x) ∷ ys) (map_twice f g xs)

-- so many as fit are no more than limit and indexes allow
pub within_most : (limit : Option ℕ) (n most greatest : ℕ) → n ≤ most → most ≤ greatest → IsWithin limit most → n ≤ most_slots limit greatest
within_most None n most greatest fits indexed allowed = omega (arith, fits, indexed)
within_most (Some limit) n most greatest fits indexed allowed = omega (arith, fits, indexed, allowed)

-- what is written behind a header
pub behind_header : {X E : Type 0} (r : Result X E) (out mid new greatest : List ℕ) (width : ℕ) (body same : List ℕ) → mid ≡ out ++ greatest ++ (width ∷ []) → body ≡ same → OnOk r (new ≡ mid ++ body) → OnOk r (new ≡ out ++ (greatest ++ (width ∷ same)))
behind_header r out mid new greatest width body same header is =
    on_ok_weaker r (λ e. e ∙ ap (λ (x : List ℕ). x ++ body) header ∙ append_assoc (out ++ greatest) (width ∷ []) body ∙ append_assoc out greatest (width ∷ body) ∙ ap (λ (x : List ℕ). out ++ (greatest ++ (width ∷ x))) is)

-- what is read behind a header
pub read_behind : {K : Type 0} (decoding : List ℕ → Decoded K) (header : Reading (List ℕ)) (bytes rest : List ℕ) (k same : K) → header ≡ Ok bytes → decoding bytes ≡ Ok (k, rest) → k ≡ same → (header >>= decoding) ≡ Ok (same, rest)
read_behind decoding header bytes rest k same h d is = rw (h, d, is) refl
