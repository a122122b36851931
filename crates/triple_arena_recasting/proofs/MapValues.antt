-- Values of a map, each of which is replaced by a closure that always answers the same of it.
use Rattle.std.proofs.Common.{◌≡◌, Bool, true, List, ap, ◌∙◌}
use Rattle.std.specs.Map.{keys_of, lookup}
use Rattle.std.specs.Map.Calls.{RetainsPairs}
use Rattle.std.specs.Option.{option_map}
use Rattle.std.proofs.lemmas.Map.Made.{map_same_pairs, lookup-map_values, keys_of-map_values}

module _ {F K V : Type 0} (step : F → K → V → Bool → V → F → Type 0) (f : F) (to : V → V)
    (writes : (k : K) (v : V) (b : Bool) (w : V) (g : F) → step f k v b w g → (b ≡ true) × (w ≡ to v) × (g ≡ f)) (old new : List (K × V)) (kept : RetainsPairs step f old new) where
  pub written_value : (test : K → Bool) → lookup test new ≡ option_map to (lookup test old)
  written_value test = ap (lookup test) (map_same_pairs step to f writes old new kept) ∙ lookup-map_values to test old

  pub written_keys : keys_of new ≡ keys_of old
  written_keys = ap keys_of (map_same_pairs step to f writes old new kept) ∙ keys_of-map_values to old
