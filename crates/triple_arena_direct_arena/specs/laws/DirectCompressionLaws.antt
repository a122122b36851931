-- What a compression leaves of the entries of a direct arena, by their pointers.
use Rattle.std.proofs.Common.{◌≡◌, ℕ, zero, suc, List, [], ◌∷◌, length, map, set, slice_get, Option, Some, None, refl, sym, ap, ◌∙◌}
use Rattle.triple_arena_ptr.specs.Pointers.{Pointer}
use Rattle.std.specs.Option.{option_map}
use Rattle.triple_arena_traits.specs.Items.{with_item}
use Rattle.triple_arena_traits.specs.laws.ItemLaws.{joined}
use Rattle.triple_arena_traits.specs.Entries.{entry_in, entry_count, with_value_in}
use Rattle.triple_arena_traits.specs.Walks.{keys, values}
use Rattle.triple_arena_traits.specs.Compression.{rank_in, placed}
use Rattle.triple_arena_traits.specs.laws.CompressionLaws.{keys-placed, values-placed, value_same}
use Rattle.triple_arena_direct_arena.specs.DirectState.{DirectState, direct_compressed, direct_with_value}

module _ {T : Type 0} where
  -- the generations are those of the old pointers
  pub placed_own : (slots : List (Option (ℕ × T))) (ps : List Pointer) (vs : List T) → placed (map (rank_in None slots) ps) vs ≡ placed ps vs
  placed_own slots [] vs = refl
  placed_own slots (p ∷ ps) [] = refl
  placed_own slots (p ∷ ps) (v ∷ vs) = ap (λ rest. Some (p.1, v) ∷ rest) (placed_own slots ps vs)

  pub keys-compressed : (old new : DirectState T) (vs : List T) → new ≡ direct_compressed old vs → length vs ≡ entry_count old.slots → keys new.slots ≡ map (rank_in None old.slots) (keys old.slots)
  keys-compressed old new vs is many =
      ap (λ (s : DirectState T). keys s.slots) is ∙ ap keys (sym (placed_own old.slots (keys old.slots) vs)) ∙ keys-placed None old.slots vs many

  pub values-compressed : (old new : DirectState T) (vs : List T) → new ≡ direct_compressed old vs → length vs ≡ entry_count old.slots → values new.slots ≡ vs
  values-compressed old new vs is many =
      ap (λ (s : DirectState T). values s.slots) is ∙ ap values (sym (placed_own old.slots (keys old.slots) vs)) ∙ values-placed None old.slots vs many

  set_placed : (ps : List Pointer) (vs : List T) (k : ℕ) (v : T)
      → set (placed ps vs) k (option_map (λ (e : ℕ × T). (e.0, v)) (joined (slice_get (placed ps vs) k))) ≡ placed ps (set vs k v)
  set_placed [] vs k v = refl
  set_placed (p ∷ ps) [] k v = refl
  set_placed (p ∷ ps) (w ∷ vs) zero v = refl
  set_placed (p ∷ ps) (w ∷ vs) (suc k) v = ap (λ l. Some (p.1, w) ∷ l) (set_placed ps vs k v)

  write_placed : (ps : List Pointer) (vs : List T) (i : ℕ) (v : T) → with_value_in (placed ps vs) i v ≡ placed ps (with_item vs i v)
  write_placed ps vs zero v = refl
  write_placed ps vs (suc k) v = set_placed ps vs k v

  pub compressed-with_value : (old new : DirectState T) (vs : List T) (i : ℕ) (v : T) → new ≡ direct_compressed old vs → direct_with_value new i v ≡ direct_compressed old (with_item vs i v)
  compressed-with_value old new vs i v is =
      ap (λ (s : DirectState T). direct_with_value s i v) is ∙ ap (λ slots. record old { slots = slots }) (write_placed (keys old.slots) vs i v)

  pub with_value-same : (s : DirectState T) (i : ℕ) (e : ℕ × T) → entry_in s.slots i ≡ Some e → direct_with_value s i e.1 ≡ s
  with_value-same s i e h = ap (λ slots. record s { slots = slots }) (value_same s.slots i e h)
