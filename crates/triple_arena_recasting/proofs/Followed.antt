-- An arena whose values are recast: by the map of its pointers to themselves, and by that of its new pointers.
use Rattle.std.proofs.Common.{◌≡◌, ℕ, List, [], length, map, Option, Some, refl, sym, ap, subst, ◌∙◌}
use Rattle.std.proofs.lemmas.List.{length-map}
use Rattle.std.specs.List.{range_with_len}
use Rattle.std.specs.Option.{option_map}
use Rattle.triple_arena_base.specs.Held.{KeepsHeld, held_all, refill_all}
use Rattle.triple_arena_base.specs.HeldLists.{length_refill_all, refill_all_held}
use Rattle.triple_arena_ptr.specs.Pointers.{Pointer}
use Rattle.triple_arena_traits.specs.Items.{with_item}
use Rattle.triple_arena_traits.specs.Entries.{entry_in, look_up, entry_count, with_value_in}
use Rattle.triple_arena_traits.specs.Walks.{entries, keys, values}
use Rattle.triple_arena_traits.specs.Recasting.{written, recast_values}
use Rattle.triple_arena_traits.specs.laws.CompressionLaws.{length-keys}
use Rattle.triple_arena_traits.proofs.EntryWalks.{written_same}
use Rattle.triple_arena_recasting.proofs.Resolving.{items_stay}
use Rattle.triple_arena_recasting.proofs.WrittenValues.{compressed_written}

module _ {P V T A : Type 0} (numbers : P → Pointer) (live : List (Option (ℕ × V))) (held : T → List P) (refill : T → List P → T) (keeps : KeepsHeld held refill)
    (slots : A → List (Option (ℕ × T))) (with_value : A → ℕ → T → A)
    (same : (a : A) (i : ℕ) (e : ℕ × T) → entry_in (slots a) i ≡ Some e → with_value a i e.1 ≡ a)
    (sets : (a : A) (i : ℕ) (v : T) → slots (with_value a i v) ≡ with_value_in (slots a) i v) where
  -- recasting by the map of the live pointers to themselves changes nothing
  pub unchanged : (image : P → Option P) (old new : A) → ((p : P) → image p ≡ option_map (λ _. p) (look_up live (numbers p)))
      → new ≡ written with_value (keys (slots old)) (recast_values held refill image (values (slots old))) old → new ≡ old
  unchanged image old new own is =
      let stay : recast_values held refill image (values (slots old)) ≡ values (slots old) =
      ap (refill_all held refill (values (slots old))) (items_stay numbers live image own (held_all held (values (slots old))))
      ∙ refill_all_held held refill keeps (values (slots old)) in
      is ∙ ap (λ vs. written with_value (keys (slots old)) vs old) stay
      ∙ written_same held refill keeps image slots with_value same sets old [] (entries (slots old)) refl

-- values that are recast after a compression might have been given back in it
pub recast_compressed : {P T A : Type 0} (held : T → List P) (refill : T → List P → T) (image : P → Option P) (slots : A → List (Option (ℕ × T))) (with_value : A → ℕ → T → A)
    → (compresses : List T → A → Type 0) → ((vs : List T) (new : A) (i : ℕ) (v : T) → compresses vs new → compresses (with_item vs i v) (with_value new i v))
    → (rank : Pointer → Pointer) (old mid new : A) (vs : List T) → map (λ p. p.0) (map rank (keys (slots old))) ≡ range_with_len 1 (entry_count (slots old))
    → length vs ≡ entry_count (slots old) → compresses vs mid → keys (slots mid) ≡ map rank (keys (slots old)) → values (slots mid) ≡ vs
    → new ≡ written with_value (keys (slots mid)) (recast_values held refill image (values (slots mid))) mid
    → compresses (recast_values held refill image vs) new
recast_compressed {T = T} held refill image slots with_value compresses law rank old mid new vs ranked long is ks stand state =
    let news : List T = recast_values held refill image vs in
    let many : length (keys (slots mid)) ≡ entry_count (slots old) = ap length ks ∙ length-map (keys (slots old)) rank ∙ length-keys (slots old) in
    let count : map (λ (p : Pointer). p.0) (keys (slots mid)) ≡ range_with_len 1 (length (keys (slots mid))) = ap (map (λ p. p.0)) ks ∙ ranked ∙ ap (range_with_len 1) (sym many) in
    let as_many : length vs ≡ length (keys (slots mid)) = long ∙ sym many in
    let final : new ≡ written with_value (keys (slots mid)) news mid = state ∙ ap (λ ws. written with_value (keys (slots mid)) (recast_values held refill image ws) mid) stand in
    subst (compresses news) (sym final)
    (compressed_written with_value compresses law vs news (keys (slots mid)) mid count as_many (length_refill_all held refill vs _ ∙ as_many) is)
