-- What slots are, where values alone change.
use Rattle.std.proofs.Common.{◌≡◌, ℕ, suc, List, [], ◌∷◌, ◌++◌, map, length, take, drop, Option, Some, None, refl, sym, ap, subst, ◌∙◌}
use Rattle.std.proofs.Math.Seq.{take-append_seam}
use Rattle.std.specs.List.{refill}
use Rattle.std.specs.Option.{option_map}
use Rattle.triple_arena_traits.specs.Values.{with_value_of, with_values_in}
use Rattle.triple_arena_traits.specs.Kept.{filled, filled_all, kept}

module _ {L T : Type 0} (with_value : L → T → L) where
  pub length-filled : (xs : List L) (es : List (Option (ℕ × T))) → length (filled_all with_value xs es) ≡ length xs
  length-filled [] es = refl
  length-filled (x ∷ xs) [] = refl
  length-filled (x ∷ xs) (e ∷ es) = ap suc (length-filled xs es)

  module _ (entry : L → Option (ℕ × T)) where
    module _ (own : (x : L) (e : ℕ × T) → entry x ≡ Some e → with_value x e.1 ≡ x) where
      filled-own_slot : (x : L) (o : Option (ℕ × T)) → entry x ≡ o → filled with_value x o ≡ x
      filled-own_slot x None is = refl
      filled-own_slot x (Some e) is = own x e is

      -- slots that are filled with their own values stay as they are
      pub filled-own : (xs : List L) → filled_all with_value xs (map entry xs) ≡ xs
      filled-own [] = refl
      filled-own (x ∷ xs) = rw (filled-own_slot x (entry x) refl, filled-own xs) refl

      pub kept-self : (x : L) → kept with_value entry x x ≡ x
      kept-self x = filled-own_slot x (entry x) refl

    module _ (written : (x : L) (v : T) → entry (with_value x v) ≡ option_map (λ (e : ℕ × T). (e.0, v)) (entry x)) where
      module _ (vacant : (x : L) (v : T) → entry x ≡ None → with_value x v ≡ x) where
        pub kept-written : (x : L) (v : T) → kept with_value entry x (with_value x v) ≡ with_value x v
        kept-written x v = ap (filled with_value x) (written x v) ∙ by_entry (entry x) refl
          where
            by_entry : (o : Option (ℕ × T)) → entry x ≡ o → filled with_value x (option_map (λ (e : ℕ × T). (e.0, v)) o) ≡ with_value x v
            by_entry None is = sym (vacant x v is)
            by_entry (Some e) is = refl

      kept_entry : (o : Option (ℕ × T)) → o ≡ with_value_of o None
      kept_entry None = refl
      kept_entry (Some e) = refl

      written_entry : (o : Option (ℕ × T)) (w : ℕ × T) → option_map (λ (e : ℕ × T). (e.0, w.1)) o ≡ with_value_of o (Some w)
      written_entry None w = refl
      written_entry (Some e) w = refl

      entry-filled : (x : L) (e : Option (ℕ × T)) → entry (filled with_value x e) ≡ with_value_of (entry x) e
      entry-filled x None = kept_entry (entry x)
      entry-filled x (Some w) = written x w.1 ∙ written_entry (entry x) w

      pub entries-filled : (xs : List L) (es : List (Option (ℕ × T))) → map entry (filled_all with_value xs es) ≡ with_values_in (map entry xs) es
      entries-filled [] es = refl
      entries-filled (x ∷ xs) [] = refl
      entries-filled (x ∷ xs) (e ∷ es) = rw (entry-filled x e, entries-filled xs es) refl

module _ {L : Type 0} where
  pub refilled : (xs ws : List L) → length ws ≡ length xs → refill (length xs) xs ws ≡ ws
  refilled xs ws long = subst (λ n. take n (ws ++ drop (length ws) xs) ≡ ws) long (take-append_seam ws (drop (length ws) xs))
