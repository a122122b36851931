-- Readings that follow names: of an item itself, and of an `Option`, a list, a `Vec` and a pair of values.
use Rattle.std.proofs.Common.{◌≡◌, Option, Some, None, List, [], ◌∷◌, ◌++◌, map, length, take, drop, refl, ap, ◌∙◌}
use Rattle.std.specs.Option.{option_map}
use Rattle.std.specs.declared.vec.Vec.{Vec}
use Rattle.triple_arena_base.specs.Held.{held_itself, refill_itself, held_option, refill_option, held_all, refill_all}
use Rattle.triple_arena_base.specs.HeldVecs.{held_vec, refill_vec, items_refilled}
use Rattle.triple_arena_base.specs.HeldPairs.{held_both, refill_both}
use Rattle.triple_arena_base.specs.Readings.{FollowsNames}

module _ {I N : Type 0} (name : I → N) where
  pub itself_follows : FollowsNames name held_itself refill_itself name (λ rename. rename)
  itself_follows rename x [] names = absurd (cc)
  itself_follows rename x (y ∷ l) names = cc

  -- where the names of items in two parts are renamed, those in each part are
  pub names_split : (rename : N → N) (a b l : List I) → map name l ≡ map rename (map name (a ++ b))
      → (map name (take (length a) l) ≡ map rename (map name a)) × (map name (drop (length a) l) ≡ map rename (map name b))
  names_split rename [] b [] names = (refl, names)
  names_split rename [] b (y ∷ l) names = (refl, names)
  names_split rename (x ∷ a) b [] names = absurd (cc)
  names_split rename (x ∷ a) b (y ∷ l) names =
      let here : name y ≡ rename (name x) = cc in
      let rest = names_split rename a b l (cc) in
      (ap (λ n. n ∷ map name (take (length a) l)) here ∙ ap (λ ns. rename (name x) ∷ ns) rest.0, rest.1)

  module _ {T R : Type 0} (held : T → List I) (refill : T → List I → T) (read : T → R) (renamed : (N → N) → R → R) where
    module _ (follows : FollowsNames name held refill read renamed) where
      pub option_follows : FollowsNames name (held_option held) (refill_option refill) (option_map read) (λ rename. option_map (renamed rename))
      option_follows rename None l names = refl
      option_follows rename (Some t) l names = ap Some (follows rename t l names)

      all_follows : FollowsNames name (held_all held) (refill_all held refill) (map read) (λ rename. map (renamed rename))
      all_follows rename [] l names = refl
      all_follows rename (x ∷ xs) l names =
          let parts = names_split rename (held x) (held_all held xs) l names in
          ap (λ r. r ∷ map read (refill_all held refill xs (drop (length (held x)) l))) (follows rename x (take (length (held x)) l) parts.0)
          ∙ ap (λ rs. renamed rename (read x) ∷ rs) (all_follows rename xs (drop (length (held x)) l) parts.1)

      pub vec_follows : {Z : Type 0} → FollowsNames name (held_vec {Z = Z} held refill) (refill_vec held refill) (λ v. map read v.items) (λ rename. map (renamed rename))
      vec_follows rename v l names = ap (map read) (items_refilled held refill v l) ∙ all_follows rename v.items l names

    module _ {U Q : Type 0} (held_second : U → List I) (refill_second : U → List I → U) (read_second : U → Q) (renamed_second : (N → N) → Q → Q) where
      pub both_follows : FollowsNames name held refill read renamed → FollowsNames name held_second refill_second read_second renamed_second
          → FollowsNames {R = R × Q} name (held_both held refill held_second refill_second) (refill_both held refill held_second refill_second) (λ p. (read p.0, read_second p.1)) (λ rename r. (renamed rename r.0, renamed_second rename r.1))
      both_follows first second rename p l names =
          let parts = names_split rename (held p.0) (held_second p.1) l names in
          ap (λ r. (r, read_second (refill_second p.1 (drop (length (held p.0)) l)))) (first rename p.0 (take (length (held p.0)) l) parts.0)
          ∙ ap (λ r. (renamed rename (read p.0), r)) (second rename p.1 (drop (length (held p.0)) l) parts.1)
