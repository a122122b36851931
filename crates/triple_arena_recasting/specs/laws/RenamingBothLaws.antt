-- What follows where pointers of two kinds are renamed, one kind after the other.
use Rattle.std.proofs.Common.{◌≡◌, ℕ, List, [], ◌∷◌, ◌++◌, map, Option, Some, None, IsSome, refl, sym, ap, ◌∙◌}
use Rattle.std.proofs.lemmas.Option.{same_Some}
use Rattle.std.specs.Option.{option_map}
use Rattle.triple_arena_base.specs.Held.{held_all}
use Rattle.triple_arena_base.specs.Readings.{FollowsNames}
use Rattle.triple_arena_ptr.specs.Pointers.{Pointer}
use Rattle.triple_arena_traits.specs.Entries.{look_up}
use Rattle.triple_arena_traits.specs.Walks.{keys, values}
use Rattle.triple_arena_recasting.specs.Renaming.{IsRenamed, AreRenamed}
use Rattle.triple_arena_recasting.specs.RenamingBoth.{StandApart, IsRenamedBoth, AreRenamedBoth, IsFoundRenamedBoth}
use Rattle.triple_arena_recasting.specs.laws.RenamingLaws.{many_renamed, found_moved}

module _ {P Q T : Type 0}
    (numbers : P → Pointer) (rename : Pointer → Pointer) (held : T → List P) (refill : T → List P → T)
    (numbers_too : Q → Pointer) (rename_too : Pointer → Pointer) (held_too : T → List Q) (refill_too : T → List Q → T)
    (apart : StandApart held refill held_too refill_too) where
  -- those of the other kind stay, where those of one kind are renamed
  pub too_stay : (old new : T) → IsRenamed numbers rename held refill old new → held_too new ≡ held_too old
  too_stay old new is = ap held_too is.filled ∙ apart.0 old (held new) (many_renamed numbers rename (held old) (held new) is.holds)

  pub all_too_stay : (olds news : List T) → AreRenamed numbers rename held refill olds news → held_all held_too news ≡ held_all held_too olds
  all_too_stay [] [] all = refl
  all_too_stay [] (y ∷ news) all = absurd all
  all_too_stay (x ∷ olds) [] all = absurd all
  all_too_stay (x ∷ olds) (y ∷ news) all =
      ap (λ l. l ++ held_all held_too news) (too_stay x y all.0) ∙ ap (λ l. held_too x ++ l) (all_too_stay olds news all.1)

  -- a value, where first those of one kind are renamed, and then those of the other
  pub both_renamed : (old mid new : T) → IsRenamed numbers rename held refill old mid → IsRenamed numbers_too rename_too held_too refill_too mid new
      → IsRenamedBoth numbers rename held refill numbers_too rename_too held_too refill_too old new
  both_renamed old mid new is after =
      let same : held new ≡ held mid = ap held after.filled ∙ apart.1 mid (held_too new) (many_renamed numbers_too rename_too (held_too mid) (held_too new) after.holds) in
      record {
        holds = ap (map numbers) same ∙ is.holds;
        holds_too = after.holds ∙ ap (λ qs. map rename_too (map numbers_too qs)) (too_stay old mid is);
        filled = after.filled ∙ ap (λ v. refill_too v (held_too new)) (is.filled ∙ ap (refill old) (sym same));
      }

  -- so of values
  pub all_both_renamed : (olds mids news : List T) → AreRenamed numbers rename held refill olds mids → AreRenamed numbers_too rename_too held_too refill_too mids news
      → AreRenamedBoth numbers rename held refill numbers_too rename_too held_too refill_too olds news
  all_both_renamed [] [] [] all after = tt
  all_both_renamed [] [] (z ∷ news) all after = absurd after
  all_both_renamed [] (y ∷ mids) news all after = absurd all
  all_both_renamed (x ∷ olds) [] news all after = absurd all
  all_both_renamed (x ∷ olds) (y ∷ mids) [] all after = absurd after
  all_both_renamed (x ∷ olds) (y ∷ mids) (z ∷ news) all after = (both_renamed x y z all.0 after.0, all_both_renamed olds mids news all.1 after.1)

module _ {P Q T : Type 0}
    (numbers : P → Pointer) (rename : Pointer → Pointer) (held : T → List P) (refill : T → List P → T)
    (numbers_too : Q → Pointer) (rename_too : Pointer → Pointer) (held_too : T → List Q) (refill_too : T → List Q → T) where
  some_both : (before after : Option T) (v w : T) → before ≡ Some v → after ≡ Some w → IsRenamedBoth numbers rename held refill numbers_too rename_too held_too refill_too v w
      → IsFoundRenamedBoth numbers rename held refill numbers_too rename_too held_too refill_too before after
  some_both before after v w was is renamed =
      rw (was, is) (record { holds = ap Some renamed.holds; holds_too = ap Some renamed.holds_too; pointers = held w; pointers_held = refl; pointers_too = held_too w; pointers_too_held = refl; filled = ap Some renamed.filled })

  -- where entries go to new pointers, each value is found so under its own
  pub found_both : (move : Pointer → Pointer) (old new : List (Option (ℕ × T))) → keys new ≡ map move (keys old)
      → AreRenamedBoth numbers rename held refill numbers_too rename_too held_too refill_too (values old) (values new)
      → (p : Pointer) → IsSome (look_up old p) → IsFoundRenamedBoth numbers rename held refill numbers_too rename_too held_too refill_too (look_up old p) (look_up new (move p))
  found_both move old new ks all p live =
      let found = found_moved (IsRenamedBoth numbers rename held refill numbers_too rename_too held_too refill_too) move old new ks all p live in
      some_both (look_up old p) (look_up new (move p)) found.0 found.1 found.2 found.3 found.4

  -- what is read of what is found is renamed in both ways, where reading follows the names of both kinds, which stand apart
  module _ {R : Type 0} (read : T → R) (renamed renamed_too : (Pointer → Pointer) → R → R) (apart : StandApart held refill held_too refill_too)
      (follows : FollowsNames numbers held refill read renamed) (follows_too : FollowsNames numbers_too held_too refill_too read renamed_too) where
    pub found_read_both : (before after : Option T) → IsFoundRenamedBoth numbers rename held refill numbers_too rename_too held_too refill_too before after
        → option_map read after ≡ option_map (λ r. renamed_too rename_too (renamed rename r)) (option_map read before)
    found_read_both None after is = ap (option_map read) is.filled
    found_read_both (Some v) after is =
        let ps = is.pointers in
        let qs = is.pointers_too in
        let filled = refill_too (refill v ps) qs in
        let holds : held filled ≡ ps = same_Some _ _ (ap (option_map held) (sym is.filled) ∙ is.pointers_held) in
        let holds_too : held_too filled ≡ qs = same_Some _ _ (ap (option_map held_too) (sym is.filled) ∙ is.pointers_too_held) in
        let names : map numbers ps ≡ map rename (map numbers (held v)) = ap (map numbers) (sym holds) ∙ same_Some _ _ (ap (option_map (λ w. map numbers (held w))) (sym is.filled) ∙ is.holds) in
        let names_too : map numbers_too qs ≡ map rename_too (map numbers_too (held_too v)) = ap (map numbers_too) (sym holds_too) ∙ same_Some _ _ (ap (option_map (λ w. map numbers_too (held_too w))) (sym is.filled) ∙ is.holds_too) in
        let stay : held_too (refill v ps) ≡ held_too v = apart.0 v ps (many_renamed numbers rename (held v) ps names) in
        ap (option_map read) is.filled
        ∙ ap Some (follows_too rename_too (refill v ps) qs (names_too ∙ ap (λ xs. map rename_too (map numbers_too xs)) (sym stay)) ∙ ap (renamed_too rename_too) (follows rename v ps names))
