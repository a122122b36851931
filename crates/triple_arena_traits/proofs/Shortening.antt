-- How free slots at the end are popped.
use Rattle.std.proofs.Common.{◌≡◌, ℕ, zero, suc, ◌-◌, ◌<◌, ◌≤◌, ◌⊎◌, true, false, List, [], ◌∷◌, length, take, Option, Some, None, max, refl, sym, ap, subst, ◌∙◌, inl, inr, arith}
use Rattle.std.proofs.lemmas.List.{length-take-le}
use Rattle.triple_arena_traits.specs.Items.{item}
use Rattle.triple_arena_traits.specs.ArenaState.{is_free}
use Rattle.triple_arena_traits.specs.FreeList.{put_before, trimmed}
use Rattle.triple_arena_traits.specs.laws.ItemLaws.{front_popped}
use Rattle.triple_arena_traits.specs.laws.FreeListLaws.{trimmed_popped, trimmed_done, trimmed_length, trimmed_last}
use Rattle.triple_arena_traits.specs.FreeEnd.{shortened}

module _ {A : Type 0} where
  pub take_all : (xs : List A) (n : ℕ) → length xs ≤ n → take n xs ≡ xs
  take_all [] zero h = refl
  take_all [] (suc n) h = refl
  take_all (x ∷ xs) zero h = absurd (omega arith)
  take_all (x ∷ xs) (suc n) h = ap (λ l. x ∷ l) (take_all xs n (omega arith))

module _ {T : Type 0} where
  -- popping so far: what is left is a front of the slots, up to their last entry and up to index m
  pub record Pops (m : ℕ) (old now : List (Option (ℕ × T))) : Type 0 where
    pub same : trimmed now ≡ trimmed old
    pub front : now ≡ take (length now) old
    pub enough : (length now ≡ length old) ⊎ (m ≤ length now)

  pub pops_start : (m : ℕ) (old : List (Option (ℕ × T))) → Pops m old old
  pops_start m old = record { same = refl; front = sym (take_all old (length old) (omega arith)); enough = inl refl }

  pub pops_more : (m : ℕ) (old now : List (Option (ℕ × T))) → m < length now → is_free (item now (length now)) ≡ true → Pops m old now → Pops m old (take (length now - 1) now)
  pops_more m old now more free pops =
      let shorter : length (take (length now - 1) now) ≡ length now - 1 = length-take-le (length now - 1) now (omega arith) in
      record {
        same = trimmed_popped now free ∙ pops.same;
        front = front_popped old now pops.front;
        enough = inr (omega (arith, shorter, more));
      }

  pub pops_end : (m : ℕ) (old now : List (Option (ℕ × T))) → (length now ≤ m) ⊎ (is_free (item now (length now)) ≡ false) → Pops m old now → now ≡ shortened m old
  pops_end m old now end pops =
      elim pops.enough [
        | inl all ↦ let whole : now ≡ old = pops.front ∙ take_all old (length now) (omega (arith, all)) in whole ∙ sym (take_all old (max (length (trimmed old)) m) (by_end (omega (arith, all, trimmed_length old)) end))
        | inr enough ↦ pops.front ∙ ap (λ n. take n old) (by_count enough end)
      ]
    where
      lengths : length (trimmed old) ≤ length now
      lengths = omega (arith, trimmed_length now, ap length pops.same)

      by_end : length old ≤ length now → (length now ≤ m) ⊎ (is_free (item now (length now)) ≡ false) → length old ≤ max (length (trimmed old)) m
      by_end all (inl few) = omega (arith, all, few)
      by_end all (inr live) = omega (arith, all, ap length (trimmed_done now live), ap length pops.same)

      by_count : m ≤ length now → (length now ≤ m) ⊎ (is_free (item now (length now)) ≡ false) → length now ≡ max (length (trimmed old)) m
      by_count enough (inl few) = omega (arith, enough, few, lengths)
      by_count enough (inr live) = omega (arith, enough, lengths, ap length (trimmed_done now live), ap length pops.same)

  before_front : (x : Option (ℕ × T)) (ys xs : List (Option (ℕ × T))) → ys ≡ take (length ys) xs → put_before x ys ≡ take (length (put_before x ys)) (x ∷ xs)
  before_front (Some e) ys xs front = ap (λ l. Some e ∷ l) front
  before_front None [] xs front = refl
  before_front None (y ∷ ys) xs front = ap (λ l. None ∷ l) front

  -- the slots up to the last entry are the front of the slots
  pub trimmed_front : (xs : List (Option (ℕ × T))) → trimmed xs ≡ take (length (trimmed xs)) xs
  trimmed_front [] = refl
  trimmed_front (x ∷ xs) = before_front x (trimmed xs) xs (trimmed_front xs)

  -- with no slot to be left they are all that is left
  pub shortened_to_none : (xs : List (Option (ℕ × T))) → shortened 0 xs ≡ trimmed xs
  shortened_to_none xs = let most : max (length (trimmed xs)) 0 ≡ length (trimmed xs) = omega arith in ap (λ n. take n xs) most ∙ sym (trimmed_front xs)

  -- slots that are as many as up to the last entry end with it
  pub ends_live : (xs : List (Option (ℕ × T))) → length (trimmed xs) ≡ length xs → is_free (item xs (length xs)) ≡ false
  ends_live xs all =
      let whole : trimmed xs ≡ xs = trimmed_front xs ∙ take_all xs (length (trimmed xs)) (omega (arith, all)) in
      subst (λ ys. is_free (item ys (length ys)) ≡ false) whole (trimmed_last xs)
