-- Laws of entries that are ended under one raise of the counter.
use Rattle.std.proofs.Common.{◌≡◌, ◌≢◌, ℕ, ◌+◌, ◌<◌, ◌≤◌, ◌==◌, ◌&&◌, ◌||◌, Bool, true, false, not, cond, List, [], ◌∷◌, is_some, refl, sym, ap, ◌∙◌, inl, inr, arith, true≢false, if◌then◌else◌}
use Rattle.std.specs.Prelude.{filter}
use Rattle.std.specs.Option.{option_and_then}
use Rattle.std.proofs.lemmas.Bool.{cases_eq}
use Rattle.triple_arena_ptr.specs.Numbers.{Generations, raise, wraps}
use Rattle.triple_arena_ptr.specs.Pointers.{Pointer, is_same}
use Rattle.triple_arena_traits.specs.Entries.{look_up, value_of_generation}
use Rattle.triple_arena_traits.specs.ArenaState.{ArenaState, entry, arena_len, capacity}
use Rattle.triple_arena_traits.specs.Ending.{removed}
use Rattle.triple_arena_traits.specs.Compression.{raised_if_any}
use Rattle.triple_arena_traits.specs.Walks.{keys}
use Rattle.triple_arena_traits.specs.Histories.{has, clearing, is_live, Fits, Continues}
use Rattle.triple_arena_traits.specs.laws.EntryLaws.{slots-removed, capacity-removed}
use Rattle.triple_arena_traits.specs.laws.ItemLaws.{eq_true, eq_false}
use Rattle.triple_arena_traits.specs.laws.WellFormedLaws.{counter-removed, limit-removed}
use Rattle.triple_arena_traits.specs.laws.PointerListLaws.{has-keys, same_is, live_in}
use Rattle.triple_arena_traits.specs.laws.HistoryLaws.{Continues-moved, Continues-none, Fits-empty}
use Rattle.triple_arena_direct.specs.StrictAnswers.{is_exhausted_for_any}
use Rattle.triple_arena_direct.specs.StrictRetain.{without_entries, ended_entries, pointers_lost}

-- where generations count and a raise does not wrap, it gives a greater one
up : (generations : Generations) (n : ℕ) → generations.counting ≡ true → wraps generations n ≡ false → n < raise generations n
up generations n counts quiet = by generations.counting counts quiet
  where
    by : (counting : Bool) → counting ≡ true → (counting && (n == generations.greatest)) ≡ false → n < cond counting (if n == generations.greatest then 2 else n + 1) n
    by true counts quiet = rw quiet (omega arith)
    by false counts quiet = absurd (true≢false (sym counts))

-- what a list that leaves some out has
has-filter : (g : Pointer → Bool) (ks : List Pointer) (p : Pointer) → has (filter g ks) p ≡ (has ks p && g p)
has-filter g [] p = refl
has-filter g (k ∷ ks) p = by (is_same p k) (g k) refl refl (has-filter g ks p)
  where
    none : (b : Bool) → false ≡ (b && false)
    none true = refl
    none false = refl

    by : (same keeps : Bool) → is_same p k ≡ same → g k ≡ keeps → has (filter g ks) p ≡ (has ks p && g p) → has (cond keeps (k ∷ filter g ks) (filter g ks)) p ≡ ((same || has ks p) && g p)
    by true true is kept rest = rw is (sym (ap g (same_is p k is) ∙ kept))
    by true false is kept rest = rest ∙ ap (λ b. has ks p && b) (ap g (same_is p k is) ∙ kept) ∙ sym (none (has ks p)) ∙ sym (ap g (same_is p k is) ∙ kept)
    by false true is kept rest = rw is rest
    by false false is kept rest = rest

-- what was there, and isn't lost
still : (l m : Bool) → (m ≡ true → l ≡ true) → m ≡ ((l && not (l && not m)) || false)
still true true h = refl
still true false h = refl
still false true h = absurd (true≢false (sym (h refl)))
still false false h = refl

lost_parts : (l m : Bool) → (l && not m) ≡ true → (l ≡ true) × (m ≡ false)
lost_parts true true h = absurd (true≢false (sym h))
lost_parts true false h = (refl, refl)
lost_parts false m h = absurd (true≢false (sym h))

lost_if : (l m : Bool) → l ≡ true → m ≡ false → (l && not m) ≡ true
lost_if true false h k = refl
lost_if true true h k = absurd (true≢false k)
lost_if false m h k = absurd (true≢false (sym h))

module _ {T : Type 0} where
  -- a pointer is lost exactly where the first arena has it and the second has not
  pub has-lost : (s t : ArenaState T) (p : Pointer) → has (pointers_lost s t) p ≡ (is_live s p && not (is_live t p))
  has-lost s t p = has-filter (λ q. not (is_live t q)) (keys s.slots) p ∙ ap (λ b. b && not (is_live t p)) (has-keys s p)

  pub lost_one : (s t : ArenaState T) (p : Pointer) → is_live s p ≡ true → is_live t p ≡ false → has (pointers_lost s t) p ≡ true
  lost_one s t p was gone = has-lost s t p ∙ lost_if (is_live s p) (is_live t p) was gone

  -- where no pointer is new, and the counter rises where one is lost, the lost ones are ended
  pub Continues-lost : (s t : ArenaState T) → ((p : Pointer) → is_live t p ≡ true → is_live s p ≡ true) → s.counter ≤ t.counter → ((p : Pointer) → is_live s p ≡ true → is_live t p ≡ false → s.counter < t.counter) → Continues Fits s (clearing (pointers_lost s t) ∷ []) t
  Continues-lost s t none_new rises raised =
      Continues-moved s t (clearing (pointers_lost s t))
      (record {
        live = λ p. still (is_live s p) (is_live t p) (none_new p) ∙ ap (λ b. (is_live s p && not b) || false) (sym (has-lost s t p));
        once = tt;
        fresh = λ p e. absurd (true≢false (sym e));
        ends = λ p e.
            let both = lost_parts (is_live s p) (is_live t p) (sym (has-lost s t p) ∙ e) in
            (both.0, raised p both.0 both.1);
        rises = rises;
      })

  -- a removal leaves what it doesn't take out
  kept_by : (raises : ℕ → ℕ) (s : ArenaState T) (i : ℕ) (q : Pointer) → is_live (removed raises s i) q ≡ true → look_up (removed raises s i).slots q ≡ look_up s.slots q
  kept_by raises s i q live =
      let t : ArenaState T = removed raises s i in
      let change = slots-removed raises s i t refl in
      elim (cases_eq q.0 i) [
        | inl here ↦ absurd (true≢false (sym live ∙ ap (live_in q.1) (ap (entry t) here ∙ change.there)))
        | inr other ↦ ap (option_and_then (value_of_generation q.1)) (change.others q.0 other)
      ]

  pub kept-without : (gone : List Pointer) (s : ArenaState T) (q : Pointer) → is_live (without_entries gone s) q ≡ true → look_up (without_entries gone s).slots q ≡ look_up s.slots q
  kept-without [] s q live = refl
  kept-without (p ∷ ps) s q live =
      let m : ArenaState T = removed (λ n. n) s p.0 in
      let later = kept-without ps m q live in
      later ∙ kept_by (λ n. n) s p.0 q (sym (ap is_some later) ∙ live)

  pub counter-without : (gone : List Pointer) (s : ArenaState T) → (without_entries gone s).counter ≡ s.counter
  counter-without [] s = refl
  counter-without (p ∷ ps) s = counter-without ps (removed (λ n. n) s p.0) ∙ counter-removed (λ n. n) s p.0

  -- limit and capacity stay
  limit-without : (gone : List Pointer) (s : ArenaState T) → (without_entries gone s).limit ≡ s.limit
  limit-without [] s = refl
  limit-without (p ∷ ps) s = limit-without ps (removed (λ n. n) s p.0) ∙ limit-removed (λ n. n) s p.0

  capacity-without : (gone : List Pointer) (s : ArenaState T) → capacity (without_entries gone s) ≡ capacity s
  capacity-without [] s = refl
  capacity-without (p ∷ ps) s =
      let t : ArenaState T = removed (λ n. n) s p.0 in
      capacity-without ps t ∙ capacity-removed (λ n. n) s p.0 t refl

  module _ (raises : ℕ → ℕ) where
    pub limit-ended : (gone : List Pointer) (s : ArenaState T) → (ended_entries raises gone s).limit ≡ s.limit
    limit-ended [] s = refl
    limit-ended (p ∷ ps) s = limit-without (p ∷ ps) s

    pub capacity-ended : (gone : List Pointer) (s : ArenaState T) → capacity (ended_entries raises gone s) ≡ capacity s
    capacity-ended [] s = refl
    capacity-ended (p ∷ ps) s = capacity-without (p ∷ ps) s

    -- what stands stays under its pointer
    pub kept-ended : (gone : List Pointer) (s : ArenaState T) (q : Pointer) → is_live (ended_entries raises gone s) q ≡ true → look_up (ended_entries raises gone s).slots q ≡ look_up s.slots q
    kept-ended [] s q live = refl
    kept-ended (p ∷ ps) s q live = kept-without (p ∷ ps) s q live

    none_live : (s : ArenaState T) (p : Pointer) → arena_len s ≡ 0 → is_live s p ≡ false
    none_live s p none = (Fits-empty s none).live p

    raised_rises : (s : ArenaState T) → (arena_len s ≢ 0 → s.counter < raises s.counter) → s.counter ≤ raised_if_any raises s
    raised_rises s rise =
        elim (cases_eq (arena_len s) 0) [
          | inl none ↦ rw (eq_true (arena_len s) 0 none) (omega arith)
          | inr some ↦ rw (eq_false (arena_len s) 0 some) (omega (arith, rise some))
        ]

    raised_for : (s : ArenaState T) (p : Pointer) → (arena_len s ≢ 0 → s.counter < raises s.counter) → is_live s p ≡ true → s.counter < raised_if_any raises s
    raised_for s p rise live =
        let some : arena_len s ≢ 0 = λ none. true≢false (sym live ∙ none_live s p none) in
        rw (eq_false (arena_len s) 0 some) (rise some)

    Continues-ended_by : (gone : List Pointer) (s : ArenaState T) → (arena_len s ≢ 0 → s.counter < raises s.counter) → Continues Fits s (clearing (pointers_lost s (ended_entries raises gone s)) ∷ []) (ended_entries raises gone s)
    Continues-ended_by [] s rise =
        Continues-lost s s (λ p live. live) (omega arith) (λ p was gone. absurd (true≢false (sym was ∙ gone)))
    Continues-ended_by (p ∷ ps) s rise =
        Continues-lost s (ended_entries raises (p ∷ ps) s)
        (λ q live. sym (ap is_some (kept-ended (p ∷ ps) s q live)) ∙ live)
        (raised_rises s rise)
        (λ q was gone. raised_for s q rise was)

  -- so each history goes on, where the counter isn't exhausted
  pub Continues-ended : (generations : Generations) (gone : List Pointer) (s : ArenaState T) → generations.counting ≡ true → is_exhausted_for_any generations s ≡ false → Continues Fits s (clearing (pointers_lost s (ended_entries (raise generations) gone s)) ∷ []) (ended_entries (raise generations) gone s)
  Continues-ended generations gone s counts allowed =
      Continues-ended_by (raise generations) gone s
      (λ some. up generations s.counter counts (sym (ap (λ b. cond b false (wraps generations s.counter)) (eq_false (arena_len s) 0 some)) ∙ allowed))

  -- a raise that does not wrap takes every history that fits along
  pub Continues-raised : (generations : Generations) (s : ArenaState T) → generations.counting ≡ true → is_exhausted_for_any generations s ≡ false → Continues Fits s [] (record s { counter = raised_if_any (raise generations) s })
  Continues-raised generations s counts allowed =
      Continues-none s (record s { counter = raised_if_any (raise generations) s }) (λ p. refl)
      (raised_rises (raise generations) s
      (λ some. up generations s.counter counts (sym (ap (λ b. cond b false (wraps generations s.counter)) (eq_false (arena_len s) 0 some)) ∙ allowed)))
