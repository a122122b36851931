-- Laws of pointers that are gone for good, by the histories that fit an arena.
use Rattle.std.proofs.Common.{◌≡◌, ◌<◌, ◌≤◌, ◌&&◌, ◌||◌, Bool, true, false, not, List, [], ◌∷◌, ◌++◌, Option, Some, None, is_some, refl, sym, ap, ◌∙◌, arith, true≢false}
use Rattle.std.proofs.lemmas.Bool.{and_parts}
use Rattle.triple_arena_ptr.specs.Pointers.{Pointer, is_same}
use Rattle.triple_arena_traits.specs.Entries.{look_up}
use Rattle.triple_arena_traits.specs.ArenaState.{ArenaState, arena_len}
use Rattle.triple_arena_traits.specs.Walks.{keys}
use Rattle.triple_arena_traits.specs.Histories.{has, ModelCall, removal, ended_by, History, begun_with, and_then, given, ended, followed_by, is_live, Fits, Continues}
use Rattle.triple_arena_traits.specs.laws.HistoryLaws.{Fits-keys, Fits-empty, gone_for_good}
use Rattle.triple_arena_traits.specs.laws.PointerListLaws.{has-append, has_head, has_one, one_is, same_is, or_no, distinct-append, distinct-keys, has-keys}
use Rattle.triple_arena_direct.specs.Gone.{IsUpToCounter, IsGoneForGood}

none_of : {T : Type 0} (o : Option T) → is_some o ≡ false → o ≡ None
none_of None e = refl
none_of (Some x) e = absurd (true≢false e)

or_first : (a b : Bool) → a ≡ true → (a || b) ≡ true
or_first true b e = refl
or_first false b e = absurd (true≢false (sym e))

and_true : (b : Bool) → b ≡ (b && true)
and_true true = refl
and_true false = refl

-- what has ended stays ended
ended-followed : (p : Pointer) (h : History) (calls : List ModelCall) → has (ended h) p ≡ true → has (ended (followed_by h calls)) p ≡ true
ended-followed p h [] e = e
ended-followed p h (call ∷ calls) e =
    ended-followed p (and_then h call) calls (has-append (ended h) (ended_by call) p ∙ or_first (has (ended h) p) (has (ended_by call) p) e)

module _ {T : Type 0} where
  -- whatever history fits an arena, no entry is of a generation that the counter has not come to
  pub up_to-fits : (h : History) (s : ArenaState T) → Fits h s → IsUpToCounter s
  up_to-fits h s fits p live = fits.given_by_now p (and_parts (has (given h) p) (not (has (ended h) p)) (sym (fits.live p) ∙ live)).0

  -- and what has ended in it is gone for good
  gone-fits : (h : History) (s : ArenaState T) → Fits h s → (p : Pointer) → has (ended h) p ≡ true → IsGoneForGood s p
  gone-fits h s fits p e = (none_of (look_up s.slots p) (gone_for_good h [] s p e fits), fits.ended_before p e)

  -- without entries, each pointer of a generation below the counter is gone for good
  pub gone-below : (s : ArenaState T) (p : Pointer) → arena_len s ≡ 0 → p.1 < s.counter → IsGoneForGood s p
  gone-below s p none below = (none_of (look_up s.slots p) ((Fits-empty s none).live p), below)

  -- the history of an arena's own pointers, and of one more that is gone for good
  Fits-gone : (s : ArenaState T) (p : Pointer) → IsUpToCounter s → IsGoneForGood s p → Fits (and_then (begun_with (p ∷ keys s.slots)) (removal p)) s
  Fits-gone s p up_to gone =
      record {
        given_once = distinct-append (p ∷ keys s.slots) [] (absent, distinct-keys s) tt (λ q e. absurd (true≢false (sym e)));
        live = λ q.
            live_if q (is_same q p) refl
            ∙ sym (ap (λ b. b && not (has (p ∷ []) q)) (first q) ∙ ap (λ b. (is_same q p || has (keys s.slots) q) && not b) (has_one q p));
        given_by_now = λ q e. below q (is_same q p) refl (sym (first q) ∙ e);
        ended_before = λ q e. omega (arith, gone.1, ap (λ (x : Pointer). x.1) (one_is q p e));
      }
    where
      absent : has (keys s.slots) p ≡ false
      absent = has-keys s p ∙ ap is_some gone.0

      first : (q : Pointer) → has ((p ∷ keys s.slots) ++ []) q ≡ (is_same q p || has (keys s.slots) q)
      first q = has-append (p ∷ keys s.slots) [] q ∙ or_no (has (p ∷ keys s.slots) q) false refl

      live_if : (q : Pointer) (b : Bool) → is_same q p ≡ b → is_live s q ≡ ((b || has (keys s.slots) q) && not b)
      live_if q true same = ap (is_live s) (same_is q p same) ∙ ap is_some gone.0
      live_if q false other = sym (has-keys s q) ∙ and_true (has (keys s.slots) q)

      below : (q : Pointer) (b : Bool) → is_same q p ≡ b → (b || has (keys s.slots) q) ≡ true → q.1 ≤ s.counter
      below q true same e = omega (arith, gone.1, ap (λ (x : Pointer). x.1) (same_is q p same))
      below q false other e = up_to q (sym (has-keys s q) ∙ e)

  module _ (s t : ArenaState T) (up_to : IsUpToCounter s) where
    -- model calls leave no entry of a generation that the counter has not come to
    pub up_to-continues : (calls : List ModelCall) → Continues Fits s calls t → IsUpToCounter t
    up_to-continues calls continues = up_to-fits (followed_by (begun_with (keys s.slots)) calls) t (continues (begun_with (keys s.slots)) (Fits-keys s up_to))

    -- what is gone for good stays so
    pub gone-continues : (calls : List ModelCall) → Continues Fits s calls t → (p : Pointer) → IsGoneForGood s p → IsGoneForGood t p
    gone-continues calls continues p gone =
        let h = and_then (begun_with (p ∷ keys s.slots)) (removal p) in
        gone-fits (followed_by h calls) t (continues h (Fits-gone s p up_to gone)) p (ended-followed p h calls (has_head p []))

    -- and what a model call ends is gone for good
    pub ended-continues : (call : ModelCall) → Continues Fits s (call ∷ []) t → (p : Pointer) → has (ended_by call) p ≡ true → IsGoneForGood t p
    ended-continues call continues p e =
        gone-fits (and_then (begun_with (keys s.slots)) call) t (continues (begun_with (keys s.slots)) (Fits-keys s up_to)) p e
