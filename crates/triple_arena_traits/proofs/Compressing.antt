-- How the slots look while they are compressed.
use Rattle.std.proofs.Common.{◌≡◌, ℕ, zero, suc, ◌+◌, ◌-◌, ◌<◌, ◌≤◌, List, [], ◌∷◌, ◌++◌, map, length, get_or, set, take, drop, replicate, slice_get, Option, Some, None, IsSome, is_some, cond, refl, sym, ap, ◌∙◌, arith}
use Rattle.std.proofs.lemmas.Option.{same_Some, slice_get-map}
use Rattle.std.proofs.lemmas.Fn.{FoldsTo-push}
use Rattle.std.proofs.lemmas.List.{append_assoc, append-nil, drop_more, drop_all, map_push, length-map, length_push, length-append, length-replicate, replicate_more, take-map}
use Rattle.std.proofs.lemmas.List.Sums.{sum_by_push}
use Rattle.std.specs.List.{FoldsTo}
use Rattle.std.specs.Option.{option_map, unwrap_or}
use Rattle.triple_arena_base.specs.HeldLists.{take_length}
use Rattle.triple_arena_ptr.specs.Pointers.{Pointer}
use Rattle.triple_arena_traits.specs.Items.{item, with_item}
use Rattle.triple_arena_traits.specs.Entries.{entry_count}
use Rattle.triple_arena_traits.specs.Walks.{entries_from, entries, keys_of, keys}
use Rattle.triple_arena_traits.specs.Compression.{rank_in, placed}
use Rattle.triple_arena_traits.specs.Moves.{Move, moved_from, moved_to}
use Rattle.triple_arena_traits.specs.laws.ItemLaws.{map-with_item, item-map_some}

module _ {X : Type 0} where
  slice_get-after : (front : List X) (x : X) (back : List X) → slice_get (front ++ x ∷ back) (length front) ≡ Some x
  slice_get-after [] x back = refl
  slice_get-after (y ∷ front) x back = slice_get-after front x back

  list_set-after : (front : List X) (x y : X) (back : List X) → set (front ++ x ∷ back) (length front) y ≡ front ++ y ∷ back
  list_set-after [] x y back = refl
  list_set-after (z ∷ front) x y back = ap (λ l. z ∷ l) (list_set-after front x y back)

  pub item-after : (front : List X) (x : X) (back : List X) (i : ℕ) → i ≡ length front + 1 → item (front ++ x ∷ back) i ≡ Some x
  item-after front x back i at = let e : i ≡ suc (length front) = omega arith in rw e (slice_get-after front x back)

  pub set-after : (front : List X) (x y : X) (back : List X) (i : ℕ) → i ≡ length front + 1 → with_item (front ++ x ∷ back) i y ≡ front ++ y ∷ back
  set-after front x y back i at = let e : i ≡ suc (length front) = omega arith in rw e (list_set-after front x y back)

  gap_length : (d : List X) (k : ℕ) (n : X) → length (d ++ replicate k n) ≡ length d + k
  gap_length d k n = length-append d (replicate k n) ∙ ap (λ m. length d + m) (length-replicate k n)

  read-past_gap : (d : List X) (k : ℕ) (n x : X) (back : List X) (i : ℕ) → i ≡ length d + k + 1 → item (d ++ (replicate k n ++ x ∷ back)) i ≡ Some x
  read-past_gap d k n x back i at =
      rw (← append_assoc d (replicate k n) (x ∷ back)) (item-after (d ++ replicate k n) x back i (at ∙ ap (λ m. m + 1) (sym (gap_length d k n))))

  set-past_gap : (d : List X) (k : ℕ) (n x : X) (back : List X) (i : ℕ) → i ≡ length d + k + 1 → with_item (d ++ (replicate k n ++ x ∷ back)) i n ≡ d ++ (replicate (k + 1) n ++ back)
  set-past_gap d k n x back i at =
      ap (λ l. with_item l i n) (sym (append_assoc d (replicate k n) (x ∷ back)))
      ∙ set-after (d ++ replicate k n) x n back i (at ∙ ap (λ m. m + 1) (sym (gap_length d k n)))
      ∙ append_assoc d (replicate k n) (n ∷ back)
      ∙ ap (λ l. d ++ l) (sym (append_assoc (replicate k n) (n ∷ []) back) ∙ ap (λ l. l ++ back) (replicate_more k n))

  read-in_gap : (d : List X) (k : ℕ) (n : X) (back : List X) (i : ℕ) → i ≡ length d + 1 → item (d ++ (replicate (k + 1) n ++ back)) i ≡ Some n
  read-in_gap d k n back i at =
      let e : k + 1 ≡ suc k = omega arith in
      rw e (item-after d n (replicate k n ++ back) i at)

  set-in_gap : (d : List X) (k : ℕ) (n y : X) (back : List X) (i : ℕ) → i ≡ length d + 1 → with_item (d ++ (replicate (k + 1) n ++ back)) i y ≡ (d ++ y ∷ []) ++ (replicate k n ++ back)
  set-in_gap d k n y back i at =
      let e : k + 1 ≡ suc k = omega arith in
      rw e (set-after d n y (replicate k n ++ back) i at ∙ sym (append_assoc d (y ∷ []) (replicate k n ++ back)))

  gap_split : (d : List X) (k : ℕ) (n : X) → d ++ replicate (suc k) n ≡ (d ++ replicate k n) ++ n ∷ []
  gap_split d k n =
      let e : suc k ≡ k + 1 = omega arith in
      ap (λ m. d ++ replicate m n) e ∙ ap (λ l. d ++ l) (sym (replicate_more k n)) ∙ sym (append_assoc d (replicate k n) (n ∷ []))

  -- a free slot that is popped from behind others
  pub gap_popped : (d xs : List X) (k : ℕ) (n : X) → xs ≡ d ++ replicate k n → length d < length xs → (slice_get xs (length xs - 1) ≡ Some n) × (take (length xs - 1) xs ≡ d ++ replicate (k - 1) n) × (0 < k)
  gap_popped d xs zero n e more = absurd (omega (arith, more, ap length (e ∙ append-nil d)))
  gap_popped d xs (suc k) n e more =
      let last : xs ≡ (d ++ replicate k n) ++ n ∷ [] = e ∙ gap_split d k n in
      let before : length xs - 1 ≡ length (d ++ replicate k n) = omega (arith, ap length last, length_push (d ++ replicate k n) n) in
      let one : suc k - 1 ≡ k = omega arith in (
        ap (λ ys. slice_get ys (length xs - 1)) last ∙ ap (slice_get ((d ++ replicate k n) ++ n ∷ [])) before ∙ slice_get-after (d ++ replicate k n) n [],
        ap (take (length xs - 1)) last ∙ ap (λ m. take m ((d ++ replicate k n) ++ n ∷ [])) before ∙ take_length (d ++ replicate k n) (n ∷ []) ∙ ap (λ m. d ++ replicate m n) (sym one),
        omega arith,
      )

  -- where there are no more than those before them, there are none
  pub gap_gone : (d xs : List X) (k : ℕ) (n : X) → xs ≡ d ++ replicate k n → length xs ≤ length d → xs ≡ d
  gap_gone d xs zero n e none = e ∙ append-nil d
  gap_gone d xs (suc k) n e none = absurd (omega (arith, none, ap length e, gap_length d (suc k) n))

  slice_get_inside : (xs : List X) (k : ℕ) → k < length xs → IsSome (slice_get xs k)
  slice_get_inside [] k h = absurd (omega arith)
  slice_get_inside (x ∷ xs) zero h = refl
  slice_get_inside (x ∷ xs) (suc k) h = slice_get_inside xs k (omega arith)

  pub item_inside : (xs : List X) (i : ℕ) → 0 < i → i ≤ length xs → IsSome (item xs i)
  item_inside xs zero pos h = absurd (omega arith)
  item_inside xs (suc k) pos h = slice_get_inside xs k (omega arith)

  take_one_more : (xs : List X) (at : ℕ) (x : X) (back : List X) → drop at xs ≡ x ∷ back → take (at + 1) xs ≡ take at xs ++ x ∷ []
  take_one_more [] zero x back e = absurd (cc)
  take_one_more [] (suc at) x back e = absurd (cc)
  take_one_more (y ∷ xs) zero x back e = let same : y ≡ x = cc in rw same refl
  take_one_more (y ∷ xs) (suc at) x back e =
      let next : suc at + 1 ≡ suc (at + 1) = omega arith in
      rw next (ap (λ l. y ∷ l) (take_one_more xs at x back e))

module _ {P T F : Type 0} (numbers : P → Pointer) (R : F → Move P T → F → Type 0) (generation : Option ℕ) where
  -- the entries that stand after these moves
  abbrev pub news : List (Move P T) → List (Option (ℕ × T))
  news moves = map (λ m. Some ((numbers m.to).1, m.new)) moves

  -- the slots up to `at` are compressed into `to` entries, and the rest is as it was
  pub record CompactAt (first : F) (old now : List (Option (ℕ × T))) (f : F) (at to : ℕ) : Type 0 where
    pub moves : List (Move P T)
    pub ran : FoldsTo R first moves f
    pub count : length moves ≡ to
    pub counted : entry_count (take at old) ≡ to
    pub below : to ≤ at
    pub within : at ≤ length old
    pub came : moved_from numbers moves ++ entries_from (at + 1) (drop at old) ≡ entries old
    pub went : moved_to numbers moves ≡ map (rank_in generation old) (keys_of (moved_from numbers moves))
    pub shape : now ≡ news moves ++ (replicate (at - to) None ++ drop at old)

  pub CompactAt-start : (first : F) (old : List (Option (ℕ × T))) → CompactAt first old old first 0 0
  CompactAt-start first old =
      record { moves = []; ran = refl; count = refl; counted = refl; below = omega arith; within = omega arith; came = refl; went = refl; shape = refl }

  -- the slot at which the walk stands
  at_slot : (first : F) (old now : List (Option (ℕ × T))) (f : F) (at to : ℕ) (x : Option (ℕ × T)) → CompactAt first old now f at to → at < length old → item now (at + 1) ≡ Some x → drop at old ≡ x ∷ drop (at + 1) old
  at_slot first old now f at to x c inside found =
      let head = drop_more old at None inside in
      let full : now ≡ news c.moves ++ (replicate (at - to) None ++ get_or old at None ∷ drop (at + 1) old) = rw (← head) c.shape in
      let size = length-map {B = Option (ℕ × T)} c.moves (λ m. Some ((numbers m.to).1, m.new)) in
      let read = read-past_gap (news c.moves) (at - to) None (get_or old at None) (drop (at + 1) old) (at + 1) (omega (arith, size, c.count, c.below)) in
      head ∙ ap (λ y. y ∷ drop (at + 1) old) (same_Some _ _ (sym read ∙ ap (λ l. item l (at + 1)) (sym full) ∙ found))

  -- once the slot is free
  freed_shape : (first : F) (old now : List (Option (ℕ × T))) (f : F) (at to : ℕ) (x : Option (ℕ × T)) → (c : CompactAt first old now f at to) → at < length old → item now (at + 1) ≡ Some x
      → with_item now (at + 1) None ≡ news c.moves ++ (replicate (at - to + 1) None ++ drop (at + 1) old)
  freed_shape first old now f at to x c inside found =
      let head = at_slot first old now f at to x c inside found in
      let size = length-map {B = Option (ℕ × T)} c.moves (λ m. Some ((numbers m.to).1, m.new)) in
      ap (λ l. with_item l (at + 1) None) (rw head at c.shape) ∙ set-past_gap (news c.moves) (at - to) None x (drop (at + 1) old) (at + 1) (omega (arith, size, c.count, c.below))

  pub CompactAt-free : (first : F) (old now : List (Option (ℕ × T))) (f : F) (at to : ℕ) → CompactAt first old now f at to → at < length old → item now (at + 1) ≡ Some None → CompactAt first old (with_item now (at + 1) None) f (at + 1) to
  CompactAt-free first old now f at to c inside found =
      let head = at_slot first old now f at to None c inside found in
      let gap : at - to + 1 ≡ at + 1 - to = omega (arith, c.below) in
      let one : Option (ℕ × T) → ℕ = λ o. cond (is_some o) 1 0 in
      record {
        moves = c.moves;
        ran = c.ran;
        count = c.count;
        counted = omega (arith, ap entry_count (take_one_more old at None (drop (at + 1) old) head), sum_by_push one (take at old) None, c.counted);
        below = omega (arith, c.below);
        within = omega arith;
        came = ap (λ l. moved_from numbers c.moves ++ entries_from (at + 1) l) (sym head) ∙ c.came;
        went = c.went;
        shape = freed_shape first old now f at to None c inside found ∙ ap (λ k. news c.moves ++ (replicate k None ++ drop (at + 1) old)) gap;
      }

  pub place_free : (first : F) (old now : List (Option (ℕ × T))) (f : F) (at to : ℕ) (x : Option (ℕ × T)) → CompactAt first old now f at to → at < length old → item now (at + 1) ≡ Some x → item (with_item now (at + 1) None) (to + 1) ≡ Some None
  place_free first old now f at to x c inside found =
      let size = length-map {B = Option (ℕ × T)} c.moves (λ m. Some ((numbers m.to).1, m.new)) in
      ap (λ l. item l (to + 1)) (freed_shape first old now f at to x c inside found)
      ∙ read-in_gap (news c.moves) (at - to) None (drop (at + 1) old) (to + 1) (omega (arith, size, c.count))

  pub CompactAt-moved : (first : F) (old now : List (Option (ℕ × T))) (f next : F) (at to g : ℕ) (e : ℕ × T) (m : Move P T) → CompactAt first old now f at to → at < length old → item now (at + 1) ≡ Some (Some e)
      → numbers m.from ≡ (at + 1, e.0) → m.old ≡ e.1 → numbers m.to ≡ (to + 1, g) → g ≡ unwrap_or generation e.0 → R f m next
      → CompactAt first old (with_item (with_item now (at + 1) None) (to + 1) (Some (g, m.new))) next (at + 1) (to + 1)
  CompactAt-moved first old now f next at to g e m c inside found from was onto stamp step =
      let head = at_slot first old now f at to (Some e) c inside found in
      let size = length-map {B = Option (ℕ × T)} c.moves (λ m. Some ((numbers m.to).1, m.new)) in
      let gap : at - to ≡ at + 1 - (to + 1) = omega (arith, c.below) in
      let one : Option (ℕ × T) → ℕ = λ o. cond (is_some o) 1 0 in
      let counted : entry_count (take (at + 1) old) ≡ to + 1 = ap entry_count (take_one_more old at (Some e) (drop (at + 1) old) head) ∙ sum_by_push one (take at old) (Some e) ∙ ap (λ n. n + 1) c.counted in
      let here : ◌≡◌ {A = Pointer × T} (numbers m.from, m.old) ((at + 1, e.0), e.1) = ap (λ (p : Pointer). (p, m.old)) from ∙ ap (λ (v : T). ((at + 1, e.0), v)) was in
      let there : numbers m.to ≡ rank_in generation old (numbers m.from) =
      onto ∙ ap (λ k. (k, g)) (sym counted) ∙ ap (λ k. (entry_count (take (at + 1) old), k)) stamp ∙ ap (rank_in generation old) (sym from) in
      let stands : ◌≡◌ {A = Option (ℕ × T)} (Some (g, m.new)) (Some ((numbers m.to).1, m.new)) = ap (λ (p : Pointer). Some (p.1, m.new)) (sym onto) in
      record {
        moves = c.moves ++ m ∷ [];
        ran = FoldsTo-push R first c.moves f m next c.ran step;
        count = length_push c.moves m ∙ ap (λ n. n + 1) c.count;
        counted = counted;
        below = omega (arith, c.below);
        within = omega arith;
        came =
            ap (λ l. l ++ entries_from (at + 1 + 1) (drop (at + 1) old)) (map_push (λ (m : Move P T). (numbers m.from, m.old)) c.moves m)
            ∙ append_assoc (moved_from numbers c.moves) ((numbers m.from, m.old) ∷ []) (entries_from (at + 1 + 1) (drop (at + 1) old))
            ∙ ap (λ y. moved_from numbers c.moves ++ y ∷ entries_from (at + 1 + 1) (drop (at + 1) old)) here
            ∙ ap (λ l. moved_from numbers c.moves ++ entries_from (at + 1) l) (sym head)
            ∙ c.came;
        went =
            map_push (λ (m : Move P T). numbers m.to) c.moves m
            ∙ ap (λ l. l ++ numbers m.to ∷ []) c.went
            ∙ ap (λ p. map (rank_in generation old) (keys_of (moved_from numbers c.moves)) ++ p ∷ []) there
            ∙ sym (map_push (rank_in generation old) (keys_of (moved_from numbers c.moves)) (numbers m.from))
            ∙ ap (map (rank_in generation old)) (sym (map_push (λ (x : Pointer × T). x.0) (moved_from numbers c.moves) (numbers m.from, m.old)))
            ∙ ap (λ es. map (rank_in generation old) (keys_of es)) (sym (map_push (λ (m : Move P T). (numbers m.from, m.old)) c.moves m));
        shape =
            ap (λ l. with_item l (to + 1) (Some (g, m.new))) (freed_shape first old now f at to (Some e) c inside found)
            ∙ set-in_gap (news c.moves) (at - to) None (Some (g, m.new)) (drop (at + 1) old) (to + 1) (omega (arith, size, c.count))
            ∙ ap (λ x. (news c.moves ++ x ∷ []) ++ (replicate (at - to) None ++ drop (at + 1) old)) stands
            ∙ ap (λ l. l ++ (replicate (at - to) None ++ drop (at + 1) old)) (sym (map_push (λ (m : Move P T). Some ((numbers m.to).1, m.new)) c.moves m))
            ∙ ap (λ k. news (c.moves ++ m ∷ []) ++ (replicate k None ++ drop (at + 1) old)) gap;
      }

  -- the entries that stand then, by their pointers and values
  news_placed : (moves : List (Move P T)) → news moves ≡ placed (moved_to numbers moves) (map (λ m. m.new) moves)
  news_placed [] = refl
  news_placed (m ∷ moves) = ap (λ l. Some ((numbers m.to).1, m.new) ∷ l) (news_placed moves)

  -- at the end, before the free slots behind them, the values that were given back stand
  pub record Closed (first : F) (old now : List (Option (ℕ × T))) (to : ℕ) (f : F) : Type 0 where
    pub moves : List (Move P T)
    pub ran : FoldsTo R first moves f
    pub came : moved_from numbers moves ≡ entries old
    pub went : moved_to numbers moves ≡ map (rank_in generation old) (keys old)
    pub size : length (news moves) ≡ to
    pub spare : ℕ
    pub shape : now ≡ news moves ++ replicate spare None
    pub stands : news moves ≡ placed (map (rank_in generation old) (keys old)) (map (λ m. m.new) moves)

  pub CompactAt-done : (first : F) (old now : List (Option (ℕ × T))) (f : F) (at to : ℕ) → CompactAt first old now f at to → length old ≤ at → Closed first old now to f
  CompactAt-done first old now f at to c past =
      let none = drop_all at old past in
      let came = sym (append-nil (moved_from numbers c.moves)) ∙ rw none at c.came in
      let went = c.went ∙ ap (λ es. map (rank_in generation old) (keys_of es)) came in
      record {
        moves = c.moves;
        ran = c.ran;
        came = came;
        went = went;
        size = length-map {B = Option (ℕ × T)} c.moves (λ m. Some ((numbers m.to).1, m.new)) ∙ c.count;
        spare = at - to;
        shape = rw none at c.shape ∙ ap (λ l. news c.moves ++ l) (append-nil (replicate {A = Option (ℕ × T)} (at - to) None));
        stands = news_placed c.moves ∙ ap (λ ps. placed ps (map (λ m. m.new) c.moves)) went;
      }

-- the number of a generation that is given, or of its own
pub number_of_given : {G : Type 0} (number : G → ℕ) (o : Option G) (own : G) → number (unwrap_or o own) ≡ unwrap_or (option_map number o) (number own)
number_of_given number None own = refl
number_of_given number (Some g) own = refl

-- a slot that nothing is taken out of has no entry
module _ {X T : Type 0} (entry : X → Option (ℕ × T)) where
  pub slot_freed : (es es1 : List X) (i : ℕ) (x : X) → entry x ≡ None → es1 ≡ with_item es i x → map entry es1 ≡ with_item (map entry es) i None
  slot_freed es es1 i x free is = ap (map entry) is ∙ map-with_item entry es i x ∙ ap (with_item (map entry es) i) free

  -- a slot that is popped from a free end has no entry
  pub popped_vacant : (kept : List (Option (ℕ × T))) (es : List X) (k : ℕ) (x : X) → map entry es ≡ kept ++ replicate k None → length kept < length es → slice_get es (length es - 1) ≡ Some x → entry x ≡ None
  popped_vacant kept es k x is more popped =
      let size = length-map es entry in
      let last = (gap_popped kept (map entry es) k None is (omega (arith, more, size))).0 in
      same_Some _ _ (sym (ap (option_map entry) popped) ∙ sym (slice_get-map entry es (length es - 1)) ∙ ap (λ n. slice_get (map entry es) (n - 1)) (sym size) ∙ last)

  -- and the others stay as they were
  pub cut_on : (kept : List (Option (ℕ × T))) (es : List X) (k : ℕ) → map entry es ≡ kept ++ replicate k None → length kept < length es → (left : ℕ) × (map entry (take (length es - 1) es) ≡ kept ++ replicate left None)
  cut_on kept es k is more =
      let size = length-map es entry in
      (k - 1, sym (take-map entry (length es - 1) es) ∙ ap (λ n. take (n - 1) (map entry es)) (sym size) ∙ (gap_popped kept (map entry es) k None is (omega (arith, more, size))).1)

  module _ {P F : Type 0} (numbers : P → Pointer) (R : F → Move P T → F → Type 0) (generation : Option ℕ) where
    pub CompactAt-free_slot : (es0 es es1 : List X) (first f : F) (at to : ℕ) (x old : X)
        → CompactAt numbers R generation first (map entry es0) (map entry es) f at to → at < length es0 → item es (at + 1) ≡ Some old → entry old ≡ None
        → entry x ≡ None → es1 ≡ with_item es (at + 1) x → CompactAt numbers R generation first (map entry es0) (map entry es1) f (at + 1) to
    CompactAt-free_slot es0 es es1 first f at to x old c inside found was free is =
        rw (slot_freed es es1 (at + 1) x free is)
        (CompactAt-free numbers R generation first (map entry es0) (map entry es) f at to c (omega (arith, inside, length-map es0 entry)) (item-map_some entry es (at + 1) old found ∙ ap Some was))

    pub place_free_slot : (es0 es es1 : List X) (first f : F) (at to : ℕ) (x old there : X)
        → CompactAt numbers R generation first (map entry es0) (map entry es) f at to → at < length es0 → item es (at + 1) ≡ Some old
        → entry x ≡ None → es1 ≡ with_item es (at + 1) x → item es1 (to + 1) ≡ Some there → entry there ≡ None
    place_free_slot es0 es es1 first f at to x old there c inside found free is read =
        same_Some _ _ (
        sym (item-map_some entry es1 (to + 1) there read)
        ∙ ap (λ l. item l (to + 1)) (slot_freed es es1 (at + 1) x free is)
        ∙ place_free numbers R generation first (map entry es0) (map entry es) f at to (entry old) c (omega (arith, inside, length-map es0 entry)) (item-map_some entry es (at + 1) old found)
        )

    pub CompactAt-moved_slot : (es0 es es1 es2 : List X) (first f next : F) (at to g : ℕ) (x y old : X) (e : ℕ × T) (m : Move P T)
        → CompactAt numbers R generation first (map entry es0) (map entry es) f at to → at < length es0 → item es (at + 1) ≡ Some old → entry old ≡ Some e
        → entry x ≡ None → es1 ≡ with_item es (at + 1) x → es2 ≡ with_item es1 (to + 1) y → entry y ≡ Some (g, m.new)
        → numbers m.from ≡ (at + 1, e.0) → m.old ≡ e.1 → numbers m.to ≡ (to + 1, g) → g ≡ unwrap_or generation e.0 → R f m next
        → CompactAt numbers R generation first (map entry es0) (map entry es2) next (at + 1) (to + 1)
    CompactAt-moved_slot es0 es es1 es2 first f next at to g x y old e m c inside found live free is again puts from was onto stamp step =
        let made : map entry es2 ≡ with_item (with_item (map entry es) (at + 1) None) (to + 1) (Some (g, m.new)) =
        ap (map entry) again ∙ map-with_item entry es1 (to + 1) y ∙ ap (with_item (map entry es1) (to + 1)) puts
        ∙ ap (λ l. with_item l (to + 1) (Some (g, m.new))) (slot_freed es es1 (at + 1) x free is) in
        rw made
        (CompactAt-moved numbers R generation first (map entry es0) (map entry es) f next at to g e m c (omega (arith, inside, length-map es0 entry))
        (item-map_some entry es (at + 1) old found ∙ ap Some live) from was onto stamp step)
