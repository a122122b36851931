-- One value more that is inserted.
use Rattle.std.proofs.Common.{◌≡◌, ◌≢◌, ℕ, ◌+◌, List, [], ◌∷◌, ◌++◌, map, length, Option, Some, None, IsSome, is_some, refl, sym, ap, subst, ◌∙◌, true≢false, arith}
use Rattle.std.proofs.lemmas.List.Elements.{All-nil, All-cons, All-append, All-weaker}
use Rattle.std.specs.Option.{option_and_then}
use Rattle.triple_arena_ptr.specs.Pointers.{Pointer}
use Rattle.triple_arena_traits.specs.Entries.{entry_in, look_up, entry_count, value_of_generation}
use Rattle.triple_arena_traits.specs.Histories.{History, insertion, and_then, followed_by, Continues}
use Rattle.triple_arena_traits.specs.Walks.{keys_of, values_of}
use Rattle.triple_arena_traits.specs.laws.ItemLaws.{eq_true}
use Rattle.triple_arena_recasting.specs.Extending.{all_inserted, EntriesCame}

module _ {A T : Type 0} (inserted : A → T → A) (grown : A → A) where
  pub all_more : (old : A) (xs : List T) (x : T) → all_inserted inserted grown old (xs ++ x ∷ []) ≡ inserted (grown (all_inserted inserted grown old xs)) x
  all_more old [] x = refl
  all_more old (y ∷ xs) x = all_more (inserted (grown old) y) xs x

pub values_more : {T : Type 0} (es : List (Pointer × T)) (e : Pointer × T) → values_of (es ++ e ∷ []) ≡ values_of es ++ e.1 ∷ []
values_more [] e = refl
values_more (x ∷ es) e = ap (λ l. x.1 ∷ l) (values_more es e)

history_more : {T : Type 0} (h : History) (es : List (Pointer × T)) (e : Pointer × T) → followed_by h (map insertion (keys_of (es ++ e ∷ []))) ≡ and_then (followed_by h (map insertion (keys_of es))) (insertion e.0)
history_more h [] e = refl
history_more h (x ∷ es) e = history_more (and_then h (insertion x.0)) es e

module _ {T : Type 0} (slots : List (Option (ℕ × T))) where
  -- nothing is found at an index without an entry
  none_at : (q : Pointer) → entry_in slots q.0 ≡ None → look_up slots q ≡ None
  none_at q none = ap (option_and_then (value_of_generation q.1)) none

  -- an entry is found under its generation
  entry_found : (i : ℕ) (e : ℕ × T) → entry_in slots i ≡ Some e → IsSome (look_up slots (i, e.0))
  entry_found i e is = rw (is, eq_true e.0 e.0 refl) refl

module _ {A T : Type 0} (slots : A → List (Option (ℕ × T))) (fits : History → A → Type 0) (old : A) where
  pub none_came : EntriesCame slots fits old [] old
  none_came = record { found = All-nil _; free = All-nil _; kept = λ q live. refl; len = omega arith; history = λ h fits. fits }

  module _ (mid new : A) (p : Pointer) (x : T) (free : entry_in (slots mid) p.0 ≡ None) (others : (q : Pointer) → q.0 ≢ p.0 → look_up (slots new) q ≡ look_up (slots mid) q) where
    -- who found something before the insertion finds it still
    stays : (q : Pointer) → IsSome (look_up (slots mid) q) → look_up (slots new) q ≡ look_up (slots mid) q
    stays q live =
        others q (λ here. true≢false (sym live ∙ ap is_some (none_at (slots mid) q (ap (entry_in (slots mid)) here ∙ free))))

    still : (q : Pointer) (v : T) → look_up (slots mid) q ≡ Some v → look_up (slots new) q ≡ Some v
    still q v is = stays q (rw is refl) ∙ is

    -- no entry was there at first
    free_first : ((q : Pointer) → IsSome (look_up (slots old) q) → look_up (slots mid) q ≡ look_up (slots old) q) → entry_in (slots old) p.0 ≡ None
    free_first kept = by_entry (entry_in (slots old) p.0) refl
      where
        by_entry : (o : Option (ℕ × T)) → entry_in (slots old) p.0 ≡ o → o ≡ None
        by_entry None is = refl
        by_entry (Some e) is =
            let live = entry_found (slots old) p.0 e is in
            absurd (true≢false (sym live ∙ ap is_some (sym (kept (p.0, e.0) live) ∙ none_at (slots mid) (p.0, e.0) free)))

    abbrev IsFound : A → Pointer × T → Type 0
    IsFound a e = look_up (slots a) e.0 ≡ Some e.1

    abbrev IsFree : Pointer × T → Type 0
    IsFree e = entry_in (slots old) e.0.0 ≡ None

    pub one_came : (came : List (Pointer × T)) → EntriesCame slots fits old came mid → look_up (slots new) p ≡ Some x → entry_count (slots new) ≡ entry_count (slots mid) + 1 → Continues fits mid (insertion p ∷ []) new → EntriesCame slots fits old (came ++ (p, x) ∷ []) new
    one_came came before found more goes =
        record {
          found = All-append (IsFound new) came ((p, x) ∷ []) (All-weaker (IsFound mid) (IsFound new) (λ e is. still e.0 e.1 is) came before.found) (All-cons (IsFound new) (p, x) [] found (All-nil (IsFound new)));
          free = All-append IsFree came ((p, x) ∷ []) before.free (All-cons IsFree (p, x) [] (free_first before.kept) (All-nil IsFree));
          kept = λ q live. stays q (subst IsSome (sym (before.kept q live)) live) ∙ before.kept q live;
          len = omega (arith, more, before.len, length_more came);
          history = λ h fit. subst (λ k. fits k new) (sym (history_more h came (p, x))) (goes (followed_by h (map insertion (keys_of came))) (before.history h fit));
        }
      where
        length_more : (es : List (Pointer × T)) → length (es ++ (p, x) ∷ []) ≡ length es + 1
        length_more [] = refl
        length_more (e ∷ es) = omega (arith, length_more es)
