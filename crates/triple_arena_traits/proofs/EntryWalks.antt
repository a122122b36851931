-- Steps of walks over entries.
use Rattle.std.proofs.Common.{◌≡◌, ℕ, suc, ◌+◌, List, [], ◌∷◌, ◌++◌, set, Option, Some, None, Ok, Err, slice_get, cond, refl, sym, ap, ◌∙◌, arith, append_assoc}
use Rattle.triple_arena_base.specs.Held.{KeepsHeld, recast_items, recast_answer, held_all}
use Rattle.triple_arena_base.specs.HeldLists.{refill_ok, refill_err}
use Rattle.std.specs.Option.{option_map, option_and_then, option_copied_mut}
use Rattle.std.specs.Borrow.{MutBor}
use Rattle.std.specs.Prelude.{IsSome}
use Rattle.triple_arena_traits.specs.Items.{with_item}
use Rattle.triple_arena_traits.specs.laws.ItemLaws.{joined, eq_true}
use Rattle.triple_arena_ptr.specs.Pointers.{Pointer}
use Rattle.triple_arena_traits.specs.Entries.{entry_in, look_up, value_of_generation, with_value_in}
use Rattle.triple_arena_traits.specs.Walks.{entries_from, entries, keys_of, keys, values_of, values}
use Rattle.triple_arena_traits.specs.Recasting.{written, recast_values}

module _ {X : Type 0} where
  pub heads : (x y : X) (xs ys : List X) → x ∷ xs ≡ y ∷ ys → x ≡ y
  heads x y xs ys e = cc

  pub tails : (x y : X) (xs ys : List X) → x ∷ xs ≡ y ∷ ys → xs ≡ ys
  tails x y xs ys e = cc

module _ {T : Type 0} where
  -- the slot of an entry that comes after these others
  pub record Stands (at : ℕ) (xs : List (Option (ℕ × T))) (left : List (Pointer × T)) (k : Pointer) (v : T) (right : List (Pointer × T)) : Type 0 where
    pub place : ℕ
    pub index : k.0 ≡ at + place
    pub found : slice_get xs place ≡ Some (Some (k.1, v))
    pub after : (w : T) → entries_from at (set xs place (Some (k.1, w))) ≡ left ++ (k, w) ∷ right

  pub stands : (at : ℕ) (xs : List (Option (ℕ × T))) (left : List (Pointer × T)) (k : Pointer) (v : T) (right : List (Pointer × T)) → entries_from at xs ≡ left ++ (k, v) ∷ right → Stands at xs left k v right
  stands at [] [] k v right e = absurd (cc)
  stands at [] (l ∷ left) k v right e = absurd (cc)
  stands at (None ∷ xs) left k v right e =
      let s = stands (at + 1) xs left k v right e in
      record { place = suc s.place; index = omega (arith, s.index); found = s.found; after = s.after }
  stands at (Some x ∷ xs) [] k v right e =
      let same = heads ((at, x.0), x.1) (k, v) (entries_from (at + 1) xs) right e in
      let key : (at, x.0) ≡ k = ap (λ p. p.0) same in
      record {
        place = 0;
        index = sym (ap (λ p. p.0) key) ∙ omega arith;
        found = ap (λ (p : Pointer × T). Some (Some (p.0.1, p.1))) same;
        after = λ w. ap (λ (p : Pointer). ((at, p.1), w) ∷ entries_from (at + 1) xs) (sym key) ∙ ap (λ (p : Pointer). (p, w) ∷ entries_from (at + 1) xs) key ∙ ap (λ l. (k, w) ∷ l) (tails ((at, x.0), x.1) (k, v) (entries_from (at + 1) xs) right e);
      }
  stands at (Some x ∷ xs) (l ∷ left) k v right e =
      let s = stands (at + 1) xs left k v right (tails ((at, x.0), x.1) l (entries_from (at + 1) xs) (left ++ (k, v) ∷ right) e) in
      let head = heads ((at, x.0), x.1) l (entries_from (at + 1) xs) (left ++ (k, v) ∷ right) e in
      record {
        place = suc s.place;
        index = omega (arith, s.index);
        found = s.found;
        after = λ w. ap (λ l. ((at, x.0), x.1) ∷ l) (s.after w) ∙ ap (λ y. y ∷ left ++ (k, w) ∷ right) head;
      }

  -- what stands at an entry's index
  pub entry_found : (xs : List (Option (ℕ × T))) (left : List (Pointer × T)) (k : Pointer) (v : T) (right : List (Pointer × T)) → entries xs ≡ left ++ (k, v) ∷ right → entry_in xs k.0 ≡ Some (k.1, v)
  entry_found xs left k v right e =
      let s = stands 1 xs left k v right e in
      let i : k.0 ≡ suc s.place = omega (arith, s.index) in
      rw i (ap joined s.found)

  pub value_found : (xs : List (Option (ℕ × T))) (left : List (Pointer × T)) (k : Pointer) (v : T) (right : List (Pointer × T)) → entries xs ≡ left ++ (k, v) ∷ right → look_up xs k ≡ Some v
  value_found xs left k v right e =
      ap (option_and_then (value_of_generation k.1)) (entry_found xs left k v right e) ∙ ap (λ b. cond b (Some v) None) (eq_true k.1 k.1 refl)

  -- another value in an entry
  pub entries_with_value : (xs : List (Option (ℕ × T))) (left : List (Pointer × T)) (k : Pointer) (v w : T) (right : List (Pointer × T)) → entries xs ≡ left ++ (k, v) ∷ right → entries (with_value_in xs k.0 w) ≡ left ++ (k, w) ∷ right
  entries_with_value xs left k v w right e =
      let s = stands 1 xs left k v right e in
      let i : k.0 ≡ suc s.place = omega (arith, s.index) in
      ap (λ o. entries (with_item xs k.0 (option_map (λ (e : ℕ × T). (e.0, w)) o))) (entry_found xs left k v right e)
      ∙ ap (λ n. entries (with_item xs n (Some (k.1, w)))) i
      ∙ s.after w

  pub keys_with_value : (left : List (Pointer × T)) (k : Pointer) (v w : T) (right : List (Pointer × T)) → keys_of (left ++ (k, w) ∷ right) ≡ keys_of (left ++ (k, v) ∷ right)
  keys_with_value [] k v w right = refl
  keys_with_value (l ∷ left) k v w right = ap (λ ks. l.0 ∷ ks) (keys_with_value left k v w right)

module _ {I T A : Type 0} (held : T → List I) (refill : T → List I → T) (law : KeepsHeld held refill) (image : I → Option I)
    (slots : A → List (Option (ℕ × T))) (with_value : A → ℕ → T → A)
    (same : (a : A) (i : ℕ) (e : ℕ × T) → entry_in (slots a) i ≡ Some e → with_value a i e.1 ≡ a)
    (sets : (a : A) (i : ℕ) (v : T) → slots (with_value a i v) ≡ with_value_in (slots a) i v) where
  abbrev pub recast_all : List T → List T
  recast_all vs = recast_values held refill image vs

  -- writing again what stands there
  pub written_same : (a : A) (done rest : List (Pointer × T)) → entries (slots a) ≡ done ++ rest → written with_value (keys_of rest) (values_of rest) a ≡ a
  written_same a done [] e = refl
  written_same a done (x ∷ rest) e =
      let here : with_value a x.0.0 x.1 ≡ a = same a x.0.0 (x.0.1, x.1) (entry_found (slots a) done x.0 x.1 rest e) in
      ap (written with_value (keys_of rest) (values_of rest)) here
      ∙ written_same a (done ++ x ∷ []) rest (e ∙ sym (append_assoc done (x ∷ []) rest))

  -- the walk so far: what is left of it makes of the arena what the whole walk makes of the first one
  pub record Walked (start now : A) (ahead : List Pointer) : Type 0 where
    pub done : List (Pointer × T)
    pub rest : List (Pointer × T)
    pub split : entries (slots now) ≡ done ++ rest
    pub left : ahead ≡ keys_of rest
    pub state : written with_value (keys_of rest) (recast_all (values_of rest)) now ≡ written with_value (keys (slots start)) (recast_all (values (slots start))) start
    pub answer : recast_answer image (held_all held (values_of rest)) ≡ recast_answer image (held_all held (values (slots start)))

  pub walk_start : (start : A) (ahead : List Pointer) → ahead ≡ keys (slots start) → Walked start start ahead
  walk_start start ahead e =
      record { done = []; rest = entries (slots start); split = refl; left = e; state = refl; answer = refl }

  pub walk_end : (start now : A) → Walked start now [] → (now ≡ written with_value (keys (slots start)) (recast_all (values (slots start))) start) × (Ok tt ≡ recast_answer image (held_all held (values (slots start))))
  walk_end start now w = go w.rest w.left w.state w.answer
    where
      go : (rest : List (Pointer × T)) → [] ≡ keys_of rest
          → written with_value (keys_of rest) (recast_all (values_of rest)) now ≡ written with_value (keys (slots start)) (recast_all (values (slots start))) start
          → recast_answer image (held_all held (values_of rest)) ≡ recast_answer image (held_all held (values (slots start)))
          → (now ≡ written with_value (keys (slots start)) (recast_all (values (slots start))) start) × (Ok tt ≡ recast_answer image (held_all held (values (slots start))))
      go [] e state answer = (state, answer)
      go (x ∷ rest) e state answer = absurd (cc)

  -- the next entry of a walk
  pub record Next (start now : A) (done : List (Pointer × T)) (k : Pointer) (after : List Pointer) : Type 0 where
    pub value : T
    pub others : List (Pointer × T)
    pub whole : entries (slots now) ≡ done ++ (k, value) ∷ others
    pub left : after ≡ keys_of others
    pub state : written with_value (k ∷ keys_of others) (recast_all (value ∷ values_of others)) now ≡ written with_value (keys (slots start)) (recast_all (values (slots start))) start
    pub answer : recast_answer image (held_all held (value ∷ values_of others)) ≡ recast_answer image (held_all held (values (slots start)))
    pub found : look_up (slots now) k ≡ Some value

  pub next_of : (start now : A) (k : Pointer) (after : List Pointer) → (w : Walked start now (k ∷ after)) → Next start now w.done k after
  next_of start now k after w = go w.rest w.split w.left w.state w.answer
    where
      go : (rest : List (Pointer × T)) → entries (slots now) ≡ w.done ++ rest → k ∷ after ≡ keys_of rest
          → written with_value (keys_of rest) (recast_all (values_of rest)) now ≡ written with_value (keys (slots start)) (recast_all (values (slots start))) start
          → recast_answer image (held_all held (values_of rest)) ≡ recast_answer image (held_all held (values (slots start)))
          → Next start now w.done k after
      go [] split e state answer = absurd (cc)
      go (x ∷ rest) split e state answer =
          let head : x.0 ≡ k = sym (heads k (x.0) after (keys_of rest) e) in
          let pair : ◌≡◌ {A = Pointer × T} x (k, x.1) = ap (λ (q : Pointer). (q, x.1)) head in
          let whole : entries (slots now) ≡ w.done ++ (k, x.1) ∷ rest = split ∙ ap (λ y. w.done ++ y ∷ rest) pair in
          record {
            value = x.1;
            others = rest;
            whole = whole;
            left = tails k (x.0) after (keys_of rest) e;
            state = ap (λ q. written with_value (q ∷ keys_of rest) (recast_all (x.1 ∷ values_of rest)) now) (sym head) ∙ state;
            answer = answer;
            found = value_found (slots now) w.done k (x.1) rest whole;
          }

  pub walk_finds : (start now : A) (k : Pointer) (after : List Pointer) → Walked start now (k ∷ after) → (v : T) × (look_up (slots now) k ≡ Some v)
  walk_finds start now k after w = let n = next_of start now k after w in (n.value, n.found)

  pub keys_kept : (start now : A) (k : Pointer) (after : List Pointer) (y : T) → Walked start now (k ∷ after) → keys (slots (with_value now k.0 y)) ≡ keys (slots now)
  keys_kept start now k after y w =
      let n = next_of start now k after w in
      ap keys (sets now k.0 y) ∙ ap keys_of (entries_with_value (slots now) w.done k n.value y n.others n.whole)
      ∙ keys_with_value w.done k n.value y n.others ∙ sym (ap keys_of n.whole)

  some_same : (x y : T) → Some x ≡ Some y → x ≡ y
  some_same x y e = cc

  pub walk_ok : (start now : A) (k : Pointer) (after : List Pointer) (x y : T) → Walked start now (k ∷ after) → Some x ≡ look_up (slots now) k
      → y ≡ refill x (recast_items image (held x)) → recast_answer image (held x) ≡ Ok tt → Walked start (with_value now k.0 y) after
  walk_ok start now k after x y w got new e =
      let n = next_of start now k after w in
      let v : x ≡ n.value = some_same x n.value (got ∙ n.found) in
      let e2 : recast_answer image (held n.value) ≡ Ok tt = ap (λ z. recast_answer image (held z)) (sym v) ∙ e in
      let new2 : y ≡ refill n.value (recast_items image (held n.value)) = new ∙ ap (λ z. refill z (recast_items image (held z))) v in
      let ok = refill_ok held refill law image n.value (values_of n.others) e2 in
      record {
        done = w.done ++ (k, y) ∷ [];
        rest = n.others;
        split = ap entries (sets now k.0 y) ∙ entries_with_value (slots now) w.done k n.value y n.others n.whole ∙ sym (append_assoc w.done ((k, y) ∷ []) n.others);
        left = n.left;
        state =
            ap (λ z. written with_value (keys_of n.others) (recast_all (values_of n.others)) (with_value now k.0 z)) new2
            ∙ ap (λ vs. written with_value (k ∷ keys_of n.others) vs now) (sym ok.0)
            ∙ n.state;
        answer = sym ok.1 ∙ n.answer;
      }

  pub walk_err : (start now : A) (k : Pointer) (after : List Pointer) (x y : T) (i : I) → Walked start now (k ∷ after) → Some x ≡ look_up (slots now) k
      → y ≡ refill x (recast_items image (held x)) → recast_answer image (held x) ≡ Err i
      → (with_value now k.0 y ≡ written with_value (keys (slots start)) (recast_all (values (slots start))) start) × (Err i ≡ recast_answer image (held_all held (values (slots start))))
  walk_err start now k after x y i w got new e =
      let n = next_of start now k after w in
      let v : x ≡ n.value = some_same x n.value (got ∙ n.found) in
      let e2 : recast_answer image (held n.value) ≡ Err i = ap (λ z. recast_answer image (held z)) (sym v) ∙ e in
      let new2 : y ≡ refill n.value (recast_items image (held n.value)) = new ∙ ap (λ z. refill z (recast_items image (held z))) v in
      let err = refill_err held refill law image n.value (values_of n.others) i e2 in
      let split : entries (slots (with_value now k.0 y)) ≡ (w.done ++ (k, y) ∷ []) ++ n.others = ap entries (sets now k.0 y) ∙ entries_with_value (slots now) w.done k n.value y n.others n.whole ∙ sym (append_assoc w.done ((k, y) ∷ []) n.others) in (
        sym (written_same (with_value now k.0 y) (w.done ++ (k, y) ∷ []) n.others split)
            ∙ ap (λ z. written with_value (keys_of n.others) (values_of n.others) (with_value now k.0 z)) new2
            ∙ ap (λ vs. written with_value (k ∷ keys_of n.others) vs now) (sym err.0)
            ∙ n.state,
        sym err.1 ∙ n.answer,
      )

module _ {T : Type 0} where
  pub lent_some : (o : Option (MutBor T)) (v : T) → option_copied_mut o ≡ Some v → IsSome o
  lent_some None v e = absurd (cc)
  lent_some (Some x) v e = refl
