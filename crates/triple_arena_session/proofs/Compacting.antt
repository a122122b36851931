-- Compaction: entries move by rank, which is one to one, and what a session shows stays.
use Rattle.std.proofs.Common.{◌≡◌, ◌⊎◌, ◌||◌, ℕ, ◌<◌, ◌≤◌, Bool, true, false, List, [], ◌∷◌, length, map, Option, Some, None, is_some, cond, slice_get, refl, sym, ap, ◌∙◌, inl, inr, arith, true≢false}
use Rattle.std.proofs.lemmas.Bool.{cases_Bool}
use Rattle.std.proofs.lemmas.List.{length-map}
use Rattle.std.proofs.lemmas.Option.{same_Some, slice_get-map}
use Rattle.std.specs.Option.{option_map}
use Rattle.triple_arena_ptr.specs.Pointers.{Pointer, is_same}
use Rattle.triple_arena_stack.specs.StackKind.{StackKind}
use Rattle.triple_arena_traits.specs.Entries.{entry_count, look_up}
use Rattle.triple_arena_traits.specs.ArenaState.{ArenaState}
use Rattle.triple_arena_traits.specs.Walks.{keys, values}
use Rattle.triple_arena_traits.specs.Compression.{compressed, rank}
use Rattle.triple_arena_traits.specs.Histories.{has, AreDistinct, is_live}
use Rattle.triple_arena_traits.specs.laws.PointerListLaws.{same_itself, same_is, has_head, has_tail, has-keys, false_unless}
use Rattle.triple_arena_commands.specs.PointerNames.{name_of}
use Rattle.triple_arena_session.specs.SessionState.{SessionState, link_name}
use Rattle.triple_arena_session.specs.Compaction.{renamed, relinked, compacted}
use Rattle.triple_arena_session.specs.Shown.{as_row, row_of, shown}
use Rattle.triple_arena_traits.specs.laws.CompressionLaws.{length-values, rank_apart, keys-compressed, values-compressed}
use Rattle.triple_arena_traits.specs.laws.MoveLaws.{nth_found, found_nth}
use Rattle.triple_arena_session.proofs.TableNames.{not_same, has_from_get, name_of-map, map_same}
use Rattle.triple_arena_session.proofs.Rows.{some_is, some_has}
use Rattle.triple_arena_session.proofs.Soundness.{SoundOver, SoundOver-from, over_of}
use Rattle.triple_arena_session.proofs.Continuing.{over_compressed}

module _ {T : Type 0} (s : ArenaState T) (n : ℕ) where
  -- ranks of different live pointers differ
  rank_one_to_one : (p q : Pointer) → is_live s p ≡ true → is_live s q ≡ true → rank s n p ≡ rank s n q → p ≡ q
  rank_one_to_one p q first second same = rank_apart s.slots p q first second (ap (λ (r : Pointer). r.0) same)

  module _ (f : T → T) where
    -- the arena compressed, with the image of each value
    abbrev moved : ArenaState T
    moved = compressed s n (map f (values s.slots))

    many : length (map f (values s.slots)) ≡ entry_count s.slots
    many = length-map (values s.slots) f ∙ length-values s.slots

    key_moved : (k : ℕ) → slice_get (keys moved.slots) k ≡ option_map (rank s n) (slice_get (keys s.slots) k)
    key_moved k = ap (λ l. slice_get l k) (keys-compressed s moved n (map f (values s.slots)) refl many) ∙ slice_get-map (rank s n) (keys s.slots) k

    -- a live pointer finds at its rank the image of what it found
    pub found_moved : (p : Pointer) (v : T) → look_up s.slots p ≡ Some v → look_up moved.slots (rank s n p) ≡ Some (f v)
    found_moved p v at =
        let nth = nth_found s.slots p (ap is_some at) in
        let same : nth.0 ≡ v = same_Some nth.0 v (sym nth.2 ∙ at) in
        found_nth moved.slots nth.1 (rank s n p) (f v)
        (key_moved nth.1 ∙ ap (option_map (rank s n)) nth.3)
        (ap (λ l. slice_get l nth.1) (values-compressed s moved n (map f (values s.slots)) refl many)
        ∙ slice_get-map f (values s.slots) nth.1 ∙ ap (option_map f) (nth.4 ∙ ap Some same))

    -- the pointers of the compressed arena are the ranks
    pub was_live : (r : Pointer) → is_live moved r ≡ true → (p : Pointer) × (is_live s p ≡ true) × (rank s n p ≡ r)
    was_live r live =
        let nth = nth_found moved.slots r live in
        by nth.1 (slice_get (keys s.slots) nth.1) refl (sym (key_moved nth.1) ∙ nth.3)
      where
        by : (k : ℕ) (o : Option Pointer) → slice_get (keys s.slots) k ≡ o → option_map (rank s n) o ≡ Some r → (p : Pointer) × (is_live s p ≡ true) × (rank s n p ≡ r)
        by k None is e = absurd (cc)
        by k (Some p) is e = (p, sym (has-keys s p) ∙ has_from_get (keys s.slots) k p is, same_Some (rank s n p) r e)

-- a renaming that is one to one on a table
module _ (f : Pointer → Pointer) where
  has-map : (table : List Pointer) (p : Pointer) → has table p ≡ true → has (map f table) (f p) ≡ true
  has-map [] p h = absurd (true≢false (sym h))
  has-map (q ∷ table) p h =
      elim (cases_Bool (is_same p q)) [
        | inl so ↦ ap (λ r. has (f q ∷ map f table) (f r)) (same_is p q so) ∙ has_head (f q) (map f table)
        | inr differs ↦ has_tail (f p) (f q) (map f table) (has-map table p (sym (ap (λ b. b || has table p) differs) ∙ h))
      ]

  from-map : (table : List Pointer) (r : Pointer) → has (map f table) r ≡ true → (p : Pointer) × (has table p ≡ true) × (f p ≡ r)
  from-map [] r h = absurd (true≢false (sym h))
  from-map (q ∷ table) r h =
      elim (cases_Bool (is_same r (f q))) [
        | inl so ↦ (q, has_head q table, sym (same_is r (f q) so))
        | inr differs ↦
            let rest = from-map table r (sym (ap (λ b. b || has (map f table) r) differs) ∙ h) in
            (rest.0, has_tail rest.0 q table rest.1, rest.2)
      ]

  distinct-map : (table : List Pointer) → ((p q : Pointer) → has table p ≡ true → has table q ≡ true → f p ≡ f q → p ≡ q) → AreDistinct table → AreDistinct (map f table)
  distinct-map [] one d = tt
  distinct-map (q ∷ table) one d = (
    false_unless (has (map f table) (f q)) (λ h.
        let from = from-map table (f q) h in
        let same : from.0 ≡ q = one from.0 q (has_tail from.0 q table from.1) (has_head q table) from.2 in
        true≢false (sym from.1 ∙ ap (has table) same ∙ d.0)),
    distinct-map table (λ p r h k e. one p r (has_tail p q table h) (has_tail r q table k) e) d.1,
  )

module _ {X : Type 0} (kind : StackKind) (s : SessionState X) (n : ℕ) (sound : SoundOver kind s) (rises : s.arena.counter ≤ n) where
  abbrev there : Pointer → Pointer
  there p = renamed s.arena n p

  abbrev image : X × Option Pointer → X × Option Pointer
  image node = relinked s.arena n node

  abbrev after : ArenaState (X × Option Pointer)
  after = moved s.arena n image

  live_to : (p : Pointer) → is_live s.arena p ≡ true → there p ≡ rank s.arena n p
  live_to p live = ap (λ b. cond b (rank s.arena n p) p) live

  dead_to : (p : Pointer) → is_live s.arena p ≡ false → there p ≡ p
  dead_to p dead = ap (λ b. cond b (rank s.arena n p) p) dead

  -- a live pointer finds the image of what it found, and one that is not live finds nothing
  found_after : (p : Pointer) (node : X × Option Pointer) → look_up s.arena.slots p ≡ Some node → look_up after.slots (there p) ≡ Some (image node)
  found_after p node found = ap (look_up after.slots) (live_to p (ap is_some found)) ∙ found_moved s.arena n image p node found

  dead_after : (p : Pointer) → has s.table p ≡ true → is_live s.arena p ≡ false → is_live after (there p) ≡ false
  dead_after p h dead =
      ap (is_live after) (dead_to p dead)
      ∙ false_unless (is_live after p) (λ live.
      let from = was_live s.arena n image p live in
      omega (arith, ap (λ (r : Pointer). r.1) from.2, sound.table.before p h dead, rises))

  -- the renaming is one to one on the table
  one_to_one : (p q : Pointer) → has s.table p ≡ true → has s.table q ≡ true → there p ≡ there q → p ≡ q
  one_to_one p q first second same = by (is_live s.arena p) (is_live s.arena q) refl refl
    where
      by : (a b : Bool) → is_live s.arena p ≡ a → is_live s.arena q ≡ b → p ≡ q
      by true true a b = rank_one_to_one s.arena n p q a b (sym (live_to p a) ∙ same ∙ live_to q b)
      by true false a b =
          let e : rank s.arena n p ≡ q = sym (live_to p a) ∙ same ∙ dead_to q b in
          let generation : n ≡ q.1 = ap (λ (r : Pointer). r.1) e in
          absurd (omega (arith, sound.table.before q second b, rises, generation))
      by false true a b =
          let e : p ≡ rank s.arena n q = sym (dead_to p a) ∙ same ∙ live_to q b in
          let generation : p.1 ≡ n = ap (λ (r : Pointer). r.1) e in
          absurd (omega (arith, sound.table.before p first a, rises, generation))
      by false false a b = sym (dead_to p a) ∙ same ∙ dead_to q b

  same_there : (p q : Pointer) → has s.table p ≡ true → has s.table q ≡ true → is_same (there q) (there p) ≡ is_same q p
  same_there p q first second =
      elim (cases_Bool (is_same q p)) [
        | inl so ↦ ap (λ r. is_same (there r) (there p)) (same_is q p so) ∙ same_itself (there p) ∙ sym so
        | inr differs ↦ not_same (there q) (there p) (λ e. true≢false (sym (ap (λ r. is_same r p) (one_to_one q p second first e) ∙ same_itself p) ∙ differs)) ∙ sym differs
      ]

  name_after : (p : Pointer) → has s.table p ≡ true → name_of (map there s.table) (there p) ≡ name_of s.table p
  name_after p h = name_of-map there s.table p (λ q k. same_there p q h k)

  row_after : (p : Pointer) → has s.table p ≡ true → row_of after (map there s.table) (there p) ≡ row_of s.arena s.table p
  row_after p h = by (look_up s.arena.slots p) refl
    where
      link_after : (datum : X) (l : Option Pointer) → look_up s.arena.slots p ≡ Some (datum, l) → link_name (map there s.table) (option_map there l) ≡ link_name s.table l
      link_after datum None found = refl
      link_after datum (Some l) found = name_after l (sound.table.has_links p l datum found)

      by : (o : Option (X × Option Pointer)) → look_up s.arena.slots p ≡ o → row_of after (map there s.table) (there p) ≡ option_map (as_row s.table) o
      by None none = ap (option_map (as_row (map there s.table))) (some_is (look_up after.slots (there p)) (dead_after p h (ap is_some none)))
      by (Some node) found = ap (option_map (as_row (map there s.table))) (found_after p node found) ∙ ap (λ name. Some (node.0, name)) (link_after node.0 node.1 found)

  map_map : {A : Type 0} (g : Pointer → A) (table : List Pointer) → map g (map there table) ≡ map (λ p. g (there p)) table
  map_map g [] = refl
  map_map g (p ∷ table) = ap (λ l. g (there p) ∷ l) (map_map g table)

  -- what the session shows stays
  pub shown-compacted : shown (compacted s n) ≡ shown s
  shown-compacted =
      ap (λ rows. record (shown s) { rows = rows }) (map_map (row_of after (map there s.table)) s.table ∙ map_same (row_of s.arena s.table) (λ p. row_of after (map there s.table) (there p)) s.table row_after)

  -- a pointer that is live after is the image of one that was live
  image_of : (r : Pointer) → is_live after r ≡ true → (p : Pointer) × (is_live s.arena p ≡ true) × (there p ≡ r)
  image_of r live =
      let from = was_live s.arena n image r live in
      (from.0, from.1, live_to from.0 from.1 ∙ from.2)

  pub SoundOver-compacted : SoundOver kind (compacted s n)
  SoundOver-compacted =
      SoundOver-from kind (compacted s n)
      (record {
        distinct = distinct-map there s.table one_to_one sound.table.distinct;
        has_live = λ r live. let from = image_of r live in ap (has (map there s.table)) (sym from.2) ∙ has-map there s.table from.0 (sound.table.has_live from.0 from.1);
        by_now = λ r h. let from = from-map there s.table r h in now from.0 r from.1 from.2 (cases_Bool (is_live s.arena from.0));
        before = λ r h dead. let from = from-map there s.table r h in below from.0 r from.1 from.2 dead (cases_Bool (is_live s.arena from.0));
      })
      (λ r q datum found. linked r q datum found)
      (over_compressed kind s.arena (over_of kind s sound) n image)
    where
      now : (p r : Pointer) → has s.table p ≡ true → there p ≡ r → (is_live s.arena p ≡ true) ⊎ (is_live s.arena p ≡ false) → r.1 ≤ n
      now p r h e (inl live) = let g : n ≡ r.1 = ap (λ (x : Pointer). x.1) (sym (live_to p live) ∙ e) in omega (arith, g)
      now p r h e (inr dead) = let g : p.1 ≡ r.1 = ap (λ (x : Pointer). x.1) (sym (dead_to p dead) ∙ e) in omega (arith, g, sound.table.before p h dead, rises)

      below : (p r : Pointer) → has s.table p ≡ true → there p ≡ r → is_live after r ≡ false → (is_live s.arena p ≡ true) ⊎ (is_live s.arena p ≡ false) → r.1 < n
      below p r h e gone (inl live) =
          let node = some_has (look_up s.arena.slots p) live in
          absurd (true≢false (sym (ap is_some (found_after p node.0 node.1)) ∙ ap (is_live after) e ∙ gone))
      below p r h e gone (inr dead) = let g : p.1 ≡ r.1 = ap (λ (x : Pointer). x.1) (sym (dead_to p dead) ∙ e) in omega (arith, g, sound.table.before p h dead, rises)

      link_of : (p q : Pointer) (node : X × Option Pointer) (l : Option Pointer) → look_up s.arena.slots p ≡ Some node → node.1 ≡ l → option_map there l ≡ Some q → has (map there s.table) q ≡ true
      link_of p q node None found is e = absurd (cc)
      link_of p q node (Some l) found is e =
          let same : there l ≡ q = same_Some (there l) q e in
          ap (has (map there s.table)) (sym same) ∙ has-map there s.table l (sound.table.has_links p l node.0 (found ∙ ap (λ x. Some (node.0, x)) is))

      linked : (r q : Pointer) (datum : X) → look_up after.slots r ≡ Some (datum, Some q) → has (map there s.table) q ≡ true
      linked r q datum found =
          let from = image_of r (ap is_some found) in
          let node = some_has (look_up s.arena.slots from.0) from.1 in
          let same : image node.0 ≡ (datum, Some q) = same_Some (image node.0) (datum, Some q) (sym (found_after from.0 node.0 node.1) ∙ ap (look_up after.slots) from.2 ∙ found) in
          link_of from.0 q node.0 node.0.1 node.1 refl (ap (λ (x : X × Option Pointer). x.1) same)
