-- What a compression with recasting makes of a session, over the map of pointers by which links and names are renamed.
use Rattle.std.proofs.Common.{◌≡◌, ℕ, ◌||◌, not, Bool, true, false, List, [], ◌∷◌, map, Option, Some, None, cond, is_some, refl, sym, ap, ◌∙◌, true≢false}
use Rattle.std.proofs.lemmas.Option.{same_Some}
use Rattle.std.proofs.lemmas.List.Folds.{list_any-append}
use Rattle.std.specs.List.{list_any, find}
use Rattle.std.specs.Option.{option_map}
use Rattle.triple_arena_base.specs.Held.{recast_item, held_option, refill_option, held_all}
use Rattle.triple_arena_base.specs.declared.invalidation.InvalidationOption.{InvalidationOption}
use Rattle.triple_arena_base.specs.Invalidation.{allowed_option, overflowing_option}
use Rattle.triple_arena_ptr.specs.Numbers.{Generations, raise, wraps}
use Rattle.triple_arena_ptr.specs.Pointers.{Pointer}
use Rattle.triple_arena_stack.specs.StackKind.{StackKind}
use Rattle.triple_arena_traits.specs.Entries.{look_up}
use Rattle.triple_arena_traits.specs.ArenaState.{ArenaState, map_values}
use Rattle.triple_arena_traits.specs.Walks.{values}
use Rattle.triple_arena_traits.specs.Compression.{compressed, rank, raised_if_any, wraps_after}
use Rattle.triple_arena_traits.specs.Ending.{told}
use Rattle.triple_arena_direct.specs.Renaming.{MapsPointers, IsRenamed, AreRenamed, first_unresolved}
use Rattle.triple_arena_commands.specs.declared.reply.Reply.{Reply}
use Rattle.triple_arena_commands.specs.declared.reply.Reply.TheVariants.{Compacted, Unresolved}
use Rattle.triple_arena_session.specs.declared.node.Node.{Node}
use Rattle.triple_arena_session.specs.SessionState.{SessionState, node_of}
use Rattle.triple_arena_session.specs.SessionLayout.{session_of}
use Rattle.triple_arena_session.specs.Compaction.{dangles, any_dangles, renamed, relinked, compacted}
use Rattle.triple_arena_session.specs.SessionRun.{compact_answer}
use Rattle.triple_arena_session.proofs.Mapped.{len-mapped, look_up-mapped, values-mapped, rank-mapped, compressed-mapped}
use Rattle.triple_arena_session.proofs.Shown.{answers}

some_mapped : {A B : Type 0} (f : A → B) (o : Option A) → is_some (option_map f o) ≡ is_some o
some_mapped f None = refl
some_mapped f (Some x) = refl

found_any : {A : Type 0} (p : A → Bool) (xs : List A) → is_some (find p xs) ≡ list_any p xs
found_any p [] = refl
found_any p (x ∷ xs) = by_test (p x) (found_any p xs)
  where
    by_test : (b : Bool) → is_some (find p xs) ≡ list_any p xs → is_some (cond b (Some x) (find p xs)) ≡ (b || list_any p xs)
    by_test true e = refl
    by_test false e = e

no_test : (a b : Bool) → (a || b) ≡ false → (a ≡ false) × (b ≡ false)
no_test true b e = absurd (true≢false e)
no_test false b e = (refl, e)

or_false : (b : Bool) → (b || false) ≡ b
or_false true = refl
or_false false = refl

not_false : (b : Bool) → not b ≡ false → b ≡ true
not_false true e = refl
not_false false e = absurd (true≢false e)

module _ {X P : Type 0} (pointer : P → Pointer) (held : P → List P) (refill : P → List P → P) (holds_itself : (p : P) → held p ≡ p ∷ []) (refills : (p q : P) → refill p (q ∷ []) ≡ q) (arena : ArenaState (Node X P)) where
  abbrev held_node : Node X P → List P
  held_node node = held_option held node.link

  abbrev refill_node : Node X P → List P → Node X P
  refill_node node l = record node { link = refill_option refill node.link l }

  -- the arena with its links as numbers
  abbrev shown : ArenaState (X × Option Pointer)
  shown = map_values (node_of pointer) arena

  -- whether a pointer finds nothing
  abbrev is_lost : P → Bool
  is_lost p = not (is_some (look_up arena.slots (pointer p)))

  found_shown : (q : Pointer) → is_some (look_up shown.slots q) ≡ is_some (look_up arena.slots q)
  found_shown q = ap is_some (look_up-mapped (node_of pointer) arena q) ∙ some_mapped (node_of pointer) (look_up arena.slots q)

  -- a link dangles where the pointer that its node holds finds nothing
  link_dangles : (datum : X) (link : Option P) → dangles shown (datum, option_map pointer link) ≡ list_any is_lost (held_option held link)
  link_dangles datum None = refl
  link_dangles datum (Some p) = ap not (found_shown (pointer p)) ∙ sym (or_false (is_lost p)) ∙ ap (list_any is_lost) (sym (holds_itself p))

  some_dangles : (vs : List (Node X P)) → list_any (dangles shown) (map (node_of pointer) vs) ≡ list_any is_lost (held_all held_node vs)
  some_dangles [] = refl
  some_dangles (v ∷ vs) =
      ap (λ b. b || list_any (dangles shown) (map (node_of pointer) vs)) (link_dangles v.datum v.link)
      ∙ ap (λ b. list_any is_lost (held_node v) || b) (some_dangles vs)
      ∙ sym (list_any-append is_lost (held_node v) (held_all held_node vs))

  dangling : any_dangles shown ≡ is_some (first_unresolved pointer arena.slots (held_all held_node (values arena.slots)))
  dangling = ap (list_any (dangles shown)) (values-mapped (node_of pointer) 1 arena.slots) ∙ some_dangles (values arena.slots) ∙ sym (found_any is_lost (held_all held_node (values arena.slots)))

  pub unresolved : (w : P) → first_unresolved pointer arena.slots (held_all held_node (values arena.slots)) ≡ Some w → any_dangles shown ≡ true
  unresolved w is = dangling ∙ ap is_some is

  pub resolved : first_unresolved pointer arena.slots (held_all held_node (values arena.slots)) ≡ None → any_dangles shown ≡ false
  resolved none = dangling ∙ ap is_some none

  module _ (n : ℕ) where
    renamed_is : (q : Pointer) → renamed shown n q ≡ cond (is_some (look_up arena.slots q)) (rank arena n q) q
    renamed_is q = ap (λ b. cond b (rank shown n q) q) (found_shown q) ∙ ap (λ r. cond (is_some (look_up arena.slots q)) r q) (rank-mapped (node_of pointer) arena n q)

    renamed_live : (p : P) → is_lost p ≡ false → renamed shown n (pointer p) ≡ rank arena n (pointer p)
    renamed_live p live = renamed_is (pointer p) ∙ ap (λ b. cond b (rank arena n (pointer p)) (pointer p)) (not_false (is_some (look_up arena.slots (pointer p))) live)

    -- a node whose link is renamed
    link_renamed : (datum : X) (link : Option P) (new : Node X P) → list_any is_lost (held_option held link) ≡ false → IsRenamed pointer (rank arena n) held_node refill_node (record { datum = datum; link = link }) new → node_of pointer new ≡ relinked shown n (datum, option_map pointer link)
    link_renamed datum None new live is = ap (node_of pointer) is.filled
    link_renamed datum (Some p) new live is = ap (node_of pointer) is.filled ∙ ap (λ (l : Option Pointer). (datum, l)) (ap Some (by_pointers (held_node new) (is.holds ∙ ap (λ ps. map (rank arena n) (map pointer ps)) (holds_itself p))))
      where
        by_pointers : (l : List P) → map pointer l ≡ rank arena n (pointer p) ∷ [] → pointer (refill p l) ≡ renamed shown n (pointer p)
        by_pointers [] e = absurd (cc)
        by_pointers (q ∷ r ∷ l) e = absurd (cc)
        by_pointers (q ∷ []) e =
            let there : pointer q ≡ rank arena n (pointer p) = cc in
            ap pointer (refills p q) ∙ there ∙ sym (renamed_live p (sym (or_false (is_lost p)) ∙ ap (list_any is_lost) (sym (holds_itself p)) ∙ live))

    links_renamed : (olds news : List (Node X P)) → list_any is_lost (held_all held_node olds) ≡ false → AreRenamed pointer (rank arena n) held_node refill_node olds news → map (node_of pointer) news ≡ map (relinked shown n) (map (node_of pointer) olds)
    links_renamed [] [] live each = refl
    links_renamed [] (y ∷ news) live each = absurd each
    links_renamed (x ∷ olds) [] live each = absurd each
    links_renamed (x ∷ olds) (y ∷ news) live each =
        let both = no_test (list_any is_lost (held_node x)) (list_any is_lost (held_all held_node olds)) (sym (list_any-append is_lost (held_node x) (held_all held_node olds)) ∙ live) in
        ap (λ z. z ∷ map (node_of pointer) news) (link_renamed x.datum x.link y both.0 each.0)
        ∙ ap (λ l. relinked shown n (node_of pointer x) ∷ l) (links_renamed olds news both.1 each.1)

    arena_renamed : (news : List (Node X P)) (new_arena : ArenaState (Node X P)) → first_unresolved pointer arena.slots (held_all held_node (values arena.slots)) ≡ None → AreRenamed pointer (rank arena n) held_node refill_node (values arena.slots) news → new_arena ≡ compressed arena n news → map_values (node_of pointer) new_arena ≡ compressed shown n (map (relinked shown n) (values shown.slots))
    arena_renamed news new_arena none each is =
        ap (map_values (node_of pointer)) is
        ∙ compressed-mapped (node_of pointer) arena n news
        ∙ ap (compressed shown n) (links_renamed (values arena.slots) news (sym (found_any is_lost (held_all held_node (values arena.slots))) ∙ ap is_some none) each ∙ ap (map (relinked shown n)) (sym (values-mapped (node_of pointer) 1 arena.slots)))

    -- the names are renamed by a map of each live pointer to its rank, and of no other
    module _ (images : List (Option (ℕ × P))) (maps : MapsPointers pointer (rank arena n) arena.slots images) where
      name_renamed : (p : P) → pointer (recast_item (look_up images (pointer p)) p) ≡ renamed shown n (pointer p)
      name_renamed p = by_image (look_up images (pointer p)) (look_up arena.slots (pointer p)) (maps (pointer p)) ∙ sym (renamed_is (pointer p))
        where
          by_image : (i : Option P) (o : Option (Node X P)) → option_map pointer i ≡ option_map (λ _. rank arena n (pointer p)) o → pointer (recast_item i p) ≡ cond (is_some o) (rank arena n (pointer p)) (pointer p)
          by_image None None e = refl
          by_image None (Some v) e = absurd (cc)
          by_image (Some y) None e = absurd (cc)
          by_image (Some y) (Some v) e = same_Some (pointer y) (rank arena n (pointer p)) e

      names_renamed : (ps : List P) → map pointer (map (λ p. recast_item (look_up images (pointer p)) p) ps) ≡ map (renamed shown n) (map pointer ps)
      names_renamed [] = refl
      names_renamed (p ∷ ps) = ap (λ q. q ∷ map pointer (map (λ p. recast_item (look_up images (pointer p)) p) ps)) (name_renamed p) ∙ ap (λ l. renamed shown n (pointer p) ∷ l) (names_renamed ps)

      -- the session after a compression with recasting, and after the renaming of its names by the map
      session_renamed : (table : List P) (room : ℕ) (news : List (Node X P)) (new_arena : ArenaState (Node X P)) (new_table : List P) (new_room : ℕ) → first_unresolved pointer arena.slots (held_all held_node (values arena.slots)) ≡ None → AreRenamed pointer (rank arena n) held_node refill_node (values arena.slots) news → new_arena ≡ compressed arena n news → new_table ≡ map (λ p. recast_item (look_up images (pointer p)) p) table → new_room ≡ room → session_of pointer new_arena new_table new_room ≡ compacted (session_of pointer arena table room) n
      session_renamed table room news new_arena new_table new_room none each arena_is table_is room_is =
          rw (arena_renamed news new_arena none each arena_is, ap (map pointer) table_is ∙ names_renamed table, room_is) refl

  -- what the session answers to a compaction
  module _ (kind : StackKind) (generations : Generations) (table : List P) (room : ℕ) (s : SessionState X) (shows : session_of pointer arena table room ≡ s) where
    abbrev raised : ℕ
    raised = raised_if_any (raise generations) arena

    pub compacts : (images : List (Option (ℕ × P))) → MapsPointers pointer (rank arena raised) arena.slots images → (news : List (Node X P)) (new_arena : ArenaState (Node X P)) (new_table : List P) (new_room : ℕ) (wrapped : Bool) → first_unresolved pointer arena.slots (held_all held_node (values arena.slots)) ≡ None → AreRenamed pointer (rank arena raised) held_node refill_node (values arena.slots) news → new_arena ≡ compressed arena raised news → new_table ≡ map (λ p. recast_item (look_up images (pointer p)) p) table → new_room ≡ room → wrapped ≡ wraps_after (wraps generations) false arena → ◌≡◌ {A = Reply X × SessionState X} (Compacted wrapped, session_of pointer new_arena new_table new_room) (compact_answer kind generations s)
    compacts images maps news new_arena new_table new_room wrapped none each arena_is table_is room_is wrapped_is =
        answers (ap Compacted wrapped_is) (session_renamed raised images maps table room news new_arena new_table new_room none each arena_is table_is room_is)
        ∙ sym chosen
        ∙ ap (compact_answer kind generations) shows
      where
        chosen : compact_answer kind generations (session_of pointer arena table room) ≡ (Compacted (wraps_after (wraps generations) false arena), compacted (session_of pointer arena table room) raised)
        chosen = rw (resolved none, len-mapped (node_of pointer) arena) refl

    pub compacts_not : (w : P) (new_arena : ArenaState (Node X P)) → first_unresolved pointer arena.slots (held_all held_node (values arena.slots)) ≡ Some w → new_arena ≡ arena → ◌≡◌ {A = Reply X × SessionState X} (Unresolved, session_of pointer new_arena table room) (compact_answer kind generations s)
    compacts_not w new_arena lost same =
        ap (λ a. (Unresolved, session_of pointer a table room)) same ∙ sym chosen ∙ ap (compact_answer kind generations) shows
      where
        chosen : compact_answer kind generations (session_of pointer arena table room) ≡ (Unresolved, session_of pointer arena table room)
        chosen = rw (unresolved w lost) refl

-- the value and the wrap of an answer
pub told_parts : {A : Type 0} (wrapped : Bool) (r : InvalidationOption A) (got : A × Bool) → r ≡ told wrapped (allowed_option r) → got ≡ overflowing_option r → (got.0 ≡ allowed_option r) × (got.1 ≡ wrapped)
told_parts {A} wrapped r got is over = let both = over ∙ ap overflowing_option is ∙ by_test wrapped (allowed_option r) in (ap (λ (z : A × Bool). z.0) both, ap (λ (z : A × Bool). z.1) both)
  where
    by_test : (b : Bool) (x : A) → overflowing_option (told b x) ≡ (x, b)
    by_test true x = refl
    by_test false x = refl
