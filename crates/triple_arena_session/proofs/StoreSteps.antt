-- Commands to a sound session that insert nothing are answered as by the store that it shows.
use Rattle.std.proofs.Common.{◌≡◌, ℕ, ◌+◌, ◌==◌, Bool, true, false, List, [], ◌∷◌, ◌++◌, length, map, Option, Some, None, is_some, if◌then◌else◌, cond, refl, sym, ap, subst, ◌∙◌, inl, inr, arith, String, ◌||◌}
use Rattle.std.specs.declared.alloc.Global.{Global}
use Rattle.std.specs.Option.{option_map, option_and_then}
use Rattle.std.proofs.lemmas.Option.{same_Some}
use Rattle.std.proofs.lemmas.List.{map-append, append-nil, length-map}
use Rattle.triple_arena_ptr.specs.Numbers.{Generations, raise, wraps}
use Rattle.triple_arena_ptr.specs.Pointers.{Pointer}
use Rattle.triple_arena_stack.specs.StackKind.{StackKind}
use Rattle.triple_arena_traits.specs.Items.{item, with_item}
use Rattle.triple_arena_traits.specs.Entries.{value_of_generation, ChangesAt, look_up}
use Rattle.triple_arena_traits.specs.ArenaState.{ArenaState, entry, arena_len, capacity, with_value}
use Rattle.triple_arena_traits.specs.Ending.{removed, invalidated, cleared}
use Rattle.triple_arena_traits.specs.laws.EntryLaws.{slots-removed, slots-invalidated, slots-cleared, changes_at, capacity-removed}
use Rattle.triple_arena_traits.specs.Walks.{keys}
use Rattle.triple_arena_traits.specs.Histories.{has, removal, invalidation, clearing}
use Rattle.triple_arena_traits.specs.laws.ItemLaws.{length-with_item, item-map}
use Rattle.triple_arena_traits.specs.laws.WellFormedLaws.{limit-removed, greatest-removed, with_value_is}
use Rattle.triple_arena_traits.specs.laws.PointerListLaws.{has-append}
use Rattle.triple_arena_traits.specs.laws.HistoryLaws.{Continues-written, Continues-removed, Continues-invalidated, Continues-cleared}
use Rattle.triple_arena_commands.specs.declared.command.Command.{Command}
use Rattle.triple_arena_commands.specs.declared.command.Command.TheVariants.{Get, Set, Remove, Invalidate, Clear, Len, Capacity}
use Rattle.triple_arena_commands.specs.declared.reply.Reply.{Reply}
use Rattle.triple_arena_commands.specs.declared.reply.Reply.TheVariants.{Given, Done, Removed, Invalid, Cleared, BadName, Count}
use Rattle.triple_arena_commands.specs.ReplyText.{tells_of_wrap}
use Rattle.triple_arena_commands.specs.NameStore.{NameRow, Store, row, is_good_link, with_row, give_row, get_row_reply, act_on_row, store_answer}
use Rattle.triple_arena_commands.specs.StoreRuns.{without_wrap}
use Rattle.triple_arena_session.specs.SessionState.{SessionState, link_name, link_pointer, named}
use Rattle.triple_arena_session.specs.SessionRun.{get_reply, act_under, act_on, set_answer, remove_under, invalidate_under, answer}
use Rattle.triple_arena_session.specs.Shown.{as_row, row_of, shown}
use Rattle.triple_arena_session.proofs.TableNames.{has_from_item, link_name-given, name_of-append}
use Rattle.triple_arena_session.proofs.Rows.{value_hit, value_miss, entry_found, row_count-shown, rows_changed, found_before}
use Rattle.triple_arena_session.proofs.Soundness.{SoundOver, TableSound, TableSound-kept, TableSound-given, SoundOver-from, over_of}
use Rattle.triple_arena_session.proofs.Continuing.{raised_by_one, over_written, over_removed, over_invalidated, over_cleared}

-- the pointer of a good link is in the table
pub link_there : (table : List Pointer) (link : Option ℕ) (q : Pointer) → link_pointer table link ≡ Some (Some q) → has table q ≡ true
link_there table None q e = absurd (cc)
link_there table (Some name) q e = by (item table name) refl e
  where
    by : (o : Option Pointer) → item table name ≡ o → option_map Some o ≡ Some (Some q) → has table q ≡ true
    by None is e = absurd (cc)
    by (Some p) is e = let same : p ≡ q = cc in has_from_item table name q (is ∙ ap Some same)

pub has_longer : (table more : List Pointer) (q : Pointer) → has table q ≡ true → has (table ++ more) q ≡ true
has_longer table more q h = has-append table more q ∙ ap (λ b. b || has more q) h

map_none : {A : Type 0} (f g : Pointer → Option A) (table : List Pointer) → ((q : Pointer) → g q ≡ None) → map g table ≡ map (λ r. None) (map f table)
map_none f g [] none = refl
map_none f g (q ∷ table) none = ap (λ x. x ∷ map g table) (none q) ∙ ap (λ l. None ∷ l) (map_none f g table none)

-- the link of what is found where it was put
pub new_link : {X : Type 0} (h n : ℕ) (v : X × Option Pointer) (d : X) (x : Pointer) → option_and_then (value_of_generation n) (Some (h, v)) ≡ Some (d, Some x) → v.1 ≡ Some x
new_link {X = X} h n v d x e = by (h == n) e
  where
    by : (b : Bool) → cond b (Some v) None ≡ Some (d, Some x) → v.1 ≡ Some x
    by true e = ap (λ (r : X × Option Pointer). r.1) (same_Some v (d, Some x) e)
    by false e = absurd (cc)

pub Store-is : {X : Type 0} (r1 r2 : List (Option (NameRow X))) (c1 c2 : ℕ) (l1 l2 : Option ℕ) (g1 g2 : ℕ) → r1 ≡ r2 → c1 ≡ c2 → l1 ≡ l2 → g1 ≡ g2
    → ◌≡◌ {A = Store X} (record { rows = r1; capacity = c1; limit = l1; greatest = g1 }) (record { rows = r2; capacity = c2; limit = l2; greatest = g2 })
Store-is r1 r2 c1 c2 l1 l2 g1 g2 a b c d = rw (a, b, c, d) refl

module _ {X : Type 0} where
  -- what is named is what the store has under the name
  pub row_named : (s : SessionState X) (name : ℕ) → row (shown s) name ≡ option_map (as_row s.table) (named s name)
  row_named s name = ap (option_and_then (λ r. r)) (item-map (row_of s.arena s.table) s.table name) ∙ by (item s.table name)
    where
      by : (o : Option Pointer) → option_and_then (λ r. r) (option_map (row_of s.arena s.table) o) ≡ option_map (as_row s.table) (option_and_then (look_up s.arena.slots) o)
      by None = refl
      by (Some p) = refl

  -- a good link of the session is one of the store
  pub good_link : (s : SessionState X) (link : Option ℕ) → is_good_link (shown s) link ≡ is_some (link_pointer s.table link)
  good_link s None = refl
  good_link s (Some name) = ap is_some (item-map (row_of s.arena s.table) s.table name) ∙ by (item s.table name)
    where
      by : (o : Option Pointer) → is_some (option_map (row_of s.arena s.table) o) ≡ is_some (option_map Some o)
      by None = refl
      by (Some p) = refl

  -- the last row of a longer table
  pub row_last : (s : SessionState X) (t : ArenaState (X × Option Pointer)) (p : Pointer) (node : X × Option Pointer) → ((l : Pointer) → node.1 ≡ Some l → has s.table l ≡ true) → look_up t.slots p ≡ Some node → row_of t (s.table ++ p ∷ []) p ≡ Some (as_row s.table node)
  row_last s t p node there found = ap (option_map (as_row (s.table ++ p ∷ []))) found ∙ ap (λ name. Some (node.0, name)) (by node.1 refl)
    where
      by : (l : Option Pointer) → node.1 ≡ l → link_name (s.table ++ p ∷ []) l ≡ link_name s.table l
      by None is = refl
      by (Some l) is = name_of-append s.table (p ∷ []) l (there l is)

module _ {X : Type 0} (kind : StackKind) where
  -- a reply to a command, and the session after it, are those of the store that the session shows
  pub record Agrees (s : SessionState X) (command : Command X) (a : Reply X × SessionState X) : Type 0 where
    pub reply : without_wrap a.0 ≡ (store_answer (shown s) command).0
    pub store : tells_of_wrap a.0 ≡ false → shown a.1 ≡ (store_answer (shown s) command).1
    pub sound : tells_of_wrap a.0 ≡ false → SoundOver kind a.1

  -- what is left of the agreement where the answer of the store is known
  pub agrees : (s : SessionState X) (command : Command X) (r : Reply X) (t : SessionState X) (q : Reply X) (u : Store X) → store_answer (shown s) command ≡ (q, u) → without_wrap r ≡ q → (tells_of_wrap r ≡ false → (shown t ≡ u) × SoundOver kind t) → Agrees s command (r, t)
  agrees s command r t q u is same rest =
      record {
        reply = same ∙ sym (ap (λ (o : Reply X × Store X). o.0) is);
        store = λ quiet. (rest quiet).0 ∙ sym (ap (λ (o : Reply X × Store X). o.1) is);
        sound = λ quiet. (rest quiet).1;
      }

  -- nothing has changed
  pub agrees_same : (s : SessionState X) (command : Command X) (r : Reply X) → SoundOver kind s → store_answer (shown s) command ≡ (r, shown s) → without_wrap r ≡ r → Agrees s command (r, s)
  agrees_same s command r sound is quiet = agrees s command r s r (shown s) is quiet (λ h. (refl, sound))

  -- a command to a name that was never given, or has ended, and to any other
  pub agrees_at : (s : SessionState X) (command : Command X) (name : ℕ) (act : Pointer → X × Option Pointer → Reply X × SessionState X) (on_row : NameRow X → Reply X × Store X)
      → SoundOver kind s → store_answer (shown s) command ≡ act_on_row (shown s) (row (shown s) name) on_row
      → ((p : Pointer) (node : X × Option Pointer) → item s.table name ≡ Some p → look_up s.arena.slots p ≡ Some node → store_answer (shown s) command ≡ on_row (as_row s.table node) → Agrees s command (act p node))
      → Agrees s command (act_on s act (item s.table name))
  agrees_at s command name act on_row sound is acts = by (item s.table name) refl
    where
      row_is : (o : Option (X × Option Pointer)) → named s name ≡ o → store_answer (shown s) command ≡ act_on_row (shown s) (option_map (as_row s.table) o) on_row
      row_is o at = is ∙ ap (λ r. act_on_row (shown s) r on_row) (row_named s name ∙ ap (option_map (as_row s.table)) at)

      under : (p : Pointer) (o : Option (X × Option Pointer)) → item s.table name ≡ Some p → look_up s.arena.slots p ≡ o → Agrees s command (act_under s act p o)
      under p None at found = agrees_same s command Invalid sound (row_is None (ap (option_and_then (look_up s.arena.slots)) at ∙ found)) refl
      under p (Some node) at found = acts p node at found (row_is (Some node) (ap (option_and_then (look_up s.arena.slots)) at ∙ found))

      by : (o : Option Pointer) → item s.table name ≡ o → Agrees s command (act_on s act o)
      by None at = agrees_same s command Invalid sound (row_is None (ap (option_and_then (look_up s.arena.slots)) at)) refl
      by (Some p) at = under p (look_up s.arena.slots p) at refl

  -- a command with a link that was never given, and with any other
  pub agrees_linked : (s : SessionState X) (command : Command X) (link : Option ℕ) (a : Option (Option Pointer) → Reply X × SessionState X) (b : Reply X × Store X)
      → SoundOver kind s → store_answer (shown s) command ≡ (if is_good_link (shown s) link then b else (BadName, shown s)) → a None ≡ (BadName, s)
      → ((l : Option Pointer) → link_pointer s.table link ≡ Some l → store_answer (shown s) command ≡ b → Agrees s command (a (Some l)))
      → Agrees s command (a (link_pointer s.table link))
  agrees_linked s command link a b sound is bad good = by (link_pointer s.table link) refl
    where
      by : (o : Option (Option Pointer)) → link_pointer s.table link ≡ o → Agrees s command (a o)
      by None e =
          subst (Agrees s command) (sym bad)
          (agrees_same s command BadName sound (is ∙ ap (λ t. if t then b else (BadName, shown s)) (good_link s link ∙ ap is_some e)) refl)
      by (Some l) e = good l e (is ∙ ap (λ t. if t then b else (BadName, shown s)) (good_link s link ∙ ap is_some e))

module _ {X : Type 0} (kind : StackKind) (generations : Generations) (counts : generations.counting ≡ true) (text : Option (String Global)) where
  pub agrees_get : (s : SessionState X) (name : ℕ) → SoundOver kind s → Agrees kind s (Get name) (answer kind generations text s (Get name))
  agrees_get s name sound = agrees_same kind s (Get name) (get_reply s (named s name)) sound (ap (λ r. (r, shown s)) (ap get_row_reply (row_named s name) ∙ by (named s name))) (plain (named s name))
    where
      by : (o : Option (X × Option Pointer)) → get_row_reply (option_map (as_row s.table) o) ≡ get_reply s o
      by None = refl
      by (Some node) = refl

      plain : (o : Option (X × Option Pointer)) → without_wrap (get_reply s o) ≡ get_reply s o
      plain None = refl
      plain (Some node) = refl

  pub agrees_len : (s : SessionState X) → SoundOver kind s → Agrees kind s Len (answer kind generations text s Len)
  agrees_len s sound = agrees_same kind s Len (Count (arena_len s.arena)) sound (ap (λ n. (Count n, shown s)) (row_count-shown kind s sound)) refl

  pub agrees_capacity : (s : SessionState X) → SoundOver kind s → Agrees kind s Capacity (answer kind generations text s Capacity)
  agrees_capacity s sound = agrees_same kind s Capacity (Count (capacity s.arena)) sound refl refl

  pub agrees_set : (s : SessionState X) (name : ℕ) (datum : X) (link : Option ℕ) → SoundOver kind s → Agrees kind s (Set name datum link) (answer kind generations text s (Set name datum link))
  agrees_set s name datum link sound =
      agrees_linked kind s (Set name datum link) link (set_answer s name datum) (act_on_row (shown s) (row (shown s) name) (λ r. (Done, with_row (shown s) name (Some (datum, link))))) sound refl refl
      (λ l good is. agrees_at kind s (Set name datum link) name (λ p node. (Done, record s { arena = with_value s.arena p.0 (datum, l) })) (λ r. (Done, with_row (shown s) name (Some (datum, link)))) sound is (under l good))
    where
      under : (l : Option Pointer) → link_pointer s.table link ≡ Some l → (p : Pointer) (node : X × Option Pointer) → item s.table name ≡ Some p → look_up s.arena.slots p ≡ Some node
          → store_answer (shown s) (Set name datum link) ≡ (Done, with_row (shown s) name (Some (datum, link)))
          → Agrees kind s (Set name datum link) (Done, record s { arena = with_value s.arena p.0 (datum, l) })
      under l good p node at found is =
          let t : ArenaState (X × Option Pointer) = with_value s.arena p.0 (datum, l) in
          let stands = entry_found s.arena p node found in
          let e : Option (ℕ × (X × Option Pointer)) = Some (p.1, (datum, l)) in
          let written : t.slots ≡ with_item s.arena.slots p.0 e = with_value_is s.arena.slots p.0 p.1 node (datum, l) stands in
          let changes : ChangesAt s.arena.slots p.0 e t.slots = subst (ChangesAt s.arena.slots p.0 e) (sym written) (changes_at s.arena.slots p.0 e (λ none. absurd (cc))) in
          agrees kind s (Set name datum link) Done (record s { arena = t }) Done (with_row (shown s) name (Some (datum, link))) is refl (λ quiet. (
            Store-is _ _ _ _ _ _ _ _
                (rows_changed kind s t s.table name p node e (Some (datum, link)) sound (λ l h. refl) at found changes
                (λ q h other. value_miss e q.1 p.1 (datum, l) refl (λ same. other (sym same)))
                (ap (option_map (as_row s.table)) (value_hit (entry t p.0) p.1 (datum, l) changes.there) ∙ ap (λ n. Some (datum, n)) (link_name-given s.table link l sound.table.distinct good)))
                refl refl refl,
            SoundOver-from kind (record s { arena = t })
                (TableSound-kept kind s sound t (Continues-written s.arena p.0 (datum, l)))
                (λ q x d holds. elim (found_before s.arena t p.0 e q (d, Some x) changes holds) [
                  | inl here ↦ link_there s.table link x (good ∙ ap Some (new_link p.1 q.1 (datum, l) d x here))
                  | inr before ↦ sound.table.has_links q x d before
                ])
                (over_written kind s.arena (over_of kind s sound) p.0 (datum, l)),
          ))

  pub agrees_remove : (s : SessionState X) (name : ℕ) → SoundOver kind s → Agrees kind s (Remove name) (answer kind generations text s (Remove name))
  agrees_remove s name sound =
      agrees_at kind s (Remove name) name (remove_under kind generations s) (λ r. (Removed r.0 r.1 false, with_row (shown s) name None)) sound refl under
    where
      under : (p : Pointer) (node : X × Option Pointer) → item s.table name ≡ Some p → look_up s.arena.slots p ≡ Some node
          → store_answer (shown s) (Remove name) ≡ (Removed node.0 (link_name s.table node.1) false, with_row (shown s) name None)
          → Agrees kind s (Remove name) (remove_under kind generations s p node)
      under p node at found is =
          let raised : ℕ → ℕ = raise generations in
          let t : ArenaState (X × Option Pointer) = removed raised s.arena p.0 in
          let changes = slots-removed raised s.arena p.0 t refl in
          agrees kind s (Remove name) (Removed node.0 (link_name s.table node.1) (wraps generations s.arena.counter)) (record s { arena = t }) (Removed node.0 (link_name s.table node.1) false) (with_row (shown s) name None) is refl (λ quiet.
          let continues = Continues-removed generations s.arena t p (counts, quiet) (ap is_some found) refl in (
            Store-is _ _ _ _ _ _ _ _
                (rows_changed kind s t s.table name p node None None sound (λ l h. refl) at found changes (λ q h other. refl) (ap (option_map (as_row s.table)) (ap (option_and_then (value_of_generation p.1)) changes.there)))
                (capacity-removed raised s.arena p.0 t refl) (limit-removed raised s.arena p.0) (greatest-removed raised s.arena p.0),
            SoundOver-from kind (record s { arena = t })
                (subst (TableSound t) (append-nil s.table) (TableSound-given kind s sound (removal p) t continues))
                (λ q l datum holds. elim (found_before s.arena t p.0 None q (datum, Some l) changes holds) [ inl no_more ↦ absurd (cc) | inr before ↦ sound.table.has_links q l datum before ])
                (over_removed kind s.arena (over_of kind s sound) raised p.0 (p.1, node) (entry_found s.arena p node found)),
          ))

  pub agrees_invalidate : (s : SessionState X) (name : ℕ) → SoundOver kind s → Agrees kind s (Invalidate name) (answer kind generations text s (Invalidate name))
  agrees_invalidate s name sound =
      agrees_at kind s (Invalidate name) name (invalidate_under kind generations s) (λ r. give_row (with_row (shown s) name None) r) sound refl under
    where
      under : (p : Pointer) (node : X × Option Pointer) → item s.table name ≡ Some p → look_up s.arena.slots p ≡ Some node
          → store_answer (shown s) (Invalidate name) ≡ give_row (with_row (shown s) name None) (as_row s.table node)
          → Agrees kind s (Invalidate name) (invalidate_under kind generations s p node)
      under p node at found is =
          let rows : List (Option (NameRow X)) = map (row_of s.arena s.table) s.table in
          let size : length (with_item rows name None) ≡ length s.table = length-with_item rows name None ∙ length-map s.table (row_of s.arena s.table) in
          agrees kind s (Invalidate name) (Given (length s.table + 1) (wraps generations s.arena.counter)) (invalidate_under kind generations s p node).1
          (Given (length s.table + 1) false) (record (shown s) { rows = with_item rows name None ++ Some (as_row s.table node) ∷ [] })
          (is ∙ ap (λ n. (Given (n + 1) false, record (shown s) { rows = with_item rows name None ++ Some (as_row s.table node) ∷ [] })) size) refl
          (λ quiet. after quiet)
        where
          raised : ℕ → ℕ
          raised = raise generations

          c : ℕ
          c = raised s.arena.counter

          t : ArenaState (X × Option Pointer)
          t = invalidated raised s.arena p.0

          new : Pointer
          new = (p.0, c)

          after : wraps generations s.arena.counter ≡ false
              → (shown (invalidate_under kind generations s p node).1 ≡ record (shown s) { rows = with_item (map (row_of s.arena s.table) s.table) name None ++ Some (as_row s.table node) ∷ [] })
              × SoundOver kind (invalidate_under kind generations s p node).1
          after quiet =
              let one : c ≡ s.arena.counter + 1 = raised_by_one generations s.arena.counter counts quiet in
              let stands = entry_found s.arena p node found in
              let changes : ChangesAt s.arena.slots p.0 (Some (c, node)) t.slots = subst (λ o. ChangesAt s.arena.slots p.0 o t.slots) (ap (option_map (λ (e : ℕ × (X × Option Pointer)). (c, e.1))) stands) (slots-invalidated raised s.arena p.0 t refl) in
              let past : (q : Pointer) → has s.table q ≡ true → option_and_then (value_of_generation q.1) (Some (c, node)) ≡ None = λ q h. value_miss (Some (c, node)) q.1 c node refl (λ same. omega (arith, sound.table.by_now q h, one, same)) in
              let there : has s.table p ≡ true = has_from_item s.table name p at in
              let continues = Continues-invalidated generations s.arena t p (counts, quiet) (ap is_some found) refl in (
                Store-is _ _ _ _ _ _ _ _
                    (map-append (row_of t (s.table ++ new ∷ [])) s.table (new ∷ [])
                    ∙ ap (λ l. l ++ row_of t (s.table ++ new ∷ []) new ∷ [])
                    (rows_changed kind s t (s.table ++ new ∷ []) name p node (Some (c, node)) None sound (λ l h. name_of-append s.table (new ∷ []) l h) at found changes (λ q h other. past q h)
                    (ap (option_map (as_row (s.table ++ new ∷ []))) (ap (option_and_then (value_of_generation p.1)) changes.there ∙ past p there)))
                    ∙ ap (λ r. with_item (map (row_of s.arena s.table) s.table) name None ++ r ∷ []) (row_last s t new node (λ l h. sound.table.has_links p l node.0 (found ∙ ap (λ x. Some (node.0, x)) h)) (value_hit (entry t p.0) c node changes.there)))
                    refl refl refl,
                SoundOver-from kind (invalidate_under kind generations s p node).1
                    (TableSound-given kind s sound (invalidation p new) t continues)
                    (λ q l datum holds. has_longer s.table (new ∷ []) l (elim (found_before s.arena t p.0 (Some (c, node)) q (datum, Some l) changes holds) [
                      | inl here ↦ sound.table.has_links p l node.0 (found ∙ ap (λ x. Some (node.0, x)) (new_link c q.1 node datum l here))
                      | inr before ↦ sound.table.has_links q l datum before
                    ]))
                    (over_invalidated kind s.arena (over_of kind s sound) raised p.0),
              )

  pub agrees_clear : (s : SessionState X) → SoundOver kind s → Agrees kind s Clear (answer kind generations text s Clear)
  agrees_clear s sound =
      let t : ArenaState (X × Option Pointer) = cleared (raise generations) s.arena in
      let wrapped : Bool = cond (arena_len s.arena == 0) false (wraps generations s.arena.counter) in
      agrees kind s Clear (Cleared wrapped) (record s { arena = t }) (Cleared false) (record (shown s) { rows = map (λ r. None) (map (row_of s.arena s.table) s.table) }) refl refl (λ quiet.
      let continues = Continues-cleared generations s.arena t (counts, quiet) refl in (
        Store-is _ _ _ _ _ _ _ _ (map_none (row_of s.arena s.table) (row_of t s.table) s.table (λ q. ap (option_map (as_row s.table)) (gone q))) refl refl refl,
        SoundOver-from kind (record s { arena = t })
            (subst (TableSound t) (append-nil s.table) (TableSound-given kind s sound (clearing (keys s.arena.slots)) t continues))
            (λ q l datum holds. absurd (let none = gone q in cc))
            (over_cleared kind s.arena (over_of kind s sound) (raise generations)),
      ))
    where
      gone : (q : Pointer) → look_up (cleared (raise generations) s.arena).slots q ≡ None
      gone q = ap (option_and_then (value_of_generation q.1)) (slots-cleared (raise generations) s.arena (cleared (raise generations) s.arena) refl q.0)
