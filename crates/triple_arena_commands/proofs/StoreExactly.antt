-- A store of names gives each name once, and finds and refuses exactly what it has to.
use Rattle.std.proofs.Common.{◌≡◌, ◌↔◌, ℕ, ◌+◌, ◌==◌, Bool, true, false, length, map, Option, Some, None, IsTrue, if◌then◌else◌, refl, sym, ap, ◌∙◌, inl, inr, arith}
use Rattle.std.specs.List.{list_any}
use Rattle.std.specs.Option.{option_map, option_and_then}
use Rattle.std.proofs.lemmas.Bool.{eqb-true, eqb-false}
use Rattle.std.proofs.lemmas.Option.{same_Some}
use Rattle.std.proofs.lemmas.List.{length_push}
use Rattle.triple_arena_stack.specs.Capacity.{next_capacity}
use Rattle.triple_arena_traits.specs.Items.{item}
use Rattle.triple_arena_traits.specs.laws.ItemLaws.{item_within, item-with_other, item-push_other, length-with_item, item-map}
use Rattle.triple_arena_commands.specs.Limits.{is_at_limit}
use Rattle.triple_arena_commands.specs.declared.command.Command.{Command}
use Rattle.triple_arena_commands.specs.declared.command.Command.TheVariants.{Insert, InsertWithin, Get, Set, Remove, Invalidate, Clear, Compact, Len, Capacity, Reserve, Show}
use Rattle.triple_arena_commands.specs.declared.reply.Reply.{Reply}
use Rattle.triple_arena_commands.specs.declared.reply.Reply.TheVariants.{Given, Full, BeyondMaxCapacity, NoMemory, Found, Nothing, Done, Removed, Invalid, Cleared, Compacted, Unresolved, BadName, Count}
use Rattle.triple_arena_commands.specs.NameStore.{NameRow, Store, next_name, row_count, row, is_good_link, HasEnded, with_row, give_row, grown_store, store_refusal, insert_row_unless, get_row_reply, act_on_row, row_dangles, store_answer, IsStoreStep, MayReply}

-- a reply gives no name
abbrev Unnamed : {X : Type 0} → Reply X → Type 0
Unnamed r = (name : ℕ) (wrapped : Bool) → r ≡ Given name wrapped → ⊥

module _ {X : Type 0} (s : Store X) where
  -- a name that is given is the next one, and names that have ended stay so
  record Lasts (a : Reply X × Store X) : Type 0 where
    pub next : (name : ℕ) (wrapped : Bool) → a.0 ≡ Given name wrapped → (name ≡ next_name s) × (next_name a.1 ≡ next_name s + 1)
    pub ended : (name : ℕ) → HasEnded s name → HasEnded a.1 name

  unnamed : (r : Reply X) (t : Store X) → Unnamed r → ((name : ℕ) → HasEnded s name → HasEnded t name) → Lasts (r, t)
  unnamed r t none stay = record { next = λ name wrapped is. absurd (none name wrapped is); ended = stay }

  same : (r : Reply X) → Unnamed r → Lasts (r, s)
  same r none = unnamed r s none (λ name h. h)

  named : (u : Store X) (r : NameRow X) → length u.rows ≡ length s.rows → ((name : ℕ) → HasEnded s name → HasEnded u name) → Lasts (give_row u r)
  named u r size stay =
      record {
        next = λ name wrapped is.
            let first : length u.rows + 1 ≡ name = cc in
            (sym first ∙ ap (λ n. n + 1) size, ap (λ n. n + 1) (length_push u.rows (Some r) ∙ ap (λ n. n + 1) size));
        ended = λ name h.
            let was = item_within u.rows name None (stay name h) in
            item-push_other u.rows name (Some r) (λ past. omega (arith, was.1, past)) ∙ stay name h;
      }

  -- a name that has a row has not ended
  written : (name : ℕ) (r : NameRow X) (o : Option (NameRow X)) → row s name ≡ Some r → (n : ℕ) → HasEnded s n → HasEnded (with_row s name o) n
  written name r o at n h =
      item-with_other s.rows name n o (λ here.
      let none : row s name ≡ None = ap (option_and_then (λ x. x)) (ap (item s.rows) (sym here) ∙ h) in cc) ∙ h

  acted : (name : ℕ) (act : NameRow X → Reply X × Store X) → ((r : NameRow X) → row s name ≡ Some r → Lasts (act r)) → Lasts (act_on_row s (row s name) act)
  acted name act each = by (row s name) refl
    where
      by : (o : Option (NameRow X)) → row s name ≡ o → Lasts (act_on_row s o act)
      by None at = same Invalid (λ n w is. cc)
      by (Some r) at = each r at

  chosen : (b : Bool) (x y : Reply X × Store X) → Lasts x → Lasts y → Lasts (if b then x else y)
  chosen true x y first second = first
  chosen false x y first second = second

  inserted : (o : Option (Reply X)) (r : NameRow X) → store_refusal s ≡ o → Lasts (insert_row_unless o s r)
  inserted (Some refused) r is = same refused (why (row_count s == s.capacity) (is_at_limit s.limit s.capacity) (s.capacity == s.greatest) is)
    where
      why : (full at_limit out : Bool) → (if full then (if at_limit then Some BeyondMaxCapacity else if out then Some NoMemory else None) else None) ≡ Some refused → Unnamed refused
      why true true out is = λ n w e. cc
      why true false true is = λ n w e. cc
      why true false false is = λ n w e. cc
      why false at_limit out is = λ n w e. cc
  inserted None r is =
      let kept = grows (row_count s == s.capacity) in
      named (grown_store s) r (ap length kept) (λ n h. ap (λ rows. item rows n) kept ∙ h)
    where
      grows : (b : Bool) → (if b then record s { capacity = next_capacity s.capacity s.limit s.greatest } else s).rows ≡ s.rows
      grows true = refl
      grows false = refl

  lasts : (command : Command X) → Lasts (store_answer s command)
  lasts (Insert datum link) =
      chosen (is_good_link s link) (insert_row_unless (store_refusal s) s (datum, link)) (BadName, s) (inserted (store_refusal s) (datum, link) refl) (same BadName (λ n w is. cc))
  lasts (InsertWithin datum link) =
      chosen (is_good_link s link) (if row_count s == s.capacity then (Full, s) else give_row s (datum, link)) (BadName, s)
      (chosen (row_count s == s.capacity) (Full, s) (give_row s (datum, link)) (same Full (λ n w is. cc)) (named s (datum, link) refl (λ n h. h)))
      (same BadName (λ n w is. cc))
  lasts (Get name) = same (get_row_reply (row s name)) (by (row s name))
    where
      by : (o : Option (NameRow X)) → Unnamed (get_row_reply o)
      by None n w is = cc
      by (Some r) n w is = cc
  lasts (Set name datum link) =
      chosen (is_good_link s link) (act_on_row s (row s name) (λ r. (Done, with_row s name (Some (datum, link))))) (BadName, s)
      (acted name (λ r. (Done, with_row s name (Some (datum, link)))) (λ r at. unnamed Done (with_row s name (Some (datum, link))) (λ n w is. cc) (written name r (Some (datum, link)) at)))
      (same BadName (λ n w is. cc))
  lasts (Remove name) =
      acted name (λ r. (Removed r.0 r.1 false, with_row s name None)) (λ r at. unnamed (Removed r.0 r.1 false) (with_row s name None) (λ n w is. cc) (written name r None at))
  lasts (Invalidate name) =
      acted name (λ r. give_row (with_row s name None) r) (λ r at. named (with_row s name None) r (length-with_item s.rows name None) (written name r None at))
  lasts Clear =
      unnamed (Cleared false) (record s { rows = map (λ r. None) s.rows }) (λ n w is. cc) (λ n h. item-map (λ (r : Option (NameRow X)). None) s.rows n ∙ ap (option_map (λ (r : Option (NameRow X)). None)) h)
  lasts Compact = same (if list_any (row_dangles s) s.rows then Unresolved else Compacted false) (by (list_any (row_dangles s) s.rows))
    where
      by : (b : Bool) → Unnamed {X = X} (if b then Unresolved else Compacted false)
      by true n w is = cc
      by false n w is = cc
  lasts Len = same (Count (row_count s)) (λ n w is. cc)
  lasts Capacity = same (Count s.capacity) (λ n w is. cc)
  lasts (Reserve m) = same NoMemory (λ n w is. cc)
  lasts Show = same NoMemory (λ n w is. cc)

module _ {X : Type 0} where
  of_answer : (s t : Store X) (command : Command X) (name : ℕ) (wrapped : Bool) → (Given name wrapped, t) ≡ store_answer s command → (name ≡ next_name s) × (next_name t ≡ next_name s + 1)
  of_answer s t command name wrapped is =
      let next = (lasts s command).next name wrapped (sym (ap (λ (o : Reply X × Store X). o.0) is)) in
      (next.0, ap (λ (o : Reply X × Store X). next_name o.1) is ∙ next.1)

  -- a step gives the next name, and after it the next one is another
  pub NextIsGiven : (s t : Store X) (command : Command X) (name : ℕ) (wrapped : Bool) → IsStoreStep s command (Given name wrapped) t → (name ≡ next_name s) × (next_name t ≡ next_name s + 1)
  NextIsGiven s t (Reserve m) name wrapped step = absurd step
  NextIsGiven s t Show name wrapped step = absurd step.0
  NextIsGiven s t command name wrapped step = of_answer s t command name wrapped step

  still_ended : (s t : Store X) (command : Command X) (reply : Reply X) (name : ℕ) → (reply, t) ≡ store_answer s command → HasEnded s name → HasEnded t name
  still_ended s t command reply name is h = ap (λ (o : Reply X × Store X). item o.1.rows name) is ∙ (lasts s command).ended name h

  as_before : (s t : Store X) (name : ℕ) → t ≡ s → HasEnded s name → HasEnded t name
  as_before s t name is h = ap (λ (u : Store X). item u.rows name) is ∙ h

  -- a name that has ended has ended for good
  pub EndedStays : (s t : Store X) (command : Command X) (reply : Reply X) (name : ℕ) → IsStoreStep s command reply t → HasEnded s name → HasEnded t name
  EndedStays s t (Reserve m) Done name step h = ap (λ (u : Store X). item u.rows name) step.0 ∙ h
  EndedStays s t (Reserve m) BeyondMaxCapacity name step h = as_before s t name step.2 h
  EndedStays s t (Reserve m) NoMemory name step h = as_before s t name step.1 h
  EndedStays s t (Reserve m) reply name step h = absurd step
  EndedStays s t Show reply name step h = as_before s t name step.1 h
  EndedStays s t command NoMemory name (inl is) h = still_ended s t command NoMemory name is h
  EndedStays s t command NoMemory name (inr wants) h = as_before s t name wants.1 h
  EndedStays s t command reply name step h = still_ended s t command reply name step h

  -- an insertion within capacity is refused exactly when full
  pub FullExactly : (s t : Store X) (datum : X) (link : Option ℕ) → IsTrue (is_good_link s link) → IsStoreStep s (InsertWithin datum link) Full t ↔ ((row_count s ≡ s.capacity) × (t ≡ s))
  FullExactly s t datum link good =
      let is : store_answer s (InsertWithin datum link) ≡ (if row_count s == s.capacity then (Full, s) else give_row s (datum, link)) = ap (λ b. if b then (if row_count s == s.capacity then (Full, s) else give_row s (datum, link)) else (BadName, s)) good in
      let exact = by (row_count s == s.capacity) refl in
      (λ step. exact.0 (step ∙ is), λ h. exact.1 h ∙ sym is)
    where
      by : (b : Bool) → (row_count s == s.capacity) ≡ b → (◌≡◌ {A = Reply X × Store X} (Full, t) (if b then (Full, s) else give_row s (datum, link))) ↔ ((row_count s ≡ s.capacity) × (t ≡ s))
      by true e = ((λ h. (eqb-true (row_count s) s.capacity e, ap (λ (o : Reply X × Store X). o.1) h)), λ h. ap (λ u. (Full, u)) h.1)
      by false e =
          ((λ h. let no : ◌≡◌ {A = Reply X} Full (Given (next_name s) false) = ap (λ (o : Reply X × Store X). o.0) h in absurd (cc)), λ h. absurd (eqb-false (row_count s) s.capacity e h.0))

  -- a look-up finds what the row of the name has, and nothing exactly where there is no row
  pub FoundExactly : (s t : Store X) (name : ℕ) (datum : X) (link : Option ℕ) → IsStoreStep s (Get name) (Found datum link) t ↔ ((row s name ≡ Some (datum, link)) × (t ≡ s))
  FoundExactly s t name datum link = by (row s name)
    where
      by : (o : Option (NameRow X)) → (◌≡◌ {A = Reply X × Store X} (Found datum link, t) (get_row_reply o, s)) ↔ ((o ≡ Some (datum, link)) × (t ≡ s))
      by None = ((λ h. let no : ◌≡◌ {A = Reply X} (Found datum link) Nothing = ap (λ (o : Reply X × Store X). o.0) h in absurd (cc)), λ h. absurd (let no = h.0 in cc))
      by (Some r) = (
        (λ h.
            let found : ◌≡◌ {A = Reply X} (Found datum link) (Found r.0 r.1) = ap (λ (o : Reply X × Store X). o.0) h in
            let first : datum ≡ r.0 = cc in
            let second : link ≡ r.1 = cc in
            (ap (λ d. Some (d, r.1)) (sym first) ∙ ap (λ l. Some (datum, l)) (sym second), ap (λ (o : Reply X × Store X). o.1) h)),
        λ h. ap (λ (q : NameRow X). (Found q.0 q.1, t)) (sym (same_Some r (datum, link) h.0)) ∙ ap (λ u. (Found r.0 r.1, u)) h.1,
      )

  pub NothingExactly : (s t : Store X) (name : ℕ) → IsStoreStep s (Get name) Nothing t ↔ ((row s name ≡ None) × (t ≡ s))
  NothingExactly s t name = by (row s name)
    where
      by : (o : Option (NameRow X)) → (◌≡◌ {A = Reply X × Store X} (Nothing, t) (get_row_reply o, s)) ↔ ((o ≡ None) × (t ≡ s))
      by None = ((λ h. (refl, ap (λ (o : Reply X × Store X). o.1) h)), λ h. ap (λ u. (Nothing, u)) h.1)
      by (Some r) = ((λ h. let no : ◌≡◌ {A = Reply X} Nothing (Found r.0 r.1) = ap (λ (o : Reply X × Store X). o.0) h in absurd (cc)), λ h. absurd (let no = h.0 in cc))

  -- a compaction is unresolved exactly where some row's link names no row
  pub UnresolvedExactly : (s t : Store X) → IsStoreStep s Compact Unresolved t ↔ (IsTrue (list_any (row_dangles s) s.rows) × (t ≡ s))
  UnresolvedExactly s t = by (list_any (row_dangles s) s.rows)
    where
      by : (b : Bool) → (◌≡◌ {A = Reply X × Store X} (Unresolved, t) (if b then Unresolved else Compacted false, s)) ↔ (IsTrue b × (t ≡ s))
      by true = ((λ h. (refl, ap (λ (o : Reply X × Store X). o.1) h)), λ h. ap (λ u. (Unresolved, u)) h.1)
      by false = ((λ h. let no : ◌≡◌ {A = Reply X} Unresolved (Compacted false) = ap (λ (o : Reply X × Store X). o.0) h in absurd (cc)), λ h. absurd (let no = h.0 in cc))

  -- a step's reply is one that may come, and each that may come is a step's
  may_come : (s t : Store X) (command : Command X) (reply : Reply X) → IsStoreStep s command reply t → MayReply s command reply
  may_come s t (Reserve m) reply step = (t, step)
  may_come s t Show reply step = step.0
  may_come s t command NoMemory (inl is) = inl (ap (λ (o : Reply X × Store X). o.0) is)
  may_come s t command NoMemory (inr wants) = inr (refl, wants.0)
  may_come s t command reply is = inl (ap (λ (o : Reply X × Store X). o.0) is)

  comes : (s : Store X) (command : Command X) (reply : Reply X) → MayReply s command reply → (t : Store X) × IsStoreStep s command reply t
  comes s (Reserve m) reply may = may
  comes s Show reply may = (s, (may, refl))
  comes s command NoMemory (inl is) = ((store_answer s command).1, inl (ap (λ r. (r, (store_answer s command).1)) is))
  comes s command NoMemory (inr wants) = (s, inr (wants.1, refl))
  comes s command reply (inl is) = ((store_answer s command).1, ap (λ r. (r, (store_answer s command).1)) is)
  comes s command reply (inr wants) = absurd (let no = wants.0 in cc)

  pub RepliesExactly : (s : Store X) (command : Command X) (reply : Reply X) → ((t : Store X) × IsStoreStep s command reply t) ↔ MayReply s command reply
  RepliesExactly s command reply = (λ step. may_come s step.0 command reply step.1, comes s command reply)
