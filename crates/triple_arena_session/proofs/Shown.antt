-- Sessions whose fields hold a state, and what the arena's and the table's answers make of it.
use Rattle.std.proofs.Common.{◌≡◌, ℕ, ◌+◌, ◌==◌, ◌<◌, ◌≤◌, Bool, true, false, List, [], ◌∷◌, ◌++◌, map, length, Option, Some, None, is_some, refl, sym, ap, subst, ◌∙◌, inl, inr, ◌⊎◌, true≢false, arith}
use Rattle.std.specs.Prelude.{nat_le, Result, Err, IsOk, ◌↔◌}
use Rattle.triple_arena_base.specs.declared.errors.ReallocationError.{ReallocationError}
use Rattle.triple_arena_base.specs.declared.errors.ReallocationError.TheVariants as refused
use Rattle.std.proofs.lemmas.Bool.{cases_eq}
use Rattle.std.proofs.lemmas.Bool.Decides.{nat_tests}
use Rattle.std.specs.Option.{option_map, option_and_then}
use Rattle.std.proofs.lemmas.List.{map-append, length-map}
use Rattle.triple_arena_base.specs.declared.invalidation.InvalidationResult.{InvalidationResult}
use Rattle.triple_arena_base.specs.declared.invalidation.InvalidationResult.TheVariants.{Success, GenerationOverflow, InvalidPtr}
use Rattle.triple_arena_base.specs.Invalidation.{overflowing}
use Rattle.triple_arena_ptr.specs.Numbers.{Generations, raise, wraps}
use Rattle.triple_arena_ptr.specs.Pointers.{Pointer}
use Rattle.triple_arena_stack.specs.StackKind.{StackKind}
use Rattle.triple_arena_stack.specs.Capacity.{IsWithin, IsBeyond, room_for_one_more, CanGrow}
use Rattle.triple_arena_traits.specs.Items.{item}
use Rattle.triple_arena_traits.specs.Entries.{look_up}
use Rattle.triple_arena_traits.specs.ArenaState.{ArenaState, arena_len, capacity, with_value, map_values}
use Rattle.triple_arena_traits.specs.Insertion.{inserted, next_pointer}
use Rattle.triple_arena_traits.specs.FreeList.{tidied}
use Rattle.triple_arena_traits.specs.Reallocation.{grown, reallocated, KeepsRoom}
use Rattle.triple_arena_traits.specs.Ending.{told_of, map_told, removed, invalidated}
use Rattle.triple_arena_commands.specs.declared.command.Command.TheVariants.{Insert, Reserve}
use Rattle.triple_arena_commands.specs.declared.reply.Reply.{Reply}
use Rattle.triple_arena_commands.specs.declared.reply.Reply.TheVariants.{Given, Full, BeyondMaxCapacity, NoMemory, Done, Removed, Invalid}
use Rattle.triple_arena_commands.specs.Limits.{is_at_limit, is_within}
use Rattle.triple_arena_session.specs.declared.node.Node.{Node}
use Rattle.triple_arena_session.specs.SessionState.{SessionState, node_of, link_name, link_pointer, named}
use Rattle.triple_arena_session.specs.SessionLayout.{session_of}
use Rattle.triple_arena_session.specs.SessionRun.{refused_reply, insert_unless, insert_answer, with_room_for_name, give, act_on, act_under, refusal, with_tidied_arena, remove_under, invalidate_under, insert_within_answer, reserve_answer, TableWantsMemory, ArenaWantsMemory, RoomWantsMemory, IsStep}
use Rattle.triple_arena_session.proofs.Mapped.{len-mapped, look_up-mapped, next_pointer-mapped, inserted-mapped, grown-mapped, with_value-mapped, removed-mapped, invalidated-mapped, tidied-mapped, reallocated-mapped}

none_some : {A : Type 0} {x : A} → None ≡ Some x → ⊥
none_some e = cc

some_same : {A : Type 0} {x y : A} → Some x ≡ Some y → x ≡ y
some_same e = cc

-- what an answer tells of the value, and of the wrap
module _ {A : Type 0} where
  pub told_some : (b : Bool) (o : Option A) (r : InvalidationResult A) (got : Option A × Bool) (x : A) → r ≡ told_of b o → got ≡ overflowing r → got.0 ≡ Some x → (o ≡ Some x) × (got.1 ≡ b)
  told_some b o r got x is over some = by_value b o (over ∙ ap overflowing is)
    where
      by_value : (b : Bool) (o : Option A) → got ≡ overflowing (told_of b o) → (o ≡ Some x) × (got.1 ≡ b)
      by_value b None e = absurd (none_some (sym (ap (λ (z : Option A × Bool). z.0) e) ∙ some))
      by_value true (Some y) e = (sym (ap (λ (z : Option A × Bool). z.0) e) ∙ some, ap (λ (z : Option A × Bool). z.1) e)
      by_value false (Some y) e = (sym (ap (λ (z : Option A × Bool). z.0) e) ∙ some, ap (λ (z : Option A × Bool). z.1) e)

  pub told_none : (b : Bool) (o : Option A) (r : InvalidationResult A) (got : Option A × Bool) → r ≡ told_of b o → got ≡ overflowing r → got.0 ≡ None → o ≡ None
  told_none b o r got is over none = by_value b o (over ∙ ap overflowing is)
    where
      by_value : (b : Bool) (o : Option A) → got ≡ overflowing (told_of b o) → o ≡ None
      by_value b None e = refl
      by_value true (Some y) e = absurd (none_some (sym none ∙ ap (λ (z : Option A × Bool). z.0) e))
      by_value false (Some y) e = absurd (none_some (sym none ∙ ap (λ (z : Option A × Bool). z.0) e))

-- the same of an answer with another value, which is this one wherever there is one
pub told_renewed : {A B C : Type 0} (f : B → C) (q : C) (b : Bool) (o : Option A) (r : InvalidationResult B) (got : Option B × Bool) (x : B) → map_told f r ≡ told_of b (option_map (λ y. q) o) → got ≡ overflowing r → got.0 ≡ Some x → (y : A) × (o ≡ Some y) × (f x ≡ q) × (got.1 ≡ b)
told_renewed {A} {B} {C} f q b o r got x is over some =
    let moved : (option_map f got.0, got.1) ≡ overflowing (map_told f r) = ap (λ (z : Option B × Bool). (option_map f z.0, z.1)) over ∙ sym (mapped r) in
    let told = told_some b (option_map (λ y. q) o) (map_told f r) (option_map f got.0, got.1) (f x) is moved (ap (option_map f) some) in
    by_value o told.0 told.1
  where
    mapped : (r : InvalidationResult B) → ◌≡◌ {A = Option C × Bool} (overflowing (map_told f r)) (option_map f (overflowing r).0, (overflowing r).1)
    mapped (Success y) = refl
    mapped (GenerationOverflow y) = refl
    mapped InvalidPtr = refl

    by_value : (o : Option A) → option_map (λ y. q) o ≡ Some (f x) → got.1 ≡ b → (y : A) × (o ≡ Some y) × (f x ≡ q) × (got.1 ≡ b)
    by_value None e wrapped = absurd (none_some e)
    by_value (Some y) e wrapped = (y, refl, some_same (sym e), wrapped)

-- an answer with a value has one wherever there is one
pub renewed_some : {A B C : Type 0} (f : B → C) (q : C) (b : Bool) (o : Option A) (r : InvalidationResult B) (got : Option B × Bool) → is_some o ≡ true → map_told f r ≡ told_of b (option_map (λ y. q) o) → got ≡ overflowing r → got.0 ≡ None → ⊥
renewed_some {A} {B} {C} f q b o r got some is over none = by_value b o some (sym (by_answer r (sym (ap (λ (z : Option B × Bool). z.0) over) ∙ none)) ∙ ap (λ (z : InvalidationResult C). (overflowing z).0) is)
  where
    by_answer : (r : InvalidationResult B) → (overflowing r).0 ≡ None → (overflowing (map_told f r)).0 ≡ None
    by_answer (Success y) e = absurd (none_some (sym e))
    by_answer (GenerationOverflow y) e = absurd (none_some (sym e))
    by_answer InvalidPtr e = refl

    by_value : (b : Bool) (o : Option A) → is_some o ≡ true → None ≡ (overflowing (told_of b (option_map (λ y. q) o))).0 → ⊥
    by_value b None some e = true≢false (sym some)
    by_value true (Some y) some e = none_some e
    by_value false (Some y) some e = none_some e

pub mapped_some : {A B : Type 0} (f : A → B) (o : Option A) → is_some o ≡ true → is_some (option_map f o) ≡ true
mapped_some f None e = e
mapped_some f (Some x) e = refl

-- what a reallocation tells by its answer
pub is_beyond : {r : Result (Unit {0}) ReallocationError} {why : ReallocationError} → r ≡ Err why → why ≡ refused.BeyondMaxCapacity → r ≡ Err refused.BeyondMaxCapacity
is_beyond is why = is ∙ ap Err why

pub no_beyond : {r : Result (Unit {0}) ReallocationError} {why : ReallocationError} → r ≡ Err why → why ≡ refused.AllocError → r ≡ Err refused.BeyondMaxCapacity → ⊥
no_beyond is why beyond = cc

pub no_success : {E : Type 0} {r : Result (Unit {0}) E} {why : E} → r ≡ Err why → IsOk r → ⊥
no_success is ok = true≢false (sym (subst IsOk is ok))

pub answers : {X : Type 0} {r q : Reply X} {t u : SessionState X} → r ≡ q → t ≡ u → ◌≡◌ {A = Reply X × SessionState X} (r, t) (q, u)
answers e f = rw (e, f) refl

with_state : {X : Type 0} {t u : SessionState X} (r : Reply X) → t ≡ u → ◌≡◌ {A = Reply X × SessionState X} (r, t) (r, u)
with_state r e = rw e refl

same_test : (m n : ℕ) → m ≡ n → (m == n) ≡ true
same_test m n e = grind (arith, nat_tests, e)

other_test : (m n : ℕ) → (m ≡ n → ⊥) → (m == n) ≡ false
other_test m n other = by_test (m == n) refl
  where
    by_test : (b : Bool) → (m == n) ≡ b → b ≡ false
    by_test true same = absurd (other (grind (arith, nat_tests, same)))
    by_test false same = refl

le_true : (m n : ℕ) → m ≤ n → nat_le m n ≡ true
le_true m n le = grind (arith, nat_tests, le)

true_le : (m n : ℕ) → nat_le m n ≡ true → m ≤ n
true_le m n le = grind (arith, nat_tests, le)

is_within_true : (limit : Option ℕ) (m : ℕ) → IsWithin limit m → is_within limit m ≡ true
is_within_true None m within = refl
is_within_true (Some most) m within = le_true m most within

is_within_false : (limit : Option ℕ) (m : ℕ) → IsBeyond limit m → is_within limit m ≡ false
is_within_false None m beyond = absurd beyond
is_within_false (Some most) m beyond = grind (arith, nat_tests, beyond)

within_or_beyond : (limit : Option ℕ) (m : ℕ) → IsWithin limit m ⊎ IsBeyond limit m
within_or_beyond None m = inl tt
within_or_beyond (Some most) m = by_test (nat_le m most) refl
  where
    by_test : (b : Bool) → nat_le m most ≡ b → (m ≤ most) ⊎ (most < m)
    by_test true le = inl (true_le m most le)
    by_test false past = inr (grind (arith, nat_tests, past))

-- an insertion where the arena has a place
pub placed : {X : Type 0} (s : SessionState X) (datum : X) (link : Option Pointer) → (arena_len s.arena == capacity s.arena) ≡ false → insert_within_answer s datum (Some link) ≡ give s (next_pointer s.arena) false (inserted s.arena (datum, link))
placed s datum link place = rw place refl

-- and where it has none
pub not_placed : {X : Type 0} (s : SessionState X) (datum : X) (link : Option Pointer) → (arena_len s.arena == capacity s.arena) ≡ true → insert_within_answer s datum (Some link) ≡ (Full, s)
not_placed s datum link full = rw full refl

pub below : (m n : ℕ) → m ≤ n → (m == n) ≡ false → m < n
below m n le other = grind (arith, nat_tests, le, other)

-- an insertion that nothing but memory could help, or not even that
pub refused_insert : {X : Type 0} (kind : StackKind) (has_memory : ℕ → Type 0) (generations : Generations) (s : SessionState X) (datum : X) (link : Option ℕ) (target : Option Pointer) (why : ReallocationError) (reply : Reply X) → link_pointer s.table link ≡ Some target → refusal s.arena ≡ Some why → reply ≡ refused_reply why
    → IsStep kind has_memory generations s (Insert datum link) reply s
refused_insert {X} kind has_memory generations s datum link target why reply good full is =
    subst (λ r. IsStep kind has_memory generations s (Insert datum link) r s) (sym is) (by why (ap (insert_answer kind generations s datum) good ∙ ap (λ w. insert_unless kind generations w s datum target) full))
  where
    by : (w : ReallocationError) → insert_answer kind generations s datum (link_pointer s.table link) ≡ (refused_reply {X = X} w, s) → IsStep kind has_memory generations s (Insert datum link) (refused_reply w) s
    by refused.BeyondMaxCapacity answered = sym answered
    by refused.AllocError answered = inl (sym answered)

-- what the session answers to a reservation
module _ {X : Type 0} (kind : StackKind) (generations : Generations) (s : SessionState X) (m : ℕ) where
  chosen_done : nat_le m s.arena.greatest ≡ true → is_within s.arena.limit m ≡ true → reserve_answer kind generations s m ≡ (Done, record s { arena = reallocated kind s.arena m })
  chosen_done le within = rw (le, within) refl

  chosen_beyond : nat_le m s.arena.greatest ≡ true → is_within s.arena.limit m ≡ false → reserve_answer kind generations s m ≡ (BeyondMaxCapacity, with_tidied_arena s)
  chosen_beyond le beyond = rw (le, beyond) refl

  chosen_past : nat_le m s.arena.greatest ≡ false → reserve_answer kind generations s m ≡ (NoMemory, with_tidied_arena s)
  chosen_past past = rw past refl

-- why an arena of so many entries, and of this capacity, can take no more
pub has_place : {T : Type 0} (a : ArenaState T) → arena_len a < capacity a → None ≡ refusal a
has_place a place = rw test refl
  where
    test : (arena_len a == capacity a) ≡ false
    test = grind (arith, nat_tests, place)

module _ {T : Type 0} (a : ArenaState T) (fits : arena_len a ≤ capacity a) (full : capacity a ≤ arena_len a) where
  full_test : (arena_len a == capacity a) ≡ true
  full_test = same_test (arena_len a) (capacity a) (omega arith)

  pub at_limit : is_at_limit a.limit (capacity a) ≡ true → Some refused.BeyondMaxCapacity ≡ refusal a
  at_limit reached = rw (full_test, reached) refl

  pub at_greatest : is_at_limit a.limit (capacity a) ≡ false → capacity a ≡ a.greatest → Some refused.AllocError ≡ refusal a
  at_greatest below last = rw (full_test, below, same_test (capacity a) a.greatest last) refl

  pub may_grow : is_at_limit a.limit (capacity a) ≡ false → (capacity a ≡ a.greatest → ⊥) → None ≡ refusal a
  may_grow below more = rw (full_test, below, other_test (capacity a) a.greatest more) refl

pub reaches_limit : (limit : Option ℕ) (most m : ℕ) → limit ≡ Some most → most ≤ m → is_at_limit limit m ≡ true
reaches_limit limit most m is le = rw is (le_true most m le)

pub past_limit : (limit : Option ℕ) (most m : ℕ) → limit ≡ Some most → m < most → is_at_limit limit m ≡ false
past_limit limit most m is past = rw is (grind (arith, nat_tests, past))

abbrev with_arena : {X : Type 0} → SessionState X → ArenaState (X × Option Pointer) → SessionState X
with_arena t a = record t { arena = a }

full_from : (m n : ℕ) → m ≤ n → (m < n → false ≡ true) → m ≡ n
full_from m n le below =
    elim (cases_eq m n) [
      | inl e ↦ e
      | inr other ↦ absurd (true≢false (sym (below (omega arith))))
    ]

-- a session whose fields hold s
module _ {X P : Type 0} (pointer : P → Pointer) (arena : ArenaState (Node X P)) (table : List P) (room : ℕ) (s : SessionState X) (shows : session_of pointer arena table room ≡ s) where
  pub arena-shown : map_values (node_of pointer) arena ≡ s.arena
  arena-shown = ap (λ t. t.arena) shows

  pub refusal-shown : refusal arena ≡ refusal s.arena
  refusal-shown = rw (← shows, len-mapped (node_of pointer) arena) refl

  pub len-shown : arena_len arena ≡ arena_len s.arena
  len-shown = rw (← shows, len-mapped (node_of pointer) arena) refl

  pub capacity-shown : capacity arena ≡ capacity s.arena
  capacity-shown = rw (← shows) refl

  pub look_up-shown : (p : Pointer) → look_up s.arena.slots p ≡ option_map (node_of pointer) (look_up arena.slots p)
  look_up-shown p = ap (λ a. look_up a.slots p) (sym arena-shown) ∙ look_up-mapped (node_of pointer) arena p

  pub fits-shown : arena_len arena ≤ capacity arena → arena_len s.arena ≤ capacity s.arena
  fits-shown fits = rw (← len-shown, ← capacity-shown) fits

  pub greatest-shown : arena.greatest ≡ s.arena.greatest
  greatest-shown = ap (λ t. t.arena.greatest) shows

  -- what is found under a name
  pub named_found : (name : ℕ) (p : Pointer) (o : Option (Node X P)) → item s.table name ≡ Some p → o ≡ look_up arena.slots p → option_and_then (look_up s.arena.slots) (item s.table name) ≡ option_map (node_of pointer) o
  named_found name p o has found = ap (option_and_then (look_up s.arena.slots)) has ∙ look_up-shown p ∙ ap (option_map (node_of pointer)) (sym found)

  pub next-shown : next_pointer arena ≡ next_pointer s.arena
  next-shown = sym (next_pointer-mapped (node_of pointer) arena) ∙ ap next_pointer arena-shown

  pub inserted-shown : (node : Node X P) → map_values (node_of pointer) (inserted arena node) ≡ inserted s.arena (node_of pointer node)
  inserted-shown node = inserted-mapped (node_of pointer) arena node ∙ ap (λ a. inserted a (node_of pointer node)) arena-shown

  pub inserted_grown-shown : (kind : StackKind) (node : Node X P) → map_values (node_of pointer) (inserted (grown kind arena) node) ≡ inserted (grown kind s.arena) (node_of pointer node)
  inserted_grown-shown kind node = inserted-mapped (node_of pointer) (grown kind arena) node ∙ ap (λ a. inserted a (node_of pointer node)) (grown-mapped (node_of pointer) kind arena ∙ ap (grown kind) arena-shown)

  pub length-shown : length table ≡ length s.table
  length-shown = sym (length-map table pointer) ∙ ap (λ t. length t.table) shows

  -- a pointer at the end of the table, over another arena, gives a name
  pub given : (p : P) (q : Pointer) (wrapped : Bool) (changed : ArenaState (X × Option Pointer)) (name : ℕ) (new_arena : ArenaState (Node X P)) (new_table : List P) (new_room : ℕ) → pointer p ≡ q → map_values (node_of pointer) new_arena ≡ changed → name ≡ length table + 1 → new_table ≡ table ++ p ∷ [] → new_room ≡ room_for_one_more room None (length table) → ◌≡◌ {A = Reply X × SessionState X} (Given name wrapped, session_of pointer new_arena new_table new_room) (give s q wrapped changed)
  given p q wrapped changed name new_arena new_table new_room at_q arena_is name_is table_is room_is =
      rw (arena_is, name_is, table_is, room_is, map-append pointer table (p ∷ []), at_q, ← length-map table pointer) (ap (λ t. give t q wrapped changed) shows)

  -- an arena that refused for want of memory was full and could not grow, and the table had grown
  pub arena_wants : (has_memory : ℕ → Type 0) (last : ℕ) → s.arena.greatest ≡ last → (CanGrow has_memory (capacity arena) arena.limit last → false ≡ true) → arena_len s.arena ≤ capacity s.arena → (arena_len arena < capacity arena → false ≡ true) → (new_arena : ArenaState (Node X P)) (new_table : List P) (new_room : ℕ) → new_arena ≡ arena → new_table ≡ table → new_room ≡ room_for_one_more room None (length table) → ArenaWantsMemory has_memory s (session_of pointer new_arena new_table new_room)
  arena_wants has_memory last at_last given fits below new_arena new_table new_room arena_is table_is room_is = (
    full_from (arena_len s.arena) (capacity s.arena) fits (λ lt. below (rw (len-shown, capacity-shown) lt)),
    (λ can. true≢false (sym (given (subst (λ n. CanGrow has_memory (capacity arena) arena.limit n) (rw (← shows) at at_last) (subst (λ t. CanGrow has_memory (capacity t.arena) t.arena.limit t.arena.greatest) (sym shows) can))))),
    rw (arena_is, table_is, room_is, ← length-map table pointer) (ap with_room_for_name shows),
  )

  -- another arena, made by a step that goes with the map of its values
  pub arena_changed : (step : ArenaState (X × Option Pointer) → ArenaState (X × Option Pointer)) (new_arena : ArenaState (Node X P)) → map_values (node_of pointer) new_arena ≡ step (map_values (node_of pointer) arena) → session_of pointer new_arena table room ≡ record s { arena = step s.arena }
  arena_changed step new_arena is = ap (with_arena (session_of pointer arena table room)) is ∙ ap (λ (t : SessionState X). with_arena t (step t.arena)) shows

  -- what is done under a name that is live, and under one that has ended
  pub acts : (act : Pointer → X × Option Pointer → Reply X × SessionState X) (name : ℕ) (p : Pointer) (node : Node X P) → item s.table name ≡ Some p → look_up arena.slots p ≡ Some node → act_on s act (item s.table name) ≡ act p (node_of pointer node)
  acts act name p node has live = ap (act_on s act) has ∙ ap (act_under s act p) (look_up-shown p ∙ ap (option_map (node_of pointer)) live)

  pub acts_not : (act : Pointer → X × Option Pointer → Reply X × SessionState X) (name : ℕ) (p : Pointer) → item s.table name ≡ Some p → look_up arena.slots p ≡ None → act_on s act (item s.table name) ≡ (Invalid, s)
  acts_not act name p has ended = ap (act_on s act) has ∙ ap (act_under s act p) (look_up-shown p ∙ ap (option_map (node_of pointer)) ended)

  -- a removal that took nothing
  pub not_removed : (act : Pointer → X × Option Pointer → Reply X × SessionState X) (name : ℕ) (p : Pointer) (new_arena : ArenaState (Node X P)) → item s.table name ≡ Some p → look_up arena.slots p ≡ None → new_arena ≡ arena → ◌≡◌ {A = Reply X × SessionState X} (Invalid, session_of pointer new_arena table room) (act_on s act (item s.table name))
  not_removed act name p new_arena has ended same = with_state Invalid (arena_changed (λ a. a) new_arena (ap (map_values (node_of pointer)) same)) ∙ sym (acts_not act name p has ended)

  -- what stands under a name that was given
  pub named-shown : (name : ℕ) (p : Pointer) (o : Option (Node X P)) → item s.table name ≡ Some p → look_up arena.slots p ≡ o → named s name ≡ option_map (node_of pointer) o
  named-shown name p o has there = ap (option_and_then (look_up s.arena.slots)) has ∙ look_up-shown p ∙ ap (option_map (node_of pointer)) there

  -- a table that refused for want of memory was full
  pub table_wants : (new_table : List P) (new_room : ℕ) → length table ≡ room → new_table ≡ table → new_room ≡ room → TableWantsMemory s (session_of pointer arena new_table new_room)
  table_wants new_table new_room full table_is room_is = (sym length-shown ∙ full ∙ ap (λ t. t.table_room) shows, rw (table_is, room_is) shows)

  -- another value under a pointer
  pub value_set : (i : ℕ) (node : Node X P) (new_arena : ArenaState (Node X P)) (new_table : List P) (new_room : ℕ) → new_arena ≡ with_value arena i node → new_table ≡ table → new_room ≡ room → ◌≡◌ {A = Reply X × SessionState X} (Done, session_of pointer new_arena new_table new_room) (Done, record s { arena = with_value s.arena i (node_of pointer node) })
  value_set i node new_arena new_table new_room arena_is table_is room_is =
      rw (table_is, room_is) (with_state Done (arena_changed (λ a. with_value a i (node_of pointer node)) new_arena (ap (map_values (node_of pointer)) arena_is ∙ with_value-mapped (node_of pointer) arena i node)))

  module _ (kind : StackKind) (generations : Generations) where
    counter-shown : arena.counter ≡ s.arena.counter
    counter-shown = ap (λ t. t.arena.counter) shows

    -- the removal of what stands under a pointer
    pub entry_removed : (p : Pointer) (node : Node X P) (name : Option ℕ) (wrapped : Bool) (new_arena : ArenaState (Node X P)) → name ≡ link_name (map pointer table) (option_map pointer node.link) → wrapped ≡ wraps generations arena.counter → new_arena ≡ removed (raise generations) arena p.0 → ◌≡◌ {A = Reply X × SessionState X} (Removed node.datum name wrapped, session_of pointer new_arena table room) (remove_under kind generations s p (node_of pointer node))
    entry_removed p node name wrapped new_arena name_is wrapped_is arena_is =
        let name_shown : name ≡ link_name s.table (option_map pointer node.link) = name_is ∙ ap (λ (t : SessionState X). link_name t.table (option_map pointer node.link)) shows in
        let wrapped_shown : wrapped ≡ wraps generations s.arena.counter = wrapped_is ∙ ap (wraps generations) counter-shown in
        let reply : Removed node.datum name wrapped ≡ Removed node.datum (link_name s.table (option_map pointer node.link)) (wraps generations s.arena.counter) = rw (name_shown, wrapped_shown) refl in
        let state : session_of pointer new_arena table room ≡ record s { arena = removed (raise generations) s.arena p.0 } = arena_changed (λ a. removed (raise generations) a p.0) new_arena (ap (map_values (node_of pointer)) arena_is ∙ removed-mapped (node_of pointer) (raise generations) arena p.0) in
        answers reply state

    -- an entry's new pointer gets a name
    pub entry_renewed : (p : Pointer) (q : P) (wrapped : Bool) (name : ℕ) (new_arena : ArenaState (Node X P)) (new_table : List P) (new_room : ℕ) (node : X × Option Pointer) → pointer q ≡ (p.0, raise generations arena.counter) → wrapped ≡ wraps generations arena.counter → new_arena ≡ invalidated (raise generations) arena p.0 → name ≡ length table + 1 → new_table ≡ table ++ q ∷ [] → new_room ≡ room_for_one_more room None (length table) → ◌≡◌ {A = Reply X × SessionState X} (Given name wrapped, session_of pointer new_arena new_table new_room) (invalidate_under kind generations s p node)
    entry_renewed p q wrapped name new_arena new_table new_room node at wrapped_is arena_is name_is table_is room_is =
        given q (p.0, raise generations s.arena.counter) wrapped (invalidated (raise generations) s.arena p.0) name new_arena new_table new_room
        (at ∙ ap (λ n. (p.0, raise generations n)) counter-shown)
        (ap (map_values (node_of pointer)) arena_is ∙ invalidated-mapped (node_of pointer) (raise generations) arena p.0 ∙ ap (λ a. invalidated (raise generations) a p.0) arena-shown)
        name_is table_is room_is
        ∙ ap (λ b. give s (p.0, raise generations s.arena.counter) b (invalidated (raise generations) s.arena p.0)) (wrapped_is ∙ ap (wraps generations) counter-shown)

    -- what a reallocation answers, and leaves
    module _ (has_memory : ℕ → Type 0) (m : ℕ) (reply : Reply X) (new_arena : ArenaState (Node X P)) where
      abbrev Reserved : Type 0
      Reserved = IsStep kind has_memory generations s (Reserve m) reply (session_of pointer new_arena table room)

      as_answer : (r : Reply X) → reply ≡ r → IsStep kind has_memory generations s (Reserve m) r (session_of pointer new_arena table room) → Reserved
      as_answer r is step = subst (λ q. IsStep kind has_memory generations s (Reserve m) q (session_of pointer new_arena table room)) (sym is) step

      limit-shown : arena.limit ≡ s.arena.limit
      limit-shown = ap (λ t. t.arena.limit) shows

      in_range : m ≤ arena.greatest → nat_le m s.arena.greatest ≡ true
      in_range le = le_true m s.arena.greatest (subst (λ n. m ≤ n) greatest-shown le)

      ordered : new_arena ≡ tidied arena → session_of pointer new_arena table room ≡ with_tidied_arena s
      ordered is = arena_changed tidied new_arena (ap (map_values (node_of pointer)) is ∙ tidied-mapped (node_of pointer) arena)

      pub reserved_done : reply ≡ Done → m ≤ arena.greatest → IsWithin arena.limit m → new_arena ≡ reallocated kind arena m → Reserved
      reserved_done is le within arena_is =
          let state = arena_changed (λ a. reallocated kind a m) new_arena (ap (map_values (node_of pointer)) arena_is ∙ reallocated-mapped (node_of pointer) kind arena m) in
          as_answer Done is (with_state Done state ∙ sym (chosen_done kind generations s m (in_range le) (is_within_true s.arena.limit m (subst (λ l. IsWithin l m) limit-shown within))))

      pub reserved_beyond : reply ≡ BeyondMaxCapacity → m ≤ arena.greatest → IsBeyond arena.limit m → new_arena ≡ tidied arena → Reserved
      reserved_beyond is le beyond arena_is =
          as_answer BeyondMaxCapacity is (with_state BeyondMaxCapacity (ordered arena_is) ∙ sym (chosen_beyond kind generations s m (in_range le) (is_within_false s.arena.limit m (subst (λ l. IsBeyond l m) limit-shown beyond))))

      pub reserved_not : reply ≡ NoMemory → (m ≤ arena.greatest → IsBeyond arena.limit m → ⊥) → (m ≤ arena.greatest → IsWithin arena.limit m → KeepsRoom kind arena m → ⊥) → (m ≤ arena.greatest → IsWithin arena.limit m → has_memory (reallocated kind arena m).room → ⊥) → new_arena ≡ tidied arena → Reserved
      reserved_not is beyond keeps gets arena_is = as_answer NoMemory is (by_range (nat_le m s.arena.greatest) refl)
        where
          room-shown : (reallocated kind arena m).room ≡ (reallocated kind s.arena m).room
          room-shown = ap (λ t. t.room) (reallocated-mapped (node_of pointer) kind arena m ∙ ap (λ a. reallocated kind a m) arena-shown)

          by_limit : m ≤ arena.greatest → IsWithin arena.limit m ⊎ IsBeyond arena.limit m → RoomWantsMemory kind has_memory s.arena m
          by_limit le (inl within) = (
            subst (λ n. m ≤ n) greatest-shown le,
            subst (λ l. IsWithin l m) limit-shown within,
            λ same. keeps le within (room-shown ∙ same ∙ ap (λ t. t.arena.room) (sym shows)),
            λ there. gets le within (subst has_memory (sym room-shown) there),
          )
          by_limit le (inr past) = absurd (beyond le past)

          by_range : (b : Bool) → nat_le m s.arena.greatest ≡ b → IsStep kind has_memory generations s (Reserve m) NoMemory (session_of pointer new_arena table room)
          by_range false past = inl (with_state NoMemory (ordered arena_is) ∙ sym (chosen_past kind generations s m past))
          by_range true le = inr (by_limit (subst (λ n. m ≤ n) (sym greatest-shown) (true_le m s.arena.greatest le)) (within_or_beyond arena.limit m), ordered arena_is)

      pub reserved_refused : (r : Result (Unit {0}) ReallocationError) (why : ReallocationError) → r ≡ Err why → reply ≡ refused_reply why → (r ≡ Err refused.BeyondMaxCapacity) ↔ ((m ≤ arena.greatest) × IsBeyond arena.limit m)
          → (m ≤ arena.greatest → IsWithin arena.limit m → KeepsRoom kind arena m → IsOk r) → (m ≤ arena.greatest → IsWithin arena.limit m → has_memory (reallocated kind arena m).room → IsOk r) → new_arena ≡ tidied arena → Reserved
      reserved_refused r refused.BeyondMaxCapacity fails is beyond keeps gets arena_is =
          let past = beyond.0 fails in
          reserved_beyond is past.0 past.1 arena_is
      reserved_refused r refused.AllocError fails is beyond keeps gets arena_is =
          reserved_not is (λ le past. no_beyond fails refl (beyond.1 (le, past))) (λ le within same. no_success fails (keeps le within same)) (λ le within there. no_success fails (gets le within there)) arena_is
