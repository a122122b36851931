-- What two values of an arena are that a closure exchanged in part.
use Rattle.std.proofs.Common.{◌≡◌, ◌≢◌, Some, Result, Ok, Err, IfOk, OnOk, OnErr, sym, ap, ◌∙◌}
use Rattle.std.specs.Borrow.{MutBor}
use Rattle.std.specs.Fn.{Once}
use Rattle.triple_arena_base.specs.declared.errors.GetDisjointMutError.{GetDisjointMutError}
use Rattle.triple_arena_ptr.specs.Pointers.{Pointer}
use Rattle.triple_arena_stack.specs.Disjoint.{FnOnceReturnsAtPairMut, Worked}
use Rattle.triple_arena.specs.ArenaState.{ArenaState, with_value}
use Rattle.triple_arena.specs.DisjointEntries.{DisjointPtrAnswer}
use Rattle.triple_arena.specs.Entries.{look_up}
use Rattle.triple_arena.specs.laws.LookUpLaws.{written_there, written_elsewhere}

-- under two pointers of the one arena, in the other, each value is what is made of the other one's and of its own; all else
-- is as it was
pub record AreExchanged {T : Type 0} (make : T → T → T) (s : ArenaState T) (p q : Pointer) (t : ArenaState T) : Type 0 where
  pub first : (v w : T) → look_up s.slots p ≡ Some v → look_up s.slots q ≡ Some w → look_up t.slots p ≡ Some (make w v)
  pub second : (v w : T) → look_up s.slots p ≡ Some v → look_up s.slots q ≡ Some w → look_up t.slots q ≡ Some (make v w)
  pub others : (r : Pointer) → r ≢ p → r ≢ q → look_up t.slots r ≡ look_up s.slots r
  pub counter : t.counter ≡ s.counter

some_same : {T : Type 0} {x y : T} → Some x ≡ Some y → x ≡ y
some_same e = cc

-- two values that are written, one after the other
module _ {T : Type 0} (s : ArenaState T) (p q : Pointer) (v w x y : T) (at_first : look_up s.slots p ≡ Some v) (at_second : look_up s.slots q ≡ Some w) (apart : p.0 ≢ q.0) where
  abbrev once : ArenaState T
  once = with_value s p.0 x

  abbrev twice : ArenaState T
  twice = with_value once q.0 y

  two : p ≢ q
  two e = apart (ap (λ (r : Pointer). r.0) e)

  second_stays : look_up once.slots q ≡ Some w
  second_stays = written_elsewhere s.slots p v x at_first q (λ e. two (sym e)) ∙ at_second

  first_written : look_up twice.slots p ≡ Some x
  first_written = written_elsewhere once.slots q w y second_stays p two ∙ written_there s.slots p v x at_first

  second_written : look_up twice.slots q ≡ Some y
  second_written = written_there once.slots q w y second_stays

  rest_stays : (r : Pointer) → r ≢ p → r ≢ q → look_up twice.slots r ≡ look_up s.slots r
  rest_stays r other third =
      written_elsewhere once.slots q w y second_stays r third ∙ written_elsewhere s.slots p v x at_first r other

module _ {F T R : Type 0} (g : Once F (MutBor T × (MutBor T × Unit {0})) (R × (MutBor T × (MutBor T × Unit {0})))) (f : F) (make : T → T → T)
    (makes : (v w x y : T) (r : R) → FnOnceReturnsAtPairMut g f v w r x y → (x ≡ make w v) × (y ≡ make v w))
    (s : ArenaState T) (p q : Pointer) (t : ArenaState T) where
  exchanged : (r : R) → p.0 ≢ q.0 → Worked g f (look_up s.slots p) (look_up s.slots q) r (λ x y. t ≡ with_value (with_value s p.0 x) q.0 y)
      → AreExchanged make s p q t
  exchanged r apart work =
      let v = work.first_value in
      let w = work.second_value in
      let x = work.first_left in
      let y = work.second_left in
      let made = makes v w x y r work.called in
      record {
        first = λ a b here there.
            let va : v ≡ a = some_same (sym work.first_is ∙ here) in
            let wb : w ≡ b = some_same (sym work.second_is ∙ there) in
            ap (λ (u : ArenaState T). look_up u.slots p) work.left ∙ first_written s p q v w x y work.first_is work.second_is apart
            ∙ ap Some (made.0 ∙ ap (λ c. make c v) wb ∙ ap (make b) va);
        second = λ a b here there.
            let va : v ≡ a = some_same (sym work.first_is ∙ here) in
            let wb : w ≡ b = some_same (sym work.second_is ∙ there) in
            ap (λ (u : ArenaState T). look_up u.slots q) work.left ∙ second_written s p q v w x y work.first_is work.second_is apart
            ∙ ap Some (made.1 ∙ ap (λ c. make c w) va ∙ ap (make a) wb);
        others = λ other one two.
            ap (λ (u : ArenaState T). look_up u.slots other) work.left
            ∙ rest_stays s p q v w x y work.first_is work.second_is apart other one two;
        counter = ap (λ (u : ArenaState T). u.counter) work.left;
      }

  -- by the answer of the call
  pub exchanged_if_ok : (result : Result R GetDisjointMutError) → DisjointPtrAnswer s.slots p q result
      → IfOk result (λ r. Worked g f (look_up s.slots p) (look_up s.slots q) r (λ x y. t ≡ with_value (with_value s p.0 x) q.0 y))
      → OnOk result (AreExchanged make s p q t)
  exchanged_if_ok (Ok r) answer work = exchanged r answer.2 work
  exchanged_if_ok (Err e) answer work = tt

module _ {T R E : Type 0} (make : T → T → T) (s : ArenaState T) (p q : Pointer) (t : ArenaState T) where
  pub first_of : (result : Result R E) → OnOk result (AreExchanged make s p q t)
      → OnOk result ((v w : T) → look_up s.slots p ≡ Some v → look_up s.slots q ≡ Some w → look_up t.slots p ≡ Some (make w v))
  first_of (Ok r) done = done.first
  first_of (Err e) done = tt

  pub second_of : (result : Result R E) → OnOk result (AreExchanged make s p q t)
      → OnOk result ((v w : T) → look_up s.slots p ≡ Some v → look_up s.slots q ≡ Some w → look_up t.slots q ≡ Some (make v w))
  second_of (Ok r) done = done.second
  second_of (Err e) done = tt

  pub rest_of : (result : Result R E) → OnOk result (AreExchanged make s p q t) → OnErr result (t ≡ s)
      → ((r : Pointer) → r ≢ p → r ≢ q → look_up t.slots r ≡ look_up s.slots r) × (t.counter ≡ s.counter)
  rest_of (Ok r) done same = (done.others, done.counter)
  rest_of (Err e) done same = (λ r one two. ap (λ (u : ArenaState T). look_up u.slots r) same, ap (λ (u : ArenaState T). u.counter) same)
