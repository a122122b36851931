-- A lease that is put into the place which an entry of a strict arena has.
use Rattle.std.proofs.Common.{◌≡◌, Result, Ok, Err, IfOk, OnErr, sym, ap, subst, ◌∙◌}
use Rattle.std.specs.Option.{option_and_then}
use Rattle.triple_arena_ptr.specs.Numbers.{Generations}
use Rattle.triple_arena_ptr.specs.Pointers.{Pointer}
use Rattle.triple_arena_stack.specs.StackKind.{StackKind}
use Rattle.triple_arena.specs.ArenaState.{ArenaState}
use Rattle.triple_arena.specs.Entries.{value_of_generation}
use Rattle.triple_arena.specs.Insertion.{next_pointer}
use Rattle.triple_arena_direct.specs.Gone.{IsGoneForGood}
use Rattle.triple_arena_direct.specs.StrictDone.{IsStrictlyGrown, IsStrictlyInserted}
use Rattle.triple_arena_direct_uses.specs.Tickets.{IsIssued}
use Rattle.triple_arena_direct_uses.specs.declared.leases.Lease.{Lease}

abbrev pub StaysGone : ArenaState Lease → ArenaState Lease → Type 0
StaysGone s t = (q : Pointer) → IsGoneForGood s q → IsGoneForGood t q

-- the arena has grown for the place
pub issued : (kind : StackKind) (s a t u : ArenaState Lease) (p : Pointer) (lease : Lease) → IsStrictlyGrown s kind a → p ≡ next_pointer a → t ≡ u
    → IsStrictlyInserted a a lease (next_pointer a) u → StaysGone a u → IsIssued s lease p t × StaysGone s t
issued kind s a t u p lease grown names is put stays =
    subst (λ (r : Pointer). IsIssued s lease r t × StaysGone s t) (sym names)
    (subst (λ (x : ArenaState Lease). IsIssued s lease (next_pointer a) x × StaysGone s x) (sym is) (
      record {
        found = put.found;
        free = sym (grown.kept (next_pointer a)) ∙ ap (option_and_then (value_of_generation (next_pointer a).1)) put.free;
        new = λ q gone. put.new q (grown.stays_gone q gone);
        others = λ q other. put.others q other ∙ grown.kept q;
      },
      λ q gone. stays q (grown.stays_gone q gone),
    ))

-- where the place may be refused
module _ {A E : Type 0} (s t : ArenaState Lease) (Is : A → Type 0) where
  pub issued_of : (result : Result A E) → IfOk result (λ a. Is a × StaysGone s t) → IfOk result Is
  issued_of (Ok a) done = done.0
  issued_of (Err e) done = tt

  pub stays_gone_of : (result : Result A E) → IfOk result (λ a. Is a × StaysGone s t) → OnErr result (t ≡ s) → StaysGone s t
  stays_gone_of (Ok a) done same = done.1
  stays_gone_of (Err e) done same = λ q gone. subst (λ u. IsGoneForGood u q) (sym same) gone
