-- What contracts see of an entry.
use Rattle.std.specs.Prelude.{◌≡◌, List, [], ◌∷◌, ◌++◌, Result}
use Rattle.std.specs.Borrow.{Lends, RestsIfErr, Fml, RattleType, MutBor, GName}
use Rattle.triple_arena_stack.specs.contracts.non_zero_inx_stack.NonZeroInxStack.{the_row}
use Rattle.triple_arena_stack.specs.declared.push_entry.PushEntry.{PushEntry}

module _ {T K : Type 0} where
  -- the stack, as the entry holds it
  abbrev pub push_entry_stack : PushEntry T K → K
  push_entry_stack entry = entry.stack.now

  -- the ghost name of the reference to the stack
  abbrev pub push_entry_lender : PushEntry T K → GName
  push_entry_lender entry = entry.stack.ghost_name

module _ (T K : RattleType) where
  -- refused, the stack stays as it is
  abbrev pub push_entry_rests : MutBor K.Denot → {E : Type 0} → Result (PushEntry T.Denot K.Denot) E → Fml
  push_entry_rests stack result = RestsIfErr (the_row T K) stack push_entry_lender result (λ end. end ≡ stack.now)

  -- once the borrow ends, the item that was last written stands after the others
  abbrev pub push_entry_lends : (K.Denot → List T.Denot → K.Denot) → (K.Denot → List T.Denot) → PushEntry T.Denot K.Denot → MutBor T.Denot → Fml
  push_entry_lends with_items items entry item = Lends (the_row T K) T entry.stack item (λ w. with_items (push_entry_stack entry) (items (push_entry_stack entry) ++ w ∷ []))
