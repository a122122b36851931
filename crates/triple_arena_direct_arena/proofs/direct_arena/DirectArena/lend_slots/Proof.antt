-- `lend_slots` lends the slots of an arena so that their values alone can change. It is proved by hand, since it makes a raw
-- pointer. The token of the lifetime is halved. One half opens the arena, whose slots are lent to `slice_of` with the
-- other; what that lends is turned into a loan of these slots with other values, and what it gives back closes the arena,
-- whose invariant holds of them (`put_keeps`). The names of what the bounds bring are those of the function's statement, as
-- `rt check --generated` prints it. Assumes `Logic`.
use mathlib.Core.Path.{◌≡◌, refl, sym, ap, ◌∙◌}
use Prim.Native.Nat.{ℕ, ◌+◌}
use mathlib.Core.List.{List, [], ◌∷◌, map}
use lib.ListN.{length}
use seplogic.Ra.Ura.{Ura}
use base.Fraction.{full_share, left, right}
use mir.Syntax.{Fn, Args, Kind, Dict, dcons, dnil, named, a_type, w64}
use mir.MapTy.{inst_fn}
use mir.Val.{Val, vptr, vstruct, vcons, vnil}
use base.Logic.{SProp, ent, emp, sep, id⊢}
use base.Fml.{Lft, GName, Share, fsep, ftrue, flft, fobs, fbor, fauth}
use base.Stored.{coded_list}
use prog.Model.{Model}
use prog.Wired.{Wired}
use prog.Memory.{Memory, up, align}
use prog.Routine.{Routine}
use prog.Wp.{Calls, Loops, WpFn, Tables}
use types.Logic.{Logic, sem}
use contract.Monad.{fact, Fun}
use contract.Running.{Running, tables, tables_of}
use contract.Lifetimes.{Lfts, Shares, AllOutlive}
use sound.WpLaws.{WpFn-mono, FmC, fm_of}
use types.Kit.{Item, ‵, ◌⊛◌, some, later, await, ◌$◌, ◌∵◌, !, qed, by, move, keep, use0, use1, use2, raw, drop, split, split3, join, group, pick, rewrite, fsplit, fsplit3, fjoin, fjoin3, fpack, feq_l, feq_i, frame, suffices, done}
use types.Part.{whole, sub, agg}
use types.Run.{stop, fld, addr, hop, from, and_then, no_more, returns, enter}
use types.ByLocal.{alloc_all, pass_all, free_all, look_at, look_in_at, get, sets, lands_as, through}
use types.SemTy.{Arr, SemTy, Body as Borrowed}
use types.Follow.{takes_part, closes_following, after}
use types.Late.{ages, bor_new_deep}
use types.Mut.{open_ref}
use types.Tokens.{name_new}
use denote.Exit.{no}
use denote.RattleType.{RattleType, owns}
use denote.Memory.{mem, part_at, part_of, lone}
use denote.Param.{param, copied, bounded}
use denote.Param.Laws.{Laws, param_laws, copied_laws}
use denote.Plain.{uint_Lawful}
use denote.RawPtr.{block_ptr}
use denote.Builtin.{usize}
use denote.Ref.{MutBor, MutRef, mut_vals, mut_Tells}
use denote.Follow.{follows, follows_then}
use denote.Model.Fields.{view_owns, view_made, plain_out, Plain-in}
use denote.Shadow.{pure_l, pure_i, makes_shadow}
use denote.Signature.{plain, named_lft, mut_ref_to}
use denote.Slice.{MutSlice, room}
use denote.FollowSlice.{heres_id}
use denote.Steps.{nothing, heard, only}
use denote.Struct.Members.{Member}
use denote.Struct.Parts.{PartsBack}
use denote.Struct.Pick.{rest_at, field_out, field_back}
use denote.Struct.Struct.{Struct}
use denote.Struct.Owning.{Owning, shape}
use denote.Triple.Clauses.{Clauses, Ended, closing, lasts}
use denote.Triple.Spec.{Meets, Spec, triple_of}
use denote.Triple.Table.{entered}
use denote.Triple.Walked.{says, Stays, stay_dropped, walk_of, walked, ends_at, Goes-spent_ref, walk_Meets}
use denote.Triple.Call.{calls_at}
use denote.Triple.Statement.{Contract, Triple}
use Rattle.std.specs.Borrow.{Array}
use Rattle.std.specs.List.{refill}
use Rattle.triple_arena_ptr.specs.Numbers.{greatest_index}
use Rattle.triple_arena_direct_arena.specs.DirectState.{DirectState}
use Rattle.triple_arena_direct_arena.specs.DirectSlot.{direct_slot_entry, direct_with_slot_value}
use Rattle.triple_arena_direct_arena.specs.laws.DirectSlotLaws.{with_own_slot_value}
use Rattle.triple_arena_direct_arena.specs.DirectValues.{direct_with_values_of}
use Rattle.triple_arena_traits.specs.Kept.{filled_all, Kept}
use Rattle.triple_arena_slots.specs.Lends.{refilled as with_slots}
use Rattle.triple_arena_traits.proofs.KeptSlots.{filled-own, length-filled, refilled}
use Rattle.triple_arena_direct_arena.proofs.Keeping.{kept_within}
use Rattle.triple_arena_direct_arena.specs.declared.slot.DirectSlot.{DirectSlot}
use Rattle.triple_arena_slots.specs.declared.slot_stack.SlotStack.{SlotStack}
use Rattle.triple_arena_traits.specs.declared.lent_slots.LentSlots.{LentSlots}
use Rattle.triple_arena_direct_arena.specs.contracts.slot.DirectSlot as S-type
use Rattle.triple_arena_slots.specs.contracts.slot_stack.SlotStack as SlotStack-type
use Rattle.triple_arena_traits.specs.contracts.lent_slots.LentSlots as L-type
use Rattle.triple_arena_direct_arena.specs.contracts.slot.DirectSlotEntrySlot.TheImpl as Slot-impl
use Rattle.triple_arena_direct_arena.specs.contracts.direct_arena.DirectArena as A-type
use Rattle.triple_arena_direct_arena.specs.contracts.direct_arena.DirectArena.TheInside as I-type
use Rattle.triple_arena_direct_arena.specs.contracts.direct_arena.DirectArena.lend_slots as F
use Rattle.triple_arena_direct_arena.specs.contracts.direct_arena.DirectArena.slice_of as G-fn
use Rattle.triple_arena_direct_arena.proofs.direct_arena.DirectArena.slice_of.Met.{met}
use Rattle.triple_arena_direct_arena.proofs.slot.DirectSlot.TheLaws as S-laws
use Rattle.triple_arena_slots.proofs.slot_stack.SlotStack.TheLaws as SlotStack-laws
use Rattle.triple_arena_direct_arena.specs.contracts.direct_arena.DirectArena.lend_slots.Key.{name as #self}
use Rattle.triple_arena_direct_arena.proofs.direct_arena.DirectArena.lend_slots.Statement as stated
use Rattle.triple_arena_direct_arena.proofs.direct_arena.DirectArena.lend_slots.Code as code
use Rattle.std.specs.declared.clone.Clone as gClone
use Rattle.std.specs.declared.fmt.Debug as gDebug
use Rattle.std.specs.declared.cmp.Eq as gEq
use Rattle.std.specs.declared.hash.Hash as gHash
use Rattle.triple_arena_stack.specs.declared.stack.NonZeroInxGenericStack as gNonZeroInxGenericStack
use Rattle.std.specs.declared.cmp.Ord as gOrd
use Rattle.std.specs.declared.cmp.PartialEq as gPartialEq
use Rattle.std.specs.declared.cmp.PartialOrd as gPartialOrd
use Rattle.triple_arena_ptr.specs.declared.ptr.Ptr as gPtr
use Rattle.triple_arena_ptr.specs.declared.generation.PtrGen as gPtrGen
use Rattle.triple_arena_ptr.specs.declared.inx.PtrInx as gPtrInx
use Rattle.triple_arena_base.specs.declared.recast.Recast as gRecast

module _ (P T S I G : RattleType) (P-Ptr : gPtr.Ghosts P.Denot I.Denot G.Denot) (P-Ptr-dict : Dict)
    (P-Debug : gDebug.Ghosts P.Denot) (P-Debug-dict : Dict) (P-Hash : gHash.Ghosts P.Denot) (P-Hash-dict : Dict)
    (P-Eq : gEq.Ghosts P.Denot) (P-Eq-dict : Dict) (P-PartialEq : gPartialEq.Ghosts P.Denot) (P-PartialEq-dict : Dict)
    (P-Clone : gClone.Ghosts P.Denot) (P-Clone-dict : Dict) (P-PartialOrd : gPartialOrd.Ghosts P.Denot)
    (P-PartialOrd-dict : Dict) (P-Ord : gOrd.Ghosts P.Denot) (P-Ord-dict : Dict)
    (P-Recast : gRecast.Ghosts P.Denot P.Denot) (P-Recast-dict : Dict) (P-Inx-PtrInx : gPtrInx.Ghosts I.Denot)
    (P-Inx-PtrInx-dict : Dict) (P-Inx-Debug : gDebug.Ghosts I.Denot) (P-Inx-Debug-dict : Dict)
    (P-Inx-Hash : gHash.Ghosts I.Denot) (P-Inx-Hash-dict : Dict) (P-Inx-Eq : gEq.Ghosts I.Denot) (P-Inx-Eq-dict : Dict)
    (P-Inx-PartialEq : gPartialEq.Ghosts I.Denot) (P-Inx-PartialEq-dict : Dict) (P-Inx-Clone : gClone.Ghosts I.Denot)
    (P-Inx-Clone-dict : Dict) (P-Inx-PartialOrd : gPartialOrd.Ghosts I.Denot) (P-Inx-PartialOrd-dict : Dict)
    (P-Inx-Ord : gOrd.Ghosts I.Denot) (P-Inx-Ord-dict : Dict) (P-Gen-PtrGen : gPtrGen.Ghosts G.Denot)
    (P-Gen-PtrGen-dict : Dict) (P-Gen-Debug : gDebug.Ghosts G.Denot) (P-Gen-Debug-dict : Dict)
    (P-Gen-Hash : gHash.Ghosts G.Denot) (P-Gen-Hash-dict : Dict) (P-Gen-Eq : gEq.Ghosts G.Denot) (P-Gen-Eq-dict : Dict)
    (P-Gen-PartialEq : gPartialEq.Ghosts G.Denot) (P-Gen-PartialEq-dict : Dict) (P-Gen-Clone : gClone.Ghosts G.Denot)
    (P-Gen-Clone-dict : Dict) (P-Gen-PartialOrd : gPartialOrd.Ghosts G.Denot) (P-Gen-PartialOrd-dict : Dict)
    (P-Gen-Ord : gOrd.Ghosts G.Denot) (P-Gen-Ord-dict : Dict) (S-NonZeroInxGenericStack : gNonZeroInxGenericStack.Ghosts
    S.Denot (DirectSlot P.Denot T.Denot I.Denot G.Denot)) (S-NonZeroInxGenericStack-dict : Dict) where
  abbrev rP : RattleType
  rP = copied 0 P

  abbrev rT : RattleType
  rT = param 1 T

  abbrev rS : RattleType
  rS = param 2 S

  abbrev rI : RattleType
  rI = copied 3 I

  abbrev rG : RattleType
  rG = copied 4 G

  -- a slot
  abbrev Sr : RattleType
  Sr = S-type.the_row rP rT rI rG

  abbrev X : Type 0
  X = DirectSlot P.Denot T.Denot I.Denot G.Denot

  -- the slots
  abbrev Slr : RattleType
  Slr = SlotStack-type.the_row rP rT Sr rS rI rG

  abbrev D : Type 0
  D = SlotStack P.Denot T.Denot X S.Denot I.Denot G.Denot

  -- the arena, and its fields
  abbrev Ar : RattleType
  Ar = A-type.the_row rP rT rS rI rG P-Ptr P-Debug P-Hash P-PartialEq P-PartialOrd P-Ord P-Recast P-Inx-PtrInx
      P-Inx-Debug P-Inx-Hash P-Inx-PartialEq P-Inx-PartialOrd P-Inx-Ord P-Gen-PtrGen P-Gen-Debug P-Gen-Hash
      P-Gen-PartialEq P-Gen-PartialOrd P-Gen-Ord S-NonZeroInxGenericStack

  abbrev Inside : RattleType
  Inside = I-type.the_row rP rT rS rI rG P-Ptr P-Debug P-Hash P-PartialEq P-PartialOrd P-Ord P-Recast P-Inx-PtrInx
      P-Inx-Debug P-Inx-Hash P-Inx-PartialEq P-Inx-PartialOrd P-Inx-Ord P-Gen-PtrGen P-Gen-Debug P-Gen-Hash
      P-Gen-PartialEq P-Gen-PartialOrd P-Gen-Ord S-NonZeroInxGenericStack

  abbrev St : Type 0
  St = DirectState T.Denot

  abbrev number : G.Denot → ℕ
  number = P-Gen-PtrGen.number

  abbrev items : S.Denot → List X
  items = S-NonZeroInxGenericStack.items

  abbrev with_items : S.Denot → List X → S.Denot
  with_items = S-NonZeroInxGenericStack.with_items

  abbrev view : Inside.Denot → St
  view = A-type.the_view rP rT rS rI rG P-Ptr P-Debug P-Hash P-PartialEq P-PartialOrd P-Ord P-Recast P-Inx-PtrInx
      P-Inx-Debug P-Inx-Hash P-Inx-PartialEq P-Inx-PartialOrd P-Inx-Ord P-Gen-PtrGen P-Gen-Debug P-Gen-Hash
      P-Gen-PartialEq P-Gen-PartialOrd P-Gen-Ord S-NonZeroInxGenericStack

  abbrev good : Inside.Denot → Type 0
  good = A-type.the_invariant rP rT rS rI rG P-Ptr P-Debug P-Hash P-PartialEq P-PartialOrd P-Ord P-Recast P-Inx-PtrInx
      P-Inx-Debug P-Inx-Hash P-Inx-PartialEq P-Inx-PartialOrd P-Inx-Ord P-Gen-PtrGen P-Gen-Debug P-Gen-Hash
      P-Gen-PartialEq P-Gen-PartialOrd P-Gen-Ord S-NonZeroInxGenericStack

  abbrev ms : List Member
  ms = record { row = Slr; ty = lone Slr.mir } ∷ record { row = usize; ty = lone usize.mir } ∷ []

  -- where the slots lie
  abbrev off : ℕ
  off = up (align (lone Slr.mir)) 0

  abbrev kinds : List Kind
  kinds = a_type ∷ a_type ∷ a_type ∷ a_type ∷ a_type ∷ []

  abbrev args : Args
  args = bounded kinds (P, (T, (S, (I, (G, tt))))) (dcons P-Ptr-dict (dcons P-Debug-dict (dcons P-Hash-dict (dcons
      P-Eq-dict (dcons P-PartialEq-dict (dcons P-Clone-dict (dcons P-PartialOrd-dict (dcons P-Ord-dict (dcons
      P-Recast-dict (dcons P-Inx-PtrInx-dict (dcons P-Inx-Debug-dict (dcons P-Inx-Hash-dict (dcons P-Inx-Eq-dict (dcons
      P-Inx-PartialEq-dict (dcons P-Inx-Clone-dict (dcons P-Inx-PartialOrd-dict (dcons P-Inx-Ord-dict (dcons
      P-Gen-PtrGen-dict (dcons P-Gen-Debug-dict (dcons P-Gen-Hash-dict (dcons P-Gen-Eq-dict (dcons P-Gen-PartialEq-dict
      (dcons P-Gen-Clone-dict (dcons P-Gen-PartialOrd-dict (dcons P-Gen-Ord-dict (dcons S-NonZeroInxGenericStack-dict
      dnil))))))))))))))))))))))))))

  abbrev function : Fn
  function = inst_fn args code.function

  abbrev end : Ended
  end = F.ended P T S I G P-Ptr P-Ptr-dict P-Debug P-Debug-dict P-Hash P-Hash-dict P-Eq P-Eq-dict P-PartialEq
      P-PartialEq-dict P-Clone P-Clone-dict P-PartialOrd P-PartialOrd-dict P-Ord P-Ord-dict P-Recast P-Recast-dict
      P-Inx-PtrInx P-Inx-PtrInx-dict P-Inx-Debug P-Inx-Debug-dict P-Inx-Hash P-Inx-Hash-dict P-Inx-Eq P-Inx-Eq-dict
      P-Inx-PartialEq P-Inx-PartialEq-dict P-Inx-Clone P-Inx-Clone-dict P-Inx-PartialOrd P-Inx-PartialOrd-dict P-Inx-Ord
      P-Inx-Ord-dict P-Gen-PtrGen P-Gen-PtrGen-dict P-Gen-Debug P-Gen-Debug-dict P-Gen-Hash P-Gen-Hash-dict P-Gen-Eq
      P-Gen-Eq-dict P-Gen-PartialEq P-Gen-PartialEq-dict P-Gen-Clone P-Gen-Clone-dict P-Gen-PartialOrd
      P-Gen-PartialOrd-dict P-Gen-Ord P-Gen-Ord-dict S-NonZeroInxGenericStack S-NonZeroInxGenericStack-dict

  abbrev called_end : Ended
  called_end = G-fn.ended P T S I G P-Ptr P-Ptr-dict P-Debug P-Debug-dict P-Hash P-Hash-dict P-Eq P-Eq-dict P-PartialEq
      P-PartialEq-dict P-Clone P-Clone-dict P-PartialOrd P-PartialOrd-dict P-Ord P-Ord-dict P-Recast P-Recast-dict
      P-Inx-PtrInx P-Inx-PtrInx-dict P-Inx-Debug P-Inx-Debug-dict P-Inx-Hash P-Inx-Hash-dict P-Inx-Eq P-Inx-Eq-dict
      P-Inx-PartialEq P-Inx-PartialEq-dict P-Inx-Clone P-Inx-Clone-dict P-Inx-PartialOrd P-Inx-PartialOrd-dict P-Inx-Ord
      P-Inx-Ord-dict P-Gen-PtrGen P-Gen-PtrGen-dict P-Gen-Debug P-Gen-Debug-dict P-Gen-Hash P-Gen-Hash-dict P-Gen-Eq
      P-Gen-Eq-dict P-Gen-PartialEq P-Gen-PartialEq-dict P-Gen-Clone P-Gen-Clone-dict P-Gen-PartialOrd
      P-Gen-PartialOrd-dict P-Gen-Ord P-Gen-Ord-dict S-NonZeroInxGenericStack S-NonZeroInxGenericStack-dict

  abbrev stayed : Stays end.signature.params end.kept
  stayed = (stay_dropped (mut_ref_to (0 ∷ []) tt (plain (λ _. Ar))) no, tt)

  -- these slots in memory, with the values of a state
  abbrev KeptBy : List X → SemTy
  KeptBy xs = record { rep = St; coded = Ar.coded; size = 0; own_at = λ s b o. (Arr (mem Sr) (length xs)).own_at (filled_all direct_with_slot_value xs s.slots) b o }

  -- the slots of the arena once values were written
  abbrev put : D → List X → St → D
  put t xs s = with_slots rP rT Sr rS rI rG items with_items t (filled_all direct_with_slot_value xs s.slots)

  -- three laws of the stack
  pub record StackLaws : Type 0 where
    pub of_items : (s : S.Denot) (xs : List X) → items (with_items s xs) ≡ xs
    pub of_room : (s : S.Denot) (xs : List X) → S-NonZeroInxGenericStack.room (with_items s xs) ≡ S-NonZeroInxGenericStack.room s
    pub of_limit : (s : S.Denot) (xs : List X) → S-NonZeroInxGenericStack.limit (with_items s xs) ≡ S-NonZeroInxGenericStack.limit s

  module _ (laws : StackLaws) where
    -- the arena's invariant holds then, and it is the arena with those values
    put_keeps : (a : Inside.Denot) (w : St) → good a
        → good (record a { slots = put a.slots (items a.slots.stack) w }) × (view (record a { slots = put a.slots (items a.slots.stack) w }) ≡ direct_with_values_of (view a) w)
    put_keeps a w ok =
        let es : List X = items a.slots.stack in
        let ws : List X = filled_all direct_with_slot_value es w.slots in
        kept_within number es (items (with_items a.slots.stack (refill (length es) es ws))) a.len
        (S-NonZeroInxGenericStack.room a.slots.stack) (S-NonZeroInxGenericStack.room (with_items a.slots.stack (refill (length es) es ws)))
        (S-NonZeroInxGenericStack.limit a.slots.stack) (S-NonZeroInxGenericStack.limit (with_items a.slots.stack (refill (length es) es ws)))
        (greatest_index P-Inx-PtrInx.greatest) w
        (laws.of_items a.slots.stack (refill (length es) es ws) ∙ refilled es ws (length-filled direct_with_slot_value es w.slots))
        (laws.of_room a.slots.stack (refill (length es) es ws)) (laws.of_limit a.slots.stack (refill (length es) es ws)) ok

  module _ (LP : Laws P) (LT : Laws T) (LS : Laws S) (LI : Laws I) (LG : Laws G) (laws : StackLaws) {M : Type 1} {𝓤 : Ura M} (𝓛 : Logic 𝓤) (at : Memory → SProp 𝓤) (run : Routine → Fun 𝓤) where
    open 𝓛 use {H, A}

    abbrev spec : Clauses 𝓤 end
    spec = F.clauses P T S I G P-Ptr P-Ptr-dict P-Debug P-Debug-dict P-Hash P-Hash-dict P-Eq P-Eq-dict P-PartialEq
        P-PartialEq-dict P-Clone P-Clone-dict P-PartialOrd P-PartialOrd-dict P-Ord P-Ord-dict P-Recast P-Recast-dict
        P-Inx-PtrInx P-Inx-PtrInx-dict P-Inx-Debug P-Inx-Debug-dict P-Inx-Hash P-Inx-Hash-dict P-Inx-Eq P-Inx-Eq-dict
        P-Inx-PartialEq P-Inx-PartialEq-dict P-Inx-Clone P-Inx-Clone-dict P-Inx-PartialOrd P-Inx-PartialOrd-dict
        P-Inx-Ord P-Inx-Ord-dict P-Gen-PtrGen P-Gen-PtrGen-dict P-Gen-Debug P-Gen-Debug-dict P-Gen-Hash P-Gen-Hash-dict
        P-Gen-Eq P-Gen-Eq-dict P-Gen-PartialEq P-Gen-PartialEq-dict P-Gen-Clone P-Gen-Clone-dict P-Gen-PartialOrd
        P-Gen-PartialOrd-dict P-Gen-Ord P-Gen-Ord-dict S-NonZeroInxGenericStack S-NonZeroInxGenericStack-dict 𝓛 at run

    -- the contract of the call
    abbrev called_spec : Spec 𝓤 (G-fn.signature P T S I G)
    called_spec = G-fn.spec P T S I G P-Ptr P-Ptr-dict P-Debug P-Debug-dict P-Hash P-Hash-dict P-Eq P-Eq-dict
        P-PartialEq P-PartialEq-dict P-Clone P-Clone-dict P-PartialOrd P-PartialOrd-dict P-Ord P-Ord-dict P-Recast
        P-Recast-dict P-Inx-PtrInx P-Inx-PtrInx-dict P-Inx-Debug P-Inx-Debug-dict P-Inx-Hash P-Inx-Hash-dict P-Inx-Eq
        P-Inx-Eq-dict P-Inx-PartialEq P-Inx-PartialEq-dict P-Inx-Clone P-Inx-Clone-dict P-Inx-PartialOrd
        P-Inx-PartialOrd-dict P-Inx-Ord P-Inx-Ord-dict P-Gen-PtrGen P-Gen-PtrGen-dict P-Gen-Debug P-Gen-Debug-dict
        P-Gen-Hash P-Gen-Hash-dict P-Gen-Eq P-Gen-Eq-dict P-Gen-PartialEq P-Gen-PartialEq-dict P-Gen-Clone
        P-Gen-Clone-dict P-Gen-PartialOrd P-Gen-PartialOrd-dict P-Gen-Ord P-Gen-Ord-dict S-NonZeroInxGenericStack
        S-NonZeroInxGenericStack-dict 𝓛 at run

    abbrev Called : Contract 𝓤
    Called = triple_of 𝓛 (G-fn.signature P T S I G) called_spec

    module _ (κs : Lfts 6) (qs : Shares 6) (within : AllOutlive 6 end.signature.outlives κs) (rb ro : ℕ) (γ : GName) (d : St) where
      abbrev κ : Lft
      κ = κs.0

      abbrev q : Share
      q = qs.0

      abbrev self : MutBor St
      self = record { ref_ptr = (rb, ro); ghost_name = γ; now = d }

      abbrev bound : (walk_of 𝓛 end stayed spec).Ghost
      bound = ((κs, qs, within, (self, tt), (vptr rb ro ∷ [], tt)), tt)

      abbrev Post : Val → SProp 𝓤
      Post = (walk_of 𝓛 end stayed spec).post bound

      abbrev L-of : Owning
      L-of = L-type.the_type (named_lft 6 0 tt κs) rP rT Sr rI rG P-Ptr P-Debug P-Hash P-PartialEq P-PartialOrd P-Ord
          P-Recast P-Inx-PtrInx P-Inx-Debug P-Inx-Hash P-Inx-PartialEq P-Inx-PartialOrd P-Inx-Ord P-Gen-PtrGen
          P-Gen-Debug P-Gen-Hash P-Gen-PartialEq P-Gen-PartialOrd P-Gen-Ord (Slot-impl.ghosts rP rT rI rG P-Ptr
          P-Ptr-dict P-Debug P-Debug-dict P-Hash P-Hash-dict P-Eq P-Eq-dict P-PartialEq P-PartialEq-dict P-Clone
          P-Clone-dict P-PartialOrd P-PartialOrd-dict P-Ord P-Ord-dict P-Recast P-Recast-dict P-Inx-PtrInx
          P-Inx-PtrInx-dict P-Inx-Debug P-Inx-Debug-dict P-Inx-Hash P-Inx-Hash-dict P-Inx-Eq P-Inx-Eq-dict
          P-Inx-PartialEq P-Inx-PartialEq-dict P-Inx-Clone P-Inx-Clone-dict P-Inx-PartialOrd P-Inx-PartialOrd-dict
          P-Inx-Ord P-Inx-Ord-dict P-Gen-PtrGen P-Gen-PtrGen-dict P-Gen-Debug P-Gen-Debug-dict P-Gen-Hash
          P-Gen-Hash-dict P-Gen-Eq P-Gen-Eq-dict P-Gen-PartialEq P-Gen-PartialEq-dict P-Gen-Clone P-Gen-Clone-dict
          P-Gen-PartialOrd P-Gen-PartialOrd-dict P-Gen-Ord P-Gen-Ord-dict)

      -- what lent slots own as a value, which is nothing
      made : (b o : ℕ) → ent 𝓤 (emp 𝓤) (sem 𝓛 ((Struct (shape L-of)).own_val (block_ptr b o, (tt, tt)) (vstruct (vcons (vptr b o) (vcons (vstruct vnil) vnil)) ∷ [])))
      made b o = makes_shadow 𝓛 ((Struct (shape L-of)).own_val (block_ptr b o, (tt, tt)) (vstruct (vcons (vptr b o) (vcons (vstruct vnil) vnil)) ∷ [])) (λ vss. (tt, (tt, ((λ uss. (tt, tt)), tt)))) ((vptr b o ∷ [], (vstruct vnil ∷ [], tt)), (refl, (refl, ((tt, (refl, tt)), tt))))

      module _ (a : Inside.Denot) where
        abbrev t : D
        t = a.slots

        -- the arena but for its slots
        abbrev Back : SProp 𝓤
        Back = sep 𝓤 (sem 𝓛 (rest_at full_share ms 0 (t, (a.len, tt)) rb ro 0)) (PartsBack 𝓛 full_share [] ms rb ro)

        field_of : ent 𝓤 (sem 𝓛 (part_at Inside full_share a rb ro)) (sep 𝓤 (sem 𝓛 (part_at Slr full_share t rb (ro + off))) Back)
        unfolding part_of
        field_of = field_out 𝓛 full_share [] ms ((SlotStack-laws.the_row_laws rP rT Sr rS rI rG (copied_laws 0 P LP) (param_laws 1 T LT) (S-laws.the_row_laws rP rT rI rG (copied_laws 0 P LP) (param_laws 1 T LT) (copied_laws 3 I LI) (copied_laws 4 G LG)) (param_laws 2 S LS) (copied_laws 3 I LI) (copied_laws 4 G LG)).lawful 𝓛, (uint_Lawful 𝓛 w64, tt)) (t, (a.len, tt)) rb ro 0

        -- with slots whose values were written it is an arena again
        back : view a ≡ d → good a → (w : St) → ent 𝓤 (sep 𝓤 (sem 𝓛 ((mem Slr).own_at (put t (items t.stack) w) rb (ro + off))) Back) (sem 𝓛 ((mem Ar).own_at (direct_with_values_of d w) rb ro))
        unfolding part_of
        back seen ok w =
            let b : Inside.Denot = record a { slots = put t (items t.stack) w } in
            let keeps = put_keeps laws a w ok in
            qed 𝓛 (‵ (part_at Slr full_share (put t (items t.stack) w) rb (ro + off)) ∷ raw Back ∷ []) ∵
            use2 𝓛 (‵ (part_at Inside full_share b rb ro)) (field_back 𝓛 full_share [] ms (put t (items t.stack) w, (a.len, tt)) rb ro 0) $
            by ! (Plain-in Ar Inside (view_owns Inside St Ar.coded view good) 𝓛 full_share (direct_with_values_of d w) b
            (view_made Inside St Ar.coded view good 𝓛 (direct_with_values_of d w) b (keeps.1 ∙ ap (λ (s : St). direct_with_values_of s w) seen, keeps.0)) rb ro)

      abbrev others : Item 𝓤
      others = ‵ (flft κs.1.0 qs.1.0) ⊛ ‵ (flft κs.1.1.0 qs.1.1.0) ⊛ ‵ (flft κs.1.1.1.0 qs.1.1.1.0) ⊛ ‵ (flft κs.1.1.1.1.0 qs.1.1.1.1.0) ⊛ ‵ (flft κs.1.1.1.1.1.0 qs.1.1.1.1.1.0) ⊛ ‵ ftrue

      abbrev Asks : SProp 𝓤
      Asks = (spec κs (self, tt)).requires tt

      module _ (C : Calls 𝓤 H) (Λ : Loops 𝓤 H) where
        walk : (fm : FmC 𝓤 H 𝓛.laws C) → (G-met : Triple 𝓤 (C (G-fn.Key.name args)) Called) → ent 𝓤 ((walk_of 𝓛 end stayed spec).pre bound) (WpFn 𝓤 H C Λ function (vptr rb ro ∷ []) Post)
        walk fm callee =
            qed 𝓛 (((‵ (flft κ q) ⊛ others) ⊛ ‵ (owns (MutRef (named 0) κ Ar ∷ []) (self, tt) (vptr rb ro ∷ [], tt))) ∷ raw Asks ∷ []) ∵ enter ! C Λ function (vptr rb ro ∷ []) _ $
            alloc_all ! (λ l. pass_all ! refl ((tt, tt), tt) $
            sets ! (addr ! (through ! refl (fld ! refl (stop !)))) refl (tt, tt) $
            split ! $ move ! (1 ∷ []) $ fsplit ! $ fsplit3 ! $ drop ! $
            -- [obs; the borrow; true; the tokens; what is required]
            move ! (3 ∷ []) $ split ! $ use1 𝓛 (‵ (flft κ (left q)) ⊛ ‵ (flft κ (right q))) (𝓛.lfts.lft_split κ q) $ split ! $
            -- [half; half; the others; obs; the borrow; true; what is required]
            move ! (3 ∷ 4 ∷ 0 ∷ []) $ open_ref ! tt (mem Ar) {x = d} {b = rb} {o = ro} $
            use1 𝓛 (some (λ (x : (a : Inside.Denot) × ((view a ≡ d) × good a)). ‵ (part_at Inside full_share x.0 rb ro)))
            (plain_out Ar Inside (view_owns Inside St Ar.coded view good) 𝓛 full_share d rb ro) $ pick ! (λ x.
            let a : Inside.Denot = x.0 in
            let t : D = a.slots in
            let es : List X = items t.stack in
            use1 𝓛 (‵ (part_at Slr full_share t rb (ro + off)) ⊛ raw (Back a)) (field_of a) $ split ! $
            name_new ! tt (Slr.coded.code t) (λ δ.
            let lent_slots : MutBor D = record { ref_ptr = (rb, ro + off); ghost_name = δ; now = t } in
            let z : Called.Ghost = ((κs, (right q, qs.1), within, (lent_slots, tt), (vptr rb (ro + off) ∷ [], tt)), tt) in
            -- [obs; auth; the slots; what is left; the open borrow; obs; auth; half; the others; true; what is required]
            move ! (2 ∷ 1 ∷ []) $ fjoin ! $ fpack ! D (λ y. fsep ((mem Slr).own_at y rb (ro + off)) (fauth δ (Slr.coded.code y))) t $
            move ! (3 ∷ []) $ ages ! (λ n. move ! (1 ∷ []) $ bor_new_deep ! tt n κ $
            -- [the borrow; the right; the aged borrow; obs; what is left; obs; auth; half; the others; true; what is required]
            move ! (3 ∷ 0 ∷ []) $ feq_i ! (List Val) (vptr rb (ro + off) ∷ []) (vptr rb (ro + off) ∷ []) refl $ fjoin3 ! $
            move ! (0 ∷ 8 ∷ []) $ fjoin ! $ move ! (6 ∷ 7 ∷ []) $ join ! $ move ! (0 ∷ 1 ∷ []) $ join ! $ move ! (0 ∷ 6 ∷ []) $ join ! $
            use1 𝓛 (raw (Called.pre z)) (id⊢ 𝓤 _) $
            calls_at ! fm Called callee z (and_then ! (get ! refl) (no_more !)) (λ v.
            use1 𝓛 (later (some (λ (r : MutBor (List X)). ((‵ (flft κ (right q)) ⊛ others) ⊛ ‵ ((MutSlice (named 0) κ Sr).own_val r (v ∷ []))) ⊛
            some (λ (ws : Unit {0} × Unit {0}). ‵ (lasts called_end κs (lent_slots, tt) ws) ⊛ (‵ (follows Slr (Array Sr 0) δ r.ghost_name (with_slots rP rT Sr rS rI rG items with_items t)) ⊛ raw (fact 𝓤 (r.now ≡ es))))))) (id⊢ 𝓤 _) $
            await ! tt $ pick ! (λ r. split ! $ split ! $
            let b : ℕ = r.ref_ptr.0 in let o : ℕ = r.ref_ptr.1 in let ρ : GName = r.ghost_name in let xs : List X = r.now in let n' : ℕ = length xs in
            move ! (2 ∷ []) $ pick ! (λ ws. split ! $ drop ! $ split ! $ move ! (1 ∷ []) $ heard ! _ (λ is.
            let shown : d.slots ≡ map (direct_slot_entry number) xs = ap (λ (s : St). s.slots) (sym x.1.0) ∙ ap (map (direct_slot_entry number)) (sym is) in
            let own_now : filled_all direct_with_slot_value xs d.slots ≡ xs = ap (filled_all direct_with_slot_value xs) shown ∙ filled-own direct_with_slot_value (direct_slot_entry number) (with_own_slot_value number) xs in
            let G₂ : St → List X = λ w. filled_all direct_with_slot_value xs w.slots in
            let H₂ : List X → St = λ zs. record d { slots = map (direct_slot_entry number) zs } in
            let back₁ : (w : St) → ent 𝓤 (sep 𝓤 (sem 𝓛 ((KeptBy xs).own_at w b o)) (emp 𝓤)) (sem 𝓛 ((Arr (mem Sr) n').own_at (G₂ w) b o)) = λ w. qed 𝓛 (‵ ((KeptBy xs).own_at w b o) ∷ raw (emp 𝓤) ∷ []) ∵ keep ! (0 ∷ []) $ done ! in
            let back₂ : (zs : List X) → ent 𝓤 (sep 𝓤 (sem 𝓛 ((Kept Sr direct_with_slot_value (direct_slot_entry number) xs).own_at zs b o)) (emp 𝓤)) (sem 𝓛 ((KeptBy xs).own_at (H₂ zs) b o)) = λ zs. qed 𝓛 (‵ ((KeptBy xs).own_at (H₂ zs) b o) ∷ raw (emp 𝓤) ∷ []) ∵ keep ! (0 ∷ []) $ done ! in
            -- [what follows; the tokens; the slice; the right; the aged borrow; what is left; obs; auth]
            move ! (2 ∷ []) $ fsplit ! $ fsplit ! $ feq_l ! (λ spelled. pure_l ! (room Sr n') (λ rm.
            lands_as ! (ap only spelled) refl (tt, (tt, (record { fits = rm.0 }, tt))) $
            sets ! (addr ! (from ! (fld ! refl (hop ! (look_in_at ! 2 (sub ! 0 refl (whole !))) (stop !))))) refl (tt, tt) $
            sets ! (agg ! (no_more !)) refl (tt, tt) $
            sets ! (agg ! (and_then ! (get ! refl) (and_then ! (get ! refl) (no_more !)))) refl (tt, (tt, (tt, tt))) $
            fsplit ! $ rewrite ! 0 (λ (zs : List X). ‵ (fobs ρ ((coded_list Sr.coded).code zs))) (heres_id Sr xs) refl $
            -- [obs; the borrow; what follows; the tokens; the right; the aged borrow; what is left; obs; auth]
            move ! (3 ∷ []) $ split ! $ move ! (2 ∷ 3 ∷ 0 ∷ []) $ open_ref ! tt (Arr (mem Sr) n') {x = xs} {b = b} {o = o} $
            rewrite ! 0 (λ (zs : List X). ‵ ((Arr (mem Sr) n').own_at zs b o)) (sym own_now) refl $
            nothing ! $ move ! (2 ∷ 3 ∷ 4 ∷ 1 ∷ 0 ∷ []) $ group ! 5 $
            use1 𝓛 (later (some (λ (ν : GName). ‵ (fobs ν (Ar.coded.code d)) ⊛ ‵ (fbor κ (Borrowed (KeptBy xs) b o ν)) ⊛ ‵ (flft κ (right q)) ⊛ ‵ (follows (Array Sr 0) Ar ρ ν G₂))))
            (takes_part 𝓛 (Arr (mem Sr) n') (KeptBy xs) G₂ κ (right q) b o b o ρ (emp 𝓤) back₁ ((coded_list Sr.coded).code xs) ((coded_list Sr.coded).code xs) d) $ await ! tt $ pick ! (λ ν. split3 ! $
            -- [obs; the borrow; half with what follows; the others; what follows; the right; the aged borrow; what is left; obs; auth]
            move ! (2 ∷ []) $ split ! $ move ! (5 ∷ 1 ∷ []) $
            use2 𝓛 (‵ (follows Slr Ar δ ν (λ w. with_slots rP rT Sr rS rI rG items with_items t (filled_all direct_with_slot_value xs w.slots)))) (follows_then 𝓛 Slr (Array Sr 0) Ar (with_slots rP rT Sr rS rI rG items with_items t) G₂ δ ρ ν) $
            rewrite ! 0 (λ (zs : List X). ‵ (follows Slr Ar δ ν (λ w. with_slots rP rT Sr rS rI rG items with_items t (filled_all direct_with_slot_value zs w.slots)))) is refl $
            -- [what follows; half; obs; the borrow; the others; the right; the aged borrow; what is left; obs; auth]
            move ! (6 ∷ 8 ∷ 9 ∷ 5 ∷ 0 ∷ 7 ∷ []) $ group ! 6 $
            use1 𝓛 (later (‵ (flft κ (left q)) ⊛ ‵ (follows Ar Ar γ ν (direct_with_values_of d))))
            (closes_following 𝓛 (mem Ar) (mem Slr) (mem Ar) (put t es) (direct_with_values_of d) κ (left q) rb ro rb (ro + off) γ δ ν (Back a) (back a x.1.0 x.1.1) n (Ar.coded.code d) (Ar.coded.code d)) $ await ! tt $ split ! $
            -- [half; what follows; half; obs; the borrow; the others]
            move ! (0 ∷ 2 ∷ []) $ use2 𝓛 (‵ (flft κ q)) (𝓛.lfts.lft_join κ q) $
            -- [the token; what follows; obs; the borrow; the others]
            move ! (2 ∷ 3 ∷ 0 ∷ []) $ open_ref ! tt (KeptBy xs) {x = d} {b = b} {o = o} $
            rewrite ! 0 (λ (zs : List X). ‵ ((Arr (mem Sr) n').own_at zs b o)) (ap (filled_all direct_with_slot_value xs) shown) refl $
            nothing ! $ move ! (2 ∷ 3 ∷ 4 ∷ 1 ∷ 0 ∷ []) $ group ! 5 $
            use1 𝓛 (later (some (λ (μ : GName). ‵ (fobs μ ((coded_list Sr.coded).code xs)) ⊛ ‵ (fbor κ (Borrowed (Kept Sr direct_with_slot_value (direct_slot_entry number) xs) b o μ)) ⊛ ‵ (flft κ q) ⊛ ‵ (after (KeptBy xs) (Kept Sr direct_with_slot_value (direct_slot_entry number) xs) ν μ H₂))))
            (takes_part 𝓛 (KeptBy xs) (Kept Sr direct_with_slot_value (direct_slot_entry number) xs) H₂ κ q b o b o ν (emp 𝓤) back₂ (Ar.coded.code d) (Ar.coded.code d) xs) $ await ! tt $ pick ! (λ μ. split3 ! $
            move ! (2 ∷ []) $ split ! $ move ! (1 ∷ []) $ drop ! $
            -- [the token; obs; the borrow; what follows; the others]
            let lent : LentSlots P.Denot T.Denot X I.Denot G.Denot = record { at = block_ptr b o; mark = record {}; name = μ; tie = ν; now = xs } in
            let out : Val = vstruct (vcons (vptr b o) (vcons (vstruct vnil) vnil)) in
            move ! (1 ∷ 2 ∷ []) $ fjoin ! $ pure_i ! (room Sr n') (tt, tt) rm $ fjoin ! $ use0 𝓛 (‵ ((Struct (shape L-of)).own_val (block_ptr b o, (tt, tt)) (out ∷ []))) (made b o) $ fjoin ! $
            returns ! (look_at ! 0 refl) $ free_all ! refl $ keep ! (0 ∷ 1 ∷ 2 ∷ 3 ∷ []) $
            suffices ! _ (ends_at 𝓛 end stayed spec bound out lent (tt, tt) (tt, tt)) $
            nothing ! $ nothing ! $ fjoin ! $ join ! $ move ! (1 ∷ 3 ∷ []) $ join ! $ join ! $ frame ! $ says ! (sym shown) $ done !))))))))))))

    meets : (𝓣 : Tables 𝓤 H) → Triple 𝓤 (𝓣.C (G-fn.Key.name args)) Called → Meets 𝓛 end.signature (WpFn 𝓤 H 𝓣.C 𝓣.Λ function) (closing 𝓛 end spec)
    meets 𝓣 callee =
        walk_Meets 𝓛 end stayed (Goes-spent_ref 𝓛 6 (0 ∷ []) tt (plain (λ _. Ar)), tt) spec (WpFn 𝓤 H 𝓣.C 𝓣.Λ function) (WpFn-mono 𝓤 H 𝓛.laws 𝓣 function)
        (walked 𝓛 end stayed spec (WpFn 𝓤 H 𝓣.C 𝓣.Λ function) (λ κs. (mut_vals, tt)) (λ κs. (mut_Tells (named 0) κs.0 Ar, tt))
        (λ κs qs bounds a g are. walk κs qs bounds a.0.ref_ptr.0 a.0.ref_ptr.1 a.0.ghost_name a.0.now 𝓣.C 𝓣.Λ (fm_of 𝓤 H 𝓛.laws 𝓣) callee))

  module _ (LP : Laws P) (LT : Laws T) (LS : Laws S) (LI : Laws I) (LG : Laws G) (laws : StackLaws) {M : Type 1} (𝓤 : Ura M) (𝓛 : Logic 𝓤) (𝓜 : Model 𝓤 𝓛.H) (𝓡 : Running 𝓤 𝓛.H 𝓜) where
    -- the function meets its contract where the one that it calls does
    holds : Wired 𝓡.env code.code
        → Meets 𝓛 (G-fn.signature P T S I G) (𝓡.run (𝓡.env (G-fn.Key.name args))) (called_spec LP LT LS LI LG laws 𝓛 𝓜.mem 𝓡.returns)
        → Meets 𝓛 end.signature (𝓡.run (𝓡.env (#self args))) (closing 𝓛 end (spec LP LT LS LI LG laws 𝓛 𝓜.mem 𝓡.returns))
    unfolding tables_of
    holds wired callee =
        let 𝓣 : Tables 𝓤 𝓛.H = tables_of 𝓤 𝓛.H 𝓜 (tables 𝓤 𝓛.H 𝓜 𝓡 𝓡.env) in
        entered 𝓤 𝓛.H (triple_of 𝓛 end.signature (closing 𝓛 end (spec LP LT LS LI LG laws 𝓛 𝓜.mem 𝓡.returns))) 𝓣.C 𝓣.Λ (#self args) function
        (code.unfolded 𝓤 𝓛.H 𝓜 𝓡 wired (P, (T, (S, (I, (G, tt))))) P-Ptr-dict P-Debug-dict P-Hash-dict P-Eq-dict
        P-PartialEq-dict P-Clone-dict P-PartialOrd-dict P-Ord-dict P-Recast-dict P-Inx-PtrInx-dict P-Inx-Debug-dict
        P-Inx-Hash-dict P-Inx-Eq-dict P-Inx-PartialEq-dict P-Inx-Clone-dict P-Inx-PartialOrd-dict P-Inx-Ord-dict
        P-Gen-PtrGen-dict P-Gen-Debug-dict P-Gen-Hash-dict P-Gen-Eq-dict P-Gen-PartialEq-dict P-Gen-Clone-dict
        P-Gen-PartialOrd-dict P-Gen-Ord-dict S-NonZeroInxGenericStack-dict)
        (meets LP LT LS LI LG laws 𝓛 𝓜.mem 𝓡.returns 𝓣 callee)

pub lend_slots_spec : {M : Type 1} → stated.statement M
lend_slots_spec 𝓤 𝓛 𝓜 𝓡 wired P T S I G LP LT LS LI LG CP CI CG P-Ptr P-Ptr-dict P-Debug P-Debug-dict P-Hash P-Hash-dict
    P-Eq P-Eq-dict P-PartialEq P-PartialEq-dict P-Clone P-Clone-dict P-PartialOrd P-PartialOrd-dict P-Ord P-Ord-dict
    P-Recast P-Recast-dict P-Inx-PtrInx P-Inx-PtrInx-dict P-Inx-Debug P-Inx-Debug-dict P-Inx-Hash P-Inx-Hash-dict
    P-Inx-Eq P-Inx-Eq-dict P-Inx-PartialEq P-Inx-PartialEq-dict P-Inx-Clone P-Inx-Clone-dict P-Inx-PartialOrd
    P-Inx-PartialOrd-dict P-Inx-Ord P-Inx-Ord-dict P-Gen-PtrGen P-Gen-PtrGen-dict P-Gen-Debug P-Gen-Debug-dict
    P-Gen-Hash P-Gen-Hash-dict P-Gen-Eq P-Gen-Eq-dict P-Gen-PartialEq P-Gen-PartialEq-dict P-Gen-Clone P-Gen-Clone-dict
    P-Gen-PartialOrd P-Gen-PartialOrd-dict P-Gen-Ord P-Gen-Ord-dict S-NonZeroInxGenericStack
    S-NonZeroInxGenericStack-dict m0 m1 m2 m3 m4 m5 m6 m7 m8 m9 m10 m11 m12 m13 m14 m15 m16 m17 m18 m19 m20 m21 m22 m23
    m24 m25 =
    holds P T S I G P-Ptr P-Ptr-dict P-Debug P-Debug-dict P-Hash P-Hash-dict P-Eq P-Eq-dict P-PartialEq P-PartialEq-dict
    P-Clone P-Clone-dict P-PartialOrd P-PartialOrd-dict P-Ord P-Ord-dict P-Recast P-Recast-dict P-Inx-PtrInx
    P-Inx-PtrInx-dict P-Inx-Debug P-Inx-Debug-dict P-Inx-Hash P-Inx-Hash-dict P-Inx-Eq P-Inx-Eq-dict P-Inx-PartialEq
    P-Inx-PartialEq-dict P-Inx-Clone P-Inx-Clone-dict P-Inx-PartialOrd P-Inx-PartialOrd-dict P-Inx-Ord
    P-Inx-Ord-dict P-Gen-PtrGen P-Gen-PtrGen-dict P-Gen-Debug P-Gen-Debug-dict P-Gen-Hash P-Gen-Hash-dict P-Gen-Eq
    P-Gen-Eq-dict P-Gen-PartialEq P-Gen-PartialEq-dict P-Gen-Clone P-Gen-Clone-dict P-Gen-PartialOrd
    P-Gen-PartialOrd-dict P-Gen-Ord P-Gen-Ord-dict S-NonZeroInxGenericStack S-NonZeroInxGenericStack-dict LP LT LS
    LI LG
    (record { of_items = m25.items_with_items; of_room = m25.room_with_items; of_limit = m25.limit_with_items }) 𝓤 𝓛 𝓜 𝓡 wired
    (met 𝓤 𝓛 𝓜 𝓡 (code.calls-triple_arena_direct_arena::direct_arena::DirectArena::slice_of 𝓡.env wired) P T S I G LP LT LS LI LG CP CI
    CG P-Ptr P-Ptr-dict P-Debug P-Debug-dict P-Hash P-Hash-dict P-Eq P-Eq-dict P-PartialEq P-PartialEq-dict P-Clone
    P-Clone-dict P-PartialOrd P-PartialOrd-dict P-Ord P-Ord-dict P-Recast P-Recast-dict P-Inx-PtrInx
    P-Inx-PtrInx-dict P-Inx-Debug P-Inx-Debug-dict P-Inx-Hash P-Inx-Hash-dict P-Inx-Eq P-Inx-Eq-dict P-Inx-PartialEq
    P-Inx-PartialEq-dict P-Inx-Clone P-Inx-Clone-dict P-Inx-PartialOrd P-Inx-PartialOrd-dict P-Inx-Ord
    P-Inx-Ord-dict P-Gen-PtrGen P-Gen-PtrGen-dict P-Gen-Debug P-Gen-Debug-dict P-Gen-Hash P-Gen-Hash-dict P-Gen-Eq
    P-Gen-Eq-dict P-Gen-PartialEq P-Gen-PartialEq-dict P-Gen-Clone P-Gen-Clone-dict P-Gen-PartialOrd
    P-Gen-PartialOrd-dict P-Gen-Ord P-Gen-Ord-dict S-NonZeroInxGenericStack S-NonZeroInxGenericStack-dict m0 m1 m2
    m3 m4 m5 m6 m7 m8 m9 m10 m11 m12 m13 m14 m15 m16 m17 m18 m19 m20 m21 m22 m23 m24 m25)
