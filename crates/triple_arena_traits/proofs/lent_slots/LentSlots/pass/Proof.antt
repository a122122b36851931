-- `pass` lends the value of the first slot, if it has one, and goes past the slot. It is proved by hand, since it follows a
-- raw pointer. The loan of the slots is cut in that of the first and that of the others (`mend` says how the two make one
-- again); the first slot is opened and lent to `live_value_mut`, and what that lends, or that it lends nothing, closes the
-- slot (`shut`). The names of what the bounds bring are those of the function's statement, as `rt check --generated` prints
-- it. Assumes `Logic`.
use mathlib.Core.Path.{◌≡◌, refl, sym, ap, subst, ◌∙◌}
use mathlib.Core.Option as Core
use Prim.Native.Nat.{ℕ, suc, ◌+◌, ◌*◌, ◌<◌, ◌^◌}
use native.Mathlib.Nat.{one-mul, suc-mul}
use native.Mathlib.Omega.{arith}
use mathlib.Core.List.{List, [], ◌∷◌}
use lib.ListN.{length}
use seplogic.Ra.Ura.{Ura}
use base.Fraction.{full_share, left, right}
use mir.Syntax.{Fn, Args, Kind, Dict, dcons, dnil, Ty, Sym, named, a_type, ty_ptr, ty_struct, tcons, tnil}
use mir.MapTy.{inst_fn}
use mir.Raw.{raw as bare}
use mir.Val.{Val, vptr, vstruct, vcons, vnil}
use base.Logic.{SProp, ent, emp, sep, via, snd∗, mono_r, id⊢}
use base.Fml.{Lft, GName, Share, fsep, ftrue, flft, fobs, fbor, fauth, fres, fat, flent}
use base.Stored.{coded_list}
use prog.Model.{Model}
use prog.Wired.{Wired}
use prog.Memory.{Memory}
use prog.Routine.{Routine}
use prog.Wp.{Env, Calls, Loops, WpFn, Tables}
use types.Logic.{Logic, sem}
use contract.Monad.{fact, fact_use, Fun}
use contract.Running.{Running, tables, tables_of}
use contract.BorrowLft.{◌⊑◌}
use contract.Lifetimes.{Lfts, Shares, AllOutlive, lft_at}
use sound.WpLaws.{WpFn-mono, FmC, fm_of}
use types.Kit.{Item, ‵, ◌⊛◌, some, later, await, at_ret, updating, now, ◌$◌, ◌∵◌, !, qed, move, keep, raw, use0, use1, use2, drop, split, split3, join, group, pick, rewrite, fsplit, fsplit3, fjoin, fjoin3, fpack, feq_i, feq_l, frame, suffices, done}
use types.Part.{whole, sub, look_in, store_in}
use types.Run.{stop, fld, load, addr, lit, size_lit, bin, of_opd, assigns, first, blocks, exec, returns, enter, and_then, no_more}
use types.ByLocal.{alloc_all, pass_all, free_all, look_at, get, through, sets, sets_last, env, lands_as}
use types.SemTy.{Arr, SemTy, Body as Borrowed}
use types.Follow.{takes_two, closes_following, after, after₂}
use types.Late.{deep, ages, bor_new_deep}
use types.Mut.{open_ref}
use types.Tokens.{name_new}
use denote.Follow.{follows, follows_by, follows_if, follows_said}
use denote.Laws.{shows}
use denote.RattleType.{RattleType, owns}
use denote.Memory.{mem, cell_at}
use denote.Param.{param, copied, bounded}
use denote.Param.Laws.{Laws, param_laws, copied_laws, of_field, row_shared}
use denote.Struct.Laws.{mut_ref_laws}
use denote.Struct.Field.{mut_ref_field}
use denote.Param.Shared.{mut_ref_shared}
use Rattle.std.proofs.option.Option.TheLaws.{the_row_laws as option_laws}
use ghost.Rules.{aged}
use denote.RawPtr.{Ptr, block_ptr, in_a_block}
use denote.Ref.{MutBor, MutRef, mut_vals, mut_Tells}
use denote.Shadow.{pure_l, pure_i, makes_shadow}
use denote.Signature.{plain, named_lft}
use denote.Slice.{Room, room}
use denote.Steps.{nothing, opens, closes, peeks, heard}
use denote.Struct.Struct.{Struct}
use denote.Struct.Owning.{Owning, shape}
use denote.Triple.Call.{calls_at}
use denote.Triple.Clauses.{Clauses, Ended, closing, lasts}
use denote.Triple.Entry.{on_entry}
use denote.Triple.Spec.{Meets, Spec, triple_of}
use denote.Triple.Statement.{Contract, Triple}
use denote.Triple.Table.{entered}
use denote.Triple.Walked.{says, Stays, stay_ref, walk_of, walked, ends_at, Goes-ref, walk_Meets}
use Rattle.std.proofs.VecSteps.Shapes.{after as after_body}
use Rattle.std.proofs.Common.{Option, Some, None}
use Rattle.std.specs.Option.{option_map, option_copied_mut}
use Rattle.std.specs.contracts.option.Option as O-type
use Rattle.triple_arena_traits.specs.DisjointEntries.{value_of}
use Rattle.triple_arena_traits.specs.Kept.{kept, kept_all, Kept, kept_at}
use Rattle.triple_arena_traits.proofs.Listing.{first_of}
use Rattle.triple_arena_traits.proofs.KeptSlots.{kept-self, filled-own, kept-written}
use Rattle.triple_arena_traits.specs.declared.lent_slots.LentSlots.{LentSlots}
use Rattle.triple_arena_traits.specs.contracts.lent_slots.LentSlots as L-type
use Rattle.triple_arena_traits.specs.contracts.lent_slots.LentSlots.pass as F
use Rattle.triple_arena_traits.specs.contracts.entry_slot.EntrySlot.live_value_mut as G-fn
use Rattle.triple_arena_traits.proofs.entry_slot.EntrySlot.live_value_mut.Met.{met}
use Rattle.triple_arena_traits.specs.contracts.lent_slots.LentSlots.pass.Key.{name as #self}
use Rattle.triple_arena_traits.proofs.lent_slots.LentSlots.TheLaws as L-laws
use Rattle.triple_arena_traits.proofs.lent_slots.LentSlots.pass.Statement as stated
use Rattle.triple_arena_traits.proofs.lent_slots.LentSlots.pass.Code as code
use Rattle.std.specs.declared.clone.Clone as gClone
use Rattle.std.specs.declared.fmt.Debug as gDebug
use Rattle.triple_arena_traits.specs.declared.entry_slot.EntrySlot as gEntrySlot
use Rattle.std.specs.declared.cmp.Eq as gEq
use Rattle.std.specs.declared.hash.Hash as gHash
use Rattle.std.specs.declared.cmp.Ord as gOrd
use Rattle.std.specs.declared.cmp.PartialEq as gPartialEq
use Rattle.std.specs.declared.cmp.PartialOrd as gPartialOrd
use Rattle.triple_arena_ptr.specs.declared.ptr.Ptr as gPtr
use Rattle.triple_arena_ptr.specs.declared.generation.PtrGen as gPtrGen
use Rattle.triple_arena_ptr.specs.declared.inx.PtrInx as gPtrInx
use Rattle.triple_arena_base.specs.declared.recast.Recast as gRecast

-- the name of the mark's type
abbrev phantom : Sym
phantom = 99 ∷ 111 ∷ 114 ∷ 101 ∷ 58 ∷ 58 ∷ 109 ∷ 97 ∷ 114 ∷ 107 ∷ 101 ∷ 114 ∷ 58 ∷ 58 ∷ 80 ∷ 104 ∷ 97 ∷ 110 ∷ 116 ∷ 111 ∷ 109 ∷ 68 ∷ 97 ∷ 116 ∷ 97 ∷ []

module _ (P T L I G : RattleType) (P-Ptr : gPtr.Ghosts P.Denot I.Denot G.Denot) (P-Ptr-dict : Dict)
    (P-Debug : gDebug.Ghosts P.Denot) (P-Debug-dict : Dict) (P-Hash : gHash.Ghosts P.Denot) (P-Hash-dict : Dict)
    (P-Eq : gEq.Ghosts P.Denot) (P-Eq-dict : Dict) (P-PartialEq : gPartialEq.Ghosts P.Denot) (P-PartialEq-dict : Dict)
    (P-Clone : gClone.Ghosts P.Denot) (P-Clone-dict : Dict) (P-PartialOrd : gPartialOrd.Ghosts P.Denot)
    (P-PartialOrd-dict : Dict) (P-Ord : gOrd.Ghosts P.Denot) (P-Ord-dict : Dict)
    (P-Recast : gRecast.Ghosts P.Denot P.Denot) (P-Recast-dict : Dict) (P-Inx-PtrInx : gPtrInx.Ghosts I.Denot)
    (P-Inx-PtrInx-dict : Dict) (P-Inx-Debug : gDebug.Ghosts I.Denot) (P-Inx-Debug-dict : Dict)
    (P-Inx-Hash : gHash.Ghosts I.Denot) (P-Inx-Hash-dict : Dict) (P-Inx-Eq : gEq.Ghosts I.Denot) (P-Inx-Eq-dict : Dict)
    (P-Inx-PartialEq : gPartialEq.Ghosts I.Denot) (P-Inx-PartialEq-dict : Dict) (P-Inx-Clone : gClone.Ghosts I.Denot)
    (P-Inx-Clone-dict : Dict) (P-Inx-PartialOrd : gPartialOrd.Ghosts I.Denot) (P-Inx-PartialOrd-dict : Dict)
    (P-Inx-Ord : gOrd.Ghosts I.Denot) (P-Inx-Ord-dict : Dict) (P-Gen-PtrGen : gPtrGen.Ghosts G.Denot)
    (P-Gen-PtrGen-dict : Dict) (P-Gen-Debug : gDebug.Ghosts G.Denot) (P-Gen-Debug-dict : Dict)
    (P-Gen-Hash : gHash.Ghosts G.Denot) (P-Gen-Hash-dict : Dict) (P-Gen-Eq : gEq.Ghosts G.Denot) (P-Gen-Eq-dict : Dict)
    (P-Gen-PartialEq : gPartialEq.Ghosts G.Denot) (P-Gen-PartialEq-dict : Dict) (P-Gen-Clone : gClone.Ghosts G.Denot)
    (P-Gen-Clone-dict : Dict) (P-Gen-PartialOrd : gPartialOrd.Ghosts G.Denot) (P-Gen-PartialOrd-dict : Dict)
    (P-Gen-Ord : gOrd.Ghosts G.Denot) (P-Gen-Ord-dict : Dict)
    (L-EntrySlot : gEntrySlot.Ghosts L.Denot P.Denot T.Denot I.Denot G.Denot) (L-EntrySlot-dict : Dict) where
  abbrev rP : RattleType
  rP = copied 0 P

  abbrev rT : RattleType
  rT = param 1 T

  abbrev rL : RattleType
  rL = param 2 L

  abbrev rI : RattleType
  rI = copied 3 I

  abbrev rG : RattleType
  rG = copied 4 G

  abbrev X : Type 0
  X = L.Denot

  -- lent slots, and how they own
  abbrev Ls : Type 0
  Ls = LentSlots P.Denot T.Denot L.Denot I.Denot G.Denot

  abbrev kinds : List Kind
  kinds = a_type ∷ a_type ∷ a_type ∷ a_type ∷ a_type ∷ []

  abbrev args : Args
  args = bounded kinds (P, (T, (L, (I, (G, tt))))) (dcons P-Ptr-dict (dcons P-Debug-dict (dcons P-Hash-dict (dcons
      P-Eq-dict (dcons P-PartialEq-dict (dcons P-Clone-dict (dcons P-PartialOrd-dict (dcons P-Ord-dict (dcons
      P-Recast-dict (dcons P-Inx-PtrInx-dict (dcons P-Inx-Debug-dict (dcons P-Inx-Hash-dict (dcons P-Inx-Eq-dict (dcons
      P-Inx-PartialEq-dict (dcons P-Inx-Clone-dict (dcons P-Inx-PartialOrd-dict (dcons P-Inx-Ord-dict (dcons
      P-Gen-PtrGen-dict (dcons P-Gen-Debug-dict (dcons P-Gen-Hash-dict (dcons P-Gen-Eq-dict (dcons P-Gen-PartialEq-dict
      (dcons P-Gen-Clone-dict (dcons P-Gen-PartialOrd-dict (dcons P-Gen-Ord-dict (dcons L-EntrySlot-dict
      dnil))))))))))))))))))))))))))

  -- those of the call
  abbrev called_args : Args
  called_args = bounded kinds (L, (P, (T, (I, (G, tt))))) (dcons L-EntrySlot-dict (dcons P-Ptr-dict (dcons P-Debug-dict
      (dcons P-Hash-dict (dcons P-Eq-dict (dcons P-PartialEq-dict (dcons P-Clone-dict (dcons P-PartialOrd-dict (dcons
      P-Ord-dict (dcons P-Recast-dict (dcons P-Inx-PtrInx-dict (dcons P-Inx-Debug-dict (dcons P-Inx-Hash-dict (dcons
      P-Inx-Eq-dict (dcons P-Inx-PartialEq-dict (dcons P-Inx-Clone-dict (dcons P-Inx-PartialOrd-dict (dcons
      P-Inx-Ord-dict (dcons P-Gen-PtrGen-dict (dcons P-Gen-Debug-dict (dcons P-Gen-Hash-dict (dcons P-Gen-Eq-dict (dcons
      P-Gen-PartialEq-dict (dcons P-Gen-Clone-dict (dcons P-Gen-PartialOrd-dict (dcons P-Gen-Ord-dict
      dnil))))))))))))))))))))))))))

  abbrev function : Fn
  function = inst_fn args code.function

  abbrev end : Ended
  end = F.ended P T L I G P-Ptr P-Ptr-dict P-Debug P-Debug-dict P-Hash P-Hash-dict P-Eq P-Eq-dict P-PartialEq
      P-PartialEq-dict P-Clone P-Clone-dict P-PartialOrd P-PartialOrd-dict P-Ord P-Ord-dict P-Recast P-Recast-dict
      P-Inx-PtrInx P-Inx-PtrInx-dict P-Inx-Debug P-Inx-Debug-dict P-Inx-Hash P-Inx-Hash-dict P-Inx-Eq P-Inx-Eq-dict
      P-Inx-PartialEq P-Inx-PartialEq-dict P-Inx-Clone P-Inx-Clone-dict P-Inx-PartialOrd P-Inx-PartialOrd-dict P-Inx-Ord
      P-Inx-Ord-dict P-Gen-PtrGen P-Gen-PtrGen-dict P-Gen-Debug P-Gen-Debug-dict P-Gen-Hash P-Gen-Hash-dict P-Gen-Eq
      P-Gen-Eq-dict P-Gen-PartialEq P-Gen-PartialEq-dict P-Gen-Clone P-Gen-Clone-dict P-Gen-PartialOrd
      P-Gen-PartialOrd-dict P-Gen-Ord P-Gen-Ord-dict L-EntrySlot L-EntrySlot-dict

  abbrev called_end : Ended
  called_end = G-fn.ended L P T I G L-EntrySlot L-EntrySlot-dict P-Ptr P-Ptr-dict P-Debug P-Debug-dict P-Hash
      P-Hash-dict P-Eq P-Eq-dict P-PartialEq P-PartialEq-dict P-Clone P-Clone-dict P-PartialOrd P-PartialOrd-dict P-Ord
      P-Ord-dict P-Recast P-Recast-dict P-Inx-PtrInx P-Inx-PtrInx-dict P-Inx-Debug P-Inx-Debug-dict P-Inx-Hash
      P-Inx-Hash-dict P-Inx-Eq P-Inx-Eq-dict P-Inx-PartialEq P-Inx-PartialEq-dict P-Inx-Clone P-Inx-Clone-dict
      P-Inx-PartialOrd P-Inx-PartialOrd-dict P-Inx-Ord P-Inx-Ord-dict P-Gen-PtrGen P-Gen-PtrGen-dict P-Gen-Debug
      P-Gen-Debug-dict P-Gen-Hash P-Gen-Hash-dict P-Gen-Eq P-Gen-Eq-dict P-Gen-PartialEq P-Gen-PartialEq-dict
      P-Gen-Clone P-Gen-Clone-dict P-Gen-PartialOrd P-Gen-PartialOrd-dict P-Gen-Ord P-Gen-Ord-dict

  abbrev Lo : Lfts 7 → Owning
  Lo κs = L-type.the_type (named_lft 7 1 tt κs) rP rT rL rI rG P-Ptr P-Debug P-Hash P-PartialEq P-PartialOrd P-Ord
      P-Recast P-Inx-PtrInx P-Inx-Debug P-Inx-Hash P-Inx-PartialEq P-Inx-PartialOrd P-Inx-Ord P-Gen-PtrGen P-Gen-Debug
      P-Gen-Hash P-Gen-PartialEq P-Gen-PartialOrd P-Gen-Ord L-EntrySlot

  abbrev Lr : Lfts 7 → RattleType
  Lr κs = L-type.the_row (named_lft 7 1 tt κs) rP rT rL rI rG P-Ptr P-Debug P-Hash P-PartialEq P-PartialOrd P-Ord
      P-Recast P-Inx-PtrInx P-Inx-Debug P-Inx-Hash P-Inx-PartialEq P-Inx-PartialOrd P-Inx-Ord P-Gen-PtrGen P-Gen-Debug
      P-Gen-Hash P-Gen-PartialEq P-Gen-PartialOrd P-Gen-Ord L-EntrySlot

  abbrev stayed : Stays end.signature.params end.kept
  stayed = (stay_ref (0 ∷ []) tt (plain Lr), tt)

  abbrev entry : X → Option (ℕ × T.Denot)
  entry = L-EntrySlot.entry

  abbrev with_value : X → T.Denot → X
  with_value = L-EntrySlot.with_value

  -- what is required
  abbrev Asks : Ls → Type 0
  Asks d = 0 < length d.now

  -- this slot in memory, whatever its value
  abbrev One : X → SemTy
  One x = record { rep = X; coded = rL.coded; size = 0; own_at = λ w b o. (mem rL).own_at (kept with_value entry x w) b o }

  -- these slots in memory, whatever their values
  abbrev Many : List X → SemTy
  Many xs = Kept rL with_value entry xs

  abbrev name_of : Option (MutBor T.Denot) → Core.Option GName
  name_of None = Core.none
  name_of (Some m) = Core.some m.ghost_name

  -- laws of a slot
  pub record SlotLaws : Type 0 where
    pub own : (x : X) (e : ℕ × T.Denot) → entry x ≡ Some e → with_value x e.1 ≡ x
    pub vacant : (x : X) (v : T.Denot) → entry x ≡ None → with_value x v ≡ x
    pub written : (x : X) (v : T.Denot) → entry (with_value x v) ≡ option_map (λ (e : ℕ × T.Denot). (e.0, v)) (entry x)

  module _ (laws : SlotLaws) {M : Type 1} {𝓤 : Ura M} (𝓛 : Logic 𝓤) where
    open 𝓛 use {H, A}

    -- a slot and those behind it are these slots
    mend : (x : X) (xs : List X) (b o : ℕ) (w : X) (ws : List X) → ent 𝓤 (sep 𝓤 (sem 𝓛 ((One x).own_at w b o)) (sep 𝓤 (sem 𝓛 ((Many xs).own_at ws b (o + (mem rL).size))) (emp 𝓤))) (sem 𝓛 ((Many (x ∷ xs)).own_at (w ∷ ws) b o))
    mend x xs b o w ws = qed 𝓛 (‵ ((mem rL).own_at (kept with_value entry x w) b o) ∷ ‵ ((Arr (mem rL) (length xs)).own_at (kept_all with_value entry xs ws) b (o + (mem rL).size)) ∷ raw (emp 𝓤) ∷ []) ∵
        move ! (1 ∷ []) $ fsplit ! $ feq_l ! (λ e. move ! (1 ∷ 0 ∷ []) $ fjoin ! $ feq_i ! ℕ (suc (length (kept_all with_value entry xs ws))) (suc (length xs)) (ap suc e) $ fjoin ! $ keep ! (0 ∷ []) $ done !)

    -- the value's loan, or none, closes the slot's
    module _ (x : X) (b o : ℕ) (γ δ : GName) (κ : Lft) (q : Share) (n : ℕ) where
      abbrev Open : List (Item 𝓤)
      Open = raw (aged 𝓤 H A n κ q (Borrowed (One x) b o γ)) ∷ ‵ (fobs γ (rL.coded.code x)) ∷ ‵ (fauth γ (rL.coded.code x)) ∷ ‵ (flent (deep n κ) (Borrowed (mem rL) b o δ)) ∷ []

      shut : (r : Option (MutBor T.Denot)) → ent 𝓤 (sep 𝓤 (sem 𝓛 (follows_if rL rT δ (name_of r) (with_value x) x)) (sep 𝓤 (aged 𝓤 H A n κ q (Borrowed (One x) b o γ)) (sep 𝓤 (A.obs γ (rL.coded.code x)) (sep 𝓤 (A.auth γ (rL.coded.code x)) (A.lent (deep n κ) (Borrowed (mem rL) b o δ)))))) (H.⇛ (A.lft κ q))
      unfolding follows_by
      shut (Some m) =
          let back : (w : T.Denot) → ent 𝓤 (sep 𝓤 (sem 𝓛 ((mem rL).own_at (with_value x w) b o)) (emp 𝓤)) (sem 𝓛 ((One x).own_at (with_value x w) b o)) = λ w.
          qed 𝓛 (‵ ((mem rL).own_at (with_value x w) b o) ∷ raw (emp 𝓤) ∷ []) ∵ rewrite ! 0 (λ (z : X). ‵ ((mem rL).own_at z b o)) (sym (kept-written with_value entry laws.written laws.vacant x w)) refl $ keep ! (0 ∷ []) $ done ! in
          qed 𝓛 (‵ (follows rL rT δ m.ghost_name (with_value x)) ∷ Open) ∵ updating ! $ nothing ! $ move ! (2 ∷ 3 ∷ 4 ∷ 5 ∷ 1 ∷ 0 ∷ []) $ group ! 6 $
          use1 𝓛 (later (‵ (flft κ q) ⊛ ‵ (after (One x) (mem rT) γ m.ghost_name (with_value x))))
          (closes_following 𝓛 (One x) (mem rL) (mem rT) (with_value x) (with_value x) κ q b o b o γ δ m.ghost_name (emp 𝓤) back n (rL.coded.code x) (rL.coded.code x)) $ await ! tt $ split ! $ now ! $ keep ! (0 ∷ []) $ done !
      shut None =
          let back : (w : X) → ent 𝓤 (sep 𝓤 (sem 𝓛 ((mem rL).own_at x b o)) (emp 𝓤)) (sem 𝓛 ((One x).own_at x b o)) = λ w.
          qed 𝓛 (‵ ((mem rL).own_at x b o) ∷ raw (emp 𝓤) ∷ []) ∵ rewrite ! 0 (λ (z : X). ‵ ((mem rL).own_at z b o)) (sym (kept-self with_value entry laws.own x)) refl $ keep ! (0 ∷ []) $ done ! in
          qed 𝓛 (‵ (fres δ (rL.coded.code x)) ∷ Open) ∵ updating ! $ name_new ! tt (rL.coded.code x) (λ ν.
          move ! (2 ∷ 1 ∷ []) $ use2 𝓛 (‵ (follows rL rL δ ν (λ _. x))) (follows_said 𝓛 rL δ ν x x) $
          nothing ! $ move ! (3 ∷ 4 ∷ 5 ∷ 6 ∷ 1 ∷ 0 ∷ []) $ group ! 6 $
          use1 𝓛 (later (‵ (flft κ q) ⊛ ‵ (after (One x) (mem rL) γ ν (λ _. x))))
          (closes_following 𝓛 (One x) (mem rL) (mem rL) (λ _. x) (λ _. x) κ q b o b o γ δ ν (emp 𝓤) back n (rL.coded.code x) (rL.coded.code x)) $ await ! tt $ split ! $ now ! $ keep ! (0 ∷ []) $ done !)

  module _ (LP : Laws P) (LT : Laws T) (LL : Laws L) (LI : Laws I) (LG : Laws G) (laws : SlotLaws) {M : Type 1} {𝓤 : Ura M} (𝓛 : Logic 𝓤) (at : Memory → SProp 𝓤) (run : Routine → Fun 𝓤) where
    open 𝓛 use {H, A}

    abbrev spec : Clauses 𝓤 end
    spec = F.clauses P T L I G P-Ptr P-Ptr-dict P-Debug P-Debug-dict P-Hash P-Hash-dict P-Eq P-Eq-dict P-PartialEq
        P-PartialEq-dict P-Clone P-Clone-dict P-PartialOrd P-PartialOrd-dict P-Ord P-Ord-dict P-Recast P-Recast-dict
        P-Inx-PtrInx P-Inx-PtrInx-dict P-Inx-Debug P-Inx-Debug-dict P-Inx-Hash P-Inx-Hash-dict P-Inx-Eq P-Inx-Eq-dict
        P-Inx-PartialEq P-Inx-PartialEq-dict P-Inx-Clone P-Inx-Clone-dict P-Inx-PartialOrd P-Inx-PartialOrd-dict
        P-Inx-Ord P-Inx-Ord-dict P-Gen-PtrGen P-Gen-PtrGen-dict P-Gen-Debug P-Gen-Debug-dict P-Gen-Hash P-Gen-Hash-dict
        P-Gen-Eq P-Gen-Eq-dict P-Gen-PartialEq P-Gen-PartialEq-dict P-Gen-Clone P-Gen-Clone-dict P-Gen-PartialOrd
        P-Gen-PartialOrd-dict P-Gen-Ord P-Gen-Ord-dict L-EntrySlot L-EntrySlot-dict 𝓛 at run

    -- the contract of the call
    abbrev called_spec : Spec 𝓤 (G-fn.signature L P T I G)
    called_spec = G-fn.spec L P T I G L-EntrySlot L-EntrySlot-dict P-Ptr P-Ptr-dict P-Debug P-Debug-dict P-Hash
        P-Hash-dict P-Eq P-Eq-dict P-PartialEq P-PartialEq-dict P-Clone P-Clone-dict P-PartialOrd P-PartialOrd-dict
        P-Ord P-Ord-dict P-Recast P-Recast-dict P-Inx-PtrInx P-Inx-PtrInx-dict P-Inx-Debug P-Inx-Debug-dict P-Inx-Hash
        P-Inx-Hash-dict P-Inx-Eq P-Inx-Eq-dict P-Inx-PartialEq P-Inx-PartialEq-dict P-Inx-Clone P-Inx-Clone-dict
        P-Inx-PartialOrd P-Inx-PartialOrd-dict P-Inx-Ord P-Inx-Ord-dict P-Gen-PtrGen P-Gen-PtrGen-dict P-Gen-Debug
        P-Gen-Debug-dict P-Gen-Hash P-Gen-Hash-dict P-Gen-Eq P-Gen-Eq-dict P-Gen-PartialEq P-Gen-PartialEq-dict
        P-Gen-Clone P-Gen-Clone-dict P-Gen-PartialOrd P-Gen-PartialOrd-dict P-Gen-Ord P-Gen-Ord-dict 𝓛 at run

    abbrev Called : Contract 𝓤
    Called = triple_of 𝓛 (G-fn.signature L P T I G) called_spec

    module _ (κs : Lfts 7) (qs : Shares 7) (within : AllOutlive 7 end.signature.outlives κs) (rb ro : ℕ) (γ : GName) (h : Ls) where
      abbrev κ : Lft
      κ = κs.0

      abbrev q : Share
      q = qs.0

      abbrev κ' : Lft
      κ' = κs.1.0

      abbrev q' : Share
      q' = qs.1.0

      abbrev It : RattleType
      It = Lr κs

      -- the row of the result, and its laws
      abbrev Ref : RattleType
      Ref = MutRef (named 1) κ' rT

      abbrev Opt : RattleType
      Opt = O-type.the_row Ref

      Opt-laws : Laws Opt
      Opt-laws = option_laws Ref (of_field (mut_ref_field (record { mir = named 1; lft = κ' }) rT tt) (mut_ref_laws (record { mir = named 1; lft = κ' }) rT tt) refl (mut_ref_shared (record { mir = named 1; lft = κ' }) rT tt (row_shared rT (param_laws 1 T LT))))

      abbrev self : MutBor Ls
      self = record { ref_ptr = (rb, ro); ghost_name = γ; now = h }

      abbrev bound : (walk_of 𝓛 end stayed spec).Ghost
      bound = ((κs, qs, within, (self, tt), (vptr rb ro ∷ [], tt)), tt)

      abbrev Post : Val → SProp 𝓤
      Post = (walk_of 𝓛 end stayed spec).post bound

      abbrev word : ℕ → ℕ → Val
      word b o = vstruct (vcons (vptr b o) (vcons (vstruct vnil) vnil))

      abbrev written : Ty
      written = ty_struct (L-type.struct (named_lft 7 1 tt κs) rP rT rL rI rG P-Ptr P-Debug P-Hash P-PartialEq
          P-PartialOrd P-Ord P-Recast P-Inx-PtrInx P-Inx-Debug P-Inx-Hash P-Inx-PartialEq P-Inx-PartialOrd P-Inx-Ord
          P-Gen-PtrGen P-Gen-Debug P-Gen-Hash P-Gen-PartialEq P-Gen-PartialOrd P-Gen-Ord L-EntrySlot).name (tcons ty_ptr
          (tcons (ty_struct phantom tnil) tnil))

      -- what lent slots own as a value, which is nothing
      made : (b o : ℕ) → ent 𝓤 (emp 𝓤) (sem 𝓛 ((Struct (shape (Lo κs))).own_val (block_ptr b o, (tt, tt)) (word b o ∷ [])))
      made b o = makes_shadow 𝓛 ((Struct (shape (Lo κs))).own_val (block_ptr b o, (tt, tt)) (word b o ∷ [])) (λ vss. (tt, (tt, ((λ uss. (tt, tt)), tt)))) ((vptr b o ∷ [], (vstruct vnil ∷ [], tt)), (refl, (refl, ((tt, (refl, tt)), tt))))

      -- how long the types last, and what else is required
      abbrev f : Lft → RattleType → SProp 𝓤
      f c Y = fact 𝓤 (c ⊑ Y.lives)

      abbrev c₂ : Lft
      c₂ = lft_at 7 2 tt κs

      abbrev c₃ : Lft
      c₃ = lft_at 7 3 tt κs

      abbrev c₄ : Lft
      c₄ = lft_at 7 4 tt κs

      abbrev c₅ : Lft
      c₅ = lft_at 7 5 tt κs

      abbrev c₆ : Lft
      c₆ = lft_at 7 6 tt κs

      abbrev Facts : SProp 𝓤 → SProp 𝓤
      Facts Z = sep 𝓤 (f c₅ I) (sep 𝓤 (f c₆ G) (sep 𝓤 (f [] P) (sep 𝓤 (f [] I) (sep 𝓤 (f [] G) Z))))

      abbrev Q : SProp 𝓤 → SProp 𝓤
      Q Z = sep 𝓤 (f c₂ P) (sep 𝓤 (f c₃ T) (sep 𝓤 (f c₄ L) (Facts Z)))

      weaken : {Z Z' : SProp 𝓤} → ent 𝓤 Z Z' → ent 𝓤 (Q Z) (Q Z')
      weaken e = mono_r 𝓤 (f c₂ P) (mono_r 𝓤 (f c₃ T) (mono_r 𝓤 (f c₄ L) (mono_r 𝓤 (f c₅ I) (mono_r 𝓤 (f c₆ G) (mono_r 𝓤 (f [] P) (mono_r 𝓤 (f [] I) (mono_r 𝓤 (f [] G) e)))))))

      last : (Z : SProp 𝓤) → ent 𝓤 (Q Z) Z
      last Z =
          let Z₁ = sep 𝓤 (f [] G) Z in let Z₂ = sep 𝓤 (f [] I) Z₁ in let Z₃ = sep 𝓤 (f [] P) Z₂ in let Z₄ = sep 𝓤 (f c₆ G) Z₃ in let Z₅ = sep 𝓤 (f c₅ I) Z₄ in let Z₆ = sep 𝓤 (f c₄ L) Z₅ in let Z₇ = sep 𝓤 (f c₃ T) Z₆ in
          via 𝓤 Z₇ (snd∗ 𝓤 (f c₂ P) Z₇) (via 𝓤 Z₆ (snd∗ 𝓤 (f c₃ T) Z₆) (via 𝓤 Z₅ (snd∗ 𝓤 (f c₄ L) Z₅) (via 𝓤 Z₄ (snd∗ 𝓤 (f c₅ I) Z₄) (via 𝓤 Z₃ (snd∗ 𝓤 (f c₆ G) Z₃) (via 𝓤 Z₂ (snd∗ 𝓤 (f [] P) Z₂) (via 𝓤 Z₁ (snd∗ 𝓤 (f [] I) Z₁) (snd∗ 𝓤 (f [] G) Z)))))))

      -- the third first, as the call has it, and back
      turns : (a b c d : SProp 𝓤) → ent 𝓤 (sep 𝓤 a (sep 𝓤 b (sep 𝓤 c d))) (sep 𝓤 c (sep 𝓤 a (sep 𝓤 b d)))
      turns a b c d = qed 𝓛 ((raw a ⊛ raw b ⊛ raw c ⊛ raw d) ∷ []) ∵ split3 ! $ move ! (2 ∷ []) $ split ! $
          move ! (3 ∷ 1 ∷ []) $ join ! $ move ! (2 ∷ 0 ∷ []) $ join ! $ move ! (1 ∷ 0 ∷ []) $ join ! $ done !

      turns_back : (a b c d : SProp 𝓤) → ent 𝓤 (sep 𝓤 c (sep 𝓤 a (sep 𝓤 b d))) (sep 𝓤 a (sep 𝓤 b (sep 𝓤 c d)))
      turns_back a b c d = qed 𝓛 ((raw c ⊛ raw a ⊛ raw b ⊛ raw d) ∷ []) ∵ split3 ! $ move ! (2 ∷ []) $ split ! $
          move ! (2 ∷ 1 ∷ []) $ join ! $ move ! (1 ∷ 0 ∷ []) $ join ! $ move ! (1 ∷ 0 ∷ []) $ join ! $ done !

      nought : ent 𝓤 (fact 𝓤 (Asks h)) (emp 𝓤)
      nought = qed 𝓛 (raw (fact 𝓤 (Asks h)) ∷ []) ∵ drop ! $ nothing ! $ done !

      abbrev others : Item 𝓤
      others = ‵ (flft c₂ qs.1.1.0) ⊛ ‵ (flft c₃ qs.1.1.1.0) ⊛ ‵ (flft c₄ qs.1.1.1.1.0) ⊛ ‵ (flft c₅ qs.1.1.1.1.1.0) ⊛ ‵ (flft c₆ qs.1.1.1.1.1.1.0) ⊛ ‵ ftrue

      abbrev far : SProp 𝓤
      far = sep 𝓤 (A.lft c₅ qs.1.1.1.1.1.0) (sep 𝓤 (A.lft c₆ qs.1.1.1.1.1.1.0) (sem 𝓛 ftrue))

      -- the same, as the call has them
      abbrev others_called : Item 𝓤
      others_called = ‵ (flft c₄ qs.1.1.1.1.0) ⊛ ‵ (flft c₂ qs.1.1.0) ⊛ ‵ (flft c₃ qs.1.1.1.0) ⊛ ‵ (flft c₅ qs.1.1.1.1.1.0) ⊛ ‵ (flft c₆ qs.1.1.1.1.1.1.0) ⊛ ‵ ftrue

      module _ (C : Calls 𝓤 H) (Λ : Loops 𝓤 H) where
        walk : (fm : FmC 𝓤 H 𝓛.laws C) → Triple 𝓤 (C (G-fn.Key.name called_args)) Called → Asks h → ent 𝓤 ((walk_of 𝓛 end stayed spec).pre bound) (WpFn 𝓤 H C Λ function (vptr rb ro ∷ []) Post)
        walk fm callee asked =
            let found = first_of h.now asked in
            let x : X = found.0 in
            let ys : List X = found.1 in
            let xs : List X = x ∷ ys in
            let was : h.now ≡ xs = found.2 in
            let s : ℕ = (mem rL).size in
            let lowers = L-laws.lowers (named_lft 7 1 tt κs) rP rT rL rI rG P-Ptr P-Debug P-Hash P-PartialEq
            P-PartialOrd P-Ord P-Recast P-Inx-PtrInx P-Inx-Debug P-Inx-Hash P-Inx-PartialEq P-Inx-PartialOrd P-Inx-Ord
            P-Gen-PtrGen P-Gen-Debug P-Gen-Hash P-Gen-PartialEq P-Gen-PartialOrd P-Gen-Ord L-EntrySlot (copied_laws 0 P
            LP) (param_laws 1 T LT) (param_laws 2 L LL) (copied_laws 3 I LI) (copied_laws 4 G LG) in
            qed 𝓛 (((‵ (flft κ q) ⊛ ‵ (flft κ' q') ⊛ others) ⊛ ‵ (owns (MutRef (named 0) κ It ∷ []) (self, tt) (vptr rb ro ∷ [], tt))) ∷ raw (Q (fact 𝓤 (Asks h))) ∷ []) ∵ enter ! C Λ function (vptr rb ro ∷ []) _ $
            alloc_all ! (λ l. pass_all ! refl ((tt, tt), tt) $
            let En : Env 𝓤 H = env function.locals l in
            move ! (1 ∷ []) $ use1 𝓛 (raw (sep 𝓤 (f c₄ L) (sep 𝓤 (f c₂ P) (sep 𝓤 (f c₃ T) (Facts (emp 𝓤)))))) (via 𝓤 (Q (emp 𝓤)) (weaken nought) (turns (f c₂ P) (f c₃ T) (f c₄ L) (Facts (emp 𝓤)))) $ move ! (1 ∷ []) $
            split ! $ move ! (1 ∷ []) $ fsplit ! $ fsplit3 ! $ drop ! $
            -- [obs; the borrow; true; the tokens; what is required]
            move ! (3 ∷ []) $ split3 ! $ move ! (2 ∷ []) $ use1 𝓛 others_called (turns (A.lft c₂ qs.1.1.0) (A.lft c₃ qs.1.1.1.0) (A.lft c₄ qs.1.1.1.1.0) far) $ move ! (3 ∷ 4 ∷ 1 ∷ 2 ∷ 0 ∷ []) $
            -- [obs; the borrow; the token; that of 'a; the others; true; what is required]
            opens ! tt It {h = h} rb ro (λ vs. move ! (1 ∷ []) $ peeks ! It _ (shows 𝓛 It) h vs (λ is. fsplit ! $ move ! (1 ∷ []) $
            in_a_block ! h.at (λ p. kept_at rL with_value entry κ' h.name p h.now) (id⊢ 𝓤 _) (λ b o e.
            let spelled : vs ≡ word b o ∷ [] = lowers.val_is h vs is ∙ ap (λ (p : Ptr). lowers.lowered (record h { at = p }) ∷ []) e in
            rewrite ! 2 (λ (ws : List Val). ‵ (cell_at full_share It.mir ws rb ro)) spelled refl $
            fsplit ! $ pure_l ! (room rL (length h.now)) (λ rm. fsplit ! $
            let long : length h.now ≡ suc (length ys) = ap length was in
            let mul : suc (length ys) * s ≡ length ys * s + s = suc-mul (length ys) s in
            let fit : suc (length ys) * s < 2 ^ 63 = subst (λ (k : ℕ). k * s < 2 ^ 63) long rm.1 in
            let once : 1 * s ≡ s = one-mul s in
            let tiny : s < 2 ^ 64 = omega arith in
            let f₁ : 1 * s < 2 ^ 64 = omega arith in
            let on : 1 * s + o ≡ o + s = omega arith in
            let rm' : Room rL (length ys) = (omega (arith, rm.0), omega arith) in
            -- [obs of the slots; their borrow; the fields; the cell; the open borrow; obs; auth; the token of 'a; the others; true; what is required]
            rewrite ! 0 (λ (zs : List X). ‵ (fobs h.name ((coded_list rL.coded).code zs))) was refl $ rewrite ! 1 (λ (zs : List X). ‵ (fbor κ' (Borrowed (Many zs) b o h.name))) was refl $
            -- the code: the first slot's reference, and the pointer past it
            move ! (3 ∷ []) $ use1 𝓛 (‵ (fat full_share written rb ro (word b o))) (𝓛.laws.raw_at full_share written rb ro (word b o)) $
            first ! $ blocks ! $
            sets ! (of_opd ! (load ! (through ! refl (fld ! refl (stop !))) (look_in ! 0 (sub ! 0 refl (whole !))))) refl (tt, tt) $
            sets ! (bin ! (lit ! tt) (size_lit ! (record { fits = tiny })) (record { fits = f₁ })) refl (tt, record { fits = f₁ }) $
            sets ! (bin ! (get ! refl) (get ! refl) tt) refl (tt, tt) $
            assigns ! (of_opd ! (get ! refl)) (through ! refl (fld ! refl (stop !))) (store_in ! 0 (sub ! 0 refl (whole !)) (tt, tt)) $
            sets_last ! (addr ! (through ! refl (stop !))) refl (tt, tt) $
            exec ! C Λ En (after_body 1 function.body) (at_ret En Post) $
            sets ! (of_opd ! (get ! refl)) refl (tt, tt) $
            sets ! (addr ! (through ! refl (stop !))) refl (tt, tt) $
            use1 𝓛 (‵ (fat full_share (bare written) rb ro (word b (1 * s + o)))) (𝓛.laws.at_raw full_share written rb ro (word b (1 * s + o))) $
            rewrite ! 0 (λ (k : ℕ). ‵ (fat full_share (bare written) rb ro (word b k))) on refl $
            -- [the cell; obs of the slots; their borrow; the fields; the open borrow; obs; auth; the token of 'a; the others; true; what is required]
            move ! (7 ∷ []) $ use1 𝓛 (‵ (flft κ' (left q')) ⊛ ‵ (flft κ' (right q'))) (𝓛.lfts.lft_split κ' q') $ split ! $
            move ! (3 ∷ 4 ∷ 0 ∷ []) $ open_ref ! tt (Many xs) {x = xs} {b = b} {o = o} $
            rewrite ! 0 (λ (zs : List X). ‵ ((Arr (mem rL) (length xs)).own_at zs b o)) (filled-own with_value entry laws.own xs) refl $ fsplit ! $ drop ! $ fsplit ! $
            -- [the slot; the rest; the slots' open borrow; obs; auth; half; the cell; the fields; the open borrow; obs; auth; the others; true; what is required]
            rewrite ! 0 (λ (z : X). ‵ ((mem rL).own_at z b o)) (sym (kept-self with_value entry laws.own x)) refl $
            move ! (1 ∷ []) $ feq_i ! ℕ (length ys) (length ys) refl $ fjoin ! $
            rewrite ! 0 (λ (zs : List X). ‵ ((Arr (mem rL) (length ys)).own_at zs b (o + s))) (sym (filled-own with_value entry laws.own ys)) refl $
            nothing ! $ move ! (3 ∷ 4 ∷ 5 ∷ 2 ∷ 1 ∷ 0 ∷ []) $ group ! 6 $
            use1 𝓛 (later (some (λ (γs : GName × GName). (‵ (fobs γs.0 (rL.coded.code x)) ⊛ ‵ (fbor κ' (Borrowed (One x) b o γs.0))) ⊛ (‵ (fobs γs.1 ((coded_list rL.coded).code ys)) ⊛ ‵ (fbor κ' (Borrowed (Many ys) b (o + s) γs.1)))
            ⊛ ‵ (flft κ' (left q')) ⊛ ‵ (after₂ (Many xs) (One x) (Many ys) h.name γs.0 γs.1 (λ w ws. w ∷ ws)))))
            (takes_two 𝓛 (Many xs) (One x) (Many ys) (λ w ws. w ∷ ws) κ' (left q') b o b o b (o + s) h.name (emp 𝓤) (mend laws 𝓛 x ys b o) ((coded_list rL.coded).code xs) ((coded_list rL.coded).code xs) x ys) $ await ! tt $ pick ! (λ γs. split3 ! $
            move ! (2 ∷ []) $ split ! $ move ! (1 ∷ []) $ drop ! $ move ! (1 ∷ []) $ split ! $ move ! (0 ∷ 1 ∷ 2 ∷ []) $
            -- [obs; the borrow of the slot; half; the rest; half; the cell; the fields; the open borrow; obs; auth; the others; true; what is required]
            open_ref ! tt (One x) {x = x} {b = b} {o = o} $
            rewrite ! 0 (λ (z : X). ‵ ((mem rL).own_at z b o)) (kept-self with_value entry laws.own x) refl $
            name_new ! tt (rL.coded.code x) (λ δ.
            let lent_slot : MutBor X = record { ref_ptr = (b, o); ghost_name = δ; now = x } in
            let z : Called.Ghost = (((κ', (c₄, (c₂, (c₃, (c₅, (c₆, tt)))))), (right q', (qs.1.1.1.1.0, (qs.1.1.0, (qs.1.1.1.0, (qs.1.1.1.1.1.0, (qs.1.1.1.1.1.1.0, tt)))))), (within.1.1.1.1.1.1.0, (within.1.1.1.1.1.0, tt)), (lent_slot, tt), (vptr b o ∷ [], tt)), tt) in
            move ! (2 ∷ 1 ∷ []) $ fjoin ! $ fpack ! X (λ y. fsep ((mem rL).own_at y b o) (fauth δ (rL.coded.code y))) x $
            move ! (2 ∷ []) $ ages ! (λ n. move ! (1 ∷ []) $ bor_new_deep ! tt n κ' $
            move ! (3 ∷ 0 ∷ []) $ feq_i ! (List Val) (vptr b o ∷ []) (vptr b o ∷ []) refl $ fjoin3 ! $
            -- [the reference; the right; the aged borrow; obs; auth; the rest; half; the cell; the fields; the open borrow; obs; auth; the others; true; what is required]
            move ! (0 ∷ 13 ∷ []) $ fjoin ! $ move ! (6 ∷ 12 ∷ []) $ join ! $ move ! (0 ∷ 1 ∷ []) $ join ! $ move ! (0 ∷ 11 ∷ []) $ join ! $
            use1 𝓛 (raw (Called.pre z)) (id⊢ 𝓤 _) $
            calls_at ! fm Called callee z (and_then ! (get ! refl) (no_more !)) (λ v.
            use1 𝓛 (later (some (λ (r : Option (MutBor T.Denot)). ((‵ (flft κ' (right q')) ⊛ others_called) ⊛ ‵ (Opt.own_val r (v ∷ []))) ⊛
            some (λ (ws : Unit {0} × Unit {0}). ‵ (lasts called_end (κ', (c₄, (c₂, (c₃, (c₅, (c₆, tt)))))) (lent_slot, tt) ws) ⊛ (‵ (follows_if rL rT δ (name_of r) (with_value x) x) ⊛ raw (fact 𝓤 (option_copied_mut r ≡ value_of (entry x)))))))) (id⊢ 𝓤 _) $
            await ! tt $ pick ! (λ r. split ! $ split ! $
            move ! (2 ∷ []) $ pick ! (λ ws. split ! $ drop ! $ split ! $ move ! (1 ∷ []) $ heard ! _ (λ val.
            -- [what follows; the tokens; the option; the right; the aged borrow; obs; auth; the rest; the cell; the fields; the open borrow; obs; auth]
            move ! (0 ∷ 4 ∷ 5 ∷ 6 ∷ 3 ∷ []) $ group ! 5 $
            use1 𝓛 (later (‵ (flft κ' (left q')))) (shut laws 𝓛 x b o γs.0 δ κ' (left q') n r) $ await ! tt $
            move ! (1 ∷ []) $ split ! $ move ! (2 ∷ 0 ∷ []) $ use2 𝓛 (‵ (flft κ' q')) (𝓛.lfts.lft_join κ' q') $
            move ! (1 ∷ []) $ use1 𝓛 others (turns_back (A.lft c₂ qs.1.1.0) (A.lft c₃ qs.1.1.1.0) (A.lft c₄ qs.1.1.1.1.0) far) $ move ! (1 ∷ 0 ∷ []) $
            -- [the token of 'a; the others; the option; the rest; the cell; the fields; the open borrow; obs; auth]
            move ! (2 ∷ []) $ peeks ! Opt _ (shows 𝓛 Opt) r (v ∷ []) (λ ty.
            lands_as ! refl refl ((Opt-laws.lawful 𝓛).typed r (v ∷ []) ty).0 $
            let new : Ls = record { at = block_ptr b (o + s); mark = record {}; name = γs.1; tie = h.tie; now = ys } in
            move ! (3 ∷ []) $ split ! $ fjoin ! $ pure_i ! (room rL (length ys)) (tt, tt) rm' $ fjoin ! $
            use0 𝓛 (‵ ((Struct (shape (Lo κs))).own_val (block_ptr b (o + s), (tt, tt)) (word b (o + s) ∷ []))) (made b (o + s)) $ fjoin ! $
            -- [the lent slots; the option; the token of 'a; the others; the cell; the fields; the open borrow; obs; auth]
            move ! (4 ∷ 0 ∷ 6 ∷ 7 ∷ 8 ∷ []) $ closes ! tt It new (word b (o + s) ∷ []) rb ro $
            returns ! (look_at ! 0 refl) $ free_all ! refl $ keep ! (0 ∷ 1 ∷ 2 ∷ 4 ∷ 5 ∷ 3 ∷ []) $
            suffices ! _ (ends_at 𝓛 end stayed spec bound v r (new, tt) (tt, tt)) $ says ! (x, was, val) $
            move ! (3 ∷ 4 ∷ []) $ join ! $ move ! (3 ∷ 0 ∷ []) $ join ! $ frame ! $ feq_i ! (List Val) (vptr rb ro ∷ []) (vptr rb ro ∷ []) refl $ fjoin3 ! $ nothing ! $ move ! (1 ∷ 0 ∷ []) $ fjoin ! $ done !)))))))))))))

    meets : (𝓣 : Tables 𝓤 H) → Triple 𝓤 (𝓣.C (G-fn.Key.name called_args)) Called → Meets 𝓛 end.signature (WpFn 𝓤 H 𝓣.C 𝓣.Λ function) (closing 𝓛 end spec)
    meets 𝓣 callee =
        walk_Meets 𝓛 end stayed (Goes-ref 𝓛 7 0 tt (plain Lr), tt) spec (WpFn 𝓤 H 𝓣.C 𝓣.Λ function) (WpFn-mono 𝓤 H 𝓛.laws 𝓣 function)
        (walked 𝓛 end stayed spec (WpFn 𝓤 H 𝓣.C 𝓣.Λ function) (λ κs. (mut_vals, tt)) (λ κs. (mut_Tells (named 0) κs.0 (Lr κs), tt))
        (λ κs qs bounds a g are. let Want = (spec κs a).requires g in
        let On : SProp 𝓤 = on_entry 𝓛 end.signature κs qs a (vptr a.0.ref_ptr.0 a.0.ref_ptr.1 ∷ [], tt) in
        fact_use 𝓤 (Asks a.0.now) (via 𝓤 Want (snd∗ 𝓤 On Want) (last κs qs bounds a.0.ref_ptr.0 a.0.ref_ptr.1 a.0.ghost_name a.0.now (fact 𝓤 (Asks a.0.now)))) (λ asked.
        walk κs qs bounds a.0.ref_ptr.0 a.0.ref_ptr.1 a.0.ghost_name a.0.now 𝓣.C 𝓣.Λ (fm_of 𝓤 H 𝓛.laws 𝓣) callee asked)))

  module _ (LP : Laws P) (LT : Laws T) (LL : Laws L) (LI : Laws I) (LG : Laws G) (laws : SlotLaws) {M : Type 1} (𝓤 : Ura M) (𝓛 : Logic 𝓤) (𝓜 : Model 𝓤 𝓛.H) (𝓡 : Running 𝓤 𝓛.H 𝓜) where
    -- the function meets its contract where the one that it calls does
    holds : Wired 𝓡.env code.code
        → Meets 𝓛 (G-fn.signature L P T I G) (𝓡.run (𝓡.env (G-fn.Key.name called_args))) (called_spec LP LT LL LI LG laws 𝓛 𝓜.mem 𝓡.returns)
        → Meets 𝓛 end.signature (𝓡.run (𝓡.env (#self args))) (closing 𝓛 end (spec LP LT LL LI LG laws 𝓛 𝓜.mem 𝓡.returns))
    unfolding tables_of
    holds wired callee =
        let 𝓣 : Tables 𝓤 𝓛.H = tables_of 𝓤 𝓛.H 𝓜 (tables 𝓤 𝓛.H 𝓜 𝓡 𝓡.env) in
        entered 𝓤 𝓛.H (triple_of 𝓛 end.signature (closing 𝓛 end (spec LP LT LL LI LG laws 𝓛 𝓜.mem 𝓡.returns))) 𝓣.C 𝓣.Λ (#self args) function
        (code.unfolded 𝓤 𝓛.H 𝓜 𝓡 wired (P, (T, (L, (I, (G, tt))))) P-Ptr-dict P-Debug-dict P-Hash-dict P-Eq-dict
        P-PartialEq-dict P-Clone-dict P-PartialOrd-dict P-Ord-dict P-Recast-dict P-Inx-PtrInx-dict P-Inx-Debug-dict
        P-Inx-Hash-dict P-Inx-Eq-dict P-Inx-PartialEq-dict P-Inx-Clone-dict P-Inx-PartialOrd-dict P-Inx-Ord-dict
        P-Gen-PtrGen-dict P-Gen-Debug-dict P-Gen-Hash-dict P-Gen-Eq-dict P-Gen-PartialEq-dict P-Gen-Clone-dict
        P-Gen-PartialOrd-dict P-Gen-Ord-dict L-EntrySlot-dict)
        (meets LP LT LL LI LG laws 𝓛 𝓜.mem 𝓡.returns 𝓣 callee)

pub pass_spec : {M : Type 1} → stated.statement M
pass_spec 𝓤 𝓛 𝓜 𝓡 wired P T L I G LP LT LL LI LG CP CI CG P-Ptr P-Ptr-dict P-Debug P-Debug-dict P-Hash P-Hash-dict P-Eq
    P-Eq-dict P-PartialEq P-PartialEq-dict P-Clone P-Clone-dict P-PartialOrd P-PartialOrd-dict P-Ord P-Ord-dict P-Recast
    P-Recast-dict P-Inx-PtrInx P-Inx-PtrInx-dict P-Inx-Debug P-Inx-Debug-dict P-Inx-Hash P-Inx-Hash-dict P-Inx-Eq
    P-Inx-Eq-dict P-Inx-PartialEq P-Inx-PartialEq-dict P-Inx-Clone P-Inx-Clone-dict P-Inx-PartialOrd
    P-Inx-PartialOrd-dict P-Inx-Ord P-Inx-Ord-dict P-Gen-PtrGen P-Gen-PtrGen-dict P-Gen-Debug P-Gen-Debug-dict
    P-Gen-Hash P-Gen-Hash-dict P-Gen-Eq P-Gen-Eq-dict P-Gen-PartialEq P-Gen-PartialEq-dict P-Gen-Clone P-Gen-Clone-dict
    P-Gen-PartialOrd P-Gen-PartialOrd-dict P-Gen-Ord P-Gen-Ord-dict L-EntrySlot L-EntrySlot-dict m0 m1 m2 m3 m4 m5 m6 m7
    m8 m9 m10 m11 m12 m13 m14 m15 m16 m17 m18 m19 m20 m21 m22 m23 m24 m25 =
    holds P T L I G P-Ptr P-Ptr-dict P-Debug P-Debug-dict P-Hash P-Hash-dict P-Eq P-Eq-dict P-PartialEq P-PartialEq-dict
    P-Clone P-Clone-dict P-PartialOrd P-PartialOrd-dict P-Ord P-Ord-dict P-Recast P-Recast-dict P-Inx-PtrInx
    P-Inx-PtrInx-dict P-Inx-Debug P-Inx-Debug-dict P-Inx-Hash P-Inx-Hash-dict P-Inx-Eq P-Inx-Eq-dict P-Inx-PartialEq
    P-Inx-PartialEq-dict P-Inx-Clone P-Inx-Clone-dict P-Inx-PartialOrd P-Inx-PartialOrd-dict P-Inx-Ord
    P-Inx-Ord-dict P-Gen-PtrGen P-Gen-PtrGen-dict P-Gen-Debug P-Gen-Debug-dict P-Gen-Hash P-Gen-Hash-dict P-Gen-Eq
    P-Gen-Eq-dict P-Gen-PartialEq P-Gen-PartialEq-dict P-Gen-Clone P-Gen-Clone-dict P-Gen-PartialOrd
    P-Gen-PartialOrd-dict P-Gen-Ord P-Gen-Ord-dict L-EntrySlot L-EntrySlot-dict LP LT LL LI LG
    (record { own = m25.with_own_value; vacant = m25.vacant_with_value; written = m25.entry_with_value }) 𝓤 𝓛 𝓜 𝓡 wired
    (met 𝓤 𝓛 𝓜 𝓡 (code.calls-triple_arena_traits::entry_slot::EntrySlot::live_value_mut 𝓡.env wired) L P T I G LL LP LT
    LI LG CP CI CG L-EntrySlot L-EntrySlot-dict P-Ptr P-Ptr-dict P-Debug P-Debug-dict P-Hash P-Hash-dict P-Eq
    P-Eq-dict P-PartialEq P-PartialEq-dict P-Clone P-Clone-dict P-PartialOrd P-PartialOrd-dict P-Ord P-Ord-dict
    P-Recast P-Recast-dict P-Inx-PtrInx P-Inx-PtrInx-dict P-Inx-Debug P-Inx-Debug-dict P-Inx-Hash P-Inx-Hash-dict
    P-Inx-Eq P-Inx-Eq-dict P-Inx-PartialEq P-Inx-PartialEq-dict P-Inx-Clone P-Inx-Clone-dict P-Inx-PartialOrd
    P-Inx-PartialOrd-dict P-Inx-Ord P-Inx-Ord-dict P-Gen-PtrGen P-Gen-PtrGen-dict P-Gen-Debug P-Gen-Debug-dict
    P-Gen-Hash P-Gen-Hash-dict P-Gen-Eq P-Gen-Eq-dict P-Gen-PartialEq P-Gen-PartialEq-dict P-Gen-Clone
    P-Gen-Clone-dict P-Gen-PartialOrd P-Gen-PartialOrd-dict P-Gen-Ord P-Gen-Ord-dict m25 m0 m1 m2 m3 m4 m5 m6 m7 m8
    m9 m10 m11 m12 m13 m14 m15 m16 m17 m18 m19 m20 m21 m22 m23 m24)
