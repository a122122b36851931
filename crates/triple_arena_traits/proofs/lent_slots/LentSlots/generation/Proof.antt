-- `generation` reads the first slot. It is proved by hand, since it follows a raw pointer. The loan of the slots is opened, the
-- first slot is lent as a `&` for a new lifetime (`lends`) to the call of the same name, and all is closed as it was. The
-- names of what the bounds bring are those of the function's statement, as `rt check --generated` prints it. Assumes `Logic`.
use mathlib.Core.Path.{◌≡◌, refl, sym, ap, ◌∙◌}
use Prim.Native.Nat.{ℕ, ◌<◌}
use mathlib.Core.List.{List, [], ◌∷◌}
use lib.ListN.{length}
use seplogic.Ra.Ura.{Ura}
use base.Fraction.{full_share, left, right}
use mir.Syntax.{Fn, Args, Kind, Dict, dcons, dnil, Ty, Sym, named, a_type, ty_ptr, ty_struct, tcons, tnil}
use mir.MapTy.{inst_fn}
use mir.Raw.{raw as bare}
use mir.Val.{Val, vptr, vstruct, vcons, vnil}
use base.Logic.{SProp, ent, emp, sep, via, fst∗, snd∗, mono_r, id⊢, ex, wand, apply∗}
use base.Fml.{Lft, GName, Share, Fml, ftrue, flft, fobs, fbor, fat, fdead, Incl-refl, Incl-trans}
use base.Stored.{coded_list}
use prog.Model.{Model}
use prog.Wired.{Wired}
use prog.Memory.{Memory}
use prog.Routine.{Routine}
use prog.Wp.{Env, Calls, Loops, WpFn, Tables}
use types.Logic.{Logic, sem}
use contract.Monad.{fact, fact_use, Fun}
use contract.Running.{Running, tables, tables_of}
use contract.BorrowLft.{◌⊑◌, ⊑_trans, meet_⊑_left, meet_⊑_right}
use base.FractionLaws.{common}
use types.Kit.{assume, Item, ‵, ◌⊛◌, some, later, await, at_ret, updating, now, show, ◌$◌, ◌∵◌, !, qed, move, keep, raw, use0, use1, use2, drop, split, split3, join, pick, rewrite, fsplit, fsplit3, fjoin, fjoin3, feq_i, frame, suffices, done}
use types.Tokens.{bor_new, lent_back, lft_new, lft_end, lft-common}
use types.Mut.{close_ref, open_ref}
use types.Run.{hop, stop, fld, addr, of_opd, first, blocks, exec, returns, enter, and_then, no_more}
use denote.Memory.{hidden_shr, mem, cell_at, part_at}
use denote.Ref.{Bor, MutBor, MutRef, mut_vals, mut_Tells}
use Rattle.std.specs.Option.{option_map}
use contract.Lifetimes.{Lfts, Shares, AllOutlive, lft_at}
use sound.WpLaws.{WpFn-mono, FmC, fm_of}
use types.Part.{whole, sub, look_in}
use types.ByLocal.{alloc_all, pass_all, free_all, look_at, get, through, sets, sets_last, env, lands_as}
use types.SemTy.{Arr, SemTy, Body as Borrowed}
use denote.Laws.{shows}
use denote.RattleType.{RattleType, owns}
use denote.Param.{param, copied, bounded}
use denote.Param.Laws.{Laws, param_laws, copied_laws}
use Rattle.std.proofs.option.Option.TheLaws.{the_row_laws as option_laws}
use denote.RawPtr.{Ptr, block_ptr, in_a_block}
use denote.Shadow.{pure_l, pure_i, makes_shadow}
use denote.Signature.{plain, named_lft}
use denote.Slice.{room}
use denote.Steps.{nothing, opens, closes, peeks, heard}
use denote.Struct.Struct.{Struct}
use denote.Struct.Owning.{Owning, shape}
use denote.Triple.Call.{calls_at}
use denote.Triple.Clauses.{Clauses, Ended, closing, lasts}
use denote.Triple.Entry.{on_entry}
use denote.Triple.Spec.{Meets, Spec, triple_of}
use denote.Triple.Statement.{Contract, Triple}
use denote.Triple.Table.{entered}
use denote.Triple.Walked.{says, Stays, stay_ref, walk_of, walked, ends_at, Goes-ref, walk_Meets}
use Rattle.std.proofs.VecSteps.Shapes.{after as after_body}
use Rattle.std.proofs.Common.{Option, Some}
use Rattle.std.specs.contracts.option.Option as O-type
use Rattle.triple_arena_traits.specs.Kept.{Kept, kept_at}
use Rattle.triple_arena_traits.proofs.Listing.{first_of}
use Rattle.triple_arena_traits.proofs.KeptSlots.{filled-own}
use Rattle.triple_arena_traits.specs.declared.lent_slots.LentSlots.{LentSlots}
use Rattle.triple_arena_traits.specs.contracts.lent_slots.LentSlots as L-type
use Rattle.triple_arena_traits.specs.contracts.lent_slots.LentSlots.generation as F
use Rattle.triple_arena_traits.specs.contracts.entry_slot.EntrySlot.generation as G-fn
use Rattle.triple_arena_traits.proofs.entry_slot.EntrySlot.generation.Met.{met}
use Rattle.triple_arena_traits.specs.contracts.lent_slots.LentSlots.generation.Key.{name as #self}
use Rattle.triple_arena_traits.proofs.lent_slots.LentSlots.TheLaws as L-laws
use Rattle.triple_arena_traits.proofs.lent_slots.LentSlots.generation.Statement as stated
use Rattle.triple_arena_traits.proofs.lent_slots.LentSlots.generation.Code as code
use Rattle.std.specs.declared.clone.Clone as gClone
use Rattle.std.specs.declared.fmt.Debug as gDebug
use Rattle.triple_arena_traits.specs.declared.entry_slot.EntrySlot as gEntrySlot
use Rattle.std.specs.declared.cmp.Eq as gEq
use Rattle.std.specs.declared.hash.Hash as gHash
use Rattle.std.specs.declared.cmp.Ord as gOrd
use Rattle.std.specs.declared.cmp.PartialEq as gPartialEq
use Rattle.std.specs.declared.cmp.PartialOrd as gPartialOrd
use Rattle.triple_arena_ptr.specs.declared.ptr.Ptr as gPtr
use Rattle.triple_arena_ptr.specs.declared.generation.PtrGen as gPtrGen
use Rattle.triple_arena_ptr.specs.declared.inx.PtrInx as gPtrInx
use Rattle.triple_arena_base.specs.declared.recast.Recast as gRecast

-- the name of the mark's type
abbrev phantom : Sym
phantom = 99 ∷ 111 ∷ 114 ∷ 101 ∷ 58 ∷ 58 ∷ 109 ∷ 97 ∷ 114 ∷ 107 ∷ 101 ∷ 114 ∷ 58 ∷ 58 ∷ 80 ∷ 104 ∷ 97 ∷ 110 ∷ 116 ∷ 111 ∷ 109 ∷ 68 ∷ 97 ∷ 116 ∷ 97 ∷ []

module _ (P T L I G : RattleType) (P-Ptr : gPtr.Ghosts P.Denot I.Denot G.Denot) (P-Ptr-dict : Dict)
    (P-Debug : gDebug.Ghosts P.Denot) (P-Debug-dict : Dict) (P-Hash : gHash.Ghosts P.Denot) (P-Hash-dict : Dict)
    (P-Eq : gEq.Ghosts P.Denot) (P-Eq-dict : Dict) (P-PartialEq : gPartialEq.Ghosts P.Denot) (P-PartialEq-dict : Dict)
    (P-Clone : gClone.Ghosts P.Denot) (P-Clone-dict : Dict) (P-PartialOrd : gPartialOrd.Ghosts P.Denot)
    (P-PartialOrd-dict : Dict) (P-Ord : gOrd.Ghosts P.Denot) (P-Ord-dict : Dict)
    (P-Recast : gRecast.Ghosts P.Denot P.Denot) (P-Recast-dict : Dict) (P-Inx-PtrInx : gPtrInx.Ghosts I.Denot)
    (P-Inx-PtrInx-dict : Dict) (P-Inx-Debug : gDebug.Ghosts I.Denot) (P-Inx-Debug-dict : Dict)
    (P-Inx-Hash : gHash.Ghosts I.Denot) (P-Inx-Hash-dict : Dict) (P-Inx-Eq : gEq.Ghosts I.Denot) (P-Inx-Eq-dict : Dict)
    (P-Inx-PartialEq : gPartialEq.Ghosts I.Denot) (P-Inx-PartialEq-dict : Dict) (P-Inx-Clone : gClone.Ghosts I.Denot)
    (P-Inx-Clone-dict : Dict) (P-Inx-PartialOrd : gPartialOrd.Ghosts I.Denot) (P-Inx-PartialOrd-dict : Dict)
    (P-Inx-Ord : gOrd.Ghosts I.Denot) (P-Inx-Ord-dict : Dict) (P-Gen-PtrGen : gPtrGen.Ghosts G.Denot)
    (P-Gen-PtrGen-dict : Dict) (P-Gen-Debug : gDebug.Ghosts G.Denot) (P-Gen-Debug-dict : Dict)
    (P-Gen-Hash : gHash.Ghosts G.Denot) (P-Gen-Hash-dict : Dict) (P-Gen-Eq : gEq.Ghosts G.Denot) (P-Gen-Eq-dict : Dict)
    (P-Gen-PartialEq : gPartialEq.Ghosts G.Denot) (P-Gen-PartialEq-dict : Dict) (P-Gen-Clone : gClone.Ghosts G.Denot)
    (P-Gen-Clone-dict : Dict) (P-Gen-PartialOrd : gPartialOrd.Ghosts G.Denot) (P-Gen-PartialOrd-dict : Dict)
    (P-Gen-Ord : gOrd.Ghosts G.Denot) (P-Gen-Ord-dict : Dict)
    (L-EntrySlot : gEntrySlot.Ghosts L.Denot P.Denot T.Denot I.Denot G.Denot) (L-EntrySlot-dict : Dict) where
  abbrev rP : RattleType
  rP = copied 0 P

  abbrev rT : RattleType
  rT = param 1 T

  abbrev rL : RattleType
  rL = param 2 L

  abbrev rI : RattleType
  rI = copied 3 I

  abbrev rG : RattleType
  rG = copied 4 G

  abbrev X : Type 0
  X = L.Denot

  -- lent slots, and how they own
  abbrev Ls : Type 0
  Ls = LentSlots P.Denot T.Denot L.Denot I.Denot G.Denot

  abbrev kinds : List Kind
  kinds = a_type ∷ a_type ∷ a_type ∷ a_type ∷ a_type ∷ []

  abbrev args : Args
  args = bounded kinds (P, (T, (L, (I, (G, tt))))) (dcons P-Ptr-dict (dcons P-Debug-dict (dcons P-Hash-dict (dcons
      P-Eq-dict (dcons P-PartialEq-dict (dcons P-Clone-dict (dcons P-PartialOrd-dict (dcons P-Ord-dict (dcons
      P-Recast-dict (dcons P-Inx-PtrInx-dict (dcons P-Inx-Debug-dict (dcons P-Inx-Hash-dict (dcons P-Inx-Eq-dict (dcons
      P-Inx-PartialEq-dict (dcons P-Inx-Clone-dict (dcons P-Inx-PartialOrd-dict (dcons P-Inx-Ord-dict (dcons
      P-Gen-PtrGen-dict (dcons P-Gen-Debug-dict (dcons P-Gen-Hash-dict (dcons P-Gen-Eq-dict (dcons P-Gen-PartialEq-dict
      (dcons P-Gen-Clone-dict (dcons P-Gen-PartialOrd-dict (dcons P-Gen-Ord-dict (dcons L-EntrySlot-dict
      dnil))))))))))))))))))))))))))

  -- those of the call
  abbrev called_args : Args
  called_args = bounded kinds (L, (P, (T, (I, (G, tt))))) (dcons L-EntrySlot-dict (dcons P-Ptr-dict (dcons P-Debug-dict
      (dcons P-Hash-dict (dcons P-Eq-dict (dcons P-PartialEq-dict (dcons P-Clone-dict (dcons P-PartialOrd-dict (dcons
      P-Ord-dict (dcons P-Recast-dict (dcons P-Inx-PtrInx-dict (dcons P-Inx-Debug-dict (dcons P-Inx-Hash-dict (dcons
      P-Inx-Eq-dict (dcons P-Inx-PartialEq-dict (dcons P-Inx-Clone-dict (dcons P-Inx-PartialOrd-dict (dcons
      P-Inx-Ord-dict (dcons P-Gen-PtrGen-dict (dcons P-Gen-Debug-dict (dcons P-Gen-Hash-dict (dcons P-Gen-Eq-dict (dcons
      P-Gen-PartialEq-dict (dcons P-Gen-Clone-dict (dcons P-Gen-PartialOrd-dict (dcons P-Gen-Ord-dict
      dnil))))))))))))))))))))))))))

  abbrev function : Fn
  function = inst_fn args code.function

  abbrev end : Ended
  end = F.ended P T L I G P-Ptr P-Ptr-dict P-Debug P-Debug-dict P-Hash P-Hash-dict P-Eq P-Eq-dict P-PartialEq
      P-PartialEq-dict P-Clone P-Clone-dict P-PartialOrd P-PartialOrd-dict P-Ord P-Ord-dict P-Recast P-Recast-dict
      P-Inx-PtrInx P-Inx-PtrInx-dict P-Inx-Debug P-Inx-Debug-dict P-Inx-Hash P-Inx-Hash-dict P-Inx-Eq P-Inx-Eq-dict
      P-Inx-PartialEq P-Inx-PartialEq-dict P-Inx-Clone P-Inx-Clone-dict P-Inx-PartialOrd P-Inx-PartialOrd-dict P-Inx-Ord
      P-Inx-Ord-dict P-Gen-PtrGen P-Gen-PtrGen-dict P-Gen-Debug P-Gen-Debug-dict P-Gen-Hash P-Gen-Hash-dict P-Gen-Eq
      P-Gen-Eq-dict P-Gen-PartialEq P-Gen-PartialEq-dict P-Gen-Clone P-Gen-Clone-dict P-Gen-PartialOrd
      P-Gen-PartialOrd-dict P-Gen-Ord P-Gen-Ord-dict L-EntrySlot L-EntrySlot-dict

  abbrev called_end : Ended
  called_end = G-fn.ended L P T I G L-EntrySlot L-EntrySlot-dict P-Ptr P-Ptr-dict P-Debug P-Debug-dict P-Hash
      P-Hash-dict P-Eq P-Eq-dict P-PartialEq P-PartialEq-dict P-Clone P-Clone-dict P-PartialOrd P-PartialOrd-dict P-Ord
      P-Ord-dict P-Recast P-Recast-dict P-Inx-PtrInx P-Inx-PtrInx-dict P-Inx-Debug P-Inx-Debug-dict P-Inx-Hash
      P-Inx-Hash-dict P-Inx-Eq P-Inx-Eq-dict P-Inx-PartialEq P-Inx-PartialEq-dict P-Inx-Clone P-Inx-Clone-dict
      P-Inx-PartialOrd P-Inx-PartialOrd-dict P-Inx-Ord P-Inx-Ord-dict P-Gen-PtrGen P-Gen-PtrGen-dict P-Gen-Debug
      P-Gen-Debug-dict P-Gen-Hash P-Gen-Hash-dict P-Gen-Eq P-Gen-Eq-dict P-Gen-PartialEq P-Gen-PartialEq-dict
      P-Gen-Clone P-Gen-Clone-dict P-Gen-PartialOrd P-Gen-PartialOrd-dict P-Gen-Ord P-Gen-Ord-dict

  abbrev Lo : Lfts 7 → Owning
  Lo κs = L-type.the_type (named_lft 7 1 tt κs) rP rT rL rI rG P-Ptr P-Debug P-Hash P-PartialEq P-PartialOrd P-Ord
      P-Recast P-Inx-PtrInx P-Inx-Debug P-Inx-Hash P-Inx-PartialEq P-Inx-PartialOrd P-Inx-Ord P-Gen-PtrGen P-Gen-Debug
      P-Gen-Hash P-Gen-PartialEq P-Gen-PartialOrd P-Gen-Ord L-EntrySlot

  abbrev Lr : Lfts 7 → RattleType
  Lr κs = L-type.the_row (named_lft 7 1 tt κs) rP rT rL rI rG P-Ptr P-Debug P-Hash P-PartialEq P-PartialOrd P-Ord
      P-Recast P-Inx-PtrInx P-Inx-Debug P-Inx-Hash P-Inx-PartialEq P-Inx-PartialOrd P-Inx-Ord P-Gen-PtrGen P-Gen-Debug
      P-Gen-Hash P-Gen-PartialEq P-Gen-PartialOrd P-Gen-Ord L-EntrySlot

  abbrev stayed : Stays end.signature.params end.kept
  stayed = (stay_ref (0 ∷ []) tt (plain Lr), tt)

  abbrev entry : X → Option (ℕ × T.Denot)
  entry = L-EntrySlot.entry

  abbrev with_value : X → T.Denot → X
  with_value = L-EntrySlot.with_value

  -- what is required
  abbrev Asks : Ls → Type 0
  Asks d = 0 < length d.now

  -- these slots in memory, whatever their values
  abbrev Many : List X → SemTy
  Many xs = Kept rL with_value entry xs

  -- laws of a slot
  pub record SlotLaws : Type 0 where
    pub own : (x : X) (e : ℕ × T.Denot) → entry x ≡ Some e → with_value x e.1 ≡ x

  module _ (LP : Laws P) (LT : Laws T) (LL : Laws L) (LI : Laws I) (LG : Laws G) (laws : SlotLaws) {M : Type 1} {𝓤 : Ura M} (𝓛 : Logic 𝓤) (at : Memory → SProp 𝓤) (run : Routine → Fun 𝓤) where
    open 𝓛 use {H, A}

    abbrev spec : Clauses 𝓤 end
    spec = F.clauses P T L I G P-Ptr P-Ptr-dict P-Debug P-Debug-dict P-Hash P-Hash-dict P-Eq P-Eq-dict P-PartialEq
        P-PartialEq-dict P-Clone P-Clone-dict P-PartialOrd P-PartialOrd-dict P-Ord P-Ord-dict P-Recast P-Recast-dict
        P-Inx-PtrInx P-Inx-PtrInx-dict P-Inx-Debug P-Inx-Debug-dict P-Inx-Hash P-Inx-Hash-dict P-Inx-Eq P-Inx-Eq-dict
        P-Inx-PartialEq P-Inx-PartialEq-dict P-Inx-Clone P-Inx-Clone-dict P-Inx-PartialOrd P-Inx-PartialOrd-dict
        P-Inx-Ord P-Inx-Ord-dict P-Gen-PtrGen P-Gen-PtrGen-dict P-Gen-Debug P-Gen-Debug-dict P-Gen-Hash P-Gen-Hash-dict
        P-Gen-Eq P-Gen-Eq-dict P-Gen-PartialEq P-Gen-PartialEq-dict P-Gen-Clone P-Gen-Clone-dict P-Gen-PartialOrd
        P-Gen-PartialOrd-dict P-Gen-Ord P-Gen-Ord-dict L-EntrySlot L-EntrySlot-dict 𝓛 at run

    -- the contract of the call
    abbrev called_spec : Spec 𝓤 (G-fn.signature L P T I G)
    called_spec = G-fn.spec L P T I G L-EntrySlot L-EntrySlot-dict P-Ptr P-Ptr-dict P-Debug P-Debug-dict P-Hash
        P-Hash-dict P-Eq P-Eq-dict P-PartialEq P-PartialEq-dict P-Clone P-Clone-dict P-PartialOrd P-PartialOrd-dict
        P-Ord P-Ord-dict P-Recast P-Recast-dict P-Inx-PtrInx P-Inx-PtrInx-dict P-Inx-Debug P-Inx-Debug-dict P-Inx-Hash
        P-Inx-Hash-dict P-Inx-Eq P-Inx-Eq-dict P-Inx-PartialEq P-Inx-PartialEq-dict P-Inx-Clone P-Inx-Clone-dict
        P-Inx-PartialOrd P-Inx-PartialOrd-dict P-Inx-Ord P-Inx-Ord-dict P-Gen-PtrGen P-Gen-PtrGen-dict P-Gen-Debug
        P-Gen-Debug-dict P-Gen-Hash P-Gen-Hash-dict P-Gen-Eq P-Gen-Eq-dict P-Gen-PartialEq P-Gen-PartialEq-dict
        P-Gen-Clone P-Gen-Clone-dict P-Gen-PartialOrd P-Gen-PartialOrd-dict P-Gen-Ord P-Gen-Ord-dict 𝓛 at run

    abbrev Called : Contract 𝓤
    Called = triple_of 𝓛 (G-fn.signature L P T I G) called_spec

    module _ (κs : Lfts 7) (qs : Shares 7) (within : AllOutlive 7 end.signature.outlives κs) (rb ro : ℕ) (γ : GName) (h : Ls) where
      abbrev κ : Lft
      κ = κs.0

      abbrev q : Share
      q = qs.0

      abbrev κ' : Lft
      κ' = κs.1.0

      abbrev q' : Share
      q' = qs.1.0

      abbrev It : RattleType
      It = Lr κs

      abbrev Opt : RattleType
      Opt = O-type.the_row rG

      Opt-laws : Laws Opt
      Opt-laws = option_laws rG (copied_laws 4 G LG)

      abbrev self : MutBor Ls
      self = record { ref_ptr = (rb, ro); ghost_name = γ; now = h }

      abbrev bound : (walk_of 𝓛 end stayed spec).Ghost
      bound = ((κs, qs, within, (self, tt), (vptr rb ro ∷ [], tt)), tt)

      abbrev Post : Val → SProp 𝓤
      Post = (walk_of 𝓛 end stayed spec).post bound

      abbrev word : ℕ → ℕ → Val
      word b o = vstruct (vcons (vptr b o) (vcons (vstruct vnil) vnil))

      abbrev written : Ty
      written = ty_struct (L-type.struct (named_lft 7 1 tt κs) rP rT rL rI rG P-Ptr P-Debug P-Hash P-PartialEq
          P-PartialOrd P-Ord P-Recast P-Inx-PtrInx P-Inx-Debug P-Inx-Hash P-Inx-PartialEq P-Inx-PartialOrd P-Inx-Ord
          P-Gen-PtrGen P-Gen-Debug P-Gen-Hash P-Gen-PartialEq P-Gen-PartialOrd P-Gen-Ord L-EntrySlot).name (tcons ty_ptr
          (tcons (ty_struct phantom tnil) tnil))

      -- what lent slots own as a value, which is nothing
      made : (b o : ℕ) → ent 𝓤 (emp 𝓤) (sem 𝓛 ((Struct (shape (Lo κs))).own_val (block_ptr b o, (tt, tt)) (word b o ∷ [])))
      made b o = makes_shadow 𝓛 ((Struct (shape (Lo κs))).own_val (block_ptr b o, (tt, tt)) (word b o ∷ [])) (λ vss. (tt, (tt, ((λ uss. (tt, tt)), tt)))) ((vptr b o ∷ [], (vstruct vnil ∷ [], tt)), (refl, (refl, ((tt, (refl, tt)), tt))))

      -- how long the types last, and what else is required
      abbrev f : Lft → RattleType → SProp 𝓤
      f c Y = fact 𝓤 (c ⊑ Y.lives)

      abbrev c₂ : Lft
      c₂ = lft_at 7 2 tt κs

      abbrev c₃ : Lft
      c₃ = lft_at 7 3 tt κs

      abbrev c₄ : Lft
      c₄ = lft_at 7 4 tt κs

      abbrev c₅ : Lft
      c₅ = lft_at 7 5 tt κs

      abbrev c₆ : Lft
      c₆ = lft_at 7 6 tt κs

      abbrev Facts : SProp 𝓤 → SProp 𝓤
      Facts Z = sep 𝓤 (f c₅ I) (sep 𝓤 (f c₆ G) (sep 𝓤 (f [] P) (sep 𝓤 (f [] I) (sep 𝓤 (f [] G) Z))))

      abbrev Q : SProp 𝓤 → SProp 𝓤
      Q Z = sep 𝓤 (f c₂ P) (sep 𝓤 (f c₃ T) (sep 𝓤 (f c₄ L) (Facts Z)))

      weaken : {Z Z' : SProp 𝓤} → ent 𝓤 Z Z' → ent 𝓤 (Q Z) (Q Z')
      weaken e = mono_r 𝓤 (f c₂ P) (mono_r 𝓤 (f c₃ T) (mono_r 𝓤 (f c₄ L) (mono_r 𝓤 (f c₅ I) (mono_r 𝓤 (f c₆ G) (mono_r 𝓤 (f [] P) (mono_r 𝓤 (f [] I) (mono_r 𝓤 (f [] G) e)))))))

      last : (Z : SProp 𝓤) → ent 𝓤 (Q Z) Z
      last Z =
          let Z₁ = sep 𝓤 (f [] G) Z in let Z₂ = sep 𝓤 (f [] I) Z₁ in let Z₃ = sep 𝓤 (f [] P) Z₂ in let Z₄ = sep 𝓤 (f c₆ G) Z₃ in let Z₅ = sep 𝓤 (f c₅ I) Z₄ in let Z₆ = sep 𝓤 (f c₄ L) Z₅ in let Z₇ = sep 𝓤 (f c₃ T) Z₆ in
          via 𝓤 Z₇ (snd∗ 𝓤 (f c₂ P) Z₇) (via 𝓤 Z₆ (snd∗ 𝓤 (f c₃ T) Z₆) (via 𝓤 Z₅ (snd∗ 𝓤 (f c₄ L) Z₅) (via 𝓤 Z₄ (snd∗ 𝓤 (f c₅ I) Z₄) (via 𝓤 Z₃ (snd∗ 𝓤 (f c₆ G) Z₃) (via 𝓤 Z₂ (snd∗ 𝓤 (f [] P) Z₂) (via 𝓤 Z₁ (snd∗ 𝓤 (f [] I) Z₁) (snd∗ 𝓤 (f [] G) Z)))))))

      -- the third first, as the call has it, and back
      turns : (a b c d : SProp 𝓤) → ent 𝓤 (sep 𝓤 a (sep 𝓤 b (sep 𝓤 c d))) (sep 𝓤 c (sep 𝓤 a (sep 𝓤 b d)))
      turns a b c d = qed 𝓛 ((raw a ⊛ raw b ⊛ raw c ⊛ raw d) ∷ []) ∵ split3 ! $ move ! (2 ∷ []) $ split ! $
          move ! (3 ∷ 1 ∷ []) $ join ! $ move ! (2 ∷ 0 ∷ []) $ join ! $ move ! (1 ∷ 0 ∷ []) $ join ! $ done !

      turns_back : (a b c d : SProp 𝓤) → ent 𝓤 (sep 𝓤 c (sep 𝓤 a (sep 𝓤 b d))) (sep 𝓤 a (sep 𝓤 b (sep 𝓤 c d)))
      turns_back a b c d = qed 𝓛 ((raw c ⊛ raw a ⊛ raw b ⊛ raw d) ∷ []) ∵ split3 ! $ move ! (2 ∷ []) $ split ! $
          move ! (2 ∷ 1 ∷ []) $ join ! $ move ! (1 ∷ 0 ∷ []) $ join ! $ move ! (1 ∷ 0 ∷ []) $ join ! $ done !

      nought : ent 𝓤 (fact 𝓤 (Asks h)) (emp 𝓤)
      nought = qed 𝓛 (raw (fact 𝓤 (Asks h)) ∷ []) ∵ drop ! $ nothing ! $ done !

      abbrev others : Item 𝓤
      others = ‵ (flft c₂ qs.1.1.0) ⊛ ‵ (flft c₃ qs.1.1.1.0) ⊛ ‵ (flft c₄ qs.1.1.1.1.0) ⊛ ‵ (flft c₅ qs.1.1.1.1.1.0) ⊛ ‵ (flft c₆ qs.1.1.1.1.1.1.0) ⊛ ‵ ftrue

      abbrev far : SProp 𝓤
      far = sep 𝓤 (A.lft c₅ qs.1.1.1.1.1.0) (sep 𝓤 (A.lft c₆ qs.1.1.1.1.1.1.0) (sem 𝓛 ftrue))

      -- the same, as the call has them
      abbrev others_called : Item 𝓤
      others_called = ‵ (flft c₄ qs.1.1.1.1.0) ⊛ ‵ (flft c₂ qs.1.1.0) ⊛ ‵ (flft c₃ qs.1.1.1.0) ⊛ ‵ (flft c₅ qs.1.1.1.1.1.0) ⊛ ‵ (flft c₆ qs.1.1.1.1.1.1.0) ⊛ ‵ ftrue

      lives : (Z : SProp 𝓤) → ent 𝓤 (Q Z) (fact 𝓤 (c₄ ⊑ L.lives))
      lives Z =
          let Z₅ = Facts Z in let Z₆ = sep 𝓤 (f c₄ L) Z₅ in let Z₇ = sep 𝓤 (f c₃ T) Z₆ in
          via 𝓤 Z₇ (snd∗ 𝓤 (f c₂ P) Z₇) (via 𝓤 Z₆ (snd∗ 𝓤 (f c₃ T) Z₆) (fst∗ 𝓤 (f c₄ L) Z₅))

      -- a slot is lent as a `&` for a new lifetime, with the way back
      abbrev Lent : Share → ℕ → ℕ → X → ℕ × Share → SProp 𝓤
      Lent s b o x n = sep 𝓤 (sem 𝓛 (hidden_shr rL (n.0 ∷ κ') x b o)) (sep 𝓤 (A.lft (n.0 ∷ κ') n.1) (wand 𝓤 (A.lft (n.0 ∷ κ') n.1) (H.⇛ (sep 𝓤 (sem 𝓛 (part_at rL full_share x b o)) (A.lft κ' s)))))

      lends : κ' ⊑ L.lives → (q₀ : Share) (b o : ℕ) (x : X) → ent 𝓤 (sep 𝓤 (sem 𝓛 (part_at rL full_share x b o)) (A.lft κ' q₀)) (H.⇛ (ex 𝓤 (Lent q₀ b o x)))
      lends le q₀ b o x =
          let P₀ : Fml = part_at rL full_share x b o in
          qed 𝓛 (‵ P₀ ∷ ‵ (flft κ' q₀) ∷ []) ∵ updating ! $ move ! (1 ∷ []) $ lft_new ! tt (λ n.
          let c : Lft = n ∷ κ' in
          let s : Share = (common full_share q₀).0 in
          let Back : SProp 𝓤 = wand 𝓤 (A.lft c s) (sep 𝓤 (A.lft (n ∷ []) full_share) (A.lft κ' q₀)) in
          use2 𝓛 (‵ (flft c s) ⊛ raw Back) (lft-common 𝓛 (n ∷ []) κ' full_share q₀) $ split ! $ move ! (2 ∷ []) $ bor_new ! tt c $ move ! (0 ∷ 2 ∷ []) $
          use2 𝓛 (later (‵ (hidden_shr rL c x b o) ⊛ ‵ (flft c s))) ((param_laws 2 L LL).shares 𝓛 x c ((c, s) ∷ []) b o (Incl-trans (meet_⊑_right (n ∷ []) κ') le) (Incl-refl c)) $ await ! tt $ split ! $
          now ! $ show ! (Lent q₀ b o x) (n, s) $ frame ! $ frame ! $ assume ! (‵ (flft c s)) $ updating ! $ move ! (0 ∷ 2 ∷ []) $
          use2 𝓛 (‵ (flft (n ∷ []) full_share) ⊛ ‵ (flft κ' q₀)) (apply∗ 𝓤 (A.lft c s) (sep 𝓤 (A.lft (n ∷ []) full_share) (A.lft κ' q₀))) $ split ! $ lft_end ! tt $
          use1 𝓛 (‵ (fdead c)) (𝓛.lfts.dead-incl c (n ∷ []) (meet_⊑_left (n ∷ []) κ')) $ move ! (0 ∷ 2 ∷ []) $ lent_back ! tt $ now ! $ done !)

      module _ (C : Calls 𝓤 H) (Λ : Loops 𝓤 H) where
        walk : (fm : FmC 𝓤 H 𝓛.laws C) → Triple 𝓤 (C (G-fn.Key.name called_args)) Called → Asks h → c₄ ⊑ L.lives → ent 𝓤 ((walk_of 𝓛 end stayed spec).pre bound) (WpFn 𝓤 H C Λ function (vptr rb ro ∷ []) Post)
        walk fm callee asked alive =
            let found = first_of h.now asked in
            let x : X = found.0 in
            let ys : List X = found.1 in
            let xs : List X = x ∷ ys in
            let was : h.now ≡ xs = found.2 in
            let s : ℕ = (mem rL).size in
            let lowers = L-laws.lowers (named_lft 7 1 tt κs) rP rT rL rI rG P-Ptr P-Debug P-Hash P-PartialEq
            P-PartialOrd P-Ord P-Recast P-Inx-PtrInx P-Inx-Debug P-Inx-Hash P-Inx-PartialEq P-Inx-PartialOrd P-Inx-Ord
            P-Gen-PtrGen P-Gen-Debug P-Gen-Hash P-Gen-PartialEq P-Gen-PartialOrd P-Gen-Ord L-EntrySlot (copied_laws 0 P
            LP) (param_laws 1 T LT) (param_laws 2 L LL) (copied_laws 3 I LI) (copied_laws 4 G LG) in
            qed 𝓛 (((‵ (flft κ q) ⊛ ‵ (flft κ' q') ⊛ others) ⊛ ‵ (owns (MutRef (named 0) κ It ∷ []) (self, tt) (vptr rb ro ∷ [], tt))) ∷ raw (Q (fact 𝓤 (Asks h))) ∷ []) ∵ enter ! C Λ function (vptr rb ro ∷ []) _ $
            alloc_all ! (λ l. pass_all ! refl ((tt, tt), tt) $
            let En : Env 𝓤 H = env function.locals l in
            move ! (1 ∷ []) $ use1 𝓛 (raw (sep 𝓤 (f c₄ L) (sep 𝓤 (f c₂ P) (sep 𝓤 (f c₃ T) (Facts (emp 𝓤)))))) (via 𝓤 (Q (emp 𝓤)) (weaken nought) (turns (f c₂ P) (f c₃ T) (f c₄ L) (Facts (emp 𝓤)))) $ move ! (1 ∷ []) $
            split ! $ move ! (1 ∷ []) $ fsplit ! $ fsplit3 ! $ drop ! $
            -- [obs; the borrow; true; the tokens; what is required]
            move ! (3 ∷ []) $ split3 ! $ move ! (2 ∷ []) $ use1 𝓛 others_called (turns (A.lft c₂ qs.1.1.0) (A.lft c₃ qs.1.1.1.0) (A.lft c₄ qs.1.1.1.1.0) far) $ move ! (3 ∷ 4 ∷ 1 ∷ 2 ∷ 0 ∷ []) $
            -- [obs; the borrow; the token; that of 'a; the others; true; what is required]
            opens ! tt It {h = h} rb ro (λ vs. move ! (1 ∷ []) $ peeks ! It _ (shows 𝓛 It) h vs (λ is. fsplit ! $ move ! (1 ∷ []) $
            in_a_block ! h.at (λ p. kept_at rL with_value entry κ' h.name p h.now) (id⊢ 𝓤 _) (λ b o e.
            let spelled : vs ≡ word b o ∷ [] = lowers.val_is h vs is ∙ ap (λ (p : Ptr). lowers.lowered (record h { at = p }) ∷ []) e in
            rewrite ! 2 (λ (ws : List Val). ‵ (cell_at full_share It.mir ws rb ro)) spelled refl $
            fsplit ! $ pure_l ! (room rL (length h.now)) (λ rm. fsplit ! $
            let le : κ' ⊑ L.lives = ⊑_trans κ' c₄ L.lives within.1.1.1.1.1.1.0 alive in
            rewrite ! 0 (λ (zs : List X). ‵ (fobs h.name ((coded_list rL.coded).code zs))) was refl $ rewrite ! 1 (λ (zs : List X). ‵ (fbor κ' (Borrowed (Many zs) b o h.name))) was refl $
            move ! (3 ∷ []) $ use1 𝓛 (‵ (fat full_share written rb ro (word b o))) (𝓛.laws.raw_at full_share written rb ro (word b o)) $
            first ! $ blocks ! $
            sets_last ! (addr ! (through ! refl (fld ! refl (hop ! (look_in ! 0 (sub ! 0 refl (whole !))) (stop !))))) refl (tt, tt) $
            exec ! C Λ En (after_body 1 function.body) (at_ret En Post) $
            sets ! (of_opd ! (get ! refl)) refl (tt, tt) $
            use1 𝓛 (‵ (fat full_share (bare written) rb ro (word b o))) (𝓛.laws.at_raw full_share written rb ro (word b o)) $
            -- [the cell; obs of the slots; their borrow; the fields; the open borrow; obs; auth; the token of 'a; the others; true; what is required]
            move ! (7 ∷ []) $ use1 𝓛 (‵ (flft κ' (left q')) ⊛ ‵ (flft κ' (right q'))) (𝓛.lfts.lft_split κ' q') $ split ! $
            move ! (3 ∷ 4 ∷ 0 ∷ []) $ open_ref ! tt (Many xs) {x = xs} {b = b} {o = o} $
            rewrite ! 0 (λ (zs : List X). ‵ ((Arr (mem rL) (length xs)).own_at zs b o)) (filled-own with_value entry laws.own xs) refl $ fsplit ! $ drop ! $ fsplit ! $
            -- [the slot; the rest; the slots' open borrow; obs; auth; half; the cell; the fields; the open borrow; obs; auth; the others; true; what is required]
            move ! (0 ∷ 5 ∷ []) $ use2 𝓛 (later (some (λ (n : ℕ × Share). raw (Lent (right q') b o x n)))) (lends le (right q') b o x) $ await ! tt $ pick ! (λ n.
            let c : Lft = n.0 ∷ κ' in
            let lent_slot : Bor X = record { ref_ptr = (b, o); now = x } in
            let Ends : SProp 𝓤 = wand 𝓤 (A.lft c n.1) (H.⇛ (sep 𝓤 (sem 𝓛 (part_at rL full_share x b o)) (A.lft κ' (right q')))) in
            let z : Called.Ghost = (((c, (c₄, (c₂, (c₃, (c₅, (c₆, tt)))))), (n.1, (qs.1.1.1.1.0, (qs.1.1.0, (qs.1.1.1.0, (qs.1.1.1.1.1.0, (qs.1.1.1.1.1.1.0, tt)))))), (⊑_trans c κ' c₄ (meet_⊑_right (n.0 ∷ []) κ') within.1.1.1.1.1.1.0, tt), (lent_slot, tt), (vptr b o ∷ [], tt)), tt) in
            use1 𝓛 (‵ (hidden_shr rL c x b o) ⊛ ‵ (flft c n.1) ⊛ raw Ends) (id⊢ 𝓤 _) $ split3 ! $
            feq_i ! (List Val) (vptr b o ∷ []) (vptr b o ∷ []) refl $ fjoin ! $
            move ! (0 ∷ 13 ∷ []) $ fjoin ! $ move ! (1 ∷ 12 ∷ []) $ join ! $ move ! (0 ∷ 1 ∷ []) $ join ! $ move ! (0 ∷ 11 ∷ []) $ join ! $
            use1 𝓛 (raw (Called.pre z)) (id⊢ 𝓤 _) $
            calls_at ! fm Called callee z (and_then ! (get ! refl) (no_more !)) (λ v.
            use1 𝓛 (later (some (λ (r : Option G.Denot). ((‵ (flft c n.1) ⊛ others_called) ⊛ ‵ (Opt.own_val r (v ∷ []))) ⊛
            some (λ (ws : Unit {0} × Unit {0}). ‵ (lasts called_end (c, (c₄, (c₂, (c₃, (c₅, (c₆, tt)))))) (lent_slot, tt) ws) ⊛ raw (fact 𝓤 (option_map P-Gen-PtrGen.number r ≡ option_map (λ e. e.0) (entry x))))))) (id⊢ 𝓤 _) $
            await ! tt $ pick ! (λ r. split ! $ split ! $
            move ! (2 ∷ []) $ pick ! (λ ws. split ! $ drop ! $ heard ! _ (λ val.
            split ! $ move ! (1 ∷ []) $ use1 𝓛 others (turns_back (A.lft c₂ qs.1.1.0) (A.lft c₃ qs.1.1.1.0) (A.lft c₄ qs.1.1.1.1.0) far) $ move ! (1 ∷ 0 ∷ []) $ move ! (0 ∷ 3 ∷ []) $ use2 𝓛 (later (‵ (part_at rL full_share x b o) ⊛ ‵ (flft κ' (right q')))) (apply∗ 𝓤 (A.lft c n.1) (H.⇛ (sep 𝓤 (sem 𝓛 (part_at rL full_share x b o)) (A.lft κ' (right q'))))) $ await ! tt $ split ! $
            -- [the slot; half; the others; the option; the rest; the slots' open borrow; obs; auth; the cell; the fields; the open borrow; obs; auth]
            move ! (0 ∷ 4 ∷ []) $ fjoin ! $ feq_i ! ℕ (length xs) (length xs) refl $ fjoin ! $
            rewrite ! 0 (λ (zs : List X). ‵ ((Arr (mem rL) (length xs)).own_at zs b o)) (sym (filled-own with_value entry laws.own xs)) refl $
            move ! (0 ∷ 4 ∷ 5 ∷ 6 ∷ []) $ close_ref ! tt (Many xs) xs $
            move ! (2 ∷ 3 ∷ []) $ use2 𝓛 (‵ (flft κ' q')) (𝓛.lfts.lft_join κ' q') $
            move ! (4 ∷ []) $ peeks ! Opt _ (shows 𝓛 Opt) r (v ∷ []) (λ ty.
            lands_as ! refl refl ((Opt-laws.lawful 𝓛).typed r (v ∷ []) ty).0 $
            -- [the option; the token of 'a; obs of the slots; their borrow; the others; the cell; the fields; the open borrow; obs; auth]
            let new : Ls = record { at = block_ptr b o; mark = record {}; name = h.name; tie = h.tie; now = h.now } in
            let kept : new ≡ h = ap (λ (p : Ptr). record h { at = p }) (sym e) in
            rewrite ! 2 (λ (zs : List X). ‵ (fobs h.name ((coded_list rL.coded).code zs))) (sym was) refl $ rewrite ! 3 (λ (zs : List X). ‵ (fbor κ' (Borrowed (Many zs) b o h.name))) (sym was) refl $
            move ! (2 ∷ 3 ∷ []) $ fjoin ! $ pure_i ! (room rL (length h.now)) (tt, tt) rm $ fjoin ! $
            use0 𝓛 (‵ ((Struct (shape (Lo κs))).own_val (block_ptr b o, (tt, tt)) (word b o ∷ []))) (made b o) $ fjoin ! $
            move ! (4 ∷ 0 ∷ 6 ∷ 7 ∷ 8 ∷ []) $ closes ! tt It new (word b o ∷ []) rb ro $
            returns ! (look_at ! 0 refl) $ free_all ! refl $ keep ! (0 ∷ 1 ∷ 2 ∷ 4 ∷ 5 ∷ 3 ∷ []) $
            suffices ! _ (ends_at 𝓛 end stayed spec bound v r (new, tt) (tt, tt)) $ says ! (x, ys, was, kept, val) $
            move ! (3 ∷ 4 ∷ []) $ join ! $ move ! (3 ∷ 0 ∷ []) $ join ! $ frame ! $ feq_i ! (List Val) (vptr rb ro ∷ []) (vptr rb ro ∷ []) refl $ fjoin3 ! $ nothing ! $ move ! (1 ∷ 0 ∷ []) $ fjoin ! $ done !)))))))))))

    meets : (𝓣 : Tables 𝓤 H) → Triple 𝓤 (𝓣.C (G-fn.Key.name called_args)) Called → Meets 𝓛 end.signature (WpFn 𝓤 H 𝓣.C 𝓣.Λ function) (closing 𝓛 end spec)
    meets 𝓣 callee =
        walk_Meets 𝓛 end stayed (Goes-ref 𝓛 7 0 tt (plain Lr), tt) spec (WpFn 𝓤 H 𝓣.C 𝓣.Λ function) (WpFn-mono 𝓤 H 𝓛.laws 𝓣 function)
        (walked 𝓛 end stayed spec (WpFn 𝓤 H 𝓣.C 𝓣.Λ function) (λ κs. (mut_vals, tt)) (λ κs. (mut_Tells (named 0) κs.0 (Lr κs), tt))
        (λ κs qs bounds a g are. let Want = (spec κs a).requires g in
        let On : SProp 𝓤 = on_entry 𝓛 end.signature κs qs a (vptr a.0.ref_ptr.0 a.0.ref_ptr.1 ∷ [], tt) in
        fact_use 𝓤 (Asks a.0.now) (via 𝓤 Want (snd∗ 𝓤 On Want) (last κs qs bounds a.0.ref_ptr.0 a.0.ref_ptr.1 a.0.ghost_name a.0.now (fact 𝓤 (Asks a.0.now)))) (λ asked.
        fact_use 𝓤 (lft_at 7 4 tt κs ⊑ L.lives) (via 𝓤 Want (snd∗ 𝓤 On Want) (lives κs qs bounds a.0.ref_ptr.0 a.0.ref_ptr.1 a.0.ghost_name a.0.now (fact 𝓤 (Asks a.0.now)))) (λ alive.
        walk κs qs bounds a.0.ref_ptr.0 a.0.ref_ptr.1 a.0.ghost_name a.0.now 𝓣.C 𝓣.Λ (fm_of 𝓤 H 𝓛.laws 𝓣) callee asked alive))))

  module _ (LP : Laws P) (LT : Laws T) (LL : Laws L) (LI : Laws I) (LG : Laws G) (laws : SlotLaws) {M : Type 1} (𝓤 : Ura M) (𝓛 : Logic 𝓤) (𝓜 : Model 𝓤 𝓛.H) (𝓡 : Running 𝓤 𝓛.H 𝓜) where
    -- the function meets its contract where the one that it calls does
    holds : Wired 𝓡.env code.code
        → Meets 𝓛 (G-fn.signature L P T I G) (𝓡.run (𝓡.env (G-fn.Key.name called_args))) (called_spec LP LT LL LI LG laws 𝓛 𝓜.mem 𝓡.returns)
        → Meets 𝓛 end.signature (𝓡.run (𝓡.env (#self args))) (closing 𝓛 end (spec LP LT LL LI LG laws 𝓛 𝓜.mem 𝓡.returns))
    unfolding tables_of
    holds wired callee =
        let 𝓣 : Tables 𝓤 𝓛.H = tables_of 𝓤 𝓛.H 𝓜 (tables 𝓤 𝓛.H 𝓜 𝓡 𝓡.env) in
        entered 𝓤 𝓛.H (triple_of 𝓛 end.signature (closing 𝓛 end (spec LP LT LL LI LG laws 𝓛 𝓜.mem 𝓡.returns))) 𝓣.C 𝓣.Λ (#self args) function
        (code.unfolded 𝓤 𝓛.H 𝓜 𝓡 wired (P, (T, (L, (I, (G, tt))))) P-Ptr-dict P-Debug-dict P-Hash-dict P-Eq-dict
        P-PartialEq-dict P-Clone-dict P-PartialOrd-dict P-Ord-dict P-Recast-dict P-Inx-PtrInx-dict P-Inx-Debug-dict
        P-Inx-Hash-dict P-Inx-Eq-dict P-Inx-PartialEq-dict P-Inx-Clone-dict P-Inx-PartialOrd-dict P-Inx-Ord-dict
        P-Gen-PtrGen-dict P-Gen-Debug-dict P-Gen-Hash-dict P-Gen-Eq-dict P-Gen-PartialEq-dict P-Gen-Clone-dict
        P-Gen-PartialOrd-dict P-Gen-Ord-dict L-EntrySlot-dict)
        (meets LP LT LL LI LG laws 𝓛 𝓜.mem 𝓡.returns 𝓣 callee)

pub generation_spec : {M : Type 1} → stated.statement M
generation_spec 𝓤 𝓛 𝓜 𝓡 wired P T L I G LP LT LL LI LG CP CI CG P-Ptr P-Ptr-dict P-Debug P-Debug-dict P-Hash P-Hash-dict
    P-Eq P-Eq-dict P-PartialEq P-PartialEq-dict P-Clone P-Clone-dict P-PartialOrd P-PartialOrd-dict P-Ord P-Ord-dict
    P-Recast P-Recast-dict P-Inx-PtrInx P-Inx-PtrInx-dict P-Inx-Debug P-Inx-Debug-dict P-Inx-Hash P-Inx-Hash-dict
    P-Inx-Eq P-Inx-Eq-dict P-Inx-PartialEq P-Inx-PartialEq-dict P-Inx-Clone P-Inx-Clone-dict P-Inx-PartialOrd
    P-Inx-PartialOrd-dict P-Inx-Ord P-Inx-Ord-dict P-Gen-PtrGen P-Gen-PtrGen-dict P-Gen-Debug P-Gen-Debug-dict
    P-Gen-Hash P-Gen-Hash-dict P-Gen-Eq P-Gen-Eq-dict P-Gen-PartialEq P-Gen-PartialEq-dict P-Gen-Clone P-Gen-Clone-dict
    P-Gen-PartialOrd P-Gen-PartialOrd-dict P-Gen-Ord P-Gen-Ord-dict L-EntrySlot L-EntrySlot-dict m0 m1 m2 m3 m4 m5 m6 m7
    m8 m9 m10 m11 m12 m13 m14 m15 m16 m17 m18 m19 m20 m21 m22 m23 m24 m25 =
    holds P T L I G P-Ptr P-Ptr-dict P-Debug P-Debug-dict P-Hash P-Hash-dict P-Eq P-Eq-dict P-PartialEq P-PartialEq-dict
    P-Clone P-Clone-dict P-PartialOrd P-PartialOrd-dict P-Ord P-Ord-dict P-Recast P-Recast-dict P-Inx-PtrInx
    P-Inx-PtrInx-dict P-Inx-Debug P-Inx-Debug-dict P-Inx-Hash P-Inx-Hash-dict P-Inx-Eq P-Inx-Eq-dict P-Inx-PartialEq
    P-Inx-PartialEq-dict P-Inx-Clone P-Inx-Clone-dict P-Inx-PartialOrd P-Inx-PartialOrd-dict P-Inx-Ord
    P-Inx-Ord-dict P-Gen-PtrGen P-Gen-PtrGen-dict P-Gen-Debug P-Gen-Debug-dict P-Gen-Hash P-Gen-Hash-dict P-Gen-Eq
    P-Gen-Eq-dict P-Gen-PartialEq P-Gen-PartialEq-dict P-Gen-Clone P-Gen-Clone-dict P-Gen-PartialOrd
    P-Gen-PartialOrd-dict P-Gen-Ord P-Gen-Ord-dict L-EntrySlot L-EntrySlot-dict LP LT LL LI LG
    (record { own = m25.with_own_value }) 𝓤 𝓛 𝓜 𝓡 wired
    (met 𝓤 𝓛 𝓜 𝓡 (code.calls-triple_arena_traits::entry_slot::EntrySlot::generation 𝓡.env wired) L P T I G LL LP LT LI
    LG CP CI CG L-EntrySlot L-EntrySlot-dict P-Ptr P-Ptr-dict P-Debug P-Debug-dict P-Hash P-Hash-dict P-Eq P-Eq-dict
    P-PartialEq P-PartialEq-dict P-Clone P-Clone-dict P-PartialOrd P-PartialOrd-dict P-Ord P-Ord-dict P-Recast
    P-Recast-dict P-Inx-PtrInx P-Inx-PtrInx-dict P-Inx-Debug P-Inx-Debug-dict P-Inx-Hash P-Inx-Hash-dict P-Inx-Eq
    P-Inx-Eq-dict P-Inx-PartialEq P-Inx-PartialEq-dict P-Inx-Clone P-Inx-Clone-dict P-Inx-PartialOrd
    P-Inx-PartialOrd-dict P-Inx-Ord P-Inx-Ord-dict P-Gen-PtrGen P-Gen-PtrGen-dict P-Gen-Debug P-Gen-Debug-dict
    P-Gen-Hash P-Gen-Hash-dict P-Gen-Eq P-Gen-Eq-dict P-Gen-PartialEq P-Gen-PartialEq-dict P-Gen-Clone
    P-Gen-Clone-dict P-Gen-PartialOrd P-Gen-PartialOrd-dict P-Gen-Ord P-Gen-Ord-dict m25 m0 m1 m2 m3 m4 m5 m6 m7 m8
    m9 m10 m11 m12 m13 m14 m15 m16 m17 m18 m19 m20 m21 m22 m23 m24)
