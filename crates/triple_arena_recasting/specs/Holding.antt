-- How a value holds items, in one term: what it holds, itself with others in their places, and the laws that tie both. An
-- impl of `Recast` names such a term's members.
use Rattle.std.specs.Prelude.{◌≡◌, List, [], length, Option}
use Rattle.std.proofs.Common.{refl, sym, ap, ◌∙◌}
use Rattle.std.specs.declared.vec.Vec.{Vec}
use Rattle.triple_arena_base.specs.Held.{HoldsRefill, KeepsHeld, LastRefills, held_itself, refill_itself, held_nothing, refill_nothing, held_option, refill_option}
use Rattle.triple_arena_base.specs.HeldPairs.{held_both, refill_both, both_held_refill, both_refill_held, both_refill_refill}
use Rattle.triple_arena_base.specs.HeldVecs.{held_vec, refill_vec, vec_held_refill, vec_refill_held, vec_refill_refill}
use Rattle.triple_arena_base.specs.laws.HeldLaws.{itself_held_refill, itself_refill_held, itself_refill_refill, nothing_held_refill, option_held_refill, option_refill_held, option_refill_refill}

pub record Holding (I T : Type 0) : Type 0 where
  pub held : T → List I
  pub refill : T → List I → T
  pub held_refill : HoldsRefill held refill
  pub refill_held : KeepsHeld held refill
  pub refill_refill : LastRefills held refill

-- an item holds itself
abbrev pub itself : {I : Type 0} → Holding I I
itself = record {
  held = held_itself;
  refill = refill_itself;
  held_refill = itself_held_refill;
  refill_held = itself_refill_held;
  refill_refill = itself_refill_refill;
}

-- a value that holds none
abbrev pub nothing : {I T : Type 0} → Holding I T
nothing {T = T} = record {
  held = held_nothing;
  refill = refill_nothing;
  held_refill = nothing_held_refill {T = T};
  refill_held = λ v. refl;
  refill_refill = λ v l m h k. refl;
}

-- an `Option` holds what its `Some` holds
abbrev pub option : {I T : Type 0} → Holding I T → Holding I (Option T)
option h = record {
  held = held_option h.held;
  refill = refill_option h.refill;
  held_refill = option_held_refill h.held h.refill h.held_refill;
  refill_held = option_refill_held h.held h.refill h.refill_held;
  refill_refill = option_refill_refill h.held h.refill h.refill_refill;
}

-- a vector holds what its elements hold, in order
abbrev pub vector : {I T Z : Type 0} → Holding I T → Holding I (Vec T Z)
vector h = record {
  held = held_vec h.held h.refill;
  refill = refill_vec h.held h.refill;
  held_refill = vec_held_refill h.held h.refill h.held_refill;
  refill_held = vec_refill_held h.held h.refill h.refill_held;
  refill_refill = vec_refill_refill h.held h.refill h.held_refill h.refill_refill;
}

-- a pair holds what its first part holds, and then what its second part holds
abbrev pub both : {I A B : Type 0} → Holding I A → Holding I B → Holding I (A × B)
both a b = record {
  held = held_both a.held a.refill b.held b.refill;
  refill = refill_both a.held a.refill b.held b.refill;
  held_refill = both_held_refill a.held a.refill b.held b.refill a.held_refill b.held_refill;
  refill_held = both_refill_held a.held a.refill b.held b.refill a.refill_held b.refill_held;
  refill_refill = both_refill_refill a.held a.refill b.held b.refill a.held_refill a.refill_refill b.refill_refill;
}

-- a value holds what a part of it holds, as a record what a field of it holds. The part is taken with `get` and put in with
-- `put`: then it is there; to put in what is there changes nothing; and of two the last counts. Of fields each is `refl`.
module _ {I S A : Type 0} (get : S → A) (put : S → A → S) (got : (s : S) (a : A) → get (put s a) ≡ a) (same : (s : S) → put s (get s) ≡ s) (last : (s : S) (a b : A) → put (put s a) b ≡ put s b) where
  abbrev pub part : Holding I A → Holding I S
  part h = record {
    held = λ s. h.held (get s);
    refill = λ s l. put s (h.refill (get s) l);
    held_refill = λ s l long. ap h.held (got s (h.refill (get s) l)) ∙ h.held_refill (get s) l long;
    refill_held = λ s. ap (put s) (h.refill_held (get s)) ∙ same s;
    refill_refill = λ s l m long long_too.
        ap (λ a. put (put s (h.refill (get s) l)) (h.refill a m)) (got s (h.refill (get s) l))
        ∙ last s (h.refill (get s) l) (h.refill (h.refill (get s) l) m)
        ∙ ap (put s) (h.refill_refill (get s) l m long long_too);
  }

-- a pair of a label, which holds none, and a value
abbrev pub labelled : {I L T : Type 0} → Holding I T → Holding I (L × T)
labelled {L = L} {T = T} h = part {S = L × T} (λ p. p.1) (λ p t. (p.0, t)) (λ p t. refl) (λ p. refl) (λ p t u. refl) h

-- an arm of an enum: what a value of its variant holds, and the value with other items in their places
pub record Arm (I V : Type 0) : Type 0 where
  pub held : List I
  pub refill : List I → V

-- a variant that holds what is within it, and one that holds none
abbrev pub arm : {I V A : Type 0} → Holding I A → A → (A → V) → Arm I V
arm h a put = record { held = h.held a; refill = λ l. put (h.refill a l) }

abbrev pub bare : {I V : Type 0} → V → Arm I V
bare v = record { held = []; refill = λ l. v }

module _ {I V : Type 0} (arm_of : V → Arm I V) where
  -- the laws of holding, of one value
  pub record IsArm (v : V) : Type 0 where
    pub held_refill : (l : List I) → length l ≡ length (arm_of v).held → (arm_of ((arm_of v).refill l)).held ≡ l
    pub refill_held : (arm_of v).refill (arm_of v).held ≡ v
    pub refill_refill : (l m : List I) → length l ≡ length (arm_of v).held → length m ≡ length (arm_of v).held
        → (arm_of ((arm_of v).refill l)).refill m ≡ (arm_of v).refill m

  -- hold in an arm, where a value with another within it is of the same arm, as by `refl`
  pub in_arm : {A : Type 0} (h : Holding I A) (put : A → V) → ((a : A) → arm_of (put a) ≡ arm h a put) → (a : A) → IsArm (put a)
  in_arm h put is a = record {
    held_refill = λ l long.
        ap (λ v. (arm_of v).held) (ap (λ w. w.refill l) (is a)) ∙ ap (λ w. w.held) (is (h.refill a l))
        ∙ h.held_refill a l (long ∙ ap (λ w. length w.held) (is a));
    refill_held = ap (λ w. w.refill w.held) (is a) ∙ ap put (h.refill_held a);
    refill_refill = λ l m long long_too.
        ap (λ v. (arm_of v).refill m) (ap (λ w. w.refill l) (is a)) ∙ ap (λ w. w.refill m) (is (h.refill a l))
        ∙ ap put (h.refill_refill a l m (long ∙ ap (λ w. length w.held) (is a)) (long_too ∙ ap (λ w. length w.held) (is a)))
        ∙ sym (ap (λ w. w.refill m) (is a));
  }

  pub in_bare : (v : V) → arm_of v ≡ bare v → IsArm v
  in_bare v is = record {
    held_refill = λ l long.
        ap (λ u. (arm_of u).held) (ap (λ w. w.refill l) is) ∙ ap (λ w. w.held) is
        ∙ nothing_held_refill {T = V} v l (long ∙ ap (λ w. length w.held) is);
    refill_held = ap (λ w. w.refill w.held) is;
    refill_refill = λ l m long long_too. ap (λ u. (arm_of u).refill m) (ap (λ w. w.refill l) is);
  }

  -- an enum holds what its arms say, variant by variant
  abbrev pub arms : ((v : V) → IsArm v) → Holding I V
  arms laws = record {
    held = λ v. (arm_of v).held;
    refill = λ v l. (arm_of v).refill l;
    held_refill = λ v. (laws v).held_refill;
    refill_held = λ v. (laws v).refill_held;
    refill_refill = λ v. (laws v).refill_refill;
  }
