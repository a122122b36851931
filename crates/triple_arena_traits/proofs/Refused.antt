-- What calls answer that find nothing or are refused, and what is found after a removal.
use Rattle.std.proofs.Common.{◌≡◌, ◌≢◌, ℕ, ◌<◌, ◌≤◌, ◌↔◌, List, length, Option, Some, None, is_some, IsSome, IfSome, MatchOption, option_copied, Result, Ok, Err, IfOk, OnOk, OnErr, cond, true, refl, sym, ap, subst, ◌∙◌, inl, inr, arith}
use Rattle.std.proofs.lemmas.Bool.{cases_eq}
use Rattle.std.specs.Borrow.{Bor}
use Rattle.std.specs.Int.NonZero.{non_zero_usize_get}
use Rattle.std.specs.Option.{option_and_then}
use Rattle.std.specs.Prelude.{IsErrAnd}
use Rattle.std.specs.declared.num.NonZeroUsize.{NonZeroUsize}
use Rattle.triple_arena_base.specs.declared.errors.GetDisjointMutError.{GetDisjointMutError}
use Rattle.triple_arena_base.specs.declared.errors.GetDisjointMutError.TheVariants.{IndexOutOfBounds, OverlappingIndices}
use Rattle.triple_arena_ptr.specs.Pointers.{Pointer}
use Rattle.triple_arena_stack.specs.Disjoint.{IsRefused}
use Rattle.triple_arena_traits.specs.laws.PointerListLaws.{pointer_is}
use Rattle.triple_arena_traits.specs.laws.WellFormedLaws.{entry_of_value}
use Rattle.triple_arena_traits.specs.DisjointEntries.{DisjointInxAnswer}
use Rattle.triple_arena_traits.specs.Entries.{entry_in, value_of_generation, look_up, ChangesAt}
use Rattle.triple_arena_traits.specs.laws.ItemLaws.{eq_false}

-- what `?` makes of an error of its own type
pub err_is : {A E : Type 0} (r : Result A E) (w : E) → IsErrAnd r (λ v. v ≡ w) → r ≡ Err w
err_is (Ok x) w h = absurd h
err_is (Err v) w h = ap Err h

module _ {A E : Type 0} (r : Result A E) (e : E) (is : r ≡ Err e) where
  pub if_err : (P : A → Type 0) → IfOk r P
  if_err P = rw is tt

  pub on_ok_err : (P : Type 0) → OnOk r P
  on_ok_err P = rw is tt

  pub on_err : (P : Type 0) → P → OnErr r P
  on_err P h = rw is h

  -- the error of another call, which says when it comes
  pub same_error : {B : Type 0} (b : E) (Q : Type 0) → (◌≡◌ {A = Result B E} (Err e) (Err b) ↔ Q) → (r ≡ Err b) ↔ Q
  same_error {B} b Q when =
      (λ h. when.0 (let same : e ≡ b = cc in ap Err same), λ q. let both : ◌≡◌ {A = Result B E} (Err e) (Err b) = when.1 q in let same : e ≡ b = cc in is ∙ ap Err same)

-- what holds of three numbers holds of three that are the same
pub of_same : (P : ℕ → ℕ → ℕ → Type 0) (n n' i i' j j' : ℕ) → n ≡ n' → i ≡ i' → j ≡ j' → P n i j → P n' i' j'
of_same P n n' i i' j j' a b c h = subst (P n' i') c (subst (λ k. P n' k j) b (subst (λ m. P m i j) a h))

pub ok_not_err : {A E : Type 0} (x : A) (e : E) → Ok x ≡ Err e → ⊥
ok_not_err x e h = cc

module _ {T : Type 0} where
  -- two indexes that the stack refuses
  pub refused_inx : {A : Type 0} (slots : List (Option (ℕ × T))) (i j : ℕ) (r : Result A GetDisjointMutError) (e : GetDisjointMutError) → r ≡ Err e → IsRefused (length slots) i j e → DisjointInxAnswer slots i j r
  refused_inx slots i j r IndexOutOfBounds is refused = rw is (inl refused)
  refused_inx slots i j r OverlappingIndices is refused = rw is refused

  module _ (old new : List (Option (ℕ × T))) (p : Pointer) (live : IsSome (look_up old p)) (change : ChangesAt old p.0 None new) where
    -- a pointer whose entry was taken away finds nothing
    pub gone_found : look_up new p ≡ None
    gone_found = ap (option_and_then (value_of_generation p.1)) change.there

    -- and every other finds what it found
    pub rest_found : (q : Pointer) → q ≢ p → look_up new q ≡ look_up old q
    rest_found q other =
        elim (cases_eq q.0 p.0) [
          | inl here ↦ let found = entry_of_value old p.0 p.1 live in
              ap (option_and_then (value_of_generation q.1)) (ap (entry_in new) here ∙ change.there)
              ∙ sym (ap (option_and_then (value_of_generation q.1)) (ap (entry_in old) here ∙ found.1) ∙ ap (λ b. cond b (Some found.0) None) (eq_false p.1 q.1 (λ same. other (pointer_is _ _ _ _ here (sym same)))))
          | inr away ↦ ap (option_and_then (value_of_generation q.1)) (change.others q.0 away)
        ]

pub copied_some : {A : Type 0} (o : Option (Bor A)) → is_some (option_copied o) ≡ is_some o
copied_some None = refl
copied_some (Some x) = refl

-- an index that was asked for is that of a number, if that is not past the greatest
pub index_found : (r : Option NonZeroUsize) (n k greatest : ℕ) → MatchOption r (greatest < n) (λ i. non_zero_usize_get i ≡ n) → n ≡ k → IfSome r (λ i. non_zero_usize_get i ≡ k)
index_found None n k greatest past same = tt
index_found (Some i) n k greatest is same = is ∙ same

pub index_there : (r : Option NonZeroUsize) (n k greatest : ℕ) → MatchOption r (greatest < k) (λ i. non_zero_usize_get i ≡ k) → n ≡ k → n ≤ greatest → is_some r ≡ true
index_there None n k greatest past same within = absurd (omega arith)
index_there (Some i) n k greatest is same within = refl
