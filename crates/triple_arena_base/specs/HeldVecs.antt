-- The laws of holding, of a `Vec`.
use Rattle.std.proofs.Common.{◌≡◌, ◌≤◌, List, length, sym, ap, subst, ◌∙◌}
use Rattle.std.proofs.lemmas.List.{with_items_is}
use Rattle.std.specs.Coded.{×_prop, le_prop}
use native.Mathlib.Nat.{ℕ_set}
use Rattle.std.specs.declared.vec.Vec.{Vec}
use Rattle.std.specs.Vec.{with_items}
use Rattle.triple_arena_base.specs.Held.{HoldsRefill, KeepsHeld, LastRefills, held_all, refill_all}
use Rattle.triple_arena_base.specs.HeldLists.{length_refill_all, refill_all_held, held_refill_all, refill_refill_all}

module _ {T Z : Type 0} where
  -- two vectors that differ at most in their elements are equal if these are
  pub same_vec : (v : Vec T Z) (xs ys : List T) (o : (v.len ≡ length xs) × (v.len ≤ v.cap)) (p : (v.len ≡ length ys) × (v.len ≤ v.cap)) → xs ≡ ys
      → ◌≡◌ {A = Vec T Z} (record { ptr = v.ptr; len = v.len; cap = v.cap; alloc = v.alloc; items = xs; ok = o; small = v.small })
      (record { ptr = v.ptr; len = v.len; cap = v.cap; alloc = v.alloc; items = ys; ok = p; small = v.small })
  same_vec v xs ys o p e =
      let make : (zs : List T) → (v.len ≡ length zs) × (v.len ≤ v.cap) → Vec T Z
      = λ zs q. record { ptr = v.ptr; len = v.len; cap = v.cap; alloc = v.alloc; items = zs; ok = q; small = v.small } in
      let P : List T → Type 0 = λ zs. (q : (v.len ≡ length zs) × (v.len ≤ v.cap)) → make xs o ≡ make zs q in
      subst P e (λ q. ap (make xs) (×_prop (ℕ_set v.len (length xs)) le_prop o q)) p

module _ {I T Z : Type 0} (held : T → List I) (refill : T → List I → T) where
  -- a vector holds what its elements hold, in order
  abbrev pub held_vec : Vec T Z → List I
  held_vec v = held_all held v.items

  abbrev pub refill_vec : Vec T Z → List I → Vec T Z
  refill_vec v l = with_items v (refill_all held refill v.items l)

  pub items_refilled : (v : Vec T Z) (l : List I) → (refill_vec v l).items ≡ refill_all held refill v.items l
  items_refilled v l = with_items_is v (refill_all held refill v.items l) (length_refill_all held refill v.items l ∙ sym v.ok.0)

  pub vec_held_refill : HoldsRefill held refill → HoldsRefill held_vec refill_vec
  vec_held_refill law v l h = ap (held_all held) (items_refilled v l) ∙ held_refill_all held refill law v.items l h

  pub vec_refill_held : KeepsHeld held refill → KeepsHeld held_vec refill_vec
  vec_refill_held law v =
      let w = refill_vec v (held_vec v) in
      same_vec v w.items v.items w.ok v.ok (items_refilled v (held_vec v) ∙ refill_all_held held refill law v.items)

  pub vec_refill_refill : HoldsRefill held refill → LastRefills held refill → LastRefills held_vec refill_vec
  vec_refill_refill law last v l m h k =
      let w = refill_vec v l in
      let x = refill_vec w m in
      let y = refill_vec v m in
      same_vec v x.items y.items x.ok y.ok
      (items_refilled w m ∙ ap (λ xs. refill_all held refill xs m) (items_refilled v l) ∙ refill_refill_all held refill law last v.items l m h k ∙ sym (items_refilled v m))
