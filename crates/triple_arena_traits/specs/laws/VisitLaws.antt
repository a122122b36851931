-- What calls at each entry leave.
use Rattle.std.proofs.Common.{◌≡◌, List, [], ◌∷◌, map, map-id, ap, subst, ◌∙◌, sym}
use Rattle.std.specs.Borrow.{MutBor}
use Rattle.triple_arena_ptr.specs.Pointers.{Pointer}
use Rattle.triple_arena_traits.specs.Visits.{Visits}

module _ {P T F : Type 0} (numbers : P → Pointer) (step : F → P → MutBor T → Unit {0} → MutBor T → F → Type 0) where
  -- where each call leaves the closure as it was, what is read of every value is what a function makes of its pointer and of
  -- what was read of the old value
  pub visits_read : {R : Type 0} (read : T → R) (made : Pointer → R → R) (f : F)
      → ((p : P) (shown left : MutBor T) (after : F) → step f p shown tt left after → (read left.now ≡ made (numbers p) (read shown.now)) × (after ≡ f))
      → (es left : List (Pointer × T)) (last : F) → Visits numbers step f es left last
      → map {B = Pointer × R} (λ e. (e.0, read e.1)) left ≡ map (λ e. (e.0, made e.0 (read e.1))) es
  visits_read {R = R} read made f same [] left last visits = ap (map {B = Pointer × R} (λ e. (e.0, read e.1))) visits.0
  visits_read {R = R} read made f same (e ∷ es) left last (y, after, others, call, is, visits) =
      let one = same call.pointer call.shown call.left after call.called in
      let value : read y ≡ made e.0 (read e.1) = sym (ap read call.leaves) ∙ one.0 ∙ ap (λ q. made q (read call.shown.now)) call.names ∙ ap (λ v. made e.0 (read v)) call.shows in
      let shown : Pointer × T → Pointer × R = λ x. (x.0, read x.1) in
      ap (map shown) is ∙ ap (λ r. (e.0, r) ∷ map shown others) value
      ∙ ap (λ rest. (e.0, made e.0 (read e.1)) ∷ rest) (visits_read read made f same es others last (subst (λ g. Visits numbers step g es others last) one.1 visits))

  -- and every value, where all of it is read
  pub visits_same : (made : Pointer → T → T) (f : F)
      → ((p : P) (shown left : MutBor T) (after : F) → step f p shown tt left after → (left.now ≡ made (numbers p) shown.now) × (after ≡ f))
      → (es left : List (Pointer × T)) (last : F) → Visits numbers step f es left last → left ≡ map (λ e. (e.0, made e.0 e.1)) es
  visits_same made f same es left last visits = sym (map-id left) ∙ visits_read (λ v. v) made f same es left last visits
