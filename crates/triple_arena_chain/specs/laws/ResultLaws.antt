-- What is told of results, and of loans.
use Rattle.std.proofs.Common.{◌≡◌, ◌⊎◌, inl, refl, ap, subst, Result, Ok, Err}
use Rattle.std.proofs.Math.Path.{fun_ext}
use Rattle.std.specs.Prelude.{IfOk, OnOk, OnErr}
use Rattle.std.specs.Result.{IfErr}

pub if_ok_1 : {A E : Type 0} (F K : A → Type 0) (r : Result A E) → IfOk r F → ((x : A) → F x → K x) → IfOk r K
if_ok_1 F K (Ok x) f gives = gives x f
if_ok_1 F K (Err e) f gives = tt

pub on_ok_1 : {A E : Type 0} (F K : Type 0) (r : Result A E) → OnOk r F → (F → K) → OnOk r K
on_ok_1 F K (Ok x) f gives = gives f
on_ok_1 F K (Err e) f gives = tt

pub if_ok_3 : {A E : Type 0} (F G H K : A → Type 0) (r : Result A E) → IfOk r F → IfOk r G → IfOk r H → ((x : A) → F x → G x → H x → K x) → IfOk r K
if_ok_3 F G H K (Ok x) f g h gives = gives x f g h
if_ok_3 F G H K (Err e) f g h gives = tt

-- what follows from a result, and from a refusal
pub either_way : {A E : Type 0} (F : A → Type 0) (G K : Type 0) (r : Result A E) → IfOk r F → OnErr r G → ((x : A) → F x → K) → (G → K) → K
either_way F G K (Ok x) f g ok err = ok x f
either_way F G K (Err e) f g ok err = err g

pub on_either : {A E : Type 0} (F G K : Type 0) (r : Result A E) → OnOk r F → OnErr r G → (F → K) → (G → K) → K
on_either F G K (Ok x) f g ok err = ok f
on_either F G K (Err e) f g ok err = err g

-- what follows from a refusal
pub if_refused : {A E : Type 0} (F : E → Type 0) (K : Type 0) (r : Result A E) → IfErr r F → ((x : A) → r ≡ Ok x → ⊥) → ((e : E) → F e → K) → K
if_refused F K (Ok x) f refused gives = absurd (refused x refl)
if_refused F K (Err e) f refused gives = gives e f

-- what holds of a result that is told to be Ok
pub on_ok : {A E : Type 0} (F : Type 0) (r : Result A E) (x : A) → r ≡ Ok x → OnOk r F → F
on_ok F r x is holds = subst (λ o. OnOk o F) is holds

pub if_ok : {A E : Type 0} (F : A → Type 0) (r : Result A E) (x : A) → r ≡ Ok x → IfOk r F → F x
if_ok F r x is holds = subst (λ o. IfOk o F) is holds

-- and of one that is none
pub on_err : {A E : Type 0} (F : Type 0) (r : Result A E) → OnErr r F → ((x : A) → r ≡ Ok x → ⊥) → F
on_err F (Ok x) holds refused = absurd (refused x refl)
on_err F (Err e) holds refused = holds

-- one loan ends as another where it does so at each value
pub lends_alike : {N T S : Type 0} (name : N) (F G : T → S) → ((w : T) → F w ≡ G w) → ◌≡◌ {A = (N × (T → S)) ⊎ S} (inl (name, F)) (inl (name, G))
lends_alike {N = N} {T = T} {S = S} name F G same = ap (ended N T S name) (fun_ext same)
  where
    ended : (N T S : Type 0) → N → (T → S) → (N × (T → S)) ⊎ S
    ended N T S name H = inl (name, H)
