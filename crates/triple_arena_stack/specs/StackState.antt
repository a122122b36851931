-- What contracts see of a stack on the heap.
use Rattle.std.specs.Prelude.{ℕ, List, refl}
use Rattle.std.specs.Coded.{Coded, code_by, coded×, coded_ℕ, coded_list}

-- the items, and for how many there is room
pub record Roomed (T : Type 0) : Type 0 where
  pub items : List T
  pub room : ℕ

abbrev pub roomed_code : {T : Type 0} → Coded T → Coded (Roomed T)
roomed_code {T} code =
    code_by (List T × ℕ) (coded× (coded_list code) coded_ℕ) (λ s. (s.items, s.room)) (λ p. record { items = p.0; room = p.1 }) (λ _. refl)

-- the items, for how many there is room, and how many are allowed
pub record Limited (T : Type 0) : Type 0 where
  pub items : List T
  pub room : ℕ
  pub most : ℕ

abbrev pub limited_code : {T : Type 0} → Coded T → Coded (Limited T)
limited_code {T} code =
    code_by (List T × (ℕ × ℕ)) (coded× (coded_list code) (coded× coded_ℕ coded_ℕ)) (λ s. (s.items, (s.room, s.most))) (λ p. record { items = p.0; room = p.1.0; most = p.1.1 }) (λ _. refl)
