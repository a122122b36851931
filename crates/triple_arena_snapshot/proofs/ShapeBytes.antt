-- The bytes of a shape, one at a place.
use Rattle.std.proofs.Common.{◌≡◌, ◌≢◌, ℕ, zero, suc, ◌+◌, ◌-◌, ◌<◌, ◌≤◌, List, [], ◌∷◌, ◌++◌, length, drop, get_or, false, ◌==◌, Result, Ok, Err, refl, sym, ap, ◌∙◌, append_assoc, inl, inr, arith}
use Rattle.std.proofs.lemmas.Bool.{eq-eqb, ne_eqb, cases_lt, cases_eq}
use Rattle.std.proofs.lemmas.List.{at_drop_more, length-append, append-nil, drop_all}
use Rattle.triple_arena_snapshot.specs.Shapes.{byte_at}

at_first : (x : ℕ) (xs : List ℕ) (n : ℕ) → n ≡ 0 → byte_at (x ∷ xs) n ≡ Ok x
at_first x xs n e = rw (eq-eqb n 0 e) refl

pub at_later : (x : ℕ) (xs : List ℕ) (n : ℕ) → n ≢ 0 → byte_at (x ∷ xs) n ≡ byte_at xs (n - 1)
at_later x xs n apart = rw (ne_eqb n 0 apart) refl

at_next : (x : ℕ) (xs : List ℕ) (n : ℕ) → byte_at (x ∷ xs) (suc n) ≡ byte_at xs n
at_next x xs n = let less : suc n - 1 ≡ n = omega arith in at_later x xs (suc n) (λ e. omega (arith, e)) ∙ ap (byte_at xs) less

-- two tests that hold both or neither
same_tests : (a b c d : ℕ) → (a ≡ b → c ≡ d) → (c ≡ d → a ≡ b) → (a == b) ≡ (c == d)
same_tests a b c d to of =
    elim (cases_eq a b) [
      | inl e ↦ eq-eqb a b e ∙ sym (eq-eqb c d (to e))
      | inr apart ↦ ne_eqb a b apart ∙ sym (ne_eqb c d (λ e. apart (of e)))
    ]

-- the byte of the first of two shapes, and one of the second
pub byte_front : (xs ys : List ℕ) (n b : ℕ) → byte_at xs n ≡ Ok b → byte_at (xs ++ ys) n ≡ Ok b
byte_front [] ys n b h = absurd (cc)
byte_front (x ∷ xs) ys zero b h = at_first x (xs ++ ys) 0 refl ∙ sym (at_first x xs 0 refl) ∙ h
byte_front (x ∷ xs) ys (suc n) b h = at_next x (xs ++ ys) n ∙ byte_front xs ys n b (sym (at_next x xs n) ∙ h)

pub byte_behind : (xs ys : List ℕ) (n past : ℕ) → byte_at xs n ≡ Err past → byte_at (xs ++ ys) n ≡ byte_at ys past
byte_behind [] ys n past h = let same : n ≡ past = cc in ap (byte_at ys) same
byte_behind (x ∷ xs) ys zero past h = let no : Ok x ≡ Err past = sym (at_first x xs 0 refl) ∙ h in absurd (cc)
byte_behind (x ∷ xs) ys (suc n) past h = at_next x (xs ++ ys) n ∙ byte_behind xs ys n past (sym (at_next x xs n) ∙ h)

-- what stands within, and what is past the end
pub byte_is : (xs : List ℕ) (n : ℕ) → n < length xs → byte_at xs n ≡ Ok (get_or xs n 0)
byte_is [] n lt = absurd (omega (arith, lt))
byte_is (x ∷ xs) zero lt = at_first x xs 0 refl
byte_is (x ∷ xs) (suc n) lt = at_next x xs n ∙ byte_is xs n (omega (arith, lt))

pub byte_past : (xs : List ℕ) (n : ℕ) → length xs ≤ n → byte_at xs n ≡ Err (n - length xs)
byte_past [] n le = let same : n ≡ n - 0 = omega arith in ap (λ (k : ℕ). Err k) same
byte_past (x ∷ xs) zero le = absurd (omega (arith, le))
byte_past (x ∷ xs) (suc n) le =
    let same : n - length xs ≡ suc n - suc (length xs) = omega arith in
    at_next x xs n ∙ byte_past xs n (omega (arith, le)) ∙ ap (λ (k : ℕ). Err k) same

-- so a byte that is there is within, and what is past the end is so far
pub within : (xs : List ℕ) (n b : ℕ) → byte_at xs n ≡ Ok b → n < length xs
within xs n b h =
    elim (cases_lt n (length xs)) [
      | inl lt ↦ lt
      | inr le ↦ let no : Err (n - length xs) ≡ Ok b = sym (byte_past xs n le) ∙ h in absurd (cc)
    ]

pub ends : (xs : List ℕ) (n past : ℕ) → byte_at xs n ≡ Err past → (length xs ≤ n) × (past ≡ n - length xs)
ends xs n past h =
    elim (cases_lt n (length xs)) [
      | inl lt ↦ let no : Ok (get_or xs n 0) ≡ Err past = sym (byte_is xs n lt) ∙ h in absurd (cc)
      | inr le ↦ let is : Err (n - length xs) ≡ Err past = sym (byte_past xs n le) ∙ h in (le, (let same : past ≡ n - length xs = cc in same))
    ]

-- the bytes from a place on, by the byte there
pub from_there : {Y : Type 0} (F : List ℕ → Y) (xs : List ℕ) (n b : ℕ) → byte_at xs n ≡ Ok b → F (drop n xs) ≡ F (b ∷ drop (n + 1) xs)
from_there F xs n b h =
    let lt = within xs n b h in
    let is : Ok (get_or xs n 0) ≡ Ok b = sym (byte_is xs n lt) ∙ h in
    let same : get_or xs n 0 ≡ b = cc in
    at_drop_more F xs n 0 lt ∙ ap (λ (k : ℕ). F (k ∷ drop (n + 1) xs)) same

-- whether a shape ends at a place, by what is there
pub ends_there : (xs : List ℕ) (n past : ℕ) → byte_at xs n ≡ Err past → (past == 0) ≡ (n == length xs)
ends_there xs n past h =
    let told = ends xs n past h in
    same_tests past 0 n (length xs) (λ e. omega (arith, e, told.0, told.1)) (λ e. omega (arith, e, told.0, told.1))

pub stands_there : (xs : List ℕ) (n b : ℕ) → byte_at xs n ≡ Ok b → false ≡ (n == length xs)
stands_there xs n b h = let lt = within xs n b h in sym (ne_eqb n (length xs) (λ e. omega (arith, e, lt)))

pub byte_there : (xs : List ℕ) (n b wanted : ℕ) → n < length xs → byte_at xs n ≡ Ok wanted → (b == wanted) ≡ (b == get_or xs n 0)
byte_there xs n b wanted lt h =
    let is : Ok (get_or xs n 0) ≡ Ok wanted = sym (byte_is xs n lt) ∙ h in
    let same : wanted ≡ get_or xs n 0 = cc in
    ap (λ (k : ℕ). b == k) same

pub none_there : (xs : List ℕ) (n past : ℕ) (A : Type 0) → n < length xs → byte_at xs n ≡ Err past → A
none_there xs n past A lt h = let told = ends xs n past h in absurd (omega (arith, told.0, lt))

-- a front of a shape, with the byte behind it; and one behind which nothing is left
module _ (shape items : List ℕ) (front : items ++ drop (length items) shape ≡ shape) where
  one_longer : (new : List ℕ) (b : ℕ) → new ≡ items ++ b ∷ [] → length new ≡ length items + 1
  one_longer new b e = omega (arith, ap length e, length-append items (b ∷ []))

  pub front_longer : (new : List ℕ) (b : ℕ) → byte_at shape (length items) ≡ Ok b → new ≡ items ++ b ∷ [] → new ++ drop (length new) shape ≡ shape
  front_longer new b h e =
      ap (λ (k : ℕ). new ++ drop k shape) (one_longer new b e)
      ∙ ap (λ (xs : List ℕ). xs ++ drop (length items + 1) shape) e
      ∙ append_assoc items (b ∷ []) (drop (length items + 1) shape)
      ∙ sym (from_there (λ (xs : List ℕ). items ++ xs) shape (length items) b h)
      ∙ front

  pub fewer_left : (new : List ℕ) (b : ℕ) → byte_at shape (length items) ≡ Ok b → new ≡ items ++ b ∷ [] → length shape - length new < length shape - length items
  fewer_left new b h e = omega (arith, one_longer new b e, within shape (length items) b h)

  pub front_whole : (past : ℕ) → byte_at shape (length items) ≡ Err past → items ≡ shape
  front_whole past h =
      sym (append-nil items) ∙ ap (λ (xs : List ℕ). items ++ xs) (sym (drop_all (length items) shape (ends shape (length items) past h).0)) ∙ front
