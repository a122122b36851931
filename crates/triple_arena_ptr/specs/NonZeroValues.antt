-- The values of the `NonZero` types: each is its number, and each number has the value after it.
use Rattle.std.specs.Prelude.{◌≡◌, ℕ, suc, ◌-◌, ◌<◌, refl}
use Rattle.std.proofs.Common.{ap, sym, subst, ◌∙◌, arith}
use Rattle.std.specs.Coded.{le_prop}
use Rattle.std.specs.declared.num.NonZeroU8.{NonZeroU8}
use Rattle.std.specs.declared.num.NonZeroU16.{NonZeroU16}
use Rattle.std.specs.declared.num.NonZeroU32.{NonZeroU32}
use Rattle.std.specs.declared.num.NonZeroU64.{NonZeroU64}
use Rattle.std.specs.declared.num.NonZeroU128.{NonZeroU128}
use Rattle.std.specs.declared.num.NonZeroUsize.{NonZeroUsize}
use Rattle.std.specs.Int.NonZero.{non_zero_u8_get, non_zero_u16_get, non_zero_u32_get, non_zero_u64_get, non_zero_u128_get, non_zero_usize_get}

pub after_is_positive : (n : ℕ) → 0 < suc n
after_is_positive n = omega arith

pub suc_before : (n : ℕ) → 0 < n → suc (n - 1) ≡ n
suc_before n h = omega (arith, h)

suc_cancels : (m n : ℕ) → suc m ≡ suc n → m ≡ n
suc_cancels m n e = omega (arith, e)

-- equal parts make an equal whole
pub same_whole : {A B C : Type 0} (make : A → B → C) (a b : A) (c d : B)
    → a ≡ b → c ≡ d → make a c ≡ make b d
same_whole make a b c d e f = ap (λ x. make x c) e ∙ ap (make b) f

pub same_pair_of : {A B : Type 0} (p q : A × B) → p.0 ≡ q.0 → p.1 ≡ q.1 → p ≡ q
same_pair_of p q e f = same_whole (λ a b. (a, b)) p.0 q.0 p.1 q.1 e f

pub same_pair : (p q : ℕ × ℕ) → p.0 ≡ q.0 → p.1 ≡ q.1 → p ≡ q
same_pair = same_pair_of

-- two positive numbers are the ones after those before them
pub remade : {C : Type 0} (make : ℕ → ℕ → C) (m n : ℕ) → 0 < m → 0 < n
    → make (suc (m - 1)) (suc (n - 1)) ≡ make m n
remade make m n h k =
    same_whole make (suc (m - 1)) m (suc (n - 1)) n (suc_before m h) (suc_before n k)

-- a type whose values are made of the positive numbers
module _ {A : Type 0} (value : A → ℕ) (make : (n : ℕ) → 0 < n → A) (positive : (x : A) → 0 < value x) (back : (x : A) → make (value x) (positive x) ≡ x) where
  same_made : (m n : ℕ) → m ≡ n → (p : 0 < m) (q : 0 < n) → make m p ≡ make n q
  same_made m n e p q = let P : ℕ → Type 0 = λ k. (r : 0 < k) → make m p ≡ make k r in subst P e (λ r. ap (make m) (le_prop p r)) q

  -- a value is its number
  distinct_by : (x y : A) → value x ≡ value y → x ≡ y
  distinct_by x y e = sym (back x) ∙ same_made (value x) (value y) e (positive x) (positive y) ∙ back y

-- the value of the number after n
abbrev pub u8_after : ℕ → NonZeroU8
u8_after n = record { value = suc n; ok = after_is_positive n }

pub u8_distinct : (x y : NonZeroU8) → non_zero_u8_get x ≡ non_zero_u8_get y → x ≡ y
u8_distinct = distinct_by non_zero_u8_get (λ n p. record { value = n; ok = p }) (λ x. x.ok) (λ x. refl)

pub u8_is_after : (x : NonZeroU8) (n : ℕ) → non_zero_u8_get x ≡ n → 0 < n → x ≡ u8_after (n - 1)
u8_is_after x n e h = u8_distinct x (u8_after (n - 1)) (e ∙ sym (suc_before n h))

pub u8_after_before : (x : NonZeroU8) → u8_after (non_zero_u8_get x - 1) ≡ x
u8_after_before x = sym (u8_is_after x (non_zero_u8_get x) refl x.ok)

pub u8_after_cancels : (m n : ℕ) → u8_after m ≡ u8_after n → m ≡ n
u8_after_cancels m n e = suc_cancels m n (ap non_zero_u8_get e)

-- the value of the number after n
abbrev pub u16_after : ℕ → NonZeroU16
u16_after n = record { value = suc n; ok = after_is_positive n }

pub u16_distinct : (x y : NonZeroU16) → non_zero_u16_get x ≡ non_zero_u16_get y → x ≡ y
u16_distinct = distinct_by non_zero_u16_get (λ n p. record { value = n; ok = p }) (λ x. x.ok) (λ x. refl)

pub u16_is_after : (x : NonZeroU16) (n : ℕ) → non_zero_u16_get x ≡ n → 0 < n → x ≡ u16_after (n - 1)
u16_is_after x n e h = u16_distinct x (u16_after (n - 1)) (e ∙ sym (suc_before n h))

pub u16_after_before : (x : NonZeroU16) → u16_after (non_zero_u16_get x - 1) ≡ x
u16_after_before x = sym (u16_is_after x (non_zero_u16_get x) refl x.ok)

pub u16_after_cancels : (m n : ℕ) → u16_after m ≡ u16_after n → m ≡ n
u16_after_cancels m n e = suc_cancels m n (ap non_zero_u16_get e)

-- the value of the number after n
abbrev pub u32_after : ℕ → NonZeroU32
u32_after n = record { value = suc n; ok = after_is_positive n }

pub u32_distinct : (x y : NonZeroU32) → non_zero_u32_get x ≡ non_zero_u32_get y → x ≡ y
u32_distinct = distinct_by non_zero_u32_get (λ n p. record { value = n; ok = p }) (λ x. x.ok) (λ x. refl)

pub u32_is_after : (x : NonZeroU32) (n : ℕ) → non_zero_u32_get x ≡ n → 0 < n → x ≡ u32_after (n - 1)
u32_is_after x n e h = u32_distinct x (u32_after (n - 1)) (e ∙ sym (suc_before n h))

pub u32_after_before : (x : NonZeroU32) → u32_after (non_zero_u32_get x - 1) ≡ x
u32_after_before x = sym (u32_is_after x (non_zero_u32_get x) refl x.ok)

pub u32_after_cancels : (m n : ℕ) → u32_after m ≡ u32_after n → m ≡ n
u32_after_cancels m n e = suc_cancels m n (ap non_zero_u32_get e)

-- the value of the number after n
abbrev pub u64_after : ℕ → NonZeroU64
u64_after n = record { value = suc n; ok = after_is_positive n }

pub u64_distinct : (x y : NonZeroU64) → non_zero_u64_get x ≡ non_zero_u64_get y → x ≡ y
u64_distinct = distinct_by non_zero_u64_get (λ n p. record { value = n; ok = p }) (λ x. x.ok) (λ x. refl)

pub u64_is_after : (x : NonZeroU64) (n : ℕ) → non_zero_u64_get x ≡ n → 0 < n → x ≡ u64_after (n - 1)
u64_is_after x n e h = u64_distinct x (u64_after (n - 1)) (e ∙ sym (suc_before n h))

pub u64_after_before : (x : NonZeroU64) → u64_after (non_zero_u64_get x - 1) ≡ x
u64_after_before x = sym (u64_is_after x (non_zero_u64_get x) refl x.ok)

pub u64_after_cancels : (m n : ℕ) → u64_after m ≡ u64_after n → m ≡ n
u64_after_cancels m n e = suc_cancels m n (ap non_zero_u64_get e)

-- the value of the number after n
abbrev pub u128_after : ℕ → NonZeroU128
u128_after n = record { value = suc n; ok = after_is_positive n }

pub u128_distinct : (x y : NonZeroU128) → non_zero_u128_get x ≡ non_zero_u128_get y → x ≡ y
u128_distinct = distinct_by non_zero_u128_get (λ n p. record { value = n; ok = p }) (λ x. x.ok) (λ x. refl)

pub u128_is_after : (x : NonZeroU128) (n : ℕ) → non_zero_u128_get x ≡ n → 0 < n → x ≡ u128_after (n - 1)
u128_is_after x n e h = u128_distinct x (u128_after (n - 1)) (e ∙ sym (suc_before n h))

pub u128_after_before : (x : NonZeroU128) → u128_after (non_zero_u128_get x - 1) ≡ x
u128_after_before x = sym (u128_is_after x (non_zero_u128_get x) refl x.ok)

pub u128_after_cancels : (m n : ℕ) → u128_after m ≡ u128_after n → m ≡ n
u128_after_cancels m n e = suc_cancels m n (ap non_zero_u128_get e)

-- the value of the number after n
abbrev pub usize_after : ℕ → NonZeroUsize
usize_after n = record { value = suc n; ok = after_is_positive n }

pub usize_distinct : (x y : NonZeroUsize) → non_zero_usize_get x ≡ non_zero_usize_get y → x ≡ y
usize_distinct = distinct_by non_zero_usize_get (λ n p. record { value = n; ok = p }) (λ x. x.ok) (λ x. refl)

pub usize_is_after : (x : NonZeroUsize) (n : ℕ) → non_zero_usize_get x ≡ n → 0 < n → x ≡ usize_after (n - 1)
usize_is_after x n e h = usize_distinct x (usize_after (n - 1)) (e ∙ sym (suc_before n h))

pub usize_after_before : (x : NonZeroUsize) → usize_after (non_zero_usize_get x - 1) ≡ x
usize_after_before x = sym (usize_is_after x (non_zero_usize_get x) refl x.ok)

pub usize_after_cancels : (m n : ℕ) → usize_after m ≡ usize_after n → m ≡ n
usize_after_cancels m n e = suc_cancels m n (ap non_zero_usize_get e)

pub unit_distinct : (x y : Unit {0}) → ◌≡◌ {A = ℕ} 1 1 → x ≡ y
unit_distinct x y e = refl
