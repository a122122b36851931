-- The table of the division is right, and the checksum finds each change of up to four bytes side by side.
use Rattle.std.proofs.Common.{◌≡◌, ◌≢◌, ℕ, zero, suc, ◌+◌, ◌-◌, ◌*◌, ◌/◌, ◌%◌, ◌^◌, ◌<◌, ◌≤◌, Bool, true, false, ◌==◌, ◌&&◌, if◌then◌else◌, List, [], ◌∷◌, ◌++◌, length, get_or, bit_xor, refl, sym, ap, ◌∙◌, subst, arith, slice_index_or}
use Rattle.std.specs.Int.Bits.{xor_self, xor_zero_l, xor_zero_r}
use Rattle.std.proofs.lemmas.Bool.{eqb-true, and_parts}
use Rattle.std.proofs.lemmas.Nat.{xor_comm, xor_lt, xor_shr, xor_mod}
use lib.Bits.{xor_assoc, xor_shifted}
use Rattle.std.specs.Int.{w32, to_le_bytes}
use Rattle.triple_arena_snapshot.specs.Checksum.{shifted, divided, are_left, step, remainder, crc32c, sealed}

-- what holds of 0 and of 1 holds of a bit
by_bit : (P : ℕ → Type 0) → P 0 → P 1 → (n : ℕ) → P (n % 2)
by_bit P p q n = of_bit (n % 2) (omega arith)
  where
    of_bit : (x : ℕ) → x < 2 → P x
    of_bit zero h = p
    of_bit (suc zero) h = q
    of_bit (suc (suc x)) h = absurd (omega (arith, h))

swapped : (p q r t : ℕ) → bit_xor (bit_xor p q) (bit_xor r t) ≡ bit_xor (bit_xor p r) (bit_xor q t)
swapped p q r t =
    xor_assoc p q (bit_xor r t)
    ∙ ap (bit_xor p) (sym (xor_assoc q r t) ∙ ap (λ (x : ℕ). bit_xor x t) (xor_comm q r) ∙ xor_assoc r q t)
    ∙ sym (xor_assoc p r (bit_xor q t))

twice : (x z : ℕ) → bit_xor (bit_xor x z) z ≡ x
twice x z = xor_assoc x z z ∙ ap (bit_xor x) (xor_self z) ∙ xor_zero_r x

xor_same : (x y z : ℕ) → bit_xor x z ≡ bit_xor y z → x ≡ y
xor_same x y z e = sym (twice x z) ∙ ap (λ (n : ℕ). bit_xor n z) e ∙ twice y z

-- a step, with no choice
shifted_is : (n : ℕ) → shifted n ≡ bit_xor (n / 2) (n % 2 * 0x82F63B78)
shifted_is n =
    by_bit (λ x. (if x == 0 then n / 2 else bit_xor (n / 2) 0x82F63B78) ≡ bit_xor (n / 2) (x * 0x82F63B78)) (sym (xor_zero_r (n / 2))) refl n

bits_xor : (a b : ℕ) → bit_xor (a % 2) (b % 2) * 0x82F63B78 ≡ bit_xor (a % 2 * 0x82F63B78) (b % 2 * 0x82F63B78)
bits_xor a b =
    by_bit (λ x. bit_xor x (b % 2) * 0x82F63B78 ≡ bit_xor (x * 0x82F63B78) (b % 2 * 0x82F63B78))
    (by_bit (λ y. bit_xor 0 y * 0x82F63B78 ≡ bit_xor (0 * 0x82F63B78) (y * 0x82F63B78)) refl refl b)
    (by_bit (λ y. bit_xor 1 y * 0x82F63B78 ≡ bit_xor (1 * 0x82F63B78) (y * 0x82F63B78)) refl refl b) a

shifted-xor : (a b : ℕ) → shifted (bit_xor a b) ≡ bit_xor (shifted a) (shifted b)
shifted-xor a b =
    shifted_is (bit_xor a b)
    ∙ ap (λ (n : ℕ). bit_xor n (bit_xor a b % 2 * 0x82F63B78)) (xor_shr a b 1)
    ∙ ap (λ (n : ℕ). bit_xor (bit_xor (a / 2) (b / 2)) (n * 0x82F63B78)) (xor_mod a b 1)
    ∙ ap (bit_xor (bit_xor (a / 2) (b / 2))) (bits_xor a b)
    ∙ swapped (a / 2) (b / 2) (a % 2 * 0x82F63B78) (b % 2 * 0x82F63B78)
    ∙ sym (ap (λ (n : ℕ). bit_xor n (shifted b)) (shifted_is a) ∙ ap (bit_xor (bit_xor (a / 2) (a % 2 * 0x82F63B78))) (shifted_is b))

divided-xor : (n a b : ℕ) → divided n (bit_xor a b) ≡ bit_xor (divided n a) (divided n b)
unfolding divided
divided-xor zero a b = refl
divided-xor (suc n) a b = ap (divided n) (shifted-xor a b) ∙ divided-xor n (shifted a) (shifted b)

shifted_even : (m n : ℕ) → n ≡ m * 2 → shifted n ≡ m
shifted_even m n e =
    let none : n % 2 ≡ 0 = omega (arith, e) in
    shifted_is n ∙ ap (λ (x : ℕ). bit_xor (n / 2) (x * 0x82F63B78)) none ∙ xor_zero_r (n / 2) ∙ omega (arith, e)

-- eight steps of what is above a byte
divided_above : (q : ℕ) → divided 8 (q * 256) ≡ q
unfolding divided
divided_above q =
    ap (divided 7) (shifted_even (q * 128) (q * 256) (omega arith)) ∙ ap (divided 6) (shifted_even (q * 64) (q * 128) (omega arith))
    ∙ ap (divided 5) (shifted_even (q * 32) (q * 64) (omega arith)) ∙ ap (divided 4) (shifted_even (q * 16) (q * 32) (omega arith))
    ∙ ap (divided 3) (shifted_even (q * 8) (q * 16) (omega arith)) ∙ ap (divided 2) (shifted_even (q * 4) (q * 8) (omega arith))
    ∙ ap (divided 1) (shifted_even (q * 2) (q * 4) (omega arith)) ∙ ap (divided 0) (shifted_even q (q * 2) (omega arith))

left_at : (xs : List ℕ) (i j : ℕ) → are_left xs i ≡ true → j < length xs → get_or xs j 0 ≡ divided 8 (i + j)
unfolding are_left
left_at [] i j are lt = absurd (omega (arith, lt))
left_at (x ∷ xs) i zero are lt = let here : i ≡ i + 0 = omega arith in eqb-true _ _ (and_parts _ _ are).0 ∙ ap (divided 8) here
left_at (x ∷ xs) i (suc j) are lt =
    let further : suc i + j ≡ i + suc j = omega arith in left_at xs (suc i) j (and_parts _ _ are).1 (omega (arith, lt)) ∙ ap (divided 8) further

-- a step by a table of what is left of each byte
pub table_step : (table : List ℕ) (s b : ℕ) → are_left table 0 ≡ true → length table ≡ 256 → s < 2 ^ 32 → b < 2 ^ 8
    → bit_xor (slice_index_or table (bit_xor s b % 256) 0) (s / 256) ≡ step s b
unfolding step
table_step table s b are long hs hb =
    let v = bit_xor s (b % 256) in
    let byte : b % 256 ≡ b = omega (arith, hb) in
    let index : bit_xor s b % 256 ≡ v % 256 = ap (λ (n : ℕ). bit_xor s n % 256) (sym byte) in
    let from_none : 0 + v % 256 ≡ v % 256 = omega arith in
    let at : get_or table (v % 256) 0 ≡ divided 8 (v % 256) = left_at table 0 (v % 256) are (omega (arith, long)) ∙ ap (divided 8) from_none in
    let low : b % 256 / 256 ≡ 0 = omega arith in
    let above : v / 256 ≡ s / 256 = xor_shr s (b % 256) 8 ∙ ap (bit_xor (s / 256)) low ∙ xor_zero_r (s / 256) in
    let split : v ≡ v / 256 * 256 + v % 256 = omega arith in
    let parts : v ≡ bit_xor (v / 256 * 256) (v % 256) = split ∙ sym (xor_shifted (v / 256) 8 (v % 256) (omega arith)) in
    ap (λ (i : ℕ). bit_xor (get_or table i 0) (s / 256)) index
    ∙ ap (λ (x : ℕ). bit_xor x (s / 256)) at
    ∙ xor_comm (divided 8 (v % 256)) (s / 256)
    ∙ ap (λ (x : ℕ). bit_xor x (divided 8 (v % 256))) (sym above ∙ sym (divided_above (v / 256)))
    ∙ sym (divided-xor 8 (v / 256 * 256) (v % 256))
    ∙ ap (divided 8) (sym parts)

shifted-lt : (n : ℕ) → n < 2 ^ 32 → shifted n < 2 ^ 32
shifted-lt n h = subst (λ (x : ℕ). x < 2 ^ 32) (sym (shifted_is n)) (xor_lt 32 (n / 2) (n % 2 * 0x82F63B78) (omega (arith, h)) (omega arith))

highest : (n : ℕ) → n < 2 ^ 32 → bit_xor (n / 2) (n % 2 * 0x82F63B78) / 2 ^ 31 ≡ n % 2
highest n h =
    let none : n / 2 / 2 ^ 31 ≡ 0 = omega (arith, h) in
    xor_shr (n / 2) (n % 2 * 0x82F63B78) 31 ∙ ap (λ (x : ℕ). bit_xor x (n % 2 * 0x82F63B78 / 2 ^ 31)) none ∙ omega arith

-- of different numbers different ones are left: the highest bit of what is left is the lowest one of the number
shifted_same : (m n : ℕ) → m < 2 ^ 32 → n < 2 ^ 32 → shifted m ≡ shifted n → m ≡ n
shifted_same m n hm hn e =
    let is : bit_xor (m / 2) (m % 2 * 0x82F63B78) ≡ bit_xor (n / 2) (n % 2 * 0x82F63B78) = sym (shifted_is m) ∙ e ∙ shifted_is n in
    let lowest : m % 2 ≡ n % 2 = sym (highest m hm) ∙ ap (λ (x : ℕ). x / 2 ^ 31) is ∙ highest n hn in
    let rest : m / 2 ≡ n / 2 = xor_same (m / 2) (n / 2) (n % 2 * 0x82F63B78) (ap (λ (x : ℕ). bit_xor (m / 2) (x * 0x82F63B78)) (sym lowest) ∙ is) in
    omega (arith, lowest, rest)

divided-lt : (k n : ℕ) → n < 2 ^ 32 → divided k n < 2 ^ 32
unfolding divided
divided-lt zero n h = h
divided-lt (suc k) n h = divided-lt k (shifted n) (shifted-lt n h)

divided_same : (k m n : ℕ) → m < 2 ^ 32 → n < 2 ^ 32 → divided k m ≡ divided k n → m ≡ n
unfolding divided
divided_same zero m n hm hn e = e
divided_same (suc k) m n hm hn e = shifted_same m n hm hn (divided_same k (shifted m) (shifted n) (shifted-lt m hm) (shifted-lt n hn) e)

step-lt : (s b : ℕ) → s < 2 ^ 32 → step s b < 2 ^ 32
unfolding step
step-lt s b h = divided-lt 8 (bit_xor s (b % 256)) (xor_lt 32 s (b % 256) h (omega arith))

step_same : (s t b : ℕ) → s < 2 ^ 32 → t < 2 ^ 32 → step s b ≡ step t b → s ≡ t
unfolding step
step_same s t b hs ht e =
    xor_same s t (b % 256) (divided_same 8 _ _ (xor_lt 32 s (b % 256) hs (omega arith)) (xor_lt 32 t (b % 256) ht (omega arith)) e)

pub remainder-lt : (s : ℕ) (bytes : List ℕ) → s < 2 ^ 32 → remainder s bytes < 2 ^ 32
remainder-lt s [] h = h
remainder-lt s (b ∷ bytes) h = remainder-lt (step s b) bytes (step-lt s b h)

pub remainder-append : (s : ℕ) (xs ys : List ℕ) → remainder s (xs ++ ys) ≡ remainder (remainder s xs) ys
remainder-append s [] ys = refl
remainder-append s (x ∷ xs) ys = remainder-append (step s x) xs ys

-- the number whose bytes these are, the lowest first
abbrev of_bytes : List ℕ → ℕ
of_bytes [] = 0
of_bytes (b ∷ bytes) = of_bytes bytes * 256 + b % 256

-- eight steps, so many times
abbrev eights : ℕ → ℕ → ℕ
eights zero n = n
eights (suc k) n = eights k (divided 8 n)

-- bytes are divided as the number that they are
at_once : (s : ℕ) (bytes : List ℕ) → remainder s bytes ≡ eights (length bytes) (bit_xor s (of_bytes bytes))
unfolding step
at_once s [] = sym (xor_zero_r s)
at_once s (b ∷ bytes) =
    let w = of_bytes bytes in
    let word : bit_xor (bit_xor s (b % 256)) (w * 256) ≡ bit_xor s (w * 256 + b % 256) =
    xor_assoc s (b % 256) (w * 256) ∙ ap (bit_xor s) (xor_comm (b % 256) (w * 256) ∙ xor_shifted w 8 (b % 256) (omega arith)) in
    at_once (step s b) bytes
    ∙ ap (eights (length bytes)) (ap (bit_xor (step s b)) (sym (divided_above w)) ∙ sym (divided-xor 8 (bit_xor s (b % 256)) (w * 256)) ∙ ap (divided 8) word)

eights_same : (k m n : ℕ) → m < 2 ^ 32 → n < 2 ^ 32 → eights k m ≡ eights k n → m ≡ n
eights_same zero m n hm hn e = e
eights_same (suc k) m n hm hn e = divided_same 8 m n hm hn (eights_same k (divided 8 m) (divided 8 n) (divided-lt 8 m hm) (divided-lt 8 n hn) e)

of_bytes-lt : (bytes : List ℕ) → length bytes ≤ 4 → of_bytes bytes < 2 ^ 32
of_bytes-lt [] h = omega arith
of_bytes-lt (a ∷ []) h = omega arith
of_bytes-lt (a ∷ b ∷ []) h = omega arith
of_bytes-lt (a ∷ b ∷ c ∷ []) h = omega arith
of_bytes-lt (a ∷ b ∷ c ∷ d ∷ []) h = omega arith
of_bytes-lt (a ∷ b ∷ c ∷ d ∷ e ∷ bytes) h = absurd (omega (arith, h))

-- each is a byte
abbrev pub Bytes : List ℕ → Type 0
Bytes xs = (i : ℕ) → get_or xs i 0 < 256

of_bytes_same : (xs ys : List ℕ) → length xs ≡ length ys → Bytes xs → Bytes ys → of_bytes xs ≡ of_bytes ys → xs ≡ ys
of_bytes_same [] [] long p q e = refl
of_bytes_same [] (y ∷ ys) long p q e = absurd (omega (arith, long))
of_bytes_same (x ∷ xs) [] long p q e = absurd (omega (arith, long))
of_bytes_same (x ∷ xs) (y ∷ ys) long p q e =
    let first : x ≡ y = omega (arith, e, p 0, q 0) in
    let rest : xs ≡ ys = of_bytes_same xs ys (omega (arith, long)) (λ i. p (suc i)) (λ i. q (suc i)) (omega (arith, e)) in
    ap (λ (n : ℕ). n ∷ xs) first ∙ ap (λ (ns : List ℕ). y ∷ ns) rest

-- of different remainders different ones are left by the same bytes
remainder_same : (s t : ℕ) (bytes : List ℕ) → s < 2 ^ 32 → t < 2 ^ 32 → remainder s bytes ≡ remainder t bytes → s ≡ t
remainder_same s t [] hs ht e = e
remainder_same s t (b ∷ bytes) hs ht e = step_same s t b hs ht (remainder_same (step s b) (step t b) bytes (step-lt s b hs) (step-lt t b ht) e)

-- and by up to four bytes, different ones of different bytes
burst_same : (s : ℕ) (xs ys : List ℕ) → s < 2 ^ 32 → length xs ≡ length ys → length xs ≤ 4 → Bytes xs → Bytes ys → remainder s xs ≡ remainder s ys → xs ≡ ys
burst_same s xs ys hs long few p q e =
    let m = bit_xor s (of_bytes xs) in
    let n = bit_xor s (of_bytes ys) in
    let same : eights (length xs) m ≡ eights (length xs) n = sym (at_once s xs) ∙ e ∙ at_once s ys ∙ ap (λ (k : ℕ). eights k n) (sym long) in
    let words : m ≡ n = eights_same (length xs) m n (xor_lt 32 s (of_bytes xs) hs (of_bytes-lt xs few)) (xor_lt 32 s (of_bytes ys) hs (of_bytes-lt ys (omega (arith, long, few)))) same in
    of_bytes_same xs ys long p q (xor_same (of_bytes xs) (of_bytes ys) s (xor_comm (of_bytes xs) s ∙ words ∙ xor_comm s (of_bytes ys)))

-- the checksum is below 2 ^ 32
pub crc32c-lt : (bytes : List ℕ) → crc32c bytes < 2 ^ 32
crc32c-lt bytes = xor_lt 32 (remainder 0xFFFFFFFF bytes) 0xFFFFFFFF (remainder-lt 0xFFFFFFFF bytes (omega arith)) (omega arith)

word_of : (n : ℕ) → n < 2 ^ 32 → of_bytes (to_le_bytes w32 n) ≡ n
word_of n h = omega (arith, h)

-- what is left of bytes with their checksum is the same for all bytes
sealed_left : (bytes : List ℕ) → remainder 0xFFFFFFFF (sealed bytes) ≡ eights 4 0xFFFFFFFF
sealed_left bytes =
    let s = remainder 0xFFFFFFFF bytes in
    remainder-append 0xFFFFFFFF bytes (to_le_bytes w32 (crc32c bytes))
    ∙ at_once s (to_le_bytes w32 (crc32c bytes))
    ∙ ap (λ (n : ℕ). eights 4 (bit_xor s n)) (word_of (crc32c bytes) (crc32c-lt bytes))
    ∙ ap (eights 4) (sym (xor_assoc s s 0xFFFFFFFF) ∙ ap (λ (n : ℕ). bit_xor n 0xFFFFFFFF) (xor_self s))

-- so bytes with their crc32c, of which up to four side by side were changed, are none
pub change_found : (xs ys front burst other rest : List ℕ) → length burst ≡ length other → length burst ≤ 4 → Bytes burst → Bytes other
    → sealed xs ≡ front ++ (burst ++ rest) → sealed ys ≡ front ++ (other ++ rest) → burst ≡ other
change_found xs ys front burst other rest long few p q e f =
    let s = remainder 0xFFFFFFFF front in
    let hs : s < 2 ^ 32 = remainder-lt 0xFFFFFFFF front (omega arith) in
    let same : remainder 0xFFFFFFFF (front ++ (burst ++ rest)) ≡ remainder 0xFFFFFFFF (front ++ (other ++ rest)) =
    ap (remainder 0xFFFFFFFF) (sym e) ∙ sealed_left xs ∙ sym (sealed_left ys) ∙ ap (remainder 0xFFFFFFFF) f in
    let behind : (bytes : List ℕ) → remainder 0xFFFFFFFF (front ++ (bytes ++ rest)) ≡ remainder (remainder s bytes) rest =
    λ bytes. remainder-append 0xFFFFFFFF front (bytes ++ rest) ∙ remainder-append s bytes rest in
    burst_same s burst other hs long few p q
    (remainder_same (remainder s burst) (remainder s other) rest (remainder-lt s burst hs) (remainder-lt s other hs) (sym (behind burst) ∙ same ∙ behind other))

-- the vector that each implementation is tried with
pub of_digits : crc32c (49 ∷ 50 ∷ 51 ∷ 52 ∷ 53 ∷ 54 ∷ 55 ∷ 56 ∷ 57 ∷ []) ≡ 0xE3069283
unfolding divided step
of_digits = refl
