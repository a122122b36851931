-- CRC-32C: what the division of bytes by Castagnoli's polynomial leaves, in bits of which the lowest is the first.
use Rattle.std.specs.Prelude.{ℕ, zero, suc, ◌/◌, ◌%◌, ◌==◌, ◌&&◌, Bool, true, if◌then◌else◌, List, [], ◌∷◌, ◌++◌, bit_xor}
use Rattle.std.specs.Int.{w32, to_le_bytes}

-- one step of the division
abbrev pub shifted : ℕ → ℕ
shifted n = if n % 2 == 0 then n / 2 else bit_xor (n / 2) 0x82F63B78

-- so many steps
unfoldable pub divided : ℕ → ℕ → ℕ
divided zero n = n
divided (suc steps) n = divided steps (shifted n)

-- whether these are what eight steps leave of the numbers from this one on
unfoldable pub are_left : List ℕ → ℕ → Bool
unfolding divided
are_left [] n = true
are_left (x ∷ xs) n = (x == divided 8 n) && are_left xs (suc n)

-- what is left of a remainder, with a byte behind it
unfoldable pub step : ℕ → ℕ → ℕ
step left byte = divided 8 (bit_xor left (byte % 256))

-- what is left of a remainder, with bytes behind it
abbrev pub remainder : ℕ → List ℕ → ℕ
remainder left [] = left
remainder left (b ∷ bytes) = remainder (step left b) bytes

-- the checksum of bytes: the remainder, of which the bits are turned over at the start and at the end
abbrev pub crc32c : List ℕ → ℕ
crc32c bytes = bit_xor (remainder 0xFFFFFFFF bytes) 0xFFFFFFFF

-- bytes, and their checksum behind them
abbrev pub sealed : List ℕ → List ℕ
sealed bytes = bytes ++ to_le_bytes w32 (crc32c bytes)
