-- Coupons, and their file.
use Rattle.std.specs.Prelude.{ℕ, ◌^◌, ◌-◌, suc, Bool, true, ◌∷◌, [], List, Option, None}
use Rattle.std.specs.Int.{w16, w64}
use Rattle.triple_arena_ptr.specs.Numbers.{counting_to}
use Rattle.triple_arena_ptr.specs.Pointers.{Pointer}
use Rattle.triple_arena_ptr.specs.declared.P3.{P3}
use Rattle.triple_arena.specs.ArenaState.{ArenaState}
use Rattle.triple_arena_direct.specs.StrictAnswers.{is_exhausted}
use Rattle.triple_arena_snapshot.specs.Coding.{Coding, Reading}
use Rattle.triple_arena_snapshot.specs.Layouts.{number, positive}
use Rattle.triple_arena_snapshot.specs.laws.CodingLaws.{wide16, wide64}
use Rattle.triple_arena_snapshot.specs.ArenaCodings.{arena_content}
use Rattle.triple_arena_snapshot.specs.Files.{file_of, file_reading}
use Rattle.triple_arena_snapshot.specs.StrictFiles.{strict_arena_coding}
use Rattle.triple_arena_snapshot.specs.Shapes.{strict_arena_shape}

-- the numbers of a coupon's index and of its generation
abbrev pub coupon_numbers : P3 → Pointer
coupon_numbers coupon = (suc coupon.0, suc coupon.1)

-- were a coupon redeemed, it could be given again
abbrev pub are_used_up : ArenaState ℕ → Bool
are_used_up coupons = is_exhausted (counting_to (2 ^ 16 - 1)) coupons

-- what a file has of coupons
abbrev pub CouponsContent : Type 0
CouponsContent = List (Option (ℕ × ℕ)) × (ℕ × List ℕ)

abbrev pub coupons_content : ArenaState ℕ → CouponsContent
coupons_content coupons = arena_content (λ n. n) coupons

-- how coupons stand in a file
abbrev pub coupon_coding : Coding CouponsContent
coupon_coding = strict_arena_coding true (2 ^ 16 - 1) 2 None (positive (number w16 (2 ^ 16) wide16)) (number w64 (2 ^ 64) wide64)

-- a strict arena of `u64`
abbrev pub coupons_shape : List ℕ
coupons_shape = strict_arena_shape (4 ∷ [])

-- what is read of a file
abbrev pub coupons_reading : List ℕ → Reading CouponsContent
coupons_reading bytes = file_reading coupons_shape coupon_coding.decoding bytes

-- what fits in a file of coupons
abbrev pub FitInFile : ArenaState ℕ → Type 0
FitInFile coupons = coupon_coding.fits (coupons_content coupons)

-- their file
abbrev pub file_of_coupons : ArenaState ℕ → List ℕ
file_of_coupons coupons = file_of coupons_shape (coupon_coding.encoding (coupons_content coupons))
