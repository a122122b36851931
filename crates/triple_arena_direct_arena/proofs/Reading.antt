-- What a call that reads an entry finds.
use Rattle.std.proofs.Common.{◌≡◌, Option, Some, None, is_some, IsSome, option_copied, refl, sym, ap, ◌∙◌, true≢false}
use Rattle.std.specs.Borrow.{Bor}

-- what is read is there where the value is there
pub some_read : {A : Type 0} (o : Option (Bor A)) (p : Option A) → option_copied o ≡ p → IsSome p → IsSome o
some_read None p is there = absurd (true≢false (sym (ap is_some is ∙ there)))
some_read (Some x) p is there = refl
