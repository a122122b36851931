-- What a free slot links to.
use Rattle.std.specs.Prelude.{ℕ}

-- the free index before it and the one after it, its own where there is none
pub record Link : Type 0 where
  pub previous : ℕ
  pub next : ℕ
