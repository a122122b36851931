-- A book of guests: who is there, who came, and whether pointers may come again.
use Rattle.std.specs.Prelude.{◌≡◌, ◌-◌, ◌^◌, ℕ, Bool, false, List}
use Rattle.triple_arena_ptr.specs.Numbers.{counting_to, wraps}
use Rattle.triple_arena_ptr.specs.Pointers.{Pointer}
use Rattle.triple_arena.specs.ArenaState.{ArenaState}
use Rattle.triple_arena.specs.Histories.{History, given, Fits}

-- the guests who are there; the pointer of each who came, in their order; and whether the counter of generations wrapped
pub record BookState : Type 0 where
  pub guests : ArenaState ℕ
  pub came : List Pointer
  pub wrapped : Bool

-- the counter stands at the greatest generation, so that it wraps when the next guest leaves
abbrev pub is_before_wrap : BookState → Bool
is_before_wrap book = wraps (counting_to (2 ^ 64 - 1)) book.guests.counter

-- as long as no counter wrapped, the pointers of those who came are those that the arena gave
abbrev pub ListsAll : BookState → Type 0
ListsAll book = book.wrapped ≡ false → (h : History) × Fits h book.guests × (given h ≡ book.came)
