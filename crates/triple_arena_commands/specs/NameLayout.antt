-- What the fields of a table of names hold. No public clause cites this module.
use Rattle.std.specs.Prelude.{◌≡◌, ℕ, List, Option, map, MatchOption}
use Rattle.triple_arena_base.specs.Held.{recast_item}
use Rattle.triple_arena_traits.specs.Items.{item, with_item}
use Rattle.triple_arena_commands.specs.declared.name_table.Row.{Row}

-- the pointers of rows
abbrev pub pointers_of : {P : Type 0} → List (Row P) → List P
pointers_of rows = map (λ row. row.pointer) rows

-- the item of a number was replaced by its image, if it has one
abbrev pub RecastsAt : {A : Type 0} → (A → Option A) → ℕ → List A → List A → Type 0
RecastsAt image n old new = MatchOption (item old n) (new ≡ old) (λ x. new ≡ with_item old n (recast_item (image x) x))
