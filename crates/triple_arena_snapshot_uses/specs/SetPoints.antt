-- Set points, and their file.
use Rattle.std.specs.Prelude.{ℕ, ◌-◌, ◌^◌, ◌∷◌, [], List, Option, Some}
use Rattle.triple_arena.specs.ArenaState.{ArenaState}
use Rattle.triple_arena_snapshot.specs.Coding.{Coding, Reading}
use Rattle.triple_arena_snapshot.specs.Layouts.{positive}
use Rattle.triple_arena_snapshot.specs.ArenaCodings.{arena_content}
use Rattle.triple_arena_snapshot.specs.ArenaLayouts.{arena_coding}
use Rattle.triple_arena_snapshot.specs.Shapes.{arena_shape}
use Rattle.triple_arena_snapshot.specs.Files.{file_of, file_reading}
use Rattle.triple_arena_snapshot_uses.specs.Circuit.{wide}

-- what a file has of set points
abbrev pub SetPointsContent : Type 0
SetPointsContent = List (Option (ℕ × ℕ)) × (ℕ × List ℕ)

abbrev pub set_points_content : ArenaState ℕ → SetPointsContent
set_points_content points = arena_content (λ n. n) points

-- how they stand as bytes, where the stack has this limit
abbrev pub set_points_coding : Option ℕ → Coding SetPointsContent
set_points_coding limit = arena_coding (2 ^ 64 - 1) 8 limit (positive wide) wide

-- what fits in a file under this limit
abbrev pub FitUnder : Option ℕ → ArenaState ℕ → Type 0
FitUnder limit points = (set_points_coding limit).fits (set_points_content points)

-- their file, which is the same under each limit; 4 is the shape of a `u64`
abbrev pub file_of_set_points : ArenaState ℕ → List ℕ
file_of_set_points points = file_of (arena_shape (4 ∷ [])) ((set_points_coding points.limit).encoding (set_points_content points))

-- what is read of a file into the places of the controller
abbrev pub set_points_reading : List ℕ → Reading SetPointsContent
set_points_reading bytes = file_reading (arena_shape (4 ∷ [])) (set_points_coding (Some 16)).decoding bytes
