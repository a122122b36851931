-- How arenas stand as bytes.
use Rattle.std.specs.Prelude.{ℕ, ◌==◌, ◌++◌, ◌&&◌, Bool, true, false, if◌then◌else◌, cond, List, [], ◌∷◌, map, length, count_by, Option, Some, None, Ok, Err, min}
use Rattle.std.specs.Int.{w64, to_le_bytes}
use Rattle.std.specs.Option.{option_map}
use Rattle.triple_arena_traits.specs.Items.{item}
use Rattle.triple_arena_traits.specs.ArenaState.{ArenaState, map_entry}
use Rattle.triple_arena_traits.specs.FreeList.{gaps}
use Rattle.triple_arena_snapshot.specs.declared.fault.Fault.TheVariants.{Cut, Width, FreeList}
use Rattle.triple_arena_snapshot.specs.Coding.{Reading, Decoded, ◌>>=◌}
use Rattle.triple_arena_snapshot.specs.Codings.{number_at_front}

-- how many slots there may be, by a limit, if there is one, and by the greatest index
abbrev pub most_slots : (limit : Option ℕ) (greatest : ℕ) → ℕ
most_slots None greatest = greatest
most_slots (Some limit) greatest = min limit greatest

-- in front of an arena its pointers' greatest index and the width of their generations
abbrev pub headed_bytes : {K : Type 0} (greatest width : ℕ) → (K → List ℕ) → K → List ℕ
headed_bytes greatest width encoding k = to_le_bytes w64 greatest ++ width ∷ encoding k

abbrev pub width_at_front : ℕ → List ℕ → Reading (List ℕ)
width_at_front width [] = Err (Cut, 0)
width_at_front width (b ∷ bytes) = if b == width then Ok bytes else Err (Width, length (b ∷ bytes))

abbrev pub header_at_front : (greatest width : ℕ) → List ℕ → Reading (List ℕ)
header_at_front greatest width bytes =
    number_at_front w64 bytes >>= λ n. if n.0 == greatest then width_at_front width n.1 else Err (Width, length bytes)

abbrev pub headed_at_front : {K : Type 0} (greatest width : ℕ) → (List ℕ → Decoded K) → List ℕ → Decoded K
headed_at_front greatest width decoding bytes = header_at_front greatest width bytes >>= decoding

-- how often an index stands in a list
abbrev pub times : ℕ → List ℕ → ℕ
times i indexes = count_by (λ j. j == i) indexes

-- each index that stands in either list stands as often in the other
abbrev pub all_alike : List ℕ → List ℕ → List ℕ → Bool
all_alike [] xs ys = true
all_alike (i ∷ is) xs ys = (times i xs == times i ys) && all_alike is xs ys

abbrev pub is_reordered : List ℕ → List ℕ → Bool
is_reordered xs ys = all_alike (xs ++ ys) xs ys

-- these are the indexes of the free slots, each once
abbrev pub are_free : {A : Type 0} → List (Option A) → List ℕ → Bool
are_free slots free = is_reordered free (gaps 1 slots)

-- slots, and behind them the counter and the free indexes in their order
abbrev pub arena_at_front : {A : Type 0} → (List ℕ → Decoded (List (Option A))) → (List ℕ → Decoded ℕ) → (List ℕ → Decoded (List ℕ)) → List ℕ → Decoded (List (Option A) × (ℕ × List ℕ))
arena_at_front slots counter free bytes =
    slots bytes >>= λ s. counter s.1 >>= λ n. free n.1
    >>= λ f. if are_free s.0 f.0 then Ok ((s.0, (n.0, f.0)), f.1) else Err (FreeList, length n.1)

-- what an arena holds, but for room, limit, greatest index and count of steps
abbrev pub arena_content : {T K : Type 0} → (T → K) → ArenaState T → List (Option (ℕ × K)) × (ℕ × List ℕ)
arena_content content s = (map (option_map (map_entry content)) s.slots, (s.counter, s.free))

-- the mark of an index; none past the marks
abbrev pub is_marked : Option Bool → Bool
is_marked None = false
is_marked (Some b) = b

abbrev pub mark_at : List Bool → ℕ → Bool
mark_at marks i = is_marked (item marks i)

abbrev pub bit : Bool → ℕ
bit b = cond b 1 0
