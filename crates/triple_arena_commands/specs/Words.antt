-- The first word of a line, and its value.
use Rattle.std.specs.Prelude.{◌≡◌, ℕ, List, ◌∷◌, Option, None, Some}
use Rattle.triple_arena_commands.specs.Lines.{words_of, parts_after}

module _ {A : Type 0} (value : List ℕ → Option A) where
  -- the first word of a line has this value, and this is what follows the word, where there is more
  abbrev pub FirstIs : List ℕ → A → Option (List ℕ) → Type 0
  FirstIs line a rest = (word : List ℕ) × (words_of line ≡ word ∷ parts_after 32 rest) × (value word ≡ Some a)

  -- the first word of a line has no value
  abbrev pub FirstIsNone : List ℕ → Type 0
  FirstIsNone line = (word : List ℕ) × (words : List (List ℕ)) × (words_of line ≡ word ∷ words) × (value word ≡ None)
