-- Sets of which there is none.
use Rattle.std.proofs.Common.{◌≡◌, ℕ, List, length, Option, None, IsSome, ◌∙◌, arith}
use Rattle.std.proofs.lemmas.List.{length-map}
use Rattle.triple_arena_ptr.specs.Pointers.{Pointer}
use Rattle.triple_arena.specs.Entries.{look_up, entry_count}
use Rattle.triple_arena.specs.Walks.{keys, entries}
use Rattle.triple_arena.specs.laws.WalkLaws.{live_key, length-entries}
use Rattle.triple_arena_chain.specs.Chains.{Node}
use Rattle.triple_arena_surject.specs.declared.member.Member.{Member}
use Rattle.triple_arena_surject.specs.declared.member.Shared.{Shared}
use Rattle.triple_arena_surject.specs.Rings.{counts, IsSound}
use Rattle.triple_arena_surject.proofs.Options.{some_there, some_of_map}
use Rattle.triple_arena_surject.proofs.Rounds.{no_label}

-- nothing stands among slots without entries
none_among : {T : Type 0} (slots : List (Option (ℕ × T))) → entry_count slots ≡ 0 → (c : Pointer) → IsSome (look_up slots c) → ⊥
none_among {T = T} slots none c some =
    let all : length (keys slots) ≡ entry_count slots = length-map (entries slots) (λ (e : Pointer × T). e.0) ∙ length-entries slots in
    let at = live_key slots c some in
    absurd (omega (arith, at.1, all, none))

pub sound_empty : {P K V : Type 0} (numbers : P → Pointer) (nodes : Pointer → Option (Node (Member P K))) (slots : List (Option (ℕ × Shared V))) → ((q : Pointer) → nodes q ≡ None) → entry_count slots ≡ 0
    → IsSound numbers nodes (counts slots)
sound_empty {V = V} numbers nodes slots none empty =
    record {
      counted = λ p c of. absurd (no_label numbers nodes p c (none p) of);
      rings = λ c n is. absurd (none_among slots empty c (some_of_map (λ (shared : Shared V). shared.keys) (look_up slots c) (some_there (counts slots c) n is)));
    }
