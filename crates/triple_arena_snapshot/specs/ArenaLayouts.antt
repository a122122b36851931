-- How each arena stands as bytes, with the law, in one term.
use Rattle.std.specs.Prelude.{◌≡◌, ℕ, ◌≤◌, ◌^◌, true, List, length, Option}
use Rattle.std.specs.Int.{w64}
use Rattle.std.specs.List.{AllByRecursion}
use Rattle.triple_arena_ptr.specs.Numbers.{greatest_index}
use Rattle.triple_arena_snapshot.specs.Coding.{Coding}
use Rattle.triple_arena_snapshot.specs.Codings.{pair_bytes, list_bytes, list_within}
use Rattle.triple_arena_snapshot.specs.Layouts.{number, positive, option, both, list}
use Rattle.triple_arena_snapshot.specs.ArenaCodings.{most_slots, headed_bytes, headed_at_front, are_free, arena_at_front}
use Rattle.triple_arena_snapshot.specs.laws.CodingLaws.{wide64, within_again}
use Rattle.triple_arena_snapshot.specs.laws.ArenaCodingLaws.{greatest_below, most_below, headed_again, arena_again}

-- in front the greatest index, that of a type whose indexes end at `last`, and the width of generations
abbrev pub headed : {K : Type 0} (last width : ℕ) → Coding K → Coding K
headed last width c = record {
  fits = c.fits;
  encoding = headed_bytes (greatest_index last) width c.encoding;
  decoding = headed_at_front (greatest_index last) width c.decoding;
  decodes = headed_again c.fits c.encoding c.decoding c.decodes (greatest_index last) width (greatest_below last);
}

-- slots, at most so many as a limit allows, and as there are indexes
abbrev pub slots : {K : Type 0} (limit : Option ℕ) (last : ℕ) → Coding K → Coding (List K)
slots limit last c = record {
  fits = λ ks. (length ks ≤ most_slots limit (greatest_index last)) × AllByRecursion c.fits ks;
  encoding = list_bytes c.encoding;
  decoding = list_within (most_slots limit (greatest_index last)) c.decoding;
  decodes = within_again c.fits c.encoding c.decoding c.decodes (most_slots limit (greatest_index last)) (most_below limit last);
}

-- slots, the counter, and the free indexes in their order, which are those of the free slots
abbrev pub with_free : {A : Type 0} → Coding (List (Option A)) → Coding ℕ → Coding (List ℕ) → Coding (List (Option A) × (ℕ × List ℕ))
with_free slots counter free = record {
  fits = λ k. slots.fits k.0 × (counter.fits k.1.0 × (free.fits k.1.1 × (are_free k.0 k.1.1 ≡ true)));
  encoding = pair_bytes slots.encoding (pair_bytes counter.encoding free.encoding);
  decoding = arena_at_front slots.decoding counter.decoding free.decoding;
  decodes = arena_again slots.fits slots.encoding slots.decoding slots.decodes counter.fits counter.encoding counter.decoding counter.decodes free.fits free.encoding free.decoding free.decodes;
}

-- an index
abbrev pub index : Coding ℕ
index = positive (number w64 (2 ^ 64) wide64)

-- a direct arena, by how a generation and a value stand
abbrev pub direct_arena_coding : {K : Type 0} (last width : ℕ) (limit : Option ℕ) → Coding ℕ → Coding K → Coding (List (Option (ℕ × K)))
direct_arena_coding last width limit generation value = headed last width (slots limit last (option (both generation value)))

-- an arena
abbrev pub arena_coding : {K : Type 0} (last width : ℕ) (limit : Option ℕ) → Coding ℕ → Coding K → Coding (List (Option (ℕ × K)) × (ℕ × List ℕ))
arena_coding last width limit generation value =
    headed last width (with_free (slots limit last (option (both generation value))) generation (list index))
