-- How the entries of a map stand as bytes, with the law, in one term.
use Rattle.std.specs.Prelude.{ℕ, ◌<◌, ◌^◌, List, length, map}
use Rattle.std.specs.List.{AllByRecursion}
use Rattle.std.specs.List.Sorted.{IsStrictlySortedBy}
use Rattle.std.specs.declared.cmp.Ordering.{Ordering}
use Rattle.std.specs.Map.{keys_of}
use Rattle.triple_arena_snapshot.specs.Coding.{Coding}
use Rattle.triple_arena_snapshot.specs.Codings.{pair_bytes, list_bytes}
use Rattle.triple_arena_snapshot.specs.MapCodings.{entries_at_front}
use Rattle.triple_arena_snapshot.specs.laws.MapLaws.{entries_again}

-- entries in the order of their keys, which rise
abbrev pub entries : {K L : Type 0} → (K → K → Ordering) → Coding K → Coding L → Coding (List (K × L))
entries order c d = record {
  fits = λ es. (length es < 2 ^ 64) × AllByRecursion (λ e. c.fits e.0 × d.fits e.1) es × IsStrictlySortedBy order (keys_of es);
  encoding = list_bytes (pair_bytes c.encoding d.encoding);
  decoding = entries_at_front order c.decoding d.decoding;
  decodes = entries_again order c.fits c.encoding c.decoding c.decodes d.fits d.encoding d.decoding d.decodes;
}

-- entries by the contents of their keys and values
abbrev pub contents : {A B K L : Type 0} → (A → K) → (B → L) → List (A × B) → List (K × L)
contents key value es = map (λ e. (key e.0, value e.1)) es
