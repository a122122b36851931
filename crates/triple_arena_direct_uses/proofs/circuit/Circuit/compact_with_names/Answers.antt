use Rattle.std.specs.BTreeMap.{get, is_at}
use Rattle.std.specs.Map.{lookup}
use Rattle.std.specs.Option.{option_map, unwrap_or}
use Rattle.std.specs.String.{string_cmp}
use Rattle.std.proofs.Common.{rules, ap, ◌∙◌}
use Rattle.std.proofs.lemmas.Map.Made.{map_same_pairs, lookup-map_values}
use Rattle.triple_arena_ptr.specs.declared.P0.{P0}
use Rattle.triple_arena_ptr.specs.declared.Q2.{Q2}
use Rattle.triple_arena.specs.Entries.{look_up}
use Rattle.triple_arena_direct.specs.Concrete.{renamed_if_live}
use Rattle.triple_arena_direct.specs.Renaming.{MapsPointers}
use Rattle.triple_arena_uses.specs.Entities.{p0_numbers}
use Rattle.triple_arena_direct_uses.specs.Circuit.{q2_numbers, moved}
use Rattle.triple_arena_direct_uses.specs.Names.{on_place, place_read}
use Rattle.triple_arena_direct_uses.proofs.Naming.{read_follows}
use Rattle.triple_arena_direct_uses.proofs.circuit.Circuit.compact_with_names.Goals as goal

pub returns-clause-names : goal.returns-clause-names
returns-clause-names c name =
    let old = c.args.self.now in
    let cell : P0 → P0 = λ p. unwrap_or (look_up c.allow-cells.result.slots (p0_numbers p)) p in
    let net : Q2 → Q2 = λ p. unwrap_or (look_up c.allow-nets.result.slots (q2_numbers p)) p in
    let cells : MapsPointers p0_numbers (moved old.cells) old.cells.slots c.allow-cells.result.slots = search rules in
    let nets : MapsPointers q2_numbers (moved old.nets) old.nets.slots c.allow-nets.result.slots = search rules in
    let kept = map_same_pairs _ (on_place cell net) _ (λ k v b w f' t. search rules) _ _ c.retain.ensures.filtered in
    ap (λ es. option_map place_read (lookup (is_at (string_cmp name)) es)) kept
    ∙ ap (option_map place_read) (lookup-map_values (on_place cell net) (is_at (string_cmp name)) c.args.names.now.entries)
    ∙ read_follows cell net (renamed_if_live (moved old.cells) old.cells.slots) (renamed_if_live (moved old.nets) old.nets.slots)
    (c.image_found.ensures.kept _ _ _ cells) (c.image_found-2.ensures.kept _ _ _ nets) (get string_cmp c.args.names.now name)
