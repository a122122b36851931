use Rattle.std.proofs.Common.{subst}
use Rattle.triple_arena_snapshot.specs.Files.{Loads, file_reading}
use Rattle.triple_arena_snapshot.specs.laws.ChecksumLaws.{Bytes}
use Rattle.triple_arena_snapshot.specs.laws.ChangeLaws.{changed_is_refused}
use Rattle.triple_arena_snapshot.proofs.Loads.{loaded_again}
use Rattle.triple_arena_snapshot.proofs.file.from_file_bytes.Goals as goal

pub returns-clause-again : goal.returns-clause-again
returns-clause-again g c = λ k fits e.
    loaded_again g.T.Codec.coding g.T.Codec.content c.read_file.result g.T.Codec.shape c.args.bytes.now c.read_file.ensures.few c.read_file.ensures.read k fits e

pub returns-clause-change_found : goal.returns-clause-change_found
returns-clause-change_found g c = λ shape saved front burst other rest bytes long few apart e is.
    changed_is_refused g.T.Codec.shape g.T.Codec.coding.decoding g.T.Codec.content c.read_file.result shape saved front burst other rest (subst Bytes is c.read_file.ensures.small) bytes long few apart e
    (subst (λ xs. Loads g.T.Codec.content c.read_file.result (file_reading g.T.Codec.shape g.T.Codec.coding.decoding xs)) is c.read_file.ensures.read)
