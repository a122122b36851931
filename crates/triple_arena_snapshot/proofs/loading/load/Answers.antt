use Rattle.triple_arena_snapshot.proofs.Loads.{known_vec, known_again, known_change}
use Rattle.triple_arena_snapshot.proofs.loading.load.Goals as goal

pub returns-in-Ok-clause-again : goal.returns-in-Ok-clause-again
returns-in-Ok-clause-again g c = λ k fits is.
    let known = g.R.Read.remaining c.args.input.now in
    known_again g.T.Codec.coding g.T.Codec.content c.read_file.result g.T.Codec.shape known c.deref.result.now c.read_file.ensures.few (known_vec known c.in-Ok.bytes.items c.deref.result.now c.deref.ensures.value c.in-Ok.ensures.bytes) c.read_file.ensures.read k fits is

pub returns-in-Ok-clause-change_found : goal.returns-in-Ok-clause-change_found
returns-in-Ok-clause-change_found g c = λ shape saved front burst other rest bytes long few apart e is.
    let known = g.R.Read.remaining c.args.input.now in
    known_change g.T.Codec.coding g.T.Codec.content c.read_file.result g.T.Codec.shape known c.deref.result.now c.read_file.ensures.small (known_vec known c.in-Ok.bytes.items c.deref.result.now c.deref.ensures.value c.in-Ok.ensures.bytes) c.read_file.ensures.read shape saved front burst other rest bytes long few apart e is
