use Rattle.std.proofs.Common.{◌≡◌, Result, Ok, Err, sym, ap, subst}
use Rattle.triple_arena_snapshot.specs.declared.fault.LoadError.{LoadError}
use Rattle.triple_arena_snapshot.specs.Coding.{Reading}
use Rattle.triple_arena_snapshot.specs.Files.{LoadsFrom}
use Rattle.triple_arena_snapshot_uses.specs.Circuit.{Parts, CircuitContent, circuit_content}
use Rattle.triple_arena_snapshot_uses.proofs.circuit.Circuit.load.Goals as goal

-- what was read, or another
abbrev read_or : CircuitContent → Reading CircuitContent → CircuitContent
read_or other (Ok k) = k
read_or other (Err e) = other

loaded_again : (saved loaded : Parts) (result : Result Parts LoadError) → result ≡ Ok loaded → LoadsFrom circuit_content result (Ok (circuit_content saved))
    → LoadsFrom circuit_content (Ok loaded) (Ok (circuit_content saved))
loaded_again saved loaded result is again = subst (λ (r : Result Parts LoadError). LoadsFrom circuit_content r (Ok (circuit_content saved))) is again

same : (saved loaded : Parts) (result : Result Parts LoadError) → result ≡ Ok loaded → LoadsFrom circuit_content result (Ok (circuit_content saved)) → circuit_content loaded ≡ circuit_content saved
same saved loaded result is again = sym (ap (read_or (circuit_content saved)) (loaded_again saved loaded result is again))

pub returns-in-Ok-clause-again : goal.returns-in-Ok-clause-again
returns-in-Ok-clause-again g c = λ saved fits is. loaded_again saved c.in-Ok.parts c.load.result c.in-Ok.is (c.load.ensures.again (circuit_content saved) fits is)

pub returns-in-Ok-clause-cells : goal.returns-in-Ok-clause-cells
returns-in-Ok-clause-cells g c = λ saved fits is p.
    let read = same saved c.in-Ok.parts c.load.result c.in-Ok.is (c.load.ensures.again (circuit_content saved) fits is) in
    c.read_answers_as_written.ensures.look_ups saved.0 c.in-Ok.parts.0 p (ap (λ k. k.0) read)

pub returns-in-Ok-clause-nets : goal.returns-in-Ok-clause-nets
returns-in-Ok-clause-nets g c = λ saved fits is p.
    let read = same saved c.in-Ok.parts c.load.result c.in-Ok.is (c.load.ensures.again (circuit_content saved) fits is) in
    c.read_answers_as_written-2.ensures.look_ups saved.1 c.in-Ok.parts.1 p (ap (λ k. k.1) read)

pub returns-in-Ok-clause-next : goal.returns-in-Ok-clause-next
returns-in-Ok-clause-next g c = λ saved fits is.
    let read = same saved c.in-Ok.parts c.load.result c.in-Ok.is (c.load.ensures.again (circuit_content saved) fits is) in
    (c.read_answers_as_written.ensures.next saved.0 c.in-Ok.parts.0 (ap (λ k. k.0) read), c.read_answers_as_written-2.ensures.next saved.1 c.in-Ok.parts.1 (ap (λ k. k.1) read))

pub returns-in-Ok-clause-history : goal.returns-in-Ok-clause-history
returns-in-Ok-clause-history g c = λ saved fits is.
    let read = same saved c.in-Ok.parts c.load.result c.in-Ok.is (c.load.ensures.again (circuit_content saved) fits is) in
    (c.read_answers_as_written.ensures.history saved.0 c.in-Ok.parts.0 (ap (λ k. k.0) read), c.read_answers_as_written-2.ensures.history saved.1 c.in-Ok.parts.1 (ap (λ k. k.1) read))
