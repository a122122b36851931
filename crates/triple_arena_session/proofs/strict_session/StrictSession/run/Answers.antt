use Rattle.std.proofs.lemmas.Result.{IfOk-weaker}
use Rattle.triple_arena_session.proofs.Soundness.{sound_over}
use Rattle.triple_arena_session.proofs.StoreRunLaws.{count_if_quiet}
use Rattle.triple_arena_session.proofs.StrictLaws.{StrictRunsAll, StrictRunIsStores, StrictRunIsQuiet, StrictRunKeepsHistory, StrictRunKeepsSound, StrictRunIsUnseen}
use Rattle.triple_arena_session.proofs.strict_session.StrictSession.run.Goals as goal

pub returns-clause-ran : goal.returns-clause-ran
returns-clause-ran g c =
    rw (← c.self.view_is) (IfOk-weaker c.run_commands.result _ _ (λ replies ran. StrictRunsAll g.S.NonZeroInxGenericStack.kind g.S.NonZeroInxGenericStack.has_memory g.P.Gen.PtrGen.generations c.self.inside.body c.args.commands.now replies.items c.run_commands.new.self ran) c.run_commands.ensures.ran)

pub returns-clause-each : goal.returns-clause-each
returns-clause-each g c =
    IfOk-weaker c.run_commands.result _ _ (λ replies ran.
    let kind = g.S.NonZeroInxGenericStack.kind in
    let has_memory = g.S.NonZeroInxGenericStack.has_memory in
    let generations = g.P.Gen.PtrGen.generations in
    let run = StrictRunsAll kind has_memory generations c.self.inside.body c.args.commands.now replies.items c.run_commands.new.self ran in
    let quiet = StrictRunIsQuiet kind has_memory generations c.self.inside.body c.args.commands.now replies.items c.run_commands.new.self run in
    record { whole = count_if_quiet c.args.commands.now replies.items quiet ran.1; quiet = quiet }) c.run_commands.ensures.ran

pub returns-clause-store : goal.returns-clause-store
returns-clause-store g c =
    rw (← c.self.view_is) (λ counts. IfOk-weaker c.run_commands.result _ _ (λ replies ran.
    (StrictRunIsStores g.S.NonZeroInxGenericStack.kind g.S.NonZeroInxGenericStack.has_memory g.P.Gen.PtrGen.generations counts c.self.inside.body c.args.commands.now replies.items c.run_commands.new.self (record { sound = sound_over g.S.NonZeroInxGenericStack.kind c.self.inside.body (c.self.invariant counts) c.tell_arena_over_stack.ensures.over; within = c.tell_arena_over_stack.ensures.within })
    (StrictRunsAll g.S.NonZeroInxGenericStack.kind g.S.NonZeroInxGenericStack.has_memory g.P.Gen.PtrGen.generations c.self.inside.body c.args.commands.now replies.items c.run_commands.new.self ran)).stores) c.run_commands.ensures.ran)

pub invariant_of-self : goal.invariant_of-self
invariant_of-self g c counts =
    StrictRunKeepsSound g.S.NonZeroInxGenericStack.kind g.S.NonZeroInxGenericStack.has_memory g.P.Gen.PtrGen.generations counts c.self.inside.body c.tell_arena_over_stack.ensures.over c.tell_arena_over_stack.ensures.within (c.self.invariant counts) c.args.commands.now c.run_commands.result (λ replies. replies.items) c.run_commands.new.self c.run_commands.ensures.ran c.run_commands.ensures.refused

pub returns-clause-stays : goal.returns-clause-stays
returns-clause-stays g c =
    rw (← c.self.view_is) (record {
      arena = c.tell_arena_over_stack.ensures.over;
      within = c.tell_arena_over_stack.ensures.within;
      was_sound = c.self.invariant;
      begun = rw c.self.view_is c.tell_begun.ensures;
      sound = invariant_of-self g c;
    })

pub returns-clause-history : goal.returns-clause-history
returns-clause-history g c =
    rw (← c.self.view_is) (λ counts. IfOk-weaker c.run_commands.result _ _ (λ replies ran.
    let run = StrictRunsAll g.S.NonZeroInxGenericStack.kind g.S.NonZeroInxGenericStack.has_memory g.P.Gen.PtrGen.generations c.self.inside.body c.args.commands.now replies.items c.run_commands.new.self ran in
    (run, StrictRunKeepsHistory g.S.NonZeroInxGenericStack.kind g.S.NonZeroInxGenericStack.has_memory g.P.Gen.PtrGen.generations counts c.self.inside.body c.args.commands.now replies.items c.run_commands.new.self c.tell_arena_over_stack.ensures.over run)) c.run_commands.ensures.ran)

pub returns-clause-unseen : goal.returns-clause-unseen
returns-clause-unseen g c =
    rw (← c.self.view_is) (λ counts. IfOk-weaker c.run_commands.result _ _ (λ replies ran. λ named enough other.
    StrictRunIsUnseen g.S.NonZeroInxGenericStack.kind g.S.NonZeroInxGenericStack.has_memory g.P.Gen.PtrGen.generations counts c.self.inside.body c.args.commands.now replies.items c.run_commands.new.self (record { sound = sound_over g.S.NonZeroInxGenericStack.kind c.self.inside.body (c.self.invariant counts) c.tell_arena_over_stack.ensures.over; within = c.tell_arena_over_stack.ensures.within })
    (StrictRunsAll g.S.NonZeroInxGenericStack.kind g.S.NonZeroInxGenericStack.has_memory g.P.Gen.PtrGen.generations c.self.inside.body c.args.commands.now replies.items c.run_commands.new.self ran) named enough other) c.run_commands.ensures.ran)
