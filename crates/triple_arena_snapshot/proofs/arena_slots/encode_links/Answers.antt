use Rattle.std.proofs.Common.{ap}
use Rattle.std.specs.Int.NonZero.{non_zero_usize_get}
use Rattle.std.specs.Option.{option_map}
use Rattle.triple_arena_snapshot.proofs.LinkBytes.{writes_on, fits_on, written_at_none, fits_at_none, written_at_end, fits_at_end}
use Rattle.triple_arena_snapshot.proofs.arena_slots.encode_links.Goals as goal

pub loop-preserved : goal.loop-preserved
loop-preserved g c =
    let x = non_zero_usize_get c.in-Some.inx in
    let from = option_map non_zero_usize_get c.loop.next in
    let next = option_map non_zero_usize_get c.after-next.result in
    record {
      written = writes_on c.args.slots.now c.args.count c.loop.counter x from next c.loop.out.items c.encode.new.out.items _ c.loop-test.true (ap (option_map non_zero_usize_get) c.in-Some.is) c.after-next.ensures c.in_ok-encode-in-Some.ensures.written c.loop.invariant.written;
      fits = fits_on c.args.slots.now c.args.count c.loop.counter x from next c.loop-test.true (ap (option_map non_zero_usize_get) c.in-Some.is) c.after-next.ensures c.in_ok-encode-in-Some.ensures.fits c.loop.invariant.fits;
    }

pub returns-in-None-clause-written : goal.returns-in-None-clause-written
returns-in-None-clause-written g c =
    written_at_none c.args.slots.now _ (option_map non_zero_usize_get c.loop.next) c.loop.out.items _ (ap (option_map non_zero_usize_get) c.in-None.is) c.loop.invariant.written

pub returns-in-None-clause-fits : goal.returns-in-None-clause-fits
returns-in-None-clause-fits g c =
    fits_at_none c.args.slots.now _ (option_map non_zero_usize_get c.loop.next) (ap (option_map non_zero_usize_get) c.in-None.is) c.loop.invariant.fits

pub returns-clause-written : goal.returns-clause-written
returns-clause-written g c =
    written_at_end c.args.slots.now c.args.count c.loop.counter (option_map non_zero_usize_get c.loop.next) c.loop.out.items _ c.loop-test.false c.loop.invariant.written

pub returns-clause-fits : goal.returns-clause-fits
returns-clause-fits g c =
    fits_at_end c.args.slots.now c.args.count c.loop.counter (option_map non_zero_usize_get c.loop.next) c.loop-test.false c.loop.invariant.fits
