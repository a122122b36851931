use Rattle.std.proofs.Common.{◌∙◌, ap, sym, arith}
use Rattle.std.specs.Int.NonZero.{non_zero_usize_get}
use Rattle.std.specs.Option.{option_map}
use Rattle.triple_arena_ptr.specs.Numbers.{greatest_index}
use Rattle.triple_arena_snapshot.proofs.ArenaParts.{root_number}
use Rattle.triple_arena_snapshot.proofs.arenas.first_free.Goals as goal

pub returns : goal.returns
returns g c =
    root_number c.args.arena.now c.len-len.ensures.well_formed g.P.Inx.PtrInx.number non_zero_usize_get _ c.try_into_usize.result (greatest_index g.P.Inx.PtrInx.greatest) (ap (option_map g.P.Inx.PtrInx.number) (sym c.in_ok-freelist_root.was) ∙ c.freelist_root.ensures) (omega (arith, c.capacity-capacity.ensures.fits, c.capacity-capacity.ensures.indexed)) c.try_into_usize.ensures.number
