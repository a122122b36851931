use Rattle.triple_arena.proofs.base_arena.ArenaArenaTrait.TheImpl.Goals as goal

pub capacity-tells : goal.capacity-tells
capacity-tells g x c =
    record {
      value = c.ensures.value;
      fits = c.ensures.fits;
      indexed = c.ensures.indexed;
      allowed = c.ensures.allowed;
    }

pub max_capacity-tells : goal.max_capacity-tells
max_capacity-tells g x c = c.ensures.value

pub len-tells : goal.len-tells
len-tells g x c = record { value = c.ensures.value; fits = c.ensures.fits; valid = c.ensures.well_formed }

pub get-tells : goal.get-tells
get-tells g x c = c.ensures

pub get_inx-tells : goal.get_inx-tells
get_inx-tells g x c = c.ensures

pub find_first_inx_ptr-tells : goal.find_first_inx_ptr-tells
find_first_inx_ptr-tells g x c = c.ensures

pub find_last_inx_ptr-tells : goal.find_last_inx_ptr-tells
find_last_inx_ptr-tells g x c = c.ensures

pub advancer-tells : goal.advancer-tells
advancer-tells g x c = c.ensures

pub invalidate-tells : goal.invalidate-tells
invalidate-tells g x c = c.ensures

pub remove-tells : goal.remove-tells
remove-tells g x c = c.ensures

pub remove_inx-tells : goal.remove_inx-tells
remove_inx-tells g x c = c.ensures

pub reallocate_min_capacity-tells : goal.reallocate_min_capacity-tells
reallocate_min_capacity-tells g x c = c.ensures

pub get_inx_mut-tells : goal.get_inx_mut-tells
get_inx_mut-tells g x c = c.ensures

pub get_mut-tells : goal.get_mut-tells
get_mut-tells g x c = c.ensures
