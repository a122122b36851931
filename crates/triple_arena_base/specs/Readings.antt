-- What is read of a value whose items are replaced by others, of which each has a name.
use Rattle.std.specs.Prelude.{◌≡◌, List, map}

module _ {I N T R : Type 0} (name : I → N) (held : T → List I) (refill : T → List I → T) (read : T → R) (renamed : (N → N) → R → R) where
  -- a reading follows names: where items are put in a value whose names are those of the items before, each renamed, what is
  -- read of it is so renamed
  abbrev pub FollowsNames : Type 0
  FollowsNames = (rename : N → N) (v : T) (l : List I) → map name l ≡ map rename (map name (held v))
      → read (refill v l) ≡ renamed rename (read v)
