-- The items that a value holds, and what recasting makes of them.
use Rattle.std.specs.Prelude.{◌≡◌, Option, Some, None, Result, Ok, Err, List, [], ◌∷◌, ◌++◌, length, take, drop}

-- the item's image in its place, if it has one
abbrev pub recast_item : {I : Type 0} → Option I → I → I
recast_item (Some y) x = y
recast_item None x = x

-- a refusal with the item, if it has no image
abbrev pub item_answer : {I : Type 0} → Option I → I → Result (Unit {0}) I
item_answer (Some y) x = Ok tt
item_answer None x = Err x

-- the items x and xs, of which x has the image that is given, or none, and ys is what becomes of xs
-- if it has one
abbrev pub recast_from : {I : Type 0} → Option I → I → List I → List I → List I
recast_from (Some y) x xs ys = y ∷ ys
recast_from None x xs ys = x ∷ xs

-- the items, with those before the first one without an image replaced by their images
abbrev pub recast_items : {I : Type 0} → (I → Option I) → List I → List I
recast_items image [] = []
recast_items image (x ∷ xs) = recast_from (image x) x xs (recast_items image xs)

-- a refusal with x if it has no image, and else the answer for the items behind it
abbrev pub answer_from : {I : Type 0} → Option I → I → Result (Unit {0}) I → Result (Unit {0}) I
answer_from (Some y) x r = r
answer_from None x r = Err x

-- a refusal with the first item without an image, if there is one
abbrev pub recast_answer : {I : Type 0} → (I → Option I) → List I → Result (Unit {0}) I
recast_answer image [] = Ok tt
recast_answer image (x ∷ xs) = answer_from (image x) x (recast_answer image xs)

-- an item holds itself, and is replaced as a whole
abbrev pub held_itself : {I : Type 0} → I → List I
held_itself x = x ∷ []

abbrev pub refill_itself : {I : Type 0} → I → List I → I
refill_itself x [] = x
refill_itself x (y ∷ l) = y

-- a value of a type that holds no item
abbrev pub held_nothing : {I T : Type 0} → T → List I
held_nothing v = []

abbrev pub refill_nothing : {I T : Type 0} → T → List I → T
refill_nothing v l = v

-- an `Option` holds what its `Some` holds
abbrev pub held_option : {I T : Type 0} → (T → List I) → Option T → List I
held_option held None = []
held_option held (Some t) = held t

abbrev pub refill_option : {I T : Type 0} → (T → List I → T) → Option T → List I → Option T
refill_option refill None l = None
refill_option refill (Some t) l = Some (refill t l)

-- a list holds what its elements hold, in order
abbrev pub held_all : {I T : Type 0} → (T → List I) → List T → List I
held_all held [] = []
held_all held (x ∷ xs) = held x ++ held_all held xs

abbrev pub refill_all : {I T : Type 0} → (T → List I) → (T → List I → T) → List T → List I → List T
refill_all held refill [] l = []
refill_all held refill (x ∷ xs) l =
    refill x (take (length (held x)) l) ∷ refill_all held refill xs (drop (length (held x)) l)

-- the laws of holding
module _ {I T : Type 0} (held : T → List I) (refill : T → List I → T) where
  -- a value that is filled with as many items as it holds then holds these
  abbrev pub HoldsRefill : Type 0
  HoldsRefill = (v : T) (l : List I) → length l ≡ length (held v) → held (refill v l) ≡ l

  -- a value that is filled with what it holds is unchanged
  abbrev pub KeepsHeld : Type 0
  KeepsHeld = (v : T) → refill v (held v) ≡ v

  -- of two refills the last counts
  abbrev pub LastRefills : Type 0
  LastRefills = (v : T) (l m : List I) → length l ≡ length (held v) → length m ≡ length (held v)
      → refill (refill v l) m ≡ refill v m
