-- Writes of a list's parts, one after another.
use Rattle.std.proofs.Common.{◌≡◌, ℕ, ◌+◌, ◌-◌, ◌<◌, ◌≤◌, List, [], ◌++◌, Option, None, Some, length, take, drop, refl, sym, ap, ◌∙◌, subst, arith, append-nil, take-add, take-take, take_all, take-append-drop, length-drop, length-append, append_assoc}
use Rattle.std.specs.Io.KnownBytes.{Appends, Keeps}
use Rattle.std.proofs.KnownBytes.{Appends-nil, Appends-trans, Appends-kept}
use Rattle.triple_arena_commands.specs.TextRun.{AppendsCut}

-- what a writer took of the bytes from `done` on
pub Appends-next : (a b c : Option (List ℕ)) (xs : List ℕ) (done n : ℕ) → Appends a b (take done xs) → Appends b c (take n (take (length xs - done) (drop done xs))) → n ≤ length xs - done
    → Appends a c (take (done + n) xs)
Appends-next a b c xs done n before next within =
    let joined = ap (λ l. take done xs ++ l) (take-take n (length xs - done) (drop done xs) within) ∙ sym (take-add done n xs) in
    subst (Appends a c) joined (Appends-trans a b c (take done xs) _ before next)

-- not all was taken, and the next write failed
pub AppendsCut-at : (a b c : Option (List ℕ)) (xs : List ℕ) (done : ℕ) → done < length xs → Appends a b (take done xs) → Keeps b c → AppendsCut a c [] xs
AppendsCut-at a b c xs done within wrote kept =
    let some = length-drop done xs in
    (take done xs, drop done xs, sym (take-append-drop done xs), omega (arith, some), Appends-kept a b c (take done xs) wrote kept)

-- no byte was taken
pub Keeps-taken : (a b : Option (List ℕ)) (xs : List ℕ) → Appends a b (take 0 xs) → Keeps a b
Keeps-taken None b xs wrote = tt
Keeps-taken (Some x) None xs wrote = absurd wrote
Keeps-taken (Some x) (Some y) xs wrote = wrote ∙ append-nil x

-- one list after another, of which all was taken, or a part of the first, or all of it and a part of the second
pub appended_both : (a b c : Option (List ℕ)) (xs ys : List ℕ) → Appends a b xs → Appends b c ys → Appends a c (xs ++ ys)
appended_both = Appends-trans

pub cut_more : (a b : Option (List ℕ)) (xs ys : List ℕ) → AppendsCut a b [] xs → AppendsCut a b [] (xs ++ ys)
cut_more a b xs ys (front, rest, whole, some, wrote) =
    (front, rest ++ ys, ap (λ l. l ++ ys) whole ∙ append_assoc front rest ys, (let both = length-append rest ys in omega (arith, both, some)), wrote)

pub cut_later : (a b c : Option (List ℕ)) (xs ys : List ℕ) → Appends a b xs → AppendsCut b c [] ys → AppendsCut a c [] (xs ++ ys)
cut_later a b c xs ys first (front, rest, whole, some, wrote) =
    (xs ++ front, rest, ap (λ l. xs ++ l) whole ∙ sym (append_assoc xs front rest), some, Appends-trans a b c xs front first wrote)

-- the first bytes were taken, and then a part of the others, or nothing
pub cut_behind : (a b c : Option (List ℕ)) (xs : List ℕ) (done : ℕ) → Appends a b (take done xs) → AppendsCut b c [] (take (length xs - done) (drop done xs)) → AppendsCut a c [] xs
cut_behind a b c xs done first others =
    let left : take (length xs - done) (drop done xs) ≡ drop done xs = (let long = length-drop done xs in take_all (length xs - done) (drop done xs) (omega (arith, long))) in
    subst (AppendsCut a c []) (take-append-drop done xs) (cut_later a b c (take done xs) (drop done xs) first (subst (AppendsCut b c []) left others))

pub cut_at_once : (a b : Option (List ℕ)) (xs : List ℕ) → 0 < length xs → Keeps a b → AppendsCut a b [] xs
cut_at_once a b xs some kept = ([], xs, refl, some, Appends-kept a a b [] (Appends-nil a) kept)
