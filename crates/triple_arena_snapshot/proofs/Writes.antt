-- Writes of a list's parts, one after another.
use Rattle.std.proofs.Common.{◌≡◌, ℕ, ◌+◌, ◌-◌, ◌<◌, ◌≤◌, List, ◌++◌, Option, length, take, drop, sym, ap, ◌∙◌, subst, arith, take-add, take-take, take-append-drop, length-drop, length-append, append_assoc}
use Rattle.std.specs.Io.KnownBytes.{Appends, Keeps}
use Rattle.std.proofs.KnownBytes.{Appends-trans, Appends-kept}
use Rattle.std.specs.Int.{w32, to_le_bytes}
use Rattle.std.specs.Prelude.{Result, Ok, Err, OnOk, OnErr, IfErr}
use Rattle.triple_arena_snapshot.specs.declared.fault.SaveError.{SaveError}
use Rattle.triple_arena_snapshot.specs.declared.fault.SaveError.TheVariants as saving
use Rattle.triple_arena_snapshot.specs.Checksum.{crc32c, sealed}
use Rattle.triple_arena_snapshot.specs.Files.{head_of, file_of, AppendsPart, SaveFails}

-- what a writer took of the bytes from `done` on
pub appended_next : (a b c : Option (List ℕ)) (xs : List ℕ) (done n : ℕ) → Appends a b (take done xs) → Appends b c (take n (take (length xs - done) (drop done xs))) → n ≤ length xs - done
    → Appends a c (take (done + n) xs)
appended_next a b c xs done n before next within =
    let joined = ap (λ l. take done xs ++ l) (take-take n (length xs - done) (drop done xs) within) ∙ sym (take-add done n xs) in
    subst (Appends a c) joined (Appends-trans a b c (take done xs) _ before next)

-- not all was taken, and the next write failed
pub cut_at : (a b c : Option (List ℕ)) (xs : List ℕ) (done : ℕ) → done < length xs → Appends a b (take done xs) → Keeps b c → AppendsPart a c xs
cut_at a b c xs done within wrote kept =
    let some = length-drop done xs in
    (take done xs, drop done xs, sym (take-append-drop done xs), omega (arith, some), Appends-kept a b c (take done xs) wrote kept)

-- one list after another, of which all was taken, or a part of the first, or all of it and a part of the second
pub appended_both : (a b c : Option (List ℕ)) (xs ys : List ℕ) → Appends a b xs → Appends b c ys → Appends a c (xs ++ ys)
appended_both = Appends-trans

pub cut_more : (a b : Option (List ℕ)) (xs ys : List ℕ) → AppendsPart a b xs → AppendsPart a b (xs ++ ys)
cut_more a b xs ys (front, rest, whole, some, wrote) =
    (front, rest ++ ys, ap (λ l. l ++ ys) whole ∙ append_assoc front rest ys, (let both = length-append rest ys in omega (arith, both, some)), wrote)

pub cut_later : (a b c : Option (List ℕ)) (xs ys : List ℕ) → Appends a b xs → AppendsPart b c ys → AppendsPart a c (xs ++ ys)
cut_later a b c xs ys first (front, rest, whole, some, wrote) =
    (xs ++ front, rest, ap (λ l. xs ++ l) whole ∙ sym (append_assoc xs front rest), some, Appends-trans a b c xs front first wrote)

-- the parts of a file were written, or some of them
module _ (a b : Option (List ℕ)) (shape payload head sum : List ℕ) (front : head ≡ head_of shape (length payload)) (back : sum ≡ to_le_bytes w32 (crc32c (head ++ payload))) where
  whole : head ++ (payload ++ sum) ≡ file_of shape payload
  whole = sym (append_assoc head payload sum) ∙ ap (λ (xs : List ℕ). (head ++ payload) ++ xs) back ∙ ap (λ (xs : List ℕ). sealed (xs ++ payload)) front

  pub file_written : {U : Type 0} (r : Result U SaveError) → OnOk r (Appends a b (head ++ (payload ++ sum))) → OnOk r (Appends a b (file_of shape payload))
  file_written r h = subst (λ xs. OnOk r (Appends a b xs)) whole h

  cut_file : {U : Type 0} (r : Result U SaveError) → OnErr r (AppendsPart a b (file_of shape payload)) → IfErr r (λ e. e ≡ saving.Write) → IfErr r (λ e. SaveFails e a b (file_of shape payload))
  cut_file (Ok x) h w = tt
  cut_file (Err e) h w = subst (λ (x : SaveError). SaveFails x a b (file_of shape payload)) (sym w) h

  pub file_cut : {U : Type 0} (r : Result U SaveError) → OnErr r (AppendsPart a b (head ++ (payload ++ sum))) → IfErr r (λ e. e ≡ saving.Write) → IfErr r (λ e. SaveFails e a b (file_of shape payload))
  file_cut r h w = cut_file r (subst (λ xs. OnErr r (AppendsPart a b xs)) whole h) w

-- a file of other bytes is that of these
pub same_file : {U : Type 0} (r : Result U SaveError) (a b : Option (List ℕ)) (shape bytes same : List ℕ) → bytes ≡ same → OnOk r (Appends a b (file_of shape bytes)) → OnOk r (Appends a b (file_of shape same))
same_file r a b shape bytes same is h = subst (λ xs. OnOk r (Appends a b (file_of shape xs))) is h

pub same_refused : {U : Type 0} (r : Result U SaveError) (a b : Option (List ℕ)) (shape bytes same : List ℕ) → bytes ≡ same → IfErr r (λ e. SaveFails e a b (file_of shape bytes)) → IfErr r (λ e. SaveFails e a b (file_of shape same))
same_refused r a b shape bytes same is h = subst (λ xs. IfErr r (λ e. SaveFails e a b (file_of shape xs))) is h
