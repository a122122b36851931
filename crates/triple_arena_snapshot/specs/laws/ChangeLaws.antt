-- A file of which a few bytes were changed is none: what is read of it is a fault.
use Rattle.std.proofs.Common.{◌≡◌, ◌≢◌, ℕ, zero, suc, ◌+◌, ◌-◌, ◌<◌, ◌≤◌, Bool, true, false, ltb, List, [], ◌∷◌, ◌++◌, length, get_or, take, drop, Result, Ok, Err, refl, sym, ap, subst, ◌∙◌, arith, append-nil, append_assoc}
use Rattle.std.specs.Prelude.{◌==◌, if◌then◌else◌, IsErr}
use Rattle.std.specs.Int.{Width, w32, w64, byte_len, to_le_bytes, from_le_bytes}
use Rattle.std.proofs.lemmas.Bool.{eqb-true, ltb-false}
use Rattle.std.proofs.lemmas.List.{take_at, take-append-drop, length-take-le}
use Rattle.std.proofs.lemmas.Nat.{le_bytes_4}
use Rattle.triple_arena_snapshot.specs.declared.fault.Fault.{Fault}
use Rattle.triple_arena_snapshot.specs.declared.fault.Fault.TheVariants.{Cut, Mark, Version, Shape, Sum}
use Rattle.triple_arena_snapshot.specs.declared.fault.LoadError.{LoadError}
use Rattle.triple_arena_snapshot.specs.Coding.{Reading, Decoded, ◌>>=◌, whole}
use Rattle.triple_arena_snapshot.specs.Codings.{number_at_front, front_of}
use Rattle.triple_arena_snapshot.specs.Checksum.{crc32c, sealed}
use Rattle.triple_arena_snapshot.specs.Marks.{behind}
use Rattle.triple_arena_snapshot.specs.Shapes.{behind_shape}
use Rattle.triple_arena_snapshot.specs.Files.{mark, version, head_of, file_of, before, ended, unsealed, sealed_in, payload_in, at_offset, file_reading, Loads}
use Rattle.triple_arena_snapshot.specs.laws.ChecksumLaws.{Bytes, change_found}
use Rattle.triple_arena_snapshot.specs.laws.FileLaws.{before_all}

bytes_behind : (front xs : List ℕ) → Bytes (front ++ xs) → Bytes xs
bytes_behind [] xs small = small
bytes_behind (x ∷ front) xs small = bytes_behind front xs (λ i. small (suc i))

bytes_front : (xs rest : List ℕ) → Bytes (xs ++ rest) → Bytes xs
bytes_front [] rest small i = omega arith
bytes_front (x ∷ xs) rest small zero = small 0
bytes_front (x ∷ xs) rest small (suc i) = bytes_front xs rest (λ j. small (suc j)) i

abbrev Counting : Type 0
Counting = Decoded ℕ

abbrev Decoding : Type 0
Decoding = Decoded (List ℕ)

-- a fault is no value
abbrev IsRead : {A : Type 0} → Reading A → Type 0
IsRead (Ok x) = Unit {0}
IsRead (Err e) = ⊥

refused : {A : Type 0} (e : Fault × ℕ) (x : A) → Err e ≡ Ok x → ⊥
refused e x h = subst IsRead (sym h) tt

abbrev read_or : {A : Type 0} → A → Reading A → A
read_or other (Ok x) = x
read_or other (Err e) = other

-- what was read in two steps
both_read : {A B Z : Type 0} (r : Reading A) (f : A → Reading B) (y : B) → r >>= f ≡ Ok y → ((x : A) → r ≡ Ok x → f x ≡ Ok y → Z) → Z
both_read (Ok x) f y h go = go x refl h
both_read (Err e) f y h go = absurd (refused e y h)

at_offset_read : {A : Type 0} (total : ℕ) (r : Reading A) (x : A) → at_offset total r ≡ Ok x → r ≡ Ok x
at_offset_read total (Ok y) x h = h
at_offset_read total (Err e) x h = absurd (refused _ x h)

behind_step : (m : ℕ) (marked : List ℕ) (fault : Fault) (b : ℕ) (bytes rest : List ℕ) → (behind marked fault bytes ≡ Ok rest → bytes ≡ marked ++ rest)
    → (t : Bool) → (b == m) ≡ t → (if t then behind marked fault bytes else Err (fault, length (b ∷ bytes))) ≡ Ok rest → b ∷ bytes ≡ m ∷ marked ++ rest
behind_step m marked fault b bytes rest again true e h = ap (λ (n : ℕ). n ∷ bytes) (eqb-true b m e) ∙ ap (λ (xs : List ℕ). m ∷ xs) (again h)
behind_step m marked fault b bytes rest again false e h = absurd (refused _ rest h)

-- bytes behind a mark stand behind it
behind_it : (marked : List ℕ) (fault : Fault) (bytes rest : List ℕ) → behind marked fault bytes ≡ Ok rest → bytes ≡ marked ++ rest
behind_it [] fault bytes rest h = ap (read_or bytes) h
behind_it (m ∷ marked) fault [] rest h = absurd (refused _ rest h)
behind_it (m ∷ marked) fault (b ∷ bytes) rest h = behind_step m marked fault b bytes rest (behind_it marked fault bytes rest) (b == m) refl h

-- what was taken from the front stood there
front_step : (n : ℕ) (bytes front rest : List ℕ) (t : Bool) → ltb (length bytes) n ≡ t
    → if◌then◌else◌ {A = Decoding} t (Err (Cut, length bytes)) (Ok (take n bytes, drop n bytes)) ≡ Ok (front, rest) → (bytes ≡ front ++ rest) × (length front ≡ n)
front_step n bytes front rest true e h = absurd (refused _ (front, rest) h)
front_step n bytes front rest false e h =
    let both : (take n bytes, drop n bytes) ≡ (front, rest) = ap (read_or (take n bytes, drop n bytes)) h in
    let first : take n bytes ≡ front = ap (λ (p : List ℕ × List ℕ). p.0) both in
    let second : drop n bytes ≡ rest = ap (λ (p : List ℕ × List ℕ). p.1) both in (
      sym (take-append-drop n bytes) ∙ ap (λ (xs : List ℕ). xs ++ drop n bytes) first ∙ ap (λ (xs : List ℕ). front ++ xs) second,
      ap length (sym first) ∙ length-take-le n bytes (ltb-false (length bytes) n e),
    )

front_read : (n : ℕ) (bytes front rest : List ℕ) → front_of n bytes ≡ Ok (front, rest) → (bytes ≡ front ++ rest) × (length front ≡ n)
front_read n bytes front rest h = front_step n bytes front rest (ltb (length bytes) n) refl h

-- so did a number
number_step : (w : Width) (bytes : List ℕ) (n : ℕ) (rest : List ℕ) → (t : Bool) → ltb (length bytes) (byte_len w) ≡ t
    → if◌then◌else◌ {A = Counting} t (Err (Cut, length bytes)) (Ok (from_le_bytes w (take (byte_len w) bytes), drop (byte_len w) bytes)) ≡ Ok (n, rest)
    → (bytes ≡ take (byte_len w) bytes ++ rest) × ((from_le_bytes w (take (byte_len w) bytes) ≡ n) × (length (take (byte_len w) bytes) ≡ byte_len w))
number_step w bytes n rest true e h = absurd (refused _ (n, rest) h)
number_step w bytes n rest false e h =
    let both : (from_le_bytes w (take (byte_len w) bytes), drop (byte_len w) bytes) ≡ (n, rest) = ap (read_or (from_le_bytes w (take (byte_len w) bytes), drop (byte_len w) bytes)) h in
    let left : drop (byte_len w) bytes ≡ rest = ap (λ (p : ℕ × List ℕ). p.1) both in (
      sym (take-append-drop (byte_len w) bytes) ∙ ap (λ (xs : List ℕ). take (byte_len w) bytes ++ xs) left,
      (ap (λ (p : ℕ × List ℕ). p.0) both, length-take-le (byte_len w) bytes (ltb-false (length bytes) (byte_len w) e)),
    )

number_read : (w : Width) (bytes : List ℕ) (n : ℕ) (rest : List ℕ) → number_at_front w bytes ≡ Ok (n, rest)
    → (bytes ≡ take (byte_len w) bytes ++ rest) × ((from_le_bytes w (take (byte_len w) bytes) ≡ n) × (length (take (byte_len w) bytes) ≡ byte_len w))
number_read w bytes n rest h = number_step w bytes n rest (ltb (length bytes) (byte_len w)) refl h

-- what stands in front of others, which stand behind others
behind_both : (bytes front middle back rest : List ℕ) → bytes ≡ front ++ middle → middle ≡ back ++ rest → bytes ≡ (front ++ back) ++ rest
behind_both bytes front middle back rest e f = e ∙ ap (λ (xs : List ℕ). front ++ xs) f ∙ sym (append_assoc front back rest)

shape_step : (shape bytes after rest : List ℕ) (fault : Fault × ℕ) → (t : Bool) → if◌then◌else◌ {A = Reading (List ℕ)} t (behind shape Shape after) (Err fault) ≡ Ok rest → after ≡ shape ++ rest
shape_step shape bytes after rest fault true h = behind_it shape Shape after rest h
shape_step shape bytes after rest fault false h = absurd (refused _ rest h)

shape_read : (shape bytes rest : List ℕ) → behind_shape shape bytes ≡ Ok rest → bytes ≡ (take 8 bytes ++ shape) ++ rest
shape_read shape bytes rest h =
    both_read (number_at_front w64 bytes) (λ n. if n.0 == length shape then behind shape Shape n.1 else Err (Shape, length bytes)) rest h (λ n first h1.
    behind_both bytes (take 8 bytes) n.1 shape rest (number_read w64 bytes n.0 n.1 first).0 (shape_step shape bytes n.1 rest (Shape, length bytes) (n.0 == length shape) h1))

ended_read : (payload rest read : List ℕ) → ended payload rest ≡ Ok read → rest ≡ []
ended_read payload [] read h = refl
ended_read payload (b ∷ rest) read h = absurd (refused _ read h)

unsealed_step : (sum of : ℕ) (payload rest read : List ℕ) (fault : Fault × ℕ) → (t : Bool) → (sum == of) ≡ t
    → if◌then◌else◌ {A = Reading (List ℕ)} t (ended payload rest) (Err fault) ≡ Ok read → (sum ≡ of) × (rest ≡ [])
unsealed_step sum of payload rest read fault true e h = (eqb-true _ _ e, ended_read payload rest read h)
unsealed_step sum of payload rest read fault false e h = absurd (refused _ read h)

-- behind a value's bytes stands the checksum of all before it
unsealed_read : (file front payload rest read : List ℕ) → Bytes rest → file ≡ front ++ rest → unsealed file payload rest ≡ Ok read → file ≡ sealed front
unsealed_read file front payload rest read small whole h =
    both_read (number_at_front w32 rest) (λ sum. if sum.0 == crc32c (before file rest) then ended payload sum.1 else Err (Sum, length rest)) read h (λ sum first h1.
    let seen = number_read w32 rest sum.0 sum.1 first in
    let seal = take 4 rest in
    let few : Bytes seal = bytes_front seal sum.1 (subst Bytes seen.0 small) in
    let all : before file rest ≡ front = ap (λ (xs : List ℕ). before xs rest) whole ∙ before_all front rest in
    let is = unsealed_step sum.0 (crc32c (before file rest)) payload sum.1 read (Sum, length rest) (sum.0 == crc32c (before file rest)) refl h1 in
    let written : to_le_bytes w32 (crc32c front) ≡ seal = le_bytes_4 seal (crc32c front) seen.1.1 few (ap crc32c (sym all) ∙ sym is.0 ∙ sym seen.1.0) in
    let end : rest ≡ seal = seen.0 ∙ ap (λ (xs : List ℕ). seal ++ xs) is.1 ∙ append-nil seal in
    whole ∙ ap (λ (xs : List ℕ). front ++ xs) (end ∙ sym written))

sealed_read : (file front bytes payload : List ℕ) → Bytes bytes → file ≡ front ++ bytes → sealed_in file bytes ≡ Ok payload → (all : List ℕ) × (file ≡ sealed all)
sealed_read file front bytes payload small whole h =
    both_read (number_at_front w64 bytes) (λ n. front_of n.0 n.1 >>= λ x. unsealed file x.0 x.1) payload h (λ n first h1.
    both_read (front_of n.0 n.1) (λ x. unsealed file x.0 x.1) payload h1 (λ x second h2.
    let in_bytes : bytes ≡ (take 8 bytes ++ x.0) ++ x.1 = behind_both bytes (take 8 bytes) n.1 x.0 x.1 (number_read w64 bytes n.0 n.1 first).0 (front_read n.0 n.1 x.0 x.1 second).0 in
    let in_file : file ≡ (front ++ (take 8 bytes ++ x.0)) ++ x.1 = behind_both file front bytes (take 8 bytes ++ x.0) x.1 whole in_bytes in
    let few : Bytes x.1 = bytes_behind (take 8 bytes ++ x.0) x.1 (subst Bytes in_bytes small) in
    (front ++ (take 8 bytes ++ x.0), unsealed_read file (front ++ (take 8 bytes ++ x.0)) x.0 x.1 payload few in_file h2)))

-- bytes of which a value's are read have their checksum behind them
file_read : (shape file payload : List ℕ) → Bytes file → payload_in shape file ≡ Ok payload → (all : List ℕ) × (file ≡ sealed all)
file_read shape file payload small h =
    both_read (behind mark Mark file) (λ marked. behind version Version marked >>= λ rest. behind_shape shape rest >>= sealed_in file) payload h (λ marked first h1.
    both_read (behind version Version marked) (λ rest. behind_shape shape rest >>= sealed_in file) payload h1 (λ rest second h2.
    both_read (behind_shape shape rest) (sealed_in file) payload h2 (λ bytes third h3.
    let versioned : file ≡ (mark ++ version) ++ rest = behind_both file mark marked version rest (behind_it mark Mark file marked first) (behind_it version Version marked rest second) in
    let shaped : file ≡ ((mark ++ version) ++ (take 8 rest ++ shape)) ++ bytes = behind_both file (mark ++ version) rest (take 8 rest ++ shape) bytes versioned (shape_read shape rest bytes third) in
    sealed_read file ((mark ++ version) ++ (take 8 rest ++ shape)) bytes payload (bytes_behind ((mark ++ version) ++ (take 8 rest ++ shape)) bytes (subst Bytes shaped small)) shaped h3)))

-- a file of which up to four bytes side by side were changed isn't loaded
pub changed_is_refused : {K X : Type 0} (shape : List ℕ) (decoding : List ℕ → Decoded K) (content : X → K) (result : Result X LoadError) (kind saved front burst other rest : List ℕ)
    → Bytes (front ++ (other ++ rest)) → Bytes burst → length burst ≡ length other → length burst ≤ 4 → burst ≢ other → file_of kind saved ≡ front ++ (burst ++ rest)
    → Loads content result (file_reading shape decoding (front ++ (other ++ rest))) → IsErr result
changed_is_refused shape decoding content (Err refusal) kind saved front burst other rest small bytes long few apart e h = refl
changed_is_refused shape decoding content (Ok v) kind saved front burst other rest small bytes long few apart e h =
    let file = front ++ (other ++ rest) in
    absurd (both_read (at_offset (length file) (payload_in shape file)) (λ payload. at_offset (length file - 4) (whole decoding payload)) (content v) h (λ payload read h1.
    let all = file_read shape file payload small (at_offset_read (length file) (payload_in shape file) payload read) in
    apart (change_found (head_of kind (length saved) ++ saved) all.0 front burst other rest long few bytes (bytes_front other rest (bytes_behind front (other ++ rest) small)) e (sym all.1))))
