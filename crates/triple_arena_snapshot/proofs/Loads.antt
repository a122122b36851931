-- Files that a reader gave, by what is read of their bytes.
use Rattle.std.proofs.Common.{◌≡◌, ◌≢◌, ℕ, ◌^◌, ◌<◌, ◌≤◌, ◌++◌, List, Option, None, Some, IfSome, Result, Ok, Err, length, sym, ap, ◌∙◌, subst, inl, inr}
use Rattle.std.specs.Prelude.{IsErr, ◌⊎◌}
use Rattle.triple_arena_snapshot.specs.declared.fault.LoadError.{LoadError}
use Rattle.triple_arena_snapshot.specs.declared.fault.LoadError.TheVariants as errors
use Rattle.triple_arena_snapshot.specs.Coding.{Coding, Reading}
use Rattle.triple_arena_snapshot.specs.Files.{file_of, file_reading, Loads, LoadsFrom}
use Rattle.triple_arena_snapshot.specs.laws.ChecksumLaws.{Bytes}
use Rattle.triple_arena_snapshot.specs.laws.ChangeLaws.{changed_is_refused}
use Rattle.triple_arena_snapshot.specs.laws.FileLaws.{few_in_file, file_again}

-- bytes that are known
known_bytes : (known : Option (List ℕ)) (items bytes : List ℕ) → IfSome known (λ xs. items ≡ xs) → known ≡ Some bytes → items ≡ bytes
known_bytes known items bytes all is = subst (λ (o : Option (List ℕ)). IfSome o (λ xs. items ≡ xs)) is all

-- what a load of bytes returned is what one from a reader may return
pub from_reader : {X Y : Type 0} (content : X → Y) (result : Result X LoadError) (read : Reading Y) → Loads content result read → LoadsFrom content result read
from_reader content (Ok x) read h = h
from_reader content (Err errors.Memory) read h = tt
from_reader content (Err errors.Read) read h = tt
from_reader content (Err (errors.Malformed fault at)) read h = h

-- a refusal for want of memory, or of the reader, says nothing of the bytes
pub refused_by_reader : {X Y : Type 0} (content : X → Y) (e : LoadError) (read : Reading Y) → (e ≡ errors.Memory) ⊎ (e ≡ errors.Read) → LoadsFrom content (Err e) read
refused_by_reader content e read (inl is) = subst (λ (x : LoadError). LoadsFrom content (Err x) read) (sym is) tt
refused_by_reader content e read (inr is) = subst (λ (x : LoadError). LoadsFrom content (Err x) read) (sym is) tt

pub refused_read : {X Y : Type 0} (content : X → Y) (e : LoadError) (reading : List ℕ → Reading Y) (known : Option (List ℕ)) → (e ≡ errors.Memory) ⊎ (e ≡ errors.Read)
    → IfSome known (λ bytes. LoadsFrom content (Err e) (reading bytes))
refused_read content e reading None h = tt
refused_read content e reading (Some bytes) h = refused_by_reader content e (reading bytes) h

pub known_read : {X Y : Type 0} (content : X → Y) (result : Result X LoadError) (reading : List ℕ → Reading Y) (known : Option (List ℕ)) (items : List ℕ)
    → IfSome known (λ xs. items ≡ xs) → Loads content result (reading items) → IfSome known (λ bytes. LoadsFrom content result (reading bytes))
known_read content result reading None items all h = tt
known_read content result reading (Some bytes) items all h = subst (λ (xs : List ℕ). LoadsFrom content result (reading xs)) all (from_reader content result (reading items) h)

-- what was saved is loaded again
pub loaded_again : {K X : Type 0} (c : Coding K) (content : X → K) (result : Result X LoadError) (shape items : List ℕ) → length items < 2 ^ 64
    → Loads content result (file_reading shape c.decoding items) → (k : K) → c.fits k → items ≡ file_of shape (c.encoding k) → Loads content result (Ok k)
loaded_again c content result shape items few h k fits e =
    let both = few_in_file shape (c.encoding k) items e few in
    subst (λ read. Loads content result read) (ap (file_reading shape c.decoding) e ∙ file_again c shape k both.0 both.1 fits) h

pub known_again : {K X : Type 0} (c : Coding K) (content : X → K) (result : Result X LoadError) (shape : List ℕ) (known : Option (List ℕ)) (items : List ℕ) → length items < 2 ^ 64
    → IfSome known (λ xs. items ≡ xs) → Loads content result (file_reading shape c.decoding items) → (k : K) → c.fits k → known ≡ Some (file_of shape (c.encoding k)) → LoadsFrom content result (Ok k)
known_again c content result shape known items few all h k fits is =
    from_reader content result (Ok k) (loaded_again c content result shape items few h k fits (known_bytes known items (file_of shape (c.encoding k)) all is))

-- a file of which up to four bytes side by side were changed isn't loaded
pub known_change : {K X : Type 0} (c : Coding K) (content : X → K) (result : Result X LoadError) (shape : List ℕ) (known : Option (List ℕ)) (items : List ℕ) → Bytes items
    → IfSome known (λ xs. items ≡ xs) → Loads content result (file_reading shape c.decoding items) → (kind saved front burst other rest : List ℕ) → Bytes burst
    → length burst ≡ length other → length burst ≤ 4 → burst ≢ other → file_of kind saved ≡ front ++ (burst ++ rest) → known ≡ Some (front ++ (other ++ rest)) → IsErr result
known_change c content result shape known items small all h kind saved front burst other rest bytes long few apart e is =
    let same : items ≡ front ++ (other ++ rest) = known_bytes known items (front ++ (other ++ rest)) all is in
    changed_is_refused shape c.decoding content result kind saved front burst other rest (subst Bytes same small) bytes long few apart e
    (subst (λ xs. Loads content result (file_reading shape c.decoding xs)) same h)

-- bytes that are known by the vector that has them
pub known_vec : (known : Option (List ℕ)) (vec items : List ℕ) → items ≡ vec → IfSome known (λ xs. vec ≡ xs) → IfSome known (λ xs. items ≡ xs)
known_vec known vec items is all = subst (λ (ys : List ℕ). IfSome known (λ xs. ys ≡ xs)) (sym is) all
