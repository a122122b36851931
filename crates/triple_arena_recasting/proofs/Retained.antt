-- The loop that asks a closure of each entry whether it is kept.
use Rattle.std.proofs.Common.{◌≡◌, ◌||◌, ℕ, Bool, true, false, not, cond, List, [], ◌∷◌, ◌++◌, map, Option, Some, None, IsSome, refl, sym, ap, subst, ◌∙◌}
use Rattle.std.specs.Borrow.{MutBor}
use Rattle.std.specs.Option.{option_map, option_and_then}
use Rattle.triple_arena_base.specs.Invalidation.{is_success_option, is_overflow}
use Rattle.triple_arena_ptr.specs.Pointers.{Pointer}
use Rattle.triple_arena_traits.specs.Ending.{told, told_of}
use Rattle.triple_arena_traits.specs.Entries.{look_up, value_of_generation, with_value_in}
use Rattle.triple_arena_traits.specs.Histories.{History, removal, and_then, followed_by}
use Rattle.triple_arena_traits.specs.laws.EntryLaws.{written}
use Rattle.triple_arena_traits.specs.laws.ItemLaws.{eq_true}
use Rattle.triple_arena_traits.specs.laws.WalkLaws.{found}
use Rattle.triple_arena_recasting.specs.Retaining.{StaysOrGoes, AsksAt, Retains}

or_false : (b : Bool) → (b || false) ≡ b
or_false true = refl
or_false false = refl

or_assoc : (a b c : Bool) → ((a || b) || c) ≡ (a || (b || c))
or_assoc true b c = refl
or_assoc false b c = refl

-- neither wrapped, where it wasn't one or the other
pub neither : (a b : Bool) → (a || b) ≡ false → (a ≡ false) × (b ≡ false)
neither true b e = absurd (cc)
neither false b e = (refl, e)

-- removals, and then more of them
pub gone_more : (h : History) (ps qs : List Pointer) → followed_by h (map removal (ps ++ qs)) ≡ followed_by (followed_by h (map removal ps)) (map removal qs)
gone_more h [] qs = refl
gone_more h (p ∷ ps) qs = gone_more (and_then h (removal p)) ps qs

module _ {A P T F : Type 0} (numbers : P → Pointer) (step : F → P → MutBor T → Bool → MutBor T → F → Type 0)
    (with_value : A → ℕ → T → A) (removes : A → ℕ → A → Type 0) (wraps : A → Bool) where
  abbrev Trace : F → A → List (Pointer × T) → Bool → F → A → Type 0
  Trace = Retains numbers step with_value removes wraps

  -- what calls at the entries ahead do is, after those before, what calls at all of them do
  abbrev pub GoesOn : F → A → List (Pointer × T) → List (Pointer × T) → Bool → F → A → Type 0
  GoesOn start old all ahead wrapped f a = (later : Bool) (last : F) (new : A) → Trace f a ahead later last new → Trace start old all (wrapped || later) last new

  pub begins : (start : F) (old : A) (all ahead : List (Pointer × T)) → ahead ≡ all → GoesOn start old all ahead false start old
  begins start old all ahead is later last new t = subst (λ es. Trace start old es later last new) is t

  pub goes_on : (start : F) (old : A) (all ahead rest : List (Pointer × T)) (wrapped : Bool) (f : F) (a : A) (e : Pointer × T) (first : Bool) (after : F) (left : A)
      → ahead ≡ e ∷ rest → AsksAt numbers step with_value removes wraps f a e.0 e.1 first after left → GoesOn start old all ahead wrapped f a → GoesOn start old all rest (wrapped || first) after left
  goes_on start old all ahead rest wrapped f a e first after left is asks so_far later last new t =
      let now : Trace f a ahead (first || later) last new = subst (λ es. Trace f a es (first || later) last new) (sym is) (first, after, left, later, asks, refl, t) in
      subst (λ w. Trace start old all w last new) (sym (or_assoc wrapped first later)) (so_far (first || later) last new now)

  pub ends : (start : F) (old : A) (all ahead : List (Pointer × T)) (wrapped : Bool) (f : F) (a : A) → ahead ≡ [] → GoesOn start old all ahead wrapped f a → Trace start old all wrapped f a
  ends start old all ahead wrapped f a none so_far =
      subst (λ w. Trace start old all w f a) (or_false wrapped) (so_far false f a (subst (λ es. Trace f a es false f a) (sym none) (refl, refl, refl)))

  pub asked : (f : F) (a : A) (p : P) (shown written : MutBor T) (kept : Bool) (wrapped : Bool) (after : F) (left : A) → step f p shown kept written after
      → StaysOrGoes removes kept (with_value a (numbers p).0 written.now) (numbers p).0 left → wrapped ≡ cond kept false (wraps (with_value a (numbers p).0 written.now))
      → AsksAt numbers step with_value removes wraps f a (numbers p) shown.now wrapped after left
  asked f a p shown written kept wrapped after left called done told =
      record { pointer = p; names = refl; shown = shown; shows = refl; kept = kept; written = written; called = called; done = done; told = told }

-- the entry of a valid pointer is still there after another value is written
pub still_there : {T : Type 0} (slots : List (Option (ℕ × T))) (p : Pointer) (w : T) → IsSome (look_up slots p) → IsSome (look_up (with_value_in slots p.0 w) p)
still_there slots p w live =
    let f = found slots p live in
    let is : look_up (with_value_in slots p.0 w) p ≡ Some w =
    ap (option_and_then (value_of_generation p.1)) ((written slots p.0 w).there ∙ ap (option_map (λ e. (e.0, w))) f.entry) ∙ ap (λ b. cond b (Some w) None) (eq_true p.1 p.1 refl) in
    rw is refl

-- whether an answer tells of a wrap
pub overflow_is : {T : Type 0} (wrapped : Bool) (o : Option T) → IsSome o → is_overflow (told_of wrapped o) ≡ wrapped
overflow_is wrapped None live = absurd (cc)
overflow_is true (Some v) live = refl
overflow_is false (Some v) live = refl

pub told_is : (wrapped : Bool) → not (is_success_option (told wrapped (tt {0}))) ≡ wrapped
told_is true = refl
told_is false = refl
