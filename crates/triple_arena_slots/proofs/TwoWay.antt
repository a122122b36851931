-- A free list with links both ways: what leaves it, and what comes first, changes the links of its neighbours alone.
use Rattle.std.proofs.Common.{◌≡◌, ◌≢◌, ℕ, ◌+◌, ◌≤◌, ◌<◌, ◌==◌, List, [], ◌∷◌, ◌++◌, Option, Some, None, count_by, cond, refl, sym, ap, subst, ◌∙◌, inl, inr, arith}
use Rattle.std.proofs.lemmas.Bool.{cases_eq}
use Rattle.std.proofs.lemmas.List.Sums.{sum_by-cons, sum_by-append}
use Rattle.std.proofs.lemmas.Option.{same_Some}
use Rattle.triple_arena_traits.specs.FreeList.{up_to}
use Rattle.triple_arena_traits.specs.laws.EntryLaws.{count_head}
use Rattle.triple_arena_traits.specs.laws.WellFormedLaws.{count_tail}
use Rattle.triple_arena_traits.proofs.UpTo.{up_to-cons, up_to-past, up_to_all}
use Rattle.triple_arena_slots.specs.Layout.{Linked}

-- how often an index stands in a list
abbrev pub times : ℕ → List ℕ → ℕ
times i xs = count_by (λ j. j == i) xs

-- an index stands in a list that begins with it, and in one whose rest has it
times_head : (i : ℕ) (rest : List ℕ) → 1 ≤ times i (i ∷ rest)
times_head i rest = omega (arith, count_head i rest)

times_rest : (i j : ℕ) (rest : List ℕ) → times j rest ≤ times j (i ∷ rest)
times_rest i j rest = omega (arith, sum_by-cons (λ k. cond (k == j) 1 0) i rest)

pub times-append : (j : ℕ) (xs ys : List ℕ) → times j (xs ++ ys) ≡ times j xs + times j ys
times-append j xs ys = sum_by-append (λ k. cond (k == j) 1 0) xs ys

-- the same links along a list keep it
pub Linked-same : (on back on1 back1 : ℕ → Option ℕ) (last from : Option ℕ) (free : List ℕ) → ((j : ℕ) → 1 ≤ times j free → (on1 j ≡ on j) × (back1 j ≡ back j)) → Linked on back last from free → Linked on1 back1 last from free
Linked-same on back on1 back1 last from [] same linked = linked
Linked-same on back on1 back1 last from (i ∷ rest) same linked =
    let here = same i (times_head i rest) in
    (linked.0, here.1 ∙ linked.1, rw here.0 (Linked-same on back on1 back1 (Some i) (on i) rest (λ j h. same j (omega (arith, h, times_rest i j rest))) linked.2))

-- what one that stands in a list leads on to stands behind it
next_behind : (on back : ℕ → Option ℕ) (last from : Option ℕ) (xs : List ℕ) (i : ℕ) (ys : List ℕ) (j : ℕ) → Linked on back last from (xs ++ i ∷ ys) → on i ≡ Some j → 1 ≤ times j ys
next_behind on back last from [] i [] j linked e = absurd (let h = linked.2 in cc)
next_behind on back last from [] i (y ∷ ys) j linked e =
    let same : y ≡ j = same_Some _ _ (sym linked.2.0 ∙ e) in
    subst (λ m. 1 ≤ times m (y ∷ ys)) same (times_head y ys)
next_behind on back last from (x ∷ xs) i ys j linked e = next_behind on back (Some x) (on x) xs i ys j linked.2 e

-- what it leads back to stands in front of it
previous_before : (on back : ℕ → Option ℕ) (last from : Option ℕ) (x : ℕ) (xs : List ℕ) (i : ℕ) (ys : List ℕ) (j : ℕ) → Linked on back last from (x ∷ xs ++ i ∷ ys) → back i ≡ Some j → 1 ≤ times j (x ∷ xs)
previous_before on back last from x [] i ys j linked e =
    let same : x ≡ j = same_Some _ _ (sym linked.2.1 ∙ e) in
    subst (λ m. 1 ≤ times m (x ∷ [])) same (times_head x [])
previous_before on back last from x (y ∷ xs) i ys j linked e =
    omega (arith, previous_before on back (Some x) (on x) y xs i ys j linked.2 e, times_rest x j (y ∷ xs))

-- the links after one at i left: its neighbours lead to each other
pub record Skips (on back on1 back1 : ℕ → Option ℕ) (i : ℕ) : Type 0 where
  pub next : (j : ℕ) → j ≢ i → back i ≡ Some j → on1 j ≡ on i
  pub kept : (j : ℕ) → j ≢ i → back i ≢ Some j → on1 j ≡ on j
  pub previous : (j : ℕ) → j ≢ i → on i ≡ Some j → back1 j ≡ back i
  pub kept_back : (j : ℕ) → j ≢ i → on i ≢ Some j → back1 j ≡ back j

-- where a list begins once i left it
abbrev pub root_without : (ℕ → Option ℕ) → Option ℕ → ℕ → List ℕ → Option ℕ
root_without on root i [] = on i
root_without on root i (x ∷ xs) = root

-- no index stands twice in a list
abbrev pub Once : List ℕ → Type 0
Once xs = (j : ℕ) → times j xs ≤ 1

Once-rest : (x : ℕ) (xs : List ℕ) → Once (x ∷ xs) → Once xs
Once-rest x xs once j = omega (arith, once j, times_rest x j xs)

-- one that is in the rest is not the first
apart : (x j : ℕ) (xs : List ℕ) → Once (x ∷ xs) → 1 ≤ times j xs → j ≢ x
apart x j xs once there e =
    omega (arith, once x, count_head x xs, subst (λ m. 1 ≤ times m xs) e there)

Linked-first : (on back on1 back1 : ℕ → Option ℕ) (last : Option ℕ) (i : ℕ) (ys : List ℕ) → Skips on back on1 back1 i → Once (i ∷ ys) → ((j : ℕ) → last ≡ Some j → times j (i ∷ ys) ≡ 0) → back i ≡ last → Linked on back (Some i) (on i) ys → Linked on1 back1 last (on i) ys
Linked-first on back on1 back1 last i [] skips once fresh first linked = linked
Linked-first on back on1 back1 last i (y ∷ ys) skips once fresh first linked =
    let other : y ≢ i = apart i y (y ∷ ys) once (times_head y ys) in
    let off : (j : ℕ) → 1 ≤ times j (i ∷ y ∷ ys) → back i ≢ Some j = λ j there e. omega (arith, there, fresh j (sym first ∙ e)) in
    let inner : 1 ≤ times y (i ∷ y ∷ ys) = omega (arith, times_head y ys, times_rest i y (y ∷ ys)) in
    let on_y : on1 y ≡ on y = skips.kept y other (off y inner) in
    let rest : Linked on1 back1 (Some y) (on y) ys = Linked-same on back on1 back1 (Some y) (on y) ys (λ j there.
    let in_rest : 1 ≤ times j (y ∷ ys) = omega (arith, there, times_rest y j ys) in
    let j_i : j ≢ i = apart i j (y ∷ ys) once in_rest in
    let j_y : j ≢ y = apart y j ys (Once-rest i (y ∷ ys) once) there in
    (skips.kept j j_i (off j (omega (arith, in_rest, times_rest i j (y ∷ ys)))), skips.kept_back j j_i (λ e. j_y (sym (same_Some _ _ (sym linked.0 ∙ e)))))) linked.2 in
    (linked.0, skips.previous y other linked.0 ∙ first, rw on_y rest)

-- one leaves a list where it stands
pub Linked-skipped : (on back on1 back1 : ℕ → Option ℕ) (last from : Option ℕ) (xs : List ℕ) (i : ℕ) (ys : List ℕ) → Skips on back on1 back1 i → Once (xs ++ i ∷ ys) → ((j : ℕ) → last ≡ Some j → times j (xs ++ i ∷ ys) ≡ 0) → Linked on back last from (xs ++ i ∷ ys) → Linked on1 back1 last (root_without on from i xs) (xs ++ ys)
Linked-skipped on back on1 back1 last from [] i ys skips once fresh linked =
    Linked-first on back on1 back1 last i ys skips once fresh linked.1 linked.2
Linked-skipped on back on1 back1 last from (x ∷ xs) i ys skips once fresh linked =
    let at_i : 1 ≤ times i (xs ++ i ∷ ys) = omega (arith, times-append i xs (i ∷ ys), times_head i ys) in
    let x_i : x ≢ i = λ e. apart x i (xs ++ i ∷ ys) once at_i (sym e) in
    let not_next : on i ≢ Some x = λ e.
    omega (arith, next_behind on back (Some x) (on x) xs i ys x linked.2 e, times-append x xs (i ∷ ys), times_rest i x ys, once x, count_head x (xs ++ i ∷ ys)) in
    let inner : Linked on1 back1 (Some x) (root_without on (on x) i xs) (xs ++ ys) =
    Linked-skipped on back on1 back1 (Some x) (on x) xs i ys skips (Once-rest x (xs ++ i ∷ ys) once)
    (λ j e. subst (λ m. times m (xs ++ i ∷ ys) ≡ 0) (same_Some _ _ e) (omega (arith, once x, count_head x (xs ++ i ∷ ys)))) linked.2 in
    (linked.0, skips.kept_back x x_i not_next ∙ linked.1, rw (by_front xs linked.2 once x_i) inner)
  where
    by_front : (zs : List ℕ) → Linked on back (Some x) (on x) (zs ++ i ∷ ys) → Once (x ∷ zs ++ i ∷ ys) → x ≢ i → on1 x ≡ root_without on (on x) i zs
    by_front [] l once x_i = skips.next x x_i l.1
    by_front (z ∷ zs) l once x_i =
        skips.kept x x_i (λ e. omega (arith, previous_before on back (Some x) (on x) z zs i ys x l e, times-append x (z ∷ zs) (i ∷ ys), once x, count_head x (z ∷ zs ++ i ∷ ys)))

-- the neighbours of one that stands in a list are two
pub neighbours_apart : (on back : ℕ → Option ℕ) (from : Option ℕ) (xs : List ℕ) (i : ℕ) (ys : List ℕ) (j : ℕ) → Once (xs ++ i ∷ ys) → Linked on back None from (xs ++ i ∷ ys) → back i ≡ Some j → on i ≢ Some j
neighbours_apart on back from [] i ys j once linked before = λ e. absurd (let h = linked.1 in cc)
neighbours_apart on back from (x ∷ xs) i ys j once linked before =
    λ e. omega (arith, previous_before on back None from x xs i ys j linked before, next_behind on back None from (x ∷ xs) i ys j linked e, times-append j (x ∷ xs) (i ∷ ys), times_rest i j ys, once j)

-- they stand in it
pub next_there : (on back : ℕ → Option ℕ) (from : Option ℕ) (xs : List ℕ) (i : ℕ) (ys : List ℕ) (j : ℕ) → Linked on back None from (xs ++ i ∷ ys) → on i ≡ Some j → 1 ≤ times j (xs ++ i ∷ ys)
next_there on back from xs i ys j linked e =
    omega (arith, next_behind on back None from xs i ys j linked e, times-append j xs (i ∷ ys), times_rest i j ys)

pub previous_there : (on back : ℕ → Option ℕ) (from : Option ℕ) (xs : List ℕ) (i : ℕ) (ys : List ℕ) (j : ℕ) → Linked on back None from (xs ++ i ∷ ys) → back i ≡ Some j → 1 ≤ times j (xs ++ i ∷ ys)
previous_there on back from [] i ys j linked e = absurd (let h = linked.1 in cc)
previous_there on back from (x ∷ xs) i ys j linked e =
    omega (arith, previous_before on back None from x xs i ys j linked e, times-append j (x ∷ xs) (i ∷ ys))

-- the list begins with i where there is none before it, and else as it did
pub root_skipped : (on back : ℕ → Option ℕ) (from : Option ℕ) (xs : List ℕ) (i : ℕ) (ys : List ℕ) (root : Option ℕ) → Linked on back None from (xs ++ i ∷ ys) → (back i ≡ None → root ≡ on i) → ((j : ℕ) → back i ≡ Some j → root ≡ from) → root ≡ root_without on from i xs
root_skipped on back from [] i ys root linked first later = first linked.1
root_skipped on back from (x ∷ xs) i ys root linked first later = by_back (back i) refl
  where
    leads : (from : Option ℕ) (last : Option ℕ) (x : ℕ) (xs : List ℕ) → Linked on back last from (x ∷ xs ++ i ∷ ys) → (j : ℕ) × (back i ≡ Some j)
    leads from last x [] l = (x, l.2.1)
    leads from last x (y ∷ xs) l = leads (on x) (Some x) y xs l.2

    by_back : (o : Option ℕ) → back i ≡ o → root ≡ from
    by_back (Some j) e = later j e
    by_back None e = absurd (let h = leads from None x xs linked in let k = h.1 in cc)

-- a list is what stands before an index in it, the index, and what stands behind
pub split_at : (i : ℕ) (free : List ℕ) → 1 ≤ times i free → (xs : List ℕ) × (ys : List ℕ) × (free ≡ xs ++ i ∷ ys)
split_at i [] there = absurd (omega (arith, there))
split_at i (x ∷ rest) there =
    elim (cases_eq x i) [
      | inl here ↦ ([], rest, ap (λ m. m ∷ rest) here)
      | inr other ↦
          let inner = split_at i rest (omega (arith, there, count_tail x i rest other)) in
          (x ∷ inner.0, inner.1, ap (λ l. x ∷ l) inner.2)
    ]

-- without its greatest index
pub up_to-split : (n i : ℕ) (xs ys : List ℕ) → i ≡ n + 1 → Once (xs ++ i ∷ ys) → ((j : ℕ) → i < j → times j (xs ++ i ∷ ys) ≡ 0) → up_to n (xs ++ i ∷ ys) ≡ xs ++ ys
up_to-split n i [] ys here once greatest =
    up_to-past n i ys (omega arith) ∙ up_to_all n ys (λ j h. elim (cases_eq j i) [
      | inl same ↦ subst (λ m. times m ys ≡ 0) (sym same) (omega (arith, once i, count_head i ys))
      | inr other ↦ omega (arith, greatest j (omega (arith, h, other)), times_rest i j ys)
    ])
up_to-split n i (x ∷ xs) ys here once greatest =
    let at_i : 1 ≤ times i (xs ++ i ∷ ys) = omega (arith, times-append i xs (i ∷ ys), times_head i ys) in
    let x_i : x ≢ i = λ e. apart x i (xs ++ i ∷ ys) once at_i (sym e) in
    let within : i < x → ⊥ = λ h. omega (arith, greatest x h, count_head x (xs ++ i ∷ ys)) in
    up_to-cons n x (xs ++ i ∷ ys) (omega (arith, x_i, within)) ∙ ap (λ l. x ∷ l) (up_to-split n i xs ys here (Once-rest x (xs ++ i ∷ ys) once) (λ j h. omega (arith, greatest j h, times_rest x j (xs ++ i ∷ ys))))

-- the links after one at i came to the front
pub record Leads (on back on1 back1 : ℕ → Option ℕ) (root : Option ℕ) (i : ℕ) : Type 0 where
  pub next : on1 i ≡ root
  pub first : back1 i ≡ None
  pub previous : (j : ℕ) → j ≢ i → root ≡ Some j → back1 j ≡ Some i
  pub kept : (j : ℕ) → j ≢ i → on1 j ≡ on j
  pub kept_back : (j : ℕ) → j ≢ i → root ≢ Some j → back1 j ≡ back j

-- one comes to the front of a list
pub Linked-led : (on back on1 back1 : ℕ → Option ℕ) (root : Option ℕ) (i : ℕ) (free : List ℕ) → Leads on back on1 back1 root i → times i free ≡ 0 → Once free → Linked on back None root free → Linked on1 back1 None (Some i) (i ∷ free)
Linked-led on back on1 back1 root i [] leads off once linked = (refl, leads.first, leads.next ∙ linked)
Linked-led on back on1 back1 root i (y ∷ ys) leads off once linked =
    let other : (j : ℕ) → 1 ≤ times j (y ∷ ys) → j ≢ i = λ j there e. omega (arith, off, subst (λ m. 1 ≤ times m (y ∷ ys)) e there) in
    let y_i = other y (times_head y ys) in (
      refl,
      leads.first,
      (
        leads.next ∙ linked.0,
        leads.previous y y_i linked.0,
        rw (leads.kept y y_i) (Linked-same on back on1 back1 (Some y) (on y) ys (λ j there.
            let j_i = other j (omega (arith, there, times_rest y j ys)) in
            (leads.kept j j_i, leads.kept_back j j_i (λ e. apart y j ys once there (sym (same_Some _ _ (sym linked.0 ∙ e)))))) linked.2),
      ),
    )
