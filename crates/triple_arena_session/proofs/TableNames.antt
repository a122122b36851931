-- Names of pointers: their places in a table.
use Rattle.std.proofs.Common.{◌≡◌, ◌≢◌, ℕ, zero, suc, ◌+◌, ◌||◌, nat_lt, Bool, true, false, not, List, [], ◌∷◌, ◌++◌, length, map, set, Option, Some, None, slice_get, cond, count_by, refl, sym, ap, ◌∙◌, inl, inr, arith, true≢false}
use Rattle.std.proofs.lemmas.Bool.{cases_Bool}
use Rattle.std.proofs.lemmas.Bool.Decides.{nat_tests}
use Rattle.std.proofs.lemmas.List.Sums.{sum_by-cons}
use Rattle.std.specs.List.{position, position_or_len}
use Rattle.std.specs.Option.{option_map}
use Rattle.triple_arena_traits.specs.Items.{item, with_item}
use Rattle.triple_arena_ptr.specs.Pointers.{Pointer, is_same}
use Rattle.triple_arena_commands.specs.PointerNames.{name_of}
use Rattle.triple_arena_session.specs.SessionState.{link_name, link_pointer}
use Rattle.triple_arena_traits.specs.Histories.{has, AreDistinct}
use Rattle.triple_arena_traits.specs.laws.PointerListLaws.{same_itself, same_is, has_head, has_tail, or_none}

pub not_same : (p q : Pointer) → p ≢ q → is_same p q ≡ false
not_same p q other =
    elim (cases_Bool (is_same p q)) [
      | inl so ↦ absurd (other (same_is p q so))
      | inr differs ↦ differs
    ]

pub same_flip : (p q : Pointer) → is_same p q ≡ is_same q p
same_flip p q =
    elim (cases_Bool (is_same p q)) [
      | inl so ↦ let e = same_is p q so in so ∙ sym (ap (λ r. is_same r p) (sym e) ∙ same_itself p)
      | inr differs ↦ differs ∙ sym (not_same q p (λ e. true≢false (sym (ap (is_same p) e ∙ same_itself p) ∙ differs)))
    ]

test_suc : (n m : ℕ) → nat_lt (1 + n) (1 + m) ≡ nat_lt n m
test_suc n m = grind (arith, nat_tests)

position-cons : {A : Type 0} (p : A → Bool) (x : A) (xs : List A) → position p (x ∷ xs) ≡ cond (p x) (Some 0) (option_map suc (position p xs))
position-cons p x xs = by (p x)
  where
    l : length (x ∷ xs) ≡ 1 + length xs
    l = omega arith

    shifted : (b : Bool) (n : ℕ) → cond b (Some (1 + n)) None ≡ option_map suc (cond b (Some n) None)
    shifted true n = let e : 1 + n ≡ suc n = omega arith in ap Some e
    shifted false n = refl

    first : nat_lt 0 (length (x ∷ xs)) ≡ true
    first = grind (arith, nat_tests)

    by : (b : Bool) → cond (nat_lt (cond (not b) (1 + position_or_len p xs) 0) (length (x ∷ xs))) (Some (cond (not b) (1 + position_or_len p xs) 0)) None ≡ cond b (Some 0) (option_map suc (position p xs))
    by true = ap (λ b. cond b (Some 0) None) first
    by false =
        ap (λ b. cond b (Some (1 + position_or_len p xs)) None) (ap (nat_lt (1 + position_or_len p xs)) l ∙ test_suc (position_or_len p xs) (length xs))
        ∙ shifted (nat_lt (position_or_len p xs) (length xs)) (position_or_len p xs)

pub name_of-cons : (q : Pointer) (table : List Pointer) (p : Pointer) → name_of (q ∷ table) p ≡ cond (is_same q p) (Some 1) (option_map suc (name_of table p))
name_of-cons q table p = ap (option_map suc) (position-cons (λ r. is_same r p) q table) ∙ by (is_same q p)
  where
    by : (b : Bool) → option_map suc (cond b (Some 0) (option_map suc (position (λ r. is_same r p) table))) ≡ cond b (Some 1) (option_map suc (name_of table p))
    by true = refl
    by false = refl

-- what stands in a table
pub has_from_get : (table : List Pointer) (k : ℕ) (p : Pointer) → slice_get table k ≡ Some p → has table p ≡ true
has_from_get [] k p e = absurd (cc)
has_from_get (q ∷ table) zero p e =
    let is : q ≡ p = cc in
    ap (λ x. has (x ∷ table) p) is ∙ has_head p table
has_from_get (q ∷ table) (suc k) p e = has_tail p q table (has_from_get table k p e)

pub get_from_has : (table : List Pointer) (p : Pointer) → has table p ≡ true → (k : ℕ) × (slice_get table k ≡ Some p)
get_from_has [] p e = absurd (true≢false (sym e))
get_from_has (q ∷ table) p e =
    elim (cases_Bool (is_same p q)) [
      | inl so ↦ (0, ap Some (sym (same_is p q so)))
      | inr differs ↦ let rest = get_from_has table p (sym (or_none _ _ differs) ∙ e) in (suc rest.0, rest.1)
    ]

-- with more behind it, a name stays
pub name_of-append : (table more : List Pointer) (p : Pointer) → has table p ≡ true → name_of (table ++ more) p ≡ name_of table p
name_of-append [] more p e = absurd (true≢false (sym e))
name_of-append (q ∷ table) more p e =
    name_of-cons q (table ++ more) p
    ∙ by (is_same q p) refl (λ h. name_of-append table more p h)
    ∙ sym (name_of-cons q table p)
  where
    by : (b : Bool) → is_same q p ≡ b → (has table p ≡ true → name_of (table ++ more) p ≡ name_of table p) → cond b (Some 1) (option_map suc (name_of (table ++ more) p)) ≡ cond b (Some 1) (option_map suc (name_of table p))
    by true is later = refl
    by false is later = ap (option_map suc) (later (sym (or_none _ _ (same_flip p q ∙ is)) ∙ e))

-- where no pointer comes twice, a name is the place
pub name_of-get : (table : List Pointer) (k : ℕ) (p : Pointer) → AreDistinct table → slice_get table k ≡ Some p → name_of table p ≡ Some (suc k)
name_of-get [] k p d e = absurd (cc)
name_of-get (q ∷ table) zero p d e =
    let is : q ≡ p = cc in
    name_of-cons q table p ∙ ap (λ b. cond b (Some 1) (option_map suc (name_of table p))) (ap (λ x. is_same x p) is ∙ same_itself p)
name_of-get (q ∷ table) (suc k) p d e =
    let other : is_same q p ≡ false = not_same q p (λ is. true≢false (sym (has_from_get table k p e) ∙ ap (has table) (sym is) ∙ d.0)) in
    name_of-cons q table p ∙ ap (λ b. cond b (Some 1) (option_map suc (name_of table p))) other ∙ ap (option_map suc) (name_of-get table k p d.1 e)

pub name_of-item : (table : List Pointer) (name : ℕ) (p : Pointer) → AreDistinct table → item table name ≡ Some p → name_of table p ≡ Some name
name_of-item table zero p d e = absurd (cc)
name_of-item table (suc k) p d e = name_of-get table k p d e

pub has_from_item : (table : List Pointer) (name : ℕ) (p : Pointer) → item table name ≡ Some p → has table p ≡ true
has_from_item table zero p e = absurd (cc)
has_from_item table (suc k) p e = has_from_get table k p e

-- the name of a pointer in the table is its place
pub item_of_name : (table : List Pointer) (p : Pointer) → AreDistinct table → has table p ≡ true → (name : ℕ) × (item table name ≡ Some p) × (name_of table p ≡ Some name)
item_of_name table p d e =
    let found = get_from_has table p e in
    (suc found.0, found.1, name_of-get table found.0 p d found.1)

-- the name of the link that was given as a name
pub link_name-given : (table : List Pointer) (link : Option ℕ) (p : Option Pointer) → AreDistinct table → link_pointer table link ≡ Some p → link_name table p ≡ link
link_name-given table None p d e = let is : p ≡ None = cc in ap (link_name table) is
link_name-given table (Some name) p d e = by (item table name) refl e
  where
    by : (o : Option Pointer) → item table name ≡ o → option_map Some o ≡ Some p → link_name table p ≡ Some name
    by None is e = absurd (cc)
    by (Some q) is e = let same : p ≡ Some q = cc in ap (link_name table) same ∙ name_of-item table name q d is

-- names stay where pointers are renamed one to one
pub name_of-map : (f : Pointer → Pointer) (table : List Pointer) (p : Pointer) → ((q : Pointer) → has table q ≡ true → is_same (f q) (f p) ≡ is_same q p) → name_of (map f table) (f p) ≡ name_of table p
name_of-map f [] p one = refl
name_of-map f (q ∷ table) p one =
    name_of-cons (f q) (map f table) (f p)
    ∙ ap (λ b. cond b (Some 1) (option_map suc (name_of (map f table) (f p)))) (one q (has_head q table))
    ∙ ap (λ o. cond (is_same q p) (Some 1) (option_map suc o)) (name_of-map f table p (λ r e. one r (has_tail r q table e)))
    ∙ sym (name_of-cons q table p)

module _ {A : Type 0} (f g : Pointer → A) where
  pub map_same : (table : List Pointer) → ((q : Pointer) → has table q ≡ true → g q ≡ f q) → map g table ≡ map f table
  map_same [] same = refl
  map_same (q ∷ table) same =
      ap (λ x. x ∷ map g table) (same q (has_head q table)) ∙ ap (λ l. f q ∷ l) (map_same table (λ r e. same r (has_tail r q table e)))

  -- one image changes
  pub map_changed : (table : List Pointer) (k : ℕ) (p : Pointer) (x : A) → AreDistinct table → slice_get table k ≡ Some p → g p ≡ x → ((q : Pointer) → has table q ≡ true → q ≢ p → g q ≡ f q) → map g table ≡ set (map f table) k x
  map_changed [] k p x d e there others = refl
  map_changed (q ∷ table) zero p x d e there others =
      let is : q ≡ p = cc in
      ap (λ y. y ∷ map g table) (ap g is ∙ there) ∙ ap (λ l. x ∷ l) (map_same table (λ r h. others r (has_tail r q table h) (λ same. true≢false (sym h ∙ ap (has table) (same ∙ sym is) ∙ d.0))))
  map_changed (q ∷ table) (suc k) p x d e there others =
      ap (λ y. y ∷ map g table) (others q (has_head q table) (λ same. true≢false (sym (has_from_get table k p e) ∙ ap (has table) (sym same) ∙ d.0)))
      ∙ ap (λ l. f q ∷ l) (map_changed table k p x d.1 e there (λ r h. others r (has_tail r q table h)))

  pub map_changed_at : (table : List Pointer) (name : ℕ) (p : Pointer) (x : A) → AreDistinct table → item table name ≡ Some p → g p ≡ x → ((q : Pointer) → has table q ≡ true → q ≢ p → g q ≡ f q) → map g table ≡ with_item (map f table) name x
  map_changed_at table zero p x d e there others = absurd (cc)
  map_changed_at table (suc k) p x d e there others = map_changed table k p x d e there others

-- how often a test holds in a table
pub count_none : {A : Type 0} (xs : List A) → count_by (λ x. false) xs ≡ 0
count_none [] = refl
count_none (x ∷ xs) = omega (arith, sum_by-cons (λ x. cond false 1 0) x xs, count_none xs)

pub count_same : {A : Type 0} (f g : A → Bool) → ((x : A) → f x ≡ g x) → (xs : List A) → count_by f xs ≡ count_by g xs
count_same f g same [] = refl
count_same f g same (x ∷ xs) =
    omega (arith, sum_by-cons (λ x. cond (f x) 1 0) x xs, sum_by-cons (λ x. cond (g x) 1 0) x xs, ap {B = ℕ} (λ b. cond b 1 0) (same x), count_same f g same xs)

pub count_map : {A B : Type 0} (f : B → Bool) (h : A → B) (xs : List A) → count_by f (map h xs) ≡ count_by (λ x. f (h x)) xs
count_map f h [] = refl
count_map f h (x ∷ xs) =
    omega (arith, sum_by-cons (λ x. cond (f x) 1 0) (h x) (map h xs), sum_by-cons (λ x. cond (f (h x)) 1 0) x xs, count_map f h xs)

-- a pointer that is not in a table, and one that is
pub count_absent : (p : Pointer) (table : List Pointer) → has table p ≡ false → count_by (λ q. is_same q p) table ≡ 0
count_absent p [] none = refl
count_absent p (q ∷ table) none =
    let here : is_same q p ≡ false = same_flip q p ∙ left (is_same p q) (has table p) none in
    omega (arith, sum_by-cons (λ q. cond (is_same q p) 1 0) q table, ap {B = ℕ} (λ b. cond b 1 0) here, count_absent p table (right (is_same p q) (has table p) none))
  where
    left : (a b : Bool) → (a || b) ≡ false → a ≡ false
    left true b e = e
    left false b e = refl

    right : (a b : Bool) → (a || b) ≡ false → b ≡ false
    right true b e = absurd (true≢false e)
    right false b e = e

pub count_present : (p : Pointer) (table : List Pointer) → AreDistinct table → has table p ≡ true → count_by (λ q. is_same q p) table ≡ 1
count_present p [] d e = absurd (true≢false (sym e))
count_present p (q ∷ table) d e =
    elim (cases_Bool (is_same p q)) [
      | inl so ↦
          let absent : has table p ≡ false = ap (has table) (same_is p q so) ∙ d.0 in
          omega (arith, sum_by-cons (λ q. cond (is_same q p) 1 0) q table, ap {B = ℕ} (λ b. cond b 1 0) (same_flip q p ∙ so), count_absent p table absent)
      | inr differs ↦
          omega (arith, sum_by-cons (λ q. cond (is_same q p) 1 0) q table, ap {B = ℕ} (λ b. cond b 1 0) (same_flip q p ∙ differs), count_present p table d.1 (sym (or_none _ _ differs) ∙ e))
    ]

pub count_or : {A : Type 0} (f g : A → Bool) → ((x : A) → f x ≡ true → g x ≡ false) → (xs : List A) → count_by (λ x. f x || g x) xs ≡ count_by f xs + count_by g xs
count_or f g apart [] = refl
count_or f g apart (x ∷ xs) =
    omega (arith, sum_by-cons (λ x. cond (f x || g x) 1 0) x xs, sum_by-cons (λ x. cond (f x) 1 0) x xs, sum_by-cons (λ x. cond (g x) 1 0) x xs, one (f x) (g x) (apart x), count_or f g apart xs)
  where
    one : (a b : Bool) → (a ≡ true → b ≡ false) → cond {A = ℕ} (a || b) 1 0 ≡ cond a 1 0 + cond b 1 0
    one true true h = absurd (true≢false (h refl))
    one true false h = refl
    one false true h = refl
    one false false h = refl
