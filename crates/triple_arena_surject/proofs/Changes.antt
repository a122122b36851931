-- The state after each call, by what is told of keys and of values.
use Rattle.std.specs.Prelude.{List, map}
use Rattle.std.proofs.Common.{◌≡◌, ◌≢◌, ◌⊎◌, ◌+◌, ℕ, Option, Some, None, IsSome, refl, sym, ap, ◌∙◌, subst, inl, inr}
use Rattle.std.specs.Option.{option_map, option_and_then}
use Rattle.triple_arena_ptr.specs.Pointers.{Pointer}
use Rattle.triple_arena.specs.ArenaState.{map_entry}
use Rattle.triple_arena.specs.Entries.{look_up, entry_in, entry_count, with_value_in}
use Rattle.triple_arena.specs.Items.{with_item}
use Rattle.triple_arena.specs.laws.ItemLaws.{map-with_item}
use Rattle.triple_arena.specs.laws.LookUpLaws.{entry_at, found_mapped, written_there, written_elsewhere}
use Rattle.triple_arena_chain.specs.Chains.{Node, ChainState, nodes, value_at, after_at, IsLinked, IsInserted, IsRemoved, put_within_entry}
use Rattle.triple_arena_chain.specs.laws.LinkLaws.{same_pointer, pointer_cases, leads_cases}
use Rattle.triple_arena_surject.specs.declared.member.Member.{Member}
use Rattle.triple_arena_surject.specs.declared.member.Shared.{Shared}
use Rattle.triple_arena_surject.specs.Rings.{counts, label, with_keys, with_value, CountsLess, IsSound, IsRingOfOne}
use Rattle.triple_arena_surject.specs.Surject.{SurjectState, found_at, key_at, set_at, named, val_at, AreTogether, AreOfBoth, IsNewSet, IsAdded, IsValued, IsUnited, IsKeyRemoved, IsSetRemoved, put_val, with_val, key_of, value_of, state_of}
use Rattle.triple_arena_surject.proofs.Options.{some_there}
use Rattle.triple_arena_surject.proofs.Rounds.{label_stays}
use Rattle.triple_arena_surject.proofs.Leaving.{alone_of_set, another}
use Rattle.triple_arena_surject.proofs.Uniting.{IsMerged, label_moved, label_kept, key_kept}
use Rattle.triple_arena_surject.proofs.States.{IsRead, read, read_same, no_share, set_is, key_is, val_is, together, together_is}

module _ {V : Type 0} where
  -- a value that was put in and taken out again leaves each name what it named
  pub put_back : (old mid new : List (Option (ℕ × Shared V))) (c : Pointer) → look_up old c ≡ None → ((d : Pointer) → d ≢ c → look_up mid d ≡ look_up old d)
      → look_up new c ≡ None → ((d : Pointer) → d ≢ c → look_up new d ≡ look_up mid d) → (d : Pointer) → look_up new d ≡ look_up old d
  put_back old mid new c free put gone taken d =
      elim (pointer_cases d c) [
        | inl is ↦ ap (look_up new) is ∙ gone ∙ sym free ∙ sym (ap (look_up old) is)
        | inr other ↦ taken d other ∙ put d other
      ]

  value_kept : (k : ℕ) (o : Option (Shared V)) → option_map value_of (option_map (with_keys k) o) ≡ option_map value_of o
  value_kept k None = refl
  value_kept k (Some shared) = refl

  -- a value is written to what is kept of a set
  module _ (slots slots' : List (Option (ℕ × Shared V))) (c : Pointer) (shared : Shared V) (w : V) (found : look_up slots c ≡ Some shared)
      (is : slots' ≡ with_value_in slots c.0 (record shared { value = w })) where
    pub counts_written : (d : Pointer) → counts slots' d ≡ counts slots d
    counts_written d =
        ap (λ s. counts s d) is
        ∙ elim (pointer_cases d c) [
          | inl here ↦
              ap (counts (with_value_in slots c.0 (record shared { value = w }))) here
              ∙ ap (option_map (λ (s : Shared V). s.keys)) (written_there slots c shared (record shared { value = w }) found ∙ ap (option_map (with_value w)) (sym found))
              ∙ same_keys (look_up slots c) ∙ sym (ap (counts slots) here)
          | inr other ↦ ap (option_map (λ (s : Shared V). s.keys)) (written_elsewhere slots c shared (record shared { value = w }) found d other)
        ]
      where
        same_keys : (o : Option (Shared V)) → option_map (λ (s : Shared V). s.keys) (option_map (with_value w) o) ≡ option_map (λ (s : Shared V). s.keys) o
        same_keys None = refl
        same_keys (Some shared) = refl

    abbrev vals : List (Option (ℕ × V))
    vals = map (option_map (map_entry value_of)) slots

    vals_written : map (option_map (map_entry value_of)) slots' ≡ with_value_in vals c.0 w
    vals_written =
        ap (map (option_map (map_entry value_of))) is
        ∙ map-with_item (option_map (map_entry value_of)) slots c.0 (option_map (λ e. (e.0, record shared { value = w })) (entry_in slots c.0))
        ∙ ap (with_item vals c.0)
        (ap (λ o. option_map (map_entry value_of) (option_map (λ e. (e.0, record shared { value = w })) o)) (entry_at slots c shared found)
        ∙ sym (ap (option_map (λ e. (e.0, w))) (entry_at vals c shared.value (found_mapped value_of slots c ∙ ap (option_map value_of) found))))

    -- as the arena of values puts it
    module _ {B : Type 0} (slots_of : B → List (Option (ℕ × Shared V))) (put : B → ℕ → Shared V → B) (sets sets' : B) (here : slots_of sets ≡ slots) (put_so : sets' ≡ put sets c.0 (record shared { value = w })) where
      arena_written : sets' ≡ put_val slots_of put sets c.0 w
      arena_written = put_so ∙ sym (ap (λ s. put_within_entry slots_of put with_value sets c.0 w (entry_in s c.0)) here ∙ ap (put_within_entry slots_of put with_value sets c.0 w) (entry_at slots c shared found))

      pub state_written : {A P K : Type 0} (numbers : P → Pointer) (chains : ChainState A (Member P K)) (p : Pointer) (capacity more : ℕ) (limit other : Option ℕ)
          → label numbers (nodes chains) p ≡ Some c → entry_count slots' ≡ entry_count slots → more ≡ capacity → other ≡ limit
          → state_of numbers sets' chains slots' more other
          ≡ with_val (put_val slots_of put) (state_of numbers sets chains slots capacity limit) (set_at (state_of numbers sets chains slots capacity limit) p) w
      state_written numbers chains p capacity more limit other of len same_capacity same_limit =
          ap (λ v. record (state_of numbers sets' chains slots' more other) { vals = v }) vals_written
          ∙ ap (λ a. record (state_of numbers a chains slots' more other) { vals = with_value_in vals c.0 w }) arena_written
          ∙ ap (λ n. record (with_val (put_val slots_of put) (state_of numbers sets chains slots more other) (Some c) w) { len_vals = n }) len
          ∙ ap (λ n. with_val (put_val slots_of put) (state_of numbers sets chains slots n other) (Some c) w) same_capacity
          ∙ ap (λ l. with_val (put_val slots_of put) (state_of numbers sets chains slots capacity l) (Some c) w) same_limit
          ∙ sym (ap (λ o. with_val (put_val slots_of put) (state_of numbers sets chains slots capacity limit) o w) (set_is (read numbers sets chains slots capacity limit _ refl) p ∙ of))

module _ {A B K V : Type 0} (s t : SurjectState A B K V) where
  -- the value is the same where the set's name is, and what that names
  val_same : (p : Pointer) → set_at t p ≡ set_at s p → ((c : Pointer) → set_at s p ≡ Some c → named t c ≡ named s c) → val_at t p ≡ val_at s p
  val_same p same names = ap (option_and_then (named t)) same ∙ by_name (set_at s p) names
    where
      by_name : (o : Option Pointer) → ((c : Pointer) → o ≡ Some c → named t c ≡ named s c) → option_and_then (named t) o ≡ option_and_then (named s) o
      by_name None names = refl
      by_name (Some c) names = names c refl

  -- two sets are one, by the names that their keys have
  module _ (p q c d : Pointer) (of_p : set_at s p ≡ Some c) (of_q : set_at s q ≡ Some d) (apart : c ≢ d)
      (moves : (r : Pointer) → set_at s r ≡ Some d → set_at t r ≡ Some c) (stays : (r : Pointer) → set_at s r ≢ Some d → set_at t r ≡ set_at s r)
      (keys : (r : Pointer) → key_at t r ≡ key_at s r) (names : (e : Pointer) → e ≢ d → named t e ≡ named s e) where
    not_gone : (r : Pointer) → set_at s r ≡ Some c → set_at s r ≢ Some d
    not_gone r of also = apart (same_pointer c d (sym of ∙ also))

    -- who is together was so, or one was of the one set and one of the other; and the other way round
    to_joined : (x y : Pointer) → AreTogether t x y → AreTogether s x y ⊎ AreOfBoth s p q x y
    to_joined x y is =
        elim (leads_cases (set_at s x) d) [
          | inl gone ↦ elim (leads_cases (set_at s y) d) [
            | inl too ↦ inl (some_there (set_at s x) d gone, gone ∙ sym too)
            | inr other ↦ inr (inr ((some_there (set_at s q) d of_q, of_q ∙ sym gone), (some_there (set_at s p) c of_p, of_p ∙ sym (moves x gone) ∙ is.1 ∙ stays y other)))
          ]
          | inr away ↦ elim (leads_cases (set_at s y) d) [
            | inl gone ↦ inr (inl ((some_there (set_at s p) c of_p, of_p ∙ sym (moves y gone) ∙ sym is.1 ∙ stays x away), (some_there (set_at s q) d of_q, of_q ∙ sym gone)))
            | inr other ↦ inl (subst IsSome (stays x away) is.0, sym (stays x away) ∙ is.1 ∙ stays y other)
          ]
        ]

    of_both : (x y : Pointer) → set_at s x ≡ Some c → set_at s y ≡ Some d → (set_at t x ≡ Some c) × (set_at t y ≡ Some c)
    of_both x y of also = (stays x (not_gone x of) ∙ of, moves y also)

    from_joined : (x y : Pointer) → AreTogether s x y ⊎ AreOfBoth s p q x y → AreTogether t x y
    from_joined x y (inl is) =
        elim (leads_cases (set_at s x) d) [
          | inl gone ↦ (some_there (set_at t x) c (moves x gone), moves x gone ∙ sym (moves y (sym is.1 ∙ gone)))
          | inr away ↦ (subst IsSome (sym (stays x away)) is.0, stays x away ∙ is.1 ∙ sym (stays y (λ e. away (is.1 ∙ e))))
        ]
    from_joined x y (inr (inl is)) =
        let both = of_both x y (sym is.0.1 ∙ of_p) (sym is.1.1 ∙ of_q) in
        (some_there (set_at t x) c both.0, both.0 ∙ sym both.1)
    from_joined x y (inr (inr is)) =
        let both = of_both y x (sym is.1.1 ∙ of_p) (sym is.0.1 ∙ of_q) in
        (some_there (set_at t x) c both.1, both.1 ∙ sym both.0)

    far : (x : Pointer) → ¬ AreTogether s q x → set_at s x ≢ Some d
    far x other of = other (some_there (set_at s q) d of_q, of_q ∙ sym of)

    pub united : IsUnited s p q t
    united =
        record {
          apart = λ is. apart (same_pointer c d (sym of_p ∙ is.1 ∙ of_q));
          keys = keys;
          joined = λ x y. (λ is. to_joined x y is, λ is. from_joined x y is);
          names = λ x other. stays x (far x other);
          value = λ x is. ap (option_and_then (named t)) (moves x (sym is.1 ∙ of_q)) ∙ names c apart ∙ sym (ap (option_and_then (named s)) of_p);
          others = λ x other. val_same x (stays x (far x other)) (λ e of. names e (λ is. far x other (of ∙ ap Some is)));
        }

-- the set of a pointer has the value that is written to it
pub valued_so : {A B K V : Type 0} (put : B → ℕ → V → B) (s : SurjectState A B K V) (p c : Pointer) (was value : V) → set_at s p ≡ Some c → named s c ≡ Some was
    → IsValued s p value (with_val put s (set_at s p) value)
valued_so put s p c was value of is =
    subst (λ o. IsValued s p value (with_val put s o value)) (sym of)
    (record {
      keys = λ q. refl;
      value = λ q with. ap (option_and_then (named (with_val put s (Some c) value))) (sym with.1 ∙ of) ∙ written_there s.vals c was value is;
      others = λ q other.
          val_same s (with_val put s (Some c) value) q refl
          (λ d of_d. written_elsewhere s.vals c was value is d (λ e. other (some_there (set_at s p) c of, of ∙ sym (of_d ∙ ap Some e))));
    })

module _ {A B P K V : Type 0} {numbers : P → Pointer} {old new : Pointer → Option (Node (Member P K))} {slots slots' : List (Option (ℕ × Shared V))} {s t : SurjectState A B K V}
    (was : IsRead numbers old slots s) (is : IsRead numbers new slots' t) where
  -- a pointer finds the same key of the same set
  pub found_same : (q : Pointer) → value_at new q ≡ value_at old q → found_at t q ≡ found_at s q
  found_same q same = is.keys q ∙ read_same numbers (old q) (new q) same ∙ sym (was.keys q)

  pub named_same : (c : Pointer) → look_up slots' c ≡ look_up slots c → named t c ≡ named s c
  named_same c same = is.vals c ∙ ap (option_map value_of) same ∙ sym (was.vals c)

  -- a set that counts otherwise has its value
  pub named_counted : (c : Pointer) (k : ℕ) → look_up slots' c ≡ option_map (with_keys k) (look_up slots c) → named t c ≡ named s c
  named_counted c k told = is.vals c ∙ ap (option_map value_of) told ∙ value_kept k (look_up slots c) ∙ sym (was.vals c)

  -- and so has another, which stays
  named_but : (c : Pointer) (k : ℕ) → look_up slots' c ≡ option_map (with_keys k) (look_up slots c) → (d : Pointer) → (d ≢ c → look_up slots' d ≡ look_up slots d) → named t d ≡ named s d
  named_but c k told d same =
      elim (pointer_cases d c) [
        | inl e ↦ subst (λ x. named t x ≡ named s x) (sym e) (named_counted c k told)
        | inr other ↦ named_same d (same other)
      ]

  -- a pointer with the same key has the value that its set has
  val_stays : (q : Pointer) → value_at new q ≡ value_at old q → ((d : Pointer) → label numbers old q ≡ Some d → named t d ≡ named s d) → val_at t q ≡ val_at s q
  val_stays q same names = val_same s t q (ap (option_map (λ m. m.1)) (found_same q same)) (λ d of. names d (sym (set_is was q) ∙ of))

  pub new_set : IsSound numbers old (counts slots) → (q : Pointer) (member : Member P K) (value : V) → IsRingOfOne old q member new
      → look_up slots (numbers member.set) ≡ None → look_up slots' (numbers member.set) ≡ Some (record { value = value; keys = 1 })
      → ((d : Pointer) → d ≢ numbers member.set → look_up slots' d ≡ look_up slots d) → IsNewSet s q member.key value t
  new_set sound q member value done free one same =
      record {
        free = was.keys q ∙ ap (option_map (key_of numbers)) done.free;
        key = key_is is q ∙ ap (option_map (λ (m : Member P K). m.key)) done.found;
        value = val_is is q (numbers member.set) here ∙ ap (option_map value_of) one;
        alone = λ r with. elim (pointer_cases r q) [
          | inl e ↦ e
          | inr other ↦ absurd (uncounted r (sym (label_stays numbers old new r (done.values r other)) ∙ together_is is q r (numbers member.set) here with))
        ];
        others = λ r other. found_same r (done.values r other);
        vals = λ r other. val_stays r (done.values r other) (λ d of. named_same d (same d (λ e. uncounted r (of ∙ ap Some e))));
      }
    where
      here : label numbers new q ≡ Some (numbers member.set)
      here = ap (option_map (λ (m : Member P K). numbers m.set)) done.found

      uncounted : (r : Pointer) → label numbers old r ≡ Some (numbers member.set) → ⊥
      uncounted r of = no_share slots sound r (numbers member.set) of free

  pub added_key : (p q : Pointer) (member : Member P K) (k : ℕ) → IsInserted old (Some p) (after_at old p) q member new
      → label numbers old p ≡ Some (numbers member.set) → look_up slots' (numbers member.set) ≡ option_map (with_keys k) (look_up slots (numbers member.set))
      → ((d : Pointer) → d ≢ numbers member.set → look_up slots' d ≡ look_up slots d) → IsAdded s p q member.key t
  added_key p q member k done of more same =
      record {
        free = was.keys q ∙ ap (option_map (key_of numbers)) done.free;
        key = key_is is q ∙ ap (option_map (λ (m : Member P K). m.key)) here;
        set = set_is is q ∙ ap (option_map (λ (m : Member P K). numbers m.set)) here ∙ sym of ∙ sym (set_is was p);
        others = λ r other. found_same r (done.values r other);
        vals = λ d. named_but (numbers member.set) k more d (same d);
      }
    where
      here : value_at new q ≡ Some member
      here = ap (option_map (λ (node : Node (Member P K)). node.value)) done.found

  -- a key is gone, and its set counts one less, or is gone with it
  pub key_removed : IsLinked old → IsSound numbers old (counts slots) → (p c : Pointer) → label numbers old p ≡ Some c → IsRemoved old p new → (out : Option V) → CountsLess (look_up slots c) (look_up slots' c) out
      → ((d : Pointer) → d ≢ c → look_up slots' d ≡ look_up slots d) → IsKeyRemoved s p t
  key_removed linked sound p c of_p done out less same =
      record {
        gone = is.keys p ∙ ap (option_map (key_of numbers)) done.gone;
        others = λ r other. found_same r (done.values r other);
        vals = λ r other. val_stays r (done.values r other) (λ d of. elim (pointer_cases d c) [
          | inl e ↦ subst (λ x. named t x ≡ named s x) (sym e) (value out less r other (of ∙ ap Some e))
          | inr far ↦ named_same d (same d far)
        ]);
      }
    where
      value : (out : Option V) → CountsLess (look_up slots c) (look_up slots' c) out → (r : Pointer) → r ≢ p → label numbers old r ≡ Some c → named t c ≡ named s c
      value None less r other of = named_counted c (less.0 + 1) less.2
      value (Some w) less r other of = absurd (other (alone_of_set numbers old (counts slots) linked sound p c of_p (ap (option_map (λ (s : Shared V). s.keys)) less.0) r of))

  -- a set is gone
  pub set_removed : (p c : Pointer) → label numbers old p ≡ Some c
      → ((r : Pointer) → label numbers old r ≡ Some c → new r ≡ None) → ((r : Pointer) → label numbers old r ≢ Some c → new r ≡ old r)
      → ((d : Pointer) → d ≢ c → look_up slots' d ≡ look_up slots d) → IsSetRemoved s p t
  set_removed p c of_p gone others same =
      record {
        gone = λ r with. is.keys r ∙ ap (option_map (key_of numbers)) (gone r (together_is was p r c of_p with));
        others = λ r other. found_same r (kept r other);
        vals = λ r other. val_stays r (kept r other) (λ d of. named_same d (same d (λ e. other (together was p r c of_p (of ∙ ap Some e)))));
      }
    where
      kept : (r : Pointer) → ¬ AreTogether s p r → value_at new r ≡ value_at old r
      kept r other = ap (option_map (λ (node : Node (Member P K)). node.value)) (others r (λ of. other (together was p r c of_p of)))

  -- two sets are one, by their nodes
  pub sets_united : (p q : Pointer) (set : P) (d : Pointer) (k : ℕ) → IsMerged numbers old p q set d new → look_up slots' (numbers set) ≡ option_map (with_keys k) (look_up slots (numbers set))
      → ((e : Pointer) → e ≢ numbers set → e ≢ d → look_up slots' e ≡ look_up slots e) → IsUnited s p q t
  sets_united p q set d k done all same =
      united s t p q (numbers set) d (set_is was p ∙ done.of_kept) (set_is was q ∙ done.of_gone) done.apart
      (λ r of. set_is is r ∙ label_moved numbers old new p q set d done r (sym (set_is was r) ∙ of))
      (λ r other. set_is is r ∙ label_kept numbers old new p q set d done r (λ of. other (set_is was r ∙ of)) ∙ sym (set_is was r))
      (λ r. key_is is r ∙ key_kept numbers old new p q set d done r ∙ sym (key_is was r))
      (λ e far. named_but (numbers set) k all e (λ other. same e other far))

-- what comes out with a key
module _ {A B P K V : Type 0} {numbers : P → Pointer} {found : Pointer → Option (Node (Member P K))} {slots : List (Option (ℕ × Shared V))} {s : SurjectState A B K V} (is : IsRead numbers found slots s)
    (linked : IsLinked found) (sound : IsSound numbers found (counts slots)) (p c : Pointer) (of : label numbers found p ≡ Some c) (after : Option (Shared V)) where
  -- the value of its set, where it was the last
  pub value_out : (out : Option V) → CountsLess (look_up slots c) after out → IsSome out → (out ≡ val_at s p) × ((q : Pointer) → AreTogether s p q → q ≡ p)
  value_out None less some = absurd (cc)
  value_out (Some value) less some = (
    sym (val_is is p c of ∙ ap (option_map value_of) less.0),
    λ q with. alone_of_set numbers found (counts slots) linked sound p c of (ap (option_map (λ (s : Shared V). s.keys)) less.0) q (together_is is p q c of with),
  )

  -- else none, and another is left
  pub other_left : (out : Option V) → CountsLess (look_up slots c) after out → out ≡ None → (q : Pointer) × (q ≢ p) × AreTogether s p q
  other_left None less none =
      let other = another numbers found (counts slots) linked sound p c of less.0 less.1 in
      (other.0, other.1, together is p other.0 c of other.2)
  other_left (Some value) less none = absurd (cc)
