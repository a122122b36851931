-- One step of a copying walk.
use Rattle.std.proofs.Common.{◌≡◌, ℕ, zero, suc, ◌+◌, ◌-◌, ◌<◌, ◌≤◌, false, List, [], ◌∷◌, ◌++◌, length, map, drop, get_or, replicate, Option, Some, None, is_some, IsSome, Contains, cond, slice_get, refl, sym, ap, subst, ◌∙◌, arith, append_assoc, drop-cons, Result, Ok, Err, ◌↔◌, true≢false}
use Rattle.std.specs.List.{FoldsTo}
use Rattle.std.specs.Borrow.{Bor}
use Rattle.std.specs.Option.{option_copied}
use Rattle.std.specs.Prelude.{MatchOption}
use Rattle.std.proofs.lemmas.Fn.{FoldsTo-push}
use Rattle.std.proofs.lemmas.List.{append-nil, map_push, map-append, length-map, length-append, length-replicate}
use Rattle.std.proofs.lemmas.List.Elements.{Contains-append_left}
use Rattle.std.proofs.lemmas.List.Sums.{sum_by-cons}
use Rattle.triple_arena_ptr.specs.Pointers.{Pointer}
use Rattle.triple_arena_traits.specs.Items.{item}
use Rattle.triple_arena_traits.specs.laws.ItemLaws.{joined, item-push_same, eq_true}
use Rattle.triple_arena_traits.specs.ArenaState.{is_free}
use Rattle.triple_arena_traits.specs.Entries.{entry_in, look_up, entry_count, KeepsEntries}
use Rattle.triple_arena_traits.specs.laws.EntryLaws.{entry-trimmed}
use Rattle.triple_arena_traits.specs.FreeList.{trimmed, last_index, IsRising}
use Rattle.triple_arena_traits.specs.Walks.{Stand, Steps, IsAtFirst, entries_from, entries, entries_ahead, keys, keys_ahead}
use Rattle.triple_arena_traits.specs.laws.WalkLaws.{taken, found, live_within, forward_stays, ahead_taken, ahead_first, ahead_none, keys_first, keys_taken, keys_rising, live_key, key_live, length-entries}
use Rattle.triple_arena_traits.specs.Copying.{Mapping, put_after, mapped_from, mapped_to, MapTurn, Copies}
use Rattle.triple_arena_traits.specs.Cloning.{IsCloneAnswer}
use Rattle.triple_arena_traits.specs.laws.FreeListLaws.{trimmed_last}
use Rattle.triple_arena_traits.specs.laws.LimitLaws.{ends_within}
use Rattle.triple_arena_base.specs.declared.errors.CloneFromError.{CloneFromError}
use Rattle.triple_arena_base.specs.declared.errors.CloneFromError.TheVariants.{Reallocation, Map}
use Rattle.triple_arena_base.specs.declared.errors.ReallocationError.{ReallocationError}
use Rattle.triple_arena_base.specs.declared.errors.ReallocationError.TheVariants.{BeyondMaxCapacity}

module _ {T : Type 0} where
  gap_entries : (at n : ℕ) → entries_from {T = T} at (replicate n None) ≡ []
  gap_entries at zero = refl
  gap_entries at (suc n) = gap_entries (at + 1) n

  pub entries_append : (at : ℕ) (xs ys : List (Option (ℕ × T))) → entries_from at (xs ++ ys) ≡ entries_from at xs ++ entries_from (at + length xs) ys
  entries_append at [] ys = let e : at + 0 ≡ at = omega arith in rw e refl
  entries_append at (None ∷ xs) ys = let e : at + 1 + length xs ≡ at + suc (length xs) = omega arith in rw (← e) (entries_append (at + 1) xs ys)
  entries_append at (Some x ∷ xs) ys = let e : at + 1 + length xs ≡ at + suc (length xs) = omega arith in rw (← e) (ap (λ l. ((at, x.0), x.1) ∷ l) (entries_append (at + 1) xs ys))

  -- an entry that is put past the last slot is the last
  pub length-put_after : (xs : List (Option (ℕ × T))) (p : Pointer) (t : T) → length xs < p.0 → length (put_after xs p t) ≡ p.0
  length-put_after xs p t past =
      length-append xs (replicate (p.0 - 1 - length xs) None ++ Some (p.1, t) ∷ [])
      ∙ ap (λ m. length xs + m) (length-append (replicate (p.0 - 1 - length xs) None) (Some (p.1, t) ∷ []) ∙ ap (λ m. m + 1) (length-replicate (p.0 - 1 - length xs) None))
      ∙ omega (arith, past)

  entries-put_after : (xs : List (Option (ℕ × T))) (p : Pointer) (t : T) → length xs < p.0 → entries (put_after xs p t) ≡ entries xs ++ (p, t) ∷ []
  entries-put_after xs p t past =
      let n : ℕ = p.0 - 1 - length xs in
      let at : 1 + length xs + length (replicate {A = Option (ℕ × T)} n None) ≡ p.0 = omega (arith, length-replicate {A = Option (ℕ × T)} n None, past) in
      entries_append 1 xs (replicate n None ++ Some (p.1, t) ∷ [])
      ∙ ap (λ l. entries xs ++ l) (
      entries_append (1 + length xs) (replicate n None) (Some (p.1, t) ∷ [])
      ∙ ap (λ l. l ++ ((1 + length xs + length (replicate {A = Option (ℕ × T)} n None), p.1), t) ∷ []) (gap_entries (1 + length xs) n)
      ∙ ap (λ m. ((m, p.1), t) ∷ []) at
      )

  -- and there is one entry more
  pub count-put_after : (xs : List (Option (ℕ × T))) (p : Pointer) (t : T) → length xs < p.0 → entry_count (put_after xs p t) ≡ entry_count xs + 1
  count-put_after xs p t past =
      omega (arith, length-entries (put_after xs p t), length-entries xs, ap length (entries-put_after xs p t past) ∙ length-append (entries xs) ((p, t) ∷ []))

  live-put_after : (xs : List (Option (ℕ × T))) (p : Pointer) (t : T) → is_free (item (put_after xs p t) (length (put_after xs p t))) ≡ false
  live-put_after xs p t =
      let gap : List (Option (ℕ × T)) = replicate (p.0 - 1 - length xs) None in
      let is : put_after xs p t ≡ (xs ++ gap) ++ Some (p.1, t) ∷ [] = sym (append_assoc xs gap (Some (p.1, t) ∷ [])) in
      ap (λ l. is_free (item l (length l))) is
      ∙ ap is_free (item-push_same (xs ++ gap) (length ((xs ++ gap) ++ Some (p.1, t) ∷ [])) (Some (p.1, t)) (length-append (xs ++ gap) (Some (p.1, t) ∷ [])))

  -- an entry is at most at the last index
  pub by_last : (xs : List (Option (ℕ × T))) (i : ℕ) → IsSome (entry_in xs i) → i ≤ last_index xs
  by_last xs i live = (live_within (trimmed xs) i (rw (entry-trimmed xs i) live)).1

  none_counted : (xs : List (Option (ℕ × T))) (k : ℕ) → entry_count xs ≡ 0 → joined (slice_get xs k) ≡ None
  none_counted [] k h = refl
  none_counted (None ∷ xs) zero h = refl
  none_counted (Some e ∷ xs) zero h = absurd (omega (arith, h, sum_by-cons (λ (o : Option (ℕ × T)). cond (is_some o) 1 0) (Some e) xs))
  none_counted (None ∷ xs) (suc k) h = none_counted xs k (omega (arith, h, sum_by-cons (λ (o : Option (ℕ × T)). cond (is_some o) 1 0) None xs))
  none_counted (Some e ∷ xs) (suc k) h = absurd (omega (arith, h, sum_by-cons (λ (o : Option (ℕ × T)). cond (is_some o) 1 0) (Some e) xs))

  pub none_of_none : (xs : List (Option (ℕ × T))) (i : ℕ) → entry_count xs ≡ 0 → entry_in xs i ≡ None
  none_of_none xs zero h = refl
  none_of_none xs (suc k) h = none_counted xs k h

module _ {P U T E M : Type 0} (numbers : P → Pointer) (step : M → P → Bor U → Result T E → M → Type 0) where
  -- the walk so far: the calls that gave values, and the entries that are left
  pub record Copied (f : M) (source : List (Option (ℕ × U))) (s : Stand) (g : M) (now : List (Option (ℕ × T))) : Type 0 where
    pub forward : s.reverse ≡ false
    pub mapped : List (Mapping P U T)
    pub ran : FoldsTo (MapTurn numbers step) f mapped g
    pub split : entries source ≡ mapped_from numbers mapped ++ entries_ahead s source
    pub stands : entries now ≡ mapped_to numbers mapped
    pub ends_live : is_free (item now (length now)) ≡ false
    pub ends : length now ≤ last_index source
    pub rising : IsRising (length now + 1) (map (λ p. p.0) (keys_ahead s source))

  pub copy_start : (f : M) (source : List (Option (ℕ × U))) (s : Stand) (now : List (Option (ℕ × T))) → now ≡ [] → IsAtFirst source s → Copied f source s f now
  copy_start f source s now empty first =
      subst (Copied f source s f) (sym empty) (record {
        forward = first.forward;
        mapped = [];
        ran = refl;
        split = sym (ahead_first source s first);
        stands = refl;
        ends_live = refl;
        ends = omega arith;
        rising = rw (keys_first source s first) (keys_rising source);
      })

  -- the next entry: it comes after the slots so far, and not after the source's last
  pub record Next (source : List (Option (ℕ × U))) (p : Pointer) (b a : Stand) (size : ℕ) : Type 0 where
    pub value : U
    pub first : entries_ahead b source ≡ (p, value) ∷ entries_ahead a source
    pub found : look_up source p ≡ Some value
    pub past : size < p.0
    pub within : p.0 ≤ last_index source
    pub inside : p.0 ≤ length source
    pub rising : IsRising (p.0 + 1) (map (λ q. q.0) (keys_ahead a source))

  pub next_of : (greatest : ℕ) (f : M) (source : List (Option (ℕ × U))) (p : Pointer) (b a : Stand) (g : M) (now : List (Option (ℕ × T))) → Copied f source b g now → Steps greatest source b (Some p) a → Next source p b a (length now)
  next_of greatest f source p b a g now w steps =
      let e = found source p (taken greatest source b p a steps).live in
      let live : IsSome (entry_in source p.0) = rw e.entry refl in
      let rises : IsRising (length now + 1) (map (λ q. q.0) (p ∷ keys_ahead a source)) = subst (λ ks. IsRising (length now + 1) (map (λ (q : Pointer). q.0) ks)) (keys_taken greatest source b p a w.forward steps) w.rising in
      record {
        value = e.value;
        first = ahead_taken greatest source b p a w.forward steps e.value e.looked_up;
        found = e.looked_up;
        past = omega (arith, rises.0);
        within = by_last source p.0 live;
        inside = (live_within source p.0 live).1;
        rising = rises.1;
      }

  some_same : (a b : U) → Some a ≡ Some b → a ≡ b
  some_same a b e = cc

  pub copy_on : (greatest : ℕ) (f : M) (source : List (Option (ℕ × U))) (p : P) (b a : Stand) (g h : M) (now new : List (Option (ℕ × T))) (x : Bor U) (t : T) → Copied f source b g now → Steps greatest source b (Some (numbers p)) a
      → look_up source (numbers p) ≡ Some (x.now) → step g p x (Ok t) h → new ≡ put_after now (numbers p) t → Copied f source a h new
  copy_on greatest f source p b a g h now new x t w steps got called is =
      let n = next_of greatest f source (numbers p) b a g now w steps in
      let same : x.now ≡ n.value = some_same (x.now) n.value (sym got ∙ n.found) in
      let m : Mapping P U T = record { pointer = p; from = n.value; to = t } in
      let size : length (put_after now (numbers p) t) ≡ (numbers p).0 = length-put_after now (numbers p) t n.past in
      subst (Copied f source a h) (sym is) (record {
        forward = forward_stays greatest source b (Some (numbers p)) a steps ∙ w.forward;
        mapped = w.mapped ++ m ∷ [];
        ran = FoldsTo-push (MapTurn numbers step) f w.mapped g m h w.ran (x, same, called);
        split = w.split ∙ ap (λ r. mapped_from numbers w.mapped ++ r) n.first ∙ sym (ap (λ l. l ++ entries_ahead a source) (map_push (λ (k : Mapping P U T). (numbers k.pointer, k.from)) w.mapped m) ∙ append_assoc (mapped_from numbers w.mapped) ((numbers p, n.value) ∷ []) (entries_ahead a source));
        stands = entries-put_after now (numbers p) t n.past ∙ ap (λ l. l ++ (numbers p, t) ∷ []) w.stands ∙ sym (map_push (λ (k : Mapping P U T). (numbers k.pointer, k.to)) w.mapped m);
        ends_live = live-put_after now (numbers p) t;
        ends = omega (arith, size, n.within);
        rising = rw size n.rising;
      })

  pub copy_refused : (greatest : ℕ) (f : M) (source : List (Option (ℕ × U))) (p : P) (b a : Stand) (g h : M) (now : List (Option (ℕ × T))) (x : Bor U) (e : E) → Copied f source b g now → Steps greatest source b (Some (numbers p)) a
      → look_up source (numbers p) ≡ Some (x.now) → step g p x (Err e) h → Copies numbers step f (entries source) (Err e) now
  copy_refused greatest f source p b a g h now x e w steps got called =
      let n = next_of greatest f source (numbers p) b a g now w steps in
      let same : x.now ≡ n.value = some_same (x.now) n.value (sym got ∙ n.found) in
      record {
        mapped = w.mapped;
        rest = entries_ahead b source;
        last = g;
        ran = w.ran;
        split = w.split;
        stands = w.stands;
        ends_live = w.ends_live;
        ends = record { pointer = p; value = n.value; others = entries_ahead a source; after = h; first = n.first; refused = (x, same, called) };
      }

  pub copy_end : (greatest : ℕ) (f : M) (source : List (Option (ℕ × U))) (b a : Stand) (g : M) (now : List (Option (ℕ × T))) → Copied f source b g now → Steps greatest source b None a → Copies numbers step f (entries source) (Ok tt) now
  copy_end greatest f source b a g now w steps =
      record { mapped = w.mapped; rest = entries_ahead b source; last = g; ran = w.ran; split = w.split; stands = w.stands; ends_live = w.ends_live; ends = ahead_none greatest source b a steps }

module _ {T U : Type 0} where
  -- slots with an entry only where others have one end no later
  last_within : (xs : List (Option (ℕ × U))) (ys : List (Option (ℕ × T))) → ((i : ℕ) → IsSome (entry_in ys i) → IsSome (entry_in xs i)) → last_index ys ≤ last_index xs
  last_within xs ys live = ends_within (trimmed ys) (last_index xs) (trimmed_last ys) (λ i above. entry-trimmed ys i ∙ none i above (entry_in ys i) refl)
    where
      none : (i : ℕ) → last_index xs < i → (o : Option (ℕ × T)) → entry_in ys i ≡ o → entry_in ys i ≡ None
      none i above None is = is
      none i above (Some e) is =
          let here : IsSome (entry_in ys i) = ap is_some is in
          absurd (omega (arith, above, by_last xs i (live i here)))

  -- and so do slots whose pointers others have
  pub keys_within : (xs : List (Option (ℕ × U))) (ys : List (Option (ℕ × T))) → ((p : Pointer) → Contains (keys ys) p → Contains (keys xs) p) → last_index ys ≤ last_index xs
  keys_within xs ys among = last_within xs ys (λ i live. by_entry i (entry_in ys i) refl live)
    where
      by_entry : (i : ℕ) (o : Option (ℕ × T)) → entry_in ys i ≡ o → IsSome (entry_in ys i) → IsSome (entry_in xs i)
      by_entry i None is live = absurd (true≢false (sym live ∙ ap is_some is))
      by_entry i (Some e) is live =
          let there : IsSome (look_up ys (i, e.0)) = rw (is, eq_true e.0 e.0 refl) refl in
          let f = found xs (i, e.0) (key_live xs (i, e.0) (among (i, e.0) (live_key ys (i, e.0) there))) in
          ap is_some f.entry

-- slots that keep the entries of others end no later
pub kept_end : {T : Type 0} (xs ys : List (Option (ℕ × T))) → KeepsEntries xs ys → last_index ys ≤ last_index xs
kept_end xs ys keeps = last_within xs ys (λ i live. sym (ap is_some (keeps i)) ∙ live)

module _ {P U T E M : Type 0} (numbers : P → Pointer) (step : M → P → Bor U → Result T E → M → Type 0) (f : M) (source : List (Option (ℕ × U))) where
  same_pointers : (ms : List (Mapping P U T)) → map (λ e. e.0) (mapped_to numbers ms) ≡ map (λ e. e.0) (mapped_from numbers ms)
  same_pointers [] = refl
  same_pointers (m ∷ ms) = ap (λ ps. numbers m.pointer ∷ ps) (same_pointers ms)

  -- the pointers of a copy are the first ones of its source
  copied_first : (answer : Result (Unit {0}) E) (copy : List (Option (ℕ × T))) → (c : Copies numbers step f (entries source) answer copy) → keys source ≡ keys copy ++ map (λ e. e.0) c.rest
  copied_first answer copy c =
      ap (map (λ e. e.0)) c.split
      ∙ map-append (λ e. e.0) (mapped_from numbers c.mapped) c.rest
      ∙ ap (λ ps. ps ++ map (λ e. e.0) c.rest) (sym (ap (map (λ e. e.0)) c.stands ∙ same_pointers c.mapped))

  -- a copy that was not refused has all of them
  pub copied_keys : (copy : List (Option (ℕ × T))) → Copies numbers step f (entries source) (Ok tt) copy → keys copy ≡ keys source
  copied_keys copy c =
      sym (copied_first (Ok tt) copy c ∙ ap (λ rest. keys copy ++ map (λ e. e.0) rest) c.ends ∙ append-nil (keys copy))

  -- slots that keep a copy end no later than the source, and with it where no entry was refused
  pub copy_ends : (answer : Result (Unit {0}) E) (copy new : List (Option (ℕ × T))) → Copies numbers step f (entries source) answer copy → KeepsEntries copy new → last_index new ≤ last_index source
  copy_ends answer copy new c keeps =
      let first = copied_first answer copy c in
      let kept : last_index new ≤ last_index copy = kept_end copy new keeps in
      let among : last_index copy ≤ last_index source = keys_within source copy (λ p has. subst (λ ps. Contains ps p) (sym first) (Contains-append_left (keys copy) (map (λ e. e.0) c.rest) p has)) in
      omega (arith, kept, among)

  pub copy_same_end : (copy new : List (Option (ℕ × T))) → Copies numbers step f (entries source) (Ok tt) copy → KeepsEntries copy new → last_index new ≡ last_index source
  copy_same_end copy new c keeps =
      let kept : last_index copy ≤ last_index new = last_within new copy (λ i live. ap is_some (keeps i) ∙ live) in
      let all : last_index source ≤ last_index copy = keys_within copy source (λ p has. subst (λ ps. Contains ps p) (sym (copied_keys copy c)) has) in
      omega (arith, kept, all, copy_ends (Ok tt) copy new c keeps)

refused_map : {E : Type 0} (answer : Result (Unit {0}) E) (refusal : E) → IsCloneAnswer answer (Err (Map refusal)) → ◌≡◌ {A = Result (Unit {0}) E} (Err refusal) answer
refused_map (Ok x) refusal is = absurd (cc)
refused_map (Err e) refusal is = cc

-- the answer of a copy that was refused is the one that cloning gives
pub on_copies : {P U T E M : Type 0} (numbers : P → Pointer) (step : M → P → Bor U → Result T E → M → Type 0) (f : M) (source : List (Pointer × U)) (new : List (Option (ℕ × T))) (answer : Result (Unit {0}) E) (refusal : E) → IsCloneAnswer answer (Err (Map refusal)) → Copies numbers step f source (Err refusal) new → Copies numbers step f source answer new
on_copies numbers step f source new answer refusal is copies =
    subst (λ r. Copies numbers step f source r new) (refused_map answer refusal is) copies

-- a refusal of room is not the answer of a copy
pub no_answer : {E : Type 0} (answer : Result (Unit {0}) E) (refusal : ReallocationError) → IsCloneAnswer answer (Err (Reallocation refusal)) → ⊥
no_answer (Ok x) refusal is = cc
no_answer (Err e) refusal is = cc

-- what a refusal of room says of the limit, as cloning tells it
pub beyond_told : {E X Y Z : Type 0} (r : Result (Unit {0}) ReallocationError) (s : Result (Unit {0}) (CloneFromError E)) (refusal : ReallocationError) → r ≡ Err refusal → s ≡ Err (Reallocation refusal) → (r ≡ Err BeyondMaxCapacity) ↔ (X × Y × Z) → Y → (s ≡ Err (Reallocation BeyondMaxCapacity)) ↔ (X × Z)
beyond_told r s refusal room told beyond y = (
  λ e.
      let same : refusal ≡ BeyondMaxCapacity = cc (sym told ∙ e) in
      let h = beyond.0 (room ∙ ap Err same) in
      (h.0, h.2),
  λ h.
      let same : refusal ≡ BeyondMaxCapacity = cc (sym room ∙ beyond.1 (h.0, y, h.1)) in
      told ∙ ap (λ x. Err (Reallocation x)) same,
)

pub lent_found : {U : Type 0} (o : Option (Bor U)) → IsSome (option_copied o) → IsSome o
lent_found None found = found
lent_found (Some x) found = refl

pub shared_some : {U : Type 0} (o : Option (Bor U)) (v : U) → option_copied o ≡ Some v → IsSome o
shared_some None v e = absurd (cc)
shared_some (Some x) v e = refl

-- a number that is converted where it is not past the end
pub some_within : {A : Type 0} (Q : A → Type 0) (o : Option A) (n end : ℕ) → MatchOption o (end < n) Q → n ≤ end → IsSome o
some_within Q None n end m h = absurd (omega (arith, m, h))
some_within Q (Some x) n end m h = refl

get_or_map : {A B : Type 0} (f : A → B) (xs : List A) (i : ℕ) (d : A) → get_or (map f xs) i (f d) ≡ f (get_or xs i d)
get_or_map f [] zero d = refl
get_or_map f [] (suc i) d = refl
get_or_map f (x ∷ xs) zero d = refl
get_or_map f (x ∷ xs) (suc i) d = get_or_map f xs i d

-- one step of a count of the entries
pub count_step : {A T : Type 0} (f : A → Option (ℕ × T)) (es xs : List A) (at count n : ℕ) (e : A) → xs ≡ es → at < length xs → e ≡ get_or xs at e
    → count + entry_count (drop at (map f es)) ≡ n → count + cond (is_some (f e)) 1 0 + entry_count (drop (at + 1) (map f es)) ≡ n
count_step {T = T} f es xs at count n e same inside read so_far =
    let one : Option (ℕ × T) → ℕ = λ o. cond (is_some o) 1 0 in
    let is : f e ≡ get_or (map f es) at (f e) = ap f read ∙ ap (λ ys. f (get_or ys at e)) same ∙ sym (get_or_map f es at e) in
    let split : drop at (map f es) ≡ f e ∷ drop (suc at) (map f es) = drop-cons (map f es) at (f e) (omega (arith, inside, ap length same, length-map es f)) ∙ ap (λ z. z ∷ drop (suc at) (map f es)) (sym is) in
    let next : at + 1 ≡ suc at = omega arith in
    rw next (omega (arith, so_far, ap entry_count split, sum_by-cons one (f e) (drop (suc at) (map f es))))
