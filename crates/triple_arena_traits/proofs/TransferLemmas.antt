-- One step of a transfer.
use Rattle.std.proofs.Common.{◌≡◌, ℕ, ◌+◌, ◌≤◌, Bool, List, [], ◌∷◌, ◌++◌, length, map, cond, is_some, Option, Some, None, refl, sym, ap, subst, ◌∙◌, arith, append_assoc}
use Rattle.std.specs.List.{FoldsTo}
use Rattle.std.proofs.lemmas.Fn.{FoldsTo-push}
use Rattle.std.proofs.lemmas.List.Sums.{sum_by-cons}
use Rattle.std.proofs.lemmas.List.{map_push, append-nil, length-append, length-map}
use Rattle.triple_arena_base.specs.declared.invalidation.InvalidationOption.{InvalidationOption}
use Rattle.triple_arena_ptr.specs.Numbers.{Generations}
use Rattle.triple_arena_ptr.specs.Pointers.{Pointer}
use Rattle.triple_arena_traits.specs.Entries.{look_up, entry_count, ChangesAt}
use Rattle.triple_arena_traits.specs.Ending.{told}
use Rattle.triple_arena_traits.specs.FreeList.{gaps}
use Rattle.triple_arena_traits.specs.Walks.{Stand, IsAtFirst, IsBeforeAll, Steps, entries, entries_ahead, keys_of, keys}
use Rattle.triple_arena_traits.specs.laws.WalkLaws.{ahead_first, ahead_none, ahead_taken_out, length-entries, none_left, others_ahead}
use Rattle.triple_arena_traits.specs.Compression.{closed_up}
use Rattle.triple_arena_traits.specs.Histories.{History, removal, and_then, Continues}
use Rattle.triple_arena_traits.specs.Drains.{TakesOut, removals, NoneWraps}
use Rattle.triple_arena_traits.specs.Transfers.{Transfer, TransferTurn, Transfers, taken_out, put_down}
use Rattle.triple_arena_traits.proofs.CopyLemmas.{entries_append}

no_gaps : {T : Type 0} (at generation : ℕ) (values : List T) → gaps at (closed_up generation values) ≡ []
no_gaps at generation [] = refl
no_gaps at generation (v ∷ values) = no_gaps (at + 1) generation values

closed_up_count : {T : Type 0} (generation : ℕ) (values : List T) → entry_count (closed_up generation values) ≡ length values
closed_up_count generation [] = refl
closed_up_count generation (v ∷ values) =
    omega (arith, closed_up_count generation values, sum_by-cons (λ o. cond (is_some o) 1 0) (Some (generation, v)) (closed_up generation values))

-- slots that hold values from index 1 on have no free one, and each has an entry
pub closed_up_slots : {T : Type 0} (generation : ℕ) (values : List T) (put : List (Option (ℕ × T))) → put ≡ closed_up generation values → (gaps 1 put ≡ []) × (entry_count put ≡ length put)
closed_up_slots {T = T} generation values put is =
    rw is (
      no_gaps 1 generation values,
      closed_up_count generation values ∙ sym (length-map {B = Option (ℕ × T)} values (λ v. Some (generation, v))),
    )

module _ {Q U P T A M : Type 0} (source : Q → Pointer) (target : P → Pointer) (step : M → Q → InvalidationOption U → P → T → M → Type 0)
    (slots : A → List (Option (ℕ × U))) (fits : History → A → Type 0) (removes : A → ℕ → A → Type 0) (wraps : A → Bool) (generations : Generations) (changes : (old : A) (i : ℕ) (new : A) → removes old i new → ChangesAt (slots old) i None (slots new))
    (greatest generation : ℕ) where
  abbrev pub Turn : M × A → Transfer Q U P T → M × A → Type 0
  Turn = TransferTurn source target step slots fits removes wraps generations

  -- one removal is made, and each history that fits goes on with it
  abbrev Taken : A → Q → A → Type 0
  Taken now q new = TakesOut fits removes wraps generations now (source q) new

  -- the transfer so far: the calls that were made, and the entries that are left
  pub record Transferred (f : M) (start : A) (g : M) (now : A) (s : Stand) (put : List (Option (ℕ × T))) : Type 0 where
    pub left : IsBeforeAll (slots now) s
    pub moved : List (Transfer Q U P T)
    pub ran : FoldsTo Turn (f, start) moved (g, now)
    pub came : taken_out source moved ++ entries_ahead s (slots now) ≡ entries (slots start)
    pub went : put_down target moved ≡ entries put
    pub stands : put ≡ closed_up generation (map (λ t. t.new) moved)

  pub transfer_start : (f : M) (start : A) (s : Stand) (put : List (Option (ℕ × T))) → IsAtFirst (slots start) s → put ≡ [] → Transferred f start f start s put
  transfer_start f start s put first empty =
      rw empty (record {
        left = record { forward = first.forward; all = first.all };
        moved = [];
        ran = refl;
        came = ahead_first (slots start) s first;
        went = refl;
        stands = refl;
      })

  -- as many were put down as were taken out
  put_count : (f : M) (start : A) (g : M) (now : A) (s : Stand) (put : List (Option (ℕ × T))) → (w : Transferred f start g now s put) → length put + length (entries_ahead s (slots now)) ≡ entry_count (slots start)
  put_count f start g now s put w =
      let values : List T = map (λ t. t.new) w.moved in
      omega (
        arith,
        ap length w.came,
        length-append (taken_out source w.moved) (entries_ahead s (slots now)),
        length-map {B = Pointer × U} w.moved (λ t. (source t.from, t.old)),
        ap length w.stands,
        length-map {B = Option (ℕ × T)} values (λ v. Some (generation, v)),
        length-map {B = T} w.moved (λ t. t.new),
        length-entries (slots start),
      )

  -- there is a place for one more
  pub transfer_room : (f : M) (start : A) (g : M) (now new : A) (b a : Stand) (put : List (Option (ℕ × T))) (q : Q) (v : U) → Transferred f start g now b put → Steps greatest (slots now) b (Some (source q)) a → look_up (slots now) (source q) ≡ Some v → Taken now q new → length put + 1 ≤ entry_count (slots start)
  transfer_room f start g now new b a put q v w steps found gone =
      let first = ahead_taken_out greatest (slots now) (slots new) b (source q) a v w.left.forward steps found (changes now (source q).0 new gone.0) in
      omega (arith, put_count f start g now b put w, ap length first)

  pub transfer_on : (f : M) (start : A) (g h : M) (now new : A) (b a : Stand) (put put2 : List (Option (ℕ × T))) (q : Q) (v : U) (p : P) (t : T) → Transferred f start g now b put → Steps greatest (slots now) b (Some (source q)) a → look_up (slots now) (source q) ≡ Some v → Taken now q new
      → step g q (told (wraps now) v) p t h → target p ≡ (length put + 1, generation) → put2 ≡ put ++ Some (generation, t) ∷ [] → Transferred f start h new a put2
  transfer_on f start g h now new b a put put2 q v p t w steps found gone called onto is =
      let m : Transfer Q U P T = record { from = q; old = v; to = p; new = t } in
      let change = changes now (source q).0 new gone.0 in
      let first = ahead_taken_out greatest (slots now) (slots new) b (source q) a v w.left.forward steps found change in
      let one : 1 + length put ≡ length put + 1 = omega arith in
      rw is (record {
        left = others_ahead greatest (slots now) b (source q) a (slots new) w.left steps change;
        moved = w.moved ++ m ∷ [];
        ran = FoldsTo-push Turn (f, start) w.moved (g, now) m (h, new) w.ran (gone, called);
        came =
            ap (λ l. l ++ entries_ahead a (slots new)) (map_push (λ (t : Transfer Q U P T). (source t.from, t.old)) w.moved m)
            ∙ append_assoc (taken_out source w.moved) ((source q, v) ∷ []) (entries_ahead a (slots new))
            ∙ ap (λ l. taken_out source w.moved ++ l) (sym first)
            ∙ w.came;
        went =
            map_push (λ (t : Transfer Q U P T). (target t.to, t.new)) w.moved m
            ∙ ap (λ l. l ++ (target p, t) ∷ []) w.went
            ∙ ap (λ k. entries put ++ (k, t) ∷ []) (onto ∙ ap (λ k. (k, generation)) (sym one))
            ∙ sym (entries_append 1 put (Some (generation, t) ∷ []));
        stands =
            ap (λ l. l ++ Some (generation, t) ∷ []) w.stands
            ∙ sym (ap (closed_up generation) (map_push (λ (t : Transfer Q U P T). t.new) w.moved m) ∙ map_push (λ v. Some (generation, v)) (map (λ (t : Transfer Q U P T). t.new) w.moved) t);
      })

  -- at the end every entry was taken, and none is left
  pub transfer_end : (f : M) (start : A) (g : M) (now : A) (b a : Stand) (put : List (Option (ℕ × T))) → Transferred f start g now b put → Steps greatest (slots now) b None a → Transfers source target step slots fits removes wraps generations generation f start now put × (entry_count (slots now) ≡ 0) × (length put ≡ entry_count (slots start))
  transfer_end f start g now b a put w steps =
      let none = ahead_none greatest (slots now) b a steps in (
        record {
          moved = w.moved;
          last = g;
          ran = w.ran;
          came = sym (append-nil (taken_out source w.moved)) ∙ ap (λ l. taken_out source w.moved ++ l) (sym none) ∙ w.came;
          went = w.went;
          stands = w.stands;
        },
        (none_left greatest (slots now) b a w.left steps).0,
        omega (arith, put_count f start g now b put w, ap length none),
      )

module _ {Q U P T A M : Type 0} (source : Q → Pointer) (target : P → Pointer) (step : M → Q → InvalidationOption U → P → T → M → Type 0)
    (slots : A → List (Option (ℕ × U))) (fits : History → A → Type 0) (removes : A → ℕ → A → Type 0) (wraps : A → Bool) (generations : Generations) where
  run_goes_on : (ts : List (Transfer Q U P T)) (f g : M) (old new : A) → FoldsTo (TransferTurn source target step slots fits removes wraps generations) (f, old) ts (g, new) → NoneWraps removes wraps generations old (keys_of (taken_out source ts)) → Continues fits old (removals (keys_of (taken_out source ts))) new
  run_goes_on [] f g old new same none h fit = subst (fits h) (ap (λ (x : M × A). x.1) same) fit
  run_goes_on (t ∷ ts) f g old new (next, here, there) none h fit =
      run_goes_on ts next.0 g next.1 new there (none.1 next.1 here.0.0) (and_then h (removal (source t.from))) (here.0.1 none.0 h fit)

  -- where no removal wraps the counter, a source goes on by the removals of its entries
  pub source_goes_on : (generation : ℕ) (f : M) (old new : A) (put : List (Option (ℕ × T))) → Transfers source target step slots fits removes wraps generations generation f old new put → NoneWraps removes wraps generations old (keys (slots old)) → Continues fits old (removals (keys (slots old))) new
  source_goes_on generation f old new put t none =
      subst (λ es. Continues fits old (removals (keys_of es)) new) t.came
      (run_goes_on t.moved f t.last old new t.ran (subst (λ es. NoneWraps removes wraps generations old (keys_of es)) (sym t.came) none))
