-- The wires of gates whose pointers were renamed.
use Rattle.std.proofs.Common.{◌≡◌, List, [], ◌∷◌, ◌++◌, map, Result, Ok, Err, refl, sym, ap, ◌∙◌}
use Rattle.std.specs.Prelude.{IfOk, OnOk}
use Rattle.std.proofs.lemmas.List.{map-append}
use Rattle.triple_arena_ptr.specs.Pointers.{Pointer}
use Rattle.triple_arena_direct.specs.Renaming.{AreRenamed}
use Rattle.triple_arena_direct_uses.specs.Netlist.{wires_of, rewired}

module _ {P T : Type 0} (numbers : P → Pointer) (rename : Pointer → Pointer) (held : T → List P) (refill : T → List P → T) where
  -- the wires of one gate
  ends_of : (k : Pointer) (ps qs : List P) → map numbers qs ≡ map rename (map numbers ps) → map (λ p. (rename k, numbers p)) qs ≡ map (rewired rename) (map (λ p. (k, numbers p)) ps)
  ends_of k [] [] same = refl
  ends_of k [] (q ∷ qs) same = absurd (cc)
  ends_of k (p ∷ ps) [] same = absurd (cc)
  ends_of k (p ∷ ps) (q ∷ qs) same =
      let here : numbers q ≡ rename (numbers p) = cc in
      let rest : map numbers qs ≡ map rename (map numbers ps) = cc in
      ap (λ (n : Pointer). (rename k, n) ∷ map (λ p. (rename k, numbers p)) qs) here ∙ ap (λ ws. (rename k, rename (numbers p)) ∷ ws) (ends_of k ps qs rest)

  -- the wires are those of the old gates, with both ends renamed
  pub wires_renamed : (ks : List Pointer) (olds news : List T) → AreRenamed numbers rename held refill olds news → wires_of numbers held (map rename ks) news ≡ map (rewired rename) (wires_of numbers held ks olds)
  wires_renamed [] olds news same = refl
  wires_renamed (k ∷ ks) [] [] same = refl
  wires_renamed (k ∷ ks) [] (w ∷ ws) same = absurd same
  wires_renamed (k ∷ ks) (v ∷ vs) [] same = absurd same
  wires_renamed (k ∷ ks) (v ∷ vs) (w ∷ ws) same =
      ap (λ ends. ends ++ wires_of numbers held (map rename ks) ws) (ends_of k (held v) (held w) same.0.holds)
      ∙ ap (λ rest. map (rewired rename) (map (λ p. (k, numbers p)) (held v)) ++ rest) (wires_renamed ks vs ws same.1)
      ∙ sym (map-append (rewired rename) (map (λ p. (k, numbers p)) (held v)) (wires_of numbers held ks vs))

-- what a compaction tells that was not refused: by which renaming its map goes, and the wires
pub told_if_ok : {A E K F : Type 0} (M : F → A → Type 0) (W : F → Type 0) (rename : F) (r : Result A E) → IfOk r (M rename) → OnOk r K → (K → W rename) → IfOk r (λ answer. (f : F) × M f answer × W f)
told_if_ok M W rename (Ok answer) maps is wires = (rename, maps, wires is)
told_if_ok M W rename (Err refusal) maps is wires = tt
