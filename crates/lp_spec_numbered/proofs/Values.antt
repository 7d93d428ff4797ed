-- The places of values by numbers are the places of their bits, and runs of places are those of the bits that stand there.
use Rattle.std.proofs.Common.{◌≡◌, ℕ, zero, suc, ◌+◌, true, false, List, [], ◌∷◌, map, length, inl, inr, refl, sym, ap, subst, arith}
use Rattle.std.proofs.lemmas.Bool.{true≢false}
use Rattle.lp_text.specs.Texts.{distinct}
use Rattle.lp_model.specs.Agreement.{numbers_below}
use Rattle.lp_model.specs.declared.bits.Bit.{Bit}
use Rattle.lp_model.specs.declared.graph.EdgeFrom.TheVariants.{Node as FromNode}
use Rattle.lp_model.specs.declared.netlist.Module.{Module}
use Rattle.lp_model.specs.NetlistView.{BitView, NetBit, SelectBit, ConstBit, ModuleView, bit_view, bits_view, module_view, bit_numbers}
use Rattle.lp_spec_design.specs.Netlists.{upward}
use Rattle.lp_spec_design.specs.Graph.{pairs}
use Rattle.lp_spec_design.specs.Winners.{IsIn}
use Rattle.lp_spec_faults.specs.Wires.{has_constant}
use Rattle.lp_spec_bridge.specs.Keyed.{IsApart}
use Rattle.lp_spec_bridge.specs.Names.{net_names}
use Rattle.lp_spec_bridge.specs.Templates.{bits_in, at_start}
use Rattle.lp_spec_layout.proofs.Lists.{Has, has-head, has-tail}
use Rattle.lp_templates.specs.Numbered.{declared_in}
use Rattle.lp_templates.specs.Values.{places_of}
use Rattle.lp_spec_numbered.specs.Read.{IsBitOf}
use Rattle.lp_spec_numbered.proofs.Places.{nets_of, numbers, bit-driven, bit-placed}
use Rattle.lp_spec_numbered.proofs.Joined.{ArePlaced, AreDriven}

-- ---- lists

pub pairs-left : {A B C : Type 0} (f : A → C) (xs : List A) (ys : List B) → map (λ (z : A × B). (f z.0, z.1)) (pairs xs ys) ≡ pairs (map f xs) ys
pairs-left f [] ys = refl
pairs-left f (x ∷ xs) [] = refl
pairs-left f (x ∷ xs) (y ∷ ys) = ap (λ r. (f x, y) ∷ r) (pairs-left f xs ys)

pub pairs-turned : {A B : Type 0} (xs : List A) (ys : List B) → map (λ (z : A × B). (z.1, z.0)) (pairs xs ys) ≡ pairs ys xs
pairs-turned [] [] = refl
pairs-turned [] (y ∷ ys) = refl
pairs-turned (x ∷ xs) [] = refl
pairs-turned (x ∷ xs) (y ∷ ys) = ap (λ r. (y, x) ∷ r) (pairs-turned xs ys)

-- a run of places means the bits that stand there
pub run-driven : (v : ModuleView) (bs : List BitView) (k t n : ℕ) → length bs ≡ n → Has (bits_in v) (t + k) bs → AreDriven v bs (map (λ i. at_start i (FromNode (record { 0 = k }))) (upward n t))
run-driven v [] k t zero e h = tt
run-driven v [] k t (suc n) e h = absurd (omega (arith, e))
run-driven v (b ∷ bs) k t zero e h = absurd (omega (arith, e))
run-driven v (b ∷ bs) k t (suc n) e h =
    let next : (t + k) + 1 ≡ (t + 1) + k = omega arith in (
      record { place = t + k; is = refl; at = has-head (bits_in v) (t + k) b bs h },
      run-driven v bs k (t + 1) n (omega (arith, e)) (subst (λ z. Has (bits_in v) z bs) next (has-tail (bits_in v) (t + k) b bs h)),
    )

pub no-constants : (v : ModuleView) (bs : List BitView) → has_constant bs ≡ false → (b : BitView) → IsIn b bs → IsBitOf v b → IsIn b (bits_in v)
no-constants v [] clean b h of = absurd h
no-constants v (NetBit n ∷ bs) clean b (inl is) of = subst (λ z. IsIn z (bits_in v)) (sym is) (subst (IsBitOf v) is of)
no-constants v (SelectBit n i ∷ bs) clean b (inl is) of = subst (λ z. IsIn z (bits_in v)) (sym is) (subst (IsBitOf v) is of)
no-constants v (ConstBit c ∷ bs) clean b h of = absurd (true≢false clean)
no-constants v (NetBit n ∷ bs) clean b (inr h) of = no-constants v bs clean b h of
no-constants v (SelectBit n i ∷ bs) clean b (inr h) of = no-constants v bs clean b h of

-- ---- values

-- a bit of the module's, by a number of the table
abbrev pub IsKnown : List (List ℕ) → Module → Bit → Type 0
IsKnown texts m b = (numbers_below (length texts) (bit_numbers b) ≡ true) × IsBitOf (module_view texts m) (bit_view texts b)

abbrev pub IsNet : List (List ℕ) → Module → Bit → Type 0
IsNet texts m b = (numbers_below (length texts) (bit_numbers b) ≡ true) × IsIn (bit_view texts b) (bits_in (module_view texts m))

module _ (texts : List (List ℕ)) (apart : distinct texts ≡ true) (m : Module) (below : numbers_below (length texts) (numbers (nets_of m)) ≡ true) (names : IsApart (net_names (module_view texts m))) where
  abbrev v : ModuleView
  v = module_view texts m

  pub all-placed : (bits : List Bit) → ((b : Bit) → IsIn b bits → IsKnown texts m b) → ArePlaced v (bits_view texts bits) (places_of (declared_in m) bits)
  all-placed [] each = tt
  all-placed (b ∷ bits) each = let here = each b (inl refl) in (bit-placed texts m apart below names b here.0 here.1, all-placed bits (λ c h. each c (inr h)))

  pub all-driven : (bits : List Bit) → ((b : Bit) → IsIn b bits → IsNet texts m b) → AreDriven v (bits_view texts bits) (places_of (declared_in m) bits)
  all-driven [] each = tt
  all-driven (b ∷ bits) each = let here = each b (inl refl) in (bit-driven texts m apart below names b here.0 here.1, all-driven bits (λ c h. each c (inr h)))
