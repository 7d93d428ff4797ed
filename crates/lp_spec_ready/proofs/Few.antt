-- Each module has fewer bits than 32 bits count, where the top with all below it is within the limit.
use Rattle.std.specs.Prelude.{map, slice_get, slice_index_or, sum_by}
use Rattle.std.specs.Option.{option_map_or}
use Rattle.std.specs.List.{All}
use Rattle.std.proofs.Common.{◌≡◌, ℕ, zero, suc, ◌+◌, ◌<◌, ◌≤◌, Bool, true, false, not, List, [], ◌∷◌, length, Some, None, refl, sym, ap, ◌∙◌, arith}
use Rattle.std.proofs.lemmas.Bool.{ltb-false}
use Rattle.std.proofs.lemmas.List.Sums.{sum_by-cons}
use Rattle.lp_model.specs.declared.fault.netlist.NetlistLimit.TheVariants as limits
use Rattle.lp_model.specs.declared.library.Library.{Library}
use Rattle.lp_model.specs.declared.netlist.Module.{Module}
use Rattle.lp_model.specs.declared.netlist.Netlist.{Netlist}
use Rattle.lp_model.specs.NetlistView.{PortView, NetView, ModuleView, module_view, port_view, net_view}
use Rattle.lp_spec_design.specs.Netlists.{Structure, top_of, is_instantiated}
use Rattle.lp_spec_faults.specs.Lines.{first_of}
use Rattle.lp_spec_faults.specs.Modules.{bit_count, bits_in, is_over, in_all, together, netlist_limits}
use Rattle.lp_targets.specs.declared.target.Target.{Target}
use Rattle.lp_targets.specs.Sizes.{in_module, IsResolved}
use Rattle.lp_targets.specs.Structures.{structure_of}
use Rattle.lp_targets.proofs.BelowTop.{below_top, kept_one}
use Rattle.lp_targets.proofs.Summed.{never}
use Rattle.lp_targets.proofs.Together.{by_module}
use Rattle.lp_templates.specs.Modules.{own_bits, HasFewBits}
use Rattle.lp_spec_ready.specs.Laws.{ModulesHaveFewBits}

sum_map : {A B : Type 0} (f : B → ℕ) (g : A → B) (xs : List A) → sum_by f (map g xs) ≡ sum_by (λ x. f (g x)) xs
sum_map f g [] = refl
sum_map f g (x ∷ xs) = sum_by-cons f (g x) (map g xs) ∙ ap (λ n. f (g x) + n) (sum_map f g xs) ∙ sym (sum_by-cons (λ y. f (g y)) x xs)

bits_same : (texts : List (List ℕ)) (m : Module) → bits_in (module_view texts m) ≡ own_bits m
bits_same texts m =
    λ i. sum_map (λ (p : PortView). bit_count p.range) (port_view texts) m.ports i + sum_map (λ (n : NetView). bit_count n.range) (net_view texts) m.nets i

-- the first limit is not passed
not_over : (s : Structure) → first_of (netlist_limits s) ≡ None → is_over s limits.Nodes ≡ false
not_over s e = by (is_over s limits.Nodes) refl e
  where
    by : (b : Bool) → is_over s limits.Nodes ≡ b → first_of (netlist_limits s) ≡ None → is_over s limits.Nodes ≡ false
    by false is h = is
    by true is h = cc

viewed : (texts : List (List ℕ)) (ms : List Module) (k : ℕ) (m : Module) → slice_get ms k ≡ Some m → slice_get (map (module_view texts) ms) k ≡ Some (module_view texts m)
viewed texts [] k m e = cc
viewed texts (x ∷ ms) zero m e = ap (λ o. Some (module_view texts o)) (is e)
  where
    is : Some x ≡ Some m → x ≡ m
    is h = cc
viewed texts (x ∷ ms) (suc k) m e = viewed texts ms k m e

there : {A : Type 0} (xs : List A) (k : ℕ) (d : A) → k < length xs → slice_get xs k ≡ Some (slice_index_or xs k d)
there [] k d h = absurd (omega (arith, h))
there (x ∷ xs) zero d h = refl
there (x ∷ xs) (suc k) d h = there xs k d (omega (arith, h))

at-all : {A : Type 0} (P : A → Type 0) (xs : List A) → ((k : ℕ) (x : A) → slice_get xs k ≡ Some x → P x) → All P xs
at-all P xs holds k d h = holds k (slice_index_or xs k d) (there xs k d h)

module _ (texts : List (List ℕ)) (n : Netlist) (l : Library) (rows : List (List Target)) (order : List ℕ) (top : ℕ) (resolved : IsResolved (structure_of texts n l) rows order top) (within : first_of (netlist_limits (structure_of texts n l)) ≡ None) where
  abbrev s : Structure
  s = structure_of texts n l

  the-top : (t : ModuleView) × (top_of s ≡ Some t)
  the-top = kept_one (λ (m : ModuleView). not (is_instantiated s m.name)) s.modules resolved.one

  total : in_all s bits_in ≤ 4000000
  total = ltb-false 4000000 (in_all s bits_in) (not_over s within)

  few : (k : ℕ) (m : Module) → slice_get n.modules k ≡ Some m → HasFewBits m
  few k m at =
      let view = viewed texts n.modules k m at in
      let most = below_top s rows order top resolved bits_in the-top.0 the-top.1 k (module_view texts m) view in
      let all : in_all s bits_in ≡ in_module s bits_in the-top.0 = ap (λ o. option_map_or (together s bits_in (length s.modules)) o 0) the-top.1 in
      let own = by_module s rows bits_in k (module_view texts m) resolved.known.targets (never s rows order top resolved) view in
      omega (arith, most, total, all, own, bits_same texts m)

pub few_bits : ModulesHaveFewBits
few_bits texts n l rows order top resolved within = at-all HasFewBits n.modules (few texts n l rows order top resolved within)
