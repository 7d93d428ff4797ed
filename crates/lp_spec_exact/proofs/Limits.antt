-- How many instances, net bits and cell instances a netlist within its limits has.
use Rattle.std.proofs.Common.{◌≡◌, ◌≤◌, ℕ, suc, false, List, [], ◌∷◌, map, length, Option, Some, None, inl, inr, refl, sym, ap, ◌∙◌, arith}
use Rattle.std.specs.Prelude.{flat_map, nat_lt, slice_get}
use Rattle.std.specs.Option.{option_map_or}
use Rattle.std.proofs.lemmas.Bool.{ltb-false}
use Rattle.std.proofs.lemmas.List.{length-append, length-map}
use Rattle.std.proofs.lemmas.Option.{get_or_from_slice_get}
use Rattle.lp_model.specs.declared.fault.netlist.NetlistLimit.{NetlistLimit}
use Rattle.lp_model.specs.declared.fault.netlist.NetlistLimit.TheVariants as limits
use Rattle.lp_model.specs.NetlistView.{PortView, NetView, ModuleView}
use Rattle.lp_spec_design.specs.Keys.{Path, Inner, Outer}
use Rattle.lp_spec_design.specs.Netlists.{Structure, module_at, indices}
use Rattle.lp_spec_design.specs.Instances.{children, below, module_instances, cell_instances}
use Rattle.lp_spec_design.specs.Nodes.{nodes_in, inner_nodes, outer_in, nodes_of}
use Rattle.lp_spec_design.specs.Winners.{IsIn}
use Rattle.lp_spec_faults.specs.Modules.{bits_in, cells_in, together, in_all, is_over, netlist_limits}
use Rattle.lp_spec_layout.specs.Parts.{Template}
use Rattle.lp_spec_layout.specs.Parts as parts
use Rattle.lp_spec_layout.proofs.Lists.{get-map}
use Rattle.lp_spec_layout.proofs.Walked.{sizes_count}
use Rattle.lp_targets.specs.declared.target.Target.{Target}
use Rattle.lp_targets.specs.Sizes.{in_module, size_of, sizes_of}
use Rattle.lp_templates.specs.Sizes.{no_size}
use Rattle.lp_templates.specs.Views.{size_view}
use Rattle.lp_spec_numbered.proofs.Faults.{first-none, or-false}
use Rattle.lp_drivers.specs.Ready.{IsReady}

-- all parts of a design within the limits
pub record AreFew (s : Structure) : Type 0 where
  pub instances : length (module_instances s) ≤ 1000000
  pub bits : length (inner_nodes s) ≤ 4000000
  pub leaves : length (cell_instances s) ≤ 1000000

module _ (s : Structure) (rows : List (List Target)) (order : List ℕ) (top : ℕ) (templates : List Template) (d : IsReady s rows order top templates) (m : ModuleView) (is : module_at s [] ≡ Some m) (has : slice_get s.modules top ≡ Some m) where
  size-is : d.sized.size top ≡ size_view (size_of s m)
  size-is = d.told top ∙ ap size_view (get_or_from_slice_get (sizes_of s) top (size_of s m) no_size (get-map (size_of s) s.modules top m has))

  whole : (each : ModuleView → ℕ) → in_all s each ≡ in_module s each m
  whole each = ap (λ o. option_map_or (together s each (length s.modules)) o 0) (sym d.resolved.placed ∙ has)

  no-limit : (x : NetlistLimit) → IsIn x ((netlist_limits s).places) → is_over s x ≡ false
  no-limit x h = first-none (is_over s) ((netlist_limits s).places) x d.limits h

  few-of : (each : ModuleView → ℕ) (limit : ℕ) → nat_lt limit (in_all s each) ≡ false → in_module s each m ≤ limit
  few-of each limit e = omega (arith, ltb-false limit (in_all s each) e, whole each)

  pub few : AreFew s
  few =
      let both = or-false (nat_lt 1000000 (in_all s (cells_in s))) (nat_lt 1000000 (in_all s (λ k. 1))) (no-limit limits.Instances (inr (inl refl))) in
      let size = sizes_count s d.names templates d.are d.sized top m is has d.low in
      let nodes = few-of bits_in 4000000 (no-limit limits.Nodes (inl refl)) in
      let cells = few-of (cells_in s) 1000000 both.0 in
      let insts = few-of (λ k. 1) 1000000 both.1 in
      let instances : (d.sized.size top).instances ≡ in_module s (λ k. 1) m = ap (λ (z : parts.Size). z.instances) size-is in
      let bits : (d.sized.size top).bits ≡ in_module s bits_in m = ap (λ (z : parts.Size). z.bits) size-is in
      let leaves : (d.sized.size top).leaves ≡ in_module s (cells_in s) m = ap (λ (z : parts.Size). z.leaves) size-is in
      record {
        instances = omega (arith, size.instances, instances, insts);
        bits = omega (arith, size.bits, bits, nodes);
        leaves = omega (arith, size.leaves, leaves, cells);
      }

-- ---- the outer sides of the top's ports are no more than its bits

flat-same : {A B C D : Type 0} (f : A → B → C) (g : A → B → D) (bits : A → List B) (xs : List A) → length (flat_map (λ x. map (f x) (bits x)) xs) ≡ length (flat_map (λ x. map (g x) (bits x)) xs)
flat-same f g bits [] = refl
flat-same f g bits (x ∷ xs) =
    let a = length-append (map (f x) (bits x)) (flat_map (λ x. map (f x) (bits x)) xs) in
    let b = length-append (map (g x) (bits x)) (flat_map (λ x. map (g x) (bits x)) xs) in
    let c = length-map (bits x) (f x) in
    let d = length-map (bits x) (g x) in
    let e = flat-same f g bits xs in
    omega (arith, a, b, c, d, e)

outer-few : (p : Path) (o : Option ModuleView) → length (outer_in o) ≤ length (nodes_in p o)
outer-few p None = omega arith
outer-few p (Some m) =
    let inner = flat_map (λ (x : PortView). map (λ i. Inner x.name i p) (indices x.range)) m.ports in
    let nets = flat_map (λ (x : NetView). map (λ i. Inner x.name i p) (indices x.range)) m.nets in
    let same = flat-same (λ (x : PortView) i. Outer x.name i) (λ (x : PortView) i. Inner x.name i p) (λ (x : PortView). indices x.range) m.ports in
    let parts = length-append inner nets in
    omega (arith, same, parts)

first-few : (s : Structure) (depth : ℕ) (p : Path) → length (nodes_in p (module_at s p)) ≤ length (flat_map (λ q. nodes_in q (module_at s q)) (below s (suc depth) p))
first-few s depth p =
    let rest = flat_map (below s depth) (children s p) in
    let all = length-append (nodes_in p (module_at s p)) (flat_map (λ q. nodes_in q (module_at s q)) rest) in
    omega (arith, all)

pub top-few : (s : Structure) → length (outer_in (module_at s [])) ≤ length (inner_nodes s)
unfolding inner_nodes module_instances
top-few s =
    let one = first-few s 63 [] in
    let two = outer-few [] (module_at s []) in
    omega (arith, one, two)

pub nodes-few : (s : Structure) → AreFew s → length (nodes_of s) ≤ 8000000
nodes-few s few =
    let parts = length-append (inner_nodes s) (outer_in (module_at s [])) in
    let top = top-few s in
    let bits = few.bits in
    omega (arith, parts, top, bits)
