-- The first node with two drivers is the one that is found from what is seen of the modules.
use Rattle.std.proofs.Common.{◌≡◌, ◌<◌, ◌≤◌, ◌+◌, ℕ, suc, min, Bool, true, false, not, List, [], ◌∷◌, length, Option, Some, None, refl, sym, ap, ◌∙◌, arith}
use Rattle.std.specs.Prelude.{nat_lt, if◌then◌else◌, option_map, slice_get, slice_index_or}
use Rattle.std.specs.List.{All}
use Rattle.std.specs.Option.{option_map_or}
use Rattle.std.proofs.lemmas.Bool.{ltb-false}
use Rattle.lp_model.specs.declared.fault.netlist.NetlistLimit.{NetlistLimit}
use Rattle.lp_model.specs.declared.fault.netlist.NetlistLimit.TheVariants as limits
use Rattle.lp_model.specs.declared.library.Library.{Library}
use Rattle.lp_model.specs.declared.netlist.Netlist.{Netlist}
use Rattle.lp_model.specs.NetlistView.{ModuleView}
use Rattle.lp_spec_design.specs.Netlists.{Structure, first, is_instantiated, top_of}
use Rattle.lp_spec_bridge.specs.Keyed.{keys_of, node_at}
use Rattle.lp_spec_layout.specs.Parts.{Size as PartSize, Template}
use Rattle.lp_spec_layout.specs.Sites.{port_bits}
use Rattle.lp_spec_layout.proofs.Lists.{get-map}
use Rattle.lp_spec_layout.proofs.Measured.{template-at}
use Rattle.lp_spec_faults.specs.Lines.{first_of}
use Rattle.lp_spec_faults.specs.Modules.{bits_in, together, in_all, is_over, netlist_limits}
use Rattle.lp_spec_faults.specs.Wires.{two_drivers}
use Rattle.lp_spec_drivers.specs.Counts.{or_else}
use Rattle.lp_spec_drivers.specs.Drivers.{input_places, own_twice, twice_below}
use Rattle.lp_spec_drivers.proofs.Below.{below_there}
use Rattle.lp_spec_drivers.proofs.ByModule.{two_by_module, twice_within}
use Rattle.lp_targets.specs.declared.target.Target.{Target}
use Rattle.lp_targets.specs.declared.size.Size.{Size}
use Rattle.lp_targets.specs.Sizes.{in_module, size_of, sizes_of}
use Rattle.lp_targets.specs.Structures.{structure_of}
use Rattle.lp_templates.specs.Modules.{HasFewBits}
use Rattle.lp_templates.specs.Sizes.{no_size}
use Rattle.lp_drivers.specs.Table.{largest, capped, moved_by, table_of, first_by}
use Rattle.lp_drivers.specs.Ready.{IsReady}
use Rattle.lp_drivers.proofs.Joined.{get-some}
use Rattle.lp_drivers.proofs.Orders.{one-first}
use Rattle.lp_drivers.proofs.Single.{single-bits}
use Rattle.lp_drivers.proofs.Owned.{seen_of, top-is}
use Rattle.lp_drivers.proofs.Noted.{bits-few, table-is}

-- up to the largest number, of the top's own places and of what is below it
moved-first : (o p : Option ℕ) → or_else (moved_by 0 o) (option_map capped p) ≡ option_map capped (or_else o p)
moved-first None p = refl
moved-first (Some k) p = let same : min largest (0 + k) ≡ min largest k = omega arith in ap (λ n. Some n) same

-- a node that is low is what it is
capped-low : (o : Option ℕ) → ((k : ℕ) → o ≡ Some k → k < largest) → option_map capped o ≡ o
capped-low None low = refl
capped-low (Some k) low = let under = low k refl in let same : min largest k ≡ k = omega (arith, under) in ap (λ n. Some n) same

-- a test that the first of some fails
under : (a : ℕ) → (later : Option NetlistLimit) → (if nat_lt 4000000 a then Some limits.Nodes else later) ≡ None → a ≤ 4000000
under a later e = by (nat_lt 4000000 a) refl e
  where
    by : (b : Bool) → nat_lt 4000000 a ≡ b → (if b then Some limits.Nodes else later) ≡ None → a ≤ 4000000
    by true f e = absurd cc
    by false f e = ltb-false 4000000 a f

-- the top has no more net bits than the limit
top-small : (s : Structure) (top : ℕ) (m : ModuleView) → top_of s ≡ Some m → slice_get s.modules top ≡ Some m → first_of (netlist_limits s) ≡ None → (slice_index_or (sizes_of s) top no_size).nodes ≤ 4000000
top-small s top m is at none =
    let all : in_all s bits_in ≤ 4000000 = under (in_all s bits_in) (first (is_over s) (limits.Instances ∷ limits.Depth ∷ [])) none in
    let same : in_all s bits_in ≡ in_module s bits_in m = ap (λ o. option_map_or (together s bits_in (length s.modules)) o 0) is in
    let told : slice_index_or (sizes_of s) top no_size ≡ size_of s m = get-some (sizes_of s) top no_size (size_of s m) (get-map (size_of s) s.modules top m at) in
    let nodes : (slice_index_or (sizes_of s) top no_size).nodes ≡ in_module s bits_in m = ap (λ (a : Size). a.nodes) told in
    omega (arith, all, same, nodes)

module _ (texts : List (List ℕ)) (n : Netlist) (l : Library) (rows : List (List Target)) (order : List ℕ) (top : ℕ) (templates : List Template) (few : All HasFewBits n.modules) (ready : IsReady (structure_of texts n l) rows order top templates) where
  pub first-is : first_of (two_drivers (structure_of texts n l)) ≡ option_map (node_at (keys_of (structure_of texts n l))) (first_by (seen_of texts n l templates) n.modules templates order top)
  first-is =
      let s = structure_of texts n l in
      let z = ready.sized in
      let below : ℕ → Option ℕ = λ k. twice_below (structure_of texts n l) templates (suc (ready.sized.height k)) k in
      let known = below_there (structure_of texts n l) templates ready.are ready.sized in
      let the_top = one-first (λ (m : ModuleView). not (is_instantiated (structure_of texts n l) m.name)) (structure_of texts n l).modules ready.resolved.one in
      let m : ModuleView = the_top.0 in
      let at : slice_get (structure_of texts n l).modules top ≡ Some the_top.0 = ready.resolved.placed ∙ the_top.1 in
      let tp = template-at (structure_of texts n l) (structure_of texts n l).modules templates top the_top.0 ready.are at in
      let bits = bits-few texts n l rows order top templates ready.resolved ready.names ready.are few top the_top.0 at in
      let whole : Option ℕ = or_else (own_twice (structure_of texts n l) templates top (input_places (port_bits the_top.0))) (below top) in
      let within = twice_within (structure_of texts n l) ready.names templates ready.are ready.sized below known top the_top.0 at the_top.1 ready.low in
      let small = top-small (structure_of texts n l) top the_top.0 the_top.1 at ready.limits in
      let told : (ready.sized.size top).bits ≡ (slice_index_or (sizes_of (structure_of texts n l)) top no_size).nodes = ap (λ (a : PartSize). a.bits) (ready.told top) in
      let is : first_by (seen_of texts n l templates) n.modules templates order top ≡ whole =
      ap (λ o. or_else (moved_by 0 o) (slice_index_or (table_of (seen_of texts n l templates) templates order) top None)) (top-is texts n l templates top the_top.0 tp.template at tp.at bits)
      ∙ ap (or_else (moved_by 0 (own_twice (structure_of texts n l) templates top (input_places (port_bits the_top.0))))) (table-is texts n l rows order top templates ready.resolved ready.names ready.are few below known top the_top.0 at)
      ∙ moved-first (own_twice (structure_of texts n l) templates top (input_places (port_bits the_top.0))) (below top)
      ∙ capped-low whole (λ k e. (let low = within k e in omega (arith, low, small, told))) in
      two_by_module (structure_of texts n l) ready.names templates ready.are ready.sized below known top the_top.0 at (single-bits (structure_of texts n l) ready.widths) the_top.1 ready.low
      ∙ ap (option_map (node_at (keys_of (structure_of texts n l)))) (sym is)
