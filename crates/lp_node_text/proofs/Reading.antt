-- The text of a node by its number, where the calls before have answered; and a net bit with two drivers is one of an instance.
use Rattle.std.proofs.Common.{◌≡◌, ◌<◌, ◌+◌, ℕ, suc, true, false, not, List, [], ◌∷◌, length, get_or, Some, inl, inr, refl, sym, ap, ◌∙◌, arith}
use Rattle.std.specs.Prelude.{nat_lt, slice_get}
use Rattle.std.proofs.lemmas.Bool.{true≢false, cases_lt}
use Rattle.std.proofs.lemmas.List.{get_or_past}
use Rattle.std.proofs.lemmas.Option.{slice_get_within, get_or_from_slice_get}
use Rattle.lp_model.specs.declared.library.Library.{Library}
use Rattle.lp_model.specs.declared.netlist.Module.{Module}
use Rattle.lp_model.specs.declared.netlist.Netlist.{Netlist}
use Rattle.lp_model.specs.NetlistView.{ModuleView}
use Rattle.lp_spec_design.specs.Keys.{Fixed}
use Rattle.lp_spec_design.specs.Netlists.{Structure, module_at, is_instantiated}
use Rattle.lp_spec_design.specs.Instances.{module_instances}
use Rattle.lp_spec_design.specs.Graph.{sources_of}
use Rattle.lp_spec_design.specs.Nodes.{inner_nodes, outer_in, nodes_of}
use Rattle.lp_spec_design.specs.Winners.{IsIn}
use Rattle.lp_spec_design.proofs.Sources.{first_in}
use Rattle.lp_spec_bridge.specs.Keyed.{is_net_bit, keys_of, node_at}
use Rattle.lp_spec_bridge.specs.Names.{HasNamesApart}
use Rattle.lp_spec_bridge.specs.Templates.{start_of}
use Rattle.lp_spec_bridge.proofs.Apart.{apart-at, list-at}
use Rattle.lp_spec_bridge.proofs.Distinct.{nodes_apart, nodes_net_bits}
use Rattle.lp_spec_bridge.proofs.Templates.{starts-at}
use Rattle.lp_spec_layout.specs.Parts.{Template}
use Rattle.lp_spec_layout.specs.Sites.{port_bits}
use Rattle.lp_spec_layout.specs.Walked.{layout_of}
use Rattle.lp_spec_layout.proofs.Lists.{get-left}
use Rattle.lp_spec_layout.proofs.Fed.{first-instance}
use Rattle.lp_spec_layout.proofs.Walked.{walk_sites}
use Rattle.lp_spec_faults.specs.Lines.{first_of}
use Rattle.lp_spec_faults.specs.Wires.{two_drivers}
use Rattle.lp_targets.specs.declared.target.Target.{Target}
use Rattle.lp_targets.specs.Structures.{structure_of}
use Rattle.lp_drivers.specs.Ready.{IsReady}
use Rattle.lp_drivers.proofs.Orders.{one-first}
use Rattle.lp_node_text.specs.Numbered.{text_below, place_text}
use Rattle.lp_node_text.specs.Paths.{node_text}
use Rattle.lp_node_text.proofs.Standing.{texts-below}

-- ---- by number

place-is : (texts : List (List ℕ)) (ms : List Module) (xs : List Template) (top k : ℕ) → place_text texts ms xs top k ≡ text_below texts ms xs 64 top k
unfolding place_text
place-is texts ms xs top k = refl

start-first : (s : Structure) → start_of s 0 ≡ 0
start-first s =
    let within : 0 < length (module_instances s) = slice_get_within (module_instances s) 0 [] (first-instance s) in
    omega (arith, starts-at s 0 (module_instances s) 0 within)

module _ (texts : List (List ℕ)) (n : Netlist) (l : Library) (rows : List (List Target)) (order : List ℕ) (top : ℕ) (templates : List Template) (ready : IsReady (structure_of texts n l) rows order top templates) where
  abbrev s : Structure
  s = structure_of texts n l

  -- at any depth that is enough
  text-at : (depth k : ℕ) → ready.sized.height top < depth → k < length (inner_nodes s) → text_below texts n.modules templates depth top k ≡ node_text (node_at (keys_of s) k)
  text-at depth k high low =
      let the_top = one-first (λ (m : ModuleView). not (is_instantiated s m.name)) s.modules ready.resolved.one in
      let at : slice_get s.modules top ≡ Some the_top.0 = ready.resolved.placed ∙ the_top.1 in
      let sited = walk_sites s ready.names templates ready.are ready.sized top the_top.0 the_top.1 at ready.low in
      let size : (ready.sized.size top).bits ≡ length (inner_nodes s) = sited.inner in
      let start = start-first s in
      let place : start_of s 0 + k ≡ k = omega (arith, start) in
      texts-below texts n l ready.names ready.resolved.apart templates ready.are ready.sized (layout_of templates top (ready.sized.size top).bits (port_bits the_top.0)) refl sited depth 0 top k [] the_top.0 (first-instance s) the_top.1 at high (omega (arith, low, size))
      ∙ ap (λ j. node_text (node_at (keys_of s) j)) place

  pub text-is : (k : ℕ) → k < length (inner_nodes s) → place_text texts n.modules templates top k ≡ node_text (node_at (keys_of s) k)
  text-is k low = place-is texts n.modules templates top k ∙ text-at 64 k ready.low low

-- ---- two drivers

in-place : {A : Type 0} (x : A) (xs : List A) → IsIn x xs → (j : ℕ) × (slice_get xs j ≡ Some x)
in-place x [] h = absurd h
in-place {A = A} x (y ∷ xs) h = elim h [ inl is ↦ (0, ap (λ (z : A). Some z) (sym is)) | inr there ↦ let more = in-place x xs there in (suc more.0, more.1) ]

-- a number of a node of an instance is one of theirs
number-within : (s : Structure) → HasNamesApart s → (k : ℕ) → IsIn (node_at (keys_of s) k) (inner_nodes s) → k < length (inner_nodes s)
number-within s names k member =
    let nodes = nodes_of s in
    let place = in-place (node_at (keys_of s) k) (inner_nodes s) member in
    let at : slice_get (nodes_of s) place.0 ≡ Some (node_at (keys_of s) k) = get-left (inner_nodes s) (outer_in (module_at s [])) place.0 (node_at (keys_of s) k) place.1 in
    let inner : place.0 < length (inner_nodes s) = slice_get_within (inner_nodes s) place.0 (node_at (keys_of s) k) place.1 in
    let there : place.0 < length (nodes_of s) = slice_get_within (nodes_of s) place.0 (node_at (keys_of s) k) at in
    let is : get_or (nodes_of s) place.0 (Fixed false) ≡ node_at (keys_of s) k = get_or_from_slice_get (nodes_of s) place.0 (node_at (keys_of s) k) (Fixed false) at in
    let bit : is_net_bit (node_at (keys_of s) k) ≡ true = ap is_net_bit (sym is) ∙ list-at is_net_bit (nodes_of s) place.0 (Fixed false) (nodes_net_bits s) there in
    elim (cases_lt k (length (nodes_of s))) [
      | inl low ↦ let same : k ≡ place.0 = apart-at (nodes_of s) k place.0 (Fixed false) (Fixed false) (nodes_apart s names) low there (sym is) in omega (arith, same, inner)
      | inr high ↦ absurd (true≢false (sym bit ∙ ap is_net_bit (get_or_past (nodes_of s) k (Fixed false) high)))
    ]

pub driven-within : (s : Structure) → HasNamesApart s → (k : ℕ) → first_of (two_drivers s) ≡ Some (node_at (keys_of s) k) → k < length (inner_nodes s)
driven-within s names k is = number-within s names k (first_in (λ j. nat_lt 1 (length (sources_of s j))) (inner_nodes s) (node_at (keys_of s) k) is).0
