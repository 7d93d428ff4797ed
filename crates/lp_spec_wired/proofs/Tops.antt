-- Input ports of the top.
use Rattle.std.proofs.Common.{◌≡◌, ◌⊎◌, ℕ, true, false, List, [], ◌∷◌, length, Option, Some, None, inl, inr, sym, ◌∙◌, ap, subst}
use Rattle.std.specs.Prelude.{bytes_eq, slice_get, if◌then◌else◌, unwrap_or, option_and_then}
use Rattle.std.specs.List.{list_any}
use Rattle.lp_model.specs.NetlistView.{PortView, ModuleView}
use Rattle.lp_spec_design.specs.Keys.{Name, Path, same_path, same_index, same_bool, Node, Inner, Outer, Fixed, Way, PortBit, AssignBit, From}
use Rattle.lp_spec_design.specs.Netlists.{Structure, first, module_at, indices, is_input}
use Rattle.lp_spec_design.specs.Graph.{source_of}
use Rattle.lp_spec_design.specs.Domains.{BoundaryBit, way_of}
use Rattle.lp_spec_design.specs.Reads.{path-true, name-self}
use Rattle.lp_spec_design.specs.Winners.{IsIn}
use Rattle.lp_spec_realises.specs.Projects.{Project}
use Rattle.lp_spec_realises.specs.Operators.{Placement}
use Rattle.lp_spec_written.specs.Places.{instances, Standing}
use Rattle.lp_spec_written.specs.Nets.{is_inside, links}
use Rattle.lp_spec_written.specs.Written.{Additions, written_module}
use Rattle.lp_spec_hub.specs.Spots.{OfNode, Behind, Before, FromSpot, on_way, is_behind}
use Rattle.lp_spec_hub.specs.Drives.{drive_by, drive_before, passed}
use Rattle.lp_spec_hub.specs.Begins.{LeadsTo, IsWired}
use Rattle.lp_spec_wired.specs.Names.{node_at, name_by}
use Rattle.lp_spec_wired.specs.Contents.{IsWrittenAt, HasContent}
use Rattle.lp_spec_wired.specs.Laws.{StandsFor, HasChains, HasOneBit, IsOnlyInput, TopInputsComeIn, TopReadsComeIn}
use Rattle.lp_spec_wired.proofs.Lists.{first-left}
use Rattle.lp_spec_wired.proofs.Inputs.{is_input_named, port-first}
use Rattle.lp_spec_wired.proofs.Led.{first-alone}
use Rattle.lp_spec_wired.proofs.Down.{added_ports}
use Rattle.lp_spec_wired.proofs.Chains.{boundary-port, in-filter, has-operator, on-its-way, is-of}
use Rattle.lp_spec_wired.proofs.Kept.{inner-links, own-node}
use Rattle.lp_spec_wired.proofs.Bits.{Renamed, Unnamed, node-by}
use Rattle.lp_spec_wired.proofs.Wires.{Own, own, name-is}

abbrev way_path : Way → Path
way_path (PortBit x n i) = x
way_path (AssignBit x j k) = x

abbrev way_name : Way → Name
way_name (PortBit x n i) = n
way_name (AssignBit x j k) = []

-- the net bit of a port's way
abbrev way_bit : Way → Node
way_bit (PortBit x n i) = Inner n i x
way_bit (AssignBit x j k) = Fixed false

module _ (p : Project) (a : Additions) (w : Structure) (at : Placement) (from : Way → Node) (written : IsWrittenAt p a w) (has : HasChains p a)
    (m : ModuleView) (e : module_at p.structure [] ≡ Some m) (q : PortView) (b : Option ℕ) (only : IsOnlyInput m q) (ranged : list_any (same_index b) (indices q.range) ≡ true) where
  abbrev way : Way
  way = PortBit [] q.name b

  abbrev self : Node
  self = Inner q.name b []

  abbrev outer : Node
  outer = Outer q.name b

  abbrev here : List Standing
  here = on_way a.plan.operators way

  source-in : (s : Structure) (v : ModuleView) → module_at s [] ≡ Some v → first (is_input_named q.name) v.ports ≡ Some q → source_of s self ≡ Some (From way outer)
  source-in s v is found = port-first s [] q.name b v q (From way outer) [] is found (ap (λ t. if t then From way outer ∷ [] else []) ranged)

  found-port : first (is_input_named q.name) m.ports ≡ Some q
  found-port = first-alone q.name m.ports q only.alone only.input

  abbrev top : HasContent w [] (written_module p a [] m)
  top = written.modules [] m e

  written-source : source_of w self ≡ Some (From way outer)
  written-source = source-in w top.here top.is (ap (first (is_input_named q.name)) top.content.ports ∙ first-left (is_input_named q.name) m.ports (added_ports p a []) q found-port)

  leads : (k : Node) → k ≡ self → LeadsTo w outer k
  leads k is = record { way = way; source = ap (source_of w) is ∙ written-source }

  -- without operators
  kept-name : here ≡ [] → name_by p a (OfNode self) ≡ self
  kept-name none = by (node-by p a has q.name b [])
    where
      by : Renamed p a has q.name b [] (name_by p a (OfNode self)) ⊎ Unnamed p a has q.name b [] (name_by p a (OfNode self)) → name_by p a (OfNode self) ≡ self
      by (inr u) = u.is
      by (inl u) =
          let some = has-operator p a.plan u.s u.listed in
          let found = on-its-way p a.plan u.s u.listed some.0 some.1 in
          let ways : way_of u.s.bit ≡ way = ap (λ z. PortBit z u.s.bit.port.name u.s.bit.index) (sym (path-true u.s.path u.s.bit.path u.within) ∙ u.path)
          ∙ (ap (λ n. PortBit [] n u.s.bit.index) u.name ∙ ap (PortBit [] q.name) u.index) in
          absurd (subst (λ l. IsIn some.0 l) (ap (on_way a.plan.operators) ways ∙ none) found.0)

  pub bare : here ≡ [] → StandsFor p a w at from (OfNode self)
  bare none =
      subst (IsWired p w at (name_by p a) (OfNode self))
      (sym (ap (option_and_then (λ z. Some (drive_by a.plan.operators z))) (source-in p.structure m e found-port) ∙ ap (λ l. Some (passed l way outer (length l))) none))
      (leads (name_by p a (OfNode self)) (kept-name none))

  -- with operators
  module _ (stand : (o : Standing) → IsIn o a.plan.operators → IsIn o.path (instances p)) (one_bit : HasOneBit p) (o : Standing) (os : List Standing) (list : here ≡ o ∷ os) (top_path : o.path ≡ []) (comes : from way ≡ outer) where
    first_one : slice_get here 0 ≡ Some o
    first_one = ap (λ l. slice_get l 0) list

    its : Own p a has stand one_bit way 0 o
    its = own p a has stand one_bit way 0 o first_one

    port-is : is_input its.s.bit.port ≡ true
    port-is =
        let port = boundary-port p its.s.bit m (is-of p a.plan its.s its.listed).0.bit (ap (λ v. module_at p.structure (way_path v)) its.way_is ∙ e) in
        let there : IsIn its.s.bit.port (q ∷ []) = subst (λ l. IsIn its.s.bit.port l) only.alone (in-filter (λ (r : PortView). bytes_eq r.name q.name) m.ports its.s.bit.port port (ap (λ v. bytes_eq (way_name v) q.name) its.way_is ∙ name-self q.name)) in
        elim there [ inl same ↦ ap is_input same ∙ only.input | inr none ↦ absurd none ]

    within : is_inside its.s.path its.s.bit ≡ true
    within = ap (λ y. same_path y its.s.bit.path) (its.path_is ∙ top_path) ∙ ap (λ v. same_path [] (way_path v)) its.way_is

    behind-is : is_behind o ≡ true
    behind-is =
        ap (λ (c : BoundaryBit). same_bool (is_input c.port) (is_inside o.path c)) its.bit_is
        ∙ (ap (λ y. same_bool (is_input its.s.bit.port) (is_inside y its.s.bit)) (sym its.path_is)
        ∙ (ap (λ t. same_bool t (is_inside its.s.path its.s.bit)) port-is ∙ ap (same_bool true) within))

    before-name : name_by p a (Before way 0) ≡ self
    before-name =
        sym (ap (λ t. name_by p a (if t then Before way 0 else Behind way 0)) behind-is)
        ∙ (name-is p a has stand one_bit way 0 o first_one its
        ∙ (ap (λ t. node_at its.s.path (unwrap_or (slice_get (links p a.chains its.s) (if t then 0 else 1)) [])) (ap (λ t. same_bool t (is_inside its.s.path its.s.bit)) port-is ∙ ap (same_bool true) within)
        ∙ (ap (λ l. node_at its.s.path (unwrap_or (slice_get l 0) [])) (inner-links p a.chains its.s port-is within)
        ∙ (own-node its.s.bit.port.name its.s.bit.index its.s.path
        ∙ (ap (λ y. Inner its.s.bit.port.name its.s.bit.index y) (path-true its.s.path its.s.bit.path within)
        ∙ ap way_bit its.way_is)))))

    pub reads : StandsFor p a w at from (Before way 0)
    reads =
        subst (IsWired p w at (name_by p a) (Before way 0))
        (sym (ap (drive_before here way (from way) 0) first_one
        ∙ (ap (λ t. if t then Some (FromSpot (OfNode (from way))) else None) behind-is
        ∙ ap (λ k. Some (FromSpot (OfNode k))) comes)))
        (leads (name_by p a (Before way 0)) before-name)

pub top-inputs-come-in : TopInputsComeIn
top-inputs-come-in p a w at from written has m e q b only ranged none = bare p a w at from written has m e q b only ranged none

pub top-reads-come-in : TopReadsComeIn
top-reads-come-in p a w at from written has stand one_bit m e q b only ranged o os list top_path comes = reads p a w at from written has m e q b only ranged stand one_bit o os list top_path comes
