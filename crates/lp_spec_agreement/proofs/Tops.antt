-- A top input has in the netlist the value that it has in the source.
use Rattle.std.proofs.Common.{◌≡◌, ℕ, Bool, true, false, not, ◌&&◌, ◌==◌, List, [], length, Option, Some, None, refl, sym, ap, ◌∙◌, subst}
use Rattle.std.specs.Prelude.{bytes_eq, filter, is_some, if◌then◌else◌}
use Rattle.std.specs.List.{list_any}
use Rattle.std.specs.Option.{option_map_or}
use Rattle.std.proofs.lemmas.Bool.{and_parts, false≢true, not-true, eqb-true}
use Rattle.lp_tern.specs.declared.tern.Tern.TheVariants.{X}
use Rattle.lp_model.specs.NetlistView.{PortView, ModuleView}
use Rattle.lp_spec_design.specs.Keys.{Name, Inner, Outer, PortBit, Environment, From, same_index, same_bool}
use Rattle.lp_spec_design.specs.Netlists.{Structure, first, module_at, indices, is_input}
use Rattle.lp_spec_design.specs.Graph.{outside, source_of}
use Rattle.lp_spec_design.specs.Domains.{source_supply}
use Rattle.lp_spec_design.specs.Winners.{IsIn}
use Rattle.lp_spec_design.specs.Reads.{name-true, name-self}
use Rattle.lp_spec_design.specs.Settled.{Assignment, Event, Registers, state_of, set_on, kept}
use Rattle.lp_spec_design.proofs.Members.{of-map, of-filter, of-any, any-in}
use Rattle.lp_spec_design.proofs.Looped.{source_by, outer_sources, outer_by}
use Rattle.lp_spec_design.proofs.Sources.{first_in}
use Rattle.lp_spec_pins.specs.Pins.{Powered, PinAssignment, state_from, top_input}
use Rattle.lp_spec_realises.specs.Projects.{Project, network_of, port_of_origin}
use Rattle.lp_spec_realises.specs.Tops.{ports_of, top_ports, has_port_name, same_port, has_port, top_port, index_across}
use Rattle.lp_spec_realises.specs.ProjectNetlists.{netlist_of, has_names_apart, port_origins}
use Rattle.lp_spec_realises.specs.Ends.{AtTop}
use Rattle.lp_spec_realises.specs.Surroundings.{origin_of_port, set_of, powered_of, event_at_pins}
use Rattle.lp_spec_realises.specs.Realises.{origin_end, Realises}
use Rattle.lp_spec_realises.proofs.Places.{across-and-back}
use Rattle.lp_spec_agreement.specs.Alike.{supply_of_end}
use Rattle.lp_spec_agreement.specs.Cells.{value_there}
use Rattle.lp_spec_agreement.specs.Faultless.{IsFaultless}
use Rattle.lp_spec_agreement.proofs.Apart.{all_in, found_named, ports_apart}
use Rattle.lp_spec_agreement.proofs.Bits.{head_in}
use Rattle.lp_spec_agreement.proofs.Supplied.{nodes_on}

-- the port of a node on the environment's side that the environment drives
pub record IsTopInput (s : Structure) (n : Name) (j : Option ℕ) : Type 0 where
  pub port : PortView
  pub among : IsIn port (top_ports s)
  pub named : port.name ≡ n
  pub input : is_input port ≡ true
  pub bit : list_any (same_index j) (indices port.range) ≡ true

module _ (s : Structure) (n : Name) (j : Option ℕ) where
  by_module : source_of s (Outer n j) ≡ Some Environment → (o : Option ModuleView) → module_at s [] ≡ o → IsTopInput s n j
  by_module e None at = let none : None ≡ Some Environment = sym (source_by s (Outer n j) [] (outer_by s n j None at)) ∙ e in absurd cc
  by_module e (Some m) at =
      let test = λ (port : PortView). bytes_eq port.name n && list_any (same_index j) (indices port.range) in
      let there = head_in (outer_sources s n j (Some m)) Environment (sym (source_by s (Outer n j) (outer_sources s n j (Some m)) (outer_by s n j (Some m) at)) ∙ e) in
      let port = of-map (outside n j) Environment (filter test m.ports) there in
      let kept = of-filter test port.0 m.ports port.1 in
      by port.0 (is_input port.0) refl port.2 (subst (λ o. IsIn port.0 (ports_of o)) (sym at) kept.0) (name-true port.0.name n (and_parts _ _ kept.1).0) (and_parts _ _ kept.1).1
    where
      by : (k : PortView) (t : Bool) → is_input k ≡ t → Environment ≡ outside n j k → IsIn k (top_ports s) → k.name ≡ n → list_any (same_index j) (indices k.range) ≡ true → IsTopInput s n j
      by k true input is h name bit = record { port = k; among = h; named = name; input = input; bit = bit }
      by k false input is h name bit = let no_way : Environment ≡ From (PortBit [] n j) (Inner n j []) = rw input at is in absurd cc

  pub top_input_of : source_of s (Outer n j) ≡ Some Environment → IsTopInput s n j
  top_input_of e = by_module e (module_at s []) refl

-- a port of the top is found by its name
pub top_found : (s : Structure) → has_names_apart s.modules ≡ true → (q : PortView) → IsIn q (top_ports s) → top_port s q.name ≡ Some q
top_found s apart q h = by (module_at s []) refl h
  where
    by : (o : Option ModuleView) → module_at s [] ≡ o → IsIn q (ports_of o) → first (λ (r : PortView). bytes_eq r.name q.name) (top_ports s) ≡ Some q
    by None e g = absurd g
    by (Some m) e g = ap (λ o. first (λ (r : PortView). bytes_eq r.name q.name) (ports_of o)) e ∙ found_named (λ (r : PortView). r.name) m.ports (ports_apart s apart [] m e) q g

module _ (p : Project) (good : IsFaultless p) (modules : List ModuleView) (real : Realises p modules) where
  abbrev W : Structure
  W = netlist_of p modules

  abbrev w : Powered
  w = powered_of p modules real.placement

  -- a port of the source is no supply
  no_supply : (q : PortView) → IsIn q (top_ports p.structure) → origin_of_port p q.name ≡ None
  no_supply q h = by (origin_of_port p q.name) refl
    where
      by : (o : Option ℕ) → origin_of_port p q.name ≡ o → origin_of_port p q.name ≡ None
      by None e = e
      by (Some o) e =
          let found = first_in (λ k. bytes_eq (port_of_origin p k) q.name) (port_origins p) o e in
          let no_name : not (has_port_name p.structure (port_of_origin p o)) ≡ true = all_in (λ k. not (has_port_name p.structure (port_of_origin p k))) o (port_origins p) (and_parts _ _ real.netlist.origins_apart).1 found.0 in
          let same = name-true (port_of_origin p o) q.name found.1 in
          absurd (false≢true (sym (not-true _ no_name) ∙ any-in (λ (r : PortView). bytes_eq r.name (port_of_origin p o)) q (top_ports p.structure) h (ap (bytes_eq q.name) same ∙ name-self q.name)))

  -- the port of the netlist's top that it has there
  pub record Across (q : PortView) : Type 0 where
    pub other : PortView
    pub found : top_port (netlist_of p modules) q.name ≡ Some other
    pub width : length (indices q.range) ≡ length (indices other.range)

  pub across : (q : PortView) → IsIn q (top_ports p.structure) → Across q
  across q h =
      let there : has_port W q ≡ true = all_in (has_port W) q (top_ports p.structure) real.netlist.ports h in
      let found = of-any (same_port q) (top_ports W) there in
      let name = and_parts (bytes_eq q.name found.0.name) _ found.2 in
      let more = and_parts (same_bool (is_input q) (is_input found.0)) (length (indices q.range) == length (indices found.0.range)) name.1 in
      let same : q.name ≡ found.0.name = name-true q.name found.0.name name.0 in
      record { other = found.0; found = ap (top_port W) same ∙ top_found W real.netlist.names_apart found.0 found.1; width = eqb-true _ _ more.1 }

  module _ (n : Name) (j : Option ℕ) (of : IsTopInput p.structure n j) where
    source_port : top_port p.structure n ≡ Some of.port
    source_port = ap (top_port p.structure) (sym of.named) ∙ top_found p.structure good.names_apart of.port of.among

    pub back_again : index_across W p.structure n (index_across p.structure W n j) ≡ j
    back_again =
        let other = across of.port of.among in
        across-and-back p.structure W n of.port other.other source_port (ap (top_port W) (sym of.named) ∙ other.found) other.width j of.bit

    input_same : (ev : Event) → (event_at_pins p W ev).inputs n (index_across p.structure W n j) ≡ ev.inputs n j
    input_same ev =
        ap (λ z. option_map_or (λ (port : PortView). if is_input port then ev.inputs n (index_across W p.structure n (index_across p.structure W n j)) else X) z X) source_port
        ∙ (ap (λ t. if t then ev.inputs n (index_across W p.structure n (index_across p.structure W n j)) else X) of.input
        ∙ ap (ev.inputs n) back_again)

    pub is_no_supply : w.around.is_supply n ≡ false
    is_no_supply = ap (λ z. is_some (origin_of_port p z)) (sym of.named) ∙ ap is_some (no_supply of.port of.among)

  pub tops : (ev : Event) (regs : Registers) (A : Assignment) (B : PinAssignment)
      → ((o : ℕ) → state_from B (supply_of_end w (origin_end p W real.placement o)) ≡ state_of A o)
      → (n : Name) (j : Option ℕ) → source_of p.structure (Outer n j) ≡ Some Environment
      → value_there p modules real.placement ev regs B (AtTop n (index_across p.structure W n j)) ≡ kept (set_on (network_of p) A (source_supply p.intent (Outer n j) (Some Environment))) (ev.inputs n j)
  tops ev regs A B origins n j e =
      let of = top_input_of p.structure n j e in
      ap (top_input w (event_at_pins p W ev) B n (index_across p.structure W n j)) (is_no_supply n j of)
      ∙ (λ i. kept (nodes_on p good modules real A B origins (set_of p (source_supply p.intent (Outer n j) (Some Environment))) i) (input_same n j of ev i))
