-- The names of bits and instances are those of their modules.
use Rattle.std.proofs.Common.{◌≡◌, ℕ, zero, suc, List, [], ◌∷◌, ◌++◌, refl, ap, ◌∙◌}
use Rattle.std.specs.Prelude.{map, flat_map, Option, Some, None, option_map, slice_get, slice_index_or, is_some}
use Rattle.std.proofs.lemmas.List.{map-append}
use Rattle.lp_text.specs.declared.names.NameId.{NameId}
use Rattle.lp_text.specs.Texts.{text_at}
use Rattle.lp_model.specs.declared.library.Cell.{Cell}
use Rattle.lp_model.specs.declared.library.Pin.{Pin}
use Rattle.lp_model.specs.declared.library.PgPin.{PgPin}
use Rattle.lp_model.specs.declared.library.Switched.{Switched}
use Rattle.lp_model.specs.declared.netlist.Direction.{Direction}
use Rattle.lp_model.specs.declared.netlist.Direction.TheVariants.{Input, Output}
use Rattle.lp_model.specs.declared.netlist.Instance.{Instance}
use Rattle.lp_model.specs.declared.netlist.Module.{Module}
use Rattle.lp_model.specs.declared.netlist.NetDecl.{NetDecl}
use Rattle.lp_model.specs.declared.netlist.Port.{Port}
use Rattle.lp_model.specs.NetlistView.{InstanceView, PortView, NetView, port_view, net_view, instance_view, module_view}
use Rattle.lp_model.specs.LibraryView.{PgPinView, cell_view, pin_view, pg_pin_view, switched_view}
use Rattle.lp_spec_design.specs.Netlists.{indices, is_input}
use Rattle.lp_spec_design.specs.Graph.{is_output_pin}
use Rattle.lp_spec_bridge.specs.Named.{name_bit}
use Rattle.lp_spec_bridge.specs.Templates.{bit_named}
use Rattle.lp_spec_layout.specs.Parts.{driving_pins}
use Rattle.lp_spec_layout.specs.Laid.{IsLabel, AreLabels, name_of}
use Rattle.lp_layout.specs.Fed.{drives_out, drives_of}
use Rattle.lp_layout.specs.Inputs as inputs
use Rattle.lp_layout.specs.Labels.{name_at, names_in, port_names, net_names, label_of, labels_of, placed_name}
use Rattle.lp_layout.specs.Rows.{leaf_name}

-- ---- bits

module _ (texts : List (List ℕ)) where
  names-are : (n : NameId) (is : List (Option ℕ)) → map (name_bit texts) (map (name_at n) is) ≡ map (bit_named (text_at texts n.0)) is
  names-are n [] = refl
  names-are n (None ∷ is) = ap (λ z. name_bit texts (name_at n None) ∷ z) (names-are n is)
  names-are n (Some i ∷ is) = ap (λ z. name_bit texts (name_at n (Some i)) ∷ z) (names-are n is)

  ports-are : (ps : List Port) → map (name_bit texts) (port_names ps) ≡ flat_map (λ (x : PortView). map (bit_named x.name) (indices x.range)) (map (port_view texts) ps)
  ports-are [] = refl
  ports-are (p ∷ ps) = map-append (name_bit texts) (names_in p.name p.range) (port_names ps) ∙ (λ i. names-are p.name (indices p.range) i ++ ports-are ps i)

  nets-are : (ns : List NetDecl) → map (name_bit texts) (net_names ns) ≡ flat_map (λ (x : NetView). map (bit_named x.name) (indices x.range)) (map (net_view texts) ns)
  nets-are [] = refl
  nets-are (n ∷ ns) = map-append (name_bit texts) (names_in n.name n.range) (net_names ns) ∙ (λ i. names-are n.name (indices n.range) i ++ nets-are ns i)

  statements-are : (ys : List Instance) → map (text_at texts) (map (λ (y : Instance). y.name.0) ys) ≡ map (λ (y : InstanceView). y.name) (map (instance_view texts) ys)
  statements-are [] = refl
  statements-are (y ∷ ys) = ap (λ z. text_at texts y.name.0 ∷ z) (statements-are ys)

  label : (m : Module) → IsLabel texts (module_view texts m) (label_of m)
  label m = record {
    bits = map-append (name_bit texts) (port_names m.ports) (net_names m.nets) ∙ (λ i. ports-are m.ports i ++ nets-are m.nets i);
    statements = statements-are m.instances;
  }

  pub labels : (ms : List Module) → AreLabels texts (map (module_view texts) ms) (labels_of ms)
  labels [] = tt
  labels (m ∷ ms) = (label m, labels ms)

-- ---- names of statements

placed-is : (ys : List Instance) (place : ℕ) → placed_name (slice_get ys place) ≡ slice_index_or (map (λ (y : Instance). y.name.0) ys) place 0
placed-is [] place = refl
placed-is (y ∷ ys) zero = refl
placed-is (y ∷ ys) (suc place) = placed-is ys place

pub leaf_names : (ms : List Module) (n place : ℕ) → leaf_name ms n place ≡ name_of (labels_of ms) n place
leaf_names [] n place = refl
leaf_names (m ∷ ms) zero place = placed-is m.instances place
leaf_names (m ∷ ms) (suc n) place = leaf_names ms n place

-- ---- ports of the top

module _ (texts : List (List ℕ)) where
  inputs-are : (p : Port) (is : List (Option ℕ)) → map (λ i. inputs.is_input p.direction) is ≡ map (λ i. is_input (port_view texts p)) is
  inputs-are p is = by p.direction refl
    where
      by : (d : Direction) → p.direction ≡ d → map (λ i. inputs.is_input p.direction) is ≡ map (λ i. is_input (port_view texts p)) is
      by Input e = cc
      by Output e = cc

  pub port_inputs_are : (ps : List Port) → inputs.port_inputs ps ≡ flat_map (λ (x : PortView). map (λ i. is_input x) (indices x.range)) (map (port_view texts) ps)
  port_inputs_are [] = refl
  port_inputs_are (p ∷ ps) = λ i. inputs-are p (indices p.range) i ++ port_inputs_are ps i

  -- ---- pins that drive

  drives-are : (q : Pin) → drives_out q.direction ≡ is_output_pin (pin_view texts q)
  drives-are q = by q.direction refl
    where
      by : (d : Direction) → q.direction ≡ d → drives_out q.direction ≡ is_output_pin (pin_view texts q)
      by Input e = cc
      by Output e = cc

  pins-drive : (qs : List Pin) → map (λ (q : Pin). drives_out q.direction) qs ≡ map is_output_pin (map (pin_view texts) qs)
  pins-drive [] = refl
  pins-drive (q ∷ qs) = λ i. drives-are q i ∷ pins-drive qs i

  switched-is : (o : Option Switched) → is_some o ≡ is_some (option_map (switched_view texts) o)
  switched-is None = refl
  switched-is (Some x) = refl

  pgs-drive : (gs : List PgPin) → map (λ (g : PgPin). is_some g.switched) gs ≡ map (λ (g : PgPinView). is_some g.switched) (map (pg_pin_view texts) gs)
  pgs-drive [] = refl
  pgs-drive (g ∷ gs) = λ i. switched-is g.switched i ∷ pgs-drive gs i

  pub driving : (cells : List Cell) (of : ℕ) → slice_index_or (map drives_of cells) of [] ≡ driving_pins (slice_get (map (cell_view texts) cells) of)
  driving [] of = refl
  driving (c ∷ cells) zero = λ i. pins-drive c.pins i ++ pgs-drive c.pgs i
  driving (c ∷ cells) (suc of) = driving cells of
