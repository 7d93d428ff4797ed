-- A netlist that has the written content at each path is as deep as the source, has its ports and those of the origins, and knows its targets.
use Rattle.std.proofs.Common.{◌≡◌, ℕ, Bool, true, false, ◌&&◌, ◌||◌, [], ◌∷◌, ◌++◌, length, map, Option, Some, None, inl, inr, refl, sym, ap, ◌∙◌, subst}
use Rattle.std.specs.Prelude.{bytes_eq, is_some, nat_lt, if◌then◌else◌, IsTrue}
use Rattle.std.specs.List.{list_all}
use Rattle.std.proofs.lemmas.Bool.{lt-ltb, eq-eqb}
use Rattle.lp_model.specs.NetlistView.{PortView, InstanceView, ModuleView}
use Rattle.lp_model.specs.LibraryView.{CellView}
use Rattle.lp_spec_design.specs.Keys.{Name, Path, same_bool}
use Rattle.lp_spec_design.specs.Netlists.{Structure, first, module_named, module_at, indices, is_input}
use Rattle.lp_spec_design.specs.Instances.{below}
use Rattle.lp_spec_design.specs.Graph.{numbered}
use Rattle.lp_spec_design.specs.Intents.{Origin, FromPort, FromSwitch}
use Rattle.lp_spec_design.specs.Winners.{IsIn}
use Rattle.lp_spec_design.specs.Reads.{name-self}
use Rattle.lp_spec_design.proofs.Members.{in-left, in-right, in-either, of-map, of-some, any-in}
use Rattle.lp_spec_realises.specs.Projects.{Project, network_of, port_of_origin}
use Rattle.lp_spec_realises.specs.Tops.{ports_of, top_ports, same_port, has_port}
use Rattle.lp_spec_realises.specs.ProjectNetlists.{is_known, knows_its_targets, is_shallow, if_port, port_origins, is_scalar_input, has_origin}
use Rattle.lp_spec_realises.specs.Implements.{Lists}
use Rattle.lp_spec_written.specs.Supplies.{scalar, port_by_kind, origin_port, supply_ports}
use Rattle.lp_model.specs.declared.netlist.Direction.TheVariants.{Input}
use Rattle.lp_spec_written.specs.Routes.{control_ports}
use Rattle.lp_spec_written.specs.Written.{Additions, additions, written_instance, written_operators, written_switches, written_instances, written_ports}
use Rattle.lp_spec_wired.specs.Contents.{IsWrittenAt}
use Rattle.lp_spec_written_at.specs.Sources.{IsFree, HasListedCells, IsReached}
use Rattle.lp_spec_written_at.proofs.Lists.{all-of, in-some, some-first}
use Rattle.lp_spec_written_at.proofs.Modules.{from-modules, HasCellName, cell-target, written-name, is-added, cells-listed}
use Rattle.lp_spec_written_at.proofs.Paths.{of-below, of-instances, some-is, source-by-names, source-at, by-names, short}

same-way-round : (b : Bool) → same_bool b b ≡ true
same-way-round true = refl
same-way-round false = refl

all-three : (x y z : Bool) → x ≡ true → y ≡ true → z ≡ true → (x && (y && z)) ≡ true
all-three true true z e g h = h
all-three true false z e g h = g
all-three false y z e g h = e

module _ (p : Project) (a : Additions) (w : Structure) (f : IsFree p) (is : IsWrittenAt p a w) where
  abbrev s : Structure
  s = p.structure

  pub shallow-is : is_shallow w ≡ true
  shallow-is = all-of (λ x. nat_lt (length x) 64) (below w 65 []) each
    where
      each : (x : Path) → IsIn x (below w 65 []) → nat_lt (length x) 64 ≡ true
      each x h = elim (of-below w (by-names p a w f is) 65 [] x h) [
        | inl top ↦ ap (λ (z : Path). nat_lt (length z) 64) top
        | inr some ↦ let m = some-is (module_at w x) some in let of = source-at p a w f is x m.0 m.1 in lt-ltb (length x) 64 (short p a w f is x of.0 of.1)
      ]

  -- ---- ports of the top

  top-ports : (m : ModuleView) → module_at s [] ≡ Some m → top_ports w ≡ written_ports p a [] m
  top-ports m e = let at = is.modules [] m e in ap ports_of at.is ∙ at.content.ports

  same-as-itself : (q : PortView) → same_port q q ≡ true
  same-as-itself q = all-three (bytes_eq q.name q.name) (same_bool (is_input q) (is_input q)) _ (name-self q.name) (same-way-round (is_input q)) (eq-eqb (length (indices q.range)) (length (indices q.range)) refl)

  pub ports-are : list_all (has_port w) (top_ports s) ≡ true
  ports-are = by (module_at s []) refl
    where
      each : (m : ModuleView) → module_at s [] ≡ Some m → (q : PortView) → IsIn q m.ports → has_port w q ≡ true
      each m e q h = any-in (same_port q) q (top_ports w) (subst (λ z. IsIn q z) (sym (top-ports m e)) (in-left q m.ports _ h)) (same-as-itself q)

      by : (o : Option ModuleView) → module_at s [] ≡ o → list_all (has_port w) (ports_of (module_at s [])) ≡ true
      by None e = ap (λ z. list_all (has_port w) (ports_of z)) e
      by (Some m) e = ap (λ z. list_all (has_port w) (ports_of z)) e ∙ all-of (has_port w) m.ports (each m e)

  port-kind : (z : ℕ) (k : Origin) (o : ℕ) → if_port z k ≡ Some o → port_by_kind p a.plan a.uses [] z k ≡ Some (scalar (port_of_origin p o) Input)
  port-kind z FromPort o e = let same : z ≡ o = cc in ap (λ n. Some (scalar (port_of_origin p n) Input)) same
  port-kind z (FromSwitch input control high) o e = absurd cc

  pub origins-are : is_some (module_at s []) ≡ true → list_all (has_origin p w) (port_origins p) ≡ true
  origins-are some = all-of (has_origin p w) (port_origins p) each
    where
      each : (o : ℕ) → IsIn o (port_origins p) → has_origin p w o ≡ true
      each o h =
          let top = some-is (module_at s []) some in
          let at = of-some (λ (x : ℕ × Origin). if_port x.0 x.1) o (numbered 0 (network_of p).origins) h in
          let port : PortView = scalar (port_of_origin p o) Input in
          let there = in-some (origin_port p a.plan a.uses []) at.0 port (numbered 0 (network_of p).origins) at.1 (port-kind at.0.0 at.0.1 o at.2) in
          let written : IsIn port (written_ports p a [] top.0) = in-right port top.0.ports _ (in-left port (supply_ports p a.plan a.uses []) (control_ports a.controls []) there) in
          any-in (is_scalar_input (port_of_origin p o)) port (top_ports w) (subst (λ z. IsIn port z) (sym (top-ports top.0 top.1)) written)
          (ap (λ b. b && true) (name-self (port_of_origin p o)))

  -- ---- targets

  module _ (listed : HasListedCells p a) where
    by-source : (x : Path) (m : ModuleView) (y : InstanceView) → module_at s x ≡ Some m → IsIn y m.instances → module_named s y.target ≡ module_at s (y.name ∷ x)
    by-source x m y e h = source-by-names p f x m y e h

    known-cell : (n : Name) → HasCellName p a f listed n → is_some (first (λ (c : CellView). bytes_eq c.name n) w.cells) ≡ true
    known-cell n h =
        some-first (λ (c : CellView). bytes_eq c.name n) h.cell w.cells (subst (λ z. IsIn h.cell z) (sym is.cells) h.known)
        (ap (λ z. bytes_eq h.cell.name z) h.is ∙ name-self h.cell.name)

    no-source : (x : Path) → module_at w x ≡ None → (o : Option ModuleView) → module_at s x ≡ o → module_at s x ≡ None
    no-source x e None g = g
    no-source x e (Some m) g = let at = is.modules x m g in let none : None ≡ Some at.here = sym e ∙ at.is in absurd cc

    source-cell : (x : Path) (m : ModuleView) → module_at s x ≡ Some m → (y : InstanceView) → IsIn y (map (written_instance p a x) m.instances) → module_at w (y.name ∷ x) ≡ None → HasCellName p a f listed y.target
    source-cell x m e y h none =
        let one = of-map (written_instance p a x) y m.instances h in
        let name : y.name ≡ one.0.name = ap (λ (k : InstanceView). k.name) one.2 ∙ written-name p a f listed x one.0 in
        let path : module_at w (one.0.name ∷ x) ≡ None = ap (λ n. module_at w (n ∷ x)) (sym name) ∙ none in
        let source : module_named s one.0.target ≡ None = by-source x m one.0 e one.1 ∙ no-source (one.0.name ∷ x) path (module_at s (one.0.name ∷ x)) refl in
        subst (λ (k : InstanceView). HasCellName p a f listed k.target) (sym one.2) (cell-target p a f listed x m one.0 (from-modules s x m e) one.1 source)

    -- an instance of the netlist is one of the module of its path, else of a cell of the library
    cell-name : (x : Path) (h : ModuleView) (y : InstanceView) → module_at w x ≡ Some h → IsIn y h.instances → module_named w y.target ≡ None → HasCellName p a f listed y.target
    cell-name x h y e g none =
        let of = source-at p a w f is x h e in
        let one = of-instances w x (written_instances p a x of.0) h.instances of.2.instances y g in
        let path : module_at w (one.written.name ∷ x) ≡ None = sym one.is.inner ∙ none in
        let cells = elim (in-either one.written (map (written_instance p a x) of.0.instances) (written_operators p a x ++ written_switches p a x) one.among) as (λ _. HasCellName p a f listed one.written.target) [
          | inl l ↦ source-cell x of.0 of.1 one.written l path
          | inr r ↦ let k = is-added p a f listed x one.written r in record { cell = k.cell; known = k.listed; free = k.free; is = k.target }
        ] in
        subst (HasCellName p a f listed) (sym (one.is.cell path)) cells

    pub knows-all : IsReached w → knows_its_targets w ≡ true
    knows-all reached = all-of (λ (m : ModuleView). list_all (is_known w) m.instances) w.modules (λ m h. all-of (is_known w) m.instances (each m h))
      where
        each : (m : ModuleView) → IsIn m w.modules → (y : InstanceView) → IsIn y m.instances → is_known w y ≡ true
        each m h y g = let at = reached m h in by (module_named w y.target) refl (cell-name at.0 m y at.1 g)
          where
            by : (o : Option ModuleView) → module_named w y.target ≡ o → (module_named w y.target ≡ None → HasCellName p a f listed y.target)
                → is_known w y ≡ true
            by (Some k) e cell = ap (λ o. is_some o || is_some (if is_some o then None else first (λ (c : CellView). bytes_eq c.name y.target) w.cells)) e
            by None e cell = ap (λ o. is_some o || is_some (if is_some o then None else first (λ (c : CellView). bytes_eq c.name y.target) w.cells)) e ∙ known-cell y.target (cell e)

pub is-shallow : (p : Project) (a : Additions) (w : Structure) → IsFree p → IsWrittenAt p a w → IsTrue (is_shallow w)
is-shallow p a w f is = shallow-is p a w f is

pub has-ports : (p : Project) (a : Additions) (w : Structure) → IsFree p → IsWrittenAt p a w → IsTrue (list_all (has_port w) (top_ports p.structure))
has-ports p a w f is = ports-are p a w f is

pub has-origins : (p : Project) (a : Additions) (w : Structure) → IsFree p → IsWrittenAt p a w → is_some (module_at p.structure []) ≡ true → IsTrue (list_all (has_origin p w) (port_origins p))
has-origins p a w f is top = origins-are p a w f is top

pub knows-targets : (p : Project) (l : Lists) (w : Structure) → IsFree p → IsWrittenAt p (additions p l) w → IsReached w → IsTrue (knows_its_targets w)
knows-targets p l w f is reached = knows-all p (additions p l) w f is (cells-listed p l) reached
