-- No two connections of an instance of the source name one port or pin, as it stands and as it is written.
use Rattle.std.proofs.Common.{◌≡◌, ℕ, ◌+◌, Bool, true, false, not, ◌&&◌, ◌||◌, cond, List, [], ◌∷◌, ◌++◌, map, Option, Some, None, inl, inr, refl, sym, ap, ◌∙◌, subst}
use Rattle.std.specs.Prelude.{filter, bytes_eq, is_some, option_and_then}
use Rattle.std.specs.List.{list_any, list_all}
use Rattle.std.proofs.lemmas.Bool.{true≢false, or_parts}
use Rattle.lp_model.specs.NetlistView.{BitView, NetBit, PortView, NetView, ConnectionView, ConnectionsView, ByName, ByPosition, InstanceView, ModuleView}
use Rattle.lp_model.specs.LibraryView.{PgPinView, PinView, CellView}
use Rattle.lp_spec_design.specs.Keys.{Name, Path}
use Rattle.lp_spec_design.specs.Netlists.{Structure, first, module_named, cell_named, instance_named, module_at}
use Rattle.lp_spec_design.specs.Instances.{Placed}
use Rattle.lp_spec_design.specs.Graph.{pairs, and_more, some_of, when}
use Rattle.lp_spec_design.specs.Winners.{IsIn}
use Rattle.lp_spec_design.specs.Reads.{name-self}
use Rattle.lp_spec_design.proofs.Members.{IsApart, in-left, in-right, in-either, in-map, of-map, in-flat, of-filter, of-pairs, any-in}
use Rattle.lp_spec_fit.specs.Fits.{is_retention_pin, retention_pins}
use Rattle.lp_spec_fit.specs.Joins.{Joins}
use Rattle.lp_spec_realises.specs.Projects.{Project}
use Rattle.lp_spec_realises.specs.ProjectNetlists.{is_known}
use Rattle.lp_spec_realises.specs.Realises.{cell_of, control_of, joins_of_source}
use Rattle.lp_spec_realises.specs.Implements.{Lists}
use Rattle.lp_spec_faults.specs.Wires.{ConnectionAt, named_from, connections_of, connections_in, all_connections, port_of, has_pin, has_output, has_constant, is_second, is_refused_port, is_unknown_pin, unknown_pin}
use Rattle.lp_spec_agreement.proofs.Apart.{apart_left, instance_found, module_below}
use Rattle.lp_spec_agreement.proofs.Framed.{no_fault}
use Rattle.lp_spec_faultless.specs.Faults.{IsRead}
use Rattle.lp_spec_written.specs.Places.{Kept, plan}
use Rattle.lp_spec_written.specs.Nets.{Stretch, stretches, by_names, led_bits, indices_named, led_connections, renamed, renamed_connections}
use Rattle.lp_spec_written.specs.Supplies.{or_cell, kept_at, cell_for, joined_pins, pins_of_cell, source_pins, joined_to, supply_connections}
use Rattle.lp_spec_written.specs.Routes.{Kind, PortOut, Between, PortIn, Part, same_part_kind, parts_in, control_net, port_of_kind, control_port, control_ports, control_bits, some_control_bits, control_connection, control_connections}
use Rattle.lp_spec_written.specs.Written.{Additions, additions, added_supply_ports, written_ports, retention_connections, written_module}
use Rattle.lp_spec_written_at.specs.Laws.{IsReady}
use Rattle.lp_spec_written_at.specs.Sources.{HasFreePins}
use Rattle.lp_spec_written_at.proofs.Lists.{of-all}
use Rattle.lp_spec_written_at.proofs.Modules.{from-modules}
use Rattle.lp_spec_written_at.proofs.Picked.{map-append}
use Rattle.lp_spec_written_at.proofs.Paths.{some-is}
use Rattle.lp_spec_written_at.proofs.Instances.{apart-append}
use Rattle.lp_spec_written_at.proofs.InstanceNames.{map-twice}
use Rattle.lp_spec_written_at.proofs.PartNames.{part-names}
use Rattle.lp_spec_written_at.proofs.PinsAt.{pins-joined-apart, supplies-from, supply-name}
use Rattle.lp_spec_written_at.proofs.Weave.{names-apart, apart-front, apart-back, apart-sides}
use Rattle.lp_spec_driven.proofs.SourceCells.{no-module}
use Rattle.lp_spec_proper.specs.Insertable.{IsInsertable, IsWithinLimits}
use Rattle.lp_spec_proper.proofs.Plain.{named-port}
use Rattle.lp_spec_proper.proofs.Free.{ready}
use Rattle.lp_spec_proper.proofs.FreePins.{cells-free}

abbrev pub port_name : ConnectionView → Name
port_name c = c.port

-- ---- names of connections

differ : (m n : Name) → bytes_eq m n ≡ false → m ≡ n → ⊥
differ m n e is = true≢false (sym (ap (bytes_eq m) (sym is) ∙ name-self m) ∙ e)

ports-append : (cs ds : List ConnectionView) → IsApart (map port_name cs) → IsApart (map port_name ds) → ((c d : ConnectionView) → IsIn c cs → IsIn d ds → c.port ≡ d.port → ⊥) → IsApart (map port_name (cs ++ ds))
ports-append cs ds one two other =
    subst (λ ns. IsApart ns) (sym (map-append port_name cs ds))
    (apart-append (map port_name cs) (map port_name ds) one two (λ n h g.
    let c = of-map port_name n cs h in
    let d = of-map port_name n ds g in
    other c.0 d.0 c.1 d.1 (sym c.2 ∙ d.2)))

-- a name that stands twice is noted at its second connection
named-apart : (m : ModuleView) (y : InstanceView) (k : ℕ) (before : List Name) (cs : List ConnectionView)
    → ((z : ConnectionAt) → IsIn z (named_from m y k before cs) → is_second z ≡ false)
    → IsApart (map port_name cs) × ((n : Name) → IsIn n before → IsIn n (map port_name cs) → ⊥)
named-apart m y k before [] once = (tt, λ n h g. g)
named-apart m y k before (c ∷ cs) once =
    let rest = named-apart m y (k + 1) (before ++ c.port ∷ []) cs (λ z h. once z (inr h)) in
    let new : list_any (bytes_eq c.port) before ≡ false = once (record { parent = m; instance = y; number = k; name = Some c.port; bits = c.bits; before = before }) (inl refl) in (
      (λ h. rest.1 c.port (in-right c.port before (c.port ∷ []) (inl refl)) h, rest.0),
      λ n h g. elim g [
        | inl is ↦ true≢false (sym (any-in (bytes_eq c.port) n before h (ap (bytes_eq c.port) is ∙ name-self c.port)) ∙ new)
        | inr more ↦ rest.1 n (in-left n before (c.port ∷ []) h) more
      ],
    )

abbrev by_place : PortView × List BitView → ConnectionView
by_place x = record { port = x.0.name; bits = x.1 }

pairs-apart : (ports : List PortView) (values : List (List BitView)) → IsApart (map (λ (q : PortView). q.name) ports) → IsApart (map port_name (map by_place (pairs ports values)))
pairs-apart [] values once = tt
pairs-apart (q ∷ ports) [] once = tt
pairs-apart (q ∷ ports) (v ∷ values) once = (
  λ h.
      let c = of-map port_name q.name (map by_place (pairs ports values)) h in
      let z = of-map by_place c.0 (pairs ports values) c.1 in
      once.0 (subst (λ n. IsIn n (map (λ (r : PortView). r.name) ports)) (sym (c.2 ∙ ap port_name z.2)) (in-map (λ (r : PortView). r.name) z.0.0 ports (of-pairs z.0 ports values z.1).0)),
  pairs-apart ports values once.1,
)

kept-names : (qs : List PinView) → IsApart (map (λ (q : PinView). q.name) qs) → IsApart (map (λ (q : PinView). q.name) (filter is_retention_pin qs))
kept-names [] once = tt
kept-names (q ∷ qs) once = by (is_retention_pin q) (kept-names qs once.1)
  where
    by : (b : Bool) → IsApart (map (λ (z : PinView). z.name) (filter is_retention_pin qs)) → IsApart (map (λ (z : PinView). z.name) (cond b (q ∷ filter is_retention_pin qs) (filter is_retention_pin qs)))
    by true more = (
      λ h. let old = of-map (λ (z : PinView). z.name) q.name (filter is_retention_pin qs) h in once.0 (subst (λ n. IsIn n (map (λ (z : PinView). z.name) qs)) (sym old.2) (in-map (λ (z : PinView). z.name) old.0 qs (of-filter is_retention_pin old.0 qs old.1).0)),
      more,
    )
    by false more = more

-- the connections of control ports name those ports
control-names : (chains : List Stretch) (all : List Part) (x : Path) (ys : List (ℕ × Part)) → map port_name (some_of (control_connection chains all x) ys) ≡ map (λ (q : PortView). q.name) (some_of control_port ys)
control-names chains all x [] = refl
control-names chains all x (y ∷ ys) = by y.1.kind (control-names chains all x ys)
  where
    rest : List ConnectionView
    rest = some_of (control_connection chains all x) ys

    ports : List PortView
    ports = some_of control_port ys

    by : (k : Kind) → map port_name rest ≡ map (λ (q : PortView). q.name) ports
        → map port_name (and_more (when (not (same_part_kind k Between)) (joined_to (control_net y.0) (control_bits chains all x y.1.control))) rest) ≡ map (λ (q : PortView). q.name) (and_more (port_of_kind y.0 k) ports)
    by PortOut more = ap (λ r. control_net y.0 ∷ r) more
    by Between more = more
    by PortIn more = ap (λ r. control_net y.0 ∷ r) more

-- ---- the table of faults refuses a second connection of one name

by-name-places : (m : ModuleView) (y : InstanceView) (cs : List ConnectionView) → y.connections ≡ ByName cs → connections_of m y ≡ named_from m y 1 [] cs
by-name-places m y cs e = rw (e) refl

of-place : (m : ModuleView) (y : InstanceView) (k : ℕ) (before : List Name) (cs : List ConnectionView) (z : ConnectionAt) → IsIn z (named_from m y k before cs) → (z.instance ≡ y) × ((n : Name) × (z.name ≡ Some n))
of-place m y k before [] z h = absurd h
of-place m y k before (c ∷ cs) z (inl is) = (ap (λ (v : ConnectionAt). v.instance) is, (c.port, ap (λ (v : ConnectionAt). v.name) is))
of-place m y k before (c ∷ cs) z (inr h) = of-place m y (k + 1) (before ++ c.port ∷ []) cs z h

unknown-in : (s : Structure) (z : ConnectionAt) (m : ModuleView) → module_named s z.instance.target ≡ Some m → is_unknown_pin s z ≡ is_refused_port z (port_of m z)
unknown-in s z m e = rw (e) refl

unknown-at : (s : Structure) (z : ConnectionAt) (c : CellView) (n : Name) → module_named s z.instance.target ≡ None → first (λ (k : CellView). bytes_eq k.name z.instance.target) s.cells ≡ Some c → z.name ≡ Some n
    → is_unknown_pin s z ≡ (not (has_pin c n) || (is_second z || (has_output c n && has_constant z.bits)))
unknown-at s z c n e f g = rw (e) (rw (f) (rw (g) refl))

first-of-port : (z : ConnectionAt) (o : Option PortView) → is_refused_port z o ≡ false → is_second z ≡ false
first-of-port z None e = absurd (true≢false e)
first-of-port z (Some q) e = (or_parts (is_second z) _ e).0

module _ (s : Structure) (known : (z : ConnectionAt) → IsIn z (all_connections s) → is_unknown_pin s z ≡ false) (m : ModuleView) (there : IsIn m s.modules) (y : InstanceView) (listed : IsIn y m.instances) where
  -- each connection of the instance by name is the first of its name
  IsFirst : Type 0
  IsFirst = (z : ConnectionAt) → IsIn z (all_connections s) → z.instance ≡ y → (n : Name) → z.name ≡ Some n → is_second z ≡ false

  of-module : (inner : ModuleView) → module_named s y.target ≡ Some inner → IsFirst
  unfolding IsFirst
  of-module inner target z h is n name =
      first-of-port z (port_of inner z) (sym (unknown-in s z inner (ap (λ (v : InstanceView). module_named s v.target) is ∙ target)) ∙ known z h)

  of-cell : (c : CellView) → cell_named s y.target ≡ Some c → IsFirst
  unfolding IsFirst
  of-cell c target z h is n name =
      let no = no-module s z.instance.target c (ap (λ (v : InstanceView). cell_named s v.target) is ∙ target) in
      (or_parts (is_second z) _ (or_parts (not (has_pin c n)) _ (sym (unknown-at s z c n no.0 no.1 name) ∙ known z h)).1).0

  names-once : IsFirst → (ports : List PortView) → IsApart (map (λ (q : PortView). q.name) ports) → IsApart (map port_name (by_names ports y.connections))
  unfolding IsFirst
  names-once once ports apart = by y.connections refl
    where
      here : (cs : List ConnectionView) → y.connections ≡ ByName cs → (z : ConnectionAt) → IsIn z (named_from m y 1 [] cs) → is_second z ≡ false
      here cs is z h =
          let of = of-place m y 1 [] cs z h in
          let at : IsIn z (connections_of m y) = subst (λ r. IsIn z r) (sym (by-name-places m y cs is)) h in
          once z (in-flat connections_in m z s.modules there (in-flat (connections_of m) y z m.instances listed at)) of.0 of.1.0 of.1.1

      by : (cs : ConnectionsView) → y.connections ≡ cs → IsApart (map port_name (by_names ports cs))
      by (ByName cs) is = (named-apart m y 1 [] cs (λ z h. here cs is z h)).0
      by (ByPosition values) is = pairs-apart ports values apart

  -- connections name ports of the module
  names-in : (inner : ModuleView) → module_named s y.target ≡ Some inner → (n : Name) → IsIn n (map port_name (by_names inner.ports y.connections)) → IsIn n (map (λ (q : PortView). q.name) inner.ports)
  names-in inner target n h = by y.connections refl h
    where
      by : (cs : ConnectionsView) → y.connections ≡ cs → IsIn n (map port_name (by_names inner.ports cs)) → IsIn n (map (λ (q : PortView). q.name) inner.ports)
      by (ByName cs) is g =
          let c = of-map port_name n cs g in
          let q = named-port s m inner y cs c.0 there listed target is c.1 known in
          subst (λ k. IsIn k (map (λ (r : PortView). r.name) inner.ports)) (q.2 ∙ sym c.2) (in-map (λ (r : PortView). r.name) q.0 inner.ports q.1)
      by (ByPosition values) is g =
          let c = of-map port_name n (map by_place (pairs inner.ports values)) g in
          let z = of-map by_place c.0 (pairs inner.ports values) c.1 in
          subst (λ k. IsIn k (map (λ (r : PortView). r.name) inner.ports)) (sym (c.2 ∙ ap port_name z.2)) (in-map (λ (r : PortView). r.name) z.0.0 inner.ports (of-pairs z.0 inner.ports values z.1).0)

-- ---- as they are written

module _ (p : Project) (l : Lists) (switch_command : ℕ → ℕ) (read : IsRead p) (insertable : IsInsertable p l switch_command) (limits : IsWithinLimits p l) (x : Path) (m : ModuleView) (e : module_at p.structure x ≡ Some m) (y : InstanceView) (listed : IsIn y m.instances) where
  abbrev s : Structure
  s = p.structure

  abbrev a : Additions
  a = additions p l

  abbrev chains : List Stretch
  chains = stretches p (plan p l)

  is-ready : IsReady p l
  is-ready = ready p l switch_command read insertable limits

  there : IsIn m s.modules
  there = from-modules s x m e

  known : (z : ConnectionAt) → IsIn z (all_connections s) → is_unknown_pin s z ≡ false
  known z h = no_fault (unknown_pin s) insertable.pins z h

  -- ---- a module instance: the ports of the written module

  module _ (inner : ModuleView) (target : module_named s y.target ≡ Some inner) where
    abbrev z : Path
    z = y.name ∷ x

    abbrev source_ports : List Name
    source_ports = map (λ (q : PortView). q.name) inner.ports

    abbrev supply_ports : List Name
    supply_ports = map (λ (q : PortView). q.name) (added_supply_ports p a z)

    abbrev led_ports : List Name
    led_ports = map (λ (q : PortView). q.name) (control_ports a.controls z)

    ports-apart : IsApart (source_ports ++ (supply_ports ++ led_ports))
    ports-apart =
        let at : module_at s z ≡ Some inner = module_below s read.netlist.names_apart x m e y listed ∙ target in
        subst (λ ns. IsApart ns)
        (map-append (λ (q : PortView). q.name) inner.ports (added_supply_ports p a z ++ control_ports a.controls z)
        ∙ ap (λ ns. source_ports ++ ns) (map-append (λ (q : PortView). q.name) (added_supply_ports p a z) (control_ports a.controls z)))
        (names-apart (map (λ (q : PortView). q.name) (written_ports p a z inner))
        (apart_left (map (λ (q : PortView). q.name) (written_ports p a z inner)) (map (λ (v : NetView). v.name) (written_module p a z inner).nets ++ map (λ (v : InstanceView). v.name) (written_module p a z inner).instances)
        (part-names p l is-ready.free is-ready.names is-ready.few z inner at)))

    abbrev led : List ConnectionView
    led = led_connections chains x z inner.ports y.connections

    abbrev supplied : List ConnectionView
    supplied = map (λ (q : PortView). joined_to q.name (NetBit q.name ∷ [])) (added_supply_ports p a z)

    abbrev controlled : List ConnectionView
    controlled = control_connections chains a.controls x z

    led-names : map port_name led ≡ map port_name (by_names inner.ports y.connections)
    led-names = map-twice port_name (λ (c : ConnectionView). record c { bits = led_bits chains x z c.port (indices_named inner.ports c.port) c.bits }) port_name (λ c. refl) (by_names inner.ports y.connections)

    supplied-names : map port_name supplied ≡ supply_ports
    supplied-names = map-twice port_name (λ (q : PortView). joined_to q.name (NetBit q.name ∷ [])) (λ (q : PortView). q.name) (λ q. refl) (added_supply_ports p a z)

    added-names : map port_name (supplied ++ controlled) ≡ supply_ports ++ led_ports
    added-names =
        map-append port_name supplied controlled
        ∙ (ap (λ ns. ns ++ map port_name controlled) supplied-names
        ∙ ap (λ ns. supply_ports ++ ns) (control-names chains a.controls x (parts_in a.controls z)))

    pub module-once : IsApart (map port_name (led ++ (supplied ++ controlled)))
    module-once =
        subst (λ ns. IsApart ns)
        (sym (map-append port_name led (supplied ++ controlled) ∙ (ap (λ ns. ns ++ map port_name (supplied ++ controlled)) led-names ∙ ap (λ ns. map port_name (by_names inner.ports y.connections) ++ ns) added-names)))
        (apart-append (map port_name (by_names inner.ports y.connections)) (supply_ports ++ led_ports)
        (names-once s known m there y listed (of-module s known m there y listed inner target) inner.ports (apart-front source_ports (supply_ports ++ led_ports) ports-apart))
        (apart-back source_ports (supply_ports ++ led_ports) ports-apart)
        (λ n h g. apart-sides source_ports (supply_ports ++ led_ports) ports-apart n (names-in s known m there y listed inner target n h) g))

  -- ---- a cell instance: pins of the cell that stands there

  module _ (none : module_named s y.target ≡ None) where
    abbrev place : Placed
    place = record { path = x; instance = y.name }

    source-cell : (c : CellView) × (cell_named s y.target ≡ Some c)
    source-cell =
        some-is (cell_named s y.target)
        (ap (λ o. is_some o || is_some (cell_named s y.target)) (sym none) ∙ of-all (is_known s) y m.instances (of-all (λ (k : ModuleView). list_all (is_known s) k.instances) m s.modules is-ready.free.known there) listed)

    at-place : cell_of s place ≡ Some source-cell.0
    at-place =
        ap (λ o. option_and_then (λ (k : ModuleView). option_and_then (λ (v : InstanceView). cell_named s v.target) (instance_named k y.name)) o) e
        ∙ (ap (λ o. option_and_then (λ (v : InstanceView). cell_named s v.target) o) (instance_found s read.netlist.names_apart x m e y listed)
        ∙ source-cell.1)

    one-cell : (source : CellView) (o : Option Kept) → (c : CellView) × (or_cell (Some source) o ≡ Some c)
    one-cell source None = (source, refl)
    one-cell source (Some k) = (k.cell, refl)

    abbrev c : CellView
    c = (one-cell source-cell.0 (kept_at (plan p l) place)).0

    stands : cell_for p (plan p l) place ≡ Some c
    stands = ap (λ o. or_cell o (kept_at (plan p l) place)) at-place ∙ (one-cell source-cell.0 (kept_at (plan p l) place)).1

    free : HasFreePins p l x y c
    free = cells-free p l switch_command read insertable limits x m e y listed source-cell.0 c source-cell.1 stands

    abbrev pins : List Name
    pins = map (λ (q : PinView). q.name) c.pins

    abbrev pgs : List Name
    pgs = map (λ (g : PgPinView). g.name) c.pgs

    all : IsApart (pins ++ pgs)
    all = names-apart (pins ++ pgs) free.apart

    abbrev own : List ConnectionView
    own = renamed_connections chains x y.connections

    abbrev retained : List ConnectionView
    retained = retention_connections a x (kept_at a.plan place)

    abbrev joins : Option Joins
    joins = joins_of_source p place c

    abbrev supplies : List ConnectionView
    supplies = supply_connections p a.plan (joined_pins c joins)

    own-once : IsApart (map port_name own)
    own-once =
        subst (λ ns. IsApart ns) (sym (map-twice port_name (λ (k : ConnectionView). record k { bits = map (renamed chains x) k.bits }) port_name (λ k. refl) (by_names [] y.connections)))
        (names-once s known m there y listed (of-cell s known m there y listed source-cell.0 source-cell.1) [] tt)

    record IsRetained (d : ConnectionView) : Type 0 where
      kept : Kept
      at : kept_at a.plan place ≡ Some kept
      pin : PinView
      among : IsIn pin (retention_pins c)
      name : d.port ≡ pin.name

    kept-cell : (k : Kept) → kept_at a.plan place ≡ Some k → k.cell ≡ c
    kept-cell k at =
        let same : Some k.cell ≡ Some c = sym (ap (or_cell (cell_of s place)) at) ∙ stands in
        cc

    retained-pin : (o : Option Kept) → kept_at a.plan place ≡ o → (d : ConnectionView) → IsIn d (retention_connections a x o) → IsRetained d
    retained-pin None at d h = absurd h
    retained-pin (Some k) at d h =
        let old = of-map (λ (q : PinView). joined_to q.name (some_control_bits chains a.controls x (control_of k.strategy q.use_of))) d (retention_pins k.cell) h in
        record { kept = k; at = at; pin = old.0; among = subst (λ v. IsIn old.0 (retention_pins v)) (kept-cell k at) old.1; name = ap port_name old.2 }

    retained-once : (o : Option Kept) → kept_at a.plan place ≡ o → IsApart (map port_name (retention_connections a x o))
    retained-once None at = tt
    retained-once (Some k) at =
        subst (λ ns. IsApart ns)
        (sym (map-twice port_name (λ (q : PinView). joined_to q.name (some_control_bits chains a.controls x (control_of k.strategy q.use_of))) (λ (q : PinView). q.name) (λ q. refl) (retention_pins k.cell)))
        (subst (λ v. IsApart (map (λ (q : PinView). q.name) (retention_pins v))) (sym (kept-cell k at)) (kept-names c.pins (apart-front pins pgs all)))

    in-pins : (d : ConnectionView) → IsRetained d → IsIn d.port pins
    in-pins d of = subst (λ n. IsIn n pins) (sym of.name) (in-map (λ (q : PinView). q.name) of.pin c.pins (of-filter is_retention_pin of.pin c.pins of.among).0)

    added-once : IsApart (map port_name (retained ++ supplies))
    added-once =
        ports-append retained supplies (retained-once (kept_at a.plan place) refl) (supplies-from c free.apart p a joins (joined_pins c joins) (pins-joined-apart c free.apart joins))
        (λ d g h i same. apart-sides pins pgs all g.port (subst (λ n. IsIn n pins) same (in-pins d (retained-pin (kept_at a.plan place) refl d h))) (supply-name c free.apart p a joins g i))

    no-added : (d k : ConnectionView) → IsIn d (by_names [] y.connections) → IsIn k (retained ++ supplies) → d.port ≡ k.port → ⊥
    no-added d k h g same = elim (in-either k retained supplies g) [
      | inl one ↦ let of = retained-pin (kept_at a.plan place) refl k one in differ d.port of.pin.name (free.retention of.kept d of.pin of.at h of.among) (same ∙ of.name)
      | inr two ↦
          let r = of-map (λ (v : PgPinView). v.name) k.port c.pgs (supply-name c free.apart p a joins k two) in
          differ d.port r.0.name (free.supplies d r.0 h r.1) (same ∙ r.2)
    ]

    pub cell-once : IsApart (map port_name (own ++ (retained ++ supply_connections p a.plan (source_pins p a.plan place))))
    cell-once =
        subst (λ zs. IsApart (map port_name (own ++ (retained ++ supply_connections p a.plan zs)))) (sym (ap (pins_of_cell p place) free.cell))
        (ports-append own (retained ++ supplies) own-once added-once (λ d k h g same.
        let old = of-map (λ (v : ConnectionView). record v { bits = map (renamed chains x) v.bits }) d (by_names [] y.connections) h in
        no-added old.0 k old.1 g (sym (ap port_name old.2) ∙ same)))
