-- The names of supply ports and of the outputs of switches, and those of ports and wires of controls.
use Rattle.std.proofs.Common.{◌≡◌, ◌<◌, ◌^◌, ℕ, Bool, true, false, not, ◌||◌, ◌==◌, List, [], ◌∷◌, length, map, Option, Some, None, inl, inr, refl, sym, ap, ◌∙◌, subst, arith}
use Rattle.std.specs.Prelude.{drop, filter, bytes_eq, is_some, slice_get, if◌then◌else◌}
use Rattle.std.specs.List.{list_all, list_any}
use Rattle.std.proofs.lemmas.Bool.{false≢true, eqb-true}
use Rattle.std.proofs.lemmas.Fmt.{decimal_injective}
use Rattle.lp_model.specs.declared.netlist.Direction.TheVariants.{Input, Output}
use Rattle.lp_model.specs.NetlistView.{PortView, NetView, ModuleView}
use Rattle.lp_spec_design.specs.Keys.{Name, Path, same_path}
use Rattle.lp_spec_design.specs.Netlists.{module_at}
use Rattle.lp_spec_design.specs.Graph.{numbered, when}
use Rattle.lp_spec_design.specs.Intents.{Origin, FromPort, FromSwitch}
use Rattle.lp_spec_design.specs.Winners.{IsIn}
use Rattle.lp_spec_design.specs.Reads.{path-true, both}
use Rattle.lp_spec_design.proofs.Members.{IsApart, in-map, of-map, of-some, of-filter, of-when}
use Rattle.lp_spec_design.proofs.Sources.{then_is, first_in}
use Rattle.lp_spec_realises.specs.Projects.{Project, network_of, port_of_origin}
use Rattle.lp_spec_realises.specs.ProjectNetlists.{are_apart, if_port, port_origins, has_origins_apart}
use Rattle.lp_spec_realises.specs.Tops.{ports_of, has_port_name}
use Rattle.lp_spec_realises.specs.Operators.{SwitchAt, all_switches}
use Rattle.lp_spec_realises.specs.Implements.{Lists}
use Rattle.lp_spec_faults.specs.Modules.{is_own}
use Rattle.lp_spec_written.specs.Places.{Switching, switching, plan}
use Rattle.lp_spec_written.specs.Supplies.{switch_of, switch_net, scalar, wire, home, goes_out, goes_in, has_port_of, switch_port, port_by_kind, origin_port, supply_ports, supply_wires}
use Rattle.lp_spec_written.specs.Routes.{Kind, PortOut, Between, PortIn, Part, parts_in, same_part_kind, is_between, control_net, port_of_kind, control_port, control_ports, control_wires}
use Rattle.lp_spec_written.specs.Written.{Additions, additions}
use Rattle.lp_spec_wired.specs.Laws.{HasSupplyNames}
use Rattle.lp_spec_written_at.specs.Sources.{IsFree, HasOriginNames, HasFewAdditions}
use Rattle.lp_spec_written_at.proofs.Lists.{none-any, all-of}
use Rattle.lp_spec_written_at.proofs.Modules.{from-modules, free-port, differs-own}
use Rattle.lp_spec_written_at.proofs.Operators.{letter}
use Rattle.lp_spec_written_at.proofs.Switches.{number-from}
use Rattle.lp_spec_written_at.proofs.CellsApart.{numbers-tell}
use Rattle.lp_spec_written_at.proofs.OperatorsApart.{apart-map}
use Rattle.lp_spec_written_at.proofs.InstanceNames.{apart-names}
use Rattle.lp_spec_written_at.proofs.Weave.{apart-filter, apart-some, key-tells, numbered-apart}
use Rattle.lp_spec_written_at.proofs.Wiring.{at-numbered, filter-short}
use Rattle.lp_spec_written_at.proofs.Homes.{home-no-port}

-- ---- numbers of switches

abbrev number_of : Switching → ℕ
number_of s = s.number

switching-number : (p : Project) (l : Lists) (y : ℕ × SwitchAt) (s : Switching) → switching p l y ≡ Some s → s.number ≡ y.0
switching-number p l y s e =
    let found = then_is (λ c. Some (record { asked = y.1; number = y.0; path = l.scope_of_switch y.1.origin; cell = c })) _ s e in
    inside (record { asked = y.1; number = y.0; path = l.scope_of_switch y.1.origin; cell = found.0 }) refl found.2
  where
    inside : (t : Switching) → t.number ≡ y.0 → Some t ≡ Some s → s.number ≡ y.0
    inside t e same = let is : t ≡ s = cc in ap number_of (sym is) ∙ e

module _ (p : Project) (l : Lists) where
  pub switch-numbers : IsApart (map number_of (plan p l).switches)
  switch-numbers =
      apart-some (switching p l) number_of (numbered 0 (all_switches p)) (numbered-apart 0 (all_switches p))
      (λ x y b c h g e f same. numbers-tell 0 (all_switches p) x y h g (sym (switching-number p l x b e) ∙ (same ∙ switching-number p l y c f)))

  switch-from : (s : Switching) → IsIn s (plan p l).switches → s.number < length (all_switches p)
  switch-from s h =
      let found = of-some (switching p l) s (numbered 0 (all_switches p)) h in
      let less = number-from 0 (all_switches p) found.0 found.1 in
      let is = switching-number p l found.0 s found.2 in
      let bound = less.1 in
      omega (arith, is, bound)

  origin-of : (o : ℕ) (s : Switching) → switch_of (plan p l) o ≡ Some s → IsIn s (plan p l).switches × (s.asked.origin ≡ o)
  origin-of o s e = let at = first_in (λ (z : Switching). z.asked.origin == o) (plan p l).switches s e in (at.0, eqb-true s.asked.origin o at.1)

  pub supply-names : HasOriginNames p → HasFewAdditions p l → HasSupplyNames p (additions p l)
  supply-names names few = record {
    ports = λ o r e g same. names o r e g (ap (λ (z : Name). drop 5 z) same);
    switches = λ o r s t e g same.
        let one = origin-of o s e in
        let two = origin-of r t g in
        sym one.1 ∙ (ap (λ (z : Switching). z.asked.origin) (key-tells number_of (plan p l).switches switch-numbers s t one.0 two.0 same) ∙ two.1);
    numbers = λ o s e. let less = switch-from s (origin-of o s e).0 in let bound = few.numbers in omega (arith, less, bound);
  }

-- ---- ports of the origins

port-number : (z : ℕ) (k : Origin) (o : ℕ) → if_port z k ≡ Some o → (z ≡ o) × (k ≡ FromPort)
port-number z FromPort o e = let same : z ≡ o = cc in (same, refl)
port-number z (FromSwitch input control high) o e = absurd cc

module _ (p : Project) where
  abbrev origins : List Origin
  origins = (network_of p).origins

  is-port : (o : ℕ) → IsIn o (port_origins p) → slice_get origins o ≡ Some FromPort
  is-port o h =
      let at = of-some (λ (x : ℕ × Origin). if_port x.0 x.1) o (numbered 0 origins) h in
      let is = port-number at.0.0 at.0.1 o at.2 in
      ap (slice_get origins) (sym is.0) ∙ (at-numbered origins at.0 at.1 ∙ ap (λ k. Some k) is.1)

  port-numbers : IsApart (map (λ (o : ℕ). o) (port_origins p))
  port-numbers =
      apart-some (λ (x : ℕ × Origin). if_port x.0 x.1) (λ (o : ℕ). o) (numbered 0 origins) (numbered-apart 0 origins)
      (λ x y b c h g e f same. numbers-tell 0 origins x y h g ((port-number x.0 x.1 b e).0 ∙ (same ∙ sym (port-number y.0 y.1 c f).0)))

  map-self : (xs : List ℕ) → map (λ (o : ℕ). o) xs ≡ xs
  map-self [] = refl
  map-self (x ∷ xs) = ap (λ r. x ∷ r) (map-self xs)

  pub ports-apart : IsFree p → HasOriginNames p → has_origins_apart p ≡ true
  ports-apart f names =
      both (are_apart (map (port_of_origin p) (port_origins p))) (list_all _ (port_origins p))
      (apart-names (map (port_of_origin p) (port_origins p))
      (apart-map (port_of_origin p) (port_origins p) (subst (λ os. IsApart os) (map-self (port_origins p)) port-numbers) (λ o r h g same. names o r (is-port o h) (is-port r g) (ap (λ (z : Name). drop 5 z) same))))
      (all-of _ (port_origins p) (λ o h. by o (module_at p.structure []) refl))
    where
      no-port : (o : ℕ) (m : ModuleView) → module_at p.structure [] ≡ Some m → list_any (λ (q : PortView). bytes_eq q.name (port_of_origin p o)) m.ports ≡ false
      no-port o m e = none-any (λ (q : PortView). bytes_eq q.name (port_of_origin p o)) m.ports (λ q h. differs-own q.name (port_of_origin p o) (free-port p f m q (from-modules p.structure [] m e) h) refl)

      by : (o : ℕ) (k : Option ModuleView) → module_at p.structure [] ≡ k → not (has_port_name p.structure (port_of_origin p o)) ≡ true
      by o None e = ap (λ z. not (list_any (λ (q : PortView). bytes_eq q.name (port_of_origin p o)) (ports_of z))) e
      by o (Some m) e = ap (λ z. not (list_any (λ (q : PortView). bytes_eq q.name (port_of_origin p o)) (ports_of z))) e ∙ ap not (no-port o m e)

-- ---- which name it is: of a supply, of a control, of a chain, of an instance

abbrev pub group_of : ℕ → ℕ
group_of n = if (n == 118) || (n == 119) then 1 else if n == 99 then 2 else if n == 110 then 3 else 4

abbrev pub group : Name → ℕ
group n = group_of (letter n)

pub below : (n : Name) (j k : ℕ) → group n ≡ j → j < k → group n < k
below n j k e less = subst (λ z. z < k) (sym e) less

pub not-below : (j k : ℕ) → j < k → j ≡ k → ⊥
not-below j k less same = omega (arith, less, same)

pub in-other : (n : Name) (j k : ℕ) → group n ≡ j → group n ≡ k → j < k → ⊥
in-other n j k one two less = let same : j ≡ k = sym one ∙ two in omega (arith, same, less)

-- ---- supplies

pub of-when-is : {A : Type 0} (b : Bool) (x y : A) → when b x ≡ Some y → y ≡ x
of-when-is true x y e = cc
of-when-is false x y e = absurd cc

module _ (p : Project) (a : Additions) (x : Path) where
  -- a port of a supply, or of the output of a switch that goes out or in there
  pub SupplyName : ℕ → Origin → Name → Type 0
  SupplyName o FromPort n = n ≡ port_of_origin p o
  SupplyName o (FromSwitch input control high) n = (w : Switching) × (switch_of a.plan o ≡ Some w) × (n ≡ switch_net w) × ((goes_out a.uses w x || goes_in a.uses w x) ≡ true)

  pub by-way : (out into : Bool) (w : Switching) (q : PortView) → (if out then Some (scalar (switch_net w) Output) else when into (scalar (switch_net w) Input)) ≡ Some q → (q.name ≡ switch_net w) × ((out || into) ≡ true)
  by-way true into w q e = let is : q ≡ scalar (switch_net w) Output = cc in (ap (λ (r : PortView). r.name) is, refl)
  by-way false into w q e = (ap (λ (r : PortView). r.name) (of-when-is into (scalar (switch_net w) Input) q e), of-when into (scalar (switch_net w) Input) q e)

  pub supply-name : (o : ℕ) (k : Origin) (q : PortView) → port_by_kind p a.plan a.uses x o k ≡ Some q → SupplyName o k q.name
  unfolding SupplyName
  supply-name o FromPort q e = ap (λ (r : PortView). r.name) (of-when-is (has_port_of a.uses o x) (scalar (port_of_origin p o) Input) q e)
  supply-name o (FromSwitch input control high) q e =
      let found = then_is (λ (w : Switching). switch_port a.uses w x) (switch_of a.plan o) q e in
      let is = by-way (goes_out a.uses found.0 x) (goes_in a.uses found.0 x) found.0 q found.2 in
      (found.0, found.1, is.0, is.1)

  supply-group : (o : ℕ) (k : Origin) (n : Name) → SupplyName o k n → group n ≡ 1
  unfolding SupplyName
  supply-group o FromPort n e = ap group e
  supply-group o (FromSwitch input control high) n e = ap group e.2

  supply-own : (o : ℕ) (k : Origin) (n : Name) → SupplyName o k n → is_own n ≡ true
  unfolding SupplyName
  supply-own o FromPort n e = ap is_own e
  supply-own o (FromSwitch input control high) n e = ap is_own e.2

  abbrev pub port_names : List Name
  port_names = map (λ (q : PortView). q.name) (supply_ports p a.plan a.uses x)

  -- the origin of a supply port
  pub of-port : (n : Name) → IsIn n port_names → (z : ℕ × Origin) × IsIn z (numbered 0 (network_of p).origins) × SupplyName z.0 z.1 n
  of-port n h =
      let one = of-map (λ (q : PortView). q.name) n (supply_ports p a.plan a.uses x) h in
      let two = of-some (origin_port p a.plan a.uses x) one.0 (numbered 0 (network_of p).origins) one.1 in
      (two.0, two.1, subst (SupplyName two.0.0 two.0.1) (sym one.2) (supply-name two.0.0 two.0.1 one.0 two.2))

  pub port-own : (n : Name) → IsIn n port_names → is_own n ≡ true
  port-own n h = let it = of-port n h in supply-own it.0.0 it.0.1 n it.2

  pub port-group : (n : Name) → IsIn n port_names → group n ≡ 1
  port-group n h = let it = of-port n h in supply-group it.0.0 it.0.1 n it.2

  module _ (has : HasSupplyNames p a) where
    switch-number : (o r : ℕ) (v w : Switching) → switch_of a.plan o ≡ Some v → switch_of a.plan r ≡ Some w → switch_net v ≡ switch_net w → v.number ≡ w.number
    switch-number o r v w e g same = decimal_injective v.number w.number (has.numbers o v e) (has.numbers r w g) (ap (λ (z : Name). drop 5 z) same)

    origin-tells : (o r : ℕ) (k j : Origin) (m n : Name) → slice_get (network_of p).origins o ≡ Some k → slice_get (network_of p).origins r ≡ Some j → SupplyName o k m → SupplyName r j n → m ≡ n → o ≡ r
    unfolding SupplyName
    origin-tells o r FromPort FromPort m n e g one two same = has.ports o r e g (sym one ∙ (same ∙ two))
    origin-tells o r FromPort (FromSwitch input control high) m n e g one two same = let eq : ◌≡◌ {A = ℕ} 118 119 = sym (ap letter one) ∙ (ap letter same ∙ ap letter two.2) in absurd (omega (arith, eq))
    origin-tells o r (FromSwitch input control high) FromPort m n e g one two same = let eq : ◌≡◌ {A = ℕ} 119 118 = sym (ap letter one.2) ∙ (ap letter same ∙ ap letter two) in absurd (omega (arith, eq))
    origin-tells o r (FromSwitch i c h) (FromSwitch j d k) m n e g one two same =
        has.switches o r one.0 two.0 one.1 two.1 (switch-number o r one.0 two.0 one.1 two.1 (sym one.2 ∙ (same ∙ two.2)))

    pub supply-ports-apart : IsApart port_names
    supply-ports-apart =
        apart-some (origin_port p a.plan a.uses x) (λ (q : PortView). q.name) (numbered 0 (network_of p).origins) (numbered-apart 0 (network_of p).origins)
        (λ y z b c h g e f same.
        numbers-tell 0 (network_of p).origins y z h g
        (origin-tells y.0 z.0 y.1 z.1 b.name c.name (at-numbered (network_of p).origins y h) (at-numbered (network_of p).origins z g) (supply-name y.0 y.1 b e) (supply-name z.0 z.1 c f) same))

-- ---- wires of switches

module _ (p : Project) (l : Lists) (few : HasFewAdditions p l) (x : Path) where
  abbrev pub wire_names : List Name
  wire_names = map (λ (n : NetView). n.name) (supply_wires (plan p l) (additions p l).uses x)

  abbrev at_home : List Switching
  at_home = filter (λ (w : Switching). same_path (home (additions p l).uses w) x) (plan p l).switches

  pub of-wire : (n : Name) → IsIn n wire_names → (w : Switching) × IsIn w (plan p l).switches × (home (additions p l).uses w ≡ x) × (n ≡ switch_net w)
  of-wire n h =
      let one = of-map (λ (v : NetView). v.name) n (supply_wires (plan p l) (additions p l).uses x) h in
      let two = of-map (λ (w : Switching). wire (switch_net w)) one.0 at_home one.1 in
      let kept = of-filter (λ (w : Switching). same_path (home (additions p l).uses w) x) two.0 (plan p l).switches two.1 in
      (two.0, kept.0, path-true (home (additions p l).uses two.0) x kept.1, one.2 ∙ ap (λ (v : NetView). v.name) two.2)

  pub wire-group : (n : Name) → IsIn n wire_names → group n ≡ 1
  wire-group n h = ap group (of-wire n h).3

  number-tells-switch : (v w : Switching) → IsIn v (plan p l).switches → IsIn w (plan p l).switches → switch_net v ≡ switch_net w → v ≡ w
  number-tells-switch v w h g same =
      let one = switch-from p l v h in
      let two = switch-from p l w g in
      let bound = few.numbers in
      key-tells number_of (plan p l).switches (switch-numbers p l) v w h g
      (decimal_injective v.number w.number (omega (arith, one, bound)) (omega (arith, two, bound)) (ap (λ (z : Name). drop 5 z) same))

  wires-from : (ws : List Switching) → IsApart ws → ((w : Switching) → IsIn w ws → IsIn w (plan p l).switches) → IsApart (map (λ (n : NetView). n.name) (map (λ (w : Switching). wire (switch_net w)) ws))
  wires-from [] apart within = tt
  wires-from (w ∷ ws) apart within = (
    λ h.
        let one = of-map (λ (v : NetView). v.name) (switch_net w) (map (λ (v : Switching). wire (switch_net v)) ws) h in
        let two = of-map (λ (v : Switching). wire (switch_net v)) one.0 ws one.1 in
        let same = number-tells-switch w two.0 (within w (inl refl)) (within two.0 (inr two.1)) (one.2 ∙ ap (λ (v : NetView). v.name) two.2) in
        apart.0 (subst (λ z. IsIn z ws) (sym same) two.1),
    wires-from ws apart.1 (λ v h. within v (inr h)),
  )

  all-apart : (ws : List Switching) → IsApart (map number_of ws) → IsApart ws
  all-apart [] apart = tt
  all-apart (w ∷ ws) apart = (λ h. apart.0 (in-map number_of w ws h), all-apart ws apart.1)

  pub supply-wires-apart : IsApart wire_names
  supply-wires-apart =
      wires-from at_home (apart-filter (λ (w : Switching). same_path (home (additions p l).uses w) x) (plan p l).switches (all-apart (plan p l).switches (switch-numbers p l)))
      (λ w h. (of-filter (λ (v : Switching). same_path (home (additions p l).uses v) x) w (plan p l).switches h).0)

  -- a wire of a switch is no port
  no-both : (n : Name) (o : ℕ) (k : Origin) (w : Switching) → IsIn w (plan p l).switches → home (additions p l).uses w ≡ x → n ≡ switch_net w → SupplyName p (additions p l) x o k n → ⊥
  unfolding SupplyName
  no-both n o FromPort w h is e one = let eq : ◌≡◌ {A = ℕ} 118 119 = sym (ap letter one) ∙ ap letter e in omega (arith, eq)
  no-both n o (FromSwitch input control high) w h is e one =
      let same = number-tells-switch one.0 w (origin-of p l o one.0 one.1).0 h (sym one.2 ∙ e) in
      home-no-port (additions p l).uses w x is (ap (λ v. goes_out (additions p l).uses v x || goes_in (additions p l).uses v x) (sym same) ∙ one.3)

  pub wire-no-port : (n : Name) → IsIn n (port_names p (additions p l) x) → IsIn n wire_names → ⊥
  wire-no-port n h g =
      let port = of-port p (additions p l) x n h in
      let net = of-wire n g in
      no-both n port.0.0 port.0.1 net.0 net.1 net.2 net.3 port.2

-- ---- controls

module _ (all : List Part) (few : length all < 2 ^ 64) (x : Path) where
  abbrev pub here : List (ℕ × Part)
  here = parts_in all x

  abbrev pub control_port_names : List Name
  control_port_names = map (λ (q : PortView). q.name) (control_ports all x)

  abbrev pub control_wire_names : List Name
  control_wire_names = map (λ (n : NetView). n.name) (control_wires all x)

  small : (y : ℕ × Part) → IsIn y here → y.0 < 2 ^ 64
  small y h =
      let less = number-from 0 (filter (λ (t : Part). same_path t.path x) all) y h in
      let short = filter-short (λ (t : Part). same_path t.path x) all in
      let bound = less.1 in
      omega (arith, bound, short, few)

  tells : (y z : ℕ × Part) → IsIn y here → IsIn z here → control_net y.0 ≡ control_net z.0 → y ≡ z
  tells y z h g same = numbers-tell 0 (filter (λ (t : Part). same_path t.path x) all) y z h g (decimal_injective y.0 z.0 (small y h) (small z g) (ap (λ (z : Name). drop 5 z) same))

  kind-name : (k : ℕ) (kind : Kind) (q : PortView) → port_of_kind k kind ≡ Some q → (q.name ≡ control_net k) × (is_some (port_of_kind k kind) ≡ true)
  kind-name k PortOut q e = let is : q ≡ scalar (control_net k) Output = cc in (ap (λ (r : PortView). r.name) is, refl)
  kind-name k Between q e = absurd cc
  kind-name k PortIn q e = let is : q ≡ scalar (control_net k) Input = cc in (ap (λ (r : PortView). r.name) is, refl)

  pub of-control-port : (n : Name) → IsIn n control_port_names → (y : ℕ × Part) × IsIn y here × (n ≡ control_net y.0) × (is_some (port_of_kind y.0 y.1.kind) ≡ true)
  of-control-port n h =
      let one = of-map (λ (q : PortView). q.name) n (control_ports all x) h in
      let two = of-some control_port one.0 here one.1 in
      let is = kind-name two.0.0 two.0.1.kind one.0 two.2 in
      (two.0, two.1, one.2 ∙ is.0, is.1)

  pub of-control-wire : (n : Name) → IsIn n control_wire_names → (y : ℕ × Part) × IsIn y here × (n ≡ control_net y.0) × (is_between y.1 ≡ true)
  of-control-wire n h =
      let one = of-map (λ (v : NetView). v.name) n (control_wires all x) h in
      let two = of-map (λ (y : ℕ × Part). wire (control_net y.0)) one.0 (filter (λ (y : ℕ × Part). is_between y.1) here) one.1 in
      let kept = of-filter (λ (y : ℕ × Part). is_between y.1) two.0 here two.1 in
      (two.0, kept.0, one.2 ∙ ap (λ (v : NetView). v.name) two.2, kept.1)

  pub control-port-group : (n : Name) → IsIn n control_port_names → group n ≡ 2
  control-port-group n h = ap group (of-control-port n h).2

  pub control-wire-group : (n : Name) → IsIn n control_wire_names → group n ≡ 2
  control-wire-group n h = ap group (of-control-wire n h).2

  pub control-ports-apart : IsApart control_port_names
  control-ports-apart =
      apart-some control_port (λ (q : PortView). q.name) here (numbered-apart 0 (filter (λ (t : Part). same_path t.path x) all))
      (λ y z b c h g e f same. tells y z h g (sym (kind-name y.0 y.1.kind b e).0 ∙ (same ∙ (kind-name z.0 z.1.kind c f).0)))

  wires-from-parts : (ys : List (ℕ × Part)) → IsApart ys → ((y : ℕ × Part) → IsIn y ys → IsIn y here) → IsApart (map (λ (n : NetView). n.name) (map (λ (y : ℕ × Part). wire (control_net y.0)) ys))
  wires-from-parts [] apart within = tt
  wires-from-parts (y ∷ ys) apart within = (
    λ h.
        let one = of-map (λ (v : NetView). v.name) (control_net y.0) (map (λ (z : ℕ × Part). wire (control_net z.0)) ys) h in
        let two = of-map (λ (z : ℕ × Part). wire (control_net z.0)) one.0 ys one.1 in
        let same = tells y two.0 (within y (inl refl)) (within two.0 (inr two.1)) (one.2 ∙ ap (λ (v : NetView). v.name) two.2) in
        apart.0 (subst (λ z. IsIn z ys) (sym same) two.1),
    wires-from-parts ys apart.1 (λ z h. within z (inr h)),
  )

  pub control-wires-apart : IsApart control_wire_names
  control-wires-apart =
      wires-from-parts (filter (λ (y : ℕ × Part). is_between y.1) here) (apart-filter (λ (y : ℕ × Part). is_between y.1) here (numbered-apart 0 (filter (λ (t : Part). same_path t.path x) all)))
      (λ y h. (of-filter (λ (z : ℕ × Part). is_between z.1) y here h).0)

  no-kind : (k : ℕ) (kind : Kind) → is_some (port_of_kind k kind) ≡ true → same_part_kind kind Between ≡ true → ⊥
  no-kind k PortOut e g = false≢true g
  no-kind k Between e g = false≢true e
  no-kind k PortIn e g = false≢true g

  pub control-wire-no-port : (n : Name) → IsIn n control_port_names → IsIn n control_wire_names → ⊥
  control-wire-no-port n h g =
      let port = of-control-port n h in
      let net = of-control-wire n g in
      let same = tells port.0 net.0 port.1 net.1 (sym port.2 ∙ net.2) in
      no-kind port.0.0 port.0.1.kind port.3 (ap (λ (y : ℕ × Part). is_between y.1) same ∙ net.3)
