-- The ports, nets and instances of a written module have names apart, all together.
use Rattle.std.proofs.Common.{◌≡◌, ◌⊎◌, ◌≤◌, ◌<◌, ℕ, zero, suc, ◌+◌, Bool, true, false, not, ◌==◌, List, [], ◌∷◌, ◌++◌, length, map, Some, inl, inr, refl, sym, ap, ◌∙◌, subst, arith}
use Rattle.std.specs.Prelude.{filter, flat_map, IsTrue, if◌then◌else◌}
use Rattle.std.specs.List.{list_all}
use Rattle.std.proofs.lemmas.Bool.{false≢true}
use Rattle.lp_model.specs.NetlistView.{PortView, NetView, InstanceView, ModuleView}
use Rattle.lp_spec_design.specs.Keys.{Name, Path, same_path}
use Rattle.lp_spec_design.specs.Netlists.{module_at, upward}
use Rattle.lp_spec_design.specs.Domains.{BoundaryBit, boundary}
use Rattle.lp_spec_design.specs.Winners.{IsIn}
use Rattle.lp_spec_design.specs.Reads.{other, both, path-true}
use Rattle.lp_spec_design.proofs.Members.{IsApart, in-either, of-map, of-flat, of-filter, of-pairs}
use Rattle.lp_spec_realises.specs.Projects.{Project}
use Rattle.lp_spec_realises.specs.ProjectNetlists.{are_apart, names_in, has_names_apart}
use Rattle.lp_spec_realises.specs.Implements.{Lists}
use Rattle.lp_spec_faults.specs.Modules.{is_own}
use Rattle.lp_spec_written.specs.Places.{instances, plan, operator_names}
use Rattle.lp_spec_written.specs.Nets.{Stretch, stretches, stretches_from, stretches_in, operators_there, net_count, chain_net, nets_of, linked}
use Rattle.lp_spec_written.specs.Supplies.{wire, supply_wires}
use Rattle.lp_spec_written.specs.Routes.{control_ports, control_wires}
use Rattle.lp_spec_written.specs.Written.{Additions, additions, added_supply_ports, named_operators, written_instance, written_operator, written_operators, written_switch, written_switches, written_instances, written_module, written}
use Rattle.lp_spec_wired.specs.Laws.{HasNet}
use Rattle.lp_spec_written_at.specs.Sources.{IsFree, HasOriginNames, HasFewAdditions}
use Rattle.lp_spec_written_at.proofs.Lists.{of-all, all-of}
use Rattle.lp_spec_written_at.proofs.Modules.{from-modules, free-port, free-net, free-instance, is-added, written-name, cells-listed, of-written}
use Rattle.lp_spec_written_at.proofs.Picked.{map-append, filter-flat}
use Rattle.lp_spec_written_at.proofs.Instances.{apart-append, apart-flat, instances-apart}
use Rattle.lp_spec_written_at.proofs.Operators.{letter, operator_of}
use Rattle.lp_spec_written_at.proofs.Switches.{operator-letter}
use Rattle.lp_spec_written_at.proofs.ModuleNames.{module-names}
use Rattle.lp_spec_written_at.proofs.InstanceNames.{apart-names, map-twice, added}
use Rattle.lp_spec_written_at.proofs.Wiring.{nets-apart}
use Rattle.lp_spec_written_at.proofs.Weave.{names-apart, apart-filter, in-turns}
use Rattle.lp_spec_written_at.proofs.SupplyNames.{group, group_of, in-other, below, not-below, supply-names, port_names, port-own, of-wire, of-control-port, of-control-wire, port-group, supply-ports-apart, wire_names, wire-group, supply-wires-apart, wire-no-port, control_port_names, control_wire_names, control-port-group, control-wire-group, control-ports-apart, control-wires-apart, control-wire-no-port}

-- ---- the nets of chains

of-upward : (n from k : ℕ) → IsIn k (upward n from) → (from ≤ k) × (k < from + n)
of-upward zero from k h = absurd h
of-upward (suc n) from k (inl is) = (omega (arith, is), omega (arith, is))
of-upward (suc n) from k (inr h) = let more = of-upward n (from + 1) k h in let low = more.0 in let high = more.1 in (omega (arith, low), omega (arith, high))

module _ (p : Project) (l : Lists) (f : IsFree p) (few : HasFewAdditions p l) where
  abbrev bits : List BoundaryBit
  bits = boundary p.structure p.intent

  abbrev has_nets : Stretch → Bool
  has_nets s = not (s.count == 0)

  abbrev from : Path → ℕ → List BoundaryBit → List Stretch
  from x k bs = stretches_from p (plan p l) x k bs

  some-count : (n : ℕ) → not (n == 0) ≡ true → 0 < n
  some-count zero e = absurd (false≢true e)
  some-count (suc n) e = omega arith

  from-start : (x : Path) (bs : List BoundaryBit) (k : ℕ) (s : Stretch) → IsIn s (from x k bs) → (k ≤ s.start) × (s.path ≡ x)
  from-start x [] k s h = absurd h
  from-start x (b ∷ bs) k s (inl is) = let same : s.start ≡ k = ap (λ (t : Stretch). t.start) is in (omega (arith, same), ap (λ (t : Stretch). t.path) is)
  from-start x (b ∷ bs) k s (inr h) =
      let more = from-start x bs (k + net_count p.structure x b (length (operators_there (plan p l) x b))) s h in
      let low = more.0 in
      (omega (arith, low), more.1)

  -- a stretch that has nets begins before those behind it
  from-apart : (x : Path) (bs : List BoundaryBit) (k : ℕ) → IsApart (filter has_nets (from x k bs))
  from-apart x [] k = tt
  from-apart x (b ∷ bs) k = by (has_nets head) refl (from-apart x bs (k + head.count))
    where
      head : Stretch
      head = record {
        bit = b;
        path = x;
        operators = operators_there (plan p l) x b;
        start = k;
        count = net_count p.structure x b (length (operators_there (plan p l) x b));
      }

      rest : List Stretch
      rest = filter has_nets (from x (k + head.count) bs)

      absent : has_nets head ≡ true → IsIn head rest → ⊥
      absent some h =
          let later = from-start x bs (k + head.count) head (of-filter has_nets head (from x (k + head.count) bs) h).0 in
          let low = later.0 in
          let count = some-count head.count some in
          omega (arith, low, count)

      by : (c : Bool) → has_nets head ≡ c → IsApart rest → IsApart (if c then head ∷ rest else rest)
      by true e more = (absent e, more)
      by false e more = more

  all-apart : IsApart (stretches p (plan p l))
  all-apart =
      subst (λ ss. IsApart ss) (sym (filter-flat has_nets (λ x. from x 0 bits) (instances p)))
      (apart-flat (λ x. filter has_nets (from x 0 bits)) (instances p) (instances-apart p.structure f.apart) (λ x h. from-apart x bits 0)
      (λ x y s h g u v. sym (from-start x bits 0 s (of-filter has_nets s (from x 0 bits) u).0).1 ∙ (from-start y bits 0 s (of-filter has_nets s (from y 0 bits) v).0).1))

  module _ (x : Path) where
    abbrev here : List Stretch
    here = stretches_in (stretches p (plan p l)) x

    stands : (s : Stretch) → IsIn s here → IsIn s (stretches p (plan p l)) × (s.path ≡ x)
    stands s h = let kept = of-filter (λ (t : Stretch). same_path t.path x) s (stretches p (plan p l)) h in (kept.0, path-true s.path x kept.1)

    of-net : (s : Stretch) (n : Name) → IsIn n (nets_of s) → (k : ℕ) × HasNet s k × (n ≡ chain_net k)
    of-net s n h =
        let one = of-map chain_net n (upward s.count s.start) h in
        let at = of-upward s.count s.start one.0 one.1 in
        (one.0, record { above = at.0; below = at.1 }, one.2)

    is-one : (s t : Stretch) → IsIn s here → IsIn t here → (j k : ℕ) → HasNet s j → HasNet t k → chain_net j ≡ chain_net k → (s ≡ t) × (j ≡ k)
    is-one s t h g j k a b same =
        let one = stands s h in
        let two = stands t g in
        let low = a.below in
        let high = b.below in
        let limit = few.nets s one.0 in
        let bound = few.nets t two.0 in
        nets-apart p (plan p l) s t one.0 two.0 (one.1 ∙ sym two.1) j k a b (omega (arith, low, limit)) (omega (arith, high, bound)) same

    up-apart : (s : Stretch) → IsIn s here → (n k : ℕ) → s.start ≤ k → k + n ≤ s.start + s.count → IsApart (map chain_net (upward n k))
    up-apart s h zero k low high = tt
    up-apart s h (suc n) k low high = (
      λ g.
          let one = of-map chain_net (chain_net k) (upward n (k + 1)) g in
          let at = of-upward n (k + 1) one.0 one.1 in
          let least = at.0 in
          let most = at.1 in
          let same = (is-one s s h h k one.0 (record { above = low; below = omega (arith, high) }) (record { above = omega (arith, least, low); below = omega (arith, most, high) }) one.2).1 in
          omega (arith, least, same),
      up-apart s h n (k + 1) (omega (arith, low)) (omega (arith, high)),
    )

    nets-once : IsApart (flat_map nets_of here)
    nets-once =
        apart-flat nets_of here (apart-filter (λ (s : Stretch). same_path s.path x) (stretches p (plan p l)) all-apart)
        (λ s h. up-apart s h s.count s.start (omega arith) (omega arith))
        (λ s t n h g u v.
        let one = of-net s n u in
        let two = of-net t n v in
        (is-one s t h g one.0 two.0 one.1 two.1 (sym one.2 ∙ two.2)).0)

    net-group : (n : Name) → IsIn n (flat_map nets_of here) → group n ≡ 3
    net-group n h = let s = of-flat nets_of n here h in ap group (of-net s.0 n s.2).2

-- ---- the names of what is added

wire-names : (ns : List Name) → map (λ (v : NetView). v.name) (map wire ns) ≡ ns
wire-names [] = refl
wire-names (n ∷ ns) = ap (λ r. n ∷ r) (wire-names ns)

module _ (p : Project) (l : Lists) (f : IsFree p) (names : HasOriginNames p) (few : HasFewAdditions p l) (x : Path) (m : ModuleView) (e : module_at p.structure x ≡ Some m) where
  abbrev a : Additions
  a = additions p l

  abbrev ports : List Name
  ports = port_names p a x ++ control_port_names a.controls few.controls x

  abbrev chains : List Name
  chains = flat_map nets_of (stretches_in a.chains x)

  abbrev nets : List Name
  nets = wire_names p l few x ++ (chains ++ control_wire_names a.controls few.controls x)

  abbrev cells : List Name
  cells = map (λ (y : InstanceView). y.name) (written_operators p a x ++ written_switches p a x)

  ports-once : IsApart ports
  ports-once =
      apart-append (port_names p a x) (control_port_names a.controls few.controls x) (supply-ports-apart p a x (supply-names p l names few)) (control-ports-apart a.controls few.controls x)
      (λ n h g. in-other n 1 2 (port-group p a x n h) (control-port-group a.controls few.controls x n g) (omega arith))

  nets-apart-all : IsApart nets
  nets-apart-all =
      apart-append (wire_names p l few x) (chains ++ control_wire_names a.controls few.controls x) (supply-wires-apart p l few x)
      (apart-append chains (control_wire_names a.controls few.controls x) (nets-once p l f few x) (control-wires-apart a.controls few.controls x)
      (λ n h g. in-other n 2 3 (control-wire-group a.controls few.controls x n g) (net-group p l f few x n h) (omega arith)))
      (λ n h g. elim (in-either n chains (control_wire_names a.controls few.controls x) g) [
        | inl c ↦ in-other n 1 3 (wire-group p l few x n h) (net-group p l f few x n c) (omega arith)
        | inr c ↦ in-other n 1 2 (wire-group p l few x n h) (control-wire-group a.controls few.controls x n c) (omega arith)
      ])

  cells-once : IsApart cells
  cells-once = added p l f x m e (few.operators x) (few.switches x)

  by-letter : (n : Name) → (letter n ≡ 105) ⊎ (letter n ≡ 108) → group n ≡ 4
  by-letter n (inl is) = ap group_of is
  by-letter n (inr is) = ap group_of is

  cell-group : (n : Name) → IsIn n cells → group n ≡ 4
  cell-group n h =
      let one = of-map (λ (y : InstanceView). y.name) n (written_operators p a x ++ written_switches p a x) h in
      let own = elim (in-either one.0 (written_operators p a x) (written_switches p a x) one.1) as (λ _. group one.0.name ≡ 4) [ inl o ↦ operator one.0 o | inr s ↦ switch one.0 s ] in
      ap group one.2 ∙ own
    where
      operator : (y : InstanceView) → IsIn y (written_operators p a x) → group y.name ≡ 4
      operator y o =
          let made = of-map (written_operator p a x) y (named_operators (linked p a.chains x)) o in
          let pair = of-pairs made.0 (operator_names 0 0 (map operator_of (linked p a.chains x))) (linked p a.chains x) made.1 in
          ap (λ (z : InstanceView). group z.name) made.2 ∙ by-letter made.0.0 (operator-letter 0 0 (map operator_of (linked p a.chains x)) made.0.0 pair.0)

      switch : (y : InstanceView) → IsIn y (written_switches p a x) → group y.name ≡ 4
      switch y s = let made = of-map (written_switch p a x) y _ s in ap (λ (z : InstanceView). group z.name) made.2

  port-of : (n : Name) → IsIn n ports → group n < 4
  port-of n h = elim (in-either n (port_names p a x) (control_port_names a.controls few.controls x) h) [
    | inl s ↦ below n 1 4 (port-group p a x n s) (omega arith)
    | inr c ↦ below n 2 4 (control-port-group a.controls few.controls x n c) (omega arith)
  ]

  net-of : (n : Name) → IsIn n nets → group n < 4
  net-of n h = elim (in-either n (wire_names p l few x) (chains ++ control_wire_names a.controls few.controls x) h) [
    | inl s ↦ below n 1 4 (wire-group p l few x n s) (omega arith)
    | inr r ↦ elim (in-either n chains (control_wire_names a.controls few.controls x) r) [
      | inl c ↦ below n 3 4 (net-group p l f few x n c) (omega arith)
      | inr c ↦ below n 2 4 (control-wire-group a.controls few.controls x n c) (omega arith)
    ]
  ]

  port-no-net : (n : Name) → IsIn n ports → IsIn n nets → ⊥
  port-no-net n h g = elim (in-either n (port_names p a x) (control_port_names a.controls few.controls x) h) [ inl s ↦ supply s g | inr c ↦ control c g ]
    where
      supply : IsIn n (port_names p a x) → IsIn n nets → ⊥
      supply s r = elim (in-either n (wire_names p l few x) (chains ++ control_wire_names a.controls few.controls x) r) [
        | inl w ↦ wire-no-port p l few x n s w
        | inr q ↦ elim (in-either n chains (control_wire_names a.controls few.controls x) q) [
          | inl c ↦ in-other n 1 3 (port-group p a x n s) (net-group p l f few x n c) (omega arith)
          | inr c ↦ in-other n 1 2 (port-group p a x n s) (control-wire-group a.controls few.controls x n c) (omega arith)
        ]
      ]

      control : IsIn n (control_port_names a.controls few.controls x) → IsIn n nets → ⊥
      control s r = elim (in-either n (wire_names p l few x) (chains ++ control_wire_names a.controls few.controls x) r) [
        | inl w ↦ in-other n 1 2 (wire-group p l few x n w) (control-port-group a.controls few.controls x n s) (omega arith)
        | inr q ↦ elim (in-either n chains (control_wire_names a.controls few.controls x) q) [
          | inl c ↦ in-other n 2 3 (control-port-group a.controls few.controls x n s) (net-group p l f few x n c) (omega arith)
          | inr c ↦ control-wire-no-port a.controls few.controls x n s c
        ]
      ]

  added-once : IsApart (ports ++ (nets ++ cells))
  added-once =
      apart-append ports (nets ++ cells) ports-once
      (apart-append nets cells nets-apart-all cells-once (λ n h g. not-below (group n) 4 (net-of n h) (cell-group n g)))
      (λ n h g. elim (in-either n nets cells g) [
        | inl w ↦ port-no-net n h w
        | inr c ↦ not-below (group n) 4 (port-of n h) (cell-group n c)
      ])

  -- ---- added names begin as such, those of the source do not

  own-group : (n : Name) → IsIn n (ports ++ (nets ++ cells)) → is_own n ≡ true
  own-group n h = elim (in-either n ports (nets ++ cells) h) [
    | inl q ↦ port q
    | inr r ↦ elim (in-either n nets cells r) [ inl w ↦ net w | inr c ↦ cell c ]
  ]
    where
      port : IsIn n ports → is_own n ≡ true
      port q = elim (in-either n (port_names p a x) (control_port_names a.controls few.controls x) q) [
        | inl s ↦ port-own p a x n s
        | inr c ↦ ap is_own (of-control-port a.controls few.controls x n c).2
      ]

      net : IsIn n nets → is_own n ≡ true
      net w = elim (in-either n (wire_names p l few x) (chains ++ control_wire_names a.controls few.controls x) w) [
        | inl s ↦ ap is_own (of-wire p l few x n s).3
        | inr q ↦ elim (in-either n chains (control_wire_names a.controls few.controls x) q) [
          | inl c ↦ let s = of-flat nets_of n (stretches_in a.chains x) c in ap is_own (of-net p l f few x s.0 n s.2).2
          | inr c ↦ ap is_own (of-control-wire a.controls few.controls x n c).2
        ]
      ]

      cell : IsIn n cells → is_own n ≡ true
      cell c =
          let one = of-map (λ (y : InstanceView). y.name) n (written_operators p a x ++ written_switches p a x) c in
          ap is_own one.2 ∙ (is-added p a f (cells-listed p l) x one.0 one.1).own

  source-free : (n : Name) → IsIn n (names_in m) → is_own n ≡ false
  source-free n h =
      let there = from-modules p.structure x m e in
      elim (in-either n (map (λ (q : PortView). q.name) m.ports) (map (λ (v : NetView). v.name) m.nets ++ map (λ (y : InstanceView). y.name) m.instances) h) [
        | inl q ↦ let one = of-map (λ (r : PortView). r.name) n m.ports q in ap is_own one.2 ∙ free-port p f m one.0 there one.1
        | inr r ↦ elim (in-either n (map (λ (v : NetView). v.name) m.nets) (map (λ (y : InstanceView). y.name) m.instances) r) [
          | inl w ↦ let one = of-map (λ (v : NetView). v.name) n m.nets w in ap is_own one.2 ∙ free-net p f m one.0 there one.1
          | inr c ↦ let one = of-map (λ (y : InstanceView). y.name) n m.instances c in ap is_own one.2 ∙ free-instance p a f (cells-listed p l) m one.0 there one.1
        ]
      ]

  source-once : IsApart (names_in m)
  source-once =
      names-apart (names_in m)
      (of-all (λ (k : ModuleView). are_apart (names_in k)) m p.structure.modules (other (are_apart (map (λ (k : ModuleView). k.name) p.structure.modules)) _ f.apart) (from-modules p.structure x m e))

  -- ---- all together

  port-list : map (λ (q : PortView). q.name) (m.ports ++ (added_supply_ports p a x ++ control_ports a.controls x)) ≡ map (λ (q : PortView). q.name) m.ports ++ ports
  port-list =
      map-append (λ (q : PortView). q.name) m.ports (added_supply_ports p a x ++ control_ports a.controls x)
      ∙ ap (λ r. map (λ (q : PortView). q.name) m.ports ++ r) (map-append (λ (q : PortView). q.name) (added_supply_ports p a x) (control_ports a.controls x))

  net-list : map (λ (v : NetView). v.name) (m.nets ++ (supply_wires a.plan a.uses x ++ (map wire chains ++ control_wires a.controls x))) ≡ map (λ (v : NetView). v.name) m.nets ++ nets
  net-list =
      map-append (λ (v : NetView). v.name) m.nets (supply_wires a.plan a.uses x ++ (map wire chains ++ control_wires a.controls x))
      ∙ ap (λ r. map (λ (v : NetView). v.name) m.nets ++ r)
      (map-append (λ (v : NetView). v.name) (supply_wires a.plan a.uses x) (map wire chains ++ control_wires a.controls x)
      ∙ ap (λ r. wire_names p l few x ++ r)
      (map-append (λ (v : NetView). v.name) (map wire chains) (control_wires a.controls x)
      ∙ ap (λ r. r ++ control_wire_names a.controls few.controls x) (wire-names chains)))

  instance-list : map (λ (y : InstanceView). y.name) (written_instances p a x m) ≡ map (λ (y : InstanceView). y.name) m.instances ++ cells
  instance-list =
      map-append (λ (y : InstanceView). y.name) (map (written_instance p a x) m.instances) (written_operators p a x ++ written_switches p a x)
      ∙ ap (λ r. r ++ cells) (map-twice (λ (y : InstanceView). y.name) (written_instance p a x) (λ (y : InstanceView). y.name) (written-name p a f (cells-listed p l) x) m.instances)

  abbrev together : List Name → List Name → List Name → List Name
  together one two three = one ++ (two ++ three)

  name-list : names_in (written_module p a x m) ≡ (map (λ (q : PortView). q.name) m.ports ++ ports) ++ ((map (λ (v : NetView). v.name) m.nets ++ nets) ++ (map (λ (y : InstanceView). y.name) m.instances ++ cells))
  name-list =
      ap (λ r. together r (map (λ (v : NetView). v.name) (written_module p a x m).nets) (map (λ (y : InstanceView). y.name) (written_module p a x m).instances)) port-list
      ∙ (ap (λ r. together (map (λ (q : PortView). q.name) m.ports ++ ports) r (map (λ (y : InstanceView). y.name) (written_module p a x m).instances)) net-list
      ∙ ap (λ r. together (map (λ (q : PortView). q.name) m.ports ++ ports) (map (λ (v : NetView). v.name) m.nets ++ nets) r) instance-list)

  pub parts-apart : are_apart (names_in (written_module p (additions p l) x m)) ≡ true
  parts-apart =
      apart-names (names_in (written_module p a x m))
      (subst (λ ns. IsApart ns) (sym name-list)
      (in-turns (map (λ (q : PortView). q.name) m.ports) (map (λ (v : NetView). v.name) m.nets) (map (λ (y : InstanceView). y.name) m.instances) ports nets cells source-once added-once
      (λ n h g. false≢true (sym (source-free n h) ∙ own-group n g))))

pub part-names : (p : Project) (l : Lists) → IsFree p → HasOriginNames p → HasFewAdditions p l → (x : Path) (m : ModuleView) → module_at p.structure x ≡ Some m → are_apart (names_in (written_module p (additions p l) x m)) ≡ true
part-names p l f names few x m e = parts-apart p l f names few x m e

-- ---- all modules

pub written-names : (p : Project) (l : Lists) → IsFree p → HasOriginNames p → HasFewAdditions p l → IsTrue (has_names_apart (written p l))
written-names p l f names few =
    both (are_apart (map (λ (m : ModuleView). m.name) (written p l))) (list_all (λ m. are_apart (names_in m)) (written p l)) (module-names p l f)
    (all-of (λ m. are_apart (names_in m)) (written p l) (λ k h.
    let of = of-written p (additions p l) f (cells-listed p l) k h in
    ap (λ z. are_apart (names_in z)) of.is ∙ parts-apart p l f names few of.path of.source of.at))
