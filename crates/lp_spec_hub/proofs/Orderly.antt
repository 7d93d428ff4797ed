-- Once the whole plan is done, all wires begin where they should.
use Rattle.std.proofs.Common.{◌≡◌, ◌⊎◌, ℕ, zero, suc, ◌+◌, Bool, true, false, cond, not, ◌==◌, List, [], ◌∷◌, map, Option, Some, None, inl, inr, refl, sym, ap, ◌∙◌, subst, arith}
use Rattle.std.specs.Prelude.{is_some, slice_get, option_and_then, filter}
use Rattle.std.proofs.lemmas.Bool.{true≢false, false≢true, eq-eqb}
use Rattle.lp_model.specs.LibraryView.{CellView}
use Rattle.lp_spec_design.specs.Keys.{Node, Way, same_way}
use Rattle.lp_spec_design.specs.Netlists.{Structure, first}
use Rattle.lp_spec_design.specs.Instances.{Placed}
use Rattle.lp_spec_design.specs.Graph.{numbered, and_more, some_of}
use Rattle.lp_spec_design.specs.Intents.{Origin, FromPort, FromSwitch}
use Rattle.lp_spec_design.specs.Domains.{BoundaryBit, boundary, way_of, node_before}
use Rattle.lp_spec_design.specs.Winners.{IsIn}
use Rattle.lp_spec_design.specs.Chains.{bit_of_way}
use Rattle.lp_spec_design.specs.Registers.{retention}
use Rattle.lp_spec_design.proofs.Sources.{first_in}
use Rattle.lp_spec_design.proofs.Members.{in-right, in-map}
use Rattle.lp_spec_realises.specs.Projects.{Project, network_of}
use Rattle.lp_spec_realises.specs.Operators.{all_operators, SwitchAt, switches_among, all_switches, Placement}
use Rattle.lp_spec_realises.specs.Ends.{intended}
use Rattle.lp_spec_realises.specs.Realises.{data_intended, origin_end}
use Rattle.lp_spec_realises.specs.Implements.{Lists, switch_chosen}
use Rattle.lp_spec_faults.specs.Lines.{first_of}
use Rattle.lp_spec_faults.specs.Strategies.{registers}
use Rattle.lp_spec_faults.specs.Readings.{OfOperator, OfRegister, OfSwitch, lacks_cell, no_cell}
use Rattle.lp_spec_written.specs.Places.{Standing, Switching, cell_numbered, switching, plan}
use Rattle.lp_spec_written.specs.Supplies.{Use, uses}
use Rattle.lp_spec_written.specs.Routes.{Route, routes, parts}
use Rattle.lp_spec_hub.specs.Spots.{OfNode, Carried, all_done, on_way}
use Rattle.lp_spec_hub.specs.Drives.{start_of, comes_from, control_spot, read_by}
use Rattle.lp_spec_hub.specs.Begins.{begin_of, data_begin, end_of}
use Rattle.lp_spec_hub.specs.Entries.{is_control, HasAll, HasItsCells, HasWaysApart, IsInFlow, IsNumber, origin_begin, is_there}
use Rattle.lp_spec_hub.specs.Whole.{IsOrderly, BeginsAt, BeginAsTheyShould}
use Rattle.lp_spec_hub.proofs.Ends.{nodes-end, data-ends}
use Rattle.lp_spec_hub.proofs.Routed.{control-ends}
use Rattle.lp_spec_hub.proofs.Routes.{none-sound, routes-sound, routes-come}
use Rattle.lp_spec_hub.proofs.Supplied.{supply-ends, origin-as-intended}
use Rattle.lp_spec_hub.proofs.Intended.{as-intended, data-intended}
use Rattle.lp_spec_hub.proofs.Whole.{numbers, has-all}
use Rattle.lp_spec_hub.proofs.Flow.{in-plan, none-first}
use Rattle.lp_spec_hub.proofs.Cells.{cells-there, choice-there, then-some}
use Rattle.lp_spec_hub.proofs.Ways.{way-true, from-bits}
use Rattle.lp_spec_hub.proofs.Apart.{ways-apart}

-- ---- switches

in-switches : (k : ℕ) (os : List Origin) (o : ℕ) (input : ℕ) (control : Node) (high : Bool) → slice_get os o ≡ Some (FromSwitch input control high) → IsIn (record { origin = k + o; input = input; control = control; high = high }) (switches_among (numbered k os))
in-switches k [] o input control high e = absurd cc
in-switches k (FromPort ∷ os) zero input control high e = absurd cc
in-switches k (FromPort ∷ os) (suc o) input control high e =
    let number : (k + 1) + o ≡ k + suc o = omega arith in
    subst (λ n. IsIn (record { origin = n; input = input; control = control; high = high }) (switches_among (numbered (k + 1) os))) number (in-switches (k + 1) os o input control high e)
in-switches k (FromSwitch i c h ∷ os) zero input control high e =
    let number : k + 0 ≡ k = omega arith in
    let one : i ≡ input = cc in
    let two : c ≡ control = cc in
    let three : h ≡ high = cc in
    inl (λ r. record { origin = number r; input = sym one r; control = sym two r; high = sym three r })
in-switches k (FromSwitch i c h ∷ os) (suc o) input control high e =
    let number : (k + 1) + o ≡ k + suc o = omega arith in
    inr (subst (λ n. IsIn (record { origin = n; input = input; control = control; high = high }) (switches_among (numbered (k + 1) os))) number (in-switches (k + 1) os o input control high e))

module _ (p : Project) (l : Lists) where
  switching-asked : (x : ℕ × SwitchAt) (s : Switching) → switching p l x ≡ Some s → s.asked ≡ x.1
  switching-asked x s e = by (cell_numbered p (switch_chosen p l x.1)) e
    where
      inside : {a b : Switching} → Some a ≡ Some b → a ≡ b
      inside e = cc

      by : (c : Option CellView) → option_and_then (λ c. Some (record { asked = x.1; number = x.0; path = l.scope_of_switch x.1.origin; cell = c })) c ≡ Some s → s.asked ≡ x.1
      by None e = absurd cc
      by (Some c) e = ap (λ (t : Switching). t.asked) (sym (inside e))

  found-switch : (k : ℕ) (xs : List SwitchAt) (x : SwitchAt) → IsIn x xs → ((n : ℕ) (y : SwitchAt) → IsIn y xs → is_some (switching p l (n, y)) ≡ true)
      → is_some (first (λ (w : Switching). w.asked.origin == x.origin) (some_of (switching p l) (numbered k xs))) ≡ true
  found-switch k [] x h all = absurd h
  found-switch k (y ∷ ys) x h all = by (switching p l (k, y)) refl (all k y (inl refl)) h (λ g. found-switch (k + 1) ys x g (λ n z there. all n z (inr there)))
    where
      test : (b : Bool) (s : Switching) → (b ≡ false → is_some (first (λ (w : Switching). w.asked.origin == x.origin) (some_of (switching p l) (numbered (k + 1) ys))) ≡ true)
          → is_some (cond b (Some s) (first (λ (w : Switching). w.asked.origin == x.origin) (some_of (switching p l) (numbered (k + 1) ys)))) ≡ true
      test true s more = refl
      test false s more = more refl

      by : (s : Option Switching) → switching p l (k, y) ≡ s → is_some s ≡ true → (x ≡ y) ⊎ IsIn x ys
          → (IsIn x ys → is_some (first (λ (w : Switching). w.asked.origin == x.origin) (some_of (switching p l) (numbered (k + 1) ys))) ≡ true)
          → is_some (first (λ (w : Switching). w.asked.origin == x.origin) (and_more s (some_of (switching p l) (numbered (k + 1) ys)))) ≡ true
      by None e there g more = absurd (false≢true there)
      by (Some s) e there (inl is) more =
          test (s.asked.origin == x.origin) s (λ differ. absurd (true≢false (sym (eq-eqb s.asked.origin x.origin (ap (λ (z : SwitchAt). z.origin) (switching-asked (k, y) s e ∙ sym is))) ∙ differ)))
      by (Some s) e there (inr g) more = test (s.asked.origin == x.origin) s (λ differ. more g)

  module _ (none : first_of (no_cell p l) ≡ None) where
    has-switch-cell : (x : SwitchAt) (c : Option ℕ) → switch_chosen p l x ≡ c → not (is_some c) ≡ false → is_some (cell_numbered p c) ≡ true
    has-switch-cell x None e h = absurd (true≢false h)
    has-switch-cell x (Some n) e h = choice-there _ p.structure.cells n e

    switch-cells : (n : ℕ) (x : SwitchAt) → IsIn x (all_switches p) → is_some (switching p l (n, x)) ≡ true
    switch-cells n x h =
        let lacks : lacks_cell p l (OfSwitch x) ≡ false = none-first (no_cell p l).test (no_cell p l).places none (OfSwitch x)
        (in-right (OfSwitch x) (map (λ o. OfOperator o) (all_operators p)) _ (in-right (OfSwitch x) (map (λ a. OfRegister a) (filter (λ (a : Placed). is_some (retention p.intent a.path a.instance)) (registers p))) _ (in-map (λ y. OfSwitch y) x (all_switches p) h))) in
        then-some p l (λ (c : CellView). record { asked = x; number = n; path = l.scope_of_switch x.origin; cell = c }) (cell_numbered p (switch_chosen p l x)) (has-switch-cell x (switch_chosen p l x) refl lacks)

    origin-there : (o : ℕ) (origin : Origin) → slice_get (network_of p).origins o ≡ Some origin → is_there (plan p l) o origin ≡ true
    origin-there o FromPort e = refl
    origin-there o (FromSwitch input control high) e =
        let number : 0 + o ≡ o = omega arith in
        let there = subst (λ n. IsIn (record { origin = n; input = input; control = control; high = high }) (all_switches p)) number (in-switches 0 (network_of p).origins o input control high e) in
        found-switch 0 (all_switches p) (record { origin = o; input = input; control = control; high = high }) there switch-cells

-- ---- the whole plan

module _ (p : Project) (l : Lists) (orderly : IsOrderly p l) (w : Structure) (at : Placement) where
  apart : HasWaysApart p
  apart = ways-apart p orderly.names

  cells : HasItsCells p l
  cells = cells-there p l orderly.cells

  whole : HasAll p (plan p l).operators
  whole = has-all p l apart cells (from-bits p orderly.names)

  flows : IsInFlow (plan p l).operators
  flows = in-plan p l orderly.locations apart cells

  node-at : (k : Node) → BeginsAt p (all_done p l) w at (OfNode k) (intended p w at k)
  node-at k = record {
    begin = begin_of p.structure (plan p l).operators k;
    ends = nodes-end p (all_done p l) (comes_from p) orderly.fuel k;
    is = as-intended p w at (plan p l).operators whole k;
  }

  comes-is : (v : Way) (b : BoundaryBit) → bit_of_way p.structure p.intent v ≡ Some b → comes_from p v ≡ node_before p.structure b
  comes-is v b e = ap (start_of p.structure) e

  -- the way that is asked for is the one that is meant
  data-is : (v : Way) (b : BoundaryBit) (k : ℕ) (o : Standing) → bit_of_way p.structure p.intent v ≡ Some b → IsNumber p b k o
      → end_of p w at (data_begin p.structure (plan p l).operators v (comes_from p v) k) ≡ data_intended p w at o.asked
  data-is v b k o e n =
      let way : v ≡ way_of b = sym (way-true (way_of b) v (first_in (λ (c : BoundaryBit). same_way (way_of c) v) (boundary p.structure p.intent) b e).1) in
      let asked : record { bit = b; number = k; operator = o.asked.operator } ≡ o.asked = λ r. record { bit = sym n.bit r; number = sym n.number r; operator = o.asked.operator } in
      ap (λ u. end_of p w at (data_begin p.structure (plan p l).operators u (comes_from p v) k)) way
      ∙ (ap (λ j. end_of p w at (data_begin p.structure (plan p l).operators (way_of b) j k)) (comes-is v b e)
      ∙ (data-intended p w at (plan p l).operators whole (record { bit = b; number = k; operator = o.asked.operator }) ∙ ap (data_intended p w at) asked))

  reading-at : (v : Way) (b : BoundaryBit) (k : ℕ) (o : Standing) → bit_of_way p.structure p.intent v ≡ Some b → slice_get (on_way (plan p l).operators v) k ≡ Some o
      → BeginsAt p (all_done p l) w at (read_by v (comes_from p v) k o) (data_intended p w at o.asked)
  reading-at v b k o e is = record {
    begin = data_begin p.structure (plan p l).operators v (comes_from p v) k;
    ends = data-ends p (all_done p l) (comes_from p) orderly.fuel flows v k o is;
    is = data-is v b k o e (numbers p l apart cells v b e k o is);
  }

  control-at : (r : Route) → IsIn r (routes p (plan p l)) → is_control r.0 ≡ true → BeginsAt p (all_done p l) w at (control_spot (parts p (plan p l)) r.0 r.1) (intended p w at r.0)
  control-at r h control = record {
    begin = begin_of p.structure (plan p l).operators r.0;
    ends =
        control-ends p (all_done p l) (comes_from p) (routes-sound (routes p (plan p l)) [] none-sound) r.0 (begin_of p.structure (plan p l).operators r.0) (nodes-end p (all_done p l) (comes_from p) orderly.fuel r.0) r.1
        (routes-come (routes p (plan p l)) [] none-sound r h control);
    is = as-intended p w at (plan p l).operators whole r.0;
  }

  supply-at : (u : Use) (origin : Origin) → IsIn u (uses p (plan p l)) → slice_get (network_of p).origins u.1 ≡ Some origin → BeginsAt p (all_done p l) w at (Carried u.1 u.0) (origin_end p w at u.1)
  supply-at u origin h is = record {
    begin = origin_begin u.1 origin;
    ends = supply-ends p (all_done p l) (comes_from p) (uses p (plan p l)) refl u.1 u.0 origin is (origin-there p l orderly.cells u.1 origin is) h;
    is = origin-as-intended p w at u.1 origin is;
  }

  pub should : BeginAsTheyShould p l w at
  should = record { nodes = node-at; readings = reading-at; controls = control-at; supplies = supply-at }
