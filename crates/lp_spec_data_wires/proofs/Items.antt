-- The one source of a net bit of an instance, by the item of its module from which it comes.
use Rattle.std.proofs.Common.{◌≡◌, ℕ, Bool, true, false, not, ◌&&◌, List, [], ◌∷◌, ◌++◌, Option, Some, None, inl, inr, refl, sym, ◌∙◌, ap, subst}
use Rattle.std.specs.Prelude.{bytes_eq, filter, flat_map, is_some}
use Rattle.std.proofs.lemmas.Bool.{both_ways, not-true}
use Rattle.lp_model.specs.NetlistView.{BitView, PortView, InstanceView, AssignView, ModuleView}
use Rattle.lp_model.specs.LibraryView.{CellView}
use Rattle.lp_spec_design.specs.Keys.{Name, Path, Node, Inner, Way, PortBit, AssignBit, Source, From, same_node}
use Rattle.lp_spec_design.specs.Netlists.{Structure, module_named, cell_named, module_at, node_of, indices, connected, is_input}
use Rattle.lp_spec_design.specs.Graph.{pairs, when, numbered, from_port, ports_in, joined_inside, from_target, from_one, from_assign, sources_of, source_of}
use Rattle.lp_spec_design.specs.Reads.{node-true, name-true, one, other}
use Rattle.lp_spec_design.specs.Winners.{IsIn}
use Rattle.lp_spec_design.proofs.Members.{in-left, in-either, in-flat, of-flat, of-filter, of-some, of-when}
use Rattle.lp_spec_design.proofs.Looped.{source_by, head_of}
use Rattle.lp_spec_realises.specs.Projects.{Project}
use Rattle.lp_spec_written.specs.Written.{Additions}
use Rattle.lp_spec_driven.specs.Sound.{IsProper}
use Rattle.lp_spec_driven.specs.Laws.{HasOutput}
use Rattle.lp_spec_driven.proofs.Sources.{of-when-is, the-source, in-by, FromPin, cell-source}

-- ---- the items

-- from an input port of the instance: the way in there comes first
pub record OfPort (s : Structure) (x : Path) (m : ModuleView) (n : Name) (i : Option ℕ) (z : Source) : Type 0 where
  pub port : PortView
  pub listed : IsIn port m.ports
  pub input : is_input port ≡ true
  pub named : port.name ≡ n
  pub more : List Source
  pub is : from_port s x n i port ≡ z ∷ more

-- from an output pin of a cell instance
pub record OfCell (s : Structure) (x : Path) (m : ModuleView) (n : Name) (i : Option ℕ) (z : Source) : Type 0 where
  pub instance : InstanceView
  pub cell : CellView
  pub listed : IsIn instance m.instances
  pub target : cell_named s instance.target ≡ Some cell
  pub pin : FromPin x n i instance cell z

-- from an output port of a module instance
pub record OfOutput (p : Project) (x : Path) (m : ModuleView) (n : Name) (i : Option ℕ) (z : Source) : Type 0 where
  pub instance : InstanceView
  pub port : PortView
  pub index : Option ℕ
  pub bit : BitView
  pub has : HasOutput p x m instance port index bit
  pub joins : node_of x bit ≡ Inner n i x
  pub is : z ≡ From (PortBit (instance.name ∷ x) port.name index) (Inner port.name index (instance.name ∷ x))

-- from an assign
pub record OfAssign (x : Path) (m : ModuleView) (n : Name) (i : Option ℕ) (z : Source) : Type 0 where
  pub number : ℕ
  pub place : ℕ
  pub assign : AssignView
  pub bits : BitView × BitView
  pub listed : IsIn (number, assign) (numbered 0 m.assigns)
  pub at : IsIn (place, bits) (numbered 0 (pairs assign.left assign.right))
  pub joins : node_of x bits.0 ≡ Inner n i x
  pub is : z ≡ From (AssignBit x number place) (node_of x bits.1)

pub data Item (p : Project) (x : Path) (m : ModuleView) (n : Name) (i : Option ℕ) (z : Source) : Type 0 where
  ByPort : OfPort p.structure x m n i z → Item p x m n i z
  ByCell : OfCell p.structure x m n i z → Item p x m n i z
  ByOutput : OfOutput p x m n i z → Item p x m n i z
  ByAssign : OfAssign x m n i z → Item p x m n i z

head-in : (xs : List Source) (z : Source) → head_of xs ≡ Some z → IsIn z xs
head-in [] z e = absurd cc
head-in (y ∷ xs) z e = let is : z ≡ y = cc in inl is

the-same : {A : Type 0} (x y : A) → Some x ≡ Some y → x ≡ y
the-same x y e = cc

module _ (p : Project) (a : Additions) (from : Way → Node) (proper : IsProper p a from) (x : Path) (m : ModuleView) (e : module_at p.structure x ≡ Some m) (n : Name) (i : Option ℕ) (z : Source) (source : source_of p.structure (Inner n i x) ≡ Some z) where
  abbrev s : Structure
  s = p.structure

  abbrev others : List Source
  others = flat_map (from_one s x n i) m.instances ++ flat_map (from_assign x n i) (numbered 0 m.assigns)

  among : IsIn z (ports_in s x n i m ++ others)
  among = head-in (ports_in s x n i m ++ others) z (sym (source_by s (Inner n i x) (ports_in s x n i m ++ others) (in-by s x n i m e)) ∙ source)

  -- ---- an input port

  abbrev its_name : PortView → Bool
  its_name q = bytes_eq q.name n && is_input q

  port-head : (q : PortView) → IsIn q (filter its_name m.ports) → (ys : List Source) → from_port s x n i q ≡ ys → IsIn z ys → (more : List Source) × (from_port s x n i q ≡ z ∷ more)
  port-head q q_in [] list h = absurd h
  port-head q q_in (y ∷ more) list h =
      let y_in : IsIn y (sources_of s (Inner n i x)) =
      subst (λ l. IsIn y l) (sym (in-by s x n i m e))
      (in-left y (ports_in s x n i m) others (in-flat (from_port s x n i) q y (filter its_name m.ports) q_in (subst (λ l. IsIn y l) (sym list) (inl refl)))) in
      let same : y ≡ z = the-same y z (sym (the-source s (Inner n i x) y (proper.plain.single (Inner n i x)) y_in) ∙ source) in
      (more, list ∙ ap (λ u. u ∷ more) same)

  by-port : IsIn z (ports_in s x n i m) → Item p x m n i z
  by-port h =
      let found = of-flat (from_port s x n i) z (filter its_name m.ports) h in
      let kept = of-filter its_name found.0 m.ports found.1 in
      let head = port-head found.0 found.1 (from_port s x n i found.0) refl found.2 in
      ByPort (record {
        port = found.0;
        listed = kept.0;
        input = other (bytes_eq found.0.name n) _ kept.1;
        named = name-true found.0.name n (one (bytes_eq found.0.name n) _ kept.1);
        more = head.0;
        is = head.1;
      })

  -- ---- an instance

  by-output : (y : InstanceView) → IsIn y m.instances → (inner : ModuleView) → module_named s y.target ≡ Some inner → (r : PortView) → IsIn r inner.ports → is_input r ≡ false → IsIn z (joined_inside x n i y inner r) → Item p x m n i z
  by-output y y_in inner target r r_in output h =
      let found = of-some (λ (u : Option ℕ × BitView). when (same_node (node_of x u.1) (Inner n i x)) (From (PortBit (y.name ∷ x) r.name u.0) (Inner r.name u.0 (y.name ∷ x)))) z (pairs (indices r.range) (connected inner.ports r.name y.connections)) h in
      ByOutput (record {
        instance = y;
        port = r;
        index = found.0.0;
        bit = found.0.1;
        has = record { at = e; listed = y_in; inner = inner; target = target; port = r_in; output = output; pair = found.1 };
        joins = node-true (node_of x found.0.1) (Inner n i x) (of-when (same_node (node_of x found.0.1) (Inner n i x)) (From (PortBit (y.name ∷ x) r.name found.0.0) (Inner r.name found.0.0 (y.name ∷ x))) z found.2);
        is = of-when-is (same_node (node_of x found.0.1) (Inner n i x)) (From (PortBit (y.name ∷ x) r.name found.0.0) (Inner r.name found.0.0 (y.name ∷ x))) z found.2;
      })

  by-target : (y : InstanceView) → IsIn y m.instances → (o : Option ModuleView) (c : Option CellView) → module_named s y.target ≡ o → cell_named s y.target ≡ c → IsIn z (from_target x n i y o c) → Item p x m n i z
  by-target y y_in (Some inner) c t k h =
      let port = of-flat (joined_inside x n i y inner) z (filter (λ (q : PortView). not (is_input q)) inner.ports) h in
      let kept = of-filter (λ (q : PortView). not (is_input q)) port.0 inner.ports port.1 in
      by-output y y_in inner t port.0 kept.0 (not-true (is_input port.0) kept.1) port.2
  by-target y y_in None (Some c) t k h = elim (cell-source x n i y c z h) [
    | inl pin ↦ ByCell (record { instance = y; cell = c; listed = y_in; target = k; pin = pin })
    | inr pg ↦ absurd (both_ways (is_some pg.pin.switched) (proper.fit.sources x m y c e y_in k pg.pin pg.listed) pg.switched)
  ]
  by-target y y_in None None t k h = absurd h

  -- ---- an assign

  by-assign : (u : ℕ × AssignView) → IsIn u (numbered 0 m.assigns) → IsIn z (from_assign x n i u) → Item p x m n i z
  by-assign u u_in h =
      let found = of-some (λ (pair : ℕ × (BitView × BitView)). when (same_node (node_of x pair.1.0) (Inner n i x)) (From (AssignBit x u.0 pair.0) (node_of x pair.1.1))) z (numbered 0 (pairs u.1.left u.1.right)) h in
      ByAssign (record {
        number = u.0;
        place = found.0.0;
        assign = u.1;
        bits = found.0.1;
        listed = u_in;
        at = found.1;
        joins = node-true (node_of x found.0.1.0) (Inner n i x) (of-when (same_node (node_of x found.0.1.0) (Inner n i x)) (From (AssignBit x u.0 found.0.0) (node_of x found.0.1.1)) z found.2);
        is = of-when-is (same_node (node_of x found.0.1.0) (Inner n i x)) (From (AssignBit x u.0 found.0.0) (node_of x found.0.1.1)) z found.2;
      })

  pub item : Item p x m n i z
  item = elim (in-either z (ports_in s x n i m) others among) [
    | inl port ↦ by-port port
    | inr rest ↦ elim (in-either z (flat_map (from_one s x n i) m.instances) (flat_map (from_assign x n i) (numbered 0 m.assigns)) rest) [
      | inl inst ↦ let y = of-flat (from_one s x n i) z m.instances inst in by-target y.0 y.1 (module_named s y.0.target) (cell_named s y.0.target) refl refl y.2
      | inr assign ↦ let u = of-flat (from_assign x n i) z (numbered 0 m.assigns) assign in by-assign u.0 u.1 u.2
    ]
  ]
