-- A way of a port bit leads from the one side of its edge to the other.
use Rattle.std.proofs.Common.{◌≡◌, ◌⊎◌, ℕ, Bool, true, false, not, ◌&&◌, List, [], ◌∷◌, ◌++◌, Option, Some, None, inl, inr, refl, sym, ap, ◌∙◌, subst, cond}
use Rattle.std.specs.Prelude.{filter, flat_map, bytes_eq, option_and_then, unwrap_or}
use Rattle.std.specs.List.{list_any}
use Rattle.std.proofs.lemmas.Bool.{not-true, eq-eqb}
use Rattle.lp_model.specs.NetlistView.{BitView, PortView, InstanceView, ModuleView}
use Rattle.lp_model.specs.LibraryView.{CellView}
use Rattle.lp_spec_design.specs.Keys.{Name, Path, Node, Inner, Outer, Fixed, Way, PortBit, AssignBit, Source, CellPin, SwitchedPin, Environment, From, same_index, same_node}
use Rattle.lp_spec_design.specs.Netlists.{Structure, first, module_named, cell_named, instance_named, module_at, indices, node_of, is_input, connected}
use Rattle.lp_spec_design.specs.Graph.{pairs, when, joined_outside, from_port, ports_in, joined_inside, from_instance, from_cell, from_target, from_one, numbered, from_assign, in_module, outside, source_of, sources_of}
use Rattle.lp_spec_design.specs.Domains.{BoundaryBit, way_of}
use Rattle.lp_spec_design.specs.Winners.{IsIn}
use Rattle.lp_spec_design.specs.Reads.{one, other, name-true, node-true}
use Rattle.lp_spec_design.proofs.Members.{in-either, of-map, of-flat, of-some, of-filter, of-when}
use Rattle.lp_spec_design.proofs.Looped.{source_by, head_of, outer_sources, outer_by}
use Rattle.lp_spec_design.proofs.Sources.{first_in}
use Rattle.lp_spec_realises.specs.ProjectNetlists.{has_names_apart}
use Rattle.lp_spec_realises.specs.Tops.{ports_of}
use Rattle.lp_spec_agreement.proofs.Apart.{ports_apart, same_named, instance_found, module_below}
use Rattle.lp_spec_written.specs.Nets.{bits_at, connected_at, stood}
use Rattle.lp_spec_wired.specs.Names.{node_at}
use Rattle.lp_spec_written_at.proofs.Lists.{in-some}
use Rattle.lp_spec_driven.specs.Sound.{behind_by, node_behind, ahead_by, node_ahead}
use Rattle.lp_spec_driven.proofs.Short.{stood-short}
use Rattle.lp_spec_driven.proofs.Sources.{only-one, of-when-is, in-by, cell-source}

-- ---- equal parts

ways-are : (v w : Way) (h j : Node) → From v h ≡ From w j → v ≡ w
ways-are v w h j e = cc

nodes-are : (v w : Way) (h j : Node) → From v h ≡ From w j → h ≡ j
nodes-are v w h j e = cc

same-self : (i : Option ℕ) → same_index i i ≡ true
same-self None = refl
same-self (Some i) = eq-eqb i i refl

head-in : (xs : List Source) (x : Source) → head_of xs ≡ Some x → IsIn x xs
head-in [] x e = absurd cc
head-in (y ∷ xs) x e = let is : x ≡ y = cc in inl is

in-then : {A B : Type 0} (f : A → Option (List B)) (o : Option A) (x : B) → IsIn x (unwrap_or (option_and_then f o) []) → (a : A) × (o ≡ Some a) × IsIn x (unwrap_or (f a) [])
in-then f None x h = absurd h
in-then f (Some a) x h = (a, refl, h)

when-true : {A : Type 0} (b : Bool) (x : A) → b ≡ true → when b x ≡ Some x
when-true b x e = ap (λ t. when t x) e

abbrev pub bit_at : Path → PortView → Option ℕ → BoundaryBit
bit_at x q i = record { path = x; port = q; index = i }

-- a way of a bit of a port, with the nodes at its two ends
pub record PortWay (s : Structure) (k j : Node) (w : Way) : Type 0 where
  pub path : Path
  pub parent : ModuleView
  pub at : module_at s path ≡ Some parent
  pub port : PortView
  pub there : IsIn port parent.ports
  pub index : Option ℕ
  pub way : w ≡ PortBit path port.name index
  pub behind : k ≡ node_behind s (bit_at path port index)
  pub ahead : j ≡ node_ahead s (bit_at path port index)

pub record AssignWay (w : Way) : Type 0 where
  pub path : Path
  pub number : ℕ
  pub place : ℕ
  pub way : w ≡ AssignBit path number place

module _ (s : Structure) (names : has_names_apart s.modules ≡ true) where
  abbrev Leads : Node → Node → Way → Type 0
  Leads k j w = PortWay s k j w ⊎ AssignWay w

  -- the parent's connection has one bit there
  stands : (x : Path) (m inner : ModuleView) (y : InstanceView) (q : PortView) (i : Option ℕ) (pair : Option ℕ × BitView)
      → module_at s x ≡ Some m → instance_named m y.name ≡ Some y → module_named s y.target ≡ Some inner
      → IsIn pair (pairs (indices q.range) (connected inner.ports q.name y.connections)) → same_index pair.0 i ≡ true
      → stood s (bit_at (y.name ∷ x) q i) ≡ pair.1 ∷ []
  stands x m inner y q i pair at found target h same =
      let b : BoundaryBit = bit_at (y.name ∷ x) q i in
      let here : IsIn pair.1 (bits_at i (pairs (indices q.range) (connected inner.ports q.name y.connections))) =
      in-some (λ (z : Option ℕ × BitView). when (same_index z.0 i) z.1) pair pair.1 (pairs (indices q.range) (connected inner.ports q.name y.connections)) h (when-true (same_index pair.0 i) pair.1 same) in
      let is : stood s b ≡ bits_at i (pairs (indices q.range) (connected inner.ports q.name y.connections)) =
      ap (λ o. unwrap_or (option_and_then (λ (k : ModuleView). option_and_then (λ z. Some (connected_at s b z)) (instance_named k y.name)) o) []) at
      ∙ (ap (λ o. unwrap_or (option_and_then (λ z. Some (connected_at s b z)) o) []) found
      ∙ ap (λ o. bits_at i (pairs (indices q.range) (connected (ports_of o) q.name y.connections))) target) in
      only-one (stood s b) pair.1 (stood-short s b) (subst (λ r. IsIn pair.1 r) (sym is) here)

  module _ (i : Option ℕ) (j : Node) (w : Way) where
    -- into an input port
    into : (x : Path) (q : PortView) → is_input q ≡ true → IsIn (From w j) (from_port s x q.name i q) → (w ≡ PortBit x q.name i) × (j ≡ node_ahead s (bit_at x q i))
    into [] q input h = by (list_any (same_index i) (indices q.range)) h
      where
        by : (t : Bool) → IsIn (From w j) (cond t (From (PortBit [] q.name i) (Outer q.name i) ∷ []) []) → (w ≡ PortBit [] q.name i) × (j ≡ node_ahead s (bit_at [] q i))
        by true (inl e) = (ways-are w (PortBit [] q.name i) j (Outer q.name i) e, nodes-are w (PortBit [] q.name i) j (Outer q.name i) e ∙ sym (ap (λ t. ahead_by s (bit_at [] q i) [] t) input))
        by true (inr e) = absurd e
        by false e = absurd e
    into (inst ∷ x) q input h =
        let above = in-then (λ (outer : ModuleView). option_and_then (λ (y : InstanceView). option_and_then (λ (inner : ModuleView). Some (joined_outside x inst q.name i q y inner)) (module_named s y.target)) (first (λ (y : InstanceView). bytes_eq y.name inst) outer.instances)) (module_at s x) (From w j) h in
        let at = in-then (λ (y : InstanceView). option_and_then (λ (inner : ModuleView). Some (joined_outside x inst q.name i q y inner)) (module_named s y.target)) (first (λ (y : InstanceView). bytes_eq y.name inst) above.0.instances) (From w j) above.2 in
        let of = in-then (λ (inner : ModuleView). Some (joined_outside x inst q.name i q at.0 inner)) (module_named s at.0.target) (From w j) at.2 in
        let pair = of-some (λ (z : Option ℕ × BitView). when (same_index z.0 i) (From (PortBit (inst ∷ x) q.name i) (node_of x z.1))) (From w j) (pairs (indices q.range) (connected of.0.ports q.name at.0.connections)) of.2 in
        let same = of-when (same_index pair.0.0 i) (From (PortBit (inst ∷ x) q.name i) (node_of x pair.0.1)) (From w j) pair.2 in
        let is = of-when-is (same_index pair.0.0 i) (From (PortBit (inst ∷ x) q.name i) (node_of x pair.0.1)) (From w j) pair.2 in
        let name : at.0.name ≡ inst = name-true at.0.name inst (first_in (λ (y : InstanceView). bytes_eq y.name inst) above.0.instances at.0 at.1).1 in
        let found : instance_named above.0 at.0.name ≡ Some at.0 = ap (instance_named above.0) name ∙ at.1 in
        let one_bit : stood s (bit_at (inst ∷ x) q i) ≡ pair.0.1 ∷ [] = subst (λ n. stood s (bit_at (n ∷ x) q i) ≡ pair.0.1 ∷ []) name (stands x above.0 of.0 at.0 q i pair.0 above.1 found of.1 pair.1 same) in (
          ways-are w (PortBit (inst ∷ x) q.name i) j (node_of x pair.0.1) is,
          nodes-are w (PortBit (inst ∷ x) q.name i) j (node_of x pair.0.1) is
              ∙ sym (ap (λ t. ahead_by s (bit_at (inst ∷ x) q i) (inst ∷ x) t) input ∙ ap (node_at x) one_bit),
        )

    module _ (n : Name) (x : Path) (m : ModuleView) (at : module_at s x ≡ Some m) where
      of-port : IsIn (From w j) (ports_in s x n i m) → Leads (Inner n i x) j w
      of-port h =
          let q = of-flat (from_port s x n i) (From w j) (filter (λ (r : PortView). bytes_eq r.name n && is_input r) m.ports) h in
          let kept = of-filter (λ (r : PortView). bytes_eq r.name n && is_input r) q.0 m.ports q.1 in
          let named : q.0.name ≡ n = name-true q.0.name n (one (bytes_eq q.0.name n) (is_input q.0) kept.1) in
          let input : is_input q.0 ≡ true = other (bytes_eq q.0.name n) (is_input q.0) kept.1 in
          let found = into x q.0 input (subst (λ a. IsIn (From w j) (from_port s x a i q.0)) (sym named) q.2) in
          inl (record {
            path = x;
            parent = m;
            at = at;
            port = q.0;
            there = kept.0;
            index = i;
            way = found.0;
            behind = ap (λ a. Inner a i x) (sym named) ∙ sym (ap (λ t. behind_by s (bit_at x q.0 i) x t) input);
            ahead = found.1;
          })

      of-inside : (y : InstanceView) → IsIn y m.instances → (inner : ModuleView) → module_named s y.target ≡ Some inner → IsIn (From w j) (from_instance x n i y inner) → Leads (Inner n i x) j w
      of-inside y hy inner target h =
          let q = of-flat (joined_inside x n i y inner) (From w j) (filter (λ (r : PortView). not (is_input r)) inner.ports) h in
          let kept = of-filter (λ (r : PortView). not (is_input r)) q.0 inner.ports q.1 in
          let output : is_input q.0 ≡ false = not-true (is_input q.0) kept.1 in
          let f = λ (z : Option ℕ × BitView). when (same_node (node_of x z.1) (Inner n i x)) (From (PortBit (y.name ∷ x) q.0.name z.0) (Inner q.0.name z.0 (y.name ∷ x))) in
          let pair = of-some f (From w j) (pairs (indices q.0.range) (connected inner.ports q.0.name y.connections)) q.2 in
          let node : node_of x pair.0.1 ≡ Inner n i x = node-true (node_of x pair.0.1) (Inner n i x) (of-when (same_node (node_of x pair.0.1) (Inner n i x)) (From (PortBit (y.name ∷ x) q.0.name pair.0.0) (Inner q.0.name pair.0.0 (y.name ∷ x))) (From w j) pair.2) in
          let is = of-when-is (same_node (node_of x pair.0.1) (Inner n i x)) (From (PortBit (y.name ∷ x) q.0.name pair.0.0) (Inner q.0.name pair.0.0 (y.name ∷ x))) (From w j) pair.2 in
          let one_bit = stands x m inner y q.0 pair.0.0 pair.0 at (instance_found s names x m at y hy) target pair.1 (same-self pair.0.0) in
          inl (record {
            path = y.name ∷ x;
            parent = inner;
            at = module_below s names x m at y hy ∙ target;
            port = q.0;
            there = kept.0;
            index = pair.0.0;
            way = ways-are w (PortBit (y.name ∷ x) q.0.name pair.0.0) j (Inner q.0.name pair.0.0 (y.name ∷ x)) is;
            behind = sym node ∙ sym (ap (λ t. behind_by s (bit_at (y.name ∷ x) q.0 pair.0.0) (y.name ∷ x) t) output ∙ ap (node_at x) one_bit);
            ahead = nodes-are w (PortBit (y.name ∷ x) q.0.name pair.0.0) j (Inner q.0.name pair.0.0 (y.name ∷ x)) is ∙ sym (ap (λ t. ahead_by s (bit_at (y.name ∷ x) q.0 pair.0.0) (y.name ∷ x) t) output);
          })

      of-cell : (y : InstanceView) (c : CellView) → IsIn (From w j) (from_cell x n i y c) → Leads (Inner n i x) j w
      of-cell y c h = elim (cell-source x n i y c (From w j) h) [
        | inl pin ↦ let is : From w j ≡ CellPin x y.name pin.pin.name = pin.is in absurd cc
        | inr pg ↦ let is : From w j ≡ SwitchedPin x y.name pg.pin.name = pg.is in absurd cc
      ]

      of-target : (y : InstanceView) → IsIn y m.instances → (o : Option ModuleView) (c : Option CellView) → module_named s y.target ≡ o → IsIn (From w j) (from_target x n i y o c) → Leads (Inner n i x) j w
      of-target y hy (Some inner) c e h = of-inside y hy inner e h
      of-target y hy None (Some c) e h = of-cell y c h
      of-target y hy None None e h = absurd h

      of-assign : IsIn (From w j) (flat_map (from_assign x n i) (numbered 0 m.assigns)) → Leads (Inner n i x) j w
      of-assign h =
          let a = of-flat (from_assign x n i) (From w j) (numbered 0 m.assigns) h in
          let f = λ (z : ℕ × (BitView × BitView)). when (same_node (node_of x z.1.0) (Inner n i x)) (From (AssignBit x a.0.0 z.0) (node_of x z.1.1)) in
          let pair = of-some f (From w j) (numbered 0 (pairs a.0.1.left a.0.1.right)) a.2 in
          let is = of-when-is (same_node (node_of x pair.0.1.0) (Inner n i x)) (From (AssignBit x a.0.0 pair.0.0) (node_of x pair.0.1.1)) (From w j) pair.2 in
          inr (record { path = x; number = a.0.0; place = pair.0.0; way = ways-are w (AssignBit x a.0.0 pair.0.0) j (node_of x pair.0.1.1) is })

      of-module : IsIn (From w j) (in_module s x n i m) → Leads (Inner n i x) j w
      of-module h = elim (in-either (From w j) (ports_in s x n i m) (flat_map (from_one s x n i) m.instances ++ flat_map (from_assign x n i) (numbered 0 m.assigns)) h) [
        | inl port ↦ of-port port
        | inr rest ↦ elim (in-either (From w j) (flat_map (from_one s x n i) m.instances) (flat_map (from_assign x n i) (numbered 0 m.assigns)) rest) [
          | inl inst ↦ let y = of-flat (from_one s x n i) (From w j) m.instances inst in of-target y.0 y.1 (module_named s y.0.target) (cell_named s y.0.target) refl y.2
          | inr assign ↦ of-assign assign
        ]
      ]

    none-there : (n : Name) (x : Path) → module_at s x ≡ None → sources_of s (Inner n i x) ≡ []
    none-there n x e = rw (e) refl

    inner-leads : (n : Name) (x : Path) (o : Option ModuleView) → module_at s x ≡ o → source_of s (Inner n i x) ≡ Some (From w j) → Leads (Inner n i x) j w
    inner-leads n x None is e = let none : None ≡ Some (From w j) = sym (source_by s (Inner n i x) [] (none-there n x is)) ∙ e in absurd cc
    inner-leads n x (Some m) is e = of-module n x m is (head-in (in_module s x n i m) (From w j) (sym (source_by s (Inner n i x) (in_module s x n i m) (in-by s x n i m is)) ∙ e))

    outside-is : (n : Name) (q : PortView) → outside n i q ≡ From w j → (is_input q ≡ false) × (w ≡ PortBit [] n i) × (j ≡ Inner n i [])
    outside-is n q e = by (is_input q) refl e
      where
        by : (b : Bool) → is_input q ≡ b → cond b Environment (From (PortBit [] n i) (Inner n i [])) ≡ From w j → (is_input q ≡ false) × (w ≡ PortBit [] n i) × (j ≡ Inner n i [])
        by true is e = absurd cc
        by false is e = (is, sym (ways-are (PortBit [] n i) w (Inner n i []) j e), sym (nodes-are (PortBit [] n i) w (Inner n i []) j e))

    outer-leads : (n : Name) (o : Option ModuleView) → module_at s [] ≡ o → source_of s (Outer n i) ≡ Some (From w j) → Leads (Outer n i) j w
    outer-leads n None is e = let none : None ≡ Some (From w j) = sym (source_by s (Outer n i) [] (outer_by s n i None is)) ∙ e in absurd cc
    outer-leads n (Some m) is e =
        let test = λ (q : PortView). bytes_eq q.name n && list_any (same_index i) (indices q.range) in
        let there = head-in (outer_sources s n i (Some m)) (From w j) (sym (source_by s (Outer n i) (outer_sources s n i (Some m)) (outer_by s n i (Some m) is)) ∙ e) in
        let q = of-map (outside n i) (From w j) (filter test m.ports) there in
        let kept = of-filter test q.0 m.ports q.1 in
        let named : q.0.name ≡ n = name-true q.0.name n (one (bytes_eq q.0.name n) (list_any (same_index i) (indices q.0.range)) kept.1) in
        let found = outside-is n q.0 (sym q.2) in
        inl (record {
          path = [];
          parent = m;
          at = is;
          port = q.0;
          there = kept.0;
          index = i;
          way = found.1 ∙ ap (λ a. PortBit [] a i) (sym named);
          behind = ap (λ a. Outer a i) (sym named) ∙ sym (ap (λ t. behind_by s (bit_at [] q.0 i) [] t) found.0);
          ahead = found.2 ∙ (ap (λ a. Inner a i []) (sym named) ∙ sym (ap (λ t. ahead_by s (bit_at [] q.0 i) [] t) found.0));
        })

  leads : (k j : Node) (w : Way) → source_of s k ≡ Some (From w j) → Leads k j w
  leads (Inner n i x) j w e = inner-leads i j w n x (module_at s x) refl e
  leads (Outer n i) j w e = outer-leads i j w n (module_at s []) refl e
  leads (Fixed b) j w e = let none : None ≡ Some (From w j) = e in absurd cc

  -- ---- the way of a bit

  module _ (b : BoundaryBit) (m : ModuleView) (at : module_at s b.path ≡ Some m) (there : IsIn b.port m.ports) (k j : Node) (e : source_of s k ≡ Some (From (way_of b) j)) where
    is-bit : (h : PortWay s k j (way_of b)) → bit_at h.path h.port h.index ≡ b
    is-bit h =
        let ways : PortBit b.path b.port.name b.index ≡ PortBit h.path h.port.name h.index = h.way in
        let path : h.path ≡ b.path = cc in
        let name : h.port.name ≡ b.port.name = cc in
        let index : h.index ≡ b.index = cc in
        let both : Some h.parent ≡ Some m = sym h.at ∙ (ap (module_at s) path ∙ at) in
        let same : h.parent ≡ m = cc in
        let port : h.port ≡ b.port = same_named (λ (q : PortView). q.name) m.ports (ports_apart s names b.path m at) h.port b.port (subst (λ (o : ModuleView). IsIn h.port o.ports) same h.there) there name in
        λ r. record { path = path r; port = port r; index = index r }

    pub ends-are : (k ≡ node_behind s b) × (j ≡ node_ahead s b)
    ends-are = elim (leads k j (way_of b) e) [
      | inl h ↦ (h.behind ∙ ap (node_behind s) (is-bit h), h.ahead ∙ ap (node_ahead s) (is-bit h))
      | inr h ↦ let wrong : PortBit b.path b.port.name b.index ≡ AssignBit h.path h.number h.place = h.way in absurd cc
    ]

    pub leads-so : source_of s (node_behind s b) ≡ Some (From (way_of b) (node_ahead s b))
    leads-so = ap (source_of s) (sym ends-are.0) ∙ (e ∙ ap (λ z. Some (From (way_of b) z)) ends-are.1)
