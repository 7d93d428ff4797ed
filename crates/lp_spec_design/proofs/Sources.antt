-- Whatever has a source is one of the nodes.
use Rattle.std.proofs.Common.{◌≡◌, ◌<◌, ℕ, zero, suc, Bool, true, false, not, ◌&&◌, List, [], ◌∷◌, ◌++◌, map, Option, Some, None, inl, inr, refl, sym, ap, ◌∙◌, subst, arith}
use Rattle.std.specs.Prelude.{nat_lt, length, filter, flat_map, bytes_eq, is_some, option_and_then, unwrap_or, if◌then◌else◌}
use Rattle.std.specs.List.{list_any}
use Rattle.std.proofs.lemmas.Bool.{false≢true, ltb-true, ltb-false}
use Rattle.lp_model.specs.NetlistView.{BitView, NetBit, SelectBit, ConstBit, PortView, NetView, ConnectionView, ConnectionsView, ByName, ByPosition, InstanceView, AssignView, ModuleView}
use Rattle.lp_model.specs.LibraryView.{PgPinView, PinView, CellView}
use Rattle.lp_spec_design.specs.Keys.{Name, Path, PortBit, AssignBit, Node, Inner, Outer, Fixed, Source, CellPin, SwitchedPin, From, same_index, same_node}
use Rattle.lp_spec_design.specs.Netlists.{Structure, first, module_named, cell_named, instance_named, module_at, indices, node_of, is_input, bits_named, bits_placed, connected}
use Rattle.lp_spec_design.specs.Instances.{children_in, children, below, module_instances}
use Rattle.lp_spec_design.specs.Graph.{pairs, some_of, when, joined_outside, from_port, ports_in, joined_inside, from_instance, is_output_pin, touches, from_cell, from_target, from_one, numbered, from_assign, in_module, outside, sources_of, source_of}
use Rattle.lp_spec_design.specs.Winners.{IsIn}
use Rattle.lp_spec_design.specs.Reads.{one, other, name-true, index-true, node-true}
use Rattle.lp_spec_design.specs.Nodes.{nodes_in, inner_nodes, outer_in, nodes_of, connected_bits, joined_bits, DeclaresBits}
use Rattle.lp_spec_design.proofs.Members.{in-left, in-right, in-either, in-map, in-flat, of-map, of-flat, of-some, of-any, of-filter, of-when, of-pairs, of-numbered}
use Rattle.lp_spec_design.proofs.Looped.{source_by, head_of, outer_sources, outer_by}

-- ---- bits of connections

named_in : (n : Name) (cs : List ConnectionView) (b : BitView) → IsIn b (bits_named n cs) → IsIn b (flat_map (λ (c : ConnectionView). c.bits) cs)
named_in n [] b h = absurd h
named_in n (c ∷ cs) b h = by (bytes_eq c.port n) h (named_in n cs b)
  where
    by : (t : Bool) → IsIn b (if t then c.bits else bits_named n cs) → (IsIn b (bits_named n cs) → IsIn b (flat_map (λ (x : ConnectionView). x.bits) cs)) → IsIn b (c.bits ++ flat_map (λ (x : ConnectionView). x.bits) cs)
    by true g more = in-left b c.bits (flat_map (λ (x : ConnectionView). x.bits) cs) g
    by false g more = in-right b c.bits (flat_map (λ (x : ConnectionView). x.bits) cs) (more g)

placed_in : (n : Name) (ports : List PortView) (values : List (List BitView)) (b : BitView) → IsIn b (bits_placed n ports values) → IsIn b (flat_map (λ (bits : List BitView). bits) values)
placed_in n [] values b h = absurd h
placed_in n (p ∷ ports) [] b h = absurd h
placed_in n (p ∷ ports) (v ∷ values) b h = by (bytes_eq p.name n) h (placed_in n ports values b)
  where
    by : (t : Bool) → IsIn b (if t then v else bits_placed n ports values) → (IsIn b (bits_placed n ports values) → IsIn b (flat_map (λ (bits : List BitView). bits) values)) → IsIn b (v ++ flat_map (λ (bits : List BitView). bits) values)
    by true g more = in-left b v (flat_map (λ (bits : List BitView). bits) values) g
    by false g more = in-right b v (flat_map (λ (bits : List BitView). bits) values) (more g)

connected_in : (ports : List PortView) (n : Name) (cs : ConnectionsView) (b : BitView) → IsIn b (connected ports n cs) → IsIn b (connected_bits cs)
connected_in ports n (ByName cs) b h = named_in n cs b h
connected_in ports n (ByPosition values) b h = placed_in n ports values b h

-- ---- module instances

-- those of a module that is in reach are in reach one level further down
child_below : (s : Structure) (depth : ℕ) (q p c : Path) → IsIn p (below s depth q) → IsIn c (children s p) → IsIn c (below s (suc depth) q)
child_below s zero q p c h g = absurd h
child_below s (suc depth) q p c (inl is) g =
    inr (in-flat (below s (suc depth)) c c (children s q) (subst (λ x. IsIn c (children s x)) is g) (inl refl))
child_below s (suc depth) q p c (inr h) g =
    let at = of-flat (below s depth) p (children s q) h in
    inr (in-flat (below s (suc depth)) at.0 c (children s q) at.1 (child_below s depth at.0 p c at.2 g))

pub then_is : {A B : Type 0} (f : A → Option B) (o : Option A) (y : B) → option_and_then f o ≡ Some y → (x : A) × (o ≡ Some x) × (f x ≡ Some y)
then_is f None y e = absurd cc
then_is f (Some x) y e = (x, refl, e)

pub first_in : {A : Type 0} (p : A → Bool) (xs : List A) (x : A) → first p xs ≡ Some x → IsIn x xs × (p x ≡ true)
first_in p [] x e = absurd cc
first_in p (y ∷ xs) x e = by (p y) refl (first_in p xs x)
  where
    by : (t : Bool) → p y ≡ t → (first p xs ≡ Some x → IsIn x xs × (p x ≡ true)) → IsIn x (y ∷ xs) × (p x ≡ true)
    by true h more = let same : Some y ≡ Some x = rw h at e in let is : x ≡ y = cc in (inl is, ap p is ∙ h)
    by false h more = let found = more (rw h at e) in (inr found.0, found.1)

in_filter : {A : Type 0} (p : A → Bool) (xs : List A) (x : A) → IsIn x xs → p x ≡ true → IsIn x (filter p xs)
in_filter p [] x h e = absurd h
in_filter p (y ∷ xs) x h e = by (p y) refl (λ r. in_filter p xs x r e)
  where
    by : (t : Bool) → p y ≡ t → (IsIn x xs → IsIn x (filter p xs)) → IsIn x (if t then y ∷ filter p xs else filter p xs)
    by true f more = elim h [ inl is ↦ inl is | inr r ↦ inr (more r) ]
    by false f more = elim h [ inl is ↦ absurd (false≢true (sym f ∙ ap p (sym is) ∙ e)) | inr r ↦ more r ]

module _ (s : Structure) where
  pub child_of : (i : Name) (p : Path) (m : ModuleView) → module_at s (i ∷ p) ≡ Some m → (outer : ModuleView) × (module_at s p ≡ Some outer) × IsIn (i ∷ p) (children s p)
  child_of i p m e =
      let above = then_is (λ (x : ModuleView). option_and_then (λ (y : InstanceView). module_named s y.target) (instance_named x i)) (module_at s p) m e in
      let inst = then_is (λ (y : InstanceView). module_named s y.target) (instance_named above.0 i) m above.2 in
      let found = first_in (λ (y : InstanceView). bytes_eq y.name i) above.0.instances inst.0 inst.1 in
      let kept = in_filter (λ (y : InstanceView). is_some (module_named s y.target)) above.0.instances inst.0 found.0 (ap is_some inst.2) in
      let listed : IsIn (inst.0.name ∷ p) (children_in s p (Some above.0)) = in-map (λ (y : InstanceView). y.name ∷ p) inst.0 (filter (λ (y : InstanceView). is_some (module_named s y.target)) above.0.instances) kept in
      (above.0, above.1, subst (λ o. IsIn (i ∷ p) (children_in s p o)) (sym above.1) (subst (λ n. IsIn (n ∷ p) (children_in s p (Some above.0))) (name-true inst.0.name i found.1) listed))

  pub in_reach : (depth : ℕ) (p : Path) (m : ModuleView) → module_at s p ≡ Some m → length p < depth → IsIn p (below s depth [])
  in_reach zero p m e short = absurd (omega arith)
  in_reach (suc depth) [] m e short = inl refl
  in_reach (suc depth) (i ∷ p) m e short =
      let up = child_of i p m e in
      child_below s depth [] p (i ∷ p) (in_reach depth p up.0 up.1 (omega arith)) up.2

  -- ---- one module instance

  module _ (d : DeclaresBits s) (n : Name) (i : Option ℕ) where
    in_then : {A B : Type 0} (f : A → Option (List B)) (o : Option A) (x : B) → IsIn x (unwrap_or (option_and_then f o) []) → (a : A) × IsIn x (unwrap_or (f a) [])
    in_then f None x h = absurd h
    in_then f (Some a) x h = (a, h)

    moved : (a b : Option ℕ) (xs : List (Option ℕ)) → same_index a b ≡ true → IsIn a xs → IsIn b xs
    moved a b xs e h = subst (λ z. IsIn z xs) (index-true a b e) h

    at_index : (xs : List (Option ℕ)) → list_any (same_index i) xs ≡ true → IsIn i xs
    at_index xs e = let found = of-any (same_index i) xs e in subst (λ z. IsIn z xs) (sym (index-true i found.0 found.2)) found.1

    from_in : (p : Path) (port : PortView) (x : Source) → IsIn x (from_port s p n i port) → IsIn i (indices port.range)
    from_in [] port x h = by (list_any (same_index i) (indices port.range)) refl h
      where
        by : (t : Bool) → list_any (same_index i) (indices port.range) ≡ t → IsIn x (if t then From (PortBit [] n i) (Outer n i) ∷ [] else []) → IsIn i (indices port.range)
        by true e g = at_index (indices port.range) e
        by false e g = absurd g
    from_in (inst ∷ p) port x h =
        let above = in_then (λ (outer : ModuleView). option_and_then (λ (y : InstanceView). option_and_then (λ (inner : ModuleView). Some (joined_outside p inst n i port y inner)) (module_named s y.target)) (first (λ (y : InstanceView). bytes_eq y.name inst) outer.instances)) (module_at s p) x h in
        let at = in_then (λ (y : InstanceView). option_and_then (λ (inner : ModuleView). Some (joined_outside p inst n i port y inner)) (module_named s y.target)) (first (λ (y : InstanceView). bytes_eq y.name inst) above.0.instances) x above.1 in
        let of = in_then (λ (inner : ModuleView). Some (joined_outside p inst n i port at.0 inner)) (module_named s at.0.target) x at.1 in
        let pair = of-some (λ (z : Option ℕ × BitView). when (same_index z.0 i) (From (PortBit (inst ∷ p) n i) (node_of p z.1))) x (pairs (indices port.range) (connected of.0.ports n at.0.connections)) of.1 in
        let same : same_index pair.0.0 i ≡ true = of-when (same_index pair.0.0 i) (From (PortBit (inst ∷ p) n i) (node_of p pair.0.1)) x pair.2 in
        moved pair.0.0 i (indices port.range) same (of-pairs pair.0 (indices port.range) (connected of.0.ports n at.0.connections) pair.1).0

    module _ (p : Path) (m : ModuleView) (at : module_at s p ≡ Some m) where
      abbrev Here : Type 0
      Here = IsIn (Inner n i p) (nodes_in p (Some m))

      port_bits : List Node
      port_bits = flat_map (λ (x : PortView). map (λ j. Inner x.name j p) (indices x.range)) m.ports

      net_bits : List Node
      net_bits = flat_map (λ (x : NetView). map (λ j. Inner x.name j p) (indices x.range)) m.nets

      port_here : (x : Source) → IsIn x (ports_in s p n i m) → Here
      unfolding port_bits net_bits
      port_here x h =
          let port = of-flat (from_port s p n i) x (filter (λ (q : PortView). bytes_eq q.name n && is_input q) m.ports) h in
          let kept = of-filter (λ (q : PortView). bytes_eq q.name n && is_input q) port.0 m.ports port.1 in
          let named : port.0.name ≡ n = name-true port.0.name n (one (bytes_eq port.0.name n) (is_input port.0) kept.1) in
          let bit : IsIn (Inner n i p) (map (λ j. Inner n j p) (indices port.0.range)) = in-map (λ j. Inner n j p) i (indices port.0.range) (from_in p port.0 x port.2) in
          in-left (Inner n i p) port_bits net_bits
          (in-flat (λ (q : PortView). map (λ j. Inner q.name j p) (indices q.range)) port.0 (Inner n i p) m.ports kept.0 (subst (λ k. IsIn (Inner n i p) (map (λ j. Inner k j p) (indices port.0.range))) (sym named) bit))

      bit_here : (b : BitView) → IsIn b (joined_bits m) → same_node (node_of p b) (Inner n i p) ≡ true → Here
      bit_here (NetBit a) h e = subst (λ k. IsIn k (nodes_in p (Some m))) (node-true (Inner a None p) (Inner n i p) e) (d.declared p m (NetBit a) at h)
      bit_here (SelectBit a j) h e = subst (λ k. IsIn k (nodes_in p (Some m))) (node-true (Inner a (Some j) p) (Inner n i p) e) (d.declared p m (SelectBit a j) at h)
      bit_here (ConstBit c) h e = absurd (false≢true e)

      connected_here : (y : InstanceView) → IsIn y m.instances → (ports : List PortView) (q : Name) (b : BitView) → IsIn b (connected ports q y.connections) → same_node (node_of p b) (Inner n i p) ≡ true → Here
      connected_here y hy ports q b hb e =
          bit_here b
          (in-left b (flat_map (λ (z : InstanceView). connected_bits z.connections) m.instances) (flat_map (λ (z : AssignView). z.left) m.assigns)
          (in-flat (λ (z : InstanceView). connected_bits z.connections) y b m.instances hy (connected_in ports q y.connections b hb)))
          e

      inside_here : (y : InstanceView) → IsIn y m.instances → (inner : ModuleView) (x : Source) → IsIn x (from_instance p n i y inner) → Here
      inside_here y hy inner x h =
          let port = of-flat (joined_inside p n i y inner) x (filter (λ (q : PortView). not (is_input q)) inner.ports) h in
          let f = λ (z : Option ℕ × BitView). when (same_node (node_of p z.1) (Inner n i p)) (From (PortBit (y.name ∷ p) port.0.name z.0) (Inner port.0.name z.0 (y.name ∷ p))) in
          let pair = of-some f x (pairs (indices port.0.range) (connected inner.ports port.0.name y.connections)) port.2 in
          let same = of-when (same_node (node_of p pair.0.1) (Inner n i p)) (From (PortBit (y.name ∷ p) port.0.name pair.0.0) (Inner port.0.name pair.0.0 (y.name ∷ p))) x pair.2 in
          connected_here y hy inner.ports port.0.name pair.0.1 (of-pairs pair.0 (indices port.0.range) (connected inner.ports port.0.name y.connections) pair.1).1 same

      touched_here : (y : InstanceView) → IsIn y m.instances → (q : Name) → touches p n i (connected [] q y.connections) ≡ true → Here
      touched_here y hy q e = let found = of-any (λ b. same_node (node_of p b) (Inner n i p)) (connected [] q y.connections) e in connected_here y hy [] q found.0 found.1 found.2

      pins_from : InstanceView → CellView → List Source
      pins_from y c = some_of (λ (q : PinView). when (is_output_pin q && touches p n i (connected [] q.name y.connections)) (CellPin p y.name q.name)) c.pins

      pgs_from : InstanceView → CellView → List Source
      pgs_from y c = some_of (λ (g : PgPinView). when (is_some g.switched && touches p n i (connected [] g.name y.connections)) (SwitchedPin p y.name g.name)) c.pgs

      cell_here : (y : InstanceView) → IsIn y m.instances → (c : CellView) (x : Source) → IsIn x (from_cell p n i y c) → Here
      unfolding pins_from pgs_from
      cell_here y hy c x h = elim (in-either x (pins_from y c) (pgs_from y c) h) [
        | inl pin ↦
            let at = of-some (λ (q : PinView). when (is_output_pin q && touches p n i (connected [] q.name y.connections)) (CellPin p y.name q.name)) x c.pins pin in
            let is = of-when (is_output_pin at.0 && touches p n i (connected [] at.0.name y.connections)) (CellPin p y.name at.0.name) x at.2 in
            touched_here y hy at.0.name (other (is_output_pin at.0) (touches p n i (connected [] at.0.name y.connections)) is)
        | inr pg ↦
            let at = of-some (λ (g : PgPinView). when (is_some g.switched && touches p n i (connected [] g.name y.connections)) (SwitchedPin p y.name g.name)) x c.pgs pg in
            let is = of-when (is_some at.0.switched && touches p n i (connected [] at.0.name y.connections)) (SwitchedPin p y.name at.0.name) x at.2 in
            touched_here y hy at.0.name (other (is_some at.0.switched) (touches p n i (connected [] at.0.name y.connections)) is)
      ]

      target_here : (y : InstanceView) → IsIn y m.instances → (o : Option ModuleView) (c : Option CellView) (x : Source) → IsIn x (from_target p n i y o c) → Here
      target_here y hy (Some inner) c x h = inside_here y hy inner x h
      target_here y hy None (Some c) x h = cell_here y hy c x h
      target_here y hy None None x h = absurd h

      assign_here : (x : Source) → IsIn x (flat_map (from_assign p n i) (numbered 0 m.assigns)) → Here
      assign_here x h =
          let a = of-flat (from_assign p n i) x (numbered 0 m.assigns) h in
          let f = λ (z : ℕ × (BitView × BitView)). when (same_node (node_of p z.1.0) (Inner n i p)) (From (AssignBit p a.0.0 z.0) (node_of p z.1.1)) in
          let pair = of-some f x (numbered 0 (pairs a.0.1.left a.0.1.right)) a.2 in
          let same = of-when (same_node (node_of p pair.0.1.0) (Inner n i p)) (From (AssignBit p a.0.0 pair.0.0) (node_of p pair.0.1.1)) x pair.2 in
          let bit = (of-pairs pair.0.1 a.0.1.left a.0.1.right (of-numbered 0 pair.0 (pairs a.0.1.left a.0.1.right) pair.1)).0 in
          bit_here pair.0.1.0
          (in-right pair.0.1.0 (flat_map (λ (z : InstanceView). connected_bits z.connections) m.instances) (flat_map (λ (z : AssignView). z.left) m.assigns)
          (in-flat (λ (z : AssignView). z.left) a.0.1 pair.0.1.0 m.assigns (of-numbered 0 a.0 m.assigns a.1) bit))
          same

      module_here : (x : Source) → IsIn x (in_module s p n i m) → Here
      module_here x h = elim (in-either x (ports_in s p n i m) (flat_map (from_one s p n i) m.instances ++ flat_map (from_assign p n i) (numbered 0 m.assigns)) h) [
        | inl port ↦ port_here x port
        | inr rest ↦ elim (in-either x (flat_map (from_one s p n i) m.instances) (flat_map (from_assign p n i) (numbered 0 m.assigns)) rest) [
          | inl inst ↦ let y = of-flat (from_one s p n i) x m.instances inst in target_here y.0 y.1 (module_named s y.0.target) (cell_named s y.0.target) x y.2
          | inr assign ↦ assign_here x assign
        ]
      ]

    -- ---- all nodes

    head_in : (xs : List Source) (x : Source) → head_of xs ≡ Some x → IsIn x xs
    head_in [] x e = absurd cc
    head_in (y ∷ xs) x e = let is : x ≡ y = cc in inl is

    inner_sources : Path → Option ModuleView → List Source
    inner_sources p None = []
    inner_sources p (Some m) = in_module s p n i m

    inner_by : (p : Path) (o : Option ModuleView) → module_at s p ≡ o → sources_of s (Inner n i p) ≡ inner_sources p o
    unfolding inner_sources
    inner_by p None e = rw (e) refl
    inner_by p (Some m) e = rw (e) refl

    is_short : (p : Path) (m : ModuleView) → module_at s p ≡ Some m → length p < 64
    is_short p m e = by (nat_lt (length p) 64) refl
      where
        by : (t : Bool) → nat_lt (length p) 64 ≡ t → length p < 64
        by true less = ltb-true (length p) 64 less
        by false deep = let none : None ≡ Some m = sym (d.shallow p (ltb-false (length p) 64 deep)) ∙ e in absurd cc

    inner_known : (p : Path) (x : Source) → source_of s (Inner n i p) ≡ Some x → IsIn (Inner n i p) (inner_nodes s)
    unfolding inner_sources inner_nodes module_instances
    inner_known p x e = by (module_at s p) refl
      where
        by : (o : Option ModuleView) → module_at s p ≡ o → IsIn (Inner n i p) (inner_nodes s)
        by None is = let none : None ≡ Some x = sym (source_by s (Inner n i p) [] (inner_by p None is)) ∙ e in absurd cc
        by (Some m) is =
            let there = head_in (in_module s p n i m) x (sym (source_by s (Inner n i p) (in_module s p n i m) (inner_by p (Some m) is)) ∙ e) in
            in-flat (λ path. nodes_in path (module_at s path)) p (Inner n i p) (module_instances s) (in_reach 64 p m is (is_short p m is))
            (subst (λ o. IsIn (Inner n i p) (nodes_in p o)) (sym is) (module_here p m is x there))

    outer_known : (x : Source) → source_of s (Outer n i) ≡ Some x → IsIn (Outer n i) (outer_in (module_at s []))
    outer_known x e = by (module_at s []) refl
      where
        by : (o : Option ModuleView) → module_at s [] ≡ o → IsIn (Outer n i) (outer_in o)
        by None is = let none : None ≡ Some x = sym (source_by s (Outer n i) [] (outer_by s n i None is)) ∙ e in absurd cc
        by (Some m) is =
            let test = λ (port : PortView). bytes_eq port.name n && list_any (same_index i) (indices port.range) in
            let there = head_in (outer_sources s n i (Some m)) x (sym (source_by s (Outer n i) (outer_sources s n i (Some m)) (outer_by s n i (Some m) is)) ∙ e) in
            let port = of-map (outside n i) x (filter test m.ports) there in
            let kept = of-filter test port.0 m.ports port.1 in
            let named : port.0.name ≡ n = name-true port.0.name n (one (bytes_eq port.0.name n) (list_any (same_index i) (indices port.0.range)) kept.1) in
            let bit = at_index (indices port.0.range) (other (bytes_eq port.0.name n) (list_any (same_index i) (indices port.0.range)) kept.1) in
            in-flat (λ (q : PortView). map (λ j. Outer q.name j) (indices q.range)) port.0 (Outer n i) m.ports kept.0
            (subst (λ k. IsIn (Outer n i) (map (λ j. Outer k j) (indices port.0.range))) (sym named) (in-map (λ j. Outer n j) i (indices port.0.range) bit))

  pub sources_known : DeclaresBits s → (k : Node) (x : Source) → source_of s k ≡ Some x → IsIn k (nodes_of s)
  sources_known d (Inner n i p) x e = in-left (Inner n i p) (inner_nodes s) (outer_in (module_at s [])) (inner_known d n i p x e)
  sources_known d (Outer n i) x e = in-right (Outer n i) (inner_nodes s) (outer_in (module_at s [])) (outer_known d n i x e)
  sources_known d (Fixed b) x e = let none : None ≡ Some x = e in absurd cc
