-- What drives a net bit from a cell instance, and that it is the only source where there are no two.
use Rattle.std.proofs.Common.{◌≡◌, ◌⊎◌, ◌≤◌, ℕ, Bool, true, false, ◌&&◌, List, [], ◌∷◌, ◌++◌, map, length, Option, Some, None, inl, inr, refl, sym, ◌∙◌, ap, subst, arith}
use Rattle.std.specs.Prelude.{bytes_eq, flat_map, is_some, if◌then◌else◌}
use Rattle.lp_model.specs.NetlistView.{BitView, NetBit, SelectBit, ConstBit, ConnectionView, ConnectionsView, ByName, ByPosition, InstanceView, ModuleView}
use Rattle.lp_model.specs.LibraryView.{PgPinView, PinView, CellView}
use Rattle.lp_spec_design.specs.Keys.{Name, Path, Node, Inner, Fixed, Source, CellPin, SwitchedPin, same_node}
use Rattle.lp_spec_design.specs.Netlists.{Structure, first, module_named, cell_named, module_at, node_of, bits_named, connected}
use Rattle.lp_spec_design.specs.Graph.{some_of, when, numbered, ports_in, is_output_pin, touches, from_cell, from_target, from_one, from_assign, in_module, sources_of, source_of}
use Rattle.lp_spec_design.specs.Reads.{node-true, one, other}
use Rattle.lp_spec_design.specs.Winners.{IsIn}
use Rattle.lp_spec_design.proofs.Members.{in-left, in-right, in-flat, in-either, of-some, of-any, of-when}
use Rattle.lp_spec_design.proofs.Looped.{source_by}
use Rattle.lp_spec_realises.specs.Projects.{Project}
use Rattle.lp_spec_faults.specs.Modules.{is_own}
use Rattle.lp_spec_written.specs.Nets.{Stretch, renamed, renamed_connections}
use Rattle.lp_spec_written.specs.Written.{Additions}
use Rattle.lp_spec_hub.specs.Spots.{OfNode}
use Rattle.lp_spec_wired.specs.Contents.{IsInstance, IsWrittenAt}
use Rattle.lp_spec_wired.specs.Names.{name_by}
use Rattle.lp_spec_wired.specs.Laws.{IsFreeBit}
use Rattle.lp_spec_wired.proofs.Chains.{node-renamed}

pub of-when-is : {A : Type 0} (b : Bool) (x y : A) → when b x ≡ Some y → y ≡ x
of-when-is true x y e = cc
of-when-is false x y e = absurd cc

-- ---- the only source

pub only-one : {A : Type 0} (xs : List A) (y : A) → length xs ≤ 1 → IsIn y xs → xs ≡ y ∷ []
only-one [] y few h = absurd h
only-one (x ∷ []) y few h = elim h [ inl is ↦ ap (λ z. z ∷ []) (sym is) | inr r ↦ absurd r ]
only-one (x ∷ z ∷ xs) y few h = absurd (omega (arith, few))

pub the-source : (s : Structure) (k : Node) (y : Source) → length (sources_of s k) ≤ 1 → IsIn y (sources_of s k) → source_of s k ≡ Some y
the-source s k y few h = source_by s k (y ∷ []) (only-one (sources_of s k) y few h)

-- the sources of a net bit of an instance
pub in-by : (s : Structure) (x : Path) (n : Name) (i : Option ℕ) (m : ModuleView) → module_at s x ≡ Some m → sources_of s (Inner n i x) ≡ in_module s x n i m
in-by s x n i m e = rw (e) refl

-- a source from an instance of the module
pub in-instances : (s : Structure) (x : Path) (n : Name) (i : Option ℕ) (m : ModuleView) (y : InstanceView) (z : Source) → module_at s x ≡ Some m → IsIn y m.instances → IsIn z (from_one s x n i y) → IsIn z (sources_of s (Inner n i x))
in-instances s x n i m y z e h g =
    subst (λ l. IsIn z l) (sym (in-by s x n i m e))
    (in-right z (ports_in s x n i m) (flat_map (from_one s x n i) m.instances ++ flat_map (from_assign x n i) (numbered 0 m.assigns))
    (in-left z (flat_map (from_one s x n i) m.instances) (flat_map (from_assign x n i) (numbered 0 m.assigns)) (in-flat (from_one s x n i) y z m.instances h g)))

-- ---- cell instances

-- a pin of a cell whose connection has the net bit
pub record Touched (x : Path) (n : Name) (i : Option ℕ) (y : InstanceView) (pin : Name) : Type 0 where
  pub bit : BitView
  pub listed : IsIn bit (connected [] pin y.connections)
  pub is : node_of x bit ≡ Inner n i x

pub record FromPin (x : Path) (n : Name) (i : Option ℕ) (y : InstanceView) (c : CellView) (z : Source) : Type 0 where
  pub pin : PinView
  pub listed : IsIn pin c.pins
  pub output : is_output_pin pin ≡ true
  pub touched : Touched x n i y pin.name
  pub is : z ≡ CellPin x y.name pin.name

pub record FromPg (x : Path) (n : Name) (i : Option ℕ) (y : InstanceView) (c : CellView) (z : Source) : Type 0 where
  pub pin : PgPinView
  pub listed : IsIn pin c.pgs
  pub switched : is_some pin.switched ≡ true
  pub touched : Touched x n i y pin.name
  pub is : z ≡ SwitchedPin x y.name pin.name

module _ (x : Path) (n : Name) (i : Option ℕ) (y : InstanceView) where
  touch : (pin : Name) → touches x n i (connected [] pin y.connections) ≡ true → Touched x n i y pin
  touch pin e =
      let found = of-any (λ b. same_node (node_of x b) (Inner n i x)) (connected [] pin y.connections) e in
      record { bit = found.0; listed = found.1; is = node-true (node_of x found.0) (Inner n i x) found.2 }

  pub cell-source : (c : CellView) (z : Source) → IsIn z (from_cell x n i y c) → FromPin x n i y c z ⊎ FromPg x n i y c z
  cell-source c z h = elim (in-either z (some_of pins c.pins) (some_of pgs c.pgs) h) [
    | inl l ↦
        let found = of-some pins z c.pins l in
        let test = of-when (is_output_pin found.0 && touches x n i (connected [] found.0.name y.connections)) (CellPin x y.name found.0.name) z found.2 in
        inl (record {
          pin = found.0;
          listed = found.1;
          output = one (is_output_pin found.0) _ test;
          touched = touch found.0.name (other (is_output_pin found.0) _ test);
          is = of-when-is (is_output_pin found.0 && touches x n i (connected [] found.0.name y.connections)) (CellPin x y.name found.0.name) z found.2;
        })
    | inr r ↦
        let found = of-some pgs z c.pgs r in
        let test = of-when (is_some found.0.switched && touches x n i (connected [] found.0.name y.connections)) (SwitchedPin x y.name found.0.name) z found.2 in
        inr (record {
          pin = found.0;
          listed = found.1;
          switched = one (is_some found.0.switched) _ test;
          touched = touch found.0.name (other (is_some found.0.switched) _ test);
          is = of-when-is (is_some found.0.switched && touches x n i (connected [] found.0.name y.connections)) (SwitchedPin x y.name found.0.name) z found.2;
        })
  ]
    where
      pins : PinView → Option Source
      pins q = when (is_output_pin q && touches x n i (connected [] q.name y.connections)) (CellPin x y.name q.name)

      pgs : PgPinView → Option Source
      pgs g = when (is_some g.switched && touches x n i (connected [] g.name y.connections)) (SwitchedPin x y.name g.name)

-- in a netlist of the written content a cell instance is of the cell of its target
module _ (p : Project) (a : Additions) (w : Structure) (written : IsWrittenAt p a w) (x : Path) (v here : InstanceView) (is : IsInstance w x v here) (alone : module_at w (v.name ∷ x) ≡ None) where
  no_module : module_named w here.target ≡ None
  no_module = is.inner ∙ alone

  pub cell-is : cell_named w here.target ≡ first (λ (k : CellView). bytes_eq k.name v.target) p.structure.cells
  cell-is =
      ap (λ o. if is_some o then None else first (λ (k : CellView). bytes_eq k.name here.target) w.cells) no_module
      ∙ (ap (λ cells. first (λ (k : CellView). bytes_eq k.name here.target) cells) written.cells
      ∙ ap (λ n. first (λ (k : CellView). bytes_eq k.name n) p.structure.cells) (is.cell alone))

  pub one-cell : (c : CellView) → first (λ (k : CellView). bytes_eq k.name v.target) p.structure.cells ≡ Some c → (n : Name) (i : Option ℕ) → from_one w x n i here ≡ from_cell x n i here c
  one-cell c found n i =
      ap (λ o. from_target x n i here o (cell_named w here.target)) no_module
      ∙ ap (from_target x n i here None) (cell-is ∙ found)

-- ---- renamed connections

renamed-named : (all : List Stretch) (x : Path) (n : Name) (cs : List ConnectionView) → bits_named n (map (λ (c : ConnectionView). record c { bits = map (renamed all x) c.bits }) cs) ≡ map (renamed all x) (bits_named n cs)
renamed-named all x n [] = refl
renamed-named all x n (c ∷ cs) = by (bytes_eq c.port n) (renamed-named all x n cs)
  where
    by : (b : Bool) → bits_named n (map (λ (d : ConnectionView). record d { bits = map (renamed all x) d.bits }) cs) ≡ map (renamed all x) (bits_named n cs)
        → (if b then map (renamed all x) c.bits else bits_named n (map (λ (d : ConnectionView). record d { bits = map (renamed all x) d.bits }) cs)) ≡ map (renamed all x) (if b then c.bits else bits_named n cs)
    by true more = refl
    by false more = more

pub renamed-connected : (all : List Stretch) (x : Path) (n : Name) (cs : ConnectionsView) → bits_named n (renamed_connections all x cs) ≡ map (renamed all x) (connected [] n cs)
renamed-connected all x n (ByName cs) = renamed-named all x n cs
renamed-connected all x n (ByPosition values) = refl

-- ---- bits of the source

-- a bit of the source that has a net bit of an instance in the written netlist
pub record IsBitOf (p : Project) (a : Additions) (x : Path) (b : BitView) (k : Node) : Type 0 where
  pub net : Name
  pub index : Option ℕ
  pub free : is_own net ≡ false
  pub is : node_of x b ≡ Inner net index x
  pub name : name_by p a (OfNode (Inner net index x)) ≡ k

pub bit-of : (p : Project) (a : Additions) (x : Path) (b : BitView) (n : Name) (i : Option ℕ) → IsFreeBit b → node_of x (renamed a.chains x b) ≡ Inner n i x → IsBitOf p a x b (Inner n i x)
bit-of p a x (NetBit m) n i free e = record { net = m; index = None; free = free; is = refl; name = e }
bit-of p a x (SelectBit m j) n i free e = record { net = m; index = Some j; free = free; is = refl; name = e }
bit-of p a x (ConstBit c) n i free e = let is : Fixed c ≡ Inner n i x = node-renamed a.chains x (ConstBit c) ∙ e in absurd cc
