-- Net bits of the written netlist that have a source: those that cells and assigns of the source drive.
use Rattle.std.proofs.Common.{◌≡◌, ℕ, ◌+◌, true, ◌&&◌, List, [], ◌∷◌, ◌++◌, map, Option, Some, inl, inr, refl, sym, ◌∙◌, ap, subst}
use Rattle.std.specs.Prelude.{flat_map, is_some}
use Rattle.lp_model.specs.NetlistView.{BitView, InstanceView, AssignView, ModuleView}
use Rattle.lp_model.specs.LibraryView.{PgPinView, PinView, CellView}
use Rattle.lp_spec_design.specs.Keys.{Name, Path, Node, Inner, Way, AssignBit, Source, CellPin, SwitchedPin, From, same_node}
use Rattle.lp_spec_design.specs.Netlists.{Structure, cell_named, module_at, node_of, connected}
use Rattle.lp_spec_design.specs.Graph.{pairs, some_of, when, numbered, ports_in, is_output_pin, touches, from_one, from_assign, sources_of, source_of}
use Rattle.lp_spec_design.specs.Reads.{node-self, both}
use Rattle.lp_spec_design.specs.Winners.{IsIn}
use Rattle.lp_spec_design.proofs.Members.{in-left, in-right, in-map, in-flat, any-in}
use Rattle.lp_spec_design.proofs.Looped.{source_by}
use Rattle.lp_spec_realises.specs.Projects.{Project}
use Rattle.lp_spec_written.specs.Nets.{stretches_in, renamed, renamed_assign, constant_assign}
use Rattle.lp_spec_written.specs.Routes.{control_assigns}
use Rattle.lp_spec_written.specs.Written.{Additions, written_instance, written_operators, written_switches, written_instances, written_module}
use Rattle.lp_spec_hub.specs.Spots.{OfNode}
use Rattle.lp_spec_wired.specs.Contents.{IsInstance, AreInstances, HasContent, IsWrittenAt}
use Rattle.lp_spec_wired.specs.Names.{name_by, placement_by}
use Rattle.lp_spec_wired.proofs.Chains.{node-renamed}
use Rattle.lp_spec_written_at.proofs.Lists.{in-some}
use Rattle.lp_spec_driven.specs.Sound.{IsProper}
use Rattle.lp_spec_driven.specs.Laws.{CellBitsStand, AssignBitsStand}
use Rattle.lp_spec_driven.proofs.Sources.{one-cell, in-by}
use Rattle.lp_spec_driven.proofs.SourceCells as cells
use Rattle.lp_spec_driven.proofs.Stand.{driven-as-told}

-- ---- a source among all

pub head-of : (w : Structure) (k : Node) (zs : List Source) → sources_of w k ≡ zs → (z : Source) → IsIn z zs → (y : Source) × (source_of w k ≡ Some y)
head-of w k [] e z h = absurd h
head-of w k (y ∷ zs) e z h = (y, source_by w k (y ∷ zs) e)

pub from-instance : (w : Structure) (x : Path) (n : Name) (i : Option ℕ) (here : ModuleView) (h : InstanceView) (z : Source) → module_at w x ≡ Some here → IsIn h here.instances → IsIn z (from_one w x n i h) → (y : Source) × (source_of w (Inner n i x) ≡ Some y)
from-instance w x n i here h z e h_in g =
    head-of w (Inner n i x) (sources_of w (Inner n i x)) refl z
    (subst (λ l. IsIn z l) (sym (in-by w x n i here e))
    (in-right z (ports_in w x n i here) (flat_map (from_one w x n i) here.instances ++ flat_map (from_assign x n i) (numbered 0 here.assigns))
    (in-left z (flat_map (from_one w x n i) here.instances) (flat_map (from_assign x n i) (numbered 0 here.assigns)) (in-flat (from_one w x n i) h z here.instances h_in g))))

pub from-assigned : (w : Structure) (x : Path) (n : Name) (i : Option ℕ) (here : ModuleView) (u : ℕ × AssignView) (z : Source) → module_at w x ≡ Some here → IsIn u (numbered 0 here.assigns) → IsIn z (from_assign x n i u) → (y : Source) × (source_of w (Inner n i x) ≡ Some y)
from-assigned w x n i here u z e u_in g =
    head-of w (Inner n i x) (sources_of w (Inner n i x)) refl z
    (subst (λ l. IsIn z l) (sym (in-by w x n i here e))
    (in-right z (ports_in w x n i here) (flat_map (from_one w x n i) here.instances ++ flat_map (from_assign x n i) (numbered 0 here.assigns))
    (in-right z (flat_map (from_one w x n i) here.instances) (flat_map (from_assign x n i) (numbered 0 here.assigns)) (in-flat (from_assign x n i) u z (numbered 0 here.assigns) u_in g))))

-- each written instance stands in the netlist
pub instance-there : (w : Structure) (x : Path) (ys hs : List InstanceView) (v : InstanceView) → AreInstances w x ys hs → IsIn v ys → (h : InstanceView) × IsIn h hs × IsInstance w x v h
instance-there w x [] [] v are g = absurd g
instance-there w x [] (h ∷ hs) v are g = absurd are
instance-there w x (y ∷ ys) [] v are g = absurd are
instance-there w x (y ∷ ys) (h ∷ hs) v are (inl is) = (h, inl refl, subst (λ u. IsInstance w x u h) (sym is) are.0)
instance-there w x (y ∷ ys) (h ∷ hs) v are (inr g) = let found = instance-there w x ys hs v are.1 g in (found.0, inr found.1, found.2)

-- ---- a cell instance of the source

module _ (p : Project) (a : Additions) (w : Structure) (from : Way → Node) (written : IsWrittenAt p a w) (proper : IsProper p a from) (x : Path) (m : ModuleView) (e : module_at p.structure x ≡ Some m) (n : Name) (i : Option ℕ) (net : Name) (j : Option ℕ) (name : name_by p a (OfNode (Inner n i x)) ≡ Inner net j x) where
  abbrev at_path : HasContent w x (written_module p a x m)
  at_path = written.modules x m e

  cell-source : (y : InstanceView) (c : CellView) → IsIn y m.instances → cell_named p.structure y.target ≡ Some c → (r : PinView) → IsIn r c.pins → is_output_pin r ≡ true → (b : BitView) → IsIn b (connected [] r.name y.connections) → node_of x b ≡ Inner n i x
      → (z : Source) × (source_of w (Inner net j x) ≡ Some z)
  cell-source y c y_in cell r r_in output b b_in is_bit =
      let h = instance-there w x (written_instances p a x m) at_path.here.instances (written_instance p a x y) at_path.content.instances (in-left (written_instance p a x y) (map (written_instance p a x) m.instances) (written_operators p a x ++ written_switches p a x) (in-map (written_instance p a x) y m.instances y_in)) in
      let st = cells.stands p a w (placement_by p a) from written proper.plain proper.fit x m e y h.0 c y_in cell h.2 in
      let q = st.1.all r r_in output in
      let bits : connected [] q.0.name h.0.connections ≡ map (renamed a.chains x) (connected [] q.0.name y.connections) = ap (connected [] q.0.name) h.2.connections ∙ st.1.bits q.0 q.1 q.2 in
      let listed : IsIn (renamed a.chains x b) (connected [] q.0.name h.0.connections) =
      subst (λ l. IsIn (renamed a.chains x b) l) (sym bits) (in-map (renamed a.chains x) b (connected [] q.0.name y.connections) (subst (λ k. IsIn b (connected [] k y.connections)) (sym q.3) b_in)) in
      let node : node_of x (renamed a.chains x b) ≡ Inner net j x = sym (node-renamed a.chains x b) ∙ (ap (λ k. name_by p a (OfNode k)) is_bit ∙ name) in
      let touched = any-in (λ t. same_node (node_of x t) (Inner net j x)) (renamed a.chains x b) (connected [] q.0.name h.0.connections) listed (ap (λ k. same_node k (Inner net j x)) node ∙ node-self (Inner net j x)) in
      from-instance w x net j at_path.here h.0 (CellPin x h.0.name q.0.name) at_path.is h.1
      (subst (λ l. IsIn (CellPin x h.0.name q.0.name) l) (sym (one-cell p a w written x (written_instance p a x y) h.0 h.2 (cells.alone p a w (placement_by p a) from written proper.plain proper.fit x m e y h.0 c y_in cell h.2) st.0 st.1.found net j))
      (in-left (CellPin x h.0.name q.0.name) (some_of (λ (u : PinView). when (is_output_pin u && touches x net j (connected [] u.name h.0.connections)) (CellPin x h.0.name u.name)) st.0.pins)
      (some_of (λ (g : PgPinView). when (is_some g.switched && touches x net j (connected [] g.name h.0.connections)) (SwitchedPin x h.0.name g.name)) st.0.pgs)
      (in-some (λ (u : PinView). when (is_output_pin u && touches x net j (connected [] u.name h.0.connections)) (CellPin x h.0.name u.name)) q.0 (CellPin x h.0.name q.0.name) st.0.pins q.1
      (ap (λ t. when t (CellPin x h.0.name q.0.name)) (both (is_output_pin q.0) (touches x net j (connected [] q.0.name h.0.connections)) q.2 touched)))))

  -- ---- an assign of the source

  numbered-left : {A : Type 0} (k : ℕ) (xs ys : List A) (u : ℕ × A) → IsIn u (numbered k xs) → IsIn u (numbered k (xs ++ ys))
  numbered-left k [] ys u h = absurd h
  numbered-left k (v ∷ xs) ys u (inl is) = inl is
  numbered-left k (v ∷ xs) ys u (inr h) = inr (numbered-left (k + 1) xs ys u h)

  numbered-made : {A B : Type 0} (g : A → B) (k : ℕ) (xs : List A) (u : ℕ × A) → IsIn u (numbered k xs) → IsIn (u.0, g u.1) (numbered k (map g xs))
  numbered-made g k [] u h = absurd h
  numbered-made g k (v ∷ xs) u (inl is) = inl (ap (λ (t : ℕ × _). (t.0, g t.1)) is)
  numbered-made g k (v ∷ xs) u (inr h) = inr (numbered-made g (k + 1) xs u h)

  pairs-made : (xs ys : List BitView) → pairs (map (renamed a.chains x) xs) (map (renamed a.chains x) ys) ≡ map (λ (t : BitView × BitView). (renamed a.chains x t.0, renamed a.chains x t.1)) (pairs xs ys)
  pairs-made [] ys = refl
  pairs-made (u ∷ xs) [] = refl
  pairs-made (u ∷ xs) (v ∷ ys) = ap (λ r. (renamed a.chains x u, renamed a.chains x v) ∷ r) (pairs-made xs ys)

  assign-source : (k l : ℕ) (q : AssignView) (two : BitView × BitView) → IsIn (k, q) (numbered 0 m.assigns) → IsIn (l, two) (numbered 0 (pairs q.left q.right)) → node_of x two.0 ≡ Inner n i x → (z : Source) × (source_of w (Inner net j x) ≡ Some z)
  assign-source k l q two q_in two_in is_bit =
      let node : node_of x (renamed a.chains x two.0) ≡ Inner net j x = sym (node-renamed a.chains x two.0) ∙ (ap (λ r. name_by p a (OfNode r)) is_bit ∙ name) in
      from-assigned w x net j at_path.here (k, renamed_assign a.chains x q) (From (AssignBit x k l) (node_of x (renamed a.chains x two.1))) at_path.is
      (subst (λ r. IsIn (k, renamed_assign a.chains x q) (numbered 0 r)) (sym at_path.content.assigns)
      (numbered-left 0 (map (renamed_assign a.chains x) m.assigns) (some_of (constant_assign p) (stretches_in a.chains x) ++ control_assigns a.chains a.controls x) (k, renamed_assign a.chains x q) (numbered-made (renamed_assign a.chains x) 0 m.assigns (k, q) q_in)))
      (in-some (λ (pair : ℕ × (BitView × BitView)). when (same_node (node_of x pair.1.0) (Inner net j x)) (From (AssignBit x k pair.0) (node_of x pair.1.1))) (l, (renamed a.chains x two.0, renamed a.chains x two.1)) (From (AssignBit x k l) (node_of x (renamed a.chains x two.1)))
      (numbered 0 (pairs (map (renamed a.chains x) q.left) (map (renamed a.chains x) q.right)))
      (subst (λ r. IsIn (l, (renamed a.chains x two.0, renamed a.chains x two.1)) (numbered 0 r)) (sym (pairs-made q.left q.right)) (numbered-made (λ (t : BitView × BitView). (renamed a.chains x t.0, renamed a.chains x t.1)) 0 (pairs q.left q.right) (l, two) two_in))
      (ap (λ t. when t (From (AssignBit x k l) (node_of x (renamed a.chains x two.1)))) (ap (λ r. same_node r (Inner net j x)) node ∙ node-self (Inner net j x))))

pub cell-bits-stand : CellBitsStand
cell-bits-stand p a w from written proper x m e y c y_in cell r r_in output b b_in n i free is_bit net j name =
    let found = cell-source p a w from written proper x m e n i net j name y c y_in cell r r_in output b b_in is_bit in
    driven-as-told p a w from written proper (OfNode (Inner n i x)) free net j x name m e found.0 found.1

pub assign-bits-stand : AssignBitsStand
assign-bits-stand p a w from written proper x m e k l q two q_in two_in n i free is_bit net j name =
    let found = assign-source p a w from written proper x m e n i net j name k l q two q_in two_in is_bit in
    driven-as-told p a w from written proper (OfNode (Inner n i x)) free net j x name m e found.0 found.1
