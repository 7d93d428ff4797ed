-- The worked netlist is what readers give of a netlist and of a library.
use Rattle.std.proofs.Common.{◌≡◌, ◌≤◌, ◌<◌, true, Bool, List, length, Option, Some, None, inl, inr, refl, sym, ap, ◌∙◌, subst}
use Rattle.std.specs.List.{list_all, list_any}
use Rattle.std.proofs.lemmas.Bool.{cases_lt}
use Rattle.lp_model.specs.declared.fault.netlist.NetlistLimit.TheVariants as depths
use Rattle.lp_model.specs.NetlistView.{BitView, NetBit, SelectBit, ConstBit, AssignView, ModuleView}
use Rattle.lp_model.specs.LibraryView.{CellView}
use Rattle.lp_spec_design.specs.Keys.{Path, Node, Inner, same_node}
use Rattle.lp_spec_design.specs.Reads.{node-true}
use Rattle.lp_spec_design.proofs.Members.{of-any}
use Rattle.lp_spec_design.proofs.Sources.{in_reach}
use Rattle.lp_spec_design.specs.Instances.{module_instances}
use Rattle.lp_spec_design.specs.Netlists.{module_at}
use Rattle.lp_spec_design.specs.Nodes.{computing, nodes_in, DeclaresBits, IsDeclared}
use Rattle.lp_spec_design.specs.Winners.{IsIn}
use Rattle.lp_spec_fit.proofs.Samples.{register}
use Rattle.lp_spec_realises.specs.ProjectNetlists.{is_declared}
use Rattle.lp_spec_faults.specs.Lines.{first_of}
use Rattle.lp_spec_faults.specs.Modules.{netlist_limits}
use Rattle.lp_spec_faults.proofs.Depth.{shallow}
use Rattle.lp_spec_agreement.specs.Faultless.{IsSoundCell}
use Rattle.lp_spec_agreement.proofs.Apart.{all_in}
use Rattle.lp_spec_agreement.proofs.Framed.{no_fault}
use Rattle.lp_spec_agreement.proofs.Orders.{declares}
use Rattle.lp_spec_agreement.proofs.Premises.{buffer_sound}
use Rattle.lp_spec_faultless.specs.Faults.{IsReadNetlist}
use Rattle.lp_spec_one_domain.specs.Taken.{IsReadSource}
use Rattle.lp_spec_one_domain.proofs.Worked.{worked}

pub limits : first_of (netlist_limits worked.structure) ≡ None
unfolding computing
limits = refl

is_shallow : (q : Path) → 64 ≤ length q → module_at worked.structure q ≡ None
is_shallow q long = shallow worked.structure (no_fault (netlist_limits worked.structure) limits depths.Depth (inr (inr (inl refl)))) q long

declared : DeclaresBits worked.structure
unfolding computing
declared = declares worked.structure is_shallow refl

-- ---- what assigns take is declared

is_instance : (q : Path) (m : ModuleView) → module_at worked.structure q ≡ Some m → IsIn q (module_instances worked.structure)
unfolding module_instances
is_instance q m e = in_reach worked.structure 64 q m e short
  where
    short : length q < 64
    short = elim (cases_lt (length q) 64) [
      | inl less ↦ less
      | inr more ↦ let none : None ≡ Some m = sym (is_shallow q more) ∙ e in absurd cc
    ]

same_in : (k : Node) (nodes : List Node) → list_any (same_node k) nodes ≡ true → IsIn k nodes
same_in k nodes e = let found = of-any (same_node k) nodes e in subst (λ j. IsIn j nodes) (sym (node-true k found.0 found.2)) found.1

as_declared : (q : Path) (m : ModuleView) (b : BitView) → is_declared q (nodes_in q (Some m)) b ≡ true → IsDeclared q m b
as_declared q m (ConstBit b) e = tt
as_declared q m (NetBit n) e = same_in (Inner n None q) (nodes_in q (Some m)) e
as_declared q m (SelectBit n i) e = same_in (Inner n (Some i) q) (nodes_in q (Some m)) e

assign_declares : Path → ModuleView → AssignView → Bool
assign_declares q m a = list_all (is_declared q (nodes_in q (Some m))) a.right

assigns_declare : Path → Option ModuleView → Bool
assigns_declare q None = true
assigns_declare q (Some m) = list_all (assign_declares q m) m.assigns

all_declare : list_all (λ q. assigns_declare q (module_at worked.structure q)) (module_instances worked.structure) ≡ true
unfolding computing assigns_declare assign_declares
all_declare = refl

assigned : (q : Path) (m : ModuleView) (a : AssignView) (b : BitView) → module_at worked.structure q ≡ Some m → IsIn a m.assigns → IsIn b a.right → IsDeclared q m b
unfolding assigns_declare assign_declares
assigned q m a b e h g =
    let there = all_in (λ (r : Path). assigns_declare r (module_at worked.structure r)) q (module_instances worked.structure) all_declare (is_instance q m e) in
    let here : assigns_declare q (Some m) ≡ true = ap (assigns_declare q) (sym e) ∙ there in
    as_declared q m b (all_in (is_declared q (nodes_in q (Some m))) b a.right (all_in (assign_declares q m) a m.assigns here h) g)

netlist : IsReadNetlist worked.structure
netlist = record { names_apart = refl; declared = declared.declared; assigned = assigned }

-- ---- cells

register_sound : IsSoundCell register
register_sound = record { names = refl; switched = refl; sound = record { names_apart = refl; pgs_apart = refl; related = refl; pins = refl; switched = refl; state = refl; retention = refl; powered = refl } }

all_sound : (c : CellView) → IsIn c worked.structure.cells → IsSoundCell c
all_sound c (inl is) = subst IsSoundCell (sym is) buffer_sound
all_sound c (inr (inl is)) = subst IsSoundCell (sym is) register_sound
all_sound c (inr (inr gone)) = absurd gone

pub source : IsReadSource worked.structure
source = record { netlist = netlist; library = λ c h usable. all_sound c h; cell_names = refl; free_cells = refl }
