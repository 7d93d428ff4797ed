-- Which wires are there in the netlist that is written, and what it is that all of them stand (own rule).
use Rattle.std.specs.Prelude.{◌≡◌, ℕ, Bool, true, false, not, ◌&&◌, [], Option, Some, None, is_some, bytes_eq}
use Rattle.std.specs.List.{list_any}
use Rattle.lp_model.specs.NetlistView.{BitView, PortView, AssignView, ModuleView}
use Rattle.lp_spec_design.specs.Keys.{Name, Path, Node, Inner, Outer, Fixed, Way, same_index}
use Rattle.lp_spec_design.specs.Netlists.{Structure, module_at, indices}
use Rattle.lp_spec_design.specs.Winners.{IsIn}
use Rattle.lp_spec_faults.specs.Modules.{is_own}
use Rattle.lp_spec_realises.specs.Projects.{Project}
use Rattle.lp_spec_written.specs.Places.{instances, Switching}
use Rattle.lp_spec_written.specs.Supplies.{Use}
use Rattle.lp_spec_written.specs.Routes.{Part, PortOut}
use Rattle.lp_spec_written.specs.Written.{Additions}
use Rattle.lp_spec_hub.specs.Spots.{Spot, OfNode}
use Rattle.lp_spec_hub.specs.Drives.{drive}
use Rattle.lp_spec_wired.specs.Names.{placement_by}
use Rattle.lp_spec_wired.specs.Laws.{IsFreeBit, done_of, StandsFor}
use Rattle.lp_spec_driven.specs.Wires.{IsFreeNode}

-- ---- wires

-- a bit of a port of the top
abbrev pub is_top_bit : Name → Option ℕ → Option ModuleView → Bool
is_top_bit n i None = false
is_top_bit n i (Some m) = list_any (λ (q : PortView). bytes_eq q.name n && list_any (same_index i) (indices q.range)) m.ports

-- a net bit of an instance that has no name of an addition, the outer side of a bit of a port of the top, or a constant
abbrev pub is_kept : Structure → Node → Bool
is_kept s (Inner n i x) = not (is_own n) && is_some (module_at s x)
is_kept s (Outer n i) = is_top_bit n i (module_at s [])
is_kept s (Fixed b) = true

-- a net bit of the source, or a wire that something drives
abbrev pub is_wire : Project → Additions → (Way → Node) → Spot → Bool
is_wire p a from (OfNode k) = is_kept p.structure k
is_wire p a from x = is_some (drive p (done_of a) from x)

-- the net bit of each of them has as source what drives it
abbrev pub AllStand : Project → Additions → Structure → (Way → Node) → Type 0
AllStand p a w from = (x : Spot) → is_wire p a from x ≡ true → StandsFor p a w (placement_by p a) from x

-- ---- what a project has

-- there is a top; switches, parts of control routes and users of supplies stand in instances; no control goes out of the top;
-- neither controls nor what assigns take have names of additions
pub record HasPlaces (p : Project) (a : Additions) : Type 0 where
  pub top : is_some (module_at p.structure []) ≡ true
  pub switches : (s : Switching) → IsIn s a.plan.switches → IsIn s.path (instances p)
  pub parts : (t : Part) → IsIn t a.controls → IsIn t.path (instances p)
  pub below : (t : Part) → IsIn t a.controls → t.kind ≡ PortOut → t.path ≡ [] → ⊥
  pub controls : (t : Part) → IsIn t a.controls → IsFreeNode t.control
  pub users : (u : Use) → IsIn u a.uses → IsIn u.0 (instances p)
  pub assigned :
      (x : Path) (m : ModuleView) (q : AssignView) (b : BitView)
      → module_at p.structure x ≡ Some m
      → IsIn q m.assigns
      → IsIn b q.right
      → IsFreeBit b
