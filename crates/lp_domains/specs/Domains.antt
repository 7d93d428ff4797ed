-- What is claimed of the domains of an elaborated netlist, and of their faults (own rule).
use Rattle.std.specs.Prelude.{◌≡◌, ℕ, Bool, false, not, List, [], map, filter, Option, Some, None, option_map, is_some, slice_get}
use Rattle.std.specs.List.{list_any}
use Rattle.lp_text.specs.declared.names.NameId.{NameId}
use Rattle.lp_model.specs.declared.fault.refusal.DesignFault.TheVariants as of_design
use Rattle.lp_model.specs.declared.fault.refusal.Fault.TheVariants as kinds
use Rattle.lp_model.specs.declared.fault.refusal.Refusal.{Refusal}
use Rattle.lp_model.specs.declared.fault.refusal.Refusal.TheVariants as refusals
use Rattle.lp_model.specs.declared.fault.supply.SupplyFault.TheVariants as faults
use Rattle.lp_model.specs.declared.graph.Graph.{Graph}
use Rattle.lp_model.specs.declared.graph.Inst.{Inst}
use Rattle.lp_model.specs.declared.ids.EdgeId.{EdgeId}
use Rattle.lp_model.specs.declared.intent.Domain as model_domain
use Rattle.lp_model.specs.declared.intent.Intent as model
use Rattle.lp_model.specs.declared.supply.DomainMap.{DomainMap}
use Rattle.lp_spec_design.specs.Keys.{Way, PortBit, AssignBit, same_way}
use Rattle.lp_spec_design.specs.Netlists.{Structure}
use Rattle.lp_spec_design.specs.Instances.{module_instances}
use Rattle.lp_spec_design.specs.Intents.{Domain, Intent}
use Rattle.lp_spec_design.specs.Domains.{first_number, domain_of, is_boundary, boundary, way_of}
use Rattle.lp_spec_design.specs.Chains.{bit_of_way}
use Rattle.lp_spec_bridge.specs.Tables.{tables_of}
use Rattle.lp_spec_bridge.specs.Keyed.{keys_of, way_at}
use Rattle.lp_spec_bridge.specs.Names.{HasNamesApart}
use Rattle.lp_spec_bridge.specs.Elaborates.{Elaborates}
use Rattle.lp_spec_faults.specs.Lines.{first_of}
use Rattle.lp_spec_faults.specs.Domains.{no_domain, no_primary}
use Rattle.lp_spec_views.specs.Views.{intent_view}
use Rattle.lp_spec_views.specs.Ranges.{IsInRange}

-- what is claimed of each design that the graph elaborates, under the power intent that its numbers say
abbrev pub OnElaborated : model.Intent → Graph → (Structure → Intent → Type 0) → Type 0
OnElaborated i g claim = (texts : List (List ℕ)) (s : Structure) → Elaborates texts s (tables_of g) → IsInRange (tables_of g) i → claim s (intent_view s (keys_of s) i)

-- each instance has the domain that is given for it, and neither line has a fault
pub record HasDomains (s : Structure) (i : Intent) (given : List ℕ) : Type 0 where
  pub topped : first_of (no_domain i) ≡ None
  pub primary : first_of (no_primary i) ≡ None
  pub domains : map (λ d. Some d) given ≡ map (domain_of i) (module_instances s)

-- the name of the top's module
abbrev pub top_name : Graph → Option NameId
top_name g = option_map (λ (x : Inst). x.name) (slice_get g.instances 0)

-- the top is in no domain
pub record IsNoDomain (g : Graph) (i : Intent) (top : NameId) : Type 0 where
  pub name : top_name g ≡ Some top
  pub fault : first_of (no_domain i) ≡ Some []

-- the first domain without a primary supply, where the top has a domain
pub record IsNoPrimary (i : Intent) (domain : ℕ) : Type 0 where
  pub topped : first_of (no_domain i) ≡ None
  pub fault : option_map (λ (d : ℕ × Domain). d.0) (first_of (no_primary i)) ≡ Some domain

-- memory was refused, or the first of both lines has this fault
abbrev pub IsDomainFault : Graph → Structure → Intent → Refusal → Type 0
IsDomainFault g s i refusals.NoMemory = Unit {0}
IsDomainFault g s i (refusals.Fault (kinds.Design (of_design.Supply (faults.NoDomain top)))) = IsNoDomain g i top
IsDomainFault g s i (refusals.Fault (kinds.Design (of_design.Supply (faults.NoPrimary domain)))) = IsNoPrimary i domain
IsDomainFault g s i _ = ⊥

-- ---- where domains meet

-- a boundary bit that nothing is connected to has no edge
abbrev pub has_edge : Structure → Way → Bool
has_edge s w = list_any (same_way w) (keys_of s).ways

-- the domains, the edges that are boundary bits, and these in port order
pub record HasBoundary (s : Structure) (i : Intent) (m : DomainMap) : Type 0 where
  pub members : HasDomains s i m.domain_of
  pub edges : m.boundary ≡ map (λ w. is_some (bit_of_way s i w)) (keys_of s).ways
  pub bits : map (λ (e : EdgeId). way_at (keys_of s) e.0) m.bits ≡ filter (has_edge s) (map way_of (boundary s i))

-- as above, of designs with names that are told apart in each module
abbrev pub OnNamed : model.Intent → Graph → (Structure → Intent → Type 0) → Type 0
OnNamed i g claim = OnElaborated i g (λ s by_paths. HasNamesApart s → claim s by_paths)

-- ---- by numbers

-- the name of the top, where it is listed by no domain
abbrev pub unlisted_top : Option Inst → Option (Option ℕ) → Option NameId
unlisted_top (Some top) (Some None) = Some top.name
unlisted_top _ _ = None

-- the first domain without a primary supply
abbrev pub without_primary : List model_domain.Domain → Option ℕ
without_primary ds = first_number (λ (d : model_domain.Domain). not (is_some d.primary)) 0 ds

-- whether a way is one of a port of an instance at which domains meet
abbrev pub is_boundary_way : Intent → Way → Bool
is_boundary_way i (PortBit p n k) = is_boundary i p
is_boundary_way i (AssignBit p a k) = false
