-- What is claimed of the strategies of a project whose parts are given by number (own rule).
use Rattle.std.specs.Prelude.{◌≡◌, ℕ, Bool, true, List, Some, slice_get}
use Rattle.std.specs.List.{list_any, list_all}
use Rattle.lp_model.specs.declared.fault.strategy.StrategyFault.{StrategyFault}
use Rattle.lp_model.specs.declared.fault.strategy.StrategyFault.TheVariants.{NotBoundary}
use Rattle.lp_model.specs.declared.graph.Graph.{Graph}
use Rattle.lp_model.specs.declared.intent.Element as model_element
use Rattle.lp_model.specs.declared.intent.Intent as model
use Rattle.lp_spec_design.specs.Netlists.{Structure}
use Rattle.lp_spec_design.specs.Intents.{Element, AtPort, AtBit, Strategy}
use Rattle.lp_spec_design.specs.Domains.{bits_of}
use Rattle.lp_spec_design.specs.Winners.{names}
use Rattle.lp_spec_realises.specs.Projects.{Project}
use Rattle.lp_spec_faults.specs.Lines.{first_of}
use Rattle.lp_spec_faults.specs.Strategies.{listed_elements, not_boundary}
use Rattle.lp_spec_bridge.specs.Tables.{tables_of}
use Rattle.lp_spec_bridge.specs.Keyed.{keys_of}
use Rattle.lp_spec_bridge.specs.Names.{HasNamesApart}
use Rattle.lp_spec_bridge.specs.Elaborates.{Elaborates}
use Rattle.lp_spec_views.specs.Views.{element_view, intent_view}
use Rattle.lp_spec_views.specs.Ranges.{IsInRange}
use Rattle.lp_domains.specs.Domains.{HasDomains}

-- a port that is named is one of its instance, and so is a bit
abbrev pub stands : Structure → Element → Bool
stands s (AtPort q n) = list_any (λ b. names b (AtPort q n)) (bits_of s q)
stands s (AtBit q n j) = list_any (λ b. names b (AtBit q n j)) (bits_of s q)
stands s _ = true

abbrev pub has_ports : Structure → Strategy → Bool
has_ports s t = list_all (stands s) (listed_elements t.elements)

-- the project's design is the one that the graph elaborates, its power intent is what the numbers say, and the domain of each instance is given
pub record IsGiven (p : Project) (i : model.Intent) (g : Graph) (domains : List ℕ) : Type 0 where
  pub texts : List (List ℕ)
  pub elaborates : Elaborates texts p.structure (tables_of g)
  pub apart : HasNamesApart p.structure
  pub ranges : IsInRange (tables_of g) i
  pub intent : p.intent ≡ intent_view p.structure (keys_of p.structure) i
  pub members : HasDomains p.structure p.intent domains
  pub ports : list_all (has_ports p.structure) p.intent.strategies ≡ true

-- what is claimed of each such project
abbrev pub OnProject : model.Intent → Graph → List ℕ → (Project → Type 0) → Type 0
OnProject i g domains claim = (p : Project) → IsGiven p i g domains → claim p

-- an element of a strategy, by their numbers, is the first that names nothing on which its strategy can act
pub record IsFirstMisplaced (p : Project) (k : ℕ) (e : model_element.Element) : Type 0 where
  pub strategy : Strategy
  pub numbered : slice_get p.intent.strategies k ≡ Some strategy
  pub fault : first_of (not_boundary p) ≡ Some (record { strategy = strategy; element = element_view p.structure (keys_of p.structure) e })

abbrev pub IsMisplaced : Project → StrategyFault → Type 0
IsMisplaced p (NotBoundary k e) = IsFirstMisplaced p k.0 e
IsMisplaced p _ = ⊥
