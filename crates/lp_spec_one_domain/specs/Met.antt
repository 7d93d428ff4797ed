-- What it is that a netlist of many modules meets all that is asked of one that is taken with one domain (own rule).
use Rattle.std.specs.Prelude.{Bool, true, ◌&&◌, length, nat_lt, is_some, IsTrue}
use Rattle.std.specs.List.{list_any}
use Rattle.lp_model.specs.NetlistView.{NetView, AssignView, ModuleView}
use Rattle.lp_model.specs.LibraryView.{CellView}
use Rattle.lp_spec_design.specs.Netlists.{Structure}
use Rattle.lp_spec_design.specs.Settled.{Event}
use Rattle.lp_spec_realises.specs.Implements.{Lists}
use Rattle.lp_spec_realises.specs.Surroundings.{IsWithinRows}
use Rattle.lp_spec_written.specs.Implements.{Implements}
use Rattle.lp_spec_written.specs.Shared.{shared}
use Rattle.lp_spec_written.specs.Written.{written}
use Rattle.lp_spec_together.specs.Laws.{ShowsTheSame}
use Rattle.lp_spec_one_domain.specs.OneDomain.{OneDomain, project_of}
use Rattle.lp_spec_one_domain.specs.Taken.{IsReadSource, TakesOneDomain}

-- two modules or more, a net of more bits, an assign and a register's cell
abbrev pub has_vector : ModuleView → Bool
has_vector m = list_any (λ (n : NetView). is_some n.range) m.nets

abbrev pub has_assign : ModuleView → Bool
has_assign m = list_any (λ (a : AssignView). true) m.assigns

abbrev pub has_each_kind : Structure → Bool
has_each_kind s = nat_lt 1 (length s.modules) && (list_any has_vector s.modules && (list_any has_assign s.modules && list_any (λ (c : CellView). is_some c.state) s.cells))

-- a netlist is what readers give and is taken with its one domain, and some event is within the rows of its state table
pub record MeetsOneDomain (d : OneDomain) : Type 0 where
  pub source : IsReadSource d.structure
  pub taken : TakesOneDomain d
  pub event : Event
  pub within_rows : IsWithinRows (project_of d) event

-- some netlist with each kind does, and so its written netlist implements it and shows what it shows
abbrev pub OneDomainIsMet : Type 0
OneDomainIsMet =
    (d : OneDomain) × (l : Lists)
    × IsTrue (has_each_kind d.structure)
    × MeetsOneDomain d
    × Implements (project_of d) l (shared (written (project_of d) l))
    × ShowsTheSame (project_of d) l (shared (written (project_of d) l))
