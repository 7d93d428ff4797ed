-- No line of the table of faults holds of the worked project.
use Rattle.std.proofs.Common.{◌≡◌, None, refl}
use Rattle.lp_spec_design.specs.Nodes.{computing}
use Rattle.lp_spec_faults.specs.Lines.{first_of}
use Rattle.lp_spec_faults.specs.Domains.{no_domain, no_primary}
use Rattle.lp_spec_faults.specs.Modules.{reserved_name, unknown_module, recursive, top_count}
use Rattle.lp_spec_faults.specs.Readings.{unfit_power, uncovered_level, control_level, loop, no_cell}
use Rattle.lp_spec_faults.specs.Strategies.{location_order}
use Rattle.lp_spec_faults.specs.Supplies.{no_states}
use Rattle.lp_spec_faults.specs.Wires.{wire_loop, unknown_pin, already_powered, two_drivers}
use Rattle.lp_spec_faultless.specs.Faults.{loop_steps}
use Rattle.lp_spec_proper.specs.Insertable.{IsInsertable}
use Rattle.lp_spec_worked.proofs.Worked.{worked, lists}
use Rattle.lp_spec_worked.proofs.Reading.{limits}

pub states : first_of (no_states worked.supplies) ≡ None
unfolding computing
states = refl

pub levels : first_of (uncovered_level worked) ≡ None
unfolding computing
levels = refl

pub control_levels : first_of (control_level worked (λ o. 0)) ≡ None
unfolding computing
control_levels = refl

pub unfit_powers : first_of (unfit_power worked) ≡ None
unfolding computing
unfit_powers = refl

pub targets : first_of (unknown_module worked.structure) ≡ None
unfolding computing
targets = refl

pub not_recursive : first_of (recursive worked.structure) ≡ None
unfolding computing
not_recursive = refl

pub one_top : first_of (top_count worked.structure) ≡ None
unfolding computing
one_top = refl

pub names : first_of (reserved_name worked.structure) ≡ None
unfolding computing
names = refl

pub pins : first_of (unknown_pin worked.structure) ≡ None
unfolding computing
pins = refl

pub one_driver : first_of (two_drivers worked.structure) ≡ None
unfolding computing
one_driver = refl

pub not_powered : first_of (already_powered worked.structure) ≡ None
unfolding computing
not_powered = refl

pub has_domains : first_of (no_domain worked.intent) ≡ None
unfolding computing
has_domains = refl

pub has_primaries : first_of (no_primary worked.intent) ≡ None
unfolding computing
has_primaries = refl

pub locations : first_of (location_order worked) ≡ None
unfolding computing
locations = refl

pub has_cells : first_of (no_cell worked lists) ≡ None
unfolding computing
has_cells = refl

pub no_wire_loop : first_of (wire_loop worked.structure) ≡ None
unfolding computing
no_wire_loop = refl

pub no_loop : first_of (loop worked (loop_steps worked)) ≡ None
unfolding computing
no_loop = refl

pub insertable : IsInsertable worked lists (λ o. 0)
insertable = record {
  values = record { no_loop = no_loop; within_limits = limits; no_wire_loop = no_wire_loop; states = states; levels = levels; control_levels = control_levels; cells_fit = refl; unfit_power = unfit_powers };
  targets = targets;
  not_recursive = not_recursive;
  one_top = one_top;
  names = names;
  pins = pins;
  one_driver = one_driver;
  not_powered = not_powered;
  domains = has_domains;
  primaries = has_primaries;
  locations = locations;
  cells = has_cells;
}
