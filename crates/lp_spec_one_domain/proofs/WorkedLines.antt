-- The worked netlist meets all that is asked of one that is taken with one domain, and so the theorem of insertion speaks of it.
use Rattle.std.proofs.Common.{◌≡◌, true, [], None, refl}
use Rattle.std.specs.Prelude.{◌==◌, if◌then◌else◌}
use Rattle.std.proofs.Common.{arith}
use Rattle.lp_tern.specs.declared.tern.Tern.TheVariants.{Zero}
use Rattle.lp_tern.specs.declared.supply.SupplyState.TheVariants.{On}
use Rattle.lp_spec_design.specs.Nodes.{computing}
use Rattle.lp_spec_design.specs.Settled.{Event}
use Rattle.lp_spec_realises.specs.Surroundings.{IsWithinRows}
use Rattle.lp_spec_faults.specs.Lines.{first_of}
use Rattle.lp_spec_faults.specs.Modules.{reserved_name, unknown_module, recursive, top_count}
use Rattle.lp_spec_faults.specs.Readings.{loop}
use Rattle.lp_spec_faults.specs.Wires.{wire_loop, unknown_pin, already_powered, two_drivers}
use Rattle.lp_spec_faultless.specs.Faults.{loop_steps}
use Rattle.lp_spec_together.specs.Laws.{SharedImplements}
use Rattle.lp_spec_one_domain.specs.Laws.{OneDomainIsRead, OneDomainIsInsertable, OneDomainIsWithinLimits}
use Rattle.lp_spec_one_domain.specs.Met.{has_each_kind, MeetsOneDomain, OneDomainIsMet}
use Rattle.lp_spec_one_domain.specs.OneDomain.{project_of}
use Rattle.lp_spec_one_domain.specs.Taken.{HasNoNetlistFault, lost_otherwise, TakesOneDomain}
use Rattle.lp_spec_one_domain.proofs.Worked.{worked, no_lists}
use Rattle.lp_spec_one_domain.proofs.WorkedSource.{limits, source}

each_kind : has_each_kind worked.structure ≡ true
each_kind = refl

-- ---- no line holds

targets : first_of (unknown_module worked.structure) ≡ None
targets = refl

not_recursive : first_of (recursive worked.structure) ≡ None
not_recursive = refl

one_top : first_of (top_count worked.structure) ≡ None
one_top = refl

names : first_of (reserved_name worked.structure) ≡ None
names = refl

pins : first_of (unknown_pin worked.structure) ≡ None
pins = refl

one_driver : first_of (two_drivers worked.structure) ≡ None
unfolding computing
one_driver = refl

not_powered : first_of (already_powered worked.structure) ≡ None
not_powered = refl

no_wire_loop : first_of (wire_loop worked.structure) ≡ None
unfolding computing
no_wire_loop = refl

no_loop : first_of (loop (project_of worked) (loop_steps (project_of worked))) ≡ None
unfolding computing
no_loop = refl

lost_with_it : first_of (lost_otherwise worked.structure) ≡ None
unfolding computing
lost_with_it = refl

faultless : HasNoNetlistFault worked.structure
faultless = record {
  targets = targets;
  not_recursive = not_recursive;
  one_top = one_top;
  names = names;
  pins = pins;
  one_driver = one_driver;
  not_powered = not_powered;
  within_limits = limits;
  no_wire_loop = no_wire_loop;
  cells_fit = refl;
}

taken : TakesOneDomain worked
taken = record { two_names = refl; low = omega arith; netlist = faultless; no_loop = no_loop; lost_with_it = lost_with_it }

-- ---- an event: VDD at 0.9, the ground at 0

all_on : Event
all_on = record { inputs = λ n i. Zero; supplies = λ o. if o == 0 then On 900000 else On 0 }

on_is_within : IsWithinRows (project_of worked) all_on
unfolding all_on
on_is_within = (0, [], refl, refl)

meets : MeetsOneDomain worked
meets = record { source = source; taken = taken; event = all_on; within_rows = on_is_within }

pub is-met : OneDomainIsRead → OneDomainIsInsertable → OneDomainIsWithinLimits → SharedImplements → OneDomainIsMet
is-met is-read insertable within implemented =
    let both = implemented (project_of worked) no_lists (λ o. 0) (is-read worked source taken) (insertable worked no_lists (λ o. 0) taken) (within worked no_lists source taken) in
    (worked, no_lists, each_kind, meets, both.0, both.1)
