-- The worked project has each kind of addition and meets the premises, and so the theorem of insertion speaks of it.
use Rattle.std.proofs.Common.{◌≡◌, true, [], refl}
use Rattle.std.specs.Prelude.{◌==◌, if◌then◌else◌}
use Rattle.lp_tern.specs.declared.tern.Tern.TheVariants.{Zero}
use Rattle.lp_tern.specs.declared.supply.SupplyState.TheVariants.{On}
use Rattle.lp_spec_design.specs.Nodes.{computing}
use Rattle.lp_spec_design.specs.Settled.{Event}
use Rattle.lp_spec_realises.specs.Surroundings.{IsWithinRows}
use Rattle.lp_spec_together.specs.Laws.{SharedImplements}
use Rattle.lp_spec_worked.specs.Met.{has_each_kind, MeetsPremises, InsertionIsMet}
use Rattle.lp_spec_worked.proofs.Worked.{worked, lists}
use Rattle.lp_spec_worked.proofs.Reading.{read}
use Rattle.lp_spec_worked.proofs.Lines.{insertable}
use Rattle.lp_spec_worked.proofs.Limits.{within}

each_kind : has_each_kind worked ≡ true
unfolding computing
each_kind = refl

-- VDD at 1.0, the ground at 0 and VDL at 0.8
all_on : Event
all_on = record { inputs = λ n i. Zero; supplies = λ o. if o == 2 then On 0 else if o == 3 then On 800000 else On 1000000 }

on_is_within : IsWithinRows worked all_on
unfolding computing all_on
on_is_within = (0, [], refl, refl)

meets : MeetsPremises worked lists
meets = record { switch_command = λ o. 0; read = read; insertable = insertable; within = within; event = all_on; within_rows = on_is_within }

pub insertion_is_met : SharedImplements → InsertionIsMet
insertion_is_met implemented = let both = implemented worked lists (λ o. 0) read insertable within in (worked, lists, each_kind, meets, both.0, both.1)
