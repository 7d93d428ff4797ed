-- A register with retention over its events, computed on a small design.
use Rattle.std.proofs.Common.{◌≡◌, true, false, [], ◌∷◌, Option, Some, None, refl}
use Rattle.std.specs.Prelude.{◌==◌, bytes_eq, if◌then◌else◌, codes, map, option_and_then}
use Rattle.lp_tern.specs.declared.tern.Tern.{Tern}
use Rattle.lp_tern.specs.declared.tern.Tern.TheVariants.{Zero, One, X}
use Rattle.lp_tern.specs.declared.supply.SupplyState.{SupplyState}
use Rattle.lp_tern.specs.declared.supply.SupplyState.TheVariants.{On, Off, Unknown}
use Rattle.lp_model.specs.declared.intent.Applies.TheVariants.{Outputs}
use Rattle.lp_spec_design.specs.Nodes.{computing}
use Rattle.lp_spec_design.specs.Intents.{Intent, AtInstance, AtCell}
use Rattle.lp_spec_design.specs.Settled.{Assignment, Design, Event, output, computed}
use Rattle.lp_spec_design.specs.Registers.{States, retention_winner, is_register, is_retained_register, states_after}
use Rattle.lp_spec_design.proofs.Samples.{registered, to, with_strategies, isolation, retaining, network, volts}
use Rattle.lp_model.specs.NetlistView.{ConstBit, ByName, InstanceView, ModuleView}
use Rattle.lp_spec_design.specs.Netlists.{Structure}

abbrev design : Design
design = record { structure = registered; network = network (volts 1000000 1000000 1000000); intent = with_strategies (isolation 1 None Outputs ∷ retaining None ∷ []) }

-- the data is 1; the ground, the top's supply and, but for the second form, the retention supply are on
abbrev event_with : SupplyState → Tern → Tern → Tern → Tern → SupplyState → Event
event_with spare ck en sv rs block = record {
  inputs = λ n j. if bytes_eq n (codes "ck") then ck else if bytes_eq n (codes "en") then en else if bytes_eq n (codes "sv") then sv else if bytes_eq n (codes "rs") then rs else One;
  supplies = λ o. if o == 1 then block else if o == 2 then spare else if o == 3 then On 0 else On 1000000;
}

abbrev event : Tern → Tern → Tern → Tern → SupplyState → Event
event = event_with (On 1000000)

-- the main and the saved state of each register
abbrev states : Tern → Tern → States
states m v = record { main = λ p x. m; saved = λ p x. v }

abbrev settled : Event → Tern → Assignment
settled ev m = computed design ev (states m X).main 12

abbrev y : Event → Tern → Tern
y ev m = output design (settled ev m) (codes "y") None None

abbrev of_register : States → Tern × Tern
of_register q = (q.main (codes "u" ∷ []) (codes "r"), q.saved (codes "u" ∷ []) (codes "r"))

abbrev next : Option Assignment → Event → Tern → Tern → Tern × Tern
next last ev m v = of_register (states_after design last (settled ev m) (states m v))

abbrev idle : Event
idle = event Zero Zero Zero Zero (On 1000000)

abbrev clocked : Event
clocked = event One Zero Zero Zero (On 1000000)

abbrev saving : Event
saving = event Zero Zero One Zero (On 1000000)

abbrev off : Event
off = event Zero One Zero Zero Off

abbrev restoring : Event
restoring = event Zero One Zero One (On 1000000)

first : y idle X ≡ X
unfolding computing
first = refl

after_first : next None idle X X ≡ (X, X)
unfolding computing
after_first = refl

second : y clocked X ≡ X
unfolding computing
second = refl

-- the clock has risen: the data of the event before
after_second : next (Some (settled idle X)) clocked X X ≡ (One, X)
unfolding computing
after_second = refl

third : y saving One ≡ One
unfolding computing
third = refl

after_third : next (Some (settled clocked X)) saving One X ≡ (One, One)
unfolding computing
after_third = refl

fourth : y off One ≡ Zero
unfolding computing
fourth = refl

-- the main state is lost, the saved one stays
after_fourth : next (Some (settled saving One)) off One One ≡ (X, One)
unfolding computing
after_fourth = refl

fifth : y restoring X ≡ Zero
unfolding computing
fifth = refl

after_fifth : next (Some (settled off One)) restoring X One ≡ (One, One)
unfolding computing
after_fifth = refl

sixth : y idle One ≡ One
unfolding computing
sixth = refl

-- where the retention supply is unknown while the block is off, the saved state is lost too
after_fourth_unknown : next (Some (settled saving One)) (event_with Unknown Zero One Zero Zero Off) One One ≡ (X, X)
unfolding computing
after_fourth_unknown = refl

after_fifth_unknown : next (Some (settled (event_with Unknown Zero One Zero Zero Off) One)) restoring X X ≡ (X, X)
unfolding computing
after_fifth_unknown = refl

sixth_unknown : y idle X ≡ X
unfolding computing
sixth_unknown = refl

-- a named register is above its instance, and that above the domain
abbrev three : Intent
three = with_strategies (retaining None ∷ retaining (Some (AtCell (codes "u" ∷ []) (codes "r") ∷ [])) ∷ retaining (Some (AtInstance (codes "u" ∷ []) ∷ [])) ∷ [])

the_named_register : option_and_then (λ t. Some t.0) (retention_winner three (codes "u" ∷ []) (codes "r")) ≡ Some 1
unfolding computing
the_named_register = refl

another_of_the_instance : option_and_then (λ t. Some t.0) (retention_winner three (codes "u" ∷ []) (codes "s")) ≡ Some 2
unfolding computing
another_of_the_instance = refl

-- before the first event every pin was X, also one that is tied to a constant: the clock may have risen
abbrev tie : InstanceView → InstanceView
tie x = if bytes_eq x.name (codes "r") then record x { connections = ByName (to (codes "D") (ConstBit true) ∷ to (codes "CK") (ConstBit true) ∷ []) } else x

abbrev ties_in : ModuleView → ModuleView
ties_in m = record m { instances = map tie m.instances }

abbrev tied : Structure
tied = record registered { modules = map ties_in registered.modules }

tied_at_first : (states_after (record design { structure = tied; intent = with_strategies [] }) None (computed design idle (states Zero X).main 12) (states Zero X)).main (codes "u" ∷ []) (codes "r") ≡ X
unfolding computing
tied_at_first = refl

tied_later : (states_after (record design { structure = tied; intent = with_strategies [] }) (Some (settled idle Zero)) (settled idle Zero) (states Zero X)).main (codes "u" ∷ []) (codes "r") ≡ Zero
unfolding computing
tied_later = refl

-- the register is one, and retained; an instance that the design lacks is none
register_held : is_register registered (codes "u" ∷ []) (codes "r") ≡ true
register_held = refl

register_kept : is_retained_register registered design.intent (codes "u" ∷ []) (codes "r") ≡ true
register_kept = refl

no_register : is_register registered (codes "u" ∷ []) (codes "z") ≡ false
no_register = refl

not_kept : is_retained_register registered (with_strategies []) (codes "u" ∷ []) (codes "r") ≡ false
not_kept = refl
