-- Texts of power intent, what they make over a small design, and their faults.
use Rattle.std.specs.Prelude.{ℕ, true, false, List, [], ◌∷◌, ◌++◌, codes, Option, Some, None, Result, Ok, Err, bytes_eq, if◌then◌else◌}
use Rattle.lp_text.specs.declared.place.Place.{Place}
use Rattle.lp_model.specs.declared.netlist.Direction.TheVariants.{Input}
use Rattle.lp_model.specs.CommandsView.{CommandView}
use Rattle.lp_model.specs.NetlistView.{ByName}
use Rattle.lp_upf_words.specs.Bytes.{kind_of}
use Rattle.lp_upf_words.specs.Reading.{read, start}
use Rattle.lp_spec_upf.specs.Commands as upf
use Rattle.lp_spec_upf.specs.Commands.{Sense}
use Rattle.lp_spec_design.specs.Netlists.{Structure}
use Rattle.lp_spec_design.proofs.Samples.{top, core, port, inverter, buffer}
use Rattle.lp_spec_intent.specs.Made.{Made, nothing}
use Rattle.lp_spec_intent.specs.Faults.{NameFault}
use Rattle.lp_spec_intent.specs.Intent.{made_by}

-- the name itself and its complement
abbrev pub sense : Sense
sense = record { of = λ text control. if bytes_eq text control then Some true else if bytes_eq text (codes "!" ++ control) then Some false else None }

abbrev pub commands_or_none : Result (List CommandView) upf.Fault → List CommandView
commands_or_none (Ok commands) = commands
commands_or_none (Err f) = []

abbrev pub commands_of : List ℕ → List CommandView
commands_of text = commands_or_none (upf.intent_of sense (read kind_of start text))

-- a top with an instance u of a block, a vector v and an instance of another module whose name has a slash
abbrev pub sample : Structure
sample = record {
  modules =
      record top {
        nets = record { name = codes "v"; range = Some (record { left = 11; right = 8 }) } ∷ top.nets;
        instances = record { name = codes "u/w"; target = codes "leaf"; connections = ByName [] } ∷ top.instances;
      }
      ∷ record core {
        ports = port (codes "q") Input (Some (record { left = 0; right = 1 })) ∷ core.ports;
        instances = record { name = codes "w"; target = codes "leaf"; connections = ByName [] } ∷ core.instances;
      }
      ∷ record core { name = codes "leaf" }
      ∷ [];
  cells = inverter ∷ buffer ∷ [];
}

abbrev pub result_of : List ℕ → Result Made NameFault
result_of text = made_by sample (commands_of text)

abbrev pub fault_in : Result Made NameFault → Option NameFault
fault_in (Ok m) = None
fault_in (Err f) = Some f

abbrev pub fault_of : List ℕ → Option NameFault
fault_of text = fault_in (result_of text)

abbrev pub made_in : Result Made NameFault → Made
made_in (Ok m) = m
made_in (Err f) = nothing

abbrev pub made_of : List ℕ → Made
made_of text = made_in (result_of text)

abbrev pub at : ℕ → ℕ → Place
at line column = record { line = line; column = column }
