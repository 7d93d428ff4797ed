-- Power intent of one domain (IEEE 1801-2015, the commands that are read).
use Rattle.std.specs.Prelude.{◌≡◌, ℕ, not, ◌≤◌, List, [], ◌∷◌, ◌++◌, length, codes, IsTrue, Some, bytes_eq}
use Rattle.lp_text.specs.declared.shelf.TheConstants.{LIMIT}
use Rattle.lp_text.specs.Micros.{micros_of}
use Rattle.lp_plain_upf.specs.declared.plain.Intent.{Intent}
use Rattle.lp_plain_upf.specs.Names.{is_free_name}

-- pieces of a text, one after another
abbrev pub joined : List (List ℕ) → List ℕ
joined [] = []
joined (piece ∷ pieces) = piece ++ joined pieces

-- two supply ports with their nets, a supply set, a domain at the top, and a state of the power port with the voltage as it is written
abbrev pub intent_text : Intent → List ℕ → List ℕ
intent_text i volts = joined (
    codes "create_supply_port " ∷ i.power
    ∷ codes "\ncreate_supply_port " ∷ i.gnd
    ∷ codes "\ncreate_supply_net " ∷ i.power
    ∷ codes "\ncreate_supply_net " ∷ i.gnd
    ∷ codes "\nconnect_supply_net " ∷ i.power ∷ codes " -ports {" ∷ i.power
    ∷ codes "}\nconnect_supply_net " ∷ i.gnd ∷ codes " -ports {" ∷ i.gnd
    ∷ codes "}\ncreate_supply_set " ∷ i.set ∷ codes " -function {power " ∷ i.power ∷ codes "} -function {ground " ∷ i.gnd
    ∷ codes "}\ncreate_power_domain " ∷ i.domain ∷ codes " -elements {.} -supply {primary " ∷ i.set
    ∷ codes "}\nadd_port_state " ∷ i.power ∷ codes " -state {" ∷ i.state ∷ codes " " ∷ volts ∷ codes "}\n" ∷ [])

-- the text, of at most the limit of one file, denotes this intent
pub record IsIntent (text : List ℕ) (i : Intent) : Type 0 where
  pub within : length text ≤ LIMIT
  pub volts : List ℕ
  pub spelled : text ≡ intent_text i volts
  pub power_free : IsTrue (is_free_name i.power)
  pub gnd_free : IsTrue (is_free_name i.gnd)
  pub set_free : IsTrue (is_free_name i.set)
  pub domain_free : IsTrue (is_free_name i.domain)
  pub state_free : IsTrue (is_free_name i.state)
  pub apart : IsTrue (not (bytes_eq i.power i.gnd))
  pub voltage : micros_of volts ≡ Some i.voltage
