-- Reading power intent from left to right: a second form of what an intent's text is.
use Rattle.std.specs.Prelude.{ℕ, ◌-◌, not, nat_eq, nat_le, if◌then◌else◌, List, [], ◌∷◌, length, take, drop, codes, bytes_eq, Option, Some, None}
use Rattle.std.specs.List.{prefix_len}
use Rattle.std.specs.Option.{option_and_then}
use Rattle.std.specs.Cmp.Lexicographic.{pointwise}
use Rattle.lp_text.specs.Micros.{micros_of}
use Rattle.lp_text.specs.declared.shelf.TheConstants.{LIMIT}
use Rattle.lp_token.specs.Tokens.{is_name_byte}
use Rattle.lp_plain_upf.specs.declared.plain.Intent.{Intent}
use Rattle.lp_plain_upf.specs.Names.{Name}
use Rattle.lp_plain_upf.specs.Names.{is_free_name}

infixl 10 ◌>>=◌
abbrev pub ◌>>=◌ : {A B : Type 0} → Option A → (A → Option B) → Option B
o >>= f = option_and_then f o

-- what stands behind a piece at the front
unfoldable pub expect_at : List ℕ → List ℕ → Option (List ℕ)
expect_at piece bytes = if pointwise nat_eq (take (length piece) bytes) piece then Some (drop (length piece) bytes) else None

-- what stands before a piece at the end
unfoldable pub before_at : List ℕ → List ℕ → Option (List ℕ)
before_at piece bytes =
    if pointwise nat_eq (drop (length bytes - length piece) bytes) piece then Some (take (length bytes - length piece) bytes) else None

-- what stands behind pieces that follow one another
unfoldable pub all_at : List (List ℕ) → List ℕ → Option (List ℕ)
all_at [] bytes = Some bytes
all_at (piece ∷ pieces) bytes = do
  rest ← expect_at piece bytes
  all_at pieces rest

-- the longest run of letters, digits and _, where it is a free name
unfoldable pub name_at : List ℕ → Option (Name × List ℕ)
name_at bytes =
    if is_free_name (take (prefix_len is_name_byte bytes) bytes)
    then Some (take (prefix_len is_name_byte bytes) bytes, drop (prefix_len is_name_byte bytes) bytes)
    else None

-- a name behind pieces
unfoldable pub named_at : List (List ℕ) → List ℕ → Option (Name × List ℕ)
named_at pieces bytes = do
  rest ← all_at pieces bytes
  name_at rest

-- the voltage of the port's state in microvolts, and the end of the text
unfoldable pub voltage_at : List ℕ → Option ℕ
voltage_at bytes = do
  rest ← expect_at (codes " ") bytes
  volts ← before_at (codes "}\n") rest
  micros_of volts

-- what stands before each of the names
unfoldable pub power_pieces : List (List ℕ)
power_pieces = codes "create_supply_port " ∷ []

unfoldable pub gnd_pieces : List (List ℕ)
gnd_pieces = codes "\ncreate_supply_port " ∷ []

unfoldable pub set_pieces : Name → Name → List (List ℕ)
set_pieces power gnd =
    codes "\ncreate_supply_net " ∷ power
    ∷ codes "\ncreate_supply_net " ∷ gnd
    ∷ codes "\nconnect_supply_net " ∷ power ∷ codes " -ports {" ∷ power
    ∷ codes "}\nconnect_supply_net " ∷ gnd ∷ codes " -ports {" ∷ gnd
    ∷ codes "}\ncreate_supply_set " ∷ []

unfoldable pub domain_pieces : Name → Name → List (List ℕ)
domain_pieces power gnd = codes " -function {power " ∷ power ∷ codes "} -function {ground " ∷ gnd ∷ codes "}\ncreate_power_domain " ∷ []

unfoldable pub state_pieces : Name → Name → List (List ℕ)
state_pieces power set = codes " -elements {.} -supply {primary " ∷ set ∷ codes "}\nadd_port_state " ∷ power ∷ codes " -state {" ∷ []

-- the whole text
unfoldable pub spelled_at : List ℕ → Option Intent
spelled_at bytes = do
  power ← named_at power_pieces bytes
  gnd ← named_at gnd_pieces power.1
  set ← named_at (set_pieces power.0 gnd.0) gnd.1
  domain ← named_at (domain_pieces power.0 gnd.0) set.1
  state ← named_at (state_pieces power.0 set.0) domain.1
  voltage ← voltage_at state.1
  if not (bytes_eq power.0 gnd.0) then Some (record { power = power.0; gnd = gnd.0; set = set.0; domain = domain.0; state = state.0; voltage = voltage }) else None

-- a text of at most the limit of one file
unfoldable pub intent_at : List ℕ → Option Intent
intent_at text = if nat_le (length text) LIMIT then spelled_at text else None
