-- To what the power and ground pins of a cell are joined, by their places (own rule).
use Rattle.std.specs.Prelude.{ℕ, ◌+◌, Bool, false, not, List, [], ◌∷◌, ◌++◌, map, length, Option, Some, None, if◌then◌else◌, bytes_eq}
use Rattle.std.specs.List.{position}
use Rattle.std.specs.Option.{option_map}
use Rattle.lp_text.specs.Texts.{text_at}
use Rattle.lp_text.specs.declared.names.NameId.{NameId}
use Rattle.lp_model.specs.declared.library.PgPin.{PgPin}
use Rattle.lp_spec_pins.specs.Pins.{is_power}
use Rattle.lp_expr.specs.Formula.{Formula}
use Rattle.lp_spec_fit.specs.Equality.{once}
use Rattle.lp_choice.specs.Keys.{same_key}
use Rattle.lp_choice.specs.Wires.{agree, number_wire}
use Rattle.lp_choice.specs.declared.rails.Rail.{Rail}
use Rattle.lp_choice.specs.declared.wires.Wire.{Wire}

-- the origin of the first power or ground pin of a name, where each pin has the origin of its place
abbrev pub rail_of : List (List ℕ) → List PgPin → List (Option ℕ) → NameId → Option Rail
rail_of texts [] origins n = None
rail_of texts (g ∷ gs) [] n = None
rail_of texts (g ∷ gs) (o ∷ origins) n =
    if bytes_eq (text_at texts g.name.0) (text_at texts n.0) then option_map (λ k. record { origin = k; power = is_power g.kind }) o
    else rail_of texts gs origins n

-- the wire of a rail among origins; 0 where there is none
abbrev pub rail_wire : List ℕ → Option Rail → Wire
rail_wire keys None = record { slot = None; negated = false }
rail_wire keys (Some r) = record { slot = position (λ other. same_key other r.origin) keys; negated = not r.power }

-- the origins of those that have one
abbrev pub and_origin : Option Rail → List ℕ → List ℕ
and_origin None rest = rest
and_origin (Some r) rest = r.origin ∷ rest

abbrev pub origins_of : List (List ℕ) → List PgPin → List (Option ℕ) → List NameId → List ℕ
origins_of texts pgs origins [] = []
origins_of texts pgs origins (n ∷ names) = and_origin (rail_of texts pgs origins n) (origins_of texts pgs origins names)

-- a function of a cell's power and ground pins, by the rails of their names, is a wanted one of the values of some origins
abbrev pub down_agrees : List (List ℕ) → List PgPin → List (Option ℕ) → List ℕ → Formula → Option Formula → Bool
down_agrees texts pgs origins off wanted None = false
down_agrees texts pgs origins off wanted (Some e) = by (once same_key (origins_of texts pgs origins e.variables ++ off))
  where
    by : List ℕ → Bool
    by keys = agree e (map (λ (n : NameId). rail_wire keys (rail_of texts pgs origins n)) e.variables) wanted (map (number_wire keys) off) (length keys)

-- the origins of pins by their places
abbrev pub placed_origins : (ℕ → PgPin → Option ℕ) → ℕ → List PgPin → List (Option ℕ)
placed_origins f k [] = []
placed_origins f k (g ∷ gs) = f k g ∷ placed_origins f (k + 1) gs
