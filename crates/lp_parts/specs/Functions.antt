-- The functions of a cell (Liberty function, power_down_function, switch_function and pg_function).
use Rattle.std.specs.Prelude.{ℕ, zero, suc, ◌+◌, Bool, true, false, ◌||◌, ◌==◌, List, [], ◌∷◌, ◌++◌, take, map, min, Option, Some, None, unwrap_or, if◌then◌else◌}
use Rattle.std.specs.List.{filter}
use Rattle.lp_text.specs.Texts.{place_of}
use Rattle.lp_expr.specs.declared.step.Step.{Step}
use Rattle.lp_expr.specs.declared.step.Step.TheVariants as steps
use Rattle.lp_model.specs.declared.library.PgKind.{PgKind}
use Rattle.lp_model.specs.declared.library.PgKind.TheVariants as kinds
use Rattle.lp_model.specs.LibraryView.{ExprView, PgPinView}
use Rattle.lp_attributes.specs.Expressions.{expression_over}

-- non-bias power pins, and non-bias ground pins
abbrev pub is_power : PgKind → Bool
is_power kinds.PrimaryPower = true
is_power kinds.BackupPower = true
is_power kinds.InternalPower = true
is_power _ = false

abbrev pub is_ground : PgKind → Bool
is_ground kinds.PrimaryGround = true
is_ground kinds.BackupGround = true
is_ground kinds.InternalGround = true
is_ground _ = false

abbrev pub is_plain : PgKind → Bool
is_plain kind = is_power kind || is_ground kind

-- the constant 0
abbrev pub nothing : ExprView
nothing = record { variables = []; steps = steps.Constant false ∷ [] }

-- an expression that may be missing, or may not read: then the constant 0
abbrev pub over_if_any : List (List ℕ) → Option (List ℕ) → ExprView
over_if_any names None = nothing
over_if_any names (Some text) = unwrap_or (expression_over names text) nothing

-- the default power_down_function (own rule): some non-bias power pin is down or some non-bias ground pin is up
abbrev pub joint : ℕ → List Step
joint zero = []
joint (suc n) = steps.Or ∷ []

-- the steps of a pin where n pins came before
abbrev pub literal : Bool → ℕ → List Step
literal power n = steps.Variable n ∷ ((if power then steps.Not ∷ [] else []) ++ joint n)

abbrev pub down_steps : ℕ → List PgKind → List Step
down_steps n [] = []
down_steps n (kind ∷ more) = if is_plain kind then literal (is_power kind) n ++ down_steps (n + 1) more else down_steps n more

abbrev pub kinds_of : List PgPinView → List PgKind
kinds_of pgs = map (λ (p : PgPinView). p.kind) pgs

abbrev pub plain_names : List PgPinView → List (List ℕ)
plain_names pgs = map (λ (p : PgPinView). p.name) (filter (λ (p : PgPinView). is_plain p.kind) pgs)

abbrev pub down_by : List PgPinView → ExprView
down_by pgs = record { variables = plain_names pgs; steps = down_steps 0 (kinds_of pgs) }

abbrev pub default_down : List PgPinView → ExprView
default_down pgs = down_by (take 8 pgs)

-- a power_down_function that may be missing
abbrev pub down_of : List PgPinView → List (List ℕ) → Option (List ℕ) → ExprView
down_of pgs names None = default_down pgs
down_of pgs names (Some text) = over_if_any names (Some text)

-- the one variable that an expression is, by its steps
abbrev pub alone_by : List (List ℕ) → List Step → Option (List ℕ)
alone_by (n ∷ []) (steps.Variable k ∷ []) = if k == 0 then Some n else None
alone_by names steps = None

abbrev pub alone : Option ExprView → Option (List ℕ)
alone None = None
alone (Some e) = alone_by e.variables e.steps

-- the place of the one power or ground pin that an expression over their names is
abbrev pub place_if_any : List (List ℕ) → Option (List ℕ) → Option ℕ
place_if_any names None = None
place_if_any names (Some name) = place_of name names

abbrev pub passed : List (List ℕ) → List ℕ → Option ℕ
passed names text = place_if_any names (alone (expression_over names text))

-- a place as it is kept, in 8 bits; of a usable cell it is below 8
abbrev pub small : Option ℕ → ℕ
small None = 0
small (Some place) = min place 255
