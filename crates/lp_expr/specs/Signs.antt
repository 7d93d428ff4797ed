-- The bytes of signs, as a reader meets them (own rule).
use Rattle.std.specs.Prelude.{ℕ, ◌==◌, Bool, true, false, Option, Some, None, if◌then◌else◌}
use Rattle.lp_expr.specs.declared.dialect.Dialect.{Dialect}
use Rattle.lp_expr.specs.declared.dialect.Dialect.TheVariants.{Liberty, Control}
use Rattle.lp_expr.specs.declared.dialect.Sign.{Sign}
use Rattle.lp_expr.specs.declared.dialect.Sign.TheVariants.{Caret, Star, Ampersand, Plus, Bar, TwoAmpersands, TwoBars}

-- the sign that begins with a byte: the shorter one where there are two
abbrev pub sign_at : Dialect → ℕ → Option Sign
sign_at Liberty b = if b == 94 then Some Caret else if b == 42 then Some Star else if b == 38 then Some Ampersand else if b == 43 then Some Plus else if b == 124 then Some Bar else None
sign_at Control b = if b == 38 then Some Ampersand else if b == 124 then Some Bar else None

-- whether a longer sign begins with this one
abbrev pub is_half : Dialect → Sign → Bool
is_half Control Ampersand = true
is_half Control Bar = true
is_half _ _ = false

-- the longer sign that a byte right behind a sign makes of it
abbrev pub longer : Dialect → Sign → ℕ → Option Sign
longer Control Ampersand b = if b == 38 then Some TwoAmpersands else None
longer Control Bar b = if b == 124 then Some TwoBars else None
longer _ _ b = None
