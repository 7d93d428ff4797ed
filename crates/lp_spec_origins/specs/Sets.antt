-- The origins of a supply set's functions, and when two sets are the same (IEEE 1801-2015 create_supply_set, set_domain_supply_net; the defaults of bias functions are an own rule).
use Rattle.std.specs.Prelude.{ℕ, ◌==◌, Bool, false, ◌&&◌, List, Option, Some, None, option_and_then}
use Rattle.lp_model.specs.declared.supply.SetOrigins.{SetOrigins}
use Rattle.lp_spec_origins.specs.Commands.{Scoped, NetAt, Command}
use Rattle.lp_spec_origins.specs.Origins.{origin_of}

-- the nets of its six functions, as far as they are given
pub record SupplySet : Type 0 where
  pub power : Option Scoped
  pub gnd : Option Scoped
  pub nwell : Option Scoped
  pub pwell : Option Scoped
  pub deepnwell : Option Scoped
  pub deeppwell : Option Scoped

-- a net that is not given is another one: a missing nwell or deepnwell is the power, a missing pwell or deeppwell the ground
abbrev pub or_that : Option Scoped → Option Scoped → Option Scoped
or_that (Some n) other = Some n
or_that None other = other

abbrev pub net_origin : List Command → ℕ → Option Scoped → Option ℕ
net_origin commands fuel net = option_and_then (λ n. origin_of commands fuel (NetAt n)) net

abbrev pub all_six : Option ℕ → Option ℕ → Option ℕ → Option ℕ → Option ℕ → Option ℕ → Option SetOrigins
all_six (Some p) (Some g) (Some n) (Some w) (Some d) (Some e) = Some (record { power = record { 0 = p }; gnd = record { 0 = g }; nwell = record { 0 = n }; pwell = record { 0 = w }; deepnwell = record { 0 = d }; deeppwell = record { 0 = e } })
all_six _ _ _ _ _ _ = None

-- the origins of its functions, where each has one
abbrev pub set_origins : List Command → ℕ → SupplySet → Option SetOrigins
set_origins commands fuel s =
    all_six
    (net_origin commands fuel s.power)
    (net_origin commands fuel s.gnd)
    (net_origin commands fuel (or_that s.nwell s.power))
    (net_origin commands fuel (or_that s.pwell s.gnd))
    (net_origin commands fuel (or_that s.deepnwell s.power))
    (net_origin commands fuel (or_that s.deeppwell s.gnd))

-- two sets are the same where their power origins are equal and their ground origins are equal
abbrev pub same_set_origins : Option SetOrigins → Option SetOrigins → Bool
same_set_origins (Some a) (Some b) = (a.power.0 == b.power.0) && (a.gnd.0 == b.gnd.0)
same_set_origins _ _ = false
