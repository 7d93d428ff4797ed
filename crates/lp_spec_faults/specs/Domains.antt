-- The lines of the table of faults about domains (own rule, after IEEE 1801-2015 create_power_domain).
use Rattle.std.specs.Prelude.{ℕ, not, [], ◌∷◌, is_some}
use Rattle.lp_spec_design.specs.Keys.{Path}
use Rattle.lp_spec_design.specs.Graph.{numbered}
use Rattle.lp_spec_design.specs.Intents.{Domain, Intent}
use Rattle.lp_spec_design.specs.Domains.{domain_of}
use Rattle.lp_spec_faults.specs.Lines.{Line}

-- F35 NoDomain: the top instance is in no domain
abbrev pub no_domain : Intent → Line Path
no_domain i = record { places = [] ∷ []; test = λ p. not (is_some (domain_of i p)) }

-- F36 NoPrimary: a domain without a primary supply
abbrev pub no_primary : Intent → Line (ℕ × Domain)
no_primary i = record { places = numbered 0 i.domains; test = λ (d : ℕ × Domain). not (is_some d.1.primary) }
