-- The domain of each instance by numbers: the first that lists it, else that of the instance in which it stands (IEEE 1801-2015 create_power_domain).
use Rattle.std.specs.Prelude.{ℕ, zero, suc, ◌+◌, ◌==◌, List, [], ◌∷◌, Option, Some, None, unwrap_or, replicate}
use Rattle.std.specs.List.{list_any}
use Rattle.lp_model.specs.declared.graph.Inst.{Inst}
use Rattle.lp_model.specs.declared.ids.InstId.{InstId}
use Rattle.lp_model.specs.declared.intent.Domain.{Domain}
use Rattle.lp_spec_design.specs.Domains.{first_number, or_else}
use Rattle.lp_spec_bridge.specs.Inherited.{inherited}

-- ---- the domain that lists an instance

-- the first of some domains that lists the instance of a number
abbrev pub listed_by : List Domain → ℕ → Option ℕ
listed_by ds k = first_number (λ (d : Domain). list_any (λ (x : InstId). k == x.0) d.elements) 0 ds

-- a table of instances, in which one gets a domain; it keeps what it has
abbrev pub noted : List (Option ℕ) → ℕ → ℕ → List (Option ℕ)
noted [] k d = []
noted (x ∷ xs) zero d = or_else x (Some d) ∷ xs
noted (x ∷ xs) (suc k) d = x ∷ noted xs k d

abbrev pub note_all : List (Option ℕ) → List InstId → ℕ → List (Option ℕ)
note_all table [] d = table
note_all table (x ∷ xs) d = note_all (noted table x.0 d) xs d

abbrev pub note_from : List (Option ℕ) → ℕ → List Domain → List (Option ℕ)
note_from table k [] = table
note_from table k (d ∷ ds) = note_from (note_all table d.elements k) (k + 1) ds

-- of so many instances
abbrev pub listings : ℕ → List Domain → List (Option ℕ)
listings n ds = note_from (replicate n None) 0 ds

-- ---- the domain of an instance

abbrev pub own_or_first : Option ℕ → ℕ
own_or_first own = unwrap_or own 0

abbrev pub own_or : Option ℕ → ℕ → ℕ
own_or own above = unwrap_or own above

abbrev pub domains_by : List (Option ℕ) → List Inst → List ℕ
domains_by table rows = inherited own_or_first own_or table rows
