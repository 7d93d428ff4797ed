-- No line of the table of faults holds of a netlist that is taken with its one domain.
use Rattle.std.proofs.Common.{◌≡◌, ℕ, zero, suc, Bool, false, List, [], ◌∷◌, ◌++◌, Option, Some, None, refl, ap, ◌∙◌}
use Rattle.std.specs.Prelude.{filter, is_some, map, if◌then◌else◌}
use Rattle.lp_spec_design.specs.Instances.{Placed, cell_instances}
use Rattle.lp_spec_design.specs.Keys.{Path}
use Rattle.lp_spec_design.specs.Domains.{domain_of, primary_of}
use Rattle.lp_spec_realises.specs.Projects.{functions_of}
use Rattle.lp_spec_realises.specs.Realises.{cell_of, primary_at}
use Rattle.lp_spec_design.specs.Netlists.{first}
use Rattle.lp_spec_design.specs.Intents.{SetNumber}
use Rattle.lp_spec_design.specs.Registers.{retention}
use Rattle.lp_spec_network.specs.Views.{lower_sets}
use Rattle.lp_spec_realises.specs.Implements.{Lists}
use Rattle.lp_spec_faults.specs.Domains.{no_domain, no_primary}
use Rattle.lp_spec_faults.specs.Lines.{Line, first_of}
use Rattle.lp_spec_faults.specs.Readings.{is_unfit_by, unfit_power, of_both, reaching_rail, reading_supply, uncovered_level, control_level, OfOperator, OfRegister, entries, lacks_cell, no_cell}
use Rattle.lp_spec_faults.specs.Strategies.{SideAt, is_upper, registers, location_order}
use Rattle.lp_spec_faults.specs.Supplies.{no_states}
use Rattle.lp_spec_one_domain.specs.Laws.{OneDomainIsInsertable}
use Rattle.lp_spec_one_domain.specs.OneDomain.{OneDomain, the_set, supplies_of, the_intent, project_of}
use Rattle.lp_spec_one_domain.specs.Taken.{lost_otherwise}
use Rattle.lp_spec_one_domain.proofs.Empty.{nothing-passes, never-both, no-operators}

-- ---- a line

never : {A : Type 0} (l : Line A) → ((x : A) → l.test x ≡ false) → first_of l ≡ None
never {A} l none = by l.places
  where
    by : (xs : List A) → first l.test xs ≡ None
    by [] = refl
    by (x ∷ xs) = ap (λ b. if b then Some x else first l.test xs) (none x) ∙ by xs

alike : {A : Type 0} (one other : A → Bool) (xs : List A) → ((x : A) → one x ≡ other x) → first one xs ≡ first other xs
alike one other [] same = refl
alike {A} one other (x ∷ xs) same = by (one x) (other x) (same x) (alike one other xs same)
  where
    by : (b c : Bool) → b ≡ c → first one xs ≡ first other xs → (if b then Some x else first one xs) ≡ (if c then Some x else first other xs)
    by b c e rest = ap (λ y. if y then Some x else first one xs) e ∙ ap (λ r. if c then Some x else r) rest

-- ---- the one supply is not lower than itself, and no other set has origins

not-lower : (d : OneDomain) (r t : SetNumber) → lower_sets (supplies_of d) r t d.margin ≡ false
not-lower d zero zero = refl
not-lower d zero (suc t) = refl
not-lower d (suc r) t = refl

levels : (d : OneDomain) → first_of (uncovered_level (project_of d)) ≡ None
levels d = never (uncovered_level (project_of d)) (λ x. by (reaching_rail (project_of d) x) (reading_supply (project_of d) x))
  where
    by : (r t : Option SetNumber) → of_both (λ r t. lower_sets (supplies_of d) r t d.margin) r t ≡ false
    by None t = refl
    by (Some r) None = refl
    by (Some r) (Some t) = not-lower d r t

control_levels : (d : OneDomain) (switch_command : ℕ → ℕ) → first_of (control_level (project_of d) switch_command) ≡ None
control_levels d switch_command = refl

states : (d : OneDomain) → first_of (no_states (supplies_of d)) ≡ None
states d = refl

-- ---- each instance is of the one domain, so its primary supply is the one set

in-domain : (x : Path) → domain_of the_intent x ≡ Some 0
in-domain [] = refl
in-domain (i ∷ x) = in-domain x

one-primary : (d : OneDomain) (x : Path) → primary_at (project_of d) x ≡ Some the_set
one-primary d x = ap (λ k. functions_of (project_of d) (primary_of the_intent k)) (in-domain x)

unfit : (d : OneDomain) → first_of (unfit_power (project_of d)) ≡ first_of (lost_otherwise d.structure)
unfit d = alike (unfit_power (project_of d)).test (lost_otherwise d.structure).test (cell_instances d.structure) (λ a. ap (λ s. is_unfit_by s (cell_of d.structure a)) (one-primary d a.path))

-- ---- the top has a domain, and the domain a primary supply

domains : first_of (no_domain the_intent) ≡ None
domains = refl

primaries : first_of (no_primary the_intent) ≡ None
primaries = refl

-- ---- sides have no operators, and no cell is looked for

locations : (d : OneDomain) → first_of (location_order (project_of d)) ≡ None
locations d = never (location_order (project_of d)) (λ (a : SideAt). never-both (is_upper a.side) false refl)

no-entries : (d : OneDomain) → entries (project_of d) ≡ []
no-entries d = ap (λ o. map (λ x. OfOperator x) o ++ (map (λ a. OfRegister a) (filter kept (registers (project_of d))) ++ [])) (no-operators d) ∙ ap (λ r. map (λ a. OfRegister a) r ++ []) (nothing-passes kept (registers (project_of d)) (λ a. refl))
  where
    kept : Placed → Bool
    kept a = is_some (retention the_intent a.path a.instance)

cells : (d : OneDomain) (l : Lists) → first_of (no_cell (project_of d) l) ≡ None
cells d l = ap (first (lacks_cell (project_of d) l)) (no-entries d)

-- ---- together

pub insertable : OneDomainIsInsertable
insertable d l switch_command taken = record {
  values = record {
    no_loop = taken.no_loop;
    within_limits = taken.netlist.within_limits;
    no_wire_loop = taken.netlist.no_wire_loop;
    states = states d;
    levels = levels d;
    control_levels = control_levels d switch_command;
    cells_fit = taken.netlist.cells_fit;
    unfit_power = unfit d ∙ taken.lost_with_it;
  };
  targets = taken.netlist.targets;
  not_recursive = taken.netlist.not_recursive;
  one_top = taken.netlist.one_top;
  names = taken.netlist.names;
  pins = taken.netlist.pins;
  one_driver = taken.netlist.one_driver;
  not_powered = taken.netlist.not_powered;
  domains = domains;
  primaries = primaries;
  locations = locations d;
  cells = cells d l;
}
