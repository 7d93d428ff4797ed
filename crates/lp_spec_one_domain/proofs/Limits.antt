-- The project of a netlist that is taken with its one domain is within limits, and its intent is resolved.
use Rattle.std.proofs.Common.{◌≡◌, zero, suc, arith, true, false, length, Some, None, refl, sym, ap, ◌∙◌, subst}
use Rattle.std.specs.Prelude.{◌==◌, bytes_eq, is_some}
use Rattle.std.proofs.lemmas.Bool.{false≢true, ne_eqb}
use Rattle.lp_spec_design.specs.Reads.{name-self}
use Rattle.lp_spec_design.specs.Intents.{SetNumber, FromPort}
use Rattle.lp_spec_design.specs.Winners.{IsIn}
use Rattle.lp_spec_origins.specs.Used.{is_used_set}
use Rattle.lp_spec_realises.specs.Projects.{functions_of}
use Rattle.lp_spec_realises.specs.Implements.{Lists}
use Rattle.lp_spec_written.specs.Nets.{stretches, linked}
use Rattle.lp_spec_written.specs.Places.{plan}
use Rattle.lp_spec_written.specs.Routes.{parts}
use Rattle.lp_spec_written_at.specs.Sources.{HasOriginNames, HasFewAdditions, HasControls}
use Rattle.lp_spec_proper.specs.Insertable.{IsResolved}
use Rattle.lp_spec_one_domain.specs.Laws.{OneDomainIsWithinLimits}
use Rattle.lp_spec_one_domain.specs.OneDomain.{OneDomain, the_intent, project_of}
use Rattle.lp_spec_one_domain.proofs.Empty.{nothing-planned, no-stretches-planned}

-- ---- the two supply ports have two names

origin_names : (d : OneDomain) → bytes_eq d.power.name d.gnd.name ≡ false → HasOriginNames (project_of d)
origin_names d two = by
  where
    differ : d.power.name ≡ d.gnd.name → ⊥
    differ same = false≢true (sym two ∙ (ap (λ n. bytes_eq n d.gnd.name) same ∙ name-self d.gnd.name))

    by : HasOriginNames (project_of d)
    by zero zero e f same = refl
    by zero (suc zero) e f same = absurd (differ same)
    by (suc zero) zero e f same = absurd (differ (sym same))
    by (suc zero) (suc zero) e f same = refl
    by (suc (suc o)) r e f same = let none : None ≡ Some FromPort = e in absurd cc
    by zero (suc (suc r)) e f same = let none : None ≡ Some FromPort = f in absurd cc
    by (suc zero) (suc (suc r)) e f same = let none : None ≡ Some FromPort = f in absurd cc

-- ---- nothing is added

few : (d : OneDomain) (l : Lists) → HasFewAdditions (project_of d) l
few d l = record {
  nets = λ s h. absurd (subst (IsIn s) (no-stretches-planned d l) h);
  operators = λ x. let none : length (linked (project_of d) (stretches (project_of d) (plan (project_of d) l)) x) ≡ 0 = ap (λ c. length (linked (project_of d) c x)) (no-stretches-planned d l) in omega (arith, none);
  switches = λ x. omega arith;
  numbers = omega arith;
  controls = let none : length (parts (project_of d) (plan (project_of d) l)) ≡ 0 = ap (λ a. length (parts (project_of d) a)) (nothing-planned d l) in omega (arith, none);
}

-- ---- no controls, and the one set has its origins

controls : (d : OneDomain) → HasControls (project_of d)
controls d = record { enables = λ t k h e. absurd h; saves = λ t k h e. absurd h; restores = λ t k h e. absurd h }

used_sets : (d : OneDomain) (k : SetNumber) → is_used_set the_intent k ≡ true → is_some (functions_of (project_of d) (Some k)) ≡ true
used_sets d zero e = refl
used_sets d (suc k) e = absurd (false≢true (sym none ∙ e))
  where
    zero_not : (0 == suc k) ≡ false
    zero_not = ne_eqb 0 (suc k) (λ h. omega (arith, h))

    none : is_used_set the_intent (suc k) ≡ false
    none = rw (zero_not) refl

resolved : (d : OneDomain) → IsResolved (project_of d)
resolved d = record {
  enables = λ t k h e. absurd h;
  saves = λ t k h e. absurd h;
  restores = λ t k h e. absurd h;
  isolated = λ t h kind e. absurd h;
  sets = used_sets d;
}

-- ---- together

pub within : OneDomainIsWithinLimits
within d l source taken = record {
  cell_names = source.cell_names;
  free_cells = source.free_cells;
  origin_names = origin_names d taken.two_names;
  controls = controls d;
  resolved = resolved d;
  scopes = λ x h. absurd h;
  few = few d l;
}
