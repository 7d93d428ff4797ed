-- What is added has names of its own, and its chains are those of the plan.
use Rattle.std.proofs.Common.{◌≡◌, ◌≤◌, ℕ, Bool, true, false, List, [], ◌∷◌, length, inl, inr, refl, ap, ◌∙◌, subst}
use Rattle.std.specs.Prelude.{filter}
use Rattle.lp_spec_design.specs.Keys.{same_way}
use Rattle.lp_spec_design.specs.Netlists.{Structure}
use Rattle.lp_spec_design.specs.Domains.{BoundaryBit, boundary, way_of}
use Rattle.lp_spec_design.specs.Winners.{IsIn}
use Rattle.lp_spec_realises.specs.Projects.{Project}
use Rattle.lp_spec_realises.specs.Implements.{Lists}
use Rattle.lp_spec_faults.specs.Modules.{is_own}
use Rattle.lp_spec_faultless.specs.Faults.{IsRead}
use Rattle.lp_spec_written.specs.Places.{instances, Standing, plan}
use Rattle.lp_spec_written.specs.Written.{additions}
use Rattle.lp_spec_hub.specs.Entries.{HasWaysApart}
use Rattle.lp_spec_hub.specs.Laws.{WaysApart}
use Rattle.lp_spec_wired.specs.Laws.{HasChains, HasOneBit}
use Rattle.lp_spec_wired.proofs.Chains.{boundary-port}
use Rattle.lp_spec_written_at.proofs.Instances.{bit-module, is-planned}
use Rattle.lp_spec_written_at.proofs.Modules.{from-modules, free-port}
use Rattle.lp_spec_written_at.proofs.SourceCells.{in-filter}
use Rattle.lp_spec_written_at.proofs.Stands.{way-self}
use Rattle.lp_spec_written_at.proofs.SupplyNames.{supply-names}
use Rattle.lp_spec_driven.specs.Sound.{HasNames}
use Rattle.lp_spec_driven.proofs.Sources.{only-one}
use Rattle.lp_spec_proper.specs.Insertable.{IsInsertable, IsWithinLimits}
use Rattle.lp_spec_proper.specs.Laws.{AdditionsHaveNames}
use Rattle.lp_spec_proper.proofs.Base.{is-free, inside}

-- two things that pass a test which one thing at most passes
pub the-same : {A : Type 0} (t : A → Bool) (xs : List A) (a b : A) → length (filter t xs) ≤ 1 → IsIn a xs → IsIn b xs → t a ≡ true → t b ≡ true → a ≡ b
the-same t xs a b few h g one two =
    let alone : filter t xs ≡ b ∷ [] = only-one (filter t xs) b few (in-filter t xs b g two) in
    let here : IsIn a (b ∷ []) = subst (λ r. IsIn a r) alone (in-filter t xs a h one) in
    elim here [ inl is ↦ is | inr none ↦ absurd none ]

module _ (p : Project) (l : Lists) (switch_command : ℕ → ℕ) (read : IsRead p) (good : IsInsertable p l switch_command) (within : IsWithinLimits p l) (ways-differ : HasWaysApart p) where
  abbrev s : Structure
  s = p.structure

  pub one-bit : (b c : BoundaryBit) → IsIn b (boundary s p.intent) → IsIn c (boundary s p.intent) → way_of b ≡ way_of c → b ≡ c
  one-bit b c h g same =
      the-same (λ (d : BoundaryBit). same_way (way_of d) (way_of c)) (boundary s p.intent) b c (ways-differ (way_of c)) h g
      (ap (λ w. same_way w (way_of c)) same ∙ way-self c) (way-self c)

  free-boundary : (b : BoundaryBit) → IsIn b (boundary s p.intent) → is_own b.port.name ≡ false
  free-boundary b h =
      let m = bit-module p b h in
      free-port p (is-free p l switch_command read good within) m.inner b.port (from-modules s b.path m.inner m.at) (boundary-port p b m.inner h m.at)

  pub bits-alone : HasOneBit p
  bits-alone = record { one = one-bit; free = free-boundary }

  stand : (o : Standing) → IsIn o (plan p l).operators → IsIn o.path (instances p)
  stand o h = let m = (is-planned p l o h).inner in inside p l switch_command read good within o.path m.inner m.at

  pub has-chains : HasChains p (additions p l)
  has-chains = record { chains = refl; bits = λ o h. (is-planned p l o h).bit }

  pub has-names : HasNames p (additions p l)
  has-names = record {
    chains = has-chains;
    stand = stand;
    bits = bits-alone;
    ways = ways-differ;
    nets = within.few.nets;
    supplies = supply-names p l within.origin_names within.few;
    controls = within.few.controls;
  }

pub names-law : WaysApart → AdditionsHaveNames
names-law ways p l switch_command read good within = has-names p l switch_command read good within (ways p read.netlist.names_apart)
