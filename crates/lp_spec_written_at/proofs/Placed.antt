-- The placement that goes with the written netlist has each operator at the instance that is written for it.
use Rattle.std.proofs.Common.{◌≡◌, ◌≤◌, ℕ, suc, ◌+◌, Bool, true, List, [], ◌∷◌, length, map, Some, refl, ap, ◌∙◌, arith}
use Rattle.std.specs.Prelude.{slice_get, filter, unwrap_or, option_and_then}
use Rattle.std.proofs.lemmas.List.{length-map}
use Rattle.lp_model.specs.LibraryView.{CellView}
use Rattle.lp_spec_design.specs.Keys.{Name, Path, same_path, Way, same_way}
use Rattle.lp_spec_design.specs.Netlists.{Structure}
use Rattle.lp_spec_design.specs.Instances.{Placed}
use Rattle.lp_spec_design.specs.Chains.{Operator, Clamp, Shift}
use Rattle.lp_spec_design.specs.Domains.{boundary, way_of}
use Rattle.lp_spec_design.specs.Winners.{IsIn}
use Rattle.lp_spec_design.specs.Reads.{path-self}
use Rattle.lp_spec_design.proofs.Members.{IsApart, of-filter}
use Rattle.lp_spec_realises.specs.Projects.{Project}
use Rattle.lp_spec_realises.specs.ProjectNetlists.{are_apart}
use Rattle.lp_spec_realises.specs.Realises.{cell_of}
use Rattle.lp_spec_realises.specs.Implements.{Lists}
use Rattle.lp_spec_written.specs.Places.{instances, Standing, plan, operator_names}
use Rattle.lp_spec_written.specs.Nets.{stretches, Linked, linked}
use Rattle.lp_spec_written.specs.Written.{Additions, additions, named_operators}
use Rattle.lp_spec_hub.specs.Spots.{on_way}
use Rattle.lp_spec_hub.specs.Entries.{HasWaysApart}
use Rattle.lp_spec_wired.specs.Names.{place_on, instance_on, operator_at, placement_of}
use Rattle.lp_spec_wired.specs.Contents.{IsWrittenAt}
use Rattle.lp_spec_written_at.specs.Sources.{IsFree}
use Rattle.lp_spec_written_at.proofs.Instances.{instances-apart, is-planned}
use Rattle.lp_spec_written_at.proofs.Modules.{in-instances, cells-listed}
use Rattle.lp_spec_written_at.proofs.Operators.{operator-cells}
use Rattle.lp_spec_written_at.proofs.Lists.{in-slice}
use Rattle.lp_spec_written_at.proofs.Picked.{pick, of-map-get, map-filter, pairs-second}
use Rattle.lp_spec_written_at.proofs.Stretched.{in-instance, of-way, linked-operators}

names-length : (j k : ℕ) (os : List Operator) → length (operator_names j k os) ≡ length os
names-length j k [] = refl
names-length j k (Clamp t i ∷ os) = ap suc (names-length (j + 1) (k + 0) os)
names-length j k (Shift t a b ∷ os) = ap suc (names-length (j + 0) (k + 1) os)

abbrev pub standing_in : Name × Linked → Standing
standing_in y = y.1.0

named-standing : (ys : List (Name × Linked)) → map standing_in ys ≡ map (λ (z : Linked). z.0) (map (λ (y : Name × Linked). y.1) ys)
named-standing [] = refl
named-standing (y ∷ ys) = ap (λ r. y.1.0 ∷ r) (named-standing ys)

pub all-named : (all : List Linked) → map standing_in (named_operators all) ≡ map (λ (z : Linked). z.0) all
all-named all =
    let names = operator_names 0 0 (map (λ (z : Linked). z.0.asked.operator) all) in
    let long : length names ≡ length all = names-length 0 0 (map (λ (z : Linked). z.0.asked.operator) all) ∙ length-map all (λ (z : Linked). z.0.asked.operator) in
    named-standing (named_operators all) ∙ ap (map (λ (z : Linked). z.0)) (pairs-second names all (omega (arith, long)))

-- the named operator at a place of a way and an instance
pub record IsNamed (p : Project) (a : Additions) (x : Path) (w : Way) (n : ℕ) (o : Standing) : Type 0 where
  pub named : Name × Linked
  pub listed : IsIn named (named_operators (linked p a.chains x))
  pub standing : named.1.0 ≡ o
  pub name : instance_on p a w x n ≡ named.0

module _ (p : Project) (a : Additions) (chains : a.chains ≡ stretches p a.plan) (once : IsApart (instances p)) (ways : HasWaysApart p) where
  module _ (w : Way) (k : ℕ) (o : Standing) (at : slice_get (on_way a.plan.operators w) k ≡ Some o) (bit : IsIn o.asked.bit (boundary p.structure p.intent)) (stands : IsIn o.path (instances p)) where
    abbrev x : Path
    x = o.path

    abbrev n : ℕ
    n = place_on (on_way a.plan.operators w) k x

    abbrev on : Standing → Bool
    on r = same_way (way_of r.asked.bit) w

    on-it : same_way (way_of o.asked.bit) w ≡ true
    on-it = (of-filter on o a.plan.operators (in-slice (on_way a.plan.operators w) k o at)).1

    listed-there : filter on (map standing_in (named_operators (linked p a.chains x))) ≡ filter (λ (r : Standing). same_path r.path x) (on_way a.plan.operators w)
    listed-there =
        ap (filter on) (all-named (linked p a.chains x)
        ∙ (ap (λ c. map (λ (z : Linked). z.0) (linked p c x)) chains
        ∙ (linked-operators p a.plan x ∙ in-instance p a.plan x once stands)))
        ∙ of-way p a.plan x w o.asked.bit ways bit on-it

    picked : slice_get (map standing_in (filter (λ (y : Name × Linked). on (standing_in y)) (named_operators (linked p a.chains x)))) n ≡ Some o
    picked =
        ap (λ l. slice_get l n) (map-filter standing_in on (named_operators (linked p a.chains x)) ∙ listed-there)
        ∙ pick (λ (r : Standing). same_path r.path x) (on_way a.plan.operators w) k o at (path-self x)

    pub is-named : IsNamed p a x w n o
    is-named =
        let found = of-map-get standing_in (filter (λ (y : Name × Linked). on (standing_in y)) (named_operators (linked p a.chains x))) n o picked in
        record {
          named = found.0;
          listed = (of-filter (λ (y : Name × Linked). on (standing_in y)) found.0 (named_operators (linked p a.chains x)) (in-slice (filter (λ (y : Name × Linked). on (standing_in y)) (named_operators (linked p a.chains x))) n found.0 found.1)).0;
          standing = found.2;
          name = ap (λ r. unwrap_or (option_and_then (λ (y : Name × Linked). Some y.0) r) []) found.1;
        }

-- ---- its cell

module _ (p : Project) (l : Lists) (w : Structure) (f : IsFree p) (apart : are_apart (map (λ (k : CellView). k.name) p.structure.cells) ≡ true) (ways : HasWaysApart p) (is : IsWrittenAt p (additions p l) w) (few : (x : Path) → length (linked p (additions p l).chains x) ≤ 1000000000) where
  pub operator-placed : (way : Way) (k : ℕ) (o : Standing) → slice_get (on_way (plan p l).operators way) k ≡ Some o
      → (((placement_of p l).operator way k).path ≡ o.path) × (cell_of w ((placement_of p l).operator way k) ≡ Some o.cell)
  operator-placed way k o at =
      let here = on_way (plan p l).operators way in
      let planned = is-planned p l o (of-filter (λ (r : Standing). same_way (way_of r.asked.bit) way) o (plan p l).operators (in-slice here k o at)).0 in
      let stands : IsIn o.path (instances p) = in-instances p (additions p l) f (cells-listed p l) o.path planned.inner.inner planned.inner.at in
      let named = is-named p (additions p l) refl (instances-apart p.structure f.apart) ways way k o at planned.bit stands in
      let where_it_is : (placement_of p l).operator way k ≡ record { path = o.path; instance = named.named.0 } =
      ap (operator_at p (additions p l) here way k) at ∙ ap (λ n. record { path = o.path; instance = n }) named.name in (
        ap (λ (y : Placed). y.path) where_it_is,
        ap (cell_of w) where_it_is
            ∙ (operator-cells p l w f apart is o.path planned.inner.inner planned.inner.at (few o.path) named.named named.listed
            ∙ ap (λ (r : Standing). Some r.cell) named.standing),
      )
