-- An operator stands in the instance of its bit or in the parent.
use Rattle.std.proofs.Common.{◌≡◌, ◌⊎◌, Option, Some, None, inl, inr, refl, sym, ◌∙◌}
use Rattle.std.specs.Prelude.{option_and_then, slice_get}
use Rattle.lp_model.specs.declared.side.Side.{Side}
use Rattle.lp_model.specs.declared.side.Side.TheVariants.{Upper, Lower}
use Rattle.lp_model.specs.declared.side.Location.{Location}
use Rattle.lp_model.specs.declared.side.Location.TheVariants.{Own, Parent}
use Rattle.lp_spec_design.specs.Keys.{Path}
use Rattle.lp_spec_design.specs.Nodes.{fuel_of}
use Rattle.lp_spec_design.specs.Intents.{Strategy}
use Rattle.lp_spec_design.specs.Winners.{crossing}
use Rattle.lp_spec_realises.specs.Projects.{Project}
use Rattle.lp_spec_realises.specs.Operators.{OperatorAt}
use Rattle.lp_spec_realises.specs.Implements.{Lists, parent_of, path_by, strategy_of, sides_of, operator_path}
use Rattle.lp_spec_written.specs.Places.{Standing, standing}
use Rattle.lp_spec_hub.proofs.Flow.{path-at}

near-by : (x : Path) (side : Option Side) (location : Location) → (path_by x side location ≡ x) ⊎ (path_by x side location ≡ parent_of x)
near-by x (Some Upper) Own = inl refl
near-by x (Some Upper) Parent = inr refl
near-by x (Some Lower) location = inr refl
near-by x None location = inr refl

pub stands-near : (p : Project) (l : Lists) (o : OperatorAt) (s : Standing) → standing p l o ≡ Some s → (s.path ≡ o.bit.path) ⊎ (s.path ≡ parent_of o.bit.path)
stands-near p l o s e = by (slice_get p.intent.strategies (strategy_of o.operator)) (path-at p l o (operator_path p o) s e)
  where
    inside : {a b : Path} → Some a ≡ Some b → a ≡ b
    inside e = cc

    by : (t : Option Strategy) → option_and_then (λ (t : Strategy). Some (path_by o.bit.path (slice_get (sides_of p (crossing p.structure p.intent (fuel_of p.structure) o.bit)) o.number) t.location)) t ≡ Some s.path → (s.path ≡ o.bit.path) ⊎ (s.path ≡ parent_of o.bit.path)
    by None e = absurd cc
    by (Some t) e = elim (near-by o.bit.path (slice_get (sides_of p (crossing p.structure p.intent (fuel_of p.structure) o.bit)) o.number) t.location) [ inl own ↦ inl (sym (inside e) ∙ own) | inr other ↦ inr (sym (inside e) ∙ other) ]
