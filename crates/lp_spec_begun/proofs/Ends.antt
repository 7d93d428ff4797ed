-- Where a wire's net bit begins in the written netlist.
use Rattle.std.proofs.Common.{◌≡◌, ℕ, Bool, true, false, ◌&&◌, Option, Some, None, refl, ap, ◌∙◌}
use Rattle.std.specs.Prelude.{bytes_eq}
use Rattle.std.proofs.lemmas.Bool.{eq-eqb}
use Rattle.lp_spec_design.specs.Keys.{same_path, same_index, same_bool, Node}
use Rattle.lp_spec_design.specs.Netlists.{Structure}
use Rattle.lp_spec_design.specs.Nodes.{fuel_of}
use Rattle.lp_spec_design.specs.Reads.{both, name-self, path-self}
use Rattle.lp_spec_realises.specs.Projects.{Project}
use Rattle.lp_spec_realises.specs.Ends.{End, AtPin, AtSwitched, AtTop, AtConstant, Nowhere, same_end, wire_end, intended}
use Rattle.lp_spec_realises.specs.Implements.{Lists}
use Rattle.lp_spec_written.specs.Written.{Additions, additions}
use Rattle.lp_spec_hub.specs.Spots.{Spot, OfNode, all_done}
use Rattle.lp_spec_hub.specs.Drives.{comes_from}
use Rattle.lp_spec_hub.specs.Laws.{EndsAsWired, WholePlan}
use Rattle.lp_spec_hub.specs.Whole.{BeginsAt, BeginAsTheyShould}
use Rattle.lp_spec_wired.specs.Laws.{done_of}
use Rattle.lp_spec_wired.specs.Names.{name_by, placement_of}
use Rattle.lp_spec_wires.specs.Standing.{is_wire}
use Rattle.lp_spec_begun.specs.Begun.{HasWires}

pub index-self : (i : Option ℕ) → same_index i i ≡ true
index-self None = refl
index-self (Some i) = eq-eqb i i refl

bool-self : (b : Bool) → same_bool b b ≡ true
bool-self true = refl
bool-self false = refl

pub end-self : (e : End) → same_end e e ≡ true
end-self (AtPin p x q) = both (bytes_eq x x) (bytes_eq q q && same_path p p) (name-self x) (both (bytes_eq q q) (same_path p p) (name-self q) (path-self p))
end-self (AtSwitched p x q) = both (bytes_eq x x) (bytes_eq q q && same_path p p) (name-self x) (both (bytes_eq q q) (same_path p p) (name-self q) (path-self p))
end-self (AtTop n i) = both (bytes_eq n n) (same_index i i) (name-self n) (index-self i)
end-self (AtConstant b) = bool-self b
end-self Nowhere = refl

-- ends that are equal pass the test
pub end-is : (d e : End) → d ≡ e → same_end d e ≡ true
end-is d e is = ap (λ z. same_end z e) is ∙ end-self e

module _ (ends : EndsAsWired) (whole : WholePlan) (p : Project) (l : Lists) (w : Structure) (h : HasWires p l w) where
  abbrev a : Additions
  a = additions p l

  pub begin : BeginAsTheyShould p l w (placement_of p l)
  begin = whole p l h.order w (placement_of p l)

  pub at-wire : (x : Spot) (e : End) → is_wire p a (comes_from p) x ≡ true → BeginsAt p (all_done p l) w (placement_of p l) x e → wire_end w (fuel_of w) (name_by p a x) ≡ e
  at-wire x e there b = ends p (done_of a) (comes_from p) w (placement_of p l) (name_by p a) (is_wire p a (comes_from p)) h.fuel h.stand h.closed x b.begin there b.ends ∙ b.is

  -- a net bit of the source
  pub at-node : (k : Node) → is_wire p a (comes_from p) (OfNode k) ≡ true → wire_end w (fuel_of w) (name_by p a (OfNode k)) ≡ intended p w (placement_of p l) k
  at-node k there = at-wire (OfNode k) (intended p w (placement_of p l) k) there (begin.nodes k)
