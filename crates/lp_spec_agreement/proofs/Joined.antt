-- What a node of the netlist is joined to and driven by, by the end of its wire.
use Rattle.std.proofs.Common.{◌≡◌, Bool, true, false, ◌&&◌, Option, Some, None, refl, sym, ap, ◌∙◌}
use Rattle.std.specs.Prelude.{bytes_eq}
use Rattle.std.proofs.lemmas.Bool.{and_parts, false≢true}
use Rattle.lp_spec_design.specs.Keys.{Way, same_path, same_index, same_bool, Node, Inner, Outer, Fixed, Source, CellPin, SwitchedPin, Environment, From}
use Rattle.lp_spec_design.specs.Graph.{source_of, trail, way_in, going_back, beginning}
use Rattle.lp_spec_design.specs.Nodes.{fuel_of, HasFuel}
use Rattle.lp_spec_design.specs.Reads.{name-true, path-true, index-true}
use Rattle.lp_spec_pins.specs.Pins.{Powered, PinAssignment, begins, supply_begun, supply_of_node, driver_begun, driving}
use Rattle.lp_spec_realises.specs.Ends.{End, AtPin, AtSwitched, AtTop, AtConstant, Nowhere, same_end, own_end, wire_end}
use Rattle.lp_spec_agreement.specs.Alike.{supply_of_end, pair_of_end}
use Rattle.lp_spec_agreement.proofs.Ways.{by_ways, trail_is}

bool-true : (a b : Bool) → same_bool a b ≡ true → a ≡ b
bool-true true b e = sym e
bool-true false true e = absurd (false≢true e)
bool-true false false e = refl

pub end-true : (a b : End) → same_end a b ≡ true → a ≡ b
end-true (AtPin p x q) (AtPin r y s) e =
    let name = and_parts (bytes_eq x y) (bytes_eq q s && same_path p r) e in
    let more = and_parts (bytes_eq q s) (same_path p r) name.1 in
    λ i. AtPin (path-true p r more.1 i) (name-true x y name.0 i) (name-true q s more.0 i)
end-true (AtSwitched p x q) (AtSwitched r y s) e =
    let name = and_parts (bytes_eq x y) (bytes_eq q s && same_path p r) e in
    let more = and_parts (bytes_eq q s) (same_path p r) name.1 in
    λ i. AtSwitched (path-true p r more.1 i) (name-true x y name.0 i) (name-true q s more.0 i)
end-true (AtTop m i) (AtTop n j) e = let both = and_parts (bytes_eq m n) (same_index i j) e in λ r. AtTop (name-true m n both.0 r) (index-true i j both.1 r)
end-true (AtConstant a) (AtConstant b) e = ap (λ x. AtConstant x) (bool-true a b e)
end-true Nowhere Nowhere e = refl
end-true _ _ e = absurd (false≢true e)

module _ (w : Powered) (enough : HasFuel w.structure) where
  -- a wire begins at a node to which no way leads
  begun_first : (k : Node) (o : Option Source) → ((way : Way) (j : Node) → o ≡ Some (From way j) → ⊥) → supply_begun w k o ≡ supply_of_end w (own_end k o)
  begun_first k (Some (From way j)) first = absurd (first way j refl)
  begun_first (Outer n j) (Some Environment) first = refl
  begun_first (Inner n j p) (Some Environment) first = refl
  begun_first (Fixed b) (Some Environment) first = refl
  begun_first (Outer n j) (Some (SwitchedPin p x g)) first = refl
  begun_first (Inner n j r) (Some (SwitchedPin p x g)) first = refl
  begun_first (Fixed b) (Some (SwitchedPin p x g)) first = refl
  begun_first (Outer n j) None first = refl
  begun_first (Inner n j p) None first = refl
  begun_first (Fixed b) None first = refl
  begun_first (Outer n j) (Some (CellPin p x q)) first = refl
  begun_first (Inner n j r) (Some (CellPin p x q)) first = refl
  begun_first (Fixed b) (Some (CellPin p x q)) first = refl

  driver_first : (B : PinAssignment) (k : Node) (o : Option Source) → ((way : Way) (j : Node) → o ≡ Some (From way j) → ⊥) → driver_begun w B k o ≡ pair_of_end w B (own_end k o)
  driver_first B k (Some (From way j)) first = absurd (first way j refl)
  driver_first B (Outer n j) (Some Environment) first = refl
  driver_first B (Inner n j p) (Some Environment) first = refl
  driver_first B (Fixed b) (Some Environment) first = refl
  driver_first B (Outer n j) (Some (SwitchedPin p x g)) first = refl
  driver_first B (Inner n j r) (Some (SwitchedPin p x g)) first = refl
  driver_first B (Fixed b) (Some (SwitchedPin p x g)) first = refl
  driver_first B (Outer n j) None first = refl
  driver_first B (Inner n j p) None first = refl
  driver_first B (Fixed b) None first = refl
  driver_first B (Outer n j) (Some (CellPin p x q)) first = refl
  driver_first B (Inner n j r) (Some (CellPin p x q)) first = refl
  driver_first B (Fixed b) (Some (CellPin p x q)) first = refl

  -- no way leads to where a wire begins
  abbrev First : Node → Type 0
  First k = (way : Way) (j : Node) → source_of w.structure (begins w k) ≡ Some (From way j) → ⊥

  begins_is : (k : Node) (o : Option Source) → source_of w.structure k ≡ o → begins w k ≡ beginning k (going_back (λ j. trail w.structure (fuel_of w.structure) j) (way_in o))
  begins_is k o e = ap (beginning k) (trail_is w.structure enough k o e)

  first_here : (k : Node) → First k
  first_here = by_ways w.structure enough First step
    where
      by : (k : Node) → ((way : Way) (j : Node) → source_of w.structure k ≡ Some (From way j) → First j) → (o : Option Source) → source_of w.structure k ≡ o → First k
      by k before None e way j is = let no : None ≡ Some (From way j) = sym (ap (source_of w.structure) (begins_is k None e) ∙ e) ∙ is in absurd cc
      by k before (Some (CellPin p x q)) e way j is = let no : Some (CellPin p x q) ≡ Some (From way j) = sym (ap (source_of w.structure) (begins_is k (Some (CellPin p x q)) e) ∙ e) ∙ is in absurd cc
      by k before (Some (SwitchedPin p x q)) e way j is = let no : Some (SwitchedPin p x q) ≡ Some (From way j) = sym (ap (source_of w.structure) (begins_is k (Some (SwitchedPin p x q)) e) ∙ e) ∙ is in absurd cc
      by k before (Some Environment) e way j is = let no : Some Environment ≡ Some (From way j) = sym (ap (source_of w.structure) (begins_is k (Some Environment) e) ∙ e) ∙ is in absurd cc
      by k before (Some (From other i)) e way j is = before other i e way j (ap (source_of w.structure) (sym (begins_is k (Some (From other i)) e)) ∙ is)

      step : (k : Node) → ((way : Way) (j : Node) → source_of w.structure k ≡ Some (From way j) → First j) → First k
      step k before = by k before (source_of w.structure k) refl

  pub supply_is : (k : Node) → supply_of_node w k ≡ supply_of_end w (wire_end w.structure (fuel_of w.structure) k)
  supply_is k = begun_first (begins w k) (source_of w.structure (begins w k)) (first_here k)

  pub driving_is : (B : PinAssignment) (k : Node) → driving w B k ≡ pair_of_end w B (wire_end w.structure (fuel_of w.structure) k)
  driving_is B k = driver_first B (begins w k) (source_of w.structure (begins w k)) (first_here k)
