-- Chains of operators, by the number of operators that are passed, and where nodes of the source have to begin.
use Rattle.std.proofs.Common.{◌≡◌, ◌<◌, ℕ, zero, suc, ◌+◌, false, ◌&&◌, List, [], ◌∷◌, ◌++◌, length, Option, Some, None, inl, inr, refl, sym, ap, ◌∙◌, subst, arith}
use Rattle.std.specs.Prelude.{take, slice_get}
use Rattle.lp_tern.specs.declared.tern.Tern.{Tern}
use Rattle.lp_tern.specs.declared.tern.Tern.TheVariants.{X}
use Rattle.lp_spec_design.specs.Keys.{Way, Node, Source, CellPin, SwitchedPin, Environment, From}
use Rattle.lp_spec_design.specs.Netlists.{Structure}
use Rattle.lp_spec_design.specs.Graph.{source_of, trail, way_in, going_back, numbered}
use Rattle.lp_spec_design.specs.Nodes.{fuel_of, HasFuel}
use Rattle.lp_spec_design.specs.Intents.{SetNumber, Intent, Network}
use Rattle.lp_spec_design.specs.Domains.{BoundaryBit, boundary, way_of, node_before, source_supply}
use Rattle.lp_spec_design.specs.Chains.{Operator, Clamp, Shift, rail_after, rail_along, bit_of_way, chain}
use Rattle.lp_spec_design.specs.Winners.{IsIn, crossing}
use Rattle.lp_spec_design.specs.Settled.{Assignment, at, clamped, kept, set_on, through, rail_of, operators_of}
use Rattle.lp_spec_design.proofs.DesignLaws.{step-off}
use Rattle.lp_spec_design.proofs.Members.{in-map, in-flat, of-map, of-flat}
use Rattle.lp_spec_realises.specs.Projects.{Project, network_of, design_of}
use Rattle.lp_spec_realises.specs.Operators.{OperatorAt, operators_of_bit, all_operators, chain_of, Placement}
use Rattle.lp_spec_realises.specs.Ends.{End, own_end, end_across, output_end, behind, intended_along, intended}
use Rattle.lp_spec_realises.specs.Realises.{data_intended}
use Rattle.lp_spec_agreement.specs.Alike.{value_behind, supply_behind_bit, LostWith}
use Rattle.lp_spec_agreement.proofs.Ways.{trail_is}

-- ---- numbered lists

pub numbered_at : {A : Type 0} (k : ℕ) (x : ℕ × A) (xs : List A) → IsIn x (numbered k xs) → (i : ℕ) × (x.0 ≡ k + i) × (slice_get xs i ≡ Some x.1)
numbered_at k x [] h = absurd h
numbered_at k x (y ∷ ys) (inl is) = let e : x.0 ≡ k = ap (λ z. z.0) is in (0, omega (arith, e), ap (λ z. Some z.1) (sym is))
numbered_at k x (y ∷ ys) (inr h) = let more = numbered_at (k + 1) x ys h in let e : x.0 ≡ (k + 1) + more.0 = more.1 in (suc more.0, omega (arith, e), more.2)

pub in_numbered : {A : Type 0} (k i : ℕ) (a : A) (xs : List A) → slice_get xs i ≡ Some a → (n : ℕ) → n ≡ k + i → IsIn (n, a) (numbered k xs)
in_numbered k i a [] e n is = absurd cc
in_numbered k zero a (y ∷ ys) e n is = let same : n ≡ k = omega (arith, is) in let eq : a ≡ y = cc in inl (λ r. (same r, eq r))
in_numbered k (suc i) a (y ∷ ys) e n is = inr (in_numbered (k + 1) i a ys e n (omega (arith, is)))

pub take_more : {A : Type 0} (k : ℕ) (xs : List A) (o : A) → slice_get xs k ≡ Some o → take (suc k) xs ≡ take k xs ++ (o ∷ [])
take_more k [] o e = absurd cc
take_more zero (x ∷ xs) o e = let is : x ≡ o = cc in ap (λ y. y ∷ []) is
take_more (suc k) (x ∷ xs) o e = ap (λ ys. x ∷ ys) (take_more k xs o e)

pub take_all : {A : Type 0} (xs : List A) → take (length xs) xs ≡ xs
take_all [] = refl
take_all (x ∷ xs) = ap (λ ys. x ∷ ys) (take_all xs)

pub get_there : {A : Type 0} (xs : List A) (k : ℕ) → k < length xs → (x : A) × (slice_get xs k ≡ Some x)
get_there [] k h = absurd (omega arith)
get_there (x ∷ xs) zero h = (x, refl)
get_there (x ∷ xs) (suc k) h = get_there xs k (omega (arith, h))

-- ---- values along operators

module _ (n : Network) (i : Intent) (A : Assignment) where
  pub through_append : (v : Tern) (xs ys : List Operator) → through n i A v (xs ++ ys) ≡ through n i A (through n i A v xs) ys
  through_append v [] ys = refl
  through_append v (Clamp t s ∷ xs) ys = through_append (kept (set_on n A (Some s)) (clamped A (slice_get i.strategies t) v)) xs ys
  through_append v (Shift t a b ∷ xs) ys = through_append (kept (set_on n A (Some a) && set_on n A (Some b)) v) xs ys

  pub lost_behind : (r : Option SetNumber) (v : Tern) (operators : List Operator) → ((t : SetNumber) → r ≡ Some t → set_on n A (Some t) ≡ false → v ≡ X)
      → (t : SetNumber) → rail_after r operators ≡ Some t → set_on n A (Some t) ≡ false → through n i A v operators ≡ X
  lost_behind r v [] lost t e off = lost t e off
  lost_behind r v (o ∷ operators) lost t e off = step-off n i A v o operators (ap (set_on n A) e ∙ off)

module _ (p : Project) where
  -- ---- operators of a bit

  pub operator_in : (b : BoundaryBit) → IsIn b (boundary p.structure p.intent) → (k : ℕ) (o : Operator) → slice_get (chain_of p b) k ≡ Some o
      → IsIn (record { bit = b; number = k; operator = o }) (all_operators p)
  operator_in b there k o e =
      in-flat (operators_of_bit p) b (record { bit = b; number = k; operator = o }) (boundary p.structure p.intent) there
      (in-map (λ x. record { bit = b; number = x.0; operator = x.1 }) (k, o) (numbered 0 (chain_of p b)) (in_numbered 0 k o (chain_of p b) e k (omega arith)))

  pub operator_of : (o : OperatorAt) → IsIn o (all_operators p) → IsIn o.bit (boundary p.structure p.intent) × (slice_get (chain_of p o.bit) o.number ≡ Some o.operator)
  operator_of o h =
      let at_bit = of-flat (operators_of_bit p) o (boundary p.structure p.intent) h in
      let b = at_bit.0 in
      let made = of-map (λ x. record { bit = b; number = x.0; operator = x.1 }) o (numbered 0 (chain_of p b)) at_bit.2 in
      let number = numbered_at 0 made.0 (chain_of p b) made.1 in
      let there : number.0 ≡ made.0.0 = omega (arith, number.1) in
      let is : o ≡ record { bit = b; number = made.0.0; operator = made.0.1 } = made.2 in (
        subst (λ z. IsIn z (boundary p.structure p.intent)) (ap (λ z. z.bit) (sym is)) at_bit.1,
        subst (λ z. slice_get (chain_of p z.bit) z.number ≡ Some z.operator) (sym is) (ap (slice_get (chain_of p b)) (sym there) ∙ number.2),
      )

  -- ---- what passes a way

  pub no_bit : (w : Way) (r : Option SetNumber) → bit_of_way p.structure p.intent w ≡ None → operators_of (design_of p) w r ≡ []
  no_bit w r e = rw e refl

  pub at_bit : (w : Way) (r : Option SetNumber) (b : BoundaryBit) → bit_of_way p.structure p.intent w ≡ Some b
      → operators_of (design_of p) w r ≡ chain (network_of p) p.intent (crossing p.structure p.intent (fuel_of p.structure) b) r
  at_bit w r b e = rw e refl

  module _ (enough : HasFuel p.structure) where
    -- ---- rails, by what drives a node

    abbrev pub rail_by : Node → Option Source → Option SetNumber
    rail_by k None = None
    rail_by k (Some (CellPin q x v)) = source_supply p.intent k (Some (CellPin q x v))
    rail_by k (Some (SwitchedPin q x g)) = None
    rail_by k (Some Environment) = source_supply p.intent k (Some Environment)
    rail_by k (Some (From w j)) = rail_after (rail_of (design_of p) j) (operators_of (design_of p) w (rail_of (design_of p) j))

    abbrev along : Node → List (Way × Node) → Option SetNumber
    along k back = rail_along p.structure (network_of p) p.intent (fuel_of p.structure) k back

    rail_at : (k : Node) (o : Option Source) → source_of p.structure k ≡ o → along k (going_back (λ j. trail p.structure (fuel_of p.structure) j) (way_in o)) ≡ rail_by k o
    rail_at k None e = ap (source_supply p.intent k) e
    rail_at k (Some (CellPin q x v)) e = ap (source_supply p.intent k) e
    rail_at k (Some (SwitchedPin q x g)) e = ap (source_supply p.intent k) e
    rail_at k (Some Environment) e = ap (source_supply p.intent k) e
    rail_at k (Some (From w j)) e = refl

    pub rail_is : (k : Node) (o : Option Source) → source_of p.structure k ≡ o → rail_of (design_of p) k ≡ rail_by k o
    rail_is k o e = ap (along k) (trail_is p.structure enough k o e) ∙ rail_at k o e

    -- ---- where nodes have to begin

    module _ (w : Structure) (place : Placement) where
      abbrev pub intended_by : Node → Option Source → End
      intended_by k None = end_across p.structure w (own_end k None)
      intended_by k (Some (CellPin q x v)) = end_across p.structure w (own_end k (Some (CellPin q x v)))
      intended_by k (Some (SwitchedPin q x g)) = end_across p.structure w (own_end k (Some (SwitchedPin q x g)))
      intended_by k (Some Environment) = end_across p.structure w (own_end k (Some Environment))
      intended_by k (Some (From way j)) = behind w place way (operators_of (design_of p) way (rail_of (design_of p) j)) (intended p w place j)

      intended_at : (k : Node) (o : Option Source) → source_of p.structure k ≡ o → intended_along p w place k (going_back (λ j. trail p.structure (fuel_of p.structure) j) (way_in o)) ≡ intended_by k o
      intended_at k None e = ap (λ x. end_across p.structure w (own_end k x)) e
      intended_at k (Some (CellPin q x v)) e = ap (λ x. end_across p.structure w (own_end k x)) e
      intended_at k (Some (SwitchedPin q x g)) e = ap (λ x. end_across p.structure w (own_end k x)) e
      intended_at k (Some Environment) e = ap (λ x. end_across p.structure w (own_end k x)) e
      intended_at k (Some (From way j)) e = refl

      pub intended_is : (k : Node) (o : Option Source) → source_of p.structure k ≡ o → intended p w place k ≡ intended_by k o
      intended_is k o e = ap (intended_along p w place k) (trail_is p.structure enough k o e) ∙ intended_at k o e

  -- ---- where the value behind so many operators of a bit stands

  module _ (w : Structure) (place : Placement) where
    abbrev pub reach : BoundaryBit → ℕ → End
    reach b zero = intended p w place (node_before p.structure b)
    reach b (suc k) = output_end w (place.operator (way_of b) k)

    data_at : (b : BoundaryBit) (k : ℕ) (o : Operator) → data_intended p w place (record { bit = b; number = k; operator = o }) ≡ reach b k
    data_at b zero o = refl
    data_at b (suc k) o = refl

    pub data_is : (o : OperatorAt) → data_intended p w place o ≡ reach o.bit o.number
    data_is o = data_at o.bit o.number o.operator

    pub behind_none : (way : Way) (operators : List Operator) (e : End) → operators ≡ [] → behind w place way operators e ≡ e
    behind_none way operators e is = ap (λ xs. behind w place way xs e) is

    pub behind_some : (way : Way) (b : BoundaryBit) (operators : List Operator) (e : End) (k : ℕ) → way_of b ≡ way → length operators ≡ suc k → behind w place way operators e ≡ reach b (suc k)
    behind_some way b [] e k is long = absurd (omega (arith, long))
    behind_some way b (o ∷ operators) e k is long = let same : length operators ≡ k = omega (arith, long) in λ r. output_end w (place.operator (sym is r) (same r))

  -- the value behind one more operator
  pub value_more : (A : Assignment) (b : BoundaryBit) (k : ℕ) (o : Operator) → slice_get (chain_of p b) k ≡ Some o → value_behind p A b (suc k) ≡ through (network_of p) p.intent A (value_behind p A b k) (o ∷ [])
  value_more A b k o e =
      ap (through (network_of p) p.intent A (at A (node_before p.structure b))) (take_more k (chain_of p b) o e)
      ∙ through_append (network_of p) p.intent A (at A (node_before p.structure b)) (take k (chain_of p b)) (o ∷ [])

  -- it is lost with the supply there, if that of the node before the bit is
  pub value_lost : (A : Assignment) (b : BoundaryBit) (k : ℕ) → LostWith p A (rail_of (design_of p) (node_before p.structure b)) (at A (node_before p.structure b)) → LostWith p A (supply_behind_bit p b k) (value_behind p A b k)
  value_lost A b k lost t e off = lost_behind (network_of p) p.intent A (rail_of (design_of p) (node_before p.structure b)) (at A (node_before p.structure b)) (take k (chain_of p b)) lost t e off
