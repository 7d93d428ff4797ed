-- A node is lost where its rail is not on.
use Rattle.std.proofs.Common.{◌≡◌, ℕ, zero, suc, ◌<◌, Bool, false, List, [], ◌∷◌, length, Option, Some, None, refl, sym, ap, ◌∙◌, arith}
use Rattle.lp_tern.specs.declared.tern.Tern.{Tern}
use Rattle.lp_tern.specs.declared.tern.Tern.TheVariants.{X}
use Rattle.lp_spec_design.specs.Keys.{Way, Node, Inner, Outer, Fixed, Source, CellPin, SwitchedPin, Environment, From}
use Rattle.lp_spec_design.specs.Graph.{source_of, trail, way_in, going_back}
use Rattle.lp_spec_design.specs.Nodes.{fuel_of, HasFuel}
use Rattle.lp_spec_design.specs.Intents.{SetNumber, Intent, Network}
use Rattle.lp_spec_design.specs.Netlists.{cell_at}
use Rattle.lp_spec_design.specs.Domains.{domain_of, primary_of, source_supply, start_rail}
use Rattle.lp_spec_design.specs.Chains.{Operator, rail_after, rail_along}
use Rattle.lp_spec_design.specs.Settled.{Assignment, Design, Event, Registers, At, Logic, rail_of, operators_of, SettlesIntent, at, logic_in, set_on, through, node_equation, output_of}
use Rattle.lp_spec_design.proofs.DesignLaws.{kept-off, step-off}

none≢some : {A : Type 0} {x : A} → None ≡ Some x → ⊥
none≢some e = absurd cc

-- what comes out of operators is lost where the supply behind them is not on
through-some : (n : Network) (i : Intent) (A : Assignment) (r : Option SetNumber) (v : Tern) (operators : List Operator) (t : SetNumber) → rail_after r operators ≡ Some t → (r ≡ Some t → v ≡ X) → set_on n A (Some t) ≡ false → through n i A v operators ≡ X
through-some n i A r v [] t e lost off = lost e
through-some n i A r v (o ∷ operators) t e lost off = step-off n i A v o operators (ap (set_on n A) e ∙ off)

module _ (d : Design) (ev : Event) (regs : Registers) (A : Assignment) (settles : SettlesIntent d ev regs A) (fuel : HasFuel d.structure) where
  -- the way back from a node, by what drives it
  trail_by : (k : Node) → trail d.structure (fuel_of d.structure) k ≡ going_back (λ j. trail d.structure (fuel_of d.structure) j) (way_in (source_of d.structure k))
  trail_by k = sym (fuel k)

  rail_by : Node → Option Source → Option SetNumber
  rail_by k None = None
  rail_by k (Some (CellPin p x q)) = source_supply d.intent k (Some (CellPin p x q))
  rail_by k (Some (SwitchedPin p x q)) = None
  rail_by k (Some Environment) = source_supply d.intent k (Some Environment)
  rail_by k (Some (From w j)) = rail_after (rail_of d j) (operators_of d w (rail_of d j))

  along : Node → Option Source → Option SetNumber
  along k source = rail_along d.structure d.network d.intent (fuel_of d.structure) k (going_back (λ j. trail d.structure (fuel_of d.structure) j) (way_in source))

  along_by : (k : Node) (source : Option Source) → source_of d.structure k ≡ source → along k source ≡ rail_by k source
  unfolding along rail_by
  along_by k None e = ap (source_supply d.intent k) e
  along_by k (Some (CellPin p x q)) e = ap (source_supply d.intent k) e
  along_by k (Some (SwitchedPin p x q)) e = ap (source_supply d.intent k) e
  along_by k (Some Environment) e = ap (source_supply d.intent k) e
  along_by k (Some (From w j)) e = refl

  -- the rail of a node, by what drives it
  rail_is : (k : Node) (source : Option Source) → source_of d.structure k ≡ source → rail_of d k ≡ rail_by k source
  unfolding along
  rail_is k source e =
      ap (rail_along d.structure d.network d.intent (fuel_of d.structure) k) (trail_by k)
      ∙ ap (λ x. rail_along d.structure d.network d.intent (fuel_of d.structure) k (going_back (λ j. trail d.structure (fuel_of d.structure) j) (way_in x))) e
      ∙ along_by k source e

  shorter : (k : Node) (w : Way) (j : Node) → source_of d.structure k ≡ Some (From w j) → length (trail d.structure (fuel_of d.structure) k) ≡ suc (length (trail d.structure (fuel_of d.structure) j))
  shorter k w j e = ap length (trail_by k) ∙ ap (λ x. length (going_back (λ i. trail d.structure (fuel_of d.structure) i) (way_in x))) e

  fixed_rail : (b : Bool) → rail_of d (Fixed b) ≡ None
  unfolding rail_by
  fixed_rail b = rail_is (Fixed b) None refl

  -- what a node has, by what drives it
  value : (k : Node) (source : Option Source) → source_of d.structure k ≡ source → A (At k) ≡ Logic (node_equation d ev regs A k source)
  value k source e = settles (At k) ∙ ap (λ x. Logic (node_equation d ev regs A k x)) e

  -- a node is lost where its rail is off, if that holds of the node from which its way comes
  lost : (k : Node) (source : Option Source) → source_of d.structure k ≡ source →
      ((w : Way) (j : Node) (t : SetNumber) → source_of d.structure k ≡ Some (From w j) → rail_of d j ≡ Some t → set_on d.network A (Some t) ≡ false → at A j ≡ X) →
      (r : SetNumber) → rail_by k source ≡ Some r → set_on d.network A (Some r) ≡ false → logic_in (A (At k)) ≡ X
  unfolding rail_by
  lost k None e before r is off = absurd (none≢some is)
  lost k (Some (SwitchedPin p x q)) e before r is off = absurd (none≢some is)
  lost (Outer m i) (Some Environment) e before r is off = ap logic_in (value (Outer m i) (Some Environment) e) ∙ kept-off (set_on d.network A (start_rail d.structure d.intent (Outer m i))) (ev.inputs m i) (ap (λ x. set_on d.network A (source_supply d.intent (Outer m i) x)) e ∙ ap (set_on d.network A) is ∙ off)
  lost (Inner m i p) (Some Environment) e before r is off = absurd (none≢some is)
  lost (Fixed b) (Some Environment) e before r is off = absurd (none≢some is)
  lost k (Some (CellPin p x q)) e before r is off =
      ap logic_in (value k (Some (CellPin p x q)) e)
      ∙ kept-off (set_on d.network A (primary_of d.intent (domain_of d.intent p))) (output_of d.structure A regs p x q (cell_at d.structure p x)) (ap (set_on d.network A) is ∙ off)
  lost k (Some (From w j)) e before r is off =
      ap logic_in (value k (Some (From w j)) e)
      ∙ through-some d.network d.intent A (rail_of d j) (at A j) (operators_of d w (rail_of d j)) r is
      (λ h. before w j r e h off) off

  at-lost : (n : ℕ) (k : Node) → length (trail d.structure (fuel_of d.structure) k) < n → (r : SetNumber) → rail_of d k ≡ Some r → set_on d.network A (Some r) ≡ false → at A k ≡ X
  at-lost zero k few r is off = absurd (omega arith)
  at-lost (suc n) (Fixed b) few r is off = absurd (none≢some (sym (fixed_rail b) ∙ is))
  at-lost (suc n) (Inner m i p) few r is off =
      lost (Inner m i p) (source_of d.structure (Inner m i p)) refl
      (λ w j t e h o. let less = shorter (Inner m i p) w j e in at-lost n j (omega arith) t h o)
      r (sym (rail_is (Inner m i p) (source_of d.structure (Inner m i p)) refl) ∙ is) off
  at-lost (suc n) (Outer m i) few r is off =
      lost (Outer m i) (source_of d.structure (Outer m i)) refl
      (λ w j t e h o. let less = shorter (Outer m i) w j e in at-lost n j (omega arith) t h o)
      r (sym (rail_is (Outer m i) (source_of d.structure (Outer m i)) refl) ∙ is) off

pub corrupted : (d : Design) (ev : Event) (regs : Registers) (A : Assignment) → SettlesIntent d ev regs A → HasFuel d.structure → (k : Node) (r : SetNumber) → rail_of d k ≡ Some r → set_on d.network A (Some r) ≡ false → at A k ≡ X
corrupted d ev regs A settles fuel k r is off = at-lost d ev regs A settles fuel (suc (length (trail d.structure (fuel_of d.structure) k))) k (omega arith) r is off
