-- What settles by pins is what has at each node the value, and at each supply the state, of the end at which its wire begins.
use Rattle.std.proofs.Common.{◌≡◌, ℕ, Bool, Option, Some, None, refl, sym, ap, ◌∙◌}
use Rattle.lp_tern.specs.declared.tern.Tern.TheVariants.{X}
use Rattle.lp_spec_settling.specs.Settling.{Settles}
use Rattle.lp_spec_design.specs.Keys.{Name, Path, Way, Node, Inner, Outer, Fixed, Source, CellPin, SwitchedPin, Environment, From}
use Rattle.lp_spec_design.specs.Graph.{source_of}
use Rattle.lp_spec_design.specs.Nodes.{fuel_of, HasFuel}
use Rattle.lp_spec_design.specs.Settled.{Logic, Registers, logic_in}
use Rattle.lp_spec_pins.specs.Pins.{Powered, PinKey, Signal, Supply, PinAssignment, PinEvent, signal_at, signal_equation, pin_equation}
use Rattle.lp_spec_realises.specs.Ends.{wire_end}
use Rattle.lp_spec_agreement.specs.Alike.{value_of_end}
use Rattle.lp_spec_agreement.proofs.Ways.{by_ways, end_by, end_is, fixed_end}

module _ (w : Powered) (enough : HasFuel w.structure) (ev : PinEvent) (regs : Registers) where
  -- each key by the end at which its wire begins
  abbrev pub by_end : PinAssignment → PinAssignment
  by_end B (Signal (Fixed b)) = Logic X
  by_end B (Signal (Inner n j p)) = Logic (value_of_end w ev regs B (wire_end w.structure (fuel_of w.structure) (Inner n j p)))
  by_end B (Signal (Outer n j)) = Logic (value_of_end w ev regs B (wire_end w.structure (fuel_of w.structure) (Outer n j)))
  by_end B (Supply x) = pin_equation w ev regs (Supply x) B

  abbrev pub IsByEnds : PinAssignment → Type 0
  IsByEnds B = (k : PinKey) → B k ≡ by_end B k

  module _ (B : PinAssignment) where
    abbrev pub AtEnd : Node → Type 0
    AtEnd k = signal_at B k ≡ value_of_end w ev regs B (wire_end w.structure (fuel_of w.structure) k)

    fixed_at : (b : Bool) → AtEnd (Fixed b)
    fixed_at b = sym (ap (value_of_end w ev regs B) (fixed_end w.structure enough b))

    -- the equation of a node that is no constant says the same
    inner_equation : (n : Name) (j : Option ℕ) (p : Path) (o : Option Source) → ((way : Way) (i : Node) → o ≡ Some (From way i) → AtEnd i)
        → signal_equation w ev regs B (Inner n j p) o ≡ value_of_end w ev regs B (end_by w.structure enough (Inner n j p) o)
    inner_equation n j p None before = refl
    inner_equation n j p (Some (CellPin q x v)) before = refl
    inner_equation n j p (Some (SwitchedPin q x g)) before = refl
    inner_equation n j p (Some Environment) before = refl
    inner_equation n j p (Some (From way i)) before = before way i refl

    outer_equation : (n : Name) (j : Option ℕ) (o : Option Source) → ((way : Way) (i : Node) → o ≡ Some (From way i) → AtEnd i)
        → signal_equation w ev regs B (Outer n j) o ≡ value_of_end w ev regs B (end_by w.structure enough (Outer n j) o)
    outer_equation n j None before = refl
    outer_equation n j (Some (CellPin q x v)) before = refl
    outer_equation n j (Some (SwitchedPin q x g)) before = refl
    outer_equation n j (Some Environment) before = refl
    outer_equation n j (Some (From way i)) before = before way i refl

    inner_is : (n : Name) (j : Option ℕ) (p : Path) → ((way : Way) (i : Node) → source_of w.structure (Inner n j p) ≡ Some (From way i) → AtEnd i)
        → signal_equation w ev regs B (Inner n j p) (source_of w.structure (Inner n j p)) ≡ value_of_end w ev regs B (wire_end w.structure (fuel_of w.structure) (Inner n j p))
    inner_is n j p before =
        inner_equation n j p (source_of w.structure (Inner n j p)) before
        ∙ ap (value_of_end w ev regs B) (sym (end_is w.structure enough (Inner n j p) (source_of w.structure (Inner n j p)) refl))

    outer_is : (n : Name) (j : Option ℕ) → ((way : Way) (i : Node) → source_of w.structure (Outer n j) ≡ Some (From way i) → AtEnd i)
        → signal_equation w ev regs B (Outer n j) (source_of w.structure (Outer n j)) ≡ value_of_end w ev regs B (wire_end w.structure (fuel_of w.structure) (Outer n j))
    outer_is n j before =
        outer_equation n j (source_of w.structure (Outer n j)) before
        ∙ ap (value_of_end w ev regs B) (sym (end_is w.structure enough (Outer n j) (source_of w.structure (Outer n j)) refl))

    -- what settles has at each node the value of its end
    pub at_ends : Settles (pin_equation w ev regs) B → (k : Node) → AtEnd k
    at_ends s = by_ways w.structure enough AtEnd step
      where
        step : (k : Node) → ((way : Way) (i : Node) → source_of w.structure k ≡ Some (From way i) → AtEnd i) → AtEnd k
        step (Fixed b) before = fixed_at b
        step (Inner n j p) before = ap logic_in (s (Signal (Inner n j p))) ∙ inner_is n j p before
        step (Outer n j) before = ap logic_in (s (Signal (Outer n j))) ∙ outer_is n j before

    pub is_by_ends : Settles (pin_equation w ev regs) B → IsByEnds B
    is_by_ends s (Signal (Fixed b)) = s (Signal (Fixed b))
    is_by_ends s (Signal (Inner n j p)) = s (Signal (Inner n j p)) ∙ ap (λ v. Logic v) (inner_is n j p (λ way i e. at_ends s i))
    is_by_ends s (Signal (Outer n j)) = s (Signal (Outer n j)) ∙ ap (λ v. Logic v) (outer_is n j (λ way i e. at_ends s i))
    is_by_ends s (Supply x) = s (Supply x)

    -- and the other way round
    pub ends_at : IsByEnds B → (k : Node) → AtEnd k
    ends_at f (Fixed b) = fixed_at b
    ends_at f (Inner n j p) = ap logic_in (f (Signal (Inner n j p)))
    ends_at f (Outer n j) = ap logic_in (f (Signal (Outer n j)))

    pub ends_settle : IsByEnds B → Settles (pin_equation w ev regs) B
    ends_settle f (Signal (Fixed b)) = f (Signal (Fixed b))
    ends_settle f (Signal (Inner n j p)) = f (Signal (Inner n j p)) ∙ ap (λ v. Logic v) (sym (inner_is n j p (λ way i e. ends_at f i)))
    ends_settle f (Signal (Outer n j)) = f (Signal (Outer n j)) ∙ ap (λ v. Logic v) (sym (outer_is n j (λ way i e. ends_at f i)))
    ends_settle f (Supply x) = f (Supply x)
