-- What settles by pins depends on the states of registers alone: a cell without a state group reads none.
use Rattle.std.proofs.Common.{◌≡◌, Bool, true, false, not, ◌&&◌, cond, List, ◌++◌, map, Option, Some, None, refl, sym, ◌∙◌, ap}
use Rattle.std.specs.Prelude.{is_some, slice_get}
use Rattle.std.specs.List.{list_all, flat_map}
use Rattle.std.proofs.lemmas.List.{append-nil}
use Rattle.std.proofs.lemmas.List.Folds.{list_all-append}
use Rattle.lp_tern.specs.declared.tern.Tern.{Tern}
use Rattle.lp_tern.specs.declared.tern.Tern.TheVariants.{Zero, One, X}
use Rattle.lp_tern.specs.declared.supply.SupplyState.TheVariants.{Off}
use Rattle.lp_tern.specs.Values.{replacements, agreed, choose_supply_of}
use Rattle.lp_expr.specs.Formula.{truth, completions}
use Rattle.lp_model.specs.LibraryView.{ExprView, SwitchedView, PinView, StateView, CellView}
use Rattle.lp_spec_design.specs.Keys.{Name, Path, Node, Inner, Outer, Fixed, Source, CellPin, SwitchedPin, Environment, From}
use Rattle.lp_spec_design.specs.Netlists.{cell_at}
use Rattle.lp_spec_design.specs.Graph.{source_of}
use Rattle.lp_spec_design.specs.Settled.{Logic, State, Registers, kept, pin_named, read_pin, state_named, value_named, function_value, output_by}
use Rattle.lp_spec_design.specs.Registers.{holds_state}
use Rattle.lp_spec_pins.specs.Pins.{FromTop, FromSwitched, Powered, PinKey, Signal, Supply, PinAssignment, PinEvent, pins_read, is_up, is_unfit, output_at, cell_output_at, signal_equation, state_of_pg, switched_of, switched_state, switch_equation, pg_named, pin_equation}

and-self : (b : Bool) → (b && b) ≡ b
and-self true = refl
and-self false = refl

all-twice : (p : Bool → Bool) (xs : List Bool) → list_all p (xs ++ xs) ≡ list_all p xs
all-twice p xs = list_all-append p xs xs ∙ and-self (list_all p xs)

agreed-twice : (xs : List Bool) → agreed (xs ++ xs) ≡ agreed xs
agreed-twice xs = λ i. cond (all-twice (λ b. b) xs i) One (cond (all-twice not xs i) Zero X)

-- outcomes that do not depend on a bit agree on the same for each value of it
without_bit : (f : Bool → List Bool) → f true ≡ f false → (a : Tern) → agreed (flat_map f (replacements a)) ≡ agreed (f false)
without_bit f e Zero = ap agreed (append-nil (f false))
without_bit f e One = ap agreed (append-nil (f true) ∙ e)
without_bit f e X = ap (λ ys. agreed (f false ++ ys)) (append-nil (f true) ∙ e) ∙ agreed-twice (f false)

abbrev outcomes : CellView → (Name → Tern) → ExprView → Bool → List Bool
outcomes c seen e bit = map (truth e.steps) (completions (map (λ v. value_named (read_pin c v) (seen v) (state_named c.state bit v)) e.variables))

stateless : (c : CellView) (seen : Name → Tern) (a b : Tern) (e : ExprView) → c.state ≡ None → function_value c seen a e ≡ function_value c seen b e
stateless c seen a b e is = without_bit (outcomes c seen e) same a ∙ sym (without_bit (outcomes c seen e) same b)
  where
    none : (bit : Bool) (v : Name) → state_named c.state bit v ≡ X
    none bit v = ap (λ s. state_named s bit v) is

    same : outcomes c seen e true ≡ outcomes c seen e false
    same = λ i. map (truth e.steps) (completions (map (λ v. value_named (read_pin c v) (seen v) ((none true v ∙ sym (none false v)) i)) e.variables))

module _ (w : Powered) (B : PinAssignment) (r q : Registers) (held : (p : Path) (x : Name) → holds_state (cell_at w.structure p x) ≡ true → r p x ≡ q p x) where
  module _ (p : Path) (x : Name) (c : CellView) (cell : cell_at w.structure p x ≡ Some c) where
    function-held : (seen : Name → Tern) (e : ExprView) → function_value c seen (r p x) e ≡ function_value c seen (q p x) e
    function-held seen e = by c.state refl
      where
        by : (g : Option StateView) → c.state ≡ g → function_value c seen (r p x) e ≡ function_value c seen (q p x) e
        by None is = stateless c seen (r p x) (q p x) e is
        by (Some g) is = ap (λ a. function_value c seen a e) (held p x (ap holds_state cell ∙ ap is_some is))

    output_by-held : (seen : Name → Tern) (e : Option ExprView) → output_by c seen (r p x) e ≡ output_by c seen (q p x) e
    output_by-held seen None = refl
    output_by-held seen (Some e) = function-held seen e

    output-held : (v : Option PinView) → output_at w B r p x c v ≡ output_at w B q p x c v
    output-held None = refl
    output-held (Some v) = ap (kept (is_up w B p x c v.power_down && not (is_unfit w B p x c v))) (output_by-held (pins_read w B p x c) v.function)

    switched-held : (s : Option SwitchedView) → switched_state w B r p x c s ≡ switched_state w B q p x c s
    switched-held None = refl
    switched-held (Some s) = ap (λ t. choose_supply_of t Off (state_of_pg w B p x (slice_get c.pgs s.passes))) (function-held (pins_read w B p x c) s.off)

  cell-held : (p : Path) (x v : Name) (c : Option CellView) → cell_at w.structure p x ≡ c → cell_output_at w B r p x v c ≡ cell_output_at w B q p x v c
  cell-held p x v None is = refl
  cell-held p x v (Some c) is = output-held p x c is (pin_named c v)

  switch-held : (p : Path) (x g : Name) (c : Option CellView) → cell_at w.structure p x ≡ c → switch_equation w B r p x g c ≡ switch_equation w B q p x g c
  switch-held p x g None is = refl
  switch-held p x g (Some c) is = switched-held p x c is (switched_of (pg_named c g))

  signal-held : (ev : PinEvent) (k : Node) (o : Option Source) → signal_equation w ev r B k o ≡ signal_equation w ev q B k o
  signal-held ev k None = refl
  signal-held ev k (Some (CellPin p x v)) = cell-held p x v (cell_at w.structure p x) refl
  signal-held ev k (Some (SwitchedPin p x v)) = refl
  signal-held ev k (Some (From way j)) = refl
  signal-held ev (Outer n j) (Some Environment) = refl
  signal-held ev (Inner n j p) (Some Environment) = refl
  signal-held ev (Fixed b) (Some Environment) = refl

  pub equation-held : (ev : PinEvent) (k : PinKey) → pin_equation w ev r k B ≡ pin_equation w ev q k B
  equation-held ev (Signal k) = ap (λ v. Logic v) (signal-held ev k (source_of w.structure k))
  equation-held ev (Supply (FromTop n)) = refl
  equation-held ev (Supply (FromSwitched p x g)) = ap (λ v. State v) (switch-held p x g (cell_at w.structure p x) refl)
