-- Where no operator, register or switch lacks a cell, each register with retention and each switch has the one that is chosen.
use Rattle.std.proofs.Common.{◌≡◌, ℕ, Bool, true, false, not, cond, List, [], ◌∷◌, map, Option, Some, None, inl, inr, refl, sym, ap, ◌∙◌}
use Rattle.std.specs.Prelude.{slice_get, filter, is_some, option_and_then}
use Rattle.std.proofs.lemmas.Bool.{false≢true, true≢false}
use Rattle.lp_model.specs.declared.library.Action.{Action}
use Rattle.lp_model.specs.declared.supply.SetOrigins.{SetOrigins}
use Rattle.lp_model.specs.LibraryView.{CellView}
use Rattle.lp_spec_design.specs.Keys.{Node}
use Rattle.lp_spec_design.specs.Netlists.{first}
use Rattle.lp_spec_design.specs.Instances.{Placed, cell_instances}
use Rattle.lp_spec_design.specs.Intents.{Strategy}
use Rattle.lp_spec_design.specs.Registers.{retention_winner, retention}
use Rattle.lp_spec_design.specs.Winners.{IsIn}
use Rattle.lp_spec_design.specs.Reads.{one, other}
use Rattle.lp_spec_design.proofs.Members.{in-left, in-right, in-map}
use Rattle.lp_spec_fit.specs.Choice.{choice}
use Rattle.lp_spec_fit.proofs.Chosen.{is_choice}
use Rattle.lp_spec_realises.specs.Projects.{Project, functions_of}
use Rattle.lp_spec_realises.specs.Operators.{SwitchAt, all_operators, all_switches}
use Rattle.lp_spec_realises.specs.Realises.{cell_of, primary_at}
use Rattle.lp_spec_realises.specs.Implements.{Lists, register_by, register_chosen, switch_chosen, is_retained}
use Rattle.lp_spec_faults.specs.Lines.{first_of}
use Rattle.lp_spec_faults.specs.Strategies.{has_state, registers}
use Rattle.lp_spec_faults.specs.Readings.{Entry, OfOperator, OfRegister, OfSwitch, lacks_cell, no_cell, entries}
use Rattle.lp_spec_written.specs.Places.{cell_numbered}
use Rattle.lp_spec_written_at.specs.Sources.{HasRegisterCells}
use Rattle.lp_spec_written_at.proofs.Paths.{some-is}
use Rattle.lp_spec_written_at.proofs.SourceCells.{in-filter}

pub none-passes : {A : Type 0} (t : A → Bool) (xs : List A) (x : A) → first t xs ≡ None → IsIn x xs → t x ≡ false
none-passes t [] x e h = absurd h
none-passes t (y ∷ xs) x e h = by (t y) refl e h (λ f g. none-passes t xs x f g)
  where
    by : (b : Bool) → t y ≡ b → cond b (Some y) (first t xs) ≡ None → IsIn x (y ∷ xs) → (first t xs ≡ None → IsIn x xs → t x ≡ false) → t x ≡ false
    by true is f g more = absurd cc
    by false is f (inl here) more = ap t here ∙ is
    by false is f (inr there) more = more f there

not-lacking : (b : Bool) → not b ≡ false → b ≡ true
not-lacking true e = refl
not-lacking false e = absurd (true≢false e)

choice-there : (t : CellView → Bool) (cells : List CellView) → is_some (choice t cells) ≡ true → is_some (option_and_then (slice_get cells) (choice t cells)) ≡ true
choice-there t cells e =
    let k = some-is (choice t cells) e in
    let is = is_choice t cells k.0 k.1 in
    ap (λ o. is_some (option_and_then (slice_get cells) o)) k.1 ∙ ap is_some is.there

module _ (p : Project) (l : Lists) where
  register-by : (t : ℕ) (c : Option CellView) (q r : Option SetOrigins) (save restore : Option (Node × Action)) → is_some (register_by p l t c q r save restore) ≡ true → is_some (cell_numbered p (register_by p l t c q r save restore)) ≡ true
  register-by t (Some c) (Some q) (Some r) (Some save) (Some restore) e = choice-there _ p.structure.cells e
  register-by t None q r save restore e = absurd (false≢true e)
  register-by t (Some c) None r save restore e = absurd (false≢true e)
  register-by t (Some c) (Some q) None save restore e = absurd (false≢true e)
  register-by t (Some c) (Some q) (Some r) None restore e = absurd (false≢true e)
  register-by t (Some c) (Some q) (Some r) (Some save) None e = absurd (false≢true e)

  chosen-none : (a : Placed) → retention_winner p.intent a.path a.instance ≡ None → register_chosen p l a ≡ None
  chosen-none a e = rw (e) refl

  chosen-some : (a : Placed) (t : ℕ × Strategy) → retention_winner p.intent a.path a.instance ≡ Some t
      → register_chosen p l a ≡ register_by p l t.0 (cell_of p.structure a) (primary_at p a.path) (functions_of p t.1.supply) t.1.save t.1.restore
  chosen-some a t e = rw (e) refl

  register-there : (a : Placed) → is_some (register_chosen p l a) ≡ true → is_some (cell_numbered p (register_chosen p l a)) ≡ true
  register-there a e = by (retention_winner p.intent a.path a.instance) refl
    where
      by : (o : Option (ℕ × Strategy)) → retention_winner p.intent a.path a.instance ≡ o → is_some (cell_numbered p (register_chosen p l a)) ≡ true
      by None g = absurd (false≢true (sym (ap is_some (chosen-none a g)) ∙ e))
      by (Some t) g =
          ap (λ o. is_some (cell_numbered p o)) (chosen-some a t g)
          ∙ register-by t.0 (cell_of p.structure a) (primary_at p a.path) (functions_of p t.1.supply) t.1.save t.1.restore (ap is_some (sym (chosen-some a t g)) ∙ e)

  state-there : (o : Option CellView) → is_some (option_and_then (λ (c : CellView). c.state) o) ≡ true → has_state o ≡ true
  state-there None e = absurd (false≢true e)
  state-there (Some c) e = e

  module _ (none : first_of (no_cell p l) ≡ None) where
    not-there : (x : Entry) → IsIn x (entries p) → lacks_cell p l x ≡ false
    not-there x h = none-passes (lacks_cell p l) (entries p) x none h

    pub switches-have-cells : (x : SwitchAt) → IsIn x (all_switches p) → is_some (cell_numbered p (switch_chosen p l x)) ≡ true
    switches-have-cells x h =
        choice-there _ p.structure.cells
        (not-lacking (is_some (switch_chosen p l x)) (not-there (OfSwitch x)
        (in-right (OfSwitch x) (map (λ o. OfOperator o) (all_operators p)) _ (in-right (OfSwitch x) (map (λ a. OfRegister a) (filter (λ (a : Placed). is_some (retention p.intent a.path a.instance)) (registers p))) _ (in-map (λ z. OfSwitch z) x (all_switches p) h)))))

    pub registers-have-cells : HasRegisterCells p l
    registers-have-cells = record { chosen = chosen }
      where
        chosen : (a : Placed) → IsIn a (cell_instances p.structure) → is_retained p a ≡ true → is_some (cell_numbered p (register_chosen p l a)) ≡ true
        chosen a h e =
            let state = state-there (cell_of p.structure a) (other (is_some (retention p.intent a.path a.instance)) _ e) in
            let strategy = one (is_some (retention p.intent a.path a.instance)) _ e in
            let register : IsIn a (registers p) = in-filter (λ (b : Placed). has_state (cell_of p.structure b)) (cell_instances p.structure) a h state in
            let retained = in-filter (λ (b : Placed). is_some (retention p.intent b.path b.instance)) (registers p) a register strategy in
            register-there a
            (not-lacking (is_some (register_chosen p l a)) (not-there (OfRegister a)
            (in-right (OfRegister a) (map (λ o. OfOperator o) (all_operators p)) _ (in-left (OfRegister a) (map (λ b. OfRegister b) (filter (λ (b : Placed). is_some (retention p.intent b.path b.instance)) (registers p))) _ (in-map (λ b. OfRegister b) a (filter (λ (b : Placed). is_some (retention p.intent b.path b.instance)) (registers p)) retained)))))

pub cells-are-there : (p : Project) (l : Lists) → first_of (no_cell p l) ≡ None → HasRegisterCells p l × ((x : SwitchAt) → IsIn x (all_switches p) → is_some (cell_numbered p (switch_chosen p l x)) ≡ true)
cells-are-there p l none = (registers-have-cells p l none, switches-have-cells p l none)
