-- Every power and ground pin of a netlist that carries a design has one supply.
use Rattle.std.proofs.Common.{◌≡◌, Bool, true, List, [], ◌∷◌, map, Option, Some, None, refl, ◌∙◌, ap}
use Rattle.std.specs.Prelude.{flat_map}
use Rattle.std.specs.List.{AllByRecursion, list_all}
use Rattle.std.proofs.lemmas.Bool.{and_from}
use Rattle.std.proofs.lemmas.List.Folds.{list_all-append}
use Rattle.lp_model.specs.LibraryView.{PgPinView, CellView}
use Rattle.lp_spec_design.specs.Keys.{Name, Node}
use Rattle.lp_spec_design.specs.Netlists.{cell_at}
use Rattle.lp_spec_design.specs.Instances.{Placed, cell_instances}
use Rattle.lp_spec_design.specs.Settled.{Design}
use Rattle.lp_spec_pins.specs.Pins.{Powered, is_joined}
use Rattle.lp_spec_pins.specs.Supplied.{PgPinAt, pg_pins_of, has_one_supply, is_supplied}
use Rattle.lp_spec_plain.specs.Carried.{IsJoined, Carries}

all-flat : {A B : Type 0} (p : B → Bool) (f : A → List B) (xs : List A) → ((x : A) → list_all p (f x) ≡ true) → list_all p (flat_map f xs) ≡ true
all-flat p f [] h = refl
all-flat p f (x ∷ xs) h = list_all-append p (f x) (flat_map f xs) ∙ and_from _ _ (h x) (all-flat p f xs h)

module _ (d : Design) (w : Powered) (own : Node → Bool) (power gnd : Name) (carries : Carries d w own power gnd) where
  is_at : PgPinAt → Bool
  is_at a = has_one_supply w a

  pins : (a : Placed) (gs : List PgPinView) → AllByRecursion (IsJoined w a.path a.instance power gnd) gs → list_all is_at (map (λ (g : PgPinView). record { path = a.path; instance = a.instance; pin = g.name }) gs) ≡ true
  unfolding is_at
  pins a [] all = refl
  pins a (g ∷ gs) all = and_from _ _ (and_from _ _ (ap is_joined all.0.0) all.0.1) (pins a gs all.1)

  of_cell : (a : Placed) (c : Option CellView) → cell_at d.structure a.path a.instance ≡ c → list_all is_at (pg_pins_of a c) ≡ true
  of_cell a None e = refl
  of_cell a (Some c) e = pins a c.pgs (carries.cells_joined a.path a.instance c e)

  of_instance : (a : Placed) → list_all is_at (pg_pins_of a (cell_at w.structure a.path a.instance)) ≡ true
  of_instance a = ap (λ c. list_all is_at (pg_pins_of a c)) (carries.same_cell a.path a.instance) ∙ of_cell a (cell_at d.structure a.path a.instance) refl

  pub supplied : is_supplied w ≡ true
  unfolding is_at
  supplied = all-flat is_at (λ a. pg_pins_of a (cell_at w.structure a.path a.instance)) (cell_instances w.structure) of_instance
