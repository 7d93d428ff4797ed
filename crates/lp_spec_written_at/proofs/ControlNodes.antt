-- Each control that is led is a net bit of its instance, or a constant.
use Rattle.std.proofs.Common.{◌≡◌, ◌⊎◌, ℕ, Bool, true, false, ◌||◌, List, [], ◌∷◌, ◌++◌, map, Option, Some, None, inl, inr, refl, sym, ap, ◌∙◌, subst}
use Rattle.std.specs.Prelude.{filter, flat_map, slice_get, if◌then◌else◌}
use Rattle.lp_model.specs.declared.library.Action.{Action}
use Rattle.lp_model.specs.declared.library.PinUse.{PinUse}
use Rattle.lp_model.specs.declared.library.PinUse.TheVariants.{Retain}
use Rattle.lp_model.specs.declared.library.RetClass.TheVariants.{Save, Restore, Both}
use Rattle.lp_spec_design.specs.Keys.{Name, Path, same_path, Node, Inner, Outer, Fixed}
use Rattle.lp_spec_design.specs.Instances.{Placed, cell_instances}
use Rattle.lp_spec_design.specs.Graph.{numbered}
use Rattle.lp_spec_design.specs.Intents.{Strategy}
use Rattle.lp_spec_design.specs.Chains.{Operator, Clamp, Shift}
use Rattle.lp_spec_design.specs.Registers.{retains, retention_rank, retention_winner, inserting, retention}
use Rattle.lp_spec_design.specs.Winners.{IsIn, beats_all}
use Rattle.lp_spec_design.proofs.Members.{in-either, of-map, of-flat, of-filter, of-some, of-numbered}
use Rattle.lp_spec_design.proofs.Sources.{then_is, first_in}
use Rattle.lp_spec_realises.specs.Projects.{Project}
use Rattle.lp_spec_realises.specs.Realises.{control_of}
use Rattle.lp_spec_realises.specs.Operators.{SwitchAt, all_switches}
use Rattle.lp_spec_realises.specs.Implements.{Lists, is_retained, register_chosen}
use Rattle.lp_spec_written.specs.Places.{Standing, Kept, Switching, kept_by, kept, switching, plan, cell_numbered}
use Rattle.lp_spec_written.specs.Supplies.{common}
use Rattle.lp_spec_written.specs.Routes.{Route, to_instance, enable_of, node_in, routes, Kind, PortOut, Between, PortIn, Part, has_part, up_to, parts_at, crossing_wire, parts_by, parts_to, parts_of, new_among, parts_after, parts}
use Rattle.lp_spec_written_at.specs.Sources.{IsNetBit, HasControls}
use Rattle.lp_spec_written_at.proofs.Lists.{in-slice}
use Rattle.lp_spec_written_at.proofs.Stands.{is-switching}
use Rattle.lp_spec_written_at.proofs.ControlNames.{switch-bits}

-- ---- each part is of the control of a route

at-control : (k : Node) (kind : Kind) (xs : List Path) (t : Part) → IsIn t (parts_at k kind xs) → t.control ≡ k
at-control k kind xs t h = let one = of-map (λ x. record { control = k; path = x; kind = kind }) t xs h in ap (λ (z : Part). z.control) one.2

by-control : (made : List Part) (k : Node) (own c x : Path) (t : Part) → IsIn t (parts_by made k own c x) → t.control ≡ k
by-control made k own c x t h = elim (in-either t (parts_at k PortOut (up_to own c)) (crossing_wire made k own c ++ parts_at k PortIn (up_to x c)) h) [
  | inl l ↦ at-control k PortOut (up_to own c) t l
  | inr r ↦ elim (in-either t (crossing_wire made k own c) (parts_at k PortIn (up_to x c)) r) [
    | inl m ↦ wire (same_path own c || has_part made (record { control = k; path = c; kind = PortOut })) m
    | inr n ↦ at-control k PortIn (up_to x c) t n
  ]
]
  where
    wire : (b : Bool) → IsIn t (if b then [] else parts_at k Between (c ∷ [])) → t.control ≡ k
    wire true g = absurd g
    wire false g = at-control k Between (c ∷ []) t g

to-control : (made : List Part) (x : Path) (k : Node) (t : Part) → IsIn t (parts_to made x k) → t.control ≡ k
to-control made x (Inner n i own) t h = by-control made (Inner n i own) own (common own x) x t h
to-control made x (Outer n i) t h = absurd h
to-control made x (Fixed b) t h = absurd h

after-control : (made : List Part) (all : List Route) (t : Part) → IsIn t (parts_after made all) → IsIn t made ⊎ ((r : Route) × IsIn r all × (t.control ≡ r.0))
after-control made [] t h = inl h
after-control made (r ∷ more) t h = elim (after-control (made ++ new_among made (parts_of made r)) more t h) [
  | inl l ↦ elim (in-either t made (new_among made (parts_of made r)) l) [
    | inl old ↦ inl old
    | inr new ↦ inr (r, inl refl, to-control made r.1 r.0 t (of-filter _ t (parts_of made r) new).0)
  ]
  | inr later ↦ inr (later.0, inr later.1, later.2)
]

-- ---- each route is of a control

some-same : {A : Type 0} (u v : A) → Some u ≡ Some v → u ≡ v
some-same u v e = cc

module _ (p : Project) (has : HasControls p) where
  abbrev IsGood : Node → Type 0
  IsGood k = IsNetBit p.structure k

  pub enable-good : (o : Operator) (k : Node) → enable_of p o ≡ Some k → IsGood k
  enable-good (Clamp t i) k e = let found = then_is (λ (x : Strategy). x.control) (slice_get p.intent.strategies t) k e in has.enables found.0 k (in-slice p.intent.strategies t found.0 found.1) found.2
  enable-good (Shift t a b) k e = absurd cc

  pub save-good : (t : Strategy) (k : Node) → IsIn t p.intent.strategies → node_in t.save ≡ Some k → IsGood k
  save-good t k h e = let found = then_is (λ (x : Node × Action). Some x.0) t.save k e in subst IsGood (some-same found.0.0 k found.2) (has.saves t found.0 h found.1)

  pub restore-good : (t : Strategy) (k : Node) → IsIn t p.intent.strategies → node_in t.restore ≡ Some k → IsGood k
  restore-good t k h e = let found = then_is (λ (x : Node × Action). Some x.0) t.restore k e in subst IsGood (some-same found.0.0 k found.2) (has.restores t found.0 h found.1)

  pub control-good : (t : Strategy) (u : PinUse) (k : Node) → IsIn t p.intent.strategies → control_of t u ≡ Some k → IsGood k
  control-good t u k h e = by u e
    where
      by : (u : PinUse) → control_of t u ≡ Some k → IsGood k
      by (Retain Save save restore) g = save-good t k h g
      by (Retain Restore save restore) g = restore-good t k h g
      by (Retain Both save restore) g = save-good t k h g
      by _ g = absurd cc

  -- a strategy that wins is one of the intent
  strategy-listed : (x : Path) (n : Name) (t : Strategy) → retention p.intent x n ≡ Some t → IsIn t p.intent.strategies
  strategy-listed x n t e = by (retention_winner p.intent x n) refl e
    where
      picked : (z : ℕ × Strategy) → retention_winner p.intent x n ≡ Some z → IsIn z.1 p.intent.strategies
      picked z g =
          let among = filter (λ (y : ℕ × Strategy). retains p.intent x n y.1) (numbered 0 p.intent.strategies) in
          let at = first_in (beats_all (retention_rank x n) among) among z g in
          of-numbered 0 z p.intent.strategies (of-filter (λ (y : ℕ × Strategy). retains p.intent x n y.1) z (numbered 0 p.intent.strategies) at.0).0

      chosen : (b : Bool) (z : ℕ × Strategy) → (if b then Some z.1 else None) ≡ Some t → z.1 ≡ t
      chosen true z g = some-same z.1 t g
      chosen false z g = absurd cc

      by : (o : Option (ℕ × Strategy)) → retention_winner p.intent x n ≡ o → inserting (retention_winner p.intent x n) ≡ Some t → IsIn t p.intent.strategies
      by None g h = let none : None ≡ Some t = sym (ap inserting g) ∙ h in absurd cc
      by (Some z) g h = subst (λ s. IsIn s p.intent.strategies) (chosen z.1.inserts z (sym (ap inserting g) ∙ h)) (picked z g)

  module _ (l : Lists) where
    kept-strategy : (a : Placed) (t : Option Strategy) (k : Kept) → retention p.intent a.path a.instance ≡ t → kept_by p l a t ≡ Some k → IsIn k.strategy p.intent.strategies
    kept-strategy a None k g e = absurd cc
    kept-strategy a (Some t) k g e =
        let found = then_is (λ c. Some (record { place = a; strategy = t; cell = c })) (cell_numbered p (register_chosen p l a)) k e in
        subst (λ s. IsIn s p.intent.strategies) (inside (record { place = a; strategy = t; cell = found.0 }) refl found.2) (strategy-listed a.path a.instance t g)
      where
        inside : (r : Kept) → r.strategy ≡ t → Some r ≡ Some k → t ≡ k.strategy
        inside r is same = sym is ∙ ap (λ (z : Kept). z.strategy) (some-same r k same)

    pub register-strategy : (k : Kept) → IsIn k (plan p l).registers → IsIn k.strategy p.intent.strategies
    register-strategy k h =
        let found = of-some (kept p l) k (filter (is_retained p) (cell_instances p.structure)) h in
        kept-strategy found.0 (retention p.intent found.0.path found.0.instance) k refl found.2

    pub switch-good : (s : Switching) → IsIn s (plan p l).switches → IsGood s.asked.control
    switch-good s h =
        let found = of-some (switching p l) s (numbered 0 (all_switches p)) h in
        subst (λ (x : SwitchAt). IsGood x.control) (sym (is-switching p l found.0 s found.2).asked) (switch-bits p found.0.1 (of-numbered 0 found.0 (all_switches p) found.1))

    to-good : (x : Path) (o : Option Node) (r : Route) → IsIn r (to_instance x o) → o ≡ Some r.0
    to-good x None r h = absurd h
    to-good x (Some k) r (inl is) = ap (λ (z : Route). Some z.0) (sym is)
    to-good x (Some k) r (inr h) = absurd h

    route-good : (r : Route) → IsIn r (routes p (plan p l)) → IsGood r.0
    route-good r h = elim (in-either r enables (registers ++ switches) h) [
      | inl e ↦
          let o = of-flat (λ (o : Standing). to_instance o.path (enable_of p o.asked.operator)) r (plan p l).operators e in
          enable-good o.0.asked.operator r.0 (to-good o.0.path (enable_of p o.0.asked.operator) r o.2)
      | inr rest ↦ elim (in-either r registers switches rest) [
        | inl g ↦
            let k = of-flat (λ (k : Kept). to_instance k.place.path (node_in k.strategy.save) ++ to_instance k.place.path (node_in k.strategy.restore)) r (plan p l).registers g in
            elim (in-either r (to_instance k.0.place.path (node_in k.0.strategy.save)) (to_instance k.0.place.path (node_in k.0.strategy.restore)) k.2) [
              | inl s ↦ save-good k.0.strategy r.0 (register-strategy k.0 k.1) (to-good k.0.place.path (node_in k.0.strategy.save) r s)
              | inr s ↦ restore-good k.0.strategy r.0 (register-strategy k.0 k.1) (to-good k.0.place.path (node_in k.0.strategy.restore) r s)
            ]
        | inr g ↦
            let s = of-map (λ (s : Switching). (s.asked.control, s.path)) r (plan p l).switches g in
            subst IsGood (ap (λ (z : Route). z.0) (sym s.2)) (switch-good s.0 s.1)
      ]
    ]
      where
        enables : List Route
        enables = flat_map (λ (o : Standing). to_instance o.path (enable_of p o.asked.operator)) (plan p l).operators

        registers : List Route
        registers = flat_map (λ (k : Kept). to_instance k.place.path (node_in k.strategy.save) ++ to_instance k.place.path (node_in k.strategy.restore)) (plan p l).registers

        switches : List Route
        switches = map (λ (s : Switching). (s.asked.control, s.path)) (plan p l).switches

    pub part-good : (t : Part) → IsIn t (parts p (plan p l)) → IsGood t.control
    part-good t h = elim (after-control [] (routes p (plan p l)) t h) [
      | inl none ↦ absurd none
      | inr from ↦ subst IsGood (sym from.2) (route-good from.0 from.1)
    ]
