-- No control is read too high, whatever the numbers of the commands: the reads of strategies and switches are the same in each order.
use Rattle.std.proofs.Common.{◌≡◌, ℕ, ◌==◌, Bool, false, List, [], ◌∷◌, ◌++◌, map, None, inl, inr, refl, sym, ap, ◌∙◌, subst}
use Rattle.std.specs.Prelude.{flat_map, slice_get, ◌||◌}
use Rattle.std.specs.List.{list_any}
use Rattle.lp_spec_design.specs.Graph.{numbered}
use Rattle.lp_spec_design.specs.Intents.{Strategy}
use Rattle.lp_spec_design.specs.Netlists.{upward}
use Rattle.lp_spec_design.specs.Winners.{IsIn}
use Rattle.lp_spec_design.proofs.Members.{in-left, in-right, in-either, in-map, in-flat, of-map, of-flat, of-filter}
use Rattle.lp_spec_realises.specs.Controls.{reads_too_low}
use Rattle.lp_spec_realises.specs.Projects.{Project}
use Rattle.lp_spec_realises.specs.Operators.{SwitchAt, all_switches}
use Rattle.lp_spec_faults.specs.Lines.{first_of}
use Rattle.lp_spec_faults.specs.Order.{numbers_below, of_command, by_commands, in_command_order}
use Rattle.lp_spec_faults.specs.Readings.{Asks, StrategyAsks, SwitchAsks, ControlRead, reads_of_strategy, reads_of_switch, all_asks, control_reads, control_level}
use Rattle.lp_spec_faults.proofs.Loops.{ends}
use Rattle.lp_spec_agreement.proofs.Framed.{none_passes}

any_none : {A : Type 0} (t : A → Bool) (xs : List A) → ((a : A) → IsIn a xs → t a ≡ false) → list_any t xs ≡ false
any_none t [] all = refl
any_none t (x ∷ xs) all = ap (λ b. b || list_any t xs) (all x (inl refl)) ∙ any_none t xs (λ a h. all a (inr h))

module _ (p : Project) where
  -- those that ask, in no order of commands, and what each reads
  abbrev pub asks_of : List Asks
  asks_of = map (λ (t : ℕ × Strategy). StrategyAsks t.0) (numbered 0 p.intent.strategies) ++ map (λ (x : SwitchAt). SwitchAsks x.origin) (all_switches p)

  abbrev pub asked : Asks → List ControlRead
  asked (StrategyAsks t) = reads_of_strategy p t (slice_get p.intent.strategies t)
  asked (SwitchAsks o) = reads_of_switch o (all_switches p)

  abbrev pub too_low : ControlRead → Bool
  too_low x = reads_too_low p x.control x.reader

  same_reads : (f : Asks → List ControlRead) (z : ControlRead) (xs : List Asks) → IsIn z (flat_map f xs)
      → ((t : ℕ) → f (StrategyAsks t) ≡ asked (StrategyAsks t)) → ((o : ℕ) → f (SwitchAsks o) ≡ asked (SwitchAsks o)) → (a : Asks) × IsIn a xs × IsIn z (asked a)
  same_reads f z xs h strategies switches = let at = of-flat f z xs h in (at.0, at.1, by at.0 at.2)
    where
      by : (a : Asks) → IsIn z (f a) → IsIn z (asked a)
      by (StrategyAsks t) g = subst (λ ys. IsIn z ys) (strategies t) g
      by (SwitchAsks o) g = subst (λ ys. IsIn z ys) (switches o) g

  module _ (commands : ℕ → ℕ) where
    abbrev by_strategy : ℕ × Strategy → ℕ × Asks
    by_strategy t = (t.1.command, StrategyAsks t.0)

    abbrev by_switch : SwitchAt → ℕ × Asks
    by_switch x = (commands x.origin, SwitchAsks x.origin)

    among : (x : ℕ × Asks) → IsIn x (all_asks p commands) → IsIn x.1 asks_of
    among x h = elim (in-either x (map by_strategy (numbered 0 p.intent.strategies)) (map by_switch (all_switches p)) h) [
      | inl s ↦
          let at = of-map by_strategy x (numbered 0 p.intent.strategies) s in
          in-left x.1 (map (λ (t : ℕ × Strategy). StrategyAsks t.0) (numbered 0 p.intent.strategies)) (map (λ (y : SwitchAt). SwitchAsks y.origin) (all_switches p))
          (subst (λ b. IsIn b (map (λ (t : ℕ × Strategy). StrategyAsks t.0) (numbered 0 p.intent.strategies))) (sym (ap (λ (y : ℕ × Asks). y.1) at.2)) (in-map (λ (t : ℕ × Strategy). StrategyAsks t.0) at.0 (numbered 0 p.intent.strategies) at.1))
      | inr s ↦
          let at = of-map by_switch x (all_switches p) s in
          in-right x.1 (map (λ (t : ℕ × Strategy). StrategyAsks t.0) (numbered 0 p.intent.strategies)) (map (λ (y : SwitchAt). SwitchAsks y.origin) (all_switches p))
          (subst (λ b. IsIn b (map (λ (y : SwitchAt). SwitchAsks y.origin) (all_switches p))) (sym (ap (λ (y : ℕ × Asks). y.1) at.2)) (in-map (λ (y : SwitchAt). SwitchAsks y.origin) at.0 (all_switches p) at.1))
    ]

    ordered_among : (a : Asks) → IsIn a (in_command_order (all_asks p commands)) → IsIn a asks_of
    ordered_among a h =
        let one = of-map (λ (x : ℕ × Asks). x.1) a (by_commands (all_asks p commands)) h in
        let two = of-flat (of_command (all_asks p commands)) one.0 (upward (numbers_below (all_asks p commands)) 0) one.1 in
        let there = (of-filter (λ (x : ℕ × Asks). x.0 == two.0) one.0 (all_asks p commands) two.2).0 in
        subst (λ b. IsIn b asks_of) (sym one.2) (among one.0 there)

    read_among : (z : ControlRead) → IsIn z (control_reads p commands) → IsIn z (flat_map asked asks_of)
    read_among z h =
        let at = same_reads _ z (in_command_order (all_asks p commands)) h (λ t. refl) (λ o. refl) in
        in-flat asked at.0 z asks_of (ordered_among at.0 at.1) at.2

    pub no_control_too_low : list_any too_low (flat_map asked asks_of) ≡ false → first_of (control_level p commands) ≡ None
    no_control_too_low e = ends (control_level p commands) (any_none too_low (control_reads p commands) (λ z h. none_passes too_low z (flat_map asked asks_of) e (read_among z h)))
