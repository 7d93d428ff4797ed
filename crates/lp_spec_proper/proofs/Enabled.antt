-- A clamp is one of a strategy of isolation that inserts, so it has an enable.
use Rattle.std.proofs.Common.{◌≡◌, ℕ, Bool, true, false, ◌&&◌, [], ◌∷◌, Option, Some, None, inl, inr, refl, sym, ap, ◌∙◌, subst}
use Rattle.std.specs.Prelude.{is_some, if◌then◌else◌, option_and_then, slice_get}
use Rattle.std.proofs.lemmas.Bool.{and_parts}
use Rattle.lp_model.specs.declared.side.Side.{Side}
use Rattle.lp_model.specs.declared.side.Side.TheVariants.{Upper, Lower}
use Rattle.lp_model.specs.declared.intent.StrategyKind.TheVariants.{Isolation, Shifting}
use Rattle.lp_spec_design.specs.Graph.{numbered}
use Rattle.lp_spec_design.specs.Netlists.{is_input}
use Rattle.lp_spec_design.specs.Nodes.{fuel_of}
use Rattle.lp_spec_design.specs.Intents.{SetNumber, Strategy, Intent, Network}
use Rattle.lp_spec_design.specs.Domains.{node_before}
use Rattle.lp_spec_design.specs.Winners.{IsIn, Crossing, crossing, applies, same_kind, rank, applying, beats_all, winner}
use Rattle.lp_spec_design.specs.Chains.{Operator, Clamp, Shift, by_rule, shifter, target, clamp_of, around_clamp, side_part, joined, chain, rail_after}
use Rattle.lp_spec_design.specs.Settled.{rail_of}
use Rattle.lp_spec_design.proofs.Members.{in-either, of-filter}
use Rattle.lp_spec_design.proofs.Sources.{first_in}
use Rattle.lp_spec_realises.specs.Projects.{network_of, design_of}
use Rattle.lp_spec_realises.specs.Operators.{chain_of}
use Rattle.lp_spec_voltages.proofs.Chains.{stands-at}
use Rattle.lp_spec_voltages.proofs.Roots.{slice-in}
use Rattle.lp_spec_written.specs.Routes.{enable_of}
use Rattle.lp_spec_written_at.proofs.Wiring.{at-numbered}
use Rattle.lp_spec_proper.specs.Laws.{ClampsHaveEnables}

-- the strategy of a number isolates and inserts
record Inserts (i : Intent) (t : ℕ) : Type 0 where
  strategy : Strategy
  found : slice_get i.strategies t ≡ Some strategy
  isolates : same_kind Isolation strategy.kind ≡ true
  inserts : strategy.inserts ≡ true

abbrev clamps : Operator → ℕ → Type 0
clamps (Clamp t i) k = t ≡ k
clamps (Shift t a b) k = ⊥

no-clamp : (n : Network) (s : Option (ℕ × Strategy)) (a b : Option SetNumber) (o : Operator) (k : ℕ) → IsIn o (shifter n s a b) → clamps o k → ⊥
no-clamp n None a b o k h c = h
no-clamp n (Some t) None b o k h c = h
no-clamp n (Some t) (Some a) None o k h c = h
no-clamp n (Some t) (Some a) (Some b) o k h c = by (t.1.inserts && by_rule n t.1.rule t.1.threshold a b) h
  where
    by : (w : Bool) → IsIn o (if w then Shift t.0 a b ∷ [] else []) → ⊥
    by true (inl is) = subst (λ (z : Operator). clamps z k) is c
    by true (inr none) = none
    by false none = none

module _ (n : Network) (i : Intent) (c : Crossing) where
  won : (side : Side) (t : ℕ × Strategy) → winner n i Isolation side c ≡ Some t → t.1.inserts ≡ true → Inserts i t.0
  won side t e inserts =
      let among = (first_in (beats_all (rank c.bit) (applying n i Isolation side c)) (applying n i Isolation side c) t e).0 in
      let passed = of-filter (λ (x : ℕ × Strategy). same_kind Isolation x.1.kind && applies n i side c x.1) t (numbered 0 i.strategies) among in
      record { strategy = t.1; found = at-numbered i.strategies t passed.0; isolates = (and_parts (same_kind Isolation t.1.kind) (applies n i side c t.1) passed.1).0; inserts = inserts }

  clamp-by : (t : ℕ × Strategy) (b : Bool) (s : Option SetNumber) (k : ℕ × SetNumber) → t.1.inserts ≡ b → t.1.supply ≡ s → clamp_of (Some t) ≡ Some k → (t.0 ≡ k.0) × (t.1.inserts ≡ true)
  clamp-by t true (Some x) k e f g = let is : Some (t.0, x) ≡ Some k = rw (e, f) at g in let same : (t.0, x) ≡ k = cc in (ap (λ (z : ℕ × SetNumber). z.0) same, e)
  clamp-by t true None k e f g = let is : None ≡ Some k = rw (e, f) at g in absurd cc
  clamp-by t false s k e f g = let is : None ≡ Some k = rw (e) at g in absurd cc

  asks : (side : Side) (k : ℕ × SetNumber) → clamp_of (winner n i Isolation side c) ≡ Some k → Inserts i k.0
  asks side k e = by (winner n i Isolation side c) refl e
    where
      by : (o : Option (ℕ × Strategy)) → winner n i Isolation side c ≡ o → clamp_of o ≡ Some k → Inserts i k.0
      by None is f = absurd cc
      by (Some t) is f = let parts = clamp-by t t.1.inserts t.1.supply k refl refl f in subst (Inserts i) parts.0 (won side t is parts.1)

  around : (side : Side) (shift : Option (ℕ × Strategy)) (t s : Option SetNumber) (o : Operator) (k : ℕ) (found : Option (ℕ × SetNumber)) → clamp_of (winner n i Isolation side c) ≡ found
      → IsIn o (around_clamp n shift t s found) → clamps o k → Inserts i k
  around side shift t s o k None e h is = absurd (no-clamp n shift s t o k h is)
  around side shift t s o k (Some x) e h is = elim (in-either o (shifter n shift s (Some x.1)) (Clamp x.0 x.1 ∷ shifter n shift (Some x.1) t) h) [
    | inl l1 ↦ absurd (no-clamp n shift s (Some x.1) o k l1 is)
    | inr r1 ↦ elim r1 [
      | inl same ↦ let number : x.0 ≡ k = subst (λ (z : Operator). clamps z k) same is in subst (Inserts i) number (asks side x e)
      | inr r2 ↦ absurd (no-clamp n shift (Some x.1) t o k r2 is)
    ]
  ]

  on-side : (side : Side) (s : Option SetNumber) (o : Operator) (k : ℕ) → IsIn o (side_part n i side c s) → clamps o k → Inserts i k
  on-side side s o k h is = around side (winner n i Shifting side c) (target (winner n i Shifting side c) c.readers) s o k (clamp_of (winner n i Isolation side c)) refl h is

  on-chain : (s : Option SetNumber) (o : Operator) (k : ℕ) → IsIn o (chain n i c s) → clamps o k → Inserts i k
  on-chain s o k h is = by (is_input c.bit.port) h
    where
      both : (one two : Side) → IsIn o (joined n i one two c s) → Inserts i k
      both one two g = elim (in-either o (side_part n i one c s) (side_part n i two c (rail_after s (side_part n i one c s))) g) [
        | inl l ↦ on-side one s o k l is
        | inr r ↦ on-side two (rail_after s (side_part n i one c s)) o k r is
      ]

      by : (b : Bool) → IsIn o (if b then joined n i Lower Upper c s else joined n i Upper Lower c s) → Inserts i k
      by true g = both Lower Upper g
      by false g = both Upper Lower g

pub enables-there : ClampsHaveEnables
enables-there p l switch_command read good within q t i h is =
    let at = stands-at p q h in
    let has = on-chain (network_of p) p.intent (crossing p.structure p.intent (fuel_of p.structure) q.bit) (rail_of (design_of p) (node_before p.structure q.bit)) q.operator t (slice-in (chain_of p q.bit) q.number q.operator at.1) (subst (λ (z : Operator). clamps z t) (sym is) refl) in
    ap (λ z. is_some (enable_of p z)) is
    ∙ (ap (λ z. is_some (option_and_then (λ (x : Strategy). x.control) z)) has.found
    ∙ within.resolved.isolated has.strategy (slice-in p.intent.strategies t has.strategy has.found) has.isolates has.inserts)
