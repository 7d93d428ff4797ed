-- An operator stands only where a strategy applies, so a reader's way passes its boundary bit.
use Rattle.std.proofs.Common.{◌≡◌, ℕ, zero, suc, ◌==◌, Bool, true, false, not, ◌&&◌, ◌||◌, List, [], ◌∷◌, map, length, Option, Some, None, inl, inr, refl, ap, ◌∙◌}
use Rattle.std.specs.Prelude.{filter, is_some, if◌then◌else◌}
use Rattle.std.specs.List.{list_any}
use Rattle.std.proofs.lemmas.Bool.{true≢false, false≢true, and_parts, not-true}
use Rattle.lp_model.specs.declared.side.Side.{Side}
use Rattle.lp_model.specs.declared.side.Side.TheVariants.{Upper, Lower}
use Rattle.lp_model.specs.declared.intent.StrategyKind.{StrategyKind}
use Rattle.lp_model.specs.declared.intent.StrategyKind.TheVariants.{Isolation, Shifting}
use Rattle.lp_spec_design.specs.Keys.{Way, same_way, Node, Source, CellPin, SwitchedPin, Environment, From}
use Rattle.lp_spec_design.specs.Netlists.{Structure, is_input}
use Rattle.lp_spec_design.specs.Nodes.{fuel_of}
use Rattle.lp_spec_design.specs.Graph.{source_of, way_in, going_back, trail, Reader, readers, passes, numbered}
use Rattle.lp_spec_design.specs.Intents.{SetNumber, Strategy, Intent, Network}
use Rattle.lp_spec_design.specs.Domains.{BoundaryBit, way_of, reader_supply}
use Rattle.lp_spec_design.specs.Winners.{IsIn, Crossing, crossing, side_domain, may_apply, applies, same_kind, rank, applying, beats_all, winner}
use Rattle.lp_spec_design.specs.Chains.{Operator, target, clamp_of, around_clamp, side_part, joined, chain, rail_after}
use Rattle.lp_spec_design.proofs.Members.{in-either, of-filter}
use Rattle.lp_spec_design.proofs.Sources.{first_in}
use Rattle.lp_spec_wired.proofs.Chains.{way-true}

-- ---- a winner needs readers

winner-reads : (n : Network) (i : Intent) (kind : StrategyKind) (side : Side) (c : Crossing) (t : ℕ × Strategy) → winner n i kind side c ≡ Some t → (length c.readers == 0) ≡ false
winner-reads n i kind side c t e =
    let among = (first_in (beats_all (rank c.bit) (applying n i kind side c)) (applying n i kind side c) t e).0 in
    let passed = of-filter (λ (x : ℕ × Strategy). same_kind kind x.1.kind && applies n i side c x.1) t (numbered 0 i.strategies) among in
    let kinds = and_parts (same_kind kind t.1.kind) (applies n i side c t.1) passed.1 in
    let may = and_parts (may_apply n i side c t.1) _ kinds.1 in
    let domain = and_parts (is_some (side_domain i side c.bit)) _ may.0 in
    let some = and_parts (not (length c.readers == 0)) _ domain.1 in
    not-true (length c.readers == 0) some.0

part-reads : (n : Network) (i : Intent) (side : Side) (c : Crossing) (s : Option SetNumber) (o : Operator) → IsIn o (side_part n i side c s) → (length c.readers == 0) ≡ false
part-reads n i side c s o h = by (winner n i Isolation side c) (winner n i Shifting side c) refl refl h
  where
    by : (a b : Option (ℕ × Strategy)) → winner n i Isolation side c ≡ a → winner n i Shifting side c ≡ b → IsIn o (around_clamp n b (target b c.readers) s (clamp_of a)) → (length c.readers == 0) ≡ false
    by (Some t) b e f g = winner-reads n i Isolation side c t e
    by None (Some t) e f g = winner-reads n i Shifting side c t f
    by None None e f g = absurd g

chain-reads : (n : Network) (i : Intent) (c : Crossing) (s : Option SetNumber) (o : Operator) → IsIn o (chain n i c s) → (length c.readers == 0) ≡ false
chain-reads n i c s o h = by (is_input c.bit.port) h
  where
    both : (one two : Side) → IsIn o (joined n i one two c s) → (length c.readers == 0) ≡ false
    both one two g = elim (in-either o (side_part n i one c s) (side_part n i two c (rail_after s (side_part n i one c s))) g) [
      | inl l ↦ part-reads n i one c s o l
      | inr r ↦ part-reads n i two c (rail_after s (side_part n i one c s)) o r
    ]

    by : (b : Bool) → IsIn o (if b then joined n i Lower Upper c s else joined n i Upper Lower c s) → (length c.readers == 0) ≡ false
    by true g = both Lower Upper g
    by false g = both Upper Lower g

some-member : {A B C : Type 0} (f : B → C) (g : A → B) (xs : List A) → (length (map f (map g xs)) == 0) ≡ false → (x : A) × IsIn x xs
some-member f g [] e = absurd (true≢false e)
some-member f g (x ∷ xs) e = (x, inl refl)

-- ---- a way that a reader passes leads to a node

-- this way leads to a node
pub record HasEnd (s : Structure) (w : Way) : Type 0 where
  pub to : Node
  pub from : Node
  pub source : source_of s to ≡ Some (From w from)

module _ (s : Structure) (w : Way) where
  on-trail : (fuel : ℕ) (k : Node) → list_any (λ (step : Way × Node). same_way step.0 w) (trail s fuel k) ≡ true → HasEnd s w
  on-trail zero k e = absurd (false≢true e)
  on-trail (suc fuel) k e = by (source_of s k) refl e (λ j f. on-trail fuel j f)
    where
      step : (v : Way) (j : Node) → source_of s k ≡ Some (From v j) → (b : Bool) → same_way v w ≡ b → (b || list_any (λ (t : Way × Node). same_way t.0 w) (trail s fuel j)) ≡ true
          → ((j : Node) → list_any (λ (t : Way × Node). same_way t.0 w) (trail s fuel j) ≡ true → HasEnd s w) → HasEnd s w
      step v j is true same f later = record { to = k; from = j; source = is ∙ ap (λ u. Some (From u j)) (way-true v w same) }
      step v j is false same f later = later j f

      by : (o : Option Source) → source_of s k ≡ o → list_any (λ (t : Way × Node). same_way t.0 w) (going_back (λ j. trail s fuel j) (way_in o)) ≡ true
          → ((j : Node) → list_any (λ (t : Way × Node). same_way t.0 w) (trail s fuel j) ≡ true → HasEnd s w) → HasEnd s w
      by None is f later = absurd (false≢true f)
      by (Some (CellPin q x v)) is f later = absurd (false≢true f)
      by (Some (SwitchedPin q x v)) is f later = absurd (false≢true f)
      by (Some Environment) is f later = absurd (false≢true f)
      by (Some (From v j)) is f later = step v j is (same_way v w) refl f later

-- the way of a boundary bit with an operator leads to a node
pub bit-ends : (s : Structure) (n : Network) (i : Intent) (b : BoundaryBit) (r : Option SetNumber) (o : Operator) → IsIn o (chain n i (crossing s i (fuel_of s) b) r) → HasEnd s (way_of b)
bit-ends s n i b r o h =
    let passed = λ (z : Reader × Node). passes s (fuel_of s) (way_of b) z.1 in
    let reader = some-member (reader_supply i) (λ (z : Reader × Node). z.0) (filter passed (readers s)) (chain-reads n i (crossing s i (fuel_of s) b) r o h) in
    let kept = of-filter passed reader.0 (readers s) reader.1 in
    on-trail s (way_of b) (fuel_of s) reader.0.1 kept.1
