-- Chains of operators: a shifter takes the rail that reaches it, and what comes from a rail that is off is lost.
use Rattle.std.proofs.Common.{◌≡◌, ℕ, Bool, true, false, ◌&&◌, List, [], ◌∷◌, ◌++◌, take, drop, map, Option, Some, None, inl, inr, refl, sym, subst, ap, ◌∙◌, arith, zero, suc}
use Rattle.std.specs.Prelude.{slice_get, filter, if◌then◌else◌}
use Rattle.lp_tern.specs.declared.tern.Tern.{Tern}
use Rattle.lp_tern.specs.declared.tern.Tern.TheVariants.{X}
use Rattle.lp_model.specs.declared.side.Side.{Side}
use Rattle.lp_model.specs.declared.side.Side.TheVariants.{Upper, Lower}
use Rattle.lp_model.specs.declared.intent.StrategyKind.TheVariants.{Isolation, Shifting}
use Rattle.lp_spec_design.specs.Keys.{Node, Way}
use Rattle.lp_spec_design.specs.Netlists.{is_input}
use Rattle.lp_spec_design.specs.Nodes.{fuel_of, HasFuel}
use Rattle.lp_spec_design.specs.Graph.{Reader, numbered, readers}
use Rattle.lp_spec_design.specs.Intents.{SetNumber, Strategy, Intent, Network}
use Rattle.lp_spec_design.specs.Domains.{BoundaryBit, boundary}
use Rattle.lp_spec_design.specs.Winners.{IsIn, Crossing, crossing, winner}
use Rattle.lp_spec_design.specs.Chains.{Operator, Clamp, Shift, rail_after, by_rule, shifter, target, clamp_of, around_clamp, side_part, joined, chain, bit_of_way}
use Rattle.lp_spec_design.specs.Settled.{Assignment, Design, Event, Registers, SettlesIntent, at, set_on, kept, through, rail_of, operators_of}
use Rattle.lp_spec_design.proofs.DesignLaws.{step-off}
use Rattle.lp_spec_design.proofs.Corrupted.{corrupted}
use Rattle.lp_spec_design.proofs.Members.{in-map, in-left, of-map, of-flat}
use Rattle.lp_spec_realises.specs.Projects.{Project, network_of}
use Rattle.lp_spec_realises.specs.Operators.{OperatorAt, chain_of, operators_of_bit, all_operators}
use Rattle.lp_spec_faults.specs.Strategies.{rail_to_bit}
use Rattle.lp_spec_faults.specs.Readings.{ClampReads, is_clamp, all_readings, PinReads, reading_supply}
use Rattle.lp_spec_voltages.proofs.Roots.{at-number}

-- ---- rails meet the input supplies of shifters

meets : Option SetNumber → List Operator → Type 0
meets r [] = Unit {0}
meets r (Clamp t i ∷ more) = meets (Some i) more
meets r (Shift t a b ∷ more) = (r ≡ Some a) × meets (Some b) more

meets-append : (r : Option SetNumber) (xs ys : List Operator) → meets r xs → meets (rail_after r xs) ys → meets r (xs ++ ys)
unfolding meets
meets-append r [] ys first second = second
meets-append r (Clamp t i ∷ xs) ys first second = meets-append (Some i) xs ys first second
meets-append r (Shift t a b ∷ xs) ys first second = (first.0, meets-append (Some b) xs ys first.1 second)

meets-shifter : (n : Network) (shift : Option (ℕ × Strategy)) (s t : Option SetNumber) → meets s (shifter n shift s t)
unfolding meets
meets-shifter n None s t = tt
meets-shifter n (Some k) None t = tt
meets-shifter n (Some k) (Some a) None = tt
meets-shifter n (Some k) (Some a) (Some b) = by (k.1.inserts && by_rule n k.1.rule k.1.threshold a b)
  where
    by : (wanted : Bool) → meets (Some a) (if wanted then Shift k.0 a b ∷ [] else [])
    by true = (refl, tt)
    by false = tt

meets-around : (n : Network) (shift : Option (ℕ × Strategy)) (t s : Option SetNumber) (c : Option (ℕ × SetNumber)) → meets s (around_clamp n shift t s c)
unfolding meets
meets-around n shift t s None = meets-shifter n shift s t
meets-around n shift t s (Some c) = meets-append s (shifter n shift s (Some c.1)) (Clamp c.0 c.1 ∷ shifter n shift (Some c.1) t) (meets-shifter n shift s (Some c.1)) (meets-shifter n shift (Some c.1) t)

meets-side : (n : Network) (i : Intent) (side : Side) (c : Crossing) (s : Option SetNumber) → meets s (side_part n i side c s)
meets-side n i side c s = meets-around n (winner n i Shifting side c) (target (winner n i Shifting side c) c.readers) s (clamp_of (winner n i Isolation side c))

meets-joined : (n : Network) (i : Intent) (one two : Side) (c : Crossing) (s : Option SetNumber) → meets s (joined n i one two c s)
meets-joined n i one two c s = meets-append s (side_part n i one c s) (side_part n i two c (rail_after s (side_part n i one c s))) (meets-side n i one c s) (meets-side n i two c (rail_after s (side_part n i one c s)))

meets-chain : (n : Network) (i : Intent) (c : Crossing) (s : Option SetNumber) → meets s (chain n i c s)
meets-chain n i c s = by (is_input c.bit.port)
  where
    by : (input : Bool) → meets s (if input then joined n i Lower Upper c s else joined n i Upper Lower c s)
    by true = meets-joined n i Lower Upper c s
    by false = meets-joined n i Upper Lower c s

reached : (r : Option SetNumber) (front back : List Operator) (t : ℕ) (a b : SetNumber) → meets r (front ++ (Shift t a b ∷ back)) → rail_after r front ≡ Some a
unfolding meets
reached r [] back t a b m = m.0
reached r (Clamp k i ∷ front) back t a b m = reached (Some i) front back t a b m
reached r (Shift k c d ∷ front) back t a b m = reached (Some d) front back t a b m.1

pub chain-reaches : (p : Project) (b : BoundaryBit) (front back : List Operator) (t : ℕ) (a k : SetNumber)
    → chain_of p b ≡ front ++ (Shift t a k ∷ back) → rail_after (rail_to_bit p b) front ≡ Some a
chain-reaches p b front back t a k is =
    reached (rail_to_bit p b) front back t a k
    (subst (meets (rail_to_bit p b)) is (meets-chain (network_of p) p.intent (crossing p.structure p.intent (fuel_of p.structure) b) (rail_to_bit p b)))

pub way-reaches : (d : Design) (w : Way) (r : Option SetNumber) (front back : List Operator) (t : ℕ) (a b : SetNumber)
    → operators_of d w r ≡ front ++ (Shift t a b ∷ back) → rail_after r front ≡ Some a
unfolding meets
way-reaches d w r front back t a b is = reached r front back t a b (subst (meets r) is (by (bit_of_way d.structure d.intent w) refl))
  where
    by : (found : Option BoundaryBit) → bit_of_way d.structure d.intent w ≡ found → meets r (operators_of d w r)
    by None e = rw e tt
    by (Some bit) e = rw e (meets-chain d.network d.intent (crossing d.structure d.intent (fuel_of d.structure) bit) r)

-- ---- what a clamp reads

pub in-filter : {T : Type 0} (test : T → Bool) (x : T) (xs : List T) → IsIn x xs → test x ≡ true → IsIn x (filter test xs)
in-filter test x [] among passes = absurd among
in-filter test x (y ∷ xs) among passes = by (test y) refl (λ rest. in-filter test x xs rest passes)
  where
    by : (b : Bool) → test y ≡ b → (IsIn x xs → IsIn x (filter test xs)) → IsIn x (if b then y ∷ filter test xs else filter test xs)
    by true e more = elim among [ inl is ↦ inl is | inr rest ↦ inr (more rest) ]
    by false e more = elim among [ inl is ↦ (let none : true ≡ false = sym passes ∙ ap test is ∙ e in absurd cc) | inr rest ↦ more rest ]

-- a list parts at what stands at a number
parts-at : {T : Type 0} (xs : List T) (k : ℕ) (x : T) → slice_get xs k ≡ Some x → xs ≡ take k xs ++ (x ∷ drop (suc k) xs)
parts-at [] k x e = absurd cc
parts-at (y ∷ xs) zero x e = let is : y ≡ x = cc in ap (λ z. z ∷ xs) is
parts-at (y ∷ xs) (suc k) x e = ap (λ zs. y ∷ zs) (parts-at xs k x e)

-- where an operator stands
pub stands-at : (p : Project) (o : OperatorAt) → IsIn o (all_operators p)
    → IsIn o.bit (boundary p.structure p.intent) × (slice_get (chain_of p o.bit) o.number ≡ Some o.operator)
stands-at p o among =
    let found = of-flat (operators_of_bit p) o (boundary p.structure p.intent) among in
    let made = of-map (λ (x : ℕ × Operator). record { bit = found.0; number = x.0; operator = x.1 }) o (numbered 0 (chain_of p found.0)) found.2 in
    let place = at-number 0 (chain_of p found.0) made.0.0 made.0.1 made.1 in
    let number : made.0.0 ≡ place.0 = omega (arith, place.1) in
    let there : slice_get (chain_of p found.0) made.0.0 ≡ Some made.0.1 = ap (slice_get (chain_of p found.0)) number ∙ place.2 in
    subst (λ (z : OperatorAt). IsIn z.bit (boundary p.structure p.intent) × (slice_get (chain_of p z.bit) z.number ≡ Some z.operator)) (sym made.2) (found.1, there)

pub parts-chain : (p : Project) (o : OperatorAt) → IsIn o (all_operators p)
    → IsIn o.bit (boundary p.structure p.intent) × (chain_of p o.bit ≡ take o.number (chain_of p o.bit) ++ (o.operator ∷ drop (suc o.number) (chain_of p o.bit)))
parts-chain p o among = let at = stands-at p o among in (at.0, parts-at (chain_of p o.bit) o.number o.operator at.1)

pub shifter-rail : (p : Project) (o : OperatorAt) (t : ℕ) (a b : SetNumber) → IsIn o (all_operators p) → o.operator ≡ Shift t a b
    → rail_after (rail_to_bit p o.bit) (take o.number (chain_of p o.bit)) ≡ Some a
shifter-rail p o t a b among is =
    chain-reaches p o.bit (take o.number (chain_of p o.bit)) (drop (suc o.number) (chain_of p o.bit)) t a b
    ((parts-chain p o among).1 ∙ ap (λ z. take o.number (chain_of p o.bit) ++ (z ∷ drop (suc o.number) (chain_of p o.bit))) is)

pub clamp-reads : (p : Project) (o : OperatorAt) (t : ℕ) (i : SetNumber) → IsIn o (all_operators p) → o.operator ≡ Clamp t i
    → IsIn (ClampReads o) (all_readings p)
clamp-reads p o t i among is =
    in-left (ClampReads o) (map (λ z. ClampReads z) (filter is_clamp (all_operators p))) (map (λ (r : Reader × Node). PinReads r.0 r.1) (readers p.structure))
    (in-map (λ (z : OperatorAt). ClampReads z) o (filter is_clamp (all_operators p))
    (in-filter is_clamp o (all_operators p) among (λ j. is_clamp (record { bit = o.bit; number = o.number; operator = is j }))))

pub clamp-supply : (p : Project) (o : OperatorAt) (t : ℕ) (i : SetNumber) → o.operator ≡ Clamp t i → reading_supply p (ClampReads o) ≡ Some i
clamp-supply p o t i is = λ j. reading_supply p (ClampReads (record { bit = o.bit; number = o.number; operator = is j }))

-- ---- what is lost

kept-lost : (on : Bool) → kept on X ≡ X
kept-lost true = refl
kept-lost false = refl

kept-by : (a b : Bool) (v : Tern) → (a ≡ false → v ≡ X) → kept (a && b) v ≡ kept b v
kept-by true b v lost = refl
kept-by false b v lost = sym (ap (kept b) (lost refl) ∙ kept-lost b)

pub by-output : (n : Network) (i : Intent) (A : Assignment) (v : Tern) (t : ℕ) (a b : SetNumber) → (set_on n A (Some a) ≡ false → v ≡ X)
    → through n i A v (Shift t a b ∷ []) ≡ kept (set_on n A (Some b)) v
by-output n i A v t a b lost = kept-by (set_on n A (Some a)) (set_on n A (Some b)) v lost

pub lost-behind : (d : Design) (ev : Event) (regs : Registers) (A : Assignment) → SettlesIntent d ev regs A → HasFuel d.structure
    → (k : Node) (front : List Operator) (a : SetNumber)
    → rail_after (rail_of d k) front ≡ Some a → set_on d.network A (Some a) ≡ false → through d.network d.intent A (at A k) front ≡ X
lost-behind d ev regs A settles fuel k [] a is off = corrupted d ev regs A settles fuel k a is off
lost-behind d ev regs A settles fuel k (o ∷ front) a is off = step-off d.network d.intent A (at A k) o front (ap (set_on d.network A) is ∙ off)
