-- Which controls are asked about: those of clamps and of registers with retention.
use Rattle.std.proofs.Common.{◌≡◌, ◌<◌, ◌≤◌, ◌+◌, ◌==◌, ℕ, zero, suc, Bool, true, false, not, ◌&&◌, List, [], ◌∷◌, ◌++◌, map, Option, Some, None, inl, inr, refl, sym, subst, ap, ◌∙◌, arith}
use Rattle.std.specs.Prelude.{slice_get, filter, if◌then◌else◌}
use Rattle.std.specs.List.{list_any}
use Rattle.std.proofs.lemmas.Bool.{and_parts, and_from, eq-eqb, eqb-true, eqb-false, false≢true, false_from_ne_true}
use Rattle.std.proofs.Math.Nat.{le-max_left, le-max_right}
use Rattle.lp_model.specs.declared.side.Side.{Side}
use Rattle.lp_model.specs.declared.side.Side.TheVariants.{Upper, Lower}
use Rattle.lp_model.specs.declared.intent.StrategyKind.{StrategyKind}
use Rattle.lp_model.specs.declared.intent.StrategyKind.TheVariants.{Isolation, Shifting, Retention}
use Rattle.lp_spec_design.specs.Keys.{Node}
use Rattle.lp_spec_design.specs.Netlists.{first, upward, is_input}
use Rattle.lp_spec_design.specs.Nodes.{fuel_of}
use Rattle.lp_spec_design.specs.Instances.{Placed}
use Rattle.lp_spec_design.specs.Graph.{numbered}
use Rattle.lp_spec_design.specs.Intents.{SetNumber, Strategy, Intent, Network}
use Rattle.lp_spec_design.specs.Domains.{BoundaryBit, domain_of, same_domain}
use Rattle.lp_spec_design.specs.Winners.{IsIn, Crossing, crossing, same_kind, applies, applying, rank, beats_all, winner}
use Rattle.lp_spec_design.specs.Chains.{Operator, Clamp, Shift, by_rule, shifter, target, clamp_of, around_clamp, side_part, joined, chain}
use Rattle.lp_spec_design.specs.Registers.{is_listed_register, names_register, retains, retention_rank, retention_winner, inserting, retention}
use Rattle.lp_spec_design.proofs.Members.{in-left, in-right, in-map, in-flat, of-filter, of-any, any-in}
use Rattle.lp_spec_realises.specs.Projects.{Project, network_of}
use Rattle.lp_spec_realises.specs.Operators.{OperatorAt, chain_of, all_operators, SwitchAt, all_switches}
use Rattle.lp_spec_realises.specs.Controls.{power_of}
use Rattle.lp_spec_faults.specs.Order.{numbers_below, of_command, by_commands, in_command_order}
use Rattle.lp_spec_faults.specs.Strategies.{registers, rail_to_bit}
use Rattle.lp_spec_faults.specs.Readings.{StrategyAsks, SwitchAsks, ControlRead, control_read, clamps_by, is_strategy, retains_by, reads_of_register, reads_of_strategy, all_asks, control_reads}
use Rattle.lp_spec_voltages.proofs.Roots.{at-number, numbered-in}
use Rattle.lp_spec_voltages.proofs.Chains.{in-filter, stands-at}

-- ---- the order of commands has all

upward-in : (n from k : ℕ) → from ≤ k → k < from + n → IsIn k (upward n from)
upward-in zero from k low high = absurd (omega arith)
upward-in (suc n) from k low high = by (k == from) refl (upward-in n (from + 1) k)
  where
    by : (same : Bool) → (k == from) ≡ same → (from + 1 ≤ k → k < (from + 1) + n → IsIn k (upward n (from + 1))) → IsIn k (upward (suc n) from)
    by true e more = inl (eqb-true k from e)
    by false e more = inr (more (above e) (omega arith))
      where
        above : (k == from) ≡ false → from + 1 ≤ k
        above e = let apart = eqb-false k from e in omega (arith, apart)

below-all : {T : Type 0} (all : List (ℕ × T)) (x : ℕ × T) → IsIn x all → x.0 < numbers_below all
below-all [] x among = absurd among
below-all (y ∷ all) x among =
    elim among [
      | inl is ↦ (let same : x.0 ≡ y.0 = ap (λ z. z.0) is in let most = le-max_left (y.0 + 1) (numbers_below all) in omega arith)
      | inr rest ↦ (let less = below-all all x rest in let most = le-max_right (y.0 + 1) (numbers_below all) in omega arith)
    ]

ordered-in : {T : Type 0} (all : List (ℕ × T)) (x : ℕ × T) → IsIn x all → IsIn x.1 (in_command_order all)
ordered-in all x among =
    in-map (λ z. z.1) x (by_commands all)
    (in-flat (of_command all) x.0 x (upward (numbers_below all) 0) (upward-in (numbers_below all) 0 x.0 (omega arith) (let below = below-all all x among in omega arith))
    (in-filter (λ z. z.0 == x.0) x all among (eq-eqb x.0 x.0 refl)))

-- ---- winners are strategies of their kind

first-in : {T : Type 0} (test : T → Bool) (xs : List T) (x : T) → first test xs ≡ Some x → IsIn x xs
first-in test [] x e = absurd cc
first-in test (y ∷ xs) x e = by (test y) refl e (first-in test xs x)
  where
    by : (b : Bool) → test y ≡ b → (if b then Some y else first test xs) ≡ Some x → (first test xs ≡ Some x → IsIn x xs) → IsIn x (y ∷ xs)
    by true h e more = let is : y ≡ x = cc in inl (sym is)
    by false h e more = inr (more e)

strategy-at : (strategies : List Strategy) (x : ℕ × Strategy) → IsIn x (numbered 0 strategies) → slice_get strategies x.0 ≡ Some x.1
strategy-at strategies x among = let found = at-number 0 strategies x.0 x.1 among in let same : x.0 ≡ found.0 = omega (arith, found.1) in ap (slice_get strategies) same ∙ found.2

-- a winner of a side is a strategy of its kind
won : (n : Network) (i : Intent) (kind : StrategyKind) (side : Side) (c : Crossing) (x : ℕ × Strategy) → winner n i kind side c ≡ Some x
    → (slice_get i.strategies x.0 ≡ Some x.1) × (same_kind kind x.1.kind ≡ true)
won n i kind side c x e =
    let passed = of-filter (λ (y : ℕ × Strategy). same_kind kind y.1.kind && applies n i side c y.1) x (numbered 0 i.strategies) (first-in (beats_all (rank c.bit) (applying n i kind side c)) (applying n i kind side c) x e) in
    (strategy-at i.strategies x passed.0, (and_parts (same_kind kind x.1.kind) (applies n i side c x.1) passed.1).0)

-- a clamp has the supply of its strategy
clamp-is : (k : ℕ) (y : Strategy) (inserts : Bool) (supply : Option SetNumber) (c : ℕ × SetNumber)
    → clamp_of (Some (k, record y { inserts = inserts; supply = supply })) ≡ Some c → (supply ≡ Some c.1) × (k ≡ c.0)
clamp-is k y true (Some i) c e = let is : (k, i) ≡ c = cc in (ap (λ z. Some z.1) is, ap (λ z. z.0) is)
clamp-is k y true None c e = absurd cc
clamp-is k y false (Some i) c e = absurd cc
clamp-is k y false None c e = absurd cc

-- each clamp of a list is asked for by an isolation strategy, and has its supply
pub record AsksFor (i : Intent) (t : ℕ) (supply : SetNumber) : Type 0 where
  pub strategy : Strategy
  pub found : slice_get i.strategies t ≡ Some strategy
  pub isolates : same_kind Isolation strategy.kind ≡ true
  pub supplied : strategy.supply ≡ Some supply

asked : Intent → List Operator → Type 0
asked i [] = Unit {0}
asked i (Clamp t s ∷ more) = AsksFor i t s × asked i more
asked i (Shift t a b ∷ more) = asked i more

asked-append : (i : Intent) (xs ys : List Operator) → asked i xs → asked i ys → asked i (xs ++ ys)
unfolding asked
asked-append i [] ys first second = second
asked-append i (Clamp t s ∷ xs) ys first second = (first.0, asked-append i xs ys first.1 second)
asked-append i (Shift t a b ∷ xs) ys first second = asked-append i xs ys first second

asked-shifter : (n : Network) (i : Intent) (shift : Option (ℕ × Strategy)) (s t : Option SetNumber) → asked i (shifter n shift s t)
unfolding asked
asked-shifter n i None s t = tt
asked-shifter n i (Some k) None t = tt
asked-shifter n i (Some k) (Some a) None = tt
asked-shifter n i (Some k) (Some a) (Some b) = by (k.1.inserts && by_rule n k.1.rule k.1.threshold a b)
  where
    by : (wanted : Bool) → asked i (if wanted then Shift k.0 a b ∷ [] else [])
    by true = tt
    by false = tt

asked-around : (n : Network) (i : Intent) (shift : Option (ℕ × Strategy)) (t s : Option SetNumber) (c : Option (ℕ × SetNumber))
    → ((k : ℕ × SetNumber) → c ≡ Some k → AsksFor i k.0 k.1) → asked i (around_clamp n shift t s c)
unfolding asked
asked-around n i shift t s None by = asked-shifter n i shift s t
asked-around n i shift t s (Some c) by = asked-append i (shifter n shift s (Some c.1)) (Clamp c.0 c.1 ∷ shifter n shift (Some c.1) t) (asked-shifter n i shift s (Some c.1)) (by c refl, asked-shifter n i shift (Some c.1) t)

clamp-asks : (n : Network) (i : Intent) (side : Side) (c : Crossing) (k : ℕ × SetNumber) → clamp_of (winner n i Isolation side c) ≡ Some k → AsksFor i k.0 k.1
clamp-asks n i side c k e = by (winner n i Isolation side c) refl e
  where
    by : (found : Option (ℕ × Strategy)) → winner n i Isolation side c ≡ found → clamp_of found ≡ Some k → AsksFor i k.0 k.1
    by None is e = absurd cc
    by (Some x) is e =
        let strategy = won n i Isolation side c x is in
        let clamp = clamp-is x.0 x.1 x.1.inserts x.1.supply k e in
        record { strategy = x.1; found = ap (slice_get i.strategies) (sym clamp.1) ∙ strategy.0; isolates = strategy.1; supplied = clamp.0 }

asked-side : (n : Network) (i : Intent) (side : Side) (c : Crossing) (s : Option SetNumber) → asked i (side_part n i side c s)
asked-side n i side c s = asked-around n i (winner n i Shifting side c) (target (winner n i Shifting side c) c.readers) s (clamp_of (winner n i Isolation side c)) (clamp-asks n i side c)

asked-joined : (n : Network) (i : Intent) (one two : Side) (c : Crossing) (s : Option SetNumber) (r : Option SetNumber)
    → asked i (side_part n i one c s ++ side_part n i two c r)
asked-joined n i one two c s r = asked-append i (side_part n i one c s) (side_part n i two c r) (asked-side n i one c s) (asked-side n i two c r)

asked-chain : (n : Network) (i : Intent) (c : Crossing) (s : Option SetNumber) → asked i (chain n i c s)
asked-chain n i c s = by (is_input c.bit.port)
  where
    by : (input : Bool) → asked i (if input then joined n i Lower Upper c s else joined n i Upper Lower c s)
    by true = asked-joined n i Lower Upper c s _
    by false = asked-joined n i Upper Lower c s _

asked-at : (i : Intent) (xs : List Operator) (k t : ℕ) (s : SetNumber) → asked i xs → slice_get xs k ≡ Some (Clamp t s) → AsksFor i t s
unfolding asked
asked-at i [] k t s all e = absurd cc
asked-at i (Clamp u r ∷ xs) zero t s all e =
    let first : u ≡ t = cc in
    let second : r ≡ s = cc in
    subst (λ z. AsksFor i z s) first (subst (AsksFor i u) second all.0)
asked-at i (Clamp u r ∷ xs) (suc k) t s all e = asked-at i xs k t s all.1 e
asked-at i (Shift u a b ∷ xs) zero t s all e = absurd cc
asked-at i (Shift u a b ∷ xs) (suc k) t s all e = asked-at i xs k t s all e

pub clamp-strategy : (p : Project) (o : OperatorAt) (t : ℕ) (s : SetNumber) → IsIn o (all_operators p) → o.operator ≡ Clamp t s → AsksFor p.intent t s
clamp-strategy p o t s among is =
    asked-at p.intent (chain_of p o.bit) o.number t s
    (asked-chain (network_of p) p.intent (crossing p.structure p.intent (fuel_of p.structure) o.bit) (rail_to_bit p o.bit))
    ((stands-at p o among).1 ∙ ap (λ z. Some z) is)

-- ---- what is read of a strategy

ask-in : (p : Project) (commands : ℕ → ℕ) (t : ℕ) (y : Strategy) → slice_get p.intent.strategies t ≡ Some y
    → IsIn (StrategyAsks t) (in_command_order (all_asks p commands))
ask-in p commands t y found =
    ordered-in (all_asks p commands) (y.command, StrategyAsks t)
    (in-left (y.command, StrategyAsks t) (map (λ (z : ℕ × Strategy). (z.1.command, StrategyAsks z.0)) (numbered 0 p.intent.strategies)) _
    (in-map (λ (z : ℕ × Strategy). (z.1.command, StrategyAsks z.0)) (t, y) (numbered 0 p.intent.strategies) (numbered-in 0 p.intent.strategies t t y (omega arith) found)))

strategy-read : (p : Project) (commands : ℕ → ℕ) (t : ℕ) (y : Strategy) (x : ControlRead) → slice_get p.intent.strategies t ≡ Some y
    → IsIn x (reads_of_strategy p t (Some y)) → IsIn x (control_reads p commands)
strategy-read p commands t y x found here =
    in-flat _ (StrategyAsks t) x (in_command_order (all_asks p commands)) (ask-in p commands t y found)
    (subst (λ z. IsIn x (reads_of_strategy p t z)) (sym found) here)

clamp-branch : (p : Project) (t : ℕ) (y : Strategy) (x : ControlRead) → list_any (clamps_by t) (all_operators p) ≡ true
    → IsIn x (control_read p t y.control (power_of p y.supply)) → IsIn x (reads_of_strategy p t (Some y))
clamp-branch p t y x clamps here = rw clamps here

register-branch : (p : Project) (t : ℕ) (y : Strategy) (x : ControlRead) → list_any (clamps_by t) (all_operators p) ≡ false
    → list_any (retains_by p t) (registers p) ≡ true → IsIn x (reads_of_register p t y) → IsIn x (reads_of_strategy p t (Some y))
register-branch p t y x clamps retains here = rw (clamps, retains) here

abbrev pub read_of : ℕ → Node → Option ℕ → ControlRead
read_of t k reader = record { asks = StrategyAsks t; control = k; reader = reader }

pub read-in : (p : Project) (t : ℕ) (k : Node) (reader : Option ℕ) (signal : Option Node) → signal ≡ Some k
    → IsIn (read_of t k reader) (control_read p t signal reader)
read-in p t k reader signal is = subst (λ z. IsIn (read_of t k reader) (control_read p t z reader)) (sym is) (inl refl)

clamps-it : (o : OperatorAt) (t : ℕ) (s : SetNumber) → o.operator ≡ Clamp t s → clamps_by t o ≡ true
clamps-it o t s is = (λ j. clamps_by t (record { bit = o.bit; number = o.number; operator = is j })) ∙ eq-eqb t t refl

-- the control of a clamp
pub enable-read : (p : Project) (commands : ℕ → ℕ) (o : OperatorAt) (t : ℕ) (s : SetNumber) (y : Strategy) (k : Node) → IsIn o (all_operators p)
    → o.operator ≡ Clamp t s
    → slice_get p.intent.strategies t ≡ Some y → y.control ≡ Some k → IsIn (read_of t k (power_of p (Some s))) (control_reads p commands)
enable-read p commands o t s y k among is found control =
    let asks = clamp-strategy p o t s among is in
    let same : asks.strategy ≡ y = let both : Some asks.strategy ≡ Some y = sym asks.found ∙ found in cc in
    let supply : y.supply ≡ Some s = ap (λ (z : Strategy). z.supply) (sym same) ∙ asks.supplied in
    strategy-read p commands t y (read_of t k (power_of p (Some s))) found
    (clamp-branch p t y (read_of t k (power_of p (Some s))) (any-in (clamps_by t) o (all_operators p) among (clamps-it o t s is))
    (subst (λ z. IsIn (read_of t k (power_of p (Some s))) (control_read p t y.control (power_of p z))) (sym supply) (read-in p t k (power_of p (Some s)) y.control control)))

-- ---- registers with retention

-- the strategy of a register by its number
pub record Retained (p : Project) (a : Placed) (y : Strategy) : Type 0 where
  pub number : ℕ
  pub winner : retention_winner p.intent a.path a.instance ≡ Some (number, y)
  pub inserts : y.inserts ≡ true
  pub found : slice_get p.intent.strategies number ≡ Some y
  pub retains : same_kind Retention y.kind ≡ true
  pub domain : domain_of p.intent a.path ≡ Some y.domain

same-domain : (x : Option ℕ) (d : ℕ) → same_domain x (Some d) ≡ true → x ≡ Some d
same-domain None d e = absurd (false≢true e)
same-domain (Some c) d e = ap (λ z. Some z) (eqb-true c d e)

pub retained : (p : Project) (a : Placed) (y : Strategy) → retention p.intent a.path a.instance ≡ Some y → Retained p a y
retained p a y e = by (retention_winner p.intent a.path a.instance) refl e
  where
    here : (x : ℕ × Strategy) → retention_winner p.intent a.path a.instance ≡ Some x → x.1.inserts ≡ true → Retained p a x.1
    here x is inserts =
        let all : List (ℕ × Strategy) = filter (λ (t : ℕ × Strategy). retains p.intent a.path a.instance t.1) (numbered 0 p.intent.strategies) in
        let passed = of-filter (λ (t : ℕ × Strategy). retains p.intent a.path a.instance t.1) x (numbered 0 p.intent.strategies) (first-in (beats_all (retention_rank a.path a.instance) all) all x is) in
        let kind = and_parts (same_kind Retention x.1.kind) _ passed.1 in
        let place = and_parts (same_domain (domain_of p.intent a.path) (Some x.1.domain)) (is_listed_register a.path a.instance x.1.elements && not (list_any (names_register a.path a.instance) x.1.excluded)) kind.1 in
        record { number = x.0; winner = is; inserts = inserts; found = strategy-at p.intent.strategies x passed.0; retains = kind.0; domain = same-domain (domain_of p.intent a.path) x.1.domain place.0 }

    there : (x : ℕ × Strategy) → retention_winner p.intent a.path a.instance ≡ Some x → (b : Bool) → x.1.inserts ≡ b
        → (if b then Some x.1 else None) ≡ Some y → Retained p a y
    there x is true inserts f = let same : x.1 ≡ y = cc in subst (Retained p a) same (here x is inserts)
    there x is false inserts f = absurd cc

    by : (found : Option (ℕ × Strategy)) → retention_winner p.intent a.path a.instance ≡ found → inserting found ≡ Some y → Retained p a y
    by None is f = absurd cc
    by (Some x) is f = there x is x.1.inserts refl f

-- no strategy isolates and retains
two-kinds : (kind : StrategyKind) → same_kind Isolation kind ≡ true → same_kind Retention kind ≡ true → ⊥
two-kinds Isolation a b = false≢true b
two-kinds Shifting a b = false≢true a
two-kinds Retention a b = false≢true a

clamp-by : (t : ℕ) (bit : BoundaryBit) (number : ℕ) (o : Operator) → clamps_by t (record { bit = bit; number = number; operator = o }) ≡ true
    → (s : SetNumber) × (o ≡ Clamp t s)
clamp-by t bit number (Clamp k s) e = (s, ap (λ z. Clamp z s) (eqb-true k t e))
clamp-by t bit number (Shift k a b) e = absurd (false≢true e)

clamps-nothing : (p : Project) (a : Placed) (y : Strategy) (r : Retained p a y) → list_any (clamps_by r.number) (all_operators p) ≡ false
clamps-nothing p a y r = false_from_ne_true (list_any (clamps_by r.number) (all_operators p)) none
  where
    none : list_any (clamps_by r.number) (all_operators p) ≡ true → ⊥
    none e =
        let found = of-any (clamps_by r.number) (all_operators p) e in
        let clamp = clamp-by r.number found.0.bit found.0.number found.0.operator found.2 in
        let asks = clamp-strategy p found.0 r.number clamp.0 found.1 clamp.1 in
        let same : asks.strategy ≡ y = let both : Some asks.strategy ≡ Some y = sym asks.found ∙ r.found in cc in
        two-kinds y.kind (ap (λ (z : Strategy). same_kind Isolation z.kind) (sym same) ∙ asks.isolates) r.retains

retains-it : (p : Project) (a : Placed) (y : Strategy) (r : Retained p a y) → retains_by p r.number a ≡ true
retains-it p a y r = ap (is_strategy r.number) r.winner ∙ and_from (r.number == r.number) y.inserts (eq-eqb r.number r.number refl) r.inserts

pub register-read : (p : Project) (commands : ℕ → ℕ) (a : Placed) (y : Strategy) (x : ControlRead) → IsIn a (registers p) → (r : Retained p a y)
    → IsIn x (reads_of_register p r.number y) → IsIn x (control_reads p commands)
register-read p commands a y x among r here =
    strategy-read p commands r.number y x r.found
    (register-branch p r.number y x (clamps-nothing p a y r) (any-in (retains_by p r.number) a (registers p) among (retains-it p a y r)) here)

-- ---- switches

pub switch-read : (p : Project) (commands : ℕ → ℕ) (w : SwitchAt) → IsIn w (all_switches p)
    → IsIn (record { asks = SwitchAsks w.origin; control = w.control; reader = Some w.input }) (control_reads p commands)
switch-read p commands w among =
    in-flat _ (SwitchAsks w.origin) read (in_command_order (all_asks p commands))
    (ordered-in (all_asks p commands) (commands w.origin, SwitchAsks w.origin)
    (in-right (commands w.origin, SwitchAsks w.origin) (map (λ (z : ℕ × Strategy). (z.1.command, StrategyAsks z.0)) (numbered 0 p.intent.strategies)) (map (λ (z : SwitchAt). (commands z.origin, SwitchAsks z.origin)) (all_switches p))
    (in-map (λ (z : SwitchAt). (commands z.origin, SwitchAsks z.origin)) w (all_switches p) among)))
    (in-map (λ (z : SwitchAt). record { asks = SwitchAsks w.origin; control = z.control; reader = Some z.input }) w (filter (λ (z : SwitchAt). z.origin == w.origin) (all_switches p))
    (in-filter (λ (z : SwitchAt). z.origin == w.origin) w (all_switches p) among (eq-eqb w.origin w.origin refl)))
  where
    read : ControlRead
    read = record { asks = SwitchAsks w.origin; control = w.control; reader = Some w.input }
