-- Net bits inside input ports whose operators, if there are any, stand in the parent.
use Rattle.std.proofs.Common.{◌≡◌, ◌⊎◌, ◌≤◌, ℕ, zero, suc, ◌+◌, ◌-◌, Bool, true, false, not, ◌&&◌, ◌==◌, cond, List, [], ◌∷◌, ◌++◌, map, length, take, Option, Some, None, inl, inr, refl, sym, ◌∙◌, ap, subst, arith, length-take}
use Rattle.std.specs.Prelude.{bytes_eq, filter, slice_get, if◌then◌else◌, unwrap_or, option_and_then}
use Rattle.std.specs.List.{list_any}
use Rattle.std.proofs.lemmas.Bool.{true≢false, eqb-true}
use Rattle.lp_model.specs.NetlistView.{BitView, NetBit, PortView, ModuleView}
use Rattle.lp_spec_design.specs.Keys.{Name, Path, same_path, same_bool, Node, Inner, Fixed, Way, PortBit, AssignBit, same_way, Source, From}
use Rattle.lp_spec_design.specs.Netlists.{Structure, first, module_at, node_of, is_input}
use Rattle.lp_spec_design.specs.Graph.{from_port, source_of}
use Rattle.lp_spec_design.specs.Domains.{BoundaryBit, boundary, way_of}
use Rattle.lp_spec_design.specs.Reads.{name-true, name-self, path-true, path-self, one, other, both}
use Rattle.lp_spec_design.specs.Winners.{IsIn}
use Rattle.lp_spec_design.proofs.Members.{in-left, in-right, in-either, of-filter}
use Rattle.lp_spec_realises.specs.Projects.{Project}
use Rattle.lp_spec_realises.specs.Operators.{Placement}
use Rattle.lp_spec_written.specs.Places.{instances, Standing}
use Rattle.lp_spec_written.specs.Nets.{Stretch, stretches, operators_there, net_count, leads_constant, is_constant, stood, is_inside, same_bit, bit_of, is_own, renamed, or_near, near, chain_net, net_bits, far, links, is_across, led}
use Rattle.lp_spec_written.specs.Written.{Additions}
use Rattle.lp_spec_hub.specs.Spots.{Spot, OfNode, Behind, Before, Drive, ByOperator, FromSpot, on_way, is_behind}
use Rattle.lp_spec_hub.specs.Drives.{drive, drive_by, drive_before, passed, behind_last}
use Rattle.lp_spec_hub.specs.Begins.{LeadsTo, IsWired}
use Rattle.lp_spec_wired.specs.Names.{is_stretch, place_on, node_at, name_at, name_on, name_behind, name_before, name_of_node, name_by}
use Rattle.lp_spec_wired.specs.Contents.{IsWrittenAt}
use Rattle.lp_spec_wired.specs.Reserved.{LeavesNames}
use Rattle.lp_spec_wired.specs.Laws.{done_of, StandsFor, InputsComeDown, InnerReadsComeDown}
use Rattle.lp_spec_wired.proofs.Lists.{first-none, first-there}
use Rattle.lp_spec_wired.proofs.Inputs.{port-first}
use Rattle.lp_spec_wired.proofs.Led.{first-alone, kept-input}
use Rattle.lp_spec_wired.proofs.Chains.{in-filter, first-agree, filter-all, taken, way-true, way-self, is-of, has-stretch, has-operator, on-its-way, node-renamed, net-at, boundary-port, not-zero, and-none}

-- ---- the last net

module _ (p : Project) (all : List Stretch) (s : Stretch) (k : ℕ) (input : is_input s.bit.port ≡ true) where
  near-is : (j : ℕ) → (s.start + s.count) - 1 ≡ j → near s ≡ NetBit (chain_net j)
  near-is j e = ap (λ b. NetBit (chain_net (if b then (s.start + s.count) - 1 else s.start))) input ∙ ap (λ n. NetBit (chain_net n)) e

  links-is : (t : Bool) → leads_constant p.structure s.path s.bit ≡ t → links p all s ≡ (if t then net_bits s else far p all s ∷ net_bits s)
  links-is t e =
      ap (λ b. if b then (if leads_constant p.structure s.path s.bit then net_bits s else far p all s ∷ net_bits s) else net_bits s ++ (far p all s ∷ [])) input
      ∙ ap (λ b. if b then net_bits s else far p all s ∷ net_bits s) e

  -- behind the last operator of an input lies the last net
  last-link : (t : Bool) → leads_constant p.structure s.path s.bit ≡ t → s.count ≡ (if t then suc k + 1 else suc k) → unwrap_or (slice_get (links p all s) (suc k)) [] ≡ near s ∷ []
  last-link true e count =
      ap (λ l. unwrap_or (slice_get l (suc k)) []) (links-is true e)
      ∙ (ap (λ o. unwrap_or o []) (net-at s (suc k) (s.start + suc k) (omega (arith, count)) refl)
      ∙ ap (λ b. b ∷ []) (sym (near-is (s.start + suc k) (omega (arith, count)))))
  last-link false e count =
      ap (λ l. unwrap_or (slice_get l (suc k)) []) (links-is false e)
      ∙ (ap (λ o. unwrap_or o []) (net-at s k (s.start + k) (omega (arith, count)) refl)
      ∙ ap (λ b. b ∷ []) (sym (near-is (s.start + k) (omega (arith, count)))))

-- inside an input the port's own bit lies before the first operator
pub inner-links : (p : Project) (all : List Stretch) (s : Stretch) → is_input s.bit.port ≡ true → is_inside s.path s.bit ≡ true → links p all s ≡ (bit_of s.bit.port.name s.bit.index ∷ []) ∷ net_bits s
inner-links p all s input within =
    ap (λ b. if b then (if leads_constant p.structure s.path s.bit then net_bits s else far p all s ∷ net_bits s) else net_bits s ++ (far p all s ∷ [])) input
    ∙ (ap (λ b. if b then net_bits s else far p all s ∷ net_bits s) (ap (λ b. is_input s.bit.port && (not b && list_any is_constant (stood p.structure s.bit))) within ∙ and-none (is_input s.bit.port))
    ∙ ap (λ b. (if b then bit_of s.bit.port.name s.bit.index ∷ [] else map (renamed all s.path) (stood p.structure s.bit)) ∷ net_bits s) within)

-- ---- bits and paths

pub bit-true : (m n : Name) (i j : Option ℕ) → same_bit (bit_of m i) (bit_of n j) ≡ true → (m ≡ n) × (i ≡ j)
bit-true m n None None e = (name-true m n e, refl)
bit-true m n None (Some j) e = absurd (true≢false (sym e))
bit-true m n (Some i) None e = absurd (true≢false (sym e))
bit-true m n (Some i) (Some j) e = (name-true m n (other (i == j) (bytes_eq m n) e), ap (λ k. Some k) (eqb-true i j (one (i == j) (bytes_eq m n) e)))

pub own-node : (n : Name) (i : Option ℕ) (y : Path) → node_of y (bit_of n i) ≡ Inner n i y
own-node n None y = refl
own-node n (Some i) y = refl

abbrev path_of_way : Way → Path
path_of_way (PortBit y n i) = y
path_of_way (AssignBit y j k) = y

way-path : (y z : Path) (m n : Name) (i j : Option ℕ) → PortBit y m i ≡ PortBit z n j → y ≡ z
way-path y z m n i j e = ap path_of_way e

abbrev name_of_way : Way → Name
name_of_way (PortBit y n i) = n
name_of_way (AssignBit y j k) = []

way-name : (y z : Path) (m n : Name) (i j : Option ℕ) → PortBit y m i ≡ PortBit z n j → m ≡ n
way-name y z m n i j e = ap name_of_way e

not-below : (inst : Name) (x : Path) → same_path x (inst ∷ x) ≡ false
not-below inst x = by (same_path x (inst ∷ x)) refl
  where
    by : (b : Bool) → same_path x (inst ∷ x) ≡ b → b ≡ false
    by true is = let same : length x ≡ suc (length x) = ap length (path-true x (inst ∷ x) is) in absurd (omega (arith, same))
    by false is = refl

not-above : (inst : Name) (x : Path) → same_path (inst ∷ x) x ≡ false
not-above inst x = by (same_path (inst ∷ x) x) refl
  where
    by : (b : Bool) → same_path (inst ∷ x) x ≡ b → b ≡ false
    by true is = let same : suc (length x) ≡ length x = ap length (path-true (inst ∷ x) x is) in absurd (omega (arith, same))
    by false is = refl

-- the net bit of a port's way
abbrev way_node : Path → Way → Node
way_node y (PortBit z n i) = node_of y (bit_of n i)
way_node y (AssignBit z j k) = Fixed false

and-all : (b : Bool) → (b && true) ≡ b
and-all true = refl
and-all false = refl

last-of : {A : Type 0} (x : A) (xs : List A) → (y : A) × (slice_get (x ∷ xs) (length xs) ≡ Some y) × IsIn y (x ∷ xs)
last-of x [] = (x, refl, inl refl)
last-of x (z ∷ xs) = let found = last-of z xs in (found.0, found.1, inr found.2)

-- ---- lists of operators on both sides

pub filter-both : {A : Type 0} (p q : A → Bool) (xs : List A) → filter (λ x. p x && q x) xs ≡ filter p (filter q xs)
filter-both p q [] = refl
filter-both p q (x ∷ xs) = by (q x) (filter-both p q xs)
  where
    by : (t : Bool) → filter (λ y. p y && q y) xs ≡ filter p (filter q xs) → cond (p x && t) (x ∷ filter (λ y. p y && q y) xs) (filter (λ y. p y && q y) xs) ≡ filter p (cond t (x ∷ filter q xs) (filter q xs))
    by true more = ap (λ b. cond b (x ∷ filter (λ y. p y && q y) xs) (filter (λ y. p y && q y) xs)) (and-all (p x)) ∙ ap (λ r. cond (p x) (x ∷ r) r) more
    by false more = ap (λ b. cond b (x ∷ filter (λ y. p y && q y) xs) (filter (λ y. p y && q y) xs)) (and-none (p x)) ∙ more

filter-none : {A : Type 0} (p : A → Bool) (xs : List A) → ((x : A) → IsIn x xs → p x ≡ false) → filter p xs ≡ []
filter-none p [] none = refl
filter-none p (x ∷ xs) none = ap (λ b. cond b (x ∷ filter p xs) (filter p xs)) (none x (inl refl)) ∙ filter-none p xs (λ y h. none y (inr h))

-- those that pass stand before those that do not
filter-parts : {A : Type 0} (p : A → Bool) (xs ys : List A) → ((x : A) → IsIn x xs → p x ≡ true) → ((y : A) → IsIn y ys → p y ≡ false) → filter p (xs ++ ys) ≡ xs
filter-parts p [] ys all none = filter-none p ys none
filter-parts p (x ∷ xs) ys all none = ap (λ b. cond b (x ∷ filter p (xs ++ ys)) (filter p (xs ++ ys))) (all x (inl refl)) ∙ ap (λ r. x ∷ r) (filter-parts p xs ys (λ y h. all y (inr h)) none)

append-none : {A : Type 0} (xs : List A) → xs ++ [] ≡ xs
append-none [] = refl
append-none (x ∷ xs) = ap (λ ys. x ∷ ys) (append-none xs)

pub get-left : {A : Type 0} (xs ys : List A) (k : ℕ) (x : A) → slice_get xs k ≡ Some x → slice_get (xs ++ ys) k ≡ Some x
get-left [] ys k x e = absurd cc
get-left (z ∷ xs) ys zero x e = e
get-left (z ∷ xs) ys (suc k) x e = get-left xs ys k x e

pub get-next : {A : Type 0} (xs ys : List A) (x : A) → slice_get (xs ++ (x ∷ ys)) (length xs) ≡ Some x
get-next [] ys x = refl
get-next (z ∷ xs) ys x = get-next xs ys x

take-left : {A : Type 0} (k : ℕ) (xs ys : List A) → k ≤ length xs → take k (xs ++ ys) ≡ take k xs
take-left zero xs ys h = refl
take-left (suc k) [] ys h = absurd (omega (arith, h))
take-left (suc k) (x ∷ xs) ys h = ap (λ r. x ∷ r) (take-left k xs ys (omega (arith, h)))

take-all : {A : Type 0} (xs ys : List A) → take (length xs) (xs ++ ys) ≡ xs
take-all [] ys = refl
take-all (x ∷ xs) ys = ap (λ r. x ∷ r) (take-all xs ys)

-- ---- one input port

module _ (p : Project) (a : Additions) (chains : a.chains ≡ stretches p a.plan) (placed : (o : Standing) → IsIn o a.plan.operators → IsIn o.asked.bit (boundary p.structure p.intent))
    (inst : Name) (x : Path) (m : ModuleView) (e : module_at p.structure (inst ∷ x) ≡ Some m)
    (q : PortView) (listed : IsIn q m.ports) (input : is_input q ≡ true) (alone : filter (λ (r : PortView). bytes_eq r.name q.name) m.ports ≡ q ∷ []) (i : Option ℕ)
    (above : IsIn x (instances p)) (outer inner : List Standing) (list : on_way a.plan.operators (PortBit (inst ∷ x) q.name i) ≡ outer ++ inner)
    (outside : (o : Standing) → IsIn o outer → o.path ≡ x) (inside : (o : Standing) → IsIn o inner → o.path ≡ inst ∷ x) where
  abbrev n : Name
  n = q.name

  abbrev way : Way
  way = PortBit (inst ∷ x) n i

  abbrev here : List Standing
  here = on_way a.plan.operators way

  abbrev all : List Stretch
  all = stretches p a.plan

  in-here : (o : Standing) → IsIn o outer ⊎ IsIn o inner → IsIn o here
  in-here o (inl h) = subst (λ l. IsIn o l) (sym list) (in-left o outer inner h)
  in-here o (inr h) = subst (λ l. IsIn o l) (sym list) (in-right o outer inner h)

  side : (o : Standing) → IsIn o here → IsIn o outer ⊎ IsIn o inner
  side o h = in-either o outer inner (subst (λ l. IsIn o l) list h)

  -- a stretch of the way has operators, that stand where it stands
  record There (s : Stretch) : Type 0 where
    way_is : way_of s.bit ≡ way
    operator : Standing
    on : IsIn operator outer ⊎ IsIn operator inner
    stands : operator.path ≡ s.path

  there : (s : Stretch) → IsIn s all → same_way (way_of s.bit) way ≡ true → There s
  there s h t =
      let is = way-true (way_of s.bit) way t in
      let some = has-operator p a.plan s h in
      let found = on-its-way p a.plan s h some.0 some.1 in
      record { way_is = is; operator = some.0; on = side some.0 (subst (λ v. IsIn some.0 (on_way a.plan.operators v)) is found.0); stands = found.1 }

  -- a stretch of the way in the parent has the outer operators, one inside has the inner ones
  in-outer : (s : Stretch) (at : There s) → s.path ≡ x → IsIn at.operator outer
  in-outer s at path = elim at.on [
    | inl l ↦ l
    | inr r ↦ let long : suc (length x) ≡ length x = ap length (sym (inside at.operator r) ∙ (at.stands ∙ path)) in absurd (omega (arith, long))
  ]

  in-inner : (s : Stretch) (at : There s) → s.path ≡ inst ∷ x → IsIn at.operator inner
  in-inner s at path = elim at.on [
    | inl l ↦ let long : suc (length x) ≡ length x = ap length (sym path ∙ (sym at.stands ∙ outside at.operator l)) in absurd (omega (arith, long))
    | inr r ↦ r
  ]

  -- the port of a boundary bit of the way is this one
  port-is : (b : BoundaryBit) → IsIn b (boundary p.structure p.intent) → way_of b ≡ way → b.port ≡ q
  port-is b h is =
      let port = boundary-port p b m h (ap (module_at p.structure) (way-path b.path (inst ∷ x) b.port.name n b.index i is) ∙ e) in
      let only : IsIn b.port (q ∷ []) = subst (λ l. IsIn b.port l) alone (in-filter (λ (r : PortView). bytes_eq r.name n) m.ports b.port port (ap (λ k. bytes_eq k n) (way-name b.path (inst ∷ x) b.port.name n b.index i is) ∙ name-self n)) in
      elim only [ inl same ↦ same | inr none ↦ absurd none ]

  -- where none stands inside, the bit keeps its name
  own-none : inner ≡ [] → (s : Stretch) → IsIn s all → is_own (inst ∷ x) (bit_of n i) s ≡ false
  own-none none s h = by (is_own (inst ∷ x) (bit_of n i) s) refl
    where
      by : (b : Bool) → is_own (inst ∷ x) (bit_of n i) s ≡ b → b ≡ false
      by false is = refl
      by true is =
          let within = path-true s.path s.bit.path (one (is_inside s.path s.bit) _ is) in
          let lower = path-true s.path (inst ∷ x) (one (same_path s.path (inst ∷ x)) _ (other (is_inside s.path s.bit) _ is)) in
          let same = bit-true s.bit.port.name n s.bit.index i (other (same_path s.path (inst ∷ x)) _ (other (is_inside s.path s.bit) _ is)) in
          let way_is : way_of s.bit ≡ way = ap (λ y. PortBit y s.bit.port.name s.bit.index) (sym within ∙ lower) ∙ (ap (λ k. PortBit (inst ∷ x) k s.bit.index) same.0 ∙ ap (PortBit (inst ∷ x) n) same.1) in
          let at = there s h (ap (λ v. same_way v way) way_is ∙ way-self (inst ∷ x) n i) in
          absurd (subst (λ l. IsIn at.operator l) none (in-inner s at lower))

  pub name-here : inner ≡ [] → name_of_node a.chains (Inner n i (inst ∷ x)) ≡ Inner n i (inst ∷ x)
  name-here none =
      ap (λ l. node_of (inst ∷ x) (renamed l (inst ∷ x) (bit_of n i))) chains
      ∙ (ap (λ o. node_of (inst ∷ x) (or_near (bit_of n i) o)) (first-none (is_own (inst ∷ x) (bit_of n i)) all (own-none none))
      ∙ own-node n i (inst ∷ x))

  -- outside the instance the stretch of the way is the one in the parent
  across : (s : Stretch) → IsIn s all → is_across (inst ∷ x) n i s ≡ is_stretch way x s
  across s h = by (same_way (way_of s.bit) way) refl
    where
      by : (t : Bool) → same_way (way_of s.bit) way ≡ t → (not (is_inside s.path s.bit) && t) ≡ (same_path s.path x && t)
      by false is = and-none (not (is_inside s.path s.bit)) ∙ sym (and-none (same_path s.path x))
      by true is =
          let at = there s h is in
          let below : s.bit.path ≡ inst ∷ x = way-path s.bit.path (inst ∷ x) s.bit.port.name n s.bit.index i at.way_is in
          elim at.on [
            | inl l ↦
                let path : s.path ≡ x = sym at.stands ∙ outside at.operator l in
                let not_in : is_inside s.path s.bit ≡ false = ap (λ y. same_path y s.bit.path) path ∙ (ap (same_path x) below ∙ not-below inst x) in
                let in_parent : same_path s.path x ≡ true = ap (λ y. same_path y x) path ∙ path-self x in
                ap (λ b. not b && true) not_in ∙ sym (ap (λ b. b && true) in_parent)
            | inr r ↦
                let path : s.path ≡ inst ∷ x = sym at.stands ∙ inside at.operator r in
                let is_in : is_inside s.path s.bit ≡ true = ap (λ y. same_path y s.bit.path) path ∙ (ap (same_path (inst ∷ x)) below ∙ path-self (inst ∷ x)) in
                let not_parent : same_path s.path x ≡ false = ap (λ y. same_path y x) path ∙ not-above inst x in
                ap (λ b. not b && true) is_in ∙ sym (ap (λ b. b && true) not_parent)
          ]

  -- ---- no operators in the parent

  without : outer ≡ [] → (b : BitView) → led a.chains x (inst ∷ x) n i b ≡ renamed a.chains x b
  without none b =
      ap (or_near (renamed a.chains x b)) (ap (first (is_across (inst ∷ x) n i)) chains ∙ first-none (is_across (inst ∷ x) n i) all (λ s h. by s h (is_across (inst ∷ x) n i s) refl (across s h)))
    where
      by : (s : Stretch) → IsIn s all → (t : Bool) → is_across (inst ∷ x) n i s ≡ t → t ≡ is_stretch way x s → is_across (inst ∷ x) n i s ≡ false
      by s h false is same = is
      by s h true is same =
          let at = there s h (other (same_path s.path x) _ (sym same)) in
          absurd (subst (λ l. IsIn at.operator l) none (in-outer s at (path-true s.path x (one (same_path s.path x) _ (sym same)))))

  -- ---- with operators in the parent

  at-parent : (o : Standing) → IsIn o outer → same_path o.path x ≡ true
  at-parent o h = ap (λ y. same_path y x) (outside o h) ∙ path-self x

  not-parent : (o : Standing) → IsIn o inner → same_path o.path x ≡ false
  not-parent o h = ap (λ y. same_path y x) (inside o h) ∙ not-above inst x

  operators-are : (s : Stretch) → IsIn s all → way_of s.bit ≡ way → s.path ≡ x → s.operators ≡ outer
  operators-are s h way_is path_is =
      (is-of p a.plan s h).0.operators
      ∙ (ap (λ y. filter (λ (o : Standing). same_path o.path y && same_way (way_of o.asked.bit) (way_of s.bit)) a.plan.operators) path_is
      ∙ (ap (λ v. filter (λ (o : Standing). same_path o.path x && same_way (way_of o.asked.bit) v) a.plan.operators) way_is
      ∙ (filter-both (λ (o : Standing). same_path o.path x) (λ (o : Standing). same_way (way_of o.asked.bit) way) a.plan.operators
      ∙ (ap (filter (λ (o : Standing). same_path o.path x)) list
      ∙ filter-parts (λ (o : Standing). same_path o.path x) outer inner at-parent not-parent))))

  on-plan : (o : Standing) → IsIn o here → IsIn o a.plan.operators × (way_of o.asked.bit ≡ way)
  on-plan o h = let found = of-filter (λ (r : Standing). same_way (way_of r.asked.bit) way) o a.plan.operators h in (found.0, way-true (way_of o.asked.bit) way found.1)

  behind-by : (o : Standing) → IsIn o here → is_behind o ≡ same_path o.path (inst ∷ x)
  behind-by o h =
      let found = on-plan o h in
      let port : is_input o.asked.bit.port ≡ true = ap is_input (port-is o.asked.bit (placed o found.0) found.1) ∙ input in
      let below : o.asked.bit.path ≡ inst ∷ x = way-path o.asked.bit.path (inst ∷ x) o.asked.bit.port.name n o.asked.bit.index i found.1 in
      ap (λ b. same_bool b (is_inside o.path o.asked.bit)) port ∙ ap (same_path o.path) below

  -- none in the parent stands behind the edge, those inside do
  not-behind : (o : Standing) → IsIn o outer → is_behind o ≡ false
  not-behind o h = behind-by o (in-here o (inl h)) ∙ (ap (λ y. same_path y (inst ∷ x)) (outside o h) ∙ not-below inst x)

  behind : (o : Standing) → IsIn o inner → is_behind o ≡ true
  behind o h = behind-by o (in-here o (inr h)) ∙ (ap (λ y. same_path y (inst ∷ x)) (inside o h) ∙ path-self (inst ∷ x))

  -- the stretch of an operator of the way
  stretch-of : (y : Path) (r : Standing) → IsIn r here → r.path ≡ y → IsIn y (instances p) → (s : Stretch) × IsIn s all × (is_stretch way y s ≡ true) × (first (is_stretch way y) all ≡ Some s)
  stretch-of y r h path there_is =
      let on = on-plan r h in
      let stands : IsIn r (operators_there a.plan y r.asked.bit) = in-filter (λ (v : Standing). same_path v.path y && same_way (way_of v.asked.bit) (way_of r.asked.bit)) a.plan.operators r on.0
      (both (same_path r.path y) (same_way (way_of r.asked.bit) (way_of r.asked.bit)) (ap (λ z. same_path z y) path ∙ path-self y) (way-self r.asked.bit.path r.asked.bit.port.name r.asked.bit.index)) in
      let s = has-stretch p a.plan y r.asked.bit there_is (placed r on.0) r stands in
      first-there (is_stretch way y) all s.0 s.1
      (both (same_path s.0.path y) (same_way (way_of s.0.bit) way) (ap (λ z. same_path z y) s.3 ∙ path-self y) (ap (λ (b : BoundaryBit). same_way (way_of b) way) s.2 ∙ (ap (λ v. same_way v way) on.1 ∙ way-self (inst ∷ x) n i)))

  module _ (o : Standing) (os : List Standing) (some : outer ≡ o ∷ os) where
    abbrev k : ℕ
    k = length os

    long : length outer ≡ suc k
    long = ap length some

    last : (r : Standing) × (slice_get here k ≡ Some r) × IsIn r outer
    last =
        let found = last-of o os in
        (found.0, ap (λ l. slice_get l k) list ∙ get-left outer inner k found.0 (ap (λ l. slice_get l k) some ∙ found.1), subst (λ l. IsIn found.0 l) (sym some) found.2)

    last-drive : (j : Node) → passed here way j (length outer) ≡ FromSpot (Behind way k)
    last-drive j =
        ap (passed here way j) long
        ∙ (ap (behind_last way k) last.1
        ∙ ap (λ b. if b then ByOperator way k else FromSpot (Behind way k)) (not-behind last.0 last.2))

    place : place_on here k x ≡ k
    place =
        ap (λ l. length (filter (λ (r : Standing). same_path r.path x) l)) (ap (take k) list ∙ take-left k outer inner (omega (arith, long)))
        ∙ (ap length (filter-all (λ (r : Standing). same_path r.path x) (take k outer) (λ r h. at-parent r (taken k outer r h)))
        ∙ (length-take k outer ∙ (omega (arith, long))))

    -- the stretch of the way
    found : (s : Stretch) × IsIn s all × (is_stretch way x s ≡ true) × (first (is_stretch way x) all ≡ Some s)
    found = stretch-of x last.0 (in-here last.0 (inl last.2)) (outside last.0 last.2) above

    found-way : way_of found.0.bit ≡ way
    found-way = way-true (way_of found.0.bit) way (other (same_path found.0.path x) (same_way (way_of found.0.bit) way) found.2)

    found-path : found.0.path ≡ x
    found-path = path-true found.0.path x (one (same_path found.0.path x) (same_way (way_of found.0.bit) way) found.2)

    count-is : (t : Bool) → leads_constant p.structure found.0.path found.0.bit ≡ t → found.0.count ≡ (if t then suc k + 1 else suc k)
    count-is t lead =
        (is-of p a.plan found.0 found.1).0.count
        ∙ (ap (net_count p.structure found.0.path found.0.bit) (ap length (operators-are found.0 found.1 found-way found-path) ∙ long)
        ∙ (ap (λ b. if b then 0 else if leads_constant p.structure found.0.path found.0.bit then suc k + 1 else suc k) (not-zero (suc k) (omega arith))
        ∙ ap (λ b. if b then suc k + 1 else suc k) lead))

    link : unwrap_or (slice_get (links p a.chains found.0) (suc k)) [] ≡ near found.0 ∷ []
    link =
        let port : is_input found.0.bit.port ≡ true = ap is_input (port-is found.0.bit (is-of p a.plan found.0 found.1).0.bit found-way) ∙ input in
        last-link p a.chains found.0 k port (leads_constant p.structure found.0.path found.0.bit) refl (count-is (leads_constant p.structure found.0.path found.0.bit) refl)

    behind-name : name_by p a (Behind way k) ≡ node_of x (near found.0)
    behind-name =
        ap (name_behind p a.chains here way k) last.1
        ∙ (ap (λ y. name_on p a.chains way y (suc (place_on here k y))) (outside last.0 last.2)
        ∙ (ap (λ j. name_on p a.chains way x (suc j)) place
        ∙ (ap (name_at p a.chains x (suc k)) (ap (first (is_stretch way x)) chains ∙ found.3)
        ∙ ap (node_at x) link)))

    with-operators : (b : BitView) → node_of x (led a.chains x (inst ∷ x) n i b) ≡ name_by p a (Behind way k)
    with-operators b =
        ap (λ r. node_of x (or_near (renamed a.chains x b) r)) (ap (first (is_across (inst ∷ x) n i)) chains ∙ (first-agree (is_across (inst ∷ x) n i) (is_stretch way x) all across ∙ found.3))
        ∙ sym behind-name

  -- ---- with operators inside

  module _ (o : Standing) (os : List Standing) (some : inner ≡ o ∷ os) (own : IsIn (inst ∷ x) (instances p)) where
    abbrev before : ℕ
    before = length outer

    is-inner : IsIn o inner
    is-inner = subst (λ l. IsIn o l) (sym some) (inl refl)

    next : slice_get here before ≡ Some o
    next = ap (λ l. slice_get l before) (list ∙ ap (λ l. outer ++ l) some) ∙ get-next outer os o

    -- it is the first one that stands there
    own-place : place_on here before (inst ∷ x) ≡ 0
    own-place =
        ap (λ l. length (filter (λ (r : Standing). same_path r.path (inst ∷ x)) l)) (ap (take before) list ∙ take-all outer inner)
        ∙ ap length (filter-none (λ (r : Standing). same_path r.path (inst ∷ x)) outer (λ r h. ap (λ y. same_path y (inst ∷ x)) (outside r h) ∙ not-below inst x))

    its : (s : Stretch) × IsIn s all × (is_stretch way (inst ∷ x) s ≡ true) × (first (is_stretch way (inst ∷ x)) all ≡ Some s)
    its = stretch-of (inst ∷ x) o (in-here o (inr is-inner)) (inside o is-inner) own

    -- before it lies the port's own bit
    own-link : node_at (inst ∷ x) (unwrap_or (slice_get (links p a.chains its.0) 0) []) ≡ Inner n i (inst ∷ x)
    own-link =
        let way_is : way_of its.0.bit ≡ way = way-true (way_of its.0.bit) way (other (same_path its.0.path (inst ∷ x)) (same_way (way_of its.0.bit) way) its.2) in
        let path_is : its.0.path ≡ inst ∷ x = path-true its.0.path (inst ∷ x) (one (same_path its.0.path (inst ∷ x)) (same_way (way_of its.0.bit) way) its.2) in
        let below : its.0.bit.path ≡ inst ∷ x = way-path its.0.bit.path (inst ∷ x) its.0.bit.port.name n its.0.bit.index i way_is in
        let port : is_input its.0.bit.port ≡ true = ap is_input (port-is its.0.bit (is-of p a.plan its.0 its.1).0.bit way_is) ∙ input in
        let within : is_inside its.0.path its.0.bit ≡ true = ap (λ y. same_path y its.0.bit.path) path_is ∙ (ap (same_path (inst ∷ x)) below ∙ path-self (inst ∷ x)) in
        ap (λ l. node_at (inst ∷ x) (unwrap_or (slice_get l 0) [])) (inner-links p a.chains its.0 port within)
        ∙ (ap (way_node (inst ∷ x)) way_is
        ∙ own-node n i (inst ∷ x))

    before-name : name_by p a (Before way before) ≡ Inner n i (inst ∷ x)
    before-name =
        ap (name_before p a.chains here way before) next
        ∙ (ap (λ y. name_on p a.chains way y (place_on here before y)) (inside o is-inner)
        ∙ (ap (name_on p a.chains way (inst ∷ x)) own-place
        ∙ (ap (name_at p a.chains (inst ∷ x) 0) (ap (first (is_stretch way (inst ∷ x))) chains ∙ its.3)
        ∙ own-link)))

    before-drive : (from : Node) (d : Drive) → passed here way from before ≡ d → drive_before here way from before (slice_get here before) ≡ Some d
    before-drive from d is =
        ap (drive_before here way from before) next
        ∙ (ap (λ b. if b then Some (passed here way from before) else None) (behind o is-inner)
        ∙ ap (λ z. Some z) is)

  -- ---- in a netlist that has the written contents

  module _ (free : LeavesNames p.structure) (w : Structure) (written : IsWrittenAt p a w) (at : Placement) (from : Way → Node)
      (j : Node) (more : List Source) (joined : from_port p.structure (inst ∷ x) n i q ≡ From way j ∷ more) where
    abbrev self : Node
    self = Inner n i (inst ∷ x)

    own-source : source_of p.structure self ≡ Some (From way j)
    own-source = port-first p.structure (inst ∷ x) n i m q (From way j) more e (first-alone n m.ports q alone input) joined

    kept : (b : BitView) × (j ≡ node_of x b) × (source_of w self ≡ Some (From way (node_of x (led a.chains x (inst ∷ x) n i b))))
    kept = kept-input p a free w written inst x m e q listed input alone i j more joined

    leads : (k name : Node) → name ≡ self → node_of x (led a.chains x (inst ∷ x) n i kept.0) ≡ k → LeadsTo w k name
    leads k name is_self is = record { way = way; source = ap (source_of w) is_self ∙ (kept.2 ∙ ap (λ z. Some (From way z)) is) }

    -- a wire whose net bit is the port's own is driven by what comes behind the operators in the parent
    by-list : (y : Spot) → name_by p a y ≡ self → ((d : Drive) → passed here way j (length outer) ≡ d → drive p (done_of a) from y ≡ Some d) → (os : List Standing) → outer ≡ os → StandsFor p a w at from y
    by-list y is_self driven [] some =
        subst (IsWired p w at (name_by p a) y) (sym (driven (FromSpot (OfNode j)) (ap (λ l. passed here way j (length l)) some)))
        (leads (name_by p a (OfNode j)) (name_by p a y) is_self (ap (node_of x) (without some kept.0) ∙ (sym (node-renamed a.chains x kept.0) ∙ ap (name_of_node a.chains) (sym kept.1))))
    by-list y is_self driven (o ∷ os) some =
        subst (IsWired p w at (name_by p a) y) (sym (driven (FromSpot (Behind way (length os))) (last-drive o os some j)))
        (leads (name_by p a (Behind way (length os))) (name_by p a y) is_self (with-operators o os some kept.0))

    pub stands : inner ≡ [] → StandsFor p a w at from (OfNode self)
    stands none =
        by-list (OfNode self) (name-here none) (λ d is.
        ap (option_and_then (λ z. Some (drive_by a.plan.operators z))) own-source
        ∙ ap (λ z. Some z) (ap (λ l. passed here way j (length l)) (list ∙ (ap (λ l. outer ++ l) none ∙ append-none outer)) ∙ is)) outer refl

    pub reads : (o : Standing) (os : List Standing) → inner ≡ o ∷ os → IsIn (inst ∷ x) (instances p) → from way ≡ j → StandsFor p a w at from (Before way (length outer))
    reads o os some own comes =
        by-list (Before way (length outer)) (before-name o os some own) (λ d is.
        ap (λ z. drive_before here way z (length outer) (slice_get here (length outer))) comes
        ∙ before-drive o os some own j d is) outer refl

pub inputs-come-down : InputsComeDown
inputs-come-down p a w at from written free chains i x m e above q b only outside j more joined =
    stands p a chains.chains chains.bits i x m e q only.listed only.input only.alone b above (on_way a.plan.operators (PortBit (i ∷ x) q.name b)) [] (sym (append-none _)) outside (λ o h. absurd h) free w written at from j more joined refl

pub inner-reads-come-down : InnerReadsComeDown
inner-reads-come-down p a w at from written free chains i x m e above own q b only outer o inner go j more joined comes =
    reads p a chains.chains chains.bits i x m e q only.listed only.input only.alone b above outer (o ∷ inner) go.all go.outside go.inside free w written at from j more joined o inner refl own comes
