-- The operators of a way before its edge and behind it, and what comes to the edge at an output.
use Rattle.std.proofs.Common.{◌≡◌, ◌⊎◌, ◌<◌, ◌≤◌, ℕ, zero, suc, ◌+◌, ◌-◌, Bool, true, false, not, ◌&&◌, cond, List, [], ◌∷◌, ◌++◌, map, length, take, Option, Some, None, inl, inr, refl, sym, ◌∙◌, ap, subst, arith}
use Rattle.std.specs.Prelude.{bytes_eq, filter, slice_get, unwrap_or, if◌then◌else◌}
use Rattle.std.specs.List.{list_any}
use Rattle.std.proofs.lemmas.Bool.{both_ways}
use Rattle.lp_model.specs.NetlistView.{PortView, ModuleView}
use Rattle.lp_spec_design.specs.Keys.{Name, Path, same_path, same_bool, Node, Inner, Fixed, Way, PortBit, AssignBit, same_way}
use Rattle.lp_spec_design.specs.Netlists.{first, module_at, is_input}
use Rattle.lp_spec_design.specs.Domains.{BoundaryBit, boundary, way_of}
use Rattle.lp_spec_design.specs.Reads.{name-self, path-true, path-self}
use Rattle.lp_spec_design.specs.Winners.{IsIn}
use Rattle.lp_spec_design.proofs.Members.{of-filter}
use Rattle.lp_spec_realises.specs.Projects.{Project}
use Rattle.lp_spec_realises.specs.Implements.{parent_of}
use Rattle.lp_spec_written.specs.Places.{Standing}
use Rattle.lp_spec_written.specs.Nets.{Stretch, is_inside, is_constant, leads_constant, stood, bit_of, net_count, net_bits, far, links, renamed}
use Rattle.lp_spec_written.specs.Written.{Additions}
use Rattle.lp_spec_hub.specs.Spots.{Spot, OfNode, Behind, ByOperator, FromSpot, on_way, is_behind}
use Rattle.lp_spec_hub.specs.Drives.{behind_last, passed}
use Rattle.lp_spec_wired.specs.Names.{is_stretch, node_at, place_on, name_at, name_on, name_behind, name_by}
use Rattle.lp_spec_wired.proofs.Chains.{in-filter, filter-all, is-of, way-true, not-zero, boundary-port, has-operator, on-its-way}
use Rattle.lp_spec_wired.proofs.Kept.{filter-both, get-next, own-node}
use Rattle.lp_spec_wired.proofs.Wires.{Own, own}
use Rattle.lp_spec_wired.proofs.Bits.{node-by}
use Rattle.lp_spec_driven.specs.Sound.{HasNames, IsOnWays}
use Rattle.lp_spec_driven.proofs.Operators.{slice-in, nets-long}

-- ---- where a test begins to hold in a list

pub record Edge {A : Type 0} (t : A → Bool) (xs : List A) : Type 0 where
  pub k : ℕ
  pub within : k ≤ length xs
  pub front : (l : ℕ) (x : A) → l < k → slice_get xs l ≡ Some x → t x ≡ false
  pub next : (x : A) → slice_get xs k ≡ Some x → t x ≡ true

pub edge-of : {A : Type 0} (t : A → Bool) (xs : List A) → Edge t xs
edge-of t [] = record { k = 0; within = omega arith; front = λ l x h e. absurd (omega (arith, h)); next = λ x e. absurd cc }
edge-of t (x ∷ xs) = by (t x) refl (edge-of t xs)
  where
    by : (b : Bool) → t x ≡ b → Edge t xs → Edge t (x ∷ xs)
    by true is more = record { k = 0; within = omega arith; front = λ l z h e. absurd (omega (arith, h)); next = λ z e. let same : x ≡ z = cc in ap t (sym same) ∙ is }
    by false is more = let inside = more.within in record { k = suc more.k; within = omega (arith, inside); front = before; next = more.next }
      where
        before : (l : ℕ) (z : _) → l < suc more.k → slice_get (x ∷ xs) l ≡ Some z → t z ≡ false
        before zero z h e = let same : x ≡ z = cc in ap t (sym same) ∙ is
        before (suc l) z h e = more.front l z (omega (arith, h)) e

-- where it holds of one, it holds from some place on
pub edge-low : {A : Type 0} (t : A → Bool) (xs : List A) (d : Edge t xs) (l : ℕ) (x : A) → slice_get xs l ≡ Some x → t x ≡ true → d.k ≤ l
edge-low t xs d l x e h = elim (less-or d.k l) [ inl s ↦ s | inr s ↦ absurd (both_ways (t x) (d.front l x s e) h) ]
  where
    less-or : (a b : ℕ) → (a ≤ b) ⊎ (b < a)
    less-or zero b = inl (omega arith)
    less-or (suc a) zero = inr (omega arith)
    less-or (suc a) (suc b) = elim (less-or a b) [ inl s ↦ inl (omega (arith, s)) | inr s ↦ inr (omega (arith, s)) ]

get-less : {A : Type 0} (xs : List A) (k : ℕ) → suc k ≤ length xs → (x : A) × (slice_get xs k ≡ Some x)
get-less [] k h = absurd (omega (arith, h))
get-less (x ∷ xs) zero h = (x, refl)
get-less (x ∷ xs) (suc k) h = get-less xs k (omega (arith, h))

pub in-get : {A : Type 0} (xs : List A) (x : A) → IsIn x xs → (n : ℕ) × (slice_get xs n ≡ Some x)
in-get [] x h = absurd h
in-get (y ∷ xs) x (inl is) = (0, ap (λ z. Some z) (sym is))
in-get (y ∷ xs) x (inr h) = let found = in-get xs x h in (suc found.0, found.1)

-- what is in the front of a list
in-take : {A : Type 0} (k : ℕ) (xs : List A) (x : A) → IsIn x (take k xs) → (l : ℕ) × (l < k) × (slice_get xs l ≡ Some x)
in-take zero xs x h = absurd h
in-take (suc k) [] x h = absurd h
in-take (suc k) (y ∷ xs) x (inl is) = (0, omega arith, ap (λ z. Some z) (sym is))
in-take (suc k) (y ∷ xs) x (inr h) = let found = in-take k xs x h in let less = found.1 in (suc found.0, omega (arith, less), found.2)

-- those that pass a test are those in front
front-filter : {A : Type 0} (q : A → Bool) (xs : List A) (k : ℕ) → ((l : ℕ) (x : A) → l < k → slice_get xs l ≡ Some x → q x ≡ true) → ((l : ℕ) (x : A) → k ≤ l → slice_get xs l ≡ Some x → q x ≡ false) → filter q xs ≡ take k xs
front-filter q [] zero all none = refl
front-filter q [] (suc k) all none = refl
front-filter q (x ∷ xs) zero all none = ap (λ b. cond b (x ∷ filter q xs) (filter q xs)) (none 0 x (omega arith) refl) ∙ front-filter q xs 0 (λ l z h e. absurd (omega (arith, h))) (λ l z h e. none (suc l) z (omega arith) e)
front-filter q (x ∷ xs) (suc k) all none =
    ap (λ b. cond b (x ∷ filter q xs) (filter q xs)) (all 0 x (omega arith) refl)
    ∙ ap (λ r. x ∷ r) (front-filter q xs k (λ l z h e. all (suc l) z (omega (arith, h)) e) (λ l z h e. none (suc l) z (omega (arith, h)) e))

take-long : {A : Type 0} (xs : List A) (k : ℕ) → k ≤ length xs → length (take k xs) ≡ k
take-long xs zero h = refl
take-long [] (suc k) h = absurd (omega (arith, h))
take-long (x ∷ xs) (suc k) h = ap suc (take-long xs k (omega (arith, h)))

abbrev pub path_of_way : Way → Path
path_of_way (PortBit x n i) = x
path_of_way (AssignBit x j k) = x

abbrev pub name_of_way : Way → Name
name_of_way (PortBit x n i) = n
name_of_way (AssignBit x j k) = []

abbrev pub bit_of_port : Way → Node
bit_of_port (PortBit x n i) = Inner n i x
bit_of_port (AssignBit x j k) = Fixed false

-- ---- an output of an instance, the top among them

module _ (p : Project) (a : Additions) (names : HasNames p a) (on_ways : IsOnWays p a)
    (c : Path) (m : ModuleView) (e : module_at p.structure c ≡ Some m) (q : PortView) (alone : filter (λ (r : PortView). bytes_eq r.name q.name) m.ports ≡ q ∷ []) (output : is_input q ≡ false) (i : Option ℕ) where
  abbrev way : Way
  way = PortBit c q.name i

  abbrev self : Node
  self = Inner q.name i c

  abbrev here : List Standing
  here = on_way a.plan.operators way

  pub on-plan : (o : Standing) → IsIn o here → IsIn o a.plan.operators × (way_of o.asked.bit ≡ way)
  on-plan o g = let found = of-filter (λ (t : Standing). same_way (way_of t.asked.bit) way) o a.plan.operators g in (found.0, way-true (way_of o.asked.bit) way found.1)

  pub port-is : (b : BoundaryBit) → IsIn b (boundary p.structure p.intent) → way_of b ≡ way → b.port ≡ q
  port-is b h is =
      let port = boundary-port p b m h (ap (λ v. module_at p.structure (path_of_way v)) is ∙ e) in
      elim (subst (λ l. IsIn b.port l) alone (in-filter (λ (r : PortView). bytes_eq r.name q.name) m.ports b.port port (ap (λ v. bytes_eq (name_of_way v) q.name) is ∙ name-self q.name))) [ inl same ↦ same | inr none ↦ absurd none ]

  -- before the edge they stand inside, behind it in the parent
  side-is : (o : Standing) → IsIn o here → is_behind o ≡ same_bool false (same_path o.path c)
  side-is o h =
      let on = on-plan o h in
      ap (λ t. same_bool t (is_inside o.path o.asked.bit)) (ap is_input (port-is o.asked.bit (names.chains.bits o on.0) on.1) ∙ output)
      ∙ ap (λ v. same_bool false (same_path o.path (path_of_way v))) on.1

  pub inside-is : (o : Standing) → IsIn o here → is_behind o ≡ false → o.path ≡ c
  inside-is o h side = by (same_path o.path c) refl
    where
      by : (t : Bool) → same_path o.path c ≡ t → o.path ≡ c
      by true is = path-true o.path c is
      by false is = absurd (both_ways (is_behind o) side (side-is o h ∙ ap (same_bool false) is))

  pub not-here : (o : Standing) → IsIn o here → is_behind o ≡ true → same_path o.path c ≡ false
  not-here o h side = by (same_path o.path c) refl
    where
      by : (t : Bool) → same_path o.path c ≡ t → t ≡ false
      by false is = refl
      by true is = absurd (both_ways (is_behind o) (side-is o h ∙ ap (same_bool false) is) side)

  -- from the edge on all stand behind it
  behind-on : (k l : ℕ) (o r : Standing) → slice_get here k ≡ Some o → is_behind o ≡ true → slice_get here (l + k) ≡ Some r → is_behind r ≡ true
  behind-on k zero o r f side g =
      let at : k ≡ 0 + k = omega arith in
      let same : Some o ≡ Some r = sym f ∙ (ap (slice_get here) at ∙ g) in
      let is : o ≡ r = cc in
      ap is_behind (sym is) ∙ side
  behind-on k (suc l) o r f side g =
      let at : suc (l + k) ≡ suc l + k = omega arith in
      let there : slice_get here (suc (l + k)) ≡ Some r = ap (slice_get here) at ∙ g in
      let long = get-long here (suc (l + k)) r there in
      let before = get-less here (l + k) (omega (arith, long)) in
      on_ways.flow way (l + k) before.0 r before.1 there (behind-on k l o before.0 f side before.1)
    where
      get-long : {A : Type 0} (xs : List A) (n : ℕ) (z : A) → slice_get xs n ≡ Some z → suc n ≤ length xs
      get-long [] n z g2 = absurd cc
      get-long (v ∷ xs) zero z g2 = omega arith
      get-long (v ∷ xs) (suc n) z g2 = let more = get-long xs n z g2 in omega (arith, more)

  abbrev pub edge : Edge is_behind here
  edge = edge-of is_behind here

  pub from-edge : (l : ℕ) (r : Standing) → edge.k ≤ l → slice_get here l ≡ Some r → is_behind r ≡ true
  from-edge l r low g = by (slice_get here edge.k) refl
    where
      get-long : {A : Type 0} (xs : List A) (n : ℕ) (z : A) → slice_get xs n ≡ Some z → suc n ≤ length xs
      get-long [] n z g2 = absurd cc
      get-long (v ∷ xs) zero z g2 = omega arith
      get-long (v ∷ xs) (suc n) z g2 = let more = get-long xs n z g2 in omega (arith, more)

      by : (s : Option Standing) → slice_get here edge.k ≡ s → is_behind r ≡ true
      by (Some o) f = behind-on edge.k (l - edge.k) o r f (edge.next o f) (ap (slice_get here) (omega (arith, low)) ∙ g)
      by None f =
          let long = get-long here l r g in
          let there = get-less here edge.k (omega (arith, long, low)) in
          let bad : None ≡ Some there.0 = sym f ∙ there.1 in absurd cc

  -- without operators inside, the net bit keeps its name
  unnamed : edge.k ≡ 0 → name_by p a (OfNode self) ≡ self
  unnamed none = elim (node-by p a names.chains q.name i c) [
    | inr u ↦ u.is
    | inl u ↦
        let some = has-operator p a.plan u.s u.listed in
        let found = on-its-way p a.plan u.s u.listed some.0 some.1 in
        let its_way : way_of u.s.bit ≡ way = ap (λ r. PortBit r u.s.bit.port.name u.s.bit.index) (sym (path-true u.s.path u.s.bit.path u.within) ∙ u.path)
        ∙ (ap (λ r. PortBit c r u.s.bit.index) u.name ∙ ap (PortBit c q.name) u.index) in
        let on : IsIn some.0 here = subst (λ v. IsIn some.0 (on_way a.plan.operators v)) its_way found.0 in
        let place = in-get here some.0 on in
        let behind = from-edge place.0 some.0 (omega (arith, none)) place.1 in
        absurd (both_ways (same_path some.0.path c) (not-here some.0 on behind) (ap (λ v. same_path v c) (found.1 ∙ u.path) ∙ path-self c))
  ]

  -- the last one inside drives the port's own bit
  module _ (k : ℕ) (last : edge.k ≡ suc k) where
    o-at : (o : Standing) × (slice_get here k ≡ Some o)
    o-at = let within = edge.within in get-less here k (omega (arith, last, within))

    abbrev o : Standing
    o = o-at.0

    side : is_behind o ≡ false
    side = edge.front k o (omega (arith, last)) o-at.1

    lies : o.path ≡ c
    lies = inside-is o (slice-in here k o o-at.1) side

    its : Own p a names.chains names.stand names.bits way k o
    its = own p a names.chains names.stand names.bits way k o o-at.1

    abbrev t : Stretch
    t = its.s

    t-path : t.path ≡ c
    t-path = its.path_is ∙ lies

    port : t.bit.port ≡ q
    port = port-is t.bit (is-of p a.plan t its.listed).0.bit its.way_is

    within : is_inside t.path t.bit ≡ true
    within = ap (λ u. is_inside u t.bit) t-path ∙ (ap (λ v. same_path c (path_of_way v)) its.way_is ∙ path-self c)

    inside-test : (l : ℕ) (r : Standing) → l < suc k → slice_get here l ≡ Some r → same_path r.path c ≡ true
    inside-test l r h g = ap (λ u. same_path u c) (inside-is r (slice-in here l r g) (edge.front l r (omega (arith, h, last)) g)) ∙ path-self c

    outside-test : (l : ℕ) (r : Standing) → suc k ≤ l → slice_get here l ≡ Some r → same_path r.path c ≡ false
    outside-test l r h g = not-here r (slice-in here l r g) (from-edge l r (omega (arith, h, last)) g)

    operators-are : t.operators ≡ take (suc k) here
    operators-are =
        (is-of p a.plan t its.listed).0.operators
        ∙ (ap (λ u. filter (λ (r : Standing). same_path r.path u && same_way (way_of r.asked.bit) (way_of t.bit)) a.plan.operators) t-path
        ∙ (ap (λ v. filter (λ (r : Standing). same_path r.path c && same_way (way_of r.asked.bit) v) a.plan.operators) its.way_is
        ∙ (filter-both (λ (r : Standing). same_path r.path c) (λ (r : Standing). same_way (way_of r.asked.bit) way) a.plan.operators
        ∙ front-filter (λ (r : Standing). same_path r.path c) here (suc k) inside-test outside-test)))

    many : length t.operators ≡ suc k
    many = let inside = edge.within in ap length operators-are ∙ take-long here (suc k) (omega (arith, last, inside))

    place : place_on here k c ≡ k
    place =
        let inside = edge.within in
        ap length (filter-all (λ (r : Standing). same_path r.path c) (take k here) (λ r h. let found = in-take k here r h in let less = found.1 in inside-test found.0 r (omega (arith, less)) found.2))
        ∙ take-long here k (omega (arith, last, inside))

    input : is_input t.bit.port ≡ false
    input = ap is_input port ∙ output

    count : t.count ≡ suc k
    count =
        let no_lead : leads_constant p.structure t.path t.bit ≡ false = ap (λ u. u && (not (is_inside t.path t.bit) && list_any is_constant (stood p.structure t.bit))) input in
        (is-of p a.plan t its.listed).0.count
        ∙ (ap (net_count p.structure t.path t.bit) many
        ∙ (ap (λ u. if u then 0 else if leads_constant p.structure t.path t.bit then suc k + 1 else suc k) (not-zero (suc k) (omega arith))
        ∙ ap (λ u. if u then suc k + 1 else suc k) no_lead))

    last-link : slice_get (links p a.chains t) (suc k) ≡ Some (bit_of t.bit.port.name t.bit.index ∷ [])
    last-link =
        let list : links p a.chains t ≡ net_bits t ++ (far p a.chains t ∷ []) =
        ap (λ u. if u then (if leads_constant p.structure t.path t.bit then net_bits t else far p a.chains t ∷ net_bits t) else net_bits t ++ (far p a.chains t ∷ [])) input in
        ap (λ l. slice_get l (suc k)) list
        ∙ (ap (slice_get (net_bits t ++ (far p a.chains t ∷ []))) (sym (nets-long t ∙ count))
        ∙ (get-next (net_bits t) [] (far p a.chains t)
        ∙ ap (λ u. Some (if u then bit_of t.bit.port.name t.bit.index ∷ [] else map (renamed a.chains t.path) (stood p.structure t.bit))) within))

    behind-name : name_by p a (Behind way k) ≡ self
    behind-name =
        ap (name_behind p a.chains here way k) o-at.1
        ∙ (ap (λ u. name_on p a.chains way u (suc (place_on here k u))) lies
        ∙ (ap (λ n. name_on p a.chains way c (suc n)) place
        ∙ (ap (name_at p a.chains c (suc k)) (ap (first-of way) (sym lies) ∙ (ap (first (is_stretch way o.path)) names.chains.chains ∙ its.found))
        ∙ (ap (λ l. node_at c (unwrap_or l [])) last-link
        ∙ (own-node t.bit.port.name t.bit.index c
        ∙ (ap (λ v. node_in v) its.way_is))))))
      where
        first-of : Way → Path → Option Stretch
        first-of v u = first (is_stretch v u) a.chains

        node_in : Way → Node
        node_in (PortBit u n j) = Inner n j c
        node_in (AssignBit u j l) = self

    behind-drive : (from : Node) → passed here way from (suc k) ≡ FromSpot (Behind way k)
    behind-drive from = ap (behind_last way k) o-at.1 ∙ ap (λ b. if b then ByOperator way k else FromSpot (Behind way k)) side

  -- what comes to the edge has the port's own net bit
  pub record ToEdge : Type 0 where
    pub spot : Spot
    pub drive : passed here way self edge.k ≡ FromSpot spot
    pub name : name_by p a spot ≡ self

  pub to-edge : ToEdge
  to-edge = by edge.k refl
    where
      by : (n : ℕ) → edge.k ≡ n → ToEdge
      by zero is = record { spot = OfNode self; drive = ap (passed here way self) is; name = unnamed is }
      by (suc k) is = record { spot = Behind way k; drive = ap (passed here way self) is ∙ behind-drive k is self; name = behind-name k is }

-- ---- an output below the top: behind the edge operators stand in the parent

pub not-inside : (inst : Name) (x : Path) → same_path x (inst ∷ x) ≡ false
not-inside inst x = by (same_path x (inst ∷ x)) refl
  where
    by : (b : Bool) → same_path x (inst ∷ x) ≡ b → b ≡ false
    by true is = let same : length x ≡ suc (length x) = ap length (path-true x (inst ∷ x) is) in absurd (omega (arith, same))
    by false is = refl

pub outside-is : (p : Project) (a : Additions) (names : HasNames p a) (on_ways : IsOnWays p a)
    (inst : Name) (x : Path) (m : ModuleView) (e : module_at p.structure (inst ∷ x) ≡ Some m) (q : PortView) (alone : filter (λ (r : PortView). bytes_eq r.name q.name) m.ports ≡ q ∷ []) (output : is_input q ≡ false) (i : Option ℕ)
    → (o : Standing) → IsIn o (on_way a.plan.operators (PortBit (inst ∷ x) q.name i)) → is_behind o ≡ true → o.path ≡ x
outside-is p a names on_ways inst x m e q alone output i o h side =
    let on = on-plan p a names on_ways (inst ∷ x) m e q alone output i o h in
    elim (on_ways.near o on.0) [
      | inl own ↦
          absurd (both_ways (same_path o.path (inst ∷ x)) (not-here p a names on_ways (inst ∷ x) m e q alone output i o h side)
          (ap (λ u. same_path u (inst ∷ x)) (own ∙ ap path_of_way on.1) ∙ path-self (inst ∷ x)))
      | inr up ↦ up ∙ ap (λ v. parent_of (path_of_way v)) on.1
    ]

-- ---- an output of the top: no operator stands behind the edge

pub long-enough : {A : Type 0} (xs : List A) (k : ℕ) → k ≤ length xs → slice_get xs k ≡ None → length xs ≡ k
long-enough [] zero h g = refl
long-enough [] (suc k) h g = absurd (omega (arith, h))
long-enough (u ∷ xs) zero h g = absurd cc
long-enough (u ∷ xs) (suc k) h g = ap suc (long-enough xs k (omega (arith, h)) g)

module _ (p : Project) (a : Additions) (names : HasNames p a) (on_ways : IsOnWays p a)
    (m : ModuleView) (e : module_at p.structure [] ≡ Some m) (q : PortView) (alone : filter (λ (r : PortView). bytes_eq r.name q.name) m.ports ≡ q ∷ []) (output : is_input q ≡ false) (i : Option ℕ) where
  abbrev all : List Standing
  all = on_way a.plan.operators (PortBit [] q.name i)

  abbrev its_edge : Edge is_behind all
  its_edge = edge p a names on_ways [] m e q alone output i

  pub top-edge : length all ≡ its_edge.k
  top-edge = by (slice_get all its_edge.k) refl
    where
      by : (o : Option Standing) → slice_get all its_edge.k ≡ o → length all ≡ its_edge.k
      by None f = long-enough all its_edge.k its_edge.within f
      by (Some o) f =
          let o_in = slice-in all its_edge.k o f in
          let on = on-plan p a names on_ways [] m e q alone output i o o_in in
          let own : o.asked.bit.path ≡ [] = ap path_of_way on.1 in
          let lies : o.path ≡ [] = elim (on_ways.near o on.0) [ inl u ↦ u ∙ own | inr u ↦ u ∙ ap parent_of own ] in
          absurd (both_ways (same_path o.path []) (not-here p a names on_ways [] m e q alone output i o o_in (its_edge.next o f)) (ap (λ u. same_path u []) lies))
