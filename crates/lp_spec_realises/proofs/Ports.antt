-- Each port origin comes in at its port.
use Rattle.std.proofs.Common.{◌≡◌, ℕ, zero, suc, Bool, true, false, not, ◌&&◌, ◌||◌, ◌==◌, cond, List, [], ◌∷◌, ◌++◌, map, Option, Some, None, refl, sym, ◌∙◌, ap}
use Rattle.std.specs.Prelude.{bytes_eq, filter, is_some}
use Rattle.std.specs.List.{list_any, list_all}
use Rattle.std.specs.Option.{option_map_or}
use Rattle.std.proofs.lemmas.Bool.{and_parts, and_from, or_parts, false≢true, not-true, eqb-true}
use Rattle.std.proofs.lemmas.List.Folds.{list_any-append}
use Rattle.lp_tern.specs.declared.supply.SupplyState.TheVariants.{Unknown}
use Rattle.lp_model.specs.declared.netlist.BitRange.{BitRange}
use Rattle.lp_model.specs.NetlistView.{PortView, NetView, InstanceView, ModuleView}
use Rattle.lp_spec_design.specs.Keys.{Name, Node, Inner, Outer, PortBit, Source, Environment, From, same_index}
use Rattle.lp_spec_design.specs.Netlists.{Structure, first, is_instantiated, module_at, indices}
use Rattle.lp_spec_design.specs.Nodes.{fuel_of}
use Rattle.lp_spec_design.specs.Graph.{outside, sources_of, source_of, trail, going_back, way_in, beginning}
use Rattle.lp_spec_design.specs.Reads.{name-true, name-self}
use Rattle.lp_spec_design.specs.Settled.{Event}
use Rattle.lp_spec_pins.specs.Pins.{FromTop, supply_begun, supply_of_node}
use Rattle.lp_spec_realises.specs.Projects.{Project, port_of_origin}
use Rattle.lp_spec_realises.specs.Operators.{Placement}
use Rattle.lp_spec_realises.specs.Tops.{ports_of}
use Rattle.lp_spec_realises.specs.ProjectNetlists.{netlist_of, are_apart, names_in, is_scalar_input, has_origin, has_origins_apart, port_origins, IsProjectNetlist}
use Rattle.lp_spec_realises.specs.Surroundings.{origin_of_port, event_at_pins, powered_of}

-- ---- names that are apart

module _ {A : Type 0} (f : A → Name) where
  -- a name that one of a list has stands among the names of the list
  has-name : (p : A → Bool) (n : Name) → ((x : A) → p x ≡ true → bytes_eq n (f x) ≡ true) → (xs : List A) → list_any p xs ≡ true → list_any (bytes_eq n) (map f xs) ≡ true
  has-name p n h [] e = absurd (false≢true e)
  has-name p n h (x ∷ xs) e = by (p x) refl (bytes_eq n (f x)) refl (λ g. has-name p n h xs g) e
    where
      by : (a : Bool) → p x ≡ a → (b : Bool) → bytes_eq n (f x) ≡ b → (list_any p xs ≡ true → list_any (bytes_eq n) (map f xs) ≡ true) → (a || list_any p xs) ≡ true → (b || list_any (bytes_eq n) (map f xs)) ≡ true
      by a is true q more e = refl
      by true is false q more e = absurd (false≢true (sym q ∙ h x is))
      by false is false q more e = more e

module _ (f : ℕ → Name) where
  -- of numbers with names apart, the first of the name of a number is that number
  found : (ks : List ℕ) (o : ℕ) → are_apart (map f ks) ≡ true → list_any (λ k. k == o) ks ≡ true → first (λ k. bytes_eq (f k) (f o)) ks ≡ Some o
  found [] o apart h = absurd (false≢true h)
  found (k ∷ ks) o apart h = by (k == o) refl (bytes_eq (f k) (f o)) refl (λ g. found ks o (and_parts _ _ apart).1 g) h
    where
      later : list_any (bytes_eq (f k)) (map f ks) ≡ false
      later = not-true _ (and_parts _ _ apart).0

      by : (a : Bool) → (k == o) ≡ a → (b : Bool) → bytes_eq (f k) (f o) ≡ b → (list_any (λ j. j == o) ks ≡ true → first (λ j. bytes_eq (f j) (f o)) ks ≡ Some o) → (a || list_any (λ j. j == o) ks) ≡ true → cond b (Some k) (first (λ j. bytes_eq (f j) (f o)) ks) ≡ Some o
      by true is true q more h = ap (λ j. Some j) (eqb-true k o is)
      by true is false q more h = absurd (false≢true (sym q ∙ (ap (λ j. bytes_eq (f k) (f j)) (sym (eqb-true k o is)) ∙ name-self (f k))))
      by false is true q more h = absurd (false≢true (sym later ∙ has-name f (λ j. j == o) (f k) (λ j e. ap (λ i. bytes_eq (f k) (f i)) (eqb-true j o e) ∙ q) ks h))
      by false is false q more h = more h

module _ (p : Project) (apart : has_origins_apart p ≡ true) (o : ℕ) (is : list_any (λ k. k == o) (port_origins p) ≡ true) where
  pub origin_found : origin_of_port p (port_of_origin p o) ≡ Some o
  origin_found = found (port_of_origin p) (port_origins p) o (and_parts _ _ apart).0 is

  pub state_at_port : (w : Structure) (ev : Event) → (event_at_pins p w ev).supplies (port_of_origin p o) ≡ ev.supplies o
  state_at_port w ev = ap (λ k. option_map_or ev.supplies k Unknown) origin_found

-- ---- the top's port of a name

-- a number of a list passes what all of the list pass
passed : (p : ℕ → Bool) (ks : List ℕ) (o : ℕ) → list_all p ks ≡ true → list_any (λ k. k == o) ks ≡ true → p o ≡ true
passed p [] o all h = absurd (false≢true h)
passed p (k ∷ ks) o all h = by (k == o) refl (λ g. passed p ks o (and_parts _ _ all).1 g) h
  where
    by : (a : Bool) → (k == o) ≡ a → (list_any (λ j. j == o) ks ≡ true → p o ≡ true) → (a || list_any (λ j. j == o) ks) ≡ true → p o ≡ true
    by true is more h = ap p (sym (eqb-true k o is)) ∙ (and_parts _ _ all).0
    by false is more h = more h

first-passes : {A : Type 0} (p f : A → Bool) (xs : List A) (x : A) → list_all p xs ≡ true → first f xs ≡ Some x → p x ≡ true
first-passes p f [] x all e = absurd cc
first-passes p f (y ∷ ys) x all e = by (f y) e (λ g. first-passes p f ys x (and_parts _ _ all).1 g)
  where
    by : (b : Bool) → cond b (Some y) (first f ys) ≡ Some x → (first f ys ≡ Some x → p x ≡ true) → p x ≡ true
    by true g rest = let same : y ≡ x = cc in ap p (sym same) ∙ (and_parts _ _ all).0
    by false g rest = rest g

-- what stands before others is apart
apart-before : (xs ys : List Name) → are_apart (xs ++ ys) ≡ true → are_apart xs ≡ true
apart-before [] ys e = refl
apart-before (x ∷ xs) ys e =
    let both = and_parts _ _ e in
    and_from _ _ (ap not (or_parts _ _ (sym (list_any-append (bytes_eq x) xs ys) ∙ not-true _ both.0)).0) (apart-before xs ys both.1)

module _ (n : Name) where
  -- a port of that name with a bit that has no index
  abbrev has_scalar : PortView → Bool
  has_scalar q = bytes_eq q.name n && list_any (same_index None) (indices q.range)

  -- behind a port of that name none has it
  none-behind : (q : PortView) → bytes_eq q.name n ≡ true → (ports : List PortView) → list_any (bytes_eq q.name) (map (λ (r : PortView). r.name) ports) ≡ false → filter has_scalar ports ≡ []
  none-behind q e [] h = refl
  none-behind q e (r ∷ ports) h =
      let both = or_parts _ _ h in
      let other : bytes_eq r.name n ≡ false = unlike r.name both.0 in
      rw (other) (none-behind q e ports both.1)
    where
      unlike : (m : Name) → bytes_eq q.name m ≡ false → bytes_eq m n ≡ false
      unlike m f = by (bytes_eq m n) refl
        where
          by : (b : Bool) → bytes_eq m n ≡ b → b ≡ false
          by false is = refl
          by true is = absurd (false≢true (sym f ∙ (ap (bytes_eq q.name) (name-true m n is) ∙ e)))

  is_scalar : (q : PortView) → is_scalar_input n q ≡ true → (has_scalar q ≡ true) × (outside n None q ≡ Environment)
  is_scalar q e = (and_from _ _ (and_parts _ _ e).0 (by q.range (and_parts _ _ (and_parts _ _ e).1).1), ap (λ b. cond b Environment (From (PortBit [] n None) (Inner n None []))) (and_parts _ _ (and_parts _ _ e).1).0)
    where
      by : (r : Option BitRange) → not (is_some r) ≡ true → list_any (same_index None) (indices r) ≡ true
      by None h = refl
      by (Some r) h = absurd (false≢true h)

  -- among ports whose names are apart, a scalar input of that name is the only source of the outer side
  alone : (ports : List PortView) → are_apart (map (λ (q : PortView). q.name) ports) ≡ true → list_any (is_scalar_input n) ports ≡ true → map (outside n None) (filter has_scalar ports) ≡ Environment ∷ []
  alone [] apart h = absurd (false≢true h)
  alone (q ∷ ports) apart h = by (is_scalar_input n q) refl (λ g. alone ports (and_parts _ _ apart).1 g) h
    where
      later : list_any (bytes_eq q.name) (map (λ (r : PortView). r.name) ports) ≡ false
      later = not-true _ (and_parts _ _ apart).0

      -- the name is that of a later port, so it is not that of this one
      other : list_any (is_scalar_input n) ports ≡ true → (b : Bool) → bytes_eq q.name n ≡ b → b ≡ false
      other g false is = refl
      other g true is = absurd (false≢true (sym later ∙ has-name (λ (r : PortView). r.name) (is_scalar_input n) q.name (λ r e. ap (bytes_eq q.name) (name-true r.name n (and_parts _ _ e).0) ∙ is) ports g))

      by : (a : Bool) → is_scalar_input n q ≡ a → (list_any (is_scalar_input n) ports ≡ true → map (outside n None) (filter has_scalar ports) ≡ Environment ∷ []) → (a || list_any (is_scalar_input n) ports) ≡ true → map (outside n None) (filter has_scalar (q ∷ ports)) ≡ Environment ∷ []
      by true is more h =
          ap (λ b. map (outside n None) (cond b (q ∷ filter has_scalar ports) (filter has_scalar ports))) (is_scalar q is).0
          ∙ (ap (λ rest. outside n None q ∷ map (outside n None) rest) (none-behind q (and_parts _ _ is).0 ports later)
          ∙ ap (λ x. x ∷ []) (is_scalar q is).1)
      by false is more h =
          ap (λ b. map (outside n None) (cond (b && list_any (same_index None) (indices q.range)) (q ∷ filter has_scalar ports) (filter has_scalar ports))) (other h (bytes_eq q.name n) refl)
          ∙ more h

  module _ (w : Structure) (apart : list_all (λ m. are_apart (names_in m)) w.modules ≡ true) (there : list_any (is_scalar_input n) (ports_of (module_at w [])) ≡ true) where
    sources : (m : Option ModuleView) → module_at w [] ≡ m → list_any (is_scalar_input n) (ports_of m) ≡ true → sources_of w (Outer n None) ≡ Environment ∷ []
    sources None e h = absurd (false≢true h)
    sources (Some m) e h =
        let names = first-passes (λ (k : ModuleView). are_apart (names_in k)) (λ (k : ModuleView). not (is_instantiated w k.name)) w.modules m apart e in
        are m e ∙ alone m.ports (apart-before (map (λ (q : PortView). q.name) m.ports) (map (λ (x : NetView). x.name) m.nets ++ map (λ (x : InstanceView). x.name) m.instances) names) h
      where
        are : (k : ModuleView) → module_at w [] ≡ Some k → sources_of w (Outer n None) ≡ map (outside n None) (filter has_scalar k.ports)
        are k g = rw (g) refl

    by_list : (k : Node) (x : Source) (xs : List Source) → sources_of w k ≡ x ∷ xs → source_of w k ≡ Some x
    by_list k x xs e = rw (e) refl

    pub from_outside : source_of w (Outer n None) ≡ Some Environment
    from_outside = by_list (Outer n None) Environment [] (sources (module_at w []) refl there)

    pub begins_there : (fuel : ℕ) → beginning (Outer n None) (trail w fuel (Outer n None)) ≡ Outer n None
    begins_there zero = refl
    begins_there (suc fuel) = ap (λ o. beginning (Outer n None) (going_back (λ j. trail w fuel j) (way_in o))) from_outside

-- ---- the supply at the port of an origin

module _ (p : Project) (modules : List ModuleView) (netlist : IsProjectNetlist p modules) (at : Placement) (o : ℕ) (is : list_any (λ k. k == o) (port_origins p) ≡ true) where
  abbrev n : Name
  n = port_of_origin p o

  abbrev w : Structure
  w = netlist_of p modules

  there : has_origin p w o ≡ true
  there = passed (has_origin p w) (port_origins p) o netlist.origins is

  pub supply_at_port : supply_of_node (powered_of p modules at) (Outer n None) ≡ Some (FromTop n)
  supply_at_port =
      let apart = (and_parts _ _ netlist.names_apart).1 in
      ap (λ k. supply_begun (powered_of p modules at) k (source_of w k)) (begins_there n w apart there (fuel_of w))
      ∙ (ap (supply_begun (powered_of p modules at) (Outer n None)) (from_outside n w apart there)
      ∙ ap (λ k. cond (is_some k) (Some (FromTop n)) None) (origin_found p netlist.origins_apart o is))
