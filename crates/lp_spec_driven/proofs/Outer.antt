-- The outer sides of the top's ports: the environment drives those of inputs, and what comes to the port's edge those of outputs.
use Rattle.std.proofs.Common.{◌≡◌, ℕ, Bool, true, false, ◌&&◌, cond, List, [], ◌∷◌, ◌++◌, map, length, Option, Some, refl, sym, ◌∙◌, ap, subst}
use Rattle.std.specs.Prelude.{bytes_eq, filter, option_and_then, if◌then◌else◌}
use Rattle.std.specs.List.{list_any}
use Rattle.lp_model.specs.NetlistView.{PortView, ModuleView}
use Rattle.lp_spec_design.specs.Keys.{Name, Node, Inner, Outer, Way, PortBit, Environment, From, same_index}
use Rattle.lp_spec_design.specs.Netlists.{Structure, first, module_at, indices, is_input}
use Rattle.lp_spec_design.specs.Graph.{pairs, outside, source_of, way_in}
use Rattle.lp_spec_design.specs.Reads.{name-self, index-true, both}
use Rattle.lp_spec_design.specs.Winners.{IsIn}
use Rattle.lp_spec_design.proofs.Looped.{source_by, outer_by}
use Rattle.lp_spec_design.proofs.Members.{in-map}
use Rattle.lp_spec_realises.specs.Projects.{Project}
use Rattle.lp_spec_realises.specs.Tops.{ports_of, beside, index_between, top_port, index_across}
use Rattle.lp_spec_realises.specs.Ends.{AtTop, own_end, end_across}
use Rattle.lp_spec_written.specs.Routes.{control_ports}
use Rattle.lp_spec_written.specs.Written.{Additions, added_supply_ports, written_module}
use Rattle.lp_spec_hub.specs.Spots.{OfNode, on_way}
use Rattle.lp_spec_hub.specs.Drives.{drive, drive_by, passed}
use Rattle.lp_spec_hub.specs.Begins.{IsWired}
use Rattle.lp_spec_wired.specs.Contents.{HasContent, IsWrittenAt}
use Rattle.lp_spec_wired.specs.Names.{name_by, placement_by}
use Rattle.lp_spec_wired.specs.Laws.{done_of, StandsFor}
use Rattle.lp_spec_wired.proofs.Chains.{in-filter}
use Rattle.lp_spec_driven.specs.Sound.{IsProper}
use Rattle.lp_spec_driven.specs.Laws.{OuterSidesStand}
use Rattle.lp_spec_driven.proofs.Sources.{the-source}
use Rattle.lp_spec_driven.proofs.Edges.{edge, ToEdge, to-edge, top-edge}

-- ---- the only port of its name

-- it is the first one that passes a test on top of that
first-passing : (n : Name) (t : PortView → Bool) (ports more : List PortView) (q : PortView) → filter (λ (r : PortView). bytes_eq r.name n) ports ≡ q ∷ [] → t q ≡ true
    → (rest : List PortView) × (filter (λ (r : PortView). bytes_eq r.name n && t r) (ports ++ more) ≡ q ∷ rest)
first-passing n t [] more q g h = absurd cc
first-passing n t (r ∷ ports) more q g h = by (bytes_eq r.name n) refl g (first-passing n t ports more q)
  where
    behind : List PortView
    behind = filter (λ (u : PortView). bytes_eq u.name n && t u) (ports ++ more)

    by : (d : Bool) → bytes_eq r.name n ≡ d → cond d (r ∷ filter (λ (u : PortView). bytes_eq u.name n) ports) (filter (λ (u : PortView). bytes_eq u.name n) ports) ≡ q ∷ []
        → (filter (λ (u : PortView). bytes_eq u.name n) ports ≡ q ∷ [] → t q ≡ true → (rest : List PortView) × (behind ≡ q ∷ rest))
        → (rest : List PortView) × (cond (bytes_eq r.name n && t r) (r ∷ behind) behind ≡ q ∷ rest)
    by true is g2 tail =
        let same : r ≡ q = cc in
        (behind, ap (λ b. cond b (r ∷ behind) behind) (both (bytes_eq r.name n) (t r) is (ap t same ∙ h)) ∙ ap (λ z. z ∷ behind) same)
    by false is g2 tail = let found = tail g2 h in (found.0, ap (λ b. cond (b && t r) (r ∷ behind) behind) is ∙ found.1)

first-of-name : (n : Name) (ports more : List PortView) (q : PortView) → filter (λ (r : PortView). bytes_eq r.name n) ports ≡ q ∷ [] → first (λ (r : PortView). bytes_eq r.name n) (ports ++ more) ≡ Some q
first-of-name n [] more q g = absurd cc
first-of-name n (r ∷ ports) more q g = by (bytes_eq r.name n) g (first-of-name n ports more q)
  where
    by : (d : Bool) → cond d (r ∷ filter (λ (u : PortView). bytes_eq u.name n) ports) (filter (λ (u : PortView). bytes_eq u.name n) ports) ≡ q ∷ []
        → (filter (λ (u : PortView). bytes_eq u.name n) ports ≡ q ∷ [] → first (λ (u : PortView). bytes_eq u.name n) (ports ++ more) ≡ Some q)
        → (if d then Some r else first (λ (u : PortView). bytes_eq u.name n) (ports ++ more)) ≡ Some q
    by true g2 tail = let same : r ≡ q = cc in ap (λ z. Some z) same
    by false g2 tail = tail g2

none-behind : {A : Type 0} (xs : List A) → xs ++ [] ≡ xs
none-behind [] = refl
none-behind (x ∷ xs) = ap (λ ys. x ∷ ys) (none-behind xs)

-- beside an index of the same list stands the index itself
beside-self : (i : Option ℕ) (xs : List (Option ℕ)) → beside i (pairs xs xs) ≡ i
beside-self i [] = refl
beside-self i (x ∷ xs) = by (same_index i x) refl (beside-self i xs)
  where
    by : (d : Bool) → same_index i x ≡ d → beside i (pairs xs xs) ≡ i → (if d then x else beside i (pairs xs xs)) ≡ i
    by true is more = sym (index-true i x is)
    by false is more = more

module _ (p : Project) (a : Additions) (w : Structure) (from : Way → Node) (written : IsWrittenAt p a w) (proper : IsProper p a from) (m : ModuleView) (e : module_at p.structure [] ≡ Some m) (q : PortView) (q_in : IsIn q m.ports)
    (i : Option ℕ) (ranged : list_any (same_index i) (indices q.range) ≡ true) where
  abbrev s : Structure
  s = p.structure

  abbrev outer : Node
  outer = Outer q.name i

  alone : filter (λ (r : PortView). bytes_eq r.name q.name) m.ports ≡ q ∷ []
  alone = proper.plain.ports [] m q e q_in

  abbrev has_bit : PortView → Bool
  has_bit r = list_any (same_index i) (indices r.range)

  -- its source there
  in-source : source_of s outer ≡ Some (outside q.name i q)
  in-source =
      the-source s outer (outside q.name i q) (proper.plain.single outer)
      (subst (λ l. IsIn (outside q.name i q) l) (sym (outer_by s q.name i (Some m) e))
      (in-map (outside q.name i) q (filter (λ (r : PortView). bytes_eq r.name q.name && has_bit r) m.ports)
      (in-filter (λ (r : PortView). bytes_eq r.name q.name && has_bit r) m.ports q q_in (both (bytes_eq q.name q.name) (has_bit q) (name-self q.name) ranged))))

  abbrev at_path : HasContent w [] (written_module p a [] m)
  at_path = written.modules [] m e

  abbrev added : List PortView
  added = added_supply_ports p a [] ++ control_ports a.controls []

  in-written : source_of w outer ≡ Some (outside q.name i q)
  in-written =
      let list = first-passing q.name has_bit m.ports added q alone ranged in
      source_by w outer (outside q.name i q ∷ map (outside q.name i) list.0)
      (outer_by w q.name i (Some at_path.here) at_path.is
      ∙ (ap (λ l. map (outside q.name i) (filter (λ (r : PortView). bytes_eq r.name q.name && has_bit r) l)) at_path.content.ports
      ∙ ap (map (outside q.name i)) list.1))

  driven : drive p (done_of a) from (OfNode outer) ≡ Some (drive_by a.plan.operators (outside q.name i q))
  driven = ap (option_and_then (λ u. Some (drive_by a.plan.operators u))) in-source

  -- both tops have it, so its bits keep their places
  keeps-index : index_across s w q.name i ≡ i
  keeps-index =
      ap (λ o. index_between i (first (λ (r : PortView). bytes_eq r.name q.name) (ports_of o)) (top_port w q.name)) e
      ∙ (ap (λ o. index_between i o (top_port w q.name)) (ap (first (λ (r : PortView). bytes_eq r.name q.name)) (sym (none-behind m.ports)) ∙ first-of-name q.name m.ports [] q alone)
      ∙ (ap (index_between i (Some q))
      (ap (λ o. first (λ (r : PortView). bytes_eq r.name q.name) (ports_of o)) at_path.is
      ∙ (ap (first (λ (r : PortView). bytes_eq r.name q.name)) at_path.content.ports ∙ first-of-name q.name m.ports added q alone))
      ∙ beside-self i (indices q.range)))

  abbrev Result : Type 0
  Result = StandsFor p a w (placement_by p a) from (OfNode outer)

  by-direction : (d : Bool) → is_input q ≡ d → Result
  by-direction true input =
      let side : outside q.name i q ≡ Environment = ap (λ b. if b then Environment else From (PortBit [] q.name i) (Inner q.name i [])) input in
      let of_source : source_of s outer ≡ Some Environment = in-source ∙ ap (λ z. Some z) side in
      let of_written : source_of w outer ≡ Some Environment = in-written ∙ ap (λ z. Some z) side in
      subst (IsWired p w (placement_by p a) (name_by p a) (OfNode outer)) (sym (driven ∙ ap (λ z. Some (drive_by a.plan.operators z)) side))
      (record {
        first = ap way_in of_written;
        own = ap (own_end outer) of_written ∙ (ap (AtTop q.name) (sym keeps-index) ∙ sym (ap (λ z. end_across s w (own_end outer z)) of_source));
      })
  by-direction false output =
      let side : outside q.name i q ≡ From (PortBit [] q.name i) (Inner q.name i []) = ap (λ b. if b then Environment else From (PortBit [] q.name i) (Inner q.name i [])) output in
      let come : ToEdge p a proper.names proper.on_ways [] m e q alone output i = to-edge p a proper.names proper.on_ways [] m e q alone output i in
      let all : length (on_way a.plan.operators (PortBit [] q.name i)) ≡ (edge p a proper.names proper.on_ways [] m e q alone output i).k = top-edge p a proper.names proper.on_ways m e q alone output i in
      subst (IsWired p w (placement_by p a) (name_by p a) (OfNode outer))
      (sym (driven ∙ (ap (λ z. Some (drive_by a.plan.operators z)) side
      ∙ ap (λ z. Some z) (ap (passed (on_way a.plan.operators (PortBit [] q.name i)) (PortBit [] q.name i) (Inner q.name i [])) all ∙ come.drive))))
      (record { way = PortBit [] q.name i; source = in-written ∙ (ap (λ z. Some z) side ∙ ap (λ k. Some (From (PortBit [] q.name i) k)) (sym come.name)) })

  pub outer-side : Result
  outer-side = by-direction (is_input q) refl

pub outer-sides-stand : OuterSidesStand
outer-sides-stand p a w from written proper m e q q_in i ranged = outer-side p a w from written proper m e q q_in i ranged
