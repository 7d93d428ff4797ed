-- An element of isolation or shifting names a side of a domain exactly where domains meet at its instance, and one side is the domain's.
use Rattle.std.proofs.Common.{◌≡◌, ℕ, Bool, true, false, ◌&&◌, ◌||◌, [], ◌∷◌, Option, inl, inr, refl, sym, ap, ◌∙◌, subst}
use Rattle.std.specs.Prelude.{filter, bytes_eq}
use Rattle.std.specs.List.{list_any}
use Rattle.std.proofs.lemmas.Bool.{true≢false}
use Rattle.lp_model.specs.declared.side.Side.TheVariants.{Upper, Lower}
use Rattle.lp_model.specs.NetlistView.{PortView}
use Rattle.lp_spec_design.specs.Keys.{Name, Path, same_path, same_index}
use Rattle.lp_spec_design.specs.Netlists.{module_at}
use Rattle.lp_spec_design.specs.Instances.{module_instances}
use Rattle.lp_spec_design.specs.Intents.{Element, AtInstance, AtCell, AtPort, AtBit, Strategy}
use Rattle.lp_spec_design.specs.Domains.{BoundaryBit, bits_of, is_boundary, boundary}
use Rattle.lp_spec_design.specs.Winners.{IsIn, names}
use Rattle.lp_spec_design.specs.Reads.{one, other, both, path-true, path-self}
use Rattle.lp_spec_design.proofs.Members.{in-flat, of-flat, of-filter, of-any, any-in}
use Rattle.lp_spec_realises.specs.Projects.{Project}
use Rattle.lp_spec_faults.specs.Strategies.{SideAt, sides_of_bit, all_sides, is_side_of, is_of_domain, has_side, boundary_instances, names_side}
use Rattle.lp_domains.proofs.Flagged.{in-filter, listed-path, bit-path}
use Rattle.lp_domains.proofs.Ordered.{bits-are}
use Rattle.lp_strategy.specs.Claims.{stands}

-- ---- tests

-- tests that imply each other are equal
pub same-tests : (a b : Bool) → (a ≡ true → b ≡ true) → (b ≡ true → a ≡ true) → a ≡ b
same-tests true b f g = sym (f refl)
same-tests false true f g = g refl
same-tests false false f g = refl

either-left : (a b : Bool) → a ≡ true → (a || b) ≡ true
either-left a b h = ap (λ x. x || b) h

either-right : (a b : Bool) → b ≡ true → (a || b) ≡ true
either-right true b h = refl
either-right false b h = h

-- ---- the path of an element

unfoldable pub path_of : Element → Path
path_of (AtInstance q) = q
path_of (AtCell q x) = q
path_of (AtPort q n) = q
path_of (AtBit q n j) = q

names-path : (b : BoundaryBit) (e : Element) → names b e ≡ true → path_of e ≡ b.path
unfolding path_of
names-path b (AtInstance q) h = path-true q b.path h
names-path b (AtCell q x) h = absurd (true≢false (sym h))
names-path b (AtPort q n) h = path-true q b.path (other (bytes_eq n b.port.name) (same_path q b.path) h)
names-path b (AtBit q n j) h = path-true q b.path (other (same_index j b.index) (same_path q b.path) (other (bytes_eq n b.port.name) (same_index j b.index && same_path q b.path) h))

-- ---- sides of a bit

module _ (p : Project) (d : ℕ) where
  -- a side of a bit that is the domain's is a side of the bit's instance
  of-side : (q : Path) (port : PortView) (index : Option ℕ) (a : SideAt) → IsIn a (sides_of_bit (record { path = q; port = port; index = index })) → is_side_of p d a ≡ true
      → (a.bit ≡ record { path = q; port = port; index = index }) × (has_side p d q ≡ true)
  of-side [] port index a (inl is) h = (ap (λ (z : SideAt). z.bit) is, ap (is_side_of p d) (sym is) ∙ h)
  of-side [] port index a (inr more) h = absurd more
  of-side (x ∷ r) port index a (inl is) h = (ap (λ (z : SideAt). z.bit) is, either-left (is_of_domain p d (x ∷ r)) (is_of_domain p d r) (ap (is_side_of p d) (sym is) ∙ h))
  of-side (x ∷ r) port index a (inr (inl is)) h = (ap (λ (z : SideAt). z.bit) is, either-right (is_of_domain p d (x ∷ r)) (is_of_domain p d r) (ap (is_side_of p d) (sym is) ∙ h))
  of-side (x ∷ r) port index a (inr (inr more)) h = absurd more

  -- where an instance has a side of the domain, each of its bits has
  in-side : (q : Path) (port : PortView) (index : Option ℕ) → has_side p d q ≡ true
      → (a : SideAt) × IsIn a (sides_of_bit (record { path = q; port = port; index = index })) × (is_side_of p d a ≡ true) × (a.bit ≡ record { path = q; port = port; index = index })
  in-side [] port index h = (record { bit = record { path = []; port = port; index = index }; side = Upper }, inl refl, h, refl)
  in-side (x ∷ r) port index h = by (is_of_domain p d (x ∷ r)) refl
    where
      by : (b : Bool) → is_of_domain p d (x ∷ r) ≡ b
          → (a : SideAt) × IsIn a (sides_of_bit (record { path = x ∷ r; port = port; index = index })) × (is_side_of p d a ≡ true) × (a.bit ≡ record { path = x ∷ r; port = port; index = index })
      by true e = (record { bit = record { path = x ∷ r; port = port; index = index }; side = Upper }, inl refl, e, refl)
      by false e = (record { bit = record { path = x ∷ r; port = port; index = index }; side = Lower }, inr (inl refl), ap (λ z. z || is_of_domain p d r) (sym e) ∙ h, refl)

  abbrev tested : Element → SideAt → Bool
  tested e a = is_side_of p d a && names a.bit e

  named-to : (e : Element) (q : Path) → path_of e ≡ q → list_any (tested e) (all_sides p) ≡ true → (is_boundary p.intent q && has_side p d q) ≡ true
  named-to e q at h =
      let a = of-any (tested e) (all_sides p) h in
      let b = of-flat sides_of_bit a.0 (boundary p.structure p.intent) a.1 in
      let side = of-side b.0.path b.0.port b.0.index a.0 b.2 (one (is_side_of p d a.0) (names a.0.bit e) a.2) in
      let path : b.0.path ≡ q = ap (λ (z : BoundaryBit). z.path) (sym side.0) ∙ sym (names-path a.0.bit e (other (is_side_of p d a.0) (names a.0.bit e) a.2)) ∙ at in
      subst (λ z. (is_boundary p.intent z && has_side p d z) ≡ true) path (both (is_boundary p.intent b.0.path) (has_side p d b.0.path) (bit-path p.structure p.intent b.0 b.1) side.1)

  named-from : (e : Element) (q : Path) → IsIn q (module_instances p.structure) → list_any (λ b. names b e) (bits_of p.structure q) ≡ true → (is_boundary p.intent q && has_side p d q) ≡ true → list_any (tested e) (all_sides p) ≡ true
  named-from e q there some h =
      let b = of-any (λ (b : BoundaryBit). names b e) (bits_of p.structure q) some in
      let path : b.0.path ≡ q = listed-path p.structure p.intent q (module_at p.structure q) b.0 (subst (λ xs. IsIn b.0 xs) (bits-are p.structure q (module_at p.structure q) refl) b.1) in
      let kept = in-filter (is_boundary p.intent) q (module_instances p.structure) there (one (is_boundary p.intent q) (has_side p d q) h) in
      let bit = in-flat (bits_of p.structure) q b.0 (filter (is_boundary p.intent) (module_instances p.structure)) kept b.1 in
      let side = in-side b.0.path b.0.port b.0.index (ap (has_side p d) path ∙ other (is_boundary p.intent q) (has_side p d q) h) in
      any-in (tested e) side.0 (all_sides p) (in-flat sides_of_bit b.0 side.0 (boundary p.structure p.intent) bit side.1)
      (both (is_side_of p d side.0) (names side.0.bit e) side.2 (ap (λ z. names z e) side.3 ∙ b.2))

  side-named : (e : Element) (q : Path) → path_of e ≡ q → IsIn q (module_instances p.structure) → list_any (λ b. names b e) (bits_of p.structure q) ≡ true → list_any (tested e) (all_sides p) ≡ (is_boundary p.intent q && has_side p d q)
  side-named e q at there some = same-tests (list_any (tested e) (all_sides p)) (is_boundary p.intent q && has_side p d q) (named-to e q at) (named-from e q there some)

  abbrev meets : Path → Path → Bool
  meets q k = same_path k q && has_side p d k

  instance-named : (q : Path) → IsIn q (module_instances p.structure) → list_any (meets q) (boundary_instances p) ≡ (is_boundary p.intent q && has_side p d q)
  instance-named q there = same-tests (list_any (meets q) (boundary_instances p)) (is_boundary p.intent q && has_side p d q) to from
    where
      to : list_any (meets q) (boundary_instances p) ≡ true → (is_boundary p.intent q && has_side p d q) ≡ true
      to h =
          let k = of-any (meets q) (boundary_instances p) h in
          let path = path-true k.0 q (one (same_path k.0 q) (has_side p d k.0) k.2) in
          let on = (of-filter (is_boundary p.intent) k.0 (module_instances p.structure) k.1).1 in
          subst (λ z. (is_boundary p.intent z && has_side p d z) ≡ true) path (both (is_boundary p.intent k.0) (has_side p d k.0) on (other (same_path k.0 q) (has_side p d k.0) k.2))

      from : (is_boundary p.intent q && has_side p d q) ≡ true → list_any (meets q) (boundary_instances p) ≡ true
      from h =
          any-in (meets q) q (boundary_instances p) (in-filter (is_boundary p.intent) q (module_instances p.structure) there (one (is_boundary p.intent q) (has_side p d q) h))
          (both (same_path q q) (has_side p d q) (path-self q) (other (is_boundary p.intent q) (has_side p d q) h))

-- ---- elements

abbrev pub is_cell : Element → Bool
is_cell (AtCell q x) = true
is_cell _ = false

pub side-placed : (p : Project) (t : Strategy) (e : Element) → IsIn (path_of e) (module_instances p.structure) → stands p.structure e ≡ true → is_cell e ≡ false
    → names_side p (record { strategy = t; element = e }) ≡ (is_boundary p.intent (path_of e) && has_side p t.domain (path_of e))
unfolding path_of
side-placed p t (AtInstance q) there some cell = instance-named p t.domain q there
side-placed p t (AtCell q x) there some cell = absurd (true≢false cell)
side-placed p t (AtPort q n) there some cell = side-named p t.domain (AtPort q n) q refl there some
side-placed p t (AtBit q n j) there some cell = side-named p t.domain (AtBit q n j) q refl there some

pub cell-placed : (p : Project) (t : Strategy) (q : Path) (x : Name) → names_side p (record { strategy = t; element = AtCell q x }) ≡ false
cell-placed p t q x = by (list_any (tested p t.domain (AtCell q x)) (all_sides p)) refl
  where
    by : (b : Bool) → list_any (tested p t.domain (AtCell q x)) (all_sides p) ≡ b → b ≡ false
    by false h = refl
    by true h =
        let a = of-any (tested p t.domain (AtCell q x)) (all_sides p) h in
        absurd (true≢false (sym (other (is_side_of p t.domain a.0) (names a.0.bit (AtCell q x)) a.2)))
