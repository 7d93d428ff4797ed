-- The numbers of parts of control routes, and the net of a control in an instance above its own.
use Rattle.std.proofs.Common.{◌≡◌, ◌⊎◌, ◌<◌, ◌≤◌, ℕ, suc, ◌+◌, Bool, true, false, ◌&&◌, cond, List, [], ◌∷◌, length, Option, Some, None, inl, inr, refl, sym, ◌∙◌, ap, subst, arith}
use Rattle.std.specs.Prelude.{filter, if◌then◌else◌}
use Rattle.std.proofs.lemmas.Bool.{both_ways}
use Rattle.lp_model.specs.NetlistView.{BitView, NetBit}
use Rattle.lp_spec_design.specs.Keys.{Path, same_path, Node, Inner, same_node}
use Rattle.lp_spec_design.specs.Netlists.{first}
use Rattle.lp_spec_design.specs.Graph.{numbered}
use Rattle.lp_spec_design.specs.Reads.{path-self, node-true, node-self, one, other, both}
use Rattle.lp_spec_design.specs.Winners.{IsIn}
use Rattle.lp_spec_design.proofs.Members.{any-in}
use Rattle.lp_spec_design.proofs.Sources.{first_in}
use Rattle.lp_spec_realises.specs.Projects.{Project}
use Rattle.lp_spec_written.specs.Routes.{Part, Kind, PortOut, Between, PortIn, same_part_kind, same_part, has_part, parts_in, control_net, is_between, part_for, part_bits, carried}
use Rattle.lp_spec_written.specs.Written.{Additions}
use Rattle.lp_spec_hub.specs.Spots.{Routed}
use Rattle.lp_spec_hub.specs.Drives.{part_at}
use Rattle.lp_spec_wired.specs.Names.{name_by}
use Rattle.lp_spec_wired.proofs.Controls.{in-here, kind-true}
use Rattle.lp_spec_wired.proofs.Others.{part-name}
use Rattle.lp_spec_driven.specs.Sound.{HasRoutes}

-- ---- numbers

-- where a test holds of one item at most, it has one number
low-number : {A : Type 0} (xs : List A) (k : ℕ) (z : ℕ × A) → IsIn z (numbered k xs) → k ≤ z.0
low-number [] k z h = absurd h
low-number (x ∷ xs) k z (inl is) = let same : z.0 ≡ k = ap (λ (u : ℕ × _). u.0) is in omega (arith, same)
low-number (x ∷ xs) k z (inr h) = let more = low-number xs (k + 1) z h in omega (arith, more)

some-pass : {A : Type 0} (t : A → Bool) (xs : List A) (k : ℕ) (z : ℕ × A) → IsIn z (numbered k xs) → t z.1 ≡ true → 0 < length (filter t xs)
some-pass t [] k z h e = absurd h
some-pass t (x ∷ xs) k z (inl is) e = subst (λ b. 0 < length (cond b (x ∷ filter t xs) (filter t xs))) (sym (ap (λ (u : ℕ × _). t u.1) (sym is) ∙ e)) (omega arith)
some-pass t (x ∷ xs) k z (inr h) e = by (t x) (some-pass t xs (k + 1) z h e)
  where
    by : (b : Bool) → 0 < length (filter t xs) → 0 < length (cond b (x ∷ filter t xs) (filter t xs))
    by true g = omega arith
    by false g = g

pub one-number : {A : Type 0} (t : A → Bool) (xs : List A) (k : ℕ) (y z : ℕ × A) → length (filter t xs) ≤ 1 → IsIn y (numbered k xs) → IsIn z (numbered k xs) → t y.1 ≡ true → t z.1 ≡ true → y ≡ z
one-number t [] k y z few h g e f = absurd h
one-number t (x ∷ xs) k y z few (inl is) (inl too) e f = is ∙ sym too
one-number t (x ∷ xs) k y z few (inl is) (inr g) e f =
    let pass : t x ≡ true = ap (λ (u : ℕ × _). t u.1) (sym is) ∙ e in
    let more = some-pass t xs (k + 1) z g f in
    let many : length (cond true (x ∷ filter t xs) (filter t xs)) ≤ 1 = subst (λ b. length (cond b (x ∷ filter t xs) (filter t xs)) ≤ 1) pass few in
    absurd (omega (arith, more, many))
one-number t (x ∷ xs) k y z few (inr h) (inl too) e f =
    let pass : t x ≡ true = ap (λ (u : ℕ × _). t u.1) (sym too) ∙ f in
    let more = some-pass t xs (k + 1) y h e in
    let many : length (cond true (x ∷ filter t xs) (filter t xs)) ≤ 1 = subst (λ b. length (cond b (x ∷ filter t xs) (filter t xs)) ≤ 1) pass few in
    absurd (omega (arith, more, many))
one-number t (x ∷ xs) k y z few (inr h) (inr g) e f = one-number t xs (k + 1) y z (fewer (t x) few) h g e f
  where
    fewer : (b : Bool) → length (cond b (x ∷ filter t xs) (filter t xs)) ≤ 1 → length (filter t xs) ≤ 1
    fewer true l = omega (arith, l)
    fewer false l = l

pub filter-less : {A : Type 0} (t u : A → Bool) (xs : List A) → length (filter t (filter u xs)) ≤ length (filter t xs)
filter-less t u [] = omega arith
filter-less t u (x ∷ xs) = by (u x) (t x) refl (filter-less t u xs)
  where
    by : (b c : Bool) → t x ≡ c → length (filter t (filter u xs)) ≤ length (filter t xs) → length (filter t (cond b (x ∷ filter u xs) (filter u xs))) ≤ length (cond c (x ∷ filter t xs) (filter t xs))
    by true true e h = let same : length (filter t (x ∷ filter u xs)) ≡ suc (length (filter t (filter u xs))) = ap (λ d. length (cond d (x ∷ filter t (filter u xs)) (filter t (filter u xs)))) e in omega (arith, same, h)
    by true false e h = let same : length (filter t (x ∷ filter u xs)) ≡ length (filter t (filter u xs)) = ap (λ d. length (cond d (x ∷ filter t (filter u xs)) (filter t (filter u xs)))) e in omega (arith, same, h)
    by false true e h = omega (arith, h)
    by false false e h = h

kind-self : (k : Kind) → same_part_kind k k ≡ true
kind-self PortOut = refl
kind-self Between = refl
kind-self PortIn = refl

pub part-self : (t : Part) → same_part t t ≡ true
part-self t = both (same_part_kind t.kind t.kind) (same_path t.path t.path && same_node t.control t.control) (kind-self t.kind) (both (same_path t.path t.path) (same_node t.control t.control) (path-self t.path) (node-self t.control))

-- ---- one instance

module _ (p : Project) (a : Additions) (routes : HasRoutes a) (x : Path) where
  abbrev here : List (ℕ × Part)
  here = parts_in a.controls x

  pub one-place : (y z : ℕ × Part) → IsIn y here → IsIn z here → y.1 ≡ z.1 → y ≡ z
  one-place y z h g same =
      let few = routes.once z.1 in
      let less = filter-less (same_part z.1) (λ (t : Part). same_path t.path x) a.controls in
      one-number (same_part z.1) (filter (λ (t : Part). same_path t.path x) a.controls) 0 y z (omega (arith, few, less)) h g (ap (same_part z.1) same ∙ part-self z.1) (part-self z.1)

  pub is-made : (y : ℕ × Part) → IsIn y here → IsIn y.1 a.controls × (y.1.path ≡ x)
  is-made y h = in-here a.controls y.1.control x y h

  pub has-it : (y : ℕ × Part) → IsIn y here → has_part a.controls y.1 ≡ true
  has-it y h = any-in (same_part y.1) y.1 a.controls (is-made y h).0 (part-self y.1)

  -- the net bit of a part that stands there
  pub place-name : (y : ℕ × Part) → IsIn y here → name_by p a (Routed y.1) ≡ Inner (control_net y.0) None x
  place-name y h =
      let found = part-name p a y.1 (has-it y h) in
      let path = (is-made y h).1 in
      let same : found.0 ≡ y = one-place found.0 y (subst (λ u. IsIn found.0 (parts_in a.controls u)) path found.1) h found.2 in
      found.3 ∙ (ap (λ (u : ℕ × Part). Inner (control_net u.0) None y.1.path) same ∙ ap (Inner (control_net y.0) None) path)

  -- ---- the net of a control there

  pub record Net (k : Node) (b : BitView) : Type 0 where
    pub part : ℕ × Part
    pub listed : IsIn part here
    pub control : part.1.control ≡ k
    pub bit : b ≡ NetBit (control_net part.0)
    pub wire : (part.1.kind ≡ Between) ⊎ (has_part a.controls (part_at k x Between) ≡ false)

  net-by : (k : Node) (b : BitView) (wire all : Option (ℕ × Part)) → part_for here k is_between ≡ wire → part_for here k (λ y. true) ≡ all → IsIn b (part_bits wire all) → Net k b
  net-by k b (Some y) all e f h =
      let found = first_in (λ (z : ℕ × Part). same_node z.1.control k && is_between z.1) here y e in
      record {
        part = y;
        listed = found.0;
        control = node-true y.1.control k (one (same_node y.1.control k) _ found.1);
        bit = elim h [ inl is ↦ is | inr none ↦ absurd none ];
        wire = inl (kind-true y.1.kind Between (other (same_node y.1.control k) _ found.1));
      }
  net-by k b None (Some y) e f h =
      let found = first_in (λ (z : ℕ × Part). same_node z.1.control k && true) here y f in
      record {
        part = y;
        listed = found.0;
        control = node-true y.1.control k (one (same_node y.1.control k) _ found.1);
        bit = elim h [ inl is ↦ is | inr none ↦ absurd none ];
        wire = inr (no-wire (has_part a.controls (part_at k x Between)) refl);
      }
    where
      none-passes : (zs : List (ℕ × Part)) → first (λ (z : ℕ × Part). same_node z.1.control k && is_between z.1) zs ≡ None → (u : ℕ × Part) → IsIn u zs → (same_node u.1.control k && is_between u.1) ≡ true → ⊥
      none-passes [] g u i t = absurd i
      none-passes (z ∷ zs) g u i t = by (same_node z.1.control k && is_between z.1) refl g (none-passes zs)
        where
          by : (d : Bool) → (same_node z.1.control k && is_between z.1) ≡ d → (if d then Some z else first (λ (v : ℕ × Part). same_node v.1.control k && is_between v.1) zs) ≡ None
              → (first (λ (v : ℕ × Part). same_node v.1.control k && is_between v.1) zs ≡ None → (v : ℕ × Part) → IsIn v zs → (same_node v.1.control k && is_between v.1) ≡ true → ⊥) → ⊥
          by true is g2 more = absurd cc
          by false is g2 more = elim i [ inl same ↦ both_ways (same_node z.1.control k && is_between z.1) is (ap (λ (v : ℕ × Part). same_node v.1.control k && is_between v.1) (sym same) ∙ t) | inr r ↦ more g2 u r t ]

      no-wire : (d : Bool) → has_part a.controls (part_at k x Between) ≡ d → d ≡ false
      no-wire false g = refl
      no-wire true g =
          let found = part-name p a (part_at k x Between) g in
          absurd (none-passes here e found.0 found.1
          (both (same_node found.0.1.control k) (is_between found.0.1) (ap (λ (t : Part). same_node t.control k) found.2 ∙ node-self k) (ap is_between found.2)))
  net-by k b None None e f h = absurd h

  pub net-of : (k : Node) (b : BitView) → IsIn b (carried here k) → Net k b
  net-of k b h = net-by k b (part_for here k is_between) (part_for here k (λ y. true)) refl refl h
