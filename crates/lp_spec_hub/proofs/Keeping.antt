-- One more route changes nothing of the parts that are made: each comes from where it came from.
use Rattle.std.proofs.Common.{◌≡◌, Bool, true, false, cond, ◌||◌, List, [], ◌++◌, inl, inr, refl, sym, ap, ◌∙◌, subst}
use Rattle.std.proofs.lemmas.Bool.{true≢false, false≢true}
use Rattle.lp_spec_design.specs.Keys.{Path, same_path, Node, Inner, Outer, Fixed, Way}
use Rattle.lp_spec_design.specs.Graph.{when}
use Rattle.lp_spec_design.specs.Registers.{is_above}
use Rattle.lp_spec_realises.specs.Projects.{Project}
use Rattle.lp_spec_realises.specs.Implements.{parent_of}
use Rattle.lp_spec_written.specs.Supplies.{common}
use Rattle.lp_spec_written.specs.Routes.{Route, Kind, PortOut, Between, PortIn, Part, has_part, parts_by, parts_to, parts_of, new_among}
use Rattle.lp_spec_hub.specs.Spots.{OfNode, Routed, FromSpot, Done, with_parts}
use Rattle.lp_spec_hub.specs.Drives.{is_fixed, own_instance, toward, part_at, part_in, control_spot, part_from, drive_part, drive}
use Rattle.lp_spec_hub.specs.Entries.{carries, IsRouted, StandsAside}
use Rattle.lp_spec_hub.proofs.Paths.{above-both, common-left, common-most, UpTo}
use Rattle.lp_spec_hub.proofs.Routes.{after-made, after-either, append-none, of-out, of-between, of-in}

module _ (made : List Part) (sound : IsRouted made) (aside : StandsAside made) (k : Node) (x : Path) where
  abbrev all : List Part
  all = made ++ new_among made (parts_by made k (own_instance k) (common (own_instance k) x) x)

  abbrev route : List Part
  route = parts_by made k (own_instance k) (common (own_instance k) x) x

  unchanged : (t : Part) → (has_part route t ≡ true → has_part made t ≡ true) → has_part all t ≡ has_part made t
  unchanged t none = by (has_part made t) (has_part all t) refl refl
    where
      by : (b c : Bool) → has_part made t ≡ b → has_part all t ≡ c → c ≡ b
      by true true old new = refl
      by true false old new = absurd (true≢false (sym (after-made made route t old) ∙ new))
      by false false old new = refl
      by false true old new = elim (after-either made route t new) [ inl h ↦ absurd (true≢false (sym h ∙ old)) | inr h ↦ absurd (true≢false (sym (none h) ∙ old)) ]

  -- no wire is made where there is an output port
  same-wire : (j : Node) (y : Path) → has_part made (part_at j y PortOut) ≡ true → has_part all (part_at j y Between) ≡ has_part made (part_at j y Between)
  same-wire j y out = unchanged (part_at j y Between) (λ h.
      let found = of-between made sound k x j y h in
      absurd (true≢false (sym out ∙ (ap (λ i. has_part made (part_at i y PortOut)) found.0 ∙ (ap (λ z. has_part made (part_at k z PortOut)) found.1 ∙ found.3)))))

  -- nor a wire or an output port where there is an input port
  no-wire : (j : Node) (y : Path) → is_above y (own_instance j) ≡ false → has_part all (part_at j y Between) ≡ has_part made (part_at j y Between)
  no-wire j y away = unchanged (part_at j y Between) (λ h.
      let found = of-between made sound k x j y h in
      absurd (true≢false (sym (common-left (own_instance k) x) ∙ (ap (λ z. is_above z (own_instance k)) (sym found.1) ∙ (ap (λ i. is_above y (own_instance i)) (sym found.0) ∙ away)))))

  no-out : (j : Node) (y : Path) → is_above y (own_instance j) ≡ false → has_part all (part_at j y PortOut) ≡ has_part made (part_at j y PortOut)
  no-out j y away = unchanged (part_at j y PortOut) (λ h.
      let found = of-out made sound k x j y h in
      absurd (true≢false (sym found.1.over ∙ (ap (λ i. is_above y (own_instance i)) (sym found.0) ∙ away))))

  abbrev kind_by : Bool → Bool → Kind
  kind_by wire out = cond wire Between (cond out PortOut PortIn)

  same-kind : (j : Node) (y : Path) → (has_part made (part_at j y Between) || (has_part made (part_at j y PortOut) || has_part made (part_at j y PortIn))) ≡ true
      → kind_by (has_part all (part_at j y Between)) (has_part all (part_at j y PortOut)) ≡ kind_by (has_part made (part_at j y Between)) (has_part made (part_at j y PortOut))
  same-kind j y h = by (has_part made (part_at j y Between)) (has_part made (part_at j y PortOut)) (has_part made (part_at j y PortIn)) refl refl refl h
    where
      by : (b c d : Bool) → has_part made (part_at j y Between) ≡ b → has_part made (part_at j y PortOut) ≡ c → has_part made (part_at j y PortIn) ≡ d → (b || (c || d)) ≡ true
          → kind_by (has_part all (part_at j y Between)) (has_part all (part_at j y PortOut)) ≡ kind_by b c
      by true c d wire out inward h = ap (λ e. kind_by e (has_part all (part_at j y PortOut))) (after-made made route (part_at j y Between) wire)
      by false true d wire out inward h = ap (λ e. kind_by e (has_part all (part_at j y PortOut))) (same-wire j y out ∙ wire) ∙ ap (kind_by false) (after-made made route (part_at j y PortOut) out)
      by false false true wire out inward h =
          let away = aside j y inward in
          ap (λ e. kind_by e (has_part all (part_at j y PortOut))) (no-wire j y away ∙ wire) ∙ ap (kind_by false) (no-out j y away ∙ out)
      by false false false wire out inward h = absurd (false≢true h)

  -- where a control is in an instance to which it has come
  same-spot : (j : Node) (y : Path) → carries made j y ≡ true → control_spot all j y ≡ control_spot made j y
  same-spot j y h = by (is_fixed j || same_path (own_instance j) y) h
    where
      by : (b : Bool) → (b || (has_part made (part_at j y Between) || (has_part made (part_at j y PortOut) || has_part made (part_at j y PortIn)))) ≡ true
          → cond b (OfNode j) (Routed (part_in all j y)) ≡ cond b (OfNode j) (Routed (part_in made j y))
      by true h = refl
      by false h = ap (λ kind. Routed (part_at j y kind)) (same-kind j y h)

  same-from : (j : Node) (y : Path) (kind : Kind) → has_part made (part_at j y kind) ≡ true → part_from all j y kind ≡ part_from made j y kind
  same-from j y PortOut h = ap (λ b. cond (same_path (own_instance j) y) (OfNode j) (cond b (Routed (part_at j y Between)) (Routed (part_at j (toward (own_instance j) y) PortOut)))) (same-wire j y h)
  same-from j y Between h = refl
  same-from j y PortIn h =
      let down = sound.down j y h in
      let parent : parent_of y ≡ down.parent = ap parent_of down.is in
      same-spot j (parent_of y) (ap (carries made j) parent ∙ down.above)

  same-drive : (t : Part) → has_part made t ≡ true → drive_part all t ≡ drive_part made t
  same-drive t h =
      ap (λ b. when b (FromSpot (part_from all t.control t.path t.kind))) (after-made made route t h ∙ sym h)
      ∙ ap (λ y. when (has_part made t) (FromSpot y)) (same-from t.control t.path t.kind h)

  aside-after : StandsAside all
  aside-after j y h = elim (after-either made route (part_at j y PortIn) h) [
    | inl old ↦ aside j y old
    | inr new ↦ let found = of-in made sound k x j y new in ap (λ i. is_above y (own_instance i)) found.0 ∙ by (is_above y (own_instance k)) refl found.1
  ]
    where
      by : (b : Bool) → is_above y (own_instance k) ≡ b → UpTo x (common (own_instance k) x) y → b ≡ false
      by false e up = refl
      by true e up = absurd (up.strictly (sym (above-both (common (own_instance k) x) y up.under (common-most y (own_instance k) x e up.over))))

none-aside : StandsAside []
none-aside k x h = absurd (false≢true h)

one-keeps : (made : List Part) (k : Node) (x : Path) → IsRouted made → StandsAside made → (t : Part) → has_part made t ≡ true → drive_part (made ++ new_among made (parts_to made x k)) t ≡ drive_part made t
one-keeps made (Inner n i own) x sound aside t h = same-drive made sound aside (Inner n i own) x t h
one-keeps made (Outer n i) x sound aside t h = ap (λ r. drive_part r t) (append-none made)
one-keeps made (Fixed b) x sound aside t h = ap (λ r. drive_part r t) (append-none made)

one-aside : (made : List Part) (k : Node) (x : Path) → IsRouted made → StandsAside made → StandsAside (made ++ new_among made (parts_to made x k))
one-aside made (Inner n i own) x sound aside = aside-after made sound aside (Inner n i own) x
one-aside made (Outer n i) x sound aside = subst StandsAside (sym (append-none made)) aside
one-aside made (Fixed b) x sound aside = subst StandsAside (sym (append-none made)) aside

pub aside-law : StandsAside [] × ((made : List Part) (r : Route) → IsRouted made → StandsAside made → StandsAside (made ++ new_among made (parts_of made r)))
aside-law = (none-aside, λ made r sound aside. one-aside made r.0 r.1 sound aside)

pub keeps : (p : Project) (a : Done) (from : Way → Node) (r : Route) → IsRouted a.parts → StandsAside a.parts → (t : Part) → has_part a.parts t ≡ true → drive p (with_parts a (new_among a.parts (parts_of a.parts r))) from (Routed t) ≡ drive p a from (Routed t)
keeps p a from r sound aside t h = one-keeps a.parts r.0 r.1 sound aside t h
