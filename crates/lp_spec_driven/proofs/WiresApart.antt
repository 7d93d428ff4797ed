-- Two wires that are there and have one net bit are one.
use Rattle.std.proofs.Common.{◌≡◌, ◌⊎◌, ℕ, Bool, true, false, Option, Some, None, inl, inr, refl, sym, ◌∙◌, ap, subst}
use Rattle.std.specs.Prelude.{slice_get, if◌then◌else◌}
use Rattle.lp_spec_design.specs.Keys.{Name, Path, Node, Inner, Outer, Fixed, Way}
use Rattle.lp_spec_faults.specs.Modules as modules
use Rattle.lp_spec_realises.specs.Projects.{Project}
use Rattle.lp_spec_written.specs.Places.{Standing}
use Rattle.lp_spec_written.specs.Routes.{Part, has_part}
use Rattle.lp_spec_written.specs.Written.{Additions}
use Rattle.lp_spec_hub.specs.Spots.{Spot, OfNode, Behind, Before, Lead, Carried, Routed, on_way, own_spot}
use Rattle.lp_spec_wired.specs.Names.{name_by}
use Rattle.lp_spec_wired.proofs.Wires.{own, name-is, lead-name, made-is, made_node, operator-wires-apart, leads-not-made, leads-apart}
use Rattle.lp_spec_wired.proofs.Bits.{node-by, node-names-apart, node-names-not-made, node-names-not-led}
use Rattle.lp_spec_wired.proofs.Others.{part-name, controls-apart, supply-name, supplies-no-others, controls-no-others, controls-not-supplies, supplies-apart}
use Rattle.lp_spec_driven.specs.Wires.{MakesWire, HasLead, GoesByNet, IsFreeNode, IsThere}
use Rattle.lp_spec_driven.specs.Sound.{HasNames}
use Rattle.lp_spec_driven.specs.Laws.{WiresAreApart}

-- what a wire is: a net bit of the source, what an operator makes, a constant's own net, a supply, a control, an outer side or a constant
pub record AsBit (x : Spot) : Type 0 where
  pub net : Name
  pub index : Option ℕ
  pub path : Path
  pub free : modules.is_own net ≡ false
  pub is : x ≡ OfNode (Inner net index path)

pub record AsMade (a : Additions) (x : Spot) : Type 0 where
  pub way : Way
  pub number : ℕ
  pub operator : Standing
  pub at : slice_get (on_way a.plan.operators way) number ≡ Some operator
  pub is : x ≡ own_spot way number operator

pub record AsLead (p : Project) (a : Additions) (x : Spot) : Type 0 where
  pub way : Way
  pub has : HasLead p a way
  pub is : x ≡ Lead way

pub record AsSupply (p : Project) (a : Additions) (x : Spot) : Type 0 where
  pub origin : ℕ
  pub path : Path
  pub net : GoesByNet p a origin
  pub is : x ≡ Carried origin path

pub record AsControl (a : Additions) (x : Spot) : Type 0 where
  pub part : Part
  pub has : has_part a.controls part ≡ true
  pub is : x ≡ Routed part

pub record AsOuter (p : Project) (a : Additions) (x : Spot) : Type 0 where
  pub node : Node
  pub is : x ≡ OfNode node
  pub name : name_by p a x ≡ node
  pub outer : (n : Name) (i : Option ℕ) (y : Path) → node ≡ Inner n i y → ⊥

abbrev pub KindOf : Project → Additions → Spot → Type 0
KindOf p a x = AsOuter p a x ⊎ (AsBit x ⊎ (AsMade a x ⊎ (AsLead p a x ⊎ (AsSupply p a x ⊎ AsControl a x))))

pub record HasInner (p : Project) (a : Additions) (x : Spot) : Type 0 where
  pub net : Name
  pub index : Option ℕ
  pub path : Path
  pub is : name_by p a x ≡ Inner net index path

module _ (p : Project) (a : Additions) (has : HasNames p a) where
  made-of : (w : Way) (k : ℕ) (b : Bool) (m : MakesWire a w k b) → (if b then Before w k else Behind w k) ≡ own_spot w k m.operator
  made-of w k b m = ap (λ t. if t then Before w k else Behind w k) (sym m.side)

  node-kind : (k : Node) → IsFreeNode k → KindOf p a (OfNode k)
  node-kind (Inner n i x) h = inr (inl (record { net = n; index = i; path = x; free = h; is = refl }))
  node-kind (Outer n i) h = inl (record { node = Outer n i; is = refl; name = refl; outer = λ m j y e. absurd cc })
  node-kind (Fixed b) h = inl (record { node = Fixed b; is = refl; name = refl; outer = λ m j y e. absurd cc })

  pub kind-of : (x : Spot) → IsThere p a x → KindOf p a x
  kind-of (OfNode k) h = node-kind k h
  kind-of (Behind w k) h = inr (inr (inl (record { way = w; number = k; operator = h.operator; at = h.at; is = made-of w k false h })))
  kind-of (Before w k) h = inr (inr (inl (record { way = w; number = k; operator = h.operator; at = h.at; is = made-of w k true h })))
  kind-of (Lead w) h = inr (inr (inr (inl (record { way = w; has = h; is = refl }))))
  kind-of (Carried o x) h = inr (inr (inr (inr (inl (record { origin = o; path = x; net = h; is = refl })))))
  kind-of (Routed t) h = inr (inr (inr (inr (inr (record { part = t; has = h; is = refl })))))

  -- ---- each but outer sides and constants has a net bit of an instance

  bit-inner : (n : Name) (i : Option ℕ) (x : Path) → HasInner p a (OfNode (Inner n i x))
  bit-inner n i x = elim (node-by p a has.chains n i x) [
    | inl u ↦ record { net = _; index = _; path = _; is = u.is }
    | inr u ↦ record { net = _; index = _; path = _; is = u.is }
  ]

  made-inner : (w : Way) (k : ℕ) (o : Standing) → slice_get (on_way a.plan.operators w) k ≡ Some o → HasInner p a (own_spot w k o)
  made-inner w k o e =
      let its = own p a has.chains has.stand has.bits w k o e in
      let named : name_by p a (own_spot w k o) ≡ made_node p a has.chains has.stand has.bits w k o e = name-is p a has.chains has.stand has.bits w k o e its in
      elim (made-is p a has.chains has.stand has.bits w k o e) [
        | inl v ↦ record { net = _; index = _; path = _; is = named ∙ v.is }
        | inr v ↦ record { net = _; index = _; path = _; is = named ∙ v.is }
      ]

  lead-inner : (w : Way) (h : HasLead p a w) → HasInner p a (Lead w)
  lead-inner w h =
      let its = own p a has.chains has.stand has.bits w 0 h.operator h.at in
      record { net = _; index = _; path = _; is = (lead-name p a has.chains has.stand has.bits has.nets w w 0 h.operator h.operator h.at h.at h.leads its).1 }

  supply-inner : (o : ℕ) (x : Path) (h : GoesByNet p a o) → HasInner p a (Carried o x)
  supply-inner o x h = record { net = h.net; index = None; path = x; is = supply-name p a o h.net x h.bits }

  control-inner : (t : Part) → has_part a.controls t ≡ true → HasInner p a (Routed t)
  control-inner t h = record { net = _; index = _; path = _; is = (part-name p a t h).3 }

  abbrev Inside : Spot → Type 0
  Inside x = AsBit x ⊎ (AsMade a x ⊎ (AsLead p a x ⊎ (AsSupply p a x ⊎ AsControl a x)))

  inner-of : (x : Spot) → Inside x → HasInner p a x
  inner-of x (inl b) = subst (HasInner p a) (sym b.is) (bit-inner b.net b.index b.path)
  inner-of x (inr (inl m)) = subst (HasInner p a) (sym m.is) (made-inner m.way m.number m.operator m.at)
  inner-of x (inr (inr (inl l))) = subst (HasInner p a) (sym l.is) (lead-inner l.way l.has)
  inner-of x (inr (inr (inr (inl s)))) = subst (HasInner p a) (sym s.is) (supply-inner s.origin s.path s.net)
  inner-of x (inr (inr (inr (inr c)))) = subst (HasInner p a) (sym c.is) (control-inner c.part c.has)

  -- ---- two of one net bit

  abbrev Same : Spot → Spot → Type 0
  Same x y = name_by p a x ≡ name_by p a y

  outer-outer : (x y : Spot) → AsOuter p a x → AsOuter p a y → Same x y → x ≡ y
  outer-outer x y u v e = u.is ∙ (ap (λ k. OfNode k) (sym u.name ∙ (e ∙ v.name)) ∙ sym v.is)

  outer-inside : (x y : Spot) → AsOuter p a x → Inside y → Same x y → ⊥
  outer-inside x y u v e = let i = inner-of y v in u.outer i.net i.index i.path (sym u.name ∙ (e ∙ i.is))

  moved : (x u y v : Spot) → x ≡ u → y ≡ v → Same x y → Same u v
  moved x u y v s t e = ap (name_by p a) (sym s) ∙ (e ∙ ap (name_by p a) t)

  bit-bit : (x y : Spot) → AsBit x → AsBit y → Same x y → x ≡ y
  bit-bit x y u v e =
      u.is ∙ (ap (λ k. OfNode k) (node-names-apart p a has.chains has.nets u.net v.net u.index v.index u.path v.path u.free v.free (moved x _ y _ u.is v.is e)) ∙ sym v.is)

  bit-made : (x y : Spot) → AsBit x → AsMade a y → Same x y → ⊥
  bit-made x y u v e = node-names-not-made p a has.chains has.stand has.bits has.nets u.net u.index u.path u.free v.way v.number v.operator v.at (moved x _ y _ u.is v.is e)

  bit-lead : (x y : Spot) → AsBit x → AsLead p a y → Same x y → ⊥
  bit-lead x y u v e = node-names-not-led p a has.chains has.stand has.bits has.nets u.net u.index u.path u.free v.way v.has.operator v.has.at v.has.leads (moved x _ y _ u.is v.is e)

  bit-supply : (x y : Spot) → AsBit x → AsSupply p a y → Same x y → ⊥
  bit-supply x y u v e =
      (supplies-no-others p a has.chains has.stand has.bits has.nets v.origin v.net.net v.net.bits v.path).source u.net u.index u.path u.free (moved x _ y _ u.is v.is e)

  bit-control : (x y : Spot) → AsBit x → AsControl a y → Same x y → ⊥
  bit-control x y u v e = (controls-no-others p a has.chains has.stand has.bits has.nets v.part v.has).source u.net u.index u.path u.free (moved x _ y _ u.is v.is e)

  made-made : (x y : Spot) → AsMade a x → AsMade a y → Same x y → x ≡ y
  made-made x y u v e =
      let found = operator-wires-apart p a has.chains has.stand has.bits has.nets u.way v.way u.number v.number u.operator v.operator u.at v.at (moved x _ y _ u.is v.is e) in
      let same : Some u.operator ≡ Some v.operator = sym u.at ∙ (ap (λ w. slice_get (on_way a.plan.operators w) u.number) found.0 ∙ (ap (slice_get (on_way a.plan.operators v.way)) found.1 ∙ v.at)) in
      let one : u.operator ≡ v.operator = cc in
      u.is ∙ (ap (λ w. own_spot w u.number u.operator) found.0 ∙ (ap (λ k. own_spot v.way k u.operator) found.1 ∙ (ap (own_spot v.way v.number) one ∙ sym v.is)))

  made-lead : (x y : Spot) → AsMade a x → AsLead p a y → Same x y → ⊥
  made-lead x y u v e = leads-not-made p a has.chains has.stand has.bits has.nets v.way u.way u.number v.has.operator u.operator v.has.at u.at v.has.leads (sym (moved x _ y _ u.is v.is e))

  made-supply : (x y : Spot) → AsMade a x → AsSupply p a y → Same x y → ⊥
  made-supply x y u v e = (supplies-no-others p a has.chains has.stand has.bits has.nets v.origin v.net.net v.net.bits v.path).made u.way u.number u.operator u.at (moved x _ y _ u.is v.is e)

  made-control : (x y : Spot) → AsMade a x → AsControl a y → Same x y → ⊥
  made-control x y u v e = (controls-no-others p a has.chains has.stand has.bits has.nets v.part v.has).made u.way u.number u.operator u.at (moved x _ y _ u.is v.is e)

  lead-lead : (x y : Spot) → AsLead p a x → AsLead p a y → Same x y → x ≡ y
  lead-lead x y u v e =
      u.is ∙ (ap (λ w. Lead w) (leads-apart p a has.chains has.stand has.bits has.nets u.way v.way u.has.operator v.has.operator u.has.at v.has.at u.has.leads v.has.leads (moved x _ y _ u.is v.is e)) ∙ sym v.is)

  lead-supply : (x y : Spot) → AsLead p a x → AsSupply p a y → Same x y → ⊥
  lead-supply x y u v e = (supplies-no-others p a has.chains has.stand has.bits has.nets v.origin v.net.net v.net.bits v.path).led u.way u.has.operator u.has.at u.has.leads (moved x _ y _ u.is v.is e)

  lead-control : (x y : Spot) → AsLead p a x → AsControl a y → Same x y → ⊥
  lead-control x y u v e = (controls-no-others p a has.chains has.stand has.bits has.nets v.part v.has).led u.way u.has.operator u.has.at u.has.leads (moved x _ y _ u.is v.is e)

  supply-supply : (x y : Spot) → AsSupply p a x → AsSupply p a y → Same x y → x ≡ y
  supply-supply x y u v e =
      let found = supplies-apart p a has.supplies u.origin v.origin u.net.net v.net.net u.net.bits v.net.bits u.path v.path (moved x _ y _ u.is v.is e) in
      u.is ∙ (ap (λ o. Carried o u.path) found.0 ∙ (ap (Carried v.origin) found.1 ∙ sym v.is))

  supply-control : (x y : Spot) → AsSupply p a x → AsControl a y → Same x y → ⊥
  supply-control x y u v e = controls-not-supplies p a u.origin u.net.net u.net.bits u.path v.part v.has (moved x _ y _ u.is v.is e)

  control-control : (x y : Spot) → AsControl a x → AsControl a y → Same x y → x ≡ y
  control-control x y u v e = u.is ∙ (ap (λ t. Routed t) (controls-apart p a has.controls u.part v.part u.has v.has (moved x _ y _ u.is v.is e)) ∙ sym v.is)

  by-kinds : (x y : Spot) → KindOf p a x → KindOf p a y → Same x y → x ≡ y
  by-kinds x y (inl u) (inl v) e = outer-outer x y u v e
  by-kinds x y (inl u) (inr v) e = absurd (outer-inside x y u v e)
  by-kinds x y (inr u) (inl v) e = absurd (outer-inside y x v u (sym e))
  by-kinds x y (inr (inl u)) (inr (inl v)) e = bit-bit x y u v e
  by-kinds x y (inr (inl u)) (inr (inr (inl v))) e = absurd (bit-made x y u v e)
  by-kinds x y (inr (inl u)) (inr (inr (inr (inl v)))) e = absurd (bit-lead x y u v e)
  by-kinds x y (inr (inl u)) (inr (inr (inr (inr (inl v))))) e = absurd (bit-supply x y u v e)
  by-kinds x y (inr (inl u)) (inr (inr (inr (inr (inr v))))) e = absurd (bit-control x y u v e)
  by-kinds x y (inr (inr (inl u))) (inr (inl v)) e = absurd (bit-made y x v u (sym e))
  by-kinds x y (inr (inr (inl u))) (inr (inr (inl v))) e = made-made x y u v e
  by-kinds x y (inr (inr (inl u))) (inr (inr (inr (inl v)))) e = absurd (made-lead x y u v e)
  by-kinds x y (inr (inr (inl u))) (inr (inr (inr (inr (inl v))))) e = absurd (made-supply x y u v e)
  by-kinds x y (inr (inr (inl u))) (inr (inr (inr (inr (inr v))))) e = absurd (made-control x y u v e)
  by-kinds x y (inr (inr (inr (inl u)))) (inr (inl v)) e = absurd (bit-lead y x v u (sym e))
  by-kinds x y (inr (inr (inr (inl u)))) (inr (inr (inl v))) e = absurd (made-lead y x v u (sym e))
  by-kinds x y (inr (inr (inr (inl u)))) (inr (inr (inr (inl v)))) e = lead-lead x y u v e
  by-kinds x y (inr (inr (inr (inl u)))) (inr (inr (inr (inr (inl v))))) e = absurd (lead-supply x y u v e)
  by-kinds x y (inr (inr (inr (inl u)))) (inr (inr (inr (inr (inr v))))) e = absurd (lead-control x y u v e)
  by-kinds x y (inr (inr (inr (inr (inl u))))) (inr (inl v)) e = absurd (bit-supply y x v u (sym e))
  by-kinds x y (inr (inr (inr (inr (inl u))))) (inr (inr (inl v))) e = absurd (made-supply y x v u (sym e))
  by-kinds x y (inr (inr (inr (inr (inl u))))) (inr (inr (inr (inl v)))) e = absurd (lead-supply y x v u (sym e))
  by-kinds x y (inr (inr (inr (inr (inl u))))) (inr (inr (inr (inr (inl v))))) e = supply-supply x y u v e
  by-kinds x y (inr (inr (inr (inr (inl u))))) (inr (inr (inr (inr (inr v))))) e = absurd (supply-control x y u v e)
  by-kinds x y (inr (inr (inr (inr (inr u))))) (inr (inl v)) e = absurd (bit-control y x v u (sym e))
  by-kinds x y (inr (inr (inr (inr (inr u))))) (inr (inr (inl v))) e = absurd (made-control y x v u (sym e))
  by-kinds x y (inr (inr (inr (inr (inr u))))) (inr (inr (inr (inl v)))) e = absurd (lead-control y x v u (sym e))
  by-kinds x y (inr (inr (inr (inr (inr u))))) (inr (inr (inr (inr (inl v))))) e = absurd (supply-control y x v u (sym e))
  by-kinds x y (inr (inr (inr (inr (inr u))))) (inr (inr (inr (inr (inr v))))) e = control-control x y u v e

pub wires-apart : WiresAreApart
wires-apart p a has x y h g e = by-kinds p a has x y (kind-of p a has x h) (kind-of p a has y g) e
