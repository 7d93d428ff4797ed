-- Where no values of different widths are joined, one bit at most is connected to a pin.
use Rattle.std.proofs.Common.{◌≡◌, ◌⊎◌, ◌≤◌, ◌+◌, ◌==◌, ℕ, Bool, true, false, not, ◌||◌, cond, List, [], ◌∷◌, ◌++◌, map, length, Option, Some, None, inl, inr, refl, sym, ap, ◌∙◌, subst, arith}
use Rattle.std.specs.Prelude.{bytes_eq, flat_map, is_some, if◌then◌else◌}
use Rattle.std.specs.List.{list_any}
use Rattle.std.proofs.lemmas.Bool.{true≢false, eqb-true}
use Rattle.lp_text.specs.Texts.{same_text-true, true-same_text}
use Rattle.lp_model.specs.NetlistView.{BitView, ConnectionView, ConnectionsView, ByName, ByPosition, InstanceView, ModuleView}
use Rattle.lp_model.specs.LibraryView.{PgPinView, PinView, CellView}
use Rattle.lp_spec_design.specs.Keys.{Name}
use Rattle.lp_spec_design.specs.Netlists.{Structure, first, module_named, cell_named, bits_named, connected}
use Rattle.lp_spec_design.specs.Graph.{numbered}
use Rattle.lp_spec_design.specs.Winners.{IsIn}
use Rattle.lp_spec_design.proofs.Members.{in-left, in-map, in-flat, any-in}
use Rattle.lp_spec_bridge.specs.Driven.{JoinsSingleBits}
use Rattle.lp_spec_bridge.proofs.Distinct.{module-in}
use Rattle.lp_spec_faults.specs.Lines.{first_of}
use Rattle.lp_spec_faults.specs.Wires.{ConnectionAt, named_from, placed_from, connections_of, connections_in, has_pg, has_pin, AtConnection, AtAssign, joins_in, width_at, has_other_width, is_uneven, width}

-- ---- lists

fails-all : {A : Type 0} (t : A → Bool) (xs : List A) (x : A) → first t xs ≡ None → IsIn x xs → t x ≡ false
fails-all t [] x none h = absurd h
fails-all {A = A} t (y ∷ xs) x none h = by (t y) refl none h (fails-all t xs x)
  where
    by : (b : Bool) → t y ≡ b → cond b (Some y) (first t xs) ≡ None → (x ≡ y) ⊎ IsIn x xs → (first t xs ≡ None → IsIn x xs → t x ≡ false) → t x ≡ false
    by true e none h rest = absurd cc
    by false e none (inl is) rest = ap t is ∙ e
    by false e none (inr there) rest = rest none there

-- ---- the connection of a name

-- the first of some connections with a name has its bits, where there is one
data Named (m : ModuleView) (x : InstanceView) (n : Name) (bits : List BitView) (cs : List ConnectionAt) : Type 0 where
  Open : bits ≡ [] → Named m x n bits cs
  Joined : (c : ConnectionAt) → IsIn c cs → c.instance ≡ x → (port : Name) → c.name ≡ Some port → port ≡ n → c.bits ≡ bits → Named m x n bits cs

named : (m : ModuleView) (x : InstanceView) (n : Name) (k : ℕ) (before : List Name) (cs : List ConnectionView) → Named m x n (bits_named n cs) (named_from m x k before cs)
named m x n k before [] = Open refl
named m x n k before (c ∷ cs) = by (bytes_eq c.port n) refl (named m x n (k + 1) (before ++ c.port ∷ []) cs)
  where
    later : List ConnectionAt
    later = named_from m x (k + 1) (before ++ c.port ∷ []) cs

    here : ConnectionAt
    here = record { parent = m; instance = x; number = k; name = Some c.port; bits = c.bits; before = before }

    by : (b : Bool) → bytes_eq c.port n ≡ b → Named m x n (bits_named n cs) (named_from m x (k + 1) (before ++ c.port ∷ []) cs) → Named m x n (if b then c.bits else bits_named n cs) (named_from m x k before (c ∷ cs))
    by true e rest = Joined (record { parent = m; instance = x; number = k; name = Some c.port; bits = c.bits; before = before }) (inl refl) refl c.port refl (same_text-true c.port n e) refl
    by false e (Open none) = Open none
    by false e (Joined y there is port name same bits) = Joined y (inr there) is port name same bits

-- what connections join
abbrev joined_by : ModuleView → InstanceView → ConnectionsView → List ConnectionAt
joined_by m x (ByName cs) = named_from m x 1 [] cs
joined_by m x (ByPosition values) = placed_from m x 1 values

connections-are : (m : ModuleView) (x : InstanceView) → connections_of m x ≡ joined_by m x x.connections
connections-are m x = by x.connections
  where
    by : (v : ConnectionsView) → connections_of m (record x { connections = v }) ≡ joined_by m (record x { connections = v }) v
    by (ByName cs) = refl
    by (ByPosition values) = refl

-- ---- one bit

few-bits : (bits : List BitView) → has_other_width (Some 1) bits ≡ false → length bits ≤ 1
few-bits [] e = omega arith
few-bits (b ∷ bits) e = by (length (b ∷ bits) == 1) refl e
  where
    by : (v : Bool) → (length (b ∷ bits) == 1) ≡ v → not v ≡ false → length (b ∷ bits) ≤ 1
    by true same e = let is = eqb-true (length (b ∷ bits)) 1 same in omega (arith, is)
    by false same e = absurd (true≢false e)

no-module : (o : Option ModuleView) (k : Option CellView) (c : CellView) → (if is_some o then None else k) ≡ Some c → (o ≡ None) × (k ≡ Some c)
no-module None k c e = (refl, e)
no-module (Some m) k c e = absurd cc

width-of : (s : Structure) (c : ConnectionAt) (k : CellView) (port : Name) → c.name ≡ Some port → module_named s c.instance.target ≡ None → cell_named s c.instance.target ≡ Some k → has_pin k port ≡ true → width_at s c ≡ Some 1
width-of s c k port name none is has = rw (is, none, name, has) refl

module _ (s : Structure) (even : first_of (width s) ≡ None) where
  -- a connection of a pin
  one-bit : (m : ModuleView) (x : InstanceView) (c : CellView) (n : Name) → IsIn m s.modules → IsIn x m.instances → cell_named s x.target ≡ Some c → has_pin c n ≡ true → length (connected [] n x.connections) ≤ 1
  one-bit m x c n there member cell has = by x.connections refl
    where
      joined : (cs : List ConnectionView) → x.connections ≡ ByName cs → Named m x n (bits_named n cs) (named_from m x 1 [] cs) → length (bits_named n cs) ≤ 1
      joined cs e (Open none) = let count = ap length none in omega (arith, count)
      joined cs e (Joined a inside is port name same bits) =
          let stands : IsIn a (connections_of m x) = subst (IsIn a) (ap (joined_by m x) (sym e) ∙ sym (connections-are m x)) inside in
          let place : IsIn (AtConnection a) (flat_map joins_in s.modules) = in-flat joins_in m (AtConnection a) s.modules there (in-left (AtConnection a) (map (λ c. AtConnection c) (connections_in m)) (map (λ z. AtAssign m z) (numbered 0 m.assigns)) (in-map (λ c. AtConnection c) a (connections_in m) (in-flat (connections_of m) x a m.instances member stands))) in
          let fine : has_other_width (width_at s a) a.bits ≡ false = fails-all (is_uneven s) (flat_map joins_in s.modules) (AtConnection a) even place in
          let found = no-module (module_named s x.target) (first (λ (k : CellView). bytes_eq k.name x.target) s.cells) c cell in
          let one : width_at s a ≡ Some 1 = width-of s a c port name (ap (λ (y : InstanceView). module_named s y.target) is ∙ found.0) (ap (λ (y : InstanceView). cell_named s y.target) is ∙ cell) (ap (has_pin c) same ∙ has) in
          let few = few-bits a.bits (ap (λ w. has_other_width w a.bits) (sym one) ∙ fine) in
          subst (λ (bs : List BitView). length bs ≤ 1) bits few

      by : (v : ConnectionsView) → x.connections ≡ v → length (connected [] n v) ≤ 1
      by (ByName cs) e = joined cs e (named m x n 1 [] cs)
      by (ByPosition values) e = omega arith

  has-or : (a b : Bool) → a ≡ true → (a || b) ≡ true
  has-or true b e = refl
  has-or false b e = absurd (true≢false (sym e))

  or-has : (a b : Bool) → b ≡ true → (a || b) ≡ true
  or-has true b e = refl
  or-has false b e = e

  pub single-bits : JoinsSingleBits s
  single-bits = record {
    pins = λ p m x c q at member cell inside.
        one-bit m x c q.name (module-in s p m at) member cell
        (has-or (list_any (λ (r : PinView). bytes_eq r.name q.name) c.pins) (has_pg c q.name) (any-in (λ (r : PinView). bytes_eq r.name q.name) q c.pins inside (true-same_text q.name q.name refl)));
    pgs = λ p m x c g at member cell inside.
        one-bit m x c g.name (module-in s p m at) member cell
        (or-has (list_any (λ (r : PinView). bytes_eq r.name g.name) c.pins) (has_pg c g.name) (any-in (λ (r : PgPinView). bytes_eq r.name g.name) g c.pgs inside (true-same_text g.name g.name refl)));
  }
