-- Parts of modules that pass the tests of equality are equal.
use Rattle.std.proofs.Common.{◌≡◌, ℕ, suc, Bool, true, false, ◌&&◌, ◌==◌, List, [], ◌∷◌, Option, Some, None, refl, sym, ap, ◌∙◌}
use Rattle.std.specs.Prelude.{bytes_eq}
use Rattle.std.proofs.lemmas.Bool.{false≢true, eqb-true, eq-eqb}
use Rattle.lp_model.specs.declared.netlist.BitRange.{BitRange}
use Rattle.lp_model.specs.declared.netlist.Direction.{Direction}
use Rattle.lp_model.specs.declared.netlist.Direction.TheVariants.{Input, Output}
use Rattle.lp_model.specs.NetlistView.{BitView, NetBit, SelectBit, ConstBit, PortView, NetView, ConnectionView, ConnectionsView, ByName, ByPosition, InstanceView, AssignView, ModuleView}
use Rattle.lp_spec_design.specs.Keys.{same_bool}
use Rattle.lp_spec_design.specs.Netlists.{is_input}
use Rattle.lp_spec_design.specs.Reads.{one, other, both, name-true, name-self}
use Rattle.lp_spec_written.specs.Nets.{same_bit}
use Rattle.lp_spec_written.specs.Shared.{same_list, same_range, same_port, same_net, same_connection, same_connections, same_assign, same_target, same_instance, same_content}

pub lists-true : {A : Type 0} (same : A → A → Bool) → ((x y : A) → same x y ≡ true → x ≡ y) → (xs ys : List A) → same_list same xs ys ≡ true → xs ≡ ys
lists-true same tells [] [] e = refl
lists-true same tells [] (y ∷ ys) e = absurd (false≢true e)
lists-true same tells (x ∷ xs) [] e = absurd (false≢true e)
lists-true same tells (x ∷ xs) (y ∷ ys) e =
    let head = tells x y (one (same x y) (same_list same xs ys) e) in
    let tail = lists-true same tells xs ys (other (same x y) (same_list same xs ys) e) in
    λ r. head r ∷ tail r

bool-true : (a b : Bool) → same_bool a b ≡ true → a ≡ b
bool-true true b e = sym e
bool-true false true e = absurd (false≢true e)
bool-true false false e = refl

range-true : (a b : Option BitRange) → same_range a b ≡ true → a ≡ b
range-true None None e = refl
range-true None (Some b) e = absurd (false≢true e)
range-true (Some a) None e = absurd (false≢true e)
range-true (Some a) (Some b) e =
    let left = eqb-true a.left b.left (one (a.left == b.left) (a.right == b.right) e) in
    let right = eqb-true a.right b.right (other (a.left == b.left) (a.right == b.right) e) in
    λ r. Some (record { left = left r; right = right r })

direction-true : (a b : PortView) → same_bool (is_input a) (is_input b) ≡ true → a.direction ≡ b.direction
direction-true a b t = by a.direction b.direction refl refl
  where
    differ : (d e : Direction) → a.direction ≡ d → b.direction ≡ e → same_bool (is_input (record a { direction = d })) (is_input (record b { direction = e })) ≡ true
    differ d e f g = ap (λ z. same_bool (is_input (record a { direction = z })) (is_input (record b { direction = e }))) (sym f) ∙ (ap (λ z. same_bool (is_input a) (is_input (record b { direction = z }))) (sym g) ∙ t)

    by : (d e : Direction) → a.direction ≡ d → b.direction ≡ e → a.direction ≡ b.direction
    by Input Input f g = f ∙ sym g
    by Output Output f g = f ∙ sym g
    by Input Output f g = absurd (false≢true (differ Input Output f g))
    by Output Input f g = absurd (false≢true (differ Output Input f g))

port-true : (a b : PortView) → same_port a b ≡ true → a ≡ b
port-true a b e =
    let rest = other (bytes_eq a.name b.name) (same_bool (is_input a) (is_input b) && same_range a.range b.range) e in
    let name = name-true a.name b.name (one (bytes_eq a.name b.name) (same_bool (is_input a) (is_input b) && same_range a.range b.range) e) in
    let direction = direction-true a b (one (same_bool (is_input a) (is_input b)) (same_range a.range b.range) rest) in
    let range = range-true a.range b.range (other (same_bool (is_input a) (is_input b)) (same_range a.range b.range) rest) in
    λ r. record { name = name r; direction = direction r; range = range r }

net-true : (a b : NetView) → same_net a b ≡ true → a ≡ b
net-true a b e =
    let name = name-true a.name b.name (one (bytes_eq a.name b.name) (same_range a.range b.range) e) in
    let range = range-true a.range b.range (other (bytes_eq a.name b.name) (same_range a.range b.range) e) in
    λ r. record { name = name r; range = range r }

bit-true : (a b : BitView) → same_bit a b ≡ true → a ≡ b
bit-true (NetBit m) (NetBit n) e = ap (λ k. NetBit k) (name-true m n e)
bit-true (SelectBit m i) (SelectBit n j) e =
    let name = name-true m n (other (i == j) (bytes_eq m n) e) in
    let index = eqb-true i j (one (i == j) (bytes_eq m n) e) in
    λ r. SelectBit (name r) (index r)
bit-true (ConstBit a) (ConstBit b) e = ap (λ c. ConstBit c) (bool-true a b e)
bit-true (NetBit m) (SelectBit n j) e = absurd (false≢true e)
bit-true (NetBit m) (ConstBit b) e = absurd (false≢true e)
bit-true (SelectBit m i) (NetBit n) e = absurd (false≢true e)
bit-true (SelectBit m i) (ConstBit b) e = absurd (false≢true e)
bit-true (ConstBit a) (NetBit n) e = absurd (false≢true e)
bit-true (ConstBit a) (SelectBit n j) e = absurd (false≢true e)

connection-true : (a b : ConnectionView) → same_connection a b ≡ true → a ≡ b
connection-true a b e =
    let port = name-true a.port b.port (one (bytes_eq a.port b.port) (same_list same_bit a.bits b.bits) e) in
    let bits = lists-true same_bit bit-true a.bits b.bits (other (bytes_eq a.port b.port) (same_list same_bit a.bits b.bits) e) in
    λ r. record { port = port r; bits = bits r }

pub connections-true : (a b : ConnectionsView) → same_connections a b ≡ true → a ≡ b
connections-true (ByName cs) (ByName ds) e = ap (λ k. ByName k) (lists-true same_connection connection-true cs ds e)
connections-true (ByPosition vs) (ByPosition ws) e = ap (λ k. ByPosition k) (lists-true (same_list same_bit) (lists-true same_bit bit-true) vs ws e)
connections-true (ByName cs) (ByPosition ws) e = absurd (false≢true e)
connections-true (ByPosition vs) (ByName ds) e = absurd (false≢true e)

assign-true : (a b : AssignView) → same_assign a b ≡ true → a ≡ b
assign-true a b e =
    let left = lists-true same_bit bit-true a.left b.left (one (same_list same_bit a.left b.left) (same_list same_bit a.right b.right) e) in
    let right = lists-true same_bit bit-true a.right b.right (other (same_list same_bit a.left b.left) (same_list same_bit a.right b.right) e) in
    λ r. record { left = left r; right = right r }

-- ---- instances

module _ (same : ModuleView → ModuleView → Bool) (modules : List ModuleView) where
  pub record AreAlike (x y : InstanceView) : Type 0 where
    pub name : x.name ≡ y.name
    pub target : same_target same modules x.target y.target ≡ true
    pub connections : x.connections ≡ y.connections

  pub alike : (x y : InstanceView) → same_instance same modules x y ≡ true → AreAlike x y
  alike x y e =
      let rest = other (bytes_eq x.name y.name) (same_target same modules x.target y.target && same_connections x.connections y.connections) e in
      record {
        name = name-true x.name y.name (one (bytes_eq x.name y.name) (same_target same modules x.target y.target && same_connections x.connections y.connections) e);
        target = one (same_target same modules x.target y.target) (same_connections x.connections y.connections) rest;
        connections = connections-true x.connections y.connections (other (same_target same modules x.target y.target) (same_connections x.connections y.connections) rest);
      }

-- ---- modules

pub record HaveOneContent (modules : List ModuleView) (depth : ℕ) (a b : ModuleView) : Type 0 where
  pub ports : a.ports ≡ b.ports
  pub nets : a.nets ≡ b.nets
  pub instances : same_list (same_instance (same_content modules depth) modules) a.instances b.instances ≡ true
  pub assigns : a.assigns ≡ b.assigns

pub content-parts : (modules : List ModuleView) (depth : ℕ) (a b : ModuleView) → same_content modules (suc depth) a b ≡ true → HaveOneContent modules depth a b
content-parts modules depth a b e =
    let ports = same_list same_port a.ports b.ports in
    let nets = same_list same_net a.nets b.nets in
    let instances = same_list (same_instance (same_content modules depth) modules) a.instances b.instances in
    let assigns = same_list same_assign a.assigns b.assigns in
    let first = other ports (nets && (instances && assigns)) e in
    let second = other nets (instances && assigns) first in
    record {
      ports = lists-true same_port port-true a.ports b.ports (one ports (nets && (instances && assigns)) e);
      nets = lists-true same_net net-true a.nets b.nets (one nets (instances && assigns) first);
      instances = one instances assigns second;
      assigns = lists-true same_assign assign-true a.assigns b.assigns (other instances assigns second);
    }

-- ---- and back

list-self : {A : Type 0} (same : A → A → Bool) → ((x : A) → same x x ≡ true) → (xs : List A) → same_list same xs xs ≡ true
list-self same self [] = refl
list-self same self (x ∷ xs) = both (same x x) (same_list same xs xs) (self x) (list-self same self xs)

bool-self : (b : Bool) → same_bool b b ≡ true
bool-self true = refl
bool-self false = refl

range-self : (r : Option BitRange) → same_range r r ≡ true
range-self None = refl
range-self (Some r) = both (r.left == r.left) (r.right == r.right) (eq-eqb r.left r.left refl) (eq-eqb r.right r.right refl)

port-self : (a : PortView) → same_port a a ≡ true
port-self a = both (bytes_eq a.name a.name) (same_bool (is_input a) (is_input a) && same_range a.range a.range) (name-self a.name) (both (same_bool (is_input a) (is_input a)) (same_range a.range a.range) (bool-self (is_input a)) (range-self a.range))

net-self : (a : NetView) → same_net a a ≡ true
net-self a = both (bytes_eq a.name a.name) (same_range a.range a.range) (name-self a.name) (range-self a.range)

bit-self : (b : BitView) → same_bit b b ≡ true
bit-self (NetBit n) = name-self n
bit-self (SelectBit n i) = both (i == i) (bytes_eq n n) (eq-eqb i i refl) (name-self n)
bit-self (ConstBit c) = bool-self c

connection-self : (c : ConnectionView) → same_connection c c ≡ true
connection-self c = both (bytes_eq c.port c.port) (same_list same_bit c.bits c.bits) (name-self c.port) (list-self same_bit bit-self c.bits)

connections-self : (cs : ConnectionsView) → same_connections cs cs ≡ true
connections-self (ByName cs) = list-self same_connection connection-self cs
connections-self (ByPosition values) = list-self (same_list same_bit) (list-self same_bit bit-self) values

assign-self : (a : AssignView) → same_assign a a ≡ true
assign-self a = both (same_list same_bit a.left a.left) (same_list same_bit a.right a.right) (list-self same_bit bit-self a.left) (list-self same_bit bit-self a.right)

pub of-alike : (same : ModuleView → ModuleView → Bool) (modules : List ModuleView) (x y : InstanceView) → AreAlike same modules x y → same_instance same modules x y ≡ true
of-alike same modules x y h =
    both (bytes_eq x.name y.name) (same_target same modules x.target y.target && same_connections x.connections y.connections) (ap (bytes_eq x.name) (sym h.name) ∙ name-self x.name)
    (both (same_target same modules x.target y.target) (same_connections x.connections y.connections) h.target
    (ap (same_connections x.connections) (sym h.connections) ∙ connections-self x.connections))

pub of-parts : (modules : List ModuleView) (depth : ℕ) (a b : ModuleView) → HaveOneContent modules depth a b → same_content modules (suc depth) a b ≡ true
of-parts modules depth a b h =
    let instances = same_list (same_instance (same_content modules depth) modules) a.instances b.instances in
    let assigns = same_list same_assign a.assigns b.assigns in
    both (same_list same_port a.ports b.ports) (same_list same_net a.nets b.nets && (instances && assigns)) (ap (same_list same_port a.ports) (sym h.ports) ∙ list-self same_port port-self a.ports)
    (both (same_list same_net a.nets b.nets) (instances && assigns) (ap (same_list same_net a.nets) (sym h.nets) ∙ list-self same_net net-self a.nets)
    (both instances assigns h.instances (ap (same_list same_assign a.assigns) (sym h.assigns) ∙ list-self same_assign assign-self a.assigns)))
