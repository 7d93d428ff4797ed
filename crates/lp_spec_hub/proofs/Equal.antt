-- Equal content is an equivalence down to a depth.
use Rattle.std.proofs.Common.{◌≡◌, ℕ, zero, suc, Bool, true, false, ◌&&◌, ◌==◌, List, [], ◌∷◌, Option, Some, None, refl, sym, ap, ◌∙◌}
use Rattle.std.specs.Prelude.{bytes_eq}
use Rattle.std.specs.List.{list_all}
use Rattle.std.proofs.lemmas.Bool.{false≢true, eqb-true, eq-eqb}
use Rattle.lp_model.specs.declared.netlist.BitRange.{BitRange}
use Rattle.lp_model.specs.declared.netlist.Direction.{Direction}
use Rattle.lp_model.specs.declared.netlist.Direction.TheVariants.{Input, Output}
use Rattle.lp_model.specs.NetlistView.{BitView, NetBit, SelectBit, ConstBit, PortView, NetView, ConnectionView, ConnectionsView, ByName, ByPosition, InstanceView, AssignView, ModuleView}
use Rattle.lp_spec_design.specs.Keys.{Name, same_bool}
use Rattle.lp_spec_design.specs.Netlists.{is_input}
use Rattle.lp_spec_design.specs.Reads.{one, other, both, name-true, name-self}
use Rattle.lp_spec_written.specs.Nets.{same_bit}
use Rattle.lp_spec_written.specs.Shared.{same_list, same_range, same_port, same_net, same_connection, same_connections, same_assign, named, same_found, same_target, same_instance, same_content}
use Rattle.lp_spec_hub.specs.Contents.{some_is_within, is_within, IsEquivalence}

-- ---- a test that says that two are one

pub record Tells (A : Type 0) (same : A → A → Bool) : Type 0 where
  pub equal : (x y : A) → same x y ≡ true → x ≡ y
  pub self : (x : A) → same x x ≡ true

bool-equal : (a b : Bool) → same_bool a b ≡ true → a ≡ b
bool-equal true true e = refl
bool-equal true false e = absurd (false≢true e)
bool-equal false true e = absurd (false≢true e)
bool-equal false false e = refl

bool-self : (a : Bool) → same_bool a a ≡ true
bool-self true = refl
bool-self false = refl

list-equal : {A : Type 0} (same : A → A → Bool) → Tells A same → (xs ys : List A) → same_list same xs ys ≡ true → xs ≡ ys
list-equal same tells [] [] e = refl
list-equal same tells [] (y ∷ ys) e = absurd (false≢true e)
list-equal same tells (x ∷ xs) [] e = absurd (false≢true e)
list-equal same tells (x ∷ xs) (y ∷ ys) e = λ i. tells.equal x y (one (same x y) (same_list same xs ys) e) i ∷ list-equal same tells xs ys (other (same x y) (same_list same xs ys) e) i

list-self : {A : Type 0} (same : A → A → Bool) → Tells A same → (xs : List A) → same_list same xs xs ≡ true
list-self same tells [] = refl
list-self same tells (x ∷ xs) = both (same x x) (same_list same xs xs) (tells.self x) (list-self same tells xs)

lists : {A : Type 0} (same : A → A → Bool) → Tells A same → Tells (List A) (same_list same)
lists same tells = record { equal = list-equal same tells; self = list-self same tells }

bit-equal : (a b : BitView) → same_bit a b ≡ true → a ≡ b
bit-equal (NetBit m) (NetBit n) e = ap (λ x. NetBit x) (name-true m n e)
bit-equal (SelectBit m i) (SelectBit n j) e = λ k. SelectBit (name-true m n (other (i == j) (bytes_eq m n) e) k) (eqb-true i j (one (i == j) (bytes_eq m n) e) k)
bit-equal (ConstBit a) (ConstBit b) e = ap (λ x. ConstBit x) (bool-equal a b e)
bit-equal (NetBit m) (SelectBit n j) e = absurd (false≢true e)
bit-equal (NetBit m) (ConstBit b) e = absurd (false≢true e)
bit-equal (SelectBit m i) (NetBit n) e = absurd (false≢true e)
bit-equal (SelectBit m i) (ConstBit b) e = absurd (false≢true e)
bit-equal (ConstBit a) (NetBit n) e = absurd (false≢true e)
bit-equal (ConstBit a) (SelectBit n j) e = absurd (false≢true e)

bit-self : (a : BitView) → same_bit a a ≡ true
bit-self (NetBit n) = name-self n
bit-self (SelectBit n i) = both (i == i) (bytes_eq n n) (eq-eqb i i refl) (name-self n)
bit-self (ConstBit b) = bool-self b

bits : Tells BitView same_bit
bits = record { equal = bit-equal; self = bit-self }

range-equal : (a b : Option BitRange) → same_range a b ≡ true → a ≡ b
range-equal None None e = refl
range-equal None (Some b) e = absurd (false≢true e)
range-equal (Some a) None e = absurd (false≢true e)
range-equal (Some a) (Some b) e = λ i. Some (record { left = eqb-true a.left b.left (one (a.left == b.left) (a.right == b.right) e) i; right = eqb-true a.right b.right (other (a.left == b.left) (a.right == b.right) e) i })

range-self : (a : Option BitRange) → same_range a a ≡ true
range-self None = refl
range-self (Some a) = both (a.left == a.left) (a.right == a.right) (eq-eqb a.left a.left refl) (eq-eqb a.right a.right refl)

direction-equal : (n m : Name) (r s : Option BitRange) (c d : Direction) → same_bool (is_input (record { name = n; direction = c; range = r })) (is_input (record { name = m; direction = d; range = s })) ≡ true → c ≡ d
direction-equal n m r s Input Input e = refl
direction-equal n m r s Input Output e = absurd (false≢true e)
direction-equal n m r s Output Input e = absurd (false≢true e)
direction-equal n m r s Output Output e = refl

port-equal : (a b : PortView) → same_port a b ≡ true → a ≡ b
port-equal a b e =
    let rest = other (bytes_eq a.name b.name) (same_bool (is_input a) (is_input b) && same_range a.range b.range) e in
    let names = name-true a.name b.name (one (bytes_eq a.name b.name) (same_bool (is_input a) (is_input b) && same_range a.range b.range) e) in
    let directions = direction-equal a.name b.name a.range b.range a.direction b.direction (one (same_bool (is_input a) (is_input b)) (same_range a.range b.range) rest) in
    let ranges = range-equal a.range b.range (other (same_bool (is_input a) (is_input b)) (same_range a.range b.range) rest) in
    λ i. record { name = names i; direction = directions i; range = ranges i }

ports : Tells PortView same_port
ports = record { equal = port-equal; self = λ a. both (bytes_eq a.name a.name) (same_bool (is_input a) (is_input a) && same_range a.range a.range) (name-self a.name) (both (same_bool (is_input a) (is_input a)) (same_range a.range a.range) (bool-self (is_input a)) (range-self a.range)) }

nets : Tells NetView same_net
nets = record {
  equal = λ a b e i. record { name = name-true a.name b.name (one (bytes_eq a.name b.name) (same_range a.range b.range) e) i; range = range-equal a.range b.range (other (bytes_eq a.name b.name) (same_range a.range b.range) e) i };
  self = λ a. both (bytes_eq a.name a.name) (same_range a.range a.range) (name-self a.name) (range-self a.range);
}

connection : Tells ConnectionView same_connection
connection = record {
  equal = λ a b e i. record { port = name-true a.port b.port (one (bytes_eq a.port b.port) (same_list same_bit a.bits b.bits) e) i; bits = list-equal same_bit bits a.bits b.bits (other (bytes_eq a.port b.port) (same_list same_bit a.bits b.bits) e) i };
  self = λ a. both (bytes_eq a.port a.port) (same_list same_bit a.bits a.bits) (name-self a.port) (list-self same_bit bits a.bits);
}

connections-equal : (a b : ConnectionsView) → same_connections a b ≡ true → a ≡ b
connections-equal (ByName cs) (ByName ds) e = ap (λ x. ByName x) (list-equal same_connection connection cs ds e)
connections-equal (ByPosition vs) (ByPosition ws) e = ap (λ x. ByPosition x) (list-equal (same_list same_bit) (lists same_bit bits) vs ws e)
connections-equal (ByName cs) (ByPosition ws) e = absurd (false≢true e)
connections-equal (ByPosition vs) (ByName ds) e = absurd (false≢true e)

connections-self : (a : ConnectionsView) → same_connections a a ≡ true
connections-self (ByName cs) = list-self same_connection connection cs
connections-self (ByPosition vs) = list-self (same_list same_bit) (lists same_bit bits) vs

assigns : Tells AssignView same_assign
assigns = record {
  equal = λ a b e i. record { left = list-equal same_bit bits a.left b.left (one (same_list same_bit a.left b.left) (same_list same_bit a.right b.right) e) i; right = list-equal same_bit bits a.right b.right (other (same_list same_bit a.left b.left) (same_list same_bit a.right b.right) e) i };
  self = λ a. both (same_list same_bit a.left a.left) (same_list same_bit a.right a.right) (list-self same_bit bits a.left) (list-self same_bit bits a.right);
}

turn : {A : Type 0} (same : A → A → Bool) → Tells A same → (x y : A) → same x y ≡ true → same y x ≡ true
turn same tells x y e = ap (λ z. same z x) (sym (tells.equal x y e)) ∙ tells.self x

chain : {A : Type 0} (same : A → A → Bool) → Tells A same → (x y z : A) → same x y ≡ true → same y z ≡ true → same x z ≡ true
chain same tells x y z e f = ap (λ v. same v z) (tells.equal x y e) ∙ f

connectionses : Tells ConnectionsView same_connections
connectionses = record { equal = connections-equal; self = connections-self }

names : Tells Name bytes_eq
names = record { equal = name-true; self = name-self }

-- ---- any test on the modules of targets

module _ (modules : List ModuleView) (same : ModuleView → ModuleView → Bool) where
  list-turned : {A : Type 0} (f : A → A → Bool) → ((x y : A) → f x y ≡ true → f y x ≡ true) → (xs ys : List A) → same_list f xs ys ≡ true → same_list f ys xs ≡ true
  list-turned f h [] [] e = refl
  list-turned f h [] (y ∷ ys) e = absurd (false≢true e)
  list-turned f h (x ∷ xs) [] e = absurd (false≢true e)
  list-turned f h (x ∷ xs) (y ∷ ys) e = both (f y x) (same_list f ys xs) (h x y (one (f x y) (same_list f xs ys) e)) (list-turned f h xs ys (other (f x y) (same_list f xs ys) e))

  list-joined : {A : Type 0} (f : A → A → Bool) → ((x y z : A) → f x y ≡ true → f y z ≡ true → f x z ≡ true) → (xs ys zs : List A) → same_list f xs ys ≡ true → same_list f ys zs ≡ true → same_list f xs zs ≡ true
  list-joined f h [] [] zs e g = g
  list-joined f h [] (y ∷ ys) zs e g = absurd (false≢true e)
  list-joined f h (x ∷ xs) [] zs e g = absurd (false≢true e)
  list-joined f h (x ∷ xs) (y ∷ ys) [] e g = absurd (false≢true g)
  list-joined f h (x ∷ xs) (y ∷ ys) (z ∷ zs) e g = both (f x z) (same_list f xs zs) (h x y z (one (f x y) (same_list f xs ys) e) (one (f y z) (same_list f ys zs) g)) (list-joined f h xs ys zs (other (f x y) (same_list f xs ys) e) (other (f y z) (same_list f ys zs) g))

  found-turned : ((a b : ModuleView) → same a b ≡ true → same b a ≡ true) → (m n : Name) (a b : Option ModuleView) → same_found same m n a b ≡ true → same_found same n m b a ≡ true
  found-turned h m n (Some a) (Some b) e = h a b e
  found-turned h m n None None e = turn bytes_eq names m n e
  found-turned h m n (Some a) None e = absurd (false≢true e)
  found-turned h m n None (Some b) e = absurd (false≢true e)

  found-joined : ((a b c : ModuleView) → same a b ≡ true → same b c ≡ true → same a c ≡ true) → (m n k : Name) (a b c : Option ModuleView) → same_found same m n a b ≡ true → same_found same n k b c ≡ true → same_found same m k a c ≡ true
  found-joined h m n k (Some a) (Some b) (Some c) e g = h a b c e g
  found-joined h m n k None None None e g = chain bytes_eq names m n k e g
  found-joined h m n k (Some a) None c e g = absurd (false≢true e)
  found-joined h m n k None (Some b) c e g = absurd (false≢true e)
  found-joined h m n k (Some a) (Some b) None e g = absurd (false≢true g)
  found-joined h m n k None None (Some c) e g = absurd (false≢true g)

  found-self : (m : Name) (a : Option ModuleView) → ((b : ModuleView) → a ≡ Some b → same b b ≡ true) → same_found same m m a a ≡ true
  found-self m None h = name-self m
  found-self m (Some a) h = h a refl

  module _ (x y : InstanceView) (e : same_instance same modules x y ≡ true) where
    its_names : bytes_eq x.name y.name ≡ true
    its_names = one (bytes_eq x.name y.name) (same_target same modules x.target y.target && same_connections x.connections y.connections) e

    its_rest : (same_target same modules x.target y.target && same_connections x.connections y.connections) ≡ true
    its_rest = other (bytes_eq x.name y.name) (same_target same modules x.target y.target && same_connections x.connections y.connections) e

    its_targets : same_target same modules x.target y.target ≡ true
    its_targets = one (same_target same modules x.target y.target) (same_connections x.connections y.connections) its_rest

    its_connections : same_connections x.connections y.connections ≡ true
    its_connections = other (same_target same modules x.target y.target) (same_connections x.connections y.connections) its_rest

  of-three : (x y : InstanceView) → bytes_eq x.name y.name ≡ true → same_target same modules x.target y.target ≡ true → same_connections x.connections y.connections ≡ true → same_instance same modules x y ≡ true
  of-three x y n t c = both (bytes_eq x.name y.name) (same_target same modules x.target y.target && same_connections x.connections y.connections) n (both (same_target same modules x.target y.target) (same_connections x.connections y.connections) t c)

  instance-turned : ((a b : ModuleView) → same a b ≡ true → same b a ≡ true) → (x y : InstanceView) → same_instance same modules x y ≡ true → same_instance same modules y x ≡ true
  instance-turned h x y e = of-three y x (turn bytes_eq names x.name y.name (its_names x y e)) (found-turned h x.target y.target (named modules x.target) (named modules y.target) (its_targets x y e)) (turn same_connections connectionses x.connections y.connections (its_connections x y e))

  instance-joined : ((a b c : ModuleView) → same a b ≡ true → same b c ≡ true → same a c ≡ true) → (x y z : InstanceView) → same_instance same modules x y ≡ true → same_instance same modules y z ≡ true → same_instance same modules x z ≡ true
  instance-joined h x y z e g =
      of-three x z (chain bytes_eq names x.name y.name z.name (its_names x y e) (its_names y z g))
      (found-joined h x.target y.target z.target (named modules x.target) (named modules y.target) (named modules z.target) (its_targets x y e) (its_targets y z g))
      (chain same_connections connectionses x.connections y.connections z.connections (its_connections x y e) (its_connections y z g))

  instances-self : (xs : List InstanceView) → list_all (λ (x : InstanceView). some_is_within (λ m. same m m) (named modules x.target)) xs ≡ true → same_list (same_instance same modules) xs xs ≡ true
  instances-self [] e = refl
  instances-self (x ∷ xs) e =
      both (same_instance same modules x x) (same_list (same_instance same modules) xs xs)
      (of-three x x (name-self x.name) (by (named modules x.target) (one (some_is_within (λ m. same m m) (named modules x.target)) (list_all (λ (y : InstanceView). some_is_within (λ m. same m m) (named modules y.target)) xs) e)) (connections-self x.connections))
      (instances-self xs (other (some_is_within (λ m. same m m) (named modules x.target)) (list_all (λ (y : InstanceView). some_is_within (λ m. same m m) (named modules y.target)) xs) e))
    where
      by : (a : Option ModuleView) → some_is_within (λ m. same m m) a ≡ true → same_found same x.target x.target a a ≡ true
      by None h = name-self x.target
      by (Some a) h = h

-- ---- down to a depth

module _ (modules : List ModuleView) where
  abbrev same_instances : ℕ → List InstanceView → List InstanceView → Bool
  same_instances depth xs ys = same_list (same_instance (same_content modules depth) modules) xs ys

  -- the four parts of a content
  pub record Parts (depth : ℕ) (a b : ModuleView) : Type 0 where
    pub ports_are : same_list same_port a.ports b.ports ≡ true
    pub nets_are : same_list same_net a.nets b.nets ≡ true
    pub instances_are : same_instances depth a.instances b.instances ≡ true
    pub assigns_are : same_list same_assign a.assigns b.assigns ≡ true

  parts : (depth : ℕ) (a b : ModuleView) → same_content modules (suc depth) a b ≡ true → Parts depth a b
  parts depth a b e =
      let first = other (same_list same_port a.ports b.ports) (same_list same_net a.nets b.nets && (same_instances depth a.instances b.instances && same_list same_assign a.assigns b.assigns)) e in
      let second = other (same_list same_net a.nets b.nets) (same_instances depth a.instances b.instances && same_list same_assign a.assigns b.assigns) first in
      record {
        ports_are = one (same_list same_port a.ports b.ports) (same_list same_net a.nets b.nets && (same_instances depth a.instances b.instances && same_list same_assign a.assigns b.assigns)) e;
        nets_are = one (same_list same_net a.nets b.nets) (same_instances depth a.instances b.instances && same_list same_assign a.assigns b.assigns) first;
        instances_are = one (same_instances depth a.instances b.instances) (same_list same_assign a.assigns b.assigns) second;
        assigns_are = other (same_instances depth a.instances b.instances) (same_list same_assign a.assigns b.assigns) second;
      }

  of-parts : (depth : ℕ) (a b : ModuleView) → Parts depth a b → same_content modules (suc depth) a b ≡ true
  of-parts depth a b h =
      both (same_list same_port a.ports b.ports) (same_list same_net a.nets b.nets && (same_instances depth a.instances b.instances && same_list same_assign a.assigns b.assigns)) h.ports_are
      (both (same_list same_net a.nets b.nets) (same_instances depth a.instances b.instances && same_list same_assign a.assigns b.assigns) h.nets_are
      (both (same_instances depth a.instances b.instances) (same_list same_assign a.assigns b.assigns) h.instances_are h.assigns_are))

  content-turned : (depth : ℕ) (a b : ModuleView) → same_content modules depth a b ≡ true → same_content modules depth b a ≡ true
  content-turned zero a b e = absurd (false≢true e)
  content-turned (suc depth) a b e =
      let h = parts depth a b e in
      of-parts depth b a (record {
        ports_are = turn (same_list same_port) (lists same_port ports) a.ports b.ports h.ports_are;
        nets_are = turn (same_list same_net) (lists same_net nets) a.nets b.nets h.nets_are;
        instances_are = list-turned modules (same_content modules depth) (same_instance (same_content modules depth) modules) (instance-turned modules (same_content modules depth) (content-turned depth)) a.instances b.instances h.instances_are;
        assigns_are = turn (same_list same_assign) (lists same_assign assigns) a.assigns b.assigns h.assigns_are;
      })

  content-joined : (depth : ℕ) (a b c : ModuleView) → same_content modules depth a b ≡ true → same_content modules depth b c ≡ true → same_content modules depth a c ≡ true
  content-joined zero a b c e g = absurd (false≢true e)
  content-joined (suc depth) a b c e g =
      let h = parts depth a b e in
      let k = parts depth b c g in
      of-parts depth a c (record {
        ports_are = chain (same_list same_port) (lists same_port ports) a.ports b.ports c.ports h.ports_are k.ports_are;
        nets_are = chain (same_list same_net) (lists same_net nets) a.nets b.nets c.nets h.nets_are k.nets_are;
        instances_are = list-joined modules (same_content modules depth) (same_instance (same_content modules depth) modules) (instance-joined modules (same_content modules depth) (content-joined depth)) a.instances b.instances c.instances h.instances_are k.instances_are;
        assigns_are = chain (same_list same_assign) (lists same_assign assigns) a.assigns b.assigns c.assigns h.assigns_are k.assigns_are;
      })

  all-mono : (f g : ModuleView → Bool) → ((m : ModuleView) → f m ≡ true → g m ≡ true) → (xs : List InstanceView) → list_all (λ (x : InstanceView). some_is_within f (named modules x.target)) xs ≡ true → list_all (λ (x : InstanceView). some_is_within g (named modules x.target)) xs ≡ true
  all-mono f g h [] e = refl
  all-mono f g h (x ∷ xs) e =
      both (some_is_within g (named modules x.target)) (list_all (λ (y : InstanceView). some_is_within g (named modules y.target)) xs)
      (by (named modules x.target) (one (some_is_within f (named modules x.target)) (list_all (λ (y : InstanceView). some_is_within f (named modules y.target)) xs) e))
      (all-mono f g h xs (other (some_is_within f (named modules x.target)) (list_all (λ (y : InstanceView). some_is_within f (named modules y.target)) xs) e))
    where
      by : (a : Option ModuleView) → some_is_within f a ≡ true → some_is_within g a ≡ true
      by None e = refl
      by (Some m) e = h m e

  content-self : (depth : ℕ) (a : ModuleView) → is_within modules depth a ≡ true → same_content modules depth a a ≡ true
  content-self zero a e = absurd (false≢true e)
  content-self (suc depth) a e = of-parts depth a a (record {
    ports_are = list-self same_port ports a.ports;
    nets_are = list-self same_net nets a.nets;
    instances_are = instances-self modules (same_content modules depth) a.instances (all-mono (is_within modules depth) (λ m. same_content modules depth m m) (content-self depth) a.instances e);
    assigns_are = list-self same_assign assigns a.assigns;
  })

  pub content-equivalence : (depth : ℕ) → IsEquivalence modules depth
  content-equivalence depth = record { same = content-self depth; turned = content-turned depth; joined = content-joined depth }
