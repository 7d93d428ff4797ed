-- What a netlist that is read gives of each of its modules.
use Rattle.std.specs.Prelude.{map, bytes_eq}
use Rattle.std.specs.List.{list_any, list_all}
use Rattle.std.proofs.Common.{◌≡◌, Bool, true, false, not, List, [], ◌∷◌, ◌++◌, Some, inl, inr, refl, sym, subst}
use Rattle.std.proofs.lemmas.Bool.{false≢true, and_parts}
use Rattle.lp_text.specs.Texts.{distinct}
use Rattle.lp_model.specs.NetlistView.{BitView, NetBit, SelectBit, ConstBit, PortView, NetView, InstanceView, AssignView, ModuleView}
use Rattle.lp_vwrite.specs.Layout.{declared}
use Rattle.lp_vwrite.specs.WellFormed.{is_name, is_net, is_assign, is_constant, is_filled, is_bit, names_of}
use Rattle.lp_vwrite.specs.Sound.{is_read, is_read_instance, is_read_module}
use Rattle.lp_vwrite.proofs.Sighted.{read_is_sound}
use Rattle.lp_spec_design.specs.Keys.{Name}
use Rattle.lp_spec_design.specs.Netlists.{Structure, node_of}
use Rattle.lp_spec_design.specs.Nodes.{nodes_in, IsDeclared}
use Rattle.lp_spec_design.specs.Winners.{IsIn}
use Rattle.lp_spec_design.specs.Reads.{name-self}
use Rattle.lp_spec_design.proofs.Members.{in-left, in-right, in-either, of-map, any-in}
use Rattle.lp_spec_realises.specs.ProjectNetlists.{are_apart, names_in}
use Rattle.lp_spec_agreement.proofs.Apart.{all_in}
use Rattle.lp_spec_bridge.specs.Keyed.{IsApart}
use Rattle.lp_spec_bridge.specs.Names.{HasNamesApart}
use Rattle.lp_spec_bridge.specs.Templates.{bits_in}
use Rattle.lp_spec_bridge.proofs.Templates.{bits-nodes}
use Rattle.lp_spec_read.proofs.Netlists.{bit_declared, instance_bit, assigned_bit, taken_bit, its_assigns, module_apart}
use Rattle.lp_spec_numbered.specs.Read.{IsBitOf, DeclaresItsBits, DeclareTheirBits}
use Rattle.lp_spec_ready.specs.Laws.{ReadNamesAreApart, ReadModulesDeclareTheirBits}

-- ---- names

told-apart : (names : List Name) → are_apart names ≡ true → IsApart names
told-apart [] h = tt
told-apart (n ∷ names) h =
    let parts = and_parts (not (list_any (bytes_eq n) names)) (are_apart names) h in
    ((λ m. no (list_any (bytes_eq n) names) parts.0 (any-in (bytes_eq n) n names m (name-self n))), told-apart names parts.1)
  where
    no : (b : Bool) → not b ≡ true → b ≡ true → ⊥
    no true e f = false≢true e
    no false e f = false≢true f

front : {A : Type 0} (xs ys : List A) → IsApart (xs ++ ys) → IsApart xs
front [] ys h = tt
front (x ∷ xs) ys h = ((λ m. h.0 (in-left x xs ys m)), front xs ys h.1)

behind : {A : Type 0} (xs ys : List A) → IsApart (xs ++ ys) → IsApart ys
behind [] ys h = h
behind (x ∷ xs) ys h = behind xs ys h.1

without-end : {A : Type 0} (xs ys zs : List A) → IsApart (xs ++ (ys ++ zs)) → IsApart (xs ++ ys)
without-end [] ys zs h = front ys zs h
without-end (x ∷ xs) ys zs h =
    ((λ m. h.0 (elim (in-either x xs ys m) [ inl at ↦ in-left x xs (ys ++ zs) at | inr at ↦ in-right x xs (ys ++ zs) (in-left x ys zs at) ])), without-end xs ys zs h.1)

abbrev ports-of : ModuleView → List Name
ports-of m = map (λ (q : PortView). q.name) m.ports

abbrev nets-of : ModuleView → List Name
nets-of m = map (λ (x : NetView). x.name) m.nets

abbrev own-of : ModuleView → List Name
own-of m = map (λ (x : InstanceView). x.name) m.instances

module _ (s : Structure) (read : is_read s.modules ≡ true) where
  modules-read : list_all is_read_module s.modules ≡ true
  modules-read = (and_parts (distinct (map (λ (m : ModuleView). m.name) s.modules)) (list_all is_read_module s.modules) read).1

  module-read : (m : ModuleView) → IsIn m s.modules → is_read_module m ≡ true
  module-read m there = all_in is_read_module m s.modules modules-read there

  names-told : (m : ModuleView) → IsIn m s.modules → IsApart (names_in m)
  names-told m there = told-apart (names_in m) (module_apart m (module-read m there))

  -- ---- bits

  among : (m : ModuleView) (b c : BitView) → is_constant b ≡ false → node_of [] b ≡ node_of [] c → IsIn c (bits_in m) → IsIn b (bits_in m)
  among m (ConstBit x) c free e h = cc
  among m (NetBit n) (NetBit k) _ e h = let same : n ≡ k = cc in subst (λ z. IsIn (NetBit z) (bits_in m)) (sym same) h
  among m (NetBit n) (SelectBit k i) _ e h = cc
  among m (NetBit n) (ConstBit x) _ e h = cc
  among m (SelectBit n i) (NetBit k) _ e h = cc
  among m (SelectBit n i) (SelectBit k j) _ e h =
      let name : n ≡ k = cc in
      let index : i ≡ j = cc in
      subst (λ z. IsIn (SelectBit n z) (bits_in m)) (sym index) (subst (λ z. IsIn (SelectBit z j) (bits_in m)) (sym name) h)
  among m (SelectBit n i) (ConstBit x) _ e h = cc

  in-bits : (m : ModuleView) (b : BitView) → is_constant b ≡ false → IsIn (node_of [] b) (nodes_in [] (Some m)) → IsIn b (bits_in m)
  in-bits m b free h =
      let c = of-map (node_of []) (node_of [] b) (bits_in m) (subst (IsIn (node_of [] b)) (sym (bits-nodes [] m)) h) in
      among m b c.0 free c.2 c.1

  bit-of : (m : ModuleView) (b : BitView) → IsDeclared [] m b → IsBitOf m b
  bit-of m (ConstBit x) h = tt
  bit-of m (NetBit n) h = in-bits m (NetBit n) refl h
  bit-of m (SelectBit n i) h = in-bits m (SelectBit n i) refl h

  net-bit : (m : ModuleView) (b : BitView) → is_constant b ≡ false → IsDeclared [] m b → IsIn b (bits_in m)
  net-bit m (ConstBit x) free h = cc
  net-bit m (NetBit n) free h = in-bits m (NetBit n) free h
  net-bit m (SelectBit n i) free h = in-bits m (SelectBit n i) free h

  not-false : (b : Bool) → not b ≡ true → b ≡ false
  not-false true e = cc
  not-false false e = refl

  instances-read : (m : ModuleView) → is_read_module m ≡ true → list_all (is_read_instance (declared m)) m.instances ≡ true
  instances-read m e =
      let name = and_parts (is_name m.name) _ e in
      let nets = and_parts (list_all is_net (declared m)) _ name.1 in
      let names = and_parts (distinct (names_of m)) _ nets.1 in
      (and_parts (list_all (is_read_instance (declared m)) m.instances) (list_all (is_assign (declared m)) m.assigns) names.1).0

  assign-read : (m : ModuleView) (a : AssignView) → is_read_module m ≡ true → IsIn a m.assigns → is_assign (declared m) a ≡ true
  assign-read m a e h = all_in (is_assign (declared m)) a m.assigns (its_assigns m e) h

  no-constant : (m : ModuleView) (a : AssignView) (b : BitView) → is_assign (declared m) a ≡ true → IsIn b a.left → is_constant b ≡ false
  no-constant m a b e h =
      let left = and_parts (is_filled a.left) _ e in
      let right = and_parts (is_filled a.right) _ left.1 in
      let bits = and_parts (list_all (is_bit (declared m)) a.left) _ right.1 in
      let taken = and_parts (list_all (is_bit (declared m)) a.right) _ bits.1 in
      not-false (is_constant b) (all_in (λ x. not (is_constant x)) b a.left taken.1 h)

  its-bits : (m : ModuleView) → IsIn m s.modules → DeclaresItsBits m
  its-bits m there =
      let good = module-read m there in
      record {
        connected = λ y b at h. bit-of m b (bit_declared [] m b (instance_bit (declared m) y b (all_in (is_read_instance (declared m)) y m.instances (instances-read m good) at) h));
        assigned = λ a b at h. bit-of m b (bit_declared [] m b (taken_bit (declared m) a b (assign-read m a good at) h));
        driven = λ a b at h.
            let is = assign-read m a good at in
            net-bit m b (no-constant m a b is h) (bit_declared [] m b (assigned_bit (declared m) a b is h));
      }

pub apart-when-read : (s : Structure) → is_read s.modules ≡ true → HasNamesApart s
apart-when-read s sound = record {
  nets = λ m there. without-end (ports-of m) (nets-of m) (own-of m) (names-told s sound m there);
  instances = λ m there. behind (nets-of m) (own-of m) (behind (ports-of m) (nets-of m ++ own-of m) (names-told s sound m there));
}

pub declared-when-read : (s : Structure) → is_read s.modules ≡ true → DeclareTheirBits s.modules
declared-when-read s sound m there = its-bits s sound m there

pub names_apart : ReadNamesAreApart
names_apart text s reads = apart-when-read s (read_is_sound text s.modules reads)

pub declare_bits : ReadModulesDeclareTheirBits
declare_bits text s reads = declared-when-read s (read_is_sound text s.modules reads)
