-- What a well-formed module says of the names and bits that stand in it.
use Rattle.std.proofs.Common.{◌≡◌, ℕ, ◌≤◌, Bool, true, false, not, List, [], ◌∷◌, ◌++◌, map, Option, None, Some, refl, sym, ap, ◌∙◌, arith}
use Rattle.std.specs.Prelude.{◌&&◌, ◌||◌, nat_le}
use Rattle.std.specs.List.{list_all}
use Rattle.std.specs.Map.{lookup}
use Rattle.std.proofs.lemmas.Bool.{and_parts}
use Rattle.std.proofs.lemmas.Bool.Decides.{nat_tests}
use Rattle.lp_text.specs.Texts.{same_text, same_text-true, has_text}
use Rattle.lp_model.specs.declared.netlist.BitRange.{BitRange}
use Rattle.lp_model.specs.NetlistView.{BitView, NetBit, SelectBit, ConstBit, ConnectionView, bit_view}
use Rattle.lp_verilog_draft.specs.declared.value.Side.TheVariants as sides
use Rattle.lp_verilog_draft.specs.Scopes.{Entries}
use Rattle.lp_verilog_draft.specs.Values.{is_in}
use Rattle.lp_verilog.specs.Reading.{Outcome}
use Rattle.lp_vwrite.specs.Layout.{vectors_among, range_in}
use Rattle.lp_vwrite.specs.WellFormed.{is_name, is_range, is_net, declaration, is_scalar, has_index, is_bit, is_constant, is_connection}
use Rattle.lp_vwrite.proofs.Values.{bit_of, allows, IsBit, AllBits}
use Rattle.lp_vwrite.proofs.Scope.{Declared, names_in, plain, keyed, all_known, text_known, is_net_entry, net_found}
use Rattle.lp_vwrite.proofs.Instances.{AllConnections}

abbrev pub Nets : Type 0
Nets = List (List ℕ × Option BitRange)

-- what holds of all declarations holds of the one that is found
found_all : (test : List ℕ × Option BitRange → Bool) (t : List ℕ) (nets : Nets) (r : Option BitRange) → lookup (same_text t) nets ≡ Some r → list_all test nets ≡ true → test (t, r) ≡ true
found_all test t [] r h all = absurd cc
found_all test t (e ∷ nets) r h all =
    let parts = and_parts (test e) (list_all test nets) all in
    by parts.0 (same_text t e.0) refl (λ k. found_all test t nets r k parts.1)
  where
    by : test e ≡ true → (b : Bool) → same_text t e.0 ≡ b → (lookup (same_text t) nets ≡ Some r → test (t, r) ≡ true) → test (t, r) ≡ true
    by good true s later =
        let here : Some e.1 ≡ Some r = rw s at h in
        let range : e.1 ≡ r = cc in
        let text : t ≡ e.0 = same_text-true t e.0 s in
        ap (λ (x : List ℕ). test (x, r)) text ∙ ap (λ (x : Option BitRange). test (e.0, x)) (sym range) ∙ good
    by good false s later = let there : lookup (same_text t) nets ≡ Some r = rw s at h in later there

-- a vector that is declared first has its range in the layout
vector_found : (t : List ℕ) (nets : Nets) (r : BitRange) → lookup (same_text t) nets ≡ Some (Some r) → range_in (vectors_among nets) t ≡ Some r
vector_found t [] r h = absurd cc
vector_found t (e ∷ nets) r h = by (same_text t e.0) refl e.1 refl (λ k. vector_found t nets r k)
  where
    by : (b : Bool) → same_text t e.0 ≡ b → (x : Option BitRange) → e.1 ≡ x → (lookup (same_text t) nets ≡ Some (Some r) → range_in (vectors_among nets) t ≡ Some r) → range_in (vectors_among (e ∷ nets)) t ≡ Some r
    by true s x is later =
        let here : Some e.1 ≡ Some (Some r) = rw s at h in
        let range : e.1 ≡ Some r = cc in
        rw (range, s) refl
    by false s None is later =
        let there : lookup (same_text t) nets ≡ Some (Some r) = rw s at h in
        rw is (later there)
    by false s (Some x) is later =
        let there : lookup (same_text t) nets ≡ Some (Some r) = rw s at h in
        rw (is, s) (later there)

scalar_found : (o : Option (Option BitRange)) → is_scalar o ≡ true → o ≡ Some None
scalar_found None h = absurd cc
scalar_found (Some None) h = refl
scalar_found (Some (Some r)) h = absurd cc

index_found : (o : Option (Option BitRange)) (i : ℕ) → has_index o i ≡ true → (r : BitRange) × (o ≡ Some (Some r)) × (is_in r i ≡ true)
index_found None i h = absurd cc
index_found (Some None) i h = absurd cc
index_found (Some (Some r)) i h = (r, refl, h)

index_small : (r : BitRange) (i : ℕ) → is_range (Some r) ≡ true → is_in r i ≡ true → i ≤ 4294967295
index_small r i bounded inside =
    let parts = and_parts (nat_le r.left 4294967295) (nat_le r.right 4294967295) bounded in
    by (nat_le r.left i && nat_le i r.right) refl parts.0 parts.1
  where
    below : (a b : ℕ) → nat_le a b ≡ true → nat_le b 4294967295 ≡ true → a ≤ 4294967295
    below a b h k = grind (arith, nat_tests)

    second_of : (a b : Bool) → a ≡ false → (a || b) ≡ true → b ≡ true
    second_of true b h k = absurd cc
    second_of false b h k = k

    by : (b : Bool) → (nat_le r.left i && nat_le i r.right) ≡ b → nat_le r.left 4294967295 ≡ true → nat_le r.right 4294967295 ≡ true → i ≤ 4294967295
    by true e left right =
        let both = and_parts (nat_le r.left i) (nat_le i r.right) e in
        below i r.right both.1 right
    by false e left right =
        let other : (nat_le r.right i && nat_le i r.left) ≡ true = second_of (nat_le r.left i && nat_le i r.right) (nat_le r.right i && nat_le i r.left) e inside in
        let both = and_parts (nat_le r.right i) (nat_le i r.left) other in
        below i r.left both.1 left

module _ (names : List (List ℕ)) (nets : Nets) (good : list_all is_net nets ≡ true) (known : list_all (λ n. has_text n.0 names) nets ≡ true) where
  -- a declared name is one, and has a number
  declared_named : (t : List ℕ) (r : Option BitRange) → lookup (same_text t) nets ≡ Some r → (is_name t ≡ true) × (has_text t names ≡ true) × (is_range r ≡ true)
  declared_named t r h =
      let parts = and_parts (is_name t) (is_range r) (found_all is_net t nets r h good) in
      (parts.0, found_all (λ n. has_text n.0 names) t nets r h known, parts.1)

  -- bits are seen as they were
  bit_back : (b : BitView) → is_bit nets b ≡ true → bit_view names (bit_of names b) ≡ b
  bit_back (NetBit n) h = ap (λ t. NetBit t) (text_known names n (declared_named n None (scalar_found (declaration nets n) h)).1)
  bit_back (SelectBit n i) h =
      let f = index_found (declaration nets n) i h in
      ap (λ t. SelectBit t i) (text_known names n (declared_named n (Some f.0) f.1).1)
  bit_back (ConstBit v) h = refl

  pub bits_back : (bs : List BitView) → list_all (is_bit nets) bs ≡ true → map (bit_view names) (map (bit_of names) bs) ≡ bs
  bits_back [] h = refl
  bits_back (b ∷ bs) h =
      let parts = and_parts (is_bit nets b) (list_all (is_bit nets) bs) h in
      rw (bit_back b parts.0, bits_back bs parts.1) refl

  module _ (size : ℕ) (o : Outcome) (d more : Declared) (fixed : list_all (is_net_entry names) d ≡ true) (ranged : map (λ e. (e.0, e.1.range)) d ≡ nets) (all : all_known names (names_in (d ++ more)) ≡ true) (es : Entries) (is : plain es ≡ keyed names (d ++ more)) where
    bit_fact : (b : BitView) → is_bit nets b ≡ true → IsBit names size o (λ t. range_in (vectors_among nets) t) es b
    bit_fact (NetBit n) h =
        let there = scalar_found (declaration nets n) h in
        let named = declared_named n None there in
        ((named.0, named.1), net_found names n es d more None is named.1 all fixed (ap (lookup (same_text n)) ranged ∙ there))
    bit_fact (SelectBit n i) h =
        let f = index_found (declaration nets n) i h in
        let named = declared_named n (Some f.0) f.1 in (
          (named.0, named.1),
          record {
            range = f.0;
            written = vector_found n nets f.0 f.1;
            net = net_found names n es d more (Some f.0) is named.1 all fixed (ap (lookup (same_text n)) ranged ∙ f.1);
            inside = f.2;
            small = index_small f.0 i named.2 f.2;
          },
        )
    bit_fact (ConstBit v) h = tt

    pub bits_fact : (bs : List BitView) → list_all (is_bit nets) bs ≡ true → AllBits names size o (λ t. range_in (vectors_among nets) t) es bs
    bits_fact [] h = tt
    bits_fact (b ∷ bs) h =
        let parts = and_parts (is_bit nets b) (list_all (is_bit nets) bs) h in
        (bit_fact b parts.0, bits_fact bs parts.1)

    pub connections_fact : (cs : List ConnectionView) → list_all (is_connection nets) cs ≡ true → all_known names (map (λ c. c.port) cs) ≡ true → AllConnections names size o (λ t. range_in (vectors_among nets) t) es cs
    connections_fact [] h k = tt
    connections_fact (c ∷ cs) h k =
        let parts = and_parts (is_connection nets c) (list_all (is_connection nets) cs) h in
        let here = and_parts (is_name c.port) (list_all (is_bit nets) c.bits) parts.0 in
        let numbers = and_parts (has_text c.port names) (all_known names (map (λ x. x.port) cs)) k in
        (((here.0, numbers.0), bits_fact c.bits here.1), connections_fact cs parts.1 numbers.1)

-- no constant stands on a left side
pub left_allowed : (bs : List BitView) → list_all (λ b. not (is_constant b)) bs ≡ true → list_all (allows sides.Left) bs ≡ true
left_allowed [] h = refl
left_allowed (NetBit n ∷ bs) h = left_allowed bs h
left_allowed (SelectBit n i ∷ bs) h = left_allowed bs h
left_allowed (ConstBit v ∷ bs) h = absurd cc
