-- What a module declares, as the reader keeps it: over numbers of names, and without the places of the names.
use Rattle.std.proofs.Common.{◌≡◌, ℕ, Bool, true, false, cond, List, [], ◌∷◌, ◌++◌, map, Option, None, Some, refl, sym, ap, ◌∙◌, subst, arith}
use Rattle.std.specs.Prelude.{◌&&◌, ◌||◌, nat_eq, is_some, unwrap_or, if◌then◌else◌}
use Rattle.std.specs.Option.{option_map}
use Rattle.std.specs.List.{list_all}
use Rattle.std.specs.Map.{lookup}
use Rattle.std.proofs.lemmas.Bool.{and_parts}
use Rattle.std.proofs.lemmas.Bool.Decides.{nat_tests}
use Rattle.indexmap.specs.IndexMap.{insert_entry}
use Rattle.lp_text.specs.Texts.{same_text, same_text-true, true-same_text, has_text, place_of, place_of-Some, is_some-place_of, text_at, distinct, distinct-repeated}
use Rattle.lp_model.specs.declared.netlist.BitRange.{BitRange}
use Rattle.lp_model.specs.declared.netlist.Port.{Port}
use Rattle.lp_model.specs.declared.netlist.NetDecl.{NetDecl}
use Rattle.lp_model.specs.NetlistView.{PortView, NetView}
use Rattle.lp_verilog_draft.specs.declared.scope.Kind.TheVariants as kinds
use Rattle.lp_verilog_draft.specs.declared.scope.Entry.{Entry}
use Rattle.lp_verilog_draft.specs.Scopes.{Entries, found, put, ports_of, nets_of, port_of, net_of, lacking_of, lacks_direction, with_some}
use Rattle.lp_vwrite.proofs.Parts.{id}
use Rattle.lp_vwrite.proofs.Values.{IsNet, is_net_kind}

-- names and what they stand for
abbrev pub Declared : Type 0
Declared = List (List ℕ × Entry)

abbrev pub port_entry : PortView → Entry
port_entry p = record { kind = kinds.Port; direction = Some p.direction; range = p.range; fixed = true; wired = false; at = 0 }

abbrev pub listed_entry : Entry
listed_entry = record { kind = kinds.Port; direction = None; range = None; fixed = false; wired = false; at = 0 }

abbrev pub wire_entry : NetView → Entry
wire_entry n = record { kind = kinds.Wire; direction = None; range = n.range; fixed = true; wired = true; at = 0 }

abbrev pub instance_entry : Entry
instance_entry = record { kind = kinds.Instance; direction = None; range = None; fixed = true; wired = true; at = 0 }

abbrev pub names_in : Declared → List (List ℕ)
names_in d = map (λ e. e.0) d

-- ---- without places

abbrev pub erased : Entry → Entry
erased e = record { kind = e.kind; direction = e.direction; range = e.range; fixed = e.fixed; wired = e.wired; at = 0 }

abbrev pub plain : Entries → Entries
plain es = map (λ e. (e.0, erased e.1)) es

lookup-plain : (test : ℕ → Bool) (es : Entries) → lookup test (plain es) ≡ option_map erased (lookup test es)
lookup-plain test [] = refl
lookup-plain test (e ∷ es) = by (test e.0) (lookup-plain test es)
  where
    by : (b : Bool) → lookup test (plain es) ≡ option_map erased (lookup test es) → cond b (Some (erased e.1)) (lookup test (plain es)) ≡ option_map erased (cond b (Some e.1) (lookup test es))
    by true h = refl
    by false h = h

plain-insert : (es : Entries) (k : ℕ) (v : Entry) → plain (insert_entry nat_eq es k v) ≡ insert_entry nat_eq (plain es) k (erased v)
plain-insert [] k v = refl
plain-insert (e ∷ es) k v = by (nat_eq k e.0) (plain-insert es k v)
  where
    by : (b : Bool) → plain (insert_entry nat_eq es k v) ≡ insert_entry nat_eq (plain es) k (erased v) → plain (if b then (e.0, v) ∷ es else e ∷ insert_entry nat_eq es k v) ≡ (if b then (e.0, erased v) ∷ plain es else (e.0, erased e.1) ∷ insert_entry nat_eq (plain es) k (erased v))
    by true h = refl
    by false h = ap (λ (t : Entries). (e.0, erased e.1) ∷ t) h

pub ports-plain : (es : Entries) → ports_of (plain es) ≡ ports_of es
ports-plain [] = refl
ports-plain (e ∷ es) = ap (λ (t : List Port). with_some (port_of e.0 e.1) t) (ports-plain es)

pub nets-plain : (es : Entries) → nets_of (plain es) ≡ nets_of es
nets-plain [] = refl
nets-plain (e ∷ es) = ap (λ (t : List NetDecl). with_some (net_of e.0 e.1) t) (nets-plain es)

pub lacking-plain : (es : Entries) → lacking_of (plain es) ≡ None → lacking_of es ≡ None
lacking-plain [] h = refl
lacking-plain (e ∷ es) h = by (lacks_direction e.1) h (lacking-plain es)
  where
    by : (b : Bool) → (if b then Some 0 else lacking_of (plain es)) ≡ None → (lacking_of (plain es) ≡ None → lacking_of es ≡ None) → (if b then Some e.1.at else lacking_of es) ≡ None
    by true k more = absurd cc
    by false k more = more k

-- ---- numbers and texts

pub or_left_false : (a b : Bool) → (a || b) ≡ false → a ≡ false
or_left_false true b h = h
or_left_false false b h = refl

pub or_right_false : (a b : Bool) → (a || b) ≡ false → b ≡ false
or_right_false true b h = absurd cc
or_right_false false b h = h

module _ (names : List (List ℕ)) where
  place_known : (t : List ℕ) → has_text t names ≡ true → (k : ℕ) × (place_of t names ≡ Some k)
  place_known t h = by (place_of t names) refl
    where
      by : (r : Option ℕ) → place_of t names ≡ r → (k : ℕ) × (place_of t names ≡ Some k)
      by (Some k) e = (k, e)
      by None e = let no : false ≡ true = sym (ap (λ (r : Option ℕ). is_some r) e) ∙ is_some-place_of t names ∙ h in absurd cc

  -- a number gives its text back
  pub text_known : (t : List ℕ) → has_text t names ≡ true → text_at names (id names t).0 ≡ t
  text_known t h =
      let p = place_known t h in
      let number : (id names t).0 ≡ p.0 = ap (λ (r : Option ℕ). unwrap_or r 0) p.1 in
      ap (text_at names) number ∙ (place_of-Some t names p.0 p.1).1

  same_number : (n : ℕ) → nat_eq n n ≡ true
  same_number n = grind (arith, nat_tests)

  number_same : (a b : ℕ) → nat_eq a b ≡ true → a ≡ b
  number_same a b h = grind (arith, nat_tests)

  -- numbers are the same exactly where the texts are
  pub id_same : (t u : List ℕ) → has_text t names ≡ true → has_text u names ≡ true → nat_eq (id names t).0 (id names u).0 ≡ same_text t u
  id_same t u ht hu = by (same_text t u) refl (nat_eq (id names t).0 (id names u).0) refl
    where
      by : (b : Bool) → same_text t u ≡ b → (c : Bool) → nat_eq (id names t).0 (id names u).0 ≡ c → nat_eq (id names t).0 (id names u).0 ≡ same_text t u
      by true e c f = subst (λ x. nat_eq (id names t).0 (id names x).0 ≡ true) (same_text-true t u e) (same_number (id names t).0) ∙ sym e
      by false e false f = f ∙ sym e
      by false e true f =
          let numbers = number_same (id names t).0 (id names u).0 f in
          let texts : t ≡ u = sym (text_known t ht) ∙ ap (text_at names) numbers ∙ text_known u hu in
          let no : true ≡ false = sym (true-same_text t u texts) ∙ e in
          absurd cc

  abbrev pub keyed : Declared → Entries
  keyed d = map (λ e. ((id names e.0).0, e.1)) d

  abbrev pub all_known : List (List ℕ) → Bool
  all_known ts = list_all (λ t. has_text t names) ts

  pub lookup_keyed : (t : List ℕ) (d : Declared) → has_text t names ≡ true → all_known (names_in d) ≡ true → lookup (nat_eq (id names t).0) (keyed d) ≡ lookup (same_text t) d
  lookup_keyed t [] h k = refl
  lookup_keyed t (e ∷ d) h k =
      let parts = and_parts (has_text e.0 names) (all_known (names_in d)) k in
      rw (id_same t e.0 h parts.0, lookup_keyed t d h parts.1) refl

  -- a name that stands for nothing yet goes last
  insert_new : (t : List ℕ) (d : Declared) (v : Entry) → has_text t names ≡ true → all_known (names_in d) ≡ true → has_text t (names_in d) ≡ false → insert_entry nat_eq (keyed d) (id names t).0 v ≡ keyed (d ++ (t, v) ∷ [])
  insert_new t [] v h k a = refl
  insert_new t (e ∷ d) v h k a =
      let parts = and_parts (has_text e.0 names) (all_known (names_in d)) k in
      let other : nat_eq (id names t).0 (id names e.0).0 ≡ false = id_same t e.0 h parts.0 ∙ or_left_false (same_text t e.0) (has_text t (names_in d)) a in
      rw (other, insert_new t d v h parts.1 (or_right_false (same_text t e.0) (has_text t (names_in d)) a)) refl

  -- the entry of a name is replaced in its place
  insert_old : (t : List ℕ) (d more : Declared) (old v : Entry) → has_text t names ≡ true → all_known (names_in d) ≡ true → has_text t (names_in d) ≡ false → insert_entry nat_eq (keyed (d ++ (t, old) ∷ more)) (id names t).0 v ≡ keyed (d ++ (t, v) ∷ more)
  insert_old t [] more old v h k a = rw (same_number (id names t).0) refl
  insert_old t (e ∷ d) more old v h k a =
      let parts = and_parts (has_text e.0 names) (all_known (names_in d)) k in
      let other : nat_eq (id names t).0 (id names e.0).0 ≡ false = id_same t e.0 h parts.0 ∙ or_left_false (same_text t e.0) (has_text t (names_in d)) a in
      rw (other, insert_old t d more old v h parts.1 (or_right_false (same_text t e.0) (has_text t (names_in d)) a)) refl

pub lookup_absent : (t : List ℕ) (d : Declared) → has_text t (names_in d) ≡ false → lookup (same_text t) d ≡ None
lookup_absent t [] h = refl
lookup_absent t (e ∷ d) h = rw (or_left_false (same_text t e.0) (has_text t (names_in d)) h) (lookup_absent t d (or_right_false (same_text t e.0) (has_text t (names_in d)) h))

pub lookup_middle : (t : List ℕ) (d more : Declared) (v : Entry) → has_text t (names_in d) ≡ false → lookup (same_text t) (d ++ (t, v) ∷ more) ≡ Some v
lookup_middle t [] more v h = rw (true-same_text t t refl) refl
lookup_middle t (e ∷ d) more v h = rw (or_left_false (same_text t e.0) (has_text t (names_in d)) h) (lookup_middle t d more v (or_right_false (same_text t e.0) (has_text t (names_in d)) h))

-- a name among distinct ones does not stand before itself
pub absent_before : (xs : List (List ℕ)) (t : List ℕ) (ys : List (List ℕ)) → distinct (xs ++ t ∷ ys) ≡ true → has_text t xs ≡ false
absent_before xs t ys d = by (has_text t xs) refl
  where
    by : (b : Bool) → has_text t xs ≡ b → has_text t xs ≡ false
    by false e = e
    by true e = let no : true ≡ false = sym d ∙ distinct-repeated xs t ys e in absurd cc

-- ---- the entries of the reader

module _ (names : List (List ℕ)) where
  none_back : (r : Option Entry) → option_map erased r ≡ None → r ≡ None
  none_back None h = refl
  none_back (Some e) h = absurd cc

  some_back : (r : Option Entry) (v : Entry) → option_map erased r ≡ Some v → (a : ℕ) × (r ≡ Some (record v { at = a }))
  some_back None v h = absurd cc
  some_back (Some e) v h =
      let same : erased e ≡ v = cc in
      (e.at, ap (λ (x : Entry). Some (record x { at = e.at })) same)

  seen : (t : List ℕ) (es : Entries) (d : Declared) → plain es ≡ keyed names d → has_text t names ≡ true → all_known names (names_in d) ≡ true → option_map erased (found es (id names t)) ≡ lookup (same_text t) d
  seen t es d h k all = sym (lookup-plain (nat_eq (id names t).0) es) ∙ ap (lookup (nat_eq (id names t).0)) h ∙ lookup_keyed names t d k all

  -- a name that stands for nothing
  pub found_none : (t : List ℕ) (es : Entries) (d : Declared) → plain es ≡ keyed names d → has_text t names ≡ true → all_known names (names_in d) ≡ true → has_text t (names_in d) ≡ false → found es (id names t) ≡ None
  found_none t es d h k all absent = none_back (found es (id names t)) (seen t es d h k all ∙ lookup_absent t d absent)

  -- a name that stands for something
  pub found_some : (t : List ℕ) (es : Entries) (d : Declared) (v : Entry) → plain es ≡ keyed names d → has_text t names ≡ true → all_known names (names_in d) ≡ true → lookup (same_text t) d ≡ Some v → (a : ℕ) × (found es (id names t) ≡ Some (record v { at = a }))
  found_some t es d v h k all there = some_back (found es (id names t)) v (seen t es d h k all ∙ there)

  pub put_new : (t : List ℕ) (es : Entries) (d : Declared) (v : Entry) → plain es ≡ keyed names d → has_text t names ≡ true → all_known names (names_in d) ≡ true → has_text t (names_in d) ≡ false → plain (put es (id names t) v) ≡ keyed names (d ++ (t, erased v) ∷ [])
  put_new t es d v h k all absent = plain-insert es (id names t).0 v ∙ ap (λ x. insert_entry nat_eq x (id names t).0 (erased v)) h ∙ insert_new names t d (erased v) k all absent

  pub put_old : (t : List ℕ) (es : Entries) (d more : Declared) (old v : Entry) → plain es ≡ keyed names (d ++ (t, old) ∷ more) → has_text t names ≡ true → all_known names (names_in d) ≡ true → has_text t (names_in d) ≡ false → plain (put es (id names t) v) ≡ keyed names (d ++ (t, erased v) ∷ more)
  put_old t es d more old v h k all absent = plain-insert es (id names t).0 v ∙ ap (λ x. insert_entry nat_eq x (id names t).0 (erased v)) h ∙ insert_old names t d more old (erased v) k all absent

  -- ---- nets among the entries

  abbrev pub is_net_entry : List ℕ × Entry → Bool
  is_net_entry e = is_net_kind e.1.kind && e.1.fixed

  net_in : (t : List ℕ) (d more : Declared) (r : Option BitRange) → list_all is_net_entry d ≡ true → lookup (same_text t) (map (λ e. (e.0, e.1.range)) d) ≡ Some r → (v : Entry) × (lookup (same_text t) (d ++ more) ≡ Some v) × (is_net_kind v.kind ≡ true) × (v.fixed ≡ true) × (v.range ≡ r)
  net_in t [] more r all h = absurd cc
  net_in t (e ∷ d) more r all h =
      let parts = and_parts (is_net_entry e) (list_all is_net_entry d) all in
      by parts.0 (same_text t e.0) refl (λ k. net_in t d more r parts.1 k)
    where
      by : is_net_entry e ≡ true → (b : Bool) → same_text t e.0 ≡ b → (lookup (same_text t) (map (λ x. (x.0, x.1.range)) d) ≡ Some r → (v : Entry) × (lookup (same_text t) (d ++ more) ≡ Some v) × (is_net_kind v.kind ≡ true) × (v.fixed ≡ true) × (v.range ≡ r))
          → (v : Entry) × (lookup (same_text t) ((e ∷ d) ++ more) ≡ Some v) × (is_net_kind v.kind ≡ true) × (v.fixed ≡ true) × (v.range ≡ r)
      by good true s later =
          let here : Some e.1.range ≡ Some r = rw s at h in
          let range : e.1.range ≡ r = cc in
          let both = and_parts (is_net_kind e.1.kind) e.1.fixed good in
          (e.1, rw s refl, both.0, both.1, range)
      by good false s later =
          let there : lookup (same_text t) (map (λ x. (x.0, x.1.range)) d) ≡ Some r = rw s at h in
          let found_later = later there in
          (found_later.0, rw s (found_later.1), found_later.2, found_later.3, found_later.4)

  -- a declared net is found with its range
  pub net_found : (t : List ℕ) (es : Entries) (d more : Declared) (r : Option BitRange) → plain es ≡ keyed names (d ++ more) → has_text t names ≡ true → all_known names (names_in (d ++ more)) ≡ true → list_all is_net_entry d ≡ true → lookup (same_text t) (map (λ e. (e.0, e.1.range)) d) ≡ Some r → IsNet es (id names t) r
  net_found t es d more r h k all nets there =
      let n = net_in t d more r nets there in
      let f = found_some t es (d ++ more) n.0 h k all n.1 in
      record { entry = record n.0 { at = f.0 }; there = f.1; net = n.2; settled = n.3; ranged = n.4 }
