-- The nets of a module that is read: what is settled of a name stays so.
use Rattle.std.proofs.Common.{◌≡◌, ℕ, zero, suc, ◌+◌, ◌-◌, ◌≤◌, Bool, true, false, cond, List, [], ◌∷◌, ◌++◌, map, Option, Some, None, refl, sym, ap, ◌∙◌, subst, arith}
use Rattle.std.specs.Prelude.{nat_eq, nat_le, nat_lt, is_none, not, ◌&&◌, ◌||◌, ◌==◌, if◌then◌else◌}
use Rattle.std.specs.List.{list_all}
use Rattle.std.specs.Map.{lookup}
use Rattle.indexmap.specs.IndexMap.{insert_entry}
use Rattle.std.proofs.lemmas.Bool.{true≢false, and_parts, and_from, eqb-true, eq-eqb}
use Rattle.std.proofs.lemmas.Bool.Decides.{nat_tests}
use Rattle.lp_text.specs.declared.names.NameId.{NameId}
use Rattle.lp_model.specs.declared.bits.Bit.{Bit}
use Rattle.lp_model.specs.declared.bits.Bit.TheVariants as bits
use Rattle.lp_model.specs.declared.netlist.BitRange.{BitRange}
use Rattle.lp_verilog_draft.specs.declared.stop.Off.TheVariants as offs
use Rattle.lp_verilog_draft.specs.declared.value.Side.{Side}
use Rattle.lp_verilog_draft.specs.declared.value.Side.TheVariants as sides
use Rattle.lp_verilog_draft.specs.declared.scope.Kind.{Kind}
use Rattle.lp_verilog_draft.specs.declared.scope.Kind.TheVariants as kinds
use Rattle.lp_verilog_draft.specs.declared.scope.Entry.{Entry}
use Rattle.lp_verilog_draft.specs.declared.declaring.Form.{Form}
use Rattle.lp_verilog_draft.specs.declared.declaring.Form.TheVariants as forms
use Rattle.lp_verilog_draft.specs.declared.declaring.Declaring.{Declaring}
use Rattle.lp_verilog_draft.specs.Verdicts.{Goes, Stops}
use Rattle.lp_verilog_draft.specs.Scopes as scopes
use Rattle.lp_verilog_draft.specs.Scopes.{Entries, found, add_new, declare, declare_by, use_name, use_by, use_old, use_instance, use_net, agrees, same_range, is_port, entry_range, range_in, put, listed, headed, wire, instance_entry}
use Rattle.lp_verilog_draft.specs.Values.{is_in, between, indices, select, whole, digit, constant_bits}
use Rattle.lp_verilog.proofs.States.{Held}
use Rattle.lp_vwrite.specs.WellFormed.{is_scalar, has_index, is_filled}

-- ---- entries

-- the range of a net that is settled
abbrev pub ranged : Kind → Bool → Option BitRange → Option (Option BitRange)
ranged kinds.Port true r = Some r
ranged kinds.Wire true r = Some r
ranged _ _ r = None

abbrev pub net_range : Option Entry → Option (Option BitRange)
net_range None = None
net_range (Some e) = ranged e.kind e.fixed e.range

abbrev pub settled_range : Entries → ℕ → Option (Option BitRange)
settled_range es k = net_range (lookup (nat_eq k) es)

abbrev pub bit_in : Entries → Bit → Bool
bit_in es (bits.Net n) = is_scalar (settled_range es n.0)
bit_in es (bits.Select n i) = has_index (settled_range es n.0) i
bit_in es (bits.Const value) = true

-- what is settled stays so
abbrev pub Extends : Entries → Entries → Type 0
Extends old new = (k : ℕ) (r : Option BitRange) → settled_range old k ≡ Some r → settled_range new k ≡ Some r

pub bit_more : (old new : Entries) → Extends old new → (b : Bit) → bit_in old b ≡ true → bit_in new b ≡ true
bit_more old new more (bits.Net n) h = by (settled_range old n.0) refl h
  where
    by : (o : Option (Option BitRange)) → settled_range old n.0 ≡ o → is_scalar o ≡ true → is_scalar (settled_range new n.0) ≡ true
    by None e k = absurd (true≢false (sym k))
    by (Some None) e k = ap is_scalar (more n.0 None e)
    by (Some (Some r)) e k = absurd (true≢false (sym k))
bit_more old new more (bits.Select n i) h = by (settled_range old n.0) refl h
  where
    by : (o : Option (Option BitRange)) → settled_range old n.0 ≡ o → has_index o i ≡ true → has_index (settled_range new n.0) i ≡ true
    by None e k = absurd (true≢false (sym k))
    by (Some None) e k = absurd (true≢false (sym k))
    by (Some (Some r)) e k = ap (λ x. has_index x i) (more n.0 (Some r) e) ∙ k
bit_more old new more (bits.Const value) h = refl

-- what passes a test passes a weaker one
pub all_weaker : {A : Type 0} (p q : A → Bool) → ((x : A) → p x ≡ true → q x ≡ true) → (xs : List A) → list_all p xs ≡ true → list_all q xs ≡ true
all_weaker p q weaker [] h = refl
all_weaker p q weaker (x ∷ xs) h = let parts = and_parts (p x) (list_all p xs) h in and_from (q x) (list_all q xs) (weaker x parts.0) (all_weaker p q weaker xs parts.1)

abbrev pub with_instance : Kind → ℕ → List ℕ → List ℕ
with_instance kinds.Instance k ks = k ∷ ks
with_instance kinds.Port k ks = ks
with_instance kinds.Wire k ks = ks

-- the names of instances
abbrev pub instances_of : Entries → List ℕ
instances_of [] = []
instances_of (e ∷ es) = with_instance e.1.kind e.0 (instances_of es)

-- what is settled stays so, and there are the same instances
abbrev pub Keeps : Entries → Entries → Type 0
Keeps old new = Extends old new × (instances_of new ≡ instances_of old)

pub keeps_same : (es : Entries) → Keeps es es
keeps_same es = ((λ k r e. e), refl)

-- ---- an entry is put

lookup_put : (j k : ℕ) (v : Entry) (es : Entries) → lookup (nat_eq j) (insert_entry nat_eq es k v) ≡ cond (nat_eq j k) (Some v) (lookup (nat_eq j) es)
lookup_put j k v [] = refl
lookup_put j k v (x ∷ es) = by (nat_eq k x.0) refl (nat_eq j x.0) refl (lookup_put j k v es)
  where
    moved : (b : Bool) → nat_eq k x.0 ≡ true → nat_eq j x.0 ≡ b → nat_eq j k ≡ b
    moved b same e = ap (nat_eq j) (eqb-true k x.0 same) ∙ e

    apart : nat_eq k x.0 ≡ false → nat_eq j x.0 ≡ true → (b : Bool) → nat_eq j k ≡ b → nat_eq j k ≡ false
    apart other here false e = e
    apart other here true e = absurd (true≢false (sym (sym (ap (λ y. nat_eq y x.0) (eqb-true j k e)) ∙ here) ∙ other))

    by : (b : Bool) → nat_eq k x.0 ≡ b → (c : Bool) → nat_eq j x.0 ≡ c → lookup (nat_eq j) (insert_entry nat_eq es k v) ≡ cond (nat_eq j k) (Some v) (lookup (nat_eq j) es)
        → lookup (nat_eq j) (if b then (x.0, v) ∷ es else x ∷ insert_entry nat_eq es k v) ≡ cond (nat_eq j k) (Some v) (cond c (Some x.1) (lookup (nat_eq j) es))
    by true e true f more = rw (f, moved true e f) refl
    by true e false f more = rw (f, moved false e f) refl
    by false e true f more = rw (f, apart e f (nat_eq j k) refl) refl
    by false e false f more = rw f more

pub lookup_here : (k : ℕ) (v : Entry) (es : Entries) → lookup (nat_eq k) (insert_entry nat_eq es k v) ≡ Some v
lookup_here k v es = lookup_put k k v es ∙ ap (λ b. cond b (Some v) (lookup (nat_eq k) es)) (eq-eqb k k refl)

put_extends : (es : Entries) (k : ℕ) (v : Entry) → ((r : Option BitRange) → settled_range es k ≡ Some r → net_range (Some v) ≡ Some r) → Extends es (insert_entry nat_eq es k v)
put_extends es k v fits j r h = ap net_range (lookup_put j k v es) ∙ by (nat_eq j k) refl
  where
    by : (b : Bool) → nat_eq j k ≡ b → net_range (cond b (Some v) (lookup (nat_eq j) es)) ≡ Some r
    by true e = fits r (ap (settled_range es) (sym (eqb-true j k e)) ∙ h)
    by false e = h

abbrev pub is_instance : Kind → Bool
is_instance kinds.Instance = true
is_instance kinds.Port = false
is_instance kinds.Wire = false

abbrev pub no_instance : Option Entry → Bool
no_instance None = true
no_instance (Some e) = not (is_instance e.kind)

skipped : (kind : Kind) (k : ℕ) (ks : List ℕ) → not (is_instance kind) ≡ true → with_instance kind k ks ≡ ks
skipped kinds.Port k ks h = refl
skipped kinds.Wire k ks h = refl
skipped kinds.Instance k ks h = absurd (true≢false (sym h))

put_instances : (es : Entries) (k : ℕ) (v : Entry) → not (is_instance v.kind) ≡ true → no_instance (lookup (nat_eq k) es) ≡ true → instances_of (insert_entry nat_eq es k v) ≡ instances_of es
put_instances [] k v new old = skipped v.kind k [] new
put_instances (x ∷ es) k v new old = by (nat_eq k x.0) old (put_instances es k v new)
  where
    by : (b : Bool) → no_instance (cond b (Some x.1) (lookup (nat_eq k) es)) ≡ true → (no_instance (lookup (nat_eq k) es) ≡ true → instances_of (insert_entry nat_eq es k v) ≡ instances_of es)
        → instances_of (if b then (x.0, v) ∷ es else x ∷ insert_entry nat_eq es k v) ≡ instances_of (x ∷ es)
    by true h more = skipped v.kind x.0 (instances_of es) new ∙ sym (skipped x.1.kind x.0 (instances_of es) h)
    by false h more = ap (with_instance x.1.kind x.0) (more h)

-- a new instance comes last
put_last : (es : Entries) (k : ℕ) (v : Entry) → v.kind ≡ kinds.Instance → lookup (nat_eq k) es ≡ None → instances_of (insert_entry nat_eq es k v) ≡ instances_of es ++ k ∷ []
put_last [] k v new absent = ap (λ kind. with_instance kind k []) new
put_last (x ∷ es) k v new absent = by (nat_eq k x.0) absent (put_last es k v new)
  where
    pushed : (kind : Kind) (ks : List ℕ) → with_instance kind x.0 (ks ++ k ∷ []) ≡ with_instance kind x.0 ks ++ k ∷ []
    pushed kinds.Port ks = refl
    pushed kinds.Wire ks = refl
    pushed kinds.Instance ks = refl

    by : (b : Bool) → cond b (Some x.1) (lookup (nat_eq k) es) ≡ None → (lookup (nat_eq k) es ≡ None → instances_of (insert_entry nat_eq es k v) ≡ instances_of es ++ k ∷ [])
        → instances_of (if b then (x.0, v) ∷ es else x ∷ insert_entry nat_eq es k v) ≡ instances_of (x ∷ es) ++ k ∷ []
    by true h more = absurd cc
    by false h more = ap (with_instance x.1.kind x.0) (more h) ∙ pushed x.1.kind (instances_of es)

-- ---- declarations and uses

put_keeps : (es : Entries) (id : NameId) (v : Entry) (o : Option Entry) → found es id ≡ o → no_instance o ≡ true → not (is_instance v.kind) ≡ true → ((r : Option BitRange) → net_range o ≡ Some r → net_range (Some v) ≡ Some r) → Keeps es (put es id v)
put_keeps es id v o is old new fits = (put_extends es id.0 v (λ r h. fits r (ap net_range (sym is) ∙ h)), put_instances es id.0 v new (ap no_instance is ∙ old))

pub add_keeps : (es : Entries) (id : NameId) (v : Entry) (o : Option Entry) → found es id ≡ o → not (is_instance v.kind) ≡ true → Held (Keeps es) (add_new es id v o)
add_keeps es id v None is new = put_keeps es id v None is refl new (λ r h. absurd cc)
add_keeps es id v (Some x) is new = tt

-- a new instance
pub add_instance : (es : Entries) (id : NameId) (at : ℕ) (o : Option Entry) → found es id ≡ o → Held (λ new. Extends es new × (instances_of new ≡ instances_of es ++ id.0 ∷ [])) (add_new es id (instance_entry at) o)
add_instance es id at None is = (put_extends es id.0 (instance_entry at) (λ r h. let none : None ≡ Some r = ap net_range (sym is) ∙ h in absurd cc), put_last es id.0 (instance_entry at) refl is)
add_instance es id at (Some x) is = tt

range_is : (a b : Option BitRange) → same_range a b ≡ true → a ≡ b
range_is None None h = refl
range_is None (Some b) h = absurd (true≢false (sym h))
range_is (Some a) None h = absurd (true≢false (sym h))
range_is (Some a) (Some b) h =
    let parts = and_parts (a.left == b.left) (a.right == b.right) h in
    let left : a.left ≡ b.left = eqb-true a.left b.left parts.0 in
    let right : a.right ≡ b.right = eqb-true a.right b.right parts.1 in
    ap (λ l. Some (record { left = l; right = a.right })) left ∙ ap (λ r. Some (record { left = b.left; right = r })) right

-- a declaration keeps what is settled of a port
agreed : (d : Declaring) (e : Entry) → is_port e.kind ≡ true → agrees d e ≡ true → (r : Option BitRange) → net_range (Some e) ≡ Some r → ranged e.kind true d.range ≡ Some r
agreed d e port fits r h = by e.kind e.fixed port fits h
  where
    some : (a b : Option BitRange) → Some a ≡ Some b → a ≡ b
    some a b k = cc

    by : (kind : Kind) (fixed : Bool) → is_port kind ≡ true → (not fixed || same_range e.range d.range) ≡ true → ranged kind fixed e.range ≡ Some r → ranged kind true d.range ≡ Some r
    by kinds.Port true p f k = ap Some (sym (range_is e.range d.range f) ∙ some e.range r k)
    by kinds.Port false p f k = absurd cc
    by kinds.Wire fixed p f k = absurd (true≢false (sym p))
    by kinds.Instance fixed p f k = absurd (true≢false (sym p))

port_plain : (kind : Kind) → is_port kind ≡ true → not (is_instance kind) ≡ true
port_plain kinds.Port h = refl
port_plain kinds.Wire h = refl
port_plain kinds.Instance h = absurd (true≢false (sym h))

not_false : (b : Bool) → not b ≡ false → b ≡ true
not_false true h = refl
not_false false h = absurd (true≢false h)

direction_keeps : (d : Declaring) (es : Entries) (id : NameId) (o : Option Entry) → found es id ≡ o → Held (Keeps es) (scopes.give_direction d es id o)
direction_keeps d es id None is = tt
direction_keeps d es id (Some e) is = by (not (is_port e.kind)) refl (is_none e.direction && agrees d e) refl
  where
    by : (a : Bool) → not (is_port e.kind) ≡ a → (b : Bool) → (is_none e.direction && agrees d e) ≡ b → Held (Keeps es) (if a then Stops offs.Syntax else if b then Goes (put es id (record { kind = e.kind; direction = Some d.direction; range = d.range; fixed = true; wired = e.wired; at = e.at })) else Stops (offs.Duplicate id))
    by true p b f = tt
    by false p true f =
        let port = not_false (is_port e.kind) p in
        let parts = and_parts (is_none e.direction) (agrees d e) f in
        put_keeps es id (record { kind = e.kind; direction = Some d.direction; range = d.range; fixed = true; wired = e.wired; at = e.at }) (Some e) is (port_plain e.kind port) (port_plain e.kind port) (agreed d e port parts.1)
    by false p false f = tt

wire_keeps : (d : Declaring) (at : ℕ) (es : Entries) (id : NameId) (o : Option Entry) → found es id ≡ o → Held (Keeps es) (scopes.give_wire d at es id o)
wire_keeps d at es id None is = put_keeps es id (wire d.range at) None is refl refl (λ r h. absurd cc)
wire_keeps d at es id (Some e) is = by (is_port e.kind && (not e.wired && agrees d e)) refl
  where
    by : (b : Bool) → (is_port e.kind && (not e.wired && agrees d e)) ≡ b → Held (Keeps es) (if b then Goes (put es id (record { kind = e.kind; direction = e.direction; range = d.range; fixed = true; wired = true; at = e.at })) else Stops (offs.Duplicate id))
    by true f =
        let parts = and_parts (is_port e.kind) (not e.wired && agrees d e) f in
        let more = and_parts (not e.wired) (agrees d e) parts.1 in
        put_keeps es id (record { kind = e.kind; direction = e.direction; range = d.range; fixed = true; wired = true; at = e.at }) (Some e) is (port_plain e.kind parts.0) (port_plain e.kind parts.0) (agreed d e parts.0 more.1)
    by false f = tt

pub declare_keeps : (f : Form) (d : Declaring) (at : ℕ) (es : Entries) (id : NameId) → Held (Keeps es) (declare_by f d at es id)
declare_keeps forms.Header d at es id = add_keeps es id (headed d at) (found es id) refl refl
declare_keeps forms.Ports d at es id = direction_keeps d es id (found es id) refl
declare_keeps forms.Wires d at es id = wire_keeps d at es id (found es id) refl

-- a name in a value is a settled net then
abbrev pub Used : Entries → NameId → Entries → Type 0
Used old id new = Keeps old new × (settled_range new id.0 ≡ Some (range_in new id))

use_wire : (es : Entries) (id : NameId) (at : ℕ) → found es id ≡ None → Used es id (put es id (wire None at))
use_wire es id at is =
    let here = lookup_here id.0 (wire None at) es in
    (put_keeps es id (wire None at) None is refl refl (λ r h. absurd cc), ap net_range here ∙ ap (λ o. Some (entry_range o)) (sym here))

settle_used : (es : Entries) (id : NameId) (e : Entry) → found es id ≡ Some e → not (is_instance e.kind) ≡ true → Used es id (scopes.settle es id e)
settle_used es id e is net = by e.fixed refl
  where
    fixed_range : (kind : Kind) (r : Option BitRange) → not (is_instance kind) ≡ true → ranged kind true r ≡ Some r
    fixed_range kinds.Port r h = refl
    fixed_range kinds.Wire r h = refl
    fixed_range kinds.Instance r h = absurd (true≢false (sym h))

    loose : (kind : Kind) (r s : Option BitRange) → ranged kind false r ≡ Some s → ranged kind true r ≡ Some s
    loose kinds.Port r s h = absurd cc
    loose kinds.Wire r s h = absurd cc
    loose kinds.Instance r s h = absurd cc

    by : (b : Bool) → e.fixed ≡ b → Used es id (if b then es else put es id (record { kind = e.kind; direction = e.direction; range = e.range; fixed = true; wired = e.wired; at = e.at }))
    by true f = (keeps_same es, ap net_range is ∙ ap (λ b. ranged e.kind b e.range) f ∙ fixed_range e.kind e.range net ∙ ap (λ o. Some (entry_range o)) (sym is))
    by false f =
        let new : Entry = record { kind = e.kind; direction = e.direction; range = e.range; fixed = true; wired = e.wired; at = e.at } in
        let here = lookup_here id.0 new es in (
          put_keeps es id new (Some e) is net net (λ r h. loose e.kind e.range r (ap (λ b. ranged e.kind b e.range) (sym f) ∙ h)),
          ap net_range here ∙ fixed_range e.kind e.range net ∙ ap (λ o. Some (entry_range o)) (sym here),
        )

net_used : (side : Side) (es : Entries) (id : NameId) (e : Entry) → found es id ≡ Some e → not (is_instance e.kind) ≡ true → Held (Used es id) (use_net side es id e)
net_used sides.Right es id e is net = by e.fixed refl
  where
    by : (b : Bool) → e.fixed ≡ b → Held (Used es id) (if b then Goes es else Stops offs.Syntax)
    by true f = subst (Used es id) (ap (λ b. if b then es else put es id (record { kind = e.kind; direction = e.direction; range = e.range; fixed = true; wired = e.wired; at = e.at })) f) (settle_used es id e is net)
    by false f = tt
net_used sides.Left es id e is net = settle_used es id e is net
net_used sides.Connection es id e is net = settle_used es id e is net

pub use_used : (side : Side) (at : ℕ) (es : Entries) (id : NameId) (o : Option Entry) → found es id ≡ o → Held (Used es id) (use_by side at es id o)
use_used sides.Right at es id None is = tt
use_used sides.Left at es id None is = use_wire es id at is
use_used sides.Connection at es id None is = use_wire es id at is
use_used side at es id (Some e) is = by e.kind refl
  where
    refused : (s : Side) → Held (Used es id) (use_instance s id)
    refused sides.Right = tt
    refused sides.Left = tt
    refused sides.Connection = tt

    by : (kind : Kind) → e.kind ≡ kind → Held (Used es id) (use_old kind side es id e)
    by kinds.Instance k = refused side
    by kinds.Port k = net_used side es id e is (ap (λ x. not (is_instance x)) k)
    by kinds.Wire k = net_used side es id e is (ap (λ x. not (is_instance x)) k)

-- ---- the bits of values

inside : (r : BitRange) (i j k : ℕ) → is_in r i ≡ true → is_in r j ≡ true → nat_le i k ≡ true → nat_le k j ≡ true → is_in r k ≡ true
inside r i j k h g low high = grind (arith, nat_tests)

up_in : (r : BitRange) (i j k n : ℕ) → is_in r i ≡ true → is_in r j ≡ true → i + k + n ≤ j + 1 → list_all (is_in r) (indices true i k n) ≡ true
up_in r i j k zero h g most = refl
up_in r i j k (suc n) h g most = and_from (is_in r (i + k)) (list_all (is_in r) (indices true i (k + 1) n)) (inside r i j (i + k) h g (low i k) (high i j k n most)) (up_in r i j (k + 1) n h g (omega (arith, most)))
  where
    low : (a b : ℕ) → nat_le a (a + b) ≡ true
    low a b = grind (arith, nat_tests)

    high : (a b x y : ℕ) → a + x + suc y ≤ b + 1 → nat_le (a + x) b ≡ true
    high a b x y m = grind (arith, nat_tests, m)

down_in : (r : BitRange) (i j k n : ℕ) → is_in r i ≡ true → is_in r j ≡ true → j + k + n ≤ i + 1 → list_all (is_in r) (indices false i k n) ≡ true
down_in r i j k zero h g most = refl
down_in r i j k (suc n) h g most = and_from (is_in r (i - k)) (list_all (is_in r) (indices false i (k + 1) n)) (inside r j i (i - k) g h (low i j k n most) (high i k)) (down_in r i j (k + 1) n h g (omega (arith, most)))
  where
    low : (a b x y : ℕ) → b + x + suc y ≤ a + 1 → nat_le b (a - x) ≡ true
    low a b x y m = let more : b ≤ a - x = omega (arith, m) in grind (arith, nat_tests, more)

    high : (a x : ℕ) → nat_le (a - x) a ≡ true
    high a x = let less : a - x ≤ a = omega arith in grind (arith, nat_tests, less)

-- the indices between two of a range are of the range
pub between_in : (r : BitRange) (i j : ℕ) → is_in r i ≡ true → is_in r j ≡ true → list_all (is_in r) (between i j) ≡ true
between_in r i j h g = by (nat_le i j) refl
  where
    up : nat_le i j ≡ true → i + 0 + (j - i + 1) ≤ j + 1
    up e = let less : i ≤ j = grind (arith, nat_tests) in omega (arith, less)

    down : nat_le i j ≡ false → j + 0 + (i - j + 1) ≤ i + 1
    down e = let less : j ≤ i = grind (arith, nat_tests) in omega (arith, less)

    by : (b : Bool) → nat_le i j ≡ b → list_all (is_in r) (if b then indices true i 0 (j - i + 1) else indices false i 0 (i - j + 1)) ≡ true
    by true e = up_in r i j 0 (j - i + 1) h g (up e)
    by false e = down_in r i j 0 (i - j + 1) h g (down e)

selected_in : (es : Entries) (id : NameId) (r : BitRange) → settled_range es id.0 ≡ Some (Some r) → (ks : List ℕ) → list_all (is_in r) ks ≡ true → list_all (bit_in es) (map (λ k. bits.Select id k) ks) ≡ true
selected_in es id r is [] h = refl
selected_in es id r is (k ∷ ks) h =
    let parts = and_parts (is_in r k) (list_all (is_in r) ks) h in
    and_from (bit_in es (bits.Select id k)) (list_all (bit_in es) (map (λ i. bits.Select id i) ks)) (ap (λ o. has_index o k) is ∙ parts.0) (selected_in es id r is ks parts.1)

pub select_in : (es : Entries) (id : NameId) (r : BitRange) (i j : ℕ) → settled_range es id.0 ≡ Some (Some r) → is_in r i ≡ true → is_in r j ≡ true → list_all (bit_in es) (select id i j) ≡ true
select_in es id r i j is h g = selected_in es id r is (between i j) (between_in r i j h g)

ends_in : (r : BitRange) → (is_in r r.left ≡ true) × (is_in r r.right ≡ true)
ends_in r = (grind (arith, nat_tests), grind (arith, nat_tests))

pub whole_in : (es : Entries) (id : NameId) (r : Option BitRange) → settled_range es id.0 ≡ Some r → list_all (bit_in es) (whole id r) ≡ true
whole_in es id None is = and_from (is_scalar (settled_range es id.0)) true (ap is_scalar is) refl
whole_in es id (Some r) is = let ends = ends_in r in select_in es id r r.left r.right is ends.0 ends.1

pub constants_in : (es : Entries) (value : ℕ) (ks : List ℕ) → list_all (bit_in es) (map (λ k. bits.Const (digit value k)) ks) ≡ true
constants_in es value [] = refl
constants_in es value (k ∷ ks) = constants_in es value ks

abbrev pub is_net_bit : Bit → Bool
is_net_bit (bits.Const value) = false
is_net_bit (bits.Net n) = true
is_net_bit (bits.Select n i) = true

pub selected_nets : (id : NameId) (ks : List ℕ) → list_all is_net_bit (map (λ k. bits.Select id k) ks) ≡ true
selected_nets id [] = refl
selected_nets id (k ∷ ks) = selected_nets id ks

pub whole_nets : (id : NameId) (r : Option BitRange) → list_all is_net_bit (whole id r) ≡ true
whole_nets id None = refl
whole_nets id (Some r) = selected_nets id (between r.left r.right)

pub select_filled : (id : NameId) (i j : ℕ) → is_filled (select id i j) ≡ true
select_filled id i j = by (nat_le i j)
  where
    next : (n : ℕ) → n + 1 ≡ suc n
    next n = omega arith

    by : (b : Bool) → is_filled (map (λ k. bits.Select id k) (if b then indices true i 0 (j - i + 1) else indices false i 0 (i - j + 1))) ≡ true
    by true = ap (λ n. is_filled (map (λ k. bits.Select id k) (indices true i 0 n))) (next (j - i))
    by false = ap (λ n. is_filled (map (λ k. bits.Select id k) (indices false i 0 n))) (next (i - j))

pub whole_filled : (id : NameId) (r : Option BitRange) → is_filled (whole id r) ≡ true
whole_filled id None = refl
whole_filled id (Some r) = select_filled id r.left r.right

pub constant_filled : (size value : ℕ) → nat_lt 0 size ≡ true → is_filled (constant_bits size value) ≡ true
constant_filled zero value h = absurd (true≢false (sym h))
constant_filled (suc size) value h = refl

pub filled_end : {A : Type 0} (xs ys : List A) → is_filled ys ≡ true → is_filled (xs ++ ys) ≡ true
filled_end [] ys h = h
filled_end (x ∷ xs) ys h = refl
