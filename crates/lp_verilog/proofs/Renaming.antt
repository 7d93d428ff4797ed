-- A reading under other numbers of names: each part with its names renumbered.
use Rattle.std.proofs.Common.{◌≡◌, ℕ, ◌-◌, Bool, true, false, List, [], ◌∷◌, ◌++◌, map, Option, Some, None, refl, sym, ap, ◌∙◌, inl, inr}
use Rattle.std.specs.Prelude.{nat_eq, cond, is_none, not, ◌&&◌, if◌then◌else◌}
use Rattle.std.specs.List.{list_any}
use Rattle.std.specs.Map.{lookup}
use Rattle.indexmap.specs.IndexMap.{insert_entry}
use Rattle.indexmap.specs.IndexSet.{insert_key}
use Rattle.std.proofs.lemmas.Bool.{false_from_ne_true, eqb-true, eq-eqb}
use Rattle.std.proofs.lemmas.Bool.Decides.{eqb_tells}
use Rattle.std.proofs.lemmas.List.{map-append}
use Rattle.lp_text.specs.declared.names.NameId.{NameId}
use Rattle.lp_model.specs.declared.netlist.Direction.{Direction}
use Rattle.lp_model.specs.declared.netlist.BitRange.{BitRange}
use Rattle.lp_model.specs.declared.netlist.Port.{Port}
use Rattle.lp_model.specs.declared.netlist.NetDecl.{NetDecl}
use Rattle.lp_model.specs.declared.netlist.Connection.{Connection}
use Rattle.lp_model.specs.declared.netlist.Connections.{Connections}
use Rattle.lp_model.specs.declared.netlist.Connections.TheVariants.{Named, Ordered}
use Rattle.lp_model.specs.declared.netlist.Instance.{Instance}
use Rattle.lp_model.specs.declared.netlist.Assign.{Assign}
use Rattle.lp_model.specs.declared.netlist.Module.{Module}
use Rattle.lp_model.specs.declared.bits.Bit.{Bit}
use Rattle.lp_model.specs.declared.bits.Bit.TheVariants as bits
use Rattle.lp_verilog_tokens.specs.declared.token.Token.{Token}
use Rattle.lp_verilog_tokens.specs.declared.token.Token.TheVariants as tokens
use Rattle.lp_verilog_draft.specs.declared.stop.Off.{Off}
use Rattle.lp_verilog_draft.specs.declared.stop.Off.TheVariants as offs
use Rattle.lp_verilog_draft.specs.declared.value.Side.{Side}
use Rattle.lp_verilog_draft.specs.declared.value.Side.TheVariants as sides
use Rattle.lp_verilog_draft.specs.declared.value.Value.{Value}
use Rattle.lp_verilog_draft.specs.declared.scope.Kind.{Kind}
use Rattle.lp_verilog_draft.specs.declared.scope.Kind.TheVariants as kinds
use Rattle.lp_verilog_draft.specs.declared.scope.Entry.{Entry}
use Rattle.lp_verilog_draft.specs.declared.declaring.Form.{Form}
use Rattle.lp_verilog_draft.specs.declared.declaring.Form.TheVariants as forms
use Rattle.lp_verilog_draft.specs.declared.declaring.Declaring.{Declaring}
use Rattle.lp_verilog_draft.specs.declared.draft.Joint.{Joint}
use Rattle.lp_verilog_draft.specs.declared.draft.Draft.{Draft}
use Rattle.lp_verilog_grammar.specs.declared.reader.Reader.{Reader}
use Rattle.lp_verilog_draft.specs.Verdicts.{Verdict, Goes, Stops}
use Rattle.lp_verilog_draft.specs.Scopes.{Entries, lacking_of, ports_of, nets_of, port_of, net_of, port_with, net_with, with_some, lacks_direction, put, found, add_new, headed, wire, is_port, agrees, give_direction, give_wire, declare_by, use_new, use_instance, use_net, settle, use_old, use_by, use_name, entry_range, range_in}
use Rattle.lp_verilog_draft.specs.Values.{is_in, goes_along, between, indices, select, whole, digit, constant_bits}
use Rattle.lp_verilog_draft.specs.Steps

module _ (ρ : ℕ → ℕ) where
  abbrev pub nm : NameId → NameId
  nm n = record { 0 = ρ n.0 }

  abbrev pub tk : Token → Token
  tk (tokens.Name n) = tokens.Name (nm n)
  tk (tokens.Mark m) = tokens.Mark m
  tk (tokens.Keyword k) = tokens.Keyword k
  tk (tokens.Number v) = tokens.Number v
  tk (tokens.Constant size value) = tokens.Constant size value
  tk tokens.Unread = tokens.Unread
  tk tokens.Foreign = tokens.Foreign
  tk tokens.Broken = tokens.Broken

  abbrev pub bt : Bit → Bit
  bt (bits.Net n) = bits.Net (nm n)
  bt (bits.Select n i) = bits.Select (nm n) i
  bt (bits.Const b) = bits.Const b

  abbrev pub bts : List Bit → List Bit
  bts xs = map bt xs

  abbrev pub pr : (ℕ × Entry) → (ℕ × Entry)
  pr e = (ρ e.0, e.1)

  abbrev pub es : Entries → Entries
  es xs = map pr xs

  abbrev pub pt : Port → Port
  pt p = record { name = nm p.name; range = p.range; direction = p.direction }

  abbrev pub nt : NetDecl → NetDecl
  nt n = record { name = nm n.name; range = n.range }

  abbrev pub cn : Connection → Connection
  cn c = record { bits = bts c.bits; port = nm c.port }

  abbrev pub cs : Connections → Connections
  cs (Named xs) = Named (map cn xs)
  cs (Ordered xs) = Ordered (map bts xs)

  abbrev pub it : Instance → Instance
  it i = record { name = nm i.name; target = nm i.target; connections = cs i.connections }

  abbrev pub sg : Assign → Assign
  sg a = record { left = bts a.left; right = bts a.right }

  abbrev pub md : Module → Module
  md m = record { name = nm m.name; ports = map pt m.ports; nets = map nt m.nets; instances = map it m.instances; assigns = map sg m.assigns }

  abbrev pub vl : Value → Value
  vl v = record { side = v.side; subject = nm v.subject; range = v.range; index = v.index; bits = bts v.bits }

  abbrev pub jt : Joint → Joint
  jt j = record { target = nm j.target; name = nm j.name; port = nm j.port; positional = j.positional; named = map cn j.named; ordered = map bts j.ordered }

  abbrev pub dr : Draft → Draft
  dr d = record { name = nm d.name; scope = es d.scope; instances = map it d.instances; assigns = map sg d.assigns }

  abbrev pub rd : Reader → Reader
  rd m = record { waiting = m.waiting; modules = map md m.modules; taken = map ρ m.taken; draft = dr m.draft; declaring = m.declaring; joint = jt m.joint; value = vl m.value; left = bts m.left }

  abbrev pub off : Off → Off
  off offs.Syntax = offs.Syntax
  off offs.Unsupported = offs.Unsupported
  off (offs.Duplicate n) = offs.Duplicate (nm n)
  off (offs.Lacking k) = offs.Lacking k

  abbrev pub vd : {A : Type 0} → (A → A) → Verdict A → Verdict A
  vd f (Goes x) = Goes (f x)
  vd f (Stops o) = Stops (off o)

  vd_if : {A : Type 0} (f : A → A) (b : Bool) (x y : Verdict A) → (if b then vd f x else vd f y) ≡ vd f (if b then x else y)
  vd_if f true x y = refl
  vd_if f false x y = refl

  selected : (n : NameId) (xs : List ℕ) → map (λ k. bits.Select (nm n) k) xs ≡ bts (map (λ k. bits.Select n k) xs)
  selected n [] = refl
  selected n (x ∷ xs) = ap (λ ys. bits.Select (nm n) x ∷ ys) (selected n xs)

  pub select_same : (n : NameId) (i j : ℕ) → select (nm n) i j ≡ bts (select n i j)
  select_same n i j = selected n (between i j)

  pub whole_same : (n : NameId) (r : Option BitRange) → whole (nm n) r ≡ bts (whole n r)
  whole_same n None = refl
  whole_same n (Some r) = select_same n r.left r.right

  digits_same : (value : ℕ) (xs : List ℕ) → map (λ p. bits.Const (digit value p)) xs ≡ bts (map (λ p. bits.Const (digit value p)) xs)
  digits_same value [] = refl
  digits_same value (x ∷ xs) = ap (λ ys. bits.Const (digit value x) ∷ ys) (digits_same value xs)

  pub constant_same : (size value : ℕ) → constant_bits size value ≡ bts (constant_bits size value)
  constant_same size value = digits_same value (indices false (size - 1) 0 size)

  pub lacking_same : (xs : Entries) → lacking_of (es xs) ≡ lacking_of xs
  lacking_same [] = refl
  lacking_same (x ∷ xs) = ap (λ o. if lacks_direction x.1 then Some x.1.at else o) (lacking_same xs)

  port_same : (k : ℕ) (e : Entry) (kind : Kind) (d : Option Direction) (ps : List Port) → with_some (port_with (ρ k) e kind d) (map pt ps) ≡ map pt (with_some (port_with k e kind d) ps)
  port_same k e kinds.Port (Some d) ps = refl
  port_same k e kinds.Port None ps = refl
  port_same k e kinds.Wire d ps = refl
  port_same k e kinds.Instance d ps = refl

  pub ports_same : (xs : Entries) → ports_of (es xs) ≡ map pt (ports_of xs)
  ports_same [] = refl
  ports_same (x ∷ xs) = ap (λ ps. with_some (port_of (ρ x.0) x.1) ps) (ports_same xs) ∙ port_same x.0 x.1 x.1.kind x.1.direction (ports_of xs)

  net_same : (k : ℕ) (e : Entry) (kind : Kind) (ns : List NetDecl) → with_some (net_with (ρ k) e kind) (map nt ns) ≡ map nt (with_some (net_with k e kind) ns)
  net_same k e kinds.Port ns = refl
  net_same k e kinds.Wire ns = refl
  net_same k e kinds.Instance ns = refl

  pub nets_same : (xs : Entries) → nets_of (es xs) ≡ map nt (nets_of xs)
  nets_same [] = refl
  nets_same (x ∷ xs) = ap (λ ns. with_some (net_of (ρ x.0) x.1) ns) (nets_same xs) ∙ net_same x.0 x.1 x.1.kind (nets_of xs)

  -- values
  value_with_same : (more : List Bit) (v : Value) → Steps.value_with (bts more) (vl v) ≡ vl (Steps.value_with more v)
  value_with_same more v = ap (λ xs. record { side = v.side; subject = nm v.subject; range = v.range; index = v.index; bits = xs }) (sym (map-append bt v.bits more))

  pub select_step : (v : Value) (r : Option BitRange) → Steps.value_select_by (vl v) r ≡ vd vl (Steps.value_select_by v r)
  select_step v None = refl
  select_step v (Some r) = refl

  pub index_step : (i : ℕ) (v : Value) (r : Option BitRange) → Steps.value_index_by i (vl v) r ≡ vd vl (Steps.value_index_by i v r)
  index_step i v None = refl
  index_step i v (Some r) = vd_if vl (is_in r i) (Goes (record v { index = i })) (Stops offs.Syntax)

  pub one_step : (v : Value) → Steps.value_one (vl v) ≡ vl (Steps.value_one v)
  one_step v = value_with_same (bits.Select v.subject v.index ∷ []) v

  pub whole_step : (v : Value) → Steps.value_whole (vl v) ≡ vl (Steps.value_whole v)
  whole_step v = ap (λ xs. Steps.value_with xs (vl v)) (whole_same v.subject v.range) ∙ value_with_same (whole v.subject v.range) v

  pub many_step : (j : ℕ) (v : Value) (r : Option BitRange) → Steps.value_many_by j (vl v) r ≡ vd vl (Steps.value_many_by j v r)
  many_step j v None = refl
  many_step j v (Some r) =
      let more = select v.subject v.index j in
      ap (λ x. if is_in r j && goes_along r v.index j then Goes x else Stops offs.Syntax) (ap (λ xs. Steps.value_with xs (vl v)) (select_same v.subject v.index j) ∙ value_with_same more v)
      ∙ vd_if vl (is_in r j && goes_along r v.index j) (Goes (Steps.value_with more v)) (Stops offs.Syntax)

  pub constant_step : (side : Side) (size value : ℕ) (v : Value) → Steps.constant_on side size value (vl v) ≡ vd vl (Steps.constant_on side size value v)
  constant_step sides.Left size value v = refl
  constant_step sides.Right size value v = ap Goes (ap (λ xs. Steps.value_with xs (vl v)) (constant_same size value) ∙ value_with_same (constant_bits size value) v)
  constant_step sides.Connection size value v = ap Goes (ap (λ xs. Steps.value_with xs (vl v)) (constant_same size value) ∙ value_with_same (constant_bits size value) v)

module _ (ρ : ℕ → ℕ) (inj : (i j : ℕ) → ρ i ≡ ρ j → i ≡ j) where
  same_number : (i j : ℕ) → nat_eq (ρ i) (ρ j) ≡ nat_eq i j
  same_number i j =
      elim (eqb_tells i j) [
        | inl yes_ ↦ eq-eqb (ρ i) (ρ j) (ap ρ yes_.1) ∙ sym yes_.0
        | inr no_ ↦ false_from_ne_true (nat_eq (ρ i) (ρ j)) (λ e. no_.1 (inj i j (eqb-true (ρ i) (ρ j) e))) ∙ sym no_.0
      ]

  pub lookup_same : (k : ℕ) (xs : Entries) → lookup (nat_eq (ρ k)) (es ρ xs) ≡ lookup (nat_eq k) xs
  lookup_same k [] = refl
  lookup_same k (x ∷ xs) = rw (same_number k x.0) (ap (λ o. cond (nat_eq k x.0) (Some x.1) o) (lookup_same k xs))

  insert_same : (k : ℕ) (e : Entry) (xs : Entries) → insert_entry nat_eq (es ρ xs) (ρ k) e ≡ es ρ (insert_entry nat_eq xs k e)
  insert_same k e [] = refl
  insert_same k e (x ∷ xs) = rw (same_number k x.0) (by (nat_eq k x.0) (insert_same k e xs))
    where
      by : (b : Bool) → insert_entry nat_eq (es ρ xs) (ρ k) e ≡ es ρ (insert_entry nat_eq xs k e) → (if b then (ρ x.0, e) ∷ es ρ xs else pr ρ x ∷ insert_entry nat_eq (es ρ xs) (ρ k) e) ≡ es ρ (if b then (x.0, e) ∷ xs else x ∷ insert_entry nat_eq xs k e)
      by true more = refl
      by false more = ap (λ ys. pr ρ x ∷ ys) more

  pub any_same : (k : ℕ) (xs : List ℕ) → list_any (nat_eq (ρ k)) (map ρ xs) ≡ list_any (nat_eq k) xs
  any_same k [] = refl
  any_same k (x ∷ xs) = rw (same_number k x, any_same k xs) refl

  pub insert_key_same : (k : ℕ) (xs : List ℕ) → insert_key nat_eq (map ρ xs) (ρ k) ≡ map ρ (insert_key nat_eq xs k)
  insert_key_same k xs = rw (any_same k xs) (by (list_any (nat_eq k) xs))
    where
      by : (b : Bool) → (if b then map ρ xs else map ρ xs ++ ρ k ∷ []) ≡ map ρ (if b then xs else xs ++ k ∷ [])
      by true = refl
      by false = sym (map-append ρ xs (k ∷ []))

  put_same : (s : Entries) (n : NameId) (e : Entry) → put (es ρ s) (nm ρ n) e ≡ es ρ (put s n e)
  put_same s n e = insert_same n.0 e s

  add_new_step : (s : Entries) (n : NameId) (e : Entry) (o : Option Entry) → add_new (es ρ s) (nm ρ n) e o ≡ vd ρ (es ρ) (add_new s n e o)
  add_new_step s n e None = ap Goes (put_same s n e)
  add_new_step s n e (Some other) = refl

  pub add_new_same : (s : Entries) (n : NameId) (e : Entry) → add_new (es ρ s) (nm ρ n) e (found (es ρ s) (nm ρ n)) ≡ vd ρ (es ρ) (add_new s n e (found s n))
  add_new_same s n e = ap (add_new (es ρ s) (nm ρ n) e) (lookup_same n.0 s) ∙ add_new_step s n e (found s n)

  put_if : (b : Bool) (s : Entries) (n : NameId) (e : Entry) (o : Off) → (if b then Goes (put (es ρ s) (nm ρ n) e) else Stops (off ρ o)) ≡ vd ρ (es ρ) (if b then Goes (put s n e) else Stops o)
  put_if true s n e o = ap Goes (put_same s n e)
  put_if false s n e o = refl

  direction_step : (d : Declaring) (s : Entries) (n : NameId) (o : Option Entry) → give_direction d (es ρ s) (nm ρ n) o ≡ vd ρ (es ρ) (give_direction d s n o)
  direction_step d s n None = refl
  direction_step d s n (Some e) = by (not (is_port e.kind))
    where
      new : Entry
      new = record { kind = e.kind; direction = Some d.direction; range = d.range; fixed = true; wired = e.wired; at = e.at }

      by : (b : Bool) → (if b then Stops offs.Syntax else if is_none e.direction && agrees d e then Goes (put (es ρ s) (nm ρ n) new) else Stops (offs.Duplicate (nm ρ n))) ≡ vd ρ (es ρ) (if b then Stops offs.Syntax else if is_none e.direction && agrees d e then Goes (put s n new) else Stops (offs.Duplicate n))
      by true = refl
      by false = put_if (is_none e.direction && agrees d e) s n new (offs.Duplicate n)

  wire_step : (d : Declaring) (at : ℕ) (s : Entries) (n : NameId) (o : Option Entry) → give_wire d at (es ρ s) (nm ρ n) o ≡ vd ρ (es ρ) (give_wire d at s n o)
  wire_step d at s n None = ap Goes (put_same s n (wire d.range at))
  wire_step d at s n (Some e) = put_if (is_port e.kind && (not e.wired && agrees d e)) s n (record { kind = e.kind; direction = e.direction; range = d.range; fixed = true; wired = true; at = e.at }) (offs.Duplicate n)

  pub declare_same : (f : Form) (d : Declaring) (at : ℕ) (s : Entries) (n : NameId) → declare_by f d at (es ρ s) (nm ρ n) ≡ vd ρ (es ρ) (declare_by f d at s n)
  declare_same forms.Header d at s n = add_new_same s n (headed d at)
  declare_same forms.Ports d at s n = ap (give_direction d (es ρ s) (nm ρ n)) (lookup_same n.0 s) ∙ direction_step d s n (found s n)
  declare_same forms.Wires d at s n = ap (give_wire d at (es ρ s) (nm ρ n)) (lookup_same n.0 s) ∙ wire_step d at s n (found s n)

  new_step : (side : Side) (at : ℕ) (s : Entries) (n : NameId) → use_new side at (es ρ s) (nm ρ n) ≡ vd ρ (es ρ) (use_new side at s n)
  new_step sides.Right at s n = refl
  new_step sides.Left at s n = ap Goes (put_same s n (wire None at))
  new_step sides.Connection at s n = ap Goes (put_same s n (wire None at))

  instance_step : (side : Side) (n : NameId) → use_instance side (nm ρ n) ≡ vd ρ (es ρ) (use_instance side n)
  instance_step sides.Right n = refl
  instance_step sides.Left n = refl
  instance_step sides.Connection n = refl

  settle_same : (s : Entries) (n : NameId) (e : Entry) → settle (es ρ s) (nm ρ n) e ≡ es ρ (settle s n e)
  settle_same s n e = by e.fixed
    where
      new : Entry
      new = record { kind = e.kind; direction = e.direction; range = e.range; fixed = true; wired = e.wired; at = e.at }

      by : (b : Bool) → (if b then es ρ s else put (es ρ s) (nm ρ n) new) ≡ es ρ (if b then s else put s n new)
      by true = refl
      by false = put_same s n new

  net_step : (side : Side) (s : Entries) (n : NameId) (e : Entry) → use_net side (es ρ s) (nm ρ n) e ≡ vd ρ (es ρ) (use_net side s n e)
  net_step sides.Right s n e = by e.fixed
    where
      by : (b : Bool) → (if b then Goes (es ρ s) else Stops offs.Syntax) ≡ vd ρ (es ρ) (if b then Goes s else Stops offs.Syntax)
      by true = refl
      by false = refl
  net_step sides.Left s n e = ap Goes (settle_same s n e)
  net_step sides.Connection s n e = ap Goes (settle_same s n e)

  old_step : (k : Kind) (side : Side) (s : Entries) (n : NameId) (e : Entry) → use_old k side (es ρ s) (nm ρ n) e ≡ vd ρ (es ρ) (use_old k side s n e)
  old_step kinds.Instance side s n e = instance_step side n
  old_step kinds.Port side s n e = net_step side s n e
  old_step kinds.Wire side s n e = net_step side s n e

  use_step : (side : Side) (at : ℕ) (s : Entries) (n : NameId) (o : Option Entry) → use_by side at (es ρ s) (nm ρ n) o ≡ vd ρ (es ρ) (use_by side at s n o)
  use_step side at s n None = new_step side at s n
  use_step side at s n (Some e) = old_step e.kind side s n e

  pub use_same : (side : Side) (at : ℕ) (s : Entries) (n : NameId) → use_name side at (es ρ s) (nm ρ n) ≡ vd ρ (es ρ) (use_name side at s n)
  use_same side at s n = ap (use_by side at (es ρ s) (nm ρ n)) (lookup_same n.0 s) ∙ use_step side at s n (found s n)

  pub range_same : (s : Entries) (n : NameId) → range_in (es ρ s) (nm ρ n) ≡ range_in s n
  range_same s n = ap entry_range (lookup_same n.0 s)
