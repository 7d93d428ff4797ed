-- A module of a text has no more ports and no more assigns than the text has bytes: each token adds at most one.
use Rattle.std.proofs.Common.{◌≡◌, ℕ, zero, suc, ◌+◌, ◌-◌, ◌≤◌, Bool, true, false, List, [], ◌∷◌, ◌++◌, length, Option, Some, None, refl, sym, ap, subst, arith}
use Rattle.std.specs.Prelude.{nat_eq, is_none, not, ◌&&◌, if◌then◌else◌}
use Rattle.std.specs.List.{list_any}
use Rattle.std.proofs.lemmas.List.{length-append}
use Rattle.indexmap.specs.IndexMap.{insert_entry}
use Rattle.indexmap.specs.IndexSet.{insert_key}
use Rattle.lp_text.specs.declared.names.NameId.{NameId}
use Rattle.lp_model.specs.declared.netlist.Direction.{Direction}
use Rattle.lp_model.specs.declared.netlist.Module.{Module}
use Rattle.lp_verilog_tokens.specs.declared.token.Token.{Token}
use Rattle.lp_verilog_tokens.specs.declared.token.Token.TheVariants as tokens
use Rattle.lp_verilog_tokens.specs.declared.token.Keyword.TheVariants as keywords
use Rattle.lp_verilog_tokens.specs.Cutting.{Piece}
use Rattle.lp_verilog_draft.specs.declared.stop.Off.TheVariants as offs
use Rattle.lp_verilog_draft.specs.declared.value.Side.{Side}
use Rattle.lp_verilog_draft.specs.declared.value.Side.TheVariants as sides
use Rattle.lp_verilog_draft.specs.declared.value.Value.{Value}
use Rattle.lp_verilog_draft.specs.declared.scope.Kind.{Kind}
use Rattle.lp_verilog_draft.specs.declared.scope.Kind.TheVariants as kinds
use Rattle.lp_verilog_draft.specs.declared.scope.Entry.{Entry}
use Rattle.lp_verilog_draft.specs.declared.declaring.Form.{Form}
use Rattle.lp_verilog_draft.specs.declared.declaring.Form.TheVariants as forms
use Rattle.lp_verilog_draft.specs.declared.declaring.Declaring.{Declaring}
use Rattle.lp_verilog_draft.specs.declared.draft.Draft.{Draft}
use Rattle.lp_verilog_draft.specs.Verdicts.{Verdict, Goes, Stops, and_then}
use Rattle.lp_verilog_draft.specs.Scopes as scopes
use Rattle.lp_verilog_draft.specs.Scopes.{Entries, found, lacking_of, ports_of, port_with, with_some, add_new, declare, declare_by, use_name, use_by, use_old, use_instance, use_net, agrees, is_port, put, listed, headed, wire, instance_entry}
use Rattle.lp_verilog_draft.specs.Steps
use Rattle.lp_verilog_grammar.specs.declared.symbol.Symbol.{Symbol}
use Rattle.lp_verilog_grammar.specs.declared.symbol.Symbol.TheVariants as symbols
use Rattle.lp_verilog_grammar.specs.declared.symbol.Action.{Action}
use Rattle.lp_verilog_grammar.specs.declared.symbol.Action.TheVariants as actions
use Rattle.lp_verilog_grammar.specs.declared.reader.Reader.{Reader}
use Rattle.lp_verilog_grammar.specs.Grammar.{Production, production}
use Rattle.lp_verilog_grammar.specs.Machine.{start, step, settle, settled, is_bracket, take_by, produced, accepts, with_value, scoped, valued, begun_instance, with_subject, start_value, perform}
use Rattle.lp_verilog.specs.Reading.{Whole, Left, behind, piece_bytes}
use Rattle.lp_verilog.specs.Denotes.{numbered, Follows, Leads, Denotes}
use Rattle.lp_verilog.specs.Laws.{HasFew, AreFew}
use Rattle.lp_verilog.proofs.States.{Held}
use Rattle.lp_verilog.proofs.Found.{shorter}

-- ---- modules

abbrev pub AllFew : ℕ → List Module → Type 0
AllFew n [] = Unit {0}
AllFew n (m ∷ ms) = HasFew n m × AllFew n ms

few_more : (n k : ℕ) (m : Module) → n ≤ k → HasFew n m → HasFew k m
few_more n k m le h = record { ports = omega (arith, le, h.ports); assigns = omega (arith, le, h.assigns) }

all_more : (n k : ℕ) (ms : List Module) → n ≤ k → AllFew n ms → AllFew k ms
all_more n k [] le h = tt
all_more n k (m ∷ ms) le h = (few_more n k m le h.0, all_more n k ms le h.1)

all_end : (n : ℕ) (ms : List Module) (m : Module) → AllFew n ms → HasFew n m → AllFew n (ms ++ m ∷ [])
all_end n [] m h g = (g, tt)
all_end n (x ∷ ms) m h g = (h.0, all_end n ms m h.1 g)

are_few : (n : ℕ) (ms : List Module) → AllFew n ms → AreFew n ms
are_few n [] h k d l = let none : ⊥ = omega (arith, l) in absurd none
are_few n (m ∷ ms) h zero d l = h.0
are_few n (m ∷ ms) h (suc k) d l = are_few n ms h.1 k d (omega (arith, l))

-- ---- scopes grow by one entry at most

abbrev Grows : Entries → Entries → Type 0
Grows es fs = length fs ≤ length es + 1

insert_grows : (k : ℕ) (v : Entry) (es : Entries) → Grows es (insert_entry nat_eq es k v)
insert_grows k v [] = omega arith
insert_grows k v (e ∷ es) = by (nat_eq k e.0) (insert_grows k v es)
  where
    by : (b : Bool) → Grows es (insert_entry nat_eq es k v) → Grows (e ∷ es) (if b then (e.0, v) ∷ es else e ∷ insert_entry nat_eq es k v)
    by true h = omega arith
    by false h = omega (arith, h)

put_if : (b : Bool) (es : Entries) (id : NameId) (e : Entry) → Held (Grows es) (if b then Goes (put es id e) else Stops (offs.Duplicate id))
put_if true es id e = insert_grows id.0 e es
put_if false es id e = tt

add_grows : (es : Entries) (id : NameId) (e : Entry) (o : Option Entry) → Held (Grows es) (add_new es id e o)
add_grows es id e None = insert_grows id.0 e es
add_grows es id e (Some x) = tt

direction_grows : (d : Declaring) (es : Entries) (id : NameId) (o : Option Entry) → Held (Grows es) (scopes.give_direction d es id o)
direction_grows d es id None = tt
direction_grows d es id (Some e) = by (not (is_port e.kind))
  where
    new : Entry
    new = record { kind = e.kind; direction = Some d.direction; range = d.range; fixed = true; wired = e.wired; at = e.at }

    by : (b : Bool) → Held (Grows es) (if b then Stops offs.Syntax else if is_none e.direction && agrees d e then Goes (put es id new) else Stops (offs.Duplicate id))
    by true = tt
    by false = put_if (is_none e.direction && agrees d e) es id new

wire_grows : (d : Declaring) (at : ℕ) (es : Entries) (id : NameId) (o : Option Entry) → Held (Grows es) (scopes.give_wire d at es id o)
wire_grows d at es id None = insert_grows id.0 (wire d.range at) es
wire_grows d at es id (Some e) = put_if (is_port e.kind && (not e.wired && agrees d e)) es id (record { kind = e.kind; direction = e.direction; range = d.range; fixed = true; wired = true; at = e.at })

declare_grows : (f : Form) (d : Declaring) (at : ℕ) (es : Entries) (id : NameId) → Held (Grows es) (declare_by f d at es id)
declare_grows forms.Header d at es id = add_grows es id (headed d at) (found es id)
declare_grows forms.Ports d at es id = direction_grows d es id (found es id)
declare_grows forms.Wires d at es id = wire_grows d at es id (found es id)

settle_grows : (es : Entries) (id : NameId) (e : Entry) → Grows es (scopes.settle es id e)
settle_grows es id e = by e.fixed
  where
    new : Entry
    new = record { kind = e.kind; direction = e.direction; range = e.range; fixed = true; wired = e.wired; at = e.at }

    by : (b : Bool) → Grows es (if b then es else put es id new)
    by true = omega arith
    by false = insert_grows id.0 new es

net_grows : (side : Side) (es : Entries) (id : NameId) (e : Entry) → Held (Grows es) (use_net side es id e)
net_grows sides.Right es id e = by e.fixed
  where
    by : (b : Bool) → Held (Grows es) (if b then Goes es else Stops offs.Syntax)
    by true = omega arith
    by false = tt
net_grows sides.Left es id e = settle_grows es id e
net_grows sides.Connection es id e = settle_grows es id e

use_grows : (side : Side) (at : ℕ) (es : Entries) (id : NameId) (o : Option Entry) → Held (Grows es) (use_by side at es id o)
use_grows sides.Right at es id None = tt
use_grows sides.Left at es id None = insert_grows id.0 (wire None at) es
use_grows sides.Connection at es id None = insert_grows id.0 (wire None at) es
use_grows side at es id (Some e) = by e.kind
  where
    refused : (s : Side) → Held (Grows es) (use_instance s id)
    refused sides.Right = tt
    refused sides.Left = tt
    refused sides.Connection = tt

    by : (k : Kind) → Held (Grows es) (use_old k side es id e)
    by kinds.Instance = refused side
    by kinds.Port = net_grows side es id e
    by kinds.Wire = net_grows side es id e

ports_few : (es : Entries) → length (ports_of es) ≤ length es
ports_few [] = omega arith
ports_few (e ∷ es) = by e.1.kind e.1.direction (ports_few es)
  where
    by : (k : Kind) (d : Option Direction) → length (ports_of es) ≤ length es → length (with_some (port_with e.0 e.1 k d) (ports_of es)) ≤ length (e ∷ es)
    by kinds.Port (Some d) h = omega (arith, h)
    by kinds.Port None h = omega (arith, h)
    by kinds.Wire d h = omega (arith, h)
    by kinds.Instance d h = omega (arith, h)

-- ---- states

pub record Counted (n : ℕ) (m : Reader) : Type 0 where
  pub modules : AllFew n m.modules
  pub scope : length m.draft.scope ≤ n
  pub assigns : length m.draft.assigns ≤ n

still : (n : ℕ) (m u : Reader) → u.modules ≡ m.modules → u.draft ≡ m.draft → Counted n m → Counted n u
still n m u ms d h = record {
  modules = subst (AllFew n) (sym ms) h.modules;
  scope = subst (λ (x : Draft). length x.scope ≤ n) (sym d) h.scope;
  assigns = subst (λ (x : Draft). length x.assigns ≤ n) (sym d) h.assigns;
}

up : (n : ℕ) (m : Reader) → Counted n m → Counted (n + 1) m
up n m h = record { modules = all_more n (n + 1) m.modules (omega arith) h.modules; scope = omega (arith, h.scope); assigns = omega (arith, h.assigns) }

next : (n : ℕ) (m u : Reader) → u.modules ≡ m.modules → u.draft ≡ m.draft → Counted n m → Counted (n + 1) u
next n m u ms d h = still (n + 1) m u ms d (up n m h)

valued_next : (n : ℕ) (m : Reader) (v : Verdict Value) → Counted n m → Held (Counted (n + 1)) (valued m v)
valued_next n m (Goes v) h = next n m (with_value m v) refl refl h
valued_next n m (Stops off) h = tt

scoped_next : (n : ℕ) (m : Reader) (v : Verdict Entries) → Counted n m → Held (Grows m.draft.scope) v → Held (Counted (n + 1)) (scoped m v)
scoped_next n m (Goes es) h g = record { modules = all_more n (n + 1) m.modules (omega arith) h.modules; scope = omega (arith, g, h.scope); assigns = omega (arith, h.assigns) }
scoped_next n m (Stops off) h g = tt

-- an instance's assigns, one more
assigned : (n : ℕ) (m : Reader) → Counted n m → length (Steps.with_assign m.left m.value.bits m.draft).assigns ≤ n + 1
assigned n m h = let e = length-append m.draft.assigns (record { left = m.left; right = m.value.bits } ∷ []) in omega (arith, e, h.assigns)

assign_next : (n : ℕ) (m : Reader) (v : Value) → Counted n m → Counted (n + 1) (record m { draft = Steps.with_assign m.left m.value.bits m.draft; value = v; left = [] })
assign_next n m v h = record { modules = all_more n (n + 1) m.modules (omega arith) h.modules; scope = omega (arith, h.scope); assigns = assigned n m h }

-- ---- what each action does

start_next : (t : Token) (at n : ℕ) (m : Reader) → Counted n m → Held (Counted (n + 1)) (start_value m at t)
start_next (tokens.Name id) at n m h = by (scoped m (use_name m.value.side at m.draft.scope id)) (scoped_next n m (use_name m.value.side at m.draft.scope id) h (use_grows m.value.side at m.draft.scope id (found m.draft.scope id)))
  where
    by : (v : Verdict Reader) → Held (Counted (n + 1)) v → Held (Counted (n + 1)) (and_then v (λ r. Goes (with_subject id r)))
    by (Goes u) k = still (n + 1) u (with_subject id u) refl refl k
    by (Stops off) k = tt
start_next (tokens.Constant size value) at n m h = valued_next n m (Steps.value_constant size value m.value) h
start_next (tokens.Mark mark) at n m h = up n m h
start_next (tokens.Keyword word) at n m h = tt
start_next (tokens.Number v) at n m h = tt
start_next tokens.Unread at n m h = tt
start_next tokens.Foreign at n m h = tt
start_next tokens.Broken at n m h = tt

begin_next : (t : Token) (at n : ℕ) (m : Reader) → Counted n m → Held (Counted (n + 1)) (perform actions.BeginModule t at m)
begin_next (tokens.Name id) at n m h = by (list_any (nat_eq id.0) m.taken)
  where
    by : (b : Bool) → Held (Counted (n + 1)) (if b then Stops (offs.Duplicate id) else Goes (record m { taken = insert_key nat_eq m.taken id.0; draft = Steps.module_named id }))
    by true = tt
    by false = record { modules = all_more n (n + 1) m.modules (omega arith) h.modules; scope = omega arith; assigns = omega arith }
begin_next _ at n m h = tt

end_next : (t : Token) (at n : ℕ) (m : Reader) → Counted n m → Held (Counted (n + 1)) (perform actions.EndModule t at m)
end_next t at n m h = by (lacking_of m.draft.scope)
  where
    few : HasFew (n + 1) (Steps.module_of m.draft)
    few = let p = ports_few m.draft.scope in record { ports = omega (arith, p, h.scope); assigns = omega (arith, h.assigns) }

    by : (o : Option ℕ) → Held (Counted (n + 1)) (and_then (Steps.end_by m.draft o) (λ module_. Goes (record m { modules = m.modules ++ module_ ∷ []; draft = Steps.module_named m.draft.name })))
    by None = record { modules = all_end (n + 1) m.modules (Steps.module_of m.draft) (all_more n (n + 1) m.modules (omega arith) h.modules) few; scope = omega arith; assigns = omega arith }
    by (Some place) = tt

instance_next : (t : Token) (at n : ℕ) (m : Reader) → Counted n m → Held (Counted (n + 1)) (perform actions.BeginInstance t at m)
instance_next (tokens.Name id) at n m h =
    let v = add_new m.draft.scope id (instance_entry at) (found m.draft.scope id) in
    by (scoped m v) (scoped_next n m v h (add_grows m.draft.scope id (instance_entry at) (found m.draft.scope id)))
  where
    by : (v : Verdict Reader) → Held (Counted (n + 1)) v → Held (Counted (n + 1)) (and_then v (λ r. Goes (begun_instance id r)))
    by (Goes u) k = still (n + 1) u (begun_instance id u) refl refl k
    by (Stops off) k = tt
instance_next _ at n m h = tt

-- a draft with one more instance has the same scope and assigns
closed : (n : ℕ) (m u : Reader) → u.modules ≡ m.modules → u.draft.scope ≡ m.draft.scope → u.draft.assigns ≡ m.draft.assigns → Counted n m → Counted (n + 1) u
closed n m u ms s a h = record {
  modules = subst (AllFew (n + 1)) (sym ms) (all_more n (n + 1) m.modules (omega arith) h.modules);
  scope = let e = ap length s in omega (arith, e, h.scope);
  assigns = let e = ap length a in omega (arith, e, h.assigns);
}

performed : (a : Action) (t : Token) (at n : ℕ) (m : Reader) → Counted n m → Held (Counted (n + 1)) (perform a t at m)
performed actions.Pass t at n m h = up n m h
performed actions.BeginModule t at n m h = begin_next t at n m h
performed actions.ListPort (tokens.Name id) at n m h = scoped_next n m (add_new m.draft.scope id (listed at) (found m.draft.scope id)) h (add_grows m.draft.scope id (listed at) (found m.draft.scope id))
performed actions.ListPort _ at n m h = tt
performed actions.HeaderDirection (tokens.Keyword keywords.Input) at n m h = next n m _ refl refl h
performed actions.HeaderDirection (tokens.Keyword keywords.Output) at n m h = next n m _ refl refl h
performed actions.HeaderDirection _ at n m h = tt
performed actions.ItemDirection (tokens.Keyword keywords.Input) at n m h = next n m _ refl refl h
performed actions.ItemDirection (tokens.Keyword keywords.Output) at n m h = next n m _ refl refl h
performed actions.ItemDirection _ at n m h = tt
performed actions.ItemWires t at n m h = next n m _ refl refl h
performed actions.Declare (tokens.Name id) at n m h = scoped_next n m (declare m.declaring at m.draft.scope id) h (declare_grows m.declaring.form m.declaring at m.draft.scope id)
performed actions.Declare _ at n m h = tt
performed actions.EndModule t at n m h = end_next t at n m h
performed actions.LeftBound (tokens.Number (Some v)) at n m h = next n m _ refl refl h
performed actions.LeftBound _ at n m h = tt
performed actions.RightBound (tokens.Number (Some v)) at n m h = next n m _ refl refl h
performed actions.RightBound _ at n m h = tt
performed actions.Target (tokens.Name id) at n m h = next n m _ refl refl h
performed actions.Target _ at n m h = tt
performed actions.BeginInstance t at n m h = instance_next t at n m h
performed actions.EndInstance t at n m h = closed n m _ refl refl refl h
performed actions.FirstOrdered t at n m h = start_next t at n (record m { joint = Steps.joint_positional m.joint }) (still n m _ refl refl h)
performed actions.NextOrdered t at n m h = next n m _ refl refl h
performed actions.LastOrdered t at n m h = closed n m _ refl refl refl h
performed actions.ConnectionName (tokens.Name id) at n m h = next n m _ refl refl h
performed actions.ConnectionName _ at n m h = tt
performed actions.EndNamed t at n m h = next n m _ refl refl h
performed actions.BeginAssign t at n m h = next n m _ refl refl h
performed actions.EndLeft t at n m h = next n m _ refl refl h
performed actions.NextAssign t at n m h = assign_next n m _ h
performed actions.LastAssign t at n m h = assign_next n m _ h
performed actions.StartValue t at n m h = start_next t at n m h
performed actions.Select t at n m h = valued_next n m (Steps.value_select m.value) h
performed actions.Index (tokens.Number (Some v)) at n m h = valued_next n m (Steps.value_index v m.value) h
performed actions.Index _ at n m h = tt
performed actions.OneBit t at n m h = next n m _ refl refl h
performed actions.ManyBits (tokens.Number (Some v)) at n m h = valued_next n m (Steps.value_many v m.value) h
performed actions.ManyBits _ at n m h = tt

settled_counted : (b : Bool) (w : List Symbol) (n : ℕ) (m : Reader) → Counted n m → Counted n (settled m b w)
settled_counted true w n m h = h
settled_counted false [] n m h = h
settled_counted false (symbols.Tail ∷ rest) n m h = still n m _ refl refl h
settled_counted false (_ ∷ rest) n m h = h

produced_next : (s : Symbol) (rest : List Symbol) (t : Token) (at n : ℕ) (m : Reader) (o : Option Production) → Counted n m → Held (Counted (n + 1)) (produced s rest t at m o)
produced_next s rest t at n m None h = tt
produced_next s rest t at n m (Some p) h = performed p.action t at n (record m { waiting = p.follow ++ rest }) (still n m _ refl refl h)

take_next : (w : List Symbol) (t : Token) (at n : ℕ) (m : Reader) → Counted n m → Held (Counted (n + 1)) (take_by w t at m)
take_next [] t at n m h = tt
take_next (s ∷ rest) t at n m h = produced_next s rest t at n m (production s t) h

step_next : (t : Token) (at n : ℕ) (m : Reader) → Counted n m → Held (Counted (n + 1)) (step t at m)
step_next t at n m h =
    let now = settle t m in
    take_next now.waiting t at n now (settled_counted (is_bracket t) m.waiting n m h)

-- ---- texts

module _ (names : List (List ℕ)) (size : ℕ) where
  ended : (m : Reader) (ms : List Module) → (b : Bool) → Whole ms ≡ (if b then Whole m.modules else Left offs.Syntax size []) → m.modules ≡ ms
  ended m ms true e = cc
  ended m ms false e = absurd cc

  leads_few : (ts : List Piece) (fresh : Bool) (rest : List ℕ) (m : Reader) (ms : List Module) (n : ℕ) → Leads names size ts fresh rest m (Whole ms) → Counted n m → AllFew (n + length rest) ms
  leads_few [] fresh rest m ms n h c = subst (AllFew (n + length rest)) (ended m ms (accepts m) h.1) (all_more n (n + length rest) m.modules (omega arith) c.modules)
  leads_few (p ∷ ts) fresh rest m ms n h c =
      by (step (numbered names p.lexeme) (size - length rest + p.gap) m) (step_next (numbered names p.lexeme) (size - length rest + p.gap) n m c) h.2 (λ u l k. leads_few ts false (behind p rest) u ms (n + 1) l k)
    where
      by : (v : Verdict Reader) → Held (Counted (n + 1)) v → Follows (λ u. Leads names size ts false (behind p rest) u (Whole ms)) ts (size - length rest + p.gap) (piece_bytes p rest) (Whole ms) v → ((u : Reader) → Leads names size ts false (behind p rest) u (Whole ms) → Counted (n + 1) u → AllFew (n + 1 + length (behind p rest)) ms) → AllFew (n + length rest) ms
      by (Goes u) k x more = let less = shorter fresh rest p h.0 in all_more (n + 1 + length (behind p rest)) (n + length rest) ms (omega (arith, less)) (more u x k)
      by (Stops off) k x more = let e = x.1 in absurd cc

pub parts_are_few : (names : List (List ℕ)) (text : List ℕ) (ms : List Module) → Denotes names text ms → AreFew (length text) ms
parts_are_few names text ms h =
    are_few (length text) ms (subst (λ n. AllFew n ms) (omega arith) (leads_few names (length text) h.tokens true text start ms 0 h.leads (record { modules = tt; scope = omega arith; assigns = omega arith })))
