-- What holds of a reader between tokens, and that each token keeps it.
use Rattle.std.proofs.Common.{◌≡◌, ℕ, suc, ◌+◌, ◌≤◌, Bool, true, false, List, [], ◌∷◌, ◌++◌, length, Option, Some, None, refl, sym, ap, ◌∙◌, subst, arith}
use Rattle.std.specs.Prelude.{nat_eq, nat_lt, nat_le, is_some, is_none, not, ◌&&◌, if◌then◌else◌}
use Rattle.std.specs.List.{list_all, list_any}
use Rattle.std.specs.Map.{lookup}
use Rattle.indexmap.specs.IndexSet.{insert_key}
use Rattle.std.proofs.lemmas.Bool.{true≢false, and_parts, and_from}
use Rattle.std.proofs.lemmas.List.{length-append}
use Rattle.std.proofs.lemmas.Bool.Decides.{nat_tests}
use Rattle.lp_text.specs.declared.names.NameId.{NameId}
use Rattle.lp_model.specs.declared.netlist.BitRange.{BitRange}
use Rattle.lp_verilog_tokens.specs.declared.token.Token.{Token}
use Rattle.lp_verilog_tokens.specs.declared.token.Token.TheVariants as tokens
use Rattle.lp_verilog_tokens.specs.declared.token.Keyword.TheVariants as keywords
use Rattle.lp_verilog_tokens.specs.declared.token.Mark.TheVariants as marks
use Rattle.lp_verilog_grammar.specs.declared.symbol.Symbol.{Symbol}
use Rattle.lp_verilog_grammar.specs.declared.symbol.Symbol.TheVariants as symbols
use Rattle.lp_verilog_grammar.specs.declared.symbol.Action.{Action}
use Rattle.lp_verilog_grammar.specs.declared.symbol.Action.TheVariants as actions
use Rattle.lp_verilog_draft.specs.declared.value.Side.{Side}
use Rattle.lp_verilog_draft.specs.declared.value.Side.TheVariants as sides
use Rattle.lp_verilog_draft.specs.declared.value.Value.{Value}
use Rattle.lp_verilog_draft.specs.declared.scope.Kind.{Kind}
use Rattle.lp_verilog_draft.specs.declared.scope.Kind.TheVariants as kinds
use Rattle.lp_verilog_draft.specs.declared.scope.Entry.{Entry}
use Rattle.lp_verilog_draft.specs.declared.declaring.Form.{Form}
use Rattle.lp_verilog_draft.specs.declared.declaring.Form.TheVariants as forms
use Rattle.lp_verilog_draft.specs.declared.declaring.Declaring.{Declaring}
use Rattle.lp_verilog_draft.specs.declared.stop.Off.TheVariants as offs
use Rattle.lp_verilog_draft.specs.Verdicts.{Verdict, Goes, Stops, and_then}
use Rattle.lp_verilog_draft.specs.Scopes as scopes
use Rattle.lp_verilog_draft.specs.Scopes.{Entries, found, lacking_of, add_new, declare, declare_by, use_name, use_by, use_old, use_new, use_instance, use_net, agrees, is_port, entry_range, range_in, put, listed, headed, wire, instance_entry, lacks_direction}
use Rattle.lp_verilog_draft.specs.Steps
use Rattle.lp_verilog_draft.specs.Values.{is_in, goes_along, select}
use Rattle.lp_verilog_grammar.specs.declared.reader.Reader.{Reader}
use Rattle.lp_verilog_grammar.specs.Grammar.{Production, production}
use Rattle.lp_verilog_grammar.specs.Machine.{start, with_scope, with_value, scoped, valued, begun_instance, with_subject, start_value, perform, is_bracket, settled, settle, produced, take_by, step}
use Rattle.lp_verilog_tokens.specs.Cutting.{Lexeme, Named, Plain}
use Rattle.lp_verilog.specs.Denotes.{numbered}
use Rattle.lp_verilog.proofs.Spelling.{may_stand}
use Rattle.lp_verilog.proofs.Shapes.{calm, Ok, Fits, fits, is_small, small, Good, put_good, good_more, below, below_more, below_insert}

-- ---- tokens

-- a name below a number, or another token that a text can spell
abbrev pub token_ok : ℕ → Token → Bool
token_ok n (tokens.Name id) = nat_lt id.0 n
token_ok n (tokens.Number (Some v)) = is_small v
token_ok n _ = true

-- ---- values

abbrev pub range_has : Option BitRange → ℕ → Bool
range_has None i = false
range_has (Some r) i = is_in r i

-- the select that is read is one of a vector, and its first index lies in the range
abbrev pub Ready : List Symbol → Value → Type 0
Ready (symbols.Index ∷ rest) v = is_some v.range ≡ true
Ready (symbols.IndexMore ∷ rest) v = range_has v.range v.index ≡ true
Ready (symbols.SecondIndex ∷ rest) v = range_has v.range v.index ≡ true
Ready _ v = Unit {0}

pub calm_ready : (rest : List Symbol) (v : Value) → calm rest ≡ true → Ready rest v
calm_ready [] v h = tt
calm_ready (symbols.Index ∷ rest) v h = absurd (true≢false (sym h))
calm_ready (symbols.IndexMore ∷ rest) v h = absurd (true≢false (sym h))
calm_ready (symbols.SecondIndex ∷ rest) v h = absurd (true≢false (sym h))
calm_ready (_ ∷ rest) v h = tt

-- where an index lies in the range, all of a select is ready
pub index_ready : (rest : List Symbol) (v : Value) → range_has v.range v.index ≡ true → Ready rest v
index_ready [] v h = tt
index_ready (symbols.Index ∷ rest) v h = by v.range h
  where
    by : (r : Option BitRange) → range_has r v.index ≡ true → is_some r ≡ true
    by None k = k
    by (Some r) k = refl
index_ready (symbols.IndexMore ∷ rest) v h = h
index_ready (symbols.SecondIndex ∷ rest) v h = h
index_ready (_ ∷ rest) v h = tt

-- ---- states

-- the parts of a state that names and ranges are in
pub record Kept (n : ℕ) (es : Entries) (taken : List ℕ) (d : Declaring) (v : Value) : Type 0 where
  pub names : Good n es
  pub modules : below n taken ≡ true
  pub left : is_small d.left ≡ true
  pub range : small d.range ≡ true
  pub subject : small v.range ≡ true

abbrev pub State : ℕ → Reader → Type 0
State n m = Kept n m.draft.scope m.taken m.declaring m.value

pub kept_more : (n : ℕ) (es : Entries) (taken : List ℕ) (d : Declaring) (v : Value) → Kept n es taken d v → Kept (suc n) es taken d v
kept_more n es taken d v k = record { names = good_more n es k.names; modules = below_more n taken k.modules; left = k.left; range = k.range; subject = k.subject }

-- a verdict that, where it goes on, does so to what has a property
abbrev pub Held : {A : Type 0} → (A → Type 0) → Verdict A → Type 0
Held P (Goes x) = P x
Held P (Stops off) = Unit {0}

held_then : {A B : Type 0} (P : A → Type 0) (Q : B → Type 0) (f : A → Verdict B) → ((x : A) → P x → Held Q (f x)) → (v : Verdict A) → Held P v → Held Q (and_then v f)
held_then P Q f more (Goes x) h = more x h
held_then P Q f more (Stops off) h = tt

pub range_small : (n : ℕ) (es : Entries) (id : NameId) → Good n es → small (range_in es id) ≡ true
range_small n es id g = by es g.1
  where
    one : (b : Bool) (x : ℕ × Entry) (xs : Entries) → small x.1.range ≡ true → small (entry_range (lookup (nat_eq id.0) xs)) ≡ true → small (entry_range (if b then Some x.1 else lookup (nat_eq id.0) xs)) ≡ true
    one true x xs h k = h
    one false x xs h k = k

    by : (xs : Entries) → list_all (λ e. nat_lt e.0 n && small e.1.range) xs ≡ true → small (entry_range (lookup (nat_eq id.0) xs)) ≡ true
    by [] h = refl
    by (x ∷ xs) h =
        let parts = and_parts (nat_lt x.0 n && small x.1.range) (list_all (λ e. nat_lt e.0 n && small e.1.range) xs) h in
        one (nat_eq id.0 x.0) x xs (and_parts (nat_lt x.0 n) (small x.1.range) parts.0).1 (by xs parts.1)

found_small : (n : ℕ) (es : Entries) (id : NameId) (e : Entry) → Good n es → found es id ≡ Some e → small e.range ≡ true
found_small n es id e g h = subst (λ o. small (entry_range o) ≡ true) h (range_small n es id g)

module _ (n : ℕ) (id : NameId) (under : nat_lt id.0 n ≡ true) where
  add_held : (es : Entries) (e : Entry) (o : Option Entry) → Good n es → small e.range ≡ true → Held (Good n) (add_new es id e o)
  add_held es e None g h = put_good n id.0 e es under h g
  add_held es e (Some x) g h = tt

  direction_held : (d : Declaring) (es : Entries) (o : Option Entry) → Good n es → small d.range ≡ true → Held (Good n) (scopes.give_direction d es id o)
  direction_held d es None g h = tt
  direction_held d es (Some e) g h = by (not (is_port e.kind)) (is_none e.direction && agrees d e)
    where
      new : Entry
      new = record { kind = e.kind; direction = Some d.direction; range = d.range; fixed = true; wired = e.wired; at = e.at }

      by : (a b : Bool) → Held (Good n) (if a then Stops offs.Syntax else if b then Goes (put es id new) else Stops (offs.Duplicate id))
      by true b = tt
      by false true = put_good n id.0 new es under h g
      by false false = tt

  wire_held : (d : Declaring) (at : ℕ) (es : Entries) (o : Option Entry) → Good n es → small d.range ≡ true → Held (Good n) (scopes.give_wire d at es id o)
  wire_held d at es None g h = put_good n id.0 (wire d.range at) es under h g
  wire_held d at es (Some e) g h = by (is_port e.kind && (not e.wired && agrees d e))
    where
      new : Entry
      new = record { kind = e.kind; direction = e.direction; range = d.range; fixed = true; wired = true; at = e.at }

      by : (b : Bool) → Held (Good n) (if b then Goes (put es id new) else Stops (offs.Duplicate id))
      by true = put_good n id.0 new es under h g
      by false = tt

  pub declare_held : (f : Form) (d : Declaring) (at : ℕ) (es : Entries) → Good n es → small d.range ≡ true → Held (Good n) (declare_by f d at es id)
  declare_held forms.Header d at es g h = add_held es (headed d at) (found es id) g h
  declare_held forms.Ports d at es g h = direction_held d es (found es id) g h
  declare_held forms.Wires d at es g h = wire_held d at es (found es id) g h

  instance_held : (side : Side) → Held (Good n) (use_instance side id)
  instance_held sides.Right = tt
  instance_held sides.Left = tt
  instance_held sides.Connection = tt

  settle_good : (es : Entries) (e : Entry) → Good n es → small e.range ≡ true → Good n (scopes.settle es id e)
  settle_good es e g h = by e.fixed
    where
      new : Entry
      new = record { kind = e.kind; direction = e.direction; range = e.range; fixed = true; wired = e.wired; at = e.at }

      by : (b : Bool) → Good n (if b then es else put es id new)
      by true = g
      by false = put_good n id.0 new es under h g

  net_held : (side : Side) (es : Entries) (e : Entry) → Good n es → small e.range ≡ true → Held (Good n) (use_net side es id e)
  net_held sides.Right es e g h = by e.fixed
    where
      by : (b : Bool) → Held (Good n) (if b then Goes es else Stops offs.Syntax)
      by true = g
      by false = tt
  net_held sides.Left es e g h = settle_good es e g h
  net_held sides.Connection es e g h = settle_good es e g h

  old_held : (k : Kind) (side : Side) (es : Entries) (e : Entry) → Good n es → small e.range ≡ true → Held (Good n) (use_old k side es id e)
  old_held kinds.Instance side es e g h = instance_held side
  old_held kinds.Port side es e g h = net_held side es e g h
  old_held kinds.Wire side es e g h = net_held side es e g h

  new_held : (side : Side) (at : ℕ) (es : Entries) → Good n es → Held (Good n) (use_new side at es id)
  new_held sides.Right at es g = tt
  new_held sides.Left at es g = put_good n id.0 (wire None at) es under refl g
  new_held sides.Connection at es g = put_good n id.0 (wire None at) es under refl g

  use_held : (side : Side) (at : ℕ) (es : Entries) (o : Option Entry) → found es id ≡ o → Good n es → Held (Good n) (use_by side at es id o)
  use_held side at es None is g = new_held side at es g
  use_held side at es (Some e) is g = old_held e.kind side es e g (found_small n es id e g is)

-- what an action leaves: the state is kept, what is waited for is the same, and a select is ready
abbrev pub Value_after : Action → Value → Value → Type 0
Value_after actions.Select old new = is_some new.range ≡ true
Value_after actions.Index old new = range_has new.range new.index ≡ true
Value_after actions.Pass old new = new ≡ old
Value_after _ old new = Unit {0}

abbrev pub After : ℕ → Action → Reader → Reader → Type 0
After n a m u = State n u × (u.waiting ≡ m.waiting) × Value_after a m.value u.value

scope_kept : (n : ℕ) (m : Reader) (es : Entries) → State n m → Good n es → State n (with_scope m es)
scope_kept n m es s g = record { names = g; modules = s.modules; left = s.left; range = s.range; subject = s.subject }

value_kept : (n : ℕ) (m : Reader) (v : Value) → State n m → small v.range ≡ true → State n (with_value m v)
value_kept n m v s h = record { names = s.names; modules = s.modules; left = s.left; range = s.range; subject = h }

start_held : (n : ℕ) (m : Reader) (at : ℕ) (t : Token) → State n m → token_ok n t ≡ true → Held (λ u. State n u × (u.waiting ≡ m.waiting)) (start_value m at t)
start_held n m at (tokens.Name id) s ok =
    held_then (λ u. State n u × (u.waiting ≡ m.waiting)) (λ u. State n u × (u.waiting ≡ m.waiting)) (λ r. Goes (with_subject id r))
    (λ u h. (value_kept n u (Steps.value_subject id (range_in u.draft.scope id) u.value) h.0 (range_small n u.draft.scope id h.0.names), h.1))
    (scoped m (use_name m.value.side at m.draft.scope id))
    (held_then (Good n) (λ u. State n u × (u.waiting ≡ m.waiting)) (λ es. Goes (with_scope m es)) (λ es g. (scope_kept n m es s g, refl)) (use_name m.value.side at m.draft.scope id) (use_held n id ok m.value.side at m.draft.scope (found m.draft.scope id) refl s.names))
start_held n m at (tokens.Constant size value) s ok = by m.value.side
  where
    by : (side : Side) → Held (λ u. State n u × (u.waiting ≡ m.waiting)) (valued m (Steps.constant_on side size value m.value))
    by sides.Left = tt
    by sides.Right = (record { names = s.names; modules = s.modules; left = s.left; range = s.range; subject = s.subject }, refl)
    by sides.Connection = (record { names = s.names; modules = s.modules; left = s.left; range = s.range; subject = s.subject }, refl)
start_held n m at (tokens.Mark mark) s ok = (s, refl)
start_held n m at _ s ok = tt

with_unit : (n : ℕ) (m : Reader) (v : Verdict Reader) → Held (λ u. State n u × (u.waiting ≡ m.waiting)) v → Held (λ u. State n u × (u.waiting ≡ m.waiting) × Unit {0}) v
with_unit n m (Goes u) h = (h.0, h.1, tt)
with_unit n m (Stops off) h = tt

scoped_held : (n : ℕ) (m : Reader) (v : Verdict Entries) → State n m → Held (Good n) v → Held (λ u. State n u × (u.waiting ≡ m.waiting) × Unit {0}) (scoped m v)
scoped_held n m (Goes es) s h = (scope_kept n m es s h, refl, tt)
scoped_held n m (Stops off) s h = tt

pub perform_held : (n : ℕ) (a : Action) (t : Token) (at : ℕ) (m : Reader) → State n m → token_ok n t ≡ true → Held (After n a m) (perform a t at m)
perform_held n actions.Pass t at m s ok = (s, refl, refl)
perform_held n actions.BeginModule (tokens.Name id) at m s ok = by (list_any (nat_eq id.0) m.taken)
  where
    by : (b : Bool) → Held (After n actions.BeginModule m) (if b then Stops (offs.Duplicate id) else Goes (record m { taken = insert_key nat_eq m.taken id.0; draft = Steps.module_named id }))
    by true = tt
    by false = (record { names = (refl, refl); modules = below_insert n id.0 m.taken ok s.modules; left = s.left; range = s.range; subject = s.subject }, refl, tt)
perform_held n actions.BeginModule _ at m s ok = tt
perform_held n actions.ListPort (tokens.Name id) at m s ok = scoped_held n m (add_new m.draft.scope id (listed at) (found m.draft.scope id)) s (add_held n id ok m.draft.scope (listed at) (found m.draft.scope id) s.names refl)
perform_held n actions.ListPort _ at m s ok = tt
perform_held n actions.HeaderDirection (tokens.Keyword keywords.Input) at m s ok = (record { names = s.names; modules = s.modules; left = refl; range = refl; subject = s.subject }, refl, tt)
perform_held n actions.HeaderDirection (tokens.Keyword keywords.Output) at m s ok = (record { names = s.names; modules = s.modules; left = refl; range = refl; subject = s.subject }, refl, tt)
perform_held n actions.HeaderDirection _ at m s ok = tt
perform_held n actions.ItemDirection (tokens.Keyword keywords.Input) at m s ok = (record { names = s.names; modules = s.modules; left = refl; range = refl; subject = s.subject }, refl, tt)
perform_held n actions.ItemDirection (tokens.Keyword keywords.Output) at m s ok = (record { names = s.names; modules = s.modules; left = refl; range = refl; subject = s.subject }, refl, tt)
perform_held n actions.ItemDirection _ at m s ok = tt
perform_held n actions.ItemWires t at m s ok = (record { names = s.names; modules = s.modules; left = refl; range = refl; subject = s.subject }, refl, tt)
perform_held n actions.Declare (tokens.Name id) at m s ok = scoped_held n m (declare m.declaring at m.draft.scope id) s (declare_held n id ok m.declaring.form m.declaring at m.draft.scope s.names s.range)
perform_held n actions.Declare _ at m s ok = tt
perform_held n actions.EndModule t at m s ok = by (lacking_of m.draft.scope)
  where
    by : (o : Option ℕ) → Held (After n actions.EndModule m) (and_then (Steps.end_by m.draft o) (λ module_. Goes (record m { modules = m.modules ++ module_ ∷ []; draft = Steps.module_named m.draft.name })))
    by None = (record { names = (refl, refl); modules = s.modules; left = s.left; range = s.range; subject = s.subject }, refl, tt)
    by (Some place) = tt
perform_held n actions.LeftBound (tokens.Number (Some v)) at m s ok = (record { names = s.names; modules = s.modules; left = ok; range = s.range; subject = s.subject }, refl, tt)
perform_held n actions.LeftBound _ at m s ok = tt
perform_held n actions.RightBound (tokens.Number (Some v)) at m s ok = (record { names = s.names; modules = s.modules; left = s.left; range = and_from (is_small m.declaring.left) (is_small v) s.left ok; subject = s.subject }, refl, tt)
perform_held n actions.RightBound _ at m s ok = tt
perform_held n actions.Target (tokens.Name id) at m s ok = (s, refl, tt)
perform_held n actions.Target _ at m s ok = tt
perform_held n actions.BeginInstance (tokens.Name id) at m s ok =
    held_then (λ u. State n u × (u.waiting ≡ m.waiting) × Unit {0}) (After n actions.BeginInstance m) (λ r. Goes (begun_instance id r))
    (λ u h. (record { names = h.0.names; modules = h.0.modules; left = h.0.left; range = h.0.range; subject = h.0.subject }, h.1, tt))
    (scoped m (add_new m.draft.scope id (instance_entry at) (found m.draft.scope id)))
    (scoped_held n m (add_new m.draft.scope id (instance_entry at) (found m.draft.scope id)) s (add_held n id ok m.draft.scope (instance_entry at) (found m.draft.scope id) s.names refl))
perform_held n actions.BeginInstance _ at m s ok = tt
perform_held n actions.EndInstance t at m s ok = (s, refl, tt)
perform_held n actions.FirstOrdered t at m s ok = with_unit n m (start_value (record m { joint = Steps.joint_positional m.joint }) at t) (start_held n (record m { joint = Steps.joint_positional m.joint }) at t s ok)
perform_held n actions.NextOrdered t at m s ok = (record { names = s.names; modules = s.modules; left = s.left; range = s.range; subject = s.subject }, refl, tt)
perform_held n actions.LastOrdered t at m s ok = (record { names = s.names; modules = s.modules; left = s.left; range = s.range; subject = s.subject }, refl, tt)
perform_held n actions.ConnectionName (tokens.Name id) at m s ok = (s, refl, tt)
perform_held n actions.ConnectionName _ at m s ok = tt
perform_held n actions.EndNamed t at m s ok = (record { names = s.names; modules = s.modules; left = s.left; range = s.range; subject = s.subject }, refl, tt)
perform_held n actions.BeginAssign t at m s ok = (record { names = s.names; modules = s.modules; left = s.left; range = s.range; subject = s.subject }, refl, tt)
perform_held n actions.EndLeft t at m s ok = (record { names = s.names; modules = s.modules; left = s.left; range = s.range; subject = s.subject }, refl, tt)
perform_held n actions.NextAssign t at m s ok = (record { names = s.names; modules = s.modules; left = s.left; range = s.range; subject = s.subject }, refl, tt)
perform_held n actions.LastAssign t at m s ok = (record { names = s.names; modules = s.modules; left = s.left; range = s.range; subject = s.subject }, refl, tt)
perform_held n actions.StartValue t at m s ok = with_unit n m (start_value m at t) (start_held n m at t s ok)
perform_held n actions.Select t at m s ok = by m.value.range refl
  where
    by : (o : Option BitRange) → m.value.range ≡ o → Held (After n actions.Select m) (valued m (Steps.value_select_by m.value o))
    by None is = tt
    by (Some r) is = (s, refl, ap is_some is)
perform_held n actions.Index (tokens.Number (Some v)) at m s ok = by m.value.range refl
  where
    inside : (r : BitRange) (b : Bool) → m.value.range ≡ Some r → is_in r v ≡ b → Held (After n actions.Index m) (valued m (if b then Goes (record m.value { index = v }) else Stops offs.Syntax))
    inside r true is e = (record { names = s.names; modules = s.modules; left = s.left; range = s.range; subject = s.subject }, refl, ap (λ o. range_has o v) is ∙ e)
    inside r false is e = tt

    by : (o : Option BitRange) → m.value.range ≡ o → Held (After n actions.Index m) (valued m (Steps.value_index_by v m.value o))
    by None is = tt
    by (Some r) is = inside r (is_in r v) is refl
perform_held n actions.Index _ at m s ok = tt
perform_held n actions.OneBit t at m s ok = (record { names = s.names; modules = s.modules; left = s.left; range = s.range; subject = s.subject }, refl, tt)
perform_held n actions.ManyBits (tokens.Number (Some v)) at m s ok = by m.value.range
  where
    inside : (r : BitRange) (b : Bool) → Held (After n actions.ManyBits m) (valued m (if b then Goes (Steps.value_with (select m.value.subject m.value.index v) m.value) else Stops offs.Syntax))
    inside r true = (record { names = s.names; modules = s.modules; left = s.left; range = s.range; subject = s.subject }, refl, tt)
    inside r false = tt

    by : (o : Option BitRange) → Held (After n actions.ManyBits m) (valued m (Steps.value_many_by v m.value o))
    by None = tt
    by (Some r) = inside r (is_in r v && goes_along r m.value.index v)
perform_held n actions.ManyBits _ at m s ok = tt

-- what holds between tokens
pub record Sound (n : ℕ) (m : Reader) : Type 0 where
  pub waits : Ok m.waiting
  pub state : State n m
  pub ready : Ready m.waiting m.value

-- a production leaves a select that is ready
abbrev pub ReadyNext : Option Production → List Symbol → Value → Value → Type 0
ReadyNext None rest old new = Unit {0}
ReadyNext (Some p) rest old new = Value_after p.action old new → Ready (p.follow ++ rest) new

ready_next : (s : Symbol) (t : Token) (rest : List Symbol) (old new : Value) → Ok (s ∷ rest) → Ready (s ∷ rest) old → ReadyNext (production s t) rest old new
ready_next symbols.Source (tokens.Keyword keywords.Module) rest old new h r = λ a. tt
ready_next symbols.Source _ rest old new h r = tt
ready_next symbols.ModuleName (tokens.Name n) rest old new h r = λ a. calm_ready rest new h.1
ready_next symbols.ModuleName _ rest old new h r = tt
ready_next symbols.Header (tokens.Mark marks.Semicolon) rest old new h r = λ a. calm_ready rest new h.1
ready_next symbols.Header (tokens.Mark marks.Open) rest old new h r = λ a. tt
ready_next symbols.Header _ rest old new h r = tt
ready_next symbols.Ports (tokens.Mark marks.Close) rest old new h r = λ a. calm_ready rest new h.1
ready_next symbols.Ports (tokens.Name n) rest old new h r = λ a. tt
ready_next symbols.Ports (tokens.Keyword keywords.Input) rest old new h r = λ a. tt
ready_next symbols.Ports (tokens.Keyword keywords.Output) rest old new h r = λ a. tt
ready_next symbols.Ports _ rest old new h r = tt
ready_next symbols.PortsMore (tokens.Mark marks.Comma) rest old new h r = λ a. tt
ready_next symbols.PortsMore (tokens.Mark marks.Close) rest old new h r = λ a. calm_ready rest new h.1
ready_next symbols.PortsMore _ rest old new h r = tt
ready_next symbols.PortName (tokens.Name n) rest old new h r = λ a. calm_ready rest new h.1
ready_next symbols.PortName _ rest old new h r = tt
ready_next symbols.HeaderMore (tokens.Mark marks.Comma) rest old new h r = λ a. tt
ready_next symbols.HeaderMore (tokens.Mark marks.Close) rest old new h r = λ a. calm_ready rest new h.1
ready_next symbols.HeaderMore _ rest old new h r = tt
ready_next symbols.HeaderPort (tokens.Keyword keywords.Input) rest old new h r = λ a. tt
ready_next symbols.HeaderPort (tokens.Keyword keywords.Output) rest old new h r = λ a. tt
ready_next symbols.HeaderPort (tokens.Name n) rest old new h r = λ a. calm_ready rest new h.1
ready_next symbols.HeaderPort _ rest old new h r = tt
ready_next (symbols.Expect marks.Open) (tokens.Mark marks.Open) rest old new h r = λ a. calm_ready rest new h.1
ready_next (symbols.Expect marks.Close) (tokens.Mark marks.Close) rest old new h r = λ a. calm_ready rest new h.1
ready_next (symbols.Expect marks.OpenBracket) (tokens.Mark marks.OpenBracket) rest old new h r = λ a. calm_ready rest new h.1
ready_next (symbols.Expect marks.CloseBracket) (tokens.Mark marks.CloseBracket) rest old new h r = λ a. calm_ready rest new h.1
ready_next (symbols.Expect marks.OpenBrace) (tokens.Mark marks.OpenBrace) rest old new h r = λ a. calm_ready rest new h.1
ready_next (symbols.Expect marks.CloseBrace) (tokens.Mark marks.CloseBrace) rest old new h r = λ a. calm_ready rest new h.1
ready_next (symbols.Expect marks.Comma) (tokens.Mark marks.Comma) rest old new h r = λ a. calm_ready rest new h.1
ready_next (symbols.Expect marks.Semicolon) (tokens.Mark marks.Semicolon) rest old new h r = λ a. calm_ready rest new h.1
ready_next (symbols.Expect marks.Colon) (tokens.Mark marks.Colon) rest old new h r = λ a. calm_ready rest new h.1
ready_next (symbols.Expect marks.Dot) (tokens.Mark marks.Dot) rest old new h r = λ a. calm_ready rest new h.1
ready_next (symbols.Expect marks.Equals) (tokens.Mark marks.Equals) rest old new h r = λ a. calm_ready rest new h.1
ready_next (symbols.Expect mark) _ rest old new h r = tt
ready_next symbols.Declared (tokens.Keyword keywords.Wire) rest old new h r = λ a. tt
ready_next symbols.Declared (tokens.Mark marks.OpenBracket) rest old new h r = λ a. tt
ready_next symbols.Declared (tokens.Name n) rest old new h r = λ a. calm_ready rest new h.1
ready_next symbols.Declared _ rest old new h r = tt
ready_next symbols.Vector (tokens.Mark marks.OpenBracket) rest old new h r = λ a. tt
ready_next symbols.Vector (tokens.Name n) rest old new h r = λ a. calm_ready rest new h.1
ready_next symbols.Vector _ rest old new h r = tt
ready_next symbols.DeclaredName (tokens.Name n) rest old new h r = λ a. calm_ready rest new h.1
ready_next symbols.DeclaredName _ rest old new h r = tt
ready_next symbols.LeftBound (tokens.Number (Some v)) rest old new h r = λ a. calm_ready rest new h.1
ready_next symbols.LeftBound _ rest old new h r = tt
ready_next symbols.RightBound (tokens.Number (Some v)) rest old new h r = λ a. calm_ready rest new h.1
ready_next symbols.RightBound _ rest old new h r = tt
ready_next symbols.Items (tokens.Keyword keywords.EndModule) rest old new h r = λ a. calm_ready rest new h.1
ready_next symbols.Items (tokens.Keyword keywords.Input) rest old new h r = λ a. tt
ready_next symbols.Items (tokens.Keyword keywords.Output) rest old new h r = λ a. tt
ready_next symbols.Items (tokens.Keyword keywords.Wire) rest old new h r = λ a. tt
ready_next symbols.Items (tokens.Keyword keywords.Assign) rest old new h r = λ a. tt
ready_next symbols.Items (tokens.Name n) rest old new h r = λ a. tt
ready_next symbols.Items _ rest old new h r = tt
ready_next symbols.DeclaredMore (tokens.Mark marks.Comma) rest old new h r = λ a. tt
ready_next symbols.DeclaredMore (tokens.Mark marks.Semicolon) rest old new h r = λ a. calm_ready rest new h.1
ready_next symbols.DeclaredMore _ rest old new h r = tt
ready_next symbols.InstanceName (tokens.Name n) rest old new h r = λ a. tt
ready_next symbols.InstanceName _ rest old new h r = tt
ready_next symbols.InstanceMore (tokens.Mark marks.Comma) rest old new h r = λ a. tt
ready_next symbols.InstanceMore (tokens.Mark marks.Semicolon) rest old new h r = λ a. calm_ready rest new h.1
ready_next symbols.InstanceMore _ rest old new h r = tt
ready_next symbols.Connections (tokens.Mark marks.Close) rest old new h r = λ a. calm_ready rest new h.1
ready_next symbols.Connections (tokens.Mark marks.Dot) rest old new h r = λ a. tt
ready_next symbols.Connections (tokens.Name n) rest old new h r = λ a. tt
ready_next symbols.Connections (tokens.Constant size value) rest old new h r = λ a. tt
ready_next symbols.Connections (tokens.Mark marks.OpenBrace) rest old new h r = λ a. tt
ready_next symbols.Connections _ rest old new h r = tt
ready_next symbols.NamedMore (tokens.Mark marks.Comma) rest old new h r = λ a. tt
ready_next symbols.NamedMore (tokens.Mark marks.Close) rest old new h r = λ a. calm_ready rest new h.1
ready_next symbols.NamedMore _ rest old new h r = tt
ready_next symbols.ConnectionName (tokens.Name n) rest old new h r = λ a. tt
ready_next symbols.ConnectionName _ rest old new h r = tt
ready_next symbols.NamedValue (tokens.Mark marks.Close) rest old new h r = λ a. calm_ready rest new h.1
ready_next symbols.NamedValue (tokens.Name n) rest old new h r = λ a. tt
ready_next symbols.NamedValue (tokens.Constant size value) rest old new h r = λ a. tt
ready_next symbols.NamedValue (tokens.Mark marks.OpenBrace) rest old new h r = λ a. tt
ready_next symbols.NamedValue _ rest old new h r = tt
ready_next symbols.NamedEnd (tokens.Mark marks.Close) rest old new h r = λ a. calm_ready rest new h.1
ready_next symbols.NamedEnd _ rest old new h r = tt
ready_next symbols.OrderedMore (tokens.Mark marks.Comma) rest old new h r = λ a. tt
ready_next symbols.OrderedMore (tokens.Mark marks.Close) rest old new h r = λ a. calm_ready rest new h.1
ready_next symbols.OrderedMore _ rest old new h r = tt
ready_next symbols.Value (tokens.Name n) rest old new h r = λ a. tt
ready_next symbols.Value (tokens.Constant size value) rest old new h r = λ a. calm_ready rest new h.1
ready_next symbols.Value (tokens.Mark marks.OpenBrace) rest old new h r = λ a. tt
ready_next symbols.Value _ rest old new h r = tt
ready_next symbols.Tail (tokens.Mark marks.OpenBracket) rest old new h r = λ a. a
ready_next symbols.Tail _ rest old new h r = tt
ready_next symbols.ConcatMore (tokens.Mark marks.Comma) rest old new h r = λ a. tt
ready_next symbols.ConcatMore (tokens.Mark marks.CloseBrace) rest old new h r = λ a. calm_ready rest new h.1
ready_next symbols.ConcatMore _ rest old new h r = tt
ready_next symbols.Index (tokens.Number (Some v)) rest old new h r = λ a. index_ready rest new a
ready_next symbols.Index _ rest old new h r = tt
ready_next symbols.IndexMore (tokens.Mark marks.CloseBracket) rest old new h r = λ a. calm_ready rest new h.1
ready_next symbols.IndexMore (tokens.Mark marks.Colon) rest old new h r = λ a. subst (λ v. range_has v.range v.index ≡ true) (sym a) r
ready_next symbols.IndexMore _ rest old new h r = tt
ready_next symbols.SecondIndex (tokens.Number (Some v)) rest old new h r = λ a. calm_ready rest new h.1
ready_next symbols.SecondIndex _ rest old new h r = tt
ready_next symbols.AssignSign (tokens.Mark marks.Equals) rest old new h r = λ a. calm_ready rest new h.1
ready_next symbols.AssignSign _ rest old new h r = tt
ready_next symbols.AssignMore (tokens.Mark marks.Comma) rest old new h r = λ a. tt
ready_next symbols.AssignMore (tokens.Mark marks.Semicolon) rest old new h r = λ a. calm_ready rest new h.1
ready_next symbols.AssignMore _ rest old new h r = tt

-- the action of a production leaves a sound state
took : (n : ℕ) (s : Symbol) (t : Token) (at : ℕ) (m : Reader) (rest : List Symbol) → Ok (s ∷ rest) → Ready (s ∷ rest) m.value → State n m → token_ok n t ≡ true → Held (Sound n) (produced s rest t at m (production s t))
took n s t at m rest waits ready state ok = by (production s t) (fits s t rest waits) (λ new. ready_next s t rest m.value new waits ready)
  where
    leaves : (p : Production) (v : Verdict Reader) → Ok (p.follow ++ rest) → ((new : Value) → ReadyNext (Some p) rest m.value new) → Held (After n p.action (record m { waiting = p.follow ++ rest })) v → Held (Sound n) v
    leaves p (Goes u) fit next h = record { waits = subst Ok (sym h.1) fit; state = h.0; ready = subst (λ w. Ready w u.value) (sym h.1) (next u.value h.2) }
    leaves p (Stops off) fit next h = tt

    by : (o : Option Production) → Fits o rest → ((new : Value) → ReadyNext o rest m.value new) → Held (Sound n) (produced s rest t at m o)
    by None fit next = tt
    by (Some p) fit next = leaves p (perform p.action t at (record m { waiting = p.follow ++ rest })) fit next (perform_held n p.action t at (record m { waiting = p.follow ++ rest }) state ok)

pub take_sound : (n : ℕ) (w : List Symbol) (t : Token) (at : ℕ) (m : Reader) → Ok w → Ready w m.value → State n m → token_ok n t ≡ true → Held (Sound n) (take_by w t at m)
take_sound n [] t at m waits ready state ok = tt
take_sound n (s ∷ rest) t at m waits ready state ok = took n s t at m rest waits ready state ok

settled_sound : (n : ℕ) (b : Bool) (w : List Symbol) (m : Reader) → w ≡ m.waiting → Sound n m → Sound n (settled m b w)
settled_sound n true w m is s = s
settled_sound n false [] m is s = s
settled_sound n false (symbols.Tail ∷ rest) m is s =
    let waits = subst Ok (sym is) s.waits in
    record {
      waits = waits.3;
      state = record { names = s.state.names; modules = s.state.modules; left = s.state.left; range = s.state.range; subject = s.state.subject };
      ready = calm_ready rest (Steps.value_whole m.value) waits.1;
    }
settled_sound n false (_ ∷ rest) m is s = s

-- each token keeps what holds
pub step_sound : (n : ℕ) (t : Token) (at : ℕ) (m : Reader) → Sound n m → token_ok n t ≡ true → Held (Sound n) (step t at m)
step_sound n t at m s ok =
    let now = settle t m in
    let sound = settled_sound n (is_bracket t) m.waiting m refl s in
    take_sound n now.waiting t at now sound.waits sound.ready sound.state ok

pub start_sound : (n : ℕ) → Sound n start
start_sound n = record { waits = tt; state = record { names = (refl, refl); modules = refl; left = refl; range = refl; subject = refl }; ready = tt }

-- ---- how much is waited for

abbrev pub is_short : Option Production → Bool
is_short None = true
is_short (Some p) = nat_le (length p.follow) 5

short : (s : Symbol) (t : Token) → is_short (production s t) ≡ true
short symbols.Source (tokens.Keyword keywords.Module) = refl
short symbols.Source _ = refl
short symbols.ModuleName (tokens.Name n) = refl
short symbols.ModuleName _ = refl
short symbols.Header (tokens.Mark marks.Semicolon) = refl
short symbols.Header (tokens.Mark marks.Open) = refl
short symbols.Header _ = refl
short symbols.Ports (tokens.Mark marks.Close) = refl
short symbols.Ports (tokens.Name n) = refl
short symbols.Ports (tokens.Keyword keywords.Input) = refl
short symbols.Ports (tokens.Keyword keywords.Output) = refl
short symbols.Ports _ = refl
short symbols.PortsMore (tokens.Mark marks.Comma) = refl
short symbols.PortsMore (tokens.Mark marks.Close) = refl
short symbols.PortsMore _ = refl
short symbols.PortName (tokens.Name n) = refl
short symbols.PortName _ = refl
short symbols.HeaderMore (tokens.Mark marks.Comma) = refl
short symbols.HeaderMore (tokens.Mark marks.Close) = refl
short symbols.HeaderMore _ = refl
short symbols.HeaderPort (tokens.Keyword keywords.Input) = refl
short symbols.HeaderPort (tokens.Keyword keywords.Output) = refl
short symbols.HeaderPort (tokens.Name n) = refl
short symbols.HeaderPort _ = refl
short (symbols.Expect marks.Open) (tokens.Mark marks.Open) = refl
short (symbols.Expect marks.Close) (tokens.Mark marks.Close) = refl
short (symbols.Expect marks.OpenBracket) (tokens.Mark marks.OpenBracket) = refl
short (symbols.Expect marks.CloseBracket) (tokens.Mark marks.CloseBracket) = refl
short (symbols.Expect marks.OpenBrace) (tokens.Mark marks.OpenBrace) = refl
short (symbols.Expect marks.CloseBrace) (tokens.Mark marks.CloseBrace) = refl
short (symbols.Expect marks.Comma) (tokens.Mark marks.Comma) = refl
short (symbols.Expect marks.Semicolon) (tokens.Mark marks.Semicolon) = refl
short (symbols.Expect marks.Colon) (tokens.Mark marks.Colon) = refl
short (symbols.Expect marks.Dot) (tokens.Mark marks.Dot) = refl
short (symbols.Expect marks.Equals) (tokens.Mark marks.Equals) = refl
short (symbols.Expect mark) _ = refl
short symbols.Declared (tokens.Keyword keywords.Wire) = refl
short symbols.Declared (tokens.Mark marks.OpenBracket) = refl
short symbols.Declared (tokens.Name n) = refl
short symbols.Declared _ = refl
short symbols.Vector (tokens.Mark marks.OpenBracket) = refl
short symbols.Vector (tokens.Name n) = refl
short symbols.Vector _ = refl
short symbols.DeclaredName (tokens.Name n) = refl
short symbols.DeclaredName _ = refl
short symbols.LeftBound (tokens.Number (Some v)) = refl
short symbols.LeftBound _ = refl
short symbols.RightBound (tokens.Number (Some v)) = refl
short symbols.RightBound _ = refl
short symbols.Items (tokens.Keyword keywords.EndModule) = refl
short symbols.Items (tokens.Keyword keywords.Input) = refl
short symbols.Items (tokens.Keyword keywords.Output) = refl
short symbols.Items (tokens.Keyword keywords.Wire) = refl
short symbols.Items (tokens.Keyword keywords.Assign) = refl
short symbols.Items (tokens.Name n) = refl
short symbols.Items _ = refl
short symbols.DeclaredMore (tokens.Mark marks.Comma) = refl
short symbols.DeclaredMore (tokens.Mark marks.Semicolon) = refl
short symbols.DeclaredMore _ = refl
short symbols.InstanceName (tokens.Name n) = refl
short symbols.InstanceName _ = refl
short symbols.InstanceMore (tokens.Mark marks.Comma) = refl
short symbols.InstanceMore (tokens.Mark marks.Semicolon) = refl
short symbols.InstanceMore _ = refl
short symbols.Connections (tokens.Mark marks.Close) = refl
short symbols.Connections (tokens.Mark marks.Dot) = refl
short symbols.Connections (tokens.Name n) = refl
short symbols.Connections (tokens.Constant size value) = refl
short symbols.Connections (tokens.Mark marks.OpenBrace) = refl
short symbols.Connections _ = refl
short symbols.NamedMore (tokens.Mark marks.Comma) = refl
short symbols.NamedMore (tokens.Mark marks.Close) = refl
short symbols.NamedMore _ = refl
short symbols.ConnectionName (tokens.Name n) = refl
short symbols.ConnectionName _ = refl
short symbols.NamedValue (tokens.Mark marks.Close) = refl
short symbols.NamedValue (tokens.Name n) = refl
short symbols.NamedValue (tokens.Constant size value) = refl
short symbols.NamedValue (tokens.Mark marks.OpenBrace) = refl
short symbols.NamedValue _ = refl
short symbols.NamedEnd (tokens.Mark marks.Close) = refl
short symbols.NamedEnd _ = refl
short symbols.OrderedMore (tokens.Mark marks.Comma) = refl
short symbols.OrderedMore (tokens.Mark marks.Close) = refl
short symbols.OrderedMore _ = refl
short symbols.Value (tokens.Name n) = refl
short symbols.Value (tokens.Constant size value) = refl
short symbols.Value (tokens.Mark marks.OpenBrace) = refl
short symbols.Value _ = refl
short symbols.Tail (tokens.Mark marks.OpenBracket) = refl
short symbols.Tail _ = refl
short symbols.ConcatMore (tokens.Mark marks.Comma) = refl
short symbols.ConcatMore (tokens.Mark marks.CloseBrace) = refl
short symbols.ConcatMore _ = refl
short symbols.Index (tokens.Number (Some v)) = refl
short symbols.Index _ = refl
short symbols.IndexMore (tokens.Mark marks.CloseBracket) = refl
short symbols.IndexMore (tokens.Mark marks.Colon) = refl
short symbols.IndexMore _ = refl
short symbols.SecondIndex (tokens.Number (Some v)) = refl
short symbols.SecondIndex _ = refl
short symbols.AssignSign (tokens.Mark marks.Equals) = refl
short symbols.AssignSign _ = refl
short symbols.AssignMore (tokens.Mark marks.Comma) = refl
short symbols.AssignMore (tokens.Mark marks.Semicolon) = refl
short symbols.AssignMore _ = refl

longer : (follow rest : List Symbol) → nat_le (length follow) 5 ≡ true → length (follow ++ rest) ≤ 5 + length rest
longer follow rest h = let sum = length-append follow rest in grind (arith, nat_tests, sum)

took_few : (n : ℕ) (s : Symbol) (t : Token) (at : ℕ) (m : Reader) (rest : List Symbol) → State n m → token_ok n t ≡ true → Held (λ u. length u.waiting ≤ 5 + length rest) (produced s rest t at m (production s t))
took_few n s t at m rest state ok = by (production s t) (short s t)
  where
    few : (p : Production) (v : Verdict Reader) → is_short (Some p) ≡ true → Held (After n p.action (record m { waiting = p.follow ++ rest })) v → Held (λ u. length u.waiting ≤ 5 + length rest) v
    few p (Goes u) is h = subst (λ w. length w ≤ 5 + length rest) (sym h.1) (longer p.follow rest is)
    few p (Stops off) is h = tt

    by : (o : Option Production) → is_short o ≡ true → Held (λ u. length u.waiting ≤ 5 + length rest) (produced s rest t at m o)
    by None is = tt
    by (Some p) is = few p (perform p.action t at (record m { waiting = p.follow ++ rest })) is (perform_held n p.action t at (record m { waiting = p.follow ++ rest }) state ok)

take_few : (n : ℕ) (w : List Symbol) (t : Token) (at : ℕ) (m : Reader) → State n m → token_ok n t ≡ true → Held (λ u. length u.waiting ≤ 4 + length w) (take_by w t at m)
take_few n [] t at m state ok = tt
take_few n (s ∷ rest) t at m state ok = by (produced s rest t at m (production s t)) (took_few n s t at m rest state ok)
  where
    by : (v : Verdict Reader) → Held (λ u. length u.waiting ≤ 5 + length rest) v → Held (λ u. length u.waiting ≤ 4 + length (s ∷ rest)) v
    by (Goes u) h = omega (arith, h)
    by (Stops off) h = tt

settled_few : (b : Bool) (w : List Symbol) (m : Reader) → w ≡ m.waiting → length (settled m b w).waiting ≤ length m.waiting
settled_few true w m is = omega arith
settled_few false [] m is = omega arith
settled_few false (symbols.Tail ∷ rest) m is = let long : suc (length rest) ≡ length m.waiting = ap length is in omega (arith, long)
settled_few false (_ ∷ rest) m is = omega arith

-- a token adds four symbols at most
pub step_few : (n : ℕ) (t : Token) (at : ℕ) (m : Reader) → Sound n m → token_ok n t ≡ true → Held (λ u. length u.waiting ≤ 4 + length m.waiting) (step t at m)
step_few n t at m s ok =
    let now = settle t m in
    let sound = settled_sound n (is_bracket t) m.waiting m refl s in
    by (take_by now.waiting t at now) (take_few n now.waiting t at now sound.state ok)
  where
    by : (v : Verdict Reader) → Held (λ u. length u.waiting ≤ 4 + length (settle t m).waiting) v → Held (λ u. length u.waiting ≤ 4 + length m.waiting) v
    by (Goes u) h = let few = settled_few (is_bracket t) m.waiting m refl in omega (arith, h, few)
    by (Stops off) h = tt

-- ---- tokens that no step takes

stop_if : (t : Token) (at : ℕ) (m u : Reader) → ((s : Symbol) → production s t ≡ None) → step t at m ≡ Goes u → ⊥
stop_if t at m u none e = by (settle t m).waiting e
  where
    now : Reader
    now = settle t m

    by : (w : List Symbol) → take_by w t at now ≡ Goes u → ⊥
    by [] h = absurd cc
    by (s ∷ rest) h = let stops = ap (produced s rest t at now) (sym (none s)) ∙ h in absurd cc

no_broken : (s : Symbol) → production s tokens.Broken ≡ None
no_broken symbols.Source = refl
no_broken _ = refl

no_foreign : (s : Symbol) → production s tokens.Foreign ≡ None
no_foreign symbols.Source = refl
no_foreign _ = refl

no_unread : (s : Symbol) → production s tokens.Unread ≡ None
no_unread symbols.Source = refl
no_unread _ = refl

no_number : (s : Symbol) → production s (tokens.Number None) ≡ None
no_number symbols.Source = refl
no_number _ = refl

-- what a step takes may stand
pub step_stands : (names : List (List ℕ)) (l : Lexeme) (at : ℕ) (m u : Reader) → step (numbered names l) at m ≡ Goes u → may_stand l ≡ true
step_stands names (Named text) at m u e = refl
step_stands names (Plain (tokens.Mark mark)) at m u e = refl
step_stands names (Plain (tokens.Keyword word)) at m u e = refl
step_stands names (Plain (tokens.Number (Some v))) at m u e = refl
step_stands names (Plain (tokens.Constant size value)) at m u e = refl
step_stands names (Plain (tokens.Number None)) at m u e = absurd (stop_if (tokens.Number None) at m u no_number e)
step_stands names (Plain (tokens.Name id)) at m u e = absurd (stop_if tokens.Broken at m u no_broken e)
step_stands names (Plain tokens.Unread) at m u e = absurd (stop_if tokens.Unread at m u no_unread e)
step_stands names (Plain tokens.Foreign) at m u e = absurd (stop_if tokens.Foreign at m u no_foreign e)
step_stands names (Plain tokens.Broken) at m u e = absurd (stop_if tokens.Broken at m u no_broken e)
