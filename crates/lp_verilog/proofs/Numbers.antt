-- A test that the names of a text pass is passed by all numbers in what the text denotes.
use Rattle.std.proofs.Common.{◌≡◌, ℕ, Bool, true, false, List, [], ◌∷◌, ◌++◌, map, Option, Some, None, refl, sym, ap, ◌∙◌}
use Rattle.std.specs.Prelude.{nat_eq, is_none, not, ◌-◌, ◌&&◌, if◌then◌else◌}
use Rattle.std.specs.List.{list_all, list_any, flat_map}
use Rattle.indexmap.specs.IndexMap.{insert_entry}
use Rattle.indexmap.specs.IndexSet.{insert_key}
use Rattle.std.proofs.lemmas.Bool.{and_parts, and_from}
use Rattle.std.proofs.lemmas.List.Folds.{list_all-append}
use Rattle.lp_text.specs.declared.names.NameId.{NameId}
use Rattle.lp_model.specs.declared.bits.Bit.{Bit}
use Rattle.lp_model.specs.declared.bits.Bit.TheVariants as bits
use Rattle.lp_model.specs.declared.netlist.BitRange.{BitRange}
use Rattle.lp_model.specs.declared.netlist.Direction.{Direction}
use Rattle.lp_model.specs.declared.netlist.Connection.{Connection}
use Rattle.lp_model.specs.declared.netlist.Connections.TheVariants as connections
use Rattle.lp_model.specs.declared.netlist.Module.{Module}
use Rattle.lp_model.specs.NetlistView.{module_numbers, port_numbers, net_numbers, instance_numbers, assign_numbers, connection_numbers, connections_numbers, bits_numbers, bit_numbers}
use Rattle.lp_verilog_tokens.specs.declared.token.Token.{Token}
use Rattle.lp_verilog_tokens.specs.declared.token.Token.TheVariants as tokens
use Rattle.lp_verilog_tokens.specs.declared.token.Keyword.TheVariants as keywords
use Rattle.lp_verilog_tokens.specs.Cutting.{Piece, piece_of}
use Rattle.lp_verilog_draft.specs.declared.stop.Off.TheVariants as offs
use Rattle.lp_verilog_draft.specs.declared.value.Side.{Side}
use Rattle.lp_verilog_draft.specs.declared.value.Side.TheVariants as sides
use Rattle.lp_verilog_draft.specs.declared.value.Value.{Value}
use Rattle.lp_verilog_draft.specs.declared.scope.Kind.{Kind}
use Rattle.lp_verilog_draft.specs.declared.scope.Kind.TheVariants as kinds
use Rattle.lp_verilog_draft.specs.declared.scope.Entry.{Entry}
use Rattle.lp_verilog_draft.specs.declared.declaring.Form.{Form}
use Rattle.lp_verilog_draft.specs.declared.declaring.Form.TheVariants as forms
use Rattle.lp_verilog_draft.specs.declared.declaring.Declaring.{Declaring}
use Rattle.lp_verilog_draft.specs.declared.draft.Draft.{Draft}
use Rattle.lp_verilog_draft.specs.declared.draft.Joint.{Joint}
use Rattle.lp_verilog_draft.specs.Verdicts.{Verdict, Goes, Stops, and_then}
use Rattle.lp_verilog_draft.specs.Scopes as scopes
use Rattle.lp_verilog_draft.specs.Scopes.{Entries, found, lacking_of, ports_of, nets_of, port_of, port_with, net_of, net_with, with_some, add_new, declare, declare_by, use_name, use_by, use_old, use_new, use_instance, use_net, agrees, is_port, range_in, put, listed, headed, wire, instance_entry}
use Rattle.lp_verilog_draft.specs.Steps
use Rattle.lp_verilog_draft.specs.Values.{is_in, goes_along, between, indices, select, whole, digit, constant_bits}
use Rattle.lp_verilog_grammar.specs.declared.symbol.Symbol.{Symbol}
use Rattle.lp_verilog_grammar.specs.declared.symbol.Action.{Action}
use Rattle.lp_verilog_grammar.specs.declared.symbol.Action.TheVariants as actions
use Rattle.lp_verilog_grammar.specs.declared.reader.Reader.{Reader}
use Rattle.lp_verilog_grammar.specs.Machine.{start, with_scope, with_value, scoped, valued, begun_instance, with_subject, start_value, perform}
use Rattle.lp_verilog.specs.Denotes.{numbered, is_known, Denotes}
use Rattle.lp_verilog.proofs.States.{Held}
use Rattle.lp_verilog.proofs.Phases.{Context, Outside, Inside, Targeted, Open, Joined, LeftSide, RightSide, Stage, Empty, Subject, Indexed, Filled, Phase, In, act, begun}
use Rattle.lp_verilog.proofs.Phased.{Acted, denoted}

module _ (P : ℕ → Bool) where
  abbrev pub all : List ℕ → Bool
  all ns = list_all P ns

  append : (xs ys : List ℕ) → all xs ≡ true → all ys ≡ true → all (xs ++ ys) ≡ true
  append xs ys h k = list_all-append P xs ys ∙ and_from (all xs) (all ys) h k

  end_with : {A : Type 0} (numbers : A → List ℕ) (xs : List A) (x : A) → all (flat_map numbers xs) ≡ true → all (numbers x) ≡ true → all (flat_map numbers (xs ++ x ∷ [])) ≡ true
  end_with numbers [] x h k = append (numbers x) [] k refl
  end_with numbers (y ∷ xs) x h k =
      let parts = and_parts (all (numbers y)) (all (flat_map numbers xs)) (sym (list_all-append P (numbers y) (flat_map numbers xs)) ∙ h) in
      append (numbers y) (flat_map numbers (xs ++ x ∷ [])) parts.0 (end_with numbers xs x parts.1 k)

  bits_end : (xs ys : List Bit) → all (bits_numbers xs) ≡ true → all (bits_numbers ys) ≡ true → all (bits_numbers (xs ++ ys)) ≡ true
  bits_end [] ys h k = k
  bits_end (x ∷ xs) ys h k =
      let parts = and_parts (all (bit_numbers x)) (all (bits_numbers xs)) (sym (list_all-append P (bit_numbers x) (bits_numbers xs)) ∙ h) in
      append (bit_numbers x) (bits_numbers (xs ++ ys)) parts.0 (bits_end xs ys parts.1 k)

  -- ---- bits

  selected : (id : NameId) (ks : List ℕ) → P id.0 ≡ true → all (bits_numbers (map (λ k. bits.Select id k) ks)) ≡ true
  selected id [] h = refl
  selected id (k ∷ ks) h = and_from (P id.0) (all (bits_numbers (map (λ i. bits.Select id i) ks))) h (selected id ks h)

  whole_all : (id : NameId) (r : Option BitRange) → P id.0 ≡ true → all (bits_numbers (whole id r)) ≡ true
  whole_all id None h = and_from (P id.0) true h refl
  whole_all id (Some r) h = selected id (between r.left r.right) h

  digits_all : (value : ℕ) (ks : List ℕ) → all (bits_numbers (map (λ k. bits.Const (digit value k)) ks)) ≡ true
  digits_all value [] = refl
  digits_all value (k ∷ ks) = digits_all value ks

  -- ---- scopes

  abbrev pub keys : Entries → Bool
  keys es = list_all (λ e. P e.0) es

  insert_keys : (k : ℕ) (v : Entry) (es : Entries) → P k ≡ true → keys es ≡ true → keys (insert_entry nat_eq es k v) ≡ true
  insert_keys k v [] h g = and_from (P k) true h refl
  insert_keys k v (e ∷ es) h g = let parts = and_parts (P e.0) (keys es) g in by (nat_eq k e.0) parts.0 parts.1 (insert_keys k v es h parts.1)
    where
      by : (b : Bool) → P e.0 ≡ true → keys es ≡ true → keys (insert_entry nat_eq es k v) ≡ true → keys (if b then (e.0, v) ∷ es else e ∷ insert_entry nat_eq es k v) ≡ true
      by true x y z = and_from (P e.0) (keys es) x y
      by false x y z = and_from (P e.0) (keys (insert_entry nat_eq es k v)) x z

  abbrev pub Keyed : Entries → Type 0
  Keyed es = keys es ≡ true

  put_if : (b : Bool) (es : Entries) (id : NameId) (e : Entry) → P id.0 ≡ true → Keyed es → Held Keyed (if b then Goes (put es id e) else Stops (offs.Duplicate id))
  put_if true es id e h g = insert_keys id.0 e es h g
  put_if false es id e h g = tt

  add_keyed : (es : Entries) (id : NameId) (e : Entry) (o : Option Entry) → P id.0 ≡ true → Keyed es → Held Keyed (add_new es id e o)
  add_keyed es id e None h g = insert_keys id.0 e es h g
  add_keyed es id e (Some x) h g = tt

  direction_keyed : (d : Declaring) (es : Entries) (id : NameId) (o : Option Entry) → P id.0 ≡ true → Keyed es → Held Keyed (scopes.give_direction d es id o)
  direction_keyed d es id None h g = tt
  direction_keyed d es id (Some e) h g = by (not (is_port e.kind))
    where
      new : Entry
      new = record { kind = e.kind; direction = Some d.direction; range = d.range; fixed = true; wired = e.wired; at = e.at }

      by : (b : Bool) → Held Keyed (if b then Stops offs.Syntax else if is_none e.direction && agrees d e then Goes (put es id new) else Stops (offs.Duplicate id))
      by true = tt
      by false = put_if (is_none e.direction && agrees d e) es id new h g

  wire_keyed : (d : Declaring) (at : ℕ) (es : Entries) (id : NameId) (o : Option Entry) → P id.0 ≡ true → Keyed es → Held Keyed (scopes.give_wire d at es id o)
  wire_keyed d at es id None h g = insert_keys id.0 (wire d.range at) es h g
  wire_keyed d at es id (Some e) h g = put_if (is_port e.kind && (not e.wired && agrees d e)) es id (record { kind = e.kind; direction = e.direction; range = d.range; fixed = true; wired = true; at = e.at }) h g

  declare_keyed : (f : Form) (d : Declaring) (at : ℕ) (es : Entries) (id : NameId) → P id.0 ≡ true → Keyed es → Held Keyed (declare_by f d at es id)
  declare_keyed forms.Header d at es id h g = add_keyed es id (headed d at) (found es id) h g
  declare_keyed forms.Ports d at es id h g = direction_keyed d es id (found es id) h g
  declare_keyed forms.Wires d at es id h g = wire_keyed d at es id (found es id) h g

  settle_keyed : (es : Entries) (id : NameId) (e : Entry) → P id.0 ≡ true → Keyed es → Keyed (scopes.settle es id e)
  settle_keyed es id e h g = by e.fixed
    where
      new : Entry
      new = record { kind = e.kind; direction = e.direction; range = e.range; fixed = true; wired = e.wired; at = e.at }

      by : (b : Bool) → Keyed (if b then es else put es id new)
      by true = g
      by false = insert_keys id.0 new es h g

  net_keyed : (side : Side) (es : Entries) (id : NameId) (e : Entry) → P id.0 ≡ true → Keyed es → Held Keyed (use_net side es id e)
  net_keyed sides.Right es id e h g = by e.fixed
    where
      by : (b : Bool) → Held Keyed (if b then Goes es else Stops offs.Syntax)
      by true = g
      by false = tt
  net_keyed sides.Left es id e h g = settle_keyed es id e h g
  net_keyed sides.Connection es id e h g = settle_keyed es id e h g

  use_keyed : (side : Side) (at : ℕ) (es : Entries) (id : NameId) (o : Option Entry) → P id.0 ≡ true → Keyed es → Held Keyed (use_by side at es id o)
  use_keyed sides.Right at es id None h g = tt
  use_keyed sides.Left at es id None h g = insert_keys id.0 (wire None at) es h g
  use_keyed sides.Connection at es id None h g = insert_keys id.0 (wire None at) es h g
  use_keyed side at es id (Some e) h g = by e.kind
    where
      refused : (s : Side) → Held Keyed (use_instance s id)
      refused sides.Right = tt
      refused sides.Left = tt
      refused sides.Connection = tt

      by : (k : Kind) → Held Keyed (use_old k side es id e)
      by kinds.Instance = refused side
      by kinds.Port = net_keyed side es id e h g
      by kinds.Wire = net_keyed side es id e h g

  ports_all : (es : Entries) → keys es ≡ true → all (flat_map port_numbers (ports_of es)) ≡ true
  ports_all [] h = refl
  ports_all (e ∷ es) h = let parts = and_parts (P e.0) (keys es) h in by e.1.kind e.1.direction parts.0 (ports_all es parts.1)
    where
      by : (k : Kind) (d : Option Direction) → P e.0 ≡ true → all (flat_map port_numbers (ports_of es)) ≡ true → all (flat_map port_numbers (with_some (port_with e.0 e.1 k d) (ports_of es))) ≡ true
      by kinds.Port (Some d) x y = and_from (P e.0) (all (flat_map port_numbers (ports_of es))) x y
      by kinds.Port None x y = y
      by kinds.Wire d x y = y
      by kinds.Instance d x y = y

  nets_all : (es : Entries) → keys es ≡ true → all (flat_map net_numbers (nets_of es)) ≡ true
  nets_all [] h = refl
  nets_all (e ∷ es) h = let parts = and_parts (P e.0) (keys es) h in by e.1.kind parts.0 (nets_all es parts.1)
    where
      by : (k : Kind) → P e.0 ≡ true → all (flat_map net_numbers (nets_of es)) ≡ true → all (flat_map net_numbers (with_some (net_with e.0 e.1 k) (nets_of es))) ≡ true
      by kinds.Port x y = y
      by kinds.Wire x y = and_from (P e.0) (all (flat_map net_numbers (nets_of es))) x y
      by kinds.Instance x y = y

  -- ---- states

  -- the names that have been read where the phase says so
  abbrev pub Registers : Context → Reader → Type 0
  Registers Outside m = Unit {0}
  Registers Inside m = P m.draft.name.0 ≡ true
  Registers Targeted m = (P m.draft.name.0 ≡ true) × (P m.joint.target.0 ≡ true)
  Registers Open m = (P m.draft.name.0 ≡ true) × (P m.joint.target.0 ≡ true) × (P m.joint.name.0 ≡ true)
  Registers Joined m = (P m.draft.name.0 ≡ true) × (P m.joint.target.0 ≡ true) × (P m.joint.name.0 ≡ true) × (P m.joint.port.0 ≡ true)
  Registers LeftSide m = P m.draft.name.0 ≡ true
  Registers RightSide m = P m.draft.name.0 ≡ true

  abbrev pub Valued : Stage → Value → Type 0
  Valued Empty v = Unit {0}
  Valued Subject v = P v.subject.0 ≡ true
  Valued Indexed v = P v.subject.0 ≡ true
  Valued Filled v = Unit {0}

  pub record Drafted (ms : List Module) (d : Draft) : Type 0 where
    pub modules : all (flat_map module_numbers ms) ≡ true
    pub scope : keys d.scope ≡ true
    pub instances : all (flat_map instance_numbers d.instances) ≡ true
    pub assigns : all (flat_map assign_numbers d.assigns) ≡ true

  pub record Jointed (j : Joint) : Type 0 where
    pub named : all (flat_map connection_numbers j.named) ≡ true
    pub ordered : all (flat_map bits_numbers j.ordered) ≡ true

  pub record Numbered (c : Context) (s : Stage) (m : Reader) : Type 0 where
    pub drafted : Drafted m.modules m.draft
    pub jointed : Jointed m.joint
    pub bits : all (bits_numbers m.value.bits) ≡ true
    pub left : all (bits_numbers m.left) ≡ true
    pub registers : Registers c m
    pub valued : Valued s m.value

  abbrev pub Holds : Phase → Reader → Type 0
  Holds (In c s) m = Numbered c s m

  abbrev pub Okay : Token → Type 0
  Okay (tokens.Name id) = P id.0 ≡ true
  Okay _ = Unit {0}

  moved_scope : (c : Context) (m : Reader) (es : Entries) → Registers c m → Registers c (with_scope m es)
  moved_scope Outside m es r = r
  moved_scope Inside m es r = r
  moved_scope Targeted m es r = r
  moved_scope Open m es r = r
  moved_scope Joined m es r = r
  moved_scope LeftSide m es r = r
  moved_scope RightSide m es r = r

  moved_value : (c : Context) (m : Reader) (v : Value) → Registers c m → Registers c (with_value m v)
  moved_value Outside m v r = r
  moved_value Inside m v r = r
  moved_value Targeted m v r = r
  moved_value Open m v r = r
  moved_value Joined m v r = r
  moved_value LeftSide m v r = r
  moved_value RightSide m v r = r

  moved_declaring : (c : Context) (m : Reader) (d : Declaring) → Registers c m → Registers c (record m { declaring = d })
  moved_declaring Outside m d r = r
  moved_declaring Inside m d r = r
  moved_declaring Targeted m d r = r
  moved_declaring Open m d r = r
  moved_declaring Joined m d r = r
  moved_declaring LeftSide m d r = r
  moved_declaring RightSide m d r = r

  moved_waiting : (c : Context) (m : Reader) (w : List Symbol) → Registers c m → Registers c (record m { waiting = w })
  moved_waiting Outside m w r = r
  moved_waiting Inside m w r = r
  moved_waiting Targeted m w r = r
  moved_waiting Open m w r = r
  moved_waiting Joined m w r = r
  moved_waiting LeftSide m w r = r
  moved_waiting RightSide m w r = r

  scope_numbered : (c : Context) (s : Stage) (m : Reader) (es : Entries) → Numbered c s m → Keyed es → Numbered c s (with_scope m es)
  scope_numbered c s m es h g = record { drafted = record { modules = h.drafted.modules; scope = g; instances = h.drafted.instances; assigns = h.drafted.assigns }; jointed = h.jointed; bits = h.bits; left = h.left; registers = moved_scope c m es h.registers; valued = h.valued }

  value_numbered : (c : Context) (s r : Stage) (m : Reader) (v : Value) → Numbered c s m → all (bits_numbers v.bits) ≡ true → Valued r v → Numbered c r (with_value m v)
  value_numbered c s r m v h b k = record { drafted = h.drafted; jointed = h.jointed; bits = b; left = h.left; registers = moved_value c m v h.registers; valued = k }

  declaring_numbered : (f : Phase) (m : Reader) (d : Declaring) → Holds f m → Holds f (record m { declaring = d })
  declaring_numbered (In c s) m d h = record { drafted = h.drafted; jointed = h.jointed; bits = h.bits; left = h.left; registers = moved_declaring c m d h.registers; valued = h.valued }

  awaits : (f : Phase) (w : List Symbol) (m : Reader) → Holds f m → Holds f (record m { waiting = w })
  awaits (In c s) w m h = record { drafted = h.drafted; jointed = h.jointed; bits = h.bits; left = h.left; registers = moved_waiting c m w h.registers; valued = h.valued }

  whole_holds : (c : Context) (m : Reader) → Holds (In c Subject) m → Holds (In c Filled) (with_value m (Steps.value_whole m.value))
  whole_holds c m h = value_numbered c Subject Filled m (Steps.value_whole m.value) h (bits_end m.value.bits (whole m.value.subject m.value.range) h.bits (whole_all m.value.subject m.value.range h.valued)) tt

  scoped_holds : (f : Phase) (m : Reader) (v : Verdict Entries) → Holds f m → Held Keyed v → Held (Holds f) (scoped m v)
  scoped_holds (In c s) m (Goes es) h g = scope_numbered c s m es h g
  scoped_holds (In c s) m (Stops off) h g = tt

  -- ---- what each action does

  start_holds : (t : Token) (at : ℕ) (f : Phase) (m : Reader) → Okay t → Holds f m → Acted Holds (begun t f) (start_value m at t)
  start_holds (tokens.Name id) at (In c s) m ok h = by (scoped m (use_name m.value.side at m.draft.scope id)) (scoped_holds (In c s) m (use_name m.value.side at m.draft.scope id) h (use_keyed m.value.side at m.draft.scope id (found m.draft.scope id) ok h.drafted.scope))
    where
      by : (v : Verdict Reader) → Held (Holds (In c s)) v → Held (Holds (In c Subject)) (and_then v (λ r. Goes (with_subject id r)))
      by (Goes u) k = value_numbered c s Subject u (Steps.value_subject id (range_in u.draft.scope id) u.value) k k.bits ok
      by (Stops off) k = tt
  start_holds (tokens.Constant size value) at (In c s) m ok h = by m.value.side
    where
      filled : all (bits_numbers (m.value.bits ++ constant_bits size value)) ≡ true
      filled = bits_end m.value.bits (constant_bits size value) h.bits (digits_all value (indices false (size - 1) 0 size))

      by : (side : Side) → Held (Holds (In c Filled)) (valued m (Steps.constant_on side size value m.value))
      by sides.Left = tt
      by sides.Right = value_numbered c s Filled m (Steps.value_with (constant_bits size value) m.value) h filled tt
      by sides.Connection = value_numbered c s Filled m (Steps.value_with (constant_bits size value) m.value) h filled tt
  start_holds (tokens.Mark mark) at f m ok h = h
  start_holds (tokens.Keyword word) at f m ok h = tt
  start_holds (tokens.Number v) at f m ok h = tt
  start_holds tokens.Unread at f m ok h = tt
  start_holds tokens.Foreign at f m ok h = tt
  start_holds tokens.Broken at f m ok h = tt

  begin_holds : (t : Token) (m : Reader) (at : ℕ) → Okay t → Holds (In Outside Empty) m → Held (Holds (In Inside Empty)) (perform actions.BeginModule t at m)
  begin_holds (tokens.Name id) m at ok h = by (list_any (nat_eq id.0) m.taken)
    where
      by : (b : Bool) → Held (Holds (In Inside Empty)) (if b then Stops (offs.Duplicate id) else Goes (record m { taken = insert_key nat_eq m.taken id.0; draft = Steps.module_named id }))
      by true = tt
      by false = record { drafted = record { modules = h.drafted.modules; scope = refl; instances = refl; assigns = refl }; jointed = h.jointed; bits = h.bits; left = h.left; registers = ok; valued = tt }
  begin_holds _ m at ok h = tt

  module_all : (d : Draft) → P d.name.0 ≡ true → keys d.scope ≡ true → all (flat_map instance_numbers d.instances) ≡ true → all (flat_map assign_numbers d.assigns) ≡ true → all (module_numbers (Steps.module_of d)) ≡ true
  module_all d name scope instances assigns =
      let is = flat_map instance_numbers d.instances in
      let as_ = flat_map assign_numbers d.assigns in
      let ns = flat_map net_numbers (nets_of d.scope) in
      let ps = flat_map port_numbers (ports_of d.scope) in
      and_from (P d.name.0) (all (ps ++ (ns ++ (is ++ as_)))) name (append ps (ns ++ (is ++ as_)) (ports_all d.scope scope) (append ns (is ++ as_) (nets_all d.scope scope) (append is as_ instances assigns)))

  end_holds : (c : Context) (s : Stage) (m : Reader) (at : ℕ) (t : Token) → P m.draft.name.0 ≡ true → Numbered c s m → Held (Holds (In Outside Empty)) (perform actions.EndModule t at m)
  end_holds c s m at t name h = by (lacking_of m.draft.scope)
    where
      by : (o : Option ℕ) → Held (Holds (In Outside Empty)) (and_then (Steps.end_by m.draft o) (λ module_. Goes (record m { modules = m.modules ++ module_ ∷ []; draft = Steps.module_named m.draft.name })))
      by None =
          record {
            drafted = record { modules = end_with module_numbers m.modules (Steps.module_of m.draft) h.drafted.modules (module_all m.draft name h.drafted.scope h.drafted.instances h.drafted.assigns); scope = refl; instances = refl; assigns = refl };
            jointed = h.jointed;
            bits = h.bits;
            left = h.left;
            registers = tt;
            valued = tt;
          }
      by (Some place) = tt

  target_holds : (t : Token) (c : Context) (m : Reader) (at : ℕ) → P m.draft.name.0 ≡ true → Okay t → Numbered c Empty m → Held (Holds (In Targeted Empty)) (perform actions.Target t at m)
  target_holds (tokens.Name id) c m at name ok h = record { drafted = h.drafted; jointed = record { named = h.jointed.named; ordered = h.jointed.ordered }; bits = h.bits; left = h.left; registers = (name, ok); valued = tt }
  target_holds _ c m at name ok h = tt

  begin_instance_holds : (t : Token) (m : Reader) (at : ℕ) → Okay t → Holds (In Targeted Empty) m → Held (Holds (In Open Empty)) (perform actions.BeginInstance t at m)
  begin_instance_holds (tokens.Name id) m at ok h =
      let v = add_new m.draft.scope id (instance_entry at) (found m.draft.scope id) in
      by (scoped m v) (scoped_holds (In Targeted Empty) m v h (add_keyed m.draft.scope id (instance_entry at) (found m.draft.scope id) ok h.drafted.scope))
    where
      by : (v : Verdict Reader) → Held (Holds (In Targeted Empty)) v → Held (Holds (In Open Empty)) (and_then v (λ r. Goes (begun_instance id r)))
      by (Goes u) k = record { drafted = k.drafted; jointed = record { named = k.jointed.named; ordered = k.jointed.ordered }; bits = k.bits; left = k.left; registers = (k.registers.0, k.registers.1, ok); valued = tt }
      by (Stops off) k = tt
  begin_instance_holds _ m at ok h = tt

  joint_all : (j : Joint) → P j.name.0 ≡ true → P j.target.0 ≡ true → Jointed j → all (instance_numbers (Steps.joint_instance j)) ≡ true
  joint_all j name target h = and_from (P j.name.0) (P j.target.0 && all (connections_numbers (Steps.joint_connections j))) name (and_from (P j.target.0) (all (connections_numbers (Steps.joint_connections j))) target (by j.positional))
    where
      by : (b : Bool) → all (connections_numbers (if b then connections.Ordered j.ordered else connections.Named j.named)) ≡ true
      by true = h.ordered
      by false = h.named

  end_instance_holds : (m : Reader) → Registers Open m → Drafted m.modules m.draft → Jointed m.joint → all (bits_numbers m.value.bits) ≡ true → all (bits_numbers m.left) ≡ true → Holds (In Targeted Empty) (record m { draft = Steps.with_instance (Steps.joint_instance m.joint) m.draft; joint = Steps.joint_emptied m.joint })
  end_instance_holds m r d j b l =
      record {
        drafted = record { modules = d.modules; scope = d.scope; instances = end_with instance_numbers m.draft.instances (Steps.joint_instance m.joint) d.instances (joint_all m.joint r.2 r.1 j); assigns = d.assigns };
        jointed = record { named = refl; ordered = refl };
        bits = b;
        left = l;
        registers = (r.0, r.1);
        valued = tt;
      }

  port_holds : (t : Token) (m : Reader) (at : ℕ) → Okay t → Holds (In Open Empty) m → Held (Holds (In Joined Empty)) (perform actions.ConnectionName t at m)
  port_holds (tokens.Name id) m at ok h = record { drafted = h.drafted; jointed = record { named = h.jointed.named; ordered = h.jointed.ordered }; bits = h.bits; left = h.left; registers = (h.registers.0, h.registers.1, h.registers.2, ok); valued = tt }
  port_holds _ m at ok h = tt

  named_holds : (s : Stage) (t : Token) (m : Reader) (at : ℕ) → Holds (In Joined s) m → Held (Holds (In Open Empty)) (perform actions.EndNamed t at m)
  named_holds s t m at h =
      let new : Connection = record { bits = m.value.bits; port = m.joint.port } in
      record {
        drafted = h.drafted;
        jointed = record { named = end_with connection_numbers m.joint.named new h.jointed.named (and_from (P m.joint.port.0) (all (bits_numbers m.value.bits)) h.registers.3 h.bits); ordered = h.jointed.ordered };
        bits = refl;
        left = h.left;
        registers = (h.registers.0, h.registers.1, h.registers.2);
        valued = tt;
      }

  ordered_all : (m : Reader) → Jointed m.joint → all (bits_numbers m.value.bits) ≡ true → Jointed (Steps.joint_ordered m.value.bits m.joint)
  ordered_all m j b = record { named = j.named; ordered = end_with bits_numbers m.joint.ordered m.value.bits j.ordered b }

  assign_all : (m : Reader) → Drafted m.modules m.draft → all (bits_numbers m.left) ≡ true → all (bits_numbers m.value.bits) ≡ true → Drafted m.modules (Steps.with_assign m.left m.value.bits m.draft)
  assign_all m d l b = record { modules = d.modules; scope = d.scope; instances = d.instances; assigns = end_with assign_numbers m.draft.assigns (record { left = m.left; right = m.value.bits }) d.assigns (append (bits_numbers m.left) (bits_numbers m.value.bits) l b) }

  select_holds : (c : Context) (m : Reader) (o : Option BitRange) → Holds (In c Subject) m → Held (Holds (In c Subject)) (valued m (Steps.value_select_by m.value o))
  select_holds c m None h = tt
  select_holds c m (Some r) h = value_numbered c Subject Subject m m.value h h.bits h.valued

  index_holds : (c : Context) (i : ℕ) (m : Reader) (o : Option BitRange) → Holds (In c Subject) m → Held (Holds (In c Indexed)) (valued m (Steps.value_index_by i m.value o))
  index_holds c i m None h = tt
  index_holds c i m (Some r) h = by (is_in r i)
    where
      by : (b : Bool) → Held (Holds (In c Indexed)) (valued m (if b then Goes (record m.value { index = i }) else Stops offs.Syntax))
      by true = value_numbered c Subject Indexed m (record m.value { index = i }) h h.bits h.valued
      by false = tt

  many_holds : (c : Context) (j : ℕ) (m : Reader) (o : Option BitRange) → Holds (In c Indexed) m → Held (Holds (In c Filled)) (valued m (Steps.value_many_by j m.value o))
  many_holds c j m None h = tt
  many_holds c j m (Some r) h = by (is_in r j && goes_along r m.value.index j)
    where
      by : (b : Bool) → Held (Holds (In c Filled)) (valued m (if b then Goes (Steps.value_with (select m.value.subject m.value.index j) m.value) else Stops offs.Syntax))
      by true = value_numbered c Indexed Filled m (Steps.value_with (select m.value.subject m.value.index j) m.value) h (bits_end m.value.bits (select m.value.subject m.value.index j) h.bits (selected m.value.subject (between m.value.index j) h.valued)) tt
      by false = tt

  list_holds : (t : Token) (at : ℕ) (f : Phase) (m : Reader) → Okay t → Holds f m → Held (Holds f) (perform actions.ListPort t at m)
  list_holds (tokens.Name id) at (In c s) m ok h = scoped_holds (In c s) m (add_new m.draft.scope id (listed at) (found m.draft.scope id)) h (add_keyed m.draft.scope id (listed at) (found m.draft.scope id) ok h.drafted.scope)
  list_holds _ at f m ok h = tt

  declare_holds : (t : Token) (at : ℕ) (f : Phase) (m : Reader) → Okay t → Holds f m → Held (Holds f) (perform actions.Declare t at m)
  declare_holds (tokens.Name id) at (In c s) m ok h = scoped_holds (In c s) m (declare m.declaring at m.draft.scope id) h (declare_keyed m.declaring.form m.declaring at m.draft.scope id ok h.drafted.scope)
  declare_holds _ at f m ok h = tt

  performed : (a : Action) (t : Token) (at : ℕ) (f : Phase) (m : Reader) → Okay t → Holds f m → Acted Holds (act a t f) (perform a t at m)
  performed actions.Pass t at f m ok h = h
  performed actions.BeginModule t at (In Outside Empty) m ok h = begin_holds t m at ok h
  performed actions.BeginModule t at (In _ _) m ok h = tt
  performed actions.ListPort t at f m ok h = list_holds t at f m ok h
  performed actions.HeaderDirection (tokens.Keyword keywords.Input) at f m ok h = declaring_numbered f m _ h
  performed actions.HeaderDirection (tokens.Keyword keywords.Output) at f m ok h = declaring_numbered f m _ h
  performed actions.HeaderDirection _ at f m ok h = tt
  performed actions.ItemDirection (tokens.Keyword keywords.Input) at f m ok h = declaring_numbered f m _ h
  performed actions.ItemDirection (tokens.Keyword keywords.Output) at f m ok h = declaring_numbered f m _ h
  performed actions.ItemDirection _ at f m ok h = tt
  performed actions.ItemWires t at f m ok h = declaring_numbered f m _ h
  performed actions.Declare t at f m ok h = declare_holds t at f m ok h
  performed actions.EndModule t at (In Inside Empty) m ok h = end_holds Inside Empty m at t h.registers h
  performed actions.EndModule t at (In Targeted Empty) m ok h = end_holds Targeted Empty m at t h.registers.0 h
  performed actions.EndModule t at (In _ _) m ok h = tt
  performed actions.LeftBound (tokens.Number (Some v)) at f m ok h = declaring_numbered f m _ h
  performed actions.LeftBound _ at f m ok h = tt
  performed actions.RightBound (tokens.Number (Some v)) at f m ok h = declaring_numbered f m _ h
  performed actions.RightBound _ at f m ok h = tt
  performed actions.Target t at (In Inside Empty) m ok h = target_holds t Inside m at h.registers ok h
  performed actions.Target t at (In Targeted Empty) m ok h = target_holds t Targeted m at h.registers.0 ok h
  performed actions.Target t at (In _ _) m ok h = tt
  performed actions.BeginInstance t at (In Targeted Empty) m ok h = begin_instance_holds t m at ok h
  performed actions.BeginInstance t at (In _ _) m ok h = tt
  performed actions.EndInstance t at (In Open Empty) m ok h = end_instance_holds m h.registers h.drafted h.jointed h.bits h.left
  performed actions.EndInstance t at (In _ _) m ok h = tt
  performed actions.FirstOrdered t at (In Open Empty) m ok h =
      start_holds t at (In Open Empty) (record m { joint = Steps.joint_positional m.joint }) ok (record { drafted = h.drafted; jointed = record { named = h.jointed.named; ordered = h.jointed.ordered }; bits = h.bits; left = h.left; registers = h.registers; valued = tt })
  performed actions.FirstOrdered t at (In _ _) m ok h = tt
  performed actions.NextOrdered t at (In Open Filled) m ok h = record { drafted = h.drafted; jointed = ordered_all m h.jointed h.bits; bits = refl; left = h.left; registers = h.registers; valued = tt }
  performed actions.NextOrdered t at (In _ _) m ok h = tt
  performed actions.LastOrdered t at (In Open Filled) m ok h =
      end_instance_holds (record m { joint = Steps.joint_ordered m.value.bits m.joint; value = Steps.value_emptied m.value }) h.registers h.drafted (ordered_all m h.jointed h.bits) refl h.left
  performed actions.LastOrdered t at (In _ _) m ok h = tt
  performed actions.ConnectionName t at (In Open Empty) m ok h = port_holds t m at ok h
  performed actions.ConnectionName t at (In _ _) m ok h = tt
  performed actions.EndNamed t at (In Joined Empty) m ok h = named_holds Empty t m at h
  performed actions.EndNamed t at (In Joined Filled) m ok h = named_holds Filled t m at h
  performed actions.EndNamed t at (In _ _) m ok h = tt
  performed actions.BeginAssign t at (In Inside Empty) m ok h = record { drafted = h.drafted; jointed = h.jointed; bits = h.bits; left = h.left; registers = h.registers; valued = tt }
  performed actions.BeginAssign t at (In Targeted Empty) m ok h = record { drafted = h.drafted; jointed = h.jointed; bits = h.bits; left = h.left; registers = h.registers.0; valued = tt }
  performed actions.BeginAssign t at (In _ _) m ok h = tt
  performed actions.EndLeft t at (In LeftSide Filled) m ok h = record { drafted = h.drafted; jointed = h.jointed; bits = refl; left = h.bits; registers = h.registers; valued = tt }
  performed actions.EndLeft t at (In _ _) m ok h = tt
  performed actions.NextAssign t at (In RightSide Filled) m ok h = record { drafted = assign_all m h.drafted h.left h.bits; jointed = h.jointed; bits = refl; left = refl; registers = h.registers; valued = tt }
  performed actions.NextAssign t at (In _ _) m ok h = tt
  performed actions.LastAssign t at (In RightSide Filled) m ok h = record { drafted = assign_all m h.drafted h.left h.bits; jointed = h.jointed; bits = refl; left = refl; registers = h.registers; valued = tt }
  performed actions.LastAssign t at (In _ _) m ok h = tt
  performed actions.StartValue t at f m ok h = start_holds t at f m ok h
  performed actions.Select t at (In c Subject) m ok h = select_holds c m m.value.range h
  performed actions.Select t at (In c Empty) m ok h = tt
  performed actions.Select t at (In c Indexed) m ok h = tt
  performed actions.Select t at (In c Filled) m ok h = tt
  performed actions.Index (tokens.Number (Some v)) at (In c Subject) m ok h = index_holds c v m m.value.range h
  performed actions.Index _ at (In c Subject) m ok h = tt
  performed actions.Index t at (In c Empty) m ok h = tt
  performed actions.Index t at (In c Indexed) m ok h = tt
  performed actions.Index t at (In c Filled) m ok h = tt
  performed actions.OneBit t at (In c Indexed) m ok h =
      value_numbered c Indexed Filled m (Steps.value_one m.value) h (bits_end m.value.bits (bits.Select m.value.subject m.value.index ∷ []) h.bits (and_from (P m.value.subject.0) true h.valued refl)) tt
  performed actions.OneBit t at (In c Empty) m ok h = tt
  performed actions.OneBit t at (In c Subject) m ok h = tt
  performed actions.OneBit t at (In c Filled) m ok h = tt
  performed actions.ManyBits (tokens.Number (Some v)) at (In c Indexed) m ok h = many_holds c v m m.value.range h
  performed actions.ManyBits _ at (In c Indexed) m ok h = tt
  performed actions.ManyBits t at (In c Empty) m ok h = tt
  performed actions.ManyBits t at (In c Subject) m ok h = tt
  performed actions.ManyBits t at (In c Filled) m ok h = tt

  begun_holds : Holds (In Outside Empty) start
  begun_holds = record { drafted = record { modules = refl; scope = refl; instances = refl; assigns = refl }; jointed = record { named = refl; ordered = refl }; bits = refl; left = refl; registers = tt; valued = tt }

  modules_of : (f : Phase) (m : Reader) → Holds f m → all (flat_map module_numbers m.modules) ≡ true
  modules_of (In c s) m h = h.drafted.modules

  -- all numbers in what a text denotes pass a test that all names of its tokens pass
  pub all_pass : (names : List (List ℕ)) (text : List ℕ) (ms : List Module) → ((fresh : Bool) (rest : List ℕ) (p : Piece) → piece_of fresh rest ≡ Some p → is_known names p.lexeme ≡ true → Okay (numbered names p.lexeme)) → Denotes names text ms → all (flat_map module_numbers ms) ≡ true
  all_pass names text ms okays h =
      let end = denoted Holds Okay performed awaits whole_holds names text ms okays h begun_holds in
      let s = end.1 in
      ap (λ xs. all (flat_map module_numbers xs)) (sym end.2) ∙ modules_of s.phase end.0 s.holds
