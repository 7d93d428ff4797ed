-- Steps under other numbers of names are the same steps, renumbered.
use Rattle.std.proofs.Common.{◌≡◌, ℕ, Bool, true, false, List, [], ◌∷◌, ◌++◌, map, Option, Some, None, refl, sym, ap, ◌∙◌}
use Rattle.std.specs.Prelude.{nat_eq, if◌then◌else◌}
use Rattle.std.specs.List.{list_any}
use Rattle.indexmap.specs.IndexSet.{insert_key}
use Rattle.std.proofs.lemmas.List.{map-append}
use Rattle.lp_model.specs.declared.bits.Bit.{Bit}
use Rattle.lp_model.specs.declared.netlist.Connection.{Connection}
use Rattle.lp_model.specs.declared.netlist.Connections.TheVariants.{Named, Ordered}
use Rattle.lp_verilog_tokens.specs.declared.token.Token.{Token}
use Rattle.lp_verilog_tokens.specs.declared.token.Token.TheVariants as tokens
use Rattle.lp_verilog_tokens.specs.declared.token.Keyword.TheVariants as keywords
use Rattle.lp_verilog_grammar.specs.declared.symbol.Symbol.{Symbol}
use Rattle.lp_verilog_grammar.specs.declared.symbol.Symbol.TheVariants as symbols
use Rattle.lp_verilog_grammar.specs.declared.symbol.Action.{Action}
use Rattle.lp_verilog_grammar.specs.declared.symbol.Action.TheVariants as actions
use Rattle.lp_verilog_draft.specs.declared.stop.Off.TheVariants as offs
use Rattle.lp_verilog_draft.specs.declared.value.Side.{Side}
use Rattle.lp_verilog_draft.specs.declared.value.Side.TheVariants as sides
use Rattle.lp_verilog_draft.specs.declared.value.Value.{Value}
use Rattle.lp_verilog_draft.specs.declared.declaring.Form.{Form}
use Rattle.lp_verilog_draft.specs.declared.declaring.Form.TheVariants as forms
use Rattle.lp_verilog_grammar.specs.declared.reader.Reader.{Reader}
use Rattle.lp_verilog_grammar.specs.Grammar.{Production, production}
use Rattle.lp_verilog_draft.specs.Verdicts.{Verdict, Goes, Stops, and_then}
use Rattle.lp_verilog_draft.specs.Scopes.{Entries, add_new, found, listed, declare, use_name, instance_entry, lacking_of}
use Rattle.lp_verilog_draft.specs.Steps
use Rattle.lp_verilog_grammar.specs.Machine.{with_value, scoped, valued, begin_module, list_port, give_direction, declare_name, finish_module, left_bound, right_bound, give_target, begun_instance, begin_instance, end_instance, end_ordered, end_named, give_port, with_side, end_assign, with_subject, start_value, give_index, give_second, perform, refusal, is_bracket, settled, settle, produced, take_by, take_token, step}
use Rattle.lp_verilog.proofs.Renaming.{nm, tk, bts, es, cn, cs, it, sg, md, vl, jt, dr, rd, off, vd, select_step, index_step, one_step, whole_step, many_step, constant_step, lacking_same, ports_same, nets_same, any_same, insert_key_same, add_new_same, declare_same, use_same, range_same}

production_same : (ρ : ℕ → ℕ) (s : Symbol) (t : Token) → production s (tk ρ t) ≡ production s t
production_same ρ s (tokens.Mark m) = refl
production_same ρ s (tokens.Keyword k) = refl
production_same ρ s (tokens.Number v) = refl
production_same ρ s (tokens.Constant size value) = refl
production_same ρ s tokens.Unread = refl
production_same ρ s tokens.Foreign = refl
production_same ρ s tokens.Broken = refl
production_same ρ symbols.Source (tokens.Name n) = refl
production_same ρ symbols.ModuleName (tokens.Name n) = refl
production_same ρ symbols.Header (tokens.Name n) = refl
production_same ρ symbols.Ports (tokens.Name n) = refl
production_same ρ symbols.PortsMore (tokens.Name n) = refl
production_same ρ symbols.PortName (tokens.Name n) = refl
production_same ρ symbols.HeaderMore (tokens.Name n) = refl
production_same ρ symbols.HeaderPort (tokens.Name n) = refl
production_same ρ (symbols.Expect mark) (tokens.Name n) = refl
production_same ρ symbols.Declared (tokens.Name n) = refl
production_same ρ symbols.Vector (tokens.Name n) = refl
production_same ρ symbols.DeclaredName (tokens.Name n) = refl
production_same ρ symbols.LeftBound (tokens.Name n) = refl
production_same ρ symbols.RightBound (tokens.Name n) = refl
production_same ρ symbols.Items (tokens.Name n) = refl
production_same ρ symbols.DeclaredMore (tokens.Name n) = refl
production_same ρ symbols.InstanceName (tokens.Name n) = refl
production_same ρ symbols.InstanceMore (tokens.Name n) = refl
production_same ρ symbols.Connections (tokens.Name n) = refl
production_same ρ symbols.NamedMore (tokens.Name n) = refl
production_same ρ symbols.ConnectionName (tokens.Name n) = refl
production_same ρ symbols.NamedValue (tokens.Name n) = refl
production_same ρ symbols.NamedEnd (tokens.Name n) = refl
production_same ρ symbols.OrderedMore (tokens.Name n) = refl
production_same ρ symbols.Value (tokens.Name n) = refl
production_same ρ symbols.Tail (tokens.Name n) = refl
production_same ρ symbols.ConcatMore (tokens.Name n) = refl
production_same ρ symbols.Index (tokens.Name n) = refl
production_same ρ symbols.IndexMore (tokens.Name n) = refl
production_same ρ symbols.SecondIndex (tokens.Name n) = refl
production_same ρ symbols.AssignSign (tokens.Name n) = refl
production_same ρ symbols.AssignMore (tokens.Name n) = refl

off_if : (ρ : ℕ → ℕ) (a b : Bool) → off ρ (if a then (if b then offs.Syntax else offs.Unsupported) else offs.Syntax) ≡ (if a then (if b then offs.Syntax else offs.Unsupported) else offs.Syntax)
off_if ρ true true = refl
off_if ρ true false = refl
off_if ρ false b = refl

refusal_same : (ρ : ℕ → ℕ) (s : Symbol) (side : Side) (t : Token) → refusal s side (tk ρ t) ≡ off ρ (refusal s side t)
refusal_same ρ s side (tokens.Mark m) = refl
refusal_same ρ s side (tokens.Keyword k) = refl
refusal_same ρ s side (tokens.Number v) = sym (off_if ρ _ _)
refusal_same ρ s side (tokens.Constant size value) = refl
refusal_same ρ s side tokens.Unread = sym (off_if ρ _ _)
refusal_same ρ s side tokens.Foreign = refl
refusal_same ρ s side tokens.Broken = refl
refusal_same ρ s side (tokens.Name n) = refl

module _ (ρ : ℕ → ℕ) (inj : (i j : ℕ) → ρ i ≡ ρ j → i ≡ j) where
  scoped_same : (m : Reader) (v : Verdict Entries) → scoped (rd ρ m) (vd ρ (es ρ) v) ≡ vd ρ (rd ρ) (scoped m v)
  scoped_same m (Goes s) = refl
  scoped_same m (Stops o) = refl

  valued_same : (m : Reader) (v : Verdict Value) → valued (rd ρ m) (vd ρ (vl ρ) v) ≡ vd ρ (rd ρ) (valued m v)
  valued_same m (Goes s) = refl
  valued_same m (Stops o) = refl

  then_same : (f g : Reader → Reader) → ((r : Reader) → g (rd ρ r) ≡ rd ρ (f r)) → (v : Verdict Reader) → and_then (vd ρ (rd ρ) v) (λ r. Goes (g r)) ≡ vd ρ (rd ρ) (and_then v (λ r. Goes (f r)))
  then_same f g same (Goes r) = ap Goes (same r)
  then_same f g same (Stops o) = refl

  begin_same : (m : Reader) (t : Token) → begin_module (rd ρ m) (tk ρ t) ≡ vd ρ (rd ρ) (begin_module m t)
  begin_same m (tokens.Name n) = ap (λ b. if b then Stops (offs.Duplicate (nm ρ n)) else Goes (record (rd ρ m) { taken = insert_key nat_eq (map ρ m.taken) (ρ n.0); draft = Steps.module_named (nm ρ n) })) (any_same ρ inj n.0 m.taken) ∙ by (list_any (nat_eq n.0) m.taken)
    where
      by : (b : Bool) → (if b then Stops (offs.Duplicate (nm ρ n)) else Goes (record (rd ρ m) { taken = insert_key nat_eq (map ρ m.taken) (ρ n.0); draft = Steps.module_named (nm ρ n) })) ≡ vd ρ (rd ρ) (if b then Stops (offs.Duplicate n) else Goes (record m { taken = insert_key nat_eq m.taken n.0; draft = Steps.module_named n }))
      by true = refl
      by false = ap (λ xs. Goes (record (rd ρ m) { taken = xs; draft = Steps.module_named (nm ρ n) })) (insert_key_same ρ inj n.0 m.taken)
  begin_same m (tokens.Mark x) = refl
  begin_same m (tokens.Keyword k) = refl
  begin_same m (tokens.Number v) = refl
  begin_same m (tokens.Constant size value) = refl
  begin_same m tokens.Unread = refl
  begin_same m tokens.Foreign = refl
  begin_same m tokens.Broken = refl

  list_same : (m : Reader) (at : ℕ) (t : Token) → list_port (rd ρ m) at (tk ρ t) ≡ vd ρ (rd ρ) (list_port m at t)
  list_same m at (tokens.Name n) = ap (scoped (rd ρ m)) (add_new_same ρ inj m.draft.scope n (listed at)) ∙ scoped_same m (add_new m.draft.scope n (listed at) (found m.draft.scope n))
  list_same m at (tokens.Mark x) = refl
  list_same m at (tokens.Keyword k) = refl
  list_same m at (tokens.Number v) = refl
  list_same m at (tokens.Constant size value) = refl
  list_same m at tokens.Unread = refl
  list_same m at tokens.Foreign = refl
  list_same m at tokens.Broken = refl

  direction_same : (m : Reader) (f : Form) (t : Token) → give_direction (rd ρ m) f (tk ρ t) ≡ vd ρ (rd ρ) (give_direction m f t)
  direction_same m f (tokens.Keyword keywords.Module) = refl
  direction_same m f (tokens.Keyword keywords.EndModule) = refl
  direction_same m f (tokens.Keyword keywords.Input) = refl
  direction_same m f (tokens.Keyword keywords.Output) = refl
  direction_same m f (tokens.Keyword keywords.Wire) = refl
  direction_same m f (tokens.Keyword keywords.Assign) = refl
  direction_same m f (tokens.Name n) = refl
  direction_same m f (tokens.Mark x) = refl
  direction_same m f (tokens.Number v) = refl
  direction_same m f (tokens.Constant size value) = refl
  direction_same m f tokens.Unread = refl
  direction_same m f tokens.Foreign = refl
  direction_same m f tokens.Broken = refl

  declare_name_same : (m : Reader) (at : ℕ) (t : Token) → declare_name (rd ρ m) at (tk ρ t) ≡ vd ρ (rd ρ) (declare_name m at t)
  declare_name_same m at (tokens.Name n) = ap (scoped (rd ρ m)) (declare_same ρ inj m.declaring.form m.declaring at m.draft.scope n) ∙ scoped_same m (declare m.declaring at m.draft.scope n)
  declare_name_same m at (tokens.Mark x) = refl
  declare_name_same m at (tokens.Keyword k) = refl
  declare_name_same m at (tokens.Number v) = refl
  declare_name_same m at (tokens.Constant size value) = refl
  declare_name_same m at tokens.Unread = refl
  declare_name_same m at tokens.Foreign = refl
  declare_name_same m at tokens.Broken = refl

  finish_step : (m : Reader) (o : Option ℕ) → and_then (Steps.end_by (dr ρ m.draft) o) (λ x. Goes (record (rd ρ m) { modules = map (md ρ) m.modules ++ x ∷ []; draft = Steps.module_named (nm ρ m.draft.name) })) ≡ vd ρ (rd ρ) (and_then (Steps.end_by m.draft o) (λ x. Goes (record m { modules = m.modules ++ x ∷ []; draft = Steps.module_named m.draft.name })))
  finish_step m None =
      let made : Steps.module_of (dr ρ m.draft) ≡ md ρ (Steps.module_of m.draft) = rw (ports_same ρ m.draft.scope, nets_same ρ m.draft.scope) refl in
      ap (λ xs. Goes (record (rd ρ m) { modules = xs; draft = Steps.module_named (nm ρ m.draft.name) })) (ap (λ x. map (md ρ) m.modules ++ x ∷ []) made ∙ sym (map-append (md ρ) m.modules (Steps.module_of m.draft ∷ [])))
  finish_step m (Some k) = refl

  finish_same : (m : Reader) → finish_module (rd ρ m) ≡ vd ρ (rd ρ) (finish_module m)
  finish_same m = ap (λ o. and_then (Steps.end_by (dr ρ m.draft) o) (λ x. Goes (record (rd ρ m) { modules = map (md ρ) m.modules ++ x ∷ []; draft = Steps.module_named (nm ρ m.draft.name) }))) (lacking_same ρ m.draft.scope) ∙ finish_step m (lacking_of m.draft.scope)

  left_same : (m : Reader) (t : Token) → left_bound (rd ρ m) (tk ρ t) ≡ vd ρ (rd ρ) (left_bound m t)
  left_same m (tokens.Number None) = refl
  left_same m (tokens.Number (Some v)) = refl
  left_same m (tokens.Name n) = refl
  left_same m (tokens.Mark x) = refl
  left_same m (tokens.Keyword k) = refl
  left_same m (tokens.Constant size value) = refl
  left_same m tokens.Unread = refl
  left_same m tokens.Foreign = refl
  left_same m tokens.Broken = refl

  right_same : (m : Reader) (t : Token) → right_bound (rd ρ m) (tk ρ t) ≡ vd ρ (rd ρ) (right_bound m t)
  right_same m (tokens.Number None) = refl
  right_same m (tokens.Number (Some v)) = refl
  right_same m (tokens.Name n) = refl
  right_same m (tokens.Mark x) = refl
  right_same m (tokens.Keyword k) = refl
  right_same m (tokens.Constant size value) = refl
  right_same m tokens.Unread = refl
  right_same m tokens.Foreign = refl
  right_same m tokens.Broken = refl

  target_same : (m : Reader) (t : Token) → give_target (rd ρ m) (tk ρ t) ≡ vd ρ (rd ρ) (give_target m t)
  target_same m (tokens.Name n) = refl
  target_same m (tokens.Mark x) = refl
  target_same m (tokens.Keyword k) = refl
  target_same m (tokens.Number v) = refl
  target_same m (tokens.Constant size value) = refl
  target_same m tokens.Unread = refl
  target_same m tokens.Foreign = refl
  target_same m tokens.Broken = refl

  port_name_same : (m : Reader) (t : Token) → give_port (rd ρ m) (tk ρ t) ≡ vd ρ (rd ρ) (give_port m t)
  port_name_same m (tokens.Name n) = refl
  port_name_same m (tokens.Mark x) = refl
  port_name_same m (tokens.Keyword k) = refl
  port_name_same m (tokens.Number v) = refl
  port_name_same m (tokens.Constant size value) = refl
  port_name_same m tokens.Unread = refl
  port_name_same m tokens.Foreign = refl
  port_name_same m tokens.Broken = refl

  begin_instance_same : (m : Reader) (at : ℕ) (t : Token) → begin_instance (rd ρ m) at (tk ρ t) ≡ vd ρ (rd ρ) (begin_instance m at t)
  begin_instance_same m at (tokens.Name n) =
      ap (λ v. and_then v (λ r. Goes (begun_instance (nm ρ n) r))) (ap (scoped (rd ρ m)) (add_new_same ρ inj m.draft.scope n (instance_entry at)) ∙ scoped_same m (add_new m.draft.scope n (instance_entry at) (found m.draft.scope n)))
      ∙ then_same (begun_instance n) (begun_instance (nm ρ n)) (λ r. refl) (scoped m (add_new m.draft.scope n (instance_entry at) (found m.draft.scope n)))
  begin_instance_same m at (tokens.Mark x) = refl
  begin_instance_same m at (tokens.Keyword k) = refl
  begin_instance_same m at (tokens.Number v) = refl
  begin_instance_same m at (tokens.Constant size value) = refl
  begin_instance_same m at tokens.Unread = refl
  begin_instance_same m at tokens.Foreign = refl
  begin_instance_same m at tokens.Broken = refl

  joined_same : (b : Bool) (o : List (List Bit)) (n : List Connection) → (if b then Ordered (map (bts ρ) o) else Named (map (cn ρ) n)) ≡ cs ρ (if b then Ordered o else Named n)
  joined_same true o n = refl
  joined_same false o n = refl

  end_instance_same : (m : Reader) → end_instance (rd ρ m) ≡ rd ρ (end_instance m)
  end_instance_same m =
      let j = m.joint in
      let made : Steps.joint_instance (jt ρ j) ≡ it ρ (Steps.joint_instance j) = ap (λ c. record { name = nm ρ j.name; target = nm ρ j.target; connections = c }) (joined_same j.positional j.ordered j.named) in
      ap (λ xs. record (rd ρ m) { draft = record (dr ρ m.draft) { instances = xs }; joint = Steps.joint_emptied (jt ρ j) }) (ap (λ x. map (it ρ) m.draft.instances ++ x ∷ []) made ∙ sym (map-append (it ρ) m.draft.instances (Steps.joint_instance j ∷ [])))

  end_ordered_same : (m : Reader) → end_ordered (rd ρ m) ≡ rd ρ (end_ordered m)
  end_ordered_same m = ap (λ xs. record (rd ρ m) { joint = record (jt ρ m.joint) { ordered = xs }; value = Steps.value_emptied (vl ρ m.value) }) (sym (map-append (bts ρ) m.joint.ordered (m.value.bits ∷ [])))

  end_named_same : (m : Reader) → end_named (rd ρ m) ≡ rd ρ (end_named m)
  end_named_same m = ap (λ xs. record (rd ρ m) { joint = record (jt ρ m.joint) { named = xs }; value = Steps.value_emptied (vl ρ m.value) }) (sym (map-append (cn ρ) m.joint.named (record { bits = m.value.bits; port = m.joint.port } ∷ [])))

  end_assign_same : (m : Reader) → end_assign (rd ρ m) ≡ rd ρ (end_assign m)
  end_assign_same m = ap (λ xs. record (rd ρ m) { draft = record (dr ρ m.draft) { assigns = xs }; value = Steps.value_emptied (vl ρ m.value); left = [] }) (sym (map-append (sg ρ) m.draft.assigns (record { left = m.left; right = m.value.bits } ∷ [])))

  start_value_same : (m : Reader) (at : ℕ) (t : Token) → start_value (rd ρ m) at (tk ρ t) ≡ vd ρ (rd ρ) (start_value m at t)
  start_value_same m at (tokens.Name n) =
      ap (λ v. and_then v (λ r. Goes (with_subject (nm ρ n) r))) (ap (scoped (rd ρ m)) (use_same ρ inj m.value.side at m.draft.scope n) ∙ scoped_same m (use_name m.value.side at m.draft.scope n))
      ∙ then_same (with_subject n) (with_subject (nm ρ n)) (λ r. ap (λ x. with_value (rd ρ r) (Steps.value_subject (nm ρ n) x (vl ρ r.value))) (range_same ρ inj r.draft.scope n)) (scoped m (use_name m.value.side at m.draft.scope n))
  start_value_same m at (tokens.Constant size value) = ap (valued (rd ρ m)) (constant_step ρ m.value.side size value m.value) ∙ valued_same m (Steps.value_constant size value m.value)
  start_value_same m at (tokens.Mark x) = refl
  start_value_same m at (tokens.Keyword k) = refl
  start_value_same m at (tokens.Number v) = refl
  start_value_same m at tokens.Unread = refl
  start_value_same m at tokens.Foreign = refl
  start_value_same m at tokens.Broken = refl

  index_same : (m : Reader) (t : Token) → give_index (rd ρ m) (tk ρ t) ≡ vd ρ (rd ρ) (give_index m t)
  index_same m (tokens.Number (Some v)) = ap (valued (rd ρ m)) (index_step ρ v m.value m.value.range) ∙ valued_same m (Steps.value_index v m.value)
  index_same m (tokens.Number None) = refl
  index_same m (tokens.Name n) = refl
  index_same m (tokens.Mark x) = refl
  index_same m (tokens.Keyword k) = refl
  index_same m (tokens.Constant size value) = refl
  index_same m tokens.Unread = refl
  index_same m tokens.Foreign = refl
  index_same m tokens.Broken = refl

  second_same : (m : Reader) (t : Token) → give_second (rd ρ m) (tk ρ t) ≡ vd ρ (rd ρ) (give_second m t)
  second_same m (tokens.Number (Some v)) = ap (valued (rd ρ m)) (many_step ρ v m.value m.value.range) ∙ valued_same m (Steps.value_many v m.value)
  second_same m (tokens.Number None) = refl
  second_same m (tokens.Name n) = refl
  second_same m (tokens.Mark x) = refl
  second_same m (tokens.Keyword k) = refl
  second_same m (tokens.Constant size value) = refl
  second_same m tokens.Unread = refl
  second_same m tokens.Foreign = refl
  second_same m tokens.Broken = refl

  perform_same : (a : Action) (t : Token) (at : ℕ) (m : Reader) → perform a (tk ρ t) at (rd ρ m) ≡ vd ρ (rd ρ) (perform a t at m)
  perform_same actions.Pass t at m = refl
  perform_same actions.BeginModule t at m = begin_same m t
  perform_same actions.ListPort t at m = list_same m at t
  perform_same actions.HeaderDirection t at m = direction_same m forms.Header t
  perform_same actions.ItemDirection t at m = direction_same m forms.Ports t
  perform_same actions.ItemWires t at m = refl
  perform_same actions.Declare t at m = declare_name_same m at t
  perform_same actions.EndModule t at m = finish_same m
  perform_same actions.LeftBound t at m = left_same m t
  perform_same actions.RightBound t at m = right_same m t
  perform_same actions.Target t at m = target_same m t
  perform_same actions.BeginInstance t at m = begin_instance_same m at t
  perform_same actions.EndInstance t at m = ap Goes (end_instance_same m)
  perform_same actions.FirstOrdered t at m = start_value_same (record m { joint = Steps.joint_positional m.joint }) at t
  perform_same actions.NextOrdered t at m = ap Goes (end_ordered_same m)
  perform_same actions.LastOrdered t at m = ap (λ r. Goes (end_instance r)) (end_ordered_same m) ∙ ap Goes (end_instance_same (end_ordered m))
  perform_same actions.ConnectionName t at m = port_name_same m t
  perform_same actions.EndNamed t at m = ap Goes (end_named_same m)
  perform_same actions.BeginAssign t at m = refl
  perform_same actions.EndLeft t at m = refl
  perform_same actions.NextAssign t at m = ap (λ r. Goes (with_side sides.Left r)) (end_assign_same m)
  perform_same actions.LastAssign t at m = ap Goes (end_assign_same m)
  perform_same actions.StartValue t at m = start_value_same m at t
  perform_same actions.Select t at m = ap (valued (rd ρ m)) (select_step ρ m.value m.value.range) ∙ valued_same m (Steps.value_select m.value)
  perform_same actions.Index t at m = index_same m t
  perform_same actions.OneBit t at m = ap (λ x. Goes (with_value (rd ρ m) x)) (one_step ρ m.value)
  perform_same actions.ManyBits t at m = second_same m t

  bracket_same : (t : Token) → is_bracket (tk ρ t) ≡ is_bracket t
  bracket_same (tokens.Name n) = refl
  bracket_same (tokens.Mark x) = refl
  bracket_same (tokens.Keyword k) = refl
  bracket_same (tokens.Number v) = refl
  bracket_same (tokens.Constant size value) = refl
  bracket_same tokens.Unread = refl
  bracket_same tokens.Foreign = refl
  bracket_same tokens.Broken = refl

  settled_same : (m : Reader) (b : Bool) (w : List Symbol) → settled (rd ρ m) b w ≡ rd ρ (settled m b w)
  settled_same m false (symbols.Tail ∷ rest) = ap (λ v. record (rd ρ m) { waiting = rest; value = v }) (whole_step ρ m.value)
  settled_same m _ _ = refl

  settle_same : (t : Token) (m : Reader) → settle (tk ρ t) (rd ρ m) ≡ rd ρ (settle t m)
  settle_same t m = ap (λ b. settled (rd ρ m) b m.waiting) (bracket_same t) ∙ settled_same m (is_bracket t) m.waiting

  produced_same : (s : Symbol) (rest : List Symbol) (t : Token) (at : ℕ) (m : Reader) (o : Option Production) → produced s rest (tk ρ t) at (rd ρ m) o ≡ vd ρ (rd ρ) (produced s rest t at m o)
  produced_same s rest t at m None = ap Stops (refusal_same ρ s m.value.side t)
  produced_same s rest t at m (Some p) = perform_same p.action t at (record m { waiting = p.follow ++ rest })

  take_same : (w : List Symbol) (t : Token) (at : ℕ) (m : Reader) → take_by w (tk ρ t) at (rd ρ m) ≡ vd ρ (rd ρ) (take_by w t at m)
  take_same [] t at m = refl
  take_same (s ∷ rest) t at m = ap (produced s rest (tk ρ t) at (rd ρ m)) (production_same ρ s t) ∙ produced_same s rest t at m (production s t)

  -- a step under other numbers
  pub step_same : (t : Token) (at : ℕ) (m : Reader) → step (tk ρ t) at (rd ρ m) ≡ vd ρ (rd ρ) (step t at m)
  step_same t at m = ap (take_token (tk ρ t) at) (settle_same t m) ∙ take_same (settle t m).waiting t at (settle t m)
