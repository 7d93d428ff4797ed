-- How a netlist is read from token to token: the grammar's productions, and what each of their tokens does.
use Rattle.std.specs.Prelude.{ℕ, Bool, true, false, List, [], ◌∷◌, ◌++◌, Option, Some, None, if◌then◌else◌, nat_eq}
use Rattle.std.specs.List.{list_any}
use Rattle.indexmap.specs.IndexSet.{insert_key}
use Rattle.lp_text.specs.declared.names.NameId.{NameId}
use Rattle.lp_model.specs.declared.netlist.Direction.{Direction}
use Rattle.lp_model.specs.declared.netlist.Direction.TheVariants as directions
use Rattle.lp_verilog_tokens.specs.declared.token.Token.{Token}
use Rattle.lp_verilog_tokens.specs.declared.token.Token.TheVariants.{Keyword, Name, Number, Constant, Unread, Foreign, Broken}
use Rattle.lp_verilog_tokens.specs.declared.token.Token.TheVariants as tokens
use Rattle.lp_verilog_tokens.specs.declared.token.Mark.TheVariants as marks
use Rattle.lp_verilog_tokens.specs.declared.token.Keyword.TheVariants as keywords
use Rattle.lp_verilog_grammar.specs.declared.symbol.Symbol.{Symbol}
use Rattle.lp_verilog_grammar.specs.declared.symbol.Symbol.TheVariants as symbols
use Rattle.lp_verilog_grammar.specs.declared.symbol.Action.{Action}
use Rattle.lp_verilog_grammar.specs.declared.symbol.Action.TheVariants as actions
use Rattle.lp_verilog_draft.specs.declared.stop.Off.{Off}
use Rattle.lp_verilog_draft.specs.declared.stop.Off.TheVariants as offs
use Rattle.lp_verilog_draft.specs.declared.value.Side.{Side}
use Rattle.lp_verilog_draft.specs.declared.value.Side.TheVariants as sides
use Rattle.lp_verilog_draft.specs.declared.declaring.Form.{Form}
use Rattle.lp_verilog_draft.specs.declared.declaring.Form.TheVariants as forms
use Rattle.lp_verilog_draft.specs.declared.value.Value.{Value}
use Rattle.lp_verilog_grammar.specs.declared.reader.Reader.{Reader}
use Rattle.lp_verilog_grammar.specs.Grammar.{Production, production}
use Rattle.lp_verilog_draft.specs.Scopes.{Entries, add_new, found, listed, declare, use_name, range_in, instance_entry}
use Rattle.lp_verilog_draft.specs.Steps
use Rattle.lp_verilog_draft.specs.Verdicts.{Verdict, Goes, Stops, and_then}

-- at the front of a text: a list of modules has to come
abbrev pub start : Reader
start = record {
  waiting = symbols.Source ∷ [];
  modules = [];
  taken = [];
  draft = Steps.module_named Steps.no_name;
  declaring = record { form = forms.Wires; direction = directions.Input; range = None; left = 0 };
  joint = Steps.no_joint;
  value = Steps.no_value;
  left = [];
}

abbrev pub with_scope : Reader → Entries → Reader
with_scope m scope = record m { draft = record m.draft { scope = scope } }

abbrev pub with_value : Reader → Value → Reader
with_value m v = record m { value = v }

abbrev pub scoped : Reader → Verdict Entries → Verdict Reader
scoped m v = and_then v (λ scope. Goes (with_scope m scope))

abbrev pub valued : Reader → Verdict Value → Verdict Reader
valued m v = and_then v (λ value. Goes (with_value m value))

-- a name that no module has yet
abbrev pub begin_module : Reader → Token → Verdict Reader
begin_module m (Name n) = if list_any (nat_eq n.0) m.taken then Stops (offs.Duplicate n) else Goes (record m { taken = insert_key nat_eq m.taken n.0; draft = Steps.module_named n })
begin_module m _ = Stops offs.Syntax

abbrev pub list_port : Reader → ℕ → Token → Verdict Reader
list_port m at (Name n) = scoped m (add_new m.draft.scope n (listed at) (found m.draft.scope n))
list_port m at _ = Stops offs.Syntax

abbrev pub declaring_as : Reader → Form → Direction → Reader
declaring_as m form d = record m { declaring = record { form = form; direction = d; range = None; left = 0 } }

abbrev pub give_direction : Reader → Form → Token → Verdict Reader
give_direction m form (Keyword keywords.Input) = Goes (declaring_as m form directions.Input)
give_direction m form (Keyword keywords.Output) = Goes (declaring_as m form directions.Output)
give_direction m form _ = Stops offs.Syntax

abbrev pub declare_name : Reader → ℕ → Token → Verdict Reader
declare_name m at (Name n) = scoped m (declare m.declaring at m.draft.scope n)
declare_name m at _ = Stops offs.Syntax

abbrev pub finish_module : Reader → Verdict Reader
finish_module m = and_then (Steps.end_module m.draft) (λ module_. Goes (record m { modules = m.modules ++ module_ ∷ []; draft = Steps.module_named m.draft.name }))

abbrev pub left_bound : Reader → Token → Verdict Reader
left_bound m (Number (Some v)) = Goes (record m { declaring = record m.declaring { left = v } })
left_bound m _ = Stops offs.Syntax

abbrev pub right_bound : Reader → Token → Verdict Reader
right_bound m (Number (Some v)) = Goes (record m { declaring = record m.declaring { range = Some (record { left = m.declaring.left; right = v }) } })
right_bound m _ = Stops offs.Syntax

abbrev pub give_target : Reader → Token → Verdict Reader
give_target m (Name n) = Goes (record m { joint = Steps.joint_target n m.joint })
give_target m _ = Stops offs.Syntax

abbrev pub begun_instance : NameId → Reader → Reader
begun_instance n m = record m { joint = Steps.joint_begun n m.joint; value = Steps.value_side sides.Connection m.value }

abbrev pub begin_instance : Reader → ℕ → Token → Verdict Reader
begin_instance m at (Name n) = and_then (scoped m (add_new m.draft.scope n (instance_entry at) (found m.draft.scope n))) (λ r. Goes (begun_instance n r))
begin_instance m at _ = Stops offs.Syntax

abbrev pub end_instance : Reader → Reader
end_instance m = record m { draft = Steps.with_instance (Steps.joint_instance m.joint) m.draft; joint = Steps.joint_emptied m.joint }

abbrev pub end_ordered : Reader → Reader
end_ordered m = record m { joint = Steps.joint_ordered m.value.bits m.joint; value = Steps.value_emptied m.value }

abbrev pub end_named : Reader → Reader
end_named m = record m { joint = Steps.joint_named m.value.bits m.joint; value = Steps.value_emptied m.value }

abbrev pub give_port : Reader → Token → Verdict Reader
give_port m (Name n) = Goes (record m { joint = Steps.joint_port n m.joint })
give_port m _ = Stops offs.Syntax

abbrev pub with_side : Side → Reader → Reader
with_side side m = with_value m (Steps.value_side side m.value)

abbrev pub end_left : Reader → Reader
end_left m = record m { left = m.value.bits; value = Steps.value_side sides.Right (Steps.value_emptied m.value) }

abbrev pub end_assign : Reader → Reader
end_assign m = record m { draft = Steps.with_assign m.left m.value.bits m.draft; value = Steps.value_emptied m.value; left = [] }

-- the name of a value and its range, as declared or made there
abbrev pub with_subject : NameId → Reader → Reader
with_subject n m = with_value m (Steps.value_subject n (range_in m.draft.scope n) m.value)

abbrev pub start_value : Reader → ℕ → Token → Verdict Reader
start_value m at (Name n) = and_then (scoped m (use_name m.value.side at m.draft.scope n)) (λ r. Goes (with_subject n r))
start_value m at (Constant size value) = valued m (Steps.value_constant size value m.value)
start_value m at (tokens.Mark mark) = Goes m
start_value m at _ = Stops offs.Syntax

abbrev pub give_index : Reader → Token → Verdict Reader
give_index m (Number (Some v)) = valued m (Steps.value_index v m.value)
give_index m _ = Stops offs.Syntax

abbrev pub give_second : Reader → Token → Verdict Reader
give_second m (Number (Some v)) = valued m (Steps.value_many v m.value)
give_second m _ = Stops offs.Syntax

-- what the token of a production does; a number behind it is that of its first byte
abbrev pub perform : Action → Token → ℕ → Reader → Verdict Reader
perform actions.Pass t at m = Goes m
perform actions.BeginModule t at m = begin_module m t
perform actions.ListPort t at m = list_port m at t
perform actions.HeaderDirection t at m = give_direction m forms.Header t
perform actions.ItemDirection t at m = give_direction m forms.Ports t
perform actions.ItemWires t at m = Goes (declaring_as m forms.Wires directions.Input)
perform actions.Declare t at m = declare_name m at t
perform actions.EndModule t at m = finish_module m
perform actions.LeftBound t at m = left_bound m t
perform actions.RightBound t at m = right_bound m t
perform actions.Target t at m = give_target m t
perform actions.BeginInstance t at m = begin_instance m at t
perform actions.EndInstance t at m = Goes (end_instance m)
perform actions.FirstOrdered t at m = start_value (record m { joint = Steps.joint_positional m.joint }) at t
perform actions.NextOrdered t at m = Goes (end_ordered m)
perform actions.LastOrdered t at m = Goes (end_instance (end_ordered m))
perform actions.ConnectionName t at m = give_port m t
perform actions.EndNamed t at m = Goes (end_named m)
perform actions.BeginAssign t at m = Goes (with_side sides.Left m)
perform actions.EndLeft t at m = Goes (end_left m)
perform actions.NextAssign t at m = Goes (with_side sides.Left (end_assign m))
perform actions.LastAssign t at m = Goes (end_assign m)
perform actions.StartValue t at m = start_value m at t
perform actions.Select t at m = valued m (Steps.value_select m.value)
perform actions.Index t at m = give_index m t
perform actions.OneBit t at m = Goes (with_value m (Steps.value_one m.value))
perform actions.ManyBits t at m = give_second m t

-- a value may begin where the symbol is
abbrev pub takes_value : Symbol → Bool
takes_value symbols.Value = true
takes_value symbols.NamedValue = true
takes_value symbols.Connections = true
takes_value _ = false

abbrev pub is_left : Side → Bool
is_left sides.Left = true
is_left sides.Right = false
is_left sides.Connection = false

abbrev pub unread_at : Symbol → Side → Off
unread_at symbol side = if takes_value symbol then (if is_left side then offs.Syntax else offs.Unsupported) else offs.Syntax

-- why a token cannot stand where a symbol has to come
abbrev pub refusal : Symbol → Side → Token → Off
refusal symbol side Foreign = offs.Unsupported
refusal symbol side Unread = unread_at symbol side
refusal symbol side (Number v) = unread_at symbol side
refusal symbol side _ = offs.Syntax

abbrev pub is_bracket : Token → Bool
is_bracket (tokens.Mark marks.OpenBracket) = true
is_bracket _ = false

-- before every token but `[` a name is whole
abbrev pub settled : Reader → Bool → List Symbol → Reader
settled m false (symbols.Tail ∷ rest) = record m { waiting = rest; value = Steps.value_whole m.value }
settled m _ _ = m

abbrev pub settle : Token → Reader → Reader
settle t m = settled m (is_bracket t) m.waiting

abbrev pub produced : Symbol → List Symbol → Token → ℕ → Reader → Option Production → Verdict Reader
produced symbol rest t at m None = Stops (refusal symbol m.value.side t)
produced symbol rest t at m (Some p) = perform p.action t at (record m { waiting = p.follow ++ rest })

abbrev pub take_by : List Symbol → Token → ℕ → Reader → Verdict Reader
take_by [] t at m = Stops offs.Syntax
take_by (symbol ∷ rest) t at m = produced symbol rest t at m (production symbol t)

abbrev pub take_token : Token → ℕ → Reader → Verdict Reader
take_token t at m = take_by m.waiting t at m

-- one token
abbrev pub step : Token → ℕ → Reader → Verdict Reader
step t at m = take_token t at (settle t m)

abbrev pub is_source : List Symbol → Bool
is_source [] = false
is_source (symbols.Source ∷ rest) = true
is_source (_ ∷ rest) = false

-- the text may end here: modules have to come, perhaps none
abbrev pub accepts : Reader → Bool
accepts m = is_source m.waiting

-- the tokens that end a part, or begin the first ordered connection
abbrev pub is_ending : Action → Bool
is_ending actions.EndInstance = true
is_ending actions.FirstOrdered = true
is_ending actions.NextOrdered = true
is_ending actions.LastOrdered = true
is_ending actions.EndNamed = true
is_ending actions.BeginAssign = true
is_ending actions.EndLeft = true
is_ending actions.NextAssign = true
is_ending actions.LastAssign = true
is_ending _ = false

abbrev pub awaiting : List Symbol → Reader → Reader
awaiting follow m = record m { waiting = follow ++ m.waiting }
