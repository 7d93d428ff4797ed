-- The grammar of structural netlists (IEEE 1364-2005, the subset that is read).
--
-- A production of a symbol begins with a token, and then come the symbols that follow it. No two productions of a
-- symbol begin with the same token. `Tail` alone may also be nothing: it is that before every token but `[`.
-- Each production says what its token does to the netlist.
use Rattle.std.specs.Prelude.{Bool, true, false, List, [], ◌∷◌, Option, Some, None}
use Rattle.lp_verilog_tokens.specs.declared.token.Token.{Token}
use Rattle.lp_verilog_tokens.specs.declared.token.Token.TheVariants.{Keyword, Name, Number, Constant, Unread, Foreign, Broken}
use Rattle.lp_verilog_tokens.specs.declared.token.Token.TheVariants as tokens
use Rattle.lp_verilog_tokens.specs.declared.token.Mark.{Mark}
use Rattle.lp_verilog_tokens.specs.declared.token.Mark.TheVariants.{Open, Close, OpenBracket, CloseBracket, OpenBrace, CloseBrace, Comma, Semicolon, Colon, Dot, Equals}
use Rattle.lp_verilog_tokens.specs.declared.token.Keyword.TheVariants.{Module, EndModule, Input, Output, Wire, Assign}
use Rattle.lp_verilog_grammar.specs.declared.symbol.Symbol.{Symbol}
use Rattle.lp_verilog_grammar.specs.declared.symbol.Symbol.TheVariants as symbols
use Rattle.lp_verilog_grammar.specs.declared.symbol.Action.{Action}
use Rattle.lp_verilog_grammar.specs.declared.symbol.Action.TheVariants as actions

-- what a token does, and the symbols that follow it
pub record Production : Type 0 where
  pub action : Action
  pub follow : List Symbol

abbrev pub rule : Action → List Symbol → Option Production
rule a follow = Some (record { action = a; follow = follow })

abbrev pub on_source : Token → Option Production
on_source (Keyword Module) = rule actions.Pass (symbols.ModuleName ∷ symbols.Header ∷ symbols.Items ∷ symbols.Source ∷ [])
on_source _ = None

abbrev pub on_module_name : Token → Option Production
on_module_name (Name n) = rule actions.BeginModule []
on_module_name _ = None

abbrev pub on_header : Token → Option Production
on_header (tokens.Mark Semicolon) = rule actions.Pass []
on_header (tokens.Mark Open) = rule actions.Pass (symbols.Ports ∷ symbols.Expect Semicolon ∷ [])
on_header _ = None

abbrev pub on_ports : Token → Option Production
on_ports (tokens.Mark Close) = rule actions.Pass []
on_ports (Name n) = rule actions.ListPort (symbols.PortsMore ∷ [])
on_ports (Keyword Input) = rule actions.HeaderDirection (symbols.Declared ∷ symbols.HeaderMore ∷ [])
on_ports (Keyword Output) = rule actions.HeaderDirection (symbols.Declared ∷ symbols.HeaderMore ∷ [])
on_ports _ = None

abbrev pub on_ports_more : Token → Option Production
on_ports_more (tokens.Mark Comma) = rule actions.Pass (symbols.PortName ∷ symbols.PortsMore ∷ [])
on_ports_more (tokens.Mark Close) = rule actions.Pass []
on_ports_more _ = None

abbrev pub on_port_name : Token → Option Production
on_port_name (Name n) = rule actions.ListPort []
on_port_name _ = None

abbrev pub on_header_more : Token → Option Production
on_header_more (tokens.Mark Comma) = rule actions.Pass (symbols.HeaderPort ∷ symbols.HeaderMore ∷ [])
on_header_more (tokens.Mark Close) = rule actions.Pass []
on_header_more _ = None

abbrev pub on_header_port : Token → Option Production
on_header_port (Keyword Input) = rule actions.HeaderDirection (symbols.Declared ∷ [])
on_header_port (Keyword Output) = rule actions.HeaderDirection (symbols.Declared ∷ [])
on_header_port (Name n) = rule actions.Declare []
on_header_port _ = None

-- `wire`, a range, a name; each but the name perhaps missing
abbrev pub on_declared : Token → Option Production
on_declared (Keyword Wire) = rule actions.Pass (symbols.Vector ∷ [])
on_declared (tokens.Mark OpenBracket) = rule actions.Pass (symbols.LeftBound ∷ symbols.Expect Colon ∷ symbols.RightBound ∷ symbols.Expect CloseBracket ∷ symbols.DeclaredName ∷ [])
on_declared (Name n) = rule actions.Declare []
on_declared _ = None

abbrev pub on_vector : Token → Option Production
on_vector (tokens.Mark OpenBracket) = rule actions.Pass (symbols.LeftBound ∷ symbols.Expect Colon ∷ symbols.RightBound ∷ symbols.Expect CloseBracket ∷ symbols.DeclaredName ∷ [])
on_vector (Name n) = rule actions.Declare []
on_vector _ = None

abbrev pub on_declared_name : Token → Option Production
on_declared_name (Name n) = rule actions.Declare []
on_declared_name _ = None

abbrev pub on_bound : Action → List Symbol → Token → Option Production
on_bound a follow (Number (Some v)) = rule a follow
on_bound a follow _ = None

abbrev pub on_items : Token → Option Production
on_items (Keyword EndModule) = rule actions.EndModule []
on_items (Keyword Input) = rule actions.ItemDirection (symbols.Declared ∷ symbols.DeclaredMore ∷ symbols.Items ∷ [])
on_items (Keyword Output) = rule actions.ItemDirection (symbols.Declared ∷ symbols.DeclaredMore ∷ symbols.Items ∷ [])
on_items (Keyword Wire) = rule actions.ItemWires (symbols.Vector ∷ symbols.DeclaredMore ∷ symbols.Items ∷ [])
on_items (Keyword Assign) = rule actions.BeginAssign (symbols.Value ∷ symbols.AssignSign ∷ symbols.Value ∷ symbols.AssignMore ∷ symbols.Items ∷ [])
on_items (Name n) = rule actions.Target (symbols.InstanceName ∷ symbols.InstanceMore ∷ symbols.Items ∷ [])
on_items _ = None

abbrev pub on_declared_more : Token → Option Production
on_declared_more (tokens.Mark Comma) = rule actions.Pass (symbols.DeclaredName ∷ symbols.DeclaredMore ∷ [])
on_declared_more (tokens.Mark Semicolon) = rule actions.Pass []
on_declared_more _ = None

abbrev pub on_instance_name : Token → Option Production
on_instance_name (Name n) = rule actions.BeginInstance (symbols.Expect Open ∷ symbols.Connections ∷ [])
on_instance_name _ = None

abbrev pub on_instance_more : Token → Option Production
on_instance_more (tokens.Mark Comma) = rule actions.Pass (symbols.InstanceName ∷ symbols.InstanceMore ∷ [])
on_instance_more (tokens.Mark Semicolon) = rule actions.Pass []
on_instance_more _ = None

-- what a value goes on with behind its first token, and then these symbols
abbrev pub on_value : Action → List Symbol → Token → Option Production
on_value a follow (Name n) = rule a (symbols.Tail ∷ follow)
on_value a follow (Constant size value) = rule a follow
on_value a follow (tokens.Mark OpenBrace) = rule a (symbols.Value ∷ symbols.ConcatMore ∷ follow)
on_value a follow _ = None

abbrev pub on_connections : Token → Option Production
on_connections (tokens.Mark Close) = rule actions.EndInstance []
on_connections (tokens.Mark Dot) = rule actions.Pass (symbols.ConnectionName ∷ symbols.NamedMore ∷ [])
on_connections token = on_value actions.FirstOrdered (symbols.OrderedMore ∷ []) token

abbrev pub on_named_more : Token → Option Production
on_named_more (tokens.Mark Comma) = rule actions.Pass (symbols.Expect Dot ∷ symbols.ConnectionName ∷ symbols.NamedMore ∷ [])
on_named_more (tokens.Mark Close) = rule actions.EndInstance []
on_named_more _ = None

abbrev pub on_connection_name : Token → Option Production
on_connection_name (Name n) = rule actions.ConnectionName (symbols.Expect Open ∷ symbols.NamedValue ∷ [])
on_connection_name _ = None

abbrev pub on_named_value : Token → Option Production
on_named_value (tokens.Mark Close) = rule actions.EndNamed []
on_named_value token = on_value actions.StartValue (symbols.NamedEnd ∷ []) token

abbrev pub on_named_end : Token → Option Production
on_named_end (tokens.Mark Close) = rule actions.EndNamed []
on_named_end _ = None

abbrev pub on_ordered_more : Token → Option Production
on_ordered_more (tokens.Mark Comma) = rule actions.NextOrdered (symbols.Value ∷ symbols.OrderedMore ∷ [])
on_ordered_more (tokens.Mark Close) = rule actions.LastOrdered []
on_ordered_more _ = None

abbrev pub on_tail : Token → Option Production
on_tail (tokens.Mark OpenBracket) = rule actions.Select (symbols.Index ∷ symbols.IndexMore ∷ [])
on_tail _ = None

abbrev pub on_concat_more : Token → Option Production
on_concat_more (tokens.Mark Comma) = rule actions.Pass (symbols.Value ∷ symbols.ConcatMore ∷ [])
on_concat_more (tokens.Mark CloseBrace) = rule actions.Pass []
on_concat_more _ = None

abbrev pub on_index_more : Token → Option Production
on_index_more (tokens.Mark CloseBracket) = rule actions.OneBit []
on_index_more (tokens.Mark Colon) = rule actions.Pass (symbols.SecondIndex ∷ symbols.Expect CloseBracket ∷ [])
on_index_more _ = None

abbrev pub on_assign_sign : Token → Option Production
on_assign_sign (tokens.Mark Equals) = rule actions.EndLeft []
on_assign_sign _ = None

abbrev pub on_assign_more : Token → Option Production
on_assign_more (tokens.Mark Comma) = rule actions.NextAssign (symbols.Value ∷ symbols.AssignSign ∷ symbols.Value ∷ symbols.AssignMore ∷ [])
on_assign_more (tokens.Mark Semicolon) = rule actions.LastAssign []
on_assign_more _ = None

abbrev pub is_same_mark : Mark → Mark → Bool
is_same_mark Open Open = true
is_same_mark Close Close = true
is_same_mark OpenBracket OpenBracket = true
is_same_mark CloseBracket CloseBracket = true
is_same_mark OpenBrace OpenBrace = true
is_same_mark CloseBrace CloseBrace = true
is_same_mark Comma Comma = true
is_same_mark Semicolon Semicolon = true
is_same_mark Colon Colon = true
is_same_mark Dot Dot = true
is_same_mark Equals Equals = true
is_same_mark _ _ = false

abbrev pub on_expected : Bool → Option Production
on_expected true = rule actions.Pass []
on_expected false = None

abbrev pub on_mark : Mark → Token → Option Production
on_mark wanted (tokens.Mark mark) = on_expected (is_same_mark wanted mark)
on_mark wanted _ = None

-- the production of a symbol that begins with a token
abbrev pub production : Symbol → Token → Option Production
production symbols.Source t = on_source t
production symbols.ModuleName t = on_module_name t
production symbols.Header t = on_header t
production symbols.Ports t = on_ports t
production symbols.PortsMore t = on_ports_more t
production symbols.PortName t = on_port_name t
production symbols.HeaderMore t = on_header_more t
production symbols.HeaderPort t = on_header_port t
production (symbols.Expect mark) t = on_mark mark t
production symbols.Declared t = on_declared t
production symbols.Vector t = on_vector t
production symbols.DeclaredName t = on_declared_name t
production symbols.LeftBound t = on_bound actions.LeftBound [] t
production symbols.RightBound t = on_bound actions.RightBound [] t
production symbols.Items t = on_items t
production symbols.DeclaredMore t = on_declared_more t
production symbols.InstanceName t = on_instance_name t
production symbols.InstanceMore t = on_instance_more t
production symbols.Connections t = on_connections t
production symbols.NamedMore t = on_named_more t
production symbols.ConnectionName t = on_connection_name t
production symbols.NamedValue t = on_named_value t
production symbols.NamedEnd t = on_named_end t
production symbols.OrderedMore t = on_ordered_more t
production symbols.Value t = on_value actions.StartValue [] t
production symbols.Tail t = on_tail t
production symbols.ConcatMore t = on_concat_more t
production symbols.Index t = on_bound actions.Index [] t
production symbols.IndexMore t = on_index_more t
production symbols.SecondIndex t = on_bound actions.ManyBits [] t
production symbols.AssignSign t = on_assign_sign t
production symbols.AssignMore t = on_assign_more t
