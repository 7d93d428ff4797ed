-- In which phase of a module a reader is between tokens: what is waited for tells how the phase goes on.
use Rattle.std.proofs.Common.{◌≡◌, Bool, true, false, List, [], ◌∷◌, ◌++◌, Option, Some, None, refl, sym, ap, ◌∙◌, subst}
use Rattle.std.specs.Prelude.{◌&&◌}
use Rattle.std.proofs.lemmas.Bool.{true≢false, and_parts}
use Rattle.lp_verilog_tokens.specs.declared.token.Token.{Token}
use Rattle.lp_verilog_tokens.specs.declared.token.Token.TheVariants as tokens
use Rattle.lp_verilog_tokens.specs.declared.token.Keyword.TheVariants as keywords
use Rattle.lp_verilog_tokens.specs.declared.token.Mark.TheVariants as marks
use Rattle.lp_verilog_grammar.specs.declared.symbol.Symbol.{Symbol}
use Rattle.lp_verilog_grammar.specs.declared.symbol.Symbol.TheVariants as symbols
use Rattle.lp_verilog_grammar.specs.declared.symbol.Action.{Action}
use Rattle.lp_verilog_grammar.specs.declared.symbol.Action.TheVariants as actions
use Rattle.lp_verilog_grammar.specs.Grammar.{Production, production}

-- ---- phases

-- outside of modules, between items, behind the module of an instance, in an instance, in a connection by name, and on the
-- sides of an assign
pub data Context : Type 0 where
  Outside : Context
  Inside : Context
  Targeted : Context
  Open : Context
  Joined : Context
  LeftSide : Context
  RightSide : Context

-- a value that has no bit yet, has a name that is read, an index of it too, or has a bit
pub data Stage : Type 0 where
  Empty : Stage
  Subject : Stage
  Indexed : Stage
  Filled : Stage

pub data Phase : Type 0 where
  In : Context → Stage → Phase

-- the phase behind what a symbol stands for, if it may stand there
abbrev pub past : Symbol → Phase → Option Phase
past symbols.Source (In Outside Empty) = Some (In Outside Empty)
past symbols.Source _ = None
past symbols.ModuleName (In Outside Empty) = Some (In Inside Empty)
past symbols.ModuleName _ = None
past symbols.Items (In Inside Empty) = Some (In Outside Empty)
past symbols.Items (In Targeted Empty) = Some (In Outside Empty)
past symbols.Items _ = None
past symbols.InstanceName (In Targeted Empty) = Some (In Targeted Empty)
past symbols.InstanceName _ = None
past symbols.InstanceMore (In Targeted Empty) = Some (In Targeted Empty)
past symbols.InstanceMore _ = None
past symbols.Connections (In Open Empty) = Some (In Targeted Empty)
past symbols.Connections _ = None
past symbols.NamedMore (In Open Empty) = Some (In Targeted Empty)
past symbols.NamedMore _ = None
past symbols.ConnectionName (In Open Empty) = Some (In Open Empty)
past symbols.ConnectionName _ = None
past symbols.NamedValue (In Joined Empty) = Some (In Open Empty)
past symbols.NamedValue _ = None
past symbols.NamedEnd (In Joined Filled) = Some (In Open Empty)
past symbols.NamedEnd _ = None
past symbols.OrderedMore (In Open Filled) = Some (In Targeted Empty)
past symbols.OrderedMore _ = None
past symbols.Value (In c Empty) = Some (In c Filled)
past symbols.Value (In c Filled) = Some (In c Filled)
past symbols.Value _ = None
past symbols.Tail (In c Subject) = Some (In c Filled)
past symbols.Tail _ = None
past symbols.ConcatMore (In c Filled) = Some (In c Filled)
past symbols.ConcatMore _ = None
past symbols.Index (In c Subject) = Some (In c Indexed)
past symbols.Index _ = None
past symbols.IndexMore (In c Indexed) = Some (In c Filled)
past symbols.IndexMore _ = None
past symbols.SecondIndex (In c Indexed) = Some (In c Filled)
past symbols.SecondIndex _ = None
past symbols.AssignSign (In LeftSide Filled) = Some (In RightSide Empty)
past symbols.AssignSign _ = None
past symbols.AssignMore (In RightSide Filled) = Some (In Inside Empty)
past symbols.AssignMore _ = None
past _ f = Some f

-- the phase that a token at the front of a value leaves
abbrev pub begun : Token → Phase → Option Phase
begun (tokens.Name n) (In c s) = Some (In c Subject)
begun (tokens.Constant size value) (In c s) = Some (In c Filled)
begun (tokens.Mark mark) f = Some f
begun _ f = None

-- the phase that an action leaves, if it may come there
abbrev pub act : Action → Token → Phase → Option Phase
act actions.BeginModule t (In Outside Empty) = Some (In Inside Empty)
act actions.BeginModule t _ = None
act actions.EndModule t (In Inside Empty) = Some (In Outside Empty)
act actions.EndModule t (In Targeted Empty) = Some (In Outside Empty)
act actions.EndModule t _ = None
act actions.Target t (In Inside Empty) = Some (In Targeted Empty)
act actions.Target t (In Targeted Empty) = Some (In Targeted Empty)
act actions.Target t _ = None
act actions.BeginInstance t (In Targeted Empty) = Some (In Open Empty)
act actions.BeginInstance t _ = None
act actions.EndInstance t (In Open Empty) = Some (In Targeted Empty)
act actions.EndInstance t _ = None
act actions.FirstOrdered t (In Open Empty) = begun t (In Open Empty)
act actions.FirstOrdered t _ = None
act actions.NextOrdered t (In Open Filled) = Some (In Open Empty)
act actions.NextOrdered t _ = None
act actions.LastOrdered t (In Open Filled) = Some (In Targeted Empty)
act actions.LastOrdered t _ = None
act actions.ConnectionName t (In Open Empty) = Some (In Joined Empty)
act actions.ConnectionName t _ = None
act actions.EndNamed t (In Joined Empty) = Some (In Open Empty)
act actions.EndNamed t (In Joined Filled) = Some (In Open Empty)
act actions.EndNamed t _ = None
act actions.BeginAssign t (In Inside Empty) = Some (In LeftSide Empty)
act actions.BeginAssign t (In Targeted Empty) = Some (In LeftSide Empty)
act actions.BeginAssign t _ = None
act actions.EndLeft t (In LeftSide Filled) = Some (In RightSide Empty)
act actions.EndLeft t _ = None
act actions.NextAssign t (In RightSide Filled) = Some (In LeftSide Empty)
act actions.NextAssign t _ = None
act actions.LastAssign t (In RightSide Filled) = Some (In Inside Empty)
act actions.LastAssign t _ = None
act actions.StartValue t f = begun t f
act actions.Select t (In c Subject) = Some (In c Subject)
act actions.Select t _ = None
act actions.Index t (In c Subject) = Some (In c Indexed)
act actions.Index t _ = None
act actions.OneBit t (In c Indexed) = Some (In c Filled)
act actions.OneBit t _ = None
act actions.ManyBits t (In c Indexed) = Some (In c Filled)
act actions.ManyBits t _ = None
act _ t f = Some f

abbrev pub then_run : Option Phase → (Phase → Option Phase) → Option Phase
then_run None more = None
then_run (Some f) more = more f

-- the phase behind all that is waited for
abbrev pub run : List Symbol → Phase → Option Phase
run [] f = Some f
run (s ∷ rest) f = then_run (past s f) (run rest)

pub run_append : (xs ys : List Symbol) (f : Phase) → run (xs ++ ys) f ≡ then_run (run xs f) (run ys)
run_append [] ys f = refl
run_append (s ∷ xs) ys f = by (past s f) (run_append xs ys)
  where
    by : (o : Option Phase) → ((g : Phase) → run (xs ++ ys) g ≡ then_run (run xs g) (run ys)) → then_run o (run (xs ++ ys)) ≡ then_run (then_run o (run xs)) (run ys)
    by None more = refl
    by (Some g) more = more g

-- ---- each production keeps to its symbol

abbrev pub same_context : Context → Context → Bool
same_context Outside Outside = true
same_context Inside Inside = true
same_context Targeted Targeted = true
same_context Open Open = true
same_context Joined Joined = true
same_context LeftSide LeftSide = true
same_context RightSide RightSide = true
same_context _ _ = false

abbrev pub same_stage : Stage → Stage → Bool
same_stage Empty Empty = true
same_stage Subject Subject = true
same_stage Indexed Indexed = true
same_stage Filled Filled = true
same_stage _ _ = false

context_is : (a b : Context) → same_context a b ≡ true → a ≡ b
context_is Outside Outside h = refl
context_is Inside Inside h = refl
context_is Targeted Targeted h = refl
context_is Open Open h = refl
context_is Joined Joined h = refl
context_is LeftSide LeftSide h = refl
context_is RightSide RightSide h = refl
context_is _ _ h = absurd (true≢false (sym h))

stage_is : (a b : Stage) → same_stage a b ≡ true → a ≡ b
stage_is Empty Empty h = refl
stage_is Subject Subject h = refl
stage_is Indexed Indexed h = refl
stage_is Filled Filled h = refl
stage_is _ _ h = absurd (true≢false (sym h))

-- the second phase is the first one, if there is a first
abbrev pub meets : Option Phase → Option Phase → Bool
meets None o = true
meets (Some f) None = false
meets (Some (In c s)) (Some (In d r)) = same_context c d && same_stage s r

abbrev pub kept : Symbol → Token → Option Production → Phase → Bool
kept s t None f = true
kept s t (Some p) f = meets (past s f) (then_run (act p.action t f) (run p.follow))

abbrev pub each_stage : (Phase → Bool) → Context → Bool
each_stage test c = test (In c Empty) && (test (In c Subject) && (test (In c Indexed) && test (In c Filled)))

abbrev pub each : (Phase → Bool) → Bool
each test = each_stage test Outside && (each_stage test Inside && (each_stage test Targeted && (each_stage test Open && (each_stage test Joined && (each_stage test LeftSide && each_stage test RightSide)))))

one_stage : (test : Phase → Bool) (c : Context) (s : Stage) → each_stage test c ≡ true → test (In c s) ≡ true
one_stage test c s h =
    let a = and_parts (test (In c Empty)) (test (In c Subject) && (test (In c Indexed) && test (In c Filled))) h in
    let b = and_parts (test (In c Subject)) (test (In c Indexed) && test (In c Filled)) a.1 in
    let d = and_parts (test (In c Indexed)) (test (In c Filled)) b.1 in
    by s a.0 b.0 d.0 d.1
  where
    by : (r : Stage) → test (In c Empty) ≡ true → test (In c Subject) ≡ true → test (In c Indexed) ≡ true → test (In c Filled) ≡ true → test (In c r) ≡ true
    by Empty w x y z = w
    by Subject w x y z = x
    by Indexed w x y z = y
    by Filled w x y z = z

each_context : (test : Phase → Bool) (c : Context) → each test ≡ true → each_stage test c ≡ true
each_context test c h =
    let e = each_stage test in
    let p1 = and_parts (e Outside) (e Inside && (e Targeted && (e Open && (e Joined && (e LeftSide && e RightSide))))) h in
    let p2 = and_parts (e Inside) (e Targeted && (e Open && (e Joined && (e LeftSide && e RightSide)))) p1.1 in
    let p3 = and_parts (e Targeted) (e Open && (e Joined && (e LeftSide && e RightSide))) p2.1 in
    let p4 = and_parts (e Open) (e Joined && (e LeftSide && e RightSide)) p3.1 in
    let p5 = and_parts (e Joined) (e LeftSide && e RightSide) p4.1 in
    let p6 = and_parts (e LeftSide) (e RightSide) p5.1 in
    by c p1.0 p2.0 p3.0 p4.0 p5.0 p6.0 p6.1
  where
    by : (d : Context) → each_stage test Outside ≡ true → each_stage test Inside ≡ true → each_stage test Targeted ≡ true → each_stage test Open ≡ true → each_stage test Joined ≡ true → each_stage test LeftSide ≡ true → each_stage test RightSide ≡ true → each_stage test d ≡ true
    by Outside q1 q2 q3 q4 q5 q6 q7 = q1
    by Inside q1 q2 q3 q4 q5 q6 q7 = q2
    by Targeted q1 q2 q3 q4 q5 q6 q7 = q3
    by Open q1 q2 q3 q4 q5 q6 q7 = q4
    by Joined q1 q2 q3 q4 q5 q6 q7 = q5
    by LeftSide q1 q2 q3 q4 q5 q6 q7 = q6
    by RightSide q1 q2 q3 q4 q5 q6 q7 = q7

pub one_of : (test : Phase → Bool) (f : Phase) → each test ≡ true → test f ≡ true
one_of test (In c s) h = one_stage test c s (each_context test c h)

pub fine : (s : Symbol) (t : Token) → each (kept s t (production s t)) ≡ true
fine symbols.Source (tokens.Keyword keywords.Module) = refl
fine symbols.Source _ = refl
fine symbols.ModuleName (tokens.Name n) = refl
fine symbols.ModuleName _ = refl
fine symbols.Header (tokens.Mark marks.Semicolon) = refl
fine symbols.Header (tokens.Mark marks.Open) = refl
fine symbols.Header _ = refl
fine symbols.Ports (tokens.Mark marks.Close) = refl
fine symbols.Ports (tokens.Name n) = refl
fine symbols.Ports (tokens.Keyword keywords.Input) = refl
fine symbols.Ports (tokens.Keyword keywords.Output) = refl
fine symbols.Ports _ = refl
fine symbols.PortsMore (tokens.Mark marks.Comma) = refl
fine symbols.PortsMore (tokens.Mark marks.Close) = refl
fine symbols.PortsMore _ = refl
fine symbols.PortName (tokens.Name n) = refl
fine symbols.PortName _ = refl
fine symbols.HeaderMore (tokens.Mark marks.Comma) = refl
fine symbols.HeaderMore (tokens.Mark marks.Close) = refl
fine symbols.HeaderMore _ = refl
fine symbols.HeaderPort (tokens.Keyword keywords.Input) = refl
fine symbols.HeaderPort (tokens.Keyword keywords.Output) = refl
fine symbols.HeaderPort (tokens.Name n) = refl
fine symbols.HeaderPort _ = refl
fine (symbols.Expect marks.Open) (tokens.Mark marks.Open) = refl
fine (symbols.Expect marks.Close) (tokens.Mark marks.Close) = refl
fine (symbols.Expect marks.OpenBracket) (tokens.Mark marks.OpenBracket) = refl
fine (symbols.Expect marks.CloseBracket) (tokens.Mark marks.CloseBracket) = refl
fine (symbols.Expect marks.OpenBrace) (tokens.Mark marks.OpenBrace) = refl
fine (symbols.Expect marks.CloseBrace) (tokens.Mark marks.CloseBrace) = refl
fine (symbols.Expect marks.Comma) (tokens.Mark marks.Comma) = refl
fine (symbols.Expect marks.Semicolon) (tokens.Mark marks.Semicolon) = refl
fine (symbols.Expect marks.Colon) (tokens.Mark marks.Colon) = refl
fine (symbols.Expect marks.Dot) (tokens.Mark marks.Dot) = refl
fine (symbols.Expect marks.Equals) (tokens.Mark marks.Equals) = refl
fine (symbols.Expect mark) _ = refl
fine symbols.Declared (tokens.Keyword keywords.Wire) = refl
fine symbols.Declared (tokens.Mark marks.OpenBracket) = refl
fine symbols.Declared (tokens.Name n) = refl
fine symbols.Declared _ = refl
fine symbols.Vector (tokens.Mark marks.OpenBracket) = refl
fine symbols.Vector (tokens.Name n) = refl
fine symbols.Vector _ = refl
fine symbols.DeclaredName (tokens.Name n) = refl
fine symbols.DeclaredName _ = refl
fine symbols.LeftBound (tokens.Number (Some v)) = refl
fine symbols.LeftBound _ = refl
fine symbols.RightBound (tokens.Number (Some v)) = refl
fine symbols.RightBound _ = refl
fine symbols.Items (tokens.Keyword keywords.EndModule) = refl
fine symbols.Items (tokens.Keyword keywords.Input) = refl
fine symbols.Items (tokens.Keyword keywords.Output) = refl
fine symbols.Items (tokens.Keyword keywords.Wire) = refl
fine symbols.Items (tokens.Keyword keywords.Assign) = refl
fine symbols.Items (tokens.Name n) = refl
fine symbols.Items _ = refl
fine symbols.DeclaredMore (tokens.Mark marks.Comma) = refl
fine symbols.DeclaredMore (tokens.Mark marks.Semicolon) = refl
fine symbols.DeclaredMore _ = refl
fine symbols.InstanceName (tokens.Name n) = refl
fine symbols.InstanceName _ = refl
fine symbols.InstanceMore (tokens.Mark marks.Comma) = refl
fine symbols.InstanceMore (tokens.Mark marks.Semicolon) = refl
fine symbols.InstanceMore _ = refl
fine symbols.Connections (tokens.Mark marks.Close) = refl
fine symbols.Connections (tokens.Mark marks.Dot) = refl
fine symbols.Connections (tokens.Name n) = refl
fine symbols.Connections (tokens.Constant size value) = refl
fine symbols.Connections (tokens.Mark marks.OpenBrace) = refl
fine symbols.Connections _ = refl
fine symbols.NamedMore (tokens.Mark marks.Comma) = refl
fine symbols.NamedMore (tokens.Mark marks.Close) = refl
fine symbols.NamedMore _ = refl
fine symbols.ConnectionName (tokens.Name n) = refl
fine symbols.ConnectionName _ = refl
fine symbols.NamedValue (tokens.Mark marks.Close) = refl
fine symbols.NamedValue (tokens.Name n) = refl
fine symbols.NamedValue (tokens.Constant size value) = refl
fine symbols.NamedValue (tokens.Mark marks.OpenBrace) = refl
fine symbols.NamedValue _ = refl
fine symbols.NamedEnd (tokens.Mark marks.Close) = refl
fine symbols.NamedEnd _ = refl
fine symbols.OrderedMore (tokens.Mark marks.Comma) = refl
fine symbols.OrderedMore (tokens.Mark marks.Close) = refl
fine symbols.OrderedMore _ = refl
fine symbols.Value (tokens.Name n) = refl
fine symbols.Value (tokens.Constant size value) = refl
fine symbols.Value (tokens.Mark marks.OpenBrace) = refl
fine symbols.Value _ = refl
fine symbols.Tail (tokens.Mark marks.OpenBracket) = refl
fine symbols.Tail _ = refl
fine symbols.ConcatMore (tokens.Mark marks.Comma) = refl
fine symbols.ConcatMore (tokens.Mark marks.CloseBrace) = refl
fine symbols.ConcatMore _ = refl
fine symbols.Index (tokens.Number (Some v)) = refl
fine symbols.Index _ = refl
fine symbols.IndexMore (tokens.Mark marks.CloseBracket) = refl
fine symbols.IndexMore (tokens.Mark marks.Colon) = refl
fine symbols.IndexMore _ = refl
fine symbols.SecondIndex (tokens.Number (Some v)) = refl
fine symbols.SecondIndex _ = refl
fine symbols.AssignSign (tokens.Mark marks.Equals) = refl
fine symbols.AssignSign _ = refl
fine symbols.AssignMore (tokens.Mark marks.Comma) = refl
fine symbols.AssignMore (tokens.Mark marks.Semicolon) = refl
fine symbols.AssignMore _ = refl

-- where a symbol leads on, so do the tokens of its production
pub leads_on : (s : Symbol) (t : Token) (p : Production) (f g : Phase) → kept s t (Some p) f ≡ true → past s f ≡ Some g → (h : Phase) × (act p.action t f ≡ Some h) × (run p.follow h ≡ Some g)
leads_on s t p f g k e = by (act p.action t f) refl (subst (λ o. meets o (then_run (act p.action t f) (run p.follow)) ≡ true) e k)
  where
    same : (a b : Phase) → meets (Some a) (Some b) ≡ true → b ≡ a
    same (In c x) (In d y) m =
        let parts = and_parts (same_context c d) (same_stage x y) m in
        sym (ap (λ z. In z x) (context_is c d parts.0) ∙ ap (In d) (stage_is x y parts.1))

    ran : (h : Phase) (o : Option Phase) → run p.follow h ≡ o → meets (Some g) o ≡ true → run p.follow h ≡ Some g
    ran h None r m = absurd (true≢false (sym m))
    ran h (Some x) r m = r ∙ ap Some (same g x m)

    by : (o : Option Phase) → act p.action t f ≡ o → meets (Some g) (then_run o (run p.follow)) ≡ true → (h : Phase) × (act p.action t f ≡ Some h) × (run p.follow h ≡ Some g)
    by None a m = absurd (true≢false (sym m))
    by (Some h) a m = (h, a, ran h (run p.follow h) refl m)
