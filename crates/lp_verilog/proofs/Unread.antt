-- What is not read is no name, and its bytes are visible.
use Rattle.std.proofs.Common.{◌≡◌, ℕ, zero, suc, ◌+◌, ◌≤◌, Bool, true, false, List, [], ◌∷◌, ◌++◌, length, take, drop, Option, Some, None, Bor, ◌<◌, refl, sym, ap, ◌∙◌, subst, arith}
use Rattle.std.specs.Prelude.{nat_eq, nat_lt, is_none, not, ◌&&◌, ◌||◌, ◌==◌, if◌then◌else◌}
use Rattle.std.specs.List.{list_all, list_any, prefix_len}
use Rattle.indexmap.specs.IndexSet.{insert_key}
use Rattle.std.proofs.lemmas.Bool.{true≢false, and_parts, and_from, or_left, or_right, eqb-true}
use Rattle.std.proofs.lemmas.Bool.Decides.{nat_tests}
use Rattle.lp_text.specs.declared.names.NameId.{NameId}
use Rattle.lp_model.specs.declared.netlist.BitRange.{BitRange}
use Rattle.lp_verilog_tokens.specs.declared.token.Token.{Token}
use Rattle.lp_verilog_tokens.specs.declared.token.Token.TheVariants as tokens
use Rattle.lp_verilog_tokens.specs.declared.token.Keyword.TheVariants as keywords
use Rattle.lp_verilog_tokens.specs.declared.token.Mark.TheVariants as marks
use Rattle.lp_verilog_tokens.specs.Lexical.{is_blank, is_lead, is_digit, is_inner, is_number_byte, is_constant_byte, is_visible}
use Rattle.lp_verilog_tokens.specs.Constants.{number_of, constant_of}
use Rattle.lp_verilog_tokens.specs.Cutting.{Lexeme, Named, Plain, Front, Whole, Cut, Piece, word_lexeme, word_front, quoted_front, number_front, number_at, escaped_front, escaped_at, directive_front, mark_of, front_of, placed, piece_of}
use Rattle.lp_verilog_tokens.proofs.Visible.{inner_visible, front_passes}
use Rattle.lp_verilog.specs.declared.reading.Halt.{Halt}
use Rattle.lp_verilog.specs.declared.reading.Halt.TheVariants as halts
use Rattle.lp_verilog.specs.Reading.{is_unread, left_out, unnamed, token_in, names_with}
use Rattle.lp_verilog.specs.Answers.{Refused, IsUnread, HasRoom, SameUnless}
use Rattle.lp_verilog.proofs.Pieces.{stands_if}
use Rattle.lp_verilog_draft.specs.declared.stop.Off.{Off}
use Rattle.lp_verilog_draft.specs.declared.stop.Off.TheVariants as offs
use Rattle.lp_verilog_draft.specs.declared.value.Side.{Side}
use Rattle.lp_verilog_draft.specs.declared.value.Side.TheVariants as sides
use Rattle.lp_verilog_draft.specs.declared.scope.Kind.{Kind}
use Rattle.lp_verilog_draft.specs.declared.scope.Kind.TheVariants as kinds
use Rattle.lp_verilog_draft.specs.declared.scope.Entry.{Entry}
use Rattle.lp_verilog_draft.specs.declared.declaring.Form.{Form}
use Rattle.lp_verilog_draft.specs.declared.declaring.Form.TheVariants as forms
use Rattle.lp_verilog_draft.specs.declared.declaring.Declaring.{Declaring}
use Rattle.lp_verilog_draft.specs.Verdicts.{Verdict, Goes, Stops, and_then}
use Rattle.lp_verilog_draft.specs.Scopes as scopes
use Rattle.lp_verilog_draft.specs.Scopes.{Entries, found, lacking_of, add_new, declare, declare_by, use_name, use_by, use_old, use_new, use_instance, use_net, agrees, is_port, put, listed, headed, instance_entry}
use Rattle.lp_verilog_draft.specs.Steps
use Rattle.lp_verilog_draft.specs.Values.{is_in, goes_along, select}
use Rattle.lp_verilog_grammar.specs.declared.symbol.Symbol.{Symbol}
use Rattle.lp_verilog_grammar.specs.declared.symbol.Action.{Action}
use Rattle.lp_verilog_grammar.specs.declared.symbol.Action.TheVariants as actions
use Rattle.lp_verilog_grammar.specs.declared.reader.Reader.{Reader}
use Rattle.lp_verilog_grammar.specs.Grammar.{Production, production}
use Rattle.lp_verilog_grammar.specs.Machine.{with_scope, scoped, valued, begun_instance, with_subject, start_value, perform, refusal, settle, produced, take_by, step}

abbrev pub supported : {A : Type 0} → Verdict A → Bool
supported (Goes x) = true
supported (Stops offs.Unsupported) = false
supported (Stops _) = true

then_supported : {A B : Type 0} (v : Verdict A) (f : A → Verdict B) → supported v ≡ true → ((x : A) → supported (f x) ≡ true) → supported (and_then v f) ≡ true
then_supported (Goes x) f h more = more x
then_supported (Stops offs.Syntax) f h more = refl
then_supported (Stops (offs.Duplicate id)) f h more = refl
then_supported (Stops (offs.Lacking at)) f h more = refl
then_supported (Stops offs.Unsupported) f h more = absurd (true≢false (sym h))

either : {A : Type 0} (b : Bool) (v w : Verdict A) → supported v ≡ true → supported w ≡ true → supported (if b then v else w) ≡ true
either true v w h k = h
either false v w h k = k

add_supported : (es : Entries) (id : NameId) (e : Entry) (o : Option Entry) → supported (add_new es id e o) ≡ true
add_supported es id e None = refl
add_supported es id e (Some x) = refl

direction_supported : (d : Declaring) (es : Entries) (id : NameId) (o : Option Entry) → supported (scopes.give_direction d es id o) ≡ true
direction_supported d es id None = refl
direction_supported d es id (Some e) = by (not (is_port e.kind)) (is_none e.direction && agrees d e)
  where
    by : (a b : Bool) → supported (if a then Stops offs.Syntax else if b then Goes (put es id (record { kind = e.kind; direction = Some d.direction; range = d.range; fixed = true; wired = e.wired; at = e.at })) else Stops (offs.Duplicate id)) ≡ true
    by true b = refl
    by false true = refl
    by false false = refl

wire_supported : (d : Declaring) (at : ℕ) (es : Entries) (id : NameId) (o : Option Entry) → supported (scopes.give_wire d at es id o) ≡ true
wire_supported d at es id None = refl
wire_supported d at es id (Some e) = by (is_port e.kind && (not e.wired && agrees d e))
  where
    by : (b : Bool) → supported (if b then Goes (put es id (record { kind = e.kind; direction = e.direction; range = d.range; fixed = true; wired = true; at = e.at })) else Stops (offs.Duplicate id)) ≡ true
    by true = refl
    by false = refl

declare_supported : (f : Form) (d : Declaring) (at : ℕ) (es : Entries) (id : NameId) → supported (declare_by f d at es id) ≡ true
declare_supported forms.Header d at es id = add_supported es id (headed d at) (found es id)
declare_supported forms.Ports d at es id = direction_supported d es id (found es id)
declare_supported forms.Wires d at es id = wire_supported d at es id (found es id)

net_supported : (side : Side) (es : Entries) (id : NameId) (e : Entry) → supported (use_net side es id e) ≡ true
net_supported sides.Right es id e = by e.fixed
  where
    by : (b : Bool) → supported (if b then Goes es else Stops offs.Syntax) ≡ true
    by true = refl
    by false = refl
net_supported sides.Left es id e = refl
net_supported sides.Connection es id e = refl

old_supported : (k : Kind) (side : Side) (es : Entries) (id : NameId) (e : Entry) → supported (use_old k side es id e) ≡ true
old_supported kinds.Instance sides.Right es id e = refl
old_supported kinds.Instance sides.Left es id e = refl
old_supported kinds.Instance sides.Connection es id e = refl
old_supported kinds.Port side es id e = net_supported side es id e
old_supported kinds.Wire side es id e = net_supported side es id e

use_supported : (side : Side) (at : ℕ) (es : Entries) (id : NameId) (o : Option Entry) → supported (use_by side at es id o) ≡ true
use_supported sides.Right at es id None = refl
use_supported sides.Left at es id None = refl
use_supported sides.Connection at es id None = refl
use_supported side at es id (Some e) = old_supported e.kind side es id e

goes_on : (m : Reader) (v : Verdict Entries) → supported v ≡ true → supported (scoped m v) ≡ true
goes_on m v h = then_supported v (λ s. Goes (with_scope m s)) h (λ s. refl)

start_supported : (m : Reader) (at : ℕ) (t : Token) → supported (start_value m at t) ≡ true
start_supported m at (tokens.Name id) =
    then_supported (scoped m (use_name m.value.side at m.draft.scope id)) (λ r. Goes (with_subject id r)) (goes_on m (use_name m.value.side at m.draft.scope id) (use_supported m.value.side at m.draft.scope id (found m.draft.scope id))) (λ r. refl)
start_supported m at (tokens.Constant size value) = by m.value.side
  where
    by : (side : Side) → supported (valued m (Steps.constant_on side size value m.value)) ≡ true
    by sides.Left = refl
    by sides.Right = refl
    by sides.Connection = refl
start_supported m at (tokens.Mark mark) = refl
start_supported m at _ = refl

pub perform_supported : (a : Action) (t : Token) (at : ℕ) (m : Reader) → supported (perform a t at m) ≡ true
perform_supported actions.Pass t at m = refl
perform_supported actions.BeginModule (tokens.Name id) at m = either (list_any (nat_eq id.0) m.taken) (Stops (offs.Duplicate id)) (Goes (record m { taken = insert_key nat_eq m.taken id.0; draft = Steps.module_named id })) refl refl
perform_supported actions.BeginModule _ at m = refl
perform_supported actions.ListPort (tokens.Name id) at m = goes_on m (add_new m.draft.scope id (listed at) (found m.draft.scope id)) (add_supported m.draft.scope id (listed at) (found m.draft.scope id))
perform_supported actions.ListPort _ at m = refl
perform_supported actions.HeaderDirection (tokens.Keyword keywords.Input) at m = refl
perform_supported actions.HeaderDirection (tokens.Keyword keywords.Output) at m = refl
perform_supported actions.HeaderDirection _ at m = refl
perform_supported actions.ItemDirection (tokens.Keyword keywords.Input) at m = refl
perform_supported actions.ItemDirection (tokens.Keyword keywords.Output) at m = refl
perform_supported actions.ItemDirection _ at m = refl
perform_supported actions.ItemWires t at m = refl
perform_supported actions.Declare (tokens.Name id) at m = goes_on m (declare m.declaring at m.draft.scope id) (declare_supported m.declaring.form m.declaring at m.draft.scope id)
perform_supported actions.Declare _ at m = refl
perform_supported actions.EndModule t at m = by (lacking_of m.draft.scope)
  where
    by : (o : Option ℕ) → supported (and_then (Steps.end_by m.draft o) (λ module_. Goes (record m { modules = m.modules ++ module_ ∷ []; draft = Steps.module_named m.draft.name }))) ≡ true
    by None = refl
    by (Some place) = refl
perform_supported actions.LeftBound (tokens.Number (Some v)) at m = refl
perform_supported actions.LeftBound _ at m = refl
perform_supported actions.RightBound (tokens.Number (Some v)) at m = refl
perform_supported actions.RightBound _ at m = refl
perform_supported actions.Target (tokens.Name id) at m = refl
perform_supported actions.Target _ at m = refl
perform_supported actions.BeginInstance (tokens.Name id) at m =
    let v = add_new m.draft.scope id (instance_entry at) (found m.draft.scope id) in
    then_supported (scoped m v) (λ r. Goes (begun_instance id r)) (goes_on m v (add_supported m.draft.scope id (instance_entry at) (found m.draft.scope id))) (λ r. refl)
perform_supported actions.BeginInstance _ at m = refl
perform_supported actions.EndInstance t at m = refl
perform_supported actions.FirstOrdered t at m = start_supported (record m { joint = Steps.joint_positional m.joint }) at t
perform_supported actions.NextOrdered t at m = refl
perform_supported actions.LastOrdered t at m = refl
perform_supported actions.ConnectionName (tokens.Name id) at m = refl
perform_supported actions.ConnectionName _ at m = refl
perform_supported actions.EndNamed t at m = refl
perform_supported actions.BeginAssign t at m = refl
perform_supported actions.EndLeft t at m = refl
perform_supported actions.NextAssign t at m = refl
perform_supported actions.LastAssign t at m = refl
perform_supported actions.StartValue t at m = start_supported m at t
perform_supported actions.Select t at m = by m.value.range
  where
    by : (o : Option BitRange) → supported (valued m (Steps.value_select_by m.value o)) ≡ true
    by None = refl
    by (Some r) = refl
perform_supported actions.Index (tokens.Number (Some v)) at m = by m.value.range
  where
    inside : (b : Bool) → supported (valued m (if b then Goes (record m.value { index = v }) else Stops offs.Syntax)) ≡ true
    inside true = refl
    inside false = refl

    by : (o : Option BitRange) → supported (valued m (Steps.value_index_by v m.value o)) ≡ true
    by None = refl
    by (Some r) = inside (is_in r v)
perform_supported actions.Index _ at m = refl
perform_supported actions.OneBit t at m = refl
perform_supported actions.ManyBits (tokens.Number (Some v)) at m = by m.value.range
  where
    inside : (b : Bool) → supported (valued m (if b then Goes (Steps.value_with (select m.value.subject m.value.index v) m.value) else Stops offs.Syntax)) ≡ true
    inside true = refl
    inside false = refl

    by : (o : Option BitRange) → supported (valued m (Steps.value_many_by v m.value o)) ≡ true
    by None = refl
    by (Some r) = inside (is_in r v && goes_along r m.value.index v)
perform_supported actions.ManyBits _ at m = refl

refusal_unread : (s : Symbol) (side : Side) (t : Token) → is_unread t ≡ false → refusal s side t ≡ offs.Syntax
refusal_unread s side tokens.Foreign h = absurd (true≢false h)
refusal_unread s side tokens.Unread h = absurd (true≢false h)
refusal_unread s side (tokens.Number v) h = absurd (true≢false h)
refusal_unread s side _ h = refl

-- only such a token is not supported
pub unsupported_unread : (t : Token) (at : ℕ) (m : Reader) → step t at m ≡ Stops offs.Unsupported → is_unread t ≡ true
unsupported_unread t at m e = by (is_unread t) refl
  where
    now : Reader
    now = settle t m

    produced_supported : (s : Symbol) (rest : List Symbol) (o : Option Production) → is_unread t ≡ false → supported (produced s rest t at now o) ≡ true
    produced_supported s rest None h = ap (λ off. supported {A = Reader} (Stops off)) (refusal_unread s now.value.side t h)
    produced_supported s rest (Some p) h = perform_supported p.action t at (record now { waiting = p.follow ++ rest })

    take_supported : (w : List Symbol) → is_unread t ≡ false → supported (take_by w t at now) ≡ true
    take_supported [] h = refl
    take_supported (s ∷ rest) h = produced_supported s rest (production s t) h

    by : (b : Bool) → is_unread t ≡ b → b ≡ true
    by true h = refl
    by false h = absurd (true≢false (sym (take_supported now.waiting h) ∙ ap (λ v. supported v) e))

-- ---- the bytes of what is not read

abbrev pub seen : List ℕ → Front → Bool
seen text (Whole size lexeme) = not (left_out lexeme) || list_all is_visible (take size text)
seen text Cut = true

number_visible : (xs : List ℕ) → list_all is_number_byte xs ≡ true → list_all is_visible xs ≡ true
number_visible [] h = refl
number_visible (b ∷ xs) h =
    let parts = and_parts (is_number_byte b) (list_all is_number_byte xs) h in
    and_from (is_visible b) (list_all is_visible xs) (one b parts.0) (number_visible xs parts.1)
  where
    one : (c : ℕ) → is_number_byte c ≡ true → is_visible c ≡ true
    one c k = grind (arith, nat_tests)

constant_visible : (xs : List ℕ) → list_all is_constant_byte xs ≡ true → list_all is_visible xs ≡ true
constant_visible [] h = refl
constant_visible (b ∷ xs) h =
    let parts = and_parts (is_constant_byte b) (list_all is_constant_byte xs) h in
    and_from (is_visible b) (list_all is_visible xs) (one b parts.0) (constant_visible xs parts.1)
  where
    one : (c : ℕ) → is_constant_byte c ≡ true → is_visible c ≡ true
    one c k = grind (arith, nat_tests)

all_take : (n m : ℕ) (text : List ℕ) (c : ℕ) (more : List ℕ) → drop n text ≡ c ∷ more → list_all is_visible (take n text) ≡ true → is_visible c ≡ true → list_all is_visible (take m more) ≡ true → list_all is_visible (take (n + 1 + m) text) ≡ true
all_take zero m text c more there h k l =
    let next : zero + 1 + m ≡ suc m = omega arith in
    rw (next, there) (and_from (is_visible c) (list_all is_visible (take m more)) k l)
all_take (suc n) m [] c more there h k l = absurd cc
all_take (suc n) m (b ∷ text) c more there h k l =
    let next : suc n + 1 + m ≡ suc (n + 1 + m) = omega arith in
    let parts = and_parts (is_visible b) (list_all is_visible (take n text)) h in
    rw next (and_from (is_visible b) (list_all is_visible (take (n + 1 + m) text)) parts.0 (all_take n m text c more there parts.1 k l))

number_seen : (n : ℕ) (text rest : List ℕ) → drop n text ≡ rest → list_all is_visible (take n text) ≡ true → seen text (number_front n (take n text) rest) ≡ true
number_seen n text [] there h = h
number_seen n text (c ∷ rest) there h = by (c == 39) refl
  where
    m : ℕ
    m = prefix_len is_constant_byte rest

    by : (t : Bool) → (c == 39) ≡ t → seen text (if t then quoted_front n (take n text) rest else Whole n (Plain (tokens.Number (number_of (take n text))))) ≡ true
    by true is =
        let quote : is_visible c ≡ true = ap is_visible (eqb-true c 39 is) in
        or_right (not (left_out (Plain (constant_of (take n text) (take m rest))))) (list_all is_visible (take (n + 1 + m) text)) (all_take n m text c rest there h quote (constant_visible (take m rest) (front_passes is_constant_byte rest)))
    by false is = h

escaped_seen : (text : List ℕ) (n : ℕ) (name rest : List ℕ) → seen text (escaped_front n name rest) ≡ true
escaped_seen text n name [] = refl
escaped_seen text n name (c ∷ rest) = by (is_blank c && nat_lt 0 n)
  where
    by : (t : Bool) → seen text (if t then Whole (n + 1) (Named name) else Whole 1 (Plain tokens.Broken)) ≡ true
    by true = refl
    by false = refl

directive_seen : (rest : List ℕ) → seen (96 ∷ rest) (directive_front rest) ≡ true
directive_seen [] = refl
directive_seen (c ∷ rest) = by (is_lead c)
  where
    n : ℕ
    n = prefix_len is_inner (c ∷ rest)

    by : (t : Bool) → seen (96 ∷ c ∷ rest) (if t then Whole (n + 1) (Plain tokens.Foreign) else Whole 1 (Plain tokens.Broken)) ≡ true
    by true = let next : n + 1 ≡ suc n = omega arith in rw next (inner_visible (take n (c ∷ rest)) (front_passes is_inner (c ∷ rest)))
    by false = refl

mark_read : (b : ℕ) → left_out (Plain (mark_of b)) ≡ false
mark_read b = by (b == 40) (b == 41) (b == 91) (b == 93) (b == 123) (b == 125) (b == 44) (b == 59) (b == 58) (b == 46) (b == 61)
  where
    by : (t1 t2 t3 t4 t5 t6 t7 t8 t9 t10 t11 : Bool) → left_out (Plain (if t1 then tokens.Mark marks.Open else if t2 then tokens.Mark marks.Close else if t3 then tokens.Mark marks.OpenBracket else if t4 then tokens.Mark marks.CloseBracket else if t5 then tokens.Mark marks.OpenBrace else if t6 then tokens.Mark marks.CloseBrace else if t7 then tokens.Mark marks.Comma else if t8 then tokens.Mark marks.Semicolon else if t9 then tokens.Mark marks.Colon else if t10 then tokens.Mark marks.Dot else if t11 then tokens.Mark marks.Equals else tokens.Broken)) ≡ false
    by true t2 t3 t4 t5 t6 t7 t8 t9 t10 t11 = refl
    by false true t3 t4 t5 t6 t7 t8 t9 t10 t11 = refl
    by false false true t4 t5 t6 t7 t8 t9 t10 t11 = refl
    by false false false true t5 t6 t7 t8 t9 t10 t11 = refl
    by false false false false true t6 t7 t8 t9 t10 t11 = refl
    by false false false false false true t7 t8 t9 t10 t11 = refl
    by false false false false false false true t8 t9 t10 t11 = refl
    by false false false false false false false true t9 t10 t11 = refl
    by false false false false false false false false true t10 t11 = refl
    by false false false false false false false false false true t11 = refl
    by false false false false false false false false false false true = refl
    by false false false false false false false false false false false = refl

all_seen : (b : ℕ) (rest : List ℕ) → seen (b ∷ rest) (front_of b rest) ≡ true
all_seen b rest = by (is_lead b) (is_digit b) (b == 39) (b == 92) (b == 96) refl refl
  where
    text : List ℕ
    text = b ∷ rest

    n : ℕ
    n = prefix_len is_number_byte text

    m : ℕ
    m = prefix_len is_constant_byte rest

    by : (t1 t2 t3 t4 t5 : Bool) → (b == 39) ≡ t3 → (b == 96) ≡ t5 → seen text (if t1 then word_front text else if t2 then number_at text else if t3 then quoted_front 0 [] rest else if t4 then escaped_at rest else if t5 then directive_front rest else Whole 1 (Plain (mark_of b))) ≡ true
    by true t2 t3 t4 t5 e f =
        let k = prefix_len is_inner text in
        or_right (not (left_out (word_lexeme (take k text)))) (list_all is_visible (take k text)) (inner_visible (take k text) (front_passes is_inner text))
    by false true t3 t4 t5 e f = number_seen n text (drop n text) refl (number_visible (take n text) (front_passes is_number_byte text))
    by false false true t4 t5 e f =
        let quote : is_visible b ≡ true = ap is_visible (eqb-true b 39 e) in
        or_right (not (left_out (Plain (constant_of [] (take m rest))))) (list_all is_visible (take (0 + 1 + m) text)) (all_take 0 m text b rest refl refl quote (constant_visible (take m rest) (front_passes is_constant_byte rest)))
    by false false false true t5 e f = escaped_seen text (prefix_len is_visible rest) (take (prefix_len is_visible rest) rest) (drop (prefix_len is_visible rest) rest)
    by false false false false true e f = let is : b ≡ 96 = eqb-true b 96 f in subst (λ c. seen (c ∷ rest) (directive_front rest) ≡ true) (sym is) (directive_seen rest)
    by false false false false false e f = or_left (not (left_out (Plain (mark_of b)))) (list_all is_visible (take 1 text)) (ap not (mark_read b))

cut_read : (p : Piece) (end gap : ℕ) → left_out p.lexeme ≡ true → Some (placed end gap Cut) ≡ Some p → ⊥
cut_read p end gap out e =
    let same : placed end gap Cut ≡ p = cc in
    absurd (true≢false (sym out ∙ ap (λ (q : Piece). left_out q.lexeme) (sym same)))

-- a piece that is left out has visible bytes
pub piece_visible : (fresh : Bool) (rest : List ℕ) (p : Piece) → piece_of fresh rest ≡ Some p → left_out p.lexeme ≡ true → list_all is_visible (take p.size (drop p.gap rest)) ≡ true
piece_visible fresh rest p e out =
    let s = stands_if fresh rest p e (λ end gap. cut_read p end gap out) in
    let whole : seen (s.first ∷ s.more) (Whole p.size p.lexeme) ≡ true = subst (λ f. seen (s.first ∷ s.more) f ≡ true) s.front (all_seen s.first s.more) in
    let shown : list_all is_visible (take p.size (s.first ∷ s.more)) ≡ true = sym (ap (λ x. not x || list_all is_visible (take p.size (s.first ∷ s.more))) out) ∙ whole in
    subst (λ xs. list_all is_visible (take p.size xs) ≡ true) (sym s.there) shown

-- ---- the answers of the reader

unnamed_unread : (t : Token) → is_unread (unnamed t) ≡ true → is_unread t ≡ true
unnamed_unread (tokens.Name id) h = absurd (true≢false (sym h))
unnamed_unread (tokens.Mark mark) h = h
unnamed_unread (tokens.Keyword word) h = h
unnamed_unread (tokens.Number v) h = h
unnamed_unread (tokens.Constant size value) h = h
unnamed_unread tokens.Unread h = h
unnamed_unread tokens.Foreign h = h
unnamed_unread tokens.Broken h = h

out_kept : (names : List (List ℕ)) (l : Lexeme) → is_unread (token_in names l) ≡ true → (left_out l ≡ true) × (names_with names l ≡ names)
out_kept names (Named text) h = absurd (true≢false (sym h))
out_kept names (Plain t) h = (unnamed_unread t h, refl)

-- a token that is refused
pub unread_kept : (halt : Halt) (names new : List (List ℕ)) (l : Lexeme) (t : Token) (m : Reader) (at : ℕ) (bytes : List ℕ) → Refused halt at bytes (step t at m) → t ≡ token_in names l → new ≡ names_with names l → (left_out l ≡ true → list_all is_visible bytes ≡ true) → IsUnread halt names new
unread_kept halts.NoMemory names new l t m at bytes h token is visible = tt
unread_kept (halts.Left offs.Syntax place word) names new l t m at bytes h token is visible = tt
unread_kept (halts.Left (offs.Duplicate id) place word) names new l t m at bytes h token is visible = tt
unread_kept (halts.Left (offs.Lacking port) place word) names new l t m at bytes h token is visible = tt
unread_kept (halts.Left offs.Unsupported place word) names new l t m at bytes h token is visible =
    let out = out_kept names l (ap is_unread (sym token) ∙ unsupported_unread t at m h.0) in
    (subst (λ xs. list_all is_visible xs ≡ true) (sym h.2) (visible out.0), is ∙ out.1)

pub ends_unread : (halt : Halt) (old new : List (List ℕ)) (most : ℕ) → IsUnread halt old new → length old < most → HasRoom halt (length new) most
ends_unread halts.NoMemory old new most h less = tt
ends_unread (halts.Left offs.Syntax place word) old new most h less = tt
ends_unread (halts.Left (offs.Duplicate id) place word) old new most h less = tt
ends_unread (halts.Left (offs.Lacking port) place word) old new most h less = tt
ends_unread (halts.Left offs.Unsupported place word) old new most h less = let same : length new ≡ length old = ap length h.1 in (h.0, omega (arith, same, less))

-- the word of such a token is visible
pub ends_visible : (halt : Halt) (off : Off) (at : ℕ) (word : Bor (List ℕ)) (count most : ℕ) → halt ≡ halts.Left off at word → HasRoom halt count most → off ≡ offs.Unsupported → list_all is_visible word.now ≡ true
ends_visible halt off at word count most is h unread = (subst (λ (f : Off). HasRoom (halts.Left f at word) count most) unread (subst (λ (x : Halt). HasRoom x count most) is h)).0

-- and there are as many names as bytes at most
pub few_after : (halt : Halt) (off : Off) (at : ℕ) (word : Bor (List ℕ)) (old new : List (List ℕ)) (most : ℕ) → halt ≡ halts.Left off at word → HasRoom halt (length old) most → length old ≤ most → length new ≤ length old + 1 → SameUnless off old new → length new ≤ most
few_after halt off at word old new most is h within more same = by off (subst (λ (x : Halt). HasRoom x (length old) most) is h) same
  where
    kept : new ≡ old → length new ≤ most
    kept e = let long : length new ≡ length old = ap length e in omega (arith, long, within)

    by : (f : Off) → HasRoom (halts.Left f at word) (length old) most → SameUnless f old new → length new ≤ most
    by offs.Unsupported k s = let less = k.1 in omega (arith, less, more)
    by offs.Syntax k s = kept s
    by (offs.Duplicate id) k s = kept s
    by (offs.Lacking port) k s = kept s
