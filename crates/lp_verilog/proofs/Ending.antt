-- From what holds between tokens, tokens lead on to the end of a text.
use Rattle.std.proofs.Common.{◌≡◌, ℕ, zero, suc, ◌+◌, ◌≤◌, ◌<◌, Bool, true, false, List, [], ◌∷◌, ◌++◌, length, Option, Some, None, refl, sym, ap, ◌∙◌, subst, arith}
use Rattle.std.specs.Prelude.{nat_eq, nat_lt, nat_le, is_some, is_none, not, ◌&&◌, ◌||◌, ◌==◌, if◌then◌else◌}
use Rattle.std.specs.List.{list_all, list_any}
use Rattle.std.specs.Map.{lookup}
use Rattle.indexmap.specs.IndexSet.{insert_key}
use Rattle.std.proofs.lemmas.Bool.{true≢false, and_parts, and_from, or_left, or_right, eq-eqb}
use Rattle.std.proofs.lemmas.Bool.Decides.{nat_tests}
use Rattle.lp_text.specs.declared.names.NameId.{NameId}
use Rattle.lp_model.specs.declared.netlist.Direction.TheVariants as directions
use Rattle.lp_model.specs.declared.netlist.BitRange.{BitRange}
use Rattle.lp_verilog_tokens.specs.declared.token.Mark.{Mark}
use Rattle.lp_verilog_tokens.specs.declared.token.Token.{Token}
use Rattle.lp_verilog_tokens.specs.declared.token.Token.TheVariants as tokens
use Rattle.lp_verilog_tokens.specs.declared.token.Keyword.TheVariants as keywords
use Rattle.lp_verilog_tokens.specs.declared.token.Mark.TheVariants as marks
use Rattle.lp_verilog_grammar.specs.declared.symbol.Symbol.{Symbol}
use Rattle.lp_verilog_grammar.specs.declared.symbol.Symbol.TheVariants as symbols
use Rattle.lp_verilog_draft.specs.declared.value.Side.{Side}
use Rattle.lp_verilog_draft.specs.declared.value.Side.TheVariants as sides
use Rattle.lp_verilog_draft.specs.declared.value.Value.{Value}
use Rattle.lp_verilog_draft.specs.declared.scope.Entry.{Entry}
use Rattle.lp_verilog_draft.specs.declared.declaring.Form.{Form}
use Rattle.lp_verilog_draft.specs.declared.declaring.Form.TheVariants as forms
use Rattle.lp_verilog_draft.specs.declared.declaring.Declaring.{Declaring}
use Rattle.lp_verilog_draft.specs.declared.stop.Off.TheVariants as offs
use Rattle.lp_verilog_draft.specs.Verdicts.{Verdict, Goes, Stops, and_then}
use Rattle.lp_verilog_draft.specs.Scopes as scopes
use Rattle.lp_verilog_draft.specs.Scopes.{Entries, found, lacking_of, add_new, declare, declare_by, use_by, agrees, is_port, same_range, range_in, put, listed, headed, wire, instance_entry, lacks_direction}
use Rattle.lp_verilog_draft.specs.Steps
use Rattle.lp_verilog_draft.specs.Values.{is_in, goes_along, select, constant_bits}
use Rattle.lp_verilog_grammar.specs.declared.reader.Reader.{Reader}
use Rattle.lp_verilog_grammar.specs.Grammar.{is_same_mark, on_expected}
use Rattle.lp_verilog_grammar.specs.Machine.{with_scope, with_value, scoped, valued, with_subject, begun_instance, end_instance, end_ordered, end_named, end_left, end_assign, is_bracket, settled, produced, take_token, step, is_source, accepts}
use Rattle.lp_verilog.specs.Places.{is_ports, plain, has_left, fits_range, can_take}
use Rattle.lp_verilog.proofs.Shapes.{calm, then_right, Ok, there_any, is_small, small, Good, put_good, good_more, none_there, below, none_taken, below_more, below_insert, Found, some_found, lacking_count, none_lacks, some_lacks, fewer_lack}
use Rattle.lp_verilog.proofs.States.{range_has, Ready, calm_ready, index_ready, State, Held, declare_held, range_small, Sound}

-- the state with other symbols that are waited for
abbrev pub on : List Symbol → Reader → Reader
on w m = record m { waiting = w }

-- a token that a text can spell, with names below a number
abbrev pub spelled_ok : ℕ → Token → Bool
spelled_ok b (tokens.Name id) = nat_lt id.0 b
spelled_ok b (tokens.Number (Some v)) = is_small v
spelled_ok b (tokens.Number None) = false
spelled_ok b (tokens.Constant size value) = (size == 1) && (value == 0)
spelled_ok b (tokens.Mark mark) = true
spelled_ok b (tokens.Keyword keywords.Input) = true
spelled_ok b (tokens.Keyword keywords.EndModule) = true
spelled_ok b _ = false

-- a bracket may come at once
abbrev pub bracketed : List Symbol → Bool
bracketed (symbols.Declared ∷ rest) = true
bracketed (symbols.Vector ∷ rest) = true
bracketed _ = false

narrow : (w : List Symbol) → calm w ≡ true → bracketed w ≡ false
narrow [] h = refl
narrow (symbols.Declared ∷ rest) h = absurd (true≢false (sym h))
narrow (symbols.Vector ∷ rest) h = absurd (true≢false (sym h))
narrow (_ ∷ rest) h = refl

abbrev pub starts : List Token → Bool
starts [] = true
starts (t ∷ ts) = not (is_bracket t)

-- where a direction is being given, some port can take it
abbrev pub Directed : Declaring → List Symbol → Entries → Type 0
Directed d w es = is_ports d.form ≡ true → plain w ≡ false → list_any (λ e. can_take d w e.1) es ≡ true

directed_plain : (d : Declaring) (w : List Symbol) (es : Entries) → plain w ≡ true → Directed d w es
directed_plain d w es h = λ p q. absurd (true≢false (sym h ∙ q))

lt_test : (n b : ℕ) → n < b → nat_lt n b ≡ true
lt_test n b h = grind (arith, nat_tests)

le_refl_test : (i : ℕ) → nat_le i i ≡ true
le_refl_test i = grind (arith, nat_tests)

left_in : (r : BitRange) → is_in r r.left ≡ true
left_in r = grind (arith, nat_tests)

in_small : (r : BitRange) (i : ℕ) → is_in r i ≡ true → small (Some r) ≡ true → is_small i ≡ true
in_small r i h k = grind (arith, nat_tests)

along_same : (r : BitRange) (i : ℕ) → goes_along r i i ≡ true
along_same r i = by (nat_le r.left r.right)
  where
    by : (b : Bool) → (if b then nat_le i i else nat_le i i) ≡ true
    by true = le_refl_test i
    by false = le_refl_test i

same_mark : (mark : Mark) → is_same_mark mark mark ≡ true
same_mark marks.Open = refl
same_mark marks.Close = refl
same_mark marks.OpenBracket = refl
same_mark marks.CloseBracket = refl
same_mark marks.OpenBrace = refl
same_mark marks.CloseBrace = refl
same_mark marks.Comma = refl
same_mark marks.Semicolon = refl
same_mark marks.Colon = refl
same_mark marks.Dot = refl
same_mark marks.Equals = refl

range_same : (r : Option BitRange) → same_range r r ≡ true
range_same None = refl
range_same (Some r) = and_from (r.left == r.left) (r.right == r.right) (eq-eqb r.left r.left refl) (eq-eqb r.right r.right refl)

settled_calm : (m : Reader) (b : Bool) (w : List Symbol) → calm w ≡ true → settled m b w ≡ m
settled_calm m true w h = refl
settled_calm m false [] h = refl
settled_calm m false (symbols.Tail ∷ rest) h = absurd (true≢false (sym h))
settled_calm m false (_ ∷ rest) h = refl

right_true : (x y : Bool) → y ≡ true → (x || y) ≡ true
right_true true y h = refl
right_true false y h = h

and_false : (x : Bool) → (x && false) ≡ false
and_false true = refl
and_false false = refl

lt_room : (i n b : ℕ) → nat_lt i n ≡ true → n ≤ b → nat_lt i b ≡ true
lt_room i n b h room = grind (arith, nat_tests)

-- ---- ranges that are given

-- with the left bound of a range that is settled, the right one can follow
right_next : (d : Declaring) (rest : List Symbol) (e : Entry) → then_right rest ≡ true → (not e.fixed || has_left e.range d.left) ≡ true → fits_range d rest e ≡ true
right_next d (symbols.Expect marks.Colon ∷ symbols.RightBound ∷ rest) e h k = k
right_next d _ e h k = absurd (true≢false (sym h))

-- a range that is not settled, or the very one, can be given whatever of the declaration is still to come
same_fits : (d : Declaring) (rest : List Symbol) (e : Entry) → agrees d e ≡ true → (not e.fixed || is_some e.range) ≡ true → (not e.fixed || has_left e.range d.left) ≡ true → fits_range d rest e ≡ true
same_fits d [] e a s l = a
same_fits d (symbols.Declared ∷ rest) e a s l = or_left (agrees d e) (is_some e.range) a
same_fits d (symbols.Vector ∷ rest) e a s l = or_left (agrees d e) (is_some e.range) a
same_fits d (symbols.LeftBound ∷ rest) e a s l = s
same_fits d (symbols.RightBound ∷ rest) e a s l = l
same_fits d (symbols.Expect mark ∷ rest) e a s l = same_fits d rest e a s l
same_fits d (_ ∷ rest) e a s l = a

-- a bound by which some port can still take the direction that is given
abbrev Bound : (ℕ → Declaring) → List Symbol → Entries → Type 0
Bound with rest es = (v : ℕ) × (is_small v ≡ true) × Directed (with v) rest es

left_bound_for : (d : Declaring) (n : ℕ) (es : Entries) (rest : List Symbol) → Good n es → then_right rest ≡ true → Directed d (symbols.LeftBound ∷ rest) es → Bound (λ v. record d { left = v }) rest es
left_bound_for d n es rest g right directed = by (is_ports d.form) (plain rest) refl refl
  where
    given : ℕ → Declaring
    given v = record d { left = v }

    on_range : (e : Entry) (o : Option BitRange) → e.range ≡ o → (c : Bool) → e.fixed ≡ c → (not e.fixed || is_some e.range) ≡ true → small e.range ≡ true → (v : ℕ) × (is_small v ≡ true) × ((not e.fixed || has_left e.range v) ≡ true)
    on_range e (Some r) is c fixed h narrow =
        let bounds = and_parts (is_small r.left) (is_small r.right) (subst (λ x. small x ≡ true) is narrow) in
        (r.left, bounds.0, or_right (not e.fixed) (has_left e.range r.left) (ap (λ x. has_left x r.left) is ∙ eq-eqb r.left r.left refl))
    on_range e None is false fixed h narrow = (0, refl, or_left (not e.fixed) (has_left e.range 0) (ap not fixed))
    on_range e None is true fixed h narrow = absurd (true≢false (sym h ∙ ap (λ x. not x || is_some e.range) fixed ∙ ap is_some is))

    found_left : is_ports d.form ≡ true → plain rest ≡ false → Bound given rest es
    found_left ports waits =
        let f = some_found (can_take d (symbols.LeftBound ∷ rest)) n es g (directed ports waits) in
        let parts = and_parts (lacks_direction f.entry) (not f.entry.fixed || is_some f.entry.range) f.passes in
        let o = on_range f.entry f.entry.range refl f.entry.fixed refl parts.1 f.narrow in
        (o.0, o.1, λ p q. there_any (can_take (given o.0) rest) f.key es f.entry f.there (and_from (lacks_direction f.entry) (fits_range (given o.0) rest f.entry) parts.0 (right_next (given o.0) rest f.entry right o.2)))

    by : (a b : Bool) → is_ports d.form ≡ a → plain rest ≡ b → Bound given rest es
    by true false p q = found_left p q
    by true true p q = (0, refl, directed_plain (given 0) rest es q)
    by false b p q = (0, refl, λ ports waits. absurd (true≢false (sym ports ∙ p)))

right_bound_for : (d : Declaring) (n : ℕ) (es : Entries) (rest : List Symbol) → Good n es → Directed d (symbols.RightBound ∷ rest) es → Bound (λ v. record d { range = Some (record { left = d.left; right = v }) }) rest es
right_bound_for d n es rest g directed = by (is_ports d.form) (plain rest) refl refl
  where
    given : ℕ → Declaring
    given v = record d { range = Some (record { left = d.left; right = v }) }

    on_range : (e : Entry) (o : Option BitRange) → e.range ≡ o → (c : Bool) → e.fixed ≡ c → (not e.fixed || has_left e.range d.left) ≡ true → small e.range ≡ true → (v : ℕ) × (is_small v ≡ true) × (agrees (given v) e ≡ true) × ((not e.fixed || is_some e.range) ≡ true)
    on_range e o is false fixed h narrow = (0, refl, or_left (not e.fixed) (same_range e.range (given 0).range) (ap not fixed), or_left (not e.fixed) (is_some e.range) (ap not fixed))
    on_range e None is true fixed h narrow = absurd (true≢false (sym h ∙ ap (λ x. not x || has_left e.range d.left) fixed ∙ ap (λ x. has_left x d.left) is))
    on_range e (Some r) is true fixed h narrow =
        let bounds = and_parts (is_small r.left) (is_small r.right) (subst (λ x. small x ≡ true) is narrow) in
        let left : (r.left == d.left) ≡ true = sym (ap (λ x. not x || has_left e.range d.left) fixed ∙ ap (λ x. has_left x d.left) is) ∙ h in
        let same : same_range e.range (given r.right).range ≡ true = ap (λ x. same_range x (given r.right).range) is ∙ and_from (r.left == d.left) (r.right == r.right) left (eq-eqb r.right r.right refl) in
        (r.right, bounds.1, or_right (not e.fixed) (same_range e.range (given r.right).range) same, or_right (not e.fixed) (is_some e.range) (ap is_some is))

    found_right : is_ports d.form ≡ true → plain rest ≡ false → Bound given rest es
    found_right ports waits =
        let f = some_found (can_take d (symbols.RightBound ∷ rest)) n es g (directed ports waits) in
        let parts = and_parts (lacks_direction f.entry) (not f.entry.fixed || has_left f.entry.range d.left) f.passes in
        let o = on_range f.entry f.entry.range refl f.entry.fixed refl parts.1 f.narrow in
        (o.0, o.1, λ p q. there_any (can_take (given o.0) rest) f.key es f.entry f.there (and_from (lacks_direction f.entry) (fits_range (given o.0) rest f.entry) parts.0 (same_fits (given o.0) rest f.entry o.2 o.3 parts.1)))

    by : (a b : Bool) → is_ports d.form ≡ a → plain rest ≡ b → Bound given rest es
    by true false p q = found_right p q
    by true true p q = (0, refl, directed_plain (given 0) rest es q)
    by false b p q = (0, refl, λ ports waits. absurd (true≢false (sym ports ∙ p)))

-- ---- names of declarations

abbrev pub directed : Declaring → Entry → Entry
directed d e = record { kind = e.kind; direction = Some d.direction; range = d.range; fixed = true; wired = e.wired; at = e.at }

direction_goes : (d : Declaring) (es : Entries) (id : NameId) (e : Entry) → lacks_direction e ≡ true → agrees d e ≡ true → scopes.give_direction d es id (Some e) ≡ Goes (put es id (directed d e))
direction_goes d es id e lacks fits =
    let parts = and_parts (is_port e.kind) (is_none e.direction) lacks in
    rw (parts.0, parts.1, fits) refl

-- a port to which the declaration as it stands can give a direction
abbrev takes_now : Declaring → Entry → Bool
takes_now d e = lacks_direction e && agrees d e

pub record Declares (d : Declaring) (k n : ℕ) (es : Entries) : Type 0 where
  pub id : NameId
  pub under : nat_lt id.0 (suc n) ≡ true
  pub entries : Entries
  pub goes : declare d k es id ≡ Goes entries
  pub good : Good (suc n) entries

under_next : (n : ℕ) → nat_lt n (suc n) ≡ true
under_next n = lt_test n (suc n) (omega arith)

lt_next : (k n : ℕ) → nat_lt k n ≡ true → nat_lt k (suc n) ≡ true
lt_next k n h = grind (arith, nat_tests)

declares : (d : Declaring) (k n : ℕ) (es : Entries) → Good n es → small d.range ≡ true → (is_ports d.form ≡ true → list_any (λ e. takes_now d e.1) es ≡ true) → Declares d k n es
declares d k n es g h takes = by d.form refl takes
  where
    new : NameId
    new = record { 0 = n }

    made : (id : NameId) (entries : Entries) → nat_lt id.0 (suc n) ≡ true → declare d k es id ≡ Goes entries → Declares d k n es
    made id entries under goes = record { id = id; under = under; entries = entries; goes = goes; good = subst (Held (Good (suc n))) goes (declare_held (suc n) id under d.form d k es (good_more n es g) h) }

    by : (f : Form) → d.form ≡ f → (is_ports f ≡ true → list_any (λ e. takes_now d e.1) es ≡ true) → Declares d k n es
    by forms.Header is t = made new (put es new (headed d k)) (under_next n) (ap (λ f. declare_by f d k es new) is ∙ ap (add_new es new (headed d k)) (none_there n es g.1))
    by forms.Wires is t = made new (put es new (wire d.range k)) (under_next n) (ap (λ f. declare_by f d k es new) is ∙ ap (scopes.give_wire d k es new) (none_there n es g.1))
    by forms.Ports is t =
        let f = some_found (takes_now d) n es g (t refl) in
        let old : NameId = record { 0 = f.key } in
        let parts = and_parts (lacks_direction f.entry) (agrees d f.entry) f.passes in
        made old (put es old (directed d f.entry)) (lt_next f.key n f.under) (ap (λ g. declare_by g d k es old) is ∙ ap (scopes.give_direction d es old) f.there ∙ direction_goes d es old f.entry parts.0 parts.1)

module _ (after : ℕ → Token → ℕ) where
  -- tokens that follow one another, the first of them at a byte
  abbrev pub run : ℕ → List Token → Reader → Verdict Reader
  run k [] m = Goes m
  run k (t ∷ ts) m = and_then (step t k m) (λ u. run (after k t) ts u)

  -- tokens that lead a state to the end of a text
  pub record Led (k b : ℕ) (m : Reader) : Type 0 where
    pub rest : List Token
    pub last : Reader
    pub goes : run k rest m ≡ Goes last
    pub accepted : accepts last ≡ true
    pub spelled : list_all (spelled_ok b) rest ≡ true

  -- and the first of them is no bracket
  pub record Begun (k b : ℕ) (m : Reader) : Type 0 where
    pub led : Led k b m
    pub begins : bracketed m.waiting ≡ false → starts led.rest ≡ true

  abbrev one : (k b : ℕ) (t : Token) (m u : Reader) → step t k m ≡ Goes u → spelled_ok b t ≡ true → Led (after k t) b u → Led k b m
  one k b t m u e ok l = record {
    rest = t ∷ l.rest;
    last = l.last;
    goes = ap (λ v. and_then v (λ x. run (after k t) l.rest x)) e ∙ l.goes;
    accepted = l.accepted;
    spelled = and_from (spelled_ok b t) (list_all (spelled_ok b) l.rest) ok l.spelled;
  }

  first : (k b : ℕ) (t : Token) (m u : Reader) → step t k m ≡ Goes u → spelled_ok b t ≡ true → is_bracket t ≡ false → Led (after k t) b u → Begun k b m
  first k b t m u e ok mark l = record { led = one k b t m u e ok l; begins = λ wide. ap not mark }

  -- a name that ends before the next token
  tail : (k b : ℕ) (rest : List Symbol) (m : Reader) → calm rest ≡ true → is_source rest ≡ false → Begun k b (on rest (with_value m (Steps.value_whole m.value))) → Begun k b (on (symbols.Tail ∷ rest) m)
  tail k b rest m still inside l = by l.led.rest l.led.goes (l.begins (narrow rest still)) l.led.spelled
    where
      after_name : Reader
      after_name = on rest (with_value m (Steps.value_whole m.value))

      by : (ts : List Token) → run k ts after_name ≡ Goes l.led.last → starts ts ≡ true → list_all (spelled_ok b) ts ≡ true → Begun k b (on (symbols.Tail ∷ rest) m)
      by [] goes begins spelled =
          let same : after_name ≡ l.led.last = cc in
          absurd (true≢false (sym l.led.accepted ∙ ap accepts (sym same) ∙ inside))
      by (t ∷ ts) goes begins spelled =
          let mark : is_bracket t ≡ false = no_bracket (is_bracket t) begins in
          let here : step t k (on (symbols.Tail ∷ rest) m) ≡ take_token t k after_name = ap (λ c. take_token t k (settled (on (symbols.Tail ∷ rest) m) c (symbols.Tail ∷ rest))) mark in
          let there : step t k after_name ≡ take_token t k after_name = ap (take_token t k) (settled_calm after_name (is_bracket t) rest still) in
          record {
            led = record { rest = t ∷ ts; last = l.led.last; goes = ap (λ v. and_then v (λ x. run (after k t) ts x)) (here ∙ sym there) ∙ goes; accepted = l.led.accepted; spelled = spelled };
            begins = λ wide. begins;
          }
        where
          no_bracket : (c : Bool) → not c ≡ true → c ≡ false
          no_bracket false h = refl
          no_bracket true h = absurd (true≢false (sym h))

  -- the end of a module whose ports have directions, or a direction for one more of them
  items : (c k n b : ℕ) (rest : List Symbol) (m : Reader) → lacking_count m.draft.scope ≡ c → State n m → n ≤ b → ((at : ℕ) (u : Reader) → State n u → Begun at b (on rest u)) → Begun k b (on (symbols.Items ∷ rest) m)
  items zero k n b rest m none s room more =
      let t = tokens.Keyword keywords.EndModule in
      let u : Reader = record (on rest m) { modules = m.modules ++ Steps.module_of m.draft ∷ []; draft = Steps.module_named m.draft.name } in
      let goes : step t k (on (symbols.Items ∷ rest) m) ≡ Goes u = ap (λ o. and_then (Steps.end_by m.draft o) (λ module_. Goes (record (on rest m) { modules = m.modules ++ module_ ∷ []; draft = Steps.module_named m.draft.name }))) (none_lacks m.draft.scope none) in
      first k b t (on (symbols.Items ∷ rest) m) u goes refl refl (more (after k t) u (record { names = (refl, refl); modules = s.modules; left = s.left; range = s.range; subject = s.subject })).led
  items (suc c) k n b rest m some s room more = go (λ at u e st. items c at n b rest u e st room more)
    where
      es : Entries
      es = m.draft.scope

      f : Found lacks_direction n es
      f = some_found lacks_direction n es s.names (some_lacks c es some)

      port : NameId
      port = record { 0 = f.key }

      go : ((at : ℕ) (u : Reader) → lacking_count u.draft.scope ≡ c → State n u → Begun at b (on (symbols.Items ∷ rest) u)) → Begun k b (on (symbols.Items ∷ rest) m)
      go again = direct f.entry.range refl
        where
          below_b : nat_lt f.key b ≡ true
          below_b = lt_room f.key n b f.under room

          -- the port's name, and the end of its declaration
          named : (s2 : Symbol) → ((d : Declaring) (at : ℕ) → step (tokens.Name port) at (record (on (s2 ∷ symbols.DeclaredMore ∷ symbols.Items ∷ rest) m) { declaring = d }) ≡ scoped (record (on (symbols.DeclaredMore ∷ symbols.Items ∷ rest) m) { declaring = d }) (declare d at es port))
              → (at : ℕ) (d : Declaring) → d.form ≡ forms.Ports → d.range ≡ f.entry.range → is_small d.left ≡ true → Led at b (record (on (s2 ∷ symbols.DeclaredMore ∷ symbols.Items ∷ rest) m) { declaring = d })
          named s2 does at d form range left =
              let new = directed d f.entry in
              let es2 = put es port new in
              let below_d : Reader = record (on (symbols.DeclaredMore ∷ symbols.Items ∷ rest) m) { declaring = d } in
              let u : Reader = with_scope below_d es2 in
              let fits : agrees d f.entry ≡ true = right_true (not f.entry.fixed) (same_range f.entry.range d.range) (ap (same_range f.entry.range) range ∙ range_same f.entry.range) in
              let declared : declare d at es port ≡ Goes es2 = ap (λ g. declare_by g d at es port) form ∙ ap (scopes.give_direction d es port) f.there ∙ direction_goes d es port f.entry f.passes fits in
              let goes = does d at ∙ ap (scoped below_d) declared in
              let small_range : small d.range ≡ true = ap small range ∙ f.narrow in
              let kept : State n u = record { names = put_good n f.key new es f.under small_range s.names; modules = s.modules; left = left; range = small_range; subject = s.subject } in
              let has_direction : lacks_direction new ≡ false = and_false (is_port f.entry.kind) in
              let fewer : suc c ≡ suc (lacking_count es2) = sym some ∙ fewer_lack f.key new has_direction es f.entry f.there f.passes in
              let count : lacking_count es2 ≡ c = omega (arith, fewer) in
              let next = after at (tokens.Name port) in
              let semicolon = tokens.Mark marks.Semicolon in
              one at b (tokens.Name port) (record (on (s2 ∷ symbols.DeclaredMore ∷ symbols.Items ∷ rest) m) { declaring = d }) u goes below_b
              (one next b semicolon u (on (symbols.Items ∷ rest) u) refl refl (again (after next semicolon) u count kept).led)

          input : Token
          input = tokens.Keyword keywords.Input

          direct : (r : Option BitRange) → f.entry.range ≡ r → Begun k b (on (symbols.Items ∷ rest) m)
          direct None is =
              let d : Declaring = record { form = forms.Ports; direction = directions.Input; range = None; left = 0 } in
              let u : Reader = record (on (symbols.Declared ∷ symbols.DeclaredMore ∷ symbols.Items ∷ rest) m) { declaring = d } in
              first k b input (on (symbols.Items ∷ rest) m) u refl refl refl (named symbols.Declared (λ e at. refl) (after k input) d refl (sym is) refl)
          direct (Some r) is =
              let bound = and_parts (is_small r.left) (is_small r.right) (subst (λ o. small o ≡ true) is f.narrow) in
              let d0 : Declaring = record { form = forms.Ports; direction = directions.Input; range = None; left = 0 } in
              let d1 : Declaring = record d0 { left = r.left } in
              let d2 : Declaring = record d1 { range = Some r } in
              let below_name : List Symbol = symbols.DeclaredName ∷ symbols.DeclaredMore ∷ symbols.Items ∷ rest in
              let m0 : Reader = record (on (symbols.Declared ∷ symbols.DeclaredMore ∷ symbols.Items ∷ rest) m) { declaring = d0 } in
              let m1 : Reader = record (on (symbols.LeftBound ∷ symbols.Expect marks.Colon ∷ symbols.RightBound ∷ symbols.Expect marks.CloseBracket ∷ below_name) m) { declaring = d0 } in
              let m2 : Reader = record (on (symbols.Expect marks.Colon ∷ symbols.RightBound ∷ symbols.Expect marks.CloseBracket ∷ below_name) m) { declaring = d1 } in
              let m3 : Reader = record (on (symbols.RightBound ∷ symbols.Expect marks.CloseBracket ∷ below_name) m) { declaring = d1 } in
              let m4 : Reader = record (on (symbols.Expect marks.CloseBracket ∷ below_name) m) { declaring = d2 } in
              let m5 : Reader = record (on below_name m) { declaring = d2 } in
              let open_ = tokens.Mark marks.OpenBracket in
              let left = tokens.Number (Some r.left) in
              let colon = tokens.Mark marks.Colon in
              let right = tokens.Number (Some r.right) in
              let close = tokens.Mark marks.CloseBracket in
              let k0 = after k input in
              let k1 = after k0 open_ in
              let k2 = after k1 left in
              let k3 = after k2 colon in
              let k4 = after k3 right in
              let k5 = after k4 close in
              first k b input (on (symbols.Items ∷ rest) m) m0 refl refl refl
              (one k0 b open_ m0 m1 refl refl
              (one k1 b left m1 m2 refl bound.0
              (one k2 b colon m2 m3 refl refl
              (one k3 b right m3 m4 refl bound.1
              (one k4 b close m4 m5 refl refl
              (named symbols.DeclaredName (λ e at. refl) k5 d2 refl (sym is) bound.0))))))

  lt_start : (n b : ℕ) (s : Symbol) (rest : List Symbol) → n + length (s ∷ rest) ≤ b → nat_lt n b ≡ true
  lt_start n b s rest room = lt_test n b (omega (arith, room))

  room_same : (n b : ℕ) (s : Symbol) (rest : List Symbol) → n + length (s ∷ rest) ≤ b → n + length rest ≤ b
  room_same n b s rest room = omega (arith, room)

  room_next : (n b : ℕ) (s : Symbol) (rest : List Symbol) → n + length (s ∷ rest) ≤ b → suc n + length rest ≤ b
  room_next n b s rest room = omega (arith, room)

  start_room : (n b : ℕ) (rest : List Symbol) → n + length rest ≤ b → n ≤ b
  start_room n b rest room = omega (arith, room)

  -- a value: a constant, or a new name on a left side
  value_at : (k n b : ℕ) (rest : List Symbol) (m : Reader) → State n m → calm rest ≡ true → is_source rest ≡ false → nat_lt n b ≡ true → ((at : ℕ) (u : Reader) → State (suc n) u → Begun at b (on rest u)) → Begun k b (on (symbols.Value ∷ rest) m)
  value_at k n b rest m s still inside room more = by m.value.side refl
    where
      id : NameId
      id = record { 0 = n }

      zero_bit : Token
      zero_bit = tokens.Constant 1 0

      constant : (side : Side) → m.value.side ≡ side → Steps.constant_on side 1 0 m.value ≡ Goes (Steps.value_with (constant_bits 1 0) m.value) → Begun k b (on (symbols.Value ∷ rest) m)
      constant side is goes =
          let u : Reader = with_value (on rest m) (Steps.value_with (constant_bits 1 0) m.value) in
          let kept : State (suc n) u = record { names = good_more n m.draft.scope s.names; modules = below_more n m.taken s.modules; left = s.left; range = s.range; subject = s.subject } in
          first k b zero_bit (on (symbols.Value ∷ rest) m) u (ap (λ side. valued (on rest m) (Steps.constant_on side 1 0 m.value)) is ∙ ap (valued (on rest m)) goes) refl refl (more (after k zero_bit) u kept).led

      by : (side : Side) → m.value.side ≡ side → Begun k b (on (symbols.Value ∷ rest) m)
      by sides.Right is = constant sides.Right is refl
      by sides.Connection is = constant sides.Connection is refl
      by sides.Left is =
          let t = tokens.Name id in
          let m1 : Reader = on (symbols.Tail ∷ rest) m in
          let es = put m.draft.scope id (wire None k) in
          let u : Reader = with_subject id (with_scope m1 es) in
          let names : Good (suc n) es = put_good (suc n) n (wire None k) m.draft.scope (under_next n) refl (good_more n m.draft.scope s.names) in
          let whole : Reader = with_value u (Steps.value_whole u.value) in
          let kept : State (suc n) whole = record { names = names; modules = below_more n m.taken s.modules; left = s.left; range = s.range; subject = range_small (suc n) es id names } in
          let used : use_by m.value.side k m.draft.scope id (found m.draft.scope id) ≡ Goes es = ap (λ side. use_by side k m.draft.scope id (found m.draft.scope id)) is ∙ ap (use_by sides.Left k m.draft.scope id) (none_there n m.draft.scope s.names.1) in
          first k b t (on (symbols.Value ∷ rest) m) u (ap (λ v. and_then (scoped m1 v) (λ x. Goes (with_subject id x))) used) room refl
          (tail (after k t) b rest u still inside (more (after k t) whole kept)).led

  abbrev Same : Reader → Reader → Type 0
  Same u m = (u.draft.scope ≡ m.draft.scope) × (u.taken ≡ m.taken) × (u.declaring ≡ m.declaring) × (u.value.range ≡ m.value.range)

  -- the left bound is an index in the range
  index_at : (k b : ℕ) (rest : List Symbol) (m : Reader) (o : Option BitRange) → m.value.range ≡ o → is_some m.value.range ≡ true → small m.value.range ≡ true → ((at : ℕ) (u : Reader) (v : Value) → Same u m → range_has u.value.range u.value.index ≡ true → Begun at b (on rest u)) → Begun k b (on (symbols.Index ∷ rest) m)
  index_at k b rest m None is some narrow more = absurd (true≢false (sym some ∙ ap is_some is))
  index_at k b rest m (Some r) is some narrow more =
      let t = tokens.Number (Some r.left) in
      let bound = and_parts (is_small r.left) (is_small r.right) (subst (λ o. small o ≡ true) is narrow) in
      let v : Value = record m.value { index = r.left } in
      let u : Reader = with_value (on rest m) v in
      let inside : range_has u.value.range u.value.index ≡ true = ap (λ o. range_has o r.left) is ∙ left_in r in
      let goes : step t k (on (symbols.Index ∷ rest) m) ≡ Goes u = ap (λ o. valued (on rest m) (Steps.value_index_by r.left m.value o)) is ∙ ap (λ c. valued (on rest m) (if c then Goes v else Stops offs.Syntax)) (left_in r) in
      first k b t (on (symbols.Index ∷ rest) m) u goes bound.0 refl (more (after k t) u v (refl, refl, refl, refl) inside).led

  -- the first index may be the second one
  second_at : (k b : ℕ) (rest : List Symbol) (m : Reader) (o : Option BitRange) → m.value.range ≡ o → range_has m.value.range m.value.index ≡ true → small m.value.range ≡ true → ((at : ℕ) (u : Reader) → Same u m → Begun at b (on rest u)) → Begun k b (on (symbols.SecondIndex ∷ rest) m)
  second_at k b rest m None is ready narrow more = absurd (true≢false (sym ready ∙ ap (λ o. range_has o m.value.index) is))
  second_at k b rest m (Some r) is ready narrow more =
      let i = m.value.index in
      let t = tokens.Number (Some i) in
      let inside : is_in r i ≡ true = ap (λ o. range_has o i) (sym is) ∙ ready in
      let v : Value = Steps.value_with (select m.value.subject i i) m.value in
      let u : Reader = with_value (on rest m) v in
      let goes : step t k (on (symbols.SecondIndex ∷ rest) m) ≡ Goes u = ap (λ o. valued (on rest m) (Steps.value_many_by i m.value o)) is ∙ ap (λ c. valued (on rest m) (if c then Goes v else Stops offs.Syntax)) (and_from (is_in r i) (goes_along r i i) inside (along_same r i)) in
      first k b t (on (symbols.SecondIndex ∷ rest) m) u goes (in_small r i inside (subst (λ o. small o ≡ true) is narrow)) refl (more (after k t) u (refl, refl, refl, refl)).led

  -- the name of a declaration whose range may still come: a port whose range is settled is given that
  name_at : (top : Symbol) (k n b : ℕ) (rest : List Symbol) (m : Reader)
      → bracketed (top ∷ rest) ≡ true
      → ((at : ℕ) (id : NameId) → step (tokens.Name id) at (on (top ∷ rest) m) ≡ scoped (on rest m) (declare m.declaring at m.draft.scope id))
      → ((at : ℕ) → step (tokens.Mark marks.OpenBracket) at (on (top ∷ rest) m) ≡ Goes (on (symbols.LeftBound ∷ symbols.Expect marks.Colon ∷ symbols.RightBound ∷ symbols.Expect marks.CloseBracket ∷ symbols.DeclaredName ∷ rest) m))
      → State n m → (is_ports m.declaring.form ≡ true → list_any (λ e. can_take m.declaring (symbols.Declared ∷ rest) e.1) m.draft.scope ≡ true)
      → suc n ≤ b → ((at : ℕ) (u : Reader) → State (suc n) u → Begun at b (on rest u)) → Begun k b (on (top ∷ rest) m)
  name_at top k n b rest m wide name bracket s d room more = record { led = by (is_ports m.declaring.form) refl; begins = λ e. absurd (true≢false (sym wide ∙ e)) }
    where
      es : Entries
      es = m.draft.scope

      can : Entry → Bool
      can e = can_take m.declaring (symbols.Declared ∷ rest) e

      plainly : (is_ports m.declaring.form ≡ true → list_any (λ e. takes_now m.declaring e.1) es ≡ true) → Led k b (on (top ∷ rest) m)
      plainly takes =
          let named = declares m.declaring k n es s.names s.range takes in
          let t = tokens.Name named.id in
          let u : Reader = with_scope (on rest m) named.entries in
          let kept : State (suc n) u = record { names = named.good; modules = below_more n m.taken s.modules; left = s.left; range = s.range; subject = s.subject } in
          one k b t (on (top ∷ rest) m) u (name k named.id ∙ ap (scoped (on rest m)) named.goes) (lt_room named.id.0 (suc n) b named.under room) (more (after k t) u kept).led

      ranged : (key : ℕ) (e : Entry) → lookup (nat_eq key) es ≡ Some e → lacks_direction e ≡ true → small e.range ≡ true → (r : BitRange) → e.range ≡ Some r → Led k b (on (top ∷ rest) m)
      ranged key e there lacks narrow r is =
          let small_r : small (Some r) ≡ true = subst (λ o. small o ≡ true) is narrow in
          let bound = and_parts (is_small r.left) (is_small r.right) small_r in
          let d1 : Declaring = record m.declaring { left = r.left } in
          let d2 : Declaring = record d1 { range = Some r } in
          let below_name : List Symbol = symbols.DeclaredName ∷ rest in
          let m1 : Reader = on (symbols.LeftBound ∷ symbols.Expect marks.Colon ∷ symbols.RightBound ∷ symbols.Expect marks.CloseBracket ∷ below_name) m in
          let m2 : Reader = record (on (symbols.Expect marks.Colon ∷ symbols.RightBound ∷ symbols.Expect marks.CloseBracket ∷ below_name) m) { declaring = d1 } in
          let m3 : Reader = record (on (symbols.RightBound ∷ symbols.Expect marks.CloseBracket ∷ below_name) m) { declaring = d1 } in
          let m4 : Reader = record (on (symbols.Expect marks.CloseBracket ∷ below_name) m) { declaring = d2 } in
          let m5 : Reader = record (on below_name m) { declaring = d2 } in
          let open_ = tokens.Mark marks.OpenBracket in
          let left = tokens.Number (Some r.left) in
          let colon = tokens.Mark marks.Colon in
          let right = tokens.Number (Some r.right) in
          let close = tokens.Mark marks.CloseBracket in
          let k1 = after k open_ in
          let k2 = after k1 left in
          let k3 = after k2 colon in
          let k4 = after k3 right in
          let k5 = after k4 close in
          let fits : agrees d2 e ≡ true = right_true (not e.fixed) (same_range e.range (Some r)) (ap (λ o. same_range o (Some r)) is ∙ range_same (Some r)) in
          let named = declares d2 k5 n es s.names small_r (λ ports. there_any (takes_now d2) key es e there (and_from (lacks_direction e) (agrees d2 e) lacks fits)) in
          let t = tokens.Name named.id in
          let u : Reader = with_scope (record (on rest m) { declaring = d2 }) named.entries in
          let kept : State (suc n) u = record { names = named.good; modules = below_more n m.taken s.modules; left = bound.0; range = small_r; subject = s.subject } in
          one k b open_ (on (top ∷ rest) m) m1 (bracket k) refl
          (one k1 b left m1 m2 refl bound.0
          (one k2 b colon m2 m3 refl refl
          (one k3 b right m3 m4 refl bound.1
          (one k4 b close m4 m5 refl refl
          (one k5 b t m5 u (ap (scoped (record (on rest m) { declaring = d2 })) named.goes) (lt_room named.id.0 (suc n) b named.under room) (more (after k5 t) u kept).led)))))

      with_range : (key : ℕ) (e : Entry) → lookup (nat_eq key) es ≡ Some e → lacks_direction e ≡ true → small e.range ≡ true → (o : Option BitRange) → e.range ≡ o → is_some e.range ≡ true → Led k b (on (top ∷ rest) m)
      with_range key e there lacks narrow None is some = absurd (true≢false (sym some ∙ ap is_some is))
      with_range key e there lacks narrow (Some r) is some = ranged key e there lacks narrow r is

      chosen : (key : ℕ) (e : Entry) → lookup (nat_eq key) es ≡ Some e → lacks_direction e ≡ true → small e.range ≡ true → (a : Bool) → agrees m.declaring e ≡ a → (agrees m.declaring e || is_some e.range) ≡ true → Led k b (on (top ∷ rest) m)
      chosen key e there lacks narrow true fits h = plainly (λ ports. there_any (takes_now m.declaring) key es e there (and_from (lacks_direction e) (agrees m.declaring e) lacks fits))
      chosen key e there lacks narrow false fits h = with_range key e there lacks narrow e.range refl (sym (ap (λ x. x || is_some e.range) fits) ∙ h)

      by : (a : Bool) → is_ports m.declaring.form ≡ a → Led k b (on (top ∷ rest) m)
      by false is = plainly (λ ports. absurd (true≢false (sym ports ∙ is)))
      by true is =
          let f = some_found can n es s.names (d is) in
          let parts = and_parts (lacks_direction f.entry) (agrees m.declaring f.entry || is_some f.entry.range) f.passes in
          chosen f.key f.entry f.there parts.0 f.narrow (agrees m.declaring f.entry) refl parts.1

  -- tokens lead from each state that is sound to the end of a text
  finish : (w : List Symbol) (k n b : ℕ) (m : Reader) → Ok w → State n m → Ready w m.value → Directed m.declaring w m.draft.scope → n + length w ≤ b → Begun k b (on w m)
  finish [] k n b m h s r d room = absurd h
  finish (symbols.Source ∷ rest) k n b m h s r d room = record { led = record { rest = []; last = on (symbols.Source ∷ rest) m; goes = refl; accepted = refl; spelled = refl }; begins = λ wide. refl }
  finish (symbols.ModuleName ∷ rest) k n b m h s r d room =
      let id : NameId = record { 0 = n } in
      let t = tokens.Name id in
      let u : Reader = record (on rest m) { taken = insert_key nat_eq m.taken n; draft = Steps.module_named id } in
      let kept : State (suc n) u = record { names = (refl, refl); modules = below_insert (suc n) n m.taken (under_next n) (below_more n m.taken s.modules); left = s.left; range = s.range; subject = s.subject } in
      first k b t (on (symbols.ModuleName ∷ rest) m) u (rw (none_taken n m.taken s.modules) refl) (lt_start n b symbols.ModuleName rest room) refl
      (finish rest (after k t) (suc n) b u h.3 kept (calm_ready rest u.value h.1) (directed_plain u.declaring rest u.draft.scope h.0) (room_next n b symbols.ModuleName rest room)).led
  finish (symbols.Header ∷ rest) k n b m h s r d room =
      let t = tokens.Mark marks.Semicolon in
      let u : Reader = on rest m in
      let kept : State n u = record { names = s.names; modules = s.modules; left = s.left; range = s.range; subject = s.subject } in
      first k b t (on (symbols.Header ∷ rest) m) u refl refl refl
      (finish rest (after k t) n b u h.3 kept (calm_ready rest u.value h.1) (directed_plain u.declaring rest u.draft.scope h.0) (room_same n b symbols.Header rest room)).led
  finish (symbols.Ports ∷ rest) k n b m h s r d room =
      let t = tokens.Mark marks.Close in
      let u : Reader = on rest m in
      let kept : State n u = record { names = s.names; modules = s.modules; left = s.left; range = s.range; subject = s.subject } in
      first k b t (on (symbols.Ports ∷ rest) m) u refl refl refl
      (finish rest (after k t) n b u h.3 kept (calm_ready rest u.value h.1) (directed_plain u.declaring rest u.draft.scope h.0) (room_same n b symbols.Ports rest room)).led
  finish (symbols.PortsMore ∷ rest) k n b m h s r d room =
      let t = tokens.Mark marks.Close in
      let u : Reader = on rest m in
      let kept : State n u = record { names = s.names; modules = s.modules; left = s.left; range = s.range; subject = s.subject } in
      first k b t (on (symbols.PortsMore ∷ rest) m) u refl refl refl
      (finish rest (after k t) n b u h.3 kept (calm_ready rest u.value h.1) (directed_plain u.declaring rest u.draft.scope h.0) (room_same n b symbols.PortsMore rest room)).led
  finish (symbols.PortName ∷ rest) k n b m h s r d room =
      let id : NameId = record { 0 = n } in
      let t = tokens.Name id in
      let u : Reader = with_scope (on rest m) (put m.draft.scope id (listed k)) in
      let kept : State (suc n) u = record { names = put_good (suc n) n (listed k) m.draft.scope (under_next n) refl (good_more n m.draft.scope s.names); modules = below_more n m.taken s.modules; left = s.left; range = s.range; subject = s.subject } in
      first k b t (on (symbols.PortName ∷ rest) m) u (ap (λ o. scoped (on rest m) (add_new m.draft.scope id (listed k) o)) (none_there n m.draft.scope s.names.1)) (lt_start n b symbols.PortName rest room) refl
      (finish rest (after k t) (suc n) b u h.3 kept (calm_ready rest u.value h.1) (directed_plain u.declaring rest u.draft.scope h.0) (room_next n b symbols.PortName rest room)).led
  finish (symbols.HeaderMore ∷ rest) k n b m h s r d room =
      let t = tokens.Mark marks.Close in
      let u : Reader = on rest m in
      let kept : State n u = record { names = s.names; modules = s.modules; left = s.left; range = s.range; subject = s.subject } in
      first k b t (on (symbols.HeaderMore ∷ rest) m) u refl refl refl
      (finish rest (after k t) n b u h.3 kept (calm_ready rest u.value h.1) (directed_plain u.declaring rest u.draft.scope h.0) (room_same n b symbols.HeaderMore rest room)).led
  finish (symbols.HeaderPort ∷ rest) k n b m h s r d room =
      let id : NameId = record { 0 = n } in
      let given : Declaring = record { form = forms.Header; direction = directions.Input; range = None; left = 0 } in
      let input = tokens.Keyword keywords.Input in
      let k2 = after k input in
      let mid : Reader = record (on (symbols.Declared ∷ rest) m) { declaring = given } in
      let t = tokens.Name id in
      let u : Reader = with_scope (on rest mid) (put m.draft.scope id (headed given k2)) in
      let kept : State (suc n) u = record { names = put_good (suc n) n (headed given k2) m.draft.scope (under_next n) refl (good_more n m.draft.scope s.names); modules = below_more n m.taken s.modules; left = refl; range = refl; subject = s.subject } in
      first k b input (on (symbols.HeaderPort ∷ rest) m) mid refl refl refl
      (one k2 b t mid u (ap (λ o. scoped (on rest mid) (add_new m.draft.scope id (headed given k2) o)) (none_there n m.draft.scope s.names.1)) (lt_start n b symbols.HeaderPort rest room)
      (finish rest (after k2 t) (suc n) b u h.3 kept (calm_ready rest u.value h.1) (directed_plain u.declaring rest u.draft.scope h.0) (room_next n b symbols.HeaderPort rest room)).led)
  finish (symbols.Expect mark ∷ rest) k n b m h s r d room =
      let t = tokens.Mark mark in
      let before : Reader = on (symbols.Expect mark ∷ rest) m in
      let goes : step t k before ≡ Goes (on rest m) =
      ap (take_token t k) (settled_calm before (is_bracket t) (symbols.Expect mark ∷ rest) refl)
      ∙ ap (λ c. produced (symbols.Expect mark) rest t k before (on_expected c)) (same_mark mark) in
      first k b t before (on rest m) goes refl h.0
      (finish rest (after k t) n b m h.3 s (calm_ready rest m.value h.1) d (room_same n b (symbols.Expect mark) rest room)).led
  finish (symbols.Declared ∷ rest) k n b m h s r d room =
      name_at symbols.Declared k n b rest m refl (λ at id. refl) (λ at. refl) s (λ ports. d ports refl) (start_room (suc n) b rest (room_next n b symbols.Declared rest room))
      (λ at u kept. finish rest at (suc n) b u h.3 kept (calm_ready rest u.value h.1) (directed_plain u.declaring rest u.draft.scope h.0) (room_next n b symbols.Declared rest room))
  finish (symbols.Vector ∷ rest) k n b m h s r d room =
      name_at symbols.Vector k n b rest m refl (λ at id. refl) (λ at. refl) s (λ ports. d ports refl) (start_room (suc n) b rest (room_next n b symbols.Vector rest room))
      (λ at u kept. finish rest at (suc n) b u h.3 kept (calm_ready rest u.value h.1) (directed_plain u.declaring rest u.draft.scope h.0) (room_next n b symbols.Vector rest room))
  finish (symbols.DeclaredName ∷ rest) k n b m h s r d room =
      let named = declares m.declaring k n m.draft.scope s.names s.range (λ ports. d ports refl) in
      let t = tokens.Name named.id in
      let u : Reader = with_scope (on rest m) named.entries in
      let kept : State (suc n) u = record { names = named.good; modules = below_more n m.taken s.modules; left = s.left; range = s.range; subject = s.subject } in
      first k b t (on (symbols.DeclaredName ∷ rest) m) u (ap (scoped (on rest m)) named.goes) (lt_room named.id.0 (suc n) b named.under (start_room (suc n) b rest (room_next n b symbols.DeclaredName rest room))) refl
      (finish rest (after k t) (suc n) b u h.3 kept (calm_ready rest u.value h.1) (directed_plain u.declaring rest u.draft.scope h.0) (room_next n b symbols.DeclaredName rest room)).led
  finish (symbols.LeftBound ∷ rest) k n b m h s r d room =
      let bound = left_bound_for m.declaring n m.draft.scope rest s.names h.0 d in
      let t = tokens.Number (Some bound.0) in
      let u : Reader = record (on rest m) { declaring = record m.declaring { left = bound.0 } } in
      let kept : State n u = record { names = s.names; modules = s.modules; left = bound.1; range = s.range; subject = s.subject } in
      first k b t (on (symbols.LeftBound ∷ rest) m) u refl bound.1 refl
      (finish rest (after k t) n b u h.3 kept (calm_ready rest u.value h.1) bound.2 (room_same n b symbols.LeftBound rest room)).led
  finish (symbols.RightBound ∷ rest) k n b m h s r d room =
      let bound = right_bound_for m.declaring n m.draft.scope rest s.names d in
      let t = tokens.Number (Some bound.0) in
      let u : Reader = record (on rest m) { declaring = record m.declaring { range = Some (record { left = m.declaring.left; right = bound.0 }) } } in
      let kept : State n u = record { names = s.names; modules = s.modules; left = s.left; range = and_from (is_small m.declaring.left) (is_small bound.0) s.left bound.1; subject = s.subject } in
      first k b t (on (symbols.RightBound ∷ rest) m) u refl bound.1 refl
      (finish rest (after k t) n b u h.3 kept (calm_ready rest u.value h.1) bound.2 (room_same n b symbols.RightBound rest room)).led
  finish (symbols.Items ∷ rest) k n b m h s r d room =
      items (lacking_count m.draft.scope) k n b rest m refl s (start_room n b rest (room_same n b symbols.Items rest room))
      (λ at u kept. finish rest at n b u h.2 kept (calm_ready rest u.value h.1) (directed_plain u.declaring rest u.draft.scope h.0) (room_same n b symbols.Items rest room))
  finish (symbols.DeclaredMore ∷ rest) k n b m h s r d room =
      let t = tokens.Mark marks.Semicolon in
      let u : Reader = on rest m in
      let kept : State n u = record { names = s.names; modules = s.modules; left = s.left; range = s.range; subject = s.subject } in
      first k b t (on (symbols.DeclaredMore ∷ rest) m) u refl refl refl
      (finish rest (after k t) n b u h.3 kept (calm_ready rest u.value h.1) (directed_plain u.declaring rest u.draft.scope h.0) (room_same n b symbols.DeclaredMore rest room)).led
  finish (symbols.InstanceName ∷ rest) k n b m h s r d room =
      let id : NameId = record { 0 = n } in
      let t = tokens.Name id in
      let open_ = tokens.Mark marks.Open in
      let close = tokens.Mark marks.Close in
      let k2 = after k t in
      let k3 = after k2 open_ in
      let m1 : Reader = on (symbols.Expect marks.Open ∷ symbols.Connections ∷ rest) m in
      let m2 : Reader = begun_instance id (with_scope m1 (put m.draft.scope id (instance_entry k))) in
      let m3 : Reader = on (symbols.Connections ∷ rest) m2 in
      let u : Reader = end_instance (on rest m2) in
      let kept : State (suc n) u = record { names = put_good (suc n) n (instance_entry k) m.draft.scope (under_next n) refl (good_more n m.draft.scope s.names); modules = below_more n m.taken s.modules; left = s.left; range = s.range; subject = s.subject } in
      first k b t (on (symbols.InstanceName ∷ rest) m) m2 (ap (λ o. and_then (scoped m1 (add_new m.draft.scope id (instance_entry k) o)) (λ x. Goes (begun_instance id x))) (none_there n m.draft.scope s.names.1)) (lt_start n b symbols.InstanceName rest room) refl
      (one k2 b open_ m2 m3 refl refl
      (one k3 b close m3 u refl refl
      (finish rest (after k3 close) (suc n) b u h.3 kept (calm_ready rest u.value h.1) (directed_plain u.declaring rest u.draft.scope h.0) (room_next n b symbols.InstanceName rest room)).led))
  finish (symbols.InstanceMore ∷ rest) k n b m h s r d room =
      let t = tokens.Mark marks.Semicolon in
      let u : Reader = on rest m in
      let kept : State n u = record { names = s.names; modules = s.modules; left = s.left; range = s.range; subject = s.subject } in
      first k b t (on (symbols.InstanceMore ∷ rest) m) u refl refl refl
      (finish rest (after k t) n b u h.3 kept (calm_ready rest u.value h.1) (directed_plain u.declaring rest u.draft.scope h.0) (room_same n b symbols.InstanceMore rest room)).led
  finish (symbols.Connections ∷ rest) k n b m h s r d room =
      let t = tokens.Mark marks.Close in
      let u : Reader = end_instance (on rest m) in
      let kept : State n u = record { names = s.names; modules = s.modules; left = s.left; range = s.range; subject = s.subject } in
      first k b t (on (symbols.Connections ∷ rest) m) u refl refl refl
      (finish rest (after k t) n b u h.3 kept (calm_ready rest u.value h.1) (directed_plain u.declaring rest u.draft.scope h.0) (room_same n b symbols.Connections rest room)).led
  finish (symbols.NamedMore ∷ rest) k n b m h s r d room =
      let t = tokens.Mark marks.Close in
      let u : Reader = end_instance (on rest m) in
      let kept : State n u = record { names = s.names; modules = s.modules; left = s.left; range = s.range; subject = s.subject } in
      first k b t (on (symbols.NamedMore ∷ rest) m) u refl refl refl
      (finish rest (after k t) n b u h.3 kept (calm_ready rest u.value h.1) (directed_plain u.declaring rest u.draft.scope h.0) (room_same n b symbols.NamedMore rest room)).led
  finish (symbols.ConnectionName ∷ rest) k n b m h s r d room =
      let id : NameId = record { 0 = n } in
      let t = tokens.Name id in
      let open_ = tokens.Mark marks.Open in
      let close = tokens.Mark marks.Close in
      let k2 = after k t in
      let k3 = after k2 open_ in
      let m2 : Reader = record (on (symbols.Expect marks.Open ∷ symbols.NamedValue ∷ rest) m) { joint = Steps.joint_port id m.joint } in
      let m3 : Reader = on (symbols.NamedValue ∷ rest) m2 in
      let u : Reader = end_named (on rest m2) in
      let kept : State n u = record { names = s.names; modules = s.modules; left = s.left; range = s.range; subject = s.subject } in
      first k b t (on (symbols.ConnectionName ∷ rest) m) m2 refl (lt_start n b symbols.ConnectionName rest room) refl
      (one k2 b open_ m2 m3 refl refl
      (one k3 b close m3 u refl refl
      (finish rest (after k3 close) n b u h.3 kept (calm_ready rest u.value h.1) (directed_plain u.declaring rest u.draft.scope h.0) (room_same n b symbols.ConnectionName rest room)).led))
  finish (symbols.NamedValue ∷ rest) k n b m h s r d room =
      let t = tokens.Mark marks.Close in
      let u : Reader = end_named (on rest m) in
      let kept : State n u = record { names = s.names; modules = s.modules; left = s.left; range = s.range; subject = s.subject } in
      first k b t (on (symbols.NamedValue ∷ rest) m) u refl refl refl
      (finish rest (after k t) n b u h.3 kept (calm_ready rest u.value h.1) (directed_plain u.declaring rest u.draft.scope h.0) (room_same n b symbols.NamedValue rest room)).led
  finish (symbols.NamedEnd ∷ rest) k n b m h s r d room =
      let t = tokens.Mark marks.Close in
      let u : Reader = end_named (on rest m) in
      let kept : State n u = record { names = s.names; modules = s.modules; left = s.left; range = s.range; subject = s.subject } in
      first k b t (on (symbols.NamedEnd ∷ rest) m) u refl refl refl
      (finish rest (after k t) n b u h.3 kept (calm_ready rest u.value h.1) (directed_plain u.declaring rest u.draft.scope h.0) (room_same n b symbols.NamedEnd rest room)).led
  finish (symbols.OrderedMore ∷ rest) k n b m h s r d room =
      let t = tokens.Mark marks.Close in
      let u : Reader = end_instance (end_ordered (on rest m)) in
      let kept : State n u = record { names = s.names; modules = s.modules; left = s.left; range = s.range; subject = s.subject } in
      first k b t (on (symbols.OrderedMore ∷ rest) m) u refl refl refl
      (finish rest (after k t) n b u h.3 kept (calm_ready rest u.value h.1) (directed_plain u.declaring rest u.draft.scope h.0) (room_same n b symbols.OrderedMore rest room)).led
  finish (symbols.Value ∷ rest) k n b m h s r d room =
      value_at k n b rest m s h.1 h.2 (lt_start n b symbols.Value rest room)
      (λ at u kept. finish rest at (suc n) b u h.3 kept (calm_ready rest u.value h.1) (directed_plain u.declaring rest u.draft.scope h.0) (room_next n b symbols.Value rest room))
  finish (symbols.Tail ∷ rest) k n b m h s r d room =
      let u : Reader = with_value m (Steps.value_whole m.value) in
      let kept : State n u = record { names = s.names; modules = s.modules; left = s.left; range = s.range; subject = s.subject } in
      tail k b rest m h.1 h.2 (finish rest k n b u h.3 kept (calm_ready rest u.value h.1) (directed_plain u.declaring rest u.draft.scope h.0) (room_same n b symbols.Tail rest room))
  finish (symbols.ConcatMore ∷ rest) k n b m h s r d room =
      let t = tokens.Mark marks.CloseBrace in
      let u : Reader = on rest m in
      let kept : State n u = record { names = s.names; modules = s.modules; left = s.left; range = s.range; subject = s.subject } in
      first k b t (on (symbols.ConcatMore ∷ rest) m) u refl refl refl
      (finish rest (after k t) n b u h.3 kept (calm_ready rest u.value h.1) (directed_plain u.declaring rest u.draft.scope h.0) (room_same n b symbols.ConcatMore rest room)).led
  finish (symbols.Index ∷ rest) k n b m h s r d room =
      index_at k b rest m m.value.range refl r s.subject
      (λ at u v is in_range. finish rest at n b u h.2 (record { names = subst (Good n) (sym is.0) s.names; modules = subst (λ x. below n x ≡ true) (sym is.1) s.modules; left = subst (λ x. is_small x.left ≡ true) (sym is.2) s.left; range = subst (λ x. small x.range ≡ true) (sym is.2) s.range; subject = subst (λ x. small x ≡ true) (sym is.3) s.subject }) (index_ready rest u.value in_range) (directed_plain u.declaring rest u.draft.scope h.0) (room_same n b symbols.Index rest room))
  finish (symbols.IndexMore ∷ rest) k n b m h s r d room =
      let t = tokens.Mark marks.CloseBracket in
      let u : Reader = with_value (on rest m) (Steps.value_one m.value) in
      let kept : State n u = record { names = s.names; modules = s.modules; left = s.left; range = s.range; subject = s.subject } in
      first k b t (on (symbols.IndexMore ∷ rest) m) u refl refl refl
      (finish rest (after k t) n b u h.3 kept (calm_ready rest u.value h.1) (directed_plain u.declaring rest u.draft.scope h.0) (room_same n b symbols.IndexMore rest room)).led
  finish (symbols.SecondIndex ∷ rest) k n b m h s r d room =
      second_at k b rest m m.value.range refl r s.subject
      (λ at u is. finish rest at n b u h.3 (record { names = subst (Good n) (sym is.0) s.names; modules = subst (λ x. below n x ≡ true) (sym is.1) s.modules; left = subst (λ x. is_small x.left ≡ true) (sym is.2) s.left; range = subst (λ x. small x.range ≡ true) (sym is.2) s.range; subject = subst (λ x. small x ≡ true) (sym is.3) s.subject }) (calm_ready rest u.value h.1) (directed_plain u.declaring rest u.draft.scope h.0) (room_same n b symbols.SecondIndex rest room))
  finish (symbols.AssignSign ∷ rest) k n b m h s r d room =
      let t = tokens.Mark marks.Equals in
      let u : Reader = end_left (on rest m) in
      let kept : State n u = record { names = s.names; modules = s.modules; left = s.left; range = s.range; subject = s.subject } in
      first k b t (on (symbols.AssignSign ∷ rest) m) u refl refl refl
      (finish rest (after k t) n b u h.3 kept (calm_ready rest u.value h.1) (directed_plain u.declaring rest u.draft.scope h.0) (room_same n b symbols.AssignSign rest room)).led
  finish (symbols.AssignMore ∷ rest) k n b m h s r d room =
      let t = tokens.Mark marks.Semicolon in
      let u : Reader = end_assign (on rest m) in
      let kept : State n u = record { names = s.names; modules = s.modules; left = s.left; range = s.range; subject = s.subject } in
      first k b t (on (symbols.AssignMore ∷ rest) m) u refl refl refl
      (finish rest (after k t) n b u h.3 kept (calm_ready rest u.value h.1) (directed_plain u.declaring rest u.draft.scope h.0) (room_same n b symbols.AssignMore rest room)).led

  -- tokens lead from each state that is sound, and where a direction is being given some port can take it, to the end of a text
  pub goes_on : (k n b : ℕ) (m : Reader) → Sound n m → Directed m.declaring m.waiting m.draft.scope → n + length m.waiting ≤ b → Led k b m
  goes_on k n b m s d room = (finish m.waiting k n b m s.waits s.state s.ready d room).led
