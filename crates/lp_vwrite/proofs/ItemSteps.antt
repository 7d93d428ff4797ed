-- Steps over the items of a module: declarations, instances and assigns.
use Rattle.std.proofs.Common.{◌≡◌, ℕ, ◌≤◌, Bool, true, false, List, [], ◌∷◌, ◌++◌, map, Option, None, Some, refl, sym, ap, ◌∙◌, subst, append_assoc, arith}
use Rattle.std.specs.Prelude.{codes, decimal, nat_le}
use Rattle.std.specs.List.{list_all}
use Rattle.std.proofs.lemmas.Bool.{and_parts}
use Rattle.std.proofs.lemmas.Bool.Decides.{nat_tests}
use Rattle.lp_text.specs.Texts.{has_text}
use Rattle.lp_text.specs.declared.names.NameId.{NameId}
use Rattle.lp_model.specs.declared.netlist.BitRange.{BitRange}
use Rattle.lp_model.specs.declared.netlist.Direction.{Direction}
use Rattle.lp_model.specs.declared.netlist.Direction.TheVariants as directions
use Rattle.lp_model.specs.declared.netlist.Connection.{Connection}
use Rattle.lp_model.specs.declared.netlist.Connections.{Connections}
use Rattle.lp_model.specs.declared.netlist.Connections.TheVariants as lists
use Rattle.lp_model.specs.declared.netlist.Instance.{Instance}
use Rattle.lp_model.specs.declared.netlist.Assign.{Assign}
use Rattle.lp_model.specs.declared.netlist.Module.{Module}
use Rattle.lp_model.specs.NetlistView.{PortView, NetView, BitView, ConnectionView, ConnectionsView, ByName, ByPosition, InstanceView, AssignView}
use Rattle.lp_verilog_grammar.specs.declared.reader.Reader.{Reader}
use Rattle.lp_verilog_draft.specs.declared.scope.Entry.{Entry}
use Rattle.lp_verilog_draft.specs.declared.scope.Kind.TheVariants as kinds
use Rattle.lp_verilog_draft.specs.declared.declaring.Form.{Form}
use Rattle.lp_verilog_draft.specs.declared.declaring.Form.TheVariants as forms
use Rattle.lp_verilog_draft.specs.declared.declaring.Declaring.{Declaring}
use Rattle.lp_verilog_grammar.specs.declared.symbol.Symbol.{Symbol}
use Rattle.lp_verilog_grammar.specs.declared.symbol.Symbol.TheVariants as symbols
use Rattle.lp_verilog_tokens.specs.declared.token.Token.TheVariants as tokens
use Rattle.lp_verilog_tokens.specs.declared.token.Mark.TheVariants as marks
use Rattle.lp_verilog_draft.specs.declared.value.Side.{Side}
use Rattle.lp_verilog_draft.specs.declared.value.Side.TheVariants as sides
use Rattle.lp_verilog_draft.specs.Scopes.{Entries, found, put, add_new, give_direction, give_wire, wire}
use Rattle.lp_verilog_draft.specs.Scopes as scopes
use Rattle.lp_verilog_draft.specs.Verdicts.{Goes, and_then}
use Rattle.lp_verilog_grammar.specs.Machine.{scoped, with_scope, begin_instance, begun_instance, declare_name}
use Rattle.lp_verilog.specs.Reading.{Outcome}
use Rattle.lp_vwrite.specs.Layout.{name_text, range_text, port_line, net_line, value_text, connection_text, instance_line, assign_line, listed}
use Rattle.lp_vwrite.specs.WellFormed.{is_filled, is_range}
use Rattle.lp_vwrite.proofs.Tokens.{is_apart, is_starless}
use Rattle.lp_vwrite.proofs.Onward.{Then, Onward}
use Rattle.lp_vwrite.proofs.Parts.{id, name_onward, blank_onward, indent_onward, line_onward, open_onward, close_onward, semicolon_onward, colon_onward, equals_onward, open_bracket_onward, close_bracket_onward, number_onward, input_onward, output_onward, wire_onward, assign_onward}
use Rattle.lp_vwrite.proofs.Values.{bit_of, allows, Named, AllBits, value_onward, equals_settles, semicolon_settles}
use Rattle.lp_vwrite.proofs.Scope.{Declared, port_entry, listed_entry, wire_entry, instance_entry, names_in, plain, keyed, all_known, found_none, found_some, put_new, put_old, lookup_middle}
use Rattle.lp_vwrite.proofs.Instances.{AllConnections, connection_of, joined, connections_onward, apart_blank, apart_semicolon}

-- ---- what is read of views

abbrev pub connections_of : List (List ℕ) → ConnectionsView → Connections
connections_of names (ByName cs) = lists.Named (map (connection_of names) cs)
connections_of names (ByPosition values) = lists.Ordered (map (λ bs. map (bit_of names) bs) values)

abbrev pub instance_of : List (List ℕ) → InstanceView → Instance
instance_of names i = record { name = id names i.name; target = id names i.target; connections = connections_of names i.connections }

abbrev pub assign_of : List (List ℕ) → AssignView → Assign
assign_of names a = record { left = map (bit_of names) a.left; right = map (bit_of names) a.right }

-- ---- the steps that look at the scope

begin_new : (m : Reader) (at : ℕ) (n : NameId) → found m.draft.scope n ≡ None → begin_instance m at (tokens.Name n) ≡ Goes (begun_instance n (with_scope m (put m.draft.scope n (scopes.instance_entry at))))
begin_new m at n h = ap (λ r. and_then (scoped m (add_new m.draft.scope n (scopes.instance_entry at) r)) (λ x. Goes (begun_instance n x))) h

direct_listed : (d : Declaring) (es : Entries) (n : NameId) (a : ℕ) → found es n ≡ Some (record listed_entry { at = a }) → give_direction d es n (found es n) ≡ Goes (put es n (record { kind = kinds.Port; direction = Some d.direction; range = d.range; fixed = true; wired = false; at = a }))
direct_listed d es n a h = ap (give_direction d es n) h

wire_new : (d : Declaring) (at : ℕ) (es : Entries) (n : NameId) → found es n ≡ None → give_wire d at es n (found es n) ≡ Goes (put es n (wire d.range at))
wire_new d at es n h = ap (give_wire d at es n) h

range_bounds : (r : BitRange) → is_range (Some r) ≡ true → (r.left ≤ 4294967295) × (r.right ≤ 4294967295)
range_bounds r h =
    let parts = and_parts (nat_le r.left 4294967295) (nat_le r.right 4294967295) h in
    (bound r.left parts.0, bound r.right parts.1)
  where
    bound : (n : ℕ) → nat_le n 4294967295 ≡ true → n ≤ 4294967295
    bound n e = grind (arith, nat_tests)

-- what the last parenthesis of an instance stands for: more connections, or the first one
abbrev last : Bool → Symbol
last true = symbols.NamedMore
last false = symbols.Connections

-- `input` and `output` go on with `wire`, a range or a name, `wire` with a range or a name
abbrev opener : Bool → Symbol
opener true = symbols.Declared
opener false = symbols.Vector

module _ (names : List (List ℕ)) (size : ℕ) (o : Outcome) (ranges : List ℕ → Option BitRange) where
  abbrev On : List ℕ → Reader → Type 0
  On rest m = Onward names size o rest m

  -- ---- a range and a name

  abbrev declaring_in : Reader → List Symbol → Form → Direction → Option BitRange → ℕ → Reader
  declaring_in c w form d r l = record c { waiting = w; declaring = record { form = form; direction = d; range = r; left = l } }

  opened_name : (b : Bool) (n rest : List ℕ) (w : List Symbol) (c : Reader) (form : Form) (d : Direction) → Named names size o ranges n → is_apart rest ≡ true → ((at : ℕ) → Then (On rest) (declare_name (declaring_in c w form d None 0) at (tokens.Name (id names n)))) → On (name_text n ++ rest) (declaring_in c (opener b ∷ w) form d None 0)
  opened_name true n rest w c form d named apart next = name_onward names size o n rest _ named.0 named.1 apart next
  opened_name false n rest w c form d named apart next = name_onward names size o n rest _ named.0 named.1 apart next

  bracketed : (b : Bool) (rest : List ℕ) (w : List Symbol) (c : Reader) (form : Form) (d : Direction) → On rest (declaring_in c (symbols.LeftBound ∷ symbols.Expect marks.Colon ∷ symbols.RightBound ∷ symbols.Expect marks.CloseBracket ∷ symbols.DeclaredName ∷ w) form d None 0) → On (91 ∷ rest) (declaring_in c (opener b ∷ w) form d None 0)
  bracketed true rest w c form d next = open_bracket_onward names size o rest _ (λ at. next)
  bracketed false rest w c form d next = open_bracket_onward names size o rest _ (λ at. next)

  ranged_name : (b : Bool) (r : Option BitRange) (n rest : List ℕ) (w : List Symbol) (c : Reader) (form : Form) (d : Direction) → is_range r ≡ true → Named names size o ranges n → is_apart rest ≡ true → ((at l : ℕ) → Then (On rest) (declare_name (declaring_in c w form d r l) at (tokens.Name (id names n)))) → On (range_text r ++ (name_text n ++ rest)) (declaring_in c (opener b ∷ w) form d None 0)
  ranged_name b None n rest w c form d bounded named apart next = opened_name b n rest w c form d named apart (λ at. next at 0)
  ranged_name b (Some r) n rest w c form d bounded named apart next =
      let bounds = range_bounds r bounded in
      let behind = name_text n ++ rest in
      let text : (91 ∷ (decimal r.left ++ (58 ∷ (decimal r.right ++ (93 ∷ 32 ∷ []))))) ++ behind ≡ 91 ∷ (decimal r.left ++ (58 ∷ (decimal r.right ++ (93 ∷ 32 ∷ behind)))) =
      ap (λ t. 91 ∷ t) (append_assoc (decimal r.left) (58 ∷ (decimal r.right ++ (93 ∷ 32 ∷ []))) behind ∙ ap (λ t. decimal r.left ++ (58 ∷ t)) (append_assoc (decimal r.right) (93 ∷ 32 ∷ []) behind))
      in
      subst (λ t. On t (declaring_in c (opener b ∷ w) form d None 0)) (sym text)
      (bracketed b (decimal r.left ++ (58 ∷ (decimal r.right ++ (93 ∷ 32 ∷ behind)))) w c form d
      (number_onward names size o r.left (58 ∷ (decimal r.right ++ (93 ∷ 32 ∷ behind))) _ bounds.0 refl (λ at1.
      colon_onward names size o (decimal r.right ++ (93 ∷ 32 ∷ behind)) _ (λ at2.
      number_onward names size o r.right (93 ∷ 32 ∷ behind) _ bounds.1 refl (λ at3.
      close_bracket_onward names size o (32 ∷ behind) _ (λ at4.
      blank_onward names size o behind _ (name_onward names size o n rest (declaring_in c (symbols.DeclaredName ∷ w) form d (Some r) r.left) named.0 named.1 apart (λ at. next at r.left))))))))

  -- ---- items

  module _ (modules : List Module) (taken : List ℕ) (name : NameId) where
    -- the state between the items of a module
    abbrev pub at_items : Entries → List Instance → List Assign → Declaring → NameId → NameId → NameId → Bool → Side → NameId → Option BitRange → ℕ → Reader
    at_items scope insts assigns declaring t n p positional side s q i = record {
      waiting = symbols.Items ∷ symbols.Source ∷ [];
      modules = modules;
      taken = taken;
      draft = record { name = name; scope = scope; instances = insts; assigns = assigns };
      declaring = declaring;
      joint = record { target = t; name = n; port = p; positional = positional; named = []; ordered = [] };
      value = record { side = side; subject = s; range = q; index = i; bits = [] };
      left = [];
    }

    -- the way on from it, where these names are declared so
    abbrev pub Ready : List ℕ → Declared → List Instance → List Assign → Type 0
    Ready rest d insts assigns = (scope : Entries) → plain scope ≡ keyed names d → (declaring : Declaring) (t n p : NameId) (positional : Bool) (side : Side) (s : NameId) (q : Option BitRange) (i : ℕ) → On rest (at_items scope insts assigns declaring t n p positional side s q i)

    -- a port that the header lists gets its direction
    directed : (p : PortView) (rest : List ℕ) (done more : Declared) (insts : List Instance) (assigns : List Assign) → Named names size o ranges p.name → is_range p.range ≡ true → all_known names (names_in (done ++ (p.name, listed_entry) ∷ more)) ≡ true → all_known names (names_in done) ≡ true → has_text p.name (names_in done) ≡ false → Ready rest (done ++ (p.name, port_entry p) ∷ more) insts assigns
        → (scope : Entries) → plain scope ≡ keyed names (done ++ (p.name, listed_entry) ∷ more) → (declaring : Declaring) (t n q : NameId) (positional : Bool) (side : Side) (s : NameId) (r : Option BitRange) (i : ℕ)
        → On (range_text p.range ++ (name_text p.name ++ (59 ∷ 10 ∷ rest))) (declaring_in (at_items scope insts assigns declaring t n q positional side s r i) (symbols.Declared ∷ symbols.DeclaredMore ∷ symbols.Items ∷ symbols.Source ∷ []) forms.Ports p.direction None 0)
    directed p rest done more insts assigns named bounded known known_done absent next scope is declaring t n q positional side s r i =
        let c = at_items scope insts assigns declaring t n q positional side s r i in
        let w = symbols.DeclaredMore ∷ symbols.Items ∷ symbols.Source ∷ [] in
        let f = found_some names p.name scope (done ++ (p.name, listed_entry) ∷ more) listed_entry is named.1 known (lookup_middle p.name done more listed_entry absent) in
        ranged_name true p.range p.name (59 ∷ 10 ∷ rest) w c forms.Ports p.direction bounded named (apart_semicolon (10 ∷ rest)) (λ at l.
        let d : Declaring = record { form = forms.Ports; direction = p.direction; range = p.range; left = l } in
        let e : Entry = record { kind = kinds.Port; direction = Some p.direction; range = p.range; fixed = true; wired = false; at = f.0 } in
        let m = declaring_in c w forms.Ports p.direction p.range l in
        subst (λ v. Then (On (59 ∷ 10 ∷ rest)) (scoped m v)) (sym (direct_listed d scope (id names p.name) f.0 f.1))
        (semicolon_onward names size o (10 ∷ rest) _ (λ at2. line_onward names size o rest _ (next (put scope (id names p.name) e) (put_old names p.name scope done more listed_entry e is named.1 known_done absent) d t n q positional side s r i))))

    declared_text : (r : Option BitRange) (n rest : List ℕ) → (range_text r ++ (name_text n ++ codes ";\n")) ++ rest ≡ range_text r ++ (name_text n ++ (59 ∷ 10 ∷ rest))
    declared_text r n rest = append_assoc (range_text r) (name_text n ++ codes ";\n") rest ∙ ap (λ t. range_text r ++ t) (append_assoc (name_text n) (codes ";\n") rest)

    port_by : (d : Direction) (n : List ℕ) (r : Option BitRange) (rest : List ℕ) (done more : Declared) (insts : List Instance) (assigns : List Assign) → Named names size o ranges n → is_range r ≡ true → all_known names (names_in (done ++ (n, listed_entry) ∷ more)) ≡ true → all_known names (names_in done) ≡ true → has_text n (names_in done) ≡ false
        → Ready rest (done ++ (n, port_entry (record { name = n; direction = d; range = r })) ∷ more) insts assigns → Ready (port_line (record { name = n; direction = d; range = r }) ++ rest) (done ++ (n, listed_entry) ∷ more) insts assigns
    port_by directions.Input n r rest done more insts assigns named bounded known known_done absent next = λ scope is declaring t k q positional side s v i.
        let m = at_items scope insts assigns declaring t k q positional side s v i in
        let behind = range_text r ++ (name_text n ++ (59 ∷ 10 ∷ rest)) in
        subst (λ x. On (32 ∷ 32 ∷ (codes "input" ++ (32 ∷ x))) m) (sym (declared_text r n rest))
        (indent_onward names size o (codes "input" ++ (32 ∷ behind)) m (input_onward names size o behind m (λ at.
        blank_onward names size o behind _ (directed (record { name = n; direction = directions.Input; range = r }) rest done more insts assigns named bounded known known_done absent next scope is declaring t k q positional side s v i))))
    port_by directions.Output n r rest done more insts assigns named bounded known known_done absent next = λ scope is declaring t k q positional side s v i.
        let m = at_items scope insts assigns declaring t k q positional side s v i in
        let behind = range_text r ++ (name_text n ++ (59 ∷ 10 ∷ rest)) in
        subst (λ x. On (32 ∷ 32 ∷ (codes "output" ++ (32 ∷ x))) m) (sym (declared_text r n rest))
        (indent_onward names size o (codes "output" ++ (32 ∷ behind)) m (output_onward names size o behind m (λ at.
        blank_onward names size o behind _ (directed (record { name = n; direction = directions.Output; range = r }) rest done more insts assigns named bounded known known_done absent next scope is declaring t k q positional side s v i))))

    -- the declaration of a port
    pub port_onward : (p : PortView) (rest : List ℕ) (done more : Declared) (insts : List Instance) (assigns : List Assign) → Named names size o ranges p.name → is_range p.range ≡ true → all_known names (names_in (done ++ (p.name, listed_entry) ∷ more)) ≡ true → all_known names (names_in done) ≡ true → has_text p.name (names_in done) ≡ false
        → Ready rest (done ++ (p.name, port_entry p) ∷ more) insts assigns → Ready (port_line p ++ rest) (done ++ (p.name, listed_entry) ∷ more) insts assigns
    port_onward p rest done more insts assigns named bounded known known_done absent next = port_by p.direction p.name p.range rest done more insts assigns named bounded known known_done absent next

    -- the declaration of a wire
    pub net_onward : (v : NetView) (rest : List ℕ) (done : Declared) (insts : List Instance) (assigns : List Assign) → Named names size o ranges v.name → is_range v.range ≡ true → all_known names (names_in done) ≡ true → has_text v.name (names_in done) ≡ false
        → Ready rest (done ++ (v.name, wire_entry v) ∷ []) insts assigns → Ready (net_line v ++ rest) done insts assigns
    net_onward v rest done insts assigns named bounded known absent next = λ scope is declaring t k p positional side s q i.
        let m = at_items scope insts assigns declaring t k p positional side s q i in
        let w = symbols.DeclaredMore ∷ symbols.Items ∷ symbols.Source ∷ [] in
        let behind = range_text v.range ++ (name_text v.name ++ (59 ∷ 10 ∷ rest)) in
        let none = found_none names v.name scope done is named.1 known absent in
        subst (λ x. On (32 ∷ 32 ∷ (codes "wire" ++ (32 ∷ x))) m) (sym (declared_text v.range v.name rest))
        (indent_onward names size o (codes "wire" ++ (32 ∷ behind)) m (wire_onward names size o behind m (λ at0.
        blank_onward names size o behind _ (ranged_name false v.range v.name (59 ∷ 10 ∷ rest) w m forms.Wires directions.Input bounded named (apart_semicolon (10 ∷ rest)) (λ at l.
        let d : Declaring = record { form = forms.Wires; direction = directions.Input; range = v.range; left = l } in
        subst (λ x. Then (On (59 ∷ 10 ∷ rest)) (scoped (declaring_in m w forms.Wires directions.Input v.range l) x)) (sym (wire_new d at scope (id names v.name) none))
        (semicolon_onward names size o (10 ∷ rest) _ (λ at2. line_onward names size o rest _ (next (put scope (id names v.name) (wire v.range at)) (put_new names v.name scope done (wire v.range at) is named.1 known absent) d t k p positional side s q i))))))))

    -- ---- instances

    ended : (b : Bool) (rest : List ℕ) (d : Declared) (insts : List Instance) (assigns : List Assign) (t n : NameId) (cs : List Connection) → Ready rest d (insts ++ record { name = n; target = t; connections = lists.Named cs } ∷ []) assigns → (scope : Entries) → plain scope ≡ keyed names d → (declaring : Declaring)
        → (p s : NameId) (q : Option BitRange) (i : ℕ) → On (41 ∷ 59 ∷ 10 ∷ rest) (joined names size o ranges (at_items scope insts assigns declaring t n p false sides.Connection s q i) (last b ∷ symbols.InstanceMore ∷ symbols.Items ∷ symbols.Source ∷ []) t n p cs s q i)
    ended true rest d insts assigns t n cs next scope is declaring = λ p s q i.
        close_onward names size o (59 ∷ 10 ∷ rest) _ (λ at. semicolon_onward names size o (10 ∷ rest) _ (λ at2. line_onward names size o rest _ (next scope is declaring t n p false sides.Connection s q i)))
    ended false rest d insts assigns t n cs next scope is declaring = λ p s q i.
        close_onward names size o (59 ∷ 10 ∷ rest) _ (λ at. semicolon_onward names size o (10 ∷ rest) _ (λ at2. line_onward names size o rest _ (next scope is declaring t n p false sides.Connection s q i)))

    -- the parentheses of an instance
    listed_onward : (vs : List ConnectionView) (rest : List ℕ) (d : Declared) (insts : List Instance) (assigns : List Assign) (t n : NameId) → ((es : Entries) → plain es ≡ keyed names d → AllConnections names size o ranges es vs) → Ready rest d (insts ++ record { name = n; target = t; connections = lists.Named (map (connection_of names) vs) } ∷ []) assigns
        → (scope : Entries) → plain scope ≡ keyed names d → (declaring : Declaring) (p s : NameId) (q : Option BitRange) (i : ℕ)
        → On (listed (connection_text ranges) vs ++ (41 ∷ 59 ∷ 10 ∷ rest)) (joined names size o ranges (at_items scope insts assigns declaring t n p false sides.Connection s q i) (symbols.Connections ∷ symbols.InstanceMore ∷ symbols.Items ∷ symbols.Source ∷ []) t n p [] s q i)
    listed_onward [] rest d insts assigns t n all next scope is declaring p s q i = ended false rest d insts assigns t n [] next scope is declaring p s q i
    listed_onward (v ∷ vs) rest d insts assigns t n all next scope is declaring p s q i =
        connections_onward names size o ranges (v ∷ vs) (41 ∷ 59 ∷ 10 ∷ rest) (symbols.InstanceMore ∷ symbols.Items ∷ symbols.Source ∷ []) t n (at_items scope insts assigns declaring t n p false sides.Connection s q i) (all scope is)
        (λ p2 s2 q2 i2. ended true rest d insts assigns t n (map (connection_of names) (v ∷ vs)) next scope is declaring p2 s2 q2 i2) refl p s q i

    listed_starless : (vs : List ConnectionView) (rest : List ℕ) → is_starless (listed (connection_text ranges) vs ++ (41 ∷ rest)) ≡ true
    listed_starless [] rest = refl
    listed_starless (v ∷ vs) rest = refl

    instance_text : (target n : List ℕ) (vs : List ConnectionView) (rest : List ℕ) → instance_line ranges (record { name = n; target = target; connections = ByName vs }) ++ rest ≡ 32 ∷ 32 ∷ (name_text target ++ (32 ∷ (name_text n ++ (32 ∷ 40 ∷ (listed (connection_text ranges) vs ++ (41 ∷ 59 ∷ 10 ∷ rest))))))
    instance_text target n vs rest = ap (λ x. 32 ∷ 32 ∷ x) (
        append_assoc (name_text target) (32 ∷ (name_text n ++ (32 ∷ 40 ∷ (listed (connection_text ranges) vs ++ (41 ∷ 59 ∷ 10 ∷ []))))) rest
        ∙ ap (λ x. name_text target ++ (32 ∷ x)) (append_assoc (name_text n) (32 ∷ 40 ∷ (listed (connection_text ranges) vs ++ (41 ∷ 59 ∷ 10 ∷ []))) rest ∙ ap (λ x. name_text n ++ (32 ∷ 40 ∷ x)) (append_assoc (listed (connection_text ranges) vs) (41 ∷ 59 ∷ 10 ∷ []) rest))
        )

    -- an instance with connections by name
    pub instance_onward : (target n : List ℕ) (vs : List ConnectionView) (rest : List ℕ) (done : Declared) (insts : List Instance) (assigns : List Assign) → Named names size o ranges target → Named names size o ranges n → all_known names (names_in done) ≡ true → has_text n (names_in done) ≡ false → ((es : Entries) → plain es ≡ keyed names (done ++ (n, instance_entry) ∷ []) → AllConnections names size o ranges es vs)
        → Ready rest (done ++ (n, instance_entry) ∷ []) (insts ++ instance_of names (record { name = n; target = target; connections = ByName vs }) ∷ []) assigns → Ready (instance_line ranges (record { name = n; target = target; connections = ByName vs }) ++ rest) done insts assigns
    instance_onward target n vs rest done insts assigns targeted named known absent all next = λ scope is declaring t k p positional side s q i.
        let m = at_items scope insts assigns declaring t k p positional side s q i in
        let d = done ++ (n, instance_entry) ∷ [] in
        let conns = listed (connection_text ranges) vs ++ (41 ∷ 59 ∷ 10 ∷ rest) in
        let none = found_none names n scope done is named.1 known absent in
        subst (λ x. On x m) (sym (instance_text target n vs rest))
        (indent_onward names size o (name_text target ++ (32 ∷ (name_text n ++ (32 ∷ 40 ∷ conns)))) m
        (name_onward names size o target (32 ∷ (name_text n ++ (32 ∷ 40 ∷ conns))) m targeted.0 targeted.1 (apart_blank (name_text n ++ (32 ∷ 40 ∷ conns))) (λ at1.
        blank_onward names size o (name_text n ++ (32 ∷ 40 ∷ conns)) _
        (name_onward names size o n (32 ∷ 40 ∷ conns) (record (at_items scope insts assigns declaring (id names target) k p positional side s q i) { waiting = symbols.InstanceName ∷ symbols.InstanceMore ∷ symbols.Items ∷ symbols.Source ∷ [] }) named.0 named.1 (apart_blank (40 ∷ conns)) (λ at.
        subst (Then (On (32 ∷ 40 ∷ conns))) (sym (begin_new (record (at_items scope insts assigns declaring (id names target) k p positional side s q i) { waiting = symbols.Expect marks.Open ∷ symbols.Connections ∷ symbols.InstanceMore ∷ symbols.Items ∷ symbols.Source ∷ [] }) at (id names n) none))
        (blank_onward names size o (40 ∷ conns) _ (open_onward names size o conns _ (listed_starless vs (59 ∷ 10 ∷ rest)) (λ at2.
        listed_onward vs rest d insts assigns (id names target) (id names n) all next (put scope (id names n) (scopes.instance_entry at)) (put_new names n scope done (scopes.instance_entry at) is named.1 known absent) declaring p s q i))))))))

    -- ---- assigns

    assign_text : (left right rest : List ℕ) → (32 ∷ 32 ∷ (codes "assign" ++ (32 ∷ (left ++ (32 ∷ 61 ∷ 32 ∷ (right ++ (59 ∷ 10 ∷ []))))))) ++ rest ≡ 32 ∷ 32 ∷ (codes "assign" ++ (32 ∷ (left ++ (32 ∷ 61 ∷ 32 ∷ (right ++ (59 ∷ 10 ∷ rest))))))
    assign_text left right rest = ap (λ x. 32 ∷ 32 ∷ (codes "assign" ++ (32 ∷ x))) (append_assoc left (32 ∷ 61 ∷ 32 ∷ (right ++ (59 ∷ 10 ∷ []))) rest ∙ ap (λ x. left ++ (32 ∷ 61 ∷ 32 ∷ x)) (append_assoc right (59 ∷ 10 ∷ []) rest))

    all_right : (bs : List BitView) → list_all (allows sides.Right) bs ≡ true
    all_right [] = refl
    all_right (b ∷ bs) = all_right bs

    pub assign_onward_line : (a : AssignView) (rest : List ℕ) (d : Declared) (insts : List Instance) (assigns : List Assign) → is_filled a.left ≡ true → is_filled a.right ≡ true → list_all (allows sides.Left) a.left ≡ true → ((es : Entries) → plain es ≡ keyed names d → AllBits names size o ranges es a.left × AllBits names size o ranges es a.right)
        → Ready rest d insts (assigns ++ assign_of names a ∷ []) → Ready (assign_line ranges a ++ rest) d insts assigns
    assign_onward_line a rest d insts assigns left_filled right_filled allowed all next = λ scope is declaring t k p positional side s q i.
        let m = at_items scope insts assigns declaring t k p positional side s q i in
        let w = symbols.AssignMore ∷ symbols.Items ∷ symbols.Source ∷ [] in
        let left = value_text ranges a.left in
        let right = value_text ranges a.right in
        let ending = right ++ (59 ∷ 10 ∷ rest) in
        let bits = all scope is in
        let bound : Reader = record m { left = map (bit_of names) a.left } in
        subst (λ x. On x m) (sym (assign_text left right rest))
        (indent_onward names size o (codes "assign" ++ (32 ∷ (left ++ (32 ∷ 61 ∷ 32 ∷ ending)))) m (assign_onward names size o (left ++ (32 ∷ 61 ∷ 32 ∷ ending)) m (λ at.
        blank_onward names size o (left ++ (32 ∷ 61 ∷ 32 ∷ ending)) _
        (value_onward names size o ranges false a.left (32 ∷ 61 ∷ 32 ∷ ending) (symbols.AssignSign ∷ symbols.Value ∷ w) sides.Left [] m left_filled bits.0 allowed (apart_blank (61 ∷ 32 ∷ ending)) (equals_settles names size o ranges (32 ∷ ending) (symbols.Value ∷ w)) (λ s1 q1 i1.
        blank_onward names size o (61 ∷ 32 ∷ ending) _ (equals_onward names size o (32 ∷ ending) _ (λ at1.
        blank_onward names size o ending _
        (value_onward names size o ranges false a.right (59 ∷ 10 ∷ rest) w sides.Right [] bound right_filled bits.1 (all_right a.right) (apart_semicolon (10 ∷ rest)) (semicolon_settles names size o ranges (10 ∷ rest) (symbols.Items ∷ symbols.Source ∷ [])) (λ s2 q2 i2.
        semicolon_onward names size o (10 ∷ rest) _ (λ at2. line_onward names size o rest _ (next scope is declaring t k p positional sides.Right s2 q2 i2))) s1 q1 i1)))) s q i))))
