-- Steps over a module: its header, its items one after another, and its end.
use Rattle.std.proofs.Common.{◌≡◌, ℕ, Bool, true, false, List, [], ◌∷◌, ◌++◌, map, Option, None, refl, sym, ap, ◌∙◌, subst, append_assoc}
use Rattle.std.specs.Prelude.{codes, nat_eq, flat_map}
use Rattle.std.specs.List.{list_all, list_any}
use Rattle.std.proofs.lemmas.Bool.{and_parts, and_from}
use Rattle.std.proofs.lemmas.List.{append-nil, map-append}
use Rattle.std.proofs.lemmas.List.Folds.{list_all-append}
use Rattle.lp_text.specs.Texts.{has_text, distinct}
use Rattle.lp_text.specs.declared.names.NameId.{NameId}
use Rattle.lp_model.specs.declared.netlist.BitRange.{BitRange}
use Rattle.lp_model.specs.declared.netlist.Module.{Module}
use Rattle.lp_model.specs.NetlistView.{PortView, ModuleView}
use Rattle.lp_verilog_grammar.specs.declared.reader.Reader.{Reader}
use Rattle.lp_verilog_draft.specs.declared.draft.Draft.{Draft}
use Rattle.lp_verilog_draft.specs.declared.declaring.Declaring.{Declaring}
use Rattle.lp_verilog_grammar.specs.declared.symbol.Symbol.{Symbol}
use Rattle.lp_verilog_grammar.specs.declared.symbol.Symbol.TheVariants as symbols
use Rattle.lp_verilog_tokens.specs.declared.token.Token.TheVariants as tokens
use Rattle.lp_verilog_tokens.specs.declared.token.Mark.TheVariants as marks
use Rattle.lp_verilog_draft.specs.declared.value.Side.{Side}
use Rattle.lp_verilog_draft.specs.Scopes.{Entries, found, put, add_new, listed}
use Rattle.lp_verilog_draft.specs.Steps as draft
use Rattle.lp_verilog_draft.specs.Verdicts.{Goes}
use Rattle.lp_verilog_grammar.specs.Machine.{scoped, with_scope, begin_module, list_port}
use Rattle.lp_verilog.specs.Reading.{Outcome}
use Rattle.lp_vwrite.specs.Layout.{name_text, port_line, net_line, instance_line, assign_line, header_line, after_comma}
use Rattle.lp_vwrite.specs.Layout as layouts
use Rattle.lp_vwrite.specs.WellFormed.{is_name}
use Rattle.lp_vwrite.proofs.Tokens.{is_apart, is_starless}
use Rattle.lp_vwrite.proofs.Onward.{Then, Onward}
use Rattle.lp_vwrite.proofs.Parts.{id, name_onward, blank_onward, line_onward, open_onward, close_onward, comma_onward, semicolon_onward, module_onward}
use Rattle.lp_vwrite.proofs.Values.{Named, apart_comma}
use Rattle.lp_vwrite.proofs.Scope.{Declared, listed_entry, names_in, plain, keyed, all_known, found_none, put_new, id_same, absent_before}
use Rattle.lp_vwrite.proofs.Instances.{name_starless, apart_blank, apart_close}
use Rattle.lp_vwrite.proofs.ItemSteps.{at_items, Ready}

abbrev pub listed_ports : List PortView → Declared
listed_ports ps = map (λ p. (p.name, listed_entry)) ps

abbrev pub port_names : List PortView → List (List ℕ)
port_names ps = map (λ p. p.name) ps

list_new : (m : Reader) (at : ℕ) (n : NameId) → found m.draft.scope n ≡ None → list_port m at (tokens.Name n) ≡ Goes (with_scope m (put m.draft.scope n (listed at)))
list_new m at n h = ap (λ r. scoped m (add_new m.draft.scope n (listed at) r)) h

begin_new : (m : Reader) (n : NameId) → list_any (nat_eq n.0) m.taken ≡ false → begin_module m (tokens.Name n) ≡ Goes (record m { taken = m.taken ++ n.0 ∷ []; draft = draft.module_named n })
begin_new m n h = rw h refl

-- the names of a list with one more
pub names_push : (d : Declared) (t : List ℕ) (rest : List (List ℕ)) → names_in (d ++ (t, listed_entry) ∷ []) ++ rest ≡ names_in d ++ t ∷ rest
names_push d t rest = ap (λ x. x ++ rest) (map-append (λ e. e.0) d ((t, listed_entry) ∷ [])) ∙ append_assoc (names_in d) (t ∷ []) rest

-- what the parenthesis of a header stands for: more ports, or the first one
abbrev closing : Bool → Symbol
closing true = symbols.PortsMore
closing false = symbols.Ports

module _ (names : List (List ℕ)) (size : ℕ) (o : Outcome) (ranges : List ℕ → Option BitRange) where
  abbrev On : List ℕ → Reader → Type 0
  On rest m = Onward names size o rest m

  pub known_push : (d : Declared) (t : List ℕ) → all_known names (names_in d) ≡ true → has_text t names ≡ true → all_known names (names_in (d ++ (t, listed_entry) ∷ [])) ≡ true
  known_push d t h k =
      ap (all_known names) (map-append (λ e. e.0) d ((t, listed_entry) ∷ [])) ∙ list_all-append (λ x. has_text x names) (names_in d) (t ∷ []) ∙ and_from (all_known names (names_in d)) (all_known names (t ∷ [])) h (and_from (has_text t names) true k refl)

  -- the names of modules that have begun
  taken_same : (t : List ℕ) (ts : List (List ℕ)) → has_text t names ≡ true → all_known names ts ≡ true → list_any (nat_eq (id names t).0) (map (λ x. (id names x).0) ts) ≡ has_text t ts
  taken_same t [] h k = refl
  taken_same t (u ∷ ts) h k =
      let parts = and_parts (has_text u names) (all_known names ts) k in
      rw (id_same names t u h parts.0, taken_same t ts h parts.1) refl

  module _ (modules : List Module) (taken : List ℕ) (name : NameId) where
    -- the state in the header of a module
    abbrev at_header : List Symbol → Entries → Declaring → NameId → NameId → NameId → Bool → Side → NameId → Option BitRange → ℕ → Reader
    at_header w scope declaring t n p positional side s q i = record (at_items names size o ranges modules taken name scope [] [] declaring t n p positional side s q i) { waiting = w }

    abbrev Listing : List ℕ → List Symbol → Declared → Type 0
    Listing rest w d = (scope : Entries) → plain scope ≡ keyed names d → (declaring : Declaring) (t n p : NameId) (positional : Bool) (side : Side) (s : NameId) (q : Option BitRange) (i : ℕ) → On rest (at_header w scope declaring t n p positional side s q i)

    -- where the name of a port may stand: first, or behind a comma
    abbrev opening : Bool → List Symbol → List Symbol
    opening true w = symbols.Ports ∷ w
    opening false w = symbols.PortName ∷ symbols.PortsMore ∷ w

    name_listed : (b : Bool) (x rest : List ℕ) (w : List Symbol) (d : Declared) → Named names size o ranges x → all_known names (names_in d) ≡ true → has_text x (names_in d) ≡ false → is_apart rest ≡ true → Listing rest (symbols.PortsMore ∷ w) (d ++ (x, listed_entry) ∷ []) → Listing (name_text x ++ rest) (opening b w) d
    name_listed true x rest w d named known absent apart next = λ scope is declaring t n p positional side s q i.
        name_onward names size o x rest (at_header (symbols.Ports ∷ w) scope declaring t n p positional side s q i) named.0 named.1 apart (λ at.
        subst (Then (On rest)) (sym (list_new (at_header (symbols.PortsMore ∷ w) scope declaring t n p positional side s q i) at (id names x) (found_none names x scope d is named.1 known absent)))
        (next (put scope (id names x) (listed at)) (put_new names x scope d (listed at) is named.1 known absent) declaring t n p positional side s q i))
    name_listed false x rest w d named known absent apart next = λ scope is declaring t n p positional side s q i.
        name_onward names size o x rest (at_header (symbols.PortName ∷ symbols.PortsMore ∷ w) scope declaring t n p positional side s q i) named.0 named.1 apart (λ at.
        subst (Then (On rest)) (sym (list_new (at_header (symbols.PortsMore ∷ w) scope declaring t n p positional side s q i) at (id names x) (found_none names x scope d is named.1 known absent)))
        (next (put scope (id names x) (listed at)) (put_new names x scope d (listed at) is named.1 known absent) declaring t n p positional side s q i))

    abbrev more_text : List PortView → List ℕ
    more_text ps = flat_map (after_comma (λ p. name_text p.name)) ps

    more_apart : (ps : List PortView) (rest : List ℕ) → is_apart (more_text ps ++ (41 ∷ rest)) ≡ true
    more_apart [] rest = apart_close rest
    more_apart (p ∷ ps) rest = apart_comma (32 ∷ ((name_text p.name ++ more_text ps) ++ (41 ∷ rest)))

    more_listed : (ps : List PortView) (rest : List ℕ) (w : List Symbol) (d : Declared) → list_all is_name (port_names ps) ≡ true → all_known names (port_names ps) ≡ true → all_known names (names_in d) ≡ true → distinct (names_in d ++ port_names ps) ≡ true → Listing (41 ∷ rest) (symbols.PortsMore ∷ w) (d ++ listed_ports ps) → Listing (more_text ps ++ (41 ∷ rest)) (symbols.PortsMore ∷ w) d
    more_listed [] rest w d good known known_d apart next = subst (λ x. Listing (41 ∷ rest) (symbols.PortsMore ∷ w) x) (append-nil d) next
    more_listed (p ∷ ps) rest w d good known known_d apart next =
        let g = and_parts (is_name p.name) (list_all is_name (port_names ps)) good in
        let k = and_parts (has_text p.name names) (all_known names (port_names ps)) known in
        let pushed = d ++ (p.name, listed_entry) ∷ [] in
        let absent = absent_before (names_in d) p.name (port_names ps) apart in
        let all : pushed ++ listed_ports ps ≡ d ++ listed_ports (p ∷ ps) = append_assoc d ((p.name, listed_entry) ∷ []) (listed_ports ps) in
        let apart_rest : distinct (names_in pushed ++ port_names ps) ≡ true = ap distinct (names_push d p.name (port_names ps)) ∙ apart in
        let others = more_listed ps rest w pushed g.1 k.1 (known_push d p.name known_d k.0) apart_rest (subst (λ x. Listing (41 ∷ rest) (symbols.PortsMore ∷ w) x) (sym all) next) in
        let one = name_listed false p.name (more_text ps ++ (41 ∷ rest)) w d (g.0, k.0) known_d absent (more_apart ps rest) others in
        let text : (name_text p.name ++ more_text ps) ++ (41 ∷ rest) ≡ name_text p.name ++ (more_text ps ++ (41 ∷ rest)) = append_assoc (name_text p.name) (more_text ps) (41 ∷ rest) in
        λ scope is declaring t n q positional side s r i.
        comma_onward names size o (32 ∷ ((name_text p.name ++ more_text ps) ++ (41 ∷ rest))) _ (λ at.
        subst (λ x. On (32 ∷ x) (at_header (symbols.PortName ∷ symbols.PortsMore ∷ w) scope declaring t n q positional side s r i)) (sym text)
        (blank_onward names size o (name_text p.name ++ (more_text ps ++ (41 ∷ rest))) _ (one scope is declaring t n q positional side s r i)))

    -- `)` and `;` behind the names of the ports
    closed_header : (b : Bool) (rest : List ℕ) (d : Declared) → Ready names size o ranges modules taken name rest d [] [] → Listing (41 ∷ 59 ∷ 10 ∷ rest) (closing b ∷ symbols.Expect marks.Semicolon ∷ symbols.Items ∷ symbols.Source ∷ []) d
    closed_header true rest d next = λ scope is declaring t n p positional side s q i. close_onward names size o (59 ∷ 10 ∷ rest) _ (λ at. semicolon_onward names size o (10 ∷ rest) _ (λ at2. line_onward names size o rest _ (next scope is declaring t n p positional side s q i)))
    closed_header false rest d next = λ scope is declaring t n p positional side s q i. close_onward names size o (59 ∷ 10 ∷ rest) _ (λ at. semicolon_onward names size o (10 ∷ rest) _ (λ at2. line_onward names size o rest _ (next scope is declaring t n p positional side s q i)))

    abbrev names_text : List PortView → List ℕ
    names_text ps = layouts.listed (λ p. name_text p.name) ps

    ports_listed : (ps : List PortView) (rest : List ℕ) → list_all is_name (port_names ps) ≡ true → all_known names (port_names ps) ≡ true → distinct (port_names ps) ≡ true → Ready names size o ranges modules taken name rest (listed_ports ps) [] [] → Listing (names_text ps ++ (41 ∷ 59 ∷ 10 ∷ rest)) (symbols.Ports ∷ symbols.Expect marks.Semicolon ∷ symbols.Items ∷ symbols.Source ∷ []) []
    ports_listed [] rest good known apart next = closed_header false rest [] next
    ports_listed (p ∷ ps) rest good known apart next =
        let g = and_parts (is_name p.name) (list_all is_name (port_names ps)) good in
        let k = and_parts (has_text p.name names) (all_known names (port_names ps)) known in
        let w = symbols.Expect marks.Semicolon ∷ symbols.Items ∷ symbols.Source ∷ [] in
        let behind = 41 ∷ 59 ∷ 10 ∷ rest in
        let others = more_listed ps (59 ∷ 10 ∷ rest) w ((p.name, listed_entry) ∷ []) g.1 k.1 (and_from (has_text p.name names) true k.0 refl) apart (closed_header true rest (listed_ports (p ∷ ps)) next) in
        let one = name_listed true p.name (more_text ps ++ behind) w [] (g.0, k.0) refl refl (more_apart ps (59 ∷ 10 ∷ rest)) others in
        let text : (name_text p.name ++ more_text ps) ++ behind ≡ name_text p.name ++ (more_text ps ++ behind) = append_assoc (name_text p.name) (more_text ps) behind in
        subst (λ x. Listing x (symbols.Ports ∷ w) []) (sym text) one

    pub names_starless : (ps : List PortView) (rest : List ℕ) → is_starless (names_text ps ++ (41 ∷ rest)) ≡ true
    names_starless [] rest = refl
    names_starless (p ∷ ps) rest = subst (λ x. is_starless x ≡ true) (sym (append_assoc (name_text p.name) (more_text ps) (41 ∷ rest))) (name_starless p.name (more_text ps ++ (41 ∷ rest)))

  -- ---- between modules

  abbrev pub between : List Module → List ℕ → Draft → Declaring → NameId → NameId → NameId → Bool → Side → NameId → Option BitRange → ℕ → Reader
  between modules taken d declaring t n p positional side s q i = record {
    waiting = symbols.Source ∷ [];
    modules = modules;
    taken = taken;
    draft = d;
    declaring = declaring;
    joint = record { target = t; name = n; port = p; positional = positional; named = []; ordered = [] };
    value = record { side = side; subject = s; range = q; index = i; bits = [] };
    left = [];
  }

  abbrev pub Between : List ℕ → List Module → List ℕ → Type 0
  Between rest modules taken = (d : Draft) (declaring : Declaring) (t n p : NameId) (positional : Bool) (side : Side) (s : NameId) (q : Option BitRange) (i : ℕ) → On rest (between modules taken d declaring t n p positional side s q i)

  header_text : (m : ModuleView) (rest : List ℕ) → header_line m ++ rest ≡ codes "module" ++ (32 ∷ (name_text m.name ++ (32 ∷ 40 ∷ (layouts.listed (λ p. name_text p.name) m.ports ++ (41 ∷ 59 ∷ 10 ∷ rest)))))
  header_text m rest = ap (λ x. codes "module" ++ (32 ∷ x)) (append_assoc (name_text m.name) (32 ∷ 40 ∷ (layouts.listed (λ p. name_text p.name) m.ports ++ (41 ∷ 59 ∷ 10 ∷ []))) rest ∙ ap (λ x. name_text m.name ++ (32 ∷ 40 ∷ x)) (append_assoc (layouts.listed (λ p. name_text p.name) m.ports) (41 ∷ 59 ∷ 10 ∷ []) rest))

  -- the header of a module
  pub header_onward : (m : ModuleView) (rest : List ℕ) (modules : List Module) (done : List (List ℕ)) → Named names size o ranges m.name → all_known names done ≡ true → has_text m.name done ≡ false → list_all is_name (port_names m.ports) ≡ true → all_known names (port_names m.ports) ≡ true → distinct (port_names m.ports) ≡ true
      → Ready names size o ranges modules (map (λ x. (id names x).0) done ++ (id names m.name).0 ∷ []) (id names m.name) rest (listed_ports m.ports) [] [] → Between (header_line m ++ rest) modules (map (λ x. (id names x).0) done)
  header_onward m rest modules done named known absent good known_ports apart next = λ d declaring t n p positional side s q i.
      let taken = map (λ x. (id names x).0) done in
      let ports = layouts.listed (λ v. name_text v.name) m.ports ++ (41 ∷ 59 ∷ 10 ∷ rest) in
      let here = between modules taken d declaring t n p positional side s q i in
      let free : list_any (nat_eq (id names m.name).0) taken ≡ false = taken_same m.name done named.1 known ∙ absent in
      subst (λ x. On x here) (sym (header_text m rest))
      (module_onward names size o (name_text m.name ++ (32 ∷ 40 ∷ ports)) here (λ at0.
      blank_onward names size o (name_text m.name ++ (32 ∷ 40 ∷ ports)) _
      (name_onward names size o m.name (32 ∷ 40 ∷ ports) (record here { waiting = symbols.ModuleName ∷ symbols.Header ∷ symbols.Items ∷ symbols.Source ∷ [] }) named.0 named.1 (apart_blank (40 ∷ ports)) (λ at.
      subst (Then (On (32 ∷ 40 ∷ ports))) (sym (begin_new (record here { waiting = symbols.Header ∷ symbols.Items ∷ symbols.Source ∷ [] }) (id names m.name) free))
      (blank_onward names size o (40 ∷ ports) _ (open_onward names size o ports _ (names_starless modules (taken ++ (id names m.name).0 ∷ []) (id names m.name) m.ports (59 ∷ 10 ∷ rest)) (λ at2.
      ports_listed modules (taken ++ (id names m.name).0 ∷ []) (id names m.name) m.ports rest good known_ports apart next [] refl declaring t n p positional side s q i)))))))
