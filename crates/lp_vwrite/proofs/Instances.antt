-- Steps over connections by name.
use Rattle.std.proofs.Common.{◌≡◌, ℕ, Bool, true, false, not, List, [], ◌∷◌, ◌++◌, map, Option, None, Some, refl, sym, ap, ◌∙◌, subst, append_assoc, arith}
use Rattle.std.specs.Prelude.{codes, decimal, ◌&&◌, ◌==◌, flat_map, if◌then◌else◌}
use Rattle.std.specs.List.{list_all}
use Rattle.std.proofs.lemmas.Bool.{and_parts}
use Rattle.std.proofs.lemmas.Bool.Decides.{nat_tests}
use Rattle.std.proofs.lemmas.List.{append-nil}
use Rattle.lp_text.specs.Texts.{has_text}
use Rattle.lp_text.specs.declared.names.NameId.{NameId}
use Rattle.lp_model.specs.declared.netlist.BitRange.{BitRange}
use Rattle.lp_model.specs.declared.netlist.Connection.{Connection}
use Rattle.lp_model.specs.NetlistView.{BitView, NetBit, SelectBit, ConstBit, ConnectionView}
use Rattle.lp_verilog_tokens.specs.Lexical.{is_lead, is_inner}
use Rattle.lp_verilog_tokens.specs.Reserved.{reserved_words}
use Rattle.lp_verilog_grammar.specs.declared.reader.Reader.{Reader}
use Rattle.lp_verilog_grammar.specs.declared.symbol.Symbol.{Symbol}
use Rattle.lp_verilog_grammar.specs.declared.symbol.Symbol.TheVariants as symbols
use Rattle.lp_verilog_tokens.specs.declared.token.Mark.TheVariants as marks
use Rattle.lp_verilog_draft.specs.declared.value.Side.TheVariants as sides
use Rattle.lp_verilog_draft.specs.Scopes.{Entries}
use Rattle.lp_verilog.specs.Reading.{Outcome}
use Rattle.lp_vwrite.specs.Layout.{is_plain, name_text, bit_text, bits_text, value_text, value_by, whole_vector, connection_text, after_comma, listed}
use Rattle.lp_vwrite.specs.WellFormed.{is_filled}
use Rattle.lp_vwrite.proofs.Tokens.{is_apart, is_starless}
use Rattle.lp_vwrite.proofs.Onward.{Onward}
use Rattle.lp_vwrite.proofs.Parts.{id, name_onward, blank_onward, open_onward, close_onward, comma_onward, dot_onward}
use Rattle.lp_vwrite.proofs.Values.{bit_of, allows, Named, AllBits, value_onward, close_settles}

-- ---- what follows a parenthesis begins with no star

abbrev is_begun : List ℕ → Bool
is_begun [] = false
is_begun (b ∷ rest) = not (b == 42)

begun_append : (a b : List ℕ) → is_begun a ≡ true → is_begun (a ++ b) ≡ true
begun_append [] b h = absurd cc
begun_append (x ∷ a) b h = h

begun_starless : (a b : List ℕ) → is_begun a ≡ true → is_starless (a ++ b) ≡ true
begun_starless [] b h = absurd cc
begun_starless (x ∷ a) b h = h

lead_star : (b : ℕ) → is_lead b ≡ true → not (b == 42) ≡ true
unfolding is_lead
lead_star b h = let no : (b == 42) ≡ false = grind (arith, nat_tests) in ap not no

plain_begun : (n : List ℕ) → is_plain n ≡ true → is_begun n ≡ true
plain_begun [] h = absurd cc
plain_begun (b ∷ w) h = lead_star b (and_parts (is_lead b) (list_all is_inner w && not (has_text (b ∷ w) reserved_words)) h).0

name_begun : (n : List ℕ) → is_begun (name_text n) ≡ true
name_begun n = by (is_plain n) refl
  where
    by : (t : Bool) → is_plain n ≡ t → is_begun (if t then n else codes "\\" ++ (n ++ codes " ")) ≡ true
    by true e = plain_begun n e
    by false e = refl

pub name_starless : (n rest : List ℕ) → is_starless (name_text n ++ rest) ≡ true
name_starless n rest = begun_starless (name_text n) rest (name_begun n)

bit_begun : (b : BitView) → is_begun (bit_text b) ≡ true
bit_begun (NetBit n) = name_begun n
bit_begun (SelectBit n i) = begun_append (name_text n) (91 ∷ (decimal i ++ (93 ∷ []))) (name_begun n)
bit_begun (ConstBit true) = refl
bit_begun (ConstBit false) = refl

bits_starless : (bs : List BitView) (rest : List ℕ) → is_starless (bits_text bs ++ (41 ∷ rest)) ≡ true
bits_starless [] rest = refl
bits_starless (b ∷ []) rest = begun_starless (bit_text b) (41 ∷ rest) (bit_begun b)
bits_starless (a ∷ b ∷ more) rest = refl

pub value_starless : (ranges : List ℕ → Option BitRange) (bs : List BitView) (rest : List ℕ) → is_starless (value_text ranges bs ++ (41 ∷ rest)) ≡ true
value_starless ranges bs rest = by (whole_vector ranges bs)
  where
    by : (v : Option (List ℕ)) → is_starless (value_by bs v ++ (41 ∷ rest)) ≡ true
    by None = bits_starless bs rest
    by (Some n) = begun_starless (name_text n) (41 ∷ rest) (name_begun n)

pub apart_blank : (rest : List ℕ) → is_apart (32 ∷ rest) ≡ true
unfolding is_inner
apart_blank rest = refl

pub apart_open : (rest : List ℕ) → is_apart (40 ∷ rest) ≡ true
unfolding is_inner
apart_open rest = refl

pub apart_close : (rest : List ℕ) → is_apart (41 ∷ rest) ≡ true
unfolding is_inner
apart_close rest = refl

pub apart_semicolon : (rest : List ℕ) → is_apart (59 ∷ rest) ≡ true
unfolding is_inner
apart_semicolon rest = refl

pub all_allowed : (bs : List BitView) → list_all (allows sides.Connection) bs ≡ true
all_allowed [] = refl
all_allowed (b ∷ bs) = all_allowed bs

-- the connection of a view
abbrev pub connection_of : List (List ℕ) → ConnectionView → Connection
connection_of names c = record { bits = map (bit_of names) c.bits; port = id names c.port }

module _ (names : List (List ℕ)) (size : ℕ) (o : Outcome) (ranges : List ℕ → Option BitRange) where
  abbrev On : List ℕ → Reader → Type 0
  On rest m = Onward names size o rest m

  -- the state within the connections of an instance
  abbrev pub joined : Reader → List Symbol → NameId → NameId → NameId → List Connection → NameId → Option BitRange → ℕ → Reader
  joined c w t n p done s q i = record c {
    waiting = w;
    joint = record { target = t; name = n; port = p; positional = false; named = done; ordered = [] };
    value = record { side = sides.Connection; subject = s; range = q; index = i; bits = [] };
  }

  -- the way on from it, whatever names came last
  abbrev pub Joined : List ℕ → List Symbol → NameId → NameId → List Connection → Reader → Type 0
  Joined rest w t n done c = (p s : NameId) (q : Option BitRange) (i : ℕ) → On rest (joined c w t n p done s q i)

  abbrev pub IsConnection : Entries → ConnectionView → Type 0
  IsConnection es c = Named names size o ranges c.port × AllBits names size o ranges es c.bits

  abbrev pub AllConnections : Entries → List ConnectionView → Type 0
  AllConnections es [] = Unit {0}
  AllConnections es (c ∷ cs) = IsConnection es c × AllConnections es cs

  -- the value of a connection, and the parenthesis behind it
  valued_onward : (port : NameId) (bs : List BitView) (rest : List ℕ) (w : List Symbol) (t n : NameId) (done : List Connection) (c : Reader) → AllBits names size o ranges c.draft.scope bs → Joined rest w t n (done ++ record { bits = map (bit_of names) bs; port = port } ∷ []) c
      → (s : NameId) (q : Option BitRange) (i : ℕ) → On (value_text ranges bs ++ (41 ∷ rest)) (joined c (symbols.NamedValue ∷ w) t n port done s q i)
  valued_onward port [] rest w t n done c h next = λ s q i. close_onward names size o rest _ (λ at. next port s q i)
  valued_onward port (b ∷ bs) rest w t n done c h next =
      let within : Reader = record c { joint = record { target = t; name = n; port = port; positional = false; named = done; ordered = [] } } in
      value_onward names size o ranges true (b ∷ bs) (41 ∷ rest) w sides.Connection [] within refl h (all_allowed (b ∷ bs)) (apart_close rest) (close_settles names size o ranges rest w) (λ s q i. close_onward names size o rest _ (λ at. next port s q i))

  -- one connection, behind its dot
  connection_onward : (v : ConnectionView) (rest : List ℕ) (w : List Symbol) (t n : NameId) (done : List Connection) (c : Reader) → IsConnection c.draft.scope v → Joined rest w t n (done ++ connection_of names v ∷ []) c → Joined (name_text v.port ++ (40 ∷ (value_text ranges v.bits ++ (41 ∷ rest)))) (symbols.ConnectionName ∷ w) t n done c
  connection_onward v rest w t n done c h next = λ p s q i.
      name_onward names size o v.port (40 ∷ (value_text ranges v.bits ++ (41 ∷ rest))) (joined c (symbols.ConnectionName ∷ w) t n p done s q i) h.0.0 h.0.1 (apart_open (value_text ranges v.bits ++ (41 ∷ rest))) (λ at.
      open_onward names size o (value_text ranges v.bits ++ (41 ∷ rest)) (joined c (symbols.Expect marks.Open ∷ symbols.NamedValue ∷ w) t n (id names v.port) done s q i) (value_starless ranges v.bits rest) (λ at2.
      valued_onward (id names v.port) v.bits rest w t n done c h.1 next s q i))

  connection_line : (v : ConnectionView) (rest : List ℕ) → connection_text ranges v ++ rest ≡ 46 ∷ (name_text v.port ++ (40 ∷ (value_text ranges v.bits ++ (41 ∷ rest))))
  connection_line v rest = ap (λ t. 46 ∷ t) (append_assoc (name_text v.port) (40 ∷ (value_text ranges v.bits ++ (41 ∷ []))) rest ∙ ap (λ t. name_text v.port ++ (40 ∷ t)) (append_assoc (value_text ranges v.bits) (41 ∷ []) rest))

  more_connections : (vs : List ConnectionView) (rest : List ℕ) (w : List Symbol) (t n : NameId) (done : List Connection) (c : Reader) → AllConnections c.draft.scope vs → Joined rest (symbols.NamedMore ∷ w) t n (done ++ map (connection_of names) vs) c → Joined (flat_map (after_comma (connection_text ranges)) vs ++ rest) (symbols.NamedMore ∷ w) t n done c
  more_connections [] rest w t n done c h next = subst (λ x. Joined rest (symbols.NamedMore ∷ w) t n x c) (append-nil done) next
  more_connections (v ∷ vs) rest w t n done c h next =
      let tail = flat_map (after_comma (connection_text ranges)) vs ++ rest in
      let front : List Connection = done ++ connection_of names v ∷ [] in
      let all : front ++ map (connection_of names) vs ≡ done ++ map (connection_of names) (v ∷ vs) = append_assoc done (connection_of names v ∷ []) (map (connection_of names) vs) in
      let others = more_connections vs rest w t n front c h.1 (subst (λ x. Joined rest (symbols.NamedMore ∷ w) t n x c) (sym all) next) in
      let one = connection_onward v tail (symbols.NamedMore ∷ w) t n done c h.0 others in
      let text : (connection_text ranges v ++ flat_map (after_comma (connection_text ranges)) vs) ++ rest ≡ 46 ∷ (name_text v.port ++ (40 ∷ (value_text ranges v.bits ++ (41 ∷ tail)))) =
      append_assoc (connection_text ranges v) (flat_map (after_comma (connection_text ranges)) vs) rest ∙ connection_line v tail
      in
      λ p s q i. comma_onward names size o (32 ∷ ((connection_text ranges v ++ flat_map (after_comma (connection_text ranges)) vs) ++ rest)) _ (λ at.
      subst (λ x. On (32 ∷ x) (joined c (symbols.Expect marks.Dot ∷ symbols.ConnectionName ∷ symbols.NamedMore ∷ w) t n p done s q i)) (sym text)
      (blank_onward names size o (46 ∷ (name_text v.port ++ (40 ∷ (value_text ranges v.bits ++ (41 ∷ tail))))) _ (dot_onward names size o (name_text v.port ++ (40 ∷ (value_text ranges v.bits ++ (41 ∷ tail)))) _ (λ at2. one p s q i))))

  -- the connections of an instance, up to the parenthesis behind them
  pub connections_onward : (vs : List ConnectionView) (rest : List ℕ) (w : List Symbol) (t n : NameId) (c : Reader) → AllConnections c.draft.scope vs → Joined rest (symbols.NamedMore ∷ w) t n (map (connection_of names) vs) c → is_filled vs ≡ true → Joined (listed (connection_text ranges) vs ++ rest) (symbols.Connections ∷ w) t n [] c
  connections_onward [] rest w t n c h next filled = absurd cc
  connections_onward (v ∷ vs) rest w t n c h next filled =
      let tail = flat_map (after_comma (connection_text ranges)) vs ++ rest in
      let others = more_connections vs rest w t n (connection_of names v ∷ []) c h.1 next in
      let one = connection_onward v tail (symbols.NamedMore ∷ w) t n [] c h.0 others in
      let text : (connection_text ranges v ++ flat_map (after_comma (connection_text ranges)) vs) ++ rest ≡ 46 ∷ (name_text v.port ++ (40 ∷ (value_text ranges v.bits ++ (41 ∷ tail)))) =
      append_assoc (connection_text ranges v) (flat_map (after_comma (connection_text ranges)) vs) rest ∙ connection_line v tail
      in
      λ p s q i. subst (λ x. On x (joined c (symbols.Connections ∷ w) t n p [] s q i)) (sym text) (dot_onward names size o (name_text v.port ++ (40 ∷ (value_text ranges v.bits ++ (41 ∷ tail)))) _ (λ at. one p s q i))
