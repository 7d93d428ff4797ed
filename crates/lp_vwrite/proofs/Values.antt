-- Steps over values: bits, concatenations and whole vectors.
use Rattle.std.proofs.Common.{◌≡◌, ℕ, ◌≤◌, Bool, true, false, List, [], ◌∷◌, ◌++◌, map, Option, None, Some, refl, sym, ap, ◌∙◌, subst, append_assoc, arith}
use Rattle.std.specs.Prelude.{decimal, ◌==◌, flat_map}
use Rattle.std.specs.List.{list_all}
use Rattle.std.proofs.lemmas.Bool.{and_parts}
use Rattle.std.proofs.lemmas.Bool.Decides.{nat_tests}
use Rattle.std.proofs.lemmas.List.{append-nil}
use Rattle.lp_text.specs.Texts.{has_text, same_text, same_text-true}
use Rattle.lp_text.specs.declared.names.NameId.{NameId}
use Rattle.lp_model.specs.declared.netlist.BitRange.{BitRange}
use Rattle.lp_model.specs.declared.bits.Bit.{Bit}
use Rattle.lp_model.specs.declared.bits.Bit.TheVariants as bits
use Rattle.lp_model.specs.NetlistView.{BitView, NetBit, SelectBit, ConstBit}
use Rattle.lp_verilog_tokens.specs.Lexical.{is_blank, is_inner}
use Rattle.lp_verilog_tokens.specs.Cutting.{Plain}
use Rattle.lp_verilog_grammar.specs.declared.reader.Reader.{Reader}
use Rattle.lp_verilog_draft.specs.declared.scope.Kind.{Kind}
use Rattle.lp_verilog_draft.specs.declared.scope.Kind.TheVariants as kinds
use Rattle.lp_verilog_draft.specs.declared.scope.Entry.{Entry}
use Rattle.lp_verilog_grammar.specs.declared.symbol.Symbol.{Symbol}
use Rattle.lp_verilog_grammar.specs.declared.symbol.Symbol.TheVariants as symbols
use Rattle.lp_verilog_tokens.specs.declared.token.Token.TheVariants as tokens
use Rattle.lp_verilog_tokens.specs.declared.token.Mark.TheVariants as marks
use Rattle.lp_verilog_draft.specs.declared.value.Side.{Side}
use Rattle.lp_verilog_draft.specs.declared.value.Side.TheVariants as sides
use Rattle.lp_verilog_draft.specs.Scopes.{Entries, found, use_name, use_old, use_net, range_in, entry_range}
use Rattle.lp_verilog_draft.specs.Values.{is_in, between}
use Rattle.lp_verilog_draft.specs.Steps.{value_subject, value_whole}
use Rattle.lp_verilog_draft.specs.Verdicts.{Goes, and_then}
use Rattle.lp_verilog_grammar.specs.Machine.{step, start_value, scoped, with_value, with_subject}
use Rattle.lp_verilog.specs.Reading.{Outcome}
use Rattle.lp_vwrite.specs.Layout.{name_text, bit_text, bits_text, value_text, value_by, whole_by, after_comma, is_bit_of, are_bits}
use Rattle.lp_vwrite.specs.WellFormed.{is_name, is_filled}
use Rattle.lp_vwrite.proofs.Tokens.{is_apart, close_begins, comma_begins, semicolon_begins, equals_begins, close_brace_begins}
use Rattle.lp_vwrite.proofs.Onward.{Then, Onward, same_onward}
use Rattle.lp_vwrite.proofs.Parts.{id, name_onward, blank_onward, open_bracket_onward, close_bracket_onward, open_brace_onward, close_brace_onward, comma_onward, number_onward, zero_onward, one_onward}

-- the bit of a view
abbrev pub bit_of : List (List ℕ) → BitView → Bit
bit_of names (NetBit n) = bits.Net (id names n)
bit_of names (SelectBit n i) = bits.Select (id names n) i
bit_of names (ConstBit value) = bits.Const value

abbrev pub is_net_kind : Kind → Bool
is_net_kind kinds.Port = true
is_net_kind kinds.Wire = true
is_net_kind kinds.Instance = false

-- a name stands for a net of this range
pub record IsNet (es : Entries) (n : NameId) (r : Option BitRange) : Type 0 where
  pub entry : Entry
  pub there : found es n ≡ Some entry
  pub net : is_net_kind entry.kind ≡ true
  pub settled : entry.fixed ≡ true
  pub ranged : entry.range ≡ r

settled_stays : (side : Side) (es : Entries) (n : NameId) (e : Entry) → e.fixed ≡ true → use_net side es n e ≡ Goes es
settled_stays sides.Right es n e h = rw h refl
settled_stays sides.Left es n e h = rw h refl
settled_stays sides.Connection es n e h = rw h refl

net_stays : (side : Side) (at : ℕ) (es : Entries) (n : NameId) (r : Option BitRange) → IsNet es n r → use_name side at es n ≡ Goes es
net_stays side at es n r h = rw (h.there) (by h.entry.kind h.net)
  where
    by : (k : Kind) → is_net_kind k ≡ true → use_old k side es n h.entry ≡ Goes es
    by kinds.Port e = settled_stays side es n h.entry h.settled
    by kinds.Wire e = settled_stays side es n h.entry h.settled
    by kinds.Instance e = absurd cc

-- a net at the front of a value
start_net : (m : Reader) (at : ℕ) (n : NameId) (r : Option BitRange) → IsNet m.draft.scope n r → start_value m at (tokens.Name n) ≡ Goes (with_value m (value_subject n r m.value))
start_net m at n r h =
    let used = net_stays m.value.side at m.draft.scope n r h in
    let ranged : range_in m.draft.scope n ≡ r = ap entry_range h.there ∙ h.ranged in
    ap (λ v. and_then (scoped m v) (λ x. Goes (with_subject n x))) used ∙ ap (λ x. Goes (with_value m (value_subject n x m.value))) ranged

-- where a value stands: in a connection by name, or elsewhere
abbrev pub slot : Bool → Symbol
slot true = symbols.NamedValue
slot false = symbols.Value

-- what follows a value there
abbrev pub follow : Bool → List Symbol → List Symbol
follow true w = symbols.NamedEnd ∷ w
follow false w = w

slot_name : (b : Bool) (n : NameId) (at : ℕ) (w : List Symbol) (m : Reader) → step (tokens.Name n) at (record m { waiting = slot b ∷ w }) ≡ start_value (record m { waiting = symbols.Tail ∷ follow b w }) at (tokens.Name n)
slot_name true n at w m = refl
slot_name false n at w m = refl

slot_constant : (b : Bool) (size value at : ℕ) (w : List Symbol) (m : Reader) → step (tokens.Constant size value) at (record m { waiting = slot b ∷ w }) ≡ start_value (record m { waiting = follow b w }) at (tokens.Constant size value)
slot_constant true size value at w m = refl
slot_constant false size value at w m = refl

slot_brace : (b : Bool) (at : ℕ) (w : List Symbol) (m : Reader) → step (tokens.Mark marks.OpenBrace) at (record m { waiting = slot b ∷ w }) ≡ Goes (record m { waiting = symbols.Value ∷ symbols.ConcatMore ∷ follow b w })
slot_brace true at w m = refl
slot_brace false at w m = refl

-- no constant on a left side
abbrev pub allows : Side → BitView → Bool
allows sides.Left (ConstBit value) = false
allows sides.Left (NetBit n) = true
allows sides.Left (SelectBit n i) = true
allows sides.Right bit = true
allows sides.Connection bit = true

apart_bracket : (rest : List ℕ) → is_apart (91 ∷ rest) ≡ true
unfolding is_inner
apart_bracket rest = refl

pub apart_comma : (rest : List ℕ) → is_apart (44 ∷ rest) ≡ true
unfolding is_inner
apart_comma rest = refl

apart_brace : (rest : List ℕ) → is_apart (125 ∷ rest) ≡ true
unfolding is_inner
apart_brace rest = refl

-- the bits of a vector by their views
bits_of_vector : (names : List (List ℕ)) (n : List ℕ) (is : List ℕ) (bs : List BitView) → are_bits n is bs ≡ true → map (bit_of names) bs ≡ map (λ k. bits.Select (id names n) k) is
bits_of_vector names n [] [] e = refl
bits_of_vector names n [] (b ∷ bs) e = absurd cc
bits_of_vector names n (i ∷ is) [] e = absurd cc
bits_of_vector names n (i ∷ is) (b ∷ bs) e =
    let parts = and_parts (is_bit_of n i b) (are_bits n is bs) e in
    let here = one b parts.0 in
    let more = bits_of_vector names n is bs parts.1 in
    rw (here, more) refl
  where
    eq_true : (x y : ℕ) → (x == y) ≡ true → y ≡ x
    eq_true x y h = grind (arith, nat_tests)

    one : (x : BitView) → is_bit_of n i x ≡ true → bit_of names x ≡ bits.Select (id names n) i
    one (NetBit m) h = absurd cc
    one (ConstBit v) h = absurd cc
    one (SelectBit m j) h =
        let both = and_parts (same_text n m) (i == j) h in
        let name : n ≡ m = same_text-true n m both.0 in
        let index : j ≡ i = eq_true i j both.1 in
        rw (sym name, index) refl

module _ (names : List (List ℕ)) (size : ℕ) (o : Outcome) (ranges : List ℕ → Option BitRange) where
  abbrev On : List ℕ → Reader → Type 0
  On rest m = Onward names size o rest m

  -- what a select names
  pub record IsVector (es : Entries) (n : List ℕ) (i : ℕ) : Type 0 where
    pub range : BitRange
    pub written : ranges n ≡ Some range
    pub net : IsNet es (id names n) (Some range)
    pub inside : is_in range i ≡ true
    pub small : i ≤ 4294967295

  abbrev pub Named : List ℕ → Type 0
  Named n = (is_name n ≡ true) × (has_text n names ≡ true)

  -- a bit is declared, and its name is numbered
  abbrev pub IsBit : Entries → BitView → Type 0
  IsBit es (NetBit n) = Named n × IsNet es (id names n) None
  IsBit es (SelectBit n i) = Named n × IsVector es n i
  IsBit es (ConstBit value) = Unit {0}

  abbrev pub AllBits : Entries → List BitView → Type 0
  AllBits es [] = Unit {0}
  AllBits es (b ∷ bs) = IsBit es b × AllBits es bs

  abbrev pub valued : Reader → List Symbol → Side → List Bit → NameId → Option BitRange → ℕ → Reader
  valued c w side bs n r i = record c { waiting = w; value = record { side = side; subject = n; range = r; index = i; bits = bs } }

  -- the way on from a value with these bits, whatever name came last
  abbrev pub Val : List ℕ → List Symbol → Side → List Bit → Reader → Type 0
  Val rest w side bs c = (n : NameId) (r : Option BitRange) (i : ℕ) → On rest (valued c w side bs n r i)

  -- what follows settles a name before it
  abbrev pub Settles : List ℕ → List Symbol → Type 0
  Settles rest w = (m : Reader) → On rest (record m { waiting = w; value = value_whole m.value }) → On rest (record m { waiting = symbols.Tail ∷ w })

  pub comma_settles : (rest : List ℕ) (w : List Symbol) → Settles (44 ∷ rest) (symbols.ConcatMore ∷ w)
  comma_settles rest w = λ m h. same_onward names size o (Plain (tokens.Mark marks.Comma)) [] (44 ∷ []) rest _ _ refl (comma_begins rest) (λ at. refl) h

  pub brace_settles : (rest : List ℕ) (w : List Symbol) → Settles (125 ∷ rest) (symbols.ConcatMore ∷ w)
  brace_settles rest w = λ m h. same_onward names size o (Plain (tokens.Mark marks.CloseBrace)) [] (125 ∷ []) rest _ _ refl (close_brace_begins rest) (λ at. refl) h

  pub close_settles : (rest : List ℕ) (w : List Symbol) → Settles (41 ∷ rest) (symbols.NamedEnd ∷ w)
  close_settles rest w = λ m h. same_onward names size o (Plain (tokens.Mark marks.Close)) [] (41 ∷ []) rest _ _ refl (close_begins rest) (λ at. refl) h

  pub semicolon_settles : (rest : List ℕ) (w : List Symbol) → Settles (59 ∷ rest) (symbols.AssignMore ∷ w)
  semicolon_settles rest w = λ m h. same_onward names size o (Plain (tokens.Mark marks.Semicolon)) [] (59 ∷ []) rest _ _ refl (semicolon_begins rest) (λ at. refl) h

  pub equals_settles : (rest : List ℕ) (w : List Symbol) → Settles (32 ∷ 61 ∷ rest) (symbols.AssignSign ∷ w)
  unfolding is_blank
  equals_settles rest w = λ m h. same_onward names size o (Plain (tokens.Mark marks.Equals)) (32 ∷ []) (61 ∷ []) rest _ _ refl (equals_begins rest) (λ at. refl) h

  -- a name that begins a value
  name_valued : (b : Bool) (n rest : List ℕ) (w : List Symbol) (side : Side) (old : List Bit) (c : Reader) (r : Option BitRange) → Named n → IsNet c.draft.scope (id names n) r → is_apart rest ≡ true → ((i : ℕ) → On rest (valued c (symbols.Tail ∷ follow b w) side old (id names n) r i)) → Val (name_text n ++ rest) (slot b ∷ w) side old c
  name_valued b n rest w side old c r named net apart next = λ s q i.
      let v = valued c (symbols.Tail ∷ follow b w) side old s q i in
      name_onward names size o n rest (valued c (slot b ∷ w) side old s q i) named.0 named.1 apart (λ at.
      subst (Then (On rest)) (sym (slot_name b (id names n) at w (valued c w side old s q i) ∙ start_net v at (id names n) r net)) (next i))

  single_select : (b : Bool) (n : List ℕ) (i : ℕ) (rest : List ℕ) (w : List Symbol) (side : Side) (old : List Bit) (c : Reader) → Named n → IsVector c.draft.scope n i → Val rest (follow b w) side (old ++ bits.Select (id names n) i ∷ []) c → Val (name_text n ++ (91 ∷ (decimal i ++ (93 ∷ rest)))) (slot b ∷ w) side old c
  single_select b n i rest w side old c named vector next =
      name_valued b n (91 ∷ (decimal i ++ (93 ∷ rest))) w side old c (Some vector.range) named vector.net (apart_bracket (decimal i ++ (93 ∷ rest))) (λ k.
      open_bracket_onward names size o (decimal i ++ (93 ∷ rest)) _ (λ at.
      number_onward names size o i (93 ∷ rest) (valued c (symbols.Index ∷ symbols.IndexMore ∷ follow b w) side old (id names n) (Some vector.range) k) vector.small refl (λ at2.
      indexed k at2 (close_bracket_onward names size o rest (valued c (symbols.IndexMore ∷ follow b w) side old (id names n) (Some vector.range) i) (λ at3. next (id names n) (Some vector.range) i)))))
    where
      indexed : (k at : ℕ) → On (93 ∷ rest) (valued c (symbols.IndexMore ∷ follow b w) side old (id names n) (Some vector.range) i) → Then (On (93 ∷ rest)) (step (tokens.Number (Some i)) at (valued c (symbols.Index ∷ symbols.IndexMore ∷ follow b w) side old (id names n) (Some vector.range) k))
      indexed k at h = rw (vector.inside) h

  single_constant : (b value : Bool) (rest : List ℕ) (w : List Symbol) (side : Side) (old : List Bit) (c : Reader) → allows side (ConstBit value) ≡ true → is_apart rest ≡ true → Val rest (follow b w) side (old ++ bits.Const value ∷ []) c → Val (bit_text (ConstBit value) ++ rest) (slot b ∷ w) side old c
  single_constant b value rest w sides.Left old c ok apart next = absurd cc
  single_constant b true rest w sides.Right old c ok apart next = λ s q i. one_onward names size o rest _ apart (λ at. subst (Then (On rest)) (sym (slot_constant b 1 1 at w (valued c w sides.Right old s q i))) (next s q i))
  single_constant b false rest w sides.Right old c ok apart next = λ s q i. zero_onward names size o rest _ apart (λ at. subst (Then (On rest)) (sym (slot_constant b 1 0 at w (valued c w sides.Right old s q i))) (next s q i))
  single_constant b true rest w sides.Connection old c ok apart next = λ s q i. one_onward names size o rest _ apart (λ at. subst (Then (On rest)) (sym (slot_constant b 1 1 at w (valued c w sides.Connection old s q i))) (next s q i))
  single_constant b false rest w sides.Connection old c ok apart next = λ s q i. zero_onward names size o rest _ apart (λ at. subst (Then (On rest)) (sym (slot_constant b 1 0 at w (valued c w sides.Connection old s q i))) (next s q i))

  single : (b : Bool) (bit : BitView) (rest : List ℕ) (w : List Symbol) (side : Side) (old : List Bit) (c : Reader) → IsBit c.draft.scope bit → allows side bit ≡ true → is_apart rest ≡ true → Settles rest (follow b w) → Val rest (follow b w) side (old ++ bit_of names bit ∷ []) c → Val (bit_text bit ++ rest) (slot b ∷ w) side old c
  single b (NetBit n) rest w side old c h ok apart settles next = name_valued b n rest w side old c None h.0 h.1 apart (λ i. settles (valued c (symbols.Tail ∷ follow b w) side old (id names n) None i) (next (id names n) None i))
  single b (ConstBit value) rest w side old c h ok apart settles next = single_constant b value rest w side old c ok apart next
  single b (SelectBit n i) rest w side old c h ok apart settles next =
      let text : (name_text n ++ (91 ∷ (decimal i ++ (93 ∷ [])))) ++ rest ≡ name_text n ++ (91 ∷ (decimal i ++ (93 ∷ rest))) = append_assoc (name_text n) (91 ∷ (decimal i ++ (93 ∷ []))) rest ∙ ap (λ t. name_text n ++ (91 ∷ t)) (append_assoc (decimal i) (93 ∷ []) rest) in
      subst (λ t. Val t (slot b ∷ w) side old c) (sym text) (single_select b n i rest w side old c h.0 h.1 next)

  more_apart : (bs : List BitView) (rest : List ℕ) → is_apart (flat_map (after_comma bit_text) bs ++ (125 ∷ rest)) ≡ true
  more_apart [] rest = apart_brace rest
  more_apart (b ∷ bs) rest = apart_comma (32 ∷ ((bit_text b ++ flat_map (after_comma bit_text) bs) ++ (125 ∷ rest)))

  more_settles : (bs : List BitView) (rest : List ℕ) (w : List Symbol) → Settles (flat_map (after_comma bit_text) bs ++ (125 ∷ rest)) (symbols.ConcatMore ∷ w)
  more_settles [] rest w = brace_settles rest w
  more_settles (b ∷ bs) rest w = comma_settles _ w

  more_bits : (bs : List BitView) (rest : List ℕ) (w : List Symbol) (side : Side) (old : List Bit) (c : Reader) → AllBits c.draft.scope bs → list_all (allows side) bs ≡ true → Val rest w side (old ++ map (bit_of names) bs) c → Val (flat_map (after_comma bit_text) bs ++ (125 ∷ rest)) (symbols.ConcatMore ∷ w) side old c
  more_bits [] rest w side old c h ok next = λ s q i. close_brace_onward names size o rest _ (λ at. subst (λ bs. On rest (valued c w side bs s q i)) (append-nil old) (next s q i))
  more_bits (b ∷ bs) rest w side old c h ok next =
      let parts = and_parts (allows side b) (list_all (allows side) bs) ok in
      let tail = flat_map (after_comma bit_text) bs ++ (125 ∷ rest) in
      let joined : (old ++ bit_of names b ∷ []) ++ map (bit_of names) bs ≡ old ++ map (bit_of names) (b ∷ bs) = append_assoc old (bit_of names b ∷ []) (map (bit_of names) bs) in
      let others = more_bits bs rest w side (old ++ bit_of names b ∷ []) c h.1 parts.1 (subst (λ x. Val rest w side x c) (sym joined) next) in
      let one = single false b tail (symbols.ConcatMore ∷ w) side old c h.0 parts.0 (more_apart bs rest) (more_settles bs rest w) others in
      let text : (bit_text b ++ flat_map (after_comma bit_text) bs) ++ (125 ∷ rest) ≡ bit_text b ++ tail = append_assoc (bit_text b) (flat_map (after_comma bit_text) bs) (125 ∷ rest) in
      λ s q i. comma_onward names size o _ _ (λ at. subst (λ t. On (32 ∷ t) (valued c (symbols.Value ∷ symbols.ConcatMore ∷ w) side old s q i)) (sym text) (blank_onward names size o (bit_text b ++ tail) _ (one s q i)))

  -- bits one by one
  separate : (b : Bool) (bs : List BitView) (rest : List ℕ) (w : List Symbol) (side : Side) (old : List Bit) (c : Reader) → is_filled bs ≡ true → AllBits c.draft.scope bs → list_all (allows side) bs ≡ true → is_apart rest ≡ true → Settles rest (follow b w) → Val rest (follow b w) side (old ++ map (bit_of names) bs) c → Val (bits_text bs ++ rest) (slot b ∷ w) side old c
  separate b [] rest w side old c filled h ok apart settles next = absurd cc
  separate b (x ∷ []) rest w side old c filled h ok apart settles next = single b x rest w side old c h.0 (and_parts (allows side x) true ok).0 apart settles next
  separate b (x ∷ y ∷ more) rest w side old c filled h ok apart settles next =
      let bs = y ∷ more in
      let parts = and_parts (allows side x) (list_all (allows side) bs) ok in
      let tail = flat_map (after_comma bit_text) bs ++ (125 ∷ rest) in
      let joined : (old ++ bit_of names x ∷ []) ++ map (bit_of names) bs ≡ old ++ map (bit_of names) (x ∷ bs) = append_assoc old (bit_of names x ∷ []) (map (bit_of names) bs) in
      let others = more_bits bs rest (follow b w) side (old ++ bit_of names x ∷ []) c h.1 parts.1 (subst (λ l. Val rest (follow b w) side l c) (sym joined) next) in
      let one = single false x tail (symbols.ConcatMore ∷ follow b w) side old c h.0 parts.0 (more_apart bs rest) (more_settles bs rest (follow b w)) others in
      let text : ((bit_text x ++ flat_map (after_comma bit_text) bs) ++ (125 ∷ [])) ++ rest ≡ bit_text x ++ tail =
      append_assoc (bit_text x ++ flat_map (after_comma bit_text) bs) (125 ∷ []) rest ∙ append_assoc (bit_text x) (flat_map (after_comma bit_text) bs) (125 ∷ rest)
      in
      λ s q i. open_brace_onward names size o _ (valued c (slot b ∷ w) side old s q i) (λ at.
      subst (Then (On (((bit_text x ++ flat_map (after_comma bit_text) bs) ++ (125 ∷ [])) ++ rest))) (sym (slot_brace b at w (valued c w side old s q i)))
      (subst (λ t. On t (valued c (symbols.Value ∷ symbols.ConcatMore ∷ follow b w) side old s q i)) (sym text) (one s q i)))

  -- a whole vector by its name
  whole_valued : (b : Bool) (n : List ℕ) (i : ℕ) (more : List BitView) (rest : List ℕ) (w : List Symbol) (side : Side) (old : List Bit) (c : Reader) → Named n → (v : IsVector c.draft.scope n i) → are_bits n (between v.range.left v.range.right) (SelectBit n i ∷ more) ≡ true → is_apart rest ≡ true → Settles rest (follow b w) → Val rest (follow b w) side (old ++ map (bit_of names) (SelectBit n i ∷ more)) c → Val (name_text n ++ rest) (slot b ∷ w) side old c
  whole_valued b n i more rest w side old c named v e apart settles next =
      let same = bits_of_vector names n (between v.range.left v.range.right) (SelectBit n i ∷ more) e in
      name_valued b n rest w side old c (Some v.range) named v.net apart (λ k. settles (valued c (symbols.Tail ∷ follow b w) side old (id names n) (Some v.range) k) (subst (λ x. On rest (valued c (follow b w) side (old ++ x) (id names n) (Some v.range) k)) same (next (id names n) (Some v.range) k)))

  -- a value with a bit at least
  pub value_onward : (b : Bool) (bs : List BitView) (rest : List ℕ) (w : List Symbol) (side : Side) (old : List Bit) (c : Reader) → is_filled bs ≡ true → AllBits c.draft.scope bs → list_all (allows side) bs ≡ true → is_apart rest ≡ true → Settles rest (follow b w) → Val rest (follow b w) side (old ++ map (bit_of names) bs) c → Val (value_text ranges bs ++ rest) (slot b ∷ w) side old c
  value_onward b [] rest w side old c filled h ok apart settles next = absurd cc
  value_onward b (NetBit n ∷ bs) rest w side old c filled h ok apart settles next = separate b (NetBit n ∷ bs) rest w side old c filled h ok apart settles next
  value_onward b (ConstBit v ∷ bs) rest w side old c filled h ok apart settles next = separate b (ConstBit v ∷ bs) rest w side old c filled h ok apart settles next
  value_onward b (SelectBit n i ∷ bs) rest w side old c filled h ok apart settles next = by (are_bits n (between h.0.1.range.left h.0.1.range.right) (SelectBit n i ∷ bs)) refl
    where
      by : (t : Bool) → are_bits n (between h.0.1.range.left h.0.1.range.right) (SelectBit n i ∷ bs) ≡ t → Val (value_text ranges (SelectBit n i ∷ bs) ++ rest) (slot b ∷ w) side old c
      by true e =
          let is : whole_by n (SelectBit n i ∷ bs) (ranges n) ≡ Some n = rw (h.0.1.written, e) refl in
          subst (λ x. Val (value_by (SelectBit n i ∷ bs) x ++ rest) (slot b ∷ w) side old c) (sym is) (whole_valued b n i bs rest w side old c h.0.0 h.0.1 e apart settles next)
      by false e =
          let is : whole_by n (SelectBit n i ∷ bs) (ranges n) ≡ None = rw (h.0.1.written, e) refl in
          subst (λ x. Val (value_by (SelectBit n i ∷ bs) x ++ rest) (slot b ∷ w) side old c) (sym is) (separate b (SelectBit n i ∷ bs) rest w side old c filled h ok apart settles next)
