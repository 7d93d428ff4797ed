-- Where a direction is being given that no port of the header can take, no tokens lead on to a netlist.
use Rattle.std.proofs.Common.{◌≡◌, ℕ, ◌-◌, ◌+◌, Bool, true, false, List, [], ◌∷◌, ◌++◌, length, Option, Some, None, refl, sym, ap, ◌∙◌, subst}
use Rattle.std.specs.Prelude.{is_some, is_none, not, ◌&&◌, ◌||◌, ◌==◌, if◌then◌else◌}
use Rattle.std.specs.List.{list_any}
use Rattle.std.proofs.lemmas.Bool.{true≢false, and_parts, and_from, or_left, or_right}
use Rattle.lp_text.specs.declared.names.NameId.{NameId}
use Rattle.lp_model.specs.declared.netlist.BitRange.{BitRange}
use Rattle.lp_model.specs.declared.netlist.Module.{Module}
use Rattle.lp_verilog_tokens.specs.declared.token.Token.{Token}
use Rattle.lp_verilog_tokens.specs.declared.token.Token.TheVariants as tokens
use Rattle.lp_verilog_tokens.specs.declared.token.Keyword.TheVariants as keywords
use Rattle.lp_verilog_tokens.specs.declared.token.Mark.TheVariants as marks
use Rattle.lp_verilog_tokens.specs.Cutting.{Piece}
use Rattle.lp_verilog_grammar.specs.declared.symbol.Symbol.{Symbol}
use Rattle.lp_verilog_grammar.specs.declared.symbol.Symbol.TheVariants as symbols
use Rattle.lp_verilog_draft.specs.declared.scope.Entry.{Entry}
use Rattle.lp_verilog_draft.specs.declared.declaring.Form.{Form}
use Rattle.lp_verilog_draft.specs.declared.declaring.Form.TheVariants as forms
use Rattle.lp_verilog_draft.specs.declared.declaring.Declaring.{Declaring}
use Rattle.lp_verilog_draft.specs.declared.stop.Off.TheVariants as offs
use Rattle.lp_verilog_draft.specs.Verdicts.{Verdict, Goes, Stops}
use Rattle.lp_verilog_draft.specs.Scopes as scopes
use Rattle.lp_verilog_draft.specs.Scopes.{Entries, found, declare_by, agrees, is_port, same_range, put, lacks_direction}
use Rattle.lp_verilog_grammar.specs.declared.reader.Reader.{Reader}
use Rattle.lp_verilog_grammar.specs.Grammar.{is_same_mark, on_expected}
use Rattle.lp_verilog_grammar.specs.Machine.{start, scoped, is_bracket, settled, produced, take_by, step, is_source, accepts}
use Rattle.lp_verilog.specs.Reading.{Whole, Left, behind, piece_bytes, ending}
use Rattle.lp_verilog.specs.Denotes.{numbered, Follows, Leads}
use Rattle.lp_verilog.specs.Places.{IsNetlist, is_ports, plain, has_left, fits_range, can_take, is_stuck, LeadsFrom, IsStuck}
use Rattle.lp_verilog.proofs.Renaming.{es, rd}
use Rattle.lp_verilog.proofs.Shapes.{Ok, then_right, then_name, vector_fits, there_any}
use Rattle.lp_verilog.proofs.States.{Held, start_sound}
use Rattle.lp_verilog.proofs.Fronts.{Through, reached}
use Rattle.lp_verilog.proofs.Faults.{elsewhere}

-- ---- ranges that are given: what a port can take later, it could take before

-- where each entry that passes the next test passes the first one, and none passes that, none passes the next
none_next : (first next : Entry → Bool) (xs : Entries) → ((e : Entry) → next e ≡ true → first e ≡ true) → list_any (λ e. first e.1) xs ≡ false → list_any (λ e. next e.1) xs ≡ false
none_next first next [] passes none = refl
none_next first next (x ∷ xs) passes none = by (next x.1) (first x.1) (passes x.1) none (none_next first next xs passes)
  where
    by : (a b : Bool) → (a ≡ true → b ≡ true) → (b || list_any (λ e. first e.1) xs) ≡ false → (list_any (λ e. first e.1) xs ≡ false → list_any (λ e. next e.1) xs ≡ false) → (a || list_any (λ e. next e.1) xs) ≡ false
    by false false f h more = more h
    by false true f h more = absurd (true≢false h)
    by true true f h more = absurd (true≢false h)
    by true false f h more = absurd (true≢false (sym (f refl)))

right_side : (a b c : Bool) → (b ≡ true → c ≡ true) → (a && b) ≡ true → (a && c) ≡ true
right_side true b c f h = f h
right_side false b c f h = h

-- fewer ports can take the direction where fewer ranges fit
none_fits : (d new : Declaring) (w rest : List Symbol) (xs : Entries) → ((e : Entry) → fits_range new rest e ≡ true → fits_range d w e ≡ true) → list_any (λ e. can_take d w e.1) xs ≡ false → list_any (λ e. can_take new rest e.1) xs ≡ false
none_fits d new w rest xs f none = none_next (can_take d w) (can_take new rest) xs (λ e. right_side (lacks_direction e) (fits_range new rest e) (fits_range d w e) (f e)) none

some_left : (fixed : Bool) (r : Option BitRange) (left : ℕ) → (not fixed || has_left r left) ≡ true → (not fixed || is_some r) ≡ true
some_left false r left h = refl
some_left true None left h = absurd (true≢false (sym h))
some_left true (Some r) left h = refl

left_before : (d : Declaring) (rest : List Symbol) (e : Entry) → then_right rest ≡ true → fits_range d rest e ≡ true → (not e.fixed || is_some e.range) ≡ true
left_before d (symbols.Expect marks.Colon ∷ symbols.RightBound ∷ rest) e h k = some_left e.fixed e.range d.left k
left_before d _ e h k = absurd (true≢false (sym h))

same_left : (fixed : Bool) (o : Option BitRange) (r : BitRange) → (not fixed || same_range o (Some r)) ≡ true → (not fixed || has_left o r.left) ≡ true
same_left false o r h = refl
same_left true None r h = absurd (true≢false (sym h))
same_left true (Some s) r h = (and_parts (s.left == r.left) (s.right == r.right) h).0

right_before : (d : Declaring) (rest : List Symbol) (e : Entry) (r : BitRange) → then_name rest ≡ true → fits_range (record d { range = Some r }) rest e ≡ true → (not e.fixed || has_left e.range r.left) ≡ true
right_before d (symbols.Expect marks.CloseBracket ∷ symbols.DeclaredName ∷ rest) e r h k = same_left e.fixed e.range r k
right_before d _ e r h k = absurd (true≢false (sym h))

bracket_before : (fixed same some : Bool) → (not fixed || some) ≡ true → ((not fixed || same) || some) ≡ true
bracket_before false same some h = refl
bracket_before true same some h = or_right same some h

-- ---- states

-- what is waited for comes from the grammar, and no port can take the direction that is given
abbrev pub Stuck : Declaring → List Symbol → Entries → Type 0
Stuck d w xs = Ok w × (is_ports d.form ≡ true) × (plain w ≡ false) × (list_any (λ e. can_take d w e.1) xs ≡ false)

-- a step stops, or it goes on to such a state
abbrev Stays : Verdict Reader → Type 0
Stays v = Held (λ u. Stuck u.declaring u.waiting u.draft.scope) v

-- a name is none to which the declaration as it stands can give a direction
name_stops : (m : Reader) (id : NameId) (at : ℕ) (f : Form) (d : Declaring) (xs : Entries) → is_ports f ≡ true → list_any (λ e. lacks_direction e.1 && agrees d e.1) xs ≡ false → Stays (scoped m (declare_by f d at xs id))
name_stops m id at forms.Header d xs ports none = absurd (true≢false (sym ports))
name_stops m id at forms.Wires d xs ports none = absurd (true≢false (sym ports))
name_stops m id at forms.Ports d xs ports none = given (found xs id) refl
  where
    taken_now : (e : Entry) → found xs id ≡ Some e → is_port e.kind ≡ true → (is_none e.direction && agrees d e) ≡ true → ⊥
    taken_now e is port fits =
        let parts = and_parts (is_none e.direction) (agrees d e) fits in
        let lacks : lacks_direction e ≡ true = and_from (is_port e.kind) (is_none e.direction) port parts.0 in
        true≢false (sym (there_any (λ x. lacks_direction x && agrees d x) id.0 xs e is (and_from (lacks_direction e) (agrees d e) lacks parts.1)) ∙ none)

    given : (o : Option Entry) → found xs id ≡ o → Stays (scoped m (scopes.give_direction d xs id o))
    given None is = tt
    given (Some e) is = by (is_port e.kind) (is_none e.direction && agrees d e) refl refl
      where
        new : Entry
        new = record { kind = e.kind; direction = Some d.direction; range = d.range; fixed = true; wired = e.wired; at = e.at }

        by : (a b : Bool) → is_port e.kind ≡ a → (is_none e.direction && agrees d e) ≡ b → Stays (scoped m (if not a then Stops offs.Syntax else if b then Goes (put xs id new) else Stops (offs.Duplicate id)))
        by false b p q = tt
        by true false p q = tt
        by true true p q = absurd (taken_now e is p q)

-- what may still get a range fits as it stands, if it fits at once
none_now : (d : Declaring) (xs : Entries) → list_any (λ e. lacks_direction e.1 && (agrees d e.1 || is_some e.1.range)) xs ≡ false → list_any (λ e. lacks_direction e.1 && agrees d e.1) xs ≡ false
none_now d xs none = none_next (λ e. lacks_direction e && (agrees d e || is_some e.range)) (λ e. lacks_direction e && agrees d e) xs (λ e. right_side (lacks_direction e) (agrees d e) (agrees d e || is_some e.range) (λ h. or_left (agrees d e) (is_some e.range) h)) none

-- a range begins
bracket_stays : (d : Declaring) (rest : List Symbol) (xs : Entries) → Stuck d (symbols.Vector ∷ rest) xs → Stuck d (symbols.LeftBound ∷ symbols.Expect marks.Colon ∷ symbols.RightBound ∷ symbols.Expect marks.CloseBracket ∷ symbols.DeclaredName ∷ rest) xs
bracket_stays d rest xs s =
    let next = symbols.LeftBound ∷ symbols.Expect marks.Colon ∷ symbols.RightBound ∷ symbols.Expect marks.CloseBracket ∷ symbols.DeclaredName ∷ rest in
    (vector_fits rest s.0, s.1, refl, none_fits d d (symbols.Vector ∷ rest) next xs (λ e. bracket_before e.fixed (same_range e.range d.range) (is_some e.range)) s.3)

taken : (w : List Symbol) (t : Token) (at : ℕ) (m : Reader) → Stuck m.declaring w m.draft.scope → Stays (take_by w t at m)
taken [] t at m s = tt
taken (symbols.Source ∷ rest) t at m s = absurd (true≢false s.2)
taken (symbols.Declared ∷ rest) (tokens.Keyword keywords.Wire) at m s = s
taken (symbols.Declared ∷ rest) (tokens.Mark marks.OpenBracket) at m s = bracket_stays m.declaring rest m.draft.scope s
taken (symbols.Declared ∷ rest) (tokens.Name id) at m s = name_stops (record m { waiting = rest }) id at m.declaring.form m.declaring m.draft.scope s.1 (none_now m.declaring m.draft.scope s.3)
taken (symbols.Declared ∷ rest) _ at m s = tt
taken (symbols.Vector ∷ rest) (tokens.Mark marks.OpenBracket) at m s = bracket_stays m.declaring rest m.draft.scope s
taken (symbols.Vector ∷ rest) (tokens.Name id) at m s = name_stops (record m { waiting = rest }) id at m.declaring.form m.declaring m.draft.scope s.1 (none_now m.declaring m.draft.scope s.3)
taken (symbols.Vector ∷ rest) _ at m s = tt
taken (symbols.DeclaredName ∷ rest) (tokens.Name id) at m s = name_stops (record m { waiting = rest }) id at m.declaring.form m.declaring m.draft.scope s.1 s.3
taken (symbols.DeclaredName ∷ rest) _ at m s = tt
taken (symbols.LeftBound ∷ rest) (tokens.Number (Some v)) at m s =
    let new : Declaring = record m.declaring { left = v } in
    (s.0.3, s.1, s.2, none_fits m.declaring new (symbols.LeftBound ∷ rest) rest m.draft.scope (λ e. left_before new rest e s.0.0) s.3)
taken (symbols.LeftBound ∷ rest) _ at m s = tt
taken (symbols.RightBound ∷ rest) (tokens.Number (Some v)) at m s =
    let r : BitRange = record { left = m.declaring.left; right = v } in
    (s.0.3, s.1, s.2, none_fits m.declaring (record m.declaring { range = Some r }) (symbols.RightBound ∷ rest) rest m.draft.scope (λ e. right_before m.declaring rest e r s.0.0) s.3)
taken (symbols.RightBound ∷ rest) _ at m s = tt
taken (symbols.Expect mark ∷ rest) (tokens.Mark other) at m s = by (is_same_mark mark other)
  where
    by : (b : Bool) → Stays (produced (symbols.Expect mark) rest (tokens.Mark other) at m (on_expected b))
    by true = (s.0.3, s.1, s.2, s.3)
    by false = tt
taken (symbols.Expect mark ∷ rest) _ at m s = tt
taken (_ ∷ rest) t at m s = absurd (true≢false (sym s.0.0 ∙ s.2))

settled_stuck : (m : Reader) (b : Bool) (w : List Symbol) → Ok w → plain w ≡ false → settled m b w ≡ m
settled_stuck m true w fits waits = refl
settled_stuck m false [] fits waits = refl
settled_stuck m false (symbols.Tail ∷ rest) fits waits = absurd (true≢false (sym fits.0 ∙ waits))
settled_stuck m false (_ ∷ rest) fits waits = refl

-- each token keeps the direction from being given
step_stays : (t : Token) (at : ℕ) (m : Reader) → Stuck m.declaring m.waiting m.draft.scope → Stays (step t at m)
step_stays t at m s = subst (λ r. Stays (take_by r.waiting t at r)) (sym (settled_stuck m (is_bracket t) m.waiting s.0 s.2)) (taken m.waiting t at m s)

no_source : (w : List Symbol) → plain w ≡ false → is_source w ≡ false
no_source [] waits = refl
no_source (symbols.Source ∷ rest) waits = absurd (true≢false waits)
no_source (_ ∷ rest) waits = refl

-- no tokens lead on to the end of a text
leads_nowhere : (names : List (List ℕ)) (size : ℕ) (ts : List Piece) (fresh : Bool) (rest : List ℕ) (m : Reader) (ms : List Module) → Stuck m.declaring m.waiting m.draft.scope → Leads names size ts fresh rest m (Whole ms) → ⊥
leads_nowhere names size [] fresh rest m ms s h = refused_end (no_source m.waiting s.2) h.1
  where
    refused_end : accepts m ≡ false → Whole ms ≡ ending size m → ⊥
    refused_end refused is = let left : Whole ms ≡ Left offs.Syntax size [] = is ∙ rw refused refl in absurd cc
leads_nowhere names size (p ∷ ts) fresh rest m ms s h = by (step (numbered names p.lexeme) at m) (step_stays (numbered names p.lexeme) at m s) h.2 (λ u kept k. leads_nowhere names size ts false (behind p rest) u ms kept k)
  where
    at : ℕ
    at = size - length rest + p.gap

    by : (v : Verdict Reader) → Stays v → Follows (λ n. Leads names size ts false (behind p rest) n (Whole ms)) ts at (piece_bytes p rest) (Whole ms) v → ((u : Reader) → Stuck u.declaring u.waiting u.draft.scope → Leads names size ts false (behind p rest) u (Whole ms) → ⊥) → ⊥
    by (Goes u) kept k more = more u kept k
    by (Stops off) kept k more = absurd cc

-- ---- over other names

any_same : (ρ : ℕ → ℕ) (test : Entry → Bool) (xs : Entries) → list_any (λ e. test e.1) (es ρ xs) ≡ list_any (λ e. test e.1) xs
any_same ρ test [] = refl
any_same ρ test (x ∷ xs) = ap (λ b. test x.1 || b) (any_same ρ test xs)

no_true : (b : Bool) → not b ≡ true → b ≡ false
no_true true h = absurd (true≢false (sym h))
no_true false h = refl

stuck_moved : (ρ : ℕ → ℕ) (m : Reader) → Ok m.waiting → is_stuck m ≡ true → Stuck m.declaring m.waiting (es ρ m.draft.scope)
stuck_moved ρ m fits h =
    let takes = list_any (λ e. can_take m.declaring m.waiting e.1) m.draft.scope in
    let parts = and_parts (is_ports m.declaring.form) (not (plain m.waiting) && not takes) h in
    let waits = and_parts (not (plain m.waiting)) (not takes) parts.1 in
    (fits, parts.0, no_true (plain m.waiting) waits.0, any_same ρ (can_take m.declaring m.waiting) m.draft.scope ∙ no_true takes waits.1)

module _ (names : List (List ℕ)) (size : ℕ) where
  -- the place in the text to which tokens lead
  through_of : (front : List Piece) (fresh : Bool) (rest : List ℕ) (m last : Reader) → LeadsFrom names size front fresh rest m last → (fresh2 : Bool) × (rest2 : List ℕ) × Through names size front fresh rest m fresh2 rest2 last
  through_of [] fresh rest m last h = (fresh, rest, (refl, refl, h))
  through_of (p ∷ front) fresh rest m last h = let t = through_of front false (behind p rest) h.2.0 last h.2.2 in (t.0, t.1, (h.0, h.1, (h.2.0, h.2.1, t.2)))

pub stuck_reads_nothing : (text : List ℕ) (front more : List Piece) → IsStuck text front → IsNetlist (front ++ more) → ⊥
stuck_reads_nothing text front more s k =
    let t = through_of s.names (length text) front true text start s.last s.leads in
    let r = reached s.names (length text) front true text start t.0 t.1 s.last (start_sound (length s.names)) t.2 in
    let e = elsewhere s.names text s.apart s.few front t.0 t.1 s.last more t.2 k in
    let here = e.past in
    leads_nowhere e.table e.size2 more here.fresh here.rest (rd e.ρ s.last) e.modules (stuck_moved e.ρ s.last r.sound.waits s.stuck) here.leads
