-- What is waited for, and what holds of the state of a reader between tokens.
use Rattle.std.proofs.Common.{◌≡◌, ℕ, suc, ◌+◌, Bool, true, false, List, [], ◌∷◌, ◌++◌, Option, Some, None, refl, sym, ap, ◌∙◌, subst, arith}
use Rattle.std.specs.Prelude.{nat_eq, nat_lt, nat_le, cond, not, ◌&&◌, ◌||◌, if◌then◌else◌}
use Rattle.std.specs.List.{list_all, list_any}
use Rattle.std.specs.Map.{lookup}
use Rattle.indexmap.specs.IndexMap.{insert_entry}
use Rattle.indexmap.specs.IndexSet.{insert_key}
use Rattle.std.proofs.lemmas.Bool.{true≢false, and_parts, and_from, or_left, or_right, false_from_ne_true, eqb-true, eq-eqb}
use Rattle.std.proofs.lemmas.Bool.Decides.{nat_tests}
use Rattle.lp_model.specs.declared.netlist.BitRange.{BitRange}
use Rattle.lp_verilog_tokens.specs.declared.token.Token.{Token}
use Rattle.lp_verilog_tokens.specs.declared.token.Token.TheVariants as tokens
use Rattle.lp_verilog_tokens.specs.declared.token.Keyword.TheVariants as keywords
use Rattle.lp_verilog_tokens.specs.declared.token.Mark.TheVariants as marks
use Rattle.lp_verilog_grammar.specs.declared.symbol.Symbol.{Symbol}
use Rattle.lp_verilog_grammar.specs.declared.symbol.Symbol.TheVariants as symbols
use Rattle.lp_verilog_draft.specs.declared.scope.Entry.{Entry}
use Rattle.lp_verilog_draft.specs.Scopes.{Entries, lacks_direction, lacking_of}
use Rattle.lp_verilog_grammar.specs.Grammar.{Production, production}
use Rattle.lp_verilog_grammar.specs.Machine.{is_bracket, is_source}
use Rattle.lp_verilog.specs.Places.{plain}

-- ---- what is waited for

-- no part of a select, and nothing that may begin with a bracket, is waited for at once
abbrev pub calm : List Symbol → Bool
calm (symbols.Index ∷ rest) = false
calm (symbols.IndexMore ∷ rest) = false
calm (symbols.SecondIndex ∷ rest) = false
calm (symbols.Tail ∷ rest) = false
calm (symbols.Declared ∷ rest) = false
calm (symbols.Vector ∷ rest) = false
calm _ = true

-- behind the left bound of a range comes the right one
abbrev pub then_right : List Symbol → Bool
then_right (symbols.Expect marks.Colon ∷ symbols.RightBound ∷ rest) = true
then_right _ = false

-- behind the right bound the range ends, and a name comes
abbrev pub then_name : List Symbol → Bool
then_name (symbols.Expect marks.CloseBracket ∷ symbols.DeclaredName ∷ rest) = true
then_name _ = false

-- what is waited for comes from the grammar
abbrev pub Ok : List Symbol → Type 0
Ok [] = ⊥
Ok (symbols.Source ∷ rest) = Unit {0}
Ok (symbols.Items ∷ rest) = (plain rest ≡ true) × (calm rest ≡ true) × Ok rest
Ok (symbols.Index ∷ rest) = (plain rest ≡ true) × (is_source rest ≡ false) × Ok rest
Ok (symbols.LeftBound ∷ rest) = (then_right rest ≡ true) × (calm rest ≡ true) × (is_source rest ≡ false) × Ok rest
Ok (symbols.RightBound ∷ rest) = (then_name rest ≡ true) × (calm rest ≡ true) × (is_source rest ≡ false) × Ok rest
Ok (symbols.Expect mark ∷ rest) = (is_bracket (tokens.Mark mark) ≡ false) × (calm rest ≡ true) × (is_source rest ≡ false) × Ok rest
Ok (s ∷ rest) = (plain rest ≡ true) × (calm rest ≡ true) × (is_source rest ≡ false) × Ok rest

abbrev pub Fits : Option Production → List Symbol → Type 0
Fits None rest = Unit {0}
Fits (Some p) rest = Ok (p.follow ++ rest)

pub vector_fits : (rest : List Symbol) → (plain rest ≡ true) × (calm rest ≡ true) × (is_source rest ≡ false) × Ok rest → Ok (symbols.LeftBound ∷ symbols.Expect marks.Colon ∷ symbols.RightBound ∷ symbols.Expect marks.CloseBracket ∷ symbols.DeclaredName ∷ rest)
vector_fits rest h = (refl, refl, refl, (refl, refl, refl, (refl, refl, refl, (refl, refl, refl, h))))

pub fits : (s : Symbol) (t : Token) (rest : List Symbol) → Ok (s ∷ rest) → Fits (production s t) rest
fits symbols.Source (tokens.Keyword keywords.Module) rest h = (refl, refl, refl, (refl, refl, refl, (refl, refl, tt)))
fits symbols.Source _ rest h = tt
fits symbols.ModuleName (tokens.Name n) rest h = h.3
fits symbols.ModuleName _ rest h = tt
fits symbols.Header (tokens.Mark marks.Semicolon) rest h = h.3
fits symbols.Header (tokens.Mark marks.Open) rest h = (h.0, refl, refl, (refl, h.1, h.2, h.3))
fits symbols.Header _ rest h = tt
fits symbols.Ports (tokens.Mark marks.Close) rest h = h.3
fits symbols.Ports (tokens.Name n) rest h = h
fits symbols.Ports (tokens.Keyword keywords.Input) rest h = (h.0, refl, refl, h)
fits symbols.Ports (tokens.Keyword keywords.Output) rest h = (h.0, refl, refl, h)
fits symbols.Ports _ rest h = tt
fits symbols.PortsMore (tokens.Mark marks.Comma) rest h = (h.0, refl, refl, h)
fits symbols.PortsMore (tokens.Mark marks.Close) rest h = h.3
fits symbols.PortsMore _ rest h = tt
fits symbols.PortName (tokens.Name n) rest h = h.3
fits symbols.PortName _ rest h = tt
fits symbols.HeaderMore (tokens.Mark marks.Comma) rest h = (h.0, refl, refl, h)
fits symbols.HeaderMore (tokens.Mark marks.Close) rest h = h.3
fits symbols.HeaderMore _ rest h = tt
fits symbols.HeaderPort (tokens.Keyword keywords.Input) rest h = h
fits symbols.HeaderPort (tokens.Keyword keywords.Output) rest h = h
fits symbols.HeaderPort (tokens.Name n) rest h = h.3
fits symbols.HeaderPort _ rest h = tt
fits (symbols.Expect marks.Open) (tokens.Mark marks.Open) rest h = h.3
fits (symbols.Expect marks.Close) (tokens.Mark marks.Close) rest h = h.3
fits (symbols.Expect marks.OpenBracket) (tokens.Mark marks.OpenBracket) rest h = h.3
fits (symbols.Expect marks.CloseBracket) (tokens.Mark marks.CloseBracket) rest h = h.3
fits (symbols.Expect marks.OpenBrace) (tokens.Mark marks.OpenBrace) rest h = h.3
fits (symbols.Expect marks.CloseBrace) (tokens.Mark marks.CloseBrace) rest h = h.3
fits (symbols.Expect marks.Comma) (tokens.Mark marks.Comma) rest h = h.3
fits (symbols.Expect marks.Semicolon) (tokens.Mark marks.Semicolon) rest h = h.3
fits (symbols.Expect marks.Colon) (tokens.Mark marks.Colon) rest h = h.3
fits (symbols.Expect marks.Dot) (tokens.Mark marks.Dot) rest h = h.3
fits (symbols.Expect marks.Equals) (tokens.Mark marks.Equals) rest h = h.3
fits (symbols.Expect mark) _ rest h = tt
fits symbols.Declared (tokens.Keyword keywords.Wire) rest h = h
fits symbols.Declared (tokens.Mark marks.OpenBracket) rest h = vector_fits rest h
fits symbols.Declared (tokens.Name n) rest h = h.3
fits symbols.Declared _ rest h = tt
fits symbols.Vector (tokens.Mark marks.OpenBracket) rest h = vector_fits rest h
fits symbols.Vector (tokens.Name n) rest h = h.3
fits symbols.Vector _ rest h = tt
fits symbols.DeclaredName (tokens.Name n) rest h = h.3
fits symbols.DeclaredName _ rest h = tt
fits symbols.LeftBound (tokens.Number (Some v)) rest h = h.3
fits symbols.LeftBound _ rest h = tt
fits symbols.RightBound (tokens.Number (Some v)) rest h = h.3
fits symbols.RightBound _ rest h = tt
fits symbols.Items (tokens.Keyword keywords.EndModule) rest h = h.2
fits symbols.Items (tokens.Keyword keywords.Input) rest h = (h.0, refl, refl, (h.0, refl, refl, h))
fits symbols.Items (tokens.Keyword keywords.Output) rest h = (h.0, refl, refl, (h.0, refl, refl, h))
fits symbols.Items (tokens.Keyword keywords.Wire) rest h = (h.0, refl, refl, (h.0, refl, refl, h))
fits symbols.Items (tokens.Keyword keywords.Assign) rest h = (h.0, refl, refl, (h.0, refl, refl, (h.0, refl, refl, (h.0, refl, refl, h))))
fits symbols.Items (tokens.Name n) rest h = (h.0, refl, refl, (h.0, refl, refl, h))
fits symbols.Items _ rest h = tt
fits symbols.DeclaredMore (tokens.Mark marks.Comma) rest h = (h.0, refl, refl, h)
fits symbols.DeclaredMore (tokens.Mark marks.Semicolon) rest h = h.3
fits symbols.DeclaredMore _ rest h = tt
fits symbols.InstanceName (tokens.Name n) rest h = (refl, refl, refl, h)
fits symbols.InstanceName _ rest h = tt
fits symbols.InstanceMore (tokens.Mark marks.Comma) rest h = (h.0, refl, refl, h)
fits symbols.InstanceMore (tokens.Mark marks.Semicolon) rest h = h.3
fits symbols.InstanceMore _ rest h = tt
fits symbols.Connections (tokens.Mark marks.Close) rest h = h.3
fits symbols.Connections (tokens.Mark marks.Dot) rest h = (h.0, refl, refl, h)
fits symbols.Connections (tokens.Name n) rest h = (h.0, refl, refl, h)
fits symbols.Connections (tokens.Constant size value) rest h = h
fits symbols.Connections (tokens.Mark marks.OpenBrace) rest h = (h.0, refl, refl, (h.0, refl, refl, h))
fits symbols.Connections _ rest h = tt
fits symbols.NamedMore (tokens.Mark marks.Comma) rest h = (refl, refl, refl, (h.0, refl, refl, h))
fits symbols.NamedMore (tokens.Mark marks.Close) rest h = h.3
fits symbols.NamedMore _ rest h = tt
fits symbols.ConnectionName (tokens.Name n) rest h = (refl, refl, refl, h)
fits symbols.ConnectionName _ rest h = tt
fits symbols.NamedValue (tokens.Mark marks.Close) rest h = h.3
fits symbols.NamedValue (tokens.Name n) rest h = (h.0, refl, refl, h)
fits symbols.NamedValue (tokens.Constant size value) rest h = h
fits symbols.NamedValue (tokens.Mark marks.OpenBrace) rest h = (h.0, refl, refl, (h.0, refl, refl, h))
fits symbols.NamedValue _ rest h = tt
fits symbols.NamedEnd (tokens.Mark marks.Close) rest h = h.3
fits symbols.NamedEnd _ rest h = tt
fits symbols.OrderedMore (tokens.Mark marks.Comma) rest h = (h.0, refl, refl, h)
fits symbols.OrderedMore (tokens.Mark marks.Close) rest h = h.3
fits symbols.OrderedMore _ rest h = tt
fits symbols.Value (tokens.Name n) rest h = h
fits symbols.Value (tokens.Constant size value) rest h = h.3
fits symbols.Value (tokens.Mark marks.OpenBrace) rest h = (h.0, refl, refl, h)
fits symbols.Value _ rest h = tt
fits symbols.Tail (tokens.Mark marks.OpenBracket) rest h = (h.0, refl, h)
fits symbols.Tail _ rest h = tt
fits symbols.ConcatMore (tokens.Mark marks.Comma) rest h = (h.0, refl, refl, h)
fits symbols.ConcatMore (tokens.Mark marks.CloseBrace) rest h = h.3
fits symbols.ConcatMore _ rest h = tt
fits symbols.Index (tokens.Number (Some v)) rest h = h.2
fits symbols.Index _ rest h = tt
fits symbols.IndexMore (tokens.Mark marks.CloseBracket) rest h = h.3
fits symbols.IndexMore (tokens.Mark marks.Colon) rest h = (h.0, refl, refl, (refl, h.1, h.2, h.3))
fits symbols.IndexMore _ rest h = tt
fits symbols.SecondIndex (tokens.Number (Some v)) rest h = h.3
fits symbols.SecondIndex _ rest h = tt
fits symbols.AssignSign (tokens.Mark marks.Equals) rest h = h.3
fits symbols.AssignSign _ rest h = tt
fits symbols.AssignMore (tokens.Mark marks.Comma) rest h = (h.0, refl, refl, (h.0, refl, refl, (h.0, refl, refl, h)))
fits symbols.AssignMore (tokens.Mark marks.Semicolon) rest h = h.3
fits symbols.AssignMore _ rest h = tt

-- ---- the names of a module

-- a range bound is a number of 32 bits
abbrev pub is_small : ℕ → Bool
is_small i = nat_le i 4294967295

abbrev pub small : Option BitRange → Bool
small None = true
small (Some r) = is_small r.left && is_small r.right

abbrev pub has : ℕ → Entries → Bool
has k [] = false
has k (e ∷ es) = nat_eq k e.0 || has k es

-- each name has one entry
abbrev pub uniq : Entries → Bool
uniq [] = true
uniq (e ∷ es) = not (has e.0 es) && uniq es

abbrev pub entry_ok : ℕ → (ℕ × Entry) → Bool
entry_ok n e = nat_lt e.0 n && small e.1.range

-- the names have one entry each, are below a number, and have small ranges
abbrev pub Good : ℕ → Entries → Type 0
Good n es = (uniq es ≡ true) × (list_all (entry_ok n) es ≡ true)

eq_refl : (k : ℕ) → nat_eq k k ≡ true
eq_refl k = eq-eqb k k refl

pub eq_sym : (j k : ℕ) → nat_eq j k ≡ false → nat_eq k j ≡ false
eq_sym j k e = false_from_ne_true (nat_eq k j) (λ h. absurd (true≢false (sym (eq-eqb j k (sym (eqb-true k j h))) ∙ e)))

has_insert : (j k : ℕ) (v : Entry) → nat_eq j k ≡ false → (es : Entries) → has j (insert_entry nat_eq es k v) ≡ has j es
has_insert j k v e [] = rw e refl
has_insert j k v e (x ∷ es) = by (nat_eq k x.0) (has_insert j k v e es)
  where
    by : (b : Bool) → has j (insert_entry nat_eq es k v) ≡ has j es → has j (if b then (x.0, v) ∷ es else x ∷ insert_entry nat_eq es k v) ≡ has j (x ∷ es)
    by true more = refl
    by false more = ap (λ y. nat_eq j x.0 || y) more

uniq_insert : (k : ℕ) (v : Entry) (es : Entries) → uniq es ≡ true → uniq (insert_entry nat_eq es k v) ≡ true
uniq_insert k v [] h = refl
uniq_insert k v (x ∷ es) h = let parts = and_parts (not (has x.0 es)) (uniq es) h in by (nat_eq k x.0) refl (uniq_insert k v es parts.1)
  where
    by : (b : Bool) → nat_eq k x.0 ≡ b → uniq (insert_entry nat_eq es k v) ≡ true → uniq (if b then (x.0, v) ∷ es else x ∷ insert_entry nat_eq es k v) ≡ true
    by true e more = h
    by false e more = and_from (not (has x.0 (insert_entry nat_eq es k v))) (uniq (insert_entry nat_eq es k v)) (ap not (has_insert x.0 k v (eq_sym k x.0 e) es) ∙ (and_parts (not (has x.0 es)) (uniq es) h).0) more

all_insert : (n k : ℕ) (v : Entry) → entry_ok n (k, v) ≡ true → (es : Entries) → list_all (entry_ok n) es ≡ true → list_all (entry_ok n) (insert_entry nat_eq es k v) ≡ true
all_insert n k v ok [] h = and_from (entry_ok n (k, v)) true ok refl
all_insert n k v ok (x ∷ es) h = let parts = and_parts (entry_ok n x) (list_all (entry_ok n) es) h in by (nat_eq k x.0) refl (all_insert n k v ok es parts.1)
  where
    by : (b : Bool) → nat_eq k x.0 ≡ b → list_all (entry_ok n) (insert_entry nat_eq es k v) ≡ true → list_all (entry_ok n) (if b then (x.0, v) ∷ es else x ∷ insert_entry nat_eq es k v) ≡ true
    by true e more =
        let parts = and_parts (entry_ok n x) (list_all (entry_ok n) es) h in
        let here = and_parts (nat_lt x.0 n) (small x.1.range) parts.0 in
        let new = and_parts (nat_lt k n) (small v.range) ok in
        and_from (entry_ok n (x.0, v)) (list_all (entry_ok n) es) (and_from (nat_lt x.0 n) (small v.range) here.0 new.1) parts.1
    by false e more = and_from (entry_ok n x) (list_all (entry_ok n) (insert_entry nat_eq es k v)) (and_parts (entry_ok n x) (list_all (entry_ok n) es) h).0 more

pub put_good : (n k : ℕ) (v : Entry) (es : Entries) → nat_lt k n ≡ true → small v.range ≡ true → Good n es → Good n (insert_entry nat_eq es k v)
put_good n k v es below range g = (uniq_insert k v es g.0, all_insert n k v (and_from (nat_lt k n) (small v.range) below range) es g.1)

lt_more : (k n : ℕ) → nat_lt k n ≡ true → nat_lt k (suc n) ≡ true
lt_more k n h = grind (arith, nat_tests)

all_more : (n : ℕ) (es : Entries) → list_all (entry_ok n) es ≡ true → list_all (entry_ok (suc n)) es ≡ true
all_more n [] h = refl
all_more n (x ∷ es) h =
    let parts = and_parts (entry_ok n x) (list_all (entry_ok n) es) h in
    let here = and_parts (nat_lt x.0 n) (small x.1.range) parts.0 in
    and_from (entry_ok (suc n) x) (list_all (entry_ok (suc n)) es) (and_from (nat_lt x.0 (suc n)) (small x.1.range) (lt_more x.0 n here.0) here.1) (all_more n es parts.1)

pub good_more : (n : ℕ) (es : Entries) → Good n es → Good (suc n) es
good_more n es g = (g.0, all_more n es g.1)

not_same : (k n : ℕ) → nat_lt k n ≡ true → nat_eq n k ≡ false
not_same k n h = grind (arith, nat_tests)

-- a number that is greater than all is new
pub none_there : (n : ℕ) (es : Entries) → list_all (entry_ok n) es ≡ true → lookup (nat_eq n) es ≡ None
none_there n [] h = refl
none_there n (x ∷ es) h =
    let parts = and_parts (entry_ok n x) (list_all (entry_ok n) es) h in
    let here = and_parts (nat_lt x.0 n) (small x.1.range) parts.0 in
    rw (not_same x.0 n here.0) (none_there n es parts.1)

abbrev pub below : ℕ → List ℕ → Bool
below n ks = list_all (λ k. nat_lt k n) ks

pub none_taken : (n : ℕ) (ks : List ℕ) → below n ks ≡ true → list_any (nat_eq n) ks ≡ false
none_taken n [] h = refl
none_taken n (k ∷ ks) h =
    let parts = and_parts (nat_lt k n) (below n ks) h in
    rw (not_same k n parts.0) (none_taken n ks parts.1)

pub below_more : (n : ℕ) (ks : List ℕ) → below n ks ≡ true → below (suc n) ks ≡ true
below_more n [] h = refl
below_more n (k ∷ ks) h =
    let parts = and_parts (nat_lt k n) (below n ks) h in
    and_from (nat_lt k (suc n)) (below (suc n) ks) (lt_more k n parts.0) (below_more n ks parts.1)

below_end : (n k : ℕ) (ks : List ℕ) → nat_lt k n ≡ true → below n ks ≡ true → below n (ks ++ k ∷ []) ≡ true
below_end n k [] h g = and_from (nat_lt k n) true h refl
below_end n k (x ∷ ks) h g = let parts = and_parts (nat_lt x n) (below n ks) g in and_from (nat_lt x n) (below n (ks ++ k ∷ [])) parts.0 (below_end n k ks h parts.1)

pub below_insert : (n k : ℕ) (ks : List ℕ) → nat_lt k n ≡ true → below n ks ≡ true → below n (insert_key nat_eq ks k) ≡ true
below_insert n k ks h g = by (list_any (nat_eq k) ks)
  where
    by : (b : Bool) → below n (if b then ks else ks ++ k ∷ []) ≡ true
    by true = g
    by false = below_end n k ks h g

-- ---- an entry that passes a test

has_where : (k : ℕ) (es : Entries) (e : Entry) → lookup (nat_eq k) es ≡ Some e → has k es ≡ true
has_where k [] e h = absurd cc
has_where k (x ∷ es) e h = by (nat_eq k x.0) h (has_where k es e)
  where
    by : (b : Bool) → cond b (Some x.1) (lookup (nat_eq k) es) ≡ Some e → (lookup (nat_eq k) es ≡ Some e → has k es ≡ true) → (b || has k es) ≡ true
    by true f more = refl
    by false f more = more f

pub record Found (test : Entry → Bool) (n : ℕ) (es : Entries) : Type 0 where
  pub key : ℕ
  pub entry : Entry
  pub there : lookup (nat_eq key) es ≡ Some entry
  pub passes : test entry ≡ true
  pub under : nat_lt key n ≡ true
  pub narrow : small entry.range ≡ true

pub some_found : (test : Entry → Bool) (n : ℕ) (es : Entries) → Good n es → list_any (λ e. test e.1) es ≡ true → Found test n es
some_found test n [] g h = absurd (true≢false (sym h))
some_found test n (x ∷ es) g h =
    let fresh = and_parts (not (has x.0 es)) (uniq es) g.0 in
    let parts = and_parts (entry_ok n x) (list_all (entry_ok n) es) g.1 in
    by (test x.1) refl h (λ k. some_found test n es (fresh.1, parts.1) k)
  where
    by : (b : Bool) → test x.1 ≡ b → (b || list_any (λ e. test e.1) es) ≡ true → (list_any (λ e. test e.1) es ≡ true → Found test n es) → Found test n (x ∷ es)
    by true e k more =
        let parts = and_parts (entry_ok n x) (list_all (entry_ok n) es) g.1 in
        let here = and_parts (nat_lt x.0 n) (small x.1.range) parts.0 in
        record { key = x.0; entry = x.1; there = ap (λ b. cond b (Some x.1) (lookup (nat_eq x.0) es)) (eq_refl x.0); passes = e; under = here.0; narrow = here.1 }
    by false e k more =
        let f = more k in
        let fresh = and_parts (not (has x.0 es)) (uniq es) g.0 in
        let other : nat_eq f.key x.0 ≡ false = false_from_ne_true (nat_eq f.key x.0) (λ same.
        let is : f.key ≡ x.0 = eqb-true f.key x.0 same in
        let has_it : has x.0 es ≡ true = subst (λ k. has k es ≡ true) is (has_where f.key es f.entry f.there) in
        absurd (true≢false (sym fresh.0 ∙ ap not has_it))) in
        record { key = f.key; entry = f.entry; there = ap (λ b. cond b (Some x.1) (lookup (nat_eq f.key) es)) other ∙ f.there; passes = f.passes; under = f.under; narrow = f.narrow }

pub there_any : (test : Entry → Bool) (k : ℕ) (es : Entries) (e : Entry) → lookup (nat_eq k) es ≡ Some e → test e ≡ true → list_any (λ x. test x.1) es ≡ true
there_any test k [] e h passes = absurd cc
there_any test k (x ∷ es) e h passes = by (nat_eq k x.0) h (there_any test k es e)
  where
    by : (b : Bool) → cond b (Some x.1) (lookup (nat_eq k) es) ≡ Some e → (lookup (nat_eq k) es ≡ Some e → test e ≡ true → list_any (λ y. test y.1) es ≡ true) → (test x.1 || list_any (λ y. test y.1) es) ≡ true
    by true f more = let same : x.1 ≡ e = cc in or_left (test x.1) (list_any (λ y. test y.1) es) (ap test same ∙ passes)
    by false f more = or_right (test x.1) (list_any (λ y. test y.1) es) (more f passes)

-- where one entry passes one test, and the next test too, some entry passes that
pub some_passes : (first next : Entry → Bool) (n : ℕ) (es : Entries) → Good n es → ((e : Entry) → first e ≡ true → next e ≡ true) → list_any (λ e. first e.1) es ≡ true → list_any (λ e. next e.1) es ≡ true
some_passes first next n es g more h = let f = some_found first n es g h in there_any next f.key es f.entry f.there (more f.entry f.passes)

-- ---- ports without a direction

abbrev pub lacking_count : Entries → ℕ
lacking_count [] = 0
lacking_count (e ∷ es) = (if lacks_direction e.1 then 1 else 0) + lacking_count es

pub none_lacks : (es : Entries) → lacking_count es ≡ 0 → lacking_of es ≡ None
none_lacks [] h = refl
none_lacks (x ∷ es) h = by (lacks_direction x.1) h (none_lacks es)
  where
    by : (b : Bool) → (if b then 1 else 0) + lacking_count es ≡ 0 → (lacking_count es ≡ 0 → lacking_of es ≡ None) → (if b then Some x.1.at else lacking_of es) ≡ None
    by true k more = let f : ⊥ = omega arith in absurd f
    by false k more = more (omega arith)

pub some_lacks : (c : ℕ) (es : Entries) → lacking_count es ≡ suc c → list_any (λ e. lacks_direction e.1) es ≡ true
some_lacks c [] h = let f : ⊥ = omega arith in absurd f
some_lacks c (x ∷ es) h = by (lacks_direction x.1) h (some_lacks c es)
  where
    by : (b : Bool) → (if b then 1 else 0) + lacking_count es ≡ suc c → (lacking_count es ≡ suc c → list_any (λ e. lacks_direction e.1) es ≡ true) → (b || list_any (λ e. lacks_direction e.1) es) ≡ true
    by true k more = refl
    by false k more = more (omega arith)

same_entry : (a b : Entry) → Some a ≡ Some b → a ≡ b
same_entry a b e = cc

-- one port fewer lacks its direction
pub fewer_lack : (k : ℕ) (v : Entry) → lacks_direction v ≡ false → (es : Entries) (e : Entry) → lookup (nat_eq k) es ≡ Some e → lacks_direction e ≡ true → lacking_count es ≡ suc (lacking_count (insert_entry nat_eq es k v))
fewer_lack k v given [] e h l = absurd cc
fewer_lack k v given (x ∷ es) e h l = by (nat_eq k x.0) h (fewer_lack k v given es e)
  where
    by : (b : Bool) → cond b (Some x.1) (lookup (nat_eq k) es) ≡ Some e → (lookup (nat_eq k) es ≡ Some e → lacks_direction e ≡ true → lacking_count es ≡ suc (lacking_count (insert_entry nat_eq es k v))) → lacking_count (x ∷ es) ≡ suc (lacking_count (if b then (x.0, v) ∷ es else x ∷ insert_entry nat_eq es k v))
    by true f more =
        let old : lacks_direction x.1 ≡ true = ap lacks_direction (same_entry x.1 e f) ∙ l in
        rw (old, given) (omega arith)
    by false f more = let fewer = more f l in omega (arith, fewer)
