-- What holds of a reader by its phase is kept by each token, and so of what a text denotes.
use Rattle.std.proofs.Common.{◌≡◌, ℕ, ◌+◌, ◌-◌, Bool, true, false, List, [], ◌∷◌, ◌++◌, length, Option, Some, None, refl, sym, ap, ◌∙◌, subst}
use Rattle.std.specs.Prelude.{nat_eq, if◌then◌else◌}
use Rattle.std.specs.List.{list_any}
use Rattle.indexmap.specs.IndexSet.{insert_key}
use Rattle.lp_model.specs.declared.netlist.Module.{Module}
use Rattle.lp_verilog_tokens.specs.declared.token.Token.{Token}
use Rattle.lp_verilog_tokens.specs.declared.token.Token.TheVariants as tokens
use Rattle.lp_verilog_tokens.specs.declared.token.Keyword.TheVariants as keywords
use Rattle.lp_verilog_tokens.specs.Cutting.{Piece, piece_of}
use Rattle.lp_verilog_draft.specs.declared.stop.Off.TheVariants as offs
use Rattle.lp_verilog_draft.specs.declared.value.Value.{Value}
use Rattle.lp_verilog_draft.specs.Verdicts.{Verdict, Goes, Stops, and_then}
use Rattle.lp_verilog_draft.specs.Scopes.{Entries, add_new, declare, found, listed, instance_entry, use_name, lacking_of}
use Rattle.lp_verilog_draft.specs.Steps
use Rattle.lp_verilog_grammar.specs.declared.symbol.Symbol.{Symbol}
use Rattle.lp_verilog_grammar.specs.declared.symbol.Symbol.TheVariants as symbols
use Rattle.lp_verilog_grammar.specs.declared.symbol.Action.{Action}
use Rattle.lp_verilog_grammar.specs.declared.symbol.Action.TheVariants as actions
use Rattle.lp_verilog_grammar.specs.declared.reader.Reader.{Reader}
use Rattle.lp_verilog_grammar.specs.Grammar.{Production, production}
use Rattle.lp_verilog_grammar.specs.Machine.{start, with_value, scoped, valued, begun_instance, with_subject, start_value, perform, is_bracket, settled, settle, produced, take_by, step, accepts}
use Rattle.lp_verilog.specs.Reading.{Whole, Left, behind, piece_bytes}
use Rattle.lp_verilog.specs.Denotes.{numbered, is_known, Follows, Leads, Denotes}
use Rattle.lp_verilog.proofs.States.{Held}
use Rattle.lp_verilog.proofs.Phases.{Context, Outside, Empty, Subject, Indexed, Filled, Phase, In, past, act, then_run, run, run_append, one_of, kept, fine, leads_on}

-- ---- an action leaves what is waited for

scoped_waits : (m : Reader) (v : Verdict Entries) → Held (λ u. u.waiting ≡ m.waiting) (scoped m v)
scoped_waits m (Goes es) = refl
scoped_waits m (Stops off) = tt

valued_waits : (m : Reader) (v : Verdict Value) → Held (λ u. u.waiting ≡ m.waiting) (valued m v)
valued_waits m (Goes v) = refl
valued_waits m (Stops off) = tt

then_waits : (m : Reader) (f : Reader → Reader) → ((u : Reader) → (f u).waiting ≡ u.waiting) → (v : Verdict Reader) → Held (λ u. u.waiting ≡ m.waiting) v → Held (λ u. u.waiting ≡ m.waiting) (and_then v (λ r. Goes (f r)))
then_waits m f same (Goes u) h = same u ∙ h
then_waits m f same (Stops off) h = tt

start_waits : (m : Reader) (at : ℕ) (t : Token) → Held (λ u. u.waiting ≡ m.waiting) (start_value m at t)
start_waits m at (tokens.Name id) = then_waits m (with_subject id) (λ u. refl) (scoped m (use_name m.value.side at m.draft.scope id)) (scoped_waits m (use_name m.value.side at m.draft.scope id))
start_waits m at (tokens.Constant size value) = valued_waits m (Steps.value_constant size value m.value)
start_waits m at (tokens.Mark mark) = refl
start_waits m at _ = tt

perform_waits : (a : Action) (t : Token) (at : ℕ) (m : Reader) → Held (λ u. u.waiting ≡ m.waiting) (perform a t at m)
perform_waits actions.Pass t at m = refl
perform_waits actions.BeginModule (tokens.Name id) at m = by (list_any (nat_eq id.0) m.taken)
  where
    by : (b : Bool) → Held (λ u. u.waiting ≡ m.waiting) (if b then Stops (offs.Duplicate id) else Goes (record m { taken = insert_key nat_eq m.taken id.0; draft = Steps.module_named id }))
    by true = tt
    by false = refl
perform_waits actions.BeginModule _ at m = tt
perform_waits actions.ListPort (tokens.Name id) at m = scoped_waits m (add_new m.draft.scope id (listed at) (found m.draft.scope id))
perform_waits actions.ListPort _ at m = tt
perform_waits actions.HeaderDirection (tokens.Keyword keywords.Input) at m = refl
perform_waits actions.HeaderDirection (tokens.Keyword keywords.Output) at m = refl
perform_waits actions.HeaderDirection _ at m = tt
perform_waits actions.ItemDirection (tokens.Keyword keywords.Input) at m = refl
perform_waits actions.ItemDirection (tokens.Keyword keywords.Output) at m = refl
perform_waits actions.ItemDirection _ at m = tt
perform_waits actions.ItemWires t at m = refl
perform_waits actions.Declare (tokens.Name id) at m = scoped_waits m (declare m.declaring at m.draft.scope id)
perform_waits actions.Declare _ at m = tt
perform_waits actions.EndModule t at m = by (lacking_of m.draft.scope)
  where
    by : (o : Option ℕ) → Held (λ u. u.waiting ≡ m.waiting) (and_then (Steps.end_by m.draft o) (λ module_. Goes (record m { modules = m.modules ++ module_ ∷ []; draft = Steps.module_named m.draft.name })))
    by None = refl
    by (Some place) = tt
perform_waits actions.LeftBound (tokens.Number (Some v)) at m = refl
perform_waits actions.LeftBound _ at m = tt
perform_waits actions.RightBound (tokens.Number (Some v)) at m = refl
perform_waits actions.RightBound _ at m = tt
perform_waits actions.Target (tokens.Name id) at m = refl
perform_waits actions.Target _ at m = tt
perform_waits actions.BeginInstance (tokens.Name id) at m =
    then_waits m (begun_instance id) (λ u. refl) (scoped m (add_new m.draft.scope id (instance_entry at) (found m.draft.scope id))) (scoped_waits m (add_new m.draft.scope id (instance_entry at) (found m.draft.scope id)))
perform_waits actions.BeginInstance _ at m = tt
perform_waits actions.EndInstance t at m = refl
perform_waits actions.FirstOrdered t at m = start_waits (record m { joint = Steps.joint_positional m.joint }) at t
perform_waits actions.NextOrdered t at m = refl
perform_waits actions.LastOrdered t at m = refl
perform_waits actions.ConnectionName (tokens.Name id) at m = refl
perform_waits actions.ConnectionName _ at m = tt
perform_waits actions.EndNamed t at m = refl
perform_waits actions.BeginAssign t at m = refl
perform_waits actions.EndLeft t at m = refl
perform_waits actions.NextAssign t at m = refl
perform_waits actions.LastAssign t at m = refl
perform_waits actions.StartValue t at m = start_waits m at t
perform_waits actions.Select t at m = valued_waits m (Steps.value_select m.value)
perform_waits actions.Index (tokens.Number (Some v)) at m = valued_waits m (Steps.value_index v m.value)
perform_waits actions.Index _ at m = tt
perform_waits actions.OneBit t at m = refl
perform_waits actions.ManyBits (tokens.Number (Some v)) at m = valued_waits m (Steps.value_many v m.value)
perform_waits actions.ManyBits _ at m = tt

-- ---- each token keeps what holds by phase

abbrev pub Acted : (Phase → Reader → Type 0) → Option Phase → Verdict Reader → Type 0
Acted Holds None v = Unit {0}
Acted Holds (Some f) v = Held (Holds f) v

module _ (Holds : Phase → Reader → Type 0) (okay : Token → Type 0)
    (performed : (a : Action) (t : Token) (at : ℕ) (f : Phase) (m : Reader) → okay t → Holds f m → Acted Holds (act a t f) (perform a t at m))
    (awaits : (f : Phase) (w : List Symbol) (m : Reader) → Holds f m → Holds f (record m { waiting = w }))
    (whole : (c : Context) (m : Reader) → Holds (In c Subject) m → Holds (In c Filled) (with_value m (Steps.value_whole m.value))) where
  pub record Steady (m : Reader) : Type 0 where
    pub phase : Phase
    pub last : Phase
    pub runs : run m.waiting phase ≡ Some last
    pub holds : Holds phase m

  settled_steady : (b : Bool) (w : List Symbol) (m : Reader) → w ≡ m.waiting → Steady m → Steady (settled m b w)
  settled_steady true w m is s = s
  settled_steady false [] m is s = s
  settled_steady false (symbols.Tail ∷ rest) m is s = by s.phase (subst (λ w. run w s.phase ≡ Some s.last) (sym is) s.runs) s.holds
    where
      by : (f : Phase) → run (symbols.Tail ∷ rest) f ≡ Some s.last → Holds f m → Steady (record m { waiting = rest; value = Steps.value_whole m.value })
      by (In c Subject) e h = record { phase = In c Filled; last = s.last; runs = e; holds = awaits (In c Filled) rest (with_value m (Steps.value_whole m.value)) (whole c m h) }
      by (In c Empty) e h = absurd cc
      by (In c Indexed) e h = absurd cc
      by (In c Filled) e h = absurd cc
  settled_steady false (_ ∷ rest) m is s = s

  left : (w : List Symbol) (f last : Phase) → run w f ≡ Some last → (v : Verdict Reader) → Held (Holds f) v → Held (λ u. u.waiting ≡ w) v → Held Steady v
  left w f last runs (Goes u) h same = record { phase = f; last = last; runs = ap (λ x. run x f) same ∙ runs; holds = h }
  left w f last runs (Stops off) h same = tt

  took : (s : Symbol) (rest : List Symbol) (t : Token) (at : ℕ) (m : Reader) (f last : Phase) → okay t → then_run (past s f) (run rest) ≡ Some last → Holds f m → Held Steady (produced s rest t at m (production s t))
  took s rest t at m f last ok runs h = by (production s t) (one_of (kept s t (production s t)) f (fine s t))
    where
      on : (p : Production) → kept s t (Some p) f ≡ true → (o : Option Phase) → past s f ≡ o → then_run o (run rest) ≡ Some last → Held Steady (perform p.action t at (record m { waiting = p.follow ++ rest }))
      on p k None e r = absurd cc
      on p k (Some g) e r =
          let now = record m { waiting = p.follow ++ rest } in
          let next = leads_on s t p f g k e in
          let runs_on : run (p.follow ++ rest) next.0 ≡ Some last = run_append p.follow rest next.0 ∙ ap (λ o. then_run o (run rest)) next.2 ∙ r in
          let acted = subst (λ o. Acted Holds o (perform p.action t at now)) next.1 (performed p.action t at f now ok (awaits f (p.follow ++ rest) m h)) in
          left (p.follow ++ rest) next.0 last runs_on (perform p.action t at now) acted (perform_waits p.action t at now)

      by : (o : Option Production) → kept s t o f ≡ true → Held Steady (produced s rest t at m o)
      by None k = tt
      by (Some p) k = on p k (past s f) refl runs

  take_steady : (w : List Symbol) (t : Token) (at : ℕ) (m : Reader) → okay t → w ≡ m.waiting → Steady m → Held Steady (take_by w t at m)
  take_steady [] t at m ok is s = tt
  take_steady (x ∷ rest) t at m ok is s = took x rest t at m s.phase s.last ok (subst (λ w. run w s.phase ≡ Some s.last) (sym is) s.runs) s.holds

  pub step_steady : (t : Token) (at : ℕ) (m : Reader) → okay t → Steady m → Held Steady (step t at m)
  step_steady t at m ok s =
      let now = settle t m in
      take_steady now.waiting t at now ok refl (settled_steady (is_bracket t) m.waiting m refl s)

  module _ (names : List (List ℕ)) (size : ℕ) (okays : (fresh : Bool) (rest : List ℕ) (p : Piece) → piece_of fresh rest ≡ Some p → is_known names p.lexeme ≡ true → okay (numbered names p.lexeme)) where
    ended : (m : Reader) (ms : List Module) → (b : Bool) → Whole ms ≡ (if b then Whole m.modules else Left offs.Syntax size []) → m.modules ≡ ms
    ended m ms true e = cc
    ended m ms false e = absurd cc

    pub leads_steady : (ts : List Piece) (fresh : Bool) (rest : List ℕ) (m : Reader) (ms : List Module) → Leads names size ts fresh rest m (Whole ms) → Steady m → (u : Reader) × Steady u × (u.modules ≡ ms)
    leads_steady [] fresh rest m ms h s = (m, s, ended m ms (accepts m) h.1)
    leads_steady (p ∷ ts) fresh rest m ms h s =
        let at = size - length rest + p.gap in
        by (step (numbered names p.lexeme) at m) (step_steady (numbered names p.lexeme) at m (okays fresh rest p h.0 h.1) s) h.2 (λ n x k. leads_steady ts false (behind p rest) n ms x k)
      where
        by : (v : Verdict Reader) → Held Steady v → Follows (λ n. Leads names size ts false (behind p rest) n (Whole ms)) ts (size - length rest + p.gap) (piece_bytes p rest) (Whole ms) v → ((n : Reader) → Leads names size ts false (behind p rest) n (Whole ms) → Steady n → (u : Reader) × Steady u × (u.modules ≡ ms)) → (u : Reader) × Steady u × (u.modules ≡ ms)
        by (Goes n) k x more = more n x k
        by (Stops off) k x more = let e = x.1 in absurd cc

  -- what is read is left in some phase
  pub denoted : (names : List (List ℕ)) (text : List ℕ) (ms : List Module) → ((fresh : Bool) (rest : List ℕ) (p : Piece) → piece_of fresh rest ≡ Some p → is_known names p.lexeme ≡ true → okay (numbered names p.lexeme)) → Denotes names text ms → Holds (In Outside Empty) start → (u : Reader) × Steady u × (u.modules ≡ ms)
  denoted names text ms okays h begun =
      leads_steady names (length text) okays h.tokens true text start ms h.leads (record { phase = In Outside Empty; last = In Outside Empty; runs = refl; holds = begun })
