-- Strategies that insert name their controls.
use Rattle.std.proofs.Common.{◌≡◌, ℕ, Bool, true, false, not, ◌||◌, List, [], ◌∷◌, ◌++◌, Option, Some, None, inl, inr, refl, sym, ap, ◌∙◌, subst}
use Rattle.std.specs.Prelude.{if◌then◌else◌, is_some, option_and_then, Ok}
use Rattle.std.specs.Option.{option_map}
use Rattle.std.specs.List.{list_all}
use Rattle.std.proofs.lemmas.Bool.{false≢true, true≢false}
use Rattle.lp_model.specs.declared.library.Action.{Action}
use Rattle.lp_model.specs.declared.intent.StrategyKind.{StrategyKind}
use Rattle.lp_model.specs.declared.intent.StrategyKind.TheVariants.{Isolation, Shifting, Retention}
use Rattle.lp_model.specs.declared.upf.CommandWord.TheVariants as commands
use Rattle.lp_model.specs.declared.upf.OptionWord.{OptionWord}
use Rattle.lp_model.specs.declared.upf.OptionWord.TheVariants as options
use Rattle.lp_model.specs.CommandsView.{WordView, CommandView}
use Rattle.lp_spec_upf.specs.Shapes.{OptionRule, Name, Unless, Any, Among, pair_of, senses, shape_of}
use Rattle.lp_spec_upf.specs.Commands.{has_option, words_had, is_missing}
use Rattle.lp_spec_design.specs.Keys.{Node}
use Rattle.lp_spec_design.specs.Netlists.{Structure}
use Rattle.lp_spec_design.specs.Graph.{and_more}
use Rattle.lp_spec_design.specs.Intents.{Strategy}
use Rattle.lp_spec_design.specs.Winners.{IsIn, same_kind}
use Rattle.lp_spec_design.proofs.Members.{in-left, in-right}
use Rattle.lp_spec_intent.specs.Made.{Fact, IsStrategy, Made, nothing, facts, first_of}
use Rattle.lp_spec_intent.specs.Lookups.{words, has, word_at, set, control}
use Rattle.lp_spec_intent.specs.Faults.{NameFault, Unknown, earliest, faults_at, faults_by, unknown, supplies_named, controls_named, strategy_faults}
use Rattle.lp_spec_intent.specs.Effects.{one, inserts, control_by, signal_by, action_of, strategy_of}
use Rattle.lp_spec_intent.specs.Intent.{made_by}
use Rattle.lp_spec_resolved.specs.Complete.{IsComplete}
use Rattle.lp_spec_resolved.proofs.Read.{none-left, no-cons}
use Rattle.lp_spec_resolved.proofs.Isolating.{all-in, had-not, are_single, are_pairs, one-word, two-words}
use Rattle.lp_spec_resolved.proofs.Facts.{All, Has, word_for, made-have, known-or-made, goes-on}

-- ---- no fault of names

pub none-earliest : (faults : List NameFault) → earliest faults ≡ None → faults ≡ []
none-earliest [] e = refl
none-earliest (f ∷ faults) e = absurd cc

known-in : {A : Type 0} (find : WordView → Option A) (v : WordView) (ws : List WordView) (b : Bool) → is_some (find v) ≡ b
    → (if b then unknown find ws else Unknown v.place v.text ∷ unknown find ws) ≡ [] → (is_some (find v) ≡ true) × (unknown find ws ≡ [])
known-in find v ws true f g = (f, g)
known-in find v ws false f g = absurd (no-cons (Unknown v.place v.text) (unknown find ws) g)

pub known : {A : Type 0} (find : WordView → Option A) (ws : List WordView) → unknown find ws ≡ [] → (w : WordView) → IsIn w ws → is_some (find w) ≡ true
known find [] e w i = absurd i
known find (v ∷ ws) e w i =
    let parts = known-in find v ws (is_some (find v)) refl e in
    elim i [ inl is ↦ ap (λ x. is_some (find x)) is ∙ parts.0 | inr rest ↦ known find ws parts.1 w rest ]

some-first : {A : Type 0} (o : Option A) → is_some o ≡ true → is_some (first_of (and_more o [])) ≡ true
some-first None f = absurd (false≢true f)
some-first (Some x) f = refl

one-known : {A : Type 0} (find : WordView → Option A) (w : WordView) → is_some (find w) ≡ true → is_some (one find (w ∷ [])) ≡ true
one-known find w e = some-first (find w) e

-- ---- an option that is needed unless another is given

had-unless : (c : CommandView) (r : OptionRule) (other : OptionWord) → IsComplete c → IsIn r (shape_of c.word).rules → r.need ≡ Unless other → has c other ≡ false → has_option (words_had c.options) r.word ≡ true
had-unless c r other h i e f =
    let test = all-in (λ (x : OptionRule). not (is_missing (words_had c.options) x.word x.need)) (shape_of c.word).rules r h.needed i in
    let unless = ap (λ n. not (is_missing (words_had c.options) r.word n)) (sym e) ∙ test in
    by (has_option (words_had c.options) r.word) (has_option (words_had c.options) other) unless (had-not c.options other f)
  where
    by : (a b : Bool) → not (not (a || b)) ≡ true → b ≡ false → a ≡ true
    by true b g n = refl
    by false true g n = absurd (true≢false n)
    by false false g n = absurd (false≢true g)

no-option : (a b d : Bool) → not (a || (b || d)) ≡ true → (a ≡ false) × (b ≡ false) × (d ≡ false)
no-option false false false e = (refl, refl, refl)
no-option true b d e = absurd (false≢true e)
no-option false true d e = absurd (false≢true e)
no-option false false true e = absurd (false≢true e)

abbrev signal_rule : OptionRule
signal_rule = record { word = options.IsolationSignal; value = Name; need = Unless options.NoIsolation; twin = false; repeats = false }

abbrev retention_rule : OptionWord → OptionRule
retention_rule o = record { word = o; value = pair_of Any (Among senses); need = Unless options.NoRetention; twin = false; repeats = false }

abbrev signal_in : Option Node → Option WordView → Option (Node × Action)
signal_in o v = option_and_then (λ j. option_map (λ w. (j, action_of w)) v) o

with-action : (o : Option Node) (v : WordView) → is_some o ≡ true → is_some (signal_in o (Some v)) ≡ true
with-action None v e = absurd (false≢true e)
with-action (Some k) v e = refl

module _ (s : Structure) (m : Made) (c : CommandView) where
  -- the controls of a strategy without fault are known
  strategy-known : strategy_faults s m c ≡ [] → (w : WordView) → IsIn w (controls_named s m c) → is_some (control s m w) ≡ true
  strategy-known e =
      let a = none-left _ (unknown (set s m) (supplies_named s m c)) e in
      let g = none-left _ (unknown (control s m) (controls_named s m c)) a.0 in
      known (control s m) (controls_named s m c) g.1

  isolating : IsComplete c → c.word ≡ commands.SetIsolation → strategy_faults s m c ≡ [] → inserts c ≡ true → is_some (control_by s m c options.IsolationSignal) ≡ true
  isolating h e f i =
      let row : c.word ≡ commands.AddPstState → ⊥ = λ r. cc in
      let had : has_option (words_had c.options) options.IsolationSignal ≡ true =
      had-unless c signal_rule options.NoIsolation h
      (subst (λ w. IsIn signal_rule (shape_of w).rules) (sym e) (inr (inr (inr (inr (inr (inr (inr (inr (inr (inr (inl refl)))))))))))) refl
      (no-option (has c options.NoIsolation) (has c options.NoShift) (has c options.NoRetention) i).0 in
      let word = one-word c options.IsolationSignal h row (subst (λ w. list_all (are_single options.IsolationSignal) (shape_of w).rules ≡ true) (sym e) refl) had in
      let front = words c options.IsolationSignal ++ word_at (words c options.SaveSignal) 0 in
      let named : IsIn word.0 (controls_named s m c) =
      in-left word.0 front (word_at (words c options.RestoreSignal) 0)
      (in-left word.0 (words c options.IsolationSignal) (word_at (words c options.SaveSignal) 0) (subst (λ ws. IsIn word.0 ws) (sym word.1) (inl refl))) in
      subst (λ ws. is_some (one (control s m) (word_at ws 0)) ≡ true) (sym word.1) (one-known (control s m) word.0 (strategy-known f word.0 named))

  signalled : (o : OptionWord) (w v : WordView) → words c o ≡ w ∷ v ∷ [] → is_some (control s m w) ≡ true → is_some (signal_by s m c o) ≡ true
  signalled o w v e k =
      subst (λ ws. is_some (signal_in (one (control s m) (word_at ws 0)) (first_of (word_at ws 1))) ≡ true) (sym e)
      (with-action (one (control s m) (w ∷ [])) v (one-known (control s m) w k))

  retaining : (o : OptionWord) → IsComplete c → c.word ≡ commands.SetRetention → strategy_faults s m c ≡ [] → inserts c ≡ true
      → IsIn (retention_rule o) (shape_of commands.SetRetention).rules → list_all (are_pairs o) (shape_of commands.SetRetention).rules ≡ true
      → ((w : WordView) → IsIn w (word_at (words c o) 0) → IsIn w (controls_named s m c))
      → is_some (signal_by s m c o) ≡ true
  retaining o h e f i r pairs named =
      let row : c.word ≡ commands.AddPstState → ⊥ = λ x. cc in
      let had : has_option (words_had c.options) o ≡ true =
      had-unless c (retention_rule o) options.NoRetention h (subst (λ w. IsIn (retention_rule o) (shape_of w).rules) (sym e) r) refl
      (no-option (has c options.NoIsolation) (has c options.NoShift) (has c options.NoRetention) i).2 in
      let two = two-words c o h row (subst (λ w. list_all (are_pairs o) (shape_of w).rules ≡ true) (sym e) pairs) had in
      signalled o two.0 two.1 two.2 (strategy-known f two.0 (named two.0 (subst (λ ws. IsIn two.0 (word_at ws 0)) (sym two.2) (inl refl))))

  saving : IsComplete c → c.word ≡ commands.SetRetention → strategy_faults s m c ≡ [] → inserts c ≡ true → is_some (signal_by s m c options.SaveSignal) ≡ true
  saving h e f i =
      retaining options.SaveSignal h e f i (inr (inr (inr (inl refl)))) refl
      (λ w j. in-left w (words c options.IsolationSignal ++ word_at (words c options.SaveSignal) 0) (word_at (words c options.RestoreSignal) 0)
      (in-right w (words c options.IsolationSignal) (word_at (words c options.SaveSignal) 0) j))

  restoring : IsComplete c → c.word ≡ commands.SetRetention → strategy_faults s m c ≡ [] → inserts c ≡ true → is_some (signal_by s m c options.RestoreSignal) ≡ true
  restoring h e f i =
      retaining options.RestoreSignal h e f i (inr (inr (inr (inr (inl refl))))) refl
      (λ w j. in-right w (words c options.IsolationSignal ++ word_at (words c options.SaveSignal) 0) (word_at (words c options.RestoreSignal) 0) j)

-- ---- facts

abbrev pub NamesIts : Strategy → Type 0
NamesIts t =
    (same_kind Isolation t.kind ≡ true → t.inserts ≡ true → is_some t.control ≡ true)
    × (same_kind Retention t.kind ≡ true → t.inserts ≡ true → (is_some t.save ≡ true) × (is_some t.restore ≡ true))

abbrev pub HasNamed : Fact → Type 0
HasNamed (IsStrategy name t) = NamesIts t
HasNamed f = Unit {0}

strategy-names : (s : Structure) (m : Made) (c : CommandView) (kind : StrategyKind) (d : ℕ) → IsComplete c → c.word ≡ word_for kind → earliest (faults_at s m c) ≡ None → NamesIts (strategy_of s m c kind d)
strategy-names s m c Isolation d h e f =
    let faults : strategy_faults s m c ≡ [] = ap (λ w. faults_by s m c w) (sym e) ∙ none-earliest (faults_at s m c) f in
    (λ k i. isolating s m c h e faults i, λ k. absurd (false≢true k))
strategy-names s m c Shifting d h e f = (λ k. absurd (false≢true k), λ k. absurd (false≢true k))
strategy-names s m c Retention d h e f =
    let faults : strategy_faults s m c ≡ [] = ap (λ w. faults_by s m c w) (sym e) ∙ none-earliest (faults_at s m c) f in
    (λ k. absurd (false≢true k), λ k i. (saving s m c h e faults i, restoring s m c h e faults i))

has-named : (s : Structure) (m : Made) (c : CommandView) → IsComplete c → earliest (faults_at s m c) ≡ None → Has s m c HasNamed
has-named s m c h f = record {
  new_domain = λ w. tt;
  named_handle = λ d g k w e. tt;
  new_port = λ a i e. tt;
  new_net = λ w. tt;
  connects = λ a ps. tt;
  own_set = λ w e. tt;
  primary_set = λ d e. tt;
  primary = λ d e i. tt;
  state = λ x n y. tt;
  table = λ a xs. tt;
  row = λ n xs. tt;
  driver = λ a w e. tt;
  receiver = λ a w e. tt;
  new_switch = λ w u v x i o k a b e. tt;
  strategy = λ kind w d e. strategy-names s m c kind d h e f;
  interface = λ w. tt;
  cells = λ xs ys zs. tt;
}

-- whatever complete commands make
pub facts-named : (s : Structure) (all : List CommandView) (end : Made) → ((c : CommandView) → IsIn c all → IsComplete c) → made_by s all ≡ Ok end → All HasNamed (facts end)
facts-named s all end h e =
    goes-on s (λ m. All HasNamed (facts m)) IsComplete
    (λ m c x old f. known-or-made s m c HasNamed old (made-have s m c HasNamed (has-named s m c x f)))
    all nothing end h (λ f i. absurd i) e
