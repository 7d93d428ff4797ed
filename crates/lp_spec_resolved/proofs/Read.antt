-- Each command of a text that is read is complete.
use Rattle.std.proofs.Common.{◌≡◌, ℕ, Bool, true, false, not, ◌&&◌, ◌||◌, List, [], ◌∷◌, ◌++◌, Option, Some, None, inl, inr, refl, sym, ap, ◌∙◌, subst}
use Rattle.std.specs.Prelude.{Result, Ok, Err, if◌then◌else◌}
use Rattle.std.proofs.lemmas.Bool.{false≢true, true≢false}
use Rattle.lp_text.specs.declared.place.Place.{Place}
use Rattle.lp_model.specs.declared.upf.CommandWord.{CommandWord}
use Rattle.lp_model.specs.declared.upf.CommandWord.TheVariants as commands
use Rattle.lp_model.specs.declared.upf.OptionWord.{OptionWord}
use Rattle.lp_model.specs.declared.upf.OptionWord.TheVariants as options
use Rattle.lp_model.specs.CommandsView.{WordView, OptionView, CommandView}
use Rattle.lp_upf_words.specs.declared.mode.Stop.{Stop}
use Rattle.lp_spec_upf.specs.Shapes.{OptionRule, NameRule, NoName, MayName, OneName, NameList, Rest, Value, Flag, Name, OneOf, Clamp, Threshold, Listed, shape_of, all_commands}
use Rattle.lp_spec_upf.specs.Commands.{Fault, Syntax, Unsupported, is_any_syntax, Part, cut, with_faults, with_option, at_end, Next, Option_, ValueOf, Skipped, value_faults, values_of, is_word_of, rule_of, is_dashed, has_option, option_at, valued, begun, listed, unlisted, at_option, at_skipped, at_word, options_of}
use Rattle.lp_spec_upf.specs.Commands.{words_had, lacks_none, sensed, expression_faults, on_sense, judged_by, option_in, name_in, Sense, TableOf, rules_for, options_from, Named, faults_of_list, name_faults, behind_name, named_of}
use Rattle.lp_spec_upf.specs.Commands.{all_faults, Said, Does, Fails, Breaks, said_by, command_in, command_by, command_of, tables_after, last_of, after_command, on_said, first_end, later_ends, commands_of}
use Rattle.lp_spec_design.specs.Winners.{IsIn}
use Rattle.lp_spec_resolved.specs.Complete.{HasName, HasForm, IsOption, IsComplete}

-- ---- a part that is whole and has no fault

pub record IsSound (rules : List OptionRule) (p : Part) : Type 0 where
  pub options : (o : OptionView) → IsIn o p.options → IsOption rules o

-- where it was read to its end without a fault
abbrev pub SoundWhere : List OptionRule → Part → Type 0
SoundWhere rules p = p.whole ≡ true → p.faults ≡ [] → IsSound rules p

pub none-left : {A : Type 0} (xs ys : List A) → xs ++ ys ≡ [] → (xs ≡ []) × (ys ≡ [])
none-left [] ys e = (refl, e)
none-left (x ∷ xs) ys e = absurd cc

pub no-cons : {A : Type 0} (x : A) (xs : List A) → x ∷ xs ≡ [] → ⊥
no-cons x xs e = cc

module _ (rules : List OptionRule) where
  cut-sound : (faults : List Fault) → SoundWhere rules (cut faults)
  cut-sound faults w f = absurd (false≢true w)

  faults-sound : (faults : List Fault) (p : Part) → SoundWhere rules p → SoundWhere rules (with_faults faults p)
  faults-sound faults p h w f = record { options = (h w (none-left faults p.faults f).1).options }

  option-sound : (o : OptionView) (p : Part) → IsOption rules o → SoundWhere rules p → SoundWhere rules (with_option o p)
  option-sound o p x h w f = record { options = λ v i. elim i [ inl is ↦ subst (λ u. IsOption rules u) (sym is) x | inr rest ↦ (h w f).options v rest ] }

  rule-in : (all : List OptionRule) (text : List ℕ) (r : OptionRule) → rule_of all text ≡ Some r → IsIn r all
  rule-in [] text r e = absurd cc
  rule-in (x ∷ xs) text r e = by (is_word_of x text) e (rule-in xs text r)
    where
      by : (b : Bool) → (if b then Some x else rule_of xs text) ≡ Some r → (rule_of xs text ≡ Some r → IsIn r xs) → IsIn r (x ∷ xs)
      by true f more = inl cc
      by false f more = inr (more f)

  abbrev pub is_flag : Value → Bool
  is_flag Flag = true
  is_flag v = false

  -- what may stand next: a rule whose value is read is listed, and is no flag
  abbrev pub IsNext : Next → Type 0
  IsNext Option_ = Unit {0}
  IsNext (ValueOf r o) = IsIn r rules × (is_flag r.value ≡ false)
  IsNext Skipped = Unit {0}

  with-form : (v : Value) (o w : WordView) → is_flag v ≡ false → value_faults v o w ≡ [] → HasForm v (values_of v w)
  with-form Flag o w f e = absurd (true≢false f)
  with-form Name o w f e = (o, w, refl, e)
  with-form (OneOf words) o w f e = (o, w, refl, e)
  with-form Clamp o w f e = (o, w, refl, e)
  with-form Threshold o w f e = (o, w, refl, e)
  with-form (Listed form) o w f e = (o, w, refl, e)

  valued-sound : (r : OptionRule) (o w : WordView) (p : Part) → IsIn r rules → is_flag r.value ≡ false → SoundWhere rules p
      → SoundWhere rules (valued (value_faults r.value o w) (option_at r o (values_of r.value w)) p)
  valued-sound r o w p i f h = by (is_any_syntax (value_faults r.value o w))
    where
      by : (b : Bool) → SoundWhere rules (if b then cut (value_faults r.value o w) else with_faults (value_faults r.value o w) (with_option (option_at r o (values_of r.value w)) p))
      by true = cut-sound (value_faults r.value o w)
      by false = λ whole none.
          let parts = none-left (value_faults r.value o w) p.faults none in
          let x : IsOption rules (option_at r o (values_of r.value w)) = record { rule = r; listed = i; word = refl; form = with-form r.value o w f parts.0 } in
          record { options = (option-sound (option_at r o (values_of r.value w)) p x h whole parts.1).options }

  begun-sound : (r : OptionRule) (v : Value) (w : WordView) (more : Next → Part) → IsIn r rules → r.value ≡ v
      → ((n : Next) → IsNext n → SoundWhere rules (more n)) → SoundWhere rules (begun r v w more)
  begun-sound r Flag w more i e h =
      option-sound (option_at r w []) (more Option_) (record { rule = r; listed = i; word = refl; form = subst (λ v. HasForm v []) (sym e) refl }) (h Option_ tt)
  begun-sound r Name w more i e h = h (ValueOf r w) (i, ap is_flag e)
  begun-sound r (OneOf words) w more i e h = h (ValueOf r w) (i, ap is_flag e)
  begun-sound r Clamp w more i e h = h (ValueOf r w) (i, ap is_flag e)
  begun-sound r Threshold w more i e h = h (ValueOf r w) (i, ap is_flag e)
  begun-sound r (Listed form) w more i e h = h (ValueOf r w) (i, ap is_flag e)

  abbrev More : (Next → List OptionWord → Part) → Type 0
  More more = (n : Next) (seen : List OptionWord) → IsNext n → SoundWhere rules (more n seen)

  listed-sound : (r : OptionRule) (seen : List OptionWord) (w : WordView) (more : Next → List OptionWord → Part) → IsIn r rules → More more → SoundWhere rules (listed r seen w more)
  listed-sound r seen w more i h = by (not r.repeats && has_option seen r.word)
    where
      by : (b : Bool) → SoundWhere rules (if b then cut (Syntax w.place ∷ []) else begun r r.value w (λ n. more n (r.word ∷ seen)))
      by true = cut-sound (Syntax w.place ∷ [])
      by false = begun-sound r r.value w (λ n. more n (r.word ∷ seen)) i refl (λ n x. h n (r.word ∷ seen) x)

  unlisted-sound : (seen : List OptionWord) (w : WordView) (more : Next → List OptionWord → Part) → More more → SoundWhere rules (unlisted seen w more)
  unlisted-sound seen w more h = by (is_dashed w.text)
    where
      by : (b : Bool) → SoundWhere rules (if b then with_faults (Unsupported w.place w.text ∷ []) (more Skipped seen) else cut (Syntax w.place ∷ []))
      by true = faults-sound (Unsupported w.place w.text ∷ []) (more Skipped seen) (h Skipped seen tt)
      by false = cut-sound (Syntax w.place ∷ [])

  option-at-sound : (o : Option OptionRule) (seen : List OptionWord) (w : WordView) (more : Next → List OptionWord → Part) → ((r : OptionRule) → o ≡ Some r → IsIn r rules) → More more → SoundWhere rules (at_option o seen w more)
  option-at-sound None seen w more i h = unlisted-sound seen w more h
  option-at-sound (Some r) seen w more i h = listed-sound r seen w more (i r refl) h

  skipped-at-sound : (o : Option OptionRule) (seen : List OptionWord) (w : WordView) (more : Next → List OptionWord → Part) → ((r : OptionRule) → o ≡ Some r → IsIn r rules) → More more → SoundWhere rules (at_skipped o seen w more)
  skipped-at-sound None seen w more i h = h Skipped seen tt
  skipped-at-sound (Some r) seen w more i h = listed-sound r seen w more (i r refl) h

  word-sound : (n : Next) (seen : List OptionWord) (w : WordView) (more : Next → List OptionWord → Part) → IsNext n → More more → SoundWhere rules (at_word rules n seen w more)
  word-sound Option_ seen w more x h = option-at-sound (rule_of rules w.text) seen w more (λ r e. rule-in rules w.text r e) h
  word-sound (ValueOf r o) seen w more x h = valued-sound r o w (more Option_ seen) x.0 x.1 (h Option_ seen tt)
  word-sound Skipped seen w more x h = skipped-at-sound (rule_of rules w.text) seen w more (λ r e. rule-in rules w.text r e) h

  end-sound : (e : Option Place) (n : Next) → SoundWhere rules (at_end e n)
  end-sound None n = cut-sound []
  end-sound (Some p) (ValueOf r o) = cut-sound (Syntax p ∷ [])
  end-sound (Some p) Option_ = λ w f. record { options = λ o i. absurd i }
  end-sound (Some p) Skipped = λ w f. record { options = λ o i. absurd i }

  pub options-sound : (e : Option Place) (n : Next) (seen : List OptionWord) (ws : List WordView) → IsNext n → SoundWhere rules (options_of rules e n seen ws)
  options-sound e n seen [] x = end-sound e n
  options-sound e n seen (w ∷ ws) x = word-sound n seen w (λ m s. options_of rules e m s ws) x (λ m s y. options-sound e m s ws y)

  -- ---- the sense of a switch changes no word and no value

  as_option : (o v : OptionView) → v.word ≡ o.word → v.values ≡ o.values → IsOption rules o → IsOption rules v
  as_option o v e f x = record { rule = x.rule; listed = x.listed; word = x.word ∙ sym e; form = subst (λ y. HasForm x.rule.value y) (sym f) x.form }

  sensed-sound : (sense : List ℕ → List ℕ → Option Bool) (control : List ℕ) (os : List OptionView) → ((o : OptionView) → IsIn o os → IsOption rules o) → (v : OptionView) → IsIn v (sensed sense control os) → IsOption rules v
  sensed-sound sense control [] h v i = absurd i
  sensed-sound sense control (o ∷ os) h v i = elim i [
    | inl is ↦ as_option o v (ap (λ (y : OptionView). y.word) is) (ap (λ (y : OptionView). y.values) is) (h o (inl refl))
    | inr rest ↦ sensed-sound sense control os (λ u j. h u (inr j)) v rest
  ]

  judged-sound : (sense : List ℕ → List ℕ → Option Bool) (c : Option (List ℕ)) (p : Part) → SoundWhere rules p → SoundWhere rules (judged_by sense c p)
  judged-sound sense None p h w f = h w f
  judged-sound sense (Some control) p h w f =
      let parts = none-left p.faults (expression_faults sense control (on_sense sense control (option_in p.options options.OnState)) p.options) f in
      record { options = sensed-sound sense control p.options (h w parts.0).options }

-- ---- commands

is_row : CommandWord → Bool
is_row commands.AddPstState = true
is_row c = false

options-from-sound : (c : CommandWord) (sense : Sense) (tables : List TableOf) (rules : List OptionRule) (e : Option Place) (ws : List WordView)
    → SoundWhere (rules_for c tables rules (options_of rules e Option_ [] ws)) (options_from c sense tables rules e ws)
options-from-sound c sense tables rules e ws =
    let exact = rules_for c tables rules (options_of rules e Option_ [] ws) in
    judged-sound exact sense.of (name_in (options_of exact e Option_ [] ws).options options.ControlPort) (options_of exact e Option_ [] ws)
    (options-sound exact e Option_ [] ws tt)

-- but for rows of the state table the rules are those of the shape
rules-same : (c : CommandWord) (tables : List TableOf) (rules : List OptionRule) (p : Part) → (c ≡ commands.AddPstState → ⊥) → rules_for c tables rules p ≡ rules
rules-same commands.UpfVersion tables rules p h = refl
rules-same commands.SetDesignTop tables rules p h = refl
rules-same commands.SetScope tables rules p h = refl
rules-same commands.CreatePowerDomain tables rules p h = refl
rules-same commands.CreateSupplyPort tables rules p h = refl
rules-same commands.CreateSupplyNet tables rules p h = refl
rules-same commands.ConnectSupplyNet tables rules p h = refl
rules-same commands.CreateSupplySet tables rules p h = refl
rules-same commands.AssociateSupplySet tables rules p h = refl
rules-same commands.SetDomainSupplyNet tables rules p h = refl
rules-same commands.AddPortState tables rules p h = refl
rules-same commands.CreatePst tables rules p h = refl
rules-same commands.AddPstState tables rules p h = absurd (h refl)
rules-same commands.SetPortAttributes tables rules p h = refl
rules-same commands.CreatePowerSwitch tables rules p h = refl
rules-same commands.SetIsolation tables rules p h = refl
rules-same commands.SetLevelShifter tables rules p h = refl
rules-same commands.SetRetention tables rules p h = refl
rules-same commands.UseInterfaceCell tables rules p h = refl
rules-same commands.MapRetentionCell tables rules p h = refl
rules-same commands.MapPowerSwitch tables rules p h = refl

behind-sound : (rules : List OptionRule) (faults : List Fault) (rest : Part) → SoundWhere rules rest → SoundWhere rules (behind_name faults rest)
behind-sound rules faults rest h = by (is_any_syntax faults)
  where
    by : (b : Bool) → SoundWhere rules (if b then cut faults else with_faults faults rest)
    by true = cut-sound rules faults
    by false = faults-sound rules faults rest h

-- with or without a name
named-sound : (rules : List OptionRule) (r : NameRule) (e : Option Place) (more : List WordView → Part) (ws : List WordView) → ((vs : List WordView) → SoundWhere rules (more vs)) → SoundWhere rules (named_of r e more ws).rest
named-sound rules NoName e more ws h = h ws
named-sound rules MayName e more [] h = h []
named-sound rules OneName None more [] h = cut-sound rules []
named-sound rules OneName (Some p) more [] h = cut-sound rules (Syntax p ∷ [])
named-sound rules NameList None more [] h = cut-sound rules []
named-sound rules NameList (Some p) more [] h = cut-sound rules (Syntax p ∷ [])
named-sound rules MayName e more (w ∷ ws) h = h ws
named-sound rules OneName e more (w ∷ ws) h = behind-sound rules (name_faults w) (more ws) (h ws)
named-sound rules NameList e more (w ∷ ws) h = behind-sound rules (faults_of_list Rest w) (more ws) (h ws)

-- a name without fault, where nothing behind it is at fault
name-sound : (r : NameRule) (e : Option Place) (more : List WordView → Part) (ws : List WordView) → (named_of r e more ws).rest.whole ≡ true → (named_of r e more ws).rest.faults ≡ [] → HasName r (named_of r e more ws).name
name-sound NoName e more ws w f = tt
name-sound MayName e more [] w f = tt
name-sound OneName None more [] w f = tt
name-sound OneName (Some p) more [] w f = tt
name-sound NameList None more [] w f = tt
name-sound NameList (Some p) more [] w f = tt
name-sound MayName e more (x ∷ ws) w f = tt
name-sound NameList e more (x ∷ ws) w f = tt
name-sound OneName e more (x ∷ ws) w f = by (is_any_syntax (name_faults x)) w f
  where
    rest_by : Bool → Part
    rest_by b = if b then cut (name_faults x) else with_faults (name_faults x) (more ws)

    by : (b : Bool) → (rest_by b).whole ≡ true → (rest_by b).faults ≡ [] → name_faults x ≡ []
    by true g h = absurd (false≢true g)
    by false g h = (none-left (name_faults x) (more ws).faults h).0

-- a command without fault was read to its end, and lacks no option
record IsFaultless (rules : List OptionRule) (rest : Part) : Type 0 where
  whole : rest.whole ≡ true
  faults : rest.faults ≡ []
  needed : lacks_none rules (words_had rest.options) ≡ true

no-missing : (p : Place) (rules : List OptionRule) (rest : Part) → all_faults p rules rest ≡ [] → rest.whole ≡ true → IsFaultless rules rest
no-missing p rules rest e w = by rest.whole w (lacks_none rules (words_had rest.options)) refl e
  where
    by : (whole : Bool) → whole ≡ true → (needed : Bool) → lacks_none rules (words_had rest.options) ≡ needed → (if not whole || needed then rest.faults else Syntax p ∷ rest.faults) ≡ [] → IsFaultless rules rest
    by true x true n f = record { whole = w; faults = f; needed = n }
    by true x false n f = absurd (no-cons (Syntax p) rest.faults f)
    by false x needed n f = absurd (false≢true x)

does-same : (c d : CommandView) → Does c ≡ Does d → c ≡ d
does-same c d e = cc

said-does : (faults : List Fault) (whole : Bool) (c d : CommandView) → said_by faults whole c ≡ Does d → (faults ≡ []) × (whole ≡ true) × (c ≡ d)
said-does [] true c d e = (refl, refl, does-same c d e)
said-does [] false c d e = absurd cc
said-does (f ∷ faults) whole c d e = absurd cc

module _ (word : CommandWord) (sense : Sense) (tables : List TableOf) (e : Option Place) where
  abbrev rules : List OptionRule
  rules = (shape_of word).rules

  abbrev named_with : List WordView → Named
  named_with ws = named_of (shape_of word).name e (options_from word sense tables rules e) ws

  abbrev command_with : Place → Named → CommandView
  command_with p n = record { place = p; word = word; name = n.name; options = n.rest.options }

  rest-sound : (ws : List WordView) → (word ≡ commands.AddPstState → ⊥) → SoundWhere rules (named_with ws).rest
  rest-sound ws h =
      named-sound rules (shape_of word).name e (options_from word sense tables rules e) ws
      (λ vs. subst (λ rs. SoundWhere rs (options_from word sense tables rules e vs))
      (rules-same word tables rules (options_of rules e Option_ [] vs) h)
      (options-from-sound word sense tables rules e vs))

  read-complete : (p : Place) (ws : List WordView) → all_faults p rules (named_with ws).rest ≡ [] → (named_with ws).rest.whole ≡ true → IsComplete (command_with p (named_with ws))
  read-complete p ws f w =
      let sound = no-missing p rules (named_with ws).rest f w in
      record { name = name-sound (shape_of word).name e (options_from word sense tables rules e) ws sound.whole sound.faults; needed = sound.needed; options = λ h o i. (rest-sound ws h sound.whole sound.faults).options o i }

  said-complete : (w : WordView) (ws : List WordView) (c : CommandView) → command_by (Some word) sense tables e w ws ≡ Does c → IsComplete c
  said-complete w ws c f =
      let said = said-does (all_faults w.place rules (named_with ws).rest) (named_with ws).rest.whole (command_with w.place (named_with ws)) c f in
      subst (λ d. IsComplete d) said.2 (read-complete w.place ws said.0 said.1)

by-complete : (o : Option CommandWord) (sense : Sense) (tables : List TableOf) (e : Option Place) (w : WordView) (ws : List WordView) (c : CommandView) → command_by o sense tables e w ws ≡ Does c → IsComplete c
by-complete None sense tables e w ws c f = absurd cc
by-complete (Some word) sense tables e w ws c f = said-complete word sense tables e w ws c f

command-complete : (sense : Sense) (tables : List TableOf) (e : Option Place) (ws : List WordView) (c : CommandView) → command_of sense tables e ws ≡ Does c → IsComplete c
command-complete sense tables e [] c f = absurd cc
command-complete sense tables e (w ∷ ws) c f = by-complete (command_in all_commands w.text) sense tables e w ws c f

-- ---- texts

abbrev as_ok : List CommandView → Result (List CommandView) Fault
as_ok cs = Ok cs

ok-same : (a b : List CommandView) → as_ok a ≡ Ok b → a ≡ b
ok-same a b e = cc

last-none : (sense : Sense) (tables : List TableOf) (ws : List WordView) (stop : Option Stop) (cs : List CommandView) → last_of sense tables ws stop ≡ Ok cs → cs ≡ []
last-none sense tables ws None cs e = sym (ok-same [] cs e)
last-none sense tables ws (Some stop) cs e = absurd cc

after-parts : (c : CommandView) (rest : Result (List CommandView) Fault) (cs : List CommandView) → after_command c rest ≡ Ok cs → (ds : List CommandView) × (rest ≡ Ok ds) × (c ∷ ds ≡ cs)
after-parts c (Ok ds) cs e = (ds, refl, ok-same (c ∷ ds) cs e)
after-parts c (Err f) cs e = absurd cc

pub commands-complete : (sense : Sense) (tables : List TableOf) (all : List (List WordView)) (ends : List Place) (ws : List WordView) (stop : Option Stop) (cs : List CommandView)
    → commands_of sense tables all ends ws stop ≡ Ok cs → (c : CommandView) → IsIn c cs → IsComplete c
commands-complete sense tables [] ends ws stop cs e c i = absurd (subst (λ x. IsIn c x) (last-none sense tables ws stop cs e) i)
commands-complete sense tables (a ∷ all) ends ws stop cs e c i =
    by (command_of sense tables (first_end ends) a) refl e
    (λ view ds f j. commands-complete sense (tables_after view.word view tables) all (later_ends ends) ws stop ds f c j)
  where
    by : (s : Said) → command_of sense tables (first_end ends) a ≡ s
        → on_said s (λ view. commands_of sense (tables_after view.word view tables) all (later_ends ends) ws stop) ≡ Ok cs
        → ((view : CommandView) (ds : List CommandView) → commands_of sense (tables_after view.word view tables) all (later_ends ends) ws stop ≡ Ok ds → IsIn c ds → IsComplete c)
        → IsComplete c
    by (Does view) f g rest =
        let parts = after-parts view (commands_of sense (tables_after view.word view tables) all (later_ends ends) ws stop) cs g in
        elim (subst (λ x. IsIn c x) (sym parts.2) i) [
          | inl is ↦ subst (λ d. IsComplete d) (sym is) (command-complete sense tables (first_end ends) a view f)
          | inr j ↦ rest view parts.0 parts.1 j
        ]
    by (Fails x) f g rest = absurd cc
    by Breaks f g rest = absurd (subst (λ x. IsIn c x) (sym (ok-same [] cs g)) i)
