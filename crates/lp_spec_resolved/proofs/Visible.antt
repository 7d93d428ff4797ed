-- Supply ports of the top have visible names.
use Rattle.std.proofs.Common.{◌≡◌, ℕ, Bool, true, false, List, [], ◌∷◌, map, Option, Some, None, inl, inr, refl, sym, ap, ◌∙◌, subst}
use Rattle.std.specs.Prelude.{not, codes, slice_get, unwrap_or, if◌then◌else◌, Ok}
use Rattle.std.specs.List.{list_all}
use Rattle.lp_text.specs.declared.place.Place.{Place}
use Rattle.lp_model.specs.declared.intent.ScopedName.{ScopedName}
use Rattle.lp_model.specs.declared.upf.CommandWord.{CommandWord}
use Rattle.lp_model.specs.declared.upf.CommandWord.TheVariants as commands
use Rattle.lp_model.specs.declared.upf.OptionWord.TheVariants as options
use Rattle.lp_model.specs.CommandsView.{WordView, OptionView, CommandView}
use Rattle.lp_spec_upf.specs.Shapes.{OneName, shape_of}
use Rattle.lp_spec_upf.specs.Commands.{is_visible, is_name, name_faults, Syntax}
use Rattle.lp_spec_design.specs.Netlists.{Structure}
use Rattle.lp_spec_design.specs.Intents.{FromPort}
use Rattle.lp_spec_design.specs.Winners.{IsIn}
use Rattle.lp_spec_design.proofs.Members.{of-map, of-some}
use Rattle.lp_spec_origins.specs.Commands.{Scoped, MakesPort}
use Rattle.lp_spec_origins.specs.Origins.{OfPort, source_in, sources}
use Rattle.lp_spec_realises.specs.Projects.{network_of}
use Rattle.lp_spec_intent.specs.Made.{Fact, IsPort, Made, facts, network_fact, network}
use Rattle.lp_spec_intent.specs.Lookups.{own_words, own}
use Rattle.lp_spec_intent.specs.Faults.{earliest, faults_at}
use Rattle.lp_spec_intent.specs.Effects.{is_word, facts_by, facts_made, after}
use Rattle.lp_spec_intent.specs.Intent.{made_by}
use Rattle.lp_spec_intent.proofs.Places.{some-same}
use Rattle.lp_spec_resolved.specs.Complete.{HasName, IsComplete}
use Rattle.lp_spec_resolved.specs.Supplies.{project_made}
use Rattle.lp_spec_resolved.proofs.Read.{no-cons}
use Rattle.lp_spec_resolved.proofs.Facts.{All, Has, made-have, known-or-made, goes-on}
use Rattle.lp_spec_resolved.proofs.Origins.{slice-in}
use Rattle.lp_spec_resolved.proofs.Named.{command-of, port-at, name-at}

-- the name of a port that a fact makes is visible
abbrev pub HasVisible : Fact → Type 0
HasVisible (IsPort a input) = list_all is_visible a.name ≡ true
HasVisible f = Unit {0}

faultless : (w : WordView) → name_faults w ≡ [] → is_name w.text ≡ true
faultless w e = by (is_name w.text) refl e
  where
    by : (b : Bool) → is_name w.text ≡ b → (if b then [] else Syntax w.place ∷ []) ≡ [] → is_name w.text ≡ true
    by true f g = f
    by false f g = absurd (no-cons (Syntax w.place) [] g)

visible-text : (text : List ℕ) → is_name text ≡ true → list_all is_visible text ≡ true
visible-text [] e = refl
visible-text (b ∷ text) e = e

-- the word of a command with one name has no fault
named-one : (p : Place) (word : CommandWord) (name : Option WordView) (os : List OptionView) (w : WordView) → IsIn w (own_words (record { place = p; word = word; name = name; options = os })) → HasName OneName name → name_faults w ≡ []
named-one p word None os w i h = absurd i
named-one p word (Some v) os w i h = elim i [ inl is ↦ ap name_faults is ∙ h | inr rest ↦ absurd rest ]

module _ (s : Structure) (m : Made) (c : CommandView) (complete : IsComplete c) where
  port-visible : c.word ≡ commands.CreateSupplyPort → (w : WordView) → IsIn w (own_words c) → list_all is_visible (own m w).name ≡ true
  port-visible e w i =
      let name : HasName OneName c.name = subst (λ word. HasName (shape_of word).name c.name) e complete.name in
      visible-text w.text (faultless w (named-one c.place c.word c.name c.options w i name))

  others : (c.word ≡ commands.CreateSupplyPort → ⊥) → Has s m c HasVisible
  others other = record {
    new_domain = λ w. tt;
    named_handle = λ d h k w e. tt;
    new_port = λ a input e. absurd (other e);
    new_net = λ w. tt;
    connects = λ a ps. tt;
    own_set = λ w e. tt;
    primary_set = λ d e. tt;
    primary = λ d e i. tt;
    state = λ x n y. tt;
    table = λ a xs. tt;
    row = λ n xs. tt;
    driver = λ a w e. tt;
    receiver = λ a w e. tt;
    new_switch = λ w u v x i o k a b d. tt;
    strategy = λ kind w d e. tt;
    interface = λ w. tt;
    cells = λ xs ys zs. tt;
  }

  made-visible : (word : CommandWord) → c.word ≡ word → All HasVisible (facts_made s m c)
  made-visible commands.CreateSupplyPort e f i =
      let j = subst (λ word. IsIn f (facts_by s m c word)) e i in
      let found = of-map (λ w. IsPort (own m w) (not (is_word c options.Direction (codes "out")))) f (own_words c) j in
      subst (λ y. HasVisible y) (sym found.2) (port-visible e found.0 found.1)
  made-visible word e f i = made-have s m c HasVisible (others (λ a. cc)) f i

pub all-visible : (s : Structure) (all : List CommandView) (end : Made) → ((c : CommandView) → IsIn c all → IsComplete c) → made_by s all ≡ Ok end → All HasVisible (facts end)
all-visible s all end complete e =
    goes-on s (λ m. All HasVisible (facts m)) IsComplete
    (λ m c h visible n. known-or-made s m c HasVisible visible (made-visible s m c h c.word refl)) all _ end complete (λ f i. absurd i) e

port-same : (p a : Scoped) (i j : Bool) → MakesPort p i ≡ MakesPort a j → p ≡ a
port-same p a i j e = cc

port-fact : (f : Fact) (a : Scoped) (input : Bool) → network_fact f ≡ Some (MakesPort a input) → (b : Bool) × (f ≡ IsPort a b)
port-fact (IsPort p i) a input e = (i, ap (λ x. IsPort x i) (port-same p a i input (some-same _ _ e)))
port-fact f a input e = absurd cc

pub names-visible : (s : Structure) (name : Scoped → ScopedName) (m : Made) (margin : ℕ) → All HasVisible (facts m) → (o : ℕ) → slice_get (network_of (project_made s name m margin)).origins o ≡ Some FromPort
    → list_all is_visible (unwrap_or (slice_get (project_made s name m margin).origin_names o) []) ≡ true
names-visible s name m margin all o e =
    let a = port-at s name m margin o e in
    let d = of-some source_in (OfPort a.0) (network m) (slice-in (sources (network m)) o (OfPort a.0) a.1) in
    let command = command-of d.0 a.0 d.2 in
    let f = of-some network_fact d.0 (facts m) d.1 in
    let is = port-fact f.0 a.0 command.0 (f.2 ∙ ap (λ x. Some x) command.1) in
    ap (list_all is_visible) (name-at s name m margin o a.0 a.1) ∙ subst (λ y. HasVisible y) is.1 (all f.0 f.1)
