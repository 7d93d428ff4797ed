-- A strategy that isolates and inserts names its control, and so do retention and switches.
use Rattle.std.proofs.Common.{◌≡◌, Bool, true, false, not, ◌&&◌, ◌||◌, List, [], ◌∷◌, ◌++◌, Option, Some, None, inl, inr, refl, sym, ap, ◌∙◌}
use Rattle.std.specs.Prelude.{if◌then◌else◌, is_some}
use Rattle.std.specs.List.{list_all}
use Rattle.std.proofs.lemmas.Bool.{false≢true, true≢false, and_parts}
use Rattle.lp_model.specs.declared.upf.CommandWord.TheVariants as commands
use Rattle.lp_model.specs.declared.upf.OptionWord.{OptionWord}
use Rattle.lp_model.specs.CommandsView.{WordView, OptionView, CommandView}
use Rattle.lp_spec_upf.specs.Shapes.{OptionRule, Value, Flag, Name, OneOf, Clamp, Threshold, Listed, Element, Form, Needs, Closed, shape_of}
use Rattle.lp_spec_upf.specs.Commands.{has_option, same_option, option_in, words_had, Fault, Syntax, is_any_syntax, and_then, end_faults, stop_place, list_faults, element_faults}
use Rattle.lp_upf_words.specs.Elements.{words_of, elements_of, content_end}
use Rattle.lp_spec_design.specs.Winners.{IsIn}
use Rattle.lp_spec_intent.specs.Lookups.{value_words, words}
use Rattle.lp_text.specs.declared.place.Place.{Place}
use Rattle.lp_upf_words.specs.declared.mode.Stop.{Stop}
use Rattle.lp_spec_resolved.proofs.Read.{none-left, no-cons}
use Rattle.lp_spec_resolved.specs.Complete.{HasForm, IsComplete}

-- ---- options that are had

pub all-in : {A : Type 0} (t : A → Bool) (xs : List A) (x : A) → list_all t xs ≡ true → IsIn x xs → t x ≡ true
all-in t [] x e i = absurd i
all-in t (y ∷ xs) x e i =
    let parts = and_parts (t y) (list_all t xs) e in
    elim i [ inl is ↦ ap t is ∙ parts.0 | inr rest ↦ all-in t xs x parts.1 rest ]

-- an option of a word that is had
had-in : (os : List OptionView) (o : OptionWord) → has_option (words_had os) o ≡ true → (v : OptionView) × IsIn v os × (option_in os o ≡ Some v) × (same_option v.word o ≡ true)
had-in [] o e = absurd (false≢true e)
had-in (v ∷ os) o e = by (same_option v.word o) refl (had-in os o) e
  where
    by : (b : Bool) → same_option v.word o ≡ b → (has_option (words_had os) o ≡ true → (u : OptionView) × IsIn u os × (option_in os o ≡ Some u) × (same_option u.word o ≡ true))
        → not (not b && list_all (λ s. not (same_option s o)) (words_had os)) ≡ true
        → (u : OptionView) × IsIn u (v ∷ os) × ((if b then Some v else option_in os o) ≡ Some u) × (same_option u.word o ≡ true)
    by true f more g = (v, inl refl, refl, f)
    by false f more g = let found = more g in (found.0, inr found.1, found.2, found.3)

pub had-not : (os : List OptionView) (o : OptionWord) → is_some (option_in os o) ≡ false → has_option (words_had os) o ≡ false
had-not os o e = by (has_option (words_had os) o) refl
  where
    by : (b : Bool) → has_option (words_had os) o ≡ b → b ≡ false
    by false f = refl
    by true f = let found = had-in os o f in ap is_some (sym found.2) ∙ e

-- ---- a value that is one word

abbrev pub is_single : Value → Bool
is_single Flag = false
is_single (Listed f) = false
is_single v = true

single : (v : Value) (ws : List WordView) → is_single v ≡ true → HasForm v ws → (w : WordView) × (ws ≡ w ∷ [])
single Flag ws e h = absurd (false≢true e)
single (Listed f) ws e h = absurd (false≢true e)
single Name ws e h = (h.1, h.2)
single (OneOf texts) ws e h = (h.1, h.2)
single Clamp ws e h = (h.1, h.2)
single Threshold ws e h = (h.1, h.2)

-- the rules of an option's word have such values
abbrev pub are_single : OptionWord → OptionRule → Bool
are_single o r = not (same_option r.word o) || is_single r.value

-- the one word of an option that a command has
pub one-word : (c : CommandView) (o : OptionWord) → IsComplete c → (c.word ≡ commands.AddPstState → ⊥)
    → list_all (are_single o) (shape_of c.word).rules ≡ true → has_option (words_had c.options) o ≡ true
    → (w : WordView) × (words c o ≡ w ∷ [])
one-word c o h row e f =
    let found = had-in c.options o f in
    let option = h.options row found.0 found.1 in
    let same : same_option option.rule.word o ≡ true = ap (λ x. same_option x o) option.word ∙ found.3 in
    let test = all-in (are_single o) (shape_of c.word).rules option.rule e option.listed in
    let is : is_single option.rule.value ≡ true = ap (λ b. not b || is_single option.rule.value) (sym same) ∙ test in
    let one = single option.rule.value found.0.values is option.form in
    (one.0, ap value_words found.2 ∙ one.1)

-- ---- a value that is two words

abbrev pub is_pair : Value → Bool
is_pair (Listed (Needs a (Needs b Closed))) = true
is_pair v = false

no-fault : (faults : List Fault) (rest : List Fault) → and_then faults rest ≡ [] → (faults ≡ []) × (rest ≡ [])
no-fault faults rest e = by (is_any_syntax faults) refl e
  where
    by : (b : Bool) → is_any_syntax faults ≡ b → (if b then faults else faults ++ rest) ≡ [] → (faults ≡ []) × (rest ≡ [])
    by true f g = absurd (true≢false (sym f ∙ ap is_any_syntax g))
    by false f g = none-left faults rest g

no-words : (f : Form) (stop : Option Stop) (p : Place) (a : Element) → end_faults (Needs a f) stop p ≡ [] → ⊥
no-words f None p a e = no-cons (Syntax p) [] e
no-words f (Some x) p a e = no-cons (Syntax (stop_place x)) [] e

two : (a b : Element) (ws : List WordView) (stop : Option Stop) (p : Place) → list_faults (Needs a (Needs b Closed)) ws stop p ≡ [] → (x : WordView) × (y : WordView) × (ws ≡ x ∷ y ∷ [])
two a b [] stop p e = absurd (no-words (Needs b Closed) stop p a e)
two a b (x ∷ []) stop p e = absurd (no-words Closed stop p b (no-fault (element_faults a x) (list_faults (Needs b Closed) [] stop p) e).1)
two a b (x ∷ y ∷ []) stop p e = (x, y, refl)
two a b (x ∷ y ∷ z ∷ ws) stop p e =
    let first = no-fault (element_faults a x) (list_faults (Needs b Closed) (y ∷ z ∷ ws) stop p) e in
    let second = no-fault (element_faults b y) (list_faults Closed (z ∷ ws) stop p) first.1 in
    absurd (no-cons (Syntax z.place) [] second.1)

pair : (v : Value) (ws : List WordView) → is_pair v ≡ true → HasForm v ws → (x : WordView) × (y : WordView) × (ws ≡ x ∷ y ∷ [])
pair (Listed (Needs a (Needs b Closed))) ws e h =
    let found = two a b (words_of (elements_of h.1)) (elements_of h.1).stop (content_end h.1) h.3 in
    (found.0, found.1, h.2 ∙ found.2)
pair v ws e h = absurd cc

abbrev pub are_pairs : OptionWord → OptionRule → Bool
are_pairs o r = not (same_option r.word o) || is_pair r.value

-- the two words of an option that a command has
pub two-words : (c : CommandView) (o : OptionWord) → IsComplete c → (c.word ≡ commands.AddPstState → ⊥)
    → list_all (are_pairs o) (shape_of c.word).rules ≡ true → has_option (words_had c.options) o ≡ true
    → (x : WordView) × (y : WordView) × (words c o ≡ x ∷ y ∷ [])
two-words c o h row e f =
    let found = had-in c.options o f in
    let option = h.options row found.0 found.1 in
    let same : same_option option.rule.word o ≡ true = ap (λ x. same_option x o) option.word ∙ found.3 in
    let test = all-in (are_pairs o) (shape_of c.word).rules option.rule e option.listed in
    let is : is_pair option.rule.value ≡ true = ap (λ b. not b || is_pair option.rule.value) (sym same) ∙ test in
    let both = pair option.rule.value found.0.values is option.form in
    (both.0, both.1, ap value_words found.2 ∙ both.2)
