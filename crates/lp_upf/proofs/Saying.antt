-- What a command says by its faults.
use Rattle.std.proofs.Common.{◌≡◌, ℕ, suc, ◌-◌, Bool, true, false, List, [], ◌∷◌, refl, subst, sym, ap, ◌∙◌, length, take, drop, get_or, arith}
use Rattle.std.specs.Prelude.{Option, Some, None, ◌==◌, if◌then◌else◌}
use Rattle.std.specs.Option.{option_map}
use Rattle.std.proofs.Math.Seq.{take-length}
use Rattle.lp_text.specs.Texts.{text_at}
use Rattle.lp_text.specs.declared.place.Place.{Place}
use Rattle.lp_model.specs.declared.upf.CommandWord.{CommandWord}
use Rattle.lp_model.specs.declared.upf.CommandWord.TheVariants as words
use Rattle.lp_model.specs.declared.upf.UpfWord.{UpfWord}
use Rattle.lp_model.specs.Agreement.{numbers_below, option_numbers}
use Rattle.lp_model.specs.CommandsView.{CommandView, WordView, command_view, line_numbers, line_view, word_numbers, word_view}
use Rattle.lp_spec_upf.specs.Shapes.{NameRule, NoName, MayName, OneName, NameList, OptionRule, all_commands, shape_of}
use Rattle.lp_spec_upf.specs.Commands.{Fault, Part, Does, Fails, Breaks, Sense, TableOf, all_faults, command_by, command_in, command_of, first_after, name_missing, named_of, options_from, said_by, said_of}
use Rattle.lp_upf.specs.declared.command.Said as code
use Rattle.lp_upf.specs.declared.command.Said.TheVariants as saids
use Rattle.lp_upf.specs.Faults.{least}
use Rattle.lp_upf.specs.Named.{name_word, named_by}
use Rattle.lp_upf.specs.Said.{is_named, is_unnamed, said_view}
use Rattle.lp_upf.proofs.Carried.{below_parts}

some : (f g : Fault) → Some f ≡ Some g → f ≡ g
some f g e = ap (λ (o : Option Fault). by o) e
  where
    by : Option Fault → Fault
    by None = f
    by (Some x) = x

pub fails : (fs : List Fault) (whole : Bool) (c : CommandView) (f : Fault) → Some f ≡ least fs → Fails f ≡ said_by fs whole c
fails [] whole c f e = absurd cc
fails (g ∷ gs) whole c f e = ap (λ (x : Fault). Fails x) (some f (first_after g gs) e)

pub does : (fs : List Fault) (whole : Bool) (c : CommandView) → None ≡ least fs → whole ≡ true → Does c ≡ said_by fs whole c
does [] whole c e h = ap (λ (b : Bool). said_by [] b c) (sym h)
does (g ∷ gs) whole c e h = absurd cc

pub breaks : (fs : List Fault) (whole : Bool) (c : CommandView) → None ≡ least fs → whole ≡ false → Breaks ≡ said_by fs whole c
breaks [] whole c e h = ap (λ (b : Bool). said_by [] b c) (sym h)
breaks (g ∷ gs) whole c e h = absurd cc

-- ---- the words of a command

pub split : (words : List UpfWord) (d : UpfWord) → (length words == 0) ≡ false → words ≡ get_or words 0 d ∷ take (length words - 1) (drop 1 words)
split [] d h = absurd cc
split (w ∷ ws) d h = let e : length ws ≡ suc (length ws) - 1 = omega arith in ap (λ (xs : List UpfWord). w ∷ xs) (sym (take-length ws) ∙ ap (λ (n : ℕ). take n ws) e)

pub name_below : (n : ℕ) (r : NameRule) (ws : List UpfWord) → numbers_below n (line_numbers ws) ≡ true → numbers_below n (option_numbers word_numbers (name_word r ws)) ≡ true
name_below n NoName ws h = refl
name_below n MayName [] h = refl
name_below n OneName [] h = refl
name_below n NameList [] h = refl
name_below n MayName (w ∷ ws) h = (below_parts n (w.name.0 ∷ []) (line_numbers ws) h).0
name_below n OneName (w ∷ ws) h = (below_parts n (w.name.0 ∷ []) (line_numbers ws) h).0
name_below n NameList (w ∷ ws) h = (below_parts n (w.name.0 ∷ []) (line_numbers ws) h).0

pub by_its_word : (s : Sense) (tables : List TableOf) (e : Option Place) (names : List (List ℕ)) (words : List UpfWord) (w : UpfWord) (ws : List UpfWord) (word : CommandWord) → words ≡ w ∷ ws → Some word ≡ command_in all_commands (text_at names w.name.0)
    → said_of word w.place (shape_of word).rules (named_by s tables word e (line_view names ws)) ≡ command_of s tables e (line_view names words)
by_its_word s tables e names words w ws word is found =
    ap (λ (o : Option CommandWord). command_by o s tables e (word_view names w) (line_view names ws)) found
    ∙ ap (λ (xs : List UpfWord). command_of s tables e (line_view names xs)) (sym is)

-- ---- a table of states has a name

same_command : (fs : List Fault) (whole : Bool) (c v : CommandView) → Does v ≡ said_by fs whole c → v ≡ c
same_command [] true c v e = cc
same_command [] false c v e = absurd cc
same_command (f ∷ fs) whole c v e = absurd cc

not_missing : (p : Place) (rules : List OptionRule) (e : Option Place) (v : CommandView) → Does v ≡ said_of words.CreatePst p rules (name_missing e) → ⊥
not_missing p rules None v h = absurd cc
not_missing p rules (Some q) v h = absurd cc

has_name : (p : Place) (rules : List OptionRule) (e : Option Place) (more : List WordView → Part) (ws : List WordView) (v : CommandView) → Does v ≡ said_of words.CreatePst p rules (named_of OneName e more ws) → v.name ≡ None → ⊥
has_name p rules e more [] v h none = not_missing p rules e v h
has_name p rules e more (w ∷ ws) v h none =
    let n = named_of OneName e more (w ∷ ws) in
    let same = same_command (all_faults p rules n.rest) n.rest.whole (record { place = p; word = words.CreatePst; name = Some w; options = n.rest.options }) v h in
    absurd (no_some w (sym none ∙ ap (λ (c : CommandView). c.name) same))
  where
    no_some : (w : WordView) → None ≡ Some w → ⊥
    no_some w x = cc

module _ (s : Sense) (tables : List TableOf) (e : Option Place) where
  named_word : (k : CommandWord) (w : WordView) (ws : List WordView) (v : CommandView) → Does v ≡ said_of k w.place (shape_of k).rules (named_by s tables k e ws) → v.word ≡ words.CreatePst → v.name ≡ None → ⊥
  named_word k w ws v h is none =
      let n = named_by s tables k e ws in
      let same = same_command (all_faults w.place (shape_of k).rules n.rest) n.rest.whole (record { place = w.place; word = k; name = n.name; options = n.rest.options }) v h in
      let key : k ≡ words.CreatePst = sym (ap (λ (c : CommandView). c.word) same) ∙ is in
      has_name w.place (shape_of words.CreatePst).rules e (options_from words.CreatePst s tables (shape_of words.CreatePst).rules e) ws v
      (subst (λ (x : CommandWord). Does v ≡ said_of x w.place (shape_of x).rules (named_by s tables x e ws)) key h) none

  never_unnamed : (ws : List WordView) (v : CommandView) → Does v ≡ command_of s tables e ws → v.word ≡ words.CreatePst → v.name ≡ None → ⊥
  never_unnamed [] v h is none = absurd cc
  never_unnamed (w ∷ ws) v h is none = by (command_in all_commands w.text) h
    where
      by : (o : Option CommandWord) → Does v ≡ command_by o s tables e w ws → ⊥
      by None x = absurd cc
      by (Some k) x = named_word k w ws v x is none

  pub always_named : (names : List (List ℕ)) (r : code.Said) (ws : List WordView) → said_view names r ≡ command_of s tables e ws → is_named r ≡ true
  always_named names (saids.Fails f) ws h = refl
  always_named names saids.Breaks ws h = refl
  always_named names (saids.Does c) ws h = by (c.word) (c.name) refl refl
    where
      by : (word : CommandWord) (name : Option UpfWord) → c.word ≡ word → c.name ≡ name → (if is_unnamed word name then false else true) ≡ true
      by words.CreatePst None x y = absurd (never_unnamed ws (command_view names c) h x (ap (λ (o : Option UpfWord). option_map (word_view names) o) y))
      by words.CreatePst (Some w) x y = refl
      by word name x y = refl
