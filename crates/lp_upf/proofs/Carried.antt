-- The numbers of names in what was read of a command, and its faults.
use Rattle.std.proofs.Common.{◌≡◌, ℕ, ◌+◌, ◌<◌, ◌≤◌, ◌&&◌, Bool, true, List, [], ◌∷◌, ◌++◌, refl, sym, ap, ◌∙◌, length, length-append, map, arith}
use Rattle.std.specs.Prelude.{Option, Some, None, ltb}
use Rattle.std.specs.List.{flat_map}
use Rattle.std.proofs.lemmas.Bool.{and_parts, lt-ltb, ltb-true}
use Rattle.std.proofs.lemmas.List.Folds.{list_all-append}
use Rattle.std.proofs.lemmas.List.Concat.{flat_map-append}
use Rattle.std.proofs.lemmas.List.{append-nil}
use Rattle.lp_text.specs.Texts.{Grown}
use Rattle.lp_text.specs.declared.place.Place.{Place}
use Rattle.lp_model.specs.declared.upf.CommandOption.{CommandOption}
use Rattle.lp_model.specs.declared.upf.UpfWord.{UpfWord}
use Rattle.lp_model.specs.Agreement.{numbers_below, Agree, Agree-left, Agree-right, Agree-grown, map-same, option-same}
use Rattle.lp_model.specs.CommandsView.{WordView, command_option_numbers, line_numbers, line_view, option_view, word_numbers, word_view}
use Rattle.lp_upf_words.specs.declared.mode.Stop.{Stop}
use Rattle.lp_spec_upf.specs.Shapes.{Form, Closed, Rest, Needs, May, OffOr}
use Rattle.lp_spec_upf.specs.Commands.{and_then, element_faults, list_faults, name_faults}
use Rattle.lp_upf.specs.declared.fault.CommandFault.{CommandFault}
use Rattle.lp_upf.specs.declared.fault.CommandFault.TheVariants as faults
use Rattle.lp_upf.specs.declared.fault.Faults.{Faults}
use Rattle.lp_upf.specs.declared.options.Next as code_next
use Rattle.lp_upf.specs.declared.options.Next.TheVariants as nexts
use Rattle.lp_upf.specs.declared.options.Reading.{Reading}
use Rattle.lp_upf.specs.Faults.{fault_numbers, fault_view, faults_view, first_numbers, is_off, judged}
use Rattle.lp_upf.specs.Options.{next_numbers, next_view, reading_numbers, reading_view}

-- one fault
pub one : (names : List (List ℕ)) (f : CommandFault) → faults_view names (record { first = Some f; cut = is_off f }) ≡ judged (fault_view names f ∷ [])
one names (faults.Syntax p) = refl
one names (faults.Unsupported p w) = refl
one names (faults.Expression p w) = refl
one names (faults.ClampRefused p) = refl

-- ---- where a list leaves the form, its end is not asked for

ends : (f : Form) (ws : List WordView) (x : Stop) (p q : Place) → list_faults f ws (Some x) p ≡ list_faults f ws (Some x) q
ends f [] x p q = refl
ends Closed (w ∷ ws) x p q = refl
ends Rest (w ∷ ws) x p q = ap (and_then (name_faults w)) (ends Rest ws x p q)
ends (Needs e f) (w ∷ ws) x p q = ap (and_then (element_faults e w)) (ends f ws x p q)
ends (May e f) (w ∷ ws) x p q = ap (and_then (element_faults e w)) (ends f ws x p q)
ends (OffOr f) (w ∷ ws) x p q = rw (ends Closed ws x p q, ends f ws x p q) refl

pub at_its_end : (f : Form) (ws : List WordView) (stop : Option Stop) (p q : Place) → (stop ≡ None → p ≡ q) → list_faults f ws stop p ≡ list_faults f ws stop q
at_its_end f ws None p q h = ap (list_faults f ws None) (h refl)
at_its_end f ws (Some x) p q h = ends f ws x p q

-- ---- numbers

pub below_more : (m n : ℕ) (xs : List ℕ) → m ≤ n → numbers_below m xs ≡ true → numbers_below n xs ≡ true
below_more m n [] h e = refl
below_more m n (x ∷ xs) h e =
    let both = and_parts (ltb x m) (numbers_below m xs) e in
    let less : x < m = ltb-true x m both.0 in
    let under : x < n = omega arith in
    rw (lt-ltb x n under) (below_more m n xs h both.1)

pub below_join : (n : ℕ) (xs ys : List ℕ) → numbers_below n xs ≡ true → numbers_below n ys ≡ true → numbers_below n (xs ++ ys) ≡ true
below_join n xs ys a b = list_all-append (λ x. ltb x n) xs ys ∙ ap (λ c. c && numbers_below n ys) a ∙ b

pub below_parts : (n : ℕ) (xs ys : List ℕ) → numbers_below n (xs ++ ys) ≡ true → (numbers_below n xs ≡ true) × (numbers_below n ys ≡ true)
below_parts n xs ys h = and_parts (numbers_below n xs) (numbers_below n ys) (sym (list_all-append (λ x. ltb x n) xs ys) ∙ h)

pub grown_length : (old new : List (List ℕ)) → Grown old new → length old ≤ length new
grown_length old new g =
    let e : length new ≡ length old + length g.more = ap (λ (xs : List (List ℕ)). length xs) g.is ∙ length-append old g.more in
    omega arith

pub faults_part : (n : ℕ) (s : Reading) → numbers_below n (reading_numbers s) ≡ true → numbers_below n (first_numbers s.faults.first) ≡ true
faults_part n s h =
    let b = below_parts n (next_numbers s.next) (flat_map command_option_numbers s.options ++ first_numbers s.faults.first) h in
    (below_parts n (flat_map command_option_numbers s.options) (first_numbers s.faults.first) b.1).1

pub with_faults : (n : ℕ) (s : Reading) (f : Faults) → numbers_below n (reading_numbers s) ≡ true → numbers_below n (first_numbers f.first) ≡ true → numbers_below n (reading_numbers (record { next = s.next; options = s.options; faults = f })) ≡ true
with_faults n s f h k =
    let b = below_parts n (next_numbers s.next) (flat_map command_option_numbers s.options ++ first_numbers s.faults.first) h in
    let o = below_parts n (flat_map command_option_numbers s.options) (first_numbers s.faults.first) b.1 in
    below_join n (next_numbers s.next) (flat_map command_option_numbers s.options ++ first_numbers f.first) b.0 (below_join n (flat_map command_option_numbers s.options) (first_numbers f.first) o.0 k)

pub with_option : (n : ℕ) (s : Reading) (o : CommandOption) (f : Faults) → numbers_below n (reading_numbers s) ≡ true → numbers_below n (line_numbers o.values) ≡ true → numbers_below n (first_numbers f.first) ≡ true
    → numbers_below n (reading_numbers (record { next = nexts.Option; options = s.options ++ o ∷ []; faults = f })) ≡ true
with_option n s o f h v k =
    let b = below_parts n (next_numbers s.next) (flat_map command_option_numbers s.options ++ first_numbers s.faults.first) h in
    let os = below_parts n (flat_map command_option_numbers s.options) (first_numbers s.faults.first) b.1 in
    let last : numbers_below n (flat_map command_option_numbers (o ∷ [])) ≡ true = ap (numbers_below n) (append-nil (line_numbers o.values)) ∙ v in
    let all : numbers_below n (flat_map command_option_numbers (s.options ++ o ∷ [])) ≡ true =
    ap (numbers_below n) (flat_map-append command_option_numbers s.options (o ∷ [])) ∙ below_join n (flat_map command_option_numbers s.options) (flat_map command_option_numbers (o ∷ [])) os.0 last in
    below_join n (flat_map command_option_numbers (s.options ++ o ∷ [])) (first_numbers f.first) all k

-- ---- the table of names grows

module _ (old new : List (List ℕ)) where
  word-same : (w : UpfWord) → Agree old new (word_numbers w) → word_view new w ≡ word_view old w
  word-same w a = rw (a.0) refl

  line-same : (words : List UpfWord) → Agree old new (line_numbers words) → line_view new words ≡ line_view old words
  line-same words a = map-same old new word_numbers word_view word-same words a

  option-view-same : (o : CommandOption) → Agree old new (command_option_numbers o) → option_view new o ≡ option_view old o
  option-view-same o a = rw (line-same o.values a) refl

  -- words
  pub line-grown : (words : List UpfWord) → Grown old new → numbers_below (length old) (line_numbers words) ≡ true → line_view new words ≡ line_view old words
  line-grown words grown below = line-same words (Agree-grown old new grown (line_numbers words) below)

  -- a word
  pub word-grown : (w : UpfWord) → Grown old new → w.name.0 < length old → word_view new w ≡ word_view old w
  word-grown w grown below = word-same w (Agree-grown old new grown (word_numbers w) (ap (λ (b : Bool). b && true) (lt-ltb w.name.0 (length old) below)))

  fault-same : (f : CommandFault) → Agree old new (fault_numbers f) → fault_view new f ≡ fault_view old f
  fault-same (faults.Syntax p) a = refl
  fault-same (faults.Unsupported p w) a = rw (a.0) refl
  fault-same (faults.Expression p w) a = refl
  fault-same (faults.ClampRefused p) a = refl

  next-same : (x : code_next.Next) → Agree old new (next_numbers x) → next_view new x ≡ next_view old x
  next-same nexts.Option a = refl
  next-same (nexts.ValueOf r w) a = rw (a.0) refl
  next-same nexts.Skipped a = refl

  pub reading-same : (s : Reading) → Grown old new → numbers_below (length old) (reading_numbers s) ≡ true → reading_view new s ≡ reading_view old s
  reading-same s grown below =
      let os = flat_map command_option_numbers s.options in
      let fs = first_numbers s.faults.first in
      let agree = Agree-grown old new grown (reading_numbers s) below in
      let rest = Agree-right old new (next_numbers s.next) (os ++ fs) agree in
      let n = next-same s.next (Agree-left old new (next_numbers s.next) (os ++ fs) agree) in
      let o : map (option_view new) s.options ≡ map (option_view old) s.options = map-same old new command_option_numbers option_view option-view-same s.options (Agree-left old new os fs rest) in
      let f = option-same old new fault_numbers fault_view fault-same s.faults.first (Agree-right old new os fs rest) in
      rw (n, o, f) refl

  -- faults
  pub faults-grown : (f : Faults) → Grown old new → numbers_below (length old) (first_numbers f.first) ≡ true → faults_view new f ≡ faults_view old f
  faults-grown f grown below =
      let first = option-same old new fault_numbers fault_view fault-same f.first (Agree-grown old new grown (first_numbers f.first) below) in
      rw (first) refl

  -- a fault
  pub fault-grown : (f : CommandFault) → Grown old new → numbers_below (length old) (fault_numbers f) ≡ true → fault_view new f ≡ fault_view old f
  fault-grown f grown below = fault-same f (Agree-grown old new grown (fault_numbers f) below)
