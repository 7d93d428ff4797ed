-- Each token makes at most one group.
use Rattle.std.proofs.Common.{◌≡◌, ℕ, zero, suc, ◌+◌, ◌≤◌, Bool, true, false, List, [], ◌∷◌, length, length-append, Option, Some, None, refl, ap, subst, arith}
use Rattle.std.specs.Prelude.{if◌then◌else◌, nat_lt, IfSome}
use Rattle.lp_text.specs.declared.names.NameId.{NameId}
use Rattle.lp_text.specs.Texts.{with_text}
use Rattle.lp_model.specs.declared.groups.Attr.{Attr}
use Rattle.lp_model.specs.declared.groups.Group.{Group}
use Rattle.lp_liberty.specs.declared.mark.Mark.{Mark}
use Rattle.lp_liberty.specs.declared.mark.Mark.TheVariants as marks
use Rattle.lp_liberty.specs.declared.mark.Last.TheVariants as lasts
use Rattle.lp_liberty.specs.declared.mark.Mode.{Mode}
use Rattle.lp_liberty.specs.declared.mark.Mode.TheVariants as modes
use Rattle.lp_liberty.specs.Grammar.{Token, Name, Sign}
use Rattle.lp_liberty.specs.Machine.{Machine, with_attr_at, with_attr_in, ended, innermost, opened_in, name_by, name_in, begin_name, mark_by, mark_in, shut_by, begin_mark, in_mode, holding, is_filled, Taken, Refused, Reading, Stopped, Deep, stepped, is_deep_by, numbered_as, taken_in, step_at, Step}

-- from one machine to the next
abbrev pub OneMore : Machine → Machine → Type 0
OneMore m n = length n.groups ≤ length m.groups + 1

attr_size : (groups : List Group) (n : ℕ) (a : Attr) → length (with_attr_at groups n a) ≡ length groups
attr_size [] n a = refl
attr_size (g ∷ groups) zero a = refl
attr_size (g ∷ groups) (suc n) a = ap suc (attr_size groups n a)

ended_size : (ns : List ℕ) (groups : List Group) (a : Attr) → length (with_attr_in ns groups a) ≡ length groups
ended_size [] groups a = refl
ended_size (n ∷ ns) groups a = attr_size groups n a

pub either : {A : Type 0} (P : A → Type 0) (c : Bool) (x y : Option A) → IfSome x P → IfSome y P → IfSome (if c then x else y) P
either P true x y t f = t
either P false x y t f = f

-- the last attribute makes none
after_end : (complex semi : Bool) (m n : Machine) → length n.groups ≡ length (ended complex semi m).groups → OneMore m n
after_end complex semi m n e = let same : length (ended complex semi m).groups ≡ length m.groups = ended_size m.opened m.groups (record { word = m.word; items = m.held; complex = complex }) in omega arith

name_few : (mode : Mode) (quoted : Bool) (id : NameId) (at : ℕ) (m : Machine) → IfSome (name_by mode quoted id at m) (OneMore m)
name_few (modes.Begin semi) true id at m = tt
name_few (modes.Begin semi) false id at m = omega arith
name_few modes.Named quoted id at m = tt
name_few (modes.Args l) quoted id at m = omega arith
name_few modes.Behind true id at m = either (OneMore m) (is_filled m.opened) None None tt tt
name_few modes.Behind false id at m = either (OneMore m) (is_filled m.opened) (begin_name false id at (ended true true m)) None (after_end true true m (record { groups = (ended true true m).groups; opened = m.opened; mode = modes.Named; word = id; held = []; head = at }) refl) tt
name_few modes.Items quoted id at m = omega arith

shut_few : (ns : List ℕ) (m n : Machine) → OneMore m n → IfSome (shut_by ns n) (OneMore m)
shut_few [] m n h = tt
shut_few (k ∷ ns) m n h = h

begin_few : (semi : Bool) (k : Mark) (m n : Machine) → OneMore m n → IfSome (begin_mark semi k n) (OneMore m)
begin_few semi marks.BraceClose m n h = shut_few n.opened m n h
begin_few semi marks.Semicolon m n h = either (OneMore m) semi (Some (in_mode (modes.Begin false) n)) None h tt
begin_few semi marks.ParenOpen m n h = tt
begin_few semi marks.ParenClose m n h = tt
begin_few semi marks.BraceOpen m n h = tt
begin_few semi marks.Colon m n h = tt
begin_few semi marks.Comma m n h = tt
begin_few semi marks.LineEnd m n h = tt
begin_few semi marks.Broken m n h = tt

mark_few : (mode : Mode) (k : Mark) (m : Machine) → IfSome (mark_by mode k m) (OneMore m)
mark_few (modes.Begin semi) k m = begin_few semi k m m (omega arith)
mark_few modes.Named marks.ParenOpen m = omega arith
mark_few modes.Named marks.Colon m = either (OneMore m) (is_filled m.opened) (Some (holding modes.Items [] m)) None (omega arith) tt
mark_few modes.Named marks.ParenClose m = tt
mark_few modes.Named marks.BraceOpen m = tt
mark_few modes.Named marks.BraceClose m = tt
mark_few modes.Named marks.Semicolon m = tt
mark_few modes.Named marks.Comma m = tt
mark_few modes.Named marks.LineEnd m = tt
mark_few modes.Named marks.Broken m = tt
mark_few (modes.Args lasts.Nothing) marks.ParenOpen m = tt
mark_few (modes.Args lasts.Nothing) marks.ParenClose m = omega arith
mark_few (modes.Args lasts.Nothing) marks.BraceOpen m = tt
mark_few (modes.Args lasts.Nothing) marks.BraceClose m = tt
mark_few (modes.Args lasts.Nothing) marks.Colon m = tt
mark_few (modes.Args lasts.Nothing) marks.Semicolon m = tt
mark_few (modes.Args lasts.Nothing) marks.Comma m = tt
mark_few (modes.Args lasts.Nothing) marks.LineEnd m = tt
mark_few (modes.Args lasts.Nothing) marks.Broken m = tt
mark_few (modes.Args lasts.Name) marks.ParenOpen m = tt
mark_few (modes.Args lasts.Name) marks.ParenClose m = omega arith
mark_few (modes.Args lasts.Name) marks.BraceOpen m = tt
mark_few (modes.Args lasts.Name) marks.BraceClose m = tt
mark_few (modes.Args lasts.Name) marks.Colon m = tt
mark_few (modes.Args lasts.Name) marks.Semicolon m = tt
mark_few (modes.Args lasts.Name) marks.Comma m = omega arith
mark_few (modes.Args lasts.Name) marks.LineEnd m = tt
mark_few (modes.Args lasts.Name) marks.Broken m = tt
mark_few (modes.Args lasts.Comma) marks.ParenOpen m = tt
mark_few (modes.Args lasts.Comma) marks.ParenClose m = tt
mark_few (modes.Args lasts.Comma) marks.BraceOpen m = tt
mark_few (modes.Args lasts.Comma) marks.BraceClose m = tt
mark_few (modes.Args lasts.Comma) marks.Colon m = tt
mark_few (modes.Args lasts.Comma) marks.Semicolon m = tt
mark_few (modes.Args lasts.Comma) marks.Comma m = tt
mark_few (modes.Args lasts.Comma) marks.LineEnd m = tt
mark_few (modes.Args lasts.Comma) marks.Broken m = tt
mark_few modes.Behind marks.BraceOpen m = either (OneMore m) (nat_lt (length m.opened) 64) (Some (opened_in m)) None (let more = length-append m.groups (new m ∷ []) in omega arith) tt
  where
    new : Machine → Group
    new m = record { word = m.word; args = m.held; parent = innermost m.opened; attrs = [] }
mark_few modes.Behind marks.ParenOpen m = either (OneMore m) (is_filled m.opened) (begin_mark true marks.ParenOpen (ended true true m)) None (begin_few true marks.ParenOpen m (ended true true m) (after_end true true m (ended true true m) refl)) tt
mark_few modes.Behind marks.ParenClose m = either (OneMore m) (is_filled m.opened) (begin_mark true marks.ParenClose (ended true true m)) None (begin_few true marks.ParenClose m (ended true true m) (after_end true true m (ended true true m) refl)) tt
mark_few modes.Behind marks.BraceClose m = either (OneMore m) (is_filled m.opened) (begin_mark true marks.BraceClose (ended true true m)) None (begin_few true marks.BraceClose m (ended true true m) (after_end true true m (ended true true m) refl)) tt
mark_few modes.Behind marks.Colon m = either (OneMore m) (is_filled m.opened) (begin_mark true marks.Colon (ended true true m)) None (begin_few true marks.Colon m (ended true true m) (after_end true true m (ended true true m) refl)) tt
mark_few modes.Behind marks.Semicolon m = either (OneMore m) (is_filled m.opened) (begin_mark true marks.Semicolon (ended true true m)) None (begin_few true marks.Semicolon m (ended true true m) (after_end true true m (ended true true m) refl)) tt
mark_few modes.Behind marks.Comma m = either (OneMore m) (is_filled m.opened) (begin_mark true marks.Comma (ended true true m)) None (begin_few true marks.Comma m (ended true true m) (after_end true true m (ended true true m) refl)) tt
mark_few modes.Behind marks.LineEnd m = either (OneMore m) (is_filled m.opened) (begin_mark true marks.LineEnd (ended true true m)) None (begin_few true marks.LineEnd m (ended true true m) (after_end true true m (ended true true m) refl)) tt
mark_few modes.Behind marks.Broken m = either (OneMore m) (is_filled m.opened) (begin_mark true marks.Broken (ended true true m)) None (begin_few true marks.Broken m (ended true true m) (after_end true true m (ended true true m) refl)) tt
mark_few modes.Items marks.ParenOpen m = omega arith
mark_few modes.Items marks.ParenClose m = omega arith
mark_few modes.Items marks.BraceOpen m = tt
mark_few modes.Items marks.BraceClose m = shut_few m.opened m (ended false false m) (after_end false false m (ended false false m) refl)
mark_few modes.Items marks.Colon m = tt
mark_few modes.Items marks.Semicolon m = after_end false false m (ended false false m) refl
mark_few modes.Items marks.Comma m = omega arith
mark_few modes.Items marks.LineEnd m = after_end false false m (ended false false m) refl
mark_few modes.Items marks.Broken m = tt

module _ (names new : List (List ℕ)) (m n : Machine) (at : ℕ) where
  of : (stop : Reading) (table : List (List ℕ)) (x : Option Machine) → IfSome x (OneMore m) → stepped stop table x ≡ Taken new n → OneMore m n
  of stop table None h e = absurd cc
  of stop table (Some u) h e = let same : u ≡ n = cc in subst (OneMore m) same h

  token : (t : Token) → taken_in names m at t ≡ Taken new n → OneMore m n
  token (Name quoted w) e = of (Stopped at) (with_text names w) (name_in quoted (numbered_as (with_text names w) w) at m) (name_few m.mode quoted (numbered_as (with_text names w) w) at m) e
  token (Sign k) e = of (if is_deep_by m.mode k then Deep m.head else Stopped at) names (mark_in k m) (mark_few m.mode k m) e

  of_size : (c : Bool) (stop : Reading) (s : Step) → (s ≡ Taken new n → OneMore m n) → (if c then Refused stop else s) ≡ Taken new n → OneMore m n
  of_size true stop s h e = absurd cc
  of_size false stop s h e = h e

  pub step_few : (stop : Reading) (size : ℕ) (o : Option Token) → step_at stop names m at size o ≡ Taken new n → OneMore m n
  step_few stop size None e = of_size (nat_lt 1048576 size) stop (Taken names m) (λ h. let same : m ≡ n = cc in subst (OneMore m) same (omega arith)) e
  step_few stop size (Some t) e = of_size (nat_lt 1048576 size) stop (taken_in names m at t) (token t) e
