-- Each number of a name in the groups is one of the table.
use Rattle.std.proofs.Common.{◌≡◌, ℕ, zero, suc, ◌+◌, ◌<◌, ◌≤◌, Bool, true, false, List, [], ◌∷◌, ◌++◌, length, length-append, Option, Some, None, Result, Ok, Err, IfOk, refl, sym, ap, ◌∙◌, subst, arith}
use Rattle.std.specs.Prelude.{if◌then◌else◌, ltb, nat_lt, ◌&&◌, IfSome, unwrap_or}
use Rattle.std.specs.List.{flat_map}
use Rattle.std.proofs.lemmas.Bool.{and_parts, lt-ltb}
use Rattle.std.proofs.lemmas.List.{map-append}
use Rattle.std.proofs.lemmas.List.Folds.{list_all-append}
use Rattle.std.proofs.lemmas.List.Concat.{flat_map-append}
use Rattle.lp_text.specs.declared.names.NameId.{NameId}
use Rattle.lp_text.specs.Texts.{with_text, place_of-Some, Grown-with_text}
use Rattle.lp_model.specs.declared.groups.Attr.{Attr}
use Rattle.lp_model.specs.declared.groups.Group.{Group}
use Rattle.lp_model.specs.Agreement.{numbers_below, name_numbers}
use Rattle.lp_model.specs.GroupsView.{attr_numbers, group_numbers}
use Rattle.lp_liberty.specs.declared.mark.Mark.{Mark}
use Rattle.lp_liberty.specs.declared.mark.Mark.TheVariants as marks
use Rattle.lp_liberty.specs.declared.mark.Last.TheVariants as lasts
use Rattle.lp_liberty.specs.declared.mark.Mode.{Mode}
use Rattle.lp_liberty.specs.declared.mark.Mode.TheVariants as modes
use Rattle.lp_liberty.specs.declared.run.Stop.{Stop}
use Rattle.lp_liberty.specs.Grammar.{Token, Name, Sign}
use Rattle.lp_liberty.specs.Tokens.{Placed, bare}
use Rattle.lp_liberty.specs.Machine.{Machine, start, with_attr, with_attr_at, with_attr_in, ended, innermost, opened_in, name_by, name_in, begin_name, mark_by, mark_in, shut_by, begin_mark, in_mode, holding, is_filled, is_done_by, Refused, Reading, Whole, Stopped, Deep, Long, stepped, is_deep_by, is_deep_ahead, numbered_as, taken_in, read_on, read_in}
use Rattle.lp_liberty.proofs.Few.{either}
use Rattle.lp_liberty.proofs.Reading.{placed_new}

-- ---- the table

-- a name in the table has its number there
number_below : (names : List (List ℕ)) (w : List ℕ) → (numbered_as (with_text names w) w).0 < length (with_text names w)
number_below names w =
    let new = with_text names w in
    let j = placed_new names w in
    subst (λ (o : Option ℕ). unwrap_or o 0 < length new) (sym j.1) (place_of-Some w new j.0 j.1).0

table_more : (names : List (List ℕ)) (w : List ℕ) → length names ≤ length (with_text names w)
table_more names w =
    let grown = Grown-with_text names w in
    let size : length (with_text names w) ≡ length names + length grown.more = ap length grown.is ∙ length-append names grown.more in
    omega arith

-- ---- lists of numbers

module _ (n : ℕ) where
  abbrev Below : List ℕ → Type 0
  Below numbers = numbers_below n numbers ≡ true

  join : (xs ys : List ℕ) → Below xs → Below ys → Below (xs ++ ys)
  join xs ys a b = list_all-append (λ x. ltb x n) xs ys ∙ ap (λ c. c && numbers_below n ys) a ∙ b

  left : (xs ys : List ℕ) → Below (xs ++ ys) → Below xs
  left xs ys h = (and_parts (numbers_below n xs) (numbers_below n ys) (sym (list_all-append (λ x. ltb x n) xs ys) ∙ h)).0

  right : (xs ys : List ℕ) → Below (xs ++ ys) → Below ys
  right xs ys h = (and_parts (numbers_below n xs) (numbers_below n ys) (sym (list_all-append (λ x. ltb x n) xs ys) ∙ h)).1

  one : (x : ℕ) (xs : List ℕ) → x < n → Below xs → Below (x ∷ xs)
  one x xs h a = rw (lt-ltb x n h) a

  abbrev GroupsBelow : List Group → Type 0
  GroupsBelow groups = Below (flat_map group_numbers groups)

  last_group : (groups : List Group) (g : Group) → GroupsBelow groups → Below (group_numbers g) → GroupsBelow (groups ++ g ∷ [])
  last_group groups g a b = subst Below (sym (flat_map-append group_numbers groups (g ∷ []))) (join (flat_map group_numbers groups) (group_numbers g ++ []) a (join (group_numbers g) [] b refl))

  last_attr : (g : Group) (a : Attr) → Below (group_numbers g) → Below (attr_numbers a) → Below (group_numbers (with_attr a g))
  last_attr g a h b =
      let parts = and_parts (ltb g.word.0 n) (numbers_below n (name_numbers g.args ++ flat_map attr_numbers g.attrs)) h in
      let attrs : Below (flat_map attr_numbers (g.attrs ++ a ∷ [])) = subst Below (sym (flat_map-append attr_numbers g.attrs (a ∷ []))) (join (flat_map attr_numbers g.attrs) (attr_numbers a ++ []) (right (name_numbers g.args) (flat_map attr_numbers g.attrs) parts.1) (join (attr_numbers a) [] b refl)) in
      rw (parts.0) (join (name_numbers g.args) (flat_map attr_numbers (g.attrs ++ a ∷ [])) (left (name_numbers g.args) (flat_map attr_numbers g.attrs) parts.1) attrs)

  attr_at : (groups : List Group) (k : ℕ) (a : Attr) → GroupsBelow groups → Below (attr_numbers a) → GroupsBelow (with_attr_at groups k a)
  attr_at [] k a h b = refl
  attr_at (g ∷ groups) zero a h b = join (group_numbers (with_attr a g)) (flat_map group_numbers groups) (last_attr g a (left (group_numbers g) (flat_map group_numbers groups) h) b) (right (group_numbers g) (flat_map group_numbers groups) h)
  attr_at (g ∷ groups) (suc k) a h b = join (group_numbers g) (flat_map group_numbers (with_attr_at groups k a)) (left (group_numbers g) (flat_map group_numbers groups) h) (attr_at groups k a (right (group_numbers g) (flat_map group_numbers groups) h) b)

  attr_in : (ns : List ℕ) (groups : List Group) (a : Attr) → GroupsBelow groups → Below (attr_numbers a) → GroupsBelow (with_attr_in ns groups a)
  attr_in [] groups a h b = h
  attr_in (k ∷ ns) groups a h b = attr_at groups k a h b

  held_more : (held : List NameId) (id : NameId) → Below (name_numbers held) → id.0 < n → Below (name_numbers (held ++ id ∷ []))
  held_more held id h i = subst Below (sym (map-append (λ (x : NameId). x.0) held (id ∷ []))) (join (name_numbers held) (id.0 ∷ []) h (one id.0 [] i refl))

  -- ---- the machine

  -- what a statement that has begun holds; before, nothing is known of the word, which no group gets
  abbrev StatementBelow : Mode → NameId → List NameId → Type 0
  StatementBelow (modes.Begin semi) word held = Unit {0}
  StatementBelow modes.Named word held = word.0 < n
  StatementBelow (modes.Args last) word held = (word.0 < n) × Below (name_numbers held)
  StatementBelow modes.Behind word held = (word.0 < n) × Below (name_numbers held)
  StatementBelow modes.Items word held = (word.0 < n) × Below (name_numbers held)

  abbrev Holds : Machine → Type 0
  Holds m = GroupsBelow m.groups × StatementBelow m.mode m.word m.held

  ended_below : (complex semi : Bool) (m : Machine) → GroupsBelow m.groups → (m.word.0 < n) × Below (name_numbers m.held) → GroupsBelow (ended complex semi m).groups
  ended_below complex semi m g s = attr_in m.opened m.groups (record { word = m.word; items = m.held; complex = complex }) g (one m.word.0 (name_numbers m.held) s.0 s.1)

  opened_below : (m : Machine) → GroupsBelow m.groups → (m.word.0 < n) × Below (name_numbers m.held) → GroupsBelow (opened_in m).groups
  opened_below m g s = last_group m.groups (record { word = m.word; args = m.held; parent = innermost m.opened; attrs = [] }) g (one m.word.0 (name_numbers m.held ++ []) s.0 (join (name_numbers m.held) [] s.1 refl))

  name_below : (mode : Mode) (quoted : Bool) (id : NameId) (at : ℕ) (m : Machine) → id.0 < n → GroupsBelow m.groups → StatementBelow mode m.word m.held → IfSome (name_by mode quoted id at m) Holds
  name_below (modes.Begin semi) true id at m i g s = tt
  name_below (modes.Begin semi) false id at m i g s = (g, i)
  name_below modes.Named quoted id at m i g s = tt
  name_below (modes.Args last) quoted id at m i g s = (g, (s.0, held_more m.held id s.1 i))
  name_below modes.Behind true id at m i g s = either Holds (is_filled m.opened) None None tt tt
  name_below modes.Behind false id at m i g s = either Holds (is_filled m.opened) (begin_name false id at (ended true true m)) None (ended_below true true m g s, i) tt
  name_below modes.Items quoted id at m i g s = (g, (s.0, held_more m.held id s.1 i))

  shut_below : (ns : List ℕ) (m : Machine) → GroupsBelow m.groups → IfSome (shut_by ns m) Holds
  shut_below [] m g = tt
  shut_below (k ∷ ns) m g = (g, tt)

  begin_below : (semi : Bool) (k : Mark) (m : Machine) → GroupsBelow m.groups → IfSome (begin_mark semi k m) Holds
  begin_below semi marks.BraceClose m g = shut_below m.opened m g
  begin_below semi marks.Semicolon m g = either Holds semi (Some (in_mode (modes.Begin false) m)) None (g, tt) tt
  begin_below semi marks.ParenOpen m g = tt
  begin_below semi marks.ParenClose m g = tt
  begin_below semi marks.BraceOpen m g = tt
  begin_below semi marks.Colon m g = tt
  begin_below semi marks.Comma m g = tt
  begin_below semi marks.LineEnd m g = tt
  begin_below semi marks.Broken m g = tt

  -- the statement behind its arguments ends as an attribute
  behind_below : (k : Mark) (m : Machine) → GroupsBelow m.groups → (m.word.0 < n) × Below (name_numbers m.held) → IfSome (if is_filled m.opened then begin_mark true k (ended true true m) else None) Holds
  behind_below k m g s = either Holds (is_filled m.opened) (begin_mark true k (ended true true m)) None (begin_below true k (ended true true m) (ended_below true true m g s)) tt

  mark_below : (mode : Mode) (k : Mark) (m : Machine) → Holds m → StatementBelow mode m.word m.held → IfSome (mark_by mode k m) Holds
  mark_below (modes.Begin semi) k m h s = begin_below semi k m h.0
  mark_below modes.Named marks.ParenOpen m h s = (h.0, (s, refl))
  mark_below modes.Named marks.Colon m h s = either Holds (is_filled m.opened) (Some (holding modes.Items [] m)) None (h.0, (s, refl)) tt
  mark_below modes.Named marks.ParenClose m h s = tt
  mark_below modes.Named marks.BraceOpen m h s = tt
  mark_below modes.Named marks.BraceClose m h s = tt
  mark_below modes.Named marks.Semicolon m h s = tt
  mark_below modes.Named marks.Comma m h s = tt
  mark_below modes.Named marks.LineEnd m h s = tt
  mark_below modes.Named marks.Broken m h s = tt
  mark_below (modes.Args lasts.Nothing) marks.ParenClose m h s = (h.0, s)
  mark_below (modes.Args lasts.Nothing) marks.ParenOpen m h s = tt
  mark_below (modes.Args lasts.Nothing) marks.BraceOpen m h s = tt
  mark_below (modes.Args lasts.Nothing) marks.BraceClose m h s = tt
  mark_below (modes.Args lasts.Nothing) marks.Colon m h s = tt
  mark_below (modes.Args lasts.Nothing) marks.Semicolon m h s = tt
  mark_below (modes.Args lasts.Nothing) marks.Comma m h s = tt
  mark_below (modes.Args lasts.Nothing) marks.LineEnd m h s = tt
  mark_below (modes.Args lasts.Nothing) marks.Broken m h s = tt
  mark_below (modes.Args lasts.Name) marks.ParenClose m h s = (h.0, s)
  mark_below (modes.Args lasts.Name) marks.Comma m h s = (h.0, s)
  mark_below (modes.Args lasts.Name) marks.ParenOpen m h s = tt
  mark_below (modes.Args lasts.Name) marks.BraceOpen m h s = tt
  mark_below (modes.Args lasts.Name) marks.BraceClose m h s = tt
  mark_below (modes.Args lasts.Name) marks.Colon m h s = tt
  mark_below (modes.Args lasts.Name) marks.Semicolon m h s = tt
  mark_below (modes.Args lasts.Name) marks.LineEnd m h s = tt
  mark_below (modes.Args lasts.Name) marks.Broken m h s = tt
  mark_below (modes.Args lasts.Comma) marks.ParenOpen m h s = tt
  mark_below (modes.Args lasts.Comma) marks.ParenClose m h s = tt
  mark_below (modes.Args lasts.Comma) marks.BraceOpen m h s = tt
  mark_below (modes.Args lasts.Comma) marks.BraceClose m h s = tt
  mark_below (modes.Args lasts.Comma) marks.Colon m h s = tt
  mark_below (modes.Args lasts.Comma) marks.Semicolon m h s = tt
  mark_below (modes.Args lasts.Comma) marks.Comma m h s = tt
  mark_below (modes.Args lasts.Comma) marks.LineEnd m h s = tt
  mark_below (modes.Args lasts.Comma) marks.Broken m h s = tt
  mark_below modes.Behind marks.BraceOpen m h s = either Holds (nat_lt (length m.opened) 64) (Some (opened_in m)) None (opened_below m h.0 s, tt) tt
  mark_below modes.Behind marks.ParenOpen m h s = behind_below marks.ParenOpen m h.0 s
  mark_below modes.Behind marks.ParenClose m h s = behind_below marks.ParenClose m h.0 s
  mark_below modes.Behind marks.BraceClose m h s = behind_below marks.BraceClose m h.0 s
  mark_below modes.Behind marks.Colon m h s = behind_below marks.Colon m h.0 s
  mark_below modes.Behind marks.Semicolon m h s = behind_below marks.Semicolon m h.0 s
  mark_below modes.Behind marks.Comma m h s = behind_below marks.Comma m h.0 s
  mark_below modes.Behind marks.LineEnd m h s = behind_below marks.LineEnd m h.0 s
  mark_below modes.Behind marks.Broken m h s = behind_below marks.Broken m h.0 s
  mark_below modes.Items marks.Comma m h s = h
  mark_below modes.Items marks.ParenOpen m h s = h
  mark_below modes.Items marks.ParenClose m h s = h
  mark_below modes.Items marks.Semicolon m h s = (ended_below false false m h.0 s, tt)
  mark_below modes.Items marks.LineEnd m h s = (ended_below false false m h.0 s, tt)
  mark_below modes.Items marks.BraceClose m h s = shut_below m.opened (ended false false m) (ended_below false false m h.0 s)
  mark_below modes.Items marks.BraceOpen m h s = tt
  mark_below modes.Items marks.Colon m h s = tt
  mark_below modes.Items marks.Broken m h s = tt

-- ---- whole texts

-- the groups of a reading have numbers of its table, and the table is not smaller than it was
module _ (size : ℕ) (final : List (List ℕ)) (groups : List Group) where
  abbrev Small : List (List ℕ) → Machine → Type 0
  Small names m = (length names ≤ length final) × (Holds (length final) m → GroupsBelow (length final) groups)

  abbrev More : (List (List ℕ) → Machine → Reading) → Type 0
  More more = (names : List (List ℕ)) (m : Machine) → more names m ≡ Whole final groups → Small names m

  small_done : (names : List (List ℕ)) (m : Machine) (done : Bool) → (if done then Whole names m.groups else Stopped size) ≡ Whole final groups → Small names m
  small_done names m true e =
      let table : names ≡ final = cc in
      let same : m.groups ≡ groups = cc in
      ((let long = ap length table in omega arith), (λ h. subst (GroupsBelow (length final)) same h.0))
  small_done names m false e = absurd cc

  small_on : (more : List (List ℕ) → Machine → Reading) → More more → (names table : List (List ℕ)) (m : Machine) (stop : Reading) → ((r : Reading) → stop ≡ r → r ≡ Whole final groups → ⊥) → (o : Option Machine) → length names ≤ length table → (length table ≤ length final → Holds (length final) m → IfSome o (Holds (length final))) → read_on more (stepped stop table o) ≡ Whole final groups → Small names m
  small_on more next names table m stop not None grown step e = absurd (not stop refl e)
  small_on more next names table m stop not (Some u) grown step e = let s = next table u e in (omega (arith, s.0), (λ h. s.1 (step s.0 h)))

  small_token : (more : List (List ℕ) → Machine → Reading) → More more → (names : List (List ℕ)) (m : Machine) (at : ℕ) (t : Token) → read_on more (taken_in names m at t) ≡ Whole final groups → Small names m
  small_token more next names m at (Name quoted w) e =
      let new = with_text names w in
      let id = numbered_as new w in
      small_on more next names new m (Stopped at) (λ r s h. absurd cc) (name_in quoted id at m) (table_more names w) (λ room h. name_below (length final) m.mode quoted id at m (let there = number_below names w in omega arith) h.0 h.1) e
  small_token more next names m at (Sign k) e =
      small_on more next names names m (if is_deep_by m.mode k then Deep m.head else Stopped at) (no_whole (is_deep_by m.mode k)) (mark_in k m) (omega arith) (λ room h. mark_below (length final) m.mode k m h h.1) e
    where
      no_whole : (c : Bool) (r : Reading) → (if c then Deep m.head else Stopped at) ≡ r → r ≡ Whole final groups → ⊥
      no_whole true r s h = absurd cc
      no_whole false r s h = absurd cc

  long_whole : (deep : Bool) (head at : ℕ) → (if deep then Deep head else Long at) ≡ Whole final groups → ⊥
  long_whole true head at e = absurd cc
  long_whole false head at e = absurd cc

  small_step : (more : List (List ℕ) → Machine → Reading) → More more → (names : List (List ℕ)) (m : Machine) (t : Placed) (deep long : Bool) → read_on more (if long then Refused (if deep then Deep m.head else Long t.at) else taken_in names m t.at t.token) ≡ Whole final groups → Small names m
  small_step more next names m t deep true e = absurd (long_whole deep m.head t.at e)
  small_step more next names m t deep false e = small_token more next names m t.at t.token e

  small : (tokens : List Placed) → More (λ names m. read_in size names m tokens)
  small [] names m e = small_done names m (is_done_by m.mode m.opened) e
  small (t ∷ tokens) names m e = small_step (λ new u. read_in size new u tokens) (small tokens) names m t (is_deep_ahead m (t.token ∷ bare tokens)) (nat_lt 1048576 t.size) e

pub numbers_ok : (size : ℕ) (tokens : List Placed) (names old : List (List ℕ)) (r : Result (List Group) Stop) → IfOk r (λ groups. read_in size old start tokens ≡ Whole names groups) → IfOk r (λ groups. numbers_below (length names) (flat_map group_numbers groups) ≡ true)
numbers_ok size tokens names old (Err stop) h = tt
numbers_ok size tokens names old (Ok groups) h = (small size names groups tokens old start h).1 (refl, tt)
