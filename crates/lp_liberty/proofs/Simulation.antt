-- The reader moves as the machine that holds statements does.
use Rattle.std.proofs.Common.{◌≡◌, ℕ, zero, suc, ◌+◌, Bool, true, false, List, [], ◌∷◌, ◌++◌, length, Option, Some, None, refl, sym, ap, ◌∙◌, subst}
use Rattle.std.specs.Prelude.{if◌then◌else◌, nat_lt, IsTrue, map}
use Rattle.std.proofs.lemmas.List.{append-nil, map-append, length-map}
use Rattle.std.proofs.lemmas.Bool.{true≢false}
use Rattle.lp_text.specs.declared.names.NameId.{NameId}
use Rattle.lp_text.specs.Texts.{text_at}
use Rattle.lp_model.specs.Agreement.{name_texts}
use Rattle.lp_model.specs.declared.groups.Attr.{Attr}
use Rattle.lp_model.specs.declared.groups.Group as group
use Rattle.lp_model.specs.GroupsView.{attr_view, group_view}
use Rattle.lp_liberty.specs.declared.mark.Mark.{Mark}
use Rattle.lp_liberty.specs.declared.mark.Mark.TheVariants as marks
use Rattle.lp_liberty.specs.declared.mark.Last as last
use Rattle.lp_liberty.specs.declared.mark.Last.TheVariants as lasts
use Rattle.lp_liberty.specs.declared.mark.Mode.{Mode}
use Rattle.lp_liberty.specs.declared.mark.Mode.TheVariants as modes
use Rattle.lp_liberty.specs.Grammar as grammar
use Rattle.lp_liberty.specs.Grammar.{Token, Name, Sign, Body, End, Semi, Simple, Complex, Group, spelling, below_64}
use Rattle.lp_liberty.specs.Meaning.{names_in, attribute, attributes, count, header, groups_in}
use Rattle.lp_liberty.specs.Machine as machine
use Rattle.lp_liberty.specs.Machine.{Machine, is_filled, is_inside, with_attr, with_attr_at, with_attr_in, ended, innermost, opened_in, shut_by, shut_in, begin_name, name_by, name_in, named_mark, behind_mark, mark_by, mark_in, holding, in_mode}
use Rattle.lp_liberty.proofs.Joined.{is_open, open-joined, spelling-joined}
use Rattle.lp_liberty.proofs.Zipper as zip
use Rattle.lp_liberty.proofs.Zipper.{joined, Frame, State, at_begin, in_statement, shut, begin, named, args, behind_complex, items, behind, step_by, step}
use Rattle.lp_liberty.proofs.Found.{frames_text, state_text, statement_text}
use Rattle.lp_liberty.proofs.Shown.{shown, base, own, numbers, AllOpen, shown_inner, shown_more, length_shown, attr_at, shown_attr}

pub filled_numbers : (fs : List Frame) → is_filled (numbers fs) ≡ is_filled fs
filled_numbers [] = refl
filled_numbers (f ∷ fs) = refl

pub length_numbers : (fs : List Frame) → length (numbers fs) ≡ length fs
length_numbers [] = refl
length_numbers (f ∷ fs) = ap suc (length_numbers fs)

innermost_numbers : (fs : List Frame) → innermost (numbers fs) ≡ own fs
innermost_numbers [] = refl
innermost_numbers (f ∷ fs) = refl

names_in-append : (xs ys : List Token) → names_in (xs ++ ys) ≡ names_in xs ++ names_in ys
names_in-append [] ys = refl
names_in-append (Name q w ∷ xs) ys = ap (λ ns. w ∷ ns) (names_in-append xs ys)
names_in-append (Sign k ∷ xs) ys = names_in-append xs ys

-- both go on, or both stop
abbrev pub Both : {A B : Type 0} → (A → B → Type 0) → Option A → Option B → Type 0
Both R None None = Unit {0}
Both R (Some x) (Some y) = R x y
Both R None (Some y) = ⊥
Both R (Some x) None = ⊥

both_if : {A B : Type 0} (R : A → B → Type 0) (c e : Bool) (x y : Option A) (u v : Option B) → e ≡ c → (c ≡ true → Both R x u) → (c ≡ false → Both R y v) → Both R (if c then x else y) (if e then u else v)
both_if R true true x y u v same t f = t refl
both_if R false false x y u v same t f = f refl
both_if R true false x y u v same t f = absurd cc
both_if R false true x y u v same t f = absurd cc

-- items stand in groups
abbrev pub Inside : Mode → List Frame → Type 0
Inside modes.Items fs = IsTrue (is_filled fs)
Inside modes.Named fs = Unit {0}
Inside modes.Behind fs = Unit {0}
Inside (modes.Begin semi) fs = Unit {0}
Inside (modes.Args l) fs = Unit {0}

-- a semicolon shows nothing
semi_shown : (fs : List Frame) (d : Body) → AllOpen fs → IsTrue (is_open d) → shown fs d ≡ shown fs (joined d (Semi End))
semi_shown fs d o h = sym (append-nil (shown fs d)) ∙ sym (shown_more fs d (Semi End) o h refl)

-- `final` is the table of names, `place` says where the word of each statement stands
module _ (final : List (List ℕ)) (place : ℕ → ℕ) where
  map_attr_at : (groups : List group.Group) (n : ℕ) (a : Attr) → map (group_view final) (with_attr_at groups n a) ≡ attr_at (map (group_view final) groups) n (attr_view final a)
  map_attr_at [] n a = refl
  map_attr_at (g ∷ groups) zero a = ap (λ attrs. record { word = text_at final g.word.0; args = name_texts final g.args; parent = g.parent; attrs = attrs } ∷ map (group_view final) groups) (map-append (attr_view final) g.attrs (a ∷ []))
  map_attr_at (g ∷ groups) (suc n) a = ap (λ gs. group_view final g ∷ gs) (map_attr_at groups n a)

  -- the groups and the open ones
  pub record Same (fs : List Frame) (d : Body) (m : Machine) : Type 0 where
    pub groups : map (group_view final) m.groups ≡ shown fs d
    pub opened : m.opened ≡ numbers fs

  -- the place of the current word
  abbrev pub HeadAt : List Frame → Body → Machine → Type 0
  HeadAt fs d m = m.head ≡ place (length (frames_text fs ++ spelling d))

  abbrev pub ShowsStatement : List Frame → Body → Mode → List ℕ → List Token → Machine → Type 0
  ShowsStatement fs d (modes.Begin semi) w held m = Unit {0}
  ShowsStatement fs d modes.Named w held m = (text_at final m.word.0 ≡ w) × HeadAt fs d m
  ShowsStatement fs d (modes.Args l) w held m = (text_at final m.word.0 ≡ w) × HeadAt fs d m × (name_texts final m.held ≡ names_in held)
  ShowsStatement fs d modes.Behind w held m = (text_at final m.word.0 ≡ w) × HeadAt fs d m × (name_texts final m.held ≡ names_in held)
  ShowsStatement fs d modes.Items w held m = (text_at final m.word.0 ≡ w) × (name_texts final m.held ≡ names_in held)

  -- the reader shows the state of the machine
  pub record Shows (z : State) (m : Machine) : Type 0 where
    pub mode : m.mode ≡ z.mode
    pub same : Same z.frames z.done m
    pub statement : ShowsStatement z.frames z.done z.mode z.word z.held m

  -- ---- what ends and opens

  same_ended : (f : Frame) (fs : List Frame) (d x : Body) (complex semi : Bool) (w : List ℕ) (held : List Token) (m : Machine) → AllOpen (f ∷ fs) → IsTrue (is_open d)
      → attributes x ≡ attribute complex w held ∷ [] → ((p : Option ℕ) (n : ℕ) → groups_in p n x ≡ []) → text_at final m.word.0 ≡ w → name_texts final m.held ≡ names_in held → Same (f ∷ fs) d m → Same (f ∷ fs) (joined d x) (ended complex semi m)
  same_ended f fs d x complex semi w held m o h one none word names s =
      let a : Attr = record { word = m.word; items = m.held; complex = complex } in
      let view : attr_view final a ≡ attribute complex w held = ap (λ v. record { word = v; items = name_texts final m.held; complex = complex }) word ∙ ap (λ ns. record { word = w; items = ns; complex = complex }) names in
      let k = base fs + count f.before in
      record {
        groups = ap (λ ns. map (group_view final) (with_attr_in ns m.groups a)) s.opened ∙ map_attr_at m.groups k a ∙ ap (λ gs. attr_at gs k (attr_view final a)) s.groups ∙ ap (λ v. attr_at (shown (f ∷ fs) d) k v) view ∙ sym (shown_attr f fs d x (attribute complex w held) o h one none);
        opened = s.opened;
      }

  shut_same : (fs : List Frame) (d : Body) (m : Machine) → Same fs d m → Both Shows (shut fs d) (shut_in m)
  shut_same fs d m s = subst (λ (ns : List ℕ). Both Shows (shut fs d) (shut_by ns m)) (sym s.opened) (by fs s.groups)
    where
      by : (gs : List Frame) → map (group_view final) m.groups ≡ shown gs d → Both Shows (shut gs d) (shut_by (numbers gs) m)
      by [] h = tt
      by (f ∷ gs) h = record { mode = refl; same = record { groups = h; opened = refl }; statement = tt }

  opened_same : (fs : List Frame) (d : Body) (w : List ℕ) (held : List Token) (m : Machine) → AllOpen fs → IsTrue (is_open d) → text_at final m.word.0 ≡ w → name_texts final m.held ≡ names_in held → Same fs d m
      → Shows (at_begin (record { before = d; word = w; args = held } ∷ fs) End false) (opened_in m)
  opened_same fs d w held m o h word names s =
      let f : Frame = record { before = d; word = w; args = held } in
      let g : group.Group = record { word = m.word; args = m.held; parent = innermost m.opened; attrs = [] } in
      let view : group_view final g ≡ header (own fs) w held [] =
      ap (λ v. record { word = v; args = name_texts final m.held; parent = innermost m.opened; attrs = [] }) word
      ∙ ap (λ ns. record { word = w; args = ns; parent = innermost m.opened; attrs = [] }) names
      ∙ ap (λ p. record { word = w; args = names_in held; parent = p; attrs = [] }) (ap innermost s.opened ∙ innermost_numbers fs) in
      let count_groups : length (map (group_view final) m.groups) ≡ base fs + count d = ap length s.groups ∙ length_shown fs d o in
      record {
        mode = refl;
        same = record {
          groups = map-append (group_view final) m.groups (g ∷ []) ∙ ap (λ gs. gs ++ group_view final g ∷ []) s.groups ∙ ap (λ v. shown fs d ++ v ∷ []) view ∙ sym (shown_inner f fs End (h, o));
          opened = ap (λ n. n ∷ m.opened) (sym (length-map m.groups (group_view final)) ∙ count_groups) ∙ ap (λ ns. (base fs + count d) ∷ ns) s.opened;
        };
        statement = tt;
      }

  -- ---- a name

  begin_name_same : (fs : List Frame) (d : Body) (semi quoted : Bool) (w : List ℕ) (id : NameId) (at : ℕ) (m : Machine) → text_at final id.0 ≡ w → at ≡ place (length (frames_text fs ++ spelling d)) → Same fs d m → Both Shows (begin fs d semi (Name quoted w)) (begin_name quoted id at m)
  begin_name_same fs d semi true w id at m e p s = tt
  begin_name_same fs d semi false w id at m e p s = record { mode = refl; same = record { groups = s.groups; opened = s.opened }; statement = (e, p) }

  hold_same : (held : List Token) (ids : List NameId) (quoted : Bool) (w : List ℕ) (id : NameId) → text_at final id.0 ≡ w → name_texts final ids ≡ names_in held → name_texts final (ids ++ id ∷ []) ≡ names_in (held ++ Name quoted w ∷ [])
  hold_same held ids quoted w id e h = map-append (λ n. text_at final n.0) ids (id ∷ []) ∙ ap (λ ns. ns ++ text_at final id.0 ∷ []) h ∙ ap (λ t. names_in held ++ t ∷ []) e ∙ sym (names_in-append held (Name quoted w ∷ []))

  -- the place of a token behind all that was read
  abbrev pub Next : State → ℕ → Type 0
  Next z at = at ≡ place (length (state_text z))

  behind_text : (fs : List Frame) (d : Body) (w : List ℕ) (held : List Token) → IsTrue (is_open d) → frames_text fs ++ (spelling d ++ statement_text modes.Behind w held) ≡ frames_text fs ++ spelling (joined d (Complex w held End))
  behind_text fs d w held h = ap (λ ts. frames_text fs ++ ts) (sym (spelling-joined d (Complex w held End) h))

  pub name_same : (fs : List Frame) (d : Body) (mode : Mode) (v : List ℕ) (held : List Token) (quoted : Bool) (w : List ℕ) (id : NameId) (at : ℕ) (m : Machine) → AllOpen fs → IsTrue (is_open d) → text_at final id.0 ≡ w
      → Next (in_statement fs d mode v held) at → Same fs d m → ShowsStatement fs d mode v held m → Both Shows (step_by below_64 fs d mode v held (Name quoted w)) (name_by mode quoted id at m)
  name_same fs d (modes.Begin semi) v held quoted w id at m o h e p s t = begin_name_same fs d semi quoted w id at m e (p ∙ ap (λ ts. place (length (frames_text fs ++ ts))) (append-nil (spelling d))) s
  name_same fs d modes.Named v held quoted w id at m o h e p s t = tt
  name_same fs d (modes.Args l) v held quoted w id at m o h e p s t = record { mode = refl; same = record { groups = s.groups; opened = s.opened }; statement = (t.0, t.1, hold_same held m.held quoted w id e t.2) }
  name_same fs d modes.Items v held quoted w id at m o h e p s t = record { mode = refl; same = record { groups = s.groups; opened = s.opened }; statement = (t.0, hold_same held m.held quoted w id e t.1) }
  name_same [] d modes.Behind v held quoted w id at m o h e p s t = subst (λ (ns : List ℕ). Both Shows (behind_complex [] d v held (Name quoted w)) (if is_filled ns then begin_name quoted id at (ended true true m) else None)) (sym s.opened) tt
  name_same (f ∷ fs) d modes.Behind v held quoted w id at m o h e p s t = subst (λ (ns : List ℕ). Both Shows (behind_complex (f ∷ fs) d v held (Name quoted w)) (if is_filled ns then begin_name quoted id at (ended true true m) else None)) (sym s.opened)
      (begin_name_same (f ∷ fs) (joined d (Complex v held End)) true quoted w id at (ended true true m) e (p ∙ ap (λ ts. place (length ts)) (behind_text (f ∷ fs) d v held h))
      (same_ended f fs d (Complex v held End) true true v held m o h refl (λ p n. refl) t.0 t.2 s))

  -- ---- a mark

  begin_mark_same : (fs : List Frame) (d : Body) (semi : Bool) (k : Mark) (m : Machine) → AllOpen fs → IsTrue (is_open d) → Same fs d m → Both Shows (zip.begin_mark fs d semi k) (machine.begin_mark semi k m)
  begin_mark_same fs d semi marks.BraceClose m o h s = shut_same fs d m s
  begin_mark_same fs d semi marks.Semicolon m o h s =
      both_if Shows semi semi (Some (at_begin fs (joined d (Semi End)) false)) None (Some (in_mode (modes.Begin false) m)) None refl
      (λ e. record { mode = refl; same = record { groups = s.groups ∙ semi_shown fs d o h; opened = s.opened }; statement = tt }) (λ e. tt)
  begin_mark_same fs d semi marks.ParenOpen m o h s = tt
  begin_mark_same fs d semi marks.ParenClose m o h s = tt
  begin_mark_same fs d semi marks.BraceOpen m o h s = tt
  begin_mark_same fs d semi marks.Colon m o h s = tt
  begin_mark_same fs d semi marks.Comma m o h s = tt
  begin_mark_same fs d semi marks.LineEnd m o h s = tt
  begin_mark_same fs d semi marks.Broken m o h s = tt

  named_same : (fs : List Frame) (d : Body) (w : List ℕ) (k : Mark) (m : Machine) → text_at final m.word.0 ≡ w → HeadAt fs d m → Same fs d m → Both Shows (named fs d w (Sign k)) (named_mark k m)
  named_same fs d w marks.ParenOpen m e p s = record { mode = refl; same = record { groups = s.groups; opened = s.opened }; statement = (e, p, refl) }
  named_same fs d w marks.Colon m e p s =
      both_if Shows (is_filled fs) (is_filled m.opened) (Some (in_statement fs d modes.Items w [])) None (Some (holding modes.Items [] m)) None (ap is_filled s.opened ∙ filled_numbers fs)
      (λ c. record { mode = refl; same = record { groups = s.groups; opened = s.opened }; statement = (e, refl) }) (λ c. tt)
  named_same fs d w marks.ParenClose m e p s = tt
  named_same fs d w marks.BraceOpen m e p s = tt
  named_same fs d w marks.BraceClose m e p s = tt
  named_same fs d w marks.Semicolon m e p s = tt
  named_same fs d w marks.Comma m e p s = tt
  named_same fs d w marks.LineEnd m e p s = tt
  named_same fs d w marks.Broken m e p s = tt

  sign_held : (held : List Token) (ids : List NameId) (k : Mark) → name_texts final ids ≡ names_in held → name_texts final ids ≡ names_in (held ++ Sign k ∷ [])
  sign_held held ids k h = h ∙ sym (append-nil (names_in held)) ∙ sym (names_in-append held (Sign k ∷ []))

  args_same : (fs : List Frame) (d : Body) (l : last.Last) (w : List ℕ) (held : List Token) (k : Mark) (m : Machine) → text_at final m.word.0 ≡ w → HeadAt fs d m → name_texts final m.held ≡ names_in held → Same fs d m → Both Shows (zip.args_mark fs d l w held k) (machine.args_mark l k m)
  args_same fs d lasts.Name w held marks.Comma m e p n s = record { mode = refl; same = record { groups = s.groups; opened = s.opened }; statement = (e, p, sign_held held m.held marks.Comma n) }
  args_same fs d lasts.Name w held marks.ParenClose m e p n s = record { mode = refl; same = record { groups = s.groups; opened = s.opened }; statement = (e, p, n) }
  args_same fs d lasts.Nothing w held marks.ParenClose m e p n s = record { mode = refl; same = record { groups = s.groups; opened = s.opened }; statement = (e, p, n) }
  args_same fs d lasts.Name w held marks.ParenOpen m e p n s = tt
  args_same fs d lasts.Name w held marks.BraceOpen m e p n s = tt
  args_same fs d lasts.Name w held marks.BraceClose m e p n s = tt
  args_same fs d lasts.Name w held marks.Colon m e p n s = tt
  args_same fs d lasts.Name w held marks.Semicolon m e p n s = tt
  args_same fs d lasts.Name w held marks.LineEnd m e p n s = tt
  args_same fs d lasts.Name w held marks.Broken m e p n s = tt
  args_same fs d lasts.Nothing w held marks.ParenOpen m e p n s = tt
  args_same fs d lasts.Nothing w held marks.BraceOpen m e p n s = tt
  args_same fs d lasts.Nothing w held marks.BraceClose m e p n s = tt
  args_same fs d lasts.Nothing w held marks.Colon m e p n s = tt
  args_same fs d lasts.Nothing w held marks.Semicolon m e p n s = tt
  args_same fs d lasts.Nothing w held marks.Comma m e p n s = tt
  args_same fs d lasts.Nothing w held marks.LineEnd m e p n s = tt
  args_same fs d lasts.Nothing w held marks.Broken m e p n s = tt
  args_same fs d lasts.Comma w held marks.ParenOpen m e p n s = tt
  args_same fs d lasts.Comma w held marks.ParenClose m e p n s = tt
  args_same fs d lasts.Comma w held marks.BraceOpen m e p n s = tt
  args_same fs d lasts.Comma w held marks.BraceClose m e p n s = tt
  args_same fs d lasts.Comma w held marks.Colon m e p n s = tt
  args_same fs d lasts.Comma w held marks.Semicolon m e p n s = tt
  args_same fs d lasts.Comma w held marks.Comma m e p n s = tt
  args_same fs d lasts.Comma w held marks.LineEnd m e p n s = tt
  args_same fs d lasts.Comma w held marks.Broken m e p n s = tt

  complex_same : (fs : List Frame) (d : Body) (w : List ℕ) (held : List Token) (k : Mark) (m : Machine) → AllOpen fs → IsTrue (is_open d) → text_at final m.word.0 ≡ w → name_texts final m.held ≡ names_in held → Same fs d m
      → Both Shows (behind_complex fs d w held (Sign k)) (if is_inside m then machine.begin_mark true k (ended true true m) else None)
  complex_same [] d w held k m o h e n s = subst (λ (ns : List ℕ). Both Shows (behind_complex [] d w held (Sign k)) (if is_filled ns then machine.begin_mark true k (ended true true m) else None)) (sym s.opened) tt
  complex_same (f ∷ fs) d w held k m o h e n s = subst (λ (ns : List ℕ). Both Shows (behind_complex (f ∷ fs) d w held (Sign k)) (if is_filled ns then machine.begin_mark true k (ended true true m) else None)) (sym s.opened)
      (begin_mark_same (f ∷ fs) (joined d (Complex w held End)) true k (ended true true m) o (open-joined d (Complex w held End) h) (same_ended f fs d (Complex w held End) true true w held m o h refl (λ p n. refl) e n s))

  behind_same : (fs : List Frame) (d : Body) (w : List ℕ) (held : List Token) (k : Mark) (m : Machine) → AllOpen fs → IsTrue (is_open d) → text_at final m.word.0 ≡ w → name_texts final m.held ≡ names_in held → Same fs d m
      → Both Shows (behind below_64 fs d w held (Sign k)) (behind_mark k m)
  behind_same fs d w held marks.BraceOpen m o h e n s =
      both_if Shows (nat_lt (length fs) 64) (nat_lt (length m.opened) 64) (Some (at_begin (record { before = d; word = w; args = held } ∷ fs) End false)) None (Some (opened_in m)) None
      (ap (λ ns. nat_lt (length ns) 64) s.opened ∙ ap (λ k. nat_lt k 64) (length_numbers fs)) (λ c. opened_same fs d w held m o h e n s) (λ c. tt)
  behind_same fs d w held marks.ParenOpen m o h e n s = complex_same fs d w held marks.ParenOpen m o h e n s
  behind_same fs d w held marks.ParenClose m o h e n s = complex_same fs d w held marks.ParenClose m o h e n s
  behind_same fs d w held marks.BraceClose m o h e n s = complex_same fs d w held marks.BraceClose m o h e n s
  behind_same fs d w held marks.Colon m o h e n s = complex_same fs d w held marks.Colon m o h e n s
  behind_same fs d w held marks.Semicolon m o h e n s = complex_same fs d w held marks.Semicolon m o h e n s
  behind_same fs d w held marks.Comma m o h e n s = complex_same fs d w held marks.Comma m o h e n s
  behind_same fs d w held marks.LineEnd m o h e n s = complex_same fs d w held marks.LineEnd m o h e n s
  behind_same fs d w held marks.Broken m o h e n s = complex_same fs d w held marks.Broken m o h e n s

  -- items stand in groups
  items_same : (fs : List Frame) (d : Body) (w : List ℕ) (held : List Token) (k : Mark) (m : Machine) → AllOpen fs → IsTrue (is_filled fs) → IsTrue (is_open d) → text_at final m.word.0 ≡ w → name_texts final m.held ≡ names_in held → Same fs d m → m.mode ≡ modes.Items
      → Both Shows (zip.items_mark fs d w held k) (machine.items_mark k m)
  items_same fs d w held marks.Comma m o c h e n s m_items = record { mode = m_items; same = record { groups = s.groups; opened = s.opened }; statement = (e, sign_held held m.held marks.Comma n) }
  items_same fs d w held marks.ParenOpen m o c h e n s m_items = record { mode = m_items; same = record { groups = s.groups; opened = s.opened }; statement = (e, sign_held held m.held marks.ParenOpen n) }
  items_same fs d w held marks.ParenClose m o c h e n s m_items = record { mode = m_items; same = record { groups = s.groups; opened = s.opened }; statement = (e, sign_held held m.held marks.ParenClose n) }
  items_same [] d w held marks.Semicolon m o c h e n s m_items = absurd (true≢false (sym c))
  items_same [] d w held marks.LineEnd m o c h e n s m_items = absurd (true≢false (sym c))
  items_same [] d w held marks.BraceClose m o c h e n s m_items = absurd (true≢false (sym c))
  items_same (f ∷ fs) d w held marks.Semicolon m o c h e n s m_items = record { mode = refl; same = same_ended f fs d (Simple w held marks.Semicolon End) false false w held m o h refl (λ p n. refl) e n s; statement = tt }
  items_same (f ∷ fs) d w held marks.LineEnd m o c h e n s m_items = record { mode = refl; same = same_ended f fs d (Simple w held marks.LineEnd End) false false w held m o h refl (λ p n. refl) e n s; statement = tt }
  items_same (f ∷ fs) d w held marks.BraceClose m o c h e n s m_items = shut_same (f ∷ fs) (joined d (grammar.Last w held)) (ended false false m) (same_ended f fs d (grammar.Last w held) false false w held m o h refl (λ p n. refl) e n s)
  items_same fs d w held marks.BraceOpen m o c h e n s m_items = tt
  items_same fs d w held marks.Colon m o c h e n s m_items = tt
  items_same fs d w held marks.Broken m o c h e n s m_items = tt

  pub mark_same : (fs : List Frame) (d : Body) (mode : Mode) (v : List ℕ) (held : List Token) (k : Mark) (m : Machine) → AllOpen fs → IsTrue (is_open d) → Inside mode fs → Same fs d m → m.mode ≡ mode → ShowsStatement fs d mode v held m
      → Both Shows (step_by below_64 fs d mode v held (Sign k)) (mark_by mode k m)
  mark_same fs d (modes.Begin semi) v held k m o h c s q t = begin_mark_same fs d semi k m o h s
  mark_same fs d modes.Named v held k m o h c s q t = named_same fs d v k m t.0 t.1 s
  mark_same fs d (modes.Args l) v held k m o h c s q t = args_same fs d l v held k m t.0 t.1 t.2 s
  mark_same fs d modes.Behind v held k m o h c s q t = behind_same fs d v held k m o h t.0 t.2 s
  mark_same fs d modes.Items v held k m o h c s q t = items_same fs d v held k m o c h t.0 t.1 s q
