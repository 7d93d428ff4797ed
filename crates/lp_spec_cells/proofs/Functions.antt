-- The value of a function of a cell by what it gives for each choice of 0 or 1 that may stand for its signals; so equal functions have one value.
use Rattle.std.proofs.Common.{◌≡◌, Bool, true, false, not, ◌&&◌, ◌||◌, List, [], ◌∷◌, ◌++◌, map, Option, Some, None, inl, inr, refl, sym, ap, ◌∙◌, subst}
use Rattle.std.specs.Prelude.{if◌then◌else◌, bytes_eq, is_some, flat_map}
use Rattle.std.specs.List.{list_any, list_all}
use Rattle.std.proofs.lemmas.Bool.{false≢true, and_parts, and_right, not-true}
use Rattle.lp_text.specs.Texts.{distinct, same_text-true, true-same_text}
use Rattle.lp_tern.specs.declared.tern.Tern.{Tern}
use Rattle.lp_tern.specs.declared.tern.Tern.TheVariants.{Zero, One, X}
use Rattle.lp_tern.specs.Values.{replacements}
use Rattle.lp_expr.specs.declared.step.Step.{Step}
use Rattle.lp_expr.specs.Formula.{truth, completions}
use Rattle.lp_expr.specs.Replaces.{Keeps, Replaces}
use Rattle.lp_model.specs.LibraryView.{ExprView, PinView, StateView, CellView}
use Rattle.lp_behaviour.specs.Signals.{known}
use Rattle.lp_spec_design.specs.Keys.{Name}
use Rattle.lp_spec_design.specs.Winners.{IsIn}
use Rattle.lp_spec_design.specs.Settled.{read_pin, state_named, value_named, named_value, function_value}
use Rattle.lp_spec_design.proofs.Members.{in-left, in-right, in-map, of-map, in-flat, of-flat, any-in}
use Rattle.lp_spec_fit.specs.Fits.{Signal, OfPin, OfState, same_signal, state_signal, signal_of, value_where, signals_named, same_function}
use Rattle.lp_spec_fit.proofs.Equal.{equal_everywhere}
use Rattle.lp_spec_cells.specs.Sound.{is_state_name, is_signal, is_function_of}
use Rattle.lp_spec_cells.proofs.Outcomes.{all-in, agreed-same, in-kept, of-kept, in-completed, of-completed}

-- ---- signals

-- a choice for all signals
abbrev pub Choice : Type 0
Choice = Signal → Bool

-- what a name reads, by what it stands for
abbrev pub reading : Signal × Bool → Choice → Bool
reading s V = if s.1 then not (V s.0) else V s.0

-- the values of a name at both bits of the state are those of its pin, or the bit, or its complement
abbrev pub Means : (Name → Tern) → (Bool → Tern) → Name → Signal × Bool → Type 0
Means pins at v (OfPin n, inverted) = (n ≡ v) × (inverted ≡ false) × ((bit : Bool) → at bit ≡ pins v)
Means pins at v (OfState, inverted) = (bit : Bool) → at bit ≡ known (if inverted then not bit else bit)

-- a choice may stand for the values of the pins and of the state
pub record Admits (pins : Name → Tern) (state : Tern) (V : Choice) : Type 0 where
  pub at_state : Keeps state (V OfState)
  pub at_pins : (n : Name) → Keeps (pins n) (V (OfPin n))

keeps-known : (b : Bool) → Keeps (known b) b
keeps-known true = refl
keeps-known false = refl

known-keeps : (a b : Bool) → Keeps (known a) b → b ≡ a
known-keeps true b k = k
known-keeps false b k = k

-- a bit that may stand for a value
pub some_bit : Tern → Bool
some_bit One = true
some_bit _ = false

pub keeps-some : (t : Tern) → Keeps t (some_bit t)
unfolding some_bit
keeps-some Zero = refl
keeps-some One = refl
keeps-some X = tt

reading-keeps : (pins : Name → Tern) (state : Tern) (V : Choice) → Admits pins state V → (s : Signal × Bool) (at : Bool → Tern) (v : Name) → Means pins at v s → Keeps (at (V OfState)) (reading s V)
reading-keeps pins state V a (OfPin n, inverted) at v m =
    subst (λ t. Keeps t (if inverted then not (V (OfPin n)) else V (OfPin n))) (sym (m.2 (V OfState)))
    (subst (λ b. Keeps (pins v) (if b then not (V (OfPin n)) else V (OfPin n))) (sym m.1)
    (subst (λ z. Keeps (pins v) (V (OfPin z))) (sym m.0) (a.at_pins v)))
reading-keeps pins state V a (OfState, inverted) at v m = subst (λ t. Keeps t (if inverted then not (V OfState) else V OfState)) (sym (m (V OfState))) (keeps-known (if inverted then not (V OfState) else V OfState))

module _ (sig : Name → Signal × Bool) (val : Bool → Name → Tern) (pins : Name → Tern) where
  -- each name of a list means what it stands for
  abbrev pub AllMean : List Name → Type 0
  AllMean vs = (v : Name) → IsIn v vs → Means pins (λ bit. val bit v) v (sig v)

  abbrev pub read_all : Choice → List Name → List Bool
  read_all V vs = map (λ v. reading (sig v) V) vs

  replaced : (state : Tern) (V : Choice) → Admits pins state V → (vs : List Name) → AllMean vs → Replaces (map (val (V OfState)) vs) (read_all V vs)
  replaced state V a [] means = tt
  replaced state V a (v ∷ vs) means = (reading-keeps pins state V a (sig v) (λ bit. val bit v) v (means v (inl refl)), replaced state V a vs (λ n m. means n (inr m)))

  abbrev pub outcomes : List Step → Tern → List Name → List Bool
  outcomes steps state vs = flat_map (λ bit. map (truth steps) (completions (map (val bit) vs))) (replacements state)

  -- what a choice gives is an outcome
  pub is-outcome : (steps : List Step) (state : Tern) (vs : List Name) → AllMean vs → (V : Choice) → Admits pins state V → IsIn (truth steps (read_all V vs)) (outcomes steps state vs)
  is-outcome steps state vs means V a =
      in-flat (λ bit. map (truth steps) (completions (map (val bit) vs))) (V OfState) (truth steps (read_all V vs)) (replacements state)
      (in-kept state (V OfState) a.at_state)
      (in-map (truth steps) (read_all V vs) (completions (map (val (V OfState)) vs)) (in-completed (map (val (V OfState)) vs) (read_all V vs) (replaced state V a vs means)))

  -- ---- a choice for an outcome

  is_of_pin : Signal × Bool → Bool
  is_of_pin (OfPin n, inverted) = true
  is_of_pin (OfState, inverted) = false

  -- what some values of names give to a pin
  look : List Name → List Bool → Name → Bool → Bool
  unfolding is_of_pin
  look [] c n other = other
  look (v ∷ vs) [] n other = other
  look (v ∷ vs) (b ∷ c) n other = if is_of_pin (sig v) && bytes_eq v n then b else look vs c n other

  pin-value : (s : Signal × Bool) (v : Name) (at : Bool → Tern) → is_of_pin s ≡ true → Means pins at v s → (bit : Bool) → at bit ≡ pins v
  unfolding is_of_pin
  pin-value (OfPin n, inverted) v at e m bit = m.2 bit
  pin-value (OfState, inverted) v at e m bit = absurd (false≢true e)

  look-keeps : (bit : Bool) (vs : List Name) (c : List Bool) → AllMean vs → Replaces (map (val bit) vs) c → (n : Name) → Keeps (pins n) (look vs c n (some_bit (pins n)))
  unfolding look is_of_pin
  look-keeps bit [] c means r n = keeps-some (pins n)
  look-keeps bit (v ∷ vs) [] means r n = absurd r
  look-keeps bit (v ∷ vs) (b ∷ c) means r n = by (is_of_pin (sig v)) refl (bytes_eq v n) refl (look-keeps bit vs c (λ m i. means m (inr i)) r.1 n)
    where
      by : (p : Bool) → is_of_pin (sig v) ≡ p → (q : Bool) → bytes_eq v n ≡ q → Keeps (pins n) (look vs c n (some_bit (pins n))) → Keeps (pins n) (if p && q then b else look vs c n (some_bit (pins n)))
      by true e true f rest = subst (λ t. Keeps t b) (pin-value (sig v) v (λ x. val x v) e (means v (inl refl)) bit ∙ ap pins (same_text-true v n f)) r.0
      by true e false f rest = rest
      by false e q f rest = rest

  -- behind another name its value does not count
  skip : (v n : Name) (vs : List Name) (b : Bool) (c : List Bool) (other : Bool) → bytes_eq v n ≡ false → look (v ∷ vs) (b ∷ c) n other ≡ look vs c n other
  unfolding look
  skip v n vs b c other e = ap (λ q. if q then b else look vs c n other) (and_right (is_of_pin (sig v)) (bytes_eq v n) e)

  here : (v : Name) (vs : List Name) (b : Bool) (c : List Bool) (other : Bool) → is_of_pin (sig v) ≡ true → look (v ∷ vs) (b ∷ c) v other ≡ b
  unfolding look
  here v vs b c other e = λ i. if e i && true-same_text v v refl i then b else look vs c v other

  none-later : (v n : Name) (vs : List Name) → (not (list_any (bytes_eq v) vs)) ≡ true → IsIn n vs → bytes_eq v n ≡ false
  none-later v n vs e h = by (bytes_eq v n) refl
    where
      by : (b : Bool) → bytes_eq v n ≡ b → b ≡ false
      by false f = refl
      by true f = absurd (false≢true (sym (not-true (list_any (bytes_eq v) vs) e) ∙ any-in (bytes_eq v) n vs h f))

  head-back : (W : Choice) (bit : Bool) (v : Name) (b : Bool) (s : Signal × Bool) → W OfState ≡ bit → Means pins (λ x. val x v) v s → Keeps (val bit v) b → (is_of_pin s ≡ true → W (OfPin v) ≡ b) → reading s W ≡ b
  unfolding is_of_pin
  head-back W bit v b (OfPin n, inverted) w m k at =
      (λ i. if m.1 i then not (W (OfPin n)) else W (OfPin n)) ∙ (ap (λ z. W (OfPin z)) m.0 ∙ at refl)
  head-back W bit v b (OfState, inverted) w m k at =
      ap (λ z. if inverted then not z else z) w ∙ sym (known-keeps (if inverted then not bit else bit) b (subst (λ t. Keeps t b) (m bit) k))

  -- a choice that gives each pin what some values of different names give, reads these values
  read-back : (W : Choice) (bit : Bool) (vs : List Name) (c : List Bool) → W OfState ≡ bit → AllMean vs → Replaces (map (val bit) vs) c
      → ((n : Name) → IsIn n vs → is_of_pin (sig n) ≡ true → W (OfPin n) ≡ look vs c n (some_bit (pins n)))
      → distinct vs ≡ true → read_all W vs ≡ c
  read-back W bit [] [] w means r at apart = refl
  read-back W bit [] (b ∷ c) w means r at apart = absurd r
  read-back W bit (v ∷ vs) [] w means r at apart = absurd r
  read-back W bit (v ∷ vs) (b ∷ c) w means r at apart =
      let parts = and_parts (not (list_any (bytes_eq v) vs)) (distinct vs) apart in
      let head = head-back W bit v b (sig v) w (means v (inl refl)) r.0 (λ e. at v (inl refl) e ∙ here v vs b c (some_bit (pins v)) e) in
      let rest = read-back W bit vs c w (λ n i. means n (inr i)) r.1 (λ n i e. at n (inr i) e ∙ skip v n vs b c (some_bit (pins n)) (none-later v n vs parts.0 i)) parts.1 in
      λ i. head i ∷ rest i

  -- the choice of some values of names, and of a bit of the state
  choice_of : Bool → List Name → List Bool → Choice
  choice_of bit vs c (OfPin n) = look vs c n (some_bit (pins n))
  choice_of bit vs c OfState = bit

  pub record OutcomeOf (steps : List Step) (state : Tern) (vs : List Name) (b : Bool) : Type 0 where
    pub by : Choice
    pub admitted : Admits pins state by
    pub is : b ≡ truth steps (read_all by vs)

  -- an outcome is what a choice gives
  pub of-outcome : (steps : List Step) (state : Tern) (vs : List Name) → AllMean vs → distinct vs ≡ true → (b : Bool) → IsIn b (outcomes steps state vs) → OutcomeOf steps state vs b
  unfolding choice_of
  of-outcome steps state vs means apart b h =
      let at_bit = of-flat (λ bit. map (truth steps) (completions (map (val bit) vs))) b (replacements state) h in
      let at_values = of-map (truth steps) b (completions (map (val at_bit.0) vs)) at_bit.2 in
      let r = of-completed (map (val at_bit.0) vs) at_values.0 at_values.1 in
      record {
        by = choice_of at_bit.0 vs at_values.0;
        admitted = record { at_state = of-kept state at_bit.0 at_bit.1; at_pins = look-keeps at_bit.0 vs at_values.0 means r };
        is = at_values.2 ∙ ap (truth steps) (sym (read-back (choice_of at_bit.0 vs at_values.0) at_bit.0 vs at_values.0 refl means r (λ n i e. refl) apart));
      }

-- ---- equal functions

same_signal-true : (a b : Signal) → same_signal a b ≡ true → a ≡ b
same_signal-true (OfPin m) (OfPin n) e = ap (λ x. OfPin x) (same_text-true m n e)
same_signal-true (OfPin m) OfState e = absurd (false≢true e)
same_signal-true OfState (OfPin n) e = absurd (false≢true e)
same_signal-true OfState OfState e = refl

true-same_signal : (a : Signal) → same_signal a a ≡ true
true-same_signal (OfPin n) = true-same_text n n refl
true-same_signal OfState = refl

-- a function of a cell looks only at the signals that it names
looks : (c : CellView) (V W : Choice) (vs : List Name) → ((k : Signal) → IsIn k (map (λ name. (signal_of c name).0) vs) → V k ≡ W k) → map (λ name. reading (signal_of c name) V) vs ≡ map (λ name. reading (signal_of c name) W) vs
looks c V W [] h = refl
looks c V W (v ∷ vs) h = λ i. (if (signal_of c v).1 then not (h (signal_of c v).0 (inl refl) i) else h (signal_of c v).0 (inl refl) i) ∷ looks c V W vs (λ k m. h k (inr m)) i

same-values : (a b : CellView) (e f : ExprView) → same_function a b e f ≡ true → (V : Choice) → value_where a e V ≡ value_where b f V
same-values a b e f same V =
    equal_everywhere same_signal same_signal-true true-same_signal (signals_named a e ++ signals_named b f) (value_where a e) (value_where b f) same
    (λ v w agree. ap (truth e.steps) (looks a v w e.variables (λ k m. agree k (in-left k (signals_named a e) (signals_named b f) m))))
    (λ v w agree. ap (truth f.steps) (looks b v w f.variables (λ k m. agree k (in-right k (signals_named a e) (signals_named b f) m))))
    V

-- what the names of a sound function mean
module _ (c : CellView) (pins others : Name → Tern) where
  state-means : (g : Option StateView) (v : Name) → is_state_name g v ≡ true → Means others (λ bit. state_named g bit v) v (state_signal g v)
  state-means None v e = absurd (false≢true e)
  state-means (Some g) v e = by (bytes_eq g.var v) (bytes_eq g.inverse v) e
    where
      by : (p q : Bool) → (p || q) ≡ true → Means others (λ bit. if p then known bit else if q then known (not bit) else X) v (if p then (OfState, false) else if q then (OfState, true) else (OfPin v, false))
      by true q f = λ bit. refl
      by false true f = λ bit. refl
      by false false f = absurd (false≢true f)

  signal-means : (v : Name) → is_signal c v ≡ true → (is_some (read_pin c v) ≡ true → pins v ≡ others v) → Means others (λ bit. named_value c pins bit v) v (signal_of c v)
  signal-means v e same = by (read_pin c v) e same
    where
      by : (q : Option PinView) → (is_some q || is_state_name c.state v) ≡ true → (is_some q ≡ true → pins v ≡ others v) → Means others (λ bit. value_named q (pins v) (state_named c.state bit v)) v (if is_some q then (OfPin v, false) else state_signal c.state v)
      by (Some q) f h = (refl, refl, λ bit. h refl)
      by None f h = state-means c.state v f

  names-mean : (vs : List Name) → list_all (is_signal c) vs ≡ true → ((v : Name) → is_some (read_pin c v) ≡ true → pins v ≡ others v) → AllMean (signal_of c) (named_value c pins) others vs
  names-mean vs all same v m = signal-means v (all-in (is_signal c) vs v all m) (same v)

-- the value of a sound function is what its outcomes agree on; so lists in which these occur agree on it
pub agree : (a b : CellView) (e f : ExprView)
    → same_function a b e f ≡ true → is_function_of a e ≡ true → is_function_of b f ≡ true
    → (pins others : Name → Tern) (state : Tern)
    → ((v : Name) → is_some (read_pin a v) ≡ true → is_some (read_pin b v) ≡ true → pins v ≡ others v)
    → function_value a pins state e ≡ function_value b others state f
agree a b e f same sound also pins others state equal =
    agreed-same (outcomes (signal_of a) (named_value a pins) both e.steps state e.variables) (outcomes (signal_of b) (named_value b others) both f.steps state f.variables) to from
  where
    -- the values of the pins of both
    both : Name → Tern
    both v = if is_some (read_pin a v) then pins v else others v

    sound-parts : (distinct e.variables ≡ true) × (list_all (is_signal a) e.variables ≡ true)
    sound-parts = and_parts (distinct e.variables) (list_all (is_signal a) e.variables) sound

    also-parts : (distinct f.variables ≡ true) × (list_all (is_signal b) f.variables ≡ true)
    also-parts = and_parts (distinct f.variables) (list_all (is_signal b) f.variables) also

    left : AllMean (signal_of a) (named_value a pins) both e.variables
    left = names-mean a pins both e.variables sound-parts.1 (λ v h. sym (ap (λ z. if z then pins v else others v) h))

    right : AllMean (signal_of b) (named_value b others) both f.variables
    right = names-mean b others both f.variables also-parts.1 (λ v h. by v h (is_some (read_pin a v)) refl)
      where
        by : (v : Name) → is_some (read_pin b v) ≡ true → (x : Bool) → is_some (read_pin a v) ≡ x → others v ≡ (if x then pins v else others v)
        by v h true g = sym (equal v g h)
        by v h false g = refl

    to : (x : Bool) → IsIn x (outcomes (signal_of a) (named_value a pins) both e.steps state e.variables) → IsIn x (outcomes (signal_of b) (named_value b others) both f.steps state f.variables)
    to x h =
        let found = of-outcome (signal_of a) (named_value a pins) both e.steps state e.variables left sound-parts.0 x h in
        subst (λ z. IsIn z (outcomes (signal_of b) (named_value b others) both f.steps state f.variables)) (sym (found.is ∙ same-values a b e f same found.by))
        (is-outcome (signal_of b) (named_value b others) both f.steps state f.variables right found.by found.admitted)

    from : (x : Bool) → IsIn x (outcomes (signal_of b) (named_value b others) both f.steps state f.variables) → IsIn x (outcomes (signal_of a) (named_value a pins) both e.steps state e.variables)
    from x h =
        let found = of-outcome (signal_of b) (named_value b others) both f.steps state f.variables right also-parts.0 x h in
        subst (λ z. IsIn z (outcomes (signal_of a) (named_value a pins) both e.steps state e.variables)) (sym (found.is ∙ sym (same-values a b e f same found.by)))
        (is-outcome (signal_of a) (named_value a pins) both e.steps state e.variables left found.by found.admitted)
