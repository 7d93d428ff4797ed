-- The faults of a list, element by element.
use Rattle.std.proofs.Common.{◌≡◌, Bool, true, false, List, [], ◌∷◌, ◌++◌, refl, sym, ap, ◌∙◌}
use Rattle.std.specs.Prelude.{Option, Some, None, codes, bytes_eq, if◌then◌else◌}
use Rattle.lp_text.specs.declared.place.Place.{Place}
use Rattle.lp_model.specs.CommandsView.{WordView}
use Rattle.lp_upf_words.specs.declared.mode.Stop.{Stop}
use Rattle.lp_spec_upf.specs.Shapes.{Form, Closed, Rest, Needs, May, OffOr, Voltage}
use Rattle.lp_spec_upf.specs.Commands.{Fault, Syntax, and_then, element_faults, is_any_syntax, list_faults, name_faults}
use Rattle.lp_upf.specs.Faults.{Judged, joined, judged}
use Rattle.lp_upf.specs.Lists.{Listing, list_judged, listing, unless_cut}
use Rattle.lp_upf.proofs.Judged.{joined-assoc, joined-none, judged-append}

-- one element's faults, and those of the rest
next : (f : Form) (j : Judged) (fs rest : List Fault) (more : Listing → Judged) → j.cut ≡ false
    → ((k : Judged) → k.cut ≡ false → more (listing f k) ≡ joined k (judged rest))
    → unless_cut (listing f (joined j (judged fs))) more ≡ joined j (judged (and_then fs rest))
next f j fs rest more e same = by (is_any_syntax fs) refl
  where
    by : (b : Bool) → is_any_syntax fs ≡ b → unless_cut (listing f (joined j (judged fs))) more ≡ joined j (judged (and_then fs rest))
    by true b =
        let x = joined j (judged fs) in
        let cut : x.cut ≡ true = rw (e, b) refl in
        ap (λ (c : Bool). if c then x else more (listing f x)) cut ∙ ap (λ (c : Bool). joined j (judged (if c then fs else fs ++ rest))) (sym b)
    by false b =
        let x = joined j (judged fs) in
        let going : x.cut ≡ false = rw (e, b) refl in
        ap (λ (c : Bool). if c then x else more (listing f x)) going
        ∙ (same x going ∙ joined-assoc j (judged fs) (judged rest) ∙ ap (joined j) (sym (judged-append fs rest)))
        ∙ ap (λ (c : Bool). joined j (judged (if c then fs else fs ++ rest))) (sym b)

-- what a list from here on adds
abbrev Same : Form → List WordView → Option Stop → Place → Type 0
Same f ws stop p = (j : Judged) → j.cut ≡ false → list_judged (listing f j) ws stop p ≡ joined j (judged (list_faults f ws stop p))

off : (f : Form) (w : WordView) (ws : List WordView) (stop : Option Stop) (p : Place) → Same Closed ws stop p → Same f ws stop p → Same (OffOr f) (w ∷ ws) stop p
off f w ws stop p closed open_ = λ j e. by (bytes_eq w.text (codes "off")) refl j e
  where
    by : (b : Bool) → bytes_eq w.text (codes "off") ≡ b → (j : Judged) → j.cut ≡ false → list_judged (listing (OffOr f) j) (w ∷ ws) stop p ≡ joined j (judged (list_faults (OffOr f) (w ∷ ws) stop p))
    by true b j e = rw (b) (next Closed j [] (list_faults Closed ws stop p) (λ t. list_judged t ws stop p) e closed)
    by false b j e = rw (b) (next f j (element_faults Voltage w) (list_faults f ws stop p) (λ t. list_judged t ws stop p) e open_)

full : (j : Judged) (f : Form) (w : WordView) (more : Listing → Judged) → j.cut ≡ false → unless_cut (listing f (joined j (judged (Syntax w.place ∷ [])))) more ≡ joined j (judged (Syntax w.place ∷ []))
full j f w more e =
    let x = joined j (judged (Syntax w.place ∷ [])) in
    let cut : x.cut ≡ true = rw (e) refl in
    ap (λ (c : Bool). if c then x else more (listing f x)) cut

pub listed : (f : Form) (ws : List WordView) (stop : Option Stop) (p : Place) → Same f ws stop p
listed f [] (Some stop) p = λ j e. refl
listed Closed [] None p = λ j e. sym (joined-none j)
listed Rest [] None p = λ j e. sym (joined-none j)
listed (Needs a f) [] None p = λ j e. refl
listed (May a f) [] None p = λ j e. sym (joined-none j)
listed (OffOr f) [] None p = λ j e. refl
listed Closed (w ∷ ws) stop p = λ j e. full j Closed w (λ t. list_judged t ws stop p) e
listed Rest (w ∷ ws) stop p = let more = listed Rest ws stop p in λ j e. next Rest j (name_faults w) (list_faults Rest ws stop p) (λ t. list_judged t ws stop p) e more
listed (Needs a f) (w ∷ ws) stop p = let more = listed f ws stop p in λ j e. next f j (element_faults a w) (list_faults f ws stop p) (λ t. list_judged t ws stop p) e more
listed (May a f) (w ∷ ws) stop p = let more = listed f ws stop p in λ j e. next f j (element_faults a w) (list_faults f ws stop p) (λ t. list_judged t ws stop p) e more
listed (OffOr f) (w ∷ ws) stop p = off f w ws stop p (listed Closed ws stop p) (listed f ws stop p)

-- from no fault on
pub all : (f : Form) (ws : List WordView) (stop : Option Stop) (p : Place) → list_judged (listing f (judged [])) ws stop p ≡ judged (list_faults f ws stop p)
all f ws stop p = listed f ws stop p (judged []) refl
