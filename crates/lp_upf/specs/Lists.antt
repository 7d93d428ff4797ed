-- Lists of elements, element by element: a second form of their faults (own rule).
use Rattle.std.specs.Prelude.{ℕ, Bool, true, false, List, [], ◌∷◌, codes, bytes_eq, Option, Some, None, if◌then◌else◌}
use Rattle.lp_text.specs.declared.place.Place.{Place}
use Rattle.lp_model.specs.CommandsView.{WordView}
use Rattle.lp_upf_words.specs.declared.mode.Stop.{Stop}
use Rattle.lp_spec_upf.specs.Shapes as shapes
use Rattle.lp_spec_upf.specs.Shapes.{Element, Form}
use Rattle.lp_spec_upf.specs.Commands.{Syntax, element_faults, stop_place}
use Rattle.lp_upf.specs.declared.lists.Listing as code
use Rattle.lp_upf.specs.Faults.{Judged, added, faults_view, joined, judged}
use Rattle.lp_upf.specs.Tables.{form_of}

-- what an element has to be, and the form behind it; none where the list is full
abbrev pub next_of : Form → List ℕ → Option (Element × Form)
next_of shapes.Closed text = None
next_of shapes.Rest text = Some (shapes.Any, shapes.Rest)
next_of (shapes.Needs e f) text = Some (e, f)
next_of (shapes.May e f) text = Some (e, f)
next_of (shapes.OffOr f) text = if bytes_eq text (codes "off") then Some (shapes.Text, shapes.Closed) else Some (shapes.Voltage, f)

-- where a list may not end
abbrev pub is_short : Form → Bool
is_short (shapes.Needs e f) = true
is_short (shapes.OffOr f) = true
is_short f = false

-- the form from here on, and the faults so far
pub record Listing : Type 0 where
  pub form : Form
  pub faults : Judged

abbrev pub listing : Form → Judged → Listing
listing f j = record { form = f; faults = j }

abbrev pub judge_by : Listing → WordView → Option (Element × Form) → Listing
judge_by s w None = listing s.form (added s.faults (Syntax w.place))
judge_by s w (Some r) = listing r.1 (joined s.faults (judged (element_faults r.0 w)))

-- one element
abbrev pub judge : Listing → WordView → Listing
judge s w = judge_by s w (next_of s.form w.text)

abbrev pub ended : Listing → Option Stop → Place → Judged
ended s (Some stop) p = added s.faults (Syntax (stop_place stop))
ended s None p = if is_short s.form then added s.faults (Syntax p) else s.faults

-- nothing is read behind a fault off the form
abbrev pub unless_cut : Listing → (Listing → Judged) → Judged
unless_cut s more = if s.faults.cut then s.faults else more s

-- the faults so far and those of the elements of a list
abbrev pub list_judged : Listing → List WordView → Option Stop → Place → Judged
list_judged s [] stop p = ended s stop p
list_judged s (w ∷ ws) stop p = unless_cut (judge s w) (λ t. list_judged t ws stop p)

abbrev pub listing_view : List (List ℕ) → code.Listing → Listing
listing_view names s = listing (form_of s.form) (faults_view names s.faults)
