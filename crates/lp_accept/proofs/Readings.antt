-- Reading one library text after another.
use Rattle.std.proofs.Common.{◌≡◌, ℕ, zero, suc, ◌+◌, ◌≤◌, ◌<◌, Bool, true, List, [], ◌∷◌, ◌++◌, map, length, take, drop, inl, inr, refl, sym, ap, ◌∙◌, subst, arith, length-append}
use Rattle.std.specs.Prelude.{ltb, Err, Some, slice_index_or}
use Rattle.std.specs.List.{list_all}
use Rattle.std.proofs.lemmas.Bool.{and_parts, and_from, ltb-true, lt-ltb}
use Rattle.std.proofs.lemmas.List.{append-nil, take_more}
use Rattle.lp_text.specs.Texts.{Grown, text_at}
use Rattle.lp_text.specs.Places.{place_in}
use Rattle.lp_model.specs.Agreement.{numbers_below}
use Rattle.lp_model.specs.FaultLines.{fault_line, is_plain}
use Rattle.lp_model.specs.GroupsView.{GroupView, groups_view, groups_numbers, groups_view-grown}
use Rattle.lp_model.specs.declared.groups.Groups.{Groups}
use Rattle.lp_model.specs.declared.fault.refusal.Fault.{Fault}
use Rattle.lp_model.specs.declared.fault.refusal.Fault.TheVariants as faults
use Rattle.lp_model.specs.declared.fault.refusal.DesignFault.TheVariants as designs
use Rattle.lp_model.specs.declared.fault.library.LibraryFault.TheVariants as library
use Rattle.lp_model.specs.declared.fault.refusal.Refusal.{Refusal}
use Rattle.lp_model.specs.declared.fault.refusal.Refusal.TheVariants as refusals
use Rattle.lp_liberty.specs.Denotes.{Denotes, RefusedAs, Large, Long, Deep, Off}
use Rattle.lp_liberty.specs.Denotes as off
use Rattle.lp_cells.specs.Cells.{RefusesLibrary, Duplicate, NoMemory, cells_of, cell_names}
use Rattle.lp_cells.specs.Reasons.{repeated}
use Rattle.lp_spec_insertion.specs.Inputs.{HaveGroups}
use Rattle.lp_spec_insertion.specs.Faults.{IsOff, FirstOff, duplicate_cell}
use Rattle.lp_accept.specs.declared.stop.Stop.{Stop}
use Rattle.lp_accept.specs.declared.stop.Stop.TheVariants as stops
use Rattle.lp_accept.specs.Stages.{IsLine, OrStop}
use Rattle.lp_accept.specs.Read.{IsGroups, AreGroups, IsNoLibrary}

-- ---- tables that grow

pub grown-longer : (old new : List (List ℕ)) → Grown old new → length old ≤ length new
grown-longer old new g = let e = ap length g.is ∙ length-append old g.more in omega (arith, e)

pub below-more : (m n : ℕ) (ks : List ℕ) → m ≤ n → numbers_below m ks ≡ true → numbers_below n ks ≡ true
below-more m n [] h b = refl
below-more m n (k ∷ ks) h b =
    let parts = and_parts (ltb k m) (numbers_below m ks) b in
    let here = ltb-true k m parts.0 in
    and_from (ltb k n) (numbers_below n ks) (lt-ltb k n (omega (arith, h, here))) (below-more m n ks h parts.1)

module _ (old new : List (List ℕ)) (grown : Grown old new) where
  abbrev Old : List Groups → Bool
  Old files = list_all (λ g. numbers_below (length old) (groups_numbers g)) files

  files-same : (files : List Groups) → Old files ≡ true → map (groups_view new) files ≡ map (groups_view old) files
  files-same [] b = refl
  files-same (g ∷ files) b =
      let parts = and_parts (numbers_below (length old) (groups_numbers g)) (Old files) b in
      let here = groups_view-grown old new g grown parts.0 in
      let others = files-same files parts.1 in
      λ i. here i ∷ others i

  files-below : (files : List Groups) → Old files ≡ true → list_all (λ g. numbers_below (length new) (groups_numbers g)) files ≡ true
  files-below [] b = refl
  files-below (g ∷ files) b =
      let parts = and_parts (numbers_below (length old) (groups_numbers g)) (Old files) b in
      and_from (numbers_below (length new) (groups_numbers g)) (list_all (λ x. numbers_below (length new) (groups_numbers x)) files)
      (below-more (length old) (length new) (groups_numbers g) (grown-longer old new grown) parts.0) (files-below files parts.1)

  pub still-groups : (texts : List (List ℕ)) (files : List Groups) → AreGroups old texts files → AreGroups new texts files
  still-groups texts files a = record { have = subst (HaveGroups texts) (sym (files-same files a.below)) a.have; below = files-below files a.below }

have-more : (names : List (List ℕ)) (texts : List (List ℕ)) (files : List Groups) (text : List ℕ) (g : Groups) → HaveGroups texts (map (groups_view names) files) → Denotes text (groups_view names g) → HaveGroups (texts ++ text ∷ []) (map (groups_view names) (files ++ g ∷ []))
have-more names [] [] text g h d = (d, tt)
have-more names [] (f ∷ files) text g h d = absurd h
have-more names (t ∷ texts) [] text g h d = absurd h
have-more names (t ∷ texts) (f ∷ files) text g h d = (h.0, have-more names texts files text g h.1 d)

all-more : (p : Groups → Bool) (files : List Groups) (g : Groups) → list_all p files ≡ true → p g ≡ true → list_all p (files ++ g ∷ []) ≡ true
all-more p [] g h k = and_from (p g) true k refl
all-more p (f ∷ files) g h k = let parts = and_parts (p f) (list_all p files) h in and_from (p f) (list_all p (files ++ g ∷ [])) parts.0 (all-more p files g parts.1 k)

-- one more text
pub groups-more : (old new : List (List ℕ)) → Grown old new → (texts : List (List ℕ)) (files : List Groups) (text : List ℕ) (g : Groups) → AreGroups old texts files → IsGroups new text g → AreGroups new (texts ++ text ∷ []) (files ++ g ∷ [])
groups-more old new grown texts files text g a is =
    let still = still-groups old new grown texts files a in
    record { have = have-more new texts files text g still.have is.denotes; below = all-more (λ x. numbers_below (length new) (groups_numbers x)) files g still.below is.below }

pub no-groups : (names : List (List ℕ)) → AreGroups names [] []
no-groups names = record { have = tt; below = refl }

-- ---- the first text that is refused

pub off-at : (names : List (List ℕ)) (texts : List (List ℕ)) (files : List Groups) (file : ℕ) (text : List ℕ) (rest : List (List ℕ)) (line : List ℕ) → HaveGroups texts (map (groups_view names) files) → IsOff (file + length files) text line → FirstOff file (texts ++ text ∷ rest) line
off-at names [] [] file text rest line h off = inl (subst (λ k. IsOff k text line) (omega arith) off)
off-at names [] (f ∷ files) file text rest line h off = absurd h
off-at names (t ∷ texts) [] file text rest line h off = absurd h
off-at names (t ∷ texts) (f ∷ files) file text rest line h off = inr (groups_view names f, (h.0, off-at names texts files (suc file) text rest line h.1 (subst (λ k. IsOff k text line) (omega arith) off)))

-- the texts before one, the one, and those behind it
pub around : {A : Type 0} (xs : List A) (i : ℕ) (d : A) → i < length xs → take i xs ++ slice_index_or xs i d ∷ drop (suc i) xs ≡ xs
around [] i d h = absurd (omega (arith, h))
around (x ∷ xs) zero d h = refl
around (x ∷ xs) (suc i) d h = ap (λ ys. x ∷ ys) (around xs i d (omega (arith, h)))

pub take-all : {A : Type 0} (xs : List A) (i : ℕ) → length xs ≤ i → take i xs ≡ xs
take-all [] zero h = refl
take-all [] (suc i) h = refl
take-all (x ∷ xs) zero h = absurd (omega (arith, h))
take-all (x ∷ xs) (suc i) h = ap (λ ys. x ∷ ys) (take-all xs i (omega (arith, h)))

-- what stops the reading of one text is the first fault of all
pub exit-off : (names : List (List ℕ)) (libs : List (List ℕ)) (i : ℕ) (files : List Groups) (text : List ℕ) (s : Stop) {T U : Type 0} (P : T → Type 0) (Q : U → Type 0) → AreGroups names (take i libs) files → i < length libs → text ≡ slice_index_or libs i text → OrStop P (IsOff (10 + length files) text) (Err s) → OrStop Q (FirstOff 10 libs) (Err s)
exit-off names libs i files text (stops.Fault line) P Q a h e off =
    subst (λ x. FirstOff 10 x line) (ap (λ t. take i libs ++ t ∷ drop (suc i) libs) e ∙ around libs i text h) (off-at names (take i libs) files 10 text (drop (suc i) libs) line a.have off)
exit-off names libs i files text stops.NoMemory P Q a h e off = tt

-- the texts so far and the next one
pub texts-more : (libs : List (List ℕ)) (i : ℕ) (text : List ℕ) → i < length libs → text ≡ slice_index_or libs i text → take (i + 1) libs ≡ take i libs ++ text ∷ []
texts-more libs i text h e = take_more libs i text h ∙ ap (λ t. take i libs ++ t ∷ []) (sym e)

-- ---- faults of libraries

-- the line of such a fault is the same over all tables
pub record IsPlainOff (f : Fault) : Type 0 where
  pub plain : is_plain f ≡ true
  pub line : (names : List (List ℕ)) → fault_line names f ≡ fault_line [] f

plain-off : (file : ℕ) (text : List ℕ) (r : Refusal) (f : Fault) → RefusedAs file text r → r ≡ refusals.Fault f → IsPlainOff f
plain-off file text r f (Large h) e = let same : f ≡ faults.Design (designs.Library (library.Limit file (place_in text 0))) = cc in subst IsPlainOff (sym same) (record { plain = refl; line = λ names. refl })
plain-off file text r f (Long tokens index h s l) e = let same : f ≡ faults.Design (designs.Library (library.Limit file (place_in text index))) = cc in subst IsPlainOff (sym same) (record { plain = refl; line = λ names. refl })
plain-off file text r f (Deep tokens index h s l) e = let same : f ≡ faults.Design (designs.Library (library.Limit file (place_in text index))) = cc in subst IsPlainOff (sym same) (record { plain = refl; line = λ names. refl })
plain-off file text r f (Off tokens index h s l) e = let same : f ≡ faults.Design (designs.Library (library.Syntax file (place_in text index))) = cc in subst IsPlainOff (sym same) (record { plain = refl; line = λ names. refl })
plain-off file text r f off.NoMemory e = absurd (let none : ⊥ = cc in none)

pub off-plain : (file : ℕ) (text : List ℕ) (f : Fault) → RefusedAs file text (refusals.Fault f) → IsPlainOff f
off-plain file text f h = plain-off file text (refusals.Fault f) f h refl

-- the stop at a text that is refused
pub stops-off : (file : ℕ) (text : List ℕ) (f : Fault) (names : List (List ℕ)) (s : Stop) {T : Type 0} (P : T → Type 0) → RefusedAs file text (refusals.Fault f) → IsLine (fault_line names f) s → OrStop P (IsOff file text) (Err s)
stops-off file text f names (stops.Fault l) P h e = (f, (h, e ∙ (off-plain file text f h).line names))
stops-off file text f names stops.NoMemory P h e = tt

-- ---- a second cell of a name

pub record IsDouble (names : List (List ℕ)) (files : List (List GroupView)) (f : Fault) : Type 0 where
  pub cell : List ℕ
  pub twice : repeated [] (cell_names (cells_of files)) ≡ Some cell
  pub plain : is_plain f ≡ true
  pub line : fault_line names f ≡ duplicate_cell cell

double : (names : List (List ℕ)) (files : List (List GroupView)) (r : Refusal) (f : Fault) → RefusesLibrary names files r → r ≡ refusals.Fault f → IsDouble names files f
double names files r f (Duplicate cell h) e =
    let same : f ≡ faults.Design (designs.Library (library.DuplicateCell cell)) = cc in
    subst (IsDouble names files) (sym same) (record { cell = text_at names cell.0; twice = h.first; plain = refl; line = ap duplicate_cell (append-nil (text_at names cell.0)) })
double names files r f NoMemory e = absurd (let none : ⊥ = cc in none)

pub double-of : (names : List (List ℕ)) (files : List (List GroupView)) (f : Fault) → RefusesLibrary names files (refusals.Fault f) → IsDouble names files f
double-of names files f h = double names files (refusals.Fault f) f h refl

pub stops-double : (names : List (List ℕ)) (libraries : List (List ℕ)) (files : List (List GroupView)) (f : Fault) (s : Stop) {T : Type 0} (P : T → Type 0) → HaveGroups libraries files → RefusesLibrary names files (refusals.Fault f) → IsLine (fault_line names f) s → OrStop P (IsNoLibrary libraries) (Err s)
stops-double names libraries files f (stops.Fault l) P have h e = let d = double-of names files f h in inr (record { groups = files; read = have; cell = d.cell; twice = d.twice; spelled = e ∙ d.line })
stops-double names libraries files f stops.NoMemory P have h e = tt

-- what stops the reading stops the libraries
pub stops-first : (libraries : List (List ℕ)) (s : Stop) {T U : Type 0} (P : T → Type 0) (Q : U → Type 0) → OrStop P (FirstOff 10 libraries) (Err s) → OrStop Q (IsNoLibrary libraries) (Err s)
stops-first libraries (stops.Fault l) P Q h = inl h
stops-first libraries stops.NoMemory P Q h = tt
