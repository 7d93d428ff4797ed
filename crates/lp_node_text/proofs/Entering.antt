-- The last instance that begins at a place or before it is the one in which the place lies, where statements lie one behind another.
use Rattle.std.proofs.Common.{◌≡◌, ◌<◌, ◌≤◌, ◌+◌, ℕ, suc, List, [], ◌∷◌, Option, Some, inl, inr, refl, ap, ◌∙◌, arith}
use Rattle.std.specs.Prelude.{if◌then◌else◌, slice_get}
use Rattle.std.proofs.lemmas.Bool.{cases_lt, le-leb, lt-leb}
use Rattle.lp_spec_layout.specs.Parts.{Size, Child, Statement, OfModule, OfCell}
use Rattle.lp_spec_layout.specs.Walked.{leaf_size, joined_size, Follows}
use Rattle.lp_node_text.specs.declared.entered.Entered.{Entered}
use Rattle.lp_node_text.specs.Numbered.{entered_by, entered_from}

-- an instance by its number
abbrev pub entered_child : ℕ → Child → Entered
entered_child j c = record { number = j; of = c.of; before = c.before.bits }

module _ (size : ℕ → Size) (height : ℕ → ℕ) (high k : ℕ) where
  -- the instance in which a place lies, among statements from a number on
  pub record Enters (zs : List Statement) (j : ℕ) (last : Option Entered) : Type 0 where
    pub place : ℕ
    pub child : Child
    pub at : slice_get zs place ≡ Some (OfModule child)
    pub begun : child.before.bits ≤ k
    pub within : k < child.before.bits + (size child.of).bits
    pub lower : height child.of < high
    pub is : entered_from k last j zs ≡ Some (entered_child (j + place) child)

  -- none of those that begin behind it
  keeps-last : (zs : List Statement) (before total : Size) (j : ℕ) (last : Option Entered) → Follows size height high before zs total → k < before.bits → entered_from k last j zs ≡ last
  keeps-last [] before total j last f low = refl
  keeps-last (OfModule c ∷ zs) before total j last f low =
      let bits : c.before.bits ≡ before.bits = ap (λ (a : Size). a.bits) f.0 in
      ap (λ b. entered_from k (if b then Some (entered_child j c) else last) (j + 1) zs) (lt-leb c.before.bits k (omega (arith, low, bits)))
      ∙ keeps-last zs (joined_size before (size c.of)) total (j + 1) last f.2 (omega (arith, low))
  keeps-last (OfCell c ∷ zs) before total j last f low = keeps-last zs (joined_size before leaf_size) total (j + 1) last f.1 (omega (arith, low))

  later : (z : Statement) (zs : List Statement) (j : ℕ) (last : Option Entered) → Enters zs (j + 1) (entered_by k last j z) → Enters (z ∷ zs) j last
  later z zs j last more =
      let number : (j + 1) + more.place ≡ j + suc more.place = omega arith in
      record {
        place = suc more.place;
        child = more.child;
        at = more.at;
        begun = more.begun;
        within = more.within;
        lower = more.lower;
        is = more.is ∙ ap (λ n. Some (entered_child n more.child)) number;
      }

  pub enters : (zs : List Statement) (before total : Size) (j : ℕ) (last : Option Entered) → Follows size height high before zs total → before.bits ≤ k → k < total.bits → Enters zs j last
  enters [] before total j last f begun under = let same : before.bits ≡ total.bits = ap (λ (a : Size). a.bits) f in absurd (omega (arith, begun, under, same))
  enters (OfModule c ∷ zs) before total j last f begun under =
      let bits : c.before.bits ≡ before.bits = ap (λ (a : Size). a.bits) f.0 in
      let number : j ≡ j + 0 = omega arith in
      elim (cases_lt k (before.bits + (size c.of).bits)) [
        | inl here ↦ record {
          place = 0;
          child = c;
          at = refl;
          begun = omega (arith, begun, bits);
          within = omega (arith, here, bits);
          lower = f.1;
          is =
              ap (λ b. entered_from k (if b then Some (entered_child j c) else last) (j + 1) zs) (le-leb c.before.bits k (omega (arith, begun, bits)))
              ∙ keeps-last zs (joined_size before (size c.of)) total (j + 1) (Some (entered_child j c)) f.2 (omega (arith, here))
              ∙ ap (λ n. Some (entered_child n c)) number;
        }
        | inr behind ↦ later (OfModule c) zs j last (enters zs (joined_size before (size c.of)) total (j + 1) (entered_by k last j (OfModule c)) f.2 (omega (arith, behind)) under)
      ]
  enters (OfCell c ∷ zs) before total j last f begun under = later (OfCell c) zs j last (enters zs (joined_size before leaf_size) total (j + 1) last f.1 (omega (arith, begun)) under)
