-- The options of a command go on with one word.
use Rattle.std.proofs.Common.{◌≡◌, ℕ, ◌+◌, ◌<◌, ◌≤◌, true, List, sym, ap, ◌∙◌, length, drop, get_or, arith}
use Rattle.std.specs.Prelude.{Option, ltb}
use Rattle.std.specs.List.{list_all}
use Rattle.std.proofs.lemmas.Bool.{and_parts, ltb-true}
use Rattle.std.proofs.lemmas.List.{drop_more}
use Rattle.lp_text.specs.Texts.{Grown}
use Rattle.lp_text.specs.declared.place.Place.{Place}
use Rattle.lp_model.specs.declared.upf.UpfWord.{UpfWord}
use Rattle.lp_model.specs.Agreement.{numbers_below}
use Rattle.lp_model.specs.CommandsView.{WordView, line_numbers, line_view, word_view}
use Rattle.lp_upf_words.specs.Elements.{content_of}
use Rattle.lp_upf_words.specs.Sizes.{is_modest, sizes}
use Rattle.lp_spec_upf.specs.Shapes.{OptionRule}
use Rattle.lp_upf.specs.Options.{Reading, Read, run, step, unless_cut}
use Rattle.lp_upf.proofs.Carried.{word-grown}

module _ (begin old : List (List ℕ)) (words : List UpfWord) (i : ℕ) (d : UpfWord) (low : i < length words) where
  abbrev w : UpfWord
  w = get_or words i d

  abbrev rest : List UpfWord
  rest = drop (i + 1) words

  below_parts : numbers_below (length begin) (line_numbers (drop i words)) ≡ true → (w.name.0 < length begin) × (numbers_below (length begin) (line_numbers rest) ≡ true)
  below_parts h =
      let both = and_parts (ltb w.name.0 (length begin)) (numbers_below (length begin) (line_numbers rest)) (sym (ap (λ (ws : List UpfWord). numbers_below (length begin) (line_numbers ws)) (drop_more words i d low)) ∙ h) in
      (ltb-true w.name.0 (length begin) both.0, both.1)

  pub word_below : Grown begin old → length begin ≤ length old → numbers_below (length begin) (line_numbers (drop i words)) ≡ true → w.name.0 < length old
  word_below g more h = let low = (below_parts h).0 in omega arith

  pub rest_below : numbers_below (length begin) (line_numbers (drop i words)) ≡ true → numbers_below (length begin) (line_numbers rest) ≡ true
  rest_below h = (below_parts h).1

  pub word_same : Grown begin old → numbers_below (length begin) (line_numbers (drop i words)) ≡ true → word_view old w ≡ word_view begin w
  word_same g h = word-grown begin old w g (below_parts h).0

  pub modest_parts : list_all is_modest (line_view begin (drop i words)) ≡ true → (is_modest (word_view begin w) ≡ true) × (list_all is_modest (line_view begin rest) ≡ true)
  modest_parts h = and_parts (is_modest (word_view begin w)) (list_all is_modest (line_view begin rest)) (sym (ap (λ (ws : List UpfWord). list_all is_modest (line_view begin ws)) (drop_more words i d low)) ∙ h)

  pub size_parts : sizes (line_view begin (drop i words)) ≡ length (content_of (word_view begin w)) + sizes (line_view begin rest)
  size_parts = ap (λ (ws : List UpfWord). sizes (line_view begin ws)) (drop_more words i d low)

  -- one word
  pub onward : (rules : List OptionRule) (e : Option Place) (s t : Reading) (result : Read) → Grown begin old → numbers_below (length begin) (line_numbers (drop i words)) ≡ true
      → t ≡ step rules (word_view old w) s → run rules e s (line_view begin (drop i words)) ≡ result
      → unless_cut t (λ x. run rules e x (line_view begin rest)) ≡ result
  onward rules e s t result g h is was =
      ap (λ (x : Reading). unless_cut x (λ y. run rules e y (line_view begin rest))) (is ∙ ap (λ (v : WordView). step rules v s) (word_same g h))
      ∙ sym (ap (λ (ws : List UpfWord). run rules e s (line_view begin ws)) (drop_more words i d low))
      ∙ was
