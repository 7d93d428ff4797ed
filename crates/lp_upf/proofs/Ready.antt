-- The words of a command and those behind its first are ready to be read.
use Rattle.std.proofs.Common.{◌≡◌, ℕ, suc, ◌+◌, ◌*◌, ◌≤◌, ◌-◌, true, false, List, [], ◌∷◌, sym, ap, ◌∙◌, subst, length, take, drop, arith}
use Rattle.std.specs.Prelude.{◌==◌}
use Rattle.std.proofs.Math.Seq.{take-length}
use Rattle.std.specs.List.{flat_map, list_all}
use Rattle.std.proofs.lemmas.Bool.{and_parts}
use Rattle.lp_text.specs.Texts.{Grown}
use Rattle.lp_model.specs.declared.upf.CommandItem.{CommandItem}
use Rattle.lp_model.specs.declared.upf.UpfWord.{UpfWord}
use Rattle.lp_model.specs.Agreement.{numbers_below}
use Rattle.lp_model.specs.CommandsView.{WordView, commands_view-grown, item_numbers, line_numbers, line_view, word_view}
use Rattle.lp_upf_words.specs.Sizes.{is_modest, sizes}
use Rattle.lp_spec_upf.specs.Shapes.{NameRule, NoName, MayName, OneName, NameList}
use Rattle.lp_upf.specs.Named.{AreReady, behind_word}
use Rattle.lp_upf.specs.Said.{items_view}
use Rattle.lp_upf.specs.States.{tables_numbers}
use Rattle.lp_upf.proofs.Behind.{behind_map}
use Rattle.lp_upf.proofs.Carried.{below_more, below_parts, grown_length, line-grown}

below_tail : (n : ℕ) (w : UpfWord) (ws : List UpfWord) → numbers_below n (line_numbers (w ∷ ws)) ≡ true → numbers_below n (line_numbers ws) ≡ true
below_tail n w ws h = (below_parts n (w.name.0 ∷ []) (line_numbers ws) h).1

below_behind : (n : ℕ) (r : NameRule) (ws : List UpfWord) → numbers_below n (line_numbers ws) ≡ true → numbers_below n (line_numbers (behind_word r ws)) ≡ true
below_behind n NoName ws h = h
below_behind n MayName [] h = h
below_behind n OneName [] h = h
below_behind n NameList [] h = h
below_behind n MayName (w ∷ ws) h = below_tail n w ws h
below_behind n OneName (w ∷ ws) h = below_tail n w ws h
below_behind n NameList (w ∷ ws) h = below_tail n w ws h

modest_tail : (w : WordView) (ws : List WordView) → list_all is_modest (w ∷ ws) ≡ true → list_all is_modest ws ≡ true
modest_tail w ws h = (and_parts (is_modest w) (list_all is_modest ws) h).1

modest_behind : (r : NameRule) (ws : List WordView) → list_all is_modest ws ≡ true → list_all is_modest (behind_word r ws) ≡ true
modest_behind NoName ws h = h
modest_behind MayName [] h = h
modest_behind OneName [] h = h
modest_behind NameList [] h = h
modest_behind MayName (w ∷ ws) h = modest_tail w ws h
modest_behind OneName (w ∷ ws) h = modest_tail w ws h
modest_behind NameList (w ∷ ws) h = modest_tail w ws h

module _ (old new : List (List ℕ)) (states : List (ℕ × ℕ)) (words : List UpfWord) (grown : Grown old new) (ready : AreReady old states words) where
  -- the words behind a name, by the table that has grown
  pub behind_same : (r : NameRule) → line_view new (behind_word r words) ≡ behind_word r (line_view old words)
  behind_same r =
      line-grown old new (behind_word r words) grown (below_behind (length old) r words ready.below)
      ∙ sym (behind_map UpfWord WordView (word_view old) r words)

  pub tables_more : numbers_below (length new) (tables_numbers states) ≡ true
  tables_more = below_more (length old) (length new) (tables_numbers states) (grown_length old new grown) ready.tables

  pub ready_behind : (r : NameRule) → length new + 2 * sizes (behind_word r (line_view old words)) ≤ length old + 2 * sizes (line_view old words) → AreReady new states (behind_word r words)
  ready_behind r few =
      let same = behind_same r in
      let room = ready.room in
      record {
        below = below_more (length old) (length new) (line_numbers (behind_word r words)) (grown_length old new grown) (below_behind (length old) r words ready.below);
        tables = tables_more;
        room = let e = ap (λ (ws : List WordView). sizes ws) same in omega (arith, e, few, room);
        modest = ap (λ (ws : List WordView). list_all is_modest ws) same ∙ modest_behind r (line_view old words) ready.modest;
      }

-- the words behind the first
pub ready_rest : (names : List (List ℕ)) (states : List (ℕ × ℕ)) (w : UpfWord) (ws : List UpfWord) → AreReady names states (w ∷ ws) → AreReady names states ws
ready_rest names states w ws ready =
    let room = ready.room in
    record {
      below = below_tail (length names) w ws ready.below;
      tables = ready.tables;
      room = omega (arith, room);
      modest = modest_tail (word_view names w) (line_view names ws) ready.modest;
    }

tail_is : (w : UpfWord) (ws : List UpfWord) → take (length (w ∷ ws) - 1) (drop 1 (w ∷ ws)) ≡ ws
tail_is w ws = let e : suc (length ws) - 1 ≡ length ws = omega arith in ap (λ (n : ℕ). take n ws) e ∙ take-length ws

pub ready_tail : (names : List (List ℕ)) (states : List (ℕ × ℕ)) (words : List UpfWord) → (length words == 0) ≡ false → AreReady names states words → AreReady names states (take (length words - 1) (drop 1 words))
ready_tail names states [] h ready = absurd cc
ready_tail names states (w ∷ ws) h ready = subst (λ (xs : List UpfWord). AreReady names states xs) (sym (tail_is w ws)) (ready_rest names states w ws ready)

pub items-grown : (old new : List (List ℕ)) (items : List CommandItem) → Grown old new → numbers_below (length old) (flat_map item_numbers items) ≡ true → items_view new items ≡ items_view old items
items-grown old new items grown below = commands_view-grown old new (record { items = items }) grown below
