-- Printing, piece by piece. Equations, proved from `Printing`.
use Rattle.std.proofs.Common.{◌≡◌, ℕ, suc, ◌+◌, ◌<◌, ◌≤◌, List, [], ◌∷◌, ◌++◌, Ok, Err, Some, None, length, drop, get_or, refl, sym, ap, ◌∙◌, append_assoc, append-nil, add-one, add-zero, pos, drop_of_length-le}
use Rattle.std.proofs.lemmas.List.{get_or-drop}
use Rattle.std.proofs.Math.Seq.{drop-cons}
use Rattle.hs_base.specs.declared.values.Value.{Value}
use Rattle.hs_base.specs.Access.{Refusal}
use Rattle.hs_base.specs.Object.{Object}
use Rattle.c_print.specs.declared.piece.Piece.{Piece}
use Rattle.c_print.specs.declared.piece.Piece.TheVariants.{Plain, Item}
use Rattle.object_meaning.specs.objects.Values.{number}
use Rattle.object_meaning.specs.objects.Printing.{Printed, item_text, arguments_behind, in_front, printed}

-- bytes in front of what is printed behind them
abbrev pub behind : List ℕ → Printed → Printed
behind text rest = record { bytes = text ++ rest.bytes; refused = rest.refused }

-- an item is printed from the first of the values
pub first_text : (objects : List Object) (piece : Piece) (values : List Value) (k : ℕ) → item_text objects piece (drop k values) ≡ item_text objects piece (get_or values k (number (pos 0)) ∷ [])
first_text objects (Plain text) values k = refl
first_text objects (Item left zeros width conv kind) values k =
    ap (λ v. item_text objects (Item left zeros width conv kind) (v ∷ []))
    (get_or-drop k values 0 (number (pos 0)) ∙ ap (λ j. get_or values j (number (pos 0))) (add-zero k))

module _ (objects : List Object) (pieces : List Piece) (values : List Value) where
  pub print_none : printed objects pieces values ≡ behind [] (printed objects (drop 0 pieces) (drop 0 values))
  print_none = refl

  module _ (i k : ℕ) (piece : Piece) (inside : i < length pieces) (is : piece ≡ get_or pieces i piece) where
    here : printed objects (drop i pieces) (drop k values) ≡ in_front (item_text objects piece (get_or values k (number (pos 0)) ∷ [])) (printed objects (drop (i + 1) pieces) (arguments_behind piece (drop k values)))
    here =
        let front : drop i pieces ≡ piece ∷ drop (i + 1) pieces =
        drop-cons pieces i piece inside ∙ ap (λ p. p ∷ drop (suc i) pieces) (sym is) ∙ ap (λ j. piece ∷ drop j pieces) (sym (add-one i)) in
        ap (λ ps. printed objects ps (drop k values)) front
        ∙ ap (λ t. in_front t (printed objects (drop (i + 1) pieces) (arguments_behind piece (drop k values)))) (first_text objects piece values k)

    pub print_refused : (text : List ℕ) (e : Refusal) → item_text objects piece (get_or values k (number (pos 0)) ∷ []) ≡ Err e → behind text (printed objects (drop i pieces) (drop k values)) ≡ record { bytes = text; refused = Some e }
    print_refused text e h =
        let rest = printed objects (drop (i + 1) pieces) (arguments_behind piece (drop k values)) in
        ap (behind text) (here ∙ ap (λ t. in_front t rest) h)
        ∙ ap (λ bs. let p : Printed = record { bytes = bs; refused = Some e } in p) (append-nil text)

    pub print_more : (text more : List ℕ) (next : ℕ) → item_text objects piece (get_or values k (number (pos 0)) ∷ []) ≡ Ok more → drop next values ≡ arguments_behind piece (drop k values) → behind text (printed objects (drop i pieces) (drop k values)) ≡ behind (text ++ more) (printed objects (drop (i + 1) pieces) (drop next values))
    print_more text more next h args =
        let rest = printed objects (drop (i + 1) pieces) (arguments_behind piece (drop k values)) in
        ap (behind text) (here ∙ ap (λ t. in_front t rest) h)
        ∙ ap (λ bs. let p : Printed = record { bytes = bs; refused = rest.refused } in p) (sym (append_assoc text more rest.bytes))
        ∙ ap (λ vs. behind (text ++ more) (printed objects (drop (i + 1) pieces) vs)) (sym args)

  pub print_over : (i k : ℕ) (text : List ℕ) → length pieces ≤ i → behind text (printed objects (drop i pieces) (drop k values)) ≡ record { bytes = text; refused = None }
  print_over i k text h =
      ap (λ ps. behind text (printed objects ps (drop k values))) (drop_of_length-le pieces {i = i} h)
      ∙ ap (λ bs. let p : Printed = record { bytes = bs; refused = None } in p) (append-nil text)
