-- Lists of trees that are gone through in turn.
use Rattle.std.proofs.Common.{◌≡◌, ◌<◌, ◌≤◌, ◌+◌, ℕ, zero, suc, List, [], ◌∷◌, drop, length, get_or, refl, ap, sym, ◌∙◌, arith}
use Rattle.std.proofs.Math.Seq.{drop-cons}
use Rattle.c_tree.specs.Tree.{Tree}
use Rattle.c_tree.specs.StatementView.{trees}
use Rattle.elaboration.specs.Addressed.{Taken, taken}
use Rattle.elab_addressed.specs.Turns.{in_turn}

module _ {A : Type 0} (view : A → Tree) where
  next_is : (xs : List A) (i : ℕ) (x : A) (t : Taken) → i < length xs → x ≡ get_or xs i x →
      in_turn (trees view (drop (i + 1) xs)) (taken (view x) t) ≡ in_turn (trees view (drop i xs)) t
  next_is xs i x t h is =
      let more : drop (i + 1) xs ≡ drop (suc i) xs = ap (λ (n : ℕ). drop n xs) (let next : i + 1 ≡ suc i = omega arith in next) in
      ap (λ (l : List A). in_turn (trees view l) (taken (view x) t)) more
      ∙ ap (λ (y : A). in_turn (trees view (drop (suc i) xs)) (taken (view y) t)) is
      ∙ sym (ap (λ (l : List A). in_turn (trees view l) t) (drop-cons xs i x h))

  pub item_next : (xs : List A) (i : ℕ) (x : A) (t d : Taken) → i < length xs → x ≡ get_or xs i x → d ≡ taken (view x) t →
      in_turn (trees view (drop (i + 1) xs)) d ≡ in_turn (trees view (drop i xs)) t
  item_next xs i x t d h is e =
      ap (λ (s : Taken). in_turn (trees view (drop (i + 1) xs)) s) e ∙ next_is xs i x t h is

  pub list_end : (xs : List A) (i : ℕ) (t : Taken) → length xs ≤ i → in_turn (trees view (drop i xs)) t ≡ t
  list_end [] zero t h = refl
  list_end [] (suc i) t h = refl
  list_end (first ∷ xs) zero t h = absurd (omega (arith, h))
  list_end (first ∷ xs) (suc i) t h = list_end xs i t (omega (arith, h))
