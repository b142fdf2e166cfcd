-- How many files words may be.
use Rattle.std.proofs.Common.{◌≡◌, ◌≤◌, ◌∙◌, ◌&&◌, ℕ, Bool, true, List, Bor, map, length, nat_le, sym, ap, subst}
use Rattle.std.specs.List.{list_all}
use Rattle.std.proofs.lemmas.Bool.{le-leb}
use Rattle.std.proofs.lemmas.List.{length-map}
use Rattle.std.proofs.lemmas.List.Folds.{list_all-map}
use Rattle.command_words.specs.Numbers.{is_file}

-- words of which there are some and not too many are files where each can be one
pub not_too_many : (words : List (Bor (List ℕ))) (most : ℕ) → 1 ≤ length words → length words ≤ most
    → list_all (λ w. is_file w.now) words ≡ (nat_le 1 (length (map (λ w. w.now) words)) && nat_le (length (map (λ w. w.now) words)) most && list_all is_file (map (λ w. w.now) words))
not_too_many words most some few =
    let same = sym (length-map words (λ (w : Bor (List ℕ)). w.now)) in
    let least = le-leb 1 _ (subst (λ n. 1 ≤ n) same some) in
    let greatest = le-leb _ most (subst (λ n. n ≤ most) same few) in
    sym (list_all-map is_file (λ (w : Bor (List ℕ)). w.now) words)
    ∙ sym (ap (λ (b : Bool). b && nat_le (length (map (λ (w : Bor (List ℕ)). w.now) words)) most && list_all is_file (map (λ (w : Bor (List ℕ)). w.now) words)) least
    ∙ ap (λ (b : Bool). true && b && list_all is_file (map (λ (w : Bor (List ℕ)). w.now) words)) greatest)
