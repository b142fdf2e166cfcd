-- The part of a name before its first dot.
use Rattle.std.proofs.Common.{◌≡◌, ℕ, Bool, true, false, cond, not, ◌==◌, List, [], ◌∷◌, refl, ap, ◌∙◌, take, sym}
use Rattle.std.specs.List.{prefix_len, take_while}
use Rattle.std.proofs.lemmas.List.Sums.{take_while-cons}
use Rattle.elaboration.specs.Resolving.{plain_name}
use Rattle.elab_core.specs.PlainNames.{is_plain}

one_more : (t : Bool) (b : ℕ) (xs ys : List ℕ) → xs ≡ ys → cond t [] (b ∷ xs) ≡ cond (not t) (b ∷ ys) []
one_more true b xs ys e = refl
one_more false b xs ys e = ap (λ (zs : List ℕ). b ∷ zs) e

pub plain_while : (name : List ℕ) → plain_name name ≡ take (prefix_len is_plain name) name
plain_while [] = refl
plain_while (b ∷ rest) =
    one_more (b == 46) b (plain_name rest) (take_while is_plain rest) (plain_while rest) ∙ sym (take_while-cons is_plain b rest)
