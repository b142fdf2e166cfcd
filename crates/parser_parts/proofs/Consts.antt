-- The words `const` in front.
use Rattle.std.proofs.Common.{◌≡◌, zero, suc, List, [], ◌∷◌, true, false, if◌then◌else◌, length, refl, ap}
use Rattle.c_lexer.specs.declared.token.Token.{Token}
use Rattle.c_tree.specs.declared.word.Keyword.TheVariants as k
use Rattle.grammar_reading.specs.State.{first_kind, behind_first, kind_is_key}
use Rattle.grammar_reading.specs.Declarators.{leading_consts, behind_consts}

pub one_const : (tokens : List Token) → kind_is_key k.Const (first_kind tokens) ≡ true → (leading_consts tokens ≡ suc (leading_consts (behind_first tokens))) × (behind_consts tokens ≡ behind_consts (behind_first tokens)) × (length tokens ≡ suc (length (behind_first tokens)))
one_const [] h = cc
one_const (token ∷ tokens) h =
    (ap (λ b. if b then suc (leading_consts tokens) else zero) h, ap (λ b. if b then behind_consts tokens else token ∷ tokens) h, refl)

pub no_const : (tokens : List Token) → kind_is_key k.Const (first_kind tokens) ≡ false → (leading_consts tokens ≡ 0) × (behind_consts tokens ≡ tokens)
no_const [] h = (refl, refl)
no_const (token ∷ tokens) h =
    (ap (λ b. if b then suc (leading_consts tokens) else zero) h, ap (λ b. if b then behind_consts tokens else token ∷ tokens) h)
