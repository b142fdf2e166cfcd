-- A token with `const` in place of a word without effect is one of its kind.
use Rattle.std.proofs.Common.{arith, Bool, true, false, cond, codes, List, map, All, refl}
use Rattle.std.proofs.lemmas.List.Elements.{All-map, All-weaker}
use Rattle.c_lexer.specs.Bytes.{is_space, is_letter, is_digit, is_name_byte, class_of}
use Rattle.c_lexer.specs.Names.{is_keyword}
use Rattle.c_lexer.specs.Pieces.{kind_of, IsToken}
use Rattle.c_lexer.specs.declared.token.Token.{Token}
use Rattle.c_lexer.specs.declared.token.TokenKind.TheVariants.{Keyword}
use Rattle.c_pre.specs.Formed.{IsFormed}
use Rattle.c_pre.specs.Qualifiers.{is_idle, plain_token}

const_token : IsToken Keyword (codes "const")
unfolding kind_of class_of is_space is_letter is_digit is_name_byte is_keyword
const_token = refl

pick_token : (b : Bool) (x y : Token) → IsFormed x → IsFormed y → IsFormed (cond b x y)
pick_token true x y hx hy = hx
pick_token false x y hx hy = hy

token_formed : (token : Token) → IsFormed token → IsFormed (plain_token token)
unfolding plain_token
token_formed token h = pick_token (is_idle token.bytes) _ token ((const_token, h.0.1), omega (arith)) h

pub tokens_formed : (tokens : List Token) → All IsFormed tokens → All IsFormed (map plain_token tokens)
tokens_formed tokens h =
    All-map IsFormed plain_token tokens (All-weaker IsFormed (λ token. IsFormed (plain_token token)) (λ token k. token_formed token k) tokens h)
