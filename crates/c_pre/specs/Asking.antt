-- What the functions that answer `defined` give.
use Rattle.std.specs.Prelude.{◌≡◌, ◌≤◌, List, ◌∷◌, length, Option, Some, None}
use Rattle.std.specs.Borrow.{Bor}
use Rattle.c_lexer.specs.declared.token.Token.{Token}
use Rattle.c_pre.specs.Conditions.{before, answered}
use Rattle.c_pre.specs.Table.{Table}

-- a name that is asked for, and what stands behind it
abbrev pub question_now : Bor Token × Bor (List Token) → Token × List Token
question_now q = (q.0.now, q.1.now)

-- the first of some tokens and what stands behind it become this token and what stands behind that; or nothing
abbrev pub AnswersFirst : Table → Token → List Token → Option (Token × Bor (List Token)) → Type 0
AnswersFirst macros first behind None = answered macros (first ∷ behind) ≡ None
AnswersFirst macros first behind (Some it) =
    (answered macros (first ∷ behind) ≡ before it.0 (answered macros it.1.now)) × (length it.1.now ≤ length behind)
