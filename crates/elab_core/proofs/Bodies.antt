-- The statements among pieces that grow.
use Rattle.std.proofs.Common.{◌≡◌, List, [], ◌∷◌, ◌++◌, refl, ap}
use Rattle.core_tree.specs.declared.statements.Stm.{Stm}
use Rattle.elaboration.specs.Context.{Piece, Does, Here}
use Rattle.elaboration.specs.Resolving.{Numbers, numbered, body_of}

pub body_more : (n : Numbers) (xs : List Piece) (piece : Piece) → body_of n (xs ++ piece ∷ []) ≡ body_of n xs ++ body_of n (piece ∷ [])
body_more n [] (Does stm) = refl
body_more n [] (Here label) = refl
body_more n (Does stm ∷ xs) piece =
    ap (λ (body : List Stm). record { line = stm.line; kind = numbered n stm.kind } ∷ body) (body_more n xs piece)
body_more n (Here label ∷ xs) piece = body_more n xs piece
