-- The size of code, piece by piece.
use Rattle.std.proofs.Common.{◌≡◌, ◌<◌, ◌+◌, ℕ, List, [], ◌∷◌, map, take, length, get_or, refl, ap, sym, ◌∙◌}
use Rattle.std.specs.List.{sum_by}
use Rattle.std.proofs.lemmas.List.Sums.{sum_by-cons, sum_by_more}
use Rattle.elaboration.specs.Externals.{piece_length}
use Rattle.elab_base.specs.declared.pieces.Piece.{Piece}
use Rattle.elab_base.specs.PlainPieces.{plain_piece}

abbrev size_of : Piece → ℕ
size_of piece = piece_length (plain_piece piece)

mapped : (xs : List Piece) → sum_by piece_length (map plain_piece xs) ≡ sum_by size_of xs
mapped [] = refl
mapped (x ∷ xs) =
    sum_by-cons piece_length (plain_piece x) (map plain_piece xs)
    ∙ ap (λ (k : ℕ). size_of x + k) (mapped xs) ∙ sym (sum_by-cons size_of x xs)

pub size_next : (xs : List Piece) (i : ℕ) (x : Piece) → i < length xs → x ≡ get_or xs i x →
    sum_by piece_length (map plain_piece (take (i + 1) xs)) ≡ sum_by piece_length (map plain_piece (take i xs)) + piece_length (plain_piece x)
size_next xs i x h is =
    mapped (take (i + 1) xs) ∙ sum_by_more size_of xs i x h
    ∙ ap (λ (k : ℕ). k + size_of (get_or xs i x)) (sym (mapped (take i xs)))
    ∙ ap (λ (y : Piece). sum_by piece_length (map plain_piece (take i xs)) + size_of y) (sym is)
