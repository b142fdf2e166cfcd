-- There is one longest piece at the front of a text. Proved from `Pieces`.
use Rattle.std.proofs.Common.{◌≡◌, ℕ, ◌<◌, Bool, inl, inr, List, take, Option, Some, ap, sym, ◌∙◌}
use Rattle.std.specs.Option.{unwrap_or}
use Rattle.std.proofs.lemmas.Bool.{cases_order}
use Rattle.std.proofs.lemmas.Option.{none-some}
use Rattle.c_lexer.specs.Pieces.{kind_of, Longest}
use Rattle.c_lexer.specs.declared.piece.PieceKind.{PieceKind}
use Rattle.c_lexer.specs.declared.piece.Piece.{Piece}

not_longer : (fresh : Bool) (text : List ℕ) (p q : Piece) → Longest fresh text p → Longest fresh text q → p.len < q.len → ⊥
not_longer fresh text p q a b lt = none-some q.kind (sym (a.longest q.len lt b.within) ∙ b.formed)

same_length : (fresh : Bool) (text : List ℕ) (p q : Piece) → Longest fresh text p → Longest fresh text q → p.len ≡ q.len
same_length fresh text p q a b = elim (cases_order p.len q.len) [
  | inl e ↦ e
  | inr (inl lt) ↦ absurd (not_longer fresh text p q a b lt)
  | inr (inr lt) ↦ absurd (not_longer fresh text q p b a lt)
]

same_piece : (k k' : PieceKind) (n n' : ℕ) → k ≡ k' → n ≡ n' → let p : Piece = record { kind = k; len = n } in let q : Piece = record { kind = k'; len = n' } in p ≡ q
same_piece k k' n n' e h = λ i. record { kind = e i; len = h i }

one_kind : (o : Option PieceKind) (k k' : PieceKind) → o ≡ Some k → o ≡ Some k' → k ≡ k'
one_kind o k k' e h = ap (λ found. unwrap_or found k) (sym e ∙ h)

pub longest_one : (fresh : Bool) (text : List ℕ) (p q : Piece) → Longest fresh text p → Longest fresh text q → p ≡ q
longest_one fresh text p q a b =
    let long = same_length fresh text p q a b in
    same_piece p.kind q.kind p.len q.len (one_kind (kind_of fresh (take p.len text)) p.kind q.kind a.formed (ap (λ n. kind_of fresh (take n text)) long ∙ b.formed)) long
