-- A text with tokens: its tree, or the line at which it goes wrong, decides the answer.
use Rattle.std.proofs.Common.{◌≡◌, ◌≤◌, ℕ, List, [], ◌∷◌, ◌++◌, length, get_or, sym, subst, ap, ◌∙◌, arith}
use Rattle.std.proofs.lemmas.List.{length-append, append-nil}
use Rattle.std.proofs.Math.Seq.{get_or-append_seam}
use Rattle.c_lexer.specs.declared.token.Token.{Token}
use Rattle.c_parser.specs.Parses.{IsOnlyTree}
use Rattle.c_pre.specs.declared.answer.Opened.{Opened}
use Rattle.c_tree.specs.Tree.{Trees}
use Rattle.c_tree.specs.HasTree.{HasTree, GoesWrong}
use Rattle.heapsafe.specs.Shown.{Shown, bad_syntax}
use Rattle.heapsafe.specs.Units.{AnswersTokens}

-- tokens with a tree do not go wrong
pub never_both : (tokens : List Token) (externals : Trees) (line : ℕ) → HasTree tokens externals → GoesWrong tokens line → ⊥
never_both tokens externals line has wrong =
    let all : length tokens ≤ length wrong.front = wrong.longest tokens [] externals (sym (append-nil tokens)) has in
    let split : length tokens ≡ length (wrong.front ++ wrong.wrong ∷ wrong.rest) = ap length wrong.split in
    let sum = length-append wrong.front (wrong.wrong ∷ wrong.rest) in
    omega (arith, all, split, sum)

-- the token behind a front
behind : (tokens front rest : List Token) (wrong d : Token) → tokens ≡ front ++ wrong ∷ rest → get_or tokens (length front) d ≡ wrong
behind tokens front rest wrong d split =
    subst (λ (ts : List Token). get_or ts (length front) d ≡ wrong) (sym split) (get_or-append_seam front wrong rest d)

-- tokens go wrong at one line
one_line : (tokens : List Token) (line other : ℕ) → GoesWrong tokens line → GoesWrong tokens other → line ≡ other
one_line tokens line other a b =
    let ab : length b.front ≤ length a.front = a.longest b.front (b.wrong ∷ b.rest) b.externals b.split b.tree in
    let ba : length a.front ≤ length b.front = b.longest a.front (a.wrong ∷ a.rest) a.externals a.split a.tree in
    let same : length a.front ≡ length b.front = omega (arith, ab, ba) in
    let tokens_are : a.wrong ≡ b.wrong = sym (behind tokens a.front a.rest a.wrong a.wrong a.split)
    ∙ ap (λ n. get_or tokens n a.wrong) same ∙ behind tokens b.front b.rest b.wrong a.wrong b.split in
    sym a.here ∙ ap (λ (t : Token). t.line) tokens_are ∙ b.here

module _ (opened : List Opened) (tokens : List Token) (By : Trees → Shown → Type 0) where
  -- tokens with this tree alone
  pub tree_is : (unit : Trees) (a : Shown) → IsOnlyTree tokens unit → By unit a → AnswersTokens opened tokens By a
  tree_is unit a is by = record {
    refused = λ line wrong. absurd (never_both tokens unit line is.tree wrong);
    parsed = λ other has. subst (λ (t : Trees). By t a) (sym (is.only other has)) by;
  }

  -- tokens that are refused
  pub wrong_is : (line : ℕ) → GoesWrong tokens line → AnswersTokens opened tokens By (bad_syntax opened line)
  wrong_is line wrong = record {
    refused = λ other also. ap (λ l. bad_syntax opened l) (one_line tokens line other wrong also);
    parsed = λ unit has. absurd (never_both tokens unit line has wrong);
  }
