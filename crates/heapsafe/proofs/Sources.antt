-- The tokens of a text that may be read are few and short, and so their tree has a sound core.
use Rattle.std.proofs.Common.{◌≤◌, ℕ, List, All, length, arith}
use Rattle.std.proofs.lemmas.List.Elements.{All-weaker}
use Rattle.c_lexer.specs.declared.token.Token.{Token}
use Rattle.c_lexer.specs.Tokens.{IsLexed}
use Rattle.c_tree.specs.Tree.{Trees}
use Rattle.c_tree.specs.HasTree.{HasTree}
use Rattle.core_tree.specs.Sound.{IsShort}
use Rattle.core_soundness.specs.Laws.{AreWithin}
use Rattle.core_soundness.specs.Texts.{IsOfTexts}
use Rattle.c_pre.specs.Texts.{most_bytes}

pub tokens_within_most : (text : List ℕ) (tokens : List Token) → AreWithin (length text) tokens → length text ≤ most_bytes → AreWithin most_bytes tokens
tokens_within_most text tokens w h = record {
  count = omega (arith, w.count, h);
  bytes = All-weaker (λ (token : Token). length token.bytes ≤ length text) (λ (token : Token). length token.bytes ≤ most_bytes) (λ token q. omega (arith, h, q)) tokens w.bytes;
}

-- the tree of one text is made of itself: the law `texts_are_made_of_themselves` of `core_soundness`
abbrev OneTextIsOfTexts : Type 0
OneTextIsOfTexts =
    (tokens : List Token) (unit : Trees) → All IsLexed tokens → length tokens ≤ 268435456 → All (λ token. IsShort token.bytes) tokens → HasTree tokens unit → IsOfTexts unit

pub tree_of_tokens : OneTextIsOfTexts → (tokens : List Token) (unit : Trees) → All IsLexed tokens → AreWithin most_bytes tokens → HasTree tokens unit → IsOfTexts unit
tree_of_tokens one_text tokens unit l w h =
    one_text tokens unit l (omega (arith, w.count))
    (All-weaker (λ (token : Token). length token.bytes ≤ most_bytes) (λ (token : Token). IsShort token.bytes) (λ token q. omega (arith, q)) tokens w.bytes) h
