-- What holds of trees that are made of those of texts.
use Rattle.core_soundness.proofs.Words.Std.{◌≡◌, ◌≤◌, ◌+◌, ◌*◌, ℕ, List, [], ◌∷◌, length, length-append, All, sum_by, ap, subst, arith, All-head, All-tail, sum_by-cons}
use Rattle.core_soundness.proofs.Words.Trees.{IsToken, IsLexed, Token, TokenKind, HasTree, IsSuffixed, Tree, Trees, none, ◌▹◌}
use Rattle.core_soundness.proofs.Words.Core.{IsShort}
use Rattle.core_soundness.proofs.Words.Facts.{joined, all_joined, HaveTrees, AllNames, IsMadeOf, IsSmall, IsOfTexts, Each, AreWritten}
use Rattle.c_lexer.specs.Cutting.{ConstantsFit}
use Rattle.c_lexer.specs.declared.token.TokenKind.TheVariants as kind
use Rattle.core_soundness.proofs.Formed.{Grammatical, AreFormed, all_written, all_formed, unit_made}
use Rattle.core_soundness.proofs.Near.{unit_weighed}
use Rattle.core_soundness.proofs.OwnNames.{IsOwn, HaveOwnNames, own_name, own_kept, own_trees}
use Rattle.core_soundness.proofs.Renamed.{some_grammatical, some_weighed, some_names, renames_own}
use Rattle.core_soundness.proofs.Walks.{weights}

-- one text is made of itself

pub text_made : (tokens : List Token) (unit : Trees) → All IsLexed tokens → HasTree tokens unit → IsMadeOf (tokens ∷ []) (unit ∷ []) unit
text_made tokens unit l h = record { trees = ((l, h), tt); renamed = renames_own unit }

pub text_one : ConstantsFit → (tokens : List Token) (unit : Trees) → All IsLexed tokens → length tokens ≤ 268435456 → All (λ (token : Token). IsShort token.bytes) tokens → HasTree tokens unit → IsOfTexts unit
text_one fit tokens unit l few short h = (
  tokens ∷ [],
  unit ∷ [],
  text_made tokens unit l h,
  record {
    few = omega (arith, few, sum_by-cons (λ (ts : List Token). length ts) tokens []);
    short = (unit_made IsShort fit tokens unit (λ i token e. (l i token e, λ k. short i token e)) h).1;
  },
)

-- trees one behind another

each_joined : (P : Tree → Type 0) (one other : Trees) → Each P one → Each P other → Each P (joined one other)
each_joined P none other h g = g
each_joined P (tree ▹ rest) other h g = (h.0, each_joined P rest other h.1 g)

names_joined : (W : List ℕ → Type 0) (one other : Trees) → AllNames W one → AllNames W other → AllNames W (joined one other)
names_joined W none other h g = g
names_joined W (tree ▹ rest) other h g = (h.0, names_joined W rest other h.1 g)

weights_joined : (one other : Trees) → weights (joined one other) ≡ weights one + weights other
weights_joined none other = omega arith
weights_joined (tree ▹ rest) other = omega (arith, weights_joined rest other)

-- what the grammar says of the trees of texts, and W of each of their names

-- W of each token that is a name
abbrev NamesAre : (List ℕ → Type 0) → List Token → Type 0
NamesAre W tokens = All (λ (token : Token). IsLexed token → token.kind ≡ kind.Name → W token.bytes) tokens

have_all : ConstantsFit → (W : List ℕ → Type 0) (texts : List (List Token)) (units : List Trees) → HaveTrees texts units → All (NamesAre W) texts → Each Grammatical (all_joined units) × AllNames W (all_joined units)
have_all fit W [] [] h s = (tt, tt)
have_all fit W (tokens ∷ texts) (unit ∷ units) h s =
    let named = All-head (NamesAre W) tokens texts s in
    let one = unit_made W fit tokens unit (λ i token e. (h.0.0 i token e, named i token e (h.0.0 i token e))) h.0.1 in
    let all = have_all fit W texts units h.1 (All-tail (NamesAre W) tokens texts s) in
    (each_joined Grammatical unit (all_joined units) one.0 all.0, names_joined W unit (all_joined units) one.1 all.1)
have_all fit W texts units h s = absurd h

own_token : (sort : TokenKind) (bytes : List ℕ) → sort ≡ kind.Name → IsToken sort bytes → IsOwn bytes
own_token sort bytes e h = own_name bytes (subst (λ (k : TokenKind). IsToken k bytes) e h)

own_tokens : (texts : List (List Token)) → All (NamesAre IsOwn) texts
own_tokens texts = λ i tokens e j token q l named. own_token _ _ named l.0

-- what a tree has that is made of theirs
pub record Made (unit : Trees) : Type 0 where
  pub written : AreWritten unit
  pub formed : AreFormed unit
  pub own : HaveOwnNames unit

pub made_all : ConstantsFit → (texts : List (List Token)) (units : List Trees) (unit : Trees) → IsMadeOf texts units unit → Made unit
made_all fit texts units unit m =
    let all = have_all fit IsOwn texts units m.trees (own_tokens texts) in
    let some = some_grammatical (all_joined units) unit m.renamed all.0 in
    record {
      written = all_written unit some;
      formed = all_formed unit some;
      own = own_trees unit (some_names IsOwn IsOwn own_kept (all_joined units) unit m.renamed all.1);
    }

-- how much it weighs

have_weights : (texts : List (List Token)) (units : List Trees) → HaveTrees texts units → weights (all_joined units) ≤ 6 * sum_by (λ (tokens : List Token). length tokens) texts
have_weights [] [] h = omega arith
have_weights (tokens ∷ texts) (unit ∷ units) h =
    omega (arith, have_weights texts units h.1, unit_weighed tokens unit h.0.1, weights_joined unit (all_joined units), sum_by-cons (λ (ts : List Token). length ts) tokens texts)
have_weights texts units h = absurd h

pub made_weighed : (texts : List (List Token)) (units : List Trees) (unit : Trees) → IsMadeOf texts units unit → IsSmall texts unit → weights unit ≤ 1610612736
made_weighed texts units unit m s = search (arith, have_weights, some_weighed)

-- a suffix leaves names short

abbrev IsHeldName : List ℕ → Type 0
IsHeldName name = length name ≤ 268435456

suffix_short : (name new : List ℕ) → IsSuffixed name new → IsHeldName name → IsShort new
suffix_short name new s h = omega (arith, h, s.short, ap length s.is, length-append name s.suffix)

pub names_short : ConstantsFit → (texts : List (List Token)) (units : List Trees) (unit : Trees) → IsMadeOf texts units unit → All (λ (tokens : List Token). All (λ (token : Token). length token.bytes ≤ 268435456) tokens) texts → AllNames IsShort unit
names_short fit texts units unit m s =
    some_names IsHeldName IsShort suffix_short (all_joined units) unit m.renamed
    (have_all fit IsHeldName texts units m.trees (λ i tokens e j token q l named. s i tokens e j token q)).1
