-- The core of a text that is made, or why it is refused.
use Rattle.std.proofs.Common.{◌≡◌, inl, inr, ℕ, List, [], Ok, Err, refl, sym, ap, ◌∙◌, subst, false}
use Rattle.c_lexer.specs.declared.token.Token.{Token}
use Rattle.c_lexer.specs.declared.token.LexKind.{LexKind}
use Rattle.c_lexer.specs.declared.token.LexError.TheVariants as lex
use Rattle.c_lexer.specs.Tokens.{HasBadPlace, HasTokens, IsOnlyAnswer}
use Rattle.c_tree.specs.Tree.{Trees}
use Rattle.c_tree.specs.HasTree.{HasTree}
use Rattle.c_parser.specs.Parses.{IsOnlyTree}
use Rattle.c_decls.specs.Refusals.{Checked, Refusal}
use Rattle.c_elab.specs.Core.{core_in}
use Rattle.core_tree.specs.declared.program.Core.{Core as Program}
use Rattle.command_words.specs.Commands.{Run}
use Rattle.heapsafe.specs.declared.generated.Prepared.{Prepared}
use Rattle.heapsafe.specs.declared.generated.Prepared.TheVariants.{Core, Refused}
use Rattle.heapsafe.specs.declared.program.Way.TheVariants as way
use Rattle.heapsafe.specs.Shown.{Shown, bad_place, bad_syntax, bad_type}
use Rattle.heapsafe.specs.Program.{Input}
use Rattle.heapsafe.specs.Answer.{AnswersText, AnswersTypes, Does, HasCore, alone}
use Rattle.heapsafe.specs.Generated.{IsPrepared, IsPreparedTokens, IsPreparedUnit, IsWithout}
use Rattle.heapsafe.proofs.Told.{bad_place_is, no_tokens, only_tokens, tokens_is}
use Rattle.heapsafe.proofs.Trees.{never_both, tree_is, wrong_is}

-- tokens with this tree alone
pub unit_prepared : (tokens : List Token) (externals : Trees) → IsOnlyTree tokens externals → (p : Prepared) → IsPreparedUnit (core_in externals) p → IsPreparedTokens tokens p
unit_prepared tokens externals is (Core core) h = (externals, is, h.0, h.1)
unit_prepared tokens externals is (Refused status) h = inr (externals, is, h.0, h.1, h.2)

-- the answer of a checked core that is another
abbrev typed : Program → Checked Program
typed core = Ok core

abbrev untyped : Refusal → Checked Program
untyped refusal = Err refusal

same_core : (a b : Program) → typed a ≡ typed b → a ≡ b
same_core a b e = cc

never_typed : (a : Program) (refusal : Refusal) → typed a ≡ untyped refusal → ⊥
never_typed a refusal e = absurd cc

-- an answer that is another has its output and its status
said_is : (s a : Shown) (status : ℕ) → a ≡ s → s.out ≡ [] → s.status ≡ status → (a.out ≡ []) × (a.status ≡ status)
said_is s a status is out same = (ap (λ (x : Shown). x.out) is ∙ out, ap (λ (x : Shown). x.status) is ∙ same)

module _ (text : List ℕ) (tokens : List Token) (lexed : HasTokens text tokens) (only : IsOnlyAnswer text (Ok tokens)) where
  -- whatever tree the text has, its tokens have
  own_tree : (core : Program) (h : HasCore text core) → HasTree tokens h.externals
  own_tree core h =
      subst (λ (ts : List Token). HasTree ts h.externals) (only_tokens text tokens h.tokens only h.lexed) h.parsed

  -- the core of any tree of the text is that of its only tree
  one_typed : (externals : Trees) → IsOnlyTree tokens externals → (core : Program) → HasCore text core → core_in externals ≡ Ok core
  one_typed externals is core h = sym (ap core_in (is.only h.externals (own_tree core h))) ∙ h.typed

  -- the text answers what its checked core does
  typed_answers : (externals : Trees) → IsOnlyTree tokens externals → (wanted : Checked Program) → core_in externals ≡ wanted → (file : List ℕ) (input : Input) (heap stack steps : ℕ) (a : Shown) →
      AnswersTypes file (alone file text) wanted input (way.Run (record { heap = heap; stack = stack }) steps false false) a → AnswersText file text input (Run heap stack steps false false) a
  typed_answers externals is wanted e file input heap stack steps a h =
      tokens_is file text tokens input (Run heap stack steps false false) a only
      (tree_is (alone file text) tokens (λ (unit : Trees) b. Does file (alone file text) unit input (Run heap stack steps false false) b) externals a is
      (subst (λ (w : Checked Program). AnswersTypes file (alone file text) w input (way.Run (record { heap = heap; stack = stack }) steps false false) a) (sym e) h))

  -- and does what the text answers
  typed_answered : (externals : Trees) → HasTree tokens externals → (wanted : Checked Program) → core_in externals ≡ wanted → (file : List ℕ) (input : Input) (heap stack steps : ℕ) (a : Shown) →
      AnswersText file text input (Run heap stack steps false false) a → AnswersTypes file (alone file text) wanted input (way.Run (record { heap = heap; stack = stack }) steps false false) a
  typed_answered externals has wanted e file input heap stack steps a h =
      subst (λ (w : Checked Program). AnswersTypes file (alone file text) w input (way.Run (record { heap = heap; stack = stack }) steps false false) a) e ((h.lexed tokens lexed).parsed externals has)

  pub tokens_prepared : (p : Prepared) → IsPreparedTokens tokens p → IsPrepared text p
  tokens_prepared (Core core) (externals, is, e, sound) = (
    record {
      has = record { tokens = tokens; lexed = lexed; externals = externals; parsed = is.tree; typed = e };
      only = λ other h. same_core other core (sym (one_typed externals is other h) ∙ e);
      answers = λ file input heap stack steps a h. typed_answers externals is (Ok core) e file input heap stack steps a h;
      answered = λ file input heap stack steps a h. typed_answered externals is.tree (Ok core) e file input heap stack steps a h;
    },
    sound,
  )
  tokens_prepared (Refused status) (inl (line, wrong, is_status)) = record {
    none = λ core h. never_both tokens h.externals line (own_tree core h) wrong;
    answers = λ file input heap stack steps. (
      bad_syntax (alone file text) line,
      tokens_is file text tokens input (Run heap stack steps false false) (bad_syntax (alone file text) line) only
          (wrong_is (alone file text) tokens (λ (unit : Trees) b. Does file (alone file text) unit input (Run heap stack steps false false) b) line wrong),
      refl,
      sym is_status,
    );
    only = λ file input heap stack steps a h. said_is (bad_syntax (alone file text) line) a status ((h.lexed tokens lexed).refused line wrong) refl (sym is_status);
  }
  tokens_prepared (Refused status) (inr (externals, is, refusal, e, is_status)) = record {
    none = λ core h. never_typed core refusal (sym (one_typed externals is core h) ∙ e);
    answers = λ file input heap stack steps. (
      bad_type (alone file text) refusal,
      typed_answers externals is (Err refusal) e file input heap stack steps (bad_type (alone file text) refusal) refl,
      refl,
      sym is_status,
    );
    only = λ file input heap stack steps a h. said_is (bad_type (alone file text) refusal) a status (typed_answered externals is.tree (Err refusal) e file input heap stack steps a h) refl (sym is_status);
  }

-- a text with a bad place
pub bad_prepared : (text : List ℕ) (kind : LexKind) (line : ℕ) → HasBadPlace text kind line → IsOnlyAnswer text (Err (lex.Bad kind line)) → IsWithout text 123
bad_prepared text kind line bad only = record {
  none = λ core h. no_tokens text kind line h.tokens only h.lexed;
  answers = λ file input heap stack steps. (
    bad_place kind (record { name = file; line = line; text = text }),
    bad_place_is kind line file text input (Run heap stack steps false false) only,
    refl,
    refl,
  );
  only = λ file input heap stack steps a h. said_is (bad_place kind (record { name = file; line = line; text = text })) a 123 (h.refused kind line bad) refl refl;
}
