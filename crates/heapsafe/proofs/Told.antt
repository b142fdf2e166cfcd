-- Answers, from what was said.
use Rattle.std.proofs.Common.{◌≡◌, ◌⊎◌, ℕ, ◌+◌, List, [], ◌++◌, Option, Some, None, inl, inr, refl, sym, ap, ◌∙◌, subst, arith, ⊎_elim}
use Rattle.std.specs.Prelude.{Result, Ok, Err}
use Rattle.std.proofs.lemmas.List.{append-nil}
use Rattle.c_tree.specs.Tree.{Trees}
use Rattle.c_pre.specs.declared.answer.PreError.{PreError}
use Rattle.c_pre.specs.declared.answer.PreError.TheVariants as pre
use Rattle.command_words.specs.Commands.{Task}
use Rattle.heapsafe.specs.Shown.{Shown, no_memory, bad_place, untokened}
use Rattle.heapsafe.specs.Program.{Input}
use Rattle.heapsafe.specs.Answer.{AnswersText, AnswersFiles, Does, alone}
use Rattle.heapsafe.specs.Units.{AnswersTokens}
use Rattle.heapsafe.specs.Reads.{CountsText, IsRefused, ReadsAs}
use Rattle.heapsafe.specs.declared.units.Program.{Program}
use Rattle.heapsafe.specs.declared.units.ProgramError.{ProgramError}
use Rattle.heapsafe.specs.declared.units.ProgramError.TheVariants.{Text, Syntax, Conflict, NoMemory}
use Rattle.bad_free_report.specs.Notice.{Notice, said}
use Rattle.heapsafe.specs.Saying.{Faults, Gives, Says, SaysOnly, TakesAll, TakesFront, unmade}
use Rattle.heapsafe.specs.Sight.{Sight}
use Rattle.c_lexer.specs.declared.token.Token.{Token}
use Rattle.c_lexer.specs.declared.token.LexKind.{LexKind}
use Rattle.c_lexer.specs.declared.token.LexError.{LexError}
use Rattle.c_lexer.specs.declared.token.LexError.TheVariants as lex
use Rattle.c_lexer.specs.Tokens.{HasTokens, IsOnlyAnswer}

-- an answer that reads nothing and writes nothing to the output
pub record IsSilent (s : Shown) : Type 0 where
  pub read : s.read ≡ []
  pub out : s.out ≡ []

-- nothing was taken
pub takes_none : (taken taken' : Option (List ℕ)) (bytes : List ℕ) → taken' ≡ taken → bytes ≡ [] → TakesAll taken taken' bytes
takes_none taken taken' bytes same none = λ t h.
    same ∙ h ∙ ap Some (sym (append-nil t)) ∙ ap (λ (b : List ℕ). Some (t ++ b)) (sym none)

module _ {I O E : Type 0} (before after : Sight I O E) (result : ℕ) where
  -- what was said is the answer's, where no write failed
  pub gives : (Is : Shown → Type 0) (s : Shown) (left rest : List ℕ) → (Is s ⊎ (s ≡ no_memory)) → after.left ≡ Some rest → s.read ++ rest ≡ left → TakesAll before.taken after.taken s.out → after.err_faults ≡ before.err_faults → Says before after s.err s.status result → Gives Is left before after result
  gives Is s left rest is is_left is_read took same said =
      ⊎_elim
      (λ h. record { shown = s; is = is; rest = rest; is_left = is_left; is_read = is_read; out_took = took; err_took = h.2; status = h.1 })
      (λ h. absurd (omega (arith, same, h.0)))
      said

  -- an answer that is said alone
  pub gives_said : (Is : Shown → Type 0) (s : Shown) (left : List ℕ) → (Is s ⊎ (s ≡ no_memory)) → IsSilent s → before.left ≡ Some left → after.err_faults ≡ before.err_faults → SaysOnly s before after result → Gives Is left before after result
  gives_said Is s left is silent is_left same said =
      gives Is s left left is (said.keeps.input.left ∙ is_left) (ap (λ r. r ++ left) silent.read)
      (takes_none before.taken after.taken s.out said.keeps.out.taken silent.out) same said.says

  -- faults: those of the error stream alone
  pub said_faults : (t : ℕ) (notice : Notice) (status : ℕ) → after.input_faults ≡ before.input_faults → after.out_faults ≡ before.out_faults → Says before after notice status result → Faults t t before after result
  said_faults t notice status input_stays out_stays said =
      ⊎_elim
      (λ h. inl (refl, input_stays, out_stays, h.0))
      (λ h. inr (inl (omega arith, omega (arith, input_stays), omega (arith, out_stays), omega (arith, h.0), inr (omega (arith, h.0)), h.1)))
      said

  -- an answer of one sort that is one of another
  pub gives_more : (Is Is' : Shown → Type 0) → ((s : Shown) → Is s → Is' s) → (left : List ℕ) → Gives Is left before after result → Gives Is' left before after result
  gives_more Is Is' more left g =
      record { shown = g.shown; is = ⊎_elim (λ h. inl (more g.shown h)) (λ h. inr h) g.is; rest = g.rest; is_left = g.is_left; is_read = g.is_read; out_took = g.out_took; err_took = g.err_took; status = g.status }

  -- the count of the texts stayed
  pub faults_as : (t t' : ℕ) → t' ≡ t → Faults t t before after result → Faults t t' before after result
  faults_as t t' same h = subst (λ n. Faults t n before after result) (sym same) h

  -- what says the same bytes
  pub says_same : (one other : Notice) (status : ℕ) → said before.form one ≡ said before.form other → Says before after one status result → Says before after other status result
  says_same one other status same says =
      ⊎_elim
      (λ h. inl (h.0, h.1, subst (λ (bytes : List ℕ). TakesAll before.said after.said bytes) same h.2))
      (λ h. inr (h.0, h.1, subst (λ (bytes : List ℕ). TakesFront before.said after.said bytes) same h.2))
      says

  -- the same in other words
  pub said_as : (r s : Shown) → r ≡ s → SaysOnly r before after result → SaysOnly s before after result
  said_as r s same h = subst (λ (x : Shown). SaysOnly x before after result) same h

-- an answer of the lexer that is another
abbrev given : List Token → Result (List Token) LexError
given tokens = Ok tokens

abbrev refused : LexError → Result (List Token) LexError
refused error = Err error

ok_is : (tokens others : List Token) → given tokens ≡ given others → others ≡ tokens
ok_is tokens others e = cc

bad_is : (kind kind' : LexKind) (line line' : ℕ) → refused (lex.Bad kind line) ≡ refused (lex.Bad kind' line') → (kind ≡ kind') × (line ≡ line')
bad_is kind kind' line line' e = (cc, cc)

-- a text that has these tokens
pub tokens_is : (file text : List ℕ) (tokens : List Token) (input : Input) (task : Task) (a : Shown) → IsOnlyAnswer text (Ok tokens) → AnswersTokens (alone file text) tokens (λ (unit : Trees) b. Does file (alone file text) unit input task b) a → AnswersText file text input task a
tokens_is file text tokens input task a only is = record {
  refused = λ kind line bad. ⊎_elim (λ (h : given tokens ≡ refused (lex.Bad kind line)). absurd cc) (λ (h : given tokens ≡ refused lex.NoMemory). absurd cc) (only (Err (lex.Bad kind line)) bad);
  lexed = λ others has. ⊎_elim (λ h. subst (λ ts. AnswersTokens (alone file text) ts (λ (unit : Trees) b. Does file (alone file text) unit input task b) a) (sym (ok_is tokens others h)) is) (λ (h : given tokens ≡ refused lex.NoMemory). absurd cc) (only (Ok others) has);
}

-- a text that has these tokens alone
pub only_tokens : (text : List ℕ) (tokens others : List Token) → IsOnlyAnswer text (Ok tokens) → HasTokens text others → others ≡ tokens
only_tokens text tokens others only has =
    ⊎_elim (λ h. ok_is tokens others h) (λ (h : given tokens ≡ refused lex.NoMemory). absurd cc) (only (Ok others) has)

-- a text with a bad place has no tokens
pub no_tokens : (text : List ℕ) (kind : LexKind) (line : ℕ) (tokens : List Token) → IsOnlyAnswer text (Err (lex.Bad kind line)) → HasTokens text tokens → ⊥
no_tokens text kind line tokens only has =
    ⊎_elim (λ (h : refused (lex.Bad kind line) ≡ given tokens). absurd cc) (λ (h : refused (lex.Bad kind line) ≡ refused lex.NoMemory). absurd cc) (only (Ok tokens) has)

-- a text that has no tokens
pub bad_place_is : (kind : LexKind) (line : ℕ) (file text : List ℕ) (input : Input) (task : Task) → IsOnlyAnswer text (Err (lex.Bad kind line)) → AnswersText file text input task (bad_place kind (record { name = file; line = line; text = text }))
bad_place_is kind line file text input task only = record {
  refused = λ kind' line' bad. ⊎_elim
      (λ h. let same = bad_is kind kind' line line' h in ap (λ (k : LexKind). bad_place k (record { name = file; line = line; text = text })) same.0 ∙ ap (λ l. bad_place kind' (record { name = file; line = l; text = text })) same.1)
      (λ (h : refused (lex.Bad kind line) ≡ refused lex.NoMemory). absurd cc)
      (only (Err (lex.Bad kind' line')) bad);
  lexed = λ tokens has. absurd (no_tokens text kind line tokens only has);
}

-- why a program was not read: it is refused, or memory was wanted, and no text failed; or a text failed
pub data Cause (error : ProgramError) (before after : ℕ) : Type 0 where
  Refusal : IsRefused error → after ≡ before → Cause error before after
  Memory : unmade error ≡ no_memory → after ≡ before → Cause error before after
  Fault : (name : List ℕ) → error ≡ Text (pre.Fault name) → after ≡ before + 1 → Cause error before after

pub cause_of : (error : ProgramError) (before after : ℕ) → CountsText {T = Program} before after (Err error) → Cause error before after
cause_of (Text (pre.Bad kind at)) before after counts = Refusal tt counts
cause_of (Text (pre.Lex kind at)) before after counts = Refusal tt counts
cause_of (Text (pre.TooLong name)) before after counts = Refusal tt counts
cause_of (Text (pre.Fault name)) before after counts = Fault name refl counts
cause_of (Text pre.NoMemory) before after counts = Memory refl counts
cause_of (Syntax texts line) before after counts = Refusal tt counts
cause_of (Conflict texts name line) before after counts = Refusal tt counts
cause_of NoMemory before after counts = Memory refl counts

pub untokened_silent : (error : PreError) → IsSilent (untokened error)
untokened_silent (pre.Bad kind at) = record { read = refl; out = refl }
untokened_silent (pre.Lex kind at) = record { read = refl; out = refl }
untokened_silent (pre.TooLong name) = record { read = refl; out = refl }
untokened_silent (pre.Fault name) = record { read = refl; out = refl }
untokened_silent pre.NoMemory = record { read = refl; out = refl }

pub unmade_silent : (error : ProgramError) → IsSilent (unmade error)
unmade_silent (Text error) = untokened_silent error
unmade_silent (Syntax texts line) = record { read = refl; out = refl }
unmade_silent (Conflict texts name line) = record { read = refl; out = refl }
unmade_silent NoMemory = record { read = refl; out = refl }
