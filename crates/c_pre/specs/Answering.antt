-- What functions answer and leave, against what a definition expects. Want of memory may come in place of it, and of it
-- nothing is said.
use Rattle.std.specs.Prelude.{◌≡◌, ◌⊎◌, ◌≤◌, ⊤, ℕ, ◌+◌, Bool, true, false, All, List, Option, Some, Result, Ok, Err}
use Rattle.std.specs.List.{list_all}
use Rattle.c_lexer.specs.declared.token.Token.{Token}
use Rattle.c_lexer.specs.declared.token.LexError.{LexError}
use Rattle.c_lexer.specs.declared.token.LexError.TheVariants as lex
use Rattle.c_pre.specs.Directives.{is_path_byte}
use Rattle.c_pre.specs.Steps.{Next, Goes, Ends, Stops}
use Rattle.c_pre.specs.Reading.{Step}
use Rattle.c_pre.specs.Texts.{with_text, entered, text_read, below, preprocessed, preprocessed_behind}
use Rattle.c_pre.specs.declared.answer.Pre.{Pre}
use Rattle.c_pre.specs.declared.answer.PreError.{PreError}
use Rattle.c_pre.specs.declared.answer.PreError.TheVariants as error
use Rattle.c_pre.specs.declared.answer.Refusal.{Refusal}
use Rattle.c_pre.specs.declared.answer.Refusal.TheVariants.{Bad, Lex, NoMemory}
use Rattle.c_pre.specs.declared.answer.Sources.{Sources}
use Rattle.c_pre.specs.declared.here.Here.{Here}
use Rattle.c_pre.specs.declared.preprocessor.Source.{Source}
use Rattle.c_pre.specs.declared.progress.Progress.{Progress}
use Rattle.c_pre.specs.declared.scan.Scan.{Scan}

-- what is expected is answered, or want of memory, of which nothing is said
abbrev pub Answers : {S : Type 0} → Result S Refusal → Result S Refusal → Type 0
Answers expected (Ok s) = expected ≡ Ok s
Answers expected (Err (Bad kind line)) = expected ≡ Err (Bad kind line)
Answers expected (Err (Lex kind line)) = expected ≡ Err (Lex kind line)
Answers expected (Err NoMemory) = ⊤

-- the value that is expected is left, or the refusal that is expected is answered, or want of memory
abbrev pub Leaves : {S T : Type 0} → Result S Refusal → S → Result T Refusal → Type 0
Leaves expected new (Ok t) = expected ≡ Ok new
Leaves expected new (Err (Bad kind line)) = expected ≡ Err (Bad kind line)
Leaves expected new (Err (Lex kind line)) = expected ≡ Err (Lex kind line)
Leaves expected new (Err NoMemory) = ⊤

-- the lexer gives these tokens, whose lines are within the text, or this bad place in it, or want of memory
abbrev pub GivesLexed : Result (List Token) LexError → ℕ → Result (List Token) LexError → Type 0
GivesLexed expected most (Ok tokens) = (expected ≡ Ok tokens) × All (λ token. token.line ≤ most) tokens
GivesLexed expected most (Err (lex.Bad kind line)) = (expected ≡ Err (lex.Bad kind line)) × (line ≤ most)
GivesLexed expected most (Err lex.NoMemory) = ⊤

-- the step is left and its include is answered, or its refusal is, or want of memory
abbrev pub Steps : Result Step Refusal → Here → Progress → Result (Option (List ℕ)) Refusal → Type 0
Steps expected here p (Ok include) = expected ≡ Ok (record { here = here; progress = p; include = include })
Steps expected here p (Err (Bad kind line)) = expected ≡ Err (Bad kind line)
Steps expected here p (Err (Lex kind line)) = expected ≡ Err (Lex kind line)
Steps expected here p (Err NoMemory) = ⊤

-- a condition is answered, with what is left, or its refusal is, or want of memory
abbrev pub Asks : Result (Bool × Progress) Refusal → Progress → Result Bool Refusal → Type 0
Asks expected new (Ok holds) = expected ≡ Ok (holds, new)
Asks expected new (Err (Bad kind line)) = expected ≡ Err (Bad kind line)
Asks expected new (Err (Lex kind line)) = expected ≡ Err (Lex kind line)
Asks expected new (Err NoMemory) = ⊤

-- a step is made, which says whether it goes on, or its refusal is answered, or want of memory
abbrev pub StepsTo : Next → Scan → Result Bool Refusal → Type 0
StepsTo next new (Ok true) = next ≡ Goes new
StepsTo next new (Ok false) = next ≡ Ends new.done new.work
StepsTo next new (Err (Bad kind line)) = next ≡ Stops (Bad kind line)
StepsTo next new (Err (Lex kind line)) = next ≡ Stops (Lex kind line)
StepsTo next new (Err NoMemory) = ⊤

-- what is expected is left, or the refusal that is expected is answered; a fault and want of memory may come too
abbrev pub Comes : {T : Type 0} → Result Progress PreError → Progress → Result T PreError → Type 0
Comes expected new (Ok t) = expected ≡ Ok new
Comes expected new (Err (error.Bad kind at)) = expected ≡ Err (error.Bad kind at)
Comes expected new (Err (error.Lex kind at)) = expected ≡ Err (error.Lex kind at)
Comes expected new (Err (error.TooLong name)) = expected ≡ Err (error.TooLong name)
Comes expected new (Err (error.Fault name)) = ⊤
Comes expected new (Err error.NoMemory) = ⊤

-- the same for an answer
abbrev pub Gives : {S : Type 0} → Result S PreError → Result S PreError → Type 0
Gives expected (Ok s) = expected ≡ Ok s
Gives expected (Err (error.Bad kind at)) = expected ≡ Err (error.Bad kind at)
Gives expected (Err (error.Lex kind at)) = expected ≡ Err (error.Lex kind at)
Gives expected (Err (error.TooLong name)) = expected ≡ Err (error.TooLong name)
Gives expected (Err (error.Fault name)) = ⊤
Gives expected (Err error.NoMemory) = ⊤

-- the text is opened and kept, or refused as expected; a fault and want of memory may come too
abbrev pub Enters : Result Source PreError → Progress → Progress → Result Source PreError → Type 0
Enters expected kept new (Ok s) = (expected ≡ Ok s) × (new ≡ kept)
Enters expected kept new (Err (error.Bad kind at)) = expected ≡ Err (error.Bad kind at)
Enters expected kept new (Err (error.Lex kind at)) = expected ≡ Err (error.Lex kind at)
Enters expected kept new (Err (error.TooLong name)) = expected ≡ Err (error.TooLong name)
Enters expected kept new (Err (error.Fault name)) = ⊤
Enters expected kept new (Err error.NoMemory) = ⊤

-- the count of the texts rises, by one, exactly with a fault
abbrev pub CountsFault : {T : Type 0} → ℕ → ℕ → Result T PreError → Type 0
CountsFault before after (Ok t) = after ≡ before
CountsFault before after (Err (error.Bad kind at)) = after ≡ before
CountsFault before after (Err (error.Lex kind at)) = after ≡ before
CountsFault before after (Err (error.TooLong name)) = after ≡ before
CountsFault before after (Err (error.Fault name)) = after ≡ before + 1
CountsFault before after (Err error.NoMemory) = after ≡ before

-- a text that cannot be read has this name
abbrev pub FailsAt : List ℕ → PreError → Type 0
FailsAt name (error.Fault failed) = failed ≡ name
FailsAt name e = ⊤

-- a text that cannot be read has this name, or one that an include can give
abbrev pub FailsBelow : List ℕ → PreError → Type 0
FailsBelow name (error.Fault failed) = (failed ≡ name) ⊎ (list_all is_path_byte failed ≡ true)
FailsBelow name e = ⊤

-- something holds of the texts by name, where it is told what they are
abbrev pub Told : Option (List ℕ → List ℕ) → ((List ℕ → List ℕ) → Type 0) → Type 0
Told texts holds = (told : List ℕ → List ℕ) → texts ≡ Some told → holds told

-- the text of a name is opened and kept
abbrev pub EntersTold : Option (List ℕ → List ℕ) → List ℕ → Progress → Progress → Result Source PreError → Type 0
EntersTold texts name old new result =
    Told texts (λ told. Enters (entered name (told name) old) (with_text name (told name) old) new result)

-- it is read, with all that it includes, of which so many may be open, one in another
abbrev pub ComesTold : {T : Type 0} → Option (List ℕ → List ℕ) → ℕ → List ℕ → Progress → Progress → Result T PreError → Type 0
ComesTold texts left name old new result =
    Told texts (λ told. Comes (text_read (below told left) name (told name) old) new result)

-- its tokens are given, behind these texts, and of it alone
abbrev pub GivesBehind : Option (List ℕ → List ℕ) → Sources → List ℕ → Result (List Token × Sources) PreError → Type 0
GivesBehind texts before file result = Told texts (λ told. Gives (preprocessed_behind before told file) result)

abbrev pub GivesTold : Option (List ℕ → List ℕ) → List ℕ → ℕ → Result Pre PreError → Type 0
GivesTold texts file used result = Told texts (λ told. Gives (preprocessed told file used) result)
