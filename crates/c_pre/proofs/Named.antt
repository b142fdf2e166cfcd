-- A text that cannot be read is the one that was asked for, or has a name that an include can give.
use Rattle.std.proofs.Common.{◌≡◌, ℕ, true, List, inl, inr, ⊎_elim, ◌∙◌, ap}
use Rattle.std.specs.List.{list_all}
use Rattle.c_pre.specs.Answering.{FailsAt, FailsBelow}
use Rattle.c_pre.specs.Directives.{is_path_byte}
use Rattle.c_pre.specs.Texts.{refused}
use Rattle.c_pre.specs.declared.answer.PreError.{PreError}
use Rattle.c_pre.specs.declared.answer.PreError.TheVariants as error
use Rattle.c_pre.specs.declared.answer.Refusal.{Refusal}
use Rattle.c_pre.specs.declared.answer.Refusal.TheVariants.{Bad, Lex, NoMemory}
use Rattle.c_pre.specs.declared.preprocessor.Source.{Source}

pub refused_named : (name : List ℕ) (s : Source) (e : Refusal) → FailsBelow name (refused s e)
refused_named name s (Bad kind line) = tt
refused_named name s (Lex kind line) = tt
refused_named name s NoMemory = tt

pub at_below : (name : List ℕ) (e : PreError) → FailsAt name e → FailsBelow name e
at_below name (error.Fault failed) h = inl h
at_below name (error.Bad kind at) h = tt
at_below name (error.Lex kind at) h = tt
at_below name (error.TooLong long) h = tt
at_below name error.NoMemory h = tt

pub include_named : (name inner : List ℕ) (e : PreError) → list_all is_path_byte inner ≡ true → FailsBelow inner e → FailsBelow name e
include_named name inner (error.Fault failed) path h =
    ⊎_elim (λ same. inr (ap (list_all is_path_byte) same ∙ path)) (λ other. inr other) h
include_named name inner (error.Bad kind at) path h = tt
include_named name inner (error.Lex kind at) path h = tt
include_named name inner (error.TooLong long) path h = tt
include_named name inner error.NoMemory path h = tt
