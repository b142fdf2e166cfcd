-- What the walk over an expression answers and leaves.
use Rattle.std.specs.Prelude.{◌≡◌, ℕ, List, ◌++◌, Result, Ok, Err, is_some}
use Rattle.c_types.specs.declared.tags.TagInfo.{TagInfo}
use Rattle.c_types.specs.TagTable.{TagTable}
use Rattle.c_decls.specs.declared.refusal.TypeError.{TypeError}
use Rattle.c_decls.specs.declared.refusal.TypeError.TheVariants as e
use Rattle.c_decls.specs.declared.refusal.TypeKind.TheVariants.{DeclaredTwice}
use Rattle.c_decls.specs.Named.{PlainNamed, Object, Function, Typedef}
use Rattle.c_decls.specs.ScopeList.{ScopeList, named_in, innermost, with_name}
use Rattle.c_decls.specs.Refusals.{Checked, refused, unless}
use Rattle.c_decls.specs.TypeNames.{Context}
use Rattle.c_typing.specs.declared.typer.Typer.{Typer}

-- tags with new ones behind them
abbrev pub with_new : TagTable → List TagInfo → TagTable
with_new tags new = record { made = tags.made ++ new; completed = tags.completed }

-- where the walk is, over the tags that stood before it
abbrev pub context_of : Typer → TagTable → Context
context_of typer tags = record { scopes = typer.scopes; tags = with_new tags typer.new_tags.items }

-- scopes and tags at a place of a text
abbrev pub here : ScopeList → TagTable → Context
here scopes tags = record { scopes = scopes; tags = tags }

-- the answer with the context behind it, or the refusal; nothing is said where memory ran out
abbrev pub Walks : {A B : Type 0} → (A → B) → Context → Result A TypeError → Checked (Context × B) → Type 0
Walks view context (Ok answer) wanted = wanted ≡ Ok (context, view answer)
Walks view context (Err (e.Bad kind line)) wanted = wanted ≡ refused kind line
Walks view context (Err e.NoMemory) wanted = Unit {0}

-- what the innermost scope never takes again where it has its name
abbrev pub IsNeverAgain : PlainNamed → Type 0
IsNeverAgain (Object type index) = ⊥
IsNeverAgain (Function type index) = ⊥
IsNeverAgain (Typedef type) = ⊥
IsNeverAgain _ = Unit {0}

-- scopes with such a name, which the innermost must not have
abbrev pub declared : ℕ → List ℕ → PlainNamed → ScopeList → Checked ScopeList
declared line name named scopes =
    unless (is_some (named_in name (innermost scopes))) DeclaredTwice line (Ok (with_name scopes name named))
