-- What is seen of an answer, and the answers that are not of a program.
use Rattle.std.specs.Prelude.{ℕ, List, [], Option, Some, None, Ok, Err, codes}
use Rattle.bad_free_report.specs.Notice.{Notice, Nothing, Refused, Spot}
use Rattle.c_lexer.specs.declared.token.LexKind.{LexKind}
use Rattle.c_lexer.specs.Words.{word_of}
use Rattle.c_pre.specs.Words as lines
use Rattle.c_pre.specs.declared.answer.Opened.{Opened}
use Rattle.c_pre.specs.declared.answer.Place.{Place}
use Rattle.c_pre.specs.declared.answer.PreError.{PreError}
use Rattle.c_pre.specs.declared.answer.PreError.TheVariants as pre
use Rattle.c_pre.specs.declared.answer.PreKind.{PreKind}
use Rattle.c_tree.specs.Tree.{Trees}
use Rattle.c_tree.specs.Canonical.{canonical}
use Rattle.c_types.specs.TagTable.{TagTable}
use Rattle.c_decls.specs.Refusals.{Checked, Refusal}
use Rattle.c_decls.specs.Refusals as types
use Rattle.c_units.specs.Merge.{Conflict}
use Rattle.core_tree.specs.declared.program.Core.{Core}
use Rattle.core_tree.specs.Listing.{listing}
use Rattle.layout_list.specs.Listing.{layout_listing}
use Rattle.live_list.specs.Listing.{live_listing}
use Rattle.heapsafe.specs.Places.{line_in}

-- the bytes that are read from the input and those that are written to the output, what is said on the error stream, and the status
pub record Shown : Type 0 where
  pub read : List ℕ
  pub out : List ℕ
  pub err : Notice
  pub status : ℕ

-- something is said on the error stream alone: what is refused or failed, perhaps with a word for why, perhaps of a file and at a
-- line of it
abbrev pub says_refused : List ℕ → Option (List ℕ) → Option (List ℕ) → Option Spot → ℕ → Shown
says_refused kind word file spot status =
    record { read = []; out = []; err = Refused kind word file spot status; status = status }

-- at no line
abbrev pub refusal : Option (List ℕ) → List ℕ → ℕ → Shown
refusal file kind status = says_refused kind None file None status

-- a line of a text with this name
abbrev pub place_of : List ℕ → ℕ → List ℕ → Place
place_of name line text = record { name = name; line = line; text = text }

-- one at a line of a text, which is shown with it
abbrev pub refusal_at : Place → List ℕ → Option (List ℕ) → ℕ → Shown
refusal_at at kind word status =
    says_refused kind word (Some at.name) (Some (record { line = at.line; text = at.text })) status

abbrev pub usage : Shown
usage = refusal None (codes "bad command line") 120

-- a text, the input, or the output failed
abbrev pub text_fault : List ℕ → Shown
text_fault file = refusal (Some file) (codes "cannot read") 121

abbrev pub input_fault : Shown
input_fault = refusal None (codes "input fault") 132

abbrev pub output_fault : Shown
output_fault = refusal None (codes "output fault") 133

abbrev pub text_too_long : List ℕ → Shown
text_too_long file = refusal (Some file) (codes "text too long") 122

-- bytes that are those of no code file, and code that is not well formed
abbrev pub bad_code : List ℕ → Shown
bad_code file = refusal (Some file) (codes "bad code") 136

abbrev pub unverified : List ℕ → Shown
unverified file = refusal (Some file) (codes "unverified") 137

abbrev pub bad_line : PreKind → Place → Shown
bad_line kind at = refusal_at at (codes "preprocess") (Some (lines.word_of kind)) 138

abbrev pub bad_place : LexKind → Place → Shown
bad_place kind at = refusal_at at (codes "lex") (Some (word_of kind)) 123

abbrev pub bad_syntax : List Opened → ℕ → Shown
bad_syntax opened line = refusal_at (line_in opened line) (codes "syntax") None 124

-- two units say what may not be said of one name twice. What a unit has for itself is in no conflict, so the name has no suffix
abbrev pub conflicting : List Opened → Conflict → Shown
conflicting opened conflict = refusal_at (line_in opened conflict.line) (codes "conflict") (Some conflict.name) 139

abbrev pub bad_type : List Opened → Refusal → Shown
bad_type opened refusal =
    refusal_at (line_in opened refusal.line) (codes "type") (Some (types.word_of refusal.kind)) 125

abbrev pub no_memory : Shown
no_memory = refusal None (codes "no memory") 134

-- a text on the output alone
abbrev pub written : List ℕ → Shown
written text = record { read = []; out = text; err = Nothing; status = 0 }

-- the canonical spelling, the layouts of structs and unions, the functions of the core, and the registers that are live after
-- each point of it
abbrev pub printed : Trees → Shown
printed externals = written (canonical externals)

abbrev pub layouts_shown : List Opened → Checked TagTable → Shown
layouts_shown opened (Ok tags) = written (layout_listing tags)
layouts_shown opened (Err refusal) = bad_type opened refusal

abbrev pub core_shown : List Opened → Checked Core → Shown
core_shown opened (Ok core) = written (listing core)
core_shown opened (Err refusal) = bad_type opened refusal

abbrev pub live_shown : List Opened → Checked Core → Shown
live_shown opened (Ok core) = written (live_listing core)
live_shown opened (Err refusal) = bad_type opened refusal

-- what is said where a file has no tokens
abbrev pub untokened : PreError → Shown
untokened (pre.Bad kind at) = bad_line kind at
untokened (pre.Lex kind at) = bad_place kind at
untokened (pre.Fault name) = text_fault name
untokened (pre.TooLong name) = text_too_long name
untokened pre.NoMemory = no_memory
