-- What is said on the error stream: by lines, or in their place by one object of JSON.
use Rattle.std.specs.Prelude.{ℕ, Bool, true, false, List, [], ◌∷◌, ◌++◌, map, Option, Some, None, option_and_then, option_map, codes}
use Rattle.std.specs.List.{flat_map}
use Rattle.hs_base.specs.declared.ends.Leak.{Leak}
use Rattle.hs_base.specs.declared.ends.Reason.{Reason}
use Rattle.hs_base.specs.declared.ends.Reason.TheVariants.{Held, Again, NotStart}
use Rattle.hs_base.specs.declared.ends.Holder.{Holder}
use Rattle.hs_base.specs.declared.ends.Holder.TheVariants.{Global, Memory, Block, Register}
use Rattle.hs_base.specs.declared.ends.End.{End}
use Rattle.hs_base.specs.declared.ends.End.TheVariants.{Exit, Trap, BadFree, Escape, Spent, OutOfStack, InputFault, OutputFault}
use Rattle.core_tree.specs.declared.program.Core.{Core}
use Rattle.bad_free_report.specs.declared.form.Form.{Form}
use Rattle.bad_free_report.specs.declared.form.Form.TheVariants as form
use Rattle.bad_free_report.specs.declared.explanation.Freed.{Freed}
use Rattle.bad_free_report.specs.declared.explanation.InForce.{InForce}
use Rattle.bad_free_report.specs.declared.explanation.Known.{Known}
use Rattle.bad_free_report.specs.Explanation.{escape_help, explanation, free_help, stack_help, steps_help, trap_help}
use Rattle.bad_free_report.specs.Json.{Json, Null, Truth, Number, Text, Array, Object, items_of, members_of, number_or_null, text_or_null, written}
use Rattle.bad_free_report.specs.Report.{complaint, complaint_at, end_report, func_name, leak_text, local_name, reason_words, register_name, shown_part, static_name, trap_word, whole_line}

-- a line of a text, from 1
pub record Spot : Type 0 where
  pub line : ℕ
  pub text : List ℕ

-- how a program ended that has this core: its end, with the name and the bytes of the text in which its line stands; and what is
-- known of its run, where it is to be explained
pub record Ending : Type 0 where
  pub core : Core
  pub name : List ℕ
  pub text : List ℕ
  pub known : Option Known
  pub how : End

-- nothing; a refusal or a failure: what it is, perhaps with a word for why, perhaps of a file and at a line of it, and its status; or
-- how a program ended, the leaks that are told of, and its status
pub data Notice : Type 0 where
  Nothing : Notice
  Refused : (kind : List ℕ) (word file : Option (List ℕ)) (spot : Option Spot) (status : ℕ) → Notice
  Ended : (ending : Ending) (leaks : List Leak) (status : ℕ) → Notice

-- `: WORD`, where there is a word
abbrev pub word_text : Option (List ℕ) → List ℕ
word_text None = []
word_text (Some word) = codes ": " ++ word

-- what is of no file is said in the program's name
abbrev pub name_of : Option (List ℕ) → List ℕ
name_of None = codes "heapsafe"
name_of (Some file) = file

-- the line of a refusal, perhaps with the line of its text below it
abbrev pub refusal_lines : List ℕ → List ℕ → Option Spot → List ℕ
refusal_lines name words None = complaint name words
refusal_lines name words (Some spot) = complaint_at name spot.line words spot.text

-- by lines: behind the report of an end stands what explains it, and then a line for each leak
abbrev pub end_lines : Ending → List ℕ
end_lines e = end_report e.core e.name e.text e.how ++ explanation e.how e.known

abbrev pub lines : Notice → List ℕ
lines Nothing = []
lines (Refused kind word file spot status) = refusal_lines (name_of file) (kind ++ word_text word) spot
lines (Ended e leaks status) = end_lines e ++ flat_map leak_text leaks

-- where a pointer stands that holds a freed object: in what, its name, its function, the line where it was made, and the offset in
-- bytes, each where there is one
pub record Place : Type 0 where
  pub kind : List ℕ
  pub name : Option (List ℕ)
  pub func : Option (List ℕ)
  pub line : Option ℕ
  pub offset : Option ℕ

-- a limit, what it counts, and the option that raises it
pub record Limit : Type 0 where
  pub value : ℕ
  pub unit : List ℕ
  pub option : List ℕ

-- what an object says
pub record Facts : Type 0 where
  pub kind : List ℕ
  pub word : Option (List ℕ)
  pub status : ℕ
  pub own : Bool
  pub file : Option (List ℕ)
  pub line : Option ℕ
  pub source : Option (List ℕ)
  pub holder : Option Place
  pub freed : Option Freed
  pub help : Option (List ℕ)
  pub limit : Option Limit

-- the kind of an end
abbrev pub kind_of : End → List ℕ
kind_of (Exit code) = codes "exit"
kind_of (Trap kind line) = codes "trap"
kind_of (BadFree free holder) = codes "bad free"
kind_of (Escape f index line) = codes "escape"
kind_of Spent = codes "out of steps"
kind_of (OutOfStack line) = codes "out of stack"
kind_of InputFault = codes "input fault"
kind_of OutputFault = codes "output fault"

-- its word: of which kind a trap is, why a free is wrong, or the name of the local that escapes
abbrev pub word_of : Core → End → Option (List ℕ)
word_of core (Trap kind line) = Some (trap_word kind)
word_of core (BadFree free holder) = Some (reason_words free.reason)
word_of core (Escape f index line) = Some (local_name core f index)
word_of core e = None

-- an exit has the program's own status
abbrev pub is_own : End → Bool
is_own (Exit code) = true
is_own e = false

-- a failure of the input or the output is of no file
abbrev pub file_of : List ℕ → End → Option (List ℕ)
file_of name InputFault = None
file_of name OutputFault = None
file_of name e = Some name

-- its line, where it has one
abbrev pub line_of : End → Option ℕ
line_of (Trap kind line) = Some line
line_of (BadFree free holder) = Some free.line
line_of (Escape f index line) = Some line
line_of (OutOfStack line) = Some line
line_of e = None

-- what is shown of a line of a text
abbrev pub source_of : List ℕ → Option ℕ → Option (List ℕ)
source_of text line = option_and_then (λ n. shown_part (whole_line text n)) line

-- a register that has a name is a local, and else a value
abbrev pub register_kind : Option (List ℕ) → List ℕ
register_kind None = codes "value"
register_kind (Some name) = codes "local"

abbrev pub place_of : Core → Holder → Place
place_of core (Global index offset) =
    record { kind = codes "global"; name = Some (static_name core index); func = None; line = None; offset = Some offset }
place_of core (Memory f index offset) =
    record { kind = codes "local"; name = Some (local_name core f index); func = Some (func_name core f); line = None; offset = Some offset }
place_of core (Block line offset) =
    record { kind = codes "block"; name = None; func = None; line = Some line; offset = Some offset }
place_of core (Register f r) =
    record { kind = register_kind (register_name core f r); name = register_name core f r; func = Some (func_name core f); line = None; offset = None }

-- the first holder of an object that is freed and held
abbrev pub first_place : Core → Reason → Option Holder → Option Place
first_place core Held holder = option_map (place_of core) holder
first_place core Again holder = None
first_place core NotStart holder = None

abbrev pub holder_of : Core → End → Option Place
holder_of core (BadFree free holder) = first_place core free.reason holder
holder_of core e = None

-- what was freed at a bad free, where that is known
abbrev pub freed_of : Option Known → End → Option Freed
freed_of known (BadFree free holder) = option_and_then (λ (k : Known). k.freed) known
freed_of known e = None

-- what to mend
abbrev pub help_of : End → Option (List ℕ)
help_of (Trap kind line) = Some (trap_help kind)
help_of (BadFree free holder) = Some (free_help free.reason holder)
help_of (Escape f index line) = Some escape_help
help_of Spent = Some steps_help
help_of (OutOfStack line) = Some stack_help
help_of e = None

-- the limit at which a program ended
abbrev pub limit_of : InForce → End → Option Limit
limit_of limits Spent = Some (record { value = limits.steps; unit = codes "steps"; option = codes "--steps" })
limit_of limits (OutOfStack line) =
    Some (record { value = limits.stack; unit = codes "bytes of stack"; option = codes "--stack" })
limit_of limits e = None

abbrev pub facts_of : Ending → ℕ → Facts
facts_of e status = record {
  kind = kind_of e.how;
  word = word_of e.core e.how;
  status = status;
  own = is_own e.how;
  file = file_of e.name e.how;
  line = line_of e.how;
  source = source_of e.text (line_of e.how);
  holder = holder_of e.core e.how;
  freed = freed_of e.known e.how;
  help = help_of e.how;
  limit = option_and_then (λ (known : Known). limit_of known.limits e.how) e.known;
}

-- what it says of a refusal
abbrev pub spot_line : Option Spot → Option ℕ
spot_line spot = option_map (λ (s : Spot). s.line) spot

abbrev pub spot_source : Option Spot → Option (List ℕ)
spot_source spot = option_and_then (λ (s : Spot). shown_part (whole_line s.text s.line)) spot

abbrev pub refusal_facts : List ℕ → Option (List ℕ) → Option (List ℕ) → Option Spot → ℕ → Facts
refusal_facts kind word file spot status = record {
  kind = kind;
  word = word;
  status = status;
  own = false;
  file = file;
  line = spot_line spot;
  source = spot_source spot;
  holder = None;
  freed = None;
  help = None;
  limit = None;
}

abbrev pub place_json : Option Place → Json
place_json None = Null
place_json (Some place) =
    Object (members_of (
    (codes "kind", Text place.kind)
    ∷ (codes "name", text_or_null place.name)
    ∷ (codes "function", text_or_null place.func)
    ∷ (codes "line", number_or_null place.line)
    ∷ (codes "offset", number_or_null place.offset)
    ∷ []
    ))

abbrev pub freed_json : Option Freed → Json
freed_json None = Null
freed_json (Some freed) =
    Object (members_of (
    (codes "blocks", Number freed.blocks)
    ∷ (codes "bytes", Number freed.bytes)
    ∷ (codes "line", number_or_null freed.line)
    ∷ []
    ))

abbrev pub limit_json : Option Limit → Json
limit_json None = Null
limit_json (Some limit) =
    Object (members_of (
    (codes "value", Number limit.value)
    ∷ (codes "unit", Text limit.unit)
    ∷ (codes "option", Text limit.option)
    ∷ []
    ))

abbrev pub leak_json : Leak → Json
leak_json leak =
    Object (members_of (
    (codes "line", Number leak.line)
    ∷ (codes "blocks", Number leak.blocks)
    ∷ (codes "bytes", Number leak.bytes)
    ∷ []
    ))

-- the object: each of its members is there, and null where there is nothing to say
abbrev pub object : Facts → List Leak → Json
object f leaks =
    Object (members_of (
    (codes "kind", Text f.kind)
    ∷ (codes "word", text_or_null f.word)
    ∷ (codes "status", Number f.status)
    ∷ (codes "own", Truth f.own)
    ∷ (codes "file", text_or_null f.file)
    ∷ (codes "line", number_or_null f.line)
    ∷ (codes "source", text_or_null f.source)
    ∷ (codes "holder", place_json f.holder)
    ∷ (codes "freed", freed_json f.freed)
    ∷ (codes "help", text_or_null f.help)
    ∷ (codes "limit", limit_json f.limit)
    ∷ (codes "leaks", Array (items_of (map leak_json leaks)))
    ∷ []
    ))

-- it stands on a line of its own
abbrev pub object_line : Facts → List Leak → List ℕ
object_line f leaks = written (object f leaks) ++ codes "\n"

abbrev pub as_object : Notice → List ℕ
as_object Nothing = []
as_object (Refused kind word file spot status) = object_line (refusal_facts kind word file spot status) []
as_object (Ended e leaks status) = object_line (facts_of e status) leaks

-- what is said, in one form or the other
abbrev pub said : Form → Notice → List ℕ
said form.Lines notice = lines notice
said form.Json notice = as_object notice
