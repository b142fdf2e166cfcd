-- What is said of an answer, and what a fault of the outside leads to.
use Rattle.std.specs.List.{list_all}
use Rattle.c_pre.specs.Directives.{is_path_byte}
use Rattle.std.specs.Prelude.{◌≡◌, ◌≢◌, ◌⊎◌, ◌<◌, ◌≤◌, ◌+◌, ℕ, Bool, IsTrue, true, false, nat_lt, cond, List, [], ◌∷◌, ◌++◌, Contains, Option, Some, None, Result, IfOk, codes}
use Rattle.command_words.specs.Commands.{Command, OnFiles, Execute}
use Rattle.core_tree.specs.declared.program.Core.{Core}
use Rattle.bad_free_report.specs.declared.explanation.Known.{Known}
use Rattle.bad_free_report.specs.declared.form.Form.{Form}
use Rattle.bad_free_report.specs.Notice.{Ending, Notice, said}
use Rattle.bad_free_report.specs.Notice as notice
use Rattle.bad_free_report.specs.Parts.{leaks_said}
use Rattle.hs_base.specs.Object.{Object}
use Rattle.hs_base.specs.PutAll.{PutsAll}
use Rattle.hs_base.specs.declared.outside.Failed.{Failed}
use Rattle.hs_base.specs.declared.outside.Sink as sink
use Rattle.hs_base.specs.declared.ends.End.{End}
use Rattle.hs_base.specs.declared.ends.End.TheVariants.{Exit}
use Rattle.hs_base.specs.declared.ends.Leak.{Leak}
use Rattle.flat_objects.specs.Keeping.{Keeps}
use Rattle.flat_machine.specs.Machined.{Machined}
use Rattle.c_pre.specs.declared.answer.Opened.{Opened}
use Rattle.heapsafe.specs.Leaks.{AreLeaks}
use Rattle.heapsafe.specs.Program.{Input, TellsNone, input_of, status_of, steady, told_notice}
use Rattle.heapsafe.specs.Sight.{KeepsBoth, Sight}
use Rattle.heapsafe.specs.Places.{line_in, told_ending, told_leaks}
use Rattle.heapsafe.specs.declared.program.Telling as code
use Rattle.heapsafe.specs.declared.refusal.Refusal.{Refusal}
use Rattle.heapsafe.specs.declared.refusal.Refusal.TheVariants.{Usage, TextFault, TextTooLong, BadCode, Unverified, NoMemory, OutputFault}
use Rattle.heapsafe.specs.Shown.{Shown, place_of, refusal, refusal_at, input_fault, output_fault, text_fault, text_too_long, no_memory, bad_syntax, bad_type, conflicting, untokened}
use Rattle.hs_base.specs.declared.reading.ReadError.{ReadError}
use Rattle.hs_base.specs.declared.reading.ReadError.TheVariants.{Fault, TooLong}
use Rattle.hs_base.specs.declared.reading.ReadError.TheVariants as reading
use Rattle.c_decls.specs.declared.refusal.TypeError.{TypeError}
use Rattle.c_decls.specs.declared.refusal.TypeError.TheVariants as type
use Rattle.heapsafe.specs.declared.units.ProgramError.{ProgramError}
use Rattle.heapsafe.specs.declared.units.ProgramError.TheVariants as program

abbrev pub file_of : Refusal → Option (List ℕ)
file_of Usage = None
file_of (TextFault file) = Some file.now
file_of (TextTooLong file) = Some file.now
file_of (BadCode file) = Some file.now
file_of (Unverified file) = Some file.now
file_of NoMemory = None
file_of OutputFault = None

abbrev pub words_of : Refusal → List ℕ
words_of Usage = codes "bad command line"
words_of (TextFault file) = codes "cannot read"
words_of (TextTooLong file) = codes "text too long"
words_of (BadCode file) = codes "bad code"
words_of (Unverified file) = codes "unverified"
words_of NoMemory = codes "no memory"
words_of OutputFault = codes "output fault"

abbrev pub status_in : Refusal → ℕ
status_in Usage = 120
status_in (TextFault file) = 121
status_in (TextTooLong file) = 122
status_in NoMemory = 134
status_in (BadCode file) = 136
status_in (Unverified file) = 137
status_in OutputFault = 133

abbrev pub shown_of : Refusal → Shown
shown_of r = refusal (file_of r) (words_of r) (status_in r)

-- what is said where a code file was not read
abbrev pub unread : ReadError → List ℕ → Shown
unread Fault file = text_fault file
unread TooLong file = text_too_long file
unread reading.NoMemory file = no_memory

-- what is said where a program was not read
abbrev pub unmade : ProgramError → Shown
unmade (program.Text error) = untokened error
unmade (program.Syntax texts line) = bad_syntax texts line
unmade (program.Conflict texts name line) = conflicting texts (record { name = name; line = line })
unmade program.NoMemory = no_memory

-- what is said where types are refused
abbrev pub untyped : TypeError → List Opened → Shown
untyped (type.Bad kind line) opened = bad_type opened (record { kind = kind; line = line })
untyped type.NoMemory opened = no_memory

-- these bytes were taken, where what was taken is told
abbrev pub TakesAll : Option (List ℕ) → Option (List ℕ) → List ℕ → Type 0
TakesAll taken taken' bytes = (t : List ℕ) → taken ≡ Some t → taken' ≡ Some (t ++ bytes)

-- a front of them was taken
abbrev pub TakesFront : Option (List ℕ) → Option (List ℕ) → List ℕ → Type 0
TakesFront taken taken' bytes =
    (t : List ℕ) → taken ≡ Some t → (put : List ℕ) × (rest : List ℕ) × (put ++ rest ≡ bytes) × (taken' ≡ Some (t ++ put))

-- the error stream took what is said, in the form in which things are said
abbrev pub TakesSaid : {I O E : Type 0} → Sight I O E → Sight I O E → Notice → Type 0
TakesSaid before after notice = TakesAll before.said after.said (said before.form notice)

-- or a front of it
abbrev pub TakesSome : {I O E : Type 0} → Sight I O E → Sight I O E → Notice → Type 0
TakesSome before after notice = TakesFront before.said after.said (said before.form notice)

-- the error stream took it and the status is this one, or a write to it failed, it took a front of it and the status is 133
abbrev pub Says : {I O E : Type 0} → Sight I O E → Sight I O E → Notice → ℕ → ℕ → Type 0
Says before after notice status result =
    ((after.err_faults ≡ before.err_faults) × (result ≡ status) × TakesSaid before after notice)
    ⊎ ((after.err_faults ≡ before.err_faults + 1) × (result ≡ 133) × TakesSome before after notice)

-- where the input failed, its line is said
abbrev pub TellsInput : {I O E : Type 0} → Sight I O E → Sight I O E → ℕ → Type 0
TellsInput before after result = before.input_faults < after.input_faults → Says before after input_fault.err 132 result

-- where the output failed, its line is
abbrev pub TellsOutput : {I O E : Type 0} → Sight I O E → Sight I O E → ℕ → Type 0
TellsOutput before after result = before.out_faults < after.out_faults → Says before after output_fault.err 133 result

-- the line of this answer was said, with its status, and nothing was read or written
pub record SaysOnly {I O E : Type 0} (s : Shown) (before after : Sight I O E) (result : ℕ) : Type 0 where
  pub keeps : KeepsBoth before after
  pub says : Says before after s.err s.status result

-- so is a refusal at a line of a text, and at one that is counted over all texts
abbrev pub SaysAt : {I O E : Type 0} → List ℕ → ℕ → List ℕ → List ℕ → Option (List ℕ) → ℕ → Sight I O E → Sight I O E → ℕ → Type 0
SaysAt name line text kind word status before after result =
    SaysOnly (refusal_at (place_of name line text) kind word status) before after result

abbrev pub SaysIn : {I O E : Type 0} → List Opened → ℕ → List ℕ → Option (List ℕ) → ℕ → Sight I O E → Sight I O E → ℕ → Type 0
SaysIn opened line kind word status before after result =
    SaysOnly (refusal_at (line_in opened line) kind word status) before after result

-- how a program is told of: the file and the texts that are named, its core, and what is known of its run, by which its end is
-- explained
pub record Telling : Type 0 where
  pub file : List ℕ
  pub opened : List Opened
  pub core : Core
  pub asked : Option Known

-- the code's as the definition has it
abbrev pub telling_of : code.Telling → Telling
telling_of t = record { file = t.file.now; opened = t.opened.now; core = t.core.now; asked = t.asked }

-- how it ended, with the lines of their texts, and what is said of that
abbrev pub ending_told : Telling → End → Ending
ending_told t e = told_ending t.core t.file t.opened t.asked e

abbrev pub tells : Telling → End → List Leak → Notice
tells t e leaks = told_notice t.file t.opened t.core t.asked e leaks

-- a sink took what is said of each leak of the objects that a machine keeps, or a front of it where a write failed
abbrev pub PutsLeaks : {E T : Type 0} → sink.Ghosts E → Form → Machined → List Opened → E → E → Result T Failed → Type 0
PutsLeaks of form machine opened err err' result =
    (places : ℕ → ℕ) (objects : List Object) → Keeps machine.kept.memory places objects →
    (leaks : List Leak) → AreLeaks objects 0 leaks →
    PutsAll (of.taken err) (of.taken err') (leaks_said form false (told_leaks opened leaks)) result

-- or all that is said of an exit, with those leaks
abbrev pub PutsExit : {E T : Type 0} → sink.Ghosts E → Form → Telling → Machined → ℕ → E → E → Result T Failed → Type 0
PutsExit of form t machine code err err' result =
    (places : ℕ → ℕ) (objects : List Object) → Keeps machine.kept.memory places objects →
    (leaks : List Leak) → AreLeaks objects 0 leaks →
    PutsAll (of.taken err) (of.taken err') (said form (tells t (Exit code) leaks)) result

-- where all were told, there are such
abbrev pub TellsLeaks : {T : Type 0} → Machined → Result T Failed → Type 0
TellsLeaks machine result =
    (places : ℕ → ℕ) (objects : List Object) → Keeps machine.kept.memory places objects →
    IfOk result (λ _. (leaks : List Leak) × AreLeaks objects 0 leaks)

-- the error stream took no more than what is said of an exit: lines of leaks, or an object that tells of it
abbrev pub TakesExit : {I O E : Type 0} → Sight I O E → Sight I O E → Type 0
TakesExit before after =
    (ending : Ending) × (leaks : List Leak) × (code : ℕ) × (ending.how ≡ Exit code) × TakesSaid before after (notice.Ended ending leaks code)

-- where a command runs a program: the status is a program's own, and the error stream took no more than that
abbrev pub IsOwn : {I O E : Type 0} → Type 0 → Sight I O E → Sight I O E → Type 0
IsOwn RunsNone before after = (RunsNone → ⊥) × TakesExit before after

-- the status of want of memory: the error stream took its line, and input and output are as before, but where a program is
-- evaluated; or the status is a program's own
abbrev pub Wants : {I O E : Type 0} → Type 0 → Type 0 → Sight I O E → Sight I O E → ℕ → Type 0
Wants MeansNone RunsNone before after result =
    result ≡ 134 →
    ((MeansNone → KeepsBoth before after) × TakesSaid before after no_memory.err) ⊎ IsOwn RunsNone before after

-- a write to one of the two streams failed
abbrev pub WriteFails : {I O E : Type 0} → Sight I O E → Sight I O E → Type 0
WriteFails before after = (before.out_faults < after.out_faults) ⊎ (before.err_faults < after.err_faults)

-- a read of the input or a write failed
abbrev pub StreamFails : {I O E : Type 0} → Sight I O E → Sight I O E → Type 0
StreamFails before after = (before.input_faults < after.input_faults) ⊎ WriteFails before after

-- a status for a failure of the outside
abbrev pub IsFault : ℕ → Type 0
IsFault status = (status ≡ 121) ⊎ (status ≡ 132) ⊎ (status ≡ 133)

-- such a status comes where this holds, or is a program's own
abbrev pub HasCause : {I O E : Type 0} → Type 0 → Type 0 → Sight I O E → Sight I O E → ℕ → Type 0
HasCause Fails RunsNone before after result = IsFault result → Fails ⊎ IsOwn RunsNone before after

-- a status of words, of a program or of a code file that are refused
abbrev pub IsRefusal : ℕ → Type 0
IsRefusal status = (status ≡ 120) ⊎ ((136 ≤ status) × (status ≤ 139)) ⊎ ((122 ≤ status) × (status ≤ 125))

-- with such a status input and output are as before, or it is a program's own
abbrev pub Refuses : {I O E : Type 0} → Type 0 → Sight I O E → Sight I O E → ℕ → Type 0
Refuses RunsNone before after result = IsRefusal result → KeepsBoth before after ⊎ IsOwn RunsNone before after

-- no write to the error stream failed, and the status is this one; or one did, and it is 133
abbrev pub SaysCounts : {I O E : Type 0} → Sight I O E → Sight I O E → ℕ → ℕ → Type 0
SaysCounts before after status result =
    ((after.err_faults ≡ before.err_faults) × (result ≡ status))
    ⊎ ((after.err_faults ≡ before.err_faults + 1) × (result ≡ 133))

-- it took what is said of an exit with the leaks of these objects, or a front of it
pub record SaysLeaks {I O E : Type 0} (t : Telling) (objects : List Object) (before after : Sight I O E) (code result : ℕ) : Type 0 where
  pub says : (leaks : List Leak) → AreLeaks objects 0 leaks → Says before after (tells t (Exit code) leaks) code result
  pub all : after.err_faults ≡ before.err_faults → (leaks : List Leak) × AreLeaks objects 0 leaks

-- so it is for the objects that a machine keeps
abbrev pub SaysLeft : {I O E : Type 0} → Machined → Telling → Sight I O E → Sight I O E → ℕ → ℕ → Type 0
SaysLeft machine t before after code result =
    (places : ℕ → ℕ) (objects : List Object) → Keeps machine.kept.memory places objects →
    SaysLeaks t objects before after code result

-- so it is behind an exit, where leaks are asked for
abbrev pub SaysExit : {I O E : Type 0} → Bool → End → Machined → Telling → Sight I O E → Sight I O E → ℕ → Type 0
SaysExit leaks end machine t before after result =
    (code : ℕ) → IsTrue leaks → end ≡ Exit code → SaysLeft machine t before after code result

-- what is said of an end was said, without leaks
abbrev pub SaysEnd : {I O E : Type 0} → Telling → End → Sight I O E → Sight I O E → ℕ → Type 0
SaysEnd t end before after result = Says before after (tells t end []) (status_of end) result

-- so it is where no leaks are told of
abbrev pub SaysPlain : {I O E : Type 0} → Bool → Telling → End → Sight I O E → Sight I O E → ℕ → Type 0
SaysPlain leaks t end before after result = TellsNone leaks end → SaysEnd t end before after result

-- behind an exit it took no more than what is said of one, where no write to it failed
abbrev pub SaysOwn : {I O E : Type 0} → End → Sight I O E → Sight I O E → Type 0
SaysOwn end before after =
    (code : ℕ) → end ≡ Exit code → after.err_faults ≡ before.err_faults → TakesExit before after

-- the output took some bytes, of which this holds
pub record Puts (Is : Option (List ℕ) → Type 0) (o o' : Option (List ℕ)) : Type 0 where
  pub put : List ℕ
  pub is : Is (Some put)
  pub took : TakesAll o o' put

-- the input lost, and the streams took, the bytes of an answer that is as said, or of the one for want of memory; and the
-- status is its own
pub record Gives {I O E : Type 0} (Is : Shown → Type 0) (left : List ℕ) (before after : Sight I O E) (result : ℕ) : Type 0 where
  pub shown : Shown
  pub is : Is shown ⊎ (shown ≡ no_memory)
  pub rest : List ℕ
  pub is_left : after.left ≡ Some rest
  pub is_read : shown.read ++ rest ≡ left
  pub out_took : TakesAll before.taken after.taken shown.out
  pub err_took : TakesSaid before after shown.err
  pub status : result ≡ shown.status

-- so it is where the input tells its bytes and no write failed, by the answers for these bytes
abbrev pub Exactly : {I O E : Type 0} → (Input → Shown → Type 0) → Sight I O E → Sight I O E → ℕ → Type 0
Exactly Answers before after result =
    (left : List ℕ) → before.left ≡ Some left → after.out_faults ≡ before.out_faults → after.err_faults ≡ before.err_faults →
    Gives (Answers (input_of left before.input_faults after.input_faults)) left before after result

-- no count rose; or one of the output or of the error stream did, and the status is 133; or that of the texts alone, and
-- it is 121; or that of the input alone, and it is 132
abbrev pub Faults : {I O E : Type 0} → ℕ → ℕ → Sight I O E → Sight I O E → ℕ → Type 0
Faults t t' b a result =
    ((t' ≡ t) × (a.input_faults ≡ b.input_faults) × (a.out_faults ≡ b.out_faults) × (a.err_faults ≡ b.err_faults))
    ⊎ ((t ≤ t') × (b.input_faults ≤ a.input_faults) × (b.out_faults ≤ a.out_faults) × (b.err_faults ≤ a.err_faults) × WriteFails b a × (result ≡ 133))
    ⊎ ((t < t') × (a.input_faults ≡ b.input_faults) × (a.out_faults ≡ b.out_faults) × (a.err_faults ≡ b.err_faults) × (result ≡ 121))
    ⊎ ((t' ≡ t) × (b.input_faults < a.input_faults) × (a.out_faults ≡ b.out_faults) × (a.err_faults ≡ b.err_faults) × (result ≡ 132))

-- the files of the words, where a text failed
abbrev pub unread_files : Option Command → ℕ → ℕ → Option (List (List ℕ))
unread_files (Some (OnFiles files task)) t t' = cond (nat_lt t t') (Some files) None
unread_files (Some (Execute file heap stack steps leaks explain)) t t' = cond (nat_lt t t') (Some (file ∷ [])) None
unread_files asked t t' = None

-- a text is one of these files, or one that an include can name
abbrev pub IsTextOf : List (List ℕ) → List ℕ → Type 0
IsTextOf files name = Contains files name ⊎ (list_all is_path_byte name ≡ true)

-- it is said of a text that it could not be read: of one of these files, or of one that an include can name; nothing was read or
-- written
pub record SaysUnread {I O E : Type 0} (files : List (List ℕ)) (before after : Sight I O E) (result : ℕ) : Type 0 where
  pub name : List ℕ
  pub is_text : IsTextOf files name
  pub says : SaysOnly (text_fault name) before after result

-- what is said where a write failed: that the text that failed did; else that the input or the output did, where it did; or, where
-- neither did, what the answer says, or that memory was wanted
abbrev pub IsSaid : {I O E : Type 0} → Option (List (List ℕ)) → Shown → Sight I O E → Sight I O E → Notice → Type 0
IsSaid (Some files) a before after words = (name : List ℕ) × IsTextOf files name × (words ≡ (text_fault name).err)
IsSaid None a before after words =
    ((before.input_faults < after.input_faults) × (words ≡ input_fault.err))
    ⊎ ((before.out_faults < after.out_faults) × (words ≡ output_fault.err))
    ⊎ ((after.input_faults ≡ before.input_faults) × (after.out_faults ≡ before.out_faults) × ((words ≡ a.err) ⊎ (words ≡ no_memory.err)))

-- a write failed: the input lost a front of what this answer reads, the output took a front of what it writes, the error stream
-- a front of what may be said, and nothing more was written to a stream that failed
pub record Breaks {I O E : Type 0} (unread : Option (List (List ℕ))) (a : Shown) (left : List ℕ) (before after : Sight I O E) : Type 0 where
  pub lost : List ℕ
  pub kept : List ℕ
  pub more : List ℕ
  pub is_left : after.left ≡ Some kept
  pub is_lost : lost ++ kept ≡ left
  pub is_read : lost ++ more ≡ a.read
  pub out_took : TakesFront before.taken after.taken a.out
  pub words : Notice
  pub is_said : IsSaid unread a before after words
  pub err_took : TakesSome before after words
  pub out_stops : after.out_faults ≤ before.out_faults + 1
  pub err_stops : after.err_faults ≤ before.err_faults + 1

-- an answer that is more than the line of want of memory
abbrev pub SaysMore : Shown → Type 0
SaysMore a = a.err ≢ no_memory.err

-- it broke off an answer that is as said, or the line of want of memory
pub record BreaksOne {I O E : Type 0} (Is : Shown → Type 0) (unread : Option (List (List ℕ))) (left : List ℕ) (before after : Sight I O E) : Type 0 where
  pub shown : Shown
  pub is : Is shown ⊎ (shown ≡ no_memory)
  pub breaks : Breaks unread shown left before after

-- where there is one answer that is as said, it broke off that one; and else one of them
pub record BreaksOff {I O E : Type 0} (One : Type 0) (Is : Shown → Type 0) (unread : Option (List (List ℕ))) (left : List ℕ) (before after : Sight I O E) : Type 0 where
  pub each : One → (a : Shown) → Is a → SaysMore a → Breaks unread a left before after
  pub some : (One → ⊥) → BreaksOne Is unread left before after

-- so it is where the input tells its bytes and a write failed, by the answers for an input that does not fail
abbrev pub Broken : {I O E : Type 0} → Type 0 → (Input → Shown → Type 0) → Option (List (List ℕ)) → Sight I O E → Sight I O E → Type 0
Broken One Answers unread before after =
    (left : List ℕ) → before.left ≡ Some left → WriteFails before after →
    BreaksOff One (Answers (steady left)) unread left before after
