-- Lines of the texts that were opened. Below the tokens a line is counted over all of them, in the order in which they were
-- opened; what is said names a text and counts in it.
use Rattle.std.specs.Prelude.{ℕ, ◌-◌, nat_lt, cond, List, [], ◌∷◌, map, Option, Some, None, option_map}
use Rattle.hs_base.specs.declared.ends.BadFree.{BadFree as WrongFree}
use Rattle.hs_base.specs.declared.ends.End.{End}
use Rattle.hs_base.specs.declared.ends.End.TheVariants.{Exit, Trap, BadFree, Escape, Spent, OutOfStack, InputFault, OutputFault}
use Rattle.hs_base.specs.declared.ends.Holder.{Holder}
use Rattle.hs_base.specs.declared.ends.Holder.TheVariants.{Global, Memory, Block, Register}
use Rattle.hs_base.specs.declared.ends.Leak.{Leak}
use Rattle.bad_free_report.specs.Notice.{Ending}
use Rattle.bad_free_report.specs.declared.explanation.Freed.{Freed}
use Rattle.bad_free_report.specs.declared.explanation.Known.{Known}
use Rattle.c_pre.specs.declared.answer.Opened.{Opened}
use Rattle.c_pre.specs.declared.answer.Place.{Place}
use Rattle.core_tree.specs.declared.program.Core.{Core}

-- the last of some texts that begins before a line, or the one before them
abbrev pub last_before : Option Opened → List Opened → ℕ → Option Opened
last_before found [] line = found
last_before found (t ∷ opened) line = last_before (cond (nat_lt t.base line) (Some t) found) opened line

-- the text that a line stands in
abbrev pub text_of : List Opened → ℕ → Option Opened
text_of opened line = last_before None opened line

-- a line of a text
abbrev pub line_of : Option Opened → ℕ → Place
line_of None line = record { name = []; line = line; text = [] }
line_of (Some t) line = record { name = t.name; line = line - t.base; text = t.text }

-- a line of the texts, in its text
abbrev pub line_in : List Opened → ℕ → Place
line_in opened line = line_of (text_of opened line) line

-- its number there
abbrev pub told_line : List Opened → ℕ → ℕ
told_line opened line = (line_in opened line).line

-- a holder, a bad free, an end and a leak with lines of their texts
abbrev pub told_holder : List Opened → Holder → Holder
told_holder opened (Block line offset) = Block (told_line opened line) offset
told_holder opened (Global index offset) = Global index offset
told_holder opened (Memory func index offset) = Memory func index offset
told_holder opened (Register func index) = Register func index

abbrev pub told_free : List Opened → WrongFree → WrongFree
told_free opened free = record { reason = free.reason; line = told_line opened free.line }

abbrev pub told_end : List Opened → End → End
told_end opened (Trap kind line) = Trap kind (told_line opened line)
told_end opened (BadFree free holder) = BadFree (told_free opened free) (option_map (told_holder opened) holder)
told_end opened (Escape func local line) = Escape func local (told_line opened line)
told_end opened (OutOfStack line) = OutOfStack (told_line opened line)
told_end opened (Exit code) = Exit code
told_end opened Spent = Spent
told_end opened InputFault = InputFault
told_end opened OutputFault = OutputFault

abbrev pub told_leak : List Opened → Leak → Leak
told_leak opened leak = record { line = told_line opened leak.line; blocks = leak.blocks; bytes = leak.bytes }

-- the line of an end, where it has one
abbrev pub line_of_end : End → Option ℕ
line_of_end (Trap kind line) = Some line
line_of_end (BadFree free holder) = Some free.line
line_of_end (Escape func local line) = Some line
line_of_end (OutOfStack line) = Some line
line_of_end e = None

-- the place that is named of it: of an end without a line the file that was asked for
abbrev pub named_place : List ℕ → List Opened → Option ℕ → Place
named_place file opened None = record { name = file; line = 0; text = [] }
named_place file opened (Some line) = line_in opened line

-- what is known of a run, with the line of its text
abbrev pub told_freed : List Opened → Freed → Freed
told_freed opened freed =
    record { blocks = freed.blocks; bytes = freed.bytes; line = option_map (told_line opened) freed.line }

abbrev pub told_known : List Opened → Known → Known
told_known opened known =
    record { limits = known.limits; freed = option_map (told_freed opened) known.freed }

-- how a program ended, with the lines of their texts
abbrev pub told_ending : Core → List ℕ → List Opened → Option Known → End → Ending
told_ending core file opened asked e =
    let at = named_place file opened (line_of_end e) in
    record { core = core; name = at.name; text = at.text; known = option_map (told_known opened) asked; how = told_end opened e }

-- leaks with them
abbrev pub told_leaks : List Opened → List Leak → List Leak
told_leaks opened leaks = map (told_leak opened) leaks
