-- The lines that explain how a run ended, behind those of its report: what was freed, what to mend, and the limit that was in force.
use Rattle.std.specs.Prelude.{List, [], ◌++◌, ℕ, Option, Some, None, codes, decimal}
use Rattle.hs_base.specs.declared.ends.TrapKind.{TrapKind}
use Rattle.hs_base.specs.declared.ends.TrapKind.TheVariants.{Null, Bounds, Align, Layout, Range, Objects, Divide, Shift, Abort}
use Rattle.hs_base.specs.declared.ends.Reason.{Reason}
use Rattle.hs_base.specs.declared.ends.Reason.TheVariants.{Held, Again, NotStart}
use Rattle.hs_base.specs.declared.ends.Holder.{Holder}
use Rattle.hs_base.specs.declared.ends.Holder.TheVariants.{Global, Memory, Block, Register}
use Rattle.hs_base.specs.declared.ends.End.{End}
use Rattle.hs_base.specs.declared.ends.End.TheVariants.{Exit, Trap, BadFree, Escape, Spent, OutOfStack, InputFault, OutputFault}
use Rattle.bad_free_report.specs.declared.explanation.Freed.{Freed}
use Rattle.bad_free_report.specs.declared.explanation.InForce.{InForce}
use Rattle.bad_free_report.specs.declared.explanation.Known.{Known}

-- the line that says what to mend
abbrev pub help_line : List ℕ → List ℕ
help_line words = codes "    help: " ++ (words ++ codes "\n")

-- the line that says a limit, and what raises it
abbrev pub limit_line : ℕ → List ℕ → List ℕ
limit_line n words = codes "    limit: " ++ (decimal n ++ (words ++ codes "\n"))

-- what to mend where an object is held, by where the first pointer to it stands
abbrev pub holder_help : Option Holder → List ℕ
holder_help None = codes "clear the pointer that is left before the free"
holder_help (Some (Global index offset)) =
    codes "clear the pointer in this variable before the free, or free and clear it in one __delay_frees block"
holder_help (Some (Memory func index offset)) =
    codes "clear the pointer in this local before the free, or free and clear it in one __delay_frees block"
holder_help (Some (Block line offset)) =
    codes "free both objects in one __delay_frees block, or clear the pointer in the other object first"
holder_help (Some (Register func index)) =
    codes "it is read again behind the free: read what is wanted before it, in a statement of its own"

-- what to mend at a bad free
abbrev pub free_help : Reason → Option Holder → List ℕ
free_help Held holder = holder_help holder
free_help Again holder = codes "free the object once: it is freed already in this __delay_frees block"
free_help NotStart holder = codes "free the pointer that malloc, calloc or realloc gave, and no other"

-- what to mend at a trap
abbrev pub trap_help : TrapKind → List ℕ
trap_help Null = codes "make the pointer point to an object, or test it for NULL first; malloc gives NULL where the heap is full"
trap_help Bounds = codes "stay inside the object: the indices of n elements are 0 to n - 1"
trap_help Align = codes "move the pointer by whole elements, or copy the bytes by memcpy"
trap_help Layout = codes "read and write the object by the type that it was made for: pointers as pointers, integers as integers"
trap_help Range = codes "keep the pointer inside its object or just behind its end: count by an index"
trap_help Objects = codes "compare by < and subtract only pointers into one object"
trap_help Divide = codes "test the divisor for 0 first"
trap_help Shift = codes "keep the count at 0 or more, and below the number of bits"
trap_help Abort = codes "the program stopped itself: look for what led to this call of abort"

-- what to mend at an escape, and where the steps or the stack are used up
abbrev pub escape_help : List ℕ
escape_help = codes "the local ends here: take the object from malloc, let the caller pass it in, or make it a variable at file scope"

abbrev pub steps_help : List ℕ
steps_help = codes "look for a loop or a recursion that does not end, or allow more steps"

abbrev pub stack_help : List ℕ
stack_help = codes "look for a recursion that does not end, take large arrays from malloc, or allow more stack"

-- the line that says which block was freed, where it is one, and of which it is one, where they are several
abbrev pub freed_block : ℕ → ℕ → List ℕ
freed_block line bytes =
    codes "    freed: block of line " ++ (decimal line ++ (codes ", " ++ (decimal bytes ++ codes " bytes\n")))

abbrev pub freed_one_of : ℕ → ℕ → List ℕ
freed_one_of blocks bytes =
    codes "    freed: one of " ++ (decimal blocks ++ (codes " blocks, " ++ (decimal bytes ++ codes " bytes together\n")))

abbrev pub freed_line : Option ℕ → Freed → List ℕ
freed_line (Some line) freed = freed_block line freed.bytes
freed_line None freed = freed_one_of freed.blocks freed.bytes

abbrev pub freed_lines : Option Freed → List ℕ
freed_lines None = []
freed_lines (Some freed) = freed_line freed.line freed

-- what was freed, and what to mend
abbrev pub bad_free_lines : Option Freed → List ℕ → List ℕ
bad_free_lines freed words = freed_lines freed ++ help_line words

-- what to mend, and the limit that was in force
abbrev pub spent_lines : InForce → List ℕ
spent_lines limits = help_line steps_help ++ limit_line limits.steps (codes " steps, raised by --steps")

abbrev pub stack_lines : InForce → List ℕ
stack_lines limits = help_line stack_help ++ limit_line limits.stack (codes " bytes of stack, raised by --stack")

-- the lines for each kind of end; none of an exit, and none where the input or the output failed, since nothing of the program is
-- to be mended
abbrev pub explained : Known → End → List ℕ
explained known (Exit code) = []
explained known (Trap kind line) = help_line (trap_help kind)
explained known (BadFree free holder) = bad_free_lines known.freed (free_help free.reason holder)
explained known (Escape f index line) = help_line escape_help
explained known Spent = spent_lines known.limits
explained known (OutOfStack line) = stack_lines known.limits
explained known InputFault = []
explained known OutputFault = []

-- the lines, where they are asked for
abbrev pub explanation : End → Option Known → List ℕ
explanation (Exit code) asked = []
explanation InputFault asked = []
explanation OutputFault asked = []
explanation e None = []
explanation e (Some known) = explained known e
