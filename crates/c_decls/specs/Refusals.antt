-- Refusals, and answers that a refusal may stand for.
use Rattle.std.specs.Prelude.{◌≡◌, ℕ, Bool, List, codes, cond, Result, Ok, Err}
use Rattle.c_decls.specs.declared.refusal.TypeError.{TypeError}
use Rattle.c_decls.specs.declared.refusal.TypeError.TheVariants as e
use Rattle.c_decls.specs.declared.refusal.TypeKind.{TypeKind}
use Rattle.c_decls.specs.declared.refusal.TypeKind.TheVariants.{Undeclared, DeclaredTwice, Operands, NotLvalue, ArgumentCount, Assignment, Incomplete, NoMember, PointerInUnion, PointerAndInteger, NotConstant, StrayBreak, CaseTwice, TypeTooLarge, Format, NoMain, LeftOut, StaticTooLarge, ProgramTooLong}

-- the words of a kind
abbrev pub word_of : TypeKind → List ℕ
word_of Undeclared = codes "undeclared"
word_of DeclaredTwice = codes "declared twice"
word_of Operands = codes "operands"
word_of NotLvalue = codes "not an lvalue"
word_of ArgumentCount = codes "argument count"
word_of Assignment = codes "assignment"
word_of Incomplete = codes "incomplete"
word_of NoMember = codes "no member"
word_of PointerInUnion = codes "pointer in union"
word_of PointerAndInteger = codes "pointer and integer"
word_of NotConstant = codes "not constant"
word_of StrayBreak = codes "stray break"
word_of CaseTwice = codes "case twice"
word_of TypeTooLarge = codes "type too large"
word_of Format = codes "format"
word_of NoMain = codes "no main"
word_of LeftOut = codes "left out"
word_of StaticTooLarge = codes "static too large"
word_of ProgramTooLong = codes "program too long"

-- a kind, and the line of the node that is refused
pub record Refusal : Type 0 where
  pub kind : TypeKind
  pub line : ℕ

-- an answer, or the first refusal
abbrev pub Checked : Type 0 → Type 0
Checked A = Result A Refusal

abbrev pub refused : {A : Type 0} → TypeKind → ℕ → Checked A
refused kind line = Err (record { kind = kind; line = line })

-- what comes next, unless there was a refusal
abbrev pub then : {A B : Type 0} → Checked A → (A → Checked B) → Checked B
then (Ok answer) next = next answer
then (Err refusal) next = Err refusal

-- the answer, unless a test refuses
abbrev pub unless : {A : Type 0} → Bool → TypeKind → ℕ → Checked A → Checked A
unless test kind line answer = cond test (refused kind line) answer

-- what code answers, against what is to be answered, where it takes no memory
abbrev pub Answers : {A B : Type 0} → (A → B) → Result A TypeError → Checked B → Type 0
Answers view (Ok answer) wanted = wanted ≡ Ok (view answer)
Answers view (Err (e.Bad kind line)) wanted = wanted ≡ refused kind line
Answers view (Err e.NoMemory) wanted = ⊥

-- the same where want of memory may come at any time
abbrev pub Meets : {A B : Type 0} → (A → B) → Result A TypeError → Checked B → Type 0
Meets view (Ok answer) wanted = wanted ≡ Ok (view answer)
Meets view (Err (e.Bad kind line)) wanted = wanted ≡ refused kind line
Meets view (Err e.NoMemory) wanted = Unit {0}
