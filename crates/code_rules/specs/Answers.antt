-- What the returns of functions give.
use Rattle.std.specs.Prelude.{◌≡◌, ◌↔◌, ◌<◌, ◌≢◌, ℕ, take, Bool, true, false, List, [], ◌∷◌, length, Option, Some, None, option_map, slice_get, slice_index_or, All, AllPairs, Contains, MatchOption}
use Rattle.core_tree.specs.Sorts.{Pointer, Sort}
use Rattle.flat_code.specs.declared.instructions.Instr.{Instr}
use Rattle.flat_code.specs.declared.instructions.Op.{Op}
use Rattle.flat_code.specs.declared.instructions.Op.TheVariants as op
use Rattle.flat_code.specs.declared.program.Code.{Code}
use Rattle.flat_code.specs.declared.program.Entry.{Entry}
use Rattle.flat_code.specs.declared.program.Site.{Site}
use Rattle.flat_code.specs.Sites.{Counts, answered, has_site, site_of, HasSite}
use Rattle.flat_code.specs.Table.{chosen, register_sort}
use Rattle.flat_code.specs.WellFormed.{EachInstr, GivesTo, IsAt, handed_before}
use Rattle.code_rules.specs.Lively.{marked}
use Rattle.code_rules.specs.Operands.{sort_told}
use Rattle.code_rules.specs.Rules.{OfFunction}

-- what an operation gives as the answer of its call
abbrev pub answer_given : Op → List (Option Sort) → Option (Option Sort)
answer_given op.Return handed = Some None
answer_given op.Give [] = None
answer_given op.Give (sort ∷ more) = Some sort
answer_given o handed = None

abbrev pub answer_told : Option (Option Bool) → Option (Option Sort)
answer_told told = option_map sort_told told

abbrev pub answer_at : Code → Entry → ℕ → Instr → Option (Option Sort)
answer_at code entry point i = answer_given i.op (handed_before code entry point)

-- some instruction of a function gives an answer
pub record Answers (code : Code) (f : ℕ) (entry : Entry) (answer : Option Sort) : Type 0 where
  pub point : ℕ
  pub instr : Instr
  pub here : IsAt code f entry point instr
  pub gives : answer_at code entry point instr ≡ Some answer

-- an answer of a function, or none where it never returns
abbrev pub IsAnswer : Code → ℕ → Entry → Option (Option Bool) → Type 0
IsAnswer code f entry None = OfFunction code (λ f entry point i. answer_at code entry point i ≡ None) f entry
IsAnswer code f entry (Some told) = Answers code f entry (sort_told told)

-- an answer of each function
abbrev pub AreAnswers : Code → List (Option (Option Bool)) → Type 0
AreAnswers code told = (f : ℕ) (entry : Entry) → slice_get code.funcs f ≡ Some entry → IsAnswer code f entry (slice_index_or told f None)

-- an instruction that gives an answer gives the one that is told of its function
abbrev pub AnswersAlike : Code → List (Option (Option Bool)) → ℕ → Entry → ℕ → Instr → Type 0
AnswersAlike code told f entry point i =
    MatchOption (answer_at code entry point i) (Unit {0}) (λ answer. answer_told (slice_index_or told f None) ≡ Some answer)

-- the result of a call has a register of the sort that is told of its function
abbrev pub TakesAnswer : List (Option (Option Bool)) → Entry → Instr → Op → Type 0
TakesAnswer told entry i op.Call = MatchOption (slice_index_or told i.b None) (Unit {0}) (λ answer. GivesTo entry (sort_told answer) (chosen i))
TakesAnswer told entry i o = Unit {0}

-- Sites

-- the pins of the site at a place of the list
abbrev pub pins_at : List Site → Option ℕ → Option (List ℕ)
pins_at sites None = None
pins_at sites (Some place) = option_map (λ (site : Site). site.pins) (slice_get sites place)

-- the places of the first sites of all instructions
abbrev pub ArePlaces : Code → List (Option ℕ) → Type 0
ArePlaces code places =
    (point : ℕ) → point < length code.instrs → pins_at code.sites (slice_index_or places point None) ≡ site_of code.sites point

-- the same of the first sites of the list alone
pub record ArePlacesUpTo (code : Code) (count : ℕ) (places : List (Option ℕ)) : Type 0 where
  pub long : length places ≡ length code.instrs
  pub there : (point place : ℕ) → slice_index_or places point None ≡ Some place → place < length code.sites
  pub first : (point : ℕ) → point < length code.instrs → pins_at code.sites (slice_index_or places point None) ≡ site_of (take count code.sites) point

-- a register counts at an instruction, by marks of where it is live
pub record CountsMarked (marks : List Bool) (entry : Entry) (point : ℕ) (i : Instr) (r : ℕ) : Type 0 where
  pub sort : register_sort entry r ≡ Some Pointer
  pub live : marked marks point ≡ true
  pub kept : answered i i.op ≢ Some r

-- the pins of an instruction have a register exactly where it counts
abbrev pub PinsAgree : Code → List Bool → ℕ → Entry → ℕ → Instr → Bool → Type 0
PinsAgree code marks r entry point i true = MatchOption (site_of code.sites point) (Unit {0}) (λ pins. CountsMarked marks entry point i r ↔ Contains pins r)
PinsAgree code marks r entry point i false = Unit {0}

-- the pins of an instruction have a register exactly where it counts, by paths
abbrev pub PinsExact : Code → ℕ → Entry → ℕ → Instr → Bool → Type 0
PinsExact code r entry point i true = MatchOption (site_of code.sites point) (Unit {0}) (λ pins. Counts code entry point i r ↔ Contains pins r)
PinsExact code r entry point i false = Unit {0}

-- so it is at each instruction
abbrev pub ArePinsExact : Code → ℕ → Type 0
ArePinsExact code r = EachInstr code (λ f entry point i. PinsExact code r entry point i (has_site i.op))

-- pins ascend, and are registers
pub record AreRegisters (entry : Entry) (pins : List ℕ) : Type 0 where
  pub inside : All (λ r. r < length entry.kinds) pins
  pub ascending : AllPairs (λ one other. one < other) pins

-- an instruction has a site where it must have one, and otherwise none
abbrev pub ListsSite : Code → Entry → ℕ → Bool → Type 0
ListsSite code entry point true = MatchOption (site_of code.sites point) ⊥ (AreRegisters entry)
ListsSite code entry point false = site_of code.sites point ≡ None

-- each instruction has its site
abbrev pub AreListed : Code → Type 0
AreListed code = EachInstr code (λ f entry point i. ListsSite code entry point (has_site i.op))

-- and with the registers that count there
abbrev pub HaveSites : Code → Type 0
HaveSites code = EachInstr code (λ f entry point i. HasSite code entry point i (has_site i.op))
