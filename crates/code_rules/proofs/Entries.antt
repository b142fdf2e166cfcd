-- Rules of all functions.
use Rattle.std.proofs.Common.{◌≡◌, ◌<◌, ◌≤◌, ◌+◌, ◌↔◌, ◌∙◌, ℕ, zero, suc, List, [], ◌∷◌, Option, Some, None, length, get_or, refl, sym, ap, subst, ⊎_elim, true, false, IsTrue, add-one, below_more, arith}
use Rattle.std.specs.List.{All, slice_get}
use Rattle.std.specs.Option.{option_map_or}
use Rattle.std.proofs.lemmas.Bool.{cases_lt}
use Rattle.std.proofs.lemmas.List.Elements.{All-get_or}
use Rattle.std.proofs.lemmas.Option.{get_or_from_slice_get, slice_get-get_or, slice_get_within}
use Rattle.flat_code.specs.declared.instructions.Instr.{Instr}
use Rattle.flat_code.specs.declared.program.Code.{Code}
use Rattle.flat_code.specs.declared.program.Entry.{Entry}
use Rattle.flat_code.specs.WellFormed.{EachEntry, IsAt, end_of}
use Rattle.code_rules.specs.Functions.{IsOfFunction, OfEntry}

pub each_entry : (code : Code) (P : Entry → Type 0) → All P code.funcs → EachEntry code (λ f e. P e)
each_entry code P all f e here =
    subst P (get_or_from_slice_get code.funcs f e e here) (All-get_or P code.funcs f e (slice_get_within code.funcs f e here) all)

pub all_entries : (code : Code) (P : Entry → Type 0) → EachEntry code (λ f e. P e) → All P code.funcs
all_entries code P each = λ k d inside. each k (get_or code.funcs k d) (slice_get-get_or code.funcs k d inside)

-- A loop over functions

pub entries_more : (code : Code) (P : ℕ → Entry → Type 0) (n : ℕ) → ((f : ℕ) → f < n → OfEntry code P f) → OfEntry code P n → (f : ℕ) → f < n + 1 → OfEntry code P f
entries_more code P n so_far one = below_more (OfEntry code P) n so_far one

pub entries_no : (code : Code) (P : ℕ → Entry → Type 0) (n : ℕ) → (OfEntry code P n → ⊥) → IsTrue false ↔ EachEntry code P
entries_no code P n fails = (λ no. absurd (cc), λ each. absurd (fails (each n)))

pub entries_all : (code : Code) (P : ℕ → Entry → Type 0) (n : ℕ) → length code.funcs ≤ n → ((f : ℕ) → f < n → OfEntry code P f) → IsTrue true ↔ EachEntry code P
entries_all code P n end all = (λ yes f entry here. let inside = slice_get_within code.funcs f entry here in all f (omega arith) entry here, λ each. refl)

-- The functions stand side by side

item_at : {X : Type 0} (xs : List X) (k : ℕ) → k < length xs → (x : X) × (slice_get xs k ≡ Some x)
item_at [] k h = absurd (omega arith)
item_at (x ∷ xs) zero h = (x, refl)
item_at (x ∷ xs) (suc k) h = item_at xs k (omega arith)

-- an instruction behind the start of a function is of that one or of one behind it
pub of_some : (code : Code) (point n f : ℕ) (entry : Entry) → point < length code.instrs → length code.funcs ≤ f + n → slice_get code.funcs f ≡ Some entry → entry.first ≤ point → IsOfFunction code point
of_some code point zero f entry inside few here from =
    let there = slice_get_within code.funcs f entry here in absurd (omega arith)
of_some code point (suc n) f entry inside few here from =
    next (λ other is past. of_some code point n (f + 1) other inside (omega (arith, few)) is past) (slice_get code.funcs (f + 1)) refl where
      i : (i : Instr) × (slice_get code.instrs point ≡ Some i)
      i = item_at code.instrs point inside

      next : ((other : Entry) → slice_get code.funcs (f + 1) ≡ Some other → other.first ≤ point → IsOfFunction code point) → (o : Option Entry) → slice_get code.funcs (f + 1) ≡ o → IsOfFunction code point
      next behind None is =
          let end : end_of code f ≡ length code.instrs = ap (λ (o : Option Entry). option_map_or (λ (e : Entry). e.first) o (length code.instrs)) is in
          (f, entry, i.0, record { function = here; from = from; before = omega (arith, end, inside); here = i.1 })
      next behind (Some other) is =
          let end : end_of code f ≡ other.first = ap (λ (o : Option Entry). option_map_or (λ (e : Entry). e.first) o (length code.instrs)) is in
          ⊎_elim
          (λ (less : point < other.first). (f, entry, i.0, record { function = here; from = from; before = omega (arith, end, less); here = i.1 }))
          (λ (past : other.first ≤ point). behind other is past)
          (cases_lt point other.first)

-- no function stands before the first one
pub first_before : (code : Code) → EachEntry code (λ f e. e.first < end_of code f) → (first : Entry) → slice_get code.funcs 0 ≡ Some first → (f : ℕ) (entry : Entry) → slice_get code.funcs f ≡ Some entry → first.first ≤ entry.first
first_before code ascend first is zero entry here = let same : first ≡ entry = cc in omega (arith, ap (λ (e : Entry). e.first) same)
first_before code ascend first is (suc f) entry here =
    let inside = slice_get_within code.funcs (suc f) entry here in
    let one = item_at code.funcs f (omega arith) in
    let before = first_before code ascend first is f one.0 one.1 in
    let next : slice_get code.funcs (f + 1) ≡ Some entry = ap (slice_get code.funcs) (add-one f) ∙ here in
    let end : end_of code f ≡ entry.first = ap (λ (o : Option Entry). option_map_or (λ (e : Entry). e.first) o (length code.instrs)) next in
    omega (arith, before, ascend f one.0 one.1, end)

pub of_none : (code : Code) (point : ℕ) → slice_get code.funcs 0 ≡ None → IsOfFunction code point → ⊥
of_none code point none of =
    let at : IsAt code of.0 of.1 point of.2 = of.3 in
    let inside = slice_get_within code.funcs of.0 of.1 at.function in
    let one = item_at code.funcs 0 (omega arith) in
    (let no : Some one.0 ≡ None = sym one.1 ∙ none in cc)

pub of_within : (code : Code) (point : ℕ) → IsOfFunction code point → point < length code.instrs
of_within code point of = let at : IsAt code of.0 of.1 point of.2 = of.3 in slice_get_within code.instrs point of.2 at.here

pub of_behind : (code : Code) (point : ℕ) → EachEntry code (λ f e. e.first < end_of code f) → (first : Entry) → slice_get code.funcs 0 ≡ Some first → IsOfFunction code point → first.first ≤ point
of_behind code point ascend first is of =
    let at : IsAt code of.0 of.1 point of.2 = of.3 in
    let before = first_before code ascend first is of.0 of.1 at.function in
    omega (arith, before, at.from)
