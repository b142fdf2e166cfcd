-- Sites, from their lists and from each register.
use Rattle.std.proofs.Common.{◌≡◌, ◌<◌, ◌≤◌, ◌↔◌, ℕ, Bool, true, false, List, Option, Some, None, length, map, get_or, refl, sym, subst, ⊎_elim, arith, IsTrue}
use Rattle.std.specs.List.{All, Contains}
use Rattle.std.specs.Option.{MatchOption}
use Rattle.std.proofs.lemmas.Bool.{cases_lt}
use Rattle.std.proofs.lemmas.List.{length-map}
use Rattle.std.proofs.lemmas.List.Elements.{All-contains, Contains-get_or}
use Rattle.std.proofs.lemmas.Option.{slice_get_within}
use Rattle.core_tree.specs.Sorts.{Pointer}
use Rattle.flat_code.specs.declared.instructions.Instr.{Instr}
use Rattle.flat_code.specs.declared.program.Code.{Code}
use Rattle.flat_code.specs.declared.program.Entry.{Entry}
use Rattle.flat_code.specs.Sites.{ArePins, Counts, HasSite, has_site, site_of}
use Rattle.flat_code.specs.Table.{register_sort, sort_of}
use Rattle.flat_code.specs.WellFormed.{EachInstr}
use Rattle.code_rules.specs.Answers.{AreRegisters, CountsMarked, ListsSite, PinsAgree, PinsExact}
use Rattle.code_rules.specs.Lively.{AreMarked}
use Rattle.code_rules.proofs.Entries.{each_entry}

-- Marks

counted : (code : Code) (marks : List Bool) (r : ℕ) (entry : Entry) (point : ℕ) (i : Instr) → AreMarked code r marks → CountsMarked marks entry point i r → Counts code entry point i r
counted code marks r entry point i are c = record { sort = c.sort; live = (are.exact point).0 c.live; kept = c.kept }

marked_so : (code : Code) (marks : List Bool) (r : ℕ) (entry : Entry) (point : ℕ) (i : Instr) → AreMarked code r marks → Counts code entry point i r → CountsMarked marks entry point i r
marked_so code marks r entry point i are c = record { sort = c.sort; live = (are.exact point).1 c.live; kept = c.kept }

through : (P Q R : Type 0) → (P → Q) → (Q → P) → (Q ↔ R) → (P ↔ R)
through P Q R to from both = (λ p. both.0 (to p), λ r. from (both.1 r))

exact_one : (code : Code) (marks : List Bool) (r : ℕ) (entry : Entry) (point : ℕ) (i : Instr) → AreMarked code r marks → (o : Option (List ℕ)) →
    MatchOption o (Unit {0}) (λ pins. CountsMarked marks entry point i r ↔ Contains pins r) → MatchOption o (Unit {0}) (λ pins. Counts code entry point i r ↔ Contains pins r)
exact_one code marks r entry point i are None agree = tt
exact_one code marks r entry point i are (Some pins) agree =
    through (Counts code entry point i r) (CountsMarked marks entry point i r) (Contains pins r) (marked_so code marks r entry point i are) (counted code marks r entry point i are) agree

agree_one : (code : Code) (marks : List Bool) (r : ℕ) (entry : Entry) (point : ℕ) (i : Instr) → AreMarked code r marks → (o : Option (List ℕ)) →
    MatchOption o (Unit {0}) (λ pins. Counts code entry point i r ↔ Contains pins r) → MatchOption o (Unit {0}) (λ pins. CountsMarked marks entry point i r ↔ Contains pins r)
agree_one code marks r entry point i are None agree = tt
agree_one code marks r entry point i are (Some pins) agree =
    through (CountsMarked marks entry point i r) (Counts code entry point i r) (Contains pins r) (counted code marks r entry point i are) (marked_so code marks r entry point i are) agree

exact_of : (code : Code) (marks : List Bool) (r : ℕ) (entry : Entry) (point : ℕ) (i : Instr) → AreMarked code r marks → (b : Bool) → PinsAgree code marks r entry point i b → PinsExact code r entry point i b
exact_of code marks r entry point i are true agree = exact_one code marks r entry point i are (site_of code.sites point) agree
exact_of code marks r entry point i are false agree = tt

agree_of : (code : Code) (marks : List Bool) (r : ℕ) (entry : Entry) (point : ℕ) (i : Instr) → AreMarked code r marks → (b : Bool) → PinsExact code r entry point i b → PinsAgree code marks r entry point i b
agree_of code marks r entry point i are true exact = agree_one code marks r entry point i are (site_of code.sites point) exact
agree_of code marks r entry point i are false exact = tt

pub by_marks : (code : Code) (marks : List Bool) (r : ℕ) → AreMarked code r marks → (b : Bool) → (IsTrue b ↔ EachInstr code (λ f entry point i. PinsAgree code marks r entry point i (has_site i.op))) →
    IsTrue b ↔ EachInstr code (λ f entry point i. PinsExact code r entry point i (has_site i.op))
by_marks code marks r are b both = (
  λ yes f entry point i here. exact_of code marks r entry point i are (has_site i.op) (both.0 yes f entry point i here),
  λ each. both.1 (λ f entry point i here. agree_of code marks r entry point i are (has_site i.op) (each f entry point i here)),
)

-- Lists

pointer_inside : (entry : Entry) (r : ℕ) → register_sort entry r ≡ Some Pointer → r < length entry.kinds
pointer_inside entry r is =
    let inside = slice_get_within (map sort_of entry.kinds) r Pointer is in
    let long = length-map entry.kinds sort_of in
    omega arith

contains_at : (xs : List ℕ) (k d : ℕ) → k < length xs → Contains xs (get_or xs k d)
contains_at xs k d inside = Contains-get_or xs k d inside

registers_of : (code : Code) (entry : Entry) (point : ℕ) (i : Instr) (pins : List ℕ) → ArePins code entry point i pins → AreRegisters entry pins
registers_of code entry point i pins are = record {
  inside = λ k d inside. pointer_inside entry _ ((are.exact _).1 (contains_at pins k d inside)).sort;
  ascending = are.ascending;
}

lists_of : (code : Code) (entry : Entry) (point : ℕ) (i : Instr) (b : Bool) → HasSite code entry point i b → ListsSite code entry point b
lists_of code entry point i true has =
    subst (λ (o : Option (List ℕ)). MatchOption o ⊥ (AreRegisters entry)) (sym has.1) (registers_of code entry point i has.0 has.2)
lists_of code entry point i false has = has

exact_of_site : (code : Code) (entry : Entry) (point : ℕ) (i : Instr) (r : ℕ) (b : Bool) → HasSite code entry point i b → PinsExact code r entry point i b
exact_of_site code entry point i r true has =
    subst (λ (o : Option (List ℕ)). MatchOption o (Unit {0}) (λ pins. Counts code entry point i r ↔ Contains pins r)) (sym has.1) (has.2.exact r)
exact_of_site code entry point i r false has = tt

site_found : (code : Code) (entry : Entry) (point : ℕ) (i : Instr) (most : ℕ) → length entry.kinds ≤ most → (o : Option (List ℕ)) → site_of code.sites point ≡ o → MatchOption o ⊥ (AreRegisters entry) →
    ((r : ℕ) → r < most → MatchOption o (Unit {0}) (λ pins. Counts code entry point i r ↔ Contains pins r)) → HasSite code entry point i true
site_found code entry point i most long None is lists exact = absurd lists
site_found code entry point i most long (Some pins) is lists exact = (
  pins,
  is,
  record {
    exact = λ r.
        ⊎_elim
        (λ (less : r < most). exact r less)
        (λ (past : most ≤ r). (
          λ (c : Counts code entry point i r). let inside = pointer_inside entry r c.sort in absurd (omega arith),
          λ (there : Contains pins r). let inside = All-contains (λ q. q < length entry.kinds) pins r lists.inside there in absurd (omega arith),
        ))
        (cases_lt r most);
    ascending = lists.ascending;
  },
)

site_of_both : (code : Code) (entry : Entry) (point : ℕ) (i : Instr) (most : ℕ) → length entry.kinds ≤ most → (b : Bool) → ListsSite code entry point b → ((r : ℕ) → r < most → PinsExact code r entry point i b) → HasSite code entry point i b
site_of_both code entry point i most long true lists exact = site_found code entry point i most long (site_of code.sites point) refl lists exact
site_of_both code entry point i most long false lists exact = lists

pub not_listed : (code : Code) → (EachInstr code (λ f entry point i. ListsSite code entry point (has_site i.op)) → ⊥) → IsTrue false ↔ EachInstr code (λ f entry point i. HasSite code entry point i (has_site i.op))
not_listed code fails = (λ no. absurd (cc), λ each. absurd (fails (λ f entry point i here. lists_of code entry point i (has_site i.op) (each f entry point i here))))

pub sites_right : (code : Code) (most : ℕ) → All (λ (e : Entry). length e.kinds ≤ most) code.funcs → EachInstr code (λ f entry point i. ListsSite code entry point (has_site i.op)) → (b : Bool) →
    (IsTrue b ↔ ((r : ℕ) → r < most → EachInstr code (λ f entry point i. PinsExact code r entry point i (has_site i.op)))) → IsTrue b ↔ EachInstr code (λ f entry point i. HasSite code entry point i (has_site i.op))
sites_right code most long listed b both = (
  λ yes f entry point i here.
      site_of_both code entry point i most (each_entry code (λ (e : Entry). length e.kinds ≤ most) long f entry here.function) (has_site i.op) (listed f entry point i here)
      (λ r less. both.0 yes r less f entry point i here),
  λ each. both.1 (λ r less f entry point i here. exact_of_site code entry point i r (has_site i.op) (each f entry point i here)),
)
