-- What is kept beside a list, so that its members are found at once.
use Rattle.std.specs.Prelude.{◌≡◌, ℕ, ℤ, nat_eq}
use Rattle.std.specs.List.{list_any}
use Rattle.std.specs.Ordering.{int_eq}
use Rattle.std.specs.HashSet.{contains}
use Rattle.elab_base.specs.declared.cases.CaseList.TheInside.{Inside as CasesInside}
use Rattle.elab_base.specs.declared.number_set.NumberSet.TheInside.{Inside as NumbersInside}

-- the set has the values of the cases
abbrev pub HasValues : CasesInside → Type 0
HasValues s = (v : ℤ) → contains int_eq s.values v ≡ list_any (λ x. int_eq x.0 v) s.cases.items

-- the set has the numbers of the list
abbrev pub HasNumbers : NumbersInside → Type 0
HasNumbers s = (n : ℕ) → contains nat_eq s.set n ≡ list_any (λ other. nat_eq other n) s.list.items
