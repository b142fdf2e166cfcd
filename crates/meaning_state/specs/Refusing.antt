-- How the code names refusals, and that it answers what a definition says.
use Rattle.std.specs.Prelude.{◌≡◌, List, Result, Ok, Err}
use Rattle.hs_base.specs.Access as access
use Rattle.hs_base.specs.Object.{Object}
use Rattle.meaning_state.specs.declared.refusal.Refusal.{Refusal}
use Rattle.meaning_state.specs.declared.refusal.Refusal.TheVariants.{Trapped, ReadsDead, NoMemory}

-- the definition refuses for the same cause; want of memory is free
abbrev pub Refuses : {A : Type 0} → Refusal → Result A access.Refusal → Type 0
Refuses (Trapped kind) meant = meant ≡ Err (access.Trapped kind)
Refuses ReadsDead meant = meant ≡ Err access.ReadsDead
Refuses NoMemory meant = Unit {0}

-- the code answers what the definition does
abbrev pub Answers : {A : Type 0} → Result A Refusal → Result A access.Refusal → Type 0
Answers (Ok a) meant = meant ≡ Ok a
Answers (Err e) meant = Refuses e meant

-- the objects became those of the definition
abbrev pub Changes : Result Unit Refusal → List Object → Result (List Object) access.Refusal → Type 0
Changes (Ok u) new meant = meant ≡ Ok new
Changes (Err e) new meant = Refuses e meant
