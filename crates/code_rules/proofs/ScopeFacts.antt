-- The scopes of a function, from what is known at its places.
use Rattle.std.proofs.Common.{◌≡◌, ◌<◌, ◌≤◌, ◌+◌, ◌-◌, ◌↔◌, ℕ, zero, suc, Bool, true, false, List, Option, Some, None, length, get_or, set, replicate, refl, sym, ◌∙◌, subst, arith, IsTrue}
use Rattle.std.specs.List.{Contains, slice_get}
use Rattle.std.specs.Option.{is_none}
use Rattle.std.proofs.lemmas.List.Elements.{All-contains}
use Rattle.std.proofs.lemmas.List.Sums.{count_by-le-length}
use Rattle.flat_code.specs.declared.program.Code.{Code}
use Rattle.flat_code.specs.declared.program.Entry.{Entry}
use Rattle.flat_code.specs.Table.{edges, scopes_after}
use Rattle.flat_code.specs.WellFormed.{HasScopes, Opens, end_of}
use Rattle.code_rules.specs.Scopes.{AreReached, AreSmall, Close, Fills, IsClosedAt, StaysInside, depth_at}

abbrev no_depth : Option ℕ
no_depth = None

all_none : (n q : ℕ) → get_or (replicate n no_depth) q no_depth ≡ no_depth
all_none zero q = refl
all_none (suc n) zero = refl
all_none (suc n) (suc q) = all_none n q

pub start_at : (n q s : ℕ) → 0 < n → depth_at (set (replicate n None) 0 (Some 0)) q ≡ Some s → (q ≡ 0) × (0 ≡ s)
start_at zero q s some is = absurd (omega arith)
start_at (suc n) zero s some is = (refl, cc)
start_at (suc n) (suc q) s some is = let none = all_none n q in absurd (cc)

pub start_reached : (code : Code) (f : ℕ) (entry : Entry) (n : ℕ) → 0 < n → AreReached code f entry (set (replicate n None) 0 (Some 0))
start_reached code f entry n some q s is =
    let at = start_at n q s some is in
    let place : entry.first ≡ entry.first + q = omega (arith, at.0) in
    subst (λ p. Opens code f entry p s) place (subst (λ t. Opens code f entry entry.first t) at.1 Opens.start)

pub start_known : (n : ℕ) → 0 < n → depth_at (set (replicate n None) 0 (Some 0)) 0 ≡ Some 0
start_known zero some = absurd (omega arith)
start_known (suc n) some = refl

some_same : (a b : ℕ) → Some a ≡ Some b → a ≡ b
some_same a b is = cc

-- what is open on some path is known
known : (code : Code) (f : ℕ) (entry : Entry) (depths : List (Option ℕ)) → StaysInside code f entry → entry.first + length depths ≡ end_of code f → 0 < length depths → depth_at depths 0 ≡ Some 0 →
    ((place : ℕ) → place < length depths → IsClosedAt code entry depths place) → (point scopes : ℕ) → Opens code f entry point scopes → (entry.first ≤ point) × (point < end_of code f) × (depth_at depths (point - entry.first) ≡ Some scopes)
known code f entry depths inside long some first closed point scopes Opens.start =
    let zero_is : 0 ≡ entry.first - entry.first = omega arith in
    (omega arith, omega arith, subst (λ n. depth_at depths n ≡ Some 0) zero_is first)
known code f entry depths inside long some first closed target scopes (Opens.goes point next before_scopes i before here edge) =
    let so = known code f entry depths inside long some first closed point before_scopes before in
    let low = so.0 in let high = so.1 in
    let place = point - entry.first in
    let back : entry.first + place ≡ point = omega arith in
    let there : Contains (edges i i.op (entry.first + place)) next = subst (λ n. Contains (edges i i.op n) next) (sym back) edge in
    let here_place : slice_get code.instrs (entry.first + place) ≡ Some i = subst (λ n. slice_get code.instrs n ≡ Some i) (sym back) here.here in
    let ways = All-contains (λ n. (entry.first ≤ n) × (n < end_of code f)) (edges i i.op point) next (inside point i low high here.here) edge in
    let all = closed place (omega arith) before_scopes i so.2 here_place in
    (ways.0, ways.1, All-contains (λ n. depth_at depths (n - entry.first) ≡ Some (scopes_after i.op before_scopes)) (edges i i.op (entry.first + place)) next all there)

-- the first place of many
pub start_small : (n : ℕ) → 0 < n → AreSmall (set (replicate n None) 0 (Some 0))
start_small n some q s is =
    let at = start_at n q s some is in
    let few = count_by-le-length is_none (set (replicate n no_depth) 0 (Some 0)) in
    omega (arith, at.1)

pub not_filled : (code : Code) (f : ℕ) (entry : Entry) → (HasScopes code f entry → ⊥) → IsTrue false ↔ HasScopes code f entry
not_filled code f entry fails = (λ no. absurd (cc), λ has. absurd (fails has))

pub scopes_by_places : (code : Code) (f : ℕ) (entry : Entry) (old depths : List (Option ℕ)) (b : Bool) → slice_get code.funcs f ≡ Some entry → StaysInside code f entry → entry.first + length old ≡ end_of code f → 0 < length old →
    depth_at old 0 ≡ Some 0 → Fills code f entry old depths true → (IsTrue b ↔ Close code entry depths (length depths)) → IsTrue b ↔ HasScopes code f entry
scopes_by_places code f entry old depths b function inside long some first fills both =
    let length_is = fills.0 in
    let is_known = known code f entry depths inside (omega arith) (omega arith) (fills.3 0 0 first) fills.2 in (
      λ yes. record {
        same = λ point one other a b. some_same one other (sym (is_known point one a).2 ∙ (is_known point other b).2);
        closes = λ point scopes i opens at.
            let so = is_known point scopes opens in
            let low = so.0 in let high = so.1 in
            let back : entry.first + (point - entry.first) ≡ point = omega arith in
            both.0 yes (point - entry.first) (omega arith) scopes i so.2 (subst (λ n. slice_get code.instrs n ≡ Some i) (sym back) at.here);
      },
      λ has. both.1 (λ place less scopes i is here.
          has.closes (entry.first + place) scopes i (fills.1 place scopes is) (record { function = function; from = omega arith; before = omega arith; here = here })),
    )
