-- A loop that says whether all items of a list keep a rule.
use Rattle.std.proofs.Common.{◌≡◌, ◌<◌, ◌≤◌, ◌+◌, ◌↔◌, ℕ, zero, suc, Bool, List, length, get_or, take, true, false, IsTrue, refl, sym, subst, ⊎_elim, add-one, arith}
use Rattle.std.proofs.lemmas.Bool.{cases_lt}
use Rattle.flat_code.specs.declared.program.Site.{Site}
use Rattle.std.specs.List.{All}
use Rattle.std.proofs.lemmas.List.Elements.{All-get_or, All-more}
use Rattle.code_rules.proofs.Marks.{take_all}

pub more : {X : Type 0} (P : X → Type 0) (xs : List X) (i : ℕ) (x : X) → i < length xs → x ≡ get_or xs i x → All P (take i xs) → P x → All P (take (i + 1) xs)
more P xs i x inside is so_far holds = All-more P xs i x inside so_far (subst P is holds)

pub no_more : {X : Type 0} (P : X → Type 0) (xs : List X) (i : ℕ) (x : X) → i < length xs → x ≡ get_or xs i x → (P x → ⊥) → IsTrue false ↔ All P xs
no_more P xs i x inside is fails = (λ t. absurd (cc), λ all. absurd (fails (subst P (sym is) (All-get_or P xs i x inside all))))

pub all_of : {X : Type 0} (P : X → Type 0) (xs : List X) (i : ℕ) → length xs ≤ i → All P (take i xs) → IsTrue true ↔ All P xs
all_of P xs i end so_far = (λ t. subst (λ (l : List _). All P l) (take_all xs i end) so_far, λ all. refl)

-- what a test says that was told false
pub not_said : {P : Type 0} {b : Bool} → b ≡ false → (IsTrue b ↔ P) → P → ⊥
not_said is both holds = let e = both.1 holds in cc

pub more_at : {X : Type 0} (P : X → Type 0) (xs : List X) (i : ℕ) (d : X) → i < length xs → All P (take i xs) → P (get_or xs i d) → All P (take (i + 1) xs)
more_at P xs i d inside so_far holds = All-more P xs i d inside so_far holds

pub no_more_at : {X : Type 0} (P : X → Type 0) (xs : List X) (i : ℕ) (d : X) → i < length xs → (P (get_or xs i d) → ⊥) → IsTrue false ↔ All P xs
no_more_at P xs i d inside fails = (λ t. absurd (cc), λ all. absurd (fails (All-get_or P xs i d inside all)))

-- what ascends step by step ascends
pub ascend : (sites : List Site) → ((k : ℕ) (d : Site) → k + 1 < length sites → (get_or sites k d).instr < (get_or sites (k + 1) d).instr) → (d : Site) (i j : ℕ) → i < j → j < length sites →
    (get_or sites i d).instr < (get_or sites j d).instr
ascend sites step d i zero less inside = absurd (omega arith)
ascend sites step d i (suc j) less inside =
    let last : (get_or sites j d).instr < (get_or sites (suc j) d).instr = subst (λ n. (get_or sites j d).instr < (get_or sites n d).instr) (add-one j) (step j d (omega arith)) in
    ⊎_elim
    (λ (before : i < j). let first = ascend sites step d i j before (omega arith) in omega arith)
    (λ (past : j ≤ i). let same : i ≡ j = omega arith in subst (λ n. (get_or sites n d).instr < (get_or sites (suc j) d).instr) (sym same) last)
    (cases_lt i j)

pub whole : {X : Type 0} (P : X → Type 0) (xs : List X) (i : ℕ) → length xs ≤ i → All P (take i xs) → All P xs
whole P xs i end so_far = subst (λ (l : List _). All P l) (take_all xs i end) so_far

-- the same of another name of the list
pub transport : {X : Type 0} (P : X → Type 0) (xs ys : List X) → xs ≡ ys → (b : Bool) → (IsTrue b ↔ All P xs) → IsTrue b ↔ All P ys
transport P xs ys same b both = subst (λ (l : List _). IsTrue b ↔ All P l) same both
