-- One step of a loop more.
use Rattle.std.proofs.Common.{◌≡◌, ℕ, ◌+◌, ◌<◌, ◌≤◌, List, [], ◌∷◌, ◌++◌, map, refl, ap, sym, ◌∙◌, length, get_or, take, Some, arith, ⊎_elim, zero, suc}
use Rattle.std.proofs.lemmas.List.{map-append, append-nil}
use Rattle.core_tree.specs.declared.statements.Atom.{Atom}
use Rattle.core_tree.specs.declared.statements.Atom.TheVariants.{Int}
use Rattle.core_tree.specs.declared.program.Func.{Func}
use Rattle.core_tree.specs.declared.statements.Stm.{Stm}
use Rattle.core_tree.specs.declared.statements.StmKind.{StmKind}
use Rattle.core_tree.specs.declared.statements.StmKind.TheVariants.{Off, Copy, Clear, Case}
use Rattle.core_tree.specs.Statements.{operands}
use Rattle.core_tree.specs.Sound.{own_numbers}
use Rattle.object_meaning.specs.compiled.Handing.{hand_of, handed_atoms}
use Rattle.object_meaning.specs.compiled.Places.{body_length}
use Rattle.flat_code.specs.declared.program.Code.{Code}
use Rattle.object_meaning.specs.counted.Pinning.{pins_in}
use Rattle.count_insertion.specs.Inserted.{func_pins}
use Rattle.flat_codegen.specs.Emitting.{with_instrs, with_statement, with_point, place_from}
use Rattle.flat_codegen.specs.Placing.{place_at}
use Rattle.flat_codegen.proofs.Adding.{instrs_twice}
use Rattle.flat_codegen.proofs.Gets.{take_one_more}
use Rattle.flat_codegen.proofs.Numbering.{numbered_next}
use Rattle.std.specs.Prelude.{slice_get, fold}
use Rattle.std.specs.List.{enumerate_from, range_with_len}
use Rattle.std.proofs.lemmas.List.Sums.{fold_push}
use Rattle.std.proofs.lemmas.List.{take_all, get_or_past, get_or_default}
use Rattle.std.proofs.lemmas.Option.{unwrap_or-slice_get, slice_get_read}
use Rattle.std.proofs.lemmas.Bool.{cases_lt}

-- one operand more is handed over
pub hands_more : (code : Code) (line : ℕ) (atoms : List Atom) (place : ℕ) (atom : Atom) → slice_get atoms place ≡ Some atom →
    with_instrs (with_instrs code line (map hand_of (take place atoms))) line (hand_of atom ∷ []) ≡ with_instrs code line (map hand_of (take (place + 1) atoms))
hands_more code line atoms place atom e =
    let more : map hand_of (take place atoms) ++ hand_of atom ∷ [] ≡ map hand_of (take (place + 1) atoms) =
    sym (map-append hand_of (take place atoms) (atom ∷ [])) ∙ ap (map hand_of) (sym (take_one_more atoms place atom e)) in
    instrs_twice code line (map hand_of (take place atoms)) (hand_of atom ∷ []) ∙ ap (with_instrs code line) more

-- the places of a whole body
pub places_whole : (points : List ℕ) (end first : ℕ) (body : List Stm) → length points ≡ length body → end ≡ first + body_length body →
    ((k : ℕ) → k < length body → get_or points k 0 ≡ place_from first body k) → (point : ℕ) → place_at points end point ≡ place_from first body point
places_whole points end first body count last before point =
    let read : place_at points end point ≡ get_or points point end = unwrap_or-slice_get points point end in
    ⊎_elim
    (λ (h : point < length body).
    let inside : point < length points = omega arith in
    read ∙ get_or_default points point end 0 inside ∙ before point h)
    (λ (h : length body ≤ point).
    let outside : length points ≤ point = omega arith in
    read ∙ get_or_past points point end outside ∙ last ∙ ap (λ (b : List Stm). first + body_length b) (sym (take_all point body h)))
    (cases_lt point (length body))

-- what is handed over: the operands, and the number beside them
pub all_handed : (kind : StmKind) → handed_atoms kind ≡ operands kind ++ map Int (own_numbers kind)
all_handed (Off r p n) = refl
all_handed (Case a v l) = refl
all_handed (Copy p q n) = refl
all_handed (Clear p n) = refl
all_handed kind = sym (append-nil (operands kind))

-- one number more
pub numbers_more : (a n : ℕ) → range_with_len a n ++ (a + n) ∷ [] ≡ range_with_len a (n + 1)
numbers_more a zero = let e : a + 0 ≡ a = omega arith in ap (λ k. k ∷ []) e
numbers_more a (suc n) =
    let e : a + suc n ≡ (a + 1) + n = omega arith in
    let s : suc n + 1 ≡ suc (n + 1) = omega arith in
    ap (λ k. a ∷ (range_with_len (a + 1) n ++ k ∷ [])) e ∙ ap (λ l. a ∷ l) (numbers_more (a + 1) n) ∙ ap (range_with_len a) (sym s)

-- a statement that was read at a point
pub read_at : (stms body : List Stm) → stms ≡ body → (n : ℕ) (stm : Stm) → n < length stms → stm ≡ get_or stms n stm → slice_get body n ≡ Some stm
read_at stms body e n stm inside is =
    ap (λ (xs : List Stm). slice_get xs n) (sym e) ∙ slice_get_read stms (length stms) n stm refl inside is

-- one statement more
pub points_more : (place : ℕ → ℕ) (func : Func) (start code new : Code) (n : ℕ) (stm : Stm) (registers : List ℕ) → slice_get func.body n ≡ Some stm → code ≡ fold (with_point place func) start (enumerate_from 0 (take n func.body)) →
    registers ≡ pins_in (func_pins func) n → new ≡ with_statement place func code stm registers → new ≡ fold (with_point place func) start (enumerate_from 0 (take (n + 1) func.body))
points_more place func start code new n stm registers at so_far pins e =
    let next : suc n ≡ n + 1 = omega arith in
    e ∙ (λ i. with_statement place func (so_far i) stm (pins i))
    ∙ sym (ap (fold (with_point place func) start) (sym (ap (λ k. enumerate_from 0 (take k func.body)) next) ∙ numbered_next func.body n stm at) ∙ fold_push (with_point place func) start (enumerate_from 0 (take n func.body)) (n, stm))
