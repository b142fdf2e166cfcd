-- The text grows by a line and by a call, and how long it is.
use Rattle.std.proofs.Common.{◌≡◌, ◌≤◌, ◌+◌, ◌*◌, ◌++◌, ◌∷◌, ℕ, zero, suc, List, [], map, length, codes, decimal, refl, sym, ap, ◌∙◌, add-one, append-nil, append_assoc, arith, length-append}
use Rattle.std.specs.List.{flat_map, range_with_len, sum_by}
use Rattle.std.proofs.lemmas.Fmt.{length-decimal-le}
use Rattle.std.proofs.lemmas.Grind.{flat_map-append}
use Rattle.std.proofs.lemmas.List.{flat_map_more}
use Rattle.std.proofs.lemmas.List.Sums.{sum_by-cons}
use Rattle.generated_text.specs.Text.{head, function_line, call, main_line, ended, generated, digits_below}

-- one number more
range_more : (n a : ℕ) → range_with_len a (suc n) ≡ range_with_len a n ++ (a + n) ∷ []
range_more zero a = let e : a ≡ a + 0 = omega arith in ap (λ x. x ∷ []) e
range_more (suc n) a =
    let e : a + 1 + n ≡ a + suc n = omega arith in
    ap (λ xs. a ∷ xs) (range_more n (a + 1) ∙ ap (λ x. range_with_len (a + 1) n ++ x ∷ []) e)

below_more : (n : ℕ) → range_with_len 0 (n + 1) ≡ range_with_len 0 n ++ n ∷ []
below_more n =
    let e : 0 + n ≡ n = omega arith in
    ap (range_with_len 0) (add-one n) ∙ range_more n 0 ∙ ap (λ x. range_with_len 0 n ++ x ∷ []) e

-- what stands for each number below n, and for n
pub part_more :
    (part : ℕ → List ℕ) (n : ℕ) (old before new : List ℕ) → before ≡ old ++ flat_map part (range_with_len 0 n) → new ≡ before ++ part n →
    new ≡ old ++ flat_map part (range_with_len 0 (n + 1))
part_more part n old before new so_far now =
    now
    ∙ ap (λ t. t ++ part n) so_far
    ∙ flat_map_more part old (range_with_len 0 n) n
    ∙ ap (λ xs. old ++ flat_map part xs) (sym (below_more n))

-- the pieces of a function's line
pub function_pieces :
    (old number : List ℕ) →
    (((((old ++ (codes "int f" ++ number)) ++ codes "(int x) { struct n *a = malloc(sizeof(struct n));") ++ codes " struct n *b = malloc(sizeof(struct n));") ++ (codes " a->next = b; b->next = a; a->v = x; b->v = " ++ number)) ++ codes "; x = a->v + b->v;") ++ codes " __delay_frees { free(a); free(b); } return x; }\n"
    ≡ old ++ ((codes "int f" ++ (number ++ (codes "(int x) { struct n *a = malloc(sizeof(struct n)); struct n *b = malloc(sizeof(struct n)); a->next = b; b->next = a; a->v = x; b->v = " ++ (number ++ codes "; x = a->v + b->v; __delay_frees { free(a); free(b); } return x; }")))) ++ codes "\n")
function_pieces old number = simp append_assoc

-- the line of a function, with its end
abbrev pub function_part : ℕ → List ℕ
function_part i = ended (function_line i)

ended_each : (xs : List ℕ) → flat_map ended (map function_line xs) ≡ flat_map function_part xs
ended_each [] = refl
ended_each (x ∷ xs) = ap (λ rest. function_part x ++ rest) (ended_each xs)

-- the pieces of main's line
pub main_pieces :
    (old calls : List ℕ) →
    ((old ++ codes "int main(void) { int x = 0;") ++ calls) ++ codes " printf(\"%d\\n\", x); return 0; }\n"
    ≡ old ++ ((codes "int main(void) { int x = 0;" ++ (calls ++ codes " printf(\"%d\\n\", x); return 0; }")) ++ codes "\n")
main_pieces old calls = simp append_assoc

-- the head, the functions and main are the whole text
pub parts_are_whole : (n : ℕ) → (flat_map ended head ++ flat_map function_part (range_with_len 0 n)) ++ ended (main_line n) ≡ generated n
parts_are_whole n =
    let numbers = range_with_len 0 n in
    let main = append-nil (ended (main_line n)) in
    let functions = flat_map-append ended (map function_line numbers) (main_line n ∷ []) in
    append_assoc (flat_map ended head) (flat_map function_part numbers) (ended (main_line n))
    ∙ ap (λ t. flat_map ended head ++ (t ++ ended (main_line n))) (sym (ended_each numbers))
    ∙ ap (λ t. flat_map ended head ++ (flat_map ended (map function_line numbers) ++ t)) (sym main)
    ∙ ap (λ t. flat_map ended head ++ t) (sym functions)
    ∙ sym (flat_map-append ended head (map function_line numbers ++ main_line n ∷ []))

-- Lengths

-- how many digits n numbers have in all, from a on
abbrev digits : ℕ → ℕ → ℕ
digits a n = sum_by (λ i. length (decimal i)) (range_with_len a n)

one_more : (n a : ℕ) → digits a (suc n) ≡ length (decimal a) + digits (a + 1) n
one_more n a = sum_by-cons (λ i. length (decimal i)) a (range_with_len (a + 1) n)

-- what stands for each number has k bytes, and its digits m times
parts_length :
    (part : ℕ → List ℕ) (k m : ℕ) → ((i : ℕ) → length (part i) ≡ k + m * length (decimal i)) → (n a : ℕ) →
    length (flat_map part (range_with_len a n)) ≡ k * n + m * digits a n
parts_length part k m each zero a = omega arith
parts_length part k m each (suc n) a =
    let rest = parts_length part k m each n (a + 1) in
    let one = each a in
    let more = one_more n a in
    let both = length-append (part a) (flat_map part (range_with_len (a + 1) n)) in
    omega (arith, rest, one, ap (λ d. m * d) more, both)

functions_length : (n : ℕ) → length (flat_map function_part (range_with_len 0 n)) ≡ 205 * n + 2 * digits_below n
functions_length n = parts_length function_part 205 2 (λ i. simp length-append (omega arith)) n 0

calls_length : (n : ℕ) → length (flat_map call (range_with_len 0 n)) ≡ 10 * n + 1 * digits_below n
calls_length n = parts_length call 10 1 (λ i. simp length-append (omega arith)) n 0

main_length : (n : ℕ) → length (ended (main_line n)) ≡ 59 + 10 * n + digits_below n
main_length n = let calls = calls_length n in simp length-append (omega (arith, calls))

pub generated_length : (n : ℕ) → length (generated n) ≡ 135 + 215 * n + 3 * digits_below n
generated_length n =
    let functions = functions_length n in
    let main = main_length n in
    let all = ap length (sym (parts_are_whole n))
    ∙ length-append (flat_map ended head ++ flat_map function_part (range_with_len 0 n)) (ended (main_line n)) in
    let front = length-append (flat_map ended head) (flat_map function_part (range_with_len 0 n)) in
    omega (arith, functions, main, all, front)

digits_few : (n a : ℕ) → a + n ≤ 10000 → digits a n ≤ 4 * n
digits_few zero a le = omega arith
digits_few (suc n) a le =
    let rest = digits_few n (a + 1) (omega arith) in
    let one = length-decimal-le 4 a (omega arith) (omega arith) (omega arith) in
    let more = one_more n a in
    omega (arith, rest, one, more)

-- no text has so many bytes as the longest that is read
pub generated_short : (n : ℕ) → n ≤ 2000 → length (generated n) ≤ 1048576
generated_short n le =
    let exact = generated_length n in
    let few = digits_few n 0 (omega arith) in
    omega (arith, exact, few, le)
