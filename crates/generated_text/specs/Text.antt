-- A C text with many functions, each of which makes two objects that hold each other and frees both.
use Rattle.std.specs.Prelude.{ℕ, List, [], ◌∷◌, ◌++◌, length, map, codes, decimal}
use Rattle.std.specs.List.{flat_map, range_with_len, sum_by}

-- the lines before the functions
abbrev pub head : List (List ℕ)
head = codes "#include <stdio.h>" ∷ codes "#include <stdlib.h>" ∷ codes "struct n { struct n *next; int v; };" ∷ []

-- the function with this number, which adds it to x
abbrev pub function_line : ℕ → List ℕ
function_line i =
    codes "int f" ++ (decimal i ++ (codes "(int x) { struct n *a = malloc(sizeof(struct n)); struct n *b = malloc(sizeof(struct n)); a->next = b; b->next = a; a->v = x; b->v = " ++ (decimal i ++ codes "; x = a->v + b->v; __delay_frees { free(a); free(b); } return x; }")))

-- a call of it
abbrev pub call : ℕ → List ℕ
call i = codes " x = f" ++ (decimal i ++ codes "(x);")

-- main calls the functions with the numbers below n in turn, and prints what comes out
abbrev pub main_line : ℕ → List ℕ
main_line n =
    codes "int main(void) { int x = 0;" ++ (flat_map call (range_with_len 0 n) ++ codes " printf(\"%d\\n\", x); return 0; }")

abbrev pub lines : ℕ → List (List ℕ)
lines n = head ++ (map function_line (range_with_len 0 n) ++ main_line n ∷ [])

-- each line ends with byte 10
abbrev pub ended : List ℕ → List ℕ
ended line = line ++ codes "\n"

-- the text with n functions beside main
abbrev pub generated : ℕ → List ℕ
generated n = flat_map ended (lines n)

-- how many digits the numbers below n have in all
abbrev pub digits_below : ℕ → ℕ
digits_below n = sum_by (λ i. length (decimal i)) (range_with_len 0 n)
