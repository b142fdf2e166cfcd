-- Formats are read, and statements are resolved to the numbers of a core.
use Rattle.core_soundness.proofs.Words.Std.{◌≡◌, ◌≢◌, true≢false, append-nil, ◌≤◌, ◌==◌, ◌&&◌, ℕ, zero, suc, nat_le, nat_eq, Bool, true, false, not, cond, List, [], ◌∷◌, ◌++◌, length, take, drop, slice_index, is_some, codes, unwrap_or, get_or, All, Option, Some, None, refl, sym, ap, ◌∙◌, subst, arith, append_assoc, ◌<◌, ◌+◌, ◌*◌, ◌/◌, ◌%◌, map, replicate, slice_get, option_map, length-append, eqb-true, eqb-false, leb-true, and_parts, eq-eqb, take-append-drop, length-map, flat_map-cons, length-prefix_len, div-mul-add, mod-mul-add, is_ascii_digit, pointwise, find, prefix_len, take_while, starts_with, digits_value}
use Rattle.core_soundness.proofs.Words.Types.{behind_flags, digits_at, behind_digits, behind_length, is_item, is_format_of, is_format}
use Rattle.core_soundness.proofs.Words.Core.{IntKind, I32, plain_byte, GoesOnPlain, ReadsPieces, IsFormat, is_flag, StartsOutside, ReadsItem, length_bytes, is_one_of, kind_of, length_at, item_at, join, pieces_from, pieces_of, Piece, Plain, Item, Sort, Pointer, sort_of, register_sort, atom_sort, TakesAll, GivesResult, TakesCall, TakesFormat, IsTyped, HasRegister, answer_sort, Core, Func, Reg as Register, Atom, Stm, StmKind, Set, Return}
use Rattle.core_soundness.proofs.Words.Elaborating.{Piece as CodePiece, Does, Here, Context, Walked, file_variable, literal_object, Numbers, atom_by, atoms_by, numbered, body_of, register_by, static_by, numbers_of, temporary, pointer_register, function_of, variable_static, literal_static, core_of}
use Rattle.core_soundness.proofs.Words.Facts.{World, walked_world, IsRegister, is_local, is_integer, is_pointer_temporary, IsObject, is_variable, is_literal, Holds, HoldAll, Receives, IsCall, IsPrinted, Fits, PiecesFit}
use Rattle.c_print.specs.ItemEquations.{front_passes, rest_starts_outside, conv_is_letter, item_is_no_percent, width_bytes_value}
use Rattle.core_tree.specs.declared.statements.Atom.TheVariants as atom
use Rattle.core_soundness.proofs.Scopes.{get_left}
use Rattle.core_soundness.proofs.Choices.{either_way, three_parts, some_same}

-- a format that passes the test of formats is one (C99 7.19.6.1)

-- what stands behind the front that passes a test
behind_front : (test : ℕ → Bool) (bytes : List ℕ) → bytes ≡ take_while test bytes ++ drop (length (take_while test bytes)) bytes
behind_front test bytes = search (arith, take-append-drop, length-prefix_len)

outside_front : (test : ℕ → Bool) (bytes : List ℕ) → StartsOutside test (drop (length (take_while test bytes)) bytes)
outside_front test bytes = subst (λ (k : ℕ). StartsOutside test (drop k bytes)) (sym (length-prefix_len test bytes)) (rest_starts_outside test bytes)

no_leading : (k : ℕ) (bytes : List ℕ) → StartsOutside is_flag bytes → get_or (take k bytes) 0 0 ≡ 48 → ⊥
no_leading k bytes h e = search arith fits 100

-- the length at the front
same_bytes : (a b : List ℕ) → pointwise nat_eq a b ≡ true → a ≡ b
same_bytes (x ∷ a) (y ∷ b) e = both x y a b (nat_eq x y) refl (λ q. same_bytes a b q) e
  where
    both : (x y : ℕ) (a b : List ℕ) (t : Bool) → nat_eq x y ≡ t → (pointwise nat_eq a b ≡ true → a ≡ b) → t && pointwise nat_eq a b ≡ true → x ∷ a ≡ y ∷ b
    both x y a b true q again h = λ i. eqb-true x y q i ∷ again h i
    both x y a b false q again h = cc
same_bytes a b e = search arith fits 100

-- the first text that a list begins with, or none
found_begins : {T : Type 0} (spell : T → List ℕ) (absent : T) (bytes : List ℕ) (ls : List T) → spell absent ≡ []
    → (let l = unwrap_or (find (λ l. starts_with nat_eq bytes (spell l)) ls) absent in bytes ≡ spell l ++ drop (length (spell l)) bytes)
found_begins spell absent bytes [] e = ap (λ (text : List ℕ). text ++ drop (length text) bytes) (sym e)
found_begins spell absent bytes (l ∷ ls) e = by (starts_with nat_eq bytes (spell l)) refl (found_begins spell absent bytes ls e)
  where
    by : (t : Bool) → starts_with nat_eq bytes (spell l) ≡ t → (let k = unwrap_or (find (λ x. starts_with nat_eq bytes (spell x)) ls) absent in bytes ≡ spell k ++ drop (length (spell k)) bytes)
        → (let k = unwrap_or (cond t (Some l) (find (λ x. starts_with nat_eq bytes (spell x)) ls)) absent in bytes ≡ spell k ++ drop (length (spell k)) bytes)
    by true q again = sym (take-append-drop (length (spell l)) bytes) ∙ ap (λ (front : List ℕ). front ++ drop (length (spell l)) bytes) (sym (same_bytes (spell l) (take (length (spell l)) bytes) q))
    by false q again = again

-- an item
some_kind : (o : Option IntKind) → is_some o ≡ true → o ≡ Some (unwrap_or o I32)
some_kind o e = search arith fits 100

letter_first : (bytes : List ℕ) → 88 ≤ slice_index bytes 0 → bytes ≡ slice_index bytes 0 ∷ drop 1 bytes
letter_first bytes h = search arith fits 100

not_true : (k : Bool) → not k ≡ true → k ≡ false
not_true k e = search arith fits 100

abbrev conversion_of : List ℕ → ℕ
conversion_of bytes = slice_index (behind_length bytes) 0

item_reads : (bytes : List ℕ) → is_item bytes ≡ true
    → ReadsItem bytes (is_one_of (take_while is_flag bytes) 45) (is_one_of (take_while is_flag bytes) 48) (digits_value 10 (digits_at bytes)) (conversion_of bytes) (unwrap_or (kind_of (length_at (behind_digits bytes)) (conversion_of bytes)) I32) (drop 1 (behind_length bytes))
item_reads bytes e =
    let parts = three_parts (nat_le (digits_value 10 (digits_at bytes)) 4095) (is_some (kind_of (length_at (behind_digits bytes)) (conversion_of bytes))) (not (is_one_of (take_while is_flag bytes) 48 && is_one_of (codes "cs") (conversion_of bytes))) e in
    let small = leb-true (digits_value 10 (digits_at bytes)) 4095 parts.0 in
    let width = width_bytes_value (digits_at bytes) (front_passes is_ascii_digit (behind_flags bytes)) (no_leading (prefix_len is_ascii_digit (behind_flags bytes)) (behind_flags bytes) (outside_front is_flag bytes)) small in
    let kind = some_kind (kind_of (length_at (behind_digits bytes)) (conversion_of bytes)) parts.1 in
    record {
      flags = take_while is_flag bytes;
      behind = behind_digits bytes;
      written = behind_front is_flag bytes ∙ ap (λ (r : List ℕ). take_while is_flag bytes ++ r) (behind_front is_ascii_digit (behind_flags bytes) ∙ ap (λ (d : List ℕ). d ++ behind_digits bytes) width);
      only_flags = front_passes is_flag bytes;
      left_is = refl;
      zeros_is = refl;
      width_fits = small;
      conversion = record {
        length = length_at (behind_digits bytes);
        written = found_begins length_bytes (length_at []) (behind_digits bytes) (length_at (codes "hh") ∷ length_at (codes "h") ∷ length_at (codes "ll") ∷ length_at (codes "l") ∷ length_at (codes "z") ∷ []) refl
            ∙ ap (λ (r : List ℕ). length_bytes (length_at (behind_digits bytes)) ++ r) (letter_first (behind_length bytes) (conv_is_letter (length_at (behind_digits bytes)) (conversion_of bytes) _ kind));
        kind_is = kind;
      };
      no_zeros_in_text = not_true _ parts.2;
    }

-- pieces

-- an item is no plain text
item_alone : (item : List ℕ) (left zeros : Bool) (width conv : ℕ) (kind : IntKind) (rest : List ℕ) → ReadsItem item left zeros width conv kind rest → GoesOnPlain (37 ∷ item) → ⊥
item_alone item left zeros width conv kind rest reads plain = by_test (nat_eq plain.0 37) refl plain.3
  where
    outside : (l : List ℕ) → item ≡ 37 ∷ l → ⊥
    outside l is = true≢false (subst (StartsOutside (λ b. nat_eq b 37)) is (item_is_no_percent item left zeros width conv kind rest reads))

    by_test : (test : Bool) → nat_eq plain.0 37 ≡ test → 37 ∷ item ≡ cond test (37 ∷ 37 ∷ []) (plain.0 ∷ []) ++ plain.1 → ⊥
    by_test true is e = outside plain.1 (cc)
    by_test false is e = let same : 37 ≡ plain.0 = cc in eqb-false plain.0 37 is (sym same)

first_none : (b : ℕ) (text : List ℕ) → b ≢ 0 → All {X = ℕ} (λ (c : ℕ). c ≢ 0) text → All {X = ℕ} (λ (c : ℕ). c ≢ 0) (b ∷ text)
first_none b text h k zero d below = h
first_none b text h k (suc i) d below = k i d (omega (arith, below))

none_none : All {X = ℕ} (λ (c : ℕ). c ≢ 0) []
none_none k d below = absurd (omega (arith, below))

some_bytes : (b : ℕ) (text : List ℕ) → b ∷ text ≢ []
some_bytes b text e = cc

-- one plain byte in front of pieces
plain_first : (b : ℕ) (bytes rest : List ℕ) (pieces : List Piece) → bytes ≡ plain_byte b ++ rest → b ≢ 0 → ReadsPieces rest pieces [] → ReadsPieces bytes (join (Plain (b ∷ [])) pieces) []
plain_first b bytes rest [] e h r = search (arith, some_bytes, append-nil, flat_map-cons, first_none, none_none, either_way) fits 100
plain_first b bytes rest (Plain more ∷ pieces) e h r = search (arith, some_bytes, append_assoc, flat_map-cons, first_none) fits 100
plain_first b bytes rest (Item left zeros width conv kind ∷ pieces) e h r = (
  rest,
  (
    some_bytes b [],
    record {
      written = e ∙ ap (λ (x : List ℕ). x ++ rest) (sym (flat_map-cons plain_byte b [] ∙ append-nil (plain_byte b)));
      no_zero = first_none b [] h none_none;
      longest = λ g. item_alone r.1.0 left zeros width conv kind r.0 r.1.2 (subst GoesOnPlain r.1.1 g);
    },
  ),
  r,
)

reads_format : (n : ℕ) (bytes : List ℕ) → is_format_of n bytes ≡ true → ReadsPieces bytes (pieces_from n bytes) []
reads_format (suc n) (b ∷ rest) e =
    by (b == 0) (b == 37) (slice_index rest 0 == 37) (is_item rest) refl refl refl refl (λ q. reads_format n rest q) (λ q. reads_format n (drop 1 rest) q) (λ q. reads_format n (drop 1 (behind_length rest)) q) e
  where
    by : (is_zero is_percent is_double is_good : Bool) → (b == 0) ≡ is_zero → (b == 37) ≡ is_percent → (slice_index rest 0 == 37) ≡ is_double → is_item rest ≡ is_good
        → (is_format_of n rest ≡ true → ReadsPieces rest (pieces_from n rest) []) → (is_format_of n (drop 1 rest) ≡ true → ReadsPieces (drop 1 rest) (pieces_from n (drop 1 rest)) [])
        → (is_format_of n (drop 1 (behind_length rest)) ≡ true → ReadsPieces (drop 1 (behind_length rest)) (pieces_from n (drop 1 (behind_length rest))) [])
        → cond is_zero false (cond (not is_percent) (is_format_of n rest) (cond is_double (is_format_of n (drop 1 rest)) (is_good && is_format_of n (drop 1 (behind_length rest))))) ≡ true
        → ReadsPieces (b ∷ rest) (let front = cond is_percent (cond is_double (Plain (37 ∷ []), drop 1 rest) (item_at rest)) (Plain (b ∷ []), rest) in join front.0 (pieces_from n front.1)) []
    by true p d g z q x i one two other h = cc
    by false false d g z q x i one two other h = plain_first b (b ∷ rest) rest (pieces_from n rest) (ap (λ (t : Bool). cond t (37 ∷ 37 ∷ []) (b ∷ []) ++ rest) (sym q)) (eqb-false b 0 z) (one h)
    by false true true g z q x i one two other h =
        plain_first 37 (b ∷ rest) (drop 1 rest) (pieces_from n (drop 1 rest)) (ap (λ (k : ℕ). k ∷ rest) (eqb-true b 37 q) ∙ ap (λ (l : List ℕ). 37 ∷ l) (search (arith, eqb-true) fits 100)) (λ k. omega (arith, k)) (two h)
    by false true false g z q x i one two other h =
        let parts = and_parts g (is_format_of n (drop 1 (behind_length rest))) h in
        (drop 1 (behind_length rest), (rest, ap (λ (k : ℕ). k ∷ rest) (eqb-true b 37 q), item_reads rest (i ∙ parts.0)), other parts.1)
reads_format n bytes e = search arith fits 100

pub format_is : (bytes : List ℕ) → is_format bytes ≡ true → IsFormat bytes (pieces_of bytes)
unfolding pieces_of
format_is bytes e = reads_format (length bytes) bytes e

-- what fits while a text is walked is typed in its core

-- numbers

third : (k j r : ℕ) → r ≡ 3 * k + j → r ≡ k * 3 + j
third k j r e = omega (arith, e)

by_rest : ℕ → ℕ → ℕ → ℕ → ℕ
by_rest locals integers quotient rest = cond (rest == 0) quotient (cond (rest == 1) (locals + quotient) (locals + integers + quotient))

rest_of : (locals integers r quotient rest : ℕ) → r / 3 ≡ quotient → r % 3 ≡ rest → register_by locals integers r ≡ by_rest locals integers quotient rest
unfolding by_rest
rest_of locals integers r quotient rest e h = search arith

-- lists

get_right : {X : Type 0} (xs ys : List X) (j k : ℕ) → j ≡ length xs + k → slice_get (xs ++ ys) j ≡ slice_get ys k
get_right [] ys j k e = ap (λ (i : ℕ). slice_get ys i) (omega (arith, e))
get_right (x ∷ xs) ys zero k e = absurd (omega (arith, e))
get_right (x ∷ xs) ys (suc j) k e = get_right xs ys j k (omega (arith, e))

get_same : {X : Type 0} (n : ℕ) (x : X) (k : ℕ) → k < n → slice_get (replicate n x) k ≡ Some x
get_same zero x k h = absurd (omega (arith, h))
get_same (suc n) x zero h = refl
get_same (suc n) x (suc k) h = get_same n x k (omega (arith, h))

get_there : {X : Type 0} (xs : List X) (sort : Sort) (i : ℕ) → i < length xs → option_map (λ _. sort) (slice_get xs i) ≡ Some sort
get_there [] sort i h = absurd (omega (arith, h))
get_there (x ∷ xs) sort zero h = refl
get_there (x ∷ xs) sort (suc i) h = get_there xs sort i (omega (arith, h))

length_same : {X : Type 0} (n : ℕ) (x : X) → length (replicate n x) ≡ n
length_same zero x = refl
length_same (suc n) x = ap suc (length_same n x)

pub variable_number : (count k : ℕ) → static_by count (file_variable k) ≡ k
variable_number count k = grind (arith, eq-eqb)

pub literal_number : (count k : ℕ) → static_by count (literal_object k) ≡ count + k
literal_number count k = grind (arith, false)

module _ (c : Context) (w : Walked) where
  abbrev num : Numbers
  num = numbers_of c w

  abbrev func : Func
  func = function_of c w

  abbrev core : Core
  core = core_of c

  abbrev temporaries : List Register
  temporaries = replicate w.code.most_integers temporary ++ replicate w.code.most_pointers pointer_register

  abbrev here : World
  here = walked_world c w

  register_resolves : (sort : Sort) (r : ℕ) → IsRegister here sort r → register_sort func (num.register r) ≡ Some sort
  unfolding by_rest
  register_resolves sort r (is_local k at there) = search (arith, rest_of, third, div-mul-add, mod-mul-add, option_map, get_left)
  register_resolves sort r (is_integer k at there same) =
      let locals : ℕ = length w.running.locals in
      ap (λ (i : ℕ). register_sort func (register_by locals w.code.most_integers i)) at
      ∙ ap (λ (i : ℕ). register_sort func i) (rest_of locals w.code.most_integers (3 * k + 1) k 1 (ap (λ (j : ℕ). j / 3) (third k 1 (3 * k + 1) (omega arith)) ∙ div-mul-add k 3 1 (omega arith)) (ap (λ (j : ℕ). j % 3) (third k 1 (3 * k + 1) (omega arith)) ∙ mod-mul-add k 3 1 (omega arith)))
      ∙ ap (λ (o : Option Register). option_map sort_of o)
      (get_right w.running.locals temporaries (locals + k) k refl ∙ get_left (replicate w.code.most_integers temporary) (replicate w.code.most_pointers pointer_register) k temporary (get_same w.code.most_integers temporary k there))
      ∙ ap (λ (s : Sort). Some s) (sym same)
  register_resolves sort r (is_pointer_temporary k at there same) =
      let locals : ℕ = length w.running.locals in
      let integers : ℕ = w.code.most_integers in
      ap (λ (i : ℕ). register_sort func (register_by locals integers i)) at
      ∙ ap (λ (i : ℕ). register_sort func i) (rest_of locals integers (3 * k + 2) k 2 (ap (λ (j : ℕ). j / 3) (third k 2 (3 * k + 2) (omega arith)) ∙ div-mul-add k 3 2 (omega arith)) (ap (λ (j : ℕ). j % 3) (third k 2 (3 * k + 2) (omega arith)) ∙ mod-mul-add k 3 2 (omega arith)))
      ∙ ap (λ (o : Option Register). option_map sort_of o)
      (get_right w.running.locals temporaries (locals + integers + k) (integers + k) (omega arith)
      ∙ get_right (replicate integers temporary) (replicate w.code.most_pointers pointer_register) (integers + k) k (omega (arith, length_same integers temporary))
      ∙ get_same w.code.most_pointers pointer_register k there)
      ∙ ap (λ (s : Sort). Some s) (sym same)

  object_resolves : (g : ℕ) → IsObject here g → option_map (λ _. Pointer) (slice_get core.statics (num.static g)) ≡ Some Pointer
  object_resolves g (is_variable k at there) =
      let variables : ℕ = length c.variables in
      ap (λ (i : ℕ). option_map (λ _. Pointer) (slice_get core.statics (static_by variables i))) at
      ∙ ap (λ (i : ℕ). option_map (λ _. Pointer) (slice_get core.statics i)) (variable_number variables k)
      ∙ get_there core.statics Pointer k (omega (arith, there, length-append (map (variable_static c) c.variables) (map literal_static c.literals), length-map c.variables (variable_static c)))
  object_resolves g (is_literal k at there) =
      let variables : ℕ = length c.variables in
      ap (λ (i : ℕ). option_map (λ _. Pointer) (slice_get core.statics (static_by variables i))) at
      ∙ ap (λ (i : ℕ). option_map (λ _. Pointer) (slice_get core.statics i)) (literal_number variables k)
      ∙ get_there core.statics Pointer (variables + k)
      (omega (arith, there, length-append (map (variable_static c) c.variables) (map literal_static c.literals), length-map c.variables (variable_static c), length-map c.literals literal_static))

  pub atom_resolves : (sort : Sort) (a : Atom) → Holds here sort a → atom_sort core func (atom_by num a) ≡ Some sort
  atom_resolves sort (atom.Reg r) h = register_resolves sort r h
  atom_resolves sort (atom.Static g) h = object_resolves g h.1 ∙ ap (λ (s : Sort). Some s) (sym h.0)
  atom_resolves sort (atom.Mem m) h = get_there w.running.mems Pointer m h.1 ∙ ap (λ (s : Sort). Some s) (sym h.0)
  atom_resolves sort other h = ap (λ (s : Sort). Some s) (sym h)

  pub all_resolve : (sorts : List Sort) (atoms : List Atom) → HoldAll here sorts atoms → TakesAll core func sorts (atoms_by num atoms)
  all_resolve (sort ∷ sorts) (a ∷ atoms) h =
      ap (λ (o : Option Sort). o ∷ map (atom_sort core func) (atoms_by num atoms)) (atom_resolves sort a h.0)
      ∙ ap (λ (os : List (Option Sort)). Some sort ∷ os) (all_resolve sorts atoms h.1)
  all_resolve sorts atoms h = search arith fits 100

  pub result_resolves : (result : Option Sort) (r : Option ℕ) → Receives here result r → GivesResult func result (option_map num.register r)
  result_resolves None None h = tt
  result_resolves (Some sort) None h = tt
  result_resolves None (Some r) h = absurd h
  result_resolves (Some sort) (Some r) h = register_resolves sort r h

  -- what is called is there
  module _ (calls : (f : ℕ) (r : Option ℕ) (args : List Atom) → IsCall here f r args → HasRegister func (option_map num.register r) × TakesCall core func (atoms_by num args) (slice_get core.funcs (num.function f))) where
    printed_resolves : (args : List Atom) (o : Option (List ℕ)) → IsPrinted here args o → TakesFormat core func (atoms_by num args) o
    printed_resolves args o h = search (arith, format_is, all_resolve) fits 100

    kind_resolves : (kind : StmKind) → Fits here kind → IsTyped core func (numbered num kind)
    unfolding numbered
    kind_resolves (Set r a) h = (h.0, register_resolves h.0 r h.1, atom_resolves h.0 a h.2)
    kind_resolves kind h = search (arith, register_resolves, atom_resolves, result_resolves, all_resolve, printed_resolves) fits 100

    pub statements_resolve : (answer : Option Sort) (pieces : List CodePiece) (point : ℕ) (stm : Stm) → PiecesFit answer here pieces → slice_get (body_of num pieces) point ≡ Some stm → (1 ≤ stm.line) × IsTyped core func stm.kind
    unfolding numbered
    statements_resolve answer [] point stm h e = cc
    statements_resolve answer (Here l ∷ pieces) point stm h e = statements_resolve answer pieces point stm h.1 e
    statements_resolve answer (Does s ∷ pieces) zero stm h e = subst (λ (x : Stm). (1 ≤ x.line) × IsTyped core func x.kind) (some_same _ stm e) (h.0.0, search (arith, atom_resolves, kind_resolves) fits 100)
    statements_resolve answer (Does s ∷ pieces) (suc point) stm h e = statements_resolve answer pieces point stm h.1 e

  -- returns

  pub returns_resolve : (answer : Option Sort) (pieces : List CodePiece) (point : ℕ) (stm : Stm) (a : Option Atom) → PiecesFit answer here pieces → slice_get (body_of num pieces) point ≡ Some stm → stm.kind ≡ Return a → answer_sort core func a ≡ answer
  unfolding numbered
  returns_resolve answer [] point stm a h e q = cc
  returns_resolve answer (Here l ∷ pieces) point stm a h e q = returns_resolve answer pieces point stm a h.1 e q
  returns_resolve answer (Does s ∷ pieces) zero stm a h e q = search (arith, atom_resolves) fits 100
  returns_resolve answer (Does s ∷ pieces) (suc point) stm a h e q = returns_resolve answer pieces point stm a h.1 e q
