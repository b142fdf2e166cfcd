-- Initializers one behind another.
use Rattle.std.proofs.Common.{◌≡◌, ◌<◌, ◌≤◌, ◌+◌, ◌-◌, ℕ, zero, suc, Bool, List, [], ◌∷◌, Ok, Err, drop, take, length, get_or, refl, ap, sym, ◌∙◌, arith}
use Rattle.std.proofs.Math.Seq.{drop-cons}
use Rattle.c_types.specs.Types.{PlainType}
use Rattle.c_tree.specs.declared.statement.Init.{Init}
use Rattle.c_tree.specs.Tree.{Tree, Trees, none, ◌▹◌, count}
use Rattle.c_tree.specs.StatementView.{trees, init_view}
use Rattle.c_decls.specs.declared.refusal.TypeKind.TheVariants.{Assignment}
use Rattle.c_decls.specs.declared.refusal.TypeError.{TypeError}
use Rattle.c_decls.specs.declared.refusal.TypeError.TheVariants as e
use Rattle.c_decls.specs.Refusals.{Checked, Refusal, refused, then, Meets}
use Rattle.elaboration.specs.Context.{Context}
use Rattle.elaboration.specs.Initializers.{Target, Filled, surplus, all_surplus, elements, initialize, initialize_parts}

-- a whole that fails where a part does
pub fails_too : {A B C D : Type 0} (f : A → B) (g : C → D) (error : TypeError) (part : Checked B) (whole : Checked D) →
    ((refusal : Refusal) → part ≡ Err refusal → whole ≡ Err refusal) → Meets f (Err error) part → Meets g (Err error) whole
fails_too f g (e.Bad kind line) part whole k h = k (record { kind = kind; line = line }) h
fails_too f g e.NoMemory part whole k h = tt

-- what comes next may be written in another way
pub then_same : {A B : Type 0} (answer : Checked A) (f g : A → Checked B) → ((a : A) → f a ≡ g a) → then answer f ≡ then answer g
then_same (Ok a) f g k = k a
then_same (Err refusal) f g k = refl

-- the initializer at a place and those behind it
pub split_at : (xs : List Init) (i : ℕ) (x : Init) → i < length xs → x ≡ get_or xs i x →
    trees init_view (drop i xs) ≡ init_view x ▹ trees init_view (drop (i + 1) xs)
split_at xs i x h is =
    let next : suc i ≡ i + 1 = omega arith in
    ap (trees init_view) (drop-cons xs i x h)
    ∙ ap (λ (y : Init). init_view y ▹ trees init_view (drop (suc i) xs)) (sym is)
    ∙ ap (λ (n : ℕ). init_view x ▹ trees init_view (drop n xs)) next

pub none_left : (xs : List Init) (i : ℕ) → length xs ≤ i → trees init_view (drop i xs) ≡ none
none_left [] zero h = refl
none_left [] (suc i) h = refl
none_left (first ∷ xs) zero h = absurd (omega (arith, h))
none_left (first ∷ xs) (suc i) h = none_left xs i (omega (arith, h))

pub count_trees : (xs : List Init) → count (trees init_view xs) ≡ length xs
count_trees [] = refl
count_trees (x ∷ xs) = ap suc (count_trees xs)

-- those that initialize nothing

pub surplus_next : (xs : List Init) (i : ℕ) (x : Init) (c d : Context) → i < length xs → x ≡ get_or xs i x → surplus (init_view x) c ≡ Ok d →
    all_surplus (trees init_view (drop (i + 1) xs)) d ≡ all_surplus (trees init_view (drop i xs)) c
unfolding all_surplus
surplus_next xs i x c d h is done =
    sym (ap (λ (ts : Trees). all_surplus ts c) (split_at xs i x h is)
    ∙ ap (λ (answer : Checked Context). then answer (λ e. all_surplus (trees init_view (drop (i + 1) xs)) e)) done)

pub surplus_fails : (xs : List Init) (i : ℕ) (x : Init) (c : Context) (refusal : Refusal) → i < length xs → x ≡ get_or xs i x → surplus (init_view x) c ≡ Err refusal →
    all_surplus (trees init_view (drop i xs)) c ≡ Err refusal
unfolding all_surplus
surplus_fails xs i x c refusal h is failed =
    ap (λ (ts : Trees). all_surplus ts c) (split_at xs i x h is)
    ∙ ap (λ (answer : Checked Context). then answer (λ e. all_surplus (trees init_view (drop (i + 1) xs)) e)) failed

pub surplus_end : (xs : List Init) (i : ℕ) (c : Context) → length xs ≤ i → all_surplus (trees init_view (drop i xs)) c ≡ Ok c
unfolding all_surplus
surplus_end xs i c h = ap (λ (ts : Trees). all_surplus ts c) (none_left xs i h)

-- those for parts

module _ (line : ℕ) (in_scalar : Bool) (xs : List Init) (i : ℕ) where
  pub part_next : (x : Init) (part : PlainType × ℕ) (parts : List (PlainType × ℕ)) (t u : Target) (c d : Context) → i < length xs → x ≡ get_or xs i x →
      initialize (init_view x) in_scalar part.0 part.1 t c ≡ Ok (d, u) →
      initialize_parts line (trees init_view (drop (i + 1) xs)) in_scalar parts u d ≡ initialize_parts line (trees init_view (drop i xs)) in_scalar (part ∷ parts) t c
  unfolding initialize_parts
  part_next x part parts t u c d h is done =
      sym (ap (λ (ts : Trees). initialize_parts line ts in_scalar (part ∷ parts) t c) (split_at xs i x h is)
      ∙ ap (λ (answer : Filled). then answer (λ e. initialize_parts line (trees init_view (drop (i + 1) xs)) in_scalar parts e.1 e.0)) done)

  pub part_fails : (x : Init) (part : PlainType × ℕ) (parts : List (PlainType × ℕ)) (t : Target) (c : Context) (refusal : Refusal) → i < length xs → x ≡ get_or xs i x →
      initialize (init_view x) in_scalar part.0 part.1 t c ≡ Err refusal →
      initialize_parts line (trees init_view (drop i xs)) in_scalar (part ∷ parts) t c ≡ Err refusal
  unfolding initialize_parts
  part_fails x part parts t c refusal h is failed =
      ap (λ (ts : Trees). initialize_parts line ts in_scalar (part ∷ parts) t c) (split_at xs i x h is)
      ∙ ap (λ (answer : Filled). then answer (λ e. initialize_parts line (trees init_view (drop (i + 1) xs)) in_scalar parts e.1 e.0)) failed

  pub parts_end : (parts : List (PlainType × ℕ)) (t : Target) (c : Context) → length xs ≤ i →
      initialize_parts line (trees init_view (drop i xs)) in_scalar parts t c ≡ Ok (c, t)
  unfolding initialize_parts
  parts_end parts t c h = ap (λ (ts : Trees). initialize_parts line ts in_scalar parts t c) (none_left xs i h)

  too_many : (trees : Trees) (tree : Tree) (rest : Trees) (t : Target) (c : Context) → trees ≡ tree ▹ rest →
      initialize_parts line trees in_scalar [] t c ≡ then (all_surplus trees c) (λ d. refused Assignment line)
  unfolding initialize_parts
  too_many trees tree rest t c h =
      ap (λ (ts : Trees). initialize_parts line ts in_scalar [] t c) h
      ∙ sym (ap (λ (ts : Trees). let answer : Filled = then (all_surplus ts c) (λ d. refused Assignment line) in answer) h)

  pub parts_over : (x : Init) (t : Target) (c d : Context) → i < length xs → x ≡ get_or xs i x → all_surplus (trees init_view (drop i xs)) c ≡ Ok d →
      initialize_parts line (trees init_view (drop i xs)) in_scalar [] t c ≡ refused Assignment line
  parts_over x t c d h is done =
      too_many (trees init_view (drop i xs)) (init_view x) (trees init_view (drop (i + 1) xs)) t c (split_at xs i x h is)
      ∙ ap (λ (answer : Checked Context). let whole : Filled = then answer (λ d. refused Assignment line) in whole) done

  pub parts_over_fail : (x : Init) (t : Target) (c : Context) (refusal : Refusal) → i < length xs → x ≡ get_or xs i x → all_surplus (trees init_view (drop i xs)) c ≡ Err refusal →
      initialize_parts line (trees init_view (drop i xs)) in_scalar [] t c ≡ Err refusal
  parts_over_fail x t c refusal h is failed =
      too_many (trees init_view (drop i xs)) (init_view x) (trees init_view (drop (i + 1) xs)) t c (split_at xs i x h is)
      ∙ ap (λ (answer : Checked Context). let whole : Filled = then answer (λ d. refused Assignment line) in whole) failed

-- elements in turn

pub element_first : (asked n offset size : ℕ) (element : PlainType) → 0 < asked → 0 < n →
    elements asked n offset size element ≡ (element, offset) ∷ elements (asked - 1) (n - 1) (offset + size) size element
element_first zero n offset size element h k = absurd (omega (arith, h))
element_first (suc asked) zero offset size element h k = absurd (omega (arith, k))
element_first (suc asked) (suc n) offset size element h k =
    let a : asked ≡ suc asked - 1 = omega arith in
    let b : n ≡ suc n - 1 = omega arith in
    ap (λ (m : ℕ). (element, offset) ∷ elements m n (offset + size) size element) a
    ∙ ap (λ (m : ℕ). (element, offset) ∷ elements (suc asked - 1) m (offset + size) size element) b

pub no_elements : (asked offset size : ℕ) (element : PlainType) → elements asked 0 offset size element ≡ []
no_elements zero offset size element = refl
no_elements (suc asked) offset size element = refl

-- a scalar is one part
pub one_element : (inits : Trees) (line : ℕ) (in_scalar : Bool) (asked offset : ℕ) (type : PlainType) (t : Target) (c : Context) → count inits ≡ asked →
    initialize_parts line inits in_scalar (elements asked 1 offset 0 type) t c ≡ initialize_parts line inits in_scalar ((type, offset) ∷ []) t c
unfolding initialize_parts
one_element none line in_scalar asked offset type t c h = refl
one_element (tree ▹ rest) line in_scalar zero offset type t c h = absurd (omega (arith, h))
one_element (tree ▹ rest) line in_scalar (suc asked) offset type t c h =
    ap (λ (parts : List (PlainType × ℕ)). initialize_parts line (tree ▹ rest) in_scalar ((type, offset) ∷ parts) t c) (no_elements asked (offset + 0) 0 type)

-- parts that no initializer is for do not matter
pub enough_parts : (inits : Trees) (line : ℕ) (in_scalar : Bool) (parts : List (PlainType × ℕ)) (t : Target) (c : Context) →
    initialize_parts line inits in_scalar (take (count inits) parts) t c ≡ initialize_parts line inits in_scalar parts t c
unfolding initialize_parts
enough_parts none line in_scalar parts t c = refl
enough_parts (tree ▹ rest) line in_scalar [] t c = refl
enough_parts (tree ▹ rest) line in_scalar (part ∷ parts) t c =
    then_same (initialize tree in_scalar part.0 part.1 t c) _ _ (λ d. enough_parts rest line in_scalar parts d.1 d.0)

-- the same of initializers in a list
pub one_for : (list : List Init) (line : ℕ) (in_scalar : Bool) (offset : ℕ) (type : PlainType) (t : Target) (c : Context) →
    initialize_parts line (trees init_view list) in_scalar (elements (length list) 1 offset 0 type) t c ≡ initialize_parts line (trees init_view list) in_scalar ((type, offset) ∷ []) t c
one_for list line in_scalar offset type t c =
    one_element (trees init_view list) line in_scalar (length list) offset type t c (count_trees list)

pub enough_for : (list : List Init) (line : ℕ) (in_scalar : Bool) (parts : List (PlainType × ℕ)) (t : Target) (c : Context) →
    initialize_parts line (trees init_view list) in_scalar (take (length list) parts) t c ≡ initialize_parts line (trees init_view list) in_scalar parts t c
enough_for list line in_scalar parts t c =
    ap (λ (n : ℕ). initialize_parts line (trees init_view list) in_scalar (take n parts) t c) (sym (count_trees list))
    ∙ enough_parts (trees init_view list) line in_scalar parts t c
