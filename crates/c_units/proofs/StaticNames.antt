-- What a unit declares `static`, declaration by declaration.
use Rattle.c_units.proofs.Words.Std.{Bool, List, None, Option, Some, [], ap, drop, get_or, if◌then◌else◌, length, refl, true, ℕ, ◌++◌, ◌+◌, ◌<◌, ◌∙◌, ◌∷◌, ◌≡◌, ◌≤◌}
use Rattle.c_units.proofs.Words.Trees.{Decl, Declarator, Init, Specs, decl_view, declarator_tree, entry_view, first_name, has_static, leads_to_name, name_among, name_of, spec_tree, trees}
use Rattle.c_units.proofs.Words.Units.{all_noted, but_main, entry_names, noted, own_names, static_names}
use Rattle.c_tree.specs.declared.statement.Decl.TheVariants as d
use Rattle.c_units.proofs.Steps.{next_is, end_is}

pub noted_append : (names xs ys : List (List ℕ)) → all_noted names (xs ++ ys) ≡ all_noted (all_noted names xs) ys
noted_append names [] ys = refl
noted_append names (x ∷ xs) ys = noted_append (noted names x) xs ys

name_alone : (name : Option (List ℕ)) → first_name name None ≡ name
name_alone None = refl
name_alone (Some name) = refl

-- the names of an entry
abbrev of_entry : Declarator × Option Init → List (List ℕ)
of_entry entry = but_main (name_of (declarator_tree entry.0))

abbrev of_entries : List (Declarator × Option Init) → List (List ℕ) → List (List ℕ)
of_entries list names = all_noted names (entry_names (trees entry_view list))

one_entry : (entry : Declarator × Option Init) (rest : List (Declarator × Option Init)) (names : List (List ℕ)) →
    of_entries (entry ∷ rest) names ≡ of_entries rest (all_noted names (of_entry entry))
unfolding entry_names name_of name_among leads_to_name
one_entry entry rest names =
    ap (λ (name : Option (List ℕ)). all_noted names (but_main name ++ entry_names (trees entry_view rest))) (name_alone (name_of (declarator_tree entry.0)))
    ∙ noted_append names (of_entry entry) (entry_names (trees entry_view rest))

pub entry_next : (list : List (Declarator × Option Init)) (i : ℕ) (entry : Declarator × Option Init) (names more : List (List ℕ)) →
    i < length list → entry ≡ get_or list i entry → more ≡ all_noted names (but_main (name_of (declarator_tree entry.0))) →
    all_noted more (entry_names (trees entry_view (drop (i + 1) list))) ≡ all_noted names (entry_names (trees entry_view (drop i list)))
entry_next list i entry names more = next_is of_entries (λ entry names. all_noted names (of_entry entry)) one_entry list i entry names more

pub entry_end : (list : List (Declarator × Option Init)) (i : ℕ) (names : List (List ℕ)) → length list ≤ i →
    all_noted names (entry_names (trees entry_view (drop i list))) ≡ names
unfolding entry_names
entry_end list i names h = end_is of_entries list i names h

-- a function that is `static`
pub function_static : (decl : Decl) (line : ℕ) (specs : Specs) (declarator : Declarator) (body : _) (end : ℕ) →
    decl ≡ d.Function line specs declarator body end → has_static (trees spec_tree specs.words.items) ≡ true →
    static_names (decl_view decl) ≡ but_main (name_of (declarator_tree declarator))
unfolding static_names has_static name_of name_among leads_to_name
function_static decl line specs declarator body end is here =
    ap (λ (one : Decl). static_names (decl_view one)) is
    ∙ ap (λ (b : Bool). if b then but_main (first_name (name_of (declarator_tree declarator)) None) else []) here
    ∙ ap (λ (name : Option (List ℕ)). but_main name) (name_alone (name_of (declarator_tree declarator)))

pub decl_next : (list : List Decl) (i : ℕ) (decl : Decl) (names more : List (List ℕ)) → i < length list → decl ≡ get_or list i decl →
    more ≡ all_noted names (static_names (decl_view decl)) →
    own_names (trees decl_view (drop (i + 1) list)) more ≡ own_names (trees decl_view (drop i list)) names
decl_next list i decl names more =
    next_is (λ decls s. own_names (trees decl_view decls) s) (λ decl s. all_noted s (static_names (decl_view decl))) (λ x rest s. refl) list i decl names more

pub decl_end : (list : List Decl) (i : ℕ) (names : List (List ℕ)) → length list ≤ i → own_names (trees decl_view (drop i list)) names ≡ names
decl_end list i names h = end_is (λ decls s. own_names (trees decl_view decls) s) list i names h

pub name_next : (xs : List (List ℕ)) (i : ℕ) (x : List ℕ) (names more : List (List ℕ)) → i < length xs → x ≡ get_or xs i x → more ≡ noted names x →
    all_noted more (drop (i + 1) xs) ≡ all_noted names (drop i xs)
name_next xs i x names more = next_is (λ xs s. all_noted s xs) (λ x s. noted s x) (λ x rest s. refl) xs i x names more

pub name_end : (xs : List (List ℕ)) (i : ℕ) (names : List (List ℕ)) → length xs ≤ i → all_noted names (drop i xs) ≡ names
name_end xs i names h = end_is (λ xs s. all_noted s xs) xs i names h
