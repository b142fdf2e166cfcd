-- External declarations that are gone through in turn.
use Rattle.c_units.proofs.Words.Std.{Bool, List, None, Option, Some, [], ap, ap₂, drop, false, get_or, is_some, length, map, map-append, option_to_list, refl, set, sym, take, true, ℕ, ◌++◌, ◌+◌, ◌<◌, ◌∙◌, ◌∷◌, ◌≡◌, ◌≤◌}
use Rattle.c_units.proofs.Words.Trees.{Decl, Declarator, Init, Node, Tree, Trees, decl_view, declarator_tree, entry_view, init_view, maybe, none, trees, ◌▹◌}
use Rattle.c_units.proofs.Words.Units.{Names, Said, are_plain, behind, behind_declarator, behind_entries, behind_external, each_said, inits_of, joined, renamed, renamed_declarator, renamed_entries, renamed_external, role_of, said_view}
use Rattle.c_tree.specs.Forms as f
use Rattle.c_units.specs.declared.said.Said.{Said as Kept}
use Rattle.c_units.proofs.Steps.{drop_next, drop_end}
use Rattle.c_units.proofs.ItemTurns.{AreLeft, next_leads, all_lead}

abbrev Entry : Type 0
Entry = Declarator × Option Init

module _ (line : ℕ) (typedef : Bool) where
  -- one name of a declaration at file scope
  made_by : (declarator : Declarator) (init : Option Init) (s : Names) →
      renamed_entries line typedef (entry_view (declarator, init) ▹ none) s ≡
      Node f.Entry (Node f.Declared (renamed_declarator (role_of typedef (inits_of init)) line (declarator_tree declarator) s ▹ none) ▹
      renamed (maybe f.MaybeInit init_view init) (behind_declarator (role_of typedef (inits_of init)) line (declarator_tree declarator) s) ▹ none) ▹ none
  unfolding renamed_entries
  made_by declarator None s = refl
  made_by declarator (Some one) s = refl

  pub entry_made : (entry : Entry) (s : Names) →
      renamed_entries line typedef (entry_view entry ▹ none) s ≡
      Node f.Entry (Node f.Declared (renamed_declarator (role_of typedef (inits_of entry.1)) line (declarator_tree entry.0) s ▹ none) ▹
      renamed (maybe f.MaybeInit init_view entry.1) (behind_declarator (role_of typedef (inits_of entry.1)) line (declarator_tree entry.0) s) ▹ none) ▹ none
  entry_made entry s = made_by entry.0 entry.1 s

  known_by : (declarator : Declarator) (init : Option Init) (rest : Trees) (s : Names) →
      behind_entries line typedef (entry_view (declarator, init) ▹ rest) s ≡
      behind_entries line typedef rest (behind (maybe f.MaybeInit init_view init) (behind_declarator (role_of typedef (inits_of init)) line (declarator_tree declarator) s))
  unfolding behind_entries
  known_by declarator None rest s = refl
  known_by declarator (Some one) rest s = refl

  none_known : (s : Names) → behind_entries line typedef none s ≡ s
  unfolding behind_entries
  none_known s = refl

  none_made : (s : Names) → renamed_entries line typedef none s ≡ none
  unfolding renamed_entries
  none_made s = refl

  pub entry_known : (entry : Entry) (s : Names) →
      behind_entries line typedef (entry_view entry ▹ none) s ≡
      behind (maybe f.MaybeInit init_view entry.1) (behind_declarator (role_of typedef (inits_of entry.1)) line (declarator_tree entry.0) s)
  entry_known entry s = known_by entry.0 entry.1 none s ∙ none_known _

  first_known : (entry : Entry) (rest : Trees) (s : Names) →
      behind_entries line typedef (entry_view entry ▹ rest) s ≡ behind_entries line typedef rest (behind_entries line typedef (entry_view entry ▹ none) s)
  first_known entry rest s = known_by entry.0 entry.1 rest s ∙ ap (λ (u : Names). behind_entries line typedef rest u) (sym (entry_known entry s))

  more_by : (declarator : Declarator) (init : Option Init) (rest : Trees) (s : Names) →
      renamed_entries line typedef (entry_view (declarator, init) ▹ rest) s ≡
      Node f.Entry (Node f.Declared (renamed_declarator (role_of typedef (inits_of init)) line (declarator_tree declarator) s ▹ none) ▹
      renamed (maybe f.MaybeInit init_view init) (behind_declarator (role_of typedef (inits_of init)) line (declarator_tree declarator) s) ▹ none) ▹
      renamed_entries line typedef rest (behind_entries line typedef (entry_view (declarator, init) ▹ none) s)
  unfolding renamed_entries behind_entries
  more_by declarator None rest s = refl
  more_by declarator (Some one) rest s = refl

  same_first : (x y : Tree) → x ▹ none ≡ y ▹ none → x ≡ y
  same_first x y h = cc

  first_made : (entry r : Entry) (rest : Trees) (s : Names) → entry_view r ▹ none ≡ renamed_entries line typedef (entry_view entry ▹ none) s →
      renamed_entries line typedef (entry_view entry ▹ rest) s ≡
      entry_view r ▹ renamed_entries line typedef rest (behind_entries line typedef (entry_view entry ▹ none) s)
  first_made entry r rest s h =
      more_by entry.0 entry.1 rest s
      ∙ ap (λ (x : Tree). x ▹ renamed_entries line typedef rest (behind_entries line typedef (entry_view entry ▹ none) s))
      (sym (same_first (entry_view r) _ (h ∙ entry_made entry s)))

  -- the names that are left come behind those that are made, and what is known so far
  abbrev pub Leads : List Entry → List Entry → ℕ → Names → Names → Type 0
  Leads xs ys i s first =
      (joined (trees entry_view (take i ys)) (renamed_entries line typedef (trees entry_view (drop i ys)) s) ≡ renamed_entries line typedef (trees entry_view xs) first)
      × (behind_entries line typedef (trees entry_view (drop i ys)) s ≡ behind_entries line typedef (trees entry_view xs) first)

  pub entries_next : (xs ys : List Entry) (i : ℕ) (x r : Entry) (s d first : Names) → i < length xs → AreLeft xs ys i → Leads xs ys i s first →
      entry_view r ▹ none ≡ renamed_entries line typedef (entry_view (get_or ys i x) ▹ none) s → d ≡ behind_entries line typedef (entry_view (get_or ys i x) ▹ none) s →
      AreLeft xs (set ys i r) (i + 1) × Leads xs (set ys i r) (i + 1) d first
  entries_next =
      next_leads entry_view (renamed_entries line typedef) (behind_entries line typedef) (λ x r s. entry_view r ▹ none ≡ renamed_entries line typedef (entry_view x ▹ none) s)
      (λ x s. behind_entries line typedef (entry_view x ▹ none) s) (λ x r rest s h. first_made x r rest s h) first_known none_made none_known

  all_entries : (xs ys : List Entry) (i : ℕ) (s first : Names) → length xs ≤ i → AreLeft xs ys i → Leads xs ys i s first →
      (trees entry_view ys ≡ renamed_entries line typedef (trees entry_view xs) first) × (s ≡ behind_entries line typedef (trees entry_view xs) first)
  all_entries =
      all_lead entry_view (renamed_entries line typedef) (behind_entries line typedef) (λ x r s. entry_view r ▹ none ≡ renamed_entries line typedef (entry_view x ▹ none) s)
      (λ x s. behind_entries line typedef (entry_view x ▹ none) s) (λ x r rest s h. first_made x r rest s h) first_known none_made none_known

  pub entries_made : (xs ys : List Entry) (i : ℕ) (s first : Names) → length xs ≤ i → AreLeft xs ys i → Leads xs ys i s first →
      trees entry_view ys ≡ renamed_entries line typedef (trees entry_view xs) first
  entries_made xs ys i s first h left leads = (all_entries xs ys i s first h left leads).0

  pub entries_known : (xs ys : List Entry) (i : ℕ) (s first : Names) → length xs ≤ i → AreLeft xs ys i → Leads xs ys i s first →
      s ≡ behind_entries line typedef (trees entry_view xs) first
  entries_known xs ys i s first h left leads = (all_entries xs ys i s first h left leads).1

-- whether names have no initializers
plain_by : (declarator : Declarator) (init : Option Init) (rest : Trees) → is_some init ≡ false → are_plain (entry_view (declarator, init) ▹ rest) ≡ are_plain rest
unfolding are_plain
plain_by declarator None rest h = refl
plain_by declarator (Some one) rest h = cc

other_by : (declarator : Declarator) (init : Option Init) (rest : Trees) → is_some init ≡ true → are_plain (entry_view (declarator, init) ▹ rest) ≡ false
unfolding are_plain
other_by declarator None rest h = cc
other_by declarator (Some one) rest h = refl

pub plain_next : (xs : List Entry) (i : ℕ) (x : Entry) → i < length xs → x ≡ get_or xs i x → is_some x.1 ≡ false →
    are_plain (trees entry_view (drop (i + 1) xs)) ≡ are_plain (trees entry_view (drop i xs))
plain_next xs i x h is e =
    sym (ap (λ (l : List Entry). are_plain (trees entry_view l)) (drop_next xs i x h is) ∙ plain_by x.0 x.1 (trees entry_view (drop (i + 1) xs)) e)

pub plain_found : (xs : List Entry) (i : ℕ) (x : Entry) → i < length xs → x ≡ get_or xs i x → is_some x.1 ≡ true →
    are_plain (trees entry_view (drop i xs)) ≡ false
plain_found xs i x h is e =
    ap (λ (l : List Entry). are_plain (trees entry_view l)) (drop_next xs i x h is) ∙ other_by x.0 x.1 (trees entry_view (drop (i + 1) xs)) e

pub plain_end : (xs : List Entry) (i : ℕ) → length xs ≤ i → are_plain (trees entry_view (drop i xs)) ≡ true
unfolding are_plain
plain_end xs i h = ap (λ (l : List Entry). are_plain (trees entry_view l)) (drop_end xs i h)

-- external declarations
cleared : (trees : Trees) (s : Names) → each_said trees (record s { mentions = [] }) ≡ each_said trees s
unfolding each_said
cleared none s = refl
cleared (tree ▹ rest) s = refl

abbrev cleared_of : Names → Names
cleared_of s = record s { mentions = [] }

said_first : (tree : Tree) (rest : Trees) (s : Names) →
    each_said (tree ▹ rest) s ≡ record { tree = renamed_external tree (cleared_of s); mentions = (behind_external tree (cleared_of s)).mentions } ∷ each_said rest (behind_external tree (cleared_of s))
unfolding each_said
said_first tree rest s = refl

pub said_none : (s : Names) → each_said none s ≡ []
unfolding each_said
said_none s = refl

-- what is known behind some, where nothing was said yet
abbrev pub behind_all : Trees → Names → Names
behind_all none s = cleared_of s
behind_all (tree ▹ rest) s = behind_all rest (behind_external tree (cleared_of s))

all_next : (done : List Decl) (x : Decl) (s : Names) →
    behind_all (trees decl_view (done ++ x ∷ [])) s ≡ cleared_of (behind_external (decl_view x) (behind_all (trees decl_view done) s))
all_next [] x s = refl
all_next (y ∷ done) x s = all_next done x (behind_external (decl_view y) (cleared_of s))

each_next : (done : List Decl) (x : Decl) (s : Names) →
    each_said (trees decl_view (done ++ x ∷ [])) s ≡
    each_said (trees decl_view done) s ++ record { tree = renamed_external (decl_view x) (behind_all (trees decl_view done) s); mentions = (behind_external (decl_view x) (behind_all (trees decl_view done) s)).mentions } ∷ []
unfolding each_said
each_next [] x s = refl
each_next (y ∷ done) x s =
    ap (λ (l : List Said). record { tree = renamed_external (decl_view y) (cleared_of s); mentions = (behind_external (decl_view y) (cleared_of s)).mentions } ∷ l)
    (each_next done x (behind_external (decl_view y) (cleared_of s)))

-- one declaration more
pub said_next : (done : List Decl) (x : Decl) (all : List Kept) (one : Kept) (s now after : Names) →
    map said_view all ≡ each_said (trees decl_view done) s → cleared_of now ≡ behind_all (trees decl_view done) s →
    said_view one ≡ record { tree = renamed_external (decl_view x) (cleared_of now); mentions = (behind_external (decl_view x) (cleared_of now)).mentions } →
    after ≡ cleared_of (behind_external (decl_view x) (cleared_of now)) →
    (map said_view (all ++ one ∷ []) ≡ each_said (trees decl_view (done ++ x ∷ [])) s) × (cleared_of after ≡ behind_all (trees decl_view (done ++ x ∷ [])) s)
said_next done x all one s now after h g is new = (
  map-append said_view all (one ∷ [])
      ∙ ap₂ (λ (l : List Said) (y : Said). l ++ y ∷ []) h (is ∙ ap (λ (u : Names). record { tree = renamed_external (decl_view x) u; mentions = (behind_external (decl_view x) u).mentions }) g)
      ∙ sym (each_next done x s),
  ap cleared_of new ∙ ap (λ (u : Names). cleared_of (behind_external (decl_view x) u)) g ∙ sym (all_next done x s),
)

-- a declaration that is alone in a list leaves it
pub alone_leaves : (list rest : List Decl) (one : Decl) (popped : Option Decl) → list ≡ [] ++ one ∷ [] → list ≡ rest ++ option_to_list popped →
    is_some popped ≡ true → popped ≡ Some one
alone_leaves list [] one (Some last) h g e = let same : one ∷ [] ≡ last ∷ [] = sym h ∙ g in cc
alone_leaves list (first ∷ []) one (Some last) h g e = let same : one ∷ [] ≡ first ∷ last ∷ [] = sym h ∙ g in cc
alone_leaves list (first ∷ second ∷ rest) one (Some last) h g e = let same : one ∷ [] ≡ first ∷ second ∷ (rest ++ last ∷ []) = sym h ∙ g in cc
alone_leaves list rest one None h g e = cc
