-- Lists that are walked over in turn: what is done so far stands before what is left.
use Rattle.std.proofs.Common.{◌≡◌, ℕ, suc, List, [], ◌∷◌, ◌++◌, map, length, drop, get_or, ◌<◌, ◌≤◌, ◌+◌, Ok, Err, refl, sym, ap, ◌∙◌, append_assoc, add-one}
use Rattle.std.proofs.lemmas.List.{append-nil, drop_all, map-append}
use Rattle.std.proofs.Math.Seq.{drop-cons}
use Rattle.c_tree.specs.Tree.{Tree, Trees, none, ◌▹◌}
use Rattle.c_tree.specs.StatementView.{trees}
use Rattle.c_decls.specs.declared.refusal.TypeError.{TypeError}
use Rattle.c_decls.specs.declared.refusal.TypeError.TheVariants as e
use Rattle.c_decls.specs.Refusals.{Checked, refused, then}
use Rattle.c_decls.specs.TypeNames.{Context}
use Rattle.c_typing.specs.Parts.{behind}
use Rattle.c_typing.specs.Walks.{Walks}

module _ {B : Type 0} (step : Tree → Context → Checked (Context × B)) where
  -- each in turn
  abbrev pub in_turn : Trees → Context → Checked (Context × List B)
  in_turn none c = Ok (c, [])
  in_turn (tree ▹ rest) c =
      then (step tree c) (λ d. then (in_turn rest d.0) (λ more. Ok (more.0, d.1 ∷ more.1)))

-- one more in front
behind_more : {B : Type 0} (before : List B) (x : B) (answer : Checked (Context × List B)) →
    behind before (then answer (λ more. Ok (more.0, x ∷ more.1))) ≡ behind (before ++ x ∷ []) answer
behind_more before x (Ok more) =
    ap (λ xs. let found : Checked (Context × _) = Ok (more.0, xs) in found) (sym (append_assoc before (x ∷ []) more.1))
behind_more before x (Err refusal) = refl

-- nothing in front
pub behind_none : {B : Type 0} (answer : Checked (Context × List B)) → answer ≡ behind [] answer
behind_none (Ok more) = refl
behind_none (Err refusal) = refl

-- what is refused stays refused
pub refused_next : {A B V W : Type 0} (from : A → B) (to : V → W) (c d : Context) (error : TypeError)
    (whole : Checked (Context × B)) (next : Context × B → Checked (Context × W)) →
    Walks from c (Err error) whole → Walks to d (Err error) (then whole next)
refused_next from to c d (e.Bad kind line) whole next h = ap (λ w. then w next) h
refused_next from to c d e.NoMemory whole next h = tt

module _ {E B : Type 0} (view : E → Tree) (step : Tree → Context → Checked (Context × B)) where
  -- what is left from a place on
  abbrev pub left : List E → ℕ → Context → Checked (Context × List B)
  left list i c = in_turn step (trees view (drop i list)) c

  left_first : (list : List E) (i : ℕ) (item : E) (c : Context) → item ≡ get_or list i item → i < length list →
      left list i c ≡ then (step (view item) c) (λ d. then (left list (suc i) d.0) (λ more. Ok (more.0, d.1 ∷ more.1)))
  left_first list i item c at below =
      ap (λ items. in_turn step (trees view items) c)
      (drop-cons list i item below ∙ ap (λ x. x ∷ drop (suc i) list) (sym at))

  module _ {V : Type 0} (plain : V → B) where
    -- one step on
    pub turned : (list : List E) (i : ℕ) (item : E) (c d : Context) (vs ws : List V) (v : V) (whole : Checked (Context × List B)) →
        item ≡ get_or list i item → i < length list → step (view item) c ≡ Ok (d, plain v) → ws ≡ vs ++ v ∷ [] →
        whole ≡ behind (map plain vs) (left list i c) → whole ≡ behind (map plain ws) (left list (i + 1) d)
    turned list i item c d vs ws v whole at below stepped pushed so_far =
        so_far
        ∙ ap (behind (map plain vs)) (left_first list i item c at below
        ∙ ap (λ s. then s (λ d. then (left list (suc i) d.0) (λ more. Ok (more.0, d.1 ∷ more.1)))) stepped)
        ∙ behind_more (map plain vs) (plain v) (left list (suc i) d)
        ∙ ap (λ xs. behind xs (left list (suc i) d)) (sym (map-append plain vs (v ∷ [])) ∙ ap (map plain) (sym pushed))
        ∙ ap (λ j. behind (map plain ws) (left list j d)) (sym (add-one i))

    -- a step that is refused
    pub turn_refused : {W X : Type 0} (from : X → B) (to : W → List B) (list : List E) (i : ℕ) (item : E) (c d : Context) (vs : List V)
        (error : TypeError) (whole : Checked (Context × List B)) → item ≡ get_or list i item → i < length list →
        whole ≡ behind (map plain vs) (left list i c) → Walks from d (Err error) (step (view item) c) →
        Walks to d (Err error) whole
    turn_refused from to list i item c d vs (e.Bad kind line) whole at below so_far stepped =
        so_far
        ∙ ap (behind (map plain vs)) (left_first list i item c at below
        ∙ ap (λ s. then s (λ d. then (left list (suc i) d.0) (λ more. Ok (more.0, d.1 ∷ more.1)))) stepped)
    turn_refused from to list i item c d vs e.NoMemory whole at below so_far stepped = tt

    -- nothing is left
    pub turned_all : (list : List E) (i : ℕ) (c : Context) (vs : List V) (whole : Checked (Context × List B)) → length list ≤ i →
        whole ≡ behind (map plain vs) (left list i c) → whole ≡ Ok (c, map plain vs)
    turned_all list i c vs whole done so_far =
        so_far
        ∙ ap (λ items. behind (map plain vs) (in_turn step (trees view items) c)) (drop_all i list done)
        ∙ ap (λ xs. let found : Checked (Context × List B) = Ok (c, xs) in found) (append-nil (map plain vs))
