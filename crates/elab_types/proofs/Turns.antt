-- Lists that are walked over in turn: what is left decides.
use Rattle.std.proofs.Common.{◌≡◌, ℕ, suc, List, [], ◌∷◌, ◌++◌, map, length, drop, get_or, ◌<◌, ◌≤◌, ◌+◌, Ok, Err, refl, sym, ap, ◌∙◌, add-one}
use Rattle.std.proofs.lemmas.List.{drop_all, map-append}
use Rattle.std.proofs.Math.Seq.{drop-cons}
use Rattle.c_tree.specs.Tree.{Tree, Trees, none, ◌▹◌}
use Rattle.c_tree.specs.StatementView.{trees}
use Rattle.c_decls.specs.declared.refusal.TypeError.{TypeError}
use Rattle.c_decls.specs.declared.refusal.TypeError.TheVariants as e
use Rattle.c_decls.specs.Refusals.{Checked, Meets, then}
use Rattle.elaboration.specs.Context.{Context, With}

-- what is done in three parts
pub then_then : {A B C : Type 0} (first : Checked A) (next : A → Checked B) (last : B → Checked C) →
    then (then first next) last ≡ then first (λ a. then (next a) last)
then_then (Ok a) next last = refl
then_then (Err refusal) next last = refl

-- the same after the first part
pub then_same : {A B : Type 0} (first : Checked A) (next other : A → Checked B) → ((a : A) → next a ≡ other a) →
    then first next ≡ then first other
then_same (Ok a) next other same = same a
then_same (Err refusal) next other same = refl

-- what is refused stays refused
pub refused_then : {A B V W : Type 0} (from : V → A) (to : W → B) (error : TypeError) (first : Checked A) (next : A → Checked B) →
    Meets from (Err error) first → Meets to (Err error) (then first next)
refused_then from to (e.Bad kind line) first next h = ap (λ w. then w next) h
refused_then from to e.NoMemory first next h = tt

module _ {E A B : Type 0} (view : E → Tree) (step : E → A → Context → With A) (walk : Trees → A → Context → Checked B)
    (finish : A → Context → B) (ends : (a : A) (c : Context) → walk none a c ≡ Ok (finish a c))
    (goes : (x : E) (rest : Trees) (a : A) (c : Context) → walk (view x ▹ rest) a c ≡ then (step x a c) (λ m. walk rest m.1 m.0)) where
  -- what is left from a place on
  abbrev pub left : List E → ℕ → A → Context → Checked B
  left list i a c = walk (trees view (drop i list)) a c

  pub left_first : (list : List E) (i : ℕ) (item : E) (a : A) (c : Context) → item ≡ get_or list i item → i < length list →
      left list i a c ≡ then (step item a c) (λ m. left list (suc i) m.1 m.0)
  left_first list i item a c at below =
      ap (λ items. walk (trees view items) a c) (drop-cons list i item below ∙ ap (λ x. x ∷ drop (suc i) list) (sym at))
      ∙ goes item (trees view (drop (suc i) list)) a c

  -- one step on
  pub left_next : (list : List E) (i : ℕ) (item : E) (a b : A) (c d : Context) (whole : Checked B) →
      item ≡ get_or list i item → i < length list → step item a c ≡ Ok (d, b) →
      left list i a c ≡ whole → left list (i + 1) b d ≡ whole
  left_next list i item a b c d whole at below stepped so_far =
      ap (λ j. left list j b d) (add-one i)
      ∙ sym (left_first list i item a c at below ∙ ap (λ s. then s (λ m. left list (suc i) m.1 m.0)) stepped)
      ∙ so_far

  -- a step that is refused
  pub left_refused : {V W : Type 0} (from : V → Context × A) (to : W → B) (list : List E) (i : ℕ) (item : E) (a : A) (c : Context)
      (error : TypeError) (whole : Checked B) → item ≡ get_or list i item → i < length list →
      left list i a c ≡ whole → Meets from (Err error) (step item a c) → Meets to (Err error) whole
  left_refused from to list i item a c (e.Bad kind line) whole at below so_far stepped =
      sym so_far ∙ left_first list i item a c at below ∙ ap (λ s. then s (λ m. left list (suc i) m.1 m.0)) stepped
  left_refused from to list i item a c e.NoMemory whole at below so_far stepped = tt

  -- nothing is left
  pub left_none : (list : List E) (i : ℕ) (a : A) (c : Context) (whole : Checked B) → length list ≤ i →
      left list i a c ≡ whole → whole ≡ Ok (finish a c)
  left_none list i a c whole done so_far =
      sym so_far ∙ ap (λ items. walk (trees view items) a c) (drop_all i list done) ∙ ends a c

-- an answer behind others
abbrev pub pushed : {X : Type 0} → With X → List X → With (List X)
pushed answer before = then answer (λ d. Ok (d.0, before ++ d.1 ∷ []))

module _ {E X V B : Type 0} (view : E → Tree) (one : E → Context → With X) (walk : Trees → List X → Context → Checked B)
    (finish : List X → Context → B) (ends : (a : List X) (c : Context) → walk none a c ≡ Ok (finish a c))
    (goes : (x : E) (rest : Trees) (a : List X) (c : Context) → walk (view x ▹ rest) a c ≡ then (pushed (one x c) a) (λ m. walk rest m.1 m.0))
    (plain : V → X) where
  -- one answer on
  pub push_next : (list : List E) (i : ℕ) (item : E) (vs ws : List V) (v : V) (c d : Context) (whole : Checked B) →
      item ≡ get_or list i item → i < length list → one item c ≡ Ok (d, plain v) → ws ≡ vs ++ v ∷ [] →
      walk (trees view (drop i list)) (map plain vs) c ≡ whole → walk (trees view (drop (i + 1) list)) (map plain ws) d ≡ whole
  push_next list i item vs ws v c d whole at below answered more so_far =
      ap (λ xs. walk (trees view (drop (i + 1) list)) xs d) (ap (map plain) more ∙ map-append plain vs (v ∷ []))
      ∙ left_next view (λ x a c. pushed (one x c) a) walk finish ends goes list i item (map plain vs) (map plain vs ++ plain v ∷ []) c d whole at below
      (ap (λ a. pushed a (map plain vs)) answered) so_far

  -- an answer that is refused
  pub push_refused : {W Y : Type 0} (from : Y → Context × X) (to : W → B) (list : List E) (i : ℕ) (item : E) (vs : List V) (c : Context)
      (error : TypeError) (whole : Checked B) → item ≡ get_or list i item → i < length list →
      walk (trees view (drop i list)) (map plain vs) c ≡ whole → Meets from (Err error) (one item c) → Meets to (Err error) whole
  push_refused from to list i item vs c (e.Bad kind line) whole at below so_far answered =
      sym so_far ∙ left_first view (λ x a c. pushed (one x c) a) walk finish ends goes list i item (map plain vs) c at below
      ∙ ap (λ a. then (pushed a (map plain vs)) (λ m. walk (trees view (drop (suc i) list)) m.1 m.0)) answered
  push_refused from to list i item vs c e.NoMemory whole at below so_far answered = tt
