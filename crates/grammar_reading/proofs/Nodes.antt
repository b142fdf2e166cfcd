-- A node of a form, made of the parts that were read, and lists of parts.
use Rattle.std.proofs.Common.{◌≡◌, ℕ, zero, suc, ◌+◌, ◌<◌, ◌≤◌, Bool, true, false, List, [], ◌∷◌, drop, Option, Some, None, refl, sym, ap, ◌∙◌, subst, arith, ◌++◌}
use Rattle.std.specs.Prelude.{if◌then◌else◌, nat_lt, ◌||◌}
use Rattle.std.proofs.lemmas.Bool.{ltb-true}
use Rattle.c_lexer.specs.declared.token.Token.{Token}
use Rattle.c_tree.specs.Forms.{Form}
use Rattle.c_tree.specs.Places.{Place, Expression}
use Rattle.c_tree.specs.Tree.{Tree, Trees, Leaf, At, Node, none, ◌▹◌, count}
use Rattle.c_tree.specs.Grammar.{Item, Here, Part, shape, home, form_home, some, mark, rows, behind_commas, commas}
use Rattle.c_tree.specs.Spelling.{spell, spell_all, filled, Spells}
use Rattle.c_tree.specs.Scopes.{Known, Scope, is_scope, places, after, after_all, left}
use Rattle.c_tree.specs.Allowed.{Takes, IsExpression, Allowed, AllAllowed, obeys}
use Rattle.c_tree.specs.Depth.{depth, greatest_depth, layers, layers_all, layer, below, greatest_below, weight, is_of_declarator}
use Rattle.c_tree.specs.Words.{Mark}
use Rattle.c_tree.specs.declared.word.Sign.TheVariants as s
use Rattle.grammar_reading.specs.State.{State, word_at, line_at, skip, back_to, past, at_mark}
use Rattle.grammar_reading.specs.Reading.{Reader, parts_of, node, fixed, in_front, grown, joined, snoc, commas_by, commas_from, list_by, list_from, scoped}
use Rattle.grammar_reading.specs.Laws.{behind}
use Rattle.grammar_reading.specs.ReadingEquations.{none_some, some_same, bind_some}
use Rattle.grammar_reading.proofs.Words.{if_some, Has, takes_first}
use Rattle.grammar_reading.proofs.Forms.{is_plain, is_closed, made, plain, closed_form, IsExprForm, IsGrownForm, front_some, Took, PartsTook, Sound, AllSound, Opens, Also, has_specs, has_words, opens, open_has, parts_took, took_both, took_one, took_line, is_specs, took_word}

-- Depth and scope of nodes

pub depth_flat : (form : Form) (parts : Trees) → is_of_declarator form ≡ false → depth (Node form parts) ≡ weight form + greatest_depth parts
unfolding layers below
depth_flat form parts e =
    ap (λ b. (if b then layer form + layers_all parts else 0) + (if b then greatest_below parts else weight form + greatest_depth parts)) e
    ∙ omega arith

pub scope_eq : (a : Scope) (names : List Known) (flag : Bool) → a.names ≡ names → a.typedef ≡ flag → a ≡ made names flag
scope_eq a names flag e h = ap (λ n. made n a.typedef) e ∙ ap (λ t. made names t) h

-- a place that is no scope of its own
pub behind_after : (place : Place) (tree : Tree) (scope : Scope) → is_scope place ≡ false → after tree scope ≡ behind place tree scope
behind_after place tree scope e = sym (ap (λ b. if b then scope else after tree scope) e)

-- A node of a form, by its rules, its depth, and the words and the scope that it leaves

pub form_took : (bound inside : ℕ) (place : Place) (form : Form) (items : List Item) (state inner rest : State) (parts : Trees) → PartsTook inside items state parts inner → shape form (count parts) ≡ items → obeys form parts state.scope ≡ true → Takes place (Node form parts) → depth (Node form parts) < bound → rest.words ≡ inner.words → rest.scope ≡ left form parts state.scope (after_all parts (places items) state.scope) → (is_specs place ≡ false → rest.scope.typedef ≡ state.scope.typedef) → is_scope place ≡ false → Opens (has_words place) state.words → Also place state (Node form parts) rest → Took bound place state (Node form parts) rest
unfolding Allowed spell after
form_took bound inside place form items state inner rest parts took shaped free stands deep same scoped flag outside opening also =
    record {
      stands = stands;
      allowed = (free, subst (λ l. AllAllowed parts (places l) state.scope) (sym shaped) took.allowed);
      spelled = subst (λ (ws : List Token). Spells (filled (shape form (count parts)) (spell_all parts)) state.words ws) (sym same) (subst (λ l. Spells (filled l (spell_all parts)) state.words inner.words) (sym shaped) took.spelled);
      deep = deep;
      scope = scoped ∙ ap (λ l. left form parts state.scope (after_all parts (places l) state.scope)) (sym shaped) ∙ behind_after place (Node form parts) state.scope outside;
      flag = flag;
      opens = opening;
      also = also;
    }

-- the scope behind parts without specs, as most forms leave it
pub left_inner : (bound : ℕ) (items : List Item) (state inner : State) (parts : Trees) → PartsTook bound items state parts inner → has_specs (places items) ≡ false → inner.scope ≡ made (after_all parts (places items) state.scope).names state.scope.typedef
left_inner bound items state inner parts took single =
    scope_eq inner.scope (after_all parts (places items) state.scope).names state.scope.typedef (ap (λ (sc : Scope). sc.names) took.scope) (took.flag single)

-- a plain form
pub took_node : (bound inside : ℕ) (place : Place) (form : Form) (items : List Item) (state rest : State) (parts : Trees) → is_plain form ≡ true → PartsTook inside items state parts rest → shape form (count parts) ≡ items → has_specs (places items) ≡ false → Takes place (Node form parts) → is_scope place ≡ false → weight form + greatest_depth parts < bound → Opens (has_words place) state.words → Also place state (Node form parts) rest → Took bound place state (Node form parts) rest
took_node bound inside place form items state rest parts h took shaped single stands outside deep opening also =
    let facts = plain form h in
    let d = depth_flat form parts facts.flat in
    form_took bound inside place form items state rest rest parts took shaped (facts.free parts state.scope) stands (omega (arith, d, deep)) refl (left_inner inside items state rest parts took single ∙ sym (facts.left parts state.scope (after_all parts (places items) state.scope))) (λ e. took.flag single) outside opening also

-- a form that is a scope
pub took_closed : (bound inside : ℕ) (place : Place) (form : Form) (items : List Item) (state rest : State) (parts : Trees) → is_closed form ≡ true → PartsTook inside items state parts rest → shape form (count parts) ≡ items → Takes place (Node form parts) → is_scope place ≡ false → weight form + greatest_depth parts < bound → Opens (has_words place) state.words → Also place state (Node form parts) (back_to state rest) → Took bound place state (Node form parts) (back_to state rest)
took_closed bound inside place form items state rest parts h took shaped stands outside deep opening also =
    let facts = closed_form form h in
    let d = depth_flat form parts facts.flat in
    form_took bound inside place form items state rest (back_to state rest) parts took shaped (facts.free parts state.scope) stands (omega (arith, d, deep)) refl (sym (facts.left parts state.scope (after_all parts (places items) state.scope))) (λ e. refl) outside opening also

pub node_some : (form : Form) (o : Option (Trees × State)) (x : Tree × State) → node form o ≡ Some x → (y : Trees × State) × (o ≡ Some y) × (Some (Node form y.0, y.1) ≡ Some x)
node_some made None x h = none_some h
node_some made (Some y) x h = (y, refl, h)

-- a part that is a token
pub took_leaf : (bound : ℕ) (place : Place) (state : State) → Has state.words → 0 < bound → Takes place (Leaf (word_at state)) → is_scope place ≡ false → ((words : Has state.words) → Opens (has_words place) state.words) → Also place state (Leaf (word_at state)) (skip state) → Took bound place state (Leaf (word_at state)) (skip state)
unfolding Allowed spell after layers below
took_leaf bound place state has some stands outside opening also =
    record {
      stands = stands;
      allowed = tt;
      spelled = takes_first state.words has;
      deep = some;
      scope = behind_after place (Leaf (word_at state)) state.scope outside;
      flag = λ e. refl;
      opens = opening has;
      also = also;
    }

-- Expressions

pub expr_stands : (level l : ℕ) (form : Form) (parts : Trees) → form_home form ≡ Expression l → l ≤ level → Takes (Expression level) (Node form parts)
unfolding Takes
expr_stands level l made parts e h = subst (IsExpression level) (sym e) h

-- an expression at another place
pub placed : (a b l m : ℕ) (state : State) (tree : Tree) (rest : State) → Took a (Expression l) state tree rest → depth tree < b → Takes (Expression m) tree → Took b (Expression m) state tree rest
unfolding Also is_scope
placed a b l m state tree rest h d stands =
    record {
      stands = stands;
      allowed = h.allowed;
      spelled = h.spelled;
      deep = d;
      scope = h.scope;
      flag = h.flag;
      opens = h.opens;
      also = tt;
    }

-- at a looser place
pub looser : (a b l m : ℕ) (state : State) (tree : Tree) (rest : State) → Took a (Expression l) state tree rest → depth tree < b → l ≤ m → Took b (Expression m) state tree rest
unfolding Takes
looser a b l m state tree rest h d le = placed a b l m state tree rest h d (by (home tree) h.stands) where
  by : (place : Place) → IsExpression l place → IsExpression m place
  by (Expression n) k = omega (arith, k, le)
  by _ k = absurd k

pub expr_parts : (room level l : ℕ) (form : Form) → IsExprForm form l → l ≤ level → 0 < room → (state : State) (parts : Trees) (rest : State) → PartsTook room (shape form zero) state parts rest → Has state.words → Took (suc room) (Expression level) state (Node form parts) rest
unfolding Also is_scope
expr_parts room level l form facts le some state parts rest took has =
    let d = took.deep in
    let w = facts.weighs in
    took_node (suc room) room (Expression level) form (shape form zero) state rest parts facts.plain took (facts.shaped (count parts)) facts.single (expr_stands level l form parts facts.home le) refl (omega (arith, d, w, some)) has tt

pub expr_fixed : (room level l : ℕ) (part : Place → Reader) (form : Form) → IsExprForm form l → l ≤ level → 0 < room → AllSound room part (shape form zero) → Sound (suc room) (Expression level) (fixed part form)
expr_fixed room level l part form facts le some each state x h =
    let a = node_some form (parts_of part (shape form zero) state) x h in
    let b = parts_took room part (shape form zero) each facts.lines state a.0 a.1 in
    subst (λ (z : Tree × State). Took (suc room) (Expression level) state z.0 z.1) (some_same a.2) (expr_parts room level l form facts le some state a.0.0 a.0.1 b.0 (open_has (opens (shape form zero)) state.words facts.begins b.1))

pub expr_grown : (room level l front : ℕ) (part : Place → Reader) (form : Form) → IsGrownForm form front l → l ≤ level → AllSound room part (drop 2 (shape form zero)) → (start state : State) (tree : Tree) → Took (suc room) (Expression front) start tree state → (x : Tree × State) → grown room part form (line_at start) tree state ≡ Some x → Took (suc room) (Expression level) start x.0 x.1
expr_grown room level l front part form facts le each start state tree took x h =
    let items = drop 2 (shape form zero) in
    let a = if_some (nat_lt (depth tree) room) (node form (in_front (At (line_at start)) (in_front tree (parts_of part items state)))) x h in
    let fits : depth tree < room = ltb-true (depth tree) room a.0 in
    let b = node_some form (in_front (At (line_at start)) (in_front tree (parts_of part items state))) x a.1 in
    let c = front_some (At (line_at start)) (in_front tree (parts_of part items state)) b.0 b.1 in
    let d = front_some tree (parts_of part items state) c.0 c.1 in
    let e = parts_took room part items each facts.lines state d.0 d.1 in
    let one = took_one room (Expression front) start state tree (looser (suc room) room front front start tree state took fits (omega arith)) in
    let behind = took_both room (Part (Expression front) ∷ []) items start state d.0.1 (tree ▹ none) d.0.0 one e.0 in
    let all = took_both room (Here ∷ []) (Part (Expression front) ∷ items) start start d.0.1 (At (line_at start) ▹ none) (tree ▹ d.0.0) (took_line room start took.opens) behind in
    let shaped = subst (λ l. PartsTook room l start (At (line_at start) ▹ tree ▹ d.0.0) d.0.1) (sym facts.starts) all in
    let node = expr_parts room level l form facts.whole le (omega (arith, fits)) start (At (line_at start) ▹ tree ▹ d.0.0) d.0.1 shaped took.opens in
    let P : Trees × State → Type 0 = λ y. Took (suc room) (Expression level) start (Node form y.0) y.1 in
    let Q : Trees × State → Type 0 = λ y. Took (suc room) (Expression level) start (Node form (At (line_at start) ▹ y.0)) y.1 in
    subst (λ (z : Tree × State). Took (suc room) (Expression level) start z.0 z.1) (some_same b.2) (subst P (some_same c.2) (subst Q (some_same d.2) node))

-- Lists of parts, with commas or without.

pub snoc_joined : (parts : Trees) (tree : Tree) → joined parts (tree ▹ none) ≡ snoc parts tree
snoc_joined none tree = refl
snoc_joined (first ▹ parts) tree = ap (λ p. first ▹ p) (snoc_joined parts tree)

pub joined_snoc : (front : Trees) (tree : Tree) (rest : Trees) → joined (snoc front tree) rest ≡ joined front (tree ▹ rest)
joined_snoc none tree rest = refl
joined_snoc (first ▹ front) tree rest = ap (λ x. first ▹ x) (joined_snoc front tree rest)

pub joined_none : (parts : Trees) → joined parts none ≡ parts
joined_none none = refl
joined_none (first ▹ more) = ap (λ x. first ▹ x) (joined_none more)

pub count_snoc : (parts : Trees) (tree : Tree) → count (snoc parts tree) ≡ suc (count parts)
count_snoc none tree = refl
count_snoc (first ▹ parts) tree = ap suc (count_snoc parts tree)

pub rows_more : (place : Place) (n : ℕ) → rows place n ++ Part place ∷ [] ≡ rows place (suc n)
rows_more place zero = refl
rows_more place (suc n) = ap (λ l. Part place ∷ l) (rows_more place n)

behind_more : (place : Place) (n : ℕ) → behind_commas place n ++ mark s.Comma ∷ Part place ∷ [] ≡ behind_commas place (suc n)
behind_more place zero = refl
behind_more place (suc n) = ap (λ l. mark s.Comma ∷ Part place ∷ l) (behind_more place n)

commas_more : (place : Place) (n : ℕ) → commas place (suc n) ++ mark s.Comma ∷ Part place ∷ [] ≡ commas place (suc (suc n))
commas_more place n = ap (λ l. Part place ∷ l) (behind_more place n)

-- one tree more behind some
pub rows_snoc : (bound : ℕ) (place : Place) (start state rest : State) (parts : Trees) (tree : Tree) → PartsTook bound (rows place (count parts)) start parts state → Took bound place state tree rest → PartsTook bound (rows place (count (snoc parts tree))) start (snoc parts tree) rest
rows_snoc bound place start state rest parts tree h one =
    let both = took_both bound (rows place (count parts)) (Part place ∷ []) start state rest parts (tree ▹ none) h (took_one bound place state rest tree one) in
    let shaped = subst (λ p. PartsTook bound (rows place (count parts) ++ Part place ∷ []) start p rest) (snoc_joined parts tree) both in
    subst (λ l. PartsTook bound l start (snoc parts tree) rest) (rows_more place (count parts) ∙ ap (rows place) (sym (count_snoc parts tree))) shaped

-- where a list with commas stands between two of its trees
abbrev pub Between : ℕ → Place → State → Trees → State → Type 0
Between bound place start none state = start ≡ state
Between bound place start (first ▹ parts) state = (middle : State) × PartsTook bound (commas place (suc (count parts))) start (first ▹ parts) middle × (past (Mark s.Comma) middle ≡ Some state)

pub commas_snoc : (bound : ℕ) (place : Place) (start state rest : State) (parts : Trees) (tree : Tree) → Between bound place start parts state → Took bound place state tree rest → PartsTook bound (commas place (count (snoc parts tree))) start (snoc parts tree) rest
commas_snoc bound place start state rest none tree h one =
    subst (λ (st : State). PartsTook bound (commas place 1) st (tree ▹ none) rest) (sym h) (took_one bound place state rest tree one)
commas_snoc bound place start state rest (first ▹ parts) tree h one =
    let comma = took_both bound (mark s.Comma ∷ []) (Part place ∷ []) h.0 state rest none (tree ▹ none) (took_word bound (Mark s.Comma) h.0 state h.2) (took_one bound place state rest tree one) in
    let both = took_both bound (commas place (suc (count parts))) (mark s.Comma ∷ Part place ∷ []) start h.0 rest (first ▹ parts) (tree ▹ none) h.1 comma in
    let shaped = subst (λ p. PartsTook bound (commas place (suc (count parts)) ++ mark s.Comma ∷ Part place ∷ []) start p rest) (snoc_joined (first ▹ parts) tree) both in
    subst (λ l. PartsTook bound l start (snoc (first ▹ parts) tree) rest) (commas_more place (count parts) ∙ ap (λ n. commas place (suc n)) (sym (count_snoc parts tree))) shaped

pub comma_past : (state : State) → at_mark s.Comma state ≡ true → past (Mark s.Comma) state ≡ Some (skip state)
comma_past state e = ap (λ b. if b then Some (skip state) else None) e

between_more : (bound : ℕ) (place : Place) (start state : State) (parts : Trees) (tree : Tree) → PartsTook bound (commas place (count (snoc parts tree))) start (snoc parts tree) state → at_mark s.Comma state ≡ true → Between bound place start (snoc parts tree) (skip state)
between_more bound place start state none tree h e = (state, h, comma_past state e)
between_more bound place start state (first ▹ parts) tree h e = (state, h, comma_past state e)

-- a whole list with commas: at least one tree
pub record CommasTook (bound : ℕ) (place : Place) (form : Form) (start : State) (x : Tree × State) : Type 0 where
  pub parts : Trees
  pub made : x.0 ≡ Node form parts
  pub took : PartsTook bound (commas place (count parts)) start parts x.1
  pub some : (n : ℕ) × (count parts ≡ suc n)

pub commas_took : (bound : ℕ) (place : Place) (item : Reader) (more : State → Bool) (form : Form) → Sound bound place item → ((state : State) → more state ≡ true → at_mark s.Comma state ≡ true) → (turns : ℕ) (start state : State) (parts : Trees) (x : Tree × State) → Between bound place start parts state → commas_from item more form turns parts state ≡ Some x → CommasTook bound place form start x
commas_took bound place item more form each goes zero start state parts x h e = none_some e
commas_took bound place item more form each goes (suc turns) start state parts x h e =
    let a = bind_some (item state) (λ y. commas_by item more form (commas_from item more form turns) (snoc parts y.0) (more y.1) y.1) x e in
    let one = each state a.0 a.1 in
    by (more a.0.1) a.0 refl (commas_snoc bound place start state a.0.1 parts a.0.0 h one) (λ next. commas_took bound place item more form each goes turns start (skip a.0.1) (snoc parts a.0.0) x next) a.2
  where
    by : (b : Bool) → (y : Tree × State) → more y.1 ≡ b → PartsTook bound (commas place (count (snoc parts y.0))) start (snoc parts y.0) y.1 → (Between bound place start (snoc parts y.0) (skip y.1) → commas_from item more form turns (snoc parts y.0) (skip y.1) ≡ Some x → CommasTook bound place form start x) → commas_by item more form (commas_from item more form turns) (snoc parts y.0) b y.1 ≡ Some x → CommasTook bound place form start x
    by true y m took again g = again (between_more bound place start y.1 parts y.0 took (goes y.1 m)) g
    by false y m took again g = subst (λ (w : Tree × State). CommasTook bound place form start w) (some_same g) (record { parts = snoc parts y.0; made = refl; took = took; some = (count parts, count_snoc parts y.0) })

-- a whole list without commas, of at least so many
pub record ListTook (bound : ℕ) (place : Place) (form : Form) (start : State) (least : ℕ) (x : Tree × State) : Type 0 where
  pub parts : Trees
  pub made : x.0 ≡ Node form parts
  pub took : PartsTook bound (rows place (count parts)) start parts x.1
  pub long : least ≤ count parts

pub list_took : (bound : ℕ) (place : Place) (item : Reader) (stops : State → Bool) (form : Form) → Sound bound place item → (turns : ℕ) (start state : State) (parts : Trees) (least : ℕ) (x : Tree × State) → PartsTook bound (rows place (count parts)) start parts state → least ≤ count parts → list_from item stops form turns parts state ≡ Some x → ListTook bound place form start least x
list_took bound place item stops form each zero start state parts least x h le e = none_some e
list_took bound place item stops form each (suc turns) start state parts least x h le e =
    by (stops state) (λ y took longer. list_took bound place item stops form each turns start y.1 (snoc parts y.0) least x took longer) e
  where
    by : (b : Bool) → ((y : Tree × State) → PartsTook bound (rows place (count (snoc parts y.0))) start (snoc parts y.0) y.1 → least ≤ count (snoc parts y.0) → list_from item stops form turns (snoc parts y.0) y.1 ≡ Some x → ListTook bound place form start least x) → list_by item stops form (list_from item stops form turns) parts b state ≡ Some x → ListTook bound place form start least x
    by true again g = subst (λ (w : Tree × State). ListTook bound place form start least w) (some_same g) (record { parts = parts; made = refl; took = h; long = le })
    by false again g =
        let a = bind_some (item state) (λ y. list_from item stops form turns (snoc parts y.0) y.1) x g in
        let c = count_snoc parts a.0.0 in
        again a.0 (rows_snoc bound place start state a.0.1 parts a.0.0 h (each state a.0 a.1)) (omega (arith, le, c)) a.2

-- Nodes of lists

pub rows_specs : (place : Place) (n : ℕ) → is_specs place ≡ false → has_specs (places (rows place n)) ≡ false
rows_specs place zero e = refl
rows_specs place (suc n) e = ap (λ t. t || has_specs (places (rows place n))) e ∙ rows_specs place n e

behind_specs : (place : Place) (n : ℕ) → is_specs place ≡ false → has_specs (places (behind_commas place n)) ≡ false
behind_specs place zero e = refl
behind_specs place (suc n) e = ap (λ t. t || has_specs (places (behind_commas place n))) e ∙ behind_specs place n e

pub commas_specs : (place : Place) (n : ℕ) → is_specs place ≡ false → has_specs (places (commas place n)) ≡ false
commas_specs place zero e = refl
commas_specs place (suc n) e = ap (λ t. t || has_specs (places (behind_commas place n))) e ∙ behind_specs place n e

pub took_light : (bound : ℕ) (place : Place) (form : Form) (items : List Item) (state rest : State) (parts : Trees) → 0 < bound → is_plain form ≡ true → weight form ≡ 0 → PartsTook bound items state parts rest → shape form (count parts) ≡ items → has_specs (places items) ≡ false → Takes place (Node form parts) → is_scope place ≡ false → Opens (has_words place) state.words → Also place state (Node form parts) rest → Took bound place state (Node form parts) rest
took_light bound place form items state rest parts some plain w took shaped single stands outside opening also =
    let d = took.deep in
    took_node bound bound place form items state rest parts plain took shaped single stands outside (omega (arith, d, w, some)) opening also

-- a node of a list with commas; the form may ask for one part at least
pub light_commas : (bound : ℕ) (place item : Place) (form : Form) (state : State) (x : Tree × State) → 0 < bound → is_plain form ≡ true → weight form ≡ 0 → CommasTook bound item form state x → ((n : ℕ) → shape form (suc n) ≡ commas item (suc n)) → is_specs item ≡ false → ((parts : Trees) (n : ℕ) → count parts ≡ suc n → Takes place (Node form parts)) → is_scope place ≡ false → Opens (has_words place) state.words → ((parts : Trees) → Also place state (Node form parts) x.1) → Took bound place state x.0 x.1
light_commas bound place item form state x some plain w h shaped single stands outside opening also =
    let n = h.some.0 in
    let e : shape form (count h.parts) ≡ commas item (count h.parts) = ap (shape form) h.some.1 ∙ shaped n ∙ ap (commas item) (sym h.some.1) in
    subst (λ t. Took bound place state t x.1) (sym h.made) (took_light bound place form (commas item (count h.parts)) state x.1 h.parts some plain w h.took e (commas_specs item (count h.parts) single) (stands h.parts n h.some.1) outside opening (also h.parts))

-- behind the first tree of a list
pub commas_by_took : (bound : ℕ) (place : Place) (item : Reader) (more : State → Bool) (form : Form) → Sound bound place item → ((state : State) → more state ≡ true → at_mark s.Comma state ≡ true) → (turns : ℕ) (start state : State) (tree : Tree) (b : Bool) (x : Tree × State) → Took bound place start tree state → more state ≡ b → commas_by item more form (commas_from item more form turns) (tree ▹ none) b state ≡ Some x → CommasTook bound place form start x
commas_by_took bound place item more form each goes turns start state tree true x took m h =
    commas_took bound place item more form each goes turns start (skip state) (tree ▹ none) x (state, took_one bound place start state tree took, comma_past state (goes state m)) h
commas_by_took bound place item more form each goes turns start state tree false x took m h =
    subst (λ (w : Tree × State). CommasTook bound place form start w) (some_same h) (record { parts = tree ▹ none; made = refl; took = took_one bound place start state tree took; some = (zero, refl) })
