-- How the context grows while a text is walked, and what answers lead to.
use Rattle.core_soundness.proofs.Words.Std.{◌≡◌, ◌≤◌, ◌+◌, ℕ, List, [], ◌∷◌, ◌++◌, length, slice_get, Some, sum_by, refl, sym, ap, ◌∙◌, arith, append_assoc, append-nil, Bool, true, false, cond, is_some, subst, ⊎_elim, Ok, Err, Option, ltb-false, ◌⊎◌, ◌<◌, inl, inr, ◌||◌, sum_by-append}
use Rattle.core_soundness.proofs.Words.Trees.{Tree, Trees, Leaf, At, Node, none, ◌▹◌}
use Rattle.core_soundness.proofs.Words.Types.{PlainType, wanted, string, PlainNamed, Checked, Refusal, refused, then, unless, ScopeList, Table, named_in, innermost, with_name, after_declaration, barred, PlainTyped, is_void, TypeKind}
use Rattle.core_soundness.proofs.Words.Core.{block_size, Atom, Stm, StmKind, Free, Enter, Leave, Jump, Zero}
use Rattle.core_soundness.proofs.Words.Elaborating.{with_format, asked, Piece, Does, Code, Context, Variable, told, emit, integer_by, pointer_by, With, Here, here, with_labels, anew, Found, unused, valued, cast_operand, reallocates, any_reallocates, opened, closed, with_literal}
use Rattle.c_tree.specs.Forms as f
use Rattle.c_decls.specs.Expressions as types
use Rattle.c_decls.specs.Named as n
use Rattle.c_decls.specs.TypeNames as names
use Rattle.core_soundness.proofs.Flows.{Fragment, IsPlain, nothing, joined, plain, agree_refl, Marks, Targets, Places, Placed, steps, Agree, agree_trans, steps_append, targets_append, targets_map, places_append, places_map, placed_left, placed_right, flows_append, flows_agree, marked, Way, IsWay, Leads, AreEarlier, leads_less, leads_agree, earlier_less, Made, stm_at, in_scope}
use Rattle.core_soundness.proofs.Scopes.{More, more_refl, more_trans, push_get, get_left, Safe, SafeTable, more_safe, Tied, tied_trans, tied_same, more_keeps, more_depth, found_same}
use Rattle.core_soundness.proofs.Choices.{either_way, some_same}

-- what elaborating an expression does to what is known: its code is a fragment with no way out but its end

-- the bytes of the blocks of statics
abbrev pub variable_bytes : List Variable → ℕ
variable_bytes variables = sum_by (λ (v : Variable). block_size v.layout.size) variables

abbrev pub literal_bytes : List (List ℕ) → ℕ
literal_bytes literals = sum_by (λ (bytes : List ℕ). block_size (length bytes + 1)) literals

pub record Counted (c : Context) : Type 0 where
  pub bytes : c.static_bytes ≡ variable_bytes c.variables + literal_bytes c.literals
  pub small : c.static_bytes ≤ 67108864

-- what stands in a list stands in another at the same place
abbrev pub Longer : {A : Type 0} → List A → List A → Type 0
Longer {A} xs ys = (i : ℕ) (x : A) → slice_get xs i ≡ Some x → slice_get ys i ≡ Some x

-- what no part of a function changes, but that there may be more literals
pub record Kept (c d : Context) : Type 0 where
  pub variables : d.variables ≡ c.variables
  pub functions : d.functions ≡ c.functions
  pub walked : d.walked ≡ c.walked
  pub length : d.length ≡ c.length
  pub params : d.params ≡ c.params
  pub answer : d.running.answer ≡ c.running.answer
  pub mems : d.running.mems ≡ c.running.mems
  pub declared : d.running.declared ≡ c.running.declared
  pub addressed : d.running.addressed ≡ c.running.addressed
  pub literals : Longer c.literals d.literals
  pub counted : Counted c → Counted d

pub kept_refl : (c : Context) → Kept c c
kept_refl c = record { variables = refl; functions = refl; params = refl; walked = refl; length = refl; answer = refl; mems = refl; declared = refl; addressed = refl; literals = λ i w e. e; counted = λ h. h }

pub kept_trans : (a b c : Context) → Kept a b → Kept b c → Kept a c
kept_trans a b c x y = search arith

pub record Grows (c d : Context) : Type 0 where
  pub pieces : List Piece
  pub code : d.code.pieces ≡ c.code.pieces ++ pieces
  pub more : c.code.labels ≤ d.code.labels
  pub fragment : (n : ℕ) → Fragment [] n c.code.labels d.code.labels pieces []
  pub cases : d.running.cases ≡ c.running.cases
  pub otherwise : d.running.otherwise ≡ c.running.otherwise
  pub names : More c.scopes d.scopes
  pub kept : Kept c d

-- what is kept beside code
pub recoded : (c d : Context) (x y : Code) → Kept (record c { code = x }) d → Kept c (record d { code = y })
recoded c d x y k = search arith

-- code that is as long, whatever else it grew by
grows_by : (c d : Context) → d.code.pieces ≡ c.code.pieces → d.code.labels ≡ c.code.labels → d.running.cases ≡ c.running.cases → d.running.otherwise ≡ c.running.otherwise → More c.scopes d.scopes → Kept c d → Grows c d
grows_by c d e l same same2 m k = record {
  pieces = [];
  code = e ∙ sym (append-nil c.code.pieces);
  more = omega (arith, l);
  fragment = λ n. nothing [] n c.code.labels d.code.labels;
  cases = same;
  otherwise = same2;
  names = m;
  kept = k;
}

-- other scopes and tags, formats and calls, and other code that is as long
grows_other : (n : names.Context) (formats : List (List ℕ)) (calls : List (ℕ × ℕ)) (code : Code) (c : Context) → code.pieces ≡ c.code.pieces → code.labels ≡ c.code.labels → More c.scopes n.scopes
    → Grows c (record c { scopes = n.scopes; tags = n.tags; running = record c.running { formats = formats }; calls = calls; code = code })
grows_other n formats calls code c e l m = search (arith, grows_by)

pub grows_refl : (c : Context) → Grows c c
grows_refl c = grows_other (asked c) c.running.formats c.calls c.code c refl refl (more_refl c.scopes)

pub grows_trans : (a b c : Context) → Grows a b → Grows b c → Grows a c
grows_trans a b c x y = record {
  pieces = x.pieces ++ y.pieces;
  code = y.code ∙ ap (λ (l : List Piece). l ++ y.pieces) x.code ∙ append_assoc a.code.pieces x.pieces y.pieces;
  more = omega (arith, x.more, y.more);
  fragment = λ n. joined [] n a.code.labels b.code.labels c.code.labels x.pieces y.pieces [] [] tt x.more y.more (x.fragment n) (y.fragment n);
  cases = y.cases ∙ x.cases;
  otherwise = y.otherwise ∙ x.otherwise;
  names = more_trans a.scopes b.scopes c.scopes x.names y.names;
  kept = kept_trans a b c x.kept y.kept;
}

-- a plain statement more
pub grows_step : (c : Context) (code : Code) (stm : Stm) → code.pieces ≡ c.code.pieces ++ Does stm ∷ [] → code.labels ≡ c.code.labels → IsPlain stm.kind → Grows c (record c { code = code })
grows_step c code stm e l h = record {
  pieces = Does stm ∷ [];
  code = e;
  more = omega (arith, l);
  fragment = λ n. plain n c.code.labels code.labels stm h;
  cases = refl;
  otherwise = refl;
  names = more_refl c.scopes;
  kept = record { variables = refl; functions = refl; params = refl; walked = refl; length = refl; answer = refl; mems = refl; declared = refl; addressed = refl; literals = λ i w e. e; counted = λ (h : Counted c). record { bytes = h.bytes; small = h.small } };
}

pub grows_emit : (line : ℕ) (kind : StmKind) (c : Context) → IsPlain kind → Grows c (emit line kind c)
grows_emit line kind c h = grows_step c _ (record { line = line; kind = kind }) refl refl h

pub grows_integer : (line : ℕ) (kind : ℕ → StmKind) (c : Context) → ((r : ℕ) → IsPlain (kind r)) → Grows c (integer_by line kind c).0
grows_integer line kind c h = grows_step c _ (record { line = line; kind = kind _ }) refl refl (h _)

pub grows_pointer : (line : ℕ) (kind : ℕ → StmKind) (c : Context) → ((r : ℕ) → IsPlain (kind r)) → Grows c (pointer_by line kind c).0
grows_pointer line kind c h = grows_step c _ (record { line = line; kind = kind _ }) refl refl (h _)

-- other code that is as long, and other scopes and tags
pub grows_code : (c : Context) (code : Code) → code.pieces ≡ c.code.pieces → code.labels ≡ c.code.labels → Grows c (record c { code = code })
grows_code c code e l = grows_other (asked c) c.running.formats c.calls code c e l (more_refl c.scopes)

pub grows_told : (n : names.Context) (c : Context) → More c.scopes n.scopes → Grows c (told n c)
grows_told n c m = grows_other n c.running.formats c.calls c.code c refl refl m

-- code that is forgotten again
pub grows_forgotten : (b c : Context) → Grows b c → Grows b (record c { code = b.code })
grows_forgotten b c g = grows_by b (record c { code = b.code }) refl refl g.cases g.otherwise g.names (recoded b c b.code b.code g.kept)

-- what was made at file scope stays while a part of a function is walked: its variables, its names of objects, and literals

-- each object of the second table is one of the first
abbrev pub ObjectsStay : Table → Table → Type 0
ObjectsStay f g = (name : List ℕ) (type : PlainType) (i : ℕ) → named_in name g ≡ Some (n.Object type i) → named_in name f ≡ Some (n.Object type i)

pub record Settled (c d : Context) : Type 0 where
  pub variables : d.variables ≡ c.variables
  pub literals : Longer c.literals d.literals
  pub objects : ObjectsStay c.scopes.file d.scopes.file

pub settled_refl : (c : Context) → Settled c c
settled_refl c = record { variables = refl; literals = λ i w e. e; objects = λ name type i e. e }

pub settled_trans : (a b c : Context) → Settled a b → Settled b c → Settled a c
settled_trans a b c x y = grind arith

pub grows_settled : (c d : Context) → Grows c d → Settled c d
grows_settled c d g = record { variables = g.kept.variables; literals = g.kept.literals; objects = (λ name type i e. search (arith, some_same)) }

-- names that are declared
abbrev pub IsNoObject : PlainNamed → Type 0
IsNoObject (n.Object type i) = ⊥
IsNoObject other = Unit {0}

-- no object, or inside a scope of its own
pub with_name_objects : (s : ScopeList) (key : List ℕ) (v : PlainNamed) → IsNoObject v → ObjectsStay s.file (with_name s key v).file
with_name_objects s key v h = grind (arith, push_get)

pub inner_objects : (s : ScopeList) (key : List ℕ) (v : PlainNamed) → 1 ≤ length s.inner → ObjectsStay s.file (with_name s key v).file
inner_objects s key v h = grind arith

pub declared_objects : (s : ScopeList) (key : List ℕ) (v : PlainNamed) → ObjectsStay s.file (with_name s key v).file → ObjectsStay s.file (after_declaration s key v).file
declared_objects s key v h = either_way (λ (x : ScopeList). ObjectsStay s.file x.file) (is_some (named_in key (innermost s))) (λ name type i e. e) h

-- answers whose context has grown from another

abbrev pub good : {A : Type 0} → A → Checked A
good x = Ok x

pub ok_same : {A : Type 0} (x y : A) → good x ≡ good y → x ≡ y
ok_same x y e = cc

abbrev pub bad : {A : Type 0} → Refusal → Checked A
bad r = Err r

pub never : {A : Type 0} (G : Type 0) (r : Refusal) (x : A) → bad r ≡ good x → G
never G r x e = cc

abbrev pub Grown : {A : Type 0} → Context → With A → Type 0
Grown {A} b r = (d : Context × A) → r ≡ Ok d → Grows b d.0

-- answers with what is known behind them

-- R of what is known behind an answer
abbrev pub Reached : {C A : Type 0} → (C → Type 0) → Checked (C × A) → Type 0
Reached {C} {A} R r = (d : C × A) → r ≡ Ok d → R d.0

module _ {C : Type 0} (R : C → Type 0) where
  pub reached_ok : {A : Type 0} {x : C × A} → R x.0 → Reached R (Ok x)
  reached_ok {x} g d e = subst (λ y. R y.0) (ok_same x d e) g

  pub reached_refused : {A : Type 0} {kind : TypeKind} {line : ℕ} → Reached {A = A} R (refused kind line)
  reached_refused d e = never (R d.0) _ d e

  pub reached_after : {A B : Type 0} (r : Checked A) {f : A → Checked (C × B)} → ((a : A) → r ≡ Ok a → Reached R (f a)) → Reached R (then r f)
  reached_after r h d e = search (arith, never) fits 100

  pub reached_then : {A B : Type 0} (S : C → Type 0) {r : Checked (C × A)} {f : C × A → Checked (C × B)} → Reached S r → ((d : C × A) → S d.0 → Reached R (f d)) → Reached R (then r f)
  reached_then S {r} {f} g h = reached_after r {f = f} (λ a e. h a (g a e))

  pub reached_unless : {A : Type 0} (test : Bool) (kind : TypeKind) (line : ℕ) {r : Checked (C × A)} → Reached R r → Reached R (unless test kind line r)
  reached_unless test kind line g d e = search (arith, never) fits 100

  pub reached_barred : {A : Type 0} (reason : Option TypeKind) (line : ℕ) {r : Checked (C × A)} → Reached R r → Reached R (barred reason line r)
  reached_barred reason line g d e = search (arith, never) fits 100

-- the same where the answer is what is known
abbrev pub Led : {C : Type 0} → (C → Type 0) → Checked C → Type 0
Led {C} R r = (d : C) → r ≡ Ok d → R d

module _ {C : Type 0} (R : C → Type 0) where
  pub led_ok : {x : C} → R x → Led R (Ok x)
  led_ok {x} g d e = subst R (ok_same x d e) g

  pub led_refused : {kind : TypeKind} {line : ℕ} → Led R (refused kind line)
  led_refused d e = never (R d) _ d e

  pub led_after : {A : Type 0} (r : Checked A) {f : A → Checked C} → ((a : A) → r ≡ Ok a → Led R (f a)) → Led R (then r f)
  led_after r h d e = search (arith, never) fits 100

  pub led_unless : (test : Bool) (kind : TypeKind) (line : ℕ) {r : Checked C} → (test ≡ false → Led R r) → Led R (unless test kind line r)
  led_unless test kind line g d e = search (arith, never) fits 100

  pub led_barred : (reason : Option TypeKind) (line : ℕ) {r : Checked C} → Led R r → Led R (barred reason line r)
  led_barred reason line g d e = search (arith, never) fits 100

-- where a value is wanted, an expression is evaluated as where its value is not used

pub behind_test : {A : Type 0} (test : Bool) (kind : TypeKind) (line : ℕ) (r : Checked A) (z : A) → unless test kind line r ≡ Ok z → r ≡ Ok z
behind_test test kind line r z h = search (arith, never) fits 100

pub valued_unused : (tree : Tree) (answer : With Found) (z : Context × Found) → valued tree answer ≡ Ok z → unused tree answer ≡ Ok z
valued_unused tree answer z h = search (arith, behind_test) fits 100

pub cast_unused : (type : PlainType) (tree : Tree) (answer : With Found) (z : Context × Found) → cast_operand type tree answer ≡ Ok z → unused tree answer ≡ Ok z
cast_unused type tree answer z h = either_way (λ x. x ≡ Ok z → unused tree answer ≡ Ok z) (is_void type) (λ h. h) (λ h. valued_unused tree answer z h) h

-- the same by types alone

pub wanted_unused : (tree : Tree) (x : types.Found) (z : names.Context × PlainTyped) → wanted tree x ≡ Ok z → types.unused tree x ≡ Ok z
wanted_unused tree x z h = search (arith, never) fits 100

pub type_cast_unused : (type : PlainType) (tree : Tree) (x : types.Found) (z : names.Context × PlainTyped) → types.cast_operand type tree x ≡ Ok z → types.unused tree x ≡ Ok z
type_cast_unused type tree x z h = either_way (λ y0. y0 ≡ Ok z → types.unused tree x ≡ Ok z) (is_void type) (λ h. h) (λ h. wanted_unused tree x z h) h

-- a string that is no larger than an object
pub behind_string : {A : Type 0} (line : ℕ) (bytes : List ℕ) (r : Checked A) (z : A) → then (string line bytes) (λ literal. r) ≡ Ok z → r ≡ Ok z
behind_string line bytes r z h = grind arith

-- what changes beside the code of an expression: formats, calls and literals

-- what changes beside the code
pub grows_format : (bytes : List ℕ) (c : Context) → Grows c (with_format bytes c)
grows_format bytes c = grows_other (asked c) (c.running.formats ++ bytes ∷ []) c.calls c.code c refl refl (more_refl c.scopes)

pub grows_calls : (calls : List (ℕ × ℕ)) (c : Context) → Grows c (record c { calls = calls })
grows_calls calls c = grows_other (asked c) c.running.formats calls c.code c refl refl (more_refl c.scopes)

-- an object is freed in a scope of its own
pub grows_free : (line : ℕ) (a : Atom) (c : Context) → Grows c (emit line Leave (emit line (Free a) (emit line Enter c)))
grows_free line a c = record {
  pieces = Does (record { line = line; kind = Enter }) ∷ Does (record { line = line; kind = Free a }) ∷ Does (record { line = line; kind = Leave }) ∷ [];
  code = simp append_assoc;
  more = omega arith;
  fragment = λ k. record {
    goes = (tt, (tt, (tt, tt)));
    targets = (tt, (tt, (tt, tt)));
    places = tt;
    placed = tt;
    flows = λ m p lead. record { marks = m; same = agree_refl c.code.labels m; flow = (k + 1, refl, (k + 1, refl, (k, refl, refl))); entered = tt };
  };
  cases = refl;
  otherwise = refl;
  names = more_refl c.scopes;
  kept = record { variables = refl; functions = refl; params = refl; walked = refl; length = refl; answer = refl; mems = refl; declared = refl; addressed = refl; literals = λ i w e. e; counted = λ (h : Counted c). record { bytes = h.bytes; small = h.small } };
}

-- literals

pub grown_literal : (line : ℕ) (bytes : List ℕ) (b c : Context) → Grows b c → Grown b (with_literal line bytes c)
grown_literal line bytes b c g = grind (arith, true, false, ok_same, grows_trans, grows_by, more_refl, get_left, sum_by-append, ltb-false)

-- code that goes one of two ways

-- marks of two labels above those so far
pub record Picked (low one other p q n : ℕ) (m : Marks) : Type 0 where
  pub marks : Marks
  pub same : Agree low m marks
  pub one_point : marks.point one ≡ p
  pub one_depth : marks.depth one ≡ n
  pub other_point : marks.point other ≡ q
  pub other_depth : marks.depth other ≡ n

pub in_order : (low p q n : ℕ) (m : Marks) → Picked low low (low + 1) p q n m
in_order low p q n m =
    let a = marked low p n m in
    let b = marked (low + 1) q n a.marks in
    record {
      marks = b.marks;
      same = agree_trans low (low + 1) m a.marks b.marks (omega arith) a.same b.same;
      one_point = b.same.points low (omega arith) ∙ a.point;
      one_depth = b.same.depths low (omega arith) ∙ a.depth;
      other_point = b.point;
      other_depth = b.depth;
    }

abbrev pub forked : ℕ → Atom → ℕ → List Piece → ℕ → ℕ → List Piece → List Piece
forked line a one first at other second =
    Does (stm_at line (Zero a one)) ∷ (first ++ (Does (stm_at at (Jump other)) ∷ Here one ∷ (second ++ (Here other ∷ []))))

module _ (ws : List Way) (n low middle high : ℕ) (a : Atom) (line at one other : ℕ) (first second : List Piece)
    (pick : (p q : ℕ) (m : Marks) → Picked low one other p q n m) (one_in : one < low + 2) (other_in : other < low + 2)
    (early : AreEarlier low ws) (le : low + 2 ≤ middle) (le2 : middle ≤ high)
    (f : Fragment ws n (low + 2) middle first []) (g : Fragment ws n middle high second []) where
  abbrev code : List Piece
  code = forked line a one first at other second

  abbrev rest : List Piece
  rest = Does (stm_at at (Jump other)) ∷ Here one ∷ (second ++ (Here other ∷ []))

  one_placed : Placed one code
  one_placed = placed_right one first rest (inl refl)

  other_placed : Placed other code
  other_placed = placed_right other first rest (inr (placed_right other second (Here other ∷ []) (inl refl)))

  abbrev Goal : ℕ → Type 0
  Goal l = Placed l code ⊎ IsWay ws l

  fork_goes : Targets Goal code
  fork_goes = (
    inl one_placed,
    targets_append Goal first rest
        (targets_map _ Goal first (λ l. ⊎_elim (λ (h : Placed l first). inl (placed_left l first rest h)) (λ (h : IsWay ws l). inr h)) f.goes) (
          inl other_placed,
          targets_append Goal second (Here other ∷ [])
              (targets_map _ Goal second (λ l. ⊎_elim (λ (h : Placed l second). inl (placed_right l first rest (inr (placed_left l second (Here other ∷ []) h)))) (λ (h : IsWay ws l). inr h)) g.goes)
              tt,
        ),
  )

  fork_targets : Targets (λ l. l < high) code
  fork_targets =
      let small : one < high = omega arith in
      let small2 : other < high = omega arith in
      (small, targets_append _ first rest (targets_map _ _ first (λ l h. omega (arith, h)) f.targets) (small2, targets_append _ second (Here other ∷ []) g.targets tt))

  fork_places : Places (λ l. l < high) code
  fork_places =
      let small : one < high = omega arith in
      let small2 : other < high = omega arith in
      places_append _ first rest (places_map _ _ first (λ l h. omega (arith, h)) f.places) (small, places_append _ second (Here other ∷ []) g.places (small2, tt))

  fork_made : (m : Marks) (p : ℕ) → Leads m (p + steps code) ws → Made low n p m code []
  fork_made m p lead =
      let long : steps code ≡ steps first + steps second + 2 = omega (arith, steps_append first rest, steps_append second (Here other ∷ [])) in
      let p1 : ℕ = p + 1 in
      let p2 : ℕ = p + 1 + steps first + 1 in
      let p3 : ℕ = p2 + steps second in
      let base = pick p2 p3 m in
      let lead1 = leads_agree low m base.marks (p + steps code) ws base.same early lead in
      let one_made = f.flows base.marks p1 (leads_less base.marks (p1 + steps first) (p + steps code) ws (omega arith) lead1) in
      let lead2 = leads_agree (low + 2) base.marks one_made.marks (p + steps code) ws one_made.same (earlier_less low (low + 2) ws (omega arith) early) lead1 in
      let two_made = g.flows one_made.marks p2 (leads_less one_made.marks (p2 + steps second) (p + steps code) ws (omega arith) lead2) in
      let all : Agree (low + 2) base.marks two_made.marks = agree_trans (low + 2) middle base.marks one_made.marks two_made.marks le one_made.same two_made.same in
      let here_one : two_made.marks.point one ≡ p2 = all.points one one_in ∙ base.one_point in
      let here_other : two_made.marks.point other ≡ p3 = all.points other other_in ∙ base.other_point in
      let deep_one : two_made.marks.depth one ≡ n = all.depths one one_in ∙ base.one_depth in
      let deep_other : two_made.marks.depth other ≡ n = all.depths other other_in ∙ base.other_depth in
      let ahead : p < two_made.marks.point one = omega arith in
      let ahead2 : p1 + steps first < two_made.marks.point other = omega arith in
      record {
        marks = two_made.marks;
        same = agree_trans low (low + 2) m base.marks two_made.marks (omega arith) base.same all;
        flow = (
          n,
          (deep_one, ahead, refl),
          flows_append two_made.marks first rest p1 n n n
              (flows_agree middle one_made.marks two_made.marks first p1 n n two_made.same f.targets f.places one_made.flow) (
                n,
                (deep_other, ahead2),
                (
                  here_one,
                  deep_one,
                  flows_append two_made.marks second (Here other ∷ []) p2 n n n two_made.flow (here_other, deep_other, refl),
                ),
              ),
        );
        entered = tt;
      }

  pub fork_fragment : Fragment ws n low high code []
  fork_fragment = record { goes = fork_goes; targets = fork_targets; places = fork_places; placed = tt; flows = fork_made }

pub grows_fork : (t r s : Context) (line at : ℕ) (a : Atom)
    → Grows (emit line (Zero a t.code.labels) (with_labels 2 t)) r
    → Grows (here t.code.labels (emit at (Jump (t.code.labels + 1)) r)) s
    → Grows t (here (t.code.labels + 1) s)
grows_fork t r s line at a g h = record {
  pieces = forked line a t.code.labels g.pieces at (t.code.labels + 1) h.pieces;
  code = ap (λ (l : List Piece). l ++ (Here (t.code.labels + 1) ∷ [])) (h.code ∙ ap (λ (l : List Piece). ((l ++ (Does (stm_at at (Jump (t.code.labels + 1))) ∷ [])) ++ (Here t.code.labels ∷ [])) ++ h.pieces) g.code)
      ∙ (simp append_assoc);
  more = omega (arith, g.more, h.more);
  fragment = λ n. fork_fragment [] n t.code.labels r.code.labels s.code.labels a line at t.code.labels (t.code.labels + 1) g.pieces h.pieces
      (λ p q m. in_order t.code.labels p q n m) (omega arith) (omega arith) tt g.more h.more (g.fragment n) (h.fragment n);
  cases = h.cases ∙ g.cases;
  otherwise = h.otherwise ∙ g.otherwise;
  names = more_trans t.scopes r.scopes s.scopes g.names h.names;
  kept = kept_trans t (record r { code = r.code }) (here (t.code.labels + 1) s) (recoded t r _ r.code g.kept) (recoded r s _ _ h.kept);
}

-- what a part of a function, or of a text, leaves as it was

-- what every part leaves as it was
pub record Stays (c d : Context) : Type 0 where
  pub safe : Safe d.scopes
  pub depth : length d.scopes.inner ≡ length c.scopes.inner
  pub inside : 1 ≤ length c.scopes.inner → Settled c d
  pub tied : Tied c.functions c.scopes.file c.walked d.functions d.scopes.file d.walked
  pub walked : d.walked ≡ c.walked
  pub length : d.length ≡ c.length
  pub params : SafeTable c.params → SafeTable d.params
  pub counted : Counted c → Counted d

pub stays_trans : (a b c : Context) → Stays a b → Stays b c → Stays a c
stays_trans a b c x y = record { safe = y.safe; depth = y.depth ∙ x.depth; tied = tied_trans a.functions b.functions c.functions a.scopes.file b.scopes.file c.scopes.file a.walked b.walked c.walked x.tied y.tied; walked = y.walked ∙ x.walked; length = y.length ∙ x.length; params = λ h. y.params (x.params h); counted = λ h. y.counted (x.counted h); inside = λ h. settled_trans a b c (x.inside h) (y.inside (omega (arith, h, x.depth))) }

-- a part whose code goes to its end alone
pub record Passes (c d : Context) : Type 0 where
  pub pieces : List Piece
  pub code : d.code.pieces ≡ c.code.pieces ++ pieces
  pub more : c.code.labels ≤ d.code.labels
  pub fragment : (n : ℕ) → Fragment [] n c.code.labels d.code.labels pieces []
  pub cases : d.running.cases ≡ c.running.cases
  pub otherwise : d.running.otherwise ≡ c.running.otherwise
  pub stays : Stays c d

pub passes_trans : (a b c : Context) → Passes a b → Passes b c → Passes a c
passes_trans a b c x y = record {
  pieces = x.pieces ++ y.pieces;
  code = y.code ∙ ap (λ (l : List Piece). l ++ y.pieces) x.code ∙ append_assoc a.code.pieces x.pieces y.pieces;
  more = omega (arith, x.more, y.more);
  fragment = λ n. joined [] n a.code.labels b.code.labels c.code.labels x.pieces y.pieces [] [] tt x.more y.more (x.fragment n) (y.fragment n);
  cases = y.cases ∙ x.cases;
  otherwise = y.otherwise ∙ x.otherwise;
  stays = stays_trans a b c x.stays y.stays;
}

pub grows_stays : (c d : Context) → Safe c.scopes → Grows c d → Stays c d
grows_stays c d s g = record { safe = more_safe c.scopes d.scopes g.names s; depth = more_depth c.scopes d.scopes g.names; tied = tied_same c.functions d.functions c.scopes.file d.scopes.file c.walked d.walked g.kept.functions g.kept.walked (more_keeps c.scopes d.scopes g.names); walked = g.kept.walked; length = g.kept.length; params = λ h. subst SafeTable (sym g.kept.params) h; counted = g.kept.counted; inside = λ h. grows_settled c d g }

pub grows_passes : (c d : Context) → Safe c.scopes → Grows c d → Passes c d
grows_passes c d s g = search (arith, grows_stays)

-- other facts of which the code is as it was
pub passes_beside : (c d : Context) → d.code ≡ c.code → d.running.cases ≡ c.running.cases → d.running.otherwise ≡ c.running.otherwise → Stays c d → Passes c d
passes_beside c d e same same2 s = record {
  pieces = [];
  code = ap (λ (x : Code). x.pieces) e ∙ sym (append-nil c.code.pieces);
  more = omega (arith, ap (λ (x : Code). x.labels) e);
  fragment = λ n. nothing [] n c.code.labels d.code.labels;
  cases = same;
  otherwise = same2;
  stays = s;
}

pub stays_beside : (c d : Context) → Safe d.scopes → d.walked ≡ c.walked → d.length ≡ c.length → d.static_bytes ≡ c.static_bytes → d.variables ≡ c.variables → d.literals ≡ c.literals → (SafeTable c.params → SafeTable d.params) → length d.scopes.inner ≡ length c.scopes.inner
    → Tied c.functions c.scopes.file c.walked d.functions d.scopes.file d.walked → (1 ≤ length c.scopes.inner → ObjectsStay c.scopes.file d.scopes.file) → Stays c d
stays_beside c d s e1 e2 e3 e4 e5 keep deep tie objects = grind arith

-- full expressions

both2 : (a b c d : Bool) → a ≡ b → c ≡ d → (a || c) ≡ (b || d)
both2 a b c d x y = cc

both3 : (a b c d e g : Bool) → a ≡ b → c ≡ d → e ≡ g → (a || c || e) ≡ (b || d || g)
both3 a b c d e g x y z = cc

mutual
  unfolding reallocates any_reallocates

  reallocates_same : (e : Tree) (s t : ScopeList) → More s t → Safe s → reallocates t e ≡ reallocates s e
  reallocates_same (Leaf word) s t m h = refl
  reallocates_same (At line) s t m h = refl
  reallocates_same (Node f.SizeofExpr parts) s t m h = refl
  reallocates_same (Node f.Str parts) s t m h = refl
  reallocates_same (Node f.Call (At line ▹ e ▹ arguments)) s t m h =
      both3 _ _ _ _ _ _ (search (arith, found_same) fits 100) (reallocates_same e s t m h) (any_same arguments s t m h)
  reallocates_same (Node other parts) s t m h = any_same parts s t m h

  any_same : (es : Trees) (s t : ScopeList) → More s t → Safe s → any_reallocates t es ≡ any_reallocates s es
  any_same none s t m h = refl
  any_same (e ▹ rest) s t m h = both2 _ _ _ _ (reallocates_same e s t m h) (any_same rest s t m h)

-- a full expression: its scope, where it has one, is closed at its end
closed_in : (b c : Context) (line : ℕ) (r : Bool) → Safe b.scopes
    → Grows (cond r (emit line Enter (anew b)) (anew b)) c → Grows b (cond r (emit line Leave c) c)
closed_in b c line false s g = grows_trans b (anew b) c (grows_code b _ refl refl) g
closed_in b c line true s g = record {
  pieces = Does (stm_at line Enter) ∷ (g.pieces ++ (Does (stm_at line Leave) ∷ []));
  code = ap (λ (l : List Piece). l ++ (Does (stm_at line Leave) ∷ [])) g.code ∙ simp append_assoc;
  more = g.more;
  fragment = λ n. in_scope [] n b.code.labels c.code.labels line line g.pieces (g.fragment (n + 1));
  cases = g.cases;
  otherwise = g.otherwise;
  names = g.names;
  kept = recoded b c (emit line Enter (anew b)).code _ g.kept;
}

pub grows_closed : (e : Tree) (b c : Context) → Safe b.scopes → Grows (opened e b) c → Grows b (closed e c)
grows_closed e b c s g = search (arith, reallocates_same, closed_in) fits 100

-- one that is not closed
pub opened_stays : (e : Tree) (c d : Context) → Safe c.scopes → Grows (opened e c) d → Stays c d
opened_stays e c d s = search (arith, either_way, more_safe, more_depth, tied_same, more_keeps, grows_settled)
