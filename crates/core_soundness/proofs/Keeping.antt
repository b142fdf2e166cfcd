-- What expressions declare and leave as it was.
use Rattle.core_soundness.proofs.Words.Std.{◌≡◌, ◌+◌, ℕ, true, false, List, [], ◌∷◌, ◌++◌, reverse, Some, Ok, refl, sym, ap, ◌∙◌, subst, arith, ◌||◌, Bool, Option, None, zero, suc, not, ⊎_elim, eq-eqb, option_or}
use Rattle.core_soundness.proofs.Words.Trees.{Form, shape, assign_level, Place, Expression, places, is_scope, Tree, Trees, Leaf, At, Node, none, ◌▹◌, count}
use Rattle.core_soundness.proofs.Words.Types.{TagTable, PlainType, Void, IntType, call, no_function, Found, line_of, answered, wanted, changing, one, two, callee, first_literal, typed, values, typename, layers, suffix_layers, suffix_layer, param_types, in_new_scope, out_of_scope, unused, cast_operand, promoted, PlainNamed, element, choice, assigned, changed, behind_comma, size, cast, converts, unconverted, Checked, then, ScopeList, found, Table, named_in, found_from, Context, Layer, ArrayOf, FunctionOf, special_type, specs_type, array_length, with_layers, binary, PlainTyped, is_function, Operand, Number, operand, is_scalar, is_void, Constant, LeftOut, Operands, Assignment}
use Rattle.core_soundness.proofs.Words.Core.{Atom, StmKind, Zero, Leave, Return}
use Rattle.core_soundness.proofs.Words.Elaborating.{Taken, Known, number_of, with_address, left_part, taken, all_taken, asked, Context as TextContext, told, emit, valued, unused as unused_value, Found as FoundCode, atom_in, code_line, convert_integer, tested_value, convert, constant, opened, reallocates, closed, evaluated, maybe_evaluated, condition, leaves_if_zero, maybe_leaves, return_of, return_from, switch_operand, closed_atom, switch_operand_of, leaves, returned, return_value}
use Rattle.core_soundness.proofs.Words.Facts.{is_register, NoRegister, TakesAddress, Spoken, AllSpoken, Written, AllWritten}
use Rattle.c_types.specs.Types as ct
use Rattle.c_tree.specs.Forms as f
use Rattle.c_tree.specs.Places as p
use Rattle.c_tree.specs.Words as w
use Rattle.c_tree.specs.declared.operator.AssignOp.TheVariants as a
use Rattle.c_tree.specs.declared.operator.UnaryOp.TheVariants as u
use Rattle.c_decls.specs.ScopeList as scopes
use Rattle.c_decls.specs.TypeNames as names
use Rattle.c_decls.specs.TypeNames.{PointerTo}
use Rattle.elaboration.specs.Addressed.{left}
use Rattle.elaboration.specs.Context as elaboration
use Rattle.elaboration.specs.Conversions as conversions
use Rattle.elaboration.specs.Expressions as expressions
use Rattle.core_soundness.proofs.Agreeing.{came, found_agrees}
use Rattle.core_soundness.proofs.Formed.{NoNodes, OneNode, IsLayer, Shaped, Formed, AllFormed, behind_stars}
use Rattle.core_soundness.proofs.Growth.{good, ok_same, never, type_cast_unused, valued_unused, Grows, grows_refl, behind_test}
use Rattle.core_soundness.proofs.Parameters.{functions, functions_joined, functions_one, functions_reversed, not_function}
use Rattle.core_soundness.proofs.Scopes.{with_tag_more, More, MoreTags, MoreAll, IsNewTag, more_refl, more_trans, more_depth, left_more, HasScope, scope_more}
use Rattle.core_soundness.proofs.Sorting.{kept_test, passed, unbarred}
use Rattle.core_soundness.proofs.Taking.{declares, restores, Held, Still, AllStill, Calm, rows_held, commas_held, some_held, no_nodes_still, calm_node, calm_address, Has, Inside, left_adds, part_adds, all_taken_adds, among, Numbered, Follows, SameNames, still_names, all_still_names, part_names, drops, Keeps, Same, Fewer, InStep, Stepped, calm_same}
use Rattle.core_soundness.proofs.Walks.{Tagging, constant_keeps, found_grows, grown_unused, grows_convert_integer, grows_tested, grown_valued, grows_convert}
use Rattle.core_soundness.proofs.Choices.{either_way}

-- an expression that is typed declares nothing: tags have no braces there, and no type of a function is named (C99 6.5)

-- what an answer shows, whatever it is
abbrev pub Shows : {A : Type 0} → Type 0 → Checked A → Type 0
Shows {A} P r = (d : A) → r ≡ Ok d → P

pub shows_first : {A B : Type 0} (P : Type 0) (r : Checked A) (next : A → Checked B) → Shows P r → Shows P (then r next)
shows_first P r next h d e = search (arith, never) fits 100

pub shows_both : {A B : Type 0} (P Q : Type 0) (r : Checked A) (next : A → Checked B) → Shows P r → ((x : A) → r ≡ Ok x → Shows Q (next x)) → Shows (P × Q) (then r next)
shows_both P Q r next g h d e = search (arith, never) fits 100

-- operands

two_shows : (P Q : Type 0) (x : Found) (y : Context → Found) (rule : TagTable → PlainTyped → PlainTyped → Checked PlainTyped) → Shows P x → ((c : Context) → Shows Q (y c)) → Shows (P × Q) (two x y rule)
two_shows P Q x y rule g h = search (arith, shows_both, shows_first)

-- nodes of parts that are calm

pub unary_calm : (form : Form) (line : ℕ) (e : Tree) → declares form ≡ false → restores form ≡ true → Held (At line ▹ e ▹ none) (places (shape form 2)) → Calm e → Calm (Node form (At line ▹ e ▹ none))
unfolding Still AllStill
unary_calm form line e d r h c = calm_node form (At line ▹ e ▹ none) d r h (tt, (c.still, tt))

pub binary_calm : (form : Form) (line : ℕ) (e g : Tree) → declares form ≡ false → restores form ≡ true → Held (At line ▹ e ▹ g ▹ none) (places (shape form 3)) → Calm e × Calm g → Calm (Node form (At line ▹ e ▹ g ▹ none))
unfolding Still AllStill
binary_calm form line e g d r h c = calm_node form (At line ▹ e ▹ g ▹ none) d r h (tt, (c.0.still, (c.1.still, tt)))

named_calm : (form : Form) (line : ℕ) (e : Tree) (word : w.Word) → declares form ≡ false → restores form ≡ true → Held (At line ▹ e ▹ Leaf word ▹ none) (places (shape form 3)) → Calm e → Calm (Node form (At line ▹ e ▹ Leaf word ▹ none))
unfolding Still AllStill
named_calm form line e word d r h c = calm_node form (At line ▹ e ▹ Leaf word ▹ none) d r h (tt, (c.still, (tt, tt)))

word_calm : (form : Form) (line : ℕ) (word : w.Word) → declares form ≡ false → restores form ≡ true → Held (At line ▹ Leaf word ▹ none) (places (shape form 2)) → Calm (Node form (At line ▹ Leaf word ▹ none))
unfolding Still AllStill
word_calm form line word d r h = calm_node form (At line ▹ Leaf word ▹ none) d r h (tt, (tt, tt))

pub text_calm : (line : ℕ) (parts : Trees) → NoNodes parts → Calm (Node f.Str (At line ▹ Node f.Strings parts ▹ none))
unfolding Still AllStill shape
text_calm line parts h = calm_node f.Str (At line ▹ Node f.Strings parts ▹ none) refl refl tt (tt, ((refl, some_held p.Str parts, no_nodes_still parts h), tt))

call_calm : (line : ℕ) (e : Tree) (arguments : Trees) → Calm e × AllStill arguments → Calm (Node f.Call (At line ▹ e ▹ Node f.Arguments arguments ▹ none))
unfolding Still AllStill shape
call_calm line e arguments c = calm_node f.Call (At line ▹ e ▹ Node f.Arguments arguments ▹ none) refl refl tt (tt, (c.0.still, ((refl, commas_held (Expression assign_level) arguments, c.1), tt)))

cond_calm : (line : ℕ) (e g k : Tree) → Calm e × (Calm g × Calm k) → Calm (Node f.Cond (At line ▹ e ▹ g ▹ k ▹ none))
unfolding Still AllStill shape
cond_calm line e g k c = calm_node f.Cond (At line ▹ e ▹ g ▹ k ▹ none) refl refl tt (tt, (c.0.still, (c.1.0.still, (c.1.1.still, tt))))

size_calm : (line : ℕ) (name : Tree) → Still name → Calm (Node f.SizeofType (At line ▹ name ▹ none))
unfolding Still AllStill shape
size_calm line name s = calm_node f.SizeofType (At line ▹ name ▹ none) refl refl tt (tt, (s, tt))

cast_calm : (line : ℕ) (name e : Tree) → Still name × Calm e → Calm (Node f.Cast (At line ▹ name ▹ e ▹ none))
unfolding Still AllStill shape
cast_calm line name e s = calm_node f.Cast (At line ▹ name ▹ e ▹ none) refl refl tt (tt, (s.0, (s.1.still, tt)))

-- what is called: a name is looked up
callee_calm : (e : Tree) (c : Context) (answer : Found) → Shows (Calm e) answer → Shows (Calm e) (callee e c answer)
unfolding shape
callee_calm (Node f.Name (At line ▹ Leaf (w.Name name) ▹ none)) c answer h d q = word_calm f.Name line (w.Name name) refl refl tt
callee_calm e c answer h d q = shows_first (Calm e) answer (λ d. then (no_function (line_of e) d.0.tags (Ok d.1)) (λ k. Ok (d.0, k))) h d q

-- the words of specs: tags without braces, and names of types

pub special_still : (line : ℕ) (tree : Tree) (c : Context) → Shows (Still tree) (special_type line tree c)
unfolding Still AllStill shape
special_still line (Node f.TypedefName (Leaf (w.Name name) ▹ none)) c d q = (refl, tt, (tt, tt))
special_still line tree c d q = search (arith, never) fits 100

words_still : (rest words : Trees) (line : ℕ) (c : Context) → OneNode rest → Shows (AllStill rest) (specs_type line words rest c)
unfolding Still AllStill
words_still none words line c h d q = tt
words_still (Leaf word ▹ rest) words line c h d q = (tt, words_still rest words line c h d q)
words_still (At at ▹ rest) words line c h d q = (tt, words_still rest words line c h d q)
words_still (Node other parts ▹ rest) words line c h d q = (special_still line (Node other parts) c d q, no_nodes_still rest h)

specs_still : (at line : ℕ) (words : Trees) (c : Context) → OneNode (At at ▹ words) → Shows (Still (Node f.Specs (At at ▹ words))) (specs_type line words words c)
unfolding Still AllStill shape
specs_still at line words c h d q = (refl, rows_held p.SpecWord words, (tt, words_still words words line c h d q))

-- a declarator without function layers

pointer_still : (consts line : ℕ) (declarator : Tree) → Still declarator → Still (Node (f.Pointer consts) (At line ▹ declarator ▹ none))
unfolding Still AllStill shape
pointer_still consts line declarator s = (refl, subst (λ (ps : List Place). Held (declarator ▹ none) ps) (sym (behind_stars consts)) tt, (tt, (s, tt)))

none_first : (m k : ℕ) → m + k ≡ 0 → (m ≡ 0) × (k ≡ 0)
none_first m k e = (omega (arith, e), omega (arith, e))

mutual
  unfolding typed values typename layers suffix_layers suffix_layer Still AllStill Formed AllFormed Shaped shape

  pub typed_calm : (tree : Tree) (c : Context) → Formed tree → Shows (Calm tree) (typed tree c)
  typed_calm (Node f.Name (At line ▹ Leaf (w.Name name) ▹ none)) c g d q = word_calm f.Name line (w.Name name) refl refl tt
  typed_calm (Node f.Int (At line ▹ Leaf (w.Int bytes) ▹ none)) c g d q = word_calm f.Int line (w.Int bytes) refl refl tt
  typed_calm (Node f.Char (At line ▹ Leaf (w.Char bytes) ▹ none)) c g d q = word_calm f.Char line (w.Char bytes) refl refl tt
  typed_calm (Node f.Str (At line ▹ Node f.Strings parts ▹ none)) c g d q = text_calm line parts g.1.1.0.0
  typed_calm (Node f.Paren (At line ▹ e ▹ none)) c g d q = unary_calm f.Paren line e refl refl tt (typed_calm e c g.1.1.0 d q)
  typed_calm (Node f.Index (At line ▹ e ▹ x ▹ none)) c g d q =
      binary_calm f.Index line e x refl refl tt
      (two_shows (Calm e) (Calm x) (wanted e (typed e c)) (λ k. wanted x (typed x k)) (element line)
      (shows_first (Calm e) (typed e c) _ (typed_calm e c g.1.1.0)) (λ k. shows_first (Calm x) (typed x k) _ (typed_calm x k g.1.1.1.0)) d q)
  typed_calm (Node f.Call (At line ▹ e ▹ Node f.Arguments arguments ▹ none)) c g d q =
      call_calm line e arguments
      (shows_both (Calm e) (AllStill arguments) (callee e c (typed e c)) (λ k. then (values arguments k.0) (λ v. answered v.0 (call line (first_literal arguments) k.1 v.1)))
      (callee_calm e c (typed e c) (typed_calm e c g.1.1.0))
      (λ k h. shows_first (AllStill arguments) (values arguments k.0) (λ v. answered v.0 (call line (first_literal arguments) k.1 v.1)) (values_still arguments k.0 g.1.1.1.0.1)) d q)
  typed_calm (Node f.Dot (At line ▹ e ▹ Leaf (w.Name name) ▹ none)) c g d q =
      named_calm f.Dot line e (w.Name name) refl refl tt (shows_first (Calm e) (typed e c) _ (typed_calm e c g.1.1.0) d q)
  typed_calm (Node f.Arrow (At line ▹ e ▹ Leaf (w.Name name) ▹ none)) c g d q =
      named_calm f.Arrow line e (w.Name name) refl refl tt (shows_first (Calm e) (wanted e (typed e c)) _ (shows_first (Calm e) (typed e c) _ (typed_calm e c g.1.1.0)) d q)
  typed_calm (Node f.PostInc (At line ▹ e ▹ none)) c g d q = unary_calm f.PostInc line e refl refl tt (shows_first (Calm e) (changing e (typed e c)) _ (shows_first (Calm e) (typed e c) _ (typed_calm e c g.1.1.0)) d q)
  typed_calm (Node f.PostDec (At line ▹ e ▹ none)) c g d q = unary_calm f.PostDec line e refl refl tt (shows_first (Calm e) (changing e (typed e c)) _ (shows_first (Calm e) (typed e c) _ (typed_calm e c g.1.1.0)) d q)
  typed_calm (Node f.PreInc (At line ▹ e ▹ none)) c g d q = unary_calm f.PreInc line e refl refl tt (shows_first (Calm e) (changing e (typed e c)) _ (shows_first (Calm e) (typed e c) _ (typed_calm e c g.1.1.0)) d q)
  typed_calm (Node f.PreDec (At line ▹ e ▹ none)) c g d q = unary_calm f.PreDec line e refl refl tt (shows_first (Calm e) (changing e (typed e c)) _ (shows_first (Calm e) (typed e c) _ (typed_calm e c g.1.1.0)) d q)
  typed_calm (Node (f.Unary u.Address) (At line ▹ e ▹ none)) c g d q =
      calm_address line e (shows_first (Calm e) (typed e c) _ (typed_calm e c g.1.1.0) d q)
  typed_calm (Node (f.Unary op) (At line ▹ e ▹ none)) c g d q =
      unary_calm (f.Unary op) line e refl refl tt (shows_first (Calm e) (wanted e (typed e c)) _ (shows_first (Calm e) (typed e c) _ (typed_calm e c g.1.1.0)) d q)
  typed_calm (Node f.SizeofExpr (At line ▹ e ▹ none)) c g d q =
      unary_calm f.SizeofExpr line e refl refl tt (shows_first (Calm e) (typed e c) _ (typed_calm e c g.1.1.0) d q)
  typed_calm (Node f.SizeofType (At line ▹ name ▹ none)) c g d q =
      size_calm line name (shows_first (Still name) (typename name c) (λ t. answered t.0 (size line t.0.tags t.1)) (typename_still name c g.1.1.0) d q)
  typed_calm (Node f.Cast (At line ▹ name ▹ e ▹ none)) c g d q =
      cast_calm line name e
      (shows_both (Still name) (Calm e) (typename name c) (λ t. one (cast_operand t.1 e (typed e t.0)) (λ tags x. cast line t.1 x)) (typename_still name c g.1.1.0)
      (λ t h. shows_first (Calm e) (cast_operand t.1 e (typed e t.0)) _ (λ d q. shows_first (Calm e) (typed e t.0) _ (typed_calm e t.0 g.1.1.1.0) d (type_cast_unused t.1 e (typed e t.0) d q))) d q)
  typed_calm (Node (f.Binary op) (At line ▹ e ▹ x ▹ none)) c g d q =
      binary_calm (f.Binary op) line e x refl refl tt
      (two_shows (Calm e) (Calm x) (wanted e (typed e c)) (λ k. wanted x (typed x k)) (binary line op)
      (shows_first (Calm e) (typed e c) _ (typed_calm e c g.1.1.0)) (λ k. shows_first (Calm x) (typed x k) _ (typed_calm x k g.1.1.1.0)) d q)
  typed_calm (Node f.Cond (At line ▹ e ▹ x ▹ y ▹ none)) c g d q =
      cond_calm line e x y
      (shows_both (Calm e) (Calm x × Calm y) (wanted e (typed e c)) (λ test. two (wanted x (typed x test.0)) (λ k. wanted y (typed y k)) (λ tags v r. choice line test.1 v r)) (shows_first (Calm e) (typed e c) _ (typed_calm e c g.1.1.0))
      (λ test h. two_shows (Calm x) (Calm y) (wanted x (typed x test.0)) (λ k. wanted y (typed y k)) (λ tags v r. choice line test.1 v r)
      (shows_first (Calm x) (typed x test.0) _ (typed_calm x test.0 g.1.1.1.0)) (λ k. shows_first (Calm y) (typed y k) _ (typed_calm y k g.1.1.1.1.0))) d q)
  typed_calm (Node (f.Assign a.Plain) (At line ▹ e ▹ x ▹ none)) c g d q =
      binary_calm (f.Assign a.Plain) line e x refl refl tt
      (two_shows (Calm e) (Calm x) (typed e c) (λ k. typed x k) (assigned line (line_of x)) (typed_calm e c g.1.1.0) (λ k. typed_calm x k g.1.1.1.0) d q)
  typed_calm (Node (f.Assign op) (At line ▹ e ▹ x ▹ none)) c g d q =
      binary_calm (f.Assign op) line e x refl refl tt
      (two_shows (Calm e) (Calm x) (changing e (typed e c)) (λ k. wanted x (typed x k)) (changed line op)
      (shows_first (Calm e) (typed e c) _ (typed_calm e c g.1.1.0)) (λ k. shows_first (Calm x) (typed x k) _ (typed_calm x k g.1.1.1.0)) d q)
  typed_calm (Node f.Comma (At line ▹ e ▹ x ▹ none)) c g d q =
      binary_calm f.Comma line e x refl refl tt
      (two_shows (Calm e) (Calm x) (unused e (typed e c)) (λ k. unused x (typed x k)) (λ tags v r. Ok (behind_comma r))
      (shows_first (Calm e) (typed e c) _ (typed_calm e c g.1.1.0)) (λ k. shows_first (Calm x) (typed x k) _ (typed_calm x k g.1.1.1.0)) d q)
  typed_calm tree c g d q = never (Calm tree) _ d q

  values_still : (arguments : Trees) (c : Context) → AllFormed arguments → Shows (AllStill arguments) (values arguments c)
  values_still none c g d q = tt
  values_still (e ▹ rest) c g d q =
      let h = shows_both (Calm e) (AllStill rest) (wanted e (typed e c)) (λ x. then (values rest x.0) (λ more. Ok (more.0, x.1 ∷ more.1))) (shows_first (Calm e) (typed e c) _ (typed_calm e c g.0))
      (λ x k. shows_first (AllStill rest) (values rest x.0) (λ more. Ok (more.0, x.1 ∷ more.1)) (values_still rest x.0 g.1)) d q in
      (h.0.still, h.1)

  pub typename_still : (name : Tree) (c : Context) → Formed name → Shows (Still name) (typename name c)
  typename_still (Node f.Typename (At line ▹ Node f.Specs (At at ▹ words) ▹ declarator ▹ none)) c g d q =
      let base = came (specs_type at words words c) q in
      let l = came (layers declarator base.value.0) base.last in
      let t = came (with_layers l.value.0.tags l.value.1 base.value.1) l.last in
      let plain = kept_test (is_function t.value) LeftOut line (good (l.value.0, t.value)) d t.last in
      let named = layers_still declarator base.value.0 g.1.1.1.0 g.0 l.value l.is (not_function l.value.0.tags l.value.1 base.value.1 t.value t.is plain) in
      (refl, tt, (tt, (specs_still at at words c g.1.1.0.0 base.value base.is, (named, tt))))
  typename_still tree c g d q = never (Still tree) _ d q

  pub layers_still : (tree : Tree) (c : Context) → Formed tree → IsLayer tree → (d : Context × List Layer) → layers tree c ≡ Ok d → functions d.1 ≡ 0 → Still tree
  layers_still (Node (f.Pointer consts) (At line ▹ declarator ▹ none)) c g i d q n =
      let l = came (layers declarator c) q in
      let same : (l.value.0, PointerTo line ∷ l.value.1) ≡ d = ok_same (l.value.0, PointerTo line ∷ l.value.1) d l.last in
      pointer_still consts line declarator (layers_still declarator c g.1.1.0 g.0 l.value l.is (ap (λ (x : Context × List Layer). functions x.1) same ∙ n))
  layers_still (Node f.Direct (base ▹ Node f.Suffixes suffixes ▹ none)) c g i d q n =
      let l = came (layers base c) q in
      let s = came (suffix_layers suffixes l.value.0) l.last in
      let same : (s.value.0, reverse s.value.1 ++ l.value.1) ≡ d = ok_same (s.value.0, reverse s.value.1 ++ l.value.1) d s.last in
      let sum : functions s.value.1 + functions l.value.1 ≡ 0 = ap (λ (k : ℕ). k + functions l.value.1) (sym (functions_reversed s.value.1)) ∙ sym (functions_joined (reverse s.value.1) l.value.1) ∙ ap (λ (x : Context × List Layer). functions x.1) same ∙ n in
      let both = none_first (functions s.value.1) (functions l.value.1) sum in
      (refl, tt, ((layers_still base c g.1.0 g.0.0 l.value l.is both.1), ((refl, rows_held p.Suffix suffixes, (suffixes_still suffixes l.value.0 g.1.1.0.1 s.value s.is both.0)), tt)))
  layers_still (Node f.Parens (At line ▹ declarator ▹ none)) c g i d q n = (refl, tt, (tt, ((layers_still declarator c g.1.1.0 g.0 d q n), tt)))
  layers_still tree c g i d q n = search arith fits 100

  pub suffixes_still : (suffixes : Trees) (c : Context) → AllFormed suffixes → (d : Context × List Layer) → suffix_layers suffixes c ≡ Ok d → functions d.1 ≡ 0 → AllStill suffixes
  suffixes_still none c g d q n = tt
  suffixes_still (suffix ▹ rest) c g d q n =
      let l = came (suffix_layer suffix c) q in
      let m = came (suffix_layers rest l.value.0) l.last in
      let same : (m.value.0, l.value.1 ∷ m.value.1) ≡ d = ok_same (m.value.0, l.value.1 ∷ m.value.1) d m.last in
      let both = none_first (functions (l.value.1 ∷ [])) (functions m.value.1) (sym (functions_one l.value.1 m.value.1) ∙ ap (λ (x : Context × List Layer). functions x.1) same ∙ n) in
      (suffix_still suffix c g.0 l.value l.is both.0, suffixes_still rest l.value.0 g.1 m.value m.is both.1)

  suffix_still : (suffix : Tree) (c : Context) → Formed suffix → (d : Context × Layer) → suffix_layer suffix c ≡ Ok d → functions (d.1 ∷ []) ≡ 0 → Still suffix
  suffix_still (Node f.ArraySuffix (At line ▹ Node f.MaybeLength none ▹ none)) c g d q n = (refl, tt, (tt, ((refl, tt, tt), tt)))
  suffix_still (Node f.ArraySuffix (At line ▹ Node f.MaybeLength (e ▹ none) ▹ none)) c g d q n =
      (refl, tt, (tt, ((refl, tt, ((shows_first (Calm e) (wanted e (typed e c)) (λ x. then (array_length (line_of e) x.1) (λ length. Ok (x.0, ArrayOf line (Some length)))) (shows_first (Calm e) (typed e c) _ (typed_calm e c g.1.1.0.1.0)) d q).still, tt)), tt)))
  suffix_still (Node f.FunctionSuffix (At line ▹ Node f.Params params ▹ none)) c g d q n =
      let x = came (param_types params (in_new_scope c)) q in
      let same : (out_of_scope x.value.0, FunctionOf line x.value.1) ≡ d = ok_same (out_of_scope x.value.0, FunctionOf line x.value.1) d x.last in
      let one : 1 ≡ 0 = ap (λ (y : Context × Layer). functions (y.1 ∷ [])) same ∙ n in
      absurd (omega (arith, one))
  suffix_still tree c g d q n =
      let same : (c, FunctionOf (line_of tree) ct.none) ≡ d = ok_same (c, FunctionOf (line_of tree) ct.none) d q in
      let one : 1 ≡ 0 = ap (λ (y : Context × Layer). functions (y.1 ∷ [])) same ∙ n in
      absurd (omega (arith, one))

pub found_calm : (e : Tree) (wish : PlainType) (c : elaboration.Context) (d : elaboration.Context × conversions.Found) → Formed e → expressions.found e wish c ≡ Ok d → Calm e
found_calm e wish c d g q = typed_calm e (asked c) g (asked d.0, d.1.typed) (found_agrees e wish c d q)

-- behind an expression that elaboration has gone through, `&` stood before no name that stands for a register

-- each name that stands for a register has a number that is none of these
abbrev pub AreNumbered : ScopeList → Taken → List ℕ → Type 0
AreNumbered s t numbers = (name : List ℕ) → is_register (found s name) ≡ true → Numbered t numbers name

numbered_again : (s : ScopeList) (t v : Taken) (numbers : List ℕ) → v.names ≡ t.names → AreNumbered s t numbers → AreNumbered s v numbers
numbered_again s t v numbers e h name r = let n = h name r in (n.0, ap (λ (l : List Known). number_of l name) e ∙ n.1, n.2)

first_has : (k : ℕ) (numbers : List ℕ) → Has (k ∷ numbers) k
first_has k numbers = ap (λ (b : Bool). b || among k numbers) (eq-eqb k k refl)

name_spoken : (o : Option (List ℕ)) (s : ScopeList) (t v : Taken) (numbers : List ℕ) → AreNumbered s t numbers → v.names ≡ t.names → Inside (with_address o v).addressed numbers → NoRegister s o
name_spoken o s t v numbers h e i = search (arith, first_has, among) fits 100

address_spoken : (form : Form) (parts : Trees) (s : ScopeList) (t v : Taken) (numbers : List ℕ) → AreNumbered s t numbers → v.names ≡ t.names → Inside (left form parts t v).addressed numbers → TakesAddress s form parts
unfolding TakesAddress left
address_spoken form parts s t v numbers h same i = search (arith, name_spoken) fits 100

mutual
  unfolding taken all_taken Still AllStill Spoken AllSpoken Written AllWritten

  pub still_spoken : (tree : Tree) (s : ScopeList) (t : Taken) (numbers : List ℕ) → AreNumbered s t numbers → Inside (taken tree t).addressed numbers → Written tree → Still tree → Spoken s tree
  still_spoken (Leaf word) s t numbers h i w x = tt
  still_spoken (At line) s t numbers h i w x = w
  still_spoken (Node form parts) s t numbers h i w x =
      let ps : List Place = places (shape form (count parts)) in
      let v : Taken = all_taken parts ps t in
      let same : SameNames t v = all_still_names parts ps t x.2 in (
        address_spoken form parts s t v numbers h same.0 i,
        all_still_spoken parts ps s t numbers h (λ k y. i k (left_adds form parts t v k y)) w.1 x.1 x.2,
      )

  pub all_still_spoken : (parts : Trees) (ps : List Place) (s : ScopeList) (t : Taken) (numbers : List ℕ) → AreNumbered s t numbers → Inside (all_taken parts ps t).addressed numbers → AllWritten parts → Held parts ps → AllStill parts → AllSpoken s parts
  all_still_spoken none ps s t numbers h i w held x = tt
  all_still_spoken (tree ▹ rest) [] s t numbers h i w held x = absurd held
  all_still_spoken (tree ▹ rest) (place ∷ ps) s t numbers h i w held x =
      let v : Taken = left_part (is_scope place) t (taken tree t) in
      let same : SameNames t v = part_names (is_scope place) t (taken tree t) (still_names tree t x.0) in (
        still_spoken tree s t numbers h (λ k y. i k (all_taken_adds rest ps v k (part_adds (is_scope place) t (taken tree t) k y))) w.0 x.0,
        all_still_spoken rest ps s v numbers (numbered_again s t v numbers same.0 h) i w.1 held x.1,
      )

-- expressions

pub calm_spoken : (e : Tree) (t : Taken) (c : TextContext) → Follows t c → Inside (taken e t).addressed c.running.addressed → Written e → Calm e → Spoken c.scopes e
calm_spoken e t c h i w x = still_spoken e c.scopes t c.running.addressed h.1 i w x.still

-- full expressions

pub unused_calm : (e : Tree) (wish : PlainType) (c : TextContext) (d : TextContext × conversions.Found) → Formed e → unused_value e (expressions.found e wish c) ≡ Ok d → Calm e
unused_calm e wish c d g q = search (arith, came, found_calm)

pub valued_calm : (e : Tree) (wish : PlainType) (c : TextContext) (d : TextContext × conversions.Found) → Formed e → valued e (expressions.found e wish c) ≡ Ok d → Calm e
valued_calm e wish c d g q = unused_calm e wish c d g (valued_unused e (expressions.found e wish c) d q)

pub evaluated_calm : (e : Tree) (c z : TextContext) → Formed e → evaluated e c ≡ Ok z → Calm e
evaluated_calm e c z g q = search (arith, came, unused_calm)

pub leaves_calm : (line label : ℕ) (e : Tree) (c z : TextContext) → Formed e → leaves_if_zero line label e c ≡ Ok z → Calm e
leaves_calm line label e c z g q = search (arith, came, valued_calm)

pub operand_calm : (line : ℕ) (e : Tree) (c : TextContext) (z : TextContext × (IntType × Atom)) → Formed e → switch_operand line e c ≡ Ok z → Calm e
operand_calm line e c z g q = search (arith, came, valued_calm)

pub returned_calm : (line delays : ℕ) (e : Tree) (type : PlainType) (c z : TextContext) → Formed e → return_of line delays e type c ≡ Ok z → Calm e
returned_calm line delays e type c z g q = search (arith, came, valued_calm)

pub evaluated_spoken : (e : Tree) (t : Taken) (c z : TextContext) → Follows t c → Inside (taken e t).addressed c.running.addressed → Written e → Formed e → evaluated e c ≡ Ok z → Spoken c.scopes e
evaluated_spoken e t c z h i w g q = calm_spoken e t c h i w (evaluated_calm e c z g q)

pub leaves_spoken : (line label : ℕ) (e : Tree) (t : Taken) (c z : TextContext) → Follows t c → Inside (taken e t).addressed c.running.addressed → Written e → Formed e → leaves_if_zero line label e c ≡ Ok z → Spoken c.scopes e
leaves_spoken line label e t c z h i w g q = calm_spoken e t c h i w (leaves_calm line label e c z g q)

-- at most one expression

pub maybe_evaluated_spoken : (es : Trees) (t : Taken) (c z : TextContext) → Follows t c → Inside (taken (Node f.MaybeExpr es) t).addressed c.running.addressed → Written (Node f.MaybeExpr es) → Formed (Node f.MaybeExpr es) → maybe_evaluated es c ≡ Ok z → AllSpoken c.scopes es
unfolding taken all_taken left shape is_scope AllSpoken Written AllWritten Formed AllFormed Shaped
maybe_evaluated_spoken none t c z h i w g q = tt
maybe_evaluated_spoken (e ▹ none) t c z h i w g q = (evaluated_spoken e t c z h i w.1.0 g.1.0 q, tt)
maybe_evaluated_spoken (e ▹ more ▹ rest) t c z h i w g q = absurd g.0

pub maybe_leaves_spoken : (line label : ℕ) (es : Trees) (t : Taken) (c z : TextContext) → Follows t c → Inside (taken (Node f.MaybeExpr es) t).addressed c.running.addressed → Written (Node f.MaybeExpr es) → Formed (Node f.MaybeExpr es) → maybe_leaves line label es c ≡ Ok z → AllSpoken c.scopes es
unfolding taken all_taken left shape is_scope AllSpoken Written AllWritten Formed AllFormed Shaped
maybe_leaves_spoken line label none t c z h i w g q = tt
maybe_leaves_spoken line label (e ▹ none) t c z h i w g q = (leaves_spoken line label e t c z h i w.1.0 g.1.0 q, tt)
maybe_leaves_spoken line label (e ▹ more ▹ rest) t c z h i w g q = absurd g.0

pub return_from_spoken : (line delays : ℕ) (es : Trees) (t : Taken) (c z : TextContext) → Follows t c → Inside (taken (Node f.MaybeExpr es) t).addressed c.running.addressed → Written (Node f.MaybeExpr es) → Formed (Node f.MaybeExpr es) → return_from line delays es c ≡ Ok z → AllSpoken c.scopes es
unfolding taken all_taken left shape is_scope AllSpoken Written AllWritten Formed AllFormed Shaped
return_from_spoken line delays none t c z h i w g q = tt
return_from_spoken line delays (e ▹ none) t c z h i w g q = (calm_spoken e t c h i w.1.0 (returned_calm line delays e c.running.answer c z g.1.0 q), tt)
return_from_spoken line delays (e ▹ more ▹ rest) t c z h i w g q = absurd g.0

-- what expressions leave as it was: as many parameters and locals are declared, and the same of them are taken the address of

pub keeps_refl : (c : TextContext) → Keeps c c
keeps_refl c = record { more = more_refl c.scopes; declared = refl; addressed = refl }

pub keeps_trans : (a b c : TextContext) → Keeps a b → Keeps b c → Keeps a c
keeps_trans a b c x y = record { more = more_trans a.scopes b.scopes c.scopes x.more y.more; declared = y.declared ∙ x.declared; addressed = y.addressed ∙ x.addressed }

pub grows_keeps : (c d : TextContext) → Grows c d → Keeps c d
grows_keeps c d g = record { more = g.names; declared = g.kept.declared; addressed = g.kept.addressed }

-- tags and constants
pub keeps_tags : Tagging Keeps
keeps_tags = record { stop = keeps_refl; join = keeps_trans; tells = λ t c m. record { more = m; declared = refl; addressed = refl }; retags = λ tags c. record { more = more_refl c.scopes; declared = refl; addressed = refl }; names = λ name c. record { more = with_tag_more c.scopes name _; declared = refl; addressed = refl } }

pub told_keeps : (t : names.Context) (c : TextContext) → More c.scopes t.scopes → Keeps c (told t c)
told_keeps t c m = record { more = m; declared = refl; addressed = refl }

-- other code
pub emit_keeps : (line : ℕ) (kind : StmKind) (c : TextContext) → Keeps c (emit line kind c)
emit_keeps line kind c = record { more = more_refl c.scopes; declared = refl; addressed = refl }

pub opened_keeps : (e : Tree) (c : TextContext) → Keeps c (opened e c)
opened_keeps e c = either_way (Keeps c) (reallocates c.scopes e) (record { more = more_refl c.scopes; declared = refl; addressed = refl }) (record { more = more_refl c.scopes; declared = refl; addressed = refl })

pub closed_keeps : (e : Tree) (c : TextContext) → Keeps c (closed e c)
closed_keeps e c = either_way (Keeps c) (reallocates c.scopes e) (record { more = more_refl c.scopes; declared = refl; addressed = refl }) (keeps_refl c)

-- expressions, and full expressions

pub unused_keeps : (e : Tree) (wish : PlainType) (c : TextContext) (d : TextContext × FoundCode) → unused_value e (expressions.found e wish c) ≡ Ok d → Keeps c d.0
unused_keeps e wish c d q = grows_keeps c d.0 (grown_unused e c (expressions.found e wish c) (found_grows e wish c c (grows_refl c)) d q)

pub valued_keeps : (e : Tree) (wish : PlainType) (c : TextContext) (d : TextContext × FoundCode) → valued e (expressions.found e wish c) ≡ Ok d → Keeps c d.0
valued_keeps e wish c d q = unused_keeps e wish c d (valued_unused e (expressions.found e wish c) d q)

pub full_keeps : (e : Tree) (wish : PlainType) (c : TextContext) (d : TextContext × FoundCode) → valued e (expressions.found e wish (opened e c)) ≡ Ok d → Keeps c d.0
full_keeps e wish c d q = keeps_trans c (opened e c) d.0 (opened_keeps e c) (valued_keeps e wish (opened e c) d q)

pub evaluated_keeps : (e : Tree) (c z : TextContext) → evaluated e c ≡ Ok z → Keeps c z
evaluated_keeps e c z q =
    let d = came (unused_value e (expressions.found e Void (opened e c))) q in
    let k = keeps_trans c (opened e c) d.value.0 (opened_keeps e c) (unused_keeps e Void (opened e c) d.value d.is) in
    subst (Keeps c) (ok_same (closed e d.value.0) z d.last) (keeps_trans c d.value.0 _ k (closed_keeps e d.value.0))

pub condition_keeps : (e : Tree) (c : TextContext) (z : TextContext × Atom) → condition e c ≡ Ok z → Keeps c z.0
condition_keeps e c z q =
    let d = came (valued e (expressions.found e Void (opened e c))) q in
    let t = tested_value e d.value in
    let g : Keeps d.value.0 t.0 = grows_keeps d.value.0 t.0 (grows_tested (code_line e) d.value.1.typed.type (atom_in d.value.1) d.value.0) in
    subst (λ (y : TextContext × Atom). Keeps c y.0) (passed (not (is_scalar d.value.1.typed.type)) Operands (line_of e) (closed_atom e t) z d.last)
    (keeps_trans c d.value.0 (closed e t.0) (full_keeps e Void c d.value d.is) (keeps_trans d.value.0 t.0 (closed e t.0) g (closed_keeps e t.0)))

pub leaves_keeps : (line label : ℕ) (e : Tree) (c z : TextContext) → leaves_if_zero line label e c ≡ Ok z → Keeps c z
leaves_keeps line label e c z q =
    let d = came (condition e c) q in
    subst (Keeps c) (ok_same (emit line (Zero d.value.1 label) d.value.0) z d.last) (keeps_trans c d.value.0 _ (condition_keeps e c d.value d.is) (emit_keeps line (Zero d.value.1 label) d.value.0))

operand_of_keeps : (line : ℕ) (e : Tree) (o : Operand) (d : TextContext × FoundCode) (z : TextContext × (IntType × Atom)) → switch_operand_of line e o d ≡ Ok z → Keeps d.0 z.0
operand_of_keeps line e (Number ty) d z q =
    let v = convert_integer line (promoted ty) ty (atom_in d.1) d.0 in
    subst (λ (y : TextContext × (IntType × Atom)). Keeps d.0 y.0) (ok_same (closed e v.0, (promoted ty, v.1)) z q)
    (keeps_trans d.0 v.0 (closed e v.0) (grows_keeps d.0 v.0 (grows_convert_integer line (promoted ty) ty (atom_in d.1) d.0)) (closed_keeps e v.0))
operand_of_keeps line e other d z q = never _ _ z q

pub operand_keeps : (line : ℕ) (e : Tree) (c : TextContext) (z : TextContext × (IntType × Atom)) → switch_operand line e c ≡ Ok z → Keeps c z.0
operand_keeps line e c z q =
    let d = came (valued e (expressions.found e Void (opened e c))) q in
    keeps_trans c d.value.0 z.0 (full_keeps e Void c d.value d.is) (operand_of_keeps line e (operand d.value.1.typed.type) d.value z d.last)

-- more tags: no name stands for a register that did not before

or_register : (o x y : Option PlainNamed) → (is_register x ≡ true → is_register y ≡ true) → is_register (option_or o x) ≡ true → is_register (option_or o y) ≡ true
or_register o x y h e = search arith fits 100

tags_fewer : (f g : Table) (a b : List Table) (name : List ℕ) → MoreTags f g → MoreAll a b → is_register (found_from g name b) ≡ true → is_register (found_from f name a) ≡ true
tags_fewer f g (t ∷ ts) (u ∷ us) name mf m e =
    ⊎_elim
    (λ (s : named_in name u ≡ named_in name t).
    or_register (named_in name t) (found_from g name us) (found_from f name ts) (tags_fewer f g ts us name mf m.1) (sym (ap (λ (o : Option PlainNamed). is_register (option_or o (found_from g name us))) s) ∙ e))
    (λ (s : IsNewTag name t u). let clash : false ≡ true = sym (ap (λ (o : Option PlainNamed). is_register (option_or o (found_from g name us))) s.4) ∙ e in cc)
    (m.0 name)
tags_fewer f g a b name mf m e = search arith fits 100

pub more_fewer : (s r : ScopeList) → More s r → Fewer s r
more_fewer s r m name e = tags_fewer s.file r.file s.inner r.inner name m.file m.inner e

-- what follows before an expression follows behind it

pub numbered_kept : (t u : Taken) (a b : List ℕ) (name : List ℕ) → u.names ≡ t.names → b ≡ a → Numbered t a name → Numbered u b name
numbered_kept t u a b name e s n = (n.0, ap (λ (l : List Known). number_of l name) e ∙ n.1, ap (λ (l : List ℕ). among n.0 l) s ∙ n.2)

pub keeps_follows : (t u : Taken) (c d : TextContext) → SameNames t u → Keeps c d → Follows t c → Follows u d
keeps_follows t u c d s k h =
    (s.1 ∙ h.0 ∙ sym k.declared, λ name e. numbered_kept t u c.running.addressed d.running.addressed name s.0 k.addressed (h.1 name (more_fewer c.scopes d.scopes k.more name e)))

pub keeps_step : (t u : Taken) (c d : TextContext) → Same t u → Keeps c d → InStep t c → InStep u d
keeps_step t u c d s k h = (s.typedef ∙ h.0, scope_more c.scopes.inner d.scopes.inner k.more.inner h.1, keeps_follows t u c d (s.names, s.declared) k h.2)

pub drops_more : (k : ℕ) (s r : ScopeList) → More s r → More (drops k s) (drops k r)
drops_more zero s r m = m
drops_more (suc k) s r m = drops_more k (scopes.left s) (scopes.left r) (left_more s r m)

pub keeps_stepped : (t u : Taken) (c d : TextContext) → SameNames t u → Keeps c d → Follows t c → Stepped t c u d
keeps_stepped t u c d s k h = search (keeps_follows, more_depth, more_fewer, drops_more, left_more)

pub stepped_refl : (t : Taken) (c : TextContext) → Follows t c → Stepped t c t c
stepped_refl t c h = record { follows = h; addressed = refl; depth = refl; outside = λ j name e. e }

pub stepped_trans : (t u v : Taken) (a b c : TextContext) → Stepped t a u b → Stepped u b v c → Stepped t a v c
stepped_trans t u v a b c x y = record { follows = y.follows; addressed = y.addressed ∙ x.addressed; depth = y.depth ∙ x.depth; outside = λ j name e. x.outside j name (y.outside j name e) }

pub stepped_scope : (t u : Taken) (c d : TextContext) → Stepped t c u d → HasScope c.scopes.inner → HasScope d.scopes.inner
stepped_scope t u c d s h = search arith fits 100

pub stepped_names : (t u v : Taken) (c d : TextContext) → SameNames u v → Stepped t c u d → Stepped t c v d
stepped_names t u v c d s x = grind (arith, numbered_kept)

-- expressions go in step (C99 6.5, 6.8.3)

pub calm_step : (e : Tree) (t : Taken) (c d : TextContext) → Calm e → Keeps c d → InStep t c → InStep (taken e t) d
calm_step e t c d x k h = keeps_step t (taken e t) c d (calm_same e t x) k h

pub evaluated_in_step : (e : Tree) (t : Taken) (c z : TextContext) → Formed e → InStep t c → evaluated e c ≡ Ok z → InStep (taken e t) z
evaluated_in_step e t c z g h q = calm_step e t c z (evaluated_calm e c z g q) (evaluated_keeps e c z q) h

pub leaves_in_step : (line label : ℕ) (e : Tree) (t : Taken) (c z : TextContext) → Formed e → InStep t c → leaves_if_zero line label e c ≡ Ok z → InStep (taken e t) z
leaves_in_step line label e t c z g h q = calm_step e t c z (leaves_calm line label e c z g q) (leaves_keeps line label e c z q) h

-- a constant

pub constant_calm : (e : Tree) (c : TextContext) (z : TextContext × Constant) → Formed e → constant e c ≡ Ok z → Calm e
constant_calm e c z g q = search (arith, came, shows_first, typed_calm) fits 100

pub constant_in_step : (e : Tree) (t : Taken) (c : TextContext) (z : TextContext × Constant) → Formed e → InStep t c → constant e c ≡ Ok z → InStep (taken e t) z.0
constant_in_step e t c z g h q = calm_step e t c z.0 (constant_calm e c z g q) (constant_keeps Keeps keeps_tags e c z q) h

-- at most one expression

pub maybe_evaluated_in_step : (es : Trees) (t : Taken) (c z : TextContext) → Formed (Node f.MaybeExpr es) → InStep t c → maybe_evaluated es c ≡ Ok z → InStep (taken (Node f.MaybeExpr es) t) z
unfolding taken all_taken left shape is_scope Formed AllFormed Shaped
maybe_evaluated_in_step none t c z g h q = subst (λ (y : TextContext). InStep t y) (ok_same c z q) h
maybe_evaluated_in_step (e ▹ none) t c z g h q = let s = evaluated_in_step e t c z g.1.0 h q in (h.0, s.1, s.2)
maybe_evaluated_in_step (e ▹ more ▹ rest) t c z g h q = absurd g.0

pub maybe_leaves_in_step : (line label : ℕ) (es : Trees) (t : Taken) (c z : TextContext) → Formed (Node f.MaybeExpr es) → InStep t c → maybe_leaves line label es c ≡ Ok z → InStep (taken (Node f.MaybeExpr es) t) z
unfolding taken all_taken left shape is_scope Formed AllFormed Shaped
maybe_leaves_in_step line label none t c z g h q = subst (λ (y : TextContext). InStep t y) (ok_same c z q) h
maybe_leaves_in_step line label (e ▹ none) t c z g h q = let s = leaves_in_step line label e t c z g.1.0 h q in (h.0, s.1, s.2)
maybe_leaves_in_step line label (e ▹ more ▹ rest) t c z g h q = absurd g.0

-- `return`, and what leaves delay blocks

pub delays_keep : (line k : ℕ) (c : TextContext) → Keeps c (leaves line k c)
delays_keep line zero c = keeps_refl c
delays_keep line (suc k) c = keeps_trans c (emit line Leave c) (leaves line k (emit line Leave c)) (emit_keeps line Leave c) (delays_keep line k (emit line Leave c))

pub returned_keeps : (line delays : ℕ) (a : Option Atom) (c : TextContext) → Keeps c (returned line delays a c)
returned_keeps line delays a c = keeps_trans c (leaves line delays c) _ (delays_keep line delays c) (emit_keeps line (Return a) (leaves line delays c))

pub return_of_keeps : (line delays : ℕ) (e : Tree) (type : PlainType) (c z : TextContext) → return_of line delays e type c ≡ Ok z → Keeps c z
return_of_keeps line delays e type c z q =
    let begun = opened e c in
    let d = came (valued e (expressions.found e type begun)) q in
    let k = unbarred (unconverted type d.value.1.typed) line (return_value line delays e type begun.code d.value) z (behind_test (is_void type) Assignment line (converts line type d.value.1.typed (return_value line delays e type begun.code d.value)) z d.last) in
    let v = convert line begun.code type d.value.1.typed (atom_in d.value.1) d.value.0 in
    let grown : Grows begun d.value.0 = grown_valued e begun (expressions.found e type begun) (found_grows e type begun begun (grows_refl begun)) d.value d.is in
    let all : Keeps begun v.0 = grows_keeps begun v.0 (grows_convert line begun type d.value.1.typed (atom_in d.value.1) d.value.0 grown) in
    subst (Keeps c) (ok_same (returned line delays (Some v.1) (closed e v.0)) z k.1)
    (keeps_trans c begun _ (opened_keeps e c) (keeps_trans begun v.0 _ all (keeps_trans v.0 (closed e v.0) _ (closed_keeps e v.0) (returned_keeps line delays (Some v.1) (closed e v.0)))))

pub return_from_in_step : (line delays : ℕ) (es : Trees) (t : Taken) (c z : TextContext) → Formed (Node f.MaybeExpr es) → InStep t c → return_from line delays es c ≡ Ok z → InStep (taken (Node f.MaybeExpr es) t) z
unfolding taken all_taken left shape is_scope Formed AllFormed Shaped
return_from_in_step line delays none t c z g h q =
    keeps_step t t c z (record { names = refl; typedef = refl; declared = refl })
    (subst (Keeps c) (ok_same (returned line delays None c) z (behind_test (not (is_void c.running.answer)) Assignment line (good (returned line delays None c)) z q)) (returned_keeps line delays None c)) h
return_from_in_step line delays (e ▹ none) t c z g h q =
    let s = calm_step e t c z (returned_calm line delays e c.running.answer c z g.1.0 q) (return_of_keeps line delays e c.running.answer c z q) h in (h.0, s.1, s.2)
return_from_in_step line delays (e ▹ more ▹ rest) t c z g h q = absurd g.0
