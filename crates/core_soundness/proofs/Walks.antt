-- One walk over expressions, and one over specs, tags and declarators.
use Rattle.core_soundness.proofs.Words.Std.{◌≡◌, ◌≤◌, ◌+◌, ◌*◌, ℕ, zero, suc, List, [], ◌∷◌, refl, arith, Bool, true, false, cond, Option, Some, None, unwrap_or, Ok, subst, ltb-false, ℤ, pos, IfSome}
use Rattle.core_soundness.proofs.Words.Trees.{Item, Says, Here, Part, shape, commas, behind_commas, assign_level, Place, Expression, name_of, Tree, Trees, Leaf, At, Node, none, ◌▹◌, count, RecordSort}
use Rattle.core_soundness.proofs.Words.Types.{TagTable, PlainType, PlainTypes, Void, Int, IntType, Callee, Prints, NoFunction, named, called, line_of, joined, string, literal, first_literal, typed, typename, wanted, constant_from, PlainNamed, Checked, found as declaration, with_name, tag_name, after_declaration, special_type, array_length, with_new_tag, with_layers, with_param_layers, adjusted, address, PlainTyped, is_record, place, BuiltIn}
use Rattle.core_soundness.proofs.Words.Core.{IsShort, Atom}
use Rattle.core_soundness.proofs.Words.Elaborating.{record_assigned, scalar_assigned, old_value, Argument, first_type, rest_types, argument_from, built_in_at, Context, With, asked, told, new_label, entered, Found, valued, unused, Spot, convert_integer, convert, tested, write, constant, with_type, maybe_name, begun_as, ended, member, enumerator, enum_named, param, left_params, specs, words_type, tag_type, members, member_names, enumerators, layers, suffix_layers, suffix_layer, params, name_answer, literal_answer, unevaluated, address_answer, changing, callee_name, callee, parameters, format_argument, is_printf, call_answer, found, arguments, cast_operand, with_param, with_literal, left_operand, and_then, or_else, choose, type_ahead, choose_first}
use Rattle.core_soundness.proofs.Words.Facts.{Names, AllNames}
use Rattle.c_types.specs.declared.types.IntType.TheVariants as i
use Rattle.c_tree.specs.Forms as f
use Rattle.c_tree.specs.Places as p
use Rattle.c_tree.specs.Words as w
use Rattle.c_tree.specs.declared.operator.AssignOp.TheVariants as a
use Rattle.c_tree.specs.declared.operator.BinaryOp.TheVariants as b
use Rattle.c_tree.specs.declared.operator.UnaryOp.TheVariants as u
use Rattle.c_decls.specs.Named as n
use Rattle.c_decls.specs.TypeNames as names
use Rattle.c_decls.specs.declared.built_in.BuiltIn.TheVariants as bi
use Rattle.elaboration.specs.Declarators as d
use Rattle.elaboration.specs.Declarators.{begun}
use Rattle.core_soundness.proofs.Agreeing.{came}
use Rattle.core_soundness.proofs.CodeWalk.{Writes, PrintsShort, and_keeps, applied_keeps, argument_keeps, between_keeps, call_keeps, cast_keeps, changed_keeps, choice_keeps, dotted_keeps, indexed_keeps, left_keeps, old_keeps, or_keeps, pointed_keeps, record_keeps, scalar_assigned_keeps, stepped_keeps, unused_keeps, valued_keeps, convert_integer_keeps, convert_keeps, tested_keeps, write_keeps}
use Rattle.core_soundness.proofs.Growth.{ok_same, Reached, reached_ok, reached_refused, reached_after, reached_then, cast_unused, reached_unless, Led, led_ok, led_refused, led_unless, Grows, grows_refl, grows_trans, grows_emit, grows_integer, grows_pointer, grows_forgotten, grows_told, Grown, grows_fork, grows_format, grows_calls, grows_free, grown_literal}
use Rattle.core_soundness.proofs.Scopes.{some_short, More, with_tag_more, name_named}
use Rattle.core_soundness.proofs.TagSorts.{typed_after, typename_after, After, wanted_after, special_after}

-- how much trees weigh: six for each of their words

abbrev pub said : List Item → ℕ
said [] = 0
said (Says word ∷ items) = 6 + said items
said (Here ∷ items) = said items
said (Part place ∷ items) = said items

abbrev mutual
  pub weight : Tree → ℕ
  weight (Leaf word) = 6
  weight (At line) = 0
  weight (Node form parts) = said (shape form (count parts)) + weights parts

  pub weights : Trees → ℕ
  weights none = 0
  weights (tree ▹ rest) = weight tree + weights rest

-- commas between parts
behind_said : (place : Place) (k : ℕ) → said (behind_commas place k) ≡ 6 * k
behind_said place zero = refl
behind_said place (suc k) = omega (arith, behind_said place k)

pub commas_said : (place : Place) (k : ℕ) → 6 * k ≤ said (commas place k) + 6
commas_said place k = search (arith, behind_said) fits 100

-- one walk over expressions: what each of its steps keeps, it keeps (C99 6.5)

-- formats are no longer than objects

text_short : (e : Tree) (known : names.Context) (z : names.Context × PlainTyped) → typed e known ≡ Ok z → IfSome (literal e) IsShort
unfolding typed
text_short (Node f.Str (At line ▹ Node f.Strings parts ▹ none)) known z h = grind (arith, true, false, ltb-false)
text_short (Node f.Paren (At line ▹ e ▹ none)) known z h = text_short e known z h
text_short e known z h = tt

first_short : (e : Tree) (rest : Trees) (line : ℕ) (params : PlainTypes) (c : Context) (z : Context × List Argument) → arguments line Prints params (e ▹ rest) c ≡ Ok z → IfSome (literal e) IsShort
unfolding arguments
first_short e rest line params c z h =
    let d = came (format_argument (literal e) c (typed e (asked c)) (valued e (found e (first_type params) c))) h in
    by (literal e) refl d.value d.is
  where
    by : (o : Option (List ℕ)) → literal e ≡ o → (y : Context × Found) → format_argument o c (typed e (asked c)) (valued e (found e (first_type params) c)) ≡ Ok y → IfSome o IsShort
    by None q y k = tt
    by (Some bytes) q y k =
        let t = came (typed e (asked c)) k in
        subst (λ (o : Option (List ℕ)). IfSome o IsShort) q (text_short e (asked c) t.value t.is)

formats_short : (values : Trees) (line : ℕ) (params : PlainTypes) (c : Context) (z : Context × List Argument) → arguments line Prints params values c ≡ Ok z → IsShort (unwrap_or (first_literal values) [])
formats_short none line params c z h = omega arith
formats_short (e ▹ rest) line params c z h = some_short (literal e) (first_short e rest line params c z h)

called_printf : (line : ℕ) (tags : TagTable) (o : Option PlainNamed) (k : Callee) → called line tags o ≡ Ok k → built_in_at o ≡ Some bi.Printf → k ≡ Prints
called_printf line tags o k h e = search (arith, ok_same) fits 100

printf_callee : (e : Tree) (c : Context) (answer : With Found) (d : Context × Callee) → callee e c answer ≡ Ok d → built_in_at (callee_name e c) ≡ Some bi.Printf → d.1 ≡ Prints
printf_callee e c answer d h e2 = search (arith, came, ok_same, called_printf) fits 100

prints_short : (o : Option BuiltIn) (format : Option (List ℕ)) → (o ≡ Some bi.Printf → IsShort (unwrap_or format [])) → PrintsShort o format
prints_short o format h = search arith fits 100

call_prints : (e : Tree) (c : Context) (answer : With Found) (values : Trees) (line : ℕ) (d : Context × Callee) (v : Context × List Argument) → callee e c answer ≡ Ok d → arguments line d.1 (parameters d.1) values d.0 ≡ Ok v → PrintsShort (built_in_at (callee_name e c)) (first_literal values)
call_prints e c answer values line d v h k = search (arith, prints_short, formats_short, printf_callee)

-- the steps of a walk over expressions: what writes code, what types tell, and literals
pub record Walks (R : ℕ → Context → Context → Type 0) : Type 0 where
  pub writes : Writes R
  pub tells : (t : names.Context) (c : Context) → More c.scopes t.scopes → R 0 c (told t c)
  pub literals : (line : ℕ) (bytes : List ℕ) (c : Context) → Reached (R 0 c) (with_literal line bytes c)

module _ (R : ℕ → Context → Context → Type 0) (walk : Walks R) where
  both : {a b c : Context} (m n k : ℕ) → m + n ≤ k → R m a b → R n b c → R k a c
  both {a} {b} {c} m n k e x y = walk.writes.join m n k a b c e x y

  within : {a b : Context} (m k : ℕ) → m ≤ k → R m a b → R k a b
  within {a} {b} m k e x = walk.writes.join m 0 k a b b (omega (arith, e)) x (walk.writes.stop 0 b)

  -- answers

  name_keeps : (line : ℕ) (name : List ℕ) (declared : Option PlainNamed) (c : Context) → Reached (R 0 c) (name_answer line name declared c)
  name_keeps line name declared c = reached_after (R 0 c) (named line declared) (λ e h. reached_ok (R 0 c) (walk.writes.stop 0 c))

  string_keeps : (line : ℕ) (bytes : List ℕ) (c : Context) → Reached (R 0 c) (literal_answer line bytes c)
  string_keeps line bytes c =
      reached_after (R 0 c) (string line bytes)
      (λ e h. reached_then (R 0 c) (R 0 c) (walk.literals line bytes c) (λ d k. reached_ok (R 0 c) k))

  unevaluated_keeps : (tree : Tree) (c : Context) → Reached (R 0 c) (unevaluated c (typed tree (asked c)))
  unevaluated_keeps tree c =
      reached_after (R 0 c) (typed tree (asked c)) (λ d h. reached_ok (R 0 c) (walk.tells d.0 c (typed_after tree (asked c) d h)))

  address_keeps : (line : ℕ) (c : Context) (e : Found) → Reached (R 0 c) (address_answer line c e)
  address_keeps line c e = reached_after (R 0 c) (address line e.typed) (λ type h. reached_ok (R 0 c) (walk.writes.stop 0 c))

  changing_keeps : (k : ℕ) (tree : Tree) (c : Context) (answer : With Found) → Reached (R k c) answer → Reached (R k c) (changing tree answer)
  changing_keeps k tree c answer g = search (arith, reached_then, reached_after, reached_ok)

  callee_keeps : (k : ℕ) (tree : Tree) (c : Context) (answer : With Found) → Reached (R k c) answer → Reached (R (k + 1) c) (callee tree c answer)
  callee_keeps k (Node f.Name (At line ▹ Leaf (w.Name name) ▹ none)) c answer h = search (arith, reached_after, reached_ok)
  callee_keeps k tree c answer h = reached_then (R (k + 1) c) (R (k + 1) c) (valued_keeps R walk.writes k tree c answer h) (λ d q. reached_ok (R (k + 1) c) q)

  format_keeps : (k : ℕ) (format : Option (List ℕ)) (c : Context) (answer : Checked (names.Context × PlainTyped)) (walked : With Found) → Reached (R k c) walked → Reached (R k c) (format_argument format c answer walked)
  format_keeps k format c answer walked h = search (arith, reached_after, reached_ok) fits 100

  called_keeps : (line : ℕ) (name : Option PlainNamed) (function : Callee) (wanted : PlainType) (trees : Trees) (c : Context) (values : List Argument) → PrintsShort (built_in_at name) (first_literal trees) → Reached (R 2 c) (call_answer line name function wanted trees c values)
  called_keeps line name function wanted trees c values g = search (arith, reached_after, reached_ok, call_keeps)

  assigned_keeps : (k : ℕ) (test : Bool) (line : ℕ) (x : Tree) (target : Found) (c : Context) (r : Context × Found) → R k c r.0 → Reached (R (k + 2) c) (cond test (record_assigned line (line_of x) target r) (scalar_assigned line c.code x target r))
  assigned_keeps k true line x target c r g z q = both k 0 (k + 2) (omega arith) g (record_keeps R walk.writes line (line_of x) target r z q)
  assigned_keeps k false line x target c r g z q = scalar_assigned_keeps R walk.writes k line x target c r g z q

  mutual
    unfolding found arguments shape

    pub found_keeps : (tree : Tree) (wish : PlainType) (c : Context) → Reached (R (weight tree) c) (found tree wish c)
    found_keeps (Node f.Name (At line ▹ Leaf (w.Name name) ▹ none)) wish c z q = within 0 _ (omega arith) (name_keeps line name (declaration c.scopes name) c z q)
    found_keeps (Node f.Int (At line ▹ Leaf (w.Int bytes) ▹ none)) wish c z q = within 0 _ (omega arith) (reached_ok (R 0 c) (walk.writes.stop 0 c) z q)
    found_keeps (Node f.Char (At line ▹ Leaf (w.Char bytes) ▹ none)) wish c z q = within 0 _ (omega arith) (reached_ok (R 0 c) (walk.writes.stop 0 c) z q)
    found_keeps (Node f.Str (At line ▹ Node f.Strings parts ▹ none)) wish c z q = within 0 _ (omega arith) (string_keeps line (joined parts) c z q)
    found_keeps (Node f.Paren (At line ▹ e ▹ none)) wish c z q = within (weight e) _ (omega arith) (found_keeps e wish c z q)
    found_keeps (Node f.Index (At line ▹ e ▹ x ▹ none)) wish c z q =
        let d = came (valued e (found e Void c)) q in
        let r = came (valued x (found x Void d.value.0)) d.last in
        let one = valued_keeps R walk.writes (weight e) e c (found e Void c) (found_keeps e Void c) d.value d.is in
        let two = valued_keeps R walk.writes (weight x) x d.value.0 (found x Void d.value.0) (found_keeps x Void d.value.0) r.value r.is in
        let three = indexed_keeps R walk.writes line r.value.0 d.value.1 r.value.1 z r.last in
        both (weight e + 1) (weight x + 4) _ (omega arith) one (both (weight x + 1) 3 (weight x + 4) (omega arith) two three)
    found_keeps (Node f.Call (At line ▹ e ▹ Node f.Arguments values ▹ none)) wish c z q =
        let d = came (callee e c (found e Void c)) q in
        let v = came (arguments line d.value.1 (parameters d.value.1) values d.value.0) d.last in
        let one = callee_keeps (weight e) e c (found e Void c) (found_keeps e Void c) d.value d.is in
        let two = arguments_keeps values line d.value.1 (parameters d.value.1) d.value.0 v.value v.is in
        let three = called_keeps line (callee_name e c) d.value.1 wish values v.value.0 v.value.1 (call_prints e c (found e Void c) values line d.value v.value d.is v.is) z v.last in
        let room = commas_said (Expression assign_level) (count values) in
        both (weight e + 1) (weights values + 2 * count values + 2) _ (omega (arith, room)) one (both (weights values + 2 * count values) 2 (weights values + 2 * count values + 2) (omega arith) two three)
    found_keeps (Node f.Dot (At line ▹ e ▹ Leaf (w.Name name) ▹ none)) wish c z q =
        let d = came (found e Void c) q in
        both (weight e) 1 _ (omega arith) (found_keeps e Void c d.value d.is) (dotted_keeps R walk.writes line name d.value.0 d.value.1 z d.last)
    found_keeps (Node f.Arrow (At line ▹ e ▹ Leaf (w.Name name) ▹ none)) wish c z q =
        let d = came (valued e (found e Void c)) q in
        both (weight e + 1) 1 _ (omega arith) (valued_keeps R walk.writes (weight e) e c (found e Void c) (found_keeps e Void c) d.value d.is) (pointed_keeps R walk.writes line name d.value.0 d.value.1 z d.last)
    found_keeps (Node f.PostInc (At line ▹ e ▹ none)) wish c z q =
        let d = came (changing e (found e Void c)) q in
        both (weight e) 5 _ (omega arith) (changing_keeps (weight e) e c (found e Void c) (found_keeps e Void c) d.value d.is) (stepped_keeps R walk.writes line a.Add true d.value z d.last)
    found_keeps (Node f.PostDec (At line ▹ e ▹ none)) wish c z q =
        let d = came (changing e (found e Void c)) q in
        both (weight e) 5 _ (omega arith) (changing_keeps (weight e) e c (found e Void c) (found_keeps e Void c) d.value d.is) (stepped_keeps R walk.writes line a.Subtract true d.value z d.last)
    found_keeps (Node f.PreInc (At line ▹ e ▹ none)) wish c z q =
        let d = came (changing e (found e Void c)) q in
        both (weight e) 5 _ (omega arith) (changing_keeps (weight e) e c (found e Void c) (found_keeps e Void c) d.value d.is) (stepped_keeps R walk.writes line a.Add false d.value z d.last)
    found_keeps (Node f.PreDec (At line ▹ e ▹ none)) wish c z q =
        let d = came (changing e (found e Void c)) q in
        both (weight e) 5 _ (omega arith) (changing_keeps (weight e) e c (found e Void c) (found_keeps e Void c) d.value d.is) (stepped_keeps R walk.writes line a.Subtract false d.value z d.last)
    found_keeps (Node (f.Unary u.Address) (At line ▹ e ▹ none)) wish c z q =
        let d = came (found e Void c) q in
        both (weight e) 0 _ (omega arith) (found_keeps e Void c d.value d.is) (address_keeps line d.value.0 d.value.1 z d.last)
    found_keeps (Node (f.Unary op) (At line ▹ e ▹ none)) wish c z q =
        let d = came (valued e (found e Void c)) q in
        both (weight e + 1) 2 _ (omega arith) (valued_keeps R walk.writes (weight e) e c (found e Void c) (found_keeps e Void c) d.value d.is) (applied_keeps R walk.writes line op e d.value.0 d.value.1 z d.last)
    found_keeps (Node f.SizeofExpr (At line ▹ e ▹ none)) wish c z q = within 0 _ (omega arith) (unevaluated_keeps (Node f.SizeofExpr (At line ▹ e ▹ none)) c z q)
    found_keeps (Node f.SizeofType (At line ▹ name ▹ none)) wish c z q = within 0 _ (omega arith) (unevaluated_keeps (Node f.SizeofType (At line ▹ name ▹ none)) c z q)
    found_keeps (Node f.Cast (At line ▹ name ▹ e ▹ none)) wish c z q =
        let t = came (typename name (asked c)) q in
        let d = came (cast_operand t.value.1 e (found e t.value.1 (told t.value.0 c))) t.last in
        let tell = walk.tells t.value.0 c (typename_after name (asked c) t.value t.is) in
        let one = both 0 (weight e + 1) (weight e + 1) (omega arith) tell (unused_keeps R walk.writes (weight e) e (told t.value.0 c) (found e t.value.1 (told t.value.0 c)) (found_keeps e t.value.1 (told t.value.0 c)) d.value (cast_unused t.value.1 e (found e t.value.1 (told t.value.0 c)) d.value d.is)) in
        within (weight e + 1 + 1) _ (omega arith) (cast_keeps R walk.writes (weight e + 1) line t.value.1 c d.value.0 d.value.1 one z d.last)
    found_keeps (Node (f.Binary b.And) (At line ▹ e ▹ x ▹ none)) wish c z q =
        let d = came (valued e (found e Void c)) q in
        let begun = and_then line e d.value in
        let r = came (valued x (found x Void begun)) d.last in
        let one = valued_keeps R walk.writes (weight e) e c (found e Void c) (found_keeps e Void c) d.value d.is in
        let two = valued_keeps R walk.writes (weight x) x begun (found x Void begun) (found_keeps x Void begun) r.value r.is in
        both (weight e + 1) (weight x + 1 + 3) _ (omega arith) one (and_keeps R walk.writes (weight x + 1) line e x d.value.1 d.value r.value two z r.last)
    found_keeps (Node (f.Binary b.Or) (At line ▹ e ▹ x ▹ none)) wish c z q =
        let d = came (valued e (found e Void c)) q in
        let begun = or_else line e d.value in
        let r = came (valued x (found x Void begun.0)) d.last in
        let one = valued_keeps R walk.writes (weight e) e c (found e Void c) (found_keeps e Void c) d.value d.is in
        let two = valued_keeps R walk.writes (weight x) x begun.0 (found x Void begun.0) (found_keeps x Void begun.0) r.value r.is in
        both (weight e + 1) (weight x + 1 + 3) _ (omega arith) one (or_keeps R walk.writes (weight x + 1) line e x begun.1 d.value.1 d.value r.value two z r.last)
    found_keeps (Node (f.Binary op) (At line ▹ e ▹ x ▹ none)) wish c z q =
        let d = came (valued e (found e Void c)) q in
        let begun = left_operand op c.code x d.value in
        let r = came (valued x (found x Void begun.0)) d.last in
        let one = left_keeps R walk.writes (weight e + 1) op c x d.value (valued_keeps R walk.writes (weight e) e c (found e Void c) (found_keeps e Void c) d.value d.is) in
        let two = valued_keeps R walk.writes (weight x) x begun.0 (found x Void begun.0) (found_keeps x Void begun.0) r.value r.is in
        both (weight e + 1) (weight x + 1 + 3) _ (omega arith) one (between_keeps R walk.writes (weight x + 1) line op begun.0 r.value.0 begun.1 r.value.1 two z r.last)
    found_keeps (Node f.Cond (At line ▹ e ▹ x ▹ y ▹ none)) wish c z q =
        let d = came (valued e (found e Void c)) q in
        let begun = choose line e d.value in
        let v = came (valued x (found x Void begun)) d.last in
        let type = type_ahead line d.value.1 y v.value in
        let first = choose_first line (new_label d.value.0) begun.code type v.value in
        let r = came (valued y (found y Void first.0)) v.last in
        let one = valued_keeps R walk.writes (weight e) e c (found e Void c) (found_keeps e Void c) d.value d.is in
        let two = valued_keeps R walk.writes (weight x) x begun (found x Void begun) (found_keeps x Void begun) v.value v.is in
        let three = valued_keeps R walk.writes (weight y) y first.0 (found y Void first.0) (found_keeps y Void first.0) r.value r.is in
        both (weight e + 1) (weight x + 1 + (weight y + 1) + 4) _ (omega arith) one (choice_keeps R walk.writes (weight x + 1) (weight y + 1) line e type d.value.1 d.value v.value r.value two three z r.last)
    found_keeps (Node (f.Assign a.Plain) (At line ▹ e ▹ x ▹ none)) wish c z q =
        let d = came (found e Void c) q in
        let r = came (found x d.value.1.typed.type d.value.0) d.last in
        let two = found_keeps x d.value.1.typed.type d.value.0 r.value r.is in
        both (weight e) (weight x + 2) _ (omega arith) (found_keeps e Void c d.value d.is) (assigned_keeps (weight x) (is_record d.value.1.typed.type) line x d.value.1 d.value.0 r.value two z r.last)
    found_keeps (Node (f.Assign op) (At line ▹ e ▹ x ▹ none)) wish c z q =
        let d = came (changing e (found e Void c)) q in
        let old = old_value line d.value in
        let r = came (valued x (found x Void old.0)) d.last in
        let one = both (weight e) 1 (weight e + 1) (omega arith) (changing_keeps (weight e) e c (found e Void c) (found_keeps e Void c) d.value d.is) (old_keeps R walk.writes line d.value) in
        let two = valued_keeps R walk.writes (weight x) x old.0 (found x Void old.0) (found_keeps x Void old.0) r.value r.is in
        both (weight e + 1) (weight x + 5) _ (omega arith) one (both (weight x + 1) 4 (weight x + 5) (omega arith) two (changed_keeps R walk.writes line op false d.value.1 old.1 r.value z r.last))
    found_keeps (Node f.Comma (At line ▹ e ▹ x ▹ none)) wish c z q =
        let d = came (unused e (found e Void c)) q in
        let r = came (unused x (found x Void d.value.0)) d.last in
        let one = unused_keeps R walk.writes (weight e) e c (found e Void c) (found_keeps e Void c) d.value d.is in
        let two = unused_keeps R walk.writes (weight x) x d.value.0 (found x Void d.value.0) (found_keeps x Void d.value.0) r.value r.is in
        both (weight e + 1) (weight x + 1) _ (omega arith) one (reached_ok (R (weight x + 1) d.value.0) two z r.last)
    found_keeps tree wish c z q = reached_refused (R (weight tree) c) z q

    arguments_keeps : (trees : Trees) (line : ℕ) (target : Callee) (params : PlainTypes) (c : Context) → Reached (R (weights trees + 2 * count trees) c) (arguments line target params trees c)
    arguments_keeps none line target params c z q = reached_ok (R 0 c) (walk.writes.stop 0 c) z q
    arguments_keeps (e ▹ rest) line target params c z q =
        let d = came (format_argument (is_printf target e) c (typed e (asked c)) (valued e (found e (first_type params) c))) q in
        let v = argument_from line params c.code d.value.0 d.value.1 in
        let r = came (arguments line NoFunction (rest_types params) rest v.0) d.last in
        let one = format_keeps (weight e + 1) (is_printf target e) c (typed e (asked c)) (valued e (found e (first_type params) c)) (valued_keeps R walk.writes (weight e) e c (found e (first_type params) c) (found_keeps e (first_type params) c)) d.value d.is in
        let two = argument_keeps R walk.writes (weight e + 1) line params c d.value.0 d.value.1 one in
        let three = arguments_keeps rest line NoFunction (rest_types params) v.0 r.value r.is in
        both (weight e + 1 + 1) (weights rest + 2 * count rest) _ (omega arith) two (reached_ok (R (weights rest + 2 * count rest) v.0) three z r.last)

-- one walk over tags, enumerations and constants: what each of their steps keeps, they keep (C99 6.7.2)

-- the steps, where R is said of what is known before them and behind them
pub record Tagging (R : Context → Context → Type 0) : Type 0 where
  -- nothing, and one part behind another
  pub stop : (c : Context) → R c c
  pub join : (a b c : Context) → R a b → R b c → R a c
  -- what types name, other tags, and the name of an enumeration
  pub tells : (t : names.Context) (c : Context) → More c.scopes t.scopes → R c (told t c)
  pub retags : (tags : TagTable) (c : Context) → R c (record c { tags = tags })
  pub names : (name : List ℕ) (c : Context) → R c (record c { scopes = with_name c.scopes (tag_name name) (n.Tag (Int i.Int)) })

-- an enumerator
abbrev pub Enumerates : (Context → Context → Type 0) → Type 0
Enumerates R = (name : List ℕ) (value : ℤ) (c : Context) → R c (record c { scopes = after_declaration c.scopes name (n.Constant i.Int value) })

module _ (R : Context → Context → Type 0) (tag : Tagging R) where
  pub constant_keeps : (e : Tree) (c : Context) → Reached (R c) (constant e c)
  constant_keeps e c =
      reached_after (R c) (wanted e (typed e (asked c))) (λ x h. reached_after (R c) (constant_from (line_of e) x.1.type x.1.folded)
      (λ k q. reached_ok (R c) (tag.tells x.0 c (wanted_after (asked c) e (typed e (asked c)) (typed_after e (asked c)) x h))))

  pub with_type_keeps : (answer : Checked (names.Context × PlainType)) (c : Context) → Reached (After (asked c)) answer → Reached (R c) (with_type answer c)
  with_type_keeps answer c g = reached_after (R c) answer (λ x h. reached_ok (R c) (tag.tells x.0 c (g x h)))

  begun_as_keeps : (sort : RecordSort) (name : List ℕ) (o : Option PlainNamed) (c : Context) → R c (begun_as sort name o c).0
  begun_as_keeps sort name (Some (n.Tag type)) c = tag.stop c
  begun_as_keeps sort name other c = tag.tells (with_new_tag sort name (asked c)).0 c (with_tag_more c.scopes name _)

  pub begun_keeps : (sort : RecordSort) (name : Option (List ℕ)) (c : Context) → R c (begun sort name c).0
  begun_keeps sort name c = search (arith, begun_as_keeps) fits 100

  pub ended_keeps : (line : ℕ) (sort : RecordSort) (type : PlainType) (c : Context) (list : d.Members) → Reached (R c) (ended line sort type c list)
  ended_keeps line sort type c list = search (arith, reached_unless, reached_ok, reached_refused) fits 100

  pub members_keep_one : (line : ℕ) (name : Option (List ℕ)) (type : PlainType) (list : d.Members) (c : Context) → Reached (R c) (member line name type list c)
  members_keep_one line name type list c = search (arith, reached_unless, reached_after, reached_ok)

  pub enum_named_keeps : (line : ℕ) (name : Option (List ℕ)) (c : Context) → Reached (R c) (enum_named line name c)
  enum_named_keeps line name c = search (arith, reached_ok, reached_unless) fits 100

  module _ (adds : Enumerates R) where
    enumerator_keeps : (line : ℕ) (name : List ℕ) (value : ℤ) (c : Context) → Reached (R c) (enumerator line name value c)
    enumerator_keeps line name value c = search (arith, reached_after, reached_ok, led_unless, led_ok)

    pub enumerators_keep : (parts : Trees) (next : ℤ) (c : Context) → Led (R c) (enumerators parts next c)
    unfolding enumerators
    enumerators_keep none next c z q = led_ok (R c) (tag.stop c) z q
    enumerators_keep (Node f.Enumerator (At line ▹ Leaf (w.Name name) ▹ Node f.MaybeValue none ▹ none) ▹ rest) next c z q =
        let e = came (enumerator line name next c) q in
        tag.join c e.value.0 z (enumerator_keeps line name next c e.value e.is) (enumerators_keep rest e.value.1 e.value.0 z e.last)
    enumerators_keep (Node f.Enumerator (At line ▹ Leaf (w.Name name) ▹ Node f.MaybeValue (value ▹ none) ▹ none) ▹ rest) next c z q =
        let k = came (constant value c) q in
        let e = came (enumerator line name k.value.1.value k.value.0) k.last in
        tag.join c k.value.0 z (constant_keeps value c k.value k.is) (tag.join k.value.0 e.value.0 z (enumerator_keeps line name k.value.1.value k.value.0 e.value e.is) (enumerators_keep rest e.value.1 e.value.0 z e.last))
    enumerators_keep (tree ▹ rest) next c z q = led_refused (R c) z q

-- one walk over specs, tags with braces and declarators: what each of their steps keeps, they keep (C99 6.7.2, 6.7.5)

-- the steps of a walk, where R is said of what is known before a part and behind it: whether it stands in a parameter list,
-- and six for each of its words; and W of the names of parameters
pub record Steps (W : List ℕ → Type 0) (R : Bool → ℕ → Context → Context → Type 0) : Type 0 where
  -- nothing, and one part behind another
  pub stop : (deep : Bool) (n : ℕ) (c : Context) → R deep n c c
  pub join : (deep : Bool) (m n k : ℕ) (a b c : Context) → m + n ≤ k → R deep m a b → R deep n b c → R deep k a c
  -- what types name, and other tags
  pub tells : (deep : Bool) (t : names.Context) (c : Context) → More c.scopes t.scopes → R deep 0 c (told t c)
  pub retags : (deep : Bool) (tags : TagTable) (c : Context) → R deep 0 c (record c { tags = tags })
  -- an enumerator, and the name of an enumeration
  pub enumerates : (deep : Bool) (name : List ℕ) (value : ℤ) (c : Context) → R deep 0 c (record c { scopes = after_declaration c.scopes name (n.Constant i.Int value) })
  pub names : (deep : Bool) (name : List ℕ) (c : Context) → R deep 0 c (record c { scopes = with_name c.scopes (tag_name name) (n.Tag (Int i.Int)) })
  -- a parameter, a list of parameters in a scope of its own, and no list
  pub takes : (name : Option (List ℕ)) (type : PlainType) (c : Context) → IfSome name W → R true 2 c (with_param name type c)
  pub lists : (deep : Bool) (n : ℕ) (parts : Trees) (c : Context) (x : Context × PlainTypes) → params parts (entered c) ≡ Ok x → R true n (entered c) x.0 → R deep n c (left_params x.0)
  pub unlists : (deep : Bool) (c : Context) → R deep 0 c (record c { params = [] })

module _ (W : List ℕ → Type 0) (R : Bool → ℕ → Context → Context → Type 0) (step : Steps W R) where
  layers_both : {deep : Bool} {a b c : Context} (m n k : ℕ) → m + n ≤ k → R deep m a b → R deep n b c → R deep k a c
  layers_both {deep} {a} {b} {c} m n k e x y = step.join deep m n k a b c e x y

  layers_within : {deep : Bool} {a b : Context} (m k : ℕ) → m ≤ k → R deep m a b → R deep k a b
  layers_within {deep} {a} {b} m k e x = step.join deep m 0 k a b b (omega (arith, e)) x (step.stop deep 0 b)

  -- constants and tags
  pub tagging : (deep : Bool) → Tagging (R deep 0)
  tagging deep = record { stop = step.stop deep 0; join = λ a b c x y. step.join deep 0 0 0 a b c (omega arith) x y; tells = step.tells deep; retags = step.retags deep; names = step.names deep }

  pub param_keeps : (line : ℕ) (name : Option (List ℕ)) (type : PlainType) (c : Context) → IfSome name W → Reached (R true 2 c) (param line name type c)
  param_keeps line name type c h = search (arith, reached_unless, true, reached_ok)

  mutual
    unfolding specs words_type tag_type members member_names layers suffix_layers suffix_layer params shape

    pub specs_keep : (deep : Bool) (tree : Tree) (c : Context) → Names W tree → Reached (R deep (weight tree) c) (specs tree c)
    specs_keep deep (Node f.Specs (At line ▹ words)) c h z q = layers_within (weights words) _ (omega arith) (words_keep deep words line words c h.1 z q)
    specs_keep deep tree c h z q = reached_refused (R deep (weight tree) c) z q

    words_keep : (deep : Bool) (rest : Trees) (line : ℕ) (words : Trees) (c : Context) → AllNames W rest → Reached (R deep (weights rest) c) (words_type line words rest c)
    words_keep deep none line words c h z q = reached_ok (R deep 0 c) (step.stop deep 0 c) z q
    words_keep deep (Leaf word ▹ rest) line words c h z q = layers_within (weights rest) _ (omega arith) (words_keep deep rest line words c h.1 z q)
    words_keep deep (At at ▹ rest) line words c h z q = layers_within (weights rest) _ (omega arith) (words_keep deep rest line words c h.1 z q)
    words_keep deep (Node form parts ▹ rest) line words c h z q = layers_within (weight (Node form parts)) _ (omega arith) (tag_keeps deep (Node form parts) line c h.0 z q)

    tag_keeps : (deep : Bool) (tree : Tree) (line : ℕ) (c : Context) → Names W tree → Reached (R deep (weight tree) c) (tag_type line tree c)
    tag_keeps deep (Node (f.RecordBody sort) (At at ▹ Node f.MaybeName name ▹ Node f.Members parts ▹ none)) line c h z q =
        let start = begun sort (maybe_name name) c in
        let m = came (members parts [] start.0) q in
        let one = layers_both 0 (weights parts) (weights parts) (omega arith) (begun_keeps (R deep 0) (tagging deep) sort (maybe_name name) c) (members_keep deep parts [] start.0 h.1.1.0 m.value m.is) in
        layers_both (weights parts) 0 _ (omega arith) one (ended_keeps (R deep 0) (tagging deep) at sort start.1 m.value.0 m.value.1 z m.last)
    tag_keeps deep (Node (f.EnumBody trailing) (At at ▹ Node f.MaybeName name ▹ Node f.Enumerators parts ▹ none)) line c h z q =
        let e = came (enumerators parts (pos 0) c) q in
        layers_both 0 0 _ (omega arith) (enumerators_keep (R deep 0) (tagging deep) (step.enumerates deep) parts (pos 0) c e.value e.is) (enum_named_keeps (R deep 0) (tagging deep) at (maybe_name name) e.value z e.last)
    tag_keeps deep tree line c h z q = layers_within 0 (weight tree) (omega arith) (with_type_keeps (R deep 0) (tagging deep) (special_type line tree (asked c)) c (special_after line tree (asked c)) z q)

    members_keep : (deep : Bool) (parts : Trees) (list : d.Members) (c : Context) → AllNames W parts → Reached (R deep (weights parts) c) (members parts list c)
    members_keep deep none list c h z q = reached_ok (R deep 0 c) (step.stop deep 0 c) z q
    members_keep deep (Node f.Member (At line ▹ words ▹ Node f.MemberNames declarators ▹ none) ▹ rest) list c h z q =
        let base = came (specs words c) q in
        let m = came (member_names line base.value.1 declarators list base.value.0) base.last in
        let one = specs_keep deep words c h.0.1.0 base.value base.is in
        let two = names_keep deep declarators line base.value.1 list base.value.0 h.0.1.1.0 m.value m.is in
        let three = members_keep deep rest m.value.1 m.value.0 h.1 z m.last in
        layers_both (weight words) (weights declarators + weights rest) _ (omega arith) one (layers_both (weights declarators) (weights rest) (weights declarators + weights rest) (omega arith) two three)
    members_keep deep (tree ▹ rest) list c h z q = reached_refused (R deep (weights (tree ▹ rest)) c) z q

    pub names_keep : (deep : Bool) (parts : Trees) (line : ℕ) (base : PlainType) (list : d.Members) (c : Context) → AllNames W parts → Reached (R deep (weights parts) c) (member_names line base parts list c)
    names_keep deep none line base list c h z q = reached_ok (R deep 0 c) (step.stop deep 0 c) z q
    names_keep deep (declarator ▹ rest) line base list c h z q =
        let l = came (layers declarator c) q in
        let t = came (with_layers l.value.0.tags l.value.1 base) l.last in
        let m = came (member line (name_of declarator) t.value list l.value.0) t.last in
        let one = layers_keep deep declarator c h.0 l.value l.is in
        let two = members_keep_one (R deep 0) (tagging deep) line (name_of declarator) t.value list l.value.0 m.value m.is in
        let three = names_keep deep rest line base m.value.1 m.value.0 h.1 z m.last in
        layers_both (weight declarator) (weights rest) _ (omega arith) one (layers_both 0 (weights rest) (weights rest) (omega arith) two three)

    pub layers_keep : (deep : Bool) (tree : Tree) (c : Context) → Names W tree → Reached (R deep (weight tree) c) (layers tree c)
    layers_keep deep (Node (f.Pointer consts) (At line ▹ declarator ▹ none)) c h z q =
        let l = came (layers declarator c) q in
        let one = layers_keep deep declarator c h.1.0 l.value l.is in
        layers_within (weight declarator) _ (omega arith) (reached_ok (R deep (weight declarator) c) one z l.last)
    layers_keep deep (Node f.Direct (base ▹ Node f.Suffixes suffixes ▹ none)) c h z q =
        let l = came (layers base c) q in
        let s = came (suffix_layers suffixes l.value.0) l.last in
        let one = layers_keep deep base c h.0 l.value l.is in
        let two = suffixes_keep deep suffixes l.value.0 h.1.0 s.value s.is in
        layers_both (weight base) (weights suffixes) _ (omega arith) one (reached_ok (R deep (weights suffixes) l.value.0) two z s.last)
    layers_keep deep (Node f.Parens (At line ▹ declarator ▹ none)) c h z q = layers_within (weight declarator) _ (omega arith) (layers_keep deep declarator c h.1.0 z q)
    layers_keep deep tree c h z q = reached_ok (R deep (weight tree) c) (layers_within 0 (weight tree) (omega arith) (step.stop deep 0 c)) z q

    pub suffixes_keep : (deep : Bool) (parts : Trees) (c : Context) → AllNames W parts → Reached (R deep (weights parts) c) (suffix_layers parts c)
    suffixes_keep deep none c h z q = reached_ok (R deep 0 c) (step.stop deep 0 c) z q
    suffixes_keep deep (suffix ▹ rest) c h z q =
        let l = came (suffix_layer suffix c) q in
        let m = came (suffix_layers rest l.value.0) l.last in
        let one = suffix_keeps deep suffix c h.0 l.value l.is in
        let two = suffixes_keep deep rest l.value.0 h.1 m.value m.is in
        layers_both (weight suffix) (weights rest) _ (omega arith) one (reached_ok (R deep (weights rest) l.value.0) two z m.last)

    pub suffix_keeps : (deep : Bool) (tree : Tree) (c : Context) → Names W tree → Reached (R deep (weight tree) c) (suffix_layer tree c)
    suffix_keeps deep (Node f.ArraySuffix (At line ▹ Node f.MaybeLength none ▹ none)) c h z q = layers_within 0 _ (omega arith) (reached_ok (R deep 0 c) (step.stop deep 0 c) z q)
    suffix_keeps deep (Node f.ArraySuffix (At line ▹ Node f.MaybeLength (e ▹ none) ▹ none)) c h z q =
        let x = came (wanted e (typed e (asked c))) q in
        let m = came (array_length (line_of e) x.value.1) x.last in
        layers_within 0 _ (omega arith) (reached_ok (R deep 0 c) (step.tells deep x.value.0 c (wanted_after (asked c) e (typed e (asked c)) (typed_after e (asked c)) x.value x.is)) z m.last)
    suffix_keeps deep (Node f.FunctionSuffix (At line ▹ Node f.Params parts ▹ none)) c h z q =
        let x = came (params parts (entered c)) q in
        let one = params_keep parts (entered c) h.1.0 x.value x.is in
        let room = commas_said p.Param (count parts) in
        layers_within (weights parts + 2 * count parts) _ (omega (arith, room)) (reached_ok (R deep (weights parts + 2 * count parts) c) (step.lists deep (weights parts + 2 * count parts) parts c x.value x.is one) z x.last)
    suffix_keeps deep tree c h z q = reached_ok (R deep (weight tree) c) (layers_within 0 (weight tree) (omega arith) (step.unlists deep c)) z q

    pub params_keep : (parts : Trees) (c : Context) → AllNames W parts → Reached (R true (weights parts + 2 * count parts) c) (params parts c)
    params_keep none c h z q = reached_ok (R true 0 c) (step.stop true 0 c) z q
    params_keep (Node f.Param (At line ▹ words ▹ declarator ▹ none) ▹ rest) c h z q =
        let base = came (specs words c) q in
        let l = came (layers declarator base.value.0) base.last in
        let t = came (with_param_layers l.value.0.tags l.value.1 base.value.1) l.last in
        let x = came (param line (name_of declarator) (adjusted t.value) l.value.0) t.last in
        let m = came (params rest x.value.0) x.last in
        let one = specs_keep true words c h.0.1.0 base.value base.is in
        let two = layers_keep true declarator base.value.0 h.0.1.1.0 l.value l.is in
        let three = param_keeps line (name_of declarator) (adjusted t.value) l.value.0 (name_named W declarator h.0.1.1.0) x.value x.is in
        let four = reached_ok (R true (weights rest + 2 * count rest) x.value.0) (params_keep rest x.value.0 h.1 m.value m.is) z m.last in
        let far = layers_both (weight words) (weight declarator) (weight words + weight declarator) (omega arith) one two in
        layers_both (weight words + weight declarator) (weights rest + 2 * count rest + 2) _ (omega arith) far (layers_both 2 (weights rest + 2 * count rest) (weights rest + 2 * count rest + 2) (omega arith) three four)
    params_keep (tree ▹ rest) c h z q = reached_refused (R true (weights (tree ▹ rest) + 2 * count (tree ▹ rest)) c) z q

-- what elaborating an expression does to what is known

-- however much is made
abbrev pub Made : ℕ → Context → Context → Type 0
Made n c d = Grows c d

pub grows_writes : Writes Made
grows_writes =
    search (arith, grows_refl, grows_trans, grows_emit, grows_integer, grows_pointer, grows_forgotten, grows_fork, grows_format, grows_calls, grows_free) fits 100

pub grown_unused : (tree : Tree) (b : Context) (answer : With Found) → Grown b answer → Grown b (unused tree answer)
grown_unused tree b answer g = unused_keeps Made grows_writes 0 tree b answer g

pub grown_valued : (tree : Tree) (b : Context) (answer : With Found) → Grown b answer → Grown b (valued tree answer)
grown_valued tree b answer g = valued_keeps Made grows_writes 0 tree b answer g

pub grows_convert_integer : (line : ℕ) (ty source : IntType) (a : Atom) (c : Context) → Grows c (convert_integer line ty source a c).0
grows_convert_integer line ty source a c = convert_integer_keeps Made grows_writes line ty source a c

-- what is converted began behind a context
pub grows_convert : (line : ℕ) (b : Context) (type : PlainType) (e : PlainTyped) (a : Atom) (c : Context) → Grows b c → Grows b (convert line b.code type e a c).0
grows_convert line b type e a c g = convert_keeps Made grows_writes 0 line b type e a c g

pub grows_tested : (line : ℕ) (type : PlainType) (a : Atom) (c : Context) → Grows c (tested line type a c).0
grows_tested line type a c = tested_keeps Made grows_writes line type a c

pub grows_write : (line : ℕ) (type : PlainType) (spot : Spot) (a : Atom) (c : Context) → Grows c (write line type spot a c)
grows_write line type spot a c = write_keeps Made grows_writes line type spot a c

pub found_grows : (tree : Tree) (wanted : PlainType) (c0 c : Context) → Grows c0 c → Grown c0 (found tree wanted c)
found_grows tree wanted c0 c g z q = grows_trans c0 c z.0 g (found_keeps Made (record { writes = grows_writes; tells = λ t c m. grows_told t c m; literals = λ line bytes c. grown_literal line bytes c c (grows_refl c) }) tree wanted c z q)
