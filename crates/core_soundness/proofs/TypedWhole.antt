-- The types of expressions are whole, where those of names are.
use Rattle.core_soundness.proofs.Words.Std.{◌≡◌, ◌≤◌, ◌+◌, not, ℕ, zero, Bool, true, false, cond, nat_lt, bytes_eq, length, List, [], ◌∷◌, ◌++◌, reverse, Option, Some, None, option_map, Ok, refl, sym, subst, arith, ltb-false, reverse-append}
use Rattle.core_soundness.proofs.Words.Trees.{name_of, Tree, Trees, Leaf, At, Node, none, ◌▹◌, AssignOp, BinaryOp, RecordSort, UnaryOp}
use Rattle.core_soundness.proofs.Words.Types.{Known, number_layout, TagTable, CompletedTag, known, layout_in, size_in, PlainType, PlainTypes, first, Layout, Callee, Takes, Prints, NoFunction, built_in_callee, named, no_function, function_callee, built_in_called, callee_at, called, prints, call, line_of, Found, answered, wanted, changing, one, two, joined, string, first_literal, callee, in_new_scope, out_of_scope, typed, values, typename, layers, suffix_layers, suffix_layer, param_types, param_type, unused, cast_operand, PlainNamed, cast_types, cast, chosen_pointer, choice_types, choice, size_answer, size, element_types, element, member_of, dot, arrow_of, arrow, record_assigned, scalar_assigned, assigned, changed_types, changed, stepped, behind_comma, all_convert, unconverted, Checked, found, tag_name, Context, Layer, ArrayOf, FunctionOf, word_type, record_type, with_new_tag, same_sort, tag_named, type_named, special_type, specs_type, array_length, array_of, layered, layered_before, with_layers, with_param_layers, adjusted, with_param, declared_param, immovable, moving, beside_pointer, sum_types, difference_types, order_types, equal_types, integer_types, logical, binary, unary_of, unary_on_pointer, unary, address, PlainTyped, Operand, Number, PointerTo, Neither, operand, int, is_void, is_function, is_null_constant, wanted_value, BuiltIn, Operands, NotLvalue, DeclaredTwice, TypeTooLarge, LeftOut, Folded}
use Rattle.core_soundness.proofs.Words.Facts.{Whole, AllWhole, AreMade, NamedWhole, NamesWhole}
use Rattle.c_types.specs.Types as ct
use Rattle.c_tree.specs.Forms as f
use Rattle.c_tree.specs.Words as w
use Rattle.c_tree.specs.declared.operator.AssignOp.TheVariants as a
use Rattle.c_tree.specs.declared.operator.UnaryOp.TheVariants as u
use Rattle.c_decls.specs.Named as n
use Rattle.c_decls.specs.TypeNames as names
use Rattle.core_soundness.proofs.Growth.{Led, led_ok, led_refused, led_after, led_unless, led_barred, wanted_unused, type_cast_unused}
use Rattle.core_soundness.proofs.Scopes.{name_fits, named_fits, entered_fit, left_fit}
use Rattle.core_soundness.proofs.WholeTypes.{nothing, placed_whole, made_found}

pub led_cond : {C : Type 0} (R : C → Type 0) (test : Bool) (x y : Checked C) → Led R x → Led R y → Led R (cond test x y)
led_cond R test x y g h = search arith fits 100

-- layers of declarators

abbrev pub LayerWhole : Known → Layer → Type 0
LayerWhole k (names.PointerTo line) = Unit {0}
LayerWhole k (ArrayOf line None) = Unit {0}
LayerWhole k (ArrayOf line (Some n)) = 1 ≤ n
LayerWhole k (FunctionOf line params) = AllWhole k params

abbrev pub LayersWhole : Known → List Layer → Type 0
LayersWhole k [] = Unit {0}
LayersWhole k (l ∷ ls) = LayerWhole k l × LayersWhole k ls

pub layers_append : (k : Known) (xs ys : List Layer) → LayersWhole k xs → LayersWhole k ys → LayersWhole k (xs ++ ys)
layers_append k [] ys g h = h
layers_append k (x ∷ xs) ys g h = (g.0, layers_append k xs ys g.1 h)

pub layers_reverse : (k : Known) (xs : List Layer) → LayersWhole k xs → LayersWhole k (reverse xs)
layers_reverse k [] h = tt
layers_reverse k (x ∷ xs) h = subst (LayersWhole k) (sym (reverse-append (x ∷ []) xs)) (layers_append k (reverse xs) (x ∷ []) (layers_reverse k xs h.1) (h.0, tt))

-- types with layers

module _ (ts : List CompletedTag) where
  row_of : (line : ℕ) (tags : TagTable) (element : PlainType) (o : Option Layout) (length : Option ℕ) → tags.completed ≡ ts → layout_in tags element ≡ o → Whole (known ts) element → LayerWhole (known ts) (ArrayOf line length) → Led (Whole (known ts)) (array_of line element (option_map (λ (l : Layout). l.size) o) length)
  row_of line tags element o length c q h g = search (arith, led_refused, led_unless, led_ok, ltb-false) fits 100

  pub layered_whole : (tags : TagTable) (layer : Layer) (type : PlainType) → tags.completed ≡ ts → Whole (known ts) type → LayerWhole (known ts) layer → Led (Whole (known ts)) (layered tags layer type)
  layered_whole tags layer type c h g = search (arith, led_unless, led_ok, row_of) fits 100

  pub before_whole : (tags : TagTable) (layer : Layer) (layers : List Layer) (type : PlainType) → tags.completed ≡ ts → Whole (known ts) type → LayerWhole (known ts) layer → Led (Whole (known ts)) (layered_before tags layer layers type)
  before_whole tags layer layers type c h g = search (arith, led_after, led_refused, layered_whole) fits 100

  pub with_layers_whole : (tags : TagTable) (layers : List Layer) (type : PlainType) → tags.completed ≡ ts → Whole (known ts) type → LayersWhole (known ts) layers → Led (Whole (known ts)) (with_layers tags layers type)
  with_layers_whole tags [] type c h g = led_ok (Whole (known ts)) h
  with_layers_whole tags (layer ∷ layers) type c h g =
      led_after (Whole (known ts)) (layered_before tags layer layers type)
      (λ inner q. with_layers_whole tags layers inner c (before_whole tags layer layers type c h g.0 inner q) g.1)

  pub with_param_layers_whole : (tags : TagTable) (layers : List Layer) (type : PlainType) → tags.completed ≡ ts → Whole (known ts) type → LayersWhole (known ts) layers → Led (Whole (known ts)) (with_param_layers tags layers type)
  with_param_layers_whole tags [] type c h g = led_ok (Whole (known ts)) h
  with_param_layers_whole tags (ArrayOf line None ∷ []) type c h g = layered_whole tags (ArrayOf line (Some 1)) type c h (omega arith)
  with_param_layers_whole tags (ArrayOf line None ∷ (next ∷ layers)) type c h g = search (arith, led_after)
  with_param_layers_whole tags (layer ∷ layers) type c h g =
      led_after (Whole (known ts)) (layered_before tags layer layers type)
      (λ inner q. with_param_layers_whole tags layers inner c (before_whole tags layer layers type c h g.0 inner q) g.1)

  pub adjusted_whole : (type : PlainType) → Whole (known ts) type → Whole (known ts) (adjusted type)
  adjusted_whole type h = search arith fits 100

-- the rules of expressions

module _ (ts : List CompletedTag) (made : AreMade nothing ts) where
  abbrev W : PlainTyped → Type 0
  W e = Whole (known ts) e.type

  abbrev WO : Operand → Type 0
  WO (Number ty) = Unit {0}
  WO (PointerTo target) = Whole (known ts) target
  WO Neither = Unit {0}

  operand_whole : (type : PlainType) → Whole (known ts) type → WO (operand type)
  operand_whole type h = search arith fits 100

  abbrev NamedBy : Option PlainNamed → Type 0
  NamedBy o = (v : PlainNamed) → o ≡ Some v → NamedWhole (known ts) v

  named_whole : (line : ℕ) (o : Option PlainNamed) → NamedBy o → Led W (named line o)
  named_whole line (Some (n.Object type i)) h = led_ok W (h (n.Object type i) refl)
  named_whole line (Some (n.Register type i)) h = led_ok W (h (n.Register type i) refl)
  named_whole line (Some (n.Constant type x)) h = led_ok W tt
  named_whole line (Some (n.BuiltIn i)) h = search (arith, led_refused, led_ok) fits 100
  named_whole line other h = led_refused W

  string_whole : (line : ℕ) (bytes : List ℕ) → Led W (string line bytes)
  string_whole line bytes =
      led_unless W (nat_lt 268435456 (length bytes + 1)) TypeTooLarge line
      (λ t. let small = ltb-false 268435456 (length bytes + 1) t in led_ok W (tt, (number_layout 1, refl, omega (arith, small), omega arith)))

  moving_whole : (line : ℕ) (tags : TagTable) (target : PlainType) (e : PlainTyped) → W e → Led W (moving line tags target e)
  moving_whole line tags target e h = led_barred W (immovable tags target) line (led_ok W h)

  beside_whole : (line : ℕ) (e : PlainTyped) (x : Checked PlainTyped) → Led W x → Led W (beside_pointer line e x)
  beside_whole line e x h = led_cond W (is_null_constant e) x _ h (led_refused W)

  element_whole : (line : ℕ) (tags : TagTable) (s t : Operand) → WO s → WO t → Led W (element_types line tags s t)
  element_whole line tags s t h k = search (arith, moving_whole, led_refused) fits 100

  member_of_whole : (line : ℕ) (name : List ℕ) (tags : TagTable) (type : PlainType) → tags.completed ≡ ts → Led W (member_of line name tags type)
  member_of_whole line name tags type c = grind (arith, option_map, placed_whole, made_found, bytes_eq, nothing, led_refused)

  dot_whole : (line : ℕ) (name : List ℕ) (tags : TagTable) (e : PlainTyped) → tags.completed ≡ ts → Led W (dot line name tags e)
  dot_whole line name tags e c = led_unless W (not e.is_place) Operands line (λ t. member_of_whole line name tags e.type c)

  arrow_whole : (line : ℕ) (name : List ℕ) (tags : TagTable) (o : Operand) → tags.completed ≡ ts → Led W (arrow_of line name tags o)
  arrow_whole line name tags o c = search (arith, member_of_whole, led_refused) fits 100

  pointer_unary_whole : (line : ℕ) (op : UnaryOp) (target : PlainType) → Whole (known ts) target → Led W (unary_on_pointer line op target)
  pointer_unary_whole line op target h = search (arith, led_ok, led_refused) fits 100

  unary_whole : (line : ℕ) (op : UnaryOp) (e : PlainTyped) (o : Operand) → WO o → Led W (unary_of line op e o)
  unary_whole line op e o h = search (arith, led_refused, pointer_unary_whole, led_ok) fits 100

  address_whole : (line : ℕ) (e : PlainTyped) → W e → Led W (address line e)
  address_whole line e h = led_cond W e.is_place _ _ (led_ok W h) (led_refused W)

  sum_whole : (line : ℕ) (tags : TagTable) (x y : PlainTyped) (s t : Operand) → W x → W y → Led W (sum_types line tags x y s t)
  sum_whole line tags x y s t h k = search (arith, led_ok, moving_whole, led_refused) fits 100

  difference_whole : (line : ℕ) (tags : TagTable) (x y : PlainTyped) (s t : Operand) → W x → W y → Led W (difference_types line tags x y s t)
  difference_whole line tags x y s t h k = search (arith, led_ok, moving_whole, led_unless, led_refused) fits 100

  order_whole : (op : BinaryOp) (line : ℕ) (x y : PlainTyped) (s t : Operand) → Led W (order_types op line x y s t)
  order_whole op line x y s t = search (arith, led_ok, led_unless, beside_whole, led_refused) fits 100

  equal_whole : (op : BinaryOp) (line : ℕ) (x y : PlainTyped) (s t : Operand) → Led W (equal_types op line x y s t)
  equal_whole op line x y (Number s) (Number t) = led_ok W tt
  equal_whole op line x y (PointerTo target) (PointerTo other) = led_unless W _ Operands line (λ t. led_ok W tt)
  equal_whole op line x y (PointerTo target) (Number t) = beside_whole line y _ (led_ok W tt)
  equal_whole op line x y (Number s) (PointerTo other) = beside_whole line x _ (led_ok W tt)
  equal_whole op line x y s t = led_refused W

  integer_whole : (op : BinaryOp) (line : ℕ) (x y : PlainTyped) (s t : Operand) → Led W (integer_types op line x y s t)
  integer_whole op line x y s t = search (arith, led_ok, led_refused) fits 100

  logical_whole : (line : ℕ) (folded : Folded) (x y : PlainTyped) → Led W (logical line folded x y)
  logical_whole line folded x y = led_unless W _ Operands line (λ t. led_ok W tt)

  pub binary_whole : (line : ℕ) (op : BinaryOp) (tags : TagTable) (x y : PlainTyped) → W x → W y → Led W (binary line op tags x y)
  binary_whole line op tags x y h k =
      search (arith, logical_whole, sum_whole, difference_whole, order_whole, equal_whole, integer_whole) fits 100

  size_whole : (line : ℕ) (o : Option ℕ) → Led W (size_answer line o)
  size_whole line o = search (arith, led_refused, led_ok) fits 100

  cast_types_whole : (line : ℕ) (type : PlainType) (e : PlainTyped) (s t : Operand) → Whole (known ts) type → Led W (cast_types line type e s t)
  cast_types_whole line type e s t h = search (arith, led_ok, beside_whole, led_refused) fits 100

  cast_whole : (line : ℕ) (type : PlainType) (e : PlainTyped) → Whole (known ts) type → Led W (cast line type e)
  cast_whole line type e h = led_cond W (is_void type) _ _ (led_ok W h) (cast_types_whole line type e (operand type) (operand e.type) h)

  chosen_whole : (line : ℕ) (x y : PlainTyped) (s t : PlainType) → W x → W y → Led W (chosen_pointer line x y s t)
  chosen_whole line x y s t h k = search (arith, led_cond, led_ok, led_refused)

  choice_types_whole : (line : ℕ) (test : Folded) (x y : PlainTyped) (s t : Operand) → W x → W y → Led W (choice_types line test x y s t)
  choice_types_whole line test x y s t h k = search (arith, led_ok, chosen_whole, beside_whole, led_cond, led_refused) fits 100

  pub choice_whole : (line : ℕ) (test x y : PlainTyped) → W x → W y → Led W (choice line test x y)
  choice_whole line test x y h k = led_unless W _ Operands line (λ t. choice_types_whole line test.folded x y (operand x.type) (operand y.type) h k)

  record_whole : (line : ℕ) (tags : TagTable) (target e : PlainTyped) → W target → Led W (record_assigned line tags target e)
  record_whole line tags target e h = search (arith, not, led_unless, led_ok)

  scalar_whole : (line : ℕ) (target e : PlainTyped) → W target → Led W (scalar_assigned line target e)
  scalar_whole line target e h = search (arith, led_unless, not, led_barred, led_ok)

  pub assigned_whole : (line right : ℕ) (tags : TagTable) (target e : PlainTyped) → W target → Led W (assigned line right tags target e)
  assigned_whole line right tags target e h = search (arith, led_cond, record_whole, led_after, scalar_whole) fits 100

  changed_types_whole : (line : ℕ) (op : AssignOp) (tags : TagTable) (type : PlainType) (s t : Operand) → Whole (known ts) type → Led W (changed_types line op tags type s t)
  changed_types_whole line op tags type s t h = search (arith, led_ok, led_unless, moving_whole, led_refused) fits 100

  pub changed_whole : (line : ℕ) (op : AssignOp) (tags : TagTable) (target e : PlainTyped) → W target → Led W (changed line op tags target e)
  changed_whole line op tags target e h = led_unless W _ NotLvalue line (λ t. changed_types_whole line op tags target.type (operand target.type) (operand e.type) h)

  -- callees

  abbrev pub CW : Callee → Type 0
  CW (Takes answer params) = Whole (known ts) answer × AllWhole (known ts) params
  CW Prints = Unit {0}
  CW NoFunction = Unit {0}

  converting_whole : (line : ℕ) (params : PlainTypes) (arguments : List PlainTyped) (x : Checked PlainTyped) → Led W x → Led W (all_convert line params arguments x)
  converting_whole line ct.none arguments x h = h
  converting_whole line (first type rest) [] x h = h
  converting_whole line (first type rest) (e ∷ arguments) x h = led_barred W (unconverted type e) line (converting_whole line rest arguments x h)

  printing_whole : (line : ℕ) (o : Option (List ℕ)) (arguments : List PlainTyped) → Led W (prints line o arguments)
  printing_whole line o arguments = search (arith, led_refused, led_unless, led_ok) fits 100

  call_whole : (line : ℕ) (o : Option (List ℕ)) (function : Callee) (arguments : List PlainTyped) → CW function → Led W (call line o function arguments)
  call_whole line o function arguments h = search (arith, led_unless, converting_whole, led_ok, printing_whole, led_refused) fits 100

  no_function_whole : (line : ℕ) (tags : TagTable) (x : Checked PlainTyped) → Led CW (no_function line tags x)
  no_function_whole line tags x = led_after CW x (λ e q. led_after CW (wanted_value line tags e) (λ y z. led_ok CW tt))

  function_whole : (type : PlainType) → Whole (known ts) type → CW (function_callee type)
  function_whole type h = search arith fits 100

  built_in_callee_whole : (name : BuiltIn) → CW (built_in_callee name)
  built_in_callee_whole name = search arith fits 100

  at_whole : (o : Option BuiltIn) → CW (callee_at o)
  at_whole o = search (arith, built_in_callee_whole) fits 100

  built_in_called_whole : (line : ℕ) (tags : TagTable) (o : Option BuiltIn) (function : Callee) → CW function → Led CW (built_in_called line tags o function)
  built_in_called_whole line tags o function h = search (arith, no_function_whole, led_ok) fits 100

  pub called_whole : (line : ℕ) (tags : TagTable) (o : Option PlainNamed) → NamedBy o → Led CW (called line tags o)
  called_whole line tags (Some (n.Function type i)) h = led_ok CW (function_whole type (h (n.Function type i) refl))
  called_whole line tags o h = search (arith, built_in_called_whole, at_whole, no_function_whole) fits 100

  -- the walk

  pub record Fit (c : Context) : Type 0 where
    pub completed : c.tags.completed ≡ ts
    pub names : NamesWhole (known ts) c.scopes

  abbrev pub Good : Context × PlainTyped → Type 0
  Good d = Fit d.0 × W d.1

  abbrev pub GoodType : Context × PlainType → Type 0
  GoodType d = Fit d.0 × Whole (known ts) d.1

  abbrev GoodCallee : Context × Callee → Type 0
  GoodCallee d = Fit d.0 × CW d.1

  abbrev GoodValues : Context × List PlainTyped → Type 0
  GoodValues d = Fit d.0

  abbrev pub GoodLayers : Context × List Layer → Type 0
  GoodLayers d = Fit d.0 × LayersWhole (known ts) d.1

  abbrev GoodLayer : Context × Layer → Type 0
  GoodLayer d = Fit d.0 × LayerWhole (known ts) d.1

  abbrev GoodParams : Context × PlainTypes → Type 0
  GoodParams d = Fit d.0 × AllWhole (known ts) d.1

  answered_good : (c : Context) (x : Checked PlainTyped) → Fit c → Led W x → Led Good (answered c x)
  answered_good c x g h = led_after Good x (λ e q. led_ok Good (g, h e q))

  pub unused_good : (tree : Tree) (x : Found) → Led Good x → Led Good (unused tree x)
  unused_good tree x h = led_after Good x (λ d q. let k = h d q in answered_good d.0 _ k.0 (led_cond W d.1.is_place _ _ (search (arith, led_refused, led_ok, led_cond) fits 100) (led_ok W k.1)))

  pub wanted_good : (tree : Tree) (x : Found) → Led Good x → Led Good (wanted tree x)
  wanted_good tree x h d q = unused_good tree x h d (wanted_unused tree x d q)

  changing_good : (tree : Tree) (x : Found) → Led Good x → Led Good (changing tree x)
  changing_good tree x h = led_after Good x (λ d q. let k = h d q in answered_good d.0 _ k.0 (led_after W (wanted_value (line_of tree) d.0.tags d.1) (λ x q. led_ok W k.1)))

  one_good : (x : Found) (rule : TagTable → PlainTyped → Checked PlainTyped) → Led Good x → ((c : Context) (e : PlainTyped) → Fit c → W e → Led W (rule c.tags e)) → Led Good (one x rule)
  one_good x rule h k = led_after Good x (λ d q. let g = h d q in answered_good d.0 _ g.0 (k d.0 d.1 g.0 g.1))

  two_good : (x : Found) (y : Context → Found) (rule : TagTable → PlainTyped → PlainTyped → Checked PlainTyped) → Led Good x → ((c : Context) → Fit c → Led Good (y c)) → ((c : Context) (d e : PlainTyped) → Fit c → W d → W e → Led W (rule c.tags d e)) → Led Good (two x y rule)
  two_good x y rule h g k =
      led_after Good x
      (λ d q. let one = h d q in led_after Good (y d.0) (λ e z. let other = g d.0 one.0 e z in answered_good e.0 _ other.0 (k e.0 d.1 e.1 other.0 one.1 other.1)))

  found_by : (c : Context) (name : List ℕ) → Fit c → NamedBy (found c.scopes name)
  found_by c name g v e = name_fits (NamedWhole (known ts)) c.scopes name v g.names e

  callee_good : (e : Tree) (c : Context) (answer : Found) → Fit c → Led Good answer → Led GoodCallee (callee e c answer)
  callee_good (Node f.Name (At line ▹ Leaf (w.Name name) ▹ none)) c answer g h =
      led_after GoodCallee (called line c.tags (found c.scopes name)) (λ function q. led_ok GoodCallee (g, called_whole line c.tags (found c.scopes name) (found_by c name g) function q))
  callee_good e c answer g h =
      led_after GoodCallee answer
      (λ d q. led_after GoodCallee (no_function (line_of e) d.0.tags (Ok d.1)) (λ function z. led_ok GoodCallee ((h d q).0, no_function_whole (line_of e) d.0.tags (Ok d.1) function z)))

  -- tags and the names of types

  sort_good : (line : ℕ) (sort : RecordSort) (c : Context) (type : PlainType) → Fit c → Led GoodType (same_sort line sort c type)
  sort_good line sort c type g = search (arith, led_ok, led_refused) fits 100

  pub record_type_whole : (sort : RecordSort) (m : ℕ) → Whole (known ts) (record_type sort m)
  record_type_whole sort m = search arith fits 100

  new_tag_good : (sort : RecordSort) (name : List ℕ) (c : Context) → Fit c → GoodType (with_new_tag sort name c)
  new_tag_good sort name c g = search (arith, named_fits, record_type_whole) fits 100

  pub tag_good : (line : ℕ) (sort : RecordSort) (name : List ℕ) (c : Context) (o : Option PlainNamed) → Fit c → Led GoodType (tag_named line sort name c o)
  tag_good line sort name c o g = search (arith, led_ok, new_tag_good, sort_good, led_refused) fits 100

  type_good : (line : ℕ) (c : Context) (o : Option PlainNamed) → Fit c → NamedBy o → Led GoodType (type_named line c o)
  type_good line c (Some (n.Typedef type)) g h = led_ok GoodType (g, h (n.Typedef type) refl)
  type_good line c (Some (n.BuiltIn zero)) g h = led_ok GoodType (g, tt)
  type_good line c o g h = led_refused GoodType

  pub special_good : (line : ℕ) (tree : Tree) (c : Context) → Fit c → Led GoodType (special_type line tree c)
  special_good line (Node f.TypedefName (Leaf (w.Name name) ▹ none)) c g = type_good line c (found c.scopes name) g (found_by c name g)
  special_good line (Node (f.RecordTag sort) (At at ▹ Leaf (w.Name name) ▹ none)) c g = tag_good at sort name c (found c.scopes (tag_name name)) g
  special_good line (Node f.EnumTag (At at ▹ Leaf (w.Name name) ▹ none)) c g = search (arith, led_ok, led_refused) fits 100
  special_good line (Node other (At at ▹ parts)) c g = led_refused GoodType
  special_good line tree c g = led_refused GoodType

  pub word_whole : (words : Trees) → Whole (known ts) (word_type words)
  word_whole words = grind (arith, true, false)

  specs_good : (line : ℕ) (all words : Trees) (c : Context) → Fit c → Led GoodType (specs_type line all words c)
  specs_good line all none c g = led_ok GoodType (g, word_whole all)
  specs_good line all (Node form parts ▹ rest) c g = special_good line (Node form parts) c g
  specs_good line all (Leaf word ▹ rest) c g = specs_good line all rest c g
  specs_good line all (At at ▹ rest) c g = specs_good line all rest c g

  abbrev Some_long : ℕ → Type 0
  Some_long m = 1 ≤ m

  pub length_some : (line : ℕ) (e : PlainTyped) → Led Some_long (array_length line e)
  length_some line e = search (arith, led_ok, led_refused) fits 100

  param_good : (line : ℕ) (c : Context) (name : Option (List ℕ)) (type : PlainType) → Fit c → Whole (known ts) type → Led GoodType (with_param line c name type)
  param_good line c None type g h = led_ok GoodType (g, h)
  param_good line c (Some name) type g h =
      led_unless GoodType _ DeclaredTwice line (λ t. led_ok GoodType (record { completed = g.completed; names = named_fits (NamedWhole (known ts)) (NamedWhole (known ts)) c.scopes name (n.Register type 0) h h g.names }, h))

  declared_good : (line : ℕ) (c : Context) (name : Option (List ℕ)) (type : PlainType) → Fit c → Whole (known ts) type → Led GoodType (declared_param line c name type)
  declared_good line c name type g h = search (arith, led_unless, param_good) fits 100

  old_scope : (c : Context) → Fit c → Fit (out_of_scope c)
  old_scope c g = record { completed = g.completed; names = left_fit (NamedWhole (known ts)) (NamedWhole (known ts)) c.scopes g.names }

  mutual
    unfolding typed values typename layers suffix_layers suffix_layer param_types param_type

    pub typed_good : (tree : Tree) (c : Context) → Fit c → Led Good (typed tree c)
    typed_good (Node f.Name (At line ▹ Leaf (w.Name name) ▹ none)) c g = answered_good c (named line (found c.scopes name)) g (named_whole line (found c.scopes name) (found_by c name g))
    typed_good (Node f.Int (At line ▹ Leaf (w.Int bytes) ▹ none)) c g = led_ok Good (g, tt)
    typed_good (Node f.Char (At line ▹ Leaf (w.Char bytes) ▹ none)) c g = led_ok Good (g, tt)
    typed_good (Node f.Str (At line ▹ Node f.Strings parts ▹ none)) c g = answered_good c (string line (joined parts)) g (string_whole line (joined parts))
    typed_good (Node f.Paren (At line ▹ e ▹ none)) c g = typed_good e c g
    typed_good (Node f.Index (At line ▹ e ▹ h ▹ none)) c g =
        two_good (wanted e (typed e c)) (λ d. wanted h (typed h d)) (element line) (wanted_good e (typed e c) (typed_good e c g)) (λ d k. wanted_good h (typed h d) (typed_good h d k))
        (λ d x y k p q. element_whole line d.tags (operand x.type) (operand y.type) (operand_whole x.type p) (operand_whole y.type q))
    typed_good (Node f.Call (At line ▹ e ▹ Node f.Arguments arguments ▹ none)) c g =
        led_after Good (callee e c (typed e c))
        (λ k q. let one = callee_good e c (typed e c) g (typed_good e c g) k q in
        led_after Good (values arguments k.0)
        (λ v z. answered_good v.0 (call line (first_literal arguments) k.1 v.1) (values_good arguments k.0 one.0 v z) (call_whole line (first_literal arguments) k.1 v.1 one.1)))
    typed_good (Node f.Dot (At line ▹ e ▹ Leaf (w.Name name) ▹ none)) c g = one_good (typed e c) (dot line name) (typed_good e c g) (λ d x k p. dot_whole line name d.tags x k.completed)
    typed_good (Node f.Arrow (At line ▹ e ▹ Leaf (w.Name name) ▹ none)) c g = one_good (wanted e (typed e c)) (arrow line name) (wanted_good e (typed e c) (typed_good e c g)) (λ d x k p. arrow_whole line name d.tags (operand x.type) k.completed)
    typed_good (Node f.PostInc (At line ▹ e ▹ none)) c g = one_good (changing e (typed e c)) (stepped line) (changing_good e (typed e c) (typed_good e c g)) (λ d x k p. changed_whole line a.Add d.tags x int p)
    typed_good (Node f.PostDec (At line ▹ e ▹ none)) c g = one_good (changing e (typed e c)) (stepped line) (changing_good e (typed e c) (typed_good e c g)) (λ d x k p. changed_whole line a.Add d.tags x int p)
    typed_good (Node f.PreInc (At line ▹ e ▹ none)) c g = one_good (changing e (typed e c)) (stepped line) (changing_good e (typed e c) (typed_good e c g)) (λ d x k p. changed_whole line a.Add d.tags x int p)
    typed_good (Node f.PreDec (At line ▹ e ▹ none)) c g = one_good (changing e (typed e c)) (stepped line) (changing_good e (typed e c) (typed_good e c g)) (λ d x k p. changed_whole line a.Add d.tags x int p)
    typed_good (Node (f.Unary u.Address) (At line ▹ e ▹ none)) c g = one_good (typed e c) (λ tags d. address line d) (typed_good e c g) (λ d x k p. address_whole line x p)
    typed_good (Node (f.Unary op) (At line ▹ e ▹ none)) c g = one_good (wanted e (typed e c)) (unary line op) (wanted_good e (typed e c) (typed_good e c g)) (λ d x k p. unary_whole line op x (operand x.type) (operand_whole x.type p))
    typed_good (Node f.SizeofExpr (At line ▹ e ▹ none)) c g = one_good (typed e c) (λ tags d. size line tags d.type) (typed_good e c g) (λ d x k p. size_whole line (size_in d.tags x.type))
    typed_good (Node f.SizeofType (At line ▹ name ▹ none)) c g =
        led_after Good (typename name c) (λ t q. answered_good t.0 (size line t.0.tags t.1) (typename_good name c g t q).0 (size_whole line (size_in t.0.tags t.1)))
    typed_good (Node f.Cast (At line ▹ name ▹ e ▹ none)) c g =
        led_after Good (typename name c)
        (λ t q. let k = typename_good name c g t q in one_good (cast_operand t.1 e (typed e t.0)) (λ tags d. cast line t.1 d) (λ d q. unused_good e (typed e t.0) (typed_good e t.0 k.0) d (type_cast_unused t.1 e (typed e t.0) d q)) (λ d x z p. cast_whole line t.1 x k.1))
    typed_good (Node (f.Binary op) (At line ▹ e ▹ h ▹ none)) c g =
        two_good (wanted e (typed e c)) (λ d. wanted h (typed h d)) (binary line op) (wanted_good e (typed e c) (typed_good e c g)) (λ d k. wanted_good h (typed h d) (typed_good h d k))
        (λ d x y k p q. binary_whole line op d.tags x y p q)
    typed_good (Node f.Cond (At line ▹ e ▹ h ▹ m ▹ none)) c g =
        led_after Good (wanted e (typed e c))
        (λ test q. let k = wanted_good e (typed e c) (typed_good e c g) test q in
        two_good (wanted h (typed h test.0)) (λ d. wanted m (typed m d)) (λ tags x y. choice line test.1 x y) (wanted_good h (typed h test.0) (typed_good h test.0 k.0)) (λ d z. wanted_good m (typed m d) (typed_good m d z))
        (λ d x y z p s. choice_whole line test.1 x y p s))
    typed_good (Node (f.Assign a.Plain) (At line ▹ e ▹ h ▹ none)) c g =
        two_good (typed e c) (λ d. typed h d) (assigned line (line_of h)) (typed_good e c g) (λ d k. typed_good h d k) (λ d x y k p q. assigned_whole line (line_of h) d.tags x y p)
    typed_good (Node (f.Assign op) (At line ▹ e ▹ h ▹ none)) c g =
        two_good (changing e (typed e c)) (λ d. wanted h (typed h d)) (changed line op) (changing_good e (typed e c) (typed_good e c g)) (λ d k. wanted_good h (typed h d) (typed_good h d k))
        (λ d x y k p q. changed_whole line op d.tags x y p)
    typed_good (Node f.Comma (At line ▹ e ▹ h ▹ none)) c g =
        two_good (unused e (typed e c)) (λ d. unused h (typed h d)) (λ tags x y. Ok (behind_comma y)) (unused_good e (typed e c) (typed_good e c g)) (λ d k. unused_good h (typed h d) (typed_good h d k))
        (λ d x y k p q. led_ok W q)
    typed_good tree c g = led_refused Good

    values_good : (arguments : Trees) (c : Context) → Fit c → Led GoodValues (values arguments c)
    values_good none c g = led_ok GoodValues g
    values_good (e ▹ rest) c g =
        led_after GoodValues (wanted e (typed e c)) (λ d q. led_after GoodValues (values rest d.0)
        (λ more z. led_ok GoodValues (values_good rest d.0 (wanted_good e (typed e c) (typed_good e c g) d q).0 more z)))

    pub typename_good : (name : Tree) (c : Context) → Fit c → Led GoodType (typename name c)
    typename_good (Node f.Typename (At line ▹ Node f.Specs (At at ▹ words) ▹ declarator ▹ none)) c g =
        led_after GoodType (specs_type at words words c)
        (λ base q. let k = specs_good at words words c g base q in
        led_after GoodType (layers declarator base.0)
        (λ l z. let m = layers_good declarator base.0 k.0 l z in
        led_after GoodType (with_layers l.0.tags l.1 base.1)
        (λ type s. led_unless GoodType (is_function type) LeftOut line (λ t. led_ok GoodType (m.0, with_layers_whole ts l.0.tags l.1 base.1 m.0.completed k.1 m.1 type s)))))
    typename_good tree c g = led_refused GoodType

    layers_good : (tree : Tree) (c : Context) → Fit c → Led GoodLayers (layers tree c)
    layers_good (Node (f.Pointer consts) (At line ▹ declarator ▹ none)) c g =
        led_after GoodLayers (layers declarator c) (λ l q. let k = layers_good declarator c g l q in led_ok GoodLayers (k.0, (tt, k.1)))
    layers_good (Node f.Direct (base ▹ Node f.Suffixes suffixes ▹ none)) c g =
        led_after GoodLayers (layers base c)
        (λ l q. let k = layers_good base c g l q in
        led_after GoodLayers (suffix_layers suffixes l.0)
        (λ s z. let m = suffixes_good suffixes l.0 k.0 s z in led_ok GoodLayers (m.0, layers_append (known ts) (reverse s.1) l.1 (layers_reverse (known ts) s.1 m.1) k.1)))
    layers_good (Node f.Parens (At line ▹ declarator ▹ none)) c g = layers_good declarator c g
    layers_good tree c g = led_ok GoodLayers (g, tt)

    suffixes_good : (suffixes : Trees) (c : Context) → Fit c → Led GoodLayers (suffix_layers suffixes c)
    suffixes_good none c g = led_ok GoodLayers (g, tt)
    suffixes_good (suffix ▹ rest) c g =
        led_after GoodLayers (suffix_layer suffix c)
        (λ l q. let k = suffix_good suffix c g l q in
        led_after GoodLayers (suffix_layers rest l.0) (λ more z. let m = suffixes_good rest l.0 k.0 more z in led_ok GoodLayers (m.0, (k.1, m.1))))

    suffix_good : (suffix : Tree) (c : Context) → Fit c → Led GoodLayer (suffix_layer suffix c)
    suffix_good (Node f.ArraySuffix (At line ▹ Node f.MaybeLength none ▹ none)) c g = led_ok GoodLayer (g, tt)
    suffix_good (Node f.ArraySuffix (At line ▹ Node f.MaybeLength (e ▹ none) ▹ none)) c g =
        led_after GoodLayer (wanted e (typed e c)) (λ d q. led_after GoodLayer (array_length (line_of e) d.1)
        (λ m z. led_ok GoodLayer ((wanted_good e (typed e c) (typed_good e c g) d q).0, length_some (line_of e) d.1 m z)))
    suffix_good (Node f.FunctionSuffix (At line ▹ Node f.Params params ▹ none)) c g =
        led_after GoodLayer (param_types params (in_new_scope c))
        (λ p q. let k = params_good params (in_new_scope c) (record { completed = g.completed; names = entered_fit (NamedWhole (known ts)) (NamedWhole (known ts)) c.scopes g.names }) p q in led_ok GoodLayer (old_scope p.0 k.0, k.1))
    suffix_good tree c g = led_ok GoodLayer (g, tt)

    params_good : (params : Trees) (c : Context) → Fit c → Led GoodParams (param_types params c)
    params_good none c g = led_ok GoodParams (g, tt)
    params_good (param ▹ rest) c g =
        led_after GoodParams (param_type param c)
        (λ p q. let k = param_type_good param c g p q in
        led_after GoodParams (param_types rest p.0) (λ more z. let m = params_good rest p.0 k.0 more z in led_ok GoodParams (m.0, (k.1, m.1))))

    param_type_good : (param : Tree) (c : Context) → Fit c → Led GoodType (param_type param c)
    param_type_good (Node f.Param (At line ▹ Node f.Specs (At at ▹ words) ▹ declarator ▹ none)) c g =
        led_after GoodType (specs_type at words words c)
        (λ base q. let k = specs_good at words words c g base q in
        led_after GoodType (layers declarator base.0)
        (λ l z. let m = layers_good declarator base.0 k.0 l z in
        led_after GoodType (with_param_layers l.0.tags l.1 base.1)
        (λ type s. declared_good line l.0 (name_of declarator) (adjusted type) m.0 (adjusted_whole ts type (with_param_layers_whole ts l.0.tags l.1 base.1 m.0.completed k.1 m.1 type s)))))
    param_type_good tree c g = led_refused GoodType
