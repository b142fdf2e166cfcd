-- Tags and the sorts by which types name them.
use Rattle.core_soundness.proofs.Words.Std.{◌≡◌, ℕ, true, false, List, [], ◌∷◌, ◌++◌, length, slice_get, Option, Some, None, refl, subst, zero, nat_lt, Ok, sym, arith}
use Rattle.core_soundness.proofs.Words.Trees.{name_of, Tree, Trees, Leaf, At, Node, none, ◌▹◌, RecordSort}
use Rattle.core_soundness.proofs.Words.Types.{TagTable, CompletedTag, PlainType, Array, Struct, Union, Int, TagInfo, named, call, line_of, Found, answered, wanted, changing, one, two, joined, string, first_literal, callee, in_new_scope, typed, values, typename, layers, suffix_layers, suffix_layer, param_types, param_type, unused, cast_operand, PlainNamed, held_place, element, dot, arrow, stepped, size, cast, choice, assigned, changed, behind_comma, Checked, ScopeList, Table, found, with_name_in, tag_name, record_type, is_union, Context, Layer, ArrayOf, word_type, same_sort, tag_named, enum_named, type_named, special_type, layered, layered_before, with_layers, specs_type, array_length, with_param_layers, adjusted, with_param, declared_param, with_new_tag, address, unary, binary, is_function, PlainTyped, read, LeftOut}
use Rattle.core_soundness.proofs.Words.Elaborating.{Context as TextContext, asked, given_length, with_init_layers}
use Rattle.core_soundness.proofs.Words.Facts.{TableFits, ScopesFit}
use Rattle.c_types.specs.Types as ct
use Rattle.c_tree.specs.Forms as f
use Rattle.c_tree.specs.Words as w
use Rattle.c_tree.specs.declared.operator.AssignOp.TheVariants as a
use Rattle.c_tree.specs.declared.operator.RecordSort.TheVariants as r
use Rattle.c_tree.specs.declared.operator.UnaryOp.TheVariants as u
use Rattle.c_decls.specs.Named as n
use Rattle.c_decls.specs.ScopeList as scopes
use Rattle.core_soundness.proofs.Growth.{Longer, Led, led_ok, led_refused, led_after, led_unless, ok_same, never, Reached, reached_ok, reached_refused, reached_after, reached_then, reached_unless, wanted_unused, type_cast_unused}
use Rattle.core_soundness.proofs.Scopes.{name_fits, named_fits, entered_fit, left_fit, scopes_fit, get_left, get_last, More, more_refl, more_trans, with_tag_more, left_more, HasScope, scope_more}

-- types name tags of the sort that these were made of (C99 6.7.2.3)

-- a struct or union of a type was made as one; what a pointer points to and a function takes is left aside
abbrev pub SortedType : List TagInfo → PlainType → Type 0
SortedType made (Struct tag) = (i : TagInfo) × (slice_get made tag ≡ Some i) × (i.is_union ≡ false)
SortedType made (Union tag) = (i : TagInfo) × (slice_get made tag ≡ Some i) × (i.is_union ≡ true)
SortedType made (Array element length) = SortedType made element
SortedType made type = Unit {0}

-- so is each type that has a name
abbrev pub SortedName : List TagInfo → PlainNamed → Type 0
SortedName made (n.Tag type) = SortedType made type
SortedName made (n.Typedef type) = SortedType made type
SortedName made other = Unit {0}

abbrev pub SortedScopes : List TagInfo → ScopeList → Type 0
SortedScopes made s = ScopesFit (SortedName made) (SortedName made) s

-- with more tags

pub type_longer : (type : PlainType) (j k : List TagInfo) → Longer j k → SortedType j type → SortedType k type
type_longer (Array element m) j k x h = type_longer element j k x h
type_longer type j k x h = search arith fits 100

pub name_longer : (v : PlainNamed) (j k : List TagInfo) → Longer j k → SortedName j v → SortedName k v
name_longer v j k x h = search (arith, type_longer) fits 100

-- a new tag

pub push_longer : {A : Type 0} (xs : List A) (x : A) → Longer xs (xs ++ x ∷ [])
push_longer xs x i y e = get_left xs (x ∷ []) i y e

pub new_sorted : (sort : RecordSort) (made : List TagInfo) (name : List ℕ) → SortedType (made ++ (record { is_union = is_union sort; name = name }) ∷ []) (record_type sort (length made))
new_sorted r.Struct made name = (record { is_union = false; name = name }, get_last made (record { is_union = false; name = name }), refl)
new_sorted r.Union made name = (record { is_union = true; name = name }, get_last made (record { is_union = true; name = name }), refl)

-- specs and layers give types whose tags are of their sorts (C99 6.7.2, 6.7.5)

-- words

pub word_sorted : (made : List TagInfo) (words : Trees) → SortedType made (word_type words)
word_sorted made words = grind (arith, true, false)

-- tags and names of types

abbrev pub ST : Context × PlainType → Type 0
ST d = SortedType d.0.tags.made d.1

pub tag_sorted : (line : ℕ) (sort : RecordSort) (name : List ℕ) (c : Context) (named : Option PlainNamed) → ((type : PlainType) → named ≡ Some (n.Tag type) → SortedType c.tags.made type) → Led ST (tag_named line sort name c named)
tag_sorted line sort name c None h = led_ok ST (new_sorted sort c.tags.made name)
tag_sorted line sort name c (Some (n.Tag type)) h = search (arith, led_ok, led_refused) fits 100
tag_sorted line sort name c (Some other) h = led_refused ST

enum_sorted : (line : ℕ) (c : Context) (named : Option PlainNamed) → Led ST (enum_named line c named)
enum_sorted line c named = search (arith, led_ok, led_refused) fits 100

type_sorted : (line : ℕ) (c : Context) (named : Option PlainNamed) → ((type : PlainType) → named ≡ Some (n.Typedef type) → SortedType c.tags.made type) → Led ST (type_named line c named)
type_sorted line c named h = search (arith, led_ok, led_refused) fits 100

pub special_sorted : (line : ℕ) (tree : Tree) (c : Context) → SortedScopes c.tags.made c.scopes → Led ST (special_type line tree c)
special_sorted line (Node f.TypedefName (Leaf (w.Name name) ▹ none)) c h = type_sorted line c (found c.scopes name) (λ type e. name_fits (SortedName c.tags.made) c.scopes name (n.Typedef type) h e)
special_sorted line (Node (f.RecordTag sort) (At at ▹ Leaf (w.Name name) ▹ none)) c h = tag_sorted at sort name c (found c.scopes (tag_name name)) (λ type e. name_fits (SortedName c.tags.made) c.scopes (tag_name name) (n.Tag type) h e)
special_sorted line (Node f.EnumTag (At at ▹ Leaf (w.Name name) ▹ none)) c h = enum_sorted at c (found c.scopes (tag_name name))
special_sorted line (Node other (At at ▹ parts)) c h = led_refused ST
special_sorted line tree c h = led_refused ST

-- layers

module _ (made : List TagInfo) where
  layered_sorted : (tags : TagTable) (layer : Layer) (type : PlainType) → SortedType made type → Led (SortedType made) (layered tags layer type)
  layered_sorted tags layer type h = search (arith, led_unless, led_ok, led_refused, nat_lt) fits 100

  before_sorted : (tags : TagTable) (layer : Layer) (layers : List Layer) (type : PlainType) → SortedType made type → Led (SortedType made) (layered_before tags layer layers type)
  before_sorted tags layer layers type h = search (arith, led_after, led_refused, layered_sorted) fits 100

  pub with_layers_sorted : (tags : TagTable) (layers : List Layer) (type : PlainType) → SortedType made type → Led (SortedType made) (with_layers tags layers type)
  with_layers_sorted tags [] type h = led_ok (SortedType made) h
  with_layers_sorted tags (layer ∷ layers) type h =
      led_after (SortedType made) (layered_before tags layer layers type) (λ inner q. with_layers_sorted tags layers inner (before_sorted tags layer layers type h inner q))

  pub init_layers_sorted : (tags : TagTable) (ls : List Layer) (inits : Trees) (type : PlainType) → SortedType made type → Led (SortedType made) (with_init_layers tags ls inits type)
  init_layers_sorted tags [] inits type h = led_ok (SortedType made) h
  init_layers_sorted tags (ArrayOf line None ∷ []) inits type h = layered_sorted tags (ArrayOf line (given_length type inits)) type h
  init_layers_sorted tags (ArrayOf line None ∷ (next ∷ ls)) inits type h = search (arith, led_after)
  init_layers_sorted tags (layer ∷ ls) inits type h =
      led_after (SortedType made) (layered_before tags layer ls type) (λ inner q. init_layers_sorted tags ls inits inner (before_sorted tags layer ls type h inner q))

-- the types of expressions declare tags alone

-- what is known behind has more tags than before
abbrev pub After : Context → Context → Type 0
After c d = More c.scopes d.scopes

-- and these are of the sorts by which they are named
pub record Leads (c d : Context) : Type 0 where
  pub more : After c d
  pub made : Longer c.tags.made d.tags.made
  pub sorts : SortedScopes c.tags.made c.scopes → SortedScopes d.tags.made d.scopes

pub leads_refl : (c : Context) → Leads c c
leads_refl c = record { more = more_refl c.scopes; made = λ i x e. e; sorts = λ h. h }

leads_trans : (b c d : Context) → Leads b c → Leads c d → Leads b d
leads_trans b c d x y = record { more = more_trans b.scopes c.scopes d.scopes x.more y.more; made = λ i u e. y.made i u (x.made i u e); sorts = λ h. y.sorts (x.sorts h) }

leads_trans_on : (b c : Context) {A : Type 0} (answer : Checked (Context × A)) → Leads b c → Reached (Leads c) answer → Reached (Leads b) answer
leads_trans_on b c answer g h d e = leads_trans b c d.0 g (h d e)

-- the shapes of the rules

module _ (b : Context) where
  answered_leads : (c : Context) (x : Checked PlainTyped) → Leads b c → Reached (Leads b) (answered c x)
  answered_leads c x g = reached_after (Leads b) x (λ e h. reached_ok (Leads b) g)

  pub unused_leads : (tree : Tree) (x : Found) → Reached (Leads b) x → Reached (Leads b) (unused tree x)
  unused_leads tree x g =
      reached_then (Leads b) (Leads b) g (λ d h. answered_leads d.0 (read (line_of tree) d.0.tags d.1) h)

  pub wanted_leads : (tree : Tree) (x : Found) → Reached (Leads b) x → Reached (Leads b) (wanted tree x)
  wanted_leads tree x g d q = unused_leads tree x g d (wanted_unused tree x d q)

  cast_leads : (type : PlainType) (tree : Tree) (x : Found) → Reached (Leads b) x → Reached (Leads b) (cast_operand type tree x)
  cast_leads type tree x g d q = unused_leads tree x g d (type_cast_unused type tree x d q)

  changing_leads : (tree : Tree) (x : Found) → Reached (Leads b) x → Reached (Leads b) (changing tree x)
  changing_leads tree x g = reached_then (Leads b) (Leads b) g (λ d h. answered_leads d.0 (held_place (line_of tree) d.0.tags d.1) h)

  one_leads : (x : Found) (rule : TagTable → PlainTyped → Checked PlainTyped) → Reached (Leads b) x → Reached (Leads b) (one x rule)
  one_leads x rule g = reached_then (Leads b) (Leads b) g (λ d h. answered_leads d.0 (rule d.0.tags d.1) h)

  two_leads : (x : Found) (y : Context → Found) (rule : TagTable → PlainTyped → PlainTyped → Checked PlainTyped) → Reached (Leads b) x
      → ((c : Context) → Leads b c → Reached (Leads b) (y c)) → Reached (Leads b) (two x y rule)
  two_leads x y rule g h =
      reached_then (Leads b) (Leads b) g (λ d k. reached_then (Leads b) (Leads b) (h d.0 k) (λ e q. answered_leads e.0 (rule e.0.tags d.1 e.1) q))

  callee_leads : (e : Tree) (c : Context) (answer : Found) → Leads b c → Reached (Leads b) answer → Reached (Leads b) (callee e c answer)
  callee_leads (Node f.Name (At line ▹ Leaf (w.Name name) ▹ none)) c answer g h = search (arith, reached_after, reached_ok)
  callee_leads e c answer g h = search (arith, reached_then, reached_after, reached_ok)

-- tags and the names of types

sort_leads : (line : ℕ) (sort : RecordSort) (c : Context) (type : PlainType) → Reached (Leads c) (same_sort line sort c type)
sort_leads line r.Struct c (ct.Struct tag) = reached_ok (Leads c) (leads_refl c)
sort_leads line r.Union c (ct.Union tag) = reached_ok (Leads c) (leads_refl c)
sort_leads line sort c type = reached_refused (Leads c)

pub new_tag_leads : (sort : RecordSort) (name : List ℕ) (c : Context) → Leads c (with_new_tag sort name c).0
new_tag_leads sort name c = search (arith, push_longer, with_tag_more, named_fits, new_sorted, scopes_fit, name_longer) fits 100

pub tag_leads : (line : ℕ) (sort : RecordSort) (name : List ℕ) (c : Context) (named : Option PlainNamed) → Reached (Leads c) (tag_named line sort name c named)
tag_leads line sort name c None = reached_ok (Leads c) (new_tag_leads sort name c)
tag_leads line sort name c (Some (n.Tag type)) = sort_leads line sort c type
tag_leads line sort name c (Some other) = reached_refused (Leads c)

enum_leads : (line : ℕ) (c : Context) (named : Option PlainNamed) → Reached (Leads c) (enum_named line c named)
enum_leads line c (Some (n.Tag (ct.Int ty))) d e = subst (λ (x : Context × PlainType). Leads c x.0) (ok_same _ d e) (leads_refl c)
enum_leads line c named d e = never (Leads c d.0) _ d e

type_leads : (line : ℕ) (c : Context) (named : Option PlainNamed) → Reached (Leads c) (type_named line c named)
type_leads line c (Some (n.Typedef type)) d e = subst (λ (x : Context × PlainType). Leads c x.0) (ok_same _ d e) (leads_refl c)
type_leads line c (Some (n.BuiltIn zero)) d e = subst (λ (x : Context × PlainType). Leads c x.0) (ok_same _ d e) (leads_refl c)
type_leads line c named d e = never (Leads c d.0) _ d e

pub special_leads : (line : ℕ) (tree : Tree) (c : Context) → Reached (Leads c) (special_type line tree c)
special_leads line (Node f.TypedefName (Leaf (w.Name name) ▹ none)) c = type_leads line c (found c.scopes name)
special_leads line (Node (f.RecordTag sort) (At at ▹ Leaf (w.Name name) ▹ none)) c = tag_leads at sort name c (found c.scopes (tag_name name))
special_leads line (Node f.EnumTag (At at ▹ Leaf (w.Name name) ▹ none)) c = enum_leads at c (found c.scopes (tag_name name))
special_leads line (Node other (At at ▹ parts)) c = reached_refused (Leads c)
special_leads line tree c = reached_refused (Leads c)

specs_leads : (line : ℕ) (all words : Trees) (c : Context) → Reached (Leads c) (specs_type line all words c)
specs_leads line all none c = reached_ok (Leads c) (leads_refl c)
specs_leads line all (Node form parts ▹ rest) c = special_leads line (Node form parts) c
specs_leads line all (Leaf word ▹ rest) c = specs_leads line all rest c
specs_leads line all (At at ▹ rest) c = specs_leads line all rest c

-- inside a list of parameters: the scopes outside have more tags alone
pub record Inside (c d : Context) : Type 0 where
  pub some : HasScope d.scopes.inner
  pub outside : More (scopes.left c.scopes) (scopes.left d.scopes)
  pub made : Longer c.tags.made d.tags.made
  pub sorts : SortedScopes c.tags.made c.scopes → SortedScopes d.tags.made d.scopes

inside_refl : (c : Context) → HasScope c.scopes.inner → Inside c c
inside_refl c h = record { some = h; outside = more_refl (scopes.left c.scopes); made = λ i x e. e; sorts = λ k. k }

inside_trans : (a b c : Context) → Inside a b → Inside b c → Inside a c
inside_trans a b c x y = record { some = y.some; outside = more_trans (scopes.left a.scopes) (scopes.left b.scopes) (scopes.left c.scopes) x.outside y.outside; made = λ i u e. y.made i u (x.made i u e); sorts = λ k. y.sorts (x.sorts k) }

inside_leads : (a b c : Context) → Inside a b → Leads b c → Inside a c
inside_leads a b c x y = record {
  some = scope_more b.scopes.inner c.scopes.inner y.more.inner x.some;
  outside = more_trans (scopes.left a.scopes) (scopes.left b.scopes) (scopes.left c.scopes) x.outside (left_more b.scopes c.scopes y.more);
  made = λ i u e. y.made i u (x.made i u e);
  sorts = λ k. y.sorts (x.sorts k);
}

named_some : (file : Table) (inner : List Table) (name : List ℕ) (v : PlainNamed) → HasScope inner → HasScope (scopes.with_name_in file inner name v).inner
named_some file inner name v h = search arith fits 100

named_left : (file : Table) (inner : List Table) (name : List ℕ) (v : PlainNamed) → HasScope inner
    → More (scopes.left (record { file = file; inner = inner })) (scopes.left (scopes.with_name_in file inner name v))
named_left file [] name v h = absurd h
named_left file (s ∷ ss) name v h = more_refl (record { file = file; inner = ss })

param_inside : (line : ℕ) (c : Context) (name : Option (List ℕ)) (type : PlainType) → HasScope c.scopes.inner → Reached (Inside c) (with_param line c name type)
param_inside line c None type h = reached_ok (Inside c) (inside_refl c h)
param_inside line c (Some name) type h = search (arith, reached_unless, reached_ok, named_some, named_left, named_fits) fits 100

declared_inside : (line : ℕ) (c : Context) (name : Option (List ℕ)) (type : PlainType) → HasScope c.scopes.inner → Reached (Inside c) (declared_param line c name type)
declared_inside line c name type h = search (arith, reached_unless, param_inside)

mutual
  unfolding typed values typename layers suffix_layers suffix_layer param_types param_type

  pub typed_leads : (tree : Tree) (c : Context) → Reached (Leads c) (typed tree c)
  typed_leads (Node f.Name (At line ▹ Leaf (w.Name name) ▹ none)) c = answered_leads c c _ (leads_refl c)
  typed_leads (Node f.Int (At line ▹ Leaf (w.Int bytes) ▹ none)) c = reached_ok (Leads c) (leads_refl c)
  typed_leads (Node f.Char (At line ▹ Leaf (w.Char bytes) ▹ none)) c = reached_ok (Leads c) (leads_refl c)
  typed_leads (Node f.Str (At line ▹ Node f.Strings parts ▹ none)) c = answered_leads c c (string line (joined parts)) (leads_refl c)
  typed_leads (Node f.Paren (At line ▹ e ▹ none)) c = typed_leads e c
  typed_leads (Node f.Index (At line ▹ e ▹ g ▹ none)) c =
      two_leads c (wanted e (typed e c)) (λ d. wanted g (typed g d)) (element line) (wanted_leads c e (typed e c) (typed_leads e c))
      (λ d h. wanted_leads c g (typed g d) (leads_trans_on c d (typed g d) h (typed_leads g d)))
  typed_leads (Node f.Call (At line ▹ e ▹ Node f.Arguments arguments ▹ none)) c =
      reached_then (Leads c) (Leads c) (callee_leads c e c (typed e c) (leads_refl c) (typed_leads e c)) (λ k h. reached_then (Leads c) (Leads c)
      (leads_trans_on c k.0 (values arguments k.0) h (values_leads arguments k.0)) (λ v q. answered_leads c v.0 (call line (first_literal arguments) k.1 v.1) q))
  typed_leads (Node f.Dot (At line ▹ e ▹ Leaf (w.Name name) ▹ none)) c = one_leads c (typed e c) (dot line name) (typed_leads e c)
  typed_leads (Node f.Arrow (At line ▹ e ▹ Leaf (w.Name name) ▹ none)) c = one_leads c (wanted e (typed e c)) (arrow line name) (wanted_leads c e (typed e c) (typed_leads e c))
  typed_leads (Node f.PostInc (At line ▹ e ▹ none)) c = one_leads c (changing e (typed e c)) (stepped line) (changing_leads c e (typed e c) (typed_leads e c))
  typed_leads (Node f.PostDec (At line ▹ e ▹ none)) c = one_leads c (changing e (typed e c)) (stepped line) (changing_leads c e (typed e c) (typed_leads e c))
  typed_leads (Node f.PreInc (At line ▹ e ▹ none)) c = one_leads c (changing e (typed e c)) (stepped line) (changing_leads c e (typed e c) (typed_leads e c))
  typed_leads (Node f.PreDec (At line ▹ e ▹ none)) c = one_leads c (changing e (typed e c)) (stepped line) (changing_leads c e (typed e c) (typed_leads e c))
  typed_leads (Node (f.Unary u.Address) (At line ▹ e ▹ none)) c = one_leads c (typed e c) (λ tags d. address line d) (typed_leads e c)
  typed_leads (Node (f.Unary op) (At line ▹ e ▹ none)) c = one_leads c (wanted e (typed e c)) (unary line op) (wanted_leads c e (typed e c) (typed_leads e c))
  typed_leads (Node f.SizeofExpr (At line ▹ e ▹ none)) c = one_leads c (typed e c) (λ tags d. size line tags d.type) (typed_leads e c)
  typed_leads (Node f.SizeofType (At line ▹ name ▹ none)) c =
      reached_then (Leads c) (Leads c) (typename_leads name c) (λ t h. answered_leads c t.0 (size line t.0.tags t.1) h)
  typed_leads (Node f.Cast (At line ▹ name ▹ e ▹ none)) c =
      reached_then (Leads c) (Leads c) (typename_leads name c)
      (λ t h. one_leads c (cast_operand t.1 e (typed e t.0)) (λ tags d. cast line t.1 d) (cast_leads c t.1 e (typed e t.0) (leads_trans_on c t.0 (typed e t.0) h (typed_leads e t.0))))
  typed_leads (Node (f.Binary op) (At line ▹ e ▹ g ▹ none)) c =
      two_leads c (wanted e (typed e c)) (λ d. wanted g (typed g d)) (binary line op) (wanted_leads c e (typed e c) (typed_leads e c))
      (λ d h. wanted_leads c g (typed g d) (leads_trans_on c d (typed g d) h (typed_leads g d)))
  typed_leads (Node f.Cond (At line ▹ e ▹ g ▹ k ▹ none)) c =
      reached_then (Leads c) (Leads c) (wanted_leads c e (typed e c) (typed_leads e c))
      (λ test h. two_leads c (wanted g (typed g test.0)) (λ d. wanted k (typed k d)) (λ tags x y. choice line test.1 x y) (wanted_leads c g (typed g test.0) (leads_trans_on c test.0 (typed g test.0) h (typed_leads g test.0)))
      (λ d q. wanted_leads c k (typed k d) (leads_trans_on c d (typed k d) q (typed_leads k d))))
  typed_leads (Node (f.Assign a.Plain) (At line ▹ e ▹ g ▹ none)) c =
      two_leads c (typed e c) (λ d. typed g d) (assigned line (line_of g)) (typed_leads e c) (λ d h. leads_trans_on c d (typed g d) h (typed_leads g d))
  typed_leads (Node (f.Assign op) (At line ▹ e ▹ g ▹ none)) c =
      two_leads c (changing e (typed e c)) (λ d. wanted g (typed g d)) (changed line op) (changing_leads c e (typed e c) (typed_leads e c))
      (λ d h. wanted_leads c g (typed g d) (leads_trans_on c d (typed g d) h (typed_leads g d)))
  typed_leads (Node f.Comma (At line ▹ e ▹ g ▹ none)) c =
      two_leads c (unused e (typed e c)) (λ d. unused g (typed g d)) (λ tags x y. Ok (behind_comma y)) (unused_leads c e (typed e c) (typed_leads e c))
      (λ d h. unused_leads c g (typed g d) (leads_trans_on c d (typed g d) h (typed_leads g d)))
  typed_leads tree c = reached_refused (Leads c)

  values_leads : (arguments : Trees) (c : Context) → Reached (Leads c) (values arguments c)
  values_leads none c = reached_ok (Leads c) (leads_refl c)
  values_leads (e ▹ rest) c =
      reached_then (Leads c) (Leads c) (wanted_leads c e (typed e c) (typed_leads e c))
      (λ d h. reached_then (Leads c) (Leads c) (leads_trans_on c d.0 (values rest d.0) h (values_leads rest d.0)) (λ more q. reached_ok (Leads c) q))

  pub typename_leads : (name : Tree) (c : Context) → Reached (Leads c) (typename name c)
  typename_leads (Node f.Typename (At line ▹ Node f.Specs (At at ▹ words) ▹ declarator ▹ none)) c =
      reached_then (Leads c) (Leads c) (specs_leads at words words c)
      (λ base h. reached_then (Leads c) (Leads c) (leads_trans_on c base.0 (layers declarator base.0) h (layers_leads declarator base.0))
      (λ l q. reached_after (Leads c) (with_layers l.0.tags l.1 base.1)
      (λ type z. reached_unless (Leads c) (is_function type) LeftOut line (reached_ok (Leads c) q))))
  typename_leads tree c = reached_refused (Leads c)

  layers_leads : (tree : Tree) (c : Context) → Reached (Leads c) (layers tree c)
  layers_leads (Node (f.Pointer consts) (At line ▹ declarator ▹ none)) c =
      reached_then (Leads c) (Leads c) (layers_leads declarator c) (λ l h. reached_ok (Leads c) h)
  layers_leads (Node f.Direct (base ▹ Node f.Suffixes suffixes ▹ none)) c =
      reached_then (Leads c) (Leads c) (layers_leads base c)
      (λ l h. reached_then (Leads c) (Leads c) (leads_trans_on c l.0 (suffix_layers suffixes l.0) h (suffixes_leads suffixes l.0))
      (λ s q. reached_ok (Leads c) q))
  layers_leads (Node f.Parens (At line ▹ declarator ▹ none)) c = layers_leads declarator c
  layers_leads tree c = reached_ok (Leads c) (leads_refl c)

  suffixes_leads : (suffixes : Trees) (c : Context) → Reached (Leads c) (suffix_layers suffixes c)
  suffixes_leads none c = reached_ok (Leads c) (leads_refl c)
  suffixes_leads (suffix ▹ rest) c =
      reached_then (Leads c) (Leads c) (suffix_leads suffix c)
      (λ l h. reached_then (Leads c) (Leads c) (leads_trans_on c l.0 (suffix_layers rest l.0) h (suffixes_leads rest l.0))
      (λ more q. reached_ok (Leads c) q))

  suffix_leads : (suffix : Tree) (c : Context) → Reached (Leads c) (suffix_layer suffix c)
  suffix_leads (Node f.ArraySuffix (At line ▹ Node f.MaybeLength none ▹ none)) c = reached_ok (Leads c) (leads_refl c)
  suffix_leads (Node f.ArraySuffix (At line ▹ Node f.MaybeLength (e ▹ none) ▹ none)) c =
      reached_then (Leads c) (Leads c) (wanted_leads c e (typed e c) (typed_leads e c))
      (λ d h. reached_after (Leads c) (array_length (line_of e) d.1) (λ length q. reached_ok (Leads c) h))
  suffix_leads (Node f.FunctionSuffix (At line ▹ Node f.Params params ▹ none)) c =
      reached_then (Leads c) (Inside (in_new_scope c)) (params_inside params (in_new_scope c) tt)
      (λ p h. reached_ok (Leads c) (record { more = h.outside; made = h.made; sorts = λ k. left_fit (SortedName p.0.tags.made) (SortedName p.0.tags.made) p.0.scopes (h.sorts (entered_fit (SortedName c.tags.made) (SortedName c.tags.made) c.scopes k)) }))
  suffix_leads tree c = reached_ok (Leads c) (leads_refl c)

  params_inside : (params : Trees) (c : Context) → HasScope c.scopes.inner → Reached (Inside c) (param_types params c)
  params_inside none c h = reached_ok (Inside c) (inside_refl c h)
  params_inside (param ▹ rest) c h =
      reached_then (Inside c) (Inside c) (param_type_inside param c h) (λ p q. reached_then (Inside c) (Inside p.0) (params_inside rest p.0 q.some)
      (λ more z. reached_ok (Inside c) (inside_trans c p.0 more.0 q z)))

  param_type_inside : (param : Tree) (c : Context) → HasScope c.scopes.inner → Reached (Inside c) (param_type param c)
  param_type_inside (Node f.Param (At line ▹ Node f.Specs (At at ▹ words) ▹ declarator ▹ none)) c h =
      reached_then (Inside c) (Leads c) (specs_leads at words words c)
      (λ base g. reached_then (Inside c) (Leads base.0) (layers_leads declarator base.0)
      (λ l q. reached_after (Inside c) (with_param_layers l.0.tags l.1 base.1)
      (λ type z d e. let i = inside_leads c base.0 l.0 (inside_leads c c base.0 (inside_refl c h) g) q in
      inside_trans c l.0 d.0 i (declared_inside line l.0 (name_of declarator) (adjusted type) i.some d e))))
  param_type_inside tree c h = reached_refused (Inside c)

-- the names alone

pub typed_after : (tree : Tree) (c : Context) → Reached (After c) (typed tree c)
typed_after tree c d e = (typed_leads tree c d e).more

pub typename_after : (name : Tree) (c : Context) → Reached (After c) (typename name c)
typename_after name c d e = (typename_leads name c d e).more

pub tag_after : (line : ℕ) (sort : RecordSort) (name : List ℕ) (c : Context) (named : Option PlainNamed) → Reached (After c) (tag_named line sort name c named)
tag_after line sort name c named d e = (tag_leads line sort name c named d e).more

pub special_after : (line : ℕ) (tree : Tree) (c : Context) → Reached (After c) (special_type line tree c)
special_after line tree c d e = (special_leads line tree c d e).more

pub wanted_after : (b : Context) (tree : Tree) (x : Found) → Reached (After b) x → Reached (After b) (wanted tree x)
wanted_after b tree x g = search (arith, reached_then, reached_after, reached_ok)

-- each tag that was completed is of the sort that it was made of, and so are its members and all types that have names

abbrev pub MembersSorted : List TagInfo → List (List ℕ × PlainType) → Type 0
MembersSorted made [] = Unit {0}
MembersSorted made (m ∷ ms) = SortedType made m.1 × MembersSorted made ms

-- a completed tag with its members
abbrev pub BodySorted : List TagInfo → CompletedTag → Type 0
BodySorted made t = ((i : TagInfo) × (slice_get made t.tag ≡ Some i) × (t.is_union ≡ i.is_union)) × MembersSorted made t.members

abbrev pub BodiesSorted : List TagInfo → List CompletedTag → Type 0
BodiesSorted made [] = Unit {0}
BodiesSorted made (t ∷ ts) = BodySorted made t × BodiesSorted made ts

pub members_longer : (ms : List (List ℕ × PlainType)) (j k : List TagInfo) → Longer j k → MembersSorted j ms → MembersSorted k ms
members_longer [] j k x h = tt
members_longer (m ∷ ms) j k x h = (type_longer m.1 j k x h.0, members_longer ms j k x h.1)

pub bodies_longer : (ts : List CompletedTag) (j k : List TagInfo) → Longer j k → BodiesSorted j ts → BodiesSorted k ts
bodies_longer [] j k x h = tt
bodies_longer (t ∷ ts) j k x h = (((h.0.0.0, x t.tag h.0.0.0 h.0.0.1, h.0.0.2), members_longer t.members j k x h.0.1), bodies_longer ts j k x h.1)

pub bodies_push : (made : List TagInfo) (ts : List CompletedTag) (t : CompletedTag) → BodiesSorted made ts → BodySorted made t → BodiesSorted made (ts ++ t ∷ [])
bodies_push made [] t h k = (k, tt)
bodies_push made (x ∷ ts) t h k = (h.0, bodies_push made ts t h.1 k)

-- at a point of the walk
pub record SortsAt (made : List TagInfo) (completed : List CompletedTag) (s : ScopeList) (params : Table) : Type 0 where
  pub names : SortedScopes made s
  pub list : TableFits (SortedName made) params
  pub bodies : BodiesSorted made completed

abbrev pub Sorts : TextContext → Type 0
Sorts c = SortsAt c.tags.made c.tags.completed c.scopes c.params

-- what a part of a text leads to
pub record KindsAt (one : List TagInfo) (ts : List CompletedTag) (s : ScopeList) (params : Table) (other : List TagInfo) (ts2 : List CompletedTag) (s2 : ScopeList) (params2 : Table) : Type 0 where
  pub made : Longer one other
  pub sorts : SortsAt one ts s params → SortsAt other ts2 s2 params2

abbrev pub Kinds : TextContext → TextContext → Type 0
Kinds c d = KindsAt c.tags.made c.tags.completed c.scopes c.params d.tags.made d.tags.completed d.scopes d.params

pub kinds_refl : (c : TextContext) → Kinds c c
kinds_refl c = record { made = λ i u e. e; sorts = λ h. h }

-- other scopes and tags, of which as many are completed
pub leads_kinds : (c d : TextContext) → Leads (asked c) (asked d) → d.params ≡ c.params → d.tags.completed ≡ c.tags.completed → Kinds c d
leads_kinds c d l p q = record {
  made = l.made;
  sorts = λ h. record {
    names = l.sorts h.names;
    list = subst (TableFits (SortedName d.tags.made)) (sym p) (λ name v e. name_longer v c.tags.made d.tags.made l.made (h.list name v e));
    bodies = subst (BodiesSorted d.tags.made) (sym q) (bodies_longer c.tags.completed c.tags.made d.tags.made l.made h.bodies);
  };
}
