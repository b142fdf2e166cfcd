-- Specs and declarators by the parts of their trees.
use Rattle.std.proofs.Common.{◌≡◌, ℕ, suc, ◌+◌, ◌<◌, ◌≤◌, Bool, true, false, cond, List, [], ◌∷◌, ◌++◌, map, reverse, length, drop, get_or, Option, Some, None, Result, Ok, Err, Box, Vec, Global, refl, sym, ap, subst, ◌∙◌, append_assoc, add-one}
use Rattle.std.proofs.lemmas.List.{append-nil, drop_all, reverse-append}
use Rattle.std.proofs.Math.Seq.{drop-cons}
use Rattle.c_types.specs.Types.{PlainType, PlainTypes, none as no_types, first, plain}
use Rattle.c_tree.specs.declared.operator.RecordSort.{RecordSort}
use Rattle.c_tree.specs.declared.tree.Expr.{Expr}
use Rattle.c_tree.specs.declared.tree.Spec.{Spec}
use Rattle.c_tree.specs.declared.tree.Spec.TheVariants as s
use Rattle.c_tree.specs.declared.tree.Tag.{Tag}
use Rattle.c_tree.specs.declared.tree.TagKind.{TagKind}
use Rattle.c_tree.specs.declared.tree.TagKind.TheVariants as t
use Rattle.c_tree.specs.declared.tree.Member.{Member}
use Rattle.c_tree.specs.declared.tree.Enumerator.{Enumerator}
use Rattle.c_tree.specs.declared.tree.Declarator.{Declarator}
use Rattle.c_tree.specs.declared.tree.Declarator.TheVariants as v
use Rattle.c_tree.specs.declared.tree.Base.{Base}
use Rattle.c_tree.specs.declared.tree.Suffix.{Suffix}
use Rattle.c_tree.specs.declared.tree.SuffixKind.{SuffixKind}
use Rattle.c_tree.specs.declared.tree.SuffixKind.TheVariants as x
use Rattle.c_tree.specs.declared.tree.Param.{Param}
use Rattle.c_tree.specs.Forms as f
use Rattle.c_tree.specs.Tree.{Tree, Trees, At, Node, none, ◌▹◌}
use Rattle.c_tree.specs.Scopes.{name_of}
use Rattle.c_tree.specs.View.{spec_tree, tag_tree, maybe_name, enumerator_tree, declarator_tree, base_tree, suffix_tree}
use Rattle.c_tree.specs.StatementView.{trees, expr_view, specs_view, member_view, suffix_view, param_view}
use Rattle.c_tree.specs.ViewEquations.{record_body_tree, enum_body_tree, direct_tree, params_tree, array_tree}
use Rattle.c_decls.specs.declared.refusal.TypeError.{TypeError}
use Rattle.c_decls.specs.declared.refusal.TypeError.TheVariants as e
use Rattle.c_decls.specs.Refusals.{Meets, then}
use Rattle.c_decls.specs.TypeNames.{Layer, FunctionOf, word_type, special_type, with_layers, with_param_layers, adjusted}
use Rattle.c_typing.specs.declared.layers.Layer.{Layer as CodeLayer}
use Rattle.c_typing.specs.Layers.{plain_layer, plain_layers}
use Rattle.c_typing.specs.SpecWords.{is_special}
use Rattle.elaboration.specs.Context.{Context, With, asked, entered}
use Rattle.elaboration.specs.Declarators.{Members, with_type, words_type, tag_type, members, member_names, member, specs, layers, suffix_layers, suffix_layer, params, param, left_params}
use Rattle.elab_types.specs.Steps.{record_body, enum_body, members_by, member_by, param_by, behind, array_layer}
use Rattle.elab_types.proofs.Turns.{then_then, then_same, pushed}
use Rattle.c_typing.specs.TypeLists.{as_types}

-- words

abbrev ruled : ℕ → Tree → Context → With PlainType
ruled line tree c = with_type (special_type line tree (asked c)) c

tag_decides : (line : ℕ) (all : Trees) (kind : TagKind) (at : ℕ) (rest : Trees) (c : Context) →
    words_type line all (tag_tree kind at ▹ rest) c ≡ tag_type line (tag_tree kind at) c
unfolding tag_tree words_type
tag_decides line all (t.Record sort name) at rest c = refl
tag_decides line all (t.RecordBody' sort name shape list) at rest c = refl
tag_decides line all (t.Enum name) at rest c = refl
tag_decides line all (t.EnumBody' name shape list trailing) at rest c = refl

word_decides : (line : ℕ) (all : Trees) (word : Spec) (rest : Trees) (c : Context) →
    words_type line all (spec_tree word ▹ rest) c ≡
    cond (is_special word) (tag_type line (spec_tree word) c) (words_type line all rest c)
unfolding spec_tree words_type
word_decides line all s.Static rest c = refl
word_decides line all s.Extern rest c = refl
word_decides line all s.Typedef rest c = refl
word_decides line all s.Const rest c = refl
word_decides line all s.Void rest c = refl
word_decides line all s.Char rest c = refl
word_decides line all s.Short rest c = refl
word_decides line all s.Int rest c = refl
word_decides line all s.Long rest c = refl
word_decides line all s.Signed rest c = refl
word_decides line all s.Unsigned rest c = refl
word_decides line all (s.Named name) rest c = refl
word_decides line all (s.Tag' at kind) rest c = tag_decides line all kind at rest c

-- the words that are left from a place on
abbrev pub left_words : ℕ → Trees → List Spec → ℕ → Context → With PlainType
left_words line all words i c = words_type line all (trees spec_tree (drop i words)) c

word_first : (line : ℕ) (all : Trees) (words : List Spec) (i : ℕ) (word : Spec) (c : Context) →
    word ≡ get_or words i word → i < length words →
    left_words line all words i c ≡ cond (is_special word) (tag_type line (spec_tree word) c) (left_words line all words (i + 1) c)
word_first line all words i word c at below =
    ap (λ ws. words_type line all (trees spec_tree ws) c) (drop-cons words i word below ∙ ap (λ w. w ∷ drop (suc i) words) (sym at))
    ∙ word_decides line all word (trees spec_tree (drop (suc i) words)) c
    ∙ ap (λ j. cond (is_special word) (tag_type line (spec_tree word) c) (left_words line all words j c)) (sym (add-one i))

pub word_next : (line : ℕ) (all : Trees) (words : List Spec) (i : ℕ) (word : Spec) (c : Context) (whole : With PlainType) →
    word ≡ get_or words i word → i < length words → is_special word ≡ false →
    left_words line all words i c ≡ whole → left_words line all words (i + 1) c ≡ whole
word_next line all words i word c whole at below plain so_far =
    sym (word_first line all words i word c at below
    ∙ ap (λ b. cond b (tag_type line (spec_tree word) c) (left_words line all words (i + 1) c)) plain)
    ∙ so_far

pub word_found : (line : ℕ) (all : Trees) (words : List Spec) (i : ℕ) (word : Spec) (c : Context) (whole : With PlainType) →
    word ≡ get_or words i word → i < length words → is_special word ≡ true →
    left_words line all words i c ≡ whole → tag_type line (spec_tree word) c ≡ whole
word_found line all words i word c whole at below special so_far =
    sym (word_first line all words i word c at below
    ∙ ap (λ b. cond b (tag_type line (spec_tree word) c) (left_words line all words (i + 1) c)) special)
    ∙ so_far

pub words_end : (line : ℕ) (all : Trees) (words : List Spec) (i : ℕ) (c : Context) (whole : With PlainType) →
    length words ≤ i → left_words line all words i c ≡ whole → whole ≡ Ok (c, word_type all)
unfolding words_type
words_end line all words i c whole done so_far =
    sym so_far ∙ ap (λ ws. words_type line all (trees spec_tree ws) c) (drop_all i words done)

-- a word that is no tag
pub other_word : (line : ℕ) (word : Spec) (c : Context) → ((tag : Tag) → word ≡ s.Tag tag → ⊥) →
    tag_type line (spec_tree word) c ≡ ruled line (spec_tree word) c
unfolding spec_tree tag_type
other_word line s.Static c not_tag = refl
other_word line s.Extern c not_tag = refl
other_word line s.Typedef c not_tag = refl
other_word line s.Const c not_tag = refl
other_word line s.Void c not_tag = refl
other_word line s.Char c not_tag = refl
other_word line s.Short c not_tag = refl
other_word line s.Int c not_tag = refl
other_word line s.Long c not_tag = refl
other_word line s.Signed c not_tag = refl
other_word line s.Unsigned c not_tag = refl
other_word line (s.Named name) c not_tag = refl
other_word line (s.Tag' at kind) c not_tag = absurd (not_tag (record { line = at; kind = kind }) refl)

-- tags

abbrev record_node : RecordSort → Option (List ℕ) → Trees → ℕ → Tree
record_node sort name parts at = Node (f.RecordBody sort) (At at ▹ maybe_name name ▹ Node f.Members parts ▹ none)

abbrev enum_node : Bool → Option (List ℕ) → Trees → ℕ → Tree
enum_node trailing name parts at = Node (f.EnumBody trailing) (At at ▹ maybe_name name ▹ Node f.Enumerators parts ▹ none)

pub record_is : (line : ℕ) (kind : TagKind) (sort : RecordSort) (name : Option (List ℕ)) (list : Vec Member Global) (at : ℕ) (c : Context) →
    kind ≡ t.RecordBody sort name list →
    tag_type line (tag_tree kind at) c ≡ record_body at sort name (trees member_view list.items) c
unfolding tag_type
record_is line kind sort name list at c is =
    ap (λ k. tag_type line (tag_tree k at) c) is ∙ ap (λ tree. tag_type line tree c) (record_body_tree sort name list at) ∙ by name
  where
    by : (name : Option (List ℕ)) → tag_type line (record_node sort name (trees member_view list.items) at) c ≡ record_body at sort name (trees member_view list.items) c
    by None = refl
    by (Some bytes) = refl

pub enum_is : (line : ℕ) (kind : TagKind) (name : Option (List ℕ)) (list : Vec Enumerator Global) (trailing : Bool) (at : ℕ) (c : Context) →
    kind ≡ t.EnumBody name list trailing →
    tag_type line (tag_tree kind at) c ≡ enum_body at name (trees enumerator_tree list.items) c
unfolding tag_type
enum_is line kind name list trailing at c is =
    ap (λ k. tag_type line (tag_tree k at) c) is ∙ ap (λ tree. tag_type line tree c) (enum_body_tree name list trailing at) ∙ by name
  where
    by : (name : Option (List ℕ)) → tag_type line (enum_node trailing name (trees enumerator_tree list.items) at) c ≡ enum_body at name (trees enumerator_tree list.items) c
    by None = refl
    by (Some bytes) = refl

pub record_tag_is : (line : ℕ) (kind : TagKind) (sort : RecordSort) (name : List ℕ) (at : ℕ) (c : Context) → kind ≡ t.Record sort name →
    tag_type line (tag_tree kind at) c ≡ ruled line (tag_tree kind at) c
unfolding tag_type tag_tree
record_tag_is line kind sort name at c is =
    ap (λ k. tag_type line (tag_tree k at) c) is ∙ sym (ap (λ k. ruled line (tag_tree k at) c) is)

pub enum_tag_is : (line : ℕ) (kind : TagKind) (name : List ℕ) (at : ℕ) (c : Context) → kind ≡ t.Enum name →
    tag_type line (tag_tree kind at) c ≡ ruled line (tag_tree kind at) c
unfolding tag_type tag_tree
enum_tag_is line kind name at c is =
    ap (λ k. tag_type line (tag_tree k at) c) is ∙ sym (ap (λ k. ruled line (tag_tree k at) c) is)

-- members

abbrev pub member_step : Member → Members → Context → With Members
member_step m list c = members_by m.line (specs_view m.specs) (trees declarator_tree m.declarators.items) list c

pub members_end : (list : Members) (c : Context) → members none list c ≡ Ok (c, list)
unfolding members
members_end list c = refl

pub members_go : (m : Member) (rest : Trees) (list : Members) (c : Context) →
    members (member_view m ▹ rest) list c ≡ then (member_step m list c) (λ n. members rest n.1 n.0)
unfolding members
members_go m rest list c =
    sym (then_then (specs (specs_view m.specs) c) (λ base. member_names m.line base.1 (trees declarator_tree m.declarators.items) list base.0) (λ n. members rest n.1 n.0))

module _ (line : ℕ) (base : PlainType) where
  abbrev pub name_step : Declarator → Members → Context → With Members
  name_step declarator list c = member_by line base (declarator_tree declarator) list c

  abbrev pub names_walk : Trees → Members → Context → With Members
  names_walk list all c = member_names line base list all c

  pub names_end : (list : Members) (c : Context) → names_walk none list c ≡ Ok (c, list)
  unfolding member_names
  names_end list c = refl

  pub names_go : (declarator : Declarator) (rest : Trees) (list : Members) (c : Context) →
      names_walk (declarator_tree declarator ▹ rest) list c ≡ then (name_step declarator list c) (λ n. names_walk rest n.1 n.0)
  unfolding member_names
  names_go declarator rest list c =
      let tree = declarator_tree declarator in
      sym (then_then (layers tree c) (λ l. then (with_layers l.0.tags l.1 base) (λ type. member line (name_of tree) type list l.0)) (λ n. names_walk rest n.1 n.0)
      ∙ then_same (layers tree c) _ _ (λ l. then_then (with_layers l.0.tags l.1 base) (λ type. member line (name_of tree) type list l.0) (λ n. names_walk rest n.1 n.0)))

-- declarators

abbrev pub with_suffixes : Trees → With (List Layer) → With (List Layer)
with_suffixes list before = then before (λ l. then (suffix_layers list l.0) (λ m. Ok (m.0, reverse m.1 ++ l.1)))

abbrev turned : With (List Layer) → With (List Layer)
turned answer = then answer (λ m. Ok (m.0, reverse m.1))

pub direct_is : (declarator : Declarator) (base : Base) (suffixes : Vec Suffix Global) (c : Context) → declarator ≡ v.Direct base suffixes →
    layers (declarator_tree declarator) c ≡ with_suffixes (trees suffix_view suffixes.items) (layers (base_tree base) c)
unfolding layers
direct_is declarator base suffixes c is =
    ap (λ d. layers (declarator_tree d) c) is ∙ ap (λ tree. layers tree c) (direct_tree base suffixes)

turned_behind : (before : List Layer) (answer : With (List Layer)) →
    then answer (λ m. Ok (m.0, reverse m.1 ++ reverse before)) ≡ turned (behind before answer)
turned_behind before (Ok more) = ap (λ ls. let found : With (List Layer) = Ok (more.0, ls) in found) (sym (reverse-append before more.1))
turned_behind before (Err refusal) = refl

-- layers with those of suffixes behind them
abbrev pub from_name : Context → Vec CodeLayer Global → Context × List Layer
from_name d all = (d, map plain_layer all.items)

abbrev pub from_specs : Context → Vec CodeLayer Global → Context × List Layer
from_specs d all = (d, plain_layers all.items)

turned_meets : (d : Context) (r : Result (Vec CodeLayer Global) TypeError) (a : With (List Layer)) → Meets (from_name d) r a → Meets (from_specs d) r (turned a)
turned_meets d (Ok all) a h = ap turned h
turned_meets d (Err (e.Bad kind line)) a h = ap turned h
turned_meets d (Err e.NoMemory) a h = tt

abbrev pub with_before : List Layer → With (List Layer) → With (List Layer)
with_before before answer = then answer (λ m. Ok (m.0, reverse m.1 ++ before))

pub direct_meets : (before : List CodeLayer) (d : Context) (r : Result (Vec CodeLayer Global) TypeError) (w : With (List Layer)) →
    Meets (from_name d) r (behind (map plain_layer before) w) → Meets (from_specs d) r (with_before (plain_layers before) w)
direct_meets before d r w h =
    let P : With (List Layer) → Type 0 = λ a. Meets (from_specs d) r a in
    subst P (sym (turned_behind (map plain_layer before) w)) (turned_meets d r (behind (map plain_layer before) w) h)

suffix_step_one : (before : List Layer) (one : Layer) (answer : With (List Layer)) →
    behind before (then answer (λ more. Ok (more.0, one ∷ more.1))) ≡ behind (before ++ one ∷ []) answer
suffix_step_one before one (Ok more) =
    ap (λ ls. let found : With (List Layer) = Ok (more.0, ls) in found) (sym (append_assoc before (one ∷ []) more.1))
suffix_step_one before one (Err refusal) = refl

abbrev pub suffix_one : Suffix → Context → With Layer
suffix_one suffix c = suffix_layer (suffix_view suffix) c

abbrev pub suffix_walk : Trees → List Layer → Context → With (List Layer)
suffix_walk list before c = behind before (suffix_layers list c)

pub suffixes_end : (before : List Layer) (c : Context) → suffix_walk none before c ≡ Ok (c, before)
unfolding suffix_layers
suffixes_end before c = ap (λ ls. let found : With (List Layer) = Ok (c, ls) in found) (append-nil before)

suffix_by : (before : List Layer) (step : With Layer) (rest : Trees) →
    behind before (then step (λ l. then (suffix_layers rest l.0) (λ more. Ok (more.0, l.1 ∷ more.1))))
    ≡ then (pushed step before) (λ m. suffix_walk rest m.1 m.0)
suffix_by before (Ok l) rest = suffix_step_one before l.1 (suffix_layers rest l.0)
suffix_by before (Err refusal) rest = refl

pub suffixes_go : (suffix : Suffix) (rest : Trees) (before : List Layer) (c : Context) →
    suffix_walk (suffix_view suffix ▹ rest) before c ≡ then (pushed (suffix_one suffix c) before) (λ m. suffix_walk rest m.1 m.0)
unfolding suffix_layers
suffixes_go suffix rest before c = suffix_by before (suffix_layer (suffix_view suffix) c) rest

-- suffixes

pub array_is : (kind : SuffixKind) (line : ℕ) (held : Box Expr Global) (c : Context) → kind ≡ x.Array (Some held) →
    suffix_layer (suffix_tree kind line) c ≡ array_layer line (expr_view held.value) c
unfolding suffix_layer
array_is kind line held c is =
    ap (λ k. suffix_layer (suffix_tree k line) c) is ∙ ap (λ tree. suffix_layer tree c) (array_tree (Some held) line)

abbrev pub params_layer : ℕ → With PlainTypes → With Layer
params_layer line answer = then answer (λ p. Ok (left_params p.0, FunctionOf line p.1))

pub params_is : (kind : SuffixKind) (line : ℕ) (list : Vec Param Global) (c : Context) → kind ≡ x.Params list →
    suffix_layer (suffix_tree kind line) c ≡ params_layer line (params (trees param_view list.items) (entered c))
unfolding suffix_layer
params_is kind line list c is =
    ap (λ k. suffix_layer (suffix_tree k line) c) is ∙ ap (λ tree. suffix_layer tree c) (params_tree list line)

-- parameters

-- types with others before them
abbrev pub prepended : List PlainType → PlainTypes → PlainTypes
prepended [] types = types
prepended (type ∷ before) types = first type (prepended before types)

prepended_none : (before : List PlainType) → prepended before no_types ≡ as_types before
prepended_none [] = refl
prepended_none (type ∷ before) = ap (first type) (prepended_none before)

prepended_one : (before : List PlainType) (one : PlainType) (types : PlainTypes) →
    prepended before (first one types) ≡ prepended (before ++ one ∷ []) types
prepended_one [] one types = refl
prepended_one (type ∷ before) one types = ap (first type) (prepended_one before one types)

abbrev pub param_walk : Trees → List PlainType → Context → With PlainTypes
param_walk list before c = then (params list c) (λ more. Ok (more.0, prepended before more.1))

abbrev pub param_found : Param → Context → With PlainType
param_found p c = param_by p.line (specs_view p.specs) (declarator_tree p.declarator) c

pub params_end : (before : List PlainType) (c : Context) → param_walk none before c ≡ Ok (c, as_types before)
unfolding params
params_end before c = ap (λ ts. let found : With PlainTypes = Ok (c, ts) in found) (prepended_none before)

abbrev firsts : PlainType → With PlainTypes → With PlainTypes
firsts one answer = then answer (λ more. Ok (more.0, first one more.1))

abbrev prepends : List PlainType → With PlainTypes → With PlainTypes
prepends before answer = then answer (λ more. Ok (more.0, prepended before more.1))

param_more : (before : List PlainType) (one : PlainType) (answer : With PlainTypes) →
    prepends before (firsts one answer) ≡ prepends (before ++ one ∷ []) answer
param_more before one (Ok more) = ap (λ ts. let found : With PlainTypes = Ok (more.0, ts) in found) (prepended_one before one more.1)
param_more before one (Err refusal) = refl

abbrev in_front : With PlainType → Trees → With PlainTypes
in_front step rest = then step (λ p. firsts p.1 (params rest p.0))

param_goes : (before : List PlainType) (step : With PlainType) (rest : Trees) →
    prepends before (in_front step rest) ≡ then (pushed step before) (λ m. param_walk rest m.1 m.0)
param_goes before (Ok p) rest = param_more before p.1 (params rest p.0)
param_goes before (Err refusal) rest = refl

-- a parameter and those behind it, in the definition and step by step
params_first : (p : Param) (rest : Trees) (c : Context) →
    params (param_view p ▹ rest) c ≡ then (param_found p c) (λ d. then (params rest d.0) (λ more. Ok (more.0, first d.1 more.1)))
unfolding params
params_first p rest c =
    let tree = declarator_tree p.declarator in
    sym (then_then (specs (specs_view p.specs) c) (λ base. then (layers tree base.0) (λ l. then (with_param_layers l.0.tags l.1 base.1) (λ type. param p.line (name_of tree) (adjusted type) l.0))) (λ d. then (params rest d.0) (λ more. Ok (more.0, first d.1 more.1)))
    ∙ then_same (specs (specs_view p.specs) c) _ _ (λ base. then_then (layers tree base.0) (λ l. then (with_param_layers l.0.tags l.1 base.1) (λ type. param p.line (name_of tree) (adjusted type) l.0)) (λ d. then (params rest d.0) (λ more. Ok (more.0, first d.1 more.1)))
    ∙ then_same (layers tree base.0) _ _ (λ l. then_then (with_param_layers l.0.tags l.1 base.1) (λ type. param p.line (name_of tree) (adjusted type) l.0) (λ d. then (params rest d.0) (λ more. Ok (more.0, first d.1 more.1))))))

pub params_go : (p : Param) (rest : Trees) (before : List PlainType) (c : Context) →
    param_walk (param_view p ▹ rest) before c ≡ then (pushed (param_found p c) before) (λ m. param_walk rest m.1 m.0)
params_go p rest before c =
    ap (prepends before) (params_first p rest c) ∙ param_goes before (param_found p c) rest

-- with no types before them
pub params_alone : (answer : With PlainTypes) → then answer (λ more. Ok (more.0, prepended [] more.1)) ≡ answer
params_alone (Ok more) = refl
params_alone (Err refusal) = refl
