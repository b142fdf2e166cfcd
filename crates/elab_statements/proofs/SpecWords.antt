-- Words of declarations.
use Rattle.std.proofs.Common.{◌≡◌, ℕ, Bool, true, false, List, [], ◌∷◌, Option, Some, None, Vec, Global, refl, ap, sym, ◌∙◌}
use Rattle.std.specs.Prelude.{◌||◌}
use Rattle.std.specs.List.{list_any}
use Rattle.c_types.specs.Types.{PlainType, Struct, Union, Void, Int, Pointer, Array, Function}
use Rattle.c_tree.specs.declared.operator.RecordSort.{RecordSort}
use Rattle.c_tree.specs.declared.operator.RecordSort.TheVariants as r
use Rattle.c_tree.specs.declared.tree.Spec.{Spec}
use Rattle.c_tree.specs.declared.tree.Spec.TheVariants as s
use Rattle.c_tree.specs.declared.tree.Tag.{Tag}
use Rattle.c_tree.specs.declared.tree.Member.{Member}
use Rattle.c_tree.specs.declared.tree.Enumerator.{Enumerator}
use Rattle.c_tree.specs.declared.tree.TagKind.{TagKind}
use Rattle.c_tree.specs.declared.tree.TagKind.TheVariants as t
use Rattle.c_tree.specs.Forms as f
use Rattle.c_tree.specs.Tree.{Tree, Trees, At, Node, none, ◌▹◌}
use Rattle.c_tree.specs.Scopes.{has_typedef}
use Rattle.c_tree.specs.View.{spec_tree, tag_tree}
use Rattle.c_tree.specs.StatementView.{trees}
use Rattle.c_tree.specs.ViewEquations.{record_body_tree, enum_body_tree}
use Rattle.c_decls.specs.declared.refusal.TypeKind.TheVariants.{DeclaredTwice}
use Rattle.c_decls.specs.Named as n
use Rattle.c_decls.specs.Named.{PlainNamed}
use Rattle.c_decls.specs.ScopeList.{named_in, innermost, tag_name}
use Rattle.c_decls.specs.Refusals.{refused}
use Rattle.c_decls.specs.TypeNames.{tag_named}
use Rattle.c_typing.specs.SpecWords.{keyword, passes}
use Rattle.elaboration.specs.Context.{Context, asked}
use Rattle.elaboration.specs.Declarators.{specs, with_type, begun_as}
use Rattle.elaboration.specs.Declarations.{specs_alone}
use Rattle.elab_statements.specs.Alone.{lone_tag, is_typedef_word, is_no_tag, of_sort}

-- `typedef`

tag_is_no_typedef : (kind : TagKind) (line : ℕ) (rest : Trees) → has_typedef (tag_tree kind line ▹ rest) ≡ has_typedef rest
unfolding has_typedef tag_tree
tag_is_no_typedef (t.Record sort name) line rest = refl
tag_is_no_typedef (t.RecordBody' sort name shape members) line rest = refl
tag_is_no_typedef (t.Enum name) line rest = refl
tag_is_no_typedef (t.EnumBody' name shape enumerators trailing) line rest = refl

word_counts : (word : Spec) (rest : Trees) → has_typedef (spec_tree word ▹ rest) ≡ passes is_typedef_word (keyword word) || has_typedef rest
unfolding has_typedef spec_tree
word_counts s.Static rest = refl
word_counts s.Extern rest = refl
word_counts s.Typedef rest = refl
word_counts s.Const rest = refl
word_counts s.Void rest = refl
word_counts s.Char rest = refl
word_counts s.Short rest = refl
word_counts s.Int rest = refl
word_counts s.Long rest = refl
word_counts s.Signed rest = refl
word_counts s.Unsigned rest = refl
word_counts (s.Named name) rest = refl
word_counts (s.Tag' line kind) rest = tag_is_no_typedef kind line rest

pub typedef_any : (words : List Spec) → has_typedef (trees spec_tree words) ≡ list_any (λ word. passes is_typedef_word (keyword word)) words
unfolding has_typedef
typedef_any [] = refl
typedef_any (word ∷ words) =
    word_counts word (trees spec_tree words) ∙ ap (λ (b : Bool). passes is_typedef_word (keyword word) || b) (typedef_any words)

-- a tag in the innermost scope

named_kept : (line : ℕ) (sort : RecordSort) (type : PlainType) (name : List ℕ) (c : Context) →
    with_type (tag_named line sort name (asked c) (Some (n.Tag type))) c ≡ of_sort line sort c type
named_kept line r.Struct (Struct tag) name c = refl
named_kept line r.Struct Void name c = refl
named_kept line r.Struct (Int ty) name c = refl
named_kept line r.Struct (Pointer target) name c = refl
named_kept line r.Struct (Array element n) name c = refl
named_kept line r.Struct (Union tag) name c = refl
named_kept line r.Struct (Function answer params) name c = refl
named_kept line r.Union (Union tag) name c = refl
named_kept line r.Union Void name c = refl
named_kept line r.Union (Int ty) name c = refl
named_kept line r.Union (Pointer target) name c = refl
named_kept line r.Union (Array element n) name c = refl
named_kept line r.Union (Struct tag) name c = refl
named_kept line r.Union (Function answer params) name c = refl

begun_named : (line : ℕ) (sort : RecordSort) (name : List ℕ) (c : Context) (found : Option PlainNamed) → is_no_tag found ≡ false →
    with_type (tag_named line sort name (asked c) found) c ≡ of_sort line sort (begun_as sort name found c).0 (begun_as sort name found c).1
begun_named line r.Struct name c None h = refl
begun_named line r.Union name c None h = refl
begun_named line sort name c (Some (n.Tag type)) h = named_kept line sort type name c
begun_named line sort name c (Some other) h = cc

other_named : (line : ℕ) (sort : RecordSort) (name : List ℕ) (c : Context) (found : Option PlainNamed) → is_no_tag found ≡ true →
    with_type (tag_named line sort name (asked c) found) c ≡ refused DeclaredTwice line
other_named line sort name c None h = cc
other_named line sort name c (Some (n.Tag type)) h = cc
other_named line sort name c (Some other) h = refl

pub tag_other : (line : ℕ) (sort : RecordSort) (name : List ℕ) (c : Context) → is_no_tag (named_in (tag_name name) (innermost c.scopes)) ≡ true →
    with_type (tag_named line sort name (asked c) (named_in (tag_name name) (innermost c.scopes))) c ≡ refused DeclaredTwice line
tag_other line sort name c h = other_named line sort name c (named_in (tag_name name) (innermost c.scopes)) h

-- what is begun there, unless it is of the other sort
pub tag_by_begin : (line : ℕ) (sort : RecordSort) (name : List ℕ) (c d : Context) (type : PlainType) →
    is_no_tag (named_in (tag_name name) (innermost c.scopes)) ≡ false →
    (d, type) ≡ begun_as sort name (named_in (tag_name name) (innermost c.scopes)) c →
    with_type (tag_named line sort name (asked c) (named_in (tag_name name) (innermost c.scopes))) c ≡ of_sort line sort d type
tag_by_begin line sort name c d type h begun =
    begun_named line sort name c (named_in (tag_name name) (innermost c.scopes)) h
    ∙ sym (ap (λ (x : Context × PlainType). of_sort line sort x.0 x.1) begun)

-- words that stand alone

module _ (line : ℕ) (c : Context) where
  abbrev whole : List Spec → Tree
  whole words = Node f.Specs (At line ▹ trees spec_tree words)

  lone : (words : List Spec) (tag : Tag) → lone_tag words ≡ Some tag → whole words ≡ Node f.Specs (At line ▹ tag_tree tag.kind tag.line ▹ none)
  unfolding spec_tree
  lone [] tag h = cc
  lone (s.Tag' at kind ∷ []) tag h =
      let view : Option Tag → Tree = λ o. elim o [ None ↦ Node f.Specs (At line ▹ none) | Some one ↦ Node f.Specs (At line ▹ tag_tree one.kind one.line ▹ none) ] in
      ap view h
  lone (s.Static ∷ words) tag h = cc
  lone (s.Extern ∷ words) tag h = cc
  lone (s.Typedef ∷ words) tag h = cc
  lone (s.Const ∷ words) tag h = cc
  lone (s.Void ∷ words) tag h = cc
  lone (s.Char ∷ words) tag h = cc
  lone (s.Short ∷ words) tag h = cc
  lone (s.Int ∷ words) tag h = cc
  lone (s.Long ∷ words) tag h = cc
  lone (s.Signed ∷ words) tag h = cc
  lone (s.Unsigned ∷ words) tag h = cc
  lone (s.Named name ∷ words) tag h = cc
  lone (s.Tag' at kind ∷ next ∷ words) tag h = cc

  -- the same of a tag's kind
  lone_kind : (words : List Spec) (tag : Tag) (kind : TagKind) → lone_tag words ≡ Some tag → tag.kind ≡ kind →
      whole words ≡ Node f.Specs (At line ▹ tag_tree kind tag.line ▹ none)
  lone_kind words tag kind h k =
      lone words tag h ∙ ap (λ (other : TagKind). Node f.Specs (At line ▹ tag_tree other tag.line ▹ none)) k

  pub alone_record : (words : List Spec) (tag : Tag) (sort : RecordSort) (name : List ℕ) → lone_tag words ≡ Some tag → tag.kind ≡ t.Record sort name →
      specs_alone (Node f.Specs (At line ▹ trees spec_tree words)) c ≡ with_type (tag_named tag.line sort name (asked c) (named_in (tag_name name) (innermost c.scopes))) c
  unfolding tag_tree
  alone_record words tag sort name h k =
      ap (λ (tree : Tree). specs_alone tree c) (lone_kind words tag (t.Record sort name) h k)

  -- specs of one tree that is no struct or union by its name
  pub alone_body : (words : List Spec) (tag : Tag) (sort : RecordSort) (name : Option (List ℕ)) (members : Vec Member Global) → lone_tag words ≡ Some tag → tag.kind ≡ t.RecordBody sort name members →
      specs_alone (Node f.Specs (At line ▹ trees spec_tree words)) c ≡ specs (Node f.Specs (At line ▹ trees spec_tree words)) c
  alone_body words tag sort name members h k =
      let e = lone_kind words tag (t.RecordBody sort name members) h k
      ∙ ap (λ (tree : Tree). Node f.Specs (At line ▹ tree ▹ none)) (record_body_tree sort name members tag.line) in
      ap (λ (tree : Tree). specs_alone tree c) e ∙ sym (ap (λ (tree : Tree). specs tree c) e)

  pub alone_enum : (words : List Spec) (tag : Tag) (name : List ℕ) → lone_tag words ≡ Some tag → tag.kind ≡ t.Enum name →
      specs_alone (Node f.Specs (At line ▹ trees spec_tree words)) c ≡ specs (Node f.Specs (At line ▹ trees spec_tree words)) c
  unfolding tag_tree
  alone_enum words tag name h k =
      let e = lone_kind words tag (t.Enum name) h k in
      ap (λ (tree : Tree). specs_alone tree c) e ∙ sym (ap (λ (tree : Tree). specs tree c) e)

  pub alone_enum_body : (words : List Spec) (tag : Tag) (name : Option (List ℕ)) (enumerators : Vec Enumerator Global) (trailing : Bool) → lone_tag words ≡ Some tag → tag.kind ≡ t.EnumBody name enumerators trailing →
      specs_alone (Node f.Specs (At line ▹ trees spec_tree words)) c ≡ specs (Node f.Specs (At line ▹ trees spec_tree words)) c
  alone_enum_body words tag name enumerators trailing h k =
      let e = lone_kind words tag (t.EnumBody name enumerators trailing) h k
      ∙ ap (λ (tree : Tree). Node f.Specs (At line ▹ tree ▹ none)) (enum_body_tree name enumerators trailing tag.line) in
      ap (λ (tree : Tree). specs_alone tree c) e ∙ sym (ap (λ (tree : Tree). specs tree c) e)

  more_words : (kind : TagKind) (at : ℕ) (tree : Tree) (rest : Trees) →
      specs_alone (Node f.Specs (At line ▹ tag_tree kind at ▹ tree ▹ rest)) c ≡ specs (Node f.Specs (At line ▹ tag_tree kind at ▹ tree ▹ rest)) c
  unfolding tag_tree
  more_words (t.Record sort name) at tree rest = refl
  more_words (t.RecordBody' sort name shape members) at tree rest = refl
  more_words (t.Enum name) at tree rest = refl
  more_words (t.EnumBody' name shape enumerators trailing) at tree rest = refl

  pub none_alone : (words : List Spec) → lone_tag words ≡ None →
      specs_alone (Node f.Specs (At line ▹ trees spec_tree words)) c ≡ specs (Node f.Specs (At line ▹ trees spec_tree words)) c
  unfolding spec_tree
  none_alone [] h = refl
  none_alone (s.Tag' at kind ∷ []) h = cc
  none_alone (s.Tag' at kind ∷ next ∷ words) h = more_words kind at (spec_tree next) (trees spec_tree words)
  none_alone (s.Static ∷ words) h = refl
  none_alone (s.Extern ∷ words) h = refl
  none_alone (s.Typedef ∷ words) h = refl
  none_alone (s.Const ∷ words) h = refl
  none_alone (s.Void ∷ words) h = refl
  none_alone (s.Char ∷ words) h = refl
  none_alone (s.Short ∷ words) h = refl
  none_alone (s.Int ∷ words) h = refl
  none_alone (s.Long ∷ words) h = refl
  none_alone (s.Signed ∷ words) h = refl
  none_alone (s.Unsigned ∷ words) h = refl
  none_alone (s.Named name ∷ words) h = refl
