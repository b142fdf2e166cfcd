-- The types that words and the layers of a declarator make (C99 6.7.2, 6.7.5).
use Rattle.std.specs.Prelude.{ℕ, ◌+◌, ◌*◌, ℤ, pos, negsuc, zero, suc, Bool, true, false, ◌||◌, nat_eq, nat_lt, int_lt, unsigned_abs, cond, List, [], ◌∷◌, length, Option, Some, None, is_some, Ok}
use Rattle.c_types.specs.declared.types.IntType.{IntType}
use Rattle.c_types.specs.declared.types.IntType.TheVariants as i
use Rattle.c_types.specs.Types.{PlainType, PlainTypes, Void, Int, Pointer, Array, Struct, Union, Function}
use Rattle.c_types.specs.TagTable.{TagTable, size_in, with_tag}
use Rattle.c_tree.specs.declared.word.Keyword.{Keyword}
use Rattle.c_tree.specs.declared.word.Keyword.TheVariants as k
use Rattle.c_tree.specs.declared.operator.RecordSort.{RecordSort}
use Rattle.c_tree.specs.declared.operator.RecordSort.TheVariants as r
use Rattle.c_tree.specs.Words.{Key}
use Rattle.c_tree.specs.Words as w
use Rattle.c_tree.specs.Forms as f
use Rattle.c_tree.specs.Tree.{Tree, Trees, Leaf, At, Node, none, ◌▹◌}
use Rattle.c_decls.specs.declared.refusal.TypeKind.TheVariants.{Undeclared, DeclaredTwice, Incomplete, NotConstant, TypeTooLarge, LeftOut}
use Rattle.c_decls.specs.Named as n
use Rattle.c_decls.specs.Named.{PlainNamed}
use Rattle.c_decls.specs.ScopeList.{ScopeList, found, innermost, named_in, with_name, tag_name}
use Rattle.c_decls.specs.Refusals.{Checked, refused, then, unless}
use Rattle.c_decls.specs.declared.typed.Folded.TheVariants.{Varies, Traps, Is}
use Rattle.c_decls.specs.declared.typed.Folded.{Folded}
use Rattle.c_decls.specs.Typed.{PlainTyped, is_void, is_record, is_array, is_function}

-- the declarations and the tags that hold at a place of a text
pub record Context : Type 0 where
  pub scopes : ScopeList
  pub tags : TagTable

-- words

-- how many keywords among some words pass a test
abbrev pub many : (Keyword → Bool) → Trees → ℕ
many test none = 0
many test (Leaf (Key keyword) ▹ rest) = cond (test keyword) 1 0 + many test rest
many test (tree ▹ rest) = many test rest

abbrev pub has : (Keyword → Bool) → Trees → Bool
has test words = nat_lt 0 (many test words)

abbrev pub is_void_word : Keyword → Bool
is_void_word k.Void = true
is_void_word _ = false

abbrev pub is_char : Keyword → Bool
is_char k.Char = true
is_char _ = false

abbrev pub is_short : Keyword → Bool
is_short k.Short = true
is_short _ = false

abbrev pub is_long : Keyword → Bool
is_long k.Long = true
is_long _ = false

abbrev pub is_signed_word : Keyword → Bool
is_signed_word k.Signed = true
is_signed_word _ = false

abbrev pub is_unsigned_word : Keyword → Bool
is_unsigned_word k.Unsigned = true
is_unsigned_word _ = false

-- the type of words in any order (C99 6.7.2)
abbrev pub word_type : Trees → PlainType
word_type words =
    let unsigned = has is_unsigned_word words in
    cond (has is_void_word words) Void (Int
    (cond (has is_char words) (cond unsigned i.UChar (cond (has is_signed_word words) i.SChar i.Char))
    (cond (has is_short words) (cond unsigned i.UShort i.Short)
    (cond (nat_eq (many is_long words) 2) (cond unsigned i.ULongLong i.LongLong)
    (cond (nat_eq (many is_long words) 1) (cond unsigned i.ULong i.Long)
    (cond unsigned i.UInt i.Int))))))

-- tags and names of types

abbrev pub record_type : RecordSort → ℕ → PlainType
record_type r.Struct tag = Struct tag
record_type r.Union tag = Union tag

abbrev pub is_union : RecordSort → Bool
is_union r.Struct = false
is_union r.Union = true

-- a tag that is named first here: it is incomplete, and declared in the innermost scope (C99 6.7.2.3)
abbrev pub with_new_tag : RecordSort → List ℕ → Context → Context × PlainType
with_new_tag sort name context =
    let type = record_type sort (length context.tags.made) in
    (record { scopes = with_name context.scopes (tag_name name) (n.Tag type); tags = with_tag context.tags (is_union sort) name }, type)

abbrev pub same_sort : ℕ → RecordSort → Context → PlainType → Checked (Context × PlainType)
same_sort line r.Struct context (Struct tag) = Ok (context, Struct tag)
same_sort line r.Union context (Union tag) = Ok (context, Union tag)
same_sort line sort context _ = refused DeclaredTwice line

-- a struct or a union by its name; under the name of a tag nothing else is declared
abbrev pub tag_named : ℕ → RecordSort → List ℕ → Context → Option PlainNamed → Checked (Context × PlainType)
tag_named line sort name context None = Ok (with_new_tag sort name context)
tag_named line sort name context (Some (n.Tag type)) = same_sort line sort context type
tag_named line sort name context (Some other) = refused DeclaredTwice line

-- an enum by its name: its type is int
abbrev pub enum_named : ℕ → Context → Option PlainNamed → Checked (Context × PlainType)
enum_named line context (Some (n.Tag (Int ty))) = Ok (context, Int ty)
enum_named line context (Some (n.Tag type)) = refused DeclaredTwice line
enum_named line context _ = refused Undeclared line

-- the name of a type; `size_t` is the first of the built-in names
abbrev pub type_named : ℕ → Context → Option PlainNamed → Checked (Context × PlainType)
type_named line context (Some (n.Typedef type)) = Ok (context, type)
type_named line context (Some (n.BuiltIn zero)) = Ok (context, Int i.UInt)
type_named line context _ = refused Undeclared line

-- a tag, or the name of a type, in an expression: a tag has no braces there
abbrev pub special_type : ℕ → Tree → Context → Checked (Context × PlainType)
special_type line (Node f.TypedefName (Leaf (w.Name name) ▹ none)) context =
    type_named line context (found context.scopes name)
special_type line (Node (f.RecordTag sort) (At at ▹ Leaf (w.Name name) ▹ none)) context =
    tag_named at sort name context (found context.scopes (tag_name name))
special_type line (Node f.EnumTag (At at ▹ Leaf (w.Name name) ▹ none)) context =
    enum_named at context (found context.scopes (tag_name name))
special_type line (Node other (At at ▹ parts)) context = refused LeftOut at
special_type line tree context = refused LeftOut line

-- the type of the words of specs that stand at a line; a word that is a node is the only one that says the type
abbrev pub specs_type : ℕ → Trees → Trees → Context → Checked (Context × PlainType)
specs_type line words none context = Ok (context, word_type words)
specs_type line words (Node form parts ▹ rest) context = special_type line (Node form parts) context
specs_type line words (tree ▹ rest) context = specs_type line words rest context

-- layers

-- a layer of a declarator, at its line
pub data Layer : Type 0 where
  PointerTo : (line : ℕ) → Layer
  ArrayOf : (line : ℕ) (length : Option ℕ) → Layer
  FunctionOf : (line : ℕ) (params : PlainTypes) → Layer

-- the length of an array: a constant of at least 1
abbrev pub length_from : ℕ → PlainType → Folded → Checked ℕ
length_from line (Int ty) (Is (pos (suc n))) = Ok (suc n)
length_from line type folded = refused NotConstant line

abbrev pub array_length : ℕ → PlainTyped → Checked ℕ
array_length line e = length_from line e.type e.folded

-- an array of elements of this size, if they have one
abbrev pub array_of : ℕ → PlainType → Option ℕ → Option ℕ → Checked PlainType
array_of line element None length = refused Incomplete line
array_of line element (Some size) None = refused Incomplete line
array_of line element (Some size) (Some length) =
    unless (nat_lt 268435456 (length * size)) TypeTooLarge line (Ok (Array element length))

-- a type with one layer more: there are pointers to no functions, arrays of none, and functions that answer no array,
-- function, struct or union
abbrev pub layered : TagTable → Layer → PlainType → Checked PlainType
layered tags (PointerTo line) type = unless (is_function type) LeftOut line (Ok (Pointer type))
layered tags (ArrayOf line length) type = unless (is_function type) LeftOut line (array_of line type (size_in tags type) length)
layered tags (FunctionOf line params) type =
    unless (is_array type || is_function type || is_record type) LeftOut line (Ok (Function type params))

-- a function layer stands next to the name alone: with another layer behind it, it is refused itself
abbrev next_to_name : Layer → List Layer → Checked PlainType → Checked PlainType
next_to_name (FunctionOf line params) (next ∷ layers) answer = then answer (λ type. refused LeftOut line)
next_to_name layer layers answer = answer

-- a type with one layer more, behind which these are left
abbrev pub layered_before : TagTable → Layer → List Layer → PlainType → Checked PlainType
layered_before tags layer layers type = next_to_name layer layers (layered tags layer type)

-- a type with layers, from the specs towards the name
abbrev pub with_layers : TagTable → List Layer → PlainType → Checked PlainType
with_layers tags [] type = Ok type
with_layers tags (layer ∷ layers) type =
    then (layered_before tags layer layers type) (λ inner. with_layers tags layers inner)

-- the same for a parameter, whose array next to the name needs no length
abbrev pub with_param_layers : TagTable → List Layer → PlainType → Checked PlainType
with_param_layers tags [] type = Ok type
with_param_layers tags (ArrayOf line None ∷ []) type = layered tags (ArrayOf line (Some 1)) type
with_param_layers tags (layer ∷ layers) type =
    then (layered_before tags layer layers type) (λ inner. with_param_layers tags layers inner)

-- a parameter of array type is a pointer (C99 6.7.5.3)
abbrev pub adjusted : PlainType → PlainType
adjusted (Array element length) = Pointer element
adjusted type = type

abbrev pub with_param : ℕ → Context → Option (List ℕ) → PlainType → Checked (Context × PlainType)
with_param line context None type = Ok (context, type)
with_param line context (Some name) type =
    unless (is_some (named_in name (innermost context.scopes))) DeclaredTwice line
    (Ok (record { scopes = with_name context.scopes name (n.Register type 0); tags = context.tags }, type))

-- a parameter of a function type, declared in its scope
abbrev pub declared_param : ℕ → Context → Option (List ℕ) → PlainType → Checked (Context × PlainType)
declared_param line context name type =
    unless (is_void type) Incomplete line
    (unless (is_record type || is_function type) LeftOut line (with_param line context name type))
