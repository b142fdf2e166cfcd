-- The types of the words of specs.
use Rattle.std.proofs.Common.{◌≡◌, ℕ, Bool, true, false, cond, nat_eq, List, [], ◌∷◌, Option, Some, None, Ok, refl, sym, ◌∙◌, count_by}
use Rattle.std.specs.List.{find, list_any}
use Rattle.c_types.specs.declared.types.IntType.TheVariants as i
use Rattle.c_types.specs.Types.{PlainType, Void, Int}
use Rattle.c_tree.specs.declared.tree.Spec.{Spec}
use Rattle.c_tree.specs.declared.tree.Spec.TheVariants as s
use Rattle.c_tree.specs.declared.tree.TagKind.{TagKind}
use Rattle.c_tree.specs.declared.tree.TagKind.TheVariants as t
use Rattle.c_tree.specs.Tree.{Tree, Trees, ◌▹◌}
use Rattle.c_tree.specs.View.{spec_tree, tag_tree}
use Rattle.c_tree.specs.StatementView.{trees}
use Rattle.c_decls.specs.Refusals.{Checked}
use Rattle.c_decls.specs.TypeNames.{Context, is_void_word, is_char, is_short, is_long, is_signed_word, is_unsigned_word, word_type, special_type, specs_type}
use Rattle.c_typing.specs.SpecWords.{is_special, keyword, passes}
use Rattle.c_typing.specs.declared.words.Words.{Words}
use Rattle.c_typing.specs.WordCounts.{words_type}
use Rattle.c_typing.specs.SpecWordsEquations.{has_any, many_counted}

-- the type of words by which of them are there
pub word_type_is : (words : List Spec) (w : Words) →
    w.has_void ≡ list_any (λ word. passes is_void_word (keyword word)) words →
    w.has_char ≡ list_any (λ word. passes is_char (keyword word)) words →
    w.has_short ≡ list_any (λ word. passes is_short (keyword word)) words →
    w.has_signed ≡ list_any (λ word. passes is_signed_word (keyword word)) words →
    w.has_unsigned ≡ list_any (λ word. passes is_unsigned_word (keyword word)) words →
    w.longs ≡ count_by (λ word. passes is_long (keyword word)) words →
    words_type w ≡ word_type (trees spec_tree words)
word_type_is words w void char short signed unsigned long =
    let v = void ∙ sym (has_any is_void_word words) in
    let c = char ∙ sym (has_any is_char words) in
    let s = short ∙ sym (has_any is_short words) in
    let g = signed ∙ sym (has_any is_signed_word words) in
    let u = unsigned ∙ sym (has_any is_unsigned_word words) in
    let l = long ∙ sym (many_counted is_long words) in
    λ j. cond (v j) Void (Int
    (cond (c j) (cond (u j) i.UChar (cond (g j) i.SChar i.Char))
    (cond (s j) (cond (u j) i.UShort i.Short)
    (cond (nat_eq (l j) 2) (cond (u j) i.ULongLong i.LongLong)
    (cond (nat_eq (l j) 1) (cond (u j) i.ULong i.Long)
    (cond (u j) i.UInt i.Int))))))

-- specs, word by word

tag_decides : (line : ℕ) (all : Trees) (kind : TagKind) (at : ℕ) (rest : Trees) (c : Context) →
    specs_type line all (tag_tree kind at ▹ rest) c ≡ special_type line (tag_tree kind at) c
unfolding tag_tree
tag_decides line all (t.Record sort name) at rest c = refl
tag_decides line all (t.RecordBody' sort name shape members) at rest c = refl
tag_decides line all (t.Enum name) at rest c = refl
tag_decides line all (t.EnumBody' name shape enumerators trailing) at rest c = refl

word_decides : (line : ℕ) (all : Trees) (word : Spec) (rest : Trees) (c : Context) →
    specs_type line all (spec_tree word ▹ rest) c ≡
    cond (is_special word) (special_type line (spec_tree word) c) (specs_type line all rest c)
unfolding spec_tree
word_decides line all s.Static rest c = refl
word_decides line all s.Extern rest c = refl
word_decides line all s.Typedef rest c = refl
word_decides line all s.Const rest c = refl
word_decides line all s.Void rest c = refl
word_decides line all s.Char rest c = refl
word_decides line all s.Short rest c = refl
word_decides line all s.Int rest c = refl
word_decides line all s.Long rest c = refl
word_decides line all s.Signed rest c = refl
word_decides line all s.Unsigned rest c = refl
word_decides line all (s.Named name) rest c = refl
word_decides line all (s.Tag' at kind) rest c = tag_decides line all kind at rest c

-- what the first special word makes of specs
abbrev pub decided : ℕ → Trees → Context → Option Spec → Checked (Context × PlainType)
decided line all c None = Ok (c, word_type all)
decided line all c (Some word) = special_type line (spec_tree word) c

pub specs_decided : (line : ℕ) (all : Trees) (words : List Spec) (c : Context) →
    specs_type line all (trees spec_tree words) c ≡ decided line all c (find is_special words)
specs_decided line all [] c = refl
specs_decided line all (word ∷ words) c =
    word_decides line all word (trees spec_tree words) c ∙ by (is_special word) (specs_decided line all words c)
  where
    by : (b : Bool) → specs_type line all (trees spec_tree words) c ≡ decided line all c (find is_special words) →
        cond b (special_type line (spec_tree word) c) (specs_type line all (trees spec_tree words) c)
        ≡ decided line all c (cond b (Some word) (find is_special words))
    by true e = refl
    by false e = e
