-- How often keywords stand among the words of specs. Equations, proved from `SpecWords`.
use Rattle.std.proofs.Common.{◌≡◌, ℕ, suc, ◌+◌, Bool, true, false, cond, nat_lt, List, [], ◌∷◌, refl, sym, ap, ◌∙◌, count_by, zero-add, one-add, zero-lt-suc}
use Rattle.std.specs.Prelude.{◌||◌}
use Rattle.std.specs.List.{list_any}
use Rattle.std.proofs.lemmas.Bool.{lt-ltb}
use Rattle.std.proofs.lemmas.List.Sums.{sum_by-cons}
use Rattle.c_tree.specs.declared.word.Keyword.{Keyword}
use Rattle.c_tree.specs.declared.tree.Spec.{Spec}
use Rattle.c_tree.specs.declared.tree.Spec.TheVariants as s
use Rattle.c_tree.specs.declared.tree.TagKind.{TagKind}
use Rattle.c_tree.specs.declared.tree.TagKind.TheVariants as t
use Rattle.c_tree.specs.Tree.{Trees, ◌▹◌}
use Rattle.c_tree.specs.View.{spec_tree, tag_tree}
use Rattle.c_tree.specs.StatementView.{trees}
use Rattle.c_decls.specs.TypeNames.{many, has}
use Rattle.c_typing.specs.SpecWords.{keyword, passes}

abbrev one_if : Bool → ℕ
one_if b = cond b 1 0

tag_is_no_word : (test : Keyword → Bool) (kind : TagKind) (line : ℕ) (rest : Trees) →
    many test (tag_tree kind line ▹ rest) ≡ many test rest
unfolding tag_tree
tag_is_no_word test (t.Record sort name) line rest = refl
tag_is_no_word test (t.RecordBody' sort name shape members) line rest = refl
tag_is_no_word test (t.Enum name) line rest = refl
tag_is_no_word test (t.EnumBody' name shape enumerators trailing) line rest = refl

-- a word counts where its keyword passes
word_counts : (test : Keyword → Bool) (word : Spec) (rest : Trees) →
    many test (spec_tree word ▹ rest) ≡ one_if (passes test (keyword word)) + many test rest
unfolding spec_tree
word_counts test s.Static rest = refl
word_counts test s.Extern rest = refl
word_counts test s.Typedef rest = refl
word_counts test s.Const rest = refl
word_counts test s.Void rest = refl
word_counts test s.Char rest = refl
word_counts test s.Short rest = refl
word_counts test s.Int rest = refl
word_counts test s.Long rest = refl
word_counts test s.Signed rest = refl
word_counts test s.Unsigned rest = refl
word_counts test (s.Named name) rest = sym (zero-add (many test rest))
word_counts test (s.Tag' line kind) rest = tag_is_no_word test kind line rest ∙ sym (zero-add (many test rest))

count_first : (test : Keyword → Bool) (word : Spec) (words : List Spec) →
    count_by (λ word. passes test (keyword word)) (word ∷ words)
    ≡ one_if (passes test (keyword word)) + count_by (λ word. passes test (keyword word)) words
count_first test word words = sum_by-cons (λ word. one_if (passes test (keyword word))) word words

pub many_counted : (test : Keyword → Bool) (words : List Spec) →
    many test (trees spec_tree words) ≡ count_by (λ word. passes test (keyword word)) words
many_counted test [] = refl
many_counted test (word ∷ words) =
    word_counts test word (trees spec_tree words)
    ∙ ap (λ n. one_if (passes test (keyword word)) + n) (many_counted test words)
    ∙ sym (count_first test word words)

first_counts : (b more : Bool) (n : ℕ) → nat_lt 0 n ≡ more → nat_lt 0 (one_if b + n) ≡ (b || more)
first_counts true more n e = ap (λ m. nat_lt 0 m) (one-add n) ∙ lt-ltb 0 (suc n) (zero-lt-suc n)
first_counts false more n e = ap (λ m. nat_lt 0 m) (zero-add n) ∙ e

counted_any : (test : Keyword → Bool) (words : List Spec) →
    nat_lt 0 (count_by (λ word. passes test (keyword word)) words) ≡ list_any (λ word. passes test (keyword word)) words
counted_any test [] = refl
counted_any test (word ∷ words) =
    ap (λ n. nat_lt 0 n) (count_first test word words)
    ∙ first_counts (passes test (keyword word)) (list_any (λ word. passes test (keyword word)) words) _ (counted_any test words)

pub has_any : (test : Keyword → Bool) (words : List Spec) →
    has test (trees spec_tree words) ≡ list_any (λ word. passes test (keyword word)) words
has_any test words = ap (λ n. nat_lt 0 n) (many_counted test words) ∙ counted_any test words
