-- Whether `typedef` and `static` are among the words of specs, word by word.
use Rattle.std.proofs.Common.{◌≡◌, ◌<◌, ◌≤◌, ◌+◌, ℕ, zero, suc, ◌||◌, Bool, true, false, List, [], ◌∷◌, drop, length, get_or, refl, ap, sym, ◌∙◌, arith}
use Rattle.std.proofs.Math.Seq.{drop-cons}
use Rattle.c_tree.specs.StatementView.{trees}
use Rattle.c_tree.specs.Scopes.{has_typedef}
use Rattle.c_tree.specs.Tree.{Trees, none, ◌▹◌}
use Rattle.c_tree.specs.View.{spec_tree, tag_tree}
use Rattle.c_tree.specs.declared.tree.Spec.{Spec}
use Rattle.c_tree.specs.declared.tree.Spec.TheVariants as c
use Rattle.c_tree.specs.declared.tree.TagKind.{TagKind}
use Rattle.c_tree.specs.declared.tree.TagKind.TheVariants as t
use Rattle.c_tree.specs.SpecWords.{has_static, is_static_spec, is_typedef_spec}

-- a test of words that is known word by word
module _ (has : Trees → Bool) (test : Spec → Bool) where
  abbrev ByWords : Type 0
  ByWords = (word : Spec) (rest : Trees) → has (spec_tree word ▹ rest) ≡ test word || has rest

  at_first : ByWords → (words : List Spec) (i : ℕ) (d : Spec) → i < length words →
      has (trees spec_tree (drop i words)) ≡ test (get_or words i d) || has (trees spec_tree (drop (suc i) words))
  at_first by words i d h =
      ap (λ (l : List Spec). has (trees spec_tree l)) (drop-cons words i d h)
      ∙ by (get_or words i d) (trees spec_tree (drop (suc i) words))

  next : ByWords → (words : List Spec) (i : ℕ) (d : Spec) → i < length words → test (get_or words i d) ≡ false →
      has (trees spec_tree (drop (i + 1) words)) ≡ has (trees spec_tree (drop i words))
  next by words i d h differs =
      let more : i + 1 ≡ suc i = omega arith in
      ap (λ (n : ℕ). has (trees spec_tree (drop n words))) more
      ∙ sym (at_first by words i d h ∙ ap (λ (b : Bool). b || has (trees spec_tree (drop (suc i) words))) differs)

  found : ByWords → (words : List Spec) (i : ℕ) (d : Spec) → i < length words → test (get_or words i d) ≡ true →
      has (trees spec_tree (drop i words)) ≡ true
  found by words i d h same =
      at_first by words i d h ∙ ap (λ (b : Bool). b || has (trees spec_tree (drop (suc i) words))) same

end : (has : Trees → Bool) → has none ≡ false → (words : List Spec) (i : ℕ) → length words ≤ i → has (trees spec_tree (drop i words)) ≡ false
end has e [] zero h = e
end has e [] (suc i) h = e
end has e (first ∷ words) zero h = absurd (omega (arith, h))
end has e (first ∷ words) (suc i) h = end has e words i (omega (arith, h))

typedef_tag : (kind : TagKind) (line : ℕ) (rest : Trees) → has_typedef (tag_tree kind line ▹ rest) ≡ has_typedef rest
unfolding has_typedef tag_tree
typedef_tag (t.Record sort name) line rest = refl
typedef_tag (t.RecordBody' sort name shape members) line rest = refl
typedef_tag (t.Enum name) line rest = refl
typedef_tag (t.EnumBody' name shape enumerators trailing) line rest = refl

typedef_first : (word : Spec) (rest : Trees) → has_typedef (spec_tree word ▹ rest) ≡ is_typedef_spec word || has_typedef rest
unfolding has_typedef spec_tree
typedef_first c.Static rest = refl
typedef_first c.Extern rest = refl
typedef_first c.Typedef rest = refl
typedef_first c.Const rest = refl
typedef_first c.Void rest = refl
typedef_first c.Char rest = refl
typedef_first c.Short rest = refl
typedef_first c.Int rest = refl
typedef_first c.Long rest = refl
typedef_first c.Signed rest = refl
typedef_first c.Unsigned rest = refl
typedef_first (c.Named name) rest = refl
typedef_first (c.Tag' line kind) rest = typedef_tag kind line rest

typedef_none : has_typedef none ≡ false
unfolding has_typedef
typedef_none = refl

pub typedef_next : (words : List Spec) (i : ℕ) (d : Spec) → i < length words → is_typedef_spec (get_or words i d) ≡ false →
    has_typedef (trees spec_tree (drop (i + 1) words)) ≡ has_typedef (trees spec_tree (drop i words))
typedef_next = next has_typedef is_typedef_spec typedef_first

pub typedef_found : (words : List Spec) (i : ℕ) (d : Spec) → i < length words → is_typedef_spec (get_or words i d) ≡ true →
    has_typedef (trees spec_tree (drop i words)) ≡ true
typedef_found = found has_typedef is_typedef_spec typedef_first

pub typedef_end : (words : List Spec) (i : ℕ) → length words ≤ i → has_typedef (trees spec_tree (drop i words)) ≡ false
typedef_end = end has_typedef typedef_none

static_tag : (kind : TagKind) (line : ℕ) (rest : Trees) → has_static (tag_tree kind line ▹ rest) ≡ has_static rest
unfolding has_static tag_tree
static_tag (t.Record sort name) line rest = refl
static_tag (t.RecordBody' sort name shape members) line rest = refl
static_tag (t.Enum name) line rest = refl
static_tag (t.EnumBody' name shape enumerators trailing) line rest = refl

static_first : (word : Spec) (rest : Trees) → has_static (spec_tree word ▹ rest) ≡ is_static_spec word || has_static rest
unfolding has_static spec_tree
static_first c.Static rest = refl
static_first c.Extern rest = refl
static_first c.Typedef rest = refl
static_first c.Const rest = refl
static_first c.Void rest = refl
static_first c.Char rest = refl
static_first c.Short rest = refl
static_first c.Int rest = refl
static_first c.Long rest = refl
static_first c.Signed rest = refl
static_first c.Unsigned rest = refl
static_first (c.Named name) rest = refl
static_first (c.Tag' line kind) rest = static_tag kind line rest

static_none : has_static none ≡ false
unfolding has_static
static_none = refl

pub static_next : (words : List Spec) (i : ℕ) (d : Spec) → i < length words → is_static_spec (get_or words i d) ≡ false →
    has_static (trees spec_tree (drop (i + 1) words)) ≡ has_static (trees spec_tree (drop i words))
static_next = next has_static is_static_spec static_first

pub static_found : (words : List Spec) (i : ℕ) (d : Spec) → i < length words → is_static_spec (get_or words i d) ≡ true →
    has_static (trees spec_tree (drop i words)) ≡ true
static_found = found has_static is_static_spec static_first

pub static_end : (words : List Spec) (i : ℕ) → length words ≤ i → has_static (trees spec_tree (drop i words)) ≡ false
static_end = end has_static static_none
