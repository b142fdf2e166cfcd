use Rattle.std.proofs.Common.{◌≡◌, ℕ, ◌<◌, ◌^◌, true, List, refl, ap, subst, sym, ◌∙◌}
use Rattle.std.specs.Prelude.{Option, Some, IsSome}
use Rattle.c_lexer.specs.Numbers.{radix, base_of, digits_value, suffix_of, is_held, number_value}
use Rattle.c_lexer.specs.declared.number.Base.{Base}
use Rattle.c_lexer.specs.declared.number.Suffix.{Suffix}
use Rattle.c_lexer.proofs.Constants.{constant_read, there_where}
use Rattle.c_lexer.proofs.number.read_number.Goals as goal

same_suffix : (o : Option Suffix) (a b : Suffix) → o ≡ Some a → o ≡ Some b → a ≡ b
same_suffix o a b e h = cc

same_value : (o : Option ℕ) (a b : ℕ) → o ≡ Some a → o ≡ Some b → a ≡ b
same_value o a b e h = cc

same_digits : (r : ℕ) (base base' : Base) (digits digits' : List ℕ) → r ≡ radix base → base ≡ base' → digits ≡ digits' → digits_value r digits ≡ digits_value (radix base') digits'
same_digits r base base' digits digits' e h k = cc

same_held : (base base' : Base) (s s' : Suffix) (v v' : ℕ) → base ≡ base' → s ≡ s' → v ≡ v' → is_held base' s' v' ≡ true → is_held base s v ≡ true
same_held base base' s s' v v' e h k held = rw (e, h, k) held

pub unwrap-suffix-requires : goal.unwrap-suffix-requires
unwrap-suffix-requires c =
    let r = constant_read c.args.bytes.now c.requires in
    let is : c.suffix_of.result ≡ Some r.suffix = c.suffix_of.ensures ∙ (ap suffix_of c.parts_of-parts.ensures.suffix ∙ r.read) in
    let P : Option Suffix → Type 0 = IsSome in
    subst P (sym is) refl

pub unwrap-value-requires : goal.unwrap-value-requires
unwrap-value-requires c =
    let r = constant_read c.args.bytes.now c.requires in
    let value = same_digits c.radix.result c.parts_of-parts.result.base (base_of c.args.bytes.now) _ _ c.radix.ensures c.parts_of-parts.ensures.base c.parts_of-parts.ensures.digits in
    let Q : ℕ → Type 0 = λ n. n < 2 ^ 64 in
    let is = there_where c.digits_value.result _ _ c.digits_value.ensures (subst Q (sym value) r.fits) in
    let P : Option ℕ → Type 0 = IsSome in
    subst P (sym is) refl

pub returns-clause-suffix : goal.returns-clause-suffix
returns-clause-suffix c =
    let r = constant_read c.args.bytes.now c.requires in
    let is : c.suffix_of.result ≡ Some r.suffix = c.suffix_of.ensures ∙ (ap suffix_of c.parts_of-parts.ensures.suffix ∙ r.read) in
    r.form ∙ ap Some (same_suffix c.suffix_of.result r.suffix c.unwrap-suffix.result is c.unwrap-suffix.ensures)

pub returns-clause-held : goal.returns-clause-held
returns-clause-held c =
    let r = constant_read c.args.bytes.now c.requires in
    let is : c.suffix_of.result ≡ Some r.suffix = c.suffix_of.ensures ∙ (ap suffix_of c.parts_of-parts.ensures.suffix ∙ r.read) in
    let suffix : c.unwrap-suffix.result ≡ r.suffix = same_suffix c.suffix_of.result c.unwrap-suffix.result r.suffix c.unwrap-suffix.ensures is in
    let value = same_digits c.radix.result c.parts_of-parts.result.base (base_of c.args.bytes.now) _ _ c.radix.ensures c.parts_of-parts.ensures.base c.parts_of-parts.ensures.digits in
    let Q : ℕ → Type 0 = λ n. n < 2 ^ 64 in
    let found = there_where c.digits_value.result _ _ c.digits_value.ensures (subst Q (sym value) r.fits) in
    same_held c.parts_of-parts.result.base (base_of c.args.bytes.now) c.unwrap-suffix.result r.suffix c.unwrap-value.result (number_value c.args.bytes.now)
    c.parts_of-parts.ensures.base suffix (same_value c.digits_value.result c.unwrap-value.result _ c.unwrap-value.ensures found ∙ value) r.held
