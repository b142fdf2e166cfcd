-- The three ways to fill a field.
use Rattle.std.proofs.Common.{◌≡◌, ◌+◌, ◌-◌, ℕ, Bool, true, false, List, ◌++◌, length, replicate, sym, ap, ◌∙◌, append-nil}
use Rattle.c_print.specs.Print.{field}
use Rattle.c_print.specs.Filled.{filled}

module _ (width len fill : ℕ) (sign text : List ℕ) (fill_is : fill ≡ width - len) (len_is : length sign + length text ≡ len) where
  fill_of : width - (length sign + length text) ≡ fill
  fill_of = ap (λ n. width - n) len_is ∙ sym fill_is

  pub field_left : (zeros : Bool) → field true zeros width sign text ≡ filled 0 0 fill sign text
  unfolding field
  field_left zeros = ap (λ n. sign ++ (text ++ replicate n 32)) fill_of

  pub field_zeros : field false true width sign text ≡ filled 0 fill 0 sign text
  unfolding field
  field_zeros = ap (λ n. sign ++ (replicate n 48 ++ text)) fill_of ∙ ap (λ l. sign ++ (replicate fill 48 ++ l)) (sym (append-nil text))

  pub field_spaces : field false false width sign text ≡ filled fill 0 0 sign text
  unfolding field
  field_spaces = ap (λ n. replicate n 32 ++ (sign ++ text)) fill_of ∙ ap (λ l. replicate fill 32 ++ (sign ++ l)) (sym (append-nil text))
