-- What the type of a function is as plain data. Equations, proved from `Types`.
use Rattle.std.proofs.Common.{◌≡◌, Bor, refl, ap, ◌∙◌}
use Rattle.c_types.specs.declared.types.CType.{Row_of-CType, end_of-CType, more_of-CType, items-the_row-CType, items_hidden-the_row-CType-0}
use Rattle.c_types.specs.declared.types.CType.TheVariants as c
use Rattle.c_types.specs.declared.types.CType.TheBlock.{hidden-the_row-CType-0}
use Rattle.c_types.specs.declared.types.Signature.{Signature}
use Rattle.c_types.specs.Types.{Function, first, plain, plain_row, plain_list, plain_signature}

-- the types of a row are those of its list
plain_row-items : (n : _) (r : Row_of-CType n) → plain_row r ≡ plain_list (items-the_row-CType n r)
plain_row-items n end_of-CType = refl
plain_row-items n (more_of-CType t r) = ap (first (plain t)) (plain_row-items _ r)

pub plain-parts : (s : Signature) → Function (plain s.result) (plain_row (hidden-the_row-CType-0 s.params)) ≡ plain_signature s
plain-parts s =
    ap (λ ts. Function (plain s.result) ts)
    (plain_row-items _ (hidden-the_row-CType-0 s.params) ∙ ap plain_list (items_hidden-the_row-CType-0 s.params))

pub plain-function : (x : Bor Signature) → plain (c.Function x) ≡ plain_signature x.now
plain-function x = plain-parts x.now
