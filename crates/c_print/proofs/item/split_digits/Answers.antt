use Rattle.std.proofs.Common.{sym, ap, ◌∙◌, take, drop, length, ◌≤◌, subst}
use Rattle.std.proofs.lemmas.List.Sums.{prefix_len-le-length}
use Rattle.std.specs.List.{list_all}
use Rattle.std.specs.Char.{is_ascii_digit}
use Rattle.c_print.specs.Item.{StartsOutside}
use Rattle.c_print.specs.ItemEquations.{front_passes, rest_starts_outside}
use Rattle.c_print.proofs.item.split_digits.Goals as goal

pub split_at-requires : goal.split_at-requires
split_at-requires c = let bound = prefix_len-le-length is_ascii_digit c.args.bytes.now in subst (λ n. n ≤ length c.args.bytes.now) (sym c.digits_len.ensures) bound

pub returns-clause-front : goal.returns-clause-front
returns-clause-front c =
    let bytes = c.args.bytes.now in
    let front = c.split_at.ensures.front ∙ ap (λ n. take n bytes) c.digits_len.ensures in
    ap (list_all is_ascii_digit) front ∙ front_passes is_ascii_digit bytes

pub returns-clause-longest : goal.returns-clause-longest
returns-clause-longest c =
    let bytes = c.args.bytes.now in
    let rest = c.split_at.ensures.back ∙ ap (λ n. drop n bytes) c.digits_len.ensures in
    subst (StartsOutside is_ascii_digit) (sym rest) (rest_starts_outside is_ascii_digit bytes)
