use Rattle.std.proofs.Common.{◌≡◌, ◌≤◌, ◌∙◌, sym, ap, subst, take, drop, length}
use Rattle.std.proofs.lemmas.List.Sums.{prefix_len-le-length}
use Rattle.std.specs.List.{take_while}
use Rattle.std.specs.Char.{is_ascii_digit}
use Rattle.c_typing.proofs.FormatLemmas.{length_taken}
use Rattle.c_typing.proofs.formats.split_digits.Goals as goal

pub split_at-requires : goal.split_at-requires
split_at-requires c = let bound = prefix_len-le-length is_ascii_digit c.args.bytes.now in subst (λ n. n ≤ length c.args.bytes.now) (sym c.digits_len.ensures) bound

pub returns-clause-digits : goal.returns-clause-digits
returns-clause-digits c = c.split_at.ensures.front ∙ ap (λ n. take n c.args.bytes.now) c.digits_len.ensures

pub returns-clause-rest : goal.returns-clause-rest
returns-clause-rest c =
    c.split_at.ensures.back ∙ ap (λ n. drop n c.args.bytes.now) (c.digits_len.ensures ∙ sym (length_taken is_ascii_digit c.args.bytes.now))
