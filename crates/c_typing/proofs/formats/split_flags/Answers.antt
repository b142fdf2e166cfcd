use Rattle.std.proofs.Common.{◌≡◌, ◌≤◌, ◌∙◌, sym, ap, subst, take, drop, length}
use Rattle.std.proofs.lemmas.List.Sums.{prefix_len-le-length}
use Rattle.std.specs.List.{take_while}
use Rattle.c_print.specs.Item.{is_flag}
use Rattle.c_typing.proofs.FormatLemmas.{length_taken}
use Rattle.c_typing.proofs.formats.split_flags.Goals as goal

pub split_at-requires : goal.split_at-requires
split_at-requires c = let bound = prefix_len-le-length is_flag c.args.bytes.now in subst (λ n. n ≤ length c.args.bytes.now) (sym c.flags_len.ensures) bound

pub returns-clause-flags : goal.returns-clause-flags
returns-clause-flags c = c.split_at.ensures.front ∙ ap (λ n. take n c.args.bytes.now) c.flags_len.ensures

pub returns-clause-rest : goal.returns-clause-rest
returns-clause-rest c =
    c.split_at.ensures.back ∙ ap (λ n. drop n c.args.bytes.now) (c.flags_len.ensures ∙ sym (length_taken is_flag c.args.bytes.now))
