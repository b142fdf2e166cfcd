use Rattle.std.proofs.Common.{◌∙◌}
use Rattle.c_typing.proofs.SpecTypes.{word_type_is}
use Rattle.c_typing.proofs.words.word_type.Goals as goal

pub returns : goal.returns
returns c =
    c.of.ensures ∙ c.ty.ensures
    ∙ word_type_is c.args.words.now _ c.has_void.ensures c.has_char.ensures c.has_short.ensures c.has_signed.ensures c.has_unsigned.ensures c.longs.ensures
