-- The type of keywords by which of them are there.
use Rattle.std.specs.Prelude.{cond, nat_eq}
use Rattle.c_types.specs.declared.types.IntType.TheVariants as i
use Rattle.c_types.specs.Types.{PlainType, Void, Int}
use Rattle.c_typing.specs.declared.words.Words.{Words}

abbrev pub words_type : Words → PlainType
words_type w =
    cond w.has_void Void (Int
    (cond w.has_char (cond w.has_unsigned i.UChar (cond w.has_signed i.SChar i.Char))
    (cond w.has_short (cond w.has_unsigned i.UShort i.Short)
    (cond (nat_eq w.longs 2) (cond w.has_unsigned i.ULongLong i.LongLong)
    (cond (nat_eq w.longs 1) (cond w.has_unsigned i.ULong i.Long)
    (cond w.has_unsigned i.UInt i.Int))))))
