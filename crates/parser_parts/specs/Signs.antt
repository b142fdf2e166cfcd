-- The operators of the code as forms.
use Rattle.std.specs.Prelude.{Option, Some, None}
use Rattle.c_tree.specs.Forms.{Form}
use Rattle.c_tree.specs.Forms as f
use Rattle.parser_parts.specs.declared.operators.Prefix.{Prefix}
use Rattle.parser_parts.specs.declared.operators.Prefix.TheVariants as before
use Rattle.parser_parts.specs.declared.operators.Postfix.{Postfix}
use Rattle.parser_parts.specs.declared.operators.Postfix.TheVariants as behind

abbrev pub prefix_form : Prefix → Form
prefix_form before.Inc = f.PreInc
prefix_form before.Dec = f.PreDec
prefix_form (before.Op op) = f.Unary op

abbrev pub prefix_forms : Option Prefix → Option Form
prefix_forms None = None
prefix_forms (Some prefix) = Some (prefix_form prefix)

abbrev pub postfix_form : Postfix → Form
postfix_form behind.Index = f.Index
postfix_form behind.Call = f.Call
postfix_form behind.Dot = f.Dot
postfix_form behind.Arrow = f.Arrow
postfix_form behind.Inc = f.PostInc
postfix_form behind.Dec = f.PostDec

abbrev pub postfix_forms : Option Postfix → Option Form
postfix_forms None = None
postfix_forms (Some postfix) = Some (postfix_form postfix)
