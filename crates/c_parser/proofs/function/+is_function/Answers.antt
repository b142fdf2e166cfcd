use Rattle.c_parser.proofs.Functions.{named_function}
use Rattle.c_parser.proofs.function.+is_function.Goals as goal

pub returns-in-Name : goal.returns-in-Name
returns-in-Name t c = named_function c.args.declarator.now c.in-Direct.base c.in-Name.field-0 c.in-Direct.suffixes c.deref-in-Name.result.now c.begins_with_params.result c.in-Direct.is c.in-Name.is c.deref-in-Name.ensures.value c.begins_with_params.ensures
