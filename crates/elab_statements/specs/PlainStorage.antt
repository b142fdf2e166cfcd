-- What a declaration is of, as the definition has it.
use Rattle.elab_statements.specs.declared.words.Storage.{Storage}
use Rattle.elab_statements.specs.declared.words.Storage.TheVariants as s
use Rattle.elaboration.specs.Declarations as plain

abbrev pub plain_storage : Storage → plain.Storage
plain_storage s.Typedef = plain.Typedef
plain_storage s.Outside = plain.Outside
plain_storage s.Plain = plain.Plain
