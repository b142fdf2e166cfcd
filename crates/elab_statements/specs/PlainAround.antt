-- What stands around a statement, as the definition has it.
use Rattle.elab_statements.specs.declared.around.Around.{Around}
use Rattle.elaboration.specs.Statements as plain

abbrev pub plain_around : Around → plain.Around
plain_around a = record { breaks = a.breaks; continues = a.continues; delays = a.delays; switched = a.switched; labelled = a.labelled }
