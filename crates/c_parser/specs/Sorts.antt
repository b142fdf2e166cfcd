-- The sorts of declarators of the code as places.
use Rattle.c_tree.specs.Places.{Place}
use Rattle.c_tree.specs.Places as p
use Rattle.c_parser.specs.declared.kind.NameSort.{NameSort}
use Rattle.c_parser.specs.declared.kind.NameSort.TheVariants as sorts

abbrev pub sort_place : NameSort → Place
sort_place sorts.Named = p.Declarator
sort_place sorts.Abstract = p.Abstract
sort_place sorts.Either = p.AnyDeclarator
