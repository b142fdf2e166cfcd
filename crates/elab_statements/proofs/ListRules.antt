-- How a list of views grows and is cut with its list.
use Rattle.std.proofs.lemmas.List.{map-append, take-map}

pub ruleset list_rules = (map-append, take-map)
