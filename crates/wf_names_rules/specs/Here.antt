-- What names stand for at a place.
use Rattle.wf_names_rules.specs.declared.here.Here.{Here}
use Rattle.wf_names_rules.specs.Meanings.{Known}
use Rattle.wf_names_rules.specs.Tables.{known_by}

-- What is known at a place by the tables there.
abbrev pub known_here : Here → Known
known_here here = known_by here.parsed.now.texts here.tables.now here.scope.now
