-- Where the statements of a resolved body stand: their places in written order, each before those inside it. An
-- `else if` is no statement of its own.
use Rattle.std.specs.Prelude.{Bool, List, [], ◌∷◌, ◌++◌}
use Rattle.std.specs.List.{list_all}
use Rattle.wf_text.specs.declared.place.Place.{Place}
use Rattle.wf_ast.specs.StatementPlaces.{rise}
use Rattle.wf_named.specs.NamedTree as named
use Rattle.wf_named.specs.NamedTree.{NamedStmtTree, NamedBlockTree, NamedArmTrees, NamedPackageTree}

abbrev mutual
  pub named_stmt_places : NamedStmtTree → List Place
  named_stmt_places (named.assign target op sign value at) = at ∷ []
  named_stmt_places (named.keep target c at) = at ∷ []
  named_stmt_places (named.do_call c at) = at ∷ []
  named_stmt_places (named.branch arms at) = at ∷ named_arm_places arms
  named_stmt_places (named.loop condition clauses body at) = at ∷ named_block_places body
  named_stmt_places (named.leave outwards at) = at ∷ []
  named_stmt_places (named.again outwards at) = at ∷ []
  named_stmt_places (named.back value at) = at ∷ []
  named_stmt_places (named.suspend value at) = at ∷ []
  named_stmt_places (named.claim goal by at) = at ∷ []

  pub named_block_places : NamedBlockTree → List Place
  named_block_places (named.close at) = []
  named_block_places (named.more_stmts first others) = named_stmt_places first ++ named_block_places others

  pub named_arm_places : NamedArmTrees → List Place
  named_arm_places named.no_else = []
  named_arm_places (named.otherwise body) = named_block_places body
  named_arm_places (named.arm condition body others) = named_block_places body ++ named_arm_places others

-- The places of the statements of each method rise.
abbrev pub named_bodies_rise : NamedPackageTree → Bool
named_bodies_rise p = list_all (λ m. rise (named_block_places m.body)) p.methods
