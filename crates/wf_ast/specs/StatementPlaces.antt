-- Where the statements of a parsed body stand: their places in written order, each before those inside it. An
-- `else if` is no statement of its own.
use Rattle.std.specs.Prelude.{Bool, true, ◌&&◌, List, [], ◌∷◌, ◌++◌}
use Rattle.std.specs.List.{list_all}
use Rattle.wf_text.specs.declared.place.Place.{Place}
use Rattle.wf_ast.specs.ParsedTree as parsed
use Rattle.wf_ast.specs.ParsedTree.{StmtTree, BlockTree, ArmTrees, DeclTree}
use Rattle.wf_ast.specs.StatementOrder.{stands_before}

-- Each place stands before those that follow it.
abbrev pub rise : List Place → Bool
rise [] = true
rise (p ∷ ps) = list_all (stands_before p) ps && rise ps

-- A parsed body. The declaration of a local is a statement here.
abbrev mutual
  pub stmt_places : StmtTree → List Place
  stmt_places (parsed.var name of at) = at ∷ []
  stmt_places (parsed.assign target op sign value at) = at ∷ []
  stmt_places (parsed.keep target c at) = at ∷ []
  stmt_places (parsed.do_call c at) = at ∷ []
  stmt_places (parsed.branch arms at) = at ∷ arm_places arms
  stmt_places (parsed.loop label condition clauses body at) = at ∷ block_places body
  stmt_places (parsed.leave label at) = at ∷ []
  stmt_places (parsed.again label at) = at ∷ []
  stmt_places (parsed.back value at) = at ∷ []
  stmt_places (parsed.suspend value at) = at ∷ []
  stmt_places (parsed.claim goal by at) = at ∷ []

  pub block_places : BlockTree → List Place
  block_places (parsed.close at) = []
  block_places (parsed.more_stmts first others) = stmt_places first ++ block_places others

  pub arm_places : ArmTrees → List Place
  arm_places parsed.no_else = []
  arm_places (parsed.otherwise body) = block_places body
  arm_places (parsed.arm condition body others) = block_places body ++ arm_places others

-- The places of the statements of each method rise.
abbrev pub body_rises : DeclTree → Bool
body_rises (parsed.method public owner name mark args result body at) = rise (block_places body)
body_rises _ = true

abbrev pub bodies_rise : List DeclTree → Bool
bodies_rise decls = list_all body_rises decls
