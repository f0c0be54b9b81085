-- When a resolved body is that of a parsed one: likewise for all statements, and each jump has the number of the loop that it means.
use Rattle.std.specs.Prelude.{ℕ, List, [], ◌∷◌, ◌++◌, Option}
use Rattle.wf_text.specs.declared.place.Place.{Place}
use Rattle.wf_ast.specs.declared.operators.Op.{Op}
use Rattle.wf_ast.specs.declared.parsed.Clause.{Clause}
use Rattle.wf_ast.specs.declared.parsed.Name.{Name}
use Rattle.wf_ast.specs.declared.parsed.Path.{Path}
use Rattle.wf_ast.specs.ParsedTree as parsed
use Rattle.wf_ast.specs.ParsedTree.{ExprTree, PartTree, GivenTrees, CallTree, TypeTree, TargetTree, ClauseTrees, ViaTree, StmtTree, BlockTree, ArmTrees}
use Rattle.wf_named.specs.declared.nodes.NamedPath.{NamedPath}
use Rattle.wf_named.specs.NamedTree as tree
use Rattle.wf_named.specs.NamedTree.{NamedExprTree, NamedPartTree, NamedCallTree, NamedTargetTree, NamedClauseTrees, LetterTrees, NamedViaTree, NamedStmtTree, NamedBlockTree, NamedArmTrees}
use Rattle.wf_names_rules.specs.Declarations.{Declared, text_of}
use Rattle.wf_names_rules.specs.Uses.{Scope}
use Rattle.wf_names_resolve.specs.Resolved.{word_of}
use Rattle.wf_names_scope_laws.specs.Scoping.{PathMeans}
use Rattle.wf_names_scope_laws.specs.Jumping.{JumpMeans}
use Rattle.wf_names_scope_laws.specs.ResolvedExprs.{ResolvesExpr, ResolvesPart, ResolvesCall}

pub data ResolvesTarget (d : Declared) (scope : Scope) : TargetTree → NamedTargetTree → Type 0 where
  a_variable : (path : Path) (p : NamedPath) → PathMeans d scope path p → ResolvesTarget d scope (parsed.to_path path) (tree.to_path p)
  an_element : (base : Path) (p : NamedPath) (place : ExprTree) (e : NamedExprTree) (at : Place) → PathMeans d scope base p → ResolvesExpr d scope place e
      → ResolvesTarget d scope (parsed.to_element base place at) (tree.to_element p e at)

pub data ResolvesClauses (d : Declared) (scope : Scope) : ClauseTrees → NamedClauseTrees → Type 0 where
  no_clauses : ResolvesClauses d scope parsed.no_clause tree.no_clause
  one_clause : (kind : Clause) (condition : ExprTree) (e : NamedExprTree) (at : Place) (others : ClauseTrees) (made : NamedClauseTrees) → ResolvesExpr d scope condition e → ResolvesClauses d scope others made
      → ResolvesClauses d scope (parsed.more_clauses kind condition at others) (tree.more_clauses kind e at made)

-- The name of an axiom and its letters keep their texts.
pub data ResolvesLetters (d : Declared) (scope : Scope) : GivenTrees → LetterTrees → Type 0 where
  no_letters : ResolvesLetters d scope parsed.no_given tree.no_letter
  one_letter : (name : Name) (value : ExprTree) (e : NamedExprTree) (others : GivenTrees) (made : LetterTrees) → ResolvesExpr d scope value e → ResolvesLetters d scope others made
      → ResolvesLetters d scope (parsed.more_given name value others) (tree.more_letters (word_of (text_of d) name) e made)

pub data ResolvesVia (d : Declared) (scope : Scope) : ViaTree → NamedViaTree → Type 0 where
  no_axiom : ResolvesVia d scope parsed.by_itself tree.by_itself
  an_axiom : (name : Name) (given : GivenTrees) (letters : LetterTrees) → ResolvesLetters d scope given letters → ResolvesVia d scope (parsed.via name given) (tree.via (word_of (text_of d) name) letters)

-- `loops` are the labels of the loops round a statement, the outermost first.
mutual
  pub data ResolvesStmt (d : Declared) (scope : Scope) : (loops : List (Option Name)) → StmtTree → NamedStmtTree → Type 0 where
    an_assignment : (loops : List (Option Name)) (target : TargetTree) (t : NamedTargetTree) (op : Option Op) (sign : Place) (value : ExprTree) (e : NamedExprTree) (at : Place)
        → ResolvesTarget d scope target t → ResolvesExpr d scope value e → ResolvesStmt d scope loops (parsed.assign target op sign value at) (tree.assign t op sign e at)
    a_kept_answer : (loops : List (Option Name)) (target : TargetTree) (t : NamedTargetTree) (c : CallTree) (made : NamedCallTree) (at : Place) → ResolvesTarget d scope target t → ResolvesCall d scope c made
        → ResolvesStmt d scope loops (parsed.keep target c at) (tree.keep t made at)
    a_called_method : (loops : List (Option Name)) (c : CallTree) (made : NamedCallTree) (at : Place) → ResolvesCall d scope c made → ResolvesStmt d scope loops (parsed.do_call c at) (tree.do_call made at)
    a_branch : (loops : List (Option Name)) (arms : ArmTrees) (made : NamedArmTrees) (at : Place) → ResolvesArms d scope loops arms made → ResolvesStmt d scope loops (parsed.branch arms at) (tree.branch made at)
    a_loop : (loops : List (Option Name)) (label : Option Name) (condition : ExprTree) (e : NamedExprTree) (clauses : ClauseTrees) (promises : NamedClauseTrees) (body : BlockTree) (made : NamedBlockTree) (at : Place)
        → ResolvesExpr d scope condition e → ResolvesClauses d scope clauses promises → ResolvesBlock d scope (loops ++ label ∷ []) body made
        → ResolvesStmt d scope loops (parsed.loop label condition clauses body at) (tree.loop e promises made at)
    a_break : (loops : List (Option Name)) (label : Option Name) (outwards : ℕ) (at : Place) → JumpMeans loops label outwards → ResolvesStmt d scope loops (parsed.leave label at) (tree.leave outwards at)
    a_continue : (loops : List (Option Name)) (label : Option Name) (outwards : ℕ) (at : Place) → JumpMeans loops label outwards → ResolvesStmt d scope loops (parsed.again label at) (tree.again outwards at)
    a_return : (loops : List (Option Name)) (value : PartTree) (e : NamedPartTree) (at : Place) → ResolvesPart d scope value e → ResolvesStmt d scope loops (parsed.back value at) (tree.back e at)
    a_yield : (loops : List (Option Name)) (value : ExprTree) (e : NamedExprTree) (at : Place) → ResolvesExpr d scope value e → ResolvesStmt d scope loops (parsed.suspend value at) (tree.suspend e at)
    an_assertion : (loops : List (Option Name)) (goal : ExprTree) (e : NamedExprTree) (by : ViaTree) (v : NamedViaTree) (at : Place) → ResolvesExpr d scope goal e → ResolvesVia d scope by v
        → ResolvesStmt d scope loops (parsed.claim goal by at) (tree.claim e v at)

  -- the declaration of a local is no statement of the resolved block
  pub data ResolvesBlock (d : Declared) (scope : Scope) : (loops : List (Option Name)) → BlockTree → NamedBlockTree → Type 0 where
    an_end : (loops : List (Option Name)) (at : Place) → ResolvesBlock d scope loops (parsed.close at) (tree.close at)
    a_local : (loops : List (Option Name)) (name : Name) (of : TypeTree) (at : Place) (others : BlockTree) (made : NamedBlockTree) → ResolvesBlock d scope loops others made
        → ResolvesBlock d scope loops (parsed.more_stmts (parsed.var name of at) others) made
    a_stmt : (loops : List (Option Name)) (first : StmtTree) (s : NamedStmtTree) (others : BlockTree) (made : NamedBlockTree) → ResolvesStmt d scope loops first s → ResolvesBlock d scope loops others made
        → ResolvesBlock d scope loops (parsed.more_stmts first others) (tree.more_stmts s made)

  pub data ResolvesArms (d : Declared) (scope : Scope) : (loops : List (Option Name)) → ArmTrees → NamedArmTrees → Type 0 where
    no_arms : (loops : List (Option Name)) → ResolvesArms d scope loops parsed.no_else tree.no_else
    an_else : (loops : List (Option Name)) (body : BlockTree) (made : NamedBlockTree) → ResolvesBlock d scope loops body made → ResolvesArms d scope loops (parsed.otherwise body) (tree.otherwise made)
    an_arm : (loops : List (Option Name)) (condition : ExprTree) (e : NamedExprTree) (body : BlockTree) (b : NamedBlockTree) (others : ArmTrees) (made : NamedArmTrees) → ResolvesExpr d scope condition e
        → ResolvesBlock d scope loops body b → ResolvesArms d scope loops others made → ResolvesArms d scope loops (parsed.arm condition body others) (tree.arm e b made)
