-- Which nodes stand for the parts of statements, and what statements without blocks make.
use Rattle.std.specs.Prelude.{◌≡◌, ◌&&◌, ℕ, Bool, true, List, length, map, Option, None, option_map, nat_lt}
use Rattle.std.specs.List.{list_all}
use Rattle.wf_text.specs.declared.place.Place.{Place}
use Rattle.wf_base.specs.declared.marks.Mark.{Mark}
use Rattle.wf_ast.specs.declared.numbers.ExprId.{ExprId}
use Rattle.wf_ast.specs.declared.numbers.TextId.{TextId}
use Rattle.wf_ast.specs.declared.parsed.Clause.{Clause}
use Rattle.wf_ast.specs.declared.typed_code.AxiomRef.{AxiomRef}
use Rattle.wf_ast.specs.declared.typed_code.Callee.{Callee}
use Rattle.wf_ast.specs.declared.typed_code.LoopHead.{LoopHead}
use Rattle.wf_ast.specs.declared.typed_code.StmtNode.{StmtNode}
use Rattle.wf_ast.specs.declared.typed_nodes.TypedNodes.{TypedNodes}
use Rattle.wf_ast.specs.TypedTree as typed
use Rattle.wf_ast.specs.TypedTree.{NumTree, CondTree, ValueTree, Target, Simple, invoke, own, sub, Block, plain}
use Rattle.wf_ast.specs.TypedTrees.{num_in, cond_in, tree_of, base_call, call_made, text_of, axiom_made, head_made, stmt_made, stmt_makers, onto}
use Rattle.wf_ast.specs.TypedInvariant.{is_expr, is_optional_expr, callee_exists, axiom_exists}
use Rattle.wf_named.specs.declared.nodes.NamedCallee.{NamedCallee}
use Rattle.wf_named.specs.declared.nodes.NamedCallee.TheVariants as callees
use Rattle.wf_named.specs.NamedTree.{NamedExprTree, answer, NamedPartTree, NamedArgTrees, NamedTargetTree, NamedClauseTrees, LetterTrees, NamedViaTree, NamedBlockTree}
use Rattle.wf_types_rules.specs.declared.settings.Setting.{Setting}
use Rattle.wf_types_rules.specs.Judgements.{target_meaning}
use Rattle.wf_typed_tree.specs.ElaboratedExprs.{path_tree, expr_tree, arg_trees}
use Rattle.wf_typed_tree.specs.ElaboratedStmts.{written_to, assigned_call, returned_tree, letter_trees, axiom_tree, site, clause_trees, head_tree}
use Rattle.wf_typed_exprs.specs.Nodes.{Stands}
use Rattle.wf_typed_stmts.specs.StmtGrowth.{stmt_there, jump_below}

-- The node has an expression's tree.
pub record HasTree (tree : ValueTree) (nodes : TypedNodes) (e : ExprId) : Type 0 where
  pub there : is_expr nodes e ≡ true
  pub is : tree_of nodes e ≡ tree

-- The node stands for what is written to.
abbrev pub StandsForTarget : Setting → NamedTargetTree → TypedNodes → ExprId → Type 0
StandsForTarget s t nodes e = Stands (written_to s t) (target_meaning s t) nodes e

-- The nodes of arguments, in order.
pub record StandForArgs (s : Setting) (args : NamedArgTrees) (nodes : TypedNodes) (es : List ExprId) : Type 0 where
  pub there : list_all (is_expr nodes) es ≡ true
  pub trees : map (tree_of nodes) es ≡ arg_trees s args

-- A call of a callee with arguments of these trees.
abbrev pub call_meant : Setting → Target → (kept : Bool) → NamedCallee → Place → Mark → List ValueTree → Simple
call_meant s target kept (callees.Own m) at mark args = invoke at target kept mark (own m.0) args
call_meant s target kept (callees.Sub x m) at mark args = invoke at target kept mark (sub x.0 m.0) args
call_meant s target kept (callees.Base on sig) at mark args = base_call at target (path_tree s on) sig args

pub record StandsForCallee (s : Setting) (callee : NamedCallee) (mark : Mark) (nodes : TypedNodes) (c : Callee) : Type 0 where
  pub there : callee_exists nodes c ≡ true
  pub calls : (at : Place) (target : Target) (kept : Bool) (args : List ValueTree) → call_made nodes (tree_of nodes) at target kept c args ≡ call_meant s target kept callee at mark args

-- What `=` assigns: what a whole call gives, or the value of any other expression.
abbrev pub value_assigned : Setting → Target → NamedExprTree → Simple
value_assigned s target (answer c) = assigned_call s target c
value_assigned s target e = typed.assign target None (expr_tree s e)

-- An expression that may be absent.
pub record StandsForPart (s : Setting) (part : NamedPartTree) (nodes : TypedNodes) (e : Option ExprId) : Type 0 where
  pub there : is_optional_expr nodes e ≡ true
  pub tree : option_map (tree_of nodes) e ≡ returned_tree s part

-- The promises of a loop, and what is given for the letters of an axiom.
abbrev pub conditions_made : (ExprId → ValueTree) → List (Clause × ExprId) → List (Clause × CondTree)
conditions_made look cs = map (λ c. (c.0, cond_in (look c.1))) cs

pub record StandForClauses (s : Setting) (clauses : NamedClauseTrees) (nodes : TypedNodes) (cs : List (Clause × ExprId)) : Type 0 where
  pub there : list_all (λ c. is_expr nodes c.1) cs ≡ true
  pub trees : conditions_made (tree_of nodes) cs ≡ clause_trees s clauses

abbrev pub letter_exists : TypedNodes → TextId × ExprId → Bool
letter_exists nodes g = nat_lt g.0.0 (length nodes.texts) && is_expr nodes g.1

abbrev pub letters_made : TypedNodes → (ExprId → ValueTree) → List (TextId × ExprId) → List (List ℕ × NumTree)
letters_made nodes look gs = map (λ g. (text_of nodes g.0, num_in (look g.1))) gs

pub record StandForLetters (s : Setting) (letters : LetterTrees) (nodes : TypedNodes) (gs : List (TextId × ExprId)) : Type 0 where
  pub there : list_all (letter_exists nodes) gs ≡ true
  pub trees : letters_made nodes (tree_of nodes) gs ≡ letter_trees s letters

pub record StandsForVia (s : Setting) (by : NamedViaTree) (nodes : TypedNodes) (a : Option AxiomRef) : Type 0 where
  pub there : axiom_exists nodes a ≡ true
  pub means : axiom_made nodes (tree_of nodes) a ≡ axiom_tree s by

-- What stands before a loop's body.
pub record StandsForHead (s : Setting) (e : NamedExprTree) (clauses : NamedClauseTrees) (body : NamedBlockTree) (close : Place) (nodes : TypedNodes) (head : LoopHead) : Type 0 where
  pub there : is_expr nodes head.cond ≡ true
  pub clauses_there : list_all (λ c. is_expr nodes c.1) head.clauses ≡ true
  pub means : head_made (tree_of nodes) close head ≡ head_tree s e clauses body

-- A statement without blocks that may be added, and is this one.
pub record MakesSimple (t : Simple) (at : Place) (nodes : TypedNodes) (node : StmtNode) : Type 0 where
  pub below : stmt_there nodes (length nodes.stmts) node.stmt ≡ true
  pub stays : (limit : ℕ) → jump_below limit node.stmt ≡ true
  pub makes : (rest : Block) → stmt_made nodes (tree_of nodes) (onto (stmt_makers nodes)) (length nodes.stmts) node rest ≡ plain (site (length nodes.stmts) at) t rest
