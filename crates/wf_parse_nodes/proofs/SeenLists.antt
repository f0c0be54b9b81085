-- Lists of values as trees.
use Rattle.std.proofs.Common.{◌≡◌, Option, None, Some, List, [], ◌∷◌, ◌++◌, map, refl, ◌∙◌, ap}
use Rattle.wf_text.specs.declared.place.Place.{Place}
use Rattle.wf_ast.specs.declared.numbers.StmtId.{StmtId}
use Rattle.wf_ast.specs.declared.parsed.Arm.{Arm}
use Rattle.wf_ast.specs.declared.parsed.Block.{Block}
use Rattle.wf_ast.specs.declared.parsed.Field.{Field}
use Rattle.wf_ast.specs.declared.parsed.Given.{Given}
use Rattle.wf_ast.specs.declared.parsed.Link.{Link}
use Rattle.wf_ast.specs.declared.parsed.LoopClause.{LoopClause}
use Rattle.wf_ast.specs.declared.parsed.Prefix.{Prefix}
use Rattle.wf_ast.specs.declared.parsed.Prefix.TheVariants as fronts
use Rattle.wf_ast.specs.ParsedTree as tree
use Rattle.wf_ast.specs.ParsedTree.{ExprTree, StmtTree, TypeTree, ArmTrees}
use Rattle.wf_ast.specs.ParsedTrees.{expr_at, links_at, given_at, clauses_at, fields_at, items_at, stmt_at, arms_at, else_at, block_at, all_prefixed, prefixed, type_at}
use Rattle.wf_parse_grammar.specs.Values as val
use Rattle.wf_parse_grammar.specs.Values.{link_trees, given_trees, clause_trees, field_trees, block_tree, else_tree, arm_trees}
use Rattle.wf_parse_nodes.specs.Seen.{seen_link, seen_given, seen_prefix, seen_arm, seen_clause, seen_field, seen_otherwise}

-- One more at the end.
pub added : {X Y : Type 0} (f : X → Y) (xs : List X) (y : X) → map f (xs ++ y ∷ []) ≡ map f xs ++ f y ∷ []
added f [] y = refl
added f (x ∷ xs) y = ap (λ zs. f x ∷ zs) (added f xs y)

pub links_seen : (es : List ExprTree) (ls : List Link) → links_at es ls ≡ link_trees (map (seen_link es) ls)
links_seen es [] = refl
links_seen es (l ∷ ls) = ap (tree.link l.sign (expr_at es l.operand)) (links_seen es ls)

pub given_seen : (es : List ExprTree) (gs : List Given) → given_at es gs ≡ given_trees (map (seen_given es) gs)
given_seen es [] = refl
given_seen es (g ∷ gs) = ap (tree.more_given g.name (expr_at es g.value)) (given_seen es gs)

pub clauses_seen : (es : List ExprTree) (cs : List LoopClause) → clauses_at es cs ≡ clause_trees (map (seen_clause es) cs)
clauses_seen es [] = refl
clauses_seen es (c ∷ cs) = ap (tree.more_clauses c.kind (expr_at es c.condition) c.at) (clauses_seen es cs)

pub fields_seen : (es : List ExprTree) (fs : List Field) → fields_at es fs ≡ field_trees (map (seen_field es) fs)
fields_seen es [] = refl
fields_seen es (f ∷ fs) = ap (tree.more_fields f.name (type_at es f.of)) (fields_seen es fs)

pub items_seen : (ss : List StmtTree) (items : List StmtId) (close : Place) → items_at ss items close ≡ block_tree (map (stmt_at ss) items) close
items_seen ss [] close = refl
items_seen ss (s ∷ items) close = ap (tree.more_stmts (stmt_at ss s)) (items_seen ss items close)

pub otherwise_seen : (ss : List StmtTree) (b : Option Block) → else_at ss b ≡ else_tree (seen_otherwise ss b)
otherwise_seen ss None = refl
otherwise_seen ss (Some b) = refl

pub arms_seen : (es : List ExprTree) (ss : List StmtTree) (arms : List Arm) (x y : ArmTrees) → x ≡ y → arms_at es ss arms x ≡ arm_trees (map (seen_arm es ss) arms) y
arms_seen es ss [] x y e = e
arms_seen es ss (a ∷ arms) x y e = ap (tree.arm (expr_at es a.condition) (block_at ss a.body)) (arms_seen es ss arms x y e)

pub prefix_seen : (es : List ExprTree) (p : Prefix) (t : TypeTree) → prefixed es p t ≡ val.prefixed (seen_prefix es p) t
prefix_seen es (fronts.Slice at) t = refl
prefix_seen es (fronts.Array length at) t = refl

pub type_seen : (es : List ExprTree) (ps : List Prefix) (t u : TypeTree) → t ≡ u → all_prefixed es ps t ≡ val.all_prefixed (map (seen_prefix es) ps) u
type_seen es [] t u e = e
type_seen es (p ∷ ps) t u e = prefix_seen es p (all_prefixed es ps t) ∙ ap (val.prefixed (seen_prefix es p)) (type_seen es ps t u e)
