-- One statement after another: an `if`, a loop, and the step that adds a statement.
use Rattle.std.proofs.Common.{◌≡◌, ◌∙◌, refl, ap, ℕ, ◌+◌, ◌<◌, Bool, true, false, List, [], ◌∷◌, ◌++◌, length, Option, arith, length-append}
use Rattle.std.specs.List.{list_all}
use Rattle.wf_text.specs.declared.place.Place.{Place}
use Rattle.wf_ast.specs.declared.parsed.Arm as parsed
use Rattle.wf_ast.specs.declared.parsed.Block as parsed_block
use Rattle.wf_ast.specs.declared.typed_code.Arm.{Arm}
use Rattle.wf_ast.specs.declared.typed_code.Block as typed_code
use Rattle.wf_ast.specs.declared.typed_code.Stmt.TheVariants as stmts
use Rattle.wf_ast.specs.declared.typed_code.StmtNode.{StmtNode}
use Rattle.wf_ast.specs.declared.typed_nodes.TypedNodes.{TypedNodes}
use Rattle.wf_ast.specs.TypedTree.{Block, Site}
use Rattle.wf_ast.specs.TypedTrees.{tree_of, stmt_makers, onto}
use Rattle.wf_ast.specs.TypedInvariant.{optional_block_below}
use Rattle.wf_named.specs.NamedTree.{NamedExprTree, NamedStmtTree, NamedArmTrees, no_else, branch}
use Rattle.wf_named.specs.NamedTrees.{arms_at, else_at}
use Rattle.wf_named.specs.Grammar.{has_condition}
use Rattle.wf_types_rules.specs.declared.settings.Setting.{Setting}
use Rattle.wf_typed_tree.specs.ElaboratedStmts.{count_arms, site, arms_tree}
use Rattle.wf_typed_tree.proofs.NumberLemmas.{and-true}
use Rattle.wf_typed_stmts.specs.Blocks.{arm_exists, StandForArms, else_made, StandsForElse}
use Rattle.wf_typed_stmts.specs.Right.{Known, AreRightArms}
use Rattle.wf_typed_stmts.specs.StmtGrowth.{jump_below, jumps_below, loops_below, GrowsStmts, Adds, AddsParts, MakesStmt}
use Rattle.wf_typed_stmts.proofs.GrowthLemmas.{stmts_more}
use Rattle.wf_typed_stmts.proofs.ListLemmas.{all_push}
use Rattle.wf_typed_stmts.proofs.BlockLemmas.{arms_kept, arms_exist, arms_same, if_onto, has_arm}

-- A statement that makes what is meant is added, and stands for it.
pub added : (loops : List ℕ) (p q r : TypedNodes) (node : StmtNode) → ((limit : ℕ) → loops_below limit loops ≡ true → jump_below limit node.stmt ≡ true) → AddsParts loops p q → GrowsStmts q r
    → r.stmts ≡ q.stmts ++ node ∷ [] → Adds loops p r
added loops p q r node low g h is = record {
  grows = stmts_more p q r g.grows h;
  jumps =
      λ limit a b c.
      let long : length r.stmts ≡ length q.stmts + 1 = ap (λ (ns : List StmtNode). length ns) is ∙ length-append q.stmts (node ∷ []) in
      let front = g.jumps limit a (omega (arith, long, b)) c in
      ap (jumps_below limit) is ∙ all_push (λ (n : StmtNode). jump_below limit n.stmt) q.stmts node front (low limit a);
}

-- An `if`.
module _ (s : Setting) (k : Known) (n : ℕ) (es : List NamedExprTree) (ts : List NamedStmtTree) where
  pub right_arms : (arms : List parsed.Arm) (last : NamedArmTrees) → AreRightArms s k n (arms_at es ts arms last) → AreRightArms s k n (arms_at es ts arms no_else) × AreRightArms s k n last
  right_arms [] last h = (tt, h)
  right_arms (a ∷ arms) last h = let r = right_arms arms last h.1.1 in ((h.0, (h.1.0, r.0)), r.1)

pub if_made_so : (s : Setting) (loops : List ℕ) (p q r : TypedNodes) (es : List NamedExprTree) (ts : List NamedStmtTree) (arms : List parsed.Arm) (other : Option parsed_block.Block) (at : Place)
    (made : List Arm) (otherwise : Option typed_code.Block)
    → has_condition (arms_at es ts arms (else_at ts other)) ≡ true → StandForArms s loops (length p.stmts) es ts arms q made → GrowsStmts q r
    → StandsForElse s loops (length q.stmts) (else_at ts other) r otherwise
    → MakesStmt s loops (length p.stmts) (branch (arms_at es ts arms (else_at ts other)) at) r (record { stmt = stmts.If made otherwise; at = at; inner = at })
if_made_so s loops p q r es ts arms other at made otherwise some a g o =
    let last = else_at ts other in
    let whole = arms_at es ts arms last in
    let counted = a.count last in
    let number : length r.stmts ≡ length p.stmts + count_arms whole = omega (arith, counted, o.count) in
    let R = onto (stmt_makers r) in
    let Q = onto (stmt_makers q) in
    let first : 0 < length made = omega (arith, a.some, has_arm es ts arms other some) in
    record {
      below = and-true (list_all (arm_exists r) made) (optional_block_below (length r.stmts) otherwise) (arms_exist q r g made a.below) o.below;
      jumps = λ limit b. refl;
      count = omega (arith, number);
      makes =
          λ rest.
          let of : Site = site (length r.stmts) at in
          let E : Bool → Block → Block = λ b m. else_made R otherwise in
          let F : Bool → Block → Block = λ b m. arms_tree s loops (length q.stmts) of b last m in
          if_onto (tree_of r) R of made otherwise rest first
          ∙ arms_same (tree_of r) R of E F (λ b m. o.makes of b m) false made rest
          ∙ arms_kept q r g of F false made rest a.below
          ∙ a.makes of false last rest
          ∙ ap (λ x. arms_tree s loops (length p.stmts) (site x at) false whole rest) number;
    }
