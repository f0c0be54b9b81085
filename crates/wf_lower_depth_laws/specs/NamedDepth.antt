-- How many brackets the parts of a resolved package open inside one another, as WrittenDepth counts them in its parsed tree.
use Rattle.std.specs.Prelude.{◌-◌, ℕ, Bool, true, ◌&&◌, nat_le}
use Rattle.std.specs.List.{list_all}
use Rattle.wf_named.specs.NamedTree.{NamedExprTree, index, slice, answer, chain, convert, negation, NamedPartTree, absent, present, NamedLinkTrees, no_link, link, NamedArgTrees, no_arg, more_args, NamedCallTree, call}
use Rattle.wf_named.specs.NamedTree.{NamedTargetTree, to_path, to_element, NamedStmtTree, assign, keep, do_call, branch, loop, back, NamedBlockTree, close, more_stmts, NamedArmTrees, no_else, otherwise, arm, NamedPackageTree}
use Rattle.wf_lower_depth_laws.specs.WrittenDepth.{Spot, alone, beside_sign, behind_not, boxes_sign, boxes_not, may_open, room_in}

abbrev mutual
  pub expr_opens : Spot → (r : ℕ) → NamedExprTree → Bool
  expr_opens spot r (index p i at) = nat_le 1 r && expr_opens alone (r - 1) i
  expr_opens spot r (slice p from to at) = nat_le 1 r && (part_opens (r - 1) from && part_opens (r - 1) to)
  expr_opens spot r (answer (call callee at mark args)) = nat_le 1 r && args_open (r - 1) args
  expr_opens spot r (chain op first links at) =
      may_open (boxes_sign spot) r && (expr_opens beside_sign (room_in (boxes_sign spot) r) first && links_open (room_in (boxes_sign spot) r) links)
  expr_opens spot r (convert e t at) = may_open (boxes_sign spot) r && expr_opens beside_sign (room_in (boxes_sign spot) r) e
  expr_opens spot r (negation e at) = may_open (boxes_not spot) r && expr_opens behind_not (room_in (boxes_not spot) r) e
  expr_opens spot r e = true

  pub part_opens : (r : ℕ) → NamedPartTree → Bool
  part_opens r absent = true
  part_opens r (present e) = expr_opens alone r e

  pub links_open : (r : ℕ) → NamedLinkTrees → Bool
  links_open r no_link = true
  links_open r (link sign e others) = expr_opens beside_sign r e && links_open r others

  pub args_open : (r : ℕ) → NamedArgTrees → Bool
  args_open r no_arg = true
  args_open r (more_args e others) = expr_opens alone r e && args_open r others

abbrev pub call_opens : (r : ℕ) → NamedCallTree → Bool
call_opens r (call callee at mark args) = nat_le 1 r && args_open (r - 1) args

abbrev pub target_opens : (r : ℕ) → NamedTargetTree → Bool
target_opens r (to_path p) = true
target_opens r (to_element p i at) = nat_le 1 r && expr_opens alone (r - 1) i

abbrev mutual
  pub stmt_opens : (r : ℕ) → NamedStmtTree → Bool
  stmt_opens r (assign t op sign e at) = target_opens r t && expr_opens alone r e
  stmt_opens r (keep t c at) = target_opens r t && call_opens r c
  stmt_opens r (do_call c at) = call_opens r c
  stmt_opens r (branch arms at) = arms_open r arms
  stmt_opens r (loop e clauses body at) = expr_opens alone r e && (nat_le 1 r && block_opens (r - 1) body)
  stmt_opens r (back e at) = part_opens r e
  stmt_opens r st = true

  pub block_opens : (r : ℕ) → NamedBlockTree → Bool
  block_opens r (close at) = true
  block_opens r (more_stmts first others) = stmt_opens r first && block_opens r others

  pub arms_open : (r : ℕ) → NamedArmTrees → Bool
  arms_open r no_else = true
  arms_open r (otherwise body) = nat_le 1 r && block_opens (r - 1) body
  arms_open r (arm e body others) = expr_opens alone r e && ((nat_le 1 r && block_opens (r - 1) body) && arms_open r others)

-- The bodies of all methods, each in braces.
abbrev pub package_opens : NamedPackageTree → Bool
package_opens p = list_all (λ m. block_opens 47 m.body) p.methods
