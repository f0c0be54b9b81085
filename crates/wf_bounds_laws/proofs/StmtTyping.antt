-- The typed trees of statements stand where the statements stand, and so do those of all methods of a package.
use Rattle.std.proofs.Common.{◌<◌, ◌+◌, ℕ, Bool, true, false, if◌then◌else◌, List, [], ◌∷◌, Option, None, Some, arith}
use Rattle.std.specs.List.{AllByRecursion}
use Rattle.wf_text.specs.declared.place.Place.{Place}
use Rattle.wf_base.specs.BaseTable.{row_of}
use Rattle.wf_ast.specs.declared.operators.Op.{Op}
use Rattle.wf_ast.specs.TypedTree.{Target, Simple, Site, Block, end}
use Rattle.wf_ast.specs.TypedTree as typed
use Rattle.wf_ast.specs.TypedTrees.{no_place, operator_kind, cond_in, answer_of}
use Rattle.wf_ast.specs.WellTyped.{is_pure}
use Rattle.wf_named.specs.declared.nodes.NamedCallee.TheVariants as callees
use Rattle.wf_named.specs.NamedTree as tree
use Rattle.wf_named.specs.NamedTree.{NamedExprTree, NamedPartTree, NamedCallTree, NamedTargetTree, NamedClauseTrees, LetterTrees, NamedViaTree, NamedStmtTree, NamedBlockTree, NamedArmTrees, NamedMethodTree, NamedPackageTree}
use Rattle.wf_types_rules.specs.declared.settings.Setting.{Setting}
use Rattle.wf_types_rules.specs.DeclaredTypes.{in_method}
use Rattle.wf_types_rules.specs.Judgements.{closing_brace}
use Rattle.wf_typed_tree.specs.ElaboratedExprs.{path_tree, expr_tree, arg_trees}
use Rattle.wf_typed_tree.specs.ElaboratedStmts.{written_to, target_tree, type_of_update, update_tree, call_tree, assigned_call, assign_tree, returned_tree, letter_trees, axiom_tree, count_stmt, count_block, count_arms, site, clause_trees, head_tree, stmt_tree, block_tree, arms_tree}
use Rattle.wf_typed_tree.specs.ElaboratedPackage.{typed_methods, typed_package}
use Rattle.wf_read_laws.specs.NamedPlaces as from
use Rattle.wf_bounds_laws.specs.BoundsLaws.{IsInFiles, TypingKeepsFiles}
use Rattle.wf_bounds_laws.specs.TypedPlaces.{NumIsIn, CondIsIn, ValueIsIn, TargetIsIn, AxiomIsIn, MayBeIn, SimpleIsIn, HeadIsIn, BlockIsIn}
use Rattle.wf_bounds_laws.proofs.ExprTyping.{number-in, condition-in, path-in, chain-in, answered-in, expr-in, args-in, target-of-in, base-in}

module _ (In : Place → Type 0) (none : In no_place) (s : Setting) where
  written-in : (t : NamedTargetTree) → from.TargetIsIn In t → ValueIsIn In (written_to s t)
  written-in (tree.to_path p) h = path-in In none s p h
  written-in (tree.to_element p i at) h = expr-in In none s (tree.index p i at) h

  target-in : (t : NamedTargetTree) → from.TargetIsIn In t → TargetIsIn In (target_tree s t)
  target-in t h = target-of-in In none (written_to s t) (written-in t h)

  -- Calls, and assignments.
  call-in : (target : Target) (kept : Bool) (c : NamedCallTree) → TargetIsIn In target → from.CallIsIn In c → SimpleIsIn In (call_tree s target kept c)
  call-in target kept (tree.call (callees.Own m) at mark args) k h = (h.1, k, args-in In none s args h.2)
  call-in target kept (tree.call (callees.Sub x m) at mark args) k h = (h.1, k, args-in In none s args h.2)
  call-in target kept (tree.call (callees.Base on sig) at mark args) k h =
      base-in In none at target (path_tree s on) sig (arg_trees s args) h.1 k (path-in In none s on h.0) (args-in In none s args h.2)

  either-in : (b : Bool) (one other : Simple) → SimpleIsIn In one → SimpleIsIn In other → SimpleIsIn In (if b then one else other)
  either-in true one other h k = h
  either-in false one other h k = k

  assigned-in : (target : Target) (c : NamedCallTree) → TargetIsIn In target → from.CallIsIn In c → SimpleIsIn In (assigned_call s target c)
  assigned-in target (tree.call (callees.Own m) at mark args) k h = call-in target false (tree.call (callees.Own m) at mark args) k h
  assigned-in target (tree.call (callees.Sub x m) at mark args) k h = call-in target false (tree.call (callees.Sub x m) at mark args) k h
  assigned-in target (tree.call (callees.Base on sig) at mark args) k h =
      either-in (is_pure (row_of sig).mark) (typed.assign target None (answer_of at sig (path_tree s on))) (call_tree s target false (tree.call (callees.Base on sig) at mark args))
      (k, answered-in In none at sig (path_tree s on) h.1 (path-in In none s on h.0)) (call-in target false (tree.call (callees.Base on sig) at mark args) k h)

  update-in : (t : NamedTargetTree) (op : Op) (sign : Place) (e : NamedExprTree) → from.TargetIsIn In t → In sign → from.ExprIsIn In e → ValueIsIn In (update_tree s t op sign e)
  update-in t op sign e h k i =
      chain-in In none sign (sign ∷ []) (type_of_update s t) (operator_kind op) (written_to s t ∷ (expr_tree s e ∷ [])) k (k, tt) (written-in t h, (expr-in In none s e i, tt))

  assign-in : (t : NamedTargetTree) (op : Option Op) (sign : Place) (e : NamedExprTree) → from.TargetIsIn In t → In sign → from.ExprIsIn In e → SimpleIsIn In (assign_tree s t op sign e)
  assign-in t (Some op) sign e h k i = (target-in t h, update-in t op sign e h k i)
  assign-in t None sign (tree.answer c) h k i = assigned-in (target_tree s t) c (target-in t h) i
  assign-in t None sign (tree.number value at) h k i = (target-in t h, expr-in In none s (tree.number value at) i)
  assign-in t None sign (tree.status n at) h k i = (target-in t h, expr-in In none s (tree.status n at) i)
  assign-in t None sign (tree.truth value at) h k i = (target-in t h, expr-in In none s (tree.truth value at) i)
  assign-in t None sign (tree.path p) h k i = (target-in t h, expr-in In none s (tree.path p) i)
  assign-in t None sign (tree.index p x at) h k i = (target-in t h, expr-in In none s (tree.index p x at) i)
  assign-in t None sign (tree.slice p start stop at) h k i = (target-in t h, expr-in In none s (tree.slice p start stop at) i)
  assign-in t None sign (tree.chain op first links at) h k i = (target-in t h, expr-in In none s (tree.chain op first links at) i)
  assign-in t None sign (tree.convert e of at) h k i = (target-in t h, expr-in In none s (tree.convert e of at) i)
  assign-in t None sign (tree.negation e at) h k i = (target-in t h, expr-in In none s (tree.negation e at) i)

  returned-in : (e : NamedPartTree) → from.EndIsIn In e → MayBeIn (ValueIsIn In) (returned_tree s e)
  returned-in tree.absent h = tt
  returned-in (tree.present e) h = expr-in In none s e h

  -- Assertions.
  letters-in : (letters : LetterTrees) → from.LettersAreIn In letters → AllByRecursion (λ g. NumIsIn In g.1) (letter_trees s letters)
  letters-in tree.no_letter h = tt
  letters-in (tree.more_letters letter e others) h = (number-in In none (expr_tree s e) (expr-in In none s e h.1), letters-in others h.2)

  axiom-in : (by : NamedViaTree) → from.ViaIsIn In by → MayBeIn (AxiomIsIn In) (axiom_tree s by)
  axiom-in tree.by_itself h = tt
  axiom-in (tree.via name given) h = (h.0, letters-in given h.1)

  condition-of-in : (e : NamedExprTree) → from.ExprIsIn In e → CondIsIn In (cond_in (expr_tree s e))
  condition-of-in e h = condition-in In none (expr_tree s e) (expr-in In none s e h)

  -- Loops.
  clauses-in : (cs : NamedClauseTrees) → from.ClausesAreIn In cs → AllByRecursion (λ c. CondIsIn In c.1) (clause_trees s cs)
  clauses-in tree.no_clause h = tt
  clauses-in (tree.more_clauses kind e at others) h = (condition-of-in e h.0, clauses-in others h.2)

  brace-in : (b : NamedBlockTree) → from.BlockIsIn In b → In (closing_brace b)
  brace-in (tree.close at) h = h
  brace-in (tree.more_stmts first others) h = brace-in others h.1

  head-in : (e : NamedExprTree) (cs : NamedClauseTrees) (body : NamedBlockTree) → from.ExprIsIn In e → from.ClausesAreIn In cs → from.BlockIsIn In body → HeadIsIn In (head_tree s e cs body)
  head-in e cs body h k b = (condition-of-in e h, clauses-in cs k, brace-in body b)

  mutual
    stmt-in : (loops : List ℕ) (n : ℕ) (st : NamedStmtTree) (rest : Block) → from.StmtIsIn In st → BlockIsIn In rest → BlockIsIn In (stmt_tree s loops n st rest)
    stmt-in loops n (tree.assign t op sign e at) rest h r = (h.3, assign-in t op sign e h.0 h.1 h.2, r)
    stmt-in loops n (tree.keep t c at) rest h r = (h.2, call-in (target_tree s t) true c (target-in t h.0) h.1, r)
    stmt-in loops n (tree.do_call c at) rest h r = (h.1, call-in typed.to_nothing false c tt h.0, r)
    stmt-in loops n (tree.branch arms at) rest h r = arms-in loops n (site (n + count_arms arms) at) false arms rest h.1 h.0 r
    stmt-in loops n (tree.loop e clauses body at) rest h r = (h.3, head-in e clauses body h.0 h.1 h.2, block-in ((n + count_block body) ∷ loops) n body h.2, r)
    stmt-in loops n (tree.leave outwards at) rest h r = (h, tt, r)
    stmt-in loops n (tree.again outwards at) rest h r = (h, tt, r)
    stmt-in loops n (tree.back e at) rest h r = (h.1, returned-in e h.0, r)
    stmt-in loops n (tree.suspend e at) rest h r = (h.1, tt, r)
    stmt-in loops n (tree.claim e by at) rest h r = (h.2, (condition-of-in e h.0, axiom-in by h.1), r)

    block-in : (loops : List ℕ) (n : ℕ) (b : NamedBlockTree) → from.BlockIsIn In b → BlockIsIn In (block_tree s loops n b)
    block-in loops n (tree.close at) h = tt
    block-in loops n (tree.more_stmts first others) h =
        stmt-in loops n first (block_tree s loops (n + count_stmt first) others) h.0 (block-in loops (n + count_stmt first) others h.1)

    arms-in : (loops : List ℕ) (n : ℕ) (of : Site) (chained : Bool) (arms : NamedArmTrees) (rest : Block) → In of.at → from.ArmsAreIn In arms → BlockIsIn In rest → BlockIsIn In (arms_tree s loops n of chained arms rest)
    arms-in loops n of chained tree.no_else rest o h r = tt
    arms-in loops n of chained (tree.otherwise body) rest o h r = block-in loops n body h
    arms-in loops n of chained (tree.arm e body others) rest o h r =
        (o, condition-of-in e h.0, block-in loops n body h.1, arms-in loops (n + count_block body) of true others end o h.2 tt, r)

  pub body-in : (n : ℕ) (b : NamedBlockTree) → from.BlockIsIn In b → BlockIsIn In (block_tree s [] n b)
  body-in n b h = block-in [] n b h

-- A method stands in a file, so there is one.
methods-in : (count : ℕ) (p : NamedPackageTree) (n : ℕ) (ms : List NamedMethodTree) → AllByRecursion (from.MethodIsIn (IsInFiles count)) ms → AllByRecursion (λ m. BlockIsIn (IsInFiles count) m.body) (typed_methods p n ms)
methods-in count p n [] a = tt
methods-in count p n (m ∷ ms) a =
    let named : m.name.at.file < count = a.0.0 in
    let none : 0 < count = omega (arith, named) in
    (body-in (IsInFiles count) none (in_method p m) n m.body a.0.4, methods-in count p (n + count_block m.body) ms a.1)

pub typing_keeps_files : TypingKeepsFiles
unfolding typed_package
typing_keeps_files count p h = methods-in count p 0 p.methods h.methods
