-- Where a parsed statement stands, there stands the resolved one. The declaration of a local makes none.
use Rattle.std.proofs.Common.{List, [], ◌∷◌, ◌++◌, Option, None, Some, IfSome}
use Rattle.std.specs.List.{AllByRecursion}
use Rattle.wf_text.specs.declared.place.Place.{Place}
use Rattle.wf_ast.specs.declared.parsed.Name.{Name}
use Rattle.wf_ast.specs.ParsedTree as parsed
use Rattle.wf_ast.specs.ParsedTree.{TargetTree, ClauseTrees, ViaTree, StmtTree, BlockTree, ArmTrees}
use Rattle.wf_named.specs.NamedTree.{NamedStmtTree, NamedBlockTree}
use Rattle.wf_names_resolve.specs.Standing.{Standing}
use Rattle.wf_names_resolve.specs.Resolved.{NamedGiven, letters_of, resolved_given, resolved_target, resolved_clauses, resolved_via, with_stmt, resolved_stmt, resolved_block, resolved_arms}
use Rattle.wf_read_laws.specs.Places as written
use Rattle.wf_read_laws.specs.NamedPlaces.{TargetIsIn, ClausesAreIn, LettersAreIn, ViaIsIn, StmtIsIn, BlockIsIn, ArmsAreIn}
use Rattle.wf_read_laws.proofs.ExprsResolved.{GivenIsIn, expr-in, part-in, given-in, call-in}

module _ (In : Place → Type 0) (k : Standing) where
  target-in : (t : TargetTree) → written.TargetIsIn In t → TargetIsIn In (resolved_target k t)
  target-in (parsed.to_path path) h = h.1
  target-in (parsed.to_element base place at) h = (h.0.1, expr-in In k place h.1, h.2)

  clauses-in : (cs : ClauseTrees) → written.ClausesAreIn In cs → ClausesAreIn In (resolved_clauses k cs)
  clauses-in parsed.no_clause h = tt
  clauses-in (parsed.more_clauses kind condition at others) h = (expr-in In k condition h.0, h.1, clauses-in others h.2)

  letters-in : (gs : List NamedGiven) → AllByRecursion (GivenIsIn In) gs → LettersAreIn In (letters_of k gs)
  letters-in [] a = tt
  letters-in (g ∷ gs) a = (a.0.0, a.0.1, letters-in gs a.1)

  via-in : (v : ViaTree) → written.ViaIsIn In v → ViaIsIn In (resolved_via k v)
  via-in parsed.by_itself h = tt
  via-in (parsed.via axiom_name given) h = (h.0, letters-in (resolved_given k given) (given-in In k given h.1))

  with-stmt-in : (found : Option NamedStmtTree) (others : NamedBlockTree) → IfSome found (StmtIsIn In) → BlockIsIn In others → BlockIsIn In (with_stmt found others)
  with-stmt-in None others h b = b
  with-stmt-in (Some st) others h b = (h, b)

  mutual
    stmt-in : (loops : List (Option Name)) (st : StmtTree) → written.StmtIsIn In st → IfSome (resolved_stmt k loops st) (StmtIsIn In)
    stmt-in loops (parsed.var name of at) h = tt
    stmt-in loops (parsed.assign target op sign value at) h = (target-in target h.0, h.1, expr-in In k value h.2, h.3)
    stmt-in loops (parsed.keep target c at) h = (target-in target h.0, call-in In k c h.1, h.2)
    stmt-in loops (parsed.do_call c at) h = (call-in In k c h.0, h.1)
    stmt-in loops (parsed.branch arms at) h = (arms-in loops arms h.0, h.1)
    stmt-in loops (parsed.loop label condition clauses body at) h =
        (expr-in In k condition h.1, clauses-in clauses h.2, block-in (loops ++ label ∷ []) body h.3, h.4)
    stmt-in loops (parsed.leave label at) h = h.1
    stmt-in loops (parsed.again label at) h = h.1
    stmt-in loops (parsed.back value at) h = (part-in In k value h.0, h.1)
    stmt-in loops (parsed.suspend value at) h = (expr-in In k value h.0, h.1)
    stmt-in loops (parsed.claim goal by at) h = (expr-in In k goal h.0, via-in by h.1, h.2)

    pub block-in : (loops : List (Option Name)) (b : BlockTree) → written.BlockIsIn In b → BlockIsIn In (resolved_block k loops b)
    block-in loops (parsed.close at) h = h
    block-in loops (parsed.more_stmts first others) h =
        with-stmt-in (resolved_stmt k loops first) (resolved_block k loops others) (stmt-in loops first h.0) (block-in loops others h.1)

    arms-in : (loops : List (Option Name)) (arms : ArmTrees) → written.ArmsAreIn In arms → ArmsAreIn In (resolved_arms k loops arms)
    arms-in loops parsed.no_else h = tt
    arms-in loops (parsed.otherwise body) h = block-in loops body h
    arms-in loops (parsed.arm condition body others) h = (expr-in In k condition h.0, block-in loops body h.1, arms-in loops others h.2)
