-- The typed body of a method has its statements where the resolved one has them.
use Rattle.std.proofs.Common.{◌≡◌, inl, ℕ, ◌+◌, true, false, List, [], ◌∷◌, ◌++◌, refl}
use Rattle.std.specs.List.{list_all}
use Rattle.wf_text.specs.declared.place.Place.{Place}
use Rattle.wf_ast.specs.TypedTree.{Site, Block, end}
use Rattle.wf_ast.specs.StatementOrder.{sites_in, ascend, stand_in_order}
use Rattle.wf_ast.specs.StatementPlaces.{rise}
use Rattle.wf_ast.proofs.BoolLemmas.{both, and-true}
use Rattle.wf_ast.proofs.Rising.{StandAmong, over, in-front, joined, three-joined, none-behind, rises-among, rises-by-test, ascend-passes}
use Rattle.wf_named.specs.NamedTree.{NamedStmtTree, assign, keep, do_call, branch, loop, leave, again, back, suspend, claim, NamedBlockTree, close, more_stmts, NamedArmTrees, no_else, otherwise, arm, NamedMethodTree, NamedPackageTree}
use Rattle.wf_named.specs.NamedStatementPlaces.{named_stmt_places, named_block_places, named_arm_places}
use Rattle.wf_types_rules.specs.declared.settings.Setting.{Setting}
use Rattle.wf_types_rules.specs.DeclaredTypes.{in_method}
use Rattle.wf_typed_tree.specs.ElaboratedStmts.{count_stmt, count_block, count_arms, site, stmt_tree, block_tree, arms_tree}
use Rattle.wf_typed_tree.specs.ElaboratedPackage.{typed_methods, typed_package}
use Rattle.wf_typed_tree.specs.TypedOrder.{TypedBodiesKeepOrder, TypedPackagesKeepOrder}

-- Sites that stand among places.
abbrev Among : List Site → List Place → Type 0
Among sites places = StandAmong (λ (s : Site). s.at) (λ (p : Place). p) sites places

module _ (s : Setting) where
  mutual
    stmt-among : (loops : List ℕ) (n : ℕ) (st : NamedStmtTree) (rest : Block) (ps : List Place) → Among (sites_in rest) ps → Among (sites_in (stmt_tree s loops n st rest)) (named_stmt_places st ++ ps)
    stmt-among loops n (assign target op sign value at) rest ps h = inl (refl, h)
    stmt-among loops n (keep target c at) rest ps h = inl (refl, h)
    stmt-among loops n (do_call c at) rest ps h = inl (refl, h)
    stmt-among loops n (branch arms at) rest ps h = arms-among loops n (site (n + count_arms arms) at) arms rest ps h
    stmt-among loops n (loop condition clauses body at) rest ps h =
        let inside : List ℕ = (n + count_block body) ∷ loops in
        inl (refl, joined (λ (t : Site). t.at) (λ (p : Place). p) (sites_in (block_tree s inside n body)) (sites_in rest) (named_block_places body) ps (block-among inside n body) h)
    stmt-among loops n (leave outwards at) rest ps h = inl (refl, h)
    stmt-among loops n (again outwards at) rest ps h = inl (refl, h)
    stmt-among loops n (back value at) rest ps h = inl (refl, h)
    stmt-among loops n (suspend value at) rest ps h = inl (refl, h)
    stmt-among loops n (claim goal by at) rest ps h = inl (refl, h)

    block-among : (loops : List ℕ) (n : ℕ) (body : NamedBlockTree) → Among (sites_in (block_tree s loops n body)) (named_block_places body)
    block-among loops n (close at) = tt
    block-among loops n (more_stmts first others) =
        stmt-among loops n first (block_tree s loops (n + count_stmt first) others) (named_block_places others) (block-among loops (n + count_stmt first) others)

    -- All arms of an `if`, and those that are chained to it.
    arms-among : (loops : List ℕ) (n : ℕ) (of : Site) (arms : NamedArmTrees) (rest : Block) (ps : List Place) → Among (sites_in rest) ps
        → Among (sites_in (arms_tree s loops n of false arms rest)) (of.at ∷ (named_arm_places arms ++ ps))
    arms-among loops n of no_else rest ps h = tt
    arms-among loops n of (otherwise body) rest ps h =
        let sites = sites_in (block_tree s loops n body) in
        over (λ (t : Site). t.at) (λ (p : Place). p) sites of.at (named_block_places body ++ ps)
        (in-front (λ (t : Site). t.at) (λ (p : Place). p) sites (named_block_places body) ps (block-among loops n body))
    arms-among loops n of (arm condition body others) rest ps h =
        let behind = arms_tree s loops (n + count_block body) of true others end in
        inl (
          refl,
          three-joined (λ (t : Site). t.at) (λ (p : Place). p) (sites_in (block_tree s loops n body)) (sites_in behind) (sites_in rest)
              (named_block_places body) (named_arm_places others) ps (block-among loops n body) (others-among loops (n + count_block body) of others) h,
        )

    others-among : (loops : List ℕ) (n : ℕ) (of : Site) (arms : NamedArmTrees) → Among (sites_in (arms_tree s loops n of true arms end)) (named_arm_places arms)
    others-among loops n of no_else = tt
    others-among loops n of (otherwise body) = block-among loops n body
    others-among loops n of (arm condition body others) =
        let behind = arms_tree s loops (n + count_block body) of true others end in
        joined (λ (t : Site). t.at) (λ (p : Place). p) (sites_in (block_tree s loops n body)) (sites_in behind ++ []) (named_block_places body) (named_arm_places others)
        (block-among loops n body)
        (none-behind (λ (t : Site). t.at) (λ (p : Place). p) (sites_in behind) (named_arm_places others) (others-among loops (n + count_block body) of others))

pub bodies_keep_order : TypedBodiesKeepOrder
bodies_keep_order s loops n body h =
    let sites = sites_in (block_tree s loops n body) in
    ascend-passes sites (rises-among (λ (t : Site). t.at) (λ (p : Place). p) sites (named_block_places body) (block-among s loops n body) (rises-by-test (named_block_places body) h))

methods-keep : (p : NamedPackageTree) (n : ℕ) (ms : List NamedMethodTree) → list_all (λ m. rise (named_block_places m.body)) ms ≡ true → list_all (λ m. ascend (sites_in m.body)) (typed_methods p n ms) ≡ true
methods-keep p n [] h = refl
methods-keep p n (m ∷ ms) h =
    let parts = both (rise (named_block_places m.body)) (list_all (λ (o : NamedMethodTree). rise (named_block_places o.body)) ms) h in
    and-true (ascend (sites_in (block_tree (in_method p m) [] n m.body))) _ (bodies_keep_order (in_method p m) [] n m.body parts.0) (methods-keep p (n + count_block m.body) ms parts.1)

pub packages_keep_order : TypedPackagesKeepOrder
unfolding typed_package stand_in_order
packages_keep_order p h = methods-keep p 0 p.methods h
