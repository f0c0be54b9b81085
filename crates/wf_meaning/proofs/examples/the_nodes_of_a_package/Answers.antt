use Rattle.std.proofs.Common.{◌≡◌, ℕ, zero, suc, ◌+◌, [], ◌∷◌, Some, refl, subst, arith}
use Rattle.std.specs.Prelude.{slice_get}
use Rattle.wf_ast.specs.TypedTrees.{expr_trees, stmt_makers}
use Rattle.wf_ast.specs.TypedPackage.{package_of, surface_of}
use Rattle.wf_ast.specs.WellTyped.{well_typed}
use Rattle.wf_ast.specs.StatementOrder.{stand_in_order}
use Rattle.wf_ast.specs.declared.declarations.Var.{Var}
use Rattle.wf_ast.specs.TypedInvariant.{IsLocal}
use Rattle.wf_meaning.specs.Examples.{on, byte_ty}
use Rattle.wf_meaning.specs.DemoNodes.{demo_nodes}
use Rattle.wf_meaning.proofs.examples.the_nodes_of_a_package.Goals as goal

-- The local `c`.
abbrev the_local : Var
the_local = record { name = (record { 0 = 5 }); ty = byte_ty; at = on 10 9 }

none_stand : (x : ℕ) (v : Var) → slice_get [] x ≡ Some v → IsLocal demo_nodes (0 + x) x v
none_stand x v e = absurd (cc e)

one_stands : (x : ℕ) (v : Var) → slice_get (the_local ∷ []) x ≡ Some v → IsLocal demo_nodes (45 + x) x v
unfolding expr_trees
one_stands zero v e =
    let same : the_local ≡ v = cc e in
    subst (λ w. IsLocal demo_nodes 45 0 w) same (record { there = omega arith; tree = refl; placed = refl; typed = refl })
one_stands (suc x) v e = absurd (cc e)

pub returns-clause-typed : goal.returns-clause-typed
unfolding package_of expr_trees stmt_makers well_typed stand_in_order
returns-clause-typed c =
    record {
      exprs_ordered = refl;
      stmts_ordered = refl;
      typed = refl;
      counted = refl;
      bodied = refl;
      base_first = refl;
      told = refl;
      few_statuses = omega arith;
      few_exprs = omega arith;
      few_stmts = omega arith;
      few_structs = omega arith;
      few_methods = omega arith;
      bodies_made = refl;
      kinds = refl;
      rules = refl;
      placed = refl;
      few_variables = refl;
      locals_stand = (record { each = none_stand }, (record { each = one_stands }, tt));
      numbered = refl;
    }

pub returns-clause-tree : goal.returns-clause-tree
unfolding package_of expr_trees stmt_makers
returns-clause-tree c = refl

pub returns-clause-surface : goal.returns-clause-surface
unfolding surface_of
returns-clause-surface c = refl
