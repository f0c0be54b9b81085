-- The points of an accepted package have small numbers.
use Rattle.std.proofs.Common.{◌≡◌, sym, subst, ℕ, zero, suc, ◌<◌, ◌≤◌, ◌^◌, List, [], ◌∷◌, Option, None, Some, length, refl, arith}
use Rattle.std.specs.Prelude.{slice_get, unwrap_or, option_map}
use Rattle.std.proofs.lemmas.List.Sums.{count_by-le-length}
use Rattle.wf_text.specs.declared.rules.Rule.TheVariants.{L9}
use Rattle.wf_text.specs.Precedence.{Decides}
use Rattle.wf_ast.specs.declared.typed_nodes.TypedNodes.{TypedNodes}
use Rattle.wf_ast.specs.StatementOrder.{stands_before}
use Rattle.wf_ast.specs.TypedInvariant.{IsTyped}
use Rattle.wf_ast.specs.TypedPackage.{MethodTree, package_of}
use Rattle.wf_ast.specs.TypedTree.{Site}
use Rattle.wf_meaning.specs.Remaining.{points_in, number_of}
use Rattle.wf_meaning.proofs.Numbers.{numbered}
use Rattle.wf_meaning.proofs.Order.{points_ascend}
use Rattle.wf_points.specs.PointNumbers.{HasTooMany, earlier, number_at, point_number, point_with}
use Rattle.wf_lower_stmts.specs.BodyNodes.{AreSmall}

past : (xs : List Site) (j : ℕ) → slice_get xs j ≡ None → length xs ≤ j
past [] j h = omega arith
past (x ∷ xs) zero h = absurd (cc h)
past (x ∷ xs) (suc j) h = omega (arith, past xs j h)

-- A method with no more points than it may have.
pub few_points : (nodes : TypedNodes) → IsTyped nodes → Decides (HasTooMany (package_of nodes)) None → (i : ℕ) (m : MethodTree) → slice_get (package_of nodes).methods i ≡ Some m → length (points_in m.body) ≤ 1024
few_points nodes typed few i m e = by (slice_get (points_in m.body) 1024) refl
  where
    by : (o : Option Site) → slice_get (points_in m.body) 1024 ≡ o → length (points_in m.body) ≤ 1024
    by None g = past (points_in m.body) 1024 g
    by (Some point) g =
        absurd (few (record { rule = L9; at = point.at }) (record { number = i; method = m; place = 1024; point = point; known = e; stands = g; numbered = numbered (points_in m.body) (points_ascend nodes typed i m e) 1024 point g; refused = refl }))

among : (ms : List MethodTree) → ((i : ℕ) (m : MethodTree) → slice_get ms i ≡ Some m → length (points_in m.body) ≤ 1024) → (s : ℕ) → unwrap_or (point_number ms s) 0 < 2 ^ 31
among [] few s = omega arith
among (m ∷ ms) few s = by (point_with s (points_in m.body)) (among ms (λ i n h. few (suc i) n h) s)
  where
    by : (o : Option Site) → unwrap_or (point_number ms s) 0 < 2 ^ 31 → unwrap_or (earlier (option_map (number_of m.body) o) (point_number ms s)) 0 < 2 ^ 31
    by None rest = rest
    by (Some site) rest = omega (arith, few 0 m refl, count_by-le-length (λ point. stands_before point.at site.at) (points_in m.body))

pub points_small : (nodes : TypedNodes) → IsTyped nodes → Decides (HasTooMany (package_of nodes)) None → (numbers : List (Option ℕ)) → ((s : ℕ) → number_at numbers s ≡ point_number (package_of nodes).methods s) → AreSmall numbers
points_small nodes typed few numbers same s =
    subst (λ (o : Option ℕ). unwrap_or o 0 < 2 ^ 31) (sym (same s)) (among (package_of nodes).methods (few_points nodes typed few) s)
