-- The points of a block with their trails are those of the source's meaning.
use Rattle.std.proofs.Common.{◌≡◌, ℕ, Bool, true, false, ◌&&◌, Option, Some, None, refl, nat_eq}
use Rattle.std.specs.Prelude.{option_map, if◌then◌else◌}
use Rattle.wf_ast.specs.TypedTree.{Site, Block, end, plain, choose, loop}
use Rattle.wf_meaning.specs.Remaining.{Items, is_point, first}
use Rattle.wf_lower_stmts.specs.Lower.{Trail, within_if, in_loop, Point, first_point, items_of}
use Rattle.wf_lower_stmts.specs.Laws.{PointsAgree}

firsts : (a b : Option Point) → option_map items_of (first_point a b) ≡ first (option_map items_of a) (option_map items_of b)
firsts None b = refl
firsts (Some it) b = refl

both_firsts : (a b : Option Point) (x y : Option Items) → option_map items_of a ≡ x → option_map items_of b ≡ y
    → option_map items_of (first_point a b) ≡ first x y
both_firsts a b x y h k = cc (firsts a b, h, k)

here_or : (test : Bool) (it : Point) (p : Option Point) (x : Option Items) → option_map items_of p ≡ x
    → option_map items_of (if test then Some it else p) ≡ (if test then Some (items_of it) else x)
here_or true it p x h = refl
here_or false it p x h = h

pub points_agree : (n : Site → ℕ) (k : ℕ) (b : Block) (t : Trail) → PointsAgree n k b t
points_agree n k end t = refl
points_agree n k (plain site s rest) t =
    here_or (is_point s && nat_eq (n site) k) (record { site = site; statement = s; rest = rest; trail = t }) _ _ (points_agree n k rest t)
points_agree n k (choose site chained c a b rest) t =
    both_firsts _ _ _ _ (points_agree n k a (within_if b rest t))
    (both_firsts _ _ _ _ (points_agree n k b (within_if end rest t)) (points_agree n k rest t))
points_agree n k (loop site head body rest) t =
    both_firsts _ _ _ _ (points_agree n k body (in_loop site head body rest t)) (points_agree n k rest t)
