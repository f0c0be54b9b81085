-- In which order the statements of a method stand.
use Rattle.std.specs.Prelude.{Bool, true, ◌&&◌, ◌||◌, List, [], ◌∷◌, ◌++◌, if◌then◌else◌, nat_eq, nat_lt}
use Rattle.std.specs.List.{list_all}
use Rattle.wf_text.specs.declared.place.Place.{Place}
use Rattle.wf_ast.specs.TypedTree.{Site, Block, end, plain, choose, loop}
use Rattle.wf_ast.specs.TypedPackage.{PackageTree}

-- One place stands before another.
abbrev pub stands_before : (a b : Place) → Bool
stands_before a b = nat_lt a.file b.file || (nat_eq a.file b.file && (nat_lt a.line b.line || (nat_eq a.line b.line && nat_lt a.col b.col)))

-- Where the statements of a block stand, in written order, each before those inside it. What an `else if` stands before
-- is no statement of its own.
abbrev pub sites_in : Block → List Site
sites_in end = []
sites_in (plain site s rest) = site ∷ sites_in rest
sites_in (choose site chained c a b rest) =
    if chained then sites_in a ++ (sites_in b ++ sites_in rest) else site ∷ (sites_in a ++ (sites_in b ++ sites_in rest))
sites_in (loop site head body rest) = site ∷ (sites_in body ++ sites_in rest)

-- Each place stands before those that follow it.
abbrev pub ascend : List Site → Bool
ascend [] = true
ascend (s ∷ ss) = list_all (λ t. stands_before s.at t.at) ss && ascend ss

-- The statements of each method stand in order of place.
unfoldable pub stand_in_order : PackageTree → Bool
stand_in_order p = list_all (λ m. ascend (sites_in m.body)) p.methods
