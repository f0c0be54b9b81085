-- What the rules of bounds and of suspension points refuse of a resolved package. They are asked of its typed tree.
use Rattle.std.specs.Prelude.{ℕ, Option, option_map, option_and_then, slice_get, unwrap_or}
use Rattle.wf_text.specs.declared.place.Place.{Place}
use Rattle.wf_text.specs.declared.rules.Refusal.{Refusal}
use Rattle.wf_ast.specs.TypedTrees.{no_place}
use Rattle.wf_named.specs.NamedTree.{NamedPackageTree}
use Rattle.wf_typed_tree.specs.ElaboratedPackage.{typed_package}
use Rattle.wf_points.specs.PointNumbers.{HasTooMany}
use Rattle.wf_bounds_stmts.specs.MethodRules.{methods_refusal}

-- Where the name of a local stands, by the numbers of its method and of the local in it.
abbrev pub name_of_local : NamedPackageTree → (m n : ℕ) → Place
name_of_local p m n = unwrap_or (option_map (λ x. x.name.at) (option_and_then (λ method. slice_get method.locals n) (slice_get p.methods m))) no_place

-- B1 to B12 and L8: the first requirement that isn't met, of the methods in order and of each in the order of its
-- statements; None where all are met.
unfoldable pub bounds_refusal : NamedPackageTree → Option Refusal
bounds_refusal p = methods_refusal (name_of_local p) (typed_package p) 0 (typed_package p).methods

-- L9: each method with too many suspension points breaks it, at the first that is too many.
abbrev pub BreaksPoints : NamedPackageTree → Refusal → Type 0
BreaksPoints p = HasTooMany (typed_package p)
