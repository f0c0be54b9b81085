-- From the part before to the whole: what a link stands for has the link's type.
use Rattle.std.proofs.Common.{◌≡◌, ◌≤◌, List, [], ◌∷◌, ◌++◌, Option, Some, refl, sym, ◌∙◌, ap, subst, IfSome}
use Rattle.std.specs.Option.{option_map, option_and_then}
use Rattle.c_text.specs.declared.ids.CExprId.{CExprId}
use Rattle.c_text.specs.CTree.{ExprTree, number, variable, member, element, pointed, operation, unary, cast, choice, called}
use Rattle.c_text.specs.CNodes.{Nodes, expr_of}
use Rattle.c_meaning.specs.CTypes.{CScope, type_of, held_of, held_type}
use Rattle.c_form_exprs.specs.declared.types.ExprType.{ExprType}
use Rattle.c_form_exprs.specs.declared.types.Held.{Held}
use Rattle.c_form_exprs.specs.Spines.{Spine, Climbs, link_of}
use Rattle.c_form_exprs.specs.TypeViews.{value_in, held_in, HasValue, HasHeld, TellsType, TellsHeld}
use Rattle.c_form_exprs.proofs.SpineLemmas.{spine_pop}

link_type : (scope : CScope) (e front : ExprTree) → link_of e ≡ Some front → type_of scope e ≡ option_and_then held_type (held_of scope e)
link_type scope (member of field) front is = refl
link_type scope (element of index) front is = refl
link_type scope (number n) front is = absurd (cc (is))
link_type scope (variable name) front is = absurd (cc (is))
link_type scope (pointed of) front is = absurd (cc (is))
link_type scope (operation op first second others) front is = absurd (cc (is))
link_type scope (unary op of) front is = absurd (cc (is))
link_type scope (cast to of) front is = absurd (cc (is))
link_type scope (choice test met unmet) front is = absurd (cc (is))
link_type scope (called function given) front is = absurd (cc (is))

pub climbs_on : (nodes : Nodes) (scope : CScope) (e : CExprId) (links : List CExprId) (x : CExprId) (found next : Option ExprType) (held : Option Held) → Climbs nodes scope e (links ++ x ∷ []) found → ((front : ExprTree) → link_of (expr_of nodes x.0) ≡ Some front → option_map (value_in nodes.names) found ≡ type_of scope front → TellsHeld nodes held (held_of scope (expr_of nodes x.0))) → TellsType nodes next (option_and_then held_type (option_map (held_in nodes.names) held)) → Climbs nodes scope e links next
climbs_on nodes scope e links x found next held h linked is =
    let popped = spine_pop nodes e links x h.at h.spine in
    let told = linked (expr_of nodes h.at.0) popped.link.is h.told.0 in
    let whole : type_of scope (expr_of nodes x.0) ≡ option_and_then held_type (option_map (held_in nodes.names) held) = link_type scope (expr_of nodes x.0) (expr_of nodes h.at.0) popped.link.is ∙ ap (option_and_then held_type) (sym told.0) in
    record { at = x; spine = popped.spine; told = rw whole is }

-- The link that comes next has a number that isn't above the whole's, and stands for what its tree does.
pub climbs_below : (nodes : Nodes) (scope : CScope) (e : CExprId) (whole links : List CExprId) (x : CExprId) (found : Option ExprType) → whole ≡ links ++ x ∷ [] → Climbs nodes scope e whole found → x.0 ≤ e.0
climbs_below nodes scope e whole links x found is h = (spine_pop nodes e links x h.at (subst (λ (xs : List CExprId). Spine nodes e xs h.at) is h.spine)).below

pub climbs_told : (nodes : Nodes) (scope : CScope) (e : CExprId) (links : List CExprId) (found : Option ExprType) → Climbs nodes scope e links found → IfSome found (HasValue nodes)
climbs_told nodes scope e links found h = h.told.1

pub climbs_held : (nodes : Nodes) (scope : CScope) (e : CExprId) (whole links : List CExprId) (x : CExprId) (found : Option ExprType) (held : Option Held) → whole ≡ links ++ x ∷ [] → Climbs nodes scope e whole found → ((front : ExprTree) → link_of (expr_of nodes x.0) ≡ Some front → option_map (value_in nodes.names) found ≡ type_of scope front → TellsHeld nodes held (held_of scope (expr_of nodes x.0))) → IfSome held (HasHeld nodes)
climbs_held nodes scope e whole links x found held is h linked =
    let popped = spine_pop nodes e links x h.at (subst (λ (xs : List CExprId). Spine nodes e xs h.at) is h.spine) in
    (linked (expr_of nodes h.at.0) popped.link.is h.told.0).1

pub climbs_next : (nodes : Nodes) (scope : CScope) (e : CExprId) (whole links : List CExprId) (x : CExprId) (found next : Option ExprType) (held : Option Held) → whole ≡ links ++ x ∷ [] → Climbs nodes scope e whole found → ((front : ExprTree) → link_of (expr_of nodes x.0) ≡ Some front → option_map (value_in nodes.names) found ≡ type_of scope front → TellsHeld nodes held (held_of scope (expr_of nodes x.0))) → TellsType nodes next (option_and_then held_type (option_map (held_in nodes.names) held)) → Climbs nodes scope e links next
climbs_next nodes scope e whole links x found next held is h = climbs_on nodes scope e links x found next held (subst (λ (xs : List CExprId). Climbs nodes scope e xs found) is h)
