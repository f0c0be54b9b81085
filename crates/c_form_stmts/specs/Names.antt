-- Names, one after the other: whether each is new, and what the parameters and locals of a function ask.
use Rattle.std.specs.Prelude.{ℕ, Bool, true, not, ◌&&◌, List, [], ◌∷◌, ◌++◌, map, is_some}
use Rattle.c_text.specs.CTree.{ParamTree, LocalTree}
use Rattle.c_meaning.specs.CTypes.{CScope, local_name, is_known}
use Rattle.c_form_exprs.specs.Tables.{named}
use Rattle.c_meaning.specs.UnitForm.{is_among, is_library, formed_initial}

-- Each of the names is new: it is neither among the ones that were seen nor among those before it.
abbrev pub are_new : (seen names : List (List ℕ)) → Bool
are_new seen [] = true
are_new seen (name ∷ names) = not (is_among seen name) && are_new (seen ++ name ∷ []) names

-- A name of a function's own: not that of an item, as `taken` tells, or of a function of the library.
abbrev pub is_own : (taken : List ℕ → Bool) → List ℕ → Bool
is_own taken name = not (taken name) && not (is_library name)

-- A parameter or local with this name and type can be added to the scope (6.2.1, 6.7).
abbrev pub is_addable : (taken : List ℕ → Bool) → CScope → ParamTree → Bool
is_addable taken scope p = is_known scope.structs p.kind && (is_own taken p.name && not (is_among (map (λ it. it.name) scope.names) p.name))

-- The scope with one more name.
abbrev pub with_name : CScope → ParamTree → CScope
with_name scope p = record scope { names = scope.names ++ p ∷ [] }

-- The parameters, one after the other.
abbrev pub params_fit : (taken : List ℕ → Bool) → CScope → List ParamTree → Bool
params_fit taken scope [] = true
params_fit taken scope (p ∷ ps) = is_addable taken scope p && params_fit taken (with_name scope p) ps

abbrev pub with_names : CScope → List ParamTree → CScope
with_names scope ps = record scope { names = scope.names ++ ps }

-- A local can be added, and its initial value is formed.
abbrev pub is_local : (taken : List ℕ → Bool) → CScope → LocalTree → Bool
is_local taken scope l = formed_initial scope l.kind l.initial && is_addable taken scope (local_name l)

-- The locals, one after the other; an initial value knows the names before its own.
abbrev pub locals_fit : (taken : List ℕ → Bool) → CScope → List LocalTree → Bool
locals_fit taken scope [] = true
locals_fit taken scope (l ∷ ls) = is_local taken scope l && locals_fit taken (with_name scope (local_name l)) ls

-- A name of a table.
abbrev pub is_in : List (List ℕ × ℕ) → List ℕ → Bool
is_in table name = is_some (named table name)
