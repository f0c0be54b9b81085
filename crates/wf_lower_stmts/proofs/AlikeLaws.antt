-- Statements that write to targets that are alike are alike.
use Rattle.std.proofs.Common.{◌≡◌, ℕ, true, Option, Some, None, refl, sym, ap, ◌∙◌}
use Rattle.wf_base.specs.declared.widths.Width.{Width}
use Rattle.wf_ast.specs.declared.types.Ty.TheVariants as types
use Rattle.wf_ast.specs.TypedInvariant.{is_tree_of}
use Rattle.wf_ast.specs.TypedTrees.{num_in, cond_in}
use Rattle.wf_ast.specs.TypedTree.{ValueTree, numeric, logical, state, elements, io, lost, Target, to_number, to_element, to_flag, to_status, to_slice, to_nothing}
use Rattle.c_text.specs.CTree.{ExprTree, Code}
use Rattle.wf_exprs.specs.Names.{Names}
use Rattle.wf_exprs.specs.Exprs.{given, lowered_cond}
use Rattle.wf_lower_stmts.specs.Statements.{target_code, put_into, set_place, set_value}
use Rattle.wf_lower_stmts.specs.BodyNodes.{AreAlike}

abbrev put_by : Option ExprTree → (value : ExprTree) → (rest : Code) → Code
put_by None value rest = rest
put_by (Some place) value rest = set_place place value rest

put_is : (names : Names) (t : Target) (v : ExprTree) (r : Code) → put_into names t v r ≡ put_by (target_code names t) v r
put_is names (to_number at of path) v r = refl
put_is names (to_element at of cells index) v r = refl
put_is names (to_flag at path) v r = refl
put_is names (to_status at path) v r = refl
put_is names (to_slice at bits path) v r = refl
put_is names to_nothing v r = refl

pub put_alike : (names : Names) (t u : Target) → AreAlike t u → (v : ExprTree) (r : Code) → put_into names t v r ≡ put_into names u v r
put_alike names t u h v r = put_is names t v r ∙ ap (λ x. put_by x v r) (h.single names) ∙ sym (put_is names u v r)

-- A value of each kind goes to a target.
module _ (names : Names) (target : Target) (r : Code) where
  pub set_number : (v : ValueTree) (width : Width) (lo hi : ℕ) → is_tree_of (types.Num width lo hi) v ≡ true → set_value names target v r ≡ put_into names target (given names (num_in v)) r
  set_number (numeric t) width lo hi h = refl
  set_number (logical t) width lo hi h = absurd (cc h)
  set_number (state t) width lo hi h = absurd (cc h)
  set_number (elements t) width lo hi h = absurd (cc h)
  set_number (io at a) width lo hi h = absurd (cc h)
  set_number lost width lo hi h = absurd (cc h)

  pub set_flag : (v : ValueTree) → is_tree_of types.Flag v ≡ true → set_value names target v r ≡ put_into names target (lowered_cond names (cond_in v)) r
  set_flag (numeric t) h = absurd (cc h)
  set_flag (logical t) h = refl
  set_flag (state t) h = absurd (cc h)
  set_flag (elements t) h = absurd (cc h)
  set_flag (io at a) h = absurd (cc h)
  set_flag lost h = absurd (cc h)
