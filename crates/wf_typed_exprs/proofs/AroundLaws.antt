-- What stands round the body of a method in a package that breaks no rule.
use Rattle.std.proofs.Common.{◌≡◌, ℕ, zero, suc, ◌+◌, true, ◌&&◌, List, [], ◌∷◌, length, Some, None, refl, subst}
use Rattle.std.specs.Prelude.{slice_get}
use Rattle.wf_ast.specs.declared.types.Ty.{Ty}
use Rattle.wf_named.specs.NamedTree.{NamedTypeTree, VarTree, NamedMethodTree, NamedPackageTree}
use Rattle.wf_named.specs.WellNamed.{well_named, fields_in, scope_of_method}
use Rattle.wf_types_rules.specs.declared.settings.Role.{Role}
use Rattle.wf_types_rules.specs.declared.settings.Role.TheVariants as roles
use Rattle.wf_types_rules.specs.declared.settings.Setting.{Setting}
use Rattle.wf_types_rules.specs.ExprTypes.{written}
use Rattle.wf_types_rules.specs.DeclaredTypes.{may_be, is_zero_kept, if_allowed, declared, for_types, types_in, in_method}
use Rattle.wf_types_rules.specs.FirstBreak.{deciding}
use Rattle.wf_typed_tree.specs.ElaboratedPackage.{context_of}
use Rattle.wf_typed_tree.specs.MeaningTrees.{Agree}
use Rattle.wf_typed_tree.proofs.NumberLemmas.{both, then-parts, where-parts}
use Rattle.wf_typed_tree.proofs.Agreement.{package-is, method-is, method-agrees}
use Rattle.wf_typed_exprs.specs.Right.{MayStand, Around}

declared_may : (s : Setting) (role : Role) (t : NamedTypeTree) (ty : Ty) → declared s role t ≡ Some ty → may_be role ty ≡ true
declared_may s role t ty h =
    let it = then-parts (if_allowed role) (written s t) ty h in
    let test = where-parts (may_be role it.of && is_zero_kept role it.of) it.of ty it.gives in
    subst (λ u. may_be role u ≡ true) test.1 (both (may_be role it.of) (is_zero_kept role it.of) test.0).0

types_may : (p : NamedPackageTree) (role : Role) (xs : List VarTree) → MayStand role (types_in p role xs)
types_may p role [] n ty h = absurd (cc h)
types_may p role (x ∷ xs) zero ty h = declared_may (for_types p) role x.of ty h
types_may p role (x ∷ xs) (suc n) ty h = types_may p role xs n ty h

pub agreed : (p : NamedPackageTree) → deciding p ≡ None → well_named p ≡ true → (i : ℕ) (m : NamedMethodTree) → slice_get p.methods i ≡ Some m
    → Agree (scope_of_method p m) (in_method p m) (context_of p 0 m)
agreed p none named i m e = method-agrees p 0 m (method-is p (package-is p none named) i m e)

pub fields_may : (p : NamedPackageTree) (m : NamedMethodTree) → MayStand roles.Field (in_method p m).fields
fields_may p m = types_may p roles.Field (fields_in p (Some m.of))

pub args_may : (p : NamedPackageTree) (m : NamedMethodTree) → MayStand roles.Arg (in_method p m).args
args_may p m = types_may p roles.Arg m.args

pub locals_may : (p : NamedPackageTree) (m : NamedMethodTree) → MayStand roles.Local (in_method p m).locals
locals_may p m = types_may p roles.Local m.locals

pub body_is_right : (p : NamedPackageTree) → deciding p ≡ None → well_named p ≡ true → (i : ℕ) (m : NamedMethodTree) → slice_get p.methods i ≡ Some m
    → Around (in_method p m) (10 + length p.statuses)
body_is_right p none named i m e = record {
  names = scope_of_method p m;
  context = context_of p 0 m;
  agree = agreed p none named i m e;
  fields = fields_may p m;
  args = args_may p m;
  locals = locals_may p m;
  told = refl;
}
